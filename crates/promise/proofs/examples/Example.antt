-- Document 01's example, "on D 4, U 2, C 32, B 64, L 2": its geometry, what a format and a write of five sectors leave, and what a cut
-- may keep of it. Cases.antt, AnswerCases.antt and ClaimExample.antt compute with it.
use Rattle.std.specs.Prelude.{Bool, true, ℕ, ◌+◌, ◌*◌, min, List, [], ◌∷◌, length, get_or, replicate, eqb}
use Rattle.tables.specs.meaning.Basics.{pick}
use Rattle.tables.specs.meaning.Drives.{no_drive}
use Rattle.tables.specs.meaning.Device.{Device, blank_zone, put_zone, keep_first}
use Rattle.tables.specs.declared.Geometry.{Geometry}
use Rattle.tables.specs.meaning.Geometry.{geometry_of}
use Rattle.volume.specs.meaning.State.{StateView, with_shares}
use Rattle.volume.specs.meaning.Hosts.{fresh_shares}
use Rattle.volume.specs.meaning.Refusals.{TableLengths, WriteAsked}
use Rattle.volume.specs.meaning.Calls.{format_state}
use Rattle.volume.specs.meaning.Answers.{CallResult, StoringCall, carried_out, Given, refused, given, format_call, write_call}
use Rattle.volume.specs.meaning.CallContracts.{answer_number}
use Rattle.promise.specs.meaning.Claim.{Call, writes}

abbrev pub geo : Geometry
geo = geometry_of 4 64 2 2 32

abbrev pub lengths : TableLengths
lengths = record { sectors = 40960; written = 20; durable = 20 }

abbrev pub every : ℕ → Bool
every d = true

-- "A count of 2^32 − 1 stops no call"
abbrev pub no_stop : ℕ
no_stop = 4294967295

-- a storing call by a host that holds a state, with a count of stores
abbrev pub does : (Device → StoringCall) → StateView → ℕ → Device → CallResult Device StateView
does c old stop v = carried_out (c v) old stop v

-- the number of its answer, and of one that gives something (0: finished)
abbrev pub number_of : CallResult Device StateView → ℕ
number_of r = answer_number r.answer

abbrev pub given_number : {A : Type 0} → Given A → ℕ
given_number (refused n) = n
given_number (given x) = 0

abbrev pub blank : Device
blank d z = blank_zone

-- what a format leaves
abbrev pub after_format : CallResult Device StateView
after_format = does (format_call geo lengths every 7) (format_state no_drive) no_stop blank

abbrev pub formatted : Device
formatted = after_format.memory

-- with a share of twelve sectors of each drive's parity log for each host
abbrev pub formatted_state : StateView
formatted_state = with_shares (fresh_shares geo every) (format_state no_drive)

-- n sectors of bytes b
abbrev pub bytes : ℕ → ℕ → List ℕ
bytes n b = replicate (n * 64) b

-- a write of them at address a, by host h
abbrev pub asked : ℕ → ℕ → ℕ → ℕ → WriteAsked
asked h a n b = record { host = h; address = a; count = n; buffer = bytes n b }

abbrev pub writing : ℕ → ℕ → ℕ → Call
writing a n b = writes (asked 0 a n b)

-- after a write of the first n sectors of zone 0
abbrev pub written_state : ℕ → StateView
written_state n = (does (write_call geo lengths every formatted_state (asked 0 0 n 9)) formatted_state no_stop formatted).state

abbrev pub written_device : ℕ → Device
written_device n = (does (write_call geo lengths every formatted_state (asked 0 0 n 9)) formatted_state no_stop formatted).memory

-- what a cut keeps: of each drive's zone 3, and of the parity logs
abbrev pub kept : List ℕ → ℕ → Device → Device
kept ks p v d y = pick (eqb y 3) (keep_first (get_or ks d 0) (v d y)) (pick (eqb y 1) (keep_first (min p (length (v d y).sectors)) (v d y)) (v d y))

-- n sectors s in zone z of drive d
abbrev pub filled : ℕ → ℕ → ℕ → List ℕ → Device
filled d z n s = put_zone formatted d z (record { sectors = replicate n s; durable = n })

-- after writes of so many sectors each by host 0, one behind the other from address a on, each of bytes that are its address
abbrev pub written_on : List ℕ → ℕ → CallResult Device StateView → CallResult Device StateView
written_on [] a r = r
written_on (n ∷ ns) a r = written_on ns (a + n) (does (write_call geo lengths every r.state (asked 0 a n a)) r.state no_stop r.memory)

-- after writes to zone 1, in its stripes 3 and 7: with two sectors left of host 0's share of drive 3's parity log, and with one
abbrev pub two_left : CallResult Device StateView
two_left = written_on (18 ∷ 1 ∷ 1 ∷ 1 ∷ 22 ∷ []) 96 after_format

abbrev pub one_left : CallResult Device StateView
one_left = written_on (18 ∷ 1 ∷ 1 ∷ 1 ∷ 1 ∷ []) 96 after_format
