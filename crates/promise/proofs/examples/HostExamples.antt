-- How many zones a host may hold open, worked on a shelf with 16 zones: "A mixing desk (host 0) may hold 14 zones open, a small dubbing desk (host 1) 4; the drives allow
-- 14 in all." Each row is computed from the definitions, from a finished format on.
use Rattle.std.specs.Prelude.{◌≡◌, refl, Bool, true, false, ◌&&◌, ℕ, zero, suc, ◌+◌, ◌*◌, List, [], ◌∷◌, ◌++◌, replicate, eqb, T}
use Rattle.tables.specs.meaning.Device.{Device}
use Rattle.tables.specs.meaning.Drives.{no_drive}
use Rattle.tables.specs.declared.Geometry.{Geometry}
use Rattle.tables.specs.meaning.Geometry.{geometry_of}
use Rattle.tables.specs.laws.Below.{count_below_none}
use Rattle.volume.specs.meaning.State.{StateView}
use Rattle.volume.specs.meaning.Hosts.{counts, counts_to, zones_of}
use Rattle.volume.specs.meaning.Mount.{shown_state}
use Rattle.volume.specs.meaning.Answers.{CallResult}
use Rattle.volume.specs.meaning.CallContracts.{answer_number}
use Rattle.promise.specs.meaning.Claim.{Call, mounts, writes, resets, all_but}
use Rattle.promise.proofs.examples.IsolationRuns.{runs_open, shelf, no_stop, formatting}

-- stripes of two sectors, zones of 70
abbrev geo : Geometry
geo = geometry_of 3 256 1 16 35

-- n sectors to zone z, from its sector a on
abbrev put : ℕ → ℕ → ℕ → ℕ → Call  -- host
put h z a n = writes (record { host = h; address = z * 70 + a; count = n; buffer = replicate (n * 256) 1 })

-- a write that opens zone z; one stripe more; a write of the whole zone
abbrev opens : ℕ → ℕ → Call  -- host
opens h z = put h z 0 2

abbrev goes_on : ℕ → ℕ → Call
goes_on h z = put h z 2 2

abbrev fills : ℕ → ℕ → Call
fills h z = put h z 0 70

-- n zones opened, from zone z on
abbrev opened : ℕ → ℕ → ℕ → List Call  -- host; zone
opened h z zero = []
opened h z (suc n) = opens h z ∷ opened h (suc z) n

-- ten of host 0 and four of host 1
abbrev fourteen : List Call
fourteen = opened 1 0 4 ++ opened 0 4 10

-- ---- after a format and these calls, one more
abbrev calling : CallResult Device StateView → Call → CallResult Device StateView
calling r c = (shelf geo).call c (all_but no_drive) r.state no_stop r.memory

abbrev after : CallResult Device StateView → List Call → CallResult Device StateView
after r [] = r
after r (c ∷ cs) = after (calling r c) cs

pub record Row : Type 0 where
  pub before : List Call
  pub asked : Call
  pub number : ℕ  -- of its answer

abbrev row : List Call → Call → ℕ → Row
row cs c n = record { before = cs; asked = c; number = n }

pub limit_rows : List Row
limit_rows =
    -- host 1 holds three, four: a fifth is refused, one that it holds is not, nor a zone that it fills
    row (opened 1 0 3) (opens 1 3) 0
    ∷ row (opened 1 0 4) (opens 1 4) 18
    ∷ row (opened 1 0 4) (goes_on 1 3) 0
    ∷ row (opened 1 0 4) (fills 1 4) 0
    -- host 0 holds 14
    ∷ row (opened 0 0 13) (opens 0 13) 0
    ∷ row (opened 0 0 14) (opens 0 14) 18
    ∷ row (opened 0 0 14) (fills 0 14) 0
    -- both together 14
    ∷ row fourteen (opens 0 14) 19
    ∷ row (opened 1 0 3 ++ opened 0 3 11) (opens 1 14) 19
    ∷ row fourteen (opens 1 14) 18
    ∷ row fourteen (fills 0 14) 0
    ∷ row fourteen (fills 1 14) 0
    ∷ row fourteen (goes_on 0 13) 0
    -- a zone counts to the host that last wrote it
    ∷ row (opened 0 0 1 ++ opened 1 1 4) (goes_on 1 0) 18
    ∷ row (opened 1 0 4 ++ (goes_on 0 0 ∷ [])) (opens 1 4) 0
    -- while it is open with its pointer below its end
    ∷ row (opened 1 0 3 ++ (fills 1 3 ∷ [])) (opens 1 4) 0
    ∷ row (opened 1 0 4 ++ (resets 3 ∷ [])) (opens 1 4) 0
    -- and to none after a mount: host 1 may write four anew, and the drives allow no more than before
    ∷ row (opened 1 0 4 ++ (mounts ∷ opened 1 4 3)) (goes_on 1 0) 0
    ∷ row (opened 1 0 4 ++ (mounts ∷ opened 1 4 4)) (goes_on 1 0) 18
    ∷ row (fourteen ++ (mounts ∷ [])) (goes_on 1 13) 0
    ∷ row (fourteen ++ (mounts ∷ [])) (opens 0 14) 19
    -- there are two hosts
    ∷ row [] (opens 2 0) 8
    ∷ []

abbrev holds : Row → Bool
holds r = eqb (answer_number (calling (after (formatting geo) r.before) r.asked).answer) r.number

abbrev all_hold : List Row → Bool
all_hold [] = true
all_hold (r ∷ rs) = holds r && all_hold rs

pub limits_hold : T (all_hold limit_rows)
unfolding runs_open limit_rows
limits_hold = tt

-- ---- after any mount no zone counts to a host
and_false : (b : Bool) → b && false ≡ false
and_false true = refl
and_false false = refl

pub none_after_mount : (g : Geometry) (present : ℕ → Bool) (x : ℕ) (v : Device) (h : ℕ) → zones_of g (shown_state g present x v) h ≡ 0
unfolding zones_of
none_after_mount g present x v h = let state = shown_state g present x v in count_below_none (counts_to g state h) g.zones (λ z b. and_false (counts g state z))
