-- What the hosts hold between calls: the drive that is lost; of each zone its generation, its condition and its owner; of each drive what is left of
-- the hosts' shares. Document 01: "A zone's condition is carried inside its zone record as empty, open with its pointer, sealed with its pointer, or
-- worn with its pointer." `Condition` and `Owner` are the code's own enums.
use Rattle.std.specs.Prelude.{Bool, true, false, ◌&&◌, not, ℕ, zero, ◌+◌, ◌*◌, ltb, eqb}
use Rattle.volume.specs.declared.Condition.{Condition}
use Rattle.volume.specs.declared.Condition.TheVariants.{Empty, Open, Sealed, Worn}
use Rattle.volume.specs.declared.Owner.{Owner}
use Rattle.volume.specs.declared.Owner.TheVariants.{Nobody, Host0, Host1}
use Rattle.tables.specs.meaning.Basics.{pick}
use Rattle.tables.specs.declared.Geometry.{Geometry}

-- the zone's write pointer: how many sectors it shows
abbrev pub pointer_in : Condition → ℕ
pointer_in Empty = zero
pointer_in (Open n) = n
pointer_in (Sealed n) = n
pointer_in (Worn n) = n

abbrev pub is_empty : Condition → Bool
is_empty Empty = true
is_empty (Open n) = false
is_empty (Sealed n) = false
is_empty (Worn n) = false

abbrev pub is_sealed : Condition → Bool
is_sealed Empty = false
is_sealed (Open n) = false
is_sealed (Sealed n) = true
is_sealed (Worn n) = false

abbrev pub is_worn : Condition → Bool
is_worn Empty = false
is_worn (Open n) = false
is_worn (Sealed n) = false
is_worn (Worn n) = true

-- ---- a condition's number, wherever one is told: in the bytes of a state, in a script's lines
abbrev pub condition_number : Condition → ℕ
condition_number Empty = 0
condition_number (Open n) = 1
condition_number (Sealed n) = 2
condition_number (Worn n) = 3

-- and back, with a pointer
abbrev pub condition_of_number : ℕ → ℕ → Condition
condition_of_number k p = pick (eqb k 1) (Open p) (pick (eqb k 2) (Sealed p) (pick (eqb k 3) (Worn p) Empty))

-- ---- a zone's owner: the host that last wrote it (the readings' mark), or nobody
abbrev pub owner_of : ℕ → Owner  -- the host
owner_of h = pick (eqb h 0) Host0 Host1

abbrev pub is_owner : ℕ → Owner → Bool
is_owner h Nobody = false
is_owner h Host0 = eqb h 0
is_owner h Host1 = eqb h 1

-- its number in the bytes of a state, and back
abbrev pub owner_number : Owner → ℕ
owner_number Nobody = 0
owner_number Host0 = 1
owner_number Host1 = 2

abbrev pub owner_of_number : ℕ → Owner
owner_of_number k = pick (eqb k 1) Host0 (pick (eqb k 2) Host1 Nobody)

-- ---- two hosts; a host's share of a drive's parity log is one of at most 16
abbrev pub hosts : ℕ
hosts = 2

abbrev pub max_shares : ℕ
max_shares = 16

abbrev pub share_at : ℕ → ℕ → ℕ  -- drive; host
share_at d h = d * hosts + h

pub record StateView : Type 0 where
  pub lost : ℕ  -- or no_drive
  pub generation : ℕ → ℕ
  pub condition : ℕ → Condition
  pub owner : ℕ → Owner
  pub share : ℕ → ℕ  -- what is left of host h's share of drive d's parity log, at `share_at d h`

-- the same with other shares
abbrev pub with_shares : (ℕ → ℕ) → StateView → StateView
with_shares share s = record { lost = s.lost; generation = s.generation; condition = s.condition; owner = s.owner; share = share }

-- the drives of a call that is handed a state: named, and not lost in the state. (Look and mount go by the labels: Rules.antt, rule 1.)
unfoldable pub call_present : Geometry → (ℕ → Bool) → StateView → ℕ → Bool
call_present g named state d = ltb d g.drives && (named d && not (eqb d state.lost))

-- f, but x at z
abbrev pub set_at {ℓ} : {A : Type ℓ} → (ℕ → A) → ℕ → A → ℕ → A
set_at f z x y = pick (eqb y z) x (f y)
