-- The view of a device, over which all rules compute: of each drive and physical zone the sectors below the written pointer, and how
-- many of them are durable. Stores change it; a power cut keeps at least what is durable. Places outside the geometry are blank.
-- The cut is defined here and, for the flat tables, in Tables: nowhere else.
use Rattle.std.specs.Prelude.{◌≡◌, ◌≢◌, ◌&&◌, ℕ, zero, ◌≤◌, List, [], ◌∷◌, ◌++◌, length, take, eqb}
use Rattle.tables.specs.meaning.Basics.{pick}

-- ---- definitions
pub record ZoneView : Type 0 where
  pub sectors : List (List ℕ)  -- below the written pointer
  pub durable : ℕ  -- how many of them survive a cut

-- of each drive and physical zone
abbrev pub Device : Type 0
Device = ℕ → ℕ → ZoneView

-- a store: append one sector to a drive's zone; reset one; flush a drive
pub data Store : Type 0 where
  append : ℕ → ℕ → List ℕ → Store
  reset : ℕ → ℕ → Store
  flush : ℕ → Store

abbrev pub store_drive : Store → ℕ
store_drive (append d z s) = d
store_drive (reset d z) = d
store_drive (flush d) = d

-- what each store makes of a zone
abbrev pub appended : List ℕ → ZoneView → ZoneView
appended s v = record { sectors = v.sectors ++ (s ∷ []); durable = v.durable }

abbrev pub blank_zone : ZoneView
blank_zone = record { sectors = []; durable = zero }

abbrev pub flushed : ZoneView → ZoneView
flushed v = record { sectors = v.sectors; durable = length v.sectors }

-- v with x in place of drive d's zone z
abbrev pub put_zone : Device → ℕ → ℕ → ZoneView → Device
put_zone v d z x e y = pick (eqb e d && eqb y z) x (v e y)

abbrev pub apply : Store → Device → Device
apply (append d z s) v = put_zone v d z (appended s (v d z))
apply (reset d z) v = put_zone v d z blank_zone
apply (flush d) v = λ e y. pick (eqb e d) (flushed (v e y)) (v e y)

abbrev pub apply_all : List Store → Device → Device
apply_all [] v = v
apply_all (x ∷ xs) v = apply_all xs (apply x v)

-- ---- a cut: each zone keeps some first sectors, at least the durable ones, and all of them are durable then
abbrev pub keep_first : ℕ → ZoneView → ZoneView
keep_first n a = record { sectors = take n a.sectors; durable = n }

pub record ZoneCut (a b : ZoneView) : Type 0 where
  pub kept : ℕ
  pub least : a.durable ≤ kept
  pub most : kept ≤ length a.sectors
  pub is : b ≡ keep_first kept a

-- of every drive but x, the lost one: what becomes of a lost drive's memory is open
unfoldable pub Cut : ℕ → Device → Device → Type 0
Cut x v w = (d z : ℕ) → d ≢ x → ZoneCut (v d z) (w d z)

-- ---- the loss of drive x: what becomes of its memory is open, the rest stays
unfoldable pub Loss : ℕ → Device → Device → Type 0
Loss x v w = (d z : ℕ) → d ≢ x → w d z ≡ v d z
