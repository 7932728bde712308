-- What rules 3 to 5 ask of the general logs: whether a zone has a current reset, and its least current seal. Devices that answer alike, with the same
-- parity entries and data on the present drives, show the zone at the same pointer with the same values. And what it is for two devices to show
-- the same (reading 15), whichever drives are named.
use Rattle.std.specs.Prelude.{◌≡◌, refl, ◌⊎◌, Bool, true, false, ◌&&◌}
use Rattle.std.proofs.Common.{sym, ◌∙◌, inl, inr}
use Rattle.std.proofs.Math.Path.{ap, ap₂}
use Prim.Native.Nat.{ℕ, zero, suc, ◌+◌, ◌<◌, min}
use mathlib.Core.List.{List, []}
use Rattle.std.proofs.Math.ListN.{length, get_or}
use Rattle.tables.specs.meaning.Basics.{pick}
use Rattle.tables.specs.meaning.Below.{any_below}
use Rattle.tables.specs.meaning.Lists.{any_of}
use Rattle.tables.specs.meaning.Device.{Device}
use Rattle.tables.specs.meaning.Drives.{no_drive}
use Rattle.tables.specs.declared.Geometry.{Geometry}
use Rattle.tables.specs.meaning.Geometry.{Valid, zone_sectors, data_zone}
use Rattle.logs.specs.meaning.Heads.{is_reset, least_seal}
use Rattle.volume.specs.meaning.Rules.{known_prefix, general_heads, parity_entries, generation_of, reset_seen, seal_limit_below, seal_limit, serving_entries, view_of, zone_view, value_at, pointer_at}
use Rattle.volume.specs.laws.Depends.{prefix_same, value_same}
use Rattle.promise.proofs.invariant.Invariant.{Here}
use Rattle.promise.proofs.invariant.CrashKeeps.{present_before}

-- ---- the drives that demand 3 allows to be named: the present ones, or these but one
abbrev pub NamedBut : Geometry → ℕ → ℕ → Type 0
NamedBut g x y = (y ≡ x) ⊎ ((x ≡ no_drive) × (y < g.drives))

pub named_here : (g : Geometry) → Valid g → (x y : ℕ) → NamedBut g x y → (d : ℕ) → Here g y d → Here g x d
named_here g ok x y (inl e) d a = rw (← e) a
named_here g ok x y (inr (e, h)) d a = present_before g ok x y (inl e) d a

-- ---- v and w show zone z at the same pointer, with the same sectors
pub record ShowsSame (g : Geometry) (present : ℕ → Bool) (v w : Device) (z : ℕ) : Type 0 where
  pub pointer : pointer_at g present w z (generation_of g present w z) ≡ pointer_at g present v z (generation_of g present v z)
  pub values : (a : ℕ) → a < pointer_at g present v z (generation_of g present v z) → value_at g present w z (generation_of g present w z) a ≡ value_at g present v z (generation_of g present v z) a

pub shows_trans : (g : Geometry) (present : ℕ → Bool) (u v w : Device) (z : ℕ) → ShowsSame g present u v z → ShowsSame g present v w z → ShowsSame g present u w z
shows_trans g present u v w z p q = record { pointer = q.pointer ∙ p.pointer; values = λ a h. q.values a (rw p.pointer h) ∙ p.values a h }

-- ---- v and w answer alike of zone z under generation n
pub record AskedSame (g : Geometry) (present : ℕ → Bool) (v w : Device) (z n : ℕ) : Type 0 where
  pub resets : (d : ℕ) → present d ≡ true → any_of (is_reset z n) (general_heads g v d) ≡ any_of (is_reset z n) (general_heads g w d)
  pub seals : (d : ℕ) → present d ≡ true → (q : ℕ) → least_seal z n q (general_heads g v d) ≡ least_seal z n q (general_heads g w d)
  pub entries : (d : ℕ) → present d ≡ true → parity_entries g v d ≡ parity_entries g w d
  pub sectors : (d : ℕ) → present d ≡ true → (v d (data_zone z)).sectors ≡ (w d (data_zone z)).sectors

and_same : (p a b : Bool) → (p ≡ true → a ≡ b) → p && a ≡ p && b
and_same true a b h = h refl
and_same false a b h = refl

pick_one : {A : Type 0} (p : Bool) (a b c e : A) → (p ≡ true → a ≡ b) → c ≡ e → pick p a c ≡ pick p b e
pick_one true a b c e h k = h refl
pick_one false a b c e h k = k

limit_below : (g : Geometry) (present : ℕ → Bool) (v w : Device) (z n : ℕ) → ((d : ℕ) → present d ≡ true → (q : ℕ) → least_seal z n q (general_heads g v d) ≡ least_seal z n q (general_heads g w d)) → (d : ℕ) → seal_limit_below g present v z n d ≡ seal_limit_below g present w z n d
limit_below g present v w z n h zero = refl
limit_below g present v w z n h (suc d) =
    let a = seal_limit_below g present v z n d in
    let b = seal_limit_below g present w z n d in
    pick_one (present d) (least_seal z n a (general_heads g v d)) (least_seal z n b (general_heads g w d)) a b (λ p. h d p a ∙ ap (λ (q : ℕ). least_seal z n q (general_heads g w d)) (limit_below g present v w z n h d)) (limit_below g present v w z n h d)

pub seal_limit_same : (g : Geometry) (present : ℕ → Bool) (v w : Device) (z n : ℕ) → ((d : ℕ) → present d ≡ true → (q : ℕ) → least_seal z n q (general_heads g v d) ≡ least_seal z n q (general_heads g w d)) → seal_limit g present v z n ≡ seal_limit g present w z n
unfolding seal_limit
seal_limit_same g present v w z n h = limit_below g present v w z n h g.drives

module _ (g : Geometry) (present : ℕ → Bool) (v w : Device) (z n : ℕ) (s : AskedSame g present v w z n) where
  pub reset_same : reset_seen g present v z n ≡ reset_seen g present w z n
  unfolding reset_seen
  reset_same i = any_below (λ d. and_same (present d) (any_of (is_reset z n) (general_heads g v d)) (any_of (is_reset z n) (general_heads g w d)) (s.resets d) i) g.drives

  limit_same : seal_limit g present v z n ≡ seal_limit g present w z n
  limit_same = seal_limit_same g present v w z n s.seals

  pub asked_value : (a : ℕ) → value_at g present v z n a ≡ value_at g present w z n a
  unfolding value_at zone_view view_of
  asked_value a =
      value_same g.drives g.unit z (zone_view g present v z n) (zone_view g present w z n) (λ d. refl) (λ d p. ap (λ (ss : List (List ℕ)). length ss) (s.sectors d p)) (λ d x p. ap (λ (ss : List (List ℕ)). get_or ss x []) (s.sectors d p))
      (λ d p. ap₂ (serving_entries g z n) limit_same (s.entries d p)) a

  pub asked_pointer : pointer_at g present v z n ≡ pointer_at g present w z n
  unfolding pointer_at zone_view view_of
  asked_pointer i =
      pick (reset_same i) zero (min (prefix_same g.drives g.unit z (zone_view g present v z n) (zone_view g present w z n) (λ d. refl) (λ d p. ap (λ (ss : List (List ℕ)). length ss) (s.sectors d p)) (λ d x p. ap (λ (ss : List (List ℕ)). get_or ss x []) (s.sectors d p))
      (λ d p. ap₂ (serving_entries g z n) limit_same (s.entries d p)) (zone_sectors g) i) (limit_same i))
