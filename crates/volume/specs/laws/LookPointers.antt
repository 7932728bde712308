-- A zone's pointer is within the zone, and all below it is known (rules 3, 5 and 6); so it is in what the look of a mount shows, where a zone that a reset emptied is
-- not sealed.
use Rattle.std.specs.Prelude.{◌≡◌, refl, Bool, eqb}
use Rattle.std.proofs.Common.{sym, arith, eq-eqb}
use Rattle.std.proofs.Math.Bool.{true, false}
use Prim.Native.Nat.{ℕ, ◌≤◌, zero, ◌<◌, min, zero-le}
use Rattle.tables.specs.declared.Geometry.{Geometry}
use Rattle.tables.specs.meaning.Basics.{pick}
use Rattle.tables.specs.meaning.Geometry.{zone_sectors}
use Rattle.tables.specs.meaning.Device.{Device}
use Rattle.tables.specs.laws.Greatest.{greatest_le, greatest_all}
use Rattle.logs.specs.meaning.Entry.{worn_generation}
use Rattle.volume.specs.declared.Condition.TheVariants.{Empty, Worn}
use Rattle.volume.specs.meaning.State.{is_sealed}
use Rattle.volume.specs.meaning.Rules.{pointer_at, clean_at, seal_seen, generation_of, condition_of, zone_at, zone_shown, showing, known, zone_view, known_prefix, seal_limit, reset_seen}
use Rattle.volume.specs.meaning.Mount.{mount_view, mount_look}
use Rattle.volume.specs.looking.ZoneLooking.{pointer_reset}

-- ---- rules 3, 5 and 6
module _ (g : Geometry) (present : ℕ → Bool) (v : Device) (z n : ℕ) where
  pub pointer_within : pointer_at g present v z n ≤ zone_sectors g
  unfolding pointer_at
  pointer_within = go (reset_seen g present v z n)
    where
      go : (b : Bool) → pick b zero (min (known_prefix g.drives g.unit z (zone_view g present v z n) (zone_sectors g)) (seal_limit g present v z n)) ≤ zone_sectors g
      go true = zero-le
      go false = omega (arith, greatest_le (known g.drives g.unit z (zone_view g present v z n)) (zone_sectors g))

  -- all that is below the pointer is known
  pub below_known : (a : ℕ) → a < pointer_at g present v z n → known g.drives g.unit z (zone_view g present v z n) a ≡ true
  unfolding pointer_at
  below_known a = go (reset_seen g present v z n)
    where
      go : (b : Bool) → a < pick b zero (min (known_prefix g.drives g.unit z (zone_view g present v z n) (zone_sectors g)) (seal_limit g present v z n)) → known g.drives g.unit z (zone_view g present v z n) a ≡ true
      go true h = absurd (omega arith)
      go false h = greatest_all (known g.drives g.unit z (zone_view g present v z n)) (zone_sectors g) a (omega arith)

-- ---- a mount's look
-- a zone shown with pointer 0 is not sealed
zero_not_sealed : (n q : ℕ) (clean has_seal : Bool) → q ≡ 0 → is_sealed (condition_of n q clean has_seal) ≡ false
zero_not_sealed n q clean has_seal e = rw (eq-eqb q 0 e) (go (eqb n worn_generation))
  where
    go : (b : Bool) → is_sealed (pick b (Worn q) Empty) ≡ false
    go true = refl
    go false = refl

module _ (g : Geometry) (present : ℕ → Bool) (x : ℕ) (v : Device) where
  pub look_pointer : (z : ℕ) → ((mount_look g present x v).zone z).pointer ≤ zone_sectors g
  unfolding mount_look showing zone_shown zone_at
  look_pointer z = pointer_within g present (mount_view g present x v) z (generation_of g present (mount_view g present x v) z)

  pub look_reset : (z : ℕ) → ((mount_look g present x v).zone z).by_reset ≡ true → is_sealed ((mount_look g present x v).zone z).condition ≡ false
  unfolding mount_look showing zone_shown zone_at
  look_reset z h =
      let w = mount_view g present x v in
      let n = generation_of g present w z in
      let q = pointer_at g present w z n in
      zero_not_sealed n q (clean_at g present w z n q) (seal_seen g present w z n) (sym (pointer_reset g present w z n h))
