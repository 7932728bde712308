-- Rules 2, 3, 5 and 6 for one zone, as the code finds them, and what a look shows of a zone as the code's record.
use Rattle.std.specs.Prelude.{◌≡◌, ◌≢◌, ◌⊎◌, Bool, true, false, ◌&&◌, ◌||◌, not, List, [], length, leb, eqb}
use Rattle.std.proofs.Math.Path.{refl, sym}
use Rattle.std.proofs.Common.{ap, ◌∙◌, inl, inr, arith, eq-eqb, ne_eqb}
use Prim.Native.Nat.{ℕ, zero, ◌≤◌, ◌<◌, min}
use Rattle.tables.specs.declared.Geometry.{Geometry}
use Rattle.tables.specs.meaning.Basics.{pick}
use Rattle.tables.specs.meaning.Below.{all_below}
use Rattle.tables.specs.laws.Below.{all_below_all}
use Rattle.tables.specs.meaning.Greatest.{greatest}
use Rattle.tables.specs.laws.Greatest.{greatest_is, greatest_max}
use Rattle.tables.specs.meaning.Lists.{any_of}
use Rattle.tables.specs.meaning.Placement.{needed}
use Rattle.tables.specs.meaning.Geometry.{physical_zones, zone_sectors, data_zone}
use Rattle.tables.specs.meaning.Device.{Device}
use Rattle.tables.specs.meaning.Tables.{tables_of}
use Rattle.tables.specs.laws.Tables.{device_length}
use Rattle.logs.specs.meaning.Entry.{Entry, worn_generation}
use Rattle.logs.specs.laws.Entry.{worn_is}
use Rattle.logs.specs.meaning.Heads.{ends_past}
use Rattle.volume.specs.declared.ZoneLook.{ZoneLook}
use Rattle.volume.specs.declared.Condition.{Condition}
use Rattle.volume.specs.declared.Condition.TheVariants.{Empty, Open, Sealed, Worn}
use Rattle.volume.specs.meaning.Rules.{parity_entries, parity_ending, ending_past, condition_of, known, zone_view, known_prefix, generation_of, reset_seen, seal_limit, pointer_at, seal_seen, clean_at, zone_at, zone_shown}
use Rattle.volume.specs.looking.Knowing.{read_device}
use Rattle.volume.specs.looking.DriveLogs.{zone_pointer}
use Rattle.volume.specs.meaning.CallContracts.{zone_look_of}

-- ---- rule 6, of one drive
pub neither : (a b : Bool) → not (a || b) ≡ (not a && not b)
neither true b = refl
neither false b = refl

abbrev pub drive_clean : Geometry → (ℕ → Bool) → Device → ℕ → ℕ → ℕ → ℕ → Bool
drive_clean g present v z n q d =
    not (present d) || (leb (length (v d (data_zone z)).sectors) (needed g.drives g.unit z q d)
    && (not (any_of (λ (e : Entry). ends_past g z n q e.head) (parity_entries g v d)) && not (ending_past g z n q (parity_ending g v d))))

-- the sectors of a zone on the device are as many as the code counts
pub zone_length : (g : Geometry) (xs ws : List ℕ) (d z : ℕ) → d < g.drives → z < physical_zones g → zone_pointer g ws d z ≡ length (read_device g xs ws d z).sectors
zone_length g xs ws d z hd hz = sym (device_length g (tables_of xs ws []) d z hd hz)

-- ---- rule 5: a scan that stops at the first sector that is not known, or at the least seal
pub scan_stops : (p : ℕ → Bool) (n limit a : ℕ) → limit ≤ n → a ≤ limit → all_below p a ≡ true → (p a ≡ false) ⊎ (limit ≤ a) → a ≡ min (greatest p n) limit
scan_stops p n limit a h k all (inl e) =
    let q : greatest p n ≡ a = greatest_is p n a (omega arith) (λ i l. all_below_all p a i all l) (λ l. e) in
    omega (arith, q)
scan_stops p n limit a h k all (inr l) =
    let q : a ≤ greatest p n = greatest_max p n a (omega arith) (λ i m. all_below_all p a i all m) in
    omega (arith, q)

-- rule 4's test, by its arguments
unfoldable pub known_at : Geometry → (ℕ → Bool) → Device → ℕ → ℕ → ℕ → Bool
known_at g present v z n a = known g.drives g.unit z (zone_view g present v z n) a

pub known_at_lem : (g : Geometry) (present : ℕ → Bool) (v : Device) (z n a : ℕ) → known g.drives g.unit z (zone_view g present v z n) a ≡ known_at g present v z n a
unfolding known_at
known_at_lem g present v z n a = refl

pub prefix_stops : (g : Geometry) (present : ℕ → Bool) (v : Device) (z n limit a : ℕ) → limit ≤ zone_sectors g → a ≤ limit → all_below (known_at g present v z n) a ≡ true
    → (known_at g present v z n a ≡ false) ⊎ (limit ≤ a) → a ≡ min (known_prefix g.drives g.unit z (zone_view g present v z n) (zone_sectors g)) limit
unfolding known_at
prefix_stops g present v z n limit a h k all e = scan_stops (known g.drives g.unit z (zone_view g present v z n)) (zone_sectors g) limit a h k all e

-- ---- rule 6: the condition, case by case
module _ (n q : ℕ) (clean has_seal : Bool) where
  pub condition_worn : n ≡ 18446744073709551615 → Worn q ≡ condition_of n q clean has_seal
  condition_worn e = rw (eq-eqb n worn_generation (e ∙ sym worn_is)) refl

  module _ (fresh : n ≢ 18446744073709551615) where
    not_worn : eqb n worn_generation ≡ false
    not_worn = ne_eqb n worn_generation (λ e. fresh (e ∙ worn_is))

    pub condition_empty : q ≡ 0 → Empty ≡ condition_of n q clean has_seal
    condition_empty z = rw (not_worn, eq-eqb q 0 z) refl

    pub condition_sealed : q ≢ 0 → not clean || has_seal ≡ true → Sealed q ≡ condition_of n q clean has_seal
    condition_sealed z b = rw (not_worn, ne_eqb q 0 z, b) refl

    pub condition_open : q ≢ 0 → not clean || has_seal ≡ false → Open q ≡ condition_of n q clean has_seal
    condition_open z b = rw (not_worn, ne_eqb q 0 z, b) refl

-- ---- rules 3 and 5: the pointer
module _ (g : Geometry) (present : ℕ → Bool) (v : Device) (z n : ℕ) where
  pub pointer_reset : reset_seen g present v z n ≡ true → 0 ≡ pointer_at g present v z n
  unfolding pointer_at
  pointer_reset e = rw e refl

  pub pointer_known : reset_seen g present v z n ≡ false → (q : ℕ) → q ≡ min (known_prefix g.drives g.unit z (zone_view g present v z n) (zone_sectors g)) (seal_limit g present v z n) → q ≡ pointer_at g present v z n
  unfolding pointer_at
  pointer_known e q h = h ∙ sym (ap (λ (b : Bool). pick b zero (min (known_prefix g.drives g.unit z (zone_view g present v z n) (zone_sectors g)) (seal_limit g present v z n))) e)

-- ---- all of a zone
pub zone_look_lem : (g : Geometry) (present : ℕ → Bool) (v : Device) (z n q : ℕ) (by_reset clean sealed : Bool) (c : Condition)
    → n ≡ generation_of g present v z → by_reset ≡ reset_seen g present v z n → q ≡ pointer_at g present v z n → clean ≡ clean_at g present v z n q → sealed ≡ seal_seen g present v z n → c ≡ condition_of n q clean sealed
    → ◌≡◌ {A = ZoneLook} (record { generation = n; condition = c; pointer = q; by_reset = by_reset; clean = clean }) (zone_look_of (zone_shown g present v z))
unfolding zone_shown zone_at
zone_look_lem g present v z n q by_reset clean sealed c en er eq ec es eo = rw (eo, es, ec, eq, er, en) refl
