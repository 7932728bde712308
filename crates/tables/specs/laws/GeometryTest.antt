-- Passing the test of a geometry is being valid.
use Rattle.std.specs.Prelude.{◌≡◌, refl, ◌≢◌, ◌⊎◌, Bool, true, false, ◌&&◌, ◌||◌, ℕ, zero, suc, ◌+◌, ◌*◌, ◌/◌, ◌%◌, ◌^◌, ◌≤◌, List, [], ◌∷◌, get_or, leb, eqb}
use Rattle.std.proofs.Common.{ap, ◌∙◌, inl, inr, div-add-mod', arith, le-leb, leb-true, eq-eqb, ne_eqb, eqb-true}
use Rattle.std.proofs.Math.Nat.{mul-mod_left}
use Rattle.tables.specs.declared.Geometry.{Geometry}
use Rattle.tables.specs.laws.Basics.{and_split}
use Rattle.tables.specs.laws.Greatest.{greatest_le}
use Rattle.tables.specs.meaning.Geometry.{Valid, log2}
use Rattle.tables.specs.meaning.GeometryTest.{all, sector_size, bound_tests, fits, is_valid}

-- laws

pub all_at : (bs : List Bool) → all bs ≡ true → (i : ℕ) → get_or bs i true ≡ true
all_at [] h i = refl
all_at (b ∷ []) h zero = h
all_at (b ∷ []) h (suc i) = refl
all_at (true ∷ c ∷ bs) h zero = refl
all_at (true ∷ c ∷ bs) h (suc i) = all_at (c ∷ bs) h i
all_at (false ∷ c ∷ bs) h i = cc

pub record Ranged (g : Geometry) : Type 0 where
  pub drives_low : 3 ≤ g.drives
  pub drives_high : g.drives ≤ 8
  pub size : sector_size g.sector ≡ true
  pub unit_low : 1 ≤ g.unit
  pub unit_high : g.unit ≤ 16
  pub zones_low : 1 ≤ g.zones
  pub zones_high : g.zones ≤ 16
  pub capacity_high : g.capacity ≤ 65536
  pub logs_first : g.logs ≡ 0

pub ranged : (g : Geometry) → all (bound_tests g) ≡ true → Ranged g
ranged g h =
    let at = all_at (bound_tests g) h in
    record {
      drives_low = leb-true _ _ (at 0);
      drives_high = leb-true _ _ (at 1);
      size = at 2;
      unit_low = leb-true _ _ (at 3);
      unit_high = leb-true _ _ (at 4);
      zones_low = leb-true _ _ (at 5);
      zones_high = leb-true _ _ (at 6);
      capacity_high = leb-true _ _ (at 7);
      logs_first = eqb-true g.logs 0 (at 8);
    }

-- ---- sector sizes
record Size (b : ℕ) : Type 0 where
  power : b ≡ 2 ^ log2 b
  least : 64 ≤ b
  most : b ≤ 4096

either : (a b : Bool) → a || b ≡ true → (a ≡ true) ⊎ (b ≡ true)
either true b h = inl refl
either false b h = inr h

size_at_lem : (b c : ℕ) → eqb b c ≡ true → Size c → Size b
size_at_lem b c h s = rw (eqb-true b c h) s

size_is : (b : ℕ) → sector_size b ≡ true → Size b
unfolding log2
size_is b h = go6 (either _ _ h)
  where
    go1 : (eqb b 64 ≡ true) ⊎ (eqb b 128 ≡ true) → Size b
    go1 (inl e) = size_at_lem b 64 e (record { power = refl; least = omega arith; most = omega arith })
    go1 (inr e) = size_at_lem b 128 e (record { power = refl; least = omega arith; most = omega arith })

    go2 : (eqb b 64 || eqb b 128 ≡ true) ⊎ (eqb b 256 ≡ true) → Size b
    go2 (inl e) = go1 (either _ _ e)
    go2 (inr e) = size_at_lem b 256 e (record { power = refl; least = omega arith; most = omega arith })

    go3 : (eqb b 64 || eqb b 128 || eqb b 256 ≡ true) ⊎ (eqb b 512 ≡ true) → Size b
    go3 (inl e) = go2 (either _ _ e)
    go3 (inr e) = size_at_lem b 512 e (record { power = refl; least = omega arith; most = omega arith })

    go4 : (eqb b 64 || eqb b 128 || eqb b 256 || eqb b 512 ≡ true) ⊎ (eqb b 1024 ≡ true) → Size b
    go4 (inl e) = go3 (either _ _ e)
    go4 (inr e) = size_at_lem b 1024 e (record { power = refl; least = omega arith; most = omega arith })

    go5 : (eqb b 64 || eqb b 128 || eqb b 256 || eqb b 512 || eqb b 1024 ≡ true) ⊎ (eqb b 2048 ≡ true) → Size b
    go5 (inl e) = go4 (either _ _ e)
    go5 (inr e) = size_at_lem b 2048 e (record { power = refl; least = omega arith; most = omega arith })

    go6 : (eqb b 64 || eqb b 128 || eqb b 256 || eqb b 512 || eqb b 1024 || eqb b 2048 ≡ true) ⊎ (eqb b 4096 ≡ true) → Size b
    go6 (inl e) = go5 (either _ _ e)
    go6 (inr e) = size_at_lem b 4096 e (record { power = refl; least = omega arith; most = omega arith })

-- THE TEST IS VALID
pub valid_if_test : (g : Geometry) → is_valid g ≡ true → Valid g
unfolding is_valid
valid_if_test g h =
    let (p, q) = and_split (all (bound_tests g)) (all (fits g)) h in
    let r = ranged g p in
    let z = size_is g.sector r.size in
    let at = all_at (fits g) q in
    record {
      drives_least = r.drives_low;
      drives_most = r.drives_high;
      sector = z.power;
      sector_least = z.least;
      sector_most = z.most;
      unit_least = r.unit_low;
      unit_most = r.unit_high;
      zones_least = r.zones_low;
      zones_most = r.zones_high;
      counters_fit = leb-true _ _ (at 0);
      units = g.capacity / g.unit;
      whole_units = omega (arith, div-add-mod' g.capacity g.unit, eqb-true (g.capacity % g.unit) 0 (at 1));
      zone_most = r.capacity_high;
      logs_fit = leb-true _ _ (at 2);
      general_fits = leb-true _ _ (at 3);
    }

-- where the logs lie is not handed in
pub first_if_test : (g : Geometry) → is_valid g ≡ true → g.logs ≡ 0
unfolding is_valid
first_if_test g h = (ranged g (and_split (all (bound_tests g)) (all (fits g)) h).0).logs_first

power_size : (k : ℕ) → 64 ≤ 2 ^ k → 2 ^ k ≤ 4096 → k ≤ 16 → sector_size (2 ^ k) ≡ true
power_size zero l m h = absurd (omega arith)
power_size (suc zero) l m h = absurd (omega arith)
power_size (suc (suc zero)) l m h = absurd (omega arith)
power_size (suc (suc (suc zero))) l m h = absurd (omega arith)
power_size (suc (suc (suc (suc zero)))) l m h = absurd (omega arith)
power_size (suc (suc (suc (suc (suc zero))))) l m h = absurd (omega arith)
power_size (suc (suc (suc (suc (suc (suc zero)))))) l m h = refl
power_size (suc (suc (suc (suc (suc (suc (suc zero))))))) l m h = refl
power_size (suc (suc (suc (suc (suc (suc (suc (suc zero)))))))) l m h = refl
power_size (suc (suc (suc (suc (suc (suc (suc (suc (suc zero))))))))) l m h = refl
power_size (suc (suc (suc (suc (suc (suc (suc (suc (suc (suc zero)))))))))) l m h = refl
power_size (suc (suc (suc (suc (suc (suc (suc (suc (suc (suc (suc zero))))))))))) l m h = refl
power_size (suc (suc (suc (suc (suc (suc (suc (suc (suc (suc (suc (suc zero)))))))))))) l m h = refl
power_size (suc (suc (suc (suc (suc (suc (suc (suc (suc (suc (suc (suc (suc zero))))))))))))) l m h = absurd (omega arith)
power_size (suc (suc (suc (suc (suc (suc (suc (suc (suc (suc (suc (suc (suc (suc zero)))))))))))))) l m h = absurd (omega arith)
power_size (suc (suc (suc (suc (suc (suc (suc (suc (suc (suc (suc (suc (suc (suc (suc zero))))))))))))))) l m h = absurd (omega arith)
power_size (suc (suc (suc (suc (suc (suc (suc (suc (suc (suc (suc (suc (suc (suc (suc (suc zero)))))))))))))))) l m h = absurd (omega arith)
power_size (suc (suc (suc (suc (suc (suc (suc (suc (suc (suc (suc (suc (suc (suc (suc (suc (suc k))))))))))))))))) l m h = absurd (omega arith)

is_size : (b : ℕ) → b ≡ 2 ^ log2 b → 64 ≤ b → b ≤ 4096 → sector_size b ≡ true
unfolding log2
is_size b e l m = ap sector_size e ∙ power_size (log2 b) (omega arith) (omega arith) (greatest_le (λ k. leb (2 ^ suc k) b) 16)

both : (a b : Bool) → a ≡ true → b ≡ true → a && b ≡ true
both a b h k = rw (h, k) refl

pub test_if_valid : (g : Geometry) → Valid g → g.logs ≡ 0 → is_valid g ≡ true
unfolding is_valid
test_if_valid g v first =
    let m : g.capacity % g.unit ≡ 0 = rw v.whole_units (mul-mod_left v.units g.unit) in
    both (all (bound_tests g)) (all (fits g))
    (rw (le-leb 3 g.drives v.drives_least, le-leb g.drives 8 v.drives_most, is_size g.sector v.sector v.sector_least v.sector_most, le-leb 1 g.unit v.unit_least, le-leb g.unit 16 v.unit_most, le-leb 1 g.zones v.zones_least, le-leb g.zones 16 v.zones_most, le-leb g.capacity 65536 v.zone_most, eq-eqb g.logs 0 first) refl)
    (rw (le-leb (32 + 8 * g.zones) g.sector v.counters_fit, eq-eqb (g.capacity % g.unit) 0 m, le-leb (g.zones * (1 + g.unit) + 2 * g.unit + 1) g.capacity v.logs_fit, le-leb (g.zones + 6) g.capacity v.general_fits) refl)

pub size_last : (g : Geometry) → Valid g → g.sector ≢ 64 → g.sector ≢ 128 → g.sector ≢ 256 → g.sector ≢ 512 → g.sector ≢ 1024 → g.sector ≢ 2048 → g.sector ≡ 4096
size_last g v a b c d e f =
    let s = g.sector in
    let h : sector_size s ≡ true = is_size s v.sector v.sector_least v.sector_most in
    eqb-true s 4096 (rw (ne_eqb s 64 a, ne_eqb s 128 b, ne_eqb s 256 c, ne_eqb s 512 d, ne_eqb s 1024 e, ne_eqb s 2048 f) at h)
