-- The other sectors of a row, from the numbers that say where the row lies: which units they are of, their exclusive or, and that it is the one of
-- rule 4 (Knowing: `row_xor`) where the numbers are those of an address.
use Rattle.std.specs.Prelude.{◌≡◌, refl, Bool, true, false, ◌&&◌, not, ℕ, ◌+◌, ◌-◌, ◌*◌, ◌<◌, List, [], ltb, eqb}
use Rattle.std.proofs.Common.{sym, ap, ◌∙◌, add-one, arith}
use Rattle.tables.specs.declared.Geometry.{Geometry}
use Rattle.tables.specs.meaning.Basics.{pick}
use Rattle.tables.specs.meaning.Geometry.{Valid, zone_sectors, data_zone}
use Rattle.tables.specs.meaning.Placement.{stripe_length, unit_drive, sector_of, unit_index, stripe_of, row_index}
use Rattle.tables.specs.laws.Placement.{address_sum, stripe_begin, row_remainder}
use Rattle.tables.specs.meaning.Tables.{sector_at}
use Rattle.tables.specs.meaning.Xor.{xor_bytes, xor_below, without}
use Rattle.tables.specs.laws.Xor.{xor_nil, xor_bytes_assoc, xor_below_cong}
use Rattle.volume.specs.declared.row_others.RowPlace.{RowPlace}
use Rattle.volume.specs.meaning.Rules.{parity_of, row_drive, row_address}
use Rattle.volume.specs.looking.Knowing.{row_xor}
use Rattle.volume.specs.looking.KnowingLaws.{row_small, parity_in}
use Rattle.volume.specs.looking.KnowingValues.{sector_within}

-- the numbers are within the geometry
pub record RowFits (g : Geometry) (row : RowPlace) : Type 0 where
  pub zone_in_lem : row.zone < g.zones
  pub parity_in : row.parity < g.drives
  pub sector_in : row.sector < g.capacity
  pub start_small : row.start < 458864

abbrev pub is_other : Geometry → RowPlace → ℕ → Bool
is_other g row k = not (eqb k row.own) && ltb (row.start + k * g.unit) row.end

abbrev pub unit_sector : Geometry → List ℕ → RowPlace → ℕ → List ℕ
unit_sector g xs row k = sector_at g xs (unit_drive g.drives row.parity k) (data_zone row.zone) row.sector

-- the exclusive or of those below unit m
abbrev pub others_below : Geometry → List ℕ → RowPlace → ℕ → List ℕ
others_below g xs row m = xor_below (λ k. pick (is_other g row k) (unit_sector g xs row k) []) m

-- ---- the loop: a unit left out, one added, two added
module _ (g : Geometry) (xs : List ℕ) (row : RowPlace) (k : ℕ) (zs ys : List ℕ) (so_far : ys ≡ xor_bytes zs (others_below g xs row k)) where
  pub others_skipped : is_other g row k ≡ false → ys ≡ xor_bytes zs (others_below g xs row (k + 1))
  others_skipped h = so_far ∙ rw (add-one, h) (ap (xor_bytes zs) (sym (xor_nil (others_below g xs row k))))

  pub others_more : is_other g row k ≡ true → xor_bytes ys (unit_sector g xs row k) ≡ xor_bytes zs (others_below g xs row (k + 1))
  others_more h = rw (add-one, h) (ap (λ (l : List ℕ). xor_bytes l (unit_sector g xs row k)) so_far ∙ xor_bytes_assoc zs (others_below g xs row k) (unit_sector g xs row k))

pub others_two : (g : Geometry) (xs : List ℕ) (row : RowPlace) (k : ℕ) (zs ys : List ℕ) → ys ≡ xor_bytes zs (others_below g xs row k) → is_other g row k ≡ true → is_other g row (k + 1) ≡ true
    → xor_bytes (xor_bytes ys (unit_sector g xs row k)) (unit_sector g xs row (k + 1)) ≡ xor_bytes zs (others_below g xs row (k + 2))
others_two g xs row k zs ys e p q =
    let two : k + 2 ≡ k + 1 + 1 = omega arith in
    others_more g xs row (k + 1) zs (xor_bytes ys (unit_sector g xs row k)) (others_more g xs row k zs ys e p) q ∙ ap (λ (m : ℕ). xor_bytes zs (others_below g xs row m)) (sym two)

-- ---- the row of address a
abbrev pub row_of : Geometry → ℕ → ℕ → ℕ → RowPlace
row_of g z a end = record {
  zone = z;
  parity = parity_of g.drives g.unit z a;
  sector = sector_of g.drives g.unit a;
  start = row_address g.drives g.unit a 0;
  own = unit_index g.drives g.unit a;
  end = end;
}

pub row_is : (g : Geometry) (z a end p x first own : ℕ) → p ≡ parity_of g.drives g.unit z a → x ≡ sector_of g.drives g.unit a → first ≡ row_address g.drives g.unit a 0 → own ≡ unit_index g.drives g.unit a
    → record { zone = z; parity = p; sector = x; start = first; own = own; end = end } ≡ row_of g z a end
row_is g z a end p x first own hp hx hf ho = rw (hp, hx, hf, ho) refl

pub row_fits : (g : Geometry) (z a end : ℕ) → Valid g → z < g.zones → a < zone_sectors g → RowFits g (row_of g z a end)
row_fits g z a end ok hz ha =
    let D = g.drives in
    let U = g.unit in
    let K = stripe_length D U in
    record {
      zone_in_lem = hz;
      parity_in = parity_in g z a ok;
      sector_in = sector_within g a ok ha;
      start_small = omega (arith, row_small g a 0 K ok ha (omega (arith, ok.drives_least)), address_sum D U (stripe_of D U a) 0 (row_index D U a), stripe_begin D U a K refl, row_remainder D U a K refl);
    }

pub others_are : (g : Geometry) (xs : List ℕ) (z a end : ℕ) → others_below g xs (row_of g z a end) (g.drives - 1) ≡ row_xor g xs z a end
unfolding row_xor
others_are g xs z a end = xor_below_cong _ _ (g.drives - 1) (λ k h. same k (eqb k (unit_index g.drives g.unit a)) refl)
  where
    along : (k : ℕ) → row_address g.drives g.unit a 0 + k * g.unit ≡ row_address g.drives g.unit a k
    along k =
        let D = g.drives in
        let U = g.unit in
        omega (arith, address_sum D U (stripe_of D U a) 0 (row_index D U a), address_sum D U (stripe_of D U a) k (row_index D U a))

    same : (k : ℕ) (b : Bool) → eqb k (unit_index g.drives g.unit a) ≡ b
        → pick (is_other g (row_of g z a end) k) (unit_sector g xs (row_of g z a end) k) [] ≡ without (λ m. pick (ltb (row_address g.drives g.unit a m) end) (sector_at g xs (row_drive g.drives g.unit z a m) (data_zone z) (sector_of g.drives g.unit a)) []) (unit_index g.drives g.unit a) k
    same k true e = rw (e, without) refl
    same k false e = rw (e, along k, without) refl
