-- A known value is one sector long.
use Rattle.std.specs.Prelude.{◌≡◌, Bool, true, false, ℕ, ◌+◌, ◌-◌, ◌≤◌, ◌<◌, List, [], length, ltb}
use Rattle.std.proofs.Common.{sym, ap, ◌∙◌, true≢false, zero-le, arith, length-take}
use Rattle.std.proofs.Math.Decide.{ℕ_discrete}
use Rattle.tables.specs.declared.Geometry.{Geometry}
use Rattle.tables.specs.meaning.Basics.{pick}
use Rattle.tables.specs.meaning.Geometry.{Valid, zone_sectors, data_zone}
use Rattle.tables.specs.meaning.Placement.{drive_of, sector_of, unit_index, row_index}
use Rattle.tables.specs.laws.Placement.{drive_below}
use Rattle.tables.specs.meaning.Tables.{sector_at}
use Rattle.tables.specs.meaning.Xor.{xor_bytes, without}
use Rattle.tables.specs.laws.Xor.{xor_bytes_comm, xor_below_length, without_self, without_other, length_xor}
use Rattle.logs.specs.meaning.Entry.{parity_zone}
use Rattle.volume.specs.declared.knowing.Source.{Source}
use Rattle.volume.specs.declared.knowing.Source.TheVariants.{Unknown, Held, Row, Entry}
use Rattle.volume.specs.meaning.Rules.{parity_of, row_drive, row_address, seal_limit, known, zone_view, value_at}
use Rattle.volume.specs.meaning.CallContracts.{is_set}
use Rattle.volume.specs.looking.Knowing.{Readable, read_device, stripe_end, source_of, has_source, row_xor, entry_end, way_value, SourceFits}
use Rattle.volume.specs.looking.KnowingLaws.{parity_in}
use Rattle.volume.specs.looking.KnowingEntries.{known_is}
use Rattle.volume.specs.looking.KnowingValues.{sector_within, sector_long, value_is}

-- the other sectors of a row, added up, are no longer than a sector
row_most : (g : Geometry) (xs : List ℕ) (z a e : ℕ) → length (row_xor g xs z a e) ≤ g.sector
unfolding row_xor
row_most g xs z a e = xor_below_length g.sector (without member (unit_index g.drives g.unit a)) (g.drives - 1) (λ k m. short k (ℕ_discrete k (unit_index g.drives g.unit a)))
  where
    member : ℕ → List ℕ
    member = λ k. pick (ltb (row_address g.drives g.unit a k) e) (sector_at g xs (row_drive g.drives g.unit z a k) (data_zone z) (sector_of g.drives g.unit a)) []

    below : (k : ℕ) (b : Bool) → length (pick b (sector_at g xs (row_drive g.drives g.unit z a k) (data_zone z) (sector_of g.drives g.unit a)) []) ≤ g.sector
    below k true = rw length-take (omega arith)
    below k false = zero-le

    short : (k : ℕ) → Dec (k ≡ unit_index g.drives g.unit a) → length (without member (unit_index g.drives g.unit a) k) ≤ g.sector
    short k (yes q) = let w : without member (unit_index g.drives g.unit a) k ≡ [] = ap (λ (j : ℕ). without member (unit_index g.drives g.unit a) j) q ∙ without_self member (unit_index g.drives g.unit a) in rw w zero-le
    short k (no q) = rw (without_other member (unit_index g.drives g.unit a) k q) (below k (ltb (row_address g.drives g.unit a k) e))

xor_full : (n : ℕ) (xs ys : List ℕ) → length xs ≤ n → length ys ≡ n → length (xor_bytes xs ys) ≡ n
xor_full n xs ys h e = ap (λ (l : List ℕ). length l) (xor_bytes_comm xs ys) ∙ length_xor ys xs (omega arith) ∙ e

module _ (g : Geometry) (here : List Bool) (xs ws : List ℕ) (z : ℕ) (r : Readable g here xs ws z) (ok : Valid g) (a : ℕ) (ha : a < zone_sectors g) where
  -- the value by each way
  way_long : (w : Source) → SourceFits g xs z a w → has_source w ≡ true → length (way_value g xs z a w) ≡ g.sector
  way_long Unknown f e = absurd (true≢false (sym e))
  way_long Held f e = sector_long g xs (drive_of g.drives g.unit z a) (data_zone z) (sector_of g.drives g.unit a) r.sectors_long (drive_below g.drives g.unit z (omega (arith, ok.drives_least)) ok.unit_least a) (omega (arith, r.zone_in_lem)) (sector_within g a ok ha)
  way_long Row f e =
      xor_full g.sector (row_xor g xs z a (stripe_end g a)) (sector_at g xs (parity_of g.drives g.unit z a) (data_zone z) (sector_of g.drives g.unit a)) (row_most g xs z a (stripe_end g a))
      (sector_long g xs (parity_of g.drives g.unit z a) (data_zone z) (sector_of g.drives g.unit a) r.sectors_long (parity_in g z a ok) (omega (arith, r.zone_in_lem)) (sector_within g a ok ha))
  way_long (Entry place) f e =
      xor_full g.sector (row_xor g xs z a (entry_end g xs (parity_of g.drives g.unit z a) place)) (sector_at g xs (parity_of g.drives g.unit z a) parity_zone (place + row_index g.drives g.unit a)) (row_most g xs z a (entry_end g xs (parity_of g.drives g.unit z a) place))
      (sector_long g xs (parity_of g.drives g.unit z a) parity_zone (place + row_index g.drives g.unit a) r.sectors_long (parity_in g z a ok) (omega arith) f.1)

  -- so a known value
  pub value_long : (n : ℕ) → known g.drives g.unit z (zone_view g (is_set here) (read_device g xs ws) z n) a ≡ true → length (value_at g (is_set here) (read_device g xs ws) z n a) ≡ g.sector
  value_long n k =
      let w = source_of g here xs ws z n (seal_limit g (is_set here) (read_device g xs ws) z n) a in
      let e : has_source w ≡ true = sym (known_is g here xs ws z r ok n a ha) ∙ k in
      let v = value_is g here xs ws z r ok n a ha in
      ap (λ (l : List ℕ). length l) (v.1 e) ∙ way_long w v.0 e
