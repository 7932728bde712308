use Rattle.std.proofs.Common.{◌≡◌, ℕ, suc, ◌+◌, ◌≤◌, ◌<◌, List, length, get_or, set, replicate, ap, ap₂, ◌∙◌, arith}
use Rattle.std.proofs.lemmas.List.{length-replicate}
use Rattle.tables.specs.declared.Geometry.{Geometry}
use Rattle.tables.specs.meaning.Geometry.{physical_zones, total_bytes, cells}
use Rattle.tables.specs.meaning.Placement.{unit_drive}
use Rattle.tables.specs.laws.Placement.{unit_drive_below, unit_injective}
use Rattle.tables.specs.meaning.Tables.{cell}
use Rattle.volume.specs.stripes.UnitStores.{units_passed, UnitsFit, passed_later}
use Rattle.volume.proofs.stripes.pass_units.Goals as goal

-- where unit j's pointer lies; it is as it was while the units below j are passed, whatever the sectors are
module _ (g : Geometry) (zone parity : ℕ) where
  abbrev at : ℕ → ℕ
  at j = cell g (unit_drive g.drives parity j) zone

  as_it_was : (ws : List ℕ) → (zone < physical_zones g) × (parity < g.drives) × (length ws ≡ cells g) × ((j : ℕ) → j < g.drives → get_or ws (at j) 0 + g.unit ≤ g.capacity)
      → (j : ℕ) → j < g.drives → (now : List ℕ) → now ≡ units_passed g zone (unit_drive g.drives parity) ws j → get_or now (at j) 0 ≡ get_or ws (at j) 0
  as_it_was ws q j below now is =
      let no_sectors = replicate (total_bytes g) 0 in
      let fit : UnitsFit g zone (unit_drive g.drives parity) g.drives no_sectors ws = record {
        zone_in_lem = q.0;
        drive_in = λ i h. unit_drive_below g.drives parity q.1 i;
        own = unit_injective g.drives parity q.1;
        room = q.3;
        sectors_long = length-replicate {A = ℕ} (total_bytes g) 0;
        written_long = q.2;
      } in
      ap (λ (x : List ℕ). get_or x (at j) 0) is ∙ passed_later g zone (unit_drive g.drives parity) g.drives no_sectors ws fit j j (omega arith) below

pub advance_by-requires-clause-drive_lt_drives : goal.advance_by-requires-clause-drive_lt_drives
advance_by-requires-clause-drive_lt_drives c =
    let w = c.args.s in
    let l = c.loop-j in
    let q = c.requires.zone_bound in
    let d = c.unit_drive-d in
    let same = as_it_was w.geometry w.zone w.parity c.args.written.now q l.j (omega arith) l.written l.invariant in
    (d.ensures.1, q.0, l.auto.written ∙ q.2, rw (d.ensures.0, same) (q.3 l.j (omega arith)))

pub loop-j-preserved : goal.loop-j-preserved
loop-j-preserved c =
    let w = c.args.s in
    let g = w.geometry in
    let l = c.loop-j in
    let same = as_it_was g w.zone w.parity c.args.written.now c.requires.zone_bound l.j (omega arith) l.written l.invariant in
    let e : suc l.j ≡ l.j + 1 = omega arith in
    c.advance_by.ensures
    ∙ ap (λ (x : ℕ). set l.written (cell g x w.zone) (get_or l.written (cell g x w.zone) 0 + g.unit)) c.unit_drive-d.ensures.0
    ∙ ap₂ (λ (x : List ℕ) (v : ℕ). set x (at g w.zone w.parity l.j) (v + g.unit)) l.invariant same
    ∙ ap (units_passed g w.zone (unit_drive g.drives w.parity) c.args.written.now) e
