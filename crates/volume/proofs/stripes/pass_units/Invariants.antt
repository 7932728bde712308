use Rattle.std.proofs.Common.{◌≡◌}
use Rattle.tables.specs.meaning.Placement.{unit_drive}
use Rattle.volume.specs.stripes.UnitStores.{units_passed}
use Rattle.volume.proofs.stripes.pass_units.Given as goal

abbrev pub invariant-loop-j : goal.invariant-loop-j
invariant-loop-j l = l.written ≡ units_passed l.s.geometry l.s.zone (unit_drive l.s.geometry.drives l.s.parity) l.fn.written l.j
