use mathlib.Core.Path.{refl}
use borrow.Author.Rules.{rules}
use Rattle.volume.proofs.zone_checks.written_at.Statement.{statement}
use Rattle.volume.proofs.zone_checks.written_at.Tie as tie

cell-of-requires : tie.Need-cell_of-at-requires
cell-of-requires c κs = search rules

mul-widen : tie.Need-offset_bounds-written-at
mul-widen c = search rules

shared-slice-read-widen : tie.Need-bounds-written-at
shared-slice-read-widen c = search rules

widen-requires : tie.Need-widen-requires
widen-requires c κs = search rules

returns : tie.Need-returns
returns c = rw (c.widen.ensures, c.cell_of-at.ensures.0) refl

pub written_at_spec : {M : Type 1} → statement M
written_at_spec =
    tie.close (tie.spec cell-of-requires mul-widen shared-slice-read-widen widen-requires returns)
