use Rattle.std.proofs.Common.{◌≡◌, ◌&&◌, not, eqb}
use Rattle.tables.specs.meaning.Below.{any_below}
use Rattle.grouped.specs.meaning.Stripes.{wrong_drive}
use Rattle.grouped.specs.places.Places.{Noted}
use Rattle.grouped.proofs.places.place_all.Given as goal

abbrev pub invariant-loop-d : goal.invariant-loop-d
invariant-loop-d l = record {
  noted : Noted l.s l.metadata l.missing l.d l.work;
  told : l.lacks ≡ any_below (λ d. not (eqb d l.missing) && wrong_drive l.s l.metadata d) l.d;
}
