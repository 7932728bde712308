use Rattle.std.proofs.Common.{◌≡◌, ◌+◌, ◌*◌, eqb}
use Rattle.tables.specs.meaning.Below.{any_below}
use Rattle.grouped.specs.laws.Words.{word}
use Rattle.grouped.proofs.places.drive_lacks.Given as goal

abbrev pub invariant-loop-i : goal.invariant-loop-i
invariant-loop-i l = l.lacks ≡ any_below (λ n. eqb (word l.work (l.d * l.s.blocks + n)) 0) l.i
