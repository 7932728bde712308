use Rattle.std.proofs.Common.{◌≡◌, false, ◌&&◌, get_or}
use Rattle.tables.specs.meaning.Below.{any_below}
use Rattle.tables.specs.meaning.Geometry.{physical_zones}
use Rattle.tables.specs.meaning.Tables.{pointer_bad}
use Rattle.tables.proofs.bounds.pointers_bad.Given as goal

abbrev pub invariant-loop-d : goal.invariant-loop-d
invariant-loop-d l = l.bad ≡ any_below (λ d. get_or l.named d false && any_below (pointer_bad l.g l.written l.durable d) (physical_zones l.g)) l.d
