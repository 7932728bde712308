use Rattle.std.proofs.Common.{◌≡◌, ℕ, ◌&&◌, get_or, false}
use Rattle.tables.specs.meaning.Below.{any_below}
use Rattle.tables.specs.meaning.Geometry.{physical_zones, cells}
use Rattle.tables.specs.meaning.Tables.{pointer_bad}
use Rattle.zrv.specs.meaning.Bytes.{table_from}
use Rattle.zrv.proofs.words.pointers_bad.Given as goal

abbrev pub invariant-loop-d : goal.invariant-loop-d
invariant-loop-d l = l.bad ≡ any_below (λ (i : ℕ). get_or l.named i false && any_below (pointer_bad l.g l.written (table_from (cells l.g) l.durable) i) (physical_zones l.g)) l.d
