use Rattle.std.proofs.Common.{◌≡◌, length}
use Rattle.tables.specs.laws.Made.{MadePointers}
use Rattle.volume.specs.meaning.CallContracts.{is_set}
use Rattle.volume.specs.storing.Flushing.{flush_to}
use Rattle.volume.proofs.flushing.flush_all.Given as goal

abbrev pub invariant-loop-d : goal.invariant-loop-d
invariant-loop-d l = (length l.durable ≡ length l.fn.durable) × MadePointers l.g l.budget l.rest (flush_to (is_set l.here) l.d) l.written l.fn.durable l.written l.durable
