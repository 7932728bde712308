use Rattle.std.proofs.Common.{◌≡◌, length}
use Rattle.volume.specs.emptying.ParityTurns.{ParityTurn}
use Rattle.volume.proofs.emptyings.empty_parities.Given as goal

abbrev pub invariant-loop-d : goal.invariant-loop-d
invariant-loop-d l =
    (length l.sectors ≡ length l.fn.sectors) × (length l.written ≡ length l.fn.written) × (length l.durable ≡ length l.fn.durable)
    × ParityTurn l.all l.generations l.points l.pointers l.starts l.fn.sectors l.fn.written l.fn.durable l.budget l.rest l.d l.sectors l.written l.durable
