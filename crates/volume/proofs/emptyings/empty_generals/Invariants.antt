use Rattle.std.proofs.Common.{◌≡◌, ℕ, length, false}
use Rattle.volume.specs.emptying.Emptyings.{emptied_on, new_general_on, EmptyingTurn}
use Rattle.volume.proofs.emptyings.empty_generals.Given as goal

abbrev pub invariant-loop-d : goal.invariant-loop-d
invariant-loop-d l =
    (length l.sectors ≡ length l.fn.sectors) × (length l.written ≡ length l.fn.written) × (length l.durable ≡ length l.fn.durable)
    × EmptyingTurn false l.all (λ (e : ℕ). emptied_on l.all false (new_general_on l.all l.generations l.fn.sectors l.pointers e) e) l.pointers l.fn.sectors l.fn.written l.fn.durable l.budget l.rest l.d l.sectors l.written l.durable
