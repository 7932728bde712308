use Rattle.tables.specs.meaning.Phases.{on_present}
use Rattle.tables.specs.laws.Made.{MadeAppends}
use Rattle.volume.specs.meaning.CallContracts.{is_set}
use Rattle.volume.specs.looking.Knowing.{read_device}
use Rattle.mounting.specs.MountHeaders.{header_steps}
use Rattle.mounting.proofs.log_headers.log_headers.Given as goal

abbrev pub invariant-loop-d : goal.invariant-loop-d
invariant-loop-d l =
    MadeAppends l.basis.geometry l.budget l.rest (on_present (is_set l.basis.here) (header_steps l.basis.geometry l.kind l.basis.look (read_device l.basis.geometry l.fn.sectors l.pointers) l.n l.d)) l.fn.sectors l.fn.written l.sectors l.written
