use Rattle.std.proofs.Common.{sym}
use Rattle.logs.specs.code.WalkCode.{log_sectors}
use Rattle.logs.specs.meaning.Walk.{walk_log}
use Rattle.logs.specs.code.Answers.{first_whole}
use Rattle.logs.proofs.folds.first_entry.Goals as goal

pub returns-in-Ok : goal.returns-in-Ok
returns-in-Ok c =
    let a = c.args in
    first_whole a.g (walk_log a.g a.log.drive a.parity (log_sectors a.g a.log.drive a.log.zone a.sectors.now a.log.written)) c.in-Ok.f c.in-Ok.field-0-1 (sym c.in-Ok.ensures)
