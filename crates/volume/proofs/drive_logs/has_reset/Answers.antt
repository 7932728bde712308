use Rattle.std.proofs.Common.{false, refl, ap, arith, ◌∙◌}
use Rattle.tables.specs.meaning.Lists.{any_of}
use Rattle.logs.specs.code.Query.{log_heads}
use Rattle.logs.specs.declared.Log.{Log}
use Rattle.logs.specs.meaning.Entry.{general_zone}
use Rattle.logs.specs.meaning.Heads.{is_reset}
use Rattle.volume.specs.looking.DriveLogs.{zone_pointer, in_log, general_heads_lem}
use Rattle.volume.proofs.drive_logs.has_reset.Goals as goal

pub has_reset-requires-clause-in_log : goal.has_reset-requires-clause-in_log
has_reset-requires-clause-in_log c = let a = c.args in in_log a.g a.sectors.now a.written.now a.drive general_zone c.log_in-log.result c.log_in-log.ensures c.requires.sized.0 c.requires.sized.1 (omega arith)

pub returns : goal.returns
returns c =
    let a = c.args in
    c.has_reset.ensures ∙ ap (λ (l : Log). any_of (is_reset a.z a.generation) (log_heads a.g l.drive false l.zone l.written a.sectors.now)) c.log_in-log.ensures
    ∙ ap (any_of (is_reset a.z a.generation)) (general_heads_lem a.g a.sectors.now a.written.now a.drive c.requires.sized.1 (zone_pointer a.g a.written.now a.drive general_zone) refl)
