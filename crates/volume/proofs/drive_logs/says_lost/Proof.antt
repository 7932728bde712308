use mathlib.Core.Path.{refl, sym, ap, ◌∙◌}
use mathlib.Core.Bool.{false}
use native.Mathlib.Omega.{arith}
use Rattle.logs.specs.declared.Log.{Log}
use Rattle.logs.specs.meaning.Entry.{general_zone}
use Rattle.logs.specs.code.Query.{log_heads}
use borrow.Author.Tests.{not-true, not-false}
use Rattle.tables.specs.meaning.Drives.{no_drive}
use Rattle.logs.specs.meaning.Heads.{last_lost}
use Rattle.volume.specs.looking.DriveLogs.{zone_pointer, in_log, general_heads_lem}
use borrow.Author.Rules.{rules}
use Rattle.volume.proofs.drive_logs.says_lost.Statement.{statement}
use Rattle.volume.proofs.drive_logs.says_lost.Tie as tie

returns : tie.Need-returns-then-not-has_say
returns c =
    let h = c.begins_labelled-has_say in
    rw (sym h.ensures ∙ not-true h.result c.if-not-has_say.true-raw) refl

last-lost-requires : tie.Need-last_lost-requires
last-lost-requires c κs =
    let s = c.before.before.before.before.before in
    let a = s.args in
    (s.requires.0, in_log a.g a.sectors.now a.written.now a.drive general_zone c.log_in-log.result c.log_in-log.ensures s.requires.1.0 s.requires.1.1 (omega arith))

returns-2 : tie.Need-returns
returns-2 c =
    let s = c.before.before.before.before.before.before in
    let a = s.args in
    let h = c.begins_labelled-has_say in
    c.last_lost.ensures.0 ∙ ap (λ (l : Log). last_lost no_drive (log_heads a.g l.drive false l.zone l.written a.sectors.now)) c.log_in-log.ensures ∙ ap (last_lost no_drive) (general_heads_lem a.g a.sectors.now a.written.now a.drive s.requires.1.1 (zone_pointer a.g a.written.now a.drive general_zone) refl)
    ∙ rw (sym h.ensures ∙ not-false h.result c.if-not-has_say.false-raw) refl

pub says_lost_spec : {M : Type 1} → statement M
says_lost_spec =
    tie.close
    (tie.spec (λ c κs. search rules) returns (λ c κs. search rules) last-lost-requires returns-2)
