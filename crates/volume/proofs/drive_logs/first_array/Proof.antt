use mathlib.Core.Path.{refl, ap, ◌∙◌}
use mathlib.Core.Bool.{false}
use native.Mathlib.Omega.{arith}
use Rattle.logs.specs.meaning.Heads.{array_in}
use Rattle.logs.specs.declared.Log.{Log}
use Rattle.logs.specs.meaning.Entry.{general_zone}
use Rattle.logs.specs.code.Query.{log_heads}
use Rattle.volume.specs.looking.DriveLogs.{zone_pointer, in_log, general_heads_lem}
use borrow.Author.Rules.{rules}
use Rattle.volume.proofs.drive_logs.first_array.Statement.{statement}
use Rattle.volume.proofs.drive_logs.first_array.Tie as tie

first-array-requires : tie.Need-first_array-requires
first-array-requires c κs = let s = c.before.before.before in let a = s.args in (s.requires.0, in_log a.g a.sectors.now a.written.now a.drive general_zone c.log_in-log.result c.log_in-log.ensures s.requires.1.0 s.requires.1.1 (omega arith))

returns : tie.Need-returns
returns c = let s = c.before.before.before.before in let a = s.args in c.first_array.ensures ∙ ap (λ (l : Log). array_in (log_heads a.g l.drive false l.zone l.written a.sectors.now)) c.log_in-log.ensures ∙ ap array_in (general_heads_lem a.g a.sectors.now a.written.now a.drive s.requires.1.1 (zone_pointer a.g a.written.now a.drive general_zone) refl)

pub first_array_spec : {M : Type 1} → statement M
first_array_spec = tie.close (tie.spec (λ c κs. search rules) first-array-requires returns)
