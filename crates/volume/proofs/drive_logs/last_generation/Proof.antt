use mathlib.Core.Path.{refl, ap, ◌∙◌}
use mathlib.Core.Bool.{false}
use native.Mathlib.Omega.{arith}
use Rattle.logs.specs.meaning.Heads.{generation_in}
use Rattle.logs.specs.declared.Log.{Log}
use Rattle.logs.specs.meaning.Entry.{general_zone}
use Rattle.logs.specs.code.Query.{log_heads}
use Rattle.volume.specs.looking.DriveLogs.{zone_pointer, in_log, general_heads_lem}
use borrow.Author.Rules.{rules}
use Rattle.volume.proofs.drive_logs.last_generation.Statement.{statement}
use Rattle.volume.proofs.drive_logs.last_generation.Tie as tie

last-generation-requires : tie.Need-last_generation-requires
last-generation-requires c κs = let s = c.before.before.before in let a = s.args in (s.requires.0, (in_log a.g a.sectors.now a.written.now a.drive general_zone c.log_in-log.result c.log_in-log.ensures s.requires.1.0 s.requires.1.1 (omega arith), s.requires.1.2))

returns : tie.Need-returns
returns c = let s = c.before.before.before.before in let a = s.args in c.last_generation.ensures ∙ ap (λ (l : Log). generation_in a.z (log_heads a.g l.drive false l.zone l.written a.sectors.now)) c.log_in-log.ensures ∙ ap (generation_in a.z) (general_heads_lem a.g a.sectors.now a.written.now a.drive s.requires.1.1 (zone_pointer a.g a.written.now a.drive general_zone) refl)

pub last_generation_spec : {M : Type 1} → statement M
last_generation_spec = tie.close (tie.spec (λ c κs. search rules) last-generation-requires returns)
