use mathlib.Core.Path.{ap, ◌∙◌}
use native.Mathlib.Omega.{arith}
use Rattle.logs.specs.meaning.Heads.{first_closing}
use Rattle.logs.specs.declared.Log.{Log}
use Rattle.logs.specs.code.Query.{log_heads}
use Rattle.volume.specs.looking.DriveLogs.{in_log}
use Rattle.volume.specs.looking.LogZones.{claim_read}
use borrow.Author.Rules.{rules}
use Rattle.volume.proofs.roles.claim_of.Statement.{statement}
use Rattle.volume.proofs.roles.claim_of.Tie as tie

first-closing-requires : tie.Need-first_closing-requires
first-closing-requires c κs =
    let s = c.before.before.before in
    let a = s.args in
    (s.requires.0, in_log a.g a.sectors.now a.written.now a.drive a.zone c.log_in-log.result c.log_in-log.ensures s.requires.1.0 s.requires.1.1 (omega arith))

returns : tie.Need-returns
returns c =
    let s = c.before.before.before.before in
    let a = s.args in
    c.first_closing.ensures
    ∙ ap (λ (l : Log). first_closing (log_heads a.g l.drive a.parity l.zone l.written a.sectors.now)) c.log_in-log.ensures
    ∙ claim_read a.g a.sectors.now a.written.now a.drive a.parity a.zone s.requires.1.1 s.requires.1.2

pub claim_of_spec : {M : Type 1} → statement M
claim_of_spec = tie.close (tie.spec (λ c κs. search rules) first-closing-requires returns)
