use mathlib.Core.Path.{◌∙◌}
use native.Mathlib.Omega.{arith}
use Rattle.logs.specs.meaning.Entry.{general_zone}
use Rattle.volume.specs.looking.DriveLogs.{in_log}
use Rattle.volume.specs.looking.LogZones.{general_found}
use borrow.Author.Rules.{rules}
use Rattle.volume.proofs.roles.general_log.Statement.{statement}
use Rattle.volume.proofs.roles.general_log.Tie as tie

home-claim-requires : tie.Need-home_claim-home-requires
home-claim-requires c κs =
    let s = c.before.before.before in
    let a = s.args in
    (s.requires.0, in_log a.g a.sectors.now a.written.now a.drive general_zone c.log_in-log.result c.log_in-log.ensures s.requires.1.0 s.requires.1.1 (omega arith))

returns : tie.Need-returns
returns c =
    let s = c.before.before.before.before.before.before.before in
    let a = s.args in
    let l = c.log_in-log in
    c.strongest_of.ensures
    ∙ general_found a.g a.sectors.now a.written.now a.drive s.requires.1.1 a.moved l.result
    c.home_claim-home.result c.moved_claim-in_second.result c.moved_claim-in_third.result s.requires.1.2 l.ensures c.home_claim-home.ensures c.moved_claim-in_second.ensures c.moved_claim-in_third.ensures

pub general_log_spec : {M : Type 1} → statement M
general_log_spec =
    tie.close (tie.spec (λ c κs. search rules) home-claim-requires (λ c κs. search rules) (λ c κs. search rules) (λ c κs. search rules) returns)
