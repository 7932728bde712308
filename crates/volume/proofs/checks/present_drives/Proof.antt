use borrow.Author.Rules.{rules}
use Rattle.volume.specs.checks.CheckLaws.{present_eight}
use Rattle.volume.proofs.checks.present_drives.Statement.{statement}
use Rattle.volume.proofs.checks.present_drives.Tie as tie

returns : tie.Need-returns
returns c = present_eight c.args.g c.args.named c.args.lost c.requires

pub present_drives_spec : {M : Type 1} → statement M
present_drives_spec =
    tie.close
    (tie.spec (λ c. search rules) (λ c. search rules) (λ c. search rules) (λ c. search rules) (λ c. search rules) (λ c. search rules) (λ c. search rules)
    (λ c. search rules) returns)
