use mathlib.Core.Path.{refl}
use borrow.Author.Rules.{rules}
use Rattle.volume.proofs.drive_logs.log_in.Statement.{statement}
use Rattle.volume.proofs.drive_logs.log_in.Tie as tie

returns : tie.Need-returns
returns c = rw c.zone_pointer-n.ensures.0 refl

pub log_in_spec : {M : Type 1} → statement M
log_in_spec = tie.close (tie.spec (λ c κs. search rules) returns)
