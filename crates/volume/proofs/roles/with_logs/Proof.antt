use mathlib.Core.Path.{refl}
use Rattle.volume.proofs.roles.with_logs.Statement.{statement}
use Rattle.volume.proofs.roles.with_logs.Tie as tie

pub with_logs_spec : {M : Type 1} → statement M
with_logs_spec = tie.close (tie.spec (λ c. refl))
