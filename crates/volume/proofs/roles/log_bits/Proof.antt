use lib.Pow.{shl_exact}
use Prim.Native.Nat.{◌*◌}
use native.Mathlib.Omega.{arith}
use borrow.Author.Rules.{rules}
use Rattle.volume.proofs.roles.log_bits.Statement.{statement}
use Rattle.volume.proofs.roles.log_bits.Tie as tie

returns : tie.Need-returns
returns c = let a = c.args in shl_exact 4 (4 * a.drive) 64 (omega arith) (omega arith)

pub log_bits_spec : {M : Type 1} → statement M
log_bits_spec = tie.close (tie.spec (λ c. search rules) (λ c. search rules) (λ c. search rules) (λ c. search rules) returns)
