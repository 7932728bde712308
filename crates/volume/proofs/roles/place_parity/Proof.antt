use mathlib.Core.Path.{refl, sym, ◌∙◌, subst}
use Prim.Native.Nat.{ℕ, ◌<◌}
use Rattle.volume.specs.laws.LogPlaces.{other_lt}
use borrow.Author.Rules.{rules}
use Rattle.volume.proofs.roles.place_parity.Statement.{statement}
use Rattle.volume.proofs.roles.place_parity.Tie as tie

log-bits-requires : tie.Need-log_bits-bits-requires
log-bits-requires c κs = let s = c.before in (subst (λ (y : ℕ). y < 3) (sym c.other_than-general.ensures) (other_lt s.args.zone), s.requires.0, s.requires.1)

returns : tie.Need-returns
returns c = c.with_logs.ensures ∙ rw (c.log_bits-bits.ensures, c.other_than-general.ensures) refl

pub place_parity_spec : {M : Type 1} → statement M
place_parity_spec = tie.close (tie.spec (λ c κs. search rules) log-bits-requires (λ c κs. search rules) returns)
