use Prim.Native.Nat.{ℕ}
use mathlib.Core.Path.{ap}
use Rattle.volume.specs.declared.rows.Extent.{Extent}
use Rattle.volume.specs.checks.Records.{zone_look}
use borrow.Author.Rules.{rules}
use Rattle.mounting.proofs.known.known_below.Statement.{statement}
use Rattle.mounting.proofs.known.known_below.Tie as tie

returns : tie.Need-returns
returns c =
    let a = c.args in
    let b = a.basis in
    ap (λ (l : ℕ). let r : Extent = record { geometry = b.geometry; to = a.to; here = b.here; zone = a.z; generation = (zone_look b.look a.z).generation; limit = l; below = a.end; end = a.end } in r) c.seal_limit-limit.ensures.0

pub known_below_spec : {M : Type 1} → statement M
known_below_spec = tie.close (tie.spec (λ c. search rules) (λ c. search rules) (λ c κs. search rules) returns)
