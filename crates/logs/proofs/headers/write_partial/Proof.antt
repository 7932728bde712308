use Rattle.logs.specs.meaning.Entry.{encode}
use Rattle.logs.specs.code.Judge.{start_small}
use Rattle.tables.specs.laws.Sizes.{zone_small}
use Prim.Native.Nat.{◌+◌, ◌*◌, ◌≤◌}
use native.Mathlib.Omega.{arith}
use mathlib.Core.Path.{◌∙◌, refl}
use borrow.Author.Rules.{rules}
use Rattle.logs.proofs.headers.write_partial.Statement.{statement}
use Rattle.logs.proofs.headers.write_partial.Tie as tie

product : (c : tie.After-stripe_sectors-k) → c.args.z * c.zone_sectors-q.result ≤ 7340032
product c = let s = c.before.before.before in start_small s.args.g s.args.z c.zone_sectors-q.result s.requires.0 s.requires.1.1 c.zone_sectors-q.ensures.2

inside : (c : tie.After-stripe_sectors-k) → c.args.s * c.stripe_sectors-k.result + c.args.fill ≤ 458752
inside c = let s = c.before.before.before in rw c.stripe_sectors-k.ensures.0 (omega (arith, s.requires.1.2, (zone_small s.args.g s.requires.0).1))

add_start : tie.Need-overflow_add-start
add_start c = omega (arith, product c, inside c)

add-end : tie.Need-overflow_add-end
add-end c = omega (arith, product c, inside c)

returns : tie.Need-returns
unfolding encode
returns c = let s = c.before.before.before.before.before.before.before in c.write_span.ensures ∙ rw (c.zone_sectors-q.ensures.0, c.stripe_sectors-k.ensures.0, s.requires.1.0) refl

pub write_partial_spec : {M : Type 1} → statement M
write_partial_spec =
    tie.close
    (tie.spec (λ c κs. search rules) (λ c κs. search rules) (λ c. omega (arith, product c)) (λ c. omega (arith, inside c)) add_start add-end
    (λ c κs. search rules) (λ c. search rules) returns)
