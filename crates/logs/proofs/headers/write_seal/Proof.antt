use Rattle.logs.specs.meaning.Entry.{encode}
use Rattle.logs.specs.code.Judge.{start_small}
use Rattle.tables.specs.laws.Sizes.{zone_small}
use Prim.Native.Nat.{◌*◌, ◌≤◌}
use native.Mathlib.Omega.{arith}
use mathlib.Core.Path.{◌∙◌, refl}
use borrow.Author.Rules.{rules}
use Rattle.logs.proofs.headers.write_seal.Statement.{statement}
use Rattle.logs.proofs.headers.write_seal.Tie as tie

product : (c : tie.After-zone_sectors-q) → c.args.z * c.zone_sectors-q.result ≤ 7340032
product c = let s = c.before.before in start_small s.args.g s.args.z c.zone_sectors-q.result s.requires.0 s.requires.1.1 c.zone_sectors-q.ensures.2

add-end : tie.Need-overflow_add-end
add-end c = let s = c.before.before in omega (arith, product c, s.requires.1.2, (zone_small s.args.g s.requires.0).1)

returns : tie.Need-returns
unfolding encode
returns c = let s = c.before.before.before.before.before.before in c.write_span.ensures ∙ rw (c.zone_sectors-q.ensures.0, s.requires.1.0) refl

pub write_seal_spec : {M : Type 1} → statement M
write_seal_spec =
    tie.close
    (tie.spec (λ c κs. search rules) (λ c. omega (arith, product c)) add-end (λ c κs. search rules) (λ c. search rules) returns)
