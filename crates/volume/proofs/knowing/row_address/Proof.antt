use mathlib.Core.Path.{refl}
use native.Mathlib.Omega.{arith}
use Rattle.tables.specs.meaning.Placement.{stripe_of, row_index}
use Rattle.tables.specs.laws.Placement.{stripe_begin, row_remainder, address_sum}
use Rattle.volume.specs.looking.KnowingLaws.{row_small}
use borrow.Author.Rules.{rules}
use Rattle.volume.proofs.knowing.row_address.Statement.{statement}
use Rattle.volume.proofs.knowing.row_address.Tie as tie

mul-result : tie.Need-overflow_mul-result
mul-result c =
    let s = c.before in
    let m = row_small s.args.g s.args.a s.args.k c.stripe_sectors-n.result s.requires.0 s.requires.1.0 s.requires.1.1 in
    omega (arith, m.0)

mul-result-2 : tie.Need-overflow_mul-result-2
mul-result-2 c =
    let s = c.before in
    let m = row_small s.args.g s.args.a s.args.k c.stripe_sectors-n.result s.requires.0 s.requires.1.0 s.requires.1.1 in
    omega (arith, m.1)

add-result : tie.Need-overflow_add-result
add-result c =
    let s = c.before in
    let m = row_small s.args.g s.args.a s.args.k c.stripe_sectors-n.result s.requires.0 s.requires.1.0 s.requires.1.1 in
    omega (arith, m.1, m.2)

add-result-2 : tie.Need-overflow_add-result-2
add-result-2 c =
    let s = c.before in
    let m = row_small s.args.g s.args.a s.args.k c.stripe_sectors-n.result s.requires.0 s.requires.1.0 s.requires.1.1 in
    omega (arith, m.0, m.1, m.2)

returns : tie.Need-returns
returns c =
    let a = c.args in
    let D = a.g.drives in
    let U = a.g.unit in
    let k = c.stripe_sectors-n in
    rw (stripe_begin D U a.a k.result k.ensures.0, row_remainder D U a.a k.result k.ensures.0, address_sum D U (stripe_of D U a.a) a.k (row_index D U a.a)) refl

pub row_address_spec : {M : Type 1} → statement M
row_address_spec =
    tie.close
    (tie.spec (λ c κs. search rules) (λ c. search rules) mul-result mul-result-2 (λ c. search rules) (λ c. search rules) add-result add-result-2
    returns)
