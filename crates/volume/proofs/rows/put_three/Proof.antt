use Prim.Native.Nat.{ℕ, ◌+◌, ◌-◌, ◌*◌, ◌≤◌}
use mathlib.Core.List.{List, ◌++◌}
use mathlib.Core.Bool.{true, false}
use native.Mathlib.Nat.{mul-le-mul_left, mul-one}
use mathlib.Core.Path.{◌≡◌, refl, ap, ◌∙◌}
use native.Mathlib.Omega.{arith}
use lib.ListN.{length, take, drop}
use Rattle.tables.specs.meaning.Basics.{pick}
use Rattle.tables.specs.meaning.Lists.{overlay}
use Rattle.tables.specs.meaning.Xor.{xor_bytes}
use Rattle.tables.specs.meaning.Tables.{sector_no}
use Rattle.tables.specs.laws.Within.{part_long, part_changed}
use Rattle.volume.specs.rows.RowsInPlace.{with_three}
use borrow.Author.Rules.{rules}
use Rattle.volume.proofs.rows.put_three.Statement.{statement}
use Rattle.volume.proofs.rows.put_three.Tie as tie

-- a sector's number is at most its place
number_small : (s : tie.Start) → s.args.i ≤ s.args.i * s.args.g.sector
number_small s =
    let h : 1 ≤ s.args.g.sector = omega (arith, s.requires.0.sector_least) in
    rw mul-one at (mul-le-mul_left s.args.i h)

-- the place in the sectors is one sector long
place-long : (s : tie.Start) → length (take (s.args.to + s.args.g.sector - s.args.to) (drop s.args.to s.args.sectors.now)) ≡ s.args.to + s.args.g.sector - s.args.to
place-long s = part_long s.args.sectors.now s.args.to (s.args.to + s.args.g.sector - s.args.to) (omega (arith, s.requires.1.0))

-- and each part of the buffer is a sector
abbrev part : tie.Start → ℕ → List ℕ
part s n = take (n * s.args.g.sector + s.args.g.sector - n * s.args.g.sector) (drop (n * s.args.g.sector) s.args.buffer.now)

abbrev sector : tie.Start → ℕ → List ℕ
sector s n = sector_no s.args.g.sector s.args.buffer.now n

part-is : (s : tie.Start) (n : ℕ) → part s n ≡ sector s n
part-is s n =
    let b = s.args.g.sector in
    let e : n * b + b - n * b ≡ b = omega arith in
    rw e refl

-- the three of them, laid or added
abbrev second : tie.Start → ℕ
second s = s.args.i + s.args.g.unit

abbrev third : tie.Start → ℕ
third s = s.args.i + 2 * s.args.g.unit

abbrev here : tie.Start → List ℕ
here s = take (s.args.to + s.args.g.sector - s.args.to) (drop s.args.to s.args.sectors.now)

abbrev begun : tie.Start → List ℕ
begun s = pick s.args.first (sector s s.args.i) (xor_bytes (take (length (sector s s.args.i)) (drop s.args.to s.args.sectors.now)) (sector s s.args.i))

laid : (s : tie.Start) → s.args.first ≡ true → xor_bytes (xor_bytes (part s s.args.i) (part s (second s))) (part s (third s)) ≡ xor_bytes (xor_bytes (begun s) (sector s (second s))) (sector s (third s))
laid s h = rw (part-is s s.args.i, part-is s (second s), part-is s (third s), h) refl

added : (s : tie.Start) → s.args.first ≡ false → xor_bytes (xor_bytes (xor_bytes (here s) (part s s.args.i)) (part s (second s))) (part s (third s)) ≡ xor_bytes (xor_bytes (begun s) (sector s (second s))) (sector s (third s))
added s h =
    let a = s.args in
    let b = a.g.sector in
    let l : length (sector s a.i) ≡ b = part_long a.buffer.now (a.i * b) b (omega (arith, s.requires.1.1)) in
    let e : a.to + b - a.to ≡ length (sector s a.i) = omega (arith, l) in
    rw (part-is s a.i, part-is s (second s), part-is s (third s), e, h) refl

-- the place is changed, and nothing else
changed : (s : tie.Start) (ys : List ℕ) → length ys ≡ length (here s) → ys ≡ xor_bytes (xor_bytes (begun s) (sector s (second s))) (sector s (third s))
    → take s.args.to s.args.sectors.now ++ (ys ++ drop (s.args.to + s.args.g.sector - s.args.to) (drop s.args.to s.args.sectors.now)) ≡ with_three s.args.first s.args.sectors.now s.args.to (sector s s.args.i) (sector s (second s)) (sector s (third s))
changed s ys l e = part_changed s.args.sectors.now ys s.args.to (s.args.to + s.args.g.sector - s.args.to) (l ∙ place-long s) ∙ ap (overlay s.args.sectors.now s.args.to) e

returns : tie.Need-returns-then-first
returns c =
    let s = c.before.before.before.before.before.before.before.before.before.before in
    let f = c.lay_three in
    changed s f.new.acc f.auto.acc (f.ensures ∙ laid s c.if-first.true)

returns-2 : tie.Need-returns
returns-2 c =
    let s = c.before.before.before.before.before.before.before.before.before.before in
    let f = c.xor_three in
    changed s f.new.acc f.auto.acc (f.ensures ∙ added s c.if-first.false)

pub put_three_spec : {M : Type 1} → statement M
put_three_spec =
    tie.close
    (tie.spec (λ c. search rules) (λ c. omega (arith, number_small c.before.before, c.requires.0.unit_most)) (λ c. search rules) (λ c. search rules) (λ c. omega (arith, number_small c.before.before, c.requires.0.unit_most)) (λ c. search rules) (λ c. search rules) (λ c. search rules)
    (λ c. search rules) (λ c. search rules) (λ c. search rules) (λ c. search rules) (λ c. search rules) (λ c. search rules) (λ c. search rules)
    (λ c. search rules) (λ c. search rules) (λ c. search rules) (λ c. search rules) (λ c. search rules) (λ c. search rules) (λ c. search rules)
    (λ c κs. search rules) (λ c. search rules) returns (λ c. search rules) (λ c. search rules) (λ c. search rules) (λ c. search rules)
    (λ c. search rules) (λ c. search rules) (λ c. search rules) (λ c. search rules) (λ c. search rules) (λ c. search rules) (λ c. search rules)
    (λ c. search rules) (λ c κs. search rules) (λ c. search rules) returns-2)
