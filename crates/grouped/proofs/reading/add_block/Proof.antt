use mathlib.Core.Path.{◌≡◌, ◌∙◌, refl}
use mathlib.Core.Logic.{◌≢◌}
use Prim.Native.Nat.{◌+◌, ◌*◌, ◌-◌, ◌≤◌}
use native.Mathlib.Nat.{mul-le-mul_right}
use native.Mathlib.Omega.{arith}
use borrow.Author.Tests.{eq-eqb, ne_eqb}
use Rattle.grouped.specs.meaning.Segment.{total_blocks}
use Rattle.grouped.specs.laws.Segment.{bytes_small}
use Rattle.grouped.specs.places.Placed.{found_has}
use Rattle.grouped.specs.reading.Blocks.{add_block}
use borrow.Author.Rules.{rules}
use Rattle.grouped.proofs.reading.add_block.Statement.{statement}
use Rattle.grouped.proofs.reading.add_block.Tie as tie

returns : tie.Need-returns-then-d-missing
unfolding add_block
returns c = let a = c.args in let e : a.d ≡ a.missing = omega arith in rw (eq-eqb a.d a.missing e) refl

other : (c : tie.Else-d-missing) → c.args.d ≢ c.args.missing
other c = omega arith

place-of-requires : tie.Need-place_of-k-requires
place-of-requires c κs = let s = c.before.before.before.before in
    let a = s.args in
    (s.requires.0.0, found_has a.s a.missing a.work.now a.d a.n s.requires.0.1 s.requires.1.1 (other c) s.requires.1.0)

-- the block lies in the lent ones
room : (c : tie.After-place_of-k) → c.place_of-k.result * c.args.s.block + c.args.s.block ≤ total_blocks c.args.s * c.args.s.block
room c = omega (arith, mul-le-mul_right c.args.s.block c.place_of-k.ensures.1)

part-xor-into-end : tie.Need-slice_bounds-xor_into-end
part-xor-into-end c = let s = c.before.before.before.before.before.before in omega (arith, room c.before, s.requires.1.2)

returns-2 : tie.Need-returns
unfolding add_block
returns-2 c =
    let p = c.before.before.before.before.before in
    let a = p.args in
    let f = p.place_of-k in
    let d : f.result * a.s.block + a.s.block - f.result * a.s.block ≡ a.s.block = omega arith in
    c.xor_into.ensures ∙ rw (ne_eqb a.d a.missing (other p.before), d, f.ensures.0) refl

pub add_block_spec : {M : Type 1} → statement M
add_block_spec = tie.close (tie.spec returns place-of-requires (λ c. let s = c.before.before.before.before.before in omega (arith, room c, bytes_small s.args.s s.requires.0.0)) (λ c. let s = c.before.before.before.before.before in omega (arith, room c, bytes_small s.args.s s.requires.0.0)) (λ c. search rules) (λ c. search rules) part-xor-into-end (λ c κs. search rules) (λ c. search rules) returns-2)
