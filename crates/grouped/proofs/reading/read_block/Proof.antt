use mathlib.Core.Path.{◌≡◌, ◌∙◌, refl, sym, ap}
use mathlib.Core.Logic.{◌≢◌}
use Prim.Native.Nat.{ℕ, ◌+◌, ◌*◌, ◌-◌, ◌/◌, ◌≤◌}
use native.Mathlib.Nat.{mul-le-mul_right}
use native.Mathlib.Omega.{arith}
use lib.ListN.{length, take, drop}
use borrow.Author.Tests.{eq-eqb, ne_eqb}
use Rattle.tables.specs.laws.Lists.{overlay_all}
use Rattle.grouped.specs.meaning.Segment.{total_blocks}
use Rattle.grouped.specs.laws.Segment.{bytes_small}
use Rattle.grouped.specs.places.Placed.{cell, found_has}
use Rattle.grouped.specs.reading.Blocks.{block_noted_at, held_length}
use borrow.Author.Rules.{rules}
use Rattle.grouped.proofs.reading.read_block.Statement.{statement}
use Rattle.grouped.proofs.reading.read_block.Tie as tie

div-d : tie.Need-nonzero_div-d
div-d c = let s = c.before.before.before in omega (arith, (cell s.args.s s.args.c s.requires.1.0).some)

rem-stripe : tie.Need-nonzero_rem-stripe
rem-stripe c = let s = c.before.before.before in omega (arith, (cell s.args.s s.args.c s.requires.1.0).some)

rebuild-requires : tie.Need-rebuild-requires
rebuild-requires c κs = let s = c.before.before.before.before.before in (s.requires.0, ((cell s.args.s s.args.c s.requires.1.0).stripe, s.requires.1.1, s.requires.1.2))

returns : tie.Need-returns-then-d-missing
unfolding block_noted_at
returns c =
    let a = c.args in
    let e : a.c / a.s.blocks ≡ a.missing = omega arith in
    rw (eq-eqb (a.c / a.s.blocks) a.missing e) c.before.before.rebuild.ensures

other : (c : tie.Else-d-missing) → c.args.c / c.args.s.blocks ≢ c.args.missing
other c = omega arith

place-of-requires : tie.Need-place_of-k-requires
place-of-requires c κs = let s = c.before.before.before.before in
    let a = s.args in
    let k = cell a.s a.c s.requires.1.0 in
    (s.requires.0.0, found_has a.s a.missing a.work.now _ _ s.requires.0.1 k.drive (other c) k.stripe)

-- the block lies in the lent ones
room : (c : tie.After-place_of-k) → c.place_of-k.result * c.args.s.block + c.args.s.block ≤ total_blocks c.args.s * c.args.s.block
room c = omega (arith, mul-le-mul_right c.args.s.block c.place_of-k.ensures.1)

part-copy-in-end : tie.Need-slice_bounds-copy_in-end
part-copy-in-end c = let s = c.before.before.before.before.before.before in omega (arith, room c.before, s.requires.1.1)

returns-2 : tie.Need-returns
unfolding block_noted_at
returns-2 c =
    let p = c.before.before.before.before.before in
    let s = p.before.before.before.before.before in
    let a = s.args in
    let f = p.place_of-k in
    let d : f.result * a.s.block + a.s.block - f.result * a.s.block ≡ a.s.block = omega arith in
    let part = take (f.result * a.s.block + a.s.block - f.result * a.s.block) (drop (f.result * a.s.block) a.blocks.now) in
    let l : length part ≡ length a.answer.now = ap (λ (n : ℕ). length (take n (drop (f.result * a.s.block) a.blocks.now))) d ∙ held_length a.s a.blocks.now f.result f.ensures.1 s.requires.1.1 ∙ sym s.requires.1.2 in
    c.copy_in.ensures ∙ overlay_all a.answer.now part l ∙ rw (ne_eqb (a.c / a.s.blocks) a.missing (other p.before), d, f.ensures.0) refl

pub read_block_spec : {M : Type 1} → statement M
read_block_spec = tie.close (tie.spec div-d rem-stripe rebuild-requires (λ c. search rules) returns place-of-requires (λ c. let s = c.before.before.before.before.before in omega (arith, room c, bytes_small s.args.s s.requires.0.0)) (λ c. let s = c.before.before.before.before.before in omega (arith, room c, bytes_small s.args.s s.requires.0.0)) (λ c. search rules) (λ c. search rules) part-copy-in-end (λ c κs. search rules) (λ c. search rules) returns-2)
