use Prim.Native.Nat.{◌+◌, ◌*◌, ◌/◌, ◌<◌, ◌≤◌}
use mathlib.Core.Path.{◌≡◌, refl}
use native.Mathlib.Omega.{arith}
use borrow.Author.Rules.{rules}
use borrow.Author.Tests.{le-leb, lt-leb}
use Rattle.grouped.specs.meaning.Stripes.{id_at}
use Rattle.grouped.specs.laws.Segment.{stripe_in_lem}
use Rattle.grouped.specs.laws.Words.{set_word}
use Rattle.grouped.specs.places.Places.{note_place, stripe_at}
use Rattle.grouped.proofs.places.note_place.Statement.{statement}
use Rattle.grouped.proofs.places.note_place.Tie as tie

-- the ID that was read
told : (c : tie.After-widen-k) → c.widen-k.result ≡ id_at c.args.metadata.now (c.args.d * c.args.s.blocks + c.args.i)
unfolding id_at
told c = cc

returns : tie.Need-returns-then-g-k
unfolding note_place
returns c =
    let a = c.args in
    let h : a.s.group ≤ c.widen-k.result = omega arith in
    rw (le-leb a.s.group (id_at a.metadata.now (a.d * a.s.blocks + a.i)) (rw (← told c.before) h)) refl

-- it is a stripe's
inside : (c : tie.Else-g-k) → c.args.i / c.args.s.group * c.args.s.group + c.widen-k.result < c.args.s.blocks
inside c =
    let s = c.before.before.before.before.before.before in
    stripe_in_lem s.args.s s.args.i c.widen-k.result s.requires.0.valid.group_least s.requires.0.whole s.requires.1.1 (omega arith)

mul-cell-of : tie.Need-overflow_mul-i
mul-cell-of c = omega (arith, inside c, c.requires.0.valid.blocks_most)

add-cell-of : tie.Need-overflow_add-i
add-cell-of c = omega (arith, inside c, c.requires.0.valid.blocks_most)

cell-of-requires-2 : tie.Need-cell_of-to-requires
cell-of-requires-2 c κs = let s = c.before.before.before.before.before.before in (s.requires.0.valid, (s.requires.1.0, inside c))

returns-2 : tie.Need-returns
unfolding note_place stripe_at set_word
returns-2 c =
    let e = c.before.before.before.before.before in
    let a = e.args in
    let t = told e.before in
    let h : e.widen-k.result < a.s.group = omega arith in
    let k : c.cell_of-to.result ≡ a.d * a.s.blocks + (a.i / a.s.group * a.s.group + e.widen-k.result) = c.cell_of-to.ensures.0 in
    rw (← t, lt-leb a.s.group e.widen-k.result h, ← k) c.write_u32.ensures

pub note_place_spec : {M : Type 1} → statement M
note_place_spec =
    tie.close
    (tie.spec (λ c κs. search rules) (λ c. search rules) (λ c. search rules) (λ c κs. search rules) (λ c κs. search rules) returns (λ c. search rules)
    mul-cell-of add-cell-of cell-of-requires-2 (λ c. search rules) (λ c. search rules) (λ c. search rules) (λ c κs. search rules) (λ c. search rules) returns-2)
