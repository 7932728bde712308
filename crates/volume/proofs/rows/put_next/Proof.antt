use Prim.Native.Nat.{◌+◌, ◌-◌, ◌*◌, ◌≤◌, ◌<◌}
use mathlib.Core.Path.{◌≡◌, sym, ◌∙◌}
use mathlib.Core.Bool.{true, ◌&&◌}
use native.Mathlib.Nat.{le_refl, mul-le-mul}
use native.Mathlib.Omega.{arith}
use lib.Dec.{ltb, leb}
use lib.ListN.{length}
use borrow.Author.Tests.{ltb-true, leb-true}
use Rattle.tables.specs.laws.Basics.{and_split}
use Rattle.tables.specs.laws.Sizes.{zone_small}
use Rattle.volume.specs.looking.Knowing.{own_held}
use Rattle.volume.specs.rows.RowsInPlace.{held_then_new_lem, row_end, row_place, built_more, built_two, built_three}
use borrow.Author.Rules.{rules}
use Rattle.volume.proofs.rows.put_next.Statement.{statement}
use Rattle.volume.proofs.rows.put_next.Tie as tie

-- a unit's place in the stripe, and where the row begins
unit-small : (s : tie.Start) → s.args.k * s.args.known.geometry.unit ≤ 128
unit-small s =
    let h : s.args.k * s.args.known.geometry.unit ≤ 8 * 16 = mul-le-mul {n₂ = 8} {m₂ = 16} (omega (arith, s.requires.1.0, s.requires.0.drives_most)) s.requires.0.unit_most in
    omega arith

start_small : (s : tie.Start) → s.args.start < 458753
start_small s =
    let a = s.args in
    omega (arith, s.requires.1.1.begins, row_end a.known a.sectors.now a.pointers.now a.buffer.now a.start a.to s.requires.1.1, (zone_small a.known.geometry s.requires.0).1)

-- where three are taken at once, all of them come from the buffer
abbrev to_start : tie.After-put_three-arg-1 → tie.Start
to_start c = c.before.before.before.before.before.before

buffered : (c : tie.After-put_three-arg-1) → let a = (to_start c).args in let u = a.known.geometry.unit in
    (a.k + 2 < a.known.geometry.drives - 1) × (a.known.below ≤ a.start + a.k * u) × (a.start + a.k * u + 2 * u < a.known.end)
buffered c =
    let a = (to_start c).args in
    let at = a.start + a.k * a.known.geometry.unit in
    let last = at + 2 * a.known.geometry.unit in
    let (p, q) = and_split (ltb (a.k + 2) (a.known.geometry.drives - 1)) (leb a.known.below at && ltb last a.known.end) c.if-k-n.true in
    let (r, t) = and_split (leb a.known.below at) (ltb last a.known.end) q in
    (ltb-true (a.k + 2) (a.known.geometry.drives - 1) p, leb-true a.known.below at r, ltb-true last a.known.end t)

put-three-requires : tie.Need-put_three-requires
put-three-requires c κs =
    let s = to_start c.before in
    let a = s.args in
    let u = a.known.geometry.unit in
    let b = a.known.geometry.sector in
    let at = a.start + a.k * u in
    let (p, q, t) = buffered c.before in
    let e : at + 2 * u - a.known.below ≡ at - a.known.below + 2 * u = omega (arith, q) in
    let h : (at + 2 * u - a.known.below) * b + b ≤ length a.buffer.now = (s.requires.1.1.member (at + 2 * u) (omega arith)).in_buffer t (omega (arith, q)) in
    (s.requires.0, (row_place a.known a.sectors.now a.pointers.now a.buffer.now a.start a.to s.requires.1.1, rw e at h))

returns : tie.Need-returns-then-k-n
returns c =
    let p = c.before.before.before.before in
    let s = to_start p in
    let a = s.args in
    let f = c.put_three in
    let at = a.start + a.k * a.known.geometry.unit in (
      omega arith,
      omega (arith, (buffered p).0),
      λ xs built.
          built_three a.known s.requires.0 xs a.pointers.now a.buffer.now a.start a.to a.k a.sectors.now built (at - a.known.below) f.new.sectors
          (omega (arith, (buffered p).1)) (buffered p).2 f.auto.sectors f.ensures,
    )

-- where two are, the first is held and the second comes from the buffer
held-then-new-requires : tie.Need-held_then_new-pair-requires
held-then-new-requires c κs =
    let s = c.before.before.before.before.before in
    let m = s.requires.1.1.member s.args.start (le_refl s.args.start) in
    (s.requires.0, (m.readable.zone_in_lem, m.readable.written_long, m.end_most))

abbrev pair-start : tie.Then-k-n-2 → tie.Start
pair-start c = c.before.before.before.before.before.before.before

paired : (c : tie.Then-k-n-2) → let a = (pair-start c).args in let u = a.known.geometry.unit in
    (a.k + 1 < a.known.geometry.drives - 1) × (a.start + a.k * u < a.known.below) × (a.known.below ≤ a.start + a.k * u + u) × (a.start + a.k * u + u < a.known.end)
    × (own_held a.known.geometry a.known.here a.pointers.now a.known.zone (a.start + a.k * u) ≡ true)
paired c =
    let a = (pair-start c).args in
    let at = a.start + a.k * a.known.geometry.unit in
    let f = c.held_then_new-pair in
    let (p, q) = and_split (ltb (a.k + 1) (a.known.geometry.drives - 1)) f.result c.if-k-n-2.true in
    let (h, r, t, o) = held_then_new_lem a.known a.pointers.now at (at + a.known.geometry.unit) (sym f.ensures ∙ q) in
    (ltb-true (a.k + 1) (a.known.geometry.drives - 1) p, h, r, t, o)

put-held-with-requires : tie.Need-put_held_with-requires
put-held-with-requires c κs =
    let s = pair-start c.before in
    let a = s.args in
    let at = a.start + a.k * a.known.geometry.unit in
    let m = s.requires.1.1.member at (omega arith) in
    let (p, h, r, t, q) = paired c.before in
    (s.requires.0, (m.readable.zone_in_lem, omega (arith, t, m.end_most), m.readable.sectors_long, q, s.requires.1.1.free, (s.requires.1.1.member (at + a.known.geometry.unit) (omega arith)).in_buffer t r))

returns-2 : tie.Need-returns-then-k-n-2
returns-2 c =
    let p = c.before.before.before.before in
    let s = pair-start p in
    let a = s.args in
    let f = c.put_held_with in
    let (n, h, r, t, q) = paired p in (
      omega arith,
      omega (arith, n),
      λ xs built.
          built_two a.known s.requires.0 xs a.pointers.now a.buffer.now a.start a.to a.k a.sectors.now built (a.start + a.k * a.known.geometry.unit + a.known.geometry.unit - a.known.below) f.new.sectors
          h (omega (arith, r)) t q f.auto.sectors f.ensures,
    )

put-member-requires : tie.Need-put_member-requires
put-member-requires c κs =
    let s = c.before.before.before.before.before.before.before.before in
    let a = s.args in
    (s.requires.0, (s.requires.1.1.member (a.start + a.k * a.known.geometry.unit) (omega arith), s.requires.1.1.free))

returns-3 : tie.Need-returns
returns-3 c =
    let s = c.before.before.before.before.before.before.before.before.before.before.before in
    let a = s.args in
    let f = c.put_member in (
      omega arith,
      omega (arith, s.requires.1.0),
      λ xs built. built_more a.known s.requires.0 xs a.pointers.now a.buffer.now a.start a.to a.k a.sectors.now built f.new.sectors f.auto.sectors f.ensures,
    )

pub put_next_spec : {M : Type 1} → statement M
put_next_spec =
    tie.close
    (tie.spec (λ c. search rules) (λ c. omega (arith, unit-small c.before.before.before.before)) (λ c. omega (arith, unit-small c.before.before.before.before, start_small c.before.before.before.before)) (λ c. search rules)
    (λ c. let s = c.before.before.before.before in omega (arith, unit-small s, start_small s, s.requires.0.unit_most)) (λ c. search rules) (λ c. (buffered c.before).1) put-three-requires (λ c. search rules)
    (λ c. search rules) returns (λ c. let s = c.before.before.before.before.before in omega (arith, unit-small s, start_small s, s.requires.0.unit_most)) held-then-new-requires (λ c. search rules) (λ c. (paired c).2) put-held-with-requires
    (λ c. search rules) (λ c. search rules) returns-2 put-member-requires (λ c. search rules) (λ c. search rules) returns-3)
