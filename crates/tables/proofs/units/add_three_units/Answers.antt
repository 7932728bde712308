use Rattle.std.proofs.Common.{ℕ, refl, ap, ◌∙◌, get_or, length, take, drop, arith}
use Rattle.std.specs.Int.Bits.{bit_xor}
use Rattle.tables.specs.meaning.Xor.{xor_bytes}
use Rattle.tables.specs.laws.Overlays.{parts_next, parts_all, parts_add, added_row_long, unit_parts, row_among, units_fit}
use Rattle.tables.proofs.Three.{three_long, three_at}
use Rattle.tables.proofs.units.add_three_units.Goals as goal

pub loop-i-preserved : goal.loop-i-preserved
loop-i-preserved c =
    let s = c.args in
    let p = s.parts in
    let n = length s.a.now in
    let one = xor_bytes (take n (drop p.row s.bytes.now)) s.a.now in
    let l = added_row_long s.bytes.now p.row n s.a.now c.requires.2.3 refl in
    let row = xor_bytes (xor_bytes one s.b.now) s.c.now in
    let ps = unit_parts p.first p.second p.third p.row s.a.now s.b.now s.c.now row in
    let f = units_fit (length s.bytes.now) n p s.a.now s.b.now s.c.now row c.requires.2 refl c.requires.0 c.requires.1 (three_long one s.b.now s.c.now (omega arith) (omega arith) ∙ l) in
    let e =
    ap (λ (x : ℕ). bit_xor (bit_xor x (get_or s.b.now c.loop-i.i 0)) (get_or s.c.now c.loop-i.i 0))
    (parts_add s.bytes.now n ps c.loop-i.i c.loop-i.bytes f c.loop-i.invariant p.row row s.a.now c.requires.2.3 refl (omega arith) (row_among p.first p.second p.third p.row s.a.now s.b.now s.c.now row))
    ∙ three_at one s.b.now s.c.now c.loop-i.i (omega arith) (omega arith) (omega arith) in
    rw (← e) at (parts_next s.bytes.now n ps c.loop-i.i c.loop-i.bytes f c.loop-i.invariant (omega arith))

pub returns : goal.returns
returns c =
    let s = c.args in
    let p = s.parts in
    let n = length s.a.now in
    let one = xor_bytes (take n (drop p.row s.bytes.now)) s.a.now in
    let l = added_row_long s.bytes.now p.row n s.a.now c.requires.2.3 refl in
    let row = xor_bytes (xor_bytes one s.b.now) s.c.now in
    let f = units_fit (length s.bytes.now) n p s.a.now s.b.now s.c.now row c.requires.2 refl c.requires.0 c.requires.1 (three_long one s.b.now s.c.now (omega arith) (omega arith) ∙ l) in
    parts_all s.bytes.now n (unit_parts p.first p.second p.third p.row s.a.now s.b.now s.c.now row) c.loop-i.i c.loop-i.bytes f c.loop-i.invariant (omega arith)
