use Rattle.std.proofs.Common.{ℕ, ◌+◌, ◌≤◌, List, refl, length, take, drop, arith, [], ◌∷◌}
use mathlib.Core.List.Memᴰ
use Rattle.tables.specs.meaning.Xor.{xor_bytes}
use Rattle.tables.specs.laws.Overlays.{PartsFit, parts_next, parts_all, parts_add, added_row_long}
use Rattle.tables.specs.laws.Within.{Apart}
use Rattle.tables.proofs.units.add_unit.Goals as goal

-- the two lists that are laid
abbrev parts : List ℕ → ℕ → ℕ → List ℕ → List (ℕ × List ℕ)
parts bytes to row a = (to, a) ∷ (row, xor_bytes (take (length a) (drop row bytes)) a) ∷ []

fits : (bytes : List ℕ) (to row : ℕ) (a : List ℕ) → (to + length a ≤ length bytes) × (row + length a ≤ length bytes) × Apart to row (length a) → PartsFit (length bytes) (length a) (parts bytes to row a)
fits bytes to row a r = (refl, r.0, (r.2, tt), (added_row_long bytes row (length a) a r.1 refl, r.1, tt, tt))

pub loop-i-preserved : goal.loop-i-preserved
loop-i-preserved c =
    let s = c.args in
    let ps = parts s.bytes.now s.to s.row s.a.now in
    let f = fits s.bytes.now s.to s.row s.a.now c.requires in
    let e = parts_add s.bytes.now (length s.a.now) ps c.loop-i.i c.loop-i.bytes f c.loop-i.invariant s.row (xor_bytes (take (length s.a.now) (drop s.row s.bytes.now)) s.a.now) s.a.now c.requires.1 refl (omega arith) (Memᴰ.tail (Memᴰ.head refl)) in
    rw (← e) at (parts_next s.bytes.now (length s.a.now) ps c.loop-i.i c.loop-i.bytes f c.loop-i.invariant (omega arith))

pub returns : goal.returns
returns c =
    let s = c.args in
    parts_all s.bytes.now (length s.a.now) (parts s.bytes.now s.to s.row s.a.now) c.loop-i.i c.loop-i.bytes (fits s.bytes.now s.to s.row s.a.now c.requires) c.loop-i.invariant (omega arith)
