-- Units of a stripe: a unit's sectors joined are one part of a write's buffer, and the rows of a complete stripe joined are the exclusive or of its units.
use Rattle.std.specs.Prelude.{◌≡◌, refl, ℕ, zero, suc, ◌+◌, ◌*◌, ◌≤◌, ◌<◌, List, [], ◌∷◌, ◌++◌, length, take, drop}
use Rattle.std.proofs.Common.{sym, ap, ◌∙◌, suc-mul, arith, take-add, drop-drop}
use Rattle.std.specs.Int.Bits.{bit_xor}
use Rattle.tables.specs.meaning.Below.{tabulate_from}
use Rattle.tables.specs.meaning.Lists.{concat}
use Rattle.tables.specs.meaning.Tables.{sector_no}
use Rattle.tables.specs.meaning.Xor.{xor_bytes, xor_below}
use Rattle.volume.specs.laws.Content.{xor_below_full}

-- ---- sectors that follow each other in a list of bytes
pub sectors_joined : (B : ℕ) (xs : List ℕ) (i n : ℕ) → concat (tabulate_from (sector_no B xs) i n) ≡ take (n * B) (drop (i * B) xs)
sectors_joined B xs i zero = let e : zero * B ≡ 0 = omega arith in rw e refl
sectors_joined B xs i (suc n) =
    let e : suc n * B ≡ B + n * B = rw suc-mul (omega arith) in
    let f : suc i * B ≡ i * B + B = rw suc-mul (omega arith) in
    ap (λ (l : List ℕ). take B (drop (i * B) xs) ++ l) (sectors_joined B xs (suc i) n ∙ rw (f, ← drop-drop B (i * B) xs) refl)
    ∙ sym (ap (λ (k : ℕ). take k (drop (i * B) xs)) e ∙ take-add B (n * B) (drop (i * B) xs))

-- ---- parts joined, and their exclusive or
xor_joined : (x y X Y : List ℕ) → length x ≡ length y → xor_bytes (x ++ X) (y ++ Y) ≡ xor_bytes x y ++ xor_bytes X Y
xor_joined [] [] X Y h = refl
xor_joined [] (b ∷ y) X Y h = absurd (omega arith)
xor_joined (a ∷ x) [] X Y h = absurd (omega arith)
xor_joined (a ∷ x) (b ∷ y) X Y h = ap (λ (l : List ℕ). bit_xor a b ∷ l) (xor_joined x y X Y (omega arith))

xor_concat : (f h : ℕ → List ℕ) (i n : ℕ) → ((r : ℕ) → i ≤ r → r < i + n → length (f r) ≡ length (h r))
    → concat (tabulate_from (λ r. xor_bytes (f r) (h r)) i n) ≡ xor_bytes (concat (tabulate_from f i n)) (concat (tabulate_from h i n))
xor_concat f h i zero e = refl
xor_concat f h i (suc n) e =
    ap (λ (l : List ℕ). xor_bytes (f i) (h i) ++ l) (xor_concat f h (suc i) n (λ r k l. e r (omega arith) (omega arith)))
    ∙ sym (xor_joined (f i) (h i) (concat (tabulate_from f (suc i) n)) (concat (tabulate_from h (suc i) n)) (e i (omega arith) (omega arith)))

nothing_joined : (i n : ℕ) → concat (tabulate_from (λ r. []) i n) ≡ []
nothing_joined i zero = refl
nothing_joined i (suc n) = nothing_joined (suc i) n

-- rows of members f j r, each of B bytes
pub rows_joined : (B : ℕ) (f : ℕ → ℕ → List ℕ) (N i n : ℕ) → ((j r : ℕ) → j < N → i ≤ r → r < i + n → length (f j r) ≡ B)
    → concat (tabulate_from (λ r. xor_below (λ j. f j r) N) i n) ≡ xor_below (λ j. concat (tabulate_from (f j) i n)) N
rows_joined B f zero i n long = nothing_joined i n
rows_joined B f (suc zero) i n long = refl
rows_joined B f (suc (suc N)) i n long =
    xor_concat (λ r. xor_below (λ j. f j r) (suc N)) (f (suc N)) i n
    (λ r k l. xor_below_full B (λ j. f j r) (suc N) 0 (omega arith) (long 0 r (omega arith) k l) (λ j h. omega (arith, long j r (omega arith) k l)) ∙ sym (long (suc N) r (omega arith) k l))
    ∙ ap (λ (l : List ℕ). xor_bytes l (concat (tabulate_from (f (suc N)) i n))) (rows_joined B f (suc N) i n (λ j r h k l. long j r (omega arith) k l))
