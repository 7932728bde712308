-- What the bytes of the C edge mean (meaning/Bytes): bytes of the form are those of the state that they hold; how loops lay tables, records and shares.
use Rattle.std.specs.Prelude.{◌≡◌, refl, true, ℕ, zero, suc, ◌+◌, ◌-◌, ◌*◌, ◌%◌, ◌≤◌, ◌<◌, List, ◌++◌, length, get_or, take, drop, replicate, set}
use Rattle.std.proofs.Common.{sym, ap, ap₂, ◌∙◌, arith, append-nil, append_assoc, length-append, length-drop, take_at, drop-cons, drop-drop}
use Rattle.std.proofs.lemmas.List.{take-append-le, drop-append-le, set_at}
use Rattle.std.proofs.Math.Seq.{take-append-add, drop-append-add, append_snoc, drop-length}
use Rattle.tables.specs.declared.Geometry.{Geometry}
use Rattle.tables.specs.meaning.Below.{tabulate}
use Rattle.tables.specs.laws.Below.{length_tabulate}
use Rattle.tables.specs.meaning.Lists.{overlay}
use Rattle.tables.specs.meaning.LittleEndian.{bytes_le}
use Rattle.tables.specs.laws.LittleEndian.{write_le, same_bytes_eq}
use Rattle.tables.specs.laws.Lists.{lay_lay}
use Rattle.volume.specs.declared.ZoneRecord.{ZoneRecord}
use Rattle.volume.specs.declared.State.{State}
use Rattle.volume.specs.meaning.State.{pointer_in}
use Rattle.volume.specs.meaning.CallContracts.{record_at}
use Rattle.zrv.specs.meaning.Bytes.{shares_start, state_bytes, words_to, kind_of, record_to, records_to, no_records, no_shares, records_part, shares_part, shares_of, state_to, state_from, state_well_formed}

-- ---- bytes of the form are those of the state that they hold
pub bytes_state_bytes : (g : Geometry) (xs : List ℕ) → state_well_formed g xs ≡ true → state_to g (state_from g xs) ≡ xs
unfolding state_well_formed
bytes_state_bytes g xs h = same_bytes_eq (state_to g (state_from g xs)) xs h

-- ---- for the loops
-- laid after what is there already
pub lay_next : (p b src : List ℕ) (at : ℕ) → length p ≡ at → overlay (p ++ drop at b) at src ≡ p ++ src ++ drop (at + length src) b
lay_next p b src at e =
    ap₂ (λ (x y : List ℕ). x ++ src ++ y) (take_at p (drop at b) at e)
    (ap (λ (n : ℕ). drop (n + length src) (p ++ drop at b)) (sym e) ∙ drop-append-add p (drop at b) (length src) ∙ drop-drop (length src) at b)

-- a slice filled from its front
pub fill_slice : (f : ℕ → ℕ) (d : List ℕ) (i : ℕ) → i < length d → set (tabulate f i ++ drop i d) i (f i) ≡ tabulate f (suc i) ++ drop (suc i) d
fill_slice f d i h =
    ap (λ (r : List ℕ). set (tabulate f i ++ r) i (f i)) (drop-cons d i 0 h)
    ∙ set_at (tabulate f i) (get_or d i 0) (drop (suc i) d) (f i) i (length_tabulate f i)
    ∙ sym (append_snoc (tabulate f i) (f i) (drop (suc i) d))

pub filled : (xs d : List ℕ) (n : ℕ) → n ≡ length d → xs ++ drop n d ≡ xs
filled xs d n e = rw (e, drop-length d) (append-nil xs)

pub length_words_to : (n : ℕ) (ts : List ℕ) → length (words_to n ts) ≡ n * 4
length_words_to zero ts = refl
length_words_to (suc n) ts = length-append (words_to n ts) (bytes_le 4 (get_or ts n 0)) ∙ rw (length_words_to n ts) (omega arith)

pub words_more : (n : ℕ) (ts b : List ℕ) → write_le 4 (words_to n ts ++ drop (n * 4) b) (n * 4) (get_or ts n 0) ≡ words_to (suc n) ts ++ drop (suc n * 4) b
words_more n ts b =
    let e : n * 4 + 4 ≡ suc n * 4 = omega arith in
    lay_next (words_to n ts) b (bytes_le 4 (get_or ts n 0)) (n * 4) (length_words_to n ts) ∙ ap (λ (k : ℕ). words_to (suc n) ts ++ drop k b) e

-- laid in the first of two lists, and in the second
pub overlay_front : (p q : List ℕ) (at : ℕ) (src : List ℕ) → at + length src ≤ length p → overlay (p ++ q) at src ≡ overlay p at src ++ q
overlay_front p q at src h =
    ap₂ (λ (x y : List ℕ). x ++ src ++ y) (take-append-le at p q (omega arith)) (drop-append-le (at + length src) p q h) ∙ sym (append_assoc (take at p ++ src) (drop (at + length src) p) q)

pub overlay_back : (p q : List ℕ) (n at : ℕ) (src : List ℕ) → length p ≡ n → overlay (p ++ q) (n + at) src ≡ p ++ overlay q at src
overlay_back p q n at src e =
    let far : n + at + length src ≡ length p + (at + length src) = omega (arith, e) in
    ap₂ (λ (x y : List ℕ). x ++ src ++ y) (ap (λ (k : ℕ). take (k + at) (p ++ q)) (sym e) ∙ take-append-add p q at) (ap (λ (k : ℕ). drop k (p ++ q)) far ∙ drop-append-add p q (at + length src))
    ∙ ap (λ (l : List ℕ). l ++ drop (at + length src) q) (append_assoc p (take at q) src) ∙ append_assoc p (take at q ++ src) (drop (at + length src) q)

-- ---- a record's three numbers, laid one after the other
pub record_laid : (xs : List ℕ) (at : ℕ) (r : ZoneRecord) → at + 16 ≤ length xs
    → write_le 4 (write_le 4 (write_le 8 xs at r.generation) (at + 8) (kind_of r)) (at + 12) (pointer_in r.condition % 4294967296) ≡ overlay xs at (record_to r)
unfolding record_to
record_laid xs at r h =
    let a = bytes_le 8 r.generation in
    let b = bytes_le 4 (kind_of r) in
    let c = bytes_le 4 (pointer_in r.condition % 4294967296) in
    ap (λ (ys : List ℕ). overlay ys (at + 12) c) (lay_lay xs at a b (omega arith)) ∙ lay_lay xs at (a ++ b) c (omega arith)

-- ---- lengths
pub length_record_to : (r : ZoneRecord) → length (record_to r) ≡ 16
unfolding record_to
length_record_to r = refl

pub length_records_to : (n : ℕ) (s : State) → length (records_to n s) ≡ 8 + 16 * n
length_records_to zero s = refl
length_records_to (suc n) s = length-append (records_to n s) (record_to (record_at s n)) ∙ rw (length_records_to n s, length_record_to (record_at s n)) (omega arith)

pub length_records_part : (n : ℕ) (s : State) → n ≤ 16 → length (records_part n s) ≡ shares_start
length_records_part n s h =
    let e : length (drop (8 + 16 * n) no_records) ≡ 264 - (8 + 16 * n) = length-drop (8 + 16 * n) no_records in
    length-append (records_to n s) (drop (8 + 16 * n) no_records) ∙ omega (arith, e, length_records_to n s, h)

pub length_shares_part : (k : ℕ) (s : State) → k ≤ 16 → length (shares_part k s) ≡ 64
length_shares_part k s h =
    let e : length (drop (k * 4) no_shares) ≡ 64 - k * 4 = length-drop (k * 4) no_shares in
    length-append (words_to k s.shares) (drop (k * 4) no_shares) ∙ omega (arith, e, length_words_to k s.shares, h)

-- ---- a state's bytes, laid from all zeros: the lost drive, record after record, share after share
pub state_start : (s : State) → write_le 8 (replicate state_bytes 0) 0 (s.lost % 256) ≡ records_part 0 s ++ shares_part 0 s
state_start s = refl

pub records_more : (z : ℕ) (s : State) (t : List ℕ) → z < 16 → overlay (records_part z s ++ t) (8 + 16 * z) (record_to (record_at s z)) ≡ records_part (suc z) s ++ t
records_more z s t h =
    let r = record_to (record_at s z) in
    let e : 8 + 16 * z + length r ≡ 8 + 16 * suc z = rw (length_record_to (record_at s z)) (omega arith) in
    overlay_front (records_part z s) t (8 + 16 * z) r (omega (arith, length_records_part z s (omega arith), length_record_to (record_at s z), h))
    ∙ ap (λ (l : List ℕ). l ++ t) (lay_next (records_to z s) no_records r (8 + 16 * z) (length_records_to z s) ∙ ap (λ (k : ℕ). records_to (suc z) s ++ drop k no_records) e)

pub shares_more : (i : ℕ) (s : State) (p : List ℕ) → length p ≡ shares_start → write_le 4 (p ++ shares_part i s) (264 + i * 4) (get_or s.shares i 0) ≡ p ++ shares_part (suc i) s
shares_more i s p e = overlay_back p (shares_part i s) 264 (i * 4) (bytes_le 4 (get_or s.shares i 0)) e ∙ ap (λ (l : List ℕ). p ++ l) (words_more i s.shares no_shares)

pub state_laid : (g : Geometry) (s : State) → records_part g.zones s ++ shares_part (shares_of g) s ≡ state_to g s
unfolding state_to
state_laid g s = refl

pub length_state_to : (g : Geometry) (s : State) → g.zones ≤ 16 → g.drives ≤ 8 → length (state_to g s) ≡ state_bytes
unfolding state_to
length_state_to g s h k =
    length-append (records_part g.zones s) (shares_part (shares_of g) s) ∙ omega (arith, length_records_part g.zones s h, length_shares_part (shares_of g) s (omega arith))
