-- Counters and labels, as the code compares them.
use Rattle.std.specs.Prelude.{◌≡◌, ◌≢◌, Bool, ◌&&◌, not, ℕ, zero, suc, ◌+◌, ◌-◌, ◌*◌, ◌≤◌, List, [], ◌∷◌, ◌++◌, get_or, take, drop, eqb}
use Rattle.std.proofs.Math.Path.{refl, ap}
use Rattle.std.proofs.Common.{sym, ap₂, ◌∙◌, arith, take-add}
use Rattle.std.proofs.Math.ListN.{length, replicate, length-drop}
use Rattle.std.proofs.Math.Seq.{drop-drop}
use borrow.Author.Tests.{eq-eqb, ne_eqb}
use Rattle.tables.specs.declared.Geometry.{Geometry}
use Rattle.tables.specs.meaning.Geometry.{log2, physical_zones}
use Rattle.tables.specs.meaning.LittleEndian.{bytes_le, number_le, words_le, numbers_le, same_bytes}
use Rattle.tables.specs.laws.LittleEndian.{Bytes, bytes_drop, bytes_number_le, same_bytes_refl}
use Rattle.logs.specs.code.Lays.{same_append, frame_same, head_same, ones_are, and_true, length_words}
use Rattle.logs.specs.meaning.Entry.{Header, label, counters, read_fields, kind_of, fits_log, encode, label_bytes}

pub numbers_long : (n : ℕ) (t : List ℕ) → length (numbers_le n t) ≡ n
numbers_long zero t = refl
numbers_long (suc n) t = ap suc (numbers_long n (drop 8 t))

-- n numbers of 8 bytes are the bytes that they are read from
words_are : (n : ℕ) (t : List ℕ) → Bytes t → 8 * n ≤ length t → words_le (numbers_le n t) ≡ take (8 * n) t
words_are zero t h l = refl
words_are (suc n) t h l =
    let e : 8 * suc n ≡ 8 + 8 * n = omega arith in
    let rest = words_are n (drop 8 t) (bytes_drop 8 t h) (rw length-drop (omega arith)) in
    ap₂ (λ (a b : List ℕ). a ++ b) (bytes_number_le 8 t h (omega arith)) rest ∙ sym (ap (λ (m : ℕ). take m t) e ∙ take-add 8 (8 * n) t)

words_same : (n : ℕ) (t rest : List ℕ) → Bytes t → 8 * n ≤ length t → same_bytes (words_le (numbers_le n t) ++ rest) t ≡ same_bytes rest (drop (8 * n) t)
words_same n t rest h l =
    let w = words_le (numbers_le n t) in
    let e : length w ≡ 8 * n = length_words (numbers_le n t) ∙ ap (λ (m : ℕ). 8 * m) (numbers_long n t) in
    same_append w rest t ∙ ap (λ (m : ℕ). same_bytes w (take m t) && same_bytes rest (drop m t)) e
    ∙ ap (λ (u : List ℕ). same_bytes w u && same_bytes rest (drop (8 * n) t)) (sym (words_are n t h l)) ∙ ap (λ (b : Bool). b && same_bytes rest (drop (8 * n) t)) (same_bytes_refl w)

module _ (g : Geometry) (s : List ℕ) where
  -- the fields of a sector, as counters
  abbrev pub as_counters : Header
  as_counters = counters (numbers_le g.zones (drop 32 s))

  pub fields_counters : kind_of s ≡ 2 → read_fields g s ≡ as_counters
  unfolding read_fields
  fields_counters k = rw k refl

  pub counters_same : (d : ℕ) → Bytes s → length s ≡ g.sector → 32 + 8 * g.zones ≤ length s → same_bytes (encode g d as_counters) s ≡ head_same 2 0 0 0 s && same_bytes (replicate (length s - (32 + 8 * g.zones)) 0) (drop (32 + 8 * g.zones) s)
  unfolding encode
  counters_same d h e l =
      frame_same 2 0 0 0 (words_le (numbers_le g.zones (drop 32 s)) ++ replicate (g.sector - (32 + 8 * length (numbers_le g.zones (drop 32 s)))) 0) s
      ∙ ap (λ (b : Bool). head_same 2 0 0 0 s && b) (words_same g.zones (drop 32 s) (replicate (g.sector - (32 + 8 * length (numbers_le g.zones (drop 32 s)))) 0) (bytes_drop 32 s h) (rw length-drop (omega arith))
      ∙ rw (numbers_long g.zones (drop 32 s), e, drop-drop (8 * g.zones) 32 s) refl)

  pub counters_fit : (d : ℕ) (par : Bool) → fits_log g d par as_counters ≡ not par
  counters_fit d par = rw (numbers_long g.zones (drop 32 s), eq-eqb g.zones g.zones refl) (and_true (not par))

  -- ---- labels
  abbrev pub as_label : Header
  as_label = label (get_or s 36 0) (number_le (take 8 (drop 48 s)))

  pub fields_label : kind_of s ≢ 2 → kind_of s ≢ 3 → kind_of s ≢ 4 → kind_of s ≢ 5 → kind_of s ≢ 6 → read_fields g s ≡ as_label
  unfolding read_fields
  fields_label a b c d e = rw (ne_eqb (kind_of s) 2 a, ne_eqb (kind_of s) 3 b, ne_eqb (kind_of s) 4 c, ne_eqb (kind_of s) 5 d, ne_eqb (kind_of s) 6 e) refl

-- bytes 32 to 39 are a label's: D, U, log2 of B, the drive's index, the lost drive, zeros
unfoldable pub label_same : Geometry → ℕ → ℕ → List ℕ → Bool
label_same g d x s =
    eqb g.drives (get_or s 32 0) && (eqb g.unit (get_or s 33 0) && (eqb (log2 g.sector) (get_or s 34 0) && (eqb d (get_or s 35 0) && (eqb x (get_or s 36 0) && (eqb 0 (get_or s 37 0) && (eqb 0 (get_or s 38 0) && eqb 0 (get_or s 39 0)))))))

label_same_lem : (g : Geometry) (d x a : ℕ) (s : List ℕ) → length s ≡ g.sector → 56 ≤ length s
    → same_bytes (encode g d (label x a)) s ≡ head_same 1 0 0 0 s && (label_same g d x s && (same_bytes (bytes_le 4 g.capacity) (take 4 (drop 40 s)) && (same_bytes (bytes_le 4 (physical_zones g)) (take 4 (drop 44 s)) && (same_bytes (bytes_le 8 a) (take 8 (drop 48 s)) && same_bytes (replicate (length s - 56) 0) (drop 56 s)))))
unfolding encode label_bytes label_same
label_same_lem g d x a s e h =
    let m : List ℕ = g.drives ∷ g.unit ∷ log2 g.sector ∷ d ∷ x ∷ 0 ∷ 0 ∷ 0 ∷ [] in
    let z : List ℕ = replicate (g.sector - 56) 0 in
    let p4 : same_bytes (bytes_le 8 a ++ z) (drop 48 s) ≡ same_bytes (bytes_le 8 a) (take 8 (drop 48 s)) && same_bytes z (drop 56 s) =
    same_append (bytes_le 8 a) z (drop 48 s) ∙ ap (λ (t : List ℕ). same_bytes (bytes_le 8 a) (take 8 (drop 48 s)) && same_bytes z t) (drop-drop 8 48 s) in
    let p3 : same_bytes (bytes_le 4 (physical_zones g) ++ (bytes_le 8 a ++ z)) (drop 44 s) ≡ same_bytes (bytes_le 4 (physical_zones g)) (take 4 (drop 44 s)) && (same_bytes (bytes_le 8 a) (take 8 (drop 48 s)) && same_bytes z (drop 56 s)) =
    same_append (bytes_le 4 (physical_zones g)) (bytes_le 8 a ++ z) (drop 44 s) ∙ ap (λ (t : List ℕ). same_bytes (bytes_le 4 (physical_zones g)) (take 4 (drop 44 s)) && same_bytes (bytes_le 8 a ++ z) t) (drop-drop 4 44 s) ∙ ap (λ (b : Bool). same_bytes (bytes_le 4 (physical_zones g)) (take 4 (drop 44 s)) && b) p4 in
    let p2 : same_bytes (bytes_le 4 g.capacity ++ (bytes_le 4 (physical_zones g) ++ (bytes_le 8 a ++ z))) (drop 40 s) ≡ same_bytes (bytes_le 4 g.capacity) (take 4 (drop 40 s)) && (same_bytes (bytes_le 4 (physical_zones g)) (take 4 (drop 44 s)) && (same_bytes (bytes_le 8 a) (take 8 (drop 48 s)) && same_bytes z (drop 56 s))) =
    same_append (bytes_le 4 g.capacity) (bytes_le 4 (physical_zones g) ++ (bytes_le 8 a ++ z)) (drop 40 s) ∙ ap (λ (t : List ℕ). same_bytes (bytes_le 4 g.capacity) (take 4 (drop 40 s)) && same_bytes (bytes_le 4 (physical_zones g) ++ (bytes_le 8 a ++ z)) t) (drop-drop 4 40 s) ∙ ap (λ (b : Bool). same_bytes (bytes_le 4 g.capacity) (take 4 (drop 40 s)) && b) p3 in
    let p1 = same_append m (bytes_le 4 g.capacity ++ (bytes_le 4 (physical_zones g) ++ (bytes_le 8 a ++ z))) (drop 32 s) ∙ ap (λ (t : List ℕ). same_bytes m (take 8 (drop 32 s)) && same_bytes (bytes_le 4 g.capacity ++ (bytes_le 4 (physical_zones g) ++ (bytes_le 8 a ++ z))) t) (drop-drop 8 32 s) ∙ ap (λ (b : Bool). same_bytes m (take 8 (drop 32 s)) && b) p2 in
    let q : same_bytes m (take 8 (drop 32 s)) ≡ eqb g.drives (get_or s 32 0) && (eqb g.unit (get_or s 33 0) && (eqb (log2 g.sector) (get_or s 34 0) && (eqb d (get_or s 35 0) && (eqb x (get_or s 36 0) && (eqb 0 (get_or s 37 0) && (eqb 0 (get_or s 38 0) && eqb 0 (get_or s 39 0))))))) =
    ap (same_bytes m) (ones_are 7 s 32 (omega arith)) ∙ rw (and_true (eqb 0 (get_or s 39 0))) refl in
    frame_same 1 0 0 0 (m ++ (bytes_le 4 g.capacity ++ (bytes_le 4 (physical_zones g) ++ (bytes_le 8 a ++ z)))) s ∙ ap (λ (b : Bool). head_same 1 0 0 0 s && b) (p1 ∙ rw (q, e) refl)

-- the same of six tests, each for its part
pub label_parts : (g : Geometry) (d x a : ℕ) (s : List ℕ) → length s ≡ g.sector → 56 ≤ length s → {t1 t2 t3 t4 t5 t6 : Bool}
    → t1 ≡ head_same 1 0 0 0 s → t2 ≡ label_same g d x s → t3 ≡ same_bytes (bytes_le 4 g.capacity) (take 4 (drop 40 s)) → t4 ≡ same_bytes (bytes_le 4 (physical_zones g)) (take 4 (drop 44 s))
    → t5 ≡ same_bytes (bytes_le 8 a) (take 8 (drop 48 s)) → t6 ≡ same_bytes (replicate (length s - 56) 0) (drop 56 s) → t1 && (t2 && (t3 && (t4 && (t5 && t6)))) ≡ same_bytes (encode g d (label x a)) s
label_parts g d x a s e h p1 p2 p3 p4 p5 p6 = rw (p1, p2, p3, p4, p5, p6) (sym (label_same_lem g d x a s e h))
