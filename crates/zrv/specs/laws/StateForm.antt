-- A state's bytes tested as they stand: the lost drive's eight bytes, each zone's condition, owner and pointer, and the zeros past the last record and past the
-- last drive's shares. For bytes the test is that of the form (what is read from them, written again, is they) and of document 01's bounds together.
use Rattle.std.specs.Prelude.{◌≡◌, ◌⊎◌, Bool, false, ◌&&◌, ◌||◌, not, ℕ, zero, suc, ◌+◌, ◌-◌, ◌*◌, ◌/◌, ◌%◌, ◌^◌, ◌≤◌, ◌<◌, get_or, replicate, eqb, leb, ltb}
use Rattle.std.proofs.Math.Path.{refl, ap, ap₂}
use Rattle.std.proofs.Common.{sym, ◌∙◌, inl, inr, true≢false, mod-lt, mod-eq_of_lt, arith, take-add, length-take-le, eq-eqb, ne_eqb, eqb-true, ltb-true}
use Rattle.std.proofs.Math.Bool.{true}
use Rattle.std.proofs.Math.Decide.{ℕ_discrete}
use mathlib.Core.List.{append_assoc, List, [], ◌∷◌, ◌++◌}
use Rattle.std.proofs.Math.ListN.{length, take, drop, length-drop}
use Rattle.std.proofs.lemmas.List.{length-replicate}
use Rattle.std.proofs.Math.Seq.{drop-drop, get_or-drop, get_or-take}
use Rattle.std.proofs.lemmas.Bool.{lt-leb}
use Rattle.tables.specs.declared.Geometry.{Geometry}
use Rattle.tables.specs.laws.Basics.{or_cases}
use Rattle.tables.specs.meaning.Below.{all_below}
use Rattle.tables.specs.meaning.Drives.{no_drive}
use Rattle.tables.specs.meaning.Geometry.{Valid, zone_sectors}
use Rattle.tables.specs.meaning.LittleEndian.{bytes_le, read_le, same_bytes}
use Rattle.tables.specs.laws.LittleEndian.{Bytes, bytes_drop, bytes_number_le, same_number, same_bytes_refl}
use Rattle.logs.specs.code.Lays.{same_append, and_true}
use Rattle.volume.specs.laws.ByteLists.{Bytes as ByteList}
use Rattle.volume.specs.declared.Condition.{Condition}
use Rattle.volume.specs.declared.Condition.TheVariants.{Empty, Open, Sealed, Worn}
use Rattle.volume.specs.declared.ZoneRecord.{ZoneRecord}
use Rattle.volume.specs.declared.State.{State}
use Rattle.volume.specs.meaning.State.{pointer_in, condition_number, condition_of_number, owner_number, owner_of_number}
use Rattle.volume.specs.meaning.Refusals.{state_within}
use Rattle.volume.specs.meaning.CallContracts.{record_at, view_state}
use Rattle.volume.specs.laws.FilledArrays.{fill_at}
use Rattle.volume.specs.laws.StateHeld.{records_at}
use Rattle.volume.specs.looking.KnowingLaws.{all_below_cong}
use Rattle.volume.specs.laws.ByteLists.{number_small, bytes_take}
use Rattle.mounting.specs.MountGenerations.{same_numbers}
use Rattle.zrv.specs.meaning.Bytes.{state_bytes, words_to, kind_of, record_to, record_from, records_to, no_records, no_shares, shares_of, shares_part, shares_below, state_to, state_from, state_well_formed}
use Rattle.zrv.specs.laws.Bytes.{length_words_to}
use Rattle.zrv.specs.laws.RoundTrips.{kind_small}

-- ---- the test
-- the record in the sixteen bytes from `at`: its condition's number is one, so is its owner's, an empty zone has no pointer, and none is past m
unfoldable pub record_fits : ℕ → List ℕ → ℕ → Bool
record_fits m xs at = leb (read_le 4 xs (at + 8) / 256) 2
    && (leb (read_le 4 xs (at + 8) % 256) 3 && ((not (eqb (read_le 4 xs (at + 8) % 256) 0) || eqb (read_le 4 xs (at + 12)) 0) && leb (read_le 4 xs (at + 12)) m))

-- all zero from `at` to `end`
unfoldable pub zeros_between : List ℕ → ℕ → ℕ → Bool
zeros_between xs at end = all_below (λ i. eqb 0 (get_or xs (at + i) 0)) (end - at)

abbrev pub state_fits : Geometry → List ℕ → Bool
state_fits g xs = (ltb (read_le 8 xs 0) g.drives || eqb (read_le 8 xs 0) no_drive)
    && (all_below (λ z. record_fits (zone_sectors g) xs (8 + 16 * z)) g.zones && (zeros_between xs (8 + 16 * g.zones) 264 && zeros_between xs (264 + shares_of g * 4) 328))

-- ---- numbers in bytes
pub listed : (xs : List ℕ) → Bytes xs → ByteList xs
listed [] b = tt
listed (x ∷ xs) b = (b 0, listed xs (λ i. b (suc i)))

length_take_most : (n : ℕ) (xs : List ℕ) → length (take n xs) ≤ n
length_take_most zero xs = omega arith
length_take_most (suc n) [] = omega arith
length_take_most (suc n) (x ∷ xs) = omega (arith, length_take_most n xs)

read_small : (k : ℕ) (xs : List ℕ) (at : ℕ) → Bytes xs → read_le k xs at < 256 ^ k
read_small k xs at b = number_small k (take k (drop at xs)) (length_take_most k (drop at xs)) (bytes_take k (drop at xs) (listed (drop at xs) (bytes_drop at xs b)))

-- ---- one record
condition_byte : (c : Condition) → condition_number c < 256
condition_byte Empty = omega arith
condition_byte (Open n) = omega arith
condition_byte (Sealed n) = omega arith
condition_byte (Worn n) = omega arith

-- its condition, of number k and pointer p: written again it has the same two numbers, and its pointer is at most m
abbrev condition_same : ℕ → ℕ → ℕ → Bool
condition_same p m k = (eqb k (condition_number (condition_of_number k p)) && eqb p (pointer_in (condition_of_number k p) % 4294967296)) && leb (pointer_in (condition_of_number k p)) m

abbrev condition_fits : ℕ → ℕ → ℕ → Bool
condition_fits p m k = leb k 3 && ((not (eqb k 0) || eqb p 0) && leb p m)

condition_fits_lem : (p m k : ℕ) → p < 4294967296 → condition_same p m k ≡ condition_fits p m k
condition_fits_lem p m k h = go (ℕ_discrete k 0) (ℕ_discrete k 1) (ℕ_discrete k 2) (ℕ_discrete k 3)
  where
    kept : eqb p (p % 4294967296) && leb p m ≡ leb p m
    kept = rw (mod-eq_of_lt h, eq-eqb p p refl) refl

    empty : (b : Bool) → eqb p 0 ≡ b → b && leb 0 m ≡ b && leb p m
    empty true e = rw (eqb-true p 0 e) refl
    empty false e = refl

    go : Dec (k ≡ 0) → Dec (k ≡ 1) → Dec (k ≡ 2) → Dec (k ≡ 3) → condition_same p m k ≡ condition_fits p m k
    go (yes e) b c d = ap (condition_same p m) e ∙ empty (eqb p 0) refl ∙ ap (condition_fits p m) (sym e)
    go (no a) (yes e) c d = ap (condition_same p m) e ∙ kept ∙ ap (condition_fits p m) (sym e)
    go (no a) (no b) (yes e) d = ap (condition_same p m) e ∙ kept ∙ ap (condition_fits p m) (sym e)
    go (no a) (no b) (no c) (yes e) = ap (condition_same p m) e ∙ kept ∙ ap (condition_fits p m) (sym e)
    go (no a) (no b) (no c) (no d) = rw (ne_eqb k 1 b, ne_eqb k 2 c, ne_eqb k 3 d, ne_eqb k 0 a, lt-leb k 3 (omega arith)) refl

-- an owner's number j, and both in one number k
owner_fits : (j : ℕ) → eqb j (owner_number (owner_of_number j)) ≡ leb j 2
owner_fits j = go (ℕ_discrete j 0) (ℕ_discrete j 1) (ℕ_discrete j 2)
  where
    go : Dec (j ≡ 0) → Dec (j ≡ 1) → Dec (j ≡ 2) → eqb j (owner_number (owner_of_number j)) ≡ leb j 2
    go (yes e) b c = rw e refl
    go (no a) (yes e) c = rw e refl
    go (no a) (no b) (yes e) = rw e refl
    go (no a) (no b) (no c) = rw (ne_eqb j 1 b, ne_eqb j 2 c, ne_eqb j 0 a, lt-leb j 2 (omega arith)) refl

both_same : (k a b : ℕ) → a < 256 → eqb k (a + 256 * b) ≡ eqb (k % 256) a && eqb (k / 256) b
both_same k a b h = go (ℕ_discrete (k % 256) a) (ℕ_discrete (k / 256) b)
  where
    go : Dec (k % 256 ≡ a) → Dec (k / 256 ≡ b) → eqb k (a + 256 * b) ≡ eqb (k % 256) a && eqb (k / 256) b
    go (yes e) (yes f) = rw (eq-eqb (k % 256) a e, eq-eqb (k / 256) b f) (eq-eqb k (a + 256 * b) (omega (arith, e, f)))
    go (yes e) (no f) = rw (eq-eqb (k % 256) a e, ne_eqb (k / 256) b f) (ne_eqb k (a + 256 * b) (λ q. f (omega (arith, q, h))))
    go (no e) f = rw (ne_eqb (k % 256) a e) (ne_eqb k (a + 256 * b) (λ q. e (omega (arith, q, h))))

-- its three numbers, each compared with its bytes
abbrev record_same : List ℕ → ℕ → ZoneRecord → Bool
record_same xs at r =
    same_bytes (bytes_le 8 r.generation) (take 8 (drop at xs))
    && (same_bytes (bytes_le 4 (kind_of r)) (take 4 (drop (at + 8) xs)) && same_bytes (bytes_le 4 (pointer_in r.condition % 4294967296)) (take 4 (drop (at + 12) xs)))

record_same_lem : (xs : List ℕ) (at : ℕ) (r : ZoneRecord) (t : List ℕ) → same_bytes (record_to r ++ t) (drop at xs) ≡ record_same xs at r && same_bytes t (drop (at + 16) xs)
unfolding record_to
record_same_lem xs at r t =
    let a = bytes_le 8 r.generation in
    let b = bytes_le 4 (kind_of r) in
    let c = bytes_le 4 (pointer_in r.condition % 4294967296) in
    let at12 : at + 8 + 4 ≡ at + 12 = omega arith in
    let at16 : at + 12 + 4 ≡ at + 16 = omega arith in
    let p3 : same_bytes (c ++ t) (drop (at + 12) xs) ≡ same_bytes c (take 4 (drop (at + 12) xs)) && same_bytes t (drop (at + 16) xs) =
    same_append c t (drop (at + 12) xs) ∙ ap (λ (l : List ℕ). same_bytes c (take 4 (drop (at + 12) xs)) && same_bytes t l) (drop-drop 4 (at + 12) xs ∙ ap (λ (n : ℕ). drop n xs) at16) in
    let p2 : same_bytes (b ++ (c ++ t)) (drop (at + 8) xs) ≡ same_bytes b (take 4 (drop (at + 8) xs)) && same_bytes (c ++ t) (drop (at + 12) xs) =
    same_append b (c ++ t) (drop (at + 8) xs) ∙ ap (λ (l : List ℕ). same_bytes b (take 4 (drop (at + 8) xs)) && same_bytes (c ++ t) l) (drop-drop 4 (at + 8) xs ∙ ap (λ (n : ℕ). drop n xs) at12) in
    let p1 : same_bytes (a ++ (b ++ (c ++ t))) (drop at xs) ≡ same_bytes a (take 8 (drop at xs)) && same_bytes (b ++ (c ++ t)) (drop (at + 8) xs) =
    same_append a (b ++ (c ++ t)) (drop at xs) ∙ ap (λ (l : List ℕ). same_bytes a (take 8 (drop at xs)) && same_bytes (b ++ (c ++ t)) l) (drop-drop 8 at xs) in
    p1 ∙ ap (λ (q : Bool). same_bytes a (take 8 (drop at xs)) && q) (p2 ∙ ap (λ (q : Bool). same_bytes b (take 4 (drop (at + 8) xs)) && q) p3)
    ∙ nest (same_bytes a (take 8 (drop at xs))) (same_bytes b (take 4 (drop (at + 8) xs))) (same_bytes c (take 4 (drop (at + 12) xs))) (same_bytes t (drop (at + 16) xs))
  where
    nest : (a b c d : Bool) → a && (b && (c && d)) ≡ (a && (b && c)) && d
    nest true true true d = refl
    nest true true false d = refl
    nest true false c d = refl
    nest false b c d = refl

record_fits_lem : (m : ℕ) (xs : List ℕ) (at : ℕ) → Bytes xs → at + 16 ≤ length xs → record_fits m xs at ≡ record_same xs at (record_from xs at) && leb (pointer_in (record_from xs at).condition) m
unfolding record_fits record_from
record_fits_lem m xs at b h =
    let k = read_le 4 xs (at + 8) in
    let p = read_le 4 xs (at + 12) in
    let r = record_from xs at in
    let c = (record_from xs at).condition in
    let e1 : same_bytes (bytes_le 8 (read_le 8 xs at)) (take 8 (drop at xs)) ≡ true = sym (same_number 8 (read_le 8 xs at) xs at b (omega arith) (read_small 8 xs at b)) ∙ eq-eqb (read_le 8 xs at) (read_le 8 xs at) refl in
    let e2 : same_bytes (bytes_le 4 (kind_of r)) (take 4 (drop (at + 8) xs)) ≡ eqb (k % 256) (condition_number c) && leb (k / 256) 2 =
    sym (same_number 4 (kind_of r) xs (at + 8) b (omega arith) (kind_small r)) ∙ both_same k (condition_number c) (owner_number r.owner) (condition_byte c) ∙ ap (λ (u : Bool). eqb (k % 256) (condition_number c) && u) (owner_fits (k / 256)) in
    let e3 : same_bytes (bytes_le 4 (pointer_in c % 4294967296)) (take 4 (drop (at + 12) xs)) ≡ eqb p (pointer_in c % 4294967296) = sym (same_number 4 (pointer_in c % 4294967296) xs (at + 12) b (omega arith) (mod-lt (pointer_in c) (omega arith))) in
    sym (ap₂ (λ (u v : Bool). (u && v) && leb (pointer_in c) m) e1 (ap₂ (λ (u v : Bool). u && v) e2 e3) ∙ owner_first (eqb (k % 256) (condition_number c)) (leb (k / 256) 2) (eqb p (pointer_in c % 4294967296)) (leb (pointer_in c) m)
    ∙ ap (λ (u : Bool). leb (k / 256) 2 && u) (condition_fits_lem p m (k % 256) (read_small 4 xs (at + 12) b)))
  where
    owner_first : (a o p m : Bool) → (true && ((a && o) && p)) && m ≡ o && ((a && p) && m)
    owner_first true true p m = refl
    owner_first true false p m = refl
    owner_first false true p m = refl
    owner_first false false p m = refl

-- ---- all records
module _ (xs : List ℕ) (s : State) where
  abbrev lost_same : Bool
  lost_same = same_bytes (bytes_le 8 (s.lost % 256)) (take 8 xs)

  abbrev same_at : ℕ → Bool
  same_at z = record_same xs (8 + 16 * z) (record_at s z)

  records_same : (n : ℕ) (t : List ℕ) → same_bytes (records_to n s ++ t) xs ≡ (lost_same && all_below same_at n) && same_bytes t (drop (8 + 16 * n) xs)
  records_same zero t = same_append (bytes_le 8 (s.lost % 256)) t xs ∙ ap (λ (b : Bool). b && same_bytes t (drop 8 xs)) (sym (and_true lost_same))
  records_same (suc n) t =
      let r = record_to (record_at s n) in
      let e : 8 + 16 * n + 16 ≡ 8 + 16 * suc n = omega arith in
      ap (λ (l : List ℕ). same_bytes l xs) (append_assoc (records_to n s) r t)
      ∙ records_same n (r ++ t)
      ∙ ap (λ (b : Bool). (lost_same && all_below same_at n) && b) (record_same_lem xs (8 + 16 * n) (record_at s n) t ∙ ap (λ (k : ℕ). same_at n && same_bytes t (drop k xs)) e)
      ∙ nest lost_same (all_below same_at n) (same_at n) (same_bytes t (drop (8 + 16 * suc n) xs))
    where
      nest : (a b c d : Bool) → (a && b) && (c && d) ≡ (a && (b && c)) && d
      nest true true c d = refl
      nest true false c d = refl
      nest false b c d = refl

all_both : (p q : ℕ → Bool) (n : ℕ) → all_below (λ z. p z && q z) n ≡ all_below p n && all_below q n
all_both p q zero = refl
all_both p q (suc n) = ap (λ (b : Bool). b && (p n && q n)) (all_both p q n) ∙ swap (all_below p n) (all_below q n) (p n) (q n)
  where
    swap : (a b c d : Bool) → (a && b) && (c && d) ≡ (a && c) && (b && d)
    swap true true c d = refl
    swap true false true d = refl
    swap true false false d = refl
    swap false b c d = refl

-- ---- the zeros: those of m that stand from `from` on, beside n bytes of xs that stand from `at` on
zeros_same : (m from n : ℕ) (ys xs : List ℕ) (at : ℕ) → length ys ≡ n → m - from ≡ n → ((i : ℕ) → i < n → get_or ys i 0 ≡ get_or xs (at + i) 0)
    → same_bytes (drop from (replicate m 0)) ys ≡ all_below (λ i. eqb 0 (get_or xs (at + i) 0)) n
zeros_same m from n ys xs at long few here =
    same_numbers (drop from (replicate m 0)) ys n (length-drop from (replicate m 0) ∙ ap (λ (k : ℕ). k - from) (length-replicate {A = ℕ} m 0) ∙ few) long
    ∙ all_below_cong (λ z. eqb (get_or (drop from (replicate m 0)) z 0) (get_or ys z 0)) (λ i. eqb 0 (get_or xs (at + i) 0)) n (λ i h. ap₂ eqb (get_or-drop from (replicate m 0) i 0 ∙ blank m (from + i)) (here i h))
  where
    blank : (n i : ℕ) → get_or {A = ℕ} (replicate n 0) i 0 ≡ 0
    blank zero i = refl
    blank (suc n) zero = refl
    blank (suc n) (suc i) = blank n i

module _ (g : Geometry) (xs : List ℕ) (ok : Valid g) (b : Bytes xs) (e : length xs ≡ state_bytes) where
  abbrev n : ℕ
  n = g.zones

  abbrev k : ℕ
  k = shares_of g

  -- past the last record
  records_zeros : same_bytes (drop (8 + 16 * n) no_records) (take (264 - (8 + 16 * n)) (drop (8 + 16 * n) xs)) ≡ zeros_between xs (8 + 16 * n) 264
  unfolding zeros_between
  records_zeros =
      let at = 8 + 16 * g.zones in
      let long : length (drop at xs) ≡ 328 - at = length-drop at xs ∙ ap (λ (l : ℕ). l - at) e in
      zeros_same 264 at (264 - at) (take (264 - at) (drop at xs)) xs at (length-take-le (264 - at) (drop at xs) (omega (arith, long, ok.zones_most))) refl (λ i h. get_or-take (264 - at) (drop at xs) i 0 h ∙ get_or-drop at xs i 0)

  -- past the last drive's shares
  shares_zeros : same_bytes (drop (k * 4) no_shares) (drop (264 + k * 4) xs) ≡ zeros_between xs (264 + k * 4) 328
  unfolding zeros_between
  shares_zeros =
      let at = 264 + shares_of g * 4 in
      zeros_same 64 (shares_of g * 4) (328 - at) (drop at xs) xs at (length-drop at xs ∙ ap (λ (l : ℕ). l - at) e) (omega (arith, ok.drives_most)) (λ i h. get_or-drop at xs i 0)

  -- the shares that are read, written again, are the same
  shares_same : (j : ℕ) → j ≤ k → words_to j (shares_below (λ i. read_le 4 xs (264 + i * 4)) k) ≡ take (j * 4) (drop 264 xs)
  shares_same zero h = refl
  shares_same (suc j) h =
      let at = 264 + j * 4 in
      let far : j * 4 + 4 ≡ suc j * 4 = omega arith in
      let long : length (drop at xs) ≡ 328 - at = length-drop at xs ∙ ap (λ (l : ℕ). l - at) e in
      ap₂ (λ (u v : List ℕ). u ++ v) (shares_same j (omega arith))
      (ap (bytes_le 4) (fill_at (λ i. read_le 4 xs (264 + i * 4)) 0 0 k (16 - k) j (omega arith)) ∙ bytes_number_le 4 (drop at xs) (bytes_drop at xs b) (omega (arith, long, h, ok.drives_most)) ∙ ap (take 4) (sym (drop-drop (j * 4) 264 xs)))
      ∙ sym (take-add (j * 4) 4 (drop 264 xs)) ∙ ap (λ (l : ℕ). take l (drop 264 xs)) far

  -- all that stands behind the records
  rest_same : same_bytes (drop (8 + 16 * n) no_records ++ shares_part k (state_from g xs)) (drop (8 + 16 * n) xs) ≡ zeros_between xs (8 + 16 * n) 264 && zeros_between xs (264 + k * 4) 328
  unfolding state_from
  rest_same =
      let at = 8 + 16 * g.zones in
      let zeros = drop (8 + 16 * g.zones) no_records in
      let words = words_to k (shares_below (λ i. read_le 4 xs (264 + i * 4)) k) in
      let behind = drop (shares_of g * 4) no_shares in
      let long : length zeros ≡ 264 - at = length-drop at no_records in
      let far : at + (264 - at) ≡ 264 = omega (arith, ok.zones_most) in
      let shares : same_bytes (words ++ behind) (drop 264 xs) ≡ zeros_between xs (264 + k * 4) 328 =
      same_append words behind (drop 264 xs) ∙ ap₂ (λ (u : Bool) (l : List ℕ). u && same_bytes behind l) words_true (ap (λ (l : ℕ). drop l (drop 264 xs)) (length_words_to k (shares_below (λ i. read_le 4 xs (264 + i * 4)) k)) ∙ drop-drop (k * 4) 264 xs) ∙ shares_zeros in
      same_append zeros (words ++ behind) (drop at xs)
      ∙ ap₂ (λ (l : ℕ) (m : List ℕ). same_bytes zeros (take l (drop at xs)) && same_bytes (words ++ behind) m) long (ap (λ (l : ℕ). drop l (drop at xs)) long ∙ drop-drop (264 - at) at xs ∙ ap (λ (l : ℕ). drop l xs) far)
      ∙ ap₂ (λ (u v : Bool). u && v) records_zeros shares
    where
      words_true : same_bytes (words_to k (shares_below (λ i. read_le 4 xs (264 + i * 4)) k)) (take (length (words_to k (shares_below (λ i. read_le 4 xs (264 + i * 4)) k))) (drop 264 xs)) ≡ true
      words_true =
          let words = words_to k (shares_below (λ i. read_le 4 xs (264 + i * 4)) k) in
          let same : words ≡ take (length words) (drop 264 xs) = shares_same k (omega arith) ∙ ap (λ (l : ℕ). take l (drop 264 xs)) (sym (length_words_to k (shares_below (λ i. read_le 4 xs (264 + i * 4)) k))) in
          ap (same_bytes words) (sym same) ∙ same_bytes_refl words

-- ---- the whole
pub state_test : (g : Geometry) (xs : List ℕ) → Valid g → Bytes xs → length xs ≡ state_bytes → state_fits g xs ≡ state_well_formed g xs && state_within g (view_state (state_from g xs))
unfolding state_well_formed state_within state_to state_from
state_test g xs ok b e =
    let s = state_from g xs in
    let n = g.zones in
    let lost = ltb (read_le 8 xs 0) g.drives || eqb (read_le 8 xs 0) no_drive in
    let within : ℕ → Bool = λ z. leb (pointer_in (record_at s z).condition) (zone_sectors g) in
    let each : all_below (λ z. record_fits (zone_sectors g) xs (8 + 16 * z)) n ≡ all_below (same_at xs s) n && all_below within n =
    all_below_cong (λ z. record_fits (zone_sectors g) xs (8 + 16 * z)) (λ z. same_at xs s z && within z) n (λ z h. one z h) ∙ all_both (same_at xs s) within n in
    let zeros = zeros_between xs (8 + 16 * n) 264 && zeros_between xs (264 + shares_of g * 4) 328 in
    ap (λ (u : Bool). lost && (u && zeros)) each
    ∙ joined lost (lost_same xs s) (all_below (same_at xs s) n) (all_below within n) zeros told
    ∙ ap (λ (u : Bool). u && (lost && all_below within n))
    (sym (ap (λ (l : List ℕ). same_bytes l xs) (append_assoc (records_to n s) (drop (8 + 16 * n) no_records) (shares_part (shares_of g) s)) ∙ records_same xs s n (drop (8 + 16 * n) no_records ++ shares_part (shares_of g) s) ∙ ap (λ (u : Bool). (lost_same xs s && all_below (same_at xs s) n) && u) (rest_same g xs ok b e)))
  where
    one : (z : ℕ) → z < g.zones → record_fits (zone_sectors g) xs (8 + 16 * z) ≡ same_at xs (state_from g xs) z && leb (pointer_in (record_at (state_from g xs) z).condition) (zone_sectors g)
    one z h =
        record_fits_lem (zone_sectors g) xs (8 + 16 * z) b (omega (arith, e, h, ok.zones_most))
        ∙ ap (λ (r : ZoneRecord). record_same xs (8 + 16 * z) r && leb (pointer_in r.condition) (zone_sectors g)) (sym (records_at (λ y. record_from xs (8 + 16 * y)) g.zones z h))

    -- a lost drive within its bounds is one byte, and seven zeros
    told : ltb (read_le 8 xs 0) g.drives || eqb (read_le 8 xs 0) no_drive ≡ true → lost_same xs (state_from g xs) ≡ true
    told h =
        let l = read_le 8 xs 0 in
        let small : l < 256 = byte (or_cases (ltb l g.drives) (eqb l no_drive) h) in
        sym (same_number 8 (l % 256) xs 0 b (omega (arith, e)) (omega (arith, mod-eq_of_lt small, small))) ∙ eq-eqb l (l % 256) (sym (mod-eq_of_lt small))
      where
        byte : (ltb (read_le 8 xs 0) g.drives ≡ true) ⊎ ((ltb (read_le 8 xs 0) g.drives ≡ false) × (eqb (read_le 8 xs 0) no_drive ≡ true)) → read_le 8 xs 0 < 256
        byte (inl q) = omega (arith, ltb-true (read_le 8 xs 0) g.drives q, ok.drives_most)
        byte (inr q) = omega (arith, eqb-true (read_le 8 xs 0) no_drive q.1)

    joined : (w a r p z : Bool) → (w ≡ true → a ≡ true) → w && ((r && p) && z) ≡ ((a && r) && z) && (w && p)
    joined true true true true true f = refl
    joined true true true true false f = refl
    joined true true true false true f = refl
    joined true true true false false f = refl
    joined true true false p z f = refl
    joined true false r p z f = absurd (true≢false (sym (f refl)))
    joined false true true p true f = refl
    joined false true true p false f = refl
    joined false true false p z f = refl
    joined false false r p z f = refl
