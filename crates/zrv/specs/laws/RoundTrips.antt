-- What the C edge writes reads back: tables and states, from numbers to bytes and back, and from bytes to numbers and back.
use Rattle.std.specs.Prelude.{◌≡◌, refl, true, ℕ, zero, suc, ◌+◌, ◌-◌, ◌*◌, ◌/◌, ◌%◌, ◌^◌, ◌≤◌, ◌<◌, List, [], ◌++◌, length, get_or, take, drop}
use Rattle.std.proofs.Common.{sym, ap, ap₂, ◌∙◌, mod-lt, mod-eq_of_lt, arith, append_assoc, append-nil, length-drop, drop_at, drop-drop, take-add, length-take-le, ext_get_or}
use Rattle.std.proofs.Math.Decide.{dec_lt}
use Rattle.std.proofs.Math.Seq.{drop-append-add, take-length}
use Rattle.tables.specs.declared.Geometry.{Geometry}
use Rattle.tables.specs.meaning.Below.{tabulate}
use Rattle.tables.specs.laws.Below.{length_tabulate, get_d_tabulate}
use Rattle.tables.specs.meaning.LittleEndian.{bytes_le, number_le, read_le, same_bytes}
use Rattle.tables.specs.laws.LittleEndian.{number_bytes_le, same_bytes_refl}
use Rattle.volume.specs.declared.Condition.{Condition}
use Rattle.volume.specs.declared.Condition.TheVariants.{Empty, Open, Sealed, Worn}
use Rattle.volume.specs.declared.Owner.{Owner}
use Rattle.volume.specs.declared.Owner.TheVariants.{Nobody, Host0, Host1}
use Rattle.volume.specs.declared.ZoneRecord.{ZoneRecord}
use Rattle.volume.specs.declared.State.{State}
use Rattle.volume.specs.meaning.State.{pointer_in, condition_number, condition_of_number, owner_number, owner_of_number}
use Rattle.volume.specs.meaning.CallContracts.{blank_record, record_at, records_below}
use Rattle.volume.specs.laws.FilledArrays.{fill_long, fill_at, fill_past}
use Rattle.volume.specs.laws.StateHeld.{Sixteen, records_long, records_at, records_past}
use Rattle.volume.specs.laws.ByteLists.{Bytes, bytes_take, bytes_drop, number_in_bytes, number_small, bytes_number_bytes}
use Rattle.zrv.specs.meaning.Bytes.{table_from, table_to, words_to, kind_of, record_of, record_to, record_from, records_to, no_records, no_shares, shares_of, records_part, shares_part, shares_below, state_to, state_from, state_well_formed}
use Rattle.zrv.specs.laws.Bytes.{length_words_to, length_records_to, length_records_part, bytes_state_bytes}

-- ---- tables
-- where number i of n lies, and that it reads back
word_there : (n i : ℕ) (ts t : List ℕ) → i < n → (rest : List ℕ) × (drop (i * 4) (words_to n ts ++ t) ≡ bytes_le 4 (get_or ts i 0) ++ rest)
word_there zero i ts t h = absurd (omega arith)
word_there (suc n) i ts t h = go (dec_lt i n) (λ k. word_there n i ts (bytes_le 4 (get_or ts n 0) ++ t) k)
  where
    here : words_to (suc n) ts ++ t ≡ words_to n ts ++ (bytes_le 4 (get_or ts n 0) ++ t)
    here = append_assoc (words_to n ts) (bytes_le 4 (get_or ts n 0)) t

    go : Dec (i < n) → (i < n → (rest : List ℕ) × (drop (i * 4) (words_to n ts ++ (bytes_le 4 (get_or ts n 0) ++ t)) ≡ bytes_le 4 (get_or ts i 0) ++ rest)) → (rest : List ℕ) × (drop (i * 4) (words_to (suc n) ts ++ t) ≡ bytes_le 4 (get_or ts i 0) ++ rest)
    go (yes k) ih = let (rest, e) = ih k in (rest, ap (drop (i * 4)) here ∙ e)
    go (no k) ih =
        let e : i ≡ n = omega arith in
        (t, ap₂ (λ (j : ℕ) (l : List ℕ). drop (j * 4) l) e here ∙ drop_at (words_to n ts) (bytes_le 4 (get_or ts n 0) ++ t) (n * 4) (length_words_to n ts) ∙ ap (λ (j : ℕ). bytes_le 4 (get_or ts j 0) ++ t) (sym e))

word_at : (n i : ℕ) (ts t : List ℕ) → i < n → get_or ts i 0 < 256 ^ 4 → read_le 4 (words_to n ts ++ t) (i * 4) ≡ get_or ts i 0
word_at n i ts t l h = let (rest, e) = word_there n i ts t l in ap (λ (l : List ℕ). number_le (take 4 l)) e ∙ number_bytes_le 4 (get_or ts i 0) h

word_of_table : (n i : ℕ) (ts : List ℕ) → i < n → get_or ts i 0 < 256 ^ 4 → read_le 4 (words_to n ts) (i * 4) ≡ get_or ts i 0
word_of_table n i ts l h = ap (λ (l : List ℕ). read_le 4 l (i * 4)) (sym (append-nil (words_to n ts))) ∙ word_at n i ts [] l h

-- a number of 32 bits in a table of n, written, reads back
pub number_back : (n : ℕ) (ts : List ℕ) (i : ℕ) → length ts ≡ n → i < n → get_or ts i 0 < 256 ^ 4 → get_or (table_from n (table_to ts)) i 0 ≡ get_or ts i 0
unfolding table_from table_to
number_back n ts i e h k = get_d_tabulate (λ j. read_le 4 (words_to (length ts) ts) (j * 4)) n i 0 h ∙ word_of_table (length ts) i ts (rw e h) k

-- a table of 32-bit numbers, written, reads back
pub table_bytes_table : (ts : List ℕ) → ((i : ℕ) → i < length ts → get_or ts i 0 < 256 ^ 4) → table_from (length ts) (table_to ts) ≡ ts
unfolding table_from table_to
table_bytes_table ts h =
    let f : ℕ → ℕ = λ i. read_le 4 (words_to (length ts) ts) (i * 4) in
    ext_get_or 0 (tabulate f (length ts)) ts (length_tabulate f (length ts)) (λ i l. let k : i < length ts = rw (length_tabulate f (length ts)) at l in get_d_tabulate f (length ts) i 0 k ∙ word_of_table (length ts) i ts k (h i k))

-- bytes, read as a table and written again, are the same
pub bytes_table_bytes : (n : ℕ) (xs : List ℕ) → Bytes xs → length xs ≡ n * 4 → table_to (table_from n xs) ≡ xs
unfolding table_from table_to
bytes_table_bytes n xs b e =
    let f : ℕ → ℕ = λ i. read_le 4 xs (i * 4) in
    ap (λ (k : ℕ). words_to k (tabulate f n)) (length_tabulate f n) ∙ go n (omega arith) ∙ ap (λ (k : ℕ). take k xs) (sym e) ∙ take-length xs
  where
    go : (k : ℕ) → k ≤ n → words_to k (tabulate (λ i. read_le 4 xs (i * 4)) n) ≡ take (k * 4) xs
    go zero h = refl
    go (suc k) h =
        let part = take 4 (drop (k * 4) xs) in
        let long : length (take 4 (drop (k * 4) xs)) ≡ 4 = length-take-le 4 (drop (k * 4) xs) (rw (length-drop (k * 4) xs) (omega arith)) in
        let s : k * 4 + 4 ≡ suc k * 4 = omega arith in
        ap₂ (λ (u v : List ℕ). u ++ v) (go k (omega arith))
        (ap (bytes_le 4) (get_d_tabulate (λ i. read_le 4 xs (i * 4)) n k 0 (omega arith)) ∙ ap (λ (m : ℕ). bytes_le m (number_le part)) (sym long) ∙ bytes_number_bytes part (bytes_take 4 (drop (k * 4) xs) (bytes_drop (k * 4) xs b)))
        ∙ sym (take-add (k * 4) 4 xs) ∙ ap (λ (m : ℕ). take m xs) s

-- ---- states
-- a state that bytes can hold, of a volume of this geometry
pub record StateRange (g : Geometry) (s : State) : Type 0 where
  pub zones_most : g.zones ≤ 16
  pub drives_most : g.drives ≤ 8
  pub lost_byte : s.lost < 256
  pub sixteen : Sixteen s
  pub generations : (z : ℕ) → z < g.zones → (record_at s z).generation < 256 ^ 8
  pub pointers : (z : ℕ) → z < g.zones → pointer_in (record_at s z).condition < 4294967296
  pub past : (z : ℕ) → g.zones ≤ z → record_at s z ≡ blank_record
  pub shares : (i : ℕ) → i < shares_of g → get_or s.shares i 0 < 256 ^ 4
  pub no_share : (i : ℕ) → shares_of g ≤ i → get_or s.shares i 0 ≡ 0

-- where its parts lie
lost_at_lem : (n : ℕ) (s : State) (t : List ℕ) → (rest : List ℕ) × (records_to n s ++ t ≡ bytes_le 8 (s.lost % 256) ++ rest)
lost_at_lem zero s t = (t, refl)
lost_at_lem (suc n) s t = let (rest, e) = lost_at_lem n s (record_to (record_at s n) ++ t) in (rest, append_assoc (records_to n s) (record_to (record_at s n)) t ∙ e)

record_at_lem : (n z : ℕ) (s : State) (t : List ℕ) → z < n → (rest : List ℕ) × (drop (8 + 16 * z) (records_to n s ++ t) ≡ record_to (record_at s z) ++ rest)
record_at_lem zero z s t h = absurd (omega arith)
record_at_lem (suc n) z s t h = go (dec_lt z n) (λ k. record_at_lem n z s (record_to (record_at s n) ++ t) k)
  where
    go : Dec (z < n) → (z < n → (rest : List ℕ) × (drop (8 + 16 * z) (records_to n s ++ (record_to (record_at s n) ++ t)) ≡ record_to (record_at s z) ++ rest))
        → (rest : List ℕ) × (drop (8 + 16 * z) (records_to n s ++ record_to (record_at s n) ++ t) ≡ record_to (record_at s z) ++ rest)
    go (yes k) ih = let (rest, e) = ih k in (rest, ap (drop (8 + 16 * z)) (append_assoc (records_to n s) (record_to (record_at s n)) t) ∙ e)
    go (no k) ih =
        let e : z ≡ n = omega arith in (
          t,
          ap (drop (8 + 16 * z)) (append_assoc (records_to n s) (record_to (record_at s n)) t)
              ∙ ap (λ (y : ℕ). drop (8 + 16 * y) (records_to n s ++ (record_to (record_at s n) ++ t))) e
              ∙ drop_at (records_to n s) (record_to (record_at s n) ++ t) (8 + 16 * n) (length_records_to n s)
              ∙ ap (λ (y : ℕ). record_to (record_at s y) ++ t) (sym e),
        )

-- a condition's and an owner's number together
pub condition_few : (c : Condition) → condition_number c ≤ 3
condition_few Empty = omega arith
condition_few (Open n) = omega arith
condition_few (Sealed n) = omega arith
condition_few (Worn n) = omega arith

pub owner_few : (o : Owner) → owner_number o ≤ 2
owner_few Nobody = omega arith
owner_few Host0 = omega arith
owner_few Host1 = omega arith

pub kind_small : (r : ZoneRecord) → kind_of r < 256 ^ 4
kind_small r = omega (arith, condition_few r.condition, owner_few r.owner)

kind_back : (r : ZoneRecord) → record_of r.generation (kind_of r) (pointer_in r.condition) ≡ r
kind_back r =
    let c : kind_of r % 256 ≡ condition_number r.condition = omega (arith, condition_few r.condition) in
    let o : kind_of r / 256 ≡ owner_number r.owner = omega (arith, condition_few r.condition) in
    ap₂ (λ (x : Condition) (y : Owner). record { generation = r.generation; condition = x; owner = y }) (ap (λ (k : ℕ). condition_of_number k (pointer_in r.condition)) c ∙ condition r.condition) (ap owner_of_number o ∙ owner r.owner)
  where
    condition : (c : Condition) → condition_of_number (condition_number c) (pointer_in c) ≡ c
    condition Empty = refl
    condition (Open n) = refl
    condition (Sealed n) = refl
    condition (Worn n) = refl

    owner : (o : Owner) → owner_of_number (owner_number o) ≡ o
    owner Nobody = refl
    owner Host0 = refl
    owner Host1 = refl

record_back : (xs : List ℕ) (at : ℕ) (r : ZoneRecord) (rest : List ℕ) → drop at xs ≡ record_to r ++ rest → r.generation < 256 ^ 8 → pointer_in r.condition < 4294967296 → record_from xs at ≡ r
unfolding record_from record_to
record_back xs at r rest e g p =
    let a : read_le 8 xs at ≡ r.generation = ap (λ (l : List ℕ). number_le (take 8 l)) e ∙ number_bytes_le 8 r.generation g in
    let k : read_le 4 xs (at + 8) ≡ kind_of r = ap (λ (l : List ℕ). number_le (take 4 l)) (sym (drop-drop 8 at xs) ∙ ap (drop 8) e) ∙ number_bytes_le 4 (kind_of r) (kind_small r) in
    let m : pointer_in r.condition % 4294967296 < 4294967296 = mod-lt (pointer_in r.condition) (omega arith) in
    let q : read_le 4 xs (at + 12) ≡ pointer_in r.condition = ap (λ (l : List ℕ). number_le (take 4 l)) (sym (drop-drop 12 at xs) ∙ ap (drop 12) e) ∙ number_bytes_le 4 (pointer_in r.condition % 4294967296) m ∙ mod-eq_of_lt p in
    (λ i. record_of (a i) (k i) (q i)) ∙ kind_back r

-- the shares, behind 264 bytes
shares_back : (g : Geometry) (s : State) (p : List ℕ) → StateRange g s → length p ≡ 264 → shares_below (λ i. read_le 4 (p ++ shares_part (shares_of g) s) (264 + i * 4)) (shares_of g) ≡ s.shares
shares_back g s p h e =
    let f : ℕ → ℕ = λ i. read_le 4 (p ++ shares_part (shares_of g) s) (264 + i * 4) in
    let k : shares_of g ≤ 16 = omega (arith, h.drives_most) in
    ext_get_or 0 (shares_below f (shares_of g)) s.shares (fill_long f 0 16 (shares_of g) k ∙ sym h.sixteen.shares) (λ i l. each i (dec_lt i (shares_of g)))
  where
    each : (i : ℕ) → Dec (i < shares_of g) → get_or (shares_below (λ i. read_le 4 (p ++ shares_part (shares_of g) s) (264 + i * 4)) (shares_of g)) i 0 ≡ get_or s.shares i 0
    each i (yes k) =
        let far : 264 + i * 4 ≡ length p + i * 4 = omega (arith, e) in
        fill_at (λ i. read_le 4 (p ++ shares_part (shares_of g) s) (264 + i * 4)) 0 0 (shares_of g) (16 - shares_of g) i k
        ∙ ap (λ (l : List ℕ). number_le (take 4 l)) (ap (λ (n : ℕ). drop n (p ++ shares_part (shares_of g) s)) far ∙ drop-append-add p (shares_part (shares_of g) s) (i * 4))
        ∙ word_at (shares_of g) i s.shares (drop (shares_of g * 4) no_shares) k (h.shares i k)
    each i (no k) = fill_past (λ i. read_le 4 (p ++ shares_part (shares_of g) s) (264 + i * 4)) 0 (shares_of g) (16 - shares_of g) i (omega arith) ∙ sym (h.no_share i (omega arith))

-- a state in range, written, reads back
pub state_bytes_state : (g : Geometry) (s : State) → StateRange g s → state_from g (state_to g s) ≡ s
unfolding state_from state_to
state_bytes_state g s h =
    let shares = shares_back g s (records_part g.zones s) h (length_records_part g.zones s h.zones_most) in
    ap₂ (λ (xs ns : List ℕ). record { lost = read_le 8 xs 0; zones = records_below (λ z. record_from xs (8 + 16 * z)) g.zones; shares = ns }) (append_assoc (records_to g.zones s) (drop (8 + 16 * g.zones) no_records) (shares_part (shares_of g) s)) shares
    ∙ ap₂ (λ (n : ℕ) (rs : List ZoneRecord). record { lost = n; zones = rs; shares = s.shares }) lost
    (ext_get_or blank_record (records_below (λ z. record_from (records_to g.zones s ++ rest) (8 + 16 * z)) g.zones) s.zones (records_long (λ z. record_from (records_to g.zones s ++ rest) (8 + 16 * z)) g.zones h.zones_most ∙ sym h.sixteen.records) (λ z l. each z (dec_lt z g.zones)))
  where
    -- what stands behind the records
    rest : List ℕ
    rest = drop (8 + 16 * g.zones) no_records ++ shares_part (shares_of g) s

    lost : read_le 8 (records_to g.zones s ++ rest) 0 ≡ s.lost
    lost =
        let (t, e) = lost_at_lem g.zones s rest in
        let b : s.lost % 256 < 256 = mod-lt s.lost (omega arith) in
        let m : s.lost % 256 < 18446744073709551616 = omega (arith, b) in
        ap (λ (l : List ℕ). number_le (take 8 l)) e ∙ number_bytes_le 8 (s.lost % 256) m ∙ mod-eq_of_lt h.lost_byte

    each : (z : ℕ) → Dec (z < g.zones) → get_or (records_below (λ y. record_from (records_to g.zones s ++ rest) (8 + 16 * y)) g.zones) z blank_record ≡ record_at s z
    each z (yes k) =
        let (t, e) = record_at_lem g.zones z s rest k in
        records_at (λ y. record_from (records_to g.zones s ++ rest) (8 + 16 * y)) g.zones z k ∙ record_back (records_to g.zones s ++ rest) (8 + 16 * z) (record_at s z) t e (h.generations z k) (h.pointers z k)
    each z (no k) = records_past (λ y. record_from (records_to g.zones s ++ rest) (8 + 16 * y)) g.zones z (omega arith) ∙ sym (h.past z (omega arith))

-- ---- the bytes of a state in range have the form
pub state_well_formed_lem : (g : Geometry) (s : State) → StateRange g s → state_well_formed g (state_to g s) ≡ true
unfolding state_well_formed
state_well_formed_lem g s h = ap (λ (t : State). same_bytes (state_to g t) (state_to g s)) (state_bytes_state g s h) ∙ same_bytes_refl (state_to g s)

-- bytes of the form hold generations of 8 bytes: a generation written again is the one that was read
pub read_generation : (g : Geometry) (xs : List ℕ) (z : ℕ) → state_well_formed g xs ≡ true → z < g.zones → (record_at (state_from g xs) z).generation < 256 ^ 8
unfolding state_from state_to record_from record_to
read_generation g xs z w h =
    let s = state_from g xs in
    let tail = drop (8 + 16 * g.zones) no_records ++ shares_part (shares_of g) (state_from g xs) in
    let (rest, e) = record_at_lem g.zones z s tail h in
    let d : drop (8 + 16 * z) xs ≡ record_to (record_at s z) ++ rest =
    ap (drop (8 + 16 * z)) (sym (bytes_state_bytes g xs w) ∙ append_assoc (records_to g.zones s) (drop (8 + 16 * g.zones) no_records) (shares_part (shares_of g) s)) ∙ e in
    let r : (record_at s z).generation ≡ read_le 8 xs (8 + 16 * z) = ap (λ (t : ZoneRecord). t.generation) (records_at (λ y. record_from xs (8 + 16 * y)) g.zones z h) in
    let q : (record_at s z).generation ≡ number_le (bytes_le 8 (record_at s z).generation) = r ∙ ap (λ (l : List ℕ). number_le (take 8 l)) d in
    rw q (number_small 8 (bytes_le 8 (record_at s z).generation) (omega arith) (number_in_bytes 8 (record_at s z).generation))

-- and shares of 4 bytes
pub read_share : (g : Geometry) (xs : List ℕ) (i : ℕ) → g.zones ≤ 16 → state_well_formed g xs ≡ true → i < shares_of g → get_or (state_from g xs).shares i 0 < 256 ^ 4
unfolding state_from state_to
read_share g xs i zs w h =
    let s = state_from g xs in
    let n = get_or (state_from g xs).shares i 0 in
    let p = records_part g.zones (state_from g xs) in
    let far : 264 + i * 4 ≡ length p + i * 4 = omega (arith, length_records_part g.zones s zs) in
    let (rest, e) = word_there (shares_of g) i s.shares (drop (shares_of g * 4) no_shares) h in
    let d : drop (264 + i * 4) xs ≡ bytes_le 4 n ++ rest = ap (drop (264 + i * 4)) (sym (bytes_state_bytes g xs w)) ∙ ap (λ (k : ℕ). drop k (p ++ shares_part (shares_of g) s)) far ∙ drop-append-add p (shares_part (shares_of g) s) (i * 4) ∙ e in
    let q : n ≡ number_le (bytes_le 4 n) = fill_at (λ j. read_le 4 xs (264 + j * 4)) 0 0 (shares_of g) (16 - shares_of g) i h ∙ ap (λ (l : List ℕ). number_le (take 4 l)) d in
    rw q (number_small 4 (bytes_le 4 n) (omega arith) (number_in_bytes 4 n))

-- none past the last drive's
pub no_share_read : (g : Geometry) (xs : List ℕ) (i : ℕ) → shares_of g ≤ i → get_or (state_from g xs).shares i 0 ≡ 0
unfolding state_from
no_share_read g xs i h = fill_past (λ j. read_le 4 xs (264 + j * 4)) 0 (shares_of g) (16 - shares_of g) i h

pub read_sixteen : (g : Geometry) (xs : List ℕ) → g.zones ≤ 16 → g.drives ≤ 8 → Sixteen (state_from g xs)
unfolding state_from
read_sixteen g xs h k = record { records = records_long (λ y. record_from xs (8 + 16 * y)) g.zones h; shares = fill_long (λ j. read_le 4 xs (264 + j * 4)) 0 16 (shares_of g) (omega arith) }
