-- The bytes of a state in which the lost drive, one zone's record and one share are put: those of the state with them.
use Rattle.std.specs.Prelude.{◌≡◌, refl, ◌≢◌, ℕ, zero, suc, ◌+◌, ◌*◌, ◌%◌, ◌≤◌, ◌<◌, get_or, set}
use Rattle.std.proofs.Common.{sym, ap₂, ◌∙◌, mul-le-mul_left, mul-suc, arith, take_at, get_or-set_other, get_or-set_same}
use Rattle.std.proofs.Math.Path.{ap}
use Rattle.std.proofs.Math.Decide.{dec_lt}
use mathlib.Core.List.{append-nil, List, ◌++◌}
use Rattle.std.proofs.Math.ListN.{length, drop}
use Rattle.std.proofs.Math.Seq.{drop-append-add, drop-length}
use Rattle.tables.specs.declared.Geometry.{Geometry}
use Rattle.tables.specs.meaning.Lists.{overlay}
use Rattle.tables.specs.meaning.LittleEndian.{bytes_le}
use Rattle.tables.specs.laws.LittleEndian.{write_le}
use Rattle.tables.specs.laws.Lists.{overlay_all}
use Rattle.volume.specs.declared.ZoneRecord.{ZoneRecord}
use Rattle.volume.specs.declared.State.{State}
use Rattle.volume.specs.meaning.CallContracts.{blank_record, record_at}
use Rattle.zrv.specs.meaning.Bytes.{words_to, record_to, records_to, no_records, no_shares, shares_of, records_part, shares_part, state_to}
use Rattle.zrv.specs.laws.Bytes.{overlay_front, overlay_back, length_words_to, length_record_to, length_records_to, length_records_part}

-- ---- a list of n parts, each of w bytes, behind a head of h bytes: F with the parts f, F' with the parts f', which differ in part z alone
module _ (F F' f f' : ℕ → List ℕ) (h w z : ℕ) (same_head : F 0 ≡ F' 0) (more : (n : ℕ) → F (suc n) ≡ F n ++ f n) (more' : (n : ℕ) → F' (suc n) ≡ F' n ++ f' n) (long : (n : ℕ) → length (F n) ≡ h + w * n)
    (part : (n : ℕ) → length (f n) ≡ w) (part' : length (f' z) ≡ w) (others : (n : ℕ) → n ≢ z → f n ≡ f' n) where
  before : (n : ℕ) → n ≤ z → F n ≡ F' n
  before zero l = same_head
  before (suc n) l = more n ∙ ap₂ (λ (x y : List ℕ). x ++ y) (before n (omega arith)) (others n (λ e. omega arith)) ∙ sym (more' n)

  -- laid over part z
  last_put : overlay (F z ++ f z) (h + w * z) (f' z) ≡ F z ++ f' z
  last_put =
      let src = f' z in
      ap₂ (λ (x y : List ℕ). x ++ src ++ y) (take_at (F z) (f z) (h + w * z) (long z))
      (ap (λ (n : ℕ). drop (n + length src) (F z ++ f z)) (sym (long z)) ∙ drop-append-add (F z) (f z) (length src) ∙ ap (λ (n : ℕ). drop n (f z)) (part' ∙ sym (part z)) ∙ drop-length (f z))
      ∙ append-nil (F z ++ src)

  pub part_put : (n : ℕ) → z < n → overlay (F n) (h + w * z) (f' z) ≡ F' n
  part_put zero l = absurd (omega arith)
  part_put (suc n) l = ap (λ (x : List ℕ). overlay x (h + w * z) (f' z)) (more n) ∙ go (dec_lt z n) (λ k. part_put n k) ∙ sym (more' n)
    where
      go : Dec (z < n) → (z < n → overlay (F n) (h + w * z) (f' z) ≡ F' n) → overlay (F n ++ f n) (h + w * z) (f' z) ≡ F' n ++ f' n
      go (yes k) ih =
          overlay_front (F n) (f n) (h + w * z) (f' z) (omega (arith, long n, part', rw mul-suc at (mul-le-mul_left w k))) ∙ ap₂ (λ (x y : List ℕ). x ++ y) (ih k) (others n (λ e. omega arith))
      go (no k) ih =
          let e : z ≡ n = omega arith in
          ap (λ (m : ℕ). overlay (F m ++ f m) (h + w * z) (f' z)) (sym e) ∙ last_put ∙ ap (λ (x : List ℕ). x ++ f' z) (before z (omega arith)) ∙ ap (λ (m : ℕ). F' m ++ f' m) e

module _ (s : State) (x : ℕ) where
  -- the state with another lost drive, and with a zone's record too
  abbrev lost_as : State
  lost_as = record { lost = x; zones = s.zones; shares = s.shares }

  abbrev record_as : ℕ → ZoneRecord → State
  record_as z r = record { lost = x; zones = set s.zones z r; shares = s.shares }

  lost_put : (n : ℕ) → overlay (records_to n s) 0 (bytes_le 8 (x % 256)) ≡ records_to n lost_as
  lost_put zero = overlay_all (bytes_le 8 (s.lost % 256)) (bytes_le 8 (x % 256)) refl
  lost_put (suc n) = overlay_front (records_to n s) (record_to (record_at s n)) 0 (bytes_le 8 (x % 256)) (omega (arith, length_records_to n s)) ∙ ap (λ (l : List ℕ). l ++ record_to (record_at s n)) (lost_put n)

  module _ (z : ℕ) (r : ZoneRecord) (in_state : z < length s.zones) where
    here : record_at (record_as z r) z ≡ r
    here = get_or-set_same s.zones z r blank_record in_state

    record_put : (n : ℕ) → z < n → overlay (records_to n lost_as) (8 + 16 * z) (record_to r) ≡ records_to n (record_as z r)
    record_put n h =
        ap (λ (q : ZoneRecord). overlay (records_to n lost_as) (8 + 16 * z) (record_to q)) (sym here)
        ∙ part_put (λ k. records_to k lost_as) (λ k. records_to k (record_as z r)) (λ k. record_to (record_at s k)) (λ k. record_to (record_at (record_as z r) k)) 8 16 z refl (λ k. refl) (λ k. refl) (λ k. length_records_to k lost_as) (λ k. length_record_to (record_at s k))
        (length_record_to (record_at (record_as z r) z)) (λ k ne. ap record_to (sym (get_or-set_other s.zones z k r blank_record ne))) n h

    record_in_state : (g : Geometry) → g.zones ≤ 16 → z < g.zones → overlay (write_le 8 (state_to g s) 0 (x % 256)) (8 + 16 * z) (record_to r) ≡ state_to g (record_as z r)
    unfolding state_to
    record_in_state g most h =
        let n = g.zones in
        let zeros = drop (8 + 16 * n) no_records in
        let shares = shares_part (shares_of g) s in
        let room : 8 + 16 * z + length (record_to r) ≤ 8 + 16 * n = omega (arith, length_record_to r, h) in
        ap (λ (l : List ℕ). overlay l (8 + 16 * z) (record_to r))
        (overlay_front (records_part n s) shares 0 (bytes_le 8 (x % 256)) (omega (arith, length_records_part n s most))
        ∙ ap (λ (l : List ℕ). l ++ shares) (overlay_front (records_to n s) zeros 0 (bytes_le 8 (x % 256)) (omega (arith, length_records_to n s)) ∙ ap (λ (l : List ℕ). l ++ zeros) (lost_put n)))
        ∙ overlay_front (records_part n lost_as) shares (8 + 16 * z) (record_to r) (omega (arith, length_records_part n lost_as most, room, most))
        ∙ ap (λ (l : List ℕ). l ++ shares) (overlay_front (records_to n lost_as) zeros (8 + 16 * z) (record_to r) (omega (arith, length_records_to n lost_as, room)) ∙ ap (λ (l : List ℕ). l ++ zeros) (record_put n h))

-- ---- a share
abbrev share_as : State → ℕ → ℕ → State
share_as s i n = record { lost = s.lost; zones = s.zones; shares = set s.shares i n }

share_in_state : (g : Geometry) (s : State) (i n : ℕ) → g.zones ≤ 16 → i < shares_of g → i < length s.shares → write_le 4 (state_to g s) (264 + i * 4) n ≡ state_to g (share_as s i n)
unfolding state_to
share_in_state g s i n most h long =
    let k = shares_of g in
    let front = records_part g.zones s in
    let zeros = drop (shares_of g * 4) no_shares in
    overlay_back front (shares_part k s) 264 (i * 4) (bytes_le 4 n) (length_records_part g.zones s most)
    ∙ ap (λ (l : List ℕ). front ++ l) (overlay_front (words_to k s.shares) zeros (i * 4) (bytes_le 4 n) (omega (arith, length_words_to k s.shares, h)) ∙ ap (λ (l : List ℕ). l ++ zeros) (word_put k h))
    ∙ ap (λ (l : List ℕ). (l ++ drop (8 + 16 * g.zones) no_records) ++ (words_to k (set s.shares i n) ++ zeros)) (same_records g.zones)
  where
    same_records : (m : ℕ) → records_to m s ≡ records_to m (share_as s i n)
    same_records zero = refl
    same_records (suc m) = ap (λ (l : List ℕ). l ++ record_to (record_at s m)) (same_records m)

    word_put : (k : ℕ) → i < k → overlay (words_to k s.shares) (i * 4) (bytes_le 4 n) ≡ words_to k (set s.shares i n)
    word_put k l =
        let at : i * 4 ≡ 0 + 4 * i = omega arith in
        let new : get_or (set s.shares i n) i 0 ≡ n = get_or-set_same s.shares i n 0 long in
        ap₂ (λ (p m : ℕ). overlay (words_to k s.shares) p (bytes_le 4 m)) at (sym new)
        ∙ part_put (λ j. words_to j s.shares) (λ j. words_to j (set s.shares i n)) (λ j. bytes_le 4 (get_or s.shares j 0)) (λ j. bytes_le 4 (get_or (set s.shares i n) j 0)) 0 4 i refl (λ j. refl) (λ j. refl)
        (λ j. length_words_to j s.shares ∙ omega arith) (λ j. refl) refl (λ j ne. ap (bytes_le 4) (sym (get_or-set_other s.shares i j n 0 ne))) k l

-- ---- lost drive, record and share
pub state_put : (g : Geometry) (s : State) (x z : ℕ) (r : ZoneRecord) (i n : ℕ) → g.zones ≤ 16 → z < g.zones → z < length s.zones → i < shares_of g → i < length s.shares
    → write_le 4 (overlay (write_le 8 (state_to g s) 0 (x % 256)) (8 + 16 * z) (record_to r)) (264 + i * 4) n ≡ state_to g (record { lost = x; zones = set s.zones z r; shares = set s.shares i n })
state_put g s x z r i n most hz in_state hi long = ap (λ (l : List ℕ). write_le 4 l (264 + i * 4) n) (record_in_state s x z r in_state g most hz) ∙ share_in_state g (record_as s x z r) i n most hi long
