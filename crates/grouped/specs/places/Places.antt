-- Where the stripes' blocks lie, as the code notes it in the work table's first half: number d × N + n is one more than the offset of stripe n's block on
-- drive d, 0 if there is none.
use Rattle.std.specs.Prelude.{◌≡◌, ◌≢◌, ◌⊎◌, ◌&&◌, ℕ, zero, suc, ◌+◌, ◌*◌, ◌/◌, ◌%◌, ◌≤◌, ◌<◌, List, replicate, eqb}
use Rattle.std.proofs.Math.Path.{refl}
use Rattle.std.proofs.Common.{sym, ap, ◌∙◌, inl, inr, mod-lt, mul-le-mul_right, div-add-mod', le_refl, add-one, leb-true, leb-false, eq-eqb, ne_eqb, eqb-true}
use Rattle.std.proofs.Math.Bool.{Bool, true, false}
use Rattle.std.proofs.Math.Decide.{ℕ_discrete}
use native.Mathlib.Omega.{arith}
use Rattle.std.proofs.Math.ListN.{length}
use Rattle.std.proofs.lemmas.List.{length-replicate}
use Rattle.std.proofs.Math.Arith.{digits_div, digits_mod}
use Rattle.std.proofs.Math.Dec.{leb}
use Rattle.tables.specs.meaning.Basics.{pick}
use Rattle.tables.specs.meaning.Below.{any_below}
use Rattle.tables.specs.laws.Basics.{and_split, and_join}
use Rattle.tables.specs.laws.Below.{count_below_one, any_below_cong}
use Rattle.grouped.specs.declared.Segment.{Segment}
use Rattle.grouped.specs.meaning.Segment.{total_blocks}
use Rattle.grouped.specs.meaning.Stripes.{id_at, of_stripe, wrong_drive, last_below}
use Rattle.grouped.specs.laws.Segment.{Valid, stripe_in_lem, cell_in}
use Rattle.grouped.specs.laws.Words.{word, set_word, length_set_word, word_set, word_set_other, word_cleared}
use Rattle.grouped.specs.laws.Pigeonhole.{wrong_is_lacking}

-- ---- a block is of one stripe at most, that of its ID in its group
unfoldable pub stripe_at : Segment → List ℕ → ℕ → ℕ → ℕ
stripe_at s ms d i = i / s.group * s.group + id_at ms (d * s.blocks + i)

pub of_stripe_at : (s : Segment) (ms : List ℕ) (d n i : ℕ) → of_stripe s ms d n i ≡ true → n ≡ stripe_at s ms d i
unfolding of_stripe stripe_at
of_stripe_at s ms d n i h =
    let (p, q) = and_split (eqb (i / s.group) (n / s.group)) (eqb (id_at ms (d * s.blocks + i)) (n % s.group)) h in
    let a : i / s.group ≡ n / s.group = eqb-true _ _ p in
    let b : id_at ms (d * s.blocks + i) ≡ n % s.group = eqb-true _ _ q in
    rw (a, b) (sym (div-add-mod' n s.group))

pub at_of_stripe : (s : Segment) (ms : List ℕ) (d i : ℕ) → id_at ms (d * s.blocks + i) < s.group → of_stripe s ms d (stripe_at s ms d i) i ≡ true
unfolding of_stripe stripe_at
at_of_stripe s ms d i h =
    rw (digits_div (i / s.group) h, digits_mod (i / s.group) h) (and_join _ _ (eq-eqb (i / s.group) (i / s.group) refl) (eq-eqb (id_at ms (d * s.blocks + i)) (id_at ms (d * s.blocks + i)) refl))

pub of_other : (s : Segment) (ms : List ℕ) (d n i : ℕ) → n ≢ stripe_at s ms d i → of_stripe s ms d n i ≡ false
of_other s ms d n i ne = go (of_stripe s ms d n i) refl
  where
    go : (t : Bool) → of_stripe s ms d n i ≡ t → t ≡ false
    go true e = absurd (ne (of_stripe_at s ms d n i e))
    go false e = refl

pub of_none : (s : Segment) (ms : List ℕ) (d n i : ℕ) → 1 ≤ s.group → s.group ≤ id_at ms (d * s.blocks + i) → of_stripe s ms d n i ≡ false
unfolding of_stripe
of_none s ms d n i g h = go (eqb (i / s.group) (n / s.group))
  where
    go : (t : Bool) → t && eqb (id_at ms (d * s.blocks + i)) (n % s.group) ≡ false
    go true = ne_eqb (id_at ms (d * s.blocks + i)) (n % s.group) (omega (arith, mod-lt n g))
    go false = refl

-- 23 of one drive: some stripe has no block there
pub wrong_drive_lacks : (s : Segment) (ms : List ℕ) (d : ℕ) → wrong_drive s ms d ≡ any_below (λ n. eqb (last_below (of_stripe s ms d n) s.blocks) 0) s.blocks
unfolding wrong_drive
wrong_drive_lacks s ms d = wrong_is_lacking (of_stripe s ms d) s.blocks (λ i. count_below_one (λ n. of_stripe s ms d n i) s.blocks (stripe_at s ms d i) (λ n l ne. of_other s ms d n i ne))

-- ---- what the code notes
-- block i of drive d
unfoldable pub note_place : Segment → List ℕ → ℕ → ℕ → List ℕ → List ℕ
note_place s ms d i w = pick (leb s.group (id_at ms (d * s.blocks + i))) w (set_word w (d * s.blocks + stripe_at s ms d i) (i + 1))

-- the first i blocks of drive d
abbrev pub placed_drive : Segment → List ℕ → ℕ → ℕ → List ℕ → List ℕ
placed_drive s ms d zero w = w
placed_drive s ms d (suc i) w = note_place s ms d i (placed_drive s ms d i w)

-- all of the first e drives but x; the rest is 0
pub record Noted (s : Segment) (ms : List ℕ) (x e : ℕ) (w : List ℕ) : Type 0 where
  pub long : length w ≡ total_blocks s * 8
  pub here : (d n : ℕ) → d < e → d ≢ x → n < s.blocks → word w (d * s.blocks + n) ≡ last_below (of_stripe s ms d n) s.blocks
  pub rest : (k : ℕ) → e * s.blocks ≤ k → k < total_blocks s → word w k ≡ 0

module _ (s : Segment) (ms : List ℕ) (v : Valid s) (whole : s.blocks % s.group ≡ 0) (d : ℕ) (hd : d < s.drives) where
  pub note_in : (i : ℕ) → i < s.blocks → id_at ms (d * s.blocks + i) < s.group → d * s.blocks + stripe_at s ms d i < total_blocks s
  unfolding stripe_at
  note_in i h l = cell_in s d (i / s.group * s.group + id_at ms (d * s.blocks + i)) hd (stripe_in_lem s i (id_at ms (d * s.blocks + i)) v.group_least whole h l)

  note_long : (i : ℕ) (w : List ℕ) → i < s.blocks → length w ≡ total_blocks s * 8 → length (note_place s ms d i w) ≡ total_blocks s * 8
  unfolding note_place
  note_long i w h l = go (leb s.group (id_at ms (d * s.blocks + i))) refl
    where
      go : (t : Bool) → leb s.group (id_at ms (d * s.blocks + i)) ≡ t → length (pick t w (set_word w (d * s.blocks + stripe_at s ms d i) (i + 1))) ≡ total_blocks s * 8
      go true e = l
      go false e = length_set_word w (d * s.blocks + stripe_at s ms d i) (i + 1) (omega (arith, note_in i h (leb-false _ _ e))) ∙ l

  -- the number of stripe n on this drive
  note_word : (i n : ℕ) (w : List ℕ) → i < s.blocks → n < s.blocks → length w ≡ total_blocks s * 8
      → word (note_place s ms d i w) (d * s.blocks + n) ≡ pick (of_stripe s ms d n i) (suc i) (word w (d * s.blocks + n))
  unfolding note_place
  note_word i n w h k l = go (leb s.group (id_at ms (d * s.blocks + i))) refl
    where
      Same : Bool → Type 0
      Same t = word (pick t w (set_word w (d * s.blocks + stripe_at s ms d i) (i + 1))) (d * s.blocks + n) ≡ pick (of_stripe s ms d n i) (suc i) (word w (d * s.blocks + n))

      by : id_at ms (d * s.blocks + i) < s.group → Dec (n ≡ stripe_at s ms d i) → Same false
      by m (yes e) =
          rw (e, at_of_stripe s ms d i m) (word_set w (d * s.blocks + stripe_at s ms d i) (i + 1) (omega (arith, note_in i h m)) (omega (arith, v.blocks_most)) ∙ add-one i)
      by m (no e) =
          rw (of_other s ms d n i e) (word_set_other w (d * s.blocks + stripe_at s ms d i) (i + 1) (d * s.blocks + n) (omega (arith, note_in i h m)) (omega (arith, cell_in s d n hd k)) (omega arith))

      go : (t : Bool) → leb s.group (id_at ms (d * s.blocks + i)) ≡ t → Same t
      go true e = rw (of_none s ms d n i v.group_least (leb-true _ _ e)) refl
      go false e = by (leb-false _ _ e) (ℕ_discrete n (stripe_at s ms d i))

  -- a number of another drive
  note_other : (i k : ℕ) (w : List ℕ) → i < s.blocks → k < total_blocks s → (k < d * s.blocks) ⊎ (d * s.blocks + s.blocks ≤ k) → length w ≡ total_blocks s * 8
      → word (note_place s ms d i w) k ≡ word w k
  unfolding note_place stripe_at
  note_other i k w h m apart l = go (leb s.group (id_at ms (d * s.blocks + i))) refl
    where
      ne : (k < d * s.blocks) ⊎ (d * s.blocks + s.blocks ≤ k) → id_at ms (d * s.blocks + i) < s.group → k ≢ d * s.blocks + stripe_at s ms d i
      ne (inl q) b = omega arith
      ne (inr q) b = omega (arith, stripe_in_lem s i (id_at ms (d * s.blocks + i)) v.group_least whole h b)

      go : (t : Bool) → leb s.group (id_at ms (d * s.blocks + i)) ≡ t → word (pick t w (set_word w (d * s.blocks + stripe_at s ms d i) (i + 1))) k ≡ word w k
      go true e = refl
      go false e = word_set_other w (d * s.blocks + stripe_at s ms d i) (i + 1) k (omega (arith, note_in i h (leb-false _ _ e))) (omega arith) (ne apart (leb-false _ _ e))

  pub placed_long : (i : ℕ) (w : List ℕ) → i ≤ s.blocks → length w ≡ total_blocks s * 8 → length (placed_drive s ms d i w) ≡ total_blocks s * 8
  placed_long zero w h l = l
  placed_long (suc i) w h l = note_long i (placed_drive s ms d i w) h (placed_long i w (omega arith) l)

  placed_word : (i n : ℕ) (w : List ℕ) → i ≤ s.blocks → n < s.blocks → length w ≡ total_blocks s * 8 → word w (d * s.blocks + n) ≡ 0
      → word (placed_drive s ms d i w) (d * s.blocks + n) ≡ last_below (of_stripe s ms d n) i
  placed_word zero n w h k l z = z
  placed_word (suc i) n w h k l z = note_word i n (placed_drive s ms d i w) h k (placed_long i w (omega arith) l) ∙ ap (pick (of_stripe s ms d n i) (suc i)) (placed_word i n w (omega arith) k l z)

  placed_other : (i k : ℕ) (w : List ℕ) → i ≤ s.blocks → k < total_blocks s → (k < d * s.blocks) ⊎ (d * s.blocks + s.blocks ≤ k) → length w ≡ total_blocks s * 8
      → word (placed_drive s ms d i w) k ≡ word w k
  placed_other zero k w h m apart l = refl
  placed_other (suc i) k w h m apart l = note_other i k (placed_drive s ms d i w) h m apart (placed_long i w (omega arith) l) ∙ placed_other i k w (omega arith) m apart l

  -- ---- one drive more is noted
  pub noted_drive : (x : ℕ) (w : List ℕ) → Noted s ms x d w → Noted s ms x (suc d) (placed_drive s ms d s.blocks w)
  noted_drive x w o = record {
    long = placed_long s.blocks w (le_refl s.blocks) o.long;
    here = λ e n l ne k. here e n k ne (ℕ_discrete e d) l;
    rest = λ k l m. placed_other s.blocks k w (le_refl s.blocks) m (inr (omega arith)) o.long ∙ o.rest k (omega arith) m;
  }
    where
      own : (n : ℕ) → n < s.blocks → word w (d * s.blocks + n) ≡ 0
      own n k = o.rest (d * s.blocks + n) (omega arith) (cell_in s d n hd k)

      here : (e n : ℕ) → n < s.blocks → e ≢ x → Dec (e ≡ d) → e < suc d → word (placed_drive s ms d s.blocks w) (e * s.blocks + n) ≡ last_below (of_stripe s ms e n) s.blocks
      here e n k ne (yes q) l = rw q (placed_word s.blocks n w (le_refl s.blocks) k o.long (own n k))
      here e n k ne (no q) l =
          let b : suc e ≤ d = omega arith in
          let m : suc e * s.blocks ≤ d * s.blocks = mul-le-mul_right s.blocks b in
          placed_other s.blocks (e * s.blocks + n) w (le_refl s.blocks) (cell_in s e n (omega arith) k) (inl (omega arith)) o.long ∙ o.here e n (omega arith) ne k

  pub noted_missing : (x : ℕ) (w : List ℕ) → d ≡ x → Noted s ms x d w → Noted s ms x (suc d) w
  noted_missing x w q o = record {
    long = o.long;
    here = λ e n l ne k. o.here e n (omega arith) ne k;
    rest = λ k l m. o.rest k (omega arith) m;
  }

  -- what is then lacking is what 23 says of the drive
  pub lacks_wrong : (x : ℕ) (w : List ℕ) → d ≢ x → Noted s ms x (suc d) w → any_below (λ n. eqb (word w (d * s.blocks + n)) 0) s.blocks ≡ wrong_drive s ms d
  lacks_wrong x w ne o = any_below_cong _ _ s.blocks (λ n l. ap (λ (k : ℕ). eqb k 0) (o.here d n (omega arith) ne l)) ∙ sym (wrong_drive_lacks s ms d)

pub noted_none : (s : Segment) (ms : List ℕ) (x n : ℕ) → n ≡ total_blocks s * 8 → Noted s ms x 0 (replicate n 0)
noted_none s ms x n e = record { long = length-replicate {A = ℕ} n 0 ∙ e; here = λ d i l. absurd (omega arith); rest = λ k l m. word_cleared n k }
