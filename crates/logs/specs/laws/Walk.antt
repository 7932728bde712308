-- The logs that the volume keeps: entries one after the other, the last perhaps torn; what the walk makes of them, and what a cut makes of them.
use Rattle.std.specs.Prelude.{◌≡◌, refl, ◌⊎◌, Bool, ℕ, zero, suc, ◌+◌, ◌-◌, ◌≤◌, ◌<◌, min, length, take, eqb}
use Rattle.std.proofs.Common.{sym, ap, ap₂, ◌∙◌, inl, inr, zero-le, le_refl, not-suc-le-zero, le_of_suc-le-suc, arith, length-append, length-take, take_all, take-take, eq-eqb, ne_eqb, le-leb}
use Rattle.std.proofs.Math.Decide.{dec_lt}
use mathlib.Core.List.{List, [], ◌∷◌, ◌++◌, append_assoc, append-nil, Memᴰ}
use Rattle.std.proofs.lemmas.List.{take-append-le}
use Rattle.std.proofs.Math.Seq.{take-append-add, take-nil}
use Rattle.tables.specs.meaning.Basics.{pick}
use Rattle.tables.specs.declared.Geometry.{Geometry}
use Rattle.logs.specs.meaning.Entry.{Header, Entry, legal, rows_of, encode, decode}
use Rattle.logs.specs.meaning.Walk.{Ending, at_pointer, torn, with_entry, between, in_entry, decode_at, walk, sectors_of}

module _ (g : Geometry) (d : ℕ) (par : Bool) where
  abbrev pub sectors_of_all : List Entry → List (List ℕ)
  sectors_of_all [] = []
  sectors_of_all (e ∷ es) = sectors_of g d par e ++ sectors_of_all es

  pub sectors_of_append : (es fs : List Entry) → sectors_of_all (es ++ fs) ≡ sectors_of_all es ++ sectors_of_all fs
  sectors_of_append [] fs = refl
  sectors_of_append (e ∷ es) fs = rw (sectors_of_append es fs) (sym (append_assoc (sectors_of g d par e) (sectors_of_all es) (sectors_of_all fs)))

  -- ---- logs as the volume keeps them
  abbrev pub Reads : Header → Type 0
  Reads h = decode g d par (encode g d h) ≡ legal h

  abbrev pub is_whole : Entry → Bool
  is_whole e = eqb (length e.rows) (rows_of g e.head)

  abbrev pub Whole : Entry → Type 0
  Whole e = length e.rows ≡ rows_of g e.head

  -- each reads back and is whole; only the last may lack rows
  abbrev pub WellFormedLog : List Entry → Type 0
  WellFormedLog [] = Unit {0}
  WellFormedLog (e ∷ es) = Reads e.head × (Whole e ⊎ ((length e.rows < rows_of g e.head) × (es ≡ []))) × WellFormedLog es

  -- sectors up to the end of the last one, its missing rows counted
  abbrev pub log_extent : List Entry → ℕ
  log_extent [] = zero
  log_extent (e ∷ es) = suc (rows_of g e.head) + log_extent es

  abbrev pub whole_entries : List Entry → List Entry
  whole_entries [] = []
  whole_entries (e ∷ es) = pick (is_whole e) (e ∷ whole_entries es) (whole_entries es)

  abbrev pub ending_of : List Entry → Ending
  ending_of [] = at_pointer
  ending_of (e ∷ es) = pick (is_whole e) (ending_of es) (torn e.head e.rows)

  -- ---- the walk of them
  pub read_at : (x : ℕ) (h : Header) → Reads h → x + suc (rows_of g h) ≤ g.capacity → decode_at g d par x (encode g d h) ≡ legal h
  read_at x h r l = rw (r, le-leb (x + suc (rows_of g h)) g.capacity l) refl

  pub step_zero : (x : ℕ) (s : List ℕ) (h : Header) (ss : List (List ℕ)) → decode_at g d par x s ≡ legal h → rows_of g h ≡ zero → walk g d par x between (s ∷ ss) ≡ with_entry (record { head = h; rows = [] }) (walk g d par (suc x) between ss)
  step_zero x s h ss p q = rw (p, walk) (rw q refl)

  pub step_suc : (x : ℕ) (s : List ℕ) (h : Header) (k : ℕ) (ss : List (List ℕ)) → decode_at g d par x s ≡ legal h → rows_of g h ≡ suc k → walk g d par x between (s ∷ ss) ≡ walk g d par (suc x) (in_entry x h k []) ss
  step_suc x s h k ss p q = rw (p, walk) (rw q refl)

  pub walk_rows : (y : ℕ) (h : Header) (rs ss acc : List (List ℕ)) (x k : ℕ) → length rs ≡ suc k → walk g d par x (in_entry y h k acc) (rs ++ ss) ≡ with_entry (record { head = h; rows = acc ++ rs }) (walk g d par (x + length rs) between ss)
  walk_rows y h [] ss acc x k e = absurd (omega arith)
  walk_rows y h (r ∷ []) ss acc x zero e = let q : x + 1 ≡ suc x = omega arith in rw q refl
  walk_rows y h (r ∷ (t ∷ rs)) ss acc x zero e = absurd (omega arith)
  walk_rows y h (r ∷ rs) ss acc x (suc k) e =
      let q : x + suc (length rs) ≡ suc x + length rs = omega arith in
      rw q (walk_rows y h rs ss (acc ++ (r ∷ [])) (suc x) k (omega arith) ∙ rw append_assoc refl)

  pub walk_torn : (y : ℕ) (h : Header) (rs acc : List (List ℕ)) (x k : ℕ) → length rs ≤ k → walk g d par x (in_entry y h k acc) rs ≡ record { entries = []; last = torn h (acc ++ rs); position = y }
  walk_torn y h [] acc x k e = rw append-nil refl
  walk_torn y h (r ∷ rs) acc x zero e = absurd (not-suc-le-zero e)
  walk_torn y h (r ∷ rs) acc x (suc k) e = walk_torn y h rs (acc ++ (r ∷ [])) (suc x) k (omega arith) ∙ rw append_assoc refl

  pub walk_one : (e : Entry) (x : ℕ) (ss : List (List ℕ)) → Reads e.head → Whole e → x + suc (rows_of g e.head) ≤ g.capacity
      → walk g d par x between (sectors_of g d par e ++ ss) ≡ with_entry e (walk g d par (x + suc (rows_of g e.head)) between ss)
  walk_one e x ss r w l = go (rows_of g e.head) refl
    where
      none : (rs : List (List ℕ)) → length rs ≡ zero → rs ≡ []
      none [] e = refl
      none (r ∷ rs) e = absurd (omega arith)

      go : (c : ℕ) → rows_of g e.head ≡ c → walk g d par x between (sectors_of g d par e ++ ss) ≡ with_entry e (walk g d par (x + suc (rows_of g e.head)) between ss)
      go zero q =
          let z : e.rows ≡ [] = none e.rows (w ∙ q) in
          let p : x + suc (rows_of g e.head) ≡ suc x = omega arith in
          step_zero x (encode g d e.head) e.head (e.rows ++ ss) (read_at x e.head r l) q
          ∙ ap₂ with_entry (λ i. record { head = e.head; rows = sym z i }) (ap₂ (λ (y : ℕ) (t : List (List ℕ)). walk g d par y between t) (sym p) (ap (λ (t : List (List ℕ)). t ++ ss) z))
      go (suc k) q =
          let p : suc x + length e.rows ≡ x + suc (rows_of g e.head) = omega arith in
          step_suc x (encode g d e.head) e.head k (e.rows ++ ss) (read_at x e.head r l) q
          ∙ walk_rows x e.head e.rows ss [] (suc x) k (w ∙ q) ∙ ap (λ (y : ℕ). with_entry e (walk g d par y between ss)) p

  -- THE WALK OF A LAWFUL LOG: its whole entries, and the torn one if there is one
  pub walk_lawful : (es : List Entry) (x : ℕ) → WellFormedLog es → x + log_extent es ≤ g.capacity
      → ((walk g d par x between (sectors_of_all es)).entries ≡ whole_entries es) × ((walk g d par x between (sectors_of_all es)).last ≡ ending_of es)
  walk_lawful [] x l h = (refl, refl)
  walk_lawful (e ∷ es) x l h = go l.1 (λ k. walk_lawful es (x + suc (rows_of g e.head)) l.2 k)
    where
      fit : x + suc (rows_of g e.head) ≤ g.capacity
      fit = omega (arith, h)

      short : (k : ℕ) → rows_of g e.head ≡ suc k → length e.rows ≤ k → es ≡ [] → walk g d par x between (sectors_of_all (e ∷ es)) ≡ record { entries = []; last = torn e.head e.rows; position = x }
      short k q s n =
          let c : sectors_of_all (e ∷ es) ≡ sectors_of g d par e = ap (λ (r : List Entry). sectors_of g d par e ++ sectors_of_all r) n ∙ append-nil (sectors_of g d par e) in
          ap (walk g d par x between) c ∙ step_suc x (encode g d e.head) e.head k e.rows (read_at x e.head l.0 fit) q ∙ walk_torn x e.head e.rows [] (suc x) k s

      go : Whole e ⊎ ((length e.rows < rows_of g e.head) × (es ≡ []))
          → (x + suc (rows_of g e.head) + log_extent es ≤ g.capacity → ((walk g d par (x + suc (rows_of g e.head)) between (sectors_of_all es)).entries ≡ whole_entries es) × ((walk g d par (x + suc (rows_of g e.head)) between (sectors_of_all es)).last ≡ ending_of es))
          → ((walk g d par x between (sectors_of_all (e ∷ es))).entries ≡ whole_entries (e ∷ es)) × ((walk g d par x between (sectors_of_all (e ∷ es))).last ≡ ending_of (e ∷ es))
      go (inl w) ih =
          let p = walk_one e x (sectors_of_all es) l.0 w fit in
          let (a, b) = ih (omega (arith, h)) in
          rw (p, eq-eqb (length e.rows) (rows_of g e.head) w) (ap (λ (r : List Entry). e ∷ r) a, b)
      go (inr w) ih =
          let q : rows_of g e.head ≡ suc (rows_of g e.head - 1) = omega (arith, w.0) in
          let p = short (rows_of g e.head - 1) q (omega (arith, w.0)) w.1 in
          rw (p, ne_eqb (length e.rows) (rows_of g e.head) (λ t. omega (arith, w.0)), w.1) (refl, refl)

  -- ---- what a cut leaves
  abbrev pub cut_entries : List Entry → ℕ → List Entry
  cut_entries [] n = []
  cut_entries (e ∷ es) zero = []
  cut_entries (e ∷ es) (suc n) = record { head = e.head; rows = take n e.rows } ∷ cut_entries es (n - length e.rows)

  pub cut_zero : (es : List Entry) → cut_entries es zero ≡ []
  cut_zero [] = refl
  cut_zero (e ∷ es) = refl

  pub cut_flat : (es : List Entry) (n : ℕ) → take n (sectors_of_all es) ≡ sectors_of_all (cut_entries es n)
  cut_flat [] n = take-nil n
  cut_flat (e ∷ es) zero = refl
  cut_flat (e ∷ es) (suc n) = ap (λ (r : List (List ℕ)). encode g d e.head ∷ r) (go (dec_lt n (length e.rows)) (cut_flat es (n - length e.rows)))
    where
      go : Dec (n < length e.rows) → take (n - length e.rows) (sectors_of_all es) ≡ sectors_of_all (cut_entries es (n - length e.rows)) → take n (e.rows ++ sectors_of_all es) ≡ take n e.rows ++ sectors_of_all (cut_entries es (n - length e.rows))
      go (yes h) ih = let z : n - length e.rows ≡ zero = omega arith in rw (z, cut_zero es) (take-append-le n e.rows (sectors_of_all es) (omega arith) ∙ sym (append-nil (take n e.rows)))
      go (no h) ih =
          let m : n ≡ length e.rows + (n - length e.rows) = omega arith in
          let a : take n e.rows ≡ e.rows = take_all n e.rows (omega arith) in
          let b : take n (e.rows ++ sectors_of_all es) ≡ e.rows ++ take (n - length e.rows) (sectors_of_all es) = ap (λ (k : ℕ). take k (e.rows ++ sectors_of_all es)) m ∙ take-append-add e.rows (sectors_of_all es) (n - length e.rows) in
          b ∙ ap₂ (λ (u v : List (List ℕ)). u ++ v) (sym a) ih

  pub cut_lawful : (es : List Entry) (n : ℕ) → WellFormedLog es → WellFormedLog (cut_entries es n)
  cut_lawful [] n l = tt
  cut_lawful (e ∷ es) zero l = tt
  cut_lawful (e ∷ es) (suc n) l = (l.0, go (dec_lt n (length e.rows)) l.1, cut_lawful es (n - length e.rows) l.2)
    where
      go : Dec (n < length e.rows) → Whole e ⊎ ((length e.rows < rows_of g e.head) × (es ≡ []))
          → (length (take n e.rows) ≡ rows_of g e.head) ⊎ ((length (take n e.rows) < rows_of g e.head) × (cut_entries es (n - length e.rows) ≡ []))
      go (yes h) (inl w) = let z : n - length e.rows ≡ zero = omega arith in inr (rw length-take (omega arith), rw z (cut_zero es))
      go (no h) (inl w) = inl (rw (take_all n e.rows (omega arith)) w)
      go h (inr w) = inr (rw length-take (omega (arith, w.0)), rw w.1 refl)

  pub cut_extent : (es : List Entry) (n : ℕ) → log_extent (cut_entries es n) ≤ log_extent es
  cut_extent [] n = zero-le
  cut_extent (e ∷ es) zero = zero-le
  cut_extent (e ∷ es) (suc n) = omega (arith, cut_extent es (n - length e.rows))

  -- what is left of an entry: its header and a front of its rows
  pub record Left (e : Entry) (es : List Entry) : Type 0 where
    pub of : Entry
    pub is_set : Memᴰ of es
    pub heads : e.head ≡ of.head
    pub many : ℕ
    pub rows_are : e.rows ≡ take many of.rows

  pub cut_left : (es : List Entry) (n : ℕ) (e : Entry) → Memᴰ e (cut_entries es n) → Left e es
  cut_left (f ∷ es) (suc n) e (Memᴰ.head q) = record { of = f; is_set = Memᴰ.head refl; heads = rw q refl; many = n; rows_are = rw q refl }
  cut_left (f ∷ es) (suc n) e (Memᴰ.tail m) =
      let l = cut_left es (n - length f.rows) e m in
      record { of = l.of; is_set = Memᴰ.tail l.is_set; heads = l.heads; many = l.many; rows_are = l.rows_are }
  cut_left [] n e x' = elim x' [ ]
  cut_left (f ∷ es) zero e x3 = elim x3 [ ]

  -- a whole entry that a cut leaves stays in every longer one
  pub cut_mono : (es : List Entry) (m n : ℕ) (e : Entry) → WellFormedLog es → m ≤ n → Whole e → Memᴰ e (cut_entries es m) → Memᴰ e (cut_entries es n)
  cut_mono (f ∷ es) (suc m) zero e l h w k = absurd (not-suc-le-zero h)
  cut_mono (f ∷ es) (suc m) (suc n) e l h w (Memᴰ.head q) = Memᴰ.head (q ∙ same)
    where
      lens : length (take m f.rows) ≡ rows_of g f.head
      lens = rw q at w

      most : length f.rows ≤ rows_of g f.head
      most = go l.1
        where
          go : Whole f ⊎ ((length f.rows < rows_of g f.head) × (es ≡ [])) → length f.rows ≤ rows_of g f.head
          go (inl x) = omega arith
          go (inr x) = omega (arith, x.0)

      same : ◌≡◌ {A = Entry} (record { head = f.head; rows = take m f.rows }) (record { head = f.head; rows = take n f.rows })
      same =
          let c : min m (length f.rows) ≡ rows_of g f.head = rw length-take at lens in
          λ i. record { head = f.head; rows = (take_all m f.rows (omega (arith, c, most)) ∙ sym (take_all n f.rows (omega (arith, c, most)))) i }
  cut_mono (f ∷ es) (suc m) (suc n) e l h w (Memᴰ.tail k) = Memᴰ.tail (cut_mono es (m - length f.rows) (n - length f.rows) e l.2 (omega (arith, le_of_suc-le-suc h)) w k)
  cut_mono [] m n e l h w k = elim k [ ]
  cut_mono (f ∷ es) zero n e l h w k = elim k [ ]

  -- a cut of a cut
  pub cut_again : (es : List Entry) (n : ℕ) → cut_entries (cut_entries es n) n ≡ cut_entries es n
  cut_again [] n = refl
  cut_again (e ∷ es) zero = refl
  cut_again (e ∷ es) (suc n) = go (dec_lt n (length e.rows)) (cut_again es (n - length e.rows))
    where
      go : Dec (n < length e.rows) → cut_entries (cut_entries es (n - length e.rows)) (n - length e.rows) ≡ cut_entries es (n - length e.rows)
          → record { head = e.head; rows = take n (take n e.rows) } ∷ cut_entries (cut_entries es (n - length e.rows)) (n - length (take n e.rows)) ≡ record { head = e.head; rows = take n e.rows } ∷ cut_entries es (n - length e.rows)
      go (yes h) ih =
          let z : n - length e.rows ≡ zero = omega arith in
          let t : take n (take n e.rows) ≡ take n e.rows = take-take n n e.rows (le_refl n) in
          rw (z, t, cut_zero es) refl
      go (no h) ih = let a : take n e.rows ≡ e.rows = take_all n e.rows (omega arith) in rw (a, a) (ap (λ (r : List Entry). record { head = e.head; rows = e.rows } ∷ r) ih)

  -- a shorter cut of a cut
  pub cut_cut : (es : List Entry) (m n : ℕ) → m ≤ n → cut_entries (cut_entries es n) m ≡ cut_entries es m
  cut_cut [] m n h = refl
  cut_cut (e ∷ es) zero n h = cut_zero (cut_entries (e ∷ es) n)
  cut_cut (e ∷ es) (suc m) zero h = absurd (not-suc-le-zero h)
  cut_cut (e ∷ es) (suc m) (suc n) h = go (dec_lt m (length e.rows)) (λ i j k. cut_cut es i j k)
    where
      go : Dec (m < length e.rows) → ((i j : ℕ) → i ≤ j → cut_entries (cut_entries es j) i ≡ cut_entries es i)
          → record { head = e.head; rows = take m (take n e.rows) } ∷ cut_entries (cut_entries es (n - length e.rows)) (m - length (take n e.rows)) ≡ record { head = e.head; rows = take m e.rows } ∷ cut_entries es (m - length e.rows)
      go (yes k) ih =
          let z : m - length e.rows ≡ zero = omega arith in
          let y : m - length (take n e.rows) ≡ zero = rw length-take (omega (arith, le_of_suc-le-suc h)) in
          let t : take m (take n e.rows) ≡ take m e.rows = take-take m n e.rows (le_of_suc-le-suc h) in
          rw (z, y, t, cut_zero es, cut_zero (cut_entries es (n - length e.rows))) refl
      go (no k) ih =
          let a : take n e.rows ≡ e.rows = take_all n e.rows (omega (arith, le_of_suc-le-suc h)) in
          rw a (ap (λ (r : List Entry). record { head = e.head; rows = take m e.rows } ∷ r) (ih (m - length e.rows) (n - length e.rows) (omega (arith, le_of_suc-le-suc h))))

  -- a cut past the end
  pub cut_all : (es : List Entry) (n : ℕ) → length (sectors_of_all es) ≤ n → cut_entries es n ≡ es
  cut_all [] n h = refl
  cut_all (e ∷ es) zero h = absurd (not-suc-le-zero h)
  cut_all (e ∷ es) (suc n) h =
      let k : length e.rows + length (sectors_of_all es) ≤ n = omega (arith, le_of_suc-le-suc h, length-append e.rows (sectors_of_all es)) in
      ap₂ (λ (a : Entry) (r : List Entry). a ∷ r) (λ i. record { head = e.head; rows = take_all n e.rows (omega (arith, k)) i }) (cut_all es (n - length e.rows) (omega (arith, k)))

  -- entries that join a log
  pub cut_joins : (es fs : List Entry) (n : ℕ) (e : Entry) → Memᴰ e (cut_entries es n) → Memᴰ e (cut_entries (es ++ fs) n)
  cut_joins (f ∷ es) fs (suc n) e (Memᴰ.head q) = Memᴰ.head q
  cut_joins (f ∷ es) fs (suc n) e (Memᴰ.tail m) = Memᴰ.tail (cut_joins es fs (n - length f.rows) e m)
  cut_joins [] fs n e x' = elim x' [ ]
  cut_joins (f ∷ es) fs zero e x3 = elim x3 [ ]

  pub lawful_joins : (es fs : List Entry) → ((e : Entry) → Memᴰ e es → Whole e) → WellFormedLog es → WellFormedLog fs → WellFormedLog (es ++ fs)
  lawful_joins [] fs w l k = k
  lawful_joins (e ∷ es) fs w l k = (l.0, inl (w e (Memᴰ.head refl)), lawful_joins es fs (λ f m. w f (Memᴰ.tail m)) l.2 k)

  pub extent_append : (es fs : List Entry) → log_extent (es ++ fs) ≡ log_extent es + log_extent fs
  extent_append [] fs = omega arith
  extent_append (e ∷ es) fs = let q = extent_append es fs in omega arith

  -- whole entries reach as far as they go
  pub extent_whole : (es : List Entry) → ((e : Entry) → Memᴰ e es → Whole e) → log_extent es ≡ length (sectors_of_all es)
  extent_whole [] w = refl
  extent_whole (e ∷ es) w =
      let q = extent_whole es (λ f m. w f (Memᴰ.tail m)) in
      let c : length e.rows ≡ rows_of g e.head = w e (Memᴰ.head refl) in
      omega (arith, q, c, length-append e.rows (sectors_of_all es))
