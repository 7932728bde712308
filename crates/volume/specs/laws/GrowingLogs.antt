-- Logs that grow. A general log that is whole up to its pointer stays so when legal headers join it (`general_grows`); a parity log whose last entry is
-- torn is whole up to its pointer once the rows that lack, and whole entries, have joined it (`parity_grows`).
use Rattle.std.specs.Prelude.{◌≡◌, refl, ◌≢◌, true, false, ℕ, zero, suc, ◌+◌, ◌≤◌, length, get_or}
use Rattle.std.proofs.Common.{sym, ap, ap₂, ◌∙◌, inl, arith, length-append}
use mathlib.Core.List.{List, [], ◌∷◌, ◌++◌, append_assoc, append-nil, map, Memᴰ}
use Rattle.tables.specs.declared.Geometry.{Geometry}
use Rattle.tables.specs.laws.Lists.{map_append, mem_nil}
use Rattle.logs.specs.meaning.Entry.{Header, closing, Entry, Decoded, legal, bad, rows_of, encode}
use Rattle.logs.specs.declared.Fault.{Fault}
use Rattle.logs.specs.meaning.Walk.{Walked, Ending, at_pointer, no_entry, torn, WalkState, between, in_entry, decode_at, walk, walk_log, sectors_of}
use Rattle.logs.specs.laws.Walk.{sectors_of_all, sectors_of_append, Reads, Whole, WellFormedLog, log_extent, walk_lawful, walk_rows, step_zero, step_suc, lawful_joins, extent_whole}
use Rattle.logs.specs.laws.WalkLaws.{entries_in_front, last_in_front, walk_goes_on, walk_of_append, AllWhole}
use Rattle.logs.specs.laws.LogLaws.{whole_ends}
use Rattle.logs.specs.laws.Legal.{legal_fits}
use Rattle.logs.specs.laws.HeadLaws.{general_no_rows, reads_fits}
use Rattle.logs.specs.laws.Places.{EndsAt, walk_places}
use Rattle.logs.specs.code.Query.{heads_of}

-- ---- contradictions
pub pointer_not_torn : (h : Header) (rs : List (List ℕ)) → at_pointer ≡ torn h rs → ⊥
pointer_not_torn h rs e = let z : ◌≡◌ {A = ℕ} 0 1 = cc in omega arith

pub none_not_torn : (f : Fault) (h : Header) (rs : List (List ℕ)) → no_entry f ≡ torn h rs → ⊥
none_not_torn f h rs e = let z : ◌≡◌ {A = ℕ} 0 1 = cc in omega arith

-- a header that is no closing entry
abbrev pub Plain : Header → Type 0
Plain h = (k n : ℕ) → h ≡ closing k n → ⊥

-- ==== the general log of drive d
module _ (g : Geometry) (d : ℕ) (Q : Header → Type 0) where
  -- sectors that are headers which read back, each with a property
  abbrev pub Headers : List (List ℕ) → Type 0
  Headers [] = Unit {0}
  Headers (s ∷ ss) = ((h : Header) × (s ≡ encode g d h) × Reads g d false h × Q h) × Headers ss

  pub headers_join : (a b : List (List ℕ)) → Headers a → Headers b → Headers (a ++ b)
  headers_join [] b p q = q
  headers_join (s ∷ a) b p q = (p.0, headers_join a b p.1 q)

  pub record Grown (base ss : List (List ℕ)) : Type 0 where
    pub ends : (walk_log g d false (base ++ ss)).last ≡ at_pointer
    pub more : List Header
    pub heads_are : heads_of (walk_log g d false (base ++ ss)) ≡ heads_of (walk_log g d false base) ++ more
    pub each : (h : Header) → Memᴰ h more → Q h

  -- one header more
  module _ (base : List (List ℕ)) (ends : (walk_log g d false base).last ≡ at_pointer) (h : Header) (r : Reads g d false h) (room : suc (length base) ≤ g.capacity) where
    abbrev one : Entry
    one = record { head = h; rows = [] }

    one_more : (walk_log g d false (base ++ (encode g d h ∷ []))).last ≡ at_pointer
    one_more =
        let n : rows_of g h ≡ zero = general_no_rows g d h (reads_fits g d false h r) in
        let w = walk_of_append g d false base ends one r (sym n) (omega (arith, n, room)) in
        ap (λ (l : Walked). l.last) w ∙ last_in_front (walk_log g d false base).entries _

    head_more : heads_of (walk_log g d false (base ++ (encode g d h ∷ []))) ≡ heads_of (walk_log g d false base) ++ (h ∷ [])
    head_more =
        let n : rows_of g h ≡ zero = general_no_rows g d h (reads_fits g d false h r) in
        let w = walk_of_append g d false base ends one r (sym n) (omega (arith, n, room)) in
        ap heads_of w ∙ ap (map (λ (e : Entry). e.head)) (entries_in_front (walk_log g d false base).entries _) ∙ map_append (λ (e : Entry). e.head) (walk_log g d false base).entries (one ∷ [])

  pub general_grows : (ss base : List (List ℕ)) → (walk_log g d false base).last ≡ at_pointer → Headers ss → length base + length ss ≤ g.capacity → Grown base ss
  general_grows [] base e p l = record {
    ends = rw (append-nil base) e;
    more = [];
    heads_are = ap (λ (b : List (List ℕ)). heads_of (walk_log g d false b)) (append-nil base) ∙ sym (append-nil (heads_of (walk_log g d false base)));
    each = λ h m. mem_nil h m;
  }
  general_grows (s ∷ ss) base e p l =
      let (h, is, r, q) = p.0 in
      let room : suc (length base) ≤ g.capacity = omega (arith, l) in
      let longer : length (base ++ (encode g d h ∷ [])) ≡ length base + 1 = length-append base (encode g d h ∷ []) in
      let same : (base ++ (encode g d h ∷ [])) ++ ss ≡ base ++ (s ∷ ss) = append_assoc base (encode g d h ∷ []) ss ∙ ap (λ (t : List ℕ). base ++ (t ∷ ss)) (sym is) in
      let next = general_grows ss (base ++ (encode g d h ∷ [])) (one_more base e h r room) p.1 (omega (arith, l, longer)) in
      record {
        ends = ap (λ (b : List (List ℕ)). (walk_log g d false b).last) (sym same) ∙ next.ends;
        more = h ∷ next.more;
        heads_are = ap (λ (b : List (List ℕ)). heads_of (walk_log g d false b)) (sym same) ∙ next.heads_are ∙ ap (λ (hs : List Header). hs ++ next.more) (head_more base e h r room) ∙ append_assoc (heads_of (walk_log g d false base)) (h ∷ []) next.more;
        each = λ k m. with_first h q next.more next.each k m;
      }
    where
      with_first : (h : Header) → Q h → (hs : List Header) → ((k : Header) → Memᴰ k hs → Q k) → (k : Header) → Memᴰ k (h ∷ hs) → Q k
      with_first h q hs f k (Memᴰ.head e) = rw e q
      with_first h q hs f k (Memᴰ.tail m) = f k m

-- an entry of a general log has no rows: its walk is never left inside one
general_not_torn : (g : Geometry) (d : ℕ) (ss : List (List ℕ)) (h : Header) (rs : List (List ℕ)) → (walk_log g d false ss).last ≡ torn h rs → ⊥
general_not_torn g d ss h rs e = go (walk_log g d false ss).last e (walk_places g d false ss).left
  where
    go : (l : Ending) → l ≡ torn h rs → EndsAt g d false ss l (walk_log g d false ss).position → ⊥
    go at_pointer q p = pointer_not_torn h rs q
    go (no_entry f) q p = none_not_torn f h rs q
    go (torn k ks) q p =
        let n : rows_of g k ≡ zero = general_no_rows g d k (legal_fits g d false (get_or ss (walk_log g d false ss).position []) k p.1) in
        omega (arith, n, p.0, p.3)

-- so one that ends at no bad entry is whole
pub general_whole : (g : Geometry) (d : ℕ) (ss : List (List ℕ)) → ((f : Fault) → (walk_log g d false ss).last ≢ no_entry f) → (walk_log g d false ss).last ≡ at_pointer
general_whole g d ss n = go (walk_log g d false ss).last refl n
  where
    go : (l : Ending) → (walk_log g d false ss).last ≡ l → ((f : Fault) → l ≢ no_entry f) → l ≡ at_pointer
    go at_pointer q n = refl
    go (no_entry f) q n = absurd (n f refl)
    go (torn h rs) q n = absurd (general_not_torn g d ss h rs q)

-- ==== the parity log of drive d
module _ (g : Geometry) (d : ℕ) where
  -- sectors that are whole entries which read back, none of them a closing entry
  pub record Entries (ss : List (List ℕ)) : Type 0 where
    pub entries : List Entry
    pub sectors_are : ss ≡ sectors_of_all g d true entries
    pub lawful : WellFormedLog g d true entries
    pub whole : AllWhole g d true entries
    pub plain : (e : Entry) → Memᴰ e entries → Plain e.head

  pub no_entries : Entries []
  no_entries = record { entries = []; sectors_are = refl; lawful = tt; whole = λ e m. mem_nil e m; plain = λ e m. mem_nil e m }

  pub one_entry : (e : Entry) → Reads g d true e.head → Whole g d true e → Plain e.head → Entries (sectors_of g d true e)
  one_entry e r w n = record { entries = e ∷ []; sectors_are = sym (append-nil (sectors_of g d true e)); lawful = (r, inl w, tt); whole = λ f m. only f m; plain = λ f m. free f m }
    where
      only : (f : Entry) → Memᴰ f (e ∷ []) → Whole g d true f
      only f (Memᴰ.head q) = rw q w
      only f (mathlib.Core.List.Memᴰ.tail x4) = elim x4 [ ]

      free : (f : Entry) → Memᴰ f (e ∷ []) → Plain f.head
      free f (Memᴰ.head q) = rw q n
      free f (mathlib.Core.List.Memᴰ.tail x4) = elim x4 [ ]

  pub entries_join : (a b : List (List ℕ)) → Entries a → Entries b → Entries (a ++ b)
  entries_join a b p q = record {
    entries = p.entries ++ q.entries;
    sectors_are = ap₂ (λ (u w : List (List ℕ)). u ++ w) p.sectors_are q.sectors_are ∙ sym (sectors_of_append g d true p.entries q.entries);
    lawful = lawful_joins g d true p.entries q.entries p.whole p.lawful q.lawful;
    whole = both p.entries p.whole;
    plain = free p.entries p.plain;
  }
    where
      free : (es : List Entry) → ((e : Entry) → Memᴰ e es → Plain e.head) → (e : Entry) → Memᴰ e (es ++ q.entries) → Plain e.head
      free [] w e m = q.plain e m
      free (f ∷ es) w e (Memᴰ.head k) = w e (Memᴰ.head k)
      free (f ∷ es) w e (Memᴰ.tail m) = free es (λ k l. w k (Memᴰ.tail l)) e m

      both : (es : List Entry) → AllWhole g d true es → AllWhole g d true (es ++ q.entries)
      both [] w e m = q.whole e m
      both (f ∷ es) w e (Memᴰ.head k) = w e (Memᴰ.head k)
      both (f ∷ es) w e (Memᴰ.tail m) = both es (λ k l. w k (Memᴰ.tail l)) e m

  -- the walk of whole entries from sector x on
  entries_walked : (ss : List (List ℕ)) (x : ℕ) → Entries ss → x + length ss ≤ g.capacity → (walk g d true x between ss).last ≡ at_pointer
  entries_walked ss x p l =
      let long : log_extent g d true p.entries ≡ length ss = extent_whole g d true p.entries p.whole ∙ ap length (sym p.sectors_are) in
      ap (λ (b : List (List ℕ)). (walk g d true x between b).last) p.sectors_are ∙ (walk_lawful g d true p.entries x p.lawful (omega (arith, l, long))).1 ∙ whole_ends g d p.entries p.whole

  -- ---- a torn entry, with the rows that lack
  abbrev pub Counted : WalkState → Type 0
  Counted between = Unit {0}
  Counted (in_entry y h k acc) = length acc + suc k ≡ rows_of g h

  torn_completed : (h : Header) (rs ms ts ss : List (List ℕ)) (x : ℕ) (st : WalkState) → Counted st → (walk g d true x st ss).last ≡ torn h rs → length rs + length ms ≡ rows_of g h
      → (walk g d true (x + length ss + length ms) between ts).last ≡ at_pointer → (walk g d true x st (ss ++ (ms ++ ts))).last ≡ at_pointer
  torn_completed h rs ms ts [] x between c e l k = absurd (pointer_not_torn h rs e)
  torn_completed h rs ms ts [] x (in_entry y i n acc) c e l k =
      let p : i ≡ h = cc in
      let q : acc ≡ rs = cc in
      let m : length ms ≡ suc n = omega (arith, l, c, ap length q, ap (rows_of g) p) in
      let z : x + 0 + length ms ≡ x + length ms = omega arith in
      ap (λ (w : Walked). w.last) (walk_rows g d true y i ms ts acc x n m) ∙ ap (λ (j : ℕ). (walk g d true j between ts).last) (sym z) ∙ k
  torn_completed h rs ms ts (s ∷ ss) x between c e l k = go (decode_at g d true x s) refl (λ y st a b j. torn_completed h rs ms ts ss y st a b l j)
    where
      next : x + suc (length ss) + length ms ≡ suc x + length ss + length ms
      next = omega arith

      Goal : Type 0
      Goal = (walk g d true x between (s ∷ (ss ++ (ms ++ ts)))).last ≡ at_pointer

      Rest : Type 0
      Rest = (y : ℕ) (st : WalkState) → Counted st → (walk g d true y st ss).last ≡ torn h rs → (walk g d true (y + length ss + length ms) between ts).last ≡ at_pointer → (walk g d true y st (ss ++ (ms ++ ts))).last ≡ at_pointer

      rows : (i : Header) (n : ℕ) → decode_at g d true x s ≡ legal i → rows_of g i ≡ n → Rest → Goal
      rows i zero q r ih =
          let u = step_zero g d true x s i ss q r in
          let w = step_zero g d true x s i (ss ++ (ms ++ ts)) q r in
          ap (λ (b : Walked). b.last) w ∙ ih (suc x) between tt (sym (ap (λ (b : Walked). b.last) u) ∙ e) (rw next at k)
      rows i (suc n) q r ih =
          let u = step_suc g d true x s i n ss q r in
          let w = step_suc g d true x s i n (ss ++ (ms ++ ts)) q r in
          ap (λ (b : Walked). b.last) w ∙ ih (suc x) (in_entry x i n []) (omega (arith, r)) (sym (ap (λ (b : Walked). b.last) u) ∙ e) (rw next at k)

      go : (r : Decoded) → decode_at g d true x s ≡ r → Rest → Goal
      go (bad f) q ih = absurd (let w : walk g d true x between (s ∷ ss) ≡ record { entries = []; last = no_entry f; position = x } = rw (q, walk) refl in none_not_torn f h rs (sym (ap (λ (b : Walked). b.last) w) ∙ e))
      go (legal i) q ih = rows i (rows_of g i) q refl ih
  torn_completed h rs ms ts (s ∷ ss) x (in_entry y i zero acc) c e l k =
      let next : x + suc (length ss) + length ms ≡ suc x + length ss + length ms = omega arith in
      torn_completed h rs ms ts ss (suc x) between tt e l (rw next at k)
  torn_completed h rs ms ts (s ∷ ss) x (in_entry y i (suc n) acc) c e l k =
      let next : x + suc (length ss) + length ms ≡ suc x + length ss + length ms = omega arith in
      let more : length (acc ++ (s ∷ [])) + suc n ≡ rows_of g i = omega (arith, c, length-append acc (s ∷ [])) in
      torn_completed h rs ms ts ss (suc x) (in_entry y i n (acc ++ (s ∷ []))) more e l (rw next at k)

  -- the rows that an ending lacks
  abbrev pub Lacks : Ending → ℕ → Type 0
  Lacks at_pointer n = n ≡ zero
  Lacks (no_entry f) n = ⊥
  Lacks (torn h rs) n = length rs + n ≡ rows_of g h

  pub parity_grows : (ss ms ts : List (List ℕ)) → Lacks (walk_log g d true ss).last (length ms) → Entries ts → length ss + length (ms ++ ts) ≤ g.capacity → (walk_log g d true (ss ++ (ms ++ ts))).last ≡ at_pointer
  parity_grows ss ms ts k p l = go (walk_log g d true ss).last refl k
    where
      rest : (walk g d true (zero + length ss + length ms) between ts).last ≡ at_pointer
      rest = entries_walked ts (zero + length ss + length ms) p (omega (arith, l, length-append ms ts))

      empty : (us : List (List ℕ)) → length us ≡ zero → us ≡ []
      empty [] e = refl
      empty (u ∷ us) e = absurd (omega arith)

      go : (end : Ending) → (walk_log g d true ss).last ≡ end → Lacks end (length ms) → (walk_log g d true (ss ++ (ms ++ ts))).last ≡ at_pointer
      go at_pointer e q =
          let m : ms ++ ts ≡ ts = ap (λ (us : List (List ℕ)). us ++ ts) (empty ms q) in
          let z : zero + length ss + length ms ≡ zero + length ss = omega (arith, q) in
          ap (λ (b : List (List ℕ)). (walk_log g d true (ss ++ b)).last) m ∙ ap (λ (w : Walked). w.last) (walk_goes_on g d true ss ts zero between e) ∙ last_in_front (walk_log g d true ss).entries _
          ∙ ap (λ (j : ℕ). (walk g d true j between ts).last) (sym z) ∙ rest
      go (no_entry f) e q = absurd q
      go (torn h rs) e q = torn_completed h rs ms ts ss zero between tt e q rest
