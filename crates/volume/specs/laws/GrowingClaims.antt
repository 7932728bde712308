-- What logs claim as they grow: headers, rows that lack and entries that join a log change no claim, for none of them is a closing entry (`general_claim_grows`,
-- `parity_claim_grows`). And a log that is whole up to its pointer claims nothing in a walk for the other kind (`whole_claims_other`).
use Rattle.std.specs.Prelude.{◌≡◌, ◌≢◌, Bool, false, not, ℕ, zero, suc, ◌+◌, ◌≤◌, leb}
use Rattle.std.proofs.Math.Path.{refl}
use Rattle.std.proofs.Common.{sym, ap, ◌∙◌, arith}
use Rattle.std.proofs.Math.Bool.{true}
use mathlib.Core.List.{List, [], ◌∷◌, ◌++◌, map, Memᴰ}
use Rattle.std.proofs.Math.ListN.{length, length-append}
use Rattle.tables.specs.declared.Geometry.{Geometry}
use Rattle.tables.specs.meaning.Basics.{pick}
use Rattle.tables.specs.laws.Lists.{map_append}
use Rattle.logs.specs.meaning.Entry.{Header, label, counters, zone_reset, partial_parity, seal, closing, Entry, Decoded, legal, bad, rows_of, decode, read_fields}
use Rattle.logs.specs.meaning.Heads.{first_closing}
use Rattle.logs.specs.declared.Fault.TheVariants.{RowsPast}
use Rattle.logs.specs.meaning.Walk.{Walked, Ending, at_pointer, no_entry, torn, WalkState, between, in_entry, in_zone, decode_at, walk, walk_log}
use Rattle.logs.specs.laws.Walk.{whole_entries, log_extent, walk_lawful, walk_rows, step_zero, step_suc, extent_whole}
use Rattle.logs.specs.laws.WalkLaws.{entries_in_front, walk_goes_on}
use Rattle.logs.specs.laws.LogLaws.{whole_entries_mem}
use Rattle.logs.specs.code.Query.{heads_of}
use Rattle.volume.specs.meaning.Roles.{zone_claim}
use Rattle.volume.specs.laws.LogClaims.{fits_one_kind, read_fits}
use Rattle.volume.specs.laws.GrowingLogs.{Plain, pointer_not_torn, none_not_torn, Grown, Entries, Counted, Lacks}

-- ---- the first closing entry of a list of headers
first_cons : (h : Header) (a b : List Header) → first_closing a ≡ first_closing b → first_closing (h ∷ a) ≡ first_closing (h ∷ b)
first_cons (label x i) a b e = e
first_cons (counters cs) a b e = e
first_cons (zone_reset z n) a b e = e
first_cons (partial_parity z s f n) a b e = e
first_cons (seal z p n) a b e = e
first_cons (closing k n) a b e = refl

first_plain : (h : Header) (a : List Header) → Plain h → first_closing (h ∷ a) ≡ first_closing a
first_plain (label x i) a e = refl
first_plain (counters cs) a e = refl
first_plain (zone_reset z n) a e = refl
first_plain (partial_parity z s f n) a e = refl
first_plain (seal z p n) a e = refl
first_plain (closing k n) a e = absurd (e k n refl)

pub first_front : (a b : List Header) → first_closing b ≡ 0 → first_closing (a ++ b) ≡ first_closing a
first_front [] b e = e
first_front (h ∷ a) b e = first_cons h (a ++ b) a (first_front a b e)

pub first_none : (a : List Header) → ((h : Header) → Memᴰ h a → Plain h) → first_closing a ≡ 0
first_none [] p = refl
first_none (h ∷ a) p = first_plain h a (p h (Memᴰ.head refl)) ∙ first_none a (λ k m. p k (Memᴰ.tail m))

-- after headers that are none
pub first_closed : (a b : List Header) → ((h : Header) → Memᴰ h a → Plain h) → first_closing (a ++ b) ≡ first_closing b
first_closed [] b p = refl
first_closed (h ∷ a) b p = first_plain h (a ++ b) (p h (Memᴰ.head refl)) ∙ first_closed a b (λ k m. p k (Memᴰ.tail m))

pub entries_none : (es : List Entry) → ((e : Entry) → Memᴰ e es → Plain e.head) → first_closing (map (λ (e : Entry). e.head) es) ≡ 0
entries_none [] p = refl
entries_none (e ∷ es) p = first_plain e.head (map (λ (e : Entry). e.head) es) (p e (Memᴰ.head refl)) ∙ entries_none es (λ f m. p f (Memᴰ.tail m))

-- an entry with rows is none
rows_plain : (g : Geometry) (h : Header) → rows_of g h ≢ 0 → Plain h
rows_plain g h n k i e = n (ap (rows_of g) e)

-- ---- the general log of drive d
pub general_claim_grows : (g : Geometry) (d : ℕ) (Q : Header → Type 0) (base ss : List (List ℕ)) → Grown g d Q base ss → ((h : Header) → Q h → Plain h) → zone_claim g d false (base ++ ss) ≡ zone_claim g d false base
unfolding zone_claim
general_claim_grows g d Q base ss k plain = ap first_closing k.heads_are ∙ first_front (heads_of (walk_log g d false base)) k.more (first_none k.more (λ h m. plain h (k.each h m)))

-- ---- the parity log of drive d
module _ (g : Geometry) (d : ℕ) where
  abbrev first : Walked → ℕ
  first w = first_closing (heads_of w)

  entries_first : (ss : List (List ℕ)) (x : ℕ) → Entries g d ss → x + length ss ≤ g.capacity → first (walk g d true x between ss) ≡ 0
  entries_first ss x p l =
      let long : log_extent g d true p.entries ≡ length ss = extent_whole g d true p.entries p.whole ∙ ap length (sym p.sectors_are) in
      ap (λ (b : List (List ℕ)). first (walk g d true x between b)) p.sectors_are
      ∙ ap (λ (es : List Entry). first_closing (map (λ (e : Entry). e.head) es)) (walk_lawful g d true p.entries x p.lawful (omega (arith, l, long))).0
      ∙ entries_none (whole_entries g d true p.entries) (λ e m. p.plain e (whole_entries_mem g d p.entries e m).0)

  torn_kept : (h : Header) (rs ms ts ss : List (List ℕ)) (x : ℕ) (st : WalkState) → Counted g d st → (walk g d true x st ss).last ≡ torn h rs → length rs + length ms ≡ rows_of g h
      → first (walk g d true (x + length ss + length ms) between ts) ≡ 0 → first (walk g d true x st (ss ++ (ms ++ ts))) ≡ first (walk g d true x st ss)
  torn_kept h rs ms ts [] x between c e l k = absurd (pointer_not_torn h rs e)
  torn_kept h rs ms ts [] x (in_entry y i n acc) c e l k =
      let p : i ≡ h = cc in
      let q : acc ≡ rs = cc in
      let m : length ms ≡ suc n = omega (arith, l, c, ap length q, ap (rows_of g) p) in
      let z : x + 0 + length ms ≡ x + length ms = omega arith in
      ap first (walk_rows g d true y i ms ts acc x n m) ∙ first_plain i (heads_of (walk g d true (x + length ms) between ts)) (rows_plain g i (λ o. omega (arith, c, o)))
      ∙ ap (λ (j : ℕ). first (walk g d true j between ts)) (sym z) ∙ k
  torn_kept h rs ms ts (s ∷ ss) x between c e l k = go (decode_at g d true x s) refl (λ y st a b j. torn_kept h rs ms ts ss y st a b l j)
    where
      next : x + suc (length ss) + length ms ≡ suc x + length ss + length ms
      next = omega arith

      Goal : Type 0
      Goal = first (walk g d true x between (s ∷ (ss ++ (ms ++ ts)))) ≡ first (walk g d true x between (s ∷ ss))

      Rest : Type 0
      Rest = (y : ℕ) (st : WalkState) → Counted g d st → (walk g d true y st ss).last ≡ torn h rs → first (walk g d true (y + length ss + length ms) between ts) ≡ 0 → first (walk g d true y st (ss ++ (ms ++ ts))) ≡ first (walk g d true y st ss)

      rows : (i : Header) (n : ℕ) → decode_at g d true x s ≡ legal i → rows_of g i ≡ n → Rest → Goal
      rows i zero q r ih =
          let u = step_zero g d true x s i ss q r in
          let w = step_zero g d true x s i (ss ++ (ms ++ ts)) q r in
          ap first w ∙ first_cons i (heads_of (walk g d true (suc x) between (ss ++ (ms ++ ts)))) (heads_of (walk g d true (suc x) between ss)) (ih (suc x) between tt (sym (ap (λ (b : Walked). b.last) u) ∙ e) (rw next at k)) ∙ sym (ap first u)
      rows i (suc n) q r ih =
          let u = step_suc g d true x s i n ss q r in
          let w = step_suc g d true x s i n (ss ++ (ms ++ ts)) q r in
          ap first w ∙ ih (suc x) (in_entry x i n []) (omega (arith, r)) (sym (ap (λ (b : Walked). b.last) u) ∙ e) (rw next at k) ∙ sym (ap first u)

      go : (r : Decoded) → decode_at g d true x s ≡ r → Rest → Goal
      go (bad f) q ih = absurd (let w : walk g d true x between (s ∷ ss) ≡ record { entries = []; last = no_entry f; position = x } = rw (q, walk) refl in none_not_torn f h rs (sym (ap (λ (b : Walked). b.last) w) ∙ e))
      go (legal i) q ih = rows i (rows_of g i) q refl ih
  torn_kept h rs ms ts (s ∷ ss) x (in_entry y i zero acc) c e l k =
      let next : x + suc (length ss) + length ms ≡ suc x + length ss + length ms = omega arith in
      first_cons i (heads_of (walk g d true (suc x) between (ss ++ (ms ++ ts)))) (heads_of (walk g d true (suc x) between ss)) (torn_kept h rs ms ts ss (suc x) between tt e l (rw next at k))
  torn_kept h rs ms ts (s ∷ ss) x (in_entry y i (suc n) acc) c e l k =
      let next : x + suc (length ss) + length ms ≡ suc x + length ss + length ms = omega arith in
      let more : length (acc ++ (s ∷ [])) + suc n ≡ rows_of g i = omega (arith, c, length-append acc (s ∷ [])) in
      torn_kept h rs ms ts ss (suc x) (in_entry y i n (acc ++ (s ∷ []))) more e l (rw next at k)

  pub parity_claim_grows : (ss ms ts : List (List ℕ)) → Lacks g d (walk_log g d true ss).last (length ms) → Entries g d ts → length ss + length (ms ++ ts) ≤ g.capacity → zone_claim g d true (ss ++ (ms ++ ts)) ≡ zone_claim g d true ss
  unfolding zone_claim
  parity_claim_grows ss ms ts k p l = go (walk_log g d true ss).last refl k
    where
      rest : first (walk g d true (zero + length ss + length ms) between ts) ≡ 0
      rest = entries_first ts (zero + length ss + length ms) p (omega (arith, l, length-append ms ts))

      empty : (us : List (List ℕ)) → length us ≡ zero → us ≡ []
      empty [] e = refl
      empty (u ∷ us) e = absurd (omega arith)

      go : (end : Ending) → (walk_log g d true ss).last ≡ end → Lacks g d end (length ms) → first (walk_log g d true (ss ++ (ms ++ ts))) ≡ first (walk_log g d true ss)
      go at_pointer e q =
          let m : ms ++ ts ≡ ts = ap (λ (us : List (List ℕ)). us ++ ts) (empty ms q) in
          let z : zero + length ss + length ms ≡ zero + length ss = omega (arith, q) in
          let w = walk_goes_on g d true ss ts zero between e in
          ap (λ (us : List (List ℕ)). first (walk_log g d true (ss ++ us))) m ∙ ap first w ∙ ap (λ (es : List Entry). first_closing (map (λ (e : Entry). e.head) es)) (entries_in_front (walk_log g d true ss).entries (walk g d true (zero + length ss) between ts))
          ∙ ap first_closing (map_append (λ (e : Entry). e.head) (walk_log g d true ss).entries (walk g d true (zero + length ss) between ts).entries)
          ∙ first_front (heads_of (walk_log g d true ss)) (heads_of (walk g d true (zero + length ss) between ts)) (rw z at rest)
      go (no_entry f) e q = absurd q
      go (torn h rs) e q = torn_kept h rs ms ts ss zero between tt e q rest

-- ---- a whole log of one kind, in a walk for the other
in_zone_legal : (g : Geometry) (x : ℕ) (r : Decoded) (h : Header) → in_zone g x r ≡ legal h → r ≡ legal h
in_zone_legal g x (bad f) h e = absurd (let o : ◌≡◌ {A = ℕ} 0 1 = cc in omega arith)
in_zone_legal g x (legal k) h e = go (leb (x + suc (rows_of g k)) g.capacity) e
  where
    go : (b : Bool) → pick b (legal k) (bad RowsPast) ≡ legal h → legal k ≡ legal h
    go true q = q
    go false q = absurd (let o : ◌≡◌ {A = ℕ} 0 1 = cc in omega arith)

pub whole_claims_other : (g : Geometry) (d : ℕ) (par : Bool) (ss : List (List ℕ)) → (walk_log g d par ss).last ≡ at_pointer → zone_claim g d (not par) ss ≡ 0
unfolding zone_claim
whole_claims_other g d par [] e = refl
whole_claims_other g d par (s ∷ ss) e = go (decode_at g d par zero s) refl (decode_at g d (not par) zero s) refl
  where
    both : (p : Bool) (h i : Header) → decode g d p s ≡ legal h → decode g d (not p) s ≡ legal i → ⊥
    both true h i a b = fits_one_kind g d (read_fields g s) (read_fits g d false s i b) (read_fits g d true s h a)
    both false h i a b = fits_one_kind g d (read_fields g s) (read_fits g d false s h a) (read_fits g d true s i b)

    go : (r : Decoded) → decode_at g d par zero s ≡ r → (q : Decoded) → decode_at g d (not par) zero s ≡ q → first_closing (heads_of (walk_log g d (not par) (s ∷ ss))) ≡ 0
    go r a (bad f) b = let w : walk g d (not par) zero between (s ∷ ss) ≡ record { entries = []; last = no_entry f; position = zero } = rw (b, walk) refl in ap (λ (k : Walked). first_closing (heads_of k)) w
    go (bad f) a (legal i) b =
        let w : walk g d par zero between (s ∷ ss) ≡ record { entries = []; last = no_entry f; position = zero } = rw (a, walk) refl in
        absurd (let z : at_pointer ≡ no_entry f = sym e ∙ ap (λ (k : Walked). k.last) w in let o : ◌≡◌ {A = ℕ} 0 1 = cc in omega arith)
    go (legal h) a (legal i) b = absurd (both par h i (in_zone_legal g zero (decode g d par s) h a) (in_zone_legal g zero (decode g d (not par) s) i b))
