-- "The least number that applies is given, and only under its condition", of each call's contract, on any input. Least is by the order in which conditions
-- are asked (refusal_order): a refused call gives a number whose condition holds, no condition asked before it holds, and where a call is not refused none does.
use Rattle.std.proofs.Math.Path.{◌≡◌}
use Rattle.std.specs.Prelude.{refl, ◌≢◌, Bool, true, false, ◌&&◌, ◌||◌, not, ℕ, List, [], ◌∷◌, length, eqb, ltb}
use Rattle.std.proofs.Common.{sym, ap, ◌∙◌, true≢false, arith}
use borrow.Author.Tests.{eq-eqb, ne_eqb, eqb-true, eqb-false}
use Rattle.tables.specs.laws.Basics.{and_split, or_left, or_right, or_none, not_true, not_both}
use Rattle.tables.specs.meaning.Basics.{pick}
use Rattle.tables.specs.meaning.Device.{Store}
use Rattle.tables.specs.meaning.Tables.{Tables, device_of}
use Rattle.tables.specs.declared.Geometry.{Geometry}
use Rattle.tables.specs.meaning.Geometry.{max_zones}
use Rattle.volume.specs.declared.State.{State}
use Rattle.volume.specs.declared.Outcome.{Outcome}
use Rattle.volume.specs.declared.Answer.{Answer}
use Rattle.volume.specs.declared.BadPlace.{BadPlace}
use Rattle.volume.specs.declared.Answer.TheVariants.{Finished, Unfinished, Refused}
use Rattle.volume.specs.meaning.Refusals.{Verdict, refuse, accept, first_refusal, WriteAsked, zone_asked, format_rows, look_rows, mount_rows, write_rows, flush_rows, reset_rows, compact_rows, read_rows, peek_rows}
use Rattle.volume.specs.meaning.State.{call_present, with_shares}
use Rattle.volume.specs.meaning.Calls.{flush_stores, format_stores, flush_state, format_state, reset_state}
use Rattle.volume.specs.meaning.Hosts.{fresh_shares, written_state, compact_state}
use Rattle.volume.specs.meaning.Emptying.{write_all, reset_all, compact_stores}
use Rattle.volume.specs.meaning.Answers.{lost_in, sectors_in, left_out, named_drives, present_in, lost_drive_in, refused_at, told_at}
use Rattle.volume.specs.meaning.CallContracts.{view_state, is_set, lengths_of, bad_in, roles_of, seen_in, verdict_number, storing_on, flush_verdict, flush_on, reset_verdict, reset_on, write_verdict, compact_verdict, compact_on, state_held}
use Rattle.volume.specs.meaning.CallContracts.{write_on, format_verdict, format_on, look_verdict, look_on, mount_verdict, mount_stores_on, mount_shown_on, bad_place_on, mount_on, read_number, read_on, peek_number}
use Rattle.volume.specs.laws.BadPlaces.{refused_same, not_finished, not_unfinished}
use Rattle.volume.specs.laws.Refusals.{condition_of_row, accepted_row, Numbered, numbered, nonzero, refusal_order, in_order}

-- ==== orders
abbrev pub is_in : ℕ → List ℕ → Bool
is_in n [] = false
is_in n (k ∷ order) = eqb k n || is_in n order

abbrev pub distinct : List ℕ → Bool
distinct [] = true
distinct (k ∷ order) = not (is_in k order) && distinct order

-- m is asked before n
abbrev pub asks_first : List ℕ → ℕ → ℕ → Bool
asks_first [] m n = false
asks_first (k ∷ order) m n = pick (eqb k n) false (pick (eqb k m) true (asks_first order m n))

-- ==== rows in an order
-- a number given stands in it
given_in : (order : List ℕ) (rows : List (ℕ × Bool)) (n : ℕ) → in_order order rows ≡ true → first_refusal rows ≡ refuse n → is_in n order ≡ true
given_in [] [] n o e = absurd (let z : ◌≡◌ {A = ℕ} 0 1 = cc in omega arith)
given_in (k ∷ order) [] n o e = absurd (let z : ◌≡◌ {A = ℕ} 0 1 = cc in omega arith)
given_in [] (r ∷ rows) n o e = absurd (true≢false (sym o))
given_in (k ∷ order) ((m, b) ∷ rows) n o e = go (eqb k m) refl b refl o e (λ p q. given_in order rows n p q) (λ p. given_in order ((m, b) ∷ rows) n p e)
  where
    go : (c : Bool) → eqb k m ≡ c → (d : Bool) → b ≡ d → pick c (in_order order rows) (in_order order ((m, b) ∷ rows)) ≡ true → pick d (refuse m) (first_refusal rows) ≡ refuse n
        → (in_order order rows ≡ true → first_refusal rows ≡ refuse n → is_in n order ≡ true) → (in_order order ((m, b) ∷ rows) ≡ true → is_in n order ≡ true) → (eqb k n || is_in n order) ≡ true
    go true p true q o' e' ih jh = let h : m ≡ n = cc in let i = eqb-true k m p in or_left (eqb k n) (is_in n order) (eq-eqb k n (i ∙ h))
    go true p false q o' e' ih jh = or_right (eqb k n) (is_in n order) (ih o' e')
    go false p d q o' e' ih jh = or_right (eqb k n) (is_in n order) (jh o')

-- a number that does not stand in it has no row
no_row : (order : List ℕ) (rows : List (ℕ × Bool)) (n : ℕ) → in_order order rows ≡ true → is_in n order ≡ false → condition_of_row n rows ≡ false
no_row [] [] n o i = refl
no_row (k ∷ order) [] n o i = refl
no_row [] (r ∷ rows) n o i = absurd (true≢false (sym o))
no_row (k ∷ order) ((m, b) ∷ rows) n o i =
    let (p, q) = or_none (eqb k n) (is_in n order) i in
    go (eqb k m) refl o p (λ o'. no_row order rows n o' q) (λ o'. no_row order ((m, b) ∷ rows) n o' q)
  where
    go : (c : Bool) → eqb k m ≡ c → pick c (in_order order rows) (in_order order ((m, b) ∷ rows)) ≡ true → eqb k n ≡ false → (in_order order rows ≡ true → condition_of_row n rows ≡ false)
        → (in_order order ((m, b) ∷ rows) ≡ true → condition_of_row n ((m, b) ∷ rows) ≡ false) → condition_of_row n ((m, b) ∷ rows) ≡ false
    go true e o' p ih jh = let h = ne_eqb n m (λ w. eqb-false k n p (eqb-true k m e ∙ sym w)) in rw h (ih o')
    go false e o' p ih jh = jh o'

-- past a number that is not m, m is still asked before n
asks_on : (order : List ℕ) (k m n : ℕ) → k ≢ m → asks_first (k ∷ order) m n ≡ true → asks_first order m n ≡ true
asks_on order k m n h e = go (eqb k n) e
  where
    go : (c : Bool) → pick c false (pick (eqb k m) true (asks_first order m n)) ≡ true → asks_first order m n ≡ true
    go true f = absurd (true≢false (sym f))
    go false f = rw (ne_eqb k m h) at f

-- ==== the least number
-- n's condition holds, and none that is asked before it
pub record Least (order : List ℕ) (rows : List (ℕ × Bool)) (n : ℕ) : Type 0 where
  pub applies : condition_of_row n rows ≡ true
  pub none_before : (m : ℕ) → asks_first order m n ≡ true → condition_of_row m rows ≡ false

pub first_least : (order : List ℕ) (rows : List (ℕ × Bool)) (n : ℕ) → distinct order ≡ true → in_order order rows ≡ true → first_refusal rows ≡ refuse n → Least order rows n
first_least [] [] n u o e = absurd (let z : ◌≡◌ {A = ℕ} 0 1 = cc in omega arith)
first_least (k ∷ order) [] n u o e = absurd (let z : ◌≡◌ {A = ℕ} 0 1 = cc in omega arith)
first_least [] (r ∷ rows) n u o e = absurd (true≢false (sym o))
first_least (k ∷ order) ((j, b) ∷ rows) n u o e =
    let (once, rest) = and_split (not (is_in k order)) (distinct order) u in
    go (not_true (is_in k order) once) (eqb k j) refl b refl o e (λ p q. first_least order rows n rest p q) (λ p. first_least order ((j, b) ∷ rows) n rest p e)
  where
    go : is_in k order ≡ false → (c : Bool) → eqb k j ≡ c → (d : Bool) → b ≡ d → pick c (in_order order rows) (in_order order ((j, b) ∷ rows)) ≡ true → pick d (refuse j) (first_refusal rows) ≡ refuse n
        → (in_order order rows ≡ true → first_refusal rows ≡ refuse n → Least order rows n) → (in_order order ((j, b) ∷ rows) ≡ true → Least order ((j, b) ∷ rows) n) → Least (k ∷ order) ((j, b) ∷ rows) n
    -- the first row is the one given
    go once true p true q o' e' ih jh =
        let h : j ≡ n = cc in
        let here = eq-eqb k n (eqb-true k j p ∙ h) in
        record { applies = rw (eq-eqb n j (sym h), q) refl; none_before = λ m f. absurd (true≢false (sym f ∙ rw here refl)) }
    -- it does not apply
    go once true p false q o' e' ih jh =
        let l = ih o' e' in
        let later = given_in order rows n o' e' in
        let apart = ne_eqb n j (λ w. not_both (is_in n order) later (rw (w ∙ sym (eqb-true k j p)) once)) in
        record { applies = rw apart l.applies; none_before = λ m f. skipped m (eqb m j) refl (λ w. l.none_before m (asks_on order k m n (λ x. w (sym x ∙ eqb-true k j p)) f)) }
      where
        skipped : (m : ℕ) (c : Bool) → eqb m j ≡ c → (m ≢ j → condition_of_row m rows ≡ false) → pick (eqb m j) b (condition_of_row m rows) ≡ false
        skipped m true w l = rw (w, q) refl
        skipped m false w l = rw w (l (eqb-false m j w))
    -- it is asked later
    go once false p d q o' e' ih jh =
        let l = jh o' in
        record { applies = l.applies; none_before = λ m f. later m (eqb k m) refl (λ w. l.none_before m (asks_on order k m n w f)) }
      where
        later : (m : ℕ) (c : Bool) → eqb k m ≡ c → (k ≢ m → condition_of_row m ((j, b) ∷ rows) ≡ false) → condition_of_row m ((j, b) ∷ rows) ≡ false
        later m true w l = no_row order ((j, b) ∷ rows) m o' (rw (eqb-true k m w) at once)
        later m false w l = l (eqb-false k m w)

-- ==== an answer by its rows
-- the answer is refused by the least number, or no condition holds
-- (by: how a refusal by a row is answered)
pub record AnsweredBy (by : ℕ → Answer) (rows : List (ℕ × Bool)) (a : Answer) : Type 0 where
  pub refused : (n : ℕ) → a ≡ by n → Least refusal_order rows n
  pub passed : ((n : ℕ) → a ≢ by n) → (n : ℕ) → condition_of_row n rows ≡ false

abbrev pub ByRows : List (ℕ × Bool) → Answer → Type 0
ByRows rows a = AnsweredBy Refused rows a

-- in the order of document 01, with numbers of their own
abbrev Asked : List (ℕ × Bool) → Type 0
Asked rows = (in_order refusal_order rows ≡ true) × (nonzero rows ≡ true)

same_number : (j n : ℕ) → Refused j ≡ Refused n → j ≡ n
same_number j n e = cc

-- an answer that is the verdict's number where there is one, and else no refusal
by_verdict : (by : ℕ → Answer) → ((j n : ℕ) → by j ≡ by n → j ≡ n) → (rows : List (ℕ × Bool)) → Asked rows → (a : Answer) → ((n : ℕ) → verdict_number (first_refusal rows) ≡ n → n ≢ 0 → a ≡ by n)
    → (verdict_number (first_refusal rows) ≡ 0 → (n : ℕ) → a ≢ by n) → AnsweredBy by rows a
by_verdict by one rows (o, u) a r k = go (first_refusal rows) refl (numbered rows u) r k
  where
    go : (v : Verdict) → first_refusal rows ≡ v → Numbered v → ((n : ℕ) → verdict_number v ≡ n → n ≢ 0 → a ≡ by n) → (verdict_number v ≡ 0 → (n : ℕ) → a ≢ by n) → AnsweredBy by rows a
    go accept e m r' k' = record { refused = λ n q. absurd (k' refl n q); passed = λ no n. accepted_row rows e n }
    go (refuse j) e m r' k' =
        let given = r' j refl m in
        record { refused = λ n q. first_least refusal_order rows n refl o (e ∙ ap refuse (one j n (sym given ∙ q))); passed = λ no n. absurd (no j given) }

storing_by_rows : (rows : List (ℕ × Bool)) → Asked rows → (g : Geometry) (ss : List Store) (new old : State) (count : ℕ) (t : Tables)
    → ByRows rows (storing_on g (verdict_number (first_refusal rows)) ss new old count t).outcome.answer
storing_by_rows rows u g ss new old count t =
    by_verdict Refused same_number rows u (storing_on g (verdict_number (first_refusal rows)) ss new old count t).outcome.answer (λ n e h. rw (e, ne_eqb n 0 h) refl) (λ e n q. go (ltb count (length ss)) n (rw e at q))
  where
    go : (c : Bool) (n : ℕ) → (pick {A = Outcome} c (record { answer = Unfinished; state = old }) (record { answer = Finished; state = new })).answer ≡ Refused n → ⊥
    go true n q = absurd (let z : ◌≡◌ {A = ℕ} 0 1 = cc in omega arith)
    go false n q = absurd (let z : ◌≡◌ {A = ℕ} 0 1 = cc in omega arith)

-- ==== the calls
module _ (g : Geometry) (named : List Bool) (s : State) (t : Tables) where
  pub format_by_rows : (array count : ℕ) → ByRows (format_rows g (lengths_of t) (bad_in g named t) (is_set named) (device_of g t)) (format_on g named array s count t).outcome.answer
  unfolding format_on format_verdict format_rows
  format_by_rows array count =
      storing_by_rows _ (refl, refl) g (format_stores g (named_drives g (is_set named)) (left_out g (is_set named)) array)
      (state_held g.zones (with_shares (fresh_shares g (named_drives g (is_set named))) (format_state (left_out g (is_set named))))) s count t

  pub flush_by_rows : (count : ℕ) → ByRows (flush_rows g (lengths_of t) (bad_in g named t) (is_set named) (view_state s) (device_of g t)) (flush_on g named s count t).outcome.answer
  unfolding flush_on flush_verdict flush_rows
  flush_by_rows count =
      storing_by_rows _ (refl, refl) g (flush_stores g (call_present g (is_set named) (view_state s)))
      (state_held max_zones (flush_state (lost_in g (is_set named) (view_state s)) (view_state s))) s count t

  pub reset_by_rows : (z count : ℕ) → ByRows (reset_rows g (lengths_of t) (bad_in g named t) (is_set named) (view_state s) z (roles_of g t) (seen_in g t)) (reset_on g named s z count t).outcome.answer
  unfolding reset_on reset_verdict reset_rows
  reset_by_rows z count =
      storing_by_rows _ (refl, refl) g (reset_all g (call_present g (is_set named) (view_state s)) (roles_of g t) (seen_in g t) (view_state s) z)
      (state_held max_zones (reset_state (lost_in g (is_set named) (view_state s)) (view_state s) z)) s count t

  pub write_by_rows : (a : WriteAsked) (count : ℕ) → ByRows (write_rows g (lengths_of t) (bad_in g named t) (is_set named) (view_state s) a (roles_of g t) (seen_in g t)) (write_on g named s a count t).outcome.answer
  unfolding write_on write_verdict write_rows
  write_by_rows a count =
      storing_by_rows _ (refl, refl) g (write_all g (call_present g (is_set named) (view_state s)) (roles_of g t) (seen_in g t) (view_state s) (zone_asked g a) (sectors_in g a.count a.buffer))
      (state_held max_zones (written_state g (call_present g (is_set named) (view_state s)) (lost_in g (is_set named) (view_state s)) a.host (view_state s) (zone_asked g a) a.count)) s count t

  pub compact_by_rows : (d count : ℕ) → ByRows (compact_rows g (lengths_of t) (bad_in g named t) (is_set named) (view_state s) d (roles_of g t) (seen_in g t)) (compact_on g named s d count t).outcome.answer
  unfolding compact_on compact_verdict compact_rows
  compact_by_rows d count =
      storing_by_rows _ (refl, refl) g (compact_stores g (call_present g (is_set named) (view_state s)) (roles_of g t) (seen_in g t) (view_state s) d)
      (state_held max_zones (compact_state g (call_present g (is_set named) (view_state s)) (lost_in g (is_set named) (view_state s)) (seen_in g t) (view_state s) d)) s count t

  -- (row 6 is answered by the first bad place)
  pub mount_by_rows : (count : ℕ) → AnsweredBy (refused_at (bad_place_on g named t)) (mount_rows g (lengths_of t) (bad_in g named t) (is_set named) (roles_of g t) (seen_in g t)) (mount_on g named s count t).outcome.answer
  unfolding mount_on mount_verdict mount_rows
  mount_by_rows count =
      by_verdict (refused_at b) (refused_same b) _ (refl, refl) (mount_on g named s count t).outcome.answer (λ n e h. rw (e, ne_eqb n 0 h) refl) (λ e n q. go (ltb count (length ss)) n (rw e at q))
    where
      b : BadPlace
      b = bad_place_on g named t

      ss : List Store
      ss = mount_stores_on g (present_in g (is_set named) (device_of g t)) (lost_drive_in g (is_set named) (device_of g t)) t

      new : State
      new = mount_shown_on g (present_in g (is_set named) (device_of g t)) (lost_drive_in g (is_set named) (device_of g t)) t

      go : (c : Bool) (n : ℕ) → told_at b (pick {A = Outcome} c (record { answer = Unfinished; state = s }) (record { answer = Finished; state = new })).answer ≡ refused_at b n → ⊥
      go true n q = not_unfinished b n q
      go false n q = not_finished b n q

  pub look_by_rows : AnsweredBy (refused_at (bad_place_on g named t)) (look_rows g (lengths_of t) (bad_in g named t) (is_set named) (roles_of g t) (seen_in g t)) (look_on g named s t).answer
  unfolding look_on look_verdict look_rows
  look_by_rows = by_verdict (refused_at (bad_place_on g named t)) (refused_same (bad_place_on g named t)) _ (refl, refl) (look_on g named s t).answer (λ n e h. rw (e, ne_eqb n 0 h) refl) (λ e n q. not_finished (bad_place_on g named t) n (rw e at q))

  pub read_by_rows : (a k : ℕ) (out : List ℕ) → ByRows (read_rows g (lengths_of t) (bad_in g named t) (is_set named) (view_state s) a k (length out) (seen_in g t)) (read_on g named s a k out t).answer
  unfolding read_on read_number read_rows
  read_by_rows a k out =
      by_verdict Refused same_number _ (refl, refl) (read_on g named s a k out t).answer (λ n e h. rw (e, ne_eqb n 0 h) refl) (λ e n q. let q' : Finished ≡ Refused n = rw e at q in let z : ◌≡◌ {A = ℕ} 0 1 = cc in omega arith)

  -- (a peek's number: 0 where it is not refused)
  pub peek_by_rows : (a : ℕ) → ByRows (peek_rows g (lengths_of t) (bad_in g named t) (is_set named) (view_state s) a (seen_in g t)) (pick (eqb (peek_number g named s a t) 0) Finished (Refused (peek_number g named s a t)))
  unfolding peek_number peek_rows
  peek_by_rows a =
      by_verdict Refused same_number _ (refl, refl) (pick (eqb (peek_number g named s a t) 0) Finished (Refused (peek_number g named s a t))) (λ n e h. rw (e, ne_eqb n 0 h) refl)
      (λ e n q. let q' : Finished ≡ Refused n = rw e at q in let z : ◌≡◌ {A = ℕ} 0 1 = cc in omega arith)
