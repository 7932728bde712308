-- Laws of the C edge, one for each step of a call: what its input's test gives, what it is made on, what is refused before it, what it hands back.
use Rattle.std.specs.Prelude.{◌≡◌, ◌≢◌, Bool, true, false, ◌&&◌, ℕ, ◌+◌, ◌*◌, ◌%◌, ◌≤◌, List, length, take, drop, replicate, eqb}
use Rattle.std.proofs.Math.Path.{refl}
use Rattle.std.proofs.Common.{ap, ap₂, ◌∙◌, arith, length-take-le, eq-eqb, ne_eqb, eqb-true}
use Rattle.tables.specs.declared.Geometry.{Geometry}
use Rattle.tables.specs.meaning.Basics.{pick}
use Rattle.tables.specs.laws.Basics.{and_split}
use Rattle.tables.specs.meaning.Geometry.{Valid, cells}
use Rattle.tables.specs.meaning.GeometryTest.{is_valid}
use Rattle.tables.specs.laws.GeometryTest.{valid_if_test, first_if_test}
use Rattle.tables.specs.meaning.Tables.{Tables, tables_of}
use Rattle.volume.specs.declared.Answer.{Answer}
use Rattle.volume.specs.declared.Outcome.{Outcome}
use Rattle.volume.specs.declared.State.{State}
use Rattle.volume.specs.meaning.CallContracts.{answer_number, Result, peek_number, peek_on}
use Rattle.volume.specs.laws.AnswerNumbers.{look_answer_small, mount_answer_small}
use Rattle.volume.specs.reading.Peeking.{peek_done}
use Rattle.tables.specs.meaning.LittleEndian.{bytes_le}
use Rattle.zrv.specs.meaning.Bytes.{state_bytes, table_to, state_to}
use Rattle.zrv.specs.meaning.EdgeCalls.{named_of, sizes_fit, state_bad, input_number, sizes_number, state_after, Ranges, ranges, tables_in, unread_state, Answered, answered, unless_refused, writing_state, handed_back, stored_all, stored_flushes, with_number, place_number, with_place, without_place, look_of_bytes, look_edge, mount_of_bytes, mount_edge, offset_at, place_answer, place_sized}

-- ---- the input
-- what passing its test gives
pub record Sized (g : Geometry) (n w d : ℕ) : Type 0 where
  pub valid : Valid g
  pub logs_first : g.logs ≡ 0
  pub state_long : n ≡ state_bytes
  pub written_long : w ≡ cells g * 4
  pub durable_long : d ≡ cells g * 4

sized : (g : Geometry) (n w d : ℕ) → is_valid g ≡ true → sizes_fit g n w d ≡ true → Sized g n w d
unfolding sizes_fit
sized g n w d v h =
    let (a, q) = and_split (eqb n state_bytes) (eqb w (cells g * 4) && eqb d (cells g * 4)) h in
    let (b, e) = and_split (eqb w (cells g * 4)) (eqb d (cells g * 4)) q in
    record { valid = valid_if_test g v; logs_first = first_if_test g v; state_long = eqb-true n state_bytes a; written_long = eqb-true w (cells g * 4) b; durable_long = eqb-true d (cells g * 4) e }

pub input_passed : (g : Geometry) (st : List ℕ) (w d : ℕ) → input_number g st w d ≡ 0 → Sized g (length st) w d
unfolding input_number
input_passed g st w d h = let (a, b) = by (is_valid g) (state_bad g st) (sizes_fit g (length st) w d) h in sized g (length st) w d a b
  where
    by : (a b e : Bool) → ◌≡◌ {A = ℕ} (pick a (pick b 1 (pick e 0 2)) 1) 0 → (a ≡ true) × (e ≡ true)
    by true true e k = absurd (omega arith)
    by true false true k = (refl, refl)
    by true false false k = absurd (omega arith)
    by false b e k = absurd (omega arith)

pub sizes_passed : (g : Geometry) (n w d : ℕ) → sizes_number g n w d ≡ 0 → Sized g n w d
unfolding sizes_number
sizes_passed g n w d h = let (a, b) = by (is_valid g) (sizes_fit g n w d) h in sized g n w d a b
  where
    by : (a e : Bool) → ◌≡◌ {A = ℕ} (pick a (pick e 0 2) 1) 0 → (a ≡ true) × (e ≡ true)
    by true true k = (refl, refl)
    by true false k = absurd (omega arith)
    by false e k = absurd (omega arith)

-- ---- the tables
-- what reading them needs: the bytes' lengths, and scratch for the two tables
pub record Scratch (g : Geometry) (wb db w d : List ℕ) : Type 0 where
  pub written_long : length wb ≡ cells g * 4
  pub durable_long : length db ≡ cells g * 4
  pub scratch_written : length w ≡ cells g
  pub scratch_durable : length d ≡ cells g

-- a part of an array of 152 numbers
pub part_long : (n : ℕ) → n ≤ 152 → length {A = ℕ} (take n (replicate 152 0)) ≡ n
part_long n h = length-take-le n (replicate 152 0) h

-- the scratch is parts of two such arrays
pub scratch_fits : {g : Geometry} {n k : ℕ} (wb db : List ℕ) → Sized g n (length wb) (length db) → (k ≡ cells g) × (k ≤ 152) → Scratch g wb db (take k (replicate 152 0)) (take k (replicate 152 0))
scratch_fits {g} {n} {k} wb db s h =
    let e = part_long k h.1 ∙ h.0 in
    record { written_long = s.written_long; durable_long = s.durable_long; scratch_written = e; scratch_durable = e }

-- ---- what is handed back
module _ (g : Geometry) (o : Outcome) (st : List ℕ) where
  pub state_kept : answer_number o.answer ≢ 0 → st ≡ state_after g o st
  unfolding state_after
  state_kept h = rw (ne_eqb (answer_number o.answer) 0 h) refl

  pub state_new : answer_number o.answer ≡ 0 → state_to g o.state ≡ state_after g o st
  unfolding state_after
  state_new h = rw (eq-eqb (answer_number o.answer) 0 h) refl

-- ---- the call
module _ {A : Type 0} (n : ℕ) (r : Answered A) (a : A) where
  -- refused before it
  pub refused : n ≢ 0 → answered n a ≡ unless_refused n r a
  unfolding unless_refused
  refused h = rw (ne_eqb n 0 h) refl

  pub made : n ≡ 0 → r ≡ unless_refused n r a
  unfolding unless_refused
  made h = rw (eq-eqb n 0 h) refl

-- the code's outcome and tables are the definition's: r; handed back: h; m: the ranges before
module _ (g : Geometry) (m : Ranges) (r : Result) {o : Outcome} {ys ws ds : List ℕ} {n : ℕ} {st : List ℕ} (f : (o ≡ r.outcome) × (tables_of ys ws ds ≡ r.tables)) (h : (n ≡ answer_number o.answer) × (st ≡ state_after g o m.state)) where
  code_is : n ≡ answer_number r.outcome.answer
  code_is = h.0 ∙ ap (λ (u : Outcome). answer_number u.answer) f.0

  state_is : st ≡ state_after g r.outcome m.state
  state_is = h.1 ∙ ap (λ (u : Outcome). state_after g u m.state) f.0

  sectors_are : ys ≡ r.tables.sectors
  sectors_are = ap (λ (t : Tables). t.sectors) f.1

  written_are : {wb : List ℕ} → wb ≡ table_to ws → wb ≡ table_to r.tables.written
  written_are e = e ∙ ap (λ (t : Tables). table_to t.written) f.1

  durable_are : {db : List ℕ} → db ≡ table_to ds → db ≡ table_to r.tables.durable
  durable_are e = e ∙ ap (λ (t : Tables). table_to t.durable) f.1

  pub all_stored : {wb db : List ℕ} → wb ≡ table_to ws → db ≡ table_to ds → answered n (ranges ys wb db st) ≡ stored_all g r m
  unfolding stored_all
  all_stored a b = cc (code_is, state_is, sectors_are, written_are a, durable_are b)

  pub flushes_stored : {db : List ℕ} → db ≡ table_to ds → answered n (ranges m.sectors m.written db st) ≡ stored_flushes g r m
  unfolding stored_flushes
  flushes_stored b = cc (code_is, state_is, durable_are b)

pub shown : (g : Geometry) (m : Ranges) {o q : Outcome} {n : ℕ} {st : List ℕ} → o ≡ q → (n ≡ answer_number o.answer) × (st ≡ state_after g o m.state) → answered n (ranges m.sectors m.written m.durable st) ≡ handed_back g q m
shown g m {o} {q} {n} {st} p h =
    let a : n ≡ answer_number q.answer = h.0 ∙ ap (λ (u : Outcome). answer_number u.answer) p in
    let b : st ≡ state_after g q m.state = h.1 ∙ ap (λ (u : Outcome). state_after g u m.state) p in
    cc

-- ---- the calls that return a place too
-- the code adds it last
pub placed : {a b : Answer} {m : Ranges} {n k : ℕ} {r : Answered Ranges} → b ≡ a → answered n m ≡ r → k ≡ with_number n (place_number b) → answered k m ≡ with_place a r
placed {a} {b} {m} {n} {k} {r} e f h =
    let c : n ≡ r.code = ap (λ (x : Answered Ranges). x.code) f in
    let p : k ≡ with_number r.code (place_number a) = h ∙ ap₂ with_number c (ap place_number e) in
    ap₂ answered p (ap (λ (x : Answered Ranges). x.left) f)

sizes_most : (g : Geometry) (n w d : ℕ) → sizes_number g n w d ≤ 2
unfolding sizes_number
sizes_most g n w d = go (is_valid g) (sizes_fit g n w d)
  where
    go : (a b : Bool) → pick a (pick b 0 2) 1 ≤ 2
    go true true = omega arith
    go true false = omega arith
    go false b = omega arith

-- without it they are calls like the others
alone : (n : ℕ) (a : Answer) (r : Answered Ranges) (m : Ranges) → n ≤ 2 → r.code ≤ 255 → without_place (unless_refused n (with_place a r) m) ≡ unless_refused n r m
unfolding unless_refused
alone n a r m h k = go (eqb n 0)
  where
    low : (x : ℕ) → x ≤ 255 → (y : ℕ) → (x + 4294967296 * y) % 4294967296 ≡ x
    low x l y = omega arith

    go : (c : Bool) → without_place (pick c (with_place a r) (answered n m)) ≡ pick c r (answered n m)
    go true = ap (λ (x : ℕ). answered x r.left) (low r.code k (place_number a))
    go false = ap (λ (x : ℕ). answered x m) (let e : n % 4294967296 ≡ n = omega arith in e)

module _ (g : Geometry) (mask : ℕ) (m : Ranges) where
  pub look_alone : without_place (look_edge g mask m) ≡ writing_state g m (handed_back g (look_of_bytes g mask m) m)
  look_alone =
      let o = look_of_bytes g mask m in
      alone (sizes_number g (length m.state) (length m.written) (length m.durable)) o.answer (handed_back g o m) m (sizes_most g (length m.state) (length m.written) (length m.durable))
      (look_answer_small g (named_of mask) (tables_in g m) unread_state)

  pub mount_alone : (count : ℕ) → without_place (mount_edge g mask count m) ≡ writing_state g m (stored_all g (mount_of_bytes g mask count m) m)
  mount_alone count =
      let r = mount_of_bytes g mask count m in
      alone (sizes_number g (length m.state) (length m.written) (length m.durable)) r.outcome.answer (stored_all g r m) m (sizes_most g (length m.state) (length m.written) (length m.durable))
      (unfold stored_all in mount_answer_small g (named_of mask) (tables_in g m) unread_state count)

-- ---- the calls that answer in a buffer
module _ (place : List ℕ) (r : Answered (List ℕ)) where
  pub place_short : length place ≢ 8 → answered 2 place ≡ place_sized place r
  unfolding place_sized
  place_short h = rw (ne_eqb (length place) 8 h) refl

  pub place_right : length place ≡ 8 → r ≡ place_sized place r
  unfolding place_sized
  place_right h = rw (eq-eqb (length place) 8 h) refl

module _ (g : Geometry) (a n : ℕ) (place : List ℕ) where
  pub place_refused : n ≢ 0 → answered n place ≡ place_answer g a n place
  unfolding place_answer
  place_refused h = rw (ne_eqb n 0 h) refl

  pub place_made : n ≡ 0 → answered 0 (bytes_le 8 (offset_at g a)) ≡ place_answer g a n place
  unfolding place_answer
  place_made h = rw h refl

-- the part that a peek gives is the sector's bytes from that offset
pub peeked_at_lem : (g : Geometry) (named : List Bool) (s : State) (a : ℕ) (t : Tables) → peek_number g named s a t ≡ 0 → take g.sector (drop (offset_at g a) t.sectors) ≡ peek_on g named s a t
peeked_at_lem g named s a t h = (peek_done g named s a t h).0
