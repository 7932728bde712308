-- The numbers of answers. A row's number is small. Where row 6 decides, there is a bad place: so a look or mount that is refused for a log answers 6, 16 or 17,
-- and none that is refused answers 0.
use Rattle.std.specs.Prelude.{◌≡◌, ◌≢◌, Bool, false, ◌&&◌, List, [], ◌∷◌, length, ltb, eqb}
use Rattle.std.proofs.Math.Path.{refl, ap}
use Rattle.std.proofs.Common.{sym, ◌∙◌, arith, ltb-true, eq-eqb, eqb-true}
use Rattle.std.proofs.Math.Bool.{true, not, true≢false}
use Prim.Native.Nat.{ℕ, zero, suc, ◌≤◌, ◌<◌}
use Rattle.tables.specs.declared.Geometry.{Geometry}
use Rattle.tables.specs.meaning.Basics.{pick}
use Rattle.tables.specs.laws.Basics.{and_split}
use Rattle.tables.specs.meaning.Device.{Device}
use Rattle.tables.specs.meaning.Tables.{Tables, device_of}
use Rattle.logs.specs.declared.Fault.TheVariants.{NoMark, NotLegal, RowsPast}
use Rattle.logs.specs.meaning.Entry.{general_zone, parity_zone}
use Rattle.logs.specs.meaning.Walk.{Ending, at_pointer, no_entry, torn, walk_log}
use Rattle.volume.specs.declared.Answer.TheVariants.{Finished, Unfinished, Refused, BadLog}
use Rattle.volume.specs.declared.BadPlace.{BadPlace}
use Rattle.volume.specs.declared.Outcome.{Outcome}
use Rattle.volume.specs.declared.State.{State}
use Rattle.volume.specs.meaning.Refusals.{Verdict, refuse, accept, first_refusal, look_rows, mount_rows, no_bad_place, bad_place_at, bad_place_in, first_of, drive_bad_place, first_below, first_bad_place}
use Rattle.volume.specs.meaning.Roles.{roles, placed_by}
use Rattle.volume.specs.meaning.Answers.{present_in, lost_drive_in, refused_at, told_at}
use Rattle.volume.specs.meaning.CallContracts.{is_set, answer_number, verdict_number, lengths_of, bad_in, roles_of, seen_in, look_verdict, look_on, mount_verdict, mount_stores_on, bad_place_on, mount_on}
use Rattle.volume.specs.laws.BadPlaces.{is_bad_place, first_is_bad}
use Rattle.volume.specs.laws.Refusals.{refusal_order}
use Rattle.volume.specs.laws.LeastRefusal.{first_least}

-- ---- of rows
abbrev pub small_rows : List (ℕ × Bool) → Bool
small_rows [] = true
small_rows ((n, b) ∷ rows) = ltb n 20 && small_rows rows

pub verdict_small : (rows : List (ℕ × Bool)) → small_rows rows ≡ true → verdict_number (first_refusal rows) < 20
verdict_small [] e = omega arith
verdict_small ((n, b) ∷ rows) e = let (p, q) = and_split (ltb n 20) (small_rows rows) e in go b p (verdict_small rows q)
  where
    go : (c : Bool) → ltb n 20 ≡ true → verdict_number (first_refusal rows) < 20 → verdict_number (pick c (refuse n) (first_refusal rows)) < 20
    go true p q = ltb-true n 20 p
    go false p q = q

row_six : (v : Verdict) → verdict_number v ≡ 6 → v ≡ refuse 6
row_six accept e = absurd (omega arith)
row_six (refuse n) e = ap refuse e

-- ---- of bad places: at most 17
first_of_most : (a b : BadPlace) → a.number ≤ 17 → b.number ≤ 17 → (first_of a b).number ≤ 17
first_of_most a b h k = go (eqb a.number 0)
  where
    go : (c : Bool) → (pick c b a).number ≤ 17
    go true = k
    go false = h

at_most : (d y : ℕ) (l : Ending) (x : ℕ) → (bad_place_at d y l x).number ≤ 17
at_most d y at_pointer x = omega arith
at_most d y (no_entry NoMark) x = omega arith
at_most d y (no_entry NotLegal) x = omega arith
at_most d y (no_entry RowsPast) x = omega arith
at_most d y (torn h rs) x = omega arith

drive_most : (g : Geometry) (placed : ℕ → ℕ) (w : Device) (d : ℕ) → (drive_bad_place g placed w d).number ≤ 17
unfolding drive_bad_place
drive_most g placed w d = go (ltb (placed general_zone) (placed parity_zone))
  where
    a : BadPlace
    a = bad_place_in d (placed general_zone) (walk_log g d false (w d general_zone).sectors)

    b : BadPlace
    b = bad_place_in d (placed parity_zone) (walk_log g d true (w d parity_zone).sectors)

    a_most : a.number ≤ 17
    a_most = at_most d (placed general_zone) (walk_log g d false (w d general_zone).sectors).last (walk_log g d false (w d general_zone).sectors).position

    b_most : b.number ≤ 17
    b_most = at_most d (placed parity_zone) (walk_log g d true (w d parity_zone).sectors).last (walk_log g d true (w d parity_zone).sectors).position

    go : (c : Bool) → (pick c (first_of a b) (first_of b a)).number ≤ 17
    go true = first_of_most a b a_most b_most
    go false = first_of_most b a b_most a_most

below_most : (p : ℕ → BadPlace) → ((d : ℕ) → (p d).number ≤ 17) → (n : ℕ) → (first_below p n).number ≤ 17
below_most p h zero = omega arith
below_most p h (suc n) = first_of_most (first_below p n) (p n) (below_most p h n) (h n)

pub place_most : (g : Geometry) (present : ℕ → Bool) (placed : ℕ → ℕ → ℕ) (w : Device) → (first_bad_place g present placed w).number ≤ 17
unfolding first_bad_place
place_most g present placed w = below_most (λ d. pick (present d) (drive_bad_place g (placed d) w d) no_bad_place) (λ d. one d (present d)) g.drives
  where
    one : (d : ℕ) (c : Bool) → (pick c (drive_bad_place g (placed d) w d) no_bad_place).number ≤ 17
    one d true = drive_most g (placed d) w d
    one d false = omega arith

-- ---- of refusals
pub refused_numbered : (b : BadPlace) (n : ℕ) → (n ≡ 6 → b.number ≢ 0) → n ≢ 0 → answer_number (refused_at b n) ≢ 0
refused_numbered b n told h = go (eqb n 6) refl
  where
    go : (c : Bool) → eqb n 6 ≡ c → answer_number (pick c (BadLog b) (Refused n)) ≢ 0
    go true e = told (eqb-true n 6 e)
    go false e = h

refused_small : (b : BadPlace) (n : ℕ) → b.number ≤ 17 → n < 20 → answer_number (refused_at b n) ≤ 255
refused_small b n h k = go (eqb n 6)
  where
    go : (c : Bool) → answer_number (pick c (BadLog b) (Refused n)) ≤ 255
    go true = omega arith
    go false = omega arith

module _ (g : Geometry) (named : List Bool) (t : Tables) where
  -- ROW 6 TELLS a place that is bad
  pub look_told : verdict_number (look_verdict g named t) ≡ 6 → (bad_place_on g named t).number ≢ 0
  unfolding look_verdict look_rows
  look_told e z =
      let l = first_least refusal_order (look_rows g (lengths_of t) (bad_in g named t) (is_set named) (roles_of g t) (seen_in g t)) 6 refl refl (row_six (look_verdict g named t) e) in
      let b : is_bad_place (bad_place_on g named t) ≡ true = first_is_bad g (seen_in g t) (present_in g (is_set named) (device_of g t)) (placed_by (roles g (device_of g t))) ∙ l.applies in
      true≢false (sym b ∙ ap not (eq-eqb (bad_place_on g named t).number 0 z))

  pub mount_told : verdict_number (mount_verdict g named t) ≡ 6 → (bad_place_on g named t).number ≢ 0
  unfolding mount_verdict mount_rows
  mount_told e z =
      let l = first_least refusal_order (mount_rows g (lengths_of t) (bad_in g named t) (is_set named) (roles_of g t) (seen_in g t)) 6 refl refl (row_six (mount_verdict g named t) e) in
      let b : is_bad_place (bad_place_on g named t) ≡ true = first_is_bad g (seen_in g t) (present_in g (is_set named) (device_of g t)) (placed_by (roles g (device_of g t))) ∙ l.applies in
      true≢false (sym b ∙ ap not (eq-eqb (bad_place_on g named t).number 0 z))

  pub mount_tells : (old : State) (count : ℕ) → verdict_number (mount_verdict g named t) ≡ 6 → (mount_on g named old count t).outcome.answer ≡ BadLog (bad_place_on g named t)
  unfolding mount_on
  mount_tells old count e = rw e refl

  pub look_small : verdict_number (look_verdict g named t) < 20
  unfolding look_verdict look_rows
  look_small = verdict_small (look_rows g (lengths_of t) (bad_in g named t) (is_set named) (roles_of g t) (seen_in g t)) refl

  pub mount_small : verdict_number (mount_verdict g named t) < 20
  unfolding mount_verdict mount_rows
  mount_small = verdict_small (mount_rows g (lengths_of t) (bad_in g named t) (is_set named) (roles_of g t) (seen_in g t)) refl

  told_small : (n : ℕ) → n < 20 → answer_number (refused_at (bad_place_on g named t) n) ≤ 255
  told_small n h = refused_small (bad_place_on g named t) n (place_most g (present_in g (is_set named) (device_of g t)) (placed_by (roles g (device_of g t))) (seen_in g t)) h

  -- every answer of a look, and of a mount, has eight bits
  pub look_answer_small : (old : State) → answer_number (look_on g named old t).answer ≤ 255
  unfolding look_on
  look_answer_small old = go _ (eqb n 0)
    where
      n : ℕ
      n = verdict_number (look_verdict g named t)

      go : (new : State) (c : Bool) → answer_number (pick {A = Outcome} c (record { answer = Finished; state = new }) (record { answer = refused_at (bad_place_on g named t) n; state = old })).answer ≤ 255
      go new true = omega arith
      go new false = told_small n look_small

  pub mount_answer_small : (old : State) (count : ℕ) → answer_number (mount_on g named old count t).outcome.answer ≤ 255
  unfolding mount_on
  mount_answer_small old count = go _ (eqb n 0) (ltb count (length (mount_stores_on g (present_in g (is_set named) (device_of g t)) (lost_drive_in g (is_set named) (device_of g t)) t)))
    where
      n : ℕ
      n = verdict_number (mount_verdict g named t)

      ended : State → Bool → Bool → Outcome
      ended new c e = pick c (pick e (record { answer = Unfinished; state = old }) (record { answer = Finished; state = new })) (record { answer = Refused n; state = old })

      go : (new : State) (c e : Bool) → answer_number (told_at (bad_place_on g named t) (ended new c e).answer) ≤ 255
      go new true true = omega arith
      go new true false = omega arith
      go new false e = told_small n mount_small
