-- The first bad place of the present drives' logs: there is one just where a log is bad; no earlier drive has one; what it depends on.
use Rattle.std.specs.Prelude.{◌≡◌, ◌≢◌, ◌⊎◌, Bool, ◌&&◌, ◌||◌, not, ℕ, zero, suc, ◌≤◌, ◌<◌, List, length, ltb, eqb}
use Rattle.std.proofs.Math.Path.{refl, ap₂}
use Rattle.std.proofs.Common.{sym, ap, ◌∙◌, inl, inr, true≢false, arith, lt-ltb, le-ltb, ne_eqb, eqb-true}
use Rattle.std.proofs.Math.Bool.{true, false}
use Rattle.std.proofs.Math.Decide.{ℕ_discrete}
use Rattle.tables.specs.declared.Geometry.{Geometry}
use Rattle.tables.specs.meaning.Basics.{pick}
use Rattle.tables.specs.meaning.Below.{any_below}
use Rattle.tables.specs.meaning.Device.{Device, Store}
use Rattle.tables.specs.meaning.Tables.{Tables, run_stores}
use Rattle.logs.specs.declared.Fault.{Fault}
use Rattle.logs.specs.declared.Fault.TheVariants.{NoMark, NotLegal, RowsPast}
use Rattle.logs.specs.meaning.Entry.{general_zone, parity_zone, fault_number}
use Rattle.logs.specs.meaning.Walk.{Ending, at_pointer, no_entry, torn, walk_log}
use Rattle.volume.specs.declared.Answer.{Answer}
use Rattle.volume.specs.declared.Answer.TheVariants.{Finished, Unfinished, Refused, BadLog}
use Rattle.volume.specs.declared.BadPlace.{BadPlace}
use Rattle.volume.specs.declared.State.{State}
use Rattle.volume.specs.meaning.Rules.{general_ending, parity_ending}
use Rattle.volume.specs.meaning.Refusals.{is_no_entry, bad_logs, no_bad_place, bad_place_at, bad_place_in, first_of, lower_first, drive_bad_place, first_below, first_bad_place}
use Rattle.volume.specs.meaning.Answers.{refused_at, told_at}
use Rattle.volume.specs.meaning.CallContracts.{Result, storing_on, telling_at}
use Rattle.volume.specs.laws.Depends.{SameOn}

-- ---- numbers
-- a bad place has one of three numbers
pub fault_number_lem : (f : Fault) → (fault_number f ≡ 6) ⊎ ((fault_number f ≡ 16) ⊎ (fault_number f ≡ 17))
fault_number_lem NoMark = inl refl
fault_number_lem NotLegal = inr (inl refl)
fault_number_lem RowsPast = inr (inr refl)

-- whether a place is bad
abbrev pub is_bad_place : BadPlace → Bool
is_bad_place b = not (eqb b.number 0)

place_bad : (d y : ℕ) (l : Ending) (x : ℕ) → is_bad_place (bad_place_at d y l x) ≡ is_no_entry l
place_bad d y at_pointer x = refl
place_bad d y (no_entry NoMark) x = refl
place_bad d y (no_entry NotLegal) x = refl
place_bad d y (no_entry RowsPast) x = refl
place_bad d y (torn h rs) x = refl

first_bad : (a b : BadPlace) → is_bad_place (first_of a b) ≡ is_bad_place a || is_bad_place b
first_bad a b = go (eqb a.number 0) refl
  where
    go : (c : Bool) → eqb a.number 0 ≡ c → is_bad_place (pick c b a) ≡ not c || is_bad_place b
    go true e = refl
    go false e = ap not e

or_other : (a b : Bool) → a || b ≡ b || a
or_other true true = refl
or_other true false = refl
or_other false true = refl
or_other false false = refl

lower_bad : (y z : ℕ) (a b : BadPlace) → is_bad_place (lower_first y z a b) ≡ is_bad_place a || is_bad_place b
lower_bad y z a b = go (ltb y z)
  where
    go : (c : Bool) → is_bad_place (pick c (first_of a b) (first_of b a)) ≡ is_bad_place a || is_bad_place b
    go true = first_bad a b
    go false = first_bad b a ∙ or_other (is_bad_place b) (is_bad_place a)

-- (by the code's test)
pub lower_first_lem : (y z : ℕ) (a b : BadPlace) → y < z → lower_first y z a b ≡ first_of a b
lower_first_lem y z a b h = rw (lt-ltb y z h) refl

pub lower_second : (y z : ℕ) (a b : BadPlace) → z ≤ y → lower_first y z a b ≡ first_of b a
lower_second y z a b h = rw (le-ltb y z h) refl

module _ (g : Geometry) (w : Device) where
  drive_bad : (placed : ℕ → ℕ) (d : ℕ) → is_bad_place (drive_bad_place g placed w d) ≡ is_no_entry (general_ending g w d) || is_no_entry (parity_ending g w d)
  unfolding drive_bad_place general_ending parity_ending
  drive_bad placed d =
      let a = walk_log g d false (w d general_zone).sectors in
      let b = walk_log g d true (w d parity_zone).sectors in
      lower_bad (placed general_zone) (placed parity_zone) (bad_place_in d (placed general_zone) a) (bad_place_in d (placed parity_zone) b)
      ∙ ap₂ (λ (p q : Bool). p || q) (place_bad d (placed general_zone) a.last a.position) (place_bad d (placed parity_zone) b.last b.position)

  below_bad : (p : ℕ → BadPlace) (q : ℕ → Bool) → ((d : ℕ) → is_bad_place (p d) ≡ q d) → (n : ℕ) → is_bad_place (first_below p n) ≡ any_below q n
  below_bad p q e zero = refl
  below_bad p q e (suc n) = first_bad (first_below p n) (p n) ∙ ap₂ (λ (a b : Bool). a || b) (below_bad p q e n) (e n)

  -- THERE IS ONE just where row 6 applies
  pub first_is_bad : (present : ℕ → Bool) (placed : ℕ → ℕ → ℕ) → is_bad_place (first_bad_place g present placed w) ≡ bad_logs g present w
  unfolding first_bad_place bad_logs
  first_is_bad present placed = below_bad (λ d. pick (present d) (drive_bad_place g (placed d) w d) no_bad_place) (λ d. present d && (is_no_entry (general_ending g w d) || is_no_entry (parity_ending g w d))) (λ d. one d (present d)) g.drives
    where
      one : (d : ℕ) (b : Bool) → is_bad_place (pick b (drive_bad_place g (placed d) w d) no_bad_place) ≡ b && (is_no_entry (general_ending g w d) || is_no_entry (parity_ending g w d))
      one d true = drive_bad (placed d) d
      one d false = refl

-- ---- what it depends on
pub first_below_cong : (p q : ℕ → BadPlace) (n : ℕ) → ((d : ℕ) → d < n → p d ≡ q d) → first_below p n ≡ first_below q n
first_below_cong p q zero e = refl
first_below_cong p q (suc n) e = ap₂ (λ (a b : BadPlace). first_of a b) (first_below_cong p q n (λ d h. e d (omega arith))) (e n (omega arith))

picked : (b : Bool) (x y : BadPlace) → (b ≡ true → x ≡ y) → pick b x no_bad_place ≡ pick b y no_bad_place
picked true x y h = h refl
picked false x y h = refl

-- the places of the present drives' logs, and their sectors
pub first_bad_depends : (g : Geometry) (present : ℕ → Bool) (v w : Device) → SameOn present v w → (p q : ℕ → ℕ → ℕ) → ((d : ℕ) → d < g.drives → present d ≡ true → p d ≡ q d)
    → first_bad_place g present p v ≡ first_bad_place g present q w
unfolding first_bad_place drive_bad_place
first_bad_depends g present v w same p q e =
    first_below_cong (λ d. pick (present d) (at (p d) (v d general_zone).sectors (v d parity_zone).sectors d) no_bad_place) (λ d. pick (present d) (at (q d) (w d general_zone).sectors (w d parity_zone).sectors d) no_bad_place) g.drives
    (λ d h. picked (present d) (at (p d) (v d general_zone).sectors (v d parity_zone).sectors d) (at (q d) (w d general_zone).sectors (w d parity_zone).sectors d) (λ s. one d h s))
  where
    at : (ℕ → ℕ) → List (List ℕ) → List (List ℕ) → ℕ → BadPlace
    at placed ss ts d = lower_first (placed general_zone) (placed parity_zone) (bad_place_in d (placed general_zone) (walk_log g d false ss)) (bad_place_in d (placed parity_zone) (walk_log g d true ts))

    one : (d : ℕ) → d < g.drives → present d ≡ true → at (p d) (v d general_zone).sectors (v d parity_zone).sectors d ≡ at (q d) (w d general_zone).sectors (w d parity_zone).sectors d
    one d h s = ap₂ (λ (ss ts : List (List ℕ)). at (p d) ss ts d) (same d s general_zone) (same d s parity_zone) ∙ ap (λ (z : ℕ → ℕ). at z (w d general_zone).sectors (w d parity_zone).sectors d) (e d h s)

-- ---- THE FIRST: no earlier drive has one
-- it is a place of its drive, or there is none
pub record FirstAt (p : ℕ → BadPlace) (n : ℕ) : Type 0 where
  pub drive : ℕ
  pub drive_in : drive < n
  pub is_there : first_below p n ≡ p drive
  pub is_bad : is_bad_place (p drive) ≡ true
  pub none_before : (d : ℕ) → d < drive → is_bad_place (p d) ≡ false

first_of_bad : (a b : BadPlace) → is_bad_place a ≡ true → first_of a b ≡ a
first_of_bad a b h = go (eqb a.number 0) h
  where
    go : (c : Bool) → not c ≡ true → pick c b a ≡ a
    go true e = absurd (true≢false (sym e))
    go false e = refl

first_of_none : (a b : BadPlace) → is_bad_place a ≡ false → first_of a b ≡ b
first_of_none a b h = go (eqb a.number 0) h
  where
    go : (c : Bool) → not c ≡ false → pick c b a ≡ b
    go true e = refl
    go false e = absurd (true≢false e)

pub none_below : (p : ℕ → BadPlace) (n : ℕ) → is_bad_place (first_below p n) ≡ false → (d : ℕ) → d < n → is_bad_place (p d) ≡ false
none_below p zero h d l = absurd (omega arith)
none_below p (suc n) h d l =
    go (is_bad_place (first_below p n)) (is_bad_place (p n)) refl refl (sym (first_bad (first_below p n) (p n)) ∙ h) (ℕ_discrete d n) (λ e k. none_below p n e d k)
  where
    go : (a b : Bool) → is_bad_place (first_below p n) ≡ a → is_bad_place (p n) ≡ b → a || b ≡ false → Dec (d ≡ n) → (is_bad_place (first_below p n) ≡ false → d < n → is_bad_place (p d) ≡ false) → is_bad_place (p d) ≡ false
    go true b x y e k ih = absurd (true≢false e)
    go false true x y e k ih = absurd (true≢false e)
    go false false x y e (yes k) ih = ap (λ (i : ℕ). is_bad_place (p i)) k ∙ y
    go false false x y e (no k) ih = ih x (omega (arith, l, k))

pub first_below_is : (p : ℕ → BadPlace) (n : ℕ) → is_bad_place (first_below p n) ≡ true → FirstAt p n
first_below_is p zero h = absurd (true≢false (sym h))
first_below_is p (suc n) h = go (is_bad_place (first_below p n)) refl (λ e. first_below_is p n e)
  where
    go : (a : Bool) → is_bad_place (first_below p n) ≡ a → (is_bad_place (first_below p n) ≡ true → FirstAt p n) → FirstAt p (suc n)
    go true e ih =
        let f = ih e in
        record { drive = f.drive; drive_in = omega (arith, f.drive_in); is_there = first_of_bad (first_below p n) (p n) e ∙ f.is_there; is_bad = f.is_bad; none_before = f.none_before }
    go false e ih =
        let q = first_of_none (first_below p n) (p n) e in
        record { drive = n; drive_in = omega arith; is_there = q; is_bad = sym (ap is_bad_place q) ∙ h; none_before = λ d l. none_below p n e d l }

-- ---- answers
pub refused_plain : (b : BadPlace) (n : ℕ) → n ≢ 6 → Refused n ≡ refused_at b n
refused_plain b n h = rw (ne_eqb n 6 h) refl

pub refused_same : (b : BadPlace) (j n : ℕ) → refused_at b j ≡ refused_at b n → j ≡ n
refused_same b j n e = go (eqb j 6) refl (eqb n 6) refl e
  where
    go : (c : Bool) → eqb j 6 ≡ c → (d : Bool) → eqb n 6 ≡ d → pick c (BadLog b) (Refused j) ≡ pick d (BadLog b) (Refused n) → j ≡ n
    go true p true q k = eqb-true j 6 p ∙ sym (eqb-true n 6 q)
    go true p false q k = absurd (let z : ◌≡◌ {A = ℕ} 0 1 = cc in omega arith)
    go false p true q k = absurd (let z : ◌≡◌ {A = ℕ} 0 1 = cc in omega arith)
    go false p false q k = cc

pub not_finished : (b : BadPlace) (n : ℕ) → Finished ≡ refused_at b n → ⊥
not_finished b n e = go (eqb n 6) e
  where
    go : (c : Bool) → Finished ≡ pick c (BadLog b) (Refused n) → ⊥
    go true k = absurd (let z : ◌≡◌ {A = ℕ} 0 1 = cc in omega arith)
    go false k = absurd (let z : ◌≡◌ {A = ℕ} 0 1 = cc in omega arith)

pub not_unfinished : (b : BadPlace) (n : ℕ) → Unfinished ≡ refused_at b n → ⊥
not_unfinished b n e = go (eqb n 6) e
  where
    go : (c : Bool) → Unfinished ≡ pick c (BadLog b) (Refused n) → ⊥
    go true k = absurd (let z : ◌≡◌ {A = ℕ} 0 1 = cc in omega arith)
    go false k = absurd (let z : ◌≡◌ {A = ℕ} 0 1 = cc in omega arith)

-- a storing call that is not refused by row 6 tells no place
pub told_plain : (g : Geometry) (b : BadPlace) (n : ℕ) (ss : List Store) (new old : State) (count : ℕ) (t : Tables) → n ≢ 6 → telling_at b (storing_on g n ss new old count t) ≡ storing_on g n ss new old count t
told_plain g b n ss new old count t h = go (eqb n 0) (ltb count (length ss))
  where
    ended : Bool → Bool → Result
    ended c e = record {
      outcome = pick c (pick e (record { answer = Unfinished; state = old }) (record { answer = Finished; state = new })) (record { answer = Refused n; state = old });
      tables = pick c (run_stores g count ss t) t;
    }

    go : (c e : Bool) → telling_at b (ended c e) ≡ ended c e
    go true true = refl
    go true false = refl
    go false e = ap (λ (a : Answer). record { outcome = record { answer = a; state = old }; tables = t }) (sym (refused_plain b n h))

-- an answer told with a place is finished, or unfinished, where the answer is
pub told_finished : (b : BadPlace) (a : Answer) → told_at b a ≡ Finished → a ≡ Finished
told_finished b Finished e = refl
told_finished b Unfinished e = absurd (let z : ◌≡◌ {A = ℕ} 0 1 = cc in omega arith)
told_finished b (Refused n) e = absurd (not_finished b n (sym e))
told_finished b (BadLog p) e = absurd (let z : ◌≡◌ {A = ℕ} 0 1 = cc in omega arith)

pub told_unfinished : (b : BadPlace) (a : Answer) → told_at b a ≡ Unfinished → a ≡ Unfinished
told_unfinished b Finished e = absurd (let z : ◌≡◌ {A = ℕ} 0 1 = cc in omega arith)
told_unfinished b Unfinished e = refl
told_unfinished b (Refused n) e = absurd (not_unfinished b n (sym e))
told_unfinished b (BadLog p) e = absurd (let z : ◌≡◌ {A = ℕ} 0 1 = cc in omega arith)
