-- The hypotheses of isolation (Isolation.antt) one by one, each with a test that can be computed and says just that; that together they are what isolation asks for; and what
-- a desk hears, in numbers.
use Rattle.std.specs.Prelude.{◌≡◌, refl, ◌⊎◌, Bool, true, false, ◌&&◌, ◌||◌, not, ℕ, ◌<◌, List, [], ◌∷◌, get_or, drop, length, eqb}
use Rattle.std.proofs.Common.{sym, ap, ap₂, ◌∙◌, inl, inr, true≢false, arith, eqb-true}
use Rattle.tables.specs.declared.Geometry.{Geometry}
use Rattle.tables.specs.meaning.Below.{all_below}
use Rattle.tables.specs.meaning.LittleEndian.{same_bytes}
use Rattle.tables.specs.laws.Basics.{and_split, and_join, or_cases, not_both, not_true, eqb_same}
use Rattle.tables.specs.laws.Below.{all_below_all, all_all_below}
use Rattle.tables.specs.laws.LittleEndian.{same_bytes_eq, same_bytes_refl}
use Rattle.volume.specs.declared.ZoneDescriptor.{ZoneDescriptor}
use Rattle.volume.specs.declared.Condition.{Condition}
use Rattle.volume.specs.declared.Condition.TheVariants.{Empty, Open, Sealed, Worn}
use Rattle.volume.specs.declared.Owner.{Owner}
use Rattle.volume.specs.declared.Owner.TheVariants.{Nobody, Host0, Host1}
use Rattle.volume.specs.meaning.State.{pointer_in, condition_number, condition_of_number, owner_number, owner_of_number}
use Rattle.volume.specs.meaning.Hosts.{open_zones}
use Rattle.volume.specs.meaning.CallContracts.{answer_number}
use Rattle.promise.specs.meaning.Claim.{System, Heard, answered, looked, read_out, peeked_at, reported, nothing, heard, all_but}
use Rattle.promise.specs.meaning.Isolation.{Asked, asked_by, Compacted, Moment, general_log, SameZone, AllAgree, is_promised, AllHearSame}
use Rattle.promise.proofs.examples.IsolationRuns.{shelf}

-- ==== a test that says just what a proposition says
pub record Tested (b : Bool) (P : Type 0) : Type 0 where
  pub sound : b ≡ true → P
  pub complete : P → b ≡ true

number_tested : (a b : ℕ) → Tested (eqb a b) (a ≡ b)
number_tested a b = record { sound = eqb-true a b; complete = λ e. rw e (eqb_same b) }

both_tested : {P Q : Type 0} (a b : Bool) → Tested a P → Tested b Q → Tested (a && b) (P × Q)
both_tested a b s t = record { sound = λ h. let (p, q) = and_split a b h in (s.sound p, t.sound q); complete = λ h. and_join a b (s.complete h.0) (t.complete h.1) }

-- of every k below n, where it is asked for
below_tested : (asked b : ℕ → Bool) (P : ℕ → Type 0) (n : ℕ) → ((k : ℕ) → Tested (b k) (P k)) → Tested (all_below (λ k. not (asked k) || b k) n) ((k : ℕ) → k < n → asked k ≡ true → P k)
below_tested asked b P n t = record { sound = λ e k l a. (t k).sound (there k a (all_below_all (λ j. not (asked j) || b j) n k e l)); complete = λ f. all_all_below (λ j. not (asked j) || b j) n (λ k l. whether k (asked k) refl (f k l)) }
  where
    there : (k : ℕ) → asked k ≡ true → not (asked k) || b k ≡ true → b k ≡ true
    there k a e = rw a at e

    whether : (k : ℕ) (a : Bool) → asked k ≡ a → (asked k ≡ true → P k) → not (asked k) || b k ≡ true
    whether k true e f = rw e ((t k).complete (f e))
    whether k false e f = rw e refl

abbrev pub same_sectors : List (List ℕ) → List (List ℕ) → Bool
same_sectors [] [] = true
same_sectors [] (t ∷ ts) = false
same_sectors (s ∷ ss) [] = false
same_sectors (s ∷ ss) (t ∷ ts) = same_bytes s t && same_sectors ss ts

same_sectors_eq : (ss ts : List (List ℕ)) → same_sectors ss ts ≡ true → ss ≡ ts
same_sectors_eq [] [] h = refl
same_sectors_eq [] (t ∷ ts) h = absurd (true≢false (sym h))
same_sectors_eq (s ∷ ss) [] h = absurd (true≢false (sym h))
same_sectors_eq (s ∷ ss) (t ∷ ts) h = let (p, q) = and_split (same_bytes s t) (same_sectors ss ts) h in ap₂ (λ (a : List ℕ) (b : List (List ℕ)). a ∷ b) (same_bytes_eq s t p) (same_sectors_eq ss ts q)

same_sectors_refl : (ss : List (List ℕ)) → same_sectors ss ss ≡ true
same_sectors_refl [] = refl
same_sectors_refl (s ∷ ss) = and_join (same_bytes s s) (same_sectors ss ss) (same_bytes_refl s) (same_sectors_refl ss)

pub sectors_tested : (ss ts : List (List ℕ)) → Tested (same_sectors ss ts) (ss ≡ ts)
sectors_tested ss ts = record { sound = same_sectors_eq ss ts; complete = λ e. rw e (same_sectors_refl ts) }

-- a condition is its number and its pointer, and an owner its number
abbrev same_condition : Condition → Condition → Bool
same_condition c d = eqb (condition_number c) (condition_number d) && eqb (pointer_in c) (pointer_in d)

by_number : (c : Condition) → condition_of_number (condition_number c) (pointer_in c) ≡ c
by_number Empty = refl
by_number (Open n) = refl
by_number (Sealed n) = refl
by_number (Worn n) = refl

condition_tested : (c d : Condition) → Tested (same_condition c d) (c ≡ d)
condition_tested c d = let t = both_tested _ _ (number_tested (condition_number c) (condition_number d)) (number_tested (pointer_in c) (pointer_in d)) in
    record { sound = λ h. sym (by_number c) ∙ (ap₂ condition_of_number (t.sound h).0 (t.sound h).1 ∙ by_number d); complete = λ e. t.complete (ap condition_number e, ap pointer_in e) }

owner_by_number : (o : Owner) → owner_of_number (owner_number o) ≡ o
owner_by_number Nobody = refl
owner_by_number Host0 = refl
owner_by_number Host1 = refl

owner_tested : (o q : Owner) → Tested (eqb (owner_number o) (owner_number q)) (o ≡ q)
owner_tested o q = record { sound = λ h. sym (owner_by_number o) ∙ (ap owner_of_number (eqb-true (owner_number o) (owner_number q) h) ∙ owner_by_number q); complete = λ e. (number_tested (owner_number o) (owner_number q)).complete (ap owner_number e) }

abbrev same_emptyings : List Compacted → List Compacted → Bool
same_emptyings [] [] = true
same_emptyings [] (q ∷ qs) = false
same_emptyings (p ∷ ps) [] = false
same_emptyings (p ∷ ps) (q ∷ qs) = (eqb p.drive q.drive && eqb p.unused q.unused) && same_emptyings ps qs

same_emptyings_eq : (ps qs : List Compacted) → same_emptyings ps qs ≡ true → ps ≡ qs
same_emptyings_eq [] [] h = refl
same_emptyings_eq [] (q ∷ qs) h = absurd (true≢false (sym h))
same_emptyings_eq (p ∷ ps) [] h = absurd (true≢false (sym h))
same_emptyings_eq (p ∷ ps) (q ∷ qs) h =
    let (a, b) = and_split (eqb p.drive q.drive && eqb p.unused q.unused) (same_emptyings ps qs) h in
    let (d, u) = and_split (eqb p.drive q.drive) (eqb p.unused q.unused) a in
    let e : p ≡ q = ap₂ {C = Compacted} (λ (i j : ℕ). record { drive = i; unused = j }) (eqb-true p.drive q.drive d) (eqb-true p.unused q.unused u) in
    ap₂ (λ (i : Compacted) (j : List Compacted). i ∷ j) e (same_emptyings_eq ps qs b)

same_emptyings_refl : (ps : List Compacted) → same_emptyings ps ps ≡ true
same_emptyings_refl [] = refl
same_emptyings_refl (p ∷ ps) = rw (eqb_same p.drive, eqb_same p.unused) (same_emptyings_refl ps)

emptyings_tested : (ps qs : List Compacted) → Tested (same_emptyings ps qs) (ps ≡ qs)
emptyings_tested ps qs = record { sound = same_emptyings_eq ps qs; complete = λ e. rw e (same_emptyings_refl qs) }

-- ==== the hypotheses
-- "the zones it shares, the number open, past emptyings and what the parity logs had unused then, the general logs and the lost drive"
pub data Hypothesis : Type 0 where
  zones_shared : Hypothesis
  number_open : Hypothesis
  past_emptyings : Hypothesis
  general_logs : Hypothesis
  lost_drive : Hypothesis

module _ (g : Geometry) where
  -- two runs agree on x at a call (shared: the zones that the desk shares)
  abbrev pub Agree : Hypothesis → (ℕ → Bool) → Moment g (shelf g) → Moment g (shelf g) → Type 0
  Agree zones_shared shared p q = (z : ℕ) → z < g.zones → shared z ≡ true → SameZone g (shelf g) p.system q.system z
  Agree number_open shared p q = open_zones g p.system.state ≡ open_zones g q.system.state
  Agree past_emptyings shared p q = p.past ≡ q.past
  Agree general_logs shared p q = (d : ℕ) → d < g.drives → all_but p.system.lost d ≡ true → general_log g p.system.memory d ≡ general_log g q.system.memory d
  Agree lost_drive shared p q = p.system.lost ≡ q.system.lost

  abbrev zone_test : System (shelf g) → System (shelf g) → ℕ → Bool
  zone_test s t z =
      (eqb (s.state.generation z) (t.state.generation z) && same_condition (s.state.condition z) (t.state.condition z))
      && (eqb (owner_number (s.state.owner z)) (owner_number (t.state.owner z)) && same_sectors (s.ledger.content z) (t.ledger.content z))

  zone_tested : (s t : System (shelf g)) (z : ℕ) → Tested (zone_test s t z) (SameZone g (shelf g) s t z)
  zone_tested s t z =
      let a = both_tested _ _ (number_tested (s.state.generation z) (t.state.generation z)) (condition_tested (s.state.condition z) (t.state.condition z)) in
      let b = both_tested _ _ (owner_tested (s.state.owner z) (t.state.owner z)) (sectors_tested (s.ledger.content z) (t.ledger.content z)) in
      let c = both_tested _ _ a b in
      record {
        sound = λ h. let e = c.sound h in record { generation = e.0.0; condition = e.0.1; owner = e.1.0; content = e.1.1 };
        complete = λ e. c.complete ((e.generation, e.condition), (e.owner, e.content));
      }

  abbrev pub agrees : Hypothesis → (ℕ → Bool) → Moment g (shelf g) → Moment g (shelf g) → Bool
  agrees zones_shared shared p q = all_below (λ z. not (shared z) || zone_test p.system q.system z) g.zones
  agrees number_open shared p q = eqb (open_zones g p.system.state) (open_zones g q.system.state)
  agrees past_emptyings shared p q = same_emptyings p.past q.past
  agrees general_logs shared p q = all_below (λ d. not (all_but p.system.lost d) || same_sectors (general_log g p.system.memory d) (general_log g q.system.memory d)) g.drives
  agrees lost_drive shared p q = eqb p.system.lost q.system.lost

  agree_tested : (x : Hypothesis) (shared : ℕ → Bool) (p q : Moment g (shelf g)) → Tested (agrees x shared p q) (Agree x shared p q)
  agree_tested zones_shared shared p q = below_tested shared (zone_test p.system q.system) (SameZone g (shelf g) p.system q.system) g.zones (zone_tested p.system q.system)
  agree_tested number_open shared p q = number_tested (open_zones g p.system.state) (open_zones g q.system.state)
  agree_tested past_emptyings shared p q = emptyings_tested p.past q.past
  agree_tested general_logs shared p q =
      below_tested (all_but p.system.lost) (λ d. same_sectors (general_log g p.system.memory d) (general_log g q.system.memory d))
      (λ d. general_log g p.system.memory d ≡ general_log g q.system.memory d) g.drives (λ d. sectors_tested (general_log g p.system.memory d) (general_log g q.system.memory d))
  agree_tested lost_drive shared p q = number_tested p.system.lost q.system.lost

  -- ---- at each of a desk's calls
  abbrev pub AgreeOn : Hypothesis → (ℕ → Bool) → List (Moment g (shelf g)) → List (Moment g (shelf g)) → Type 0
  AgreeOn x shared [] qs = Unit {0}
  AgreeOn x shared (p ∷ ps) [] = Unit {0}
  AgreeOn x shared (p ∷ ps) (q ∷ qs) = Agree x shared p q × AgreeOn x shared ps qs

  abbrev pub agrees_on : Hypothesis → (ℕ → Bool) → List (Moment g (shelf g)) → List (Moment g (shelf g)) → Bool
  agrees_on x shared [] qs = true
  agrees_on x shared (p ∷ ps) [] = true
  agrees_on x shared (p ∷ ps) (q ∷ qs) = agrees x shared p q && agrees_on x shared ps qs

  pub agree_on_tested : (x : Hypothesis) (shared : ℕ → Bool) (ps qs : List (Moment g (shelf g))) → Tested (agrees_on x shared ps qs) (AgreeOn x shared ps qs)
  agree_on_tested x shared [] qs = record { sound = λ h. tt; complete = λ h. refl }
  agree_on_tested x shared (p ∷ ps) [] = record { sound = λ h. tt; complete = λ h. refl }
  agree_on_tested x shared (p ∷ ps) (q ∷ qs) = both_tested (agrees x shared p q) (agrees_on x shared ps qs) (agree_tested x shared p q) (agree_on_tested x shared ps qs)

  -- ---- "the same ones in the same order"
  abbrev pub asks_of : List (Moment g (shelf g)) → List (Asked (List ZoneDescriptor))
  asks_of [] = []
  asks_of (p ∷ ps) = asked_by p.event ∷ asks_of ps

  -- with that, the hypotheses one by one are all that isolation asks for
  pub all_agree : (shared : ℕ → Bool) (ps qs : List (Moment g (shelf g))) → asks_of ps ≡ asks_of qs → ((x : Hypothesis) → AgreeOn x shared ps qs) → AllAgree g (shelf g) shared ps qs
  all_agree shared [] [] e h = tt
  all_agree shared [] (q ∷ qs) e h = let z : ◌≡◌ {A = ℕ} 0 (length (asks_of (q ∷ qs))) = ap length e in absurd (omega (arith, z))
  all_agree shared (p ∷ ps) [] e h = let z : ◌≡◌ {A = ℕ} (length (asks_of (p ∷ ps))) 0 = ap length e in absurd (omega (arith, z))
  all_agree shared (p ∷ ps) (q ∷ qs) e h = (
    record {
      same_call = ap (λ (l : List (Asked (List ZoneDescriptor))). get_or l 0 Asked.nothing) e;
      zones = (h zones_shared).0;
      open_zones_lem = (h number_open).0;
      emptyings = (h past_emptyings).0;
      general_logs_lem = (h general_logs).0;
      lost = (h lost_drive).0;
    },
    all_agree shared ps qs (ap (drop 1) e) (λ x. (h x).1),
  )

-- ==== what is heard, in numbers: the answer's, and what a read or peek gives
abbrev pub heard_numbers : {S L : Type 0} → Heard S L → List ℕ
heard_numbers (answered a) = answer_number a ∷ []
heard_numbers (looked a state) = answer_number a ∷ []
heard_numbers (read_out a bytes) = answer_number a ∷ bytes
heard_numbers (peeked_at n from part) = n ∷ from ∷ part
heard_numbers (reported r) = []
heard_numbers nothing = []

module _ (g : Geometry) where
  abbrev pub hears : List (Moment g (shelf g)) → List (List ℕ)
  hears [] = []
  hears (p ∷ ps) = heard_numbers (heard p.system p.event) ∷ hears ps

  -- something else at some call that isolation speaks of
  abbrev same_heard : Moment g (shelf g) → Moment g (shelf g) → Bool
  same_heard p q = same_bytes (heard_numbers (heard p.system p.event)) (heard_numbers (heard q.system q.event))

  abbrev hears_other_at : Moment g (shelf g) → Moment g (shelf g) → Bool
  hears_other_at p q = is_promised g (shelf g) p.event && not (same_heard p q)

  abbrev pub hears_other : List (Moment g (shelf g)) → List (Moment g (shelf g)) → Bool
  hears_other [] qs = false
  hears_other (p ∷ ps) [] = false
  hears_other (p ∷ ps) (q ∷ qs) = hears_other_at p q || hears_other ps qs

  other_at : (p q : Moment g (shelf g)) → hears_other_at p q ≡ true → (is_promised g (shelf g) p.event ≡ true → heard p.system p.event ≡ heard q.system q.event) → ⊥
  other_at p q e h =
      let (a, b) = and_split (is_promised g (shelf g) p.event) (not (same_heard p q)) e in
      let same : same_heard p q ≡ true = rw (h a) (same_bytes_refl (heard_numbers (heard q.system q.event))) in
      not_both (same_heard p q) same (not_true (same_heard p q) b)

  pub not_the_same : (ps qs : List (Moment g (shelf g))) → hears_other ps qs ≡ true → AllHearSame g (shelf g) ps qs → ⊥
  not_the_same [] qs e h = true≢false (sym e)
  not_the_same (p ∷ ps) [] e h = h
  not_the_same (p ∷ ps) (q ∷ qs) e h = by (or_cases (hears_other_at p q) (hears_other ps qs) e) (λ l. not_the_same ps qs l h.1)
    where
      by : (hears_other_at p q ≡ true) ⊎ ((hears_other_at p q ≡ false) × (hears_other ps qs ≡ true)) → (hears_other ps qs ≡ true → ⊥) → ⊥
      by (inl k) later = other_at p q k h.0
      by (inr l) later = later l.1
