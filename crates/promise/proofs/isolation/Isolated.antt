-- NEITHER DESK CAN TELL WHAT THE OTHER DOES: of any volume with the laws that isolation rests on (Laws.antt), from any system in which no zone belongs to a host.
use Rattle.std.specs.Prelude.{◌≡◌, refl, ◌⊎◌, Bool, true, false, ◌&&◌, ◌||◌, ℕ, ◌^◌, ◌<◌, List, [], ◌∷◌, ◌++◌, eqb}
use Rattle.std.proofs.Common.{ap, subst, inl, inr, eqb-true}
use Rattle.tables.specs.laws.Basics.{not_both, and_split, and_join, or_left}
use Rattle.tables.specs.meaning.Basics.{pick}
use Rattle.tables.specs.declared.Geometry.{Geometry}
use Rattle.volume.specs.declared.Answer.TheVariants.{Finished}
use Rattle.volume.specs.declared.Owner.TheVariants.{Nobody}
use Rattle.volume.specs.meaning.State.{is_owner}
use Rattle.promise.specs.meaning.Claim.{Volume, System, Event, calls, mounts, answered, heard, next, Duty, Dutiful}
use Rattle.promise.specs.meaning.Histories.{after_all}
use Rattle.promise.specs.meaning.Isolation.{Step, is_call, MayStand, stores_to, reads_from, Compacted, changed_in, named_in, compacted_in, calls_in, Moment, AgreeAt, AllAgree, AllHearSame, is_promised, Isolated, IsolatedFrom}
use Rattle.promise.proofs.isolation.Laws.{Laws}
use Rattle.promise.proofs.isolation.Alone.{halts, NoStore, idle, share_of}
use Rattle.promise.proofs.isolation.Together.{Felt, NamesOnly, hears_same}
use Rattle.promise.proofs.isolation.Stored.{StoredAlike, own_call}
use Rattle.promise.proofs.isolation.Runs.{silent_first, silent_second, stops_here}
use Rattle.promise.proofs.isolation.Beside.{shared, Beside, felt, first_alone, second_alone, both_stored}

-- no zone belongs to a host: so it is after a format, and after a mount
abbrev pub NoOwners : (g : Geometry) (vol : Volume) → System vol → Type 0
NoOwners g vol s = (z : ℕ) → z < g.zones → (vol.view s.state).owner z ≡ Nobody

module _ (g : Geometry) (vol : Volume) (Ok : System vol → Type 0) (laws : Laws g vol Ok) (h : ℕ) (names one other : ℕ → Bool) where
  -- a call of the desk's own
  abbrev is_own : Step vol → Bool
  is_own x = eqb x.desk h && is_call x.event

  not_own : (s : System vol) (x : Step vol) → is_own x ≡ false → eqb x.desk h ≡ true → NoStore g vol s x.event
  not_own s x q o = idle g vol s x.event (λ c m stop e. not_both (is_call x.event) (ap is_call e) (rw o at q))

  abbrev Goal : System vol → System vol → List Compacted → List Compacted → List (Step vol) → List (Step vol) → Type 0
  Goal s t p q xs ys =
      AllAgree g vol (shared names one other) (calls_in g vol h s p xs) (calls_in g vol h t q ys) → AllHearSame g vol (calls_in g vol h s p xs) (calls_in g vol h t q ys)

  -- whatever the other run, and where both have come
  abbrev Walked : List (Step vol) → Type 0
  Walked xs = (ys : List (Step vol)) (common : List Compacted) (share : ℕ → ℕ) (s t : System vol) (p q : List Compacted) → Beside g vol Ok laws h names one other common share s t p q xs ys → Goal s t p q xs ys

  -- ---- a call of the desk's own in both runs
  module _ (x y : Step vol) (xs ys : List (Step vol)) (rest : Walked xs) (common : List Compacted) (share : ℕ → ℕ) (s t : System vol) (p q : List Compacted)
      (b : Beside g vol Ok laws h names one other common share s t p q (x ∷ xs) (y ∷ ys)) (x_own : is_own x ≡ true)
      (agree : AgreeAt g vol (shared names one other) (record { system = s; past = p; event = x.event }) (record { system = t; past = q; event = y.event })) where
    abbrev u : System vol
    u = next g vol s x.event

    abbrev v : System vol
    v = next g vol t y.event

    abbrev p_after : List Compacted
    p_after = p ++ compacted_in g vol s x.event

    abbrev q_after : List Compacted
    q_after = q ++ compacted_in g vol t y.event

    feels : Felt g vol h names s t
    feels = felt g vol Ok laws h names one other common share s t p q (x ∷ xs) (y ∷ ys) b x.event y.event agree

    stands : MayStand h x.event
    stands = subst (λ (i : ℕ). MayStand i x.event) (eqb-true x.desk h (and_split (eqb x.desk h) (is_call x.event) x_own).0) b.first.may_stand.0

    its_names : NamesOnly g vol h names x.event
    its_names z n =
        b.named z
        (or_left (eqb x.desk h && (stores_to g x.event z || reads_from g x.event z)) (named_in g vol h xs z)
        (and_join (eqb x.desk h) (stores_to g x.event z || reads_from g x.event z) (and_split (eqb x.desk h) (is_call x.event) x_own).0 n))

    hears : is_promised g vol x.event ≡ true → heard s x.event ≡ heard t y.event
    hears = hears_same g vol h names Ok laws s t b.first.ok b.second.ok feels x.event y.event agree.same_call b.first.dutiful.0 b.second.dutiful.0 stands its_names

    goes_on_lem : halts s x.event ≡ false → halts t y.event ≡ false → Goal u v p_after q_after xs ys
    goes_on_lem k l = by (own_call g vol h names Ok laws s t b.first.ok b.second.ok feels x.event y.event agree.same_call b.first.dutiful.0 b.second.dutiful.0 stands its_names)
      where
        by : StoredAlike g vol h names s t x.event y.event ⊎ (NoStore g vol s x.event × NoStore g vol t y.event) → Goal u v p_after q_after xs ys
        by (inl alike) = rest ys p_after (share_of g vol h u) u v p_after q_after (both_stored g vol Ok laws h names one other common share s t p q x y xs ys b agree.emptyings alike)
        by (inr (m, n)) =
            let moved = first_alone g vol Ok laws h names one other common share s t p q x xs (y ∷ ys) b k (λ o. m) in
            rest ys common share u v p_after q_after (second_alone g vol Ok laws h names one other common share u t p_after q y xs ys moved l (λ o. n))

    later : Goal u v p_after q_after xs ys
    later a = by (halts s x.event) refl (halts t y.event) refl
      where
        us : List (Moment g vol)
        us = calls_in g vol h u p_after xs

        vs : List (Moment g vol)
        vs = calls_in g vol h v q_after ys

        by : (k : Bool) → halts s x.event ≡ k → (l : Bool) → halts t y.event ≡ l → AllHearSame g vol us vs
        by true k l m = silent_first g vol (shared names one other) us vs (stops_here g vol h names Ok laws one s x xs b.first p k) a
        by false k true m = silent_second g vol (shared names one other) us vs (stops_here g vol h names Ok laws other t y ys b.second q m) a
        by false k false m = goes_on_lem k m a

  -- ---- the second run, up to its next call of the desk
  to_call : (x : Step vol) (xs : List (Step vol)) → Walked xs → is_own x ≡ true → Walked (x ∷ xs)
  to_call x xs rest own [] common share s t p q b = λ a. absurd (rw own at a)
  to_call x xs rest own (y ∷ ys) common share s t p q b = by (is_own y) refl (halts t y.event) refl (to_call x xs rest own ys common share s v p q_after)
    where
      v : System vol
      v = next g vol t y.event

      q_after : List Compacted
      q_after = q ++ compacted_in g vol t y.event

      us : List (Moment g vol)
      us = calls_in g vol h s p (x ∷ xs)

      vs : List (Moment g vol)
      vs = calls_in g vol h v q_after ys

      by : (k : Bool) → is_own y ≡ k → (l : Bool) → halts t y.event ≡ l → (Beside g vol Ok laws h names one other common share s v p q_after (x ∷ xs) ys → Goal s v p q_after (x ∷ xs) ys)
          → AllAgree g vol (shared names one other) us (pick k (record { system = t; past = q; event = y.event } ∷ vs) vs) → AllHearSame g vol us (pick k (record { system = t; past = q; event = y.event } ∷ vs) vs)
      by true k l m again a =
          let us = calls_in g vol h (next g vol s x.event) (p ++ compacted_in g vol s x.event) xs in
          let c : AllAgree g vol (shared names one other) (record { system = s; past = p; event = x.event } ∷ us) (record { system = t; past = q; event = y.event } ∷ vs) = rw own at a in
          rw own (hears x y xs ys rest common share s t p q b own c.0, later x y xs ys rest common share s t p q b own c.0 c.1)
      by false k true m again a = silent_second g vol (shared names one other) us vs (stops_here g vol h names Ok laws other t y ys b.second q m) a
      by false k false m again a = again (second_alone g vol Ok laws h names one other common share s t p q y (x ∷ xs) ys b m (not_own t y k)) a

  -- the first run, likewise
  walk : (xs : List (Step vol)) → Walked xs
  walk [] ys common share s t p q b = silent_first g vol (shared names one other) [] (calls_in g vol h t q ys) refl
  walk (x ∷ xs) ys common share s t p q b = by (is_own x) refl (halts s x.event) refl (walk xs)
    where
      u : System vol
      u = next g vol s x.event

      us : List (Moment g vol)
      us = calls_in g vol h u (p ++ compacted_in g vol s x.event) xs

      by : (k : Bool) → is_own x ≡ k → (l : Bool) → halts s x.event ≡ l → Walked xs → Goal s t p q (x ∷ xs) ys
      by true k l m rest a = to_call x xs rest k ys common share s t p q b a
      by false k true m rest a = rw k (silent_first g vol (shared names one other) us (calls_in g vol h t q ys) (stops_here g vol h names Ok laws one s x xs b.first p m) (rw k at a))
      by false k false m rest a = rw k (rest ys common share u t (p ++ compacted_in g vol s x.event) q (first_alone g vol Ok laws h names one other common share s t p q x xs ys b m (not_own s x k)) (rw k at a))

module _ (g : Geometry) (vol : Volume) (Ok : System vol → Type 0) (laws : Laws g vol Ok) where
  -- THE THEOREM
  pub isolated : (s : System vol) → Ok s → NoOwners g vol s → (h : ℕ) → Isolated g vol h s
  isolated s ok none h xs ys x y = walk g vol Ok laws h (named_in g vol h xs) (changed_in g vol h s xs) (changed_in g vol h s ys) xs ys [] (share_of g vol h s) s s [] []
      (record {
        first = record { ok = ok; dutiful = x.dutiful; may_stand = x.may_stand; unchanged = λ z k. k; owned = none_owned (named_in g vol h xs) };
        second = record { ok = ok; dutiful = y.dutiful; may_stand = y.may_stand; unchanged = λ z k. k; owned = none_owned (named_in g vol h xs) };
        first_since = record { more = []; past_is = refl; shares_are = λ j d k. refl };
        second_since = record { more = []; past_is = refl; shares_are = λ j d k. refl };
        zones = λ z k m n. record { generation = refl; condition = refl; owner = refl; content = refl };
        named = λ z k. k;
      })
    where
      none_owned : (names : ℕ → Bool) (z : ℕ) → z < g.zones → is_owner h ((vol.view s.state).owner z) ≡ true → names z ≡ true
      none_owned names z k o = not_both (is_owner h ((vol.view s.state).owner z)) o (ap (is_owner h) (none z k))

  -- ==== of every history
  -- before an event at the end of a list
  before_last : (before : List (Event vol)) (e : Event vol) (s : System vol) → Ok s → Dutiful g vol s (before ++ (e ∷ [])) → Ok (after_all g vol s before) × Duty g vol (after_all g vol s before) e
  before_last [] e s ok d = (ok, d.0)
  before_last (b ∷ before) e s ok d = before_last before e (next g vol s b) (laws.kept s b ok d.0) d.1

  -- from a finished format on, and from each finished mount on: these leave every zone to nobody
  pub isolated_from : (s0 : System vol) → Ok s0 → NoOwners g vol s0
      → ((s : System vol) (by : vol.Names) (count : ℕ) → Ok s → Duty g vol s (calls mounts by count) → heard s (calls mounts by count) ≡ answered Finished → NoOwners g vol (next g vol s (calls mounts by count)))
      → IsolatedFrom g vol s0
  isolated_from s0 ok none mounted = record {
    from_format = isolated s0 ok none;
    from_mount = λ before by count d e.
        let (o, k) = before_last before (calls mounts by count) s0 ok d in
        let s = after_all g vol s0 before in
        isolated (next g vol s (calls mounts by count)) (laws.kept s (calls mounts by count) o k) (mounted s by count o k e);
  }
