-- ONE RUN, as far as a desk can feel it: where it has come, and a step on that the desk does not make, or by which it stores nothing. After a call that stops no call comes.
use Rattle.std.specs.Prelude.{◌≡◌, refl, Bool, true, false, ◌&&◌, not, ℕ, ◌<◌, List, [], ◌∷◌, ◌++◌, eqb}
use Rattle.std.proofs.Common.{sym, ap, ◌∙◌, subst, arith, append_assoc}
use Rattle.tables.specs.laws.Basics.{not_both, or_none}
use Rattle.tables.specs.declared.Geometry.{Geometry}
use Rattle.volume.specs.meaning.State.{hosts}
use Rattle.promise.specs.meaning.Claim.{mounts, writes, flushes, resets, formats, compacts, Volume, System, Event, calls, looks, reads, peeks, reports, cuts, loses, Mode, ready, stopped, MayMount, next, Duty, Dutiful}
use Rattle.promise.specs.meaning.Isolation.{Step, is_call, MayStand, stores_to, Compacted, finishes, changed_in, compacted_in, calls_in, Moment, events_in, AllMayStand, SameZone, AllAgree, AllHearSame}
use Rattle.promise.proofs.isolation.Laws.{Laws}
use Rattle.promise.proofs.isolation.Shares.{renew_all, renew_append, renew_cong}
use Rattle.promise.proofs.isolation.Alone.{and_false, halts, halts_stopped, NoStore, share_of, Moved, moved}
use Rattle.promise.proofs.isolation.Stored.{Owned}

-- ==== after a call that stops
never_stopped : {A : Type 0} (m : Mode) → m ≡ stopped → m ≡ ready → A
never_stopped m e k = absurd (let z : ◌≡◌ {A = ℕ} 0 1 = cc in omega arith)

-- no call may come then
none_comes : (g : Geometry) (vol : Volume) (s : System vol) (e : Event vol) (desk : ℕ) → s.mode ≡ stopped → Duty g vol s e → MayStand desk e → is_call e ≡ false
none_comes g vol s (calls mounts m stop) desk k d y = absurd y
none_comes g vol s (calls (writes w) m stop) desk k d y = never_stopped s.mode k d.1
none_comes g vol s (calls flushes m stop) desk k d y = never_stopped s.mode k d.1
none_comes g vol s (calls (resets z) m stop) desk k d y = never_stopped s.mode k d.1
none_comes g vol s (calls (formats array) m stop) desk k d y = absurd y
none_comes g vol s (calls (compacts x) m stop) desk k d y = never_stopped s.mode k d.1
none_comes g vol s (looks m) desk k d y = absurd (subst MayMount k d.1)
none_comes g vol s (reads m a count out) desk k d y = never_stopped s.mode k d.1
none_comes g vol s (peeks m a) desk k d y = never_stopped s.mode k d.1
none_comes g vol s (reports list) desk k d y = never_stopped s.mode k d
none_comes g vol s (cuts m) desk k d y = refl
none_comes g vol s (loses x m) desk k d y = refl

-- and what is no call leaves it so
stays_stopped : (g : Geometry) (vol : Volume) (s : System vol) (e : Event vol) (desk : ℕ) → MayStand desk e → is_call e ≡ false → s.mode ≡ stopped → (next g vol s e).mode ≡ stopped
stays_stopped g vol s (calls c m stop) desk y n k = not_both true refl n
stays_stopped g vol s (looks m) desk y n k = k
stays_stopped g vol s (reads m a count out) desk y n k = k
stays_stopped g vol s (peeks m a) desk y n k = k
stays_stopped g vol s (reports list) desk y n k = k
stays_stopped g vol s (cuts m) desk y n k = absurd y
stays_stopped g vol s (loses x m) desk y n k = k

module _ (g : Geometry) (vol : Volume) where
  pub none_left : (h : ℕ) (xs : List (Step vol)) (s : System vol) (past : List Compacted) → s.mode ≡ stopped → Dutiful g vol s (events_in g vol xs) → AllMayStand g vol xs → calls_in g vol h s past xs ≡ []
  none_left h [] s past k d y = refl
  none_left h (x ∷ xs) s past k d y =
      let n = none_comes g vol s x.event x.desk k d.0 y.0 in
      rw (n, and_false (eqb x.desk h)) (none_left h xs (next g vol s x.event) (past ++ compacted_in g vol s x.event) (stays_stopped g vol s x.event x.desk y.0 n k) d.1 y.1)

  -- ==== where one of the runs has no call left
  pub silent_first : (shared : ℕ → Bool) (ps qs : List (Moment g vol)) → ps ≡ [] → AllAgree g vol shared ps qs → AllHearSame g vol ps qs
  silent_first shared [] [] e a = tt
  silent_first shared [] (q ∷ qs) e a = absurd a
  silent_first shared (p ∷ ps) qs e a = absurd (let z : ◌≡◌ {A = ℕ} 0 1 = cc in omega arith)

  pub silent_second : (shared : ℕ → Bool) (ps qs : List (Moment g vol)) → qs ≡ [] → AllAgree g vol shared ps qs → AllHearSame g vol ps qs
  silent_second shared [] [] e a = tt
  silent_second shared (p ∷ ps) [] e a = absurd a
  silent_second shared [] (q ∷ qs) e a = absurd a
  silent_second shared (p ∷ ps) (q ∷ qs) e a = absurd (let z : ◌≡◌ {A = ℕ} 0 1 = cc in omega arith)

-- ==== a place in a run (names: the zones that the desk names; changed: those that others change)
module _ (g : Geometry) (vol : Volume) (h : ℕ) (names : ℕ → Bool) (Ok : System vol → Type 0) where
  pub record Place (changed : ℕ → Bool) (s : System vol) (xs : List (Step vol)) : Type 0 where
    pub ok : Ok s
    pub dutiful : Dutiful g vol s (events_in g vol xs)
    pub may_stand : AllMayStand g vol xs
    pub unchanged : (z : ℕ) → changed z ≡ false → changed_in g vol h s xs z ≡ false
    pub owned : Owned g vol h names s

  -- the desk's shares, by the emptyings since some past (share: its shares then)
  pub record Since (common : List Compacted) (share : ℕ → ℕ) (s : System vol) (past : List Compacted) : Type 0 where
    pub more : List Compacted
    pub past_is : past ≡ common ++ more
    pub shares_are : h < hosts → (d : ℕ) → d < g.drives → share_of g vol h s d ≡ renew_all g more share d

  module _ (laws : Laws g vol Ok) (changed : ℕ → Bool) (s : System vol) (x : Step vol) (xs : List (Step vol)) (place : Place changed s (x ∷ xs)) where
    abbrev u : System vol
    u = next g vol s x.event

    -- no call is left where this one stops
    pub stops_here : (past : List Compacted) → halts s x.event ≡ true → calls_in g vol h u (past ++ compacted_in g vol s x.event) xs ≡ []
    stops_here past k = none_left g vol h xs u (past ++ compacted_in g vol s x.event) (halts_stopped g vol s x.event k) place.dutiful.1 place.may_stand.1

    pub next_place : Owned g vol h names u → Place changed u xs
    next_place o = record {
      ok = laws.kept s x.event place.ok place.dutiful.0;
      dutiful = place.dutiful.1;
      may_stand = place.may_stand.1;
      unchanged = λ z k. (or_none (not (eqb x.desk h) && (finishes g vol s x.event && stores_to g x.event z)) (changed_in g vol h u xs z) (place.unchanged z k)).1;
      owned = o;
    }

    -- ---- a step that stores nothing for the desk
    module _ (goes : halts s x.event ≡ false) (own : eqb x.desk h ≡ true → NoStore g vol s x.event) where
      step : Moved g vol h s u (λ z. finishes g vol s x.event && stores_to g x.event z) (compacted_in g vol s x.event)
      step = moved g vol h Ok laws s place.ok x.desk x.event place.dutiful.0 place.may_stand.0 goes own

      pub passed_place : Place changed u xs
      passed_place = next_place (λ z k o. place.owned z k (step.owners z k o))

      pub passed_zones : (z : ℕ) → z < g.zones → changed z ≡ false → SameZone g vol u s z
      passed_zones z k c = step.zones z k (by (eqb x.desk h) refl (or_none (not (eqb x.desk h) && (finishes g vol s x.event && stores_to g x.event z)) (changed_in g vol h u xs z) (place.unchanged z c)).0)
        where
          by : (b : Bool) → eqb x.desk h ≡ b → not b && (finishes g vol s x.event && stores_to g x.event z) ≡ false → finishes g vol s x.event && stores_to g x.event z ≡ false
          by true e q = own e z
          by false e q = q

      pub passed_since : (common : List Compacted) (share : ℕ → ℕ) (past : List Compacted) → Since common share s past → Since common share u (past ++ compacted_in g vol s x.event)
      passed_since common share past since = record {
        more = since.more ++ compacted_in g vol s x.event;
        past_is = ap (λ (cs : List Compacted). cs ++ compacted_in g vol s x.event) since.past_is ∙ append_assoc common since.more (compacted_in g vol s x.event);
        shares_are = λ j d k. step.shares j d k ∙ renew_cong g (compacted_in g vol s x.event) (share_of g vol h s) (renew_all g since.more share) g.drives (since.shares_are j) d k
            ∙ sym (renew_append g since.more (compacted_in g vol s x.event) share d);
      }
