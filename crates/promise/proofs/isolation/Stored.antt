-- AFTER A FINISHED WRITE OR RESET OF THE DESK'S OWN, made in two runs that agree on all that it can feel: each zone that was the same is the same, the desk owns no zone that
-- it does not name, and its shares are the same.
use Rattle.std.specs.Prelude.{◌≡◌, refl, ◌⊎◌, Bool, true, false, ℕ, suc, ◌+◌, ◌-◌, ◌<◌, eqb}
use Rattle.std.proofs.Common.{sym, ap, ap₂, ◌∙◌, subst, inl, inr, eqb-true}
use Rattle.tables.specs.meaning.Basics.{pick}
use Rattle.tables.specs.laws.Basics.{not_both}
use Rattle.tables.specs.meaning.Drives.{present_but}
use Rattle.tables.specs.declared.Geometry.{Geometry}
use Rattle.volume.specs.declared.Answer.{Answer}
use Rattle.volume.specs.declared.Answer.TheVariants.{Finished, Unfinished, Refused, BadLog}
use Rattle.volume.specs.declared.Condition.{Condition}
use Rattle.volume.specs.declared.Condition.TheVariants.{Open}
use Rattle.volume.specs.declared.Owner.{Owner}
use Rattle.volume.specs.declared.Owner.TheVariants.{Nobody}
use Rattle.volume.specs.meaning.State.{hosts, share_at, is_owner, owner_of, pointer_in, set_at}
use Rattle.volume.specs.meaning.Content.{parity_drive_at}
use Rattle.volume.specs.meaning.Calls.{empty_condition}
use Rattle.volume.specs.meaning.Hosts.{entry_taken}
use Rattle.volume.specs.meaning.Refusals.{WriteAsked, zone_asked}
use Rattle.promise.specs.meaning.Claim.{Call, mounts, writes, flushes, resets, formats, compacts, Volume, System, Event, calls, looks, reads, peeks, reports, cuts, loses, ready, next, answered, heard, NamesAll, Duty}
use Rattle.promise.specs.meaning.Isolation.{Asked, to_store, to_look, to_read, to_peek, to_report, nothing, asked_by, MayStand, has_finished, finishes, compacted_in, SameZone}
use Rattle.promise.proofs.isolation.Laws.{Laws}
use Rattle.promise.proofs.isolation.Shares.{share_same}
use Rattle.promise.proofs.isolation.Alone.{and_false, NoStore, idle, share_of, none_emptied}
use Rattle.promise.proofs.isolation.Together.{zone_stored, Felt, NamesOnly, as_call, hears_same}

-- shares that are the same, with the same taken off at one place
taken_same : (a b : ℕ → ℕ) (n h e taken : ℕ) → ((d : ℕ) → d < n → a (share_at d h) ≡ b (share_at d h)) → (d : ℕ) → d < n
    → set_at a (share_at e h) (a (share_at e h) - taken) (share_at d h) ≡ set_at b (share_at e h) (b (share_at e h) - taken) (share_at d h)
taken_same a b n h e taken same d k = by (eqb (share_at d h) (share_at e h)) refl
  where
    by : (q : Bool) → eqb (share_at d h) (share_at e h) ≡ q → pick q (a (share_at e h) - taken) (a (share_at d h)) ≡ pick q (b (share_at e h) - taken) (b (share_at d h))
    by true p = ap (λ (i : ℕ). i - taken) (same e (subst (λ (i : ℕ). i < n) (share_same d e h p) k))
    by false p = same d k

-- the share at i after a write of k sectors by host h to zone z (x: the lost drive; c: the zone's condition; share: before)
abbrev left_after : Geometry → ℕ → ℕ → ℕ → ℕ → Condition → (ℕ → ℕ) → ℕ → ℕ
left_after g z k i x c share h =
    let end = pointer_in c + k in
    let at = share_at (parity_drive_at g z end) h in
    set_at share at (share at - entry_taken g (present_but g x) z end) i

module _ (g : Geometry) (vol : Volume) (h : ℕ) (names : ℕ → Bool) where
  -- the desk owns only zones that it names
  abbrev pub Owned : System vol → Type 0
  Owned s = (z : ℕ) → z < g.zones → is_owner h ((vol.view s.state).owner z) ≡ true → names z ≡ true

  pub record StoredAlike (s t : System vol) (e f : Event vol) : Type 0 where
    pub zones : (z : ℕ) → z < g.zones → SameZone g vol s t z → SameZone g vol (next g vol s e) (next g vol t f) z
    pub first_owned : Owned s → Owned (next g vol s e)
    pub second_owned : Owned t → Owned (next g vol t f)
    pub shares : h < hosts → (d : ℕ) → d < g.drives → share_of g vol h (next g vol s e) d ≡ share_of g vol h (next g vol t f) d
    pub emptied : compacted_in g vol s e ≡ compacted_in g vol t f

  -- where one zone's owner is anew
  owned_after : (s u : System vol) (y : ℕ) (o : Owner) → names y ≡ true → ((z : ℕ) → z < g.zones → (vol.view u.state).owner z ≡ set_at (vol.view s.state).owner y o z) → Owned s → Owned u
  owned_after s u y o named new owned z k q = by (eqb z y) refl (ap (is_owner h) (sym (new z k)) ∙ q)
    where
      by : (b : Bool) → eqb z y ≡ b → is_owner h (pick b o ((vol.view s.state).owner z)) ≡ true → names z ≡ true
      by true e q = rw (eqb-true z y e) named
      by false e q = owned z k q

  module _ (Ok : System vol → Type 0) (laws : Laws g vol Ok) (s t : System vol) (s_ok : Ok s) (t_ok : Ok t) (felt : Felt g vol h names s t) (m n : vol.Names) (s_names : NamesAll g vol s m) (t_names : NamesAll g vol t n)
      (s_ready : s.mode ≡ ready) (t_ready : t.mode ≡ ready) (stop : ℕ) where
    pub write_alike : (w : WriteAsked) → w.host ≡ h → names (zone_asked g w) ≡ true → (vol.call (writes w) m s.state stop s.memory).answer ≡ Finished → (vol.call (writes w) n t.state stop t.memory).answer ≡ Finished
        → StoredAlike s t (calls (writes w) m stop) (calls (writes w) n stop)
    write_alike w own named e f =
        let (v, i, y) = laws.write_moves s m s_ok s_ready s_names w stop (ap answered e) in
        let (x, j, l) = laws.write_moves t n t_ok t_ready t_names w stop (ap answered f) in
        let here = felt.zones (zone_asked g w) y named in
        record {
          zones = λ z k same. record {
            generation = v.generations z k ∙ same.generation ∙ sym (x.generations z k);
            condition = v.conditions z k ∙ ap₂ (λ (a b : Condition). pick (eqb z (zone_asked g w)) (Open (pointer_in a + w.count)) b) here.condition same.condition ∙ sym (x.conditions z k);
            owner = v.owners z k ∙ ap (λ (a : Owner). pick (eqb z (zone_asked g w)) (owner_of w.host) a) same.owner ∙ sym (x.owners z k);
            content = rw (e, f, same.content, here.content) refl;
          };
          first_owned = owned_after s (next g vol s (calls (writes w) m stop)) (zone_asked g w) (owner_of w.host) named v.owners;
          second_owned = owned_after t (next g vol t (calls (writes w) n stop)) (zone_asked g w) (owner_of w.host) named x.owners;
          shares = λ q d k. v.shares d h k q ∙ left q d k here ∙ sym (x.shares d h k q);
          emptied = none_emptied (finishes g vol s (calls (writes w) m stop)) ∙ sym (none_emptied (finishes g vol t (calls (writes w) n stop)));
        }
      where
        left_by_lem : ℕ → ℕ → Condition → (ℕ → ℕ) → ℕ → ℕ
        left_by_lem d = left_after g (zone_asked g w) w.count (share_at d h)

        left : h < hosts → (d : ℕ) → d < g.drives → SameZone g vol s t (zone_asked g w)
            → left_by_lem d s.lost ((vol.view s.state).condition (zone_asked g w)) (vol.view s.state).share w.host ≡ left_by_lem d t.lost ((vol.view t.state).condition (zone_asked g w)) (vol.view t.state).share w.host
        left q d k here =
            let c = (vol.view s.state).condition (zone_asked g w) in
            let end = pointer_in c + w.count in
            ap (left_by_lem d s.lost c (vol.view s.state).share) own
            ∙ taken_same (vol.view s.state).share (vol.view t.state).share g.drives h (parity_drive_at g (zone_asked g w) end) (entry_taken g (present_but g s.lost) (zone_asked g w) end) (felt.shares q) d k
            ∙ ap₂ (λ (x : ℕ) (y : Condition). left_by_lem d x y (vol.view t.state).share h) felt.lost here.condition
            ∙ ap (left_by_lem d t.lost ((vol.view t.state).condition (zone_asked g w)) (vol.view t.state).share) (sym own)

    pub reset_alike : (y : ℕ) → names y ≡ true → (vol.call (resets y) m s.state stop s.memory).answer ≡ Finished → (vol.call (resets y) n t.state stop t.memory).answer ≡ Finished
        → StoredAlike s t (calls (resets y) m stop) (calls (resets y) n stop)
    reset_alike y named e f =
        let (v, i) = laws.reset_moves s m s_ok s_ready s_names y stop (ap answered e) in
        let (x, j) = laws.reset_moves t n t_ok t_ready t_names y stop (ap answered f) in
        let here = felt.zones y i named in
        record {
          zones = λ z k same. record {
            generation = v.generations z k ∙ ap₂ (λ (a b : ℕ). pick (eqb z y) (suc a) b) here.generation same.generation ∙ sym (x.generations z k);
            condition = v.conditions z k ∙ ap₂ (λ (a : ℕ) (b : Condition). pick (eqb z y) (empty_condition (suc a)) b) here.generation same.condition ∙ sym (x.conditions z k);
            owner = v.owners z k ∙ ap (λ (a : Owner). pick (eqb z y) Nobody a) same.owner ∙ sym (x.owners z k);
            content = rw (e, f, same.content) refl;
          };
          first_owned = owned_after s (next g vol s (calls (resets y) m stop)) y Nobody named v.owners;
          second_owned = owned_after t (next g vol t (calls (resets y) n stop)) y Nobody named x.owners;
          shares = λ q d k. v.shares d h k q ∙ felt.shares q d k ∙ sym (x.shares d h k q);
          emptied = none_emptied (finishes g vol s (calls (resets y) m stop)) ∙ sym (none_emptied (finishes g vol t (calls (resets y) n stop)));
        }

-- ==== a call of the desk's own, in both runs: it stores in both, and alike, or in neither
abbrev asks_store : {L : Type 0} → Asked L → Bool
asks_store (to_store c stop) = true
asks_store to_look = false
asks_store (to_read a count out) = false
asks_store (to_peek a) = false
asks_store (to_report list) = false
asks_store nothing = false

asked_idle : (g : Geometry) (vol : Volume) (s : System vol) (e : Event vol) → asks_store (asked_by e) ≡ false → NoStore g vol s e
asked_idle g vol s e q = idle g vol s e (λ c m stop p. not_both (asks_store (asked_by e)) (ap (λ (f : Event vol). asks_store (asked_by f)) p) q)

finished_is : (a : Answer) → has_finished a ≡ true → a ≡ Finished
finished_is Finished q = refl
finished_is Unfinished q = cc
finished_is (Refused n) q = cc
finished_is (BadLog b) q = cc

module _ (g : Geometry) (vol : Volume) (h : ℕ) (names : ℕ → Bool) (Ok : System vol → Type 0) (laws : Laws g vol Ok) (s t : System vol) (s_ok : Ok s) (t_ok : Ok t) (felt : Felt g vol h names s t) where
  abbrev Either : Event vol → Event vol → Type 0
  Either e f = StoredAlike g vol h names s t e f ⊎ (NoStore g vol s e × NoStore g vol t f)

  -- a call that is answered alike
  by_answer : (c : Call) (m n : vol.Names) (stop : ℕ) → heard s (calls c m stop) ≡ heard t (calls c n stop)
      → ((vol.call c m s.state stop s.memory).answer ≡ Finished → (vol.call c n t.state stop t.memory).answer ≡ Finished → StoredAlike g vol h names s t (calls c m stop) (calls c n stop))
      → Either (calls c m stop) (calls c n stop)
  by_answer c m n stop same stored = by (finishes g vol s (calls c m stop)) refl
    where
      answers : (vol.call c m s.state stop s.memory).answer ≡ (vol.call c n t.state stop t.memory).answer
      answers = cc

      by : (b : Bool) → finishes g vol s (calls c m stop) ≡ b → Either (calls c m stop) (calls c n stop)
      by true q = let e = finished_is (vol.call c m s.state stop s.memory).answer q in inl (stored e (sym answers ∙ e))
      by false q = inr ((λ z. rw q refl), (λ z. rw (sym (ap has_finished answers) ∙ q) refl))

  -- a call that stores to no zone
  plain : (c : Call) (m : vol.Names) (stop : ℕ) (f : Event vol) → to_store c stop ≡ asked_by f → ((i : System vol) (n : vol.Names) → NoStore g vol i (calls c n stop)) → Either (calls c m stop) f
  plain c m stop f a none = let (n, e) = as_call vol c stop f a in inr (none s m, subst (NoStore g vol t) (sym e) (none t n))

  pub own_call : (e f : Event vol) → asked_by e ≡ asked_by f → Duty g vol s e → Duty g vol t f → MayStand h e → NamesOnly g vol h names e → Either e f
  own_call (calls mounts m stop) f a d c k n = absurd k
  own_call (calls (writes w) m stop) f a d c k n =
      let (l, e) = as_call vol (writes w) stop f a in
      let j : Duty g vol t (calls (writes w) l stop) = rw e at c in
      let same = hears_same g vol h names Ok laws s t s_ok t_ok felt (calls (writes w) m stop) (calls (writes w) l stop) refl d j k n refl in
      subst (Either (calls (writes w) m stop)) (sym e)
      (by_answer (writes w) m l stop same (write_alike g vol h names Ok laws s t s_ok t_ok felt m l d.0 j.0 d.1 j.1 stop w k (n (zone_asked g w) (zone_stored (zone_asked g w)))))
  own_call (calls flushes m stop) f a d c k n = plain flushes m stop f a (λ i l z. and_false (finishes g vol i (calls flushes l stop)))
  own_call (calls (resets y) m stop) f a d c k n =
      let (l, e) = as_call vol (resets y) stop f a in
      let j : Duty g vol t (calls (resets y) l stop) = rw e at c in
      let same = hears_same g vol h names Ok laws s t s_ok t_ok felt (calls (resets y) m stop) (calls (resets y) l stop) refl d j k n refl in
      subst (Either (calls (resets y) m stop)) (sym e)
      (by_answer (resets y) m l stop same (reset_alike g vol h names Ok laws s t s_ok t_ok felt m l d.0 j.0 d.1 j.1 stop y (n y (zone_stored y))))
  own_call (calls (formats array) m stop) f a d c k n = absurd k
  own_call (calls (compacts x) m stop) f a d c k n = plain (compacts x) m stop f a (λ i l z. and_false (finishes g vol i (calls (compacts x) l stop)))
  own_call (looks m) f a d c k n = inr (asked_idle g vol s (looks m) refl, asked_idle g vol t f (ap asks_store (sym a)))
  own_call (reads m b count out) f a d c k n = inr (asked_idle g vol s (reads m b count out) refl, asked_idle g vol t f (ap asks_store (sym a)))
  own_call (peeks m b) f a d c k n = inr (asked_idle g vol s (peeks m b) refl, asked_idle g vol t f (ap asks_store (sym a)))
  own_call (reports list) f a d c k n = inr (asked_idle g vol s (reports list) refl, asked_idle g vol t f (ap asks_store (sym a)))
  own_call (cuts m) f a d c k n = absurd k
  own_call (loses x m) f a d c k n = inr (asked_idle g vol s (loses x m) refl, asked_idle g vol t f (ap asks_store (sym a)))
