-- Any drive may go after a mount (meaning/AnyDrive), of a volume that stands for a device with caches. At the mount's end it follows from what is promised: the loss of a
-- drive that keeps its memory is an event; before it and after it the ledger is the same, and so is what the host holds. The mount has put into the ledger all that it
-- shows, so what a look shows is that; and between finished calls what it tells is what the host holds. From then on nothing that counts changes: all is durable, and
-- nothing is remembered (MountSettles), so a cut leaves it as it was.
use Rattle.std.specs.Prelude.{◌≡◌, refl, ◌⊎◌, ℕ, zero, ◌+◌, ◌<◌, List, [], ◌∷◌, ◌++◌}
use Rattle.std.proofs.Common.{sym, ap, ◌∙◌, subst, inl, inr, true≢false, arith}
use Rattle.tables.specs.laws.Below.{length_tabulate_from, get_d_tabulate_from}
use Rattle.tables.specs.declared.Geometry.{Geometry}
use Rattle.tables.specs.meaning.Geometry.{Valid}
use Rattle.tables.specs.meaning.Drives.{no_drive, present_but}
use Rattle.tables.specs.meaning.Device.{Device}
use Rattle.tables.specs.meaning.Cached.{Caching, CachingCut}
use Rattle.volume.specs.declared.Answer.{Answer}
use Rattle.volume.specs.declared.Answer.TheVariants.{Finished}
use Rattle.volume.specs.meaning.State.{StateView}
use Rattle.volume.specs.meaning.Mount.{mount_state}
use Rattle.volume.specs.meaning.Rules.{Shown, showing}
use Rattle.volume.specs.meaning.Roles.{by_roles}
use Rattle.volume.specs.meaning.Answers.{CallResult}
use Rattle.promise.specs.meaning.Ledger.{Ledger, FitsZone, Fits, noted, after_mount}
use Rattle.promise.specs.meaning.Claim.{Call, mounts, Volume, ready, System, Event, calls, looks, reads, peeks, reports, cuts, loses, reply_to, mode_after, note_of, next, NamesAll, Duty, Dutiful, SameZones, Promise}
use Rattle.promise.specs.meaning.Histories.{ShowsAlike, after_all}
use Rattle.promise.specs.meaning.Emptied.{NamesBut}
use Rattle.promise.specs.meaning.AnyDrive.{NoneStored, StoresNothing, AllStoreNothing, LooksAs, AnyDriveFrom}
use Rattle.promise.proofs.invariant.Invariant.{Here}
use Rattle.promise.proofs.invariant.CrashKeeps.{present_before}
use Rattle.promise.proofs.device.CachedModes.{Forgotten}
use Rattle.promise.proofs.shown.MountSettles.{Settled, settled_cut, settled_still, shown_alike}

-- ---- what fits the ledger that a mount leaves is what it showed
mounted_shows : (g : Geometry) (k j : Shown) → Fits g (after_mount k) j → ShowsAlike g k j
mounted_shows g k j f = record { pointers = λ z h. pointer z (f z h); sectors = λ z h a b. sector z a b (f z h) }
  where
    pointer : (z : ℕ) → FitsZone (after_mount k) z (j.zone z) → (j.zone z).pointer ≡ (k.zone z).pointer
    pointer z (inl r) = omega (arith, r.least, r.most, length_tabulate_from (k.zone z).value zero (k.zone z).pointer)
    pointer z (inr (q, e)) = absurd (true≢false (sym e))

    sector : (z a : ℕ) → a < (k.zone z).pointer → FitsZone (after_mount k) z (j.zone z) → (j.zone z).value a ≡ (k.zone z).value a
    sector z a b (inl r) =
        let e : zero + a ≡ a = omega arith in
        r.values a (omega (arith, b, r.least)) ∙ get_d_tabulate_from (k.zone z).value zero (k.zone z).pointer a b ∙ ap (k.zone z).value e
    sector z a b (inr (q, e)) = absurd (true≢false (sym e))

-- ---- a volume that stands for a device with caches (device), at points where Ok holds
pub record StandsFor (g : Geometry) (vol : Volume) (device : vol.Memory → Caching) (Ok : System vol → Type 0) : Type 0 where
  -- a look shows what the drives that are not lost show there
  pub shows_is : (s : System vol) → Ok s → (named : vol.Names) → NamesAll g vol s named
      → vol.shows named s.memory s.memory ≡ showing g (present_but g s.lost) s.lost (by_roles g (device s.memory).now)
  -- and its state tells of the zones what it shows
  pub tells_is : (named : vol.Names) (m : vol.Memory) → SameZones g (vol.view (vol.state_of named m m)) (mount_state (vol.shows named m m))
  pub mount_settled : (s : System vol) → Ok s → (by : vol.Names) (count : ℕ) → Duty g vol s (calls mounts by count)
      → let r = vol.call mounts by s.state count s.memory in r.answer ≡ Finished → Settled g s.lost (device r.memory)
  pub none_stored : (s : System vol) → Ok s → (c : Call) (named : vol.Names) (stop : ℕ) → Duty g vol s (calls c named stop)
      → let r = vol.call c named s.state stop s.memory in NoneStored r.answer stop → device r.memory ≡ device s.memory
  pub cut_is : (s : System vol) → Ok s → (m : vol.Memory) → vol.CutTo s.lost s.memory m → CachingCut s.lost (device s.memory) (device m).now × Forgotten g s.lost (device m)

-- ---- what gives the promise at every point; and a drive may be lost there with its memory as it was
module _ (g : Geometry) (valid : Valid g) (vol : Volume) (device : vol.Memory → Caching) (Ok : System vol → Type 0) (gives : (s : System vol) → Ok s → Promise g vol s)
    (keeps : (s : System vol) → Ok s → (e : Event vol) → Duty g vol s e → Ok (next g vol s e)) (stays : (s : System vol) → Ok s → (x : ℕ) → vol.LossTo x s.memory s.memory) (seen : StandsFor g vol device Ok) where
  ok_from : (s : System vol) → Ok s → (es fs : List (Event vol)) → Dutiful g vol s (es ++ fs) → Ok (after_all g vol s es) × Dutiful g vol (after_all g vol s es) fs
  ok_from s o [] fs d = (o, d)
  ok_from s o (e ∷ es) fs (d, ds) = ok_from (next g vol s e) (keeps s o e d) es fs ds

  abbrev device_at : System vol → Device
  device_at s = (device s.memory).now

  -- ---- since the mount (t: the system after it) nothing on the drives has changed
  record Since (t s : System vol) : Type 0 where
    ok : Ok s
    none_lost_lem : s.lost ≡ no_drive
    settled : Settled g s.lost (device s.memory)
    same : (d y : ℕ) → Here g s.lost d → device_at s d y ≡ device_at t d y

  module _ (t : System vol) where
    event_since : (s : System vol) → Since t s → (e : Event vol) → Duty g vol s e → StoresNothing g vol s e → Since t (next g vol s e)
    event_since s h (calls c named stop) d q =
        let e = seen.none_stored s h.ok c named stop d q in
        record { ok = keeps s h.ok (calls c named stop) d; none_lost_lem = h.none_lost_lem; settled = rw e h.settled; same = λ f y a. ap (λ (v : Caching). v.now f y) e ∙ h.same f y a }
    event_since s h (looks named) d q = h
    event_since s h (reads named a count out) d q = h
    event_since s h (peeks named a) d q = h
    event_since s h (reports list) d q = h
    event_since s h (cuts m) d q =
        let (c, f) = seen.cut_is s h.ok m d in
        record {
          ok = keeps s h.ok (cuts m) d;
          none_lost_lem = h.none_lost_lem;
          settled = settled_still g s.lost (device s.memory) (device m) h.settled c f;
          same = λ e y a. settled_cut g s.lost (device s.memory) (device m).now h.settled c e y a ∙ h.same e y a;
        }
    event_since s h (loses x m) d q = absurd q

    events_since : (s : System vol) → Since t s → (es : List (Event vol)) → Dutiful g vol s es → AllStoreNothing g vol s es → Since t (after_all g vol s es)
    events_since s h [] d q = h
    events_since s h (e ∷ es) (d, ds) (q, qs) = events_since (next g vol s e) (event_since s h e d q) es ds qs

  -- ---- a drive is lost that keeps its memory, or none
  abbrev but : System vol → ℕ → System vol
  but s x = record { memory = s.memory; lost = x; mode = s.mode; state = s.state; ledger = s.ledger }

  ok_but : (s : System vol) → Ok s → s.lost ≡ no_drive → (x : ℕ) → (x ≡ no_drive) ⊎ (x < g.drives) → Ok (but s x)
  ok_but s o none x (inl e) = subst (λ (y : ℕ). Ok (but s y)) (none ∙ sym e) o
  ok_but s o none x (inr h) = keeps s o (loses x s.memory) (h, inl none, stays s o x)

  -- ---- at a point since the mount
  module _ (s : System vol) (os : Ok s) (by : vol.Names) (count : ℕ) (duty : Duty g vol s (calls mounts by count)) (none : s.lost ≡ no_drive) (done : (vol.call mounts by s.state count s.memory).answer ≡ Finished) where
    abbrev t : System vol
    t = next g vol s (calls mounts by count)

    abbrev k : Shown
    k = vol.shows by s.memory (vol.call mounts by s.state count s.memory).memory

    left : (a : Answer) → a ≡ Finished → (mode_after a s.mode ≡ ready) × (noted s.ledger (note_of g mounts k (reply_to a)) ≡ after_mount k)
    left a e = rw e (refl, refl)

    ot : Ok t
    ot = keeps s os (calls mounts by count) duty

    since_mount : Since t t
    since_mount = record { ok = ot; none_lost_lem = none; settled = seen.mount_settled s os by count duty done; same = λ d y a. refl }

    module _ (u : System vol) (h : Since t u) (x : ℕ) (one : (x ≡ no_drive) ⊎ (x < g.drives)) (some : vol.Names) (names : NamesBut g vol x some) where
      promised : (r : System vol) → Ok r → r.lost ≡ no_drive → Promise g vol (but r x)
      promised r o e = gives (but r x) (ok_but r o e x one)

      shows_at : (r : System vol) → Ok r → r.lost ≡ no_drive → vol.shows some r.memory r.memory ≡ showing g (present_but g x) x (by_roles g (device_at r))
      shows_at r o e = seen.shows_is (but r x) (ok_but r o e x one) some (record { drives = names })

      -- the look shows what it showed at the mount's end
      same_shown : vol.shows some u.memory u.memory ≡ vol.shows some t.memory t.memory
      same_shown = shows_at u h.ok h.none_lost_lem ∙ shown_alike g valid x (device_at t) (device_at u) (λ d y a. h.same d y (present_before g valid u.lost x (inl h.none_lost_lem) d a)) ∙ sym (shows_at t ot none)

      accepted_at : (r : System vol) → Ok r → r.lost ≡ no_drive → vol.look some r.state r.memory ≡ record { answer = Finished; memory = r.memory; state = vol.state_of some r.memory r.memory }
      accepted_at r o e = ((promised r o e).look_fits some (record { drives = names })).0

      told_at_lem : (r : System vol) → Ok r → r.lost ≡ no_drive → SameZones g (vol.view (vol.look some r.state r.memory).state) (mount_state (vol.shows some r.memory r.memory))
      told_at_lem r o e = subst (λ (a : vol.State). SameZones g (vol.view a) (mount_state (vol.shows some r.memory r.memory))) (sym (ap (λ (a : CallResult vol.Memory vol.State). a.state) (accepted_at r o e))) (seen.tells_is some r.memory)

      looks_as : LooksAs g vol k t.state u some
      looks_as =
          let p = promised t ot none in
          let here = told_at_lem u h.ok h.none_lost_lem in
          let there = told_at_lem t ot none in
          let held = (p.look_holds some (record { drives = names }) (left (vol.call mounts by s.state count s.memory).answer done).0).1 in
          let shown_same : mount_state (vol.shows some u.memory u.memory) ≡ mount_state (vol.shows some t.memory t.memory) = ap mount_state same_shown in
          let fits : Fits g t.ledger (vol.shows some t.memory t.memory) = (p.look_fits some (record { drives = names })).1 in
          record {
            accepted = accepted_at u h.ok h.none_lost_lem;
            zones = record {
              generations = λ z hz. here.generations z hz ∙ ap (λ (a : StateView). a.generation z) shown_same ∙ sym (there.generations z hz) ∙ held.generations z hz;
              conditions = λ z hz. here.conditions z hz ∙ ap (λ (a : StateView). a.condition z) shown_same ∙ sym (there.conditions z hz) ∙ held.conditions z hz;
            };
            shown = rw same_shown (mounted_shows g k (vol.shows some t.memory t.memory) (subst (λ (l : Ledger). Fits g l (vol.shows some t.memory t.memory)) (left (vol.call mounts by s.state count s.memory).answer done).1 fits));
          }

  -- THE STATEMENT, from any point where Ok holds
  pub any_drive_from : (s0 : System vol) → Ok s0 → AnyDriveFrom g vol s0
  any_drive_from s0 o before after by count d none done q =
      let s = after_all g vol s0 before in
      let t = next g vol s (calls mounts by count) in
      let (os, (duty, ds)) = ok_from s0 o before (calls mounts by count ∷ after) d in
      looks_as s os by count duty none done (after_all g vol t after) (events_since t t (since_mount s os by count duty none done) after ds q)
