-- Any drive may go after a mount, on drives that cache resets (meaning/Caches): of the rules' calls, and of the code's on the tables. Both stand for a device with caches.
use Rattle.std.specs.Prelude.{◌≡◌, refl, Bool, true, false, ℕ, List, length, take, ltb}
use Rattle.std.proofs.Common.{sym, ap, ◌∙◌, subst, arith, take_all, ltb-false}
use Rattle.tables.specs.meaning.Basics.{pick}
use Rattle.tables.specs.meaning.Device.{Device, Store, apply_all}
use Rattle.tables.specs.meaning.Cached.{Caching, apply_all_caching}
use Rattle.tables.specs.laws.Cached.{now_is}
use Rattle.tables.specs.declared.Geometry.{Geometry}
use Rattle.tables.specs.meaning.Geometry.{Valid}
use Rattle.tables.specs.laws.GeometryTest.{valid_if_test}
use Rattle.tables.specs.meaning.Drives.{present_but}
use Rattle.tables.specs.laws.Drives.{present_not}
use Rattle.tables.specs.laws.PointerOrder.{loss_none}
use Rattle.tables.specs.meaning.Tables.{device_of}
use Rattle.volume.specs.declared.Answer.TheVariants.{Finished, Unfinished}
use Rattle.volume.specs.meaning.State.{StateView}
use Rattle.volume.specs.meaning.Rules.{showing}
use Rattle.volume.specs.meaning.Roles.{by_roles}
use Rattle.volume.specs.meaning.Mount.{mount_stores}
use Rattle.volume.specs.meaning.Refusals.{Verdict, refuse, accept, TableLengths, first_refusal}
use Rattle.volume.specs.meaning.Answers.{CallResult, StoringCall, storing, carried_out, present_in, lost_drive_in}
use Rattle.volume.specs.meaning.CallContracts.{view_state, is_set, lengths_of}
use Rattle.promise.specs.meaning.Claim.{Volume, mounts, formats, System, NamesAll, start}
use Rattle.promise.specs.meaning.OnDevice.{call_of, on_device, shown_by, state_shown}
use Rattle.promise.specs.meaning.OnTables.{on_tables}
use Rattle.promise.specs.meaning.Caches.{Remembered, WithCaches, Caches, CachesLoss, made_by, made_stores, remembered_after, beneath, device_caches, on_caching_device}
use Rattle.promise.specs.meaning.CachesOnTables.{tables_caches, on_caching_tables}
use Rattle.promise.specs.meaning.AnyDrive.{NoneStored, AnyDriveClaim}
use Rattle.promise.proofs.emptying.RestShows.{none_lost_lem}
use Rattle.promise.proofs.device.AcceptedCalls.{storing_finished}
use Rattle.promise.proofs.device.ClaimEvents.{drives_of_look, lost_of_look}
use Rattle.promise.proofs.device.CachedPromise.{names_beneath}
use Rattle.promise.proofs.device.CachedEvents.{OkOn, HoldsOn, holds_next, holds_promise, caching_of, ok_beneath, caching_start}
use Rattle.promise.proofs.device.CachedClaim.{caches_owed}
use Rattle.promise.proofs.tables.CallRefines.{held_agrees}
use Rattle.promise.proofs.tables.CallsSeen.{seen_as, answer_seen, call_seen}
use Rattle.promise.proofs.tables.CachedTables.{caching_cut_refines, view_cached, TablesOkCached}
use Rattle.promise.proofs.tables.CachedTablesClaim.{tables_event_cached, tables_promise_cached, tables_start_cached}
use Rattle.promise.proofs.shown.MountSettles.{Settled, mount_settles}
use Rattle.promise.proofs.shown.AnyDrive.{StandsFor, any_drive_from}

-- a drive may be lost with its memory and its cache as they were
pub caches_stay : (vol : Volume) (k : Caches vol) (x : ℕ) (m : WithCaches vol.Memory) → vol.LossTo x m.memory m.memory → CachesLoss vol k x m m
caches_stay vol k x m h = record { left = h; same = λ d z n. refl }

-- ---- what a call leaves of a device with caches (v; was: what is remembered)
module _ (c : StoringCall) (old : StateView) (stop : ℕ) (v : Device) (was : Remembered) where
  abbrev leaves : Caching
  leaves = record { now = (carried_out c old stop v).memory; was = remembered_after (made_stores c stop) v was }

  -- finished, all of its stores
  finished_leaves : (carried_out c old stop v).answer ≡ Finished → leaves ≡ apply_all_caching c.stores (record { now = v; was = was })
  finished_leaves e =
      let xs = c.stores in
      let (p, q) = storing_finished (first_refusal c.refusals) xs c.state old stop v e in
      let a : (carried_out c old stop v).memory ≡ apply_all xs v = rw (p, q) refl in
      let b : made_stores c stop ≡ xs = ap (λ (r : Verdict). made_by r xs stop) p ∙ take_all stop xs (ltb-false stop (length xs) q) in
      let n : (apply_all_caching xs (record { now = v; was = was })).now ≡ apply_all xs v = now_is xs (record { now = v; was = was }) in
      λ i. record { now = (a ∙ sym n) i; was = remembered_after (b i) v was }

  -- where none was made, all as it was
  none_leaves : NoneStored (carried_out c old stop v).answer stop → leaves ≡ record { now = v; was = was }
  none_leaves = go (first_refusal c.refusals)
    where
      xs : List Store
      xs = c.stores

      result : Bool → CallResult Device StateView
      result b = pick b (record { answer = Unfinished; memory = apply_all (take stop xs) v; state = old }) (record { answer = Finished; memory = apply_all xs v; state = c.state })

      by_count : (b : Bool) → NoneStored (result b).answer stop → ◌≡◌ {A = Caching} (record { now = (result b).memory; was = remembered_after (take stop xs) v was }) (record { now = v; was = was })
      by_count true e = rw e refl
      by_count false e = absurd e

      go : (r : Verdict) → NoneStored (storing r xs c.state old stop v).answer stop → ◌≡◌ {A = Caching} (record { now = (storing r xs c.state old stop v).memory; was = remembered_after (made_by r xs stop) v was }) (record { now = v; was = was })
      go (refuse n) h = refl
      go accept h = by_count (ltb stop (length xs)) h

-- ---- the rules' calls
module _ (g : Geometry) (valid : Valid g) (t : TableLengths) (s : System (on_caching_device g t)) (o : OkOn g t s) (named : ℕ → Bool) (names : NamesAll g (on_caching_device g t) s named) where
  abbrev under : System (on_device g t)
  under = beneath (on_device g t) (device_caches g t) s

  abbrev v : Device
  v = s.memory.memory

  drives : present_in g named v ≡ present_but g s.lost
  drives = drives_of_look g valid t under (ok_beneath g t s o) named (names_beneath g (on_device g t) (device_caches g t) s named names)

  lost : lost_drive_in g named v ≡ s.lost
  lost = lost_of_look g valid t under (ok_beneath g t s o) named (names_beneath g (on_device g t) (device_caches g t) s named names)

  device_shows : shown_by g named v v ≡ showing g (present_but g s.lost) s.lost (by_roles g v)
  device_shows = rw (drives, lost) refl

  device_mounted : (stop : ℕ) → let r = (on_caching_device g t).call mounts named s.state stop s.memory in r.answer ≡ Finished → Settled g s.lost (caching_of r.memory)
  device_mounted stop e =
      let c = call_of g t mounts named s.state v in
      let stores : c.stores ≡ mount_stores g (present_but g s.lost) s.lost v = rw (drives, lost) refl in
      subst (Settled g s.lost) (sym (finished_leaves c s.state stop v s.memory.was e ∙ ap (λ (xs : List Store). apply_all_caching xs (caching_of s.memory)) stores)) (mount_settles g s.lost v (caching_of s.memory))

device_seen : (g : Geometry) → Valid g → (t : TableLengths) → StandsFor g (on_caching_device g t) caching_of (HoldsOn g t)
device_seen g valid t = record {
  shows_is = λ s o. device_shows g valid t s o.ok;
  tells_is = λ named m. record { generations = λ z h. refl; conditions = λ z h. refl };
  mount_settled = λ s o by count d e. device_mounted g valid t s o.ok by d.0 count e;
  none_stored = λ s o c named stop d h. none_leaves (call_of g t c named s.state s.memory.memory) s.state stop s.memory.memory s.memory.was h;
  cut_is = λ s o m d. (d.left, λ e y a. d.forgotten e y (present_not g s.lost e a));
}

pub any_drive_on_caching_device : (g : Geometry) (t : TableLengths) → AnyDriveClaim g (on_caching_device g t)
any_drive_on_caching_device g t named array old stop m small e =
    let (wb, lf, o) = caching_start g t named array old stop m small e in
    let valid = valid_if_test g wb in
    any_drive_from g valid (on_caching_device g t) caching_of (HoldsOn g t) (holds_promise g valid t wb lf) (holds_next g valid t (caches_owed g valid))
    (λ s k x. caches_stay (on_device g t) (device_caches g t) x s.memory (none_lost_lem x s.memory.memory)) (device_seen g valid t)
    (start g (on_caching_device g t) named ((on_caching_device g t).call (formats array) named old stop m)) o

-- ---- the code's calls on the tables
pub tables_seen : (g : Geometry) → Valid g → StandsFor g (on_caching_tables g) (seen_as g) (TablesOkCached g)
tables_seen g valid = record {
  shows_is = λ s o named n. device_shows g valid (lengths_of s.memory.memory) (view_cached g s) o.holds (is_set named) (record { drives = n.drives });
  tells_is = λ named m. let e = held_agrees g g.zones (state_shown g (is_set named) (device_of g m.memory) (device_of g m.memory)) (omega arith) in record { generations = λ z h. sym (e.generation_same z h); conditions = λ z h. sym (e.condition_same_lem z h) };
  mount_settled = λ s o by count d e. rw (call_seen g valid s o mounts by count d.0)
      (device_mounted g valid (lengths_of s.memory.memory) (view_cached g s) o.holds (is_set by) (record { drives = d.0.drives }) count (sym (answer_seen g valid s o mounts by count d.0) ∙ e));
  none_stored = λ s o c named stop d h. call_seen g valid s o c named stop d.0
      ∙ none_leaves (call_of g (lengths_of s.memory.memory) c (is_set named) (view_state s.state) (device_of g s.memory.memory)) (view_state s.state) stop (device_of g s.memory.memory) s.memory.was (rw (answer_seen g valid s o c named stop d.0) at h);
  cut_is = λ s o m d. (caching_cut_refines g s.lost s.memory.memory s.memory.was m.memory d.left, λ e y a. d.forgotten e y (present_not g s.lost e a));
}

pub any_drive_on_caching_tables : (g : Geometry) → AnyDriveClaim g (on_caching_tables g)
any_drive_on_caching_tables g named array old stop m small e =
    let (wb, o) = tables_start_cached g named array old stop m small e in
    let valid = valid_if_test g wb in
    any_drive_from g valid (on_caching_tables g) (seen_as g) (TablesOkCached g) (tables_promise_cached g valid wb) (tables_event_cached g valid wb (caches_owed g valid))
    (λ s k x. caches_stay (on_tables g) (tables_caches g) x s.memory (loss_none g x s.memory.memory)) (tables_seen g valid)
    (start g (on_caching_tables g) named ((on_caching_tables g).call (formats array) named old stop m)) o
