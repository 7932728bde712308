-- THE PROMISE ON THE TABLES, on drives that cache resets, holds: every event keeps on the tables what it keeps on the device (CachedEvents).
use Rattle.std.specs.Prelude.{◌≡◌, refl, ◌≢◌, ◌⊎◌, Bool, true, false, ℕ, ◌≤◌, ◌<◌, ◌^◌, length, get_or, take, ltb}
use Rattle.std.proofs.Common.{sym, ap, ap₂, ◌∙◌, subst, inl, inr, arith, take_all, ltb-false}
use mathlib.Core.List.{List, Memᴰ}
use Rattle.tables.specs.meaning.Device.{ZoneView, Device, Store, apply_all}
use Rattle.tables.specs.meaning.Cached.{Caching, apply_all_caching}
use Rattle.tables.specs.laws.Cached.{now_is}
use Rattle.tables.specs.meaning.Tables.{Tables, cell, run_stores, device_of}
use Rattle.tables.specs.laws.TablesRefine.{run_refines, loss_refines}
use Rattle.tables.specs.laws.Made.{WellSized}
use Rattle.tables.specs.laws.TablesFrame.{lengths_sized}
use Rattle.tables.specs.laws.PointerOrder.{InOrder}
use Rattle.tables.specs.meaning.Drives.{present_but}
use Rattle.tables.specs.declared.Geometry.{Geometry}
use Rattle.tables.specs.meaning.Geometry.{Valid, physical_zones}
use Rattle.tables.specs.meaning.GeometryTest.{is_valid}
use Rattle.tables.specs.laws.GeometryTest.{valid_if_test}
use Rattle.volume.specs.declared.State.{State}
use Rattle.volume.specs.declared.Answer.TheVariants.{Finished}
use Rattle.volume.specs.meaning.State.{StateView, with_shares}
use Rattle.volume.specs.meaning.Calls.{format_stores, format_state}
use Rattle.volume.specs.meaning.Hosts.{fresh_shares}
use Rattle.volume.specs.meaning.Refusals.{accept}
use Rattle.volume.specs.meaning.Answers.{left_out, named_drives}
use Rattle.volume.specs.meaning.CallContracts.{view_state, is_set, lengths_of, format_verdict, format_on, state_held}
use Rattle.volume.specs.laws.CallStoresFit.{format_stores_fit}
use Rattle.promise.specs.meaning.Ledger.{fresh_ledger, noted}
use Rattle.promise.specs.meaning.Claim.{Call, formats, System, Event, calls, looks, reads, peeks, reports, cuts, loses, next, mode_after, note_of, reply_to, Duty, Promise, ready, start}
use Rattle.promise.specs.meaning.OnDevice.{on_device, shown_by}
use Rattle.promise.specs.meaning.OnTables.{result_on, on_tables, TablesClaim}
use Rattle.promise.specs.meaning.Caches.{WithCaches, remembered_after, on_caching_device, beneath}
use Rattle.promise.specs.meaning.CachesOnTables.{ZoneKept, ZoneBack, TablesCachingCut, made_on, tables_caches, on_caching_tables, CachingTablesClaim}
use Rattle.promise.proofs.invariant.Throughout.{throughout}
use Rattle.promise.proofs.device.AtRestAnswers.{left_out_lem, drives_named}
use Rattle.promise.proofs.device.CachedModes.{RestsCached, OkCached, read_cached}
use Rattle.promise.proofs.device.CachedOwed.{format_rests_cached}
use Rattle.promise.proofs.device.CachedPromise.{names_beneath, cached_promise}
use Rattle.promise.specs.meaning.ResetLasts.{ResetsLast}
use Rattle.promise.proofs.shown.ResetLasts.{resets_last}
use Rattle.promise.proofs.device.CachedEvents.{CachesOwed, OkOn, event_keeps_cached}
use Rattle.promise.proofs.device.CachedClaim.{caches_owed}
use Rattle.promise.proofs.device.OlderDrives.{OlderCuts, older_drives}
use Rattle.promise.proofs.tables.CallRefines.{held_agrees, Agrees, view_result, answer_finished}
use Rattle.promise.proofs.tables.MountRefines.{call_refines}
use Rattle.promise.proofs.tables.TablesEvents.{Refines, call_agrees, made_same}
use Rattle.promise.proofs.tables.TablesClaimProof.{FormatPassed, format_passed, format_numbered_on, tables_promise, tables_event, tables_start}
use Rattle.promise.proofs.tables.CachedTables.{caching_cut_refines, agrees_cached, view_cached, TablesOkCached}

-- ---- the pointers after a cut
cut_ordered : (g : Geometry) (x : ℕ) (t : Tables) (was : ℕ → ℕ → List ZoneView) (u : Tables) → TablesCachingCut g x t was u → (d : ℕ) → d < g.drives → d ≢ x → InOrder g d t.written t.durable → InOrder g d u.written u.durable
cut_ordered g x t was u c d hd n o = record { written_most = λ z hz. go z hz (c.zones d z hd hz n); durable_most = λ z hz. omega (arith, c.durable_is d z hd hz n) }
  where
    go : (z : ℕ) → (hz : z < physical_zones g) → ZoneKept g t u d z ⊎ ((o : ZoneView) × Memᴰ o (was d z) × ZoneBack g o u d z) → get_or u.written (cell g d z) 0 ≤ g.capacity
    go z hz (inl k) = omega (arith, k.most, o.written_most z hz)
    go z hz (inr (v, m, k)) = k.fits

module _ (g : Geometry) (ok : Valid g) (wb : is_valid g ≡ true) (owed : CachesOwed g) (s : System (on_caching_tables g)) (o : TablesOkCached g s) where
  abbrev t : Tables
  t = s.memory.memory

  abbrev s0 : System (on_tables g)
  s0 = beneath (on_tables g) (tables_caches g) s

  device_keeps : (e : Event (on_caching_device g (lengths_of s.memory.memory))) → Duty g (on_caching_device g (lengths_of s.memory.memory)) (view_cached g s) e → OkOn g (lengths_of s.memory.memory) (next g (on_caching_device g (lengths_of s.memory.memory)) (view_cached g s) e)
  device_keeps = event_keeps_cached g ok (lengths_of s.memory.memory) owed (view_cached g s) o.holds

  -- ---- calls
  module _ (c : Call) (named : List Bool) (stop : ℕ) (d : Duty g (on_caching_tables g) s (calls c named stop)) where
    abbrev remembers : ℕ → ℕ → List ZoneView
    remembers = remembered_after (made_on g c named s.state stop s.memory.memory) (device_of g s.memory.memory) s.memory.was

    refines : Refines g (beneath (on_tables g) (tables_caches g) s) c named stop
    refines = call_refines g ok s0 o.plain named (names_beneath g (on_tables g) (tables_caches g) s named d.0) c stop

    agrees : Agrees g ((on_device g (lengths_of t)).call c (is_set named) (view_state s.state) stop (device_of g t)) (view_result g (result_on g c named s.state stop t))
    agrees = call_agrees g ok s0 o.plain c named stop refines

    kept : let a = (on_device g (lengths_of t)).call c (is_set named) (view_state s.state) stop (device_of g t) in
        OkCached g (mode_after a.answer s.mode) s.lost (record { now = a.memory; was = remembers }) a.state (noted s.ledger (note_of g c (shown_by g (is_set named) (device_of g t) a.memory) (reply_to a.answer)))
    kept = rw (made_same g ok s0 o.plain c named stop refines) (device_keeps (calls c (is_set named) stop) (record { drives = d.0.drives }, d.1, rw agrees.answer_same d.2))

    pub call_cached : TablesOkCached g (next g (on_caching_tables g) s (calls c named stop))
    call_cached =
        let b = view_result g (result_on g c named s.state stop t) in
        let a = (on_device g (lengths_of t)).call c (is_set named) (view_state s.state) stop (device_of g t) in
        record {
          plain = tables_event g ok wb s0 o.plain (calls c named stop) (names_beneath g (on_tables g) (tables_caches g) s named d.0, d.1, d.2);
          holds = agrees_cached g (mode_after b.answer s.mode) s.lost (record { now = b.memory; was = remembers }) a.state b.state
              (noted s.ledger (note_of g c (shown_by g (is_set named) (device_of g t) b.memory) (reply_to b.answer))) agrees.state_agrees (rw (agrees.answer_same, agrees.memory_same) at kept);
        }

  -- EVERY EVENT KEEPS IT
  pub tables_event_cached : (e : Event (on_caching_tables g)) → Duty g (on_caching_tables g) s e → TablesOkCached g (next g (on_caching_tables g) s e)
  tables_event_cached (calls c named stop) d = call_cached c named stop d
  tables_event_cached (looks named) d = o
  tables_event_cached (reads named a count out) d = o
  tables_event_cached (peeks named a) d = o
  tables_event_cached (reports list) d = o
  tables_event_cached (cuts u) d =
      let k = device_keeps (cuts (record { memory = device_of g u.memory; was = u.was })) (record { left = caching_cut_refines g s.lost t s.memory.was u.memory d.left; forgotten = d.forgotten }) in
      let c = d.left in
      let w = o.plain.sized in
      record {
        plain = record {
          sized = record { sectors_long = c.sectors_long ∙ w.sectors_long; written_long = c.written_long ∙ w.written_long; durable_long = c.durable_long ∙ w.durable_long };
          order = λ e he n. cut_ordered g s.lost t s.memory.was u.memory d.left e he n (o.plain.order e he n);
          records = o.plain.records;
          holds = k.0;
          shared = λ i. absurd (let z : ◌≡◌ {A = ℕ} 0 1 = cc in omega arith);
        };
        holds = k;
      }
  tables_event_cached (loses y u) (h, e, d) = record {
    plain = tables_event g ok wb s0 o.plain (loses y u.memory) (h, e, d.left);
    holds = device_keeps (loses y (record { memory = device_of g u.memory; was = u.was })) (h, e, record { left = loss_refines g y t u.memory d.left; same = d.same });
  }

-- every point of a history is as promised
pub tables_promise_cached : (g : Geometry) (ok : Valid g) → is_valid g ≡ true → (s : System (on_caching_tables g)) → TablesOkCached g s → Promise g (on_caching_tables g) s
tables_promise_cached g ok wb s o = cached_promise g (on_tables g) (tables_caches g) s (tables_promise g ok wb (beneath (on_tables g) (tables_caches g) s) o.plain)

-- ---- the format at the head
module _ (g : Geometry) (named : List Bool) (array : ℕ) (old : State) (stop : ℕ) (t : Tables) (was : ℕ → ℕ → List ZoneView) (small : array < 256 ^ 8) (accepted : format_verdict g named t ≡ accept)
    (ended : ltb stop (length (format_stores g (named_drives g (is_set named)) (left_out g (is_set named)) array)) ≡ false) where
  abbrev x : ℕ
  x = left_out g (is_set named)

  abbrev xs : List Store
  xs = format_stores g (named_drives g (is_set named)) (left_out g (is_set named)) array

  abbrev c : Caching
  c = record { now = device_of g t; was = was }

  passed : FormatPassed g named t
  passed = format_passed g named t accepted

  ok : Valid g
  ok = valid_if_test g passed.valid_test

  sized : WellSized g t
  sized = lengths_sized g t.sectors t.written t.durable passed.lengths_fit_lem

  made_all : take stop xs ≡ xs
  made_all = take_all stop xs (ltb-false stop (length xs) ended)

  device_is : device_of g (run_stores g stop xs t) ≡ (apply_all_caching xs c).now
  device_is = run_refines g stop xs t sized (format_stores_fit g named array t accepted) ∙ ap (λ (r : List Store). apply_all r (device_of g t)) made_all ∙ sym (now_is xs c)

  -- the state that it hands on, as the rules see it
  abbrev new : StateView
  new = with_shares (fresh_shares g (named_drives g (is_set named))) (format_state x)

  device_rests : RestsCached g x (apply_all_caching xs c) new fresh_ledger
  device_rests = rw (drives_named g ok (is_set named) passed.one_unnamed) (read_cached g x _ (format_state x) (with_shares (fresh_shares g (present_but g x)) (format_state x)) fresh_ledger (λ h. h) (record { generations = λ z h. refl; conditions = λ z h. refl }) (format_rests_cached g ok x array c (left_out_lem g (is_set named)) small))

  start_is : record { now = device_of g (run_stores g stop xs t); was = remembered_after (take stop xs) (device_of g t) was } ≡ apply_all_caching xs c
  start_is = ap₂ (λ (a : Device) (b : List Store). record { now = a; was = (apply_all_caching b c).was }) device_is made_all

  pub start_rests : RestsCached g x (record { now = device_of g (run_stores g stop xs t); was = remembered_after (take stop xs) (device_of g t) was }) (view_state (state_held g.zones new)) fresh_ledger
  start_rests = agrees_cached g ready x _ new (view_state (state_held g.zones new)) fresh_ledger (held_agrees g g.zones new (omega arith)) (subst (λ (k : Caching). RestsCached g x k new fresh_ledger) (sym start_is) device_rests)

-- after it all is well
pub tables_start_cached : (g : Geometry) (named : List Bool) (array : ℕ) (old : State) (stop : ℕ) (m : WithCaches Tables) → array < 256 ^ 8 → let r = (on_caching_tables g).call (formats array) named old stop m in
    r.answer ≡ Finished → (is_valid g ≡ true) × TablesOkCached g (start g (on_caching_tables g) named r)
unfolding format_on
tables_start_cached g named array old stop m small e =
    let t = m.memory in
    let x = left_out g (is_set named) in
    let ss = format_stores g (named_drives g (is_set named)) x array in
    let (wb, plain) = tables_start g named array old stop t small e in
    let (p, q) = answer_finished g (format_verdict g named t) (format_numbered_on g named t) ss (state_held g.zones (with_shares (fresh_shares g (named_drives g (is_set named))) (format_state x))) old stop t e in
    let holds = start_rests g named array old stop t m.was small p q in
    (wb, record { plain = plain; holds = rw (p, q) holds })

-- THE THEOREM
pub caching_tables_keep_the_promise : CachingTablesClaim
caching_tables_keep_the_promise g named array old stop m small e es d =
    let (wb, o) = tables_start_cached g named array old stop m small e in
    let ok = valid_if_test g wb in
    throughout g (on_caching_tables g) (TablesOkCached g) (tables_promise_cached g ok wb) (tables_event_cached g ok wb (caches_owed g ok)) (start g (on_caching_tables g) named ((on_caching_tables g).call (formats array) named old stop m)) o es d

-- and a finished reset lasts
pub caching_tables_resets_last : (g : Geometry) → ResetsLast g (on_caching_tables g)
caching_tables_resets_last g = resets_last g (on_caching_tables g) (caching_tables_keep_the_promise g)

-- ---- drives whose resets last at once: the older claim follows (device/OlderDrives)
pub tables_older_cuts : (g : Geometry) → OlderCuts (on_tables g) (tables_caches g)
tables_older_cuts g x t was u c = record {
  sectors_long = c.kept.sectors_long;
  written_long = c.kept.written_long;
  durable_long = c.kept.durable_long;
  durable_is = c.durable_is;
  zones = λ d z hd hz n. inl (record { least = c.least d z hd hz n; most = c.most d z hd hz n; same = λ i h. c.kept.sectors_same d z i hd hz h n });
}

pub tables_keep_the_promise : TablesClaim
tables_keep_the_promise g = older_drives g (on_tables g) (tables_caches g) (tables_older_cuts g) (caching_tables_keep_the_promise g)
