-- Every event on the tables keeps the invariant: the tables have their lengths, the pointers of the drives that are not lost are in order, the
-- state has its sixteen records and shares, and the device that the tables stand for is as ClaimEvents.antt and SharesKept.antt say.
use Rattle.std.specs.Prelude.{◌≡◌, refl, ◌≢◌, ◌⊎◌, Bool, true, false, not, ℕ, ◌<◌, List, length, take, ltb}
use Rattle.std.proofs.Common.{sym, ap, ◌∙◌, inl, inr, true≢false, arith, eq-eqb}
use Rattle.tables.specs.declared.Geometry.{Geometry}
use Rattle.tables.specs.meaning.Geometry.{Valid, max_zones}
use Rattle.tables.specs.meaning.Drives.{no_drive}
use Rattle.tables.specs.meaning.Device.{Device, Store}
use Rattle.tables.specs.meaning.Tables.{Tables, device_of, TablesCut, TablesLoss, pointers_bad}
use Rattle.tables.specs.laws.Made.{WellSized, FitsAll}
use Rattle.tables.specs.laws.TablesRefine.{cut_refines, loss_refines, kept_sized}
use Rattle.tables.specs.laws.PointerOrder.{InOrder, order_passes, cut_order, loss_order}
use Rattle.volume.specs.declared.State.{State}
use Rattle.volume.specs.meaning.State.{StateView}
use Rattle.volume.specs.meaning.Refusals.{Verdict, refuse, accept, first_refusal, WriteAsked}
use Rattle.volume.specs.meaning.Answers.{StoringCall}
use Rattle.volume.specs.meaning.CallContracts.{view_state, is_set, verdict_number, lengths_of, Result, storing_on, flush_on, reset_on, write_on, compact_on, format_on, state_held}
use Rattle.volume.specs.laws.Refusals.{Numbered}
use Rattle.volume.specs.laws.StateHeld.{Sixteen, held_sixteen}
use Rattle.promise.specs.meaning.Claim.{Call, writes, flushes, resets, formats, compacts, ready, System, calls, cuts, loses, next, NamesAll, Duty, mode_after, note_of, reply_to}
use Rattle.promise.specs.meaning.Ledger.{noted}
use Rattle.promise.specs.meaning.OnDevice.{call_of, on_device, shown_by}
use Rattle.promise.specs.meaning.OnTables.{result_on, on_tables, shown_in}
use Rattle.promise.specs.meaning.Caches.{made_by, made_stores}
use Rattle.promise.specs.meaning.CachesOnTables.{made_on}
use Rattle.promise.proofs.device.Modes.{OkIn}
use Rattle.promise.proofs.device.ClaimEvents.{event_keeps}
use Rattle.promise.proofs.device.SharesKept.{SharesKept, event_shares}
use Rattle.promise.proofs.tables.CallRefines.{Agree, held_agrees, ok_agrees, shares_agree, Agrees, view_result, storing_agrees, storing_sized, storing_order, storing_state}
use Rattle.promise.proofs.tables.CallVerdicts.{format_verdict_lem, format_numbered, flush_verdict_lem, flush_numbered, write_verdict_lem, write_numbered, reset_verdict_lem, reset_numbered, compact_verdict_lem, compact_numbered}
use Rattle.volume.specs.laws.CallStoresFit.{flush_stores_fit, reset_stores_fit, format_stores_fit, write_stores_fit, compact_stores_fit}

-- the system of the rules
abbrev pub view_system : (g : Geometry) (s : System (on_tables g)) → System (on_device g (lengths_of s.memory))
view_system g s = record { memory = device_of g s.memory; lost = s.lost; mode = s.mode; state = view_state s.state; ledger = s.ledger }

pub record TablesOk (g : Geometry) (s : System (on_tables g)) : Type 0 where
  pub sized : WellSized g s.memory
  pub order : (d : ℕ) → d < g.drives → d ≢ s.lost → InOrder g d s.memory.written s.memory.durable
  pub records : Sixteen s.state
  pub holds : OkIn g s.mode s.lost (device_of g s.memory) (view_state s.state) s.ledger
  pub shared : s.mode ≡ ready → SharesKept g s.lost (device_of g s.memory) (view_state s.state)

module _ (g : Geometry) (s : System (on_tables g)) (named : List Bool) (n : NamesAll g (on_tables g) s named) where
  -- what the host names, as the rules see it
  pub names_seen : NamesAll g (on_device g (lengths_of s.memory)) (view_system g s) (is_set named)
  names_seen = record { drives = n.drives }

  -- a named drive is not lost
  pub named_not_lost : (d : ℕ) → d < g.drives → is_set named d ≡ true → d ≢ s.lost
  named_not_lost d h e q = true≢false (sym e ∙ n.drives d h ∙ ap not (eq-eqb d s.lost q))

  -- so refusal 3 does not apply
  pub pointers_fine : TablesOk g s → pointers_bad g named s.memory.written s.memory.durable ≡ false
  pointers_fine o = order_passes g named s.memory.written s.memory.durable (λ d h e. o.order d h (named_not_lost d h e))

-- ---- what a call on the tables owes, to be the rules' call
pub record Refines (g : Geometry) (s : System (on_tables g)) (c : Call) (named : List Bool) (stop : ℕ) : Type 0 where
  pub verdict : Verdict
  pub stores : List Store  -- on the tables
  pub new : State  -- the code's state
  pub result_is : result_on g c named s.state stop s.memory ≡ storing_on g (verdict_number verdict) stores new s.state stop s.memory
  pub verdict_is : verdict ≡ first_refusal (call_of g (lengths_of s.memory) c (is_set named) (view_state s.state) (device_of g s.memory)).refusals
  pub made_is : made_on g c named s.state stop s.memory ≡ made_by verdict stores stop
  pub has_number : Numbered verdict
  pub same : verdict ≡ accept → stores ≡ (call_of g (lengths_of s.memory) c (is_set named) (view_state s.state) (device_of g s.memory)).stores
  pub fit : verdict ≡ accept → FitsAll g (call_of g (lengths_of s.memory) c (is_set named) (view_state s.state) (device_of g s.memory)).stores (device_of g s.memory)
  pub long : verdict ≡ accept → Sixteen new
  pub agree : verdict ≡ accept → ltb stop (length (call_of g (lengths_of s.memory) c (is_set named) (view_state s.state) (device_of g s.memory)).stores) ≡ false
      → Agree g (call_of g (lengths_of s.memory) c (is_set named) (view_state s.state) (device_of g s.memory)).state (view_state new)

module _ (g : Geometry) (ok : Valid g) (s : System (on_tables g)) (o : TablesOk g s) (c : Call) (named : List Bool) (stop : ℕ) (r : Refines g s c named stop) where
  abbrev k : StoringCall
  k = call_of g (lengths_of s.memory) c (is_set named) (view_state s.state) (device_of g s.memory)

  abbrev made : Result
  made = storing_on g (verdict_number r.verdict) r.stores r.new s.state stop s.memory

  -- what it leaves is, as the rules see it, what their call leaves
  pub call_agrees : Agrees g ((on_device g (lengths_of s.memory)).call c (is_set named) (view_state s.state) stop (device_of g s.memory)) (view_result g (result_on g c named s.state stop s.memory))
  call_agrees = rw (r.result_is, ← r.verdict_is) (storing_agrees g s.memory r.verdict r.has_number r.stores k.stores r.new s.state k.state stop o.sized r.same r.fit r.agree)

  -- and the stores made are those of their call
  pub made_same : made_on g c named s.state stop s.memory ≡ made_stores (call_of g (lengths_of s.memory) c (is_set named) (view_state s.state) (device_of g s.memory)) stop
  made_same = r.made_is ∙ go r.verdict refl ∙ ap (λ (v : Verdict). made_by v k.stores stop) r.verdict_is
    where
      go : (v : Verdict) → r.verdict ≡ v → made_by v r.stores stop ≡ made_by v k.stores stop
      go (refuse n) e = refl
      go accept e = ap (take stop) (r.same e)

  -- so the event keeps the invariant
  pub call_event : Duty g (on_tables g) s (calls c named stop) → TablesOk g (next g (on_tables g) s (calls c named stop))
  call_event (n, m, q) = record {
    sized = rw r.result_is (storing_sized g s.memory r.verdict r.has_number r.stores k.stores r.new s.state k.state stop o.sized r.same r.fit);
    order = λ d hd h. rw r.result_is (storing_order g s.memory r.verdict r.has_number r.stores k.stores r.new s.state k.state stop o.sized r.same r.fit d hd (o.order d hd h));
    records = rw r.result_is (storing_state g s.memory r.verdict r.has_number r.stores k.stores r.new s.state k.state stop o.sized r.same r.fit (λ (t : State). Sixteen t) o.records r.long);
    holds = seen;
    shared = shared_seen;
  }
    where
      duty : Duty g (on_device g (lengths_of s.memory)) (view_system g s) (calls c (is_set named) stop)
      duty = (names_seen g s named n, m, rw call_agrees.answer_same q)

      kept : let a = (on_device g (lengths_of s.memory)).call c (is_set named) (view_state s.state) stop (device_of g s.memory) in
          OkIn g (mode_after a.answer s.mode) s.lost a.memory a.state (noted s.ledger (note_of g c (shown_by g (is_set named) (device_of g s.memory) a.memory) (reply_to a.answer)))
      kept = event_keeps g ok (lengths_of s.memory) (view_system g s) o.holds (calls c (is_set named) stop) duty

      seen : let b = result_on g c named s.state stop s.memory in
          OkIn g (mode_after b.outcome.answer s.mode) s.lost (device_of g b.tables) (view_state b.outcome.state) (noted s.ledger (note_of g c (shown_in g named s.memory b.tables) (reply_to b.outcome.answer)))
      seen =
          let b = view_result g (result_on g c named s.state stop s.memory) in
          let a = (on_device g (lengths_of s.memory)).call c (is_set named) (view_state s.state) stop (device_of g s.memory) in
          ok_agrees g (mode_after b.answer s.mode) s.lost b.memory a.state b.state (noted s.ledger (note_of g c (shown_by g (is_set named) (device_of g s.memory) b.memory) (reply_to b.answer))) call_agrees.state_agrees
          (rw (call_agrees.answer_same, call_agrees.memory_same) at kept)

      shared_then : let a = (on_device g (lengths_of s.memory)).call c (is_set named) (view_state s.state) stop (device_of g s.memory) in mode_after a.answer s.mode ≡ ready → SharesKept g s.lost a.memory a.state
      shared_then = event_shares g ok (lengths_of s.memory) (view_system g s) o.holds o.shared (calls c (is_set named) stop) duty

      shared_seen : let b = result_on g c named s.state stop s.memory in mode_after b.outcome.answer s.mode ≡ ready → SharesKept g s.lost (device_of g b.tables) (view_state b.outcome.state)
      shared_seen i =
          let b = view_result g (result_on g c named s.state stop s.memory) in
          let a = (on_device g (lengths_of s.memory)).call c (is_set named) (view_state s.state) stop (device_of g s.memory) in
          let k : mode_after b.answer s.mode ≡ ready → SharesKept g s.lost b.memory a.state = rw (call_agrees.answer_same, call_agrees.memory_same) at shared_then in
          shares_agree g ok s.lost b.memory a.state b.state call_agrees.state_agrees (k i)

-- ---- the calls but mount (MountRefines.antt)
module _ (g : Geometry) (ok : Valid g) (s : System (on_tables g)) (o : TablesOk g s) (named : List Bool) (n : NamesAll g (on_tables g) s named) where
  abbrev t : Tables
  t = s.memory

  abbrev w : Device
  w = device_of g s.memory

  abbrev st : StateView
  st = view_state s.state

  abbrev fine : pointers_bad g named t.written t.durable ≡ false
  fine = pointers_fine g s named n o

  pub write_refines : (asked : WriteAsked) (stop : ℕ) → Refines g s (writes asked) named stop
  unfolding write_on
  write_refines asked stop =
      let k = call_of g (lengths_of t) (writes asked) (is_set named) st w in
      let same = write_verdict_lem g named t fine s.state asked in
      record {
        verdict = first_refusal k.refusals;
        stores = k.stores;
        new = state_held max_zones k.state;
        result_is = rw same refl;
        made_is = rw same refl;
        verdict_is = refl;
        has_number = write_numbered g named t s.state asked;
        same = λ p. refl;
        fit = λ p. write_stores_fit g named s.state asked t (same ∙ p);
        long = λ p. held_sixteen 16 k.state (omega arith);
        agree = λ p e. held_agrees g 16 k.state ok.zones_most;
      }

  pub compact_refines : (d stop : ℕ) → Refines g s (compacts d) named stop
  unfolding compact_on
  compact_refines d stop =
      let k = call_of g (lengths_of t) (compacts d) (is_set named) st w in
      let same = compact_verdict_lem g named t fine s.state d in
      record {
        verdict = first_refusal k.refusals;
        stores = k.stores;
        new = state_held max_zones k.state;
        result_is = rw same refl;
        made_is = rw same refl;
        verdict_is = refl;
        has_number = compact_numbered g named t s.state d;
        same = λ p. refl;
        fit = λ p. compact_stores_fit g named s.state d t (same ∙ p);
        long = λ p. held_sixteen 16 k.state (omega arith);
        agree = λ p e. held_agrees g 16 k.state ok.zones_most;
      }

  pub flush_refines : (stop : ℕ) → Refines g s flushes named stop
  unfolding flush_on
  flush_refines stop =
      let k = call_of g (lengths_of t) flushes (is_set named) st w in
      record {
        verdict = first_refusal k.refusals;
        stores = k.stores;
        new = state_held max_zones k.state;
        result_is = rw (flush_verdict_lem g named t fine s.state) refl;
        made_is = rw (flush_verdict_lem g named t fine s.state) refl;
        verdict_is = refl;
        has_number = flush_numbered g named t s.state;
        same = λ p. refl;
        fit = λ p. flush_stores_fit g named s.state t (flush_verdict_lem g named t fine s.state ∙ p);
        long = λ p. held_sixteen 16 k.state (omega arith);
        agree = λ p e. held_agrees g 16 k.state ok.zones_most;
      }

  pub reset_refines : (z stop : ℕ) → Refines g s (resets z) named stop
  unfolding reset_on
  reset_refines z stop =
      let k = call_of g (lengths_of t) (resets z) (is_set named) st w in
      record {
        verdict = first_refusal k.refusals;
        stores = k.stores;
        new = state_held max_zones k.state;
        result_is = rw (reset_verdict_lem g named t fine s.state z) refl;
        made_is = rw (reset_verdict_lem g named t fine s.state z) refl;
        verdict_is = refl;
        has_number = reset_numbered g named t s.state z;
        same = λ p. refl;
        fit = λ p. reset_stores_fit g named s.state z t (reset_verdict_lem g named t fine s.state z ∙ p);
        long = λ p. held_sixteen 16 k.state (omega arith);
        agree = λ p e. held_agrees g 16 k.state ok.zones_most;
      }

  pub format_refines : (array stop : ℕ) → Refines g s (formats array) named stop
  unfolding format_on
  format_refines array stop =
      let k = call_of g (lengths_of t) (formats array) (is_set named) st w in
      record {
        verdict = first_refusal k.refusals;
        stores = k.stores;
        new = state_held g.zones k.state;
        result_is = rw (format_verdict_lem g named t fine) refl;
        made_is = rw (format_verdict_lem g named t fine) refl;
        verdict_is = refl;
        has_number = format_numbered g named t;
        same = λ p. refl;
        fit = λ p. format_stores_fit g named array t (format_verdict_lem g named t fine ∙ p);
        long = λ p. held_sixteen g.zones k.state ok.zones_most;
        agree = λ p e. held_agrees g g.zones k.state (omega arith);
      }

-- ---- cuts and losses
pub cut_event : (g : Geometry) → Valid g → (s : System (on_tables g)) → TablesOk g s → (u : Tables) → TablesCut g s.lost s.memory u → TablesOk g (next g (on_tables g) s (cuts u))
cut_event g ok s o u c = record {
  sized = kept_sized g s.lost s.memory u c.kept o.sized;
  order = λ d hd q. cut_order g s.lost d s.memory u c hd q (o.order d hd q);
  records = o.records;
  holds = event_keeps g ok (lengths_of s.memory) (view_system g s) o.holds (cuts (device_of g u)) (cut_refines g s.lost s.memory u c);
  shared = event_shares g ok (lengths_of s.memory) (view_system g s) o.holds o.shared (cuts (device_of g u)) (cut_refines g s.lost s.memory u c);
}

pub loss_event : (g : Geometry) → Valid g → (s : System (on_tables g)) → TablesOk g s → (d : ℕ) → d < g.drives → (s.lost ≡ no_drive) ⊎ (s.lost ≡ d) → (u : Tables) → TablesLoss g d s.memory u → TablesOk g (next g (on_tables g) s (loses d u))
loss_event g ok s o d h e u c = record {
  sized = kept_sized g d s.memory u c.kept o.sized;
  order = λ k hk q. loss_order g d k s.memory u c hk q (o.order k hk (before k hk q e));
  records = o.records;
  holds = event_keeps g ok (lengths_of s.memory) (view_system g s) o.holds (loses d (device_of g u)) (h, e, loss_refines g d s.memory u c);
  shared = event_shares g ok (lengths_of s.memory) (view_system g s) o.holds o.shared (loses d (device_of g u)) (h, e, loss_refines g d s.memory u c);
}
  where
    before : (k : ℕ) → k < g.drives → k ≢ d → (s.lost ≡ no_drive) ⊎ (s.lost ≡ d) → k ≢ s.lost
    before k hk q (inl e) r = omega (arith, r, e, hk, ok.drives_most)
    before k hk q (inr e) r = q (r ∙ e)
