-- What isolation rests on (Laws), of the rules' calls on the device.
use Rattle.std.specs.Prelude.{◌≡◌, ◌≢◌, Bool, true, false, ℕ, ◌-◌, ◌<◌, List, length, take, ltb, eqb}
use Rattle.std.proofs.Math.Path.{refl}
use Rattle.std.proofs.Common.{sym, ap, ◌∙◌}
use borrow.Author.Tests.{ltb-true, eq-eqb}
use Rattle.tables.specs.declared.Geometry.{Geometry}
use Rattle.tables.specs.meaning.Basics.{pick}
use Rattle.tables.specs.laws.Basics.{or_none, not_not}
use Rattle.tables.specs.meaning.Drives.{present_but}
use Rattle.tables.specs.meaning.Device.{Device, Store, apply_all}
use Rattle.tables.specs.meaning.Geometry.{Valid}
use Rattle.tables.specs.meaning.GeometryTest.{is_valid}
use Rattle.logs.specs.meaning.Entry.{parity_zone}
use Rattle.volume.specs.declared.Answer.{Answer}
use Rattle.volume.specs.declared.Answer.TheVariants.{Finished, Unfinished}
use Rattle.volume.specs.meaning.State.{StateView, hosts, share_at}
use Rattle.volume.specs.meaning.Roles.{roles, by_roles}
use Rattle.volume.specs.meaning.Emptying.{by_state, new_parity_size, unused_in, compact_stores}
use Rattle.volume.specs.meaning.Hosts.{half_past, renewed_shares}
use Rattle.volume.specs.meaning.Refusals.{Verdict, refuse, accept, first_refusal, TableLengths, zone_asked, tables_fit, no_zone, no_host, bad_pointers, write_rows, reset_rows}
use Rattle.volume.specs.meaning.Answers.{CallResult, StoringCall, storing}
use Rattle.volume.specs.laws.Refusals.{accepted_row}
use Rattle.promise.specs.meaning.Claim.{Call, writes, flushes, resets, compacts, System, calls, ready, answered, heard, NamesAll}
use Rattle.promise.specs.meaning.OnDevice.{call_of, on_device}
use Rattle.promise.proofs.device.Heard.{answer_heard}
use Rattle.promise.proofs.device.AcceptedCalls.{storing_finished}
use Rattle.promise.proofs.device.ClaimEvents.{event_keeps, rests_of, drives_of_call, lost_of_call, compact_fits}
use Rattle.promise.proofs.device.SharesKept.{unused_is, event_shares}
use Rattle.promise.proofs.device.CompactCall.{compact_leaves_logs, compact_owes}
use Rattle.promise.proofs.device.BlankAtRest.{event_blank}
use Rattle.promise.proofs.shown.EveryPoint.{Known}
use Rattle.promise.proofs.isolation.Laws.{SameView, BothReady, Laws}
use Rattle.promise.proofs.isolation.RestFacts.{RestFacts}
use Rattle.promise.proofs.isolation.DeviceFacts.{rest_facts}
use Rattle.promise.proofs.isolation.HeardAtRest.{zone_in_lem}
use Rattle.promise.proofs.isolation.HeardSame.{flush_heard_same, write_heard_same, read_heard_same, peek_heard_same, reset_heard_same}

pub view_refl : (g : Geometry) (a b : StateView) → a ≡ b → SameView g a b
view_refl g a b e = record {
  generations = λ z h. ap (λ (s : StateView). s.generation z) e;
  conditions = λ z h. ap (λ (s : StateView). s.condition z) e;
  owners = λ z h. ap (λ (s : StateView). s.owner z) e;
  shares = λ d h l k. ap (λ (s : StateView). s.share (share_at d h)) e;
}

-- a call that does not finish leaves the state
left_as : (r : Verdict) (xs : List Store) (new old : StateView) (stop : ℕ) (v : Device) (a : Answer) → (storing r xs new old stop v).answer ≡ a → a ≢ Finished → (storing r xs new old stop v).state ≡ old
left_as (refuse n) xs new old stop v a e ends = refl
left_as accept xs new old stop v a e ends = go (ltb stop (length xs)) e
  where
    go : (b : Bool) → let r : CallResult Device StateView = pick b (record { answer = Unfinished; memory = apply_all (take stop xs) v; state = old }) (record { answer = Finished; memory = apply_all xs v; state = new }) in r.answer ≡ a → r.state ≡ old
    go true q = refl
    go false q = absurd (ends (sym q))

module _ (g : Geometry) (ok : Valid g) (t : TableLengths) (wb : is_valid g ≡ true) (lf : tables_fit g t ≡ true) where
  -- a finished call: it was accepted, and has made all its stores
  module _ (s : System (on_device g t)) (named : ℕ → Bool) (c : Call) (stop : ℕ) (e : heard s (calls c named stop) ≡ answered Finished) where
    abbrev k : StoringCall
    k = call_of g t c named s.state s.memory

    pub accepted : (first_refusal k.refusals ≡ accept) × (ltb stop (length k.stores) ≡ false)
    accepted = storing_finished (first_refusal k.refusals) k.stores k.state s.state stop s.memory (answer_heard e)

    pub state_after_lem : (storing (first_refusal k.refusals) k.stores k.state s.state stop s.memory).state ≡ k.state
    state_after_lem = let (p, q) = accepted in rw (p, q) refl

    pub memory_after : (storing (first_refusal k.refusals) k.stores k.state s.state stop s.memory).memory ≡ apply_all k.stores s.memory
    memory_after = let (p, q) = accepted in rw (p, q) refl

  abbrev facts : (s : System (on_device g t)) → Known g t s → s.mode ≡ ready → (named : ℕ → Bool) → NamesAll g (on_device g t) s named → RestFacts g t s named
  facts = rest_facts g ok t wb lf

  -- what the log of a compact has unused at its end
  compact_unused : (s : System (on_device g t)) (n : ℕ → Bool) → Known g t s → (m : s.mode ≡ ready) → NamesAll g (on_device g t) s n → (d stop : ℕ) → heard s (calls (compacts d) n stop) ≡ answered Finished
      → let w = apply_all (call_of g t (compacts d) n s.state s.memory).stores s.memory in unused_in g true (roles g w) (by_roles g w) d ≡ g.capacity - new_parity_size g (by_state g (present_but g s.lost) (by_roles g s.memory) s.state) d
  compact_unused s n k m names d stop e =
      let v = s.memory in
      let p = (accepted s n (compacts d) stop e).0 in
      let ca = compact_fits g ok t s k.ok n names m d p in
      let rests = rests_of g t s k.ok m in
      let done = (compact_owes g ok s.lost v s.state s.ledger d rests ca).1 in
      let here = ca.here in
      rw (drives_of_call g ok t s k.ok n names m) (unused_is g s.lost _ s.state s.ledger done d here
      ∙ ap (λ (i : ℕ). g.capacity - i) (compact_leaves_logs g ok s.lost v s.state s.ledger d ca rests d here ∙ rw (eq-eqb d d refl) refl))

  pub device_laws : Laws g (on_device g t) (Known g t)
  unfolding write_rows reset_rows
  device_laws = record {
    kept = λ s e k d. record { ok = event_keeps g ok t s k.ok e d; shared = event_shares g ok t s k.ok k.shared e d; blank = event_blank g ok t s k.ok k.blank e d };
    write_heard = λ s o m n b w stop same counts zones shares. write_heard_same g ok t s o m n (facts s b.first_ok b.first_ready m b.first_names) (facts o b.second_ok b.second_ready n b.second_names) b.lost w same counts zones shares stop;
    flush_heard = λ s o m n b stop. flush_heard_same g ok t s o m n (facts s b.first_ok b.first_ready m b.first_names) (facts o b.second_ok b.second_ready n b.second_names) b.lost stop;
    reset_heard = λ s o m n b z stop same logs. reset_heard_same g ok t s o m n (facts s b.first_ok b.first_ready m b.first_names) (facts o b.second_ok b.second_ready n b.second_names) b.lost logs z stop same;
    read_heard = λ s o m n b a count out same contents. read_heard_same g ok t s o m n (facts s b.first_ok b.first_ready m b.first_names) (facts o b.second_ok b.second_ready n b.second_names) b.lost a same contents count out;
    peek_heard = λ s o m n b a same contents. peek_heard_same g ok t s o m n (facts s b.first_ok b.first_ready m b.first_names) (facts o b.second_ok b.second_ready n b.second_names) b.lost a same contents;
    write_moves = λ s n k m names w stop e.
        let rows = write_rows g t (bad_pointers g n s.memory) n s.state w (roles g s.memory) (by_roles g s.memory) in
        let (a, b) = or_none (no_zone g (zone_asked g w)) (no_host w.host) (accepted_row rows (accepted s n (writes w) stop e).0 8) in (
          view_refl g _ _ (state_after_lem s n (writes w) stop e ∙ rw (drives_of_call g ok t s k.ok n names m, lost_of_call g ok t s k.ok n names m) refl),
          ltb-true w.host hosts (not_not (ltb w.host hosts) b),
          zone_in_lem g (zone_asked g w) a,
        );
    flush_moves = λ s n k m names stop e. rw (state_after_lem s n flushes stop e) (record { generations = λ z h. refl; conditions = λ z h. refl; owners = λ z h. refl; shares = λ d h l i. refl });
    reset_moves = λ s n k m names z stop e.
        let rows = reset_rows g t (bad_pointers g n s.memory) n s.state z (roles g s.memory) (by_roles g s.memory) in
        (rw (state_after_lem s n (resets z) stop e) (record { generations = λ z h. refl; conditions = λ z h. refl; owners = λ z h. refl; shares = λ d h l i. refl }), zone_in_lem g z (accepted_row rows (accepted s n (resets z) stop e).0 8));
    compact_moves = λ s n k m names d stop e.
        rw (state_after_lem s n (compacts d) stop e, memory_after s n (compacts d) stop e, compact_unused s n k m names d stop e, drives_of_call g ok t s k.ok n names m)
        (record { generations = λ z h. refl; conditions = λ z h. refl; owners = λ z h. refl; shares = λ i h l j. refl });
    not_finished = λ s n o names c stop a e ends. let k = call_of g t c n s.state s.memory in left_as (first_refusal k.refusals) k.stores k.state s.state stop s.memory a (answer_heard e) ends;
  }
