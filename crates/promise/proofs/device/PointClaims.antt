-- What holds at a point of a history under what the events keep (ClaimEvents, SharesKept): no look is refused and each fits, so does each finished mount, a look's state is what the
-- host holds, reads and peeks give the content, and calls are refused for a cause alone. (Promise: ClaimProof.)
use Rattle.volume.specs.meaning.Refusals.{Verdict, gone_in, not_held, bad_pointers, two_lost, kind_lacks, bad_labels, bad_logs, refuse, accept, TableLengths, WriteAsked, zone_asked, end_asked, zone_of, offset_of, state_within, tables_fit, no_zone, no_host, bad_run, worn_for, write_full, gone_before, two_absent, stale, stale_somewhere, look_rows, mount_rows, write_rows, flush_rows, reset_rows, compact_rows, read_rows, peek_rows, first_refusal}
use Rattle.std.specs.Prelude.{◌≢◌, ◌⊎◌, ◌||◌, Bool, ◌&&◌, ℕ, zero, ◌+◌, ◌*◌, ◌≤◌, ◌<◌, List}
use Rattle.std.proofs.Math.Logic.{inl, inr}
use Rattle.std.proofs.Math.Bool.{true, false, not, true≢false}
use Rattle.promise.proofs.device.AcceptedCalls.{Applies, refused_applies, storing_finished, storing_unfinished, storing_refused, two_same, pointers_same}
use Rattle.volume.specs.laws.Refusals.{accepted_row, passed, Numbered, numbered}
use Rattle.std.proofs.Math.Path.{◌≡◌, refl, sym, ap}
use Rattle.std.proofs.Common.{◌∙◌}
use Rattle.std.proofs.Math.Nat.{le_of_eq}
use Rattle.std.proofs.Math.Decide.{dec_lt, ℕ_discrete}
use native.Mathlib.Omega.{arith}
use Rattle.std.proofs.Math.ListN.{length}
use Rattle.std.proofs.Math.Dec.{ltb, leb, eqb}
use borrow.Author.Tests.{lt-ltb, le-ltb, ltb-true, ltb-false, leb-true, eq-eqb, ne_eqb, eqb-true, eqb-false}
use Rattle.tables.specs.meaning.Device.{Device, apply_all}
use Rattle.tables.specs.laws.Basics.{and_join, and_split, or_cases, or_none, not_not, not_true, not_both}
use Rattle.tables.specs.laws.Lists.{prefix_length}
use Rattle.tables.specs.meaning.Placement.{drive_of, stripe_of}
use Rattle.tables.specs.laws.Placement.{drive_below, parity_drive_below}
use Rattle.tables.specs.declared.Geometry.{Geometry}
use Rattle.tables.specs.meaning.Geometry.{Valid, zone_sectors}
use Rattle.tables.specs.meaning.Drives.{present_but}
use Rattle.tables.specs.laws.Drives.{present_other}
use Rattle.tables.specs.meaning.Below.{tabulate_from}
use Rattle.tables.specs.meaning.Lists.{concat}
use Rattle.logs.specs.meaning.Entry.{worn_generation}
use Rattle.volume.specs.meaning.State.{StateView, pointer_in, is_worn, hosts, share_at, call_present}
use Rattle.tables.specs.laws.Below.{tabulate_from_cong}
use Rattle.volume.specs.meaning.Content.{at, inside_stripe, parity_drive_at}
use Rattle.volume.specs.meaning.Rules.{is_present, showing, value_at}
use Rattle.volume.specs.meaning.Roles.{roles, by_roles}
use Rattle.volume.specs.meaning.Emptying.{by_state, unused_in, lacks_room, entry_size, write_limit, gone_for_copies}
use Rattle.volume.specs.meaning.Hosts.{shares_in, share_left}
use Rattle.volume.specs.meaning.Mount.{mount_stores, mount_shows}
use Rattle.promise.specs.meaning.Ledger.{Fits}
use Rattle.promise.proofs.invariant.Invariant.{Ghost, Rest}
use Rattle.promise.proofs.look.LookFits.{rest_known}
use Rattle.tables.specs.meaning.Tables.{buffer_fits}
use Rattle.volume.specs.meaning.Answers.{CallResult, StoringCall, giving, Place, look_call, place_of, present_in, lost_drive_in}
use Rattle.volume.specs.meaning.CallContracts.{byte_of}
use Rattle.volume.specs.declared.Answer.TheVariants.{Finished, Unfinished, Refused}
use Rattle.volume.specs.declared.ZoneDescriptor.{ZoneDescriptor}
use Rattle.volume.specs.meaning.Report.{report_on}
use Rattle.volume.specs.laws.Report.{report_finished, report_same}
use Rattle.promise.specs.meaning.Claim.{mounts, writes, flushes, resets, compacts, ready, System, NamesAll, MayMount, all_but, content_bytes, SameZones, ResetRefusal, no_such_zone, worn_out, general_log_full, PastShare, WriteRefusal, buffer_length, no_such_address, no_such_host, no_sectors, past_the_end, not_at_pointer, sealed_zone, worn_zone, host_at_limit, no_more_open, share_used, CompactRefusal, not_present, parity_log_full, SharesFit}
use Rattle.promise.specs.meaning.OnDevice.{call_of, look_result, read_result, peek_result, report_shown, shown_by, state_shown, on_device}
use Rattle.promise.proofs.look.LookRest.{generation_held, condition_held}
use Rattle.promise.proofs.device.AtRestAnswers.{absent_fine, state_fine, stale_fine, stale_nowhere, gone_fine, before_fine, copies_fine, worn_last, rest_held, rest_sector}
use Rattle.std.proofs.Math.Seq.{take-length}
use Rattle.tables.specs.meaning.GeometryTest.{is_valid}
use Rattle.promise.proofs.roles.ReadsSectors.{data_seen}
use Rattle.promise.proofs.device.Marks.{with_marks}
use Rattle.promise.proofs.device.Modes.{Halted}
use Rattle.promise.proofs.device.Looks.{LookFine, halted_look}
use Rattle.promise.proofs.device.CallsProved.{calls_owed}
use Rattle.promise.proofs.device.ClaimEvents.{Ok, rests_of, invs_of, fine, drives_of_call, drives_of_look, lost_of_look, mount_allowed}
use Rattle.promise.proofs.device.SharesKept.{Shared}

-- ---- what is promised of a system that is so (wb, lf: the format was accepted)
module _ (g : Geometry) (ok : Valid g) (t : TableLengths) (wb : is_valid g ≡ true) (lf : tables_fit g t ≡ true) (s : System (on_device g t)) (o : Ok g t s) where
  -- the device by its roles
  abbrev u : Device
  u = by_roles g s.memory

  looked : LookFine g s.lost s.memory s.ledger
  looked = fine g ok t s o

  -- at rest, with marks of its own
  abbrev Resting : Type 0
  Resting = (marks : ℕ → ℕ) × (γ : Ghost) × Rest g s.lost u s.state (with_marks s.ledger marks) γ

  rest_of : s.mode ≡ ready → Resting
  rest_of m = let (k, marks, a, (st, (γ, r, same))) = rests_of g t s o m in (marks, γ, r)

  pub pointer_claim : s.mode ≡ ready → (z : ℕ) → z < g.zones → pointer_in (s.state.condition z) ≡ length (s.ledger.content z)
  pointer_claim m z h = let (marks, γ, r) = rest_of m in sym (r.zones z h).pointer_is

  module _ (named : ℕ → Bool) (names : NamesAll g (on_device g t) s named) where
    pub drives : s.mode ≡ ready → call_present g named s.state ≡ present_but g s.lost
    drives m = drives_of_call g ok t s o named names m

    seen : present_in g named s.memory ≡ present_but g s.lost
    seen = drives_of_look g ok t s o named names

    lost : lost_drive_in g named s.memory ≡ s.lost
    lost = lost_of_look g ok t s o named names

    -- ---- the rows that no call of such a host meets
    pub row_1 : s.mode ≡ ready → not (is_valid g && state_within g s.state) ≡ false
    row_1 m = let (marks, γ, r) = rest_of m in ap not (and_join (is_valid g) (state_within g s.state) wb (state_fine g ok s.lost u s.state (with_marks s.ledger marks) γ r))

    pub row_3 : bad_pointers g named s.memory ≡ false
    row_3 = pointers_same g named (all_but s.lost) names.drives s.memory ∙ looked.pointers

    pub row_4 : s.mode ≡ ready → two_absent g named s.state ≡ false
    row_4 m = let (marks, γ, r) = rest_of m in absent_fine g ok s.lost u γ r.logs named s.state (drives m)

    look_row_4 : two_lost g named u ≡ false
    look_row_4 = two_same g named (all_but s.lost) names.drives u ∙ looked.few_lost

    row_5 : kind_lacks g (is_present g named u) (roles g s.memory) || bad_labels g (is_present g named u) u ≡ false
    row_5 = rw (seen, looked.kinds, looked.labels) refl

    row_6 : bad_logs g (is_present g named u) u ≡ false
    row_6 = rw seen looked.logs

    pub row_7 : s.mode ≡ ready → (z : ℕ) → stale g (call_present g named s.state) u s.state z ≡ false
    row_7 m z = let (marks, γ, r) = rest_of m in rw (drives m) (stale_fine g ok s.lost u s.state (with_marks s.ledger marks) γ r z)

    -- ---- looks and mounts
    look_accepted : first_refusal (look_rows g t (bad_pointers g named s.memory) named (roles g s.memory) u) ≡ accept
    unfolding look_rows
    look_accepted = passed (look_rows g t (bad_pointers g named s.memory) named (roles g s.memory) u) (ap not wb, (ap not lf, (row_3, (look_row_4, (row_5, (row_6, tt))))))

    abbrev pub looked_at : CallResult Device StateView
    looked_at = look_result (look_call g t named s.memory) (shares_in g (present_in g named s.memory) s.memory) s.state s.memory

    pub look_claim : (looked_at ≡ record { answer = Finished; memory = s.memory; state = state_shown g named s.memory s.memory }) × Fits g s.ledger (shown_by g named s.memory s.memory)
    look_claim = (rw look_accepted refl, rw (seen, lost) looked.fits)

    -- its state is what the host holds
    pub held_claim : s.mode ≡ ready → (looked_at.state.lost ≡ s.lost) × SameZones g looked_at.state s.state
    unfolding showing
    held_claim m =
        let (marks, γ, r) = rest_of m in
        rw (look_accepted, seen, lost)
        (refl, record { generations = generation_held g ok s.lost u s.state (with_marks s.ledger marks) γ r; conditions = condition_held g ok s.lost u s.state (with_marks s.ledger marks) γ r })

    abbrev mount_called : StoringCall
    mount_called = call_of g t mounts named s.state s.memory

    -- what a finished mount shows is what a look after its last store shows, and a look fitted there
    pub mount_claim : MayMount s.mode → (stop : ℕ) → let r = (on_device g t).call mounts named s.state stop s.memory in
        r.answer ≡ Finished → (r.state ≡ state_shown g named s.memory r.memory) × Fits g s.ledger (shown_by g named s.memory r.memory)
    unfolding mount_shows
    mount_claim m stop e =
        let (p, q) = storing_finished (first_refusal mount_called.refusals) mount_called.stores mount_called.state s.state stop s.memory e in
        let xs = mount_stores g (present_but g s.lost) s.lost s.memory in
        let i = ((calls_owed g ok).mount s.lost s.memory s.ledger (invs_of g t s o m) (mount_allowed g ok t s o named names p)).0 (length xs) in
        let j : Halted g s.lost (apply_all xs s.memory) s.ledger = rw (take-length xs) at i in
        rw (p, q) (refl, rw (seen, lost) (halted_look g ok s.lost (apply_all xs s.memory) s.ledger j).fits)

    pub refused_claim : (stop n : ℕ) → ((on_device g t).call mounts named s.state stop s.memory).answer ≡ Refused n → n ≡ 14
    unfolding mount_rows
    refused_claim stop n e = by (refused_applies mount_called.refusals n (storing_refused (first_refusal mount_called.refusals) mount_called.stores mount_called.state s.state stop s.memory n e))
      where
        by : Applies (mount_rows g t (bad_pointers g named s.memory) named (roles g s.memory) u) n → n ≡ 14
        by (inl (k, b)) = not_both _ b (ap not wb)
        by (inr (r1, inl (k, b))) = not_both _ b (ap not lf)
        by (inr (r1, inr (r2, inl (k, b)))) = not_both _ b row_3
        by (inr (r1, inr (r2, inr (r3, inl (k, b))))) = not_both _ b look_row_4
        by (inr (r1, inr (r2, inr (r3, inr (r4, inl (k, b)))))) = not_both _ b row_5
        by (inr (r1, inr (r2, inr (r3, inr (r4, inr (r5, inl (k, b))))))) = not_both _ b row_6
        by (inr (r1, inr (r2, inr (r3, inr (r4, inr (r5, inr (r6, inl (k, b)))))))) = k
        by (inr (r1, inr (r2, inr (r3, inr (r4, inr (r5, inr (r6, inr (r14, none)))))))) = absurd none

    -- ---- flushes, resets and writes
    pub flush_claim : s.mode ≡ ready → (stop n : ℕ) → ((on_device g t).call flushes named s.state stop s.memory).answer ≢ Refused n
    unfolding flush_rows
    flush_claim m stop n e =
        let c = call_of g t flushes named s.state s.memory in
        let q = storing_refused (first_refusal c.refusals) c.stores c.state s.state stop s.memory n e in
        let p = passed c.refusals (row_1 m, (ap not lf, (row_3, (row_4 m, tt)))) in
        let a : accept ≡ refuse n = sym p ∙ q in
        let z : ◌≡◌ {A = ℕ} 0 1 = cc in
        omega arith

    pub reset_claim : s.mode ≡ ready → (z stop n : ℕ) → ((on_device g t).call (resets z) named s.state stop s.memory).answer ≡ Refused n → ResetRefusal g (s.state.generation z) z n
    unfolding reset_rows
    reset_claim m z stop n e =
        let c = call_of g t (resets z) named s.state s.memory in
        by (refused_applies c.refusals n (storing_refused (first_refusal c.refusals) c.stores c.state s.state stop s.memory n e))
      where
        worn : ltb z g.zones ≡ true → worn_for s.state z ≡ true → worn_generation ≤ s.state.generation z
        worn h b = cases (is_worn (s.state.condition z)) refl b
          where
            cases : (w : Bool) → is_worn (s.state.condition z) ≡ w → w || leb worn_generation (s.state.generation z) ≡ true → worn_generation ≤ s.state.generation z
            cases true e b = let (marks, γ, r) = rest_of m in le_of_eq (sym (worn_last g ok s.lost u s.state (with_marks s.ledger marks) γ r z (ltb-true z g.zones h) e))
            cases false e b = leb-true worn_generation (s.state.generation z) b

        by : Applies (reset_rows g t (bad_pointers g named s.memory) named s.state z (roles g s.memory) u) n → ResetRefusal g (s.state.generation z) z n
        by (inl (k, b)) = not_both _ b (row_1 m)
        by (inr (r1, inl (k, b))) = not_both _ b (ap not lf)
        by (inr (r1, inr (r2, inl (k, b)))) = not_both _ b row_3
        by (inr (r1, inr (r2, inr (r3, inl (k, b))))) = not_both _ b (row_4 m)
        by (inr (r1, inr (r2, inr (r3, inr (r4, inl (k, b)))))) = not_both _ b (row_7 m z)
        by (inr (r1, inr (r2, inr (r3, inr (r4, inr (r7, inl (k, b))))))) = no_such_zone k (ltb-false z g.zones (not_true (ltb z g.zones) b))
        by (inr (r1, inr (r2, inr (r3, inr (r4, inr (r7, inr (r8, inl (k, b)))))))) = worn_out k (worn (not_not (ltb z g.zones) r8) b)
        by (inr (r1, inr (r2, inr (r3, inr (r4, inr (r7, inr (r8, inr (r12, inl (k, b))))))))) = general_log_full k
        by (inr (r1, inr (r2, inr (r3, inr (r4, inr (r7, inr (r8, inr (r12, inr (r14, none))))))))) = absurd none

    -- a write, with the shares fitting the logs
    module _ (m : s.mode ≡ ready) (w : WriteAsked) where
      abbrev z : ℕ
      z = zone_asked g w

      abbrev end : ℕ
      end = end_asked g s.state w

      abbrev share : ℕ
      share = share_left g s.state w.host (zone_asked g w) (end_asked g s.state w)

      abbrev drive : ℕ
      drive = parity_drive_at g (zone_asked g w) (end_asked g s.state w)

      abbrev Cause : ℕ → Type 0
      Cause n = WriteRefusal g s.lost s.state w n

      abbrev lacks : Bool
      lacks = lacks_room g true (roles g s.memory) u (write_limit g end) drive

      -- log full: the entry is past its host's share. For one that is not fits the log, with the reserve
      past_share : Shared g t s → w.host < hosts → write_full g (call_present g named s.state) (roles g s.memory) u share z end ≡ true → PastShare g s.lost s.state w
      unfolding write_full
      past_share f host b =
          let (asked, why) = and_split (inside_stripe g end && present_but g s.lost drive) (ltb share (entry_size g end) || lacks) (rw (drives m) at b) in
          let (inside, here) = and_split (inside_stripe g end) (present_but g s.lost drive) asked in
          let (low, there) = and_split (ltb drive g.drives) (all_but s.lost drive) here in
          record { ends_inside = inside; drive_there = there; larger = larger (or_cases (ltb share (entry_size g end)) lacks why) (f m drive here) (ℕ_discrete w.host 0) }
        where
          larger : (ltb share (entry_size g end) ≡ true) ⊎ ((ltb share (entry_size g end) ≡ false) × (lacks ≡ true)) → SharesFit g s.memory s.state drive → Dec (w.host ≡ 0) → share < entry_size g end
          larger (inl q) k c = ltb-true share (entry_size g end) q
          larger (inr (p, q)) k c = short k (ltb-true (unused_in g true (roles g s.memory) u drive) (write_limit g end) q) (own c)
            where
              own : Dec (w.host ≡ 0) → share ≤ s.state.share (share_at drive 0) + s.state.share (share_at drive 1)
              own (yes e) = rw e (omega arith)
              own (no n) = let e : w.host ≡ 1 = omega (arith, n, host) in rw e (omega arith)

              short : SharesFit g s.memory s.state drive → unused_in g true (roles g s.memory) u drive < write_limit g end → share ≤ s.state.share (share_at drive 0) + s.state.share (share_at drive 1) → share < entry_size g end
              short (inl k) q t = omega (arith, k, q, t)
              short (inr (a, b)) q t = omega (arith, a, b, t)

      full_past : PastShare g s.lost s.state w → write_full g (call_present g named s.state) (roles g s.memory) u share z end ≡ true
      unfolding write_full
      full_past k =
          let low : drive < g.drives = parity_drive_below g.drives g.unit z (omega (arith, ok.drives_least)) ok.unit_least (stripe_of g.drives g.unit end) in
          let here : present_but g s.lost drive ≡ true = and_join (ltb drive g.drives) (all_but s.lost drive) (lt-ltb drive g.drives low) k.drive_there in
          rw (drives m, k.ends_inside, here, lt-ltb share (entry_size g end) k.larger) refl

      no_gone : ltb z g.zones ≡ true → gone_before g (call_present g named s.state) u z (s.state.generation z) (pointer_in (s.state.condition z)) ≡ false
      no_gone h = let (marks, γ, r) = rest_of m in rw (drives m) (before_fine g ok s.lost u s.state (with_marks s.ledger marks) γ r z (ltb-true z g.zones h))

      no_address : (n : ℕ) → n ≡ 8 → no_zone g z || no_host w.host ≡ true → Cause n
      no_address n k b = go (or_cases (no_zone g z) (no_host w.host) b)
        where
          go : (no_zone g z ≡ true) ⊎ ((no_zone g z ≡ false) × (no_host w.host ≡ true)) → Cause n
          go (inl q) = no_such_address k (ltb-false z g.zones (not_true (ltb z g.zones) q))
          go (inr (p, q)) = no_such_host k (ltb-false w.host hosts (not_true (ltb w.host hosts) q))

      run : (n : ℕ) → n ≡ 9 → bad_run g (offset_of g w.address) w.count ≡ true → Cause n
      run n k b = go (or_cases (eqb w.count 0) (ltb (zone_sectors g) (offset_of g w.address + w.count)) b)
        where
          go : (eqb w.count 0 ≡ true) ⊎ ((eqb w.count 0 ≡ false) × (ltb (zone_sectors g) (offset_of g w.address + w.count) ≡ true)) → Cause n
          go (inl p) = no_sectors k (eqb-true w.count 0 p)
          go (inr (p, q)) = past_the_end k (ltb-true (zone_sectors g) (offset_of g w.address + w.count) q)

      pub write_claim : Shared g t s → (stop n : ℕ) → ((on_device g t).call (writes w) named s.state stop s.memory).answer ≡ Refused n → WriteRefusal g s.lost s.state w n
      unfolding write_rows buffer_fits
      write_claim f stop n e =
          let c = call_of g t (writes w) named s.state s.memory in
          by (refused_applies c.refusals n (storing_refused (first_refusal c.refusals) c.stores c.state s.state stop s.memory n e))
        where
          by : Applies (call_of g t (writes w) named s.state s.memory).refusals n → Cause n
          by (inl (k, b)) = not_both _ b (row_1 m)
          by (inr (r1, inl (k, b))) = let fits = eqb (length w.buffer) (w.count * g.sector) in buffer_length k (eqb-false (length w.buffer) (w.count * g.sector) (rw lf at (not_true (tables_fit g t && fits) b)))
          by (inr (r1, inr (r2, inl (k, b)))) = not_both _ b row_3
          by (inr (r1, inr (r2, inr (r3, inl (k, b))))) = not_both _ b (row_4 m)
          by (inr (r1, inr (r2, inr (r3, inr (r4, inl (k, b)))))) = not_both _ b (row_7 m z)
          by (inr (r1, inr (r2, inr (r3, inr (r4, inr (r7, inl (k, b))))))) = no_address n k b
          by (inr (r1, inr (r2, inr (r3, inr (r4, inr (r7, inr (r8, inl (k, b)))))))) = run n k b
          by (inr (r1, inr (r2, inr (r3, inr (r4, inr (r7, inr (r8, inr (r9, inl (k, b))))))))) =
              let a = offset_of g w.address in
              let p = pointer_in (s.state.condition z) in not_at_pointer k (eqb-false a p (not_true (eqb a p) b))
          by (inr (r1, inr (r2, inr (r3, inr (r4, inr (r7, inr (r8, inr (r9, inr (r10, inl (k, b)))))))))) = sealed_zone k b
          by (inr (r1, inr (r2, inr (r3, inr (r4, inr (r7, inr (r8, inr (r9, inr (r10, inr (r11, inl (k, b))))))))))) = worn_zone k b
          by (inr (r1, inr (r2, inr (r3, inr (r4, inr (r7, inr (r8, inr (r9, inr (r10, inr (r11, inr (r12, inl (k, b)))))))))))) = host_at_limit k b
          by (inr (r1, inr (r2, inr (r3, inr (r4, inr (r7, inr (r8, inr (r9, inr (r10, inr (r11, inr (r12, inr (r18, inl (k, b))))))))))))) = no_more_open k b
          by (inr (r1, inr (r2, inr (r3, inr (r4, inr (r7, inr (r8, inr (r9, inr (r10, inr (r11, inr (r12, inr (r18, inr (r19, inl (k, b)))))))))))))) =
              share_used k (past_share f (ltb-true w.host hosts (not_not (ltb w.host hosts) (or_none (no_zone g z) (no_host w.host) r8).1)) b)
          by (inr (r1, inr (r2, inr (r3, inr (r4, inr (r7, inr (r8, inr (r9, inr (r10, inr (r11, inr (r12, inr (r18, inr (r19, inr (r14, inl (k, b))))))))))))))) =
              not_both _ b (no_gone (not_not (ltb z g.zones) (or_none (no_zone g z) (no_host w.host) r8).0))
          by (inr (r1, inr (r2, inr (r3, inr (r4, inr (r7, inr (r8, inr (r9, inr (r10, inr (r11, inr (r12, inr (r18, inr (r19, inr (r14, inr (r15, none))))))))))))))) = absurd none

      -- past its share no write is accepted
      pub share_claim : PastShare g s.lost s.state w → (stop : ℕ) → let a = ((on_device g t).call (writes w) named s.state stop s.memory).answer in (a ≢ Finished) × (a ≢ Unfinished)
      unfolding write_rows
      share_claim k stop =
          let c = call_of g t (writes w) named s.state s.memory in
          let no : first_refusal c.refusals ≡ accept → ⊥ = λ p. true≢false (sym (full_past k) ∙ accepted_row c.refusals p 14) in (
            λ e. no (storing_finished (first_refusal c.refusals) c.stores c.state s.state stop s.memory e).0,
            λ e. no (storing_unfinished (first_refusal c.refusals) c.stores c.state s.state stop s.memory e).0,
          )

    pub compact_claim : s.mode ≡ ready → (d stop n : ℕ) → ((on_device g t).call (compacts d) named s.state stop s.memory).answer ≡ Refused n → CompactRefusal g s.lost d n
    unfolding compact_rows
    compact_claim m d stop n e =
        let c = call_of g t (compacts d) named s.state s.memory in
        by (refused_applies c.refusals n (storing_refused (first_refusal c.refusals) c.stores c.state s.state stop s.memory n e))
      where
        row_7_all : stale_somewhere g (call_present g named s.state) u s.state ≡ false
        row_7_all = let (marks, γ, r) = rest_of m in rw (drives m) (stale_nowhere g ok s.lost u s.state (with_marks s.ledger marks) γ r)

        row_15 : gone_for_copies g (call_present g named s.state) (by_state g (call_present g named s.state) u s.state) u d ≡ false
        row_15 = let (marks, γ, r) = rest_of m in rw (drives m) (copies_fine g ok s.lost u s.state (with_marks s.ledger marks) γ r d)

        absent : present_but g s.lost d ≡ false → (g.drives ≤ d) ⊎ (d ≡ s.lost)
        absent q = go (dec_lt d g.drives) (ℕ_discrete d s.lost)
          where
            go : Dec (d < g.drives) → Dec (d ≡ s.lost) → (g.drives ≤ d) ⊎ (d ≡ s.lost)
            go (no h) c = inl (omega (arith, h))
            go (yes h) (yes c) = inr c
            go (yes h) (no c) = absurd (true≢false (sym (present_other g s.lost d h c) ∙ q))

        by : Applies (compact_rows g t (bad_pointers g named s.memory) named s.state d (roles g s.memory) u) n → CompactRefusal g s.lost d n
        by (inl (k, b)) = not_both _ b (row_1 m)
        by (inr (r1, inl (k, b))) = not_both _ b (ap not lf)
        by (inr (r1, inr (r2, inl (k, b)))) = not_both _ b row_3
        by (inr (r1, inr (r2, inr (r3, inl (k, b))))) = not_both _ b (row_4 m)
        by (inr (r1, inr (r2, inr (r3, inr (r4, inl (k, b)))))) = not_both _ b row_7_all
        by (inr (r1, inr (r2, inr (r3, inr (r4, inr (r7, inl (k, b))))))) = not_present k (absent (rw (drives m) at (not_true (call_present g named s.state d) b)))
        by (inr (r1, inr (r2, inr (r3, inr (r4, inr (r7, inr (r8, inl (k, b)))))))) = parity_log_full k
        by (inr (r1, inr (r2, inr (r3, inr (r4, inr (r7, inr (r8, inr (r14, inl (k, b))))))))) = not_both _ b row_15
        by (inr (r1, inr (r2, inr (r3, inr (r4, inr (r7, inr (r8, inr (r14, inr (r15, none))))))))) = absurd none

    -- ---- reads
    values : s.mode ≡ ready → (z : ℕ) → z < g.zones → (offset count : ℕ) → offset + count ≤ length (s.ledger.content z)
        → tabulate_from (value_at g (call_present g named s.state) u z (s.state.generation z)) offset count ≡ tabulate_from (at (s.ledger.content z)) offset count
    values m z h offset count k =
        let (marks, γ, r) = rest_of m in
        rw (drives m) (tabulate_from_cong (value_at g (present_but g s.lost) u z (s.state.generation z)) (at (s.ledger.content z)) offset offset count (λ i hi. (rest_known g ok s.lost u s.state (with_marks s.ledger marks) γ r z h (offset + i) (omega arith)).1))

    -- an answer "finished" is of an accepted call
    read_finished : (r : Verdict) (ss : List (List ℕ)) (out : List ℕ) → (read_result (giving r ss) out).answer ≡ Finished → r ≡ accept
    read_finished (refuse n) ss out e = absurd (let z : ◌≡◌ {A = ℕ} 0 1 = cc in omega arith)
    read_finished accept ss out e = refl

    pub read_claim : s.mode ≡ ready → (a count : ℕ) (out : List ℕ) → ((on_device g t).read named s.state a count out s.memory).answer ≡ Finished
        → (offset_of g a + count ≤ length (s.ledger.content (zone_of g a))) × (((on_device g t).read named s.state a count out s.memory).buffer ≡ content_bytes s.ledger (zone_of g a) (offset_of g a) count)
    unfolding read_rows
    read_claim m a count out e =
        let z = zone_of g a in
        let rows = read_rows g t (bad_pointers g named s.memory) named s.state a count (length out) u in
        let p = read_finished (first_refusal rows) (tabulate_from (value_at g (call_present g named s.state) u z (s.state.generation z)) (offset_of g a) count) out e in
        let h : z < g.zones = ltb-true z g.zones (not_not (ltb z g.zones) (accepted_row rows p 8)) in
        let n : offset_of g a + count ≤ length (s.ledger.content z) = omega (arith, ltb-false (pointer_in (s.state.condition z)) (offset_of g a + count) (accepted_row rows p 13), pointer_claim m z h) in
        (n, rw p (ap concat (values m z h (offset_of g a) count n)))

    pub read_accepted : s.mode ≡ ready → (a count : ℕ) (out : List ℕ) → zone_of g a < g.zones → zero < count → length out ≡ count * g.sector → offset_of g a + count ≤ pointer_in (s.state.condition (zone_of g a))
        → ((on_device g t).read named s.state a count out s.memory).answer ≡ Finished
    unfolding read_rows buffer_fits
    read_accepted m a count out h pos len k =
        let z = zone_of g a in
        let (marks, γ, r) = rest_of m in
        let n : offset_of g a + count ≤ length (s.ledger.content z) = omega (arith, pointer_claim m z h) in
        let fit : offset_of g a + count ≤ zone_sectors g = omega (arith, n, prefix_length (r.zones z h).live.front, (r.zones z h).live.fits) in
        let ne : eqb count 0 ≡ false = ne_eqb count 0 (λ q. omega arith) in
        let r2 : not (tables_fit g t && buffer_fits g count (length out)) ≡ false = ap not (and_join (tables_fit g t) (buffer_fits g count (length out)) lf (eq-eqb (length out) (count * g.sector) len)) in
        let r8 : not (ltb z g.zones) ≡ false = ap not (lt-ltb z g.zones h) in
        let r9 : eqb count 0 || ltb (zone_sectors g) (offset_of g a + count) ≡ false = rw (ne, le-ltb (zone_sectors g) (offset_of g a + count) fit) refl in
        let r13 = le-ltb (pointer_in (s.state.condition z)) (offset_of g a + count) k in
        let r15 : gone_in g (call_present g named s.state) u z (s.state.generation z) (offset_of g a) count ≡ false = rw (drives m) (gone_fine g ok s.lost u s.state (with_marks s.ledger marks) γ r z h (offset_of g a) count n) in
        let p = passed (read_rows g t (bad_pointers g named s.memory) named s.state a count (length out) u) (row_1 m, (r2, (row_3, (row_4 m, (row_7 m z, (r8, (r9, (r13, (r15, tt))))))))) in
        rw p refl

    -- ---- peeks
    peek_numbered : (r : Verdict) (p : Place) (v : Device) → Numbered r → (peek_result g (giving r p) v).number ≡ 0 → r ≡ accept
    peek_numbered (refuse n) p v h e = absurd (h e)
    peek_numbered accept p v h e = refl

    pub peek_claim : s.mode ≡ ready → (a : ℕ) → ((on_device g t).peek named s.state a s.memory).number ≡ 0
        → (offset_of g a < length (s.ledger.content (zone_of g a))) × (((on_device g t).peek named s.state a s.memory).from ≡ byte_of g (place_of g a))
        × (((on_device g t).peek named s.state a s.memory).part ≡ at (s.ledger.content (zone_of g a)) (offset_of g a))
    unfolding peek_rows
    peek_claim m a e =
        let z = zone_of g a in
        let (marks, γ, r) = rest_of m in
        let rows = peek_rows g t (bad_pointers g named s.memory) named s.state a u in
        let q = peek_numbered (first_refusal rows) (place_of g a) s.memory (numbered rows refl) e in
        let h : z < g.zones = ltb-true z g.zones (not_not (ltb z g.zones) (accepted_row rows q 8)) in
        let n : offset_of g a < length (s.ledger.content z) = omega (arith, ltb-false (pointer_in (s.state.condition z)) (offset_of g a + 1) (accepted_row rows q 13), pointer_claim m z h) in
        (n, rw q refl, rw (q, ← data_seen g s.memory (drive_of g.drives g.unit z (offset_of g a)) z) (rest_sector g ok s.lost u s.state (with_marks s.ledger marks) γ r z h (offset_of g a) n (rw (drives m) at (accepted_row rows q 15))))

    pub peek_accepted : s.mode ≡ ready → (a : ℕ) → zone_of g a < g.zones → offset_of g a < pointer_in (s.state.condition (zone_of g a)) → all_but s.lost (drive_of g.drives g.unit (zone_of g a) (offset_of g a)) ≡ true
        → ((on_device g t).peek named s.state a s.memory).number ≡ 0
    unfolding peek_rows
    peek_accepted m a h k p =
        let z = zone_of g a in
        let d = drive_of g.drives g.unit z (offset_of g a) in
        let (marks, γ, r) = rest_of m in
        let n : offset_of g a < length (s.ledger.content z) = omega (arith, pointer_claim m z h) in
        let l : d < g.drives = drive_below g.drives g.unit z (omega (arith, ok.drives_least)) ok.unit_least (offset_of g a) in
        let b : present_but g s.lost d ≡ true = and_join (ltb d g.drives) (not (eqb d s.lost)) (lt-ltb d g.drives l) p in
        let r8 : not (ltb z g.zones) ≡ false = ap not (lt-ltb z g.zones h) in
        let r13 = le-ltb (pointer_in (s.state.condition z)) (offset_of g a + 1) (omega arith) in
        let r15 : not_held g (call_present g named s.state) u z (s.state.generation z) (offset_of g a) ≡ false = rw (drives m) (rest_held g ok s.lost u s.state (with_marks s.ledger marks) γ r z h (offset_of g a) n b) in
        let q = passed (peek_rows g t (bad_pointers g named s.memory) named s.state a u) (row_1 m, (ap not lf, (row_3, (row_4 m, (row_7 m z, (r8, (r13, (r15, tt)))))))) in
        rw q refl

    -- ---- reports
    pub report_claim : s.mode ≡ ready → (list : List ZoneDescriptor) → report_on g s.state list ≡ report_shown g (shown_by g named s.memory s.memory) list
    report_claim m list =
        let k = shown_by g named s.memory s.memory in
        let e : looked_at.state ≡ state_shown g named s.memory s.memory = ap (λ (r : CallResult Device StateView). r.state) look_claim.0 in
        let same : (z : ℕ) → z < g.zones → s.state.condition z ≡ (k.zone z).condition = λ z h. sym ((held_claim m).1.conditions z h) ∙ ap (λ (r : StateView). r.condition z) e in
        report_finished g s.state (not_not (is_valid g && state_within g s.state) (row_1 m)) list ∙ report_same g s.state.condition (λ z. (k.zone z).condition) list same
