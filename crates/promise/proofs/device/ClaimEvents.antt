-- Every event of a host that does its duties keeps the invariant: a finished call leaves all at rest, a stopped one, a cut and a loss leave
-- what the next mount can work from.
use Rattle.std.specs.Prelude.{◌≡◌, refl, ◌⊎◌, Bool, true, false, ◌&&◌, not, ℕ, ◌^◌, ◌<◌, List, length, take, ltb, eqb}
use Rattle.std.proofs.Common.{◌∙◌, subst, inl, inr, arith, ltb-true, ne_eqb}
use Rattle.std.proofs.Math.Path.{fun_ext}
use Rattle.logs.specs.code.Lays.{and_true}
use Rattle.tables.specs.laws.Basics.{and_same}
use Rattle.tables.specs.meaning.Basics.{pick}
use Rattle.tables.specs.meaning.Device.{Device, Store, apply_all}
use Rattle.tables.specs.declared.Geometry.{Geometry}
use Rattle.tables.specs.meaning.Geometry.{Valid}
use Rattle.tables.specs.meaning.Drives.{no_drive, present_but}
use Rattle.volume.specs.meaning.Rules.{showing}
use Rattle.volume.specs.meaning.State.{StateView, with_shares, call_present}
use Rattle.volume.specs.meaning.Roles.{roles, by_roles}
use Rattle.volume.specs.meaning.Emptying.{by_state, by_look}
use Rattle.volume.specs.meaning.Calls.{write_state, format_stores, format_state}
use Rattle.volume.specs.meaning.Hosts.{shares_in, fresh_shares, written_state, compact_state}
use Rattle.volume.specs.meaning.Mount.{mount_stores, mount_shows, mount_state, shown_state}
use Rattle.volume.specs.meaning.Refusals.{Verdict, refuse, accept, TableLengths, WriteAsked, zone_asked, format_rows, mount_rows, write_rows, reset_rows, compact_rows, first_refusal, bad_pointers, look_rows}
use Rattle.volume.specs.meaning.Answers.{CallResult, storing, lost_in, left_out, named_drives, sectors_in, giving, present_in, lost_drive_in}
use Rattle.volume.specs.declared.Answer.TheVariants.{Finished, Unfinished, Refused}
use Rattle.promise.specs.meaning.Ledger.{Ledger, fresh_ledger, after_write, after_flush, after_mount}
use Rattle.promise.specs.meaning.Claim.{Call, mounts, writes, flushes, resets, formats, compacts, Mode, ready, stopped, down, System, Event, calls, looks, reads, peeks, reports, cuts, loses, settled, ledger_after, next, NotStopped, NamesAll, MayMount, Duty, all_but}
use Rattle.promise.specs.meaning.OnDevice.{call_of, on_device, look_result, shown_by, state_shown}
use Rattle.promise.proofs.invariant.Obligations.{never_emptied, WriteOk}
use Rattle.promise.proofs.invariant.RoomAsked.{ResetAccepted, CompactAccepted, MountAccepted}
use Rattle.promise.proofs.look.LookRest.{look_rests}
use Rattle.promise.proofs.roles.RoledCalls.{roled_format}
use Rattle.promise.proofs.device.AcceptedCalls.{present_same, call_same, found_same, sectors_length, write_accepted, reset_accepted, compact_accepted, mount_accepted}
use Rattle.promise.proofs.device.AtRestAnswers.{lost_in_lem, format_lost, format_drives}
use Rattle.promise.proofs.device.Marks.{with_marks}
use Rattle.promise.proofs.device.Modes.{SomeRests, SomeInvs, OkIn, own_rests, read_some, rests_invs, lose_in, cut_in}
use Rattle.promise.proofs.device.Looks.{LookFine, look_in}
use Rattle.promise.proofs.device.PlainCalls.{flush_halted, flush_done}
use Rattle.promise.proofs.device.CallsOwed.{CallsOwed}
use Rattle.promise.proofs.device.CallsProved.{calls_owed}

-- the drives that a call reaches are those not lost
pub call_present_lem : (g : Geometry) → Valid g → (x : ℕ) (state : StateView) → (state.lost ≡ no_drive) ⊎ (state.lost ≡ x) → call_present g (all_but x) state ≡ present_but g x
unfolding call_present
call_present_lem g ok x state h = fun_ext λ d. go d (ltb d g.drives) refl (eqb d x) h
  where
    far : (d : ℕ) → ltb d g.drives ≡ true → state.lost ≡ no_drive → eqb d state.lost ≡ false
    far d p e = ne_eqb d state.lost (λ q. omega (arith, ltb-true d g.drives p, ok.drives_most))

    go : (d : ℕ) (b : Bool) → ltb d g.drives ≡ b → (c : Bool) → (state.lost ≡ no_drive) ⊎ (state.lost ≡ x) → ltb d g.drives && (not (eqb d x) && not (eqb d state.lost)) ≡ ltb d g.drives && not (eqb d x)
    go d true p c (inl e) = rw (p, far d p e) (and_true (not (eqb d x)))
    go d true p c (inr e) = rw (p, e) (and_same (not (eqb d x)))
    go d false p c q = rw p refl

-- (t: the lengths of the tables)
abbrev pub Ok : (g : Geometry) (t : TableLengths) → System (on_device g t) → Type 0
Ok g t s = OkIn g s.mode s.lost s.memory s.state s.ledger

module _ (g : Geometry) (t : TableLengths) (s : System (on_device g t)) (o : Ok g t s) where
  pub rests_of : s.mode ≡ ready → SomeRests g s.lost s.memory s.state s.ledger
  rests_of m = subst (λ (n : Mode). OkIn g n s.lost s.memory s.state s.ledger) m o

  -- where mounts may come
  pub invs_of : MayMount s.mode → SomeInvs g s.lost s.memory s.ledger
  invs_of m = go s.mode m o
    where
      go : (n : Mode) → MayMount n → OkIn g n s.lost s.memory s.state s.ledger → SomeInvs g s.lost s.memory s.ledger
      go ready m o = rests_invs g s.lost s.memory s.state s.ledger o
      go stopped m o = absurd m
      go down m o = o

-- with other shares
shared_rests : (g : Geometry) (x : ℕ) (v : Device) (share : ℕ → ℕ) (state : StateView) (l : Ledger) → SomeRests g x v state l → SomeRests g x v (with_shares share state) l
shared_rests g x v share state l r = read_some g x v state (with_shares share state) l (λ h. h) (record { generations = λ z h. refl; conditions = λ z h. refl }) r

-- with a look's state in place of what the host held
shown_rests : (g : Geometry) → Valid g → (x : ℕ) (v : Device) (state : StateView) (l : Ledger) → SomeRests g x v state l → SomeRests g x v (shown_state g (present_but g x) x v) l
shown_rests g ok x v state l (k, c, a, (s, r)) =
    shared_rests g x v (shares_in g (present_but g x) v) (mount_state (showing g (present_but g x) x (by_roles g v))) l (k, c, a, (s, look_rests g ok k x (by_roles g v) state (with_marks l c) r))

shown_in_lem : (g : Geometry) → Valid g → (m : Mode) (x : ℕ) (v : Device) (state : StateView) (l : Ledger) → OkIn g m x v state l → OkIn g m x v (shown_state g (present_but g x) x v) l
shown_in_lem g ok ready x v state l o = shown_rests g ok x v state l o
shown_in_lem g ok stopped x v state l o = o
shown_in_lem g ok down x v state l o = o

module _ (g : Geometry) (ok : Valid g) (t : TableLengths) where
  abbrev owed : CallsOwed g
  owed = calls_owed g ok

  module _ (s : System (on_device g t)) (o : Ok g t s) where
    pub fine : LookFine g s.lost s.memory s.ledger
    fine = look_in g ok s.mode s.lost s.memory s.state s.ledger o

    -- ---- what a call that stores leaves, by its answer
    abbrev stopped_result : List Store → ℕ → CallResult Device StateView
    stopped_result xs stop = record { answer = Unfinished; memory = apply_all (take stop xs) s.memory; state = s.state }

    abbrev finished_result : List Store → StateView → CallResult Device StateView
    finished_result xs new = record { answer = Finished; memory = apply_all xs s.memory; state = new }

    by_answer : (r : Verdict) (xs : List Store) (new : StateView) (stop : ℕ) (l : CallResult Device StateView → Ledger)
        → ((n : ℕ) → l (record { answer = Refused n; memory = s.memory; state = s.state }) ≡ s.ledger)
        → (r ≡ accept → OkIn g stopped s.lost (apply_all (take stop xs) s.memory) s.state (l (stopped_result xs stop)))
        → (r ≡ accept → OkIn g ready s.lost (apply_all xs s.memory) new (l (finished_result xs new)))
        → Ok g t (settled g (on_device g t) s (storing r xs new s.state stop s.memory) (l (storing r xs new s.state stop s.memory)))
    by_answer (refuse n) xs new stop l a b c = rw (a n) o
    by_answer accept xs new stop l a b c = go (ltb stop (length xs))
      where
        go : (q : Bool) → let r : CallResult Device StateView = pick q (stopped_result xs stop) (finished_result xs new) in Ok g t (settled g (on_device g t) s r (l r))
        go true = b refl
        go false = c refl

    -- ---- a call by a host that names every drive not lost
    module _ (named : ℕ → Bool) (names : NamesAll g (on_device g t) s named) where
      -- the drives of a call, and of a look or mount, are those not lost
      pub drives_of_call : s.mode ≡ ready → call_present g named s.state ≡ present_but g s.lost
      drives_of_call m = let (k, c, a, (st, (γ, r, same))) = rests_of g t s o m in call_same g named (all_but s.lost) names.drives s.state ∙ call_present_lem g ok s.lost s.state r.lost_is

      pub drives_of_look : present_in g named s.memory ≡ present_but g s.lost
      drives_of_look = present_same g named (all_but s.lost) names.drives (by_roles g s.memory) ∙ fine.present

      pub lost_of_look : lost_drive_in g named s.memory ≡ s.lost
      lost_of_look = found_same g named (all_but s.lost) names.drives (by_roles g s.memory) ∙ fine.lost

      pub lost_of_call : s.mode ≡ ready → lost_in g named s.state ≡ s.lost
      lost_of_call m = let (k, c, a, (st, (γ, r, same))) = rests_of g t s o m in lost_in_lem g ok s.lost (by_roles g s.memory) γ r.logs named s.state (drives_of_call m)

      pub mount_allowed : first_refusal (mount_rows g t (bad_pointers g named s.memory) named (roles g s.memory) (by_roles g s.memory)) ≡ accept
          → MountAccepted g (present_but g s.lost) (roles g s.memory) (by_roles g s.memory) (by_look (showing g (present_but g s.lost) s.lost (by_roles g s.memory)))
      mount_allowed p = rw (drives_of_look, lost_of_look) at (mount_accepted g t named s.memory p)

      -- what call c owes: the invariant after a part of its stores, and rest after all of them
      abbrev Owed : Call → ℕ → Type 0
      Owed c stop = Ok g t (next g (on_device g t) s (calls c named stop))

      by_call : (c : Call) (stop : ℕ) → let k = call_of g t c named s.state s.memory in let l = ledger_after g (on_device g t) s c named in
          ((n : ℕ) → l (record { answer = Refused n; memory = s.memory; state = s.state }) ≡ s.ledger)
          → (first_refusal k.refusals ≡ accept → OkIn g stopped s.lost (apply_all (take stop k.stores) s.memory) s.state (l (stopped_result k.stores stop)))
          → (first_refusal k.refusals ≡ accept → OkIn g ready s.lost (apply_all k.stores s.memory) k.state (l (finished_result k.stores k.state))) → Owed c stop
      by_call c stop = let k = call_of g t c named s.state s.memory in by_answer (first_refusal k.refusals) k.stores k.state stop (ledger_after g (on_device g t) s c named)

      pub write_fits : s.mode ≡ ready → (asked : WriteAsked) → first_refusal (write_rows g t (bad_pointers g named s.memory) named s.state asked (roles g s.memory) (by_roles g s.memory)) ≡ accept
          → WriteOk g (present_but g s.lost) (by_roles g s.memory) s.state (zone_asked g asked) (sectors_in g asked.count asked.buffer)
      write_fits m asked p = rw (drives_of_call m) at (write_accepted g t named s.state s.memory asked p)

      pub compact_fits : s.mode ≡ ready → (d : ℕ) → first_refusal (compact_rows g t (bad_pointers g named s.memory) named s.state d (roles g s.memory) (by_roles g s.memory)) ≡ accept
          → CompactAccepted g (present_but g s.lost) (roles g s.memory) (by_roles g s.memory) (by_state g (present_but g s.lost) (by_roles g s.memory) s.state) d
      compact_fits m d p = rw (drives_of_call m) at (compact_accepted g t named s.state s.memory d p)

      write_event : s.mode ≡ ready → (asked : WriteAsked) (stop : ℕ) → Owed (writes asked) stop
      write_event m asked stop =
          let v = s.memory in
          let z = zone_asked g asked in
          let ss = sectors_in g asked.count asked.buffer in
          let e = drives_of_call m in
          let left = s.lost in
          by_call (writes asked) stop (λ n. refl)
          (λ p. rw e ((owed.write left v s.state s.ledger z ss (rests_of g t s o m) (write_fits m asked p)).0 stop))
          (λ p. rw (e, lost_of_call m) (read_some g left _ (write_state left s.state z asked.count) (written_state g (present_but g left) left asked.host s.state z asked.count) (after_write s.ledger z ss) (λ h. h)
          (record { generations = λ y h. refl; conditions = λ y h. refl }) (rw (sectors_length g asked.count asked.buffer) at (owed.write left v s.state s.ledger z ss (rests_of g t s o m) (write_fits m asked p)).1)))

      compact_event : s.mode ≡ ready → (d stop : ℕ) → Owed (compacts d) stop
      compact_event m d stop =
          let v = s.memory in
          let e = drives_of_call m in
          let left = s.lost in
          by_call (compacts d) stop (λ n. refl)
          (λ p. rw e ((owed.compact left v s.state s.ledger d (rests_of g t s o m) (compact_fits m d p)).0 stop))
          (λ p. rw (e, lost_of_call m) (read_some g left _ s.state (compact_state g (present_but g left) left (by_roles g v) s.state d) s.ledger (λ h. inr refl)
          (record { generations = λ y h. refl; conditions = λ y h. refl }) (owed.compact left v s.state s.ledger d (rests_of g t s o m) (compact_fits m d p)).1))

      flush_event : s.mode ≡ ready → (stop : ℕ) → Owed flushes stop
      flush_event m stop =
          let e = drives_of_call m in
          let c = call_of g t flushes named s.state s.memory in
          let done = finished_result c.stores c.state in
          let (k, r) = flush_done g ok s.lost s.memory s.state s.ledger (rests_of g t s o m) in
          by_call flushes stop (λ n. refl)
          (λ p. rw e (flush_halted g ok s.lost s.memory s.ledger stop (rests_invs g s.lost s.memory s.state s.ledger (rests_of g t s o m))))
          (λ p. own_rests k g s.lost done.memory done.state (after_flush s.ledger) (rw (e, lost_of_call m) r))

      reset_event : s.mode ≡ ready → (z stop : ℕ) → Owed (resets z) stop
      reset_event m z stop =
          let v = s.memory in
          let e = drives_of_call m in
          let accepted : first_refusal (reset_rows g t (bad_pointers g named v) named s.state z (roles g v) (by_roles g v)) ≡ accept
          → ResetAccepted g (present_but g s.lost) (roles g v) (by_roles g v) (by_state g (present_but g s.lost) (by_roles g v) s.state) s.state z = λ p. rw e at (reset_accepted g t named s.state v z p) in
          by_call (resets z) stop (λ n. refl)
          (λ p. rw e ((owed.reset s.lost v s.state s.ledger z (rests_of g t s o m) (accepted p)).0 stop))
          (λ p. rw (e, lost_of_call m) (owed.reset s.lost v s.state s.ledger z (rests_of g t s o m) (accepted p)).1)

      mount_event : MayMount s.mode → (stop : ℕ) → Owed mounts stop
      unfolding mount_shows
      mount_event m stop =
          by_call mounts stop (λ n. refl)
          (λ p. rw (drives_of_look, lost_of_look) ((owed.mount s.lost s.memory s.ledger (invs_of g t s o m) (mount_allowed p)).0 stop))
          (λ p. let v = s.memory in
          let w = apply_all (mount_stores g (present_but g s.lost) s.lost v) v in
          rw (drives_of_look, lost_of_look) (shared_rests g s.lost w (shares_in g (present_but g s.lost) w) (mount_state (mount_shows g (present_but g s.lost) s.lost v)) (after_mount (mount_shows g (present_but g s.lost) s.lost v))
          (owed.mount s.lost v s.ledger (invs_of g t s o m) (mount_allowed p)).1))

      abbrev FormatLeaves : ℕ → CallResult Device StateView → Type 0
      FormatLeaves array r = NotStopped r.answer → Ok g t (settled g (on_device g t) s r (ledger_after g (on_device g t) s (formats array) named r))

      format_event : s.mode ≡ ready → (array stop : ℕ) → array < 256 ^ 8 → NotStopped ((on_device g t).call (formats array) named s.state stop s.memory).answer → Owed (formats array) stop
      format_event m array stop h n = go (first_refusal (format_rows g t (bad_pointers g named s.memory) named s.memory)) n
        where
          xs : List Store
          xs = format_stores g (named_drives g named) (left_out g named) array

          x : StateView
          x = with_shares (fresh_shares g (named_drives g named)) (format_state (left_out g named))

          done : OkIn g ready s.lost (apply_all xs s.memory) x fresh_ledger
          done =
              let (k, c, a, (st, (γ, r, same))) = rests_of g t s o m in
              shared_rests g s.lost (apply_all xs s.memory) (fresh_shares g (named_drives g named)) (format_state (left_out g named)) fresh_ledger (own_rests never_emptied g s.lost (apply_all xs s.memory) (format_state (left_out g named)) fresh_ledger
              (rw (format_drives g s.lost named names.drives, format_lost g ok s.lost (by_roles g s.memory) γ r.logs named names.drives) (roled_format g ok s.lost array s.memory r.logs.lost_ok h)))

          cases : (b : Bool) → FormatLeaves array (pick b (stopped_result xs stop) (finished_result xs x))
          cases true n = absurd n
          cases false n = done

          go : (r : Verdict) → FormatLeaves array (storing r xs x s.state stop s.memory)
          go (refuse k) n = o
          go accept n = cases (ltb stop (length xs)) n

      -- with a look's state in place of what the host holds
      pub look_held : OkIn g s.mode s.lost s.memory ((on_device g t).look named s.state s.memory).state s.ledger
      look_held = go (first_refusal (look_rows g t (bad_pointers g named s.memory) named (roles g s.memory) (by_roles g s.memory)))
        where
          shown : OkIn g s.mode s.lost s.memory (state_shown g named s.memory s.memory) s.ledger
          shown = rw (drives_of_look, lost_of_look) (shown_in_lem g ok s.mode s.lost s.memory s.state s.ledger o)

          go : (r : Verdict) → OkIn g s.mode s.lost s.memory (look_result (giving r (shown_by g named s.memory s.memory)) (shares_in g (present_in g named s.memory) s.memory) s.state s.memory).state s.ledger
          go (refuse n) = o
          go accept = shown

      call_keeps : (c : Call) (stop : ℕ) → Duty g (on_device g t) s (calls c named stop) → Owed c stop
      call_keeps mounts stop (b, m, q) = mount_event m stop
      call_keeps (writes asked) stop (b, m, q) = write_event m asked stop
      call_keeps flushes stop (b, m, q) = flush_event m stop
      call_keeps (resets z) stop (b, m, q) = reset_event m z stop
      call_keeps (formats array) stop (b, m, (h, n)) = format_event m array stop h n
      call_keeps (compacts d) stop (b, m, q) = compact_event m d stop

    -- EVERY EVENT KEEPS IT
    pub event_keeps : (e : Event (on_device g t)) → Duty g (on_device g t) s e → Ok g t (next g (on_device g t) s e)
    event_keeps (calls c named stop) d = call_keeps named d.0 c stop d
    event_keeps (looks named) d = o
    event_keeps (reads named a count out) d = o
    event_keeps (peeks named a) d = o
    event_keeps (reports list) d = o
    event_keeps (cuts w) c = cut_in g s.mode s.lost s.memory w s.state s.ledger o c
    event_keeps (loses d w) (h, e, c) = lose_in g ok s.mode s.lost d s.memory w s.state s.ledger h e c o
