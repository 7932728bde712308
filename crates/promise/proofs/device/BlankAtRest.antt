-- BETWEEN FINISHED CALLS THE SPARES ARE BLANK, in every history: a format and a mount leave them so; a write, a flush, a reset and a compact keep them so, with the logs
-- that they empty; after a stopped call or a cut a mount has to finish first.
use Rattle.std.specs.Prelude.{◌≡◌, refl, ◌⊎◌, Bool, true, false, ℕ, ◌^◌, ◌<◌, List, length, take, ltb}
use Rattle.std.proofs.Common.{ap, ◌∙◌, arith}
use Rattle.tables.specs.meaning.Basics.{pick}
use Rattle.tables.specs.meaning.Device.{ZoneView, Device, Store, apply_all, Loss}
use Rattle.tables.specs.laws.Device.{loss_at}
use Rattle.tables.specs.meaning.Drives.{no_drive, present_but}
use Rattle.tables.specs.laws.Drives.{present_below, present_not}
use Rattle.tables.specs.declared.Geometry.{Geometry}
use Rattle.tables.specs.meaning.Geometry.{Valid}
use Rattle.logs.specs.meaning.Entry.{spare_zone}
use Rattle.volume.specs.declared.Answer.TheVariants.{Finished, Unfinished}
use Rattle.volume.specs.meaning.State.{StateView}
use Rattle.volume.specs.meaning.Roles.{by_roles}
use Rattle.volume.specs.meaning.Calls.{format_stores}
use Rattle.volume.specs.meaning.Refusals.{Verdict, refuse, accept, TableLengths, zone_asked, first_refusal}
use Rattle.volume.specs.meaning.Answers.{CallResult, storing, sectors_in}
use Rattle.volume.specs.laws.SpareZone.{format_clears}
use Rattle.promise.specs.meaning.Claim.{Call, mounts, writes, flushes, resets, formats, compacts, ready, mode_after, System, Event, calls, looks, reads, peeks, reports, cuts, loses, next, NamesAll, Duty}
use Rattle.promise.specs.meaning.OnDevice.{call_of, on_device}
use Rattle.promise.proofs.invariant.CrashKeeps.{present_before}
use Rattle.promise.proofs.roles.FormatRoles.{format_seen}
use Rattle.promise.proofs.emptying.BlankSpares.{BlankSpares, blank_same}
use Rattle.promise.proofs.emptying.FlushedRests.{flush_sectors}
use Rattle.promise.proofs.emptying.MountWhole.{mount_blank}
use Rattle.promise.proofs.device.Marks.{with_marks}
use Rattle.promise.proofs.device.AcceptedCalls.{reset_accepted}
use Rattle.promise.proofs.device.AtRestAnswers.{format_lost, format_drives}
use Rattle.promise.proofs.device.ClaimEvents.{Ok, rests_of, invs_of, drives_of_call, drives_of_look, lost_of_look, mount_allowed, write_fits, compact_fits}
use Rattle.promise.proofs.device.PlainCalls.{write_blank}
use Rattle.promise.proofs.device.CompactCall.{compact_leaves_blank}
use Rattle.promise.proofs.device.ResetCall.{reset_blank}

-- ---- a format, and the loss of a drive
pub format_blank : (g : Geometry) → Valid g → (x a : ℕ) (v : Device) → (x ≡ no_drive) ⊎ (x < g.drives) → a < 256 ^ 8 → BlankSpares g x (apply_all (format_stores g (present_but g x) x a) v)
format_blank g ok x a v lost ha d h = ap (λ (z : ZoneView). z.sectors) (format_seen g ok x a v lost ha d h spare_zone) ∙ format_clears g (present_but g x) x a v d (present_below g x d h) h

pub loss_blank : (g : Geometry) → Valid g → (x y : ℕ) (v w : Device) → (x ≡ no_drive) ⊎ (x ≡ y) → Loss y v w → BlankSpares g x v → BlankSpares g y w
loss_blank g ok x y v w one lo b = blank_same g y v w (λ e z a. ap (λ (t : ZoneView). t.sectors) (loss_at y v w lo e z (present_not g y e a))) (λ d a. b d (present_before g ok x y one d a))

-- ---- at a point of a history
abbrev pub BlankAtRest : (g : Geometry) (t : TableLengths) → System (on_device g t) → Type 0
BlankAtRest g t s = s.mode ≡ ready → BlankSpares g s.lost s.memory

module _ (g : Geometry) (ok : Valid g) (t : TableLengths) (s : System (on_device g t)) (o : Ok g t s) (b : BlankAtRest g t s) where
  -- a call that stores, by its answer
  by_answer : (r : Verdict) (xs : List Store) (new : StateView) (stop : ℕ) → (r ≡ accept → BlankSpares g s.lost (apply_all xs s.memory))
      → let q = storing r xs new s.state stop s.memory in mode_after q.answer s.mode ≡ ready → BlankSpares g s.lost q.memory
  by_answer (refuse n) xs new stop h m = b m
  by_answer accept xs new stop h m = go (ltb stop (length xs)) m
    where
      go : (c : Bool) → let q : CallResult Device StateView = pick c (record { answer = Unfinished; memory = apply_all (take stop xs) s.memory; state = s.state }) (record { answer = Finished; memory = apply_all xs s.memory; state = new }) in
          mode_after q.answer s.mode ≡ ready → BlankSpares g s.lost q.memory
      go true m = absurd (let z : ◌≡◌ {A = ℕ} 0 1 = cc in omega arith)
      go false m = h refl

  module _ (named : ℕ → Bool) (names : NamesAll g (on_device g t) s named) where
    -- finished
    Leaves : Call → Type 0
    Leaves c = let k = call_of g t c named s.state s.memory in first_refusal k.refusals ≡ accept → BlankSpares g s.lost (apply_all k.stores s.memory)

    call_leaves : (c : Call) (stop : ℕ) → Duty g (on_device g t) s (calls c named stop) → Leaves c
    unfolding Leaves
    call_leaves mounts stop (n, m, q) p =
        let (k, c, above, ri) = invs_of g t s o m in
        rw (drives_of_look g ok t s o named names, lost_of_look g ok t s o named names) (mount_blank g ok s.lost s.memory (with_marks s.ledger c) k ri (mount_allowed g ok t s o named names p))
    call_leaves (writes asked) stop (n, m, q) p =
        rw (drives_of_call g ok t s o named names m) (write_blank g ok s.lost s.memory s.state s.ledger (zone_asked g asked) (sectors_in g asked.count asked.buffer) (write_fits g ok t s o named names m asked p) (rests_of g t s o m) (b m))
    call_leaves flushes stop (n, m, q) p = rw (drives_of_call g ok t s o named names m) (blank_same g s.lost s.memory _ (flush_sectors g s.lost s.memory) (b m))
    call_leaves (resets z) stop (n, m, q) p =
        let e = drives_of_call g ok t s o named names m in
        let ra = reset_accepted g t named s.state s.memory z p in
        rw e (reset_blank g ok s.lost s.memory s.state s.ledger z (rests_of g t s o m) (rw e at ra) (b m))
    call_leaves (formats array) stop (n, m, (h, q)) p =
        let (k, c, a, (st, (γ, r, same))) = rests_of g t s o m in
        rw (format_drives g s.lost named names.drives, format_lost g ok s.lost (by_roles g s.memory) γ r.logs named names.drives) (format_blank g ok s.lost array s.memory r.logs.lost_ok h)
    call_leaves (compacts d) stop (n, m, q) p =
        rw (drives_of_call g ok t s o named names m) (compact_leaves_blank g ok s.lost s.memory s.state s.ledger d (compact_fits g ok t s o named names m d p) (rests_of g t s o m) (b m))

    call_blank : (c : Call) (stop : ℕ) → Duty g (on_device g t) s (calls c named stop) → BlankAtRest g t (next g (on_device g t) s (calls c named stop))
    unfolding Leaves
    call_blank c stop d = let k = call_of g t c named s.state s.memory in by_answer (first_refusal k.refusals) k.stores k.state stop (call_leaves c stop d)

  -- EVERY EVENT KEEPS IT
  pub event_blank : (e : Event (on_device g t)) → Duty g (on_device g t) s e → BlankAtRest g t (next g (on_device g t) s e)
  event_blank (calls c named stop) d = call_blank named d.0 c stop d
  event_blank (looks named) d = b
  event_blank (reads named a count out) d = b
  event_blank (peeks named a) d = b
  event_blank (reports list) d = b
  event_blank (cuts w) d = λ m. absurd (let z : ◌≡◌ {A = ℕ} 0 1 = cc in omega arith)
  event_blank (loses y w) (h, one, lo) = λ m. loss_blank g ok s.lost y s.memory w one lo (b m)
