-- THE CLAIM ON DRIVES THAT CACHE RESETS: every event of a history keeps what holds in its mode (CachedModes), so what is promised holds at every point of it;
-- from what the calls that may empty logs owe there (CachesOwed).
use Rattle.std.specs.Prelude.{◌≡◌, refl, Bool, true, false, ℕ, ◌^◌, ◌<◌, List, length, take, ltb}
use Rattle.std.proofs.Common.{sym, ap, ◌∙◌, subst, inr, arith, take_all, ltb-false}
use Rattle.tables.specs.meaning.Basics.{pick}
use Rattle.tables.specs.laws.Basics.{not_not}
use Rattle.tables.specs.meaning.Device.{Device, Store, apply_all}
use Rattle.tables.specs.meaning.Cached.{Caching, apply_all_caching}
use Rattle.tables.specs.laws.Cached.{now_is}
use Rattle.tables.specs.meaning.Drives.{present_but}
use Rattle.tables.specs.laws.Drives.{present_not}
use Rattle.tables.specs.declared.Geometry.{Geometry}
use Rattle.tables.specs.meaning.Geometry.{Valid}
use Rattle.tables.specs.meaning.GeometryTest.{is_valid}
use Rattle.tables.specs.laws.GeometryTest.{valid_if_test}
use Rattle.volume.specs.meaning.State.{StateView, with_shares, call_present}
use Rattle.volume.specs.meaning.Roles.{roles, by_roles}
use Rattle.volume.specs.meaning.Emptying.{by_state}
use Rattle.volume.specs.meaning.Calls.{write_state, format_stores, format_state}
use Rattle.volume.specs.meaning.Hosts.{shares_in, fresh_shares, written_state, compact_state}
use Rattle.volume.specs.meaning.Mount.{mount_stores, mount_shows, mount_state}
use Rattle.volume.specs.meaning.Refusals.{Verdict, refuse, accept, TableLengths, WriteAsked, zone_asked, tables_fit, format_rows, reset_rows, first_refusal, bad_pointers}
use Rattle.volume.specs.meaning.Answers.{CallResult, storing, lost_in, left_out, named_drives, sectors_in}
use Rattle.volume.specs.declared.Answer.TheVariants.{Finished, Unfinished, Refused}
use Rattle.volume.specs.laws.Refusals.{accepted_row}
use Rattle.promise.specs.meaning.Ledger.{Ledger, fresh_ledger, after_write, after_mount}
use Rattle.promise.specs.meaning.Claim.{Call, mounts, writes, flushes, resets, formats, compacts, Mode, ready, stopped, down, System, Event, calls, looks, reads, peeks, reports, cuts, loses, settled, ledger_after, next, MayMount, NotStopped, NamesAll, Duty, Promise, start}
use Rattle.promise.specs.meaning.OnDevice.{call_of, on_device}
use Rattle.promise.specs.meaning.Caches.{WithCaches, made_by, remembered_after, device_caches, on_caching_device, CachingDeviceClaim, beneath}
use Rattle.promise.proofs.invariant.Throughout.{throughout}
use Rattle.promise.proofs.invariant.RoomAsked.{ResetAccepted}
use Rattle.promise.proofs.invariant.Delayed.{PutBack}
use Rattle.promise.proofs.device.AcceptedCalls.{storing_finished, sectors_length, reset_accepted}
use Rattle.promise.proofs.device.AtRestAnswers.{format_lost, format_drives, left_out_lem, drives_named}
use Rattle.promise.proofs.device.Modes.{SomeInvs, OkIn, rests_invs}
use Rattle.promise.proofs.device.ClaimEvents.{Ok, drives_of_call, drives_of_look, lost_of_look, lost_of_call, mount_allowed, write_fits, compact_fits}
use Rattle.promise.proofs.device.SharesKept.{SharesKept, Shared, format_shares, event_shares}
use Rattle.promise.proofs.device.ClaimProof.{kept}
use Rattle.promise.proofs.device.CachedModes.{now_back, forgotten_is, RestsCached, HaltedCached, OkCached, read_cached, halted_in, cached_cut, lose_cached}
use Rattle.promise.proofs.device.CachedPromise.{names_beneath, cached_promise, beneath_keeps}
use Rattle.promise.proofs.device.CachedOwed.{WriteOwesCached, ResetOwesCached, CompactOwesCached, mount_owes_cached, flush_owes_cached, format_rests_cached}

-- what a write and the calls that may empty logs outside a mount owe
pub record CachesOwed (g : Geometry) : Type 0 where
  pub write : WriteOwesCached g
  pub reset : ResetOwesCached g
  pub compact : CompactOwesCached g

-- the device with its caches, and after stores
abbrev pub caching_of : WithCaches Device → Caching
caching_of m = record { now = m.memory; was = m.was }

after_is : (xs : List Store) (c : Caching) → record { now = apply_all xs c.now; was = (apply_all_caching xs c).was } ≡ apply_all_caching xs c
after_is xs c i = record { now = sym (now_is xs c) i; was = (apply_all_caching xs c).was }

-- all stores of a call that was not stopped
finished_is : (xs : List Store) (stop : ℕ) (c : Caching) → ltb stop (length xs) ≡ false → apply_all_caching xs c ≡ record { now = apply_all xs c.now; was = (apply_all_caching (take stop xs) c).was }
finished_is xs stop c q =
    let all : take stop xs ≡ xs = take_all stop xs (ltb-false stop (length xs) q) in
    sym (after_is xs c) ∙ ap (λ (ys : List Store). record { now = apply_all xs c.now; was = (apply_all_caching ys c).was }) (sym all)

abbrev pub OkOn : (g : Geometry) (t : TableLengths) → System (on_caching_device g t) → Type 0
OkOn g t s = OkCached g s.mode s.lost (caching_of s.memory) s.state s.ledger

-- without its caches
pub ok_beneath : (g : Geometry) (t : TableLengths) (s : System (on_caching_device g t)) → OkOn g t s → Ok g t (beneath (on_device g t) (device_caches g t) s)
ok_beneath g t s o = go s.mode o
  where
    go : (m : Mode) → OkCached g m s.lost (caching_of s.memory) s.state s.ledger → OkIn g m s.lost s.memory.memory s.state s.ledger
    go ready o = o.rests s.memory.memory (now_back g s.lost (caching_of s.memory))
    go stopped o = o s.memory.memory (now_back g s.lost (caching_of s.memory))
    go down o = o.0

-- with other shares
shared_cached : (g : Geometry) (x : ℕ) (c : Caching) (share : ℕ → ℕ) (state : StateView) (l : Ledger) → RestsCached g x c state l → RestsCached g x c (with_shares share state) l
shared_cached g x c share state l r = read_cached g x c state (with_shares share state) l (λ h. h) (record { generations = λ z h. refl; conditions = λ z h. refl }) r

module _ (g : Geometry) (ok : Valid g) (t : TableLengths) (owed : CachesOwed g) (s : System (on_caching_device g t)) (o : OkOn g t s) where
  abbrev c : Caching
  c = record { now = s.memory.memory; was = s.memory.was }

  abbrev v : Device
  v = s.memory.memory

  abbrev x : ℕ
  x = s.lost

  abbrev under : System (on_device g t)
  under = beneath (on_device g t) (device_caches g t) s

  ok_under : Ok g t (beneath (on_device g t) (device_caches g t) s)
  ok_under = ok_beneath g t s o

  at_rest_lem : s.mode ≡ ready → RestsCached g s.lost (caching_of s.memory) s.state s.ledger
  at_rest_lem m = subst (λ (n : Mode). OkCached g n s.lost (caching_of s.memory) s.state s.ledger) m o

  -- where mounts may come
  all_invs : MayMount s.mode → (u : Device) → PutBack g s.lost (caching_of s.memory) u → SomeInvs g s.lost u s.ledger
  all_invs m = go s.mode m o
    where
      go : (n : Mode) → MayMount n → OkCached g n s.lost (caching_of s.memory) s.state s.ledger → (u : Device) → PutBack g s.lost (caching_of s.memory) u → SomeInvs g s.lost u s.ledger
      go ready m o u k = rests_invs g s.lost u s.state s.ledger (o.rests u k)
      go stopped m o u k = absurd m
      go down m o u k = rw (forgotten_is g s.lost (caching_of s.memory) u o.1 k) o.0

  -- ---- what a call that stores leaves, by its answer
  abbrev left : Verdict → List Store → StateView → ℕ → CallResult (WithCaches Device) StateView
  left q xs new stop = let r = storing q xs new s.state stop v in record { answer = r.answer; memory = record { memory = r.memory; was = remembered_after (made_by q xs stop) v s.memory.was }; state = r.state }

  abbrev stopped_left : List Store → ℕ → CallResult (WithCaches Device) StateView
  stopped_left xs stop = record { answer = Unfinished; memory = record { memory = apply_all (take stop xs) v; was = remembered_after (take stop xs) v s.memory.was }; state = s.state }

  abbrev finished_left : List Store → StateView → ℕ → CallResult (WithCaches Device) StateView
  finished_left xs new stop = record { answer = Finished; memory = record { memory = apply_all xs v; was = remembered_after (take stop xs) v s.memory.was }; state = new }

  by_answer : (q : Verdict) (xs : List Store) (new : StateView) (stop : ℕ) (l : CallResult (WithCaches Device) StateView → Ledger)
      → ((n : ℕ) → l (record { answer = Refused n; memory = record { memory = s.memory.memory; was = s.memory.was }; state = s.state }) ≡ s.ledger)
      → (q ≡ accept → HaltedCached g s.lost (apply_all_caching (take stop xs) c) (l (stopped_left xs stop)))
      → (q ≡ accept → RestsCached g s.lost (apply_all_caching xs c) new (l (finished_left xs new stop)))
      → OkOn g t (settled g (on_caching_device g t) s (left q xs new stop) (l (left q xs new stop)))
  by_answer (refuse n) xs new stop l a b d = rw (a n) o
  by_answer accept xs new stop l a b d = go (ltb stop (length xs)) refl
    where
      go : (q : Bool) → ltb stop (length xs) ≡ q → let r : CallResult Device StateView = pick q (record { answer = Unfinished; memory = apply_all (take stop xs) v; state = s.state }) (record { answer = Finished; memory = apply_all xs v; state = new }) in
          let k : CallResult (WithCaches Device) StateView = record { answer = r.answer; memory = record { memory = r.memory; was = remembered_after (take stop xs) v s.memory.was }; state = r.state } in OkOn g t (settled g (on_caching_device g t) s k (l k))
      go true e = subst (λ (k : Caching). HaltedCached g s.lost k (l (stopped_left xs stop))) (sym (after_is (take stop xs) c)) (b refl)
      go false e = subst (λ (k : Caching). RestsCached g s.lost k new (l (finished_left xs new stop))) (finished_is xs stop c e) (d refl)

  -- ---- a call by a host that names every drive not lost
  module _ (named : ℕ → Bool) (names : NamesAll g (on_caching_device g t) s named) where
    names_under : NamesAll g (on_device g t) (beneath (on_device g t) (device_caches g t) s) named
    names_under = names_beneath g (on_device g t) (device_caches g t) s named names

    abbrev Owed : Call → ℕ → Type 0
    Owed k stop = OkOn g t (next g (on_caching_device g t) s (calls k named stop))

    by_call : (k : Call) (stop : ℕ) → let f = call_of g t k named s.state v in let l = ledger_after g (on_caching_device g t) s k named in
        ((n : ℕ) → l (record { answer = Refused n; memory = record { memory = s.memory.memory; was = s.memory.was }; state = s.state }) ≡ s.ledger)
        → (first_refusal f.refusals ≡ accept → HaltedCached g s.lost (apply_all_caching (take stop f.stores) c) (l (stopped_left f.stores stop)))
        → (first_refusal f.refusals ≡ accept → RestsCached g s.lost (apply_all_caching f.stores c) f.state (l (finished_left f.stores f.state stop))) → Owed k stop
    by_call k stop = let f = call_of g t k named s.state v in by_answer (first_refusal f.refusals) f.stores f.state stop (ledger_after g (on_caching_device g t) s k named)

    e : s.mode ≡ ready → call_present g named s.state ≡ present_but g s.lost
    e m = drives_of_call g ok t (beneath (on_device g t) (device_caches g t) s) ok_under named names_under m

    lost_is : s.mode ≡ ready → lost_in g named s.state ≡ s.lost
    lost_is m = lost_of_call g ok t (beneath (on_device g t) (device_caches g t) s) ok_under named names_under m

    write_event : s.mode ≡ ready → (asked : WriteAsked) (stop : ℕ) → Owed (writes asked) stop
    write_event m asked stop =
        let z = zone_asked g asked in
        let ss = sectors_in g asked.count asked.buffer in
        let fits = write_fits g ok t under ok_under named names_under m asked in
        by_call (writes asked) stop (λ n. refl)
        (λ p. rw (e m) ((owed.write x c s.state s.ledger z ss (at_rest_lem m) (fits p)).0 stop))
        (λ p. rw (e m, lost_is m) (read_cached g x _ (write_state x s.state z asked.count) (written_state g (present_but g x) x asked.host s.state z asked.count) (after_write s.ledger z ss) (λ h. h)
        (record { generations = λ y h. refl; conditions = λ y h. refl }) (rw (sectors_length g asked.count asked.buffer) at (owed.write x c s.state s.ledger z ss (at_rest_lem m) (fits p)).1)))

    compact_event : s.mode ≡ ready → (d stop : ℕ) → Owed (compacts d) stop
    compact_event m d stop =
        let fits = compact_fits g ok t under ok_under named names_under m d in
        by_call (compacts d) stop (λ n. refl)
        (λ p. rw (e m) ((owed.compact x c s.state s.ledger d (at_rest_lem m) (fits p)).0 stop))
        (λ p. rw (e m, lost_is m) (read_cached g x _ s.state (compact_state g (present_but g x) x (by_roles g v) s.state d) s.ledger (λ h. inr refl) (record { generations = λ y h. refl; conditions = λ y h. refl }) (owed.compact x c s.state s.ledger d (at_rest_lem m) (fits p)).1))

    flush_event : s.mode ≡ ready → (stop : ℕ) → Owed flushes stop
    flush_event m stop =
        let (h, r) = flush_owes_cached g ok s.lost c s.state s.ledger (at_rest_lem m) in
        by_call flushes stop (λ n. refl) (λ p. rw (e m) (h stop)) (λ p. rw (e m, lost_is m) r)

    reset_event : s.mode ≡ ready → (z stop : ℕ) → Owed (resets z) stop
    reset_event m z stop =
        let accepted : first_refusal (reset_rows g t (bad_pointers g named v) named s.state z (roles g v) (by_roles g v)) ≡ accept
        → ResetAccepted g (present_but g s.lost) (roles g v) (by_roles g v) (by_state g (present_but g s.lost) (by_roles g v) s.state) s.state z = λ p. rw (e m) at (reset_accepted g t named s.state v z p) in
        by_call (resets z) stop (λ n. refl)
        (λ p. rw (e m) ((owed.reset s.lost c s.state s.ledger z (at_rest_lem m) (accepted p)).0 stop))
        (λ p. rw (e m, lost_is m) (owed.reset s.lost c s.state s.ledger z (at_rest_lem m) (accepted p)).1)

    mount_event : MayMount s.mode → (stop : ℕ) → Owed mounts stop
    unfolding mount_shows
    mount_event m stop =
        let d = drives_of_look g ok t under ok_under named names_under in
        let w = lost_of_look g ok t under ok_under named names_under in
        by_call mounts stop (λ n. refl)
        (λ p. rw (d, w) ((mount_owes_cached g ok s.lost c s.ledger (all_invs m) (mount_allowed g ok t under ok_under named names_under p)).0 stop))
        (λ p. let k = mount_shows g (present_but g x) x v in
        rw (d, w) (shared_cached g x _ (shares_in g (present_but g x) (apply_all (mount_stores g (present_but g x) x v) v)) (mount_state k) (after_mount k) (mount_owes_cached g ok s.lost c s.ledger (all_invs m) (mount_allowed g ok t under ok_under named names_under p)).1))

    abbrev FormatLeaves : ℕ → CallResult (WithCaches Device) StateView → Type 0
    FormatLeaves array r = NotStopped r.answer → OkOn g t (settled g (on_caching_device g t) s r (ledger_after g (on_caching_device g t) s (formats array) named r))

    format_event : s.mode ≡ ready → (array stop : ℕ) → array < 256 ^ 8 → NotStopped ((on_caching_device g t).call (formats array) named s.state stop s.memory).answer → Owed (formats array) stop
    format_event m array stop h n = go (first_refusal (format_rows g t (bad_pointers g named v) named v)) n
      where
        xs : List Store
        xs = format_stores g (named_drives g named) (left_out g named) array

        new : StateView
        new = with_shares (fresh_shares g (named_drives g named)) (format_state (left_out g named))

        done : RestsCached g s.lost (apply_all_caching xs c) new fresh_ledger
        done =
            let (k, b, a, (st, (γ, r, same))) = (at_rest_lem m).rests v (now_back g s.lost c) in
            rw (format_drives g s.lost named names.drives, format_lost g ok s.lost (by_roles g v) γ r.logs named names.drives) (shared_cached g x _ (fresh_shares g (present_but g x)) (format_state x) fresh_ledger (format_rests_cached g ok s.lost array c r.logs.lost_ok h))

        cases : (q : Bool) → ltb stop (length xs) ≡ q → let r : CallResult Device StateView = pick q (record { answer = Unfinished; memory = apply_all (take stop xs) v; state = s.state }) (record { answer = Finished; memory = apply_all xs v; state = new }) in
            FormatLeaves array (record { answer = r.answer; memory = record { memory = r.memory; was = remembered_after (take stop xs) v s.memory.was }; state = r.state })
        cases true q n = absurd n
        cases false q n = subst (λ (k : Caching). RestsCached g s.lost k new fresh_ledger) (finished_is xs stop c q) done

        go : (q : Verdict) → FormatLeaves array (left q xs new stop)
        go (refuse k) n = o
        go accept n = cases (ltb stop (length xs)) refl n

    call_keeps : (k : Call) (stop : ℕ) → Duty g (on_caching_device g t) s (calls k named stop) → Owed k stop
    call_keeps mounts stop (b, m, q) = mount_event m stop
    call_keeps (writes asked) stop (b, m, q) = write_event m asked stop
    call_keeps flushes stop (b, m, q) = flush_event m stop
    call_keeps (resets z) stop (b, m, q) = reset_event m z stop
    call_keeps (formats array) stop (b, m, (h, n)) = format_event m array stop h n
    call_keeps (compacts d) stop (b, m, q) = compact_event m d stop

  -- EVERY EVENT KEEPS IT
  pub event_keeps_cached : (a : Event (on_caching_device g t)) → Duty g (on_caching_device g t) s a → OkOn g t (next g (on_caching_device g t) s a)
  event_keeps_cached (calls k named stop) d = call_keeps named d.0 k stop d
  event_keeps_cached (looks named) d = o
  event_keeps_cached (reads named a count out) d = o
  event_keeps_cached (peeks named a) d = o
  event_keeps_cached (reports list) d = o
  event_keeps_cached (cuts w) d = (cached_cut g s.lost c w.memory d.left s.ledger (halted_in g s.mode s.lost c s.state s.ledger o), λ e y a. d.forgotten e y (present_not g s.lost e a))
  event_keeps_cached (loses y w) (h, one, d) = lose_cached g ok s.mode s.lost y c (caching_of w) s.state s.ledger h one (record { now_same = d.left; was_same = d.same }) o

-- ---- AT A POINT of a history: what holds in its mode, whatever is put back; and the shares fit the logs (SharesKept)
pub record HoldsOn (g : Geometry) (t : TableLengths) (s : System (on_caching_device g t)) : Type 0 where
  pub ok : OkOn g t s
  pub shared : Shared g t (beneath (on_device g t) (device_caches g t) s)

pub holds_next : (g : Geometry) → Valid g → (t : TableLengths) → CachesOwed g → (s : System (on_caching_device g t)) → HoldsOn g t s → (e : Event (on_caching_device g t)) → Duty g (on_caching_device g t) s e → HoldsOn g t (next g (on_caching_device g t) s e)
holds_next g valid t owed s k e d =
    let under = beneath (on_device g t) (device_caches g t) s in
    record {
      ok = event_keeps_cached g valid t owed s k.ok e d;
      shared = beneath_keeps g (on_device g t) (device_caches g t) s (Shared g t) k.shared (event_shares g valid t under (ok_beneath g t s k.ok) k.shared) (λ m q. absurd (let z : ◌≡◌ {A = ℕ} 0 1 = cc in omega arith)) e d;
    }

pub holds_promise : (g : Geometry) → Valid g → (t : TableLengths) → is_valid g ≡ true → tables_fit g t ≡ true → (s : System (on_caching_device g t)) → HoldsOn g t s → Promise g (on_caching_device g t) s
holds_promise g valid t wb lf s k = cached_promise g (on_device g t) (device_caches g t) s (kept g valid t wb lf (beneath (on_device g t) (device_caches g t) s) (ok_beneath g t s k.ok) k.shared)

-- after the format at the head
pub caching_start : (g : Geometry) (t : TableLengths) (named : ℕ → Bool) (array : ℕ) (old : StateView) (stop : ℕ) (m : WithCaches Device) → array < 256 ^ 8 → let r = (on_caching_device g t).call (formats array) named old stop m in
    r.answer ≡ Finished → (is_valid g ≡ true) × (tables_fit g t ≡ true) × HoldsOn g t (start g (on_caching_device g t) named r)
unfolding format_rows
caching_start g t named array old stop m h e =
    let v = m.memory in
    let x = left_out g named in
    let rows = format_rows g t (bad_pointers g named v) named v in
    let stores = format_stores g (named_drives g named) x array in
    let new = with_shares (fresh_shares g (named_drives g named)) (format_state x) in
    let (p, q) = storing_finished (first_refusal rows) stores new old stop v e in
    let wb = not_not (is_valid g) (accepted_row rows p 1) in
    let ok = valid_if_test g wb in
    let n : named_drives g named ≡ present_but g x = drives_named g ok named (accepted_row rows p 4) in
    let o : RestsCached g x (apply_all_caching stores (caching_of m)) new fresh_ledger = rw n (shared_cached g x _ (fresh_shares g (present_but g x)) (format_state x) fresh_ledger (format_rests_cached g ok x array (caching_of m) (left_out_lem g named) h)) in
    let f : SharesKept g x (apply_all stores v) new = rw n (format_shares g ok x array v (left_out_lem g named) h) in (
      wb,
      not_not (tables_fit g t) (accepted_row rows p 2),
      record { ok = rw (p, q) (subst (λ (k : Caching). RestsCached g x k new fresh_ledger) (finished_is stores stop (caching_of m) q) o); shared = rw (p, q) (λ i. f) },
    )

-- THE THEOREM, from what these calls owe
pub caching_device_keeps : ((g : Geometry) → Valid g → CachesOwed g) → CachingDeviceClaim
caching_device_keeps owed g t named array old stop m h e es d =
    let (wb, lf, o) = caching_start g t named array old stop m h e in
    let ok = valid_if_test g wb in
    throughout g (on_caching_device g t) (HoldsOn g t) (holds_promise g ok t wb lf) (holds_next g ok t (owed g ok)) (start g (on_caching_device g t) named ((on_caching_device g t).call (formats array) named old stop m)) o es d
