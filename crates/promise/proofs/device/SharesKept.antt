-- THE SHARES FIT THE LOGS between finished calls, in every history: what is left of both hosts' shares of a present drive's parity log fits there beside the reserve, or
-- nothing is left (Claim's SharesFit). A format and a mount share out halves of what is unused past the reserve, a compact those of its drive; a write takes its entry off
-- its host's share, as the log grows by it; a flush and a reset leave parity logs and shares; after a stopped call or a cut a mount has to finish first.
use Rattle.std.specs.Prelude.{◌≡◌, refl, ◌≢◌, ◌⊎◌, Bool, ◌&&◌, ◌||◌, ℕ, zero, ◌+◌, ◌-◌, ◌/◌, ◌^◌, ◌≤◌, ◌<◌, List, length, take, ltb, eqb}
use Rattle.std.proofs.Common.{ap, ◌∙◌, subst, inl, inr, arith}
use Rattle.std.proofs.Math.Bool.{true, false}
use Rattle.std.proofs.Math.Decide.{dec_lt, ℕ_discrete}
use Rattle.std.proofs.Math.Arith.{digits_div}
use borrow.Author.Tests.{ltb-true, ltb-false, eq-eqb, ne_eqb}
use Rattle.tables.specs.meaning.Basics.{pick}
use Rattle.tables.specs.laws.Basics.{or_none, not_not}
use Rattle.tables.specs.meaning.Device.{ZoneView, Device, Store, apply_all, Loss}
use Rattle.tables.specs.laws.Device.{loss_at}
use Rattle.tables.specs.meaning.Drives.{no_drive, present_but}
use Rattle.tables.specs.laws.Drives.{present_not}
use Rattle.tables.specs.declared.Geometry.{Geometry}
use Rattle.tables.specs.meaning.Geometry.{Valid}
use Rattle.logs.specs.meaning.Entry.{parity_zone}
use Rattle.logs.specs.code.Judge.{and_false}
use Rattle.volume.specs.declared.Answer.TheVariants.{Finished, Unfinished}
use Rattle.volume.specs.meaning.State.{StateView, hosts, share_at, with_shares, pointer_in}
use Rattle.volume.specs.meaning.Content.{inside_stripe, parity_drive_at}
use Rattle.volume.specs.meaning.Roles.{roles, by_roles}
use Rattle.volume.specs.meaning.Emptying.{by_state, new_parity_size, unused_in, lacks_room, reserve, entry_size, write_limit, write_all, reset_all, compact_stores}
use Rattle.volume.specs.meaning.Calls.{write_state, flush_stores, flush_state, reset_state, format_stores, format_state}
use Rattle.volume.specs.meaning.Hosts.{half_past, shares_by, shares_in, fresh_shares, share_left, written_state, compact_state}
use Rattle.volume.specs.meaning.Refusals.{Verdict, refuse, accept, TableLengths, WriteAsked, zone_asked, end_asked, no_zone, no_host, write_full, write_rows, first_refusal}
use Rattle.volume.specs.meaning.Answers.{CallResult, storing, sectors_in}
use Rattle.volume.specs.laws.Refusals.{accepted_row}
use Rattle.volume.specs.laws.Firm.{firm_roles}
use Rattle.promise.specs.meaning.Ledger.{Ledger, fresh_ledger, after_write}
use Rattle.promise.specs.meaning.Claim.{Call, mounts, writes, flushes, resets, formats, compacts, ready, mode_after, System, Event, calls, looks, reads, peeks, reports, cuts, loses, next, NamesAll, Duty, SharesFit}
use Rattle.promise.specs.meaning.OnDevice.{call_of, on_device}
use Rattle.promise.proofs.invariant.Invariant.{Here}
use Rattle.promise.proofs.invariant.Obligations.{WriteOk, never_emptied}
use Rattle.promise.proofs.invariant.RoomAsked.{ResetAccepted, CompactAccepted}
use Rattle.promise.proofs.invariant.CrashKeeps.{present_before}
use Rattle.promise.proofs.calls.ParityLogsAfter.{write_log}
use Rattle.promise.proofs.calls.FormatKeeps.{format_log}
use Rattle.promise.proofs.roles.FormatRoles.{format_seen}
use Rattle.promise.proofs.roles.RoledCalls.{roled_format}
use Rattle.promise.proofs.emptying.FlushedRests.{flush_sectors, sectors_seen, roles_same}
use Rattle.promise.proofs.device.AcceptedCalls.{sectors_length, reset_accepted}
use Rattle.promise.proofs.device.AtRestAnswers.{format_lost, format_drives}
use Rattle.promise.proofs.device.Modes.{SomeRests, own_rests}
use Rattle.promise.proofs.device.PlainCalls.{write_seen, write_owes}
use Rattle.promise.proofs.device.ResetCall.{reset_leaves_logs, reset_owes}
use Rattle.promise.proofs.device.CompactCall.{compact_leaves_logs, compact_owes}
use Rattle.promise.proofs.device.ClaimEvents.{Ok, rests_of, drives_of_call, lost_of_call, drives_of_look, lost_of_look, write_fits, compact_fits}

-- ---- numbers: what is left of two shares (a, b) fits n unused sectors beside a reserve
abbrev FitsBeside : ℕ → ℕ → ℕ → ℕ → Type 0
FitsBeside reserved n a b = (reserved + (a + b) ≤ n) ⊎ ((a ≡ 0) × (b ≡ 0))

-- two halves of what is past the reserve do
halves_fit : (g : Geometry) (n : ℕ) → FitsBeside (reserve g) n (half_past g n) (half_past g n)
halves_fit g n = go (dec_lt n (reserve g))
  where
    go : Dec (n < reserve g) → FitsBeside (reserve g) n (half_past g n) (half_past g n)
    go (yes h) = inr (omega (arith, h), omega (arith, h))
    go (no h) = inl (omega (arith, h))

-- an entry of k sectors that is not larger than a share: taken off both
first_takes : (reserved n a b k : ℕ) → zero < k → k ≤ a → FitsBeside reserved n a b → FitsBeside reserved (n - k) (a - k) b
first_takes reserved n a b k some h (inl f) = inl (omega (arith, some, h, f))
first_takes reserved n a b k some h (inr (p, q)) = absurd (omega (arith, some, h, p))

second_takes : (reserved n a b k : ℕ) → zero < k → k ≤ b → FitsBeside reserved n a b → FitsBeside reserved (n - k) a (b - k)
second_takes reserved n a b k some h (inl f) = inl (omega (arith, some, h, f))
second_takes reserved n a b k some h (inr (p, q)) = absurd (omega (arith, some, h, q))

-- ---- where the shares stand
share_drive : (d h : ℕ) → h < hosts → share_at d h / hosts ≡ d
share_drive d h k = digits_div d k

shares_by_lem : (present : ℕ → Bool) (half : ℕ → ℕ) (d h : ℕ) → h < hosts → present d ≡ true → shares_by present half (share_at d h) ≡ half d
unfolding shares_by
shares_by_lem present half d h k a = rw (share_drive d h k, a) refl

abbrev pub SharesKept : Geometry → ℕ → Device → StateView → Type 0
SharesKept g x v state = (d : ℕ) → Here g x d → SharesFit g v state d

-- by a state with the same shares
pub same_shares : (g : Geometry) (x : ℕ) (v : Device) (a b : StateView) → ((d h : ℕ) → Here g x d → h < hosts → a.share (share_at d h) ≡ b.share (share_at d h)) → SharesKept g x v a → SharesKept g x v b
same_shares g x v a b same f d here = rw (← same d 0 here (omega arith), ← same d 1 here (omega arith)) (f d here)

-- ---- at rest a drive's parity log has unused what its sectors leave
pub unused_is : (g : Geometry) (x : ℕ) (v : Device) (state : StateView) (l : Ledger) → SomeRests g x v state l → (d : ℕ) → Here g x d → unused_in g true (roles g v) (by_roles g v) d ≡ g.capacity - length (by_roles g v d parity_zone).sectors
unfolding unused_in
unused_is g x v state l (k, c, above, (s, r)) d a =
    let e : (roles g v d).parity_claim ≡ (s.roles d).parity_claim = ap (λ t. t.parity_claim) (firm_roles g v d (s.roles d) (s.firm d a)) in
    rw (ne_eqb (roles g v d).parity_claim 0 (λ q. omega (arith, e, (s.parity_claim_lem d a).0, q))) refl

-- (g, x: the geometry and the lost drive; v: the device at rest; w: a device that is at rest after a call)
module _ (g : Geometry) (x : ℕ) (v : Device) (state : StateView) (l : Ledger) (r : SomeRests g x v state l) where
  abbrev long : Device → ℕ → ℕ
  long u d = length (by_roles g u d parity_zone).sectors

  -- with a log as long and the same shares
  same_fits : (w : Device) (st : StateView) (m : Ledger) → SomeRests g x w st m → (new : StateView) (d : ℕ) → Here g x d → long w d ≡ long v d → ((h : ℕ) → h < hosts → new.share (share_at d h) ≡ state.share (share_at d h)) → SharesFit g v state d → SharesFit g w new d
  same_fits w st m q new d a e shares f = rw (unused_is g x w st m q d a, e, ← unused_is g x v state l r d a, shares 0 (omega arith), shares 1 (omega arith)) f

  -- A WRITE by host h of ss to zone z
  module _ (ok : Valid g) (h z : ℕ) (ss : List (List ℕ)) (wk : WriteOk g (present_but g x) (by_roles g v) state z ss) (host : h < hosts) where
    abbrev end : ℕ
    end = pointer_in (state.condition z) + length ss

    abbrev p : ℕ
    p = parity_drive_at g z end

    abbrev w : Device
    w = apply_all (write_all g (present_but g x) (roles g v) (by_roles g v) state z ss) v

    abbrev new : StateView
    new = written_state g (present_but g x) x h state z (length ss)

    rests : SomeRests g x w (write_state x state z (length ss)) (after_write l z ss)
    rests = (write_owes g ok x v state l z ss r wk).1

    grown : (d : ℕ) → Here g x d → long w d ≡ long v d + pick (inside_stripe g end && eqb d p) (entry_size g end) 0
    grown d a = ap (λ (k : ZoneView). length k.sectors) (write_seen g ok x v state l z ss wk r d a parity_zone) ∙ write_log g x (by_roles g v) state z ss d a

    -- another drive's
    other : (d : ℕ) → Here g x d → d ≢ p → SharesFit g v state d → SharesFit g w new d
    other d a n f = same_fits w (write_state x state z (length ss)) (after_write l z ss) rests new d a (grown d a ∙ rw (ne_eqb d p n, and_false (inside_stripe g end)) (omega arith))
        (λ i k. rw (ne_eqb (share_at d i) (share_at p h) (λ q. n (omega (arith, q, k, host)))) refl) f

    -- the drive's, where no entry is written
    whole : Here g x p → inside_stripe g end ≡ false → SharesFit g v state p → SharesFit g w new p
    whole a i f = same_fits w (write_state x state z (length ss)) (after_write l z ss) rests new p a (grown p a ∙ rw i (omega arith)) (λ j k. at j (ℕ_discrete (share_at p j) (share_at p h))) f
      where
        at : (j : ℕ) → Dec (share_at p j ≡ share_at p h) → new.share (share_at p j) ≡ state.share (share_at p j)
        at j (yes q) = rw (q, eq-eqb (share_at p h) (share_at p h) refl, i) (omega arith)
        at j (no q) = rw (ne_eqb (share_at p j) (share_at p h) q) refl

    -- and where one is
    entered : Here g x p → inside_stripe g end ≡ true → entry_size g end ≤ share_left g state h z end → SharesFit g v state p → SharesFit g w new p
    entered a i fits f = go (ℕ_discrete h 0)
      where
        less : unused_in g true (roles g w) (by_roles g w) p ≡ unused_in g true (roles g v) (by_roles g v) p - entry_size g end
        less =
            let t : long w p ≡ long v p + entry_size g end = grown p a ∙ rw (i, eq-eqb p p refl) refl in
            unused_is g x w (write_state x state z (length ss)) (after_write l z ss) rests p a ∙ rw (unused_is g x v state l r p a, t) (omega arith)

        own : new.share (share_at p h) ≡ state.share (share_at p h) - entry_size g end
        own = rw (eq-eqb (share_at p h) (share_at p h) refl, i, a) refl

        theirs : (j : ℕ) → j ≢ h → new.share (share_at p j) ≡ state.share (share_at p j)
        theirs j n = rw (ne_eqb (share_at p j) (share_at p h) (λ q. n (omega (arith, q)))) refl

        go : Dec (h ≡ 0) → SharesFit g w new p
        go (yes e) =
            let k : entry_size g end ≤ state.share (share_at p 0) = subst (λ (j : ℕ). entry_size g end ≤ state.share (share_at p j)) e fits in
            let mine : new.share (share_at p 0) ≡ state.share (share_at p 0) - entry_size g end = subst (λ (j : ℕ). new.share (share_at p j) ≡ state.share (share_at p j) - entry_size g end) e own in
            rw (less, mine, theirs 1 (λ q. omega (arith, q, e))) (first_takes (reserve g) (unused_in g true (roles g v) (by_roles g v) p) (state.share (share_at p 0)) (state.share (share_at p 1)) (entry_size g end) (omega arith) k f)
        go (no n) =
            let e : h ≡ 1 = omega (arith, n, host) in
            let k : entry_size g end ≤ state.share (share_at p 1) = subst (λ (j : ℕ). entry_size g end ≤ state.share (share_at p j)) e fits in
            let mine : new.share (share_at p 1) ≡ state.share (share_at p 1) - entry_size g end = subst (λ (j : ℕ). new.share (share_at p j) ≡ state.share (share_at p j) - entry_size g end) e own in
            rw (less, mine, theirs 0 (λ q. omega (arith, q, e))) (second_takes (reserve g) (unused_in g true (roles g v) (by_roles g v) p) (state.share (share_at p 0)) (state.share (share_at p 1)) (entry_size g end) (omega arith) k f)

    pub write_shares : (inside_stripe g end ≡ true → Here g x p → entry_size g end ≤ share_left g state h z end) → SharesKept g x v state → SharesKept g x w new
    write_shares fits f d a = go (ℕ_discrete d p) (inside_stripe g end) refl
      where
        go : Dec (d ≡ p) → (b : Bool) → inside_stripe g end ≡ b → SharesFit g w new d
        go (no n) b i = other d a n (f d a)
        go (yes q) true i = let c : Here g x p = rw (← q) a in rw q (entered c i (fits i c) (f p c))
        go (yes q) false i = let c : Here g x p = rw (← q) a in rw q (whole c i (f p c))

  -- A COMPACT of drive d
  pub compact_shares : (ok : Valid g) (d : ℕ) → CompactAccepted g (present_but g x) (roles g v) (by_roles g v) (by_state g (present_but g x) (by_roles g v) state) d → SharesKept g x v state
      → SharesKept g x (apply_all (compact_stores g (present_but g x) (roles g v) (by_roles g v) state d) v) (compact_state g (present_but g x) x (by_roles g v) state d)
  compact_shares ok d ca f e a = go (ℕ_discrete e d)
    where
      w : Device
      w = apply_all (compact_stores g (present_but g x) (roles g v) (by_roles g v) state d) v

      size : ℕ
      size = new_parity_size g (by_state g (present_but g x) (by_roles g v) state) d

      new : StateView
      new = compact_state g (present_but g x) x (by_roles g v) state d

      rests : SomeRests g x w state l
      rests = (compact_owes g ok x v state l d r ca).1

      logs : (e : ℕ) → Here g x e → long w e ≡ pick (eqb e d) (new_parity_size g (by_state g (present_but g x) (by_roles g v) state) e) (long v e)
      logs = compact_leaves_logs g ok x v state l d ca r

      fresh : (h : ℕ) → h < hosts → new.share (share_at d h) ≡ half_past g (g.capacity - size)
      fresh h k = rw (share_drive d h k, eq-eqb d d refl) refl

      own : Here g x d → SharesFit g w new d
      own c =
          let t : unused_in g true (roles g w) (by_roles g w) d ≡ g.capacity - size = unused_is g x w state l rests d c ∙ ap (λ (n : ℕ). g.capacity - n) (logs d c ∙ rw (eq-eqb d d refl) refl) in
          rw (t, fresh 0 (omega arith), fresh 1 (omega arith)) (halves_fit g (g.capacity - size))

      go : Dec (e ≡ d) → SharesFit g w new e
      go (yes q) = rw q (own (rw (← q) a))
      go (no n) = same_fits w state l rests new e a (logs e a ∙ rw (ne_eqb e d n) refl) (λ h k. rw (share_drive e h k, ne_eqb e d n) refl) (f e a)

  -- A RESET of zone z
  pub reset_shares : (ok : Valid g) (z : ℕ) → ResetAccepted g (present_but g x) (roles g v) (by_roles g v) (by_state g (present_but g x) (by_roles g v) state) state z → SharesKept g x v state
      → SharesKept g x (apply_all (reset_all g (present_but g x) (roles g v) (by_roles g v) state z) v) (reset_state x state z)
  reset_shares ok z ra f d a =
      let (stopped, rests) = reset_owes g ok x v state l z r ra in
      same_fits _ (reset_state x state z) _ rests (reset_state x state z) d a (ap length (reset_leaves_logs g ok x v state l z r ra d a)) (λ h k. refl) (f d a)

-- what is unused goes by the sectors of the drive's zones
unused_same : (g : Geometry) (v w : Device) (d : ℕ) → ((y : ℕ) → (w d y).sectors ≡ (v d y).sectors) → unused_in g true (roles g w) (by_roles g w) d ≡ unused_in g true (roles g v) (by_roles g v) d
unfolding unused_in
unused_same g v w d h = rw (roles_same g v w d h, sectors_seen g v w d h parity_zone) refl

-- A FLUSH
flush_shares : (g : Geometry) (x : ℕ) (v : Device) (state : StateView) → SharesKept g x v state → SharesKept g x (apply_all (flush_stores g (present_but g x)) v) (flush_state x state)
flush_shares g x v state f d a = rw (unused_same g v (apply_all (flush_stores g (present_but g x)) v) d (λ y. flush_sectors g x v d y a)) (f d a)

-- A MOUNT, by the device that it leaves, whatever else its state says
mount_shares : (g : Geometry) (x : ℕ) (w : Device) (state : StateView) → SharesKept g x w (with_shares (shares_in g (present_but g x) w) state)
mount_shares g x w state d a =
    let half : ℕ → ℕ = λ e. half_past g (unused_in g true (roles g w) (by_roles g w) e) in
    rw (shares_by_lem (present_but g x) half d 0 (omega arith) a, shares_by_lem (present_but g x) half d 1 (omega arith) a) (halves_fit g (unused_in g true (roles g w) (by_roles g w) d))

-- A FORMAT
pub format_shares : (g : Geometry) → Valid g → (x a : ℕ) (v : Device) → (x ≡ no_drive) ⊎ (x < g.drives) → a < 256 ^ 8 → SharesKept g x (apply_all (format_stores g (present_but g x) x a) v) (with_shares (fresh_shares g (present_but g x)) (format_state x))
format_shares g ok x a v lost ha d h =
    let w = apply_all (format_stores g (present_but g x) x a) v in
    let r = own_rests never_emptied g x w (format_state x) fresh_ledger (roled_format g ok x a v lost ha) in
    let none : length (by_roles g w d parity_zone).sectors ≡ 0 = ap length (ap (λ (k : ZoneView). k.sectors) (format_seen g ok x a v lost ha d h parity_zone) ∙ format_log g ok x a v lost ha d h) in
    let half : ℕ → ℕ = λ e. half_past g g.capacity in
    let t : unused_in g true (roles g w) (by_roles g w) d ≡ g.capacity = unused_is g x w (format_state x) fresh_ledger r d h ∙ rw none (omega arith) in
    rw (t, shares_by_lem (present_but g x) half d 0 (omega arith) h, shares_by_lem (present_but g x) half d 1 (omega arith) h) (halves_fit g g.capacity)

-- THE LOSS of a drive
loss_shares : (g : Geometry) → Valid g → (x y : ℕ) (v w : Device) (state : StateView) → (x ≡ no_drive) ⊎ (x ≡ y) → Loss y v w → SharesKept g x v state → SharesKept g y w state
loss_shares g ok x y v w state one lo f d a = rw (unused_same g v w d (λ z. ap (λ (t : ZoneView). t.sectors) (loss_at y v w lo d z (present_not g y d a)))) (f d (present_before g ok x y one d a))

-- ---- at a point of a history
abbrev pub Shared : (g : Geometry) (t : TableLengths) → System (on_device g t) → Type 0
Shared g t s = s.mode ≡ ready → SharesKept g s.lost s.memory s.state

module _ (g : Geometry) (ok : Valid g) (t : TableLengths) (s : System (on_device g t)) (o : Ok g t s) (f : Shared g t s) where
  abbrev x : ℕ
  x = s.lost

  -- a call that stores, by its answer
  by_answer : (r : Verdict) (xs : List Store) (new : StateView) (stop : ℕ) → (r ≡ accept → SharesKept g s.lost (apply_all xs s.memory) new)
      → let q = storing r xs new s.state stop s.memory in mode_after q.answer s.mode ≡ ready → SharesKept g s.lost q.memory q.state
  by_answer (refuse n) xs new stop h m = f m
  by_answer accept xs new stop h m = go (ltb stop (length xs)) m
    where
      go : (c : Bool) → let q : CallResult Device StateView = pick c (record { answer = Unfinished; memory = apply_all (take stop xs) s.memory; state = s.state }) (record { answer = Finished; memory = apply_all xs s.memory; state = new }) in
          mode_after q.answer s.mode ≡ ready → SharesKept g s.lost q.memory q.state
      go true m = absurd (let z : ◌≡◌ {A = ℕ} 0 1 = cc in omega arith)
      go false m = h refl

  module _ (named : ℕ → Bool) (names : NamesAll g (on_device g t) s named) where
    -- finished
    Leaves : Call → Type 0
    Leaves c = let k = call_of g t c named s.state s.memory in first_refusal k.refusals ≡ accept → SharesKept g s.lost (apply_all k.stores s.memory) k.state

    -- an accepted write has a host, and its entry is not larger than what is left of its share
    write_asks : s.mode ≡ ready → (asked : WriteAsked) → first_refusal (call_of g t (writes asked) named s.state s.memory).refusals ≡ accept
        → (asked.host < hosts) × (inside_stripe g (end_asked g s.state asked) ≡ true → Here g s.lost (parity_drive_at g (zone_asked g asked) (end_asked g s.state asked))
        → entry_size g (end_asked g s.state asked) ≤ share_left g s.state asked.host (zone_asked g asked) (end_asked g s.state asked))
    unfolding write_rows write_full
    write_asks m asked e =
        let z = zone_asked g asked in
        let end = end_asked g s.state asked in
        let u = by_roles g s.memory in
        let share = share_left g s.state asked.host z end in
        let row = accepted_row (call_of g t (writes asked) named s.state s.memory).refusals e in
        let (h1, h2) = or_none (no_zone g z) (no_host asked.host) (row 8) in
        let full : (inside_stripe g end && present_but g x (parity_drive_at g z end)) && (ltb share (entry_size g end) || lacks_room g true (roles g s.memory) u (write_limit g end) (parity_drive_at g z end)) ≡ false = rw (drives_of_call g ok t s o named names m) at (row 14) in (
          ltb-true asked.host hosts (not_not (ltb asked.host hosts) h2),
          λ i a. ltb-false share (entry_size g end) (or_none (ltb share (entry_size g end)) (lacks_room g true (roles g s.memory) u (write_limit g end) (parity_drive_at g z end)) (rw (i, a) at full)).0,
        )

    write_leaves : s.mode ≡ ready → (asked : WriteAsked) → Leaves (writes asked)
    unfolding Leaves
    write_leaves m asked p =
        let (host, fits) = write_asks m asked p in
        let ss = sectors_in g asked.count asked.buffer in
        let k = write_shares g x s.memory s.state s.ledger (rests_of g t s o m) ok asked.host (zone_asked g asked) ss (write_fits g ok t s o named names m asked p) host in
        let n = sectors_length g asked.count asked.buffer in
        rw (drives_of_call g ok t s o named names m) (rw n at (k (rw n fits) (f m)))

    call_leaves : (c : Call) (stop : ℕ) → Duty g (on_device g t) s (calls c named stop) → Leaves c
    unfolding Leaves
    call_leaves mounts stop (n, m, q) p = rw (drives_of_look g ok t s o named names, lost_of_look g ok t s o named names) (mount_shares g x _ s.state)
    call_leaves (writes asked) stop (n, m, q) p = write_leaves m asked p
    call_leaves flushes stop (n, m, q) p = rw (drives_of_call g ok t s o named names m) (flush_shares g x s.memory s.state (f m))
    call_leaves (resets z) stop (n, m, q) p =
        let e = drives_of_call g ok t s o named names m in
        let ra = reset_accepted g t named s.state s.memory z p in
        rw e (reset_shares g x s.memory s.state s.ledger (rests_of g t s o m) ok z (rw e at ra) (f m))
    call_leaves (formats array) stop (n, m, (h, q)) p =
        let (k, c, a, (st, (γ, r, same))) = rests_of g t s o m in
        rw (format_drives g x named names.drives, format_lost g ok x (by_roles g s.memory) γ r.logs named names.drives) (format_shares g ok x array s.memory r.logs.lost_ok h)
    call_leaves (compacts d) stop (n, m, q) p =
        rw (drives_of_call g ok t s o named names m) (compact_shares g x s.memory s.state s.ledger (rests_of g t s o m) ok d (compact_fits g ok t s o named names m d p) (f m))

    call_shares : (c : Call) (stop : ℕ) → Duty g (on_device g t) s (calls c named stop) → Shared g t (next g (on_device g t) s (calls c named stop))
    unfolding Leaves
    call_shares c stop d = let k = call_of g t c named s.state s.memory in by_answer (first_refusal k.refusals) k.stores k.state stop (call_leaves c stop d)

  -- EVERY EVENT KEEPS IT
  pub event_shares : (e : Event (on_device g t)) → Duty g (on_device g t) s e → Shared g t (next g (on_device g t) s e)
  event_shares (calls c named stop) d = call_shares named d.0 c stop d
  event_shares (looks named) d = f
  event_shares (reads named a count out) d = f
  event_shares (peeks named a) d = f
  event_shares (reports list) d = f
  event_shares (cuts w) d = λ m. absurd (let z : ◌≡◌ {A = ℕ} 0 1 = cc in omega arith)
  event_shares (loses y w) (h, one, lo) = λ m. loss_shares g ok x y s.memory w s.state one lo (f m)
