-- THE CLAIM ABOUT EMPTYINGS HOLDS (meaning/Emptied.antt), of the rules' calls: at every point of every history, of every compact, and of every reset and mount that empties logs.
use Rattle.std.specs.Prelude.{◌≡◌, Bool, true, false, ℕ, ◌≤◌, ◌<◌, List, length, take}
use Rattle.std.proofs.Math.Path.{refl}
use Rattle.std.proofs.Common.{sym, ap, ◌∙◌, subst, arith, ltb-true, lt-ltb}
use Rattle.tables.specs.meaning.Device.{Device, Store, apply_all}
use Rattle.tables.specs.meaning.Cached.{Caching, apply_all_caching, CachingCut}
use Rattle.tables.specs.laws.Cached.{now_is}
use Rattle.tables.specs.declared.Geometry.{Geometry}
use Rattle.tables.specs.meaning.Geometry.{Valid}
use Rattle.tables.specs.laws.GeometryTest.{valid_if_test}
use Rattle.tables.specs.meaning.Drives.{present_but}
use Rattle.volume.specs.declared.Answer.TheVariants.{Unfinished}
use Rattle.volume.specs.meaning.State.{StateView}
use Rattle.volume.specs.meaning.Rules.{Shown, showing}
use Rattle.volume.specs.meaning.Roles.{roles, by_roles}
use Rattle.volume.specs.meaning.Emptying.{by_state, by_look, compact_stores, reset_all}
use Rattle.volume.specs.meaning.Mount.{after_opening, mount_look, after_fill, mount_stores}
use Rattle.volume.specs.laws.OpeningFlush.{opening_sectors}
use Rattle.volume.specs.meaning.Refusals.{Verdict, accept, TableLengths, first_refusal}
use Rattle.volume.specs.meaning.Answers.{StoringCall, carried_out}
use Rattle.promise.specs.meaning.Claim.{Call, mounts, resets, compacts, System, NamesAll, MayMount, ready, all_but}
use Rattle.promise.specs.meaning.OnDevice.{call_of, on_device, shown_by}
use Rattle.promise.specs.meaning.Caches.{made_stores, made_by, remembered_after, Remembered, beneath, device_caches, on_caching_device}
use Rattle.promise.specs.meaning.Histories.{ShowsAlike}
use Rattle.promise.specs.meaning.Emptied.{AlikeUpTo, MayNameBut, Emptyings, flush_end, UnderWay, emptyings_of_compact, emptyings_of_reset, emptyings_of_mount, parity_emptyings_of_mount, entry_made, KeepsLooks, EmptyingsKeepLooks, EmptyingClaim}
use Rattle.promise.proofs.invariant.RoomAsked.{ResetAccepted, MountAccepted}
use Rattle.promise.proofs.roles.MountReads.{mount_accepted_same}
use Rattle.promise.proofs.roles.ReadsSectors.{by_roles_same, showing_same}
use Rattle.promise.proofs.emptying.FlushedRests.{flushed_all}
use Rattle.promise.proofs.emptying.MountWhole.{opened_sectors}
use Rattle.promise.proofs.emptying.ParityRests.{new_sectors}
use Rattle.promise.proofs.emptying.GeneralEmptying.{new_general_of}
use Rattle.promise.proofs.device.Marks.{with_marks}
use Rattle.promise.proofs.device.AcceptedCalls.{present_same, found_same, reset_accepted, storing_unfinished}
use Rattle.promise.proofs.device.ClaimEvents.{Ok, rests_of, invs_of, drives_of_call, drives_of_look, lost_of_look, mount_allowed, compact_fits}
use Rattle.promise.proofs.device.CachedPromise.{names_beneath}
use Rattle.promise.proofs.device.CachedEvents.{caching_of}
use Rattle.promise.proofs.shown.EveryPoint.{at_every_point}
use Rattle.promise.proofs.shown.EmptyingLooks.{look_but, kept, compact_behind, compact_within, reset_behind, reset_within}
use Rattle.promise.proofs.shown.MountLooks.{mount_behind, mount_within}
use Rattle.promise.proofs.shown.MountParityLooks.{mount_parity_behind, mount_parity_within}

-- ---- a call that is not finished: it is accepted, and has made so many of its stores; and so has one that is stopped before
module _ (c : StoringCall) (old : StateView) (n : ℕ) (v : Device) (was : Remembered) (unfinished : (carried_out c old n v).answer ≡ Unfinished) where
  pub unfinished_call : (first_refusal c.refusals ≡ accept) × (n < length c.stores)
  unfinished_call = let (p, q) = storing_unfinished (first_refusal c.refusals) c.stores c.state old n v unfinished in (p, ltb-true n (length c.stores) q)

  pub stopped_leaves : (m : ℕ) → m ≤ n → ◌≡◌ {A = Caching} (record { now = (carried_out c old m v).memory; was = remembered_after (made_stores c m) v was }) (apply_all_caching (take m c.stores) (record { now = v; was = was }))
  stopped_leaves m h =
      let (p, q) = unfinished_call in
      let k : Caching = record { now = v; was = was } in
      let a : (carried_out c old m v).memory ≡ (apply_all_caching (take m c.stores) k).now = rw (p, lt-ltb m (length c.stores) (omega (arith, h, q))) (sym (now_is (take m c.stores) k)) in
      let b : made_stores c m ≡ take m c.stores = ap (λ (r : Verdict). made_by r c.stores m) p in
      λ i. record { now = a i; was = remembered_after (b i) v was }

-- ---- what a look shows goes by the drives that it names
named_look : (g : Geometry) (y : ℕ) (some : ℕ → Bool) → ((d : ℕ) → d < g.drives → some d ≡ all_but y d) → (v : Device) → shown_by g some v v ≡ look_but g y v
named_look g y some n v = rw (present_same g some (all_but y) n (by_roles g v), found_same g some (all_but y) n (by_roles g v)) refl

module _ (g : Geometry) (ok : Valid g) (t : TableLengths) (s : System (on_caching_device g t)) (o : Ok g t (beneath (on_device g t) (device_caches g t) s)) where
  abbrev under : System (on_device g t)
  under = beneath (on_device g t) (device_caches g t) s

  abbrev v : Device
  v = s.memory.memory

  abbrev x : ℕ
  x = s.lost

  -- what is claimed of the emptyings of a call with these stores
  abbrev AllKept : List Store → Emptyings → (ℕ → Shown → Shown → Type 0) → Type 0
  AllKept xs E Alike = (d n : ℕ) → UnderWay g x E d n → (w : Device) → CachingCut x (apply_all_caching (take n xs) (caching_of s.memory)) w → (y : ℕ) → MayNameBut g x y
      → Alike d (look_but g y (apply_all_caching (take (flush_end g x E d) xs) (caching_of s.memory)).now) (look_but g y w)

  -- from the stores of an accepted call to the call
  by_stores : (c : Call) (named : ℕ → Bool) (E : Emptyings) (Alike : ℕ → Shown → Shown → Type 0) → let f = call_of g t c named s.state v in
      (first_refusal f.refusals ≡ accept → AllKept f.stores E Alike)
      → KeepsLooks g (on_caching_device g t) s c named E Alike
  by_stores c named E Alike of d n u unf m cut y by some nb =
      let f = call_of g t c named s.state v in
      let (p, q) = unfinished_call f s.state n v s.memory.was unf in
      let at = stopped_leaves f s.state n v s.memory.was unf in
      let there = at (flush_end g x E d) u.flushed in
      let w = m.memory in
      let k : CachingCut x (apply_all_caching (take n f.stores) (caching_of s.memory)) w = subst (λ (a : Caching). CachingCut x a w) (at n (omega arith)) cut.left in
      rw (named_look g y some nb w, named_look g y some nb (carried_out f s.state (flush_end g x E d) v).memory, ap (λ (a : Caching). a.now) there) (of p d n u w k y by)

  module _ (named : ℕ → Bool) (names : NamesAll g (on_caching_device g t) s named) where
    names_under : NamesAll g (on_device g t) under named
    names_under = names_beneath g (on_device g t) (device_caches g t) s named names

    compact_keeps : s.mode ≡ ready → (d : ℕ) → KeepsLooks g (on_caching_device g t) s (compacts d) named (emptyings_of_compact g x v s.state d) (λ e. ShowsAlike g)
    compact_keeps m d = by_stores (compacts d) named (emptyings_of_compact g x v s.state d) (λ e. ShowsAlike g) (λ p.
        let (k, c, above, rr) = rests_of g t under o m in
        let e = drives_of_call g ok t under o named names_under m in
        let ca = compact_fits g ok t under o named names_under m d p in
        let l = with_marks s.ledger c in
        subst (λ (xs : List Store). AllKept xs (emptyings_of_compact g x v s.state d) (λ e. ShowsAlike g)) (ap (λ (here : ℕ → Bool). compact_stores g here (roles g v) (by_roles g v) s.state d) (sym e))
        (kept g x (caching_of s.memory) (compact_stores g (present_but g x) (roles g v) (by_roles g v) s.state d) (emptyings_of_compact g x v s.state d) true (roles g v) (new_sectors g (by_state g (present_but g x) (by_roles g v) s.state) v)
        (compact_within g ok x k v s.state l rr d ca) (λ e. ShowsAlike g) (compact_behind g ok x k v s.state l rr d ca)))

    reset_keeps : s.mode ≡ ready → (z : ℕ) → KeepsLooks g (on_caching_device g t) s (resets z) named (emptyings_of_reset g x v s.state) (λ d. ShowsAlike g)
    reset_keeps m z = by_stores (resets z) named (emptyings_of_reset g x v s.state) (λ d. ShowsAlike g) (λ p.
        let (k, c, above, rr) = rests_of g t under o m in
        let e = drives_of_call g ok t under o named names_under m in
        let ra : ResetAccepted g (present_but g x) (roles g v) (by_roles g v) (by_state g (present_but g x) (by_roles g v) s.state) s.state z = rw e at (reset_accepted g t named s.state v z p) in
        let l = with_marks s.ledger c in
        subst (λ (xs : List Store). AllKept xs (emptyings_of_reset g x v s.state) (λ d. ShowsAlike g)) (ap (λ (here : ℕ → Bool). reset_all g here (roles g v) (by_roles g v) s.state z) (sym e))
        (kept g x (caching_of s.memory) (reset_all g (present_but g x) (roles g v) (by_roles g v) s.state z) (emptyings_of_reset g x v s.state) false (roles g v) (new_general_of g (by_state g (present_but g x) (by_roles g v) s.state) v)
        (reset_within g ok x k v s.state l rr z ra) (λ d. ShowsAlike g) (reset_behind g ok x k v s.state l rr z ra)))

    -- ---- a mount
    stores_are : (call_of g t mounts named s.state v).stores ≡ mount_stores g (present_but g x) x v
    stores_are = rw (drives_of_look g ok t under o named names_under, lost_of_look g ok t under o named names_under) refl

    accepted_then : first_refusal (call_of g t mounts named s.state v).refusals ≡ accept
        → MountAccepted g (present_but g x) (roles g (flushed_all g x v)) (by_roles g (flushed_all g x v)) (by_look (showing g (present_but g x) x (by_roles g (flushed_all g x v))))
    accepted_then p = mount_accepted_same g (present_but g x) x v (flushed_all g x v) (opened_sectors g x v) (mount_allowed g ok t under o named names_under p)

    mount_keeps : MayMount s.mode → KeepsLooks g (on_caching_device g t) s mounts named (emptyings_of_mount g x v) (λ d. ShowsAlike g)
    mount_keeps m = by_stores mounts named (emptyings_of_mount g x v) (λ d. ShowsAlike g) (λ p.
        let (k, c, above, ri) = invs_of g t under o m in
        let l = with_marks s.ledger c in
        let u = apply_all (emptyings_of_mount g x v).before v in
        subst (λ (xs : List Store). AllKept xs (emptyings_of_mount g x v) (λ d. ShowsAlike g)) (sym stores_are)
        (kept g x (caching_of s.memory) (mount_stores g (present_but g x) x v) (emptyings_of_mount g x v) false (roles g u) (new_general_of g (by_look (mount_look g (present_but g x) x v)) u)
        (mount_within g ok x k v l ri (accepted_then p)) (λ d. ShowsAlike g) (mount_behind g ok x k v l ri (accepted_then p))))

    -- the mount's look shows what a look shows at its start
    look_is : mount_look g (present_but g x) x v ≡ shown_by g named v v
    unfolding mount_look
    look_is =
        showing_same g (by_roles g (after_opening g (present_but g x) v)) (by_roles g v) (by_roles_same g (after_opening g (present_but g x) v) v (opening_sectors g (present_but g x) v)) (present_but g x) x
        ∙ rw (drives_of_look g ok t under o named names_under, lost_of_look g ok t under o named names_under) refl

    abbrev UpTo : Shown → ℕ → Shown → Shown → Type 0
    UpTo k d = AlikeUpTo g (entry_made g x v d) (λ z. (k.zone z).pointer)

    parity_keeps : MayMount s.mode → KeepsLooks g (on_caching_device g t) s mounts named (parity_emptyings_of_mount g x v) (UpTo (shown_by g named v v))
    parity_keeps m = by_stores mounts named (parity_emptyings_of_mount g x v) (UpTo (shown_by g named v v)) (λ p.
        let (k, c, above, ri) = invs_of g t under o m in
        let l = with_marks s.ledger c in
        let u = after_fill g (present_but g x) x v in
        subst (λ (a : Shown). AllKept (call_of g t mounts named s.state v).stores (parity_emptyings_of_mount g x v) (UpTo a)) look_is
        (subst (λ (xs : List Store). AllKept xs (parity_emptyings_of_mount g x v) (UpTo (mount_look g (present_but g x) x v))) (sym stores_are)
        (kept g x (caching_of s.memory) (mount_stores g (present_but g x) x v) (parity_emptyings_of_mount g x v) true (roles g u) (new_sectors g (by_look (mount_look g (present_but g x) x v)) u)
        (mount_parity_within g ok x k v l ri (accepted_then p)) (UpTo (mount_look g (present_but g x) x v)) (mount_parity_behind g ok x k v l ri (accepted_then p)))))

  -- AT A POINT
  pub emptyings_keep : EmptyingsKeepLooks g (on_caching_device g t) (λ m. m.memory) s
  emptyings_keep = record { of_compact = compact_keeps; of_reset = reset_keeps; of_mount = mount_keeps; of_mount_parity = parity_keeps }

-- THE THEOREM
pub emptyings_keep_looks : EmptyingClaim
emptyings_keep_looks g t = at_every_point g t (EmptyingsKeepLooks g (on_caching_device g t) (λ m. m.memory)) (λ wb lf s k. emptyings_keep g (valid_if_test g wb) t s k.ok)
