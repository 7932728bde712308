-- What the calls owe on drives that cache resets: stopped after any n stores, that the invariant holds of whatever a cut may keep, whatever is put back;
-- finished, that all is at rest, whatever is put back. Here a flush, a mount and a format; write, reset and compact: CachedOwn, CachedReset, CachedCompact.
use Rattle.std.specs.Prelude.{◌≡◌, refl, ◌⊎◌, ℕ, zero, ◌+◌, ◌-◌, ◌<◌, ◌^◌, length, take}
use Rattle.std.proofs.Common.{sym, ap, ◌∙◌, inl, inr, arith}
use Rattle.std.proofs.Math.Path.{subst}
use Rattle.std.proofs.Math.Decide.{dec_lt}
use mathlib.Core.List.{List, [], ◌∷◌, ◌++◌, append-nil, append_assoc, Memᴰ}
use Rattle.std.proofs.lemmas.List.{take-append-le}
use Rattle.std.proofs.Math.Seq.{take-append-add}
use Rattle.tables.specs.meaning.Below.{each_below}
use Rattle.tables.specs.meaning.Phases.{on_present}
use Rattle.tables.specs.meaning.Device.{Device, Store, reset, apply_all}
use Rattle.tables.specs.meaning.Cached.{Caching, uncached, apply_all_caching}
use Rattle.tables.specs.laws.Cached.{caching_append, now_is, was_is, remember_here}
use Rattle.tables.specs.laws.Local.{LocalStore, flush_here, local_stores, local_append}
use Rattle.tables.specs.meaning.Drives.{no_drive, present_but}
use Rattle.tables.specs.declared.Geometry.{Geometry}
use Rattle.tables.specs.meaning.Geometry.{Valid, physical_zones}
use Rattle.logs.specs.meaning.Entry.{label, counters}
use Rattle.volume.specs.meaning.State.{StateView}
use Rattle.volume.specs.meaning.Rules.{showing}
use Rattle.volume.specs.meaning.Calls.{append_general, generations_from, write_state, flush_stores, flush_state, reset_state, format_stores, format_state}
use Rattle.volume.specs.meaning.Roles.{roles, by_roles}
use Rattle.volume.specs.meaning.Emptying.{by_state, by_look, write_all, reset_all, compact_stores}
use Rattle.volume.specs.meaning.Mount.{phases_of_logs, phases_before_entries, mount_stores, mount_shows, mount_state}
use Rattle.promise.specs.meaning.Ledger.{Ledger, fresh_ledger, after_write, after_flush, after_reset, after_stopped_reset, after_mount}
use Rattle.promise.proofs.invariant.Invariant.{Here}
use Rattle.promise.proofs.invariant.Obligations.{never_emptied, WriteOk}
use Rattle.promise.proofs.invariant.RoomAsked.{ResetAccepted, CompactAccepted, MountAccepted}
use Rattle.promise.proofs.invariant.Delayed.{PutBack, Delayed, Forgets}
use Rattle.promise.proofs.roles.RoledCalls.{roled_format}
use Rattle.promise.proofs.roles.SamePlaces.{in_order}
use Rattle.promise.proofs.roles.MountReads.{mount_stores_same, mount_accepted_same}
use Rattle.promise.proofs.emptying.EmptyingsDelayed.{flush_seen, flushed_from, flushed_from_back, flushed_from_is, flush_forgets}
use Rattle.promise.proofs.emptying.MountWhole.{mount_cuts}
use Rattle.promise.proofs.device.Marks.{with_marks}
use Rattle.promise.proofs.device.Modes.{SomeInvs, Halted, own_rests, less_invs, rests_invs, invs_lasting, order_invs}
use Rattle.promise.proofs.device.PlainCalls.{flush_halted, flush_done}
use Rattle.promise.proofs.device.CachedModes.{Forgotten, now_back, RestsCached, HaltedCached, forgotten_rests, delayed_halted}

abbrev pub WriteOwesCached : Geometry → Type 0
WriteOwesCached g = (x : ℕ) (c : Caching) (state : StateView) (l : Ledger) (z : ℕ) (ss : List (List ℕ)) → RestsCached g x c state l
    → WriteOk g (present_but g x) (by_roles g c.now) state z ss
    → let xs = write_all g (present_but g x) (roles g c.now) (by_roles g c.now) state z ss in
    ((n : ℕ) → HaltedCached g x (apply_all_caching (take n xs) c) (after_write l z ss)) × RestsCached g x (apply_all_caching xs c) (write_state x state z (length ss)) (after_write l z ss)

abbrev pub ResetOwesCached : Geometry → Type 0
ResetOwesCached g = (x : ℕ) (c : Caching) (state : StateView) (l : Ledger) (z : ℕ) → RestsCached g x c state l
    → ResetAccepted g (present_but g x) (roles g c.now) (by_roles g c.now) (by_state g (present_but g x) (by_roles g c.now) state) state z
    → let xs = reset_all g (present_but g x) (roles g c.now) (by_roles g c.now) state z in
    ((n : ℕ) → HaltedCached g x (apply_all_caching (take n xs) c) (after_stopped_reset l z)) × RestsCached g x (apply_all_caching xs c) (reset_state x state z) (after_reset l z)

abbrev pub CompactOwesCached : Geometry → Type 0
CompactOwesCached g = (x : ℕ) (c : Caching) (state : StateView) (l : Ledger) (d : ℕ) → RestsCached g x c state l
    → CompactAccepted g (present_but g x) (roles g c.now) (by_roles g c.now) (by_state g (present_but g x) (by_roles g c.now) state) d
    → let xs = compact_stores g (present_but g x) (roles g c.now) (by_roles g c.now) state d in
    ((n : ℕ) → HaltedCached g x (apply_all_caching (take n xs) c) l) × RestsCached g x (apply_all_caching xs c) state l

abbrev pub MountOwesCached : Geometry → Type 0
MountOwesCached g = (x : ℕ) (c : Caching) (l : Ledger) → ((u : Device) → PutBack g x c u → SomeInvs g x u l)
    → MountAccepted g (present_but g x) (roles g c.now) (by_roles g c.now) (by_look (showing g (present_but g x) x (by_roles g c.now)))
    → let xs = mount_stores g (present_but g x) x c.now in let k = mount_shows g (present_but g x) x c.now in
    ((n : ℕ) → HaltedCached g x (apply_all_caching (take n xs) c) l) × RestsCached g x (apply_all_caching xs c) (mount_state k) (after_mount k)

-- ---- a part of two lists of stores: of the first, or all of it and a part of the second
pub in_either : (g : Geometry) (x : ℕ) (c : Caching) (xs ys : List Store) (n : ℕ) (t : Device) (Q : Type 0) → (n < length xs → PutBack g x (apply_all_caching (take n xs) c) t → Q)
    → ((j : ℕ) → n ≡ length xs + j → PutBack g x (apply_all_caching (take j ys) (apply_all_caching xs c)) t → Q) → PutBack g x (apply_all_caching (take n (xs ++ ys)) c) t → Q
in_either g x c xs ys n t Q first second k = go (dec_lt n (length xs))
  where
    go : Dec (n < length xs) → Q
    go (yes h) = first h (subst (λ (zs : List Store). PutBack g x (apply_all_caching zs c) t) (take-append-le n xs ys (omega (arith, h))) k)
    go (no h) =
        let j = n - length xs in
        let e : n ≡ length xs + j = omega arith in
        let s : take n (xs ++ ys) ≡ xs ++ take j ys = ap (λ (q : ℕ). take q (xs ++ ys)) e ∙ take-append-add xs ys j in
        second j e (subst (λ (a : Caching). PutBack g x a t) (ap (λ (zs : List Store). apply_all_caching zs c) s ∙ caching_append xs (take j ys) c) k)

-- ---- what ends in a flush
module _ (g : Geometry) (x : ℕ) where
  abbrev F : List Store
  F = flush_stores g (present_but g x)

  pub flushed_last : (c : Caching) (ys : List Store) → Forgotten g x (apply_all_caching (ys ++ F) c)
  flushed_last c ys d y a = ap (λ (k : Caching). k.was d y) (caching_append ys F c) ∙ flush_forgets g x (apply_all_caching ys c) d y a

  -- what begins with one forgets what was remembered before
  module _ (c : Caching) (ys : List Store) where
    begins : (d y : ℕ) → Here g x d → local_stores d y (F ++ ys) ≡ flush_here ∷ local_stores d y ys
    begins d y a = local_append d y F ys ∙ ap (λ (os : List LocalStore). os ++ local_stores d y ys) (flush_seen g x d y a)

    anew : (d y : ℕ) → Here g x d → (apply_all_caching (F ++ ys) c).was d y ≡ (apply_all_caching (F ++ ys) (uncached c.now)).was d y
    anew d y a =
        was_is d y (F ++ ys) c ∙ ap (λ (os : List LocalStore). remember_here os (c.now d y) (c.was d y)) (begins d y a)
        ∙ sym (was_is d y (F ++ ys) (uncached c.now) ∙ ap (λ (os : List LocalStore). remember_here os (c.now d y) []) (begins d y a))

    pub flushed_first : (u : Device) → PutBack g x (apply_all_caching (F ++ ys) c) u → Delayed g x c.now (F ++ ys) u
    flushed_first u k = record { at = λ d y. go d y (k.at d y) }
      where
        go : (d y : ℕ) → (u d y ≡ (apply_all_caching (F ++ ys) c).now d y) ⊎ (Here g x d × Memᴰ (u d y) ((apply_all_caching (F ++ ys) c).was d y))
            → (u d y ≡ (apply_all_caching (F ++ ys) (uncached c.now)).now d y) ⊎ (Here g x d × Memᴰ (u d y) ((apply_all_caching (F ++ ys) (uncached c.now)).was d y))
        go d y (inl q) = inl (q ∙ ap (λ (t : Device). t d y) (now_is (F ++ ys) c ∙ sym (now_is (F ++ ys) (uncached c.now))))
        go d y (inr (a, m)) = inr (a, rw (anew d y a) at m)

    pub flushed_first_forgets : Forgets g x c.now (F ++ ys) → Forgotten g x (apply_all_caching (F ++ ys) c)
    flushed_first_forgets f d y a = anew d y a ∙ was_is d y (F ++ ys) (uncached c.now) ∙ f.none d y a

-- ---- a part of a flush
pub flush_part_halted : (g : Geometry) → Valid g → (x : ℕ) (c : Caching) (l : Ledger) → ((u : Device) → PutBack g x c u → SomeInvs g x u l) → (n : ℕ) → HaltedCached g x (apply_all_caching (take n (flush_stores g (present_but g x))) c) l
flush_part_halted g ok x c l i n u k =
    let t = flushed_from g x c n u k in
    subst (λ (a : Device). Halted g x a l) (sym (flushed_from_is g x c n u k)) (flush_halted g ok x t l n (i t (flushed_from_back g x c n u k)))

-- A FLUSH
pub flush_owes_cached : (g : Geometry) → Valid g → (x : ℕ) (c : Caching) (state : StateView) (l : Ledger) → RestsCached g x c state l
    → ((n : ℕ) → HaltedCached g x (apply_all_caching (take n (flush_stores g (present_but g x))) c) l) × RestsCached g x (apply_all_caching (flush_stores g (present_but g x)) c) (flush_state x state) (after_flush l)
flush_owes_cached g ok x c state l r = (
  flush_part_halted g ok x c l (λ u k. rests_invs g x u state l (r.rests u k)),
  forgotten_rests g x (apply_all_caching (flush_stores g (present_but g x)) c) (flush_state x state) (after_flush l) (flush_forgets g x c)
      (let (e, q) = flush_done g ok x c.now state l (r.rests c.now (now_back g x c)) in
      rw (now_is (flush_stores g (present_but g x)) c) (own_rests e g x (apply_all (flush_stores g (present_but g x)) c.now) (flush_state x state) (after_flush l) q)),
)

-- A MOUNT
begins_so : (a b c : List Store) → (ys : List Store) × ((a ++ b) ++ c ≡ a ++ ys)
begins_so a b c = (b ++ c, append_assoc a b c)

mount_begins : (g : Geometry) (x : ℕ) (v : Device) → (ys : List Store) × (mount_stores g (present_but g x) x v ≡ flush_stores g (present_but g x) ++ ys)
unfolding mount_stores phases_before_entries phases_of_logs flush_stores
mount_begins g x v = begins_so (flush_stores g (present_but g x)) _ _

module _ (g : Geometry) (ok : Valid g) (x : ℕ) (c : Caching) (l : Ledger) (i : (u : Device) → PutBack g x c u → SomeInvs g x u l)
    (ma : MountAccepted g (present_but g x) (roles g c.now) (by_roles g c.now) (by_look (showing g (present_but g x) x (by_roles g c.now)))) where
  abbrev v : Device
  v = c.now

  abbrev xs : List Store
  xs = mount_stores g (present_but g x) x c.now

  abbrev R : List Store
  R = (mount_begins g x c.now).0

  xs_are : mount_stores g (present_but g x) x c.now ≡ flush_stores g (present_but g x) ++ R
  xs_are = (mount_begins g x c.now).1

  now_invs : SomeInvs g x v l
  now_invs = i v (now_back g x c)

  -- stopped behind its first flush
  late : (n : ℕ) (u : Device) → Delayed g x v (take n xs) u → Halted g x u l
  late n u d =
      let (e, m, above, ri) = now_invs in
      delayed_halted g x v l (take n xs) (invs_lasting g x v l now_invs) u d (λ t w h cut.
      let k = (mount_cuts g ok x (in_order v) (with_marks l m) e (order_invs g x v e (with_marks l m) ri) (mount_accepted_same g (present_but g x) x v (in_order v) (λ d y. refl) ma)).0 n t w in
      less_invs g x w l m above (k (subst (λ (ys : List Store). Delayed g x (in_order v) (take n ys) t) (mount_stores_same g (present_but g x) x v (in_order v) (λ d y. refl)) h) cut))

  pub mount_stopped : (n : ℕ) → HaltedCached g x (apply_all_caching (take n xs) c) l
  mount_stopped n u k = go (dec_lt n (length (F g x)))
    where
      k1 : PutBack g x (apply_all_caching (take n (F g x ++ R)) c) u
      k1 = subst (λ (ys : List Store). PutBack g x (apply_all_caching (take n ys) c) u) xs_are k

      go : Dec (n < length (F g x)) → Halted g x u l
      go (yes h) = flush_part_halted g ok x c l i n u (subst (λ (ys : List Store). PutBack g x (apply_all_caching ys c) u) (take-append-le n (F g x) R (omega (arith, h))) k1)
      go (no h) =
          let j = n - length (F g x) in
          let e : n ≡ length (F g x) + j = omega arith in
          let s : take n (F g x ++ R) ≡ F g x ++ take j R = ap (λ (q : ℕ). take q (F g x ++ R)) e ∙ take-append-add (F g x) R j in
          let d = flushed_first g x c (take j R) u (subst (λ (ys : List Store). PutBack g x (apply_all_caching ys c) u) s k1) in
          late n u (subst (λ (ys : List Store). Delayed g x v ys u) (sym (ap (take n) xs_are ∙ s)) d)

  pub mount_finished : let k = mount_shows g (present_but g x) x c.now in RestsCached g x (apply_all_caching xs c) (mount_state k) (after_mount k)
  unfolding mount_shows
  mount_finished =
      let (e, m, above, ri) = now_invs in
      let q = mount_cuts g ok x v (with_marks l m) e ri ma in
      let k = showing g (present_but g x) x (by_roles g (apply_all xs v)) in
      let f : Forgotten g x (apply_all_caching xs c) = subst (λ (ys : List Store). Forgotten g x (apply_all_caching ys c)) (sym xs_are) (flushed_first_forgets g x c R (subst (λ (ys : List Store). Forgets g x v ys) xs_are q.1)) in
      forgotten_rests g x (apply_all_caching xs c) (mount_state k) (after_mount k) f (rw (now_is xs c) (own_rests q.2.0 g x (apply_all xs v) (mount_state k) (after_mount k) q.2.1))

pub mount_owes_cached : (g : Geometry) → Valid g → MountOwesCached g
mount_owes_cached g ok x c l i ma = (mount_stopped g ok x c l i ma, mount_finished g ok x c l i ma)

-- A FORMAT, finished
ends_so : (a b c d : List Store) → (ys : List Store) × (a ++ (b ++ (c ++ (d ++ []))) ≡ ys ++ d)
ends_so a b c d = (a ++ (b ++ c), ap (λ (t : List Store). a ++ (b ++ (c ++ t))) (append-nil d) ∙ ap (λ (t : List Store). a ++ t) (sym (append_assoc b c d)) ∙ sym (append_assoc a (b ++ c) d))

format_ends : (g : Geometry) (x a : ℕ) → (ys : List Store) × (format_stores g (present_but g x) x a ≡ ys ++ flush_stores g (present_but g x))
unfolding format_stores flush_stores
format_ends g x a =
    let p = present_but g x in
    let made = each_below (λ d. append_general g (label x a) d ++ append_general g (counters (generations_from (λ z. 1) zero g.zones)) d) g.drives in
    ends_so (on_present p (each_below (λ d. each_below (λ y. reset d y ∷ []) (physical_zones g)) g.drives)) (flush_stores g p) (on_present p made) (flush_stores g p)

pub format_rests_cached : (g : Geometry) → Valid g → (x a : ℕ) (c : Caching) → (x ≡ no_drive) ⊎ (x < g.drives) → a < 256 ^ 8
    → RestsCached g x (apply_all_caching (format_stores g (present_but g x) x a) c) (format_state x) fresh_ledger
format_rests_cached g ok x a c lost ha =
    let xs = format_stores g (present_but g x) x a in
    let (ys, e) = format_ends g x a in
    forgotten_rests g x (apply_all_caching xs c) (format_state x) fresh_ledger (subst (λ (zs : List Store). Forgotten g x (apply_all_caching zs c)) (sym e) (flushed_last g x c ys))
    (rw (now_is xs c) (own_rests never_emptied g x (apply_all xs c.now) (format_state x) fresh_ledger (roled_format g ok x a c.now lost ha)))
