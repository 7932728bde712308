-- A COMPACT on drives that cache resets: what it owes. The old log may come back until the next flush, also once the compact is finished: it is a spare, and all is at
-- rest with it (EmptyingsBack).
use Rattle.std.specs.Prelude.{◌≡◌, refl, ◌⊎◌, Bool, ℕ, length, take, eqb}
use Rattle.std.proofs.Common.{sym, ◌∙◌}
use Rattle.std.proofs.Math.Path.{ap, subst}
use Rattle.std.proofs.Math.Logic.{inl, inr}
use Rattle.std.proofs.Math.Bool.{true}
use mathlib.Core.List.{List, []}
use Rattle.tables.specs.laws.Lists.{prefix_is_take}
use Rattle.tables.specs.meaning.Device.{Device, Store, apply_all}
use Rattle.tables.specs.meaning.Cached.{Caching, apply_all_caching}
use Rattle.tables.specs.laws.Cached.{now_is}
use Rattle.tables.specs.meaning.Drives.{present_but}
use Rattle.tables.specs.declared.Geometry.{Geometry}
use Rattle.tables.specs.meaning.Geometry.{Valid}
use Rattle.volume.specs.meaning.State.{StateView}
use Rattle.volume.specs.meaning.Roles.{roles, by_roles}
use Rattle.volume.specs.meaning.Emptying.{by_state, empty_parity, compact_stores}
use Rattle.promise.specs.meaning.Ledger.{Ledger, after_flush}
use Rattle.promise.proofs.invariant.Invariant.{LogGenerations}
use Rattle.promise.proofs.invariant.RoomAsked.{CompactAccepted}
use Rattle.promise.proofs.roles.RoledCalls.{RoledRests}
use Rattle.promise.proofs.emptying.EmptyingsDelayed.{LeftAs, in_first, as_part, emptyings_delayed}
use Rattle.promise.proofs.emptying.EmptyingsBack.{Finished}
use Rattle.promise.proofs.emptying.ParityRests.{new_sectors}
use Rattle.promise.proofs.emptying.ParityEmptyings.{parity_emptyings_back}
use Rattle.promise.proofs.emptying.ParityCompact.{CanCompact, by, can, marked}
use Rattle.promise.proofs.device.Marks.{with_marks, MarksAbove}
use Rattle.promise.proofs.device.Modes.{SomeRests, Halted, less_rests, rests_invs, kept_rests}
use Rattle.promise.proofs.device.PlainCalls.{flush_halted}
use Rattle.promise.proofs.device.CompactCall.{can_compact, compact_owes}
use Rattle.promise.proofs.device.CachedModes.{now_back, RestsCached, HaltedCached}
use Rattle.promise.proofs.device.CachedOwed.{CompactOwesCached}

module _ (g : Geometry) (ok : Valid g) (x : ℕ) (c : Caching) (state : StateView) (l : Ledger) (d : ℕ) (r : RestsCached g x c state l)
    (ca : CompactAccepted g (present_but g x) (roles g c.now) (by_roles g c.now) (by_state g (present_but g x) (by_roles g c.now) state) d)
    (e : LogGenerations) (m : ℕ → ℕ) (above : MarksAbove l m) (rr : RoledRests e g x c.now state (with_marks l m)) where
  abbrev v : Device
  v = c.now

  abbrev one : ℕ → Bool
  one i = eqb i d

  kc : CanCompact g ok x e c.now state (with_marks l m) rr d
  kc = can_compact g ok x c.now state l d ca e m c.now (λ i y. refl) rr

  abbrev xs : List Store
  xs = compact_stores g (present_but g x) (roles g c.now) (by_roles g c.now) state d

  abbrev after : Caching
  after = apply_all_caching xs c

  -- FINISHED
  compact_done : RestsCached g x after state l
  unfolding compact_stores
  compact_done = go (parity_emptyings_back g ok x e c.now state (with_marks l m) rr (by_state g (present_but g x) (by_roles g c.now) state) (by g ok x e c.now state (with_marks l m) rr d) one (can g ok x e c.now state (with_marks l m) rr d kc) c.was)
    where
      go : (xs ≡ []) ⊎ Finished g x c.now c.was (λ w. (b : LogGenerations) × RoledRests b g x w state (after_flush (with_marks l m))) xs → RestsCached g x after state l
      go (inl q) = subst (λ (ys : List Store). RestsCached g x (apply_all_caching ys c) state l) (sym q) r
      go (inr b) = record {
        rests = λ t k. let (a, h) = (b.back t k).held in less_rests g x t state l m above (kept_rests g x t state (with_marks l m) (marked g x e a c.now t state (with_marks l m) rr h));
        roles_are = λ t k i a. (b.back t k).roles_are i a ∙ ap (λ (w : Device). roles g w i) (sym (now_is xs c));
        spares = λ i y a. side i y (b.spares i y a);
      }
        where
          side : (i y : ℕ) → (after.was i y ≡ []) ⊎ (y ≡ (roles g (apply_all xs v) i).spare) → (after.was i y ≡ []) ⊎ (y ≡ (roles g after.now i).spare)
          side i y (inl q) = inl q
          side i y (inr q) = inr (rw (now_is xs c) q)

  -- STOPPED
  in_emptying : (P : Type 0) (t : Device) → LeftAs g x true (roles g c.now) one (new_sectors g (by_state g (present_but g x) (by_roles g c.now) state) c.now) c P xs t → Halted g x t l
  in_emptying P t (in_first i n u k q) = subst (λ (a : Device). Halted g x a l) (sym q) (flush_halted g ok x u l n (rests_invs g x u state l (r.rests u k)))
  in_emptying P t (as_part p) =
      let h = (compact_owes g ok x c.now state l d (e, m, above, rr) ca).0 (length p.part) in
      subst (λ (a : Device). Halted g x a l) (sym (p.is ∙ ap (λ (ys : List Store). apply_all ys v) (prefix_is_take p.part xs p.of))) h

  compact_stopped : (n : ℕ) → HaltedCached g x (apply_all_caching (take n xs) c) l
  unfolding compact_stores empty_parity
  compact_stopped n t k = in_emptying _ t (emptyings_delayed g x true (roles g c.now) one (new_sectors g (by_state g (present_but g x) (by_roles g c.now) state) c.now) c n t k)

pub compact_owes_cached : (g : Geometry) → Valid g → CompactOwesCached g
compact_owes_cached g ok x c state l d r ca = go (r.rests c.now (now_back g x c))
  where
    go : SomeRests g x c.now state l → let xs = compact_stores g (present_but g x) (roles g c.now) (by_roles g c.now) state d in
        ((n : ℕ) → HaltedCached g x (apply_all_caching (take n xs) c) l) × RestsCached g x (apply_all_caching xs c) state l
    go (e, m, above, rr) = (compact_stopped g ok x c state l d r ca e m above rr, compact_done g ok x c state l d r ca e m above rr)
