-- THE EMPTYINGS OF PARITY LOGS outside a mount, one drive after the other (empty_parity): stopped after any number of stores and cut in any way, the device
-- is that of the call's start, perhaps flushed on some drives (in_first_flush), or at rest in old or new roles with every content committed
-- (at_rest), so that every look shows the contents (reading 15). Finished: at rest in the new roles.
use Rattle.std.specs.Prelude.{◌≡◌, Bool, ℕ, ◌<◌, ◌⊎◌, List, [], ◌++◌, length, take}
use Rattle.std.proofs.Math.Path.{refl}
use Rattle.std.proofs.Common.{sym, ap, ap₂, ◌∙◌, subst, eq-eqb}
use Rattle.std.proofs.Math.Bool.{true}
use Rattle.tables.specs.meaning.Device.{ZoneView, Device, Store, apply_all, Cut}
use Rattle.tables.specs.meaning.Drives.{present_but}
use Rattle.tables.specs.declared.Geometry.{Geometry}
use Rattle.tables.specs.meaning.Geometry.{Valid}
use Rattle.logs.specs.meaning.Entry.{parity_zone, Entry}
use Rattle.logs.specs.meaning.Walk.{walk_log}
use Rattle.volume.specs.meaning.State.{StateView}
use Rattle.volume.specs.meaning.Rules.{parity_entries}
use Rattle.volume.specs.meaning.Calls.{append_all, flush_stores}
use Rattle.volume.specs.meaning.Roles.{Roles, roles, by_roles, emptied_roles}
use Rattle.volume.specs.meaning.Emptying.{InForce, new_parity, new_parity_size, emptyings, empty_parity}
use Rattle.promise.specs.meaning.Ledger.{Ledger, after_flush}
use Rattle.promise.proofs.invariant.Invariant.{Here, LogGenerations}
use Rattle.promise.proofs.roles.RoledCalls.{RoledRests}
use Rattle.promise.proofs.emptying.EmptyingStops.{Solid, after_first_flush, LeftBy}
use Rattle.promise.proofs.emptying.Emptyings.{SameSectors, rest_of, OneDrive, Progress, emptyings_stopped, emptyings_done, at_flush, flush_held}
use Rattle.promise.proofs.emptying.EmptyingsBack.{Finished, emptyings_back}
use Rattle.promise.proofs.emptying.FlushedRests.{roles_same, sectors_seen, flushed_all, flushed_rests, same_rests, flush_solid}
use Rattle.promise.proofs.emptying.ParityAtRest.{ByState}
use Rattle.promise.proofs.emptying.ParityRests.{CanEmpty, new_sectors, emptying_rest, parity_stopped, parity_finished, parity_finished_roles, parity_finished_solid, parity_finished_log, parity_finished_kept, parity_finished_other, parity_before, parity_before_roles, parity_left_rests}

-- the log, and so what is copied of it, goes by the sectors
pub entries_same : (g : Geometry) (v w : Device) (d : ℕ) → (w d parity_zone).sectors ≡ (v d parity_zone).sectors → parity_entries g w d ≡ parity_entries g v d
unfolding parity_entries
entries_same g v w d h = ap (λ (ss : List (List ℕ)). (walk_log g d true ss).entries) h

module _ (g : Geometry) (ok : Valid g) (x : ℕ) (c : LogGenerations) (v : Device) (state : StateView) (l : Ledger) (rr : RoledRests c g x v state l) (f : InForce) (by : ByState g f state) (emptied : ℕ → Bool)
    (can : (d : ℕ) → d < g.drives → emptied d ≡ true → Here g x d × CanEmpty g v d (new_parity_size g f d)) where
  -- ---- what a stop and a cut leave
  pub data ParityStopped (w : Device) : Type 0 where
    in_first_flush : (n : ℕ) → Cut x (apply_all (take n (flush_stores g (present_but g x))) v) w → ParityStopped w
    at_rest : (e : LogGenerations) → RoledRests e g x w state (after_flush l) → ParityStopped w

  -- what holds between two emptyings
  abbrev Resting : Device → Type 0
  Resting u = (e : LogGenerations) × RoledRests e g x u state (after_flush l)

  -- ---- one drive (u: the device at its first flush's end)
  module _ (d : ℕ) (hd : Here g x d) (cd : CanEmpty g v d (new_parity_size g f d)) (u : Device) (solid : Solid g x u) (held : Resting u) (h : SameSectors v u d) where
    same_roles : roles g u d ≡ roles g v d
    same_roles = roles_same g v u d h

    same_new : new_sectors g f u d ≡ new_sectors g f v d
    same_new = ap₂ (λ (r : Roles) (es : List Entry). new_parity g f r d es) same_roles (entries_same g (by_roles g v) (by_roles g u) d (sectors_seen g v u d h parity_zone))

    rest_are : emptying_rest g x f u d ≡ rest_of g x true v (new_sectors g f v) d
    rest_are = ap₂ (λ (r : Roles) (ss : List (List ℕ)). after_first_flush g x d r.parity r.spare ss) same_roles same_new

    can_now : CanEmpty g u d (new_parity_size g f d)
    can_now = record { room = cd.room; top = rw same_roles cd.top; blank = h (roles g u d).spare ∙ ap (λ (r : Roles). (v d r.spare).sectors) same_roles ∙ cd.blank }

    committed : (z : ℕ) → z < g.zones → (after_flush l).committed z ≡ length ((after_flush l).content z)
    committed z hz = refl

    one_drive : OneDrive g x true v Resting ParityStopped d u (new_sectors g f v d) (rest_of g x true v (new_sectors g f v) d)
    one_drive =
        let (e, r) = held in
        let m = after_flush l in
        subst (λ (xs : List Store). OneDrive g x true v Resting ParityStopped d u (new_sectors g f v d) xs) rest_are (record {
          stopped = λ k w cut. let (i, q) = parity_stopped g ok x e u state m r committed solid d hd f by can_now k w cut in at_rest i q;
          held = (_, parity_finished g ok x e u state m r committed solid d hd f by can_now);
          solid = parity_finished_solid g ok x e u state m r committed solid d hd f by can_now;
          roles_are = parity_finished_roles g ok x e u state m r committed solid d hd f by can_now d hd ∙ rw (eq-eqb d d refl) (ap (emptied_roles true) same_roles);
          log = parity_finished_log g ok x e u state m r committed solid d hd f by can_now ∙ same_new;
          kept = parity_finished_kept g ok x e u state m r committed solid d hd f by can_now;
          others = parity_finished_other g ok x e u state m r committed solid d hd f by can_now;
        })

    -- before its last store
    drive_before : let w = apply_all (append_all d (roles g v d).spare (new_sectors g f v d) ++ flush_stores g (present_but g x)) u in Resting w × (roles g w d ≡ emptied_roles true (roles g v d))
    drive_before =
        let (e, r) = held in
        let m = after_flush l in
        let is = ap₂ (λ (q : Roles) (ss : List (List ℕ)). apply_all (append_all d q.spare ss ++ flush_stores g (present_but g x)) u) same_roles same_new in
        subst (λ (w : Device). Resting w × (roles g w d ≡ emptied_roles true (roles g v d))) is (
          (_, parity_before g ok x e u state m r committed solid d hd f by can_now),
          parity_before_roles g ok x e u state m r committed solid d hd f by can_now d hd ∙ rw (eq-eqb d d refl) (ap (emptied_roles true) same_roles),
        )

  -- ---- all of them
  abbrev stores_all : List Store
  stores_all = empty_parity g (present_but g x) (roles g v) f emptied (by_roles g v)

  all_are : stores_all ≡ emptyings g (present_but g x) true (roles g v) emptied (new_sectors g f v)
  unfolding empty_parity
  all_are = refl

  first : Resting (flushed_all g x v)
  first = (c, flushed_rests g ok c x v state l rr)

  more : (u : Device) → Solid g x u → Resting u → Resting (flushed_all g x u)
  more u s (e, r) = (e, flushed_rests g ok e x u state (after_flush l) r)

  unchanged : (u w : Device) → Solid g x u → Resting u → ((e y : ℕ) → Here g x e → w e y ≡ u e y) → ParityStopped w
  unchanged u w s (e, r) h = at_rest e (same_rests g e x u w r.0 h state (after_flush l) r.1)

  drives : (d : ℕ) → d < g.drives → emptied d ≡ true → Here g x d × ((u : Device) → Solid g x u → Resting u → SameSectors v u d → OneDrive g x true v Resting ParityStopped d u (new_sectors g f v d) (rest_of g x true v (new_sectors g f v) d))
  drives d hd b = let (a, k) = can d hd b in (a, λ u s q h. one_drive d a k u s q h)

  -- OF ONE DRIVE, behind its first flush: at rest there, and at rest with whatever is left of its two zones
  abbrev flush_end_of : ℕ → Device
  flush_end_of d = at_flush g x true (roles g v) emptied (new_sectors g f v) v d

  pub parity_at_flush : (d : ℕ) → d < g.drives → emptied d ≡ true → Resting (flush_end_of d) × SameSectors v (flush_end_of d) d
  parity_at_flush = flush_held g x true v (new_sectors g f v) emptied Resting ParityStopped first more (λ n w k. in_first_flush n k) unchanged drives

  pub parity_drive_left : (d : ℕ) (hd : d < g.drives) (b : emptied d ≡ true) (w : Device) → LeftBy g x (flush_end_of d) w d (roles g v d).parity (roles g v d).spare (new_sectors g f v d) → Resting w
  parity_drive_left d hd b w h =
      let (a, k) = can d hd b in
      let (held, same) = parity_at_flush d hd b in
      let (e, r) = held in
      let u = flush_end_of d in
      let s : Solid g x u = flush_solid g x _ in
      parity_left_rests g ok x e u state (after_flush l) r (λ z hz. refl) s d a f by (can_now d a k u s held same) w (rw (same_new d a k u s held same, same_roles d a k u s held same) h)

  -- THE THEOREM, stopped and cut
  pub parity_emptyings_stopped : (k : ℕ) (w : Device) → Cut x (apply_all (take k stores_all) v) w → ParityStopped w
  parity_emptyings_stopped k w cut =
      emptyings_stopped g x true v (new_sectors g f v) emptied Resting ParityStopped first more (λ n w k. in_first_flush n k) unchanged drives k w (subst (λ (xs : List Store). Cut x (apply_all (take k xs) v) w) all_are cut)

  -- finished
  pub parity_emptyings_done : Progress g x true v (new_sectors g f v) emptied Resting g.drives (apply_all stores_all v)
  parity_emptyings_done = subst (λ (xs : List Store). Progress g x true v (new_sectors g f v) emptied Resting g.drives (apply_all xs v)) (sym all_are)
      (emptyings_done g x true v (new_sectors g f v) emptied Resting ParityStopped first more (λ n w k. in_first_flush n k) unchanged drives)

  -- AND ON DRIVES THAT CACHE RESETS, whatever they bring back (was: what they remember at the start)
  pub parity_emptyings_back : (was : ℕ → ℕ → List ZoneView) → (stores_all ≡ []) ⊎ Finished g x v was (λ w. (e : LogGenerations) × RoledRests e g x w state (after_flush l)) stores_all
  unfolding empty_parity
  parity_emptyings_back was = emptyings_back g x true v (new_sectors g f v) emptied Resting ParityStopped first more (λ n w k. in_first_flush n k) unchanged drives (λ d hd b u s q h. let (a, k) = can d hd b in drive_before d a k u s q h) was
