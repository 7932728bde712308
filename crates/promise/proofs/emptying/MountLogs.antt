-- HOW A MOUNT BEGINS: a flush of all; the reset of the spares that have sectors written; the emptying of general logs that lack room; after each of these
-- two a flush, if it stored. All by the roles at the first flush's end. Stopped and cut anywhere, the invariant holds by the roles there are; finished, by
-- the new ones, and every look shows what it showed at the first flush's end.
use Rattle.std.specs.Prelude.{◌≡◌, refl, ◌≢◌, Bool, ℕ, ◌≤◌, ◌<◌, length, take}
use Rattle.std.proofs.Common.{sym, ap, ap₂, ◌∙◌, inl, arith}
use Rattle.std.proofs.Math.Path.{subst}
use Rattle.std.proofs.Math.Bool.{true, false}
use mathlib.Core.List.{List, [], ◌++◌, append-nil, map}
use Rattle.std.proofs.Math.Seq.{take-length}
use Rattle.tables.specs.meaning.Basics.{pick}
use Rattle.tables.specs.meaning.Lists.{concat, is_nil}
use Rattle.tables.specs.meaning.Device.{ZoneView, Device, Store, apply_all, Cut}
use Rattle.tables.specs.laws.Device.{apply_all_append}
use Rattle.tables.specs.meaning.Cached.{uncached, apply_all_caching}
use Rattle.tables.specs.meaning.Phases.{on_present, flush_all}
use Rattle.tables.specs.laws.StoresFit.{AllOn, on_present_on, on_append}
use Rattle.tables.specs.meaning.Through.{carry}
use Rattle.tables.specs.meaning.Drives.{present_but}
use Rattle.tables.specs.declared.Geometry.{Geometry}
use Rattle.tables.specs.meaning.Geometry.{Valid}
use Rattle.logs.specs.meaning.Entry.{general_zone, spare_zone, worn_generation, Header}
use Rattle.volume.specs.meaning.Rules.{general_heads}
use Rattle.volume.specs.meaning.Calls.{flush_stores}
use Rattle.volume.specs.meaning.Roles.{Roles, roles, placed_by, by_roles, roles_after}
use Rattle.volume.specs.meaning.Mount.{with_flush}
use Rattle.volume.specs.meaning.Emptying.{InForce, new_general, empty_general}
use Rattle.promise.specs.meaning.Ledger.{Ledger}
use Rattle.promise.proofs.invariant.Invariant.{Here, LogGenerations}
use Rattle.promise.proofs.invariant.Delayed.{PutBack, Delayed}
use Rattle.promise.proofs.roles.RoledCalls.{RoledInvs}
use Rattle.promise.proofs.roles.Roled.{standing_cut}
use Rattle.promise.proofs.emptying.CanEmpty.{CanEmptyLog}
use Rattle.promise.proofs.emptying.FlushedRests.{roles_same, sectors_seen, flushed_all, flush_sectors, flushed_invs, flushed_cut}
use Rattle.promise.proofs.emptying.SpareFills.{SameRead, heads_read, generation_read, read_shows}
use Rattle.promise.proofs.emptying.Forced.{Forced}
use Rattle.promise.proofs.emptying.Emptyings.{SameSectors}
use Rattle.promise.proofs.emptying.GeneralEmptying.{new_general_of, general_size_of, new_general_long}
use Rattle.promise.proofs.emptying.GeneralEmptyings.{LooksSame, looks_trans, looks_same, forced_same, EmptiedAll, left_invs, general_emptyings_stopped, general_emptyings_finished}
use Rattle.promise.proofs.emptying.CutRuns.{CutRuns, cut_runs_then, flushed_run}
use Rattle.promise.proofs.emptying.EmptyingsDelayed.{flushed_from, flushed_from_back, flushed_from_is, flush_part_is, flush_forgets_all, delayed_stopped, delayed_flushed}
use Rattle.promise.proofs.emptying.OnPresent.{on_present_all, on_frame}
use Rattle.promise.proofs.emptying.GeneralStores.{general_on, general_same}
use Rattle.promise.proofs.emptying.SparesReset.{spare_resets, carried_resets, blanked_roles, blanked_seen, blanked_invs, spares_part, spares_done, spares_blank}

-- a step on the present drives, and the flush if it stored
abbrev pub flushed_step : Geometry → (ℕ → Bool) → List Store → List Store
flushed_step g present xs = concat (with_flush g present xs)

-- the two steps, by the roles of v1: the spares, the general logs
abbrev pub spare_step_of : Geometry → ℕ → Device → List Store
spare_step_of g x v1 = flushed_step g (present_but g x) (map (carry (placed_by (roles g v1))) (spare_resets g (by_roles g v1)))

abbrev pub general_step_of : Geometry → ℕ → InForce → (ℕ → Bool) → Device → List Store
general_step_of g x f emptied v1 = flushed_step g (present_but g x) (empty_general g (present_but g x) (roles g v1) f emptied (by_roles g v1))

abbrev pub log_steps : Geometry → ℕ → InForce → (ℕ → Bool) → Device → List Store
log_steps g x f emptied v1 = spare_step_of g x v1 ++ general_step_of g x f emptied v1

-- they are on present drives, so the others stay
step_on : (g : Geometry) (a : ℕ → Bool) (xs : List Store) → AllOn a (flushed_step g a xs)
step_on g a xs = on_append a (on_present a xs) (pick (is_nil (on_present a xs)) [] (on_present a (flush_all g.drives)) ++ []) (on_present_on a xs) (rw (append-nil (pick (is_nil (on_present a xs)) [] (on_present a (flush_all g.drives)))) (go (is_nil (on_present a xs))))
  where
    go : (b : Bool) → AllOn a (pick b [] (on_present a (flush_all g.drives)))
    go true = tt
    go false = on_present_on a (flush_all g.drives)

pub logs_absent : (g : Geometry) (x : ℕ) (f : InForce) (emptied : ℕ → Bool) (v1 : Device) (e y : ℕ) → present_but g x e ≡ false → apply_all (log_steps g x f emptied v1) v1 e y ≡ v1 e y
logs_absent g x f emptied v1 e y h = on_frame (present_but g x) (log_steps g x f emptied v1) v1 e y
    (on_append (present_but g x) (spare_step_of g x v1) (general_step_of g x f emptied v1) (step_on g (present_but g x) (map (carry (placed_by (roles g v1))) (spare_resets g (by_roles g v1)))) (step_on g (present_but g x) (empty_general g (present_but g x) (roles g v1) f emptied (by_roles g v1)))) h

-- ---- a flush, or nothing
module _ (g : Geometry) (ok : Valid g) (x : ℕ) (c : LogGenerations) (l : Ledger) (v : Device) (ri : RoledInvs c g x v l) (nothing : Bool) where
  abbrev flush_if : List Store
  flush_if = pick nothing [] (on_present (present_but g x) (flush_all g.drives)) ++ []

  -- all sectors of the present drives stay
  abbrev Steady : Device → Type 0
  Steady u = RoledInvs c g x u l × ((e : ℕ) → Here g x e → SameSectors v u e)

  flush_if_lem : Steady (apply_all flush_if v)
  unfolding flush_stores
  flush_if_lem = go nothing
    where
      go : (b : Bool) → Steady (apply_all (pick b [] (on_present (present_but g x) (flush_all g.drives)) ++ []) v)
      go true = (ri, λ e a y. refl)
      go false = rw (append-nil (on_present (present_but g x) (flush_all g.drives))) (flushed_invs g ok c x v l ri, λ e a y. flush_sectors g x v e y a)

-- ==== the beginning of a mount (v: the device at its start; f, emptied: by the look at the first flush's end)
-- between its two steps (v1: the device at that flush's end)
pub record SparesReady (g : Geometry) (x : ℕ) (c : LogGenerations) (l : Ledger) (v1 u : Device) : Type 0 where
  pub invs : RoledInvs c g x u l
  pub roles_are : (e : ℕ) → Here g x e → roles g u e ≡ roles g v1 e
  pub seen : SameRead g x (by_roles g v1) (by_roles g u)
  pub blank : (e : ℕ) → Here g x e → (u e (roles g v1 e).spare).sectors ≡ []

-- and at its end
pub record LogsReady (g : Geometry) (x : ℕ) (l : Ledger) (f : InForce) (emptied : ℕ → Bool) (v1 u : Device) : Type 0 where
  pub holds : (e : LogGenerations) × RoledInvs e g x u l
  pub roles_are : (e : ℕ) → Here g x e → roles g u e ≡ roles_after false emptied (roles g v1) e
  pub logs : (e : ℕ) → Here g x e → emptied e ≡ true → (by_roles g u e general_zone).sectors ≡ new_general_of g f v1 e
  pub left : (e : ℕ) → Here g x e → emptied e ≡ false → (by_roles g u e general_zone).sectors ≡ (by_roles g v1 e general_zone).sectors
  pub kept : (e y : ℕ) → Here g x e → y ≢ general_zone → y ≢ spare_zone → (by_roles g u e y).sectors ≡ (by_roles g v1 e y).sectors
  pub force : Forced g x (by_roles g u) f.generation
  pub looks : LooksSame g x v1 u

-- how long the general logs are then
pub ready_long : (g : Geometry) (x : ℕ) (l : Ledger) (f : InForce) (emptied : ℕ → Bool) (v1 u : Device) → LogsReady g x l f emptied v1 u → (d : ℕ) → Here g x d
    → length (by_roles g u d general_zone).sectors ≡ pick (emptied d) (general_size_of g f v1 d) (length (by_roles g v1 d general_zone).sectors)
ready_long g x l f emptied v1 u k d a = go (emptied d) refl
  where
    go : (b : Bool) → emptied d ≡ b → length (by_roles g u d general_zone).sectors ≡ pick (emptied d) (general_size_of g f v1 d) (length (by_roles g v1 d general_zone).sectors)
    go true b = rw b (ap length (k.logs d a b) ∙ new_general_long g f (roles g v1 d) d (general_heads g (by_roles g v1) d))
    go false b = rw b (ap length (k.left d a b))

-- the general logs that lack room can be emptied, once the spares are blank
pub record CanEmptyGeneral (g : Geometry) (x : ℕ) (f : InForce) (v1 : Device) (d : ℕ) : Type 0 where
  pub present : Here g x d
  pub room : general_size_of g f v1 d ≤ g.capacity
  pub top : (roles g v1 d).general_claim ≤ worn_generation

module _ (g : Geometry) (ok : Valid g) (x : ℕ) (c : LogGenerations) (l : Ledger) (v1 : Device) (ri : RoledInvs c g x v1 l) (f : InForce) (forced : Forced g x (by_roles g v1) f.generation) (emptied : ℕ → Bool)
    (can : (d : ℕ) → d < g.drives → emptied d ≡ true → CanEmptyGeneral g x f v1 d) where
  abbrev Left : Device → Type 0
  Left w = (e : LogGenerations) × RoledInvs e g x w l

  -- ---- the spares
  abbrev resets : List Store
  resets = carried_resets g (present_but g x) (roles g v1) (by_roles g v1)

  spares_ready : SparesReady g x c l v1 (apply_all resets v1)
  spares_ready =
      let b = spares_done g x c v1 l ri in
      let u = apply_all resets v1 in
      record {
        invs = blanked_invs g x c v1 u ri.0 b l ri.1;
        roles_are = blanked_roles g x c v1 u ri.0 b;
        seen = λ e y a n. ap (λ (z : ZoneView). z.sectors) (blanked_seen g x c v1 u ri.0 b e y a n);
        blank = spares_blank g x c v1 l ri;
      }

  -- a stop among them, spares put back or not, and in the flush behind them
  spares_early : (k : ℕ) (u w : Device) → Delayed g x v1 (take k resets) u → Cut x u w → Left w
  spares_early k u w h cut = let (s, i) = spares_part g x c v1 l ri k u h in (c, standing_cut g x u w c l s i cut)

  spares_late : (n : ℕ) (u w : Device) → PutBack g x (apply_all_caching (take n (flush_stores g (present_but g x))) (apply_all_caching resets (uncached v1))) u → Cut x u w → Left w
  spares_late n u w h cut =
      let cc = apply_all_caching resets (uncached v1) in
      let t = flushed_from g x cc n u h in
      let k : Delayed g x v1 (take (length resets) resets) t = subst (λ (xs : List Store). Delayed g x v1 xs t) (sym (take-length resets)) (flushed_from_back g x cc n u h) in
      (c, flushed_cut g ok c x t l n w (spares_part g x c v1 l ri (length resets) t k) (subst (λ (a : Device). Cut x a w) (flushed_from_is g x cc n u h) cut))

  -- nothing of this changes while sectors stay
  ready_still : (u t : Device) → SparesReady g x c l v1 u → RoledInvs c g x t l → ((e : ℕ) → Here g x e → SameSectors u t e) → SparesReady g x c l v1 t
  ready_still u t b i h = record {
    invs = i;
    roles_are = λ e a. roles_same g u t e (h e a) ∙ b.roles_are e a;
    seen = λ e y a n. sectors_seen g u t e (h e a) y ∙ b.seen e y a n;
    blank = λ e a. h e a (roles g v1 e).spare ∙ b.blank e a;
  }

  spares_step : CutRuns g x v1 (spare_step_of g x v1) Left (λ u. SparesReady g x c l v1 u)
  unfolding flush_stores
  spares_step =
      let ys = pick (is_nil resets) [] (on_present (present_but g x) (flush_all g.drives)) ++ [] in
      let r = flush_if_lem g ok x c l (apply_all resets v1) spares_ready.invs (is_nil resets) in
      flushed_run g x v1 resets Left (λ u. SparesReady g x c l v1 u) spares_early spares_late (rw (apply_all_append resets ys v1) (ready_still (apply_all resets v1) (apply_all ys (apply_all resets v1)) spares_ready r.0 r.1))

  -- ---- the general logs (u: the device then)
  module _ (u : Device) (b : SparesReady g x c l v1 u) where
    heads_are : (d : ℕ) → Here g x d → general_heads g (by_roles g v1) d ≡ general_heads g (by_roles g u) d
    heads_are = heads_read g ok x (by_roles g v1) (by_roles g u) b.seen

    can_then : (d : ℕ) → d < g.drives → emptied d ≡ true → Here g x d × CanEmptyLog g false u d (general_size_of g f u d)
    can_then d hd e =
        let k = can d hd e in
        let r = b.roles_are d k.present in
        (k.present, record { room = rw (← heads_are d k.present) k.room; top = rw r k.top; blank = ap (λ (q : Roles). (u d q.spare).sectors) r ∙ b.blank d k.present })

    forced_then : Forced g x (by_roles g u) f.generation
    forced_then z hz = forced z hz ∙ generation_read g ok x (by_roles g v1) (by_roles g u) b.seen x (inl refl) z

    looks_then : LooksSame g x v1 u
    looks_then y by z hz = read_shows g ok x (by_roles g v1) (by_roles g u) b.seen y by z

    -- the same stores, by what the mount saw
    abbrev stores : List Store
    stores = empty_general g (present_but g x) (roles g v1) f emptied (by_roles g v1)

    stores_are : on_present (present_but g x) stores ≡ empty_general g (present_but g x) (roles g u) f emptied (by_roles g u)
    stores_are =
        on_present_all (present_but g x) stores (general_on g (present_but g x) (roles g v1) f emptied (by_roles g v1) (λ d hd e. (can d hd e).present))
        ∙ general_same g (present_but g x) (roles g v1) (roles g u) f emptied (by_roles g v1) (by_roles g u) (λ d hd e. (sym (b.roles_are d (can d hd e).present), heads_are d (can d hd e).present))

    new_are : (d : ℕ) → Here g x d → new_general_of g f u d ≡ new_general_of g f v1 d
    new_are d a = ap₂ (λ (q : Roles) (hs : List Header). new_general g f q d hs) (b.roles_are d a) (sym (heads_are d a))

    logs_ready : (t : Device) → EmptiedAll g x u f emptied (λ w. (e : LogGenerations) × RoledInvs e g x w l) t → LogsReady g x l f emptied v1 t
    logs_ready t k = record {
      holds = k.holds;
      roles_are = λ e a. k.roles_are e a ∙ ap (λ (q : Roles). roles_after false emptied (λ i. q) e) (b.roles_are e a);
      logs = λ e a h. k.logs e a h ∙ new_are e a;
      left = λ e a h. sectors_seen g u t e (k.left e a h) general_zone ∙ b.seen e general_zone a (λ q. omega (arith, q));
      kept = λ e y a n m. k.kept e y a n m ∙ b.seen e y a m;
      force = k.force;
      looks = looks_trans g x v1 (flushed_all g x u) t (looks_trans g x v1 u (flushed_all g x u) looks_then (looks_same g ok x u (flushed_all g x u) (λ e a y. flush_sectors g x u e y a))) k.looks;
    }

    logs_still : (t w : Device) → LogsReady g x l f emptied v1 t → (e : LogGenerations) × RoledInvs e g x w l → ((e : ℕ) → Here g x e → SameSectors t w e) → LogsReady g x l f emptied v1 w
    logs_still t w k i h = record {
      holds = i;
      roles_are = λ e a. roles_same g t w e (h e a) ∙ k.roles_are e a;
      logs = λ e a q. sectors_seen g t w e (h e a) general_zone ∙ k.logs e a q;
      left = λ e a q. sectors_seen g t w e (h e a) general_zone ∙ k.left e a q;
      kept = λ e y a n m. sectors_seen g t w e (h e a) y ∙ k.kept e y a n m;
      force = forced_same g ok x t w h f.generation k.force;
      looks = looks_trans g x v1 t w k.looks (looks_same g ok x t w h);
    }

    abbrev emptyings_then : List Store
    emptyings_then = empty_general g (present_but g x) (roles g u) f emptied (by_roles g u)

    logs_there : LogsReady g x l f emptied v1 (apply_all emptyings_then u)
    logs_there = logs_ready (apply_all emptyings_then u) (general_emptyings_finished g ok x c u l b.invs f forced_then emptied can_then)

    general_first : (n : ℕ) (w : Device) → Cut x (apply_all (take n (flush_stores g (present_but g x))) u) w → Left w
    general_first n w cut = (c, flushed_cut g ok c x u l n w b.invs cut)

    general_left : (k : ℕ) (w : Device) → Cut x (apply_all (take k emptyings_then) u) w → Left w
    general_left k w cut = left_invs g x c u l w (general_emptyings_stopped g ok x c u l b.invs f forced_then emptied can_then k w cut)

    general_step : CutRuns g x u (general_step_of g x f emptied v1) Left (λ t. LogsReady g x l f emptied v1 t)
    unfolding flush_stores empty_general
    general_step =
        let xs = emptyings_then in
        let ys = pick (is_nil xs) [] (on_present (present_but g x) (flush_all g.drives)) ++ [] in
        let r = flush_if_lem g ok x logs_there.holds.0 l (apply_all xs u) logs_there.holds.1 (is_nil xs) in
        let early = delayed_stopped g x false (roles g u) emptied (new_general_of g f u) u Left general_first general_left in
        let late = delayed_flushed g x false (roles g u) emptied (new_general_of g f u) u Left general_first general_left in
        subst (λ (zs : List Store). CutRuns g x u (zs ++ (pick (is_nil zs) [] (on_present (present_but g x) (flush_all g.drives)) ++ [])) Left (λ t. LogsReady g x l f emptied v1 t)) (sym stores_are)
        (flushed_run g x u xs Left (λ t. LogsReady g x l f emptied v1 t) early late (rw (apply_all_append xs ys u) (logs_still (apply_all xs u) (apply_all ys (apply_all xs u)) logs_there (logs_there.holds.0, r.0) r.1)))

  -- from the first flush's end
  pub logs_run : CutRuns g x v1 (log_steps g x f emptied v1) Left (λ t. LogsReady g x l f emptied v1 t)
  logs_run = cut_runs_then g x v1 (spare_step_of g x v1) (general_step_of g x f emptied v1) Left
      (λ u. SparesReady g x c l v1 u) (λ t. LogsReady g x l f emptied v1 t) spares_step (λ b. general_step _ b)

-- THE BEGINNING OF A MOUNT
pub mount_logs : (g : Geometry) (ok : Valid g) (x : ℕ) (c : LogGenerations) (l : Ledger) (v : Device) (ri : RoledInvs c g x v l) → let v1 = flushed_all g x v in
    (f : InForce) → Forced g x (by_roles g v1) f.generation → (emptied : ℕ → Bool) → ((d : ℕ) → d < g.drives → emptied d ≡ true → CanEmptyGeneral g x f v1 d)
    → CutRuns g x v (flush_stores g (present_but g x) ++ log_steps g x f emptied v1) (λ w. (e : LogGenerations) × RoledInvs e g x w l) (λ t. LogsReady g x l f emptied v1 t)
mount_logs g ok x c l v ri f forced emptied can =
    let v1 = flushed_all g x v in
    cut_runs_then g x v (flush_stores g (present_but g x)) (log_steps g x f emptied v1) (λ w. (e : LogGenerations) × RoledInvs e g x w l) (λ u. RoledInvs c g x u l) (λ t. LogsReady g x l f emptied v1 t)
    (record {
      stopped = λ k u w h cut. (c, flushed_cut g ok c x v l k w ri (subst (λ (a : Device). Cut x a w) (flush_part_is g x v k u h) cut));
      forgets = flush_forgets_all g x v;
      after = flushed_invs g ok c x v l ri;
    }) (λ i. logs_run g ok x c l v1 i f forced emptied can)

-- ---- of every drive, absent ones too: only the emptied general logs changed, and spares
module _ (g : Geometry) (x : ℕ) (l : Ledger) (f : InForce) (emptied : ℕ → Bool) (v1 : Device) (k : LogsReady g x l f emptied v1 (apply_all (log_steps g x f emptied v1) v1)) where
  abbrev ready : Device
  ready = apply_all (log_steps g x f emptied v1) v1

  absent_seen : (d : ℕ) → present_but g x d ≡ false → (y : ℕ) → (by_roles g ready d y).sectors ≡ (by_roles g v1 d y).sectors
  absent_seen d h y = sectors_seen g v1 ready d (λ t. ap (λ (z : ZoneView). z.sectors) (logs_absent g x f emptied v1 d t h)) y

  pub logs_left : (d : ℕ) → emptied d ≡ false → (by_roles g ready d general_zone).sectors ≡ (by_roles g v1 d general_zone).sectors
  logs_left d e = go (present_but g x d) refl
    where
      go : (b : Bool) → present_but g x d ≡ b → (by_roles g ready d general_zone).sectors ≡ (by_roles g v1 d general_zone).sectors
      go true a = k.left d a e
      go false a = absent_seen d a general_zone

  pub logs_elsewhere : (d y : ℕ) → y ≢ general_zone → y ≢ spare_zone → (by_roles g ready d y).sectors ≡ (by_roles g v1 d y).sectors
  logs_elsewhere d y n m = go (present_but g x d) refl
    where
      go : (b : Bool) → present_but g x d ≡ b → (by_roles g ready d y).sectors ≡ (by_roles g v1 d y).sectors
      go true a = k.kept d y a n m
      go false a = absent_seen d a y
