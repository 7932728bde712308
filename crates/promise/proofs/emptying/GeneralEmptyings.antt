-- THE EMPTYINGS OF GENERAL LOGS of a call, one drive after the other (empty_general): stopped after any number of stores and cut in any way, the device is
-- that of the call's start, perhaps flushed on some drives (in_first_flush), or the invariant holds by old or new roles and every look shows what one at
-- the first flush's end does (beyond_flush; reading 15). Finished: the invariant holds by the new roles; and all is at rest, if it was.
use Rattle.std.specs.Prelude.{◌≡◌, ◌≢◌, ◌⊎◌, Bool, true, ℕ, ◌<◌, List, [], ◌++◌, map, take}
use Rattle.std.proofs.Math.Path.{refl}
use Rattle.std.proofs.Common.{sym, ap, ap₂, ◌∙◌, subst, le_refl, eq-eqb}
use Rattle.std.proofs.Math.Logic.{inl, inr}
use Rattle.std.proofs.Math.Bool.{false}
use Rattle.tables.specs.meaning.Device.{ZoneView, Device, Store, apply_all, Cut}
use Rattle.tables.specs.meaning.Cached.{apply_all_caching}
use Rattle.tables.specs.meaning.Drives.{present_but}
use Rattle.tables.specs.laws.Drives.{present_below}
use Rattle.tables.specs.declared.Geometry.{Geometry}
use Rattle.tables.specs.meaning.Geometry.{Valid}
use Rattle.logs.specs.meaning.Entry.{general_zone, spare_zone, Header, Entry}
use Rattle.logs.specs.meaning.Walk.{walk_log}
use Rattle.volume.specs.meaning.State.{StateView}
use Rattle.volume.specs.meaning.Rules.{general_heads}
use Rattle.volume.specs.meaning.Calls.{append_all, flush_stores}
use Rattle.volume.specs.meaning.Roles.{Roles, roles, by_roles, emptied_roles, roles_after}
use Rattle.volume.specs.meaning.Emptying.{InForce, new_general, emptyings, empty_general}
use Rattle.promise.specs.meaning.Ledger.{Ledger, after_flush}
use Rattle.promise.proofs.invariant.Invariant.{Ghost, Here, LogGenerations, Inv, rest_inv}
use Rattle.promise.proofs.invariant.Delayed.{PutBack}
use Rattle.promise.proofs.roles.Roled.{Standing}
use Rattle.promise.proofs.roles.RoledCalls.{RoledInvs, RoledRests}
use Rattle.promise.proofs.emptying.AskedSame.{NamedBut, ShowsSame, shows_trans}
use Rattle.promise.proofs.emptying.EmptyingStops.{Solid, after_first_flush, LeftBy}
use Rattle.promise.proofs.emptying.FlushedRests.{roles_same, sectors_seen, flushed_all, flush_sectors, flushed_rests, flushed_invs, flushed_cut, same_invs, flush_solid}
use Rattle.promise.proofs.emptying.SpareFills.{SameRead, generation_read, read_shows}
use Rattle.promise.proofs.emptying.Marked.{RestsBy, marked_rests, flush_marks, flush_above, flush_marks_lem}
use Rattle.promise.proofs.emptying.Forced.{Forced}
use Rattle.promise.proofs.emptying.EmptiedGeneral.{new_generation}
use Rattle.promise.proofs.emptying.CanEmpty.{CanEmptyLog}
use Rattle.promise.proofs.emptying.GeneralEmptying.{new_general_of, general_size_of, general_rest, general_stopped, general_stopped_shows, general_finished, general_finished_rests, general_finished_roles, general_finished_log, general_finished_kept, general_finished_solid, general_finished_other, general_finished_forced, general_finished_shows, general_left}
use Rattle.promise.proofs.emptying.GeneralEmptying.{unreset, general_before_rests, general_before_roles, general_before_forced, general_before_shows}
use Rattle.promise.proofs.emptying.Emptyings.{SameSectors, rest_of, OneDrive, Mode, Progress, emptyings_stopped, emptyings_done, at_flush, flush_held}
use Rattle.promise.proofs.emptying.EmptyingsBack.{Finished, emptyings_back}

-- a look of every set of drives that may be named shows the same
abbrev pub LooksSame : Geometry → ℕ → Device → Device → Type 0
LooksSame g x v w = (y : ℕ) → NamedBut g x y → (z : ℕ) → z < g.zones → ShowsSame g (present_but g y) (by_roles g v) (by_roles g w) z

pub looks_trans : (g : Geometry) (x : ℕ) (u v w : Device) → LooksSame g x u v → LooksSame g x v w → LooksSame g x u w
looks_trans g x u v w p q y by z hz = shows_trans g (present_but g y) (by_roles g u) (by_roles g v) (by_roles g w) z (p y by z hz) (q y by z hz)

-- ---- what goes by the sectors of the present drives
heads_same : (g : Geometry) (v w : Device) (d : ℕ) → (w d general_zone).sectors ≡ (v d general_zone).sectors → general_heads g w d ≡ general_heads g v d
unfolding general_heads
heads_same g v w d q = ap (λ (ss : List (List ℕ)). map (λ (e : Entry). e.head) (walk_log g d false ss).entries) q

module _ (g : Geometry) (ok : Valid g) (x : ℕ) (v w : Device) where
  -- of one of them: what is copied of its general log, and where to
  module _ (f : InForce) (d : ℕ) (h : SameSectors v w d) where
    seen_heads : general_heads g (by_roles g w) d ≡ general_heads g (by_roles g v) d
    seen_heads = heads_same g (by_roles g v) (by_roles g w) d (sectors_seen g v w d h general_zone)

    new_same : new_general_of g f w d ≡ new_general_of g f v d
    new_same = ap₂ (λ (q : Roles) (hs : List Header). new_general g f q d hs) (roles_same g v w d h) seen_heads

    rest_same : general_rest g x f w d ≡ rest_of g x false v (new_general_of g f v) d
    rest_same = ap₂ (λ (q : Roles) (ss : List (List ℕ)). after_first_flush g x d q.general q.spare ss) (roles_same g v w d h) new_same

    can_same : CanEmptyLog g false v d (general_size_of g f v d) → CanEmptyLog g false w d (general_size_of g f w d)
    can_same k =
        let r = roles_same g v w d h in
        record { room = rw seen_heads k.room; top = rw r k.top; blank = h (roles g w d).spare ∙ ap (λ (q : Roles). (v d q.spare).sectors) r ∙ k.blank }

  -- of all of them
  module _ (h : (e : ℕ) → Here g x e → SameSectors v w e) where
    read_same : SameRead g x (by_roles g v) (by_roles g w)
    read_same e y a n = sectors_seen g v w e (h e a) y

    pub looks_same : LooksSame g x v w
    looks_same y by z hz = read_shows g ok x (by_roles g v) (by_roles g w) read_same y by z

    pub forced_same : (gens : ℕ → ℕ) → Forced g x (by_roles g v) gens → Forced g x (by_roles g w) gens
    forced_same gens k z hz = k z hz ∙ generation_read g ok x (by_roles g v) (by_roles g w) read_same x (inl refl) z

-- a flush leaves the sectors
flush_same : (g : Geometry) (x : ℕ) (v : Device) (e : ℕ) → Here g x e → SameSectors v (flushed_all g x v) e
flush_same g x v e a y = flush_sectors g x v e y a

-- ---- what holds between two emptyings (v1: the device at the first flush's end; Q: the invariant, or rest)
pub record Between (g : Geometry) (x : ℕ) (v1 : Device) (gens : ℕ → ℕ) (Q : LogGenerations → Device → Type 0) (u : Device) : Type 0 where
  pub generations : LogGenerations
  pub holds : Q generations u
  pub force : Forced g x (by_roles g u) gens
  pub looks : LooksSame g x v1 u

-- ---- what a stop and a cut leave
pub data GeneralLeft (g : Geometry) (x : ℕ) (c : LogGenerations) (v : Device) (l : Ledger) (w : Device) : Type 0 where
  in_first_flush : (n : ℕ) → Cut x (apply_all (take n (flush_stores g (present_but g x))) v) w → RoledInvs c g x w l → GeneralLeft g x c v l w
  beyond_flush : (e : LogGenerations) → RoledInvs e g x w l → LooksSame g x (flushed_all g x v) w → GeneralLeft g x c v l w

pub left_invs : (g : Geometry) (x : ℕ) (c : LogGenerations) (v : Device) (l : Ledger) (w : Device) → GeneralLeft g x c v l w → (e : LogGenerations) × RoledInvs e g x w l
left_invs g x c v l w (in_first_flush n k r) = (c, r)
left_invs g x c v l w (beyond_flush e r k) = (e, r)

-- ---- what they leave when they are finished (Q: what holds then): new roles and new logs; nothing else changed but spares, and every look shows the same
pub record EmptiedAll (g : Geometry) (x : ℕ) (v : Device) (f : InForce) (emptied : ℕ → Bool) (Q : Device → Type 0) (u : Device) : Type 0 where
  pub holds : Q u
  pub roles_are : (e : ℕ) → Here g x e → roles g u e ≡ roles_after false emptied (roles g v) e
  pub logs : (e : ℕ) → Here g x e → emptied e ≡ true → (by_roles g u e general_zone).sectors ≡ new_general_of g f v e
  pub kept : (e y : ℕ) → Here g x e → y ≢ general_zone → y ≢ spare_zone → (by_roles g u e y).sectors ≡ (by_roles g v e y).sectors
  pub left : (e : ℕ) → Here g x e → emptied e ≡ false → SameSectors v u e
  pub force : Forced g x (by_roles g u) f.generation
  pub looks : LooksSame g x (flushed_all g x v) u

-- ==== the emptyings of a call (f: the generations in force; emptied: the drives whose general log is emptied)
module _ (g : Geometry) (ok : Valid g) (x : ℕ) (c : LogGenerations) (v : Device) (l : Ledger) (ri : RoledInvs c g x v l) (f : InForce) (forced : Forced g x (by_roles g v) f.generation) (emptied : ℕ → Bool)
    (can : (d : ℕ) → d < g.drives → emptied d ≡ true → Here g x d × CanEmptyLog g false v d (general_size_of g f v d)) where
  abbrev v1 : Device
  v1 = flushed_all g x v

  invs1 : RoledInvs c g x v1 l
  invs1 = flushed_invs g ok c x v l ri

  abbrev Then : (LogGenerations → Device → Type 0) → Device → Type 0
  Then Q u = Between g x v1 f.generation Q u

  -- at the first flush's end
  first : (Q : LogGenerations → Device → Type 0) → Q c v1 → Then Q v1
  first Q q = record {
    generations = c;
    holds = q;
    force = forced_same g ok x v v1 (flush_same g x v) f.generation forced;
    looks = looks_same g ok x v1 v1 (λ e a y. refl);
  }

  -- one more flush
  more : (Q : LogGenerations → Device → Type 0) → ((e : LogGenerations) (u : Device) → Q e u → Q e (flushed_all g x u)) → (u : Device) → Then Q u → Then Q (flushed_all g x u)
  more Q flush u b = record {
    generations = b.generations;
    holds = flush b.generations u b.holds;
    force = forced_same g ok x u (flushed_all g x u) (flush_same g x u) f.generation b.force;
    looks = looks_trans g x v1 u (flushed_all g x u) b.looks (looks_same g ok x u (flushed_all g x u) (flush_same g x u));
  }

  -- ---- by the invariant
  abbrev Inside : LogGenerations → Device → Type 0
  Inside e u = RoledInvs e g x u l

  abbrev AtRest : StateView → LogGenerations → Device → Type 0
  AtRest state e u = RoledRests e g x u state (after_flush l)

  -- one drive (u: the device at its first flush's end; Q, left: what is to hold of it then, and of a stop and a cut)
  module _ (d : ℕ) (hd : Here g x d) (cd : CanEmptyLog g false v d (general_size_of g f v d)) (u : Device) (solid : Solid g x u) (h : SameSectors v u d) (m : Ledger) (γ : Ghost) (s : Standing g x u γ.closed) (i : Inv g x (by_roles g u) m γ)
      (force : Forced g x (by_roles g u) f.generation) (looks : LooksSame g x v1 u) where
    can_now : CanEmptyLog g false u d (general_size_of g f u d)
    can_now = can_same g ok x v u f d h cd

    abbrev after : Device
    after = apply_all (general_rest g x f u d) u

    roles_now : roles g after d ≡ emptied_roles false (roles g v d)
    roles_now = general_finished_roles g ok x u γ s m i solid d hd f force can_now d hd ∙ rw (eq-eqb d d refl) (ap (emptied_roles false) (roles_same g v u d h))

    -- stopped and cut
    one_left_lem : (k : ℕ) (w : Device) → Cut x (apply_all (take k (general_rest g x f u d)) u) w → (e : LogGenerations) × RoledInvs e g x w m × LooksSame g x v1 w
    one_left_lem k w cut =
        let (e, r) = general_stopped g ok x u γ s m i solid d hd f force can_now k w cut in
        (e, r, looks_trans g x v1 u w looks (general_stopped_shows g ok x u γ s m i solid d hd f force can_now k w cut))

    one_drive : (Q : LogGenerations → Device → Type 0) (Left : Device → Type 0) → Q (new_generation γ.closed d (roles g u d).general_claim) after
        → ((w : Device) → (e : LogGenerations) × RoledInvs e g x w m × LooksSame g x v1 w → Left w)
        → OneDrive g x false v (Then Q) Left d u (new_general_of g f v d) (rest_of g x false v (new_general_of g f v) d)
    one_drive Q Left q left = subst (λ (xs : List Store). OneDrive g x false v (Then Q) Left d u (new_general_of g f v d) xs) (rest_same g ok x v u f d h) (record {
      stopped = λ k w cut. left w (one_left_lem k w cut);
      held = record {
        generations = new_generation γ.closed d (roles g u d).general_claim;
        holds = q;
        force = general_finished_forced g ok x u γ s m i solid d hd f force can_now;
        looks = looks_trans g x v1 u after looks (general_finished_shows g ok x u γ s m i solid d hd f force can_now);
      };
      solid = general_finished_solid g ok x u γ s m i solid d hd f force can_now;
      roles_are = roles_now;
      log = general_finished_log g ok x u γ s m i solid d hd f force can_now ∙ new_same g ok x v u f d h;
      kept = general_finished_kept g ok x u γ s m i solid d hd f force can_now;
      others = general_finished_other g ok x u γ s m i solid d hd f force can_now;
    })

    -- before its last store
    abbrev unreset_now : Device
    unreset_now = unreset g ok x u γ s m i solid d hd f force can_now

    unreset_is : unreset_now ≡ apply_all (append_all d (roles g v d).spare (new_general_of g f v d) ++ flush_stores g (present_but g x)) u
    unreset_is = ap₂ (λ (q : Roles) (ss : List (List ℕ)). apply_all (append_all d q.spare ss ++ flush_stores g (present_but g x)) u) (roles_same g v u d h) (new_same g ok x v u f d h)

    before_then : (Q : LogGenerations → Device → Type 0) → Q (new_generation γ.closed d (roles g u d).general_claim) unreset_now → Then Q unreset_now
    before_then Q q = record {
      generations = new_generation γ.closed d (roles g u d).general_claim;
      holds = q;
      force = general_before_forced g ok x u γ s m i solid d hd f force can_now;
      looks = looks_trans g x v1 u unreset_now looks (general_before_shows g ok x u γ s m i solid d hd f force can_now);
    }

    before_roles : roles g unreset_now d ≡ emptied_roles false (roles g v d)
    before_roles = general_before_roles g ok x u γ s m i solid d hd f force can_now d hd ∙ rw (eq-eqb d d refl) (ap (emptied_roles false) (roles_same g v u d h))

  module _ (d : ℕ) (hd : Here g x d) (cd : CanEmptyLog g false v d (general_size_of g f v d)) (u : Device) (solid : Solid g x u) (h : SameSectors v u d) where
    drive_before : (state : StateView) → Then (AtRest state) u → let w = apply_all (append_all d (roles g v d).spare (new_general_of g f v d) ++ flush_stores g (present_but g x)) u in Then (AtRest state) w × (roles g w d ≡ emptied_roles false (roles g v d))
    drive_before state b =
        let (s, (γ, r, q)) = b.holds in
        let t : Standing g x u γ.closed = subst (λ (e : LogGenerations). Standing g x u e) (sym q) s in
        let i = rest_inv g x (by_roles g u) state (after_flush l) γ r in
        subst (λ (w : Device). Then (AtRest state) w × (roles g w d ≡ emptied_roles false (roles g v d))) (unreset_is d hd cd u solid h (after_flush l) γ t i b.force b.looks) (
          before_then d hd cd u solid h (after_flush l) γ t i b.force b.looks (AtRest state) (general_before_rests g ok x u γ t (after_flush l) i solid d hd f b.force (can_same g ok x v u f d h cd) state r),
          before_roles d hd cd u solid h (after_flush l) γ t i b.force b.looks,
        )

    drive_inside : Then Inside u → OneDrive g x false v (Then Inside) (GeneralLeft g x c v l) d u (new_general_of g f v d) (rest_of g x false v (new_general_of g f v) d)
    drive_inside b =
        let (s, (γ, i, q)) = b.holds in
        let t : Standing g x u γ.closed = subst (λ (e : LogGenerations). Standing g x u e) (sym q) s in
        one_drive d hd cd u solid h l γ t i b.force b.looks Inside (GeneralLeft g x c v l) (general_finished g ok x u γ t l i solid d hd f b.force (can_same g ok x v u f d h cd)) (λ w k. beyond_flush k.0 k.1 k.2)

    drive_at_rest : (state : StateView) → Then (AtRest state) u → OneDrive g x false v (Then (AtRest state)) (λ w. Unit {0}) d u (new_general_of g f v d) (rest_of g x false v (new_general_of g f v) d)
    drive_at_rest state b =
        let (s, (γ, r, q)) = b.holds in
        let t : Standing g x u γ.closed = subst (λ (e : LogGenerations). Standing g x u e) (sym q) s in
        let i = rest_inv g x (by_roles g u) state (after_flush l) γ r in
        one_drive d hd cd u solid h (after_flush l) γ t i b.force b.looks (AtRest state) (λ w. Unit {0}) (general_finished_rests g ok x u γ t (after_flush l) i solid d hd f b.force (can_same g ok x v u f d h cd) state r) (λ w k. tt)

  abbrev stores : List Store
  stores = empty_general g (present_but g x) (roles g v) f emptied (by_roles g v)

  stores_are : stores ≡ emptyings g (present_but g x) false (roles g v) emptied (new_general_of g f v)
  unfolding empty_general
  stores_are = refl

  in_first_lem : (n : ℕ) (w : Device) → Cut x (apply_all (take n (flush_stores g (present_but g x))) v) w → GeneralLeft g x c v l w
  in_first_lem n w cut = in_first_flush n cut (flushed_cut g ok c x v l n w ri cut)

  unchanged : (u w : Device) → Solid g x u → Then Inside u → ((e y : ℕ) → Here g x e → w e y ≡ u e y) → GeneralLeft g x c v l w
  unchanged u w solid b h =
      let e = b.generations in
      let (s, i) = b.holds in
      let r = same_invs g e x u w s h l i in
      beyond_flush e r (looks_trans g x v1 u w b.looks (looks_same g ok x u w (λ d a y. ap (λ z. z.sectors) (h d y a))))

  -- OF ONE DRIVE, behind its first flush: the invariant holds there, and with whatever is left of its two zones, and every look shows the same
  abbrev flush_end_of : ℕ → Device
  flush_end_of d = at_flush g x false (roles g v) emptied (new_general_of g f v) v d

  pub general_at_flush : (d : ℕ) → d < g.drives → emptied d ≡ true → Then Inside (flush_end_of d) × SameSectors v (flush_end_of d) d
  general_at_flush = flush_held g x false v (new_general_of g f v) emptied (Then Inside) (GeneralLeft g x c v l) (first Inside invs1) (λ u s b. more Inside (λ e t q. flushed_invs g ok e x t l q) u b) in_first_lem unchanged
      (λ d hd b. let (a, k) = can d hd b in (a, λ u s h q. drive_inside d a k u s q h))

  pub general_drive_left : (d : ℕ) (hd : d < g.drives) (b : emptied d ≡ true) (w : Device) → LeftBy g x (flush_end_of d) w d (roles g v d).general (roles g v d).spare (new_general_of g f v d) → ((e : LogGenerations) × RoledInvs e g x w l) × LooksSame g x (flush_end_of d) w
  general_drive_left d hd b w h =
      let (a, k) = can d hd b in
      let (held, same) = general_at_flush d hd b in
      let (s, (γ, i, q)) = held.holds in
      let u = flush_end_of d in
      let t : Standing g x u γ.closed = subst (λ (e : LogGenerations). Standing g x u e) (sym q) s in
      general_left g ok x u γ t l i (flush_solid g x _) d a f held.force (can_same g ok x v u f d same k) w (rw (new_same g ok x v u f d same, roles_same g v u d same) h)

  -- THE THEOREM, stopped and cut
  pub general_emptyings_stopped : (k : ℕ) (w : Device) → Cut x (apply_all (take k stores) v) w → GeneralLeft g x c v l w
  general_emptyings_stopped k w cut =
      emptyings_stopped g x false v (new_general_of g f v) emptied (Then Inside) (GeneralLeft g x c v l) (first Inside invs1) (λ u s b. more Inside (λ e t q. flushed_invs g ok e x t l q) u b) in_first_lem unchanged
      (λ d hd b. let (a, k) = can d hd b in (a, λ u s h q. drive_inside d a k u s q h)) k w (subst (λ (xs : List Store). Cut x (apply_all (take k xs) v) w) stores_are cut)

  -- ---- finished
  abbrev after_all_lem : Device
  after_all_lem = apply_all stores v

  finished : (Q : LogGenerations → Device → Type 0) (P : Device → Type 0) → P v → ((e : LogGenerations) (u : Device) → Q e u → P u) → Progress g x false v (new_general_of g f v) emptied (Then Q) g.drives after_all_lem → EmptiedAll g x v f emptied P after_all_lem
  finished Q P start to p = record {
    holds = holds p.mode;
    roles_are = λ e a. p.done e a (present_below g x e a);
    logs = λ e a. p.logs e a (present_below g x e a);
    kept = p.kept;
    left = λ e a h. p.left e a (inr h);
    force = force p.mode;
    looks = looks p.mode;
  }
    where
      holds : Mode g x v (Then Q) after_all_lem → P after_all_lem
      holds (inl q) = subst (λ (u : Device). P u) (sym q) start
      holds (inr (s, b)) = to b.generations after_all_lem b.holds

      force : Mode g x v (Then Q) after_all_lem → Forced g x (by_roles g after_all_lem) f.generation
      force (inl q) = subst (λ (u : Device). Forced g x (by_roles g u) f.generation) (sym q) forced
      force (inr (s, b)) = b.force

      looks : Mode g x v (Then Q) after_all_lem → LooksSame g x v1 after_all_lem
      looks (inl q) = subst (λ (u : Device). LooksSame g x v1 u) (sym q) (looks_same g ok x v1 v (λ e a y. sym (flush_same g x v e a y)))
      looks (inr (s, b)) = b.looks

  -- FINISHED: the invariant holds by the new roles
  pub general_emptyings_finished : EmptiedAll g x v f emptied (λ u. (e : LogGenerations) × RoledInvs e g x u l) after_all_lem
  general_emptyings_finished = finished Inside (λ u. (e : LogGenerations) × RoledInvs e g x u l) (c, ri) (λ e u q. (e, q)) (subst (λ (xs : List Store). Progress g x false v (new_general_of g f v) emptied (Then Inside) g.drives (apply_all xs v)) (sym stores_are)
      (emptyings_done g x false v (new_general_of g f v) emptied (Then Inside) (GeneralLeft g x c v l) (first Inside invs1) (λ u s b. more Inside (λ e t q. flushed_invs g ok e x t l q) u b) in_first_lem unchanged
      (λ d hd b. let (a, k) = can d hd b in (a, λ u s h q. drive_inside d a k u s q h))))

  -- the marks of the flushes
  marked : (state : StateView) → RoledRests c g x v state l → (e : LogGenerations) (u : Device) → RoledRests e g x u state (after_flush l) → RestsBy g x u state l
  marked state rr e u (s, r) = record {
    generations = e;
    marks = flush_marks l;
    above = flush_above l;
    holds = (s, marked_rests g x (by_roles g u) (after_flush l) (flush_marks l) (λ z hz. flush_marks_lem l z (rr.1.1.zones z hz).live.committed_most) e state r);
  }

  -- AND ALL IS AT REST, if it was, with marks at or above the ledger's
  pub general_emptyings_rest : (state : StateView) → RoledRests c g x v state l → EmptiedAll g x v f emptied (λ u. RestsBy g x u state l) after_all_lem
  general_emptyings_rest state rr = finished (AtRest state) (λ u. RestsBy g x u state l) (record { generations = c; marks = l.committed; above = λ z. le_refl (l.committed z); holds = rr }) (marked state rr)
      (subst (λ (xs : List Store). Progress g x false v (new_general_of g f v) emptied (Then (AtRest state)) g.drives (apply_all xs v)) (sym stores_are)
      (emptyings_done g x false v (new_general_of g f v) emptied (Then (AtRest state)) (λ w. Unit {0}) (first (AtRest state) (flushed_rests g ok c x v state l rr)) (λ u s b. more (AtRest state) (λ e t q. flushed_rests g ok e x t state (after_flush l) q) u b) (λ n w k. tt) (λ u w s b h. tt)
      (λ d hd b. let (a, k) = can d hd b in (a, λ u s h q. drive_at_rest d a k u s q state h))))

  -- AND ON DRIVES THAT CACHE RESETS, whatever they bring back (was: what they remember at the start)
  pub record BackAtRest (state : StateView) (was : ℕ → ℕ → List ZoneView) : Type 0 where
    pub rests : (t : Device) → PutBack g x (apply_all_caching stores (record { now = v; was = was })) t → RestsBy g x t state l
    pub roles_are : (t : Device) → PutBack g x (apply_all_caching stores (record { now = v; was = was })) t → (e : ℕ) → Here g x e → roles g t e ≡ roles g (apply_all stores v) e
    pub spares : (d y : ℕ) → Here g x d → ((apply_all_caching stores (record { now = v; was = was })).was d y ≡ []) ⊎ (y ≡ (roles g (apply_all stores v) d).spare)

  pub general_emptyings_back : (state : StateView) → RoledRests c g x v state l → (was : ℕ → ℕ → List ZoneView) → (stores ≡ []) ⊎ BackAtRest state was
  unfolding empty_general
  general_emptyings_back state rr was = go (emptyings_back g x false v (new_general_of g f v) emptied (Then (AtRest state)) (λ w. Unit {0}) (first (AtRest state) (flushed_rests g ok c x v state l rr)) (λ u s b. more (AtRest state) (λ e t q. flushed_rests g ok e x t state (after_flush l) q) u b) (λ n w k. tt) (λ u w s b h. tt)
      (λ d hd b. let (a, k) = can d hd b in (a, λ u s h q. drive_at_rest d a k u s q state h)) (λ d hd b u s h q. let (a, k) = can d hd b in drive_before d a k u s q state h) was)
    where
      go : (stores ≡ []) ⊎ Finished g x v was (Then (AtRest state)) stores → (stores ≡ []) ⊎ BackAtRest state was
      go (inl q) = inl q
      go (inr n) = inr (record { rests = λ t k. let b = (n.back t k).held in marked state rr b.generations t b.holds; roles_are = λ t k. (n.back t k).roles_are; spares = n.spares })
