-- What looks show while a call empties logs: from what is known of each emptied drive behind its first flush (Behind), what is claimed of the call stopped anywhere and
-- cut, on drives that cache resets (meaning/Emptied); and that the emptyings of a compact and of a reset are so.
use Rattle.std.specs.Prelude.{◌≡◌, ◌≢◌, Bool, true, ◌&&◌, ℕ, zero, suc, ◌+◌, ◌≤◌, ◌<◌, List, [], ◌++◌, length, take, eqb}
use Rattle.std.proofs.Math.Path.{refl, sym}
use Rattle.std.proofs.Common.{ap, ◌∙◌, subst, inl, inr, le_refl, arith, append-nil, lt-ltb, le-ltb, eqb-true}
use Rattle.std.proofs.Math.Bool.{false}
use Rattle.std.proofs.Math.Decide.{ℕ_discrete}
use Rattle.std.proofs.Math.Dec.{ltb}
use Rattle.tables.specs.meaning.Basics.{pick}
use Rattle.tables.specs.laws.Basics.{and_split}
use Rattle.tables.specs.meaning.Below.{each_below}
use Rattle.tables.specs.meaning.Device.{Device, Store, apply_all}
use Rattle.tables.specs.meaning.Cached.{Caching, apply_all_caching, CachingCut}
use Rattle.tables.specs.declared.Geometry.{Geometry}
use Rattle.tables.specs.meaning.Geometry.{Valid}
use Rattle.tables.specs.meaning.Drives.{present_but}
use Rattle.volume.specs.meaning.State.{StateView}
use Rattle.volume.specs.meaning.Rules.{Shown, showing, zone_shown, zone_at}
use Rattle.volume.specs.meaning.Roles.{Roles, drive_by_roles, roles, by_roles, zone_of_kind}
use Rattle.volume.specs.meaning.Emptying.{InForce, by_state, lacks_room, new_parity_size, reset_limit, emptied_for, emptyings, empty_general, empty_parity, compact_stores, reset_all}
use Rattle.volume.specs.laws.Firm.{firm_roles, proper_apart}
use Rattle.promise.specs.meaning.Ledger.{Ledger, after_flush}
use Rattle.promise.specs.meaning.Claim.{all_but}
use Rattle.promise.specs.meaning.OnDevice.{shown_by}
use Rattle.promise.specs.meaning.Histories.{ShowsAlike}
use Rattle.promise.specs.meaning.Emptied.{AlikeUpTo, MayNameBut, Emptyings, flush_of, flush_end, UnderWay, emptyings_of_compact, emptyings_of_reset}
use Rattle.promise.proofs.invariant.Invariant.{Here, LogGenerations, rest_inv}
use Rattle.promise.proofs.invariant.RoomAsked.{CompactAccepted, ResetAccepted}
use Rattle.promise.proofs.roles.Roled.{Standing}
use Rattle.promise.proofs.roles.RoledCalls.{RoledInvs, RoledRests}
use Rattle.promise.proofs.emptying.AskedSame.{ShowsSame}
use Rattle.promise.proofs.emptying.CanEmpty.{CanEmptyLog}
use Rattle.promise.proofs.emptying.RestShows.{none_lost_lem, rests_show_same}
use Rattle.promise.proofs.emptying.Forced.{Forced, rest_forced}
use Rattle.promise.proofs.emptying.ParityAtRest.{ByState}
use Rattle.promise.proofs.emptying.EmptyingStops.{LeftBy}
use Rattle.promise.proofs.emptying.Emptyings.{emptying_of, at_flush}
use Rattle.promise.proofs.emptying.DriveStores.{each_below_cong}
use Rattle.promise.proofs.emptying.ParityRests.{new_sectors}
use Rattle.promise.proofs.emptying.ParityEmptyings.{parity_at_flush, parity_drive_left}
use Rattle.promise.proofs.emptying.GeneralEmptying.{new_general_of, general_size_of}
use Rattle.promise.proofs.emptying.GeneralEmptyings.{general_at_flush, general_drive_left}
use Rattle.promise.proofs.emptying.ParityLooks.{Looks}
use Rattle.promise.proofs.device.Modes.{SomeInvs, loss_some_invs}
use Rattle.promise.proofs.device.Looks.{invs_look}
use Rattle.promise.proofs.shown.BehindFlush.{stopped_there, flushed_is, stopped_left_lem}

-- ---- a look is by the drives named (y: the one that is not)
abbrev pub look_but : Geometry → ℕ → Device → Shown
look_but g y v = shown_by g (all_but y) v v

abbrev pub SomeInv : Geometry → ℕ → Device → Type 0
SomeInv g x w = (l : Ledger) × (c : LogGenerations) × RoledInvs c g x w l

module _ (g : Geometry) (ok : Valid g) (x y : ℕ) (by : MayNameBut g x y) where
  named_invs : (w : Device) (i : SomeInv g x w) → SomeInvs g y w i.0
  named_invs w (l, c, i) = go by
    where
      some : SomeInvs g x w l
      some = (c, l.committed, (λ z. le_refl (l.committed z)), i)

      go : MayNameBut g x y → SomeInvs g y w l
      go (inl e) = rw e some
      go (inr (e, h)) = loss_some_invs g ok x y w w h (inl e) (none_lost_lem y w) l some

  -- by the rules' drives and by the look's
  pub alike : (v w : Device) → SomeInv g x v → SomeInv g x w → ((z : ℕ) → z < g.zones → ShowsSame g (present_but g y) (by_roles g v) (by_roles g w) z) → ShowsAlike g (look_but g y v) (look_but g y w)
  unfolding showing zone_shown zone_at
  alike v w i j s =
      let a = invs_look g ok y v i.0 (named_invs v i) in
      let b = invs_look g ok y w j.0 (named_invs w j) in
      rw (a.present, a.lost, b.present, b.lost) (record { pointers = λ z hz. (s z hz).pointer; sectors = λ z hz. (s z hz).values })

  -- where a zone whose entry was made may show more
  pub alike_up_to : (v w : Device) (made : ℕ → Bool) (top : ℕ → ℕ) → SomeInv g x v → SomeInv g x w → ((z : ℕ) → z < g.zones → Looks g (present_but g y) (by_roles g v) (by_roles g w) z (top z) (made z)) → AlikeUpTo g made top (look_but g y v) (look_but g y w)
  unfolding showing zone_shown zone_at
  alike_up_to v w made top i j s =
      let a = invs_look g ok y v i.0 (named_invs v i) in
      let b = invs_look g ok y w j.0 (named_invs w j) in
      rw (a.present, a.lost, b.present, b.lost) (record { pointers = λ z hz e. ((s z hz).same e).pointer; least = λ z hz. (s z hz).up_to.least; most = λ z hz. (s z hz).up_to.most; sectors = λ z hz. (s z hz).up_to.values })

-- ---- what is known of one emptied drive, behind its first flush (v: the device where the emptyings begin)
pub record Behind (g : Geometry) (x : ℕ) (par : Bool) (r : ℕ → Roles) (emptied : ℕ → Bool) (ss : ℕ → List (List ℕ)) (v : Device) (Alike : Shown → Shown → Type 0) (d : ℕ) : Type 0 where
  pub here : Here g x d
  pub apart : zone_of_kind par (r d) ≢ (r d).spare
  pub blank : (at_flush g x par r emptied ss v d d (r d).spare).sectors ≡ []
  pub looks : (w : Device) → LeftBy g x (at_flush g x par r emptied ss v d) w d (zone_of_kind par (r d)) (r d).spare (ss d) → (y : ℕ) → MayNameBut g x y → Alike (look_but g y (at_flush g x par r emptied ss v d)) (look_but g y w)

-- ---- the emptyings of a call, as its stores have them
pub record Within (g : Geometry) (x : ℕ) (E : Emptyings) (stores : List Store) (par : Bool) (r : ℕ → Roles) (ss : ℕ → List (List ℕ)) : Type 0 where
  pub rest : List Store
  pub of : (some : ℕ → Bool) → ((e : ℕ) → some e ≡ true → E.emptied e ≡ true) → E.stores_of some ≡ emptyings g (present_but g x) par r some ss
  pub are : stores ≡ E.before ++ (E.stores_of E.emptied ++ rest)

-- of the drives below d alone
only_below : (f : ℕ → List Store) (emptied : ℕ → Bool) (d n : ℕ) → d ≤ n → each_below (λ e. pick (ltb e d && emptied e) (f e) []) n ≡ each_below (λ e. pick (emptied e) (f e) []) d
only_below f emptied d zero h = let e : d ≡ 0 = omega (arith, h) in rw e refl
only_below f emptied d (suc n) h = go (ℕ_discrete d (suc n)) (λ k. only_below f emptied d n k)
  where
    go : Dec (d ≡ suc n) → (d ≤ n → each_below (λ e. pick (ltb e d && emptied e) (f e) []) n ≡ each_below (λ e. pick (emptied e) (f e) []) d) → each_below (λ e. pick (ltb e d && emptied e) (f e) []) (suc n) ≡ each_below (λ e. pick (emptied e) (f e) []) d
    go (yes q) ih = subst (λ (m : ℕ). each_below (λ e. pick (ltb e m && emptied e) (f e) []) (suc n) ≡ each_below (λ e. pick (emptied e) (f e) []) m) (sym q) (each_below_cong (λ e. pick (ltb e (suc n) && emptied e) (f e) []) (λ e. pick (emptied e) (f e) []) (suc n) (λ e k. rw (lt-ltb e (suc n) k) refl))
    go (no q) ih = rw (le-ltb n d (omega (arith, h, q))) (append-nil _ ∙ ih (omega (arith, h, q)))

module _ (g : Geometry) (x : ℕ) (c : Caching) (stores : List Store) (E : Emptyings) (par : Bool) (r : ℕ → Roles) (ss : ℕ → List (List ℕ)) (wi : Within g x E stores par r ss) (Alike : ℕ → Shown → Shown → Type 0)
    (known : (d : ℕ) → d < g.drives → E.emptied d ≡ true → Behind g x par r E.emptied ss (apply_all E.before c.now) (Alike d) d) where
  abbrev one : ℕ → List Store
  one = emptying_of g x par r E.emptied ss

  upto_is : (d : ℕ) → d ≤ g.drives → E.stores_of (λ e. ltb e d && E.emptied e) ≡ each_below one d
  unfolding emptyings
  upto_is d h = wi.of (λ e. ltb e d && E.emptied e) (λ e b. (and_split (ltb e d) (E.emptied e) b).1) ∙ only_below _ E.emptied d g.drives h

  all_is : E.stores_of E.emptied ≡ each_below one g.drives
  unfolding emptyings
  all_is = wi.of E.emptied (λ e b. b)

  end_is : (d : ℕ) → d ≤ g.drives → flush_end g x E d ≡ length E.before + (length (each_below one d) + length (flush_of g x))
  end_is d h = ap (λ (ys : List Store). length E.before + (length ys + length (flush_of g x))) (upto_is d h)

  stores_are : stores ≡ E.before ++ (each_below one g.drives ++ wi.rest)
  stores_are = wi.are ∙ ap (λ (ys : List Store). E.before ++ (ys ++ wi.rest)) all_is

  module _ (d n : ℕ) (u : UnderWay g x E d n) where
    k : Behind g x par r E.emptied ss (apply_all E.before c.now) (Alike d) d
    k = known d u.drive u.is_emptied

    -- at the flush's end
    there : (apply_all_caching (take (flush_end g x E d) stores) c).now ≡ at_flush g x par r E.emptied ss (apply_all E.before c.now) d
    there =
        let h = u.drive in
        ap (λ (ys : List Store). (apply_all_caching ys c).now) (ap (take (flush_end g x E d)) stores_are ∙ ap (λ (i : ℕ). take i (E.before ++ (each_below one g.drives ++ wi.rest))) (end_is d (omega (arith, h))) ∙ stopped_there g x par r E.emptied ss E.before wi.rest d u.drive u.is_emptied)
        ∙ flushed_is g x par r E.emptied ss E.before wi.rest d u.drive u.is_emptied c

    -- BEHIND IT, stopped and cut
    pub kept : (w : Device) → CachingCut x (apply_all_caching (take n stores) c) w → (y : ℕ) → MayNameBut g x y → Alike d (look_but g y (apply_all_caching (take (flush_end g x E d) stores) c).now) (look_but g y w)
    kept w cut y by =
        let h = u.drive in
        let l = stopped_left_lem g x par r E.emptied ss E.before wi.rest d u.drive u.is_emptied n (rw (← end_is d (omega (arith, h))) u.flushed)
        (λ e he de be. rw (← end_is e (omega (arith, he))) (u.not_next e he de be)) (rw (← all_is) u.not_done) c k.here k.apart k.blank w
        (subst (λ (ys : List Store). CachingCut x (apply_all_caching (take n ys) c) w) stores_are cut) in
        rw there (k.looks w l y by)

-- ---- a drive's log of either kind is not its spare
pub kinds_apart : (g : Geometry) (x : ℕ) (v : Device) (c : LogGenerations) → Standing g x v c → (par : Bool) (d : ℕ) → Here g x d → zone_of_kind par (roles g v d) ≢ (roles g v d).spare
kinds_apart g x v c s par d a = rw (firm_roles g v d (s.roles d) (s.firm d a)) (go par)
  where
    go : (b : Bool) → zone_of_kind b (s.roles d) ≢ (s.roles d).spare
    go true = (proper_apart (s.roles d) (s.firm d a).proper).2
    go false = (proper_apart (s.roles d) (s.firm d a).proper).1

-- ==== general logs, of a reset or of a mount
pub general_behind : (g : Geometry) (ok : Valid g) (x : ℕ) (c : LogGenerations) (v : Device) (l : Ledger) (ri : RoledInvs c g x v l) (f : InForce) (forced : Forced g x (by_roles g v) f.generation) (emptied : ℕ → Bool)
    (can : (d : ℕ) → d < g.drives → emptied d ≡ true → Here g x d × CanEmptyLog g false v d (general_size_of g f v d)) (d : ℕ) → d < g.drives → emptied d ≡ true → Behind g x false (roles g v) emptied (new_general_of g f v) v (ShowsAlike g) d
general_behind g ok x c v l ri f forced emptied can d hd b =
    let (a, k) = can d hd b in
    let (held, same) = general_at_flush g ok x c v l ri f forced emptied can d hd b in
    let u = at_flush g x false (roles g v) emptied (new_general_of g f v) v d in
    record {
      here = a;
      apart = kinds_apart g x v c ri.0 false d a;
      blank = same (roles g v d).spare ∙ k.blank;
      looks = λ w h y by.
          let ((e, i), shows) = general_drive_left g ok x c v l ri f forced emptied can d hd b w h in
          alike g ok x y by u w (l, held.generations, held.holds) (l, e, i) (shows y by);
    }

-- ==== a compact of drive d at rest
module _ (g : Geometry) (ok : Valid g) (x : ℕ) (c : LogGenerations) (v : Device) (state : StateView) (l : Ledger) (rr : RoledRests c g x v state l) (d : ℕ)
    (ca : CompactAccepted g (present_but g x) (roles g v) (by_roles g v) (by_state g (present_but g x) (by_roles g v) state) d) where
  abbrev compact_force : InForce
  compact_force = by_state g (present_but g x) (by_roles g v) state

  abbrev only : ℕ → Bool
  only e = eqb e d

  by_state_lem : ByState g compact_force state
  by_state_lem = record { generations = λ y h. refl; pointers = λ y h. refl }

  compact_can : (e : ℕ) → e < g.drives → only e ≡ true → Here g x e × CanEmptyLog g true v e (new_parity_size g compact_force e)
  unfolding drive_by_roles
  compact_can e he b = let r = ca.log.room in rw (eqb-true e d b) (ca.here, record { room = omega (arith, r); top = ca.log.top; blank = ca.blank })

  rest_some : (e : LogGenerations) (w : Device) → RoledRests e g x w state (after_flush l) → SomeInv g x w
  rest_some e w (s, (γ, r, q)) = (after_flush l, e, (s, (γ, rest_inv g x (by_roles g w) state (after_flush l) γ r, q)))

  pub compact_behind : (e : ℕ) → e < g.drives → only e ≡ true → Behind g x true (roles g v) only (new_sectors g compact_force v) v (ShowsAlike g) e
  compact_behind e he b =
      let (a, k) = compact_can e he b in
      let ((f, r), same) = parity_at_flush g ok x c v state l rr compact_force by_state_lem only compact_can e he b in
      let u = at_flush g x true (roles g v) only (new_sectors g compact_force v) v e in
      record {
        here = a;
        apart = kinds_apart g x v c rr.0 true e a;
        blank = same (roles g v e).spare ∙ k.blank;
        looks = λ w h y by.
            let (f2, r2) = parity_drive_left g ok x c v state l rr compact_force by_state_lem only compact_can e he b w h in
            alike g ok x y by u w (rest_some f u r) (rest_some f2 w r2) (λ i hi. rests_show_same g ok x y by f f2 (by_roles g u) (by_roles g w) state (after_flush l) r.1 r2.1 i hi refl);
      }

  pub compact_within : Within g x (emptyings_of_compact g x v state d) (compact_stores g (present_but g x) (roles g v) (by_roles g v) state d) true (roles g v) (new_sectors g compact_force v)
  unfolding compact_stores empty_parity
  compact_within = record { rest = []; of = λ some h. refl; are = sym (append-nil _) }

-- ==== a reset at rest
module _ (g : Geometry) (ok : Valid g) (x : ℕ) (c : LogGenerations) (v : Device) (state : StateView) (l : Ledger) (rr : RoledRests c g x v state l) (z : ℕ)
    (ra : ResetAccepted g (present_but g x) (roles g v) (by_roles g v) (by_state g (present_but g x) (by_roles g v) state) state z) where
  abbrev reset_force : InForce
  reset_force = by_state g (present_but g x) (by_roles g v) state

  abbrev emptied_too : ℕ → Bool
  emptied_too = emptied_for g (present_but g x) false (roles g v) (by_roles g v) (reset_limit g)

  reset_can : (d : ℕ) → d < g.drives → emptied_too d ≡ true → Here g x d × CanEmptyLog g false v d (general_size_of g reset_force v d)
  unfolding emptied_for drive_by_roles
  reset_can d hd e =
      let k = ra.logs.emptiable d e in (
        (and_split (present_but g x d) (lacks_room g false (roles g v) (by_roles g v) (reset_limit g) d) e).0,
        record { room = let r = k.room in omega (arith, r); top = k.top; blank = ra.blank d e },
      )

  reset_forced : Forced g x (by_roles g v) state.generation
  reset_forced = let (s, (γ, r, q)) = rr in rest_forced g ok x (by_roles g v) state l γ r

  reset_invs : RoledInvs c g x v l
  reset_invs = let (s, (γ, r, q)) = rr in (s, (γ, rest_inv g x (by_roles g v) state l γ r, q))

  pub reset_behind : (d : ℕ) → d < g.drives → emptied_too d ≡ true → Behind g x false (roles g v) emptied_too (new_general_of g reset_force v) v (ShowsAlike g) d
  reset_behind = general_behind g ok x c v l reset_invs reset_force reset_forced emptied_too reset_can

  pub reset_within : Within g x (emptyings_of_reset g x v state) (reset_all g (present_but g x) (roles g v) (by_roles g v) state z) false (roles g v) (new_general_of g reset_force v)
  unfolding reset_all empty_general
  reset_within = record { rest = _; of = λ some h. refl; are = refl }
