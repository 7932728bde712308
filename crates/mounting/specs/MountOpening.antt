-- The start of a mount: its first flush changes no sector, so the roles, the look, and which logs lack room are those of the device that it meets. And the
-- stores of its emptyings, which are all on present drives, with the flush that follows them.
use Rattle.std.specs.Prelude.{◌≡◌, refl, Bool, true, ◌&&◌, ◌||◌, eqb}
use Rattle.std.proofs.Math.Path.{sym, ap, ap₂, fun_ext}
use Rattle.std.proofs.Common.{◌∙◌}
use Rattle.std.proofs.Math.Bool.{false}
use Prim.Native.Nat.{ℕ, zero, suc, ◌-◌}
use mathlib.Core.List.{List, [], ◌∷◌, ◌++◌, map}
use Rattle.std.proofs.Math.ListN.{length}
use Rattle.std.proofs.Math.Dec.{ltb}
use Rattle.tables.specs.declared.Geometry.{Geometry}
use Rattle.tables.specs.meaning.Basics.{pick}
use Rattle.tables.specs.meaning.Below.{each_below}
use Rattle.tables.specs.meaning.Lists.{concat}
use Rattle.tables.specs.meaning.Device.{Device, ZoneView, Store, reset}
use Rattle.tables.specs.meaning.Phases.{flush_all, on_present}
use Rattle.tables.specs.meaning.Through.{carry}
use Rattle.tables.specs.laws.StoresFit.{AllOn, on_present_on, on_append}
use Rattle.tables.specs.laws.Lists.{map_append}
use Rattle.logs.specs.meaning.Entry.{spare_zone, kind_of_log, Header}
use Rattle.volume.specs.meaning.Calls.{append_all}
use Rattle.volume.specs.meaning.Rules.{Shown, showing}
use Rattle.volume.specs.meaning.Roles.{Roles, roles_in, roles, by_roles, drive_by_roles, seen_as, says_nothing, zone_of_role, claim_of_kind, placed_by, zone_of_kind}
use Rattle.volume.specs.meaning.Emptying.{InForce, by_look, mount_general_limit, unused_in, emptied_for, emptying_stores, emptyings, new_general, empty_general}
use Rattle.volume.specs.meaning.Mount.{spare_step, with_flush, after_opening, mount_look, phases_of_logs, carry_phases}
use Rattle.volume.specs.laws.EachBelow.{each_below_cong}
use Rattle.mounting.specs.LookAgrees.{heads_same}
use Rattle.mounting.specs.RestoreAgrees.{shown_same}
use Rattle.volume.specs.laws.OpeningFlush.{opening_sectors}

-- ---- what reads sectors alone
module _ (g : Geometry) (v w : Device) (same : (d z : ℕ) → (v d z).sectors ≡ (w d z).sectors) where
  spares_same : spare_step g v ≡ spare_step g w
  unfolding spare_step
  spares_same = each_below_cong _ _ g.drives (λ d hd. ap (λ (ss : List (List ℕ)). pick (ltb 0 (length ss)) (reset d spare_zone ∷ []) []) (same d spare_zone))

  unused_same : (par : Bool) (r : ℕ → Roles) (d : ℕ) → unused_in g par r v d ≡ unused_in g par r w d
  unfolding unused_in
  unused_same par r d = ap (λ (ss : List (List ℕ)). pick (eqb (claim_of_kind par (r d)) 0) 0 (g.capacity - length ss)) (same d (kind_of_log par))

  emptied_for_same : (a : ℕ → Bool) (par : Bool) (r : ℕ → Roles) (limit : ℕ) → emptied_for g a par r v limit ≡ emptied_for g a par r w limit
  unfolding emptied_for
  emptied_for_same a par r limit = fun_ext λ d. ap (λ (n : ℕ). a d && ltb n limit) (unused_same par r d)

  empty_general_same : (a : ℕ → Bool) (r : ℕ → Roles) (f : InForce) (e : ℕ → Bool) → empty_general g a r f e v ≡ empty_general g a r f e w
  unfolding empty_general
  empty_general_same a r f e = ap (λ (hs : ℕ → List Header). emptyings g a false r e (λ d. new_general g f (r d) d (hs d))) (heads_same g v w same)

-- by roles, what is seen of two devices with the same sectors
pub seen_alike : (r : Roles) (zs us : ℕ → ZoneView) → ((y : ℕ) → (zs y).sectors ≡ (us y).sectors) → (y : ℕ) → (seen_as r zs y).sectors ≡ (seen_as r us y).sectors
seen_alike r zs us same y = go (eqb y 0 && eqb r.general_claim 0 || (eqb y 1 && eqb r.parity_claim 0))
  where
    go : (b : Bool) → (pick b (says_nothing (zs (zone_of_role r y))) (zs (zone_of_role r y))).sectors ≡ (pick b (says_nothing (us (zone_of_role r y))) (us (zone_of_role r y))).sectors
    go true = refl
    go false = same (zone_of_role r y)

-- ---- after the first flush
module _ (g : Geometry) (a : ℕ → Bool) (v : Device) where
  pub opened_roles : roles g (after_opening g a v) ≡ roles g v
  opened_roles = fun_ext λ d. ap (roles_in g d) (fun_ext λ y. opening_sectors g a v d y)

  pub opened_view : (d y : ℕ) → (by_roles g (after_opening g a v) d y).sectors ≡ (by_roles g v d y).sectors
  unfolding drive_by_roles
  opened_view d y =
      ap (λ (r : ℕ → Roles). (seen_as (r d) (after_opening g a v d) y).sectors) opened_roles
      ∙ seen_alike (roles g v d) (after_opening g a v d) (v d) (λ z. opening_sectors g a v d z) y

  pub opened_look : (x : ℕ) → mount_look g a x v ≡ showing g a x (by_roles g v)
  unfolding mount_look
  opened_look x = shown_same g (by_roles g (after_opening g a v)) (by_roles g v) opened_view a x

  -- which logs lack room
  pub opened_lacks : (par : Bool) (limit : ℕ) → emptied_for g a par (roles g (after_opening g a v)) (by_roles g (after_opening g a v)) limit ≡ emptied_for g a par (roles g v) (by_roles g v) limit
  opened_lacks par limit =
      ap (λ (r : ℕ → Roles). emptied_for g a par r (by_roles g (after_opening g a v)) limit) opened_roles
      ∙ emptied_for_same g (by_roles g (after_opening g a v)) (by_roles g v) opened_view a par (roles g v) limit

  -- THE PHASES up to step 2, by the device that the mount meets (x: the lost drive; e: the drives whose general log lacks room)
  pub opening_phases : (x : ℕ) (e : ℕ → Bool) → e ≡ emptied_for g a false (roles g v) (by_roles g v) (mount_general_limit g)
      → phases_of_logs g a x v ≡ on_present a (flush_all g.drives) ∷ (with_flush g a (map (carry (placed_by (roles g v))) (spare_step g (by_roles g v))) ++ with_flush g a (empty_general g a (roles g v) (by_look (showing g a x (by_roles g v))) e (by_roles g v)))
  unfolding phases_of_logs
  opening_phases x e q =
      let w = by_roles g v in
      let w' = by_roles g (after_opening g a v) in
      let s : map (carry (placed_by (roles g (after_opening g a v)))) (spare_step g w') ≡ map (carry (placed_by (roles g v))) (spare_step g w) =
      ap₂ (λ (r : ℕ → Roles) (ss : List Store). map (carry (placed_by r)) ss) opened_roles (spares_same g w' w opened_view) in
      let m : empty_general g a (roles g (after_opening g a v)) (by_look (mount_look g a x v)) (emptied_for g a false (roles g (after_opening g a v)) w' (mount_general_limit g)) w' ≡ empty_general g a (roles g v) (by_look (showing g a x w)) e w =
      ap₂ (λ (r : ℕ → Roles) (k : Shown). empty_general g a r (by_look k) (emptied_for g a false (roles g (after_opening g a v)) w' (mount_general_limit g)) w') opened_roles (opened_look x)
      ∙ ap (λ (b : ℕ → Bool). empty_general g a (roles g v) (by_look (showing g a x w)) b w') (opened_lacks false (mount_general_limit g) ∙ sym q)
      ∙ empty_general_same g w' w opened_view a (roles g v) (by_look (showing g a x w)) e in
      ap₂ (λ (ss rs : List Store). on_present a (flush_all g.drives) ∷ (with_flush g a ss ++ with_flush g a rs)) s m

-- ---- stores on present drives
pub present_kept : (a : ℕ → Bool) (xs : List Store) → AllOn a xs → on_present a xs ≡ xs
present_kept a [] h = refl
present_kept a (x ∷ xs) h = rw h.0 (ap (λ (l : List Store). x ∷ l) (present_kept a xs h.1))

module _ (g : Geometry) (a : ℕ → Bool) where
  appends_present : (d y : ℕ) (ss : List (List ℕ)) → a d ≡ true → AllOn a (append_all d y ss)
  appends_present d y [] h = tt
  appends_present d y (s ∷ ss) h = (h, appends_present d y ss h)

  emptying_present : (d old spare : ℕ) (ss : List (List ℕ)) → a d ≡ true → AllOn a (emptying_stores g a d old spare ss)
  unfolding emptying_stores
  emptying_present d old spare ss h =
      let flushes = on_present a (flush_all g.drives) in
      let last : List Store = reset d old ∷ [] in
      let f = on_present_on a (flush_all g.drives) in
      on_append a flushes (append_all d spare ss ++ (flushes ++ last)) f (on_append a (append_all d spare ss) (flushes ++ last) (appends_present d spare ss h) (on_append a flushes last f (h, tt)))

  emptyings_below : (par : Bool) (r : ℕ → Roles) (e : ℕ → Bool) (ss : ℕ → List (List ℕ)) → ((d : ℕ) → e d ≡ true → a d ≡ true) → (n : ℕ)
      → AllOn a (each_below (λ d. pick (e d) (emptying_stores g a d (zone_of_kind par (r d)) (r d).spare (ss d)) []) n)
  emptyings_below par r e ss h zero = tt
  emptyings_below par r e ss h (suc n) =
      on_append a (each_below (λ d. pick (e d) (emptying_stores g a d (zone_of_kind par (r d)) (r d).spare (ss d)) []) n) (pick (e n) (emptying_stores g a n (zone_of_kind par (r n)) (r n).spare (ss n)) []) (emptyings_below par r e ss h n) (go (e n) refl)
    where
      go : (b : Bool) → e n ≡ b → AllOn a (pick b (emptying_stores g a n (zone_of_kind par (r n)) (r n).spare (ss n)) [])
      go true q = emptying_present n (zone_of_kind par (r n)) (r n).spare (ss n) (h n q)
      go false q = tt

  pub emptyings_present : (par : Bool) (r : ℕ → Roles) (e : ℕ → Bool) (ss : ℕ → List (List ℕ)) → ((d : ℕ) → e d ≡ true → a d ≡ true) → on_present a (emptyings g a par r e ss) ≡ emptyings g a par r e ss
  unfolding emptyings
  emptyings_present par r e ss h = present_kept a (emptyings g a par r e ss) (emptyings_below par r e ss h g.drives)

-- ---- carried phase by phase, or all at once
pub carried_phases : (ρ : ℕ → ℕ → ℕ) (ps : List (List Store)) → concat (carry_phases ρ ps) ≡ map (carry ρ) (concat ps)
carried_phases ρ [] = refl
carried_phases ρ (p ∷ ps) = ap (λ (l : List Store). map (carry ρ) p ++ l) (carried_phases ρ ps) ∙ sym (map_append (carry ρ) p (concat ps))
