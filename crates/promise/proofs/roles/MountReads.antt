-- A mount reads sectors, never how many of them are durable: devices with the same sectors are mounted by the same stores, and as much room is asked of both.
use Rattle.std.specs.Prelude.{◌≡◌, refl, Bool, false, ℕ}
use Rattle.std.proofs.Math.Path.{ap}
use Rattle.std.proofs.Common.{sym, ◌∙◌, subst}
use Rattle.std.proofs.Math.Bool.{true}
use mathlib.Core.List.{List, [], ◌∷◌, ◌++◌, map}
use Rattle.tables.specs.meaning.Device.{ZoneView, Device, Store, appended, blank_zone, flushed, apply_all}
use Rattle.tables.specs.laws.Local.{LocalStore, append_here, reset_here, flush_here, apply_all_here, local_stores, local_is}
use Rattle.tables.specs.meaning.Lists.{concat}
use Rattle.tables.specs.meaning.Phases.{on_present, flush_all}
use Rattle.tables.specs.meaning.Through.{through, carry}
use Rattle.tables.specs.declared.Geometry.{Geometry}
use Rattle.volume.specs.meaning.Rules.{Shown, general_heads, parity_entries, parity_ending, showing}
use Rattle.volume.specs.meaning.Roles.{Roles, roles, by_roles, placed_by, roles_after}
use Rattle.volume.specs.meaning.Emptying.{InForce, by_look, unused_in, reserve, mount_general_limit, emptied_for, empty_general, empty_parity}
use Rattle.volume.specs.meaning.Mount.{spare_step, label_step, seal_step, torn_row_step, fill_step, counters_differ, entry_step, with_flush, with_flushes, steps_before_entries, carry_phases, after_opening, mount_look, phases_of_logs, phases_before_entries, phases_of_parity_logs, phases_of_entries, after_fill, after_parity_logs, mount_stores}
use Rattle.promise.proofs.invariant.RoomAsked.{MountAccepted}
use Rattle.promise.proofs.roles.ReadsSectors.{bare, bare_same, SameSectors, showing_same, roles_same, by_roles_same}

-- ---- stores leave the same sectors of both
here_same : (os : List LocalStore) (a b : ZoneView) → a.sectors ≡ b.sectors → (apply_all_here os a).sectors ≡ (apply_all_here os b).sectors
here_same [] a b e = e
here_same (append_here s ∷ os) a b e = here_same os (appended s a) (appended s b) (ap (λ (ss : List (List ℕ)). ss ++ (s ∷ [])) e)
here_same (reset_here ∷ os) a b e = here_same os blank_zone blank_zone refl
here_same (flush_here ∷ os) a b e = here_same os (flushed a) (flushed b) e

pub stores_same : (xs : List Store) (v w : Device) → SameSectors v w → SameSectors (apply_all xs v) (apply_all xs w)
stores_same xs v w s d y = ap (λ (z : ZoneView). z.sectors) (local_is d y xs v) ∙ here_same (local_stores d y xs) (v d y) (w d y) (s d y) ∙ ap (λ (z : ZoneView). z.sectors) (sym (local_is d y xs w))

-- ---- the steps, by the roles, the look and the sectors
module _ (g : Geometry) (present : ℕ → Bool) (x : ℕ) where
  abbrev log_phases : (ℕ → Roles) → Shown → Device → List (List Store)
  log_phases r k w =
      on_present present (flush_all g.drives)
      ∷ (with_flush g present (map (carry (placed_by r)) (spare_step g w)) ++ with_flush g present (empty_general g present r (by_look k) (emptied_for g present false r w (mount_general_limit g)) w))

  abbrev middle : (ℕ → Roles) → Device → ℕ → Roles
  middle r w = roles_after false (emptied_for g present false r w (mount_general_limit g)) r

  abbrev lacking : (ℕ → Roles) → Device → ℕ → Bool
  lacking r w = emptied_for g present true r w (reserve g)

  abbrev before_phases : (ℕ → Roles) → Shown → Device → List (List Store)
  before_phases r k w = log_phases r k w ++ carry_phases (placed_by (middle r w)) (with_flushes g present (steps_before_entries g present x k w))

  abbrev parity_phases : (ℕ → Roles) → Shown → Device → Device → List (List Store)
  parity_phases r k w u = with_flush g present (empty_parity g present (middle r w) (by_look k) (lacking r w) u)

  abbrev entry_phases : (ℕ → Roles) → Shown → Device → Device → List (List Store)
  entry_phases r k w u = carry_phases (placed_by (roles_after true (lacking r w) (middle r w))) (with_flush g present (entry_step g k u))

  -- ---- two devices with the same sectors
  module _ (v v' : Device) (s : SameSectors v v') where
    abbrev a : Device
    a = after_opening g present v

    abbrev a' : Device
    a' = after_opening g present v'

    opened : SameSectors (after_opening g present v) (after_opening g present v')
    unfolding after_opening
    opened = stores_same (on_present present (flush_all g.drives)) v v' s

    same_roles : roles g a ≡ roles g a'
    same_roles = roles_same g a a' opened

    same_seen : SameSectors (by_roles g a) (by_roles g a')
    same_seen = by_roles_same g a a' opened

    same_bare : bare (by_roles g a) ≡ bare (by_roles g a')
    same_bare = bare_same (by_roles g a) (by_roles g a') same_seen

    same_look : showing g present x (by_roles g a) ≡ showing g present x (by_roles g a')
    same_look = showing_same g (by_roles g a) (by_roles g a') same_seen present x

    before_same : phases_before_entries g present x v ≡ phases_before_entries g present x v'
    unfolding phases_before_entries phases_of_logs mount_look spare_step empty_general emptied_for unused_in label_step seal_step torn_row_step fill_step counters_differ general_heads parity_ending
    before_same i = before_phases (same_roles i) (same_look i) (same_bare i)

    filled_same : SameSectors (after_fill g present x v) (after_fill g present x v')
    filled_same d y = stores_same (concat (phases_before_entries g present x v)) v v' s d y ∙ ap (λ (ps : List (List Store)). (apply_all (concat ps) v' d y).sectors) before_same

    -- by what the device has become
    module _ (u u' : Device) (t : SameSectors u u') where
      through_bare : (ρ : ℕ → ℕ → ℕ) → bare (through ρ u) ≡ bare (through ρ u')
      through_bare ρ = bare_same (through ρ u) (through ρ u') (λ d y. t d (ρ d y))

      bare_u : bare u ≡ bare u'
      bare_u = bare_same u u' t

      parity_same : phases_of_parity_logs g present x v u ≡ phases_of_parity_logs g present x v' u'
      unfolding phases_of_parity_logs mount_look empty_parity emptied_for unused_in parity_entries
      parity_same i = parity_phases (same_roles i) (same_look i) (same_bare i) (through (placed_by (middle (same_roles i) (same_bare i))) (bare_u i))

      entries_same : phases_of_entries g present x v u ≡ phases_of_entries g present x v' u'
      unfolding phases_of_entries mount_look entry_step emptied_for unused_in parity_entries
      entries_same i = entry_phases (same_roles i) (same_look i) (same_bare i) (through (placed_by (roles_after true (lacking (same_roles i) (same_bare i)) (middle (same_roles i) (same_bare i)))) (bare_u i))

    -- THE STORES
    pub mount_stores_same : mount_stores g present x v ≡ mount_stores g present x v'
    unfolding mount_stores
    mount_stores_same =
        let u = after_fill g present x v in
        let u' = after_fill g present x v' in
        let p : phases_of_parity_logs g present x v u ≡ phases_of_parity_logs g present x v' u' = parity_same u u' filled_same in
        let t : SameSectors (after_parity_logs g present x v) (after_parity_logs g present x v') = λ d y. stores_same (concat (phases_of_parity_logs g present x v u)) u u' filled_same d y ∙ ap (λ (ps : List (List Store)). (apply_all (concat ps) u' d y).sectors) p in
        let q = entries_same (after_parity_logs g present x v) (after_parity_logs g present x v') t in
        λ i. concat (before_same i) ++ (concat (p i) ++ concat (q i))

-- ---- the room that is asked
module _ (g : Geometry) (present : ℕ → Bool) (r : ℕ → Roles) (f : InForce) where
  to_bare : (w : Device) → MountAccepted g present r w f → MountAccepted g present r (bare w) f
  unfolding emptied_for unused_in general_heads
  to_bare w m = record { general = record { roomy = m.general.roomy; emptiable = m.general.emptiable }; parity = record { roomy = m.parity.roomy; emptiable = m.parity.emptiable } }

  of_bare : (w : Device) → MountAccepted g present r (bare w) f → MountAccepted g present r w f
  unfolding emptied_for unused_in general_heads
  of_bare w m = record { general = record { roomy = m.general.roomy; emptiable = m.general.emptiable }; parity = record { roomy = m.parity.roomy; emptiable = m.parity.emptiable } }

pub mount_accepted_same : (g : Geometry) (present : ℕ → Bool) (x : ℕ) (v v' : Device) → SameSectors v v' → MountAccepted g present (roles g v) (by_roles g v) (by_look (showing g present x (by_roles g v)))
    → MountAccepted g present (roles g v') (by_roles g v') (by_look (showing g present x (by_roles g v')))
mount_accepted_same g present x v v' s m =
    of_bare g present (roles g v') (by_look (showing g present x (by_roles g v'))) (by_roles g v') (along (to_bare g present (roles g v) (by_look (showing g present x (by_roles g v))) (by_roles g v) m))
  where
    along : MountAccepted g present (roles g v) (bare (by_roles g v)) (by_look (showing g present x (by_roles g v))) → MountAccepted g present (roles g v') (bare (by_roles g v')) (by_look (showing g present x (by_roles g v')))
    along n =
        let t = by_roles_same g v v' s in
        subst (λ (k : Shown). MountAccepted g present (roles g v') (bare (by_roles g v')) (by_look k)) (showing_same g (by_roles g v) (by_roles g v') t present x)
        (subst (λ (w : Device). MountAccepted g present (roles g v') w (by_look (showing g present x (by_roles g v)))) (bare_same (by_roles g v) (by_roles g v') t)
        (subst (λ (q : ℕ → Roles). MountAccepted g present q (bare (by_roles g v)) (by_look (showing g present x (by_roles g v)))) (roles_same g v v' s) n))
