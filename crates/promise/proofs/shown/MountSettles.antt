-- A FINISHED MOUNT LEAVES ALL DURABLE AND NOTHING REMEMBERED, on any input: it begins with a flush of all present drives, and each step that stores ends with one. So what
-- a cut leaves then is what was there, and a look shows the same.
use Rattle.std.specs.Prelude.{◌≡◌, refl, ◌⊎◌, Bool, true, ℕ, ◌<◌, length}
use Rattle.std.proofs.Common.{sym, ap, ◌∙◌, inl, inr, arith}
use Rattle.std.proofs.Math.Path.{subst}
use Rattle.std.proofs.Math.Decide.{ℕ_discrete}
use mathlib.Core.List.{List, [], ◌∷◌, ◌++◌, append_assoc, append-nil, map}
use Rattle.tables.specs.meaning.Basics.{pick}
use Rattle.tables.specs.meaning.Lists.{is_nil, concat}
use Rattle.tables.specs.laws.Lists.{concat_append, mem_nil}
use Rattle.tables.specs.meaning.Device.{ZoneView, Device, Store}
use Rattle.tables.specs.laws.Local.{LocalStore, flush_here, apply_all_here, local_stores, local_append, local_is, apply_here_append}
use Rattle.tables.specs.meaning.Cached.{Caching, apply_all_caching, LeftOf, CachingCut}
use Rattle.tables.specs.laws.Cached.{now_is, was_is, remember_here, remember_append, caching_cut_at}
use Rattle.tables.specs.meaning.Phases.{on_present, flush_all}
use Rattle.tables.specs.laws.Phases.{on_present_local, flush_all_local}
use Rattle.tables.specs.meaning.Through.{through, carry}
use Rattle.tables.specs.laws.Through.{carry_on_present, carry_flush_all}
use Rattle.tables.specs.meaning.Drives.{find_below, present_but}
use Rattle.tables.specs.laws.Drives.{present_below, present_not, present_other, find_below_some}
use Rattle.tables.specs.declared.Geometry.{Geometry}
use Rattle.tables.specs.meaning.Geometry.{Valid}
use Rattle.logs.specs.meaning.Heads.{array_in}
use Rattle.volume.specs.meaning.Rules.{general_heads, showing}
use Rattle.volume.specs.meaning.Roles.{by_roles, placed_by}
use Rattle.volume.specs.meaning.Mount.{spare_step, entry_step, with_flush, with_flushes, steps_before_entries, carry_phases, mount_view, mount_look, start_roles, emptied_general, emptied_parity, middle_roles, end_roles, phases_of_logs, phases_before_entries, phases_of_parity_logs, phases_of_entries, after_fill, after_parity_logs, mount_stores}
use Rattle.volume.specs.meaning.Emptying.{by_look, empty_general, empty_parity}
use Rattle.volume.specs.laws.Depends.{SameOn, heads_same, zone_depends}
use Rattle.volume.specs.laws.RolesDepend.{by_roles_depend}
use Rattle.promise.proofs.invariant.Invariant.{Here}
use Rattle.promise.proofs.emptying.EmptyingStops.{Solid, solid_cut}
use Rattle.promise.proofs.device.CachedModes.{Forgotten}

-- ---- all that the drives but x hold is durable, and their caches remember nothing
pub record Settled (g : Geometry) (x : ℕ) (c : Caching) : Type 0 where
  pub durable : Solid g x c.now
  pub forgotten : Forgotten g x c

-- a cut then leaves it as it was
pub settled_cut : (g : Geometry) (x : ℕ) (c : Caching) (w : Device) → Settled g x c → CachingCut x c w → (d y : ℕ) → Here g x d → w d y ≡ c.now d y
settled_cut g x c w s k d y a = go (caching_cut_at x c w k d y (present_not g x d a))
  where
    go : LeftOf (c.now d y) (c.was d y) (w d y) → w d y ≡ c.now d y
    go (inl q) = solid_cut (c.now d y) (w d y) q (s.durable d y a)
    go (inr (o, m, q)) = mem_nil o (rw (s.forgotten d y a) at m)

-- and settled
pub settled_still : (g : Geometry) (x : ℕ) (c k : Caching) → Settled g x c → CachingCut x c k.now → Forgotten g x k → Settled g x k
settled_still g x c k s h f = record { durable = λ d y a. rw (settled_cut g x c k.now s h d y a) (s.durable d y a); forgotten = f }

-- ---- what a place sees last is a flush; or it sees nothing
abbrev SeesFlush : List LocalStore → Type 0
SeesFlush os = (first : List LocalStore) × (os ≡ first ++ (flush_here ∷ []))

abbrev FlushOrNone : List LocalStore → Type 0
FlushOrNone os = (os ≡ []) ⊎ SeesFlush os

flush_then : (os ps : List LocalStore) → SeesFlush os → FlushOrNone ps → SeesFlush (os ++ ps)
flush_then os ps (first, e) (inl q) = (first, rw q (append-nil os ∙ e))
flush_then os ps f (inr (first, e)) = (os ++ first, rw e (sym (append_assoc os first (flush_here ∷ []))))

none_then : (os ps : List LocalStore) → FlushOrNone os → FlushOrNone ps → FlushOrNone (os ++ ps)
none_then os ps (inl q) p = rw q p
none_then os ps (inr f) p = inr (flush_then os ps f p)

module _ (g : Geometry) (present : ℕ → Bool) where
  abbrev F : List Store
  F = on_present present (flush_all g.drives)

  -- of every present drive
  abbrev AllSee : List Store → Type 0
  AllSee xs = (d y : ℕ) → d < g.drives → present d ≡ true → SeesFlush (local_stores d y xs)

  abbrev AllSeeOrNone : List Store → Type 0
  AllSeeOrNone xs = (d y : ℕ) → d < g.drives → present d ≡ true → FlushOrNone (local_stores d y xs)

  all_see_flush : AllSee F
  all_see_flush d y h a = ([], on_present_local present d y (flush_all g.drives) a ∙ flush_all_local d y g.drives h)

  see_then : (xs ys : List Store) → AllSee xs → AllSeeOrNone ys → AllSee (xs ++ ys)
  see_then xs ys p q d y h a = rw (local_append d y xs ys) (flush_then (local_stores d y xs) (local_stores d y ys) (p d y h a) (q d y h a))

  or_none_then : (xs ys : List Store) → AllSeeOrNone xs → AllSeeOrNone ys → AllSeeOrNone (xs ++ ys)
  or_none_then xs ys p q d y h a = rw (local_append d y xs ys) (none_then (local_stores d y xs) (local_stores d y ys) (p d y h a) (q d y h a))

  last_sees : (xs ys : List Store) → AllSee ys → AllSee (xs ++ ys)
  last_sees xs ys q d y h a = let (first, e) = q d y h a in (local_stores d y xs ++ first, local_append d y xs ys ∙ ap (λ (os : List LocalStore). local_stores d y xs ++ os) e ∙ sym (append_assoc (local_stores d y xs) first (flush_here ∷ [])))

  -- ---- a step and its flush, or no store; then more
  two_phases : (xs fs ys : List Store) → ((xs ≡ []) × (fs ≡ [])) ⊎ AllSee fs → AllSeeOrNone ys → AllSeeOrNone (xs ++ (fs ++ ys))
  two_phases xs fs ys (inl (p, q)) r = rw (p, q) r
  two_phases xs fs ys (inr f) r = λ d y h a. inr (last_sees xs (fs ++ ys) (see_then fs ys f r) d y h a)

  none_seen : AllSeeOrNone []
  none_seen d y h a = inl refl

  step_or_none : (zs : List Store) → ((zs ≡ []) × (pick (is_nil zs) [] F ≡ [])) ⊎ AllSee (pick (is_nil zs) [] F)
  step_or_none [] = inl (refl, refl)
  step_or_none (z ∷ zs) = inr all_see_flush

  step_flushes : (xs ys : List Store) → AllSeeOrNone ys → AllSeeOrNone (on_present present xs ++ (pick (is_nil (on_present present xs)) [] F ++ ys))
  step_flushes xs ys = two_phases (on_present present xs) (pick (is_nil (on_present present xs)) [] F) ys (step_or_none (on_present present xs))

  -- carried to other zones
  module _ (ρ : ℕ → ℕ → ℕ) where
    carried_flush : map (carry ρ) F ≡ F
    carried_flush = carry_on_present ρ present (flush_all g.drives) ∙ ap (on_present present) (carry_flush_all ρ g.drives)

    carried_or_none : (zs : List Store) → ((map (carry ρ) zs ≡ []) × (map (carry ρ) (pick (is_nil zs) [] F) ≡ [])) ⊎ AllSee (map (carry ρ) (pick (is_nil zs) [] F))
    carried_or_none [] = inl (refl, refl)
    carried_or_none (z ∷ zs) = inr (subst AllSee (sym carried_flush) all_see_flush)

    carried_flushes : (steps : List (List Store)) → AllSeeOrNone (concat (carry_phases ρ (with_flushes g present steps)))
    carried_flushes [] = none_seen
    carried_flushes (xs ∷ steps) =
        two_phases (map (carry ρ) (on_present present xs)) (map (carry ρ) (pick (is_nil (on_present present xs)) [] F)) (concat (carry_phases ρ (with_flushes g present steps))) (carried_or_none (on_present present xs)) (carried_flushes steps)

  -- ---- the mount's stores
  module _ (x : ℕ) (v : Device) where
    abbrev spares : List Store
    spares = map (carry (placed_by (start_roles g present x v))) (spare_step g (mount_view g present x v))

    abbrev generals : List Store
    generals = empty_general g present (start_roles g present x v) (by_look (mount_look g present x v)) (emptied_general g present x v) (mount_view g present x v)

    logs_flush : AllSee (concat (phases_of_logs g present x v))
    unfolding phases_of_logs
    logs_flush = see_then F (concat (with_flush g present spares ++ with_flush g present generals)) all_see_flush (step_flushes spares (concat (with_flush g present generals)) (step_flushes generals [] none_seen))

    abbrev steps : List (List Store)
    steps = carry_phases (placed_by (middle_roles g present x v)) (with_flushes g present (steps_before_entries g present x (mount_look g present x v) (mount_view g present x v)))

    before_flush : AllSee (concat (phases_before_entries g present x v))
    unfolding phases_before_entries
    before_flush =
        subst AllSee (sym (concat_append (phases_of_logs g present x v) steps)) (see_then (concat (phases_of_logs g present x v)) (concat steps) logs_flush
        (carried_flushes (placed_by (middle_roles g present x v)) (steps_before_entries g present x (mount_look g present x v) (mount_view g present x v))))

    parity_flush : (u : Device) → AllSeeOrNone (concat (phases_of_parity_logs g present x v u))
    unfolding phases_of_parity_logs
    parity_flush u = step_flushes (empty_parity g present (middle_roles g present x v) (by_look (mount_look g present x v)) (emptied_parity g present x v) (through (placed_by (middle_roles g present x v)) u)) [] none_seen

    entries_flush : (u : Device) → AllSeeOrNone (concat (phases_of_entries g present x v u))
    unfolding phases_of_entries
    entries_flush u = carried_flushes (placed_by (end_roles g present x v)) (entry_step g (mount_look g present x v) (through (placed_by (end_roles g present x v)) u) ∷ [])

    pub mount_flushes : AllSee (mount_stores g present x v)
    unfolding mount_stores
    mount_flushes =
        let u = after_fill g present x v in
        let w = after_parity_logs g present x v in
        see_then (concat (phases_before_entries g present x v)) (concat (phases_of_parity_logs g present x v u) ++ concat (phases_of_entries g present x v w)) before_flush
        (or_none_then (concat (phases_of_parity_logs g present x v u)) (concat (phases_of_entries g present x v w)) (parity_flush u) (entries_flush w))

-- AFTER A MOUNT (c: the device with its caches; v: any device)
pub mount_settles : (g : Geometry) (x : ℕ) (v : Device) (c : Caching) → Settled g x (apply_all_caching (mount_stores g (present_but g x) x v) c)
mount_settles g x v c = record { durable = λ d y a. lasts d y (seen d y a); forgotten = λ d y a. forgets d y (seen d y a) }
  where
    xs : List Store
    xs = mount_stores g (present_but g x) x v

    seen : (d y : ℕ) → Here g x d → SeesFlush (local_stores d y xs)
    seen d y a = mount_flushes g (present_but g x) x v d y (present_below g x d a) a

    lasts : (d y : ℕ) → SeesFlush (local_stores d y xs) → ((apply_all_caching xs c).now d y).durable ≡ length ((apply_all_caching xs c).now d y).sectors
    lasts d y (first, e) =
        let q : (apply_all_caching xs c).now d y ≡ apply_all_here (first ++ (flush_here ∷ [])) (c.now d y) = ap (λ (w : Device). w d y) (now_is xs c) ∙ local_is d y xs c.now ∙ ap (λ (os : List LocalStore). apply_all_here os (c.now d y)) e in
        rw (q, apply_here_append first (flush_here ∷ []) (c.now d y)) refl

    forgets : (d y : ℕ) → SeesFlush (local_stores d y xs) → (apply_all_caching xs c).was d y ≡ []
    forgets d y (first, e) = was_is d y xs c ∙ ap (λ (os : List LocalStore). remember_here os (c.now d y) (c.was d y)) e ∙ remember_append first (flush_here ∷ []) (c.now d y) (c.was d y)

-- ---- what a look shows goes by the sectors of the drives that are there, if there is one
pub shown_alike : (g : Geometry) → Valid g → (x : ℕ) (v w : Device) → ((d y : ℕ) → Here g x d → w d y ≡ v d y) → showing g (present_but g x) x (by_roles g w) ≡ showing g (present_but g x) x (by_roles g v)
unfolding showing
shown_alike g ok x v w same = λ i. record { lost = x; array = array_in (heads i); zone = λ z. zone_depends g (present_but g x) (by_roles g w) (by_roles g v) seen z i }
  where
    seen : SameOn (present_but g x) (by_roles g w) (by_roles g v)
    seen = by_roles_depend g (present_but g x) w v (λ d a y. ap (λ (z : ZoneView). z.sectors) (same d y a))

    some : (d : ℕ) × (d < g.drives) × Here g x d
    some = go (ℕ_discrete x 0)
      where
        go : Dec (x ≡ 0) → (d : ℕ) × (d < g.drives) × Here g x d
        go (yes e) = let h : 1 < g.drives = omega (arith, ok.drives_least) in (1, h, present_other g x 1 h (λ q. omega (arith, q, e)))
        go (no n) = let h : 0 < g.drives = omega (arith, ok.drives_least) in (0, h, present_other g x 0 h (λ q. n (sym q)))

    heads : general_heads g (by_roles g w) (find_below (present_but g x) g.drives) ≡ general_heads g (by_roles g v) (find_below (present_but g x) g.drives)
    heads = let (d, h, a) = some in heads_same g (present_but g x) (by_roles g w) (by_roles g v) seen (find_below (present_but g x) g.drives) (find_below_some (present_but g x) g.drives d h a)
