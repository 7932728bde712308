-- A drive's roles, and what they show of it, depend on that drive's own sectors alone. So two devices that agree on the present drives agree there by their
-- roles too.
use Rattle.std.specs.Prelude.{◌≡◌, refl, Bool, true, false, ◌&&◌, ◌||◌, ℕ, List, [], eqb}
use Rattle.std.proofs.Math.Path.{sym}
use Rattle.std.proofs.Common.{◌∙◌}
use Rattle.tables.specs.declared.Geometry.{Geometry}
use Rattle.tables.specs.meaning.Basics.{pick}
use Rattle.tables.specs.meaning.Device.{ZoneView, Device}
use Rattle.volume.specs.meaning.Roles.{Roles, roles_in, roles, zone_of_role, says_nothing, seen_as, drive_by_roles, by_roles}
use Rattle.volume.specs.laws.Depends.{SameOn}

-- the sectors seen in a role
abbrev sectors_as : Roles → (ℕ → List (List ℕ)) → ℕ → List (List ℕ)
sectors_as r ss y = pick (eqb y 0 && eqb r.general_claim 0 || (eqb y 1 && eqb r.parity_claim 0)) [] (ss (zone_of_role r y))

seen_sectors : (r : Roles) (zs : ℕ → ZoneView) (y : ℕ) → (seen_as r zs y).sectors ≡ sectors_as r (λ y. (zs y).sectors) y
seen_sectors r zs y = go (eqb y 0 && eqb r.general_claim 0 || (eqb y 1 && eqb r.parity_claim 0))
  where
    go : (b : Bool) → (pick b (says_nothing (zs (zone_of_role r y))) (zs (zone_of_role r y))).sectors ≡ pick b [] (zs (zone_of_role r y)).sectors
    go true = refl
    go false = refl

module _ (g : Geometry) (present : ℕ → Bool) (v w : Device) (same : SameOn present v w) where
  pub roles_depend : (d : ℕ) → present d ≡ true → roles g v d ≡ roles g w d
  roles_depend d p i = roles_in g d (λ y. same d p y i)

  pub by_roles_depend : SameOn present (by_roles g v) (by_roles g w)
  unfolding drive_by_roles
  by_roles_depend d p y =
      let e : sectors_as (roles g v d) (λ y. (v d y).sectors) y ≡ sectors_as (roles g w d) (λ y. (w d y).sectors) y = λ i. sectors_as (roles_depend d p i) (λ y. same d p y i) y in
      seen_sectors (roles g v d) (v d) y ∙ e ∙ sym (seen_sectors (roles g w d) (w d) y)
