-- The stores of emptyings and of the call that follows, made where the logs lie afterwards, are those of the rules: carried by the roles after the emptyings.
use Rattle.std.specs.Prelude.{◌≡◌, refl, Bool, true, false, ℕ, zero, suc, ◌-◌, ◌≤◌, ◌<◌, length}
use Rattle.std.proofs.Common.{sym, ◌∙◌, le_refl, arith}
use Rattle.std.proofs.Math.Path.{ap, ap₂}
use mathlib.Core.List.{List, [], ◌∷◌, ◌++◌, map}
use Rattle.tables.specs.declared.Geometry.{Geometry}
use Rattle.tables.specs.meaning.Basics.{pick}
use Rattle.tables.specs.meaning.Below.{each_below}
use Rattle.tables.specs.meaning.Device.{Store, append, reset, flush, store_drive}
use Rattle.tables.specs.meaning.Phases.{flush_all, on_present}
use Rattle.tables.specs.meaning.Through.{carry}
use Rattle.tables.specs.meaning.Tables.{Tables}
use Rattle.tables.specs.laws.Through.{carry_on_present, carry_flush_all}
use Rattle.tables.specs.laws.Lists.{map_append}
use Rattle.tables.specs.laws.Made.{Made}
use Rattle.logs.specs.meaning.Entry.{spare_zone, kind_of_log}
use Rattle.volume.specs.meaning.Calls.{append_all}
use Rattle.volume.specs.meaning.Roles.{Roles, zone_of_kind, zone_of_role, placed_by, roles_after, emptied_roles}
use Rattle.volume.specs.meaning.Emptying.{emptying_stores, emptyings}
use Rattle.volume.specs.laws.LogPlaces.{with_logs, with_roles, logs_of, Proper, OnDrives, CellsAt, run_at, cells_at}

-- ---- carried
module _ (ρ : ℕ → ℕ → ℕ) where
  carry_appends : (d y : ℕ) (ss : List (List ℕ)) → map (carry ρ) (append_all d y ss) ≡ append_all d (ρ d y) ss
  carry_appends d y [] = refl
  carry_appends d y (s ∷ ss) = ap (λ (l : List Store). append d (ρ d y) s ∷ l) (carry_appends d y ss)

  carry_flushes : (present : ℕ → Bool) (n : ℕ) → map (carry ρ) (on_present present (flush_all n)) ≡ on_present present (flush_all n)
  carry_flushes present n = carry_on_present ρ present (flush_all n) ∙ ap (on_present present) (carry_flush_all ρ n)

  carry_emptying : (g : Geometry) (present : ℕ → Bool) (d old spare : ℕ) (ss : List (List ℕ)) → map (carry ρ) (emptying_stores g present d old spare ss) ≡ emptying_stores g present d (ρ d old) (ρ d spare) ss
  unfolding emptying_stores
  carry_emptying g present d old spare ss =
      let flushes = on_present present (flush_all g.drives) in
      let last : List Store = reset d old ∷ [] in
      map_append (carry ρ) flushes (append_all d spare ss ++ (flushes ++ last))
      ∙ ap₂ (λ (x y : List Store). x ++ y) (carry_flushes present g.drives)
      (map_append (carry ρ) (append_all d spare ss) (flushes ++ last) ∙ ap₂ (λ (x y : List Store). x ++ y) (carry_appends d spare ss)
      (map_append (carry ρ) flushes last ∙ ap (λ (x : List Store). x ++ (reset d (ρ d old) ∷ [])) (carry_flushes present g.drives)))

-- of the drives below n, by the roles afterwards
abbrev pub emptied_by : Geometry → (ℕ → Bool) → Bool → (ℕ → Bool) → (ℕ → List (List ℕ)) → ℕ → List Store
emptied_by g present par e ss n = each_below (λ d. pick (e d) (emptying_stores g present d spare_zone (kind_of_log par) (ss d)) []) n

module _ (g : Geometry) (present : ℕ → Bool) (par : Bool) (r : ℕ → Roles) (e : ℕ → Bool) (ss : ℕ → List (List ℕ)) where
  abbrev ρ : ℕ → ℕ → ℕ
  ρ = placed_by (roles_after par e r)

  old_place : (d : ℕ) → e d ≡ true → ρ d spare_zone ≡ zone_of_kind par (r d)
  old_place d h = rw h (go par)
    where
      go : (p : Bool) → zone_of_role (emptied_roles p (r d)) spare_zone ≡ zone_of_kind p (r d)
      go true = refl
      go false = refl

  pub new_place : (d : ℕ) → e d ≡ true → ρ d (kind_of_log par) ≡ (r d).spare
  new_place d h = rw h (go par)
    where
      go : (p : Bool) → zone_of_role (emptied_roles p (r d)) (kind_of_log p) ≡ (r d).spare
      go true = refl
      go false = refl

  one : (d : ℕ) (b : Bool) → e d ≡ b → map (carry ρ) (pick b (emptying_stores g present d spare_zone (kind_of_log par) (ss d)) []) ≡ pick b (emptying_stores g present d (zone_of_kind par (r d)) (r d).spare (ss d)) []
  one d true h = carry_emptying ρ g present d spare_zone (kind_of_log par) (ss d) ∙ ap₂ (λ (x y : ℕ). emptying_stores g present d x y (ss d)) (old_place d h) (new_place d h)
  one d false h = refl

  all_below_lem : (n : ℕ) → map (carry ρ) (emptied_by g present par e ss n) ≡ each_below (λ d. pick (e d) (emptying_stores g present d (zone_of_kind par (r d)) (r d).spare (ss d)) []) n
  all_below_lem zero = refl
  all_below_lem (suc n) = map_append (carry ρ) (emptied_by g present par e ss n) (pick (e n) (emptying_stores g present n spare_zone (kind_of_log par) (ss n)) []) ∙ ap₂ (λ (x y : List Store). x ++ y) (all_below_lem n) (one n (e n) refl)

  pub carry_emptyings : map (carry ρ) (emptied_by g present par e ss g.drives) ≡ emptyings g present par r e ss
  unfolding emptyings
  carry_emptyings = all_below_lem g.drives

-- ---- every store is on a drive of the geometry
module _ (g : Geometry) where
  pub on_drives_append : (xs ys : List Store) → OnDrives g xs → OnDrives g ys → OnDrives g (xs ++ ys)
  on_drives_append [] ys p q = q
  on_drives_append (x ∷ xs) ys p q = (p.0, on_drives_append xs ys p.1 q)

  pub on_drives_present : (present : ℕ → Bool) (xs : List Store) → OnDrives g xs → OnDrives g (on_present present xs)
  on_drives_present present [] p = tt
  on_drives_present present (x ∷ xs) p = go (present (store_drive x)) (on_drives_present present xs p.1)
    where
      go : (b : Bool) → OnDrives g (on_present present xs) → OnDrives g (pick b (x ∷ on_present present xs) (on_present present xs))
      go true q = (p.0, q)
      go false q = q

  pub on_drives_flushes : (n : ℕ) → n ≤ g.drives → OnDrives g (flush_all n)
  on_drives_flushes zero h = tt
  on_drives_flushes (suc n) h = on_drives_append (flush_all n) (flush n ∷ []) (on_drives_flushes n (omega arith)) (h, tt)

  on_drives_appends : (d y : ℕ) (ss : List (List ℕ)) → d < g.drives → OnDrives g (append_all d y ss)
  on_drives_appends d y [] h = tt
  on_drives_appends d y (s ∷ ss) h = (h, on_drives_appends d y ss h)

  on_drives_emptying : (present : ℕ → Bool) (d old spare : ℕ) (ss : List (List ℕ)) → d < g.drives → OnDrives g (emptying_stores g present d old spare ss)
  unfolding emptying_stores
  on_drives_emptying present d old spare ss h =
      let flushes = on_present present (flush_all g.drives) in
      let f : OnDrives g flushes = on_drives_present present (flush_all g.drives) (on_drives_flushes g.drives (le_refl g.drives)) in
      let last : List Store = reset d old ∷ [] in
      on_drives_append flushes (append_all d spare ss ++ (flushes ++ last)) f (on_drives_append (append_all d spare ss) (flushes ++ last) (on_drives_appends d spare ss h) (on_drives_append flushes last f (h, tt)))

  pub on_drives_emptyings : (present : ℕ → Bool) (par : Bool) (e : ℕ → Bool) (ss : ℕ → List (List ℕ)) (n : ℕ) → n ≤ g.drives → OnDrives g (emptied_by g present par e ss n)
  on_drives_emptyings present par e ss zero h = tt
  on_drives_emptyings present par e ss (suc n) h = on_drives_append (emptied_by g present par e ss n) (pick (e n) (emptying_stores g present n spare_zone (kind_of_log par) (ss n)) []) (on_drives_emptyings present par e ss n (omega arith)) (go (e n))
    where
      go : (b : Bool) → OnDrives g (pick b (emptying_stores g present n spare_zone (kind_of_log par) (ss n)) [])
      go true = on_drives_emptying present n spare_zone (kind_of_log par) (ss n) h
      go false = tt

-- ---- what was made by the geometry of these roles was made of the carried stores
length_carried : (ρ : ℕ → ℕ → ℕ) (xs : List Store) → length (map (carry ρ) xs) ≡ length xs
length_carried ρ [] = refl
length_carried ρ (x ∷ xs) = ap suc (length_carried ρ xs)

pub made_at_lem : (g : Geometry) (n : ℕ) (r : ℕ → Roles) (budget rest : ℕ) (xs : List Store) (t u : Tables) → CellsAt g n r xs → Made (with_logs g n) budget rest xs t u → Made g budget rest (map (carry (placed_by r)) xs) t u
made_at_lem g n r budget rest xs t u h m = record {
  rest_is = m.rest_is ∙ ap (λ (n : ℕ). budget - n) (sym (length_carried (placed_by r) xs));
  tables_are = m.tables_are ∙ run_at g n r (budget - 1) xs t h;
}

pub made_by_roles : (g : Geometry) → g.logs ≡ 0 → (r : ℕ → Roles) → ((d : ℕ) → Proper (r d)) → (budget rest : ℕ) (xs : List Store) (t u : Tables) → OnDrives g xs → Made (with_roles g r) budget rest xs t u → Made g budget rest (map (carry (placed_by r)) xs) t u
made_by_roles g first r proper budget rest xs t u h m = made_at_lem g (logs_of r g.drives) r budget rest xs t u (cells_at g first r proper xs h) m
