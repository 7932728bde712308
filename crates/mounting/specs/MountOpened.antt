-- Steps 1 and 2 of a mount as the code makes them, by the geometries that place the logs before and after: they are the stores of the rules.
use Rattle.std.specs.Prelude.{◌≡◌, refl, Bool, true, get_or}
use Rattle.std.proofs.Common.{sym, ap₂, ◌∙◌, le_refl, arith}
use Rattle.std.proofs.Math.Path.{ap, subst}
use Rattle.std.proofs.Math.Bool.{false}
use Prim.Native.Nat.{ℕ, zero, suc, ◌≤◌, ◌<◌}
use mathlib.Core.List.{List, [], ◌∷◌, ◌++◌, map}
use Rattle.tables.specs.declared.Geometry.{Geometry}
use Rattle.tables.specs.meaning.Basics.{pick}
use Rattle.tables.specs.meaning.Below.{each_below}
use Rattle.tables.specs.meaning.Lists.{concat}
use Rattle.tables.specs.meaning.Device.{Device, Store, reset}
use Rattle.tables.specs.meaning.Phases.{flush_all, on_present}
use Rattle.tables.specs.meaning.Through.{carry}
use Rattle.tables.specs.meaning.Tables.{Tables, device_of}
use Rattle.tables.specs.laws.Through.{carry_on_present}
use Rattle.tables.specs.laws.Lists.{concat_append}
use Rattle.tables.specs.laws.Made.{Made}
use Rattle.tables.specs.laws.Counted.{made_append, run_none}
use Rattle.logs.specs.meaning.Entry.{spare_zone, kind_of_log, Header, encode}
use Rattle.volume.specs.declared.emptyings.Emptyings.{Emptyings}
use Rattle.volume.specs.meaning.CallContracts.{is_set, roles_of, seen_in}
use Rattle.volume.specs.meaning.Rules.{showing, general_heads}
use Rattle.volume.specs.meaning.Roles.{Roles, claim_of_kind, placed_by, roles_after}
use Rattle.volume.specs.meaning.Emptying.{InForce, by_look, mount_general_limit, emptied_for, closing_sector, new_general, emptying_stores, empty_general, spare_written}
use Rattle.volume.specs.meaning.Mount.{spare_step, with_flush, phases_of_logs}
use Rattle.volume.specs.laws.LogPlaces.{with_roles, logs_of, Proper, OnDrives, roles_after_proper}
use Rattle.volume.specs.laws.EmptyingUnread.{emptying_stores_alike}
use Rattle.volume.specs.looking.Knowing.{read_device}
use Rattle.volume.specs.emptying.Shape.{SameShape, relaid_shape}
use Rattle.volume.specs.emptying.Emptyings.{emptying_of, emptied_on, new_general_on}
use Rattle.volume.specs.emptying.EmptyingStores.{with_closing}
use Rattle.volume.specs.emptying.GeneralCopies.{by_generations}
use Rattle.volume.specs.emptying.SameCopies.{general_new, general_by_lem}
use Rattle.volume.specs.emptying.Carried.{emptied_by, carry_emptyings, on_drives_append, on_drives_present, on_drives_emptyings, made_by_roles}
use Rattle.volume.specs.laws.EachBelow.{each_below_cong}
use Rattle.mounting.specs.MountOpening.{opening_phases}
use Rattle.volume.specs.looking.MovedLogs.{is_emptied, new_generation}

-- a budget that is spent makes nothing
pub made_spent : (g : Geometry) (ss : List Store) (t : Tables) → Made g 0 0 ss t t
made_spent g ss t = record { rest_is = omega arith; tables_are = sym (run_none g ss t) }

-- ---- the first flush and the two steps, one after the other (e: the drives whose general log lacks room)
module _ (g : Geometry) (a : ℕ → Bool) (x : ℕ) (t : Tables) (e : ℕ → Bool) (q : e ≡ emptied_for g a false (roles_of g t) (seen_in g t) (mount_general_limit g)) where
  abbrev pub opening_flush : List Store
  opening_flush = on_present a (flush_all g.drives)

  abbrev pub opening_spares : List Store
  opening_spares = map (carry (placed_by (roles_of g t))) (spare_step g (seen_in g t))

  abbrev pub opening_general : List Store
  opening_general = empty_general g a (roles_of g t) (by_look (showing g a x (seen_in g t))) e (seen_in g t)

  pub opening_stores : concat (phases_of_logs g a x (device_of g t)) ≡ opening_flush ++ (concat (with_flush g a opening_spares) ++ concat (with_flush g a opening_general))
  opening_stores = ap concat (opening_phases g a (device_of g t) x e q) ∙ ap (λ (l : List Store). opening_flush ++ l) (concat_append (with_flush g a opening_spares) (with_flush g a opening_general))

  pub opening_joined : (budget n1 n2 n3 : ℕ) (t1 t2 t3 : Tables) → Made g budget n1 opening_flush t t1 → Made g n1 n2 (concat (with_flush g a opening_spares)) t1 t2 → Made g n2 n3 (concat (with_flush g a opening_general)) t2 t3
      → Made g budget n3 (concat (phases_of_logs g a x (device_of g t))) t t3
  opening_joined budget n1 n2 n3 t1 t2 t3 p1 p2 p3 =
      subst (λ (ss : List Store). Made g budget n3 ss t t3) (sym opening_stores)
      (made_append g budget n1 n3 opening_flush (concat (with_flush g a opening_spares) ++ concat (with_flush g a opening_general)) t t1 t3 p1
      (made_append g n1 n2 n3 (concat (with_flush g a opening_spares)) (concat (with_flush g a opening_general)) t1 t2 t3 p2 p3))

  -- where the budget ends with step 1
  pub opening_stopped : (budget n1 : ℕ) (t1 t2 : Tables) → Made g budget n1 opening_flush t t1 → Made g n1 0 (concat (with_flush g a opening_spares)) t1 t2 → Made g budget 0 (concat (phases_of_logs g a x (device_of g t))) t t2
  opening_stopped budget n1 t1 t2 p1 p2 = opening_joined budget n1 0 0 t1 t2 t2 p1 p2 (made_spent g (concat (with_flush g a opening_general)) t2)

-- ---- step 1, made by the geometry of the roles r
spares_below : (g : Geometry) (b : ℕ → Bool) (n : ℕ) → n ≤ g.drives → OnDrives g (each_below (λ d. pick (b d) (reset d spare_zone ∷ []) []) n)
spares_below g b zero h = tt
spares_below g b (suc n) h = on_drives_append g (each_below (λ d. pick (b d) (reset d spare_zone ∷ []) []) n) (pick (b n) (reset n spare_zone ∷ []) []) (spares_below g b n (omega arith)) (go (b n))
  where
    go : (c : Bool) → OnDrives g (pick c (reset n spare_zone ∷ []) [])
    go true = (h, tt)
    go false = tt

spares_on_drives : (g : Geometry) (w : Device) → OnDrives g (spare_step g w)
unfolding spare_step
spares_on_drives g w = spares_below g (spare_written w) g.drives (le_refl g.drives)

module _ (g : Geometry) (first : g.logs ≡ 0) (a : ℕ → Bool) (r : ℕ → Roles) (proper : (d : ℕ) → Proper (r d)) where
  pub spares_made : (budget rest : ℕ) (w : Device) (t u : Tables) → Made (with_roles g r) budget rest (on_present a (spare_step g w)) t u → Made g budget rest (on_present a (map (carry (placed_by r)) (spare_step g w))) t u
  spares_made budget rest w t u m =
      subst (λ (ss : List Store). Made g budget rest ss t u) (carry_on_present (placed_by r) a (spare_step g w))
      (made_by_roles g first r proper budget rest (on_present a (spare_step g w)) t u (on_drives_present g a (spare_step g w) (spares_on_drives g w)) m)

  -- ---- step 2: the general logs of the drives e, whose new generations are one above the old ones
  module _ (all : Emptyings) (from_is : all.from ≡ with_roles g r) (here_is : is_set all.here ≡ a) (to_is : all.to ≡ with_roles g (roles_after false (is_emptied all.emptied) r)) where
    abbrev e : ℕ → Bool
    e = is_emptied all.emptied

    same_from : SameShape g all.from
    same_from = rw from_is (relaid_shape g (logs_of r g.drives))

    new_general_by : (f k : InForce) (x : Roles) (d : ℕ) (hs : List Header) → ((z : ℕ) → z < g.zones → f.generation z ≡ k.generation z) → new_general g f x d hs ≡ new_general g k x d hs
    unfolding new_general
    new_general_by f k x d hs q = ap (λ (l : List Header). map (encode g d) l ++ (closing_sector g false d x ∷ [])) (general_by_lem g f k hs q)

    module _ (gs xs ps : List ℕ) (f : InForce) (w : Device) (heads : (d : ℕ) → d < g.drives → is_emptied all.emptied d ≡ true → general_heads all.from (read_device all.from xs ps) d ≡ general_heads g w d)
        (force : (z : ℕ) → z < g.zones → get_or gs z 0 ≡ f.generation z) (claims : (d : ℕ) → is_emptied all.emptied d ≡ true → new_generation all.emptied d ≡ claim_of_kind false (r d)) where
      one_general : (d : ℕ) → d < g.drives → (b : Bool) → is_emptied all.emptied d ≡ b
          → pick b (emptying_stores all.from (is_set all.here) d spare_zone (kind_of_log false) (with_closing (emptying_of all d) false (new_general_on all gs xs ps d))) [] ≡ pick b (emptying_stores g a d spare_zone (kind_of_log false) (new_general g f (r d) d (general_heads g w d))) []
      one_general d hd true q =
          let hs = general_heads all.from (read_device all.from xs ps) d in
          let new : with_closing (emptying_of all d) false (new_general_on all gs xs ps d) ≡ new_general g f (r d) d (general_heads g w d) =
          general_new g (emptying_of all d) same_from (r d) (by_generations gs) hs (sym (claims d q)) ∙ new_general_by (by_generations gs) f (r d) d hs force ∙ ap (new_general g f (r d) d) (heads d hd q) in
          ap₂ (λ (h : Geometry) (b : ℕ → Bool). emptying_stores h b d spare_zone (kind_of_log false) (with_closing (emptying_of all d) false (new_general_on all gs xs ps d))) from_is here_is
          ∙ emptying_stores_alike g (logs_of r g.drives) a d spare_zone (kind_of_log false) (with_closing (emptying_of all d) false (new_general_on all gs xs ps d))
          ∙ ap (emptying_stores g a d spare_zone (kind_of_log false)) new
      one_general d hd false q = refl

      pub general_made : (budget rest : ℕ) (t u : Tables) → Made all.to budget rest (each_below (λ d. emptied_on all false (new_general_on all gs xs ps d) d) all.from.drives) t u → Made g budget rest (empty_general g a r f (is_emptied all.emptied) w) t u
      unfolding empty_general
      general_made budget rest t u m =
          let r' = roles_after false (is_emptied all.emptied) r in
          let ss : ℕ → List (List ℕ) = λ d. new_general g f (r d) d (general_heads g w d) in
          let n : all.from.drives ≡ g.drives = ap (λ (h : Geometry). h.drives) from_is in
          let same : each_below (λ d. emptied_on all false (new_general_on all gs xs ps d) d) all.from.drives ≡ emptied_by g a false (is_emptied all.emptied) ss g.drives =
          ap (each_below (λ d. emptied_on all false (new_general_on all gs xs ps d) d)) n ∙ each_below_cong _ _ g.drives (λ d hd. one_general d hd (is_emptied all.emptied d) refl) in
          let m' : Made (with_roles g r') budget rest (emptied_by g a false (is_emptied all.emptied) ss g.drives) t u = subst (λ (h : Geometry). Made h budget rest (emptied_by g a false (is_emptied all.emptied) ss g.drives) t u) to_is (subst (λ (l : List Store). Made all.to budget rest l t u) same m) in
          subst (λ (l : List Store). Made g budget rest l t u) (carry_emptyings g a false r (is_emptied all.emptied) ss)
          (made_by_roles g first r' (roles_after_proper false (is_emptied all.emptied) r proper) budget rest (emptied_by g a false (is_emptied all.emptied) ss g.drives) t u (on_drives_emptyings g a false (is_emptied all.emptied) ss g.drives (le_refl g.drives)) m')
