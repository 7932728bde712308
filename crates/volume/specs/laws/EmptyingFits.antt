-- Emptyings find room: each new log fits in a blank spare. The stores that follow, carried to where the logs lie by then, find what room they ask for, if the
-- roles seen by then have it.
use Rattle.std.specs.Prelude.{◌≡◌, refl, ◌≢◌, ◌⊎◌, Bool, ◌&&◌, ℕ, zero, suc, ◌+◌, ◌≤◌, ◌<◌, length}
use Rattle.std.proofs.Common.{sym, ap, ◌∙◌, inl, inr, le_refl, length-append, ne_eqb, eqb-true}
use Rattle.std.proofs.Math.Bool.{true, false}
use Rattle.std.proofs.Math.Decide.{ℕ_discrete, dec_lt}
use native.Mathlib.Omega.{arith}
use mathlib.Core.List.{List, [], ◌∷◌, ◌++◌, map}
use Rattle.std.proofs.Math.Dec.{eqb}
use Rattle.tables.specs.declared.Geometry.{Geometry}
use Rattle.tables.specs.meaning.Basics.{pick}
use Rattle.tables.specs.laws.Basics.{and_split, not_both, eqb_same}
use Rattle.tables.specs.meaning.Below.{each_below}
use Rattle.tables.specs.meaning.Geometry.{physical_zones}
use Rattle.tables.specs.meaning.Device.{ZoneView, Device, Store, append, reset, flush, store_drive, appended, blank_zone, flushed, apply, apply_all}
use Rattle.tables.specs.meaning.Phases.{on_present, flush_all}
use Rattle.tables.specs.meaning.Through.{through, carry}
use Rattle.tables.specs.laws.Through.{OneToOne, through_apply}
use Rattle.tables.specs.laws.Made.{AllPlaced, Fits, FitsAll}
use Rattle.tables.specs.laws.TablesRefine.{all_placed_append}
use Rattle.tables.specs.laws.StoresFit.{AllOn, on_present_on, on_append, placed_present, placed_flushes, fits_append}
use Rattle.tables.specs.laws.AppendCounts.{appends_to, fits_by_count, appends_append, appends_present, appends_flushes, appends_one}
use Rattle.volume.specs.meaning.Calls.{append_all}
use Rattle.volume.specs.meaning.Roles.{Roles, roles, zone_of_role, zone_of_kind, placed_by, emptied_roles, roles_after}
use Rattle.volume.specs.meaning.Emptying.{emptying_stores, emptyings}
use Rattle.volume.specs.laws.LogPlaces.{roles_proper}
use Rattle.volume.specs.laws.Firm.{Proper, proper_apart, role_one_to_one}
use Rattle.volume.specs.laws.CallAppends.{appends_all}
use Rattle.volume.specs.laws.PlacedStores.{AllLong, placed_appends}
use Rattle.volume.specs.laws.EmptyingStored.{emptyings_there, emptyings_else}

-- ---- the roles of any drive, and those after emptyings, are three zones
pub roles_firm : (g : Geometry) (v : Device) (d : ℕ) → Proper (roles g v d)
roles_firm g v d =
    let p = roles_proper g v d in
    record { general_lt = p.general_lt; parity_lt = p.parity_lt; apart = less (dec_lt (roles g v d).general (roles g v d).parity) p.apart; sum = let n = p.apart in omega (arith, p.general_lt, p.parity_lt, n, p.spare_is) }
  where
    less : Dec ((roles g v d).general < (roles g v d).parity) → (roles g v d).general ≢ (roles g v d).parity → ((roles g v d).general < (roles g v d).parity) ⊎ ((roles g v d).parity < (roles g v d).general)
    less (yes l) n = inl l
    less (no l) n = inr (omega (arith, n))

less_or_more : (x y : ℕ) → x ≢ y → (x < y) ⊎ (y < x)
less_or_more x y n = go (dec_lt x y)
  where
    go : Dec (x < y) → (x < y) ⊎ (y < x)
    go (yes l) = inl l
    go (no l) = inr (omega (arith, n))

pub emptied_firm : (par : Bool) (r : Roles) → Proper r → Proper (emptied_roles par r)
emptied_firm false r p = let (a, b, c, l) = proper_apart r p in record { general_lt = l; parity_lt = p.parity_lt; apart = less_or_more r.spare r.parity (λ e. c (sym e)); sum = omega (arith, p.sum) }
emptied_firm true r p = let (a, b, c, l) = proper_apart r p in record { general_lt = p.general_lt; parity_lt = l; apart = less_or_more r.general r.spare b; sum = omega (arith, p.sum) }

pub after_firm : (par : Bool) (emptied : ℕ → Bool) (r : ℕ → Roles) (d : ℕ) → Proper (r d) → Proper (roles_after par emptied r d)
after_firm par emptied r d p = go (emptied d)
  where
    go : (b : Bool) → Proper (pick b (emptied_roles par (r d)) (r d))
    go true = emptied_firm par (r d) p
    go false = p

pub role_below : (r : Roles) (y n : ℕ) → Proper r → 3 ≤ n → y < n → zone_of_role r y < n
role_below r zero n p l h = omega (arith, p.general_lt, l)
role_below r (suc zero) n p l h = omega (arith, p.parity_lt, l)
role_below r (suc (suc zero)) n p l h = let (a, b, c, k) = proper_apart r p in omega (arith, k, l)
role_below r (suc (suc (suc y))) n p l h = h

kind_spare : (par : Bool) (r : Roles) → Proper r → (zone_of_kind par r ≢ r.spare) × (zone_of_kind par r < 3) × (r.spare < 3)
kind_spare true r p = let (a, b, c, l) = proper_apart r p in (c, p.parity_lt, l)
kind_spare false r p = let (a, b, c, l) = proper_apart r p in (b, p.general_lt, l)

kind_after : (par : Bool) (r : Roles) → zone_of_kind par (emptied_roles par r) ≡ r.spare
kind_after true r = refl
kind_after false r = refl

-- ---- carried stores fit where the stores fit what is seen
pub fits_carried : (g : Geometry) (ρ : ℕ → ℕ → ℕ) (xs : List Store) (u : Device) → ((d : ℕ) → OneToOne (ρ d)) → ((d y : ℕ) → y < physical_zones g → ρ d y < physical_zones g) → FitsAll g xs (through ρ u) → FitsAll g (map (carry ρ) xs) u
fits_carried g ρ [] u i b f = tt
fits_carried g ρ (x ∷ xs) u i b f = (one x f.0, fits_carried g ρ xs (apply (carry ρ x) u) i b (rw (through_apply ρ x u (i (store_drive x))) f.1))
  where
    one : (x : Store) → Fits g x (through ρ u) → Fits g (carry ρ x) u
    one (append d y s) p = (p.0, b d y p.1, p.2, p.3)
    one (reset d y) p = (p.0, b d y p.1)
    one (flush d) p = p

-- stores that fit leave no zone longer than C
pub fits_short : (g : Geometry) (xs : List Store) (v : Device) (d y : ℕ) → FitsAll g xs v → length (v d y).sectors ≤ g.capacity → length (apply_all xs v d y).sectors ≤ g.capacity
fits_short g [] v d y f h = h
fits_short g (x ∷ xs) v d y f h = fits_short g xs (apply x v) d y f.1 (one x f.0)
  where
    appends : (b : Bool) (s : List ℕ) (a : ZoneView) → length a.sectors < g.capacity → length (pick b (appended s a) (v d y)).sectors ≤ g.capacity
    appends true s a l = rw (length-append a.sectors (s ∷ [])) (omega (arith, l))
    appends false s a l = h

    resets : (b : Bool) → length (pick b blank_zone (v d y)).sectors ≤ g.capacity
    resets true = omega arith
    resets false = h

    flushes : (b : Bool) → length (pick b (flushed (v d y)) (v d y)).sectors ≤ g.capacity
    flushes true = h
    flushes false = h

    one : (x : Store) → Fits g x v → length (apply x v d y).sectors ≤ g.capacity
    one (append e z s) p = appends (eqb d e && eqb y z) s (v e z) p.3
    one (reset e z) p = resets (eqb d e && eqb y z)
    one (flush e) p = flushes (eqb d e)

-- ---- one emptying: its appends go to the spare
module _ (g : Geometry) (present : ℕ → Bool) (d old spare : ℕ) (ss : List (List ℕ)) where
  abbrev flushes : List Store
  flushes = on_present present (flush_all g.drives)

  abbrev end : List Store
  end = flushes ++ (reset d old ∷ [])

  emptying_appends : (e y : ℕ) → appends_to e y (emptying_stores g present d old spare ss) ≡ pick (eqb e d && eqb y spare) (length ss) 0
  unfolding emptying_stores
  emptying_appends e y =
      let none : appends_to e y flushes ≡ 0 = omega (arith, appends_present present e y (flush_all g.drives), appends_flushes e y g.drives) in
      omega (arith, none, appends_append e y flushes (append_all d spare ss ++ end), appends_append e y (append_all d spare ss) end, appends_append e y flushes (reset d old ∷ []), appends_all e y d spare ss)

  pub emptying_placed : d < g.drives → old < physical_zones g → spare < physical_zones g → AllLong g.sector ss → AllPlaced g (emptying_stores g present d old spare ss)
  unfolding emptying_stores
  emptying_placed hd ho hs long =
      let f : AllPlaced g flushes = placed_present g present (flush_all g.drives) (placed_flushes g g.drives (le_refl g.drives)) in
      all_placed_append g flushes (append_all d spare ss ++ end) f (all_placed_append g (append_all d spare ss) end (placed_appends g d spare ss hd hs long) (all_placed_append g flushes (reset d old ∷ []) f ((hd, ho), tt)))

  pub emptying_on : present d ≡ true → AllOn present (emptying_stores g present d old spare ss)
  unfolding emptying_stores
  emptying_on p =
      let f = on_present_on present (flush_all g.drives) in
      on_append present flushes (append_all d spare ss ++ end) f (on_append present (append_all d spare ss) end (all ss) (on_append present flushes (reset d old ∷ []) f (p, tt)))
    where
      all : (ts : List (List ℕ)) → AllOn present (append_all d spare ts)
      all [] = tt
      all (t ∷ ts) = (p, all ts)

-- ---- all of them (v: the device that they meet; ss: of each drive the new log's sectors)
module _ (g : Geometry) (present : ℕ → Bool) (par : Bool) (r : ℕ → Roles) (emptied : ℕ → Bool) (ss : ℕ → List (List ℕ)) where
  abbrev one : ℕ → List Store
  one d = emptying_stores g present d (zone_of_kind par (r d)) (r d).spare (ss d)

  abbrev all : List Store
  all = emptyings g present par r emptied ss

  pub emptyings_append : (d y : ℕ) → appends_to d y all ≤ pick (emptied d && eqb y (r d).spare) (length (ss d)) 0
  unfolding emptyings
  emptyings_append d y = appends_one d y d (λ k. pick (emptied k) (one k) []) g.drives (pick (emptied d && eqb y (r d).spare) (length (ss d)) 0) (λ k l. go k (ℕ_discrete d k))
    where
      own : (b : Bool) → emptied d ≡ b → appends_to d y (pick b (one d) []) ≤ pick (b && eqb y (r d).spare) (length (ss d)) 0
      own true e = rw (emptying_appends g present d (zone_of_kind par (r d)) (r d).spare (ss d) d y, eqb_same d) (le_refl _)
      own false e = omega arith

      other : (k : ℕ) (b : Bool) → d ≢ k → appends_to d y (pick b (one k) []) ≤ 0
      other k true n = rw (emptying_appends g present k (zone_of_kind par (r k)) (r k).spare (ss k) d y, ne_eqb d k n) (omega arith)
      other k false n = omega arith

      go : (k : ℕ) → Dec (d ≡ k) → appends_to d y (pick (emptied k) (one k) []) ≤ pick (eqb d k) (pick (emptied d && eqb y (r d).spare) (length (ss d)) 0) 0
      go k (yes e) = rw (← e, eqb_same d) (own (emptied d) refl)
      go k (no n) = rw (ne_eqb d k n) (other k (emptied k) n)

  pub emptyings_placed : ((d : ℕ) → Proper (r d)) → ((d : ℕ) → emptied d ≡ true → AllLong g.sector (ss d)) → AllPlaced g all
  unfolding emptyings
  emptyings_placed proper long = go g.drives (le_refl g.drives)
    where
      at : (d : ℕ) → d < g.drives → (b : Bool) → emptied d ≡ b → AllPlaced g (pick b (one d) [])
      at d hd true e = let (n, o, s) = kind_spare par (r d) (proper d) in emptying_placed g present d (zone_of_kind par (r d)) (r d).spare (ss d) hd (omega (arith, o)) (omega (arith, s)) (long d e)
      at d hd false e = tt

      go : (n : ℕ) → n ≤ g.drives → AllPlaced g (each_below (λ d. pick (emptied d) (one d) []) n)
      go zero l = tt
      go (suc n) l = all_placed_append g (each_below (λ d. pick (emptied d) (one d) []) n) (pick (emptied n) (one n) []) (go n (omega (arith, l))) (at n l (emptied n) refl)

  pub emptyings_on : ((d : ℕ) → emptied d ≡ true → present d ≡ true) → AllOn present all
  unfolding emptyings
  emptyings_on there = go g.drives
    where
      at : (d : ℕ) (b : Bool) → emptied d ≡ b → AllOn present (pick b (one d) [])
      at d true e = emptying_on g present d (zone_of_kind par (r d)) (r d).spare (ss d) (there d e)
      at d false e = tt

      go : (n : ℕ) → AllOn present (each_below (λ d. pick (emptied d) (one d) []) n)
      go zero = tt
      go (suc n) = on_append present (each_below (λ d. pick (emptied d) (one d) []) n) (pick (emptied n) (one n) []) (go n) (at n (emptied n) refl)

  -- limit: the room that the call asks for in its logs
  module _ (limit : ℕ) (v : Device) (proper : (d : ℕ) → Proper (r d)) (there : (d : ℕ) → emptied d ≡ true → (present d ≡ true) × (d < g.drives)) (long : (d : ℕ) → emptied d ≡ true → AllLong g.sector (ss d))
      (blank : (d : ℕ) → emptied d ≡ true → length (v d (r d).spare).sectors ≡ 0) (fits : (d : ℕ) → emptied d ≡ true → length (ss d) + limit ≤ g.capacity)
      (short : (d y : ℕ) → present d ≡ true → y < physical_zones g → length (v d y).sectors ≤ g.capacity) where
    -- THE EMPTYINGS FIT
    pub emptyings_fit : FitsAll g all v
    emptyings_fit = fits_by_count g present all v (emptyings_placed proper long) (emptyings_on (λ d e. (there d e).0)) (λ d y hd hy. room d y hd hy (emptied d && eqb y (r d).spare) refl)
      where
        room : (d y : ℕ) → present d ≡ true → y < physical_zones g → (b : Bool) → emptied d && eqb y (r d).spare ≡ b → length (v d y).sectors + appends_to d y all ≤ g.capacity
        room d y hd hy true q =
            let (e, i) = and_split (emptied d) (eqb y (r d).spare) q in
            let n : appends_to d y all ≤ length (ss d) = rw q at (emptyings_append d y) in
            let z : length (v d y).sectors ≡ 0 = ap (λ (x : ℕ). length (v d x).sectors) (eqb-true y (r d).spare i) ∙ blank d e in
            omega (arith, n, z, fits d e)
        room d y hd hy false q = let n : appends_to d y all ≤ 0 = rw q at (emptyings_append d y) in omega (arith, n, short d y hd hy)

    abbrev after : Device
    after = apply_all all v

    -- no zone is longer than C by then, and a log has the limit's room where the old one had it
    pub after_short : (d y : ℕ) → present d ≡ true → y < physical_zones g → length (after d y).sectors ≤ g.capacity
    after_short d y hd hy = fits_short g all v d y emptyings_fit (short d y hd hy)

    pub after_room : (d : ℕ) → (emptied d ≡ false → length (v d (zone_of_kind par (r d))).sectors + limit ≤ g.capacity) → length (after d (zone_of_kind par (roles_after par emptied r d))).sectors + limit ≤ g.capacity
    after_room d kept = go (emptied d) refl
      where
        go : (b : Bool) → emptied d ≡ b → length (after d (zone_of_kind par (pick b (emptied_roles par (r d)) (r d)))).sectors + limit ≤ g.capacity
        go true e =
            let here = emptyings_there g present par r emptied ss v d (there d e).1 e (kind_spare par (r d) (proper d)).0 in
            let n : length (after d (r d).spare).sectors ≡ length (v d (r d).spare).sectors + length (ss d) = ap (λ (t : List (List ℕ)). length t) here ∙ length-append (v d (r d).spare).sectors (ss d) in
            rw (kind_after par (r d)) (omega (arith, n, blank d e, fits d e))
        go false e =
            let same = ap (λ (t : List (List ℕ)). length t) (emptyings_else g present par r emptied ss v d (zone_of_kind par (r d)) (λ q. not_both (emptied d) q e)) in
            omega (arith, same, kept e)

    -- THE CALL'S OWN STORES, carried, after them
    pub carried_fit : (xs : List Store) → FitsAll g xs (through (placed_by (roles_after par emptied r)) after) → FitsAll g (all ++ map (carry (placed_by (roles_after par emptied r))) xs) v
    carried_fit xs f =
        let ρ = placed_by (roles_after par emptied r) in
        fits_append g all (map (carry ρ) xs) v emptyings_fit (fits_carried g ρ xs after (λ d. role_one_to_one (roles_after par emptied r d) (after_firm par emptied r d (proper d)))
        (λ d y h. role_below (roles_after par emptied r d) y (physical_zones g) (after_firm par emptied r d (proper d)) (omega arith) h) f)
