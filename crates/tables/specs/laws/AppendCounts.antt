-- How many sectors a list of stores appends to each zone. Stores that have their place fit if no zone gets more sectors than it has left
-- (`fits_by_count`); and where stores fit, none of them vanishes: each append finds its zone's written pointer below C when its turn comes
-- (`none_vanishes`).
use Rattle.std.specs.Prelude.{◌≡◌, refl, Bool, true, false, ◌&&◌, ℕ, zero, suc, ◌+◌, ◌*◌, ◌≤◌, ◌<◌, List, [], ◌∷◌, ◌++◌, length, get_or, eqb}
use Rattle.std.proofs.Common.{sym, ap₂, ◌∙◌, le_refl, mul-le-mul_right, arith, length-append, eq-eqb, ne_eqb, eqb-true}
use Rattle.std.proofs.Math.Decide.{ℕ_discrete}
use Rattle.tables.specs.declared.Geometry.{Geometry}
use Rattle.tables.specs.meaning.Basics.{pick}
use Rattle.tables.specs.laws.Basics.{and_split, eqb_same}
use Rattle.tables.specs.meaning.Below.{each_below}
use Rattle.tables.specs.meaning.Geometry.{physical_zones}
use Rattle.tables.specs.meaning.Device.{ZoneView, Device, Store, append, reset, flush, store_drive, appended, blank_zone, flushed, apply}
use Rattle.tables.specs.meaning.Phases.{on_present, flush_all}
use Rattle.tables.specs.meaning.Tables.{Tables, cell, device_of, make_store}
use Rattle.tables.specs.laws.Made.{WellSized, Placed, AllPlaced, Fits, FitsAll}
use Rattle.tables.specs.laws.TablesRefine.{pointer_room, store_refines, store_sized, fits_placed}
use Rattle.tables.specs.laws.StoresFit.{AllOn}

-- ---- no store vanishes: an append to a full zone would make nothing, yet count
abbrev pub FindsRoom : Geometry → Store → Tables → Type 0
FindsRoom g (append d z s) t = get_or t.written (cell g d z) 0 < g.capacity
FindsRoom g (reset d z) t = Unit {0}
FindsRoom g (flush d) t = Unit {0}

-- each when its turn comes
abbrev pub NoneVanishes : Geometry → List Store → Tables → Type 0
NoneVanishes g [] t = Unit {0}
NoneVanishes g (x ∷ xs) t = FindsRoom g x t × NoneVanishes g xs (make_store g x t)

pub none_vanishes : (g : Geometry) (xs : List Store) (t : Tables) → WellSized g t → FitsAll g xs (device_of g t) → NoneVanishes g xs t
none_vanishes g [] t w f = tt
none_vanishes g (x ∷ xs) t w f = (room x f.0, none_vanishes g xs (make_store g x t) (store_sized g x t w (fits_placed g x (device_of g t) f.0)) (rw (store_refines g x t w f.0) f.1))
  where
    room : (x : Store) → Fits g x (device_of g t) → FindsRoom g x t
    room (append d z s) q = pointer_room g t d z q.0 q.1 q.3
    room (reset d z) q = tt
    room (flush d) q = tt

-- ---- the appends to zone y of drive d
abbrev pub appends_of : ℕ → ℕ → Store → ℕ
appends_of d y (append e z s) = pick (eqb d e && eqb y z) 1 0
appends_of d y (reset e z) = 0
appends_of d y (flush e) = 0

abbrev pub appends_to : ℕ → ℕ → List Store → ℕ
appends_to d y [] = 0
appends_to d y (x ∷ xs) = appends_of d y x + appends_to d y xs

-- a zone grows by no more than that
longer_by : (b : Bool) (s : List ℕ) (u w : ZoneView) → (b ≡ true → u ≡ w) → length (pick b (appended s u) w).sectors ≤ length w.sectors + pick b 1 0
longer_by true s u w h = rw (h refl, length-append w.sectors (s ∷ [])) (le_refl (length w.sectors + 1))
longer_by false s u w h = omega arith

shorter_by : (b : Bool) (w : ZoneView) → length (pick b blank_zone w).sectors ≤ length w.sectors
shorter_by true w = omega arith
shorter_by false w = le_refl (length w.sectors)

as_long : (b : Bool) (w : ZoneView) → length (pick b (flushed w) w).sectors ≤ length w.sectors
as_long true w = le_refl (length w.sectors)
as_long false w = le_refl (length w.sectors)

pub store_grows : (x : Store) (v : Device) (d y : ℕ) → length (apply x v d y).sectors ≤ length (v d y).sectors + appends_of d y x
store_grows (append e z s) v d y = longer_by (eqb d e && eqb y z) s (v e z) (v d y) (λ q. let (a, b) = and_split (eqb d e) (eqb y z) q in ap₂ v (sym (eqb-true d e a)) (sym (eqb-true y z b)))
store_grows (reset e z) v d y = omega (arith, shorter_by (eqb d e && eqb y z) (v d y))
store_grows (flush e) v d y = omega (arith, as_long (eqb d e) (v d y))

-- THE LAW: placed stores on present drives fit if no zone of them gets more sectors than it has left
pub fits_by_count : (g : Geometry) (present : ℕ → Bool) (xs : List Store) (v : Device) → AllPlaced g xs → AllOn present xs
    → ((d y : ℕ) → present d ≡ true → y < physical_zones g → length (v d y).sectors + appends_to d y xs ≤ g.capacity) → FitsAll g xs v
fits_by_count g present [] v p a h = tt
fits_by_count g present (x ∷ xs) v p a h = (one x p.0 a.0 h, fits_by_count g present xs (apply x v) p.1 a.1 (λ d y hd hy. omega (arith, store_grows x v d y, h d y hd hy)))
  where
    one : (x : Store) → Placed g x → present (store_drive x) ≡ true → ((d y : ℕ) → present d ≡ true → y < physical_zones g → length (v d y).sectors + (appends_of d y x + appends_to d y xs) ≤ g.capacity) → Fits g x v
    one (append d z s) p a k =
        let e : ◌≡◌ {A = ℕ} (pick (eqb d d && eqb z z) 1 0) 1 = rw (eqb_same d, eqb_same z) refl in
        (p.0, p.1, p.2, omega (arith, e, k d z a p.1))
    one (reset d z) p a k = p
    one (flush d) p a k = p

-- ---- counting
pub appends_append : (d y : ℕ) (xs ys : List Store) → appends_to d y (xs ++ ys) ≡ appends_to d y xs + appends_to d y ys
appends_append d y [] ys = omega arith
appends_append d y (x ∷ xs) ys = omega (arith, appends_append d y xs ys)

pub appends_present : (present : ℕ → Bool) (d y : ℕ) (xs : List Store) → appends_to d y (on_present present xs) ≤ appends_to d y xs
appends_present present d y [] = le_refl 0
appends_present present d y (x ∷ xs) = go (present (store_drive x)) (appends_present present d y xs)
  where
    go : (b : Bool) → appends_to d y (on_present present xs) ≤ appends_to d y xs → appends_to d y (pick b (x ∷ on_present present xs) (on_present present xs)) ≤ appends_of d y x + appends_to d y xs
    go true h = omega arith
    go false h = omega arith

pub appends_flushes : (d y n : ℕ) → appends_to d y (flush_all n) ≡ 0
appends_flushes d y zero = refl
appends_flushes d y (suc n) = appends_append d y (flush_all n) (flush n ∷ []) ∙ omega (arith, appends_flushes d y n)

pub appends_pick : (d y m : ℕ) (b : Bool) (xs : List Store) → appends_to d y xs ≤ m → appends_to d y (pick b xs []) ≤ m
appends_pick d y m true xs h = h
appends_pick d y m false xs h = omega arith

-- at most m for each number below n
pub appends_each : (d y : ℕ) (f : ℕ → List Store) (n m : ℕ) → ((k : ℕ) → k < n → appends_to d y (f k) ≤ m) → appends_to d y (each_below f n) ≤ n * m
appends_each d y f zero m h = omega arith
appends_each d y f (suc n) m h = omega (arith, appends_append d y (each_below f n) (f n), appends_each d y f n m (λ k l. h k (omega arith)), h n (omega arith))

-- at most m for the number i, and none for the others
before_one : (d y i : ℕ) (f : ℕ → List Store) (n m : ℕ) → ((k : ℕ) → k < n → appends_to d y (f k) ≤ pick (eqb i k) m 0) → n ≤ i → appends_to d y (each_below f n) ≡ 0
before_one d y i f zero m h l = refl
before_one d y i f (suc n) m h l =
    let q : appends_to d y (f n) ≤ 0 = rw (ne_eqb i n (omega arith)) at (h n (omega arith)) in
    omega (arith, appends_append d y (each_below f n) (f n), before_one d y i f n m (λ k j. h k (omega arith)) (omega arith), q)

pub appends_one : (d y i : ℕ) (f : ℕ → List Store) (n m : ℕ) → ((k : ℕ) → k < n → appends_to d y (f k) ≤ pick (eqb i k) m 0) → appends_to d y (each_below f n) ≤ m
appends_one d y i f zero m h = omega arith
appends_one d y i f (suc n) m h = go (ℕ_discrete i n) (appends_one d y i f n m (λ k l. h k (omega arith)))
  where
    go : Dec (i ≡ n) → appends_to d y (each_below f n) ≤ m → appends_to d y (each_below f n ++ f n) ≤ m
    go (yes e) ih =
        let q : appends_to d y (f n) ≤ m = rw (eq-eqb i n e) at (h n (omega arith)) in
        omega (arith, appends_append d y (each_below f n) (f n), before_one d y i f n m (λ k l. h k (omega arith)) (omega arith), q)
    go (no e) ih =
        let q : appends_to d y (f n) ≤ 0 = rw (ne_eqb i n e) at (h n (omega arith)) in
        omega (arith, appends_append d y (each_below f n) (f n), ih, q)

-- two such lists at once
pub appends_both : (d y : ℕ) (f h : ℕ → List Store) (n : ℕ) → appends_to d y (each_below f n) + appends_to d y (each_below h n) ≡ appends_to d y (each_below (λ k. f k ++ h k) n)
appends_both d y f h zero = refl
appends_both d y f h (suc n) =
    omega (arith, appends_append d y (each_below f n) (f n), appends_append d y (each_below h n) (h n), appends_append d y (f n) (h n), appends_append d y (each_below (λ k. f k ++ h k) n) (f n ++ h n), appends_both d y f h n)

-- zones within a drive
pub appends_zones : (d y : ℕ) (f : ℕ → List Store) (n k m : ℕ) → ((z : ℕ) → z < n → appends_to d y (f z) ≤ pick (eqb d k) m 0) → appends_to d y (each_below f n) ≤ pick (eqb d k) (n * m) 0
appends_zones d y f n k m h = go (eqb d k) h
  where
    go : (b : Bool) → ((z : ℕ) → z < n → appends_to d y (f z) ≤ pick b m 0) → appends_to d y (each_below f n) ≤ pick b (n * m) 0
    go true q = appends_each d y f n m q
    go false q = omega (arith, appends_each d y f n 0 q)

-- ---- how many stores a list has
pub each_most : (f : ℕ → List Store) (n N m : ℕ) → n ≤ N → ((k : ℕ) → k < n → length (f k) ≤ m) → length (each_below f n) ≤ N * m
each_most f n N m l h = omega (arith, go n h, mul-le-mul_right m l)
  where
    go : (n : ℕ) → ((k : ℕ) → k < n → length (f k) ≤ m) → length (each_below f n) ≤ n * m
    go zero h = omega arith
    go (suc n) h = omega (arith, length-append (each_below f n) (f n), go n (λ k l. h k (omega arith)), h n (omega arith))

pub present_most : (a : ℕ → Bool) (xs : List Store) → length (on_present a xs) ≤ length xs
present_most a [] = le_refl 0
present_most a (x ∷ xs) = go (a (store_drive x)) (present_most a xs)
  where
    go : (b : Bool) → length (on_present a xs) ≤ length xs → length (pick b (x ∷ on_present a xs) (on_present a xs)) ≤ suc (length xs)
    go true h = omega arith
    go false h = omega arith

pub flushes_long : (n : ℕ) → length (flush_all n) ≡ n
flushes_long zero = refl
flushes_long (suc n) = length-append (flush_all n) _ ∙ omega (arith, flushes_long n)
