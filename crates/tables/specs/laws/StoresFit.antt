-- Stores that have their place and their room: then a list of them on the tables is that list on the device (`run_refines`). Stores that have
-- their place have their room if no zone is ever longer than C (`stores_fit`).
use Rattle.std.specs.Prelude.{◌≡◌, refl, Bool, true, false, ℕ, zero, suc, ◌+◌, ◌≤◌, ◌<◌, List, [], ◌∷◌, ◌++◌, length, take}
use Rattle.std.proofs.Common.{arith, length-append}
use Rattle.tables.specs.declared.Geometry.{Geometry}
use Rattle.tables.specs.meaning.Basics.{pick}
use Rattle.tables.specs.meaning.Below.{each_below}
use Rattle.tables.specs.meaning.Geometry.{physical_zones}
use Rattle.tables.specs.meaning.Device.{Device, Store, append, reset, flush, store_drive, apply, apply_all}
use Rattle.tables.specs.laws.Device.{put_zone_same}
use Rattle.tables.specs.meaning.Phases.{on_present, flush_all}
use Rattle.tables.specs.meaning.Lists.{concat}
use Rattle.tables.specs.laws.Made.{Placed, AllPlaced, Fits, FitsAll}
use Rattle.tables.specs.laws.TablesRefine.{fits_placed, all_placed_append}

-- stores that fit have their place
pub fits_all_placed : (g : Geometry) (xs : List Store) (v : Device) → FitsAll g xs v → AllPlaced g xs
fits_all_placed g [] v f = tt
fits_all_placed g (x ∷ xs) v f = (fits_placed g x v f.0, fits_all_placed g xs (apply x v) f.1)

-- stores that fit, one list after the other
pub fits_append : (g : Geometry) (xs ys : List Store) (v : Device) → FitsAll g xs v → FitsAll g ys (apply_all xs v) → FitsAll g (xs ++ ys) v
fits_append g [] ys v p q = q
fits_append g (x ∷ xs) ys v p q = (p.0, fits_append g xs ys (apply x v) p.1 q)

pub fits_front : (g : Geometry) (xs ys : List Store) (v : Device) → FitsAll g (xs ++ ys) v → FitsAll g xs v
fits_front g [] ys v f = tt
fits_front g (x ∷ xs) ys v f = (f.0, fits_front g xs ys (apply x v) f.1)

-- every store is on a drive that is present
abbrev pub AllOn : (ℕ → Bool) → List Store → Type 0
AllOn present [] = Unit {0}
AllOn present (x ∷ xs) = (present (store_drive x) ≡ true) × AllOn present xs

pub on_present_on : (present : ℕ → Bool) (xs : List Store) → AllOn present (on_present present xs)
on_present_on present [] = tt
on_present_on present (x ∷ xs) = go (present (store_drive x)) refl (on_present_on present xs)
  where
    go : (b : Bool) → present (store_drive x) ≡ b → AllOn present (on_present present xs) → AllOn present (pick b (x ∷ on_present present xs) (on_present present xs))
    go true e p = (e, p)
    go false e p = p

pub on_append : (present : ℕ → Bool) (xs ys : List Store) → AllOn present xs → AllOn present ys → AllOn present (xs ++ ys)
on_append present [] ys p q = q
on_append present (x ∷ xs) ys p q = (p.0, on_append present xs ys p.1 q)

-- THE LAW: placed stores on present drives, none of which is ever longer than C, fit
pub stores_fit : (g : Geometry) (present : ℕ → Bool) (xs : List Store) (v : Device) → AllPlaced g xs → AllOn present xs
    → ((n d y : ℕ) → present d ≡ true → y < physical_zones g → length (apply_all (take n xs) v d y).sectors ≤ g.capacity) → FitsAll g xs v
stores_fit g present [] v p a h = tt
stores_fit g present (x ∷ xs) v p a h = (one x p.0 a.0 (h 1), stores_fit g present xs (apply x v) p.1 a.1 (λ n d y hd hy. h (suc n) d y hd hy))
  where
    one : (x : Store) → Placed g x → present (store_drive x) ≡ true → ((d y : ℕ) → present d ≡ true → y < physical_zones g → length (apply x v d y).sectors ≤ g.capacity) → Fits g x v
    one (append d z s) p a k =
        let e : length (apply (append d z s) v d z).sectors ≡ length (v d z).sectors + 1 = rw (put_zone_same v d z _, length-append (v d z).sectors (s ∷ [])) refl in
        (p.0, p.1, p.2, omega (arith, e, k d z a p.1))
    one (reset d z) p a k = p
    one (flush d) p a k = p

-- ---- lists of placed stores
pub placed_each : (g : Geometry) (f : ℕ → List Store) (n : ℕ) → ((k : ℕ) → k < n → AllPlaced g (f k)) → AllPlaced g (each_below f n)
placed_each g f zero h = tt
placed_each g f (suc n) h = all_placed_append g (each_below f n) (f n) (placed_each g f n (λ k l. h k (omega arith))) (h n (omega arith))

pub placed_present : (g : Geometry) (present : ℕ → Bool) (xs : List Store) → AllPlaced g xs → AllPlaced g (on_present present xs)
placed_present g present [] p = tt
placed_present g present (x ∷ xs) p = go (present (store_drive x)) (placed_present g present xs p.1)
  where
    go : (b : Bool) → AllPlaced g (on_present present xs) → AllPlaced g (pick b (x ∷ on_present present xs) (on_present present xs))
    go true q = (p.0, q)
    go false q = q

pub placed_pick : (g : Geometry) (b : Bool) (xs : List Store) → AllPlaced g xs → AllPlaced g (pick b xs [])
placed_pick g true xs p = p
placed_pick g false xs p = tt

pub placed_flushes : (g : Geometry) (n : ℕ) → n ≤ g.drives → AllPlaced g (flush_all n)
placed_flushes g zero h = tt
placed_flushes g (suc n) h = all_placed_append g (flush_all n) (flush n ∷ []) (placed_flushes g n (omega arith)) (omega arith, tt)

-- phases one after the other
abbrev pub EachPlaced : Geometry → List (List Store) → Type 0
EachPlaced g [] = Unit {0}
EachPlaced g (p ∷ ps) = AllPlaced g p × EachPlaced g ps

pub placed_concat : (g : Geometry) (ps : List (List Store)) → EachPlaced g ps → AllPlaced g (concat ps)
placed_concat g [] q = tt
placed_concat g (p ∷ ps) q = all_placed_append g p (concat ps) q.0 (placed_concat g ps q.1)
