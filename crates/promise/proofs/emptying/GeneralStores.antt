-- The list of the stores of emptied general logs (empty_general): it is on present drives alone, and goes by the roles and logs of the drives that are emptied.
use Rattle.std.specs.Prelude.{◌≡◌, refl, Bool, true, false, ℕ, zero, suc, ◌<◌, List, [], ◌∷◌, ◌++◌}
use Rattle.std.proofs.Common.{ap₂, arith}
use Rattle.tables.specs.meaning.Basics.{pick}
use Rattle.tables.specs.meaning.Below.{each_below}
use Rattle.tables.specs.meaning.Device.{Device, Store, reset}
use Rattle.tables.specs.meaning.Phases.{on_present, flush_all}
use Rattle.tables.specs.laws.StoresFit.{AllOn, on_present_on, on_append}
use Rattle.tables.specs.declared.Geometry.{Geometry}
use Rattle.logs.specs.meaning.Entry.{Header}
use Rattle.volume.specs.meaning.Rules.{general_heads}
use Rattle.volume.specs.meaning.Calls.{append_all}
use Rattle.volume.specs.meaning.Roles.{Roles}
use Rattle.volume.specs.meaning.Emptying.{InForce, new_general, emptying_stores, emptyings, empty_general}

on_appends : (a : ℕ → Bool) (d y : ℕ) (ss : List (List ℕ)) → a d ≡ true → AllOn a (append_all d y ss)
on_appends a d y [] h = tt
on_appends a d y (s ∷ ss) h = (h, on_appends a d y ss h)

emptying_on : (g : Geometry) (a : ℕ → Bool) (d old spare : ℕ) (ss : List (List ℕ)) → a d ≡ true → AllOn a (emptying_stores g a d old spare ss)
unfolding emptying_stores
emptying_on g a d old spare ss h =
    let f = on_present a (flush_all g.drives) in
    on_append a f (append_all d spare ss ++ (f ++ (reset d old ∷ []))) (on_present_on a (flush_all g.drives))
    (on_append a (append_all d spare ss) (f ++ (reset d old ∷ [])) (on_appends a d spare ss h) (on_append a f (reset d old ∷ []) (on_present_on a (flush_all g.drives)) (h, tt)))

each_on : (a : ℕ → Bool) (f : ℕ → List Store) (n : ℕ) → ((d : ℕ) → d < n → AllOn a (f d)) → AllOn a (each_below f n)
each_on a f zero h = tt
each_on a f (suc n) h = on_append a (each_below f n) (f n) (each_on a f n (λ d k. h d (omega (arith, k)))) (h n (omega arith))

each_same : (f h : ℕ → List Store) (n : ℕ) → ((d : ℕ) → d < n → f d ≡ h d) → each_below f n ≡ each_below h n
each_same f h zero e = refl
each_same f h (suc n) e = ap₂ (λ (a b : List Store). a ++ b) (each_same f h n (λ d k. e d (omega (arith, k)))) (e n (omega arith))

pub general_on : (g : Geometry) (a : ℕ → Bool) (r : ℕ → Roles) (f : InForce) (emptied : ℕ → Bool) (w : Device) → ((d : ℕ) → d < g.drives → emptied d ≡ true → a d ≡ true) → AllOn a (empty_general g a r f emptied w)
unfolding empty_general emptyings
general_on g a r f emptied w h = each_on a (λ d. pick (emptied d) (emptying_stores g a d (r d).general (r d).spare (new_general g f (r d) d (general_heads g w d))) []) g.drives (λ d k. go d k (emptied d) refl)
  where
    go : (d : ℕ) → d < g.drives → (b : Bool) → emptied d ≡ b → AllOn a (pick b (emptying_stores g a d (r d).general (r d).spare (new_general g f (r d) d (general_heads g w d))) [])
    go d k true e = emptying_on g a d (r d).general (r d).spare (new_general g f (r d) d (general_heads g w d)) (h d k e)
    go d k false e = tt

-- the emptyings go by the roles and the logs of the drives that are emptied
pub general_same : (g : Geometry) (a : ℕ → Bool) (r s : ℕ → Roles) (f : InForce) (emptied : ℕ → Bool) (w u : Device)
    → ((d : ℕ) → d < g.drives → emptied d ≡ true → (r d ≡ s d) × (general_heads g w d ≡ general_heads g u d)) → empty_general g a r f emptied w ≡ empty_general g a s f emptied u
unfolding empty_general emptyings
general_same g a r s f emptied w u h =
    each_same (λ d. pick (emptied d) (emptying_stores g a d (r d).general (r d).spare (new_general g f (r d) d (general_heads g w d))) []) (λ d. pick (emptied d) (emptying_stores g a d (s d).general (s d).spare (new_general g f (s d) d (general_heads g u d))) [])
    g.drives (λ d k. go d k (emptied d) refl)
  where
    go : (d : ℕ) → d < g.drives → (b : Bool) → emptied d ≡ b
        → pick b (emptying_stores g a d (r d).general (r d).spare (new_general g f (r d) d (general_heads g w d))) [] ≡ pick b (emptying_stores g a d (s d).general (s d).spare (new_general g f (s d) d (general_heads g u d))) []
    go d k true e = let (p, q) = h d k e in ap₂ (λ (t : Roles) (hs : List Header). emptying_stores g a d t.general t.spare (new_general g f t d hs)) p q
    go d k false e = refl
