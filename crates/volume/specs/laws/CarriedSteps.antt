-- Steps with their flushes, carried: a step's flush is carried nowhere; and what lists of stores do to the lengths of zones.
use Rattle.std.specs.Prelude.{◌≡◌, refl, Bool, true, false, ℕ, ◌+◌, ◌≤◌, List, [], ◌∷◌, ◌++◌, map, length}
use Rattle.std.proofs.Common.{sym, ap, ◌∙◌, arith}
use Rattle.tables.specs.declared.Geometry.{Geometry}
use Rattle.tables.specs.meaning.Basics.{pick}
use Rattle.tables.specs.meaning.Lists.{concat, is_nil}
use Rattle.tables.specs.laws.Lists.{map_append}
use Rattle.tables.specs.meaning.Device.{Device, Store, apply, apply_all}
use Rattle.tables.specs.meaning.Phases.{on_present, flush_all}
use Rattle.tables.specs.meaning.Through.{carry}
use Rattle.tables.specs.laws.Through.{carry_on_present, carry_flush_all}
use Rattle.tables.specs.laws.StoresFit.{AllOn}
use Rattle.tables.specs.laws.AppendCounts.{appends_to, store_grows}
use Rattle.volume.specs.meaning.Mount.{with_flush, carry_phases}

nil_carried : (ρ : ℕ → ℕ → ℕ) (xs : List Store) → is_nil (map (carry ρ) xs) ≡ is_nil xs
nil_carried ρ [] = refl
nil_carried ρ (x ∷ xs) = refl

-- phases carried are their stores carried
pub concat_carried : (ρ : ℕ → ℕ → ℕ) (ps : List (List Store)) → concat (carry_phases ρ ps) ≡ map (carry ρ) (concat ps)
concat_carried ρ [] = refl
concat_carried ρ (p ∷ ps) = ap (λ (r : List Store). map (carry ρ) p ++ r) (concat_carried ρ ps) ∙ sym (map_append (carry ρ) p (concat ps))

-- a step of carried stores is the step carried
pub step_carried : (g : Geometry) (a : ℕ → Bool) (ρ : ℕ → ℕ → ℕ) (xs : List Store) → concat (with_flush g a (map (carry ρ) xs)) ≡ map (carry ρ) (concat (with_flush g a xs))
step_carried g a ρ xs =
    let flushes = on_present a (flush_all g.drives) in
    let same : map (carry ρ) flushes ≡ flushes = carry_on_present ρ a (flush_all g.drives) ∙ ap (on_present a) (carry_flush_all ρ g.drives) in
    let part = on_present a xs in
    ap (λ (r : List Store). r ++ (pick (is_nil r) [] flushes ++ [])) (sym (carry_on_present ρ a xs))
    ∙ ap (λ (b : Bool). map (carry ρ) part ++ (pick b [] flushes ++ [])) (nil_carried ρ part)
    ∙ ap (λ (r : List Store). map (carry ρ) part ++ r) (go same (is_nil part)) ∙ sym (map_append (carry ρ) part (pick (is_nil part) [] flushes ++ []))
  where
    go : map (carry ρ) (on_present a (flush_all g.drives)) ≡ on_present a (flush_all g.drives) → (b : Bool) → pick b [] (on_present a (flush_all g.drives)) ++ [] ≡ map (carry ρ) (pick b [] (on_present a (flush_all g.drives)) ++ [])
    go e true = refl
    go e false = ap (λ (r : List Store). r ++ []) (sym e) ∙ sym (map_append (carry ρ) (on_present a (flush_all g.drives)) [])

-- stores on present drives are all made
pub present_all : (a : ℕ → Bool) (xs : List Store) → AllOn a xs → on_present a xs ≡ xs
present_all a [] p = refl
present_all a (x ∷ xs) p = rw p.0 (ap (λ (r : List Store). x ∷ r) (present_all a xs p.1))

-- a zone grows by no more than what is appended to it
pub stores_grow : (xs : List Store) (v : Device) (d y : ℕ) → length (apply_all xs v d y).sectors ≤ length (v d y).sectors + appends_to d y xs
stores_grow [] v d y = omega arith
stores_grow (x ∷ xs) v d y = omega (arith, stores_grow xs (apply x v) d y, store_grows x v d y)
