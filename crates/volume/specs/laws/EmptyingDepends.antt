-- What a call stores where it empties logs depends on the sectors of the present drives alone: of two devices that agree there (v, w by roles r, s), the
-- emptyings are the same, and so are stores carried to where the logs lie afterwards.
use Rattle.std.specs.Prelude.{◌≡◌, refl, Bool}
use Rattle.std.proofs.Common.{sym, ap, ap₂, true≢false}
use Rattle.std.proofs.Math.Bool.{true, false}
use Prim.Native.Nat.{ℕ}
use mathlib.Core.List.{List, [], ◌∷◌, map}
use Rattle.tables.specs.declared.Geometry.{Geometry}
use Rattle.tables.specs.meaning.Basics.{pick}
use Rattle.tables.specs.meaning.Below.{each_below}
use Rattle.tables.specs.meaning.Device.{Device, Store, append, reset, flush, store_drive}
use Rattle.tables.specs.meaning.Through.{carry}
use Rattle.tables.specs.laws.StoresFit.{AllOn}
use Rattle.volume.specs.meaning.Rules.{general_heads, parity_entries}
use Rattle.volume.specs.meaning.Roles.{Roles, zone_of_role, zone_of_kind, placed_by, emptied_roles, roles_after}
use Rattle.volume.specs.meaning.Emptying.{InForce, new_general, new_parity, emptying_stores, emptyings, empty_general, empty_parity}
use Rattle.volume.specs.laws.Depends.{SameOn, heads_same, parity_same}

pick_either : {A : Type 0} (p q : Bool) (a b c : A) → p ≡ q → (p ≡ true → a ≡ b) → pick p a c ≡ pick q b c
pick_either true true a b c e h = h refl
pick_either true false a b c e h = absurd (true≢false e)
pick_either false true a b c e h = absurd (true≢false (sym e))
pick_either false false a b c e h = refl

-- stores on present drives, carried by places that agree there
pub carry_same : (present : ℕ → Bool) (ρ τ : ℕ → ℕ → ℕ) (xs : List Store) → ((d : ℕ) → present d ≡ true → ρ d ≡ τ d) → AllOn present xs → map (carry ρ) xs ≡ map (carry τ) xs
carry_same present ρ τ [] h p = refl
carry_same present ρ τ (x ∷ xs) h p = ap₂ (λ (y : Store) (ys : List Store). y ∷ ys) (one x p.0) (carry_same present ρ τ xs h p.1)
  where
    one : (x : Store) → present (store_drive x) ≡ true → carry ρ x ≡ carry τ x
    one (append d y s) q = ap (λ (f : ℕ → ℕ). append d (f y) s) (h d q)
    one (reset d y) q = ap (λ (f : ℕ → ℕ). reset d (f y)) (h d q)
    one (flush d) q = refl

module _ (g : Geometry) (present : ℕ → Bool) (r s : ℕ → Roles) (alike : (d : ℕ) → present d ≡ true → r d ≡ s d) (emptied other : ℕ → Bool) (which : (d : ℕ) → emptied d ≡ other d)
    (there : (d : ℕ) → emptied d ≡ true → present d ≡ true) where
  -- where the logs lie afterwards
  pub after_depends : (par : Bool) (d : ℕ) → present d ≡ true → roles_after par emptied r d ≡ roles_after par other s d
  after_depends par d p i = pick (which d i) (emptied_roles par (alike d p i)) (alike d p i)

  pub placed_depends : (par : Bool) (d : ℕ) → present d ≡ true → placed_by (roles_after par emptied r) d ≡ placed_by (roles_after par other s) d
  placed_depends par d p = ap (λ (x : Roles). zone_of_role x) (after_depends par d p)

  pub emptyings_depend : (par : Bool) (ss ts : ℕ → List (List ℕ)) → ((d : ℕ) → emptied d ≡ true → ss d ≡ ts d) → emptyings g present par r emptied ss ≡ emptyings g present par s other ts
  unfolding emptyings
  emptyings_depend par ss ts new i = each_below (λ d. pick_either (emptied d) (other d) (one r ss d) (one s ts d) [] (which d) (λ e. own d e) i) g.drives
    where
      one : (ℕ → Roles) → (ℕ → List (List ℕ)) → ℕ → List Store
      one x us d = emptying_stores g present d (zone_of_kind par (x d)) (x d).spare (us d)

      own : (d : ℕ) → emptied d ≡ true → one r ss d ≡ one s ts d
      own d e = ap₂ (λ (x : Roles) (us : List (List ℕ)). emptying_stores g present d (zone_of_kind par x) x.spare us) (alike d (there d e)) (new d e)

  module _ (v w : Device) (same : SameOn present v w) (f h : InForce) (force : f ≡ h) where
    pub empty_general_depends : empty_general g present r f emptied v ≡ empty_general g present s h other w
    unfolding empty_general
    empty_general_depends = emptyings_depend false (λ d. new_general g f (r d) d (general_heads g v d)) (λ d. new_general g h (s d) d (general_heads g w d)) (λ d e i. new_general g (force i) (alike d (there d e) i) d (heads_same g present v w same d (there d e) i))

    pub empty_parity_depends : empty_parity g present r f emptied v ≡ empty_parity g present s h other w
    unfolding empty_parity
    empty_parity_depends = emptyings_depend true (λ d. new_parity g f (r d) d (parity_entries g v d)) (λ d. new_parity g h (s d) d (parity_entries g w d)) (λ d e i. new_parity g (force i) (alike d (there d e) i) d (parity_same g present v w same d (there d e) i))
