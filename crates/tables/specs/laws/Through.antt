-- Laws of a device seen with the zones of each drive in another order: what a carried store makes of the device, seen again, is what the store
-- makes of the view. (ρ: of each drive, one to one.)
use Rattle.std.specs.Prelude.{◌≡◌, refl, Bool, true, false, ℕ, zero, suc, List, [], ◌∷◌, ◌++◌, map, eqb}
use Rattle.std.proofs.Common.{sym, ap, ◌∙◌, eq-eqb, ne_eqb}
use Rattle.std.proofs.Math.Path.{fun_ext}
use Rattle.std.proofs.Math.Decide.{ℕ_discrete}
use Rattle.tables.specs.meaning.Basics.{pick}
use Rattle.tables.specs.laws.Lists.{map_append}
use Rattle.tables.specs.meaning.Phases.{on_present, flush_all}
use Rattle.tables.specs.meaning.Device.{ZoneView, Device, Store, append, reset, flush, store_drive, appended, blank_zone, put_zone, apply, apply_all}
use Rattle.tables.specs.meaning.Through.{through, carry}

abbrev pub OneToOne : (ℕ → ℕ) → Type 0
OneToOne f = (y z : ℕ) → f y ≡ f z → y ≡ z

eqb_one_to_one : (f : ℕ → ℕ) → OneToOne f → (y z : ℕ) → eqb (f y) (f z) ≡ eqb y z
eqb_one_to_one f i y z = go (ℕ_discrete y z)
  where
    go : Dec (y ≡ z) → eqb (f y) (f z) ≡ eqb y z
    go (yes e) = eq-eqb (f y) (f z) (ap f e) ∙ sym (eq-eqb y z e)
    go (no n) = ne_eqb (f y) (f z) (λ e. n (i y z e)) ∙ sym (ne_eqb y z n)

put_through : (ρ : ℕ → ℕ → ℕ) (v : Device) (d z : ℕ) (a : ZoneView) → OneToOne (ρ d) → (e y : ℕ) → put_zone v d (ρ d z) a e (ρ e y) ≡ put_zone (through ρ v) d z a e y
put_through ρ v d z a i e y = go (ℕ_discrete e d)
  where
    go : Dec (e ≡ d) → put_zone v d (ρ d z) a e (ρ e y) ≡ put_zone (through ρ v) d z a e y
    go (yes p) =
        let q : eqb (ρ e y) (ρ d z) ≡ eqb y z = rw p (eqb_one_to_one (ρ d) i y z) in
        rw (q, put_zone) refl
    go (no n) = rw (ne_eqb e d n, put_zone) refl

-- ONE STORE
pub through_apply : (ρ : ℕ → ℕ → ℕ) (x : Store) (v : Device) → OneToOne (ρ (store_drive x)) → through ρ (apply (carry ρ x) v) ≡ apply x (through ρ v)
through_apply ρ (append d z s) v i = fun_ext λ e. fun_ext λ y. put_through ρ v d z (appended s (v d (ρ d z))) i e y
through_apply ρ (reset d z) v i = fun_ext λ e. fun_ext λ y. put_through ρ v d z blank_zone i e y
through_apply ρ (flush d) v i = refl

-- ANY STORES
pub through_apply_all : (ρ : ℕ → ℕ → ℕ) (xs : List Store) (v : Device) → ((d : ℕ) → OneToOne (ρ d)) → through ρ (apply_all (map (carry ρ) xs) v) ≡ apply_all xs (through ρ v)
through_apply_all ρ [] v i = refl
through_apply_all ρ (x ∷ xs) v i = through_apply_all ρ xs (apply (carry ρ x) v) i ∙ ap (apply_all xs) (through_apply ρ x v (i (store_drive x)))

-- ---- carried stores are on the same drives
pub carry_drive : (ρ : ℕ → ℕ → ℕ) (x : Store) → store_drive (carry ρ x) ≡ store_drive x
carry_drive ρ (append d y s) = refl
carry_drive ρ (reset d y) = refl
carry_drive ρ (flush d) = refl

pub carry_on_present : (ρ : ℕ → ℕ → ℕ) (a : ℕ → Bool) (xs : List Store) → map (carry ρ) (on_present a xs) ≡ on_present a (map (carry ρ) xs)
carry_on_present ρ a [] = refl
carry_on_present ρ a (x ∷ xs) = rw (carry_drive ρ x) (go (a (store_drive x)) (carry_on_present ρ a xs))
  where
    go : (b : Bool) → map (carry ρ) (on_present a xs) ≡ on_present a (map (carry ρ) xs) → map (carry ρ) (pick b (x ∷ on_present a xs) (on_present a xs)) ≡ pick b (carry ρ x ∷ on_present a (map (carry ρ) xs)) (on_present a (map (carry ρ) xs))
    go true ih = ap (λ (r : List Store). carry ρ x ∷ r) ih
    go false ih = ih

-- a flush is carried nowhere
pub carry_flush_all : (ρ : ℕ → ℕ → ℕ) (n : ℕ) → map (carry ρ) (flush_all n) ≡ flush_all n
carry_flush_all ρ zero = refl
carry_flush_all ρ (suc n) = map_append (carry ρ) (flush_all n) (flush n ∷ []) ∙ ap (λ (r : List Store). r ++ (flush n ∷ [])) (carry_flush_all ρ n)
