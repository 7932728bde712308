-- What sectors claim to be: those of a log of one kind claim nothing in a walk for the other. And a log's strength by its first closing entry.
use Rattle.std.specs.Prelude.{◌≡◌, refl, ◌⊎◌, Bool, true, false, not, ℕ, zero, suc, ◌<◌, List, [], ◌∷◌, map, eqb}
use Rattle.std.proofs.Common.{sym, ap, inl, inr, arith, eq-eqb, ne_eqb, lt-ltb}
use Rattle.tables.specs.declared.Geometry.{Geometry}
use Rattle.logs.specs.meaning.Entry.{Header, Entry, bad, fault_of, encode, kind_of_log}
use Rattle.logs.specs.meaning.Heads.{first_closing}
use Rattle.logs.specs.meaning.Walk.{Walked, walk, between, no_entry, decode_at, in_zone}
use Rattle.logs.specs.laws.Walk.{Reads}
use Rattle.logs.specs.laws.Closing.{other_bad}
use Rattle.volume.specs.meaning.Roles.{zone_claim, strength, strength_by}

-- ---- nothing written, or a log of the other kind
pub none_claims_none : (g : Geometry) (d : ℕ) (par : Bool) → zone_claim g d par [] ≡ 0
unfolding zone_claim
none_claims_none g d par = refl

-- a walk for the other kind stops at the first header
pub other_claims_none : (g : Geometry) (d : ℕ) (par : Bool) (h : Header) (ss : List (List ℕ)) → Reads g d par h → zone_claim g d (not par) (encode g d h ∷ ss) ≡ 0
unfolding zone_claim
other_claims_none g d par h ss r =
    let q : decode_at g d (not par) zero (encode g d h) ≡ bad (fault_of (encode g d h)) = ap (in_zone g zero) (other_bad g d par h r) in
    let w : walk g d (not par) zero between (encode g d h ∷ ss) ≡ record { entries = []; last = no_entry (fault_of (encode g d h)); position = zero } = rw (q, walk) refl in
    ap (λ (k : Walked). first_closing (map (λ (e : Entry). e.head) k.entries)) w

pub blank_strength : (g : Geometry) (d : ℕ) (par : Bool) (y : ℕ) → strength g d par y [] ≡ strength_by 0 0 par y
unfolding strength
blank_strength g d par y = rw (none_claims_none g d par, none_claims_none g d (not par)) refl

-- ---- zone y is a log of the kind, of generation c: by a closing entry, or by its place
abbrev pub Claims : ℕ → ℕ → ℕ → ℕ → Type 0
Claims c y kind strong = (strong ≡ suc c) × ((0 < c) ⊎ (y ≡ kind))

-- its strength as a log of that kind
pub own_strength : (c y strong : ℕ) (par : Bool) → Claims c y (kind_of_log par) strong → strength_by c 0 par y ≡ strong
own_strength c y strong par (p, inl h) = rw (lt-ltb 0 c h) (sym p)
own_strength zero y strong par (p, inr e) = rw (eq-eqb y (kind_of_log par) e) (sym p)
own_strength (suc c) y strong par (p, inr e) = rw (lt-ltb 0 (suc c) (omega arith)) (sym p)

-- and of the other
elsewhere : (y : ℕ) (par : Bool) → y ≡ kind_of_log (not par) → eqb y (kind_of_log par) ≡ false
elsewhere y true e = ne_eqb y 1 (λ q. omega (arith, e, q))
elsewhere y false e = ne_eqb y 0 (λ q. omega (arith, e, q))

pub other_strength : (c y strong : ℕ) (par : Bool) → Claims c y (kind_of_log (not par)) strong → strength_by 0 c par y ≡ 0
other_strength c y strong par (p, inl h) = rw (lt-ltb 0 c h) refl
other_strength zero y strong par (p, inr e) = rw (elsewhere y par e) refl
other_strength (suc c) y strong par (p, inr e) = rw (lt-ltb 0 (suc c) (omega arith)) refl
