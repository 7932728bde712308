-- Roles by strengths: two whole logs of different kinds, each of the strength that its role says, and a blank spare, are a drive's roles (`roles_are`).
use Rattle.std.specs.Prelude.{◌≡◌, ◌≢◌, Bool, true, false, not, List, [], length, eqb}
use Rattle.std.proofs.Math.Path.{refl, sym, ap₂}
use Rattle.std.proofs.Common.{◌∙◌, arith, take_all}
use Prim.Native.Nat.{ℕ, zero, suc, ◌≤◌, ◌<◌}
use Rattle.std.proofs.Math.Decide.{ℕ_discrete}
use Rattle.std.proofs.Math.Seq.{take-nil}
use borrow.Author.Tests.{eq-eqb, ne_eqb, lt-ltb}
use Rattle.tables.specs.declared.Geometry.{Geometry}
use Rattle.tables.specs.meaning.Basics.{pick}
use Rattle.tables.specs.meaning.Device.{Device}
use Rattle.logs.specs.meaning.Entry.{kind_of_log}
use Rattle.logs.specs.meaning.Walk.{at_pointer, walk_log}
use Rattle.volume.specs.meaning.Roles.{zone_claim, strength_by, strength, Roles, roles}
use Rattle.volume.specs.laws.Claims.{blank_strength}
use Rattle.volume.specs.laws.LogClaims.{claims_other, moved_strength, strengths_one_kind, suc_positive}
use Rattle.volume.specs.laws.GrowingClaims.{whole_claims_other}
use Rattle.volume.specs.laws.Firm.{Proper, proper_apart, firm_roles}

module _ (g : Geometry) (d : ℕ) where
  -- a log of one kind claims nothing of the other
  strength_other : (par : Bool) (y : ℕ) (ss : List (List ℕ)) → strength g d par y ss ≢ 0 → zone_claim g d (not par) ss ≡ 0
  unfolding strength
  strength_other par y ss n = go (zone_claim g d (not par) ss) refl
    where
      go : (c : ℕ) → zone_claim g d (not par) ss ≡ c → c ≡ 0
      go zero e = refl
      go (suc c) e =
          let mine : zone_claim g d par ss ≡ 0 = claims_other g d ss par (λ q. omega (arith, e, q)) in
          absurd (n (ap₂ (λ (a b : ℕ). strength_by a b par y) mine e ∙ rw (suc_positive c) refl))

  -- a log that grows and keeps its claim keeps its strength
  pub grown_strength : (par : Bool) (y : ℕ) (ss us : List (List ℕ)) → strength g d par y ss ≢ 0 → zone_claim g d par us ≡ zone_claim g d par ss → (walk_log g d par us).last ≡ at_pointer → strength g d par y us ≡ strength g d par y ss
  unfolding strength
  grown_strength par y ss us n c e = ap₂ (λ (a b : ℕ). strength_by a b par y) c (whole_claims_other g d par us e ∙ sym (strength_other par y ss n))

  -- a log with a closing entry
  pub closed_strength : (par : Bool) (y : ℕ) (us : List (List ℕ)) (c : ℕ) → zone_claim g d par us ≡ c → 1 ≤ c → strength g d par y us ≡ suc c
  unfolding strength
  closed_strength par y us c e l = rw (e, lt-ltb 0 c l) refl

  one_kind : (par : Bool) (y : ℕ) (ss : List (List ℕ)) → strength g d par y ss ≢ 0 → strength g d (not par) y ss ≡ 0
  one_kind false y ss n = strengths_one_kind g d ss y n
  one_kind true y ss n = go (strength g d false y ss) refl
    where
      go : (c : ℕ) → strength g d false y ss ≡ c → c ≡ 0
      go zero e = refl
      go (suc c) e = absurd (n (strengths_one_kind g d ss y (λ q. omega (arith, e, q))))

  -- a blank zone is no match for a log in another one
  blank_loses : (par : Bool) (y z : ℕ) (ss : List (List ℕ)) → y ≢ z → strength g d par z ss ≢ 0 → strength g d par y [] < strength g d par z ss
  blank_loses par y z ss n k = rw (blank_strength g d par y) (go (ℕ_discrete y (kind_of_log par)))
    where
      moved : (c : ℕ) → strength g d par z ss ≡ pick (eqb c 0) 0 (suc c) → 1 < strength g d par z ss
      moved zero e = absurd (k e)
      moved (suc c) e = let q : strength g d par z ss ≡ suc (suc c) = e ∙ rw (ne_eqb (suc c) 0 (λ i. omega (arith, i))) refl in omega (arith, q)

      go : Dec (y ≡ kind_of_log par) → strength_by 0 0 par y < strength g d par z ss
      go (yes e) = rw (eq-eqb y (kind_of_log par) e) (moved (zone_claim g d par ss) (moved_strength g d ss par z (λ q. n (e ∙ sym q))))
      go (no e) = rw (ne_eqb y (kind_of_log par) e) (omega (arith, k))

-- the device with all its sectors durable
abbrev durably : Device → Device
durably v d y = record { sectors = (v d y).sectors; durable = length (v d y).sectors }

pub roles_are : (g : Geometry) (v : Device) (d : ℕ) (r : Roles) → Proper r → r.general_claim ≢ 0 → r.parity_claim ≢ 0
    → strength g d false r.general (v d r.general).sectors ≡ r.general_claim → strength g d true r.parity (v d r.parity).sectors ≡ r.parity_claim → (v d r.spare).sectors ≡ [] → roles g v d ≡ r
roles_are g v d r proper m n a b blank = firm_roles g (durably v) d r (record {
  proper = proper;
  general_firm = λ k h. rw (take_all k (v d r.general).sectors h) (a, one_kind g d false r.general (v d r.general).sectors general);
  parity_firm = λ k h. rw (take_all k (v d r.parity).sectors h) (b, one_kind g d true r.parity (v d r.parity).sectors parity);
  spare_loses = λ k. rw (blank, take-nil {A = List ℕ} k, ← a, ← b) (blank_loses g d false r.spare r.general (v d r.general).sectors (λ q. apart.1 (sym q)) general, blank_loses g d true r.spare r.parity (v d r.parity).sectors (λ q. apart.2 (sym q)) parity);
})
  where
    apart : (r.general ≢ r.parity) × (r.general ≢ r.spare) × (r.parity ≢ r.spare) × (r.spare < 3)
    apart = proper_apart r proper

    general : strength g d false r.general (v d r.general).sectors ≢ 0
    general e = m (sym a ∙ e)

    parity : strength g d true r.parity (v d r.parity).sectors ≢ 0
    parity e = n (sym b ∙ e)
