-- After a format every present drive has its first roles, firmly: zone 0 general, zone 1 parity, zone 2 spare; and the device by its roles is the device.
use Rattle.std.specs.Prelude.{◌≡◌, refl, ◌⊎◌, Bool, true, false, ℕ, zero, suc, ◌^◌, ◌<◌, take}
use Rattle.std.proofs.Common.{ap, ◌∙◌, inl, inr, arith}
use Rattle.std.proofs.Math.Seq.{take-nil}
use Rattle.tables.specs.meaning.Device.{Device, apply_all}
use Rattle.tables.specs.meaning.Drives.{no_drive, present_but}
use Rattle.tables.specs.laws.Drives.{present_below}
use Rattle.tables.specs.declared.Geometry.{Geometry}
use Rattle.tables.specs.meaning.Geometry.{Valid}
use Rattle.logs.specs.meaning.Entry.{spare_zone}
use Rattle.volume.specs.meaning.Calls.{format_stores}
use Rattle.volume.specs.meaning.Roles.{strength, strength_by, Roles, zone_of_role, by_roles}
use Rattle.volume.specs.laws.SpareZone.{format_clears}
use Rattle.volume.specs.laws.Claims.{blank_strength}
use Rattle.volume.specs.laws.Firm.{Proper, Firm, firm_seen}
use Rattle.promise.proofs.invariant.Invariant.{Here, LogGenerations}
use Rattle.promise.proofs.invariant.Obligations.{never_emptied}
use Rattle.promise.proofs.calls.FormatKeeps.{format_rests}
use Rattle.promise.proofs.roles.ClaimsOfLogs.{firm_of_logs}
use Rattle.promise.proofs.roles.Roled.{Standing}

abbrev pub first_roles : Roles
first_roles = record { general = 0; parity = 1; spare = 2; general_claim = 1; parity_claim = 1 }

first_proper : Proper first_roles
first_proper = record { general_lt = omega arith; parity_lt = omega arith; apart = inl (omega arith); sum = refl }

first_zones : (y : ℕ) → zone_of_role first_roles y ≡ y
first_zones zero = refl
first_zones (suc zero) = refl
first_zones (suc (suc zero)) = refl
first_zones (suc (suc (suc y))) = refl

module _ (g : Geometry) (ok : Valid g) (x a : ℕ) (v : Device) (lost : (x ≡ no_drive) ⊎ (x < g.drives)) (ha : a < 256 ^ 8) where
  abbrev w : Device
  w = apply_all (format_stores g (present_but g x) x a) v

  -- nothing is in the spare
  spare_blank : (d : ℕ) → Here g x d → (par : Bool) (k : ℕ) → strength g d par spare_zone (take k (w d spare_zone).sectors) ≡ strength_by 0 0 par spare_zone
  spare_blank d h par k = rw (format_clears g (present_but g x) x a v d (present_below g x d h) h, take-nil k) (blank_strength g d par spare_zone)

  format_firm : (d : ℕ) → Here g x d → Firm g w d first_roles
  format_firm d h =
      let (γ, r, q) = format_rests g ok x a v lost ha in
      let c : γ.closed d ≡ (zero, zero) = ap (λ (f : LogGenerations). f d) q in
      firm_of_logs g x w w γ r.logs d h first_roles (λ y. rw (first_zones y) refl) first_proper (rw c (refl, inr refl)) (rw c (refl, inr refl)) (λ k. (rw (spare_blank d h false k) (omega arith), rw (spare_blank d h true k) (omega arith)))

  -- THE START
  pub format_standing : Standing g x w never_emptied
  format_standing = record { roles = λ d. first_roles; firm = format_firm; general_claim_lem = λ d h. (refl, inr refl); parity_claim_lem = λ d h. (refl, inr refl) }

  pub format_seen : (d : ℕ) → Here g x d → (y : ℕ) → by_roles g w d y ≡ w d y
  format_seen d h y = firm_seen g w d first_roles (format_firm d h) y ∙ ap (w d) (first_zones y)
