-- Neither the invariant nor rest reads a spare: two devices that differ in spares alone have the same.
use Rattle.std.specs.Prelude.{◌≡◌, ◌≢◌, ℕ, ◌≤◌, ◌<◌, length}
use Rattle.std.proofs.Math.Decide.{ℕ_discrete}
use Rattle.std.proofs.Common.{arith}
use Rattle.tables.specs.meaning.Device.{Device}
use Rattle.tables.specs.declared.Geometry.{Geometry}
use Rattle.tables.specs.meaning.Geometry.{physical_zones, data_zone}
use Rattle.logs.specs.meaning.Entry.{general_zone, parity_zone, spare_zone}
use Rattle.volume.specs.meaning.State.{StateView}
use Rattle.promise.specs.meaning.Ledger.{Ledger}
use Rattle.promise.proofs.invariant.Invariant.{Ghost, Here, LogsOk, Inv, Rest}
use Rattle.promise.proofs.invariant.HoldsLess.{with_logs, Less}
use Rattle.promise.proofs.roles.SameZones.{SameZones, InBounds, same_less, same_logs, same_inv, same_rest}

pub record SameButSpares (g : Geometry) (x : ℕ) (u w : Device) : Type 0 where
  pub same : (d y : ℕ) → Here g x d → y ≢ spare_zone → w d y ≡ u d y
  pub lasts : (d : ℕ) → Here g x d → (w d spare_zone).durable ≤ length (w d spare_zone).sectors
  pub fits : (d : ℕ) → Here g x d → length (w d spare_zone).sectors ≤ g.capacity

module _ (g : Geometry) (x : ℕ) (u w : Device) (k : SameButSpares g x u w) where
  pub at_data : (d z : ℕ) → Here g x d → w d (data_zone z) ≡ u d (data_zone z)
  at_data d z a = k.same d (data_zone z) a (λ q. omega (arith, q))

  zones : SameZones g x u w
  zones = record {
    general = λ d a. k.same d general_zone a (λ q. omega (arith, q));
    parity = λ d a. k.same d parity_zone a (λ q. omega (arith, q));
    data_zone_lem = λ d z a h. at_data d z a;
  }

  module _ (γ : Ghost) where
    abbrev δ : Ghost
    δ = with_logs γ γ.general γ.parity

    bounds : LogsOk g x u γ → InBounds g x w
    bounds lg = record { lasting = λ d y a h. low d y a h (ℕ_discrete y spare_zone); fits = λ d y a h. fit d y a h (ℕ_discrete y spare_zone) }
      where
        low : (d y : ℕ) → Here g x d → y < physical_zones g → Dec (y ≡ spare_zone) → (w d y).durable ≤ length (w d y).sectors
        low d y a h (yes q) = rw q (k.lasts d a)
        low d y a h (no q) = rw (k.same d y a q) (lg.lasting d y a h)

        fit : (d y : ℕ) → Here g x d → y < physical_zones g → Dec (y ≡ spare_zone) → length (w d y).sectors ≤ g.capacity
        fit d y a h (yes q) = rw q (k.fits d a)
        fit d y a h (no q) = rw (k.same d y a q) (lg.place_fits d y a h)

    pub spare_logs : LogsOk g x u γ → LogsOk g x w δ
    spare_logs lg = same_logs g x u w zones γ (bounds lg) lg

    pub spare_less : Less g x x u w γ γ.general γ.parity
    spare_less = same_less g x u w zones γ

    pub spare_inv : (l : Ledger) → Inv g x u l γ → Inv g x w l δ
    spare_inv l i = same_inv g x u w zones γ (bounds i.logs) l i

    pub spare_rest : (state : StateView) (l : Ledger) → Rest g x u state l γ → Rest g x w state l δ
    spare_rest state l r = same_rest g x u w zones γ (bounds r.logs) state l r
