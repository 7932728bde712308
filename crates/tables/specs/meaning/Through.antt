-- A device seen with the zones of each drive in another order: zone y of the view is zone ρ d y of drive d; and a store of the view, carried to the
-- zone where it belongs.
use Rattle.std.specs.Prelude.{ℕ, List}
use Rattle.tables.specs.meaning.Device.{Device, Store, append, reset, flush}

abbrev pub through : (ℕ → ℕ → ℕ) → Device → Device
through ρ v d y = v d (ρ d y)

abbrev pub carry : (ℕ → ℕ → ℕ) → Store → Store
carry ρ (append d y s) = append d (ρ d y) s
carry ρ (reset d y) = reset d (ρ d y)
carry ρ (flush d) = flush d
