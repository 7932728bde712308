-- Marks that are at least the ledger's: more may be durable than the host was told (document 02, 2.2: an emptying's first flush). What fits a
-- ledger with such marks fits the ledger.
use Rattle.std.specs.Prelude.{◌⊎◌, ℕ, ◌≤◌, ◌<◌}
use Rattle.std.proofs.Common.{inl, inr, le_trans}
use Rattle.tables.specs.declared.Geometry.{Geometry}
use Rattle.volume.specs.meaning.Rules.{Shown}
use Rattle.promise.specs.meaning.Ledger.{Ledger, FitsZone, Fits}

abbrev pub with_marks : Ledger → (ℕ → ℕ) → Ledger
with_marks l c = record { content = l.content; committed = c; resetting = l.resetting }

abbrev pub MarksAbove : Ledger → (ℕ → ℕ) → Type 0
MarksAbove l c = (z : ℕ) → l.committed z ≤ c z

pub fits_less : (g : Geometry) (l : Ledger) (c : ℕ → ℕ) (k : Shown) → MarksAbove l c → Fits g (with_marks l c) k → Fits g l k
fits_less g l c k h f z hz = go (f z hz)
  where
    go : FitsZone (with_marks l c) z (k.zone z) → FitsZone l z (k.zone z)
    go (inl r) = inl (record { least = le_trans (h z) r.least; most = r.most; values = r.values })
    go (inr r) = inr r
