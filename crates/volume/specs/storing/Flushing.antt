-- A flush on the tables, and the laws by which its loop and its answer are proved.
use Rattle.std.specs.Prelude.{◌≡◌, refl, Bool, true, false, ◌&&◌, ℕ, suc, ◌*◌, List, [], ◌∷◌, ◌++◌, length}
use Rattle.std.proofs.Common.{ap, ◌∙◌, arith, eq-eqb}
use Rattle.tables.specs.meaning.Tables.{buffer_fits, lengths_fit, tables_of}
use Rattle.tables.specs.laws.Made.{store_if}
use Rattle.tables.specs.declared.Geometry.{Geometry}
use Rattle.tables.specs.meaning.Basics.{pick}
use Rattle.tables.specs.meaning.Device.{Store, flush}
use Rattle.tables.specs.meaning.Phases.{on_present, flush_all}
use Rattle.tables.specs.laws.Phases.{on_present_append}
use Rattle.volume.specs.declared.State.{State}
use Rattle.volume.specs.meaning.Refusals.{flush_rows}
use Rattle.volume.specs.meaning.Calls.{flush_stores}
use Rattle.volume.specs.meaning.CallContracts.{verdict_number, flush_verdict}
use Rattle.volume.specs.checks.CheckLaws.{absent_two, opening_number}

-- ---- the stores, drive by drive
-- those of the drives below i
abbrev pub flush_to : (ℕ → Bool) → ℕ → List Store
flush_to present i = on_present present (flush_all i)

present_one : (present : ℕ → Bool) (i : ℕ) → on_present present (flush i ∷ []) ≡ store_if (present i) (flush i)
present_one present i = go (present i)
  where
    go : (b : Bool) → pick b (flush i ∷ []) [] ≡ store_if b (flush i)
    go true = refl
    go false = refl

pub flush_more : (present : ℕ → Bool) (i : ℕ) → flush_to present (suc i) ≡ flush_to present i ++ store_if (present i) (flush i)
flush_more present i = on_present_append present (flush_all i) (flush i ∷ []) ∙ ap (λ (r : List Store). flush_to present i ++ r) (present_one present i)

pub flush_stores_lem : (g : Geometry) (present : ℕ → Bool) → flush_stores g present ≡ flush_to present g.drives
unfolding flush_stores
flush_stores_lem g present = refl

-- ---- the refusal is that of the opening
and_true : (a : Bool) → a && true ≡ a
and_true true = refl
and_true false = refl

no_buffer : (g : Geometry) → buffer_fits g 0 0 ≡ true
unfolding buffer_fits
no_buffer g = eq-eqb 0 (0 * g.sector) (omega arith)

pub flush_refusal : (g : Geometry) (named : List Bool) (s : State) (xs ws ds : List ℕ) → opening_number g named s 0 0 (length xs) ws ds ≡ verdict_number (flush_verdict g named s (tables_of xs ws ds))
unfolding flush_verdict flush_rows opening_number
flush_refusal g named s xs ws ds = rw (no_buffer g, and_true (lengths_fit g (length xs) (length ws) (length ds)), absent_two g named s) refl
