-- Stores on present drives alone: none of them is left out, and they leave the other drives as they are.
use Rattle.std.specs.Prelude.{◌≡◌, refl, Bool, false, ℕ, List, [], ◌∷◌}
use Rattle.std.proofs.Common.{sym, ap, ◌∙◌}
use Rattle.tables.specs.meaning.Device.{Device, Store, apply_all}
use Rattle.tables.specs.meaning.Phases.{on_present}
use Rattle.tables.specs.laws.Phases.{absent_frame}
use Rattle.tables.specs.laws.StoresFit.{AllOn}

pub on_present_all : (a : ℕ → Bool) (xs : List Store) → AllOn a xs → on_present a xs ≡ xs
on_present_all a [] o = refl
on_present_all a (s ∷ xs) o = rw o.0 (ap (λ (t : List Store). s ∷ t) (on_present_all a xs o.1))

pub on_frame : (a : ℕ → Bool) (xs : List Store) (v : Device) (e y : ℕ) → AllOn a xs → a e ≡ false → apply_all xs v e y ≡ v e y
on_frame a xs v e y o h = ap (λ (zs : List Store). apply_all zs v e y) (sym (on_present_all a xs o)) ∙ absent_frame a xs v e y h
