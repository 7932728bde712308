-- The stores of a write, a flush and a reset, but for their emptyings, are ordinary: on present drives, none to a spare.
use Rattle.std.specs.Prelude.{Bool, ℕ, List, [], ◌∷◌, length}
use Rattle.tables.specs.meaning.Lists.{concat}
use Rattle.tables.specs.meaning.Device.{Device, Store}
use Rattle.tables.specs.meaning.Phases.{on_present, each_on_present, flush_all}
use Rattle.tables.specs.laws.StoresFit.{AllOn, on_present_on, on_append}
use Rattle.tables.specs.meaning.Drives.{present_but}
use Rattle.tables.specs.declared.Geometry.{Geometry}
use Rattle.volume.specs.meaning.State.{StateView, pointer_in}
use Rattle.volume.specs.meaning.Calls.{zone_content, write_with, write_stores, flush_stores, reset_phases, reset_stores}
use Rattle.volume.specs.laws.SpareZone.{write_keeps_off, flush_keeps_off, reset_keeps_off}
use Rattle.promise.proofs.roles.Ordinary.{Ordinary}

-- ---- on present drives
module _ (g : Geometry) (present : ℕ → Bool) where
  on_phases : (ps : List (List Store)) → AllOn present (concat (each_on_present present ps))
  on_phases [] = tt
  on_phases (p ∷ ps) = on_append present (on_present present p) (concat (each_on_present present ps)) (on_present_on present p) (on_phases ps)

  write_on_lem : (v : Device) (state : StateView) (z : ℕ) (ss : List (List ℕ)) → AllOn present (write_stores g present v state z ss)
  unfolding write_stores
  write_on_lem v state z ss = on_present_on present (write_with g z (state.generation z) (zone_content g present v state z ss) (pointer_in (state.condition z)) (length ss))

  flush_on_lem : AllOn present (flush_stores g present)
  unfolding flush_stores
  flush_on_lem = on_present_on present (flush_all g.drives)

  reset_on_lem : (state : StateView) (z : ℕ) → AllOn present (reset_stores g present state z)
  unfolding reset_stores
  reset_on_lem state z = on_phases (reset_phases g state z)

-- ---- THE CALLS
pub write_ordinary : (g : Geometry) (x : ℕ) (v : Device) (state : StateView) (z : ℕ) (ss : List (List ℕ)) → Ordinary g x (write_stores g (present_but g x) v state z ss)
write_ordinary g x v state z ss = record { on = write_on_lem g (present_but g x) v state z ss; off = write_keeps_off g (present_but g x) v state z ss }

pub flush_ordinary : (g : Geometry) (x : ℕ) → Ordinary g x (flush_stores g (present_but g x))
flush_ordinary g x = record { on = flush_on_lem g (present_but g x); off = flush_keeps_off g (present_but g x) }

pub reset_ordinary : (g : Geometry) (x : ℕ) (state : StateView) (z : ℕ) → Ordinary g x (reset_stores g (present_but g x) state z)
reset_ordinary g x state z = record { on = reset_on_lem g (present_but g x) state z; off = reset_keeps_off g (present_but g x) state z }
