-- The steps of a mount one after the other, each with its flush. A step's stores are a function of the device that the look found, which stays as it
-- was; each step leaves what the next relies on (`StepMade`), so a list of steps is made by making them in a row (`steps_then`).
use Rattle.std.specs.Prelude.{◌≡◌, refl, Bool, ℕ, zero, List, [], ◌∷◌, length}
use Rattle.std.proofs.Common.{◌∙◌, le_refl}
use Rattle.tables.specs.declared.Geometry.{Geometry}
use Rattle.tables.specs.meaning.Lists.{concat}
use Rattle.tables.specs.laws.Lists.{concat_append}
use Rattle.tables.specs.meaning.Geometry.{Valid, cells, total_bytes}
use Rattle.tables.specs.meaning.Device.{Device, Store}
use Rattle.tables.specs.meaning.Tables.{Tables, tables_of}
use Rattle.tables.specs.laws.Made.{Made}
use Rattle.tables.specs.laws.Counted.{made_nil, made_append}
use Rattle.volume.specs.declared.Look.{Look}
use Rattle.mounting.specs.declared.Basis.{Basis}
use Rattle.mounting.specs.declared.log_headers.HeaderKind.TheVariants.{Label, Reset, Seal}
use Rattle.volume.specs.meaning.Calls.{generations_from}
use Rattle.volume.specs.meaning.CallContracts.{is_set}
use Rattle.volume.specs.meaning.Mount.{with_flush, with_flushes, zone_reset_step, counter_step, torn_row_step, fill_step, next_generation}
use Rattle.volume.specs.rows.KeptBelow.{StoresIn, pick_in}
use Rattle.mounting.specs.MountTables.{with_flush_in}
use Rattle.mounting.specs.MountLook.{shown_by, LookWithin, stays}
use Rattle.mounting.specs.MountHeaders.{headers_by}
use Rattle.mounting.specs.MountValues.{shown_in, Restoring}
use Rattle.mounting.specs.MountRestoring.{restoring_kept}
use Rattle.mounting.specs.MountResets.{zone_reset_steps, zone_reset_steps_in}
use Rattle.volume.specs.laws.Counters.{generations_length}
use Rattle.mounting.specs.MountGenerations.{counters_due, counter_stores, counter_steps, counters_in}
use Rattle.volume.specs.looking.Knowing.{read_device}

-- ---- the steps, by the code's look and the device that it found (those of headers: MountHeaders)
abbrev pub zone_resets_by : Geometry → Look → Device → List Store
zone_resets_by g k w = zone_reset_step g (shown_by k)

abbrev pub counters_by : Geometry → Look → Bool → Device → List Store
counters_by g k differ w = counter_step g (shown_by k) differ

abbrev pub torn_rows_by : Geometry → List Bool → Look → Device → List Store
torn_rows_by g here k w = torn_row_step g (shown_in g here k w) w

abbrev pub fills_by : Geometry → List Bool → Look → Device → List Store
fills_by g here k w = fill_step g (shown_in g here k w) w

-- ---- WHAT A STEP MAKES AND LEAVES FOR THE NEXT
pub record StepMade (g : Geometry) (here : List Bool) (k : Look) (ps : List ℕ) (budget rest : ℕ) (step : Device → List Store) (t u : Tables) : Type 0 where
  pub made : Made g budget rest (concat (with_flush g (is_set here) (step (read_device g t.sectors ps)))) t u
  pub restoring : Restoring g here k ps u
  pub same_device : read_device g u.sectors ps ≡ read_device g t.sectors ps

-- the stores of every step leave alone what the look found: so it is such a step
pub step_made : (g : Geometry) (here : List Bool) (k : Look) (ps : List ℕ) (budget rest : ℕ) (step : Device → List Store) (t u : Tables) → Restoring g here k ps t → StoresIn g (stays k) (step (read_device g t.sectors ps))
    → Made g budget rest (concat (with_flush g (is_set here) (step (read_device g t.sectors ps)))) t u → StepMade g here k ps budget rest step t u
step_made g here k ps budget rest step t u r p m =
    let ss = step (read_device g t.sectors ps) in
    let (q, e) = restoring_kept g here k ps budget rest (concat (with_flush g (is_set here) ss)) t u r (with_flush_in g (stays k) (is_set here) ss p) m in
    record { made = m; restoring = q; same_device = e }

-- the resets of zones: the step that is handed pointers only
pub record ZonesReset (g : Geometry) (here : List Bool) (k : Look) (budget rest : ℕ) (ws ds ws' ds' : List ℕ) : Type 0 where
  pub step : (ps xs : List ℕ) → Restoring g here k ps (tables_of xs ws ds) → StepMade g here k ps budget rest (zone_resets_by g k) (tables_of xs ws ds) (tables_of xs ws' ds')

-- the counters: the step that reads nothing below the look's pointers
pub record CountersMade (g : Geometry) (here : List Bool) (k : Look) (differ : Bool) (budget rest : ℕ) (t u : Tables) : Type 0 where
  pub step : (ps : List ℕ) → Restoring g here k ps t → StepMade g here k ps budget rest (counters_by g k differ) t u

-- what it relies on
pub record CountersReady (g : Geometry) (k : Look) (xs ws : List ℕ) : Type 0 where
  pub sectors_long : length xs ≡ total_bytes g
  pub written_long : length ws ≡ cells g
  pub within : LookWithin g k

-- ---- steps in a row
abbrev pub steps_on : List (Device → List Store) → Device → List (List Store)
steps_on [] w = []
steps_on (step ∷ more) w = step w ∷ steps_on more w

pub record StepsMade (g : Geometry) (here : List Bool) (ps : List ℕ) (budget rest : ℕ) (steps : List (Device → List Store)) (t u : Tables) : Type 0 where
  pub made : Made g budget rest (concat (with_flushes g (is_set here) (steps_on steps (read_device g t.sectors ps)))) t u
  pub same_device : read_device g u.sectors ps ≡ read_device g t.sectors ps

pub no_steps : {g : Geometry} {here : List Bool} {ps : List ℕ} {budget : ℕ} {t : Tables} → StepsMade g here ps budget budget [] t t
no_steps {g} {here} {ps} {budget} {t} = record { made = made_nil g budget t; same_device = refl }

pub steps_then : {g : Geometry} {here : List Bool} {k : Look} {ps : List ℕ} {budget mid rest : ℕ} {step : Device → List Store} {steps : List (Device → List Store)} {t u v : Tables}
    → StepMade g here k ps budget mid step t u → StepsMade g here ps mid rest steps u v → StepsMade g here ps budget rest (step ∷ steps) t v
steps_then {g} {here} {k} {ps} {budget} {mid} {rest} {step} {steps} {t} {u} {v} a b =
    let w = read_device g t.sectors ps in
    let p = with_flush g (is_set here) (step w) in
    let q = with_flushes g (is_set here) (steps_on steps w) in
    record {
      made = rw (concat_append p q) (made_append g budget mid rest (concat p) (concat q) t u v a.made (rw a.same_device at b.made));
      same_device = b.same_device ∙ a.same_device;
    }

-- ---- STEPS 3 TO 9, by the code's look k (differ: whether the drives' last counters differed at the look)
abbrev pub step_list : Geometry → List Bool → Look → Bool → List (Device → List Store)
step_list g here k differ = headers_by g Label k ∷ headers_by g Reset k ∷ zone_resets_by g k ∷ counters_by g k differ ∷ headers_by g Seal k ∷ torn_rows_by g here k ∷ fills_by g here k ∷ []

-- the first four are made, whatever follows, and leave what the steps rely on
pub record ZonesRestored (b : Basis) (ps : List ℕ) (budget rest : ℕ) (t u : Tables) : Type 0 where
  pub steps : {end : ℕ} {more : List (Device → List Store)} {v : Tables} → StepsMade b.geometry b.here ps rest end more u v
      → StepsMade b.geometry b.here ps budget end (headers_by b.geometry Label b.look ∷ headers_by b.geometry Reset b.look ∷ zone_resets_by b.geometry b.look ∷ counters_by b.geometry b.look b.differ ∷ more) t v
  pub restoring : Restoring b.geometry b.here b.look ps u

-- all are made, and leave that
pub record Restored (b : Basis) (ps : List ℕ) (budget rest : ℕ) (t u : Tables) : Type 0 where
  pub steps : StepsMade b.geometry b.here ps budget rest (step_list b.geometry b.here b.look b.differ) t u
  pub restoring : Restoring b.geometry b.here b.look ps u

-- ---- the stores of each step leave alone what the look found
module _ (g : Geometry) (k : Look) (w : Device) (ok : Valid g) where
  pub resets_in : StoresIn g (stays k) (zone_resets_by g k w)
  resets_in = rw (zone_reset_steps g k) (zone_reset_steps_in g k g.drives (le_refl g.drives))

  pub counter_step_in : (differ : Bool) → StoresIn g (stays k) (counter_step g (shown_by k) differ)
  counter_step_in differ =
      let cs = generations_from (next_generation (shown_by k)) zero g.zones in
      rw (counter_steps g k differ) (pick_in g (stays k) (counters_due g k differ) (counter_stores g cs g.drives) (λ e. counters_in g k cs g.drives ok (generations_length (next_generation (shown_by k)) zero g.zones) (le_refl g.drives)))
