-- The zone report (document 02, 2.1): "start, capacity, pointer and condition of each zone", "from the state alone", into a list that the host lends.
use Rattle.std.specs.Prelude.{Bool, ◌&&◌, ℕ, ◌*◌, List, ◌++◌, length, drop, ltb}
use Rattle.tables.specs.declared.Geometry.{Geometry}
use Rattle.tables.specs.meaning.Basics.{pick}
use Rattle.tables.specs.meaning.Below.{tabulate}
use Rattle.tables.specs.meaning.Geometry.{zone_sectors}
use Rattle.tables.specs.meaning.GeometryTest.{is_valid}
use Rattle.volume.specs.declared.Answer.{Answer}
use Rattle.volume.specs.declared.Answer.TheVariants.{Finished, Refused}
use Rattle.volume.specs.declared.Condition.{Condition}
use Rattle.volume.specs.declared.Condition.TheVariants.{Empty, Open, Sealed, Worn}
use Rattle.volume.specs.declared.ReportedCondition.{ReportedCondition}
use Rattle.volume.specs.declared.ReportedCondition.TheVariants as told
use Rattle.volume.specs.declared.ZoneDescriptor.{ZoneDescriptor}
use Rattle.volume.specs.meaning.State.{StateView, pointer_in}
use Rattle.volume.specs.meaning.Refusals.{state_within}

-- ==== one zone
-- "Sealed and worn zones are reported read-only"; a zone written to its end is open
abbrev pub told_of : Condition → ReportedCondition
told_of Empty = told.Empty
told_of (Open n) = told.Open
told_of (Sealed n) = told.ReadOnly
told_of (Worn n) = told.ReadOnly

-- the number that stands for a condition where a report is written in bytes
abbrev pub told_number : ReportedCondition → ℕ
told_number told.Empty = 0
told_number told.Open = 1
told_number told.ReadOnly = 2

-- of zone z under a condition. The pointer counts from the zone's start
abbrev pub descriptor_of : Geometry → ℕ → Condition → ZoneDescriptor
descriptor_of g z c = record { start = z * zone_sectors g; capacity = zone_sectors g; pointer = pointer_in c; condition = told_of c }

-- ==== the call
-- "From the state alone (refusal 1)": the bounds of the geometry and of the state
abbrev pub may_report : Geometry → StateView → Bool
may_report g state = is_valid g && state_within g state

-- "as many as are lent but at most L"
abbrev pub filled_number : Geometry → ℕ → ℕ
filled_number g room = pick (ltb room g.zones) room g.zones

-- the list with its first n descriptors filled "in zone order"; "descriptors past it keep their contents"
abbrev pub filled_list : Geometry → (ℕ → Condition) → ℕ → List ZoneDescriptor → List ZoneDescriptor
filled_list g condition n list = tabulate (λ z. descriptor_of g z (condition z)) n ++ drop n list

-- the answer, the number of descriptors filled, and the list as it is then (L: what a list is)
pub record ReportResult (L : Type 0) : Type 0 where
  pub answer : Answer
  pub number : ℕ
  pub list : L

-- of zones in these conditions
abbrev pub report_of : Geometry → (ℕ → Condition) → List ZoneDescriptor → ReportResult (List ZoneDescriptor)
report_of g condition list = record { answer = Finished; number = filled_number g (length list); list = filled_list g condition (filled_number g (length list)) list }

-- refused: the list is as it was
unfoldable pub report_on : Geometry → StateView → List ZoneDescriptor → ReportResult (List ZoneDescriptor)
report_on g state list = pick (may_report g state) (report_of g state.condition list) (record { answer = Refused 1; number = 0; list = list })
