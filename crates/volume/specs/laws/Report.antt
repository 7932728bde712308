-- Laws of the zone report: it is finished where nothing refuses it, and depends on the conditions of the volume's zones alone.
use Rattle.std.specs.Prelude.{◌≡◌, refl, Bool, true, false, ℕ, ◌<◌, ◌≤◌, List, ◌++◌, length, drop, ltb}
use Rattle.std.proofs.Common.{ap, arith, ltb-true}
use Rattle.tables.specs.declared.Geometry.{Geometry}
use Rattle.tables.specs.meaning.Basics.{pick}
use Rattle.tables.specs.laws.Below.{tabulate_cong}
use Rattle.volume.specs.declared.Answer.TheVariants.{Finished, Refused}
use Rattle.volume.specs.declared.Condition.{Condition}
use Rattle.volume.specs.declared.ZoneDescriptor.{ZoneDescriptor}
use Rattle.volume.specs.meaning.State.{StateView}
use Rattle.volume.specs.meaning.Report.{descriptor_of, may_report, filled_number, ReportResult, report_of, report_on}

pub report_finished : (g : Geometry) (state : StateView) → may_report g state ≡ true → (list : List ZoneDescriptor) → report_on g state list ≡ report_of g state.condition list
unfolding report_on
report_finished g state h list = ap (λ (b : Bool). pick b (report_of g state.condition list) (record { answer = Refused 1; number = 0; list = list })) h

-- no more than there are zones
pub filled_most : (g : Geometry) (room : ℕ) → filled_number g room ≤ g.zones
filled_most g room = go (ltb room g.zones) refl
  where
    go : (b : Bool) → ltb room g.zones ≡ b → pick b room g.zones ≤ g.zones
    go true e = let l : room < g.zones = ltb-true room g.zones e in omega arith
    go false e = omega arith

-- the same conditions of the volume's zones: the same report
pub report_same : (g : Geometry) (a b : ℕ → Condition) (list : List ZoneDescriptor) → ((z : ℕ) → z < g.zones → a z ≡ b z) → report_of g a list ≡ report_of g b list
report_same g a b list h =
    let n = filled_number g (length list) in
    let e = tabulate_cong (λ z. descriptor_of g z (a z)) (λ z. descriptor_of g z (b z)) n (λ z l. ap (descriptor_of g z) (h z (omega (arith, l, filled_most g (length list))))) in
    ap (λ (xs : List ZoneDescriptor). let r : ReportResult (List ZoneDescriptor) = record { answer = Finished; number = n; list = xs ++ drop n list } in r) e
