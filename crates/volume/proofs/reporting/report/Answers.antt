use Rattle.std.proofs.Common.{◌≡◌, ◌<◌, length, arith, add-one}
use Rattle.tables.specs.meaning.Geometry.{Valid}
use Rattle.volume.specs.meaning.CallContracts.{view_state}
use Rattle.volume.specs.meaning.Report.{descriptor_of}
use Rattle.volume.specs.reading.Reporting.{report_answer, report_number_lem, report_list, below_number, filled_more}
use Rattle.volume.proofs.reporting.report.Goals as goal
use Rattle.volume.proofs.reporting.report.Goals.{In-loop-z}

-- the zone of a turn is there, and so is its place in the list
there : (c : In-loop-z) → Valid c.args.g × (c.loop-z.z < c.args.g.zones) × (c.loop-z.z < length c.args.list.now)
there c = below_number c.args.g (view_state c.args.state) (length c.args.list.now) c.loop-z.z (rw (← c.report_number-n.ensures) c.loop-z-test.true)

pub describe-requires : goal.describe-requires
describe-requires c = let t = there c in (t.0, t.1)

pub offset_bounds-list-z : goal.offset_bounds-list-z
offset_bounds-list-z c = let t = there c.before in let small : c.loop-z.z < 16 = omega (arith, t.1, t.0.zones_most) in record { fits = omega arith }

pub bounds-list-z : goal.bounds-list-z
bounds-list-z c = let t = there c.before in omega (arith, t.2, c.loop-z.auto.list)

pub loop-z-preserved : goal.loop-z-preserved
loop-z-preserved c =
    let a = c.args in
    let l = c.loop-z in
    let t = there c.before in
    rw (l.invariant, c.describe.ensures, add-one) (filled_more (λ z. descriptor_of a.g z ((view_state a.state).condition z)) l.z a.list.now t.2)

pub returns : goal.returns
returns c =
    let a = c.args in
    let v = view_state a.state in
    let e : c.loop-z.z ≡ c.report_number-n.result = omega arith in (
      rw c.reported.ensures (report_answer a.g v a.list.now c.report_number-n.result),
      rw (c.reported.ensures, c.report_number-n.ensures) (report_number_lem a.g v a.list.now),
      rw (c.loop-z.invariant, e, c.report_number-n.ensures) (report_list a.g v a.list.now),
    )
