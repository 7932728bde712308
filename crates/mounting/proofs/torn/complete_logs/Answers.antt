use Rattle.std.proofs.Common.{◌≡◌, ℕ, List, add-one, arith}
use Rattle.tables.specs.meaning.Below.{each_below}
use Rattle.tables.specs.meaning.Device.{Store}
use Rattle.tables.specs.meaning.Phases.{on_present}
use Rattle.volume.specs.meaning.CallContracts.{is_set}
use Rattle.volume.specs.looking.Knowing.{read_device}
use Rattle.volume.specs.rows.KeptBelow.{on_present_in}
use Rattle.mounting.specs.MountValues.{shown_at}
use Rattle.mounting.specs.MountTables.{appends_more}
use Rattle.mounting.specs.MountLook.{stays}
use Rattle.mounting.specs.MountTornLogs.{torn_stores, torn_drives_in}
use Rattle.mounting.specs.MountRestoring.{StillFilling, filled}
use Rattle.mounting.proofs.torn.complete_logs.Goals as goal
use Rattle.mounting.proofs.torn.complete_logs.Goals.{At-loop-d}

-- the stores of each drive
abbrev row : At-loop-d → ℕ → List Store
row c = let a = c.args in torn_stores a.basis.geometry (shown_at a.basis.geometry a.basis.here a.basis.look a.sectors.now a.pointers.now) (read_device a.basis.geometry a.sectors.now a.pointers.now)

-- what those so far have left alone
kept : (c : At-loop-d) → let a = c.args in StillFilling a.basis.geometry a.basis.here a.basis.look a.pointers.now a.sectors.now c.loop-d.sectors c.loop-d.written
kept c =
    let a = c.args in
    let l = c.loop-d in
    let e = c.requires.filling in
    filled a.basis.geometry a.basis.here a.basis.look a.budget l.rest (on_present (is_set a.basis.here) (each_below (row c) l.d)) a.pointers.now a.sectors.now a.written.now l.sectors l.written e (on_present_in a.basis.geometry (stays a.basis.look) (is_set a.basis.here) (each_below (row c) l.d) (torn_drives_in a.basis.geometry a.basis.here a.basis.look a.pointers.now a.sectors.now a.written.now c.requires.valid e l.d (omega arith))) l.invariant

pub complete_log-rest-requires-clause-drive_lt_drives : goal.complete_log-rest-requires-clause-drive_lt_drives
complete_log-rest-requires-clause-drive_lt_drives c = let k = kept (goal.at.complete_log-rest-requires-clause-drive_lt_drives c).At-loop-d in (omega arith, k.0)

pub loop-d-preserved : goal.loop-d-preserved
loop-d-preserved c =
    let p = (goal.at.loop-d-preserved c).At-loop-d in
    let a = c.args in
    let l = c.loop-d in
    let f = c.complete_log-rest in
    rw add-one (appends_more a.basis.geometry (is_set a.basis.here) a.budget l.rest f.result (row p) l.d a.sectors.now a.written.now l.sectors l.written f.new.sectors f.new.written l.invariant (rw (kept p).1 at f.ensures))

pub returns : goal.returns
returns c = let e : c.loop-d.d ≡ c.args.basis.geometry.drives = omega arith in rw e at c.loop-d.invariant
