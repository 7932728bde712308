use Rattle.std.proofs.Common.{◌≡◌, ℕ, List, add-one, arith}
use Rattle.tables.specs.meaning.Below.{each_below}
use Rattle.tables.specs.meaning.Device.{Store}
use Rattle.tables.specs.meaning.Phases.{on_present}
use Rattle.volume.specs.meaning.CallContracts.{is_set}
use Rattle.volume.specs.looking.Knowing.{read_device}
use Rattle.mounting.specs.MountValues.{shown_at}
use Rattle.mounting.specs.MountTables.{appends_more}
use Rattle.volume.specs.laws.FillStores.{fill_zone}
use Rattle.mounting.specs.MountFillOn.{fill_drives_in}
use Rattle.mounting.specs.MountRestoring.{StillFilling, filled}
use Rattle.mounting.proofs.fill.fill_drives.Goals as goal
use Rattle.mounting.proofs.fill.fill_drives.Goals.{At-loop-d}

-- the stores of each drive
abbrev row : At-loop-d → ℕ → List Store
row c = let a = c.args in λ e. each_below (fill_zone a.basis.geometry (shown_at a.basis.geometry a.basis.here a.basis.look a.sectors.now a.pointers.now) (read_device a.basis.geometry a.sectors.now a.pointers.now) e) a.basis.geometry.zones

-- what those so far have left alone
kept : (c : At-loop-d) → let a = c.args in StillFilling a.basis.geometry a.basis.here a.basis.look a.pointers.now a.sectors.now c.loop-d.sectors c.loop-d.written
kept c =
    let a = c.args in
    let l = c.loop-d in
    let e = c.requires.filling in
    filled a.basis.geometry a.basis.here a.basis.look a.budget l.rest (on_present (is_set a.basis.here) (each_below (row c) l.d)) a.pointers.now a.sectors.now a.written.now l.sectors l.written e (fill_drives_in a.basis.geometry a.basis.here a.basis.look a.pointers.now a.sectors.now a.written.now c.requires.valid e (is_set a.basis.here) l.d (omega arith)) l.invariant

pub fill_drive-rest-requires-clause-drive_lt_drives : goal.fill_drive-rest-requires-clause-drive_lt_drives
fill_drive-rest-requires-clause-drive_lt_drives c = let k = kept (goal.at.fill_drive-rest-requires-clause-drive_lt_drives c).At-loop-d in (omega arith, k.0)

pub loop-d-preserved : goal.loop-d-preserved
loop-d-preserved c =
    let p = (goal.at.loop-d-preserved c).At-loop-d in
    let a = c.args in
    let l = c.loop-d in
    let f = c.fill_drive-rest in
    rw add-one (appends_more a.basis.geometry (is_set a.basis.here) a.budget l.rest f.result (row p) l.d a.sectors.now a.written.now l.sectors l.written f.new.sectors f.new.written l.invariant (rw (kept p).1 at f.ensures))

pub returns : goal.returns
returns c = let e : c.loop-d.d ≡ c.args.basis.geometry.drives = omega arith in rw e at c.loop-d.invariant
