use Rattle.std.proofs.Common.{◌≡◌, ℕ, List, add-one, arith}
use Rattle.tables.specs.meaning.Below.{each_below}
use Rattle.tables.specs.meaning.Device.{Store}
use Rattle.tables.specs.meaning.Phases.{on_present}
use Rattle.volume.specs.meaning.CallContracts.{is_set}
use Rattle.volume.specs.looking.Knowing.{read_device}
use Rattle.mounting.specs.MountTables.{appends_more}
use Rattle.mounting.specs.MountHeaders.{Logging, logged, header_stores, header_steps_in}
use Rattle.mounting.proofs.log_headers.log_headers.Goals as goal
use Rattle.mounting.proofs.log_headers.log_headers.Goals.{At-loop-d}

-- the stores of each drive
abbrev row : At-loop-d → ℕ → List Store
row c = let a = c.args in λ e. each_below (header_stores a.basis.geometry a.kind a.basis.look (read_device a.basis.geometry a.sectors.now a.pointers.now) e) a.n

-- what those so far have left alone
kept : (c : At-loop-d) → let a = c.args in Logging a.basis.geometry a.basis.look a.pointers.now c.loop-d.sectors c.loop-d.written × (read_device a.basis.geometry c.loop-d.sectors a.pointers.now ≡ read_device a.basis.geometry a.sectors.now a.pointers.now)
kept c =
    let a = c.args in
    let l = c.loop-d in
    let e = c.requires.n_le_zones in
    let w = read_device a.basis.geometry a.sectors.now a.pointers.now in
    logged a.basis.geometry a.basis.look a.budget l.rest (on_present (is_set a.basis.here) (each_below (row c) l.d)) a.pointers.now a.sectors.now a.written.now l.sectors l.written e.1 (header_steps_in a.basis.geometry a.kind a.basis.look w (is_set a.basis.here) c.requires.valid a.n l.d (omega arith)) l.invariant

pub log_drive-rest-requires-clause-drive_lt_drives : goal.log_drive-rest-requires-clause-drive_lt_drives
log_drive-rest-requires-clause-drive_lt_drives c = let k = kept (goal.at.log_drive-rest-requires-clause-drive_lt_drives c).At-loop-d in (omega arith, c.requires.n_le_zones.0, k.0)

pub loop-d-preserved : goal.loop-d-preserved
loop-d-preserved c =
    let p = (goal.at.loop-d-preserved c).At-loop-d in
    let a = c.args in
    let l = c.loop-d in
    let f = c.log_drive-rest in
    rw add-one (appends_more a.basis.geometry (is_set a.basis.here) a.budget l.rest f.result (row p) l.d a.sectors.now a.written.now l.sectors l.written f.new.sectors f.new.written l.invariant (rw (kept p).1 at f.ensures))

pub returns : goal.returns
returns c = let e : c.loop-d.d ≡ c.args.basis.geometry.drives = omega arith in rw e at c.loop-d.invariant
