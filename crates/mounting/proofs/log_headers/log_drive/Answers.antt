use Rattle.std.proofs.Common.{◌≡◌, ℕ, List, add-one, arith}
use Rattle.tables.specs.meaning.Below.{each_below}
use Rattle.tables.specs.meaning.Device.{Store}
use Rattle.tables.specs.meaning.Phases.{on_present}
use Rattle.volume.specs.meaning.CallContracts.{is_set}
use Rattle.volume.specs.looking.Knowing.{read_device}
use Rattle.mounting.specs.MountTables.{appends_more}
use Rattle.mounting.specs.MountHeaders.{Logging, logged, header_stores, header_row_in}
use Rattle.mounting.proofs.log_headers.log_drive.Goals as goal
use Rattle.mounting.proofs.log_headers.log_drive.Goals.{At-loop-z}

-- the stores of each zone
abbrev row : At-loop-z → ℕ → List Store
row c = let a = c.args in header_stores a.basis.geometry a.kind a.basis.look (read_device a.basis.geometry a.sectors.now a.pointers.now) a.drive

-- what those so far have left alone
kept : (c : At-loop-z) → let a = c.args in Logging a.basis.geometry a.basis.look a.pointers.now c.loop-z.sectors c.loop-z.written × (read_device a.basis.geometry c.loop-z.sectors a.pointers.now ≡ read_device a.basis.geometry a.sectors.now a.pointers.now)
kept c =
    let a = c.args in
    let l = c.loop-z in
    let e = c.requires.drive_lt_drives in
    let w = read_device a.basis.geometry a.sectors.now a.pointers.now in
    logged a.basis.geometry a.basis.look a.budget l.rest (on_present (is_set a.basis.here) (each_below (row c) l.z)) a.pointers.now a.sectors.now a.written.now l.sectors l.written e.2 (header_row_in a.basis.geometry a.kind a.basis.look w (is_set a.basis.here) c.requires.valid a.drive l.z e.0) l.invariant

pub log_header-rest-requires-clause-drive_lt_drives : goal.log_header-rest-requires-clause-drive_lt_drives
log_header-rest-requires-clause-drive_lt_drives c = let k = kept (goal.at.log_header-rest-requires-clause-drive_lt_drives c).At-loop-z in (c.requires.drive_lt_drives.0, omega arith, k.0)

pub loop-z-preserved : goal.loop-z-preserved
loop-z-preserved c =
    let p = (goal.at.loop-z-preserved c).At-loop-z in
    let a = c.args in
    let l = c.loop-z in
    let f = c.log_header-rest in
    rw add-one (appends_more a.basis.geometry (is_set a.basis.here) a.budget l.rest f.result (row p) l.z a.sectors.now a.written.now l.sectors l.written f.new.sectors f.new.written l.invariant (rw (kept p).1 at f.ensures))

pub returns : goal.returns
returns c = let e : c.loop-z.z ≡ c.args.n = omega arith in rw e at c.loop-z.invariant
