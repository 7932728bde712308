use Rattle.std.proofs.Common.{◌≡◌, ℕ, List, add-one, arith}
use Rattle.tables.specs.meaning.Below.{each_below}
use Rattle.tables.specs.meaning.Device.{Store}
use Rattle.tables.specs.meaning.Phases.{on_present}
use Rattle.volume.specs.meaning.CallContracts.{is_set}
use Rattle.volume.specs.looking.Knowing.{read_device}
use Rattle.volume.specs.rows.KeptBelow.{on_present_in}
use Rattle.volume.specs.meaning.Rules.{parity_entries}
use Rattle.mounting.specs.MountValues.{shown_at}
use Rattle.mounting.specs.MountTables.{appends_more}
use Rattle.mounting.specs.MountLastEntries.{StillEntering, on_parity, zone_entry_stores, entered, entries_below_in}
use Rattle.mounting.proofs.entries.log_entries.Goals as goal
use Rattle.mounting.proofs.entries.log_entries.Goals.{At-loop-d}

-- the stores of each drive
abbrev row : At-loop-d → ℕ → List Store
row c = let a = c.args in λ e. each_below (zone_entry_stores a.basis.geometry a.basis.look (shown_at a.basis.geometry a.basis.here a.basis.look a.sectors.now a.pointers.now) (parity_entries a.to (read_device a.to a.sectors.now a.starts.now) e) e) a.basis.geometry.zones

-- what those so far have left alone
kept : (c : At-loop-d) → let a = c.args in StillEntering a.basis.geometry a.to a.basis.here a.basis.look a.pointers.now a.starts.now a.sectors.now c.loop-d.sectors c.loop-d.written
kept c =
    let a = c.args in
    let l = c.loop-d in
    let e = c.requires.entering in
    let within = entries_below_in a.basis.geometry a.basis.here a.basis.look a.pointers.now a.sectors.now c.requires.valid e.appends.known_below (parity_entries a.to (read_device a.to a.sectors.now a.starts.now)) l.d (omega arith) in
    entered a.basis.geometry a.to a.basis.here a.basis.look a.budget l.rest (on_present (is_set a.basis.here) (each_below (row c) l.d)) a.pointers.now a.starts.now a.sectors.now a.written.now l.sectors l.written e (on_present_in a.basis.geometry on_parity (is_set a.basis.here) (each_below (row c) l.d) within) l.invariant

pub log_drive-rest-requires-clause-drive_lt_drives : goal.log_drive-rest-requires-clause-drive_lt_drives
log_drive-rest-requires-clause-drive_lt_drives c = let k = kept (goal.at.log_drive-rest-requires-clause-drive_lt_drives c).At-loop-d in (omega arith, k.0)

pub loop-d-preserved : goal.loop-d-preserved
loop-d-preserved c =
    let p = (goal.at.loop-d-preserved c).At-loop-d in
    let a = c.args in
    let l = c.loop-d in
    let f = c.log_drive-rest in
    rw add-one (appends_more a.to (is_set a.basis.here) a.budget l.rest f.result (row p) l.d a.sectors.now a.written.now l.sectors l.written f.new.sectors f.new.written l.invariant (rw ((kept p).1, (kept p).2) at f.ensures))

pub returns : goal.returns
returns c = let e : c.loop-d.d ≡ c.args.basis.geometry.drives = omega arith in rw e at c.loop-d.invariant
