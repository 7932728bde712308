use mathlib.Core.Path.{◌≡◌, sym, ap, ◌∙◌}
use mathlib.Core.Bool.{Bool, true, false, ◌&&◌}
use Prim.Native.Nat.{ℕ}
use native.Mathlib.Omega.{arith}
use borrow.Author.Tests.{not-true, not-false}
use Rattle.tables.specs.meaning.Basics.{pick}
use Rattle.volume.specs.declared.write_room.EntryDrive.{EntryDrive}
use Rattle.volume.specs.declared.write_room.EntryTaken.{EntryTaken}
use Rattle.volume.specs.meaning.Content.{parity_drive_at}
use Rattle.volume.specs.meaning.Emptying.{entry_size}
use Rattle.volume.specs.meaning.CallContracts.{is_set}
use Rattle.volume.specs.writing.WriteRoom.{has_entry}
use borrow.Author.Rules.{rules}
use Rattle.volume.proofs.write_room.entry_taken.Statement.{statement}
use Rattle.volume.proofs.write_room.entry_taken.Tie as tie

abbrev to_start : tie.After-entry_drive-entry → tie.Start
to_start c = c.before.before.before

-- whether there is an entry on a drive that is here
due-is : (c : tie.After-entry_drive-entry) → let a = (to_start c).args in c.entry_drive-entry.result.inside && is_set a.zone.here c.entry_drive-entry.result.drive ≡ has_entry a.zone a.end
due-is c = ap (λ (e : EntryDrive). e.inside && is_set (to_start c).args.zone.here e.drive) c.entry_drive-entry.ensures.0

-- the answer by that
abbrev answer : tie.Start → Bool → EntryTaken
answer s b = let a = s.args in record { drive = parity_drive_at a.zone.geometry a.zone.number a.end; sectors = pick b (entry_size a.zone.geometry a.end) 0 }

at-drive : (c : tie.After-entry_drive-entry) (n : ℕ) → ◌≡◌ {A = EntryTaken} (record { drive = c.entry_drive-entry.result.drive; sectors = n }) (record { drive = parity_drive_at (to_start c).args.zone.geometry (to_start c).args.zone.number (to_start c).args.end; sectors = n })
at-drive c n = ap (λ (e : EntryDrive). record { drive = e.drive; sectors = n }) c.entry_drive-entry.ensures.0

returns : tie.Need-returns-then-not-due
returns c =
    let d = c.before in
    let none : has_entry (to_start d).args.zone (to_start d).args.end ≡ false = sym (due-is d) ∙ not-true (d.entry_drive-entry.result.inside && is_set (to_start d).args.zone.here d.entry_drive-entry.result.drive) c.if-not-due.true-raw in
    (at-drive d 0 ∙ ap (answer (to_start d)) (sym none), d.entry_drive-entry.ensures.1, omega arith)

returns-2 : tie.Need-returns
returns-2 c =
    let d = c.before.before.before in
    let some : has_entry (to_start d).args.zone (to_start d).args.end ≡ true = sym (due-is d) ∙ not-false (d.entry_drive-entry.result.inside && is_set (to_start d).args.zone.here d.entry_drive-entry.result.drive) c.if-not-due.false-raw in
    let size : EntryTaken = answer (to_start d) true in
    (at-drive d c.entry_size-sectors.result ∙ ap (λ (n : ℕ). record { drive = size.drive; sectors = n }) c.entry_size-sectors.ensures.0 ∙ ap (answer (to_start d)) (sym some), d.entry_drive-entry.ensures.1, c.entry_size-sectors.ensures.1)

pub entry_taken_spec : {M : Type 1} → statement M
entry_taken_spec =
    tie.close
    (tie.spec (λ c κs. search rules) (λ c. search rules) returns (λ c κs. search rules) returns-2)
