use Rattle.mounting.specs.MountLastEntries.{entry_due, due_same, due_placed, due_inside, entry_absent, entry_idle, entry_made_lem}
use Rattle.mounting.specs.MountValues.{shown_at}
use Rattle.volume.specs.meaning.CallContracts.{is_set}
use Rattle.volume.specs.laws.CallContracts.{appends_nil}
use Rattle.volume.specs.meaning.Rules.{parity_entries}
use borrow.Author.Tests.{not-true, not-false}
use mathlib.Core.Path.{◌≡◌, sym, ◌∙◌}
use borrow.Author.Rules.{rules}
use Rattle.mounting.proofs.entries.log_entry.Statement.{statement}
use Rattle.mounting.proofs.entries.log_entry.Tie as tie
use Rattle.volume.specs.looking.Knowing.{read_device}

returns : tie.Need-returns-then-not-here-drive
returns c =
    let a = c.args in
    rw (entry_absent a.basis.geometry a.basis.look (shown_at a.basis.geometry a.basis.here a.basis.look a.sectors.now a.pointers.now) (parity_entries a.to (read_device a.to a.sectors.now a.starts.now) a.drive) (is_set a.basis.here) a.drive a.z (not-true (is_set a.basis.here a.drive) c.if-not-here-drive.true-raw)) (appends_nil a.to a.budget a.sectors.now a.written.now)

-- whether one is due, as the call's geometry says it
due-is : (c : tie.After-entry_due) → let s = c.before.before.before.before.before.before.before.before in let a = s.args in c.entry_due.result ≡ entry_due a.basis.geometry a.basis.look (parity_entries a.to (read_device a.to a.sectors.now a.starts.now) a.drive) a.drive a.z
due-is c =
    let s = c.before.before.before.before.before.before.before.before in
    let a = s.args in
    c.entry_due.ensures ∙ due_same a.basis.geometry a.to s.requires.1.2.appends.shape a.basis.look (parity_entries a.to (read_device a.to a.sectors.now a.starts.now) a.drive) a.drive a.z

entry-due-requires : tie.Need-entry_due-requires
entry-due-requires c κs =
    let s = c.before.before.before.before.before.before.before in
    let a = s.args in
    let e = s.requires.1.2 in
    let p = e.appends in
    due_placed a.basis.geometry a.to p.shape a.basis.look a.sectors.now a.starts.now a.drive a.z s.requires.0 s.requires.1.0 s.requires.1.1 p.sectors_long e.starts_long p.within

returns-2 : tie.Need-returns-then-not-entry_due
returns-2 c =
    let a = c.args in
    let d = c.entry_due in
    rw (entry_idle a.basis.geometry a.basis.look (shown_at a.basis.geometry a.basis.here a.basis.look a.sectors.now a.pointers.now) (parity_entries a.to (read_device a.to a.sectors.now a.starts.now) a.drive) (is_set a.basis.here) a.drive a.z (sym (due-is c.before) ∙ not-true d.result c.if-not-entry_due.true-raw)) (appends_nil a.to a.budget a.sectors.now a.written.now)

append-entry-requires : tie.Need-append_entry-requires
append-entry-requires c κs =
    let s = c.before.before.before.before.before.before.before.before.before.before.before in
    let a = s.args in
    let d = c.entry_due in
    (s.requires.0, (s.requires.1.0, s.requires.1.1, due_inside a.basis.geometry a.basis.look a.drive a.z (parity_entries a.to (read_device a.to a.sectors.now a.starts.now) a.drive) (sym (due-is c.before.before.before) ∙ not-false d.result c.if-not-entry_due.false-raw), s.requires.1.2.appends))

returns-3 : tie.Need-returns
returns-3 c =
    let s = c.before.before.before.before.before.before.before.before.before.before.before.before.before.before.before.before in
    let a = s.args in
    let d = c.entry_due in
    rw (entry_made_lem a.basis.geometry a.basis.look (shown_at a.basis.geometry a.basis.here a.basis.look a.sectors.now a.pointers.now) (parity_entries a.to (read_device a.to a.sectors.now a.starts.now) a.drive) (is_set a.basis.here) a.drive a.z (not-false (is_set a.basis.here a.drive) c.if-not-here-drive.false-raw) (sym (due-is c.before.before.before.before.before.before.before.before) ∙ not-false d.result c.if-not-entry_due.false-raw)) c.append_entry.ensures

pub log_entry_spec : {M : Type 1} → statement M
log_entry_spec =
    tie.close
    (tie.spec (λ c. search rules) returns entry-due-requires (λ c. search rules) returns-2 append-entry-requires (λ c. search rules) (λ c. search rules)
    returns-3)
