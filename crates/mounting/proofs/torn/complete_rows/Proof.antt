use Prim.Native.Nat.{◌+◌, ◌*◌, ◌≤◌}
use mathlib.Core.Path.{◌≡◌}
use mathlib.Core.Bool.{true, false, ◌&&◌}
use native.Mathlib.Omega.{arith}
use lib.Dec.{eqb, leb}
use borrow.Author.Tests.{leb-true}
use Rattle.tables.specs.laws.Basics.{and_split}
use Rattle.tables.specs.laws.Sizes.{zone_small}
use Rattle.tables.specs.meaning.Geometry.{stripe_sectors}
use Rattle.volume.specs.meaning.Rules.{ZoneShown}
use Rattle.logs.specs.meaning.Entry.{parity_zone}
use Rattle.mounting.specs.MountLook.{log_stays}
use Rattle.mounting.specs.MountValues.{shown_at}
use Rattle.mounting.specs.MountReady.{Appending, filling_appends}
use Rattle.mounting.specs.MountTornLogs.{rows_current, rows_stale}
use borrow.Author.Rules.{rules}
use Rattle.mounting.proofs.torn.complete_rows.Statement.{statement}
use Rattle.mounting.proofs.torn.complete_rows.Tie as tie

abbrev shown : tie.Start → ZoneShown
shown s = let a = s.args in (shown_at a.basis.geometry a.basis.here a.basis.look a.sectors.now a.pointers.now).zone a.entry.zone

-- the entry's end is small
end-small : (c : tie.After-stripe_sectors-k) → c.args.entry.stripe * c.stripe_sectors-k.result + c.args.entry.fill ≤ 458752
end-small c = let s = c.before.before.before.before.before.before in rw c.stripe_sectors-k.ensures.0 (omega (arith, s.requires.1.2, (zone_small s.args.basis.geometry s.requires.0).1))

mul-current : tie.Need-overflow_mul-current
mul-current c = omega (arith, end-small c)

add-current : tie.Need-overflow_add-current
add-current c = omega (arith, end-small c)

-- whether it is current
current : (c : tie.Then-current) → let s = c.before.before.before.before.before.before.before.before in let e = s.args.entry in eqb s.args.n (shown s).generation && leb (e.stripe * stripe_sectors s.args.basis.geometry + e.fill) (shown s).pointer ≡ true
current c = rw c.stripe_sectors-k.ensures.0 at c.if-current.true

stale : (c : tie.Else-current) → let s = c.before.before.before.before.before.before.before.before in let e = s.args.entry in eqb s.args.n (shown s).generation && leb (e.stripe * stripe_sectors s.args.basis.geometry + e.fill) (shown s).pointer ≡ false
stale c = rw c.stripe_sectors-k.ensures.0 at c.if-current.false

-- the rows go to the parity log
appends : (s : tie.Start) → let a = s.args in Appending a.basis.geometry a.basis.geometry a.basis.here a.basis.look parity_zone a.pointers.now a.sectors.now a.written.now
appends s = let a = s.args in let b = a.basis in filling_appends b.geometry b.here b.look parity_zone a.pointers.now a.sectors.now a.written.now (log_stays b.look parity_zone (omega arith)) s.requires.1.4

append-entry-rows-requires : tie.Need-append_entry_rows-requires
append-entry-rows-requires c κs =
    let s = c.before.before.before.before.before.before.before.before.before.before.before in
    let e = s.args.entry in
    let end = e.stripe * stripe_sectors s.args.basis.geometry + e.fill in
    (s.requires.0, (s.requires.1.0, s.requires.1.1, leb-true end (shown s).pointer (and_split (eqb s.args.n (shown s).generation) (leb end (shown s).pointer) (current c.before.before.before)).1, s.requires.1.3, appends s))

returns : tie.Need-returns-then-current
returns c =
    let s = c.before.before.before.before.before.before.before.before.before.before.before.before.before.before.before.before in
    let a = s.args in
    let e = a.entry in
    rw (rows_current a.basis.geometry (shown s) e.drive e.stripe e.fill a.n e.from (current c.before.before.before.before.before.before.before.before)) c.append_entry_rows.ensures

append-zero-rows-requires : tie.Need-append_zero_rows-requires
append-zero-rows-requires c κs =
    let s = c.before.before.before.before.before.before.before.before.before.before in
    let l = s.requires.1.4.logging in
    rw c.min-m.ensures (s.requires.0, (s.requires.1.0, l.sectors_long, l.written_long, s.requires.1.3, omega arith))

returns-2 : tie.Need-returns
returns-2 c =
    let s = c.before.before.before.before.before.before.before.before.before.before.before.before.before.before.before.before.before in
    let a = s.args in
    let e = a.entry in
    rw (rows_stale a.basis.geometry (shown s) e.drive e.stripe e.fill a.n e.from (stale c.before.before.before.before.before.before.before.before.before)) (rw c.min-m.ensures at c.append_zero_rows.ensures)

pub complete_rows_spec : {M : Type 1} → statement M
complete_rows_spec =
    tie.close
    (tie.spec (λ c. search rules) (λ c. search rules) (λ c κs. search rules) mul-current add-current append-entry-rows-requires (λ c. search rules) (λ c. search rules) returns
    (λ c κs. search rules) append-zero-rows-requires (λ c. search rules) (λ c. search rules) returns-2)
