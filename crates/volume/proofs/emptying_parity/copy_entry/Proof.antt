use Prim.Native.Nat.{ℕ, suc, ◌+◌, ◌-◌, ◌≤◌, ◌<◌, min}
use mathlib.Core.Path.{◌≡◌, sym, ap, subst, ◌∙◌}
use mathlib.Core.List.{List}
use mathlib.Core.Bool.{true}
use native.Mathlib.Omega.{arith}
use borrow.Author.Tests.{not-true, not-false}
use Rattle.tables.specs.meaning.Below.{tabulate_from}
use Rattle.tables.specs.meaning.Device.{Store}
use Rattle.tables.specs.meaning.Tables.{sector_at}
use Rattle.tables.specs.laws.Made.{MadeAppends}
use Rattle.logs.specs.declared.Log.{Log}
use Rattle.logs.specs.meaning.Entry.{parity_zone}
use Rattle.logs.specs.laws.Heads.{ends_within}
use Rattle.logs.specs.laws.Places.{last_place}
use Rattle.logs.specs.code.Query.{log_heads}
use Rattle.volume.specs.meaning.Calls.{append_all}
use Rattle.volume.specs.meaning.Content.{fill_of}
use Rattle.volume.specs.laws.CallContracts.{appends_nil}
use Rattle.volume.specs.looking.DriveLogs.{in_log}
use Rattle.volume.specs.emptying.ParityCopies.{copied_at, entry_sectors}
use Rattle.volume.specs.emptying.ParityReady.{point_inside, point_making, place_at, entries_at, entry_skipped, entry_lacks, entry_is_made, entry_is_found}
use borrow.Author.Rules.{rules}
use Rattle.volume.proofs.emptying_parity.copy_entry.Statement.{statement}
use Rattle.volume.proofs.emptying_parity.copy_entry.Tie as tie

returns : tie.Need-returns-then-not-is_copied
returns c =
    let s = c.before.before.before.before.before.before in
    let a = s.args in
    rw (entry_skipped a.e a.point a.pointers.now a.starts.now a.sectors.now a.written.now s.requires.1 (sym c.is_copied.ensures ∙ not-true c.is_copied.result c.if-not-is_copied.true-raw)) (appends_nil a.e.to a.budget a.sectors.now a.written.now)

abbrev start : tie.Else-not-is_copied → tie.Start
start c = c.before.before.before.before.before.before.before

copied : (c : tie.Else-not-is_copied) → copied_at (start c).args.e.from (start c).args.e.drive (start c).args.point.number (start c).args.point.pointer ≡ true
copied c = sym c.is_copied.ensures ∙ not-false c.is_copied.result c.if-not-is_copied.false-raw

some : (c : tie.Else-not-is_copied) → 0 < (start c).args.point.pointer
some c = let s = start c in let a = s.args in omega (arith, point_inside a.e a.point a.pointers.now a.starts.now a.sectors.now a.written.now s.requires.1 (copied c))

last-partial-requires : tie.Need-last_partial-place-requires
last-partial-requires c κs =
    let l = c.before in
    let s = start l.before.before in
    let a = s.args in
    let k = s.requires.1.tables.copying in
    (s.requires.0, in_log a.e.from a.sectors.now a.starts.now a.e.drive parity_zone l.log_in-log.result l.log_in-log.ensures (record { sectors_long = k.sectors_long; written_long = s.requires.1.tables.starts_long }) k.moves.drive_in (omega arith))

-- the place that was found
abbrev at-start : tie.After-last_partial-place → tie.Start
at-start k = start k.before.before.before.before

place_is : (k : tie.After-last_partial-place) → k.last_partial-place.result ≡ place_at (at-start k).args.e (at-start k).args.point (at-start k).args.pointers.now (at-start k).args.starts.now (at-start k).args.sectors.now (at-start k).args.written.now (at-start k).requires.1
place_is k =
    let a = (at-start k).args in
    let p = a.point in
    k.last_partial-place.ensures.0
    ∙ ap (λ (l : Log). last_place a.e.from (ends_within a.e.from p.number p.generation (p.pointer - 1) p.pointer) 0 0 (log_heads a.e.from l.drive true l.zone l.written a.sectors.now)) k.log_in-log.ensures

append-made-requires : tie.Need-append_made-requires
append-made-requires c κs =
    let k = c.before.before.before in
    let s = at-start k in
    let a = s.args in
    let h = copied k.before.before.before.before in
    (s.requires.0, point_making a.e a.point a.pointers.now a.starts.now a.sectors.now a.written.now s.requires.1 h (entry_lacks a.e a.point a.pointers.now a.starts.now a.sectors.now a.written.now s.requires.1 h (sym (place_is k) ∙ c.if-place-eq0.true)))

returns-2 : tie.Need-returns-then-place-eq0
returns-2 c =
    let k = c.before.before.before.before.before.before.before.before in
    let s = at-start k in
    let a = s.args in
    rw (entry_is_made a.e a.point a.pointers.now a.starts.now a.sectors.now a.written.now s.requires.1 (copied k.before.before.before.before) (sym (place_is k) ∙ c.if-place-eq0.true)) c.append_made.ensures

-- the entry that was found, and its sectors
found : (c : tie.Else-place-eq0) → let k = c.before in let a = (at-start k).args in let x = k.last_partial-place.result - 1 in let n = suc (min (fill_of a.e.from a.point.pointer) a.e.from.unit) in
    (entry_sectors a.e (entries_at a.e a.point a.pointers.now a.starts.now a.sectors.now a.written.now (at-start k).requires.1) ≡ tabulate_from (sector_at a.e.from a.sectors.now a.e.drive parity_zone) x n) × (x + n ≤ a.e.from.capacity)
found c =
    let k = c.before in
    let s = at-start k in
    let a = s.args in
    let e : k.last_partial-place.result ≡ (k.last_partial-place.result - 1) + 1 = omega (arith, c.if-place-eq0.false) in
    entry_is_found a.e a.point a.pointers.now a.starts.now a.sectors.now a.written.now s.requires.1 (copied k.before.before.before.before) (k.last_partial-place.result - 1) (sym (place_is k) ∙ e)

add-copy-run : tie.Need-overflow_add-first
add-copy-run c = let z = c.before.before in let s = at-start z.before.before.before in omega (arith, (found z.before.before).1, z.entry_size-size.ensures.0, s.requires.0.zone_most)

copy-run-requires : tie.Need-copy_run-requires
copy-run-requires c κs =
    let z = c.before.before in
    let s = at-start z.before.before.before in
    let k = s.requires.1.tables.copying in
    (s.requires.0, (record { moves = k.moves; sectors_long = k.sectors_long; written_long = k.written_long; pointers_long = k.written_long }, omega arith, omega (arith, (found z.before.before).1, z.entry_size-size.ensures.0)))

returns-3 : tie.Need-returns
returns-3 c =
    let r = c.copy_run in
    let z = c.before.before.before.before.before.before.before in
    let k = z.before.before.before in
    let a = (at-start k).args in
    let x = k.last_partial-place.result - 1 in
    let F = sector_at a.e.from a.sectors.now a.e.drive parity_zone in
    let e : x + z.entry_size-size.result - x ≡ suc (min (fill_of a.e.from a.point.pointer) a.e.from.unit) = omega (arith, z.entry_size-size.ensures.0) in
    subst (λ (ss : List Store). MadeAppends a.e.to a.budget r.result ss a.sectors.now a.written.now r.new.sectors r.new.written)
    (ap (λ (n : ℕ). append_all a.e.drive parity_zone (tabulate_from F x n)) e ∙ sym (ap (append_all a.e.drive parity_zone) (found z.before.before).0)) r.ensures

pub copy_entry_spec : {M : Type 1} → statement M
copy_entry_spec =
    tie.close
    (tie.spec (λ c κs. let s = c.before.before.before.before in (s.requires.0, (s.requires.1.zone_in_lem, s.requires.1.pointer_most))) returns (λ c κs. search rules) (λ c. some c.before.before.before) last-partial-requires append-made-requires (λ c. search rules) (λ c. search rules) returns-2
    (λ c. search rules) (λ c κs. let s = c.before.before.before.before.before.before.before.before.before.before in (s.requires.0, s.requires.1.pointer_most)) add-copy-run copy-run-requires (λ c. search rules) (λ c. search rules) returns-3)
