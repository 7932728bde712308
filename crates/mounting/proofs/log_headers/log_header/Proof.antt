use Prim.Native.Nat.{ℕ}
use mathlib.Core.Path.{◌≡◌, sym, ◌∙◌}
use mathlib.Core.List.{List, ◌++◌}
use mathlib.Core.Bool.{true}
use lib.ListN.{length, take, drop, replicate}
use lib.Seq.{length-take-le}
use borrow.Author.Tests.{not-true, not-false}
use Rattle.logs.specs.meaning.Entry.{general_zone, encode}
use Rattle.volume.specs.checks.Logging.{front_fits, front_is, front_long, appended_as}
use Rattle.volume.specs.meaning.CallContracts.{is_set}
use Rattle.volume.specs.laws.CallContracts.{appends_nil}
use Rattle.mounting.specs.MountHeaders.{header_due, header_for, header_absent, header_idle, header_made}
use native.Mathlib.Omega.{arith}
use borrow.Author.Rules.{rules}
use Rattle.mounting.proofs.log_headers.log_header.Statement.{statement}
use Rattle.mounting.proofs.log_headers.log_header.Tie as tie
use Rattle.volume.specs.looking.Knowing.{read_device}

returns : tie.Need-returns-then-not-here-drive
returns c =
    let a = c.args in
    rw (header_absent a.basis.geometry a.kind a.basis.look (read_device a.basis.geometry a.sectors.now a.pointers.now) (is_set a.basis.here) a.drive a.z (not-true (is_set a.basis.here a.drive) c.if-not-here-drive.true-raw)) (appends_nil a.basis.geometry a.budget a.sectors.now a.written.now)

returns-2 : tie.Need-returns-then-not-header_due
returns-2 c =
    let a = c.args in
    rw (header_idle a.basis.geometry a.kind a.basis.look (read_device a.basis.geometry a.sectors.now a.pointers.now) (is_set a.basis.here) a.drive a.z (sym c.header_due.ensures ∙ not-true c.header_due.result c.if-not-header_due.true-raw)) (appends_nil a.basis.geometry a.budget a.sectors.now a.written.now)

slice-aggregate-write-header : tie.Need-slice_bounds-write_header-end
slice-aggregate-write-header c = let s = c.before.before.before.before.before.before.before.before in sym (length-take-le s.args.basis.geometry.sector _ s.requires.0.sector_most)

write-header-requires : tie.Need-write_header-requires
write-header-requires c κs = let s = c.before.before.before.before.before.before.before.before.before in (s.requires.0, (s.requires.1.0, s.requires.1.1, length-take-le s.args.basis.geometry.sector _ s.requires.0.sector_most, s.requires.1.2.within))

abbrev to_start : tie.After-write_header → tie.Start
to_start c = c.before.before.before.before.before.before.before.before.before.before.before

-- the header is one sector long
long : (c : tie.After-write_header) → length c.write_header.new.out ≡ (to_start c).args.basis.geometry.sector
long c = let s = to_start c in c.write_header.auto.out ∙ length-take-le s.args.basis.geometry.sector _ s.requires.0.sector_most

-- the rest of the local
abbrev rest : tie.Start → List ℕ
rest s = drop s.args.basis.geometry.sector (replicate 4096 0)

array-share-prefix-header : tie.Need-slice_bounds-header-end-2
array-share-prefix-header c = let w = c.before.before.before.before in let s = to_start w in front_fits s.args.basis.geometry.sector w.write_header.new.out (rest s) (long w)

whole : (w : tie.After-write_header) → (to_start w).args.basis.geometry.sector ≡ length (take (to_start w).args.basis.geometry.sector (w.write_header.new.out ++ rest (to_start w)))
whole w = let s = to_start w in front_long s.args.basis.geometry.sector w.write_header.new.out (rest s) (long w)

slice-aggregate-append-counted : tie.Need-slice_bounds-append_counted-end
slice-aggregate-append-counted c = whole c.before.before.before.before.before

append-counted-requires : tie.Need-append_counted-requires
append-counted-requires c κs =
    let s = c.before.before.before.before.before.before.before.before.before.before.before.before.before.before in
    let l = s.requires.1.2 in
    (s.requires.0, ((s.requires.1.0, omega arith), (l.sectors_long, l.written_long, sym (whole c.before.before.before.before.before))))

returns-3 : tie.Need-returns
returns-3 c =
    let w = c.before.before.before.before.before.before.before.before.before.before in
    let s = c.before.before.before.before.before.before.before.before.before.before.before.before.before.before.before.before.before.before.before.before.before in
    let a = s.args in
    let b = a.basis in
    let n = b.geometry.sector in
    let f = c.append_counted in
    let d = c.header_due in
    let present : is_set b.here a.drive ≡ true = not-false (is_set b.here a.drive) c.if-not-here-drive.false-raw in
    let due : header_due b.geometry a.kind b.look (read_device b.geometry a.sectors.now a.pointers.now) a.drive a.z ≡ true = sym d.ensures ∙ not-false d.result c.if-not-header_due.false-raw in
    let header = encode b.geometry a.drive (header_for a.kind b.look a.z) in
    rw (header_made b.geometry a.kind b.look (read_device b.geometry a.sectors.now a.pointers.now) (is_set b.here) a.drive a.z present due)
    (appended_as b.geometry a.budget f.result true a.drive general_zone (take n (w.write_header.new.out ++ rest s)) header a.sectors.now a.written.now f.new.sectors f.new.written (front_is n w.write_header.new.out (rest s) header (long w) w.write_header.ensures) f.ensures)

pub log_header_spec : {M : Type 1} → statement M
log_header_spec =
    tie.close
    (tie.spec (λ c. search rules) returns (λ c κs. search rules) (λ c. search rules) returns-2 (λ c. search rules) slice-aggregate-write-header write-header-requires
    array-share-prefix-header slice-aggregate-append-counted append-counted-requires (λ c. search rules) (λ c. search rules) returns-3)
