use Prim.Native.Nat.{ℕ}
use mathlib.Core.Path.{◌≡◌, sym, ◌∙◌}
use mathlib.Core.List.{List, ◌++◌}
use mathlib.Core.Bool.{true}
use lib.ListN.{length, take, drop, replicate}
use lib.Seq.{length-take-le}
use native.Mathlib.Omega.{arith}
use Rattle.tables.specs.meaning.Tables.{sector_at}
use Rattle.logs.specs.meaning.Entry.{parity_zone}
use Rattle.volume.specs.checks.Logging.{front_fits, front_is, front_long, appended_as}
use Rattle.volume.specs.emptying.Shape.{shape_valid}
use Rattle.volume.specs.emptying.Moving.{to_drive, to_sectors, to_written}
use borrow.Author.Rules.{rules}
use Rattle.volume.proofs.emptying_parity.copy_sector.Statement.{statement}
use Rattle.volume.proofs.emptying_parity.copy_sector.Tie as tie

abbrev start : tie.After-read_sector → tie.Start
start w = w.before.before.before.before.before

abbrev read : tie.After-read_sector → List ℕ
read w = w.read_sector.new.out

-- it is one sector long
long : (w : tie.After-read_sector) → length (read w) ≡ (start w).args.e.from.sector
long w = let s = start w in w.read_sector.auto.out ∙ length-take-le s.args.e.from.sector _ s.requires.0.sector_most

-- the rest of the buffer
abbrev rest : tie.Start → List ℕ
rest s = drop s.args.e.from.sector (replicate 4096 0)

slice-aggregate-read-sector : tie.Need-slice_bounds-read_sector-end
slice-aggregate-read-sector c = let s = c.before.before.before.before in sym (length-take-le s.args.e.from.sector _ s.requires.0.sector_most)

read-sector-requires : tie.Need-read_sector-requires
read-sector-requires c κs =
    let s = c.before.before.before.before in
    let m = s.requires.1.0 in
    (s.requires.0, (m.moves.drive_in, omega arith, s.requires.1.1, m.sectors_long, length-take-le s.args.e.from.sector _ s.requires.0.sector_most))

array-share-prefix-buffer : tie.Need-slice_bounds-buffer-end-2
array-share-prefix-buffer c = let w = c.before.before.before.before in let s = start w in front_fits s.args.e.from.sector (read w) (rest s) (long w)

whole : (w : tie.After-read_sector) → (start w).args.e.from.sector ≡ length (take (start w).args.e.from.sector (read w ++ rest (start w)))
whole w = let s = start w in front_long s.args.e.from.sector (read w) (rest s) (long w)

append-counted-requires : tie.Need-append_counted-requires
append-counted-requires c κs =
    let w = c.before.before.before.before.before in
    let s = start w in
    let a = s.args in
    let m = s.requires.1.0 in
    let h = m.moves.shape in
    (shape_valid a.e.from a.e.to h s.requires.0, ((to_drive true a.e a.written.now a.sectors.now a.written.now m, omega arith), (to_sectors true a.e a.written.now a.sectors.now a.written.now m, to_written true a.e a.written.now a.sectors.now a.written.now m, sym (whole w) ∙ sym h.sector)))

returns : tie.Need-returns
returns c =
    let w = c.before.before.before.before.before.before.before.before.before.before in
    let s = start w in
    let a = s.args in
    let n = a.e.from.sector in
    let f = c.append_counted in
    let sector = sector_at a.e.from a.sectors.now a.e.drive parity_zone a.n in
    appended_as a.e.to a.budget f.result true a.e.drive parity_zone (take n (read w ++ rest s)) sector a.sectors.now a.written.now f.new.sectors f.new.written (front_is n (read w) (rest s) sector (long w) w.read_sector.ensures) f.ensures

pub copy_sector_spec : {M : Type 1} → statement M
copy_sector_spec =
    tie.close
    (tie.spec (λ c. search rules) slice-aggregate-read-sector read-sector-requires array-share-prefix-buffer (λ c. whole c.before.before.before.before.before) append-counted-requires
    (λ c. search rules) (λ c. search rules) returns)
