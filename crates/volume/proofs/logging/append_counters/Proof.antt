use Prim.Native.Nat.{ℕ}
use mathlib.Core.List.{List, ◌++◌}
use lib.ListN.{drop, replicate, length, take}
use Rattle.logs.specs.meaning.Entry.{general_zone, encode, counters}
use native.Mathlib.Omega.{arith}
use Rattle.volume.specs.checks.Logging.{front_fits, front_is, front_long, appended_as}
use mathlib.Core.Path.{◌≡◌, sym, ◌∙◌}
use lib.Seq.{length-take-le}
use borrow.Author.Rules.{rules}
use Rattle.volume.proofs.logging.append_counters.Statement.{statement}
use Rattle.volume.proofs.logging.append_counters.Tie as tie

array-borrow-prefix-buffer : tie.Need-slice_bounds-buffer-end
array-borrow-prefix-buffer c = let s = c.before.before.before in s.requires.0.sector_most

slice-aggregate-write-counters : tie.Need-slice_bounds-write_counters-end
slice-aggregate-write-counters c = let s = c.before.before.before.before in sym (length-take-le s.args.g.sector _ s.requires.0.sector_most)

write-counters-requires : tie.Need-write_counters-requires
write-counters-requires c κs = let s = c.before.before.before.before in (s.requires.0, (length-take-le s.args.g.sector _ s.requires.0.sector_most, s.requires.1.1))

-- the header is one sector long
long : (c : tie.After-write_counters) → length c.write_counters.new.out ≡ c.args.g.sector
long c = let s = c.before.before.before.before.before in c.write_counters.auto.out ∙ length-take-le s.args.g.sector _ s.requires.0.sector_most

-- the rest of the buffer
abbrev rest : tie.Start → List ℕ
rest s = drop s.args.g.sector (replicate 4096 0)

array-share-prefix-buffer : tie.Need-slice_bounds-buffer-end-2
array-share-prefix-buffer c =
    let w = c.before.before.before in
    let s = w.before.before.before.before.before in
    front_fits s.args.g.sector w.write_counters.new.out (rest s) (long w)

slice-aggregate-append-counted : tie.Need-slice_bounds-append_counted-end
slice-aggregate-append-counted c =
    let w = c.before.before.before.before in
    let s = w.before.before.before.before.before in
    front_long s.args.g.sector w.write_counters.new.out (rest s) (long w)

append-counted-requires : tie.Need-append_counted-requires
append-counted-requires c κs =
    let w = c.before.before.before.before in
    let s = w.before.before.before.before.before in
    (s.requires.0, ((s.requires.1.0, omega arith), (s.requires.1.2, s.requires.1.3, sym (front_long s.args.g.sector w.write_counters.new.out (rest s) (long w)))))

returns : tie.Need-returns
returns c =
    let w = c.before.before.before.before.before.before.before.before.before in
    let s = w.before.before.before.before.before in
    let a = s.args in
    let f = c.append_counted in
    appended_as a.g a.budget f.result a.here a.drive general_zone (take a.g.sector (w.write_counters.new.out ++ rest s)) (encode a.g a.drive (counters (take a.g.zones a.generations.now))) a.sectors.now a.written.now f.new.sectors f.new.written (front_is a.g.sector w.write_counters.new.out (rest s) (encode a.g a.drive (counters (take a.g.zones a.generations.now))) (long w) w.write_counters.ensures) f.ensures

pub append_counters_spec : {M : Type 1} → statement M
append_counters_spec =
    tie.close
    (tie.spec array-borrow-prefix-buffer slice-aggregate-write-counters write-counters-requires array-share-prefix-buffer
    slice-aggregate-append-counted append-counted-requires (λ c. search rules) (λ c. search rules) returns)
