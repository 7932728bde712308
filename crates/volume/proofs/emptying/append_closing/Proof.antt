use Prim.Native.Nat.{ℕ, ◌+◌, ◌<◌}
use mathlib.Core.Path.{◌≡◌, sym, subst, ◌∙◌}
use mathlib.Core.List.{List, ◌++◌}
use mathlib.Core.Bool.{Bool, true, false}
use lib.ListN.{drop, replicate, length, take}
use lib.Seq.{length-take-le}
use Rattle.tables.specs.meaning.Device.{append}
use Rattle.tables.specs.laws.Made.{MadeAppends, store_if}
use native.Mathlib.Omega.{arith}
use Rattle.logs.specs.meaning.Entry.{kind_of_log, closing, encode}
use Rattle.volume.specs.checks.Logging.{front_fits, front_is, front_long, appended_as}
use borrow.Author.Rules.{rules}
use Rattle.volume.proofs.emptying.append_closing.Statement.{statement}
use Rattle.volume.proofs.emptying.append_closing.Tie as tie

abbrev start : tie.After-write_closing → tie.Start
start w = w.before.before.before.before.before

-- the entry is one sector long
long : (w : tie.After-write_closing) → length w.write_closing.new.out ≡ (start w).args.g.sector
long w = let s = start w in w.write_closing.auto.out ∙ length-take-le s.args.g.sector _ s.requires.0.sector_most

-- the rest of the buffer
abbrev rest : tie.Start → List ℕ
rest s = drop s.args.g.sector (replicate 4096 0)

slice-aggregate-write-closing : tie.Need-slice_bounds-write_closing-end
slice-aggregate-write-closing c = let s = c.before.before.before.before in sym (length-take-le s.args.g.sector _ s.requires.0.sector_most)

write-closing-requires : tie.Need-write_closing-requires
write-closing-requires c κs = let s = c.before.before.before.before in (s.requires.0, length-take-le s.args.g.sector _ s.requires.0.sector_most)

array-share-prefix-buffer : tie.Need-slice_bounds-buffer-end-2
array-share-prefix-buffer c = let w = c.before.before.before in let s = start w in front_fits s.args.g.sector w.write_closing.new.out (rest s) (long w)

whole : (w : tie.After-write_closing) → (start w).args.g.sector ≡ length (take (start w).args.g.sector (w.write_closing.new.out ++ rest (start w)))
whole w = let s = start w in front_long s.args.g.sector w.write_closing.new.out (rest s) (long w)

log-there : (b : Bool) (n z : ℕ) → z ≡ kind_of_log b → z < n + 3
log-there true n z e = omega arith
log-there false n z e = omega arith

append-counted-requires : tie.Need-append_counted-requires
append-counted-requires c κs =
    let w = c.before.before.before.before in
    let s = start w in
    (s.requires.0, ((s.requires.1.0, log-there s.args.parity s.args.g.zones w.log_zone-zone.result w.log_zone-zone.ensures), (s.requires.1.1, s.requires.1.2, sym (whole w))))

returns : tie.Need-returns
returns c =
    let w = c.before.before.before.before.before.before.before.before.before in
    let s = start w in
    let a = s.args in
    let n = a.g.sector in
    let f = c.append_counted in
    let header = encode a.g a.drive (closing (kind_of_log a.parity) a.generation) in
    subst (λ (y : ℕ). MadeAppends a.g a.budget f.result (store_if true (append a.drive y header)) a.sectors.now a.written.now f.new.sectors f.new.written) w.log_zone-zone.ensures
    (appended_as a.g a.budget f.result true a.drive w.log_zone-zone.result (take n (w.write_closing.new.out ++ rest s)) header a.sectors.now a.written.now f.new.sectors f.new.written (front_is n w.write_closing.new.out (rest s) header (long w) w.write_closing.ensures) f.ensures)

pub append_closing_spec : {M : Type 1} → statement M
append_closing_spec =
    tie.close
    (tie.spec (λ c κs. search rules) (λ c. search rules) slice-aggregate-write-closing write-closing-requires array-share-prefix-buffer
    (λ c. whole c.before.before.before.before) append-counted-requires (λ c. search rules) (λ c. search rules) returns)
