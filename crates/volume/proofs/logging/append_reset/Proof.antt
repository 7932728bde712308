use Prim.Native.Nat.{ℕ}
use mathlib.Core.List.{List, ◌++◌}
use lib.ListN.{drop, replicate, length, take}
use Rattle.logs.specs.meaning.Entry.{general_zone, encode, zone_reset}
use native.Mathlib.Omega.{arith}
use Rattle.volume.specs.checks.Logging.{front_fits, front_is, front_long, appended_as}
use mathlib.Core.Path.{◌≡◌, sym, ◌∙◌}
use lib.Seq.{length-take-le}
use borrow.Author.Rules.{rules}
use Rattle.volume.proofs.logging.append_reset.Statement.{statement}
use Rattle.volume.proofs.logging.append_reset.Tie as tie

array-borrow-prefix-buffer : tie.Need-slice_bounds-buffer-end
array-borrow-prefix-buffer c = let s = c.before.before in s.requires.0.sector_most

slice-aggregate-write-reset : tie.Need-slice_bounds-write_reset-end
slice-aggregate-write-reset c = let s = c.before.before.before in sym (length-take-le s.args.g.sector _ s.requires.0.sector_most)

write-reset-requires : tie.Need-write_reset-requires
write-reset-requires c κs = let s = c.before.before.before in (s.requires.0, (length-take-le s.args.g.sector _ s.requires.0.sector_most, s.requires.1.1))

abbrev to_start : tie.After-write_reset → tie.Start
to_start w = w.before.before.before.before

-- the header is one sector long
long : (w : tie.After-write_reset) → length w.write_reset.new.out ≡ (to_start w).args.g.sector
long w = let s = to_start w in w.write_reset.auto.out ∙ length-take-le s.args.g.sector _ s.requires.0.sector_most

-- the rest of the buffer
abbrev rest : tie.After-write_reset → List ℕ
rest w = drop (to_start w).args.g.sector (replicate 4096 0)

array-share-prefix-buffer : tie.Need-slice_bounds-buffer-end-2
array-share-prefix-buffer c = let w = c.before.before.before in front_fits (to_start w).args.g.sector w.write_reset.new.out (rest w) (long w)

whole : (w : tie.After-write_reset) → let n = (to_start w).args.g.sector in n ≡ length (take n (w.write_reset.new.out ++ rest w))
whole w = front_long (to_start w).args.g.sector w.write_reset.new.out (rest w) (long w)

returns : tie.Need-returns
returns c =
    let w = c.before.before.before.before.before.before.before.before.before in
    let a = (to_start w).args in
    let f = c.append_counted in
    let header = encode a.g a.drive (zone_reset a.z a.generation) in
    appended_as a.g a.budget f.result a.here a.drive general_zone (take a.g.sector (w.write_reset.new.out ++ rest w)) header a.sectors.now a.written.now f.new.sectors f.new.written (front_is a.g.sector w.write_reset.new.out (rest w) header (long w) w.write_reset.ensures) f.ensures

pub append_reset_spec : {M : Type 1} → statement M
append_reset_spec =
    tie.close
    (tie.spec array-borrow-prefix-buffer slice-aggregate-write-reset write-reset-requires array-share-prefix-buffer (λ c. whole c.before.before.before.before)
    (λ c κs. let w = c.before.before.before.before in let s = to_start w in (s.requires.0, ((s.requires.1.0, omega arith), (s.requires.1.2, s.requires.1.3, sym (whole w))))) (λ c. search rules) (λ c. search rules) returns)
