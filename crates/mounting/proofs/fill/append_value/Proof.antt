use Prim.Native.Nat.{ℕ}
use mathlib.Core.Path.{◌≡◌, sym, ◌∙◌}
use mathlib.Core.List.{List, ◌++◌}
use native.Mathlib.Omega.{arith}
use lib.ListN.{length, take, drop, replicate}
use lib.Seq.{length-take-le}
use Rattle.volume.specs.checks.Logging.{front_fits, front_is, front_long, appended_as}
use Rattle.volume.specs.rows.SameShape.{append_placed}
use Rattle.mounting.specs.MountReady.{values_in}
use borrow.Author.Rules.{rules}
use Rattle.mounting.proofs.fill.append_value.Statement.{statement}
use Rattle.mounting.proofs.fill.append_value.Tie as tie

-- the value that is meant
abbrev value : tie.Start → List ℕ
value s = let a = s.args in values_in a.known a.sectors.now a.pointers.now a.a

slice-aggregate-known-value : tie.Need-slice_bounds-known_value-end
slice-aggregate-known-value c = let s = c.before.before.before.before in sym (length-take-le s.args.known.geometry.sector _ s.requires.0.sector_most)

known-value-requires : tie.Need-known_value-requires
known-value-requires c κs =
    let s = c.before.before.before.before in
    let k = s.requires.1.0.known_below in
    (s.requires.0, ((k.readable, omega (arith, s.requires.1.1, k.end_most), k.limit_is, k.all_known s.args.a s.requires.1.1), length-take-le s.args.known.geometry.sector _ s.requires.0.sector_most))

abbrev to_start : tie.After-known_value → tie.Start
to_start c = c.before.before.before.before.before

-- it is one sector long
long : (c : tie.After-known_value) → length c.known_value.new.out ≡ (to_start c).args.known.geometry.sector
long c = let s = to_start c in c.known_value.auto.out ∙ length-take-le s.args.known.geometry.sector _ s.requires.0.sector_most

-- the rest of the local
abbrev rest : tie.Start → List ℕ
rest s = drop s.args.known.geometry.sector (replicate 4096 0)

array-share-prefix-value : tie.Need-slice_bounds-value-end-2
array-share-prefix-value c = let w = c.before.before.before.before in let s = to_start w in front_fits s.args.known.geometry.sector w.known_value.new.out (rest s) (long w)

whole : (w : tie.After-known_value) → (to_start w).args.known.geometry.sector ≡ length (take (to_start w).args.known.geometry.sector (w.known_value.new.out ++ rest (to_start w)))
whole w = let s = to_start w in front_long s.args.known.geometry.sector w.known_value.new.out (rest s) (long w)

slice-aggregate-append-counted : tie.Need-slice_bounds-append_counted-end
slice-aggregate-append-counted c = whole c.before.before.before.before.before

append-counted-requires : tie.Need-append_counted-requires
append-counted-requires c κs =
    let w = c.before.before.before.before.before in
    let s = to_start w in
    let a = s.args in
    let r = s.requires.1.0.rows 0 in
    append_placed a.known.geometry a.known.to r.shape a.sectors.now a.written.now (take a.known.geometry.sector (w.known_value.new.out ++ rest s)) a.target.drive a.target.zone s.requires.0 r.drive_in r.zone_in_lem r.sectors_long r.written_long (sym (whole w))

returns : tie.Need-returns
returns c =
    let f = c.append_counted in
    let w = c.before.before.before.before.before.before.before.before.before.before in
    let s = to_start w in
    let a = s.args in
    let n = a.known.geometry.sector in
    let v = w.known_value in
    appended_as a.known.to a.budget f.result a.target.present a.target.drive a.target.zone (take n (v.new.out ++ rest s)) (value s) a.sectors.now a.written.now f.new.sectors f.new.written (front_is n v.new.out (rest s) (value s) (long w) v.ensures) f.ensures

pub append_value_spec : {M : Type 1} → statement M
append_value_spec =
    tie.close
    (tie.spec (λ c. search rules) slice-aggregate-known-value known-value-requires array-share-prefix-value slice-aggregate-append-counted append-counted-requires
    (λ c. search rules) (λ c. search rules) returns)
