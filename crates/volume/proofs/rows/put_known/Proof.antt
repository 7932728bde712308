use Prim.Native.Nat.{ℕ, ◌+◌, ◌≤◌}
use mathlib.Core.Path.{◌≡◌, sym, ap, ◌∙◌, subst}
use mathlib.Core.List.{List, ◌++◌}
use native.Mathlib.Omega.{arith}
use lib.ListN.{length, take, drop, replicate}
use lib.Seq.{length-take-le}
use Rattle.volume.specs.checks.Logging.{front_fits, front_is, front_long}
use Rattle.volume.specs.meaning.CallContracts.{is_set}
use Rattle.volume.specs.meaning.Rules.{value_at}
use Rattle.volume.specs.looking.Knowing.{read_device}
use Rattle.volume.specs.looking.KnowingValues.{value_held}
use Rattle.volume.specs.rows.RowsInPlace.{with_member, free_fits}
use borrow.Author.Rules.{rules}
use Rattle.volume.proofs.rows.put_known.Statement.{statement}
use Rattle.volume.proofs.rows.put_known.Tie as tie

-- the value that is meant
abbrev value : tie.Start → List ℕ
value s = let a = s.args in value_at a.known.geometry (is_set a.known.here) (read_device a.known.geometry a.sectors.now a.pointers.now) a.known.zone a.known.generation a.a

put-held-requires : tie.Need-put_held-requires
put-held-requires c κs =
    let s = c.before.before.before.before.before.before in
    let m = s.requires.1.2 in
    (s.requires.0, (m.readable.zone_in_lem, omega (arith, s.requires.1.1, m.end_most), m.readable.sectors_long, sym c.own_held-held.ensures ∙ c.if-held.true, s.requires.1.3))

returns : tie.Need-returns-then-held
returns c =
    let h = c.before.before.before.before.before in
    let s = h.before.before.before.before in
    let a = s.args in
    let g = a.known.geometry in
    let m = s.requires.1.2 in
    c.put_held.ensures
    ∙ ap (λ (x : List ℕ). with_member a.first a.sectors.now a.to x)
    (sym (value_held g a.known.here a.sectors.now a.pointers.now a.known.zone m.readable s.requires.0 a.known.generation a.a (omega (arith, s.requires.1.1, m.end_most)) (sym c.own_held-held.ensures ∙ c.if-held.true)))

slice-aggregate-known-value : tie.Need-slice_bounds-known_value-end
slice-aggregate-known-value c = let s = c.before.before.before.before.before.before.before in sym (length-take-le s.args.known.geometry.sector _ s.requires.0.sector_most)

known-value-requires : tie.Need-known_value-requires
known-value-requires c κs =
    let h = c.before.before.before in
    let s = h.before.before.before.before in
    let m = s.requires.1.2 in
    (s.requires.0, ((m.readable, omega (arith, s.requires.1.1, m.end_most), m.limit_is s.requires.1.1 s.requires.1.0 (sym c.own_held-held.ensures ∙ c.if-held.false), m.known_is s.requires.1.1 s.requires.1.0), length-take-le s.args.known.geometry.sector _ s.requires.0.sector_most))

abbrev to_start : tie.After-known_value → tie.Start
to_start c = c.before.before.before.before.before.before.before.before

-- it is one sector long
long : (c : tie.After-known_value) → length c.known_value.new.out ≡ (to_start c).args.known.geometry.sector
long c = let s = to_start c in c.known_value.auto.out ∙ length-take-le s.args.known.geometry.sector _ s.requires.0.sector_most

-- the rest of the local
abbrev rest : tie.Start → List ℕ
rest s = drop s.args.known.geometry.sector (replicate 4096 0)

array-share-prefix-value : tie.Need-slice_bounds-value-end-2
array-share-prefix-value c = let w = c.before.before in let s = to_start w in front_fits s.args.known.geometry.sector w.known_value.new.out (rest s) (long w)

whole : (w : tie.After-known_value) → (to_start w).args.known.geometry.sector ≡ length (take (to_start w).args.known.geometry.sector (w.known_value.new.out ++ rest (to_start w)))
whole w = let s = to_start w in front_long s.args.known.geometry.sector w.known_value.new.out (rest s) (long w)

put-requires : tie.Need-put-requires
put-requires c κs =
    let w = c.before.before.before in
    let s = to_start w in
    let a = s.args in
    subst (λ (n : ℕ). a.to + n ≤ length a.sectors.now) (whole w) (free_fits a.known.geometry a.pointers.now a.to s.requires.1.3 a.sectors.now s.requires.1.2.readable.sectors_long)

returns-2 : tie.Need-returns
returns-2 c =
    let w = c.before.before.before.before.before.before in
    let s = to_start w in
    let a = s.args in
    let n = a.known.geometry.sector in
    let e : take n (w.known_value.new.out ++ rest s) ≡ value s = front_is n w.known_value.new.out (rest s) (value s) (long w) w.known_value.ensures in
    c.before.before.put.ensures ∙ ap (λ (x : List ℕ). with_member a.first a.sectors.now a.to x) e

pub put_known_spec : {M : Type 1} → statement M
put_known_spec =
    tie.close
    (tie.spec (λ c κs. search rules) put-held-requires (λ c. search rules) returns (λ c. search rules) slice-aggregate-known-value known-value-requires
    array-share-prefix-value (λ c. whole c.before.before.before) put-requires (λ c. search rules) returns-2)
