use Prim.Native.Nat.{ℕ, ◌+◌, ◌*◌, ◌/◌, ◌≤◌}
use mathlib.Core.Path.{sym, subst}
use mathlib.Core.List.{List, []}
use native.Mathlib.Nat.{div-add-mod'}
use native.Mathlib.Omega.{arith}
use Rattle.tables.specs.meaning.Placement.{stripe_of}
use Rattle.tables.specs.meaning.Device.{Store}
use Rattle.tables.specs.laws.Made.{MadeAppends}
use Rattle.tables.specs.laws.Sizes.{zone_small}
use Rattle.volume.specs.looking.Knowing.{read_device}
use Rattle.volume.specs.rows.RowsInPlace.{RowsReady}
use Rattle.volume.specs.emptying.MadeEntries.{extent_of, spare_of, making_readable, making_ready, made_rows_are}
use borrow.Author.Rules.{rules}
use Rattle.volume.proofs.emptying_parity.append_made_rows.Statement.{statement}
use Rattle.volume.proofs.emptying_parity.append_made_rows.Tie as tie

mul-min : tie.Need-overflow_mul-s
mul-min c = let s = c.before.before.before.before.before.before in omega (arith, div-add-mod' s.args.point.pointer c.stripe_sectors-k.result, s.requires.1.pointer_most, (zone_small s.args.e.from s.requires.0).1)

sub-min : tie.Need-overflow_sub-pointer
sub-min c = omega (arith, div-add-mod' c.args.point.pointer c.stripe_sectors-k.result)

seal-limit-requires : tie.Need-seal_limit-limit-requires
seal-limit-requires c κs = let s = c.before.before.before.before.before.before.before in let a = s.args in (s.requires.0, making_readable a.e a.point a.pointers.now a.sectors.now a.written.now s.requires.1)

-- the stripe as the code has it
ready : (w : tie.After-seal_limit-limit) → let s = w.before.before.before.before.before.before.before.before in let a = s.args in RowsReady (extent_of a.e a.point w.seal_limit-limit.result) (spare_of a.e) a.sectors.now a.written.now a.pointers.now [] (a.point.pointer / w.stripe_sectors-k.result)
unfolding stripe_of
ready w =
    let s = w.before.before.before.before.before.before.before.before in
    let a = s.args in
    subst (λ (k : ℕ). RowsReady (extent_of a.e a.point w.seal_limit-limit.result) (spare_of a.e) a.sectors.now a.written.now a.pointers.now [] (a.point.pointer / k)) (sym w.stripe_sectors-k.ensures.0)
    (making_ready a.e a.point a.pointers.now a.sectors.now a.written.now s.requires.1 w.seal_limit-limit.result w.seal_limit-limit.ensures.0)

append-rows-requires : tie.Need-append_rows-requires
append-rows-requires c κs =
    let w = c.before.before.before in
    let k = w in
    let m = w.min-m in
    let s = c.before.before.before.before.before.before.before.before.before.before.before in
    let a = s.args in
    let below : a.point.pointer / k.stripe_sectors-k.result * k.stripe_sectors-k.result + m.result ≤ a.point.pointer = omega (arith, m.ensures, div-add-mod' a.point.pointer k.stripe_sectors-k.result) in
    (s.requires.0, (ready w, omega arith, omega (arith, m.ensures), subst (λ (j : ℕ). a.point.pointer / k.stripe_sectors-k.result * j + m.result ≤ a.point.pointer) k.stripe_sectors-k.ensures.0 below))

returns : tie.Need-returns
returns c =
    let w = c.before.before.before.before.before.before.before.before in
    let k = w in
    let m = w.min-m in
    let a = w.args in
    let f = c.append_rows in
    subst (λ (ss : List Store). MadeAppends a.e.from a.budget f.result ss a.sectors.now a.written.now f.new.sectors f.new.written)
    (made_rows_are a.e a.point w.seal_limit-limit.result k.stripe_sectors-k.result m.result (read_device a.e.from a.sectors.now a.pointers.now) k.stripe_sectors-k.ensures.0 m.ensures) f.ensures

pub append_made_rows_spec : {M : Type 1} → statement M
append_made_rows_spec =
    tie.close
    (tie.spec (λ c κs. search rules) (λ c. search rules) mul-min sub-min (λ c κs. search rules) seal-limit-requires (λ c. search rules) (λ c. search rules) append-rows-requires
    (λ c. search rules) (λ c. search rules) returns)
