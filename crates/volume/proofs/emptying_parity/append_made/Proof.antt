use mathlib.Core.List.{[], ◌∷◌}
use mathlib.Core.Bool.{true}
use native.Mathlib.Nat.{div-add-mod'}
use native.Mathlib.Omega.{arith}
use Rattle.tables.specs.meaning.Placement.{stripe_of}
use Rattle.tables.specs.meaning.Device.{append}
use Rattle.tables.specs.laws.Made.{MadeAppends}
use Rattle.tables.specs.laws.Sizes.{zone_small}
use Rattle.logs.specs.meaning.Entry.{parity_zone, encode}
use Rattle.volume.specs.meaning.Content.{entry_header}
use Rattle.volume.specs.emptying.Shape.{shape_valid}
use Rattle.volume.specs.emptying.Moving.{to_drive, to_sectors, to_written}
use Rattle.volume.specs.emptying.MadeEntries.{made_within, headed_making, entry_made_lem}
use borrow.Author.Rules.{rules}
use Rattle.volume.proofs.emptying_parity.append_made.Statement.{statement}
use Rattle.volume.proofs.emptying_parity.append_made.Tie as tie

mul-fill : tie.Need-overflow_mul-fill
mul-fill c = let s = c.before.before.before.before in omega (arith, div-add-mod' s.args.point.pointer c.stripe_sectors-k.result, s.requires.1.pointer_most, (zone_small s.args.e.from s.requires.0).1)

sub-fill : tie.Need-overflow_sub-fill
sub-fill c = omega (arith, div-add-mod' c.args.point.pointer c.stripe_sectors-k.result)

append-partial-requires : tie.Need-append_partial-rest-requires
append-partial-requires c κs =
    let s = c.before.before.before.before.before.before in
    let a = s.args in
    let k = c.stripe_sectors-k in
    let m = s.requires.1 in
    let h = m.copying.moves.shape in
    (shape_valid a.e.from a.e.to h s.requires.0, (to_drive true a.e a.pointers.now a.sectors.now a.written.now m.copying, rw h.zones m.zone_in_lem, made_within a.e a.point a.pointers.now a.sectors.now a.written.now m k.result k.ensures.0, to_sectors true a.e a.pointers.now a.sectors.now a.written.now m.copying, to_written true a.e a.pointers.now a.sectors.now a.written.now m.copying))

-- the header, as it is meant
headed : (w : tie.After-append_partial-rest) → let a = w.args in let f = w.append_partial-rest in MadeAppends a.e.to a.budget f.result (append a.e.drive parity_zone (encode a.e.to a.e.drive (entry_header a.e.from a.point.number a.point.generation a.point.pointer)) ∷ []) a.sectors.now a.written.now f.new.sectors f.new.written
unfolding stripe_of
headed w = rw w.stripe_sectors-k.ensures.0 at w.append_partial-rest.ensures

append-made-rows-requires : tie.Need-append_made_rows-requires
append-made-rows-requires c κs =
    let w = c.before.before.before.before.before.before in
    let s = w.before.before.before.before.before.before.before in
    let a = s.args in
    let f = w.append_partial-rest in
    (s.requires.0, headed_making a.e a.point s.requires.0 a.budget f.result a.pointers.now a.sectors.now a.written.now f.new.sectors f.new.written s.requires.1 (headed w))

returns : tie.Need-returns
returns c =
    let r = c.append_made_rows in
    let w = c.before.before.before.before.before.before.before.before.before.before.before in
    let s = w.before.before.before.before.before.before.before in
    let a = s.args in
    let f = w.append_partial-rest in
    entry_made_lem a.e a.point s.requires.0 a.budget f.result a.pointers.now a.sectors.now a.written.now f.new.sectors f.new.written s.requires.1 (headed w) r.result r.new.sectors r.new.written r.ensures

pub append_made_spec : {M : Type 1} → statement M
append_made_spec = tie.close (tie.spec (λ c κs. search rules) (λ c. search rules) mul-fill sub-fill append-partial-requires append-made-rows-requires (λ c. search rules) (λ c. search rules) returns)
