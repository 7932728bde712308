use mathlib.Core.Path.{◌≡◌, sym, ap, ◌∙◌, subst}
use mathlib.Core.Bool.{false}
use Prim.Native.Nat.{ℕ}
use native.Mathlib.Omega.{arith}
use mathlib.Core.List.{List}
use lib.ListN.{length, take}
use Rattle.tables.specs.declared.Geometry.{Geometry}
use Rattle.tables.specs.meaning.Below.{each_below}
use Rattle.tables.specs.meaning.Device.{Store}
use Rattle.tables.specs.meaning.Geometry.{cells, total_bytes}
use Rattle.tables.specs.meaning.Tables.{Tables, tables_of}
use Rattle.tables.specs.laws.Made.{Made}
use Rattle.tables.specs.laws.Counted.{made_append}
use Rattle.volume.specs.meaning.CallContracts.{is_set}
use Rattle.volume.specs.emptying.Shape.{shape_cells, shape_bytes}
use Rattle.volume.specs.emptying.Emptyings.{emptied_on, new_general_on}
use Rattle.volume.specs.storing.Resetting.{reset_with, raised_list, raised_long}
use Rattle.volume.specs.checks.Records.{generations_in, generations_in_long}
use borrow.Author.Rules.{rules}
use Rattle.volume.proofs.resetting.reset_from.Statement.{statement}
use Rattle.volume.proofs.resetting.reset_from.Tie as tie

raised-generations-requires : tie.Need-raised_generations-raised-requires
raised-generations-requires c κs = let s = c.before.before.before.before.before in (omega (arith, s.requires.1.2, s.requires.0.0.zones_most), s.requires.1.3)

empty-generals-requires : tie.Need-empty_generals-rest-requires
empty-generals-requires c κs =
    let s = c.before.before.before.before.before.before.before.before.before.before in
    let n : length c.generations_of-current.result ≡ 16 = ap length c.generations_of-current.ensures ∙ generations_in_long s.args.state in
    (s.requires.0.0, (s.requires.1.0, omega (arith, n, s.requires.0.0.zones_most)))

reset-stores-requires : tie.Need-reset_stores-requires
reset-stores-requires c κs =
    let s = c.before.before.before.before.before.before.before.before.before.before.before.before.before.before.before.before.before.before.before.before.before in
    let a = s.args in
    let r = s.requires.1.0 in
    let f = c.empty_generals-rest in
    let n : length c.raised_generations-raised.result ≡ 16 = ap length c.raised_generations-raised.ensures ∙ raised_long a.state a.zone.number in
    let e : a.zone.geometry ≡ a.all.to = s.requires.1.1 in
    let zones : a.zone.geometry.zones ≡ a.all.from.zones = ap (λ (g : Geometry). g.zones) e ∙ r.shape.zones in
    let few : cells a.zone.geometry ≡ cells a.all.from = ap cells e ∙ shape_cells a.all.from a.all.to r.shape in
    let bytes : total_bytes a.zone.geometry ≡ total_bytes a.all.from = ap total_bytes e ∙ shape_bytes a.all.from a.all.to r.shape in
    (s.requires.0.1, (omega (arith, zones, s.requires.1.2), omega (arith, n, zones, s.requires.0.0.zones_most), f.auto.sectors ∙ r.sectors_long ∙ sym bytes, f.auto.written ∙ r.written_long ∙ sym few, f.auto.durable ∙ r.durable_long ∙ sym few))

returns : tie.Need-returns
returns c =
    let s = c.before.before.before.before.before.before.before.before.before.before.before.before.before.before.before.before.before.before.before.before.before.before.before.before.before.before.before.before in
    let a = s.args in
    let e : a.zone.geometry ≡ a.all.to = s.requires.1.1 in
    let f = c.empty_generals-rest in
    let g = c.reset_stores in
    let start : Tables = tables_of a.sectors.now a.written.now a.durable.now in
    let middle : Tables = tables_of f.new.sectors f.new.written f.new.durable in
    let end : Tables = tables_of g.new.sectors g.new.written g.new.durable in
    let first : List ℕ → List Store = λ gs. each_below (λ (d : ℕ). emptied_on a.all false (new_general_on a.all gs a.sectors.now a.pointers.now d) d) a.all.from.drives in
    let then : List ℕ → List Store = λ ns. reset_with a.zone.geometry (is_set a.zone.here) a.zone.number a.zone.generation (take a.zone.geometry.zones ns) in
    let one : Made a.all.to a.budget f.result (first (generations_in a.state)) start middle = subst (λ (gs : List ℕ). Made a.all.to a.budget f.result (first gs) start middle) c.generations_of-current.ensures f.ensures in
    let two : Made a.zone.geometry f.result g.result (then (raised_list a.state a.zone.number)) middle end = subst (λ (ns : List ℕ). Made a.zone.geometry f.result g.result (then ns) middle end) c.raised_generations-raised.ensures g.ensures in
    made_append a.all.to a.budget f.result g.result (first (generations_in a.state)) (then (raised_list a.state a.zone.number)) start middle end one
    (subst (λ (h : Geometry). Made h f.result g.result (then (raised_list a.state a.zone.number)) middle end) e two)

pub reset_from_spec : {M : Type 1} → statement M
reset_from_spec =
    tie.close
    (tie.spec (λ c κs. search rules) raised-generations-requires (λ c. search rules) empty-generals-requires (λ c. search rules) reset-stores-requires (λ c. search rules) (λ c. search rules) (λ c. search rules) returns)
