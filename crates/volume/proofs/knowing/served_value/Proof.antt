use mathlib.Core.Path.{◌≡◌, sym, ap, ◌∙◌}
use mathlib.Core.Bool.{Bool, true}
use Rattle.tables.specs.meaning.Basics.{pick}
use Rattle.volume.specs.declared.knowing.Source.{Source}
use Rattle.volume.specs.meaning.Rules.{seal_limit}
use Rattle.volume.specs.meaning.CallContracts.{is_set}
use Rattle.volume.specs.looking.Knowing.{read_device, source_of, has_source, way_value, value_from}
use Rattle.volume.specs.looking.KnowingEntries.{known_is}
use Rattle.volume.specs.looking.KnowingValues.{value_is}
use borrow.Author.Rules.{rules}
use Rattle.volume.proofs.knowing.served_value.Statement.{statement}
use Rattle.volume.proofs.knowing.served_value.Tie as tie

source-of-requires : tie.Need-source_of-way-requires
source-of-requires c κs = search rules

way-is : (c : tie.After-source_of-way) → c.source_of-way.result ≡ source_of c.args.zone.geometry c.args.zone.here c.args.sectors.now c.args.written.now c.args.zone.number c.args.zone.generation (seal_limit c.args.zone.geometry (is_set c.args.zone.here) (read_device c.args.zone.geometry c.args.sectors.now c.args.written.now) c.args.zone.number c.args.zone.generation) c.args.a
way-is c = c.source_of-way.ensures ∙ c.requires.1.2

value-by-requires : tie.Need-value_by-requires
value-by-requires c κs =
    let s = c.before.before.before.before.before in
    let a = s.args in
    (s.requires.0, (s.requires.1.0.zone_in_lem, s.requires.1.1, s.requires.1.0.sectors_long, s.requires.1.4, rw (way-is c.before.before) (value_is a.zone.geometry a.zone.here a.sectors.now a.written.now a.zone.number s.requires.1.0 s.requires.0 a.zone.generation a.a s.requires.1.1).0))

same_length : tie.Need-shape_of-out
same_length c = search rules

returns : tie.Need-returns
returns c =
    let s = c.before.before.before.before.before.before.before.before in
    let a = s.args in
    let w = source_of a.zone.geometry a.zone.here a.sectors.now a.written.now a.zone.number a.zone.generation (seal_limit a.zone.geometry (is_set a.zone.here) (read_device a.zone.geometry a.sectors.now a.written.now) a.zone.number a.zone.generation) a.a in
    let k : has_source w ≡ true = sym (known_is a.zone.geometry a.zone.here a.sectors.now a.written.now a.zone.number s.requires.1.0 s.requires.0 a.zone.generation a.a s.requires.1.1) ∙ s.requires.1.3 in
    c.value_by.ensures ∙ ap (λ (x : Source). value_from a.zone.geometry a.sectors.now a.zone.number a.a x a.out.now) (way-is c.before.before.before.before.before)
    ∙ ap (λ (b : Bool). pick b (way_value a.zone.geometry a.sectors.now a.zone.number a.a w) a.out.now) k ∙ sym ((value_is a.zone.geometry a.zone.here a.sectors.now a.written.now a.zone.number s.requires.1.0 s.requires.0 a.zone.generation a.a s.requires.1.1).1 k)

pub served_value_spec : {M : Type 1} → statement M
served_value_spec = tie.close (tie.spec source-of-requires value-by-requires same_length returns)
