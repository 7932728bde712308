use Rattle.std.proofs.Common.{ℕ, not, refl, arith, rules, tests, ◌∙◌, ◌+◌}
use Rattle.std.proofs.lemmas.Iterator.{YieldsList-from_range}
use Rattle.std.proofs.lemmas.Iterator.Search.{any_from_yields_List}
use Rattle.tables.specs.laws.Sizes.{zone_small}
use Rattle.volume.specs.meaning.Refusals.{gone_in}
use Rattle.volume.specs.meaning.Rules.{zone_view, known}
use Rattle.volume.specs.meaning.CallContracts.{is_set}
use Rattle.volume.specs.looking.Knowing.{read_device}
use Rattle.volume.proofs.InRanges.{any_from}
use Rattle.volume.proofs.reading.some_gone.Goals as goal

pub overflow_add-offset : goal.overflow_add-offset
overflow_add-offset c = omega (arith, c.requires.readable, (zone_small c.args.zone.geometry c.requires.valid).1)

pub returns : goal.returns
unfolding gone_in
returns c =
    let a = c.args in
    let z = a.zone in
    let g = z.geometry in
    let p = λ (i : ℕ). not (known g.drives g.unit z.number (zone_view g (is_set z.here) (read_device g a.sectors.now a.written.now) z.number z.generation) i) in
    any_from_yields_List p _ _ c.any.result c.any.ensures.ran (YieldsList-from_range a.offset (a.offset + a.count) a.count refl (omega arith)) (λ x b q k. (search rules, grind (arith, tests))) ∙ any_from p a.offset a.count
