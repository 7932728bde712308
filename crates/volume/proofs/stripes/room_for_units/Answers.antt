use Rattle.std.proofs.Common.{refl, arith, rules, tests, ◌∙◌}
use Rattle.std.proofs.lemmas.Iterator.{YieldsList-from_range}
use Rattle.std.proofs.lemmas.Iterator.Search.{all_from_yields_List}
use Rattle.volume.specs.stripes.StripeDue.{room_for, unit_within}
use Rattle.volume.proofs.InRanges.{all_in}
use Rattle.volume.proofs.stripes.room_for_units.Goals as goal

pub overflow_sub-most : goal.overflow_sub-most
overflow_sub-most c = unit_within c.args.g c.requires.valid

pub returns : goal.returns
returns c =
    let a = c.args in
    let p = room_for a.g a.here a.written.now a.zone in
    all_from_yields_List p _ _ c.all.result c.all.ensures.ran (YieldsList-from_range 0 a.g.drives a.g.drives refl (omega arith)) (λ x b q k. (search rules, grind (arith, tests))) ∙ all_in p a.g.drives
