use Rattle.std.proofs.Common.{arith, rules, tests}
use Rattle.tables.specs.laws.Sizes.{zone_small}
use Rattle.volume.specs.looking.Knowing.{own_held}
use Rattle.volume.proofs.Ranges.{all_below-from_range_at}
use Rattle.volume.proofs.knowing.all_held.Goals as goal

pub overflow_add-offset : goal.overflow_add-offset
overflow_add-offset c = omega (arith, (zone_small c.args.g c.requires.valid).1)

pub returns : goal.returns
returns c =
    let a = c.args in
    all_below-from_range_at (own_held a.g a.here a.written.now a.z) a.offset a.count _ _ _ c.all.ensures.ran (λ x b q k. search (rules, tests))
