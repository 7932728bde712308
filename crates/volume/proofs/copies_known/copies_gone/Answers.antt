use Rattle.std.proofs.Common.{◌∙◌, rules, tests}
use Rattle.volume.specs.meaning.CallContracts.{is_set}
use Rattle.volume.specs.looking.Knowing.{read_device}
use Rattle.volume.specs.emptying.CopiesKnown.{gone_copies_are}
use Rattle.volume.proofs.Ranges.{any_below-from_range}
use Rattle.volume.proofs.copies_known.copies_gone.Goals as goal

pub returns : goal.returns
returns c =
    let a = c.args in
    any_below-from_range _ _ _ _ _ c.any.ensures.ran (λ x b q k. search (rules, tests)) ∙ gone_copies_are a.g (is_set a.here) (read_device a.g a.sectors.now a.pointers.now) a.generations.now a.points.now a.drive
