use Rattle.std.proofs.Common.{refl, arith, rules, tests, ◌∙◌}
use Rattle.std.proofs.lemmas.Iterator.{YieldsList-from_range}
use Rattle.std.proofs.lemmas.Iterator.Search.{all_from_yields_List}
use Rattle.volume.specs.meaning.CallContracts.{is_set}
use Rattle.volume.specs.meaning.Rules.{clean_at}
use Rattle.volume.specs.looking.Knowing.{read_device}
use Rattle.volume.specs.looking.ZoneLooking.{drive_clean}
use Rattle.volume.proofs.InRanges.{all_in}
use Rattle.volume.proofs.zone_looking.is_clean.Goals as goal

pub returns : goal.returns
unfolding clean_at
returns c =
    let a = c.args in
    let g = a.zone.geometry in
    let p = drive_clean g (is_set a.zone.here) (read_device g a.sectors.now a.written.now) a.zone.number a.zone.generation a.q in
    all_from_yields_List p _ _ c.all.result c.all.ensures.ran (YieldsList-from_range 0 g.drives g.drives refl (omega arith)) (λ x b q k. search (rules, tests)) ∙ all_in p g.drives
