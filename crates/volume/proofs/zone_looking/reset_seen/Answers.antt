use Rattle.std.proofs.Common.{ℕ, ◌&&◌, refl, arith, rules, tests, ◌∙◌}
use Rattle.std.proofs.lemmas.Iterator.{YieldsList-from_range}
use Rattle.std.proofs.lemmas.Iterator.Search.{any_from_yields_List}
use Rattle.tables.specs.meaning.Lists.{any_of}
use Rattle.logs.specs.meaning.Heads.{is_reset}
use Rattle.volume.specs.meaning.CallContracts.{is_set}
use Rattle.volume.specs.meaning.Rules.{general_heads, reset_seen}
use Rattle.volume.specs.looking.Knowing.{read_device}
use Rattle.volume.proofs.InRanges.{any_in}
use Rattle.volume.proofs.zone_looking.reset_seen.Goals as goal

pub returns : goal.returns
unfolding reset_seen
returns c =
    let a = c.args in
    let p = λ (d : ℕ). is_set a.here d && any_of (is_reset a.z a.generation) (general_heads a.g (read_device a.g a.sectors.now a.written.now) d) in
    any_from_yields_List p _ _ c.any.result c.any.ensures.ran (YieldsList-from_range 0 a.g.drives a.g.drives refl (omega arith)) (λ x b q k. search (rules, tests)) ∙ any_in p a.g.drives
