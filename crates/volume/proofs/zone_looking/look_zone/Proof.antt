use Rattle.volume.specs.meaning.CallContracts.{is_set}
use Rattle.volume.specs.looking.ZoneLooking.{zone_look_lem}
use Rattle.volume.specs.looking.Knowing.{read_device}
use borrow.Author.Rules.{rules}
use Rattle.volume.proofs.zone_looking.look_zone.Statement.{statement}
use Rattle.volume.proofs.zone_looking.look_zone.Tie as tie

pointer-at-requires : tie.Need-pointer_at-pointer-requires
pointer-at-requires c κs =
    let s = c.before.before.before.before in
    (s.requires.0, (s.requires.1, c.reset_seen-by_reset.ensures))

returns : tie.Need-returns
returns c =
    let a = c.args in
    let n = c.generation_of-generation in
    let r = c.reset_seen-by_reset in
    let q = c.pointer_at-pointer in
    let k = c.is_clean-clean in
    let s = c.seal_seen-sealed in
    let v = read_device a.g a.sectors.now a.written.now in
    zone_look_lem a.g (is_set a.here) v a.z n.result q.result r.result k.result s.result c.condition_of-condition.result
    n.ensures r.ensures q.ensures.0 k.ensures s.ensures c.condition_of-condition.ensures

pub look_zone_spec : {M : Type 1} → statement M
look_zone_spec =
    tie.close
    (tie.spec (λ c κs. search rules) (λ c κs. search rules) pointer-at-requires (λ c κs. search rules) (λ c κs. search rules)
    (λ c κs. search rules) returns)
