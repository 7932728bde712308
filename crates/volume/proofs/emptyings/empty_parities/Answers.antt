use Rattle.std.proofs.Common.{◌<◌, ◌∙◌, arith, add-one}
use Rattle.volume.specs.emptying.ParityTurns.{parities_more}
use Rattle.volume.proofs.emptyings.empty_parities.Goals as goal

pub loop-d-preserved : goal.loop-d-preserved
loop-d-preserved c =
    let a = c.args in
    let l = c.loop-d in
    let f = c.empty_parity_at-rest in
    let below : l.d < a.all.from.drives = omega arith in (
      f.auto.sectors ∙ l.invariant.0,
      f.auto.written ∙ l.invariant.1,
      f.auto.durable ∙ l.invariant.2,
      rw add-one (parities_more a.all a.generations.now a.points.now a.pointers.now a.starts.now a.sectors.now a.written.now a.durable.now a.budget l.rest f.result l.d l.sectors l.written l.durable
          f.new.sectors f.new.written f.new.durable c.requires.valid below l.invariant.3 f.ensures),
    )
