use Rattle.std.proofs.Common.{◌≡◌, ℕ, ◌∙◌, ap, false, map, arith, add-one}
use Rattle.tables.specs.meaning.Device.{Device}
use Rattle.logs.specs.meaning.Entry.{encode}
use Rattle.volume.specs.meaning.Rules.{general_heads}
use Rattle.volume.specs.meaning.Emptying.{general_copies}
use Rattle.volume.specs.emptying.GeneralCopies.{by_generations}
use Rattle.volume.specs.emptying.Emptyings.{emptied_on, new_general_on, new_general_long, turn_more}
use Rattle.volume.proofs.emptyings.empty_generals.Goals as goal

pub loop-d-preserved : goal.loop-d-preserved
loop-d-preserved c =
    let a = c.args in
    let l = c.loop-d in
    let f = c.empty_general_on-rest in
    let t = l.invariant.3 in
    let copies = new_general_on a.all a.generations.now l.sectors a.pointers.now l.d in
    let same : emptied_on a.all false copies l.d ≡ emptied_on a.all false (new_general_on a.all a.generations.now a.sectors.now a.pointers.now l.d) l.d =
    ap (λ (v : Device). emptied_on a.all false (map (encode a.all.from l.d) (general_copies a.all.from (by_generations a.generations.now) (general_heads a.all.from v l.d))) l.d) t.device in (
      f.auto.sectors ∙ l.invariant.0,
      f.auto.written ∙ l.invariant.1,
      f.auto.durable ∙ l.invariant.2,
      rw add-one (turn_more false a.all (λ (e : ℕ). emptied_on a.all false (new_general_on a.all a.generations.now a.sectors.now a.pointers.now e) e) a.pointers.now a.sectors.now a.written.now a.durable.now a.budget l.rest f.result l.d l.sectors l.written l.durable f.new.sectors f.new.written f.new.durable copies c.requires.valid (omega arith) t
          (new_general_long a.all a.generations.now l.sectors a.pointers.now l.d c.requires.valid c.requires.emptying_ready.1) same f.auto.durable f.ensures),
    )
