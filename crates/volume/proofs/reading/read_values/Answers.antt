use Rattle.std.proofs.Common.{◌+◌, ◌-◌, ◌*◌, drop, arith, ◌∙◌}
use Rattle.tables.specs.laws.Sizes.{zone_small}
use Rattle.volume.specs.meaning.Rules.{value_at}
use Rattle.volume.specs.meaning.CallContracts.{is_set}
use Rattle.volume.specs.looking.Knowing.{read_device}
use Rattle.volume.specs.looking.KnowingLaws.{known_in}
use Rattle.volume.specs.reading.Reading.{run_small, part_long, filled_more}
use Rattle.volume.proofs.reading.read_values.Goals as goal

pub overflow_add-offset : goal.overflow_add-offset
overflow_add-offset c = omega (arith, c.requires.readable.1, (zone_small c.args.zone.geometry c.requires.valid).1)

pub served_value-requires-clause-readable : goal.served_value-requires-clause-readable
served_value-requires-clause-readable c =
    let a = c.args in
    let z = a.zone in
    let g = z.geometry in
    let l = c.loop-i in
    let q = c.requires.readable in
    let k = run_small g a.offset a.count l.i c.requires.valid q.1 (omega arith) in
    (q.0, omega (arith, q.1), q.4.same_source l.i (omega arith), known_in g (is_set z.here) (read_device g a.sectors.now a.written.now) z.number z.generation a.offset a.count l.i q.3 (omega arith), part_long g.sector l.i (a.count * g.sector) l.out k.0 (l.auto.out ∙ q.2))

pub loop-i-preserved : goal.loop-i-preserved
loop-i-preserved c =
    let a = c.args in
    let z = a.zone in
    let g = z.geometry in
    let l = c.loop-i in
    let q = c.requires.readable in
    let f = c.served_value in
    let b = g.sector in
    let k = run_small g a.offset a.count l.i c.requires.valid q.1 (omega arith) in
    let long = l.auto.out ∙ q.2 in
    filled_more b l.i (a.count * b) a.offset (value_at g (is_set z.here) (read_device g a.sectors.now a.written.now) z.number z.generation) l.out f.new.out (drop (l.i * b + b - l.i * b) (drop (l.i * b) l.out)) k.0 long (f.auto.out ∙ part_long b l.i (a.count * b) l.out k.0 long) f.ensures l.invariant
