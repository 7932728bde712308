use Rattle.std.proofs.Common.{◌+◌, ◌-◌, ◌*◌, drop, arith, ◌∙◌}
use Rattle.tables.specs.laws.Sizes.{zone_small}
use Rattle.volume.specs.looking.Knowing.{own_sector}
use Rattle.volume.specs.reading.Reading.{run_small, part_long, filled_more}
use Rattle.volume.proofs.reading.copy_run.Goals as goal

pub overflow_add-offset : goal.overflow_add-offset
overflow_add-offset c = omega (arith, c.requires.z_lt_zones.1, (zone_small c.args.g c.requires.valid).1)

pub loop-i-preserved : goal.loop-i-preserved
loop-i-preserved c =
    let a = c.args in
    let l = c.loop-i in
    let f = c.read_own in
    let b = a.g.sector in
    let k = run_small a.g a.offset a.count l.i c.requires.valid c.requires.z_lt_zones.1 (omega arith) in
    let long = l.auto.out ∙ c.requires.z_lt_zones.3 in
    filled_more b l.i (a.count * b) a.offset (own_sector a.g a.sectors.now a.z) l.out f.new.out (drop (l.i * b + b - l.i * b) (drop (l.i * b) l.out)) k.0 long (f.auto.out ∙ part_long b l.i (a.count * b) l.out k.0 long) f.ensures l.invariant
