use Rattle.std.proofs.Common.{sym, add-one, arith}
use Rattle.tables.specs.laws.Xor.{xor_nil, xor_part_suc}
use Rattle.tables.proofs.sectors.xor_into.Goals as goal

pub loop-i-init : goal.loop-i-init
loop-i-init c = sym (xor_nil c.args.acc.now)

pub loop-i-preserved : goal.loop-i-preserved
loop-i-preserved c = rw (c.loop-i.invariant, add-one) (xor_part_suc c.args.acc.now c.args.src.now c.loop-i.i (omega arith) (omega arith))
