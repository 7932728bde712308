use Rattle.std.proofs.Common.{sym, arith}
use Rattle.tables.specs.laws.Xor.{xor_nil}
use Rattle.volume.proofs.row_others.xor_row.Goals as goal

pub loop-k-init : goal.loop-k-init
loop-k-init c = record { within = omega arith; added = sym (xor_nil c.args.out.now) }
