use Rattle.std.proofs.Common.{◌*◌, ◌<◌, arith}
use Rattle.tables.specs.laws.Sizes.{zone_small, stripe_small}
use Rattle.logs.specs.declared.Found.TheVariants.{Partial}
use Rattle.logs.specs.code.QueryLaws.{SmallSeen}
use Rattle.logs.proofs.folds.ends_within.Goals as goal

known : (c : goal.After-stripe_sectors) → SmallSeen c.args.g (Partial c.in-Partial.y c.in-Partial.s c.in-Partial.fill c.in-Partial.n)
known c = rw c.in-Partial.is at c.requires.small_seen

small : (c : goal.After-stripe_sectors) → c.in-Partial.s * c.stripe_sectors.result < 458752
small c = rw c.stripe_sectors.ensures.0 (omega (arith, (known c).0, (zone_small c.args.g c.requires.valid).1))

pub overflow_mul-end : goal.overflow_mul-end
overflow_mul-end c = omega (arith, small c)

pub overflow_add-end : goal.overflow_add-end
overflow_add-end c = omega (arith, small c, (known c).1, (stripe_small c.args.g c.requires.valid).1)
