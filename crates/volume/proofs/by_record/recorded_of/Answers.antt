use native.Mathlib.Omega.{arith}
use Rattle.tables.specs.laws.Sizes.{zone_small}
use Rattle.volume.proofs.by_record.recorded_of.Goals as goal

pub overflow_add-pointer : goal.overflow_add-pointer
overflow_add-pointer c = record { fits = omega (arith, c.requires.pointer_bound, (zone_small c.args.run.zone.geometry c.requires.valid).1) }
