use native.Mathlib.Omega.{arith}
use Rattle.volume.specs.looking.DriveLogs.{end_small}
use Rattle.volume.proofs.drive_logs.found_past.Goals as goal

-- the entry's numbers are small
pub overflow_mul-result : goal.overflow_mul-result
overflow_mul-result c = let k = c.stripe_sectors-k in let e = end_small c.args.g c.requires.valid k.result _ _ _ _ k.ensures.0 c.args.f c.in-Partial.is c.requires.small_seen in record { fits = omega (arith, e.0) }

pub overflow_add-result : goal.overflow_add-result
overflow_add-result c = let k = c.stripe_sectors-k in let e = end_small c.args.g c.requires.valid k.result _ _ _ _ k.ensures.0 c.args.f c.in-Partial.is c.requires.small_seen in record { fits = omega (arith, e.1) }
