use mathlib.Core.Path.{refl}
use native.Mathlib.Nat.{div-add-mod'}
use native.Mathlib.Omega.{arith}
use Rattle.tables.specs.laws.Placement.{stripe_begin}
use Rattle.volume.specs.checks.ZoneChecks.{needs_log}
use borrow.Author.Rules.{rules}
use Rattle.volume.proofs.zone_checks.needs_log.Statement.{statement}
use Rattle.volume.proofs.zone_checks.needs_log.Tie as tie

count-absent-requires : tie.Need-count_absent-absent-requires
count-absent-requires c κs = search rules

stripe-sectors-requires : tie.Need-stripe_sectors-k-requires
stripe-sectors-requires c κs = search rules

div-complete : tie.Need-nonzero_div-complete
div-complete c = search rules

mul-complete : tie.Need-overflow_mul-complete
mul-complete c = omega (arith, div-add-mod' c.args.pointer c.stripe_sectors-k.result)

returns : tie.Need-returns
unfolding needs_log
returns c = let a = c.args in rw (c.count_absent-absent.ensures, stripe_begin a.g.drives a.g.unit a.pointer c.stripe_sectors-k.result c.stripe_sectors-k.ensures.0) refl

pub needs_log_spec : {M : Type 1} → statement M
needs_log_spec =
    tie.close
    (tie.spec count-absent-requires stripe-sectors-requires div-complete mul-complete returns)
