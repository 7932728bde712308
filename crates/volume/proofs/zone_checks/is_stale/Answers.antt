use Rattle.std.proofs.Common.{ℕ, ◌≤◌, ◌<◌, ◌&&◌, refl, ap, arith, rules, tests, ◌∙◌, get_or}
use Rattle.std.proofs.iter.Serving.{serving}
use Rattle.std.proofs.lemmas.Iterator.{YieldsList-from_range}
use Rattle.std.proofs.lemmas.Iterator.Search.{any_from_yields_List}
use Rattle.tables.specs.declared.placement.StripeAt.{StripeAt}
use Rattle.tables.specs.laws.StripeAt.{stripe_at, needed_of, stripe_at_fits}
use Rattle.tables.specs.meaning.Below.{any_below}
use Rattle.tables.specs.meaning.Geometry.{data_zone}
use Rattle.tables.specs.meaning.Placement.{needed}
use Rattle.tables.specs.meaning.Tables.{cell}
use Rattle.volume.specs.meaning.Refusals.{stale_in}
use Rattle.volume.specs.meaning.CallContracts.{is_set}
use Rattle.volume.specs.checks.ZoneChecks.{stale_on}
use Rattle.volume.proofs.InRanges.{any_in}
use Rattle.volume.proofs.zone_checks.is_stale.Goals as goal

pub any-requires-clause-callable : goal.any-requires-clause-callable
any-requires-clause-callable c =
    let at = c.stripe_at-at.result in
    let fits : (at.stripe ≤ 65536) × (at.parity < c.args.g.drives) = rw (c.stripe_at-at.ensures, c.pointer_of-pointer.ensures) (stripe_at_fits c.args.g c.requires.valid c.args.z _ c.requires.written_len.2) in
    grind serving

pub returns : goal.returns
unfolding stale_on needed
returns c =
    let a = c.args in
    let stale = λ (at : StripeAt) (i : ℕ). is_set a.here i && stale_in a.condition (get_or a.written.now (cell a.g i (data_zone a.z)) 0) (needed_of a.g.drives a.g.unit at i) in
    let p = stale c.stripe_at-at.result in
    any_from_yields_List p _ _ c.any.result c.any.ensures.ran (YieldsList-from_range 0 a.g.drives a.g.drives refl (omega arith)) (λ x b q k. search (rules, tests)) ∙ any_in p a.g.drives
    ∙ ap (λ (at : StripeAt). any_below (stale at) a.g.drives) (c.stripe_at-at.ensures ∙ ap (stripe_at a.g.drives a.g.unit a.z) c.pointer_of-pointer.ensures)
