use mathlib.Core.Path.{refl, ◌∙◌}
use borrow.Author.Tests.{not-true, not-false}
use borrow.Author.Rules.{rules}
use Rattle.volume.proofs.zone_checks.drive_stale.Statement.{statement}
use Rattle.volume.proofs.zone_checks.drive_stale.Tie as tie

returns : tie.Need-returns-then-not-here
returns c = rw (not-true c.args.here c.if-not-here.true-raw) refl

returns-2 : tie.Need-returns
returns-2 c =
    let at-if = c.before.before.before in
    let s = at-if.before.before in
    rw (not-false s.args.here at-if.if-not-here.false-raw) (c.stale_in.ensures ∙ rw (c.written_at-w.ensures, c.needed_of-needs.ensures) refl)

pub drive_stale_spec : {M : Type 1} → statement M
drive_stale_spec =
    tie.close
    (tie.spec returns (λ c. search rules) (λ c κs. search rules) (λ c κs. search rules) (λ c κs. search rules) returns-2)
