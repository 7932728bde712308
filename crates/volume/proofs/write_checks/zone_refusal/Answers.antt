use mathlib.Core.Path.{sym, ◌∙◌}
use Rattle.volume.specs.writing.WriteChecks.{zone_7, zone_8, zone_run, zone_host}
use Rattle.volume.specs.checks.RefusalNumbers.{number_err, refusal_not_none}
use Rattle.volume.proofs.write_checks.zone_refusal.Goals as goal

pub returns-then-stale : goal.returns-then-stale
returns-then-stale c = let a = c.args in zone_7 a.run a.c a.written.now (sym c.is_stale-stale.ensures ∙ c.if-stale.true)

pub returns-then-not-known : goal.returns-then-not-known
returns-then-not-known c = let a = c.args in zone_8 a.run a.c a.written.now (sym c.is_stale-stale.ensures ∙ c.if-stale.false) c.if-not-known.true

pub returns-in_err-run_refusal : goal.returns-in_err-run_refusal
returns-in_err-run_refusal c =
    let a = c.args in
    let e = c.in_err-run_refusal.ensures in
    number_err c.from_residual.result c.in_err-run_refusal.field-0.0 c.from_residual.ensures.1 ∙ e ∙ zone_run a.run a.c a.written.now (sym c.is_stale-stale.ensures ∙ c.if-stale.false) c.if-not-known.false (λ n. refusal_not_none _ (e ∙ n))

pub returns : goal.returns
returns c = let a = c.args in zone_host a.run a.c a.written.now (sym c.is_stale-stale.ensures ∙ c.if-stale.false) c.if-not-known.false (sym (c.in_ok-run_refusal.ensures))
