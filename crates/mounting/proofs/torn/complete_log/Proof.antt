use Rattle.mounting.specs.MountTornLogs.{torn_absent, torn_idle, torn_inside, torn_found_fits, torn_made}
use Rattle.mounting.specs.MountValues.{shown_at}
use Rattle.volume.specs.meaning.CallContracts.{is_set}
use Rattle.volume.specs.laws.CallContracts.{appends_nil}
use borrow.Author.Tests.{not-true, not-false}
use native.Mathlib.Omega.{arith}
use Prim.Native.Nat.{◌≤◌, ◌<◌}
use mathlib.Core.Path.{sym, ◌∙◌}
use Rattle.volume.specs.meaning.Rules.{Shown}
use borrow.Author.Rules.{rules}
use Rattle.mounting.proofs.torn.complete_log.Statement.{statement}
use Rattle.mounting.proofs.torn.complete_log.Tie as tie
use Rattle.volume.specs.looking.Knowing.{read_device}

abbrev shown : tie.Start → Shown
shown s = let a = s.args in shown_at a.basis.geometry a.basis.here a.basis.look a.sectors.now a.pointers.now

returns : tie.Need-returns-then-not-present
returns c =
    let s = c.before.before.before.before.before in
    let a = s.args in
    rw (torn_absent a.basis.geometry (shown s) (read_device a.basis.geometry a.sectors.now a.pointers.now) (is_set a.basis.here) a.drive (not-true (is_set a.basis.here a.drive) c.if-not-present.true-raw)) (appends_nil a.basis.geometry a.budget a.sectors.now a.written.now)

returns-2 : tie.Need-returns-in_default
returns-2 c =
    let s = c.before.before.before.before.before.before.before.before.before.before in
    let a = s.args in
    let n = c.sectors_then-n in
    rw (torn_idle a.basis.geometry (shown s) a.sectors.now a.pointers.now (is_set a.basis.here) a.drive n.result s.requires.1.0 n.ensures.0 (λ e. c.in_default.not-Torn _ (c.walk_log-w.ensures.0 ∙ e)))
    (appends_nil a.basis.geometry a.budget a.sectors.now a.written.now)

-- where the walk has been left at a torn entry
abbrev start : tie.In-Torn → tie.Start
start k = k.before.before.before.before.before.before.before.before.before.before

inside : (k : tie.In-Torn) → (k.in-Torn.p < k.sectors_then-n.result) × (k.sectors_then-n.result ≤ 65536)
inside k =
    let s = start k in
    let a = s.args in
    let n = k.sectors_then-n in
    let torn = sym k.walk_log-w.ensures.0 ∙ k.in-Torn.is in
    (torn_inside a.basis.geometry (shown s) a.sectors.now a.pointers.now (is_set a.basis.here) a.drive n.result s.requires.1.0 n.ensures.0 s.requires.0 k.in-Torn.p torn, omega (arith, n.ensures.1, s.requires.0.zone_most))

judge-at-requires : tie.Need-judge_at-f-requires
judge-at-requires c κs =
    let k = c.before in
    let s = start k in
    let n = k.sectors_then-n in
    (s.requires.0, (record { drive_in = s.requires.1.0; zone_in_lem = omega arith; short = n.ensures.1; long = s.requires.1.1.logging.sectors_long }, (inside k).0))

add-rows : tie.Need-overflow_add-rows
add-rows c = let i = inside c.before.before in omega (arith, i.0, i.1)

sub-rows : tie.Need-overflow_sub-rows
sub-rows c = omega (arith, (inside c.before.before).0)

complete-entry-requires : tie.Need-complete_entry-requires
complete-entry-requires c κs =
    let k = c.before.before.before.before in
    let s = start k in
    let a = s.args in
    let n = k.sectors_then-n in
    let torn = sym k.walk_log-w.ensures.0 ∙ k.in-Torn.is in
    let j = c.judge_at-f in
    (s.requires.0, (s.requires.1.0, s.requires.1.1, torn_found_fits a.basis.geometry (shown s) a.sectors.now a.pointers.now (is_set a.basis.here) a.drive n.result s.requires.1.0 n.ensures.0 s.requires.0 k.in-Torn.p torn j.result j.ensures))

returns-3 : tie.Need-returns
returns-3 c =
    let k = c.before.before.before.before.before.before.before.before.before in
    let s = start k in
    let a = s.args in
    let n = k.sectors_then-n in
    let torn = sym k.walk_log-w.ensures.0 ∙ k.in-Torn.is in
    let j = c.judge_at-f in
    let here = not-false (is_set a.basis.here a.drive) c.if-not-present.false-raw in
    rw (torn_made a.basis.geometry (shown s) a.sectors.now a.pointers.now (is_set a.basis.here) a.drive n.result s.requires.1.0 n.ensures.0 s.requires.0 k.in-Torn.p torn j.result j.ensures here) c.complete_entry.ensures

pub complete_log_spec : {M : Type 1} → statement M
complete_log_spec =
    tie.close
    (tie.spec (λ c. search rules) returns (λ c κs. search rules) (λ c κs. search rules) (λ c. search rules) (λ c. search rules) returns-2
    judge-at-requires add-rows sub-rows complete-entry-requires (λ c. search rules) (λ c. search rules) returns-3)
