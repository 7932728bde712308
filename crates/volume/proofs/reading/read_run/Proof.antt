use mathlib.Core.Path.{◌≡◌, sym, subst, ◌∙◌}
use mathlib.Core.Bool.{Bool, false}
use Prim.Native.Nat.{◌+◌}
use Rattle.tables.specs.meaning.Basics.{pick}
use Rattle.volume.specs.meaning.Rules.{seal_limit}
use Rattle.volume.specs.meaning.CallContracts.{is_set, values_on}
use Rattle.volume.specs.checks.ZoneChecks.{needs_log}
use Rattle.volume.specs.looking.Knowing.{read_device}
use Rattle.volume.specs.reading.Reading.{held_values}
use Rattle.volume.specs.reading.ReadingHeld.{LimitServes, run_held, none_needed, none_gone, limit_serves, read_directly}
use borrow.Author.Rules.{rules}
use Rattle.volume.proofs.reading.read_run.Statement.{statement}
use Rattle.volume.proofs.reading.read_run.Tie as tie

-- no drive is absent
returns : tie.Need-returns-then-absent-eq0
returns c =
    let s = c.before.before.before.before.before.before.before.before.before.before in
    let a = s.args in
    let g = a.zone.geometry in
    let r = s.requires.1 in
    let All-here = sym c.count_absent-absent.ensures ∙ c.if-absent-eq0.true in
    let held = run_held g s.requires.0 a.zone.here a.written.now a.zone.number a.pointer r.reaches a.offset a.count All-here r.below in
    read_directly a.zone s.requires.0 a.sectors.now a.written.now a.pointer a.offset a.count a.out.now c.copy_run.new.out r (none_needed g a.zone.here a.pointer (a.offset + a.count) All-here)
    (c.copy_run.ensures ∙ held_values g a.zone.here a.sectors.now a.written.now a.zone.number r.readable a.zone.generation a.offset a.count s.requires.0 r.run_in held)

-- one is, and no log is needed
none : (c : tie.Else-logged) → let a = c.args in needs_log a.zone.geometry a.zone.here a.pointer (a.offset + a.count) ≡ false
none c = sym c.needs_log-logged.ensures ∙ c.if-logged.false

read-values-requires : tie.Need-read_values-requires
read-values-requires c κs =
    let s = c.before.before.before.before.before.before.before.before.before in
    let a = s.args in
    let g = a.zone.geometry in
    let h = a.zone.here in
    let xs = a.sectors.now in
    let ws = a.written.now in
    let r = s.requires.1 in
    let direct = none c.before in
    let serves = limit_serves g s.requires.0 h xs ws a.zone.number a.pointer r.readable r.reaches a.zone.generation a.offset a.count r.below in (
      s.requires.0,
      (
        r.readable,
        r.run_in,
        r.buffer,
        none_gone g s.requires.0 h xs ws a.zone.number a.pointer r.readable r.reaches a.zone.generation a.offset a.count r.below r.run_in direct,
        subst (λ (b : Bool). LimitServes g h xs ws a.zone.number a.zone.generation (pick b (seal_limit g (is_set h) (read_device g xs ws) a.zone.number a.zone.generation) 0) a.offset a.count) direct serves,
      ),
    )

returns-3 : tie.Need-returns
unfolding values_on
returns-3 c =
    let s = c.before.before.before.before.before.before.before.before.before.before.before.before in
    let a = s.args in
    read_directly a.zone s.requires.0 a.sectors.now a.written.now a.pointer a.offset a.count a.out.now c.read_values.new.out s.requires.1 (none c.before.before.before.before) c.read_values.ensures

pub read_run_spec : {M : Type 1} → statement M
read_run_spec =
    tie.close
    (tie.spec (λ c κs. search rules) (λ c κs. search rules) (λ c. search rules) returns (λ c. search rules) (λ c κs. search rules) (λ c κs. search rules) (λ c. search rules) (λ c. search rules)
    read-values-requires (λ c. search rules) returns-3)
