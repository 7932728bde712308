use mathlib.Core.Path.{◌≡◌, sym, ap, ◌∙◌}
use mathlib.Core.Bool.{Bool, true, false}
use mathlib.Core.List.{List}
use Prim.Native.Nat.{ℕ}
use lib.Dec.{eqb}
use borrow.Author.Tests.{ne_eqb}
use Rattle.tables.specs.meaning.Basics.{pick}
use Rattle.volume.specs.meaning.Refusals.{gone_in}
use Rattle.volume.specs.meaning.CallContracts.{is_set, values_on}
use Rattle.volume.specs.reading.Reading.{read_by_roles, late_number}
use Rattle.volume.specs.reading.ReadZone.{zone_read_number, zone_read_ready}
use Rattle.volume.specs.meaning.RefusalNumbers.{number_of}
use Rattle.volume.specs.checks.RefusalNumbers.{number_err, refusal_not_none}
use Rattle.volume.specs.declared.Zone.{Zone}
use Rattle.volume.specs.declared.Condition.{Condition}
use Rattle.volume.proofs.reading.read_zone.Goals as goal

-- refusals 7, 9 and 13; 15; the values
abbrev gone_is : Zone → List ℕ → List ℕ → ℕ → ℕ → Bool
gone_is z xs ws offset count = gone_in z.geometry (is_set z.here) (read_by_roles z.geometry xs ws) z.number z.generation offset count

abbrev values : Zone → List ℕ → List ℕ → ℕ → ℕ → List ℕ
values z xs ws offset count = values_on z.geometry (is_set z.here) (read_by_roles z.geometry xs ws) z.number z.generation offset count

number_is : (z : Zone) (k : Condition) (xs ws : List ℕ) (offset count : ℕ) → late_number z.geometry z.here ws k z.number offset count ≡ 0 → (b : Bool) → b ≡ gone_is z xs ws offset count → pick b 15 0 ≡ zone_read_number z k xs ws offset count
unfolding zone_read_number
number_is z k xs ws offset count passed b e = ap (λ (b : Bool). pick b 15 0) e ∙ sym (ap (λ (n : ℕ). pick (eqb n 0) (pick (gone_is z xs ws offset count) 15 0) n) passed)

pub returns-in_err-run_refusal : goal.returns-in_err-run_refusal
unfolding zone_read_number
returns-in_err-run_refusal c =
    let a = c.args in
    let r = c.in_err-run_refusal in
    let ne = ne_eqb (late_number a.zone.geometry a.zone.here a.written.now a.c a.zone.number a.offset a.count) 0 (λ e. refusal_not_none _ (r.ensures ∙ e)) in (
      number_err c.from_residual.result c.in_err-run_refusal.field-0.0 c.from_residual.ensures.1 ∙ r.ensures ∙ sym (ap (λ (b : Bool). pick b (pick (gone_is a.zone a.sectors.now a.written.now a.offset a.count) 15 0) (late_number a.zone.geometry a.zone.here a.written.now a.c a.zone.number a.offset a.count)) ne),
      sym (ap (λ (b : Bool). pick b (values a.zone a.sectors.now a.written.now a.offset a.count) a.out.now) (ne_eqb (number_of c.from_residual.result) 0 (λ k. refusal_not_none _ (sym (number_err c.from_residual.result c.in_err-run_refusal.field-0.0 c.from_residual.ensures.1) ∙ k)))),
    )

pub read_run-gone-requires-clause-run_ready : goal.read_run-gone-requires-clause-run_ready
read_run-gone-requires-clause-run_ready c =
    let a = c.args in
    rw c.pointer_of-pointer.ensures (zone_read_ready a.zone a.c a.sectors.now a.written.now a.offset a.count a.out.now c.requires.read_asked (sym (c.in_ok-run_refusal.ensures)))

pub returns-then-gone : goal.returns-then-gone
returns-then-gone c =
    let a = c.args in
    let r = c.read_run-gone in (
      number_is a.zone a.c a.sectors.now a.written.now a.offset a.count (sym (c.in_ok-run_refusal.ensures)) true (sym c.if-gone.true ∙ r.ensures.gone_is),
      r.ensures.left_is ∙ ap (λ (b : Bool). pick b a.out.now (values a.zone a.sectors.now a.written.now a.offset a.count)) c.if-gone.true,
    )

pub returns : goal.returns
returns c =
    let a = c.args in
    let r = c.read_run-gone in (
      number_is a.zone a.c a.sectors.now a.written.now a.offset a.count (sym (c.in_ok-run_refusal.ensures)) false (sym c.if-gone.false ∙ r.ensures.gone_is),
      r.ensures.left_is ∙ ap (λ (b : Bool). pick b a.out.now (values a.zone a.sectors.now a.written.now a.offset a.count)) c.if-gone.false,
    )
