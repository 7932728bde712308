use mathlib.Core.Path.{◌∙◌, refl, sym}
use Rattle.grouped.specs.meaning.Reading.{numbers_refused}
use Rattle.grouped.specs.reading.Call.{valid_if}
use Rattle.grouped.proofs.reading.input_refusal.Goals as goal

pub returns-then-not-valid : goal.returns-then-not-valid
unfolding numbers_refused
returns-then-not-valid c = rw (sym c.valid.ensures ∙ c.if-not-valid.true) refl

pub lengths_fit-requires : goal.lengths_fit-requires
lengths_fit-requires c = valid_if c.args.s (sym c.valid.ensures ∙ c.if-not-valid.false)

pub returns-then-not-lengths_fit : goal.returns-then-not-lengths_fit
unfolding numbers_refused
returns-then-not-lengths_fit c = rw (sym c.valid.ensures ∙ c.if-not-valid.false, sym c.lengths_fit.ensures ∙ c.if-not-lengths_fit.true) refl

pub two_missing-requires : goal.two_missing-requires
two_missing-requires c = valid_if c.args.s (sym c.valid.ensures ∙ c.if-not-valid.false)

pub returns-then-two_missing : goal.returns-then-two_missing
unfolding numbers_refused
returns-then-two_missing c = rw (sym c.valid.ensures ∙ c.if-not-valid.false, sym c.lengths_fit.ensures ∙ c.if-not-lengths_fit.false, sym c.two_missing.ensures ∙ c.if-two_missing.true) refl

pub returns : goal.returns
unfolding numbers_refused
returns c = rw (sym c.valid.ensures ∙ c.if-not-valid.false, sym c.lengths_fit.ensures ∙ c.if-not-lengths_fit.false, sym c.two_missing.ensures ∙ c.if-two_missing.false) refl
