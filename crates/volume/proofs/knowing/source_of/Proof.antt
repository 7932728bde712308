use mathlib.Core.Path.{refl, sym, ◌∙◌}
use borrow.Author.Tests.{ne_eqb}
use Rattle.volume.specs.looking.Knowing.{source_of}
use borrow.Author.Rules.{rules}
use Rattle.volume.proofs.knowing.source_of.Statement.{statement}
use Rattle.volume.proofs.knowing.source_of.Tie as tie

returns : tie.Need-returns-then-held
unfolding source_of
returns c = rw (sym c.own_held-held.ensures ∙ c.if-held.true) refl

returns-2 : tie.Need-returns-then-row
unfolding source_of
returns-2 c = rw (sym c.own_held-held.ensures ∙ c.if-held.false, sym c.row_complete-row.ensures ∙ c.if-row.true) refl

returns-3 : tie.Need-returns-then-place-eq0
unfolding source_of
returns-3 c =
    rw (sym c.own_held-held.ensures ∙ c.if-held.false, sym c.row_complete-row.ensures ∙ c.if-row.false, sym c.serving_place-place.ensures ∙ c.if-place-eq0.true) refl

returns-4 : tie.Need-returns
unfolding source_of
returns-4 c =
    rw (sym c.own_held-held.ensures ∙ c.if-held.false, sym c.row_complete-row.ensures ∙ c.if-row.false, ← c.serving_place-place.ensures, ne_eqb c.serving_place-place.result 0 c.if-place-eq0.false) refl

pub source_of_spec : {M : Type 1} → statement M
source_of_spec =
    tie.close
    (tie.spec (λ c κs. search rules) returns (λ c κs. search rules) returns-2 (λ c κs. search rules) returns-3 returns-4)
