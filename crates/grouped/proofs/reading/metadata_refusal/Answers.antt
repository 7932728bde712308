use mathlib.Core.Path.{◌∙◌, refl, sym}
use native.Mathlib.Omega.{arith}
use Rattle.grouped.specs.meaning.Reading.{metadata_number}
use Rattle.grouped.proofs.reading.metadata_refusal.Goals as goal

pub returns-then-place_all : goal.returns-then-place_all
unfolding metadata_number
returns-then-place_all c = record { told = rw (sym c.place_all.ensures.0 ∙ c.if-place_all.true) refl; placed = λ e. absurd (omega arith) }

pub some_alike-requires : goal.some_alike-requires
some_alike-requires c = record {
  sized = record { valid = c.requires.sized.valid; whole = c.requires.sized.whole; metadata_long = c.requires.sized.metadata_long; work_long = c.place_all.ensures.1.long };
  missing_most = c.requires.missing_bound;
  noted = c.place_all.ensures.1;
  right = sym c.place_all.ensures.0 ∙ c.if-place_all.false;
}

pub returns-then-some_alike : goal.returns-then-some_alike
unfolding metadata_number
returns-then-some_alike c = record { told = rw (sym c.place_all.ensures.0 ∙ c.if-place_all.false, sym c.some_alike.ensures.0 ∙ c.if-some_alike.true) refl; placed = λ z. absurd (omega arith) }

pub returns : goal.returns
unfolding metadata_number
returns c = record { told = rw (sym c.place_all.ensures.0 ∙ c.if-place_all.false, sym c.some_alike.ensures.0 ∙ c.if-some_alike.false) refl; placed = λ z. c.some_alike.ensures.1 }
