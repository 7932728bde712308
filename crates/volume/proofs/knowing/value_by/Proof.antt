use mathlib.Core.Path.{sym, ap, ◌∙◌}
use Rattle.volume.specs.declared.knowing.Source.{Source}
use Rattle.volume.specs.declared.knowing.Source.TheVariants.{Entry}
use Rattle.volume.specs.looking.Knowing.{value_from, SourceFits}
use borrow.Author.Rules.{rules}
use Rattle.volume.proofs.knowing.value_by.Statement.{statement}
use Rattle.volume.proofs.knowing.value_by.Tie as tie

value-by-entry-requires : tie.Need-value_by_entry-requires
value-by-entry-requires c κs =
    let s = c.before.before.before.before in
    let w : SourceFits s.args.g s.args.sectors.now s.args.z s.args.a (Entry c.in-Entry.place) = rw c.in-Entry.is at s.requires.1.4 in
    (s.requires.0, (s.requires.1.0, s.requires.1.1, s.requires.1.2, s.requires.1.3, w))

returns : tie.Need-returns-in-Unknown
returns c = let a = c.args in sym (ap (λ (w : Source). value_from a.g a.sectors.now a.z a.a w a.out.now) c.in-Unknown.is)

returns-2 : tie.Need-returns-in-Held
returns-2 c = let a = c.args in c.read_own.ensures ∙ sym (ap (λ (w : Source). value_from a.g a.sectors.now a.z a.a w a.out.now) c.in-Held.is)

returns-3 : tie.Need-returns-in-Row
returns-3 c = let a = c.args in c.value_by_row.ensures ∙ sym (ap (λ (w : Source). value_from a.g a.sectors.now a.z a.a w a.out.now) c.in-Row.is)

returns-4 : tie.Need-returns-in-Entry
returns-4 c = let a = c.args in c.value_by_entry.ensures ∙ sym (ap (λ (w : Source). value_from a.g a.sectors.now a.z a.a w a.out.now) c.in-Entry.is)

pub value_by_spec : {M : Type 1} → statement M
value_by_spec =
    tie.close
    (tie.spec (λ c. search rules) (λ c. search rules) (λ c κs. search rules) (λ c. search rules) (λ c κs. search rules) (λ c. search rules)
    value-by-entry-requires returns (λ c. search rules) returns-2 (λ c. search rules) returns-3 (λ c. search rules) returns-4)
