use mathlib.Core.Path.{◌∙◌}
use Rattle.tables.specs.meaning.Tables.{sectors_after_append}
use borrow.Author.Rules.{rules}
use Rattle.tables.proofs.stores.append_sector.Statement.{statement}
use Rattle.tables.proofs.stores.append_sector.Tie as tie

returns : tie.Need-returns
unfolding sectors_after_append
returns c =
    let f = c.before.before in
    let e = f.before.before.before.before in
    (e.copy_in.ensures ∙ rw e.before.before.next_byte-to.ensures.0, f.advance.ensures)

pub append_sector_spec : {M : Type 1} → statement M
append_sector_spec =
    tie.close
    (tie.spec (λ c κs. search rules) (λ c κs. search rules) (λ c κs. search rules) (λ c. search rules) (λ c. search rules) returns)
