use mathlib.Core.Path.{◌∙◌}
use borrow.Author.Rules.{rules}
use Rattle.tables.proofs.stores.next_byte.Statement.{statement}
use Rattle.tables.proofs.stores.next_byte.Tie as tie

byte-at-requires : tie.Need-byte_at-requires
byte-at-requires c κs =
    let s = c.before.before.before.before in
    (s.requires.0, (s.requires.1.0, s.requires.1.1, rw (c.widen-n.ensures, c.before.before.cell_of-at.ensures.0) s.requires.1.3))

returns : tie.Need-returns
returns c = let e = c.byte_at.ensures in (e.0 ∙ rw (c.before.widen-n.ensures, c.before.before.before.cell_of-at.ensures.0), e.1)

pub next_byte_spec : {M : Type 1} → statement M
next_byte_spec =
    tie.close
    (tie.spec (λ c κs. search rules) (λ c. search rules) (λ c. search rules) (λ c κs. search rules) byte-at-requires returns)
