use mathlib.Core.Path.{sym, ap, ◌∙◌}
use Prim.Native.Nat.{ℕ}
use Rattle.volume.specs.looking.Knowing.{source_of, has_source}
use Rattle.volume.specs.looking.KnowingEntries.{known_is}
use borrow.Author.Rules.{rules}
use Rattle.volume.proofs.knowing.is_known.Statement.{statement}
use Rattle.volume.proofs.knowing.is_known.Tie as tie

source-of-requires : tie.Need-source_of-way-requires
source-of-requires c κs = search rules

has-source-requires : tie.Need-has_source-requires
has-source-requires c κs = search rules

returns : tie.Need-returns
returns c =
    let s = c.before.before.before.before in
    let a = s.args in
    c.has_source.ensures ∙ ap has_source (c.source_of-way.ensures ∙ ap (λ (l : ℕ). source_of a.zone.geometry a.zone.here a.sectors.now a.written.now a.zone.number a.zone.generation l a.a) s.requires.1.2)
    ∙ sym (known_is a.zone.geometry a.zone.here a.sectors.now a.written.now a.zone.number s.requires.1.0 s.requires.0 a.zone.generation a.a s.requires.1.1)

pub is_known_spec : {M : Type 1} → statement M
is_known_spec = tie.close (tie.spec source-of-requires has-source-requires returns)
