use mathlib.Core.Path.{ap}
use Prim.Native.Nat.{ℕ}
use Rattle.volume.specs.looking.Knowing.{source_of}
use borrow.Author.Rules.{rules}
use Rattle.volume.proofs.knowing.sector_value.Statement.{statement}
use Rattle.volume.proofs.knowing.sector_value.Tie as tie

served-value-requires : tie.Need-served_value-requires
served-value-requires c κs =
    let s = c.before.before.before.before in
    let a = s.args in
    (s.requires.0, (s.requires.1.0, s.requires.1.1, ap (λ (l : ℕ). source_of a.g a.here a.sectors.now a.written.now a.z a.generation l a.a) s.requires.1.2, s.requires.1.3, s.requires.1.4))

same_length : tie.Need-shape_of-out
same_length c = search rules

returns : tie.Need-returns
returns c = search rules

pub sector_value_spec : {M : Type 1} → statement M
sector_value_spec = tie.close (tie.spec served-value-requires same_length returns)
