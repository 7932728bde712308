use mathlib.Core.Path.{refl}
use Rattle.volume.specs.meaning.Rules.{showing}
use borrow.Author.Rules.{rules}
use Rattle.volume.proofs.looking.look_all.Statement.{statement}
use Rattle.volume.proofs.looking.look_all.Tie as tie

left-out-requires : tie.Need-left_out-lost-requires
left-out-requires c κs = search rules

look-array-requires : tie.Need-look_array-array-requires
look-array-requires c κs = search rules

look-zones-requires : tie.Need-look_zones-zones-requires
look-zones-requires c κs = search rules

returns : tie.Need-returns
unfolding showing
returns c = rw (c.left_out-lost.ensures, c.look_array-array.ensures, c.look_zones-zones.ensures) refl

pub look_all_spec : {M : Type 1} → statement M
look_all_spec =
    tie.close (tie.spec left-out-requires look-array-requires look-zones-requires returns)
