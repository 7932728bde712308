use Rattle.std.proofs.Common.{refl, length}
use Rattle.grouped.specs.places.Places.{noted_none}
use Rattle.grouped.proofs.places.place_all.Goals as goal

pub loop-d-init : goal.loop-d-init
loop-d-init c = let a = c.args in record { noted = rw c.clear.ensures (noted_none a.s a.metadata.now a.missing (length a.work.now) c.requires.work_long); told = refl }
