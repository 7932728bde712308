use mathlib.Core.Path.{refl, ◌∙◌}
use Rattle.volume.specs.declared.log_room.DriveRoom.TheVariants.{Roomy, Full, Emptied}
use Rattle.volume.specs.meaning.Emptying.{new_parity_size}
use Rattle.volume.specs.emptying.ParityCopies.{by_pointers}
use Rattle.volume.specs.checks.LogRoom.{parity_room_at, room_sized}
use Rattle.volume.proofs.log_room.parity_on.Goals as goal

-- by how long the new log would be
pub returns-in-Roomy : goal.returns-in-Roomy
unfolding parity_room_at
returns-in-Roomy c =
    let a = c.args in
    let size = new_parity_size a.asked.first (by_pointers a.points.now) a.drive in
    room_sized a.asked size a.sectors.now a.written.now a.pointers.now a.drive Roomy c.in-Roomy.ensures a.asked.first.capacity size refl refl

pub returns-in-Full : goal.returns-in-Full
unfolding parity_room_at
returns-in-Full c =
    let a = c.args in
    let size = new_parity_size a.asked.first (by_pointers a.points.now) a.drive in
    room_sized a.asked size a.sectors.now a.written.now a.pointers.now a.drive Full c.in-Full.ensures a.asked.first.capacity size refl refl

pub returns-in-Emptied : goal.returns-in-Emptied
unfolding parity_room_at
returns-in-Emptied c =
    let a = c.args in
    let size = new_parity_size a.asked.first (by_pointers a.points.now) a.drive in
    c.with_size.ensures
    ∙ room_sized a.asked size a.sectors.now a.written.now a.pointers.now a.drive (Emptied c.in-Emptied.generation) c.in-Emptied.ensures a.asked.first.capacity c.parity_size-size.result refl c.parity_size-size.ensures
