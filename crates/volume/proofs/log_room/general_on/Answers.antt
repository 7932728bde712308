use mathlib.Core.Path.{refl, ◌∙◌}
use Rattle.volume.specs.declared.log_room.DriveRoom.TheVariants.{Roomy, Full, Emptied}
use Rattle.volume.specs.meaning.Rules.{general_heads}
use Rattle.volume.specs.meaning.Emptying.{new_general_size}
use Rattle.volume.specs.looking.Knowing.{read_device}
use Rattle.volume.specs.emptying.GeneralCopies.{by_generations}
use Rattle.volume.specs.checks.LogRoom.{general_room_at, placed_drives, placed_zones, placed_capacity, placed_sized, room_sized}
use Rattle.volume.proofs.log_room.general_on.Goals as goal

pub general_size-size-requires-clause-sized : goal.general_size-size-requires-clause-sized
general_size-size-requires-clause-sized c =
    let a = c.args in
    let k = c.requires.asking.0 in (
      placed_sized a.asked.first a.asked.places a.sectors.now a.written.now a.pointers.now k,
      rw (placed_drives a.asked.first a.asked.places a.sectors.now a.written.now a.pointers.now k) c.requires.asking.1,
      rw (placed_zones a.asked.first a.asked.places a.sectors.now a.written.now a.pointers.now k) c.requires.asking.2,
    )

-- by how long the new log would be
pub returns-in-Roomy : goal.returns-in-Roomy
unfolding general_room_at
returns-in-Roomy c =
    let a = c.args in
    let size = new_general_size a.asked.places.geometry (by_generations a.generations.now) (general_heads a.asked.places.geometry (read_device a.asked.places.geometry a.sectors.now a.pointers.now) a.drive) in
    room_sized a.asked size a.sectors.now a.written.now a.pointers.now a.drive Roomy c.in-Roomy.ensures a.asked.first.capacity size refl refl

pub returns-in-Full : goal.returns-in-Full
unfolding general_room_at
returns-in-Full c =
    let a = c.args in
    let size = new_general_size a.asked.places.geometry (by_generations a.generations.now) (general_heads a.asked.places.geometry (read_device a.asked.places.geometry a.sectors.now a.pointers.now) a.drive) in
    room_sized a.asked size a.sectors.now a.written.now a.pointers.now a.drive Full c.in-Full.ensures a.asked.first.capacity size refl refl

pub returns-in-Emptied : goal.returns-in-Emptied
unfolding general_room_at
returns-in-Emptied c =
    let a = c.args in
    let size = new_general_size a.asked.places.geometry (by_generations a.generations.now) (general_heads a.asked.places.geometry (read_device a.asked.places.geometry a.sectors.now a.pointers.now) a.drive) in
    let same = placed_capacity a.asked.first a.asked.places a.sectors.now a.written.now a.pointers.now c.requires.asking.0 in
    c.with_size.ensures
    ∙ room_sized a.asked size a.sectors.now a.written.now a.pointers.now a.drive (Emptied c.in-Emptied.generation) c.in-Emptied.ensures a.asked.places.geometry.capacity c.general_size-size.result same c.general_size-size.ensures
