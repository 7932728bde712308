use mathlib.Core.Path.{sym, ◌∙◌}
use borrow.Author.Tests.{not-true, not-false}
use Rattle.volume.specs.checks.LogRoom.{lacks_at, lost_at, claim_at, placed_valid, placed_drives, placed_cells, room_none, room_new}
use borrow.Author.Rules.{rules}
use Rattle.volume.proofs.log_room.room_unsized.Statement.{statement}
use Rattle.volume.proofs.log_room.room_unsized.Tie as tie

lacks-room-requires : tie.Need-lacks_room-lacks-requires
lacks-room-requires c κs =
    let s = c.before.before.before in
    let a = s.args in
    let k = s.requires.1.0 in
    (placed_valid a.asked.first a.asked.places a.sectors.now a.written.now a.pointers.now k s.requires.0, (rw (placed_drives a.asked.first a.asked.places a.sectors.now a.written.now a.pointers.now k) s.requires.1.1, placed_cells a.asked.first a.asked.places a.sectors.now a.written.now a.pointers.now k))

abbrev to_start : tie.After-lacks_room-lacks → tie.Start
to_start w = w.before.before.before.before

returns : tie.Need-returns-then-not-lacks
returns c =
    let w = c.before in
    let a = (to_start w).args in
    room_none (lacks_at a.asked a.pointers.now a.drive) (lost_at a.asked a.sectors.now a.written.now a.pointers.now a.drive) (claim_at a.asked a.sectors.now a.written.now a.drive) (sym w.lacks_room-lacks.ensures ∙ not-true w.lacks_room-lacks.result c.if-not-lacks.true-raw)

returns-2 : tie.Need-returns
returns-2 c =
    let w = c.before.before in
    let a = (to_start w).args in
    c.new_log.ensures ∙ room_new (lacks_at a.asked a.pointers.now a.drive) (lost_at a.asked a.sectors.now a.written.now a.pointers.now a.drive) (claim_at a.asked a.sectors.now a.written.now a.drive) (sym w.lacks_room-lacks.ensures ∙ not-false w.lacks_room-lacks.result c.if-not-lacks.false-raw)

pub room_unsized_spec : {M : Type 1} → statement M
room_unsized_spec = tie.close (tie.spec lacks-room-requires returns (λ c κs. search rules) returns-2)
