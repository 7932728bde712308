use Rattle.logs.specs.code.ZoneWalk.{zone_part_in_zone, step_of_log}
use mathlib.Core.Path.{◌∙◌}
use Rattle.logs.proofs.walking.next_entry.Statement.{statement}
use Rattle.logs.proofs.walking.next_entry.Tie as tie

zone-part-requires : tie.Need-zone_part-bytes-requires
zone-part-requires c κs = let s = c.before in let l = s.requires.1.0 in (s.requires.0, (l.drive_in, (l.zone_in_lem, l.long)))

next-step-requires : tie.Need-next_step-requires
next-step-requires c κs =
    let s = c.before.before in
    let a = s.args in
    (s.requires.0, (rw c.zone_part-bytes.ensures (zone_part_in_zone a.g a.log.drive a.log.zone a.log.written a.sectors.now s.requires.1.0), s.requires.1.1))

returns : tie.Need-returns
returns c =
    let s = c.before.before.before in
    let a = s.args in
    rw c.zone_part-bytes.ensures at c.next_step.ensures ∙ step_of_log a.g a.log.drive a.log.zone a.parity a.log.written a.p a.sectors.now s.requires.1.0

pub next_entry_spec : {M : Type 1} → statement M
next_entry_spec = tie.close (tie.spec zone-part-requires next-step-requires returns)
