use Rattle.logs.specs.code.ZoneWalk.{zone_part_in_zone, legal_end_of_log}
use Rattle.logs.proofs.walking.walk_log.Statement.{statement}
use Rattle.logs.proofs.walking.walk_log.Tie as tie

zone-part-requires : tie.Need-zone_part-bytes-requires
zone-part-requires c κs = let s = c.before in let l = s.requires.1 in (s.requires.0, (l.drive_in, (l.zone_in_lem, l.long)))

legal-end-requires : tie.Need-legal_end-requires
legal-end-requires c κs =
    let s = c.before.before in
    let a = s.args in
    (s.requires.0, rw c.zone_part-bytes.ensures (zone_part_in_zone a.g a.drive a.zone a.n a.sectors.now s.requires.1))

returns : tie.Need-returns
returns c =
    let s = c.before.before.before in
    let a = s.args in
    legal_end_of_log a.g a.drive a.zone a.parity a.n a.sectors.now c.legal_end.result s.requires.1 (rw c.zone_part-bytes.ensures at c.legal_end.ensures)

pub walk_log_spec : {M : Type 1} → statement M
walk_log_spec = tie.close (tie.spec zone-part-requires legal-end-requires returns)
