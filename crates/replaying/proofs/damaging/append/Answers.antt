use Rattle.std.proofs.Common.{sym, ◌∙◌, length}
use Rattle.replaying.specs.Damaging.{may_append_lem}
use Rattle.tables.specs.laws.TablesFrame.{lengths_are}
use Rattle.replaying.proofs.damaging.append.Goals as goal

pub append_counted-requires : goal.append_counted-requires
append_counted-requires c =
    let m = may_append_lem c.args.g (length c.args.sectors.now) (length c.args.written.now) (length c.args.src.now) c.args.drive c.args.zone (sym c.may_append-ok.ensures ∙ c.if-not-ok.false) in
    let l = lengths_are c.args.g _ _ _ m.lengths in
    record { valid = m.valid; drive_lt_drives = (m.drive_in, m.zone_in_lem); sectors_len = (l.0, l.1, m.whole) }
