use Rattle.std.proofs.Common.{Bool, ◌+◌, ◌∙◌, ap, arith}
use Rattle.volume.specs.looking.MovedLogs.{is_emptied, zones_after, zones_after_small, moved_small, moved_more}
use Rattle.volume.proofs.roles.move_logs.Goals as goal

pub log_bits-logs-requires : goal.log_bits-logs-requires
log_bits-logs-requires c =
    let k = zones_after_small c.args.g c.args.parity c.is_some.result c.loop-d.d in
    rw c.zones_after.ensures (k.0, k.1, omega (arith, c.requires.drives_most))

pub overflow_add-logs : goal.overflow_add-logs
overflow_add-logs c =
    let a = c.args in
    let l = c.loop-d in
    let zones = c.zones_after.ensures ∙ ap (λ (b : Bool). zones_after a.g a.parity b l.d) c.is_some.ensures in
    let more = moved_more a.g a.parity (is_emptied a.emptied) l.d l.logs c.log_bits-logs.result c.zones_after.result l.invariant c.log_bits-logs.ensures zones in
    omega (arith, more, moved_small a.g a.parity (is_emptied a.emptied) (l.d + 1) (omega (arith, c.requires.drives_most)))
