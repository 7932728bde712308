use Rattle.std.proofs.Common.{◌+◌, ◌<◌, ap, arith}
use Rattle.volume.specs.declared.roles.LogZones.{LogZones}
use Rattle.volume.specs.meaning.Roles.{roles}
use Rattle.volume.specs.laws.LogPlaces.{logs_small, roles_proper}
use Rattle.volume.specs.looking.HiddenLogs.{logs_more, lacking_more}
use Rattle.volume.specs.looking.Knowing.{read_device}
use Rattle.volume.proofs.roles.place_logs.Goals as goal

pub log_bits-logs-requires : goal.log_bits-logs-requires
log_bits-logs-requires c =
    let a = c.args in
    let k = roles_proper a.g (read_device a.g a.sectors.now a.written.now) c.loop-d.d in
    rw c.find_logs-zones.ensures (k.general_lt, k.parity_lt, omega (arith, c.requires.valid.drives_most))

pub overflow_add-logs : goal.overflow_add-logs
overflow_add-logs c =
    let a = c.args in
    let l = c.loop-d in
    let v = read_device a.g a.sectors.now a.written.now in
    let z = c.find_logs-zones in
    let more = logs_more (roles a.g v) l.d l.logs c.log_bits-logs.result z.result l.invariant.logs_are c.log_bits-logs.ensures z.ensures in
    let small = logs_small (roles a.g v) (roles_proper a.g v) (l.d + 1) (omega (arith, c.requires.valid.drives_most)) in
    omega (arith, more, small)

pub loop-d-preserved : goal.loop-d-preserved
loop-d-preserved c =
    let a = c.args in
    let l = c.loop-d in
    let r = roles a.g (read_device a.g a.sectors.now a.written.now) in
    let z = c.find_logs-zones in
    let h : l.d < 8 = omega (arith, c.requires.valid.drives_most) in record {
      logs_are = logs_more r l.d l.logs c.log_bits-logs.result z.result l.invariant.logs_are c.log_bits-logs.ensures z.ensures;
      general_is = lacking_more (λ e. (r e).general_claim) l.d l.no_general z.result.lacks_general h l.invariant.general_is (ap (λ (z : LogZones). z.lacks_general) z.ensures);
      parity_is = lacking_more (λ e. (r e).parity_claim) l.d l.no_parity z.result.lacks_parity h l.invariant.parity_is (ap (λ (z : LogZones). z.lacks_parity) z.ensures);
    }
