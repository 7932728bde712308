use Rattle.std.proofs.Common.{◌≡◌, add-one, arith, true, replicate}
use Rattle.tables.specs.meaning.Device.{append}
use Rattle.tables.specs.laws.Made.{store_if}
use Rattle.logs.specs.meaning.Entry.{parity_zone}
use Rattle.volume.specs.laws.CallContracts.{appends_nil, appends_append}
use Rattle.volume.specs.rows.RowStores.{rows_if, rows_none, rows_more}
use Rattle.mounting.specs.MountTornLogs.{zero_row}
use Rattle.mounting.proofs.torn.append_zero_rows.Goals as goal

pub loop-init : goal.loop-init
loop-init c =
    let a = c.args in
    rw (rows_none true a.drive parity_zone (zero_row a.g) a.from) (appends_nil a.g a.budget a.sectors.now a.written.now)

pub loop-preserved : goal.loop-preserved
loop-preserved c =
    let a = c.args in
    let l = c.loop in
    let f = c.append_zeros-rest in
    rw (add-one, rows_more true a.drive parity_zone (zero_row a.g) a.from l.counter (omega arith))
    (appends_append a.g a.budget l.rest f.result (rows_if true a.drive parity_zone (zero_row a.g) a.from l.counter) (store_if true (append a.drive parity_zone (replicate a.g.sector 0))) a.sectors.now a.written.now l.sectors l.written f.new.sectors f.new.written l.invariant f.ensures)

pub returns : goal.returns
returns c = let e : c.loop.counter ≡ c.args.m = omega arith in rw e at c.loop.invariant
