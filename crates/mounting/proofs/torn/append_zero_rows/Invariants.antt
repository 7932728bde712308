use Rattle.std.proofs.Common.{true}
use Rattle.tables.specs.laws.Made.{MadeAppends}
use Rattle.logs.specs.meaning.Entry.{parity_zone}
use Rattle.volume.specs.rows.RowStores.{rows_if}
use Rattle.mounting.specs.MountTornLogs.{zero_row}
use Rattle.mounting.proofs.torn.append_zero_rows.Given as goal

abbrev pub invariant-loop : goal.invariant-loop
invariant-loop l = MadeAppends l.g l.budget l.rest (rows_if true l.drive parity_zone (zero_row l.g) l.from l.counter) l.fn.sectors l.fn.written l.sectors l.written
