use Rattle.tables.specs.meaning.Tables.{tables_of}
use Rattle.volume.specs.meaning.Calls.{flush_stores}
use Rattle.volume.specs.meaning.CallContracts.{is_set}
use Rattle.mounting.specs.MountTables.{flush_skipped, flush_due}
use borrow.Author.Rules.{rules}
use Rattle.mounting.proofs.steps.flush_after.Statement.{statement}
use Rattle.mounting.proofs.steps.flush_after.Tie as tie

returns : tie.Need-returns-then-rest-before
returns c =
    let a = c.args in
    record { made = λ xs ss t m. flush_skipped a.g (is_set a.here) a.before a.rest ss t (tables_of xs a.written.now a.durable.now) c.if-rest-before.true m }

returns-2 : tie.Need-returns
unfolding flush_stores
returns-2 c =
    let a = c.args in
    let f = c.flush_all in
    record { made = λ xs ss t m. flush_due a.g (is_set a.here) a.before a.rest f.result ss t (tables_of xs a.written.now a.durable.now) (tables_of xs a.written.now f.new.durable) c.if-rest-before.false m (f.ensures.made xs) }

pub flush_after_spec : {M : Type 1} → statement M
flush_after_spec = tie.close (tie.spec returns (λ c κs. search rules) (λ c. search rules) returns-2)
