use Rattle.logs.specs.declared.Found.TheVariants.{Partial}
use Rattle.volume.specs.laws.CallContracts.{appends_nil}
use Rattle.mounting.specs.MountTornLogs.{TornFits}
use borrow.Author.Rules.{rules}
use Rattle.mounting.proofs.torn.complete_entry.Statement.{statement}
use Rattle.mounting.proofs.torn.complete_entry.Tie as tie

complete-rows-requires : tie.Need-complete_rows-requires
complete-rows-requires c κs =
    let s = c.before.before.before.before.before.before in
    let w : TornFits s.args.basis.geometry (Partial c.in-Partial.z c.in-Partial.s c.in-Partial.fill c.in-Partial.n) s.args.rows = rw c.in-Partial.is at s.requires.1.2 in
    (s.requires.0, (s.requires.1.0, w.0, w.1, w.2, s.requires.1.1))

returns : tie.Need-returns-in-Bad
returns c = let a = c.args in rw c.in-Bad.is (appends_nil a.basis.geometry a.budget a.sectors.now a.written.now)

returns-2 : tie.Need-returns-in-Label
returns-2 c = let a = c.args in rw c.in-Label.is (appends_nil a.basis.geometry a.budget a.sectors.now a.written.now)

returns-3 : tie.Need-returns-in-Counters
returns-3 c = let a = c.args in rw c.in-Counters.is (appends_nil a.basis.geometry a.budget a.sectors.now a.written.now)

returns-4 : tie.Need-returns-in-Resets
returns-4 c = let a = c.args in rw c.in-Resets.is (appends_nil a.basis.geometry a.budget a.sectors.now a.written.now)

returns-5 : tie.Need-returns-in-Partial
returns-5 c = rw c.in-Partial.is c.complete_rows.ensures

returns-6 : tie.Need-returns-in-Seal
returns-6 c = let a = c.args in rw c.in-Seal.is (appends_nil a.basis.geometry a.budget a.sectors.now a.written.now)

returns-7 : tie.Need-returns-in-Closing
returns-7 c = let a = c.args in rw c.in-Closing.is (appends_nil a.basis.geometry a.budget a.sectors.now a.written.now)

pub complete_entry_spec : {M : Type 1} → statement M
complete_entry_spec =
    tie.close
    (tie.spec (λ c. search rules) (λ c. search rules) (λ c. search rules) (λ c. search rules) (λ c. search rules) complete-rows-requires
    (λ c. search rules) (λ c. search rules) returns returns-2 returns-3 returns-4 (λ c. search rules) (λ c. search rules) returns-5 returns-6 returns-7)
