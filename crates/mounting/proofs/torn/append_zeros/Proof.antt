use mathlib.Core.Path.{sym}
use mathlib.Core.Bool.{true}
use native.Mathlib.Omega.{arith}
use lib.ListN.{take, replicate}
use lib.Seq.{length-take-le}
use Rattle.logs.specs.meaning.Entry.{parity_zone}
use Rattle.volume.specs.checks.Logging.{appended_as}
use Rattle.mounting.specs.MountTornLogs.{take_zeros}
use borrow.Author.Rules.{rules}
use Rattle.mounting.proofs.torn.append_zeros.Statement.{statement}
use Rattle.mounting.proofs.torn.append_zeros.Tie as tie

slice-aggregate-append-counted : tie.Need-slice_bounds-append_counted-end
slice-aggregate-append-counted c = let s = c.before.before.before.before.before in sym (length-take-le s.args.g.sector _ s.requires.0.sector_most)

append-counted-requires : tie.Need-append_counted-requires
append-counted-requires c κs =
    let s = c.before.before.before.before.before in
    (s.requires.0, ((s.requires.1.0, omega arith), (s.requires.1.1, s.requires.1.2, length-take-le s.args.g.sector _ s.requires.0.sector_most)))

returns : tie.Need-returns
returns c =
    let s = c.before.before.before.before.before.before.before.before.before.before in
    let a = s.args in
    let f = c.append_counted in
    appended_as a.g a.budget f.result true a.drive parity_zone (take a.g.sector (replicate 4096 0)) (replicate a.g.sector 0) a.sectors.now a.written.now f.new.sectors f.new.written (take_zeros a.g.sector 4096 s.requires.0.sector_most) f.ensures

pub append_zeros_spec : {M : Type 1} → statement M
append_zeros_spec =
    tie.close
    (tie.spec (λ c. search rules) slice-aggregate-append-counted append-counted-requires (λ c. search rules) (λ c. search rules) returns)
