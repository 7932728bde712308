use Rattle.logs.specs.code.Lays.{counters_laid}
use lib.Seq.{length-take-le}
use lib.ListN.{take}
use mathlib.Core.Path.{◌∙◌}
use borrow.Author.Rules.{rules}
use Rattle.logs.proofs.headers.write_counters.Statement.{statement}
use Rattle.logs.proofs.headers.write_counters.Tie as tie

returns : tie.Need-returns
returns c =
    let s = c.before.before.before.before.before.before.before.before.before.before in
    let a = s.args in
    let e = length-take-le a.g.zones a.generations.now s.requires.1.1 in
    c.write_words.ensures ∙ rw (c.write_span.ensures, s.requires.1.0) (counters_laid a.g a.drive (take a.g.zones a.generations.now) (rw e s.requires.0.counters_fit))

pub write_counters_spec : {M : Type 1} → statement M
write_counters_spec =
    tie.close (tie.spec (λ c κs. search rules) (λ c κs. search rules) (λ c. search rules) returns)
