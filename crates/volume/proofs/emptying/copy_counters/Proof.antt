use Prim.Native.Nat.{ℕ}
use mathlib.Core.Path.{ap, ◌∙◌}
use mathlib.Core.Bool.{true}
use lib.ListN.{take}
use Rattle.logs.specs.meaning.Entry.{general_zone, counters, encode}
use Rattle.volume.specs.checks.Logging.{appended_as}
use Rattle.volume.specs.emptying.Shape.{shape_encode}
use borrow.Author.Rules.{rules}
use Rattle.volume.proofs.emptying.copy_counters.Statement.{statement}
use Rattle.volume.proofs.emptying.copy_counters.Tie as tie

returns : tie.Need-returns
returns c =
    let s = c.before.before.before.before.before.before.before.before.before.before in
    let a = s.args in
    let e = a.e in
    let gs = a.generations.now in
    let f = c.append_counters in
    let h = s.requires.1.4 in
    appended_as e.to a.budget f.result true e.drive general_zone (encode e.to e.drive (counters (take e.to.zones gs))) (encode e.from e.drive (counters (take e.from.zones gs))) a.sectors.now a.written.now f.new.sectors f.new.written
    (shape_encode e.from e.to h e.drive (counters (take e.to.zones gs)) ∙ ap (λ (n : ℕ). encode e.from e.drive (counters (take n gs))) h.zones) f.ensures

pub copy_counters_spec : {M : Type 1} → statement M
copy_counters_spec = tie.close (tie.spec (λ c κs. let s = c.before.before.before.before.before in (s.requires.0, (s.requires.1.0, s.requires.1.1, s.requires.1.2, s.requires.1.3))) (λ c. search rules) (λ c. search rules) returns)
