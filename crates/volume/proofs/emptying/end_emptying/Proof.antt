use mathlib.Core.Path.{◌≡◌, ◌∙◌}
use lib.ListN.{length}
use native.Mathlib.Omega.{arith}
use Rattle.tables.specs.meaning.Geometry.{cells}
use Rattle.volume.specs.emptying.EmptyingStores.{end_made}
use borrow.Author.Rules.{rules}
use Rattle.volume.proofs.emptying.end_emptying.Statement.{statement}
use Rattle.volume.proofs.emptying.end_emptying.Tie as tie

-- the tables keep their lengths
closed : (k : tie.After-append_closing-closed) → length k.append_closing-closed.new.written ≡ cells k.args.e.to
closed k = k.append_closing-closed.auto.written ∙ k.requires.1.2

flush-all-requires : tie.Need-flush_all-flushed-requires
flush-all-requires c κs = let k = c.before.before.before.before.before.before in let s = k.before.before.before.before.before.before.before in (s.requires.0, (closed k, s.requires.1.3))

reset-counted-requires : tie.Need-reset_counted-requires
reset-counted-requires c κs =
    let f = c.before.before.before.before in
    let k = f.before.before.before.before.before.before.before.before in
    let s = k.before.before.before.before.before.before.before in
    (s.requires.0, ((s.requires.1.0, omega arith), (closed k, f.flush_all-flushed.auto.durable ∙ s.requires.1.3)))

returns : tie.Need-returns
returns c =
    let r = c.before.before.before.before in
    let f = r.before.before.before.before.before in
    let k = f.before.before.before.before.before.before.before in
    let s = k.before.before.before.before.before.before.before in
    let a = s.args in
    end_made a.e a.parity s.requires.1.4 a.budget k.append_closing-closed.result f.flush_all-flushed.result r.reset_counted.result a.sectors.now a.written.now a.durable.now k.append_closing-closed.new.sectors k.append_closing-closed.new.written f.flush_all-flushed.new.durable r.reset_counted.new.written r.reset_counted.new.durable
    k.append_closing-closed.ensures f.flush_all-flushed.ensures r.reset_counted.ensures

pub end_emptying_spec : {M : Type 1} → statement M
end_emptying_spec = tie.close (tie.spec (λ c κs. search rules) flush-all-requires reset-counted-requires (λ c. search rules) (λ c. search rules) (λ c. search rules) returns)
