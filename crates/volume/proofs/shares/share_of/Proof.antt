use mathlib.Core.Path.{refl}
use borrow.Author.Rules.{rules}
use borrow.Author.Tests.{not-true, not-false}
use Rattle.volume.proofs.shares.share_of.Statement.{statement}
use Rattle.volume.proofs.shares.share_of.Tie as tie

returns : tie.Need-returns-then-not-here
returns c = let a = c.args in rw (not-true a.here c.if-not-here.true-raw) refl

parity-unused-requires : tie.Need-parity_unused-unused-requires
parity-unused-requires c κs = let s = c.before.before in (s.requires.0, (s.requires.1.0 (not-false s.args.here c.if-not-here.false-raw), s.requires.1.1))

returns-2 : tie.Need-returns
returns-2 c =
    let a = c.args in
    rw (not-false a.here c.if-not-here.false-raw, c.half_past.ensures, c.parity_unused-unused.ensures.0) refl

pub share_of_spec : {M : Type 1} → statement M
share_of_spec = tie.close (tie.spec returns parity-unused-requires (λ c κs. search rules) returns-2)
