use mathlib.Core.Path.{refl, ◌∙◌}
use borrow.Author.Tests.{not-true, not-false}
use borrow.Author.Rules.{rules}
use Rattle.volume.proofs.zone_looking.drive_generation.Statement.{statement}
use Rattle.volume.proofs.zone_looking.drive_generation.Tie as tie

returns : tie.Need-returns-then-not-present
returns c = rw (not-true c.args.present c.if-not-present.true-raw) refl

last-generation-requires : tie.Need-last_generation-requires
last-generation-requires c κs = search rules

returns-2 : tie.Need-returns
returns-2 c = let a = c.args in c.last_generation.ensures ∙ rw (not-false a.present c.if-not-present.false-raw) refl

pub drive_generation_spec : {M : Type 1} → statement M
drive_generation_spec = tie.close (tie.spec returns last-generation-requires returns-2)
