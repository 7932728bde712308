use Rattle.volume.specs.looking.ZoneLooking.{condition_worn, condition_empty, condition_sealed, condition_open}
use Rattle.volume.proofs.zone_looking.condition_of.Statement.{statement}
use Rattle.volume.proofs.zone_looking.condition_of.Tie as tie

returns : tie.Need-returns-then-generation-eq-WORN_GENERATION
returns c = let a = c.args in condition_worn a.generation a.q a.clean a.sealed c.if-generation-eq-WORN_GENERATION.true

returns-2 : tie.Need-returns-then-q-eq0
returns-2 c = let a = c.args in condition_empty a.generation a.q a.clean a.sealed c.if-generation-eq-WORN_GENERATION.false c.if-q-eq0.true

returns-3 : tie.Need-returns-then-clean-sealed
returns-3 c = let a = c.args in condition_sealed a.generation a.q a.clean a.sealed c.if-generation-eq-WORN_GENERATION.false c.if-q-eq0.false c.if-clean-sealed.true

returns-4 : tie.Need-returns
returns-4 c = let a = c.args in condition_open a.generation a.q a.clean a.sealed c.if-generation-eq-WORN_GENERATION.false c.if-q-eq0.false c.if-clean-sealed.false

pub condition_of_spec : {M : Type 1} → statement M
condition_of_spec = tie.close (tie.spec returns returns-2 returns-3 returns-4)
