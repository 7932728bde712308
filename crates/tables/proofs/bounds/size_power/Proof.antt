use Rattle.tables.specs.meaning.Geometry.{log2}
use Rattle.tables.specs.laws.GeometryTest.{size_last}
use mathlib.Core.Path.{refl}
use Rattle.tables.proofs.bounds.size_power.Statement.{statement}
use Rattle.tables.proofs.bounds.size_power.Tie as tie

returns : tie.Need-returns-then-b-eq64
unfolding log2
returns c = rw c.if-b-eq64.true refl

returns-2 : tie.Need-returns-then-b-eq128
unfolding log2
returns-2 c = rw c.if-b-eq128.true refl

returns-3 : tie.Need-returns-then-b-eq256
unfolding log2
returns-3 c = rw c.if-b-eq256.true refl

returns-4 : tie.Need-returns-then-b-eq512
unfolding log2
returns-4 c = rw c.if-b-eq512.true refl

returns-5 : tie.Need-returns-then-b-eq1024
unfolding log2
returns-5 c = rw c.if-b-eq1024.true refl

returns-6 : tie.Need-returns-then-b-eq2048
unfolding log2
returns-6 c = rw c.if-b-eq2048.true refl

returns-7 : tie.Need-returns
unfolding log2
returns-7 c =
    let at-if = c.before.before.before.before in
    let at-if-2 = at-if.before in
    let s = at-if-2.before in
    rw (size_last s.args.g s.requires at-if-2.if-b-eq64.false at-if.if-b-eq128.false c.before.before.before.if-b-eq256.false c.before.before.if-b-eq512.false c.before.if-b-eq1024.false c.if-b-eq2048.false) refl

pub size_power_spec : {M : Type 1} → statement M
size_power_spec = tie.close (tie.spec returns returns-2 returns-3 returns-4 returns-5 returns-6 returns-7)
