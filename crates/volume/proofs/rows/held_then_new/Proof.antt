use Prim.Native.Nat.{◌<◌}
use mathlib.Core.Path.{sym, ap, ◌∙◌}
use mathlib.Core.Bool.{Bool, ◌&&◌}
use native.Mathlib.Omega.{arith}
use lib.Dec.{ltb, leb}
use borrow.Author.Tests.{ltb-true, leb-true}
use Rattle.tables.specs.laws.Basics.{and_split}
use Rattle.tables.specs.meaning.Geometry.{zone_sectors}
use Rattle.volume.specs.looking.Knowing.{own_held}
use Rattle.volume.proofs.rows.held_then_new.Statement.{statement}
use Rattle.volume.proofs.rows.held_then_new.Tie as tie

-- whether address a is held
abbrev held : tie.Start → Bool
held s = let a = s.args in own_held a.known.geometry a.known.here a.pointers.now a.known.zone a.a

own-held-requires : tie.Need-own_held-requires
own-held-requires c κs =
    let s = c.before.before.before in
    let a = s.args in
    let (p, q) = and_split (ltb a.a a.known.below) (leb a.known.below a.b && ltb a.b a.known.end) c.if-a-below.true in
    let (r, t) = and_split (leb a.known.below a.b) (ltb a.b a.known.end) q in
    let in-zone : a.a < zone_sectors a.known.geometry = omega (arith, ltb-true a.a a.known.below p, leb-true a.known.below a.b r, ltb-true a.b a.known.end t, s.requires.1.2) in
    (s.requires.0, (s.requires.1.0, s.requires.1.1, in-zone))

returns : tie.Need-returns-then-a-below
returns c = let t = c.before.before in c.own_held.ensures ∙ sym (ap (λ (b : Bool). b && held t.before.before.before) t.if-a-below.true)

returns-2 : tie.Need-returns
returns-2 c = sym (ap (λ (b : Bool). b && held c.before.before) c.if-a-below.false)

pub held_then_new_spec : {M : Type 1} → statement M
held_then_new_spec = tie.close (tie.spec own-held-requires returns returns-2)
