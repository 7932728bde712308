use mathlib.Core.Path.{refl, sym, ◌∙◌}
use native.Mathlib.Omega.{arith}
use Rattle.volume.specs.meaning.CallContracts.{is_set}
use Rattle.volume.specs.looking.ZoneLooking.{pointer_reset, pointer_known}
use Rattle.volume.specs.looking.Knowing.{read_device}
use borrow.Author.Rules.{rules}
use Rattle.volume.proofs.zone_looking.pointer_at.Statement.{statement}
use Rattle.volume.proofs.zone_looking.pointer_at.Tie as tie

returns : tie.Need-returns-then-reset
returns c = let s = c.before.before.before in let a = s.args in (pointer_reset a.zone.geometry (is_set a.zone.here) (read_device a.zone.geometry a.sectors.now a.written.now) a.zone.number a.zone.generation (sym s.requires.1.1 ∙ c.if-reset.true), omega arith)

seal-limit-requires : tie.Need-seal_limit-limit-requires
seal-limit-requires c κs = search rules

known-prefix-requires : tie.Need-known_prefix-requires
known-prefix-requires c κs = search rules

returns-2 : tie.Need-returns
returns-2 c =
    let s = c.before.before.before.before.before.before in
    let a = s.args in
    let l = c.seal_limit-limit in
    (pointer_known a.zone.geometry (is_set a.zone.here) (read_device a.zone.geometry a.sectors.now a.written.now) a.zone.number a.zone.generation (sym s.requires.1.1 ∙ c.if-reset.false) c.known_prefix.result (c.known_prefix.ensures ∙ rw l.ensures.0 refl), omega (arith, c.known_prefix.ensures, l.ensures.1))

pub pointer_at_spec : {M : Type 1} → statement M
pointer_at_spec = tie.close (tie.spec returns seal-limit-requires known-prefix-requires returns-2)
