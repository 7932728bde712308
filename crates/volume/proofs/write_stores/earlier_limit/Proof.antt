use Prim.Native.Nat.{ℕ}
use mathlib.Core.Path.{sym, ap, ◌∙◌}
use mathlib.Core.Bool.{Bool}
use Rattle.tables.specs.meaning.Basics.{pick}
use Rattle.volume.specs.meaning.CallContracts.{is_set}
use Rattle.volume.specs.meaning.Rules.{seal_limit}
use Rattle.volume.specs.looking.Knowing.{read_device}
use borrow.Author.Rules.{rules}
use Rattle.volume.proofs.write_stores.earlier_limit.Statement.{statement}
use Rattle.volume.proofs.write_stores.earlier_limit.Tie as tie

abbrev limit : tie.Start → Bool → ℕ
limit s b = let a = s.args in pick b 0 (seal_limit a.zone.geometry (is_set a.zone.here) (read_device a.zone.geometry a.sectors.now a.pointers.now) a.zone.number a.zone.generation)

returns : tie.Need-returns-then-held
returns c = let h = c.before in ap (limit h.before.before.before) (sym c.if-held.true ∙ h.earlier_held-held.ensures)

returns-2 : tie.Need-returns
returns-2 c = let h = c.before.before.before in c.seal_limit.ensures.0 ∙ ap (limit h.before.before.before.before) (sym c.if-held.false ∙ h.earlier_held-held.ensures)

pub earlier_limit_spec : {M : Type 1} → statement M
earlier_limit_spec =
    tie.close
    (tie.spec (λ c κs. let s = c.before.before in (s.requires.0, (s.requires.1.0.zone_in_lem, s.requires.1.0.written_long, s.requires.1.1))) returns (λ c κs. search rules) returns-2)
