use lib.ListN.{get_or}
use Rattle.tables.specs.meaning.Tables.{cell}
use Rattle.volume.specs.looking.KnowingLaws.{heads_are}
use mathlib.Core.Path.{◌≡◌, refl, ◌∙◌}
use mathlib.Core.Bool.{true, false}
use native.Mathlib.Omega.{arith}
use Rattle.tables.specs.laws.Basics.{not_true, not_not}
use Rattle.volume.specs.meaning.CallContracts.{is_set}
use borrow.Author.Rules.{rules}
use Rattle.volume.proofs.knowing.seal_of.Statement.{statement}
use Rattle.volume.proofs.knowing.seal_of.Tie as tie

returns : tie.Need-returns-then-not-present
returns c =
    let a = c.args in
    let h : is_set a.zone.here a.d ≡ false = not_true (is_set a.zone.here a.d) c.if-not-present.true-raw in
    rw h (refl, omega arith)

least-seal-requires : tie.Need-least_seal-requires
least-seal-requires c κs =
    let s = c.before.before.before.before.before.before.before in
    let r = s.requires.1.0 in
    let h : is_set s.args.zone.here s.args.d ≡ true = not_not (is_set s.args.zone.here s.args.d) c.if-not-present.false-raw in
    let e : c.widen-n.result ≡ get_or s.args.written.now (cell s.args.zone.geometry s.args.d 0) 0 = c.widen-n.ensures ∙ rw c.cell_of-at.ensures.0 refl in
    (s.requires.0, record { drive_in = s.requires.1.1; zone_in_lem = omega arith; short = rw e (r.pointers s.args.d 0 s.requires.1.1 h (omega arith)); long = r.sectors_long })

returns-2 : tie.Need-returns
returns-2 c =
    let at-if = c.before.before.before.before in
    let s = at-if.before.before.before.before in
    let a = s.args in
    let h : is_set a.zone.here a.d ≡ true = not_not (is_set a.zone.here a.d) at-if.if-not-present.false-raw in
    let e : c.widen-n.result ≡ get_or a.written.now (cell a.zone.geometry a.d 0) 0 = c.widen-n.ensures ∙ rw c.cell_of-at.ensures.0 refl in
    let k = heads_are a.zone.geometry a.zone.here a.sectors.now a.written.now a.zone.number s.requires.1.0 a.d s.requires.1.1 h in
    (c.least_seal.ensures.0 ∙ rw (h, e, k) refl, c.least_seal.ensures.1)

pub seal_of_spec : {M : Type 1} → statement M
seal_of_spec =
    tie.close
    (tie.spec (λ c. search rules) returns (λ c κs. search rules) (λ c. search rules) (λ c. search rules) (λ c κs. search rules) least-seal-requires
    returns-2)
