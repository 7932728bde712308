use mathlib.Core.Path.{◌≡◌, refl, sym, ap, ap₂, ◌∙◌}
use mathlib.Core.Bool.{Bool, true, false}
use Prim.Native.Nat.{ℕ, min}
use native.Mathlib.Omega.{arith}
use lib.ListN.{get_or}
use Rattle.tables.specs.meaning.Basics.{pick}
use Rattle.tables.specs.laws.Basics.{not_true, not_not}
use Rattle.tables.specs.meaning.Tables.{cell}
use Rattle.logs.specs.laws.Heads.{ends_within}
use Rattle.logs.specs.meaning.Walk.{walk_log}
use Rattle.logs.specs.code.WalkCode.{log_sectors}
use Rattle.logs.specs.code.Query.{heads_of}
use Rattle.logs.specs.laws.Places.{last_place}
use Rattle.volume.specs.meaning.Rules.{parity_of}
use Rattle.volume.specs.meaning.CallContracts.{is_set}
use Rattle.volume.specs.looking.Knowing.{reach_of, serving_place}
use borrow.Author.Rules.{rules}
use Rattle.volume.proofs.knowing.serving_place.Statement.{statement}
use Rattle.volume.proofs.knowing.serving_place.Tie as tie

returns : tie.Need-returns-then-not-present
unfolding serving_place
returns c =
    let a = c.args in
    let h : is_set a.zone.here (parity_of a.zone.geometry.drives a.zone.geometry.unit a.zone.number a.a) ≡ false = ap (λ (p : ℕ). is_set a.zone.here p) (sym c.parity_of-p.ensures.0) ∙ not_true (is_set a.zone.here c.parity_of-p.result) c.if-not-present.true-raw in
    rw h refl

last-partial-requires : tie.Need-last_partial-requires
last-partial-requires c κs =
    let at-if = c.before.before.before.before.before in
    let at-parity-of = at-if.before in
    let s = at-parity-of.before.before.before.before in
    let a = s.args in
    let f = at-parity-of.parity_of-p in
    let h : is_set a.zone.here f.result ≡ true = not_not (is_set a.zone.here f.result) at-if.if-not-present.false-raw in
    let e : c.widen-n.result ≡ get_or a.written.now (cell a.zone.geometry f.result 1) 0 = c.widen-n.ensures ∙ rw c.cell_of-at.ensures.0 refl in
    (s.requires.0, record { drive_in = f.ensures.1; zone_in_lem = omega arith; short = rw e (s.requires.1.0.pointers f.result 1 f.ensures.1 h (omega arith)); long = s.requires.1.0.sectors_long })

returns-2 : tie.Need-returns
unfolding serving_place
returns-2 c =
    let at-min = c.before.before.before.before in
    let at-reach-of = at-min.before in
    let at-if = at-reach-of.before in
    let at-parity-of = at-if.before in
    let s = at-parity-of.before.before.before.before in
    let a = s.args in
    let f = at-parity-of.parity_of-p in
    let P = parity_of a.zone.geometry.drives a.zone.geometry.unit a.zone.number a.a in
    let place : ℕ → ℕ → ℕ → ℕ = λ p high w. last_place a.zone.geometry (ends_within a.zone.geometry a.zone.number a.zone.generation a.a high) 0 0 (heads_of (walk_log a.zone.geometry p true (log_sectors a.zone.geometry p 1 a.sectors.now w))) in
    let h : is_set a.zone.here P ≡ true = ap (λ (p : ℕ). is_set a.zone.here p) (sym f.ensures.0) ∙ not_not (is_set a.zone.here f.result) at-if.if-not-present.false-raw in
    let e : c.widen-n.result ≡ get_or a.written.now (cell a.zone.geometry P 1) 0 = c.widen-n.ensures ∙ ap (λ (k : ℕ). get_or a.written.now k 0) c.cell_of-at.ensures.0 ∙ ap (λ (p : ℕ). get_or a.written.now (cell a.zone.geometry p 1) 0) f.ensures.0 in
    let m : at-min.min-high.result ≡ min a.limit (reach_of a.zone.geometry a.zone.here a.written.now a.zone.number a.a) = at-min.min-high.ensures ∙ ap (λ (k : ℕ). min a.limit k) at-reach-of.reach_of-reach.ensures in
    c.last_partial.ensures.0 ∙ ap (λ (p : ℕ). place p at-min.min-high.result c.widen-n.result) f.ensures.0 ∙ ap₂ (λ (k w : ℕ). place P k w) m e
    ∙ sym (ap (λ (b : Bool). pick b (place P (min a.limit (reach_of a.zone.geometry a.zone.here a.written.now a.zone.number a.a)) (get_or a.written.now (cell a.zone.geometry P 1) 0)) 0) h)

pub serving_place_spec : {M : Type 1} → statement M
serving_place_spec =
    tie.close
    (tie.spec (λ c κs. search rules) (λ c. search rules) returns (λ c κs. search rules) (λ c κs. search rules) (λ c κs. search rules)
    (λ c. search rules) (λ c. search rules) (λ c κs. search rules) last-partial-requires returns-2)
