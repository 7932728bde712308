use Prim.Native.Nat.{ℕ, ◌+◌, ◌≤◌}
use mathlib.Core.Path.{◌≡◌, sym, ap, ◌∙◌, subst}
use mathlib.Core.Bool.{Bool}
use native.Mathlib.Omega.{arith}
use lib.ListN.{length, take, drop}
use Rattle.tables.specs.meaning.Lists.{overlay}
use Rattle.tables.specs.meaning.Xor.{xor_bytes}
use Rattle.tables.specs.laws.Within.{Apart}
use Rattle.volume.specs.looking.Knowing.{own_sector}
use Rattle.volume.specs.looking.KnowingValues.{own_long}
use Rattle.volume.specs.rows.RowsInPlace.{with_member, free_fits, free_apart}
use borrow.Author.Rules.{rules}
use Rattle.volume.proofs.rows.put_held.Statement.{statement}
use Rattle.volume.proofs.rows.put_held.Tie as tie

abbrev to_start : tie.After-own_place-from → tie.Start
to_start c = c.before.before.before.before

-- the two parts lie in the tables, and do not meet
parts : (c : tie.After-own_place-from) → let a = (to_start c).args in
    (a.to + a.known.geometry.sector ≤ length a.sectors.now) × (c.own_place-from.result + a.known.geometry.sector ≤ length a.sectors.now) × Apart a.to c.own_place-from.result a.known.geometry.sector
parts c =
    let s = to_start c in
    let a = s.args in
    let g = a.known.geometry in (
      free_fits g a.pointers.now a.to s.requires.1.4 a.sectors.now s.requires.1.2,
      omega (arith, c.own_place-from.ensures.1, s.requires.1.2),
      subst (λ (x : ℕ). Apart a.to x g.sector) (sym c.own_place-from.ensures.0) (free_apart g a.pointers.now a.to s.requires.1.4 s.requires.0 a.known.here a.known.zone a.a s.requires.1.1 s.requires.1.3),
    )

returns : tie.Need-returns-then-first
returns c =
    let f = c.before.before.before.before.before in
    let a = (to_start f).args in
    let xs = a.sectors.now in
    let n = a.known.geometry.sector in
    let own = own_sector a.known.geometry xs a.known.zone a.a in
    let e : c.copy_within.new.bytes ≡ overlay xs a.to own = c.copy_within.ensures ∙ ap (λ (x : ℕ). overlay xs a.to (take n (drop x xs))) f.own_place-from.ensures.0 in
    e ∙ sym (ap (λ (b : Bool). with_member b xs a.to own) c.if-first.true)

returns-2 : tie.Need-returns
returns-2 c =
    let f = c.before.before.before.before.before in
    let s = to_start f in
    let a = s.args in
    let g = a.known.geometry in
    let xs = a.sectors.now in
    let own = own_sector g xs a.known.zone a.a in
    let e : c.xor_within.new.bytes ≡ overlay xs a.to (xor_bytes (take g.sector (drop a.to xs)) own) =
    c.xor_within.ensures ∙ ap (λ (x : ℕ). overlay xs a.to (xor_bytes (take g.sector (drop a.to xs)) (take g.sector (drop x xs)))) f.own_place-from.ensures.0 in
    let l : length own ≡ g.sector = own_long g xs a.known.zone a.a s.requires.0 s.requires.1.0 s.requires.1.1 s.requires.1.2 in
    e ∙ sym (ap (λ (n : ℕ). overlay xs a.to (xor_bytes (take n (drop a.to xs)) own)) l) ∙ sym (ap (λ (b : Bool). with_member b xs a.to own) c.if-first.false)

pub put_held_spec : {M : Type 1} → statement M
put_held_spec =
    tie.close
    (tie.spec (λ c κs. search rules) (λ c κs. parts c.before.before) (λ c. search rules)
    returns (λ c κs. parts c.before.before) (λ c. search rules) returns-2)
