use Prim.Native.Nat.{ℕ, ◌+◌, ◌-◌, ◌*◌, ◌≤◌}
use mathlib.Core.Path.{◌≡◌, refl, sym, ap, ◌∙◌, subst}
use mathlib.Core.Bool.{Bool}
use mathlib.Core.List.{List}
use native.Mathlib.Omega.{arith}
use lib.ListN.{length, take, drop}
use Rattle.tables.specs.meaning.Lists.{overlay}
use Rattle.tables.specs.meaning.Tables.{sector_no}
use Rattle.tables.specs.meaning.Xor.{xor_bytes}
use Rattle.tables.specs.laws.Within.{Apart, part_long}
use Rattle.volume.specs.looking.Knowing.{own_sector}
use Rattle.volume.specs.looking.KnowingValues.{own_long}
use Rattle.volume.specs.rows.RowsInPlace.{with_two, free_fits, free_apart}
use borrow.Author.Rules.{rules}
use Rattle.volume.proofs.rows.put_held_with.Statement.{statement}
use Rattle.volume.proofs.rows.put_held_with.Tie as tie

abbrev to_start : tie.After-own_place-from → tie.Start
to_start c = c.before.before.before.before.before

-- the part of the buffer is a sector
abbrev part : tie.Start → List ℕ
part s = let b = s.args.known.geometry.sector in take (s.args.i * b + b - s.args.i * b) (drop (s.args.i * b) s.args.buffer.now)

abbrev sector : tie.Start → List ℕ
sector s = sector_no s.args.known.geometry.sector s.args.buffer.now s.args.i

part-is : (s : tie.Start) → part s ≡ sector s
part-is s =
    let b = s.args.known.geometry.sector in
    let e : s.args.i * b + b - s.args.i * b ≡ b = omega arith in
    rw e refl

sector-long : (s : tie.Start) → length (sector s) ≡ s.args.known.geometry.sector
sector-long s = let b = s.args.known.geometry.sector in part_long s.args.buffer.now (s.args.i * b) b s.requires.1.5

-- the two parts of the tables lie in them, and do not meet
abbrev Parts : tie.After-own_place-from → ℕ → Type 0
Parts c n = let a = (to_start c).args in (a.to + n ≤ length a.sectors.now) × (c.own_place-from.result + n ≤ length a.sectors.now) × Apart a.to c.own_place-from.result n

parts : (c : tie.After-own_place-from) → Parts c (length (part (to_start c)))
parts c =
    let s = to_start c in
    let a = s.args in
    let g = a.known.geometry in
    subst (Parts c) (sym (ap length (part-is s) ∙ sector-long s)) (
      free_fits g a.pointers.now a.to s.requires.1.4 a.sectors.now s.requires.1.2,
      omega (arith, c.own_place-from.ensures.1, s.requires.1.2),
      subst (λ (x : ℕ). Apart a.to x g.sector) (sym c.own_place-from.ensures.0) (free_apart g a.pointers.now a.to s.requires.1.4 s.requires.0 a.known.here a.known.zone a.a s.requires.1.1 s.requires.1.3),
    )

-- whatever is made of a sector's length, the bytes read in the tables and the part of the buffer
abbrev own : tie.Start → List ℕ
own s = let a = s.args in own_sector a.known.geometry a.sectors.now a.known.zone a.a

read : (c : tie.After-own_place-from) (F : ℕ → List ℕ → List ℕ → List ℕ) → let s = to_start c in
    F (length (part s)) (take (length (part s)) (drop c.own_place-from.result s.args.sectors.now)) (part s) ≡ F s.args.known.geometry.sector (own s) (sector s)
read c F =
    let s = to_start c in
    let xs = s.args.sectors.now in
    let b = s.args.known.geometry.sector in
    ap (λ (p : List ℕ). F (length p) (take (length p) (drop c.own_place-from.result xs)) p) (part-is s)
    ∙ ap (λ (n : ℕ). F n (take n (drop c.own_place-from.result xs)) (sector s)) (sector-long s)
    ∙ ap (λ (x : ℕ). F b (take b (drop x xs)) (sector s)) c.own_place-from.ensures.0

returns : tie.Need-returns-then-first
returns c =
    let f = c.before.before.before.before.before.before in
    let s = to_start f in
    let a = s.args in
    let xs = a.sectors.now in
    c.lay_with.ensures ∙ read f (λ (n : ℕ) (q p : List ℕ). overlay xs a.to (xor_bytes q p))
    ∙ sym (ap (λ (t : Bool). with_two t xs a.to (own s) (sector s)) c.if-first.true)

returns-2 : tie.Need-returns
returns-2 c =
    let f = c.before.before.before.before.before.before in
    let s = to_start f in
    let a = s.args in
    let g = a.known.geometry in
    let xs = a.sectors.now in
    let l : length (own s) ≡ g.sector = own_long g xs a.known.zone a.a s.requires.0 s.requires.1.0 s.requires.1.1 s.requires.1.2 in
    c.xor_with.ensures ∙ read f (λ (n : ℕ) (q p : List ℕ). overlay xs a.to (xor_bytes (xor_bytes (take n (drop a.to xs)) q) p))
    ∙ sym (ap (λ (n : ℕ). overlay xs a.to (xor_bytes (xor_bytes (take n (drop a.to xs)) (own s)) (sector s))) l)
    ∙ sym (ap (λ (t : Bool). with_two t xs a.to (own s) (sector s)) c.if-first.false)

pub put_held_with_spec : {M : Type 1} → statement M
put_held_with_spec =
    tie.close
    (tie.spec (λ c κs. search rules) (λ c. search rules) (λ c. search rules) (λ c. search rules) (λ c. search rules) (λ c. search rules) (λ c κs. parts c.before.before.before) (λ c. search rules)
    returns (λ c. search rules) (λ c. search rules) (λ c. search rules) (λ c κs. parts c.before.before.before) (λ c. search rules) returns-2)
