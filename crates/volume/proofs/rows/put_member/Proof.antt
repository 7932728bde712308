use Prim.Native.Nat.{◌+◌, ◌-◌, ◌*◌, ◌≤◌}
use mathlib.Core.Path.{◌≡◌, refl, sym, ap, ◌∙◌}
use mathlib.Core.List.{List}
use Prim.Native.Nat.{ℕ}
use native.Mathlib.Omega.{arith}
use lib.ListN.{length, take, drop}
use borrow.Author.Tests.{lt-ltb, le-ltb}
use Rattle.tables.specs.meaning.Tables.{sector_no}
use Rattle.tables.specs.laws.Within.{part_long}
use Rattle.volume.specs.looking.Knowing.{read_device}
use Rattle.volume.specs.rows.RowsInPlace.{with_member, content_known, content_new, member_early, free_fits}
use borrow.Author.Rules.{rules}
use Rattle.volume.proofs.rows.put_member.Statement.{statement}
use Rattle.volume.proofs.rows.put_member.Tie as tie

returns : tie.Need-returns-then-end-a
returns c = let a = c.args in rw (le-ltb a.a a.known.end c.if-end-a.true) refl

put-known-requires : tie.Need-put_known-requires
put-known-requires c κs =
    let s = c.before.before.before.before.before.before in
    let a = s.args in
    (s.requires.0, (c.if-a-below.true, c.if-end-a.false, member_early a.known a.sectors.now a.pointers.now a.buffer.now a.a s.requires.1.0 c.if-a-below.true, s.requires.1.1))

returns-2 : tie.Need-returns-then-a-below
returns-2 c =
    let t = c.before.before.before.before in
    let a = t.args in
    rw (lt-ltb a.a a.known.end t.if-end-a.false)
    (c.put_known.ensures ∙ ap (λ (x : List ℕ). with_member a.first a.sectors.now a.to x) (sym (content_known a.known (read_device a.known.geometry a.sectors.now a.pointers.now) a.buffer.now a.a t.if-a-below.true)))

-- the sector lies in the buffer
within : (c : tie.Else-a-below) → let a = c.args in (a.a - a.known.below) * a.known.geometry.sector + a.known.geometry.sector ≤ length a.buffer.now
within c = let s = c.before.before.before.before.before in s.requires.1.0.in_buffer c.if-end-a.false c.if-a-below.false

put-requires : tie.Need-put-requires
put-requires c κs =
    let t = c.before.before in
    let s = t.before.before.before.before.before in
    let a = s.args in
    let from = (a.a - a.known.below) * a.known.geometry.sector in
    let b = a.known.geometry.sector in
    let e : from + b - from ≡ b = omega arith in
    rw (e, part_long a.buffer.now from b (within t)) (free_fits a.known.geometry a.pointers.now a.to s.requires.1.1 a.sectors.now s.requires.1.0.readable.sectors_long)

returns-3 : tie.Need-returns
returns-3 c =
    let t = c.before.before.before.before.before in
    let a = t.args in
    let from = (a.a - a.known.below) * a.known.geometry.sector in
    let b = a.known.geometry.sector in
    let e : from + b - from ≡ b = omega arith in
    let q : take (from + b - from) (drop from a.buffer.now) ≡ sector_no b a.buffer.now (a.a - a.known.below) = rw e refl in
    rw (lt-ltb a.a a.known.end t.if-end-a.false)
    (c.before.before.put.ensures ∙ ap (λ (x : List ℕ). with_member a.first a.sectors.now a.to x) (q ∙ sym (content_new a.known (read_device a.known.geometry a.sectors.now a.pointers.now) a.buffer.now a.a t.if-a-below.false)))

pub put_member_spec : {M : Type 1} → statement M
put_member_spec =
    tie.close
    (tie.spec returns put-known-requires (λ c. search rules) returns-2 (λ c. omega (arith, within c)) (λ c. omega (arith, within c)) (λ c. search rules)
    (λ c. search rules) (λ c. within c.before) put-requires (λ c. search rules) returns-3)
