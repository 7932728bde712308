use mathlib.Core.Path.{◌≡◌, ◌∙◌, sym, ap}
use mathlib.Core.Logic.{◌≢◌, ◌⊎◌, inl, inr}
use mathlib.Core.Bool.{true, false, not}
use Prim.Native.Nat.{ℕ, suc, ◌-◌, ◌<◌}
use Rattle.grouped.specs.meaning.Segment.{total_blocks}
use native.Mathlib.Omega.{arith}
use native.Mathlib.Numerals.{add-one}
use lib.Dec.{eqb}
use borrow.Author.Tests.{not-true, not-false, eqb-true, eqb-false, lt-ltb, le-ltb}
use Rattle.tables.specs.laws.Basics.{or_cases, or_none, not_not}
use mathlib.Core.List.{List}
use Rattle.grouped.specs.declared.Key.{Key}
use Rattle.grouped.specs.declared.Segment.{Segment}
use Rattle.grouped.specs.laws.Segment.{total_small}
use Rattle.grouped.specs.meaning.Reading.{filler, is_data, address_in, timestamp_in, later_of}
use Rattle.grouped.specs.places.Placed.{placed_found}
use Rattle.grouped.specs.heap.Keys.{key_in, key_of_block, block_noted_lem}
use Rattle.grouped.specs.reading.Later.{later_parity, later_filler, later_other, later_first, later_than}
use borrow.Author.Rules.{rules}
use Rattle.grouped.proofs.reading.later.Statement.{statement}
use Rattle.grouped.proofs.reading.later.Tie as tie

returns : tie.Need-returns-then-not-data
returns c = let a = c.args in
    sym (later_parity a.s a.metadata.now a.missing a.address a.found a.c (sym c.is_data-data.ensures ∙ not-true c.is_data-data.result c.if-not-data.true-raw))

block-of-requires : tie.Need-block_of-k-requires
block-of-requires c κs = let s = c.before.before.before.before in
    let a = s.args in
    (s.requires.0.sized.valid, (placed_found a.s a.metadata.now a.missing a.work.now s.requires.0, s.requires.1.0))

key-is : (c : tie.After-key_of-key) → c.key_of-key.result ≡ key_in c.args.s c.args.metadata.now c.args.missing c.args.c
key-is c =
    let s = c.before.before.before.before.before.before in
    let a = s.args in
    let e = c.block_of-k.ensures.0 ∙ block_noted_lem a.s a.metadata.now a.missing a.work.now a.c s.requires.0 s.requires.1.0 in
    c.key_of-key.ensures ∙ rw e (key_of_block a.s a.metadata.now a.missing a.c s.requires.1.0 s.requires.0.right)

-- a filler, or another address
skips : (s : Segment) (ms : List ℕ) (x a found c k : ℕ) → address_in s ms x c ≡ k → (eqb k filler ≡ true) ⊎ ((eqb k filler ≡ false) × (not (eqb k a) ≡ true)) → later_of s ms x a found c ≡ found
skips s ms x a found c k e (inl p) = later_filler s ms x a found c (e ∙ eqb-true k filler p)
skips s ms x a found c k e (inr p) = later_other s ms x a found c (λ q. eqb-false k a (not-true (eqb k a) p.1) (sym e ∙ q))

holds : (c : tie.After-key_of-key) → is_data c.args.s c.args.c ≡ true
holds c = sym c.is_data-data.ensures ∙ not-false c.is_data-data.result c.if-not-data.false-raw

returns-2 : tie.Need-returns-then-key-address
returns-2 c = let k = c.before.before.before in
    let a = k.args in
    let other = sym (ap (λ (q : Key). q.address) (key-is k)) in
    sym (skips a.s a.metadata.now a.missing a.address a.found a.c k.key_of-key.result.address other (or_cases (eqb k.key_of-key.result.address filler) (not (eqb k.key_of-key.result.address a.address)) c.if-key-address.true))

-- past the second test it has the address, and is no filler
told : (c : tie.Else-key-address) → (c.key_of-key.result.address ≢ filler) × (c.key_of-key.result.address ≡ c.args.address)
told c =
    let k = c.key_of-key.result.address in
    let (p, q) = or_none (eqb k filler) (not (eqb k c.args.address)) c.if-key-address.false in
    (eqb-false k filler p, eqb-true k c.args.address (not_not (eqb k c.args.address) q))

address_is : (c : tie.Else-key-address) → address_in c.args.s c.args.metadata.now c.args.missing c.args.c ≡ c.key_of-key.result.address
address_is c = sym (ap (λ (q : Key). q.address) (key-is c.before.before.before))

real : (c : tie.Else-key-address) → address_in c.args.s c.args.metadata.now c.args.missing c.args.c ≢ filler
real c = λ e. (told c).0 (sym (address_is c) ∙ e)

has : (c : tie.Else-key-address) → address_in c.args.s c.args.metadata.now c.args.missing c.args.c ≡ c.args.address
has c = address_is c ∙ (told c).1

returns-3 : tie.Need-returns-then-found-eq0
returns-3 c = let e = c.before in
    let a = c.args in
    let z : a.found ≡ 0 = omega arith in
    add-one a.c ∙ sym (ap (λ (f : ℕ). later_of a.s a.metadata.now a.missing a.address f a.c) z ∙ later_first a.s a.metadata.now a.missing a.address a.c (holds e.before.before.before) (real e) (has e))

block-of-requires-2 : tie.Need-block_of-b-requires
block-of-requires-2 c κs = let s = c.before.before.before.before.before.before.before.before.before.before in
    let a = s.args in
    (s.requires.0.sized.valid, (placed_found a.s a.metadata.now a.missing a.work.now s.requires.0, omega (arith, s.requires.1.0, s.requires.1.1)))

add-result-2 : tie.Need-overflow_add-result-then-old-key
add-result-2 c = let s = c.before.before.before.before.before.before.before.before.before.before.before.before.before.before.before in omega (arith, s.requires.1.0, total_small s.args.s s.requires.0.sized.valid)

old-is : (c : tie.After-key_of-old) → c.key_of-old.result ≡ key_in c.args.s c.args.metadata.now c.args.missing (c.args.found - 1)
old-is c =
    let s = c.before.before.before.before.before.before.before.before.before.before.before.before in
    let a = s.args in
    let h : a.found - 1 < total_blocks a.s = omega (arith, s.requires.1.0, s.requires.1.1) in
    let e = c.block_of-b.ensures.0 ∙ block_noted_lem a.s a.metadata.now a.missing a.work.now (a.found - 1) s.requires.0 h in
    c.key_of-old.ensures ∙ rw e (key_of_block a.s a.metadata.now a.missing (a.found - 1) h s.requires.0.right)

returns-4 : tie.Need-returns-then-old-key
returns-4 c = let e = c.before.before.before.before.before.before in
    let a = c.args in
    let z : a.found ≡ suc (a.found - 1) = omega arith in
    let t = lt-ltb (timestamp_in a.s a.metadata.now a.missing (a.found - 1)) (timestamp_in a.s a.metadata.now a.missing a.c) (omega (arith, ap (λ (q : Key). q.timestamp) (old-is c.before.before.before), ap (λ (q : Key). q.timestamp) (key-is c.before.before.before.before.before.before.before.before.before))) in
    add-one a.c ∙ sym (ap (λ (f : ℕ). later_of a.s a.metadata.now a.missing a.address f a.c) z ∙ later_than a.s a.metadata.now a.missing a.address a.c (holds e.before.before.before) (real e) (has e) (a.found - 1) true t)

returns-5 : tie.Need-returns-else-old-key
returns-5 c = let e = c.before.before.before.before.before.before in
    let a = c.args in
    let z : a.found ≡ suc (a.found - 1) = omega arith in
    let t = le-ltb (timestamp_in a.s a.metadata.now a.missing (a.found - 1)) (timestamp_in a.s a.metadata.now a.missing a.c) (omega (arith, ap (λ (q : Key). q.timestamp) (old-is c.before.before.before), ap (λ (q : Key). q.timestamp) (key-is c.before.before.before.before.before.before.before.before.before))) in
    z ∙ sym (ap (λ (f : ℕ). later_of a.s a.metadata.now a.missing a.address f a.c) z ∙ later_than a.s a.metadata.now a.missing a.address a.c (holds e.before.before.before) (real e) (has e) (a.found - 1) false t)

pub later_spec : {M : Type 1} → statement M
later_spec = tie.close (tie.spec (λ c κs. search rules) returns block-of-requires (λ c κs. search rules) returns-2 (λ c. search rules) returns-3 (λ c. search rules) block-of-requires-2 (λ c κs. search rules) add-result-2 returns-4 returns-5)
