use Prim.Native.Nat.{◌*◌, ◌/◌, ◌≤◌}
use mathlib.Core.Path.{◌≡◌, sym, ◌∙◌}
use mathlib.Core.Bool.{true}
use native.Mathlib.Nat.{div-add-mod'}
use native.Mathlib.Omega.{arith}
use borrow.Author.Tests.{not-true, not-false}
use Rattle.tables.specs.meaning.Placement.{stripe_of}
use Rattle.tables.specs.laws.Sizes.{zone_small}
use Rattle.logs.specs.meaning.Entry.{parity_zone}
use Rattle.volume.specs.meaning.CallContracts.{is_set}
use Rattle.volume.specs.looking.DriveLogs.{in_log}
use Rattle.volume.specs.looking.Knowing.{read_device}
use Rattle.volume.specs.emptying.ParityCopies.{copied_at}
use Rattle.volume.specs.emptying.CopiesKnown.{found_at, copied_some, found_is, gone_uncopied, gone_found, gone_made}
use borrow.Author.Rules.{rules}
use Rattle.volume.proofs.copies_known.zone_gone.Statement.{statement}
use Rattle.volume.proofs.copies_known.zone_gone.Tie as tie

abbrev start : tie.Else-not-is_copied → tie.Start
start c = c.before.before.before.before.before.before

returns : tie.Need-returns-then-not-is_copied
returns c = let a = c.args in gone_uncopied a.zone.geometry (is_set a.zone.here) (read_device a.zone.geometry a.sectors.now a.pointers.now) a.drive a.zone.number a.zone.generation a.pointer (sym c.is_copied.ensures ∙ not-true c.is_copied.result c.if-not-is_copied.true-raw)

copied : (c : tie.Else-not-is_copied) → let a = (start c).args in copied_at a.zone.geometry a.drive a.zone.number a.pointer ≡ true
copied c = sym c.is_copied.ensures ∙ not-false c.is_copied.result c.if-not-is_copied.false-raw

has-partial-at-requires : tie.Need-has_partial_at-requires
has-partial-at-requires c κs =
    let e = c.before.before.before in
    let s = start e in
    let a = s.args in
    let r = s.requires.1.0 in
    (s.requires.0, (in_log a.zone.geometry a.sectors.now a.pointers.now a.drive parity_zone c.log_in-log.result c.log_in-log.ensures (record { sectors_long = r.sectors_long; written_long = r.written_long }) s.requires.1.1 (omega arith), copied_some a.zone.geometry a.drive a.zone.number a.pointer (copied e)))

found : (w : tie.After-has_partial_at) → let a = (start w.before.before.before.before).args in w.has_partial_at.result ≡ found_at a.zone.geometry (read_device a.zone.geometry a.sectors.now a.pointers.now) a.drive a.zone.number a.zone.generation a.pointer
found w =
    let s = start w.before.before.before.before in
    let a = s.args in
    w.has_partial_at.ensures ∙ found_is a.zone.geometry a.sectors.now a.pointers.now a.drive a.zone.number a.zone.generation a.pointer w.log_in-log.result s.requires.1.1 w.log_in-log.ensures

returns-2 : tie.Need-returns-then-has_partial_at
returns-2 c =
    let w = c.before in
    let e = w.before.before.before.before in
    let a = (start e).args in
    gone_found a.zone.geometry (is_set a.zone.here) (read_device a.zone.geometry a.sectors.now a.pointers.now) a.drive a.zone.number a.zone.generation a.pointer (copied e) (sym (found w) ∙ c.if-has_partial_at.true)

-- the stripe's sectors lie in the zone
below : (c : tie.After-stripe_sectors-k) → let a = (start c.before.before.before.before.before.before.before).args in a.pointer / c.stripe_sectors-k.result * c.stripe_sectors-k.result ≤ a.pointer
below c = let a = (start c.before.before.before.before.before.before.before).args in omega (arith, div-add-mod' a.pointer c.stripe_sectors-k.result)

mul-start : tie.Need-overflow_mul-start
mul-start c = let s = start c.before.before.before.before.before.before.before in omega (arith, below c, s.requires.1.2, zone_small s.args.zone.geometry s.requires.0)

some-gone-requires : tie.Need-some_gone-requires
some-gone-requires c κs = let s = start c.before.before.before.before.before.before.before.before.before in (s.requires.0, (s.requires.1.0, omega (arith, below c.before.before, s.requires.1.2), c.seal_limit-limit.ensures.0))

returns-3 : tie.Need-returns
unfolding stripe_of
returns-3 c =
    let k = c.before.before in
    let e = k.before.before.before.before.before.before.before.before in
    let a = (start e).args in
    c.some_gone.ensures ∙ rw k.stripe_sectors-k.ensures.0 (gone_made a.zone.geometry (is_set a.zone.here) (read_device a.zone.geometry a.sectors.now a.pointers.now) a.drive a.zone.number a.zone.generation a.pointer (copied e) (sym (found k.before.before.before.before) ∙ k.if-has_partial_at.false))

pub zone_gone_spec : {M : Type 1} → statement M
zone_gone_spec =
    tie.close
    (tie.spec (λ c κs. search rules) returns (λ c κs. search rules) has-partial-at-requires returns-2 (λ c κs. search rules) (λ c. search rules) mul-start (λ c κs. search rules) (λ c. omega (arith, below c.before.before)) some-gone-requires returns-3)
