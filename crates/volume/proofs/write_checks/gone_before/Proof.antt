use Prim.Native.Nat.{◌*◌, ◌/◌, ◌≤◌}
use mathlib.Core.Path.{◌≡◌, refl, sym, ◌∙◌}
use mathlib.Core.Bool.{true, false}
use native.Mathlib.Omega.{arith}
use lib.ListN.{get_or}
use borrow.Author.Rules.{rules}
use Rattle.tables.specs.meaning.Geometry.{stripe_sectors, zone_sectors}
use Rattle.tables.specs.meaning.Placement.{stripe_of}
use Rattle.volume.specs.meaning.CallContracts.{is_set}
use Rattle.volume.specs.looking.KnowingLaws.{held_none_gone}
use Rattle.tables.specs.laws.Placement.{stripe_quotient, stripe_begin}
use Rattle.tables.specs.laws.Sizes.{stripes_most, zone_small}
use native.Mathlib.Nat.{div-add-mod'}
use borrow.Author.Tests.{not-true, not-false}
use Rattle.volume.specs.meaning.Content.{parity_drive_at}
use Rattle.volume.specs.meaning.Refusals.{gone_before}
use Rattle.volume.proofs.write_checks.gone_before.Statement.{statement}
use Rattle.volume.proofs.write_checks.gone_before.Tie as tie

-- the start of the pointer's stripe, and the stripe, as they are computed
start_is : (c : tie.After-stripe_sectors-k) → let a = c.args in let g = a.zone.geometry in a.n / c.stripe_sectors-k.result * c.stripe_sectors-k.result ≡ stripe_of g.drives g.unit a.n * stripe_sectors g
start_is c = let a = c.args in stripe_begin a.zone.geometry.drives a.zone.geometry.unit a.n c.stripe_sectors-k.result c.stripe_sectors-k.ensures.0

stripe-is : (c : tie.After-stripe_sectors-k) → let a = c.args in a.n / c.stripe_sectors-k.result ≡ stripe_of a.zone.geometry.drives a.zone.geometry.unit a.n
stripe-is c = let a = c.args in stripe_quotient a.zone.geometry.drives a.zone.geometry.unit a.n c.stripe_sectors-k.result c.stripe_sectors-k.ensures.0

parity-drive-requires : tie.Need-parity_drive-p-requires
parity-drive-requires c κs =
    let s = c.before.before.before.before in
    (omega (arith, s.requires.0.drives_least), s.requires.0.drives_most, omega (arith, s.requires.1.0.zone_in_lem, s.requires.0.zones_most), rw (stripe-is c) (omega (arith, stripes_most s.args.zone.geometry s.args.n s.requires.0 s.requires.1.1, s.requires.0.zone_most)))

drive-is : (c : tie.After-parity_drive-p) → c.parity_drive-p.result ≡ parity_drive_at c.args.zone.geometry c.args.zone.number c.args.n
drive-is c = c.parity_drive-p.ensures.0 ∙ rw (stripe-is c.before) refl

returns : tie.Need-returns-then-not-present
unfolding gone_before
returns c =
    let a = c.args in
    let e : is_set a.zone.here (parity_drive_at a.zone.geometry a.zone.number a.n) ≡ false = rw (drive-is c.before) at (not-true (get_or a.zone.here c.parity_drive-p.result false) c.if-not-present.true-raw) in
    rw e refl

-- the parity drive is here
here : (c : tie.Else-not-present) → is_set c.args.zone.here (parity_drive_at c.args.zone.geometry c.args.zone.number c.args.n) ≡ true
here c = rw (drive-is c.before) at (not-false (get_or c.args.zone.here c.parity_drive-p.result false) c.if-not-present.false-raw)

-- the stripe's earlier sectors lie in the zone
earlier : (c : tie.Else-not-present) → (c.args.n / c.stripe_sectors-k.result * c.stripe_sectors-k.result ≤ c.args.n) × (c.args.n ≤ zone_sectors c.args.zone.geometry)
earlier c =
    let s = c.before.before.before.before.before.before in
    (omega (arith, div-add-mod' s.args.n c.stripe_sectors-k.result), s.requires.1.1)

mul-start : tie.Need-overflow_mul-start
mul-start c =
    let s = c.before.before.before.before.before.before in
    omega (arith, earlier c, zone_small s.args.zone.geometry s.requires.0)

all-held-requires : tie.Need-all_held-held-requires
all-held-requires c κs = let s = c.before.before.before.before.before.before in (s.requires.0, (s.requires.1.0.zone_in_lem, s.requires.1.0.written_long, omega (arith, earlier c.before)))

returns-2 : tie.Need-returns-then-held
unfolding gone_before
returns-2 c =
    let s = c.before.before.before.before.before.before.before.before in
    let a = s.args in
    rw (here c.before.before.before) (sym (held_none_gone a.zone.geometry a.zone.here a.sectors.now a.written.now a.zone.number s.requires.1.0 a.zone.generation _ _ s.requires.0 (rw (start_is c.before.before.before.before.before) at (sym c.all_held-held.ensures ∙ c.if-held.true))))

some-gone-requires : tie.Need-some_gone-requires
some-gone-requires c κs = let s = c.before.before.before.before.before.before.before.before.before in (s.requires.0, (s.requires.1.0, omega (arith, earlier c.before.before.before.before.before), c.seal_limit-limit.ensures.0))

returns-3 : tie.Need-returns
unfolding gone_before
returns-3 c = rw (here c.before.before.before.before.before.before) (c.some_gone.ensures ∙ rw (start_is c.before.before.before.before.before.before.before.before) refl)

pub gone_before_spec : {M : Type 1} → statement M
gone_before_spec =
    tie.close
    (tie.spec (λ c κs. search rules) (λ c. search rules) parity-drive-requires (λ c. search rules) returns mul-start (λ c. omega (arith, earlier c.before))
    all-held-requires returns-2 (λ c κs. search rules) (λ c. omega (arith, earlier c.before.before.before.before.before)) some-gone-requires returns-3)
