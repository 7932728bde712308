use Rattle.mounting.specs.MountLastEntries.{due_outside, due_elsewhere, due_here}
use Rattle.volume.specs.checks.Records.{zone_look}
use Rattle.volume.specs.meaning.Rules.{parity_entries}
use Rattle.tables.specs.laws.Sizes.{stripes_most, zone_small}
use Rattle.tables.specs.laws.Placement.{stripe_quotient, stripe_begin}
use Rattle.tables.specs.meaning.Geometry.{stripe_sectors}
use Rattle.tables.specs.meaning.Placement.{stripe_of, parity_drive}
use native.Mathlib.Omega.{arith}
use native.Mathlib.Nat.{div-add-mod'}
use mathlib.Core.Bool.{not}
use Prim.Native.Nat.{ℕ, ◌*◌, ◌/◌, ◌≤◌, ◌<◌}
use mathlib.Core.Path.{◌≡◌, sym, ap, subst, ◌∙◌}
use borrow.Author.Rules.{rules}
use Rattle.mounting.proofs.entries.entry_due.Statement.{statement}
use Rattle.mounting.proofs.entries.entry_due.Tie as tie
use Rattle.volume.specs.looking.Knowing.{read_device}

mul-if1 : tie.Need-overflow_mul-s
mul-if1 c =
    let s = c.before.before.before.before.before in
    let a = s.args in
    omega (arith, div-add-mod' (zone_look a.look a.z).pointer c.stripe_sectors-k.result, s.requires.1.4.pointer_most a.z s.requires.1.1, (zone_small a.g s.requires.0).1)

-- the start of the pointer's stripe, and the stripe, as they are computed
start_is : (c : tie.After-stripe_sectors-k) → let a = c.args in let p = (zone_look a.look a.z).pointer in
    p / c.stripe_sectors-k.result * c.stripe_sectors-k.result ≡ stripe_of a.g.drives a.g.unit p * stripe_sectors a.g
start_is c = let a = c.args in stripe_begin a.g.drives a.g.unit (zone_look a.look a.z).pointer c.stripe_sectors-k.result c.stripe_sectors-k.ensures.0

stripe-is : (c : tie.After-stripe_sectors-k) → let a = c.args in let p = (zone_look a.look a.z).pointer in
    p / c.stripe_sectors-k.result ≡ stripe_of a.g.drives a.g.unit p
stripe-is c = let a = c.args in stripe_quotient a.g.drives a.g.unit (zone_look a.look a.z).pointer c.stripe_sectors-k.result c.stripe_sectors-k.ensures.0

returns : tie.Need-returns-then-pointer-s
returns c =
    let a = c.args in
    sym (due_outside a.g a.look a.drive a.z (parity_entries a.g (read_device a.g a.sectors.now a.starts.now) a.drive) (subst (λ (n : ℕ). (zone_look a.look a.z).pointer ≤ n) (start_is c.before) c.if-pointer-s.true))

parity-drive-requires : tie.Need-parity_drive-requires
parity-drive-requires c κs =
    let s = c.before.before.before.before.before.before in
    let a = s.args in
    (omega (arith, s.requires.0.drives_least), s.requires.0.drives_most, omega (arith, s.requires.1.1, s.requires.0.zones_most), rw (stripe-is c.before) (omega (arith, stripes_most a.g (zone_look a.look a.z).pointer s.requires.0 (s.requires.1.4.pointer_most a.z s.requires.1.1), s.requires.0.zone_most)))

returns-2 : tie.Need-returns-then-drive-parity_drive
returns-2 c =
    let a = c.args in
    sym (due_elsewhere a.g a.look a.drive a.z (parity_entries a.g (read_device a.g a.sectors.now a.starts.now) a.drive) (λ e. c.if-drive-parity_drive.true (e ∙ sym (c.parity_drive.ensures.0 ∙ ap (parity_drive a.g.drives a.z) (stripe-is c.before.before.before)))))

returns-3 : tie.Need-returns
returns-3 c =
    let s = c.before.before.before.before.before.before.before.before.before.before in
    let a = s.args in
    let k = c.before.before.before.before.before in
    let n = c.sectors_then-n in
    ap not c.has_partial_at-there.ensures ∙ sym (due_here a.g a.look a.drive a.z a.sectors.now a.starts.now n.result s.requires.1.0 n.ensures.0 (subst (λ (n : ℕ). n < (zone_look a.look a.z).pointer) (start_is k) c.if-pointer-s.false) (c.if-drive-parity_drive.false ∙ c.parity_drive.ensures.0 ∙ ap (parity_drive a.g.drives a.z) (stripe-is k)))

pub entry_due_spec : {M : Type 1} → statement M
entry_due_spec =
    tie.close
    (tie.spec (λ c. search rules) (λ c. search rules) (λ c κs. search rules) (λ c. search rules) mul-if1 returns parity-drive-requires returns-2
    (λ c κs. search rules) (λ c κs. search rules) returns-3)
