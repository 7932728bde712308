use Prim.Native.Nat.{◌+◌, ◌-◌, ◌≤◌}
use mathlib.Core.Path.{◌≡◌, sym, ◌∙◌}
use native.Mathlib.Omega.{arith}
use Rattle.tables.specs.laws.Sizes.{zone_small}
use Rattle.tables.specs.meaning.Geometry.{Valid, stripe_sectors}
use Rattle.volume.specs.looking.Knowing.{read_device}
use Rattle.volume.specs.rows.SameShape.{shape_valid}
use Rattle.volume.specs.rows.RowsInPlace.{content_of}
use Rattle.volume.specs.stripes.StripeDue.{StripeReady, due_end, writing_ready, writing_stripe, writing_new, writing_made, writing_one}
use borrow.Author.Rules.{rules}
use Rattle.volume.proofs.write_stores.write_next.Statement.{statement}
use Rattle.volume.proofs.write_stores.write_next.Tie as tie

-- what its stripe relies on
ready : (s : tie.Start) → let a = s.args in StripeReady a.known a.sectors.now a.written.now a.buffer.now a.a
ready s = let a = s.args in writing_ready a.known s.requires.0 a.sectors.now a.written.now a.pointers.now a.buffer.now s.requires.1.0 a.a s.requires.1.1

valid : (s : tie.Start) → Valid s.args.known.to
valid s = shape_valid s.args.known.geometry s.args.known.to s.requires.1.0.shape s.requires.0

stripe-due-requires : tie.Need-stripe_due-due-requires
stripe-due-requires c κs = let s = c.before.before.before.before in let r = ready s in (valid s, (r.zone_in_lem, r.end_most, s.requires.1.2, r.written_long))

write-stripe-requires : tie.Need-write_stripe-rest-requires
write-stripe-requires c κs = let s = c.before.before.before.before.before.before.before.before in (valid s, (ready s, sym c.stripe_due-due.ensures ∙ c.if-due.true))

-- the stripe ends within the write
abbrev to_start : tie.After-stripe_sectors-k → tie.Start
to_start c = c.before.before.before.before.before.before.before.before.before.before.before.before.before.before.before

ends : (c : tie.After-stripe_sectors-k) → (to_start c).args.a + c.stripe_sectors-k.result ≤ (to_start c).args.known.end
ends c =
    let s = to_start c in
    let a = s.args in
    let xs = a.sectors.now in
    let ws = a.written.now in
    let due = sym c.stripe_due-due.ensures ∙ c.if-due.true in
    omega (arith, due_end a.known (valid s) xs ws a.buffer.now a.a (ready s) a.budget due, writing_stripe a.known s.requires.0 xs ws a.pointers.now a.buffer.now s.requires.1.0, c.stripe_sectors-k.ensures.0)

returns : tie.Need-returns-then-due
returns c =
    let s = to_start c in
    let a = s.args in
    let k = c.stripe_sectors-k in
    let f = c.write_stripe-rest in
    let xs = a.sectors.now in
    let ws = a.written.now in
    let ps = a.pointers.now in
    let S = content_of a.known (read_device a.known.geometry xs ps) a.buffer.now in
    let e : a.a + k.result - a.a ≡ stripe_sectors a.known.geometry = omega (arith, k.ensures.0) in (
      omega (arith, k.ensures.1),
      ends c,
      writing_made a.known s.requires.0 xs ws ps a.buffer.now s.requires.1.0 a.budget f.result a.a S f.new.sectors f.new.written (a.a + k.result - a.a) e
          (f.ensures S (writing_new a.known s.requires.0 xs ws ps a.buffer.now s.requires.1.0)),
    )

returns-2 : tie.Need-returns
returns-2 c =
    let s = c.before.before.before.before.before.before.before.before.before.before.before.before.before in
    let a = s.args in
    let f = c.write_sector-rest in
    let xs = a.sectors.now in
    let ws = a.written.now in
    let ps = a.pointers.now in
    let S = content_of a.known (read_device a.known.geometry xs ps) a.buffer.now in
    let e : a.a + 1 - a.a ≡ 1 = omega arith in
    (omega arith, omega (arith, s.requires.1.2), writing_one a.known s.requires.0 xs ws ps a.buffer.now s.requires.1.0 a.budget f.result a.a S f.new.sectors f.new.written (a.a + 1 - a.a) e f.ensures)

pub write_next_spec : {M : Type 1} → statement M
write_next_spec =
    tie.close
    (tie.spec stripe-due-requires write-stripe-requires (λ c κs. search rules) (λ c. let s = to_start c in omega (arith, ends c, s.requires.1.0.end_most, (zone_small s.args.known.geometry s.requires.0).1)) (λ c. search rules) (λ c. search rules) returns
    (λ c κs. search rules) (λ c. let s = c.before.before.before.before.before.before.before.before.before.before.before.before.before in omega (arith, s.requires.1.2, s.requires.1.0.end_most, (zone_small s.args.known.geometry s.requires.0).1)) (λ c. search rules) (λ c. search rules) returns-2)
