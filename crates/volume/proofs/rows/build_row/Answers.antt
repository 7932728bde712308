use Rattle.std.proofs.Common.{◌≡◌, ℕ, ◌+◌, ◌-◌, ◌*◌, ◌<◌, List, refl, ◌∙◌, arith}
use Rattle.tables.specs.meaning.Geometry.{Valid, stripe_sectors}
use Rattle.tables.specs.laws.Placement.{stripe_length_lem}
use Rattle.tables.specs.laws.Sizes.{zone_small}
use Rattle.volume.specs.declared.rows.Extent.{Extent}
use Rattle.volume.specs.looking.Knowing.{read_device}
use Rattle.volume.specs.rows.RowsInPlace.{FreePlace, StripeKnown, RowKnown, row_member, members_are, row_end, none_built, built_known, built_all}
use Rattle.volume.proofs.rows.build_row.Goals as goal

-- where the row begins, and what is known of it
abbrev start_of : Extent → ℕ → ℕ → ℕ
start_of k s r = s * ((k.geometry.drives - 1) * k.geometry.unit) + r

module _ (k : Extent) (xs ps buffer : List ℕ) (s r to : ℕ) (q : StripeKnown k xs ps buffer s × (s * stripe_sectors k.geometry + r < k.end) × FreePlace k.geometry ps to) where
  row_known : RowKnown k xs ps buffer (start_of k s r) to
  row_known = record {
    member = λ a h. q.0.member a (rw (stripe_length_lem k.geometry.drives k.geometry.unit) (omega (arith, h)));
    begins = rw (stripe_length_lem k.geometry.drives k.geometry.unit) at q.1;
    free = q.2;
  }

  start_small : Valid k.geometry → start_of k s r < 458753
  start_small ok = omega (arith, row_known.begins, row_end k xs ps buffer (start_of k s r) to row_known, (zone_small k.geometry ok).1)

pub overflow_mul-start-2 : goal.overflow_mul-start-2
overflow_mul-start-2 c = let a = c.args in omega (arith, start_small a.known a.sectors.now a.pointers.now a.buffer.now a.s a.r a.to c.requires.stripe_known c.requires.valid)

pub overflow_add-start : goal.overflow_add-start
overflow_add-start c = let a = c.args in omega (arith, start_small a.known a.sectors.now a.pointers.now a.buffer.now a.s a.r a.to c.requires.stripe_known c.requires.valid)

pub loop-k-init : goal.loop-k-init
loop-k-init c =
    let a = c.args in
    let row = row_known a.known a.sectors.now a.pointers.now a.buffer.now a.s a.r a.to c.requires.stripe_known in
    record { within = omega arith; built = none_built a.known a.sectors.now a.pointers.now a.buffer.now (start_of a.known a.s a.r) a.to row }

pub put_next-k-requires-clause-k_bound : goal.put_next-k-requires-clause-k_bound
put_next-k-requires-clause-k_bound c =
    let a = c.args in
    let l = c.loop-k in
    (omega arith, built_known a.known c.requires.valid a.sectors.now a.pointers.now a.buffer.now (start_of a.known a.s a.r) a.to l.k l.sectors l.invariant.built)

pub returns : goal.returns
returns c =
    let a = c.args in
    let g = a.known.geometry in
    let e : c.loop-k.k ≡ g.drives - 1 = omega arith in
    let v = read_device g a.sectors.now a.pointers.now in
    let start = start_of a.known a.s a.r in
    c.loop-k.invariant.built.so_far
    ∙ rw e (built_all a.sectors.now a.to (row_member a.known v a.buffer.now start) (g.drives - 1) (omega (arith, c.requires.valid.drives_least))
    ∙ rw (members_are a.known v a.buffer.now a.s a.r start (rw (stripe_length_lem g.drives g.unit) refl)) refl)
