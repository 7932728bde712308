-- What a mount writes into the logs reads back, on any input: the numbers that its look shows have room in their fields, and its headers fit their drives.
use Rattle.std.specs.Prelude.{◌≡◌, refl, ◌≢◌, ◌⊎◌, Bool, false, ◌||◌, not, length, ltb, eqb}
use Rattle.std.proofs.Common.{sym, ◌∙◌, inl, inr, true≢false, arith}
use Rattle.std.proofs.Math.Bool.{true}
use Prim.Native.Nat.{ℕ, zero, suc, ◌+◌, ◌*◌, ◌^◌, ◌<◌, min}
use borrow.Author.Tests.{lt-ltb, le-leb, ltb-true, eq-eqb, eqb-false}
use Rattle.tables.specs.declared.Geometry.{Geometry}
use Rattle.tables.specs.meaning.Basics.{pick}
use Rattle.tables.specs.laws.Below.{length_tabulate_from}
use Rattle.tables.specs.meaning.Drives.{find_below, no_drive}
use Rattle.tables.specs.meaning.Geometry.{Valid, stripe_sectors, zone_sectors}
use Rattle.tables.specs.meaning.Placement.{stripe_of}
use Rattle.tables.specs.laws.Placement.{stripe_above}
use Rattle.tables.specs.meaning.Device.{Device}
use Rattle.logs.specs.meaning.Entry.{general_zone, worn_generation, label, counters, zone_reset, partial_parity, seal}
use Rattle.logs.specs.laws.Entry.{worn_is}
use Rattle.logs.specs.laws.Walk.{Reads, Whole}
use Rattle.logs.specs.laws.Legal.{fits_reads_back}
use Rattle.volume.specs.declared.Condition.TheVariants.{Empty, Open, Sealed, Worn}
use Rattle.volume.specs.meaning.State.{is_empty, is_sealed}
use Rattle.volume.specs.meaning.Content.{inside_stripe, fill_of, parity_drive_at, entry_at}
use Rattle.volume.specs.meaning.Rules.{Shown, general_heads, condition_of, pointer_at, clean_at, seal_seen, generation_of, zone_at, zone_shown, showing}
use Rattle.volume.specs.meaning.Calls.{generations_from, logs_reset}
use Rattle.volume.specs.meaning.Mount.{mount_view, mount_look, next_generation}
use Rattle.volume.specs.laws.GenerationRange.{empty_fresh, generation_range}
use Rattle.volume.specs.laws.ArrayNumbers.{array_small}
use Rattle.volume.specs.laws.Counters.{generations_length, generations_small}
use Rattle.volume.specs.laws.LookPointers.{look_pointer}

-- ---- a sealed zone has sectors
sealed_positive : (n q : ℕ) (c s : Bool) → is_sealed (condition_of n q c s) ≡ true → zero < q
sealed_positive n q c s e = go (eqb n worn_generation) (eqb q 0) refl e
  where
    go : (a b : Bool) → eqb q 0 ≡ b → is_sealed (pick a (Worn q) (pick b Empty (pick (not c || s) (Sealed q) (Open q)))) ≡ true → zero < q
    go true b p h = absurd (true≢false (sym h))
    go false true p h = absurd (true≢false (sym h))
    go false false p h = let k : q ≢ 0 = eqb-false q 0 p in omega (arith, k)

module _ (g : Geometry) (ok : Valid g) (present : ℕ → Bool) (x : ℕ) (v : Device) where
  abbrev k : Shown
  k = mount_look g present x v

  generation_small : (z : ℕ) → z < g.zones → (k.zone z).generation < 256 ^ 8
  unfolding mount_look showing zone_shown zone_at
  generation_small z hz = generation_range g present (mount_view g present x v) z hz

  empty_raises : (z : ℕ) → is_empty (k.zone z).condition ≡ true → (k.zone z).generation ≢ worn_generation
  unfolding mount_look showing zone_shown zone_at
  empty_raises z e =
      let w = mount_view g present x v in
      let n = generation_of g present w z in
      let q = pointer_at g present w z n in
      empty_fresh n q (clean_at g present w z n q) (seal_seen g present w z n) e

  next_small : (z : ℕ) → z < g.zones → next_generation k z < 256 ^ 8
  next_small z hz = go (is_empty (k.zone z).condition) refl
    where
      go : (b : Bool) → is_empty (k.zone z).condition ≡ b → pick b (suc (k.zone z).generation) (k.zone z).generation < 256 ^ 8
      go true e = let n : (k.zone z).generation ≢ 18446744073709551615 = λ q. empty_raises z e (q ∙ sym worn_is) in omega (arith, generation_small z hz, n)
      go false e = generation_small z hz

  sealed_pointer : (z : ℕ) → is_sealed (k.zone z).condition ≡ true → zero < (k.zone z).pointer
  unfolding mount_look showing zone_shown zone_at
  sealed_pointer z e =
      let w = mount_view g present x v in
      let n = generation_of g present w z in
      let q = pointer_at g present w z n in
      sealed_positive n q (clean_at g present w z n q) (seal_seen g present w z n) e

  array_here : k.array < 256 ^ 8
  unfolding mount_look showing general_heads
  array_here = array_small g (find_below present g.drives) (mount_view g present x v (find_below present g.drives) general_zone).sectors

  -- ---- the headers of steps 1, 2, 4, 5, and the entry of step 8
  pub label_reads : (d : ℕ) → (x < g.drives) ⊎ (x ≡ no_drive) → Reads g d false (label x k.array)
  label_reads d h = fits_reads_back g ok d false (label x k.array) (go h) array_here
    where
      or_right : (b : Bool) → b || true ≡ true
      or_right true = refl
      or_right false = refl

      go : (x < g.drives) ⊎ (x ≡ no_drive) → ltb x g.drives || eqb x no_drive ≡ true
      go (inl l) = rw (lt-ltb x g.drives l) refl
      go (inr e) = rw (eq-eqb x no_drive e) (or_right (ltb x g.drives))

  pub reset_reads : (d z : ℕ) → z < g.zones → logs_reset g z d ≡ true → Reads g d false (zone_reset z (k.zone z).generation)
  reset_reads d z hz h = fits_reads_back g ok d false (zone_reset z (k.zone z).generation) (rw (lt-ltb z g.zones hz) h) (generation_small z hz)

  pub counters_read : (d : ℕ) → Reads g d false (counters (generations_from (next_generation k) zero g.zones))
  counters_read d =
      let cs = generations_from (next_generation k) zero g.zones in
      fits_reads_back g ok d false (counters cs) (eq-eqb (length cs) g.zones (generations_length (next_generation k) zero g.zones)) (generations_small (next_generation k) zero g.zones (λ z l. let e : zero + z ≡ z = omega arith in rw e (next_small z l)))

  pub seal_reads : (d z : ℕ) → z < g.zones → is_sealed (k.zone z).condition ≡ true → Reads g d false (seal z (k.zone z).pointer (k.zone z).generation)
  seal_reads d z hz e =
      let p = (k.zone z).pointer in
      fits_reads_back g ok d false (seal z p (k.zone z).generation) (rw (lt-ltb z g.zones hz, lt-ltb 0 p (sealed_pointer z e), le-leb p (zone_sectors g) (look_pointer g present x v z)) refl) (generation_small z hz)

  pub entry_reads : (d z : ℕ) → z < g.zones → inside_stripe g (k.zone z).pointer ≡ true → d ≡ parity_drive_at g z (k.zone z).pointer
      → Reads g d true (entry_at g z (k.zone z).generation (k.zone z).value (k.zone z).pointer).head
  unfolding entry_at
  entry_reads d z hz i e =
      let p = (k.zone z).pointer in
      let s = stripe_of g.drives g.unit p in
      let f = fill_of g p in
      let inside : s * stripe_sectors g < p = ltb-true (s * stripe_sectors g) p i in
      let above = stripe_above g.drives g.unit z (omega (arith, ok.drives_least)) ok.unit_least p in
      let most = look_pointer g present x v z in
      fits_reads_back g ok d true (partial_parity z s f (k.zone z).generation)
      (rw (lt-ltb z g.zones hz, lt-ltb (s * stripe_sectors g) (zone_sectors g) (omega (arith, inside, most)), lt-ltb 0 f (omega (arith, inside)), lt-ltb f (stripe_sectors g) (omega (arith, above, inside)), eq-eqb d (parity_drive_at g z p) e) refl)
      (generation_small z hz)

  pub entry_whole : (d z : ℕ) → Whole g d true (entry_at g z (k.zone z).generation (k.zone z).value (k.zone z).pointer)
  unfolding entry_at
  entry_whole d z = length_tabulate_from _ zero (min (fill_of g (k.zone z).pointer) g.unit)
