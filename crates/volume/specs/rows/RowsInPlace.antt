-- Rows of parity built in the lent sectors where they will lie, from the content of a zone: sectors that are known below the pointers of an earlier
-- moment, and sectors of a buffer. A place at or past those pointers is free: what is laid there changes no sector that is read.
use Rattle.std.specs.Prelude.{◌≡◌, Bool, ◌&&◌, ℕ, zero, suc, ◌+◌, ◌-◌, ◌*◌, ◌≤◌, ◌<◌, List, [], get_or, take, drop, leb, eqb}
use Rattle.std.proofs.Math.Path.{refl}
use Rattle.std.proofs.Common.{sym, ap, ap₂, ◌∙◌, le_refl, suc-mul, add-one, arith}
use Rattle.std.proofs.Math.Bool.{true, false}
use Rattle.std.proofs.Math.ListN.{length}
use Rattle.std.proofs.Math.Dec.{ltb}
use borrow.Author.Tests.{lt-ltb, le-ltb, ltb-true, ltb-false, leb-true, ne_eqb}
use Rattle.tables.specs.declared.Geometry.{Geometry}
use Rattle.tables.specs.meaning.Basics.{pick}
use Rattle.tables.specs.laws.Basics.{and_split, eqb_same}
use Rattle.tables.specs.meaning.Lists.{overlay}
use Rattle.tables.specs.laws.Within.{Apart, sectors_apart, part_long, part_laid, laid_again}
use Rattle.tables.specs.meaning.Xor.{xor_bytes, xor_below}
use Rattle.tables.specs.laws.Xor.{xor_nil, length_xor, xor_below_cong}
use Rattle.tables.specs.meaning.Geometry.{Valid, physical_zones, cells, total_bytes, stripe_sectors, zone_sectors, data_zone}
use Rattle.tables.specs.meaning.Device.{Device, Store}
use Rattle.tables.specs.meaning.Placement.{drive_of, sector_of, address}
use Rattle.tables.specs.laws.Placement.{address_sum}
use Rattle.tables.specs.meaning.Tables.{cell, byte_at, sector_no}
use Rattle.tables.specs.laws.Made.{MadeAppends}
use Rattle.tables.specs.laws.Tables.{cell_in}
use Rattle.volume.specs.declared.rows.Extent.{Extent}
use Rattle.volume.specs.declared.rows.Target.{Target}
use Rattle.volume.specs.meaning.Content.{row_xor_below}
use Rattle.volume.specs.laws.Content.{row_xor_below_cong, xor_below_full, row_long}
use Rattle.volume.specs.laws.KnownLengths.{value_long}
use Rattle.volume.specs.meaning.Rules.{known, zone_view, seal_limit, value_at}
use Rattle.volume.specs.meaning.CallContracts.{is_set}
use Rattle.volume.specs.looking.Knowing.{Readable, read_device, own_held, own_sector}
use Rattle.volume.specs.looking.KnowingValues.{sector_within, value_held}
use Rattle.volume.specs.rows.SameShape.{SameShape, shape_zones, shape_cells}
use Rattle.volume.specs.rows.KeptBelow.{StoresIn, Behind, kept_device, place_apart, place_fits, laid_past, stored_keeps}

-- ---- the content
unfoldable pub content_of : Extent → Device → List ℕ → ℕ → List ℕ
content_of k v buffer a = pick (ltb a k.below) (value_at k.geometry (is_set k.here) v k.zone k.generation a) (sector_no k.geometry.sector buffer (a - k.below))

module _ (k : Extent) (v : Device) (buffer : List ℕ) (a : ℕ) where
  pub content_known : a < k.below → content_of k v buffer a ≡ value_at k.geometry (is_set k.here) v k.zone k.generation a
  unfolding content_of
  content_known h = rw (lt-ltb a k.below h) refl

  pub content_new : k.below ≤ a → content_of k v buffer a ≡ sector_no k.geometry.sector buffer (a - k.below)
  unfolding content_of
  content_new h = rw (le-ltb a k.below h) refl

-- where all of it is known, a row is one of known values
pub row_of_known : (k : Extent) (v : Device) (buffer : List ℕ) (s r : ℕ) → k.end ≤ k.below
    → row_xor_below k.geometry.drives k.geometry.unit (content_of k v buffer) s k.end r ≡ row_xor_below k.geometry.drives k.geometry.unit (value_at k.geometry (is_set k.here) v k.zone k.generation) s k.end r
row_of_known k v buffer s r h = row_xor_below_cong k.geometry.drives k.geometry.unit (content_of k v buffer) (value_at k.geometry (is_set k.here) v k.zone k.generation) s k.end r (λ a l. content_known k v buffer a (omega arith))

-- what finding the value of address a relies on
abbrev pub ValueKnown : Extent → List ℕ → List ℕ → ℕ → Type 0
ValueKnown k xs ps a = Readable k.geometry k.here xs ps k.zone × (a < zone_sectors k.geometry) × (k.limit ≡ seal_limit k.geometry (is_set k.here) (read_device k.geometry xs ps) k.zone k.generation)
    × (known k.geometry.drives k.geometry.unit k.zone (zone_view k.geometry (is_set k.here) (read_device k.geometry xs ps) k.zone k.generation) a ≡ true)

-- what reading the content of address a relies on, if a is below the end
pub record MemberKnown (k : Extent) (xs ps buffer : List ℕ) (a : ℕ) : Type 0 where
  pub readable : Readable k.geometry k.here xs ps k.zone
  pub end_most : k.end ≤ zone_sectors k.geometry
  pub known_is : a < k.end → a < k.below → known k.geometry.drives k.geometry.unit k.zone (zone_view k.geometry (is_set k.here) (read_device k.geometry xs ps) k.zone k.generation) a ≡ true
  pub limit_is : a < k.end → a < k.below → own_held k.geometry k.here ps k.zone a ≡ false → k.limit ≡ seal_limit k.geometry (is_set k.here) (read_device k.geometry xs ps) k.zone k.generation
  pub in_buffer : a < k.end → k.below ≤ a → (a - k.below) * k.geometry.sector + k.geometry.sector ≤ length buffer

-- of all addresses from stripe s on
pub record StripeKnown (k : Extent) (xs ps buffer : List ℕ) (s : ℕ) : Type 0 where
  pub member : (a : ℕ) → s * stripe_sectors k.geometry ≤ a → MemberKnown k xs ps buffer a

module _ (k : Extent) (xs ps buffer : List ℕ) (a : ℕ) (m : MemberKnown k xs ps buffer a) where
  pub member_long : Valid k.geometry → a < k.end → length (content_of k (read_device k.geometry xs ps) buffer a) ≡ k.geometry.sector
  unfolding content_of
  member_long ok h = go (ltb a k.below) refl
    where
      go : (b : Bool) → ltb a k.below ≡ b → length (pick b (value_at k.geometry (is_set k.here) (read_device k.geometry xs ps) k.zone k.generation a) (sector_no k.geometry.sector buffer (a - k.below))) ≡ k.geometry.sector
      go true e =
          let l = ltb-true a k.below e in
          value_long k.geometry k.here xs ps k.zone m.readable ok a (omega (arith, h, m.end_most)) k.generation (m.known_is h l)
      go false e = part_long buffer ((a - k.below) * k.geometry.sector) k.geometry.sector (m.in_buffer h (ltb-false a k.below e))

  -- it is the same where the device below the pointers is
  pub member_kept : (xs' : List ℕ) → length xs' ≡ total_bytes k.geometry → read_device k.geometry xs' ps ≡ read_device k.geometry xs ps → MemberKnown k xs' ps buffer a
  member_kept xs' l e = record {
    readable = record { zone_in_lem = m.readable.zone_in_lem; sectors_long = l; written_long = m.readable.written_long; pointers = m.readable.pointers };
    end_most = m.end_most;
    known_is = λ h j. ap (λ (w : Device). known k.geometry.drives k.geometry.unit k.zone (zone_view k.geometry (is_set k.here) w k.zone k.generation) a) e ∙ m.known_is h j;
    limit_is = λ h j q. m.limit_is h j q ∙ sym (ap (λ (w : Device). seal_limit k.geometry (is_set k.here) w k.zone k.generation) e);
    in_buffer = m.in_buffer;
  }

-- below the buffer's first address no buffer is read
pub member_early : (k : Extent) (xs ps buffer : List ℕ) (a : ℕ) → MemberKnown k xs ps buffer a → a < k.below → MemberKnown k xs ps [] a
member_early k xs ps buffer a m l = record { readable = m.readable; end_most = m.end_most; known_is = m.known_is; limit_is = m.limit_is; in_buffer = λ h j. absurd (omega (arith, j, l)) }

pub stripe_kept : (k : Extent) (xs ps buffer : List ℕ) (s : ℕ) → StripeKnown k xs ps buffer s → (xs' : List ℕ) → length xs' ≡ total_bytes k.geometry → read_device k.geometry xs' ps ≡ read_device k.geometry xs ps → StripeKnown k xs' ps buffer s
stripe_kept k xs ps buffer s m xs' l e = record { member = λ a h. member_kept k xs ps buffer a (m.member a h) xs' l e }

-- where the bytes of address a lie, on the drive that holds it
abbrev pub own_place : Geometry → ℕ → ℕ → ℕ
own_place g z a = byte_at g (drive_of g.drives g.unit z a) (data_zone z) (sector_of g.drives g.unit a)

-- a known address that is held, and a later one that comes from the buffer
abbrev pub held_then_new : Extent → List ℕ → ℕ → ℕ → Bool
held_then_new k ps a b = (ltb a k.below && (leb k.below b && ltb b k.end)) && own_held k.geometry k.here ps k.zone a

pub held_then_new_lem : (k : Extent) (ps : List ℕ) (a b : ℕ) → held_then_new k ps a b ≡ true → (a < k.below) × (k.below ≤ b) × (b < k.end) × (own_held k.geometry k.here ps k.zone a ≡ true)
held_then_new_lem k ps a b h =
    let (p, q) = and_split (ltb a k.below && (leb k.below b && ltb b k.end)) (own_held k.geometry k.here ps k.zone a) h in
    let (r, s) = and_split (ltb a k.below) (leb k.below b && ltb b k.end) p in
    let (t, u) = and_split (leb k.below b) (ltb b k.end) s in
    (ltb-true a k.below r, leb-true k.below b t, ltb-true b k.end u, q)

-- ---- a free place: a whole sector, at or past the pointers
pub record FreePlace (g : Geometry) (ps : List ℕ) (to : ℕ) : Type 0 where
  pub zone : ℕ  -- its cell in the tables of pointers
  pub sector : ℕ
  pub zone_in_lem : zone < cells g
  pub sector_in : sector < g.capacity
  pub past : get_or ps zone 0 ≤ sector
  pub place : to ≡ (zone * g.capacity + sector) * g.sector

module _ (g : Geometry) (ps : List ℕ) (to : ℕ) (f : FreePlace g ps to) where
  pub free_fits : (xs : List ℕ) → length xs ≡ total_bytes g → to + g.sector ≤ length xs
  free_fits xs l = rw (l, f.place) (place_fits g ps f.zone f.sector f.sector_in f.past f.zone_in_lem)

  pub free_kept : (xs s : List ℕ) → length xs ≡ total_bytes g → length s ≡ g.sector → read_device g (overlay xs to s) ps ≡ read_device g xs ps
  free_kept xs s l h = kept_device g ps xs (overlay xs to s) [] (rw f.place (laid_past g ps f.zone f.sector f.sector_in f.past f.zone_in_lem xs s h l))

  -- a sector that is held lies elsewhere
  pub free_apart : Valid g → (here : List Bool) (z a : ℕ) → a < zone_sectors g → own_held g here ps z a ≡ true → Apart to (own_place g z a) g.sector
  free_apart ok here z a h q =
      let d = drive_of g.drives g.unit z a in
      let x = sector_of g.drives g.unit a in
      let (p, l) = and_split (is_set here d) (ltb x (get_or ps (cell g d (data_zone z)) 0)) q in
      let ne = place_apart g ps f.zone f.sector f.sector_in f.past (cell g d (data_zone z)) x (ltb-true x (get_or ps (cell g d (data_zone z)) 0) l) (sector_within g a ok h) in
      rw f.place (sectors_apart g.sector (f.zone * g.capacity + f.sector) (cell g d (data_zone z) * g.capacity + x) (λ e. ne (sym e)))

-- ---- the row, member by member
-- the bytes xs with a sector added to the row at `to`, or laid there if it is the row's first
abbrev pub with_member : Bool → List ℕ → ℕ → List ℕ → List ℕ
with_member first xs to s = overlay xs to (pick first s (xor_bytes (take (length s) (drop to xs)) s))

-- the same with one more sector after it
abbrev pub with_two : Bool → List ℕ → ℕ → List ℕ → List ℕ → List ℕ
with_two first xs to a b = overlay xs to (xor_bytes (pick first a (xor_bytes (take (length a) (drop to xs)) a)) b)

-- and with two more
abbrev pub with_three : Bool → List ℕ → ℕ → List ℕ → List ℕ → List ℕ → List ℕ
with_three first xs to a b c = overlay xs to (xor_bytes (xor_bytes (pick first a (xor_bytes (take (length a) (drop to xs)) a)) b) c)

-- the bytes with the first n members of a row
abbrev pub row_laid : List ℕ → ℕ → (ℕ → List ℕ) → ℕ → List ℕ
row_laid xs to f zero = xs
row_laid xs to f (suc n) = overlay xs to (xor_below f (suc n))

-- member j of the row that begins at address `start`
abbrev pub row_member : Extent → Device → List ℕ → ℕ → ℕ → List ℕ
row_member k v buffer start j = pick (ltb (start + j * k.geometry.unit) k.end) (content_of k v buffer (start + j * k.geometry.unit)) []

-- row r of stripe s begins at the stripe's sector r
pub members_are : (k : Extent) (v : Device) (buffer : List ℕ) (s r start : ℕ) → start ≡ s * stripe_sectors k.geometry + r
    → xor_below (row_member k v buffer start) (k.geometry.drives - 1) ≡ row_xor_below k.geometry.drives k.geometry.unit (content_of k v buffer) s k.end r
unfolding row_xor_below
members_are k v buffer s r start e =
    let D = k.geometry.drives in
    let U = k.geometry.unit in
    xor_below_cong (row_member k v buffer start) (λ j. pick (ltb (address D U s j r) k.end) (content_of k v buffer (address D U s j r)) []) (D - 1)
    (λ j l. ap (λ (a : ℕ). pick (ltb a k.end) (content_of k v buffer a) []) (omega (arith, e, address_sum D U s j r)))

-- one more member, two more and three more
module _ (B : ℕ) (xs : List ℕ) (to : ℕ) (fits : to + B ≤ length xs) (f : ℕ → List ℕ) where
  pub laid_more : (j : ℕ) (b : Bool) (s ys : List ℕ) → ys ≡ row_laid xs to f j → f j ≡ pick b s [] → (b ≡ true → length s ≡ B) → (j ≡ 0 → b ≡ true) → (0 < j → length (xor_below f j) ≡ B) → pick b (with_member (eqb j 0) ys to s) ys ≡ row_laid xs to f (suc j)
  laid_more zero b s ys e m long first row = rw (first refl) (rw (e, m, first refl) refl)
  laid_more (suc j) true s ys e m long first row =
      let r = xor_below f (suc j) in
      let l : length r ≡ B = row (omega arith) in
      let t : take (length s) (drop to ys) ≡ r = rw (e, long refl) (part_laid xs to B r l fits) in
      let n : length (xor_bytes r s) ≡ length r = length_xor r s (omega (arith, long refl)) in
      let ne : eqb (suc j) 0 ≡ false = ne_eqb (suc j) 0 (λ q. omega (arith, q)) in
      rw (ne, t) (rw (e, m) (laid_again xs to r (xor_bytes r s) n (omega arith)))
  laid_more (suc j) false s ys e m long first row = e ∙ rw (m, xor_nil) refl

  pub laid_two : (j : ℕ) (p q ys : List ℕ) → ys ≡ row_laid xs to f j → f j ≡ p → f (suc j) ≡ q → length p ≡ B → length q ≡ B → (0 < j → length (xor_below f j) ≡ B) → with_two (eqb j 0) ys to p q ≡ row_laid xs to f (suc (suc j))
  laid_two zero p q ys e hp hq lp lq row = rw (e, hp, hq) refl
  laid_two (suc j) p q ys e hp hq lp lq row =
      let r = xor_below f (suc j) in
      let l : length r ≡ B = row (omega arith) in
      let t : take (length p) (drop to ys) ≡ r = rw (e, lp) (part_laid xs to B r l fits) in
      let a : length (xor_bytes r p) ≡ B = length_xor r p (omega arith) ∙ l in
      let b : length (xor_bytes (xor_bytes r p) q) ≡ length r = length_xor (xor_bytes r p) q (omega arith) ∙ a ∙ sym l in
      let ne : eqb (suc j) 0 ≡ false = ne_eqb (suc j) 0 (λ h. omega (arith, h)) in
      rw (ne, t) (rw (e, hp, hq) (laid_again xs to r (xor_bytes (xor_bytes r p) q) b (omega arith)))

  pub laid_three : (j : ℕ) (p q s ys : List ℕ) → ys ≡ row_laid xs to f j → f j ≡ p → f (suc j) ≡ q → f (suc (suc j)) ≡ s → length p ≡ B → length q ≡ B → length s ≡ B → (0 < j → length (xor_below f j) ≡ B)
      → with_three (eqb j 0) ys to p q s ≡ row_laid xs to f (suc (suc (suc j)))
  laid_three zero p q s ys e hp hq hs lp lq ls row = rw (e, hp, hq, hs) refl
  laid_three (suc j) p q s ys e hp hq hs lp lq ls row =
      let r = xor_below f (suc j) in
      let l : length r ≡ B = row (omega arith) in
      let t : take (length p) (drop to ys) ≡ r = rw (e, lp) (part_laid xs to B r l fits) in
      let a : length (xor_bytes r p) ≡ B = length_xor r p (omega arith) ∙ l in
      let b : length (xor_bytes (xor_bytes r p) q) ≡ B = length_xor (xor_bytes r p) q (omega arith) ∙ a in
      let c : length (xor_bytes (xor_bytes (xor_bytes r p) q) s) ≡ length r = length_xor (xor_bytes (xor_bytes r p) q) s (omega arith) ∙ b ∙ sym l in
      let ne : eqb (suc j) 0 ≡ false = ne_eqb (suc j) 0 (λ h. omega (arith, h)) in
      rw (ne, t) (rw (e, hp, hq, hs) (laid_again xs to r (xor_bytes (xor_bytes (xor_bytes r p) q) s) c (omega arith)))

-- ---- as the row is built: what reading it relies on, and that the bytes ys are xs with its first j members
pub record RowKnown (k : Extent) (xs ps buffer : List ℕ) (start to : ℕ) : Type 0 where
  pub member : (a : ℕ) → start ≤ a → MemberKnown k xs ps buffer a
  pub begins : start < k.end
  pub free : FreePlace k.geometry ps to

pub record RowBuilt (k : Extent) (xs ps buffer : List ℕ) (start to j : ℕ) (ys : List ℕ) : Type 0 where
  pub row_known : RowKnown k xs ps buffer start to
  pub long : length ys ≡ length xs
  pub so_far : ys ≡ row_laid xs to (row_member k (read_device k.geometry xs ps) buffer start) j

module _ (k : Extent) (xs ps buffer : List ℕ) (start to : ℕ) (m : RowKnown k xs ps buffer start to) where
  pub row_end : k.end ≤ zone_sectors k.geometry
  row_end = (m.member start (le_refl start)).end_most

  pub row_sized : length xs ≡ total_bytes k.geometry
  row_sized = (m.member start (le_refl start)).readable.sectors_long

  pub none_built : RowBuilt k xs ps buffer start to 0 xs
  none_built = record { row_known = m; long = refl; so_far = refl }

  pub row_place : to + k.geometry.sector ≤ length xs
  row_place = free_fits k.geometry ps to m.free xs row_sized

module _ (k : Extent) (ok : Valid k.geometry) (xs ps buffer : List ℕ) (start to j : ℕ) (ys : List ℕ) (built : RowBuilt k xs ps buffer start to j ys) where
  abbrev g : Geometry
  g = k.geometry

  abbrev f : ℕ → List ℕ
  f = row_member k (read_device k.geometry xs ps) buffer start

  abbrev at : ℕ → ℕ
  at i = start + i * k.geometry.unit

  m : RowKnown k xs ps buffer start to
  m = built.row_known

  member_in : (i : ℕ) → at i < k.end → length (content_of k (read_device k.geometry xs ps) buffer (at i)) ≡ k.geometry.sector
  member_in i h = member_long k xs ps buffer (at i) (m.member (at i) (omega arith)) ok h

  first_in : at 0 < k.end
  first_in = omega (arith, m.begins)

  members_long : (i : ℕ) → 0 < i → length (xor_below f i) ≡ g.sector
  members_long i h = xor_below_full g.sector f i 0 h (rw (lt-ltb (at 0) k.end first_in) (member_in 0 first_in)) (λ e l. short e (ltb (at e) k.end) refl)
    where
      short : (e : ℕ) (b : Bool) → ltb (at e) k.end ≡ b → length (pick b (content_of k (read_device k.geometry xs ps) buffer (at e)) []) ≤ k.geometry.sector
      short e true h = omega (arith, member_in e (ltb-true (at e) k.end h))
      short e false h = omega arith

  -- no sector that is read has changed
  built_device : read_device k.geometry ys ps ≡ read_device k.geometry xs ps
  built_device = go j built.so_far
    where
      go : (i : ℕ) → ys ≡ row_laid xs to f i → read_device k.geometry ys ps ≡ read_device k.geometry xs ps
      go zero e = rw e refl
      go (suc i) e = rw e (free_kept g ps to m.free xs (xor_below f (suc i)) (row_sized k xs ps buffer start to m) (members_long (suc i) (omega arith)))

  pub built_known : RowKnown k ys ps buffer start to
  built_known = record { member = λ a h. member_kept k xs ps buffer a (m.member a h) ys (built.long ∙ row_sized k xs ps buffer start to m) built_device; begins = m.begins; free = m.free }

  pub built_more : (zs : List ℕ) → length zs ≡ length ys → zs ≡ pick (ltb (start + j * k.geometry.unit) k.end) (with_member (eqb j 0) ys to (content_of k (read_device k.geometry ys ps) buffer (start + j * k.geometry.unit))) ys
      → RowBuilt k xs ps buffer start to (j + 1) zs
  built_more zs l e = record {
    row_known = m;
    long = l ∙ built.long;
    so_far =
        e
        ∙ rw (built_device, add-one) (laid_more g.sector xs to (row_place k xs ps buffer start to m) f j (ltb (at j) k.end) (content_of k (read_device k.geometry xs ps) buffer (at j)) ys built.so_far refl
        (λ h. member_in j (ltb-true (at j) k.end h)) (λ h. rw h (lt-ltb (at 0) k.end first_in)) (λ h. members_long j h));
  }

  -- members that come from the buffer
  abbrev u : ℕ
  u = k.geometry.unit

  abbrev new : ℕ → List ℕ
  new n = sector_no k.geometry.sector buffer n

  from_buffer : (i n : ℕ) → at i ≡ k.below + n → at i < k.end → f i ≡ new n
  from_buffer i n e h = rw (lt-ltb (at i) k.end h) (content_new k (read_device k.geometry xs ps) buffer (at i) (omega arith) ∙ ap new (omega arith))

  buffer_long : (i n : ℕ) → at i ≡ k.below + n → at i < k.end → length (new n) ≡ k.geometry.sector
  buffer_long i n e h = sym (ap length (from_buffer i n e h)) ∙ rw (lt-ltb (at i) k.end h) (member_in i h)

  pub built_three : (n : ℕ) (zs : List ℕ) → start + j * k.geometry.unit ≡ k.below + n → start + j * k.geometry.unit + 2 * k.geometry.unit < k.end → length zs ≡ length ys
      → zs ≡ with_three (eqb j 0) ys to (sector_no k.geometry.sector buffer n) (sector_no k.geometry.sector buffer (n + k.geometry.unit)) (sector_no k.geometry.sector buffer (n + 2 * k.geometry.unit))
      → RowBuilt k xs ps buffer start to (j + 3) zs
  built_three n zs e h l q = record {
    row_known = m;
    long = l ∙ built.long;
    so_far =
        q
        ∙ rw three (laid_three g.sector xs to (row_place k xs ps buffer start to m) f j (new n) (new (n + u)) (new (n + 2 * u)) ys built.so_far
        (from_buffer j n e in_first_lem) (from_buffer (suc j) (n + u) at_second in_second) (from_buffer (suc (suc j)) (n + 2 * u) at_third in_third)
        (buffer_long j n e in_first_lem) (buffer_long (suc j) (n + u) at_second in_second) (buffer_long (suc (suc j)) (n + 2 * u) at_third in_third) (λ p. members_long j p));
  }
    where
      three : j + 3 ≡ suc (suc (suc j))
      three = omega arith

      at_second : at (suc j) ≡ k.below + (n + u)
      at_second = rw suc-mul (omega (arith, e))

      at_third : at (suc (suc j)) ≡ k.below + (n + 2 * u)
      at_third = rw suc-mul (omega (arith, at_second))

      in_first_lem : at j < k.end
      in_first_lem = omega (arith, h)

      in_second : at (suc j) < k.end
      in_second = omega (arith, h, e, at_second)

      in_third : at (suc (suc j)) < k.end
      in_third = omega (arith, h, e, at_third)

  -- a held member and one from the buffer
  held_known : at j < k.below → at j < k.end → own_held g k.here ps k.zone (at j) ≡ true → f j ≡ own_sector g ys k.zone (at j)
  held_known h e q =
      let y = built_known.member (at j) (omega arith) in
      rw (lt-ltb (at j) k.end e)
      (content_known k (read_device g xs ps) buffer (at j) h ∙ ap (λ (v : Device). value_at g (is_set k.here) v k.zone k.generation (at j)) (sym built_device)
      ∙ value_held g k.here ys ps k.zone y.readable ok k.generation (at j) (omega (arith, e, y.end_most)) q)

  pub built_two : (n : ℕ) (zs : List ℕ) → start + j * k.geometry.unit < k.below → start + j * k.geometry.unit + k.geometry.unit ≡ k.below + n → start + j * k.geometry.unit + k.geometry.unit < k.end
      → own_held k.geometry k.here ps k.zone (start + j * k.geometry.unit) ≡ true → length zs ≡ length ys
      → zs ≡ with_two (eqb j 0) ys to (own_sector k.geometry ys k.zone (start + j * k.geometry.unit)) (sector_no k.geometry.sector buffer n)
      → RowBuilt k xs ps buffer start to (j + 2) zs
  built_two n zs known_first e h held l q = record {
    row_known = m;
    long = l ∙ built.long;
    so_far =
        q
        ∙ rw two (laid_two g.sector xs to (row_place k xs ps buffer start to m) f j (own_sector g ys k.zone (at j)) (new n) ys built.so_far
        (held_known known_first in_first_lem held) (from_buffer (suc j) n at_second in_second) held_long (buffer_long (suc j) n at_second in_second) (λ p. members_long j p));
  }
    where
      two : j + 2 ≡ suc (suc j)
      two = omega arith

      at_second : at (suc j) ≡ k.below + n
      at_second = rw suc-mul (omega (arith, e))

      in_first_lem : at j < k.end
      in_first_lem = omega (arith, h)

      in_second : at (suc j) < k.end
      in_second = omega (arith, h, e, at_second)

      held_long : length (own_sector g ys k.zone (at j)) ≡ g.sector
      held_long = sym (ap length (held_known known_first in_first_lem held)) ∙ rw (lt-ltb (at j) k.end in_first_lem) (member_in j in_first_lem)

pub built_all : (xs : List ℕ) (to : ℕ) (f : ℕ → List ℕ) (n : ℕ) → 0 < n → row_laid xs to f n ≡ overlay xs to (xor_below f n)
built_all xs to f zero h = absurd (omega arith)
built_all xs to f (suc n) h = refl

-- ---- appended
-- what appending rows of stripe s relies on; where the drive is absent nothing is read. What is appended goes by `to`, past the pointers.
pub record RowsReady (k : Extent) (t : Target) (xs ws ps buffer : List ℕ) (s : ℕ) : Type 0 where
  pub shape : SameShape k.geometry k.to
  pub drive_in : t.drive < k.geometry.drives
  pub zone_in_lem : t.zone < physical_zones k.geometry
  pub sectors_long : length xs ≡ total_bytes k.geometry
  pub written_long : length ws ≡ cells k.geometry
  pub behind : Behind k.to (λ y. eqb y t.zone) ps ws
  pub stripe_known : t.present ≡ true → StripeKnown k xs ps buffer s

module _ (k : Extent) (t : Target) (xs ws ps buffer : List ℕ) (s : ℕ) (ready : RowsReady k t xs ws ps buffer s) where
  -- the place where they go
  pub target_drive : t.drive < k.to.drives
  target_drive = rw ready.shape.drives_same ready.drive_in

  pub target_zone : t.zone < physical_zones k.to
  target_zone = rw (shape_zones k.geometry k.to ready.shape) ready.zone_in_lem

  pub target_cells : length ws ≡ cells k.to
  target_cells = ready.written_long ∙ sym (shape_cells k.geometry k.to ready.shape)

  -- the next sector of the zone is free
  pub next_free : get_or ws (cell k.to t.drive t.zone) 0 < k.to.capacity → FreePlace k.geometry ps (byte_at k.to t.drive t.zone (get_or ws (cell k.to t.drive t.zone) 0))
  next_free h =
      let c = cell k.to t.drive t.zone in
      let n = get_or ws c 0 in
      record {
        zone = c;
        sector = n;
        zone_in_lem = rw (← shape_cells k.geometry k.to ready.shape) (cell_in k.to t.drive t.zone target_drive target_zone);
        sector_in = omega (arith, h, ready.shape.capacity_same);
        past = ready.behind.least t.drive t.zone target_drive target_zone (eqb_same t.zone);
        place = ap₂ (λ (x y : ℕ). (c * x + n) * y) ready.shape.capacity_same ready.shape.sector_same;
      }

  -- a row is one sector long
  pub ready_long : Valid k.geometry → (r : ℕ) → r < k.geometry.unit → s * stripe_sectors k.geometry + r < k.end → t.present ≡ true
      → length (row_xor_below k.geometry.drives k.geometry.unit (content_of k (read_device k.geometry xs ps) buffer) s k.end r) ≡ k.geometry.sector
  ready_long ok r hr h p =
      row_long k.geometry ok (content_of k (read_device k.geometry xs ps) buffer) s k.end r hr h
      (λ j hj l. member_long k xs ps buffer (address k.geometry.drives k.geometry.unit s j r) ((ready.stripe_known p).member (address k.geometry.drives k.geometry.unit s j r) (omega (arith, address_sum k.geometry.drives k.geometry.unit s j r))) ok l)

  -- appends to that zone leave it so, and the content as it was
  pub ready_kept : (budget rest : ℕ) (ss : List Store) (xs' ws' : List ℕ) → StoresIn k.geometry (λ y. eqb y t.zone) ss → MadeAppends k.to budget rest ss xs ws xs' ws'
      → RowsReady k t xs' ws' ps buffer s × (read_device k.geometry xs' ps ≡ read_device k.geometry xs ps)
  ready_kept budget rest ss xs' ws' p q =
      let h = stored_keeps k.geometry k.to (λ y. eqb y t.zone) budget rest ss ps xs ws xs' ws' ready.shape p ready.sectors_long ready.written_long ready.behind q in (
        record {
          shape = ready.shape;
          drive_in = ready.drive_in;
          zone_in_lem = ready.zone_in_lem;
          sectors_long = h.sectors_long;
          written_long = h.written_long;
          behind = h.behind;
          stripe_known = λ c. stripe_kept k xs ps buffer s (ready.stripe_known c) xs' h.sectors_long h.device;
        },
        h.device,
      )
