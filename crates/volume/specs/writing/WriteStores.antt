-- The stores of a write on the tables: the content that it writes, what its functions rely on while they store, and their stores one after the other
-- (document 01: "stripe by stripe its data sectors by address, then U parity sectors if the stripe is complete; if it ends inside a stripe, one type 4
-- entry on the parity drive").
use Rattle.std.specs.Prelude.{◌≡◌, refl, Bool, true, length, take, drop, ltb}
use Rattle.std.proofs.Common.{sym, ◌∙◌, true≢false, mod-lt, mul-le-mul_right, suc-mul, drop_of_length-le, lt-ltb, le-ltb, eq-eqb, ne_eqb, eqb-true}
use Rattle.std.proofs.Math.Path.{ap, ap₂, fun_ext, subst}
use Rattle.std.proofs.Math.Bool.{false}
use Prim.Native.Nat.{ℕ, zero, suc, ◌+◌, ◌-◌, ◌*◌, ◌%◌, ◌≤◌, ◌<◌, min}
use Rattle.std.proofs.Math.Decide.{dec_lt, ℕ_discrete}
use native.Mathlib.Omega.{arith}
use mathlib.Core.List.{List, [], ◌∷◌, ◌++◌, append_assoc, append-nil}
use Rattle.std.proofs.Math.ListN.{get_or-eq_default}
use Rattle.std.proofs.Math.Seq.{take-nil}
use Rattle.tables.specs.declared.Geometry.{Geometry}
use Rattle.tables.specs.meaning.Basics.{pick}
use Rattle.tables.specs.meaning.Below.{tabulate_from}
use Rattle.tables.specs.laws.Below.{all_below_all, get_d_tabulate_from, length_tabulate_from}
use Rattle.tables.specs.laws.Within.{part_long}
use Rattle.tables.specs.meaning.Device.{Device, Store, append}
use Rattle.tables.specs.meaning.Phases.{on_present}
use Rattle.tables.specs.laws.Phases.{on_present_append}
use Rattle.tables.specs.meaning.Geometry.{Valid, physical_zones, cells, total_bytes, stripe_sectors, zone_sectors, data_zone}
use Rattle.tables.specs.meaning.Placement.{stripe_of, drive_of, parity_drive}
use Rattle.tables.specs.laws.Sizes.{unit_in_stripe}
use Rattle.tables.specs.laws.Placement.{stripe_pos, stripe_below, stripe_above, drive_below, parity_drive_below}
use Rattle.tables.specs.meaning.Tables.{sector_no}
use Rattle.tables.specs.laws.Made.{MadeAppends, store_if}
use Rattle.logs.specs.meaning.Entry.{parity_zone, encode}
use Rattle.volume.specs.declared.rows.Extent.{Extent}
use Rattle.volume.specs.meaning.Content.{at, row_xor, row_xor_below, inside_stripe, fill_of, parity_drive_at, entry_header, entry_at}
use Rattle.volume.specs.laws.Content.{row_complete_lem, stripe_last}
use Rattle.volume.specs.meaning.Rules.{known, zone_view, seal_limit, value_at}
use Rattle.volume.specs.meaning.Refusals.{gone_in, gone_before}
use Rattle.volume.specs.meaning.Calls.{append_all, sector_stores, data_stores, entry_stores, write_with}
use Rattle.volume.specs.meaning.Answers.{sectors_in}
use Rattle.volume.specs.meaning.CallContracts.{is_set}
use Rattle.volume.specs.looking.Knowing.{Readable, read_device, own_held, all_held}
use Rattle.volume.specs.looking.KnowingLaws.{known_in}
use Rattle.volume.specs.rows.SameShape.{not_spare, data_not_spare, SameShape}
use Rattle.volume.specs.rows.KeptBelow.{StoresIn, Behind, stores_in_append, stored_keeps}
use Rattle.volume.specs.rows.RowStores.{rows_if, rows_whole, rows_cong, rows_in, store_if_in, present_all, present_one}
use Rattle.volume.specs.rows.RowsInPlace.{content_of, content_new, StripeKnown, stripe_kept, RowsReady, ready_long}

-- ---- the content: below the pointer n the values of rule 4, from it on the sectors that are written
unfoldable pub run_content : Geometry → (ℕ → Bool) → Device → ℕ → ℕ → ℕ → List (List ℕ) → ℕ → List ℕ
run_content g present v z generation n ss a = pick (ltb a n) (value_at g present v z generation a) (at ss (a - n))

-- the earlier sectors of the pointer's stripe are held
abbrev pub earlier_held : Geometry → List Bool → List ℕ → ℕ → ℕ → Bool
earlier_held g here ps z n = all_held g here ps z (stripe_of g.drives g.unit n * stripe_sectors g) (fill_of g n)

-- the zone, from pointer n on, with what a write of `count` sectors is handed; `to`: where the logs lie for what it stores
abbrev pub extent_of : Geometry → Geometry → List Bool → ℕ → ℕ → ℕ → ℕ → ℕ → Extent
extent_of g to here z generation limit n count = record { geometry = g; to = to; here = here; zone = z; generation = generation; limit = limit; below = n; end = n + count }

-- sector i of a buffer of `count` sectors
buffer_sector : (g : Geometry) (count i : ℕ) (buffer : List ℕ) → length buffer ≡ count * g.sector → sector_no g.sector buffer i ≡ at (sectors_in g count buffer) i
unfolding sectors_in
buffer_sector g count i buffer l = go (dec_lt i count)
  where
    go : Dec (i < count) → sector_no g.sector buffer i ≡ at (sectors_in g count buffer) i
    go (yes h) = let o : zero + i ≡ i = omega arith in sym (get_d_tabulate_from (λ j. take g.sector (drop (j * g.sector) buffer)) zero count i h ∙ ap (sector_no g.sector buffer) o)
    go (no h) =
        let m : count * g.sector ≤ i * g.sector = mul-le-mul_right g.sector (omega arith) in
        rw (drop_of_length-le buffer {i = i * g.sector} (omega arith), take-nil)
        (sym (get_or-eq_default (tabulate_from (λ j. take g.sector (drop (j * g.sector) buffer)) zero count) [] {n = i} (rw (length_tabulate_from (λ j. take g.sector (drop (j * g.sector) buffer)) zero count) (omega arith))))

pub content_is : (g to : Geometry) (here : List Bool) (v : Device) (z generation limit n count : ℕ) (buffer : List ℕ) → length buffer ≡ count * g.sector
    → content_of (extent_of g to here z generation limit n count) v buffer ≡ run_content g (is_set here) v z generation n (sectors_in g count buffer)
unfolding content_of run_content
content_is g to here v z generation limit n count buffer l = fun_ext λ a. ap (pick (ltb a n) (value_at g (is_set here) v z generation a)) (buffer_sector g count (a - n) buffer l)

-- ---- the stores of a run, by its last address
pub data_snoc : (D U z : ℕ) (S : ℕ → List ℕ) (a k : ℕ) → data_stores D U z S a (suc k) ≡ data_stores D U z S a k ++ sector_stores D U z S (a + k)
data_snoc D U z S a zero = let e : a + zero ≡ a = omega arith in append-nil (sector_stores D U z S a) ∙ ap (sector_stores D U z S) (sym e)
data_snoc D U z S a (suc k) =
    let e : suc a + k ≡ a + suc k = omega arith in
    ap (λ (r : List Store). sector_stores D U z S a ++ r) (data_snoc D U z S (suc a) k ∙ ap (λ (b : ℕ). data_stores D U z S (suc a) k ++ sector_stores D U z S b) e)
    ∙ sym (append_assoc (sector_stores D U z S a) (data_stores D U z S (suc a) k) (sector_stores D U z S (a + suc k)))

-- in two parts
data_add : (D U z : ℕ) (S : ℕ → List ℕ) (a i k : ℕ) → data_stores D U z S a (i + k) ≡ data_stores D U z S a i ++ data_stores D U z S (a + i) k
data_add D U z S a zero k =
    let e : zero + k ≡ k = omega arith in
    let f : a + zero ≡ a = omega arith in
    rw (e, f) refl
data_add D U z S a (suc i) k =
    let e : suc i + k ≡ suc (i + k) = omega arith in
    let f : suc a + i ≡ a + suc i = omega arith in
    ap (data_stores D U z S a) e
    ∙ ap (λ (r : List Store). sector_stores D U z S a ++ r) (data_add D U z S (suc a) i k ∙ ap (λ (b : ℕ). data_stores D U z S (suc a) i ++ data_stores D U z S b k) f)
    ∙ sym (append_assoc (sector_stores D U z S a) (data_stores D U z S (suc a) i) (data_stores D U z S (a + suc i) k))

module _ (g : Geometry) (ok : Valid g) (present : ℕ → Bool) (z : ℕ) (S : ℕ → List ℕ) where
  -- those from n to a, then those to b
  pub data_more : (n a b : ℕ) → n ≤ a → a ≤ b
      → on_present present (data_stores g.drives g.unit z S n (b - n)) ≡ on_present present (data_stores g.drives g.unit z S n (a - n)) ++ on_present present (data_stores g.drives g.unit z S a (b - a))
  data_more n a b h l =
      let e : b - n ≡ a - n + (b - a) = omega arith in
      let q : n + (a - n) ≡ a = omega arith in
      ap (λ (m : ℕ). on_present present (data_stores g.drives g.unit z S n m)) e
      ∙ ap (on_present present) (data_add g.drives g.unit z S n (a - n) (b - a) ∙ ap (λ (c : ℕ). data_stores g.drives g.unit z S n (a - n) ++ data_stores g.drives g.unit z S c (b - a)) q)
      ∙ on_present_append present (data_stores g.drives g.unit z S n (a - n)) (data_stores g.drives g.unit z S a (b - a))

  -- of an address inside its stripe: its sector
  pub sector_inside : (a : ℕ) → suc (a % stripe_sectors g) < stripe_sectors g
      → on_present present (sector_stores g.drives g.unit z S a) ≡ store_if (present (drive_of g.drives g.unit z a)) (append (drive_of g.drives g.unit z a) (data_zone z) (S a))
  sector_inside a h = rw (ne_eqb (suc (a % stripe_sectors g)) (stripe_sectors g) (omega arith)) (present_one present (drive_of g.drives g.unit z a) (data_zone z) (S a))

  -- of its last: the sector and the stripe's parity, which a row below any later end is too
  pub sector_last : (a end : ℕ) → suc (a % stripe_sectors g) ≡ stripe_sectors g → a < end
      → on_present present (sector_stores g.drives g.unit z S a)
      ≡ store_if (present (drive_of g.drives g.unit z a)) (append (drive_of g.drives g.unit z a) (data_zone z) (S a))
      ++ rows_if (present (parity_drive g.drives z (stripe_of g.drives g.unit a))) (parity_drive g.drives z (stripe_of g.drives g.unit a)) (data_zone z) (row_xor_below g.drives g.unit S (stripe_of g.drives g.unit a) end) 0 g.unit
  sector_last a end h l =
      let d = drive_of g.drives g.unit z a in
      let s = stripe_of g.drives g.unit a in
      let p = parity_drive g.drives z s in
      let rows = append_all p (data_zone z) (tabulate_from (row_xor g.drives g.unit S s) zero g.unit) in
      let full : suc s * stripe_sectors g ≤ end = omega (arith, stripe_last g a h) in
      let two : 1 < g.drives = omega (arith, ok.drives_least) in
      rw (eq-eqb (suc (a % stripe_sectors g)) (stripe_sectors g) h)
      (on_present_append present (append d (data_zone z) (S a) ∷ []) rows
      ∙ ap₂ (λ (x y : List Store). x ++ y) (present_one present d (data_zone z) (S a))
      (present_all present p (data_zone z) (tabulate_from (row_xor g.drives g.unit S s) zero g.unit)
      ∙ rows_whole (present p) p (data_zone z) (row_xor g.drives g.unit S s) g.unit
      ∙ sym (rows_cong (present p) p (data_zone z) (row_xor_below g.drives g.unit S s end) (row_xor g.drives g.unit S s) g.unit (λ r hr. row_complete_lem g.drives g.unit two S s end r ok.unit_least hr full))))

  -- the entry at pointer n: a header and the rows
  pub entry_inside : (generation n : ℕ) → stripe_of g.drives g.unit n * stripe_sectors g < n
      → on_present present (pick (inside_stripe g n) (entry_stores g z generation S n) [])
      ≡ store_if (present (parity_drive_at g z n)) (append (parity_drive_at g z n) parity_zone (encode g (parity_drive_at g z n) (entry_header g z generation n)))
      ++ rows_if (present (parity_drive_at g z n)) (parity_drive_at g z n) parity_zone (row_xor_below g.drives g.unit S (stripe_of g.drives g.unit n) n) 0 (min (fill_of g n) g.unit)
  unfolding entry_at
  entry_inside generation n h =
      let p = parity_drive_at g z n in
      let s = encode g p (entry_header g z generation n) in
      let rows = tabulate_from (row_xor_below g.drives g.unit S (stripe_of g.drives g.unit n) n) zero (min (fill_of g n) g.unit) in
      rw (lt-ltb (stripe_of g.drives g.unit n * stripe_sectors g) n h)
      (on_present_append present (append p parity_zone s ∷ []) (append_all p parity_zone rows) ∙ ap₂ (λ (x y : List Store). x ++ y) (present_one present p parity_zone s) (present_all present p parity_zone rows ∙ rows_whole (present p) p parity_zone (row_xor_below g.drives g.unit S (stripe_of g.drives g.unit n) n) (min (fill_of g n) g.unit)))

  pub entry_none : (generation n : ℕ) → n ≤ stripe_of g.drives g.unit n * stripe_sectors g → on_present present (pick (inside_stripe g n) (entry_stores g z generation S n) []) ≡ []
  entry_none generation n h = rw (le-ltb (stripe_of g.drives g.unit n * stripe_sectors g) n h) refl

  -- all of a write up to `end`
  pub write_parts : (generation n end : ℕ) → n ≤ end
      → on_present present (write_with g z generation S n (end - n)) ≡ on_present present (data_stores g.drives g.unit z S n (end - n)) ++ on_present present (pick (inside_stripe g end) (entry_stores g z generation S end) [])
  unfolding write_with
  write_parts generation n end h =
      let e : n + (end - n) ≡ end = omega arith in
      on_present_append present (data_stores g.drives g.unit z S n (end - n)) (pick (inside_stripe g (n + (end - n))) (entry_stores g z generation S (n + (end - n))) [])
      ∙ ap (λ (m : ℕ). on_present present (data_stores g.drives g.unit z S n (end - n)) ++ on_present present (pick (inside_stripe g m) (entry_stores g z generation S m) [])) e

-- ---- what a write's refusals have found out; ps are the pointers of its start
pub record WriteReady (g : Geometry) (here : List Bool) (xs ps : List ℕ) (z generation n count : ℕ) (buffer : List ℕ) : Type 0 where
  pub readable : Readable g here xs ps z
  pub inside : n + count ≤ zone_sectors g
  pub buffer_long : length buffer ≡ count * g.sector
  pub earlier_known : gone_before g (is_set here) (read_device g xs ps) z generation n ≡ false

-- where its stores go, by `to`: at or past those pointers, but for the spare zones, to which it stores nothing
pub record StoresPast (g to : Geometry) (ps ws : List ℕ) : Type 0 where
  pub shape : SameShape g to
  pub written_long : length ws ≡ cells g
  pub behind : Behind to not_spare ps ws

-- ---- what its functions rely on while they store
pub record Writing (k : Extent) (xs ws ps buffer : List ℕ) : Type 0 where
  pub shape : SameShape k.geometry k.to
  pub zone_in_lem : k.zone < k.geometry.zones
  pub sectors_long : length xs ≡ total_bytes k.geometry
  pub written_long : length ws ≡ cells k.geometry
  pub below_most : k.below ≤ k.end
  pub end_most : k.end ≤ zone_sectors k.geometry
  pub buffer_long : length buffer ≡ (k.end - k.below) * k.geometry.sector
  pub behind : Behind k.to not_spare ps ws
  pub stripe_known : (s : ℕ) → stripe_of k.geometry.drives k.geometry.unit k.below ≤ s → is_set k.here (parity_drive k.geometry.drives k.zone s) ≡ true → StripeKnown k xs ps buffer s

-- its beginning. Below the pointer only the earlier sectors of the pointer's stripe are read, and only where that stripe's parity drive is present.
module _ (g to : Geometry) (ok : Valid g) (here : List Bool) (xs ps ws : List ℕ) (z generation n count : ℕ) (buffer : List ℕ) (r : WriteReady g here xs ps z generation n count buffer) (past : StoresPast g to ps ws) (limit : ℕ)
    (limit_is : limit ≡ pick (earlier_held g here ps z n) 0 (seal_limit g (is_set here) (read_device g xs ps) z generation)) where
  abbrev first : ℕ
  first = stripe_of g.drives g.unit n

  two : 1 < g.drives
  two = omega (arith, ok.drives_least)

  -- an address of stripe s or a later one that is below the pointer lies in the pointer's stripe, which is s
  same_stripe : (s a : ℕ) → first ≤ s → s * stripe_sectors g ≤ a → a < n → s ≡ first
  same_stripe s a h l q = go (ℕ_discrete s first)
    where
      go : Dec (s ≡ first) → s ≡ first
      go (yes e) = e
      go (no ne) =
          let m : suc first ≤ s = omega (arith, ne) in
          absurd (omega (arith, mul-le-mul_right (stripe_sectors g) m, stripe_above g.drives g.unit 0 two ok.unit_least n))

  inside_first : (a : ℕ) → first * stripe_sectors g ≤ a → a < n → (first * stripe_sectors g + (a - first * stripe_sectors g) ≡ a) × (a - first * stripe_sectors g < fill_of g n)
  inside_first a l q = (omega arith, omega arith)

  earlier : is_set here (parity_drive_at g z n) ≡ true → (a : ℕ) → first * stripe_sectors g ≤ a → a < n → known g.drives g.unit z (zone_view g (is_set here) (read_device g xs ps) z generation) a ≡ true
  unfolding gone_before
  earlier p a l q =
      let (e, m) = inside_first a l q in
      let gone : gone_in g (is_set here) (read_device g xs ps) z generation (first * stripe_sectors g) (fill_of g n) ≡ false = rw p at r.earlier_known in
      subst (λ (x : ℕ). known g.drives g.unit z (zone_view g (is_set here) (read_device g xs ps) z generation) x ≡ true) e (known_in g (is_set here) (read_device g xs ps) z generation (first * stripe_sectors g) (fill_of g n) (a - first * stripe_sectors g) gone m)

  limited : (a : ℕ) → first * stripe_sectors g ≤ a → a < n → own_held g here ps z a ≡ false → limit ≡ seal_limit g (is_set here) (read_device g xs ps) z generation
  limited a l q h = go (earlier_held g here ps z n) refl
    where
      go : (b : Bool) → earlier_held g here ps z n ≡ b → limit ≡ seal_limit g (is_set here) (read_device g xs ps) z generation
      go true e =
          let (i, m) = inside_first a l q in
          absurd (true≢false (sym (subst (λ (x : ℕ). own_held g here ps z x ≡ true) i (all_below_all (λ i. own_held g here ps z (first * stripe_sectors g + i)) (fill_of g n) (a - first * stripe_sectors g) e m)) ∙ h))
      go false e = limit_is ∙ rw e refl

  pub writing_begins : Writing (extent_of g to here z generation limit n count) xs ws ps buffer
  writing_begins = record {
    shape = past.shape;
    zone_in_lem = r.readable.zone_in_lem;
    sectors_long = r.readable.sectors_long;
    written_long = past.written_long;
    below_most = omega arith;
    end_most = r.inside;
    buffer_long = let e : n + count - n ≡ count = omega arith in rw e r.buffer_long;
    behind = past.behind;
    stripe_known = λ s h p. record {
      member = λ a l. record {
        readable = r.readable;
        end_most = r.inside;
        known_is = λ i q. let e = same_stripe s a h l q in earlier (subst (λ (x : ℕ). is_set here (parity_drive g.drives z x) ≡ true) e p) a (rw (← e) l) q;
        limit_is = λ i q o. let e = same_stripe s a h l q in limited a (rw (← e) l) q o;
        in_buffer = λ i q. let m : suc (a - n) ≤ count = omega arith in omega (arith, rw suc-mul at (mul-le-mul_right g.sector m), r.buffer_long);
      };
    };
  }

-- it goes on; the content stays
module _ (k : Extent) (ok : Valid k.geometry) (xs ws ps buffer : List ℕ) (w : Writing k xs ws ps buffer) where
  abbrev g : Geometry
  g = k.geometry

  abbrev present : ℕ → Bool
  present = is_set k.here

  abbrev S : ℕ → List ℕ
  S = content_of k (read_device k.geometry xs ps) buffer

  pub writing_kept : (budget rest : ℕ) (ss : List Store) (xs' ws' : List ℕ) → StoresIn k.geometry not_spare ss → MadeAppends k.to budget rest ss xs ws xs' ws'
      → Writing k xs' ws' ps buffer × (read_device k.geometry xs' ps ≡ read_device k.geometry xs ps)
  writing_kept budget rest ss xs' ws' p q =
      let h = stored_keeps g k.to not_spare budget rest ss ps xs ws xs' ws' w.shape p w.sectors_long w.written_long w.behind q in (
        record {
          shape = w.shape;
          zone_in_lem = w.zone_in_lem;
          sectors_long = h.sectors_long;
          written_long = h.written_long;
          below_most = w.below_most;
          end_most = w.end_most;
          buffer_long = w.buffer_long;
          behind = h.behind;
          stripe_known = λ s l c. stripe_kept k xs ps buffer s (w.stripe_known s l c) xs' h.sectors_long h.device;
        },
        h.device,
      )

  -- rows of a stripe that the write reaches can be appended to a zone of its parity drive that is no spare
  pub writing_rows : (s y : ℕ) → stripe_of k.geometry.drives k.geometry.unit k.below ≤ s → y < physical_zones k.geometry → not_spare y ≡ true → parity_drive k.geometry.drives k.zone s < k.geometry.drives
      → RowsReady k (record { drive = parity_drive k.geometry.drives k.zone s; zone = y; present = is_set k.here (parity_drive k.geometry.drives k.zone s) }) xs ws ps buffer s
  writing_rows s y h hy log hp = record {
    shape = w.shape;
    drive_in = hp;
    zone_in_lem = hy;
    sectors_long = w.sectors_long;
    written_long = w.written_long;
    behind = record { least = λ d x hd hx e. w.behind.least d x hd hx (rw (eqb-true x y e) log) };
    stripe_known = λ p. w.stripe_known s h p;
  }

  -- a sector of the buffer
  pub buffer_fits_lem : (a : ℕ) → k.below ≤ a → a < k.end → (a - k.below) * k.geometry.sector + k.geometry.sector ≤ length buffer
  buffer_fits_lem a l h = let m : suc (a - k.below) ≤ k.end - k.below = omega arith in omega (arith, rw suc-mul at (mul-le-mul_right g.sector m), w.buffer_long)

  new_long : (a : ℕ) → k.below ≤ a → a < k.end → length (S a) ≡ g.sector
  new_long a l h = ap (λ (x : List ℕ). length x) (content_new k (read_device g xs ps) buffer a l) ∙ part_long buffer ((a - k.below) * g.sector) g.sector (buffer_fits_lem a l h)

  -- stripes only go up
  pub stripe_reached : (a : ℕ) → k.below ≤ a → stripe_of k.geometry.drives k.geometry.unit k.below ≤ stripe_of k.geometry.drives k.geometry.unit a
  stripe_reached a l = go (dec_lt (stripe_of g.drives g.unit a) (stripe_of g.drives g.unit k.below))
    where
      two : 1 < g.drives
      two = omega (arith, ok.drives_least)

      go : Dec (stripe_of g.drives g.unit a < stripe_of g.drives g.unit k.below) → stripe_of g.drives g.unit k.below ≤ stripe_of g.drives g.unit a
      go (yes h) = absurd (omega (arith, mul-le-mul_right (stripe_sectors g) h, stripe_below g.drives g.unit 0 two ok.unit_least k.below, stripe_above g.drives g.unit 0 two ok.unit_least a))
      go (no h) = omega arith

  -- what an address stores, and a run of them, are appends of whole sectors
  pub new_in : (a : ℕ) → k.below ≤ a → a < k.end → (here : Bool) → StoresIn k.geometry not_spare (store_if here (append (drive_of k.geometry.drives k.geometry.unit k.zone a) (data_zone k.zone) (S a)))
  new_in a l h here =
      store_if_in g not_spare here (drive_of g.drives g.unit k.zone a) (data_zone k.zone) (S a) (drive_below g.drives g.unit k.zone (omega (arith, ok.drives_least)) ok.unit_least a) (omega (arith, w.zone_in_lem)) (data_not_spare k.zone) (λ _. new_long a l h)

  address_in_lem : (a : ℕ) → k.below ≤ a → a < k.end → StoresIn k.geometry not_spare (on_present present (sector_stores g.drives g.unit k.zone S a))
  address_in_lem a l h = go (ℕ_discrete (suc (a % stripe_sectors g)) (stripe_sectors g))
    where
      d : ℕ
      d = drive_of g.drives g.unit k.zone a

      s : ℕ
      s = stripe_of g.drives g.unit a

      p : ℕ
      p = parity_drive g.drives k.zone s

      two : 1 < g.drives
      two = omega (arith, ok.drives_least)

      below : p < g.drives
      below = parity_drive_below g.drives g.unit k.zone two ok.unit_least s

      ready : RowsReady k (record { drive = p; zone = data_zone k.zone; present = present p }) xs ws ps buffer s
      ready = writing_rows s (data_zone k.zone) (stripe_reached a l) (omega (arith, w.zone_in_lem)) (data_not_spare k.zone) below

      rows : suc (a % stripe_sectors g) ≡ stripe_sectors g → StoresIn g not_spare (rows_if (present p) p (data_zone k.zone) (row_xor_below g.drives g.unit S s k.end) 0 g.unit)
      rows e =
          rows_in g not_spare (present p) p (data_zone k.zone) (row_xor_below g.drives g.unit S s k.end) 0 g.unit below (omega (arith, w.zone_in_lem)) (data_not_spare k.zone)
          (λ q r hr. ready_long k (record { drive = p; zone = data_zone k.zone; present = present p }) xs ws ps buffer s ready ok r hr (last_row e r hr) q)
        where
          last_row : suc (a % stripe_sectors g) ≡ stripe_sectors g → (r : ℕ) → r < g.unit → s * stripe_sectors g + r < k.end
          last_row e r hr = omega (arith, stripe_last g a e, unit_in_stripe g ok)

      go : Dec (suc (a % stripe_sectors g) ≡ stripe_sectors g) → StoresIn g not_spare (on_present present (sector_stores g.drives g.unit k.zone S a))
      go (yes e) = rw (sector_last g ok present k.zone S a k.end e h) (stores_in_append g not_spare (store_if (present d) (append d (data_zone k.zone) (S a))) (rows_if (present p) p (data_zone k.zone) (row_xor_below g.drives g.unit S s k.end) 0 g.unit) (new_in a l h (present d)) (rows e))
      go (no ne) = rw (sector_inside g ok present k.zone S a (omega (arith, ne, mod-lt a (stripe_pos g.drives g.unit 0 two ok.unit_least)))) (new_in a l h (present d))

  pub run_in : (j : ℕ) → j ≤ k.end - k.below → StoresIn k.geometry not_spare (on_present (is_set k.here) (data_stores k.geometry.drives k.geometry.unit k.zone (content_of k (read_device k.geometry xs ps) buffer) k.below j))
  run_in zero h = tt
  run_in (suc j) h =
      let e : on_present present (data_stores g.drives g.unit k.zone S k.below (suc j)) ≡ on_present present (data_stores g.drives g.unit k.zone S k.below j) ++ on_present present (sector_stores g.drives g.unit k.zone S (k.below + j)) =
      ap (on_present present) (data_snoc g.drives g.unit k.zone S k.below j) ∙ on_present_append present (data_stores g.drives g.unit k.zone S k.below j) (sector_stores g.drives g.unit k.zone S (k.below + j)) in
      subst (StoresIn g not_spare) (sym e) (stores_in_append g not_spare (on_present present (data_stores g.drives g.unit k.zone S k.below j)) (on_present present (sector_stores g.drives g.unit k.zone S (k.below + j))) (run_in j (omega arith)) (address_in_lem (k.below + j) (omega arith) (omega arith)))
