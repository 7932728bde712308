-- What copying a parity log relies on, zone after zone, and that the copies leave it so.
use Rattle.std.specs.Prelude.{◌≡◌, refl, Bool, true, false, ◌&&◌, ◌||◌, not, ℕ, zero, suc, ◌+◌, ◌-◌, ◌*◌, ◌≤◌, ◌<◌, min, List, [], ◌∷◌, ◌++◌, map, length, get_or, eqb}
use Rattle.std.proofs.Common.{sym, ap, ◌∙◌, true≢false, le_refl, arith, ltb-true}
use Rattle.std.proofs.Math.Decide.{ℕ_discrete}
use Rattle.tables.specs.declared.Geometry.{Geometry}
use Rattle.tables.specs.meaning.Basics.{pick}
use Rattle.tables.specs.laws.Basics.{and_split, eqb_same}
use Rattle.tables.specs.meaning.Below.{any_below, tabulate_from}
use Rattle.tables.specs.laws.Below.{any_below_false}
use Rattle.tables.specs.meaning.Lists.{any_of, concat}
use Rattle.tables.specs.laws.Lists.{map_append, concat_append}
use Rattle.tables.specs.meaning.Geometry.{Valid, physical_zones, cells, stripe_sectors, zone_sectors}
use Rattle.tables.specs.meaning.Placement.{stripe_of}
use Rattle.tables.specs.meaning.Device.{Device}
use Rattle.tables.specs.meaning.Tables.{tables_of, cell, sector_at}
use Rattle.tables.specs.laws.Made.{MadeAppends, WellSized}
use Rattle.logs.specs.meaning.Entry.{parity_zone, spare_zone, Header, Entry}
use Rattle.logs.specs.meaning.Heads.{ends_at}
use Rattle.logs.specs.laws.Heads.{ends_within}
use Rattle.logs.specs.meaning.Walk.{walk_log, sectors_of}
use Rattle.logs.specs.code.WalkCode.{log_sectors}
use Rattle.logs.specs.code.Query.{head_of, heads_of}
use Rattle.logs.specs.laws.Places.{last_place}
use Rattle.volume.specs.declared.emptying.Emptying.{Emptying}
use Rattle.volume.specs.declared.emptying_parity.ZonePoint.{ZonePoint}
use Rattle.volume.specs.meaning.CallContracts.{is_set}
use Rattle.volume.specs.meaning.Calls.{append_all}
use Rattle.volume.specs.meaning.Content.{inside_stripe, fill_of, parity_drive_at}
use Rattle.volume.specs.meaning.Rules.{known, zone_view}
use Rattle.volume.specs.meaning.Emptying.{last_entry, parity_copies, gone_for_copies}
use Rattle.volume.specs.looking.Knowing.{read_device}
use Rattle.volume.specs.looking.DriveLogs.{zone_pointer, parity_entries_lem}
use Rattle.volume.specs.rows.KeptBelow.{StoresIn, Behind, made_keeps, kept_device}
use Rattle.volume.specs.emptying.Elsewhere.{SectorsLong, sectors_long_append}
use Rattle.volume.specs.emptying.Moving.{Copying}
use Rattle.volume.specs.emptying.ParityCopies.{in_force_by, PointersWithin, copied_at, made_at, is_at, entry_for, point_of, entries_below, old_entries, entry_sectors, entries_on, copies_are, carried_from, old_run_long}
use Rattle.volume.specs.emptying.FoundEntries.{none_found, none_there, found_there}
use Rattle.volume.specs.emptying.MadeEntries.{Making, made_entry_long}

-- what is known where a zone's entry has to be made: the stripe's sectors below the pointer (v: the device that values are read from; es: the whole entries
-- of the old log)
pub record KnownIfMade (e : Emptying) (p : ZonePoint) (v : Device) (es : List Entry) : Type 0 where
  pub stripe_known : copied_at e.from e.drive p.number p.pointer ≡ true → any_of (is_at e p) es ≡ false → (i : ℕ) → i < fill_of e.from p.pointer
      → known e.from.drives e.from.unit p.number (zone_view e.from (is_set e.here) v p.number p.generation) (stripe_of e.from.drives e.from.unit p.pointer * stripe_sectors e.from + i) ≡ true

-- ---- of the tables. Values are read below the pointers ps, the old log below ss: outside a mount they are the same, of the call's start; in a mount the
-- look's and those of the moment. In the spare zones neither is past today's pointers: there nothing was reset since they were copied. (In a mount the
-- look's are copied after its first step.)
pub record ParityTables (e : Emptying) (ps ss xs ws : List ℕ) : Type 0 where
  pub copying : Copying true e ps xs ws
  pub starts_long : length ss ≡ cells e.from
  pub behind : Behind e.from (λ y. eqb y spare_zone) ps ws
  pub starts_behind : Behind e.from (λ y. eqb y spare_zone) ss ws
  pub in_zones : (d y : ℕ) → d < e.from.drives → is_set e.here d ≡ true → y < physical_zones e.from → get_or ps (cell e.from d y) 0 ≤ e.from.capacity

-- ---- of one zone
pub record PointCopying (e : Emptying) (p : ZonePoint) (ps ss xs ws : List ℕ) : Type 0 where
  pub tables : ParityTables e ps ss xs ws
  pub zone_in_lem : p.number < e.from.zones
  pub pointer_most : p.pointer ≤ zone_sectors e.from
  pub known_if_made : KnownIfMade e p (read_device e.from xs ps) (old_entries e (read_device e.from xs ss))

-- ---- of all zones, by their generations gs and pointers qs
pub record ParityCopying (e : Emptying) (gs qs ps ss xs ws : List ℕ) : Type 0 where
  pub tables : ParityTables e ps ss xs ws
  pub generations_long : e.from.zones ≤ length gs
  pub pointers_within : PointersWithin e.from qs
  pub known_if_made : (z : ℕ) → z < e.from.zones → KnownIfMade e (point_of gs qs z) (read_device e.from xs ps) (old_entries e (read_device e.from xs ss))

not_false_is : (b : Bool) → not b ≡ false → b ≡ true
not_false_is true h = refl
not_false_is false h = absurd (true≢false h)

second : (a b : Bool) → a && b ≡ false → a ≡ true → b ≡ false
second true b h e = h
second false b h e = absurd (true≢false (sym e))

-- outside a mount that is what refusal 15 asks
pub none_gone_known : (e : Emptying) (gs qs : List ℕ) (v : Device) → gone_for_copies e.from (is_set e.here) (in_force_by e gs qs v) v e.drive ≡ false → (z : ℕ) → z < e.from.zones → KnownIfMade e (point_of gs qs z) v (old_entries e v)
unfolding gone_for_copies
none_gone_known e gs qs v gone z hz = record {
  stripe_known = λ h n i hi.
      let p = point_of gs qs z in
      let due : ℕ → Bool = λ y. copied_at e.from e.drive y (get_or qs y 0) && not (any_of (is_at e (point_of gs qs y)) (old_entries e v)) in
      let known_at : ℕ → ℕ → Bool = λ y j. known e.from.drives e.from.unit y (zone_view e.from (is_set e.here) v y (get_or gs y 0)) (stripe_of e.from.drives e.from.unit (get_or qs y 0) * stripe_sectors e.from + j) in
      let k : ℕ → Bool = known_at z in
      let here : copied_at e.from e.drive z p.pointer && not (any_of (is_at e p) (old_entries e v)) ≡ true = rw (h, n) refl in
      let one = any_below_false (λ y. due y && any_below (λ j. not (known_at y j)) (fill_of e.from (get_or qs y 0))) e.from.zones z gone hz in
      let none = second (due z) (any_below (λ j. not (k j)) (fill_of e.from p.pointer)) one here in
      not_false_is (k i) (any_below_false (λ j. not (k j)) (fill_of e.from p.pointer) i none hi);
}

pub point_copying : (e : Emptying) (gs qs ps ss xs ws : List ℕ) → ParityCopying e gs qs ps ss xs ws → (z : ℕ) → z < e.from.zones → PointCopying e (point_of gs qs z) ps ss xs ws
point_copying e gs qs ps ss xs ws c z hz = record { tables = c.tables; zone_in_lem = hz; pointer_most = c.pointers_within.most z hz; known_if_made = c.known_if_made z hz }

-- ---- the two ways to a zone's entry
any_heads : (t : Header → Bool) (es : List Entry) → any_of t (map head_of es) ≡ any_of (λ (x : Entry). t x.head) es
any_heads t [] = refl
any_heads t (x ∷ es) = ap (λ (b : Bool). t x.head || b) (any_heads t es)

module _ (e : Emptying) (p : ZonePoint) (ps ss xs ws : List ℕ) (c : PointCopying e p ps ss xs ws) where
  abbrev v : Device
  v = read_device e.from xs ps

  -- the old log's
  abbrev w : Device
  w = read_device e.from xs ss

  pub point_inside : copied_at e.from e.drive p.number p.pointer ≡ true → stripe_of e.from.drives e.from.unit p.pointer * stripe_sectors e.from < p.pointer
  point_inside h = ltb-true (stripe_of e.from.drives e.from.unit p.pointer * stripe_sectors e.from) p.pointer (and_split (inside_stripe e.from p.pointer) (eqb e.drive (parity_drive_at e.from p.number p.pointer)) h).0

  pub point_making : copied_at e.from e.drive p.number p.pointer ≡ true → any_of (is_at e p) (old_entries e w) ≡ false → Making e p ps xs ws
  point_making h n = record { copying = c.tables.copying; behind = c.tables.behind; in_zones = c.tables.in_zones; zone_in_lem = c.zone_in_lem; pointer_most = c.pointer_most; inside = point_inside h; stripe_known = c.known_if_made.stripe_known h n }

  -- the old log's sectors, and the place that the code finds in it
  abbrev size : ℕ
  size = zone_pointer e.from ss e.drive parity_zone

  abbrev pub place_at : ℕ
  place_at = last_place e.from (ends_within e.from p.number p.generation (p.pointer - 1) p.pointer) 0 0 (heads_of (walk_log e.from e.drive true (log_sectors e.from e.drive parity_zone xs size)))

  entries_are : (walk_log e.from e.drive true (log_sectors e.from e.drive parity_zone xs size)).entries ≡ old_entries e w
  entries_are = parity_entries_lem e.from xs ss e.drive c.tables.copying.moves.drive_in size refl

  abbrev pub entries_at : List Entry
  entries_at = entry_for e v (old_entries e w) p

  pub entry_skipped : copied_at e.from e.drive p.number p.pointer ≡ false → entries_at ≡ []
  entry_skipped h = rw h refl

  module _ (h : copied_at e.from e.drive p.number p.pointer ≡ true) where
    some : 0 < p.pointer
    some = omega (arith, point_inside h)

    pub entry_lacks : place_at ≡ 0 → any_of (is_at e p) (old_entries e w) ≡ false
    entry_lacks q =
        sym (ap (any_of (is_at e p)) entries_are) ∙ sym (any_heads (λ x. ends_at e.from p.number p.generation p.pointer x) (walk_log e.from e.drive true (log_sectors e.from e.drive parity_zone xs size)).entries)
        ∙ none_there e.from xs e.drive size p.number p.generation p.pointer some q

    pub entry_is_made : place_at ≡ 0 → entries_at ≡ made_at e v p ∷ []
    entry_is_made q =
        ap (λ (b : Bool). pick b (last_entry (is_at e p) (made_at e v p ∷ []) (old_entries e w)) []) h
        ∙ sym (ap (last_entry (is_at e p) (made_at e v p ∷ [])) entries_are) ∙ none_found e.from xs e.drive size p.number p.generation p.pointer some q (made_at e v p ∷ [])

    pub entry_is_found : (x : ℕ) → place_at ≡ x + 1
        → (entry_sectors e entries_at ≡ tabulate_from (sector_at e.from xs e.drive parity_zone) x (suc (min (fill_of e.from p.pointer) e.from.unit))) × (x + suc (min (fill_of e.from p.pointer) e.from.unit) ≤ e.from.capacity)
    entry_is_found x q =
        let f = found_there e.from xs e.drive size p.number p.generation p.pointer some x q (made_at e v p ∷ []) in (
          ap (λ (b : Bool). entry_sectors e (pick b (last_entry (is_at e p) (made_at e v p ∷ []) (old_entries e w)) [])) h ∙ sym (ap (λ (es : List Entry). entry_sectors e (last_entry (is_at e p) (made_at e v p ∷ []) es)) entries_are) ∙ f.0,
          omega (arith, f.1),
        )

  -- each is a whole sector
  entry_long : Valid e.from → SectorsLong e.from.sector (entry_sectors e entries_at)
  entry_long ok = go (copied_at e.from e.drive p.number p.pointer) refl
    where
      by : copied_at e.from e.drive p.number p.pointer ≡ true → Dec (place_at ≡ 0) → SectorsLong e.from.sector (entry_sectors e entries_at)
      by h (yes q) = rw (entry_is_made h q) (made_entry_long e p ps xs ws (point_making h (entry_lacks h q)) ok)
      by h (no q) =
          let r : place_at ≡ (place_at - 1) + 1 = omega (arith, q) in
          let f = entry_is_found h (place_at - 1) r in
          let k : Copying true e ws xs ws = record { moves = c.tables.copying.moves; sectors_long = c.tables.copying.sectors_long; written_long = c.tables.copying.written_long; pointers_long = c.tables.copying.written_long } in
          rw f.0 (old_run_long e xs ws ok k (place_at - 1) (suc (min (fill_of e.from p.pointer) e.from.unit)) f.1)

      go : (b : Bool) → copied_at e.from e.drive p.number p.pointer ≡ b → SectorsLong e.from.sector (entry_sectors e entries_at)
      go true h = by h (ℕ_discrete place_at 0)
      go false h = rw (entry_skipped h) tt

-- ---- the copies leave what is relied on, and what is read
append_all_in : (g : Geometry) (d : ℕ) (ss : List (List ℕ)) → d < g.drives → SectorsLong g.sector ss → StoresIn g (λ y. eqb y spare_zone) (append_all d spare_zone ss)
append_all_in g d [] hd l = tt
append_all_in g d (s ∷ ss) hd l = ((hd, omega arith, l.0, eqb_same spare_zone), append_all_in g d ss hd l.1)

pub parity_kept : (e : Emptying) (gs qs ps ss xs ws : List ℕ) → ParityCopying e gs qs ps ss xs ws → (budget rest : ℕ) (es : List Entry) (xs' ws' : List ℕ) → SectorsLong e.from.sector (entry_sectors e es) → MadeAppends e.to budget rest (entries_on e es) xs ws xs' ws'
    → ParityCopying e gs qs ps ss xs' ws' × (read_device e.from xs' ps ≡ read_device e.from xs ps) × (read_device e.from xs' ss ≡ read_device e.from xs ss)
parity_kept e gs qs ps ss xs ws c budget rest es xs' ws' l m =
    let k = c.tables.copying in
    let b = carried_from true e k.moves budget rest (entry_sectors e es) xs ws xs' ws' m in
    let stores = append_all e.drive spare_zone (entry_sectors e es) in
    let on = append_all_in e.from e.drive (entry_sectors e es) k.moves.drive_in l in
    let sized : WellSized e.from (tables_of xs ws ws) = record { sectors_long = k.sectors_long; written_long = k.written_long; durable_long = k.written_long } in
    let h = made_keeps e.from (λ y. eqb y spare_zone) budget rest stores ps (tables_of xs ws ws) (tables_of xs' ws' ws) on sized c.tables.behind (b.made ws) in
    let j = made_keeps e.from (λ y. eqb y spare_zone) budget rest stores ss (tables_of xs ws ws) (tables_of xs' ws' ws) on sized c.tables.starts_behind (b.made ws) in
    let q : read_device e.from xs' ps ≡ read_device e.from xs ps = kept_device e.from ps xs xs' [] h.bytes in
    let r : read_device e.from xs' ss ≡ read_device e.from xs ss = kept_device e.from ss xs xs' [] j.bytes in (
      record {
        tables = record {
          copying = record { moves = k.moves; sectors_long = h.sized.sectors_long; written_long = h.sized.written_long; pointers_long = k.pointers_long };
          starts_long = c.tables.starts_long;
          behind = h.behind;
          starts_behind = j.behind;
          in_zones = c.tables.in_zones;
        };
        generations_long = c.generations_long;
        pointers_within = c.pointers_within;
        known_if_made = rw (q, r) c.known_if_made;
      },
      q,
      r,
    )

-- all of them are whole sectors
pub entries_long : (e : Emptying) (gs qs ps ss xs ws : List ℕ) → Valid e.from → ParityCopying e gs qs ps ss xs ws → (n : ℕ) → n ≤ e.from.zones → SectorsLong e.from.sector (entry_sectors e (entries_below e (read_device e.from xs ps) gs qs (old_entries e (read_device e.from xs ss)) n))
entries_long e gs qs ps ss xs ws ok c zero h = tt
entries_long e gs qs ps ss xs ws ok c (suc n) h =
    let olds = old_entries e (read_device e.from xs ss) in
    let es = entries_below e (read_device e.from xs ps) gs qs olds n in
    let one = entry_for e (read_device e.from xs ps) olds (point_of gs qs n) in
    let split : entry_sectors e (es ++ one) ≡ entry_sectors e es ++ entry_sectors e one = ap concat (map_append (sectors_of e.from e.drive true) es one) ∙ concat_append (map (sectors_of e.from e.drive true) es) (map (sectors_of e.from e.drive true) one) in
    rw split (sectors_long_append e.from.sector (entry_sectors e es) (entry_sectors e one) (entries_long e gs qs ps ss xs ws ok c n (omega arith)) (entry_long e (point_of gs qs n) ps ss xs ws (point_copying e gs qs ps ss xs ws c n (omega arith)) ok))

-- as empty_parity states them
pub parity_copies_long : (e : Emptying) (gs qs ps ss xs ws : List ℕ) → Valid e.from → ParityCopying e gs qs ps ss xs ws → SectorsLong e.from.sector (entry_sectors e (parity_copies e.from (in_force_by e gs qs (read_device e.from xs ps)) e.drive (old_entries e (read_device e.from xs ss))))
parity_copies_long e gs qs ps ss xs ws ok c = rw (← copies_are e (read_device e.from xs ps) gs qs (old_entries e (read_device e.from xs ss))) (entries_long e gs qs ps ss xs ws ok c e.from.zones (le_refl e.from.zones))
