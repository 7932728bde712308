-- NO STORE VANISHES: on any input, the stores of an accepted flush, format, reset, write or compact have their place, and each append finds room in its zone when its
-- turn comes (`Fits`; on the tables `none_vanishes`). The refusals alone give it: 2 and 3 the tables, 7 and 9 a write's zone, 14 the logs.
-- (Mount: MountStoresFit.)
use Rattle.std.specs.Prelude.{◌≡◌, refl, ◌≢◌, Bool, ◌&&◌, List, [], ◌∷◌, ◌++◌, drop, ltb}
use Rattle.std.proofs.Common.{sym, ap, ◌∙◌, le_refl, lt-ltb, le-ltb, ltb-true, eq-eqb, ne_eqb, eqb-true}
use Rattle.std.proofs.Math.Bool.{true, false}
use Prim.Native.Nat.{ℕ, zero, suc, ◌+◌, ◌-◌, ◌*◌, ◌≤◌, ◌<◌, min}
use Rattle.std.proofs.Math.Nat.{mul-le-mul_right}
use Rattle.std.proofs.Math.Decide.{ℕ_discrete}
use native.Mathlib.Omega.{arith}
use Rattle.std.proofs.Math.ListN.{length, take}
use Rattle.std.proofs.Math.Dec.{eqb}
use Rattle.tables.specs.declared.Geometry.{Geometry}
use Rattle.tables.specs.meaning.Basics.{pick}
use Rattle.tables.specs.laws.Basics.{and_split}
use Rattle.tables.specs.meaning.Below.{each_below}
use Rattle.tables.specs.laws.Below.{length_tabulate_from, get_d_tabulate_from}
use Rattle.tables.specs.meaning.Lists.{concat}
use Rattle.tables.specs.meaning.Geometry.{Valid, stripe_sectors, physical_zones, data_zone}
use Rattle.tables.specs.meaning.Placement.{stripe_of}
use Rattle.tables.specs.laws.Sizes.{needed_fits}
use Rattle.tables.specs.meaning.Device.{ZoneView, Device, Store, reset, apply_all, blank_zone}
use Rattle.tables.specs.meaning.Through.{through}
use Rattle.tables.specs.meaning.Phases.{on_present, each_on_present, flush_all}
use Rattle.tables.specs.laws.Phases.{each_on_present_lem, on_present_append, on_present_local, each_below_own, each_below_at, each_below_unseen}
use Rattle.tables.specs.laws.Local.{reset_here, local_stores, local_is}
use Rattle.tables.specs.meaning.Tables.{Tables, device_of}
use Rattle.tables.specs.laws.Tables.{device_length}
use Rattle.tables.specs.laws.Made.{AllPlaced, FitsAll}
use Rattle.tables.specs.laws.StoresFit.{on_present_on, placed_present, placed_flushes, fits_append}
use Rattle.logs.specs.meaning.Entry.{general_zone, parity_zone, spare_zone, label, counters}
use Rattle.logs.specs.meaning.Walk.{sectors_of}
use Rattle.volume.specs.declared.State.{State}
use Rattle.volume.specs.meaning.State.{call_present}
use Rattle.volume.specs.meaning.Content.{inside_stripe, fill_of, parity_drive_at, entry_at}
use Rattle.volume.specs.meaning.Rules.{general_heads, parity_entries}
use Rattle.volume.specs.meaning.Refusals.{accept, WriteAsked, zone_asked, gone_before}
use Rattle.volume.specs.meaning.Hosts.{share_left}
use Rattle.volume.specs.meaning.Calls.{append_general, generations_from, data_stores, entry_stores, write_with, zone_content, write_stores, flush_stores, reset_phases, reset_stores, format_phases, format_stores}
use Rattle.volume.specs.meaning.Answers.{sectors_in, named_drives, left_out}
use Rattle.volume.specs.meaning.CallContracts.{view_state, is_set, roles_of, seen_in, record_at, pointer_of, flush_verdict, reset_verdict, write_verdict, compact_verdict, format_verdict}
use Rattle.volume.specs.looking.KnowingLaws.{known_in}
use Rattle.tables.specs.laws.Within.{part_long}
use Rattle.volume.specs.laws.PassedRows.{WritePassed, CompactPassed, format_passed, reset_passed, write_passed, compact_passed, flush_passed}
use Rattle.volume.specs.laws.PlacedStores.{AllLong, placed_write, reset_placed, format_placed}
use Rattle.tables.specs.laws.AppendCounts.{NoneVanishes, none_vanishes, appends_to, fits_by_count, appends_present, appends_append, appends_flushes, appends_each}
use Rattle.volume.specs.laws.CallAppends.{in_general, reset_appends, format_appends, data_appends, data_elsewhere, appends_all, entry_long}
use Rattle.volume.specs.meaning.Roles.{Roles, zone_of_role, placed_by, roles_after}
use Rattle.volume.specs.meaning.Emptying.{InForce, by_state, new_general, new_parity, new_general_size, new_parity_size, reserve, reset_limit, write_limit, emptied_for, emptyings, empty_general, empty_parity, compact_stores, write_all, reset_all}
use Rattle.volume.specs.laws.LogPlaces.{role_of_other}
use Rattle.volume.specs.laws.Firm.{role_one_to_one}
use Rattle.volume.specs.laws.LogRoom.{CanEmpty, has_room_lem, emptied_here, log_by_roles, spare_by_roles, data_by_roles, write_has_room, reset_empties, compact_empties}
use Rattle.volume.specs.laws.EmptiedLogs.{new_general_length}
use Rattle.volume.specs.laws.SectorLengths.{LongDevice, tables_long, by_roles_long, known_value_long}
use Rattle.volume.specs.laws.CopyLengths.{new_general_long, new_parity_length, new_parity_long, made_of_known}
use Rattle.volume.specs.laws.EmptyingFits.{roles_firm, after_firm, role_below, emptyings_fit, after_short, after_room, carried_fit, fits_carried}

-- ---- a zone of the tables is never seen longer than C
pub zone_short : (g : Geometry) (t : Tables) (d y : ℕ) → d < g.drives → y < physical_zones g → length (device_of g t d y).sectors ≤ g.capacity
zone_short g t d y hd hy = omega (arith, device_length g t d y hd hy)

-- stores of which those to absent drives are skipped
present_fit : (g : Geometry) (present : ℕ → Bool) (xs : List Store) (v : Device) → AllPlaced g (on_present present xs)
    → ((d y : ℕ) → present d ≡ true → y < physical_zones g → length (v d y).sectors + appends_to d y xs ≤ g.capacity) → FitsAll g (on_present present xs) v
present_fit g present xs v p h = fits_by_count g present (on_present present xs) v p (on_present_on present xs) (λ d y hd hy. omega (arith, appends_present present d y xs, h d y hd hy))

-- the drives of a call are drives of the geometry
pub call_present_below : (g : Geometry) (named : List Bool) (s : State) (d : ℕ) → call_present g (is_set named) (view_state s) d ≡ true → d < g.drives
unfolding call_present
call_present_below g named s d h = ltb-true d g.drives (and_split (ltb d g.drives) _ h).0

named_below : (g : Geometry) (named : ℕ → Bool) (d : ℕ) → named_drives g named d ≡ true → d < g.drives
unfolding named_drives
named_below g named d h = ltb-true d g.drives (and_split (ltb d g.drives) (named d) h).0

all_placed_split : (g : Geometry) (xs ys : List Store) → AllPlaced g (xs ++ ys) → AllPlaced g xs × AllPlaced g ys
all_placed_split g [] ys p = (tt, p)
all_placed_split g (x ∷ xs) ys p = let (a, b) = all_placed_split g xs ys p.1 in ((p.0, a), b)

and_true : (b : Bool) → b && true ≡ b
and_true true = refl
and_true false = refl

-- ==== flush
pub flush_stores_fit : (g : Geometry) (named : List Bool) (s : State) (t : Tables) → flush_verdict g named s t ≡ accept → FitsAll g (flush_stores g (call_present g (is_set named) (view_state s))) (device_of g t)
unfolding flush_stores
flush_stores_fit g named s t e =
    present_fit g (call_present g (is_set named) (view_state s)) (flush_all g.drives) (device_of g t) (placed_present g (call_present g (is_set named) (view_state s)) (flush_all g.drives) (placed_flushes g g.drives (le_refl g.drives)))
    (λ d y hd hy. omega (arith, appends_flushes d y g.drives, zone_short g t d y (call_present_below g named s d hd) hy))

-- ==== reset: general logs that lack room are emptied; then its two headers have their room in them
module _ (g : Geometry) (named : List Bool) (s : State) (z : ℕ) (t : Tables) (e : reset_verdict g named s z t ≡ accept) where
  abbrev drives_of_reset : ℕ → Bool
  drives_of_reset = call_present g (is_set named) (view_state s)

  abbrev headers : List Store
  headers = concat (reset_phases g (view_state s) z)

  abbrev reset_force : InForce
  reset_force = by_state g drives_of_reset (seen_in g t) (view_state s)

  abbrev emptied_by_reset : ℕ → Bool
  emptied_by_reset = emptied_for g drives_of_reset false (roles_of g t) (seen_in g t) (reset_limit g)

  abbrev new_logs : ℕ → List (List ℕ)
  new_logs d = new_general g reset_force (roles_of g t d) d (general_heads g (seen_in g t) d)

  reset_there : (d : ℕ) → emptied_by_reset d ≡ true → (drives_of_reset d ≡ true) × (d < g.drives)
  reset_there d q = let p = emptied_here g drives_of_reset (roles_of g t) (seen_in g t) false (reset_limit g) d q in (p, call_present_below g named s d p)

  reset_can : (d : ℕ) → emptied_by_reset d ≡ true → CanEmpty g false (roles_of g t d) (reset_limit g) (new_general_size g reset_force (general_heads g (seen_in g t) d)) × (length (seen_in g t d spare_zone).sectors ≡ 0)
  reset_can d q = reset_empties g drives_of_reset (roles_of g t) reset_force (seen_in g t) (reset_passed g named s z t e).log_room d (reset_there d q).1 q

  reset_kept : (d : ℕ) → drives_of_reset d ≡ true → emptied_by_reset d ≡ false → length (device_of g t d (roles_of g t d).general).sectors + reset_limit g ≤ g.capacity
  reset_kept d hd q =
      let (there, room) = has_room_lem g drives_of_reset false (roles_of g t) (seen_in g t) (reset_limit g) d (omega arith) hd q in
      let same = ap (λ (x : ZoneView). length x.sectors) (log_by_roles g (device_of g t) d false there) in
      omega (arith, room, same)

  reset_long : (d : ℕ) → emptied_by_reset d ≡ true → AllLong g.sector (new_logs d)
  reset_long d q = new_general_long g reset_force (general_heads g (seen_in g t) d) (roles_of g t d) d (reset_passed g named s z t e).opening.tables.valid

  reset_blank : (d : ℕ) → emptied_by_reset d ≡ true → length (device_of g t d (roles_of g t d).spare).sectors ≡ 0
  reset_blank d q = ap (λ (x : ZoneView). length x.sectors) (sym (spare_by_roles g (device_of g t) d)) ∙ (reset_can d q).1

  -- a new log leaves the limit's room
  pub reset_fits : (d : ℕ) → emptied_by_reset d ≡ true → length (new_logs d) + reset_limit g ≤ g.capacity
  reset_fits d q = omega (arith, (reset_can d q).0.fits, new_general_length g reset_force (roles_of g t d) d (general_heads g (seen_in g t) d))

  short_of_reset : (d y : ℕ) → drives_of_reset d ≡ true → y < physical_zones g → length (device_of g t d y).sectors ≤ g.capacity
  short_of_reset d y hd hy = zone_short g t d y (call_present_below g named s d hd) hy

  abbrev roles_of_reset : ℕ → Roles
  roles_of_reset = roles_after false emptied_by_reset (roles_of g t)

  -- the device by the roles after the emptyings
  abbrev seen_by_reset : Device
  seen_by_reset = through (placed_by roles_of_reset) (apply_all (emptyings g drives_of_reset false (roles_of g t) emptied_by_reset new_logs) (device_of g t))

  reset_room : (d y : ℕ) → drives_of_reset d ≡ true → y < physical_zones g → length (seen_by_reset d y).sectors + appends_to d y headers ≤ g.capacity
  reset_room d y hd hy = go (ℕ_discrete y general_zone) short (reset_appends g (view_state s) z d y)
    where
      short : length (seen_by_reset d y).sectors ≤ g.capacity
      short =
          after_short g drives_of_reset false (roles_of g t) emptied_by_reset new_logs (reset_limit g) (device_of g t) (roles_firm g (device_of g t)) reset_there reset_long reset_blank reset_fits short_of_reset d (zone_of_role (roles_of_reset d) y) hd
          (role_below (roles_of_reset d) y (physical_zones g) (after_firm false emptied_by_reset (roles_of g t) d (roles_firm g (device_of g t) d)) (omega arith) hy)

      go : Dec (y ≡ general_zone) → length (seen_by_reset d y).sectors ≤ g.capacity → appends_to d y headers ≤ in_general y + in_general y → length (seen_by_reset d y).sectors + appends_to d y headers ≤ g.capacity
      go (yes i) short count =
          let c : appends_to d y headers ≤ 1 + 1 = rw (eq-eqb y general_zone i) at count in
          let u = after_room g drives_of_reset false (roles_of g t) emptied_by_reset new_logs (reset_limit g) (device_of g t) (roles_firm g (device_of g t)) reset_there reset_long reset_blank reset_fits short_of_reset d (reset_kept d hd) in
          let l : length (seen_by_reset d y).sectors ≡ length (seen_by_reset d general_zone).sectors = ap (λ (x : ℕ). length (seen_by_reset d x).sectors) i in
          omega (arith, c, u, l)
      go (no n) short count = let c : appends_to d y headers ≤ 0 + 0 = rw (ne_eqb y general_zone n) at count in omega (arith, c, short)

  -- its own stores, before they are carried
  own_reset_fit : FitsAll g (reset_stores g drives_of_reset (view_state s) z) seen_by_reset
  unfolding reset_stores
  own_reset_fit =
      let q = reset_passed g named s z t e in
      let same = each_on_present_lem drives_of_reset (reset_phases g (view_state s) z) in
      rw same (present_fit g drives_of_reset headers seen_by_reset (rw (← same) (reset_placed g q.opening.tables.valid drives_of_reset (view_state s) z q.zone)) reset_room)

  pub reset_stores_fit : FitsAll g (reset_all g drives_of_reset (roles_of g t) (seen_in g t) (view_state s) z) (device_of g t)
  unfolding reset_all empty_general
  reset_stores_fit =
      carried_fit g drives_of_reset false (roles_of g t) emptied_by_reset new_logs (reset_limit g) (device_of g t) (roles_firm g (device_of g t)) reset_there reset_long reset_blank reset_fits short_of_reset
      (reset_stores g drives_of_reset (view_state s) z) own_reset_fit

-- ==== format: after the resets every zone is empty, and the two headers have their room
resets_local : (g : Geometry) (d y : ℕ) → d < g.drives → y < physical_zones g → local_stores d y (each_below (λ k. each_below (λ z. reset k z ∷ []) (physical_zones g)) g.drives) ≡ reset_here ∷ []
resets_local g d y hd hy =
    each_below_own (λ k. each_below (λ z. reset k z ∷ []) (physical_zones g)) d y (λ k n. each_below_unseen (λ z. reset k z ∷ []) d y (λ z. rw (ne_eqb d k n) refl) (physical_zones g)) g.drives hd
    ∙ each_below_at (λ z. reset d z ∷ []) d y y (λ z n. rw (eq-eqb d d refl, ne_eqb y z n) refl) (physical_zones g) hy ∙ rw (eq-eqb d d refl, eq-eqb y y refl) refl

module _ (g : Geometry) (named : List Bool) (array : ℕ) (t : Tables) (e : format_verdict g named t ≡ accept) where
  abbrev drives_of_format : ℕ → Bool
  drives_of_format = named_drives g (is_set named)

  abbrev resets : List Store
  resets = each_below (λ d. each_below (λ y. reset d y ∷ []) (physical_zones g)) g.drives

  abbrev begins : List Store
  begins = each_below (λ d. append_general g (label (left_out g (is_set named)) array) d ++ append_general g (counters (generations_from (λ z. 1) zero g.zones)) d) g.drives

  abbrev rest : List Store
  rest = flush_all g.drives ++ (begins ++ (flush_all g.drives ++ []))

  after_resets : (d y : ℕ) → drives_of_format d ≡ true → y < physical_zones g → apply_all (on_present drives_of_format resets) (device_of g t) d y ≡ blank_zone
  after_resets d y hd hy = local_is d y (on_present drives_of_format resets) (device_of g t) ∙ rw (on_present_local drives_of_format d y resets hd, resets_local g d y (named_below g (is_set named) d hd) hy) refl

  resets_room : (d y : ℕ) → drives_of_format d ≡ true → y < physical_zones g → length (device_of g t d y).sectors + appends_to d y resets ≤ g.capacity
  resets_room d y hd hy =
      let none : (k : ℕ) → appends_to d y (each_below (λ y. reset k y ∷ []) (physical_zones g)) ≤ 0 = λ k. omega (arith, appends_each d y (λ y. reset k y ∷ []) (physical_zones g) 0 (λ z l. le_refl 0)) in
      omega (arith, appends_each d y (λ k. each_below (λ y. reset k y ∷ []) (physical_zones g)) g.drives 0 (λ k l. none k), zone_short g t d y (named_below g (is_set named) d hd) hy)

  rest_room : (d y : ℕ) → drives_of_format d ≡ true → y < physical_zones g → length (apply_all (on_present drives_of_format resets) (device_of g t) d y).sectors + appends_to d y rest ≤ g.capacity
  rest_room d y hd hy = rw (after_resets d y hd hy) (
      omega (arith, few (eqb y general_zone), format_appends g (left_out g (is_set named)) array d y, appends_append d y (flush_all g.drives) (begins ++ (flush_all g.drives ++ [])), appends_append d y begins (flush_all g.drives ++ []), appends_append d y (flush_all g.drives) [], appends_flushes d y g.drives, (format_passed g named t e).valid.general_fits))
    where
      few : (b : Bool) → pick b 1 0 ≤ 1
      few true = le_refl 1
      few false = omega arith

  pub format_stores_fit : FitsAll g (format_stores g drives_of_format (left_out g (is_set named)) array) (device_of g t)
  unfolding format_stores
  format_stores_fit =
      let x = left_out g (is_set named) in
      let same : concat (each_on_present drives_of_format (format_phases g x array)) ≡ on_present drives_of_format resets ++ on_present drives_of_format rest = each_on_present_lem drives_of_format (format_phases g x array) ∙ on_present_append drives_of_format resets rest in
      let placed : AllPlaced g (on_present drives_of_format resets ++ on_present drives_of_format rest) = rw (← same) (format_placed g (format_passed g named t e).valid drives_of_format x array) in
      let (p, q) = all_placed_split g (on_present drives_of_format resets) (on_present drives_of_format rest) placed in
      rw same (fits_append g (on_present drives_of_format resets) (on_present drives_of_format rest) (device_of g t) (present_fit g drives_of_format resets (device_of g t) p resets_room)
      (present_fit g drives_of_format rest (apply_all (on_present drives_of_format resets) (device_of g t)) q rest_room))

-- ==== write: the parity log that gets its entry has room for it; what is appended to the zone is what the later pointer needs
module _ (g : Geometry) (named : List Bool) (s : State) (a : WriteAsked) (t : Tables) (e : write_verdict g named s a t ≡ accept) where
  abbrev drives_of_write : ℕ → Bool
  drives_of_write = call_present g (is_set named) (view_state s)

  abbrev z : ℕ
  z = zone_asked g a

  abbrev k : ℕ
  k = a.count

  abbrev pointer : ℕ
  pointer = pointer_of s z

  abbrev generation : ℕ
  generation = (record_at s z).generation

  abbrev content : ℕ → List ℕ
  content = zone_content g drives_of_write (seen_in g t) (view_state s) z (sectors_in g k a.buffer)

  accepted : WritePassed g named s a t
  accepted = write_passed g named s a t e

  ok : Valid g
  ok = accepted.opening.tables.valid

  -- what is written is sectors of B bytes
  new_long : (b : ℕ) → pointer ≤ b → b < pointer + k → length (content b) ≡ g.sector
  unfolding zone_content sectors_in
  new_long b h l =
      let i = b - pointer in
      let q : suc i ≤ k = omega arith in
      rw (le-ltb b pointer h, get_d_tabulate_from (λ j. take g.sector (drop (j * g.sector) a.buffer)) zero k i q)
      (let e0 : zero + i ≡ i = omega arith in rw e0 (part_long a.buffer (i * g.sector) g.sector (omega (arith, accepted.buffer_long, mul-le-mul_right g.sector q))))

  -- so are the earlier sectors of the first stripe, where they are needed
  sectors_seen : LongDevice g.sector (seen_in g t)
  sectors_seen = by_roles_long g (device_of g t) (tables_long g t accepted.opening.tables.sized)

  old_long : drives_of_write (parity_drive_at g z pointer) ≡ true → (b : ℕ) → stripe_of g.drives g.unit pointer * stripe_sectors g ≤ b → b < pointer → length (content b) ≡ g.sector
  unfolding zone_content gone_before
  old_long here b h l =
      let start = stripe_of g.drives g.unit pointer * stripe_sectors g in
      let some = known_in g drives_of_write (seen_in g t) z generation start (fill_of g pointer) (b - start) (rw here at accepted.known_before) (omega arith) in
      let is : start + (b - start) ≡ b = omega arith in
      rw (lt-ltb b pointer l) (known_value_long g ok drives_of_write (seen_in g t) sectors_seen z generation b (rw is at some))

  -- ---- the device by its roles, as the stores are carried
  abbrev end : ℕ
  end = pointer + k

  abbrev seen_by_write : Device
  seen_by_write = through (placed_by (roles_of g t)) (device_of g t)

  seen_short : (d y : ℕ) → drives_of_write d ≡ true → y < physical_zones g → length (seen_by_write d y).sectors ≤ g.capacity
  seen_short d y hd hy = zone_short g t d (zone_of_role (roles_of g t d) y) (call_present_below g named s d hd) (role_below (roles_of g t d) y (physical_zones g) (roles_firm g (device_of g t) d) (omega arith) hy)

  -- the zone written
  seen_data : (d : ℕ) → length (seen_by_write d (data_zone z)).sectors ≡ length (seen_in g t d (data_zone z)).sectors
  seen_data d =
      ap (λ (y : ℕ). length (device_of g t d y).sectors) (role_of_other (roles_of g t d) (data_zone z) (omega arith))
      ∙ ap (λ (x : ZoneView). length x.sectors) (sym (data_by_roles g (device_of g t) d (data_zone z) (omega arith)))

  -- the parity drive's log has the limit's room
  write_kept : (d : ℕ) → drives_of_write d ≡ true → inside_stripe g end ≡ true → d ≡ parity_drive_at g z end → length (seen_by_write d parity_zone).sectors + write_limit g end ≤ g.capacity
  write_kept d hd i p =
      let q = parity_drive_at g z end in
      let here : drives_of_write q ≡ true = rw p at hd in
      let (share, there, room) = write_has_room g drives_of_write (roles_of g t) (seen_in g t) (share_left g (view_state s) a.host z end) z end accepted.log_room i here in
      let same = ap (λ (x : ZoneView). length x.sectors) (log_by_roles g (device_of g t) q true there) in
      let l : length (seen_by_write d parity_zone).sectors ≡ length (seen_by_write q parity_zone).sectors = ap (λ (x : ℕ). length (seen_by_write x parity_zone).sectors) p in
      omega (arith, room, same, l)

  abbrev stores : List Store
  stores = write_with g z generation content pointer k

  h_d : 1 < g.drives
  h_d = omega (arith, ok.drives_least)

  -- the appends to each zone
  entry_appends : (d y : ℕ) → appends_to d y (pick (inside_stripe g (pointer + k)) (entry_stores g z generation content (pointer + k)) []) ≡ pick (inside_stripe g (pointer + k)) (pick (eqb d (parity_drive_at g z (pointer + k)) && eqb y parity_zone) (suc (min (fill_of g (pointer + k)) g.unit)) 0) 0
  entry_appends d y = go (inside_stripe g (pointer + k))
    where
      p : ℕ
      p = parity_drive_at g z (pointer + k)

      go : (b : Bool) → appends_to d y (pick b (entry_stores g z generation content (pointer + k)) []) ≡ pick b (pick (eqb d (parity_drive_at g z (pointer + k)) && eqb y parity_zone) (suc (min (fill_of g (pointer + k)) g.unit)) 0) 0
      go true = appends_all d y p parity_zone (sectors_of g p true (entry_at g z generation content (pointer + k))) ∙ rw (entry_long g p z generation content (pointer + k)) refl
      go false = refl

  -- and so room for the entry
  entry_room : (d : ℕ) → drives_of_write d ≡ true → length (seen_by_write d parity_zone).sectors + pick (inside_stripe g (pointer + k)) (pick (eqb d (parity_drive_at g z (pointer + k))) (suc (min (fill_of g (pointer + k)) g.unit)) 0) 0 ≤ g.capacity
  entry_room d hd = go (inside_stripe g end) refl (ℕ_discrete d (parity_drive_at g z end)) (seen_short d parity_zone hd (omega arith))
    where
      go : (b : Bool) → inside_stripe g end ≡ b → Dec (d ≡ parity_drive_at g z (pointer + k)) → length (seen_by_write d parity_zone).sectors ≤ g.capacity
          → length (seen_by_write d parity_zone).sectors + pick b (pick (eqb d (parity_drive_at g z (pointer + k))) (suc (min (fill_of g (pointer + k)) g.unit)) 0) 0 ≤ g.capacity
      go true h (yes i) short =
          let u = write_kept d hd h i in
          rw (eq-eqb d (parity_drive_at g z (pointer + k)) i) (omega (arith, u))
      go true h (no i) short = rw (ne_eqb d (parity_drive_at g z (pointer + k)) i) (omega (arith, short))
      go false h i short = omega (arith, short)

  write_room : (d y : ℕ) → drives_of_write d ≡ true → y < physical_zones g → length (seen_by_write d y).sectors + appends_to d y stores ≤ g.capacity
  unfolding write_with
  write_room d y hd hy = go (ℕ_discrete y (data_zone z)) (ℕ_discrete y parity_zone)
    where
      below : d < g.drives
      below = call_present_below g named s d hd

      data_part : List Store
      data_part = data_stores g.drives g.unit z content pointer k

      entry_part : List Store
      entry_part = pick (inside_stripe g (pointer + k)) (entry_stores g z generation content (pointer + k)) []

      split : appends_to d y stores ≡ appends_to d y data_part + appends_to d y entry_part
      split = appends_append d y data_part entry_part

      entry_none : y ≢ parity_zone → appends_to d y entry_part ≡ 0
      entry_none n = entry_appends d y ∙ rw (ne_eqb y parity_zone n) (none (inside_stripe g (pointer + k)) (eqb d (parity_drive_at g z (pointer + k))))
        where
          none : (b c : Bool) → pick b (pick (c && false) (suc (min (fill_of g (pointer + k)) g.unit)) 0) 0 ≡ 0
          none true true = refl
          none true false = refl
          none false c = refl

      go : Dec (y ≡ data_zone z) → Dec (y ≡ parity_zone) → length (seen_by_write d y).sectors + appends_to d y stores ≤ g.capacity
      go (yes i) j =
          let q : appends_to d y data_part ≡ appends_to d (data_zone z) data_part = ap (λ (x : ℕ). appends_to d x data_part) i in
          let l : length (seen_by_write d y).sectors ≡ length (seen_by_write d (data_zone z)).sectors = ap (λ (x : ℕ). length (seen_by_write d x).sectors) i in
          omega (arith, split, q, l, seen_data d, entry_none (omega (arith, i)), data_appends g.drives g.unit z h_d ok.unit_least content pointer k d below, accepted.written_is d below hd, needed_fits g ok z (pointer + k) d accepted.inside)
      go (no i) (yes j) =
          let c : appends_to d y entry_part ≡ pick (inside_stripe g (pointer + k)) (pick (eqb d (parity_drive_at g z (pointer + k))) (suc (min (fill_of g (pointer + k)) g.unit)) 0) 0 = entry_appends d y ∙ rw (eq-eqb y parity_zone j, and_true (eqb d (parity_drive_at g z (pointer + k)))) refl in
          let l : length (seen_by_write d y).sectors ≡ length (seen_by_write d parity_zone).sectors = ap (λ (x : ℕ). length (seen_by_write d x).sectors) j in
          omega (arith, split, c, l, data_elsewhere g.drives g.unit z h_d ok.unit_least content pointer k d y i, entry_room d hd)
      go (no i) (no j) = omega (arith, split, entry_none j, data_elsewhere g.drives g.unit z h_d ok.unit_least content pointer k d y i, seen_short d y hd hy)

  length_in : length (sectors_in g k a.buffer) ≡ k
  unfolding sectors_in
  length_in = length_tabulate_from (λ i. take g.sector (drop (i * g.sector) a.buffer)) zero k

  -- its own stores, before they are carried
  own_write_fit : FitsAll g (write_stores g drives_of_write (seen_in g t) (view_state s) z (sectors_in g k a.buffer)) seen_by_write
  unfolding write_stores
  own_write_fit = rw length_in (present_fit g drives_of_write stores seen_by_write (placed_write g ok drives_of_write z accepted.zone content pointer k new_long old_long generation) write_room)

  pub write_stores_fit : FitsAll g (write_all g drives_of_write (roles_of g t) (seen_in g t) (view_state s) z (sectors_in g k a.buffer)) (device_of g t)
  unfolding write_all
  write_stores_fit =
      let own = write_stores g drives_of_write (seen_in g t) (view_state s) z (sectors_in g k a.buffer) in
      fits_carried g (placed_by (roles_of g t)) own (device_of g t) (λ d. role_one_to_one (roles_of g t d) (roles_firm g (device_of g t) d)) (λ d y h. role_below (roles_of g t d) y (physical_zones g) (roles_firm g (device_of g t) d) (omega arith) h) own_write_fit

-- ==== compact: the new log fits in the blank spare
module _ (g : Geometry) (named : List Bool) (s : State) (d : ℕ) (t : Tables) (e : compact_verdict g named s d t ≡ accept) where
  abbrev drives_of_compact : ℕ → Bool
  drives_of_compact = call_present g (is_set named) (view_state s)

  abbrev compact_force : InForce
  compact_force = by_state g drives_of_compact (seen_in g t) (view_state s)

  abbrev new_parity_logs : ℕ → List (List ℕ)
  new_parity_logs c = new_parity g compact_force (roles_of g t c) c (parity_entries g (seen_in g t) c)

  compacts : CompactPassed g named s d t
  compacts = compact_passed g named s d t e

  valid : Valid g
  valid = compacts.opening.tables.valid

  compact_can : CanEmpty g true (roles_of g t d) (reserve g) (new_parity_size g compact_force d) × (length (seen_in g t d spare_zone).sectors ≡ 0)
  compact_can = compact_empties g (roles_of g t) compact_force (seen_in g t) d valid.unit_least compacts.log_room

  long_seen : LongDevice g.sector (seen_in g t)
  long_seen = by_roles_long g (device_of g t) (tables_long g t compacts.opening.tables.sized)

  -- the new log leaves the reserve
  pub compact_fits : length (new_parity_logs d) + reserve g ≤ g.capacity
  compact_fits = omega (arith, compact_can.0.fits, new_parity_length g valid compact_force (seen_in g t) d (long_seen d parity_zone) (roles_of g t d))

  pub compact_stores_fit : FitsAll g (compact_stores g drives_of_compact (roles_of g t) (seen_in g t) (view_state s) d) (device_of g t)
  unfolding compact_stores empty_parity
  compact_stores_fit =
      emptyings_fit g drives_of_compact true (roles_of g t) (λ c. eqb c d) new_parity_logs (reserve g) (device_of g t) (roles_firm g (device_of g t)) (λ c q. rw (eqb-true c d q) (compacts.here, call_present_below g named s d compacts.here))
      (λ c q. rw (eqb-true c d q) (new_parity_long g valid compact_force (seen_in g t) d (long_seen d parity_zone) (roles_of g t d) (made_of_known g valid drives_of_compact (seen_in g t) long_seen (view_state s) d compacts.known_copies)))
      (λ c q. rw (eqb-true c d q) (ap (λ (x : ZoneView). length x.sectors) (sym (spare_by_roles g (device_of g t) d)) ∙ compact_can.1)) (λ c q. rw (eqb-true c d q) compact_fits) (λ c y hd hy. zone_short g t c y (call_present_below g named s c hd) hy)

-- ==== ON THE TABLES: no append of an accepted call finds its zone full
module _ (g : Geometry) (named : List Bool) (t : Tables) where
  pub format_none_vanishes : (array : ℕ) → format_verdict g named t ≡ accept → NoneVanishes g (format_stores g (named_drives g (is_set named)) (left_out g (is_set named)) array) t
  format_none_vanishes array e = none_vanishes g (format_stores g (named_drives g (is_set named)) (left_out g (is_set named)) array) t (format_passed g named t e).sized (format_stores_fit g named array t e)

  module _ (s : State) where
    abbrev drives_of : ℕ → Bool
    drives_of = call_present g (is_set named) (view_state s)

    pub flush_none_vanishes : flush_verdict g named s t ≡ accept → NoneVanishes g (flush_stores g drives_of) t
    flush_none_vanishes e = none_vanishes g (flush_stores g drives_of) t (flush_passed g named s t e).tables.sized (flush_stores_fit g named s t e)

    pub reset_none_vanishes : (z : ℕ) → reset_verdict g named s z t ≡ accept → NoneVanishes g (reset_all g drives_of (roles_of g t) (seen_in g t) (view_state s) z) t
    reset_none_vanishes z e = none_vanishes g (reset_all g drives_of (roles_of g t) (seen_in g t) (view_state s) z) t (reset_passed g named s z t e).opening.tables.sized (reset_stores_fit g named s z t e)

    pub write_none_vanishes : (a : WriteAsked) → write_verdict g named s a t ≡ accept → NoneVanishes g (write_all g drives_of (roles_of g t) (seen_in g t) (view_state s) (zone_asked g a) (sectors_in g a.count a.buffer)) t
    write_none_vanishes a e =
        none_vanishes g (write_all g drives_of (roles_of g t) (seen_in g t) (view_state s) (zone_asked g a) (sectors_in g a.count a.buffer)) t (write_passed g named s a t e).opening.tables.sized (write_stores_fit g named s a t e)

    pub compact_none_vanishes : (d : ℕ) → compact_verdict g named s d t ≡ accept → NoneVanishes g (compact_stores g drives_of (roles_of g t) (seen_in g t) (view_state s) d) t
    compact_none_vanishes d e = none_vanishes g (compact_stores g drives_of (roles_of g t) (seen_in g t) (view_state s) d) t (compact_passed g named s d t e).opening.tables.sized (compact_stores_fit g named s d t e)
