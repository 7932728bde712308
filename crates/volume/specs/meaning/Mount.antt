-- A mount: "flushes all present drives and takes a look. It then stores, by that look, drive by drive and zones ascending in each, with a
-- flush of all present drives after each step that stored". Document 02: "After its look, mount first resets the zone that is neither log, where
-- it has sectors written, then empties general logs; parity logs it empties just before its last step, with all missing sectors stored". Eleven
-- steps, and why they stand in this order. A power cut may fall between any two stores, and the next look must still fit. Spares are cleared
-- so that logs can be emptied; general logs are emptied before the steps that append to them. Of document 01's own steps labels come
-- first: from then on a drive that is lost has no say. The reset entries are
-- stored again, on both their drives, before the zones' data goes: else one more lost drive would bring the rest of the zone back. Data
-- goes before the counters are raised, for raised counters end the reset entries. Seals come before torn entries are completed: zeros in
-- an entry are harmless once the entry ends past a seal on every drive. Data is filled in before parity logs are emptied, which then need
-- no older entry, and before the entries at the pointers, which are made of it.
-- (w: the device after the first flush, by its roles; k: the look there; x: the lost drive, or no_drive.)
use Rattle.std.specs.Prelude.{Bool, true, false, ◌&&◌, ◌||◌, not, ℕ, zero, suc, ◌+◌, ◌-◌, ◌*◌, min, List, [], ◌∷◌, ◌++◌, map, length, replicate, ltb, leb, eqb}
use Rattle.tables.specs.meaning.Device.{Device, Store, reset, flush, apply_all}
use Rattle.tables.specs.meaning.Basics.{pick}
use Rattle.tables.specs.meaning.Below.{each_below, any_below, tabulate_from}
use Rattle.tables.specs.meaning.Lists.{any_of, is_nil, concat}
use Rattle.tables.specs.meaning.Placement.{needed}
use Rattle.tables.specs.meaning.Phases.{flush_all, on_present}
use Rattle.tables.specs.meaning.Through.{through, carry}
use Rattle.tables.specs.declared.Geometry.{Geometry}
use Rattle.tables.specs.meaning.Geometry.{stripe_sectors, data_zone}
use Rattle.logs.specs.meaning.Entry.{parity_zone, spare_zone, label, counters, zone_reset, partial_parity, seal, closing, Entry}
use Rattle.tables.specs.meaning.Drives.{no_drive}
use Rattle.tables.specs.meaning.LittleEndian.{same_bytes}
use Rattle.logs.specs.meaning.Walk.{Ending, at_pointer, no_entry, torn, sectors_of}
use Rattle.volume.specs.meaning.Calls.{append_all, generations_from, append_general, logs_reset}
use Rattle.volume.specs.meaning.Content.{content_at, row_xor_below, inside_stripe, entry_at, parity_drive_at}
use Rattle.logs.specs.meaning.Heads.{last_lost, last_counters, is_seal_at, ends_at}
use Rattle.volume.specs.declared.Owner.TheVariants.{Nobody}
use Rattle.volume.specs.meaning.State.{is_empty, is_sealed, is_worn, StateView, with_shares}
use Rattle.volume.specs.meaning.Rules.{Shown, ZoneShown, showing, general_heads, parity_entries, parity_ending}
use Rattle.volume.specs.meaning.Roles.{Roles, roles, by_roles, placed_by, roles_after}
use Rattle.volume.specs.meaning.Emptying.{by_look, spare_written, reserve, mount_general_limit, emptied_for, empty_general, empty_parity}
use Rattle.volume.specs.meaning.Hosts.{shares_in}

-- 1. the spare's reset on each drive where it has sectors written
unfoldable pub spare_step : Geometry → Device → List Store
spare_step g w = each_below (λ d. pick (spare_written w d) (reset d spare_zone ∷ []) []) g.drives

-- 2. the emptying of general logs that lack room (empty_general)

-- 3. a new label on each present drive whose last does not name the lost one (x); stored only where a drive is lost
unfoldable pub label_step : Geometry → ℕ → Shown → Device → List Store
label_step g x k w = each_below (λ d. pick (ltb x g.drives && not (eqb (last_lost no_drive (general_heads g w d)) x)) (append_general g (label x k.array) d) []) g.drives

-- 4. type 3 again on both its drives for each zone emptied by rule 3
unfoldable pub reset_entry_step : Geometry → Shown → List Store
reset_entry_step g k = each_below (λ d. each_below (λ z. pick ((k.zone z).by_reset && logs_reset g z d) (append_general g (zone_reset z (k.zone z).generation) d) []) g.zones) g.drives

-- 5. resets of those zones and of unclean ones with pointer 0, worn zones excepted
abbrev pub needs_reset : ZoneShown → Bool
needs_reset s = not (is_worn s.condition) && (s.by_reset || (not s.clean && eqb s.pointer 0))

unfoldable pub zone_reset_step : Geometry → Shown → List Store
zone_reset_step g k = each_below (λ d. each_below (λ z. pick (needs_reset (k.zone z)) (reset d (data_zone z) ∷ []) []) g.zones) g.drives

-- 6. counters, every empty zone's raised by 1
abbrev pub next_generation : Shown → ℕ → ℕ
next_generation k z = pick (is_empty (k.zone z).condition) (suc (k.zone z).generation) (k.zone z).generation

unfoldable pub counters_differ : Geometry → (ℕ → Bool) → Device → Bool
counters_differ g present w = any_below (λ d. present d && any_below (λ e. present e && not (same_bytes (last_counters [] (general_heads g w d)) (last_counters [] (general_heads g w e)))) g.drives) g.drives

-- (differ: whether the last counters of the present drives differed at the look)
unfoldable pub counter_step : Geometry → Shown → Bool → List Store
counter_step g k differ = pick (any_below (λ z. is_empty (k.zone z).condition) g.zones || differ) (each_below (λ d. append_general g (counters (generations_from (next_generation k) zero g.zones)) d) g.drives) []

-- 7. the seal at its pointer of each zone shown sealed, on each drive lacking it
unfoldable pub seal_step : Geometry → Shown → Device → List Store
seal_step g k w =
    each_below (λ d. each_below (λ z. pick (is_sealed (k.zone z).condition && not (any_of (is_seal_at z (k.zone z).generation (k.zone z).pointer) (general_heads g w d))) (append_general g (seal z (k.zone z).pointer (k.zone z).generation) d) []) g.zones) g.drives

-- 8. rows missing from a torn entry: the true rows if it is current and ends at or below the pointer, else zeros
abbrev pub row_for : Geometry → ZoneShown → ℕ → ℕ → ℕ → ℕ → List ℕ
row_for g s i f n r = pick (eqb n s.generation && leb (i * stripe_sectors g + f) s.pointer) (row_xor_below g.drives g.unit s.value i (i * stripe_sectors g + f) r) (replicate g.sector 0)

abbrev pub missing_rows : Geometry → Shown → Ending → List (List ℕ)
missing_rows g k at_pointer = []
missing_rows g k (no_entry f) = []
missing_rows g k (torn (label x a) rs) = []
missing_rows g k (torn (counters cs) rs) = []
missing_rows g k (torn (zone_reset z n) rs) = []
missing_rows g k (torn (partial_parity z s f n) rs) = tabulate_from (row_for g (k.zone z) s f n) (length rs) (min f g.unit - length rs)
missing_rows g k (torn (seal z p n) rs) = []
missing_rows g k (torn (closing kind gen) rs) = []

unfoldable pub torn_row_step : Geometry → Shown → Device → List Store
torn_row_step g k w = each_below (λ d. append_all d parity_zone (missing_rows g k (parity_ending g w d))) g.drives

-- 9. sectors missing below the pointer, and parity of complete stripes
unfoldable pub fill_step : Geometry → Shown → Device → List Store
fill_step g k w =
    each_below (λ d. each_below (λ z. append_all d (data_zone z) (tabulate_from (content_at g.drives g.unit z (k.zone z).value d) (length (w d (data_zone z)).sectors) (needed g.drives g.unit z (k.zone z).pointer d - length (w d (data_zone z)).sectors))) g.zones) g.drives

-- 10. the emptying of parity logs that lacked room at the start, as they stand by then (empty_parity)

-- 11. a type 4 entry at each pointer inside a stripe that by then (the device u) has no whole current one ending there
unfoldable pub entry_step : Geometry → Shown → Device → List Store
entry_step g k u =
    each_below (λ d. each_below (λ z. pick (inside_stripe g (k.zone z).pointer && (eqb d (parity_drive_at g z (k.zone z).pointer) && not (any_of (λ (e : Entry). ends_at g z (k.zone z).generation (k.zone z).pointer e.head) (parity_entries g u d))))
    (append_all d parity_zone (sectors_of g d true (entry_at g z (k.zone z).generation (k.zone z).value (k.zone z).pointer))) []) g.zones) g.drives

-- a step on the present drives, and the flush if it stored
abbrev pub with_flush : Geometry → (ℕ → Bool) → List Store → List (List Store)
with_flush g present xs = on_present present xs ∷ pick (is_nil (on_present present xs)) [] (on_present present (flush_all g.drives)) ∷ []

abbrev pub with_flushes : Geometry → (ℕ → Bool) → List (List Store) → List (List Store)
with_flushes g present [] = []
with_flushes g present (xs ∷ steps) = with_flush g present xs ++ with_flushes g present steps

-- steps 3 to 9
abbrev pub steps_before_entries : Geometry → (ℕ → Bool) → ℕ → Shown → Device → List (List Store)
steps_before_entries g present x k w =
    label_step g x k w ∷ reset_entry_step g k ∷ zone_reset_step g k ∷ counter_step g k (counters_differ g present w)
    ∷ seal_step g k w ∷ torn_row_step g k w ∷ fill_step g k w ∷ []

-- phases, carried to other zones
abbrev pub carry_phases : (ℕ → ℕ → ℕ) → List (List Store) → List (List Store)
carry_phases ρ [] = []
carry_phases ρ (xs ∷ ps) = map (carry ρ) xs ∷ carry_phases ρ ps

-- ==== the mount of a device v (physical zones). Its look, the drives' roles and which logs lack room are those at its start.
unfoldable pub after_opening : Geometry → (ℕ → Bool) → Device → Device
after_opening g present v = apply_all (on_present present (flush_all g.drives)) v

module _ (g : Geometry) (present : ℕ → Bool) (x : ℕ) (v : Device) where
  abbrev pub mount_view : Device
  mount_view = by_roles g (after_opening g present v)

  unfoldable pub mount_look : Shown
  mount_look = showing g present x mount_view

  abbrev pub start_roles : ℕ → Roles
  start_roles = roles g (after_opening g present v)

  abbrev pub emptied_general : ℕ → Bool
  emptied_general = emptied_for g present false start_roles mount_view (mount_general_limit g)

  abbrev pub emptied_parity : ℕ → Bool
  emptied_parity = emptied_for g present true start_roles mount_view (reserve g)

  -- the roles once the general logs are emptied, and once the parity logs are
  abbrev pub middle_roles : ℕ → Roles
  middle_roles = roles_after false emptied_general start_roles

  abbrev pub end_roles : ℕ → Roles
  end_roles = roles_after true emptied_parity middle_roles

  -- the first flush; steps 1 and 2; steps 3 to 9
  unfoldable pub phases_of_logs : List (List Store)
  phases_of_logs =
      on_present present (flush_all g.drives)
      ∷ (with_flush g present (map (carry (placed_by start_roles)) (spare_step g mount_view))
      ++ with_flush g present (empty_general g present start_roles (by_look mount_look) emptied_general mount_view))

  unfoldable pub phases_before_entries : List (List Store)
  phases_before_entries = phases_of_logs ++ carry_phases (placed_by middle_roles) (with_flushes g present (steps_before_entries g present x mount_look mount_view))

  -- step 10, by what the device has become (u)
  unfoldable pub phases_of_parity_logs : Device → List (List Store)
  phases_of_parity_logs u = with_flush g present (empty_parity g present middle_roles (by_look mount_look) emptied_parity (through (placed_by middle_roles) u))

  -- step 11, the same
  unfoldable pub phases_of_entries : Device → List (List Store)
  phases_of_entries u = carry_phases (placed_by end_roles) (with_flush g present (entry_step g mount_look (through (placed_by end_roles) u)))

  -- all of them, and the device after each part
  abbrev pub after_fill : Device
  after_fill = apply_all (concat phases_before_entries) v

  abbrev pub after_parity_logs : Device
  after_parity_logs = apply_all (concat (phases_of_parity_logs after_fill)) after_fill

  unfoldable pub mount_stores : List Store
  mount_stores = concat phases_before_entries ++ (concat (phases_of_parity_logs after_fill) ++ concat (phases_of_entries after_parity_logs))

  -- it shows what a look shows after its last store
  unfoldable pub mount_shows : Shown
  mount_shows = showing g present x (by_roles g (apply_all mount_stores v))

-- ==== the state that hands on what is shown, with no owners; and with the shares of the present drives, by the logs there (v: the device that shows it)
abbrev pub mount_state : Shown → StateView
mount_state k = record { lost = k.lost; generation = λ z. (k.zone z).generation; condition = λ z. (k.zone z).condition; owner = λ z. Nobody; share = λ i. 0 }

abbrev pub shown_state : Geometry → (ℕ → Bool) → ℕ → Device → StateView
shown_state g present x v = with_shares (shares_in g present v) (mount_state (showing g present x (by_roles g v)))
