-- A look on the tables: what it shows as the code's record, the state that it leaves, and its answer on any input.
use Rattle.std.specs.Prelude.{◌≡◌, ◌≢◌, Bool, true, false, ◌&&◌, ◌||◌, List, [], ◌∷◌, ◌++◌, length, get_or, take, replicate, eqb}
use Rattle.std.proofs.Math.Path.{refl, ap, fun_ext}
use Rattle.std.proofs.Common.{sym, ◌∙◌, arith, length-take-le}
use Rattle.std.proofs.Math.Bool.{not}
use Prim.Native.Nat.{ℕ, zero, suc, ◌-◌, ◌≤◌, ◌<◌}
use Rattle.std.proofs.Math.Decide.{ℕ_discrete}
use Rattle.std.proofs.Math.Dec.{ltb}
use borrow.Author.Tests.{eq-eqb, ne_eqb, lt-ltb, le-ltb, ltb-true}
use Rattle.tables.specs.declared.Geometry.{Geometry}
use Rattle.tables.specs.meaning.Basics.{pick}
use Rattle.tables.specs.laws.Sizes.{cells_small}
use Rattle.tables.specs.laws.Basics.{and_split, not_true, or_none, not_not}
use Rattle.tables.specs.meaning.Below.{count_below, tabulate, any_below}
use Rattle.tables.specs.laws.Below.{tabulate_cong, none_any_below}
use Rattle.tables.specs.meaning.Drives.{find_below}
use Rattle.tables.specs.meaning.Geometry.{Valid, physical_zones, cells, total_bytes, max_zones}
use Rattle.tables.specs.meaning.GeometryTest.{is_valid}
use Rattle.tables.specs.laws.GeometryTest.{valid_if_test, first_if_test}
use Rattle.tables.specs.meaning.Device.{Device, ZoneView, blank_zone}
use Rattle.tables.specs.meaning.Tables.{tables_of, cell, zone_at_cell, device_of, lengths_fit, pointers_bad}
use Rattle.tables.specs.laws.TablesFrame.{lengths_are, pointers_good}
use Rattle.tables.specs.laws.Tables.{device_pointer, device_durable}
use Rattle.volume.specs.meaning.Refusals.{first_bad_place, drive_bad_place, bad_pointers, first_refusal, look_rows, two_lost, bad_labels, kind_lacks, bad_logs}
use Rattle.volume.specs.declared.Owner.TheVariants.{Nobody}
use Rattle.volume.specs.declared.ZoneRecord.{ZoneRecord}
use Rattle.volume.specs.declared.State.{State}
use Rattle.volume.specs.declared.ZoneLook.{ZoneLook}
use Rattle.volume.specs.declared.Look.{Look}
use Rattle.volume.specs.declared.Outcome.{Outcome}
use Rattle.volume.specs.declared.Answer.{Answer}
use Rattle.volume.specs.meaning.Answers.{refused_at}
use Rattle.volume.specs.laws.BadPlaces.{refused_plain}
use Rattle.volume.specs.declared.Answer.TheVariants.{Refused}
use Rattle.logs.specs.meaning.Heads.{array_in, least_seal}
use Rattle.volume.specs.meaning.Rules.{seal_limit_below, serving_entries, View, value_of, Shown, ZoneShown, showing, is_lost, is_present, lost_drive, general_heads, general_ending, parity_entries, parity_ending, generation_of, reset_seen, seal_seen, seal_limit, view_of, zone_view, value_at, pointer_at, clean_at, zone_at, zone_shown}
use Rattle.volume.specs.meaning.State.{max_shares, with_shares}
use Rattle.volume.specs.meaning.Mount.{mount_state}
use Rattle.volume.specs.meaning.CallContracts.{bad_place_on, blank_record, is_set, verdict_number, lengths_of, roles_of, seen_in, zone_look_of, look_verdict, look_on, record_seen, records_below, state_held}
use Rattle.volume.specs.meaning.Roles.{Roles}
use Rattle.volume.specs.declared.roles.LogPlaces.{LogPlaces}
use Rattle.volume.specs.looking.Knowing.{Readable, read_device}
use Rattle.volume.specs.looking.SeenByRoles.{kind_lacks_on}
use Rattle.volume.specs.laws.FilledArrays.{fill_at}
use Rattle.volume.specs.checks.Records.{blank_look}

-- ---- what is shown, as the code's record; zones past the last are blank
unfoldable pub looks_from : Geometry → (ℕ → ZoneShown) → List ZoneLook
looks_from g f = tabulate (λ z. zone_look_of (f z)) g.zones ++ replicate (max_zones - g.zones) blank_look

abbrev pub look_of : Geometry → Shown → Look
look_of g k = record { lost = k.lost; array = k.array; zones = looks_from g k.zone }

-- and the records of the state that it leaves
abbrev pub record_of : ZoneLook → ZoneRecord
record_of s = record { generation = s.generation; condition = s.condition; owner = Nobody }

abbrev pub records_of : Geometry → List ZoneLook → List ZoneRecord
records_of g ls = records_below (λ z. record_of (get_or ls z blank_look)) g.zones

-- (share: the hosts' shares)
pub state_of_look : (g : Geometry) (k : Shown) (share : ℕ → ℕ)
    → ◌≡◌ {A = State} (record { lost = k.lost; zones = records_of g (looks_from g k.zone); shares = tabulate share max_shares }) (state_held g.zones (with_shares share (mount_state k)))
unfolding looks_from records_below
state_of_look g k share = ap (λ (rs : List ZoneRecord). record { lost = k.lost; zones = rs ++ replicate (max_zones - g.zones) blank_record; shares = tabulate share max_shares })
    (tabulate_cong (λ z. record_of (get_or (looks_from g k.zone) z blank_look)) (record_seen (mount_state k)) g.zones (λ z h. ap record_of (fill_at (λ z. zone_look_of (k.zone z)) blank_look blank_look g.zones (max_zones - g.zones) z h)))

-- ---- no rule of a look reads a durable pointer
abbrev pub sectors_only : Device → Device
sectors_only v d z = record { sectors = (v d z).sectors; durable = 0 }

same_sectors_lem : (g : Geometry) (xs ws ds : List ℕ) → sectors_only (device_of g (tables_of xs ws ds)) ≡ sectors_only (read_device g xs ws)
unfolding device_of zone_at_cell
same_sectors_lem g xs ws ds = fun_ext λ d. fun_ext λ z. go d z (ltb d g.drives && ltb z (physical_zones g))
  where
    go : (d z : ℕ) (b : Bool) → ◌≡◌ {A = ZoneView} (record { sectors = (pick b (zone_at_cell g (tables_of xs ws ds) (cell g d z)) blank_zone).sectors; durable = 0 }) (record { sectors = (pick b (zone_at_cell g (tables_of xs ws []) (cell g d z)) blank_zone).sectors; durable = 0 })
    go d z true = refl
    go d z false = refl

module _ (g : Geometry) (named : ℕ → Bool) where
  present_sectors : (v : Device) → is_present g named v ≡ is_present g named (sectors_only v)
  unfolding is_present is_lost general_heads
  present_sectors v = refl

  lost_sectors : (v : Device) → is_lost g named v ≡ is_lost g named (sectors_only v)
  unfolding is_lost general_heads
  lost_sectors v = refl

  labels_sectors : (v : Device) → bad_labels g named v ≡ bad_labels g named (sectors_only v)
  unfolding bad_labels general_heads
  labels_sectors v = refl

  logs_sectors : (v : Device) → bad_logs g named v ≡ bad_logs g named (sectors_only v)
  unfolding bad_logs general_ending parity_ending
  logs_sectors v = refl

  bad_place_sectors : (placed : ℕ → ℕ → ℕ) (v : Device) → first_bad_place g named placed v ≡ first_bad_place g named placed (sectors_only v)
  unfolding first_bad_place drive_bad_place
  bad_place_sectors placed v = refl

  generation_sectors : (v : Device) (z : ℕ) → generation_of g named v z ≡ generation_of g named (sectors_only v) z
  unfolding generation_of general_heads
  generation_sectors v z = refl

  reset_sectors : (v : Device) (z n : ℕ) → reset_seen g named v z n ≡ reset_seen g named (sectors_only v) z n
  unfolding reset_seen general_heads
  reset_sectors v z n = refl

  seal_sectors : (v : Device) (z n : ℕ) → seal_seen g named v z n ≡ seal_seen g named (sectors_only v) z n
  unfolding seal_seen general_heads
  seal_sectors v z n = refl

  clean_sectors : (v : Device) (z n q : ℕ) → clean_at g named v z n q ≡ clean_at g named (sectors_only v) z n q
  unfolding clean_at parity_entries parity_ending
  clean_sectors v z n q = refl

  limit_below : (v : Device) (z n d : ℕ) → seal_limit_below g named v z n d ≡ seal_limit_below g named (sectors_only v) z n d
  unfolding general_heads
  limit_below v z n zero = refl
  limit_below v z n (suc d) = ap (λ (x : ℕ). pick (named d) (least_seal z n x (general_heads g v d)) x) (limit_below v z n d)

  limit_sectors : (v : Device) (z n : ℕ) → seal_limit g named v z n ≡ seal_limit g named (sectors_only v) z n
  unfolding seal_limit
  limit_sectors v z n = limit_below v z n g.drives

  view_sectors : (v : Device) (z n : ℕ) → zone_view g named v z n ≡ zone_view g named (sectors_only v) z n
  unfolding zone_view view_of parity_entries
  view_sectors v z n = ap (λ (x : ℕ). view_of z named v (λ d. serving_entries g z n x (parity_entries g v d))) (limit_sectors v z n)

  pointer_sectors : (v : Device) (z n : ℕ) → pointer_at g named v z n ≡ pointer_at g named (sectors_only v) z n
  unfolding pointer_at
  pointer_sectors v z n = rw (reset_sectors v z n, view_sectors v z n, limit_sectors v z n) refl

  value_sectors : (v : Device) (z n a : ℕ) → value_at g named v z n a ≡ value_at g named (sectors_only v) z n a
  unfolding value_at
  value_sectors v z n a = ap (λ (w : View). value_of g.drives g.unit z w a) (view_sectors v z n)

  zone_at_sectors : (v : Device) (z n : ℕ) → zone_at g named v z n ≡ zone_at g named (sectors_only v) z n
  unfolding zone_at
  zone_at_sectors v z n =
      let w : value_at g named v z n ≡ value_at g named (sectors_only v) z n = fun_ext (value_sectors v z n) in
      rw (pointer_sectors v z n, w, reset_sectors v z n, seal_sectors v z n, clean_sectors v z n (pointer_at g named (sectors_only v) z n)) refl

  zone_shown_sectors : (v : Device) (z : ℕ) → zone_shown g named v z ≡ zone_shown g named (sectors_only v) z
  unfolding zone_shown
  zone_shown_sectors v z = ap (zone_at g named v z) (generation_sectors v z) ∙ zone_at_sectors v z (generation_of g named (sectors_only v) z)

  pub shown_sectors : (x : ℕ) (v : Device) → showing g named x v ≡ showing g named x (sectors_only v)
  unfolding showing general_heads
  shown_sectors x v = ap (λ (f : ℕ → ZoneShown). record { lost = x; array = array_in (general_heads g v (find_below named g.drives)); zone = f }) (fun_ext (zone_shown_sectors v))

module _ (g : Geometry) (xs ws ds : List ℕ) where
  pub present_read : (named : ℕ → Bool) → is_present g named (device_of g (tables_of xs ws ds)) ≡ is_present g named (read_device g xs ws)
  present_read named = present_sectors g named (device_of g (tables_of xs ws ds)) ∙ ap (is_present g named) (same_sectors_lem g xs ws ds) ∙ sym (present_sectors g named (read_device g xs ws))

  lost_read : (named : ℕ → Bool) → is_lost g named (device_of g (tables_of xs ws ds)) ≡ is_lost g named (read_device g xs ws)
  lost_read named = lost_sectors g named (device_of g (tables_of xs ws ds)) ∙ ap (is_lost g named) (same_sectors_lem g xs ws ds) ∙ sym (lost_sectors g named (read_device g xs ws))

  pub lost_drive_read : (named : ℕ → Bool) → lost_drive g named (device_of g (tables_of xs ws ds)) ≡ lost_drive g named (read_device g xs ws)
  lost_drive_read named = ap (λ (p : ℕ → Bool). find_below p g.drives) (lost_read named)

  pub two_lost_read : (named : ℕ → Bool) → two_lost g named (device_of g (tables_of xs ws ds)) ≡ two_lost g named (read_device g xs ws)
  unfolding two_lost
  two_lost_read named = ap (λ (p : ℕ → Bool). ltb 1 (count_below p g.drives)) (lost_read named)

  pub labels_read : (present : ℕ → Bool) → bad_labels g present (device_of g (tables_of xs ws ds)) ≡ bad_labels g present (read_device g xs ws)
  labels_read present = labels_sectors g present (device_of g (tables_of xs ws ds)) ∙ ap (bad_labels g present) (same_sectors_lem g xs ws ds) ∙ sym (labels_sectors g present (read_device g xs ws))

  pub logs_read : (present : ℕ → Bool) → bad_logs g present (device_of g (tables_of xs ws ds)) ≡ bad_logs g present (read_device g xs ws)
  logs_read present = logs_sectors g present (device_of g (tables_of xs ws ds)) ∙ ap (bad_logs g present) (same_sectors_lem g xs ws ds) ∙ sym (logs_sectors g present (read_device g xs ws))

  pub bad_place_read : (present : ℕ → Bool) (placed : ℕ → ℕ → ℕ) → first_bad_place g present placed (device_of g (tables_of xs ws ds)) ≡ first_bad_place g present placed (read_device g xs ws)
  bad_place_read present placed = bad_place_sectors g present placed (device_of g (tables_of xs ws ds)) ∙ ap (first_bad_place g present placed) (same_sectors_lem g xs ws ds) ∙ sym (bad_place_sectors g present placed (read_device g xs ws))

  pub shown_read : (present : ℕ → Bool) (x : ℕ) → showing g present x (device_of g (tables_of xs ws ds)) ≡ showing g present x (read_device g xs ws)
  shown_read present x = shown_sectors g present x (device_of g (tables_of xs ws ds)) ∙ ap (showing g present x) (same_sectors_lem g xs ws ds) ∙ sym (shown_sectors g present x (read_device g xs ws))

-- ---- the refusals, in the order of the table: 1 to 3 by the tables' shape, of any call without a state
unfoldable pub shape_number : Geometry → List Bool → ℕ → List ℕ → List ℕ → ℕ
shape_number g named sectors ws ds = verdict_number (first_refusal ((1, not (is_valid g)) ∷ (2, not (lengths_fit g sectors (length ws) (length ds))) ∷ (3, pointers_bad g named ws ds) ∷ []))

-- 4 to 6 by the logs of the drives present
unfoldable pub log_number : LogPlaces → List Bool → Device → ℕ
log_number p here v =
    verdict_number (first_refusal ((4, ltb 1 (count_below (λ d. not (is_set here d)) p.geometry.drives)) ∷ (5, kind_lacks_on p here || bad_labels p.geometry (is_set here) v) ∷ (6, bad_logs p.geometry (is_set here) v) ∷ []))

-- case by case
module _ (g : Geometry) (named : List Bool) (sectors : ℕ) (ws ds : List ℕ) where
  pub shape_1 : is_valid g ≡ false → 1 ≡ shape_number g named sectors ws ds
  unfolding shape_number
  shape_1 a = rw a refl

  pub shape_2 : is_valid g ≡ true → lengths_fit g sectors (length ws) (length ds) ≡ false → 2 ≡ shape_number g named sectors ws ds
  unfolding shape_number
  shape_2 a b = rw (a, b) refl

  pub shape_3 : is_valid g ≡ true → lengths_fit g sectors (length ws) (length ds) ≡ true → pointers_bad g named ws ds ≡ true → 3 ≡ shape_number g named sectors ws ds
  unfolding shape_number
  shape_3 a b c = rw (a, b, c) refl

  pub shape_0 : is_valid g ≡ true → lengths_fit g sectors (length ws) (length ds) ≡ true → pointers_bad g named ws ds ≡ false → 0 ≡ shape_number g named sectors ws ds
  unfolding shape_number
  shape_0 a b c = rw (a, b, c) refl

  -- what passing them gives
  three : (a b c : Bool) → verdict_number (first_refusal ((1, not a) ∷ (2, not b) ∷ (3, c) ∷ [])) ≡ 0 → (a ≡ true) × (b ≡ true) × (c ≡ false)
  three true true false h = (refl, refl, refl)
  three true true true h = absurd (omega arith)
  three true false c h = absurd (omega arith)
  three false b c h = absurd (omega arith)

  most : (a b c : Bool) → verdict_number (first_refusal ((1, not a) ∷ (2, not b) ∷ (3, c) ∷ [])) ≤ 3
  most true true false = omega arith
  most true true true = omega arith
  most true false c = omega arith
  most false b c = omega arith

  pub shape_most : shape_number g named sectors ws ds ≤ 3
  unfolding shape_number
  shape_most = most (is_valid g) (lengths_fit g sectors (length ws) (length ds)) (pointers_bad g named ws ds)

  pub shaped_first : shape_number g named sectors ws ds ≡ 0 → g.logs ≡ 0
  unfolding shape_number
  shaped_first h = first_if_test g (three (is_valid g) (lengths_fit g sectors (length ws) (length ds)) (pointers_bad g named ws ds) h).0

  pub shaped_durable : shape_number g named sectors ws ds ≡ 0 → length ds ≡ cells g
  unfolding shape_number
  shaped_durable h = (lengths_are g sectors (length ws) (length ds) (three (is_valid g) (lengths_fit g sectors (length ws) (length ds)) (pointers_bad g named ws ds) h).1).2

  pub shaped : shape_number g named sectors ws ds ≡ 0 → Valid g × (sectors ≡ total_bytes g) × (length ws ≡ cells g) × (pointers_bad g named ws ds ≡ false)
  unfolding shape_number
  shaped h =
      let (a, b, c) = three (is_valid g) (lengths_fit g sectors (length ws) (length ds)) (pointers_bad g named ws ds) h in
      let (x, y, z) = lengths_are g sectors (length ws) (length ds) b in
      (valid_if_test g a, x, y, c)

  -- so an array of 152 numbers has room for the pointers
  pub shaped_front : shape_number g named sectors ws ds ≡ 0 → (length ws ≤ 152) × (length (take (length ws) (replicate {A = ℕ} 152 0)) ≡ length ws)
  shaped_front h =
      let (ok, x, y, z) = shaped h in
      let few : length ws ≤ 152 = omega (arith, y, cells_small g ok) in
      (few, length-take-le (length ws) (replicate 152 0) few)

module _ (p : LogPlaces) (here : List Bool) (v : Device) where
  pub logs_4 : 1 < count_below (λ d. not (is_set here d)) p.geometry.drives → 4 ≡ log_number p here v
  unfolding log_number
  logs_4 a = rw (lt-ltb 1 (count_below (λ e. not (is_set here e)) p.geometry.drives) a) refl

  module _ (one : count_below (λ d. not (is_set here d)) p.geometry.drives ≤ 1) where
    pub logs_5_kind : kind_lacks_on p here ≡ true → 5 ≡ log_number p here v
    unfolding log_number
    logs_5_kind k = rw (le-ltb 1 (count_below (λ e. not (is_set here e)) p.geometry.drives) one, k) refl

    pub logs_5 : kind_lacks_on p here ≡ false → bad_labels p.geometry (is_set here) v ≡ true → 5 ≡ log_number p here v
    unfolding log_number
    logs_5 k b = rw (le-ltb 1 (count_below (λ e. not (is_set here e)) p.geometry.drives) one, k, b) refl

    pub logs_6 : kind_lacks_on p here ≡ false → bad_labels p.geometry (is_set here) v ≡ false → bad_logs p.geometry (is_set here) v ≡ true → 6 ≡ log_number p here v
    unfolding log_number
    logs_6 k b c = rw (le-ltb 1 (count_below (λ e. not (is_set here e)) p.geometry.drives) one, k, b, c) refl

    pub logs_0 : kind_lacks_on p here ≡ false → bad_labels p.geometry (is_set here) v ≡ false → bad_logs p.geometry (is_set here) v ≡ false → 0 ≡ log_number p here v
    unfolding log_number
    logs_0 k b c = rw (le-ltb 1 (count_below (λ e. not (is_set here e)) p.geometry.drives) one, k, b, c) refl

-- the look's refusal is that of the shape, else that of the logs
after_three : (a b c : Bool) (rest : List (ℕ × Bool)) → verdict_number (first_refusal ((1, a) ∷ (2, b) ∷ (3, c) ∷ rest))
    ≡ pick (eqb (verdict_number (first_refusal ((1, a) ∷ (2, b) ∷ (3, c) ∷ []))) 0) (verdict_number (first_refusal rest)) (verdict_number (first_refusal ((1, a) ∷ (2, b) ∷ (3, c) ∷ [])))
after_three true b c rest = refl
after_three false true c rest = refl
after_three false false true rest = refl
after_three false false false rest = refl

-- (w: the device by its roles r)
abbrev pub late_rows : Geometry → (ℕ → Bool) → (ℕ → Roles) → Device → List (ℕ × Bool)
late_rows g named r w = (4, two_lost g named w) ∷ (5, kind_lacks g (is_present g named w) r || bad_labels g (is_present g named w) w) ∷ (6, bad_logs g (is_present g named w) w) ∷ []

module _ (g : Geometry) (named : List Bool) (xs ws ds : List ℕ) where
  pub look_number : verdict_number (look_verdict g named (tables_of xs ws ds)) ≡ pick (eqb (shape_number g named (length xs) ws ds) 0)
      (verdict_number (first_refusal (late_rows g (is_set named) (roles_of g (tables_of xs ws ds)) (seen_in g (tables_of xs ws ds))))) (shape_number g named (length xs) ws ds)
  unfolding look_verdict look_rows shape_number
  look_number = after_three (not (is_valid g)) (not (lengths_fit g (length xs) (length ws) (length ds))) (pointers_bad g named ws ds) (late_rows g (is_set named) (roles_of g (tables_of xs ws ds)) (seen_in g (tables_of xs ws ds)))

  pub look_shape : shape_number g named (length xs) ws ds ≢ 0 → shape_number g named (length xs) ws ds ≡ verdict_number (look_verdict g named (tables_of xs ws ds))
  look_shape h = sym (look_number ∙ rw (ne_eqb (shape_number g named (length xs) ws ds) 0 h) refl)

  pub look_late : shape_number g named (length xs) ws ds ≡ 0 → verdict_number (look_verdict g named (tables_of xs ws ds)) ≡ verdict_number (first_refusal (late_rows g (is_set named) (roles_of g (tables_of xs ws ds)) (seen_in g (tables_of xs ws ds))))
  look_late h = look_number ∙ ap (λ (b : Bool). pick b (verdict_number (first_refusal (late_rows g (is_set named) (roles_of g (tables_of xs ws ds)) (seen_in g (tables_of xs ws ds))))) (shape_number g named (length xs) ws ds)) (eq-eqb (shape_number g named (length xs) ws ds) 0 h)

-- ---- what the deed needs: the tables' lengths, and that no written pointer of a drive that is here is past its zone's end
pub record Lookable (g : Geometry) (here : List Bool) (xs ws : List ℕ) : Type 0 where
  pub sectors_long : length xs ≡ total_bytes g
  pub written_long : length ws ≡ cells g
  pub pointers : (d y : ℕ) → d < g.drives → is_set here d ≡ true → y < physical_zones g → get_or ws (cell g d y) 0 ≤ g.capacity

pub lookable_zone : (g : Geometry) (here : List Bool) (xs ws : List ℕ) (z : ℕ) → Lookable g here xs ws → z < g.zones → Readable g here xs ws z
lookable_zone g here xs ws z r h = record { zone_in_lem = h; sectors_long = r.sectors_long; written_long = r.written_long; pointers = r.pointers }

pub present_named : (g : Geometry) (named : ℕ → Bool) (v : Device) (d : ℕ) → is_present g named v d ≡ true → named d ≡ true
unfolding is_present is_lost
present_named g named v d h =
    let p = and_split (ltb d g.drives) (not (is_lost g named v d)) h in
    let q = or_none (not (named d)) _ (not_true (is_lost g named v d) p.1) in
    not_not (named d) q.0

pub present_below : (g : Geometry) (named : ℕ → Bool) (v : Device) (d : ℕ) → is_present g named v d ≡ true → d < g.drives
unfolding is_present
present_below g named v d h = ltb-true d g.drives (and_split (ltb d g.drives) (not (is_lost g named v d)) h).0

-- ---- the outcome
module _ (g : Geometry) (named : List Bool) (old : State) (xs ws ds : List ℕ) where
  pub look_passed : verdict_number (look_verdict g named (tables_of xs ws ds)) ≡ 0 → shape_number g named (length xs) ws ds ≡ 0
  look_passed e = go (ℕ_discrete (shape_number g named (length xs) ws ds) 0)
    where
      go : Dec (shape_number g named (length xs) ws ds ≡ 0) → shape_number g named (length xs) ws ds ≡ 0
      go (yes h) = h
      go (no h) = look_shape g named xs ws ds h ∙ e

  pub look_refused : (n : ℕ) → n ≡ verdict_number (look_verdict g named (tables_of xs ws ds)) → n ≢ 0 → ◌≡◌ {A = Outcome} (record { answer = refused_at (bad_place_on g named (tables_of xs ws ds)) n; state = old }) (look_on g named old (tables_of xs ws ds))
  unfolding look_on
  look_refused n e h = rw (← e, ne_eqb n 0 h) refl

  -- 1 to 3
  pub look_refused_shape : (n : ℕ) → n ≡ shape_number g named (length xs) ws ds → n ≢ 0 → ◌≡◌ {A = Outcome} (record { answer = Refused n; state = old }) (look_on g named old (tables_of xs ws ds))
  look_refused_shape n e h =
      ap (λ (a : Answer). record { answer = a; state = old }) (refused_plain (bad_place_on g named (tables_of xs ws ds)) n (λ z. omega (arith, z, e, shape_most g named (length xs) ws ds)))
      ∙ look_refused n (e ∙ look_shape g named xs ws ds (λ z. h (e ∙ z))) h

-- ---- where no pointer is bad, row 3 of the tables is row 3 of the device: the look's answer is the rules' (Answers: look_call)
pointer_fine : (g : Geometry) (named : List Bool) (xs ws ds : List ℕ) (d y : ℕ) → pointers_bad g named ws ds ≡ false → d < g.drives → y < physical_zones g → is_set named d ≡ true
    → ltb g.capacity (length (device_of g (tables_of xs ws ds) d y).sectors) || ltb (length (device_of g (tables_of xs ws ds) d y).sectors) (device_of g (tables_of xs ws ds) d y).durable ≡ false
pointer_fine g named xs ws ds d y h hd hy here =
    let (a, b) = pointers_good g named ws ds d y h hd here hy in
    let p = device_pointer g (tables_of xs ws ds) d y hd hy a in
    let q = device_durable g (tables_of xs ws ds) d y hd hy (omega (arith, a, b)) in
    rw (p, q, le-ltb g.capacity (get_or ws (cell g d y) 0) a, le-ltb (get_or ws (cell g d y) 0) (get_or ds (cell g d y) 0) b) refl

pub pointers_fine : (g : Geometry) (named : List Bool) (xs ws ds : List ℕ) → pointers_bad g named ws ds ≡ false → bad_pointers g (is_set named) (device_of g (tables_of xs ws ds)) ≡ false
unfolding bad_pointers
pointers_fine g named xs ws ds h = none_any_below _ g.drives (λ d hd. go d hd (is_set named d) refl)
  where
    bad : ℕ → ℕ → Bool
    bad d y = ltb g.capacity (length (device_of g (tables_of xs ws ds) d y).sectors) || ltb (length (device_of g (tables_of xs ws ds) d y).sectors) (device_of g (tables_of xs ws ds) d y).durable

    go : (d : ℕ) → d < g.drives → (b : Bool) → is_set named d ≡ b → b && any_below (bad d) (physical_zones g) ≡ false
    go d hd false e = refl
    go d hd true e = none_any_below (bad d) (physical_zones g) (λ y hy. pointer_fine g named xs ws ds d y h hd hy e)

pub look_verdict_lem : (g : Geometry) (named : List Bool) (xs ws ds : List ℕ) → pointers_bad g named ws ds ≡ false
    → look_verdict g named (tables_of xs ws ds) ≡ first_refusal (look_rows g (lengths_of (tables_of xs ws ds)) (bad_pointers g (is_set named) (device_of g (tables_of xs ws ds))) (is_set named) (roles_of g (tables_of xs ws ds)) (seen_in g (tables_of xs ws ds)))
unfolding look_verdict look_rows
look_verdict_lem g named xs ws ds h = rw (h, pointers_fine g named xs ws ds h) refl
