-- A reset on the tables: its refusals as numbers, its six phases as the code makes them, and the state that it hands on.
use Rattle.std.specs.Prelude.{◌≡◌, ◌≢◌, Bool, true, false, ◌&&◌, ◌||◌, not, ℕ, zero, ◌≤◌, ◌<◌, List, [], ◌∷◌, ◌++◌, length, take, ltb, leb, eqb}
use Rattle.std.proofs.Math.Path.{refl}
use Rattle.std.proofs.Common.{sym, ap, ◌∙◌, arith, eq-eqb, ne_eqb, lt-ltb, le-ltb, leb-false}
use Rattle.std.proofs.Math.Decide.{ℕ_discrete, dec_lt}
use Rattle.tables.specs.declared.Geometry.{Geometry}
use Rattle.tables.specs.meaning.Basics.{pick}
use Rattle.tables.specs.laws.Basics.{or_none}
use Rattle.tables.specs.meaning.Below.{each_below, tabulate}
use Rattle.tables.specs.laws.Below.{length_tabulate, any_below_cong}
use Rattle.tables.specs.meaning.Device.{ZoneView, Device, Store, reset}
use Rattle.tables.specs.meaning.GeometryTest.{is_valid}
use Rattle.tables.specs.meaning.Geometry.{data_zone}
use Rattle.tables.specs.meaning.Placement.{needed}
use Rattle.tables.specs.meaning.Phases.{on_present}
use Rattle.tables.specs.meaning.Tables.{Tables, tables_of, device_of, lengths_fit, pointers_bad}
use Rattle.tables.specs.laws.Made.{Made, MadeAppends, MadePointers}
use Rattle.tables.specs.laws.Counted.{made_nil, made_append}
use Rattle.logs.specs.meaning.Entry.{worn_generation, counters, zone_reset}
use Rattle.volume.specs.declared.ZoneRecord.{ZoneRecord}
use Rattle.volume.specs.declared.State.{State}
use Rattle.volume.specs.meaning.State.{pointer_in, is_worn, StateView, call_present}
use Rattle.volume.specs.meaning.Roles.{by_roles}
use Rattle.volume.specs.meaning.Emptying.{by_state}
use Rattle.volume.specs.meaning.Refusals.{state_within, two_absent, first_refusal, flush_rows, reset_rows, stale_in, stale, reset_full, no_zone, worn_for}
use Rattle.volume.specs.meaning.Calls.{flush_stores, generations_from, append_general, logs_reset, raised_at, reset_stores}
use Rattle.volume.specs.meaning.CallContracts.{record_at, view_state, is_set, verdict_number, roles_of, seen_in, flush_verdict, reset_verdict}
use Rattle.volume.specs.checks.CheckLaws.{present_list, present_is, opening_number, opened, after_four}
use Rattle.volume.specs.storing.Flushing.{flush_refusal}
use Rattle.volume.specs.checks.StoreLoops.{first_generations}
use Rattle.volume.specs.checks.ZoneChecks.{stale_on, stale_on_tables}
use Rattle.volume.specs.looking.HiddenLogs.{by_roles_data}

-- ==== refusals
-- those of a zone that there is, by its record, before the logs are asked for their room
unfoldable pub reset_late_number : Geometry → (ℕ → Bool) → ZoneRecord → ℕ → List ℕ → ℕ
reset_late_number g present r z ws = verdict_number (first_refusal ((7, stale_on g present ws r.condition z) ∷ (12, is_worn r.condition || leb worn_generation r.generation) ∷ []))

module _ (g : Geometry) (present : ℕ → Bool) (r : ZoneRecord) (z : ℕ) (ws : List ℕ) where
  pub reset_7 : stale_on g present ws r.condition z ≡ true → 7 ≡ reset_late_number g present r z ws
  unfolding reset_late_number
  reset_7 a = rw a refl

  pub reset_12 : stale_on g present ws r.condition z ≡ false → is_worn r.condition || leb worn_generation r.generation ≡ true → 12 ≡ reset_late_number g present r z ws
  unfolding reset_late_number
  reset_12 a b = rw (a, b) refl

  pub reset_0 : stale_on g present ws r.condition z ≡ false → is_worn r.condition || leb worn_generation r.generation ≡ false → 0 ≡ reset_late_number g present r z ws
  unfolding reset_late_number
  reset_0 a b = rw (a, b) refl

-- those after the first four (full: refusal 14)
abbrev pub reset_rest : Geometry → (ℕ → Bool) → State → ℕ → Bool → List ℕ → List (ℕ × Bool)
reset_rest g present s z full ws = (7, ltb z g.zones && stale_on g present ws (record_at s z).condition z) ∷ (8, no_zone g z) ∷ (12, worn_for (view_state s) z) ∷ (14, full) ∷ []

unfoldable pub reset_rest_number : Geometry → (ℕ → Bool) → State → ℕ → Bool → List ℕ → ℕ
reset_rest_number g present s z full ws = verdict_number (first_refusal (reset_rest g present s z full ws))

rest_8 : (g : Geometry) (present : ℕ → Bool) (s : State) (z : ℕ) (full : Bool) (ws : List ℕ) → g.zones ≤ z → 8 ≡ reset_rest_number g present s z full ws
unfolding reset_rest_number
rest_8 g present s z full ws h = rw (le-ltb z g.zones h) refl

rest_in : (g : Geometry) (present : ℕ → Bool) (s : State) (z : ℕ) (full : Bool) (ws : List ℕ) → z < g.zones
    → pick (eqb (reset_late_number g present (record_at s z) z ws) 0) (pick full 14 0) (reset_late_number g present (record_at s z) z ws) ≡ reset_rest_number g present s z full ws
unfolding reset_rest_number reset_late_number
rest_in g present s z full ws h = rw (lt-ltb z g.zones h) (go (stale_on g present ws (record_at s z).condition z) (worn_for (view_state s) z) full)
  where
    go : (a b c : Bool) → pick (eqb (verdict_number (first_refusal ((7, a) ∷ (12, b) ∷ []))) 0) (pick c 14 0) (verdict_number (first_refusal ((7, a) ∷ (12, b) ∷ []))) ≡ verdict_number (first_refusal ((7, a) ∷ (8, false) ∷ (12, b) ∷ (14, c) ∷ []))
    go true b c = refl
    go false true c = refl
    go false false true = refl
    go false false false = refl

-- all of them
unfoldable pub reset_number : Geometry → List Bool → State → ℕ → Bool → ℕ → List ℕ → List ℕ → ℕ
reset_number g named s z full sectors ws ds =
    pick (eqb (opening_number g named s 0 0 sectors ws ds) 0) (reset_rest_number g (is_set (present_list g named s.lost)) s z full ws) (opening_number g named s 0 0 sectors ws ds)

module _ (g : Geometry) (named : List Bool) (s : State) (z : ℕ) (full : Bool) (sectors : ℕ) (ws ds : List ℕ) where
  abbrev opening : ℕ
  opening = opening_number g named s 0 0 sectors ws ds

  abbrev late : ℕ
  late = reset_late_number g (is_set (present_list g named s.lost)) (record_at s z) z ws

  pub reset_early : opening ≢ 0 → opening ≡ reset_number g named s z full sectors ws ds
  unfolding reset_number
  reset_early h = rw (ne_eqb opening 0 h) refl

  reset_after : opening ≡ 0 → reset_rest_number g (is_set (present_list g named s.lost)) s z full ws ≡ reset_number g named s z full sectors ws ds
  unfolding reset_number
  reset_after h = rw (eq-eqb opening 0 h) refl

  -- of a zone that there is not, and of one that there is
  pub reset_8 : opening ≡ 0 → g.zones ≤ z → 8 ≡ reset_number g named s z full sectors ws ds
  reset_8 e h = rest_8 g (is_set (present_list g named s.lost)) s z full ws h ∙ reset_after e

  pub reset_in_lem : opening ≡ 0 → z < g.zones → late ≢ 0 → late ≡ reset_number g named s z full sectors ws ds
  reset_in_lem e h n = sym (ap (λ (b : Bool). pick b (pick full 14 0) late) (ne_eqb late 0 n)) ∙ rest_in g (is_set (present_list g named s.lost)) s z full ws h ∙ reset_after e

  pub reset_room : opening ≡ 0 → z < g.zones → late ≡ 0 → pick full 14 0 ≡ reset_number g named s z full sectors ws ds
  reset_room e h n = sym (ap (λ (b : Bool). pick b (pick full 14 0) late) (eq-eqb late 0 n)) ∙ rest_in g (is_set (present_list g named s.lost)) s z full ws h ∙ reset_after e

-- ---- it is the number of the rules
-- refusal 7 looks at data zones alone, which have no other role
pub stale_seen : (g : Geometry) (present : ℕ → Bool) (v : Device) (state : StateView) (z : ℕ) → stale g present (by_roles g v) state z ≡ stale g present v state z
unfolding stale
stale_seen g present v state z = ap (λ (b : Bool). ltb z g.zones && b) (any_below_cong
    (λ d. present d && stale_in (state.condition z) (length (by_roles g v d (data_zone z)).sectors) (needed g.drives g.unit z (pointer_in (state.condition z)) d))
    (λ d. present d && stale_in (state.condition z) (length (v d (data_zone z)).sectors) (needed g.drives g.unit z (pointer_in (state.condition z)) d)) g.drives
    (λ d h. ap (λ (x : ZoneView). present d && stale_in (state.condition z) (length x.sectors) (needed g.drives g.unit z (pointer_in (state.condition z)) d)) (by_roles_data g v d z)))

stale_row : (g : Geometry) (named : List Bool) (s : State) (xs ws ds : List ℕ) (z : ℕ) → pointers_bad g named ws ds ≡ false
    → ltb z g.zones && stale_on g (call_present g (is_set named) (view_state s)) ws (record_at s z).condition z ≡ stale g (call_present g (is_set named) (view_state s)) (seen_in g (tables_of xs ws ds)) (view_state s) z
stale_row g named s xs ws ds z h = go (dec_lt z g.zones) ∙ sym (stale_seen g (call_present g (is_set named) (view_state s)) (device_of g (tables_of xs ws ds)) (view_state s) z)
  where
    go : Dec (z < g.zones) → ltb z g.zones && stale_on g (call_present g (is_set named) (view_state s)) ws (record_at s z).condition z ≡ stale g (call_present g (is_set named) (view_state s)) (device_of g (tables_of xs ws ds)) (view_state s) z
    go (yes l) = ap (λ (b : Bool). b && stale_on g (call_present g (is_set named) (view_state s)) ws (record_at s z).condition z) (lt-ltb z g.zones l) ∙ sym (stale_on_tables g named s xs ws ds z h l)
    go (no l) = unfold stale in rw (le-ltb z g.zones (omega arith)) refl

-- refusal 14 of the rules
abbrev pub reset_full_in : Geometry → List Bool → State → Tables → Bool
reset_full_in g named s t =
    reset_full g (call_present g (is_set named) (view_state s)) (roles_of g t) (by_state g (call_present g (is_set named) (view_state s)) (seen_in g t) (view_state s)) (seen_in g t)

abbrev rule_rows : Geometry → List Bool → State → ℕ → Tables → List (ℕ × Bool)
rule_rows g named s z t = (7, stale g (call_present g (is_set named) (view_state s)) (seen_in g t) (view_state s) z) ∷ (8, no_zone g z) ∷ (12, worn_for (view_state s) z) ∷ (14, reset_full_in g named s t) ∷ []

rest_is : (g : Geometry) (named : List Bool) (s : State) (z : ℕ) (xs ws ds : List ℕ) → pointers_bad g named ws ds ≡ false
    → reset_rest_number g (is_set (present_list g named s.lost)) s z (reset_full_in g named s (tables_of xs ws ds)) ws ≡ verdict_number (first_refusal (rule_rows g named s z (tables_of xs ws ds)))
unfolding reset_rest_number
rest_is g named s z xs ws ds h = rw (present_is g named s, stale_row g named s xs ws ds z h) refl

-- the rules' rows: those of a flush, then its own
reset_split : (g : Geometry) (named : List Bool) (s : State) (z : ℕ) (xs ws ds : List ℕ) → verdict_number (reset_verdict g named s z (tables_of xs ws ds))
    ≡ pick (eqb (verdict_number (flush_verdict g named s (tables_of xs ws ds))) 0) (verdict_number (first_refusal (rule_rows g named s z (tables_of xs ws ds)))) (verdict_number (flush_verdict g named s (tables_of xs ws ds)))
unfolding reset_verdict reset_rows flush_verdict flush_rows
reset_split g named s z xs ws ds =
    after_four (not (is_valid g && state_within g (view_state s))) (not (lengths_fit g (length xs) (length ws) (length ds))) (pointers_bad g named ws ds) (two_absent g (is_set named) (view_state s)) (rule_rows g named s z (tables_of xs ws ds))

pub reset_refusal : (g : Geometry) (named : List Bool) (s : State) (z : ℕ) (xs ws ds : List ℕ) → reset_number g named s z (reset_full_in g named s (tables_of xs ws ds)) (length xs) ws ds ≡ verdict_number (reset_verdict g named s z (tables_of xs ws ds))
reset_refusal g named s z xs ws ds = go (ℕ_discrete (opening_number g named s 0 0 (length xs) ws ds) 0)
  where
    full : Bool
    full = reset_full_in g named s (tables_of xs ws ds)

    first : opening_number g named s 0 0 (length xs) ws ds ≡ verdict_number (flush_verdict g named s (tables_of xs ws ds))
    first = flush_refusal g named s xs ws ds

    go : Dec (opening_number g named s 0 0 (length xs) ws ds ≡ 0) → reset_number g named s z (reset_full_in g named s (tables_of xs ws ds)) (length xs) ws ds ≡ verdict_number (reset_verdict g named s z (tables_of xs ws ds))
    go (yes e) =
        let o = opened g named s 0 0 (length xs) ws ds e in
        let f : verdict_number (flush_verdict g named s (tables_of xs ws ds)) ≡ 0 = sym first ∙ e in
        sym (reset_after g named s z full (length xs) ws ds e) ∙ rest_is g named s z xs ws ds o.pointers ∙ rw (reset_split g named s z xs ws ds, eq-eqb (verdict_number (flush_verdict g named s (tables_of xs ws ds))) 0 f) refl
    go (no e) =
        let f : verdict_number (flush_verdict g named s (tables_of xs ws ds)) ≢ 0 = rw first at e in
        sym (reset_early g named s z full (length xs) ws ds e) ∙ first ∙ rw (reset_split g named s z xs ws ds, ne_eqb (verdict_number (flush_verdict g named s (tables_of xs ws ds))) 0 f) refl

-- the zone of a reset that passes 7 and 12 is not worn
pub late_fresh : (g : Geometry) (present : ℕ → Bool) (r : ZoneRecord) (z : ℕ) (ws : List ℕ) → reset_late_number g present r z ws ≡ 0 → r.generation < worn_generation
unfolding reset_late_number
late_fresh g present r z ws h =
    omega (arith, leb-false worn_generation r.generation (or_none (is_worn r.condition) (leb worn_generation r.generation) (two (stale_on g present ws r.condition z) (is_worn r.condition || leb worn_generation r.generation) h)).1)
  where
    two : (a b : Bool) → verdict_number (first_refusal ((7, a) ∷ (12, b) ∷ [])) ≡ 0 → b ≡ false
    two true b q = absurd (omega arith)
    two false true q = absurd (omega arith)
    two false false q = refl

-- ==== stores
-- a drive's entry of the first phase, its reset, its counters
abbrev pub reset_entry : Geometry → ℕ → ℕ → ℕ → List Store
reset_entry g z n d = pick (logs_reset g z d) (append_general g (zone_reset z n) d) []

abbrev pub zone_reset_at : ℕ → ℕ → List Store
zone_reset_at z d = reset d (data_zone z) ∷ []

abbrev pub counters_at : Geometry → List ℕ → ℕ → List Store
counters_at g ns d = append_general g (counters ns) d

-- the state's generations, that of zone z raised
unfoldable pub raised_list : State → ℕ → List ℕ
raised_list s z = tabulate (raised_at (view_state s) z) 16

pub raised_long : (s : State) (z : ℕ) → length (raised_list s z) ≡ 16
unfolding raised_list
raised_long s z = length_tabulate (raised_at (view_state s) z) 16

pub raised_first : (s : State) (z k : ℕ) → k ≤ 16 → take k (raised_list s z) ≡ generations_from (raised_at (view_state s) z) zero k
unfolding raised_list
raised_first s z k h = first_generations (raised_at (view_state s) z) 16 k h

-- the six phases, of generation n, with the generations that the counters give
unfoldable pub reset_with : Geometry → (ℕ → Bool) → ℕ → ℕ → List ℕ → List Store
reset_with g present z n ns =
    on_present present (each_below (reset_entry g z n) g.drives) ++ (flush_stores g present
    ++ (on_present present (each_below (zone_reset_at z) g.drives) ++ (flush_stores g present ++ (on_present present (each_below (counters_at g ns) g.drives) ++ (flush_stores g present ++ [])))))

pub reset_with_lem : (g : Geometry) (present : ℕ → Bool) (s : State) (z : ℕ) → g.zones ≤ 16 → reset_with g present z (record_at s z).generation (take g.zones (raised_list s z)) ≡ reset_stores g present (view_state s) z
unfolding reset_with reset_stores flush_stores
reset_with_lem g present s z h = rw (raised_first s z g.zones h) refl

-- one after the other
pub reset_made_lem : (g : Geometry) (present : ℕ → Bool) (z n b₀ b₁ b₂ b₃ b₄ b₅ b₆ : ℕ) (ns xs ws ds xs₁ ws₁ ds₁ ws₂ ds₂ ds₃ xs₂ ws₃ ds₄ : List ℕ)
    → MadeAppends g b₀ b₁ (on_present present (each_below (reset_entry g z n) g.drives)) xs ws xs₁ ws₁
    → MadePointers g b₁ b₂ (flush_stores g present) ws₁ ds ws₁ ds₁
    → MadePointers g b₂ b₃ (on_present present (each_below (zone_reset_at z) g.drives)) ws₁ ds₁ ws₂ ds₂
    → MadePointers g b₃ b₄ (flush_stores g present) ws₂ ds₂ ws₂ ds₃
    → MadeAppends g b₄ b₅ (on_present present (each_below (counters_at g ns) g.drives)) xs₁ ws₂ xs₂ ws₃
    → MadePointers g b₅ b₆ (flush_stores g present) ws₃ ds₃ ws₃ ds₄
    → Made g b₀ b₆ (reset_with g present z n ns) (tables_of xs ws ds) (tables_of xs₂ ws₃ ds₄)
unfolding reset_with
reset_made_lem g present z n b₀ b₁ b₂ b₃ b₄ b₅ b₆ ns xs ws ds xs₁ ws₁ ds₁ ws₂ ds₂ ds₃ xs₂ ws₃ ds₄ logged flushed cleared forgot counted last =
    made_append g b₀ b₁ b₆ _ _ (tables_of xs ws ds) (tables_of xs₁ ws₁ ds) (tables_of xs₂ ws₃ ds₄) (logged.made ds) (
    made_append g b₁ b₂ b₆ _ _ (tables_of xs₁ ws₁ ds) (tables_of xs₁ ws₁ ds₁) (tables_of xs₂ ws₃ ds₄) (flushed.made xs₁) (
    made_append g b₂ b₃ b₆ _ _ (tables_of xs₁ ws₁ ds₁) (tables_of xs₁ ws₂ ds₂) (tables_of xs₂ ws₃ ds₄) (cleared.made xs₁) (
    made_append g b₃ b₄ b₆ _ _ (tables_of xs₁ ws₂ ds₂) (tables_of xs₁ ws₂ ds₃) (tables_of xs₂ ws₃ ds₄) (forgot.made xs₁) (
    made_append g b₄ b₅ b₆ _ _ (tables_of xs₁ ws₂ ds₃) (tables_of xs₂ ws₃ ds₃) (tables_of xs₂ ws₃ ds₄) (counted.made ds₃) (
    made_append g b₅ b₆ b₆ _ [] (tables_of xs₂ ws₃ ds₃) (tables_of xs₂ ws₃ ds₄) (tables_of xs₂ ws₃ ds₄) (last.made xs₂) (made_nil g b₆ (tables_of xs₂ ws₃ ds₄)))))))
