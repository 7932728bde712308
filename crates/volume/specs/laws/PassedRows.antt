-- What an accepted call has passed, read off its rows: of each storing call the conditions that do not apply, as facts about its input.
use Rattle.std.specs.Prelude.{◌≡◌, Bool, true, false, ◌&&◌, not, ℕ, ◌+◌, ◌*◌, ◌≤◌, ◌<◌, List, length, ltb, eqb}
use Rattle.std.proofs.Math.Path.{refl}
use Rattle.std.proofs.Common.{true≢false, arith, lt-ltb, ltb-true, ltb-false, eqb-true}
use Rattle.tables.specs.declared.Geometry.{Geometry}
use Rattle.tables.specs.laws.Basics.{and_split, or_none, not_not}
use Rattle.tables.specs.laws.Below.{any_below_false}
use Rattle.tables.specs.meaning.Geometry.{Valid, zone_sectors, data_zone}
use Rattle.tables.specs.meaning.Placement.{needed}
use Rattle.tables.specs.meaning.Device.{Device}
use Rattle.tables.specs.meaning.GeometryTest.{is_valid}
use Rattle.tables.specs.laws.GeometryTest.{valid_if_test}
use Rattle.tables.specs.meaning.Tables.{Tables, lengths_fit, buffer_fits, pointers_bad, device_of}
use Rattle.tables.specs.laws.Made.{WellSized}
use Rattle.tables.specs.laws.TablesFrame.{lengths_sized}
use Rattle.volume.specs.declared.State.{State}
use Rattle.volume.specs.declared.Condition.{Condition}
use Rattle.volume.specs.declared.Condition.TheVariants.{Empty, Open, Sealed, Worn}
use Rattle.volume.specs.meaning.State.{StateView, hosts, call_present, pointer_in, is_sealed, is_worn}
use Rattle.volume.specs.meaning.Rules.{held_at, zone_view, showing}
use Rattle.volume.specs.meaning.Answers.{place_of, present_in, lost_drive_in}
use Rattle.volume.specs.meaning.Refusals.{Verdict, accept, refuse, first_refusal, WriteAsked, zone_of, offset_of, zone_asked, end_asked, state_within, stale_in, stale, stale_somewhere, bad_run, bad_order, mount_full, reset_full, write_full, compact_full, gone_before, not_held, format_rows, look_rows, mount_rows, write_rows, flush_rows, reset_rows, compact_rows, peek_rows}
use Rattle.volume.specs.meaning.CallContracts.{view_state, is_set, lengths_of, verdict_number, bad_in, roles_of, seen_in, pointer_of, record_at, format_verdict, look_verdict, mount_verdict, write_verdict, flush_verdict, reset_verdict, compact_verdict, peek_number}
use Rattle.volume.specs.meaning.Emptying.{by_look, by_state, gone_for_copies}
use Rattle.volume.specs.meaning.Hosts.{over_limit, over_open, share_left}
use Rattle.volume.specs.laws.Refusals.{accepted_row, Numbered, nonzero, numbered}

-- the number 0 is no refusal's
number_accepts : (rows : List (ℕ × Bool)) → nonzero rows ≡ true → verdict_number (first_refusal rows) ≡ 0 → first_refusal rows ≡ accept
number_accepts rows n e = go (first_refusal rows) (numbered rows n) e
  where
    go : (v : Verdict) → Numbered v → verdict_number v ≡ 0 → v ≡ accept
    go accept h q = refl
    go (refuse m) h q = absurd (h q)

module _ (g : Geometry) (named : List Bool) (t : Tables) where
  pub format_number_accepts : verdict_number (format_verdict g named t) ≡ 0 → format_verdict g named t ≡ accept
  unfolding format_verdict format_rows
  format_number_accepts = number_accepts (format_rows g (lengths_of t) (bad_in g named t) (is_set named) (device_of g t)) refl

  pub look_number_accepts : verdict_number (look_verdict g named t) ≡ 0 → look_verdict g named t ≡ accept
  unfolding look_verdict look_rows
  look_number_accepts = number_accepts (look_rows g (lengths_of t) (bad_in g named t) (is_set named) (roles_of g t) (seen_in g t)) refl

  pub mount_number_accepts : verdict_number (mount_verdict g named t) ≡ 0 → mount_verdict g named t ≡ accept
  unfolding mount_verdict mount_rows
  mount_number_accepts = number_accepts (mount_rows g (lengths_of t) (bad_in g named t) (is_set named) (roles_of g t) (seen_in g t)) refl

  module _ (s : State) where
    pub flush_number_accepts : verdict_number (flush_verdict g named s t) ≡ 0 → flush_verdict g named s t ≡ accept
    unfolding flush_verdict flush_rows
    flush_number_accepts = number_accepts (flush_rows g (lengths_of t) (bad_in g named t) (is_set named) (view_state s) (device_of g t)) refl

    pub reset_number_accepts : (z : ℕ) → verdict_number (reset_verdict g named s z t) ≡ 0 → reset_verdict g named s z t ≡ accept
    unfolding reset_verdict reset_rows
    reset_number_accepts z = number_accepts (reset_rows g (lengths_of t) (bad_in g named t) (is_set named) (view_state s) z (roles_of g t) (seen_in g t)) refl

    pub write_number_accepts : (a : WriteAsked) → verdict_number (write_verdict g named s a t) ≡ 0 → write_verdict g named s a t ≡ accept
    unfolding write_verdict write_rows
    write_number_accepts a = number_accepts (write_rows g (lengths_of t) (bad_in g named t) (is_set named) (view_state s) a (roles_of g t) (seen_in g t)) refl

    pub compact_number_accepts : (d : ℕ) → verdict_number (compact_verdict g named s d t) ≡ 0 → compact_verdict g named s d t ≡ accept
    unfolding compact_verdict compact_rows
    compact_number_accepts d = number_accepts (compact_rows g (lengths_of t) (bad_in g named t) (is_set named) (view_state s) d (roles_of g t) (seen_in g t)) refl

-- ---- rows 1 to 3, which every call has
pub record TablesPassed (g : Geometry) (named : List Bool) (t : Tables) : Type 0 where
  pub valid : Valid g
  pub sized : WellSized g t
  pub pointers : pointers_bad g named t.written t.durable ≡ false

tables_passed : (g : Geometry) (named : List Bool) (t : Tables) → is_valid g ≡ true → lengths_fit g (length t.sectors) (length t.written) (length t.durable) ≡ true → pointers_bad g named t.written t.durable ≡ false → TablesPassed g named t
tables_passed g named t a b c = record { valid = valid_if_test g a; sized = lengths_sized g t.sectors t.written t.durable b; pointers = c }

-- ---- format
pub format_passed : (g : Geometry) (named : List Bool) (t : Tables) → format_verdict g named t ≡ accept → TablesPassed g named t
unfolding format_verdict format_rows
format_passed g named t e =
    let row = accepted_row (format_rows g (lengths_of t) (bad_in g named t) (is_set named) (device_of g t)) e in
    tables_passed g named t (not_not (is_valid g) (row 1)) (not_not (lengths_fit g (length t.sectors) (length t.written) (length t.durable)) (row 2)) (row 3)

-- ---- look
pub look_passed : (g : Geometry) (named : List Bool) (t : Tables) → look_verdict g named t ≡ accept → TablesPassed g named t
unfolding look_verdict look_rows
look_passed g named t e =
    let row = accepted_row (look_rows g (lengths_of t) (bad_in g named t) (is_set named) (roles_of g t) (seen_in g t)) e in
    tables_passed g named t (not_not (is_valid g) (row 1)) (not_not (lengths_fit g (length t.sectors) (length t.written) (length t.durable)) (row 2)) (row 3)

-- ---- flush
pub record StatePassed (g : Geometry) (named : List Bool) (s : State) (t : Tables) : Type 0 where
  pub tables : TablesPassed g named t
  pub within : state_within g (view_state s) ≡ true

module _ (g : Geometry) (named : List Bool) (s : State) (t : Tables) where
  state_passed : not (is_valid g && state_within g (view_state s)) ≡ false → lengths_fit g (length t.sectors) (length t.written) (length t.durable) ≡ true → pointers_bad g named t.written t.durable ≡ false → StatePassed g named s t
  state_passed a b c = let (p, q) = and_split (is_valid g) (state_within g (view_state s)) (not_not _ a) in record { tables = tables_passed g named t p b c; within = q }

  pub flush_passed : flush_verdict g named s t ≡ accept → StatePassed g named s t
  unfolding flush_verdict flush_rows
  flush_passed e =
      let row = accepted_row (flush_rows g (lengths_of t) (bad_in g named t) (is_set named) (view_state s) (device_of g t)) e in
      state_passed (row 1) (not_not (lengths_fit g (length t.sectors) (length t.written) (length t.durable)) (row 2)) (row 3)

-- ---- reset
pub record ResetPassed (g : Geometry) (named : List Bool) (s : State) (z : ℕ) (t : Tables) : Type 0 where
  pub opening : StatePassed g named s t
  pub zone : z < g.zones
  pub log_room : reset_full g (call_present g (is_set named) (view_state s)) (roles_of g t) (by_state g (call_present g (is_set named) (view_state s)) (seen_in g t) (view_state s)) (seen_in g t) ≡ false

pub reset_passed : (g : Geometry) (named : List Bool) (s : State) (z : ℕ) (t : Tables) → reset_verdict g named s z t ≡ accept → ResetPassed g named s z t
unfolding reset_verdict reset_rows
reset_passed g named s z t e =
    let row = accepted_row (reset_rows g (lengths_of t) (bad_in g named t) (is_set named) (view_state s) z (roles_of g t) (seen_in g t)) e in
    record {
      opening = state_passed g named s t (row 1) (not_not (lengths_fit g (length t.sectors) (length t.written) (length t.durable)) (row 2)) (row 3);
      zone = ltb-true z g.zones (not_not (ltb z g.zones) (row 8));
      log_room = row 14;
    }

-- ---- write
pub record WritePassed (g : Geometry) (named : List Bool) (s : State) (a : WriteAsked) (t : Tables) : Type 0 where
  pub opening : StatePassed g named s t
  pub buffer_long : length a.buffer ≡ a.count * g.sector
  pub zone : zone_asked g a < g.zones
  pub host : a.host < hosts
  pub inside : end_asked g (view_state s) a ≤ zone_sectors g
  -- a present drive has just what the pointer needs
  pub written_is : (d : ℕ) → d < g.drives → call_present g (is_set named) (view_state s) d ≡ true → length (seen_in g t d (data_zone (zone_asked g a))).sectors ≡ needed g.drives g.unit (zone_asked g a) (pointer_of s (zone_asked g a)) d
  pub within_limit : over_limit g (view_state s) a.host (zone_asked g a) (end_asked g (view_state s) a) ≡ false
  pub within_open : over_open g (view_state s) (zone_asked g a) (end_asked g (view_state s) a) ≡ false
  pub log_room : write_full g (call_present g (is_set named) (view_state s)) (roles_of g t) (seen_in g t) (share_left g (view_state s) a.host (zone_asked g a) (end_asked g (view_state s) a)) (zone_asked g a) (end_asked g (view_state s) a) ≡ false
  pub known_before : gone_before g (call_present g (is_set named) (view_state s)) (seen_in g t) (zone_asked g a) (record_at s (zone_asked g a)).generation (pointer_of s (zone_asked g a)) ≡ false

-- not stale, and neither sealed nor worn
not_stale : (c : Condition) (written needs : ℕ) → is_sealed c ≡ false → is_worn c ≡ false → stale_in c written needs ≡ false → written ≡ needs
not_stale Empty w n a b h = eqb-true w n (not_not (eqb w n) h)
not_stale (Open q) w n a b h = eqb-true w n (not_not (eqb w n) h)
not_stale (Sealed q) w n a b h = absurd (true≢false a)
not_stale (Worn q) w n a b h = absurd (true≢false b)

fresh_at : (g : Geometry) (present : ℕ → Bool) (v : Device) (state : StateView) (z : ℕ) → z < g.zones → stale g present v state z ≡ false → is_sealed (state.condition z) ≡ false → is_worn (state.condition z) ≡ false
    → (d : ℕ) → d < g.drives → present d ≡ true → length (v d (data_zone z)).sectors ≡ needed g.drives g.unit z (pointer_in (state.condition z)) d
unfolding stale
fresh_at g present v state z hz h a b d hd p =
    let q = any_below_false (λ e. present e && stale_in (state.condition z) (length (v e (data_zone z)).sectors) (needed g.drives g.unit z (pointer_in (state.condition z)) e)) g.drives d (rw (lt-ltb z g.zones hz) at h) hd in
    not_stale (state.condition z) (length (v d (data_zone z)).sectors) (needed g.drives g.unit z (pointer_in (state.condition z)) d) a b (rw p at q)

run_inside : (g : Geometry) (s : State) (z offset count : ℕ) → bad_run g offset count ≡ false → bad_order (view_state s) z offset ≡ false → pointer_of s z + count ≤ zone_sectors g
run_inside g s z offset count h o =
    let (p, q) = or_none (eqb count 0) (ltb (zone_sectors g) (offset + count)) h in
    let e : offset ≡ pointer_of s z = eqb-true offset (pointer_of s z) (not_not (eqb offset (pointer_of s z)) o) in
    omega (arith, ltb-false (zone_sectors g) (offset + count) q, e)

pub write_passed : (g : Geometry) (named : List Bool) (s : State) (a : WriteAsked) (t : Tables) → write_verdict g named s a t ≡ accept → WritePassed g named s a t
unfolding write_verdict write_rows buffer_fits
write_passed g named s a t e =
    let z = zone_asked g a in
    let row = accepted_row (write_rows g (lengths_of t) (bad_in g named t) (is_set named) (view_state s) a (roles_of g t) (seen_in g t)) e in
    let lengths = lengths_fit g (length t.sectors) (length t.written) (length t.durable) in
    let long = eqb (length a.buffer) (a.count * g.sector) in
    let (l, b) = and_split lengths long (not_not (lengths && long) (row 2)) in
    let (there, host) = or_none (not (ltb z g.zones)) (not (ltb a.host hosts)) (row 8) in
    let hz : z < g.zones = ltb-true z g.zones (not_not (ltb z g.zones) there) in
    record {
      opening = state_passed g named s t (row 1) l (row 3);
      buffer_long = eqb-true (length a.buffer) (a.count * g.sector) b;
      zone = hz;
      host = ltb-true a.host hosts (not_not (ltb a.host hosts) host);
      inside = run_inside g s z (offset_of g a.address) a.count (row 9) (row 10);
      written_is = fresh_at g (call_present g (is_set named) (view_state s)) (seen_in g t) (view_state s) z hz (row 7) (row 11) (row 12);
      within_limit = row 18;
      within_open = row 19;
      log_room = row 14;
      known_before = row 15;
    }

-- ---- compact
pub record CompactPassed (g : Geometry) (named : List Bool) (s : State) (d : ℕ) (t : Tables) : Type 0 where
  pub opening : StatePassed g named s t
  pub not_stale : stale_somewhere g (call_present g (is_set named) (view_state s)) (seen_in g t) (view_state s) ≡ false
  pub here : call_present g (is_set named) (view_state s) d ≡ true
  pub log_room : compact_full g (roles_of g t) (by_state g (call_present g (is_set named) (view_state s)) (seen_in g t) (view_state s)) (seen_in g t) d ≡ false
  -- the sectors of which entries are made are known
  pub known_copies : gone_for_copies g (call_present g (is_set named) (view_state s)) (by_state g (call_present g (is_set named) (view_state s)) (seen_in g t) (view_state s)) (seen_in g t) d ≡ false

pub compact_passed : (g : Geometry) (named : List Bool) (s : State) (d : ℕ) (t : Tables) → compact_verdict g named s d t ≡ accept → CompactPassed g named s d t
unfolding compact_verdict compact_rows
compact_passed g named s d t e =
    let row = accepted_row (compact_rows g (lengths_of t) (bad_in g named t) (is_set named) (view_state s) d (roles_of g t) (seen_in g t)) e in
    record {
      opening = state_passed g named s t (row 1) (not_not (lengths_fit g (length t.sectors) (length t.written) (length t.durable)) (row 2)) (row 3);
      not_stale = row 7;
      here = not_not (call_present g (is_set named) (view_state s) d) (row 8);
      log_room = row 14;
      known_copies = row 15;
    }

-- no zone is stale where none is
pub stale_nowhere : (g : Geometry) (present : ℕ → Bool) (v : Device) (state : StateView) → stale_somewhere g present v state ≡ false → (z : ℕ) → z < g.zones → stale g present v state z ≡ false
unfolding stale_somewhere
stale_nowhere g present v state h z hz = any_below_false (stale g present v state) g.zones z h hz

-- ---- mount
pub record MountPassed (g : Geometry) (named : List Bool) (t : Tables) : Type 0 where
  pub tables : TablesPassed g named t
  pub log_room : mount_full g (present_in g (is_set named) (device_of g t)) (roles_of g t) (by_look (showing g (present_in g (is_set named) (device_of g t)) (lost_drive_in g (is_set named) (device_of g t)) (seen_in g t))) (seen_in g t) ≡ false

pub mount_passed : (g : Geometry) (named : List Bool) (t : Tables) → mount_verdict g named t ≡ accept → MountPassed g named t
unfolding mount_verdict mount_rows
mount_passed g named t e =
    let row = accepted_row (mount_rows g (lengths_of t) (bad_in g named t) (is_set named) (roles_of g t) (seen_in g t)) e in
    record {
      tables = tables_passed g named t (not_not (is_valid g) (row 1)) (not_not (lengths_fit g (length t.sectors) (length t.written) (length t.durable)) (row 2)) (row 3);
      log_room = row 14;
    }

-- ---- peek: its sector is held
pub record PeekPassed (g : Geometry) (named : List Bool) (s : State) (a : ℕ) (t : Tables) : Type 0 where
  pub opening : StatePassed g named s t
  pub zone : zone_of g a < g.zones
  pub held : held_at (zone_view g (call_present g (is_set named) (view_state s)) (seen_in g t) (zone_of g a) (record_at s (zone_of g a)).generation) (place_of g a).drive (place_of g a).sector ≡ true

pub peek_passed : (g : Geometry) (named : List Bool) (s : State) (a : ℕ) (t : Tables) → peek_number g named s a t ≡ 0 → PeekPassed g named s a t
unfolding peek_number peek_rows not_held
peek_passed g named s a t e =
    let rows = peek_rows g (lengths_of t) (bad_in g named t) (is_set named) (view_state s) a (seen_in g t) in
    let row = accepted_row rows (number_accepts rows refl e) in
    record {
      opening = state_passed g named s t (row 1) (not_not (lengths_fit g (length t.sectors) (length t.written) (length t.durable)) (row 2)) (row 3);
      zone = ltb-true (zone_of g a) g.zones (not_not (ltb (zone_of g a) g.zones) (row 8));
      held = not_not _ (row 15);
    }
