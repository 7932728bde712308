-- Nor do refusals, calls and the steps of a mount read where a geometry places the logs (the rules: RulesUnread; emptyings: EmptyingUnread; a mount: MountUnread). Their stores go to the zones by role; where these
-- lie is the tables' business (LogPlaces: `run_at`).
use Rattle.std.specs.Prelude.{◌≡◌, Bool, ◌&&◌, not, List, [], ◌∷◌, ◌++◌}
use Rattle.std.proofs.Math.Path.{refl, ap, ap₂, fun_ext}
use Rattle.std.proofs.Math.Bool.{true, false}
use Prim.Native.Nat.{ℕ}
use Rattle.tables.specs.declared.Geometry.{Geometry}
use Rattle.std.proofs.Math.Dec.{ltb, leb}
use Rattle.tables.specs.meaning.Basics.{pick}
use Rattle.tables.specs.meaning.Below.{count_below}
use Rattle.tables.specs.meaning.Device.{Device, Store}
use Rattle.tables.specs.meaning.Geometry.{zone_sectors}
use Rattle.tables.specs.meaning.Tables.{lengths_fit, buffer_fits}
use Rattle.logs.specs.meaning.Entry.{general_zone, parity_zone, label, counters, zone_reset, partial_parity, seal, closing, Entry}
use Rattle.logs.specs.meaning.Walk.{Walked, Ending, at_pointer, no_entry, torn, sectors_of}
use Rattle.volume.specs.declared.Condition.{Condition}
use Rattle.volume.specs.declared.Condition.TheVariants.{Empty, Open, Sealed, Worn}
use Rattle.volume.specs.meaning.State.{StateView, is_owner, call_present}
use Rattle.volume.specs.meaning.Content.{entry_at}
use Rattle.volume.specs.meaning.Rules.{Shown}
use Rattle.volume.specs.meaning.Refusals.{no_bad_place, bad_place_in, lower_first, first_bad_place, drive_bad_place, TableLengths, state_within, tables_fit, bad_pointers, two_lost, two_absent, two_unnamed, bad_labels, kind_lacks, bad_logs, stale, stale_somewhere, no_zone, bad_run, gone_in, gone_before, not_held}
use Rattle.volume.specs.meaning.Hosts.{limit_of, most_open, counts_as, open_zones, zones_of, over_limit, over_open}
use Rattle.volume.specs.meaning.Calls.{write_with, zone_content, write_stores, flush_stores, reset_stores, format_stores}
use Rattle.volume.specs.meaning.Roles.{Roles}
use Rattle.volume.specs.meaning.Mount.{spare_step, label_step, reset_entry_step, zone_reset_step, counters_differ, counter_step, seal_step, missing_rows, torn_row_step, fill_step, entry_step, with_flush, with_flushes, after_opening}
use Rattle.volume.specs.laws.LogPlaces.{with_logs}
use Rattle.volume.specs.declared.BadPlace.{BadPlace}
use Rattle.volume.specs.laws.BadPlaces.{first_below_cong}
use Rattle.volume.specs.laws.LogsUnread.{walk_log_alike, encode_alike}
use Rattle.volume.specs.laws.RulesUnread.{heads_alike, general_ending_alike, entries_alike, parity_ending_alike, is_lost_alike, zone_view_alike, value_at_lem, ends_at_alike}

module _ (g : Geometry) (n : ℕ) where
  -- ---- refusals
  pub state_within_alike : (state : StateView) → state_within (with_logs g n) state ≡ state_within g state
  unfolding state_within zone_sectors
  state_within_alike state = refl

  pub tables_fit_alike : (t : TableLengths) → tables_fit (with_logs g n) t ≡ tables_fit g t
  unfolding lengths_fit
  tables_fit_alike t = refl

  pub buffer_fits_alike : (count bytes : ℕ) → buffer_fits (with_logs g n) count bytes ≡ buffer_fits g count bytes
  unfolding buffer_fits
  buffer_fits_alike count bytes = refl

  pub bad_pointers_alike : (named : ℕ → Bool) (v : Device) → bad_pointers (with_logs g n) named v ≡ bad_pointers g named v
  unfolding bad_pointers
  bad_pointers_alike named v = refl

  pub call_present_alike : (named : ℕ → Bool) (state : StateView) → call_present (with_logs g n) named state ≡ call_present g named state
  unfolding call_present
  call_present_alike named state = refl

  pub two_lost_alike : (named : ℕ → Bool) (v : Device) → two_lost (with_logs g n) named v ≡ two_lost g named v
  unfolding two_lost
  two_lost_alike named v = simp (is_lost_alike g n)

  pub two_absent_alike : (named : ℕ → Bool) (state : StateView) → two_absent (with_logs g n) named state ≡ two_absent g named state
  unfolding two_absent call_present
  two_absent_alike named state = refl

  pub two_unnamed_alike : (named : ℕ → Bool) → two_unnamed (with_logs g n) named ≡ two_unnamed g named
  unfolding two_unnamed
  two_unnamed_alike named = refl

  pub bad_labels_alike : (present : ℕ → Bool) (v : Device) → bad_labels (with_logs g n) present v ≡ bad_labels g present v
  unfolding bad_labels
  bad_labels_alike present v = simp (heads_alike g n)

  pub bad_logs_alike : (present : ℕ → Bool) (v : Device) → bad_logs (with_logs g n) present v ≡ bad_logs g present v
  unfolding bad_logs
  bad_logs_alike present v = simp (general_ending_alike g n, parity_ending_alike g n)

  drive_place_alike : (placed : ℕ → ℕ) (v : Device) (d : ℕ) → drive_bad_place (with_logs g n) placed v d ≡ drive_bad_place g placed v d
  unfolding drive_bad_place
  drive_place_alike placed v d =
      ap₂ (λ (a b : Walked). lower_first (placed general_zone) (placed parity_zone) (bad_place_in d (placed general_zone) a) (bad_place_in d (placed parity_zone) b)) (walk_log_alike g n d false (v d general_zone).sectors) (walk_log_alike g n d true (v d parity_zone).sectors)

  pub bad_place_alike : (present : ℕ → Bool) (placed : ℕ → ℕ → ℕ) (v : Device) → first_bad_place (with_logs g n) present placed v ≡ first_bad_place g present placed v
  unfolding first_bad_place
  bad_place_alike present placed v =
      first_below_cong (λ d. pick (present d) (drive_bad_place (with_logs g n) (placed d) v d) no_bad_place) (λ d. pick (present d) (drive_bad_place g (placed d) v d) no_bad_place) g.drives
      (λ d h. ap (λ (x : BadPlace). pick (present d) x no_bad_place) (drive_place_alike (placed d) v d))

  pub stale_alike : (present : ℕ → Bool) (v : Device) (state : StateView) (z : ℕ) → stale (with_logs g n) present v state z ≡ stale g present v state z
  unfolding stale
  stale_alike present v state z = refl

  pub stale_somewhere_alike : (present : ℕ → Bool) (v : Device) (state : StateView) → stale_somewhere (with_logs g n) present v state ≡ stale_somewhere g present v state
  unfolding stale_somewhere stale
  stale_somewhere_alike present v state = refl

  pub no_zone_alike : (z : ℕ) → no_zone (with_logs g n) z ≡ no_zone g z
  no_zone_alike z = refl

  pub bad_run_alike : (offset count : ℕ) → bad_run (with_logs g n) offset count ≡ bad_run g offset count
  unfolding zone_sectors
  bad_run_alike offset count = refl

  counts_alike : (c : Condition) → counts_as (with_logs g n) c ≡ counts_as g c
  unfolding zone_sectors
  counts_alike Empty = refl
  counts_alike (Open q) = refl
  counts_alike (Sealed q) = refl
  counts_alike (Worn q) = refl

  pub over_limit_alike : (state : StateView) (h z end : ℕ) → over_limit (with_logs g n) state h z end ≡ over_limit g state h z end
  unfolding over_limit zones_of zone_sectors
  over_limit_alike state h z end =
      ap (λ (f : ℕ → Bool). ltb end (zone_sectors g) && (not (f z && is_owner h (state.owner z)) && leb (limit_of h) (count_below (λ y. f y && is_owner h (state.owner y)) g.zones))) (fun_ext λ y. counts_alike (state.condition y))

  pub over_open_alike : (state : StateView) (z end : ℕ) → over_open (with_logs g n) state z end ≡ over_open g state z end
  unfolding over_open open_zones zone_sectors
  over_open_alike state z end = ap (λ (f : ℕ → Bool). ltb end (zone_sectors g) && (not (f z) && leb most_open (count_below f g.zones))) (fun_ext λ y. counts_alike (state.condition y))

  pub kind_lacks_alike : (present : ℕ → Bool) (r : ℕ → Roles) → kind_lacks (with_logs g n) present r ≡ kind_lacks g present r
  unfolding kind_lacks
  kind_lacks_alike present r = refl

  pub gone_in_alike : (present : ℕ → Bool) (v : Device) (z m offset count : ℕ) → gone_in (with_logs g n) present v z m offset count ≡ gone_in g present v z m offset count
  unfolding gone_in
  gone_in_alike present v z m offset count = simp (zone_view_alike g n)

  pub gone_before_alike : (present : ℕ → Bool) (v : Device) (z m q : ℕ) → gone_before (with_logs g n) present v z m q ≡ gone_before g present v z m q
  unfolding gone_before
  gone_before_alike present v z m q = simp gone_in_alike

  pub not_held_alike : (present : ℕ → Bool) (v : Device) (z m offset : ℕ) → not_held (with_logs g n) present v z m offset ≡ not_held g present v z m offset
  unfolding not_held
  not_held_alike present v z m offset = simp (zone_view_alike g n)

  -- ---- calls
  pub entry_at_alike : (z m : ℕ) (S : ℕ → List ℕ) (q : ℕ) → entry_at (with_logs g n) z m S q ≡ entry_at g z m S q
  unfolding entry_at
  entry_at_alike z m S q = refl

  pub sectors_of_alike : (d : ℕ) (par : Bool) (e : Entry) → sectors_of (with_logs g n) d par e ≡ sectors_of g d par e
  sectors_of_alike d par e = ap (λ (s : List ℕ). s ∷ e.rows) (encode_alike g n d e.head)

  pub write_with_alike : (z m : ℕ) (S : ℕ → List ℕ) (p k : ℕ) → write_with (with_logs g n) z m S p k ≡ write_with g z m S p k
  unfolding write_with
  write_with_alike z m S p k = simp (encode_alike g n, entry_at_alike)

  pub zone_content_alike : (present : ℕ → Bool) (v : Device) (state : StateView) (z : ℕ) (ss : List (List ℕ)) → zone_content (with_logs g n) present v state z ss ≡ zone_content g present v state z ss
  unfolding zone_content
  zone_content_alike present v state z ss = fun_ext λ a. simp (value_at_lem g n)

  pub write_stores_alike : (present : ℕ → Bool) (v : Device) (state : StateView) (z : ℕ) (ss : List (List ℕ)) → write_stores (with_logs g n) present v state z ss ≡ write_stores g present v state z ss
  unfolding write_stores
  write_stores_alike present v state z ss = simp (write_with_alike, zone_content_alike)

  pub flush_stores_alike : (present : ℕ → Bool) → flush_stores (with_logs g n) present ≡ flush_stores g present
  unfolding flush_stores
  flush_stores_alike present = refl

  pub reset_stores_alike : (present : ℕ → Bool) (state : StateView) (z : ℕ) → reset_stores (with_logs g n) present state z ≡ reset_stores g present state z
  unfolding reset_stores
  reset_stores_alike present state z = simp (encode_alike g n)

  pub format_stores_alike : (present : ℕ → Bool) (x a : ℕ) → format_stores (with_logs g n) present x a ≡ format_stores g present x a
  unfolding format_stores
  format_stores_alike present x a = simp (encode_alike g n)

  -- ---- mount
  pub label_step_alike : (x : ℕ) (k : Shown) (w : Device) → label_step (with_logs g n) x k w ≡ label_step g x k w
  unfolding label_step
  label_step_alike x k w = simp (heads_alike g n, encode_alike g n)

  pub reset_entry_step_alike : (k : Shown) → reset_entry_step (with_logs g n) k ≡ reset_entry_step g k
  unfolding reset_entry_step
  reset_entry_step_alike k = simp (encode_alike g n)

  pub zone_reset_step_alike : (k : Shown) → zone_reset_step (with_logs g n) k ≡ zone_reset_step g k
  unfolding zone_reset_step
  zone_reset_step_alike k = refl

  pub counters_differ_alike : (present : ℕ → Bool) (w : Device) → counters_differ (with_logs g n) present w ≡ counters_differ g present w
  unfolding counters_differ
  counters_differ_alike present w = simp (heads_alike g n)

  pub counter_step_alike : (k : Shown) (differ : Bool) → counter_step (with_logs g n) k differ ≡ counter_step g k differ
  unfolding counter_step
  counter_step_alike k differ = simp (encode_alike g n)

  pub seal_step_alike : (k : Shown) (w : Device) → seal_step (with_logs g n) k w ≡ seal_step g k w
  unfolding seal_step
  seal_step_alike k w = simp (heads_alike g n, encode_alike g n)

  missing_rows_alike : (k : Shown) (l : Ending) → missing_rows (with_logs g n) k l ≡ missing_rows g k l
  missing_rows_alike k at_pointer = refl
  missing_rows_alike k (no_entry f) = refl
  missing_rows_alike k (torn (label x a) rs) = refl
  missing_rows_alike k (torn (counters cs) rs) = refl
  missing_rows_alike k (torn (zone_reset z m) rs) = refl
  missing_rows_alike k (torn (partial_parity z s f m) rs) = refl
  missing_rows_alike k (torn (seal z p m) rs) = refl
  missing_rows_alike k (torn (closing kind gen) rs) = refl

  pub torn_row_step_alike : (k : Shown) (w : Device) → torn_row_step (with_logs g n) k w ≡ torn_row_step g k w
  unfolding torn_row_step
  torn_row_step_alike k w = simp (parity_ending_alike g n, missing_rows_alike)

  pub fill_step_alike : (k : Shown) (w : Device) → fill_step (with_logs g n) k w ≡ fill_step g k w
  unfolding fill_step
  fill_step_alike k w = refl

  pub entry_step_alike : (k : Shown) (u : Device) → entry_step (with_logs g n) k u ≡ entry_step g k u
  unfolding entry_step
  entry_step_alike k u = simp (ends_at_alike g n, entries_alike g n, encode_alike g n, entry_at_alike)

  pub with_flushes_alike : (present : ℕ → Bool) (steps : List (List Store)) → with_flushes (with_logs g n) present steps ≡ with_flushes g present steps
  with_flushes_alike present [] = refl
  with_flushes_alike present (xs ∷ steps) = ap (λ (r : List (List Store)). with_flush g present xs ++ r) (with_flushes_alike present steps)

  pub after_opening_alike : (present : ℕ → Bool) (v : Device) → after_opening (with_logs g n) present v ≡ after_opening g present v
  unfolding after_opening
  after_opening_alike present v = refl

  pub spare_step_alike : (w : Device) → spare_step (with_logs g n) w ≡ spare_step g w
  unfolding spare_step
  spare_step_alike w = refl
