-- What an example computes through, in groups. To unfold one of these names is to unfold all that its line names; the names say nothing else.
use Rattle.std.specs.Prelude.{Bool, true}
use Rattle.tables.specs.meaning.Geometry.{log2, zone_sectors}
use Rattle.tables.specs.meaning.GeometryTest.{is_valid}
use Rattle.tables.specs.meaning.Placement.{stripe_length, parity_drive, unit_drive, unit_of, stripe_of, unit_index, row_index, drive_of, sector_of, address, address_at, needed}
use Rattle.tables.specs.meaning.Tables.{buffer_fits, lengths_fit, zone_place, log_place, sectors_after_append, written_after_append, pointers_after_reset, durable_after_flush, zone_at_cell, device_of, pointers_bad}
use Rattle.logs.specs.meaning.Entry.{worn_generation, encode, frame, label_bytes, read_fields, kind_of, start_of, end_of, gen_of}
use Rattle.volume.specs.meaning.Content.{row_xor, content_at, row_xor_below, entry_at}
use Rattle.volume.specs.meaning.Rules.{view_of, general_heads, general_ending, parity_entries, parity_ending, is_lost, is_present, generation_of, reset_seen, seal_seen, seal_limit, zone_view, value_at, pointer_at, clean_at, zone_at, zone_shown, showing}
use Rattle.volume.specs.meaning.State.{call_present}
use Rattle.logs.specs.meaning.Copies.{copied_general}
use Rattle.volume.specs.meaning.Roles.{zone_claim, strength, roles_in, drive_by_roles}
use Rattle.volume.specs.meaning.Emptying.{general_copies, parity_copies, new_general, new_parity, new_general_size, new_parity_size, unused_in, stays_full, emptied_for, emptying_stores, emptyings, empty_general, empty_parity, compact_stores, write_all, reset_all, gone_for_copies}
use Rattle.volume.specs.meaning.Hosts.{open_zones, zones_of, over_limit, over_open, shares_by}
use Rattle.volume.specs.meaning.Answers.{lost_in, left_out, named_drives, sectors_in}
use Rattle.volume.specs.meaning.Refusals.{bad_pointers, two_lost, bad_labels, kind_lacks, bad_logs, state_within, two_absent, two_unnamed, stale, stale_somewhere, mount_full, reset_full, write_full, compact_full, gone_in, gone_before, not_held, format_rows, look_rows, mount_rows, write_rows, flush_rows, reset_rows, compact_rows, read_rows, peek_rows}
use Rattle.volume.specs.meaning.Calls.{format_stores, write_stores, zone_content, write_with, flush_stores, reset_stores}
use Rattle.volume.specs.meaning.Mount.{mount_stores, phases_of_logs, phases_before_entries, phases_of_parity_logs, phases_of_entries, mount_look, mount_shows, after_opening, spare_step, label_step, reset_entry_step, zone_reset_step, counter_step, counters_differ, seal_step, torn_row_step, fill_step, entry_step}
use Rattle.volume.specs.meaning.CallContracts.{records_below, format_verdict, format_on, flush_verdict, flush_on, write_verdict, write_on, reset_verdict, reset_on, compact_verdict, compact_on, look_verdict, look_on, mount_verdict, stores_before, parity_log_stores, stores_to_parity_logs, mount_stores_on, mount_shown_on, mount_on, read_number, values_on, read_on, peek_number, peek_on}

-- geometry and placement
unfoldable pub placement_open : Bool
unfolding is_valid log2 zone_sectors stripe_length parity_drive unit_drive unit_of stripe_of unit_index row_index drive_of sector_of address address_at needed
placement_open = true

-- entries and their bytes
unfoldable pub entries_open : Bool
unfolding worn_generation encode frame label_bytes read_fields kind_of start_of end_of gen_of row_xor content_at row_xor_below entry_at
entries_open = true

-- what the drives show
unfoldable pub rules_open : Bool
unfolding view_of general_heads general_ending parity_entries parity_ending is_lost is_present call_present generation_of reset_seen seal_seen seal_limit zone_view value_at pointer_at clean_at zone_at zone_shown showing
rules_open = true

-- where the logs lie, and how they are emptied
unfoldable pub roles_open : Bool
unfolding zone_claim strength roles_in drive_by_roles
roles_open = true

unfoldable pub emptying_open : Bool
unfolding copied_general general_copies parity_copies new_general new_parity new_general_size new_parity_size unused_in stays_full emptied_for emptying_stores emptyings empty_general empty_parity compact_stores write_all reset_all gone_for_copies
emptying_open = true

-- two hosts
unfoldable pub hosts_open : Bool
unfolding open_zones zones_of over_limit over_open shares_by
hosts_open = true

-- refusals
unfoldable pub refusals_open : Bool
unfolding lengths_fit buffer_fits bad_pointers two_lost bad_labels kind_lacks bad_logs state_within two_absent two_unnamed stale stale_somewhere mount_full reset_full write_full compact_full gone_in gone_before not_held
refusals_open = true

unfoldable pub refusal_rows_open : Bool
unfolding format_rows look_rows mount_rows write_rows flush_rows reset_rows compact_rows read_rows peek_rows
refusal_rows_open = true

-- the calls' stores, and what they hand on
unfoldable pub stores_open : Bool
unfolding format_stores write_stores zone_content write_with flush_stores reset_stores lost_in left_out named_drives sectors_in
stores_open = true

-- the mount's steps
unfoldable pub mount_open : Bool
unfolding mount_stores phases_of_logs phases_before_entries phases_of_parity_logs phases_of_entries mount_look mount_shows after_opening spare_step label_step reset_entry_step zone_reset_step counter_step counters_differ seal_step torn_row_step fill_step entry_step
mount_open = true

-- ---- a case on the device, and one on the tables
unfoldable pub device_open : Bool
unfolding placement_open entries_open rules_open roles_open emptying_open hosts_open refusals_open refusal_rows_open stores_open mount_open
device_open = true

unfoldable pub contracts_open : Bool
unfolding records_below format_verdict format_on flush_verdict flush_on write_verdict write_on reset_verdict reset_on compact_verdict compact_on look_verdict look_on mount_verdict stores_before parity_log_stores stores_to_parity_logs mount_stores_on mount_shown_on mount_on read_number values_on read_on peek_number peek_on
contracts_open = true

unfoldable pub tables_open : Bool
unfolding device_open contracts_open zone_place log_place sectors_after_append written_after_append pointers_after_reset durable_after_flush zone_at_cell device_of pointers_bad
tables_open = true
