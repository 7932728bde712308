-- Nor do a mount's look and stores read where a geometry places the logs.
use Rattle.std.specs.Prelude.{◌≡◌, Bool, ℕ}
use Rattle.std.proofs.Common.{ap, ◌∙◌}
use Rattle.tables.specs.declared.Geometry.{Geometry}
use Rattle.tables.specs.meaning.Device.{Device}
use Rattle.volume.specs.meaning.Roles.{by_roles}
use Rattle.volume.specs.meaning.Mount.{after_opening, mount_view, mount_look, phases_of_logs, phases_before_entries, phases_of_parity_logs, phases_of_entries, mount_stores, mount_shows}
use Rattle.volume.specs.meaning.Hosts.{shares_in}
use Rattle.volume.specs.laws.LogPlaces.{with_logs}
use Rattle.volume.specs.laws.RulesUnread.{showing_alike, roles_alike, by_roles_alike}
use Rattle.volume.specs.laws.CallsUnread.{spare_step_alike, label_step_alike, reset_entry_step_alike, zone_reset_step_alike, counters_differ_alike, counter_step_alike, seal_step_alike, torn_row_step_alike, fill_step_alike, entry_step_alike, after_opening_alike}
use Rattle.volume.specs.laws.EmptyingUnread.{empty_general_alike, empty_parity_alike, unused_in_alike, emptied_for_alike}

module _ (g : Geometry) (n : ℕ) where
  -- ---- a mount's look
  pub mount_view_alike : (present : ℕ → Bool) (x : ℕ) (v : Device) → mount_view (with_logs g n) present x v ≡ mount_view g present x v
  mount_view_alike present x v = by_roles_alike g n (after_opening (with_logs g n) present v) ∙ ap (by_roles g) (after_opening_alike g n present v)

  pub mount_look_alike : (present : ℕ → Bool) (x : ℕ) (v : Device) → mount_look (with_logs g n) present x v ≡ mount_look g present x v
  unfolding mount_look
  mount_look_alike present x v = simp (showing_alike g n, mount_view_alike)

  -- ---- a mount's stores, and what it shows
  phases_of_logs_alike : (present : ℕ → Bool) (x : ℕ) (v : Device) → phases_of_logs (with_logs g n) present x v ≡ phases_of_logs g present x v
  unfolding phases_of_logs
  phases_of_logs_alike present x v = simp (after_opening_alike g n, by_roles_alike g n, roles_alike g n, mount_look_alike, spare_step_alike g n, empty_general_alike g n, emptied_for_alike g n)

  phases_before_alike : (present : ℕ → Bool) (x : ℕ) (v : Device) → phases_before_entries (with_logs g n) present x v ≡ phases_before_entries g present x v
  unfolding phases_before_entries
  phases_before_alike present x v =
      simp (phases_of_logs_alike, after_opening_alike g n, by_roles_alike g n, roles_alike g n, mount_look_alike, emptied_for_alike g n, label_step_alike g n, reset_entry_step_alike g n, zone_reset_step_alike g n, counters_differ_alike g n, counter_step_alike g n, seal_step_alike g n, torn_row_step_alike g n, fill_step_alike g n)

  parity_phases_alike : (present : ℕ → Bool) (x : ℕ) (v u : Device) → phases_of_parity_logs (with_logs g n) present x v u ≡ phases_of_parity_logs g present x v u
  unfolding phases_of_parity_logs
  parity_phases_alike present x v u = simp (after_opening_alike g n, by_roles_alike g n, roles_alike g n, mount_look_alike, emptied_for_alike g n, empty_parity_alike g n)

  entry_phases_alike : (present : ℕ → Bool) (x : ℕ) (v u : Device) → phases_of_entries (with_logs g n) present x v u ≡ phases_of_entries g present x v u
  unfolding phases_of_entries
  entry_phases_alike present x v u = simp (after_opening_alike g n, by_roles_alike g n, roles_alike g n, mount_look_alike, emptied_for_alike g n, entry_step_alike g n)

  pub mount_stores_alike : (present : ℕ → Bool) (x : ℕ) (v : Device) → mount_stores (with_logs g n) present x v ≡ mount_stores g present x v
  unfolding mount_stores
  mount_stores_alike present x v = simp (phases_before_alike, parity_phases_alike, entry_phases_alike)

  pub shares_alike : (present : ℕ → Bool) (v : Device) → shares_in (with_logs g n) present v ≡ shares_in g present v
  shares_alike present v = simp (roles_alike g n, by_roles_alike g n, unused_in_alike g n)

  pub mount_shows_alike : (present : ℕ → Bool) (x : ℕ) (v : Device) → mount_shows (with_logs g n) present x v ≡ mount_shows g present x v
  unfolding mount_shows
  mount_shows_alike present x v = simp (mount_stores_alike, by_roles_alike g n, showing_alike g n)
