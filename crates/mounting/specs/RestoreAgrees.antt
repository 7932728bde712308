-- Steps 6 to 8 of a mount as the code makes them are the rules': what is shown, with the values read below the look's pointers, is the mount's look.
use Rattle.std.specs.Prelude.{◌≡◌, refl, Bool, ℕ, ◌-◌, ◌<◌, min, get_or}
use Rattle.std.proofs.Common.{sym, ◌∙◌}
use Rattle.std.proofs.Math.Path.{ap, fun_ext}
use Rattle.std.proofs.Math.Bool.{true}
use mathlib.Core.List.{List, []}
use Rattle.std.proofs.Math.ListN.{length}
use Rattle.tables.specs.declared.Geometry.{Geometry}
use Rattle.tables.specs.meaning.Below.{tabulate_from}
use Rattle.tables.specs.meaning.Placement.{needed}
use Rattle.tables.specs.meaning.Device.{Device, ZoneView}
use Rattle.tables.specs.meaning.Geometry.{data_zone}
use Rattle.logs.specs.meaning.Entry.{parity_zone, label, counters, zone_reset, partial_parity, seal, closing}
use Rattle.logs.specs.laws.Entry.{decode_legal}
use Rattle.logs.specs.code.Judge.{partial_small}
use Rattle.logs.specs.meaning.Walk.{Ending, at_pointer, no_entry, torn, walk_log}
use Rattle.logs.specs.laws.Places.{EndsAt, walk_places}
use Rattle.volume.specs.meaning.Content.{content_at}
use Rattle.volume.specs.meaning.Calls.{append_all}
use Rattle.volume.specs.meaning.Rules.{Shown, ZoneShown, parity_ending, showing}
use Rattle.volume.specs.looking.Looking.{sectors_only, shown_sectors}
use Rattle.volume.specs.meaning.Mount.{row_for, missing_rows, torn_row_step, fill_step, entry_step}
use Rattle.volume.specs.laws.EachBelow.{each_below_cong}

-- ---- what is shown of the volume's zones decides them
module _ (g : Geometry) (s t : Shown) (same : (z : ℕ) → z < g.zones → s.zone z ≡ t.zone z) where
  pub fill_told : (w : Device) → fill_step g s w ≡ fill_step g t w
  unfolding fill_step
  fill_told w = each_below_cong _ _ g.drives (λ d hd. each_below_cong _ _ g.zones (λ z hz. rw (same z hz) refl))

  pub entries_told : (u : Device) → entry_step g s u ≡ entry_step g t u
  unfolding entry_step
  entries_told u = each_below_cong _ _ g.drives (λ d hd. each_below_cong _ _ g.zones (λ z hz. rw (same z hz) refl))

  -- a torn entry is of a zone of the volume
  rows_told : (d : ℕ) (ss : List (List ℕ)) (l : Ending) (x : ℕ) → EndsAt g d true ss l x → missing_rows g s l ≡ missing_rows g t l
  rows_told d ss at_pointer x e = refl
  rows_told d ss (no_entry f) x e = refl
  rows_told d ss (torn (label y a) rs) x e = refl
  rows_told d ss (torn (counters cs) rs) x e = refl
  rows_told d ss (torn (zone_reset z n) rs) x e = refl
  rows_told d ss (torn (partial_parity z i f n) rs) x e =
      ap (λ (q : ZoneShown). tabulate_from (row_for g q i f n) (length rs) (min f g.unit - length rs)) (same z (partial_small g d true z i f n (decode_legal g d true (get_or ss x []) (partial_parity z i f n) e.1).1).0)
  rows_told d ss (torn (seal z p n) rs) x e = refl
  rows_told d ss (torn (closing kind gen) rs) x e = refl

  pub torn_told : (w : Device) → torn_row_step g s w ≡ torn_row_step g t w
  unfolding torn_row_step parity_ending
  torn_told w = each_below_cong _ _ g.drives (λ d hd. ap (append_all d parity_zone) (rows_told d (w d parity_zone).sectors (walk_log g d true (w d parity_zone).sectors).last _ (walk_places g d true (w d parity_zone).sectors).left))

-- ---- they read sectors alone
module _ (g : Geometry) (v w : Device) (same : (d z : ℕ) → (v d z).sectors ≡ (w d z).sectors) where
  pub torn_same : (s : Shown) → torn_row_step g s v ≡ torn_row_step g s w
  unfolding torn_row_step parity_ending
  torn_same s = each_below_cong _ _ g.drives (λ d hd. ap (λ (ss : List (List ℕ)). append_all d parity_zone (missing_rows g s (walk_log g d true ss).last)) (same d parity_zone))

  pub fill_same : (s : Shown) → fill_step g s v ≡ fill_step g s w
  unfolding fill_step
  fill_same s = each_below_cong _ _ g.drives (λ d hd. each_below_cong _ _ g.zones (λ z hz.
      ap (λ (ss : List (List ℕ)). append_all d (data_zone z) (tabulate_from (content_at g.drives g.unit z (s.zone z).value d) (length ss) (needed g.drives g.unit z (s.zone z).pointer d - length ss))) (same d (data_zone z))))

  pub shown_same : (present : ℕ → Bool) (x : ℕ) → showing g present x v ≡ showing g present x w
  shown_same present x =
      let e : sectors_only v ≡ sectors_only w = fun_ext λ d. fun_ext λ z. ap (λ (ss : List (List ℕ)). let r : ZoneView = record { sectors = ss; durable = 0 } in r) (same d z) in
      shown_sectors g present x v ∙ ap (showing g present x) e ∙ sym (shown_sectors g present x w)
