-- What a mount appends to the logs of a present drive, on any input: headers that read back to the general log, whose labels name the lost drive
-- (`general_joins`); to the parity log the rows that lack from a torn entry, then whole entries (`torn_rows_join`, `entries_join_parity`). It resets neither.
use Rattle.std.proofs.Math.Path.{◌≡◌}
use Rattle.std.specs.Prelude.{refl, ◌≢◌, ◌⊎◌, Bool, false, ◌&&◌, ◌||◌, not, ℕ, zero, suc, ◌+◌, ◌-◌, ◌<◌, min, List, [], ◌∷◌, ◌++◌, length, get_or, ltb, eqb}
use Rattle.std.proofs.Common.{sym, ap, ◌∙◌, subst, true≢false, append-nil, length-drop, eqb-true}
use Rattle.std.proofs.Math.Bool.{true}
use Rattle.std.proofs.Math.Decide.{ℕ_discrete}
use native.Mathlib.Omega.{arith}
use Rattle.tables.specs.declared.Geometry.{Geometry}
use Rattle.tables.specs.meaning.Basics.{pick}
use Rattle.tables.specs.laws.Basics.{and_split}
use Rattle.tables.specs.meaning.Below.{each_below, any_below, tabulate_from}
use Rattle.tables.specs.laws.Below.{length_tabulate_from}
use Rattle.tables.specs.meaning.Lists.{any_of, concat}
use Rattle.tables.specs.meaning.Drives.{no_drive}
use Rattle.tables.specs.meaning.Geometry.{Valid, data_zone}
use Rattle.tables.specs.meaning.Placement.{needed}
use Rattle.tables.specs.meaning.Device.{Device, Store, reset}
use Rattle.logs.specs.meaning.Entry.{general_zone, parity_zone, Header, Entry, label, counters, zone_reset, partial_parity, seal, closing, rows_of, encode, fits_log}
use Rattle.logs.specs.declared.Fault.{Fault}
use Rattle.logs.specs.meaning.Walk.{Ending, at_pointer, no_entry, torn, walk_log, sectors_of}
use Rattle.logs.specs.meaning.Heads.{last_lost, is_seal_at, ends_at}
use Rattle.logs.specs.laws.Walk.{Reads}
use Rattle.logs.specs.laws.Legal.{legal_fits}
use Rattle.logs.specs.laws.Places.{EndsAt, walk_places}
use Rattle.volume.specs.meaning.State.{is_empty, is_sealed}
use Rattle.volume.specs.meaning.Content.{content_at, inside_stripe, entry_at, parity_drive_at}
use Rattle.volume.specs.meaning.Rules.{Shown, general_heads, parity_entries, parity_ending}
use Rattle.volume.specs.meaning.Calls.{append_all, append_general, generations_from, logs_reset}
use Rattle.volume.specs.meaning.Mount.{label_step, reset_entry_step, zone_reset_step, counter_step, seal_step, torn_row_step, fill_step, entry_step, needs_reset, next_generation, counters_differ, row_for, missing_rows, mount_look, mount_view, steps_before_entries}
use Rattle.volume.specs.laws.SectorsStored.{sectors_to, AllKeepLogs, EachKeepsLogs, keep_each, keep_pick, keep_appends, sectors_append, each_stored, pick_stored, steps_stored, none_join, own_stored, appends_there, appends_other_drive, appends_other_zone}
use Rattle.volume.specs.laws.GrowingLogs.{Plain, Headers, headers_join, Entries, no_entries, one_entry, entries_join, Lacks}
use Rattle.volume.specs.laws.MountHeadersRead.{label_reads, reset_reads, counters_read, seal_reads, entry_reads, entry_whole}

-- a label that names drive x, and any other header but a closing entry
abbrev pub NamesLost : ℕ → Header → Type 0
NamesLost x (label y a) = y ≡ x
NamesLost x (counters cs) = Unit {0}
NamesLost x (zone_reset z n) = Unit {0}
NamesLost x (partial_parity z s f n) = Unit {0}
NamesLost x (seal z p n) = Unit {0}
NamesLost x (closing kind gen) = ⊥

-- what a mount appends to a general log is no closing entry
pub names_plain : (x : ℕ) (h : Header) → NamesLost x h → Plain h
names_plain x (label y a) p k n e = let o : ◌≡◌ {A = ℕ} 0 1 = cc in omega arith
names_plain x (counters cs) p k n e = let o : ◌≡◌ {A = ℕ} 0 1 = cc in omega arith
names_plain x (zone_reset z i) p k n e = let o : ◌≡◌ {A = ℕ} 0 1 = cc in omega arith
names_plain x (partial_parity z s f i) p k n e = let o : ◌≡◌ {A = ℕ} 0 1 = cc in omega arith
names_plain x (seal z q i) p k n e = let o : ◌≡◌ {A = ℕ} 0 1 = cc in omega arith
names_plain x (closing j i) p k n e = p

-- ---- parts of the steps: when each stores, and what
abbrev label_due : Geometry → ℕ → Device → ℕ → Bool
label_due g x w d = ltb x g.drives && not (eqb (last_lost no_drive (general_heads g w d)) x)

abbrev lost_label : ℕ → Shown → Header
lost_label x k = label x k.array

abbrev counters_due : Geometry → Shown → Bool → Bool
counters_due g k differ = any_below (λ z. is_empty (k.zone z).condition) g.zones || differ

abbrev next_counters : Geometry → Shown → Header
next_counters g k = counters (generations_from (next_generation k) zero g.zones)

abbrev seal_due : Geometry → Shown → Device → ℕ → ℕ → Bool
seal_due g k w d z = is_sealed (k.zone z).condition && not (any_of (is_seal_at z (k.zone z).generation (k.zone z).pointer) (general_heads g w d))

abbrev seal_here : Shown → ℕ → Header
seal_here k z = seal z (k.zone z).pointer (k.zone z).generation

abbrev filling : Geometry → Shown → Device → ℕ → ℕ → List (List ℕ)
filling g k w d z = tabulate_from (content_at g.drives g.unit z (k.zone z).value d) (length (w d (data_zone z)).sectors) (needed g.drives g.unit z (k.zone z).pointer d - length (w d (data_zone z)).sectors)

abbrev entry_due : Geometry → Shown → Device → ℕ → ℕ → Bool
entry_due g k u d z = inside_stripe g (k.zone z).pointer && (eqb d (parity_drive_at g z (k.zone z).pointer) && not (any_of (λ (e : Entry). ends_at g z (k.zone z).generation (k.zone z).pointer e.head) (parity_entries g u d)))

abbrev entry_here : Geometry → Shown → ℕ → Entry
entry_here g k z = entry_at g z (k.zone z).generation (k.zone z).value (k.zone z).pointer

-- ---- no log is reset
module _ (g : Geometry) (k : Shown) where
  keep_general : (b : Bool) (h : Header) (d : ℕ) → AllKeepLogs (pick b (append_general g h d) [])
  keep_general b h d = keep_pick b (append_general g h d) (tt, tt)

  pub entries_keep : (u : Device) → AllKeepLogs (entry_step g k u)
  unfolding entry_step
  entries_keep u = keep_each _ g.drives (λ d. keep_each _ g.zones (λ z. keep_pick (entry_due g k u d z) (append_all d parity_zone (sectors_of g d true (entry_here g k z))) (keep_appends d parity_zone (sectors_of g d true (entry_here g k z)))))

  pub steps_keep : (present : ℕ → Bool) (x : ℕ) (w : Device) → EachKeepsLogs (steps_before_entries g present x k w)
  unfolding label_step reset_entry_step zone_reset_step counter_step seal_step torn_row_step fill_step
  steps_keep present x w = (labels, (reset_entries_lem, (resets, (raised, (seals, (rows, (fill, tt)))))))
    where
      labels : AllKeepLogs (label_step g x k w)
      labels = keep_each _ g.drives (λ d. keep_general (label_due g x w d) (lost_label x k) d)

      reset_entries_lem : AllKeepLogs (reset_entry_step g k)
      reset_entries_lem = keep_each _ g.drives (λ d. keep_each _ g.zones (λ z. keep_general ((k.zone z).by_reset && logs_reset g z d) (zone_reset z (k.zone z).generation) d))

      resets : AllKeepLogs (zone_reset_step g k)
      resets = keep_each _ g.drives (λ d. keep_each _ g.zones (λ z. keep_pick (needs_reset (k.zone z)) (reset d (data_zone z) ∷ []) (omega arith, tt)))

      raised : AllKeepLogs (counter_step g k (counters_differ g present w))
      raised = keep_pick (counters_due g k (counters_differ g present w)) (each_below (λ d. append_general g (next_counters g k) d) g.drives) (keep_each (λ d. append_general g (next_counters g k) d) g.drives (λ d. (tt, tt)))

      seals : AllKeepLogs (seal_step g k w)
      seals = keep_each _ g.drives (λ d. keep_each _ g.zones (λ z. keep_general (seal_due g k w d z) (seal_here k z) d))

      rows : AllKeepLogs (torn_row_step g k w)
      rows = keep_each _ g.drives (λ d. keep_appends d parity_zone (missing_rows g k (parity_ending g w d)))

      fill : AllKeepLogs (fill_step g k w)
      fill = keep_each _ g.drives (λ d. keep_each _ g.zones (λ z. keep_appends d (data_zone z) (filling g k w d z)))

-- ==== the general log of drive d
module _ (g : Geometry) (ok : Valid g) (present : ℕ → Bool) (x : ℕ) (v : Device) (d : ℕ) where
  abbrev look : Shown
  look = mount_look g present x v

  abbrev opened : Device
  opened = mount_view g present x v

  abbrev Joins : List (List ℕ) → Type 0
  Joins = Headers g d (NamesLost x)

  one_joins : (h : Header) (e : ℕ) → (d ≡ e → Reads g d false h × NamesLost x h) → Joins (sectors_to d general_zone (append_general g h e))
  one_joins h e f = go (ℕ_discrete d e)
    where
      go : Dec (d ≡ e) → Joins (sectors_to d general_zone (append_general g h e))
      go (yes q) = let (r, n) = f q in subst (λ (i : ℕ). Joins (sectors_to d general_zone (append_general g h i))) q (subst Joins (sym (appends_there d general_zone (encode g d h ∷ []))) ((h, refl, r, n), tt))
      go (no n) = subst Joins (sym (appends_other_drive d general_zone e general_zone (encode g e h ∷ []) n)) tt

  each_joins : (f : ℕ → List Store) (n : ℕ) → ((i : ℕ) → i < n → Joins (sectors_to d general_zone (f i))) → Joins (sectors_to d general_zone (each_below f n))
  each_joins = each_stored d general_zone Joins tt (headers_join g d (NamesLost x))

  pick_joins : (b : Bool) (xs : List Store) → (b ≡ true → Joins (sectors_to d general_zone xs)) → Joins (sectors_to d general_zone (pick b xs []))
  pick_joins = pick_stored d general_zone Joins tt (headers_join g d (NamesLost x))

  due_joins : (b : Bool) (h : Header) (e : ℕ) → (b ≡ true → d ≡ e → Reads g d false h × NamesLost x h) → Joins (sectors_to d general_zone (pick b (append_general g h e) []))
  due_joins b h e f = pick_joins b (append_general g h e) (λ q. one_joins h e (f q))

  -- sectors of another zone
  other_joins : (e y : ℕ) (ss : List (List ℕ)) → general_zone ≢ y → Joins (sectors_to d general_zone (append_all e y ss))
  other_joins e y ss n = subst Joins (sym (appends_other_zone d general_zone e y ss n)) tt

  labels_join : (x < g.drives) ⊎ (x ≡ no_drive) → Joins (sectors_to d general_zone (label_step g x look opened))
  unfolding label_step
  labels_join hx = each_joins _ g.drives (λ e l. due_joins (label_due g x opened e) (lost_label x look) e (λ q i. (label_reads g ok present x v d hx, refl)))

  reset_entries_join : Joins (sectors_to d general_zone (reset_entry_step g look))
  unfolding reset_entry_step
  reset_entries_join =
      each_joins _ g.drives (λ e l. each_joins _ g.zones (λ z hz. due_joins ((look.zone z).by_reset && logs_reset g z e) (zone_reset z (look.zone z).generation) e (λ q i.
      (reset_reads g ok present x v d z hz (rw i (and_split (look.zone z).by_reset (logs_reset g z e) q).1), tt))))

  resets_join : Joins (sectors_to d general_zone (zone_reset_step g look))
  unfolding zone_reset_step
  resets_join = each_joins _ g.drives (λ e l. each_joins _ g.zones (λ z hz. pick_joins (needs_reset (look.zone z)) (reset e (data_zone z) ∷ []) (λ q. tt)))

  counters_join : Joins (sectors_to d general_zone (counter_step g look (counters_differ g present opened)))
  unfolding counter_step
  counters_join =
      pick_joins (counters_due g look (counters_differ g present opened)) (each_below (λ e. append_general g (next_counters g look) e) g.drives)
      (λ q. each_joins (λ e. append_general g (next_counters g look) e) g.drives (λ e l. one_joins (next_counters g look) e (λ i. (counters_read g ok present x v d, tt))))

  seals_join : Joins (sectors_to d general_zone (seal_step g look opened))
  unfolding seal_step
  seals_join =
      each_joins _ g.drives (λ e l. each_joins _ g.zones (λ z hz. due_joins (seal_due g look opened e z) (seal_here look z) e (λ q i.
      (seal_reads g ok present x v d z hz (and_split (is_sealed (look.zone z).condition) (not (any_of (is_seal_at z (look.zone z).generation (look.zone z).pointer) (general_heads g opened e))) q).0, tt))))

  torn_rows_elsewhere : Joins (sectors_to d general_zone (torn_row_step g look opened))
  unfolding torn_row_step
  torn_rows_elsewhere = each_joins _ g.drives (λ e l. other_joins e parity_zone (missing_rows g look (parity_ending g opened e)) (λ q. omega arith))

  fill_elsewhere : Joins (sectors_to d general_zone (fill_step g look opened))
  unfolding fill_step
  fill_elsewhere = each_joins _ g.drives (λ e l. each_joins _ g.zones (λ z hz. other_joins e (data_zone z) (filling g look opened e z) (λ q. omega arith)))

  entries_elsewhere : (u : Device) → Joins (sectors_to d general_zone (entry_step g look u))
  unfolding entry_step
  entries_elsewhere u =
      each_joins _ g.drives (λ e l. each_joins _ g.zones (λ z hz. pick_joins (entry_due g look u e z) (append_all e parity_zone (sectors_of g e true (entry_here g look z))) (λ q.
      other_joins e parity_zone (sectors_of g e true (entry_here g look z)) (λ i. omega arith))))

  pub general_joins : (x < g.drives) ⊎ (x ≡ no_drive) → (u : Device) → Joins (sectors_to d general_zone (concat (steps_before_entries g present x look opened)) ++ sectors_to d general_zone (entry_step g look u))
  general_joins hx u =
      let steps = steps_before_entries g present x look opened in
      headers_join g d (NamesLost x) (sectors_to d general_zone (concat steps)) (sectors_to d general_zone (entry_step g look u))
      (steps_stored d general_zone Joins tt (headers_join g d (NamesLost x)) steps (labels_join hx, (reset_entries_join, (resets_join, (counters_join, (seals_join, (torn_rows_elsewhere, (fill_elsewhere, tt))))))))
      (entries_elsewhere u)

-- ==== the parity log of drive d
module _ (g : Geometry) (k : Shown) (w : Device) (d : ℕ) where
  abbrev Unseen : List (List ℕ) → Type 0
  Unseen ss = ss ≡ []

  each_unseen : (f : ℕ → List Store) (n : ℕ) → ((i : ℕ) → i < n → Unseen (sectors_to d parity_zone (f i))) → Unseen (sectors_to d parity_zone (each_below f n))
  each_unseen = each_stored d parity_zone Unseen refl none_join

  pick_unseen : (b : Bool) (xs : List Store) → (b ≡ true → Unseen (sectors_to d parity_zone xs)) → Unseen (sectors_to d parity_zone (pick b xs []))
  pick_unseen = pick_stored d parity_zone Unseen refl none_join

  general_unseen : (h : Header) (e : ℕ) → Unseen (sectors_to d parity_zone (append_general g h e))
  general_unseen h e = appends_other_zone d parity_zone e general_zone (encode g e h ∷ []) (λ q. omega arith)

  due_unseen : (b : Bool) (h : Header) (e : ℕ) → Unseen (sectors_to d parity_zone (pick b (append_general g h e) []))
  due_unseen b h e = pick_unseen b (append_general g h e) (λ q. general_unseen h e)

  labels_unseen : (x : ℕ) → Unseen (sectors_to d parity_zone (label_step g x k w))
  unfolding label_step
  labels_unseen x = each_unseen _ g.drives (λ e l. due_unseen (label_due g x w e) (lost_label x k) e)

  reset_entries_unseen : Unseen (sectors_to d parity_zone (reset_entry_step g k))
  unfolding reset_entry_step
  reset_entries_unseen = each_unseen _ g.drives (λ e l. each_unseen _ g.zones (λ z hz. due_unseen ((k.zone z).by_reset && logs_reset g z e) (zone_reset z (k.zone z).generation) e))

  resets_unseen : Unseen (sectors_to d parity_zone (zone_reset_step g k))
  unfolding zone_reset_step
  resets_unseen = each_unseen _ g.drives (λ e l. each_unseen _ g.zones (λ z hz. pick_unseen (needs_reset (k.zone z)) (reset e (data_zone z) ∷ []) (λ q. refl)))

  counters_unseen : (present : ℕ → Bool) → Unseen (sectors_to d parity_zone (counter_step g k (counters_differ g present w)))
  unfolding counter_step
  counters_unseen present =
      pick_unseen (counters_due g k (counters_differ g present w)) (each_below (λ e. append_general g (next_counters g k) e) g.drives) (λ q. each_unseen (λ e. append_general g (next_counters g k) e) g.drives (λ e l. general_unseen (next_counters g k) e))

  seals_unseen : Unseen (sectors_to d parity_zone (seal_step g k w))
  unfolding seal_step
  seals_unseen = each_unseen _ g.drives (λ e l. each_unseen _ g.zones (λ z hz. due_unseen (seal_due g k w e z) (seal_here k z) e))

  torn_rows_there : d < g.drives → sectors_to d parity_zone (torn_row_step g k w) ≡ missing_rows g k (parity_ending g w d)
  unfolding torn_row_step
  torn_rows_there hd = own_stored (λ e. append_all e parity_zone (missing_rows g k (parity_ending g w e))) d parity_zone (λ e n. appends_other_drive d parity_zone e parity_zone (missing_rows g k (parity_ending g w e)) n) g.drives hd ∙ appends_there d parity_zone (missing_rows g k (parity_ending g w d))

  fill_unseen : Unseen (sectors_to d parity_zone (fill_step g k w))
  unfolding fill_step
  fill_unseen = each_unseen _ g.drives (λ e l. each_unseen _ g.zones (λ z hz. appends_other_zone d parity_zone e (data_zone z) (filling g k w e z) (λ q. omega arith)))

  skip_step : (xs : List Store) (steps : List (List Store)) → Unseen (sectors_to d parity_zone xs) → sectors_to d parity_zone (concat (xs ∷ steps)) ≡ sectors_to d parity_zone (concat steps)
  skip_step xs steps e = sectors_append d parity_zone xs (concat steps) ∙ ap (λ (ss : List (List ℕ)). ss ++ sectors_to d parity_zone (concat steps)) e

  pub torn_rows_join : (present : ℕ → Bool) (x : ℕ) → d < g.drives → sectors_to d parity_zone (concat (steps_before_entries g present x k w)) ≡ missing_rows g k (parity_ending g w d)
  torn_rows_join present x hd =
      let rows = torn_row_step g k w in
      let from6 : List (List Store) = rows ∷ fill_step g k w ∷ [] in
      let from5 : List (List Store) = seal_step g k w ∷ from6 in
      let from4 : List (List Store) = counter_step g k (counters_differ g present w) ∷ from5 in
      let from3 : List (List Store) = zone_reset_step g k ∷ from4 in
      let from2 : List (List Store) = reset_entry_step g k ∷ from3 in
      skip_step (label_step g x k w) from2 (labels_unseen x) ∙ skip_step (reset_entry_step g k) from3 reset_entries_unseen ∙ skip_step (zone_reset_step g k) from4 resets_unseen ∙ skip_step (counter_step g k (counters_differ g present w)) from5 (counters_unseen present) ∙ skip_step (seal_step g k w) from6 seals_unseen
      ∙ sectors_append d parity_zone rows (fill_step g k w ++ []) ∙ ap (λ (ss : List (List ℕ)). sectors_to d parity_zone rows ++ ss) (skip_step (fill_step g k w) [] fill_unseen)
      ∙ append-nil (sectors_to d parity_zone rows) ∙ torn_rows_there hd

-- the rows that join are those that lack
pub missing_lack : (g : Geometry) (k : Shown) (d : ℕ) (ss : List (List ℕ)) → ((f : Fault) → (walk_log g d true ss).last ≢ no_entry f) → Lacks g d (walk_log g d true ss).last (length (missing_rows g k (walk_log g d true ss).last))
missing_lack g k d ss n = go (walk_log g d true ss).last n (walk_places g d true ss).left
  where
    rows : (h : Header) (rs : List (List ℕ)) → fits_log g d true h ≡ true → length rs < rows_of g h → length rs + length (missing_rows g k (torn h rs)) ≡ rows_of g h
    rows (label x a) rs f l = absurd (true≢false (sym f))
    rows (counters cs) rs f l = absurd (true≢false (sym f))
    rows (zone_reset z m) rs f l = absurd (true≢false (sym f))
    rows (partial_parity z s c m) rs f l = omega (arith, l, length_tabulate_from (row_for g (k.zone z) s c m) (length rs) (min c g.unit - length rs))
    rows (seal z p m) rs f l = absurd (true≢false (sym f))
    rows (closing kind gen) rs f l = absurd (omega arith)

    go : (end : Ending) → ((f : Fault) → end ≢ no_entry f) → EndsAt g d true ss end (walk_log g d true ss).position → Lacks g d end (length (missing_rows g k end))
    go at_pointer q p = refl
    go (no_entry f) q p = absurd (q f refl)
    go (torn h rs) q p =
        let x = (walk_log g d true ss).position in
        let long : length rs ≡ length ss - suc x = ap length p.2 ∙ length-drop (suc x) ss in
        rows h rs (legal_fits g d true (get_or ss x []) h p.1) (omega (arith, long, p.0, p.3))

-- step 8: whole entries
module _ (g : Geometry) (ok : Valid g) (present : ℕ → Bool) (x : ℕ) (v u : Device) (d : ℕ) where
  abbrev shown : Shown
  shown = mount_look g present x v

  entry_plain : (z : ℕ) → Plain (entry_here g shown z).head
  unfolding entry_at
  entry_plain z k n e = let o : ◌≡◌ {A = ℕ} 0 1 = cc in omega arith

  entry_joins : (e z : ℕ) → z < g.zones → inside_stripe g (shown.zone z).pointer ≡ true → e ≡ parity_drive_at g z (shown.zone z).pointer
      → Entries g d (sectors_to d parity_zone (append_all e parity_zone (sectors_of g e true (entry_here g shown z))))
  entry_joins e z hz i p = go (ℕ_discrete d e)
    where
      entry : Entry
      entry = entry_here g shown z

      go : Dec (d ≡ e) → Entries g d (sectors_to d parity_zone (append_all e parity_zone (sectors_of g e true entry)))
      go (yes q) = subst (λ (j : ℕ). Entries g d (sectors_to d parity_zone (append_all j parity_zone (sectors_of g j true entry)))) q
          (subst (Entries g d) (sym (appends_there d parity_zone (sectors_of g d true entry))) (one_entry g d entry (entry_reads g ok present x v d z hz i (q ∙ p)) (entry_whole g ok present x v d z) (entry_plain z)))
      go (no n) = subst (Entries g d) (sym (appends_other_drive d parity_zone e parity_zone (sectors_of g e true entry) n)) (no_entries g d)

  each_entries : (f : ℕ → List Store) (n : ℕ) → ((i : ℕ) → i < n → Entries g d (sectors_to d parity_zone (f i))) → Entries g d (sectors_to d parity_zone (each_below f n))
  each_entries = each_stored d parity_zone (Entries g d) (no_entries g d) (entries_join g d)

  due_entries : (e z : ℕ) → z < g.zones → Entries g d (sectors_to d parity_zone (pick (entry_due g shown u e z) (append_all e parity_zone (sectors_of g e true (entry_here g shown z))) []))
  due_entries e z hz = pick_stored d parity_zone (Entries g d) (no_entries g d) (entries_join g d) (entry_due g shown u e z) (append_all e parity_zone (sectors_of g e true (entry_here g shown z))) due
    where
      due : entry_due g shown u e z ≡ true → Entries g d (sectors_to d parity_zone (append_all e parity_zone (sectors_of g e true (entry_here g shown z))))
      due q =
          let p = (shown.zone z).pointer in
          let stands = any_of (λ (h : Entry). ends_at g z (shown.zone z).generation p h.head) (parity_entries g u e) in
          let (i, r) = and_split (inside_stripe g p) (eqb e (parity_drive_at g z p) && not stands) q in
          entry_joins e z hz i (eqb-true e (parity_drive_at g z p) (and_split (eqb e (parity_drive_at g z p)) (not stands) r).0)

  pub entries_join_parity : Entries g d (sectors_to d parity_zone (entry_step g shown u))
  unfolding entry_step
  entries_join_parity = each_entries _ g.drives (λ e l. each_entries _ g.zones (λ z hz. due_entries e z hz))
