-- Step 6 of a mount on the tables: "rows missing from torn entries". The code finds the torn entry of a parity log and how many of its rows
-- are there; it appends the others. Steps 6 to 8 rely on the values of the look, which stay while a mount appends (MountRestoring: `filled`).
use Rattle.std.specs.Prelude.{◌≡◌, refl, ◌≢◌, Bool, true, false, ◌&&◌, ℕ, zero, suc, ◌+◌, ◌-◌, ◌*◌, ◌≤◌, ◌<◌, min, List, [], ◌∷◌, length, get_or, take, replicate, leb, eqb}
use Rattle.std.proofs.Common.{sym, ap, ap₂, ◌∙◌, le_refl, arith, length-drop, leb-true}
use Rattle.std.proofs.lemmas.List.{length-replicate}
use Rattle.tables.specs.declared.Geometry.{Geometry}
use Rattle.tables.specs.meaning.Basics.{pick}
use Rattle.tables.specs.meaning.Below.{each_below, tabulate_from}
use Rattle.tables.specs.laws.Below.{length_tabulate}
use Rattle.tables.specs.meaning.Geometry.{Valid, stripe_sectors, zone_sectors}
use Rattle.tables.specs.meaning.Device.{Device, Store}
use Rattle.tables.specs.meaning.Phases.{on_present}
use Rattle.tables.specs.meaning.Tables.{tables_of, cell, sector_at}
use Rattle.logs.specs.declared.Found.{Found}
use Rattle.logs.specs.declared.Found.TheVariants.{Bad, Label, Counters, Resets, Partial, Seal, Closing}
use Rattle.logs.specs.meaning.Entry.{parity_zone, Header, label, counters, zone_reset, partial_parity, seal, closing, rows_of, decode, fits_log}
use Rattle.logs.specs.laws.Entry.{decode_legal}
use Rattle.logs.specs.laws.Legal.{stripe_ends}
use Rattle.logs.specs.code.Judge.{found, partial_small}
use Rattle.logs.specs.meaning.Walk.{Ending, at_pointer, no_entry, torn, walk_log}
use Rattle.logs.specs.code.WalkCode.{log_sectors, walk_end_at, walk_end_of}
use Rattle.logs.specs.declared.WalkEnd.TheVariants.{Torn}
use Rattle.logs.specs.laws.Places.{EndsAt, walk_places}
use Rattle.volume.specs.declared.Look.{Look}
use Rattle.volume.specs.meaning.Content.{row_xor_below}
use Rattle.volume.specs.meaning.Rules.{Shown, ZoneShown, parity_ending}
use Rattle.volume.specs.meaning.Calls.{append_all}
use Rattle.volume.specs.meaning.Mount.{row_for, missing_rows, torn_row_step}
use Rattle.volume.specs.rows.RowStores.{present_all, rows_if, rows_in}
use Rattle.volume.specs.rows.KeptBelow.{StoresIn, each_in}
use Rattle.mounting.specs.MountTables.{seen_sectors}
use Rattle.mounting.specs.MountLook.{stays, log_stays}
use Rattle.mounting.specs.MountRows.{known_lower, known_row_long}
use Rattle.mounting.specs.MountValues.{shown_at, limit_at}
use Rattle.mounting.specs.MountRestoring.{Filling}
use Rattle.logs.specs.code.Judge as judge
use Rattle.volume.specs.looking.Knowing.{read_device}
use Rattle.volume.specs.checks.Records.{zone_look}

-- ---- the rows missing, by what the code has found: the torn entry's header, and how many of its rows are there
abbrev pub missing_seen : Geometry → Shown → Found → ℕ → List (List ℕ)
missing_seen g k Bad c = []
missing_seen g k (Label x a) c = []
missing_seen g k Counters c = []
missing_seen g k (Resets z n) c = []
missing_seen g k (Partial z s f n) c = tabulate_from (row_for g (k.zone z) s f n) c (min f g.unit - c)
missing_seen g k (Seal z p n) c = []
missing_seen g k (Closing gen) c = []

-- an entry is completed with true rows if it is current and ends at or below the pointer shown, else with zeros
abbrev pub zero_row : Geometry → ℕ → List ℕ
zero_row g r = replicate g.sector 0

module _ (g : Geometry) (v : ZoneShown) (d s f n from : ℕ) where
  pub rows_current : eqb n v.generation && leb (s * stripe_sectors g + f) v.pointer ≡ true
      → rows_if true d parity_zone (row_for g v s f n) from (min f g.unit) ≡ rows_if true d parity_zone (row_xor_below g.drives g.unit v.value s (s * stripe_sectors g + f)) from (min f g.unit)
  rows_current e = ap (λ (b : Bool). rows_if true d parity_zone (λ r. pick b (row_xor_below g.drives g.unit v.value s (s * stripe_sectors g + f) r) (replicate g.sector 0)) from (min f g.unit)) e

  pub rows_stale : eqb n v.generation && leb (s * stripe_sectors g + f) v.pointer ≡ false → rows_if true d parity_zone (row_for g v s f n) from (min f g.unit) ≡ rows_if true d parity_zone (zero_row g) from (min f g.unit)
  rows_stale e = ap (λ (b : Bool). rows_if true d parity_zone (λ r. pick b (row_xor_below g.drives g.unit v.value s (s * stripe_sectors g + f) r) (replicate g.sector 0)) from (min f g.unit)) e

-- a part of a buffer of zeros
pub take_zeros : (n m : ℕ) → n ≤ m → take n (replicate {A = ℕ} m 0) ≡ replicate n 0
take_zeros zero m h = refl
take_zeros (suc n) zero h = absurd (omega arith)
take_zeros (suc n) (suc m) h = ap (λ (l : List ℕ). 0 ∷ l) (take_zeros n m (omega arith))

-- what the code needs to know of it
abbrev pub TornFits : Geometry → Found → ℕ → Type 0
TornFits g Bad c = Unit {0}
TornFits g (Label x a) c = Unit {0}
TornFits g Counters c = Unit {0}
TornFits g (Resets z n) c = Unit {0}
TornFits g (Partial z s f n) c = (z < g.zones) × (s * stripe_sectors g + f ≤ zone_sectors g) × (c ≤ min f g.unit)
TornFits g (Seal z p n) c = Unit {0}
TornFits g (Closing gen) c = Unit {0}

missing_rows_lem : (g : Geometry) (k : Shown) (h : Header) (rs : List (List ℕ)) → missing_rows g k (torn h rs) ≡ missing_seen g k (judge.seen h) (length rs)
missing_rows_lem g k (label x a) rs = refl
missing_rows_lem g k (counters cs) rs = refl
missing_rows_lem g k (zone_reset z n) rs = refl
missing_rows_lem g k (partial_parity z s f n) rs = refl
missing_rows_lem g k (seal z p n) rs = refl
missing_rows_lem g k (closing kind gen) rs = refl

torn_fits : (g : Geometry) (d c : ℕ) (h : Header) → Valid g → fits_log g d true h ≡ true → c < rows_of g h → TornFits g (judge.seen h) c
torn_fits g d c (label x a) ok e l = tt
torn_fits g d c (counters cs) ok e l = tt
torn_fits g d c (zone_reset z n) ok e l = tt
torn_fits g d c (partial_parity z s f n) ok e l = let k = partial_small g d true z s f n e in (k.0, stripe_ends g s f ok k.1 (omega (arith, k.2)), omega (arith, l))
torn_fits g d c (seal z p n) ok e l = tt
torn_fits g d c (closing kind gen) ok e l = tt

-- where a walk ends at p in a torn entry, that is what the code finds there
torn_at : (g : Geometry) (k : Shown) (d : ℕ) (ss : List (List ℕ)) (l : Ending) (x p : ℕ) → Valid g → EndsAt g d true ss l x → walk_end_at l x ≡ Torn p
    → (p < length ss) × (missing_rows g k l ≡ missing_seen g k (found (decode g d true (get_or ss p []))) (length ss - suc p)) × TornFits g (found (decode g d true (get_or ss p []))) (length ss - suc p)
torn_at g k d ss at_pointer x p ok e h = absurd (let z : ◌≡◌ {A = ℕ} 0 1 = cc in omega arith)
torn_at g k d ss (no_entry f) x p ok e h = absurd (let z : ◌≡◌ {A = ℕ} 0 1 = cc in omega arith)
torn_at g k d ss (torn hd rs) x p ok e h =
    let q : x ≡ p = cc in
    let c : length rs ≡ length ss - suc x = ap (λ (r : List (List ℕ)). length r) e.2 ∙ length-drop (suc x) ss in
    let f = ap found e.1 in
    rw (← q) (
      e.0,
      missing_rows_lem g k hd rs ∙ ap₂ (missing_seen g k) (sym f) c,
      rw f (torn_fits g d (length ss - suc x) hd ok (decode_legal g d true (get_or ss x []) hd e.1).1 (omega (arith, e.0, e.3))),
    )

torn_not : (g : Geometry) (k : Shown) (l : Ending) (x : ℕ) → walk_end_at l x ≢ Torn x → missing_rows g k l ≡ []
torn_not g k at_pointer x h = refl
torn_not g k (no_entry f) x h = refl
torn_not g k (torn hd rs) x h = absurd (h refl)

-- ---- the stores of one drive
abbrev pub torn_stores : Geometry → Shown → Device → ℕ → List Store
torn_stores g k w d = append_all d parity_zone (missing_rows g k (parity_ending g w d))

pub torn_steps : (g : Geometry) (k : Shown) (w : Device) → torn_row_step g k w ≡ each_below (torn_stores g k w) g.drives
unfolding torn_row_step
torn_steps g k w = refl

-- the parity log of a drive, as the look found it
abbrev parity_log : Geometry → List ℕ → List ℕ → ℕ → List (List ℕ)
parity_log g xs ps d = log_sectors g d parity_zone xs (min (get_or ps (cell g d parity_zone) 0) g.capacity)

seen_ending : (g : Geometry) (xs ps : List ℕ) (d : ℕ) → d < g.drives → parity_ending g (read_device g xs ps) d ≡ (walk_log g d true (parity_log g xs ps d)).last
unfolding parity_ending
seen_ending g xs ps d hd = ap (λ (ss : List (List ℕ)). (walk_log g d true ss).last) (seen_sectors g (tables_of xs ps []) d parity_zone hd (omega arith))

pub torn_absent : (g : Geometry) (k : Shown) (w : Device) (a : ℕ → Bool) (d : ℕ) → a d ≡ false → on_present a (torn_stores g k w d) ≡ []
torn_absent g k w a d e = present_all a d parity_zone (missing_rows g k (parity_ending g w d)) ∙ ap (λ (b : Bool). pick b (torn_stores g k w d) []) e

torn_here : (g : Geometry) (k : Shown) (w : Device) (a : ℕ → Bool) (d : ℕ) → a d ≡ true → on_present a (torn_stores g k w d) ≡ torn_stores g k w d
torn_here g k w a d e = present_all a d parity_zone (missing_rows g k (parity_ending g w d)) ∙ ap (λ (b : Bool). pick b (torn_stores g k w d) []) e

-- by the walk of the log's n sectors: it does not end in a torn entry, or it does, at p
module _ (g : Geometry) (k : Shown) (xs ps : List ℕ) (a : ℕ → Bool) (d n : ℕ) (hd : d < g.drives) (e : n ≡ min (get_or ps (cell g d parity_zone) 0) g.capacity) where
  ending_is : parity_ending g (read_device g xs ps) d ≡ (walk_log g d true (log_sectors g d parity_zone xs n)).last
  ending_is = seen_ending g xs ps d hd ∙ ap (λ (m : ℕ). (walk_log g d true (log_sectors g d parity_zone xs m)).last) (sym e)

  pub torn_idle : walk_end_of (walk_log g d true (log_sectors g d parity_zone xs n)) ≢ Torn (walk_log g d true (log_sectors g d parity_zone xs n)).position → on_present a (torn_stores g k (read_device g xs ps) d) ≡ []
  torn_idle h = ap (λ (l : Ending). on_present a (append_all d parity_zone (missing_rows g k l))) ending_is ∙ ap (λ (rs : List (List ℕ)). on_present a (append_all d parity_zone rs)) (torn_not g k (walk_log g d true (log_sectors g d parity_zone xs n)).last (walk_log g d true (log_sectors g d parity_zone xs n)).position h)

  module _ (ok : Valid g) (p : ℕ) (h : walk_end_of (walk_log g d true (log_sectors g d parity_zone xs n)) ≡ Torn p) where
    long : length (log_sectors g d parity_zone xs n) ≡ n
    long = length_tabulate (λ i. sector_at g xs d parity_zone i) n

    there : (p < length (log_sectors g d parity_zone xs n))
        × (missing_rows g k (walk_log g d true (log_sectors g d parity_zone xs n)).last ≡ missing_seen g k (found (decode g d true (get_or (log_sectors g d parity_zone xs n) p []))) (length (log_sectors g d parity_zone xs n) - suc p))
        × TornFits g (found (decode g d true (get_or (log_sectors g d parity_zone xs n) p []))) (length (log_sectors g d parity_zone xs n) - suc p)
    there = torn_at g k d (log_sectors g d parity_zone xs n) (walk_log g d true (log_sectors g d parity_zone xs n)).last (walk_log g d true (log_sectors g d parity_zone xs n)).position p ok (walk_places g d true (log_sectors g d parity_zone xs n)).left h

    pub torn_inside : p < n
    torn_inside = omega (arith, long, there.0)

    -- what the code finds there, and the rows of it that there are
    module _ (f : Found) (w : f ≡ found (decode g d true (get_or (log_sectors g d parity_zone xs n) p []))) where
      rows_are : length (log_sectors g d parity_zone xs n) - suc p ≡ n - (p + 1)
      rows_are = omega (arith, long)

      pub torn_found_fits : TornFits g f (n - (p + 1))
      torn_found_fits = rw (sym w, rows_are) at there.2

      pub torn_made : a d ≡ true → on_present a (torn_stores g k (read_device g xs ps) d) ≡ append_all d parity_zone (missing_seen g k f (n - (p + 1)))
      torn_made t = torn_here g k (read_device g xs ps) a d t ∙ ap (λ (l : Ending). append_all d parity_zone (missing_rows g k l)) ending_is ∙ ap (append_all d parity_zone) (there.1 ∙ ap₂ (missing_seen g k) (sym w) rows_are)

module _ (g : Geometry) (here : List Bool) (k : Look) (ps xs ws : List ℕ) (ok : Valid g) (fill : Filling g here k ps xs ws) where
  -- a row that completes an entry is one sector long: a true one if it is current and ends at or below the pointer shown, else zeros
  row_for_long : (z s f n r : ℕ) → z < g.zones → r < min f g.unit → length (row_for g ((shown_at g here k xs ps).zone z) s f n r) ≡ g.sector
  row_for_long z s f n r hz h = go (eqb n (zone_look k z).generation) (leb (s * stripe_sectors g + f) (zone_look k z).pointer) refl
    where
      go : (b c : Bool) → leb (s * stripe_sectors g + f) (zone_look k z).pointer ≡ c → length (pick (b && c) (row_xor_below g.drives g.unit ((shown_at g here k xs ps).zone z).value s (s * stripe_sectors g + f) r) (replicate g.sector 0)) ≡ g.sector
      go true true e =
          known_row_long g ok here xs ps z (zone_look k z).generation (limit_at g here k xs ps z) (s * stripe_sectors g + f)
          (known_lower g here xs ps z (zone_look k z).generation (limit_at g here k xs ps z) (zone_look k z).pointer (s * stripe_sectors g + f) (leb-true (s * stripe_sectors g + f) (zone_look k z).pointer e) (fill.known_below z hz)) s r (omega arith) (omega arith)
      go true false e = length-replicate {A = ℕ} g.sector 0
      go false c e = length-replicate {A = ℕ} g.sector 0

  missing_in : (d c : ℕ) (f : Found) → d < g.drives → TornFits g f c → StoresIn g (stays k) (append_all d parity_zone (missing_seen g (shown_at g here k xs ps) f c))
  missing_in d c Bad hd t = tt
  missing_in d c (Label x a) hd t = tt
  missing_in d c Counters hd t = tt
  missing_in d c (Resets z n) hd t = tt
  missing_in d c (Partial z s f n) hd t = rows_in g (stays k) true d parity_zone (row_for g ((shown_at g here k xs ps).zone z) s f n) c (min f g.unit) hd (omega arith) (log_stays k parity_zone (omega arith)) (λ _ r h. row_for_long z s f n r t.0 h)
  missing_in d c (Seal z p n) hd t = tt
  missing_in d c (Closing gen) hd t = tt

  torn_drive_in : (d : ℕ) → d < g.drives → StoresIn g (stays k) (torn_stores g (shown_at g here k xs ps) (read_device g xs ps) d)
  torn_drive_in d hd = let w = walk_log g d true (parity_log g xs ps d) in rw (seen_ending g xs ps d hd) (go w.last w.position (walk_places g d true (parity_log g xs ps d)).left)
    where
      go : (l : Ending) (x : ℕ) → EndsAt g d true (parity_log g xs ps d) l x → StoresIn g (stays k) (append_all d parity_zone (missing_rows g (shown_at g here k xs ps) l))
      go at_pointer x e = tt
      go (no_entry f) x e = tt
      go (torn h rs) x e =
          let t = torn_at g (shown_at g here k xs ps) d (parity_log g xs ps d) (torn h rs) x x ok e refl in
          rw t.1 (missing_in d (length (parity_log g xs ps d) - suc x) (found (decode g d true (get_or (parity_log g xs ps d) x []))) hd t.2)

  pub torn_drives_in : (m : ℕ) → m ≤ g.drives → StoresIn g (stays k) (each_below (torn_stores g (shown_at g here k xs ps) (read_device g xs ps)) m)
  torn_drives_in m h = each_in g (stays k) (torn_stores g (shown_at g here k xs ps) (read_device g xs ps)) m (λ d l. torn_drive_in d (omega arith))

  -- THE STORES OF STEP 6 leave alone what lies below the look's pointers
  pub torn_rows_in : StoresIn g (stays k) (torn_row_step g (shown_at g here k xs ps) (read_device g xs ps))
  torn_rows_in = rw (torn_steps g (shown_at g here k xs ps) (read_device g xs ps)) (torn_drives_in g.drives (le_refl g.drives))
