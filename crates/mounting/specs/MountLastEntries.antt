-- Step 8 of a mount on the tables: "a type 4 entry at each pointer inside a stripe that by then has no whole current one ending there". Whether
-- there is one is asked of the parity logs as they were when the step began: the code keeps a copy of the written pointers of that moment.
use Rattle.std.specs.Prelude.{◌≡◌, ◌≢◌, Bool, ◌&&◌, ◌||◌, ℕ, ◌-◌, ◌*◌, ◌≤◌, ◌<◌, min, length, get_or, eqb}
use Rattle.std.proofs.Math.Path.{refl, ap, fun_ext}
use Rattle.std.proofs.Common.{sym, ◌∙◌, subst, le_refl, arith}
use Rattle.std.proofs.Math.Bool.{true, false, not}
use Rattle.std.proofs.Math.Nat.{sub-zero}
use mathlib.Core.List.{List, [], ◌∷◌, ◌++◌, map}
use Rattle.std.proofs.lemmas.List.{length-replicate}
use borrow.Author.Tests.{lt-ltb, le-ltb, ltb-true, eq-eqb, ne_eqb}
use Rattle.tables.specs.declared.Geometry.{Geometry}
use Rattle.tables.specs.meaning.Basics.{pick}
use Rattle.tables.specs.laws.Basics.{and_split}
use Rattle.tables.specs.meaning.Below.{each_below, tabulate_from}
use Rattle.tables.specs.meaning.Lists.{any_of, is_nil}
use Rattle.tables.specs.meaning.Geometry.{Valid, stripe_sectors, zone_sectors, cells, total_bytes}
use Rattle.tables.specs.meaning.Placement.{stripe_of}
use Rattle.tables.specs.meaning.Device.{Store, append}
use Rattle.tables.specs.meaning.Phases.{flush_all, on_present}
use Rattle.tables.specs.meaning.Tables.{tables_of, cell}
use Rattle.tables.specs.laws.Made.{MadeAppends}
use Rattle.logs.specs.meaning.Entry.{parity_zone, Header, label, counters, zone_reset, partial_parity, seal, closing, Entry, encode, frame}
use Rattle.logs.specs.meaning.Heads.{ends_at}
use Rattle.logs.specs.code.Query.{head_of, heads_of}
use Rattle.logs.specs.meaning.Walk.{walk_log, sectors_of}
use Rattle.logs.specs.code.WalkCode.{log_sectors}
use Rattle.volume.specs.declared.Look.{Look}
use Rattle.volume.specs.meaning.Content.{row_xor_below, inside_stripe, fill_of, parity_drive_at, entry_header, entry_at}
use Rattle.volume.specs.meaning.Rules.{Shown, parity_entries}
use Rattle.volume.specs.meaning.Calls.{append_all}
use Rattle.volume.specs.meaning.Mount.{with_flush}
use Rattle.volume.specs.rows.RowStores.{present_all, rows_if, rows_in}
use Rattle.volume.specs.laws.LogPlaces.{with_logs}
use Rattle.volume.specs.rows.SameShape.{SameShape, shape_refl, by_shape, shape_valid, shape_cells, shape_bytes}
use Rattle.volume.specs.rows.KeptBelow.{StoresIn, each_in, pick_in, Behind, stores_in_same, stored_keeps}
use Rattle.mounting.specs.MountTables.{seen_sectors}
use Rattle.mounting.specs.MountLook.{LookWithin}
use Rattle.mounting.specs.MountValues.{shown_at, limit_at}
use Rattle.mounting.specs.MountRows.{known_row_long, KnownBelow}
use Rattle.mounting.specs.MountReady.{Appending, appending_kept}
use Rattle.volume.specs.looking.Knowing.{read_device}
use Rattle.volume.specs.checks.Records.{zone_look}

-- the zones to which the step stores
abbrev pub on_parity : ℕ → Bool
on_parity y = eqb y parity_zone

-- ---- what the code relies on: the look's values, and parity logs that lie by `to` where the step began, with pointers ss
pub record Entering (g to : Geometry) (here : List Bool) (k : Look) (ps ss xs ws : List ℕ) : Type 0 where
  pub appends : Appending g to here k parity_zone ps xs ws
  pub starts_long : length ss ≡ cells g
  pub starts_behind : Behind to on_parity ss ws

-- and it can go on relying on it: the look's device is the same, and so is that of the step's beginning
abbrev pub StillEntering : Geometry → Geometry → List Bool → Look → List ℕ → List ℕ → List ℕ → List ℕ → List ℕ → Type 0
StillEntering g to here k ps ss xs xs' ws' = Entering g to here k ps ss xs' ws' × (read_device g xs' ps ≡ read_device g xs ps) × (read_device to xs' ss ≡ read_device to xs ss)

pub entered : (g to : Geometry) (here : List Bool) (k : Look) (budget rest : ℕ) (stores : List Store) (ps ss xs ws xs' ws' : List ℕ) → Entering g to here k ps ss xs ws → StoresIn g on_parity stores → MadeAppends to budget rest stores xs ws xs' ws'
    → StillEntering g to here k ps ss xs xs' ws'
entered g to here k budget rest stores ps ss xs ws xs' ws' n p m =
    let a = n.appends in
    let (f, e) = appending_kept g to here k parity_zone budget rest stores ps xs ws xs' ws' a p m in
    let h = stored_keeps to to on_parity budget rest stores ss xs ws xs' ws' (shape_refl to) (stores_in_same g to a.shape on_parity stores p) (a.sectors_long ∙ sym (shape_bytes g to a.shape)) (a.written_long ∙ sym (shape_cells g to a.shape)) n.starts_behind m in
    (record { appends = f; starts_long = n.starts_long; starts_behind = h.behind }, e, h.device)

-- ---- when an entry is due on drive d for zone z; es: the whole entries of its parity log
unfoldable pub entry_due : Geometry → Look → List Entry → ℕ → ℕ → Bool
entry_due g k es d z = inside_stripe g (zone_look k z).pointer && (eqb d (parity_drive_at g z (zone_look k z).pointer) && not (any_of (λ (e : Entry). ends_at g z (zone_look k z).generation (zone_look k z).pointer e.head) es))

-- and which
abbrev pub new_entry : Geometry → Shown → ℕ → ℕ → List Store
new_entry g s d z = append_all d parity_zone (sectors_of g d true (entry_at g z (s.zone z).generation (s.zone z).value (s.zone z).pointer))

abbrev pub zone_entry_stores : Geometry → Look → Shown → List Entry → ℕ → ℕ → List Store
zone_entry_stores g k s es d z = pick (entry_due g k es d z) (new_entry g s d z) []

-- on the drives below m; es: the entries of each drive's log
abbrev pub entry_stores_below : Geometry → Look → Shown → (ℕ → List Entry) → ℕ → List Store
entry_stores_below g k s es m = each_below (λ d. each_below (zone_entry_stores g k s (es d) d) g.zones) m

-- ---- the parity log of a drive, of n sectors
seen_entries : (g : Geometry) (xs ps : List ℕ) (d : ℕ) → d < g.drives → parity_entries g (read_device g xs ps) d ≡ (walk_log g d true (log_sectors g d parity_zone xs (min (get_or ps (cell g d parity_zone) 0) g.capacity))).entries
unfolding parity_entries
seen_entries g xs ps d hd = ap (λ (ss : List (List ℕ)). (walk_log g d true ss).entries) (seen_sectors g (tables_of xs ps []) d parity_zone hd (omega arith))

any_heads : (t : Header → Bool) (es : List Entry) → any_of t (map head_of es) ≡ any_of (λ (e : Entry). t e.head) es
any_heads t [] = refl
any_heads t (e ∷ es) = ap (λ (b : Bool). t e.head || b) (any_heads t es)

-- ---- the three answers of the code
module _ (g : Geometry) (k : Look) (d z : ℕ) where
  pub due_outside : (es : List Entry) → (zone_look k z).pointer ≤ stripe_of g.drives g.unit (zone_look k z).pointer * stripe_sectors g → entry_due g k es d z ≡ false
  unfolding entry_due
  due_outside es h = rw (le-ltb (stripe_of g.drives g.unit (zone_look k z).pointer * stripe_sectors g) (zone_look k z).pointer h) refl

  pub due_elsewhere : (es : List Entry) → d ≢ parity_drive_at g z (zone_look k z).pointer → entry_due g k es d z ≡ false
  unfolding entry_due
  due_elsewhere es h = rw (ne_eqb d (parity_drive_at g z (zone_look k z).pointer) h) (go (inside_stripe g (zone_look k z).pointer))
    where
      go : (b : Bool) → b && false ≡ false
      go true = refl
      go false = refl

  pub due_here : (xs ps : List ℕ) (n : ℕ) → d < g.drives → n ≡ min (get_or ps (cell g d parity_zone) 0) g.capacity → stripe_of g.drives g.unit (zone_look k z).pointer * stripe_sectors g < (zone_look k z).pointer → d ≡ parity_drive_at g z (zone_look k z).pointer
      → entry_due g k (parity_entries g (read_device g xs ps) d) d z ≡ not (any_of (ends_at g z (zone_look k z).generation (zone_look k z).pointer) (heads_of (walk_log g d true (log_sectors g d parity_zone xs n))))
  unfolding entry_due
  due_here xs ps n hd e h q =
      rw (lt-ltb (stripe_of g.drives g.unit (zone_look k z).pointer * stripe_sectors g) (zone_look k z).pointer h, eq-eqb d (parity_drive_at g z (zone_look k z).pointer) q)
      (ap (λ (es : List Entry). not (any_of (λ (e : Entry). ends_at g z (zone_look k z).generation (zone_look k z).pointer e.head) es)) (seen_entries g xs ps d hd ∙ ap (λ (m : ℕ). (walk_log g d true (log_sectors g d parity_zone xs m)).entries) (sym e))
      ∙ ap not (sym (any_heads (ends_at g z (zone_look k z).generation (zone_look k z).pointer) (walk_log g d true (log_sectors g d parity_zone xs n)).entries)))

  -- where one is due, the pointer is inside its stripe
  pub due_inside : (es : List Entry) → entry_due g k es d z ≡ true → stripe_of g.drives g.unit (zone_look k z).pointer * stripe_sectors g < (zone_look k z).pointer
  unfolding entry_due
  due_inside es e = ltb-true (stripe_of g.drives g.unit (zone_look k z).pointer * stripe_sectors g) (zone_look k z).pointer
      (and_split (inside_stripe g (zone_look k z).pointer) (eqb d (parity_drive_at g z (zone_look k z).pointer) && not (any_of (λ (e : Entry). ends_at g z (zone_look k z).generation (zone_look k z).pointer e.head) es)) e).0

-- ---- the same wherever the logs lie
ends_same : (g : Geometry) (l z n q : ℕ) (h : Header) → ends_at (with_logs g l) z n q h ≡ ends_at g z n q h
ends_same g l z n q (label x a) = refl
ends_same g l z n q (counters cs) = refl
ends_same g l z n q (zone_reset y m) = refl
ends_same g l z n q (partial_parity y s f m) = refl
ends_same g l z n q (seal y p m) = refl
ends_same g l z n q (closing kind gen) = refl

pub due_same : (g to : Geometry) → SameShape g to → (k : Look) (es : List Entry) (d z : ℕ) → entry_due to k es d z ≡ entry_due g k es d z
unfolding entry_due
due_same g to same k es d z =
    let p = (zone_look k z).pointer in
    let n = (zone_look k z).generation in
    by_shape g to same (λ (x : Geometry). entry_due x k es d z ≡ entry_due g k es d z)
    (ap (λ (t : Header → Bool). inside_stripe g p && (eqb d (parity_drive_at g z p) && not (any_of (λ (e : Entry). t e.head) es))) (fun_ext (ends_same g to.logs z n p)))

within_same : (g to : Geometry) → SameShape g to → (k : Look) → LookWithin g k → LookWithin to k
unfolding zone_sectors
within_same g to same k w = by_shape g to same (λ (x : Geometry). LookWithin x k) (record { lost_small = w.lost_small; pointer_most = w.pointer_most; generation_small = w.generation_small; raises = w.raises; reset_empty = w.reset_empty })

-- what asking for it relies on
pub due_placed : (g to : Geometry) → SameShape g to → (k : Look) (xs ss : List ℕ) (d z : ℕ) → Valid g → d < g.drives → z < g.zones → length xs ≡ total_bytes g → length ss ≡ cells g → LookWithin g k
    → Valid to × ((d < to.drives) × (z < to.zones) × (length xs ≡ total_bytes to) × (length ss ≡ cells to) × LookWithin to k)
due_placed g to same k xs ss d z ok hd hz lx ls w =
    (shape_valid g to same ok, (rw same.drives_same hd, rw same.zones_same hz, lx ∙ sym (shape_bytes g to same), ls ∙ sym (shape_cells g to same), within_same g to same k w))

pub with_flush_same : (g to : Geometry) → SameShape g to → (a : ℕ → Bool) (ss : List Store) → with_flush to a ss ≡ with_flush g a ss
with_flush_same g to same a ss = ap (λ (n : ℕ). on_present a ss ∷ pick (is_nil (on_present a ss)) [] (on_present a (flush_all n)) ∷ []) same.drives_same

-- ---- one entry on the present drives
module _ (g : Geometry) (k : Look) (s : Shown) (es : List Entry) (a : ℕ → Bool) (d z : ℕ) where
  new_present : on_present a (new_entry g s d z) ≡ pick (a d) (new_entry g s d z) []
  new_present = present_all a d parity_zone (sectors_of g d true (entry_at g z (s.zone z).generation (s.zone z).value (s.zone z).pointer))

  pub entry_absent : a d ≡ false → on_present a (zone_entry_stores g k s es d z) ≡ []
  entry_absent e = go (entry_due g k es d z)
    where
      go : (b : Bool) → on_present a (pick b (new_entry g s d z) []) ≡ []
      go true = new_present ∙ ap (λ (b : Bool). pick b (new_entry g s d z) []) e
      go false = refl

  pub entry_idle : entry_due g k es d z ≡ false → on_present a (zone_entry_stores g k s es d z) ≡ []
  entry_idle e = ap (λ (b : Bool). on_present a (pick b (new_entry g s d z) [])) e

  pub entry_made_lem : a d ≡ true → entry_due g k es d z ≡ true → on_present a (zone_entry_stores g k s es d z) ≡ new_entry g s d z
  entry_made_lem e f = ap (λ (b : Bool). on_present a (pick b (new_entry g s d z) [])) f ∙ new_present ∙ ap (λ (b : Bool). pick b (new_entry g s d z) []) e

-- ---- its header, then its rows
partial_long : (g : Geometry) (d z s f n : ℕ) → Valid g → length (encode g d (partial_parity z s f n)) ≡ g.sector
unfolding encode frame
partial_long g d z s f n ok = rw (length-replicate {A = ℕ} (g.sector - 32) 0) (omega (arith, ok.sector_least))

pub header_in : (g : Geometry) (b : ℕ → Bool) (d z s f n : ℕ) → Valid g → d < g.drives → b parity_zone ≡ true → StoresIn g b (append d parity_zone (encode g d (partial_parity z s f n)) ∷ [])
header_in g b d z s f n ok hd hb = ((hd, omega arith, partial_long g d z s f n ok, hb), tt)

-- "min(f, U) row sectors follow": the rows of the entry at pointer p
abbrev pub entry_rows : Geometry → (ℕ → List ℕ) → ℕ → ℕ → List Store
entry_rows g S d p = rows_if true d parity_zone (row_xor_below g.drives g.unit S (stripe_of g.drives g.unit p) p) 0 (min (fill_of g p) g.unit)

abbrev entry_parts : Geometry → ℕ → ℕ → ℕ → (ℕ → List ℕ) → ℕ → List Store
entry_parts g d z n S p = (append d parity_zone (encode g d (entry_header g z n p)) ∷ []) ++ entry_rows g S d p

pub entry_parts_lem : (g : Geometry) (d z n : ℕ) (S : ℕ → List ℕ) (p : ℕ) → append_all d parity_zone (sectors_of g d true (entry_at g z n S p)) ≡ entry_parts g d z n S p
unfolding entry_at
entry_parts_lem g d z n S p = ap (λ (m : ℕ). append d parity_zone (encode g d (entry_header g z n p)) ∷ append_all d parity_zone (tabulate_from (row_xor_below g.drives g.unit S (stripe_of g.drives g.unit p) p) 0 m)) (sym (sub-zero (min (fill_of g p) g.unit)))

module _ (g : Geometry) (here : List Bool) (k : Look) (ps xs : List ℕ) (ok : Valid g)
    (known_below : (z : ℕ) → z < g.zones → KnownBelow g here xs ps z (zone_look k z).generation (limit_at g here k xs ps z) (zone_look k z).pointer) where
  new_in : (d z : ℕ) → d < g.drives → z < g.zones → stripe_of g.drives g.unit (zone_look k z).pointer * stripe_sectors g < (zone_look k z).pointer → StoresIn g on_parity (new_entry g (shown_at g here k xs ps) d z)
  new_in d z hd hz l =
      let p = (zone_look k z).pointer in
      let n = (zone_look k z).generation in
      subst (λ (stores : List Store). StoresIn g on_parity stores) (sym (entry_parts_lem g d z n ((shown_at g here k xs ps).zone z).value p)) (
        (header_in g on_parity d z (stripe_of g.drives g.unit p) (fill_of g p) n ok hd refl).0,
        rows_in g on_parity true d parity_zone (row_xor_below g.drives g.unit ((shown_at g here k xs ps).zone z).value (stripe_of g.drives g.unit p) p) 0 (min (fill_of g p) g.unit) hd (omega arith) refl
            (λ _ r h. known_row_long g ok here xs ps z n (limit_at g here k xs ps z) p (known_below z hz) (stripe_of g.drives g.unit p) r (omega arith) (omega (arith, l, h))),
      )

  entry_in_lem : (es : List Entry) (d z : ℕ) → d < g.drives → z < g.zones → StoresIn g on_parity (zone_entry_stores g k (shown_at g here k xs ps) es d z)
  entry_in_lem es d z hd hz = pick_in g on_parity (entry_due g k es d z) (new_entry g (shown_at g here k xs ps) d z) (λ e. new_in d z hd hz (due_inside g k d z es e))

  pub drive_entries_in : (es : List Entry) (d n : ℕ) → d < g.drives → n ≤ g.zones → StoresIn g on_parity (each_below (zone_entry_stores g k (shown_at g here k xs ps) es d) n)
  drive_entries_in es d n hd hn = each_in g on_parity (zone_entry_stores g k (shown_at g here k xs ps) es d) n (λ z h. entry_in_lem es d z hd (omega arith))

  pub entries_below_in : (es : ℕ → List Entry) (m : ℕ) → m ≤ g.drives → StoresIn g on_parity (entry_stores_below g k (shown_at g here k xs ps) es m)
  entries_below_in es m h = each_in g on_parity (λ d. each_below (zone_entry_stores g k (shown_at g here k xs ps) (es d) d) g.zones) m (λ d l. drive_entries_in (es d) d g.zones (omega arith) (le_refl g.zones))
