-- The copies of an emptied parity log, as the code makes them, zone by zone: the entry at the zone's pointer that the old log has, or one made from the
-- values below the pointer. The new log's zone is the spare of `from`, so its stores are also appends to that zone by `from`.
use Rattle.std.specs.Prelude.{◌≡◌, refl, Bool, true, ◌&&◌, ℕ, zero, suc, ◌+◌, ◌-◌, ◌*◌, ◌≤◌, ◌<◌, min, List, [], ◌∷◌, ◌++◌, map, length, get_or, set, ltb, eqb}
use Rattle.std.proofs.Common.{sym, ◌∙◌, arith}
use Rattle.std.proofs.Math.Path.{ap, ap₂}
use Rattle.tables.specs.declared.Geometry.{Geometry}
use Rattle.tables.specs.meaning.Basics.{pick}
use Rattle.tables.specs.meaning.Below.{each_below, sum_below, tabulate_from}
use Rattle.tables.specs.meaning.Lists.{concat, overlay}
use Rattle.tables.specs.laws.Lists.{map_append, concat_append}
use Rattle.tables.specs.meaning.Geometry.{Valid, zone_sectors}
use Rattle.tables.specs.meaning.Device.{Device, Store, append}
use Rattle.tables.specs.laws.Tables.{sector_in}
use Rattle.tables.specs.laws.Within.{part_long}
use Rattle.tables.specs.meaning.Tables.{Tables, tables_of, cell, byte_at, sector_at, sectors_after_append, written_after_append, make_store, run_stores}
use Rattle.tables.specs.laws.Made.{MadeAppends}
use Rattle.logs.specs.meaning.Entry.{parity_zone, spare_zone, kind_of_log, Entry}
use Rattle.logs.specs.meaning.Heads.{ends_at}
use Rattle.logs.specs.meaning.Walk.{sectors_of}
use Rattle.volume.specs.declared.emptying.Emptying.{Emptying}
use Rattle.volume.specs.declared.emptying_parity.ZonePoint.{ZonePoint}
use Rattle.volume.specs.meaning.CallContracts.{is_set}
use Rattle.volume.specs.meaning.Calls.{append_all}
use Rattle.volume.specs.meaning.Content.{inside_stripe, fill_of, parity_drive_at, entry_at}
use Rattle.volume.specs.meaning.Rules.{parity_entries, value_at}
use Rattle.volume.specs.meaning.Emptying.{InForce, last_entry, parity_copies, new_parity_size}
use Rattle.volume.specs.laws.StoreCounts.{appends_long}
use Rattle.volume.specs.laws.CallContracts.{appends_append}
use Rattle.volume.specs.rows.RowStores.{append_all_append, rows_if}
use Rattle.volume.specs.looking.Knowing.{read_device}
use Rattle.volume.specs.emptying.Elsewhere.{SectorsLong}
use Rattle.volume.specs.emptying.Moving.{Moves, Copying, copying_kept, sectors_kept}

-- ---- what they go by: generations gs and pointers qs, as the arrays that the code has; values by rule 4, below the pointers ps of the call's start
abbrev pub in_force_by : Emptying → List ℕ → List ℕ → Device → InForce
in_force_by e gs qs v = record { generation = λ z. get_or gs z 0; pointer = λ z. get_or qs z 0; value = λ z. value_at e.from (is_set e.here) v z (get_or gs z 0) }

-- how many sectors they are is a matter of the pointers alone
abbrev pub by_pointers : List ℕ → InForce
by_pointers qs = record { generation = λ z. 0; pointer = λ z. get_or qs z 0; value = λ z a. [] }

pub record PointersWithin (g : Geometry) (qs : List ℕ) : Type 0 where
  pub long : g.zones ≤ length qs
  pub most : (z : ℕ) → z < g.zones → get_or qs z 0 ≤ zone_sectors g

-- ---- one zone's copy
-- the zone's pointer q lies inside a stripe whose parity drive is d
abbrev pub copied_at : Geometry → ℕ → ℕ → ℕ → Bool
copied_at g d z q = inside_stripe g q && eqb d (parity_drive_at g z q)

abbrev pub size_at : Geometry → ℕ → ℕ → ℕ → ℕ
size_at g d z q = pick (copied_at g d z q) (suc (min (fill_of g q) g.unit)) 0

pub size_is : (g : Geometry) (d : ℕ) (qs : List ℕ) → suc (sum_below (λ z. size_at g d z (get_or qs z 0)) g.zones) ≡ new_parity_size g (by_pointers qs) d
unfolding new_parity_size
size_is g d qs = refl

abbrev pub made_at : Emptying → Device → ZonePoint → Entry
made_at e v p = entry_at e.from p.number p.generation (value_at e.from (is_set e.here) v p.number p.generation) p.pointer

abbrev pub is_at : Emptying → ZonePoint → Entry → Bool
is_at e p x = ends_at e.from p.number p.generation p.pointer x.head

-- (es: the whole entries of the old log)
abbrev pub entry_for : Emptying → Device → List Entry → ZonePoint → List Entry
entry_for e v es p = pick (copied_at e.from e.drive p.number p.pointer) (last_entry (is_at e p) (made_at e v p ∷ []) es) []

abbrev pub point_of : List ℕ → List ℕ → ℕ → ZonePoint
point_of gs qs z = record { number = z; generation = get_or gs z 0; pointer = get_or qs z 0 }

abbrev pub entries_below : Emptying → Device → List ℕ → List ℕ → List Entry → ℕ → List Entry
entries_below e v gs qs es n = each_below (λ z. entry_for e v es (point_of gs qs z)) n

pub copies_are : (e : Emptying) (v : Device) (gs qs : List ℕ) (es : List Entry) → entries_below e v gs qs es e.from.zones ≡ parity_copies e.from (in_force_by e gs qs v) e.drive es
unfolding parity_copies
copies_are e v gs qs es = refl

-- the entries of the old log
abbrev pub old_entries : Emptying → Device → List Entry
old_entries e v = parity_entries e.from v e.drive

-- ---- all of them, by the bytes xs: values below the pointers ps, the old log below ss
abbrev pub copied_entry : Emptying → ZonePoint → List ℕ → List ℕ → List ℕ → List Entry
copied_entry e p ps ss xs = entry_for e (read_device e.from xs ps) (old_entries e (read_device e.from xs ss)) p

abbrev pub copied_entries : Emptying → List ℕ → List ℕ → List ℕ → List ℕ → List ℕ → List Entry
copied_entries e gs qs ps ss xs = parity_copies e.from (in_force_by e gs qs (read_device e.from xs ps)) e.drive (old_entries e (read_device e.from xs ss))

-- ---- entries, appended to the new log
abbrev pub entry_sectors : Emptying → List Entry → List (List ℕ)
entry_sectors e es = concat (map (sectors_of e.from e.drive true) es)

abbrev pub entries_on : Emptying → List Entry → List Store
entries_on e es = append_all e.drive parity_zone (entry_sectors e es)

entries_append : (e : Emptying) (xs ys : List Entry) → entries_on e (xs ++ ys) ≡ entries_on e xs ++ entries_on e ys
entries_append e xs ys =
    ap (append_all e.drive parity_zone) (ap concat (map_append (sectors_of e.from e.drive true) xs ys) ∙ concat_append (map (sectors_of e.from e.drive true) xs) (map (sectors_of e.from e.drive true) ys))
    ∙ append_all_append e.drive parity_zone (entry_sectors e xs) (entry_sectors e ys)

pub entries_joined : (e : Emptying) (budget mid rest : ℕ) (es js : List Entry) (xs ws xs' ws' xs'' ws'' : List ℕ) → MadeAppends e.to budget mid (entries_on e es) xs ws xs' ws' → MadeAppends e.to mid rest (entries_on e js) xs' ws' xs'' ws''
    → MadeAppends e.to budget rest (entries_on e (es ++ js)) xs ws xs'' ws''
entries_joined e budget mid rest es js xs ws xs' ws' xs'' ws'' p q = rw (entries_append e es js) (appends_append e.to budget mid rest (entries_on e es) (entries_on e js) xs ws xs' ws' xs'' ws'' p q)

-- ---- the same stores by `from`
-- an append to the zone of cell c, of C sectors of B bytes
abbrev laid_at : ℕ → ℕ → ℕ → List ℕ → Tables → Tables
laid_at c C B s t = pick (ltb (get_or t.written c 0) C) (record { sectors = overlay t.sectors ((c * C + get_or t.written c 0) * B) s; written = set t.written c (get_or t.written c 0 + 1); durable = t.durable }) t

module _ (par : Bool) (e : Emptying) (m : Moves par e) where
  cell_carried : cell e.to e.drive (kind_of_log par) ≡ cell e.from e.drive spare_zone
  cell_carried = ap₂ (λ (a b : ℕ). e.drive * (a + 3) + b) m.shape.zones m.moved

  carried_one : (s : List ℕ) (t : Tables) → make_store e.to (append e.drive (kind_of_log par) s) t ≡ make_store e.from (append e.drive spare_zone s) t
  unfolding sectors_after_append written_after_append
  carried_one s t =
      ap (λ (c : ℕ). laid_at c e.to.capacity e.to.sector s t) cell_carried ∙ ap₂ (λ (C B : ℕ). laid_at (cell e.from e.drive spare_zone) C B s t) m.shape.capacity m.shape.sector

  carried_run : (k : ℕ) (ss : List (List ℕ)) (t : Tables) → run_stores e.to k (append_all e.drive (kind_of_log par) ss) t ≡ run_stores e.from k (append_all e.drive spare_zone ss) t
  carried_run k [] t = refl
  carried_run zero (s ∷ ss) t = refl
  carried_run (suc k) (s ∷ ss) t = carried_run k ss (make_store e.to (append e.drive (kind_of_log par) s) t) ∙ ap (run_stores e.from k (append_all e.drive spare_zone ss)) (carried_one s t)

  pub carried_to_lem : (budget rest : ℕ) (ss : List (List ℕ)) (xs ws xs' ws' : List ℕ) → MadeAppends e.from budget rest (append_all e.drive spare_zone ss) xs ws xs' ws' → MadeAppends e.to budget rest (append_all e.drive (kind_of_log par) ss) xs ws xs' ws'
  carried_to_lem budget rest ss xs ws xs' ws' h = record {
    made = λ ds. record {
      rest_is = (h.made ds).rest_is ∙ ap (λ (n : ℕ). budget - n) (appends_long e.drive spare_zone ss ∙ sym (appends_long e.drive (kind_of_log par) ss));
      tables_are = (h.made ds).tables_are ∙ sym (carried_run (budget - 1) ss (tables_of xs ws ds));
    };
  }

  pub carried_from : (budget rest : ℕ) (ss : List (List ℕ)) (xs ws xs' ws' : List ℕ) → MadeAppends e.to budget rest (append_all e.drive (kind_of_log par) ss) xs ws xs' ws' → MadeAppends e.from budget rest (append_all e.drive spare_zone ss) xs ws xs' ws'
  carried_from budget rest ss xs ws xs' ws' h = record {
    made = λ ds. record {
      rest_is = (h.made ds).rest_is ∙ ap (λ (n : ℕ). budget - n) (appends_long e.drive (kind_of_log par) ss ∙ sym (appends_long e.drive spare_zone ss));
      tables_are = (h.made ds).tables_are ∙ carried_run (budget - 1) ss (tables_of xs ws ds);
    };
  }

-- ---- a run of the old log's sectors, copied one by one: the sectors that are still to be copied are as they were
module _ (e : Emptying) (xs ws : List ℕ) (ok : Valid e.from) (c : Copying true e ws xs ws) where
  abbrev old_sector : ℕ → List ℕ
  old_sector = sector_at e.from xs e.drive parity_zone

  old_long : (n : ℕ) → n < e.from.capacity → length (old_sector n) ≡ e.from.sector
  old_long n h = part_long xs (byte_at e.from e.drive parity_zone n) e.from.sector (rw c.sectors_long (sector_in e.from e.drive parity_zone n c.moves.drive_in (omega arith) h))

  pub old_run_long : (i n : ℕ) → i + n ≤ e.from.capacity → SectorsLong e.from.sector (tabulate_from old_sector i n)
  old_run_long i zero h = tt
  old_run_long i (suc n) h = (old_long i (omega arith), old_run_long (suc i) n (omega arith))

  pub run_kept : (budget rest first n : ℕ) (xs' ws' : List ℕ) → n ≤ e.from.capacity → first ≤ n → MadeAppends e.to budget rest (rows_if true e.drive parity_zone old_sector first n) xs ws xs' ws'
      → Copying true e ws' xs' ws' × ((k : ℕ) → k < e.from.capacity → sector_at e.from xs' e.drive parity_zone k ≡ old_sector k)
  run_kept budget rest first n xs' ws' h l m =
      let long = old_run_long first (n - first) (omega arith) in
      let k = (copying_kept true e ws xs ws c budget rest (tabulate_from old_sector first (n - first)) xs' ws' long m).0 in (
        record { moves = k.moves; sectors_long = k.sectors_long; written_long = k.written_long; pointers_long = k.written_long },
        λ i hi. sectors_kept true e ws xs ws c budget rest (tabulate_from old_sector first (n - first)) xs' ws' long m e.drive parity_zone i (omega arith) (λ q r. absurd (omega (arith, r))) hi,
      )
