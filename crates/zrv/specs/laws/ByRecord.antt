-- A write and a read by the record of one zone (src/records.rt): what they take of the input's bytes, and what they make of it.
use Rattle.std.specs.Prelude.{◌≡◌, false, ◌&&◌, ◌||◌, not, ℕ, ◌+◌, ◌-◌, ◌*◌, ◌%◌, ◌≤◌, ◌<◌, eqb, Option, Some, None, Ok}
use Rattle.std.proofs.Math.Path.{refl, sym, ap, ap₂}
use Rattle.std.proofs.Common.{◌∙◌, true≢false, arith, lt-ltb, le-leb, eqb-true}
use Rattle.std.proofs.Math.Bool.{Bool, true}
use Rattle.std.proofs.Math.Decide.{dec_lt}
use mathlib.Core.List.{List}
use Rattle.std.proofs.Math.ListN.{length, get_or, set}
use Rattle.std.proofs.Math.Dec.{leb, ltb}
use Rattle.tables.specs.declared.Geometry.{Geometry}
use Rattle.tables.specs.meaning.Basics.{pick}
use Rattle.tables.specs.laws.Basics.{and_join}
use Rattle.tables.specs.meaning.Below.{any_below, tabulate}
use Rattle.tables.specs.laws.Below.{any_below_cong, get_d_tabulate}
use Rattle.tables.specs.meaning.Geometry.{Valid, physical_zones, cells, zone_sectors, max_zones}
use Rattle.tables.specs.meaning.GeometryTest.{is_valid}
use Rattle.tables.specs.meaning.Lists.{overlay}
use Rattle.tables.specs.meaning.Placement.{stripe_of}
use Rattle.tables.specs.laws.Placement.{parity_drive_below}
use Rattle.tables.specs.meaning.LittleEndian.{read_le}
use Rattle.tables.specs.laws.LittleEndian.{write_le}
use Rattle.volume.specs.laws.ByteLists.{Bytes}
use Rattle.tables.specs.meaning.Tables.{tables_of, first_cell, cell, pointer_bad, pointers_bad}
use Rattle.tables.specs.laws.TablesFrame.{pointers_good}
use Rattle.volume.specs.declared.Answer.TheVariants.{Finished, Unfinished, Refused}
use Rattle.volume.specs.declared.Condition.TheVariants.{Open}
use Rattle.volume.specs.declared.State.{State}
use Rattle.volume.specs.declared.ZoneRecord.{ZoneRecord}
use Rattle.volume.specs.declared.by_record.ByRecord.{ByRecord}
use Rattle.volume.specs.declared.by_record.Recorded.{Recorded}
use Rattle.volume.specs.meaning.State.{pointer_in, owner_of, hosts, share_at}
use Rattle.volume.specs.meaning.Content.{parity_drive_at}
use Rattle.volume.specs.meaning.Hosts.{share_left, entry_taken, owned_state}
use Rattle.volume.specs.meaning.Refusals.{state_within, WriteAsked, zone_of}
use Rattle.volume.specs.meaning.CallContracts.{record_at, view_state, answer_number, Result, write_on, read_number, read_on, state_held}
use Rattle.volume.specs.laws.LogPlaces.{zone_at_first}
use Rattle.volume.specs.laws.FilledArrays.{fill_at}
use Rattle.volume.specs.laws.StateHeld.{Sixteen, records_past, owned_record, shares_less, held_owned}
use Rattle.volume.specs.checks.ByRecord.{RecordFits, SaysOf}
use Rattle.volume.specs.checks.ZoneChecks.{pointer_within}
use Rattle.volume.specs.reading.ReadByRecord.{ReadBy}
use Rattle.volume.specs.writing.Allowances.{adds_at, host_limits, host_none, allowance_of}
use Rattle.volume.specs.meaning.Calls.{open_state}
use Rattle.zrv.specs.declared.records.WriteCall.{WriteCall}
use Rattle.zrv.specs.meaning.Bytes.{state_bytes, shares_of, table_from, table_to, record_from, record_to, state_to, state_from, state_well_formed}
use Rattle.zrv.specs.meaning.EdgeCalls.{sizes_fit, state_bad, input_number, Ranges, ranges, tables_in, state_in, Answered, answered, state_after, stored_all, write_of, read_answer}
use Rattle.zrv.specs.laws.Bytes.{bytes_state_bytes}
use Rattle.zrv.specs.laws.EdgeCalls.{Sized, input_passed}
use Rattle.zrv.specs.laws.OneRecord.{state_put}
use Rattle.zrv.specs.laws.RoundTrips.{bytes_table_bytes, read_sixteen}
use Rattle.zrv.specs.laws.TablesRoundTrip.{table_long}

-- ---- the input has passed its test
pub record InputTaken (g : Geometry) (st : List ℕ) (w d : ℕ) : Type 0 where
  pub sized : Sized g (length st) w d
  pub tested : is_valid g ≡ true
  pub well_formed : state_well_formed g st ≡ true
  pub within : state_within g (view_state (state_from g st)) ≡ true

pub input_taken : (g : Geometry) (st : List ℕ) (w d : ℕ) → input_number g st w d ≡ 0 → InputTaken g st w d
unfolding input_number state_bad
input_taken g st w d h =
    let s = input_passed g st w d h in
    let (v, b) = by (is_valid g) (eqb (length st) state_bytes && not (state_well_formed g st && state_within g (view_state (state_from g st)))) (sizes_fit g (length st) w d) h in
    let (f, k) = good (length st) (state_well_formed g st) (state_within g (view_state (state_from g st))) s.state_long b in
    record { sized = s; tested = v; well_formed = f; within = k }
  where
    by : (a b e : Bool) → ◌≡◌ {A = ℕ} (pick a (pick b 1 (pick e 0 2)) 1) 0 → (a ≡ true) × (b ≡ false)
    by true true e k = absurd (omega arith)
    by true false e k = (refl, refl)
    by false b e k = absurd (omega arith)

    good : (n : ℕ) (a b : Bool) → n ≡ state_bytes → eqb n state_bytes && not (a && b) ≡ false → (a ≡ true) × (b ≡ true)
    good n a b e h = go a b (rw e at h)
      where
        go : (a b : Bool) → not (a && b) ≡ false → (a ≡ true) × (b ≡ true)
        go true true k = (refl, refl)
        go true false k = absurd (true≢false k)
        go false b k = absurd (true≢false k)

-- ---- refusal 3 on a drive whose durable pointers are bytes; row is the drive's first cell
abbrev pub bad_in_bytes : ℕ → List ℕ → List ℕ → ℕ → ℕ → Bool
bad_in_bytes most ws db row y = ltb most (get_or ws (row + y) 0) || ltb (get_or ws (row + y) 0) (read_le 4 db ((row + y) * 4))

pub drive_in_bytes : (g : Geometry) (ws db : List ℕ) (d : ℕ) → g.logs ≡ 0 → first_cell g d + physical_zones g ≤ cells g
    → any_below (bad_in_bytes g.capacity ws db (first_cell g d)) (physical_zones g) ≡ any_below (pointer_bad g ws (table_from (cells g) db) d) (physical_zones g)
unfolding table_from
drive_in_bytes g ws db d first h = any_below_cong (bad_in_bytes g.capacity ws db (first_cell g d)) (pointer_bad g ws (table_from (cells g) db) d) (physical_zones g) (λ y l. at y l)
  where
    at : (y : ℕ) → y < physical_zones g → bad_in_bytes g.capacity ws db (first_cell g d) y ≡ pointer_bad g ws (table_from (cells g) db) d y
    at y l =
        let e : cell g d y ≡ first_cell g d + y = ap (λ (p : ℕ). first_cell g d + p) (zone_at_first g first d y) in
        let r : get_or (tabulate (λ i. read_le 4 db (i * 4)) (cells g)) (first_cell g d + y) 0 ≡ read_le 4 db ((first_cell g d + y) * 4) = get_d_tabulate (λ i. read_le 4 db (i * 4)) (cells g) (first_cell g d + y) 0 (omega (arith, l, h)) in
        ap (λ (k : ℕ). ltb g.capacity (get_or ws (first_cell g d + y) 0) || ltb (get_or ws (first_cell g d + y) 0) k) (sym r)
        ∙ ap (λ (i : ℕ). ltb g.capacity (get_or ws i 0) || ltb (get_or ws i 0) (get_or (tabulate (λ i. read_le 4 db (i * 4)) (cells g)) i 0)) (sym e)

-- ---- what is taken of it for the zone of an address
abbrev pub record_in : Geometry → List Bool → List ℕ → List ℕ → List ℕ → ℕ → ByRecord
record_in g named st ws db a = record { geometry = g; named = named; lost = read_le 8 st 0; «record» = record_at (state_from g st) (zone_of g a); bad = pointers_bad g named ws (table_from (cells g) db) }

module _ (g : Geometry) (named : List Bool) (st ws db : List ℕ) (w a : ℕ) (q : InputTaken g st w (length db)) (long : length ws ≡ cells g) where
  pointer_in_lem : pointer_in (record_at (state_from g st) (zone_of g a)).condition ≤ zone_sectors g
  unfolding state_from
  pointer_in_lem = go (dec_lt (zone_of g a) g.zones)
    where
      go : Dec (zone_of g a < g.zones) → pointer_in (record_at (state_from g st) (zone_of g a)).condition ≤ zone_sectors g
      go (yes h) = pointer_within g (state_from g st) (zone_of g a) q.within h
      go (no h) = rw (records_past (λ y. record_from st (8 + 16 * y)) g.zones (zone_of g a) (omega arith)) (omega arith)

  pub record_taken : RecordFits (record_in g named st ws db a) ws
  record_taken = record {
    logs_first = q.sized.logs_first;
    written_long = long;
    pointer_in_lem = pointer_in_lem;
    in_zones = λ b d y hd e hy. (pointers_good g named ws (table_from (cells g) db) d y b hd e hy).0;
  }

  pub record_says : SaysOf (record_in g named st ws db a) a (state_from g st) ws (table_from (cells g) db)
  unfolding state_from
  record_says = record { valid = q.tested; within = q.within; lost_is = refl; record_is = refl; durable_long = table_long (cells g) db; bad_is = refl }

-- the drive of an entry is one of the volume's
pub entry_drive_in : (g : Geometry) → Valid g → (z n : ℕ) → parity_drive_at g z n < g.drives
entry_drive_in g ok z n = parity_drive_below g.drives g.unit z (omega (arith, ok.drives_least)) ok.unit_least (stripe_of g.drives g.unit n)

-- ---- what is allowed to the host of a write, by one share: where the zone is its own already, or the write reaches the zone's end (h: the host; end: the zone's pointer
-- after the write)
module _ (g : Geometry) (st : List ℕ) (h z end : ℕ) (ok : Valid g) (hz : z < g.zones) (hh : h < hosts) (inside : end ≤ zone_sectors g) where
  abbrev place : ℕ
  place = share_at (parity_drive_at g z end) h

  pub place_in : place < shares_of g
  place_in = omega (arith, entry_drive_in g ok z end, hh)

  pub share_read : get_or (state_from g st).shares place 0 ≡ read_le 4 st (264 + place * 4)
  unfolding state_from
  share_read = fill_at (λ i. read_le 4 st (264 + i * 4)) 0 0 (shares_of g) (16 - shares_of g) place place_in

  pub allowed_alone : adds_at (zone_sectors g) h end (record_at (state_from g st) z) ≡ false → record { known = true; limits = Ok tt; share = read_le 4 st (264 + place * 4) } ≡ allowance_of g (view_state (state_from g st)) h z end
  unfolding allowance_of
  allowed_alone e =
      let v = view_state (state_from g st) in
      let asked : ltb h hosts && leb end (zone_sectors g) ≡ true = and_join (ltb h hosts) (leb end (zone_sectors g)) (lt-ltb h hosts hh) (le-leb end (zone_sectors g) inside) in
      (λ i. record { known = sym (lt-ltb h hosts hh) i; limits = host_none g v h z end e i; share = sym share_read i })
      ∙ ap (λ (b : Bool). pick b (record { known = ltb h hosts; limits = host_limits g v h z end; share = share_left g v h z end }) (record { known = ltb h hosts; limits = Ok tt; share = 0 })) (sym asked)

-- ---- a write that is made
-- the state's bytes with what it leaves: the lost drive, the zone's record, what is left of its host's share
abbrev pub put_written : Recorded → ℕ → ℕ → ℕ → List ℕ → List ℕ
put_written t h generation z st = write_le 4 (overlay (write_le 8 st 0 (t.lost % 256)) (8 + 16 * z) (record_to (record { generation = generation; condition = Open t.pointer; owner = owner_of h }))) (264 + share_at t.drive h * 4)
    (read_le 4 st (264 + share_at t.drive h * 4) - t.taken)

-- what it returns, and the state's bytes after it
abbrev pub handed_record : Recorded → ℕ → ℕ → ℕ → List ℕ → ℕ → List ℕ → Type 0
handed_record t h generation z st n st' = (n ≡ pick (eqb t.rest 0) 255 0) × (st' ≡ pick (eqb t.rest 0) st (put_written t h generation z st))

-- what is asked, and the write by the whole state
abbrev pub asked_in : WriteCall → List ℕ → WriteAsked
asked_in k buffer = write_of k.host k.address k.run buffer

abbrev pub whole_write : WriteCall → List ℕ → Ranges → Answered Ranges
whole_write k buffer m = stored_all k.geometry (write_on k.geometry k.named (state_in k.geometry m) (asked_in k buffer) k.count (tables_in k.geometry m)) m

-- not made, it has changed nothing
abbrev pub WrittenAs : WriteCall → List ℕ → Ranges → Option ℕ → Ranges → Type 0
WrittenAs k buffer m None m' = m' ≡ m
WrittenAs k buffer m (Some code) m' = answered code m' ≡ whole_write k buffer m

module _ (k : WriteCall) (buffer : List ℕ) (m : Ranges) (q : InputTaken k.geometry m.state (length m.written) (length m.durable)) (bytes : Bytes m.durable) where
  abbrev g : Geometry
  g = k.geometry

  abbrev s : State
  s = state_in k.geometry m

  abbrev z : ℕ
  z = zone_of k.geometry k.address

  sixteen : Sixteen s
  sixteen = read_sixteen g m.state q.sized.valid.zones_most q.sized.valid.drives_most

  durable_is : m.durable ≡ table_to (table_from (cells g) m.durable)
  durable_is = sym (bytes_table_bytes (cells g) m.durable bytes q.sized.durable_long)

  -- a write leaves the durable pointers
  pub durable_stays : (r : Result) (wb st : List ℕ) (n : ℕ) → r.tables.durable ≡ table_from (cells g) m.durable → wb ≡ table_to r.tables.written → (n ≡ answer_number r.outcome.answer) × (st ≡ state_after g r.outcome m.state)
      → answered n (ranges r.tables.sectors wb m.durable st) ≡ stored_all g r m
  unfolding stored_all
  durable_stays r wb st n d w (a, b) = cc (a, b, w, durable_is ∙ ap table_to (sym d))

  -- made by the record, it is the write by the whole state (present: the drives that are here)
  module _ (t : Recorded) (present : ℕ → Bool) (hz : z < g.zones) (hh : k.host < hosts) (drive_is : t.drive ≡ parity_drive_at g z t.pointer) (taken_is : t.taken ≡ entry_taken g present z t.pointer) where
    abbrev new : State
    new = state_held max_zones (owned_state g present k.host z t.pointer (open_state t.lost (view_state s) z t.pointer))

    abbrev put : List ℕ
    put = put_written t k.host (record_at s z).generation z m.state

    drive_in : t.drive < g.drives
    drive_in = rw drive_is (entry_drive_in g q.sized.valid z t.pointer)

    state_put_is : put ≡ state_to g new
    unfolding state_from
    state_put_is =
        let ok = q.sized.valid in
        let i = share_at t.drive k.host in
        let r : ZoneRecord = owned_record k.host t.pointer (record_at s z) in
        let zone_in_lem : z < length s.zones = omega (arith, hz, sixteen.records, ok.zones_most) in
        let share_in : i < shares_of g = omega (arith, drive_in, hh) in
        let share_small : i < 16 = omega (arith, share_in, ok.drives_most) in
        let share_held : i < length s.shares = omega (arith, share_in, sixteen.shares, ok.drives_most) in
        let read : read_le 4 m.state (264 + i * 4) ≡ get_or s.shares i 0 = sym (fill_at (λ j. read_le 4 m.state (264 + j * 4)) 0 0 (shares_of g) (16 - shares_of g) i share_in) in
        ap₂ (λ (l : List ℕ) (n : ℕ). write_le 4 (overlay (write_le 8 l 0 (t.lost % 256)) (8 + 16 * z) (record_to r)) (264 + i * 4) (n - t.taken)) (sym (bytes_state_bytes g m.state q.well_formed)) read
        ∙ state_put g s t.lost z r i (get_or s.shares i 0 - t.taken) ok.zones_most hz zone_in_lem share_in share_held
        ∙ ap (state_to g)
        (ap₂ (λ (d n : ℕ). record { lost = t.lost; zones = set s.zones z r; shares = shares_less s.shares (share_at d k.host) n }) drive_is taken_is
        ∙ held_owned s g present t.lost k.host z t.pointer sixteen (omega (arith, hz, ok.zones_most)) (rw drive_is at share_small))

    pub made_whole : (xs' ws' wb' st' : List ℕ) (n : ℕ)
        → write_on g k.named s (asked_in k buffer) k.count (tables_in g m) ≡ record { outcome = pick (eqb t.rest 0) (record { answer = Unfinished; state = s }) (record { answer = Finished; state = new }); tables = tables_of xs' ws' (table_from (cells g) m.durable) }
        → wb' ≡ table_to ws' → handed_record t k.host (record_at s z).generation z m.state n st' → answered n (ranges xs' wb' m.durable st') ≡ whole_write k buffer m
    unfolding state_after
    made_whole xs' ws' wb' st' n e w hand = durable_stays (result (eqb t.rest 0)) wb' st' n refl w (go (eqb t.rest 0) hand.0 hand.1) ∙ sym (ap (λ (r : Result). stored_all g r m) e)
      where
        result : Bool → Result
        result b = record { outcome = pick b (record { answer = Unfinished; state = s }) (record { answer = Finished; state = new }); tables = tables_of xs' ws' (table_from (cells g) m.durable) }

        go : (b : Bool) → n ≡ pick b 255 0 → st' ≡ pick b m.state put → (n ≡ answer_number (result b).outcome.answer) × (st' ≡ state_after g (result b).outcome m.state)
        go true c f = (c, f)
        go false c f = (c, f ∙ state_put_is)

-- ---- a read
pub read_told : (g : Geometry) (named : List Bool) (a count : ℕ) (out : List ℕ) (m : Ranges) (n : ℕ) (left : List ℕ) → InputTaken g m.state (length m.written) (length m.durable)
    → ReadBy (record_in g named m.state (table_from (cells g) m.written) m.durable a) a count m.sectors (table_from (cells g) m.written) out n left
    → answered n left ≡ read_answer (read_on g named (state_in g m) a count out (tables_in g m))
unfolding read_answer read_on
read_told g named a count out m n left q r =
    let says = record_says g named m.state (table_from (cells g) m.written) m.durable (length m.written) a q (table_long (cells g) m.written) in
    let number = r.number_is (state_in g m) (table_from (cells g) m.durable) says in
    let told = read_number g named (state_in g m) a count (length out) (tables_in g m) in
    ap₂ answered (number ∙ by told (eqb told 0) refl) (r.left_is (state_in g m) (table_from (cells g) m.durable) says)
  where
    by : (k : ℕ) (b : Bool) → eqb k 0 ≡ b → k ≡ answer_number (pick b Finished (Refused k))
    by k true e = eqb-true k 0 e
    by k false e = refl
