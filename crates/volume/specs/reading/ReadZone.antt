-- A read in a zone that there is, once refusals 1 to 4 have passed: by the drives that are here, the zone's condition and its generation, whatever the state says of
-- other zones.
use Rattle.std.specs.Prelude.{◌≡◌, Bool, false, not, length, ltb, eqb}
use Rattle.std.proofs.Math.Path.{sym, ap, ap₂}
use Rattle.std.proofs.Common.{◌∙◌, ltb-false}
use Prim.Native.Nat.{ℕ, ◌+◌, ◌*◌, ◌≤◌, ◌<◌}
use mathlib.Core.List.{List}
use Rattle.tables.specs.declared.Geometry.{Geometry}
use Rattle.tables.specs.laws.Basics.{or_none}
use Rattle.tables.specs.meaning.Basics.{pick}
use Rattle.tables.specs.meaning.Below.{count_below}
use Rattle.tables.specs.meaning.Geometry.{zone_sectors}
use Rattle.tables.specs.meaning.Tables.{tables_of}
use Rattle.volume.specs.declared.Condition.{Condition}
use Rattle.volume.specs.declared.State.{State}
use Rattle.volume.specs.declared.Zone.{Zone}
use Rattle.volume.specs.declared.ZoneRecord.{ZoneRecord}
use Rattle.volume.specs.meaning.State.{pointer_in, call_present}
use Rattle.volume.specs.meaning.Refusals.{gone_in, bad_run, zone_of, offset_of}
use Rattle.volume.specs.meaning.CallContracts.{record_at, view_state, is_set, seen_in, read_number, values_on, read_on}
use Rattle.volume.specs.checks.CheckLaws.{present_list, present_is, opening_number, opened}
use Rattle.volume.specs.checks.ZoneChecks.{stale_on, reached}
use Rattle.volume.specs.looking.Knowing.{Readable}
use Rattle.volume.specs.reading.Reading.{read_by_roles, late_number, late_none, late_is, opened_sized, values_seen, RunReady}

-- what it relies on
pub record ReadAsked (zone : Zone) (c : Condition) (xs ws : List ℕ) (offset count : ℕ) (out : List ℕ) : Type 0 where
  pub readable : Readable zone.geometry zone.here xs ws zone.number
  pub logs_first : zone.geometry.logs ≡ 0
  pub one_absent : ltb 1 (count_below (λ d. not (is_set zone.here d)) zone.geometry.drives) ≡ false
  pub pointer_in_lem : pointer_in c ≤ zone_sectors zone.geometry
  pub starts_in : offset ≤ zone_sectors zone.geometry
  pub count_small : count ≤ 4294967295
  pub buffer_long : length out ≡ count * zone.geometry.sector

-- refusals 7, 9, 13 and 15
unfoldable pub zone_read_number : Zone → Condition → List ℕ → List ℕ → ℕ → ℕ → ℕ
zone_read_number zone c xs ws offset count =
    let late = late_number zone.geometry zone.here ws c zone.number offset count in
    pick (eqb late 0) (pick (gone_in zone.geometry (is_set zone.here) (read_by_roles zone.geometry xs ws) zone.number zone.generation offset count) 15 0) late

-- the buffer, if its number is n
abbrev pub zone_read_left : Zone → List ℕ → List ℕ → ℕ → ℕ → List ℕ → ℕ → List ℕ
zone_read_left zone xs ws offset count out n = pick (eqb n 0) (values_on zone.geometry (is_set zone.here) (read_by_roles zone.geometry xs ws) zone.number zone.generation offset count) out

-- 7, 9 and 13 have passed
pub zone_read_ready : (zone : Zone) (c : Condition) (xs ws : List ℕ) (offset count : ℕ) (out : List ℕ) → ReadAsked zone c xs ws offset count out → late_number zone.geometry zone.here ws c zone.number offset count ≡ 0
    → RunReady zone xs ws (pointer_in c) offset count out
unfolding late_number
zone_read_ready zone c xs ws offset count out h n =
    let g = zone.geometry in
    let (fresh, run, past) = late_none (stale_on g (is_set zone.here) ws c zone.number) (bad_run g offset count) (ltb (pointer_in c) (offset + count)) n in
    record {
      readable = h.readable;
      first = h.logs_first;
      run_in = ltb-false (zone_sectors g) (offset + count) (or_none (eqb count 0) (ltb (zone_sectors g) (offset + count)) run).1;
      buffer = h.buffer_long;
      reaches = reached g zone.here ws c zone.number h.one_absent fresh;
      below = ltb-false (pointer_in c) (offset + count) past;
    }

-- ---- it is the call's, by a state
-- the zone of an address by a record
abbrev pub zone_by : Geometry → List Bool → ℕ → ZoneRecord → ℕ → Zone
zone_by g named lost r a = record { geometry = g; here = present_list g named lost; number = zone_of g a; generation = r.generation }

module _ (g : Geometry) (named : List Bool) (s : State) (a count : ℕ) (xs ws ds out : List ℕ) (o : opening_number g named s count (length out) (length xs) ws ds ≡ 0) (h : zone_of g a < g.zones) where
  abbrev zone : Zone
  zone = zone_by g named s.lost (record_at s (zone_of g a)) a

  pub zone_read_is : zone_read_number zone (record_at s (zone_of g a)).condition xs ws (offset_of g a) count ≡ read_number g named s a count (length out) (tables_of xs ws ds)
  unfolding zone_read_number
  zone_read_is = sym (late_is g named s a count (length out) xs ws ds o h)

  pub zone_left_is : (n : ℕ) → n ≡ read_number g named s a count (length out) (tables_of xs ws ds) → zone_read_left zone xs ws (offset_of g a) count out n ≡ (read_on g named s a count out (tables_of xs ws ds)).buffer
  unfolding read_on
  zone_left_is n e =
      let p = opened g named s count (length out) (length xs) ws ds o in
      let z = zone_of g a in
      let generation = (record_at s z).generation in
      let values : values_on g (is_set (present_list g named s.lost)) (read_by_roles g xs ws) z generation (offset_of g a) count ≡ values_on g (call_present g (is_set named) (view_state s)) (seen_in g (tables_of xs ws ds)) z generation (offset_of g a) count =
      ap (λ (f : ℕ → Bool). values_on g f (read_by_roles g xs ws) z generation (offset_of g a) count) (present_is g named s)
      ∙ sym (values_seen g p.logs_first (call_present g (is_set named) (view_state s)) xs ws ds (opened_sized g named s a count (length out) xs ws ds p) z generation (offset_of g a) count) in
      ap₂ (λ (m : ℕ) (v : List ℕ). pick (eqb m 0) v out) e values
