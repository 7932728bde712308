-- A call on one zone, by what the state says of it (src/by_record.rt).
use Rattle.std.specs.Prelude.{◌≡◌, Bool, true, false, ◌&&◌, not, ℕ, ◌≤◌, ◌<◌, List, [], length, get_or, ltb, eqb}
use Rattle.std.proofs.Common.{sym, ap, ◌∙◌}
use Rattle.tables.specs.declared.Geometry.{Geometry}
use Rattle.tables.specs.laws.Basics.{and_split}
use Rattle.tables.specs.meaning.Geometry.{physical_zones, cells, zone_sectors}
use Rattle.tables.specs.meaning.GeometryTest.{is_valid}
use Rattle.tables.specs.meaning.Tables.{cell, pointers_bad}
use Rattle.volume.specs.declared.State.{State}
use Rattle.volume.specs.declared.by_record.ByRecord.{ByRecord}
use Rattle.volume.specs.meaning.State.{pointer_in, call_present}
use Rattle.volume.specs.meaning.Refusals.{zone_of, state_within}
use Rattle.volume.specs.meaning.CallContracts.{record_at, view_state, is_set}
use Rattle.volume.specs.checks.CheckLaws.{present_list, present_is, opened_from, opened_from_lem, opening_number, opening_is}

-- what the functions rely on
pub record RecordFits (by : ByRecord) (ws : List ℕ) : Type 0 where
  pub logs_first : by.geometry.logs ≡ 0
  pub written_long : length ws ≡ cells by.geometry
  pub pointer_in_lem : pointer_in by.record.condition ≤ zone_sectors by.geometry
  pub in_zones : by.bad ≡ false → (d y : ℕ) → d < by.geometry.drives → is_set by.named d ≡ true → y < physical_zones by.geometry → get_or ws (cell by.geometry d y) 0 ≤ by.geometry.capacity

-- a state that says so, and durable pointers with which refusal 3 is as taken; a is the address
pub record SaysOf (by : ByRecord) (a : ℕ) (s : State) (ws ds : List ℕ) : Type 0 where
  pub valid : is_valid by.geometry ≡ true
  pub within : state_within by.geometry (view_state s) ≡ true
  pub lost_is : s.lost ≡ by.lost
  pub record_is : record_at s (zone_of by.geometry a) ≡ by.record
  pub durable_long : length ds ≡ cells by.geometry
  pub bad_is : pointers_bad by.geometry by.named ws ds ≡ by.bad

-- a drive that is present is named
pub present_named : (g : Geometry) (named : List Bool) (lost d : ℕ) → is_set (present_list g named lost) d ≡ true → is_set named d ≡ true
unfolding call_present
present_named g named lost d h =
    let s : State = record { lost = lost; zones = []; shares = [] } in
    let k : ltb d g.drives && (is_set named d && not (eqb d lost)) ≡ true = sym (ap (λ (p : ℕ → Bool). p d) (present_is g named s)) ∙ h in
    (and_split (is_set named d) (not (eqb d lost)) (and_split (ltb d g.drives) (is_set named d && not (eqb d lost)) k).1).0

-- refusals 1 to 4 by such a state
pub opening_by : (by : ByRecord) (a count bytes sectors : ℕ) (s : State) (ws ds : List ℕ) → length ws ≡ cells by.geometry → SaysOf by a s ws ds
    → opened_from by.geometry by.named by.lost count bytes sectors by.bad ≡ opening_number by.geometry by.named s count bytes sectors ws ds
opening_by by a count bytes sectors s ws ds l q =
    let g = by.geometry in
    let both : is_valid g && state_within g (view_state s) ≡ true = ap (λ (b : Bool). b && state_within g (view_state s)) q.valid ∙ q.within in
    ap (opened_from g by.named by.lost count bytes sectors) (sym q.bad_is) ∙ ap (λ (x : ℕ). opened_from g by.named x count bytes sectors (pointers_bad g by.named ws ds)) (sym q.lost_is)
    ∙ opened_from_lem g by.named (is_valid g && state_within g (view_state s)) s.lost count bytes sectors ws ds both l q.durable_long
    ∙ opening_is g by.named s (is_valid g && state_within g (view_state s)) count bytes sectors ws ds (λ i. is_valid g && state_within g (view_state s))
