-- WHAT IS KNOWN OF THE DEVICE BETWEEN FINISHED CALLS, as far as the answers of calls hang on it: the refusals that cannot come, and what the state, the contents and
-- the logs say of each other. (named: the drives that the host names, all but the lost one)
use Rattle.std.specs.Prelude.{◌≡◌, ◌≢◌, Bool, true, false, ◌&&◌, not, ℕ, suc, ◌+◌, ◌≤◌, ◌<◌, List, [], length, get_or}
use Rattle.tables.specs.declared.Geometry.{Geometry}
use Rattle.tables.specs.meaning.Below.{tabulate_from}
use Rattle.tables.specs.meaning.Drives.{present_but}
use Rattle.tables.specs.meaning.Device.{Device}
use Rattle.tables.specs.meaning.Geometry.{data_zone}
use Rattle.tables.specs.meaning.GeometryTest.{is_valid}
use Rattle.tables.specs.meaning.Placement.{drive_of, sector_of}
use Rattle.logs.specs.meaning.Entry.{general_zone, spare_zone}
use Rattle.volume.specs.meaning.State.{StateView, pointer_in, call_present}
use Rattle.volume.specs.meaning.Content.{at}
use Rattle.volume.specs.meaning.Rules.{generation_of, value_at}
use Rattle.volume.specs.meaning.Roles.{roles, by_roles, zone_claim}
use Rattle.volume.specs.meaning.Refusals.{TableLengths, state_within, tables_fit, bad_pointers, two_absent, stale, gone_in, gone_before, not_held}
use Rattle.volume.specs.meaning.Answers.{lost_in}
use Rattle.promise.specs.meaning.Claim.{System, SharesFit}
use Rattle.promise.specs.meaning.OnDevice.{on_device}

pub record RestFacts (g : Geometry) (t : TableLengths) (s : System (on_device g t)) (named : ℕ → Bool) : Type 0 where
  -- refusals that cannot come
  pub row_1 : not (is_valid g && state_within g s.state) ≡ false
  pub fits : tables_fit g t ≡ true
  pub row_3 : bad_pointers g named s.memory ≡ false
  pub row_4 : two_absent g named s.state ≡ false
  pub row_7 : (z : ℕ) → stale g (present_but g s.lost) (by_roles g s.memory) s.state z ≡ false
  -- the drives
  pub drives : call_present g named s.state ≡ present_but g s.lost
  pub lost_is : lost_in g named s.state ≡ s.lost
  -- the zones
  pub pointer_is : (z : ℕ) → z < g.zones → pointer_in (s.state.condition z) ≡ length (s.ledger.content z)
  pub known : (z : ℕ) → z < g.zones → (offset count : ℕ) → offset + count ≤ length (s.ledger.content z) → gone_in g (present_but g s.lost) (by_roles g s.memory) z (s.state.generation z) offset count ≡ false
  pub known_before : (z : ℕ) → z < g.zones → gone_before g (present_but g s.lost) (by_roles g s.memory) z (s.state.generation z) (pointer_in (s.state.condition z)) ≡ false
  pub values : (z : ℕ) → z < g.zones → (offset count : ℕ) → offset + count ≤ length (s.ledger.content z)
      → tabulate_from (value_at g (present_but g s.lost) (by_roles g s.memory) z (s.state.generation z)) offset count ≡ tabulate_from (at (s.ledger.content z)) offset count
  pub held : (z : ℕ) → z < g.zones → (a : ℕ) → a < length (s.ledger.content z)
      → not_held g (present_but g s.lost) (by_roles g s.memory) z (s.state.generation z) a ≡ not (present_but g s.lost (drive_of g.drives g.unit z a))
  pub sector : (z : ℕ) → z < g.zones → (a : ℕ) → a < length (s.ledger.content z) → present_but g s.lost (drive_of g.drives g.unit z a) ≡ true
      → get_or (s.memory (drive_of g.drives g.unit z a) (data_zone z)).sectors (sector_of g.drives g.unit a) [] ≡ at (s.ledger.content z) a
  -- the logs
  pub generations : (z : ℕ) → z < g.zones → s.state.generation z ≡ generation_of g (present_but g s.lost) (by_roles g s.memory) z
  pub general_claim_lem : (d : ℕ) → present_but g s.lost d ≡ true → (roles g s.memory d).general_claim ≡ suc (zone_claim g d false (by_roles g s.memory d general_zone).sectors)
  pub parity_claim_lem : (d : ℕ) → present_but g s.lost d ≡ true → (roles g s.memory d).parity_claim ≢ 0
  pub blank : (d : ℕ) → present_but g s.lost d ≡ true → (by_roles g s.memory d spare_zone).sectors ≡ []
  pub shares : (d : ℕ) → present_but g s.lost d ≡ true → SharesFit g s.memory s.state d
