-- A parity log emptied as one of a call's (src/emptyings.rt): what it relies on beyond a general log, since entries may have to be made.
use Rattle.std.specs.Prelude.{◌≡◌, true, false, ℕ, ◌≤◌, ◌<◌, List, length, get_or, eqb}
use Rattle.tables.specs.meaning.Geometry.{Valid, physical_zones, cells}
use Rattle.volume.specs.emptying.Elsewhere.{SectorsLong}
use Rattle.tables.specs.meaning.Tables.{cell}
use Rattle.logs.specs.meaning.Entry.{spare_zone}
use Rattle.volume.specs.declared.emptyings.Emptyings.{Emptyings}
use Rattle.volume.specs.meaning.CallContracts.{is_set}
use Rattle.volume.specs.meaning.Emptying.{parity_copies, gone_for_copies}
use Rattle.volume.specs.looking.Knowing.{read_device}
use Rattle.volume.specs.rows.KeptBelow.{Behind}
use Rattle.volume.specs.emptying.ParityCopies.{in_force_by, PointersWithin, old_entries, entry_sectors}
use Rattle.volume.specs.emptying.ParityReady.{ParityCopying, none_gone_known, parity_copies_long}
use Rattle.volume.specs.emptying.Emptyings.{emptying_of, EmptyingReady, ready_copying}
use Rattle.volume.specs.looking.MovedLogs.{is_emptied}

-- the copies of drive d's parity log
abbrev pub new_parity_on : Emptyings → List ℕ → List ℕ → List ℕ → List ℕ → ℕ → List (List ℕ)
new_parity_on a gs qs xs ps d =
    entry_sectors (emptying_of a d) (parity_copies a.from (in_force_by (emptying_of a d) gs qs (read_device a.from xs ps)) d (old_entries (emptying_of a d) (read_device a.from xs ps)))

pub record ParityKnown (a : Emptyings) (gs qs ps xs ws : List ℕ) (d : ℕ) : Type 0 where
  pub drive_in : d < a.from.drives
  pub behind : Behind a.from (λ y. eqb y spare_zone) ps ws
  pub in_zones : (e y : ℕ) → e < a.from.drives → is_set a.here e ≡ true → y < physical_zones a.from → get_or ps (cell a.from e y) 0 ≤ a.from.capacity
  pub generations_long : a.from.zones ≤ length gs
  pub pointers_within : PointersWithin a.from qs
  pub none_gone : is_emptied a.emptied d ≡ true → gone_for_copies a.from (is_set a.here) (in_force_by (emptying_of a d) gs qs (read_device a.from xs ps)) (read_device a.from xs ps) d ≡ false

pub known_copying : (a : Emptyings) (gs qs ps xs ws ds : List ℕ) (d : ℕ) → EmptyingReady true a ps xs ws ds → ParityKnown a gs qs ps xs ws d → is_emptied a.emptied d ≡ true → ParityCopying (emptying_of a d) gs qs ps ps xs ws
known_copying a gs qs ps xs ws ds d r k e = record {
  tables = record {
    copying = ready_copying true a ps xs ws ds d r k.drive_in e;
    starts_long = r.pointers_long;
    behind = k.behind;
    starts_behind = k.behind;
    in_zones = k.in_zones;
  };
  generations_long = k.generations_long;
  pointers_within = k.pointers_within;
  known_if_made = none_gone_known (emptying_of a d) gs qs (read_device a.from xs ps) (k.none_gone e);
}

-- what the emptying of a drive's parity log relies on, if it is one of them: values are read below `ps`, the old log below `ss`
pub record TurnReady (a : Emptyings) (gs qs ps ss xs ws ds : List ℕ) (d : ℕ) : Type 0 where
  pub drive_in : d < a.from.drives
  pub copying : is_emptied a.emptied d ≡ true → ParityCopying (emptying_of a d) gs qs ps ss xs ws
  pub durable_long : length ds ≡ cells a.from

pub known_ready : (a : Emptyings) (gs qs ps xs ws ds : List ℕ) (d : ℕ) → EmptyingReady true a ps xs ws ds → ParityKnown a gs qs ps xs ws d → TurnReady a gs qs ps ps xs ws ds d
known_ready a gs qs ps xs ws ds d r k = record { drive_in = k.drive_in; copying = known_copying a gs qs ps xs ws ds d r k; durable_long = r.durable_long }

-- these copies are whole sectors
pub known_long : (a : Emptyings) (gs qs ps xs ws ds : List ℕ) (d : ℕ) → Valid a.from → EmptyingReady true a ps xs ws ds → ParityKnown a gs qs ps xs ws d → is_emptied a.emptied d ≡ true → SectorsLong a.from.sector (new_parity_on a gs qs xs ps d)
known_long a gs qs ps xs ws ds d ok r k e = parity_copies_long (emptying_of a d) gs qs ps ps xs ws ok (known_copying a gs qs ps xs ws ds d r k e)
