-- The calls on any input, on a device: what refuses each, what it stores, what it hands on or gives. The refusals are those of Refusals.antt, the
-- stores those of Calls.antt and Mount.antt, what is shown and read that of Rules.antt.
use Rattle.volume.specs.meaning.Rules.{lost_drive, Shown, is_present, showing, value_at}
use Rattle.volume.specs.meaning.Refusals.{first_bad_place, first_refusal, Verdict, refuse, accept, TableLengths, WriteAsked, zone_asked, zone_of, offset_of, format_rows, look_rows, mount_rows, write_rows, flush_rows, reset_rows, compact_rows, read_rows, peek_rows, bad_pointers}
use Rattle.std.specs.Prelude.{Bool, ◌&&◌, not, ℕ, zero, ◌*◌, List, length, take, drop, ltb, eqb}
use Rattle.tables.specs.meaning.Device.{Device, Store, apply_all}
use Rattle.tables.specs.meaning.Basics.{pick}
use Rattle.tables.specs.meaning.Placement.{drive_of, sector_of}
use Rattle.tables.specs.declared.Geometry.{Geometry}
use Rattle.tables.specs.meaning.Below.{tabulate_from}
use Rattle.tables.specs.meaning.Drives.{find_below}
use Rattle.volume.specs.meaning.State.{StateView, with_shares, call_present}
use Rattle.volume.specs.meaning.Calls.{flush_stores, flush_state, reset_state, format_stores, format_state}
use Rattle.volume.specs.meaning.Hosts.{fresh_shares, written_state, compact_state}
use Rattle.volume.specs.meaning.Roles.{roles, by_roles, placed_by}
use Rattle.volume.specs.meaning.Emptying.{write_all, reset_all, compact_stores}
use Rattle.volume.specs.meaning.Mount.{mount_stores, shown_state}
use Rattle.volume.specs.declared.Answer.{Answer}
use Rattle.volume.specs.declared.Answer.TheVariants.{Finished, Unfinished, Refused, BadLog}
use Rattle.volume.specs.declared.BadPlace.{BadPlace}
use Rattle.tables.specs.meaning.Geometry.{data_zone}

-- what a call leaves: its answer, the memory (here a device), and the state that the host holds from then on. "Refused: no store is made; state and
-- answer buffer keep their contents." "Unfinished: the tables then hold just those stores, state and answer buffer what they held."
pub record CallResult (M S : Type 0) : Type 0 where
  pub answer : Answer
  pub memory : M
  pub state : S

-- A STORING CALL is one record: the conditions that refuse it, in their order; its stores; the state that it hands on. (What it tells the ledger: promise)
pub record StoringCall : Type 0 where
  pub refusals : List (ℕ × Bool)
  pub stores : List Store
  pub state : StateView

-- "each storing call also takes a count of stores, stops once that many are made, and answers unfinished if any is left"; refusals come first
abbrev pub storing : Verdict → List Store → StateView → StateView → ℕ → Device → CallResult Device StateView
storing (refuse n) xs new old stop v = record { answer = Refused n; memory = v; state = old }
storing accept xs new old stop v =
    pick (ltb stop (length xs)) (record { answer = Unfinished; memory = apply_all (take stop xs) v; state = old }) (record { answer = Finished; memory = apply_all xs v; state = new })

abbrev pub carried_out : StoringCall → StateView → ℕ → Device → CallResult Device StateView
carried_out c old stop v = storing (first_refusal c.refusals) c.stores c.state old stop v

-- a call that stores nothing gives what it was asked for, or a refusal's number
pub data Given (A : Type 0) : Type 0 where
  refused : ℕ → Given A
  given : A → Given A

abbrev pub giving : {A : Type 0} → Verdict → A → Given A
giving (refuse n) x = refused n
giving accept x = given x

-- "A drive left out of an accepted format, write, flush or reset is lost in the state handed on", and of a compact
unfoldable pub lost_in : Geometry → (ℕ → Bool) → StateView → ℕ
lost_in g named state = find_below (λ d. not (call_present g named state d)) g.drives

unfoldable pub left_out : Geometry → (ℕ → Bool) → ℕ
left_out g named = find_below (λ d. not (named d)) g.drives

-- the drives of a format: those named
unfoldable pub named_drives : Geometry → (ℕ → Bool) → ℕ → Bool
named_drives g named d = ltb d g.drives && named d

-- count sectors out of a buffer
unfoldable pub sectors_in : Geometry → ℕ → List ℕ → List (List ℕ)
sectors_in g count buffer = tabulate_from (λ i. take g.sector (drop (i * g.sector) buffer)) zero count

-- where a sector sits: "the part of the lent sectors where that sector sits"
pub record Place : Type 0 where
  pub drive : ℕ
  pub zone : ℕ  -- physical
  pub sector : ℕ

abbrev pub place_of : Geometry → ℕ → Place
place_of g a = record { drive = drive_of g.drives g.unit (zone_of g a) (offset_of g a); zone = data_zone (zone_of g a); sector = sector_of g.drives g.unit (offset_of g a) }

-- ==== the calls (t: the lengths of the tables; v: the device, whose rules see it by its roles)
-- the drives that a look finds present, and the lost one
abbrev pub present_in : Geometry → (ℕ → Bool) → Device → ℕ → Bool
present_in g named v = is_present g named (by_roles g v)

abbrev pub lost_drive_in : Geometry → (ℕ → Bool) → Device → ℕ
lost_drive_in g named v = lost_drive g named (by_roles g v)

-- the first bad place of the counting logs of those drives, in their zones
abbrev pub bad_place_of : Geometry → (ℕ → Bool) → Device → BadPlace
bad_place_of g named v = first_bad_place g (present_in g named v) (placed_by (roles g v)) (by_roles g v)

-- the answer of a look or mount that is refused by row n: row 6 by the number and the place of the first bad place (b), any other by its number
abbrev pub refused_at : BadPlace → ℕ → Answer
refused_at b n = pick (eqb n 6) (BadLog b) (Refused n)

abbrev pub told_at : BadPlace → Answer → Answer
told_at b Finished = Finished
told_at b Unfinished = Unfinished
told_at b (Refused n) = refused_at b n
told_at b (BadLog p) = BadLog p

abbrev pub format_call : Geometry → TableLengths → (ℕ → Bool) → ℕ → Device → StoringCall
format_call g t named array v = record { refusals = format_rows g t (bad_pointers g named v) named v; stores = format_stores g (named_drives g named) (left_out g named) array; state = with_shares (fresh_shares g (named_drives g named)) (format_state (left_out g named)) }

-- "It shows what a look shows after its last store": the state it leaves is the shown_state of that
abbrev pub mount_call : Geometry → TableLengths → (ℕ → Bool) → Device → StoringCall
mount_call g t named v = record {
  refusals = mount_rows g t (bad_pointers g named v) named (roles g v) (by_roles g v);
  stores = mount_stores g (present_in g named v) (lost_drive_in g named v) v;
  state = shown_state g (present_in g named v) (lost_drive_in g named v) (apply_all (mount_stores g (present_in g named v) (lost_drive_in g named v) v) v);
}

abbrev pub write_call : Geometry → TableLengths → (ℕ → Bool) → StateView → WriteAsked → Device → StoringCall
write_call g t named state a v = record {
  refusals = write_rows g t (bad_pointers g named v) named state a (roles g v) (by_roles g v);
  stores = write_all g (call_present g named state) (roles g v) (by_roles g v) state (zone_asked g a) (sectors_in g a.count a.buffer);
  state = written_state g (call_present g named state) (lost_in g named state) a.host state (zone_asked g a) a.count;
}

abbrev pub flush_call : Geometry → TableLengths → (ℕ → Bool) → StateView → Device → StoringCall
flush_call g t named state v = record { refusals = flush_rows g t (bad_pointers g named v) named state v; stores = flush_stores g (call_present g named state); state = flush_state (lost_in g named state) state }

abbrev pub reset_call : Geometry → TableLengths → (ℕ → Bool) → StateView → ℕ → Device → StoringCall
reset_call g t named state z v = record {
  refusals = reset_rows g t (bad_pointers g named v) named state z (roles g v) (by_roles g v);
  stores = reset_all g (call_present g named state) (roles g v) (by_roles g v) state z;
  state = reset_state (lost_in g named state) state z;
}

-- of drive d
abbrev pub compact_call : Geometry → TableLengths → (ℕ → Bool) → StateView → ℕ → Device → StoringCall
compact_call g t named state d v = record {
  refusals = compact_rows g t (bad_pointers g named v) named state d (roles g v) (by_roles g v);
  stores = compact_stores g (call_present g named state) (roles g v) (by_roles g v) state d;
  state = compact_state g (call_present g named state) (lost_in g named state) (by_roles g v) state d;
}

abbrev pub look_call : Geometry → TableLengths → (ℕ → Bool) → Device → Given Shown
look_call g t named v = giving (first_refusal (look_rows g t (bad_pointers g named v) named (roles g v) (by_roles g v))) (showing g (present_in g named v) (lost_drive_in g named v) (by_roles g v))

-- the values of rule 4
abbrev pub read_call : Geometry → TableLengths → (ℕ → Bool) → StateView → ℕ → ℕ → ℕ → Device → Given (List (List ℕ))
read_call g t named state a count len v =
    giving (first_refusal (read_rows g t (bad_pointers g named v) named state a count len (by_roles g v))) (tabulate_from (value_at g (call_present g named state) (by_roles g v) (zone_of g a) (state.generation (zone_of g a))) (offset_of g a) count)

abbrev pub peek_call : Geometry → TableLengths → (ℕ → Bool) → StateView → ℕ → Device → Given Place
peek_call g t named state a v = giving (first_refusal (peek_rows g t (bad_pointers g named v) named state a (by_roles g v))) (place_of g a)
