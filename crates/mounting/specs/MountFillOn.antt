-- Step 7 of a mount on the tables: "sectors missing below the pointer, and parity of complete stripes". Its stores drive by drive and zone by zone,
-- what the code finds missing, and that they leave alone what the look found. (What they are made of: volume's laws/FillStores.)
use Rattle.std.specs.Prelude.{◌≡◌, refl, Bool, true, false, ℕ, ◌-◌, ◌/◌, ◌%◌, ◌≤◌, ◌<◌, min, List, [], length, get_or}
use Rattle.std.proofs.Common.{sym, ap, ◌∙◌, mod-lt, arith}
use Rattle.std.proofs.Math.Decide.{ℕ_discrete, dec_lt}
use Rattle.tables.specs.declared.Geometry.{Geometry}
use Rattle.tables.specs.meaning.Basics.{pick}
use Rattle.tables.specs.meaning.Below.{each_below}
use Rattle.tables.specs.meaning.Geometry.{Valid, data_zone}
use Rattle.tables.specs.meaning.Placement.{needed, parity_drive, address_at}
use Rattle.tables.specs.laws.Placement.{needed_zero}
use Rattle.tables.specs.meaning.Device.{Device, Store}
use Rattle.tables.specs.meaning.Phases.{on_present}
use Rattle.tables.specs.meaning.Tables.{tables_of, cell}
use Rattle.tables.specs.laws.Tables.{device_length}
use Rattle.volume.specs.declared.Look.{Look}
use Rattle.volume.specs.meaning.CallContracts.{is_set}
use Rattle.volume.specs.meaning.Content.{content_at}
use Rattle.volume.specs.meaning.Rules.{Shown}
use Rattle.volume.specs.meaning.Mount.{fill_step}
use Rattle.volume.specs.rows.RowStores.{present_all, rows_if, rows_in}
use Rattle.volume.specs.rows.KeptBelow.{StoresIn, each_in, on_present_in}
use Rattle.volume.specs.looking.Knowing.{read_device}
use Rattle.volume.specs.laws.FillStores.{missing, fill_zone, row_all, content_parity, content_data, parity_complete, parity_first, data_below}
use Rattle.volume.specs.checks.Records.{zone_look}
use Rattle.mounting.specs.declared.Basis.{Basis}
use Rattle.mounting.specs.declared.fill.Missing.{Missing}
use Rattle.mounting.specs.MountLook.{stays, pointed_stays}
use Rattle.mounting.specs.MountRows.{KnownBelow, values_of, known_long, known_row_long}
use Rattle.mounting.specs.MountValues.{shown_at, limit_at}
use Rattle.mounting.specs.MountRestoring.{Filling}

-- ---- the stores on the drives below m
abbrev pub fill_drives : Geometry → Shown → Device → ℕ → List Store
fill_drives g s w m = each_below (λ d. each_below (fill_zone g s w d) g.zones) m

pub fill_steps : (g : Geometry) (s : Shown) (w : Device) → fill_step g s w ≡ fill_drives g s w g.drives
unfolding fill_step
fill_steps g s w = refl

-- one zone of one drive: the drive is not here; nothing is missing; or so many sectors are
pub fill_absent : (g : Geometry) (a : ℕ → Bool) (s : Shown) (w : Device) (d z : ℕ) → a d ≡ false → on_present a (fill_zone g s w d z) ≡ []
fill_absent g a s w d z e = rw (present_all a d (data_zone z) (missing g s w d z), e) refl

pub fill_idle : (g : Geometry) (a : ℕ → Bool) (s : Shown) (w : Device) (d z : ℕ) → needed g.drives g.unit z (s.zone z).pointer d ≤ length (w d (data_zone z)).sectors → on_present a (fill_zone g s w d z) ≡ []
fill_idle g a s w d z h = let e : needed g.drives g.unit z (s.zone z).pointer d - length (w d (data_zone z)).sectors ≡ 0 = omega arith in rw e refl

pub fill_made : (g : Geometry) (a : ℕ → Bool) (s : Shown) (w : Device) (d z from to : ℕ) → a d ≡ true → from ≡ length (w d (data_zone z)).sectors → to ≡ needed g.drives g.unit z (s.zone z).pointer d
    → on_present a (fill_zone g s w d z) ≡ rows_if true d (data_zone z) (content_at g.drives g.unit z (s.zone z).value d) from to
fill_made g a s w d z from to e p q = rw (present_all a d (data_zone z) (missing g s w d z), e, p, q) refl

-- ---- what the code finds missing there: nothing where the drive is not here
pub record MissingIn (b : Basis) (ps : List ℕ) (d z : ℕ) (m : Missing) : Type 0 where
  pub pointer_is : m.pointer ≡ (zone_look b.look z).pointer
  pub from_is : m.from ≡ pick (is_set b.here d) (min (get_or ps (cell b.geometry d (data_zone z)) 0) b.geometry.capacity) 0
  pub to_is : m.to ≡ pick (is_set b.here d) (needed b.geometry.drives b.geometry.unit z (zone_look b.look z).pointer d) 0

module _ (b : Basis) (xs ps : List ℕ) (d z : ℕ) (m : Missing) (found : MissingIn b ps d z m) (hd : d < b.geometry.drives) (hz : z < b.geometry.zones) where
  abbrev here : ℕ → Bool
  here = is_set b.here

  abbrev stores : List Store
  stores = on_present here (fill_zone b.geometry (shown_at b.geometry b.here b.look xs ps) (read_device b.geometry xs ps) d z)

  abbrev last : ℕ
  last = needed b.geometry.drives b.geometry.unit z (zone_look b.look z).pointer d

  abbrev first : ℕ
  first = min (get_or ps (cell b.geometry d (data_zone z)) 0) b.geometry.capacity

  -- the sectors that the look found there
  there : length (read_device b.geometry xs ps d (data_zone z)).sectors ≡ first
  there = device_length b.geometry (tables_of xs ps []) d (data_zone z) hd (omega arith)

  pub missing_none : m.to ≤ m.from → stores ≡ []
  missing_none h = go (here d) refl found.from_is found.to_is
    where
      go : (x : Bool) → here d ≡ x → m.from ≡ pick x first 0 → m.to ≡ pick x last 0 → stores ≡ []
      go true e p q = fill_idle b.geometry here (shown_at b.geometry b.here b.look xs ps) (read_device b.geometry xs ps) d z (omega (arith, h, p, q, there))
      go false e p q = fill_absent b.geometry here (shown_at b.geometry b.here b.look xs ps) (read_device b.geometry xs ps) d z e

  pub missing_to : m.from < m.to → m.to ≡ last
  missing_to h = go (here d) found.to_is
    where
      go : (x : Bool) → m.to ≡ pick x last 0 → m.to ≡ last
      go true q = q
      go false q = absurd (omega (arith, h, q))

  pub missing_made : m.from < m.to → stores ≡ rows_if true d (data_zone z) (content_at b.geometry.drives b.geometry.unit z ((shown_at b.geometry b.here b.look xs ps).zone z).value d) m.from m.to
  missing_made h = go (here d) refl found.from_is found.to_is
    where
      go : (x : Bool) → here d ≡ x → m.from ≡ pick x first 0 → m.to ≡ pick x last 0
          → stores ≡ rows_if true d (data_zone z) (content_at b.geometry.drives b.geometry.unit z ((shown_at b.geometry b.here b.look xs ps).zone z).value d) m.from m.to
      go true e p q = fill_made b.geometry here (shown_at b.geometry b.here b.look xs ps) (read_device b.geometry xs ps) d z m.from m.to e (p ∙ sym there) q
      go false e p q = absurd (omega (arith, h, q))

-- ---- each sector that is missing is one sector long
pub content_long : (g : Geometry) (here : List Bool) (xs ps : List ℕ) (z generation limit end d x : ℕ) → Valid g → KnownBelow g here xs ps z generation limit end → d < g.drives → x < needed g.drives g.unit z end d
    → length (content_at g.drives g.unit z (values_of g here xs ps z generation) d x) ≡ g.sector
content_long g here xs ps z generation limit end d x ok k hd h = go (ℕ_discrete d (parity_drive g.drives z (x / g.unit)))
  where
    two : 1 < g.drives
    two = omega (arith, ok.drives_least)

    go : Dec (d ≡ parity_drive g.drives z (x / g.unit)) → length (content_at g.drives g.unit z (values_of g here xs ps z generation) d x) ≡ g.sector
    go (yes e) =
        let c = parity_complete g.drives g.unit z two ok.unit_least end d x h e in
        let r : x % g.unit < g.unit = mod-lt x ok.unit_least in
        ap (λ (l : List ℕ). length l) (content_parity g.drives g.unit z two ok.unit_least (values_of g here xs ps z generation) d x e ∙ sym (row_all g.drives g.unit z two ok.unit_least (values_of g here xs ps z generation) end (x / g.unit) (x % g.unit) c r))
        ∙ known_row_long g ok here xs ps z generation limit end k (x / g.unit) (x % g.unit) r (parity_first g.drives g.unit z two ok.unit_least end (x / g.unit) (x % g.unit) c r)
    go (no e) =
        ap (λ (l : List ℕ). length l) (content_data g.drives g.unit z two ok.unit_least (values_of g here xs ps z generation) d x e)
        ∙ known_long g ok here xs ps z generation limit end k (address_at g.drives g.unit z d x) (data_below g.drives g.unit z two ok.unit_least end d x hd h e)

-- ---- the stores leave alone what the look found
module _ (g : Geometry) (here : List Bool) (k : Look) (ps xs ws : List ℕ) (ok : Valid g) (r : Filling g here k ps xs ws) where
  -- a zone of which something is needed is not reset
  pub filled_stays : (d z x : ℕ) → z < g.zones → x < needed g.drives g.unit z (zone_look k z).pointer d → stays k (data_zone z) ≡ true
  filled_stays d z x hz h = pointed_stays g k z r.logging.within hz (λ e. let q : needed g.drives g.unit z (zone_look k z).pointer d ≡ 0 = rw e (needed_zero g.drives g.unit z (omega (arith, ok.drives_least)) ok.unit_least d) in omega arith)

  fill_zone_in : (d z : ℕ) → d < g.drives → z < g.zones → StoresIn g (stays k) (fill_zone g (shown_at g here k xs ps) (read_device g xs ps) d z)
  fill_zone_in d z hd hz = go (dec_lt (length (read_device g xs ps d (data_zone z)).sectors) (needed g.drives g.unit z (zone_look k z).pointer d))
    where
      go : Dec (length (read_device g xs ps d (data_zone z)).sectors < needed g.drives g.unit z (zone_look k z).pointer d) → StoresIn g (stays k) (fill_zone g (shown_at g here k xs ps) (read_device g xs ps) d z)
      go (yes h) =
          rows_in g (stays k) true d (data_zone z) (content_at g.drives g.unit z (values_of g here xs ps z (zone_look k z).generation) d) (length (read_device g xs ps d (data_zone z)).sectors) (needed g.drives g.unit z (zone_look k z).pointer d) hd (omega arith) (filled_stays d z (length (read_device g xs ps d (data_zone z)).sectors) hz h)
          (λ _ x l. content_long g here xs ps z (zone_look k z).generation (limit_at g here k xs ps z) (zone_look k z).pointer d x ok (r.known_below z hz) hd l)
      go (no h) = let e : needed g.drives g.unit z (zone_look k z).pointer d - length (read_device g xs ps d (data_zone z)).sectors ≡ 0 = omega arith in rw e tt

  pub fill_drive_in : (a : ℕ → Bool) (d n : ℕ) → d < g.drives → n ≤ g.zones → StoresIn g (stays k) (on_present a (each_below (fill_zone g (shown_at g here k xs ps) (read_device g xs ps) d) n))
  fill_drive_in a d n hd h = on_present_in g (stays k) a (each_below (fill_zone g (shown_at g here k xs ps) (read_device g xs ps) d) n) (each_in g (stays k) (fill_zone g (shown_at g here k xs ps) (read_device g xs ps) d) n (λ z l. fill_zone_in d z hd (omega arith)))

  fill_each_in : (m : ℕ) → m ≤ g.drives → StoresIn g (stays k) (fill_drives g (shown_at g here k xs ps) (read_device g xs ps) m)
  fill_each_in m h = each_in g (stays k) (λ d. each_below (fill_zone g (shown_at g here k xs ps) (read_device g xs ps) d) g.zones) m (λ d l. each_in g (stays k) (fill_zone g (shown_at g here k xs ps) (read_device g xs ps) d) g.zones (λ z q. fill_zone_in d z (omega arith) q))

  pub fill_drives_in : (a : ℕ → Bool) (m : ℕ) → m ≤ g.drives → StoresIn g (stays k) (on_present a (fill_drives g (shown_at g here k xs ps) (read_device g xs ps) m))
  fill_drives_in a m h = on_present_in g (stays k) a (fill_drives g (shown_at g here k xs ps) (read_device g xs ps) m) (fill_each_in m h)

  pub fill_in : StoresIn g (stays k) (fill_step g (shown_at g here k xs ps) (read_device g xs ps))
  fill_in = rw (fill_steps g (shown_at g here k xs ps) (read_device g xs ps)) (fill_each_in g.drives (omega arith))
