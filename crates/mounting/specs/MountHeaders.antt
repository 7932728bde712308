-- Steps 1, 2 and 5 of a mount: one header on the general log of each drive and zone where it is due. The kind of the header tells the steps
-- apart; labels are stored once a drive.
use Rattle.std.specs.Prelude.{◌≡◌, refl, Bool, true, false, ◌&&◌, not, ℕ, ◌≤◌, ◌<◌, min, List, [], ◌∷◌, length, get_or, ltb, eqb}
use Rattle.std.proofs.Common.{ap, le_refl, arith}
use Rattle.tables.specs.declared.Geometry.{Geometry}
use Rattle.tables.specs.meaning.Basics.{pick}
use Rattle.tables.specs.meaning.Below.{each_below}
use Rattle.tables.specs.meaning.Lists.{any_of}
use Rattle.tables.specs.meaning.Drives.{no_drive}
use Rattle.tables.specs.meaning.Geometry.{Valid, cells, total_bytes}
use Rattle.tables.specs.meaning.Device.{Device, Store, append}
use Rattle.tables.specs.meaning.Phases.{on_present}
use Rattle.tables.specs.meaning.Tables.{cell, tables_of}
use Rattle.tables.specs.laws.Made.{store_if, MadeAppends}
use Rattle.logs.specs.meaning.Entry.{general_zone, Header, label, zone_reset, seal, encode}
use Rattle.logs.specs.meaning.Walk.{walk_log}
use Rattle.logs.specs.code.WalkCode.{log_sectors}
use Rattle.logs.specs.code.Query.{heads_of}
use Rattle.logs.specs.meaning.Heads.{last_lost, is_seal_at}
use Rattle.logs.specs.laws.Legal.{header_long}
use Rattle.volume.specs.declared.Look.{Look}
use Rattle.mounting.specs.declared.log_headers.HeaderKind.{HeaderKind}
use Rattle.mounting.specs.declared.log_headers.HeaderKind.TheVariants.{Label, Reset, Seal}
use Rattle.volume.specs.meaning.State.{is_sealed}
use Rattle.volume.specs.meaning.Rules.{general_heads}
use Rattle.volume.specs.meaning.Calls.{append_general, logs_reset}
use Rattle.volume.specs.meaning.Mount.{label_step, reset_entry_step, seal_step}
use Rattle.volume.specs.rows.KeptBelow.{StoresIn, each_in, on_present_in, pick_in, Behind, made_keeps, kept_device}
use Rattle.mounting.specs.MountTables.{seen_sectors}
use Rattle.mounting.specs.MountLook.{shown_by, LookWithin, stays, log_stays}
use Rattle.volume.specs.looking.Knowing.{read_device}
use Rattle.volume.specs.checks.Records.{zone_look}

-- the general log of a drive, as the look found it
pub seen_heads : (g : Geometry) (xs ps : List ℕ) (d : ℕ) → d < g.drives → general_heads g (read_device g xs ps) d ≡ heads_of (walk_log g d false (log_sectors g d general_zone xs (min (get_or ps (cell g d general_zone) 0) g.capacity)))
unfolding general_heads
seen_heads g xs ps d hd = ap (λ (ss : List (List ℕ)). heads_of (walk_log g d false ss)) (seen_sectors g (tables_of xs ps []) d general_zone hd (omega arith))

-- ---- when a header is due
unfoldable pub label_due : Geometry → Look → Device → ℕ → Bool
label_due g k w d = ltb k.lost g.drives && not (eqb (last_lost no_drive (general_heads g w d)) k.lost)

unfoldable pub reset_due : Geometry → Look → ℕ → ℕ → Bool
reset_due g k d z = (zone_look k z).by_reset && logs_reset g z d

unfoldable pub seal_due : Geometry → Look → Device → ℕ → ℕ → Bool
seal_due g k w d z = is_sealed (zone_look k z).condition && not (any_of (is_seal_at z (zone_look k z).generation (zone_look k z).pointer) (general_heads g w d))

abbrev pub header_due : Geometry → HeaderKind → Look → Device → ℕ → ℕ → Bool
header_due g Label k w d z = label_due g k w d
header_due g Reset k w d z = reset_due g k d z
header_due g Seal k w d z = seal_due g k w d z

-- and which
abbrev pub header_for : HeaderKind → Look → ℕ → Header
header_for Label k z = label k.lost k.array
header_for Reset k z = zone_reset z (zone_look k z).generation
header_for Seal k z = seal z (zone_look k z).pointer (zone_look k z).generation

-- how many a drive may be due
abbrev pub header_zones : Geometry → HeaderKind → ℕ
header_zones g Label = 1
header_zones g Reset = g.zones
header_zones g Seal = g.zones

pub header_zones_most : (g : Geometry) (kind : HeaderKind) → Valid g → header_zones g kind ≤ g.zones
header_zones_most g Label ok = ok.zones_least
header_zones_most g Reset ok = le_refl g.zones
header_zones_most g Seal ok = le_refl g.zones

abbrev pub header_stores : Geometry → HeaderKind → Look → Device → ℕ → ℕ → List Store
header_stores g kind k w d z = pick (header_due g kind k w d z) (append_general g (header_for kind k z) d) []

-- on the drives below m, n times a drive
abbrev pub header_steps : Geometry → HeaderKind → Look → Device → ℕ → ℕ → List Store
header_steps g kind k w n m = each_below (λ d. each_below (header_stores g kind k w d) n) m

-- ---- the steps
abbrev pub headers_by : Geometry → HeaderKind → Look → Device → List Store
headers_by g Label k w = label_step g k.lost (shown_by k) w
headers_by g Reset k w = reset_entry_step g (shown_by k)
headers_by g Seal k w = seal_step g (shown_by k) w

pub headers_are : (g : Geometry) (kind : HeaderKind) (k : Look) (w : Device) → headers_by g kind k w ≡ header_steps g kind k w (header_zones g kind) g.drives
unfolding label_step reset_entry_step seal_step label_due reset_due seal_due
headers_are g Label k w = refl
headers_are g Reset k w = refl
headers_are g Seal k w = refl

-- ---- one header on the present drives
general_one : (a : ℕ → Bool) (d : ℕ) (s : List ℕ) (b : Bool) → a d ≡ b → on_present a (append d general_zone s ∷ []) ≡ store_if b (append d general_zone s)
general_one a d s true e = rw e refl
general_one a d s false e = rw e refl

pub header_absent : (g : Geometry) (kind : HeaderKind) (k : Look) (w : Device) (a : ℕ → Bool) (d z : ℕ) → a d ≡ false → on_present a (header_stores g kind k w d z) ≡ []
header_absent g kind k w a d z e = go (header_due g kind k w d z)
  where
    go : (b : Bool) → on_present a (pick b (append_general g (header_for kind k z) d) []) ≡ []
    go true = general_one a d (encode g d (header_for kind k z)) false e
    go false = refl

pub header_idle : (g : Geometry) (kind : HeaderKind) (k : Look) (w : Device) (a : ℕ → Bool) (d z : ℕ) → header_due g kind k w d z ≡ false → on_present a (header_stores g kind k w d z) ≡ []
header_idle g kind k w a d z e = rw e refl

pub header_made : (g : Geometry) (kind : HeaderKind) (k : Look) (w : Device) (a : ℕ → Bool) (d z : ℕ) → a d ≡ true → header_due g kind k w d z ≡ true
    → on_present a (header_stores g kind k w d z) ≡ store_if true (append d general_zone (encode g d (header_for kind k z)))
header_made g kind k w a d z e f = rw f (general_one a d (encode g d (header_for kind k z)) true e)

-- ---- they are appends to general logs
header_for_long : (g : Geometry) (d : ℕ) (kind : HeaderKind) (k : Look) (z : ℕ) → Valid g → length (encode g d (header_for kind k z)) ≡ g.sector
header_for_long g d Label k z ok = header_long g d (label k.lost k.array) ok tt
header_for_long g d Reset k z ok = header_long g d (zone_reset z (zone_look k z).generation) ok tt
header_for_long g d Seal k z ok = header_long g d (seal z (zone_look k z).pointer (zone_look k z).generation) ok tt

module _ (g : Geometry) (kind : HeaderKind) (k : Look) (w : Device) (a : ℕ → Bool) (ok : Valid g) where
  header_in : (d z : ℕ) → d < g.drives → StoresIn g (stays k) (header_stores g kind k w d z)
  header_in d z hd = pick_in g (stays k) (header_due g kind k w d z) (append_general g (header_for kind k z) d) (λ e. ((hd, omega arith, header_for_long g d kind k z ok, log_stays k general_zone (omega arith)), tt))

  pub header_row_in : (d n : ℕ) → d < g.drives → StoresIn g (stays k) (on_present a (each_below (header_stores g kind k w d) n))
  header_row_in d n hd = on_present_in g (stays k) a (each_below (header_stores g kind k w d) n) (each_in g (stays k) (header_stores g kind k w d) n (λ z h. header_in d z hd))

  pub header_steps_in : (n m : ℕ) → m ≤ g.drives → StoresIn g (stays k) (on_present a (header_steps g kind k w n m))
  header_steps_in n m h = on_present_in g (stays k) a (header_steps g kind k w n m) (each_in g (stays k) (λ d. each_below (header_stores g kind k w d) n) m (λ d l. each_in g (stays k) (header_stores g kind k w d) n (λ z q. header_in d z (omega arith))))

-- ---- what the code asks of the tables while it stores headers
pub record Logging (g : Geometry) (k : Look) (ps xs ws : List ℕ) : Type 0 where
  pub sectors_long : length xs ≡ total_bytes g
  pub written_long : length ws ≡ cells g
  pub pointers_long : length ps ≡ cells g
  pub within : LookWithin g k
  pub behind : Behind g (stays k) ps ws

-- and it can go on asking for it after headers were stored; the look's device is still the same
pub logged : (g : Geometry) (k : Look) (budget rest : ℕ) (ss : List Store) (ps xs ws xs' ws' : List ℕ) → Logging g k ps xs ws → StoresIn g (stays k) ss → MadeAppends g budget rest ss xs ws xs' ws'
    → Logging g k ps xs' ws' × (read_device g xs' ps ≡ read_device g xs ps)
logged g k budget rest ss ps xs ws xs' ws' l p m =
    let h = made_keeps g (stays k) budget rest ss ps (tables_of xs ws ws) (tables_of xs' ws' ws) p (record { sectors_long = l.sectors_long; written_long = l.written_long; durable_long = l.written_long }) l.behind (m.made ws) in
    (record { sectors_long = h.sized.sectors_long; written_long = h.sized.written_long; pointers_long = l.pointers_long; within = l.within; behind = h.behind }, kept_device g ps xs xs' [] h.bytes)

pub headers_in : (g : Geometry) (kind : HeaderKind) (k : Look) (w : Device) → Valid g → StoresIn g (stays k) (headers_by g kind k w)
headers_in g kind k w ok = rw (headers_are g kind k w) (each_in g (stays k) (λ d. each_below (header_stores g kind k w d) (header_zones g kind)) g.drives (λ d l. each_in g (stays k) (header_stores g kind k w d) (header_zones g kind) (λ z q. header_in g kind k w (λ e. true) ok d z l)))
