-- The parity logs emptied drive by drive in a mount (src/emptyings.rt, `empty_parities`): values are read below the pointers ps, those of the look; the old logs
-- below ss, those of the moment before.
use Rattle.std.specs.Prelude.{◌≡◌, refl, Bool, true, false, ℕ, suc, ◌≤◌, ◌<◌, List, [], length, get_or, eqb}
use Rattle.std.proofs.Common.{ap, ap₂, ◌∙◌, subst, le_trans, arith, eqb-true}
use Rattle.tables.specs.meaning.Basics.{pick}
use Rattle.tables.specs.meaning.Below.{each_below}
use Rattle.tables.specs.meaning.Geometry.{Valid, cells, physical_zones}
use Rattle.tables.specs.meaning.Device.{Device, Store}
use Rattle.tables.specs.meaning.Tables.{Tables, tables_of, cell}
use Rattle.tables.specs.laws.Made.{Made, WellSized}
use Rattle.tables.specs.laws.Counted.{made_nil, made_append}
use Rattle.tables.specs.laws.Tables.{cell_injective}
use Rattle.logs.specs.meaning.Entry.{parity_zone, spare_zone}
use Rattle.volume.specs.declared.emptyings.Emptyings.{Emptyings}
use Rattle.volume.specs.meaning.CallContracts.{is_set}
use Rattle.volume.specs.meaning.Emptying.{parity_copies}
use Rattle.volume.specs.looking.Knowing.{read_device}
use Rattle.volume.specs.rows.KeptBelow.{Behind}
use Rattle.volume.specs.emptying.Elsewhere.{SectorsLong}
use Rattle.volume.specs.emptying.EmptyingStores.{emptied_to}
use Rattle.volume.specs.emptying.EmptiedKeeps.{leaves, emptied_durable, emptied_behind, emptied_device}
use Rattle.volume.specs.emptying.ParityCopies.{in_force_by, PointersWithin, old_entries, entry_sectors, copied_entries, point_of}
use Rattle.volume.specs.emptying.ParityEmptyings.{TurnReady}
use Rattle.volume.specs.emptying.ParityReady.{KnownIfMade, ParityCopying, parity_copies_long}
use Rattle.volume.specs.emptying.Emptyings.{emptying_of, emptied_on, EmptyingReady, ready_copying, emptied_kept}
use Rattle.volume.specs.looking.MovedLogs.{is_emptied}

-- what the function relies on
pub record ParitiesReady (a : Emptyings) (gs qs ps ss xs ws ds : List ℕ) : Type 0 where
  pub ready : EmptyingReady true a ss xs ws ds
  pub pointers_long : length ps ≡ cells a.from
  pub behind : Behind a.from (λ y. eqb y spare_zone) ps ws
  pub starts_behind : Behind a.from (λ y. eqb y spare_zone) ss ws
  pub logs_behind : Behind a.to (λ y. eqb y parity_zone) ps ws
  pub in_zones : (d y : ℕ) → d < a.from.drives → is_set a.here d ≡ true → y < physical_zones a.from → get_or ps (cell a.from d y) 0 ≤ a.from.capacity
  pub generations_long : a.from.zones ≤ length gs
  pub pointers_within : PointersWithin a.from qs
  pub known_if_made : (d z : ℕ) → d < a.from.drives → is_emptied a.emptied d ≡ true → z < a.from.zones
      → KnownIfMade (emptying_of a d) (point_of gs qs z) (read_device a.from xs ps) (old_entries (emptying_of a d) (read_device a.from xs ss))

-- the copies of drive d's parity log
abbrev pub parity_copies_on : Emptyings → List ℕ → List ℕ → List ℕ → List ℕ → List ℕ → ℕ → List (List ℕ)
parity_copies_on a gs qs ps ss xs d = entry_sectors (emptying_of a d) (copied_entries (emptying_of a d) gs qs ps ss xs)

-- what it makes and leaves
pub record ParitiesEmptied (a : Emptyings) (gs qs ps ss : List ℕ) (budget rest : ℕ) (t u : Tables) : Type 0 where
  pub made : Made a.to budget rest (each_below (λ d. emptied_on a true (parity_copies_on a gs qs ps ss t.sectors d) d) a.from.drives) t u
  pub sized : WellSized a.from u
  pub device : read_device a.from u.sectors ps ≡ read_device a.from t.sectors ps
  pub logs_behind : Behind a.to (λ y. eqb y parity_zone) ps u.written

-- ---- one of them
-- what it relies on
pub turn_copying : (a : Emptyings) (gs qs ps ss xs ws ds : List ℕ) (d : ℕ) → ParitiesReady a gs qs ps ss xs ws ds → d < a.from.drives → is_emptied a.emptied d ≡ true → ParityCopying (emptying_of a d) gs qs ps ss xs ws
turn_copying a gs qs ps ss xs ws ds d r hd e =
    let c = ready_copying true a ss xs ws ds d r.ready hd e in
    record {
      tables = record {
        copying = record { moves = c.moves; sectors_long = c.sectors_long; written_long = c.written_long; pointers_long = r.pointers_long };
        starts_long = c.pointers_long;
        behind = r.behind;
        starts_behind = r.starts_behind;
        in_zones = r.in_zones;
      };
      generations_long = r.generations_long;
      pointers_within = r.pointers_within;
      known_if_made = λ z hz. r.known_if_made d z hd e hz;
    }

pub turn_ready : (a : Emptyings) (gs qs ps ss xs ws ds : List ℕ) (d : ℕ) → ParitiesReady a gs qs ps ss xs ws ds → d < a.from.drives → TurnReady a gs qs ps ss xs ws ds d
turn_ready a gs qs ps ss xs ws ds d r hd = record { drive_in = hd; copying = turn_copying a gs qs ps ss xs ws ds d r hd; durable_long = r.ready.durable_long }

-- what its stores leave, of the pointers and of what is read below ps
record Left (a : Emptyings) (ps ss xs xs' ws' ds' : List ℕ) : Type 0 where
  durable_long : length ds' ≡ cells a.from
  behind : Behind a.from (λ y. eqb y spare_zone) ps ws'
  starts_behind : Behind a.from (λ y. eqb y spare_zone) ss ws'
  logs_behind : Behind a.to (λ y. eqb y parity_zone) ps ws'
  device : read_device a.from xs' ps ≡ read_device a.from xs ps

module _ (a : Emptyings) (gs qs ps ss xs ws ds : List ℕ) (d : ℕ) (ok : Valid a.from) (r : ParitiesReady a gs qs ps ss xs ws ds) (hd : d < a.from.drives) (budget rest : ℕ) (xs' ws' ds' : List ℕ) where
  abbrev copies : List (List ℕ)
  copies = parity_copies_on a gs qs ps ss xs d

  whole : is_emptied a.emptied d ≡ true → SectorsLong a.from.sector copies
  whole e = parity_copies_long (emptying_of a d) gs qs ps ss xs ws ok (turn_copying a gs qs ps ss xs ws ds d r hd e)

  -- it is due: it appends to its log by `to`, and resets the spare
  left_due : is_emptied a.emptied d ≡ true → Made a.to budget rest (emptied_to (emptying_of a d) true copies) (tables_of xs ws ds) (tables_of xs' ws' ds') → Left a ps ss xs xs' ws' ds'
  left_due e m =
      let x = emptying_of a d in
      let c = (turn_copying a gs qs ps ss xs ws ds d r hd e).tables.copying in
      let k = ready_copying true a ss xs ws ds d r.ready hd e in
      let long = r.ready.durable_long in
      let grows = (leaves true x ps xs ws ds c long ok budget rest copies xs' ws' ds' (whole e) m).grows in
      record {
        durable_long = emptied_durable true x ps xs ws ds c long ok budget rest copies xs' ws' ds' (whole e) m;
        behind = emptied_behind true x ps xs ws ds c long ok budget rest copies xs' ws' ds' (whole e) m r.behind;
        starts_behind = emptied_behind true x ss xs ws ds k long ok budget rest copies xs' ws' ds' (whole e) m r.starts_behind;
        logs_behind = record {
          least = λ f y hf hy q. le_trans (r.logs_behind.least f y hf hy q) (grows (cell a.to f y)
              (λ i. let j = (cell_injective a.to d spare_zone f y (omega arith) hy i).1 in omega (arith, j, eqb-true y parity_zone q)));
        };
        device = emptied_device true x ps xs ws ds c long ok budget rest copies xs' ws' ds' (whole e) m r.behind;
      }

  -- it is not: it makes no store
  left_alone : Made a.to budget rest [] (tables_of xs ws ds) (tables_of xs' ws' ds') → Left a ps ss xs xs' ws' ds'
  left_alone m =
      let x : xs' ≡ xs = ap (λ (t : Tables). t.sectors) m.tables_are in
      let w : ws' ≡ ws = ap (λ (t : Tables). t.written) m.tables_are in
      let k : ds' ≡ ds = ap (λ (t : Tables). t.durable) m.tables_are in
      record {
        durable_long = rw k r.ready.durable_long;
        behind = rw w r.behind;
        starts_behind = rw w r.starts_behind;
        logs_behind = rw w r.logs_behind;
        device = rw x refl;
      }

  left : (b : Bool) → is_emptied a.emptied d ≡ b → Made a.to budget rest (pick b (emptied_to (emptying_of a d) true copies) []) (tables_of xs ws ds) (tables_of xs' ws' ds') → Left a ps ss xs xs' ws' ds'
  left true e m = left_due e m
  left false e m = left_alone m

  -- so the next one can go, and reads the same
  parities_kept : Made a.to budget rest (emptied_on a true copies d) (tables_of xs ws ds) (tables_of xs' ws' ds')
      → ParitiesReady a gs qs ps ss xs' ws' ds' × (read_device a.from xs' ps ≡ read_device a.from xs ps) × (read_device a.from xs' ss ≡ read_device a.from xs ss)
  parities_kept m =
      let o = r.ready in
      let n = left (is_emptied a.emptied d) refl m in
      let k = emptied_kept true a ss xs ws ds d copies budget rest xs' ws' ds' ok o hd whole m in
      let q : read_device a.from xs' ps ≡ read_device a.from xs ps = n.device in
      let p : read_device a.from xs' ss ≡ read_device a.from xs ss = k.device in (
        record {
          ready = record { shape = o.shape; moved = o.moved; sectors_long = k.sectors_long; written_long = k.written_long; durable_long = n.durable_long; pointers_long = o.pointers_long; behind = k.behind };
          pointers_long = r.pointers_long;
          behind = n.behind;
          starts_behind = n.starts_behind;
          logs_behind = n.logs_behind;
          in_zones = r.in_zones;
          generations_long = r.generations_long;
          pointers_within = r.pointers_within;
          known_if_made = rw (q, p) r.known_if_made;
        },
        q,
        p,
      )

-- ---- one after the other: what the first ones left, with what is read as it was
-- the stores for drive d, by the bytes xs
abbrev parity_on : Emptyings → List ℕ → List ℕ → List ℕ → List ℕ → List ℕ → ℕ → List Store
parity_on a gs qs ps ss xs d = emptied_on a true (parity_copies_on a gs qs ps ss xs d) d

pub record ParityTurn (a : Emptyings) (gs qs ps ss xs₀ ws₀ ds₀ : List ℕ) (budget rest d : ℕ) (xs ws ds : List ℕ) : Type 0 where
  pub ready : ParitiesReady a gs qs ps ss xs ws ds
  pub device : read_device a.from xs ps ≡ read_device a.from xs₀ ps
  pub starts : read_device a.from xs ss ≡ read_device a.from xs₀ ss
  pub made : Made a.to budget rest (each_below (parity_on a gs qs ps ss xs₀) d) (tables_of xs₀ ws₀ ds₀) (tables_of xs ws ds)

pub parities_begin : (a : Emptyings) (gs qs ps ss xs ws ds : List ℕ) (budget : ℕ) → ParitiesReady a gs qs ps ss xs ws ds → ParityTurn a gs qs ps ss xs ws ds budget budget 0 xs ws ds
parities_begin a gs qs ps ss xs ws ds budget r = record { ready = r; device = refl; starts = refl; made = made_nil a.to budget (tables_of xs ws ds) }

pub parities_more : (a : Emptyings) (gs qs ps ss xs₀ ws₀ ds₀ : List ℕ) (budget mid rest d : ℕ) (xs ws ds xs' ws' ds' : List ℕ) → Valid a.from → d < a.from.drives → ParityTurn a gs qs ps ss xs₀ ws₀ ds₀ budget mid d xs ws ds
    → Made a.to mid rest (parity_on a gs qs ps ss xs d) (tables_of xs ws ds) (tables_of xs' ws' ds') → ParityTurn a gs qs ps ss xs₀ ws₀ ds₀ budget rest (suc d) xs' ws' ds'
parities_more a gs qs ps ss xs₀ ws₀ ds₀ budget mid rest d xs ws ds xs' ws' ds' ok hd t m =
    let k = parities_kept a gs qs ps ss xs ws ds d ok t.ready hd mid rest xs' ws' ds' m in
    let e = emptying_of a d in
    let same : parity_on a gs qs ps ss xs d ≡ parity_on a gs qs ps ss xs₀ d =
    ap₂ (λ (v w : Device). emptied_on a true (entry_sectors e (parity_copies a.from (in_force_by e gs qs v) d (old_entries e w))) d) t.device t.starts in
    record {
      ready = k.0;
      device = k.1 ∙ t.device;
      starts = k.2 ∙ t.starts;
      made = made_append a.to budget mid rest (each_below (parity_on a gs qs ps ss xs₀) d) (parity_on a gs qs ps ss xs₀ d) (tables_of xs₀ ws₀ ds₀) (tables_of xs ws ds) (tables_of xs' ws' ds') t.made
          (subst (λ (x : List Store). Made a.to mid rest x (tables_of xs ws ds) (tables_of xs' ws' ds')) same m);
    }

-- all of them
pub parities_done : (a : Emptyings) (gs qs ps ss xs₀ ws₀ ds₀ : List ℕ) (budget rest : ℕ) (xs ws ds : List ℕ) → ParityTurn a gs qs ps ss xs₀ ws₀ ds₀ budget rest a.from.drives xs ws ds
    → ParitiesEmptied a gs qs ps ss budget rest (tables_of xs₀ ws₀ ds₀) (tables_of xs ws ds)
parities_done a gs qs ps ss xs₀ ws₀ ds₀ budget rest xs ws ds t =
    let o = t.ready.ready in
    record { made = t.made; sized = record { sectors_long = o.sectors_long; written_long = o.written_long; durable_long = o.durable_long }; device = t.device; logs_behind = t.ready.logs_behind }
