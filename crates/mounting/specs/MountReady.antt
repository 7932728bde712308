-- What appending a zone's missing sectors, and rows of its parity, relies on: all of its content below an end is known to the mount's look, and is read
-- below the look's pointers; what is appended goes past them.
use Rattle.std.specs.Prelude.{◌≡◌, Bool, true, ℕ, ◌≤◌, ◌<◌, List, [], length, eqb}
use Rattle.std.proofs.Math.Path.{fun_ext}
use Rattle.std.proofs.Common.{le_refl, arith, eqb-true}
use Rattle.tables.specs.declared.Geometry.{Geometry}
use Rattle.tables.specs.meaning.Geometry.{physical_zones, cells, total_bytes}
use Rattle.tables.specs.meaning.Device.{Store}
use Rattle.tables.specs.laws.Made.{MadeAppends}
use Rattle.volume.specs.declared.Look.{Look}
use Rattle.volume.specs.declared.rows.Extent.{Extent}
use Rattle.volume.specs.declared.rows.Target.{Target}
use Rattle.volume.specs.meaning.Content.{row_xor_below}
use Rattle.volume.specs.looking.Knowing.{read_device}
use Rattle.volume.specs.rows.SameShape.{SameShape, shape_refl}
use Rattle.volume.specs.rows.KeptBelow.{StoresIn, Behind, stored_keeps}
use Rattle.volume.specs.rows.RowsInPlace.{content_of, row_of_known, RowsReady, ready_kept}
use Rattle.volume.specs.checks.Records.{zone_look}
use Rattle.mounting.specs.MountLook.{LookWithin, stays}
use Rattle.mounting.specs.MountRows.{KnownBelow, values_of, known_kept, known_lower}
use Rattle.mounting.specs.MountValues.{limit_at}
use Rattle.mounting.specs.MountRestoring.{below_kept, Filling}

-- the values of an extent
abbrev pub values_in : Extent → List ℕ → List ℕ → ℕ → List ℕ
values_in k xs ps = values_of k.geometry k.here xs ps k.zone k.generation

pub record ZoneReady (k : Extent) (t : Target) (xs ws ps : List ℕ) : Type 0 where
  pub no_buffer : k.end ≤ k.below
  pub known_below : KnownBelow k.geometry k.here xs ps k.zone k.generation k.limit k.end
  pub rows : (s : ℕ) → RowsReady k t xs ws ps [] s

-- a row of the extent is one of its values
pub rows_known : (k : Extent) (xs ps : List ℕ) (s : ℕ) → k.end ≤ k.below
    → row_xor_below k.geometry.drives k.geometry.unit (content_of k (read_device k.geometry xs ps) []) s k.end ≡ row_xor_below k.geometry.drives k.geometry.unit (values_in k xs ps) s k.end
rows_known k xs ps s h = fun_ext λ r. row_of_known k (read_device k.geometry xs ps) [] s r h

-- appends to the target leave it so, and the values as they were
pub zone_kept : (k : Extent) (t : Target) (xs ws ps : List ℕ) → ZoneReady k t xs ws ps → (budget rest : ℕ) (ss : List Store) (xs' ws' : List ℕ) → StoresIn k.geometry (λ y. eqb y t.zone) ss → MadeAppends k.to budget rest ss xs ws xs' ws'
    → ZoneReady k t xs' ws' ps × (read_device k.geometry xs' ps ≡ read_device k.geometry xs ps)
zone_kept k t xs ws ps ready budget rest ss xs' ws' p m =
    let (r, e) = ready_kept k t xs ws ps [] 0 (ready.rows 0) budget rest ss xs' ws' p m in (
      record {
        no_buffer = ready.no_buffer;
        known_below = known_kept k.geometry k.here xs xs' ps k.zone k.generation k.limit k.end r.sectors_long e ready.known_below;
        rows = λ s. (ready_kept k t xs ws ps [] s (ready.rows s) budget rest ss xs' ws' p m).0;
      },
      e,
    )

-- ---- what appending to the drives' zones y relies on: the look's values, read below its pointers; what is appended goes by `to`, past them
pub record Appending (g to : Geometry) (here : List Bool) (k : Look) (y : ℕ) (ps xs ws : List ℕ) : Type 0 where
  pub shape : SameShape g to
  pub sectors_long : length xs ≡ total_bytes g
  pub written_long : length ws ≡ cells g
  pub within : LookWithin g k
  pub behind : Behind to (λ x. eqb x y) ps ws
  pub known_below : (z : ℕ) → z < g.zones → KnownBelow g here xs ps z (zone_look k z).generation (limit_at g here k xs ps z) (zone_look k z).pointer

-- in zones that are not reset, while no log is emptied
pub filling_appends : (g : Geometry) (here : List Bool) (k : Look) (y : ℕ) (ps xs ws : List ℕ) → stays k y ≡ true → Filling g here k ps xs ws → Appending g g here k y ps xs ws
filling_appends g here k y ps xs ws h f = record {
  shape = shape_refl g;
  sectors_long = f.logging.sectors_long;
  written_long = f.logging.written_long;
  within = f.logging.within;
  behind = record { least = λ d x hd hx e. f.logging.behind.least d x hd hx (rw (eqb-true x y e) h) };
  known_below = f.known_below;
}

-- such appends leave it so, and the look's device as it was
pub appending_kept : (g to : Geometry) (here : List Bool) (k : Look) (y budget rest : ℕ) (ss : List Store) (ps xs ws xs' ws' : List ℕ) → Appending g to here k y ps xs ws → StoresIn g (λ x. eqb x y) ss → MadeAppends to budget rest ss xs ws xs' ws'
    → Appending g to here k y ps xs' ws' × (read_device g xs' ps ≡ read_device g xs ps)
appending_kept g to here k y budget rest ss ps xs ws xs' ws' a p m =
    let h = stored_keeps g to (λ x. eqb x y) budget rest ss ps xs ws xs' ws' a.shape p a.sectors_long a.written_long a.behind m in (
      record {
        shape = a.shape;
        sectors_long = h.sectors_long;
        written_long = h.written_long;
        within = a.within;
        behind = h.behind;
        known_below = λ z l. below_kept g here k ps xs xs' z h.sectors_long h.device (a.known_below z l);
      },
      h.device,
    )

-- ---- a zone that the look has found known below its pointer, and an end at or below that
abbrev pub known_extent : Geometry → Geometry → List Bool → Look → List ℕ → List ℕ → ℕ → ℕ → Extent
known_extent g to here k xs ps z end = record { geometry = g; to = to; here = here; zone = z; generation = (zone_look k z).generation; limit = limit_at g here k xs ps z; below = end; end = end }

pub zone_ready : (g to : Geometry) (here : List Bool) (k : Look) (y : ℕ) (ps xs ws : List ℕ) → Appending g to here k y ps xs ws → (z end d : ℕ) → z < g.zones → end ≤ (zone_look k z).pointer → d < g.drives → y < physical_zones g
    → ZoneReady (known_extent g to here k xs ps z end) (record { drive = d; zone = y; present = true }) xs ws ps
zone_ready g to here k y ps xs ws f z end d hz he hd hy =
    let b = known_lower g here xs ps z (zone_look k z).generation (limit_at g here k xs ps z) (zone_look k z).pointer end he (f.known_below z hz) in
    record {
      no_buffer = le_refl end;
      known_below = b;
      rows = λ s. record {
        shape = f.shape;
        drive_in = hd;
        zone_in_lem = hy;
        sectors_long = f.sectors_long;
        written_long = f.written_long;
        behind = f.behind;
        stripe_known = λ p. record {
          member = λ a h. record { readable = b.readable; end_most = b.end_most; known_is = λ l m. b.all_known a l; limit_is = λ l m q. b.limit_is; in_buffer = λ l m. absurd (omega (arith, l, m)) };
        };
      };
    }
