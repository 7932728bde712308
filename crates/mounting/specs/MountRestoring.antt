-- The values that a mount restores stay through its steps: a step whose stores leave alone what the look found leaves every sector below the
-- look's pointers known, with the same value.
use Rattle.std.specs.Prelude.{◌≡◌, refl, Bool, ℕ, ◌<◌, List, [], length}
use Rattle.tables.specs.declared.Geometry.{Geometry}
use Rattle.tables.specs.meaning.Geometry.{total_bytes}
use Rattle.tables.specs.meaning.Device.{Store}
use Rattle.tables.specs.meaning.Tables.{Tables, tables_of}
use Rattle.tables.specs.laws.Made.{Made, MadeAppends}
use Rattle.volume.specs.declared.Look.{Look}
use Rattle.volume.specs.rows.KeptBelow.{StoresIn, made_keeps, kept_device}
use Rattle.mounting.specs.MountLook.{stays}
use Rattle.mounting.specs.MountHeaders.{Logging}
use Rattle.mounting.specs.MountRows.{KnownBelow, known_kept}
use Rattle.mounting.specs.MountValues.{limit_at, Restoring}
use Rattle.volume.specs.looking.Knowing.{read_device}
use Rattle.volume.specs.checks.Records.{zone_look}

-- what is known stays known where the device of the look is the same
pub below_kept : (g : Geometry) (here : List Bool) (k : Look) (ps xs ys : List ℕ) (z : ℕ) → length ys ≡ total_bytes g → read_device g ys ps ≡ read_device g xs ps
    → KnownBelow g here xs ps z (zone_look k z).generation (limit_at g here k xs ps z) (zone_look k z).pointer → KnownBelow g here ys ps z (zone_look k z).generation (limit_at g here k ys ps z) (zone_look k z).pointer
below_kept g here k ps xs ys z l e b =
    let q = known_kept g here xs ys ps z (zone_look k z).generation (limit_at g here k xs ps z) (zone_look k z).pointer l e b in
    record { readable = q.readable; limit_is = refl; end_most = q.end_most; all_known = q.all_known }

-- WHAT STORES LEAVE: such as leave alone what the look found leave it so, and the device of the look as it was
pub restoring_kept : (g : Geometry) (here : List Bool) (k : Look) (ps : List ℕ) (budget rest : ℕ) (ss : List Store) (t u : Tables) → Restoring g here k ps t → StoresIn g (stays k) ss
    → Made g budget rest ss t u → Restoring g here k ps u × (read_device g u.sectors ps ≡ read_device g t.sectors ps)
restoring_kept g here k ps budget rest ss t u r p m =
    let l = r.logging in
    let h = made_keeps g (stays k) budget rest ss ps t u p (record { sectors_long = l.sectors_long; written_long = l.written_long; durable_long = r.durable_long }) l.behind m in
    let e = kept_device g ps t.sectors u.sectors [] h.bytes in (
      record {
        logging = record { sectors_long = h.sized.sectors_long; written_long = h.sized.written_long; pointers_long = l.pointers_long; within = l.within; behind = h.behind };
        durable_long = h.sized.durable_long;
        known_below = λ z q. below_kept g here k ps t.sectors u.sectors z h.sized.sectors_long e (r.known_below z q);
      },
      e,
    )

-- ---- what steps 6 to 8 rely on while they append: the same without the durable pointers
pub record Filling (g : Geometry) (here : List Bool) (k : Look) (ps xs ws : List ℕ) : Type 0 where
  pub logging : Logging g k ps xs ws
  pub known_below : (z : ℕ) → z < g.zones → KnownBelow g here xs ps z (zone_look k z).generation (limit_at g here k xs ps z) (zone_look k z).pointer

pub filling : (g : Geometry) (here : List Bool) (k : Look) (ps : List ℕ) (t : Tables) → Restoring g here k ps t → Filling g here k ps t.sectors t.written
filling g here k ps t r = record { logging = r.logging; known_below = r.known_below }

-- and they can go on relying on it
abbrev pub StillFilling : Geometry → List Bool → Look → List ℕ → List ℕ → List ℕ → List ℕ → Type 0
StillFilling g here k ps xs xs' ws' = Filling g here k ps xs' ws' × (read_device g xs' ps ≡ read_device g xs ps)

pub filled : (g : Geometry) (here : List Bool) (k : Look) (budget rest : ℕ) (ss : List Store) (ps xs ws xs' ws' : List ℕ) → Filling g here k ps xs ws → StoresIn g (stays k) ss → MadeAppends g budget rest ss xs ws xs' ws'
    → StillFilling g here k ps xs xs' ws'
filled g here k budget rest ss ps xs ws xs' ws' f p m =
    let (r, e) = restoring_kept g here k ps budget rest ss (tables_of xs ws ws) (tables_of xs' ws' ws) (record { logging = f.logging; durable_long = f.logging.written_long; known_below = f.known_below }) p (m.made ws) in
    (filling g here k ps (tables_of xs' ws' ws) r, e)
