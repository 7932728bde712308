-- A write that has passed the refusals before 14, where the logs lie: what its own stores rely on, and that they are the rules'.
use Rattle.std.specs.Prelude.{◌≡◌, refl, Bool, false, length, ltb}
use Rattle.std.proofs.Common.{sym, ◌∙◌}
use Rattle.std.proofs.Math.Path.{ap, ap₂, subst}
use Prim.Native.Nat.{ℕ, ◌-◌, ◌*◌}
use mathlib.Core.List.{List, map}
use Rattle.tables.specs.declared.Geometry.{Geometry}
use Rattle.tables.specs.meaning.Basics.{pick}
use Rattle.tables.specs.meaning.Geometry.{Valid}
use Rattle.tables.specs.meaning.Device.{Device, Store}
use Rattle.tables.specs.meaning.Phases.{on_present}
use Rattle.tables.specs.meaning.Through.{carry}
use Rattle.tables.specs.meaning.Tables.{Tables, tables_of, cell}
use Rattle.tables.specs.laws.Made.{Made}
use Rattle.volume.specs.declared.State.{State}
use Rattle.volume.specs.declared.writing.Run.{Run}
use Rattle.volume.specs.declared.roles.LogPlaces.{LogPlaces}
use Rattle.volume.specs.meaning.Content.{at}
use Rattle.volume.specs.meaning.Roles.{Roles, roles, placed_by}
use Rattle.volume.specs.meaning.Refusals.{gone_before}
use Rattle.volume.specs.meaning.Calls.{write_with, zone_content, write_stores}
use Rattle.volume.specs.meaning.Answers.{sectors_in}
use Rattle.volume.specs.meaning.Emptying.{write_all}
use Rattle.volume.specs.meaning.CallContracts.{record_at, view_state, is_set, seen_in, pointer_of}
use Rattle.volume.specs.laws.LogPlaces.{logs_of, roles_proper, OnDrives}
use Rattle.volume.specs.laws.CallsUnread.{write_with_alike}
use Rattle.volume.specs.looking.Knowing.{Readable, read_device}
use Rattle.volume.specs.looking.SeenByRoles.{seen_zone, seen_readable}
use Rattle.volume.specs.checks.LogRoom.{SeenByRoles, placed_is, pointers_long, seen_roles}
use Rattle.volume.specs.rows.SameShape.{shape_refl}
use Rattle.volume.specs.emptying.Carried.{made_by_roles}
use Rattle.volume.specs.emptying.RoomMoves.{hidden_least}
use Rattle.volume.specs.writing.OwnStores.{write_on_drives, sectors_count}
use Rattle.volume.specs.writing.WriteStores.{run_content, WriteReady, StoresPast}
use Rattle.volume.specs.writing.WriteSeen.{seen_as_lem, value_is, gone_before_is}
use Rattle.volume.specs.writing.WriteRun.{at_places, run_stores_of, RunReady, run_gone, all_stores}

module _ (run : Run) (p : LogPlaces) (s : State) (xs ws ps buffer : List ℕ) (k : SeenByRoles run.zone.geometry p xs ws ps) (h : RunReady run s ws buffer) where
  abbrev g : Geometry
  g = run.zone.geometry

  abbrev z : ℕ
  z = run.zone.number

  abbrev present : ℕ → Bool
  present = is_set run.zone.here

  -- ---- what is read where the logs lie
  pub seen_now : Readable p.geometry run.zone.here xs ps z
  seen_now = seen_readable g xs ws p ps (seen_as_lem g p xs ws ps k) run.zone.here z (record { zone_in_lem = h.placed.zone_in_lem; sectors_long = k.sized.sectors_long; written_long = k.sized.written_long; pointers = h.placed.in_zones })

  abbrev gone : Bool
  gone = gone_before p.geometry (is_set run.zone.here) (read_device p.geometry xs ps) run.zone.number run.zone.generation run.pointer

  pub gone_is : (ds : List ℕ) → gone ≡ run_gone run (tables_of xs ws ds)
  gone_is ds = gone_before_is g p xs ws ps k ds present z run.zone.generation run.pointer

  pub run_write : gone ≡ false → WriteReady p.geometry run.zone.here xs ps z run.zone.generation run.pointer run.count buffer
  run_write none = record {
    readable = seen_now;
    inside = rw (seen_zone g xs ws p ps (seen_as_lem g p xs ws ps k)) h.placed.inside;
    buffer_long = h.placed.buffer_long ∙ ap (λ (e : Geometry). run.count * e.sector) (sym (placed_is g p xs ws ps k));
    earlier_known = none;
  }

  pub run_past : StoresPast p.geometry p.geometry ps ws
  run_past = record {
    shape = shape_refl p.geometry;
    written_long = k.sized.written_long ∙ sym (pointers_long g p xs ws ps k) ∙ seen_now.written_long;
    behind = record { least = λ d y hd hy hb. rw k.hidden (hidden_least p ws p.geometry.drives (cell p.geometry d y)) };
  }

  -- ---- what is made
  module _ (ok : Valid run.zone.geometry) (ds : List ℕ) where
    abbrev t : Tables
    t = tables_of xs ws ds

    abbrev w : Device
    w = seen_in run.zone.geometry (tables_of xs ws ds)

    abbrev ss : List (List ℕ)
    ss = sectors_in run.zone.geometry run.count buffer

    content_is : (n q : ℕ) → run_content p.geometry present (read_device p.geometry xs ps) z n q (sectors_in p.geometry run.count buffer) ≡ run_content g present w z n q ss
    unfolding run_content
    content_is n q =
        ap₂ (λ (f : ℕ → List ℕ) (e : Geometry). λ (a : ℕ). pick (ltb a q) (f a) (at (sectors_in e run.count buffer) (a - q))) (value_is g p xs ws ps k ds present z n) (placed_is g p xs ws ps k)
        ∙ (unfold sectors_in in refl)

    own_stores_lem : run_stores_of (at_places run p) xs ps buffer ≡ write_stores g present w (view_state s) z ss
    unfolding run_stores_of write_stores zone_content run_content
    own_stores_lem =
        let n = run.zone.generation in
        let q = run.pointer in
        let bits = logs_of (roles g (read_device g xs ws)) g.drives in
        let S = run_content p.geometry present (read_device p.geometry xs ps) z n q (sectors_in p.geometry run.count buffer) in
        let stores : ℕ → ℕ → ℕ → List Store = λ m i c. on_present present (write_with g z m (run_content g present w z m i ss) i c) in
        ap (λ (e : Geometry). on_present present (write_with e z n S q run.count)) (placed_is g p xs ws ps k)
        ∙ ap (on_present present) (write_with_alike g bits z n S q run.count ∙ ap (λ (f : ℕ → List ℕ). write_with g z n f q run.count) (content_is n q))
        ∙ ap₂ (λ (m i : ℕ). stores m i run.count) h.generation_is h.pointer_is
        ∙ ap (stores (record_at s z).generation (pointer_of s z)) (sym (sectors_count g run.count buffer))

    own_on : OnDrives g (write_stores g present w (view_state s) z ss)
    unfolding write_stores
    own_on = write_on_drives g ok z (zone_content g present w (view_state s) z ss) present (record_at s z).generation (pointer_of s z) (length ss)

    -- WHAT IS MADE is what the rules say
    pub made_seen : (budget left : ℕ) (u : Tables) → Made p.geometry budget left (run_stores_of (at_places run p) xs ps buffer) t u → Made g budget left (all_stores run s buffer t) t u
    unfolding write_all
    made_seen budget left u m =
        let r = roles g (read_device g xs ws) in
        let stores = write_stores g present w (view_state s) z ss in
        let m₁ = subst (λ (l : List Store). Made p.geometry budget left l t u) own_stores_lem m in
        let m₂ = subst (λ (e : Geometry). Made e budget left stores t u) (placed_is g p xs ws ps k) m₁ in
        subst (λ (f : ℕ → Roles). Made g budget left (map (carry (placed_by f)) stores) t u) (seen_roles g p xs ws ps k ds) (made_by_roles g k.logs_first r (roles_proper g (read_device g xs ws)) budget left stores t u own_on m₂)
