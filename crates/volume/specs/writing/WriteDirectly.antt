-- A write that needs no log but that of its entry (src/write_directly.rt). Where the earlier sectors of its first stripe are held, and there is no entry or its
-- host's share and its log have the room that it asks for, refusals 14 and 15 do not apply, and the stores of the rules are those by a geometry that places
-- that one log.
use Rattle.std.specs.Prelude.{◌≡◌, ◌≢◌, ◌&&◌, ◌||◌, eqb, Option, Some, None, is_some, Result, Ok, Err}
use Rattle.std.proofs.Math.Path.{refl, sym, ap, ap₂, subst}
use Rattle.std.proofs.Common.{◌∙◌, true≢false, arith, ltb-true, ne_eqb}
use Rattle.std.proofs.Math.Bool.{Bool, true, false, not}
use Prim.Native.Nat.{ℕ, suc, ◌+◌, ◌-◌, ◌*◌, ◌^◌, ◌≤◌, ◌<◌}
use mathlib.Core.List.{List, map}
use Rattle.std.proofs.Math.ListN.{length}
use Rattle.std.proofs.Math.Dec.{ltb}
use Rattle.std.proofs.lemmas.Bool.{eqb-false}
use Rattle.tables.specs.declared.Geometry.{Geometry}
use Rattle.tables.specs.meaning.Basics.{pick}
use Rattle.tables.specs.laws.Basics.{and_join, or_left}
use Rattle.tables.specs.laws.Below.{none_any_below, all_below_all}
use Rattle.tables.specs.meaning.Geometry.{Valid, stripe_sectors, data_zone}
use Rattle.tables.specs.meaning.Device.{Device, ZoneView, Store}
use Rattle.tables.specs.meaning.Phases.{on_present}
use Rattle.tables.specs.meaning.Placement.{stripe_of}
use Rattle.tables.specs.laws.Placement.{parity_drive_below}
use Rattle.tables.specs.meaning.Tables.{Tables, tables_of, device_of, first_cell, cell}
use Rattle.tables.specs.laws.Tables.{device_length}
use Rattle.tables.specs.laws.ZonePlaces.{place_of_other}
use Rattle.tables.specs.meaning.Through.{carry}
use Rattle.tables.specs.laws.Made.{Made, MadeAppends}
use Rattle.logs.specs.meaning.Entry.{parity_zone}
use Rattle.volume.specs.declared.State.{State}
use Rattle.volume.specs.declared.writing.Run.{Run}
use Rattle.volume.specs.declared.write_directly.WriteMade.{WriteMade}
use Rattle.volume.specs.declared.Refusal.{Refusal}
use Rattle.volume.specs.meaning.RefusalNumbers.{refusal_number}
use Rattle.volume.specs.declared.roles.Counting.{Counting}
use Rattle.volume.specs.declared.write_room.EntryTaken.{EntryTaken}
use Rattle.volume.specs.declared.Condition.{Condition}
use Rattle.volume.specs.meaning.Content.{at, inside_stripe, fill_of, parity_drive_at}
use Rattle.volume.specs.meaning.Rules.{known, zone_view, value_at}
use Rattle.volume.specs.meaning.Roles.{Roles, strongest, other_than, roles_in, zone_of_role, placed_by, drive_by_roles}
use Rattle.volume.specs.meaning.Refusals.{write_full, gone_in, gone_before}
use Rattle.volume.specs.meaning.Calls.{write_with, zone_content, write_stores}
use Rattle.volume.specs.meaning.Answers.{sectors_in}
use Rattle.volume.specs.meaning.Emptying.{entry_size, reserve, unused_in, write_limit, write_all}
use Rattle.volume.specs.meaning.CallContracts.{record_at, view_state, is_set, roles_of, seen_in, pointer_of}
use Rattle.volume.specs.laws.CallContracts.{storing_ends}
use Rattle.volume.specs.laws.LogPlaces.{with_logs, with_parity, strongest_lt, role_of_other, zone_at_first, parity_placed_lem, CellsAt}
use Rattle.volume.specs.laws.LogClaims.{strengths, parity_zone_lem}
use Rattle.volume.specs.looking.DriveLogs.{Sized, zone_pointer}
use Rattle.volume.specs.looking.HiddenLogs.{roles_durable}
use Rattle.volume.specs.looking.LogZones.{zones_read, counting_of}
use Rattle.volume.specs.looking.Knowing.{Readable, read_device, own_held, row_complete}
use Rattle.volume.specs.looking.SeenByRoles.{data_seen}
use Rattle.volume.specs.reading.ReadingHeld.{directly, direct_same}
use Rattle.volume.specs.rows.SameShape.{SameShape, shape_with}
use Rattle.volume.specs.checks.LogRoom.{either}
use Rattle.volume.specs.emptying.Carried.{made_at_lem}
use Rattle.volume.specs.writing.OwnStores.{write_with_same, cells_write, sectors_count}
use Rattle.volume.specs.writing.WriteChecks.{zone_number}
use Rattle.volume.specs.writing.WriteStores.{run_content, earlier_held, WriteReady, StoresPast}
use Rattle.volume.specs.writing.WriteRoom.{entry_taken_of, by_entry_lem, entry_takes}
use Rattle.volume.specs.writing.WriteRun.{end_of, run_stores_of, RunReady, RunPlaced, handed_on, ended_with, Gives, run_full, run_gone, last_number, all_stores, write_zone_on}

-- ---- what the code finds
-- the geometry that places drive d's parity log, if that has so much room
unfoldable pub entry_log : Geometry → List ℕ → List ℕ → ℕ → ℕ → Option Geometry
entry_log g xs ws d limit =
    let c = counting_of (strengths g d (zones_read g xs ws d) true) in
    pick (c.lacks || ltb (g.capacity - zone_pointer g ws d c.zone) limit) None (Some (with_parity g d c.zone))

-- of an entry of so many sectors on drive d, by what is left of the host's share
abbrev share_place : Geometry → ℕ → List ℕ → List ℕ → ℕ → ℕ → Option Geometry
share_place g share xs ws d size = pick (ltb share size) None (entry_log g xs ws d (size + reserve g))

-- there may be no entry
abbrev pub entry_place : Geometry → ℕ → List ℕ → List ℕ → EntryTaken → Option Geometry
entry_place g share xs ws e = pick (eqb e.sectors 0) (Some g) (share_place g share xs ws e.drive e.sectors)

-- of a write from its zone's pointer on
unfoldable pub direct_place : Run → List ℕ → List ℕ → Option Geometry
direct_place run xs ws =
    pick (earlier_held run.zone.geometry run.zone.here ws run.zone.number run.pointer) (entry_place run.zone.geometry run.allowance.share xs ws (entry_taken_of run.zone (end_of run))) None

-- what is found is found in the case that gives it
some_first : {A : Type 0} (b : Bool) (o : Option A) (x : A) → pick b o None ≡ Some x → (b ≡ true) × (o ≡ Some x)
some_first true o x e = (refl, e)
some_first false o x e = absurd (true≢false (sym (ap is_some e)))

some_second : {A : Type 0} (b : Bool) (o : Option A) (x : A) → pick b None o ≡ Some x → (b ≡ false) × (o ≡ Some x)
some_second true o x e = absurd (true≢false (sym (ap is_some e)))
some_second false o x e = (refl, e)

some_same : {A : Type 0} (x y : A) → Some x ≡ Some y → x ≡ y
some_same {A = A} x y e = ap value e
  where
    value : Option A → A
    value None = x
    value (Some z) = z

and_false : (b : Bool) → b && false ≡ false
and_false true = refl
and_false false = refl

-- a write that was made
pub record MadeOn (run : Run) (c : Condition) (count : ℕ) (buffer xs ws xs' ws' : List ℕ) (m : WriteMade) : Type 0 where
  pub passed : zone_number run c ws ≡ 0
  pub place : Geometry
  pub alone : direct_place run xs ws ≡ Some place
  pub entry_is : (m.entry ≡ entry_taken_of run.zone (end_of run)) × (m.entry.drive < run.zone.geometry.drives) × (m.entry.sectors ≤ 17)
  pub stores : MadeAppends place (suc count) m.rest (run_stores_of run xs ws buffer) xs ws xs' ws'

-- what trying a write came to: refused, or made, or neither; and then nothing has changed
abbrev pub TriedOn : Run → Condition → ℕ → List ℕ → List ℕ → List ℕ → List ℕ → List ℕ → Result (Option WriteMade) Refusal → Type 0
TriedOn run c count buffer xs ws xs' ws' (Err r) = (refusal_number r ≡ zone_number run c ws) × (xs' ≡ xs) × (ws' ≡ ws)
TriedOn run c count buffer xs ws xs' ws' (Ok None) = (zone_number run c ws ≡ 0) × (xs' ≡ xs) × (ws' ≡ ws)
TriedOn run c count buffer xs ws xs' ws' (Ok (Some m)) = MadeOn run c count buffer xs ws xs' ws' m

module _ (run : Run) (xs ws buffer : List ℕ) (ok : Valid run.zone.geometry) (logs_first : run.zone.geometry.logs ≡ 0) (sized : Sized run.zone.geometry xs ws) (p : RunPlaced run ws buffer) (to : Geometry) (alone : direct_place run xs ws ≡ Some to) where
  abbrev g : Geometry
  g = run.zone.geometry

  abbrev z : ℕ
  z = run.zone.number

  abbrev n : ℕ
  n = run.pointer

  abbrev end : ℕ
  end = end_of run

  abbrev share : ℕ
  share = run.allowance.share

  abbrev entry : EntryTaken
  entry = entry_taken_of run.zone (end_of run)

  abbrev present : ℕ → Bool
  present = is_set run.zone.here

  -- the drive that gets the entry, and its counting parity log
  abbrev own : ℕ
  own = parity_drive_at run.zone.geometry run.zone.number (end_of run)

  abbrev as_parity : ℕ → ℕ
  as_parity = strengths run.zone.geometry own (zones_read run.zone.geometry xs ws own) true

  abbrev q : ℕ
  q = strongest as_parity

  abbrev place : Option Geometry
  place = direct_place run xs ws

  own_below : own < g.drives
  own_below = parity_drive_below g.drives g.unit z (omega (arith, ok.drives_least)) ok.unit_least (stripe_of g.drives g.unit end)

  -- ---- the sectors that it reads are held
  held : earlier_held g run.zone.here ws z n ≡ true
  unfolding direct_place
  held = (some_first (earlier_held g run.zone.here ws z n) (entry_place g share xs ws entry) to alone).0

  abbrev start : ℕ
  start = stripe_of run.zone.geometry.drives run.zone.geometry.unit run.pointer * stripe_sectors run.zone.geometry

  is_direct : (a : ℕ) → start ≤ a → a < n → directly g run.zone.here ws z a ≡ true
  is_direct a l k =
      let e : start + (a - start) ≡ a = omega arith in
      let i : a - start < fill_of g n = omega arith in
      or_left (own_held g run.zone.here ws z a) (row_complete g run.zone.here ws z a)
      (subst (λ (x : ℕ). own_held g run.zone.here ws z x ≡ true) e (all_below_all (λ i. own_held g run.zone.here ws z (start + i)) (fill_of g n) (a - start) held i))

  readable : Readable g run.zone.here xs ws z
  readable = record { zone_in_lem = p.zone_in_lem; sectors_long = sized.sectors_long; written_long = sized.written_long; pointers = p.in_zones }

  -- refusal 15, by every device with these data zones
  none_before : (v : Device) → ((d : ℕ) → (v d (data_zone z)).sectors ≡ (read_device g xs ws d (data_zone z)).sectors) → gone_before g present v z run.zone.generation n ≡ false
  unfolding gone_before gone_in
  none_before v same =
      let m = run.zone.generation in
      ap (λ (b : Bool). present (parity_drive_at g z n) && b) (none_any_below (λ i. not (known g.drives g.unit z (zone_view g present v z m) (start + i))) (fill_of g n)
      (λ i l. ap not (direct_same g ok run.zone.here xs ws z readable v same m (start + i) (is_direct (start + i) (omega arith) (omega arith))).0))
      ∙ and_false (present (parity_drive_at g z n))

  pub directly_ready : WriteReady g run.zone.here xs ws z run.zone.generation n run.count buffer
  directly_ready = record { readable = readable; inside = p.inside; buffer_long = p.buffer_long; earlier_known = none_before (read_device g xs ws) (λ d. refl) }

  -- ---- so the place is its entry's
  placed : place ≡ entry_place g share xs ws entry
  unfolding direct_place
  placed = ap (λ (b : Bool). pick b (entry_place g share xs ws entry) None) held

  -- by a geometry that differs from its own in where logs lie
  place_is : to ≡ with_logs g to.logs
  unfolding entry_log
  place_is = go (eqb entry.sectors 0) (ltb share entry.sectors) (sym placed ∙ alone)
    where
      shaped : (h : Geometry) → h ≡ with_logs g h.logs → Some h ≡ Some to → to ≡ with_logs g to.logs
      shaped h e k = subst (λ (x : Geometry). x ≡ with_logs g x.logs) (some_same h to k) e

      own_log : Counting
      own_log = counting_of (strengths g entry.drive (zones_read g xs ws entry.drive) true)

      go : (c d : Bool) → pick c (Some g) (pick d None (entry_log g xs ws entry.drive (entry.sectors + reserve g))) ≡ Some to → to ≡ with_logs g to.logs
      go true d e = shaped g refl e
      go false true e = absurd (true≢false (sym (ap is_some e)))
      go false false e = shaped (with_parity g entry.drive own_log.zone) refl (some_second (own_log.lacks || ltb (g.capacity - zone_pointer g ws entry.drive own_log.zone) (entry.sectors + reserve g)) (Some (with_parity g entry.drive own_log.zone)) to e).1

  pub directly_past : StoresPast g to ws ws
  directly_past = record { shape = subst (SameShape g) (sym place_is) (shape_with g to.logs); written_long = sized.written_long; behind = record { least = λ d y hd hy hb. omega arith } }

  -- ---- by a state that says so of the zone
  module _ (s : State) (ds : List ℕ) (h : RunReady run s ws buffer) where
    abbrev t : Tables
    t = tables_of xs ws ds

    abbrev r : ℕ → Roles
    r = roles_of run.zone.geometry (tables_of xs ws ds)

    abbrev w : Device
    w = seen_in run.zone.geometry (tables_of xs ws ds)

    -- ---- the host's share and the entry's log have room
    module _ (inside : inside_stripe g end ≡ true) (here : present own ≡ true) where
      shared : place ≡ share_place g share xs ws own (entry_size g end)
      shared =
          let some = and_join (inside_stripe g end) (present own) inside here in
          placed ∙ by_entry_lem run.zone end (Some g) (share_place g share xs ws own entry.sectors) ∙ ap (λ (b : Bool). pick b (share_place g share xs ws own entry.sectors) (Some g)) some
          ∙ ap (share_place g share xs ws own) (entry_takes run.zone end some)

      -- (the share, and then the log)
      shares : (ltb share (entry_size g end) ≡ false) × (entry_log g xs ws own (write_limit g end) ≡ Some to)
      shares = some_second (ltb share (entry_size g end)) (entry_log g xs ws own (write_limit g end)) to (sym shared ∙ alone)

      has_share : ltb share (entry_size g end) ≡ false
      has_share = shares.0

      found : ((eqb (as_parity q) 0 || ltb (g.capacity - zone_pointer g ws own q) (write_limit g end)) ≡ false) × (Some (with_parity g own q) ≡ Some to)
      unfolding entry_log
      found = some_second (eqb (as_parity q) 0 || ltb (g.capacity - zone_pointer g ws own q) (write_limit g end)) (Some (with_parity g own q)) to shares.1

      tested : (eqb (as_parity q) 0 ≡ false) × (ltb (g.capacity - zone_pointer g ws own q) (write_limit g end) ≡ false)
      tested = either (eqb (as_parity q) 0) (ltb (g.capacity - zone_pointer g ws own q) (write_limit g end)) found.0

      has_kind : as_parity q ≢ 0
      has_kind = eqb-false (as_parity q) 0 tested.0

      claim_is : (r own).parity_claim ≡ as_parity q
      unfolding roles_in
      claim_is = ap (λ (f : ℕ → Roles). (f own).parity_claim) (roles_durable g xs ws ds)

      has_claim : (r own).parity_claim ≢ 0
      has_claim e = has_kind (sym claim_is ∙ e)

      parity_is : (r own).parity ≡ q
      parity_is = ap (λ (f : ℕ → Roles). (f own).parity) (roles_durable g xs ws ds) ∙ parity_zone_lem g own (zones_read g xs ws own) has_kind

      seen_log : w own parity_zone ≡ device_of g t own (r own).parity
      unfolding drive_by_roles
      seen_log = rw (ne_eqb (r own).parity_claim 0 has_claim) refl

      q_below : q < 3
      q_below = strongest_lt as_parity

      log_length : length (w own parity_zone).sectors ≡ zone_pointer g ws own q
      log_length = ap (λ (v : ZoneView). length v.sectors) seen_log ∙ ap (λ (y : ℕ). length (device_of g t own y).sectors) parity_is ∙ device_length g t own q own_below (omega (arith, q_below))

      unused_is : unused_in g true r w own ≡ g.capacity - zone_pointer g ws own q
      unfolding unused_in
      unused_is = ap (λ (b : Bool). pick b 0 (g.capacity - length (w own parity_zone).sectors)) (ne_eqb (r own).parity_claim 0 has_claim) ∙ ap (λ (m : ℕ). g.capacity - m) log_length

      has_room_lem : ltb (unused_in g true r w own) (write_limit g end) ≡ false
      has_room_lem = ap (λ (m : ℕ). ltb m (write_limit g end)) unused_is ∙ tested.1

      logs_are : to.logs ≡ (other_than q + 4 * q) * 2 ^ (4 * own)
      logs_are = ap (λ (h : Geometry). h.logs) (sym (some_same (with_parity g own q) to found.1))

      log_at : cell (with_logs g to.logs) own parity_zone ≡ cell g own (zone_of_role (r own) parity_zone)
      log_at =
          ap (λ (m : ℕ). cell (with_logs g m) own parity_zone) logs_are
          ∙ ap (λ (p : ℕ). first_cell g own + p) (parity_placed_lem g own q q_below ∙ sym parity_is ∙ sym (zone_at_first g logs_first own (r own).parity))

    -- ---- so 14 and 15 do not apply
    full_none : run_full run t ≡ false
    unfolding write_full
    full_none = go (inside_stripe g end) refl (present own) refl
      where
        room : Bool
        room = ltb share (entry_size g end) || ltb (unused_in g true r w own) (write_limit g end)

        go : (a : Bool) → inside_stripe g end ≡ a → (b : Bool) → present own ≡ b → (a && b) && room ≡ false
        go true i true p = ap₂ (λ (x y : Bool). x || y) (has_share i p) (has_room_lem i p)
        go true i false p = refl
        go false i b p = refl

    gone_none : run_gone run t ≡ false
    gone_none = none_before w (λ d. data_seen g xs ws ds d z)

    -- ---- the stores
    abbrev ss : List (List ℕ)
    ss = sectors_in run.zone.geometry run.count buffer

    content_same : (a : ℕ) → start ≤ a → run_content g present w z run.zone.generation n ss a ≡ run_content g present (read_device g xs ws) z run.zone.generation n ss a
    unfolding run_content
    content_same a l = go (ltb a n) refl
      where
        go : (b : Bool) → ltb a n ≡ b → pick b (value_at g present w z run.zone.generation a) (at ss (a - n)) ≡ pick b (value_at g present (read_device g xs ws) z run.zone.generation a) (at ss (a - n))
        go true e = sym (direct_same g ok run.zone.here xs ws z readable w (λ d. data_seen g xs ws ds d z) run.zone.generation a (is_direct a l (ltb-true a n e))).1
        go false e = refl

    own_stores_lem : write_stores g present w (view_state s) z ss ≡ run_stores_of run xs ws buffer
    unfolding write_stores run_stores_of zone_content run_content
    own_stores_lem =
        let stores : ℕ → ℕ → ℕ → List Store = λ m p k. on_present present (write_with g z m (run_content g present w z m p ss) p k) in
        ap (stores (record_at s z).generation (pointer_of s z)) (sectors_count g run.count buffer)
        ∙ ap₂ (λ (m p : ℕ). stores m p run.count) (sym h.generation_is) (sym h.pointer_is)
        ∙ ap (on_present present) (write_with_same g ok z n (run_content g present w z run.zone.generation n ss) (run_content g present (read_device g xs ws) z run.zone.generation n ss) content_same run.zone.generation run.count)

    all_stores_lem : all_stores run s buffer t ≡ map (carry (placed_by r)) (run_stores_of run xs ws buffer)
    unfolding write_all
    all_stores_lem = ap (map (carry (placed_by r))) own_stores_lem

    -- ---- made by the geometry that places the entry's log, they are the rules'
    data_at : (d : ℕ) → cell (with_logs g to.logs) d (data_zone z) ≡ cell g d (zone_of_role (r d) (data_zone z))
    data_at d =
        let m = to.logs in
        ap (λ (p : ℕ). first_cell g d + p) (place_of_other (with_logs g m) d (data_zone z) (omega arith) ∙ sym (place_of_other g d (data_zone z) (omega arith))) ∙ sym (ap (cell g d) (role_of_other (r d) (data_zone z) (omega arith)))

    cells_are : CellsAt g to.logs r (run_stores_of run xs ws buffer)
    unfolding run_stores_of
    cells_are = cells_write g to.logs r z (run_content g present (read_device g xs ws) z run.zone.generation n ss) present data_at run.zone.generation n run.count log_at

    pub directly_ends : (count rest : ℕ) (xs' ws' : List ℕ) → MadeAppends to (suc count) rest (run_stores_of run xs ws buffer) xs ws xs' ws'
        → Gives (write_zone_on run s buffer count (tables_of xs ws ds)) (ended_with run s rest) (tables_of xs' ws' ds)
    unfolding write_zone_on
    directly_ends count rest xs' ws' m =
        let u : Tables = tables_of xs' ws' ds in
        let number : last_number run t ≡ 0 = ap₂ (λ (a b : Bool). pick a 14 (pick b 15 0)) full_none gone_none in
        let by_place = subst (λ (k : Geometry). Made k (suc count) rest (run_stores_of run xs ws buffer) t u) place_is (m.made ds) in
        let made = made_at_lem g to.logs r (suc count) rest (run_stores_of run xs ws buffer) t u cells_are by_place in
        storing_ends g (last_number run t) (all_stores run s buffer t) (handed_on run s) s count t rest u number (subst (λ (l : List Store). Made g (suc count) rest l t u) (sym all_stores_lem) made)
