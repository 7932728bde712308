-- "AN ABSENT DRIVE'S MEMORY IS NEITHER READ NOR CHANGED", on any input: two inputs that agree but for the memory of drives that are not named get the same answer,
-- state and buffer from a call, and leave memory that agrees so; and that of a drive not named is afterwards as it was. (Mount: MountAbsentDrives.)
use Rattle.std.specs.Prelude.{◌≡◌, Bool, ◌&&◌, not, length, ltb}
use Rattle.std.proofs.Math.Path.{refl, ap, ap₂, fun_ext}
use Rattle.std.proofs.Common.{sym, ◌∙◌, arith, eq-eqb, ne_eqb, eqb-true, ltb-true}
use Rattle.std.proofs.Math.Bool.{true, false}
use Prim.Native.Nat.{ℕ, ◌-◌, ◌<◌}
use Rattle.std.proofs.Math.Decide.{ℕ_discrete}
use mathlib.Core.List.{List, [], ◌∷◌, ◌++◌, map}
use Rattle.std.proofs.Math.Dec.{eqb}
use Rattle.tables.specs.declared.Geometry.{Geometry}
use Rattle.tables.specs.meaning.Basics.{pick}
use Rattle.tables.specs.laws.Basics.{and_split}
use Rattle.tables.specs.meaning.Lists.{concat}
use Rattle.tables.specs.meaning.Geometry.{physical_zones, max_zones}
use Rattle.tables.specs.meaning.Device.{ZoneView, Device, Store, store_drive}
use Rattle.tables.specs.meaning.Phases.{on_present, flush_all}
use Rattle.tables.specs.laws.Phases.{each_on_present_lem}
use Rattle.tables.specs.meaning.Tables.{Tables, device_of, pointers_bad}
use Rattle.tables.specs.laws.Made.{WellSized, AllPlaced}
use Rattle.tables.specs.meaning.Through.{carry}
use Rattle.tables.specs.laws.Through.{carry_drive}
use Rattle.tables.specs.laws.StoresFit.{AllOn, on_present_on, on_append, fits_all_placed}
use Rattle.tables.specs.laws.TablesFrame.{SameDrive, same_drive_refl, run_frame}
use Rattle.tables.specs.laws.NamedDrives.{AgreeOn, sector_same, device_agrees, pointers_agree, run_agrees}
use Rattle.volume.specs.declared.State.{State}
use Rattle.volume.specs.meaning.State.{StateView, call_present, with_shares, pointer_in}
use Rattle.volume.specs.meaning.Content.{at}
use Rattle.volume.specs.meaning.Rules.{value_at, zone_view, view_of, general_heads, parity_entries}
use Rattle.volume.specs.meaning.Refusals.{WriteAsked, zone_asked, end_asked, zone_of, offset_of, stale, stale_somewhere, format_rows, flush_rows, reset_rows, write_rows, compact_rows, read_rows, peek_rows}
use Rattle.volume.specs.meaning.Calls.{format_phases, format_stores, flush_stores, reset_phases, reset_stores, write_with, zone_content, write_stores, flush_state, format_state, reset_state}
use Rattle.volume.specs.meaning.Hosts.{half_past, fresh_shares, renewed_shares, share_left, written_state, compact_state}
use Rattle.volume.specs.meaning.Answers.{lost_in, left_out, named_drives, sectors_in, place_of}
use Rattle.volume.specs.meaning.CallContracts.{view_state, is_set, roles_of, seen_in, record_at, pointer_of, verdict_number, Result, storing_on, format_verdict, format_on, flush_verdict, flush_on, reset_verdict, reset_on, write_verdict, write_on, compact_verdict, compact_on, read_number, read_on, values_on, peek_number, peek_on, part_at, state_held}
use Rattle.volume.specs.laws.PassedRows.{format_passed, format_number_accepts, flush_passed, flush_number_accepts, reset_passed, reset_number_accepts, write_passed, write_number_accepts, compact_passed, compact_number_accepts, peek_passed}
use Rattle.volume.specs.laws.CallStoresFit.{zone_short, call_present_below, format_stores_fit, flush_stores_fit, reset_stores_fit, write_stores_fit, compact_stores_fit}
use Rattle.volume.specs.laws.Depends.{SameOn, value_depends}
use Rattle.volume.specs.laws.RefusalsDepend.{stale_depends, stale_somewhere_depends, emptied_depends, reset_full_depends, write_full_depends, compact_full_depends, gone_copies_depends, gone_depends, gone_before_depends, not_held_depends, by_state_depends}
use Rattle.volume.specs.meaning.Roles.{Roles, roles, by_roles, zone_of_role, placed_by, roles_after}
use Rattle.volume.specs.meaning.Emptying.{InForce, by_state, new_general, new_parity, new_parity_size, reset_limit, emptied_for, emptyings, empty_general, empty_parity, compact_stores, write_all, reset_all}
use Rattle.volume.specs.laws.RolesDepend.{roles_depend, by_roles_depend}
use Rattle.volume.specs.laws.EmptyingDepends.{carry_same, placed_depends, empty_general_depends, empty_parity_depends}
use Rattle.volume.specs.laws.EmptyingFits.{emptyings_on}
use Rattle.volume.specs.laws.LogRoom.{emptied_here, data_by_roles}

-- ---- WHAT IS PROVED OF EACH STORING CALL
pub record LeavesAbsent (g : Geometry) (named : List Bool) (call : Tables → Result) : Type 0 where
  pub not_read : (t u : Tables) → AgreeOn g (is_set named) t u → ((call t).outcome ≡ (call u).outcome) × AgreeOn g (is_set named) (call t).tables (call u).tables
  pub not_changed : (t : Tables) (e : ℕ) → is_set named e ≡ false → SameDrive g e t (call t).tables

-- an accepted call's stores: placed, and on named drives
pub record OnNamed (g : Geometry) (named : List Bool) (ss : List Store) (t : Tables) : Type 0 where
  pub sized : WellSized g t
  pub placed : AllPlaced g ss
  pub named_only : AllOn (is_set named) ss

pub on_fewer : (a b : ℕ → Bool) (xs : List Store) → ((d : ℕ) → a d ≡ true → b d ≡ true) → AllOn a xs → AllOn b xs
on_fewer a b [] h p = tt
on_fewer a b (x ∷ xs) h p = (h (store_drive x) p.0, on_fewer a b xs h p.1)

-- ---- a storing call (n: the refusal's number)
module _ (g : Geometry) (named : List Bool) (old : State) (count : ℕ) where
  pub storing_same : (t u : Tables) → AgreeOn g (is_set named) t u → (n m : ℕ) → n ≡ m → (ss rs : List Store) → (n ≡ 0 → ss ≡ rs) → (new next : State) → (n ≡ 0 → new ≡ next) → (n ≡ 0 → OnNamed g named ss t)
      → ((storing_on g n ss new old count t).outcome ≡ (storing_on g m rs next old count u).outcome) × AgreeOn g (is_set named) (storing_on g n ss new old count t).tables (storing_on g m rs next old count u).tables
  storing_same t u same n m e ss rs f new next h o = rw (← e) (go (ℕ_discrete n 0))
    where
      go : Dec (n ≡ 0) → ((storing_on g n ss new old count t).outcome ≡ (storing_on g n rs next old count u).outcome) × AgreeOn g (is_set named) (storing_on g n ss new old count t).tables (storing_on g n rs next old count u).tables
      go (yes z) =
          let q = o z in
          rw (eq-eqb n 0 z, ← f z, ← h z) (refl, run_agrees g (is_set named) count ss t u q.sized q.placed q.named_only same)
      go (no z) = rw (ne_eqb n 0 z) (refl, same)

  pub storing_kept : (t : Tables) (n : ℕ) (ss : List Store) (new : State) → (n ≡ 0 → OnNamed g named ss t) → (e : ℕ) → is_set named e ≡ false → SameDrive g e t (storing_on g n ss new old count t).tables
  storing_kept t n ss new o e absent = go (ℕ_discrete n 0)
    where
      go : Dec (n ≡ 0) → SameDrive g e t (storing_on g n ss new old count t).tables
      go (yes z) = let q = o z in rw (eq-eqb n 0 z) (run_frame g (is_set named) count ss t e q.sized q.placed q.named_only absent)
      go (no z) = rw (ne_eqb n 0 z) (same_drive_refl g e t)

-- a call's present drives are named
pub present_named : (g : Geometry) (named : List Bool) (s : State) (d : ℕ) → call_present g (is_set named) (view_state s) d ≡ true → is_set named d ≡ true
unfolding call_present
present_named g named s d h = (and_split (is_set named d) (not (eqb d s.lost)) (and_split (ltb d g.drives) (is_set named d && not (eqb d s.lost)) h).1).0

-- carried stores are on the drives that they were on
pub carry_on : (a : ℕ → Bool) (ρ : ℕ → ℕ → ℕ) (xs : List Store) → AllOn a xs → AllOn a (map (carry ρ) xs)
carry_on a ρ [] p = tt
carry_on a ρ (x ∷ xs) p = (rw (carry_drive ρ x) p.0, carry_on a ρ xs p.1)

-- a call's own stores are on present drives
own_reset_on : (g : Geometry) (present : ℕ → Bool) (state : StateView) (z : ℕ) → AllOn present (reset_stores g present state z)
unfolding reset_stores
own_reset_on g present state z = rw (each_on_present_lem present (reset_phases g state z)) (on_present_on present (concat (reset_phases g state z)))

own_write_on : (g : Geometry) (present : ℕ → Bool) (w : Device) (state : StateView) (z : ℕ) (ss : List (List ℕ)) → AllOn present (write_stores g present w state z ss)
unfolding write_stores
own_write_on g present w state z ss = on_present_on present (write_with g z (state.generation z) (zone_content g present w state z ss) (pointer_in (state.condition z)) (length ss))

-- ---- two inputs that agree
module _ (g : Geometry) (named : List Bool) (t u : Tables) (same : AgreeOn g (is_set named) t u) where
  -- their devices agree on any drives that are named
  pub devices_same : (present : ℕ → Bool) → ((d : ℕ) → present d ≡ true → is_set named d ≡ true) → SameOn present (device_of g t) (device_of g u)
  devices_same present h d p y = ap (λ (z : ZoneView). z.sectors) (device_agrees g (is_set named) t u same d (λ l. h d p) y)

  abbrev v : Device
  v = device_of g t

  abbrev w : Device
  w = device_of g u

  abbrev pointers_same : pointers_bad g named t.written t.durable ≡ pointers_bad g named u.written u.durable
  pointers_same = pointers_agree g named t u same

  -- ---- the refusals
  format_same : format_verdict g named t ≡ format_verdict g named u
  unfolding format_verdict format_rows
  format_same = rw (same.sectors_long, same.written_long, same.durable_long, pointers_same) refl

  -- of a call that is handed a state
  module _ (s : State) where
    abbrev present : ℕ → Bool
    present = call_present g (is_set named) (view_state s)

    devices_alike : SameOn present v w
    devices_alike = devices_same present (present_named g named s)

    -- by their roles too
    abbrev seen_same : SameOn present (by_roles g v) (by_roles g w)
    seen_same = by_roles_depend g present v w devices_alike

    abbrev roles_same : (d : ℕ) → present d ≡ true → roles g v d ≡ roles g w d
    roles_same = roles_depend g present v w devices_alike

    force_same : by_state g present (by_roles g v) (view_state s) ≡ by_state g present (by_roles g w) (view_state s)
    force_same = by_state_depends g present (by_roles g v) (by_roles g w) seen_same (view_state s)

    stale_same : (z : ℕ) → stale g present (by_roles g v) (view_state s) z ≡ stale g present (by_roles g w) (view_state s) z
    stale_same = stale_depends g present (by_roles g v) (by_roles g w) seen_same (view_state s)

    flush_same : flush_verdict g named s t ≡ flush_verdict g named s u
    unfolding flush_verdict flush_rows
    flush_same = rw (same.sectors_long, same.written_long, same.durable_long, pointers_same) refl

    reset_same : (z : ℕ) → reset_verdict g named s z t ≡ reset_verdict g named s z u
    unfolding reset_verdict reset_rows
    reset_same z =
        let full = reset_full_depends g present (by_roles g v) (by_roles g w) seen_same (roles g v) (roles g w) roles_same (by_state g present (by_roles g v) (view_state s)) (by_state g present (by_roles g w) (view_state s)) force_same in
        rw (same.sectors_long, same.written_long, same.durable_long, pointers_same, stale_same z, full) refl

    write_same : (a : WriteAsked) → write_verdict g named s a t ≡ write_verdict g named s a u
    unfolding write_verdict write_rows
    write_same a =
        let z = zone_asked g a in
        let end = end_asked g (view_state s) a in
        let full = write_full_depends g present (by_roles g v) (by_roles g w) seen_same (roles g v) (roles g w) roles_same (share_left g (view_state s) a.host z end) z end in
        let old = gone_before_depends g present (by_roles g v) (by_roles g w) seen_same z (record_at s z).generation (pointer_of s z) in
        rw (same.sectors_long, same.written_long, same.durable_long, pointers_same, stale_same z, full, old) refl

    compact_same : (d : ℕ) → compact_verdict g named s d t ≡ compact_verdict g named s d u
    unfolding compact_verdict compact_rows
    compact_same d = go (present d) refl
      where
        stale_alike : stale_somewhere g present (by_roles g v) (view_state s) ≡ stale_somewhere g present (by_roles g w) (view_state s)
        stale_alike = stale_somewhere_depends g present (by_roles g v) (by_roles g w) seen_same (view_state s)

        -- (rows 14 and 15 are asked of a present drive)
        go : (b : Bool) → present d ≡ b → compact_verdict g named s d t ≡ compact_verdict g named s d u
        go true p =
            let full = compact_full_depends g present (by_roles g v) (by_roles g w) seen_same (roles g v) (roles g w) roles_same (by_state g present (by_roles g v) (view_state s)) (by_state g present (by_roles g w) (view_state s)) force_same d p in
            let gone = gone_copies_depends g present (by_roles g v) (by_roles g w) seen_same (roles g v) (roles g w) roles_same (by_state g present (by_roles g v) (view_state s)) (by_state g present (by_roles g w) (view_state s)) force_same d p in
            rw (same.sectors_long, same.written_long, same.durable_long, pointers_same, stale_alike, full, gone) refl
        go false p = rw (same.sectors_long, same.written_long, same.durable_long, pointers_same, stale_alike, p) refl

    read_same : (a count bytes : ℕ) → read_number g named s a count bytes t ≡ read_number g named s a count bytes u
    unfolding read_number read_rows
    read_same a count bytes =
        let z = zone_of g a in
        let gone = gone_depends g present (by_roles g v) (by_roles g w) seen_same z (record_at s z).generation (offset_of g a) count in
        rw (same.sectors_long, same.written_long, same.durable_long, pointers_same, stale_same z, gone) refl

    peek_same : (a : ℕ) → peek_number g named s a t ≡ peek_number g named s a u
    unfolding peek_number peek_rows
    peek_same a =
        let z = zone_of g a in
        let lost = not_held_depends g present (by_roles g v) (by_roles g w) seen_same z (record_at s z).generation (offset_of g a) in
        rw (same.sectors_long, same.written_long, same.durable_long, pointers_same, stale_same z, lost) refl

    -- ---- a reset's stores
    abbrev emptied_by_reset : Device → ℕ → Bool
    emptied_by_reset u = emptied_for g present false (roles g u) (by_roles g u) (reset_limit g)

    reset_stores_same : (z : ℕ) → reset_all g present (roles g v) (by_roles g v) (view_state s) z ≡ reset_all g present (roles g w) (by_roles g w) (view_state s) z
    unfolding reset_all
    reset_stores_same z =
        let which = emptied_depends g present (by_roles g v) (by_roles g w) seen_same (roles g v) (roles g w) roles_same false (reset_limit g) in
        let there = emptied_here g present (roles g v) (by_roles g v) false (reset_limit g) in
        let own = reset_stores g present (view_state s) z in
        ap₂ (λ (xs ys : List Store). xs ++ ys)
        (empty_general_depends g present (roles g v) (roles g w) roles_same (emptied_by_reset v) (emptied_by_reset w) which there (by_roles g v) (by_roles g w) seen_same (by_state g present (by_roles g v) (view_state s)) (by_state g present (by_roles g w) (view_state s)) force_same)
        (carry_same present (placed_by (roles_after false (emptied_by_reset v) (roles g v))) (placed_by (roles_after false (emptied_by_reset w) (roles g w))) own
        (placed_depends g present (roles g v) (roles g w) roles_same (emptied_by_reset v) (emptied_by_reset w) which there false) (own_reset_on g present (view_state s) z))

    -- ---- a write's stores
    content_same : (z : ℕ) (ss : List (List ℕ)) → zone_content g present (by_roles g v) (view_state s) z ss ≡ zone_content g present (by_roles g w) (view_state s) z ss
    unfolding zone_content
    content_same z ss i a = pick (ltb a (pointer_of s z)) (value_depends g present (by_roles g v) (by_roles g w) seen_same z (record_at s z).generation a i) (at ss (a - pointer_of s z))

    own_write_same : (z : ℕ) (ss : List (List ℕ)) → write_stores g present (by_roles g v) (view_state s) z ss ≡ write_stores g present (by_roles g w) (view_state s) z ss
    unfolding write_stores
    own_write_same z ss = ap (λ (S : ℕ → List ℕ). on_present present (write_with g z (record_at s z).generation S (pointer_of s z) (length ss))) (content_same z ss)

    write_stores_same : (z : ℕ) (ss : List (List ℕ)) → write_all g present (roles g v) (by_roles g v) (view_state s) z ss ≡ write_all g present (roles g w) (by_roles g w) (view_state s) z ss
    unfolding write_all
    write_stores_same z ss =
        carry_same present (placed_by (roles g v)) (placed_by (roles g w)) (write_stores g present (by_roles g v) (view_state s) z ss) (λ d p. ap (λ (x : Roles). zone_of_role x) (roles_same d p)) (own_write_on g present (by_roles g v) (view_state s) z ss)
        ∙ ap (λ (xs : List Store). map (carry (placed_by (roles g w))) xs) (own_write_same z ss)

    -- ---- a compact's stores, of a present drive, and its state
    compact_stores_same : (d : ℕ) → present d ≡ true → compact_stores g present (roles g v) (by_roles g v) (view_state s) d ≡ compact_stores g present (roles g w) (by_roles g w) (view_state s) d
    unfolding compact_stores
    compact_stores_same d p =
        empty_parity_depends g present (roles g v) (roles g w) roles_same (λ c. eqb c d) (λ c. eqb c d) (λ c. refl) (λ c q. rw (eqb-true c d q) p) (by_roles g v) (by_roles g w) seen_same (by_state g present (by_roles g v) (view_state s)) (by_state g present (by_roles g w) (view_state s)) force_same

    compact_state_same : (x d : ℕ) → compact_state g present x (by_roles g v) (view_state s) d ≡ compact_state g present x (by_roles g w) (view_state s) d
    compact_state_same x d = ap (λ (f : InForce). with_shares (renewed_shares (view_state s).share d (half_past g (g.capacity - new_parity_size g f d))) (flush_state x (view_state s))) force_same

-- ==== THE CALLS THAT STORE
-- their stores are on named drives
module _ (g : Geometry) (named : List Bool) where
  format_on_lem : (array : ℕ) (t : Tables) → verdict_number (format_verdict g named t) ≡ 0 → OnNamed g named (format_stores g (named_drives g (is_set named)) (left_out g (is_set named)) array) t
  format_on_lem array t e =
      let present = named_drives g (is_set named) in
      let x = left_out g (is_set named) in
      let p = format_number_accepts g named t e in
      record {
        sized = (format_passed g named t p).sized;
        placed = fits_all_placed g (format_stores g present x array) (device_of g t) (format_stores_fit g named array t p);
        named_only = on_fewer present (is_set named) (format_stores g present x array) (λ d h. unfold named_drives in (and_split (ltb d g.drives) (is_set named d) h).1)
            (unfold format_stores in rw (each_on_present_lem present (format_phases g x array)) (on_present_on present (concat (format_phases g x array))));
      }

  module _ (s : State) where
    abbrev drives : ℕ → Bool
    drives = call_present g (is_set named) (view_state s)

    flush_on_lem : (t : Tables) → verdict_number (flush_verdict g named s t) ≡ 0 → OnNamed g named (flush_stores g drives) t
    flush_on_lem t e =
        let p = flush_number_accepts g named t s e in
        record {
          sized = (flush_passed g named s t p).tables.sized;
          placed = fits_all_placed g (flush_stores g drives) (device_of g t) (flush_stores_fit g named s t p);
          named_only = on_fewer drives (is_set named) (flush_stores g drives) (present_named g named s) (unfold flush_stores in on_present_on drives (flush_all g.drives));
        }

    reset_all_on : (z : ℕ) (t : Tables) → AllOn drives (reset_all g drives (roles_of g t) (seen_in g t) (view_state s) z)
    unfolding reset_all empty_general
    reset_all_on z t =
        let emptied = emptied_for g drives false (roles_of g t) (seen_in g t) (reset_limit g) in
        let new : ℕ → List (List ℕ) = λ d. new_general g (by_state g drives (seen_in g t) (view_state s)) (roles_of g t d) d (general_heads g (seen_in g t) d) in
        let ρ = placed_by (roles_after false emptied (roles_of g t)) in
        on_append drives (emptyings g drives false (roles_of g t) emptied new) (map (carry ρ) (reset_stores g drives (view_state s) z)) (emptyings_on g drives false (roles_of g t) emptied new (emptied_here g drives (roles_of g t) (seen_in g t) false (reset_limit g)))
        (carry_on drives ρ (reset_stores g drives (view_state s) z) (own_reset_on g drives (view_state s) z))

    reset_on_lem : (z : ℕ) (t : Tables) → verdict_number (reset_verdict g named s z t) ≡ 0 → OnNamed g named (reset_all g drives (roles_of g t) (seen_in g t) (view_state s) z) t
    reset_on_lem z t e =
        let p = reset_number_accepts g named t s z e in
        let stores = reset_all g drives (roles_of g t) (seen_in g t) (view_state s) z in
        record {
          sized = (reset_passed g named s z t p).opening.tables.sized;
          placed = fits_all_placed g stores (device_of g t) (reset_stores_fit g named s z t p);
          named_only = on_fewer drives (is_set named) stores (present_named g named s) (reset_all_on z t);
        }

    write_all_on : (z : ℕ) (ss : List (List ℕ)) (t : Tables) → AllOn drives (write_all g drives (roles_of g t) (seen_in g t) (view_state s) z ss)
    unfolding write_all
    write_all_on z ss t = carry_on drives (placed_by (roles_of g t)) (write_stores g drives (seen_in g t) (view_state s) z ss) (own_write_on g drives (seen_in g t) (view_state s) z ss)

    write_on_lem : (a : WriteAsked) (t : Tables) → verdict_number (write_verdict g named s a t) ≡ 0 → OnNamed g named (write_all g drives (roles_of g t) (seen_in g t) (view_state s) (zone_asked g a) (sectors_in g a.count a.buffer)) t
    write_on_lem a t e =
        let p = write_number_accepts g named t s a e in
        let z = zone_asked g a in
        let ss = sectors_in g a.count a.buffer in
        let stores = write_all g drives (roles_of g t) (seen_in g t) (view_state s) z ss in
        record {
          sized = (write_passed g named s a t p).opening.tables.sized;
          placed = fits_all_placed g stores (device_of g t) (write_stores_fit g named s a t p);
          named_only = on_fewer drives (is_set named) stores (present_named g named s) (write_all_on z ss t);
        }

    compact_all_on : (d : ℕ) (t : Tables) → drives d ≡ true → AllOn drives (compact_stores g drives (roles_of g t) (seen_in g t) (view_state s) d)
    unfolding compact_stores empty_parity
    compact_all_on d t p =
        let new : ℕ → List (List ℕ) = λ c. new_parity g (by_state g drives (seen_in g t) (view_state s)) (roles_of g t c) c (parity_entries g (seen_in g t) c) in
        emptyings_on g drives true (roles_of g t) (λ c. eqb c d) new (λ c q. rw (eqb-true c d q) p)

    compact_on_lem : (d : ℕ) (t : Tables) → verdict_number (compact_verdict g named s d t) ≡ 0 → OnNamed g named (compact_stores g drives (roles_of g t) (seen_in g t) (view_state s) d) t
    compact_on_lem d t e =
        let p = compact_number_accepts g named t s d e in
        let q = compact_passed g named s d t p in
        let stores = compact_stores g drives (roles_of g t) (seen_in g t) (view_state s) d in
        record {
          sized = q.opening.tables.sized;
          placed = fits_all_placed g stores (device_of g t) (compact_stores_fit g named s d t p);
          named_only = on_fewer drives (is_set named) stores (present_named g named s) (compact_all_on d t q.here);
        }

pub format_absent : (g : Geometry) (named : List Bool) (array : ℕ) (old : State) (count : ℕ) → LeavesAbsent g named (format_on g named array old count)
unfolding format_on
format_absent g named array old count =
    let number : Tables → ℕ = λ t. verdict_number (format_verdict g named t) in
    let stores = format_stores g (named_drives g (is_set named)) (left_out g (is_set named)) array in
    let new = state_held g.zones (with_shares (fresh_shares g (named_drives g (is_set named))) (format_state (left_out g (is_set named)))) in
    record {
      not_read = λ t u same. storing_same g named old count t u same (number t) (number u) (ap verdict_number (format_same g named t u same)) stores stores (λ e. refl) new new (λ e. refl) (format_on_lem g named array t);
      not_changed = λ t. storing_kept g named old count t (number t) stores new (format_on_lem g named array t);
    }

pub flush_absent : (g : Geometry) (named : List Bool) (s : State) (count : ℕ) → LeavesAbsent g named (flush_on g named s count)
unfolding flush_on
flush_absent g named s count =
    let number : Tables → ℕ = λ t. verdict_number (flush_verdict g named s t) in
    let stores = flush_stores g (call_present g (is_set named) (view_state s)) in
    let new = state_held max_zones (flush_state (lost_in g (is_set named) (view_state s)) (view_state s)) in
    record {
      not_read = λ t u same. storing_same g named s count t u same (number t) (number u) (ap verdict_number (flush_same g named t u same s)) stores stores (λ e. refl) new new (λ e. refl) (flush_on_lem g named s t);
      not_changed = λ t. storing_kept g named s count t (number t) stores new (flush_on_lem g named s t);
    }

pub reset_absent : (g : Geometry) (named : List Bool) (s : State) (z count : ℕ) → LeavesAbsent g named (reset_on g named s z count)
unfolding reset_on
reset_absent g named s z count =
    let number : Tables → ℕ = λ t. verdict_number (reset_verdict g named s z t) in
    let stores : Tables → List Store = λ t. reset_all g (call_present g (is_set named) (view_state s)) (roles_of g t) (seen_in g t) (view_state s) z in
    let new = state_held max_zones (reset_state (lost_in g (is_set named) (view_state s)) (view_state s) z) in
    record {
      not_read = λ t u same. storing_same g named s count t u same (number t) (number u) (ap verdict_number (reset_same g named t u same s z)) (stores t) (stores u) (λ e. reset_stores_same g named t u same s z) new new (λ e. refl) (reset_on_lem g named s z t);
      not_changed = λ t. storing_kept g named s count t (number t) (stores t) new (reset_on_lem g named s z t);
    }

pub write_absent : (g : Geometry) (named : List Bool) (s : State) (a : WriteAsked) (count : ℕ) → LeavesAbsent g named (write_on g named s a count)
unfolding write_on
write_absent g named s a count =
    let z = zone_asked g a in
    let ss = sectors_in g a.count a.buffer in
    let number : Tables → ℕ = λ t. verdict_number (write_verdict g named s a t) in
    let stores : Tables → List Store = λ t. write_all g (call_present g (is_set named) (view_state s)) (roles_of g t) (seen_in g t) (view_state s) z ss in
    let new = state_held max_zones (written_state g (call_present g (is_set named) (view_state s)) (lost_in g (is_set named) (view_state s)) a.host (view_state s) z a.count) in
    record {
      not_read = λ t u same. storing_same g named s count t u same (number t) (number u) (ap verdict_number (write_same g named t u same s a)) (stores t) (stores u) (λ e. write_stores_same g named t u same s z ss) new new (λ e. refl) (write_on_lem g named s a t);
      not_changed = λ t. storing_kept g named s count t (number t) (stores t) new (write_on_lem g named s a t);
    }

pub compact_absent : (g : Geometry) (named : List Bool) (s : State) (d count : ℕ) → LeavesAbsent g named (compact_on g named s d count)
unfolding compact_on
compact_absent g named s d count =
    let present = call_present g (is_set named) (view_state s) in
    let x = lost_in g (is_set named) (view_state s) in
    let number : Tables → ℕ = λ t. verdict_number (compact_verdict g named s d t) in
    let stores : Tables → List Store = λ t. compact_stores g present (roles_of g t) (seen_in g t) (view_state s) d in
    let new : Tables → State = λ t. state_held max_zones (compact_state g present x (seen_in g t) (view_state s) d) in
    let here : (t : Tables) → number t ≡ 0 → present d ≡ true = λ t e. (compact_passed g named s d t (compact_number_accepts g named t s d e)).here in
    record {
      not_read = λ t u same. storing_same g named s count t u same (number t) (number u) (ap verdict_number (compact_same g named t u same s d)) (stores t) (stores u) (λ e. compact_stores_same g named t u same s d (here t e)) (new t) (new u)
          (λ e. ap (state_held max_zones) (compact_state_same g named t u same s x d)) (compact_on_lem g named s d t);
      not_changed = λ t. storing_kept g named s count t (number t) (stores t) (new t) (compact_on_lem g named s d t);
    }

-- ==== READ AND PEEK, which change no memory
pub read_absent : (g : Geometry) (named : List Bool) (s : State) (a count : ℕ) (out : List ℕ) (t u : Tables) → AgreeOn g (is_set named) t u → read_on g named s a count out t ≡ read_on g named s a count out u
unfolding read_on values_on
read_absent g named s a count out t u same =
    let z = zone_of g a in
    let present = call_present g (is_set named) (view_state s) in
    let values : value_at g present (seen_in g t) z (record_at s z).generation ≡ value_at g present (seen_in g u) z (record_at s z).generation = fun_ext (value_depends g present (seen_in g t) (seen_in g u) (seen_same g named t u same s) z (record_at s z).generation) in
    rw (read_same g named t u same s a count (length out), values) refl

-- the sector that a peek gives lies on a named drive
pub record PeekPlace (g : Geometry) (named : List Bool) (a : ℕ) : Type 0 where
  pub drive_in : (place_of g a).drive < g.drives
  pub drive_named : is_set named (place_of g a).drive ≡ true
  pub zone_in_lem : (place_of g a).zone < physical_zones g
  pub sector_in : (place_of g a).sector < g.capacity

pub peek_place : (g : Geometry) (named : List Bool) (s : State) (a : ℕ) (t : Tables) → peek_number g named s a t ≡ 0 → PeekPlace g named a
unfolding zone_view view_of
peek_place g named s a t e =
    let q = peek_passed g named s a t e in
    let d = (place_of g a).drive in
    let y = (place_of g a).zone in
    let x = (place_of g a).sector in
    let (here, held) = and_split (call_present g (is_set named) (view_state s) d) (ltb x (length (seen_in g t d y).sectors)) q.held in
    let lies = ap (λ (a : ZoneView). length a.sectors) (data_by_roles g (device_of g t) d y (omega arith)) in
    let hd = call_present_below g named s d here in
    let hy : y < physical_zones g = omega (arith, q.zone) in
    record { drive_in = hd; drive_named = present_named g named s d here; zone_in_lem = hy; sector_in = omega (arith, ltb-true x (length (seen_in g t d y).sectors) held, lies, zone_short g t d y hd hy) }

pub peek_absent : (g : Geometry) (named : List Bool) (s : State) (a : ℕ) (t u : Tables) → AgreeOn g (is_set named) t u → (peek_number g named s a t ≡ peek_number g named s a u) × (peek_on g named s a t ≡ peek_on g named s a u)
peek_absent g named s a t u same = (peek_same g named t u same s a, unfold peek_on in rw (← peek_same g named t u same s a) (go (ℕ_discrete (peek_number g named s a t) 0)))
  where
    go : Dec (peek_number g named s a t ≡ 0) → pick (eqb (peek_number g named s a t) 0) (part_at g t.sectors (place_of g a)) [] ≡ pick (eqb (peek_number g named s a t) 0) (part_at g u.sectors (place_of g a)) []
    go (yes e) =
        let p = peek_place g named s a t e in
        let d = (place_of g a).drive in
        rw (eq-eqb (peek_number g named s a t) 0 e) (sym (sector_same g d t u (same.drive_same d p.drive_in p.drive_named) same.sectors_long (place_of g a).zone (place_of g a).sector p.zone_in_lem p.sector_in))
    go (no e) = rw (ne_eqb (peek_number g named s a t) 0 e) refl
