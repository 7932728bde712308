-- What `see_by_roles` hands a call (src/roles.rt): the geometry that places the logs, and the written pointers with those of lacking logs hidden. By both,
-- what a rule says of the tables is what it says of the device by its roles (`seen_rule`); pointers of data zones are what they were.
use Rattle.std.specs.Prelude.{◌≡◌, refl, Bool, true, false, ◌&&◌, ◌||◌, ℕ, ◌≤◌, ◌<◌, List, [], length, get_or}
use Rattle.std.proofs.Common.{sym, subst, ◌∙◌, arith, ne_eqb}
use Rattle.std.proofs.Math.Path.{ap}
use Rattle.std.proofs.Math.Dec.{eqb}
use Rattle.tables.specs.declared.Geometry.{Geometry}
use Rattle.tables.specs.meaning.Basics.{pick}
use Rattle.tables.specs.meaning.Below.{any_below}
use Rattle.tables.specs.laws.Below.{any_below_cong}
use Rattle.tables.specs.meaning.Geometry.{Valid, physical_zones, zone_sectors, data_zone, cells}
use Rattle.tables.specs.meaning.Device.{Device, ZoneView}
use Rattle.tables.specs.meaning.Tables.{tables_of, device_of, cell, zone_place}
use Rattle.tables.specs.laws.ZonePlaces.{place_in}
use Rattle.volume.specs.declared.roles.LogPlaces.{LogPlaces}
use Rattle.volume.specs.meaning.CallContracts.{is_set, seen_in}
use Rattle.volume.specs.meaning.Roles.{roles, zone_of_role, by_roles}
use Rattle.volume.specs.meaning.Rules.{View, zone_view}
use Rattle.volume.specs.meaning.Refusals.{kind_lacks}
use Rattle.volume.specs.laws.LogPlaces.{with_logs, with_roles, valid_with_logs, roles_proper, cell_by_role, zone_by_role, role_of_other}
use Rattle.volume.specs.laws.RulesUnread.{zone_view_alike}
use Rattle.volume.specs.looking.DriveLogs.{Sized}
use Rattle.volume.specs.looking.HiddenLogs.{places_of, hidden_logs, lacking_at, hidden_all_long, hidden_at, hidden_tables, by_roles_data}
use Rattle.volume.specs.looking.Knowing.{read_device, Readable}
use Rattle.volume.specs.looking.KnowingLaws.{sectors_alike, view_durable}

-- p: where the logs lie; ps: the pointers
pub record Seen (g : Geometry) (xs ws : List ℕ) (p : LogPlaces) (ps : List ℕ) : Type 0 where
  pub first : g.logs ≡ 0
  pub sized : Sized g xs ws
  pub places : p ≡ places_of g (roles g (read_device g xs ws))
  pub hidden : ps ≡ hidden_logs p ws p.geometry.drives

-- a kind that a present drive lacks, as the code finds it
abbrev pub kind_lacks_on : LogPlaces → List Bool → Bool
kind_lacks_on p here = any_below (λ d. is_set here d && (is_set p.no_general d || is_set p.no_parity d)) p.geometry.drives

module _ (g : Geometry) (xs ws : List ℕ) (p : LogPlaces) (ps : List ℕ) (s : Seen g xs ws p ps) where
  -- the same volume, but for where its logs lie
  pub seen_geometry : p.geometry ≡ with_logs g p.geometry.logs
  seen_geometry = rw s.places refl

  pub seen_valid : Valid g → Valid p.geometry
  seen_valid ok = subst Valid (sym seen_geometry) (valid_with_logs g p.geometry.logs ok)

  pub seen_zone : zone_sectors p.geometry ≡ zone_sectors g
  unfolding zone_sectors
  seen_zone = ap zone_sectors seen_geometry

  pub seen_long : length ps ≡ cells g
  seen_long = ap length s.hidden ∙ hidden_all_long p ws p.geometry.drives ∙ s.sized.written_long

  pub seen_sized : Sized p.geometry xs ps
  seen_sized = subst (λ (k : Geometry). Sized k xs ps) (sym seen_geometry) (record { sectors_long = s.sized.sectors_long; written_long = seen_long })

  -- ---- rules
  pub seen_device_lem : (ds : List ℕ) → device_of p.geometry (tables_of xs ps ds) ≡ by_roles g (device_of g (tables_of xs ws ds))
  seen_device_lem ds = ap (λ (us : List ℕ). device_of p.geometry (tables_of xs us ds)) s.hidden ∙ hidden_tables g s.first xs ws ds s.sized.written_long p s.places

  -- WHAT A RULE SAYS of the tables so, it says of the device by its roles
  pub seen_rule : {A : Type 0} (rule : Geometry → Device → A) → ((n : ℕ) (v : Device) → rule (with_logs g n) v ≡ rule g v) → (ds : List ℕ)
      → rule p.geometry (device_of p.geometry (tables_of xs ps ds)) ≡ rule g (by_roles g (device_of g (tables_of xs ws ds)))
  seen_rule rule alike ds =
      ap (rule p.geometry) (seen_device_lem ds) ∙ ap (λ (k : Geometry). rule k (by_roles g (device_of g (tables_of xs ws ds)))) seen_geometry
      ∙ alike p.geometry.logs (by_roles g (device_of g (tables_of xs ws ds)))

  -- so with durable pointers or without, of a rule that does not read them
  pub seen_read : {A : Type 0} (rule : Geometry → Device → A) → ((n : ℕ) (v : Device) → rule (with_logs g n) v ≡ rule g v) → (ds : List ℕ)
      → rule p.geometry (device_of p.geometry (tables_of xs ps ds)) ≡ rule p.geometry (read_device p.geometry xs ps)
      → rule g (by_roles g (device_of g (tables_of xs ws ds))) ≡ rule p.geometry (read_device p.geometry xs ps)
  seen_read rule alike ds durable = sym (seen_rule rule alike ds) ∙ durable

  -- ---- pointers
  role_in : (d y : ℕ) → d < g.drives → y < physical_zones g → zone_of_role (roles g (read_device g xs ws) d) y < physical_zones g
  role_in d y hd hy = let r = roles g (read_device g xs ws) in rw (zone_by_role g r (roles_proper g (read_device g xs ws)) d hd y) at (place_in (with_roles g r) d y hy)

  -- where a zone lies
  pub seen_place : (d y : ℕ) → d < g.drives → zone_place p.geometry d y ≡ zone_of_role (roles g (read_device g xs ws) d) y
  seen_place d y hd = ap (λ (q : LogPlaces). zone_place q.geometry d y) s.places ∙ zone_by_role g (roles g (read_device g xs ws)) (roles_proper g (read_device g xs ws)) d hd y

  pub seen_cell : (d y : ℕ) → d < g.drives → cell p.geometry d y ≡ cell g d (zone_of_role (roles g (read_device g xs ws) d) y)
  seen_cell d y hd = ap (λ (q : LogPlaces). cell q.geometry d y) s.places ∙ cell_by_role g s.first (roles g (read_device g xs ws)) (roles_proper g (read_device g xs ws)) d y hd

  hidden_pointer : (d y : ℕ) → d < g.drives → y < physical_zones g
      → get_or ps (cell p.geometry d y) 0 ≡ pick (eqb y 0 && is_set p.no_general d || (eqb y 1 && is_set p.no_parity d)) 0 (get_or ws (cell g d (zone_of_role (roles g (read_device g xs ws) d) y)) 0)
  hidden_pointer d y hd hy =
      let long : length ws ≡ cells p.geometry = s.sized.written_long ∙ sym (ap cells seen_geometry) in
      let hd' : d < p.geometry.drives = subst (λ (k : Geometry). d < k.drives) (sym seen_geometry) hd in
      let hy' : y < physical_zones p.geometry = subst (λ (k : Geometry). y < physical_zones k) (sym seen_geometry) hy in
      ap (λ (us : List ℕ). get_or us (cell p.geometry d y) 0) s.hidden ∙ hidden_at p ws long p.geometry.drives d y hd' hd' hy'
      ∙ ap (λ (k : ℕ). pick (eqb y 0 && is_set p.no_general d || (eqb y 1 && is_set p.no_parity d)) 0 (get_or ws k 0)) (seen_cell d y hd)

  -- of a data zone, the pointer that it was
  pub seen_data : (d z : ℕ) → d < g.drives → z < g.zones → get_or ps (cell p.geometry d (data_zone z)) 0 ≡ get_or ws (cell g d (data_zone z)) 0
  seen_data d z hd hz =
      let a : eqb (data_zone z) 0 ≡ false = ne_eqb (data_zone z) 0 (λ e. omega (arith, e)) in
      let b : eqb (data_zone z) 1 ≡ false = ne_eqb (data_zone z) 1 (λ e. omega (arith, e)) in
      let r = roles g (read_device g xs ws) d in
      let c : eqb (data_zone z) 0 && is_set p.no_general d || (eqb (data_zone z) 1 && is_set p.no_parity d) ≡ false = rw (a, b) refl in
      hidden_pointer d (data_zone z) hd (omega (arith, hz))
      ∙ ap (λ (b : Bool). pick b 0 (get_or ws (cell g d (zone_of_role r (data_zone z))) 0)) c ∙ ap (λ (y : ℕ). get_or ws (cell g d y) 0) (role_of_other r (data_zone z) (omega arith))

  -- no pointer is past its zone's end where none was
  pub seen_good : (here : List Bool) → ((d y : ℕ) → d < g.drives → is_set here d ≡ true → y < physical_zones g → get_or ws (cell g d y) 0 ≤ g.capacity)
      → (d y : ℕ) → d < g.drives → is_set here d ≡ true → y < physical_zones g → get_or ps (cell p.geometry d y) 0 ≤ g.capacity
  seen_good here good d y hd h hy =
      let m = get_or ws (cell g d (zone_of_role (roles g (read_device g xs ws) d) y)) 0 in
      rw (hidden_pointer d y hd hy) (go (eqb y 0 && is_set p.no_general d || (eqb y 1 && is_set p.no_parity d)) m (good d (zone_of_role (roles g (read_device g xs ws) d) y) hd h (role_in d y hd hy)))
    where
      go : (b : Bool) (m : ℕ) → m ≤ g.capacity → pick b 0 m ≤ g.capacity
      go true m k = omega arith
      go false m k = k

  pub seen_readable : (here : List Bool) (z : ℕ) → Readable g here xs ws z → Readable p.geometry here xs ps z
  seen_readable here z r =
      let drives_are : p.geometry.drives ≡ g.drives = ap (λ (k : Geometry). k.drives) seen_geometry in
      let zones_are : p.geometry.zones ≡ g.zones = ap (λ (k : Geometry). k.zones) seen_geometry in
      let capacity_is : p.geometry.capacity ≡ g.capacity = ap (λ (k : Geometry). k.capacity) seen_geometry in
      record {
        zone_in_lem = rw zones_are r.zone_in_lem;
        sectors_long = seen_sized.sectors_long;
        written_long = seen_sized.written_long;
        pointers = λ d y hd h hy. subst (λ (n : ℕ). get_or ps (cell p.geometry d y) 0 ≤ n) (sym capacity_is) (seen_good here r.pointers d y (omega (arith, hd, drives_are)) h (omega (arith, hy, zones_are)));
      }

  -- ---- kinds that lack
  pub seen_lacks : (here : List Bool) → kind_lacks_on p here ≡ kind_lacks g (is_set here) (roles g (read_device g xs ws))
  unfolding kind_lacks
  seen_lacks here =
      let r = roles g (read_device g xs ws) in
      ap (λ (q : LogPlaces). kind_lacks_on q here) s.places
      ∙ any_below_cong (λ d. is_set here d && (is_set (places_of g r).no_general d || is_set (places_of g r).no_parity d)) (λ d. is_set here d && (eqb (r d).general_claim 0 || eqb (r d).parity_claim 0)) g.drives
      (λ d hd. rw (lacking_at (λ e. (r e).general_claim) g.drives d hd, lacking_at (λ e. (r e).parity_claim) g.drives d hd) refl)

-- ---- with durable pointers or without
-- data zones are never hidden
pub data_seen : (g : Geometry) (xs ws ds : List ℕ) (d z : ℕ) → (seen_in g (tables_of xs ws ds) d (data_zone z)).sectors ≡ (read_device g xs ws d (data_zone z)).sectors
data_seen g xs ws ds d z = ap (λ (a : ZoneView). a.sectors) (by_roles_data g (device_of g (tables_of xs ws ds)) d z) ∙ sectors_alike g xs ws ds d (data_zone z)

-- what rules 4 and 5 see
pub view_seen : (g : Geometry) → g.logs ≡ 0 → (xs ws ds : List ℕ) → Sized g xs ws → (present : ℕ → Bool) (z n : ℕ) → zone_view g present (seen_in g (tables_of xs ws ds)) z n ≡ zone_view g present (by_roles g (read_device g xs ws)) z n
view_seen g first xs ws ds sized present z n =
    let p = places_of g (roles g (read_device g xs ws)) in
    let ps = hidden_logs p ws p.geometry.drives in
    let seen : Seen g xs ws p ps = record { first = first; sized = sized; places = refl; hidden = refl } in
    let rule : Geometry → Device → View = λ k v. zone_view k present v z n in
    sym (seen_rule g xs ws p ps seen rule (λ m v. zone_view_alike g m present v z n) ds) ∙ view_durable p.geometry present xs ps ds z n ∙ seen_rule g xs ws p ps seen rule (λ m v. zone_view_alike g m present v z n) []
