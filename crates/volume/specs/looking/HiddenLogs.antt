-- Where the logs of all drives lie, as the code hands it on (`places_of`), and the written pointers with those logs hidden that lack (`hidden_logs`): by both, the
-- tables are the device by its roles.
use Rattle.std.specs.Prelude.{◌≡◌, ◌≢◌, Bool, ◌&&◌, ◌||◌, ℕ, zero, suc, ◌+◌, ◌-◌, ◌*◌, ◌^◌, ◌≤◌, ◌<◌, min, List, [], ◌++◌, length, get_or, set, replicate, eqb}
use Rattle.std.proofs.Math.Path.{refl, sym, ap, fun_ext}
use Rattle.std.proofs.Common.{◌∙◌, not-suc-le-zero, le_refl, arith, add-one, length-set, get_or-set_same, get_or-set_other}
use Rattle.std.proofs.Math.Bool.{true, false}
use Rattle.std.proofs.Math.Decide.{dec_lt, ℕ_discrete}
use Rattle.std.proofs.Math.Dec.{ltb}
use borrow.Author.Tests.{lt-ltb, le-ltb, ne_eqb}
use Rattle.tables.specs.declared.Geometry.{Geometry}
use Rattle.tables.specs.meaning.Basics.{pick}
use Rattle.tables.specs.meaning.Below.{tabulate}
use Rattle.tables.specs.meaning.Geometry.{physical_zones, data_zone, cells, max_drives}
use Rattle.tables.specs.meaning.Device.{Device, ZoneView, blank_zone}
use Rattle.tables.specs.meaning.Tables.{tables_of, device_of, cell, sector_no, zone_at_cell, pointers_after_reset}
use Rattle.tables.specs.laws.ZonePlaces.{place_in}
use Rattle.tables.specs.laws.Tables.{cell_in, cell_injective, device_in_lem, device_outside}
use Rattle.logs.specs.meaning.Entry.{general_zone, parity_zone}
use Rattle.volume.specs.declared.roles.LogPlaces.{LogPlaces}
use Rattle.volume.specs.declared.roles.LogZones.{LogZones}
use Rattle.volume.specs.meaning.CallContracts.{is_set}
use Rattle.volume.specs.meaning.Roles.{Roles, roles, roles_in, zone_of_role, says_nothing, seen_as, drive_by_roles, by_roles}
use Rattle.volume.specs.laws.LogPlaces.{with_logs, with_roles, logs_of, Proper, roles_proper, cell_by_role, zone_by_role, role_of_other}
use Rattle.volume.specs.laws.FilledArrays.{fill_at, fill_more}
use Rattle.volume.specs.looking.DriveLogs.{Sized}
use Rattle.volume.specs.looking.Knowing.{read_device}
use Rattle.volume.specs.looking.KnowingLaws.{sectors_alike}
use Rattle.volume.specs.looking.LogZones.{zones_of}

-- ---- what the code hands on
abbrev pub lacking : (ℕ → ℕ) → ℕ → List Bool
lacking f n = tabulate (λ d. eqb (f d) 0) n ++ replicate (max_drives - n) false

abbrev pub places_of : Geometry → (ℕ → Roles) → LogPlaces
places_of g r = record { geometry = with_roles g r; no_general = lacking (λ d. (r d).general_claim) g.drives; no_parity = lacking (λ d. (r d).parity_claim) g.drives }

-- of each drive, whether it lacks the kind
pub lacking_at : (f : ℕ → ℕ) (n d : ℕ) → d < n → is_set (lacking f n) d ≡ eqb (f d) 0
lacking_at f n d h = fill_at (λ e. eqb (f e) 0) false false n (max_drives - n) d h

pub sized_with_logs : (g : Geometry) (n : ℕ) (xs ws : List ℕ) → Sized g xs ws → Sized (with_logs g n) xs ws
sized_with_logs g n xs ws s = record { sectors_long = s.sectors_long; written_long = s.written_long }

-- the pointers ps without that of a log, if it lacks
abbrev pub hidden_log : Geometry → Bool → ℕ → ℕ → List ℕ → List ℕ
hidden_log g lacks d z ps = pick lacks (pointers_after_reset g d z ps) ps

-- without those of the logs that lack, on the drives below n
abbrev pub hidden_logs : LogPlaces → List ℕ → ℕ → List ℕ
hidden_logs p ws zero = ws
hidden_logs p ws (suc d) =
    hidden_log p.geometry (is_set p.no_parity d) d parity_zone (hidden_log p.geometry (is_set p.no_general d) d general_zone (hidden_logs p ws d))

-- ---- as the code's loops go on
pub logs_more : (r : ℕ → Roles) (d x b : ℕ) (z : LogZones) → x ≡ logs_of r d → b ≡ (z.general + 4 * z.parity) * 2 ^ (4 * d) → z ≡ zones_of (r d) → x + b ≡ logs_of r (d + 1)
logs_more r d x b z p q e = rw (p, q, e, add-one) refl

pub lacking_more : (f : ℕ → ℕ) (d : ℕ) (xs : List Bool) (b : Bool) → d < 8 → xs ≡ lacking f d → b ≡ eqb (f d) 0 → set xs d b ≡ lacking f (d + 1)
lacking_more f d xs b h p q = rw (p, q, add-one) (fill_more (λ e. eqb (f e) 0) false 8 d h)

pub places_are : (g : Geometry) (r : ℕ → Roles) (h : Geometry) (x d : ℕ) (ng np : List Bool) → h ≡ with_logs g x → x ≡ logs_of r d → d ≡ g.drives
    → ng ≡ lacking (λ e. (r e).general_claim) d → np ≡ lacking (λ e. (r e).parity_claim) d → record { geometry = h; no_general = ng; no_parity = np } ≡ places_of g r
places_are g r h x d ng np eh ex ed en ep = rw (eh, ex, en, ep, ed) refl

pub hidden_more : (p : LogPlaces) (ws : List ℕ) (d : ℕ) (xs ys zs : List ℕ) → xs ≡ hidden_logs p ws d → ys ≡ hidden_log p.geometry (is_set p.no_general d) d general_zone xs
    → zs ≡ hidden_log p.geometry (is_set p.no_parity d) d parity_zone ys → zs ≡ hidden_logs p ws (d + 1)
hidden_more p ws d xs ys zs ex ey ez = rw (ez, ey, ex, add-one) refl

-- ---- the pointers that are hidden
pub hidden_long : (g : Geometry) (lacks : Bool) (d z : ℕ) (ps : List ℕ) → length (hidden_log g lacks d z ps) ≡ length ps
unfolding pointers_after_reset
hidden_long g true d z ps = length-set ps (cell g d z) 0
hidden_long g false d z ps = refl

pub hidden_all_long : (p : LogPlaces) (ws : List ℕ) (n : ℕ) → length (hidden_logs p ws n) ≡ length ws
hidden_all_long p ws zero = refl
hidden_all_long p ws (suc d) =
    hidden_long p.geometry (is_set p.no_parity d) d parity_zone (hidden_log p.geometry (is_set p.no_general d) d general_zone (hidden_logs p ws d))
    ∙ hidden_long p.geometry (is_set p.no_general d) d general_zone (hidden_logs p ws d) ∙ hidden_all_long p ws d

hidden_there : (g : Geometry) (lacks : Bool) (d z : ℕ) (ps : List ℕ) → cell g d z < length ps → get_or (hidden_log g lacks d z ps) (cell g d z) 0 ≡ pick lacks 0 (get_or ps (cell g d z) 0)
unfolding pointers_after_reset
hidden_there g true d z ps h = get_or-set_same ps (cell g d z) 0 0 h
hidden_there g false d z ps h = refl

hidden_elsewhere : (g : Geometry) (lacks : Bool) (d z k : ℕ) (ps : List ℕ) → k ≢ cell g d z → get_or (hidden_log g lacks d z ps) k 0 ≡ get_or ps k 0
unfolding pointers_after_reset
hidden_elsewhere g true d z k ps n = get_or-set_other ps (cell g d z) k 0 0 n
hidden_elsewhere g false d z k ps n = refl

module _ (p : LogPlaces) (ws : List ℕ) (long : length ws ≡ cells p.geometry) where
  -- whether the log in zone y of drive e lacks
  abbrev hides : ℕ → ℕ → Bool
  hides e y = eqb y 0 && is_set p.no_general e || (eqb y 1 && is_set p.no_parity e)

  hidden_later : (n e y : ℕ) → n ≤ e → e < p.geometry.drives → y < physical_zones p.geometry → get_or (hidden_logs p ws n) (cell p.geometry e y) 0 ≡ get_or ws (cell p.geometry e y) 0
  hidden_later zero e y h he hy = refl
  hidden_later (suc d) e y h he hy =
      let q : (z : ℕ) → z < physical_zones p.geometry → cell p.geometry e y ≢ cell p.geometry d z = λ z hz c. omega (arith, (cell_injective p.geometry d z e y hz hy c).0) in
      hidden_elsewhere p.geometry (is_set p.no_parity d) d parity_zone (cell p.geometry e y) (hidden_log p.geometry (is_set p.no_general d) d general_zone (hidden_logs p ws d)) (q parity_zone (omega arith))
      ∙ hidden_elsewhere p.geometry (is_set p.no_general d) d general_zone (cell p.geometry e y) (hidden_logs p ws d) (q general_zone (omega arith))
      ∙ hidden_later d e y (omega arith) he hy

  -- what the turn of drive e leaves
  here : (e y : ℕ) → e < p.geometry.drives → y < physical_zones p.geometry → get_or (hidden_logs p ws (suc e)) (cell p.geometry e y) 0 ≡ pick (hides e y) 0 (get_or ws (cell p.geometry e y) 0)
  here e y he hy = go y hy (apart y hy) (hidden_later e e y (le_refl e) he hy)
    where
      u : List ℕ
      u = hidden_logs p ws e

      g : Geometry
      g = p.geometry

      lacks_general : Bool
      lacks_general = is_set p.no_general e

      lacks_parity : Bool
      lacks_parity = is_set p.no_parity e

      apart : (y : ℕ) → y < physical_zones g → (z : ℕ) → z < physical_zones g → y ≢ z → cell g e y ≢ cell g e z
      apart y hy z hz n c = n (cell_injective g e z e y hz hy c).1

      fits : (z : ℕ) → z < physical_zones g → cell g e z < length u
      fits z hz = rw (hidden_all_long p ws e, long) (cell_in g e z he hz)

      or_false : (b : Bool) (n : ℕ) → pick b 0 n ≡ pick (b || false) 0 n
      or_false true n = refl
      or_false false n = refl

      go : (y : ℕ) → y < physical_zones g → ((z : ℕ) → z < physical_zones g → y ≢ z → cell g e y ≢ cell g e z) → get_or u (cell g e y) 0 ≡ get_or ws (cell g e y) 0
          → get_or (hidden_log g lacks_parity e parity_zone (hidden_log g lacks_general e general_zone u)) (cell g e y) 0 ≡ pick (hides e y) 0 (get_or ws (cell g e y) 0)
      go zero hy n q =
          hidden_elsewhere g lacks_parity e parity_zone (cell g e general_zone) (hidden_log g lacks_general e general_zone u) (n parity_zone (omega arith) (λ k. omega (arith, k)))
          ∙ hidden_there g lacks_general e general_zone u (fits general_zone hy) ∙ ap (λ (m : ℕ). pick lacks_general 0 m) q ∙ or_false lacks_general (get_or ws (cell g e general_zone) 0)
      go (suc zero) hy n q =
          hidden_there g lacks_parity e parity_zone (hidden_log g lacks_general e general_zone u) (rw (hidden_long g lacks_general e general_zone u) (fits parity_zone hy))
          ∙ ap (λ (m : ℕ). pick lacks_parity 0 m) (hidden_elsewhere g lacks_general e general_zone (cell g e parity_zone) u (n general_zone (omega arith) (λ k. omega (arith, k))) ∙ q)
      go (suc (suc y)) hy n q =
          let a : eqb (suc (suc y)) 0 ≡ false = ne_eqb (suc (suc y)) 0 (λ k. omega (arith, k)) in
          let b : eqb (suc (suc y)) 1 ≡ false = ne_eqb (suc (suc y)) 1 (λ k. omega (arith, k)) in
          let r : get_or (hidden_log g lacks_parity e parity_zone (hidden_log g lacks_general e general_zone u)) (cell g e (suc (suc y))) 0 ≡ get_or ws (cell g e (suc (suc y))) 0 =
          hidden_elsewhere g lacks_parity e parity_zone (cell g e (suc (suc y))) (hidden_log g lacks_general e general_zone u) (n parity_zone (omega arith) (λ k. omega (arith, k)))
          ∙ hidden_elsewhere g lacks_general e general_zone (cell g e (suc (suc y))) u (n general_zone (omega arith) (λ k. omega (arith, k))) ∙ q in
          r ∙ rw (a, b) refl

  pub hidden_at : (n e y : ℕ) → e < n → e < p.geometry.drives → y < physical_zones p.geometry → get_or (hidden_logs p ws n) (cell p.geometry e y) 0 ≡ pick (hides e y) 0 (get_or ws (cell p.geometry e y) 0)
  hidden_at zero e y h he hy = absurd (not-suc-le-zero h)
  hidden_at (suc d) e y h he hy = go (ℕ_discrete e d) (λ k. hidden_at d e y k he hy)
    where
      go : Dec (e ≡ d) → (e < d → get_or (hidden_logs p ws d) (cell p.geometry e y) 0 ≡ pick (hides e y) 0 (get_or ws (cell p.geometry e y) 0)) → get_or (hidden_logs p ws (suc d)) (cell p.geometry e y) 0 ≡ pick (hides e y) 0 (get_or ws (cell p.geometry e y) 0)
      go (yes q) ih = rw (← q) (here e y he hy)
      go (no q) ih =
          let k : (z : ℕ) → z < physical_zones p.geometry → cell p.geometry e y ≢ cell p.geometry d z = λ z hz c. q (cell_injective p.geometry d z e y hz hy c).0 in
          hidden_elsewhere p.geometry (is_set p.no_parity d) d parity_zone (cell p.geometry e y) (hidden_log p.geometry (is_set p.no_general d) d general_zone (hidden_logs p ws d)) (k parity_zone (omega arith))
          ∙ hidden_elsewhere p.geometry (is_set p.no_general d) d general_zone (cell p.geometry e y) (hidden_logs p ws d) (k general_zone (omega arith))
          ∙ ih (omega arith)

-- ---- THE DEVICE BY ITS ROLES, in the tables
-- the zone at cell k, with n sectors, m of them durable
abbrev zone_from : Geometry → List ℕ → ℕ → ℕ → ℕ → ZoneView
zone_from g xs k m n = record { sectors = tabulate (λ i. sector_no g.sector xs (k * g.capacity + i)) (min n g.capacity); durable = min m g.capacity }

zone_from_lem : (g : Geometry) (xs us ds : List ℕ) (k : ℕ) → zone_at_cell g (tables_of xs us ds) k ≡ zone_from g xs k (get_or ds k 0) (get_or us k 0)
unfolding zone_at_cell
zone_from_lem g xs us ds k = refl

zone_hidden : (g : Geometry) (xs : List ℕ) (k m n : ℕ) (b : Bool) → zone_from g xs k m (pick b 0 n) ≡ pick b (says_nothing (zone_from g xs k m n)) (zone_from g xs k m n)
zone_hidden g xs k m n true = let e : min 0 g.capacity ≡ 0 = omega arith in rw e refl
zone_hidden g xs k m n false = refl

-- (r: any roles)
module _ (g : Geometry) (first : g.logs ≡ 0) (r : ℕ → Roles) (proper : (d : ℕ) → Proper (r d)) (xs ws ds : List ℕ) (long : length ws ≡ cells g) where
  v : Device
  v = device_of g (tables_of xs ws ds)

  hid : List ℕ
  hid = hidden_logs (places_of g r) ws g.drives

  seen : Device
  seen = device_of (with_roles g r) (tables_of xs hid ds)

  -- whether the log in zone z of drive d lacks, by its roles
  abbrev lacks : ℕ → ℕ → Bool
  lacks d z = eqb z 0 && eqb (r d).general_claim 0 || (eqb z 1 && eqb (r d).parity_claim 0)

  hidden_cell : (d z : ℕ) → d < g.drives → z < physical_zones g → get_or hid (cell (with_roles g r) d z) 0 ≡ pick (lacks d z) 0 (get_or ws (cell (with_roles g r) d z) 0)
  unfolding hid
  hidden_cell d z hd hz =
      hidden_at (places_of g r) ws long g.drives d z hd hd hz
      ∙ rw (lacking_at (λ e. (r e).general_claim) g.drives d hd, lacking_at (λ e. (r e).parity_claim) g.drives d hd) refl

  hidden_inside : (d z : ℕ) → d < g.drives → z < physical_zones g → seen d z ≡ seen_as (r d) (v d) z
  unfolding v seen
  hidden_inside d z hd hz =
      let h : zone_of_role (r d) z < physical_zones g = rw (zone_by_role g r proper d hd z) at (place_in (with_roles g r) d z hz) in
      let k = cell (with_roles g r) d z in
      let e : k ≡ cell g d (zone_of_role (r d) z) = cell_by_role g first r proper d z hd in
      let there : zone_from g xs k (get_or ds k 0) (get_or ws k 0) ≡ v d (zone_of_role (r d) z) = rw e (sym (device_in_lem g (tables_of xs ws ds) d (zone_of_role (r d) z) hd h ∙ zone_from_lem g xs ws ds (cell g d (zone_of_role (r d) z)))) in
      device_in_lem (with_roles g r) (tables_of xs hid ds) d z hd hz ∙ zone_from_lem (with_roles g r) xs hid ds k
      ∙ ap (zone_from g xs k (get_or ds k 0)) (hidden_cell d z hd hz) ∙ zone_hidden g xs k (get_or ds k 0) (get_or ws k 0) (lacks d z)
      ∙ ap (λ (a : ZoneView). pick (lacks d z) (says_nothing a) a) there

  hidden_outside : (d z : ℕ) → ltb d g.drives && ltb z (physical_zones g) ≡ false → v d (zone_of_role (r d) z) ≡ blank_zone → seen d z ≡ seen_as (r d) (v d) z
  unfolding seen
  hidden_outside d z q e = device_outside (with_roles g r) (tables_of xs hid ds) d z q ∙ sym (rw e (blank (lacks d z)))
    where
      blank : (b : Bool) → pick b (says_nothing blank_zone) blank_zone ≡ blank_zone
      blank true = refl
      blank false = refl

  by_places : seen ≡ (λ (d : ℕ). seen_as (r d) (v d))
  unfolding v
  by_places = fun_ext λ d. fun_ext λ z. go d z (dec_lt d g.drives) (dec_lt z (physical_zones g))
    where
      go : (d z : ℕ) → Dec (d < g.drives) → Dec (z < physical_zones g) → seen d z ≡ seen_as (r d) (v d) z
      go d z (yes hd) (yes hz) = hidden_inside d z hd hz
      go d z (yes hd) (no hz) =
          let q : ltb d g.drives && ltb z (physical_zones g) ≡ false = rw (lt-ltb d g.drives hd, le-ltb z (physical_zones g) (omega arith)) refl in
          hidden_outside d z q (rw (role_of_other (r d) z (omega arith)) (device_outside g (tables_of xs ws ds) d z q))
      go d z (no hd) hz =
          let q : (y : ℕ) → ltb d g.drives && ltb y (physical_zones g) ≡ false = λ y. rw (le-ltb d g.drives (omega arith)) refl in
          hidden_outside d z (q z) (device_outside g (tables_of xs ws ds) d (zone_of_role (r d) z) (q (zone_of_role (r d) z)))

  -- THE TABLES by any roles, with what lacks hidden
  pub hidden_by : device_of (with_roles g r) (tables_of xs (hidden_logs (places_of g r) ws g.drives) ds) ≡ (λ (d : ℕ). seen_as (r d) (device_of g (tables_of xs ws ds) d))
  unfolding v hid seen
  hidden_by = by_places

-- roles do not hang on durable pointers
pub roles_durable : (g : Geometry) (xs ws ds : List ℕ) → roles g (device_of g (tables_of xs ws ds)) ≡ roles g (read_device g xs ws)
roles_durable g xs ws ds = fun_ext λ d. ap (roles_in g d) (fun_ext λ y. sectors_alike g xs ws ds d y)

-- as the code hands it on, with any durable pointers
pub hidden_tables : (g : Geometry) → g.logs ≡ 0 → (xs ws ds : List ℕ) → length ws ≡ cells g → (p : LogPlaces) → p ≡ places_of g (roles g (read_device g xs ws))
    → device_of p.geometry (tables_of xs (hidden_logs p ws p.geometry.drives) ds) ≡ by_roles g (device_of g (tables_of xs ws ds))
unfolding drive_by_roles
hidden_tables g first xs ws ds long p e =
    let q : p ≡ places_of g (roles g (device_of g (tables_of xs ws ds))) = e ∙ ap (places_of g) (sym (roles_durable g xs ws ds)) in
    ap (λ (k : LogPlaces). device_of k.geometry (tables_of xs (hidden_logs k ws k.geometry.drives) ds)) q ∙ hidden_by g first (roles g (device_of g (tables_of xs ws ds))) (roles_proper g (device_of g (tables_of xs ws ds))) xs ws ds long

pub hidden_by_roles : (g : Geometry) → g.logs ≡ 0 → (xs ws : List ℕ) → Sized g xs ws → (p : LogPlaces) → p ≡ places_of g (roles g (read_device g xs ws))
    → read_device p.geometry xs (hidden_logs p ws p.geometry.drives) ≡ by_roles g (read_device g xs ws)
hidden_by_roles g first xs ws sized p e = hidden_tables g first xs ws [] sized.written_long p e

-- ---- where no log lacks, nothing is hidden
module _ (g : Geometry) (v : Device) (d : ℕ) where
  -- the spare and the data zones are never hidden
  pub by_roles_other : (z : ℕ) → 2 ≤ z → by_roles g v d z ≡ v d (zone_of_role (roles g v d) z)
  unfolding drive_by_roles
  by_roles_other z h = rw (ne_eqb z 0 (λ e. omega (arith, e, h)), ne_eqb z 1 (λ e. omega (arith, e, h))) refl

  pub by_roles_data : (z : ℕ) → by_roles g v d (data_zone z) ≡ v d (data_zone z)
  by_roles_data z = by_roles_other (data_zone z) (omega arith) ∙ ap (v d) (role_of_other (roles g v d) (data_zone z) (omega arith))
