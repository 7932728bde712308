-- The geometry that places each drive's logs by its roles (`with_roles`): four bits a drive, the general log's zone and the parity log's. By it a zone lies
-- where its role says; so the tables read by it are the device by these roles, and its stores are the carried ones.
use Rattle.std.specs.Prelude.{◌≡◌, ◌≢◌, Bool, true, false, ◌&&◌, ℕ, zero, suc, ◌+◌, ◌-◌, ◌*◌, ◌/◌, ◌%◌, ◌^◌, ◌≤◌, ◌<◌, List, [], ◌∷◌, map, get_or, set, ltb, leb, eqb}
use Rattle.std.proofs.Math.Path.{refl, ap, fun_ext}
use Rattle.std.proofs.Common.{sym, ◌∙◌, mod-eq_of_lt, mul-div_cancel, mul-le-mul_right, add_comm, not-suc-le-zero, le_trans, arith, pow-add, pow_pos, pow_mono, lt-ltb, le-ltb, ne_eqb, eqb-true}
use Rattle.std.proofs.Math.Nat.{add-mul-div_right, mul-add-mod_self_right, div-eq_of_lt}
use Rattle.std.proofs.Math.Decide.{dec_lt, ℕ_discrete}
use Rattle.std.proofs.Math.Arith.{digits_div}
use Rattle.std.proofs.lemmas.Bool.{eqb-false}
use Rattle.tables.specs.declared.Geometry.{Geometry}
use Rattle.tables.specs.meaning.Basics.{pick}
use Rattle.tables.specs.meaning.Below.{sum_below}
use Rattle.tables.specs.meaning.Lists.{overlay}
use Rattle.tables.specs.meaning.Geometry.{Valid, physical_zones}
use Rattle.tables.specs.meaning.Device.{Device, Store, append, reset, flush, store_drive, apply}
use Rattle.tables.specs.meaning.Through.{through, carry}
use Rattle.tables.specs.meaning.Tables.{Tables, tables_of, moved_zone, unsaid, log_place, log_bits, zone_place, first_cell, cell, zone_at_cell, device_of, sectors_after_append, written_after_append, pointers_after_reset, durable_after_flush, make_store, run_stores}
use Rattle.tables.specs.laws.Tables.{device_in_lem, device_outside}
use Rattle.tables.specs.laws.ZonePlaces.{log_place_unsaid, log_place_said, place_in}
use Rattle.tables.specs.laws.Made.{AllPlaced, Placed, Fits, FitsAll}
use Rattle.volume.specs.meaning.Roles.{Roles, strength, strongest, other_than, roles_by, roles_in, roles, zone_of_role, placed_by, emptied_roles, roles_after}

-- ---- definitions
-- g with these logs
abbrev pub with_logs : Geometry → ℕ → Geometry
with_logs g n = record { drives = g.drives; sector = g.sector; unit = g.unit; zones = g.zones; capacity = g.capacity; logs = n }

abbrev pub bits_of : Roles → ℕ
bits_of r = r.general + 4 * r.parity

abbrev pub logs_of : (ℕ → Roles) → ℕ → ℕ
logs_of r n = sum_below (λ d. bits_of (r d) * 2 ^ (4 * d)) n

abbrev pub with_roles : Geometry → (ℕ → Roles) → Geometry
with_roles g r = with_logs g (logs_of r g.drives)

-- g with drive d's parity log in zone p, and every other drive's logs in their first places
abbrev pub with_parity : Geometry → ℕ → ℕ → Geometry
with_parity g d p = with_logs g ((other_than p + 4 * p) * 2 ^ (4 * d))

-- a geometry's bounds do not speak of its logs
pub valid_with_logs : (g : Geometry) (n : ℕ) → Valid g → Valid (with_logs g n)
valid_with_logs g n v = record {
  drives_least = v.drives_least;
  drives_most = v.drives_most;
  sector = v.sector;
  sector_least = v.sector_least;
  sector_most = v.sector_most;
  unit_least = v.unit_least;
  unit_most = v.unit_most;
  zones_least = v.zones_least;
  zones_most = v.zones_most;
  counters_fit = v.counters_fit;
  units = v.units;
  whole_units = v.whole_units;
  zone_most = v.zone_most;
  logs_fit = v.logs_fit;
  general_fits = v.general_fits;
}

-- nor do the places and the room that stores need
placed_with_logs : (g : Geometry) (n : ℕ) (x : Store) → Placed g x → Placed (with_logs g n) x
placed_with_logs g n (append d z s) p = p
placed_with_logs g n (reset d z) p = p
placed_with_logs g n (flush d) p = p

pub all_placed_with_logs : (g : Geometry) (n : ℕ) (xs : List Store) → AllPlaced g xs → AllPlaced (with_logs g n) xs
all_placed_with_logs g n [] p = tt
all_placed_with_logs g n (x ∷ xs) p = (placed_with_logs g n x p.0, all_placed_with_logs g n xs p.1)

fit_with_logs : (g : Geometry) (n : ℕ) (x : Store) (v : Device) → Fits g x v → Fits (with_logs g n) x v
fit_with_logs g n (append d z s) v p = p
fit_with_logs g n (reset d z) v p = p
fit_with_logs g n (flush d) v p = p

pub fits_all_with_logs : (g : Geometry) (n : ℕ) (xs : List Store) (v : Device) → FitsAll g xs v → FitsAll (with_logs g n) xs v
fits_all_with_logs g n [] v p = tt
fits_all_with_logs g n (x ∷ xs) v p = (fit_with_logs g n x v p.0, fits_all_with_logs g n xs (apply x v) p.1)

-- three zones, each in one role
pub record Proper (r : Roles) : Type 0 where
  pub general_lt : r.general < 3
  pub parity_lt : r.parity < 3
  pub apart : r.general ≢ r.parity
  pub spare_is : r.spare ≡ 3 - (r.general + r.parity)

-- ---- the roles that zones have are proper
pub strongest_lt : (a : ℕ → ℕ) → strongest a < 3
strongest_lt a = go (leb (a 1) (a 0) && leb (a 2) (a 0)) (leb (a 2) (a 1))
  where
    go : (b c : Bool) → pick b 0 (pick c 1 2) < 3
    go true c = omega arith
    go false true = omega arith
    go false false = omega arith

pub other_lt : (y : ℕ) → other_than y < 3
other_lt y = go (eqb y 0)
  where
    go : (b : Bool) → pick b 1 0 < 3
    go true = omega arith
    go false = omega arith

pub other_apart : (y : ℕ) → other_than y ≢ y
other_apart y = go (eqb y 0) refl
  where
    go : (b : Bool) → eqb y 0 ≡ b → pick b 1 0 ≢ y
    go true e q = omega (arith, eqb-true y 0 e)
    go false e q = eqb-false y 0 e (sym q)

pick_lt : (b : Bool) (x y n : ℕ) → x < n → y < n → pick b x y < n
pick_lt true x y n h k = h
pick_lt false x y n h k = k

pub roles_by_proper : (a b : ℕ → ℕ) → Proper (roles_by a b)
roles_by_proper a b = record { general_lt = general_in; parity_lt = pick_lt (eqb p s) (other_than s) p 3 (other_lt s) (strongest_lt b); apart = go (eqb p s) refl; spare_is = refl }
  where
    p : ℕ
    p = strongest b

    s : ℕ
    s = pick (eqb (a (strongest a)) 0) (other_than p) (strongest a)

    general_in : s < 3
    general_in = pick_lt (eqb (a (strongest a)) 0) (other_than p) (strongest a) 3 (other_lt p) (strongest_lt a)

    go : (c : Bool) → eqb p s ≡ c → s ≢ pick c (other_than s) p
    go true e q = other_apart s (sym q)
    go false e q = eqb-false p s e (sym q)

pub roles_proper : (g : Geometry) (v : Device) (d : ℕ) → Proper (roles g v d)
unfolding roles_in
roles_proper g v d = roles_by_proper (λ y. strength g d false y (v d y).sectors) (λ y. strength g d true y (v d y).sectors)

-- after an emptying too
proper_sum : (r : Roles) → Proper r → r.general + r.parity + r.spare ≡ 3
proper_sum r p = omega (arith, p.general_lt, p.parity_lt, p.apart, p.spare_is)

emptied_proper : (par : Bool) (r : Roles) → Proper r → Proper (emptied_roles par r)
emptied_proper false r p =
    let q = proper_sum r p in
    record { general_lt = omega (arith, q, p.general_lt, p.parity_lt, p.apart); parity_lt = p.parity_lt; apart = λ e. p.apart (omega (arith, q, e, p.general_lt, p.parity_lt)); spare_is = omega (arith, q) }
emptied_proper true r p =
    let q = proper_sum r p in
    record { general_lt = p.general_lt; parity_lt = omega (arith, q, p.general_lt, p.parity_lt, p.apart); apart = λ e. p.apart (omega (arith, q, e, p.general_lt, p.parity_lt)); spare_is = omega (arith, q) }

pub roles_after_proper : (par : Bool) (emptied : ℕ → Bool) (r : ℕ → Roles) → ((d : ℕ) → Proper (r d)) → (d : ℕ) → Proper (roles_after par emptied r d)
roles_after_proper par emptied r proper d = go (emptied d)
  where
    go : (b : Bool) → Proper (pick b (emptied_roles par (r d)) (r d))
    go true = emptied_proper par (r d) (proper d)
    go false = proper d

-- ---- digits of four bits
weight : (d : ℕ) → 2 ^ (4 * suc d) ≡ 16 * 2 ^ (4 * d)
weight d = let e : 4 * suc d ≡ 4 + 4 * d = omega arith in rw e (pow-add 2 4 (4 * d))

weights : (d k : ℕ) → 2 ^ (4 * (d + suc k)) ≡ 2 ^ (4 * k) * 16 * 2 ^ (4 * d)
weights d k =
    let e : 4 * (d + suc k) ≡ 4 * k + 4 + 4 * d = omega arith in
    rw e (pow-add 2 (4 * k + 4) (4 * d) ∙ rw (pow-add 2 (4 * k) 4) refl)

module _ (f : ℕ → ℕ) (small : (k : ℕ) → f k < 16) where
  digits_below : (n : ℕ) → sum_below (λ k. f k * 2 ^ (4 * k)) n < 2 ^ (4 * n)
  digits_below zero = omega arith
  digits_below (suc n) =
      let h : suc (f n) * 2 ^ (4 * n) ≤ 16 * 2 ^ (4 * n) = mul-le-mul_right (2 ^ (4 * n)) (small n) in
      rw (weight n) (omega (arith, h, digits_below n))

  digit_of : (n d : ℕ) → d < n → sum_below (λ k. f k * 2 ^ (4 * k)) n / 2 ^ (4 * d) % 16 ≡ f d
  digit_of zero d h = absurd (not-suc-le-zero h)
  digit_of (suc n) d h = go (ℕ_discrete d n) (λ k. digit_of n d k)
    where
      S : ℕ
      S = sum_below (λ k. f k * 2 ^ (4 * k)) n

      go : Dec (d ≡ n) → (d < n → S / 2 ^ (4 * d) % 16 ≡ f d) → (S + f n * 2 ^ (4 * n)) / 2 ^ (4 * d) % 16 ≡ f d
      go (yes e) ih =
          let q : (S + f n * 2 ^ (4 * n)) / 2 ^ (4 * n) ≡ f n = rw (add_comm S (f n * 2 ^ (4 * n))) (digits_div (f n) (digits_below n)) in
          rw (e, q) (mod-eq_of_lt (small n))
      go (no e) ih =
          let k : ℕ = n - suc d in
          let m : n ≡ d + suc k = omega arith in
          let w : f n * 2 ^ (4 * n) ≡ f n * 2 ^ (4 * k) * 16 * 2 ^ (4 * d) = ap (λ (x : ℕ). f n * 2 ^ (4 * x)) m ∙ ap (λ (x : ℕ). f n * x) (weights d k) ∙ omega arith in
          let q : (S + f n * 2 ^ (4 * n)) / 2 ^ (4 * d) ≡ f n * 2 ^ (4 * k) * 16 + S / 2 ^ (4 * d) = ap (λ (x : ℕ). (S + x) / 2 ^ (4 * d)) w ∙ add-mul-div_right S (f n * 2 ^ (4 * k) * 16) (pow_pos (4 * d)) ∙ add_comm (S / 2 ^ (4 * d)) (f n * 2 ^ (4 * k) * 16) in
          ap (λ (x : ℕ). x % 16) q ∙ mul-add-mod_self_right (f n * 2 ^ (4 * k)) 16 (S / 2 ^ (4 * d)) ∙ ih (omega arith)

  -- eight of them fit in 32 bits
  pub digits_small : (n : ℕ) → n ≤ 8 → sum_below (λ k. f k * 2 ^ (4 * k)) n < 4294967296
  digits_small n h = le_trans (digits_below n) (pow_mono {i = 4 * n} {j = 32} (omega arith))

pub logs_small : (r : ℕ → Roles) → ((d : ℕ) → Proper (r d)) → (n : ℕ) → n ≤ 8 → logs_of r n < 4294967296
logs_small r proper n h = digits_small (λ d. bits_of (r d)) (λ d. omega (arith, (proper d).general_lt, (proper d).parity_lt)) n h

-- ---- where a zone lies
proper_said : (r : Roles) → Proper r → unsaid r.general r.parity ≡ false
proper_said r p = rw (le-ltb 2 r.general (omega (arith, p.general_lt)), le-ltb 2 r.parity (omega (arith, p.parity_lt)), ne_eqb r.general r.parity p.apart) refl

moved_by_role : (r : Roles) → Proper r → (z : ℕ) → moved_zone r.general r.parity z ≡ zone_of_role r z
moved_by_role r p zero = refl
moved_by_role r p (suc zero) = refl
moved_by_role r p (suc (suc zero)) = sym p.spare_is
moved_by_role r p (suc (suc (suc z))) = refl

pub role_of_other : (r : Roles) (z : ℕ) → 3 ≤ z → zone_of_role r z ≡ z
role_of_other r zero h = absurd (omega (arith, h))
role_of_other r (suc zero) h = absurd (omega (arith, h))
role_of_other r (suc (suc zero)) h = absurd (omega (arith, h))
role_of_other r (suc (suc (suc z))) h = refl

-- logs at their first places
pub zone_at_first : (g : Geometry) → g.logs ≡ 0 → (d z : ℕ) → zone_place g d z ≡ z
unfolding zone_place
zone_at_first g e d z =
    let q : g.logs / 2 ^ (4 * d) ≡ 0 = rw e (div-eq_of_lt (pow_pos (4 * d))) in
    rw q (sym (log_place_unsaid 0 0 z refl))

module _ (g : Geometry) (r : ℕ → Roles) (proper : (d : ℕ) → Proper (r d)) (d : ℕ) (hd : d < g.drives) where
  bits_are : log_bits (with_roles g r) d ≡ bits_of (r d)
  bits_are = digit_of (λ k. bits_of (r k)) (λ k. omega (arith, (proper k).general_lt, (proper k).parity_lt)) g.drives d hd

  pub zone_by_role : (z : ℕ) → zone_place (with_roles g r) d z ≡ zone_of_role (r d) z
  unfolding zone_place
  zone_by_role z =
      let a : bits_of (r d) % 4 ≡ (r d).general = omega (arith, (proper d).general_lt) in
      let b : bits_of (r d) / 4 ≡ (r d).parity = omega (arith, (proper d).general_lt) in
      rw (bits_are, a, b) (sym (log_place_said (r d).general (r d).parity z (proper_said (r d) (proper d))) ∙ moved_by_role (r d) (proper d) z)

-- ---- the tables read by it
-- a sector appended at a cell
abbrev appended_at : Geometry → ℕ → List ℕ → Tables → Tables
appended_at g k s t = pick (ltb (get_or t.written k 0) g.capacity)
    (record { sectors = overlay t.sectors ((k * g.capacity + get_or t.written k 0) * g.sector) s; written = set t.written k (get_or t.written k 0 + 1); durable = t.durable }) t

-- every store is on a drive of the geometry
abbrev pub OnDrives : Geometry → List Store → Type 0
OnDrives g [] = Unit {0}
OnDrives g (x ∷ xs) = (store_drive x < g.drives) × OnDrives g xs

placed_drive_lem : (g : Geometry) (x : Store) → Placed g x → store_drive x < g.drives
placed_drive_lem g (append d z s) p = p.0
placed_drive_lem g (reset d z) p = p.0
placed_drive_lem g (flush d) p = p

pub placed_on_drives : (g : Geometry) (xs : List Store) → AllPlaced g xs → OnDrives g xs
placed_on_drives g [] p = tt
placed_on_drives g (x ∷ xs) p = (placed_drive_lem g x p.0, placed_on_drives g xs p.1)

-- ---- stores whose cells, by a geometry with these logs, are those of the roles
abbrev pub CellAt : Geometry → ℕ → (ℕ → Roles) → Store → Type 0
CellAt g n r (append d z s) = cell (with_logs g n) d z ≡ cell g d (zone_of_role (r d) z)
CellAt g n r (reset d z) = cell (with_logs g n) d z ≡ cell g d (zone_of_role (r d) z)
CellAt g n r (flush d) = Unit {0}

abbrev pub CellsAt : Geometry → ℕ → (ℕ → Roles) → List Store → Type 0
CellsAt g n r [] = Unit {0}
CellsAt g n r (x ∷ xs) = CellAt g n r x × CellsAt g n r xs

module _ (g : Geometry) (n : ℕ) (r : ℕ → Roles) where
  -- A STORE made by it is the carried store
  store_at : (x : Store) (t : Tables) → CellAt g n r x → make_store (with_logs g n) x t ≡ make_store g (carry (placed_by r) x) t
  unfolding sectors_after_append written_after_append pointers_after_reset durable_after_flush
  store_at (append d z s) t h = ap (λ (k : ℕ). appended_at g k s t) h
  store_at (reset d z) t h = ap (λ (k : ℕ). tables_of t.sectors (set t.written k 0) (set t.durable k 0)) h
  store_at (flush d) t h = refl

  pub run_at : (k : ℕ) (xs : List Store) (t : Tables) → CellsAt g n r xs → run_stores (with_logs g n) k xs t ≡ run_stores g k (map (carry (placed_by r)) xs) t
  run_at k [] t h = refl
  run_at zero (x ∷ xs) t h = refl
  run_at (suc k) (x ∷ xs) t h = run_at k xs (make_store (with_logs g n) x t) h.1 ∙ ap (λ (u : Tables). run_stores g k (map (carry (placed_by r)) xs) u) (store_at x t h.0)

module _ (g : Geometry) (first : g.logs ≡ 0) (r : ℕ → Roles) (proper : (d : ℕ) → Proper (r d)) where
  pub cell_by_role : (d z : ℕ) → d < g.drives → cell (with_roles g r) d z ≡ cell g d (zone_of_role (r d) z)
  cell_by_role d z hd = ap (λ (p : ℕ). first_cell g d + p) (zone_by_role g r proper d hd z ∙ sym (zone_at_first g first d (zone_of_role (r d) z)))

  zone_alike : (t : Tables) (k : ℕ) → zone_at_cell (with_roles g r) t k ≡ zone_at_cell g t k
  unfolding zone_at_cell
  zone_alike t k = refl

  -- THE DEVICE read by it is the device by these roles
  pub device_by_roles : (t : Tables) → device_of (with_roles g r) t ≡ through (placed_by r) (device_of g t)
  device_by_roles t = fun_ext λ d. fun_ext λ z. go d z (dec_lt d g.drives) (dec_lt z (physical_zones g))
    where
      go : (d z : ℕ) → Dec (d < g.drives) → Dec (z < physical_zones g) → device_of (with_roles g r) t d z ≡ device_of g t d (zone_of_role (r d) z)
      go d z (yes hd) (yes hz) =
          let h : zone_of_role (r d) z < physical_zones g = rw (zone_by_role g r proper d hd z) at (place_in (with_roles g r) d z hz) in
          device_in_lem (with_roles g r) t d z hd hz ∙ zone_alike t (cell (with_roles g r) d z) ∙ ap (zone_at_cell g t) (cell_by_role d z hd)
          ∙ sym (device_in_lem g t d (zone_of_role (r d) z) hd h)
      go d z (yes hd) (no hz) =
          let q : ltb d g.drives && ltb z (physical_zones g) ≡ false = rw (lt-ltb d g.drives hd, le-ltb z (physical_zones g) (omega arith)) refl in
          rw (role_of_other (r d) z (omega arith)) (device_outside (with_roles g r) t d z q ∙ sym (device_outside g t d z q))
      go d z (no hd) hz =
          let q : (y : ℕ) → ltb d g.drives && ltb y (physical_zones g) ≡ false = λ y. rw (le-ltb d g.drives (omega arith)) refl in
          device_outside (with_roles g r) t d z (q z) ∙ sym (device_outside g t d (zone_of_role (r d) z) (q (zone_of_role (r d) z)))

  -- and so are the cells of stores on the volume's drives
  cell_at : (x : Store) → store_drive x < g.drives → CellAt g (logs_of r g.drives) r x
  cell_at (append d z s) h = cell_by_role d z h
  cell_at (reset d z) h = cell_by_role d z h
  cell_at (flush d) h = tt

  pub cells_at : (xs : List Store) → OnDrives g xs → CellsAt g (logs_of r g.drives) r xs
  cells_at [] h = tt
  cells_at (x ∷ xs) h = (cell_at x h.0, cells_at xs h.1)

-- ---- one drive's parity log placed alone
pub parity_placed_lem : (g : Geometry) (d p : ℕ) → p < 3 → zone_place (with_parity g d p) d 1 ≡ p
unfolding zone_place
parity_placed_lem g d p h =
    let small : other_than p + 4 * p < 16 = omega (arith, h, other_lt p) in
    let bits : log_bits (with_parity g d p) d ≡ other_than p + 4 * p = ap (λ (x : ℕ). x % 16) (mul-div_cancel (other_than p + 4 * p) (pow_pos (4 * d))) ∙ mod-eq_of_lt small in
    ap (λ (b : ℕ). log_place (b % 4) (b / 4) 1) bits ∙ go p h
  where
    go : (p : ℕ) → p < 3 → log_place ((other_than p + 4 * p) % 4) ((other_than p + 4 * p) / 4) 1 ≡ p
    go zero h = sym (log_place_said 1 0 1 refl)
    go (suc zero) h = sym (log_place_said 0 1 1 refl)
    go (suc (suc zero)) h = sym (log_place_said 0 2 1 refl)
    go (suc (suc (suc p))) h = absurd (omega (arith, h))
