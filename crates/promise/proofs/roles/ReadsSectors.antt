-- The rules read sectors, never how many of them are durable: where two devices have the same sectors, roles, looks and what refuses them are the same.
use Rattle.std.specs.Prelude.{◌≡◌, Bool, ◌&&◌, ◌||◌}
use Rattle.std.proofs.Math.Path.{refl, ap, ap₂, sym, fun_ext}
use Rattle.std.proofs.Common.{◌∙◌, ne_eqb, arith}
use Rattle.std.proofs.Math.Bool.{true, false}
use Prim.Native.Nat.{ℕ, zero, suc, min}
use Rattle.std.proofs.Math.Dec.{eqb}
use Rattle.tables.specs.meaning.Basics.{pick}
use Rattle.tables.specs.meaning.Device.{ZoneView, Device}
use Rattle.tables.specs.declared.Geometry.{Geometry}
use Rattle.tables.specs.meaning.Geometry.{zone_sectors, data_zone}
use Rattle.logs.specs.meaning.Heads.{least_seal}
use Rattle.volume.specs.meaning.Rules.{ZoneShown, View, general_heads, general_ending, parity_entries, parity_ending, is_lost, is_present, lost_drive, generation_of, reset_seen, seal_limit, seal_limit_below, serving_entries, view_of, zone_view, value_of, value_at, known_prefix, pointer_at, seal_seen, clean_at, condition_of, zone_at, zone_shown, showing}
use Rattle.volume.specs.meaning.Refusals.{two_lost, bad_labels, bad_logs}
use Rattle.volume.specs.meaning.State.{pointer_in, StateView}
use Rattle.volume.specs.meaning.Emptying.{InForce, by_state, empty_general, empty_parity}
use Rattle.volume.specs.meaning.Roles.{Roles, roles, seen_as, says_nothing, zone_of_role, drive_by_roles, by_roles}

-- the sectors alone
abbrev pub bare : Device → Device
bare v d y = record { sectors = (v d y).sectors; durable = zero }

module _ (g : Geometry) (present : ℕ → Bool) (v : Device) where
  limit_below : (z n k : ℕ) → seal_limit_below g present v z n k ≡ seal_limit_below g present (bare v) z n k
  unfolding general_heads
  limit_below z n zero = refl
  limit_below z n (suc k) = ap (λ (q : ℕ). pick (present k) (least_seal z n q (general_heads g v k)) q) (limit_below z n k)

  limit_bare : (z n : ℕ) → seal_limit g present v z n ≡ seal_limit g present (bare v) z n
  unfolding seal_limit
  limit_bare z n = limit_below z n g.drives

  view_bare : (z n : ℕ) → zone_view g present v z n ≡ zone_view g present (bare v) z n
  unfolding zone_view view_of parity_entries
  view_bare z n = ap (λ (q : ℕ). view_of z present v (λ d. serving_entries g z n q (parity_entries g v d))) (limit_bare z n)

  value_bare : (z n : ℕ) → value_at g present v z n ≡ value_at g present (bare v) z n
  unfolding value_at
  value_bare z n = fun_ext λ a. ap (λ (q : View). value_of g.drives g.unit z q a) (view_bare z n)

  pointer_bare : (z n : ℕ) → pointer_at g present v z n ≡ pointer_at g present (bare v) z n
  unfolding pointer_at reset_seen general_heads
  pointer_bare z n = ap₂ (λ (q : View) (m : ℕ). pick (reset_seen g present v z n) zero (min (known_prefix g.drives g.unit z q (zone_sectors g)) m)) (view_bare z n) (limit_bare z n)

  zone_bare : (z n : ℕ) → zone_at g present v z n ≡ zone_at g present (bare v) z n
  unfolding zone_at reset_seen general_heads clean_at seal_seen parity_entries parity_ending
  zone_bare z n i = record {
    generation = n;
    condition = condition_of n (pointer_bare z n i) (clean_at g present v z n (pointer_bare z n i)) (seal_seen g present v z n);
    pointer = pointer_bare z n i;
    value = value_bare z n i;
    by_reset = reset_seen g present v z n;
    clean = clean_at g present v z n (pointer_bare z n i);
  }

  pub showing_bare : (x : ℕ) → showing g present x v ≡ showing g present x (bare v)
  unfolding showing zone_shown generation_of general_heads
  showing_bare x = ap (λ (f : ℕ → ZoneShown). record { lost = x; array = (showing g present x v).array; zone = f }) (fun_ext λ z. zone_bare z (generation_of g present v z))

  -- ---- what a call stores
  force_bare : (state : StateView) → by_state g present v state ≡ by_state g present (bare v) state
  force_bare state i = record { generation = state.generation; pointer = λ z. pointer_in (state.condition z); value = λ z. value_bare z (state.generation z) i }

  parity_emptying_bare : (r : ℕ → Roles) (emptied : ℕ → Bool) (state : StateView) → empty_parity g present r (by_state g present v state) emptied v ≡ empty_parity g present r (by_state g present (bare v) state) emptied (bare v)
  unfolding empty_parity parity_entries
  parity_emptying_bare r emptied state = ap (λ (f : InForce). empty_parity g present r f emptied v) (force_bare state)

  general_emptying_bare : (r : ℕ → Roles) (emptied : ℕ → Bool) (state : StateView) → empty_general g present r (by_state g present v state) emptied v ≡ empty_general g present r (by_state g present (bare v) state) emptied (bare v)
  unfolding empty_general general_heads
  general_emptying_bare r emptied state = ap (λ (f : InForce). empty_general g present r f emptied v) (force_bare state)

-- ---- two devices with the same sectors
abbrev pub SameSectors : Device → Device → Type 0
SameSectors v w = (d y : ℕ) → (v d y).sectors ≡ (w d y).sectors

pub bare_same : (v w : Device) → SameSectors v w → bare v ≡ bare w
bare_same v w s = fun_ext λ d. fun_ext λ y. λ i. record { sectors = s d y i; durable = zero }

module _ (g : Geometry) (v w : Device) (s : SameSectors v w) where
  abbrev e : bare v ≡ bare w
  e = bare_same v w s

  pub showing_same : (present : ℕ → Bool) (x : ℕ) → showing g present x v ≡ showing g present x w
  showing_same present x = showing_bare g present v x ∙ ap (showing g present x) e ∙ sym (showing_bare g present w x)

  pub present_of_same : (named : ℕ → Bool) → is_present g named v ≡ is_present g named w
  unfolding is_present is_lost general_heads
  present_of_same named = ap (is_present g named) e

  pub lost_of_same : (named : ℕ → Bool) → lost_drive g named v ≡ lost_drive g named w
  unfolding is_lost general_heads
  lost_of_same named = ap (lost_drive g named) e

  pub two_lost_same : (named : ℕ → Bool) → two_lost g named v ≡ two_lost g named w
  unfolding two_lost is_lost general_heads
  two_lost_same named = ap (two_lost g named) e

  pub labels_same : (present : ℕ → Bool) → bad_labels g present v ≡ bad_labels g present w
  unfolding bad_labels general_heads
  labels_same present = ap (bad_labels g present) e

  pub logs_same : (present : ℕ → Bool) → bad_logs g present v ≡ bad_logs g present w
  unfolding bad_logs general_ending parity_ending
  logs_same present = ap (bad_logs g present) e

  pub parity_emptying_same : (present : ℕ → Bool) (r : ℕ → Roles) (emptied : ℕ → Bool) (state : StateView) → empty_parity g present r (by_state g present v state) emptied v ≡ empty_parity g present r (by_state g present w state) emptied w
  parity_emptying_same present r emptied state =
      parity_emptying_bare g present v r emptied state ∙ ap (λ (u : Device). empty_parity g present r (by_state g present u state) emptied u) e ∙ sym (parity_emptying_bare g present w r emptied state)

  pub general_emptying_same : (present : ℕ → Bool) (r : ℕ → Roles) (emptied : ℕ → Bool) (state : StateView) → empty_general g present r (by_state g present v state) emptied v ≡ empty_general g present r (by_state g present w state) emptied w
  general_emptying_same present r emptied state =
      general_emptying_bare g present v r emptied state ∙ ap (λ (u : Device). empty_general g present r (by_state g present u state) emptied u) e ∙ sym (general_emptying_bare g present w r emptied state)

  pub heads_same : (d : ℕ) → general_heads g v d ≡ general_heads g w d
  unfolding general_heads
  heads_same d = ap (λ (u : Device). general_heads g u d) e

  -- the roles, and so the devices by them
  pub roles_same : roles g v ≡ roles g w
  roles_same = ap (roles g) e

  pub by_roles_same : SameSectors (by_roles g v) (by_roles g w)
  unfolding drive_by_roles
  by_roles_same d y = sectors_seen (roles g v d) (v d) ∙ ap (λ (u : Device). (seen_as (roles g v d) (u d) y).sectors) e ∙ ap (λ (r : Roles). (seen_as r (bare w d) y).sectors) (ap (λ (r : ℕ → Roles). r d) roles_same) ∙ sym (sectors_seen (roles g w d) (w d))
    where
      sectors_seen : (r : Roles) (zs : ℕ → ZoneView) → (seen_as r zs y).sectors ≡ (seen_as r (λ t. record { sectors = (zs t).sectors; durable = zero }) y).sectors
      sectors_seen r zs = go (eqb y 0 && eqb r.general_claim 0 || (eqb y 1 && eqb r.parity_claim 0))
        where
          go : (b : Bool) → (pick b (says_nothing (zs (zone_of_role r y))) (zs (zone_of_role r y))).sectors ≡ (pick b (says_nothing (record { sectors = (zs (zone_of_role r y)).sectors; durable = zero })) (record { sectors = (zs (zone_of_role r y)).sectors; durable = zero })).sectors
          go true = refl
          go false = refl

-- a data zone has its place whatever the roles
data_role : (r : Roles) (z : ℕ) → zone_of_role r (data_zone z) ≡ data_zone z
data_role r z = let e : data_zone z ≡ suc (suc (suc z)) = omega arith in rw e refl

pub data_seen : (g : Geometry) (v : Device) (d z : ℕ) → by_roles g v d (data_zone z) ≡ v d (data_zone z)
unfolding drive_by_roles
data_seen g v d z =
    let p : eqb (data_zone z) 0 ≡ false = ne_eqb (data_zone z) 0 (λ q. omega (arith, q)) in
    let q : eqb (data_zone z) 1 ≡ false = ne_eqb (data_zone z) 1 (λ q. omega (arith, q)) in
    rw (p, q, data_role (roles g v d) z) refl
