-- The state that the drives show, as the code makes it (src/looking.rt, src/shares.rt): by where the logs lie and the written pointers. By both it is that of
-- the rules (`seen_state`).
use Rattle.std.specs.Prelude.{◌≡◌, Bool, not, List}
use Rattle.std.proofs.Common.{sym, ◌∙◌, arith}
use Rattle.std.proofs.Math.Path.{ap, ap₂, fun_ext}
use Rattle.std.proofs.Math.Bool.{true}
use Prim.Native.Nat.{ℕ, ◌-◌, ◌/◌, ◌<◌}
use Rattle.std.proofs.Math.Dec.{eqb}
use Rattle.tables.specs.declared.Geometry.{Geometry}
use Rattle.tables.specs.meaning.Basics.{pick}
use Rattle.tables.specs.meaning.Drives.{find_below}
use Rattle.tables.specs.meaning.Device.{Device}
use Rattle.tables.specs.meaning.Tables.{tables_of, device_of}
use Rattle.logs.specs.meaning.Entry.{parity_zone}
use Rattle.volume.specs.declared.State.{State}
use Rattle.volume.specs.declared.roles.LogPlaces.{LogPlaces}
use Rattle.volume.specs.meaning.State.{hosts, with_shares}
use Rattle.volume.specs.meaning.Rules.{Shown, showing}
use Rattle.volume.specs.meaning.Roles.{Roles, claim_of_kind}
use Rattle.volume.specs.meaning.Emptying.{unused_in}
use Rattle.volume.specs.meaning.Hosts.{half_past, shares_by, shares_in}
use Rattle.volume.specs.meaning.Mount.{mount_state, shown_state}
use Rattle.volume.specs.meaning.CallContracts.{is_set, roles_of, seen_in, state_held}
use Rattle.volume.specs.laws.Depends.{pick_same}
use Rattle.volume.specs.laws.RulesUnread.{showing_alike}
use Rattle.volume.specs.checks.LogRoom.{SeenByRoles, placed_capacity, kind_lacks_is, seen_roles, seen_length}
use Rattle.volume.specs.looking.DriveLogs.{zone_pointer}
use Rattle.volume.specs.looking.Knowing.{read_device}
use Rattle.volume.specs.looking.Looking.{shown_read}
use Rattle.volume.specs.looking.SeenByRoles.{Seen, seen_geometry, seen_read}

-- ---- the hosts' shares
-- what drive d's parity log has unused; nothing where the drive lacks one
abbrev pub parity_unused : LogPlaces → List ℕ → ℕ → ℕ
parity_unused p ps d = pick (is_set p.no_parity d) 0 (p.geometry.capacity - zone_pointer p.geometry ps d parity_zone)

-- a host's share of it
abbrev pub share_on : LogPlaces → Bool → List ℕ → ℕ → ℕ
share_on p here ps d = pick here (half_past p.geometry (parity_unused p ps d)) 0

-- those of the drives that are here
abbrev pub shares_on : LogPlaces → List Bool → List ℕ → ℕ → ℕ
shares_on p here ps i = share_on p (is_set here (i / hosts)) ps (i / hosts)

-- no other drive is here than those of the volume
abbrev pub HereBelow : Geometry → List Bool → Type 0
HereBelow g here = (d : ℕ) → is_set here d ≡ true → d < g.drives

-- ---- the state
abbrev pub state_seen : LogPlaces → List Bool → List ℕ → List ℕ → State
state_seen p here xs ps =
    state_held p.geometry.zones
    (with_shares (shares_on p here ps) (mount_state (showing p.geometry (is_set here) (find_below (λ (d : ℕ). not (is_set here d)) p.geometry.drives) (read_device p.geometry xs ps))))

-- ==== by the rules
module _ (g : Geometry) (xs ws : List ℕ) (p : LogPlaces) (ps : List ℕ) (s : Seen g xs ws p ps) (ds : List ℕ) where
  by_roles_lem : SeenByRoles g p xs ws ps
  by_roles_lem = record { sized = s.sized; logs_first = s.first; places_are = s.places; hidden = s.hidden }

  pub unused_seen : (d : ℕ) → d < g.drives → parity_unused p ps d ≡ unused_in g true (roles_of g (tables_of xs ws ds)) (seen_in g (tables_of xs ws ds)) d
  unfolding unused_in
  unused_seen d hd =
      ap₂ (λ (b : Bool) (n : ℕ). pick b 0 n)
      (kind_lacks_is g p xs ws ps by_roles_lem true d hd ∙ ap (λ (f : ℕ → Roles). eqb (claim_of_kind true (f d)) 0) (seen_roles g p xs ws ps by_roles_lem ds))
      (ap₂ (λ (m n : ℕ). m - n) (placed_capacity g p xs ws ps by_roles_lem) (seen_length g p xs ws ps by_roles_lem ds d parity_zone hd (omega arith)))

  -- a share does not depend on where the logs lie
  half_alike : (n : ℕ) → half_past p.geometry n ≡ half_past g n
  half_alike n = ap (λ (h : Geometry). half_past h n) (seen_geometry g xs ws p ps s)

  module _ (here : List Bool) (below : HereBelow p.geometry here) where
    drives_are : p.geometry.drives ≡ g.drives
    drives_are = ap (λ (h : Geometry). h.drives) (seen_geometry g xs ws p ps s)

    shares_seen : (i : ℕ) → shares_on p here ps i ≡ shares_in g (is_set here) (device_of g (tables_of xs ws ds)) i
    unfolding shares_by
    shares_seen i =
        let d = i / hosts in
        let unused = unused_in g true (roles_of g (tables_of xs ws ds)) (seen_in g (tables_of xs ws ds)) d in
        pick_same (is_set here d) (half_past p.geometry (parity_unused p ps d)) (half_past g unused) 0
        (λ e. half_alike (parity_unused p ps d) ∙ ap (half_past g) (unused_seen d (omega (arith, below d e, drives_are))))

    abbrev lost : Geometry → ℕ
    lost h = find_below (λ (d : ℕ). not (is_set here d)) h.drives

    shown_seen : showing p.geometry (is_set here) (lost p.geometry) (read_device p.geometry xs ps) ≡ showing g (is_set here) (lost g) (seen_in g (tables_of xs ws ds))
    shown_seen =
        let x = lost p.geometry in
        sym (seen_read g xs ws p ps s (λ (h : Geometry) (v : Device). showing h (is_set here) x v) (λ n v. showing_alike g n (is_set here) x v) ds (shown_read p.geometry xs ps ds (is_set here) x))
        ∙ ap (λ (h : Geometry). showing g (is_set here) (lost h) (seen_in g (tables_of xs ws ds))) (seen_geometry g xs ws p ps s)

    -- THE STATE IS THAT OF THE DEVICE, whatever is durable of it
    pub seen_state : state_seen p here xs ps ≡ state_held g.zones (shown_state g (is_set here) (lost g) (device_of g (tables_of xs ws ds)))
    seen_state =
        ap₂ (λ (f : ℕ → ℕ) (k : Shown). state_held p.geometry.zones (with_shares f (mount_state k))) (fun_ext shares_seen) shown_seen
        ∙ ap (λ (h : Geometry). state_held h.zones (shown_state g (is_set here) (lost g) (device_of g (tables_of xs ws ds)))) (seen_geometry g xs ws p ps s)
