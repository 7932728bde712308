-- Where the logs lie in a mount, by what it found at its start (`Planned`): then, and once general logs are emptied. The code's places are those of the roles.
-- (p: the plan; t: the tables that the mount met; ps: their written pointers without those of logs that lack)
use Rattle.std.specs.Prelude.{◌≡◌, Bool, true, false, ℕ, suc, List, length, eqb}
use Rattle.std.proofs.Common.{sym, ap, ◌∙◌, subst, arith, ne_eqb}
use Rattle.tables.specs.declared.Geometry.{Geometry}
use Rattle.tables.specs.meaning.Basics.{pick}
use Rattle.tables.specs.laws.Basics.{or_none}
use Rattle.tables.specs.meaning.Geometry.{Valid, cells}
use Rattle.tables.specs.meaning.Tables.{Tables, device_of}
use Rattle.volume.specs.declared.log_room.LogRoom.{LogRoom}
use Rattle.volume.specs.declared.roles.LogPlaces.{LogPlaces}
use Rattle.mounting.specs.declared.rooms.Plan.{Plan}
use Rattle.volume.specs.meaning.CallContracts.{is_set, roles_of, seen_in}
use Rattle.volume.specs.meaning.Roles.{Roles, emptied_roles, roles_after}
use Rattle.volume.specs.laws.LogPlaces.{with_roles, logs_of, Proper, roles_proper, roles_after_proper, valid_with_logs}
use Rattle.volume.specs.laws.LogRoom.{emptied_here}
use Rattle.volume.specs.looking.HiddenLogs.{places_of, hidden_all_long}
use Rattle.mounting.specs.MountRooms.{places_after, Rooms, Planned}
use Rattle.mounting.specs.MountBefore.{places_after_lem}
use Rattle.mounting.specs.MountBetween.{middle_places, middle_geometry}
use Rattle.volume.specs.looking.MovedLogs.{is_emptied}

-- ---- a drive that lacks no kind
abbrev pub HasKinds : Roles → Type 0
HasKinds q = (eqb q.general_claim 0 ≡ false) × (eqb q.parity_claim 0 ≡ false)

-- lacks none after an emptying
pub kinds_after : (par b : Bool) (q : Roles) → HasKinds q → HasKinds (pick b (emptied_roles par q) q)
kinds_after true true q h = (h.0, ne_eqb (suc q.parity_claim) 0 (λ i. omega (arith, i)))
kinds_after false true q h = (ne_eqb (suc q.general_claim) 0 (λ i. omega (arith, i)), h.1)
kinds_after par false q h = h

module _ (g : Geometry) (t : Tables) (p : Plan) (ps : List ℕ) (k : Planned g t p ps) where
  -- emptied drives are present
  room_here : (par : Bool) (limit : ℕ) (size : ℕ → ℕ) (x : LogRoom) → Rooms g (is_set p.here) par limit size (roles_of g t) (seen_in g t) x → (d : ℕ) → is_emptied x.emptied d ≡ true → is_set p.here d ≡ true
  room_here par limit size x m d q = emptied_here g (is_set p.here) (roles_of g t) (seen_in g t) par limit d (sym (ap (λ (b : ℕ → Bool). b d) m.emptied_are) ∙ q)

  pub general_here : (d : ℕ) → is_emptied p.general.emptied d ≡ true → is_set p.here d ≡ true
  general_here = room_here false _ _ p.general k.general

  pub parity_here : (d : ℕ) → is_emptied p.parity.emptied d ≡ true → is_set p.here d ≡ true
  parity_here = room_here true _ _ p.parity k.parity

  -- present drives lack no kind
  pub kinds_here : (d : ℕ) → is_set p.here d ≡ true → HasKinds (roles_of g t d)
  kinds_here d h = or_none (eqb (roles_of g t d).general_claim 0) (eqb (roles_of g t d).parity_claim 0) (k.kinds d h)

  -- as many pointers as written ones
  pub planned_long : length ps ≡ cells g
  planned_long = ap length k.hidden ∙ hidden_all_long p.places t.written p.places.geometry.drives ∙ k.sized.written_long

  -- ---- at the start
  pub places_are : p.places.geometry ≡ with_roles g (roles_of g t)
  places_are = ap (λ (q : LogPlaces). q.geometry) k.places

  -- ---- once general logs are emptied
  abbrev pub middle_of : ℕ → Roles
  middle_of = roles_after false (is_emptied p.general.emptied) (roles_of g t)

  pub middle_proper : (d : ℕ) → Proper (middle_of d)
  middle_proper = roles_after_proper false (is_emptied p.general.emptied) (roles_of g t) (roles_proper g (device_of g t))

  pub middle_is : middle_places p ≡ places_of g middle_of
  middle_is =
      ap (λ (q : LogPlaces). places_after q false p.general.emptied) k.places
      ∙ places_after_lem g (roles_of g t) (roles_proper g (device_of g t)) false p.general.emptied (λ d q. kinds_here d (general_here d q))

  pub middle_geometry_lem : middle_geometry p ≡ with_roles g middle_of
  middle_geometry_lem = ap (λ (q : LogPlaces). q.geometry) middle_is

module _ (g : Geometry) (ok : Valid g) (t : Tables) (p : Plan) (ps : List ℕ) (k : Planned g t p ps) where
  pub places_valid : Valid p.places.geometry
  places_valid = subst Valid (sym (places_are g t p ps k)) (valid_with_logs g (logs_of (roles_of g t) g.drives) ok)

  pub middle_valid : Valid (middle_geometry p)
  middle_valid = subst Valid (sym (middle_geometry_lem g t p ps k)) (valid_with_logs g (logs_of (middle_of g t p ps k) g.drives) ok)

  pub middle_cells : cells (middle_geometry p) ≡ cells g
  middle_cells = ap cells (middle_geometry_lem g t p ps k)
