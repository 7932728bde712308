-- What refusal 14 leaves to an accepted call. Write: the log that gets its entry has the room of its limit. Reset and mount: a present drive's log has the room
-- of the call's limit, or it is emptied; and then the new log leaves that room, both kinds are there, its generation can be raised, and outside a mount the
-- spare is blank. Compact: the same of the drive it names.
use Rattle.std.specs.Prelude.{◌≡◌, Bool, ◌&&◌, ◌||◌, ℕ, ◌+◌, ◌-◌, ◌≤◌, ◌<◌, length, ltb, eqb}
use Rattle.std.proofs.Math.Path.{refl}
use Rattle.std.proofs.Math.Bool.{true, false}
use Rattle.std.proofs.Common.{arith, ltb-false, ne_eqb}
use Rattle.std.proofs.lemmas.Bool.{eqb-false}
use Rattle.tables.specs.declared.Geometry.{Geometry}
use Rattle.tables.specs.meaning.Basics.{pick}
use Rattle.tables.specs.laws.Basics.{and_split, or_none}
use Rattle.tables.specs.laws.Below.{any_below_false}
use Rattle.tables.specs.meaning.Device.{ZoneView, Device}
use Rattle.logs.specs.meaning.Entry.{worn_generation, parity_zone, spare_zone, kind_of_log}
use Rattle.volume.specs.meaning.Content.{inside_stripe, parity_drive_at}
use Rattle.volume.specs.meaning.Rules.{general_heads}
use Rattle.volume.specs.meaning.Roles.{Roles, roles, by_roles, drive_by_roles, seen_as, zone_of_kind, claim_of_kind, lacks_kind}
use Rattle.volume.specs.meaning.Emptying.{InForce, new_general_size, new_parity_size, unused_in, lacks_room, stays_full, spare_written, reserve, mount_general_limit, reset_limit, entry_size, write_limit, emptied_for}
use Rattle.volume.specs.meaning.Refusals.{mount_full, reset_full, write_full, compact_full}
use Rattle.volume.specs.laws.LogPlaces.{role_of_other}

-- ---- a log that is emptied (size: of the new one)
pub record CanEmpty (g : Geometry) (par : Bool) (r : Roles) (limit size : ℕ) : Type 0 where
  pub fits : size + limit ≤ g.capacity
  pub general_there : 1 ≤ r.general_claim
  pub parity_there : 1 ≤ r.parity_claim
  pub raised : claim_of_kind par r ≤ worn_generation

pub can_empty : (g : Geometry) (par : Bool) (r : ℕ → Roles) (limit size d : ℕ) → 1 ≤ limit → stays_full g par r limit size d ≡ false → CanEmpty g par (r d) limit size
unfolding stays_full
can_empty g par r limit size d l e =
    let (a, b) = or_none (ltb (g.capacity - size) limit) (lacks_kind (r d) || ltb worn_generation (claim_of_kind par (r d))) e in
    let (c, h) = or_none (lacks_kind (r d)) (ltb worn_generation (claim_of_kind par (r d))) b in
    let (m, n) = or_none (eqb (r d).general_claim 0) (eqb (r d).parity_claim 0) c in
    record {
      fits = omega (arith, l, ltb-false (g.capacity - size) limit a);
      general_there = let q = eqb-false (r d).general_claim 0 m in omega (arith, q);
      parity_there = let q = eqb-false (r d).parity_claim 0 n in omega (arith, q);
      raised = omega (arith, ltb-false worn_generation (claim_of_kind par (r d)) h);
    }

-- ---- a log that does not lack room: it is there, and has the room
lacks_none : (g : Geometry) (par : Bool) (r : ℕ → Roles) (w : Device) (limit d : ℕ) → 1 ≤ limit → lacks_room g par r w limit d ≡ false
    → (1 ≤ claim_of_kind par (r d)) × (length (w d (kind_of_log par)).sectors + limit ≤ g.capacity)
unfolding unused_in
lacks_none g par r w limit d l e = go (eqb (claim_of_kind par (r d)) 0) refl (ltb-false _ limit e)
  where
    go : (b : Bool) → eqb (claim_of_kind par (r d)) 0 ≡ b → limit ≤ pick b 0 (g.capacity - length (w d (kind_of_log par)).sectors) → (1 ≤ claim_of_kind par (r d)) × (length (w d (kind_of_log par)).sectors + limit ≤ g.capacity)
    go true q h = absurd (omega (arith, l, h))
    go false q h = let n = eqb-false (claim_of_kind par (r d)) 0 q in (omega (arith, n), omega (arith, l, h))

-- one of a present drive that is not emptied
pub has_room_lem : (g : Geometry) (present : ℕ → Bool) (par : Bool) (r : ℕ → Roles) (w : Device) (limit d : ℕ) → 1 ≤ limit → present d ≡ true → emptied_for g present par r w limit d ≡ false
    → (1 ≤ claim_of_kind par (r d)) × (length (w d (kind_of_log par)).sectors + limit ≤ g.capacity)
unfolding emptied_for
has_room_lem g present par r w limit d l p e = lacks_none g par r w limit d l (rw p at e)

-- only logs of present drives are emptied
module _ (g : Geometry) (present : ℕ → Bool) (r : ℕ → Roles) (w : Device) where
  pub emptied_here : (par : Bool) (limit d : ℕ) → emptied_for g present par r w limit d ≡ true → present d ≡ true
  unfolding emptied_for
  emptied_here par limit d e = (and_split (present d) (lacks_room g par r w limit d) e).0

-- ---- what the roles show: a log that is there, the spare, a zone of the volume
pub log_seen : (par : Bool) (r : Roles) (zs : ℕ → ZoneView) → 1 ≤ claim_of_kind par r → seen_as r zs (kind_of_log par) ≡ zs (zone_of_kind par r)
log_seen true r zs h = rw (ne_eqb r.parity_claim 0 (λ e. omega (arith, h, e))) refl
log_seen false r zs h = rw (ne_eqb r.general_claim 0 (λ e. omega (arith, h, e))) refl

pub data_seen : (r : Roles) (zs : ℕ → ZoneView) (y : ℕ) → 3 ≤ y → seen_as r zs y ≡ zs y
data_seen r zs y l = rw (ne_eqb y 0 (λ e. omega (arith, e, l)), ne_eqb y 1 (λ e. omega (arith, e, l)), role_of_other r y l) refl

module _ (g : Geometry) (v : Device) (d : ℕ) where
  pub log_by_roles : (par : Bool) → 1 ≤ claim_of_kind par (roles g v d) → by_roles g v d (kind_of_log par) ≡ v d (zone_of_kind par (roles g v d))
  unfolding drive_by_roles
  log_by_roles par h = log_seen par (roles g v d) (v d) h

  pub spare_by_roles : by_roles g v d spare_zone ≡ v d (roles g v d).spare
  unfolding drive_by_roles
  spare_by_roles = refl

  pub data_by_roles : (y : ℕ) → 3 ≤ y → by_roles g v d y ≡ v d y
  unfolding drive_by_roles
  data_by_roles y l = data_seen (roles g v d) (v d) y l

-- ---- the calls
blank_spare : (w : Device) (d : ℕ) → spare_written w d ≡ false → length (w d spare_zone).sectors ≡ 0
blank_spare w d e = omega (arith, ltb-false 0 (length (w d spare_zone).sectors) e)

-- a write that ends inside a stripe: its entry is within the share; the log that gets it is there, and has the room
pub write_has_room : (g : Geometry) (present : ℕ → Bool) (r : ℕ → Roles) (w : Device) (share z end : ℕ) → write_full g present r w share z end ≡ false → inside_stripe g end ≡ true → present (parity_drive_at g z end) ≡ true
    → (entry_size g end ≤ share) × (1 ≤ claim_of_kind true (r (parity_drive_at g z end))) × (length (w (parity_drive_at g z end) parity_zone).sectors + write_limit g end ≤ g.capacity)
unfolding write_full
write_has_room g present r w share z end e i p =
    let (a, b) = or_none (ltb share (entry_size g end)) (lacks_room g true r w (write_limit g end) (parity_drive_at g z end)) (rw (i, p) at e) in
    let (there, room) = lacks_none g true r w (write_limit g end) (parity_drive_at g z end) (omega arith) b in
    (ltb-false share (entry_size g end) a, there, room)

-- a compact of drive d
pub compact_empties : (g : Geometry) (r : ℕ → Roles) (f : InForce) (w : Device) (d : ℕ) → 1 ≤ g.unit → compact_full g r f w d ≡ false → CanEmpty g true (r d) (reserve g) (new_parity_size g f d) × (length (w d spare_zone).sectors ≡ 0)
unfolding compact_full
compact_empties g r f w d hu e =
    let (a, b) = or_none (stays_full g true r (reserve g) (new_parity_size g f d) d) (spare_written w d) e in
    (can_empty g true r (reserve g) (new_parity_size g f d) d (omega (arith, hu)) a, blank_spare w d b)

module _ (g : Geometry) (present : ℕ → Bool) (r : ℕ → Roles) (f : InForce) (w : Device) where
  pub reset_empties : reset_full g present r f w ≡ false → (d : ℕ) → d < g.drives → emptied_for g present false r w (reset_limit g) d ≡ true
      → CanEmpty g false (r d) (reset_limit g) (new_general_size g f (general_heads g w d)) × (length (w d spare_zone).sectors ≡ 0)
  unfolding reset_full
  reset_empties h d hd e =
      let full = stays_full g false r (reset_limit g) (new_general_size g f (general_heads g w d)) d in
      let (a, b) = or_none full (spare_written w d) (rw e at (any_below_false (λ d. emptied_for g present false r w (reset_limit g) d && (stays_full g false r (reset_limit g) (new_general_size g f (general_heads g w d)) d || spare_written w d)) g.drives d h hd)) in
      (can_empty g false r (reset_limit g) (new_general_size g f (general_heads g w d)) d (omega arith) a, blank_spare w d b)

  pub mount_empties_general : mount_full g present r f w ≡ false → (d : ℕ) → d < g.drives → emptied_for g present false r w (mount_general_limit g) d ≡ true
      → CanEmpty g false (r d) (mount_general_limit g) (new_general_size g f (general_heads g w d))
  unfolding mount_full
  mount_empties_general h d hd e =
      let x = emptied_for g present false r w (mount_general_limit g) d && stays_full g false r (mount_general_limit g) (new_general_size g f (general_heads g w d)) d in
      let y = emptied_for g present true r w (reserve g) d && stays_full g true r (reserve g) (new_parity_size g f d) d in
      let (a, b) = or_none x y (any_below_false (λ d. emptied_for g present false r w (mount_general_limit g) d && stays_full g false r (mount_general_limit g) (new_general_size g f (general_heads g w d)) d
      || (emptied_for g present true r w (reserve g) d && stays_full g true r (reserve g) (new_parity_size g f d) d)) g.drives d h hd) in
      can_empty g false r (mount_general_limit g) (new_general_size g f (general_heads g w d)) d (omega arith) (rw e at a)

  pub mount_empties_parity : 1 ≤ g.unit → mount_full g present r f w ≡ false → (d : ℕ) → d < g.drives → emptied_for g present true r w (reserve g) d ≡ true → CanEmpty g true (r d) (reserve g) (new_parity_size g f d)
  unfolding mount_full
  mount_empties_parity hu h d hd e =
      let x = emptied_for g present false r w (mount_general_limit g) d && stays_full g false r (mount_general_limit g) (new_general_size g f (general_heads g w d)) d in
      let y = emptied_for g present true r w (reserve g) d && stays_full g true r (reserve g) (new_parity_size g f d) d in
      let (a, b) = or_none x y (any_below_false (λ d. emptied_for g present false r w (mount_general_limit g) d && stays_full g false r (mount_general_limit g) (new_general_size g f (general_heads g w d)) d
      || (emptied_for g present true r w (reserve g) d && stays_full g true r (reserve g) (new_parity_size g f d) d)) g.drives d h hd) in
      can_empty g true r (reserve g) (new_parity_size g f d) d (omega (arith, hu)) (rw e at b)
