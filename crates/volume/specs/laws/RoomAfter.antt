-- ROOM AFTER COPYING, on any input. A general log made anew has at most a label, counters, a seal and a reset of each zone and the closing entry; a parity log
-- at most an entry of each zone and the closing entry. So in zones that hold that and a call's limit, refusal 14 of a call that empties is never given for want
-- of room: what is left of it is a log that cannot be emptied, because a kind lacks, its generation is the last one, or (outside a mount) the spare is
-- written. And each host's share of a log made anew has a least size.
use Rattle.std.specs.Prelude.{◌≡◌, refl, Bool, ◌&&◌, ◌||◌, ℕ, zero, suc, ◌+◌, ◌-◌, ◌*◌, ◌/◌, ◌≤◌, min, List, [], ◌∷◌, ◌++◌, length, ltb}
use Rattle.std.proofs.Math.Path.{ap, ap₂}
use Rattle.std.proofs.Math.Bool.{true, false}
use Rattle.std.proofs.Common.{arith, length-append, le-ltb}
use Rattle.tables.specs.declared.Geometry.{Geometry}
use Rattle.tables.specs.meaning.Basics.{pick}
use Rattle.tables.specs.meaning.Below.{any_below, sum_below}
use Rattle.tables.specs.laws.Below.{any_below_cong}
use Rattle.tables.specs.meaning.Device.{Device}
use Rattle.logs.specs.meaning.Entry.{worn_generation, Header, label, counters, zone_reset, partial_parity, seal, closing}
use Rattle.tables.specs.meaning.Lists.{any_of}
use Rattle.tables.specs.meaning.Geometry.{zone_sectors}
use Rattle.logs.specs.meaning.Heads.{is_reset, is_seal, least_seal}
use Rattle.logs.specs.meaning.Copies.{last_label, kept_label, array_for, zonewise, kept_seals, kept_resets, copied_general}
use Rattle.volume.specs.meaning.Content.{fill_of}
use Rattle.volume.specs.meaning.Rules.{general_heads}
use Rattle.volume.specs.meaning.Refusals.{mount_full, reset_full, compact_full}
use Rattle.volume.specs.meaning.Hosts.{half_past}
use Rattle.volume.specs.meaning.Calls.{generations_from}
use Rattle.volume.specs.meaning.Roles.{Roles, claim_of_kind, lacks_kind}
use Rattle.volume.specs.meaning.Emptying.{InForce, is_copied, general_copies, new_general_size, copy_size, new_parity_size, stays_full, spare_written, reserve, mount_general_limit, reset_limit, emptied_for, RoomyGeneral, RoomyParity}

-- ---- how long a log made anew is at most
last_label_most : (f : ℕ → ℕ) (acc hs : List Header) → length acc ≤ 1 → length (last_label f acc hs) ≤ 1
last_label_most f acc [] h = h
last_label_most f acc (label x a ∷ hs) h = last_label_most f (label x (f a) ∷ []) hs (omega arith)
last_label_most f acc (counters cs ∷ hs) h = last_label_most f acc hs h
last_label_most f acc (zone_reset z n ∷ hs) h = last_label_most f acc hs h
last_label_most f acc (partial_parity z s i n ∷ hs) h = last_label_most f acc hs h
last_label_most f acc (seal z p n ∷ hs) h = last_label_most f acc hs h
last_label_most f acc (closing k n ∷ hs) h = last_label_most f acc hs h

zonewise_most : (b : ℕ → Bool) (h : ℕ → Header) (n : ℕ) → length (zonewise b h n) ≤ n
zonewise_most b h zero = omega arith
zonewise_most b h (suc n) =
    let e = length-append (zonewise b h n) (pick (b n) (h n ∷ []) []) in
    omega (arith, e, zonewise_most b h n, one (b n))
  where
    one : (c : Bool) → length (pick c (h n ∷ []) []) ≤ 1
    one true = omega arith
    one false = omega arith

pub new_general_most : (g : Geometry) (f : InForce) (hs : List Header) → new_general_size g f hs ≤ 2 * g.zones + 3
unfolding new_general_size general_copies copied_general
new_general_most g f hs =
    let cs = generations_from f.generation zero g.zones in
    let seals = kept_seals g f.generation hs in
    let resets = kept_resets g f.generation hs in
    let e = length-append (kept_label hs) (counters cs ∷ (seals ++ resets)) in
    let r = length-append seals resets in
    let a = last_label_most (array_for hs) [] hs (omega arith) in
    let b = zonewise_most (λ z. any_of (is_seal z (f.generation z)) hs) (λ z. seal z (least_seal z (f.generation z) (zone_sectors g) hs) (f.generation z)) g.zones in
    let c = zonewise_most (λ z. any_of (is_reset z (f.generation z)) hs) (λ z. zone_reset z (f.generation z)) g.zones in
    omega (arith, e, r, a, b, c)

copy_most : (g : Geometry) (f : InForce) (d z : ℕ) → copy_size g f d z ≤ 1 + g.unit
copy_most g f d z = go (is_copied g f d z)
  where
    go : (b : Bool) → pick b (suc (min (fill_of g (f.pointer z)) g.unit)) 0 ≤ 1 + g.unit
    go true = omega arith
    go false = omega arith

copies_most : (g : Geometry) (f : InForce) (d n : ℕ) → sum_below (copy_size g f d) n ≤ n * (1 + g.unit)
copies_most g f d zero = omega arith
copies_most g f d (suc n) = omega (arith, copies_most g f d n, copy_most g f d n)

pub new_parity_most : (g : Geometry) (f : InForce) (d : ℕ) → new_parity_size g f d ≤ g.zones * (1 + g.unit) + 1
unfolding new_parity_size
new_parity_most g f d = omega (arith, copies_most g f d g.zones)

-- ---- geometries whose logs always have room after copying (RoomyGeneral, RoomyParity)
-- a log that cannot be emptied, whatever its room: a kind lacks, or it has the last generation
abbrev pub cannot_empty : Bool → (ℕ → Roles) → ℕ → Bool
cannot_empty par r d = lacks_kind (r d) || ltb worn_generation (claim_of_kind par (r d))

roomy_stays : (g : Geometry) (par : Bool) (r : ℕ → Roles) (limit size d : ℕ) → limit ≤ g.capacity - size → stays_full g par r limit size d ≡ cannot_empty par r d
unfolding stays_full
roomy_stays g par r limit size d h = rw (le-ltb (g.capacity - size) limit h) refl

module _ (g : Geometry) (r : ℕ → Roles) (f : InForce) where
  module _ (h : RoomyGeneral g) (hs : List Header) (d : ℕ) where
    -- a reset
    pub reset_room_after : reset_limit g ≤ g.capacity - new_general_size g f hs
    reset_room_after = omega (arith, new_general_most g f hs)

    pub reset_stays : stays_full g false r (reset_limit g) (new_general_size g f hs) d ≡ cannot_empty false r d
    reset_stays = roomy_stays g false r (reset_limit g) (new_general_size g f hs) d reset_room_after

    -- a mount
    pub mount_general_room_after : mount_general_limit g ≤ g.capacity - new_general_size g f hs
    mount_general_room_after = omega (arith, new_general_most g f hs)

    pub mount_general_stays : stays_full g false r (mount_general_limit g) (new_general_size g f hs) d ≡ cannot_empty false r d
    mount_general_stays = roomy_stays g false r (mount_general_limit g) (new_general_size g f hs) d mount_general_room_after

  module _ (h : RoomyParity g) (d : ℕ) where
    -- a mount, and a compact
    pub parity_room_after : reserve g ≤ g.capacity - new_parity_size g f d
    parity_room_after = omega (arith, new_parity_most g f d)

    pub parity_stays : stays_full g true r (reserve g) (new_parity_size g f d) d ≡ cannot_empty true r d
    parity_stays = roomy_stays g true r (reserve g) (new_parity_size g f d) d parity_room_after

-- ---- REFUSAL 14 in such geometries: only where a log that lacks room cannot be emptied, or outside a mount its spare is written
module _ (g : Geometry) (present : ℕ → Bool) (r : ℕ → Roles) (f : InForce) (w : Device) where
  pub reset_full_is : RoomyGeneral g → reset_full g present r f w ≡ any_below (λ d. emptied_for g present false r w (reset_limit g) d && (cannot_empty false r d || spare_written w d)) g.drives
  unfolding reset_full
  reset_full_is h = any_below_cong _ _ g.drives (λ d hd. ap (λ (b : Bool). emptied_for g present false r w (reset_limit g) d && (b || spare_written w d)) (reset_stays g r f h (general_heads g w d) d))

  pub mount_full_is : RoomyGeneral g → RoomyParity g
      → mount_full g present r f w ≡ any_below (λ d. emptied_for g present false r w (mount_general_limit g) d && cannot_empty false r d || (emptied_for g present true r w (reserve g) d && cannot_empty true r d)) g.drives
  unfolding mount_full
  mount_full_is h k = any_below_cong _ _ g.drives (λ d hd. ap₂ (λ (a b : Bool). emptied_for g present false r w (mount_general_limit g) d && a || (emptied_for g present true r w (reserve g) d && b)) (mount_general_stays g r f h (general_heads g w d) d) (parity_stays g r f k d))

pub compact_full_is : (g : Geometry) (r : ℕ → Roles) (f : InForce) (w : Device) → RoomyParity g → (d : ℕ) → compact_full g r f w d ≡ cannot_empty true r d || spare_written w d
unfolding compact_full
compact_full_is g r f w h d = ap (λ (b : Bool). b || spare_written w d) (parity_stays g r f h d)

-- ---- SHARES, in any geometry: after a compact each is at least half of what the zone holds past an entry of each zone, twice, the closing entry and one unit
pub compact_share_least : (g : Geometry) (f : InForce) (d : ℕ) → (g.capacity - (1 + 2 * (g.zones * (1 + g.unit)) + g.unit)) / 2 ≤ half_past g (g.capacity - new_parity_size g f d)
compact_share_least g f d =
    let h : g.capacity - (1 + 2 * (g.zones * (1 + g.unit)) + g.unit) ≤ g.capacity - new_parity_size g f d - reserve g = omega (arith, new_parity_most g f d) in
    omega (arith, h)
