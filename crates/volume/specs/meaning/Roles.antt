-- Which of a drive's first three zones is its general log, which its parity log, which its spare; and the device by these roles, over which the rules
-- compute. "A zone's first closing entry, in a walk for the kind it names, makes it that log; without one, zone 0 is general, zone 1 parity, of
-- generation 0, and zone 2 spare. Of two logs of a kind the higher generation counts, at a tie the lower zone; a drive lacking a kind ..".
use Rattle.std.specs.Prelude.{Bool, true, false, ◌&&◌, ◌||◌, not, ℕ, zero, suc, ◌+◌, ◌-◌, List, [], map, ltb, leb, eqb}
use Rattle.tables.specs.meaning.Basics.{pick}
use Rattle.tables.specs.meaning.Device.{ZoneView, Device}
use Rattle.tables.specs.declared.Geometry.{Geometry}
use Rattle.logs.specs.meaning.Entry.{Entry, kind_of_log}
use Rattle.logs.specs.meaning.Heads.{first_closing}
use Rattle.logs.specs.meaning.Walk.{walk_log}

-- the generation of the first closing entry met in a walk of these sectors as a log of the kind (par: parity); 0 if none is met
unfoldable pub zone_claim : Geometry → ℕ → Bool → List (List ℕ) → ℕ
zone_claim g d par ss = first_closing (map (λ (e : Entry). e.head) (walk_log g d par ss).entries)

-- zone y as a log of the kind: 0 if it is none, else one above its generation
abbrev pub strength_by : ℕ → ℕ → Bool → ℕ → ℕ
strength_by mine other par y = pick (ltb 0 mine) (suc mine) (pick (ltb 0 other) 0 (pick (eqb y (kind_of_log par)) 1 0))

unfoldable pub strength : Geometry → ℕ → Bool → ℕ → List (List ℕ) → ℕ
strength g d par y ss = strength_by (zone_claim g d par ss) (zone_claim g d (not par) ss) par y

-- the strongest of zones 0 to 2, at a tie the lower
abbrev pub strongest : (ℕ → ℕ) → ℕ
strongest a = pick (leb (a 1) (a 0) && leb (a 2) (a 0)) 0 (pick (leb (a 2) (a 1)) 1 2)

pub record Roles : Type 0 where
  pub general : ℕ
  pub parity : ℕ
  pub spare : ℕ
  pub general_claim : ℕ  -- 0: the drive lacks the kind; else one above the log's generation
  pub parity_claim : ℕ

abbrev pub other_than : ℕ → ℕ
other_than y = pick (eqb y 0) 1 0

-- by the zones' strengths as general logs (a) and as parity logs (b). Where a kind lacks, a zone that is not the other log stands for it, and says nothing.
abbrev pub roles_by : (ℕ → ℕ) → (ℕ → ℕ) → Roles
roles_by a b =
    let p = strongest b in
    let s = pick (eqb (a (strongest a)) 0) (other_than p) (strongest a) in
    let q = pick (eqb p s) (other_than s) p in
    record { general = s; parity = q; spare = 3 - (s + q); general_claim = a (strongest a); parity_claim = b p }

-- of drive d, with zones zs
unfoldable pub roles_in : Geometry → ℕ → (ℕ → List (List ℕ)) → Roles
roles_in g d zs = roles_by (λ y. strength g d false y (zs y)) (λ y. strength g d true y (zs y))

abbrev pub roles : Geometry → Device → ℕ → Roles
roles g v d = roles_in g d (λ y. (v d y).sectors)

-- ---- of the log of a kind: its zone, and whether the drive lacks it
abbrev pub zone_of_kind : Bool → Roles → ℕ
zone_of_kind par r = pick par r.parity r.general

abbrev pub claim_of_kind : Bool → Roles → ℕ
claim_of_kind par r = pick par r.parity_claim r.general_claim

abbrev pub lacks_kind : Roles → Bool
lacks_kind r = eqb r.general_claim 0 || eqb r.parity_claim 0

-- the physical zone of a role
abbrev pub zone_of_role : Roles → ℕ → ℕ
zone_of_role r zero = r.general
zone_of_role r (suc zero) = r.parity
zone_of_role r (suc (suc zero)) = r.spare
zone_of_role r (suc (suc (suc z))) = suc (suc (suc z))

abbrev pub placed_by : (ℕ → Roles) → ℕ → ℕ → ℕ
placed_by r d = zone_of_role (r d)

-- a log that lacks has no sectors
abbrev pub says_nothing : ZoneView → ZoneView
says_nothing z = record { sectors = []; durable = z.durable }

abbrev pub seen_as : Roles → (ℕ → ZoneView) → ℕ → ZoneView
seen_as r zs y = pick (eqb y 0 && eqb r.general_claim 0 || (eqb y 1 && eqb r.parity_claim 0)) (says_nothing (zs (zone_of_role r y))) (zs (zone_of_role r y))

unfoldable pub drive_by_roles : Geometry → ℕ → (ℕ → ZoneView) → ℕ → ZoneView
drive_by_roles g d zs = seen_as (roles_in g d (λ y. (zs y).sectors)) zs

-- THE DEVICE BY ITS ROLES: zone 0 is the counting general log, 1 the counting parity log, 2 the spare
abbrev pub by_roles : Geometry → Device → Device
by_roles g v d = drive_by_roles g d (v d)

-- ---- the roles after an emptying of the log of a kind: the spare is that log, of a generation one higher, and the old zone the spare
abbrev pub emptied_roles : Bool → Roles → Roles
emptied_roles false r = record { general = r.spare; parity = r.parity; spare = r.general; general_claim = suc r.general_claim; parity_claim = r.parity_claim }
emptied_roles true r = record { general = r.general; parity = r.spare; spare = r.parity; general_claim = r.general_claim; parity_claim = suc r.parity_claim }

-- on those drives whose log is emptied
abbrev pub roles_after : Bool → (ℕ → Bool) → (ℕ → Roles) → ℕ → Roles
roles_after par emptied r d = pick (emptied d) (emptied_roles par (r d)) (r d)
