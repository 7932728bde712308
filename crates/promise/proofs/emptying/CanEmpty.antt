-- What an accepted call knows of the emptying of drive d's log of a kind: the new log fits, its generation has room, the spare is empty. It follows from what
-- the refusal "log full" asks.
use Rattle.std.specs.Prelude.{◌≡◌, refl, Bool, true, false, ◌||◌, ℕ, ◌-◌, ◌≤◌, ◌<◌, List, [], ◌∷◌, length, ltb}
use Rattle.std.proofs.Common.{ap, ◌∙◌, sym, arith, ltb-false}
use Rattle.tables.specs.meaning.Device.{Device}
use Rattle.tables.specs.declared.Geometry.{Geometry}
use Rattle.logs.specs.meaning.Entry.{spare_zone, worn_generation}
use Rattle.volume.specs.meaning.Roles.{roles, claim_of_kind, lacks_kind, by_roles, drive_by_roles}
use Rattle.volume.specs.meaning.Emptying.{stays_full, spare_written}

pub record CanEmptyLog (g : Geometry) (par : Bool) (v : Device) (d size : ℕ) : Type 0 where
  pub room : size ≤ g.capacity
  pub top : claim_of_kind par (roles g v d) ≤ worn_generation
  pub blank : (v d (roles g v d).spare).sectors ≡ []

or_neither : (a b : Bool) → a || b ≡ false → (a ≡ false) × (b ≡ false)
or_neither false b e = (refl, e)
or_neither true b e = absurd (let o : ◌≡◌ {A = ℕ} 0 1 = cc in omega arith)

-- the log does not stay full, and nothing is written in the spare
pub can_empty : (g : Geometry) (par : Bool) (v : Device) (limit size d : ℕ) → 0 < limit → stays_full g par (roles g v) limit size d ≡ false → (v d (roles g v d).spare).sectors ≡ [] → CanEmptyLog g par v d size
unfolding stays_full
can_empty g par v limit size d some e blank =
    let (a, b) = or_neither (ltb (g.capacity - size) limit) (lacks_kind (roles g v d) || ltb worn_generation (claim_of_kind par (roles g v d))) e in
    let (p, q) = or_neither (lacks_kind (roles g v d)) (ltb worn_generation (claim_of_kind par (roles g v d))) b in
    record { room = omega (arith, ltb-false (g.capacity - size) limit a, some); top = ltb-false worn_generation (claim_of_kind par (roles g v d)) q; blank = blank }

-- the spare by the roles is the zone of that role
pub spare_seen : (g : Geometry) (v : Device) (d : ℕ) → by_roles g v d spare_zone ≡ v d (roles g v d).spare
unfolding drive_by_roles
spare_seen g v d = refl

none_long : (ss : List (List ℕ)) → ltb 0 (length ss) ≡ false → ss ≡ []
none_long [] e = refl
none_long (s ∷ ss) e = absurd (let k = ltb-false 0 (length (s ∷ ss)) e in omega (arith, k))

pub spare_blank : (g : Geometry) (v : Device) (d : ℕ) → spare_written (by_roles g v) d ≡ false → (v d (roles g v d).spare).sectors ≡ []
spare_blank g v d e = none_long (v d (roles g v d).spare).sectors (ap (λ z. ltb 0 (length z.sectors)) (sym (spare_seen g v d)) ∙ e)
