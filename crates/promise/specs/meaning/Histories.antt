-- What more than one claim says of a history, beyond the claim itself (Claim.antt): the system after it, what holds at every point of it, and when two looks show the
-- same.
use Rattle.std.specs.Prelude.{◌≡◌, ℕ, ◌<◌, List, [], ◌∷◌}
use Rattle.tables.specs.declared.Geometry.{Geometry}
use Rattle.volume.specs.meaning.Rules.{Shown}
use Rattle.promise.specs.meaning.Claim.{Volume, System, Event, next}

module _ (g : Geometry) (vol : Volume) where
  abbrev pub after_all : System vol → List (Event vol) → System vol
  after_all s [] = s
  after_all s (e ∷ es) = after_all (next g vol s e) es

  -- before each event, and after the last
  abbrev pub AtEveryPoint : (System vol → Type 0) → System vol → List (Event vol) → Type 0
  AtEveryPoint P s [] = P s
  AtEveryPoint P s (e ∷ es) = P s × AtEveryPoint P (next g vol s e) es

-- the same pointers, and the same sectors below them
pub record ShowsAlike (g : Geometry) (k j : Shown) : Type 0 where
  pub pointers : (z : ℕ) → z < g.zones → (j.zone z).pointer ≡ (k.zone z).pointer
  pub sectors : (z : ℕ) → z < g.zones → (a : ℕ) → a < (k.zone z).pointer → (j.zone z).value a ≡ (k.zone z).value a
