-- Under the invariant what the drives not lost show fits the ledger: a Live zone its content, a Dying one by being empty. And between finished
-- calls rule 4 gives every sector of a content.
use Rattle.std.specs.Prelude.{◌≡◌, ◌⊎◌, ℕ, ◌≤◌, ◌<◌, ◌-◌, length, true, not}
use Rattle.std.proofs.Common.{◌∙◌, ap, inl, inr, zero-le, arith}
use Rattle.tables.specs.meaning.Device.{Device}
use Rattle.tables.specs.laws.Lists.{prefix_length}
use Rattle.tables.specs.declared.Geometry.{Geometry}
use Rattle.tables.specs.meaning.Geometry.{Valid, zone_sectors}
use Rattle.tables.specs.meaning.Drives.{present_but}
use Rattle.volume.specs.meaning.Content.{at}
use Rattle.volume.specs.meaning.Rules.{showing, zone_shown, value_at, seal_limit, known, zone_view}
use Rattle.volume.specs.declared.Condition.{Condition}
use Rattle.volume.specs.declared.Condition.TheVariants.{Empty, Open, Sealed, Worn}
use Rattle.volume.specs.meaning.State.{StateView}
use Rattle.promise.specs.meaning.Ledger.{Ledger, FitsZone, Fits}
use Rattle.promise.proofs.invariant.Invariant.{Ghost, LogsOk, Live, Dying, Rest, Plain, RestZone, Shape, Inv}
use Rattle.promise.proofs.look.LookLive.{live_fits, limit_least, knows_least, knows_value, content_is_laid, limit_committed}
use Rattle.promise.proofs.look.LookDying.{dying_fits}
use Rattle.tables.specs.laws.Greatest.{greatest_all}

pub zone_fits : (g : Geometry) → Valid g → (x : ℕ) (v : Device) (γ : Ghost) → LogsOk g x v γ → (l : Ledger) (z : ℕ) → z < g.zones → Live g x v γ l z ⊎ Dying g x v γ l z → FitsZone l z (zone_shown g (present_but g x) v z)
zone_fits g ok x v γ lg l z h (inl lv) = live_fits g ok x v γ lg l z lv h
zone_fits g ok x v γ lg l z h (inr dy) = dying_fits g ok x v γ lg l z dy

pub look_fits : (g : Geometry) → Valid g → (x : ℕ) (v : Device) (l : Ledger) → (γ : Ghost) × Inv g x v l γ → Fits g l (showing g (present_but g x) x v)
unfolding showing
look_fits g ok x v l (γ, i) = λ z h. zone_fits g ok x v γ i.logs l z h (i.zones z h)

-- ---- between finished calls
module _ (g : Geometry) (ok : Valid g) (x : ℕ) (v : Device) (state : StateView) (l : Ledger) (γ : Ghost) (r : Rest g x v state l γ) where
  -- no seal is below the pointer
  pub reaches : (z : ℕ) → z < g.zones → length (l.content z) ≤ seal_limit g (present_but g x) v z (γ.generation z)
  reaches z h = go (state.condition z) q.shape
    where
      q : RestZone g x v state l γ z
      q = r.zones z h

      plain : Plain g x v γ l z → length (l.content z) ≤ seal_limit g (present_but g x) v z (γ.generation z)
      plain p = limit_least g ok x v γ r.logs z (γ.generation z) (length (l.content z)) (omega (arith, prefix_length q.live.front, q.live.fits)) (λ d b c m. absurd (p.no_seal d b c m))

      go : (c : Condition) → Shape g x v γ l z c → length (l.content z) ≤ seal_limit g (present_but g x) v z (γ.generation z)
      go Empty s = plain s
      go (Open n) s = plain s
      go (Sealed n) s = rw (← s.2) (limit_committed g ok x v γ r.logs l z q.live)
      go (Worn n) s =
          let e : length (γ.laid z) ≡ 0 = ap length (q.live.worn_empty s).0 in
          let n : length (l.content z) ≡ 0 = omega (arith, prefix_length q.live.front, e) in
          rw n zero-le

  -- every sector of the content is known, and its value is the content's
  pub rest_known : (z : ℕ) → z < g.zones → (a : ℕ) → a < length (l.content z)
      → (known g.drives g.unit z (zone_view g (present_but g x) v z (state.generation z)) a ≡ true) × (value_at g (present_but g x) v z (state.generation z) a ≡ at (l.content z) a)
  rest_known z h a k =
      let q = r.zones z h in
      let m = knows_least g ok x v γ r.logs l z q.live (length (l.content z)) q.strong_now (reaches z h) in
      rw (← q.generation_is) (
        greatest_all (known g.drives g.unit z (zone_view g (present_but g x) v z (γ.generation z))) (zone_sectors g) a (omega (arith, m)),
        (knows_value g ok x v γ r.logs l z q.live a (omega (arith, m))).0 ∙ content_is_laid g ok x v γ r.logs l z q.live a k,
      )
