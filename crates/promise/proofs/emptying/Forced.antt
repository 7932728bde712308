-- The generations in force, said of the device: a look of the present drives goes by them (rule 2).
use Rattle.std.specs.Prelude.{◌≡◌, refl, ◌⊎◌, ℕ, ◌≤◌, ◌<◌}
use Rattle.std.proofs.Common.{◌∙◌, inl, inr, arith}
use Rattle.tables.specs.meaning.Device.{Device}
use Rattle.tables.specs.meaning.Drives.{present_but}
use Rattle.tables.specs.declared.Geometry.{Geometry}
use Rattle.tables.specs.meaning.Geometry.{Valid}
use Rattle.logs.specs.meaning.Entry.{worn_generation}
use Rattle.logs.specs.meaning.Heads.{generation_in}
use Rattle.volume.specs.meaning.State.{StateView}
use Rattle.volume.specs.meaning.Rules.{generation_of, zone_at, zone_shown, showing}
use Rattle.volume.specs.meaning.Emptying.{by_look}
use Rattle.promise.specs.meaning.Ledger.{Ledger}
use Rattle.promise.proofs.invariant.Invariant.{Ghost, Here, LogsOk, Live, Dying, Rest}
use Rattle.promise.proofs.look.LookLive.{generation_most, generation_least, counts_now}
use Rattle.promise.proofs.look.InForce.{InForce, look_in_force, rest_in_force}

abbrev pub Forced : Geometry → ℕ → Device → (ℕ → ℕ) → Type 0
Forced g x w gens = (z : ℕ) → z < g.zones → gens z ≡ generation_of g (present_but g x) w z

module _ (g : Geometry) (ok : Valid g) (x : ℕ) (w : Device) (γ : Ghost) (lg : LogsOk g x w γ) (gens : ℕ → ℕ) where
  pub forced_force : Forced g x w gens → InForce g x γ gens
  forced_force h =
      let q = look_in_force g ok x w γ lg in
      record { some = λ z hz. let (d, a, e) = q.some z hz in (d, a, h z hz ∙ e); most = λ z d hz a. rw (h z hz) (q.most z d hz a) }

  pub force_forced : InForce g x γ gens → Forced g x w gens
  force_forced force z hz =
      let (e, a, q) = force.some z hz in
      let p : generation_of g (present_but g x) w z ≤ gens z = generation_most g ok x w γ lg z (gens z) (λ e a. force.most z e hz a) in
      omega (arith, p, q, generation_least g ok x w γ lg z e a)

  -- no generation passes the last
  pub forced_small : (l : Ledger) → ((z : ℕ) → z < g.zones → Live g x w γ l z ⊎ Dying g x w γ l z) → Forced g x w gens → (z : ℕ) → z < g.zones → gens z ≤ worn_generation
  forced_small l zs h z hz = rw (h z hz) (generation_most g ok x w γ lg z worn_generation (λ e a. go e a (zs z hz)))
    where
      go : (e : ℕ) → Here g x e → Live g x w γ l z ⊎ Dying g x w γ l z → generation_in z (γ.general e) ≤ worn_generation
      go e a (inl k) = rw (counts_now g ok x w γ lg z (λ m. m ≡ γ.generation z) k.counts e a) k.generation_top
      go e a (inr k) = (counts_now g ok x w γ lg z (λ m. (γ.generation z ≤ m) × (m ≤ worn_generation)) k.counts e a).1

-- by a look they are those that it shows; between finished calls the state's
pub look_forced : (g : Geometry) (x : ℕ) (w : Device) → Forced g x w (by_look (showing g (present_but g x) x w)).generation
unfolding showing zone_shown zone_at
look_forced g x w z hz = refl

pub rest_forced : (g : Geometry) → Valid g → (x : ℕ) (w : Device) (state : StateView) (l : Ledger) (γ : Ghost) → Rest g x w state l γ → Forced g x w state.generation
rest_forced g ok x w state l γ r = force_forced g ok x w γ r.logs state.generation (rest_in_force g ok x w state l γ r)
