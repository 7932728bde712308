-- The generations in force: of each zone the greatest that a present drive's last counters give. A look goes by them (rule 2), and between
-- finished calls the state holds them. (Document 02, 2.2: they are what an emptied log's counters say.)
use Rattle.std.specs.Prelude.{◌≡◌, ℕ, zero, ◌≤◌, ◌<◌}
use Rattle.std.proofs.Common.{sym, ◌∙◌, le_of_eq, arith}
use Rattle.std.proofs.Math.Decide.{dec_lt}
use Rattle.tables.specs.meaning.Device.{Device}
use Rattle.tables.specs.meaning.Drives.{present_but}
use Rattle.tables.specs.declared.Geometry.{Geometry}
use Rattle.tables.specs.meaning.Geometry.{Valid}
use Rattle.logs.specs.meaning.Heads.{generation_in}
use Rattle.volume.specs.meaning.State.{StateView}
use Rattle.volume.specs.meaning.Rules.{generation_of}
use Rattle.promise.specs.meaning.Ledger.{Ledger}
use Rattle.promise.proofs.invariant.Invariant.{Ghost, Here, LogsOk, Rest}
use Rattle.promise.proofs.look.LookLive.{some_present, counts_now, generation_least}
use Rattle.promise.proofs.look.LookDying.{generation_some}

pub record InForce (g : Geometry) (x : ℕ) (γ : Ghost) (generation : ℕ → ℕ) : Type 0 where
  pub some : (z : ℕ) → z < g.zones → (d : ℕ) × Here g x d × (generation z ≡ generation_in z (γ.general d))
  pub most : (z d : ℕ) → z < g.zones → Here g x d → generation_in z (γ.general d) ≤ generation z

-- the look's
pub look_in_force : (g : Geometry) → Valid g → (x : ℕ) (v : Device) (γ : Ghost) → LogsOk g x v γ → InForce g x γ (generation_of g (present_but g x) v)
look_in_force g ok x v γ lg = record { some = λ z hz. go z (dec_lt zero (generation_of g (present_but g x) v z)); most = λ z d hz a. generation_least g ok x v γ lg z d a }
  where
    go : (z : ℕ) → Dec (zero < generation_of g (present_but g x) v z) → (d : ℕ) × Here g x d × (generation_of g (present_but g x) v z ≡ generation_in z (γ.general d))
    go z (yes h) = generation_some g ok x v γ lg z zero h
    go z (no h) = let (d, a) = some_present g ok x in (d, a, omega (arith, generation_least g ok x v γ lg z d a, h))

-- the state's
pub rest_in_force : (g : Geometry) → Valid g → (x : ℕ) (v : Device) (state : StateView) (l : Ledger) (γ : Ghost) → Rest g x v state l γ → InForce g x γ state.generation
rest_in_force g ok x v state l γ r = record { some = λ z hz. let (d, a) = some_present g ok x in (d, a, sym (same z d hz a)); most = λ z d hz a. le_of_eq (same z d hz a) }
  where
    same : (z d : ℕ) → z < g.zones → Here g x d → generation_in z (γ.general d) ≡ state.generation z
    same z d hz a = let q = r.zones z hz in counts_now g ok x v γ r.logs z (λ n. n ≡ γ.generation z) q.live.counts d a ∙ q.generation_is
