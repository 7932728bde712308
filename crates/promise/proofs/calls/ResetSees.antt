-- What each place sees of the six phases of a reset of zone z: reset entries, flush, resets, flush, counters, flush.
use Rattle.std.specs.Prelude.{◌≡◌, refl, ◌≢◌, Bool, true, false, ◌&&◌, ℕ, ◌+◌, List, [], ◌∷◌, ◌++◌, map, eqb}
use Rattle.std.proofs.Common.{◌∙◌, arith, eq-eqb, ne_eqb}
use Rattle.tables.specs.meaning.Basics.{pick}
use Rattle.tables.specs.meaning.Below.{each_below}
use Rattle.tables.specs.meaning.Device.{Device, Store, reset}
use Rattle.tables.specs.laws.Local.{LocalStore, append_here, reset_here, flush_here, local_stores}
use Rattle.tables.specs.laws.Phases.{on_present_local, local_phases, each_below_own, each_below_unseen, flush_all_local}
use Rattle.tables.specs.meaning.Phases.{each_on_present, flush_all}
use Rattle.tables.specs.declared.Geometry.{Geometry}
use Rattle.tables.specs.meaning.Geometry.{Valid, data_zone}
use Rattle.logs.specs.meaning.Entry.{general_zone, Header, counters, zone_reset, encode}
use Rattle.tables.specs.meaning.Drives.{present_but}
use Rattle.tables.specs.laws.Drives.{present_below}
use Rattle.volume.specs.meaning.State.{StateView}
use Rattle.promise.proofs.invariant.Obligations.{ResetOk}
use Rattle.volume.specs.meaning.Calls.{logs_reset, append_general, reset_phases}
use Rattle.promise.specs.meaning.Ledger.{Ledger}
use Rattle.promise.proofs.invariant.Invariant.{Ghost, Here, Rest, RestZone}
use Rattle.promise.proofs.calls.ResetStages as stages

module _ (g : Geometry) (ok : Valid g) (x : ℕ) (v : Device) (state : StateView) (l : Ledger) (γ : Ghost) (r : Rest g x v state l γ) (z : ℕ) (rk : ResetOk g (present_but g x) v state z) where
  -- ---- from ResetStages.antt
  general≢ : general_zone ≢ data_zone z
  general≢ = stages.general≢ g ok x v state l γ r z rk

  abbrev bytes : ℕ → List Header → List (List ℕ)
  bytes = stages.bytes g ok x v state l γ r z rk

  abbrev raised_counters : Header
  raised_counters = stages.raised_counters g ok x v state l γ r z rk

  abbrev reset_entries : ℕ → List Header
  reset_entries = stages.reset_entries g ok x v state l γ r z rk

  abbrev reset_entry : Header
  reset_entry = stages.reset_entry g ok x v state l γ r z rk

  here : RestZone g x v state l γ z
  here = stages.here g ok x v state l γ r z rk

  abbrev phase0 : ℕ → List Store
  phase0 k = pick (logs_reset g z k) (append_general g (zone_reset z (state.generation z)) k) []

  abbrev phase2 : ℕ → List Store
  phase2 k = reset k (data_zone z) ∷ []

  abbrev phase3 : ℕ → List Store
  phase3 k = append_general g raised_counters k

  abbrev pub phases : List (List Store)
  phases = each_on_present (present_but g x) (reset_phases g state z)

  log_zone : (d k y : ℕ) (h : Header) → y ≢ general_zone → local_stores d y (append_general g h k) ≡ []
  log_zone d k y h n = go (eqb d k)
    where
      go : (b : Bool) → pick (b && eqb y general_zone) (append_here (encode g k h) ∷ []) [] ++ [] ≡ []
      go true = rw (ne_eqb y general_zone n) refl
      go false = refl

  log_drive : (d k y : ℕ) (h : Header) → d ≢ k → local_stores d y (append_general g h k) ≡ []
  log_drive d k y h n = rw (ne_eqb d k n) refl

  log_own : (d : ℕ) (h : Header) → local_stores d general_zone (append_general g h d) ≡ append_here (encode g d h) ∷ []
  log_own d h = rw (eq-eqb d d refl) refl

  picked : (d y k : ℕ) → local_stores d y (append_general g (zone_reset z (state.generation z)) k) ≡ [] → local_stores d y (phase0 k) ≡ []
  picked d y k e = go (logs_reset g z k)
    where
      go : (b : Bool) → local_stores d y (pick b (append_general g (zone_reset z (state.generation z)) k) []) ≡ []
      go true = e
      go false = refl

  picked_own : (d : ℕ) → local_stores d general_zone (phase0 d) ≡ map append_here (bytes d (reset_entries d))
  picked_own d = go (logs_reset g z d)
    where
      go : (b : Bool) → local_stores d general_zone (pick b (append_general g (zone_reset z (state.generation z)) d) []) ≡ map append_here (bytes d (pick b (reset_entry ∷ []) []))
      go true = log_own d (zone_reset z (state.generation z)) ∙ rw here.generation_is refl
      go false = refl

  reset_zone : (d k y : ℕ) → y ≢ data_zone z → local_stores d y (phase2 k) ≡ []
  reset_zone d k y n = go (eqb d k)
    where
      go : (b : Bool) → pick (b && eqb y (data_zone z)) (reset_here ∷ []) [] ++ [] ≡ []
      go true = rw (ne_eqb y (data_zone z) n) refl
      go false = refl

  abbrev pub table_log : ℕ → List (List LocalStore)
  table_log d = map append_here (bytes d (reset_entries d)) ∷ (flush_here ∷ []) ∷ [] ∷ (flush_here ∷ []) ∷ (append_here (encode g d raised_counters) ∷ []) ∷ (flush_here ∷ []) ∷ []

  abbrev pub table_zone : List (List LocalStore)
  table_zone = [] ∷ (flush_here ∷ []) ∷ (reset_here ∷ []) ∷ (flush_here ∷ []) ∷ [] ∷ (flush_here ∷ []) ∷ []

  abbrev pub table_other : List (List LocalStore)
  table_other = [] ∷ (flush_here ∷ []) ∷ [] ∷ (flush_here ∷ []) ∷ [] ∷ (flush_here ∷ []) ∷ []

  module _ (d : ℕ) (a : Here g x d) where
    six : (y : ℕ) (o p q : List LocalStore) → local_stores d y (each_below phase0 g.drives) ≡ o → local_stores d y (each_below phase2 g.drives) ≡ p → local_stores d y (each_below phase3 g.drives) ≡ q
        → local_phases d y phases ≡ o ∷ (flush_here ∷ []) ∷ p ∷ (flush_here ∷ []) ∷ q ∷ (flush_here ∷ []) ∷ []
    six y o p q e f h =
        rw (
          on_present_local (present_but g x) d y (each_below phase0 g.drives) a,
          on_present_local (present_but g x) d y (flush_all g.drives) a,
          on_present_local (present_but g x) d y (each_below phase2 g.drives) a,
          on_present_local (present_but g x) d y (each_below phase3 g.drives) a,
          flush_all_local d y g.drives (present_below g x d a),
          e,
          f,
          h,
        )
        refl

    pub log_saw : local_phases d general_zone phases ≡ table_log d
    log_saw = six general_zone (map append_here (bytes d (reset_entries d))) [] (append_here (encode g d raised_counters) ∷ [])
        (each_below_own phase0 d general_zone (λ k n. picked d general_zone k (log_drive d k general_zone (zone_reset z (state.generation z)) n)) g.drives (present_below g x d a) ∙ picked_own d)
        (each_below_unseen phase2 d general_zone (λ k. reset_zone d k general_zone general≢) g.drives)
        (each_below_own phase3 d general_zone (λ k n. log_drive d k general_zone raised_counters n) g.drives (present_below g x d a) ∙ log_own d raised_counters)

    pub zone_saw : local_phases d (data_zone z) phases ≡ table_zone
    zone_saw = six (data_zone z) [] (reset_here ∷ []) []
        (each_below_unseen phase0 d (data_zone z) (λ k. picked d (data_zone z) k (log_zone d k (data_zone z) (zone_reset z (state.generation z)) (λ e. omega arith))) g.drives)
        (each_below_own phase2 d (data_zone z) (λ k n. rw (ne_eqb d k n) refl) g.drives (present_below g x d a) ∙ rw (eq-eqb d d refl, eq-eqb (data_zone z) (data_zone z) refl) refl)
        (each_below_unseen phase3 d (data_zone z) (λ k. log_zone d k (data_zone z) raised_counters (λ e. omega arith)) g.drives)

    pub other_saw : (y : ℕ) → y ≢ general_zone → y ≢ data_zone z → local_phases d y phases ≡ table_other
    other_saw y n m = six y [] [] []
        (each_below_unseen phase0 d y (λ k. picked d y k (log_zone d k y (zone_reset z (state.generation z)) n)) g.drives)
        (each_below_unseen phase2 d y (λ k. reset_zone d k y m) g.drives)
        (each_below_unseen phase3 d y (λ k. log_zone d k y raised_counters n) g.drives)
