-- What a stopped and cut call leaves, and a finished one, on the physical device: some generations of the logs, some marks at or above the ledger's, and with
-- them the invariant, respectively rest, of the device by its roles.
use Rattle.std.specs.Prelude.{◌≡◌, refl, ◌⊎◌, ℕ, ◌≤◌, ◌<◌, length}
use Rattle.std.proofs.Common.{sym, ap, ◌∙◌, inl, inr, arith}
use Rattle.tables.specs.meaning.Device.{Device}
use Rattle.tables.specs.meaning.Below.{larger}
use Rattle.tables.specs.laws.Below.{larger_left, larger_right, larger_one}
use Rattle.tables.specs.declared.Geometry.{Geometry}
use Rattle.volume.specs.declared.Condition.{Condition}
use Rattle.volume.specs.declared.Condition.TheVariants.{Empty, Open, Sealed, Worn}
use Rattle.volume.specs.meaning.State.{StateView}
use Rattle.promise.specs.meaning.Ledger.{Ledger, after_flush}
use Rattle.promise.proofs.invariant.Invariant.{Ghost, Live, Dying, Inv, Rest, Plain, Shape, LogGenerations}
use Rattle.promise.proofs.invariant.Obligations.{Invs, Rests}
use Rattle.promise.proofs.device.Marks.{with_marks, MarksAbove}
use Rattle.promise.proofs.roles.RoledCalls.{RoledInvs, RoledRests}

pub record KeptBy (g : Geometry) (x : ℕ) (w : Device) (l : Ledger) : Type 0 where
  pub generations : LogGenerations
  pub marks : ℕ → ℕ
  pub above : MarksAbove l marks
  pub holds : RoledInvs generations g x w (with_marks l marks)

pub record RestsBy (g : Geometry) (x : ℕ) (w : Device) (state : StateView) (l : Ledger) : Type 0 where
  pub generations : LogGenerations
  pub marks : ℕ → ℕ
  pub above : MarksAbove l marks
  pub holds : RoledRests generations g x w state (with_marks l marks)

-- ---- a zone's mark is read for the zones that there are
module _ (g : Geometry) (x : ℕ) (v : Device) (l : Ledger) (m : ℕ → ℕ) (same : (z : ℕ) → z < g.zones → l.committed z ≡ m z) where
  marked_live : (γ : Ghost) (z : ℕ) → z < g.zones → Live g x v γ l z → Live g x v γ (with_marks l m) z
  marked_live γ z hz h = rw (← same z hz) h

  marked_dying : (γ : Ghost) (z : ℕ) → z < g.zones → Dying g x v γ l z → Dying g x v γ (with_marks l m) z
  marked_dying γ z hz h = rw (← same z hz) h

  pub marked_invs : (c : LogGenerations) → Invs c g x v l → Invs c g x v (with_marks l m)
  marked_invs c (γ, i, q) = (γ, record { logs = i.logs; zones = λ z hz. go z hz (i.zones z hz) }, q)
    where
      go : (z : ℕ) → z < g.zones → Live g x v γ l z ⊎ Dying g x v γ l z → Live g x v γ (with_marks l m) z ⊎ Dying g x v γ (with_marks l m) z
      go z hz (inl h) = inl (marked_live γ z hz h)
      go z hz (inr h) = inr (marked_dying γ z hz h)

  pub marked_rests : (c : LogGenerations) (state : StateView) → Rests c g x v state l → Rests c g x v state (with_marks l m)
  marked_rests c state (γ, r, q) = (
    γ,
    record {
      logs = r.logs;
      zones = λ z hz. let k = r.zones z hz in
          record { live = marked_live γ z hz k.live; generation_is = k.generation_is; pointer_is = k.pointer_is; strong_now = k.strong_now; shape = shaped z hz (state.condition z) k.shape; sectors = k.sectors; no_flag = k.no_flag };
      whole = r.whole;
      lost_is = r.lost_is;
    },
    q,
  )
    where
      shaped : (z : ℕ) → z < g.zones → (c : Condition) → Shape g x v γ l z c → Shape g x v γ (with_marks l m) z c
      shaped z hz Empty p = record { all_content = p.all_content; just = p.just; no_seal = p.no_seal; unworn = p.unworn }
      shaped z hz (Open n) p = record { all_content = p.all_content; just = p.just; no_seal = p.no_seal; unworn = p.unworn }
      shaped z hz (Sealed n) p = (p.0, p.1, sym (same z hz) ∙ p.2)
      shaped z hz (Worn n) p = p

-- ---- the marks of a flush that the host was not told of
abbrev pub flush_marks : Ledger → ℕ → ℕ
flush_marks l z = larger (l.committed z) (length (l.content z))

pub flush_above : (l : Ledger) → MarksAbove l (flush_marks l)
flush_above l z = larger_left (l.committed z) (length (l.content z))

pub flush_marks_lem : (l : Ledger) (z : ℕ) → l.committed z ≤ length (l.content z) → length (l.content z) ≡ flush_marks l z
flush_marks_lem l z h = go (larger_one (l.committed z) (length (l.content z)))
  where
    go : (flush_marks l z ≡ l.committed z) ⊎ (flush_marks l z ≡ length (l.content z)) → length (l.content z) ≡ flush_marks l z
    go (inl q) = let r = larger_right (l.committed z) (length (l.content z)) in omega (arith, q, r, h)
    go (inr q) = sym q
