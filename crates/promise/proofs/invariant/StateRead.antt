-- What the invariant between finished calls reads of a state: the drive that is lost, and of each zone its generation and its condition. Owners and shares
-- it does not read, so a state that says the same of the zones will do.
use Rattle.std.proofs.Common.{◌∙◌, ap}
use Rattle.std.specs.Prelude.{ℕ}
use Rattle.tables.specs.meaning.Device.{Device}
use Rattle.tables.specs.declared.Geometry.{Geometry}
use Rattle.volume.specs.meaning.State.{StateView, pointer_in}
use Rattle.promise.specs.meaning.Ledger.{Ledger}
use Rattle.promise.specs.meaning.Claim.{SameZones}
use Rattle.promise.proofs.invariant.Invariant.{Ghost, Names, Rest, LogGenerations}
use Rattle.promise.proofs.invariant.Obligations.{Rests}

module _ (g : Geometry) (x : ℕ) (v : Device) (a b : StateView) (lost : Names x a.lost → Names x b.lost) (same : SameZones g a b) where
  pub read_rest : (l : Ledger) (γ : Ghost) → Rest g x v a l γ → Rest g x v b l γ
  read_rest l γ r = record {
    logs = r.logs;
    zones = λ z h. let q = r.zones z h in record {
      live = q.live;
      generation_is = q.generation_is ∙ same.generations z h;
      pointer_is = q.pointer_is ∙ ap pointer_in (same.conditions z h);
      strong_now = q.strong_now;
      shape = rw (← same.conditions z h) q.shape;
      sectors = rw (← same.conditions z h) q.sectors;
      no_flag = q.no_flag;
    };
    whole = r.whole;
    lost_is = lost r.lost_is;
  }

  pub read_rests : (c : LogGenerations) (l : Ledger) → Rests c g x v a l → Rests c g x v b l
  read_rests c l (γ, r, q) = (γ, read_rest l γ r, q)
