-- A COMPACT of drive d, on the physical device: the emptying of its parity log. Stopped after any number of stores and cut in any way the drives stand in firm
-- roles and the invariant holds by them, with marks at or above the ledger's; finished, all is at rest, the spares are blank if they were, and every drive's
-- parity log is as long as it was, drive d's as long as the new one.
use Rattle.std.specs.Prelude.{◌≡◌, refl, ◌⊎◌, Bool, false, ℕ, ◌<◌, List, length, take, eqb}
use Rattle.std.proofs.Common.{ap, ◌∙◌, inl, inr, eqb-true}
use Rattle.std.proofs.Math.Bool.{true}
use Rattle.std.proofs.Math.Nat.{le_refl}
use Rattle.tables.specs.meaning.Basics.{pick}
use Rattle.tables.specs.meaning.Device.{Device, Store, apply_all, Cut}
use Rattle.tables.specs.meaning.Drives.{present_but}
use Rattle.tables.specs.laws.Drives.{present_below}
use Rattle.tables.specs.declared.Geometry.{Geometry}
use Rattle.tables.specs.meaning.Geometry.{Valid}
use Rattle.logs.specs.meaning.Entry.{parity_zone}
use Rattle.volume.specs.meaning.State.{StateView}
use Rattle.volume.specs.meaning.Rules.{parity_entries}
use Rattle.volume.specs.meaning.Roles.{roles, by_roles}
use Rattle.volume.specs.meaning.Emptying.{InForce, by_state, new_parity_size, empty_parity, compact_stores}
use Rattle.promise.specs.meaning.Ledger.{Ledger, after_flush}
use Rattle.promise.proofs.invariant.Invariant.{Here, LogGenerations, rest_inv}
use Rattle.promise.proofs.roles.RoledCalls.{RoledRests}
use Rattle.promise.proofs.device.Marks.{with_marks}
use Rattle.promise.proofs.emptying.BlankSpares.{BlankSpares, blank_emptied}
use Rattle.promise.proofs.emptying.CopiedParity.{new_log_sectors}
use Rattle.promise.proofs.emptying.EmptyingStops.{Solid}
use Rattle.promise.proofs.emptying.FlushedRests.{sectors_seen, flushed_cut}
use Rattle.promise.proofs.emptying.Marked.{KeptBy, RestsBy, marked_rests, flush_marks, flush_above, flush_marks_lem}
use Rattle.promise.proofs.emptying.ParityAtRest.{ByState, rest_copy_long}
use Rattle.promise.proofs.emptying.ParityRests.{CanEmpty, new_sectors}
use Rattle.promise.proofs.emptying.Emptyings.{Progress}
use Rattle.promise.proofs.emptying.ParityEmptyings.{ParityStopped, in_first_flush, at_rest, parity_emptyings_stopped, parity_emptyings_done}

-- at rest with every content committed, as an emptying leaves it: so with marks at or above the ledger's
pub marked : (g : Geometry) (x : ℕ) (c e : LogGenerations) (v w : Device) (state : StateView) (l : Ledger) → RoledRests c g x v state l → RoledRests e g x w state (after_flush l) → RestsBy g x w state l
marked g x c e v w state l rr (s, r) = record {
  generations = e;
  marks = flush_marks l;
  above = flush_above l;
  holds = (s, marked_rests g x (by_roles g w) (after_flush l) (flush_marks l) (λ y h. flush_marks_lem l y (rr.1.1.zones y h).live.committed_most) e state r);
}

module _ (g : Geometry) (ok : Valid g) (x : ℕ) (c : LogGenerations) (v : Device) (state : StateView) (l : Ledger) (rr : RoledRests c g x v state l) (d : ℕ) where
  -- the copies go by the state
  abbrev pub at_state : InForce
  at_state = by_state g (present_but g x) (by_roles g v) state

  pub by : ByState g (by_state g (present_but g x) (by_roles g v) state) state
  by = record { generations = λ y h. refl; pointers = λ y h. refl }

  -- an accepted compact: the drive is there, and its log can be emptied
  abbrev pub CanCompact : Type 0
  CanCompact = Here g x d × CanEmpty g v d (new_parity_size g (by_state g (present_but g x) (by_roles g v) state) d)

  abbrev pub one : ℕ → Bool
  one e = eqb e d

  module _ (k : CanCompact) where
    pub can : (e : ℕ) → e < g.drives → eqb e d ≡ true → Here g x e × CanEmpty g v e (new_parity_size g (by_state g (present_but g x) (by_roles g v) state) e)
    can e h q = rw (eqb-true e d q) k

    abbrev xs : List Store
    xs = compact_stores g (present_but g x) (roles g v) (by_roles g v) state d

    abbrev u : Device
    u = apply_all xs v

    pub done : Progress g x true v (new_sectors g at_state v) one (λ w. (e : LogGenerations) × RoledRests e g x w state (after_flush l)) g.drives u
    unfolding compact_stores
    done = parity_emptyings_done g ok x c v state l rr at_state by one can

    -- FINISHED
    pub compact_rests : RestsBy g x u state l
    compact_rests = go done.mode
      where
        go : (u ≡ v) ⊎ (Solid g x u × ((e : LogGenerations) × RoledRests e g x u state (after_flush l))) → RestsBy g x u state l
        go (inl q) = record { generations = c; marks = l.committed; above = λ y. le_refl (l.committed y); holds = rw q rr }
        go (inr (s, (e, r))) = marked g x c e v u state l rr r

    pub compact_blank : BlankSpares g x v → BlankSpares g x u
    unfolding compact_stores empty_parity
    compact_blank b = blank_emptied g x true one (new_sectors g at_state v) v (λ e a. done.done e a (present_below g x e a)) b

    pub compact_log : (e : ℕ) → Here g x e → length (by_roles g u e parity_zone).sectors ≡ pick (eqb e d) (new_parity_size g at_state e) (length (by_roles g v e parity_zone).sectors)
    compact_log e a = go (eqb e d) refl
      where
        go : (b : Bool) → eqb e d ≡ b → length (by_roles g u e parity_zone).sectors ≡ pick b (new_parity_size g at_state e) (length (by_roles g v e parity_zone).sectors)
        go true b =
            ap length (done.logs e a (present_below g x e a) b ∙ new_log_sectors g at_state (roles g v e) e (parity_entries g (by_roles g v) e))
            ∙ rest_copy_long g ok x e a (by_roles g v) state l rr.1.0 rr.1.1 at_state by (roles g v e).parity_claim (can e (present_below g x e a) b).1.room
        go false b = ap length (sectors_seen g v u e (done.left e a (inr b)) parity_zone)

    -- STOPPED AND CUT
    pub compact_kept : (n : ℕ) (w : Device) → Cut x (apply_all (take n xs) v) w → KeptBy g x w l
    unfolding compact_stores
    compact_kept n w cut = go (parity_emptyings_stopped g ok x c v state l rr at_state by one can n w cut)
      where
        go : ParityStopped g ok x c v state l rr at_state by one can w → KeptBy g x w l
        go (in_first_flush i h) =
            let (γ, r, q) = rr.1 in
            record { generations = c; marks = l.committed; above = λ y. le_refl (l.committed y); holds = flushed_cut g ok c x v l i w (rr.0, (γ, rest_inv g x (by_roles g v) state l γ r, q)) h }
        go (at_rest e t) =
            let m = marked g x c e v w state l rr t in
            let (γ, r, q) = m.holds.1 in
            record { generations = m.generations; marks = m.marks; above = m.above; holds = (m.holds.0, (γ, rest_inv g x (by_roles g w) state (with_marks l m.marks) γ r, q)) }
