-- Reading 15 outside a mount, for either log: at Rest with all contents committed (an emptying begins with a flush) every look shows just the contents,
-- whichever drives are named: so by the old log and by its copy it shows the same.
use Rattle.std.specs.Prelude.{◌≡◌, refl, ◌⊎◌, true, ℕ, ◌≤◌, ◌<◌}
use Rattle.std.proofs.Common.{sym, ◌∙◌, inl, inr, true≢false, arith}
use Rattle.std.proofs.Math.Bool.{false}
use Rattle.std.proofs.Math.ListN.{length}
use Rattle.tables.specs.meaning.Device.{Device, Loss}
use Rattle.tables.specs.meaning.Drives.{present_but}
use Rattle.tables.specs.declared.Geometry.{Geometry}
use Rattle.tables.specs.meaning.Geometry.{Valid}
use Rattle.volume.specs.meaning.Content.{at}
use Rattle.volume.specs.meaning.State.{StateView}
use Rattle.volume.specs.meaning.Rules.{generation_of, pointer_at, value_at, showing, zone_shown, zone_at}
use Rattle.promise.specs.meaning.Ledger.{Ledger, FitsZone}
use Rattle.promise.proofs.invariant.Invariant.{Ghost, Rest, LogGenerations, rest_inv}
use Rattle.promise.proofs.invariant.Obligations.{Rests}
use Rattle.promise.proofs.invariant.CrashKeeps.{loss_rests}
use Rattle.promise.proofs.look.LookFits.{look_fits}
use Rattle.promise.proofs.emptying.AskedSame.{NamedBut, ShowsSame}

-- a drive that is not named is as good as lost
pub none_lost_lem : (y : ℕ) (v : Device) → Loss y v v
unfolding Loss
none_lost_lem y v = λ d z n. refl

-- a look shows the content
pub record ShowsContent (g : Geometry) (y : ℕ) (v : Device) (l : Ledger) (z : ℕ) : Type 0 where
  pub pointer : pointer_at g (present_but g y) v z (generation_of g (present_but g y) v z) ≡ length (l.content z)
  pub values : (a : ℕ) → a < length (l.content z) → value_at g (present_but g y) v z (generation_of g (present_but g y) v z) a ≡ at (l.content z) a

module _ (g : Geometry) (ok : Valid g) (x y : ℕ) (by : NamedBut g x y) where
  named_rests : (c : LogGenerations) (v : Device) (state : StateView) (l : Ledger) → Rests c g x v state l → Rests c g y v state l
  named_rests c v state l r = go by
    where
      go : NamedBut g x y → Rests c g y v state l
      go (inl e) = rw e r
      go (inr (e, h)) = loss_rests g ok c x y v v state l h (inl e) (none_lost_lem y v) r

  pub rest_shows : (c : LogGenerations) (v : Device) (state : StateView) (l : Ledger) → Rests c g x v state l → (z : ℕ) → z < g.zones → l.committed z ≡ length (l.content z) → ShowsContent g y v l z
  unfolding showing zone_shown zone_at
  rest_shows c v state l r z hz m =
      let (γ, s, q) = named_rests c v state l r in
      go (s.zones z hz).no_flag (look_fits g ok y v l (γ, rest_inv g y v state l γ s) z hz)
    where
      go : l.resetting z ≡ false → FitsZone l z (zone_shown g (present_but g y) v z) → ShowsContent g y v l z
      go f (inl k) =
          let p : pointer_at g (present_but g y) v z (generation_of g (present_but g y) v z) ≡ length (l.content z) = omega (arith, k.least, k.most, m) in
          record { pointer = p; values = λ a h. k.values a (omega (arith, p, h)) }
      go f (inr k) = absurd (true≢false (sym k.1 ∙ f))

  -- THE LOOK IS THE SAME by any two devices that are at Rest with that ledger
  pub rests_show_same : (c e : LogGenerations) (v w : Device) (state : StateView) (l : Ledger) → Rests c g x v state l → Rests e g x w state l → (z : ℕ) → z < g.zones → l.committed z ≡ length (l.content z)
      → ShowsSame g (present_but g y) v w z
  rests_show_same c e v w state l r s z hz m =
      let p = rest_shows c v state l r z hz m in
      let q = rest_shows e w state l s z hz m in
      record { pointer = q.pointer ∙ sym p.pointer; values = λ i h. let k : i < length (l.content z) = rw p.pointer at h in q.values i k ∙ sym (p.values i k) }
