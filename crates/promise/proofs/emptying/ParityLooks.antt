-- READING 15 INSIDE A MOUNT, of the emptying of drive d's parity log behind its first flush (u: the device there, filled): whatever is left of the drive's two zones, a
-- look shows what it showed there; of a zone whose entry was made it may show more, up to the pointer of the mount's look (k).
use Rattle.std.specs.Prelude.{◌≡◌, ◌⊎◌, Bool, true, false, ℕ, ◌<◌, length}
use Rattle.std.proofs.Common.{ap, inl, inr, le_trans}
use Rattle.tables.specs.meaning.Device.{ZoneView, Device}
use Rattle.tables.specs.meaning.Drives.{present_but}
use Rattle.tables.specs.declared.Geometry.{Geometry}
use Rattle.tables.specs.meaning.Geometry.{Valid}
use Rattle.logs.specs.meaning.Entry.{parity_zone}
use Rattle.volume.specs.meaning.Rules.{Shown}
use Rattle.volume.specs.meaning.Roles.{by_roles}
use Rattle.volume.specs.meaning.Emptying.{by_look, is_made, new_parity_size}
use Rattle.volume.specs.laws.Firm.{firm_seen}
use Rattle.promise.specs.meaning.Ledger.{Ledger}
use Rattle.promise.proofs.invariant.Invariant.{Ghost, Here, LogGenerations}
use Rattle.promise.proofs.mount.MountFilled.{Filled as FilledNow, OpenNow, SealedNow, kept_at}
use Rattle.promise.proofs.emptying.AskedSame.{NamedBut, ShowsSame}
use Rattle.promise.proofs.emptying.CanEmpty.{CanEmptyLog}
use Rattle.promise.proofs.emptying.CallParts.{FilledAt}
use Rattle.promise.proofs.emptying.SpareFills.{read_shows}
use Rattle.promise.proofs.emptying.FilledShows.{NoneShownPast, held_just, sealed_at}
use Rattle.promise.proofs.emptying.ParityMountShows.{ShowsUpTo, same_up_to, AllShown, filled_most, copy_shows_up_to, copy_shows_same}
use Rattle.promise.proofs.emptying.ParityInMount.{LeftEither, fd, solid, n, n_some, n_lt}

-- ---- what a look shows of w, against v (made: an entry of the zone was made)
pub record Looks (g : Geometry) (present : ℕ → Bool) (v w : Device) (z top : ℕ) (made : Bool) : Type 0 where
  pub up_to : ShowsUpTo g present v w z top
  pub same : made ≡ false → ShowsSame g present v w z

-- what is filled, as the looks need it
shown_now : (g : Geometry) (x : ℕ) (u : Device) (δ : Ghost) (l : Ledger) (k : Shown) → FilledNow g x u δ l k → AllShown g x u δ k
shown_now g x u δ l k f z hz h =
    let q = kept_at g x u δ l k f z hz h in
    record { in_zone_lem = le_trans q.most q.live.fits; no_reset = q.no_reset; seals_past = q.seals_past; past = go q.how }
  where
    go : OpenNow g x u δ k z ⊎ SealedNow g x u δ k z → NoneShownPast g x u δ z (k.zone z).pointer
    go (inl o) = held_just o.just o.ends_in
    go (inr o) = sealed_at o.cap

module _ (g : Geometry) (ok : Valid g) (x : ℕ) (u : Device) (c : LogGenerations) (l : Ledger) (k : Shown) (fa : FilledAt g x u c l k) (d : ℕ) (hd : Here g x d) (can : CanEmptyLog g true u d (new_parity_size g (by_look k) d)) where
  shown : AllShown g x (by_roles g u) fa.ghosts k
  shown = shown_now g x (by_roles g u) fa.ghosts l k fa.filled

  log_lasts : (by_roles g u d parity_zone).durable ≡ length (by_roles g u d parity_zone).sectors
  log_lasts = let r = fa.standing.roles d in let e = firm_seen g u d r (fa.standing.firm d hd) parity_zone in rw e (solid g ok x u c l k fa d hd can d r.parity hd)

  pub either_looks : (w : Device) → LeftEither g ok x u c l k fa d hd can w → (y : ℕ) → NamedBut g x y → (z : ℕ) → z < g.zones → Looks g (present_but g y) (by_roles g u) (by_roles g w) z (k.zone z).pointer (is_made g (by_look k) (by_roles g u) d z)
  either_looks w (inl b) y by z hz =
      let s : ShowsSame g (present_but g y) (by_roles g u) (by_roles g w) z = read_shows g ok x (by_roles g u) (by_roles g w) (λ e i a h. ap (λ (o : ZoneView). o.sectors) (b.seen.same e i a h)) y by z in
      let m = filled_most g ok x (by_roles g u) l fa.ghosts k (fd g ok x u c l k fa d hd can) shown y by z hz in
      record { up_to = same_up_to g (present_but g y) (by_roles g u) (by_roles g w) z (k.zone z).pointer s (rw s.pointer m); same = λ q. s }
  either_looks w (inr b) y by z hz =
      let filled = fd g ok x u c l k fa d hd can in
      let some = n_some g ok x u c l k fa d hd can in
      let less = n_lt g ok x u c l k fa d hd can in
      let claimed = n g ok x u c l k fa d hd can in
      record {
        up_to = copy_shows_up_to g ok x d hd (by_roles g u) l fa.ghosts k filled claimed some less can.room log_lasts (by_roles g w) b.seen shown z hz y by;
        same = copy_shows_same g ok x d hd (by_roles g u) l fa.ghosts k filled claimed some less can.room log_lasts (by_roles g w) b.seen shown z hz y by;
      }
