-- The calls on the physical device, where no log has to be emptied: their stores are computed over the device by its roles and carried to the zones of
-- these roles. Stopped anywhere or finished, they keep the roles, and leave by them what the ..Keeps files say.
use Rattle.std.specs.Prelude.{◌≡◌, ◌⊎◌, ℕ, ◌<◌, ◌^◌, List, map, take, length}
use Rattle.std.proofs.Common.{arith}
use Rattle.tables.specs.laws.Lists.{take_map}
use Rattle.tables.specs.meaning.Device.{Device, Store, apply_all, Loss}
use Rattle.tables.specs.meaning.Through.{carry}
use Rattle.tables.specs.meaning.Drives.{no_drive, present_but}
use Rattle.tables.specs.declared.Geometry.{Geometry}
use Rattle.tables.specs.meaning.Geometry.{Valid}
use Rattle.logs.specs.meaning.Entry.{spare_zone}
use Rattle.volume.specs.meaning.State.{StateView}
use Rattle.volume.specs.meaning.Roles.{by_roles}
use Rattle.volume.specs.meaning.Calls.{write_stores, write_state, flush_stores, flush_state, reset_stores, reset_state, format_stores, format_state}
use Rattle.volume.specs.laws.Firm.{places}
use Rattle.promise.specs.meaning.Ledger.{Ledger, fresh_ledger, after_write, after_flush, after_reset, after_stopped_reset}
use Rattle.promise.proofs.invariant.Invariant.{LogGenerations}
use Rattle.promise.proofs.invariant.Obligations.{Invs, Rests, never_emptied, WriteOk, ResetOk}
use Rattle.promise.proofs.invariant.HoldsLess.{with_logs}
use Rattle.promise.proofs.invariant.CrashKeeps.{loss_keeps, loss_rests}
use Rattle.promise.proofs.calls.WriteKeeps.{write_keeps, write_rests}
use Rattle.promise.proofs.calls.FlushKeeps.{flush_keeps, flush_rests}
use Rattle.promise.proofs.calls.ResetKeeps.{reset_keeps, reset_rests}
use Rattle.promise.proofs.calls.FormatKeeps.{format_rests}
use Rattle.promise.proofs.roles.Spares.{spare_rest}
use Rattle.promise.proofs.roles.Ordinary.{Ordinary, ordinary_part, carried_to}
use Rattle.promise.proofs.roles.OrdinaryCalls.{write_ordinary, flush_ordinary, reset_ordinary}
use Rattle.promise.proofs.roles.Roled.{Standing, ordinary_invs, ordinary_rests, standing_loss, by_roles_loss}
use Rattle.promise.proofs.roles.FormatRoles.{format_standing, format_seen}

-- ---- what holds of the physical device (c: its logs' generations)
abbrev pub RoledInvs : LogGenerations → Geometry → ℕ → Device → Ledger → Type 0
RoledInvs c g x v l = Standing g x v c × Invs c g x (by_roles g v) l

abbrev pub RoledRests : LogGenerations → Geometry → ℕ → Device → StateView → Ledger → Type 0
RoledRests c g x v state l = Standing g x v c × Rests c g x (by_roles g v) state l

-- the first n of stores that are carried
abbrev pub stopped_to : Geometry → Device → ℕ → List Store → Device
stopped_to g v n xs = apply_all (take n (map (carry (places g v)) xs)) v

module _ (g : Geometry) (ok : Valid g) (c : LogGenerations) (x : ℕ) (v : Device) where
  roled_part : Standing g x v c → (xs : List Store) → Ordinary g x xs → (n : ℕ) (l : Ledger) → Invs c g x (apply_all (take n xs) (by_roles g v)) l → RoledInvs c g x (stopped_to g v n xs) l
  roled_part s xs o n l i = rw (take_map (carry (places g v)) n xs) (ordinary_invs g x v c s (take n xs) (ordinary_part g x n xs o) l i)

  -- ---- write
  pub roled_write_keeps : (state : StateView) (l : Ledger) (z : ℕ) (ss : List (List ℕ)) (n : ℕ) → RoledRests c g x v state l → WriteOk g (present_but g x) (by_roles g v) state z ss
      → RoledInvs c g x (stopped_to g v n (write_stores g (present_but g x) (by_roles g v) state z ss)) (after_write l z ss)
  roled_write_keeps state l z ss n (s, r) w =
      roled_part s (write_stores g (present_but g x) (by_roles g v) state z ss) (write_ordinary g x (by_roles g v) state z ss) n (after_write l z ss) (write_keeps g ok c x (by_roles g v) state l z ss n r w)

  pub roled_write_rests : (state : StateView) (l : Ledger) (z : ℕ) (ss : List (List ℕ)) → RoledRests c g x v state l → WriteOk g (present_but g x) (by_roles g v) state z ss
      → RoledRests c g x (carried_to g v (write_stores g (present_but g x) (by_roles g v) state z ss)) (write_state x state z (length ss)) (after_write l z ss)
  roled_write_rests state l z ss (s, r) w =
      ordinary_rests g x v c s (write_stores g (present_but g x) (by_roles g v) state z ss) (write_ordinary g x (by_roles g v) state z ss) (write_state x state z (length ss)) (after_write l z ss) (write_rests g ok c x (by_roles g v) state l z ss r w)

  -- ---- flush
  pub roled_flush_keeps : (l : Ledger) (n : ℕ) → RoledInvs c g x v l → RoledInvs c g x (stopped_to g v n (flush_stores g (present_but g x))) l
  roled_flush_keeps l n (s, i) = roled_part s (flush_stores g (present_but g x)) (flush_ordinary g x) n l (flush_keeps g ok c x (by_roles g v) l n i)

  pub roled_flush_rests : (state : StateView) (l : Ledger) → RoledRests c g x v state l → RoledRests c g x (carried_to g v (flush_stores g (present_but g x))) (flush_state x state) (after_flush l)
  roled_flush_rests state l (s, r) = ordinary_rests g x v c s (flush_stores g (present_but g x)) (flush_ordinary g x) (flush_state x state) (after_flush l) (flush_rests g ok c x (by_roles g v) state l r)

  -- ---- reset
  pub roled_reset_keeps : (state : StateView) (l : Ledger) (z n : ℕ) → RoledRests c g x v state l → ResetOk g (present_but g x) (by_roles g v) state z
      → RoledInvs c g x (stopped_to g v n (reset_stores g (present_but g x) state z)) (after_stopped_reset l z)
  roled_reset_keeps state l z n (s, r) w = roled_part s (reset_stores g (present_but g x) state z) (reset_ordinary g x state z) n (after_stopped_reset l z) (reset_keeps g ok c x (by_roles g v) state l z n r w)

  pub roled_reset_rests : (state : StateView) (l : Ledger) (z : ℕ) → RoledRests c g x v state l → ResetOk g (present_but g x) (by_roles g v) state z
      → RoledRests c g x (carried_to g v (reset_stores g (present_but g x) state z)) (reset_state x state z) (after_reset l z)
  roled_reset_rests state l z (s, r) w = ordinary_rests g x v c s (reset_stores g (present_but g x) state z) (reset_ordinary g x state z) (reset_state x state z) (after_reset l z) (reset_rests g ok c x (by_roles g v) state l z r w)

  -- ---- the loss of a drive
  module _ (y : ℕ) (w : Device) (hy : y < g.drives) (one : (x ≡ no_drive) ⊎ (x ≡ y)) (lo : Loss y v w) where
    pub roled_loss_keeps : (l : Ledger) → RoledInvs c g x v l → RoledInvs c g y w l
    roled_loss_keeps l (s, i) = (standing_loss g ok x y v w c one lo s, loss_keeps g ok c x y (by_roles g v) (by_roles g w) l hy one (by_roles_loss g y v w lo) i)

    pub roled_loss_rests : (state : StateView) (l : Ledger) → RoledRests c g x v state l → RoledRests c g y w state l
    roled_loss_rests state l (s, r) = (standing_loss g ok x y v w c one lo s, loss_rests g ok c x y (by_roles g v) (by_roles g w) state l hy one (by_roles_loss g y v w lo) r)

-- ---- format, of any device: its stores go to the zones as they are numbered
pub roled_format : (g : Geometry) → Valid g → (x a : ℕ) (v : Device) → (x ≡ no_drive) ⊎ (x < g.drives) → a < 256 ^ 8 → RoledRests never_emptied g x (apply_all (format_stores g (present_but g x) x a) v) (format_state x) fresh_ledger
roled_format g ok x a v lost ha =
    let w = apply_all (format_stores g (present_but g x) x a) v in
    let (γ, r, q) = format_rests g ok x a v lost ha in
    let is = format_seen g ok x a v lost ha in (
      format_standing g ok x a v lost ha,
      (
        with_logs γ γ.general γ.parity,
        spare_rest g x w (by_roles g w) (record {
          same = λ d y h n. is d h y;
          lasts = λ d h. rw (is d h spare_zone) (r.logs.lasting d spare_zone h (omega arith));
          fits = λ d h. rw (is d h spare_zone) (r.logs.place_fits d spare_zone h (omega arith));
        }) γ (format_state x) fresh_ledger r,
        q,
      ),
    )
