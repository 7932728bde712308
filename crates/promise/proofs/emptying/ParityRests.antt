-- THE EMPTYING OF ONE PARITY LOG outside a mount, from its first flush's end on (v: the device there, by which all contents are committed): stopped
-- after any number of stores and cut in any way, the drives stand in the old roles or the new, all is at rest by them, and every look shows the
-- same (reading 15). Finished: at rest in the new ones.
use Rattle.std.specs.Prelude.{◌≡◌, refl, ◌≢◌, ◌⊎◌, true, ℕ, ◌^◌, ◌<◌, List, [], ◌++◌, length, take, eqb}
use Rattle.std.proofs.Common.{sym, ap, ◌∙◌, subst, inl, inr, arith}
use Rattle.tables.specs.meaning.Device.{ZoneView, Device, Store, apply_all, Cut}
use Rattle.tables.specs.meaning.Drives.{present_but}
use Rattle.tables.specs.declared.Geometry.{Geometry}
use Rattle.tables.specs.meaning.Geometry.{Valid}
use Rattle.logs.specs.meaning.Entry.{parity_zone, spare_zone, Entry}
use Rattle.logs.specs.laws.HeadLaws.{generation_small}
use Rattle.logs.specs.laws.Walk.{sectors_of_all}
use Rattle.volume.specs.meaning.State.{StateView}
use Rattle.volume.specs.meaning.Rules.{parity_entries}
use Rattle.volume.specs.meaning.Calls.{append_all, flush_stores}
use Rattle.volume.specs.meaning.Roles.{Roles, roles, by_roles, roles_after}
use Rattle.volume.specs.meaning.Emptying.{InForce, parity_copies, new_parity, new_parity_size}
use Rattle.volume.specs.laws.Firm.{firm_roles, proper_apart}
use Rattle.promise.specs.meaning.Ledger.{Ledger}
use Rattle.promise.proofs.invariant.Invariant.{Ghost, Here, Rest, LogGenerations}
use Rattle.promise.proofs.invariant.HoldsLess.{with_logs}
use Rattle.promise.proofs.roles.Roled.{Standing}
use Rattle.promise.proofs.roles.RoledCalls.{RoledRests}
use Rattle.promise.proofs.roles.Spares.{spare_rest}
use Rattle.promise.proofs.emptying.CanEmpty.{CanEmptyLog}
use Rattle.promise.proofs.emptying.CopiedParity.{new_log, new_log_sectors}
use Rattle.promise.proofs.emptying.EmptyingStops.{Solid, after_first_flush, emptying_left, emptying_solid, whole_other, whole_spare, whole_old, early_other, early_spare, LeftBy, cut_here}
use Rattle.promise.proofs.emptying.ParityLogs.{parity_ghost, parity_closed}
use Rattle.promise.proofs.emptying.EmptiedParity.{NoneMade, parity_emptied_rest}
use Rattle.promise.proofs.emptying.ParityKeeps.{ByOld, ByCopy, parity_left, parity_done}
use Rattle.promise.proofs.emptying.ParityAtRest.{ByState, copies_old, rest_copy, rest_pointers}

-- all contents are committed
abbrev pub Committed : Geometry → Ledger → Type 0
Committed g l = (z : ℕ) → z < g.zones → l.committed z ≡ length (l.content z)

-- what an accepted call knows of the emptying of drive d's parity log
abbrev pub CanEmpty : Geometry → Device → ℕ → ℕ → Type 0
CanEmpty g v d size = CanEmptyLog g true v d size

-- the new log's sectors
abbrev pub new_sectors : Geometry → InForce → Device → ℕ → List (List ℕ)
new_sectors g f v d = new_parity g f (roles g v d) d (parity_entries g (by_roles g v) d)

-- the stores behind the first flush
abbrev pub emptying_rest : Geometry → ℕ → InForce → Device → ℕ → List Store
emptying_rest g x f v d = after_first_flush g x d (roles g v d).parity (roles g v d).spare (new_sectors g f v d)

module _ (g : Geometry) (ok : Valid g) (x : ℕ) (c : LogGenerations) (v : Device) (state : StateView) (l : Ledger) (rr : RoledRests c g x v state l) (marks : Committed g l) (solid : Solid g x v)
    (d : ℕ) (hd : Here g x d) (f : InForce) (by : ByState g f state) (can : CanEmpty g v d (new_parity_size g f d)) where
  st : Standing g x v c
  st = rr.0

  γ : Ghost
  γ = rr.1.0

  rest : Rest g x (by_roles g v) state l γ
  unfolding γ
  rest = rr.1.1

  closings : γ.closed ≡ c
  unfolding γ
  closings = rr.1.2

  roles_is : roles g v d ≡ st.roles d
  roles_is = firm_roles g v d (st.roles d) (st.firm d hd)

  abbrev n : ℕ
  n = (st.roles d).parity_claim

  abbrev es : List Entry
  es = parity_entries g (by_roles g v) d

  abbrev copy : List Entry
  copy = new_log g f d es n

  n_some : 0 < n
  n_some = omega (arith, (st.parity_claim_lem d hd).0)

  n_lt : n < 256 ^ 8
  n_lt = generation_small n (rw roles_is at can.top)

  sectors_are : new_sectors g f v d ≡ sectors_of_all g d true copy
  sectors_are = new_log_sectors g f (roles g v d) d es ∙ ap (λ (r : Roles). sectors_of_all g d true (new_log g f d es r.parity_claim)) roles_is

  apart : (st.roles d).parity ≢ (st.roles d).spare
  apart = (proper_apart (st.roles d) (st.firm d hd).proper).2

  blank : (v d (st.roles d).spare).sectors ≡ []
  blank = rw roles_is at can.blank

  abbrev stores : List Store
  stores = after_first_flush g x d (st.roles d).parity (st.roles d).spare (sectors_of_all g d true copy)

  stores_are : emptying_rest g x f v d ≡ stores
  stores_are = rw (sectors_are, roles_is) refl

  by_old_rests : (w : Device) → ByOld g x c v w → RoledRests c g x w state l
  by_old_rests w b = (b.standing, (with_logs γ γ.general γ.parity, spare_rest g x (by_roles g v) (by_roles g w) b.seen γ state l rest, closings))

  by_copy_rests : (w : Device) → ByCopy g x c v w d copy n → RoledRests (parity_closed c d n) g x w state l
  by_copy_rests w b = (
    b.standing,
    (
      parity_ghost γ d copy n,
      parity_emptied_rest g ok x d hd (by_roles g v) (by_roles g w) state l γ rest marks copy n n_some n_lt (rest_copy g ok x d hd (by_roles g v) state l γ rest f by n can.room) (rest_pointers g ok x d hd (by_roles g v) state l γ rest f by n can.room) b.seen,
      ap (λ (h : LogGenerations). parity_closed h d n) closings,
    ),
  )

  -- WHAT IS LEFT of the drive's two zones, the others being as they were: at rest
  left_rests : (w : Device) → LeftBy g x v w d (st.roles d).parity (st.roles d).spare (sectors_of_all g d true copy) → (e : LogGenerations) × RoledRests e g x w state l
  left_rests w h = go (parity_left g ok x c v st γ rest.logs closings d hd NoneMade (parity_copies g f d es) (λ e m. (copies_old g ok x d hd (by_roles g v) state l γ rest f by e m).1) n_lt (rest_copy g ok x d hd (by_roles g v) state l γ rest f by n can.room) w solid h)
    where
      go : ByOld g x c v w ⊎ ByCopy g x c v w d copy n → (e : LogGenerations) × RoledRests e g x w state l
      go (inl b) = (c, by_old_rests w b)
      go (inr b) = (parity_closed c d n, by_copy_rests w b)

  pub parity_left_rests : (w : Device) → LeftBy g x v w d (roles g v d).parity (roles g v d).spare (new_sectors g f v d) → (e : LogGenerations) × RoledRests e g x w state l
  parity_left_rests w h = left_rests w (rw (sectors_are, roles_is) at h)

  -- STOPPED AND CUT
  pub parity_stopped : (k : ℕ) (w : Device) → Cut x (apply_all (take k (emptying_rest g x f v d)) v) w → (e : LogGenerations) × RoledRests e g x w state l
  parity_stopped k w cut = left_rests w (emptying_left g x v solid d hd (st.roles d).parity (st.roles d).spare apart blank (sectors_of_all g d true copy) k w (cut_here g x (apply_all (take k stores) v) w (rw stores_are at cut)))

  -- FINISHED
  abbrev after : Device
  after = apply_all (emptying_rest g x f v d) v

  done : ByCopy g x c v after d copy n
  done =
      let s = sectors_of_all g d true copy in
      let p = (st.roles d).parity in
      let q = (st.roles d).spare in
      rw stores_are (parity_done g ok x c v st γ rest.logs closings d hd NoneMade (parity_copies g f d es) (λ e m. (copies_old g ok x d hd (by_roles g v) state l γ rest f by e m).1) n_lt
      (rest_copy g ok x d hd (by_roles g v) state l γ rest f by n can.room) (apply_all stores v) solid (whole_other g x v solid d hd p q apart blank s) (whole_spare g x v solid d hd p q apart blank s) (inr (whole_old g x v solid d hd p q apart blank s)))

  pub parity_finished : RoledRests (parity_closed c d (roles g v d).parity_claim) g x after state l
  parity_finished = subst (λ (i : ℕ). RoledRests (parity_closed c d i) g x after state l) (ap (λ (r : Roles). r.parity_claim) (sym roles_is)) (by_copy_rests after done)

  pub parity_finished_roles : (e : ℕ) → Here g x e → roles g after e ≡ roles_after true (λ i. eqb i d) (roles g v) e
  parity_finished_roles = done.roles_are

  -- BEFORE ITS LAST STORE, the reset of the old zone: the same
  abbrev pub unreset : Device
  unreset = apply_all (append_all d (roles g v d).spare (new_sectors g f v d) ++ flush_stores g (present_but g x)) v

  undone : ByCopy g x c v unreset d copy n
  undone =
      let s = sectors_of_all g d true copy in
      let p = (st.roles d).parity in
      let q = (st.roles d).spare in
      rw (sectors_are, roles_is) (parity_done g ok x c v st γ rest.logs closings d hd NoneMade (parity_copies g f d es) (λ e m. (copies_old g ok x d hd (by_roles g v) state l γ rest f by e m).1) n_lt
      (rest_copy g ok x d hd (by_roles g v) state l γ rest f by n can.room) (apply_all (append_all d q s ++ flush_stores g (present_but g x)) v) solid (λ e y a o. early_other g x v solid d hd p q apart blank s e y a (spared e y o))
      (early_spare g x v solid d hd p q apart blank s) (inl (early_other g x v solid d hd p q apart blank s d p hd (inr apart))))
    where
      spared : (e y : ℕ) → (e ≢ d) ⊎ ((y ≢ (st.roles d).spare) × (y ≢ (st.roles d).parity)) → (e ≢ d) ⊎ (y ≢ (st.roles d).spare)
      spared e y (inl h) = inl h
      spared e y (inr h) = inr h.0

  pub parity_before : RoledRests (parity_closed c d (roles g v d).parity_claim) g x unreset state l
  parity_before = subst (λ (i : ℕ). RoledRests (parity_closed c d i) g x unreset state l) (ap (λ (r : Roles). r.parity_claim) (sym roles_is)) (by_copy_rests unreset undone)

  pub parity_before_roles : (e : ℕ) → Here g x e → roles g unreset e ≡ roles_after true (λ i. eqb i d) (roles g v) e
  parity_before_roles = undone.roles_are

  pub parity_finished_solid : Solid g x after
  parity_finished_solid = rw stores_are (emptying_solid g x v solid d hd (st.roles d).parity (st.roles d).spare apart blank (sectors_of_all g d true copy))

  -- drive d's parity log is the new one
  pub parity_finished_log : (by_roles g after d parity_zone).sectors ≡ new_sectors g f v d
  parity_finished_log = ap (λ (z : ZoneView). z.sectors) done.seen.log ∙ sym sectors_are

  -- and nothing else of the drive changed but its spare
  pub parity_finished_kept : (y : ℕ) → y ≢ parity_zone → y ≢ spare_zone → (by_roles g after d y).sectors ≡ (by_roles g v d y).sectors
  parity_finished_kept y n k = ap (λ (z : ZoneView). z.sectors) (done.seen.others d y hd (inr n) k)

  -- the other drives are as they were
  pub parity_finished_other : (e y : ℕ) → Here g x e → e ≢ d → after e y ≡ v e y
  parity_finished_other e y a h = rw stores_are (whole_other g x v solid d hd (st.roles d).parity (st.roles d).spare apart blank (sectors_of_all g d true copy) e y a (inl h))
