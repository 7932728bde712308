-- STEP 10 OF A MOUNT: the emptying of parity logs, on the physical device, with all missing sectors stored (FilledAt). Stopped anywhere and cut, the
-- invariant holds by the roles, with marks at or above the ledger's; finished, the device is filled still, by the new roles, and each new log has
-- the room that step 11 asks for.
use Rattle.std.specs.Prelude.{◌≡◌, ◌≢◌, ◌⊎◌, Bool, true, false, ℕ, ◌+◌, ◌*◌, ◌^◌, ◌≤◌, ◌<◌, List, [], length, take}
use Rattle.std.proofs.Math.Path.{refl}
use Rattle.std.proofs.Common.{sym, ap, ap₂, ◌∙◌, subst, inl, inr, le_refl, le_trans, le_of_eq, arith, eq-eqb}
use Rattle.tables.specs.meaning.Device.{ZoneView, Device, Store, apply_all, Cut}
use Rattle.tables.specs.meaning.Drives.{present_but}
use Rattle.tables.specs.laws.Drives.{present_below}
use Rattle.volume.specs.meaning.Calls.{flush_stores}
use Rattle.tables.specs.declared.Geometry.{Geometry}
use Rattle.tables.specs.meaning.Geometry.{Valid}
use Rattle.logs.specs.meaning.Entry.{parity_zone, spare_zone, Entry}
use Rattle.logs.specs.laws.HeadLaws.{generation_small}
use Rattle.logs.specs.laws.LogLaws.{sectors_of_most}
use Rattle.logs.specs.meaning.Walk.{walk_log}
use Rattle.logs.specs.laws.Walk.{sectors_of_all}
use Rattle.volume.specs.meaning.Rules.{Shown, parity_entries}
use Rattle.volume.specs.meaning.Roles.{Roles, roles, by_roles, emptied_roles, roles_after}
use Rattle.volume.specs.meaning.Emptying.{by_look, parity_copies, new_parity, new_parity_size, emptyings, empty_parity}
use Rattle.volume.specs.laws.Firm.{firm_roles, proper_apart}
use Rattle.promise.specs.meaning.Ledger.{Ledger}
use Rattle.promise.proofs.device.Marks.{with_marks, MarksAbove}
use Rattle.promise.proofs.invariant.Invariant.{Ghost, Here, LogGenerations}
use Rattle.promise.proofs.invariant.HoldsLess.{with_logs}
use Rattle.promise.proofs.mount.MountFilled.{FilledNow, filled_inv}
use Rattle.promise.proofs.mount.MountParityEntries.{EntryRoom}
use Rattle.promise.proofs.roles.Roled.{Standing}
use Rattle.promise.proofs.roles.Spares.{spare_inv}
use Rattle.promise.proofs.emptying.Marked.{KeptBy}
use Rattle.promise.proofs.emptying.CallParts.{FilledAt, filled_solid, filled_at_same, filled_roled, kept_as_is, kept_less, solid_seen}
use Rattle.promise.proofs.emptying.Emptyings.{SameSectors, rest_of, OneDrive, Progress, emptyings_stopped, emptyings_done, at_flush, flush_held}
use Rattle.promise.proofs.emptying.FlushedRests.{roles_same, sectors_seen, seen_same, flushed_all, still_flushed, same_invs}
use Rattle.promise.proofs.calls.FlushKeeps.{flush_all_lem}
use Rattle.promise.proofs.emptying.CopiedParity.{new_log, new_log_sectors, new_log_extent}
use Rattle.promise.proofs.emptying.EmptyingStops.{Solid, solid_flushed, after_first_flush, emptying_left, emptying_solid, whole_other, whole_spare, whole_old, LeftBy, cut_here}
use Rattle.promise.proofs.emptying.FilledCopied.{filled_before, copied_filled}
use Rattle.promise.proofs.emptying.ParityFilled.{Filled, MadeFor, es_read, filled_copies, filled_copy}
use Rattle.promise.proofs.emptying.ParityMount.{marks_by_copy, marks_by_copy_above, filled_copy_inv}
use Rattle.promise.proofs.emptying.ParityLogs.{parity_ghost, parity_closed, copy_lawful}
use Rattle.promise.proofs.emptying.ParityKeeps.{ByOld, ByCopy, parity_left, parity_done}
use Rattle.promise.proofs.emptying.ParityRests.{new_sectors, emptying_rest}
use Rattle.promise.proofs.emptying.CanEmpty.{CanEmptyLog}

-- ---- ONE DRIVE, behind its first flush (u: the device there)
module _ (g : Geometry) (ok : Valid g) (x : ℕ) (u : Device) (c : LogGenerations) (l : Ledger) (k : Shown) (fa : FilledAt g x u c l k) (d : ℕ) (hd : Here g x d) (can : CanEmptyLog g true u d (new_parity_size g (by_look k) d)) where
  abbrev st : Standing g x u c
  st = fa.standing

  abbrev δ : Ghost
  δ = fa.ghosts

  abbrev fi : FilledNow g x (by_roles g u) fa.ghosts l k
  fi = fa.filled

  pub fd : Filled g x (by_roles g u) l fa.ghosts k
  fd = filled_before g ok x (by_roles g u) fa.ghosts l k fa.filled

  pub solid : Solid g x u
  solid = filled_solid g x u c l k fa

  roles_is : roles g u d ≡ st.roles d
  roles_is = firm_roles g u d (st.roles d) (st.firm d hd)

  abbrev pub n : ℕ
  n = (fa.standing.roles d).parity_claim

  abbrev es : List Entry
  es = parity_entries g (by_roles g u) d

  abbrev pub copy : List Entry
  copy = new_log g (by_look k) d es n

  pub n_some : 0 < n
  n_some = omega (arith, (st.parity_claim_lem d hd).0)

  pub n_lt : n < 256 ^ 8
  n_lt = generation_small n (rw roles_is at can.top)

  sectors_are : new_sectors g (by_look k) u d ≡ sectors_of_all g d true copy
  sectors_are = new_log_sectors g (by_look k) (roles g u d) d es ∙ ap (λ (r : Roles). sectors_of_all g d true (new_log g (by_look k) d es r.parity_claim)) roles_is

  apart : (st.roles d).parity ≢ (st.roles d).spare
  apart = (proper_apart (st.roles d) (st.firm d hd).proper).2

  blank : (u d (st.roles d).spare).sectors ≡ []
  blank = rw roles_is at can.blank

  abbrev stores : List Store
  stores = after_first_flush g x d (st.roles d).parity (st.roles d).spare (sectors_of_all g d true copy)

  stores_are : emptying_rest g x (by_look k) u d ≡ stores
  stores_are = rw (sectors_are, roles_is) refl

  by_old_kept : (w : Device) → ByOld g x c u w → KeptBy g x w l
  by_old_kept w b = kept_as_is g x w l c (b.standing, (with_logs δ δ.general δ.parity, spare_inv g x (by_roles g u) (by_roles g w) b.seen δ l (filled_inv g x (by_roles g u) δ l k fi), fa.closed_is))

  by_copy_kept : (w : Device) → ByCopy g x c u w d copy n → KeptBy g x w l
  by_copy_kept w b = record {
    generations = parity_closed c d n;
    marks = marks_by_copy g k l d;
    above = marks_by_copy_above g k l d;
    holds = (b.standing, (parity_ghost δ d copy n, filled_copy_inv g ok x d hd (by_roles g u) l δ k fd n n_some n_lt can.room (by_roles g w) b.seen, ap (λ (h : LogGenerations). parity_closed h d n) fa.closed_is));
  }

  -- WHAT IS LEFT of the drive's two zones, the others being as they were: by the old log, or by the copy
  abbrev pub LeftEither : Device → Type 0
  LeftEither w = ByOld g x c u w ⊎ ByCopy g x c u w d copy n

  either : (w : Device) → LeftBy g x u w d (st.roles d).parity (st.roles d).spare (sectors_of_all g d true copy) → LeftEither w
  either w h = parity_left g ok x c u st δ fi.logs fa.closed_is d hd (MadeFor g ok x d hd (by_roles g u) l δ k fd) (parity_copies g (by_look k) d es) (filled_copies g ok x d hd (by_roles g u) l δ k fd) n_lt (filled_copy g ok x d hd (by_roles g u) l δ k fd n can.room) w solid h

  pub mount_parity_either : (w : Device) → LeftBy g x u w d (roles g u d).parity (roles g u d).spare (new_sectors g (by_look k) u d) → LeftEither w
  mount_parity_either w h = either w (rw (sectors_are, roles_is) at h)

  -- the invariant holds by it
  pub either_kept : (w : Device) → LeftEither w → KeptBy g x w l
  either_kept w (inl b) = by_old_kept w b
  either_kept w (inr b) = by_copy_kept w b

  -- STOPPED AND CUT
  pub mount_parity_stopped : (j : ℕ) (w : Device) → Cut x (apply_all (take j (emptying_rest g x (by_look k) u d)) u) w → KeptBy g x w l
  mount_parity_stopped j w cut =
      either_kept w (either w (emptying_left g x u solid d hd (st.roles d).parity (st.roles d).spare apart blank (sectors_of_all g d true copy) j w (cut_here g x (apply_all (take j stores) u) w (rw stores_are at cut))))

  -- FINISHED
  abbrev after : Device
  after = apply_all (emptying_rest g x (by_look k) u d) u

  done : ByCopy g x c u after d copy n
  done =
      let s = sectors_of_all g d true copy in
      let p = (st.roles d).parity in
      let q = (st.roles d).spare in
      rw stores_are (parity_done g ok x c u st δ fi.logs fa.closed_is d hd (MadeFor g ok x d hd (by_roles g u) l δ k fd) (parity_copies g (by_look k) d es) (filled_copies g ok x d hd (by_roles g u) l δ k fd) n_lt
      (filled_copy g ok x d hd (by_roles g u) l δ k fd n can.room) (apply_all stores u) solid (whole_other g x u solid d hd p q apart blank s) (whole_spare g x u solid d hd p q apart blank s) (inr (whole_old g x u solid d hd p q apart blank s)))

  pub mount_parity_solid : Solid g x (apply_all (emptying_rest g x (by_look k) u d) u)
  mount_parity_solid = rw stores_are (emptying_solid g x u solid d hd (st.roles d).parity (st.roles d).spare apart blank (sectors_of_all g d true copy))

  pub mount_parity_filled : FilledAt g x (apply_all (emptying_rest g x (by_look k) u d) u) (parity_closed c d (fa.standing.roles d).parity_claim) (with_marks l (marks_by_copy g k l d)) k
  mount_parity_filled = record {
    standing = done.standing;
    ghosts = parity_ghost δ d copy n;
    filled = copied_filled g ok x d hd (by_roles g u) δ l k fi n n_some n_lt can.room (by_roles g after) done.seen (solid_seen g x (parity_closed c d n) after done.standing mount_parity_solid);
    closed_is = ap (λ (h : LogGenerations). parity_closed h d n) fa.closed_is;
  }

  pub mount_parity_marks : MarksAbove l (marks_by_copy g k l d)
  mount_parity_marks = marks_by_copy_above g k l d

  pub mount_parity_roles : roles g (apply_all (emptying_rest g x (by_look k) u d) u) d ≡ emptied_roles true (roles g u d)
  mount_parity_roles = done.roles_are d hd ∙ rw (eq-eqb d d refl) refl

  pub mount_parity_other : (e y : ℕ) → Here g x e → e ≢ d → apply_all (emptying_rest g x (by_look k) u d) u e y ≡ u e y
  mount_parity_other e y a h = rw stores_are (whole_other g x u solid d hd (st.roles d).parity (st.roles d).spare apart blank (sectors_of_all g d true copy) e y a (inl h))

  -- the new log, as long as was reckoned at most
  pub mount_parity_log : (by_roles g (apply_all (emptying_rest g x (by_look k) u d) u) d parity_zone).sectors ≡ new_sectors g (by_look k) u d
  mount_parity_log = ap (λ (z : ZoneView). z.sectors) done.seen.log ∙ sym sectors_are

  pub mount_parity_size : length (new_sectors g (by_look k) u d) ≤ new_parity_size g (by_look k) d
  mount_parity_size =
      let pc = filled_copy g ok x d hd (by_roles g u) l δ k fd n can.room in
      rw sectors_are (le_trans (sectors_of_most g d copy (copy_lawful g ok x d hd (by_roles g u) (by_roles g after) δ fi.logs (MadeFor g ok x d hd (by_roles g u) l δ k fd) copy n n_some n_lt pc)) (le_of_eq (new_log_extent g ok (by_look k) d es n (es_read g ok x d hd (by_roles g u) l δ k fd))))

  pub mount_parity_kept : (y : ℕ) → y ≢ parity_zone → y ≢ spare_zone → (by_roles g (apply_all (emptying_rest g x (by_look k) u d) u) d y).sectors ≡ (by_roles g u d y).sectors
  mount_parity_kept y p q = ap (λ (z : ZoneView). z.sectors) (done.seen.others d y hd (inr p) q)

-- ---- SEVERAL DRIVES (v: the device at the step's start)
-- a log goes by its sectors
entries_same : (g : Geometry) (v w : Device) (d : ℕ) → (w d parity_zone).sectors ≡ (v d parity_zone).sectors → parity_entries g w d ≡ parity_entries g v d
unfolding parity_entries
entries_same g v w d h = ap (λ (ss : List (List ℕ)). (walk_log g d true ss).entries) h

-- room for one entry more of each zone in drive e's parity log
abbrev RoomAt : Geometry → Device → ℕ → Type 0
RoomAt g u e = length (by_roles g u e parity_zone).sectors + g.zones * (1 + g.unit) ≤ g.capacity

-- what is known of a drive whose parity log is emptied
pub record EmptiedInMount (g : Geometry) (x : ℕ) (v : Device) (k : Shown) (d : ℕ) : Type 0 where
  pub here : Here g x d
  pub can : CanEmptyLog g true v d (new_parity_size g (by_look k) d)
  pub room : new_parity_size g (by_look k) d + g.zones * (1 + g.unit) ≤ g.capacity

-- filled, with some marks at or above the ledger's
pub record FilledSome (g : Geometry) (x : ℕ) (l : Ledger) (k : Shown) (u : Device) : Type 0 where
  pub generations : LogGenerations
  pub marks : ℕ → ℕ
  pub above : MarksAbove l marks
  pub at : FilledAt g x u generations (with_marks l marks) k

module _ (g : Geometry) (ok : Valid g) (x : ℕ) (v : Device) (c : LogGenerations) (l : Ledger) (k : Shown) (fa : FilledAt g x v c l k) (emptied : ℕ → Bool)
    (known : (d : ℕ) → d < g.drives → emptied d ≡ true → EmptiedInMount g x v k d) where
  -- between two emptyings
  abbrev Held : Device → Type 0
  Held u = FilledSome g x l k u

  abbrev Left : Device → Type 0
  Left w = KeptBy g x w l

  abbrev start : FilledSome g x l k v
  start = record { generations = c; marks = l.committed; above = λ z. le_refl (l.committed z); at = fa }

  some_same : (u w : Device) → FilledSome g x l k u → ((e y : ℕ) → Here g x e → w e y ≡ u e y) → FilledSome g x l k w
  some_same u w f h = record { generations = f.generations; marks = f.marks; above = f.above; at = filled_at_same g x u w f.generations (with_marks l f.marks) k f.at h }

  some_kept : (u w : Device) → FilledSome g x l k u → ((e y : ℕ) → Here g x e → w e y ≡ u e y) → Left w
  some_kept u w f h = record { generations = f.generations; marks = f.marks; above = f.above; holds = same_invs g f.generations x u w f.at.standing h (with_marks l f.marks) (filled_roled g x u f.generations (with_marks l f.marks) k f.at).1 }

  -- a flush changes nothing
  flush_nothing : (u : Device) → Solid g x u → (e y : ℕ) → Here g x e → flushed_all g x u e y ≡ u e y
  flush_nothing u s e y a = flush_all_lem g x u e y a ∙ solid_flushed (u e y) (s e y a)

  first : Held (flushed_all g x v)
  first = some_same v (flushed_all g x v) start (flush_nothing v (filled_solid g x v c l k fa))

  more : (u : Device) → Solid g x u → Held u → Held (flushed_all g x u)
  more u s h = some_same u (flushed_all g x u) h (flush_nothing u s)

  in_first_lem : (n : ℕ) (w : Device) → Cut x (apply_all (take n (flush_stores g (present_but g x))) v) w → Left w
  in_first_lem n w cut = some_kept v w start (still_flushed g x v (filled_solid g x v c l k fa) n w cut)

  same : (u w : Device) → Solid g x u → Held u → ((e y : ℕ) → Here g x e → w e y ≡ u e y) → Left w
  same u w s h q = some_kept u w h q

  -- ---- one of them
  module _ (d : ℕ) (kn : EmptiedInMount g x v k d) (u : Device) (f : Held u) (s : SameSectors v u d) where
    abbrev l1 : Ledger
    l1 = with_marks l f.marks

    pub same_roles : roles g u d ≡ roles g v d
    same_roles = roles_same g v u d s

    pub can_now : CanEmptyLog g true u d (new_parity_size g (by_look k) d)
    can_now = record { room = kn.can.room; top = rw same_roles kn.can.top; blank = s (roles g u d).spare ∙ ap (λ (r : Roles). (v d r.spare).sectors) same_roles ∙ kn.can.blank }

    pub same_new : new_sectors g (by_look k) u d ≡ new_sectors g (by_look k) v d
    same_new = ap₂ (λ (r : Roles) (es : List Entry). new_parity g (by_look k) r d es) same_roles (entries_same g (by_roles g v) (by_roles g u) d (seen_same g x c f.generations v u fa.standing f.at.standing d kn.here s parity_zone))

    rest_are : emptying_rest g x (by_look k) u d ≡ rest_of g x true v (new_sectors g (by_look k) v) d
    rest_are = ap₂ (λ (r : Roles) (ss : List (List ℕ)). after_first_flush g x d r.parity r.spare ss) same_roles same_new

    abbrev next : Device
    next = apply_all (emptying_rest g x (by_look k) u d) u

    next_some : FilledSome g x l k next
    next_some = record {
      generations = parity_closed f.generations d (f.at.standing.roles d).parity_claim;
      marks = marks_by_copy g k l1 d;
      above = λ z. le_trans (f.above z) (mount_parity_marks g ok x u f.generations l1 k f.at d kn.here can_now z);
      at = mount_parity_filled g ok x u f.generations l1 k f.at d kn.here can_now;
    }

    one_drive : OneDrive g x true v Held Left d u (new_sectors g (by_look k) v d) (emptying_rest g x (by_look k) u d)
    one_drive = record {
      stopped = λ j w cut. kept_less g x w l f.marks f.above (mount_parity_stopped g ok x u f.generations l1 k f.at d kn.here can_now j w cut);
      held = next_some;
      solid = mount_parity_solid g ok x u f.generations l1 k f.at d kn.here can_now;
      roles_are = mount_parity_roles g ok x u f.generations l1 k f.at d kn.here can_now ∙ ap (emptied_roles true) same_roles;
      log = mount_parity_log g ok x u f.generations l1 k f.at d kn.here can_now ∙ same_new;
      kept = mount_parity_kept g ok x u f.generations l1 k f.at d kn.here can_now;
      others = mount_parity_other g ok x u f.generations l1 k f.at d kn.here can_now;
    }

    drive : OneDrive g x true v Held Left d u (new_sectors g (by_look k) v d) (rest_of g x true v (new_sectors g (by_look k) v) d)
    drive = subst (λ (xs : List Store). OneDrive g x true v Held Left d u (new_sectors g (by_look k) v d) xs) rest_are one_drive

  abbrev all_stores_lem : List Store
  all_stores_lem = empty_parity g (present_but g x) (roles g v) (by_look k) emptied (by_roles g v)

  stores_all : all_stores_lem ≡ emptyings g (present_but g x) true (roles g v) emptied (new_sectors g (by_look k) v)
  unfolding empty_parity
  stores_all = refl

  one_of : (d : ℕ) → d < g.drives → emptied d ≡ true → Here g x d × ((u : Device) → Solid g x u → Held u → SameSectors v u d → OneDrive g x true v Held Left d u (new_sectors g (by_look k) v d) (rest_of g x true v (new_sectors g (by_look k) v) d))
  one_of d hd b = let kn = known d hd b in (kn.here, λ u s h q. drive d kn u h q)

  progress : Progress g x true v (new_sectors g (by_look k) v) emptied Held g.drives (apply_all all_stores_lem v)
  progress = subst (λ (xs : List Store). Progress g x true v (new_sectors g (by_look k) v) emptied Held g.drives (apply_all xs v)) (sym stores_all) (emptyings_done g x true v (new_sectors g (by_look k) v) emptied Held Left first more in_first_lem same one_of)

  -- FINISHED
  pub record AfterParityLogs (u : Device) : Type 0 where
    pub some : FilledSome g x l k u
    pub roles_are : (e : ℕ) → Here g x e → roles g u e ≡ roles_after true emptied (roles g v) e
    pub room : ((e : ℕ) → Here g x e → emptied e ≡ false → RoomAt g v e) → EntryRoom g x (by_roles g u)

  finished : AfterParityLogs (apply_all all_stores_lem v)
  finished = record { some = some progress.mode; roles_are = λ e a. progress.done e a (present_below g x e a); room = λ old e a. room old e a (emptied e) refl }
    where
      some : (apply_all all_stores_lem v ≡ v) ⊎ (Solid g x (apply_all all_stores_lem v) × Held (apply_all all_stores_lem v)) → FilledSome g x l k (apply_all all_stores_lem v)
      some (inl q) = subst (λ (u : Device). FilledSome g x l k u) (sym q) start
      some (inr (s, h)) = h

      room : ((e : ℕ) → Here g x e → emptied e ≡ false → RoomAt g v e) → (e : ℕ) → Here g x e → (b : Bool) → emptied e ≡ b → RoomAt g (apply_all all_stores_lem v) e
      room old e a false b = rw (sectors_seen g v (apply_all all_stores_lem v) e (progress.left e a (inr b)) parity_zone) (old e a b)
      room old e a true b =
          let hd = present_below g x e a in
          let kn = known e hd b in
          rw (progress.logs e a hd b) (let t = mount_parity_size g ok x v c l k fa e kn.here kn.can in omega (arith, t, kn.room))

  -- AT THE END OF THE FIRST FLUSH OF DRIVE d's: filled
  pub parity_logs_at_flush : (d : ℕ) → d < g.drives → emptied d ≡ true → let u = at_flush g x true (roles g v) emptied (new_sectors g (by_look k) v) v d in FilledSome g x l k u × SameSectors v u d
  parity_logs_at_flush = flush_held g x true v (new_sectors g (by_look k) v) emptied Held Left first more in_first_lem same one_of

  -- STEP 10
  pub parity_logs_stopped : (n : ℕ) (w : Device) → Cut x (apply_all (take n (emptyings g (present_but g x) true (roles g v) emptied (new_sectors g (by_look k) v))) v) w → KeptBy g x w l
  parity_logs_stopped = emptyings_stopped g x true v (new_sectors g (by_look k) v) emptied Held Left first more in_first_lem same one_of

  pub parity_logs_first : (n : ℕ) (w : Device) → Cut x (apply_all (take n (flush_stores g (present_but g x))) v) w → KeptBy g x w l
  parity_logs_first = in_first_lem

  pub parity_logs_finished : AfterParityLogs (apply_all (empty_parity g (present_but g x) (roles g v) (by_look k) emptied (by_roles g v)) v)
  parity_logs_finished = finished
