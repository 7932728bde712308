-- THE EMPTYING OF ONE GENERAL LOG, from its first flush's end on (v: the device there): stopped after any number of stores and cut in any way, the
-- drives stand in the old roles or the new, the invariant holds by them, and every look shows the same (reading 15). Finished: in the new ones, at
-- rest if all was.
use Rattle.std.specs.Prelude.{◌≡◌, refl, ◌≢◌, ◌⊎◌, Bool, false, ℕ, zero, ◌+◌, ◌≤◌, ◌<◌, length, take, eqb}
use Rattle.std.proofs.Common.{sym, ap, ◌∙◌, subst, inl, inr, arith, length-take, length-append}
use mathlib.Core.List.{List, [], ◌∷◌, ◌++◌, map, Memᴰ}
use Rattle.std.proofs.lemmas.List.{take-append-le}
use Rattle.tables.specs.meaning.Basics.{pick}
use Rattle.tables.specs.laws.Lists.{take_map, length_map, map_append, mem_take}
use Rattle.tables.specs.meaning.Device.{ZoneView, Device, Store, apply_all, Cut}
use Rattle.tables.specs.meaning.Drives.{present_but}
use Rattle.tables.specs.declared.Geometry.{Geometry}
use Rattle.tables.specs.meaning.Geometry.{Valid}
use Rattle.logs.specs.meaning.Entry.{general_zone, spare_zone, worn_generation, Header, closing, encode}
use Rattle.logs.specs.meaning.Copies.{copied_general}
use Rattle.logs.specs.laws.Copies.{Copied, copied_open}
use Rattle.volume.specs.meaning.Calls.{append_all, generations_from, flush_stores}
use Rattle.volume.specs.meaning.State.{StateView}
use Rattle.volume.specs.meaning.Rules.{general_heads}
use Rattle.volume.specs.meaning.Roles.{zone_claim, Roles, roles, by_roles, emptied_roles, roles_after}
use Rattle.volume.specs.meaning.Emptying.{InForce, general_copies, new_general, new_general_size}
use Rattle.volume.specs.laws.Firm.{proper_apart, firm_roles}
use Rattle.promise.specs.meaning.Ledger.{Ledger}
use Rattle.promise.proofs.invariant.Invariant.{Ghost, Here, Inv, Rest, LogGenerations}
use Rattle.promise.proofs.look.LookReads.{general_heads_lem}
use Rattle.promise.proofs.roles.Roled.{Standing}
use Rattle.promise.proofs.roles.RoledCalls.{RoledInvs, RoledRests}
use Rattle.promise.proofs.emptying.AskedSame.{NamedBut, ShowsSame}
use Rattle.promise.proofs.emptying.EmptyingStops.{LeftBy, part, all, Solid, after_first_flush, emptying_left, emptying_solid, whole_other, whole_spare, whole_old, early_other, early_spare, cut_here}
use Rattle.promise.proofs.emptying.CanEmpty.{CanEmptyLog}
use Rattle.promise.proofs.emptying.Forced.{Forced, forced_force, force_forced, forced_small}
use Rattle.promise.proofs.emptying.EmptiedGeneral.{general_log, new_generation, emptied_ghost, Copyable, copy_of, copy_reads, emptied_logs}
use Rattle.promise.proofs.emptying.EmptyingCuts.{open_claims}
use Rattle.promise.proofs.emptying.SpareFills.{SpareFills, filling_standing, filling_invs, filling_shows}
use Rattle.promise.proofs.emptying.EmptyingKeeps.{Swapped, swapped_firm, swapped_standing, swapped_to, swapped_invs, swapped_rests, swapped_force, swapped_shows}

-- ---- the stores
abbrev pub new_general_of : Geometry → InForce → Device → ℕ → List (List ℕ)
new_general_of g f v d = new_general g f (roles g v d) d (general_heads g (by_roles g v) d)

abbrev pub general_size_of : Geometry → InForce → Device → ℕ → ℕ
general_size_of g f v d = new_general_size g f (general_heads g (by_roles g v) d)

-- behind the first flush
abbrev pub general_rest : Geometry → ℕ → InForce → Device → ℕ → List Store
general_rest g x f v d = after_first_flush g x d (roles g v d).general (roles g v d).spare (new_general_of g f v d)

pub new_general_sectors : (g : Geometry) (f : InForce) (r : Roles) (d : ℕ) (hs : List Header) → new_general g f r d hs ≡ map (encode g d) (general_log g f.generation hs r.general_claim)
unfolding new_general general_copies
new_general_sectors g f r d hs = sym (map_append (encode g d) (copied_general g f.generation (generations_from f.generation zero g.zones) hs) (closing 0 r.general_claim ∷ []))

pub new_general_size_lem : (g : Geometry) (f : InForce) (hs : List Header) (n : ℕ) → length (general_log g f.generation hs n) ≡ new_general_size g f hs
unfolding new_general_size general_copies
new_general_size_lem g f hs n = length-append (copied_general g f.generation (generations_from f.generation zero g.zones) hs) (closing 0 n ∷ []) ∙ omega arith

pub new_general_long : (g : Geometry) (f : InForce) (r : Roles) (d : ℕ) (hs : List Header) → length (new_general g f r d hs) ≡ new_general_size g f hs
new_general_long g f r d hs = ap length (new_general_sectors g f r d hs) ∙ length_map (encode g d) (general_log g f.generation hs r.general_claim) ∙ new_general_size_lem g f hs r.general_claim

-- ==== the emptying
module _ (g : Geometry) (ok : Valid g) (x : ℕ) (v : Device) (γ : Ghost) (s : Standing g x v γ.closed) (l : Ledger) (i : Inv g x (by_roles g v) l γ) (solid : Solid g x v)
    (d : ℕ) (hd : Here g x d) (f : InForce) (forced : Forced g x (by_roles g v) f.generation) (can : CanEmptyLog g false v d (general_size_of g f v d)) where
  abbrev r : Roles
  r = s.roles d

  abbrev gens : ℕ → ℕ
  gens = f.generation

  abbrev front : List Header
  front = copied_general g gens (generations_from gens zero g.zones) (γ.general d)

  abbrev copy : List Header
  copy = general_log g gens (γ.general d) (s.roles d).general_claim

  roles_is : (e : ℕ) → Here g x e → roles g v e ≡ s.roles e
  roles_is e a = firm_roles g v e (s.roles e) (s.firm e a)

  heads_are : general_heads g (by_roles g v) d ≡ γ.general d
  heads_are = general_heads_lem g ok x (by_roles g v) γ i.logs d hd

  sectors_are : new_general_of g f v d ≡ map (encode g d) copy
  sectors_are = new_general_sectors g f (roles g v d) d (general_heads g (by_roles g v) d) ∙ rw (heads_are, roles_is d hd) refl

  small : (z : ℕ) → z < g.zones → gens z ≤ worn_generation
  small = forced_small g ok x (by_roles g v) γ i.logs gens l i.zones forced

  copyable : Copyable g x d γ gens (s.roles d).general_claim
  copyable = record {
    present = hd;
    force = forced_force g ok x (by_roles g v) γ i.logs gens forced;
    small = small;
    some = omega (arith, (s.general_claim_lem d hd).0);
    top = rw (roles_is d hd) at can.top;
    room = rw (new_general_size_lem g f (γ.general d) (s.roles d).general_claim, ← heads_are) can.room;
  }

  abbrev ss : List (List ℕ)
  ss = map (encode g d) copy

  abbrev stores : List Store
  stores = after_first_flush g x d (s.roles d).general (s.roles d).spare ss

  stores_are : general_rest g x f v d ≡ stores
  stores_are = rw (sectors_are, roles_is d hd) refl

  apart : (s.roles d).general ≢ (s.roles d).spare
  apart = (proper_apart (s.roles d) (s.firm d hd).proper).1

  blank : (v d (s.roles d).spare).sectors ≡ []
  blank = rw (roles_is d hd) at can.blank

  -- ---- a beginning of the new log without its closing entry claims nothing
  front_part : (m : ℕ) → m < length ss → take m ss ≡ map (encode g d) (take m front)
  front_part m h =
      let n : length ss ≡ length front + 1 = length_map (encode g d) copy ∙ length-append front (closing 0 (s.roles d).general_claim ∷ []) in
      take_map (encode g d) m copy ∙ ap (map (encode g d)) (take-append-le m front (closing 0 (s.roles d).general_claim ∷ []) (omega (arith, n, h)))

  part_silent : (m k : ℕ) (par : Bool) → zone_claim g d par (take k (map (encode g d) (take m front))) ≡ 0
  part_silent m k par = open_claims g d (take m front) (λ h o. copy_reads g ok x d hd (by_roles g v) γ i.logs gens small h (of h o)) (rw length-take (omega (arith, long))) unclosed k par
    where
      of : (h : Header) → Memᴰ h (take m front) → Copied g gens (generations_from gens zero g.zones) (γ.general d) h
      of h o = copy_of g ok x d hd (by_roles g v) γ i.logs gens h (mem_take m front h o)

      unclosed : (j n : ℕ) → Memᴰ (closing j n) (take m front) → ⊥
      unclosed j n o = copied_open g gens (generations_from gens zero g.zones) (γ.general d) (closing j n) (of (closing j n) o) j n refl

      long : length front ≤ g.capacity
      long = let n : length copy ≡ length front + 1 = length-append front (closing 0 (s.roles d).general_claim ∷ []) in omega (arith, n, copyable.room)

  -- ---- the two ways
  abbrev Left : Device → Type 0
  Left w = SpareFills g x d (s.roles d) v w ⊎ Swapped g x d (s.roles d) copy v w

  left_by_lem : (w : Device) → LeftBy g x v w d (s.roles d).general (s.roles d).spare ss → Left w
  left_by_lem w (part others m lt is lasts) = inl (record {
    others = others;
    silent = λ k par. rw (is, front_part m lt) (part_silent m k par);
    lasts = lasts;
    fits = rw (is, length-take, length_map) (omega (arith, copyable.room));
  })
  left_by_lem w (all others log old) = inr (record { others = others; log = log ∙ (λ j. record { sectors = ss; durable = length_map (encode g d) copy j }); old = old })

  module _ (w : Device) where
    filled_invs : SpareFills g x d (s.roles d) v w → RoledInvs γ.closed g x w l
    filled_invs k = (filling_standing g ok x v γ.closed s d hd w k, filling_invs g ok x v γ.closed s d hd w k l (γ, i, refl))

    swapped_all : Swapped g x d (s.roles d) copy v w → RoledInvs (new_generation γ.closed d (s.roles d).general_claim) g x w l
    swapped_all k = (swapped_standing g ok x v γ s i.logs d gens copyable w k, swapped_invs g ok x v γ s i.logs d gens copyable w k l i.zones)

    by_left : Left w → (e : LogGenerations) × RoledInvs e g x w l
    by_left (inl k) = (γ.closed, filled_invs k)
    by_left (inr k) = (new_generation γ.closed d (s.roles d).general_claim, swapped_all k)

    left_shows : Left w → (y : ℕ) → NamedBut g x y → (z : ℕ) → z < g.zones → ShowsSame g (present_but g y) (by_roles g v) (by_roles g w) z
    left_shows (inl k) y by z hz = filling_shows g ok x v γ.closed s d hd w k γ i.logs y by z
    left_shows (inr k) y by z hz = swapped_shows g ok x v γ s i.logs d gens copyable w k l i.zones y by z hz

  -- WHAT IS LEFT of the drive's two zones, the others being as they were: the invariant, and every look shows the same
  pub general_left : (w : Device) → LeftBy g x v w d (roles g v d).general (roles g v d).spare (new_general_of g f v d) → ((e : LogGenerations) × RoledInvs e g x w l) × ((y : ℕ) → NamedBut g x y → (z : ℕ) → z < g.zones → ShowsSame g (present_but g y) (by_roles g v) (by_roles g w) z)
  general_left w h = let k = left_by_lem w (rw (sectors_are, roles_is d hd) at h) in (by_left w k, left_shows w k)

  -- STOPPED AND CUT
  stopped_left_lem : (k : ℕ) (w : Device) → Cut x (apply_all (take k (general_rest g x f v d)) v) w → Left w
  stopped_left_lem k w c = left_by_lem w (emptying_left g x v solid d hd (s.roles d).general (s.roles d).spare apart blank ss k w (cut_here g x (apply_all (take k stores) v) w (rw stores_are at c)))

  pub general_stopped : (k : ℕ) (w : Device) → Cut x (apply_all (take k (general_rest g x f v d)) v) w → (e : LogGenerations) × RoledInvs e g x w l
  general_stopped k w c = by_left w (stopped_left_lem k w c)

  -- and every look shows the same
  pub general_stopped_shows : (k : ℕ) (w : Device) → Cut x (apply_all (take k (general_rest g x f v d)) v) w → (y : ℕ) → NamedBut g x y → (z : ℕ) → z < g.zones → ShowsSame g (present_but g y) (by_roles g v) (by_roles g w) z
  general_stopped_shows k w c = left_shows w (stopped_left_lem k w c)

  -- FINISHED
  abbrev after : Device
  after = apply_all (general_rest g x f v d) v

  done : Swapped g x d (s.roles d) copy v after
  done =
      let p = (s.roles d).general in
      let q = (s.roles d).spare in
      rw stores_are (record {
        others = whole_other g x v solid d hd p q apart blank ss;
        log = whole_spare g x v solid d hd p q apart blank ss ∙ (λ j. record { sectors = ss; durable = length_map (encode g d) copy j });
        old = inr (whole_old g x v solid d hd p q apart blank ss);
      })

  claim_is : (s.roles d).general_claim ≡ (roles g v d).general_claim
  claim_is = ap (λ (q : Roles). q.general_claim) (sym (roles_is d hd))

  -- (the log's generation is what was the strength of its claim: one above the old log's)
  pub general_finished : RoledInvs (new_generation γ.closed d (roles g v d).general_claim) g x after l
  general_finished = subst (λ (j : ℕ). RoledInvs (new_generation γ.closed d j) g x after l) claim_is (swapped_all after done)

  pub general_finished_rests : (state : StateView) → Rest g x (by_roles g v) state l γ → RoledRests (new_generation γ.closed d (roles g v d).general_claim) g x after state l
  general_finished_rests state q = subst (λ (j : ℕ). RoledRests (new_generation γ.closed d j) g x after state l) claim_is (swapped_standing g ok x v γ s i.logs d gens copyable after done, swapped_rests g ok x v γ s i.logs d gens copyable after done state l q)

  pub general_finished_roles : (e : ℕ) → Here g x e → roles g after e ≡ roles_after false (λ j. eqb j d) (roles g v) e
  general_finished_roles e a =
      firm_roles g after e (roles_after false (λ j. eqb j d) s.roles e) (swapped_firm g ok x v γ s i.logs d gens copyable after done e a)
      ∙ ap (λ (q : Roles). pick (eqb e d) (emptied_roles false q) q) (sym (roles_is e a))

  -- BEFORE ITS LAST STORE, the reset of the old zone: the same
  abbrev pub unreset : Device
  unreset = apply_all (append_all d (roles g v d).spare (new_general_of g f v d) ++ flush_stores g (present_but g x)) v

  undone : Swapped g x d (s.roles d) copy v unreset
  undone =
      let p = (s.roles d).general in
      let q = (s.roles d).spare in
      rw (sectors_are, roles_is d hd) (record {
        others = λ e y a o. early_other g x v solid d hd p q apart blank ss e y a (spared e y o);
        log = early_spare g x v solid d hd p q apart blank ss ∙ (λ j. record { sectors = ss; durable = length_map (encode g d) copy j });
        old = inl (early_other g x v solid d hd p q apart blank ss d p hd (inr apart));
      })
    where
      spared : (e y : ℕ) → (e ≢ d) ⊎ ((y ≢ (s.roles d).spare) × (y ≢ (s.roles d).general)) → (e ≢ d) ⊎ (y ≢ (s.roles d).spare)
      spared e y (inl h) = inl h
      spared e y (inr h) = inr h.0

  pub general_before_rests : (state : StateView) → Rest g x (by_roles g v) state l γ → RoledRests (new_generation γ.closed d (roles g v d).general_claim) g x unreset state l
  general_before_rests state q = subst (λ (j : ℕ). RoledRests (new_generation γ.closed d j) g x unreset state l) claim_is (swapped_standing g ok x v γ s i.logs d gens copyable unreset undone, swapped_rests g ok x v γ s i.logs d gens copyable unreset undone state l q)

  pub general_before_roles : (e : ℕ) → Here g x e → roles g unreset e ≡ roles_after false (λ j. eqb j d) (roles g v) e
  general_before_roles e a =
      firm_roles g unreset e (roles_after false (λ j. eqb j d) s.roles e) (swapped_firm g ok x v γ s i.logs d gens copyable unreset undone e a)
      ∙ ap (λ (q : Roles). pick (eqb e d) (emptied_roles false q) q) (sym (roles_is e a))

  pub general_before_forced : Forced g x (by_roles g unreset) gens
  general_before_forced =
      let to = swapped_to g ok x v γ s i.logs d gens copyable unreset undone in
      force_forced g ok x (by_roles g unreset) (emptied_ghost γ d copy (s.roles d).general_claim) (emptied_logs g ok x d (by_roles g v) (by_roles g unreset) γ i.logs gens (s.roles d).general_claim copyable to) gens (swapped_force g ok x v γ s i.logs d gens copyable unreset undone)

  pub general_before_shows : (y : ℕ) → NamedBut g x y → (z : ℕ) → z < g.zones → ShowsSame g (present_but g y) (by_roles g v) (by_roles g unreset) z
  general_before_shows = left_shows unreset (inr undone)

  -- the device by them: drive d's general log is the new one, nothing else changed but its spare
  pub general_finished_log : (by_roles g after d general_zone).sectors ≡ new_general_of g f v d
  general_finished_log = ap (λ (z : ZoneView). z.sectors) (swapped_to g ok x v γ s i.logs d gens copyable after done).log ∙ sym sectors_are

  pub general_finished_kept : (y : ℕ) → y ≢ general_zone → y ≢ spare_zone → (by_roles g after d y).sectors ≡ (by_roles g v d y).sectors
  general_finished_kept y n k = ap (λ (z : ZoneView). z.sectors) ((swapped_to g ok x v γ s i.logs d gens copyable after done).others d y hd (inr n) k)

  pub general_finished_solid : Solid g x after
  general_finished_solid = rw stores_are (emptying_solid g x v solid d hd (s.roles d).general (s.roles d).spare apart blank ss)

  -- the other drives are as they were
  pub general_finished_other : (e y : ℕ) → Here g x e → e ≢ d → after e y ≡ v e y
  general_finished_other e y a h = done.others e y a (inl h)

  -- the generations in force stay, and every look shows the same
  pub general_finished_forced : Forced g x (by_roles g after) gens
  general_finished_forced =
      let to = swapped_to g ok x v γ s i.logs d gens copyable after done in
      force_forced g ok x (by_roles g after) (emptied_ghost γ d copy (s.roles d).general_claim) (emptied_logs g ok x d (by_roles g v) (by_roles g after) γ i.logs gens (s.roles d).general_claim copyable to) gens (swapped_force g ok x v γ s i.logs d gens copyable after done)

  pub general_finished_shows : (y : ℕ) → NamedBut g x y → (z : ℕ) → z < g.zones → ShowsSame g (present_but g y) (by_roles g v) (by_roles g after) z
  general_finished_shows = left_shows after (inr done)
