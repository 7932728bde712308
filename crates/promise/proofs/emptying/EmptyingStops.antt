-- The stores of an emptying, of either log, stopped after any number of them, then any cut. Inside its first flush nothing has changed but what is
-- durable. From that flush on a cut leaves all as it was but a beginning of the new log in drive d's spare; or all of the new log, and the old zone
-- as it was or blank (LeftBy). (v: the device at the first flush's end, so all on the present drives is durable; ss: the new log's sectors.)
use Rattle.std.specs.Prelude.{◌≡◌, refl, ◌≢◌, ◌⊎◌, Bool, true, false, ◌&&◌, ℕ, suc, ◌+◌, ◌-◌, ◌≤◌, ◌<◌, min, List, [], ◌∷◌, ◌++◌, map, length, take, eqb}
use Rattle.std.proofs.Common.{sym, ap, ◌∙◌, subst, inl, inr, arith, append-nil, append_assoc, length-append, length-take, take_all, take-take, eq-eqb, ne_eqb}
use Rattle.std.proofs.Math.Decide.{ℕ_discrete, dec_lt}
use Rattle.std.proofs.lemmas.List.{take-append-le}
use Rattle.std.proofs.Math.Seq.{take-append-add}
use Rattle.tables.specs.meaning.Basics.{pick}
use Rattle.tables.specs.laws.Lists.{Prefix, prefix_one}
use Rattle.tables.specs.meaning.Device.{ZoneView, Device, Store, reset, flushed, appended, blank_zone, apply_all, ZoneCut, Cut}
use Rattle.tables.specs.laws.Device.{cut_at, apply_all_append}
use Rattle.tables.specs.laws.Local.{LocalStore, append_here, reset_here, flush_here, apply_all_here, local_stores, local_append, local_is, local_take, appends_here}
use Rattle.tables.specs.meaning.Phases.{flush_all}
use Rattle.tables.specs.laws.Phases.{on_present_local, flush_all_local}
use Rattle.tables.specs.meaning.Drives.{present_but}
use Rattle.tables.specs.laws.Drives.{present_below, present_not}
use Rattle.tables.specs.declared.Geometry.{Geometry}
use Rattle.volume.specs.meaning.Calls.{append_all, flush_stores}
use Rattle.volume.specs.meaning.Emptying.{emptying_stores}
use Rattle.promise.proofs.invariant.Invariant.{Here}
use Rattle.promise.proofs.calls.WriteLocal.{appends_own, appends_other_zone, appends_other_drive}

-- ---- a zone of which all is durable
pub solid_flushed : (a : ZoneView) → a.durable ≡ length a.sectors → flushed a ≡ a
solid_flushed a h = λ i. record { sectors = a.sectors; durable = sym h i }

pub solid_cut : (a b : ZoneView) → ZoneCut a b → a.durable ≡ length a.sectors → b ≡ a
solid_cut a b c h =
    let k : c.kept ≡ length a.sectors = omega (arith, c.least, c.most, h) in
    let t : take c.kept a.sectors ≡ a.sectors = take_all c.kept a.sectors (omega (arith, k)) in
    c.is ∙ (λ i. record { sectors = t i; durable = (k ∙ sym h) i })

-- all of the present drives is durable
abbrev pub Solid : Geometry → ℕ → Device → Type 0
Solid g x v = (e y : ℕ) → Here g x e → (v e y).durable ≡ length (v e y).sectors

-- what a cut leaves of the present drives
abbrev pub CutHere : Geometry → ℕ → Device → Device → Type 0
CutHere g x v w = (e y : ℕ) → Here g x e → ZoneCut (v e y) (w e y)

pub cut_here : (g : Geometry) (x : ℕ) (v w : Device) → Cut x v w → CutHere g x v w
cut_here g x v w c e y a = cut_at x v w c e y (present_not g x e a)

-- ---- what a zone sees of appends to one
appends_elsewhere : (d y e z : ℕ) (ss : List (List ℕ)) → (e ≢ d) ⊎ (z ≢ y) → local_stores e z (append_all d y ss) ≡ []
appends_elsewhere d y e z ss (inl p) = side (ℕ_discrete z y)
  where
    side : Dec (z ≡ y) → local_stores e z (append_all d y ss) ≡ []
    side (yes q) = rw q (appends_other_drive e d y ss p)
    side (no q) = appends_other_zone e d z y ss q
appends_elsewhere d y e z ss (inr p) = appends_other_zone e d z y ss p

-- a part of appends and a flush: some of them are there
part_of : (ss : List (List ℕ)) (os : List LocalStore) (b : ZoneView) → Prefix os (map append_here ss ++ (flush_here ∷ [])) → (m : ℕ) × ((apply_all_here os b).sectors ≡ b.sectors ++ take m ss)
part_of ss [] b p = (0, sym (append-nil b.sectors))
part_of [] (o ∷ os) b p = go (prefix_one flush_here (o ∷ os) p)
  where
    go : (o ∷ os ≡ []) ⊎ (o ∷ os ≡ flush_here ∷ []) → (m : ℕ) × ((apply_all_here (o ∷ os) b).sectors ≡ b.sectors ++ take m [])
    go (inl e) = absurd (let z : ◌≡◌ {A = ℕ} 0 1 = cc in omega arith)
    go (inr e) = (0, rw e (sym (append-nil b.sectors)))
part_of (s ∷ ss) (o ∷ os) b p =
    let e : o ∷ (os ++ p.rest) ≡ append_here s ∷ (map append_here ss ++ (flush_here ∷ [])) = p.is in
    let q : o ≡ append_here s = cc in
    let r : os ++ p.rest ≡ map append_here ss ++ (flush_here ∷ []) = cc in
    let (m, t) = part_of ss os (appended s b) (record { rest = p.rest; is = r }) in
    (suc m, rw q (t ∙ append_assoc b.sectors (s ∷ []) (take m ss)))

-- ---- the stores behind the first flush: the new log, a flush, the reset of the old zone
abbrev pub after_first_flush : Geometry → ℕ → ℕ → ℕ → ℕ → List (List ℕ) → List Store
after_first_flush g x d old spare ss = (append_all d spare ss ++ flush_stores g (present_but g x)) ++ (reset d old ∷ [])

-- what a stop and a cut left of drive d's two zones, all other zones of present drives being as they were
pub data LeftBy (g : Geometry) (x : ℕ) (v w : Device) (d old spare : ℕ) (ss : List (List ℕ)) : Type 0 where
  part : ((e y : ℕ) → Here g x e → (e ≢ d) ⊎ (y ≢ spare) → w e y ≡ v e y)
      → (m : ℕ) → m < length ss → (w d spare).sectors ≡ take m ss → (w d spare).durable ≤ length (w d spare).sectors → LeftBy g x v w d old spare ss
  all : ((e y : ℕ) → Here g x e → (e ≢ d) ⊎ ((y ≢ spare) × (y ≢ old)) → w e y ≡ v e y)
      → w d spare ≡ record { sectors = ss; durable = length ss } → (w d old ≡ v d old) ⊎ (w d old ≡ blank_zone) → LeftBy g x v w d old spare ss

module _ (g : Geometry) (x : ℕ) (v : Device) (solid : Solid g x v) (d : ℕ) (hd : Here g x d) (old spare : ℕ) (apart : old ≢ spare) (blank : (v d spare).sectors ≡ []) (ss : List (List ℕ)) where
  abbrev A : List Store
  A = append_all d spare ss

  abbrev B : List Store
  B = flush_stores g (present_but g x)

  sees_flush : (e y : ℕ) → Here g x e → local_stores e y B ≡ flush_here ∷ []
  unfolding flush_stores
  sees_flush e y a = on_present_local (present_but g x) e y (flush_all g.drives) a ∙ flush_all_local e y g.drives (present_below g x e a)

  sees_ab : (e y : ℕ) → Here g x e → (e ≢ d) ⊎ (y ≢ spare) → local_stores e y (A ++ B) ≡ flush_here ∷ []
  sees_ab e y a n = local_append e y A B ∙ rw (appends_elsewhere d spare e y ss n, sees_flush e y a) refl

  own_ab : local_stores d spare (A ++ B) ≡ map append_here ss ++ (flush_here ∷ [])
  own_ab = local_append d spare A B ∙ rw (appends_own d spare ss, sees_flush d spare hd) refl

  still : (e y : ℕ) → Here g x e → (os : List LocalStore) → (os ≡ []) ⊎ (os ≡ flush_here ∷ []) → apply_all_here os (v e y) ≡ v e y
  still e y a os (inl q) = rw q refl
  still e y a os (inr q) = rw q (solid_flushed (v e y) (solid e y a))

  weaken : (e y : ℕ) → (e ≢ d) ⊎ ((y ≢ spare) × (y ≢ old)) → ((e ≢ d) ⊎ (y ≢ spare)) × ((e ≢ d) ⊎ (y ≢ old))
  weaken e y (inl o) = (inl o, inl o)
  weaken e y (inr o) = (inr o.0, inr o.1)

  -- no more than the second flush was reached
  module _ (k : ℕ) (w : Device) (c : CutHere g x (apply_all (take k (A ++ B)) v) w) where
    others : (e y : ℕ) → Here g x e → (e ≢ d) ⊎ (y ≢ spare) → w e y ≡ v e y
    others e y a n =
        let p : Prefix (local_stores e y (take k (A ++ B))) (flush_here ∷ []) = rw (sees_ab e y a n) at (local_take e y k (A ++ B)) in
        let s : apply_all (take k (A ++ B)) v e y ≡ v e y = local_is e y (take k (A ++ B)) v ∙ still e y a (local_stores e y (take k (A ++ B))) (prefix_one flush_here (local_stores e y (take k (A ++ B))) p) in
        solid_cut (v e y) (w e y) (rw s at (c e y a)) (solid e y a)

    left_early : LeftBy g x v w d old spare ss
    left_early =
        let p : Prefix (local_stores d spare (take k (A ++ B))) (map append_here ss ++ (flush_here ∷ [])) = rw own_ab at (local_take d spare k (A ++ B)) in
        let (m, t) = part_of ss (local_stores d spare (take k (A ++ B))) (v d spare) p in
        let s : (apply_all (take k (A ++ B)) v d spare).sectors ≡ take m ss = ap (λ (z : ZoneView). z.sectors) (local_is d spare (take k (A ++ B)) v) ∙ t ∙ rw blank refl in
        go m s (c d spare hd)
      where
        go : (m : ℕ) → (apply_all (take k (A ++ B)) v d spare).sectors ≡ take m ss → ZoneCut (apply_all (take k (A ++ B)) v d spare) (w d spare) → LeftBy g x v w d old spare ss
        go m s z =
            let b : z.kept ≤ length (take m ss) = rw (← s) z.most in
            let b2 : z.kept ≤ min m (length ss) = rw length-take at b in
            let f : (w d spare).sectors ≡ take z.kept ss = ap (λ (u : ZoneView). u.sectors) z.is ∙ ap (take z.kept) s ∙ take-take z.kept m ss (omega (arith, b2)) in
            let h : (w d spare).durable ≡ z.kept = ap (λ (u : ZoneView). u.durable) z.is in
            which z.kept b2 f h (dec_lt z.kept (length ss))
          where
            which : (j : ℕ) → j ≤ min m (length ss) → (w d spare).sectors ≡ take j ss → (w d spare).durable ≡ j → Dec (j < length ss) → LeftBy g x v w d old spare ss
            which j b f h (yes q) = part others j q f (rw (f, length-take, h) (omega (arith, q)))
            which j b f h (no q) =
                let e : take j ss ≡ ss = take_all j ss (omega (arith, q)) in
                let n : j ≡ length ss = omega (arith, b, q) in
                all (λ e y a o. others e y a (weaken e y o).0) (λ i. record { sectors = (f ∙ e) i; durable = (h ∙ n) i }) (inl (others d old hd (inr apart)))

  -- all stores were made
  abbrev C : List Store
  C = reset d old ∷ []

  reset_elsewhere : (e y : ℕ) → (e ≢ d) ⊎ (y ≢ old) → local_stores e y C ≡ []
  reset_elsewhere e y (inl p) = rw (ne_eqb e d p) refl
  reset_elsewhere e y (inr p) = two (eqb e d)
    where
      two : (b : Bool) → pick (b && eqb y old) (reset_here ∷ []) [] ++ [] ≡ []
      two true = rw (ne_eqb y old p) refl
      two false = refl

  -- as each zone sees them
  pub whole_other : (e y : ℕ) → Here g x e → (e ≢ d) ⊎ ((y ≢ spare) × (y ≢ old)) → apply_all ((A ++ B) ++ C) v e y ≡ v e y
  whole_other e y a o =
      let s : local_stores e y ((A ++ B) ++ C) ≡ flush_here ∷ [] = local_append e y (A ++ B) C ∙ rw (sees_ab e y a (weaken e y o).0, reset_elsewhere e y (weaken e y o).1) refl in
      local_is e y ((A ++ B) ++ C) v ∙ ap (λ (os : List LocalStore). apply_all_here os (v e y)) s ∙ solid_flushed (v e y) (solid e y a)

  pub whole_spare : apply_all ((A ++ B) ++ C) v d spare ≡ record { sectors = ss; durable = length ss }
  whole_spare =
      let s : local_stores d spare ((A ++ B) ++ C) ≡ map append_here ss ++ (flush_here ∷ []) = local_append d spare (A ++ B) C ∙ rw (own_ab, reset_elsewhere d spare (inr (λ q. apart (sym q))), append-nil) refl in
      let a : apply_all_here (map append_here ss ++ (flush_here ∷ [])) (v d spare) ≡ flushed (record { sectors = (v d spare).sectors ++ ss; durable = (v d spare).durable }) = appends_here ss (flush_here ∷ []) (v d spare) in
      let b : flushed (record { sectors = (v d spare).sectors ++ ss; durable = (v d spare).durable }) ≡ record { sectors = ss; durable = length ss } = rw blank refl in
      local_is d spare ((A ++ B) ++ C) v ∙ ap (λ (os : List LocalStore). apply_all_here os (v d spare)) s ∙ a ∙ b

  pub whole_old : apply_all ((A ++ B) ++ C) v d old ≡ blank_zone
  whole_old =
      let s : local_stores d old ((A ++ B) ++ C) ≡ flush_here ∷ (reset_here ∷ []) = local_append d old (A ++ B) C ∙ rw (sees_ab d old hd (inr apart), eq-eqb d d refl, eq-eqb old old refl) refl in
      local_is d old ((A ++ B) ++ C) v ∙ ap (λ (os : List LocalStore). apply_all_here os (v d old)) s

  -- before the last of them
  pub early_other : (e y : ℕ) → Here g x e → (e ≢ d) ⊎ (y ≢ spare) → apply_all (A ++ B) v e y ≡ v e y
  early_other e y a n = local_is e y (A ++ B) v ∙ ap (λ (os : List LocalStore). apply_all_here os (v e y)) (sees_ab e y a n) ∙ solid_flushed (v e y) (solid e y a)

  pub early_spare : apply_all (A ++ B) v d spare ≡ record { sectors = ss; durable = length ss }
  early_spare =
      let a : apply_all_here (map append_here ss ++ (flush_here ∷ [])) (v d spare) ≡ flushed (record { sectors = (v d spare).sectors ++ ss; durable = (v d spare).durable }) = appends_here ss (flush_here ∷ []) (v d spare) in
      let b : flushed (record { sectors = (v d spare).sectors ++ ss; durable = (v d spare).durable }) ≡ record { sectors = ss; durable = length ss } = rw blank refl in
      local_is d spare (A ++ B) v ∙ ap (λ (os : List LocalStore). apply_all_here os (v d spare)) own_ab ∙ a ∙ b

  -- FINISHED: all is durable again
  pub emptying_solid : Solid g x (apply_all (after_first_flush g x d old spare ss) v)
  emptying_solid e y a = go (ℕ_discrete e d) (ℕ_discrete y spare) (ℕ_discrete y old)
    where
      go : Dec (e ≡ d) → Dec (y ≡ spare) → Dec (y ≡ old) → (apply_all ((A ++ B) ++ C) v e y).durable ≡ length (apply_all ((A ++ B) ++ C) v e y).sectors
      go (no p) q r = rw (whole_other e y a (inl p)) (solid e y a)
      go (yes p) (yes q) r = rw (p, q, whole_spare) refl
      go (yes p) (no q) (yes r) = rw (p, r, whole_old) refl
      go (yes p) (no q) (no r) = rw (whole_other e y a (inr (q, r))) (solid e y a)

  module _ (w : Device) (c : CutHere g x (apply_all ((A ++ B) ++ C) v) w) where
    left_late : LeftBy g x v w d old spare ss
    left_late = all (λ e y a o. at e y a (v e y) (whole_other e y a o) (solid e y a)) (at d spare hd (record { sectors = ss; durable = length ss }) whole_spare refl) (inr (at d old hd blank_zone whole_old refl))
      where
        at : (e y : ℕ) → Here g x e → (b : ZoneView) → apply_all ((A ++ B) ++ C) v e y ≡ b → b.durable ≡ length b.sectors → w e y ≡ b
        at e y a b s h = solid_cut b (w e y) (rw s at (c e y a)) h

  -- WHEREVER IT IS STOPPED, WHATEVER A CUT KEEPS
  pub emptying_left : (k : ℕ) (w : Device) → CutHere g x (apply_all (take k (after_first_flush g x d old spare ss)) v) w → LeftBy g x v w d old spare ss
  emptying_left k w c = go (dec_lt (length (A ++ B)) k)
    where
      go : Dec (length (A ++ B) < k) → LeftBy g x v w d old spare ss
      go (no h) = left_early k w (subst (λ (xs : List Store). CutHere g x (apply_all xs v) w) (take-append-le k (A ++ B) C (omega (arith, h))) c)
      go (yes h) = left_late w (subst (λ (xs : List Store). CutHere g x (apply_all xs v) w) (take_all k ((A ++ B) ++ C) (rw length-append (omega (arith, h)))) c)

-- ---- where the first flush ends
pub emptying_is : (g : Geometry) (x d old spare : ℕ) (ss : List (List ℕ)) → emptying_stores g (present_but g x) d old spare ss ≡ flush_stores g (present_but g x) ++ after_first_flush g x d old spare ss
unfolding emptying_stores flush_stores
emptying_is g x d old spare ss = ap (λ (xs : List Store). flush_stores g (present_but g x) ++ xs) (sym (append_assoc (append_all d spare ss) (flush_stores g (present_but g x)) (reset d old ∷ [])))

-- a stop is inside it, or behind it
pub data StoppedAt (g : Geometry) (x d old spare : ℕ) (ss : List (List ℕ)) (k : ℕ) (v : Device) : Type 0 where
  in_flush : (j : ℕ) → apply_all (take k (emptying_stores g (present_but g x) d old spare ss)) v ≡ apply_all (take j (flush_stores g (present_but g x))) v → StoppedAt g x d old spare ss k v
  behind_flush : (j : ℕ) → apply_all (take k (emptying_stores g (present_but g x) d old spare ss)) v ≡ apply_all (take j (after_first_flush g x d old spare ss)) (apply_all (flush_stores g (present_but g x)) v) → StoppedAt g x d old spare ss k v

module _ (g : Geometry) (x d old spare : ℕ) (ss : List (List ℕ)) (k : ℕ) (v : Device) where
  abbrev F : List Store
  F = flush_stores g (present_but g x)

  abbrev R : List Store
  R = after_first_flush g x d old spare ss

  pub stopped_at_lem : StoppedAt g x d old spare ss k v
  stopped_at_lem = go (dec_lt k (length F))
    where
      is : apply_all (take k (emptying_stores g (present_but g x) d old spare ss)) v ≡ apply_all (take k (F ++ R)) v
      is = ap (λ (xs : List Store). apply_all (take k xs) v) (emptying_is g x d old spare ss)

      go : Dec (k < length F) → StoppedAt g x d old spare ss k v
      go (yes h) = in_flush k (is ∙ ap (λ (xs : List Store). apply_all xs v) (take-append-le k F R (omega (arith, h))))
      go (no h) =
          let j = k - length F in
          let e : k ≡ length F + j = omega arith in
          let p : take k (F ++ R) ≡ F ++ take j R = ap (λ (i : ℕ). take i (F ++ R)) e ∙ take-append-add F R j in
          behind_flush j (is ∙ ap (λ (xs : List Store). apply_all xs v) p ∙ apply_all_append F (take j R) v)

pub emptying_whole : (g : Geometry) (x d old spare : ℕ) (ss : List (List ℕ)) (v : Device) → apply_all (emptying_stores g (present_but g x) d old spare ss) v ≡ apply_all (after_first_flush g x d old spare ss) (apply_all (flush_stores g (present_but g x)) v)
emptying_whole g x d old spare ss v = ap (λ (xs : List Store). apply_all xs v) (emptying_is g x d old spare ss) ∙ apply_all_append (flush_stores g (present_but g x)) (after_first_flush g x d old spare ss) v
