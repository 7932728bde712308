-- Emptyings on drives that cache resets: what is there after a part of them, an old log put back or not, is what document 01's drives leave after some part of
-- them: an old log that comes back is that of the drive emptied last, before its reset; behind the next flush it is forgotten. Only in the first flush of all
-- may views of before the call be put back. This is of the stores alone. (c: the device and what it remembers at the call's start)
use Rattle.std.specs.Prelude.{◌≡◌, refl, ◌⊎◌, Bool, true, false, ◌&&◌, ℕ, zero, suc, ◌+◌, ◌-◌, ◌≤◌, ◌<◌, length, take, eqb}
use Rattle.std.proofs.Common.{sym, ap, ◌∙◌, subst, inl, inr, arith, length-append, take_all, eqb-true}
use Rattle.std.proofs.Math.Path.{fun_ext}
use Rattle.std.proofs.Math.Decide.{dec_lt}
use mathlib.Core.List.{List, [], ◌∷◌, ◌++◌, append-nil, Memᴰ}
use Rattle.std.proofs.lemmas.List.{take-append-le}
use Rattle.std.proofs.Math.Seq.{take-append-add, take-nil}
use Rattle.tables.specs.meaning.Basics.{pick}
use Rattle.tables.specs.laws.Basics.{and_split}
use Rattle.tables.specs.meaning.Below.{each_below}
use Rattle.tables.specs.laws.Lists.{Prefix, prefix_refl, prefix_trans, prefix_take, prefix_append, prefix_under, prefix_one, prefix_is_take, mem_nil}
use Rattle.tables.specs.meaning.Device.{ZoneView, Device, Store, reset, blank_zone, apply_all, Cut}
use Rattle.tables.specs.laws.Device.{apply_all_append}
use Rattle.tables.specs.laws.Local.{LocalStore, append_here, reset_here, flush_here, apply_all_here, local_stores, local_is, local_append, local_take, NoReset}
use Rattle.tables.specs.meaning.Cached.{Caching, uncached, apply_all_caching}
use Rattle.tables.specs.laws.Cached.{caching_append, now_is, was_is, remember_here}
use Rattle.tables.specs.meaning.Phases.{flush_all}
use Rattle.tables.specs.laws.Phases.{flush_all_local, on_present_local}
use Rattle.tables.specs.meaning.Drives.{present_but}
use Rattle.tables.specs.laws.Drives.{present_below}
use Rattle.tables.specs.declared.Geometry.{Geometry}
use Rattle.volume.specs.meaning.Calls.{append_all, flush_stores}
use Rattle.volume.specs.meaning.Roles.{Roles, zone_of_kind}
use Rattle.volume.specs.meaning.Emptying.{emptying_stores, emptyings}
use Rattle.promise.proofs.invariant.Invariant.{Here}
use Rattle.promise.proofs.invariant.Delayed.{PutBack, Delayed, Forgets, forgets_is, begun_anew, delayed_append, no_resets_forget, no_reset_part}
use Rattle.promise.proofs.roles.Ordinary.{ordinary_part}
use Rattle.promise.proofs.roles.OrdinaryCalls.{flush_ordinary}
use Rattle.promise.proofs.emptying.EmptyingStops.{Solid, solid_flushed, after_first_flush, emptying_is}
use Rattle.promise.proofs.emptying.FlushedRests.{flush_solid}
use Rattle.promise.proofs.emptying.OnPresent.{on_frame}

-- ---- a part of a flush
module _ (g : Geometry) (x : ℕ) where
  abbrev flushes : List Store
  flushes = flush_stores g (present_but g x)

  pub flush_seen : (d y : ℕ) → Here g x d → local_stores d y flushes ≡ flush_here ∷ []
  unfolding flush_stores
  flush_seen d y a = on_present_local (present_but g x) d y (flush_all g.drives) a ∙ flush_all_local d y g.drives (present_below g x d a)

  part_seen : (n d y : ℕ) → Here g x d → (local_stores d y (take n flushes) ≡ []) ⊎ (local_stores d y (take n flushes) ≡ flush_here ∷ [])
  part_seen n d y a = prefix_one flush_here (local_stores d y (take n flushes)) (rw (flush_seen d y a) at (local_take d y n flushes))

  -- what is put back after it was put back before it
  module _ (c : Caching) (n : ℕ) (t : Device) (k : PutBack g x (apply_all_caching (take n flushes) c) t) where
    abbrev before : (d y : ℕ) → (t d y ≡ (apply_all_caching (take n flushes) c).now d y) ⊎ (Here g x d × Memᴰ (t d y) ((apply_all_caching (take n flushes) c).was d y)) → ZoneView
    before d y (inl q) = c.now d y
    before d y (inr q) = t d y

    abbrev pub flushed_from : Device
    flushed_from d y = before d y (k.at d y)

    unflushed : (d y : ℕ) → Here g x d → Memᴰ (t d y) ((apply_all_caching (take n flushes) c).was d y) → (local_stores d y (take n flushes) ≡ []) × Memᴰ (t d y) (c.was d y)
    unflushed d y a m = go (part_seen n d y a)
      where
        m1 : Memᴰ (t d y) (remember_here (local_stores d y (take n flushes)) (c.now d y) (c.was d y))
        m1 = rw (was_is d y (take n flushes) c) at m

        go : (local_stores d y (take n flushes) ≡ []) ⊎ (local_stores d y (take n flushes) ≡ flush_here ∷ []) → (local_stores d y (take n flushes) ≡ []) × Memᴰ (t d y) (c.was d y)
        go (inl e) = (e, rw e at m1)
        go (inr e) = mem_nil (t d y) (rw e at m1)

    pub flushed_from_back : PutBack g x c flushed_from
    flushed_from_back = record { at = λ d y. go d y (k.at d y) }
      where
        go : (d y : ℕ) (q : (t d y ≡ (apply_all_caching (take n flushes) c).now d y) ⊎ (Here g x d × Memᴰ (t d y) ((apply_all_caching (take n flushes) c).was d y))) → (before d y q ≡ c.now d y) ⊎ (Here g x d × Memᴰ (before d y q) (c.was d y))
        go d y (inl q) = inl refl
        go d y (inr (a, m)) = inr (a, (unflushed d y a m).1)

    pub flushed_from_is : t ≡ apply_all (take n flushes) flushed_from
    flushed_from_is = fun_ext λ d. fun_ext λ y. go d y (k.at d y) ∙ sym (local_is d y (take n flushes) flushed_from)
      where
        go : (d y : ℕ) (q : (t d y ≡ (apply_all_caching (take n flushes) c).now d y) ⊎ (Here g x d × Memᴰ (t d y) ((apply_all_caching (take n flushes) c).was d y))) → t d y ≡ apply_all_here (local_stores d y (take n flushes)) (before d y q)
        go d y (inl q) = q ∙ ap (λ (u : Device). u d y) (now_is (take n flushes) c) ∙ local_is d y (take n flushes) c.now
        go d y (inr (a, m)) = sym (ap (λ (os : List LocalStore). apply_all_here os (t d y)) (unflushed d y a m).0)

  -- where all is durable it changes nothing
  pub solid_still : (t : Device) → Solid g x t → (n : ℕ) → apply_all (take n flushes) t ≡ t
  solid_still t s n = fun_ext λ d. fun_ext λ y. go d y (present_but g x d) refl
    where
      here : (d y : ℕ) → Here g x d → (local_stores d y (take n flushes) ≡ []) ⊎ (local_stores d y (take n flushes) ≡ flush_here ∷ []) → apply_all_here (local_stores d y (take n flushes)) (t d y) ≡ t d y
      here d y a (inl e) = rw e refl
      here d y a (inr e) = rw e (solid_flushed (t d y) (s d y a))

      go : (d y : ℕ) (b : Bool) → present_but g x d ≡ b → apply_all (take n flushes) t d y ≡ t d y
      go d y true a = local_is d y (take n flushes) t ∙ here d y a (part_seen n d y a)
      go d y false a = on_frame (present_but g x) (take n flushes) t d y (ordinary_part g x n flushes (flush_ordinary g x)).on a

  -- behind it nothing is remembered
  pub flush_forgets : (c : Caching) (d y : ℕ) → Here g x d → (apply_all_caching flushes c).was d y ≡ []
  flush_forgets c d y a = was_is d y flushes c ∙ ap (λ (os : List LocalStore). remember_here os (c.now d y) (c.was d y)) (flush_seen d y a)

  -- from a device that remembers nothing
  pub flush_part_is : (v : Device) (n : ℕ) (t : Device) → Delayed g x v (take n flushes) t → t ≡ apply_all (take n flushes) v
  flush_part_is v n t k = forgets_is g x v (take n flushes) t (no_resets_forget g x v (take n flushes) (λ d y a. go d y (part_seen n d y a))) k
    where
      go : (d y : ℕ) → (local_stores d y (take n flushes) ≡ []) ⊎ (local_stores d y (take n flushes) ≡ flush_here ∷ []) → NoReset (local_stores d y (take n flushes))
      go d y (inl e) = rw e tt
      go d y (inr e) = rw e tt

  pub flush_forgets_all : (v : Device) → Forgets g x v flushes
  flush_forgets_all v = record { none = λ d y a. ap (λ (os : List LocalStore). remember_here os (v d y) []) (flush_seen d y a) }

-- ---- behind the first flush of one emptying, on drive d
appends_no_reset : (e y d z : ℕ) (ss : List (List ℕ)) → NoReset (local_stores e y (append_all d z ss))
appends_no_reset e y d z [] = tt
appends_no_reset e y d z (s ∷ ss) = go (eqb e d && eqb y z) (appends_no_reset e y d z ss)
  where
    go : (b : Bool) → NoReset (local_stores e y (append_all d z ss)) → NoReset (pick b (append_here s ∷ []) [] ++ local_stores e y (append_all d z ss))
    go true n = n
    go false n = n

no_reset_join : (os ps : List LocalStore) → NoReset os → NoReset ps → NoReset (os ++ ps)
no_reset_join [] ps n m = m
no_reset_join (append_here s ∷ os) ps n m = no_reset_join os ps n m
no_reset_join (reset_here ∷ os) ps n m = absurd n
no_reset_join (flush_here ∷ os) ps n m = no_reset_join os ps n m

abbrev reset_made : Device → ℕ → ℕ → Device
reset_made w d old = apply_all (reset d old ∷ []) w

-- one reset: made, or put back
pub reset_delayed : (g : Geometry) (x : ℕ) (w : Device) (d old : ℕ) (t : Device) → Delayed g x w (reset d old ∷ []) t → (t ≡ w) ⊎ (t ≡ apply_all (reset d old ∷ []) w)
reset_delayed g x w d old t k = which (k.at d old)
  where
    elsewhere : (e y : ℕ) → eqb e d && eqb y old ≡ false → reset_made w d old e y ≡ w e y
    elsewhere e y b = rw b refl

    -- of a place other than the one reset
    other : (e y : ℕ) → eqb e d && eqb y old ≡ false → (t e y ≡ reset_made w d old e y) ⊎ (Here g x e × Memᴰ (t e y) (pick (eqb e d && eqb y old) (w e y ∷ []) [])) → t e y ≡ w e y
    other e y b (inl q) = q ∙ elsewhere e y b
    other e y b (inr (a, m)) = mem_nil (t e y) (rw b at m)

    spot : (e y : ℕ) → eqb e d && eqb y old ≡ true → (e ≡ d) × (y ≡ old)
    spot e y b = let (p, q) = and_split (eqb e d) (eqb y old) b in (eqb-true e d p, eqb-true y old q)

    back : t d old ≡ w d old → t ≡ w
    back q = fun_ext λ e. fun_ext λ y. go e y (eqb e d && eqb y old) refl
      where
        go : (e y : ℕ) (b : Bool) → eqb e d && eqb y old ≡ b → t e y ≡ w e y
        go e y true b = let (p, r) = spot e y b in rw (p, r) q
        go e y false b = other e y b (k.at e y)

    done : t d old ≡ reset_made w d old d old → t ≡ reset_made w d old
    done q = fun_ext λ e. fun_ext λ y. go e y (eqb e d && eqb y old) refl
      where
        go : (e y : ℕ) (b : Bool) → eqb e d && eqb y old ≡ b → t e y ≡ reset_made w d old e y
        go e y true b = let (p, r) = spot e y b in subst (λ (i : ℕ). t i y ≡ reset_made w d old i y) (sym p) (subst (λ (i : ℕ). t d i ≡ reset_made w d old d i) (sym r) q)
        go e y false b = other e y b (k.at e y) ∙ sym (elsewhere e y b)

    single : (b : Bool) → Memᴰ (t d old) (pick b (w d old ∷ []) []) → t d old ≡ w d old
    single true (Memᴰ.head q) = q
    single true (Memᴰ.tail m) = mem_nil (t d old) m
    single false m = mem_nil (t d old) m

    which : (t d old ≡ reset_made w d old d old) ⊎ (Here g x d × Memᴰ (t d old) (pick (eqb d d && eqb old old) (w d old ∷ []) [])) → (t ≡ w) ⊎ (t ≡ reset_made w d old)
    which (inl q) = inr (done q)
    which (inr (a, m)) = inl (back (single (eqb d d && eqb old old) m))

module _ (g : Geometry) (x : ℕ) (d old spare : ℕ) (ss : List (List ℕ)) where
  abbrev A : List Store
  A = append_all d spare ss

  abbrev B : List Store
  B = flush_stores g (present_but g x)

  abbrev C : List Store
  C = reset d old ∷ []

  pub no_reset_ab : (e y : ℕ) → Here g x e → NoReset (local_stores e y (A ++ B))
  no_reset_ab e y a = rw (local_append e y A B, flush_seen g x e y a) (no_reset_join (local_stores e y A) (flush_here ∷ []) (appends_no_reset e y d spare ss) tt)

  -- a part of what comes before the reset is itself
  early_is : (u : Device) (j : ℕ) (t : Device) → Delayed g x u (take j (A ++ B)) t → t ≡ apply_all (take j (A ++ B)) u
  early_is u j t k = forgets_is g x u (take j (A ++ B)) t (no_resets_forget g x u (take j (A ++ B)) (λ e y a. no_reset_part (local_stores e y (take j (A ++ B))) (local_stores e y (A ++ B)) (local_take e y j (A ++ B)) (no_reset_ab e y a))) k

  solid_ab : (u : Device) → Solid g x (apply_all (A ++ B) u)
  solid_ab u = rw (apply_all_append A B u) (flush_solid g x (apply_all A u))

  solid_reset : (w : Device) → Solid g x w → Solid g x (apply_all C w)
  solid_reset w s e y a = go (eqb e d && eqb y old)
    where
      go : (b : Bool) → (pick b blank_zone (w e y)).durable ≡ length (pick b blank_zone (w e y)).sectors
      go true = refl
      go false = s e y a

  -- all of it: with the reset, or as before it
  pub record LateIs (u t : Device) : Type 0 where
    pub part : List Store
    pub of : Prefix part ((A ++ B) ++ C)
    pub is : t ≡ apply_all part u
    pub solid : Solid g x t

  pub late_is : (u t : Device) → Delayed g x u ((A ++ B) ++ C) t → LateIs u t
  late_is u t k =
      let f = no_resets_forget g x u (A ++ B) no_reset_ab in
      go (reset_delayed g x (apply_all (A ++ B) u) d old t (delayed_append g x u (A ++ B) C t f k))
    where
      go : (t ≡ apply_all (A ++ B) u) ⊎ (t ≡ apply_all C (apply_all (A ++ B) u)) → LateIs u t
      go (inl q) = record { part = A ++ B; of = prefix_append (A ++ B) C; is = q; solid = rw q (solid_ab u) }
      go (inr q) = record { part = (A ++ B) ++ C; of = prefix_refl ((A ++ B) ++ C); is = q ∙ sym (apply_all_append (A ++ B) C u); solid = rw q (solid_reset (apply_all (A ++ B) u) (solid_ab u)) }

  -- any part of it
  pub behind_is : (u : Device) (j : ℕ) (t : Device) → Delayed g x u (take j (after_first_flush g x d old spare ss)) t → (zs : List Store) × Prefix zs (after_first_flush g x d old spare ss) × (t ≡ apply_all zs u)
  behind_is u j t k = go (dec_lt (length (A ++ B)) j)
    where
      go : Dec (length (A ++ B) < j) → (zs : List Store) × Prefix zs ((A ++ B) ++ C) × (t ≡ apply_all zs u)
      go (no h) = (take j (A ++ B), prefix_trans (prefix_take j (A ++ B)) (prefix_append (A ++ B) C), early_is u j t (subst (λ (zs : List Store). Delayed g x u zs t) (take-append-le j (A ++ B) C (omega (arith, h))) k))
      go (yes h) = let l = late_is u t (subst (λ (zs : List Store). Delayed g x u zs t) (take_all j ((A ++ B) ++ C) (rw length-append (omega (arith, h)))) k) in (l.part, l.of, l.is)

-- ---- all of them
module _ (g : Geometry) (x : ℕ) (par : Bool) (r : ℕ → Roles) (emptied : ℕ → Bool) (ss : ℕ → List (List ℕ)) (c : Caching) where
  abbrev v : Device
  v = c.now

  abbrev F : List Store
  F = flush_stores g (present_but g x)

  abbrev one : ℕ → List Store
  one d = pick (emptied d) (emptying_stores g (present_but g x) d (zone_of_kind par (r d)) (r d).spare (ss d)) []

  abbrev up_to : ℕ → List Store
  up_to m = each_below one m

  abbrev rest : ℕ → List Store
  rest m = after_first_flush g x m (zone_of_kind par (r m)) (r m).spare (ss m)

  -- a part of the stores xs, behind their first flush, that leaves t
  pub record PartOf (xs : List Store) (t : Device) : Type 0 where
    pub part : List Store
    pub of : Prefix part xs
    pub behind : length F ≤ length part
    pub is : t ≡ apply_all part v

  -- what is there: in the first flush, which is only so early (Early), or after such a part
  pub data LeftAs (Early : Type 0) (xs : List Store) (t : Device) : Type 0 where
    in_first : Early → (n : ℕ) (u : Device) → PutBack g x c u → t ≡ apply_all (take n F) u → LeftAs Early xs t
    as_part : PartOf xs t → LeftAs Early xs t

  left_more : (P Q : Type 0) (xs ys : List Store) (t : Device) → (P → Q) → LeftAs P xs t → LeftAs Q (xs ++ ys) t
  left_more P Q xs ys t f (in_first e n u k q) = in_first (f e) n u k q
  left_more P Q xs ys t f (as_part p) = as_part (record { part = p.part; of = prefix_trans p.of (prefix_append xs ys); behind = p.behind; is = p.is })

  -- between two emptyings: nothing was stored, or all is durable, whatever is put back
  abbrev Between : List Store → Type 0
  Between xs = (xs ≡ []) ⊎ ((t : Device) → PutBack g x (apply_all_caching xs c) t → Solid g x t × PartOf xs t)

  between_left : (xs : List Store) → Between xs → (t : Device) → PutBack g x (apply_all_caching xs c) t → LeftAs (xs ≡ []) xs t
  between_left xs (inl q) t k = in_first q zero t (subst (λ (zs : List Store). PutBack g x (apply_all_caching zs c) t) q k) refl
  between_left xs (inr f) t k = as_part (f t k).1

  -- a part of the flush that follows
  flush_left : (xs : List Store) → Between xs → (n : ℕ) (t : Device) → PutBack g x (apply_all_caching (take n F) (apply_all_caching xs c)) t → LeftAs (xs ≡ []) xs t
  flush_left xs b n t k =
      let cc = apply_all_caching xs c in
      let u = flushed_from g x cc n t k in
      go b (flushed_from_back g x cc n t k) (flushed_from_is g x cc n t k)
    where
      go : Between xs → PutBack g x (apply_all_caching xs c) (flushed_from g x (apply_all_caching xs c) n t k) → t ≡ apply_all (take n F) (flushed_from g x (apply_all_caching xs c) n t k) → LeftAs (xs ≡ []) xs t
      go (inl q) h e = in_first q n (flushed_from g x (apply_all_caching xs c) n t k) (subst (λ (zs : List Store). PutBack g x (apply_all_caching zs c) (flushed_from g x (apply_all_caching xs c) n t k)) q h) e
      go (inr f) h e =
          let (s, p) = f (flushed_from g x (apply_all_caching xs c) n t k) h in
          as_part (record { part = p.part; of = p.of; behind = p.behind; is = e ∙ solid_still g x (flushed_from g x (apply_all_caching xs c) n t k) s n ∙ p.is })

  -- what follows that flush
  module _ (m : ℕ) (xs : List Store) (t : Device) where
    abbrev u1 : Device
    u1 = apply_all F (apply_all xs v)

    behind : (ys : List Store) → PutBack g x (apply_all_caching ys (apply_all_caching F (apply_all_caching xs c))) t → Delayed g x u1 ys t
    behind ys k = subst (λ (u : Device). Delayed g x u ys t) (now_is F (apply_all_caching xs c) ∙ ap (apply_all F) (now_is xs c)) (begun_anew g x (apply_all_caching F (apply_all_caching xs c)) ys t (flush_forgets g x (apply_all_caching xs c)) k)

    joined : (ws zs : List Store) → ws ≡ F ++ rest m → Prefix zs (rest m) → t ≡ apply_all zs u1 → PartOf (xs ++ ws) t
    joined ws zs e p q = record {
      part = xs ++ (F ++ zs);
      of = rw e (prefix_under xs (prefix_under F p));
      behind = rw (length-append xs (F ++ zs), length-append F zs) (omega arith);
      is = q ∙ sym (apply_all_append xs (F ++ zs) v ∙ apply_all_append F zs (apply_all xs v));
    }

  -- one drive more
  module _ (m : ℕ) (b : emptied m ≡ true) (bt : Between (up_to m)) where
    abbrev X : List Store
    X = up_to m

    one_is : one m ≡ F ++ rest m
    one_is = rw b (emptying_is g x m (zone_of_kind par (r m)) (r m).spare (ss m))

    next_between : Between (X ++ one m)
    next_between = inr (λ t k. go t (subst (λ (zs : List Store). PutBack g x (apply_all_caching (X ++ zs) c) t) one_is k))
      where
        go : (t : Device) → PutBack g x (apply_all_caching (X ++ (F ++ rest m)) c) t → Solid g x t × PartOf (X ++ one m) t
        go t k =
            let k1 = subst (λ (e : Caching). PutBack g x e t) (caching_append X (F ++ rest m) c ∙ caching_append F (rest m) (apply_all_caching X c)) k in
            let l = late_is g x m (zone_of_kind par (r m)) (r m).spare (ss m) (u1 m X t) t (behind m X t (rest m) k1) in
            (l.solid, joined m X t (one m) l.part one_is l.of l.is)

    inside : (j : ℕ) (t : Device) → PutBack g x (apply_all_caching (take j (one m)) (apply_all_caching X c)) t → LeftAs ((X ≡ []) × (j < length F)) (X ++ one m) t
    inside j t k = go (dec_lt j (length F)) (subst (λ (zs : List Store). PutBack g x (apply_all_caching (take j zs) (apply_all_caching X c)) t) one_is k)
      where
        go : Dec (j < length F) → PutBack g x (apply_all_caching (take j (F ++ rest m)) (apply_all_caching X c)) t → LeftAs ((X ≡ []) × (j < length F)) (X ++ one m) t
        go (yes h) k1 = left_more (X ≡ []) ((X ≡ []) × (j < length F)) X (one m) t (λ e. (e, h)) (flush_left X bt j t (subst (λ (zs : List Store). PutBack g x (apply_all_caching zs (apply_all_caching X c)) t) (take-append-le j F (rest m) (omega (arith, h))) k1))
        go (no h) k1 =
            let i = j - length F in
            let e : j ≡ length F + i = omega arith in
            let s : take j (F ++ rest m) ≡ F ++ take i (rest m) = ap (λ (n : ℕ). take n (F ++ rest m)) e ∙ take-append-add F (rest m) i in
            let k2 = subst (λ (zs : List Store). PutBack g x (apply_all_caching zs (apply_all_caching X c)) t) s k1 in
            let k3 = subst (λ (a : Caching). PutBack g x a t) (caching_append F (take i (rest m)) (apply_all_caching X c)) k2 in
            let (zs, p, q) = behind_is g x m (zone_of_kind par (r m)) (r m).spare (ss m) (u1 m X t) i t (behind m X t (take i (rest m)) k3) in
            as_part (joined m X t (one m) zs one_is p q)

  one_none : (m : ℕ) → emptied m ≡ false → up_to m ++ one m ≡ up_to m
  one_none m b = rw b (append-nil (up_to m))

  between : (m : ℕ) → Between (up_to m)
  between zero = inl refl
  between (suc m) = go (emptied m) refl (between m)
    where
      go : (b : Bool) → emptied m ≡ b → Between (up_to m) → Between (up_to m ++ one m)
      go true b h = next_between m b h
      go false b h = subst (λ (zs : List Store). Between zs) (sym (one_none m b)) h

  abbrev pub EarlyIn : ℕ → List Store → Type 0
  EarlyIn k xs = (k < length F) ⊎ (xs ≡ [])

  left_below : (m k : ℕ) (t : Device) → PutBack g x (apply_all_caching (take k (up_to m)) c) t → LeftAs (EarlyIn k (up_to m)) (up_to m) t
  left_below zero k t h = in_first (inr refl) zero t (subst (λ (zs : List Store). PutBack g x (apply_all_caching zs c) t) (take-nil k) h) refl
  left_below (suc m) k t h = split (dec_lt k (length (up_to m))) (λ h1. left_below m k t h1)
    where
      beyond : (j : ℕ) → k ≡ length (up_to m) + j → (b : Bool) → emptied m ≡ b → PutBack g x (apply_all_caching (take j (one m)) (apply_all_caching (up_to m) c)) t → LeftAs (EarlyIn k (up_to m ++ one m)) (up_to m ++ one m) t
      beyond j e true b k1 = soon (inside m b (between m) j t k1)
        where
          soon : LeftAs ((up_to m ≡ []) × (j < length F)) (up_to m ++ one m) t → LeftAs (EarlyIn k (up_to m ++ one m)) (up_to m ++ one m) t
          soon (in_first (q, i) n u l w) = in_first (inl (let o : length (up_to m) ≡ 0 = ap length q in omega (arith, e, o, i))) n u l w
          soon (as_part p) = as_part p
      beyond j e false b k1 =
          let n : take j (one m) ≡ [] = rw b (take-nil j) in
          left_more (up_to m ≡ []) (EarlyIn k (up_to m ++ one m)) (up_to m) (one m) t (λ q. inr (one_none m b ∙ q))
          (between_left (up_to m) (between m) t (subst (λ (zs : List Store). PutBack g x (apply_all_caching zs (apply_all_caching (up_to m) c)) t) n k1))

      split : Dec (k < length (up_to m)) → (PutBack g x (apply_all_caching (take k (up_to m)) c) t → LeftAs (EarlyIn k (up_to m)) (up_to m) t) → LeftAs (EarlyIn k (up_to m ++ one m)) (up_to m ++ one m) t
      split (yes q) ih = left_more (EarlyIn k (up_to m)) (EarlyIn k (up_to m ++ one m)) (up_to m) (one m) t sooner (ih (subst (λ (zs : List Store). PutBack g x (apply_all_caching zs c) t) (take-append-le k (up_to m) (one m) (omega (arith, q))) h))
        where
          sooner : EarlyIn k (up_to m) → EarlyIn k (up_to m ++ one m)
          sooner (inl i) = inl i
          sooner (inr e) = absurd (let o : length (up_to m) ≡ 0 = ap length e in omega (arith, q, o))
      split (no q) ih =
          let j = k - length (up_to m) in
          let e : k ≡ length (up_to m) + j = omega arith in
          let s : take k (up_to m ++ one m) ≡ up_to m ++ take j (one m) = ap (λ (i : ℕ). take i (up_to m ++ one m)) e ∙ take-append-add (up_to m) (one m) j in
          let h1 = subst (λ (zs : List Store). PutBack g x (apply_all_caching zs c) t) s h in
          beyond j e (emptied m) refl (subst (λ (a : Caching). PutBack g x a t) (caching_append (up_to m) (take j (one m)) c) h1)

  -- A PART OF THEM
  pub emptyings_delayed : (k : ℕ) (t : Device) → PutBack g x (apply_all_caching (take k (emptyings g (present_but g x) par r emptied ss)) c) t
      → LeftAs (EarlyIn k (emptyings g (present_but g x) par r emptied ss)) (emptyings g (present_but g x) par r emptied ss) t
  unfolding emptyings
  emptyings_delayed k t h = left_below g.drives k t h

  -- ALL OF THEM, and a part of a flush behind them
  pub emptyings_flush_delayed : (n : ℕ) (t : Device) → PutBack g x (apply_all_caching (take n F) (apply_all_caching (emptyings g (present_but g x) par r emptied ss) c)) t
      → LeftAs (emptyings g (present_but g x) par r emptied ss ≡ []) (emptyings g (present_but g x) par r emptied ss) t
  unfolding emptyings
  emptyings_flush_delayed n t h = flush_left (up_to g.drives) (between g.drives) n t h

-- ---- where nothing was remembered at the start: what is known of any stop and cut on document 01's drives holds whatever is put back
module _ (g : Geometry) (x : ℕ) (par : Bool) (r : ℕ → Roles) (emptied : ℕ → Bool) (ss : ℕ → List (List ℕ)) (v : Device) (Left : Device → Type 0)
    (in_first_lem : (n : ℕ) (w : Device) → Cut x (apply_all (take n (flush_stores g (present_but g x))) v) w → Left w)
    (stopped : (k : ℕ) (w : Device) → Cut x (apply_all (take k (emptyings g (present_but g x) par r emptied ss)) v) w → Left w) where
  abbrev E : List Store
  E = emptyings g (present_but g x) par r emptied ss

  nothing_back : (u : Device) → PutBack g x (uncached v) u → u ≡ v
  nothing_back u k = forgets_is g x v [] u (record { none = λ d y a. refl }) k

  left_cut : (P : Type 0) (t w : Device) → LeftAs g x par r emptied ss (uncached v) P E t → Cut x t w → Left w
  left_cut P t w (in_first e n u k q) cut = in_first_lem n w (subst (λ (a : Device). Cut x a w) (q ∙ ap (apply_all (take n (flush_stores g (present_but g x)))) (nothing_back u k)) cut)
  left_cut P t w (as_part p) cut = stopped (length p.part) w (subst (λ (a : Device). Cut x a w) (p.is ∙ ap (λ (a : List Store). apply_all a v) (prefix_is_take p.part E p.of)) cut)

  pub delayed_stopped : (k : ℕ) (t w : Device) → Delayed g x v (take k E) t → Cut x t w → Left w
  delayed_stopped k t w h cut = left_cut _ t w (emptyings_delayed g x par r emptied ss (uncached v) k t h) cut

  pub delayed_flushed : (n : ℕ) (t w : Device) → PutBack g x (apply_all_caching (take n (flush_stores g (present_but g x))) (apply_all_caching E (uncached v))) t → Cut x t w → Left w
  delayed_flushed n t w h cut = left_cut _ t w (emptyings_flush_delayed g x par r emptied ss (uncached v) n t h) cut
