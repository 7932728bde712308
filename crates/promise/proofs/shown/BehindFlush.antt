-- A call stopped behind the first flush of one of its emptyings, and cut, on drives that cache resets: of the emptied drive's two zones such a cut leaves what a cut of
-- document 01's drives leaves after some part of that emptying, and of the other zones all. For behind the flush nothing is remembered from before it; the old log
-- that comes back is what an earlier stop left; and a part of the next flush adds nothing. (before, rest: the call's stores before and after its emptyings; c: the
-- device and what it remembers at the call's start; r: the roles; ss: the new logs.)
use Rattle.std.specs.Prelude.{◌≡◌, refl, ◌≢◌, ◌⊎◌, Bool, true, false, ℕ, zero, suc, ◌+◌, ◌-◌, ◌≤◌, ◌<◌, List, [], ◌++◌, length, take}
use Rattle.std.proofs.Common.{sym, ap, ◌∙◌, subst, inl, inr, le_refl, not-suc-le-zero, arith, append_assoc, append-nil, length-append}
use Rattle.std.proofs.Math.Decide.{dec_lt, ℕ_discrete}
use Rattle.std.proofs.lemmas.List.{take-append-le}
use Rattle.std.proofs.Math.Seq.{take-append-add, take-length}
use Rattle.tables.specs.meaning.Below.{each_below}
use Rattle.tables.specs.laws.Lists.{Prefix, prefix_is_take}
use Rattle.tables.specs.meaning.Device.{Device, Store, apply_all}
use Rattle.tables.specs.laws.Device.{apply_all_append}
use Rattle.tables.specs.meaning.Cached.{Caching, apply_all_caching, CachingCut}
use Rattle.tables.specs.laws.Cached.{caching_append, now_is}
use Rattle.tables.specs.meaning.Drives.{present_but}
use Rattle.tables.specs.declared.Geometry.{Geometry}
use Rattle.volume.specs.meaning.Calls.{flush_stores}
use Rattle.volume.specs.meaning.Roles.{Roles, zone_of_kind}
use Rattle.promise.proofs.invariant.Invariant.{Here}
use Rattle.promise.proofs.invariant.Delayed.{PutBack, begun_anew}
use Rattle.promise.proofs.emptying.EmptyingStops.{Solid, CutHere, LeftBy, after_first_flush, emptying_left, emptying_is}
use Rattle.promise.proofs.emptying.FlushedRests.{flush_solid}
use Rattle.promise.proofs.emptying.Emptyings.{emptying_of, at_flush}
use Rattle.promise.proofs.emptying.EmptyingsDelayed.{flushed_from, flushed_from_back, flushed_from_is, solid_still, flush_forgets, late_is, behind_is}
use Rattle.promise.proofs.device.CachedModes.{chosen, chosen_back, chosen_cut}

-- ---- one emptying behind its first flush, stopped in it or in a flush that follows (k: the device there; old, spare: the drive's two zones)
module _ (g : Geometry) (x d old spare : ℕ) (ss : List (List ℕ)) (k : Caching) (forgot : (e y : ℕ) → Here g x e → k.was e y ≡ []) (solid : Solid g x k.now) where
  abbrev F : List Store
  F = flush_stores g (present_but g x)

  abbrev A : List Store
  A = after_first_flush g x d old spare ss

  -- what is there, put back or not, is what a part of it leaves
  part_left : (i : ℕ) (t : Device) → i ≤ length A + length F → PutBack g x (apply_all_caching (take i (A ++ F)) k) t → (j : ℕ) × (t ≡ apply_all (take j A) k.now)
  part_left i t most b = go (dec_lt (length A) i)
    where
      of_part : (zs : List Store) → Prefix zs A → t ≡ apply_all zs k.now → (j : ℕ) × (t ≡ apply_all (take j A) k.now)
      of_part zs p e = (length zs, e ∙ ap (λ (ys : List Store). apply_all ys k.now) (prefix_is_take zs A p))

      go : Dec (length A < i) → (j : ℕ) × (t ≡ apply_all (take j A) k.now)
      go (no h) =
          let s : take i (A ++ F) ≡ take i A = take-append-le i A F (omega (arith, h)) in
          let (zs, p, e) = behind_is g x d old spare ss k.now i t (begun_anew g x k (take i A) t forgot (subst (λ (ys : List Store). PutBack g x (apply_all_caching ys k) t) s b)) in
          of_part zs p e
      go (yes h) =
          let m = i - length A in
          let e : i ≡ length A + m = omega (arith, h) in
          let s : take i (A ++ F) ≡ A ++ take m F = ap (λ (n : ℕ). take n (A ++ F)) e ∙ take-append-add A F m in
          let b1 : PutBack g x (apply_all_caching (take m F) (apply_all_caching A k)) t = subst (λ (q : Caching). PutBack g x q t) (ap (λ (ys : List Store). apply_all_caching ys k) s ∙ caching_append A (take m F) k) b in
          let u = flushed_from g x (apply_all_caching A k) m t b1 in
          let l = late_is g x d old spare ss k.now u (begun_anew g x k A u forgot (flushed_from_back g x (apply_all_caching A k) m t b1)) in
          of_part l.part l.of (flushed_from_is g x (apply_all_caching A k) m t b1 ∙ solid_still g x u l.solid m ∙ l.is)

  -- so of the two zones a cut leaves no more than that
  pub one_left_lem : Here g x d → old ≢ spare → (k.now d spare).sectors ≡ [] → (i : ℕ) (w : Device) → i ≤ length A + length F → CachingCut x (apply_all_caching (take i (A ++ F)) k) w → LeftBy g x k.now w d old spare ss
  one_left_lem hd apart blank i w most cut =
      let c = apply_all_caching (take i (A ++ F)) k in
      let (j, e) = part_left i (chosen g x c w cut) most (chosen_back g x c w cut) in
      emptying_left g x k.now solid d hd old spare apart blank ss j w (subst (λ (t : Device). CutHere g x t w) e (chosen_cut g x c w cut))

-- ---- where a stop falls among the stores of a call
module _ (g : Geometry) (x : ℕ) (par : Bool) (r : ℕ → Roles) (emptied : ℕ → Bool) (ss : ℕ → List (List ℕ)) (before rest : List Store) (d : ℕ) (hd : d < g.drives) (b : emptied d ≡ true) where
  abbrev F1 : List Store
  F1 = flush_stores g (present_but g x)

  abbrev one : ℕ → List Store
  one = emptying_of g x par r emptied ss

  abbrev A1 : List Store
  A1 = after_first_flush g x d (zone_of_kind par (r d)) (r d).spare (ss d)

  one_is : one d ≡ F1 ++ A1
  one_is = rw b (emptying_is g x d (zone_of_kind par (r d)) (r d).spare (ss d))

  -- the next drive below m whose log is emptied: its emptying begins what follows drive d's
  record Next (m : ℕ) (tail : List Store) : Type 0 where
    drive : ℕ
    below : drive < m
    after : d < drive
    is_emptied : emptied drive ≡ true
    long : length (each_below one drive) ≡ length (each_below one (suc d))
    more : List Store
    begins : tail ≡ F1 ++ more

  -- the emptyings that follow drive d's, of drives below m
  record Behind (m : ℕ) : Type 0 where
    tail : List Store
    is : each_below one m ≡ each_below one (suc d) ++ tail
    how : (tail ≡ []) ⊎ Next m tail

  behind : (m : ℕ) → d < m → Behind m
  behind zero h = absurd (not-suc-le-zero h)
  behind (suc m) h = go (ℕ_discrete d m) (λ k. behind m k)
    where
      further : d < m → (e : Bool) → emptied m ≡ e → Behind m → Behind (suc m)
      further k false e p = record { tail = p.tail; is = ap (λ (ys : List Store). each_below one m ++ ys) none ∙ append-nil (each_below one m) ∙ p.is; how = later p.how }
        where
          none : one m ≡ []
          none = rw e refl

          later : (p.tail ≡ []) ⊎ Next m p.tail → (p.tail ≡ []) ⊎ Next (suc m) p.tail
          later (inl q) = inl q
          later (inr q) = inr (record { drive = q.drive; below = let l = q.below in omega (arith, l); after = q.after; is_emptied = q.is_emptied; long = q.long; more = q.more; begins = q.begins })
      further k true e p = record { tail = p.tail ++ one m; is = ap (λ (ys : List Store). ys ++ one m) p.is ∙ append_assoc (each_below one (suc d)) p.tail (one m); how = inr (first p.how) }
        where
          first : (p.tail ≡ []) ⊎ Next m p.tail → Next (suc m) (p.tail ++ one m)
          first (inl q) = record {
            drive = m;
            below = omega arith;
            after = k;
            is_emptied = e;
            long = ap length (p.is ∙ ap (λ (ys : List Store). each_below one (suc d) ++ ys) q ∙ append-nil (each_below one (suc d)));
            more = after_first_flush g x m (zone_of_kind par (r m)) (r m).spare (ss m);
            begins = ap (λ (ys : List Store). ys ++ one m) q ∙ rw e (emptying_is g x m (zone_of_kind par (r m)) (r m).spare (ss m));
          }
          first (inr q) = record {
            drive = q.drive;
            below = let l = q.below in omega (arith, l);
            after = q.after;
            is_emptied = q.is_emptied;
            long = q.long;
            more = q.more ++ one m;
            begins = ap (λ (zs : List Store). zs ++ one m) q.begins ∙ append_assoc F1 q.more (one m);
          }

      go : Dec (d ≡ m) → (d < m → Behind m) → Behind (suc m)
      go (yes q) ih = record { tail = []; is = rw q (sym (append-nil (each_below one (suc m)))); how = inl refl }
      go (no q) ih = let k : d < m = omega (arith, h, q) in further k (emptied m) refl (ih k)

  -- the call's stores; those up to the end of drive d's first flush
  abbrev pub call_stores : List Store
  call_stores = before ++ (each_below one g.drives ++ rest)

  abbrev pub to_flush : List Store
  to_flush = (before ++ each_below one d) ++ F1

  to_flush_long : length to_flush ≡ length before + (length (each_below one d) + length F1)
  to_flush_long = length-append (before ++ each_below one d) F1 ∙ ap (λ (n : ℕ). n + length F1) (length-append before (each_below one d)) ∙ omega arith

  all_behind : Behind g.drives
  all_behind = behind g.drives hd

  stores_are : call_stores ≡ to_flush ++ (A1 ++ (all_behind.tail ++ rest))
  stores_are =
      let e = each_below one d in
      let t = all_behind.tail in
      let a : each_below one g.drives ≡ (e ++ (F1 ++ A1)) ++ t = all_behind.is ∙ ap (λ (ys : List Store). (e ++ ys) ++ t) one_is in
      ap (λ (ys : List Store). before ++ (ys ++ rest)) a ∙ ap (λ (ys : List Store). before ++ ys) (append_assoc (e ++ (F1 ++ A1)) t rest ∙ append_assoc e (F1 ++ A1) (t ++ rest) ∙ ap (λ (ys : List Store). e ++ ys) (append_assoc F1 A1 (t ++ rest)))
      ∙ sym (append_assoc before e (F1 ++ (A1 ++ (t ++ rest)))) ∙ sym (append_assoc (before ++ e) F1 (A1 ++ (t ++ rest)))

  next_long : length (each_below one (suc d)) ≡ length (each_below one d) + (length F1 + length A1)
  next_long = length-append (each_below one d) (one d) ∙ ap (λ (n : ℕ). length (each_below one d) + n) (ap length one_is ∙ length-append F1 A1)

  -- at that flush's end
  pub stopped_there : take (length before + (length (each_below one d) + length F1)) call_stores ≡ to_flush
  stopped_there = ap (λ (n : ℕ). take n call_stores) (sym to_flush_long) ∙ ap (take (length to_flush)) stores_are ∙ take-append-le (length to_flush) to_flush (A1 ++ (all_behind.tail ++ rest)) (le_refl (length to_flush)) ∙ take-length to_flush

  -- (c: the device with its caches, at the call's start)
  pub flushed_is : (c : Caching) → (apply_all_caching to_flush c).now ≡ at_flush g x par r emptied ss (apply_all before c.now) d
  flushed_is c = now_is to_flush c ∙ apply_all_append (before ++ each_below one d) F1 c.now ∙ ap (apply_all F1) (apply_all_append before (each_below one d) c.now)

  -- behind it, and not behind that of the next
  module _ (n : ℕ) (from : length before + (length (each_below one d) + length F1) ≤ n) (next : (e : ℕ) → e < g.drives → d < e → emptied e ≡ true → n ≤ length before + (length (each_below one e) + length F1)) (to : n ≤ length before + length (each_below one g.drives)) where
    abbrev into : ℕ
    into = n - length to_flush

    in_one : (all_behind.tail ≡ []) ⊎ Next g.drives all_behind.tail → (into ≤ length A1 + length F1) × (take into (A1 ++ (all_behind.tail ++ rest)) ≡ take into (A1 ++ F1))
    in_one (inl q) =
        let l : length (each_below one g.drives) ≡ length (each_below one (suc d)) = ap length (all_behind.is ∙ ap (λ (ys : List Store). each_below one (suc d) ++ ys) q ∙ append-nil (each_below one (suc d))) in
        let m : into ≤ length A1 = omega (arith, l, next_long, to, to_flush_long, from) in
        (omega (arith, m), take-append-le into A1 (all_behind.tail ++ rest) m ∙ sym (take-append-le into A1 F1 m))
    in_one (inr q) =
        let t : n ≤ length before + (length (each_below one q.drive) + length F1) = next q.drive q.below q.after q.is_emptied in
        let l = q.long in
        let m : into ≤ length A1 + length F1 = omega (arith, t, l, next_long, to_flush_long, from) in
        let e : A1 ++ (all_behind.tail ++ rest) ≡ (A1 ++ F1) ++ (q.more ++ rest) = ap (λ (ys : List Store). A1 ++ (ys ++ rest)) q.begins ∙ ap (λ (ys : List Store). A1 ++ ys) (append_assoc F1 q.more rest) ∙ sym (append_assoc A1 F1 (q.more ++ rest)) in
        (m, ap (take into) e ∙ take-append-le into (A1 ++ F1) (q.more ++ rest) (rw (length-append A1 F1) m))

    stopped_is : take n call_stores ≡ to_flush ++ take into (A1 ++ F1)
    stopped_is =
        let e : n ≡ length to_flush + into = omega (arith, from, to_flush_long) in
        ap (λ (i : ℕ). take i call_stores) e ∙ ap (take (length to_flush + into)) stores_are ∙ take-append-add to_flush (A1 ++ (all_behind.tail ++ rest)) into ∙ ap (λ (ys : List Store). to_flush ++ ys) (in_one all_behind.how).1

    -- THE CUT
    module _ (c : Caching) where
      abbrev flushed : Caching
      flushed = apply_all_caching to_flush c

      forgot : (e y : ℕ) → Here g x e → flushed.was e y ≡ []
      forgot e y a = ap (λ (k : Caching). k.was e y) (caching_append (before ++ each_below one d) F1 c) ∙ flush_forgets g x (apply_all_caching (before ++ each_below one d) c) e y a

      pub stopped_left_lem : Here g x d → zone_of_kind par (r d) ≢ (r d).spare → (at_flush g x par r emptied ss (apply_all before c.now) d d (r d).spare).sectors ≡ [] → (w : Device) → CachingCut x (apply_all_caching (take n call_stores) c) w
          → LeftBy g x (at_flush g x par r emptied ss (apply_all before c.now) d) w d (zone_of_kind par (r d)) (r d).spare (ss d)
      stopped_left_lem here apart blank w cut =
          let old = zone_of_kind par (r d) in
          let spare = (r d).spare in
          subst (λ (v : Device). LeftBy g x v w d old spare (ss d)) (flushed_is c)
          (one_left_lem g x d old spare (ss d) flushed forgot (rw (flushed_is c) (flush_solid g x _)) here apart (rw (flushed_is c) blank) into w (in_one all_behind.how).0
          (subst (λ (k : Caching). CachingCut x k w) (ap (λ (ys : List Store). apply_all_caching ys c) stopped_is ∙ caching_append to_flush (take into (A1 ++ F1)) c) cut))
