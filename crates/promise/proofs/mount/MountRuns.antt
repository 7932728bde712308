-- Lists of stores under which the invariant holds throughout and a fact holds at the end, and how such lists join. And one step of a mount
-- with its flush: what each place sees of a part of it, and of all of it.
use Rattle.logs.specs.meaning.Entry.{general_zone, parity_zone}
use Rattle.promise.proofs.invariant.Invariant.{Ghost, LogsOk, Here, LogGenerations}
use Rattle.tables.specs.meaning.Geometry.{physical_zones}
use Rattle.tables.specs.laws.Lists.{is_nil_lem, take_min, concat_append, Prefix, prefix_trans, prefix_nil, prefix_one}
use Rattle.tables.specs.meaning.Lists.{concat, is_nil}
use Rattle.std.specs.Prelude.{◌≡◌, refl, ◌⊎◌, Bool, true, false, ℕ, zero, suc, ◌+◌, ◌-◌, ◌≤◌, ◌<◌, min, List, [], ◌∷◌, ◌++◌, map, length, take}
use Rattle.std.proofs.Common.{sym, ap, ◌∙◌, subst, inl, inr, le_refl, arith, append_assoc, append-nil, length-append, length-take}
use Rattle.std.proofs.Math.Decide.{dec_lt}
use Rattle.std.proofs.lemmas.List.{take-append-le}
use Rattle.std.proofs.Math.Seq.{take-append-add, take-length}
use Rattle.tables.specs.meaning.Device.{ZoneView, Device, Store, flush, appended, flushed, apply_all}
use Rattle.tables.specs.laws.Device.{apply_all_append}
use Rattle.tables.specs.meaning.Basics.{pick}
use Rattle.tables.specs.laws.Local.{LocalStore, append_here, flush_here, apply_here, apply_all_here, apply_here_append, local_stores, local_append, local_is, local_take}
use Rattle.tables.specs.meaning.Phases.{flush_all, on_present}
use Rattle.tables.specs.laws.Phases.{flush_all_local, on_present_local}
use Rattle.tables.specs.declared.Geometry.{Geometry}
use Rattle.tables.specs.meaning.Drives.{present_but}
use Rattle.tables.specs.laws.Drives.{present_below}
use Rattle.promise.specs.meaning.Ledger.{Ledger}
use Rattle.volume.specs.meaning.Mount.{with_flush}
use Rattle.promise.proofs.invariant.Obligations.{Invs}
use Rattle.tables.specs.meaning.Cached.{uncached}
use Rattle.tables.specs.laws.Cached.{remember_here}
use Rattle.promise.proofs.invariant.Delayed.{Delayed, delayed_none, back_here, back_part, Forgets, forgets_append, delayed_append, flushed_forgets}

-- from v, after any part of the stores xs the invariant holds, views of before an unflushed reset put back or not, and after all of them Q; nothing is
-- remembered then
pub record Runs (c : LogGenerations) (g : Geometry) (x : ℕ) (l : Ledger) (v : Device) (xs : List Store) (Q : Device → Type 0) : Type 0 where
  pub during : (n : ℕ) (u : Device) → Delayed g x v (take n xs) u → Invs c g x u l
  pub forgets : Forgets g x v xs
  pub after : Q (apply_all xs v)

pub runs_append : (c : LogGenerations) (g : Geometry) (x : ℕ) (l : Ledger) (v : Device) (xs ys : List Store) (Q R : Device → Type 0)
    → Runs c g x l v xs Q → ((u : Device) → Q u → Runs c g x l u ys R) → Runs c g x l v (xs ++ ys) R
runs_append c g x l v xs ys Q R a b = record {
  during = λ n u k. part n u k (dec_lt n (length xs));
  forgets = forgets_append g x v xs ys a.forgets (b (apply_all xs v) a.after).forgets;
  after = rw (apply_all_append xs ys v) (b (apply_all xs v) a.after).after;
}
  where
    part : (n : ℕ) (u : Device) → Delayed g x v (take n (xs ++ ys)) u → Dec (n < length xs) → Invs c g x u l
    part n u k (yes h) = a.during n u (subst (λ (t : List Store). Delayed g x v t u) (take-append-le n xs ys (omega arith)) k)
    part n u k (no h) =
        let m : n ≡ length xs + (n - length xs) = omega arith in
        let e : take n (xs ++ ys) ≡ xs ++ take (n - length xs) ys = ap (λ (i : ℕ). take i (xs ++ ys)) m ∙ take-append-add xs ys (n - length xs) in
        (b (apply_all xs v) a.after).during (n - length xs) u (delayed_append g x v xs (take (n - length xs) ys) u a.forgets (subst (λ (t : List Store). Delayed g x v t u) e k))

-- phases joined
pub runs_phases : (c : LogGenerations) (g : Geometry) (x : ℕ) (l : Ledger) (v : Device) (ps qs : List (List Store)) (Q R : Device → Type 0)
    → Runs c g x l v (concat ps) Q → ((u : Device) → Q u → Runs c g x l u (concat qs) R) → Runs c g x l v (concat (ps ++ qs)) R
runs_phases c g x l v ps qs Q R a b = rw (concat_append ps qs) (runs_append c g x l v (concat ps) (concat qs) Q R a b)

-- the same, the second list being made for the device that the first one leaves
pub runs_then : (c : LogGenerations) (g : Geometry) (x : ℕ) (l : Ledger) (v : Device) (xs ys : List Store) (Q R : Device → Type 0)
    → Runs c g x l v xs Q → (Q (apply_all xs v) → Runs c g x l (apply_all xs v) ys R) → Runs c g x l v (xs ++ ys) R
runs_then c g x l v xs ys Q R a b = runs_append c g x l v xs ys (λ u. (u ≡ apply_all xs v) × Q u) R (record { during = a.during; forgets = a.forgets; after = (refl, a.after) }) (λ u q. subst (λ t. Runs c g x l t ys R) (sym q.0) (b a.after))

pub runs_phases_then : (c : LogGenerations) (g : Geometry) (x : ℕ) (l : Ledger) (v : Device) (ps qs : List (List Store)) (Q R : Device → Type 0)
    → Runs c g x l v (concat ps) Q → (Q (apply_all (concat ps) v) → Runs c g x l (apply_all (concat ps) v) (concat qs) R) → Runs c g x l v (concat (ps ++ qs)) R
runs_phases_then c g x l v ps qs Q R a b = rw (concat_append ps qs) (runs_then c g x l v (concat ps) (concat qs) Q R a b)

-- ---- all on the present drives lasts
pub record AllDurable (g : Geometry) (x : ℕ) (v : Device) : Type 0 where
  pub lasts : (d y : ℕ) → Here g x d → (v d y).durable ≡ length (v d y).sectors

pub flushed_durable : (a : ZoneView) → a.durable ≡ length a.sectors → flushed a ≡ a
flushed_durable a e = λ i. record { sectors = a.sectors; durable = sym e i }

-- a part of the step xs and of its flush, as each present place sees it
abbrev pub Between : Geometry → ℕ → Device → List Store → Device → Type 0
Between g x u xs w = (d y : ℕ) → Here g x d → (os : List LocalStore) × Prefix os (local_stores d y xs ++ (flush_here ∷ [])) × (w d y ≡ apply_all_here os (u d y))

-- the whole of it
abbrev pub Done : Geometry → ℕ → Device → List Store → Device → Type 0
Done g x u xs w = (d y : ℕ) → Here g x d → w d y ≡ flushed (apply_all_here (local_stores d y xs) (u d y))

module _ (g : Geometry) (x : ℕ) (xs : List Store) where
  abbrev step_stores : List Store
  step_stores = concat (with_flush g (present_but g x) xs)

  -- what a place sees of a step with its flush
  step_local : (d y : ℕ) → Here g x d → ((local_stores d y step_stores ≡ local_stores d y xs ++ (flush_here ∷ [])) ⊎ ((local_stores d y step_stores ≡ []) × (local_stores d y xs ≡ [])))
  step_local d y a = go (is_nil (on_present (present_but g x) xs)) refl
    where
      go : (b : Bool) → is_nil (on_present (present_but g x) xs) ≡ b
          → let seen = local_stores d y (on_present (present_but g x) xs ++ (pick b [] (on_present (present_but g x) (flush_all g.drives)) ++ [])) in
          (seen ≡ local_stores d y xs ++ (flush_here ∷ [])) ⊎ ((seen ≡ []) × (local_stores d y xs ≡ []))
      go true e =
          let n : on_present (present_but g x) xs ≡ [] = is_nil_lem (on_present (present_but g x) xs) e in
          let q : local_stores d y xs ≡ [] = sym (on_present_local (present_but g x) d y xs a) ∙ rw n refl in
          inr (rw n refl, q)
      go false e = inl (local_append d y (on_present (present_but g x) xs) (on_present (present_but g x) (flush_all g.drives) ++ []) ∙ rw (on_present_local (present_but g x) d y xs a, append-nil (on_present (present_but g x) (flush_all g.drives)), on_present_local (present_but g x) d y (flush_all g.drives) a, flush_all_local d y g.drives (present_below g x d a)) refl)

  step_between : (u : Device) (n : ℕ) (w : Device) → Delayed g x u (take n step_stores) w → Between g x u xs w
  step_between u n w k d y a =
      let (os, p, e) = back_part (local_stores d y (take n step_stores)) (u d y) (w d y) (back_here g x (uncached u) (take n step_stores) w k d y) in
      (os, prefix_trans p (go (step_local d y a)), e)
    where
      go : ((local_stores d y step_stores ≡ local_stores d y xs ++ (flush_here ∷ [])) ⊎ ((local_stores d y step_stores ≡ []) × (local_stores d y xs ≡ []))) → Prefix (local_stores d y (take n step_stores)) (local_stores d y xs ++ (flush_here ∷ []))
      go (inl e) = rw (← e) (local_take d y n step_stores)
      go (inr e) = prefix_trans (local_take d y n step_stores) (rw e.0 (prefix_nil (local_stores d y xs ++ (flush_here ∷ []))))

  step_done : (u : Device) → AllDurable g x u → Done g x u xs (apply_all step_stores u)
  step_done u s d y a = local_is d y step_stores u ∙ go (step_local d y a)
    where
      go : ((local_stores d y step_stores ≡ local_stores d y xs ++ (flush_here ∷ [])) ⊎ ((local_stores d y step_stores ≡ []) × (local_stores d y xs ≡ []))) → apply_all_here (local_stores d y step_stores) (u d y) ≡ flushed (apply_all_here (local_stores d y xs) (u d y))
      go (inl e) = ap (λ (o : List LocalStore). apply_all_here o (u d y)) e ∙ apply_here_append (local_stores d y xs) (flush_here ∷ []) (u d y)
      go (inr e) = rw (e.0, e.1) (sym (flushed_durable (u d y) (s.lasts d y a)))

  step_forgets : (u : Device) → Forgets g x u step_stores
  step_forgets u = record { none = λ d y a. go d y (step_local d y a) }
    where
      go : (d y : ℕ) → ((local_stores d y step_stores ≡ local_stores d y xs ++ (flush_here ∷ [])) ⊎ ((local_stores d y step_stores ≡ []) × (local_stores d y xs ≡ []))) → remember_here (local_stores d y step_stores) (u d y) [] ≡ []
      go d y (inl e) = ap (λ (os : List LocalStore). remember_here os (u d y) []) e ∙ flushed_forgets (local_stores d y xs) (u d y) []
      go d y (inr e) = ap (λ (os : List LocalStore). remember_here os (u d y) []) e.0

  -- A STEP WITH ITS FLUSH
  pub step_runs : (c : LogGenerations) (l : Ledger) (u : Device) (Q : Device → Type 0) → AllDurable g x u → ((w : Device) → Between g x u xs w → Invs c g x w l) → ((w : Device) → Between g x u xs w → Done g x u xs w → Q w) → Runs c g x l u step_stores Q
  step_runs c l u Q s p q = record {
    during = λ n w k. p w (step_between u n w k);
    forgets = step_forgets u;
    after = q (apply_all step_stores u) (step_between u (length step_stores) (apply_all step_stores u) (subst (λ (t : List Store). Delayed g x u t (apply_all step_stores u)) (sym (take-length step_stores)) (delayed_none g x u step_stores))) (step_done u s);
  }

-- ---- a device whose logs were left alone
pub logs_untouched : (g : Geometry) (x : ℕ) (u w : Device) (γ : Ghost) → LogsOk g x u γ → ((d y : ℕ) → Here g x d → y < 3 → w d y ≡ u d y)
    → ((d y : ℕ) → Here g x d → y < physical_zones g → (w d y).durable ≤ length (w d y).sectors) → ((d y : ℕ) → Here g x d → y < physical_zones g → length (w d y).sectors ≤ g.capacity) → LogsOk g x w γ
logs_untouched g x u w γ lg still lasts fits = record {
  lost_ok = lg.lost_ok;
  array_lt = lg.array_lt;
  general_is = λ d a. rw (still d general_zone a (omega arith)) (lg.general_is d a);
  general_reads = lg.general_reads;
  first = lg.first;
  first_lasts = λ d a. rw (still d general_zone a (omega arith)) (lg.first_lasts d a);
  arrays = lg.arrays;
  labels = λ d a. rw (still d general_zone a (omega arith)) (lg.labels d a);
  general_closes = lg.general_closes;
  general_closed = λ d a. rw (still d general_zone a (omega arith)) (lg.general_closed d a);
  parity_closes = lg.parity_closes;
  parity_closed_lem = λ d a. rw (still d parity_zone a (omega arith)) (lg.parity_closed_lem d a);
  parity_is = λ d a. rw (still d parity_zone a (omega arith)) (lg.parity_is d a);
  parity_lawful = lg.parity_lawful;
  parity_fits = lg.parity_fits;
  lasting = lasts;
  place_fits = fits;
}

-- ---- one place
-- it sees nothing
pub between_still : (a : ZoneView) (os : List LocalStore) → Prefix os (flush_here ∷ []) → a.durable ≡ length a.sectors → apply_all_here os a ≡ a
between_still a os p e = go (prefix_one flush_here os p)
  where
    go : (os ≡ []) ⊎ (os ≡ flush_here ∷ []) → apply_all_here os a ≡ a
    go (inl q) = rw q refl
    go (inr q) = rw q (flushed_durable a e)

-- it sees sectors joined to it
pub record Joined (a b : ZoneView) (ss : List (List ℕ)) (m : ℕ) : Type 0 where
  pub sectors_are : b.sectors ≡ a.sectors ++ take m ss
  pub keeps : a.durable ≤ b.durable
  pub wf : b.durable ≤ length b.sectors

joined_some : (ss : List (List ℕ)) (os : List LocalStore) (a : ZoneView) → Prefix os (map append_here ss ++ (flush_here ∷ [])) → a.durable ≤ length a.sectors → (m : ℕ) × Joined a (apply_all_here os a) ss m
joined_some ss [] a p h = (zero, record { sectors_are = sym (append-nil a.sectors); keeps = le_refl a.durable; wf = h })
joined_some [] (o ∷ os) a p h = (zero, go (prefix_one flush_here (o ∷ os) p))
  where
    go : (o ∷ os ≡ []) ⊎ (o ∷ os ≡ flush_here ∷ []) → Joined a (apply_all_here (o ∷ os) a) [] zero
    go (inl q) = absurd (let z : ◌≡◌ {A = ℕ} 0 1 = cc in omega arith)
    go (inr q) = subst (λ (t : List LocalStore). Joined a (apply_all_here t a) [] zero) (sym q) (record { sectors_are = sym (append-nil a.sectors); keeps = h; wf = le_refl (length a.sectors) })
joined_some (s ∷ ss) (o ∷ os) a p h =
    let q : o ∷ (os ++ p.rest) ≡ append_here s ∷ (map append_here ss ++ (flush_here ∷ [])) = p.is in
    let e : o ≡ append_here s = cc in
    let r : os ++ p.rest ≡ map append_here ss ++ (flush_here ∷ []) = cc in
    let (m, j) = joined_some ss os (appended s a) (record { rest = p.rest; is = r }) (simp length-append (omega arith)) in
    (suc m, subst (λ (t : LocalStore). Joined a (apply_all_here os (apply_here t a)) (s ∷ ss) (suc m)) (sym e) (record { sectors_are = j.sectors_are ∙ append_assoc a.sectors (s ∷ []) (take m ss); keeps = j.keeps; wf = j.wf }))

-- how many, as a function of the device
abbrev pub joined_by : ZoneView → ZoneView → ℕ
joined_by a b = length b.sectors - length a.sectors

pub between_adds : (ss : List (List ℕ)) (os : List LocalStore) (a b : ZoneView) → Prefix os (map append_here ss ++ (flush_here ∷ [])) → b ≡ apply_all_here os a → a.durable ≤ length a.sectors → Joined a b ss (joined_by a b)
between_adds ss os a b p q h =
    let (m, j) = joined_some ss os a p h in
    let e : length (apply_all_here os a).sectors ≡ length a.sectors + min m (length ss) = ap length j.sectors_are ∙ length-append a.sectors (take m ss) ∙ rw length-take refl in
    let k : joined_by a (apply_all_here os a) ≡ min m (length ss) = omega (arith, e) in
    subst (λ (t : ZoneView). Joined a t ss (joined_by a t)) (sym q) (record { sectors_are = j.sectors_are ∙ ap (λ (t : List (List ℕ)). a.sectors ++ t) (sym (take_min m ss) ∙ ap (λ (t : ℕ). take t ss) (sym k)); keeps = j.keeps; wf = j.wf })
