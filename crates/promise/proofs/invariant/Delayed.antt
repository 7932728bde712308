-- What may be there after some stores on drives that cache resets: the device, or one where views of before an unflushed reset are put back (PutBack, Delayed).
-- Of one place: what it saw, or what it remembers of that, which is what a part of it left. Lists of stores behind which nothing is remembered (Forgets) join.
use Rattle.std.specs.Prelude.{◌≡◌, refl, ◌≢◌, ◌⊎◌, Bool, true, ℕ}
use Rattle.std.proofs.Common.{sym, ap, ap₂, ◌∙◌, subst, inl, inr}
use Rattle.std.proofs.Math.Path.{fun_ext}
use mathlib.Core.List.{List, [], ◌∷◌, ◌++◌, append-nil, Memᴰ}
use Rattle.tables.specs.laws.Lists.{Prefix, prefix_nil, mem_nil}
use Rattle.tables.specs.meaning.Device.{ZoneView, Device, Store, apply_all}
use Rattle.tables.specs.laws.Local.{LocalStore, append_here, reset_here, flush_here, apply_here, apply_all_here, local_stores, local_is, local_append, NoReset, no_reset_front}
use Rattle.tables.specs.meaning.Cached.{Caching, uncached, apply_all_caching}
use Rattle.tables.specs.laws.Cached.{caching_append, now_is, was_is, remember_here, remember_append}
use Rattle.tables.specs.meaning.Drives.{present_but}
use Rattle.tables.specs.declared.Geometry.{Geometry}
use Rattle.promise.proofs.invariant.Invariant.{Here}

-- of the present drives
pub record PutBack (g : Geometry) (x : ℕ) (c : Caching) (u : Device) : Type 0 where
  pub at : (d y : ℕ) → (u d y ≡ c.now d y) ⊎ (Here g x d × Memᴰ (u d y) (c.was d y))

-- after stores, where nothing was remembered before them
abbrev pub Delayed : Geometry → ℕ → Device → List Store → Device → Type 0
Delayed g x v xs w = PutBack g x (apply_all_caching xs (uncached v)) w

-- none is put back
pub delayed_none : (g : Geometry) (x : ℕ) (v : Device) (xs : List Store) → Delayed g x v xs (apply_all xs v)
delayed_none g x v xs = record { at = λ d y. inl (ap (λ (u : Device). u d y) (sym (now_is xs (uncached v)))) }

-- ---- of one place (a: before; was: remembered before; os: what it saw)
abbrev pub BackHere : List LocalStore → ZoneView → List ZoneView → ZoneView → Type 0
BackHere os a was b = (b ≡ apply_all_here os a) ⊎ Memᴰ b (remember_here os a was)

pub back_here : (g : Geometry) (x : ℕ) (c : Caching) (xs : List Store) (w : Device) → PutBack g x (apply_all_caching xs c) w → (d y : ℕ) → BackHere (local_stores d y xs) (c.now d y) (c.was d y) (w d y)
back_here g x c xs w k d y = go (k.at d y)
  where
    go : (w d y ≡ (apply_all_caching xs c).now d y) ⊎ (Here g x d × Memᴰ (w d y) ((apply_all_caching xs c).was d y)) → BackHere (local_stores d y xs) (c.now d y) (c.was d y) (w d y)
    go (inl q) = inl (q ∙ ap (λ (v : Device). v d y) (now_is xs c) ∙ local_is d y xs c.now)
    go (inr q) = inr (rw (was_is d y xs c) at q.1)

pub remembers_none : (os : List LocalStore) (a : ZoneView) → NoReset os → remember_here os a [] ≡ []
remembers_none [] a n = refl
remembers_none (append_here s ∷ os) a n = remembers_none os (apply_here (append_here s) a) n
remembers_none (reset_here ∷ os) a n = absurd n
remembers_none (flush_here ∷ os) a n = remembers_none os (apply_here flush_here a) n

-- where nothing is remembered, a place is what it saw
pub forgot_here : (os : List LocalStore) (a b : ZoneView) (was : List ZoneView) → remember_here os a was ≡ [] → BackHere os a was b → b ≡ apply_all_here os a
forgot_here os a b was e (inl q) = q
forgot_here os a b was e (inr m) = mem_nil b (rw e at m)

pub still_here : (os : List LocalStore) (a b : ZoneView) → NoReset os → BackHere os a [] b → b ≡ apply_all_here os a
still_here os a b n k = forgot_here os a b [] (remembers_none os a n) k

-- a front of what resets nothing resets nothing
pub no_reset_part : (os ps : List LocalStore) → Prefix os ps → NoReset ps → NoReset os
no_reset_part os ps p n = no_reset_front os p.rest (rw p.is n)

-- what is remembered was remembered before, or a part of what the place saw left it
abbrev LeftByPart : List LocalStore → ZoneView → ZoneView → List ZoneView → Type 0
LeftByPart os a b was = Memᴰ b was ⊎ ((ps : List LocalStore) × Prefix ps os × (b ≡ apply_all_here ps a))

longer : (o : LocalStore) (os : List LocalStore) (a b : ZoneView) (was : List ZoneView) → LeftByPart os (apply_here o a) b was → LeftByPart (o ∷ os) a b was
longer o os a b was (inl k) = inl k
longer o os a b was (inr (ps, p, e)) = inr (o ∷ ps, record { rest = p.rest; is = ap (λ (t : List LocalStore). o ∷ t) p.is }, e)

longer_reset : (os : List LocalStore) (a b : ZoneView) (was : List ZoneView) → LeftByPart os (apply_here reset_here a) b (a ∷ was) → LeftByPart (reset_here ∷ os) a b was
longer_reset os a b was (inl (Memᴰ.head q)) = inr ([], prefix_nil (reset_here ∷ os), q)
longer_reset os a b was (inl (Memᴰ.tail i)) = inl i
longer_reset os a b was (inr k) = longer reset_here os a b was (inr k)

longer_flush : (os : List LocalStore) (a b : ZoneView) (was : List ZoneView) → LeftByPart os (apply_here flush_here a) b [] → LeftByPart (flush_here ∷ os) a b was
longer_flush os a b was (inl i) = mem_nil b i
longer_flush os a b was (inr k) = longer flush_here os a b was (inr k)

pub remembered_part : (os : List LocalStore) (a b : ZoneView) (was : List ZoneView) → Memᴰ b (remember_here os a was) → LeftByPart os a b was
remembered_part [] a b was m = inl m
remembered_part (append_here s ∷ os) a b was m = longer (append_here s) os a b was (remembered_part os (apply_here (append_here s) a) b was m)
remembered_part (reset_here ∷ os) a b was m = longer_reset os a b was (remembered_part os (apply_here reset_here a) b (a ∷ was) m)
remembered_part (flush_here ∷ os) a b was m = longer_flush os a b was (remembered_part os (apply_here flush_here a) b [] m)

-- so a place, put back or not, is what a part of what it saw left
pub back_part : (os : List LocalStore) (a b : ZoneView) → BackHere os a [] b → (ps : List LocalStore) × Prefix ps os × (b ≡ apply_all_here ps a)
back_part os a b (inl q) = (os, record { rest = []; is = append-nil os }, q)
back_part os a b (inr m) = go (remembered_part os a b [] m)
  where
    go : Memᴰ b [] ⊎ ((ps : List LocalStore) × Prefix ps os × (b ≡ apply_all_here ps a)) → (ps : List LocalStore) × Prefix ps os × (b ≡ apply_all_here ps a)
    go (inl i) = mem_nil b i
    go (inr i) = i

-- ---- behind these stores nothing is remembered on a present drive
pub record Forgets (g : Geometry) (x : ℕ) (v : Device) (xs : List Store) : Type 0 where
  pub none : (d y : ℕ) → Here g x d → remember_here (local_stores d y xs) (v d y) [] ≡ []

-- then they leave what they make
pub forgets_is : (g : Geometry) (x : ℕ) (v : Device) (xs : List Store) (u : Device) → Forgets g x v xs → Delayed g x v xs u → u ≡ apply_all xs v
forgets_is g x v xs u f k = fun_ext λ d. fun_ext λ y. go d y (k.at d y)
  where
    go : (d y : ℕ) → (u d y ≡ (apply_all_caching xs (uncached v)).now d y) ⊎ (Here g x d × Memᴰ (u d y) ((apply_all_caching xs (uncached v)).was d y)) → u d y ≡ apply_all xs v d y
    go d y (inl q) = q ∙ ap (λ (t : Device). t d y) (now_is xs (uncached v))
    go d y (inr (a, m)) = mem_nil (u d y) (rw (was_is d y xs (uncached v), f.none d y a) at m)

-- where nothing is remembered, what follows begins anew
pub begun_anew : (g : Geometry) (x : ℕ) (c : Caching) (ys : List Store) (u : Device) → ((d y : ℕ) → Here g x d → c.was d y ≡ []) → PutBack g x (apply_all_caching ys c) u → Delayed g x c.now ys u
begun_anew g x c ys u none k = record { at = λ d y. go d y (k.at d y) }
  where
    go : (d y : ℕ) → (u d y ≡ (apply_all_caching ys c).now d y) ⊎ (Here g x d × Memᴰ (u d y) ((apply_all_caching ys c).was d y))
        → (u d y ≡ (apply_all_caching ys (uncached c.now)).now d y) ⊎ (Here g x d × Memᴰ (u d y) ((apply_all_caching ys (uncached c.now)).was d y))
    go d y (inl q) = inl (q ∙ ap (λ (t : Device). t d y) (now_is ys c ∙ sym (now_is ys (uncached c.now))))
    go d y (inr (a, m)) =
        let e : (apply_all_caching ys c).was d y ≡ (apply_all_caching ys (uncached c.now)).was d y = was_is d y ys c ∙ ap (remember_here (local_stores d y ys) (c.now d y)) (none d y a) ∙ sym (was_is d y ys (uncached c.now)) in
        inr (a, rw e at m)

module _ (g : Geometry) (x : ℕ) (v : Device) (xs ys : List Store) where
  joined : (d y : ℕ) → remember_here (local_stores d y (xs ++ ys)) (v d y) [] ≡ remember_here (local_stores d y ys) (apply_all xs v d y) (remember_here (local_stores d y xs) (v d y) [])
  joined d y = ap (λ (os : List LocalStore). remember_here os (v d y) []) (local_append d y xs ys) ∙ remember_append (local_stores d y xs) (local_stores d y ys) (v d y) []
      ∙ ap (λ (a : ZoneView). remember_here (local_stores d y ys) a (remember_here (local_stores d y xs) (v d y) [])) (sym (local_is d y xs v))

  pub forgets_append : Forgets g x v xs → Forgets g x (apply_all xs v) ys → Forgets g x v (xs ++ ys)
  forgets_append f h = record { none = λ d y a. joined d y ∙ ap (remember_here (local_stores d y ys) (apply_all xs v d y)) (f.none d y a) ∙ h.none d y a }

  pub delayed_append : (u : Device) → Forgets g x v xs → Delayed g x v (xs ++ ys) u → Delayed g x (apply_all xs v) ys u
  delayed_append u f k =
      let c = apply_all_caching xs (uncached v) in
      let p : PutBack g x (apply_all_caching ys c) u = subst (λ (t : Caching). PutBack g x t u) (caching_append xs ys (uncached v)) k in
      subst (λ (t : Device). Delayed g x t ys u) (now_is xs (uncached v)) (begun_anew g x c ys u (λ d y a. was_is d y xs (uncached v) ∙ f.none d y a) p)

-- where no place sees a reset, nothing is remembered
pub no_resets_forget : (g : Geometry) (x : ℕ) (v : Device) (xs : List Store) → ((d y : ℕ) → Here g x d → NoReset (local_stores d y xs)) → Forgets g x v xs
no_resets_forget g x v xs n = record { none = λ d y a. remembers_none (local_stores d y xs) (v d y) (n d y a) }

-- a place that saw a flush last
pub flushed_forgets : (os : List LocalStore) (a : ZoneView) (was : List ZoneView) → remember_here (os ++ (flush_here ∷ [])) a was ≡ []
flushed_forgets os a was = remember_append os (flush_here ∷ []) a was

-- ---- a place that sees flushes alone
abbrev pub OnlyFlush : List LocalStore → Type 0
OnlyFlush [] = Unit {0}
OnlyFlush (append_here s ∷ os) = ⊥
OnlyFlush (reset_here ∷ os) = ⊥
OnlyFlush (flush_here ∷ os) = OnlyFlush os

pub only_flush_sectors : (os : List LocalStore) (a : ZoneView) → OnlyFlush os → (apply_all_here os a).sectors ≡ a.sectors
only_flush_sectors [] a n = refl
only_flush_sectors (append_here s ∷ os) a n = absurd n
only_flush_sectors (reset_here ∷ os) a n = absurd n
only_flush_sectors (flush_here ∷ os) a n = only_flush_sectors os (apply_here flush_here a) n

only_flush_none : (os : List LocalStore) (a : ZoneView) → OnlyFlush os → remember_here os a [] ≡ []
only_flush_none [] a n = refl
only_flush_none (append_here s ∷ os) a n = absurd n
only_flush_none (reset_here ∷ os) a n = absurd n
only_flush_none (flush_here ∷ os) a n = only_flush_none os (apply_here flush_here a) n

-- what it still remembers it remembered before, and it saw nothing
pub only_flush_back : (os : List LocalStore) (a b : ZoneView) (was : List ZoneView) → OnlyFlush os → Memᴰ b (remember_here os a was) → (os ≡ []) × Memᴰ b was
only_flush_back [] a b was n m = (refl, m)
only_flush_back (append_here s ∷ os) a b was n m = absurd n
only_flush_back (reset_here ∷ os) a b was n m = absurd n
only_flush_back (flush_here ∷ os) a b was n m = mem_nil b (rw (only_flush_none os (apply_here flush_here a) n) at m)

-- ---- WHAT WAS REMEMBERED BEFORE, at places that see flushes alone, may as well be put back before the stores
module _ (g : Geometry) (x : ℕ) (c : Caching) (xs : List Store) (quiet : (d y : ℕ) → Here g x d → (c.was d y ≡ []) ⊎ OnlyFlush (local_stores d y xs)) (t : Device) (k : PutBack g x (apply_all_caching xs c) t) where
  abbrev After : ℕ → ℕ → Type 0
  After d y = (t d y ≡ (apply_all_caching xs c).now d y) ⊎ (Here g x d × Memᴰ (t d y) ((apply_all_caching xs c).was d y))

  abbrev choose : (d y : ℕ) → Here g x d → (c.was d y ≡ []) ⊎ OnlyFlush (local_stores d y xs) → ZoneView
  choose d y a (inl e) = c.now d y
  choose d y a (inr n) = t d y

  abbrev start : (d y : ℕ) → After d y → ZoneView
  start d y (inl q) = c.now d y
  start d y (inr (a, m)) = choose d y a (quiet d y a)

  abbrev pub put_first : Device
  put_first d y = start d y (k.at d y)

  remembered : (d y : ℕ) → Memᴰ (t d y) ((apply_all_caching xs c).was d y) → Memᴰ (t d y) (remember_here (local_stores d y xs) (c.now d y) (c.was d y))
  remembered d y m = rw (was_is d y xs c) at m

  pub put_first_back : PutBack g x c put_first
  put_first_back = record { at = λ d y. go d y (k.at d y) }
    where
      side : (d y : ℕ) (a : Here g x d) → Memᴰ (t d y) ((apply_all_caching xs c).was d y) → (q : (c.was d y ≡ []) ⊎ OnlyFlush (local_stores d y xs)) → (choose d y a q ≡ c.now d y) ⊎ (Here g x d × Memᴰ (choose d y a q) (c.was d y))
      side d y a m (inl e) = inl refl
      side d y a m (inr n) = inr (a, (only_flush_back (local_stores d y xs) (c.now d y) (t d y) (c.was d y) n (remembered d y m)).1)

      go : (d y : ℕ) (q : After d y) → (start d y q ≡ c.now d y) ⊎ (Here g x d × Memᴰ (start d y q) (c.was d y))
      go d y (inl q) = inl refl
      go d y (inr (a, m)) = side d y a m (quiet d y a)

  pub put_first_delayed : Delayed g x put_first xs t
  put_first_delayed = record { at = λ d y. shape d y (go d y (k.at d y)) }
    where
      shape : (d y : ℕ) → (t d y ≡ apply_all_here (local_stores d y xs) (put_first d y)) ⊎ (Here g x d × Memᴰ (t d y) (remember_here (local_stores d y xs) (put_first d y) []))
          → (t d y ≡ (apply_all_caching xs (uncached put_first)).now d y) ⊎ (Here g x d × Memᴰ (t d y) ((apply_all_caching xs (uncached put_first)).was d y))
      shape d y (inl q) = inl (q ∙ sym (local_is d y xs put_first) ∙ ap (λ (u : Device). u d y) (sym (now_is xs (uncached put_first))))
      shape d y (inr (a, m)) = inr (a, rw (was_is d y xs (uncached put_first)) m)

      side : (d y : ℕ) (a : Here g x d) → Memᴰ (t d y) (remember_here (local_stores d y xs) (c.now d y) (c.was d y)) → (q : (c.was d y ≡ []) ⊎ OnlyFlush (local_stores d y xs))
          → (t d y ≡ apply_all_here (local_stores d y xs) (choose d y a q)) ⊎ (Here g x d × Memᴰ (t d y) (remember_here (local_stores d y xs) (choose d y a q) []))
      side d y a m (inl e) = inr (a, rw e at m)
      side d y a m (inr n) = inl (sym (ap (λ (os : List LocalStore). apply_all_here os (t d y)) (only_flush_back (local_stores d y xs) (c.now d y) (t d y) (c.was d y) n m).0))

      go : (d y : ℕ) (q : After d y) → (t d y ≡ apply_all_here (local_stores d y xs) (start d y q)) ⊎ (Here g x d × Memᴰ (t d y) (remember_here (local_stores d y xs) (start d y q) []))
      go d y (inl q) = inl (q ∙ ap (λ (u : Device). u d y) (now_is xs c) ∙ local_is d y xs c.now)
      go d y (inr (a, m)) = side d y a (remembered d y m) (quiet d y a)

-- a place of a delayed device, by what it saw
pub delayed_at : (g : Geometry) (x : ℕ) (v : Device) (xs : List Store) (w : Device) (d y : ℕ) → Here g x d → BackHere (local_stores d y xs) (v d y) [] (w d y)
    → (w d y ≡ (apply_all_caching xs (uncached v)).now d y) ⊎ (Here g x d × Memᴰ (w d y) ((apply_all_caching xs (uncached v)).was d y))
delayed_at g x v xs w d y a (inl q) = inl (q ∙ sym (local_is d y xs v) ∙ ap (λ (u : Device). u d y) (sym (now_is xs (uncached v))))
delayed_at g x v xs w d y a (inr m) = inr (a, rw (was_is d y xs (uncached v)) m)
