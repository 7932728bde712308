-- Of drives that cache resets: a cut of the older sort is one of theirs; the device with its caches is document 01's; what a place remembers is what it saw; and
-- a cut is one of the older sort of a device where remembered views are put back.
use Rattle.std.specs.Prelude.{◌≡◌, ◌≢◌, ◌⊎◌, Bool, true, false, ◌&&◌, ℕ, eqb}
use Rattle.std.proofs.Math.Path.{refl}
use Rattle.std.proofs.Common.{sym, ap, ap₂, ◌∙◌}
use Rattle.std.proofs.Math.Logic.{inl, inr}
use Rattle.std.proofs.Math.Decide.{ℕ_discrete}
use mathlib.Core.List.{List, [], ◌∷◌, ◌++◌, append-nil, Memᴰ}
use Rattle.tables.specs.meaning.Basics.{pick}
use Rattle.tables.specs.laws.Lists.{mem_nil}
use Rattle.tables.specs.meaning.Device.{ZoneView, Device, Store, append, reset, flush, apply, apply_all, ZoneCut, Cut, Loss}
use Rattle.tables.specs.laws.Local.{LocalStore, append_here, reset_here, flush_here, apply_here, apply_all_here, local_store, local_stores, local_is, local_append}
use Rattle.tables.specs.meaning.Cached.{Caching, uncached, apply_caching, apply_all_caching, LeftOf, CachingCut}

pub caching_cut_at : (x : ℕ) (c : Caching) (w : Device) → CachingCut x c w → (d z : ℕ) → d ≢ x → LeftOf (c.now d z) (c.was d z) (w d z)
unfolding CachingCut
caching_cut_at x c w h = h

-- A CUT OF THE OLDER SORT is one of this
pub older_cut : (x : ℕ) (c : Caching) (w : Device) → Cut x c.now w → CachingCut x c w
unfolding Cut CachingCut
older_cut x c w h d z n = inl (h d z n)

-- and where nothing is remembered there is no other
pub uncached_cut : (x : ℕ) (c : Caching) (w : Device) → ((d z : ℕ) → d ≢ x → c.was d z ≡ []) → CachingCut x c w → Cut x c.now w
unfolding Cut CachingCut
uncached_cut x c w none h d z n = go (h d z n)
  where
    go : LeftOf (c.now d z) (c.was d z) (w d z) → ZoneCut (c.now d z) (w d z)
    go (inl k) = k
    go (inr (o, m, k)) = mem_nil o (rw (none d z n) at m)

-- ---- stores
pub caching_append : (xs ys : List Store) (c : Caching) → apply_all_caching (xs ++ ys) c ≡ apply_all_caching ys (apply_all_caching xs c)
caching_append [] ys c = refl
caching_append (x ∷ xs) ys c = caching_append xs ys (apply_caching x c)

-- the device is document 01's
pub now_is : (xs : List Store) (c : Caching) → (apply_all_caching xs c).now ≡ apply_all xs c.now
now_is [] c = refl
now_is (append d z s ∷ xs) c = now_is xs (apply_caching (append d z s) c)
now_is (reset d z ∷ xs) c = now_is xs (apply_caching (reset d z) c)
now_is (flush d ∷ xs) c = now_is xs (apply_caching (flush d) c)

-- ---- of one place
abbrev pub remember_here : List LocalStore → ZoneView → List ZoneView → List ZoneView
remember_here [] a was = was
remember_here (append_here s ∷ os) a was = remember_here os (apply_here (append_here s) a) was
remember_here (reset_here ∷ os) a was = remember_here os (apply_here reset_here a) (a ∷ was)
remember_here (flush_here ∷ os) a was = remember_here os (apply_here flush_here a) []

pub remember_append : (xs ys : List LocalStore) (a : ZoneView) (was : List ZoneView) → remember_here (xs ++ ys) a was ≡ remember_here ys (apply_all_here xs a) (remember_here xs a was)
remember_append [] ys a was = refl
remember_append (append_here s ∷ xs) ys a was = remember_append xs ys (apply_here (append_here s) a) was
remember_append (reset_here ∷ xs) ys a was = remember_append xs ys (apply_here reset_here a) (a ∷ was)
remember_append (flush_here ∷ xs) ys a was = remember_append xs ys (apply_here flush_here a) []

one_store : (d z : ℕ) (x : Store) (c : Caching) → (apply_caching x c).was d z ≡ remember_here (local_store d z x) (c.now d z) (c.was d z)
one_store d z (append e y s) c = go (eqb d e && eqb z y)
  where
    go : (b : Bool) → c.was d z ≡ remember_here (pick b (append_here s ∷ []) []) (c.now d z) (c.was d z)
    go true = refl
    go false = refl
one_store d z (reset e y) c = go (eqb d e && eqb z y)
  where
    go : (b : Bool) → pick b (c.now d z ∷ c.was d z) (c.was d z) ≡ remember_here (pick b (reset_here ∷ []) []) (c.now d z) (c.was d z)
    go true = refl
    go false = refl
one_store d z (flush e) c = go (eqb d e)
  where
    go : (b : Bool) → pick b [] (c.was d z) ≡ remember_here (pick b (flush_here ∷ []) []) (c.now d z) (c.was d z)
    go true = refl
    go false = refl

step_now : (d z : ℕ) (x : Store) (c : Caching) → (apply_caching x c).now d z ≡ apply_all_here (local_store d z x) (c.now d z)
step_now d z x c = ap (λ (v : Device). v d z) (now_is (x ∷ []) c) ∙ local_is d z (x ∷ []) c.now ∙ ap (λ (os : List LocalStore). apply_all_here os (c.now d z)) (append-nil (local_store d z x))

-- WHAT A PLACE REMEMBERS is what it saw
pub was_is : (d z : ℕ) (xs : List Store) (c : Caching) → (apply_all_caching xs c).was d z ≡ remember_here (local_stores d z xs) (c.now d z) (c.was d z)
was_is d z [] c = refl
was_is d z (x ∷ xs) c =
    was_is d z xs (apply_caching x c) ∙ ap₂ (remember_here (local_stores d z xs)) (step_now d z x c) (one_store d z x c) ∙ sym (remember_append (local_store d z x) (local_stores d z xs) (c.now d z) (c.was d z))

-- ---- DEVICES WITH REMEMBERED VIEWS PUT BACK (x: the lost drive)
pub record PutBack (x : ℕ) (c : Caching) (u : Device) : Type 0 where
  pub at : (d y : ℕ) → (u d y ≡ c.now d y) ⊎ ((d ≢ x) × Memᴰ (u d y) (c.was d y))

pub none_back : (x : ℕ) (c : Caching) → PutBack x c c.now
none_back x c = record { at = λ d y. inl refl }

-- a cut is one of the older sort of such a device
module _ (x : ℕ) (c : Caching) (w : Device) (h : CachingCut x c w) where
  chosen : (d y : ℕ) → LeftOf (c.now d y) (c.was d y) (w d y) → ZoneView
  chosen d y (inl k) = c.now d y
  chosen d y (inr (o, m, k)) = o

  view : (d y : ℕ) → Dec (d ≡ x) → ZoneView
  view d y (yes q) = c.now d y
  view d y (no n) = chosen d y (caching_cut_at x c w h d y n)

  pub cut_from : Device
  cut_from d y = view d y (ℕ_discrete d x)

  pub cut_from_back : PutBack x c cut_from
  unfolding cut_from chosen view
  cut_from_back = record { at = λ d y. go d y (ℕ_discrete d x) }
    where
      side : (d y : ℕ) → d ≢ x → (k : LeftOf (c.now d y) (c.was d y) (w d y)) → (chosen d y k ≡ c.now d y) ⊎ ((d ≢ x) × Memᴰ (chosen d y k) (c.was d y))
      side d y n (inl k) = inl refl
      side d y n (inr (o, m, k)) = inr (n, m)

      go : (d y : ℕ) (q : Dec (d ≡ x)) → (view d y q ≡ c.now d y) ⊎ ((d ≢ x) × Memᴰ (view d y q) (c.was d y))
      go d y (yes q) = inl refl
      go d y (no n) = side d y n (caching_cut_at x c w h d y n)

  pub cut_from_cut : Cut x cut_from w
  unfolding Cut cut_from chosen view
  cut_from_cut d y n = go (ℕ_discrete d x)
    where
      side : (k : LeftOf (c.now d y) (c.was d y) (w d y)) → ZoneCut (chosen d y k) (w d y)
      side (inl k) = k
      side (inr (o, m, k)) = k

      go : (q : Dec (d ≡ x)) → ZoneCut (view d y q) (w d y)
      go (yes q) = absurd (n q)
      go (no m) = side (caching_cut_at x c w h d y m)

-- ---- the loss of drive x: the others' caches stay as they are
pub record CachingLoss (x : ℕ) (c k : Caching) : Type 0 where
  pub now_same : Loss x c.now k.now
  pub was_same : (d z : ℕ) → d ≢ x → k.was d z ≡ c.was d z
