-- The sectors that a list of stores appends to a zone, in their order. Stores that reset no log leave each log what it was, and then these sectors
-- (`log_after`); a drive that they are not on they leave alone (`absent_after`). And what steps with their flushes append to a present drive (`sectors_steps`).
use Rattle.std.specs.Prelude.{◌≡◌, refl, ◌≢◌, Bool, true, false, ◌&&◌, ℕ, zero, suc, ◌≤◌, ◌<◌, List, [], ◌∷◌, ◌++◌, eqb}
use Rattle.std.proofs.Common.{sym, ap, ap₂, ◌∙◌, true≢false, not-suc-le-zero, arith, append_assoc, append-nil, ne_eqb, eqb-true}
use Rattle.std.proofs.Math.Decide.{ℕ_discrete}
use Rattle.tables.specs.declared.Geometry.{Geometry}
use Rattle.tables.specs.meaning.Basics.{pick}
use Rattle.tables.specs.laws.Basics.{and_split, eqb_same}
use Rattle.tables.specs.meaning.Below.{each_below}
use Rattle.tables.specs.meaning.Lists.{concat, is_nil}
use Rattle.tables.specs.laws.Lists.{concat_append}
use Rattle.tables.specs.meaning.Device.{ZoneView, Device, Store, append, reset, flush, store_drive, appended, blank_zone, flushed, apply, apply_all}
use Rattle.tables.specs.laws.Device.{apply_frame}
use Rattle.tables.specs.meaning.Phases.{on_present, flush_all}
use Rattle.tables.specs.laws.StoresFit.{AllOn}
use Rattle.logs.specs.meaning.Entry.{parity_zone}
use Rattle.volume.specs.meaning.Calls.{append_all}
use Rattle.volume.specs.meaning.Mount.{with_flush, with_flushes}

-- ---- the sectors appended to zone y of drive d
abbrev pub sectors_of_store : ℕ → ℕ → Store → List (List ℕ)
sectors_of_store d y (append e z s) = pick (eqb d e && eqb y z) (s ∷ []) []
sectors_of_store d y (reset e z) = []
sectors_of_store d y (flush e) = []

abbrev pub sectors_to : ℕ → ℕ → List Store → List (List ℕ)
sectors_to d y [] = []
sectors_to d y (x ∷ xs) = sectors_of_store d y x ++ sectors_to d y xs

-- ---- no log is reset
abbrev pub KeepsLogs : Store → Type 0
KeepsLogs (append d z s) = Unit {0}
KeepsLogs (reset d z) = parity_zone < z
KeepsLogs (flush d) = Unit {0}

abbrev pub AllKeepLogs : List Store → Type 0
AllKeepLogs [] = Unit {0}
AllKeepLogs (x ∷ xs) = KeepsLogs x × AllKeepLogs xs

one_after : (x : Store) (v : Device) (d y : ℕ) → y ≤ parity_zone → KeepsLogs x → (apply x v d y).sectors ≡ (v d y).sectors ++ sectors_of_store d y x
one_after (append e z s) v d y h k = go (eqb d e && eqb y z) (λ q. let (a, b) = and_split (eqb d e) (eqb y z) q in ap₂ v (sym (eqb-true d e a)) (sym (eqb-true y z b)))
  where
    go : (b : Bool) → (b ≡ true → v e z ≡ v d y) → (pick b (appended s (v e z)) (v d y)).sectors ≡ (v d y).sectors ++ pick b (s ∷ []) []
    go true q = ap (λ (u : ZoneView). u.sectors ++ (s ∷ [])) (q refl)
    go false q = sym (append-nil (v d y).sectors)
one_after (reset e z) v d y h k = go (eqb d e && eqb y z) (λ q. let y_is : y ≡ z = eqb-true y z (and_split (eqb d e) (eqb y z) q).1 in omega (arith, h, k))
  where
    go : (b : Bool) → (b ≡ true → ⊥) → (pick b blank_zone (v d y)).sectors ≡ (v d y).sectors ++ []
    go true q = absurd (q refl)
    go false q = sym (append-nil (v d y).sectors)
one_after (flush e) v d y h k = go (eqb d e)
  where
    go : (b : Bool) → (pick b (flushed (v d y)) (v d y)).sectors ≡ (v d y).sectors ++ []
    go true = sym (append-nil (v d y).sectors)
    go false = sym (append-nil (v d y).sectors)

-- THE LOG AFTERWARDS
pub log_after : (xs : List Store) (v : Device) (d y : ℕ) → y ≤ parity_zone → AllKeepLogs xs → (apply_all xs v d y).sectors ≡ (v d y).sectors ++ sectors_to d y xs
log_after [] v d y h k = sym (append-nil (v d y).sectors)
log_after (x ∷ xs) v d y h k =
    log_after xs (apply x v) d y h k.1 ∙ ap (λ (ss : List (List ℕ)). ss ++ sectors_to d y xs) (one_after x v d y h k.0) ∙ append_assoc (v d y).sectors (sectors_of_store d y x) (sectors_to d y xs)

-- a drive that the stores are not on
pub absent_after : (a : ℕ → Bool) (xs : List Store) (v : Device) (d y : ℕ) → AllOn a xs → a d ≡ false → apply_all xs v d y ≡ v d y
absent_after a [] v d y on h = refl
absent_after a (x ∷ xs) v d y on h = absent_after a xs (apply x v) d y on.1 h ∙ apply_frame x v d y (λ q. true≢false (sym on.0 ∙ rw (← q) h))

-- ---- lists of stores
pub keep_append : (xs ys : List Store) → AllKeepLogs xs → AllKeepLogs ys → AllKeepLogs (xs ++ ys)
keep_append [] ys p q = q
keep_append (x ∷ xs) ys p q = (p.0, keep_append xs ys p.1 q)

pub keep_each : (f : ℕ → List Store) (n : ℕ) → ((k : ℕ) → AllKeepLogs (f k)) → AllKeepLogs (each_below f n)
keep_each f zero h = tt
keep_each f (suc n) h = keep_append (each_below f n) (f n) (keep_each f n h) (h n)

pub keep_pick : (b : Bool) (xs : List Store) → AllKeepLogs xs → AllKeepLogs (pick b xs [])
keep_pick true xs p = p
keep_pick false xs p = tt

pub keep_appends : (d y : ℕ) (ss : List (List ℕ)) → AllKeepLogs (append_all d y ss)
keep_appends d y [] = tt
keep_appends d y (s ∷ ss) = (tt, keep_appends d y ss)

keep_present : (a : ℕ → Bool) (xs : List Store) → AllKeepLogs xs → AllKeepLogs (on_present a xs)
keep_present a [] p = tt
keep_present a (x ∷ xs) p = go (a (store_drive x)) (keep_present a xs p.1)
  where
    go : (b : Bool) → AllKeepLogs (on_present a xs) → AllKeepLogs (pick b (x ∷ on_present a xs) (on_present a xs))
    go true q = (p.0, q)
    go false q = q

keep_flushes : (n : ℕ) → AllKeepLogs (flush_all n)
keep_flushes zero = tt
keep_flushes (suc n) = keep_append (flush_all n) (flush n ∷ []) (keep_flushes n) (tt, tt)

abbrev pub EachKeepsLogs : List (List Store) → Type 0
EachKeepsLogs [] = Unit {0}
EachKeepsLogs (xs ∷ steps) = AllKeepLogs xs × EachKeepsLogs steps

pub sectors_append : (d y : ℕ) (xs ys : List Store) → sectors_to d y (xs ++ ys) ≡ sectors_to d y xs ++ sectors_to d y ys
sectors_append d y [] ys = refl
sectors_append d y (x ∷ xs) ys = ap (λ (r : List (List ℕ)). sectors_of_store d y x ++ r) (sectors_append d y xs ys) ∙ sym (append_assoc (sectors_of_store d y x) (sectors_to d y xs) (sectors_to d y ys))

other_store : (d y : ℕ) (x : Store) → d ≢ store_drive x → sectors_of_store d y x ≡ []
other_store d y (append e z s) n = rw (ne_eqb d e n) refl
other_store d y (reset e z) n = refl
other_store d y (flush e) n = refl

sectors_present : (a : ℕ → Bool) (d y : ℕ) (xs : List Store) → a d ≡ true → sectors_to d y (on_present a xs) ≡ sectors_to d y xs
sectors_present a d y [] h = refl
sectors_present a d y (x ∷ xs) h = go (a (store_drive x)) refl (sectors_present a d y xs h)
  where
    go : (b : Bool) → a (store_drive x) ≡ b → sectors_to d y (on_present a xs) ≡ sectors_to d y xs → sectors_to d y (pick b (x ∷ on_present a xs) (on_present a xs)) ≡ sectors_of_store d y x ++ sectors_to d y xs
    go true e ih = ap (λ (r : List (List ℕ)). sectors_of_store d y x ++ r) ih
    go false e ih =
        let n : d ≢ store_drive x = λ q. true≢false (sym h ∙ rw q e) in
        ih ∙ ap (λ (r : List (List ℕ)). r ++ sectors_to d y xs) (sym (other_store d y x n))

sectors_flushes : (d y n : ℕ) → sectors_to d y (flush_all n) ≡ []
sectors_flushes d y zero = refl
sectors_flushes d y (suc n) = sectors_append d y (flush_all n) (flush n ∷ []) ∙ rw (sectors_flushes d y n) refl

-- ---- a property of lists of sectors that joining keeps
abbrev pub EachStored : ℕ → ℕ → (List (List ℕ) → Type 0) → List (List Store) → Type 0
EachStored d y P [] = Unit {0}
EachStored d y P (xs ∷ steps) = P (sectors_to d y xs) × EachStored d y P steps

module _ (d y : ℕ) (P : List (List ℕ) → Type 0) (none : P []) (join : (a b : List (List ℕ)) → P a → P b → P (a ++ b)) where
  pub each_stored : (f : ℕ → List Store) (n : ℕ) → ((k : ℕ) → k < n → P (sectors_to d y (f k))) → P (sectors_to d y (each_below f n))
  each_stored f zero h = none
  each_stored f (suc n) h = rw (sectors_append d y (each_below f n) (f n)) (join (sectors_to d y (each_below f n)) (sectors_to d y (f n)) (each_stored f n (λ k l. h k (omega arith))) (h n (omega arith)))

  pub pick_stored : (b : Bool) (xs : List Store) → (b ≡ true → P (sectors_to d y xs)) → P (sectors_to d y (pick b xs []))
  pick_stored true xs h = h refl
  pick_stored false xs h = none

  pub steps_stored : (steps : List (List Store)) → EachStored d y P steps → P (sectors_to d y (concat steps))
  steps_stored [] p = none
  steps_stored (xs ∷ steps) p = rw (sectors_append d y xs (concat steps)) (join (sectors_to d y xs) (sectors_to d y (concat steps)) p.0 (steps_stored steps p.1))

pub none_join : (a b : List (List ℕ)) → a ≡ [] → b ≡ [] → a ++ b ≡ []
none_join a b p q = rw (p, q) refl

-- of stores for each drive, a drive gets its own
before_own : (f : ℕ → List Store) (d y : ℕ) → ((k : ℕ) → d ≢ k → sectors_to d y (f k) ≡ []) → (n : ℕ) → n ≤ d → sectors_to d y (each_below f n) ≡ []
before_own f d y others zero h = refl
before_own f d y others (suc n) h = sectors_append d y (each_below f n) (f n) ∙ none_join (sectors_to d y (each_below f n)) (sectors_to d y (f n)) (before_own f d y others n (omega arith)) (others n (omega arith))

pub own_stored : (f : ℕ → List Store) (d y : ℕ) → ((k : ℕ) → d ≢ k → sectors_to d y (f k) ≡ []) → (n : ℕ) → d < n → sectors_to d y (each_below f n) ≡ sectors_to d y (f d)
own_stored f d y others zero h = absurd (not-suc-le-zero h)
own_stored f d y others (suc n) h = sectors_append d y (each_below f n) (f n) ∙ go (ℕ_discrete d n) (λ k. own_stored f d y others n k)
  where
    go : Dec (d ≡ n) → (d < n → sectors_to d y (each_below f n) ≡ sectors_to d y (f d)) → sectors_to d y (each_below f n) ++ sectors_to d y (f n) ≡ sectors_to d y (f d)
    go (yes e) ih = rw (before_own f d y others n (omega arith), ← e) refl
    go (no e) ih = rw (ih (omega arith), others n e) (append-nil (sectors_to d y (f d)))

-- sectors appended to one zone
pub appends_there : (d y : ℕ) (ss : List (List ℕ)) → sectors_to d y (append_all d y ss) ≡ ss
appends_there d y [] = refl
appends_there d y (s ∷ ss) = rw (eqb_same d, eqb_same y) (ap (λ (r : List (List ℕ)). s ∷ r) (appends_there d y ss))

pub appends_other_drive : (d y e z : ℕ) (ss : List (List ℕ)) → d ≢ e → sectors_to d y (append_all e z ss) ≡ []
appends_other_drive d y e z [] n = refl
appends_other_drive d y e z (s ∷ ss) n = rw (ne_eqb d e n) (appends_other_drive d y e z ss n)

pub appends_other_zone : (d y e z : ℕ) (ss : List (List ℕ)) → y ≢ z → sectors_to d y (append_all e z ss) ≡ []
appends_other_zone d y e z [] n = refl
appends_other_zone d y e z (s ∷ ss) n = go (eqb d e) (appends_other_zone d y e z ss n)
  where
    go : (b : Bool) → sectors_to d y (append_all e z ss) ≡ [] → pick (b && eqb y z) (s ∷ []) [] ++ sectors_to d y (append_all e z ss) ≡ []
    go true ih = rw (ne_eqb y z n) ih
    go false ih = ih

-- ---- steps with their flushes
module _ (g : Geometry) (a : ℕ → Bool) where
  abbrev flush_after : List Store → List Store
  flush_after xs = pick (is_nil (on_present a xs)) [] (on_present a (flush_all g.drives))

  pub keep_step : (xs : List Store) → AllKeepLogs xs → AllKeepLogs (concat (with_flush g a xs))
  keep_step xs p = keep_append (on_present a xs) (flush_after xs ++ []) (keep_present a xs p) (keep_append (flush_after xs) [] (go (is_nil (on_present a xs))) tt)
    where
      go : (b : Bool) → AllKeepLogs (pick b [] (on_present a (flush_all g.drives)))
      go true = tt
      go false = keep_present a (flush_all g.drives) (keep_flushes g.drives)

  pub keep_steps : (steps : List (List Store)) → EachKeepsLogs steps → AllKeepLogs (concat (with_flushes g a steps))
  keep_steps [] p = tt
  keep_steps (xs ∷ steps) p = rw (concat_append (with_flush g a xs) (with_flushes g a steps)) (keep_append (concat (with_flush g a xs)) (concat (with_flushes g a steps)) (keep_step xs p.0) (keep_steps steps p.1))

  module _ (d y : ℕ) (here : a d ≡ true) where
    pub sectors_step : (xs : List Store) → sectors_to d y (concat (with_flush g a xs)) ≡ sectors_to d y xs
    sectors_step xs =
        sectors_append d y (on_present a xs) (flush_after xs ++ []) ∙ ap₂ (λ (p q : List (List ℕ)). p ++ q) (sectors_present a d y xs here) (sectors_append d y (flush_after xs) [] ∙ ap (λ (r : List (List ℕ)). r ++ []) (go (is_nil (on_present a xs))))
        ∙ append-nil (sectors_to d y xs)
      where
        go : (b : Bool) → sectors_to d y (pick b [] (on_present a (flush_all g.drives))) ≡ []
        go true = refl
        go false = sectors_present a d y (flush_all g.drives) here ∙ sectors_flushes d y g.drives

    pub sectors_steps : (steps : List (List Store)) → sectors_to d y (concat (with_flushes g a steps)) ≡ sectors_to d y (concat steps)
    sectors_steps [] = refl
    sectors_steps (xs ∷ steps) =
        ap (sectors_to d y) (concat_append (with_flush g a xs) (with_flushes g a steps)) ∙ sectors_append d y (concat (with_flush g a xs)) (concat (with_flushes g a steps))
        ∙ ap₂ (λ (p q : List (List ℕ)). p ++ q) (sectors_step xs) (sectors_steps steps) ∙ sym (sectors_append d y xs (concat steps))
