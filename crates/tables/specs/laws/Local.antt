-- A list of stores as one place (a drive's physical zone) sees it. Whatever a call does, stopped after any number of stores, each place
-- has seen a prefix of what it sees of the whole call: so a crash proof looks at one place at a time.
use Rattle.std.specs.Prelude.{◌≡◌, refl, Bool, true, false, ◌&&◌, ℕ, ◌≤◌, List, [], ◌∷◌, ◌++◌, map, length, take, drop, eqb}
use Rattle.std.proofs.Common.{sym, ◌∙◌, le_refl, le_trans, arith, append_assoc, append-nil, length-append, length-take, take-append-drop, eqb-true}
use Rattle.tables.specs.meaning.Basics.{pick}
use Rattle.tables.specs.laws.Lists.{Prefix, prefix_refl, prefix_trans, prefix_take, prefix_append}
use Rattle.tables.specs.meaning.Device.{ZoneView, Device, Store, append, reset, flush, appended, blank_zone, flushed, put_zone, apply, apply_all, ZoneCut}

-- ---- definitions
-- a store, seen from its place
pub data LocalStore : Type 0 where
  append_here : List ℕ → LocalStore
  reset_here : LocalStore
  flush_here : LocalStore

abbrev pub apply_here : LocalStore → ZoneView → ZoneView
apply_here (append_here s) a = appended s a
apply_here reset_here a = blank_zone
apply_here flush_here a = flushed a

abbrev pub apply_all_here : List LocalStore → ZoneView → ZoneView
apply_all_here [] a = a
apply_all_here (o ∷ os) a = apply_all_here os (apply_here o a)

-- what one store is at drive d, zone z; and a list of them
abbrev pub local_store : ℕ → ℕ → Store → List LocalStore
local_store d z (append e y s) = pick (eqb d e && eqb z y) (append_here s ∷ []) []
local_store d z (reset e y) = pick (eqb d e && eqb z y) (reset_here ∷ []) []
local_store d z (flush e) = pick (eqb d e) (flush_here ∷ []) []

abbrev pub local_stores : ℕ → ℕ → List Store → List LocalStore
local_stores d z [] = []
local_stores d z (x ∷ xs) = local_store d z x ++ local_stores d z xs

-- ---- laws
pub apply_here_append : (xs ys : List LocalStore) (a : ZoneView) → apply_all_here (xs ++ ys) a ≡ apply_all_here ys (apply_all_here xs a)
apply_here_append [] ys a = refl
apply_here_append (x ∷ xs) ys a = apply_here_append xs ys (apply_here x a)

pub local_append : (d z : ℕ) (xs ys : List Store) → local_stores d z (xs ++ ys) ≡ local_stores d z xs ++ local_stores d z ys
local_append d z [] ys = refl
local_append d z (x ∷ xs) ys = rw (local_append d z xs ys) (sym (append_assoc (local_store d z x) (local_stores d z xs) (local_stores d z ys)))

pick_here : (b : Bool) (o : LocalStore) (a : ZoneView) → pick b (apply_here o a) a ≡ apply_all_here (pick b (o ∷ []) []) a
pick_here true o a = refl
pick_here false o a = refl

apply_local : (d z : ℕ) (x : Store) (v : Device) → apply x v d z ≡ apply_all_here (local_store d z x) (v d z)
apply_local d z (append e y s) v = go (eqb d e) refl (eqb z y) refl
  where
    go : (p : Bool) → eqb d e ≡ p → (q : Bool) → eqb z y ≡ q → put_zone v e y (appended s (v e y)) d z ≡ apply_all_here (pick (eqb d e && eqb z y) (append_here s ∷ []) []) (v d z)
    go true h true k = rw (← eqb-true d e h, ← eqb-true z y k) (pick_here (eqb d d && eqb z z) (append_here s) (v d z))
    go true h false k = rw (h, k, put_zone) refl
    go false h q k = rw (h, put_zone) refl
apply_local d z (reset e y) v = pick_here (eqb d e && eqb z y) reset_here (v d z)
apply_local d z (flush e) v = pick_here (eqb d e) flush_here (v d z)

-- what a list of stores makes of a place is what the place sees of it
pub local_is : (d z : ℕ) (xs : List Store) (v : Device) → apply_all xs v d z ≡ apply_all_here (local_stores d z xs) (v d z)
local_is d z [] v = refl
local_is d z (x ∷ xs) v = local_is d z xs (apply x v) ∙ rw (apply_local d z x v) (sym (apply_here_append (local_store d z x) (local_stores d z xs) (v d z)))

-- every prefix of the stores is, at each place, a prefix of what it sees
pub local_take : (d z n : ℕ) (xs : List Store) → Prefix (local_stores d z (take n xs)) (local_stores d z xs)
local_take d z n xs = record { rest = local_stores d z (drop n xs); is = sym (local_append d z (take n xs) (drop n xs)) ∙ rw (take-append-drop n xs) refl }

-- ---- a place whose stores reset nothing
abbrev pub NoReset : List LocalStore → Type 0
NoReset [] = Unit {0}
NoReset (append_here s ∷ os) = NoReset os
NoReset (reset_here ∷ os) = ⊥
NoReset (flush_here ∷ os) = NoReset os

-- b has what a has, then more, and no less of it is durable
pub record Extends (a b : ZoneView) : Type 0 where
  pub pre : Prefix a.sectors b.sectors
  pub keeps : a.durable ≤ b.durable
  pub wf : b.durable ≤ length b.sectors

pub extends_here : (os : List LocalStore) (a : ZoneView) → NoReset os → a.durable ≤ length a.sectors → Extends a (apply_all_here os a)
extends_here [] a n w = record { pre = prefix_refl a.sectors; keeps = le_refl a.durable; wf = w }
extends_here (append_here s ∷ os) a n w =
    let e = extends_here os (appended s a) n (simp length-append (omega arith)) in
    record { pre = prefix_trans (prefix_append a.sectors (s ∷ [])) e.pre; keeps = e.keeps; wf = e.wf }
extends_here (reset_here ∷ os) a n w = absurd n
extends_here (flush_here ∷ os) a n w =
    let e = extends_here os (flushed a) n (le_refl (length a.sectors)) in
    record { pre = e.pre; keeps = le_trans w e.keeps; wf = e.wf }

pub no_reset_front : (xs ys : List LocalStore) → NoReset (xs ++ ys) → NoReset xs
no_reset_front [] ys n = tt
no_reset_front (append_here s ∷ xs) ys n = no_reset_front xs ys n
no_reset_front (reset_here ∷ xs) ys n = n
no_reset_front (flush_here ∷ xs) ys n = no_reset_front xs ys n

pub no_reset_back : (xs ys : List LocalStore) → NoReset (xs ++ ys) → NoReset ys
no_reset_back [] ys n = n
no_reset_back (append_here s ∷ xs) ys n = no_reset_back xs ys n
no_reset_back (reset_here ∷ xs) ys n = absurd n
no_reset_back (flush_here ∷ xs) ys n = no_reset_back xs ys n

pub no_reset_appends : (ss : List (List ℕ)) (os : List LocalStore) → NoReset os → NoReset (map append_here ss ++ os)
no_reset_appends [] os n = n
no_reset_appends (s ∷ ss) os n = no_reset_appends ss os n

pub appends_here : (ss : List (List ℕ)) (os : List LocalStore) (a : ZoneView) → apply_all_here (map append_here ss ++ os) a ≡ apply_all_here os (record { sectors = a.sectors ++ ss; durable = a.durable })
appends_here [] os a = rw (append-nil a.sectors) refl
appends_here (s ∷ ss) os a = appends_here ss os (appended s a) ∙ rw append_assoc refl

-- ---- a place holds a front of what it should hold, and at least so many sectors of it are durable
pub record FrontOf (column : List (List ℕ)) (least : ℕ) (a : ZoneView) : Type 0 where
  pub pre : Prefix a.sectors column
  pub wf : a.durable ≤ length a.sectors
  pub dur : least ≤ a.durable

-- so after any prefix of stores that reset nothing, if all of them lead to a front of it
pub front_part : (column : List (List ℕ)) (least : ℕ) (a : ZoneView) (os all : List LocalStore) → a.durable ≤ length a.sectors → least ≤ a.durable → NoReset all → Prefix os all
    → Prefix (apply_all_here all a).sectors column → FrontOf column least (apply_all_here os a)
front_part column least a os all w m n p q =
    let n' : NoReset (os ++ p.rest) = rw p.is n in
    let e = extends_here os a (no_reset_front os p.rest n') w in
    let f : Extends (apply_all_here os a) (apply_all_here all a) = rw (← p.is, apply_here_append os p.rest a) (extends_here p.rest (apply_all_here os a) (no_reset_back os p.rest n') e.wf) in
    record { pre = prefix_trans f.pre q; wf = e.wf; dur = le_trans m e.keeps }

-- and after a cut
pub front_cut : (column : List (List ℕ)) (least : ℕ) (a b : ZoneView) → FrontOf column least a → ZoneCut a b → FrontOf column least b
front_cut column least a b g c = rw c.is (record {
  pre = prefix_trans (prefix_take c.kept a.sectors) g.pre;
  wf = simp length-take (omega (arith, c.most));
  dur = omega (arith, c.least, g.dur);
})
