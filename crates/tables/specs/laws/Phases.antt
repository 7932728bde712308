-- Where a stop of a call made of phases can fall, what each place sees of it, and what is durable after a flush of all drives.
use Rattle.std.specs.Prelude.{◌≡◌, refl, ◌≢◌, Bool, true, false, ℕ, zero, suc, ◌+◌, ◌-◌, ◌≤◌, ◌<◌, List, [], ◌∷◌, ◌++◌, length, get_or, take}
use Rattle.std.proofs.Common.{sym, ap, ◌∙◌, true≢false, not-suc-le-zero, arith, append_assoc, append-nil, eq-eqb, ne_eqb}
use Rattle.std.proofs.Math.Decide.{ℕ_discrete, dec_lt}
use Rattle.std.proofs.Math.Seq.{take-nil, take-append-add}
use Rattle.std.proofs.lemmas.List.{take-append-le}
use Rattle.tables.specs.meaning.Basics.{pick}
use Rattle.tables.specs.meaning.Below.{each_below}
use Rattle.tables.specs.laws.Lists.{Prefix, prefix_trans, prefix_append}
use Rattle.tables.specs.meaning.Lists.{concat}
use Rattle.tables.specs.meaning.Device.{Device, Store, append, reset, flush, store_drive, apply_all, apply, flushed}
use Rattle.tables.specs.laws.Device.{apply_frame}
use Rattle.tables.specs.laws.Local.{LocalStore, flush_here, local_store, local_stores, local_append, local_is, local_take}
use Rattle.tables.specs.meaning.Phases.{on_present, each_on_present, flush_all}

-- ---- laws
pub on_present_append : (a : ℕ → Bool) (xs ys : List Store) → on_present a (xs ++ ys) ≡ on_present a xs ++ on_present a ys
on_present_append a [] ys = refl
on_present_append a (x ∷ xs) ys = go (a (store_drive x)) (on_present_append a xs ys)
  where
    go : (b : Bool) → on_present a (xs ++ ys) ≡ on_present a xs ++ on_present a ys → pick b (x ∷ on_present a (xs ++ ys)) (on_present a (xs ++ ys)) ≡ pick b (x ∷ on_present a xs) (on_present a xs) ++ on_present a ys
    go true ih = ap (λ (r : List Store). x ∷ r) ih
    go false ih = ih

seen_other : (d z : ℕ) (x : Store) → d ≢ store_drive x → local_store d z x ≡ []
seen_other d z (append e y s) n = rw (ne_eqb d e n) refl
seen_other d z (reset e y) n = rw (ne_eqb d e n) refl
seen_other d z (flush e) n = rw (ne_eqb d e n) refl

-- a present drive sees all of them
pub on_present_local : (a : ℕ → Bool) (d z : ℕ) (xs : List Store) → a d ≡ true → local_stores d z (on_present a xs) ≡ local_stores d z xs
on_present_local a d z [] h = refl
on_present_local a d z (x ∷ xs) h = go (a (store_drive x)) refl (on_present_local a d z xs h)
  where
    go : (b : Bool) → a (store_drive x) ≡ b → local_stores d z (on_present a xs) ≡ local_stores d z xs → local_stores d z (pick b (x ∷ on_present a xs) (on_present a xs)) ≡ local_store d z x ++ local_stores d z xs
    go true e ih = rw ih refl
    go false e ih =
        let n : d ≢ store_drive x = λ q. true≢false (sym h ∙ rw q e) in
        rw (seen_other d z x n) ih

-- an absent drive is left alone
pub absent_frame : (a : ℕ → Bool) (xs : List Store) (v : Device) (e y : ℕ) → a e ≡ false → apply_all (on_present a xs) v e y ≡ v e y
absent_frame a [] v e y h = refl
absent_frame a (x ∷ xs) v e y h = go (a (store_drive x)) refl (λ u. absent_frame a xs u e y h)
  where
    go : (b : Bool) → a (store_drive x) ≡ b → ((u : Device) → apply_all (on_present a xs) u e y ≡ u e y) → apply_all (pick b (x ∷ on_present a xs) (on_present a xs)) v e y ≡ v e y
    go true q ih = ih (apply x v) ∙ apply_frame x v e y (λ r. true≢false (sym q ∙ rw (← r) h))
    go false q ih = ih v

-- ---- stops
-- a stop falls inside one phase, all earlier ones being whole
pub record Stop (ps : List (List Store)) (xs : List Store) : Type 0 where
  pub phase : ℕ
  pub into : ℕ
  pub is : xs ≡ concat (take phase ps) ++ take into (get_or ps phase [])

pub stop_at : (ps : List (List Store)) (n : ℕ) → Stop ps (take n (concat ps))
stop_at [] n = record { phase = zero; into = zero; is = take-nil n }
stop_at (p ∷ ps) n = go (dec_lt n (length p)) (stop_at ps (n - length p))
  where
    go : Dec (n < length p) → Stop ps (take (n - length p) (concat ps)) → Stop (p ∷ ps) (take n (p ++ concat ps))
    go (yes h) s = record { phase = zero; into = n; is = take-append-le n p (concat ps) (omega arith) }
    go (no h) s =
        let e : n ≡ length p + (n - length p) = omega arith in
        record {
          phase = suc s.phase;
          into = s.into;
          is = ap (λ (k : ℕ). take k (p ++ concat ps)) e ∙ take-append-add p (concat ps) (n - length p) ∙ ap (λ (r : List Store). p ++ r) s.is ∙ sym (append_assoc p (concat (take s.phase ps)) (take s.into (get_or ps s.phase [])));
        }

flush_all_none : (d z n : ℕ) → n ≤ d → local_stores d z (flush_all n) ≡ []
flush_all_none d z zero h = refl
flush_all_none d z (suc n) h = local_append d z (flush_all n) (flush n ∷ []) ∙ rw (flush_all_none d z n (omega arith), ne_eqb d n (omega arith)) refl

pub flush_all_local : (d z n : ℕ) → d < n → local_stores d z (flush_all n) ≡ flush_here ∷ []
flush_all_local d z zero h = absurd (not-suc-le-zero h)
flush_all_local d z (suc n) h = local_append d z (flush_all n) (flush n ∷ []) ∙ go (ℕ_discrete d n) (λ k. flush_all_local d z n k)
  where
    go : Dec (d ≡ n) → (d < n → local_stores d z (flush_all n) ≡ flush_here ∷ []) → local_stores d z (flush_all n) ++ local_stores d z (flush n ∷ []) ≡ flush_here ∷ []
    go (yes e) ih = rw (flush_all_none d z n (omega arith), eq-eqb d n e) refl
    go (no e) ih = rw (ih (omega arith), ne_eqb d n e) refl

-- after a flush of all present drives everything on a present drive is durable
pub flush_all_flushes : (D : ℕ) (al : ℕ → Bool) (v : Device) (d z : ℕ) → d < D → al d ≡ true → apply_all (on_present al (flush_all D)) v d z ≡ flushed (v d z)
flush_all_flushes D al v d z h a = local_is d z (on_present al (flush_all D)) v ∙ rw (on_present_local al d z (flush_all D) a, flush_all_local d z D h) refl

pub each_on_present_lem : (al : ℕ → Bool) (ps : List (List Store)) → concat (each_on_present al ps) ≡ on_present al (concat ps)
each_on_present_lem al [] = refl
each_on_present_lem al (p ∷ ps) = rw (each_on_present_lem al ps) (sym (on_present_append al p (concat ps)))

-- ---- what a place sees of a stop: whole phases, then a part of one. The phase is the same for all places.
abbrev pub local_phases : ℕ → ℕ → List (List Store) → List (List LocalStore)
local_phases d y [] = []
local_phases d y (p ∷ ps) = local_stores d y p ∷ local_phases d y ps

pub record SeenPart (ls : List (List LocalStore)) (i : ℕ) (os : List LocalStore) : Type 0 where
  pub part : List LocalStore
  pub is : os ≡ concat (take i ls) ++ part
  pub pre : Prefix part (get_or ls i [])

local_concat : (d y i : ℕ) (ps : List (List Store)) → local_stores d y (concat (take i ps)) ≡ concat (take i (local_phases d y ps))
local_concat d y zero ps = refl
local_concat d y (suc i) [] = refl
local_concat d y (suc i) (p ∷ ps) = local_append d y p (concat (take i ps)) ∙ ap (λ (r : List LocalStore). local_stores d y p ++ r) (local_concat d y i ps)

local_get_d : (d y i : ℕ) (ps : List (List Store)) → local_stores d y (get_or ps i []) ≡ get_or (local_phases d y ps) i []
local_get_d d y i [] = refl
local_get_d d y zero (p ∷ ps) = refl
local_get_d d y (suc i) (p ∷ ps) = local_get_d d y i ps

pub stop_seen : (d y : ℕ) (ps : List (List Store)) (xs : List Store) (s : Stop ps xs) → SeenPart (local_phases d y ps) s.phase (local_stores d y xs)
stop_seen d y ps xs s = record {
  part = local_stores d y (take s.into (get_or ps s.phase []));
  is = ap (local_stores d y) s.is ∙ local_append d y (concat (take s.phase ps)) (take s.into (get_or ps s.phase [])) ∙ rw (local_concat d y s.phase ps) refl;
  pre = rw (← local_get_d d y s.phase ps) (local_take d y s.into (get_or ps s.phase []));
}

pub seen_prefix : (ls : List (List LocalStore)) (i : ℕ) (os : List LocalStore) → SeenPart ls i os → Prefix os (concat ls)
seen_prefix [] i os s = rw (s.is, take-nil i) s.pre
seen_prefix (l ∷ ls) zero os s = rw s.is (prefix_trans s.pre (prefix_append l (concat ls)))
seen_prefix (l ∷ ls) (suc i) os s =
    let p = seen_prefix ls i (concat (take i ls) ++ s.part) (record { part = s.part; is = refl; pre = s.pre }) in
    record { rest = p.rest; is = rw s.is (ap (λ (x : List LocalStore). x ++ p.rest) (append_assoc l (concat (take i ls)) s.part) ∙ append_assoc l (concat (take i ls) ++ s.part) p.rest ∙ ap (λ (x : List LocalStore). l ++ x) p.is) }

-- all phases, as a place sees them
pub local_whole : (d y : ℕ) (ps : List (List Store)) → local_stores d y (concat ps) ≡ concat (local_phases d y ps)
local_whole d y [] = refl
local_whole d y (p ∷ ps) = local_append d y p (concat ps) ∙ ap (λ (r : List LocalStore). local_stores d y p ++ r) (local_whole d y ps)

-- ---- stores for each k below n, of which a place sees only those of i
module _ (f : ℕ → List Store) (d y i : ℕ) (others : (k : ℕ) → i ≢ k → local_stores d y (f k) ≡ []) where
  each_below_none : (n : ℕ) → n ≤ i → local_stores d y (each_below f n) ≡ []
  each_below_none zero h = refl
  each_below_none (suc n) h = local_append d y (each_below f n) (f n) ∙ rw (each_below_none n (omega arith), others n (omega arith)) refl

  pub each_below_at : (n : ℕ) → i < n → local_stores d y (each_below f n) ≡ local_stores d y (f i)
  each_below_at zero h = absurd (not-suc-le-zero h)
  each_below_at (suc n) h = local_append d y (each_below f n) (f n) ∙ go (ℕ_discrete i n) (λ k. each_below_at n k)
    where
      go : Dec (i ≡ n) → (i < n → local_stores d y (each_below f n) ≡ local_stores d y (f i)) → local_stores d y (each_below f n) ++ local_stores d y (f n) ≡ local_stores d y (f i)
      go (yes e) ih = rw (each_below_none n (omega arith), ← e) refl
      go (no e) ih = rw (ih (omega arith), others n e) (append-nil (local_stores d y (f i)))

-- of each drive, a place sees only its own
pub each_below_own : (f : ℕ → List Store) (d y : ℕ) → ((k : ℕ) → d ≢ k → local_stores d y (f k) ≡ []) → (n : ℕ) → d < n → local_stores d y (each_below f n) ≡ local_stores d y (f d)
each_below_own f d y others n h = each_below_at f d y d others n h

pub each_below_unseen : (f : ℕ → List Store) (d y : ℕ) → ((k : ℕ) → local_stores d y (f k) ≡ []) → (n : ℕ) → local_stores d y (each_below f n) ≡ []
each_below_unseen f d y h zero = refl
each_below_unseen f d y h (suc n) = local_append d y (each_below f n) (f n) ∙ rw (each_below_unseen f d y h n, h n) refl

-- a stop past the first phase
pub seen_next : (l : List LocalStore) (ls : List (List LocalStore)) (i : ℕ) (os : List LocalStore) → SeenPart (l ∷ ls) (suc i) os → (rest : List LocalStore) × (os ≡ l ++ rest) × SeenPart ls i rest
seen_next l ls i os s = (concat (take i ls) ++ s.part, s.is ∙ append_assoc l (concat (take i ls)) s.part, record { part = s.part; is = refl; pre = s.pre })
