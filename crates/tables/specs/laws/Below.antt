-- Laws of the folds over the numbers below n.
use Rattle.std.specs.Prelude.{◌≡◌, refl, ◌≢◌, ◌⊎◌, Bool, true, false, ◌||◌, ℕ, zero, suc, ◌+◌, ◌≤◌, ◌<◌, List, [], ◌∷◌, ◌++◌, length, get_or, take, leb}
use Rattle.std.proofs.Common.{sym, ap, ap₂, ◌∙◌, inl, inr, true≢false, zero-le, le_refl, le_trans, not-suc-le-zero, arith, length-append, take_all, leb-true, leb-false}
use Rattle.std.proofs.Math.Decide.{ℕ_discrete, dec_lt}
use Rattle.std.proofs.Math.ListN.{get_or-append}
use Rattle.std.proofs.lemmas.List.{get_or_at, take-append-le}
use Rattle.tables.specs.meaning.Basics.{pick}
use Rattle.tables.specs.laws.Basics.{and_split, or_cases, or_left, or_right}
use Rattle.tables.specs.meaning.Below.{any_below, count_below, larger, max_below, all_below, tabulate, tabulate_from}

pub any_below_some : (p : ℕ → Bool) (n : ℕ) → any_below p n ≡ true → (k : ℕ) × (k < n) × (p k ≡ true)
any_below_some p zero h = absurd (true≢false (sym h))
any_below_some p (suc n) h = go (or_cases (any_below p n) (p n) h) (λ q. any_below_some p n q)
  where
    go : (any_below p n ≡ true) ⊎ ((any_below p n ≡ false) × (p n ≡ true)) → (any_below p n ≡ true → (k : ℕ) × (k < n) × (p k ≡ true)) → (k : ℕ) × (k < suc n) × (p k ≡ true)
    go (inl q) ih = let (k, l, e) = ih q in (k, omega arith, e)
    go (inr q) ih = (n, omega arith, q.1)

pub some_any_below : (p : ℕ → Bool) (n k : ℕ) → k < n → p k ≡ true → any_below p n ≡ true
some_any_below p zero k l h = absurd (not-suc-le-zero l)
some_any_below p (suc n) k l h = go (ℕ_discrete k n) (λ m. some_any_below p n k m h)
  where
    go : Dec (k ≡ n) → (k < n → any_below p n ≡ true) → any_below p n || p n ≡ true
    go (yes e) ih = or_right (any_below p n) (p n) (rw (← e) h)
    go (no e) ih = or_left (any_below p n) (p n) (ih (omega arith))

pub none_any_below : (p : ℕ → Bool) (n : ℕ) → ((k : ℕ) → k < n → p k ≡ false) → any_below p n ≡ false
none_any_below p zero h = refl
none_any_below p (suc n) h = rw (none_any_below p n (λ k l. h k (omega arith)), h n (omega arith)) refl

pub any_below_cong : (p q : ℕ → Bool) (n : ℕ) → ((k : ℕ) → k < n → p k ≡ q k) → any_below p n ≡ any_below q n
any_below_cong p q zero h = refl
any_below_cong p q (suc n) h = rw (any_below_cong p q n (λ k l. h k (omega arith)), h n (omega arith)) refl

pub any_below_false : (p : ℕ → Bool) (n z : ℕ) → any_below p n ≡ false → z < n → p z ≡ false
any_below_false p n z e h = go (p z) refl
  where
    go : (b : Bool) → p z ≡ b → b ≡ false
    go true q = absurd (true≢false (sym (some_any_below p n z h q) ∙ e))
    go false q = refl

pub count_below_none : (p : ℕ → Bool) (n : ℕ) → ((k : ℕ) → k < n → p k ≡ false) → count_below p n ≡ zero
count_below_none p zero h = refl
count_below_none p (suc n) h = rw (count_below_none p n (λ k l. h k (omega arith)), h n (omega arith)) refl

-- at most one: every hit is x
pub count_below_one : (p : ℕ → Bool) (n x : ℕ) → ((k : ℕ) → k < n → k ≢ x → p k ≡ false) → count_below p n ≤ 1
count_below_one p zero x h = zero-le
count_below_one p (suc n) x h = go (ℕ_discrete n x) (count_below_one p n x (λ k l. h k (omega arith)))
  where
    one : (b : Bool) → pick b 1 0 ≤ 1
    one true = le_refl 1
    one false = zero-le

    go : Dec (n ≡ x) → count_below p n ≤ 1 → count_below p n + pick (p n) 1 0 ≤ 1
    go (yes e) ih = rw (count_below_none p n (λ k l. h k (omega arith) (omega arith))) (omega (arith, one (p n)))
    go (no e) ih = rw (h n (omega arith) e) (omega arith)

pub count_below_cong : (p q : ℕ → Bool) (n : ℕ) → ((k : ℕ) → k < n → p k ≡ q k) → count_below p n ≡ count_below q n
count_below_cong p q zero h = refl
count_below_cong p q (suc n) h = rw (count_below_cong p q n (λ k l. h k (omega arith)), h n (omega arith)) refl

pub count_below_most : (p : ℕ → Bool) (n : ℕ) → count_below p n ≤ n
count_below_most p zero = zero-le
count_below_most p (suc n) = go (p n) (count_below_most p n)
  where
    go : (b : Bool) → count_below p n ≤ n → count_below p n + pick b 1 0 ≤ suc n
    go true h = omega arith
    go false h = omega arith

pub some_count_below : (p : ℕ → Bool) (n i : ℕ) → i < n → p i ≡ true → 1 ≤ count_below p n
some_count_below p zero i h a = absurd (not-suc-le-zero h)
some_count_below p (suc n) i h a = go (ℕ_discrete i n) (λ l. some_count_below p n i l a)
  where
    go : Dec (i ≡ n) → (i < n → 1 ≤ count_below p n) → 1 ≤ count_below p n + pick (p n) 1 0
    go (yes e) ih = let q : p n ≡ true = rw (← e) a in rw q (omega arith)
    go (no e) ih = omega (arith, ih (omega arith))

pub two_count_below : (p : ℕ → Bool) (n i j : ℕ) → i < n → j < n → i ≢ j → p i ≡ true → p j ≡ true → 2 ≤ count_below p n
two_count_below p zero i j hi hj ne a b = absurd (not-suc-le-zero hi)
two_count_below p (suc n) i j hi hj ne a b = go (ℕ_discrete i n) (ℕ_discrete j n) (λ l m. two_count_below p n i j l m ne a b)
  where
    go : Dec (i ≡ n) → Dec (j ≡ n) → (i < n → j < n → 2 ≤ count_below p n) → 2 ≤ count_below p n + pick (p n) 1 0
    go (yes e) f ih = let q : p n ≡ true = rw (← e) a in rw q (omega (arith, some_count_below p n j (omega (arith, ne' e)) b))
      where
        ne' : i ≡ n → j ≢ n
        ne' e f = ne (e ∙ sym f)
    go (no e) (yes f) ih = let q : p n ≡ true = rw (← f) b in rw q (omega (arith, some_count_below p n i (omega arith) a))
    go (no e) (no f) ih = omega (arith, ih (omega arith) (omega arith))

pub count_below_apart : (b c : ℕ → Bool) (n : ℕ) → ((z : ℕ) → z < n → b z ≡ true → c z ≡ false) → count_below b n + count_below c n ≤ n
count_below_apart b c zero q = zero-le
count_below_apart b c (suc n) q = go (b n) refl (c n) refl (count_below_apart b c n (λ z l. q z (omega arith)))
  where
    go : (p : Bool) → b n ≡ p → (r : Bool) → c n ≡ r → count_below b n + count_below c n ≤ n → count_below b n + pick p 1 0 + (count_below c n + pick r 1 0) ≤ suc n
    go true e true f ih = absurd (true≢false (sym f ∙ q n (omega arith) e))
    go true e false f ih = omega (arith, ih)
    go false e true f ih = omega (arith, ih)
    go false e false f ih = omega (arith, ih)

pub larger_left : (a b : ℕ) → a ≤ larger a b
larger_left a b = go (leb a b) refl
  where
    go : (t : Bool) → leb a b ≡ t → a ≤ pick t b a
    go true e = leb-true a b e
    go false e = le_refl a

pub larger_right : (a b : ℕ) → b ≤ larger a b
larger_right a b = go (leb a b) refl
  where
    go : (t : Bool) → leb a b ≡ t → b ≤ pick t b a
    go true e = le_refl b
    go false e = omega (arith, leb-false a b e)

pub larger_one : (a b : ℕ) → (larger a b ≡ a) ⊎ (larger a b ≡ b)
larger_one a b = go (leb a b)
  where
    go : (t : Bool) → (pick t b a ≡ a) ⊎ (pick t b a ≡ b)
    go true = inr refl
    go false = inl refl

pub max_below_least : (f : ℕ → ℕ) (n k : ℕ) → k < n → f k ≤ max_below f n
max_below_least f zero k h = absurd (not-suc-le-zero h)
max_below_least f (suc n) k h = go (ℕ_discrete k n) (λ l. max_below_least f n k l)
  where
    go : Dec (k ≡ n) → (k < n → f k ≤ max_below f n) → f k ≤ larger (max_below f n) (f n)
    go (yes e) ih = rw e (larger_right (max_below f n) (f n))
    go (no e) ih = le_trans (ih (omega arith)) (larger_left (max_below f n) (f n))

-- it is 0, or some f k
pub max_below_is : (f : ℕ → ℕ) (n : ℕ) → (max_below f n ≡ zero) ⊎ ((k : ℕ) × (k < n) × (max_below f n ≡ f k))
max_below_is f zero = inl refl
max_below_is f (suc n) = go (larger_one (max_below f n) (f n)) (max_below_is f n)
  where
    go : (larger (max_below f n) (f n) ≡ max_below f n) ⊎ (larger (max_below f n) (f n) ≡ f n) → (max_below f n ≡ zero) ⊎ ((k : ℕ) × (k < n) × (max_below f n ≡ f k))
        → (larger (max_below f n) (f n) ≡ zero) ⊎ ((k : ℕ) × (k < suc n) × (larger (max_below f n) (f n) ≡ f k))
    go (inl e) (inl q) = inl (e ∙ q)
    go (inl e) (inr q) = let (k, l, p) = q in inr (k, omega arith, e ∙ p)
    go (inr e) q = inr (n, omega arith, e)

pub max_below_most : (f : ℕ → ℕ) (n m : ℕ) → ((k : ℕ) → k < n → f k ≤ m) → max_below f n ≤ m
max_below_most f zero m h = zero-le
max_below_most f (suc n) m h = go (larger_one (max_below f n) (f n)) (max_below_most f n m (λ k l. h k (omega arith)))
  where
    go : (larger (max_below f n) (f n) ≡ max_below f n) ⊎ (larger (max_below f n) (f n) ≡ f n) → max_below f n ≤ m → larger (max_below f n) (f n) ≤ m
    go (inl e) ih = rw e ih
    go (inr e) ih = rw e (h n (omega arith))

pub all_below_all : (p : ℕ → Bool) (n k : ℕ) → all_below p n ≡ true → k < n → p k ≡ true
all_below_all p zero k h l = absurd (not-suc-le-zero l)
all_below_all p (suc n) k h l = go (ℕ_discrete k n) (and_split (all_below p n) (p n) h) (λ g m. all_below_all p n k g m)
  where
    go : Dec (k ≡ n) → (all_below p n ≡ true) × (p n ≡ true) → (all_below p n ≡ true → k < n → p k ≡ true) → p k ≡ true
    go (yes e) g ih = rw e g.1
    go (no e) g ih = ih g.0 (omega arith)

pub all_all_below : (p : ℕ → Bool) (n : ℕ) → ((k : ℕ) → k < n → p k ≡ true) → all_below p n ≡ true
all_all_below p zero f = refl
all_all_below p (suc n) f = rw (all_all_below p n (λ k l. f k (omega arith)), f n (omega arith)) refl

pub tabulate_cong {ℓ} : {A : Type ℓ} (f g : ℕ → A) (n : ℕ) → ((k : ℕ) → k < n → f k ≡ g k) → tabulate f n ≡ tabulate g n
tabulate_cong f g zero h = refl
tabulate_cong f g (suc n) h = ap₂ (λ x y. x ++ (y ∷ [])) (tabulate_cong f g n (λ k l. h k (omega arith))) (h n (omega arith))

pub length_tabulate : {A : Type 0} (f : ℕ → A) (n : ℕ) → length (tabulate f n) ≡ n
length_tabulate f zero = refl
length_tabulate f (suc n) = length-append (tabulate f n) (f n ∷ []) ∙ omega (arith, length_tabulate f n)

pub take_tabulate : {A : Type 0} (f : ℕ → A) (n k : ℕ) → k ≤ n → take k (tabulate f n) ≡ tabulate f k
take_tabulate f zero k h = let e : k ≡ zero = omega arith in rw e refl
take_tabulate f (suc n) k h = go (ℕ_discrete k (suc n)) (λ l. take_tabulate f n k l)
  where
    go : Dec (k ≡ suc n) → (k ≤ n → take k (tabulate f n) ≡ tabulate f k) → take k (tabulate f n ++ (f n ∷ [])) ≡ tabulate f k
    go (yes e) ih = rw e (take_all (suc n) (tabulate f n ++ (f n ∷ [])) (rw (length_tabulate f (suc n)) (le_refl (suc n))))
    go (no e) ih = take-append-le k (tabulate f n) (f n ∷ []) (rw (length_tabulate f n) (omega arith)) ∙ ih (omega arith)

pub get_d_tabulate : {A : Type 0} (f : ℕ → A) (n i : ℕ) (x : A) → i < n → get_or (tabulate f n) i x ≡ f i
get_d_tabulate f zero i x h = absurd (omega arith)
get_d_tabulate f (suc n) i x h = go (dec_lt i n) (λ k. get_d_tabulate f n i x k)
  where
    go : Dec (i < n) → (i < n → get_or (tabulate f n) i x ≡ f i) → get_or (tabulate f n ++ (f n ∷ [])) i x ≡ f i
    go (yes k) ih = get_or-append (tabulate f n) (f n ∷ []) x i (rw (length_tabulate f n) k) ∙ ih k
    go (no k) ih = let e : i ≡ n = omega arith in rw e (get_or_at (tabulate f n) (f n) [] x n (length_tabulate f n))

pub tabulate_from_add : (f : ℕ → List ℕ) (i m n : ℕ) → tabulate_from f i (m + n) ≡ tabulate_from f i m ++ tabulate_from f (i + m) n
tabulate_from_add f i zero n = let p : zero + n ≡ n = omega arith in let q : i + zero ≡ i = omega arith in rw (p, q) refl
tabulate_from_add f i (suc m) n =
    let p : suc m + n ≡ suc (m + n) = omega arith in
    let q : i + suc m ≡ suc i + m = omega arith in
    rw (p, q) (ap (λ (r : List (List ℕ)). f i ∷ r) (tabulate_from_add f (suc i) m n))

pub tabulate_from_cong : (f g : ℕ → List ℕ) (i j n : ℕ) → ((k : ℕ) → k < n → f (i + k) ≡ g (j + k)) → tabulate_from f i n ≡ tabulate_from g j n
tabulate_from_cong f g i j zero h = refl
tabulate_from_cong f g i j (suc n) h =
    let p : i + zero ≡ i = omega arith in
    let q : j + zero ≡ j = omega arith in
    ap₂ (λ (x : List ℕ) (r : List (List ℕ)). x ∷ r) (rw (p, q) at (h zero (omega arith)))
    (tabulate_from_cong f g (suc i) (suc j) n (λ k l. let a : suc i + k ≡ i + suc k = omega arith in let b : suc j + k ≡ j + suc k = omega arith in rw (a, b) (h (suc k) (omega arith))))

pub length_tabulate_from : (f : ℕ → List ℕ) (i n : ℕ) → length (tabulate_from f i n) ≡ n
length_tabulate_from f i zero = refl
length_tabulate_from f i (suc n) = ap suc (length_tabulate_from f (suc i) n)

pub get_d_tabulate_from : (f : ℕ → List ℕ) (i n k : ℕ) → k < n → get_or (tabulate_from f i n) k [] ≡ f (i + k)
get_d_tabulate_from f i zero k h = absurd (not-suc-le-zero h)
get_d_tabulate_from f i (suc n) zero h = let p : i + zero ≡ i = omega arith in rw p refl
get_d_tabulate_from f i (suc n) (suc k) h = let p : i + suc k ≡ suc i + k = omega arith in rw p (get_d_tabulate_from f (suc i) n k (omega arith))
