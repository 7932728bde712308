-- What a copied general log says, with its closing entry: to every question that a look asks, what the log said, whatever the log. Its counters give the
-- generations in force.
use Rattle.std.specs.Prelude.{◌≡◌, ◌≢◌, ◌⊎◌, Bool, true, false, ◌&&◌, ◌||◌}
use Rattle.std.proofs.Math.Path.{refl, ap, ap₂}
use Rattle.std.proofs.Common.{sym, ◌∙◌, inl, inr, true≢false, le_refl, not-suc-le-zero, arith, eq-eqb, ne_eqb}
use Prim.Native.Nat.{ℕ, zero, suc, ◌≤◌, ◌<◌, min}
use Rattle.std.proofs.Math.Decide.{ℕ_discrete}
use mathlib.Core.List.{List, [], ◌∷◌, ◌++◌, Memᴰ}
use Rattle.tables.specs.meaning.Basics.{pick}
use Rattle.tables.specs.laws.Basics.{and_split, eqb_same}
use Rattle.tables.specs.meaning.Lists.{any_of}
use Rattle.tables.specs.laws.Lists.{any_of_some, some_any_of, mem_append, mem_nil}
use Rattle.tables.specs.declared.Geometry.{Geometry}
use Rattle.tables.specs.meaning.Geometry.{zone_sectors}
use Rattle.logs.specs.meaning.Entry.{Header, label, counters, zone_reset, partial_parity, seal, closing}
use Rattle.logs.specs.meaning.Heads.{labelled, array_in, last_lost, last_counters, is_reset, is_seal, is_seal_at, least_seal}
use Rattle.logs.specs.meaning.Copies.{last_label, array_for, kept_label, zonewise, kept_seals, kept_resets, copied_general}
use Rattle.logs.specs.laws.HeadLaws.{reset_is, seal_is, least_seal_most, least_seal_below, least_seal_least, last_counters_append, lost_of_append, least_of_append, any_of_append}
use Rattle.logs.specs.laws.Copies.{LastLabel, no_label, a_label, last_label_lem, zonewise_mem, least_seal_mem, copied_counters}

-- ---- tests
both_ways : (a b : Bool) → (a ≡ true → b ≡ true) → (b ≡ true → a ≡ true) → a ≡ b
both_ways true b f h = sym (f refl)
both_ways false true f h = h refl
both_ways false false f h = refl

or_false : (a : Bool) → a || false ≡ a
or_false true = refl
or_false false = refl

and_true : (a : Bool) → a && true ≡ a
and_true true = refl
and_true false = refl

-- ---- what lists for the zones ascending say: of a question that only zone z's header can answer, what that one says
module _ (t : Header → Bool) (b : ℕ → Bool) (h : ℕ → Header) where
  one_none : (y : ℕ) (c : Bool) → t (h y) ≡ false → any_of t (pick c (h y ∷ []) []) ≡ false
  one_none y true e = rw e refl
  one_none y false e = refl

  one_is : (y : ℕ) (c : Bool) → any_of t (pick c (h y ∷ []) []) ≡ c && t (h y)
  one_is y true = or_false (t (h y))
  one_is y false = refl

  pub any_zonewise_none : (n : ℕ) → ((y : ℕ) → y < n → t (h y) ≡ false) → any_of t (zonewise b h n) ≡ false
  any_zonewise_none zero f = refl
  any_zonewise_none (suc n) f =
      any_of_append t (zonewise b h n) (pick (b n) (h n ∷ []) [])
      ∙ ap₂ (λ (u v : Bool). u || v) (any_zonewise_none n (λ y l. f y (omega (arith, l)))) (one_none n (b n) (f n (omega arith)))

  pub any_zonewise : (n z : ℕ) → z < n → ((y : ℕ) → y ≢ z → t (h y) ≡ false) → any_of t (zonewise b h n) ≡ b z && t (h z)
  any_zonewise zero z l f = absurd (not-suc-le-zero l)
  any_zonewise (suc n) z l f = any_of_append t (zonewise b h n) (pick (b n) (h n ∷ []) []) ∙ go (ℕ_discrete z n) (λ k. any_zonewise n z k f)
    where
      go : Dec (z ≡ n) → (z < n → any_of t (zonewise b h n) ≡ b z && t (h z)) → any_of t (zonewise b h n) || any_of t (pick (b n) (h n ∷ []) []) ≡ b z && t (h z)
      go (yes e) ih =
          let p : any_of t (zonewise b h n) ≡ false = any_zonewise_none n (λ y k. f y (λ q. omega (arith, q, e, k))) in
          ap₂ (λ (u v : Bool). u || v) p (one_is n (b n)) ∙ ap (λ (y : ℕ). b y && t (h y)) (sym e)
      go (no e) ih = ap₂ (λ (u v : Bool). u || v) (ih (omega arith)) (one_none n (b n) (f n (λ q. e (sym q)))) ∙ or_false (b z && t (h z))

-- the least seal of zone z and generation n
module _ (z n : ℕ) (b : ℕ → Bool) (h : ℕ → Header) where
  least_one_none : (y q : ℕ) (c : Bool) → least_seal z n q (h y ∷ []) ≡ q → least_seal z n q (pick c (h y ∷ []) []) ≡ q
  least_one_none y q true e = e
  least_one_none y q false e = refl

  pub least_zonewise_none : (m q : ℕ) → ((y : ℕ) → y < m → least_seal z n q (h y ∷ []) ≡ q) → least_seal z n q (zonewise b h m) ≡ q
  least_zonewise_none zero q f = refl
  least_zonewise_none (suc m) q f =
      least_of_append z n q (zonewise b h m) (pick (b m) (h m ∷ []) [])
      ∙ ap (λ (p : ℕ). least_seal z n p (pick (b m) (h m ∷ []) [])) (least_zonewise_none m q (λ y l. f y (omega (arith, l)))) ∙ least_one_none m q (b m) (f m (omega arith))

  pub least_zonewise : (m q c : ℕ) → z < m → h z ≡ seal z c n → ((y p : ℕ) → y ≢ z → least_seal z n p (h y ∷ []) ≡ p) → least_seal z n q (zonewise b h m) ≡ pick (b z) (min q c) q
  least_zonewise zero q c l e f = absurd (not-suc-le-zero l)
  least_zonewise (suc m) q c l e f = least_of_append z n q (zonewise b h m) (pick (b m) (h m ∷ []) []) ∙ go (ℕ_discrete z m) (λ k. least_zonewise m q c k e f)
    where
      here : (t : Bool) → least_seal z n q (pick t (seal z c n ∷ []) []) ≡ pick t (min q c) q
      here true = rw (eqb_same z, eqb_same n) refl
      here false = refl

      go : Dec (z ≡ m) → (z < m → least_seal z n q (zonewise b h m) ≡ pick (b z) (min q c) q) → least_seal z n (least_seal z n q (zonewise b h m)) (pick (b m) (h m ∷ []) []) ≡ pick (b z) (min q c) q
      go (yes i) ih =
          let p : least_seal z n q (zonewise b h m) ≡ q = least_zonewise_none m q (λ y k. f y q (λ j. omega (arith, i, j, k))) in
          ap (λ (u : ℕ). least_seal z n u (pick (b m) (h m ∷ []) [])) p
          ∙ ap (λ (y : ℕ). least_seal z n q (pick (b y) (h y ∷ []) [])) (sym i)
          ∙ ap (λ (k : Header). least_seal z n q (pick (b z) (k ∷ []) [])) e ∙ here (b z)
      go (no i) ih =
          ap (λ (u : ℕ). least_seal z n u (pick (b m) (h m ∷ []) [])) (ih (omega arith))
          ∙ least_one_none m (pick (b z) (min q c) q) (b m) (f m (pick (b z) (min q c) q) (λ j. i (sym j)))

-- the last label
lost_zonewise : (b : ℕ → Bool) (h : ℕ → Header) (m x : ℕ) → ((y : ℕ) → last_lost x (h y ∷ []) ≡ x) → last_lost x (zonewise b h m) ≡ x
lost_zonewise b h zero x f = refl
lost_zonewise b h (suc m) x f = lost_of_append x (zonewise b h m) (pick (b m) (h m ∷ []) []) ∙ ap (λ (y : ℕ). last_lost y (pick (b m) (h m ∷ []) [])) (lost_zonewise b h m x f) ∙ go (b m)
  where
    go : (c : Bool) → last_lost x (pick c (h m ∷ []) []) ≡ x
    go true = f m
    go false = refl

-- ---- the least seal, of a lower bound; where there is none
least_min : (z n q m : ℕ) (hs : List Header) → q ≤ m → min q (least_seal z n m hs) ≡ least_seal z n q hs
least_min z n q m hs l =
    let a = least_seal z n q hs in
    let b = least_seal z n m hs in
    let p : a ≤ q = least_seal_most z n q hs in
    let r : a ≤ b = least_seal_least z n m a hs (omega (arith, p, l)) (λ c k. least_seal_below z n q hs c k) in
    let s : min q b ≤ a = least_seal_least z n q (min q b) hs (omega arith) (λ c k. omega (arith, least_seal_below z n m hs c k)) in
    omega (arith, p, r, s)

is_seal_of : (z n c : ℕ) → is_seal z n (seal z c n) ≡ true
is_seal_of z n c = rw (eqb_same z, eqb_same n) refl

pub least_none : (z n q : ℕ) (hs : List Header) → any_of (is_seal z n) hs ≡ false → least_seal z n q hs ≡ q
least_none z n q hs e =
    let p : least_seal z n q hs ≤ q = least_seal_most z n q hs in
    let r : q ≤ least_seal z n q hs = least_seal_least z n q q hs (le_refl q) (λ c k. absurd (true≢false (sym (some_any_of (is_seal z n) hs (seal z c n) k (is_seal_of z n c)) ∙ e))) in
    omega (arith, p, r)

-- ---- the copied label
-- it is one that the log has, or there is none: so it answers no question of zones
label_silent : (t : Header → Bool) (hs : List Header) → ((x a : ℕ) → t (label x a) ≡ false) → any_of t (kept_label hs) ≡ false
label_silent t hs f = go (last_label_lem (array_for hs) [] hs)
  where
    go : LastLabel (array_for hs) [] hs → any_of t (kept_label hs) ≡ false
    go (no_label e k) = rw e refl
    go (a_label y a e m k) = rw (e, f y (array_for hs a)) refl

label_no_seal : (z n q : ℕ) (hs : List Header) → least_seal z n q (kept_label hs) ≡ q
label_no_seal z n q hs = go (last_label_lem (array_for hs) [] hs)
  where
    go : LastLabel (array_for hs) [] hs → least_seal z n q (kept_label hs) ≡ q
    go (no_label e k) = rw e refl
    go (a_label y a e m k) = rw e refl

label_lost : (x : ℕ) (hs : List Header) → last_lost x (kept_label hs) ≡ last_lost x hs
label_lost x hs = go (last_label_lem (array_for hs) [] hs)
  where
    go : LastLabel (array_for hs) [] hs → last_lost x (kept_label hs) ≡ last_lost x hs
    go (no_label e k) = ap (last_lost x) e ∙ sym (k x)
    go (a_label y a e m k) = ap (last_lost x) e ∙ sym (k x)

-- where the log begins with a label there is one, with the number with which the log begins
label_there : (hs : List Header) → labelled hs ≡ true → (y a : ℕ) × Memᴰ (label y a) hs × (kept_label hs ≡ label y (array_in hs) ∷ [])
label_there [] e = absurd (true≢false (sym e))
label_there (label x a ∷ hs) e = go (last_label_lem (λ (b : ℕ). a) (label x a ∷ []) hs)
  where
    go : LastLabel (λ (b : ℕ). a) (label x a ∷ []) hs → (y b : ℕ) × Memᴰ (label y b) (label x a ∷ hs) × (last_label (λ (b : ℕ). a) (label x a ∷ []) hs ≡ label y a ∷ [])
    go (no_label q k) = (x, a, mathlib.Core.List.Memᴰ.head refl, q)
    go (a_label y b q m k) = (y, b, mathlib.Core.List.Memᴰ.tail m, q)
label_there (counters cs ∷ hs) e = absurd (true≢false (sym e))
label_there (zone_reset z n ∷ hs) e = absurd (true≢false (sym e))
label_there (partial_parity z s f n ∷ hs) e = absurd (true≢false (sym e))
label_there (seal z p n ∷ hs) e = absurd (true≢false (sym e))
label_there (closing kind gen ∷ hs) e = absurd (true≢false (sym e))

-- ==== the whole copy (cs: the generations in force as a list; m: the new log's generation)
abbrev pub closed_copy : Geometry → (ℕ → ℕ) → List ℕ → List Header → ℕ → List Header
closed_copy g gens cs hs m = copied_general g gens cs hs ++ (closing 0 m ∷ [])

module _ (g : Geometry) (gens : ℕ → ℕ) (cs : List ℕ) (hs : List Header) (m : ℕ) where
  abbrev sealed : ℕ → Bool
  sealed z = any_of (is_seal z (gens z)) hs

  abbrev least_of : ℕ → Header
  least_of z = seal z (least_seal z (gens z) (zone_sectors g) hs) (gens z)

  abbrev has_reset : ℕ → Bool
  has_reset z = any_of (is_reset z (gens z)) hs

  abbrev reset_of : ℕ → Header
  reset_of z = zone_reset z (gens z)

  -- ---- a question that neither labels nor counters nor closing entries answer goes to the seals and the resets
  parts : (t : Header → Bool) → ((x a : ℕ) → t (label x a) ≡ false) → t (counters cs) ≡ false → t (closing 0 m) ≡ false
      → any_of t (closed_copy g gens cs hs m) ≡ any_of t (kept_seals g gens hs) || any_of t (kept_resets g gens hs)
  unfolding copied_general
  parts t f c e =
      any_of_append t (kept_label hs ++ (counters cs ∷ tail)) (closing 0 m ∷ [])
      ∙ ap₂ (λ (a b : Bool). a || b) front (ap (λ (b : Bool). b || false) e) ∙ or_false (any_of t (kept_seals g gens hs) || any_of t (kept_resets g gens hs))
    where
      tail : List Header
      tail = kept_seals g gens hs ++ kept_resets g gens hs

      behind : any_of t (counters cs ∷ tail) ≡ any_of t (kept_seals g gens hs) || any_of t (kept_resets g gens hs)
      behind = ap (λ (b : Bool). b || any_of t tail) c ∙ any_of_append t (kept_seals g gens hs) (kept_resets g gens hs)

      front : any_of t (kept_label hs ++ (counters cs ∷ tail)) ≡ any_of t (kept_seals g gens hs) || any_of t (kept_resets g gens hs)
      front = any_of_append t (kept_label hs) (counters cs ∷ tail) ∙ ap₂ (λ (a b : Bool). a || b) (label_silent t hs f) behind

  no_reset_sealed : (z n : ℕ) → any_of (is_reset z n) (kept_seals g gens hs) ≡ false
  no_reset_sealed z n = any_zonewise_none (is_reset z n) sealed least_of g.zones (λ y l. refl)

  no_seal_reset : (z n : ℕ) → any_of (is_seal z n) (kept_resets g gens hs) ≡ false
  no_seal_reset z n = any_zonewise_none (is_seal z n) has_reset reset_of g.zones (λ y l. refl)

  no_seal_at_reset : (z n q : ℕ) → any_of (is_seal_at z n q) (kept_resets g gens hs) ≡ false
  no_seal_at_reset z n q = any_zonewise_none (is_seal_at z n q) has_reset reset_of g.zones (λ y l. refl)

  -- ---- resets
  pub copy_resets : (z : ℕ) → z < g.zones → any_of (is_reset z (gens z)) (closed_copy g gens cs hs m) ≡ any_of (is_reset z (gens z)) hs
  copy_resets z l =
      let own : is_reset z (gens z) (reset_of z) ≡ true = rw (eqb_same z, eqb_same (gens z)) refl in
      let p = any_zonewise (is_reset z (gens z)) has_reset reset_of g.zones z l (λ y e. rw (ne_eqb y z e) refl) in
      parts (is_reset z (gens z)) (λ x a. refl) refl refl
      ∙ ap₂ (λ (a b : Bool). a || b) (no_reset_sealed z (gens z)) (p ∙ ap (λ (b : Bool). has_reset z && b) own ∙ and_true (has_reset z))

  -- ---- seals
  pub copy_seals : (z : ℕ) → z < g.zones → any_of (is_seal z (gens z)) (closed_copy g gens cs hs m) ≡ any_of (is_seal z (gens z)) hs
  copy_seals z l =
      let own : is_seal z (gens z) (least_of z) ≡ true = is_seal_of z (gens z) (least_seal z (gens z) (zone_sectors g) hs) in
      let p = any_zonewise (is_seal z (gens z)) sealed least_of g.zones z l (λ y e. rw (ne_eqb y z e) refl) in
      parts (is_seal z (gens z)) (λ x a. refl) refl refl
      ∙ ap₂ (λ (a b : Bool). a || b) (p ∙ ap (λ (b : Bool). sealed z && b) own ∙ and_true (sealed z)) (no_seal_reset z (gens z)) ∙ or_false (sealed z)

  -- a seal just at q, where no current seal of the log is below q or past the zone
  pub copy_seal_at : (z q : ℕ) → z < g.zones → ((c : ℕ) → Memᴰ (seal z c (gens z)) hs → c ≤ zone_sectors g) → q ≤ least_seal z (gens z) (zone_sectors g) hs
      → any_of (is_seal_at z (gens z) q) (closed_copy g gens cs hs m) ≡ any_of (is_seal_at z (gens z) q) hs
  copy_seal_at z q l most low =
      parts (is_seal_at z n q) (λ x a. refl) refl refl
      ∙ ap₂ (λ (a b : Bool). a || b) (any_zonewise (is_seal_at z n q) sealed least_of g.zones z l (λ y e. rw (ne_eqb y z e) refl)) (no_seal_at_reset z n q)
      ∙ or_false (sealed z && is_seal_at z n q (least_of z)) ∙ both_ways (sealed z && is_seal_at z n q (least_of z)) (any_of (is_seal_at z n q) hs) to from
    where
      n : ℕ
      n = gens z

      least : ℕ
      least = least_seal z n (zone_sectors g) hs

      at : (c : ℕ) → c ≡ q → is_seal_at z n q (seal z c n) ≡ true
      at c e = rw (eqb_same z, eqb_same n, eq-eqb c q e) refl

      to : sealed z && is_seal_at z n q (least_of z) ≡ true → any_of (is_seal_at z n q) hs ≡ true
      to e = let (a, b) = and_split (sealed z) (is_seal_at z n q (least_of z)) e in some_any_of (is_seal_at z n q) hs (least_of z) (least_seal_mem z n (zone_sectors g) hs most a) b

      from : any_of (is_seal_at z n q) hs ≡ true → sealed z && is_seal_at z n q (least_of z) ≡ true
      from e =
          let (h, k, i) = any_of_some (is_seal_at z n q) hs e in
          let j : Memᴰ (seal z q n) hs = rw (seal_is z n q h i) at k in
          let c : least ≡ q = omega (arith, low, least_seal_below z n (zone_sectors g) hs q j) in
          ap₂ (λ (a b : Bool). a && b) (some_any_of (is_seal z n) hs (seal z q n) j (is_seal_of z n q)) (at least c)

  -- the least of them, and of a bound inside the zone
  pub copy_least : (z q : ℕ) → z < g.zones → q ≤ zone_sectors g → least_seal z (gens z) q (closed_copy g gens cs hs m) ≡ least_seal z (gens z) q hs
  unfolding copied_general
  copy_least z q l most =
      least_of_append z n q (kept_label hs ++ (counters cs ∷ tail)) (closing 0 m ∷ [])
      ∙ least_of_append z n q (kept_label hs) (counters cs ∷ tail)
      ∙ ap (λ (p : ℕ). least_seal z n p tail) (label_no_seal z n q hs)
      ∙ least_of_append z n q (kept_seals g gens hs) (kept_resets g gens hs)
      ∙ least_zonewise_none z n has_reset reset_of g.zones (least_seal z n q (kept_seals g gens hs)) (λ y k. refl)
      ∙ least_zonewise z n sealed least_of g.zones q (least_seal z n (zone_sectors g) hs) l refl (λ y p e. rw (ne_eqb y z e) refl)
      ∙ go (sealed z) refl
    where
      n : ℕ
      n = gens z

      tail : List Header
      tail = kept_seals g gens hs ++ kept_resets g gens hs

      go : (b : Bool) → sealed z ≡ b → pick b (min q (least_seal z n (zone_sectors g) hs)) q ≡ least_seal z n q hs
      go true e = least_min z n q (zone_sectors g) hs most
      go false e = sym (least_none z n q hs e)

  -- ---- of a zone that there is not, nothing
  pub copy_no_resets : (z n : ℕ) → g.zones ≤ z → any_of (is_reset z n) (closed_copy g gens cs hs m) ≡ false
  copy_no_resets z n l =
      parts (is_reset z n) (λ x a. refl) refl refl
      ∙ ap₂ (λ (a b : Bool). a || b) (no_reset_sealed z n) (any_zonewise_none (is_reset z n) has_reset reset_of g.zones (λ y k. rw (ne_eqb y z (λ e. omega (arith, e, k, l))) refl))

  pub copy_no_seals : (z n : ℕ) → g.zones ≤ z → any_of (is_seal z n) (closed_copy g gens cs hs m) ≡ false
  copy_no_seals z n l =
      parts (is_seal z n) (λ x a. refl) refl refl
      ∙ ap₂ (λ (a b : Bool). a || b) (any_zonewise_none (is_seal z n) sealed least_of g.zones (λ y k. rw (ne_eqb y z (λ e. omega (arith, e, k, l))) refl)) (no_seal_reset z n)

  -- ---- counters and labels
  pub copy_counters : last_counters [] (closed_copy g gens cs hs m) ≡ cs
  copy_counters = last_counters_append [] (copied_general g gens cs hs) (closing 0 m ∷ []) ∙ copied_counters g gens cs hs

  pub copy_lost : (x : ℕ) → last_lost x (closed_copy g gens cs hs m) ≡ last_lost x hs
  unfolding copied_general
  copy_lost x =
      lost_of_append x (kept_label hs ++ (counters cs ∷ tail)) (closing 0 m ∷ []) ∙ lost_of_append x (kept_label hs) (counters cs ∷ tail)
      ∙ ap (λ (y : ℕ). last_lost y tail) (label_lost x hs)
      ∙ lost_of_append (last_lost x hs) (kept_seals g gens hs) (kept_resets g gens hs)
      ∙ ap (λ (y : ℕ). last_lost y (kept_resets g gens hs)) (lost_zonewise sealed least_of g.zones (last_lost x hs) (λ y. refl))
      ∙ lost_zonewise has_reset reset_of g.zones (last_lost x hs) (λ y. refl)
    where
      tail : List Header
      tail = kept_seals g gens hs ++ kept_resets g gens hs

  -- it begins with a label, of the array number with which the log begins
  pub copy_label : labelled hs ≡ true → (labelled (closed_copy g gens cs hs m) ≡ true) × (array_in (closed_copy g gens cs hs m) ≡ array_in hs)
  unfolding copied_general
  copy_label e =
      let (y, a, i, q) = label_there hs e in
      let rest = counters cs ∷ (kept_seals g gens hs ++ kept_resets g gens hs) in
      (ap (λ (ks : List Header). labelled (ks ++ rest ++ (closing 0 m ∷ []))) q, ap (λ (ks : List Header). array_in (ks ++ rest ++ (closing 0 m ∷ []))) q)

  -- ---- what it holds: a label of the log with the number with which the log begins, the counters, headers of the log, the closing entry
  module _ (P : Header → Type 0) (begins : labelled hs ≡ true) (most : (z c : ℕ) → Memᴰ (seal z c (gens z)) hs → c ≤ zone_sectors g)
      (labels : (y a : ℕ) → Memᴰ (label y a) hs → P (label y (array_in hs))) (counted : P (counters cs)) (kept : (h : Header) → Memᴰ h hs → P h) (closed : P (closing 0 m)) where
    label_holds : (h : Header) → Memᴰ h (kept_label hs) → P h
    label_holds h i = let (y, a, j, q) = label_there hs begins in one y (labels y a j) (rw q at i)
      where
        one : (y : ℕ) → P (label y (array_in hs)) → Memᴰ h (label y (array_in hs) ∷ []) → P h
        one y p (mathlib.Core.List.Memᴰ.head e) = rw e p
        one y p (mathlib.Core.List.Memᴰ.tail k) = mem_nil h k

    seals_hold : (h : Header) → Memᴰ h (kept_seals g gens hs) → P h
    seals_hold h i = let (z, l, b, e) = zonewise_mem sealed least_of g.zones h i in rw e (kept (least_of z) (least_seal_mem z (gens z) (zone_sectors g) hs (most z) b))

    resets_hold : (h : Header) → Memᴰ h (kept_resets g gens hs) → P h
    resets_hold h i =
        let (z, l, b, e) = zonewise_mem has_reset reset_of g.zones h i in
        let (k, o, t) = any_of_some (is_reset z (gens z)) hs b in
        rw (e, ← reset_is z (gens z) k t) (kept k o)

    pub copy_holds : (h : Header) → Memᴰ h (closed_copy g gens cs hs m) → P h
    unfolding copied_general
    copy_holds h i = last (mem_append (kept_label hs ++ (counters cs ∷ (kept_seals g gens hs ++ kept_resets g gens hs))) (closing 0 m ∷ []) h i)
      where
        tail : Memᴰ h (kept_seals g gens hs) ⊎ Memᴰ h (kept_resets g gens hs) → P h
        tail (inl k) = seals_hold h k
        tail (inr k) = resets_hold h k

        after : Memᴰ h (counters cs ∷ (kept_seals g gens hs ++ kept_resets g gens hs)) → P h
        after (mathlib.Core.List.Memᴰ.head e) = rw e counted
        after (mathlib.Core.List.Memᴰ.tail k) = tail (mem_append (kept_seals g gens hs) (kept_resets g gens hs) h k)

        front : Memᴰ h (kept_label hs) ⊎ Memᴰ h (counters cs ∷ (kept_seals g gens hs ++ kept_resets g gens hs)) → P h
        front (inl k) = label_holds h k
        front (inr k) = after k

        end : Memᴰ h (closing 0 m ∷ []) → P h
        end (mathlib.Core.List.Memᴰ.head e) = rw e closed
        end (mathlib.Core.List.Memᴰ.tail k) = mem_nil h k

        last : Memᴰ h (kept_label hs ++ (counters cs ∷ (kept_seals g gens hs ++ kept_resets g gens hs))) ⊎ Memᴰ h (closing 0 m ∷ []) → P h
        last (inl k) = front (mem_append (kept_label hs) (counters cs ∷ (kept_seals g gens hs ++ kept_resets g gens hs)) h k)
        last (inr k) = end k
