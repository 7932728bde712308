-- Laws of a row's exclusive or below an end, and of stripes.
use Rattle.std.specs.Prelude.{◌≡◌, refl, Bool, true, false, ℕ, zero, suc, ◌+◌, ◌-◌, ◌*◌, ◌%◌, ◌≤◌, ◌<◌, List, [], length, ltb}
use Rattle.std.proofs.Common.{◌∙◌, arith, lt-ltb, le-ltb, ltb-true}
use Rattle.std.proofs.Math.Decide.{ℕ_discrete}
use Rattle.tables.specs.declared.Geometry.{Geometry}
use Rattle.tables.specs.meaning.Basics.{pick}
use Rattle.tables.specs.meaning.Geometry.{Valid, stripe_sectors}
use Rattle.tables.specs.meaning.Xor.{xor_below, without}
use Rattle.tables.specs.laws.Xor.{xor_below_none, xor_below_cong, xor_below_split, xor_below_length, xor_bytes_comm, length_xor, without_self, without_other}
use Rattle.tables.specs.meaning.Placement.{stripe_of, stripe_length, address}
use Rattle.tables.specs.laws.Placement.{unit_row_lt, address_sum, stripe_rest}
use Rattle.volume.specs.meaning.Content.{row_xor, row_xor_below}

-- rows past the fill hold nothing
pub row_xor_none : (D U : ℕ) (S : ℕ → List ℕ) (s end r : ℕ) → end ≤ s * stripe_length D U + r → row_xor_below D U S s end r ≡ []
unfolding row_xor_below
row_xor_none D U S s end r h = xor_below_none (λ k. pick (ltb (address D U s k r) end) (S (address D U s k r)) []) (D - 1) (λ k l. rw (le-ltb (address D U s k r) end (omega (arith, address_sum D U s k r))) refl)

pub row_xor_below_cong : (D U : ℕ) (S S' : ℕ → List ℕ) (s end r : ℕ) → ((a : ℕ) → a < end → S a ≡ S' a) → row_xor_below D U S s end r ≡ row_xor_below D U S' s end r
unfolding row_xor_below
row_xor_below_cong D U S S' s end r h = xor_below_cong (λ k. pick (ltb (address D U s k r) end) (S (address D U s k r)) []) (λ k. pick (ltb (address D U s k r) end) (S' (address D U s k r)) []) (D - 1) (λ k l. go k (ltb (address D U s k r) end) refl)
  where
    go : (k : ℕ) (b : Bool) → ltb (address D U s k r) end ≡ b → pick b (S (address D U s k r)) [] ≡ pick b (S' (address D U s k r)) []
    go k true e = h (address D U s k r) (ltb-true (address D U s k r) end e)
    go k false e = refl

-- a row with one member of full length, and none longer
pub xor_below_full : (B : ℕ) (f : ℕ → List ℕ) (n i : ℕ) → i < n → length (f i) ≡ B → ((k : ℕ) → k < n → length (f k) ≤ B) → length (xor_below f n) ≡ B
xor_below_full B f n i h e most = rw (xor_below_split f i n h, xor_bytes_comm (xor_below (without f i) n) (f i)) (length_xor (f i) (xor_below (without f i) n) (rw e (xor_below_length B (without f i) n short)) ∙ e)
  where
    short : (k : ℕ) → k < n → length (without f i k) ≤ B
    short k l = go (ℕ_discrete k i)
      where
        go : Dec (k ≡ i) → length (without f i k) ≤ B
        go (yes q) = rw (q, without_self f i) (omega arith)
        go (no q) = rw (without_other f i k q) (most k l)

-- ---- a row with a sector below e is as long as a sector
row_short : (B D U : ℕ) (S : ℕ → List ℕ) (s e r k : ℕ) → (address D U s k r < e → length (S (address D U s k r)) ≡ B) → length (pick (ltb (address D U s k r) e) (S (address D U s k r)) []) ≤ B
row_short B D U S s e r k size = go (ltb (address D U s k r) e) refl
  where
    go : (b : Bool) → ltb (address D U s k r) e ≡ b → length (pick b (S (address D U s k r)) []) ≤ B
    go true q = omega (arith, size (ltb-true (address D U s k r) e q))
    go false q = omega arith

pub row_long : (g : Geometry) → Valid g → (S : ℕ → List ℕ) (s e r : ℕ) → r < g.unit → s * stripe_sectors g + r < e
    → ((k : ℕ) → k + 1 < g.drives → address g.drives g.unit s k r < e → length (S (address g.drives g.unit s k r)) ≡ g.sector) → length (row_xor_below g.drives g.unit S s e r) ≡ g.sector
unfolding row_xor_below
row_long g ok S s e r hr h size =
    let l : address g.drives g.unit s 0 r < e = omega (arith, address_sum g.drives g.unit s 0 r) in
    xor_below_full g.sector (λ k. pick (ltb (address g.drives g.unit s k r) e) (S (address g.drives g.unit s k r)) []) (g.drives - 1) 0 (omega (arith, ok.drives_least))
    (rw (lt-ltb (address g.drives g.unit s 0 r) e l) (size 0 (omega (arith, ok.drives_least)) l))
    (λ k hk. row_short g.sector g.drives g.unit S s e r k (λ q. size k (omega arith) q))

-- of a complete stripe
pub row_complete_lem : (D U : ℕ) → 1 < D → (S : ℕ → List ℕ) (s end r : ℕ) → zero < U → r < U → suc s * stripe_length D U ≤ end → row_xor_below D U S s end r ≡ row_xor D U S s r
unfolding row_xor_below row_xor
row_complete_lem D U h_d S s end r h_u hr most =
    xor_below_cong (λ k. pick (ltb (address D U s k r) end) (S (address D U s k r)) []) (λ k. S (address D U s k r)) (D - 1) (λ k h.
    let l : address D U s k r < end = omega (arith, most, unit_row_lt D U 0 h_d h_u k r (omega arith) hr, address_sum D U s k r) in
    rw (lt-ltb (address D U s k r) end l) refl)

-- ---- stripes: the address after a stripe's last begins the next one
pub stripe_last : (g : Geometry) (a : ℕ) → suc (a % stripe_sectors g) ≡ stripe_sectors g → suc a ≡ suc (stripe_of g.drives g.unit a) * stripe_sectors g
stripe_last g a h = omega (arith, stripe_rest g.drives g.unit a)
