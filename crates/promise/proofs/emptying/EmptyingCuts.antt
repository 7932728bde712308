-- The roles while a general log is emptied, on the physical zones. Until its closing entry is kept by a cut they are the old ones (old-firm); where it
-- is kept, the spare is the general log, of a generation one higher, and what is left of the old log is the spare (new-firm).
use Rattle.std.specs.Prelude.{◌≡◌, refl, ◌⊎◌, Bool, true, not, length, take, eqb, ltb}
use Rattle.std.proofs.Common.{sym, ap, ◌∙◌, inr, le_refl, arith, length-take, ne_eqb}
use Rattle.std.proofs.Math.Logic.{inl}
use Rattle.std.proofs.Math.Bool.{false}
use Prim.Native.Nat.{ℕ, suc, ◌≤◌, ◌<◌}
use Rattle.std.proofs.Math.Decide.{dec_lt, ℕ_discrete}
use mathlib.Core.List.{List, [], ◌∷◌, map, Memᴰ}
use Rattle.tables.specs.meaning.Basics.{pick}
use Rattle.tables.specs.laws.Lists.{take_map, mem_take}
use Rattle.tables.specs.meaning.Device.{Device}
use Rattle.tables.specs.declared.Geometry.{Geometry}
use Rattle.logs.specs.meaning.Entry.{Header, label, counters, zone_reset, partial_parity, seal, closing, encode}
use Rattle.logs.specs.meaning.Heads.{first_closing}
use Rattle.logs.specs.laws.Walk.{Reads}
use Rattle.logs.specs.laws.Closing.{first_closing_is}
use Rattle.volume.specs.meaning.Roles.{zone_claim, strength, Roles, zone_of_role, emptied_roles}
use Rattle.volume.specs.laws.Claims.{Claims, blank_strength}
use Rattle.volume.specs.laws.Firm.{Proper, Firm, proper_apart}
use Rattle.promise.proofs.invariant.Invariant.{Ghost, Here, LogsOk}
use Rattle.promise.proofs.roles.ClaimsOfLogs.{general_claims, general_claims_none, firm_of_logs}

pub general_proper : (r : Roles) → Proper r → Proper (emptied_roles false r)
general_proper r p =
    let n = proper_apart r p in
    record { general_lt = n.3; parity_lt = p.parity_lt; apart = side (dec_lt r.spare r.parity); sum = omega (arith, p.sum) }
  where
    side : Dec (r.spare < r.parity) → (r.spare < r.parity) ⊎ (r.parity < r.spare)
    side (yes q) = inl q
    side (no q) = inr (more (ℕ_discrete r.parity r.spare))
      where
        more : Dec (r.parity ≡ r.spare) → r.parity < r.spare
        more (yes e) = absurd ((proper_apart r p).2 e)
        more (no e) = omega (arith, q, e)

-- the first closing entry is one of them
pub closing_most : (t : List Header) (n : ℕ) → ((k i : ℕ) → Memᴰ (closing k i) t → i ≤ n) → first_closing t ≤ n
closing_most [] n h = omega arith
closing_most (label x a ∷ t) n h = closing_most t n (λ k i m. h k i (Memᴰ.tail m))
closing_most (counters cs ∷ t) n h = closing_most t n (λ k i m. h k i (Memᴰ.tail m))
closing_most (zone_reset z j ∷ t) n h = closing_most t n (λ k i m. h k i (Memᴰ.tail m))
closing_most (partial_parity z s f j ∷ t) n h = closing_most t n (λ k i m. h k i (Memᴰ.tail m))
closing_most (seal z p j ∷ t) n h = closing_most t n (λ k i m. h k i (Memᴰ.tail m))
closing_most (closing k j ∷ t) n h = h k j (Memᴰ.head refl)

-- ---- what any beginning of a general log claims
module _ (g : Geometry) (d : ℕ) (hs : List Header) (rd : (h : Header) → Memᴰ h hs → Reads g d false h) (long : length hs ≤ g.capacity) where
  few : (k : ℕ) → length (take k hs) ≤ g.capacity
  few k = rw length-take (omega (arith, long))

  reads_of : (k : ℕ) (h : Header) → Memᴰ h (take k hs) → Reads g d false h
  reads_of k h o = rd h (mem_take k hs h o)

  front_general : (k : ℕ) → zone_claim g d false (take k (map (encode g d) hs)) ≡ first_closing (take k hs)
  front_general k = rw (take_map (encode g d) k hs) (general_claims g d (take k hs) (reads_of k) (few k))

  front_parity : (k : ℕ) → zone_claim g d true (take k (map (encode g d) hs)) ≡ 0
  front_parity k = rw (take_map (encode g d) k hs) (general_claims_none g d (take k hs) (reads_of k))

  -- without closing entries: nothing
  pub open_claims : ((k n : ℕ) → Memᴰ (closing k n) hs → ⊥) → (k : ℕ) (par : Bool) → zone_claim g d par (take k (map (encode g d) hs)) ≡ 0
  open_claims c k true = front_parity k
  open_claims c k false = front_general k ∙ first_closing_is (take k hs) 0 (λ j n m. absurd (c j n (mem_take k hs (closing j n) m))) (λ e. absurd (omega (arith, e)))

-- UNTIL THE CLOSING ENTRY: whatever the spare holds claims nothing (w: v with that there)
pub old_firm : (g : Geometry) (v w : Device) (d : ℕ) (r : Roles) → Firm g v d r → w d r.general ≡ v d r.general → w d r.parity ≡ v d r.parity
    → ((k : ℕ) (par : Bool) → zone_claim g d par (take k (w d r.spare).sectors) ≡ 0) → Firm g w d r
unfolding strength
old_firm g v w d r f eg ep none = record {
  proper = f.proper;
  general_firm = rw eg f.general_firm;
  parity_firm = rw ep f.parity_firm;
  spare_loses = λ k. let (a, b) = f.spare_loses 0 in (loses k false r.general_claim a, loses k true r.parity_claim b);
}
  where
    loses : (k : ℕ) (par : Bool) (t : ℕ) → strength g d par r.spare (take 0 (v d r.spare).sectors) < t → strength g d par r.spare (take k (w d r.spare).sectors) < t
    loses k par t q = rw (none k par, none k (not par)) (rw (blank_strength g d par r.spare) at q)

-- WHERE THE CLOSING ENTRY IS KEPT: by the new roles the logs are in order (u, δ), and what is left of the old log, hs, is the spare
module _ (g : Geometry) (x : ℕ) (w u : Device) (δ : Ghost) (lg : LogsOk g x u δ) (d : ℕ) (a : Here g x d) (r : Roles) (seen : (y : ℕ) → u d y ≡ w d (zone_of_role (emptied_roles false r) y))
    (hs : List Header) (rd : (h : Header) → Memᴰ h hs → Reads g d false h) (long : length hs ≤ g.capacity) where
  -- (c: the old log's generation)
  pub new_firm : (c : ℕ) → Proper r → Claims c r.general 0 r.general_claim → Claims (δ.closed d).1 r.parity 1 r.parity_claim → (δ.closed d).0 ≡ r.general_claim
      → ((k i : ℕ) → Memᴰ (closing k i) hs → i ≤ c) → (m : ℕ) → (w d r.general).sectors ≡ map (encode g d) (take m hs) → Firm g w d (emptied_roles false r)
  unfolding strength
  new_firm c p cg cp q old m is = firm_of_logs g x w u δ lg d a (emptied_roles false r) seen (general_proper r p) (ap suc (sym q), inl (rw q (omega (arith, cg.0)))) cp (λ k. rw is (general k, parity k))
    where
      left_reads : (h : Header) → Memᴰ h (take m hs) → Reads g d false h
      left_reads h o = rd h (mem_take m hs h o)

      left_long : length (take m hs) ≤ g.capacity
      left_long = rw length-take (omega (arith, long))

      claims_most : (k : ℕ) → first_closing (take k (take m hs)) ≤ c
      claims_most k = closing_most (take k (take m hs)) c (λ j i o. old j i (mem_take m hs (closing j i) (mem_take k (take m hs) (closing j i) o)))

      default_most : (b : Bool) → pick b 1 0 ≤ 1
      default_most true = le_refl 1
      default_most false = omega arith

      general : (k : ℕ) → strength g d false r.general (take k (map (encode g d) (take m hs))) < suc r.general_claim
      general k = rw (front_general g d (take m hs) left_reads left_long k, front_parity g d (take m hs) left_reads left_long k) (go (first_closing (take k (take m hs))) (claims_most k) (ltb 0 (first_closing (take k (take m hs)))))
        where
          go : (i : ℕ) → i ≤ c → (b : Bool) → pick b (suc i) (pick (eqb r.general 0) 1 0) < suc r.general_claim
          go i h true = omega (arith, h, cg.0)
          go i h false = omega (arith, default_most (eqb r.general 0), cg.0)

      -- where the old log lies in zone 1, the parity log has a closing entry
      parity : (k : ℕ) → strength g d true r.general (take k (map (encode g d) (take m hs))) < r.parity_claim
      parity k = rw (front_general g d (take m hs) left_reads left_long k, front_parity g d (take m hs) left_reads left_long k) (go (ltb 0 (first_closing (take k (take m hs)))) (ℕ_discrete r.general 1) cp.1)
        where
          go : (b : Bool) → Dec (r.general ≡ 1) → (0 < (δ.closed d).1) ⊎ (r.parity ≡ 1) → pick b 0 (pick (eqb r.general 1) 1 0) < r.parity_claim
          go true e h = omega (arith, cp.0)
          go false (no e) h = rw (ne_eqb r.general 1 e) (omega (arith, cp.0))
          go false (yes e) (inl h) = omega (arith, default_most (eqb r.general 1), cp.0, h)
          go false (yes e) (inr h) = absurd ((proper_apart r p).0 (e ∙ sym h))
