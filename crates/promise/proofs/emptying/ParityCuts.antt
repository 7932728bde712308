-- The roles while a parity log is emptied. Until its closing entry is there, the new log claims nothing in whatever a cut keeps of it, and the roles
-- are the old ones (silent-firm). Once it is, the spare is the parity log, of a generation one higher, and what is left of the old log claims
-- less (new-firm).
use Rattle.std.specs.Prelude.{◌≡◌, refl, ◌≢◌, ◌⊎◌, Bool, take, eqb, ltb}
use Rattle.std.proofs.Common.{sym, ap, ◌∙◌, inr, le_refl, le_trans, arith, ne_eqb}
use Rattle.std.proofs.Math.Logic.{inl}
use Rattle.std.proofs.Math.Bool.{true, false}
use Prim.Native.Nat.{ℕ, suc, ◌≤◌, ◌<◌}
use Rattle.std.proofs.Math.Decide.{dec_lt, ℕ_discrete}
use mathlib.Core.List.{List, ◌∷◌, map, Memᴰ}
use Rattle.tables.specs.meaning.Basics.{pick}
use Rattle.tables.specs.meaning.Device.{Device}
use Rattle.tables.specs.declared.Geometry.{Geometry}
use Rattle.logs.specs.meaning.Entry.{Header, closing, Entry}
use Rattle.logs.specs.meaning.Heads.{first_closing}
use Rattle.logs.specs.laws.Walk.{WellFormedLog, whole_entries, sectors_of_all, log_extent, cut_entries, cut_flat, cut_lawful, cut_extent, cut_left}
use Rattle.logs.specs.laws.LogLaws.{whole_entries_mem}
use Rattle.volume.specs.meaning.Roles.{zone_claim, strength, strength_by, Roles, zone_of_role, emptied_roles}
use Rattle.volume.specs.laws.Claims.{Claims}
use Rattle.volume.specs.laws.Firm.{Proper, Firm, proper_apart}
use Rattle.promise.proofs.invariant.Invariant.{Ghost, Here, LogsOk}
use Rattle.promise.proofs.emptying.EmptyingCuts.{closing_most, old_firm}
use Rattle.promise.proofs.roles.ClaimsOfLogs.{parity_claims, parity_claims_none, firm_of_logs}

heads_mem : (es : List Entry) (h : Header) → Memᴰ h (map (λ (p : Entry). p.head) es) → (e : Entry) × Memᴰ e es × (e.head ≡ h)
heads_mem (p ∷ es) h (Memᴰ.head q) = (p, Memᴰ.head refl, sym q)
heads_mem (p ∷ es) h (Memᴰ.tail m) = let (e, o, q) = heads_mem es h m in (e, Memᴰ.tail o, q)
heads_mem mathlib.Core.List.[] h x' = elim x' [ ]

-- ---- what any beginning of a parity log claims, whose closing entries are of generations at most n
module _ (g : Geometry) (d : ℕ) (es : List Entry) (lw : WellFormedLog g d true es) (room : log_extent g d true es ≤ g.capacity) where
  pub front_claims : (n : ℕ) → ((e : Entry) → Memᴰ e es → (k i : ℕ) → e.head ≡ closing k i → i ≤ n) → (k : ℕ)
      → (zone_claim g d true (take k (sectors_of_all g d true es)) ≤ n) × (zone_claim g d false (take k (sectors_of_all g d true es)) ≡ 0)
  front_claims n most k =
      let fs = cut_entries g d true es k in
      let fl = cut_lawful g d true es k lw in
      let p : zone_claim g d true (sectors_of_all g d true fs) ≡ first_closing (map (λ (e : Entry). e.head) (whole_entries g d true fs)) = parity_claims g d fs fl (le_trans (cut_extent g d true es k) room) in
      let q : first_closing (map (λ (e : Entry). e.head) (whole_entries g d true fs)) ≤ n = closing_most (map (λ (e : Entry). e.head) (whole_entries g d true fs)) n (λ j i m.
      let (e, o, h) = heads_mem (whole_entries g d true fs) (closing j i) m in
      let l = cut_left g d true es k e (whole_entries_mem g d fs e o).0 in most l.of l.is_set j i (sym l.heads ∙ h)) in
      rw (cut_flat g d true es k) (rw p q, parity_claims_none g d fs fl)

-- ---- SECTORS THAT CLAIM NOTHING, whatever a cut keeps of them
pub record Silent (g : Geometry) (d : ℕ) (ss : List (List ℕ)) : Type 0 where
  pub claims : (k : ℕ) (par : Bool) → zone_claim g d par (take k ss) ≡ 0

-- the copies, without the closing entry
pub copies_silent : (g : Geometry) (d : ℕ) (es : List Entry) → WellFormedLog g d true es → log_extent g d true es ≤ g.capacity → ((e : Entry) → Memᴰ e es → (k i : ℕ) → e.head ≡ closing k i → ⊥)
    → (m : ℕ) → Silent g d (take m (sectors_of_all g d true es))
copies_silent g d es lw room none m = rw (cut_flat g d true es m) (record { claims = go })
  where
    old : (e : Entry) → Memᴰ e (cut_entries g d true es m) → (k i : ℕ) → e.head ≡ closing k i → i ≤ 0
    old e o k i h = let l = cut_left g d true es m e o in absurd (none l.of l.is_set k i (sym l.heads ∙ h))

    both : (k : ℕ) → (zone_claim g d true (take k (sectors_of_all g d true (cut_entries g d true es m))) ≤ 0) × (zone_claim g d false (take k (sectors_of_all g d true (cut_entries g d true es m))) ≡ 0)
    both k = front_claims g d (cut_entries g d true es m) (cut_lawful g d true es m lw) (le_trans (cut_extent g d true es m) room) 0 old k

    go : (k : ℕ) (par : Bool) → zone_claim g d par (take k (sectors_of_all g d true (cut_entries g d true es m))) ≡ 0
    go k true = let b = (both k).0 in omega (arith, b)
    go k false = (both k).1

-- UNTIL THE CLOSING ENTRY: what the spare holds claims nothing
pub silent_firm : (g : Geometry) (v w : Device) (d : ℕ) (r : Roles) → Firm g v d r → w d r.general ≡ v d r.general → w d r.parity ≡ v d r.parity → Silent g d (w d r.spare).sectors → Firm g w d r
silent_firm g v w d r f eg ep s = old_firm g v w d r f eg ep s.claims

-- ---- the roles afterwards
pub emptied_proper : (r : Roles) → Proper r → Proper (emptied_roles true r)
emptied_proper r p =
    let n = proper_apart r p in
    record { general_lt = p.general_lt; parity_lt = n.3; apart = side (dec_lt r.general r.spare) n.1; sum = omega (arith, p.sum) }
  where
    side : Dec (r.general < r.spare) → r.general ≢ r.spare → (r.general < r.spare) ⊎ (r.spare < r.general)
    side (yes q) m = inl q
    side (no q) m = inr (apart (ℕ_discrete r.general r.spare) q m)
      where
        apart : Dec (r.general ≡ r.spare) → (r.general < r.spare → ⊥) → r.general ≢ r.spare → r.spare < r.general
        apart (yes e) q m = absurd (m e)
        apart (no e) q m = omega (arith, q, e)

-- ONCE IT IS THERE: by the new roles the logs are in order (u, δ), and what is left of the old log, es, is the spare
module _ (g : Geometry) (x : ℕ) (w u : Device) (δ : Ghost) (lg : LogsOk g x u δ) (d : ℕ) (a : Here g x d) (r : Roles) (seen : (y : ℕ) → u d y ≡ w d (zone_of_role (emptied_roles true r) y))
    (es : List Entry) (lw : WellFormedLog g d true es) (room : log_extent g d true es ≤ g.capacity) where
  -- (c: the old log's generation)
  pub new_firm : (c : ℕ) → Proper r → Claims (δ.closed d).0 r.general 0 r.general_claim → Claims c r.parity 1 r.parity_claim → (δ.closed d).1 ≡ r.parity_claim
      → ((e : Entry) → Memᴰ e es → (k i : ℕ) → e.head ≡ closing k i → i ≤ c) → (m : ℕ) → (w d r.parity).sectors ≡ take m (sectors_of_all g d true es) → Firm g w d (emptied_roles true r)
  unfolding strength
  new_firm c p cg cp q old m is = firm_of_logs g x w u δ lg d a (emptied_roles true r) seen (emptied_proper r p) cg (ap suc (sym q), inl (rw q (omega (arith, cp.0)))) (λ k. rw is (general k, parity k))
    where
      both : (k : ℕ) → (zone_claim g d true (take k (take m (sectors_of_all g d true es))) ≤ c) × (zone_claim g d false (take k (take m (sectors_of_all g d true es))) ≡ 0)
      both k = rw (cut_flat g d true es m) (front_claims g d (cut_entries g d true es m) (cut_lawful g d true es m lw) (le_trans (cut_extent g d true es m) room) c
          (λ e o j i h. let l = cut_left g d true es m e o in old l.of l.is_set j i (sym l.heads ∙ h)) k)

      default_most : (b : Bool) → pick b 1 0 ≤ 1
      default_most true = le_refl 1
      default_most false = omega arith

      parity : (k : ℕ) → strength_by (zone_claim g d true (take k (take m (sectors_of_all g d true es)))) (zone_claim g d false (take k (take m (sectors_of_all g d true es)))) true r.parity < suc r.parity_claim
      parity k = let (s, t) = both k in rw t (go (zone_claim g d true (take k (take m (sectors_of_all g d true es)))) s (ltb 0 (zone_claim g d true (take k (take m (sectors_of_all g d true es))))))
        where
          go : (i : ℕ) → i ≤ c → (b : Bool) → pick b (suc i) (pick (eqb r.parity 1) 1 0) < suc r.parity_claim
          go i h true = omega (arith, h, cp.0)
          go i h false = omega (arith, default_most (eqb r.parity 1), cp.0)

      -- where the old log lies in zone 0, the general log has a closing entry
      general : (k : ℕ) → strength_by (zone_claim g d false (take k (take m (sectors_of_all g d true es)))) (zone_claim g d true (take k (take m (sectors_of_all g d true es)))) false r.parity < r.general_claim
      general k = let (s, t) = both k in rw t (go (ltb 0 (zone_claim g d true (take k (take m (sectors_of_all g d true es))))) (ℕ_discrete r.parity 0) cg.1)
        where
          go : (b : Bool) → Dec (r.parity ≡ 0) → (0 < (δ.closed d).0) ⊎ (r.general ≡ 0) → pick b 0 (pick (eqb r.parity 0) 1 0) < r.general_claim
          go true e h = omega (arith, cg.0)
          go false (no e) h = rw (ne_eqb r.parity 0 e) (omega (arith, cg.0))
          go false (yes e) (inl h) = omega (arith, default_most (eqb r.parity 0), cg.0, h)
          go false (yes e) (inr h) = absurd ((proper_apart r p).0 (h ∙ sym e))
