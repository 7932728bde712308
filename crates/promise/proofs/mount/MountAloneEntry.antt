-- A whole current entry of stripe 0 with at most U sectors makes them all known by itself. So it ends at or below the pointer that a look
-- shows, or past the cap: what the seals and resets of a mount need to know of such entries.
use Rattle.logs.specs.laws.LogLaws.{lawful_reads, mem_whole_entries}
use Rattle.logs.specs.laws.HeadLaws.{partial_parity_fits}
use Rattle.tables.specs.laws.Sizes.{unit_within_zone}
use Rattle.volume.specs.meaning.Rules.{ParityEntry, View, known_prefix, known, held_at, by_parity, serves, entry_for, is_found, parity_of, row_drive, row_address, view_of, seal_limit, serving_entries, zone_view, parity_entries}
use Rattle.promise.proofs.content.Recover.{last_of_some}
use Rattle.std.specs.Prelude.{◌≡◌, refl, ◌≢◌, ◌⊎◌, Bool, true, false, ◌||◌, ℕ, zero, suc, ◌+◌, ◌-◌, ◌*◌, ◌≤◌, ◌<◌, get_or, leb, eqb}
use Rattle.std.proofs.Common.{sym, ap, ap₂, ◌∙◌, subst, inl, inr, true≢false, le_trans, not-suc-le-zero, mul-le-mul_right, arith, lt-ltb, le-leb, eq-eqb}
use Rattle.std.proofs.Math.Decide.{ℕ_discrete}
use mathlib.Core.List.{List, [], ◌∷◌, Memᴰ}
use Rattle.tables.specs.laws.Basics.{or_left, or_right}
use Rattle.tables.specs.meaning.Device.{Device}
use Rattle.tables.specs.meaning.Placement.{stripe_of, stripe_length, unit_index, row_index, sector_of, drive_of, parity_drive}
use Rattle.tables.specs.laws.Placement.{stripe_at_lem, unit_at, row_at, address_sum}
use Rattle.tables.specs.laws.Greatest.{greatest_max}
use Rattle.tables.specs.declared.Geometry.{Geometry}
use Rattle.tables.specs.meaning.Geometry.{Valid, stripe_sectors, zone_sectors, parity_drive_of}
use Rattle.tables.specs.meaning.Drives.{present_but}
use Rattle.tables.specs.laws.Drives.{present_below}
use Rattle.logs.specs.meaning.Entry.{Header, label, counters, zone_reset, partial_parity, seal, closing, Entry}
use Rattle.logs.specs.laws.Walk.{Whole, whole_entries}
use Rattle.tables.specs.laws.Below.{all_all_below}
use Rattle.promise.specs.meaning.Ledger.{Ledger}
use Rattle.promise.proofs.invariant.Invariant.{Ghost, Here, LogsOk, CappedBelow, Live}
use Rattle.promise.proofs.look.LookReads.{parity_entries_lem}
use Rattle.promise.proofs.look.ServingEntries.{serving_mem}
use Rattle.promise.proofs.look.LookLive.{limit_least}

mem_or : (A : Header → Type 0) (B : Type 0) (xs : List Header) → ((a : Header) → Memᴰ a xs → A a ⊎ B) → ((a : Header) → Memᴰ a xs → A a) ⊎ B
mem_or A B [] f = inl (λ a m. absurd (none a m refl))
  where
    none : (a : Header) {ys : List Header} → Memᴰ a ys → ys ≡ [] → ⊥
    none a {ys = y ∷ ys} m q = let n : ◌≡◌ {A = ℕ} 0 1 = cc in omega arith
    none a {ys = []} m q = elim m [ ]
mem_or A B (x ∷ xs) f = go (f x (Memᴰ.head refl)) (mem_or A B xs (λ a m. f a (Memᴰ.tail m)))
  where
    go : A x ⊎ B → ((a : Header) → Memᴰ a xs → A a) ⊎ B → ((a : Header) → Memᴰ a (x ∷ xs) → A a) ⊎ B
    go (inr b) r = inr b
    go (inl p) (inr b) = inr b
    go (inl p) (inl h) = inl both
      where
        both : (a : Header) → Memᴰ a (x ∷ xs) → A a
        both a (Memᴰ.head q) = rw q p
        both a (Memᴰ.tail m) = h a m

all_or : (A : ℕ → Type 0) (B : Type 0) (n : ℕ) → ((k : ℕ) → k < n → A k ⊎ B) → ((k : ℕ) → k < n → A k) ⊎ B
all_or A B zero f = inl (λ k h. absurd (not-suc-le-zero h))
all_or A B (suc n) f = go (f n (omega arith)) (all_or A B n (λ k h. f k (omega arith)))
  where
    go : A n ⊎ B → ((k : ℕ) → k < n → A k) ⊎ B → ((k : ℕ) → k < suc n → A k) ⊎ B
    go (inr b) r = inr b
    go (inl p) (inr b) = inr b
    go (inl p) (inl h) = inl (λ k l. which k l (ℕ_discrete k n))
      where
        which : (k : ℕ) → k < suc n → Dec (k ≡ n) → A k
        which k l (yes e) = rw e p
        which k l (no e) = h k (omega arith)

module _ (g : Geometry) (ok : Valid g) (x : ℕ) (w : Device) (γ : Ghost) (lg : LogsOk g x w γ) (l : Ledger) (z : ℕ) (lv : Live g x w γ l z)
    (e : ℕ) (b : Here g x e) (p : Entry) (m : Memᴰ p (γ.parity e)) (wp : Whole g e true p) (f : ℕ) (hd : p.head ≡ partial_parity z zero f (γ.generation z)) (hf : f ≤ g.unit) where
  -- it ends at or below all seals, or past the cap
  pub alone_limit : (f ≤ seal_limit g (present_but g x) w z (γ.generation z)) ⊎ CappedBelow g x w γ z f
  alone_limit = go (all_or (λ d. Here g x d → (c : ℕ) → Memᴰ (seal z c (γ.generation z)) (γ.general d) → f ≤ c) (CappedBelow g x w γ z f) g.drives (λ d h. one d (present_but g x d) refl))
    where
      head : (d : ℕ) → Here g x d → (h : Header) → Memᴰ h (γ.general d) → ((c : ℕ) → h ≡ seal z c (γ.generation z) → f ≤ c) ⊎ CappedBelow g x w γ z f
      head d a (label y c) n = inl (λ c q. absurd (let n : ◌≡◌ {A = ℕ} 0 1 = cc in omega arith))
      head d a (counters cs) n = inl (λ c q. absurd (let n : ◌≡◌ {A = ℕ} 0 1 = cc in omega arith))
      head d a (zone_reset y c) n = inl (λ c q. absurd (let n : ◌≡◌ {A = ℕ} 0 1 = cc in omega arith))
      head d a (partial_parity y i j c) n = inl (λ c q. absurd (let n : ◌≡◌ {A = ℕ} 0 1 = cc in omega arith))
      head d a (seal y c i) n = which (ℕ_discrete y z) (ℕ_discrete i (γ.generation z))
        where
          which : Dec (y ≡ z) → Dec (i ≡ γ.generation z) → ((c2 : ℕ) → seal y c i ≡ seal z c2 (γ.generation z) → f ≤ c2) ⊎ CappedBelow g x w γ z f
          which (no q) r = inl (λ c2 v. absurd (q cc))
          which (yes q) (no r) = inl (λ c2 v. absurd (r cc))
          which (yes q) (yes r) = last (lv.alone d e a b c (subst (λ (t : Header). Memᴰ t (γ.general d)) (ap₂ (λ (y1 i1 : ℕ). seal y1 c i1) q r) n) p m wp f hd hf)
            where
              last : (f ≤ c) ⊎ CappedBelow g x w γ z f → ((c2 : ℕ) → seal y c i ≡ seal z c2 (γ.generation z) → f ≤ c2) ⊎ CappedBelow g x w γ z f
              last (inl h) = inl (λ c2 v. let t : c ≡ c2 = cc in rw (← t) h)
              last (inr h) = inr h
      head d a (closing kind gen) n = inl (λ c q. absurd (let n : ◌≡◌ {A = ℕ} 0 1 = cc in omega arith))

      one : (d : ℕ) (c : Bool) → present_but g x d ≡ c → (Here g x d → (c : ℕ) → Memᴰ (seal z c (γ.generation z)) (γ.general d) → f ≤ c) ⊎ CappedBelow g x w γ z f
      one d false a = inl (λ h. absurd (true≢false (sym h ∙ a)))
      one d true a = some (mem_or (λ h. (c : ℕ) → h ≡ seal z c (γ.generation z) → f ≤ c) (CappedBelow g x w γ z f) (γ.general d) (head d a))
        where
          some : ((h : Header) → Memᴰ h (γ.general d) → (c : ℕ) → h ≡ seal z c (γ.generation z) → f ≤ c) ⊎ CappedBelow g x w γ z f → (Here g x d → (c : ℕ) → Memᴰ (seal z c (γ.generation z)) (γ.general d) → f ≤ c) ⊎ CappedBelow g x w γ z f
          some (inl h) = inl (λ a2 c n. h (seal z c (γ.generation z)) n c refl)
          some (inr h) = inr h

      go : ((d : ℕ) → d < g.drives → Here g x d → (c : ℕ) → Memᴰ (seal z c (γ.generation z)) (γ.general d) → f ≤ c) ⊎ CappedBelow g x w γ z f → (f ≤ seal_limit g (present_but g x) w z (γ.generation z)) ⊎ CappedBelow g x w γ z f
      go (inr h) = inr h
      go (inl h) = inl (limit_least g ok x w γ lg z (γ.generation z) f (le_trans hf (unit_within_zone g ok)) (λ d a c n. h d (present_below g x d a) a c n))

  pub alone_fits : (zero < f) × (e ≡ parity_drive_of g z zero)
  alone_fits = let (q1, q2, q3) = partial_parity_fits g e z zero f (γ.generation z) (rw hd at (lawful_reads g e (γ.parity e) p (lg.parity_lawful e b) m)) in (q1, q3)

  -- then its sectors are known
  pub alone_known : f ≤ seal_limit g (present_but g x) w z (γ.generation z) → f ≤ known_prefix g.drives g.unit z (zone_view g (present_but g x) w z (γ.generation z)) (zone_sectors g)
  unfolding zone_view view_of
  alone_known h = greatest_max (known g.drives g.unit z (zone_view g (present_but g x) w z (γ.generation z))) (zone_sectors g) f (le_trans hf (unit_within_zone g ok)) (λ a q. one a q)
    where
      h_d : 1 < g.drives
      h_d = omega (arith, ok.drives_least)

      h_u : zero < g.unit
      h_u = omega (arith, ok.unit_least)

      pe : ParityEntry
      pe = record { stripe = zero; end = zero * stripe_sectors g + f; rows = λ r. get_or p.rows r [] }

      in_log : Memᴰ pe (serving_entries g z (γ.generation z) (seal_limit g (present_but g x) w z (γ.generation z)) (parity_entries g w e))
      in_log = rw (parity_entries_lem g ok x w γ lg e b) (serving_mem g z (γ.generation z) (seal_limit g (present_but g x) w z (γ.generation z)) (whole_entries g e true (γ.parity e)) p (mem_whole_entries g e (γ.parity e) p m wp) zero f hd (omega (arith, h)))

      has : (a : ℕ) → parity_of g.drives g.unit z a ≡ e → Memᴰ pe ((zone_view g (present_but g x) w z (γ.generation z)).entries (parity_of g.drives g.unit z a))
      has a pd = subst (λ (d : ℕ). Memᴰ pe (serving_entries g z (γ.generation z) (seal_limit g (present_but g x) w z (γ.generation z)) (parity_entries g w d))) (sym pd) in_log

      here : (a : ℕ) → parity_of g.drives g.unit z a ≡ e → (zone_view g (present_but g x) w z (γ.generation z)).present (parity_of g.drives g.unit z a) ≡ true
      here a pd = ap (present_but g x) pd ∙ b

      one : (a : ℕ) → a < f → known g.drives g.unit z (zone_view g (present_but g x) w z (γ.generation z)) a ≡ true
      one a q =
          let at0 : zero * stripe_length g.drives g.unit + (zero * g.unit + a) ≡ a = omega arith in
          let s0 : stripe_of g.drives g.unit a ≡ zero = ap (stripe_of g.drives g.unit) (sym at0) ∙ stripe_at_lem g.drives g.unit z h_d h_u zero zero a (omega (arith, ok.drives_least)) (omega arith) in
          let u0 : unit_index g.drives g.unit a ≡ zero = ap (unit_index g.drives g.unit) (sym at0) ∙ unit_at g.drives g.unit z h_d h_u zero zero a (omega (arith, ok.drives_least)) (omega arith) in
          let r0 : row_index g.drives g.unit a ≡ a = ap (row_index g.drives g.unit) (sym at0) ∙ row_at g.drives g.unit z h_d h_u zero zero a (omega (arith, ok.drives_least)) (omega arith) in
          let pd : parity_of g.drives g.unit z a ≡ e = ap (parity_drive g.drives z) s0 ∙ sym alone_fits.1 in
          let all = all_all_below (λ k. eqb k (unit_index g.drives g.unit a) || (leb (zero * stripe_sectors g + f) (row_address g.drives g.unit a k) || held_at (zone_view g (present_but g x) w z (γ.generation z)) (row_drive g.drives g.unit z a k) (sector_of g.drives g.unit a))) (g.drives - 1) (λ k hk. each a q s0 u0 r0 k (ℕ_discrete k zero)) in
          let sv : serves g.drives g.unit z (zone_view g (present_but g x) w z (γ.generation z)) a pe ≡ true = rw (eq-eqb zero (stripe_of g.drives g.unit a) (sym s0), lt-ltb a (zero * stripe_sectors g + f) (omega (arith, q)), all) refl in
          let fd : is_found (entry_for g.drives g.unit z (zone_view g (present_but g x) w z (γ.generation z)) a) ≡ true = find a pd sv in
          or_right (held_at (zone_view g (present_but g x) w z (γ.generation z)) (drive_of g.drives g.unit z a) (sector_of g.drives g.unit a)) _ (or_right (by_parity g.drives g.unit z (zone_view g (present_but g x) w z (γ.generation z)) a) _ fd)
        where
          each : (a : ℕ) → a < f → stripe_of g.drives g.unit a ≡ zero → unit_index g.drives g.unit a ≡ zero → row_index g.drives g.unit a ≡ a → (k : ℕ) → Dec (k ≡ zero)
              → eqb k (unit_index g.drives g.unit a) || (leb (zero * stripe_sectors g + f) (row_address g.drives g.unit a k) || held_at (zone_view g (present_but g x) w z (γ.generation z)) (row_drive g.drives g.unit z a k) (sector_of g.drives g.unit a)) ≡ true
          each a q s0 u0 r0 k (yes c) = or_left (eqb k (unit_index g.drives g.unit a)) _ (eq-eqb k (unit_index g.drives g.unit a) (c ∙ sym u0))
          each a q s0 u0 r0 k (no c) = or_right (eqb k (unit_index g.drives g.unit a)) _ (or_left (leb (zero * stripe_sectors g + f) (row_address g.drives g.unit a k)) _ (le-leb (zero * stripe_sectors g + f) (row_address g.drives g.unit a k) (far a s0 r0 k c)))
            where
              far : (a : ℕ) → stripe_of g.drives g.unit a ≡ zero → row_index g.drives g.unit a ≡ a → (k : ℕ) → k ≢ zero → zero * stripe_sectors g + f ≤ row_address g.drives g.unit a k
              far a s0 r0 k c = rw (s0, r0) (omega (arith, mul-le-mul_right g.unit (one_le k c), address_sum g.drives g.unit zero k a))
                where
                  one_le : (k : ℕ) → k ≢ zero → 1 ≤ k
                  one_le k c = omega arith

          find : (a : ℕ) → parity_of g.drives g.unit z a ≡ e → serves g.drives g.unit z (zone_view g (present_but g x) w z (γ.generation z)) a pe ≡ true → is_found (entry_for g.drives g.unit z (zone_view g (present_but g x) w z (γ.generation z)) a) ≡ true
          find a pd sv =
              let v : View = zone_view g (present_but g x) w z (γ.generation z) in
              let (y, k) = last_of_some (serves g.drives g.unit z v a) (v.entries (parity_of g.drives g.unit z a)) pe (has a pd) sv in
              rw (here a pd, k) refl
