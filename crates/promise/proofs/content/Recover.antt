-- Rules 4 and 5 are right, for every D, U and B. If what a look reads of a zone tells the truth of the sectors S (Truth), then what is known
-- has the value of S. If all that n sectors need is there but for one drive (Lasts), then all n are known. The heart of the claim: no
-- device, no calls, only rows and exclusive or.
use Rattle.tables.specs.laws.Xor.{rebuild_among}
use Rattle.tables.specs.meaning.Xor.{xor_bytes, xor_below}
use Rattle.volume.specs.meaning.Rules.{found, nothing, Found, entry_for, from_entry, others_xor, value_of, by_parity, held_at, is_found, known, last_of, parity_of, row_address, row_drive, serves, ParityEntry, View}
use Rattle.tables.specs.laws.Below.{all_all_below, all_below_all}
use Rattle.tables.specs.meaning.Below.{all_below}
use Rattle.tables.specs.laws.Basics.{or_right, and_split, or_cases, or_left, Tri, lt, eq, gt, tri}
use Rattle.tables.specs.meaning.Basics.{pick}
use Rattle.std.proofs.Math.Path.{◌≡◌, refl}
use Rattle.std.proofs.Common.{sym, ap, ◌∙◌, inl, inr, true≢false, le_trans}
use Rattle.std.specs.Prelude.{◌≢◌, ◌⊎◌, ◌&&◌, ◌||◌, leb}
use Rattle.std.proofs.Math.Bool.{Bool, true, false}
use Prim.Native.Nat.{ℕ, zero, ◌+◌, ◌-◌, ◌*◌, ◌≤◌, ◌<◌, zero-le}
use Rattle.std.proofs.Math.Nat.{le_of_eq}
use native.Mathlib.Omega.{arith}
use Rattle.std.proofs.Math.Decide.{ℕ_discrete, dec_lt}
use mathlib.Core.List.{List, [], ◌∷◌, Memᴰ}
use Rattle.std.proofs.Math.ListN.{length}
use Rattle.std.proofs.Math.Dec.{ltb, eqb}
use borrow.Author.Tests.{lt-ltb, le-ltb, ltb-true, eq-eqb, eqb-true, leb-true, le-leb}
use Rattle.tables.specs.meaning.Placement.{drive_of, sector_of, needed, stripe_of, unit_index, row_index, parity_drive, stripe_length, address}
use Rattle.tables.specs.laws.Placement.{address_drive, address_sector, address_own, drive_below, stripe_mono, stripe_start_lem, needed_iff, needed_parity, complete_lt, unit_index_below, row_index_below, parity_drive_below, unit_not_parity, unit_injective, sector_sum, drive_of_unit}

-- ---- a rebuilt member: the others are no longer than it
abbrev pub All : (ParityEntry → Type 0) → List ParityEntry → Type 0
All P [] = Unit {0}
All P (e ∷ es) = P e × All P es

pub last_of_is : (p : ParityEntry → Bool) (P : ParityEntry → Type 0) (es : List ParityEntry) (e : ParityEntry) → All P es → last_of p es ≡ found e → (p e ≡ true) × P e
last_of_is p P [] e h q = absurd (let z : ◌≡◌ {A = ℕ} 0 1 = cc in omega arith)
last_of_is p P (x ∷ es) e h q = go (last_of p es) refl (p x) refl (λ r. last_of_is p P es e h.1 r)
  where
    go : (o : Found) → last_of p es ≡ o → (b : Bool) → p x ≡ b → (last_of p es ≡ found e → (p e ≡ true) × P e) → (p e ≡ true) × P e
    go (found y) r b s ih = ih (r ∙ (rw (r, last_of) at q))
    go nothing r true s ih =
        let m : found x ≡ found e = rw (r, s) at q in
        let n : e ≡ x = cc in
        (rw n s, rw n h.0)
    go nothing r false s ih =
        let m : nothing ≡ found e = rw (r, s) at q in
        absurd (let z : ◌≡◌ {A = ℕ} 0 1 = cc in omega arith)

pub last_of_some : (p : ParityEntry → Bool) (es : List ParityEntry) (e : ParityEntry) → Memᴰ e es → p e ≡ true → (x : ParityEntry) × (last_of p es ≡ found x)
last_of_some p (x ∷ es) e (mathlib.Core.List.Memᴰ.head q) h = go (last_of p es) refl
  where
    go : (o : Found) → last_of p es ≡ o → (y : ParityEntry) × (last_of p (x ∷ es) ≡ found y)
    go (found y) r = (y, rw r refl)
    go nothing r = (x, rw (r, ← q, h) refl)
last_of_some p (x ∷ es) e (mathlib.Core.List.Memᴰ.tail m) h =
    let (y, r) = last_of_some p es e m h in
    (y, rw r refl)
last_of_some p [] e x'' h = elim x'' [ ]

-- ---- a view that tells the truth of the sectors S 0 .. S (N - 1)
pub record Truth (D U z : ℕ) (S : ℕ → List ℕ) (N B : ℕ) (v : View) : Type 0 where
  pub size : (a : ℕ) → a < N → length (S a) ≡ B
  pub upper : (d : ℕ) → d < D → v.present d ≡ true → v.written d ≤ needed D U z N d
  pub data_is : (a : ℕ) → v.present (drive_of D U z a) ≡ true → sector_of D U a < v.written (drive_of D U z a) → v.sector_at (drive_of D U z a) (sector_of D U a) ≡ S a
  pub parity_is : (s r : ℕ) → r < U → v.present (parity_drive D z s) ≡ true → s * U + r < v.written (parity_drive D z s)
      → v.sector_at (parity_drive D z s) (s * U + r) ≡ xor_below (λ k. S (address D U s k r)) (D - 1)
  pub log_is : (d : ℕ) → d < D → v.present d ≡ true → All (λ e. (e.end ≤ N) × ((r : ℕ) → r < U → e.rows r ≡ xor_below (λ k. pick (ltb (address D U e.stripe k r) e.end) (S (address D U e.stripe k r)) []) (D - 1))) (v.entries d)

module _ (D U z : ℕ) (h_d : 1 < D) (h_u : zero < U) (S : ℕ → List ℕ) (N B : ℕ) (v : View) (t : Truth D U z S N B v) where
  -- a held row_drive of the row holds what it should
  held_data : (a : ℕ) → held_at v (drive_of D U z a) (sector_of D U a) ≡ true → (v.sector_at (drive_of D U z a) (sector_of D U a) ≡ S a) × (a < N)
  held_data a h =
      let (p, q) = and_split (v.present (drive_of D U z a)) (ltb (sector_of D U a) (v.written (drive_of D U z a))) h in
      let l = ltb-true (sector_of D U a) (v.written (drive_of D U z a)) q in
      (t.data_is a p l, (needed_iff D U z h_d h_u N a).0 (le_trans l (t.upper (drive_of D U z a) (drive_below D U z h_d h_u a) p)))

  held_mate : (a k : ℕ) → k + 1 < D → held_at v (row_drive D U z a k) (sector_of D U a) ≡ true
      → (v.sector_at (row_drive D U z a k) (sector_of D U a) ≡ S (row_address D U a k)) × (row_address D U a k < N)
  held_mate a k hk h =
      let e : drive_of D U z (row_address D U a k) ≡ row_drive D U z a k = address_drive D U z h_d h_u (stripe_of D U a) k (row_index D U a) hk (row_index_below D U z h_d h_u a) in
      let x : sector_of D U (row_address D U a k) ≡ sector_of D U a = address_sector D U z h_d h_u (stripe_of D U a) k (row_index D U a) hk (row_index_below D U z h_d h_u a) ∙ sym (sector_sum D U a) in
      rw (← e, ← x) (held_data (row_address D U a k) (rw (e, x) h))

  skip : (k i : ℕ) (b : Bool) → eqb k i || b ≡ true → k ≢ i → b ≡ true
  skip k i b h n = go (or_cases (eqb k i) b h)
    where
      go : (eqb k i ≡ true) ⊎ ((eqb k i ≡ false) × (b ≡ true)) → b ≡ true
      go (inl e) = absurd (n (eqb-true k i e))
      go (inr e) = e.1

  by_parity_lem : (a : ℕ) → by_parity D U z v a ≡ true → (xor_bytes (others_xor D U z v a) (v.sector_at (parity_of D U z a) (sector_of D U a)) ≡ S a) × (a < N)
  by_parity_lem a h =
      let s = stripe_of D U a in
      let r = row_index D U a in
      let i = unit_index D U a in
      let (p, q) = and_split (held_at v (parity_of D U z a) (sector_of D U a)) (all_below (λ k. eqb k (unit_index D U a) || held_at v (row_drive D U z a k) (sector_of D U a)) (D - 1)) h in
      let (p1, p2) = and_split (v.present (parity_of D U z a)) (ltb (sector_of D U a) (v.written (parity_of D U z a))) p in
      let x : sector_of D U a ≡ s * U + r = sector_sum D U a in
      let l : s * U + r < v.written (parity_drive D z s) = rw (← x) (ltb-true (sector_of D U a) (v.written (parity_of D U z a)) p2) in
      let c : s < stripe_of D U N = (needed_parity D U z h_d h_u N s r (row_index_below D U z h_d h_u a)).0 (le_trans l (t.upper (parity_drive D z s) (parity_drive_below D U z h_d h_u s) p1)) in
      let below : (k : ℕ) → k < D - 1 → row_address D U a k < N = λ k hk. complete_lt D U z h_d h_u N s k r c (omega arith) (row_index_below D U z h_d h_u a) in
      let ui : i < D - 1 = omega (arith, unit_index_below D U z h_d h_u a) in (
        rebuild_among (λ k. S (row_address D U a k)) (λ k. v.sector_at (row_drive D U z a k) (sector_of D U a)) (D - 1) i (v.sector_at (parity_of D U z a) (sector_of D U a)) ui
            (λ k hk n. (held_mate a k (omega arith) (skip k i (held_at v (row_drive D U z a k) (sector_of D U a)) (all_below_all (λ k. eqb k (unit_index D U a) || held_at v (row_drive D U z a k) (sector_of D U a)) (D - 1) k q hk) n)).0)
            (λ k hk. le_of_eq (t.size (row_address D U a k) (below k hk) ∙ sym (t.size (row_address D U a i) (below i ui))))
            (rw x (t.parity_is s r (row_index_below D U z h_d h_u a) p1 l))
            ∙ ap S (address_own D U z h_d h_u a),
        rw (address_own D U z h_d h_u a) at (below i ui),
      )

  Tells : ParityEntry → Type 0
  Tells e = (e.end ≤ N) × ((r : ℕ) → r < U → e.rows r ≡ xor_below (λ k. pick (ltb (address D U e.stripe k r) e.end) (S (address D U e.stripe k r)) []) (D - 1))

  cut_row : ℕ → ℕ → ℕ → List ℕ
  cut_row a end k = pick (ltb (row_address D U a k) end) (S (row_address D U a k)) []

  row_short : (a end k : ℕ) → end ≤ N → length (cut_row a end k) ≤ B
  unfolding cut_row
  row_short a end k h = go (ltb (row_address D U a k) end) refl
    where
      go : (b : Bool) → ltb (row_address D U a k) end ≡ b → length (pick b (S (row_address D U a k)) []) ≤ B
      go true e = le_of_eq (t.size (row_address D U a k) (omega (arith, ltb-true (row_address D U a k) end e)))
      go false e = zero-le

  same_row : (a : ℕ) (e : ParityEntry) (k : ℕ) → k < D - 1 → leb e.end (row_address D U a k) || held_at v (row_drive D U z a k) (sector_of D U a) ≡ true
      → pick (ltb (row_address D U a k) e.end) (v.sector_at (row_drive D U z a k) (sector_of D U a)) [] ≡ cut_row a e.end k
  unfolding cut_row
  same_row a e k hk g = go (or_cases (leb e.end (row_address D U a k)) (held_at v (row_drive D U z a k) (sector_of D U a)) g)
    where
      go : (leb e.end (row_address D U a k) ≡ true) ⊎ ((leb e.end (row_address D U a k) ≡ false) × (held_at v (row_drive D U z a k) (sector_of D U a) ≡ true))
          → pick (ltb (row_address D U a k) e.end) (v.sector_at (row_drive D U z a k) (sector_of D U a)) [] ≡ pick (ltb (row_address D U a k) e.end) (S (row_address D U a k)) []
      go (inl q) = rw (le-ltb (row_address D U a k) e.end (leb-true e.end (row_address D U a k) q)) refl
      go (inr q) = rw (held_mate a k (omega arith) q.1).0 refl

  by_entry_lem : (a : ℕ) (e : ParityEntry) → serves D U z v a e ≡ true → Tells e → (from_entry D U z v a (found e) ≡ S a) × (a < N)
  unfolding Tells cut_row
  by_entry_lem a e h w =
      let i = unit_index D U a in
      let x = sector_of D U a in
      let test : ℕ → Bool = λ k. eqb k i || (leb e.end (row_address D U a k) || held_at v (row_drive D U z a k) x) in
      let (p, q) = and_split (eqb e.stripe (stripe_of D U a) && ltb a e.end) (all_below (λ k. eqb k (unit_index D U a) || (leb e.end (row_address D U a k) || held_at v (row_drive D U z a k) (sector_of D U a))) (D - 1)) h in
      let (p1, p2) = and_split (eqb e.stripe (stripe_of D U a)) (ltb a e.end) p in
      let es : e.stripe ≡ stripe_of D U a = eqb-true e.stripe (stripe_of D U a) p1 in
      let l : a < e.end = ltb-true a e.end p2 in
      let ui : i < D - 1 = omega (arith, unit_index_below D U z h_d h_u a) in
      let me : cut_row a e.end i ≡ S a = rw (address_own D U z h_d h_u a) (rw p2 refl) in (
        rebuild_among (cut_row a e.end) (λ k. pick (ltb (row_address D U a k) e.end) (v.sector_at (row_drive D U z a k) x) []) (D - 1) i (e.rows (row_index D U a)) ui
            (λ k hk n. same_row a e k hk (skip k i (leb e.end (row_address D U a k) || held_at v (row_drive D U z a k) x) (all_below_all test (D - 1) k q hk) n))
            (λ k hk. rw (me, t.size a (omega arith)) (row_short a e.end k w.0))
            (rw (w.1 (row_index D U a) (row_index_below D U z h_d h_u a), es) refl)
            ∙ me,
        omega arith,
      )

  -- rule 4 is right: what is known has the value of S
  pub known_value_is : (a : ℕ) → known D U z v a ≡ true → (value_of D U z v a ≡ S a) × (a < N)
  known_value_is a h = go (held_at v (drive_of D U z a) (sector_of D U a)) refl (by_parity D U z v a) refl (entry_for D U z v a) refl (v.present (parity_of D U z a)) refl
    where
      go : (b : Bool) → held_at v (drive_of D U z a) (sector_of D U a) ≡ b → (c : Bool) → by_parity D U z v a ≡ c → (f : Found) → entry_for D U z v a ≡ f
          → (g : Bool) → v.present (parity_of D U z a) ≡ g → (value_of D U z v a ≡ S a) × (a < N)
      go true p c q f e g r = rw p (held_data a p)
      go false p true q f e g r = rw (p, q) (by_parity_lem a q)
      go false p false q (found x) e true r =
          let (k, w) = last_of_is (serves D U z v a) Tells (v.entries (parity_of D U z a)) x (unfold Tells in t.log_is (parity_of D U z a) (parity_drive_below D U z h_d h_u (stripe_of D U a)) r) (rw r at e) in
          rw (p, q, e) (by_entry_lem a x k w)
      go false p false q (found x) e false r =
          let m : nothing ≡ found x = rw r at e in
          absurd (let n : ◌≡◌ {A = ℕ} 0 1 = cc in omega arith)
      go false p false q nothing e g r =
          let m : false ≡ true = rw (p, q, e) at h in
          absurd (true≢false (sym m))

-- ---- what must last for m sectors
pub record Lasts (D U z m : ℕ) (v : View) : Type 0 where
  pub lower : (d : ℕ) → d < D → v.present d ≡ true → needed D U z m d ≤ v.written d
  pub entry : stripe_of D U m * stripe_length D U < m → v.present (parity_drive D z (stripe_of D U m)) ≡ true
      → (e : ParityEntry) × Memᴰ e (v.entries (parity_drive D z (stripe_of D U m))) × (e.stripe ≡ stripe_of D U m) × (e.end ≡ m)
  pub lost : ℕ
  pub others : (d : ℕ) → d < D → d ≢ lost → v.present d ≡ true

module _ (D U z : ℕ) (h_d : 1 < D) (h_u : zero < U) (m : ℕ) (v : View) (w : Lasts D U z m v) where
  held_below : (a : ℕ) → a < m → v.present (drive_of D U z a) ≡ true → held_at v (drive_of D U z a) (sector_of D U a) ≡ true
  held_below a h p =
      rw (p, lt-ltb (sector_of D U a) (v.written (drive_of D U z a)) (le_trans ((needed_iff D U z h_d h_u m a).1 h) (w.lower (drive_of D U z a) (drive_below D U z h_d h_u a) p))) refl

  -- where a's drive is lost, every other drive is there
  module _ (a : ℕ) (h : a < m) (gone : v.present (drive_of D U z a) ≡ false) where
    rest_here : (d : ℕ) → d < D → d ≢ drive_of D U z a → v.present d ≡ true
    rest_here d hd n = w.others d hd (λ e. absurd (n (e ∙ sym (is_lost_lem (ℕ_discrete (drive_of D U z a) w.lost)))))
      where
        is_lost_lem : Dec (drive_of D U z a ≡ w.lost) → drive_of D U z a ≡ w.lost
        is_lost_lem (yes q) = q
        is_lost_lem (no q) = absurd (true≢false (sym (w.others (drive_of D U z a) (drive_below D U z h_d h_u a) q) ∙ gone))

    drive_is : drive_of D U z a ≡ row_drive D U z a (unit_index D U a)
    drive_is = drive_of_unit D U z a

    parity_here : v.present (parity_of D U z a) ≡ true
    parity_here = rest_here (parity_of D U z a) (parity_drive_below D U z h_d h_u (stripe_of D U a)) (λ e. unit_not_parity D (parity_of D U z a) (parity_drive_below D U z h_d h_u (stripe_of D U a)) (unit_index D U a) (unit_index_below D U z h_d h_u a) (sym drive_is ∙ sym e))

    mate_held : (k : ℕ) → k < D - 1 → k ≢ unit_index D U a → row_address D U a k < m → held_at v (row_drive D U z a k) (sector_of D U a) ≡ true
    mate_held k hk n l =
        let e : drive_of D U z (row_address D U a k) ≡ row_drive D U z a k = address_drive D U z h_d h_u (stripe_of D U a) k (row_index D U a) (omega arith) (row_index_below D U z h_d h_u a) in
        let x : sector_of D U (row_address D U a k) ≡ sector_of D U a = address_sector D U z h_d h_u (stripe_of D U a) k (row_index D U a) (omega arith) (row_index_below D U z h_d h_u a) ∙ sym (sector_sum D U a) in
        let p : v.present (drive_of D U z (row_address D U a k)) ≡ true =
        rest_here (drive_of D U z (row_address D U a k)) (drive_below D U z h_d h_u (row_address D U a k)) (λ q. n (unit_injective D (parity_of D U z a) (parity_drive_below D U z h_d h_u (stripe_of D U a)) k (unit_index D U a) (omega arith) (omega (arith, unit_index_below D U z h_d h_u a)) (sym e ∙ q ∙ drive_is))) in
        rw (← e, ← x) (held_below (row_address D U a k) l p)

    done_stripe : stripe_of D U a < stripe_of D U m → by_parity D U z v a ≡ true
    done_stripe c =
        let x : sector_of D U a ≡ stripe_of D U a * U + row_index D U a = sector_sum D U a in
        let q : held_at v (parity_of D U z a) (sector_of D U a) ≡ true =
        rw (parity_here, x, lt-ltb (stripe_of D U a * U + row_index D U a) (v.written (parity_of D U z a)) (le_trans ((needed_parity D U z h_d h_u m (stripe_of D U a) (row_index D U a) (row_index_below D U z h_d h_u a)).1 c) (w.lower (parity_of D U z a) (parity_drive_below D U z h_d h_u (stripe_of D U a)) parity_here))) refl in
        let r = all_all_below (λ k. eqb k (unit_index D U a) || held_at v (row_drive D U z a k) (sector_of D U a)) (D - 1) (λ k hk. each k hk (ℕ_discrete k (unit_index D U a))) in
        rw (q, r) refl
      where
        each : (k : ℕ) → k < D - 1 → Dec (k ≡ unit_index D U a) → eqb k (unit_index D U a) || held_at v (row_drive D U z a k) (sector_of D U a) ≡ true
        each k hk (yes e) = or_left (eqb k (unit_index D U a)) (held_at v (row_drive D U z a k) (sector_of D U a)) (eq-eqb k (unit_index D U a) e)
        each k hk (no n) = or_right (eqb k (unit_index D U a)) (held_at v (row_drive D U z a k) (sector_of D U a)) (mate_held k hk n (complete_lt D U z h_d h_u m (stripe_of D U a) k (row_index D U a) c (omega arith) (row_index_below D U z h_d h_u a)))

    open_stripe : stripe_of D U a ≡ stripe_of D U m → is_found (entry_for D U z v a) ≡ true
    open_stripe c =
        let (e, i, s, n) = w.entry (stripe_start_lem D U z h_d h_u a m h c) (rw (← c) parity_here) in
        let i' : Memᴰ e (v.entries (parity_of D U z a)) = rw c i in
        let s' : e.stripe ≡ stripe_of D U a = s ∙ sym c in
        let all = all_all_below (λ k. eqb k (unit_index D U a) || (leb e.end (row_address D U a k) || held_at v (row_drive D U z a k) (sector_of D U a))) (D - 1) (λ k hk. each e n k hk (ℕ_discrete k (unit_index D U a)) (dec_lt (row_address D U a k) m)) in
        let l : a < e.end = rw n h in
        let ok : serves D U z v a e ≡ true = rw (eq-eqb e.stripe (stripe_of D U a) s', lt-ltb a e.end l, all) refl in
        let (y, f) = last_of_some (serves D U z v a) (v.entries (parity_of D U z a)) e i' ok in
        rw (parity_here, f) refl
      where
        each : (e : ParityEntry) → e.end ≡ m → (k : ℕ) → k < D - 1 → Dec (k ≡ unit_index D U a) → Dec (row_address D U a k < m)
            → eqb k (unit_index D U a) || (leb e.end (row_address D U a k) || held_at v (row_drive D U z a k) (sector_of D U a)) ≡ true
        each e n k hk (yes q) l = or_left (eqb k (unit_index D U a)) (leb e.end (row_address D U a k) || held_at v (row_drive D U z a k) (sector_of D U a)) (eq-eqb k (unit_index D U a) q)
        each e n k hk (no q) (yes l) =
            or_right (eqb k (unit_index D U a)) (leb e.end (row_address D U a k) || held_at v (row_drive D U z a k) (sector_of D U a))
            (or_right (leb e.end (row_address D U a k)) (held_at v (row_drive D U z a k) (sector_of D U a)) (mate_held k hk q l))
        each e n k hk (no q) (no l) =
            or_right (eqb k (unit_index D U a)) (leb e.end (row_address D U a k) || held_at v (row_drive D U z a k) (sector_of D U a))
            (or_left (leb e.end (row_address D U a k)) (held_at v (row_drive D U z a k) (sector_of D U a)) (le-leb e.end (row_address D U a k) (omega arith)))

  -- every sector below m is known, whichever one drive is lost
  pub known_below : (a : ℕ) → a < m → known D U z v a ≡ true
  known_below a h = go (v.present (drive_of D U z a)) refl (tri (stripe_of D U a) (stripe_of D U m))
    where
      held : Bool
      held = held_at v (drive_of D U z a) (sector_of D U a)

      go : (b : Bool) → v.present (drive_of D U z a) ≡ b → Tri (stripe_of D U a) (stripe_of D U m) → known D U z v a ≡ true
      go true p c = or_left held (by_parity D U z v a || is_found (entry_for D U z v a)) (held_below a h p)
      go false p (lt c) = or_right held (by_parity D U z v a || is_found (entry_for D U z v a)) (or_left (by_parity D U z v a) (is_found (entry_for D U z v a)) (done_stripe a h p c))
      go false p (eq c) = or_right held (by_parity D U z v a || is_found (entry_for D U z v a)) (or_right (by_parity D U z v a) (is_found (entry_for D U z v a)) (open_stripe a h p c))
      go false p (gt c) = absurd (stripe_mono D U z h_d h_u a m h c)
