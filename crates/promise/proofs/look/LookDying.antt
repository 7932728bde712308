-- A Dying zone under a look is shown empty, for each reason it may have: its reset entry is seen, whichever drive is lost; or no data is
-- left and no entry makes sector 0 known; or its generation has passed, and no entry is current.
use Rattle.volume.specs.meaning.Rules.{ParityEntry, View, Found, found, nothing, last_of, known_prefix, known, held_at, by_parity, serves, entry_for, is_found, parity_of, row_drive, row_address, view_of, general_heads, parity_entries, generation_of, reset_seen, seal_limit, serving_entries, zone_view, pointer_at, zone_at, zone_shown}
use Rattle.promise.proofs.content.Recover.{All, last_of_is}
use Rattle.std.specs.Prelude.{◌≡◌, ◌≢◌, ◌⊎◌, Bool, ◌&&◌, ◌||◌, not, length, take, leb, eqb}
use Rattle.std.proofs.Math.Path.{refl, ap}
use Rattle.std.proofs.Common.{sym, ◌∙◌, true≢false, le_refl, le_trans, not-suc-le-zero, arith, le-ltb, eqb-true, leb-true, take_all}
use Rattle.std.proofs.Math.Logic.{inl, inr}
use Rattle.std.proofs.Math.Bool.{true, false}
use Prim.Native.Nat.{ℕ, zero, ◌+◌, ◌-◌, ◌*◌, ◌≤◌, ◌<◌, min, zero-le}
use Rattle.std.proofs.Math.Decide.{ℕ_discrete, dec_lt}
use mathlib.Core.List.{[], Memᴰ}
use Rattle.std.proofs.Math.Dec.{ltb}
use Rattle.tables.specs.laws.Basics.{and_split, or_cases}
use Rattle.tables.specs.meaning.Basics.{pick}
use Rattle.tables.specs.meaning.Below.{max_below, all_below}
use Rattle.tables.specs.laws.Below.{max_below_is, all_below_all}
use Rattle.tables.specs.meaning.Device.{Device}
use Rattle.tables.specs.meaning.Placement.{stripe_of, unit_index, sector_of, drive_of}
use Rattle.tables.specs.laws.Placement.{parity_drive_below, unit_not_parity, unit_drive_below, drive_below, address_sum, stripe_zero, unit_zero, row_zero}
use Rattle.tables.specs.laws.Greatest.{greatest_is}
use Rattle.tables.specs.declared.Geometry.{Geometry}
use Rattle.tables.specs.meaning.Geometry.{Valid, stripe_sectors, zone_sectors, parity_drive_of, first_drive_of, data_zone}
use Rattle.logs.specs.meaning.Entry.{general_zone, worn_generation, zone_reset, partial_parity, Entry}
use Rattle.tables.specs.meaning.Drives.{present_but}
use Rattle.tables.specs.laws.Drives.{present_other}
use Rattle.logs.specs.laws.Walk.{Whole, whole_entries}
use Rattle.logs.specs.meaning.Heads.{generation_in}
use Rattle.logs.specs.laws.Heads.{zone_gen}
use Rattle.promise.specs.meaning.Ledger.{Ledger, FitsZone}
use Rattle.promise.proofs.invariant.Invariant.{Ghost, Here, LogsOk, CappedBelow, Why, logged, bare, passed, Dying, Logged, LoggedIn, reset_lasts, counts_past, Spent, SealLasts, SealSpent, said}
use Rattle.tables.specs.laws.Lists.{mem_take}
use Rattle.promise.proofs.look.LookReads.{general_heads_lem, parity_entries_lem}
use Rattle.promise.proofs.look.ServingEntries.{serving_all}
use Rattle.logs.specs.laws.LogLaws.{whole_entries_mem}
use Rattle.promise.proofs.look.LookLive.{some_present, counts_now, count_now, generation_least, seen_reset, limit_capped}

-- ---- a view that holds nothing, whose entries do not make sector 0 known alone
pub record NothingKnown (g : Geometry) (z : ℕ) (w : View) : Type 0 where
  pub nothing_held : (d y : ℕ) → d < g.drives → held_at w d y ≡ false
  pub none_alone : w.present (parity_drive_of g z 0) ≡ true → All (λ e. (e.stripe ≢ zero) ⊎ (g.unit < e.end)) (w.entries (parity_drive_of g z 0))

module _ (g : Geometry) (ok : Valid g) (z : ℕ) (w : View) (b : NothingKnown g z w) where
  h_d : 1 < g.drives
  h_d = omega (arith, ok.drives_least)

  h_u : zero < g.unit
  h_u = omega (arith, ok.unit_least)

  -- the second sector of row 0 has address U
  second : row_address g.drives g.unit zero 1 ≡ g.unit
  second = rw (stripe_zero g.drives g.unit, row_zero g.drives g.unit) (omega (arith, address_sum g.drives g.unit zero 1 zero))

  not_held_lem : held_at w (drive_of g.drives g.unit z zero) (sector_of g.drives g.unit zero) ≡ false
  not_held_lem = b.nothing_held (drive_of g.drives g.unit z zero) (sector_of g.drives g.unit zero) (drive_below g.drives g.unit z h_d h_u zero)

  not_parity : by_parity g.drives g.unit z w zero ≡ false
  not_parity = rw (b.nothing_held (parity_of g.drives g.unit z zero) (sector_of g.drives g.unit zero) (parity_drive_below g.drives g.unit z h_d h_u (stripe_of g.drives g.unit zero))) refl

  not_serves : (e : ParityEntry) → (e.stripe ≢ zero) ⊎ (g.unit < e.end) → serves g.drives g.unit z w zero e ≡ true → ⊥
  not_serves e h s =
      let i = unit_index g.drives g.unit zero in
      let y = sector_of g.drives g.unit zero in
      let test : ℕ → Bool = λ k. eqb k i || (leb e.end (row_address g.drives g.unit zero k) || held_at w (row_drive g.drives g.unit z zero k) y) in
      let (p, q) = and_split (eqb e.stripe (stripe_of g.drives g.unit zero) && ltb zero e.end) (all_below test (g.drives - 1)) s in
      let (p1, p2) = and_split (eqb e.stripe (stripe_of g.drives g.unit zero)) (ltb zero e.end) p in
      go h (eqb-true e.stripe (stripe_of g.drives g.unit zero) p1 ∙ stripe_zero g.drives g.unit) (all_below_all test (g.drives - 1) 1 q (omega (arith, ok.drives_least)))
    where
      go : (e.stripe ≢ zero) ⊎ (g.unit < e.end) → e.stripe ≡ zero
          → eqb 1 (unit_index g.drives g.unit zero) || (leb e.end (row_address g.drives g.unit zero 1) || held_at w (row_drive g.drives g.unit z zero 1) (sector_of g.drives g.unit zero)) ≡ true → ⊥
      go (inl n) q t = n q
      go (inr n) q t =
          let c : held_at w (row_drive g.drives g.unit z zero 1) (sector_of g.drives g.unit zero) ≡ false =
          b.nothing_held (row_drive g.drives g.unit z zero 1) (sector_of g.drives g.unit zero) (unit_drive_below g.drives (parity_of g.drives g.unit z zero) (parity_drive_below g.drives g.unit z h_d h_u (stripe_of g.drives g.unit zero)) 1) in
          let u : leb e.end g.unit || false ≡ true = rw (unit_zero g.drives g.unit, second, c) at t in
          big (or_cases (leb e.end g.unit) false u)
        where
          big : (leb e.end g.unit ≡ true) ⊎ ((leb e.end g.unit ≡ false) × (false ≡ true)) → ⊥
          big (inl m) = omega (arith, leb-true e.end g.unit m)
          big (inr m) = true≢false (sym m.1)

  not_found : is_found (entry_for g.drives g.unit z w zero) ≡ false
  not_found = go (w.present (parity_of g.drives g.unit z zero)) refl (entry_for g.drives g.unit z w zero) refl
    where
      p : parity_of g.drives g.unit z zero ≡ parity_drive_of g z 0
      p = rw (stripe_zero g.drives g.unit) refl

      go : (h : Bool) → w.present (parity_of g.drives g.unit z zero) ≡ h → (f : Found) → entry_for g.drives g.unit z w zero ≡ f → is_found f ≡ false
      go h a nothing e = refl
      go true a (found x) e =
          let q : last_of (serves g.drives g.unit z w zero) (w.entries (parity_of g.drives g.unit z zero)) ≡ found x = rw a at e in
          let all : All (λ e. (e.stripe ≢ zero) ⊎ (g.unit < e.end)) (w.entries (parity_of g.drives g.unit z zero)) = rw p (b.none_alone (rw (← p) a)) in
          let (s, k) = last_of_is (serves g.drives g.unit z w zero) (λ e. (e.stripe ≢ zero) ⊎ (g.unit < e.end)) (w.entries (parity_of g.drives g.unit z zero)) x all q in
          absurd (not_serves x k s)
      go false a (found x) e =
          let q : nothing ≡ found x = rw a at e in
          absurd (let n : ◌≡◌ {A = ℕ} 0 1 = cc in omega arith)

  -- sector 0 is not known
  pub nothing_known : known g.drives g.unit z w zero ≡ false
  nothing_known = rw (not_held_lem, not_parity, not_found) refl

  pub nothing_pointer : (n : ℕ) → known_prefix g.drives g.unit z w n ≡ zero
  nothing_pointer n = greatest_is (known g.drives g.unit z w) n zero zero-le (λ k l. absurd (not-suc-le-zero l)) (λ _. nothing_known)

module _ (g : Geometry) (ok : Valid g) (x : ℕ) (v : Device) (γ : Ghost) (lg : LogsOk g x v γ) where
  -- no data, and under generation n no entry that makes sector 0 known alone: the pointer is 0
  pub nothing_shown : (z n : ℕ) → ((d : ℕ) → Here g x d → (v d (data_zone z)).sectors ≡ [])
      → ((d : ℕ) → Here g x d → (p : Entry) → Memᴰ p (γ.parity d) → Whole g d true p → (f : ℕ) → p.head ≡ partial_parity z zero f n → f ≤ seal_limit g (present_but g x) v z n → g.unit < f)
      → pointer_at g (present_but g x) v z n ≡ zero
  unfolding pointer_at
  nothing_shown z n none big = go (reset_seen g (present_but g x) v z n)
    where
      held_none : (d y : ℕ) → present_but g x d && ltb y (length (v d (data_zone z)).sectors) ≡ false
      held_none d y = rule (present_but g x d) refl
        where
          rule : (b : Bool) → present_but g x d ≡ b → b && ltb y (length (v d (data_zone z)).sectors) ≡ false
          rule true a = rw (none d a) (le-ltb y zero zero-le)
          rule false a = refl

      far : (d : ℕ) → Here g x d → All (λ e. (e.stripe ≢ zero) ⊎ (g.unit < e.end)) (serving_entries g z n (seal_limit g (present_but g x) v z n) (parity_entries g v d))
      far d a = rw (parity_entries_lem g ok x v γ lg d a) (serving_all g z n (seal_limit g (present_but g x) v z n) (λ e. (e.stripe ≢ zero) ⊎ (g.unit < e.end)) (whole_entries g d true (γ.parity d))
          (λ e m s f q h. let (k, w) = whole_entries_mem g d (γ.parity d) e m in one e s f q h k w (ℕ_discrete s zero)))
        where
          one : (e : Entry) (s f : ℕ) → e.head ≡ partial_parity z s f n → s * stripe_sectors g + f ≤ seal_limit g (present_but g x) v z n → Memᴰ e (γ.parity d) → Whole g d true e → Dec (s ≡ zero) → (s ≢ zero) ⊎ (g.unit < s * stripe_sectors g + f)
          one e s f q h k w (no t) = inl t
          one e s f q h k w (yes t) =
              let u : s * stripe_sectors g + f ≡ f = rw t (omega arith) in
              inr (rw u (big d a e k w f (rw t at q) (rw u at h)))

      blank : NothingKnown g z (zone_view g (present_but g x) v z n)
      blank = unfold zone_view view_of in record { nothing_held = λ d y hd. held_none d y; none_alone = λ a. far (parity_drive_of g z 0) a }

      go : (b : Bool) → pick b zero (min (known_prefix g.drives g.unit z (zone_view g (present_but g x) v z n) (zone_sectors g)) (seal_limit g (present_but g x) v z n)) ≡ zero
      go true = refl
      go false = rw (nothing_pointer g ok z (zone_view g (present_but g x) v z n) blank (zone_sectors g)) (omega arith)

  -- no drive's counters have passed the generation shown: what is spent is capped
  pub spent_capped : (z f : ℕ) → generation_of g (present_but g x) v z ≡ γ.generation z → Spent g x v γ z f → CappedBelow g x v γ z f
  spent_capped z f e (c, h, l) = (c, (λ d a. on d a (h d a)), l)
    where
      on : (d : ℕ) → Here g x d → SealSpent (said g v γ z) z (γ.generation z) c d → SealLasts (said g v γ z) z (γ.generation z) c d
      on d a (inl q) = q
      on d a (inr q) = absurd (let p = count_now g ok x v γ lg z d a (λ n. γ.generation z < n) q in let r = generation_least g ok x v γ lg z d a in omega (arith, p, r, e))

  -- a generation above 0 is that of some present drive
  pub generation_some : (z n : ℕ) → n < generation_of g (present_but g x) v z → (d : ℕ) × Here g x d × (generation_of g (present_but g x) v z ≡ generation_in z (γ.general d))
  unfolding generation_of
  generation_some z n h = go (max_below_is (λ d. pick (present_but g x d) (generation_in z (general_heads g v d)) zero) g.drives)
    where
      pickd : (d : ℕ) (b : Bool) → present_but g x d ≡ b → max_below (λ d. pick (present_but g x d) (generation_in z (general_heads g v d)) zero) g.drives ≡ pick b (generation_in z (general_heads g v d)) zero
          → (d : ℕ) × Here g x d × (max_below (λ d. pick (present_but g x d) (generation_in z (general_heads g v d)) zero) g.drives ≡ generation_in z (γ.general d))
      pickd d true a e = (d, a, e ∙ ap (generation_in z) (general_heads_lem g ok x v γ lg d a))
      pickd d false a e = absurd (omega (arith, h))

      go : (max_below (λ d. pick (present_but g x d) (generation_in z (general_heads g v d)) zero) g.drives ≡ zero) ⊎ ((k : ℕ) × (k < g.drives) × (max_below (λ d. pick (present_but g x d) (generation_in z (general_heads g v d)) zero) g.drives ≡ pick (present_but g x k) (generation_in z (general_heads g v k)) zero))
          → (d : ℕ) × Here g x d × (max_below (λ d. pick (present_but g x d) (generation_in z (general_heads g v d)) zero) g.drives ≡ generation_in z (γ.general d))
      go (inl e) = absurd (omega (arith, h))
      go (inr q) = let (k, l, e) = q in pickd k (present_but g x k) refl e

  pub reset_pointer : (z n : ℕ) → reset_seen g (present_but g x) v z n ≡ true → pointer_at g (present_but g x) v z n ≡ zero
  unfolding pointer_at
  reset_pointer z n e = rw e refl

  -- one of the two drives that log a reset is present
  pub reset_drive : (z : ℕ) → (d : ℕ) × Here g x d × ((d ≡ first_drive_of g z) ⊎ (d ≡ parity_drive_of g z 0))
  reset_drive z = go (ℕ_discrete (first_drive_of g z) x)
    where
      h_d : 1 < g.drives
      h_d = omega (arith, ok.drives_least)

      h_u : zero < g.unit
      h_u = omega (arith, ok.unit_least)

      hp : parity_drive_of g z 0 < g.drives
      hp = parity_drive_below g.drives g.unit z h_d h_u 0

      go : Dec (first_drive_of g z ≡ x) → (d : ℕ) × Here g x d × ((d ≡ first_drive_of g z) ⊎ (d ≡ parity_drive_of g z 0))
      go (yes e) = (parity_drive_of g z 0, present_other g x (parity_drive_of g z 0) hp (λ q. unit_not_parity g.drives (parity_drive_of g z 0) hp 0 (omega (arith, ok.drives_least)) (e ∙ sym q)), inr refl)
      go (no e) = (first_drive_of g z, present_other g x (first_drive_of g z) (unit_drive_below g.drives (parity_drive_of g z 0) hp 0) e, inl refl)

  module _ (l : Ledger) (z : ℕ) (dy : Dying g x v γ l z) where
    old_none : (n d : ℕ) → γ.generation z < n → Here g x d → (p : Entry) → Memᴰ p (γ.parity d) → (s f : ℕ) → p.head ≡ partial_parity z s f n → ⊥
    old_none n d h a p m s f q =
        let k : zone_gen p.head (λ y i. y ≡ z → i ≤ γ.generation z) = dy.entries.in_parity_lem d a p m in
        let j : z ≡ z → n ≤ γ.generation z = rw q at k in
        omega (arith, j refl)

    pub dying_least : γ.generation z ≤ generation_of g (present_but g x) v z
    dying_least =
        let (d, a) = some_present g ok x in
        le_trans (counts_now g ok x v γ lg z (λ n. (γ.generation z ≤ n) × (n ≤ worn_generation)) dy.counts d a).0 (generation_least g ok x v γ lg z d a)

    -- raised: no data, no entries
    pub dying_raised : γ.generation z < generation_of g (present_but g x) v z → ((d : ℕ) → Here g x d → (v d (data_zone z)).sectors ≡ [])
    dying_raised h e b =
        let (d, a, q) = generation_some z (γ.generation z) h in
        let j = (v d general_zone).durable + length (γ.general d) in
        let t : take j (γ.general d) ≡ γ.general d = take_all j (γ.general d) (omega arith) in
        let k : γ.generation z < generation_in z (γ.general d) = rw (← q) h in
        dy.raised d a j (omega arith) (rw t k) e b

    -- A DYING ZONE IS SHOWN EMPTY
    pub dying_pointer : pointer_at g (present_but g x) v z (generation_of g (present_but g x) v z) ≡ zero
    dying_pointer = go (dec_lt (γ.generation z) (generation_of g (present_but g x) v z))
      where
        same : (γ.generation z < generation_of g (present_but g x) v z → ⊥) → generation_of g (present_but g x) v z ≡ γ.generation z
        same h = low (dec_lt (γ.generation z) (generation_of g (present_but g x) v z))
          where
            low : Dec (γ.generation z < generation_of g (present_but g x) v z) → generation_of g (present_but g x) v z ≡ γ.generation z
            low (yes k) = absurd (h k)
            low (no k) = omega (arith, dying_least)

        by_why : Why g x v γ z → generation_of g (present_but g x) v z ≡ γ.generation z → pointer_at g (present_but g x) v z (γ.generation z) ≡ zero
        by_why (logged h) e =
            let (d, a, q) = reset_drive z in
            by_log d a (h d a q)
          where
            by_log : (d : ℕ) → Here g x d → Logged g v γ z d → pointer_at g (present_but g x) v z (γ.generation z) ≡ zero
            by_log d a (reset_lasts m) = reset_pointer z (γ.generation z) (seen_reset g ok x v γ lg z (γ.generation z) d a (mem_take (v d general_zone).durable (γ.general d) (zone_reset z (γ.generation z)) m))
            by_log d a (counts_past c) = absurd (omega (arith, count_now g ok x v γ lg z d a (λ n. γ.generation z < n) c, generation_least g ok x v γ lg z d a, e))
        by_why (bare h n) e = nothing_shown z (γ.generation z) h (λ d a p m w f q k. big f k (n d a p m w f q))
          where
            big : (f : ℕ) → f ≤ seal_limit g (present_but g x) v z (γ.generation z) → (g.unit < f) ⊎ Spent g x v γ z f → g.unit < f
            big f k (inl u) = u
            big f k (inr c) = let b = spent_capped z f e c in absurd (omega (arith, limit_capped g ok x v γ lg z b.0 b.1, b.2))
        by_why (passed h) e =
            let (d, a) = some_present g ok x in
            absurd (omega (arith, counts_now g ok x v γ lg z (λ n. γ.generation z < n) h d a, generation_least g ok x v γ lg z d a))

        go : Dec (γ.generation z < generation_of g (present_but g x) v z) → pointer_at g (present_but g x) v z (generation_of g (present_but g x) v z) ≡ zero
        go (yes h) = nothing_shown z (generation_of g (present_but g x) v z) (dying_raised h) (λ d a p m w f q k. absurd (old_none (generation_of g (present_but g x) v z) d h a p m zero f q))
        go (no h) = rw (same h) (by_why dy.why (same h))

    pub dying_fits : FitsZone l z (zone_shown g (present_but g x) v z)
    unfolding zone_shown zone_at
    dying_fits = go dy.idle
      where
        go : (l.committed z ≡ zero) ⊎ (l.resetting z ≡ true) → FitsZone l z (zone_shown g (present_but g x) v z)
        go (inl e) = inl (record { least = rw (dying_pointer, e) (le_refl zero); most = rw dying_pointer zero-le; values = λ a h. absurd (not-suc-le-zero (rw dying_pointer at h)) })
        go (inr e) = inr (dying_pointer, e)
