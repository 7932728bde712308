-- A Live zone under a look: rule 2 gives its generation, its seals leave what is committed, and what rules 4 and 5 read tells the truth of
-- the sectors laid out. So the pointer reaches what is committed, and all that is shown is the content's.
use Rattle.tables.specs.laws.Lists.{mem_take, any_of_some, some_any_of, prefix_length}
use Rattle.tables.specs.meaning.Lists.{any_of}
use Rattle.volume.specs.meaning.Rules.{ParityEntry, known_prefix, known, view_of, general_heads, parity_entries, generation_of, reset_seen, seal_limit_below, seal_limit, serving_entries, zone_view, value_at, pointer_at, zone_at, zone_shown}
use Rattle.promise.proofs.content.Recover.{All, Truth, Lasts, known_value_is, known_below}
use Rattle.std.specs.Prelude.{◌≡◌, ◌⊎◌, Bool, ◌&&◌, length, take}
use Rattle.std.proofs.Math.Path.{refl, ap}
use Rattle.std.proofs.Common.{sym, ◌∙◌, le_refl, le_trans, le_of_eq, not-suc-le-zero, take_all}
use Rattle.std.proofs.Math.Logic.{inl, inr}
use Rattle.std.proofs.Math.Bool.{true, false}
use Prim.Native.Nat.{ℕ, zero, suc, ◌+◌, ◌-◌, ◌*◌, ◌≤◌, ◌<◌, min, zero-le}
use native.Mathlib.Omega.{arith}
use Rattle.std.proofs.Math.Decide.{ℕ_discrete, dec_lt}
use mathlib.Core.List.{List, [], Memᴰ}
use Rattle.std.proofs.Math.ListN.{get_or, get_or-append, get_or-eq_default}
use borrow.Author.Tests.{lt-ltb, eq-eqb}
use Rattle.tables.specs.laws.Basics.{and_split}
use Rattle.tables.specs.meaning.Basics.{pick}
use Rattle.tables.specs.laws.Below.{any_below_some, some_any_below, max_below_least, max_below_most}
use Rattle.tables.specs.meaning.Device.{Device}
use Rattle.tables.specs.meaning.Placement.{stripe_of}
use Rattle.tables.specs.laws.Greatest.{greatest_all, greatest_max}
use Rattle.tables.specs.declared.Geometry.{Geometry}
use Rattle.tables.specs.meaning.Geometry.{Valid, stripe_sectors, zone_sectors, data_zone}
use Rattle.logs.specs.meaning.Entry.{general_zone, parity_zone, zone_reset, partial_parity, seal, Entry}
use Rattle.tables.specs.meaning.Drives.{present_but}
use Rattle.tables.specs.laws.Drives.{present_below, present_other}
use Rattle.logs.specs.laws.Walk.{Whole, whole_entries}
use Rattle.logs.specs.meaning.Heads.{generation_in, is_reset, least_seal}
use Rattle.volume.specs.meaning.Content.{row_xor_below, at, parity_drive_at, fill_of}
use Rattle.volume.specs.laws.Content.{row_xor_none}
use Rattle.promise.proofs.content.Columns.{columns_tell_truth}
use Rattle.promise.specs.meaning.Ledger.{Ledger, FitsZone}
use Rattle.promise.proofs.invariant.Invariant.{Ghost, Here, LogsOk, Capped, CappedBelow, TrueRows, Counts, SurvivesLoss, durable_entries, Live, survives_still}
use Rattle.promise.proofs.look.LookReads.{general_heads_lem, parity_entries_lem}
use Rattle.logs.specs.laws.HeadLaws.{reset_is, least_seal_most, least_seal_below, least_seal_least}
use Rattle.promise.proofs.look.ServingEntries.{serving_all, serving_mem}
use Rattle.logs.specs.laws.LogLaws.{whole_entries_mem, mem_whole_entries, cut_whole}

-- some drive is present
pub some_present : (g : Geometry) → Valid g → (x : ℕ) → (d : ℕ) × Here g x d
some_present g ok x = go (ℕ_discrete zero x)
  where
    go : Dec (zero ≡ x) → (d : ℕ) × Here g x d
    go (yes e) = (1, present_other g x 1 (omega (arith, ok.drives_least)) (λ q. omega arith))
    go (no e) = (zero, present_other g x zero (omega (arith, ok.drives_least)) e)

module _ (g : Geometry) (ok : Valid g) (x : ℕ) (v : Device) (γ : Ghost) (lg : LogsOk g x v γ) where
  h_d : 1 < g.drives
  h_d = omega (arith, ok.drives_least)

  h_u : zero < g.unit
  h_u = omega (arith, ok.unit_least)

  -- ---- rule 2
  -- what all is written gives
  pub counts_now : (z : ℕ) (Q : ℕ → Type 0) → Counts g x v γ z Q → (d : ℕ) → Here g x d → Q (generation_in z (γ.general d))
  counts_now z Q h d a =
      let j = (v d general_zone).durable + length (γ.general d) in
      let e : take j (γ.general d) ≡ γ.general d = take_all j (γ.general d) (omega arith) in
      rw e at (h d a j (omega arith))

  -- of one drive
  pub count_now : (z d : ℕ) → Here g x d → (Q : ℕ → Type 0) → ((j : ℕ) → (v d general_zone).durable ≤ j → Q (generation_in z (take j (γ.general d)))) → Q (generation_in z (γ.general d))
  count_now z d a Q h =
      let j = (v d general_zone).durable + length (γ.general d) in
      let e : take j (γ.general d) ≡ γ.general d = take_all j (γ.general d) (omega arith) in
      rw e at (h j (omega arith))

  pub generation_most : (z m : ℕ) → ((d : ℕ) → Here g x d → generation_in z (γ.general d) ≤ m) → generation_of g (present_but g x) v z ≤ m
  unfolding generation_of
  generation_most z m h = max_below_most (λ d. pick (present_but g x d) (generation_in z (general_heads g v d)) zero) g.drives m (λ d hd. go d (present_but g x d) refl)
    where
      go : (d : ℕ) (b : Bool) → present_but g x d ≡ b → pick b (generation_in z (general_heads g v d)) zero ≤ m
      go d true a = rw (general_heads_lem g ok x v γ lg d a) (h d a)
      go d false a = zero-le

  pub generation_least : (z d : ℕ) → Here g x d → generation_in z (γ.general d) ≤ generation_of g (present_but g x) v z
  unfolding generation_of
  generation_least z d a =
      let h = max_below_least (λ d. pick (present_but g x d) (generation_in z (general_heads g v d)) zero) g.drives d (present_below g x d a) in
      rw (a, general_heads_lem g ok x v γ lg d a) at h

  -- ---- rule 3
  pub reset_seen_lem : (z n : ℕ) → reset_seen g (present_but g x) v z n ≡ true → (d : ℕ) × Here g x d × Memᴰ (zone_reset z n) (γ.general d)
  unfolding reset_seen
  reset_seen_lem z n e =
      let (d, hd, q) = any_below_some (λ d. present_but g x d && any_of (is_reset z n) (general_heads g v d)) g.drives e in
      let (a, p) = and_split (present_but g x d) (any_of (is_reset z n) (general_heads g v d)) q in
      let p' : any_of (is_reset z n) (γ.general d) ≡ true = rw (general_heads_lem g ok x v γ lg d a) at p in
      let (h, m, r) = any_of_some (is_reset z n) (γ.general d) p' in
      (d, a, rw (reset_is z n h r) at m)

  pub seen_reset : (z n d : ℕ) → Here g x d → Memᴰ (zone_reset z n) (γ.general d) → reset_seen g (present_but g x) v z n ≡ true
  unfolding reset_seen
  seen_reset z n d a m =
      let t : is_reset z n (zone_reset z n) ≡ true = rw (eq-eqb z z refl, eq-eqb n n refl) refl in
      some_any_below (λ d. present_but g x d && any_of (is_reset z n) (general_heads g v d)) g.drives d (present_below g x d a) (rw (a, general_heads_lem g ok x v γ lg d a) (some_any_of (is_reset z n) (γ.general d) (zone_reset z n) m t))

  -- ---- the least seal
  to_le : (z n d : ℕ) → seal_limit_below g (present_but g x) v z n d ≤ zone_sectors g
  to_le z n zero = le_refl (zone_sectors g)
  to_le z n (suc d) = go (present_but g x d) (to_le z n d)
    where
      go : (b : Bool) → seal_limit_below g (present_but g x) v z n d ≤ zone_sectors g → pick b (least_seal z n (seal_limit_below g (present_but g x) v z n d) (general_heads g v d)) (seal_limit_below g (present_but g x) v z n d) ≤ zone_sectors g
      go true ih = le_trans (least_seal_most z n (seal_limit_below g (present_but g x) v z n d) (general_heads g v d)) ih
      go false ih = ih

  to_seal : (z n k d : ℕ) → d < k → Here g x d → (c : ℕ) → Memᴰ (seal z c n) (γ.general d) → seal_limit_below g (present_but g x) v z n k ≤ c
  to_seal z n zero d h a c m = absurd (not-suc-le-zero h)
  to_seal z n (suc k) d h a c m = go (ℕ_discrete d k) (λ l. to_seal z n k d l a c m)
    where
      go : Dec (d ≡ k) → (d < k → seal_limit_below g (present_but g x) v z n k ≤ c) → seal_limit_below g (present_but g x) v z n (suc k) ≤ c
      go (yes e) ih = rw (← e, a) (least_seal_below z n (seal_limit_below g (present_but g x) v z n d) (general_heads g v d) c (rw (general_heads_lem g ok x v γ lg d a) m))
      go (no e) ih = more (present_but g x k) (ih (omega arith))
        where
          more : (b : Bool) → seal_limit_below g (present_but g x) v z n k ≤ c → pick b (least_seal z n (seal_limit_below g (present_but g x) v z n k) (general_heads g v k)) (seal_limit_below g (present_but g x) v z n k) ≤ c
          more true l = le_trans (least_seal_most z n (seal_limit_below g (present_but g x) v z n k) (general_heads g v k)) l
          more false l = l

  to_ge : (z n m k : ℕ) → m ≤ zone_sectors g → ((d : ℕ) → Here g x d → (c : ℕ) → Memᴰ (seal z c n) (γ.general d) → m ≤ c) → m ≤ seal_limit_below g (present_but g x) v z n k
  to_ge z n m zero h f = h
  to_ge z n m (suc k) h f = go (present_but g x k) refl (to_ge z n m k h f)
    where
      go : (b : Bool) → present_but g x k ≡ b → m ≤ seal_limit_below g (present_but g x) v z n k → m ≤ pick b (least_seal z n (seal_limit_below g (present_but g x) v z n k) (general_heads g v k)) (seal_limit_below g (present_but g x) v z n k)
      go true a ih = least_seal_least z n (seal_limit_below g (present_but g x) v z n k) m (general_heads g v k) ih (λ c q. f k a c (rw (general_heads_lem g ok x v γ lg k a) at q))
      go false a ih = ih

  pub limit_most : (z n : ℕ) → seal_limit g (present_but g x) v z n ≤ zone_sectors g
  unfolding seal_limit
  limit_most z n = to_le z n g.drives

  pub limit_seal : (z n d : ℕ) → Here g x d → (c : ℕ) → Memᴰ (seal z c n) (γ.general d) → seal_limit g (present_but g x) v z n ≤ c
  unfolding seal_limit
  limit_seal z n d a c m = to_seal z n g.drives d (present_below g x d a) a c m

  pub limit_least : (z n m : ℕ) → m ≤ zone_sectors g → ((d : ℕ) → Here g x d → (c : ℕ) → Memᴰ (seal z c n) (γ.general d) → m ≤ c) → m ≤ seal_limit g (present_but g x) v z n
  unfolding seal_limit
  limit_least z n m h f = to_ge z n m g.drives h f

  pub limit_capped : (z c : ℕ) → Capped g x v γ z c → seal_limit g (present_but g x) v z (γ.generation z) ≤ c
  limit_capped z c h = let (d, a) = some_present g ok x in let (b, q, m) = h d a in le_trans (limit_seal z (γ.generation z) d a b (mem_take (v d general_zone).durable (γ.general d) (seal z b (γ.generation z)) m)) q

  -- ---- what rules 4 and 5 read tells the truth
  abbrev Told : List (List ℕ) → ParityEntry → Type 0
  Told E e = (e.end ≤ length E) × ((r : ℕ) → r < g.unit → e.rows r ≡ row_xor_below g.drives g.unit (at E) e.stripe e.end r)

  tells_told : (E : List (List ℕ)) (s f : ℕ) (rs : List (List ℕ)) → length rs ≡ min f g.unit → TrueRows g E s f rs → Told E (record { stripe = s; end = s * stripe_sectors g + f; rows = λ r. get_or rs r [] })
  tells_told E s f rs w t = (t.within, λ r h. go r h (dec_lt r (length rs)))
    where
      go : (r : ℕ) → r < g.unit → Dec (r < length rs) → get_or rs r [] ≡ row_xor_below g.drives g.unit (at E) s (s * stripe_sectors g + f) r
      go r h (yes k) = t.rows_are r k
      go r h (no k) = get_or-eq_default rs [] (omega arith) ∙ sym (row_xor_none g.drives g.unit (at E) s (s * stripe_sectors g + f) r (omega arith))

  module _ (l : Ledger) (z : ℕ) (lv : Live g x v γ l z) where
    all_told : (d : ℕ) → Here g x d → All (Told (γ.laid z)) (serving_entries g z (γ.generation z) (seal_limit g (present_but g x) v z (γ.generation z)) (parity_entries g v d))
    all_told d a = rw (parity_entries_lem g ok x v γ lg d a) (serving_all g z (γ.generation z) (seal_limit g (present_but g x) v z (γ.generation z)) (Told (γ.laid z)) (whole_entries g d true (γ.parity d))
        (λ e m s f q h. let (k, w) = whole_entries_mem g d (γ.parity d) e m in go e s f q h w (lv.tells d a e k s f q)))
      where
        go : (e : Entry) (s f : ℕ) → e.head ≡ partial_parity z s f (γ.generation z) → s * stripe_sectors g + f ≤ seal_limit g (present_but g x) v z (γ.generation z) → Whole g d true e
            → TrueRows g (γ.laid z) s f e.rows ⊎ CappedBelow g x v γ z (s * stripe_sectors g + f) → Told (γ.laid z) (record { stripe = s; end = s * stripe_sectors g + f; rows = λ r. get_or e.rows r [] })
        go e s f q h w (inl t) = tells_told (γ.laid z) s f e.rows (rw q at w) t
        go e s f q h w (inr c) = absurd (omega (arith, limit_capped z c.0 c.1, c.2))

    pub live_truth : Truth g.drives g.unit z (at (γ.laid z)) (length (γ.laid z)) g.sector (zone_view g (present_but g x) v z (γ.generation z))
    unfolding zone_view row_xor_below
    live_truth = columns_tell_truth g.drives g.unit z h_d h_u (present_but g x) v (λ d. serving_entries g z (γ.generation z) (seal_limit g (present_but g x) v z (γ.generation z)) (parity_entries g v d)) (γ.laid z) g.sector
        lv.sizes (λ d hd a. lv.places d a) (λ d hd a. all_told d a)

    -- all below n is there, in what is written, and no seal is below n
    pub live_lasts : (n : ℕ) → SurvivesLoss g x z (γ.generation z) n (λ d. length (v d (data_zone z)).sectors) γ.parity → n ≤ seal_limit g (present_but g x) v z (γ.generation z)
        → Lasts g.drives g.unit z n (zone_view g (present_but g x) v z (γ.generation z))
    unfolding zone_view view_of
    live_lasts n s h = record {
      lower = λ d hd a. s.places d a;
      entry = λ i a. let (e, m, w, q) = s.entry (lt-ltb (stripe_of g.drives g.unit n * stripe_sectors g) n i) a in
          let p = parity_drive_at g z n in
          let t : stripe_of g.drives g.unit n * stripe_sectors g + fill_of g n ≡ n = omega arith in (
            record { stripe = stripe_of g.drives g.unit n; end = stripe_of g.drives g.unit n * stripe_sectors g + fill_of g n; rows = λ r. get_or e.rows r [] },
            rw (parity_entries_lem g ok x v γ lg p a) (serving_mem g z (γ.generation z) (seal_limit g (present_but g x) v z (γ.generation z)) (whole_entries g p true (γ.parity p)) e (mem_whole_entries g p (γ.parity p) e m w) (stripe_of g.drives g.unit n) (fill_of g n) q (rw t h)),
            refl,
            t,
          );
      lost = x;
      others = λ d hd n. present_other g x d hd n;
    }

    -- what is durable is written
    pub strong_written : (n m : ℕ) → z < g.zones → SurvivesLoss g x z n m (λ d. (v d (data_zone z)).durable) (durable_entries g v γ) → SurvivesLoss g x z n m (λ d. length (v d (data_zone z)).sectors) γ.parity
    strong_written n m hz s = survives_still g x x z n m (λ d a. a) (λ d a. lg.lasting d (data_zone z) a (omega arith)) (λ d a e w k. cut_whole g d (γ.parity d) (v d parity_zone).durable e (lg.parity_lawful d a) k w) s

    pub live_generation : generation_of g (present_but g x) v z ≡ γ.generation z
    live_generation =
        let (d, a) = some_present g ok x in
        let n = counts_now z (λ n. n ≡ γ.generation z) lv.counts in
        let up : generation_of g (present_but g x) v z ≤ γ.generation z = generation_most z (γ.generation z) (λ d a. le_of_eq (n d a)) in
        omega (arith, generation_least z d a, n d a)

    -- rule 5's count of known sectors
    abbrev knows : ℕ
    knows = known_prefix g.drives g.unit z (zone_view g (present_but g x) v z (γ.generation z)) (zone_sectors g)

    pub live_value : (a : ℕ) → known g.drives g.unit z (zone_view g (present_but g x) v z (γ.generation z)) a ≡ true → (value_at g (present_but g x) v z (γ.generation z) a ≡ at (γ.laid z) a) × (a < length (γ.laid z))
    unfolding value_at
    live_value a h = known_value_is g.drives g.unit z h_d h_u (at (γ.laid z)) (length (γ.laid z)) g.sector (zone_view g (present_but g x) v z (γ.generation z)) live_truth a h

    pub knows_value : (a : ℕ) → a < knows → (value_at g (present_but g x) v z (γ.generation z) a ≡ at (γ.laid z) a) × (a < length (γ.laid z))
    knows_value a h = live_value a (greatest_all (known g.drives g.unit z (zone_view g (present_but g x) v z (γ.generation z))) (zone_sectors g) a h)

    pub knows_most : knows ≤ length (γ.laid z)
    knows_most = go (dec_lt (length (γ.laid z)) knows)
      where
        go : Dec (length (γ.laid z) < knows) → knows ≤ length (γ.laid z)
        go (yes h) = absurd (omega (arith, (knows_value (length (γ.laid z)) h).1))
        go (no h) = omega arith

    pub knows_least : (n : ℕ) → SurvivesLoss g x z (γ.generation z) n (λ d. length (v d (data_zone z)).sectors) γ.parity → n ≤ seal_limit g (present_but g x) v z (γ.generation z) → n ≤ knows
    knows_least n s h =
        greatest_max (known g.drives g.unit z (zone_view g (present_but g x) v z (γ.generation z))) (zone_sectors g) n (le_trans h (limit_most z (γ.generation z)))
        (known_below g.drives g.unit z h_d h_u n (zone_view g (present_but g x) v z (γ.generation z)) (live_lasts n s h))

    pub content_is_laid : (a : ℕ) → a < length (l.content z) → at (γ.laid z) a ≡ at (l.content z) a
    content_is_laid a h = rw (← lv.front.is) (get_or-append (l.content z) lv.front.rest [] a h)

    pub limit_committed : l.committed z ≤ seal_limit g (present_but g x) v z (γ.generation z)
    limit_committed = limit_least z (γ.generation z) (l.committed z) (le_trans lv.committed_most (le_trans (prefix_length lv.front) lv.fits)) (λ d a c m. (lv.seals d a c m).0)

    -- the count of known sectors, bounded by the seals, is between the committed part and the content
    pub live_most : min knows (seal_limit g (present_but g x) v z (γ.generation z)) ≤ length (l.content z)
    live_most = go lv.capped
      where
        go : (length (l.content z) ≡ length (γ.laid z)) ⊎ Capped g x v γ z (length (l.content z)) → min knows (seal_limit g (present_but g x) v z (γ.generation z)) ≤ length (l.content z)
        go (inl e) = omega (arith, knows_most)
        go (inr c) = omega (arith, limit_capped z (length (l.content z)) c)

    pub live_least : z < g.zones → l.committed z ≤ min knows (seal_limit g (present_but g x) v z (γ.generation z))
    live_least hz = omega (arith, limit_committed, knows_least (l.committed z) (strong_written (γ.generation z) (l.committed z) hz lv.strong) limit_committed)

    -- the pointer shown, unless a reset is seen
    pub pointer_free : reset_seen g (present_but g x) v z (γ.generation z) ≡ false → pointer_at g (present_but g x) v z (γ.generation z) ≡ min knows (seal_limit g (present_but g x) v z (γ.generation z))
    unfolding pointer_at
    pointer_free e = rw e refl

    pub pointer_reset : reset_seen g (present_but g x) v z (γ.generation z) ≡ true → pointer_at g (present_but g x) v z (γ.generation z) ≡ zero
    unfolding pointer_at
    pointer_reset e = rw e refl

    pub live_at : zone_shown g (present_but g x) v z ≡ zone_at g (present_but g x) v z (γ.generation z)
    unfolding zone_shown
    live_at = ap (zone_at g (present_but g x) v z) live_generation

    -- A LIVE ZONE FITS
    pub live_fits : z < g.zones → FitsZone l z (zone_shown g (present_but g x) v z)
    unfolding zone_at
    live_fits hz = rw live_at (go (reset_seen g (present_but g x) v z (γ.generation z)) refl lv.no_reset)
      where
        go : (b : Bool) → reset_seen g (present_but g x) v z (γ.generation z) ≡ b → (l.resetting z ≡ true) ⊎ ((d : ℕ) → Here g x d → Memᴰ (zone_reset z (γ.generation z)) (γ.general d) → ⊥)
            → FitsZone l z (zone_at g (present_but g x) v z (γ.generation z))
        go true e (inl q) = inr (pointer_reset e, q)
        go true e (inr q) = absurd (let (d, a, m) = reset_seen_lem z (γ.generation z) e in q d a m)
        go false e q = inl (record {
          least = rw (pointer_free e) (live_least hz);
          most = rw (pointer_free e) live_most;
          values = λ a h. let k : a < min knows (seal_limit g (present_but g x) v z (γ.generation z)) = rw (← pointer_free e) h in (knows_value a (omega arith)).0 ∙ content_is_laid a (omega (arith, live_most));
        })
