-- The look at a mount's start: each zone stays (shown open or sealed), is worn, or is to be emptied, and why; and from that the first stage,
-- before any step has stored.
use Rattle.tables.specs.laws.Lists.{length_zero_nil, any_of_false, prefix_refl, some_any_of, mem_take}
use Rattle.tables.specs.meaning.Lists.{any_of}
use Rattle.logs.specs.laws.HeadLaws.{not_past_within}
use Rattle.std.specs.Prelude.{◌≡◌, ◌≢◌, ◌⊎◌, Bool, ◌&&◌, ◌||◌}
use Rattle.std.proofs.Math.Path.{refl, ap}
use Rattle.std.proofs.Common.{sym, ◌∙◌, arith}
use Rattle.std.proofs.Math.Logic.{inl, inr}
use Rattle.std.proofs.Math.Bool.{true, false, not, true≢false}
use Prim.Native.Nat.{ℕ, zero, ◌+◌, ◌-◌, ◌*◌, ◌≤◌, ◌<◌, min}
use Rattle.std.proofs.Math.Decide.{ℕ_discrete, dec_lt}
use mathlib.Core.List.{List, [], ◌∷◌, Memᴰ}
use Rattle.std.proofs.Math.ListN.{length}
use Rattle.tables.specs.meaning.Device.{Device}
use Rattle.tables.specs.declared.Geometry.{Geometry}
use Rattle.tables.specs.meaning.Geometry.{Valid, stripe_sectors, zone_sectors, data_zone}
use Rattle.logs.specs.meaning.Entry.{general_zone, worn_generation, partial_parity, seal, zone_reset, Entry, rows_of}
use Rattle.tables.specs.meaning.Drives.{present_but}
use Rattle.tables.specs.laws.Drives.{present_below}
use Rattle.promise.specs.meaning.Ledger.{Ledger}
use Rattle.volume.specs.meaning.Rules.{Shown, showing, general_heads, parity_entries, parity_ending, clean_at, ending_past, seal_seen, reset_seen, generation_of, pointer_at, seal_limit, zone_view, condition_of, zone_shown, zone_at, known_prefix}
use Rattle.volume.specs.declared.Condition.TheVariants.{Empty, Open, Sealed, Worn}
use Rattle.promise.proofs.invariant.Invariant.{Ghost, Here, LogsOk, Inv, Live, Dying, CappedBelow, Why, logged, bare, passed, Logged, LoggedIn, reset_lasts, counts_past, Spent}
use Rattle.promise.proofs.mount.MountRuns.{AllDurable}
use Rattle.promise.proofs.mount.MountPlan.{Start, AfterLabels, Fate, Stays, Clean, stays, worn_out, gone, emptied, bare_one, raised_one}
use Rattle.std.proofs.Math.Dec.{leb}
use borrow.Author.Tests.{leb-true, eq-eqb, ne_eqb}
use Rattle.tables.specs.laws.Basics.{and_split, not_true}
use Rattle.tables.specs.laws.Below.{some_any_below, all_below_all}
use Rattle.tables.specs.meaning.Placement.{needed}
use Rattle.logs.specs.meaning.Walk.{torn}
use Rattle.logs.specs.laws.Walk.{Whole, WellFormedLog, ending_of, whole_entries}
use Rattle.logs.specs.meaning.Heads.{ends_past, is_seal}
use Rattle.promise.proofs.look.LookReads.{general_heads_lem, parity_entries_lem, parity_ending_lem}
use Rattle.logs.specs.laws.LogLaws.{mem_whole_entries}
use Rattle.promise.proofs.look.LookLive.{some_present, counts_now, count_now, generation_most, generation_least, reset_seen_lem, seen_reset, limit_seal, live_generation, pointer_reset, pointer_free, knows_most, knows_value, live_least}
use Rattle.promise.proofs.look.LookDying.{dying_pointer, dying_raised, dying_least, reset_drive, spent_capped}
use Rattle.promise.proofs.mount.MountZoneResets.{needed_none}
use Rattle.promise.proofs.mount.MountAloneEntry.{alone_limit, alone_known, alone_fits}

-- an entry of a lawful log is whole, or the torn end
pub whole_or_torn : (g : Geometry) (d : ℕ) (es : List Entry) (e : Entry) → WellFormedLog g d true es → Memᴰ e es → Whole g d true e ⊎ (ending_of g d true es ≡ torn e.head e.rows)
whole_or_torn g d (f ∷ es) e lw (Memᴰ.head q) = go lw.1
  where
    go : Whole g d true f ⊎ ((length f.rows < rows_of g f.head) × (es ≡ [])) → Whole g d true e ⊎ (ending_of g d true (f ∷ es) ≡ torn e.head e.rows)
    go (inl h) = inl (rw q h)
    go (inr h) = inr (rw (q, ne_eqb (length f.rows) (rows_of g f.head) (λ r. omega (arith, h.0))) refl)
whole_or_torn g d (f ∷ es) e lw (Memᴰ.tail m) = go lw.1 (whole_or_torn g d es e lw.2 m)
  where
    none : (fs : List Entry) → Memᴰ e fs → fs ≡ [] → ⊥
    none (y ∷ fs) m q = let n : ◌≡◌ {A = ℕ} 0 1 = cc in omega arith
    none [] m q = elim m [ ]

    go : Whole g d true f ⊎ ((length f.rows < rows_of g f.head) × (es ≡ [])) → Whole g d true e ⊎ (ending_of g d true es ≡ torn e.head e.rows) → Whole g d true e ⊎ (ending_of g d true (f ∷ es) ≡ torn e.head e.rows)
    go (inr h) r = absurd (none es m h.1)
    go (inl h) (inl r) = inl r
    go (inl h) (inr r) = inr (rw (eq-eqb (length f.rows) (rows_of g f.head) h) r)
whole_or_torn g d [] e lw x'' = elim x'' [ ]

module _ (g : Geometry) (ok : Valid g) (x : ℕ) (w : Device) (γ : Ghost) (lg : LogsOk g x w γ) where
  -- a clean zone
  pub clean_facts : (z n q : ℕ) → clean_at g (present_but g x) w z n q ≡ true → (d : ℕ) → Here g x d
      → (length (w d (data_zone z)).sectors ≤ needed g.drives g.unit z q d) × ((e : Entry) → Memᴰ e (γ.parity d) → (i f : ℕ) → e.head ≡ partial_parity z i f n → i * stripe_sectors g + f ≤ q)
  unfolding clean_at
  clean_facts z n q c d a =
      let c1 : leb (length (w d (data_zone z)).sectors) (needed g.drives g.unit z q d) && (not (any_of (λ (e : Entry). ends_past g z n q e.head) (parity_entries g w d)) && not (ending_past g z n q (parity_ending g w d))) ≡ true =
      rw a at (all_below_all (λ d. not (present_but g x d) || (leb (length (w d (data_zone z)).sectors) (needed g.drives g.unit z q d) && (not (any_of (λ (e : Entry). ends_past g z n q e.head) (parity_entries g w d)) && not (ending_past g z n q (parity_ending g w d))))) g.drives d c (present_below g x d a)) in
      let (c2, c3) = and_split (leb (length (w d (data_zone z)).sectors) (needed g.drives g.unit z q d)) _ c1 in
      let (c4, c5) = and_split (not (any_of (λ (e : Entry). ends_past g z n q e.head) (parity_entries g w d))) _ c3 in
      let c6 : any_of (λ (e : Entry). ends_past g z n q e.head) (whole_entries g d true (γ.parity d)) ≡ false = rw (parity_entries_lem g ok x w γ lg d a) at (not_true (any_of (λ (e : Entry). ends_past g z n q e.head) (parity_entries g w d)) c4) in
      let c7 : ending_past g z n q (ending_of g d true (γ.parity d)) ≡ false = rw (parity_ending_lem g ok x w γ lg d a) at (not_true (ending_past g z n q (parity_ending g w d)) c5) in
      (leb-true (length (w d (data_zone z)).sectors) (needed g.drives g.unit z q d) c2, λ e m i f r. go e m i f r c6 c7 (whole_or_torn g d (γ.parity d) e (lg.parity_lawful d a) m))
    where
      go : (e : Entry) → Memᴰ e (γ.parity d) → (i f : ℕ) → e.head ≡ partial_parity z i f n → any_of (λ (e : Entry). ends_past g z n q e.head) (whole_entries g d true (γ.parity d)) ≡ false → ending_past g z n q (ending_of g d true (γ.parity d)) ≡ false
          → Whole g d true e ⊎ (ending_of g d true (γ.parity d) ≡ torn e.head e.rows) → i * stripe_sectors g + f ≤ q
      go e m i f r c6 c7 (inl v) = not_past_within g z n q i f (rw r at (any_of_false (λ (e : Entry). ends_past g z n q e.head) (whole_entries g d true (γ.parity d)) e c6 (mem_whole_entries g d (γ.parity d) e m v)))
      go e m i f r c6 c7 (inr v) = not_past_within g z n q i f (rw (v, r) at c7)

  pub no_seal_seen : (z n : ℕ) → seal_seen g (present_but g x) w z n ≡ false → (d : ℕ) → Here g x d → (c : ℕ) → Memᴰ (seal z c n) (γ.general d) → ⊥
  unfolding seal_seen
  no_seal_seen z n e d a c m =
      let t : is_seal z n (seal z c n) ≡ true = rw (eq-eqb z z refl, eq-eqb n n refl) refl in
      true≢false (sym (some_any_below (λ d. present_but g x d && any_of (is_seal z n) (general_heads g w d)) g.drives d (present_below g x d a) (rw (a, general_heads_lem g ok x w γ lg d a) (some_any_of (is_seal z n) (γ.general d) (seal z c n) m t))) ∙ e)

  module _ (l : Ledger) (z : ℕ) (hz : z < g.zones) where
    -- ---- a Live zone
    module _ (lv : Live g x w γ l z) where
      G0 : generation_of g (present_but g x) w z ≡ γ.generation z
      G0 = live_generation g ok x w γ lg l z lv

      emptied_fate : reset_seen g (present_but g x) w z (γ.generation z) ≡ true → Fate g x w γ l (showing g (present_but g x) x w) z
      unfolding showing zone_shown zone_at
      emptied_fate e =
          let (d, a, m) = reset_seen_lem g ok x w γ lg z (γ.generation z) e in
          let lt : γ.generation z < worn_generation = low d a m (dec_lt (γ.generation z) worn_generation) in
          let p0 : pointer_at g (present_but g x) w z (γ.generation z) ≡ zero = pointer_reset g ok x w γ lg l z lv e in
          gone (emptied (record {
            zone = inl (lv, flag lv.no_reset d a m);
            generation_is = G0;
            unworn = lt;
            is_reset_lem = rw G0 e;
            none = rw G0 p0;
            condition_is = rw (G0, p0, ne_eqb (γ.generation z) worn_generation (λ q. omega arith)) refl;
          }))
        where
          low : (d : ℕ) → Here g x d → Memᴰ (zone_reset z (γ.generation z)) (γ.general d) → Dec (γ.generation z < worn_generation) → γ.generation z < worn_generation
          low d a m (yes h) = h
          low d a m (no h) = absurd (let q : γ.generation z ≡ worn_generation = omega (arith, lv.generation_top) in let r = (lv.worn_empty q).1.in_general_lem d a (zone_reset z (γ.generation z)) m refl in omega (arith, r))

          flag : (l.resetting z ≡ true) ⊎ ((d : ℕ) → Here g x d → Memᴰ (zone_reset z (γ.generation z)) (γ.general d) → ⊥) → (d : ℕ) → Here g x d → Memᴰ (zone_reset z (γ.generation z)) (γ.general d) → l.resetting z ≡ true
          flag (inl q) d a m = q
          flag (inr q) d a m = absurd (q d a m)

      module _ (e : reset_seen g (present_but g x) w z (γ.generation z) ≡ false) where
        abbrev lim : ℕ
        lim = seal_limit g (present_but g x) w z (γ.generation z)

        abbrev q0 : ℕ
        q0 = pointer_at g (present_but g x) w z (γ.generation z)

        knows0 : ℕ
        knows0 = known_prefix g.drives g.unit z (zone_view g (present_but g x) w z (γ.generation z)) (zone_sectors g)

        ptr_is : q0 ≡ min knows0 lim
        unfolding knows0
        ptr_is = pointer_free g ok x w γ lg l z lv e

        alone_pointer : (d : ℕ) → Here g x d → (p : Entry) → Memᴰ p (γ.parity d) → Whole g d true p → (f : ℕ) → p.head ≡ partial_parity z zero f (γ.generation z) → f ≤ g.unit → (f ≤ q0) ⊎ CappedBelow g x w γ z f
        unfolding knows0
        alone_pointer d a p m wp f hd hf = go (alone_limit g ok x w γ lg l z lv d a p m wp f hd hf)
          where
            go : (f ≤ lim) ⊎ CappedBelow g x w γ z f → (f ≤ q0) ⊎ CappedBelow g x w γ z f
            go (inl h) = inl (let v = alone_known g ok x w γ lg l z lv d a p m wp f hd hf h in omega (arith, ptr_is, v, h))
            go (inr h) = inr h

        worn_fate : γ.generation z ≡ worn_generation → Fate g x w γ l (showing g (present_but g x) x w) z
        unfolding showing zone_shown zone_at knows0
        worn_fate q =
            let m0 : length (γ.laid z) ≡ zero = ap length (lv.worn_empty q).0 in
            let p0 : pointer_at g (present_but g x) w z (γ.generation z) ≡ zero = (let v = knows_most g ok x w γ lg l z lv in omega (arith, ptr_is, v, m0)) in
            worn_out (record { live = lv; generation_is = G0; most = q; not_reset = rw G0 e; none = rw G0 p0; condition_is = rw (G0, p0, eq-eqb (γ.generation z) worn_generation q) refl })

        bare_fate : γ.generation z ≢ worn_generation → q0 ≡ zero → Fate g x w γ l (showing g (present_but g x) x w) z
        unfolding showing zone_shown zone_at
        bare_fate q p0 = gone (bare_one (record {
          zone = inl (lv, (let v = live_least g ok x w γ lg l z lv hz in let v2 = ptr_is in unfold knows0 in omega (arith, v, v2, p0)));
          generation_is = G0;
          unworn = omega (arith, lv.generation_top, q);
          not_reset = rw G0 e;
          none = rw G0 p0;
          condition_is = rw (G0, p0, ne_eqb (γ.generation z) worn_generation q) refl;
          gone = rw G0 (no_data (clean_at g (present_but g x) w z (γ.generation z) q0) refl);
          no_entry_lem = λ d a p m wp f hd. big d a p m wp f hd (dec_lt g.unit f);
        }))
          where
            no_data : (c : Bool) → clean_at g (present_but g x) w z (γ.generation z) q0 ≡ c → (c ≡ false) ⊎ ((d : ℕ) → Here g x d → (w d (data_zone z)).sectors ≡ [])
            no_data false r = inl refl
            no_data true r = inr (λ d a. let none : length (w d (data_zone z)).sectors ≤ zero = let v = (clean_facts z (γ.generation z) q0 r d a).0 in let v2 : needed g.drives g.unit z q0 d ≡ zero = rw p0 (needed_none g ok z d) in omega (arith, v, v2) in length_zero_nil (w d (data_zone z)).sectors (omega arith))

            big : (d : ℕ) → Here g x d → (p : Entry) → Memᴰ p (γ.parity d) → Whole g d true p → (f : ℕ) → p.head ≡ partial_parity z zero f (γ.generation z) → Dec (g.unit < f) → (g.unit < f) ⊎ CappedBelow g x w γ z f
            big d a p m wp f hd (yes h) = inl h
            big d a p m wp f hd (no h) = go (alone_pointer d a p m wp f hd (omega arith))
              where
                go : (f ≤ q0) ⊎ CappedBelow g x w γ z f → (g.unit < f) ⊎ CappedBelow g x w γ z f
                go (inl j) = absurd (let v = (alone_fits g ok x w γ lg l z lv d a p m wp f hd (omega arith)).0 in omega (arith, v, j, p0))
                go (inr j) = inr j

        stays_fate : γ.generation z ≢ worn_generation → q0 ≢ zero → Fate g x w γ l (showing g (present_but g x) x w) z
        unfolding showing zone_shown zone_at
        stays_fate q p0 = stays (record {
          live = lv;
          generation_is = G0;
          unworn = omega (arith, lv.generation_top, q);
          not_reset = rw G0 e;
          some = rw G0 (omega (arith, p0));
          least = rw G0 (let v = live_least g ok x w γ lg l z lv hz in let v2 = ptr_is in unfold knows0 in omega (arith, v, v2));
          most = rw G0 (let v = knows_most g ok x w γ lg l z lv in let v2 = ptr_is in unfold knows0 in omega (arith, v, v2));
          values = rw G0 (λ a h. (knows_value g ok x w γ lg l z lv a (let v2 = ptr_is in unfold knows0 in omega (arith, h, v2))).0);
          seals_past = λ d a c m. rw G0 (let v = limit_seal g ok x w γ lg z (γ.generation z) d a c m in let v2 = ptr_is in omega (arith, v, v2));
          alone = rw G0 alone_pointer;
          no_reset = λ d a m. true≢false (sym (seen_reset g ok x w γ lg z (γ.generation z) d a m) ∙ e);
          how = rw G0 (shape (clean_at g (present_but g x) w z (γ.generation z) q0) refl (seal_seen g (present_but g x) w z (γ.generation z)) refl);
        })
          where
            shape : (c : Bool) → clean_at g (present_but g x) w z (γ.generation z) q0 ≡ c → (h : Bool) → seal_seen g (present_but g x) w z (γ.generation z) ≡ h
                → ((condition_of (γ.generation z) q0 (clean_at g (present_but g x) w z (γ.generation z) q0) (seal_seen g (present_but g x) w z (γ.generation z)) ≡ Open q0) × Clean g x w γ (showing g (present_but g x) x w) z)
                ⊎ (condition_of (γ.generation z) q0 (clean_at g (present_but g x) w z (γ.generation z) q0) (seal_seen g (present_but g x) w z (γ.generation z)) ≡ Sealed q0)
            shape false c h r = inr (rw (c, ne_eqb (γ.generation z) worn_generation q, ne_eqb q0 0 p0) refl)
            shape true c true r = inr (rw (c, r, ne_eqb (γ.generation z) worn_generation q, ne_eqb q0 0 p0) refl)
            shape true c false r = inl (
              rw (c, r, ne_eqb (γ.generation z) worn_generation q, ne_eqb q0 0 p0) refl,
              record {
                fits = λ d a. rw G0 (clean_facts z (γ.generation z) q0 c d a).0;
                ends_in = λ d a y m i f v. rw G0 ((clean_facts z (γ.generation z) q0 c d a).1 y m i f v);
                no_seal = no_seal_seen z (γ.generation z) r;
              },
            )

      live_fate : Fate g x w γ l (showing g (present_but g x) x w) z
      live_fate = go (reset_seen g (present_but g x) w z (γ.generation z)) refl (ℕ_discrete (γ.generation z) worn_generation) (ℕ_discrete (pointer_at g (present_but g x) w z (γ.generation z)) zero)
        where
          go : (b : Bool) → reset_seen g (present_but g x) w z (γ.generation z) ≡ b → Dec (γ.generation z ≡ worn_generation) → Dec (pointer_at g (present_but g x) w z (γ.generation z) ≡ zero) → Fate g x w γ l (showing g (present_but g x) x w) z
          go true e q p = emptied_fate e
          go false e (yes q) p = worn_fate e q
          go false e (no q) (yes p) = bare_fate e q p
          go false e (no q) (no p) = stays_fate e q p

    -- ---- a Dying zone
    module _ (dy : Dying g x w γ l z) where
      p1 : pointer_at g (present_but g x) w z (generation_of g (present_but g x) w z) ≡ zero
      p1 = dying_pointer g ok x w γ lg l z dy

      top_most : generation_of g (present_but g x) w z ≤ worn_generation
      top_most = generation_most g ok x w γ lg z worn_generation (λ d a. (counts_now g ok x w γ lg z (λ n. (γ.generation z ≤ n) × (n ≤ worn_generation)) dy.counts d a).1)

      not_seen : γ.generation z < generation_of g (present_but g x) w z → (b : Bool) → reset_seen g (present_but g x) w z (generation_of g (present_but g x) w z) ≡ b → b ≡ false
      not_seen h false e = refl
      not_seen h true e =
          let (d, a, m) = reset_seen_lem g ok x w γ lg z (generation_of g (present_but g x) w z) e in
          absurd (let r = dy.entries.in_general_lem d a (zone_reset z (generation_of g (present_but g x) w z)) m refl in omega (arith, r, h))

      raised_fate : γ.generation z < generation_of g (present_but g x) w z → Fate g x w γ l (showing g (present_but g x) x w) z
      unfolding showing zone_shown zone_at
      raised_fate h = gone (raised_one (record {
        dying = dy;
        generation_past = h;
        not_reset = not_seen h (reset_seen g (present_but g x) w z (generation_of g (present_but g x) w z)) refl;
        none = p1;
        condition_is = shape (ℕ_discrete (generation_of g (present_but g x) w z) worn_generation);
        gone = dying_raised g ok x w γ lg l z dy h;
      }))
        where
          shape : Dec (generation_of g (present_but g x) w z ≡ worn_generation)
              → let m = generation_of g (present_but g x) w z in let n = pointer_at g (present_but g x) w z m in let c = condition_of m n (clean_at g (present_but g x) w z m n) (seal_seen g (present_but g x) w z m) in
              ((c ≡ Empty) × (m < worn_generation)) ⊎ ((c ≡ Worn zero) × (m ≡ worn_generation))
          shape (yes q) = inr (rw (eq-eqb (generation_of g (present_but g x) w z) worn_generation q, p1) refl, q)
          shape (no q) = inl (rw (ne_eqb (generation_of g (present_but g x) w z) worn_generation q, p1) refl, omega (arith, top_most, q))

      same_fate : generation_of g (present_but g x) w z ≡ γ.generation z → Fate g x w γ l (showing g (present_but g x) x w) z
      unfolding showing zone_shown zone_at
      same_fate G1 = go (reset_seen g (present_but g x) w z (γ.generation z)) refl
        where
          p2 : pointer_at g (present_but g x) w z (γ.generation z) ≡ zero
          p2 = rw G1 at p1

          tight : (f : ℕ) → (g.unit < f) ⊎ Spent g x w γ z f → (g.unit < f) ⊎ CappedBelow g x w γ z f
          tight f (inl q) = inl q
          tight f (inr q) = inr (spent_capped g ok x w γ lg z f G1 q)

          by : Why g x w γ z → reset_seen g (present_but g x) w z (γ.generation z) ≡ false → Fate g x w γ l (showing g (present_but g x) x w) z
          by (logged h) e =
              let (d, a, q) = reset_drive g ok x w γ lg z in
              absurd (by_log d a (h d a q))
            where
              by_log : (d : ℕ) → Here g x d → Logged g w γ z d → ⊥
              by_log d a (reset_lasts m) = true≢false (sym (seen_reset g ok x w γ lg z (γ.generation z) d a (mem_take (w d general_zone).durable (γ.general d) (zone_reset z (γ.generation z)) m)) ∙ e)
              by_log d a (counts_past c) = let v = count_now g ok x w γ lg z d a (λ n. γ.generation z < n) c in let v2 = generation_least g ok x w γ lg z d a in omega (arith, v, v2, G1)
          by (passed h) e =
              let (d, a) = some_present g ok x in
              absurd (let v = counts_now g ok x w γ lg z (λ n. γ.generation z < n) h d a in let v2 = generation_least g ok x w γ lg z d a in omega (arith, v, v2, G1))
          by (bare h m) e = gone (bare_one (record {
            zone = inr dy;
            generation_is = G1;
            unworn = dy.generation_top;
            not_reset = rw G1 e;
            none = p1;
            condition_is = rw (G1, p2, ne_eqb (γ.generation z) worn_generation (λ q. omega (arith, dy.generation_top))) refl;
            gone = inr h;
            no_entry_lem = λ d a p o q f r. tight f (m d a p o q f r);
          }))

          go : (b : Bool) → reset_seen g (present_but g x) w z (γ.generation z) ≡ b → Fate g x w γ l (showing g (present_but g x) x w) z
          go true e = gone (emptied (record { zone = inr dy; generation_is = G1; unworn = dy.generation_top; is_reset_lem = rw G1 e; none = p1; condition_is = rw (G1, p2, ne_eqb (γ.generation z) worn_generation (λ q. omega (arith, dy.generation_top))) refl }))
          go false e = by dy.why e

      dying_fate : Fate g x w γ l (showing g (present_but g x) x w) z
      dying_fate = go (dec_lt (γ.generation z) (generation_of g (present_but g x) w z))
        where
          go : Dec (γ.generation z < generation_of g (present_but g x) w z) → Fate g x w γ l (showing g (present_but g x) x w) z
          go (yes h) = raised_fate h
          go (no h) = same_fate (let v = dying_least g ok x w γ lg l z dy in omega (arith, v))

pub fate_of : (g : Geometry) → Valid g → (x : ℕ) (w : Device) (γ : Ghost) (l : Ledger) → Inv g x w l γ → AllDurable g x w → (z : ℕ) → z < g.zones → Fate g x w γ l (showing g (present_but g x) x w) z
fate_of g ok x w γ l i s z h = go (i.zones z h)
  where
    go : Live g x w γ l z ⊎ Dying g x w γ l z → Fate g x w γ l (showing g (present_but g x) x w) z
    go (inl q) = live_fate g ok x w γ i.logs l z h q
    go (inr q) = dying_fate g ok x w γ i.logs l z h q

pub start_stage : (g : Geometry) → Valid g → (x : ℕ) (w : Device) (γ : Ghost) (l : Ledger) (k : Shown) → Start g x w γ l k → AfterLabels g x w γ l k zero w
start_stage g ok x w γ l k s = (
  γ.general,
  record {
    base = record { logs = s.inv.logs; settled = s.settled; grows = λ d a. prefix_refl (γ.general d); used = λ d a. omega arith };
    lives = record {
      staying = λ z h t. record { live = t.live; no_seal = λ q. opened_seal z t q t.how; no_reset = t.no_reset; seals_past = t.seals_past; ends_in = λ q. opened_ends z t q t.how };
      worn_live = λ z h t. t.live;
    };
    counters_same = λ d a. refl;
    same = record { data_same = λ z h t d a. refl };
    reset_zone = λ z h t. t.zone;
    bare_zone = λ z h t. (t.zone, t.gone);
    raised_zone = λ z h t. (t.dying, t.gone);
  },
)
  where
    opened_seal : (z : ℕ) → Stays g x w γ l k z → (k.zone z).condition ≡ Open (k.zone z).pointer → (((k.zone z).condition ≡ Open (k.zone z).pointer) × Clean g x w γ k z) ⊎ ((k.zone z).condition ≡ Sealed (k.zone z).pointer)
        → (d : ℕ) → Here g x d → (c : ℕ) → Memᴰ (seal z c (γ.generation z)) (γ.general d) → ⊥
    opened_seal z t q (inl c) = c.1.no_seal
    opened_seal z t q (inr c) = absurd (let e : Open (k.zone z).pointer ≡ Sealed (k.zone z).pointer = sym q ∙ c in let n : ◌≡◌ {A = ℕ} 0 1 = cc in omega arith)

    opened_ends : (z : ℕ) → Stays g x w γ l k z → (k.zone z).condition ≡ Open (k.zone z).pointer → (((k.zone z).condition ≡ Open (k.zone z).pointer) × Clean g x w γ k z) ⊎ ((k.zone z).condition ≡ Sealed (k.zone z).pointer)
        → (d : ℕ) → Here g x d → (e : Entry) → Memᴰ e (γ.parity d) → (s f : ℕ) → e.head ≡ partial_parity z s f (γ.generation z) → s * stripe_sectors g + f ≤ (k.zone z).pointer
    opened_ends z t q (inl c) = c.1.ends_in
    opened_ends z t q (inr c) = absurd (let e : Open (k.zone z).pointer ≡ Sealed (k.zone z).pointer = sym q ∙ c in let n : ◌≡◌ {A = ℕ} 0 1 = cc in omega arith)
