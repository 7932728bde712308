-- Step 6 of a mount: counters on each present drive, every empty zone's generation raised by 1. Zones that stay keep theirs; of the others
-- the data is gone by now, so it does not matter which drives a stop leaves with the new counters. After the flush their old generation has
-- passed on every drive.
use Rattle.tables.specs.laws.Basics.{not_not, or_none}
use Rattle.tables.specs.meaning.Basics.{pick}
use Rattle.volume.specs.laws.Counters.{generations_at, generations_length, generations_small}
use Rattle.tables.specs.laws.Below.{any_below_false, count_below_apart}
use Rattle.tables.specs.meaning.Below.{each_below, any_below}
use Rattle.std.specs.Prelude.{◌≡◌, ◌≢◌, ◌⊎◌, Bool, ◌&&◌, ◌||◌, not, take}
use Rattle.std.proofs.Math.Path.{refl, ap}
use Rattle.std.proofs.Common.{sym, ◌∙◌, inl, inr, true≢false, le_trans, le_of_eq, arith, eq-eqb, take_all}
use Rattle.std.proofs.Math.Bool.{true, false}
use Prim.Native.Nat.{ℕ, zero, ◌+◌, ◌≤◌, ◌<◌, zero-le}
use Rattle.std.proofs.Math.Nat.{le_refl}
use mathlib.Core.List.{List, [], ◌∷◌, ◌++◌, append-nil, Memᴰ}
use Rattle.std.proofs.Math.ListN.{length, get_or}
use Rattle.tables.specs.meaning.Device.{Device}
use Rattle.tables.specs.declared.Geometry.{Geometry}
use Rattle.tables.specs.meaning.Geometry.{Valid, data_zone}
use Rattle.logs.specs.meaning.Entry.{general_zone, worn_generation, Header, label, counters, encode, closing}
use Rattle.tables.specs.meaning.Drives.{present_but}
use Rattle.tables.specs.laws.Drives.{present_below}
use Rattle.tables.specs.meaning.Lists.{concat}
use Rattle.tables.specs.laws.Lists.{length_map}
use Rattle.promise.specs.meaning.Ledger.{Ledger}
use Rattle.volume.specs.meaning.Rules.{Shown, general_heads, showing, zone_shown, zone_at, generation_of}
use Rattle.volume.specs.declared.Condition.TheVariants.{Empty, Open, Sealed, Worn}
use Rattle.volume.specs.meaning.State.{is_empty}
use Rattle.volume.specs.meaning.Mount.{with_flush, next_generation, counters_differ, counter_step}
use Rattle.promise.proofs.invariant.Invariant.{Ghost, Here, Live, Dying, Counts}
use Rattle.promise.proofs.mount.MountRuns.{Runs, Between, Done, step_runs}
use Rattle.promise.proofs.mount.MountPlan.{Start, AfterZoneResets, AfterCounters, count_reset, ZonesCleared, Base, Stays, WornZone, Raised, Fate, stays, worn_out, gone, Gone, emptied, bare_one, raised_one, NoData, Lives, Clean}
use Rattle.logs.specs.laws.Codec.{reads}
use Rattle.logs.specs.meaning.Heads.{last_counters, generation_in}
use Rattle.logs.specs.laws.Heads.{zone_gen}
use Rattle.volume.specs.meaning.Calls.{append_general, generations_from}
use Rattle.promise.proofs.invariant.HoldsLess.{with_logs}
use Rattle.promise.proofs.look.LookReads.{general_heads_lem}
use Rattle.promise.proofs.invariant.Obligations.{Invs}
use Rattle.promise.proofs.invariant.HoldsMore.{other_head}
use Rattle.logs.specs.laws.HeadLaws.{last_counters_append, generation_small}
use Rattle.promise.proofs.mount.MountGeneralLogs.{Logs, LogsFit, logs_drives, grown_general, grown_logs, grown_dying, still_data, done_general}
use Rattle.promise.proofs.mount.MountLiveZones.{other_for, grown_lives, grown_same, grown_base, zones_inv, base_count, room_for}
use Rattle.tables.specs.meaning.LittleEndian.{same_bytes}
use Rattle.tables.specs.laws.LittleEndian.{same_bytes_eq}
use Rattle.promise.proofs.look.LookLive.{counts_now}
use Rattle.promise.proofs.look.LookDying.{generation_some}

-- every present drive's last counters give every zone the same generation
abbrev pub CountsSame : Geometry → ℕ → Device → Type 0
CountsSame g x w = (d e : ℕ) → Here g x d → Here g x e → (z : ℕ) → z < g.zones → generation_in z (general_heads g w d) ≡ generation_in z (general_heads g w e)

abbrev CountsAgree : Geometry → ℕ → Ghost → Type 0
CountsAgree g x γ = (d e : ℕ) → Here g x d → Here g x e → (z : ℕ) → z < g.zones → generation_in z (γ.general d) ≡ generation_in z (γ.general e)

-- counters that do not differ give the same generations
pub counters_same : (g : Geometry) (x : ℕ) (w : Device) → counters_differ g (present_but g x) w ≡ false → CountsSame g x w
unfolding counters_differ
counters_same g x w e d c a b z hz = ap (λ (q : List ℕ). get_or q z zero) (same_bytes_eq (last_counters [] (general_heads g w d)) (last_counters [] (general_heads g w c)) same)
  where
    f : ℕ → ℕ → Bool
    f i j = same_bytes (last_counters [] (general_heads g w i)) (last_counters [] (general_heads g w j))

    same : f d c ≡ true
    same =
        let p1 = any_below_false (λ i. present_but g x i && any_below (λ j. present_but g x j && not (f i j)) g.drives) g.drives d e (present_below g x d a) in
        let p2 : any_below (λ j. present_but g x j && not (f d j)) g.drives ≡ false = rw a at p1 in
        let p3 = any_below_false (λ j. present_but g x j && not (f d j)) g.drives c p2 (present_below g x c b) in
        let p4 : not (f d c) ≡ false = rw b at p3 in
        not_not (f d c) p4

module _ (g : Geometry) (ok : Valid g) (x : ℕ) (w : Device) (γ : Ghost) (l : Ledger) (k : Shown) (s : Start g x w γ l k) where
  pub next_live : (z : ℕ) → Stays g x w γ l k z ⊎ WornZone g x w γ l k z → next_generation k z ≡ γ.generation z
  next_live z (inl q) = go q.how
    where
      go : (((k.zone z).condition ≡ Open (k.zone z).pointer) × Clean g x w γ k z) ⊎ ((k.zone z).condition ≡ Sealed (k.zone z).pointer) → next_generation k z ≡ γ.generation z
      go (inl r) = rw r.0 q.generation_is
      go (inr r) = rw r q.generation_is
  next_live z (inr q) = rw q.condition_is q.generation_is

  pub next_gone : (z : ℕ) → Gone g x w γ l k z → (γ.generation z < next_generation k z) × (next_generation k z ≤ worn_generation)
  next_gone z (emptied q) = rw q.condition_is (omega (arith, q.generation_is), omega (arith, q.generation_is, q.unworn))
  next_gone z (bare_one q) = rw q.condition_is (omega (arith, q.generation_is), omega (arith, q.generation_is, q.unworn))
  next_gone z (raised_one q) = go q.condition_is
    where
      go : (((k.zone z).condition ≡ Empty) × ((k.zone z).generation < worn_generation)) ⊎ (((k.zone z).condition ≡ Worn zero) × ((k.zone z).generation ≡ worn_generation)) → (γ.generation z < next_generation k z) × (next_generation k z ≤ worn_generation)
      go (inl r) = rw r.0 (omega (arith, q.generation_past), omega (arith, r.1))
      go (inr r) = rw r.0 (q.generation_past, omega (arith, r.1))

  next_most : (z : ℕ) → z < g.zones → next_generation k z ≤ worn_generation
  next_most z h = go (s.fate z h)
    where
      go : Fate g x w γ l k z → next_generation k z ≤ worn_generation
      go (stays q) = rw (next_live z (inl q)) (omega (arith, q.unworn))
      go (worn_out q) = rw (next_live z (inr q)) (le_of_eq q.most)
      go (gone q) = (next_gone z q).1

  abbrev gens : List ℕ
  gens = generations_from (next_generation k) zero g.zones

  gens_are : (z : ℕ) → z < g.zones → get_or gens z zero ≡ next_generation k z
  gens_are z h = generations_at (next_generation k) zero g.zones z h ∙ ap (next_generation k) (let e : zero + z ≡ z = omega arith in e)

  count_most : count_reset g k ≤ g.zones
  count_most = omega (arith, count_below_apart (λ z. (k.zone z).by_reset) (λ z. false) g.zones (λ z h e. refl))

  -- (differ: an answer to whether the counters differ, which may be that of an earlier look; asked of it is only that, where it says that they do
  -- not, they give the same generations)
  module _ (differ : Bool) (same : differ ≡ false → CountsAgree g x γ) where
    stored : Bool
    stored = any_below (λ z. is_empty (k.zone z).condition) g.zones || differ

    heads : ℕ → List Header
    heads d = pick stored (counters gens ∷ []) []

    the_logs : Logs g x (counter_step g k differ) heads
    unfolding heads stored counter_step
    the_logs = go (any_below (λ z. is_empty (k.zone z).condition) g.zones || differ)
      where
        go : (c : Bool) → Logs g x (pick c (each_below (λ d. append_general g (counters gens) d) g.drives) []) (λ d. pick c (counters gens ∷ []) [])
        go true = logs_drives g x (λ d. true) (counters gens)
        go false = record { sees = λ d a. refl; unseen = λ d y a q. refl }

    is_of : (d : ℕ) (h : Header) → Memᴰ h (heads d) → h ≡ counters gens
    unfolding heads
    is_of d h m = go stored m
      where
        go : (c : Bool) → Memᴰ h (pick c (counters gens ∷ []) []) → h ≡ counters gens
        go true (Memᴰ.head q) = q
        go false x'' = elim x'' [ ]
        go true (mathlib.Core.List.Memᴰ.tail x7) = elim x7 [ ]

    few : (d : ℕ) → length (heads d) ≤ 1
    unfolding heads
    few d = go stored
      where
        go : (c : Bool) → length (pick c (counters gens ∷ []) []) ≤ 1
        go true = le_refl 1
        go false = zero-le

    gens_of : (z : ℕ) → z < g.zones → (d : ℕ) (cs : List ℕ) → Memᴰ (counters cs) (heads d) → get_or cs z zero ≡ next_generation k z
    gens_of z h d cs m = let e = is_of d (counters cs) m in let q : cs ≡ gens = cc in rw q (gens_are z h)

    none_of_lem : (z d : ℕ) (h : Header) → Memᴰ h (heads d) → zone_gen h (λ y n. y ≢ z)
    none_of_lem z d h m = rw (is_of d h m) tt

    within : (z d : ℕ) (h : Header) → Memᴰ h (heads d) → zone_gen h (λ y n. y ≡ z → n ≤ γ.generation z)
    within z d h m = rw (is_of d h m) tt

    -- without new counters the present ones are right
    unstored : stored ≡ false → (d : ℕ) → Here g x d → (z : ℕ) → z < g.zones → generation_in z (γ.general d) ≡ next_generation k z
    unfolding stored showing zone_shown zone_at
    unstored e d a z h = go (s.fate z h)
      where
        parts : (any_below (λ z. is_empty (k.zone z).condition) g.zones ≡ false) × (differ ≡ false)
        parts = or_none (any_below (λ z. is_empty (k.zone z).condition) g.zones) differ e

        not_empty : (k.zone z).condition ≡ Empty → ⊥
        not_empty q = true≢false (rw q at (any_below_false (λ z. is_empty (k.zone z).condition) g.zones z parts.0 h))

        live : Live g x w γ l z → Stays g x w γ l k z ⊎ WornZone g x w γ l k z → generation_in z (γ.general d) ≡ next_generation k z
        live lv q = counts_now g ok x w γ s.inv.logs z (λ n. n ≡ γ.generation z) lv.counts d a ∙ sym (next_live z q)

        kgen : (k.zone z).generation ≡ generation_of g (present_but g x) w z
        kgen = ap (λ (q : Shown). (q.zone z).generation) s.look

        raised : Raised g x w γ l k z → (((k.zone z).condition ≡ Empty) × ((k.zone z).generation < worn_generation)) ⊎ (((k.zone z).condition ≡ Worn zero) × ((k.zone z).generation ≡ worn_generation)) → generation_in z (γ.general d) ≡ next_generation k z
        raised q (inl r) = absurd (not_empty r.0)
        raised q (inr r) =
            let gt : γ.generation z < generation_of g (present_but g x) w z = rw kgen at q.generation_past in
            let (d0, a0, e0) = generation_some g ok x w γ s.inv.logs z (γ.generation z) gt in
            rw r.0 (same parts.1 d d0 a a0 z h ∙ sym e0 ∙ sym kgen)

        go : Fate g x w γ l k z → generation_in z (γ.general d) ≡ next_generation k z
        go (stays q) = live q.live (inl q)
        go (worn_out q) = live q.live (inr q)
        go (gone (emptied q)) = absurd (not_empty q.condition_is)
        go (gone (bare_one q)) = absurd (not_empty q.condition_is)
        go (gone (raised_one q)) = raised q q.condition_is

    module _ (u : Device) (G : ℕ → List Header) (t : ZonesCleared g x w γ l k u G (1 + count_reset g k)) where
      abbrev δ : Ghost
      δ = with_logs γ G γ.parity

      fit : LogsFit g x u heads γ.array
      fit = record {
        reads = λ d a h m. rw (is_of d h m) (reads g ok d false (counters gens) (generations_length (next_generation k) zero g.zones, generations_small (next_generation k) zero g.zones (λ j p. generation_small (next_generation k (zero + j)) (next_most (zero + j) (omega arith)))) (rw (eq-eqb (length gens) g.zones (generations_length (next_generation k) zero g.zones)) refl));
        labels = λ d a y c m. absurd (let e = is_of d (label y c) m in let n : ◌≡◌ {A = ℕ} 0 1 = cc in omega arith);
        closes = λ d a j i m. let e = is_of d (closing j i) m in let n : ◌≡◌ {A = ℕ} 0 1 = cc in omega arith;
        room = λ d a. le_trans (omega (arith, few d)) (room_for g x w γ u G γ.parity (1 + count_reset g k) 1 t.base d a (s.general_room d a) (omega (arith, count_most)));
      }

      module _ (w' : Device) (b : Between g x u (counter_step g k differ) w') where
        abbrev G' : ℕ → List Header
        G' = grown_general δ u w' heads

        lives' : Lives g x w γ l k w' G' γ.parity
        lives' = grown_lives g x w γ l k u G γ.parity (1 + count_reset g k) t.base (counter_step g k differ) heads the_logs w' b t.lives
            (λ z hz q d a h m. other_for g x w γ l k u δ z h (none_of_lem z d h m)) (λ z hz q d a h m. other_head g x u δ l z h (none_of_lem z d h m)) (λ z hz q d a cs m. gens_of z hz d cs m ∙ next_live z q)

        dying' : (z : ℕ) → z < g.zones → Gone g x w γ l k z → Dying g x u δ l z → NoData g x u z → Dying g x w' (with_logs γ G' γ.parity) l z
        dying' z hz o q e = grown_dying g x u δ (counter_step g k differ) heads t.base.logs t.base.settled the_logs w' b l z q (λ d a h m. within z d h m)
            (λ d a cs m. let n = gens_of z hz d cs m in let (p, r) = next_gone z o in record { least = omega (arith, n, p); most = omega (arith, n, r); raises = λ _. e; past = λ _ _ _. omega (arith, n, p) })

        still : (z d : ℕ) → Here g x d → w' d (data_zone z) ≡ u d (data_zone z)
        still z d a = still_data g x u δ (counter_step g k differ) heads t.base.logs t.base.settled the_logs w' b d z a

        part_inv : Invs γ.closed g x w' l
        part_inv = (
          with_logs γ G' γ.parity,
          zones_inv g x w γ l k s w' G' γ.parity (grown_logs g x u δ (counter_step g k differ) heads t.base.logs t.base.settled the_logs w' b fit) lives'
              (λ z hz q. let r = t.gone_zone z hz q in inr (dying' z hz q r.0 r.1)),
          refl,
        )

        module _ (dn : Done g x u (counter_step g k differ) w') where
          counted' : (d : ℕ) → Here g x d → (z : ℕ) → z < g.zones → generation_in z (G' d) ≡ next_generation k z
          unfolding heads
          counted' d a z hz = ap (generation_in z) (done_general g x u δ (counter_step g k differ) heads t.base.logs t.base.settled the_logs w' b dn d a) ∙ go stored refl
            where
              go : (c : Bool) → stored ≡ c → generation_in z (G d ++ pick c (counters gens ∷ []) []) ≡ next_generation k z
              go true e = ap (λ (q : List ℕ). get_or q z zero) (last_counters_append [] (G d) (counters gens ∷ [])) ∙ gens_are z hz
              go false e = ap (generation_in z) (append-nil (G d)) ∙ ap (λ (q : List ℕ). get_or q z zero) (t.counters_same d a) ∙ unstored e d a z hz

          settled' : Base g x w γ w' G' γ.parity (1 + count_reset g k + 1)
          settled' = grown_base g x w γ l k u G γ.parity (1 + count_reset g k) t.base (counter_step g k differ) heads the_logs w' b fit 1 (λ d a. few d) dn

          past' : (z : ℕ) → z < g.zones → Gone g x w γ l k z → Counts g x w' (with_logs γ G' γ.parity) z (λ n. γ.generation z < n)
          past' z hz o d a j h =
              let e : (w' d general_zone).durable ≡ length (G' d) = settled'.settled.lasts d general_zone a ∙ ap length (settled'.logs.general_is d a) ∙ length_map (encode g d) (G' d) in
              let q : take j (G' d) ≡ G' d = take_all j (G' d) (omega (arith, e)) in
              rw (q, counted' d a z hz) (next_gone z o).0

          whole : AfterCounters g x w γ l k (2 + count_reset g k) w'
          whole = (
            G',
            record {
              base = base_count g x w γ w' G' γ.parity (1 + count_reset g k + 1) (2 + count_reset g k) (omega arith) settled';
              lives = lives';
              gone_zone = λ z hz q. let r = t.gone_zone z hz q in record { dying = dying' z hz q r.0 r.1; no_data = λ d a. rw (still z d a) (r.1 d a); past = past' z hz q };
              counted = counted';
            },
            grown_same g x w γ l k u G γ.parity (1 + count_reset g k) t.base (counter_step g k differ) heads the_logs w' b t.same,
          )

    counters_run : (u : Device) → AfterZoneResets g x w γ l k (1 + count_reset g k) u → Runs γ.closed g x l u (concat (with_flush g (present_but g x) (counter_step g k differ))) (AfterCounters g x w γ l k (2 + count_reset g k))
    counters_run u (G, t) = step_runs g x (counter_step g k differ) γ.closed l u (AfterCounters g x w γ l k (2 + count_reset g k)) t.base.settled (λ w' b. part_inv u G t w' b) (λ w' b dn. whole u G t w' b dn)

-- STEP 6, by any answer under which the counters, where they are said not to differ, give the same generations: that of the mount's own look, taken before
-- general logs were emptied, is one
pub counter_step_lem : (g : Geometry) → Valid g → (x : ℕ) (w : Device) (γ : Ghost) (l : Ledger) (k : Shown) → Start g x w γ l k → (differ : Bool) → (differ ≡ false → CountsSame g x w)
    → (u : Device) → AfterZoneResets g x w γ l k (1 + count_reset g k) u
    → Runs γ.closed g x l u (concat (with_flush g (present_but g x) (counter_step g k differ))) (AfterCounters g x w γ l k (2 + count_reset g k))
counter_step_lem g ok x w γ l k s differ same u t = counters_run g ok x w γ l k s differ agree u t
  where
    heads : (d : ℕ) → Here g x d → general_heads g w d ≡ γ.general d
    heads d a = general_heads_lem g ok x w γ s.inv.logs d a

    agree : differ ≡ false → CountsAgree g x γ
    agree e d c a b z hz = ap (generation_in z) (sym (heads d a)) ∙ same e d c a b z hz ∙ ap (generation_in z) (heads c b)
