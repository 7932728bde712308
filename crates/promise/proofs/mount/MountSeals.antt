-- Step 7 of a mount: the seal at its pointer of each zone shown sealed. Every current seal stays at or above what is committed; after the
-- flush the seal lasts on every present drive and is the zone's cap: whatever ends past it is not believed any more.
use Rattle.logs.specs.laws.HeadLaws.{seal_is, generation_small}
use Rattle.std.specs.Prelude.{◌≡◌, refl, ◌≢◌, ◌⊎◌, Bool, ◌&&◌, not, ℕ, zero, ◌+◌, ◌-◌, ◌≤◌, ◌<◌, length, get_or}
use Rattle.std.proofs.Common.{sym, ◌∙◌, subst, inl, inr, true≢false, le_trans, le_of_eq, arith, lt-ltb, le-leb}
use Rattle.std.proofs.Math.Path.{ap}
use Rattle.std.proofs.Math.Bool.{true, false}
use Rattle.std.proofs.Math.Nat.{le_refl}
use Rattle.std.proofs.Math.Decide.{ℕ_discrete}
use mathlib.Core.List.{List, ◌++◌, Memᴰ}
use Rattle.tables.specs.meaning.Device.{Device}
use Rattle.tables.specs.declared.Geometry.{Geometry}
use Rattle.tables.specs.meaning.Geometry.{Valid, zone_sectors, data_zone}
use Rattle.logs.specs.meaning.Entry.{worn_generation, Header, label, counters, seal, closing}
use Rattle.tables.specs.meaning.Drives.{present_but}
use Rattle.tables.specs.meaning.Lists.{concat, any_of}
use Rattle.tables.specs.laws.Lists.{any_of_some, mem_left, mem_right}
use Rattle.promise.specs.meaning.Ledger.{Ledger}
use Rattle.volume.specs.meaning.Rules.{Shown, general_heads}
use Rattle.volume.specs.declared.Condition.{Condition}
use Rattle.volume.specs.declared.Condition.TheVariants.{Empty, Open, Sealed, Worn}
use Rattle.volume.specs.meaning.State.{is_sealed}
use Rattle.volume.specs.meaning.Mount.{with_flush, seal_step}
use Rattle.promise.proofs.invariant.Invariant.{Ghost, Here, Dying, Capped, CappedBelow}
use Rattle.promise.proofs.mount.MountRuns.{Runs, Between, Done, step_runs}
use Rattle.promise.proofs.mount.MountPlan.{Start, AfterCounters, AfterSeals, count_reset, count_sealed, Clean, CountersDone, Same, Stays, Fate, stays, worn_out, gone, emptied, bare_one, raised_one, Lives}
use Rattle.tables.specs.laws.Basics.{and_split}
use Rattle.logs.specs.laws.Codec.{reads}
use Rattle.logs.specs.laws.Heads.{zone_gen}
use Rattle.logs.specs.meaning.Heads.{is_seal_at}
use Rattle.promise.proofs.invariant.HoldsLess.{with_logs}
use Rattle.promise.proofs.look.LookReads.{general_heads_lem}
use Rattle.promise.proofs.invariant.Obligations.{Invs}
use Rattle.promise.proofs.invariant.HoldsMore.{other_head}
use Rattle.promise.proofs.mount.MountGeneralLogs.{Logs, LogsFit, logs_zones, for_zones, zones_mem, mem_zones, zones_length, grown_general, grown_logs, grown_dying, grown_counts, still_data, done_counters, done_mem}
use Rattle.tables.specs.laws.Below.{count_below_apart}
use Rattle.promise.proofs.mount.MountLiveZones.{HeadFor, other_for, grown_lives, grown_same, grown_base, zones_inv, below_up, base_count, room_for}

module _ (g : Geometry) (ok : Valid g) (x : ℕ) (w : Device) (γ : Ghost) (l : Ledger) (k : Shown) (s : Start g x w γ l k) (u : Device) (G : ℕ → List Header) (t : CountersDone g x w γ l k u G γ.parity (2 + count_reset g k)) (sm : Same g x w γ l k u) where
  abbrev δ : Ghost
  δ = with_logs γ G γ.parity

  abbrev shown_pointer : ℕ → ℕ
  shown_pointer z = (k.zone z).pointer

  abbrev test : ℕ → ℕ → Bool
  test d z = is_sealed (k.zone z).condition && not (any_of (is_seal_at z (k.zone z).generation (shown_pointer z)) (general_heads g w d))

  abbrev entry : ℕ → Header
  entry z = seal z (shown_pointer z) (k.zone z).generation

  heads : ℕ → List Header
  heads d = for_zones (test d) entry g.zones

  the_logs : Logs g x (seal_step g k w) heads
  unfolding seal_step heads
  the_logs = logs_zones g x test entry

  -- a zone shown sealed
  pub record Shut (z : ℕ) : Type 0 where
    pub stay : Stays g x w γ l k z
    pub condition_is : (k.zone z).condition ≡ Sealed (shown_pointer z)

  only : (z : ℕ) → z < g.zones → is_sealed (k.zone z).condition ≡ true → Shut z
  only z h e = go (s.fate z h)
    where
      no : {c : Condition} → (k.zone z).condition ≡ c → is_sealed c ≡ false → ⊥
      no q r = true≢false (sym e ∙ rw q r)

      raised : (((k.zone z).condition ≡ Empty) × ((k.zone z).generation < worn_generation)) ⊎ (((k.zone z).condition ≡ Worn zero) × ((k.zone z).generation ≡ worn_generation)) → ⊥
      raised (inl q) = no q.0 refl
      raised (inr q) = no q.0 refl

      how : Stays g x w γ l k z → (((k.zone z).condition ≡ Open (k.zone z).pointer) × Clean g x w γ k z) ⊎ ((k.zone z).condition ≡ Sealed (k.zone z).pointer) → Shut z
      how q (inl r) = absurd (no r.0 refl)
      how q (inr r) = record { stay = q; condition_is = r }

      go : Fate g x w γ l k z → Shut z
      go (stays q) = how q q.how
      go (worn_out q) = absurd (no q.condition_is refl)
      go (gone (emptied q)) = absurd (no q.condition_is refl)
      go (gone (bare_one q)) = absurd (no q.condition_is refl)
      go (gone (raised_one q)) = absurd (raised q.condition_is)

  pub record Is (d : ℕ) (h : Header) : Type 0 where
    pub zone : ℕ
    pub zone_lt : zone < g.zones
    pub is_sealed_lem : is_sealed (k.zone zone).condition ≡ true
    pub shut : Shut zone
    pub is : h ≡ seal zone (shown_pointer zone) (γ.generation zone)

  is_of : (d : ℕ) (h : Header) → Memᴰ h (heads d) → Is d h
  unfolding heads
  is_of d h m =
      let (z, hz, e, q) = zones_mem (test d) entry g.zones h m in
      let (e1, e2) = and_split (is_sealed (k.zone z).condition) (not (any_of (is_seal_at z (k.zone z).generation (shown_pointer z)) (general_heads g w d))) e in
      let o = only z hz e1 in
      record { zone = z; zone_lt = hz; is_sealed_lem = e1; shut = o; is = q ∙ ap (seal z (shown_pointer z)) o.stay.generation_is }

  few : (d : ℕ) → length (heads d) ≤ count_sealed g k
  unfolding heads
  few d = zones_length (test d) (λ z. is_sealed (k.zone z).condition) entry g.zones (λ z h e. (and_split (is_sealed (k.zone z).condition) (not (any_of (is_seal_at z (k.zone z).generation (shown_pointer z)) (general_heads g w d))) e).0)

  count_most : count_reset g k + count_sealed g k ≤ g.zones
  count_most = count_below_apart (λ z. (k.zone z).by_reset) (λ z. is_sealed (k.zone z).condition) g.zones (λ z h e. go z h e (is_sealed (k.zone z).condition) refl)
    where
      go : (z : ℕ) → z < g.zones → (k.zone z).by_reset ≡ true → (b : Bool) → is_sealed (k.zone z).condition ≡ b → b ≡ false
      go z h e true q = absurd (true≢false (sym e ∙ (only z h q).stay.not_reset))
      go z h e false q = refl

  fit : LogsFit g x u heads γ.array
  fit = record {
    reads = λ d a h m. let i = is_of d h m in
        let y = i.zone in
        let q = i.shut.stay in
        let top : shown_pointer y ≤ zone_sectors g = le_trans q.most q.live.fits in
        rw i.is (reads g ok d false (seal y (shown_pointer y) (γ.generation y)) (i.zone_lt, top, generation_small (γ.generation y) (omega (arith, q.unworn)))
        (rw (lt-ltb y g.zones i.zone_lt, lt-ltb 0 (shown_pointer y) q.some, le-leb (shown_pointer y) (zone_sectors g) top) refl));
    labels = λ d a y c m. absurd (let i = is_of d (label y c) m in let e = i.is in let n : ◌≡◌ {A = ℕ} 0 1 = cc in omega arith);
    closes = λ d a j c m. let i = is_of d (closing j c) m in let e = i.is in let n : ◌≡◌ {A = ℕ} 0 1 = cc in omega arith;
    room = λ d a. le_trans (omega (arith, few d)) (room_for g x w γ u G γ.parity (2 + count_reset g k) (count_sealed g k) t.base d a (s.general_room d a) (omega (arith, count_most)));
  }

  no_counters : (d : ℕ) (cs : List ℕ) → Memᴰ (counters cs) (heads d) → ⊥
  no_counters d cs m = let e = (is_of d (counters cs) m).is in let n : ◌≡◌ {A = ℕ} 0 1 = cc in omega arith

  -- zones not shown sealed
  others : (z : ℕ) → is_sealed (k.zone z).condition ≡ false → (d : ℕ) (h : Header) → Memᴰ h (heads d) → zone_gen h (λ y n. y ≢ z)
  others z e d h m = let i = is_of d h m in rw i.is (λ q. true≢false (sym i.is_sealed_lem ∙ rw q e))

  within : (z d : ℕ) (h : Header) → Memᴰ h (heads d) → zone_gen h (λ y n. y ≡ z → n ≤ γ.generation z)
  within z d h m = let i = is_of d h m in rw i.is (λ q. le_of_eq (ap γ.generation q))

  -- its own seal
  mine : (z : ℕ) → Stays g x w γ l k z → (d : ℕ) (h : Header) → Memᴰ h (heads d) → HeadFor g x w γ l k u δ z h
  mine z q d h m = go (is_of d h m) (ℕ_discrete (is_of d h m).zone z)
    where
      up : (f : ℕ) → (f ≤ shown_pointer z) ⊎ CappedBelow g x w γ z f → (f ≤ shown_pointer z) ⊎ CappedBelow g x u δ z f
      up f (inl r) = inl r
      up f (inr r) = inr (below_up g x w γ u G γ.parity (2 + count_reset g k) t.base z f r)

      go : (i : Is d h) → Dec (i.zone ≡ z) → HeadFor g x w γ l k u δ z h
      go i (no n) = other_for g x w γ l k u δ z h (rw i.is n)
      go i (yes e) =
          let a : h ≡ seal z (shown_pointer z) (γ.generation z) = i.is ∙ ap (λ (y : ℕ). seal y (shown_pointer y) (γ.generation y)) e in
          let shut : (k.zone z).condition ≡ Sealed (shown_pointer z) = subst (λ (y : ℕ). (k.zone y).condition ≡ Sealed (shown_pointer y)) e i.shut.condition_is in
          record {
            new = record {
              sealing = λ c r. let v : c ≡ shown_pointer z = (let t : seal z c (γ.generation z) ≡ seal z (shown_pointer z) (γ.generation z) = sym r ∙ a in cc) in
                  (rw v q.least, rw v q.most, λ e b p n o f r2 r3. rw v (up f (q.alone e b p n o f r2 r3)));
              clearing = λ r. absurd (let v = sym a ∙ r in let n : ◌≡◌ {A = ℕ} 0 1 = cc in omega arith);
              current = rw a (λ r. (le_refl (γ.generation z), λ r2. absurd (omega (arith, q.unworn))));
            };
            not_reset = λ r. absurd (let v = sym a ∙ r in let n : ◌≡◌ {A = ℕ} 0 1 = cc in omega arith);
            sealing = λ c r. let v : c ≡ shown_pointer z = (let t : seal z c (γ.generation z) ≡ seal z (shown_pointer z) (γ.generation z) = sym r ∙ a in cc) in
                (le_of_eq (sym v), λ o. let b : Open (shown_pointer z) ≡ Sealed (shown_pointer z) = sym o ∙ shut in let n : ◌≡◌ {A = ℕ} 0 1 = cc in omega arith);
          }

  module _ (w' : Device) (b : Between g x u (seal_step g k w) w') where
    abbrev G' : ℕ → List Header
    G' = grown_general δ u w' heads

    lives' : Lives g x w γ l k w' G' γ.parity
    lives' = grown_lives g x w γ l k u G γ.parity (2 + count_reset g k) t.base (seal_step g k w) heads the_logs w' b t.lives
        (λ z hz q d a h m. mine z q d h m) (λ z hz q d a h m. other_head g x u δ l z h (others z (rw q.condition_is refl) d h m)) (λ z hz q d a cs m. absurd (no_counters d cs m))

    dying' : (z : ℕ) → Dying g x u δ l z → Dying g x w' (with_logs γ G' γ.parity) l z
    dying' z q = grown_dying g x u δ (seal_step g k w) heads t.base.logs t.base.settled the_logs w' b l z q (λ d a h m. within z d h m) (λ d a cs m. absurd (no_counters d cs m))

    still : (z d : ℕ) → Here g x d → w' d (data_zone z) ≡ u d (data_zone z)
    still z d a = still_data g x u δ (seal_step g k w) heads t.base.logs t.base.settled the_logs w' b d z a

    part_inv : Invs γ.closed g x w' l
    part_inv = (with_logs γ G' γ.parity, zones_inv g x w γ l k s w' G' γ.parity (grown_logs g x u δ (seal_step g k w) heads t.base.logs t.base.settled the_logs w' b fit) lives' (λ z hz q. inr (dying' z (t.gone_zone z hz q).dying)), refl)

    -- the seal is on every drive
    has : Done g x u (seal_step g k w) w' → (z : ℕ) → z < g.zones → Stays g x w γ l k z → (k.zone z).condition ≡ Sealed (shown_pointer z) → Capped g x w' (with_logs γ G' γ.parity) z (shown_pointer z)
    unfolding heads
    has dn z hz q e d a = (shown_pointer z, le_refl (shown_pointer z), done_mem g x u δ (seal_step g k w) heads t.base.logs t.base.settled the_logs w' b dn d a (seal z (shown_pointer z) (γ.generation z)) (go (any_of (is_seal_at z (k.zone z).generation (shown_pointer z)) (general_heads g w d)) refl))
      where
        go : (c : Bool) → any_of (is_seal_at z (k.zone z).generation (shown_pointer z)) (general_heads g w d) ≡ c → Memᴰ (seal z (shown_pointer z) (γ.generation z)) (G d ++ for_zones (test d) entry g.zones)
        go true r =
            let r2 : any_of (is_seal_at z (γ.generation z) (shown_pointer z)) (γ.general d) ≡ true = rw (q.generation_is, general_heads_lem g ok x w γ s.inv.logs d a) at r in
            let (h, m, i) = any_of_some (is_seal_at z (γ.generation z) (shown_pointer z)) (γ.general d) r2 in
            let o : Memᴰ (seal z (shown_pointer z) (γ.generation z)) (γ.general d) = rw (seal_is z (γ.generation z) (shown_pointer z) h i) at m in
            let p = t.base.grows d a in
            mem_left (G d) (for_zones (test d) entry g.zones) (seal z (shown_pointer z) (γ.generation z)) (rw (← p.is) (mem_left (γ.general d) p.rest (seal z (shown_pointer z) (γ.generation z)) o))
        go false r = mem_right (G d) (for_zones (test d) entry g.zones) (seal z (shown_pointer z) (γ.generation z)) (rw (← q.generation_is) (mem_zones (test d) entry g.zones z hz (rw (e, r) refl)))

    whole : Done g x u (seal_step g k w) w' → AfterSeals g x w γ l k (2 + (count_reset g k + count_sealed g k)) w'
    whole dn = (
      G',
      record {
        base = base_count g x w γ w' G' γ.parity (2 + count_reset g k + count_sealed g k) (2 + (count_reset g k + count_sealed g k)) (omega arith) (grown_base g x w γ l k u G γ.parity (2 + count_reset g k) t.base (seal_step g k w) heads the_logs w' b fit (count_sealed g k) (λ d a. few d) dn);
        lives = lives';
        gone_zone = λ z hz q. let r = t.gone_zone z hz q in record {
          dying = dying' z r.dying;
          no_data = λ d a. rw (still z d a) (r.no_data d a);
          past = grown_counts g x u δ (seal_step g k w) heads t.base.logs t.base.settled the_logs w' b z (λ n. γ.generation z < n) r.past (λ d a cs m. absurd (no_counters d cs m));
        };
        counted = λ d a z hz. ap (λ (c : List ℕ). get_or c z zero) (done_counters g x u δ (seal_step g k w) heads t.base.logs t.base.settled the_logs w' b dn d a (no_counters d)) ∙ t.counted d a z hz;
      },
      grown_same g x w γ l k u G γ.parity (2 + count_reset g k) t.base (seal_step g k w) heads the_logs w' b sm,
      record { cap = λ z hz q e. has dn z hz q e },
    )

pub seal_step_lem : (g : Geometry) → Valid g → (x : ℕ) (w : Device) (γ : Ghost) (l : Ledger) (k : Shown) → Start g x w γ l k → (u : Device) → AfterCounters g x w γ l k (2 + count_reset g k) u
    → Runs γ.closed g x l u (concat (with_flush g (present_but g x) (seal_step g k w))) (AfterSeals g x w γ l k (2 + (count_reset g k + count_sealed g k)))
seal_step_lem g ok x w γ l k s u (G, t, sm) = step_runs g x (seal_step g k w) γ.closed l u (AfterSeals g x w γ l k (2 + (count_reset g k + count_sealed g k))) t.base.settled (λ w' b. part_inv g ok x w γ l k s u G t sm w' b) (λ w' b dn. whole g ok x w γ l k s u G t sm w' b dn)
