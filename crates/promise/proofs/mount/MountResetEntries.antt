-- Step 4 of a mount: type 3 again on both its drives for each zone emptied by rule 3. Before it one more loss could take the only reset entry
-- and bring the zone back, which still fits; after its flush the entry lasts on both drives, and the zone is Dying.
use Rattle.std.specs.Prelude.{◌≡◌, ◌≢◌, ◌⊎◌, Bool, false, ◌&&◌, ◌||◌, not, ℕ, zero, ◌+◌, ◌-◌, ◌≤◌, ◌<◌, length}
use Rattle.std.proofs.Math.Path.{refl, ap}
use Rattle.std.proofs.Common.{sym, ◌∙◌, inl, true≢false, le_refl, le_trans, le_of_eq, arith, lt-ltb, eq-eqb}
use Rattle.std.proofs.Math.Logic.{inr}
use Rattle.std.proofs.Math.Bool.{true}
use mathlib.Core.List.{List, Memᴰ}
use Rattle.tables.specs.meaning.Device.{Device}
use Rattle.tables.specs.declared.Geometry.{Geometry}
use Rattle.tables.specs.meaning.Geometry.{Valid, parity_drive_of, first_drive_of, data_zone}
use Rattle.logs.specs.meaning.Entry.{worn_generation, Header, label, counters, zone_reset, closing}
use Rattle.tables.specs.meaning.Drives.{present_but}
use Rattle.tables.specs.meaning.Lists.{concat}
use Rattle.tables.specs.laws.Lists.{mem_right}
use Rattle.promise.specs.meaning.Ledger.{Ledger}
use Rattle.volume.specs.meaning.Rules.{Shown}
use Rattle.volume.specs.meaning.Mount.{with_flush, reset_entry_step}
use Rattle.promise.proofs.invariant.Invariant.{Ghost, Here, Live, Dying, logged, Logged, LoggedIn, reset_lasts, counts_past}
use Rattle.promise.proofs.mount.MountRuns.{Runs, Between, Done, step_runs}
use Rattle.promise.proofs.mount.MountPlan.{Start, AfterLabels, AfterResetEntries, count_reset, LabelsDone, Emptied, Fate, stays, worn_out, gone, Gone, emptied, bare_one, raised_one, NoData, Lives}
use Rattle.std.proofs.Math.Dec.{eqb}
use Rattle.tables.specs.laws.Basics.{or_right, and_split}
use Rattle.logs.specs.laws.Codec.{reads}
use Rattle.logs.specs.laws.Heads.{zone_gen}
use Rattle.volume.specs.meaning.Calls.{logs_reset}
use Rattle.promise.proofs.invariant.HoldsLess.{with_logs}
use Rattle.promise.proofs.invariant.Obligations.{Invs}
use Rattle.promise.proofs.invariant.HoldsMore.{NewHead, other_head}
use Rattle.promise.proofs.mount.MountGeneralLogs.{Logs, LogsFit, logs_zones, for_zones, zones_mem, mem_zones, zones_length, grown_general, grown_logs, grown_live, grown_dying, still_data, done_counters, done_mem}
use Rattle.tables.specs.laws.Below.{count_below_apart}
use Rattle.promise.proofs.mount.MountLiveZones.{other_for, grown_lives, grown_same, grown_base, zones_inv, room_for}
use Rattle.logs.specs.laws.HeadLaws.{generation_small}

module _ (g : Geometry) (ok : Valid g) (x : ℕ) (w : Device) (γ : Ghost) (l : Ledger) (k : Shown) (s : Start g x w γ l k) (u : Device) (G : ℕ → List Header) (t : LabelsDone g x w γ l k u G 1) where
  abbrev δ : Ghost
  δ = with_logs γ G γ.parity

  abbrev test : ℕ → ℕ → Bool
  test d z = (k.zone z).by_reset && logs_reset g z d

  abbrev entry : ℕ → Header
  entry z = zone_reset z (k.zone z).generation

  heads : ℕ → List Header
  heads d = for_zones (test d) entry g.zones

  the_logs : Logs g x (reset_entry_step g k) heads
  unfolding reset_entry_step heads
  the_logs = logs_zones g x test entry

  -- a zone shown emptied by rule 3
  only : (z : ℕ) → z < g.zones → (k.zone z).by_reset ≡ true → Emptied g x w γ l k z
  only z h e = go (s.fate z h)
    where
      go : Fate g x w γ l k z → Emptied g x w γ l k z
      go (stays q) = absurd (true≢false (sym e ∙ q.not_reset))
      go (worn_out q) = absurd (true≢false (sym e ∙ q.not_reset))
      go (gone (emptied q)) = q
      go (gone (bare_one q)) = absurd (true≢false (sym e ∙ q.not_reset))
      go (gone (raised_one q)) = absurd (true≢false (sym e ∙ q.not_reset))

  pub record Is (d : ℕ) (h : Header) : Type 0 where
    pub zone : ℕ
    pub zone_lt : zone < g.zones
    pub is_reset_lem : (k.zone zone).by_reset ≡ true
    pub drive : logs_reset g zone d ≡ true
    pub is : h ≡ zone_reset zone (γ.generation zone)
    pub unworn : γ.generation zone < worn_generation

  is_of : (d : ℕ) (h : Header) → Memᴰ h (heads d) → Is d h
  unfolding heads
  is_of d h m =
      let (z, hz, e, q) = zones_mem (test d) entry g.zones h m in
      let (e1, e2) = and_split (k.zone z).by_reset (logs_reset g z d) e in
      let o = only z hz e1 in
      record { zone = z; zone_lt = hz; is_reset_lem = e1; drive = e2; is = q ∙ ap (zone_reset z) o.generation_is; unworn = o.unworn }

  few : (d : ℕ) → length (heads d) ≤ count_reset g k
  unfolding heads
  few d = zones_length (test d) (λ z. (k.zone z).by_reset) entry g.zones (λ z h e. (and_split (k.zone z).by_reset (logs_reset g z d) e).0)

  count_most : count_reset g k ≤ g.zones
  count_most = omega (arith, count_below_apart (λ z. (k.zone z).by_reset) (λ z. false) g.zones (λ z h e. refl))

  fit : LogsFit g x u heads γ.array
  fit = record {
    reads = λ d a h m. let i = is_of d h m in
        rw i.is (reads g ok d false (zone_reset i.zone (γ.generation i.zone)) (i.zone_lt, generation_small (γ.generation i.zone) (omega (arith, i.unworn))) (rw (lt-ltb i.zone g.zones i.zone_lt) i.drive));
    labels = λ d a y c m. absurd (let i = is_of d (label y c) m in let e = i.is in let n : ◌≡◌ {A = ℕ} 0 1 = cc in omega arith);
    closes = λ d a j c m. let i = is_of d (closing j c) m in let e = i.is in let n : ◌≡◌ {A = ℕ} 0 1 = cc in omega arith;
    room = λ d a. le_trans (omega (arith, few d)) (room_for g x w γ u G γ.parity 1 (count_reset g k) t.base d a (s.general_room d a) (omega (arith, count_most)));
  }

  no_counters : (d : ℕ) (cs : List ℕ) → Memᴰ (counters cs) (heads d) → ⊥
  no_counters d cs m = let e = (is_of d (counters cs) m).is in let n : ◌≡◌ {A = ℕ} 0 1 = cc in omega arith

  -- zones not shown emptied by rule 3
  others : (z : ℕ) → (k.zone z).by_reset ≡ false → (d : ℕ) (h : Header) → Memᴰ h (heads d) → zone_gen h (λ y n. y ≢ z)
  others z e d h m = let i = is_of d h m in rw i.is (λ q. true≢false (sym i.is_reset_lem ∙ rw q e))

  within : (z d : ℕ) (h : Header) → Memᴰ h (heads d) → zone_gen h (λ y n. y ≡ z → n ≤ γ.generation z)
  within z d h m = let i = is_of d h m in rw i.is (λ q. rw q (le_refl (γ.generation z)))

  mine : (z : ℕ) → l.resetting z ≡ true → (d : ℕ) (h : Header) → Memᴰ h (heads d) → NewHead g x u δ l z h
  mine z f d h m = let i = is_of d h m in record {
    sealing = λ c e. absurd (let q = sym i.is ∙ e in let n : ◌≡◌ {A = ℕ} 0 1 = cc in omega arith);
    clearing = λ e. f;
    current = rw i.is (λ q. let n : γ.generation i.zone ≡ γ.generation z = ap γ.generation q in (le_of_eq n, λ r. absurd (omega (arith, i.unworn))));
  }

  module _ (w' : Device) (b : Between g x u (reset_entry_step g k) w') where
    abbrev G' : ℕ → List Header
    G' = grown_general δ u w' heads

    lives' : Lives g x w γ l k w' G' γ.parity
    lives' = grown_lives g x w γ l k u G γ.parity 1 t.base (reset_entry_step g k) heads the_logs w' b t.lives
        (λ z hz q d a h m. other_for g x w γ l k u δ z h (others z q.not_reset d h m)) (λ z hz q d a h m. other_head g x u δ l z h (others z q.not_reset d h m)) (λ z hz q d a cs m. absurd (no_counters d cs m))

    live' : (z : ℕ) → ((d : ℕ) → (h : Header) → Memᴰ h (heads d) → NewHead g x u δ l z h) → Live g x u δ l z → Live g x w' (with_logs γ G' γ.parity) l z
    live' z f q = grown_live g x u δ (reset_entry_step g k) heads t.base.logs t.base.settled the_logs w' b l z q (λ d a h m. f d h m) (λ d a cs m. absurd (no_counters d cs m))

    dying' : (z : ℕ) → Dying g x u δ l z → Dying g x w' (with_logs γ G' γ.parity) l z
    dying' z q = grown_dying g x u δ (reset_entry_step g k) heads t.base.logs t.base.settled the_logs w' b l z q (λ d a h m. within z d h m) (λ d a cs m. absurd (no_counters d cs m))

    quiet' : (z : ℕ) → (k.zone z).by_reset ≡ false → (Live g x u δ l z × (l.committed z ≡ zero)) ⊎ Dying g x u δ l z → (Live g x w' (with_logs γ G' γ.parity) l z × (l.committed z ≡ zero)) ⊎ Dying g x w' (with_logs γ G' γ.parity) l z
    quiet' z e (inl q) = inl (live' z (λ d h m. other_head g x u δ l z h (others z e d h m)) q.0, q.1)
    quiet' z e (inr q) = inr (dying' z q)

    still : (z d : ℕ) → Here g x d → w' d (data_zone z) ≡ u d (data_zone z)
    still z d a = still_data g x u δ (reset_entry_step g k) heads t.base.logs t.base.settled the_logs w' b d z a

    bare' : (z : ℕ) → ((k.zone z).clean ≡ false) ⊎ NoData g x u z → ((k.zone z).clean ≡ false) ⊎ NoData g x w' z
    bare' z (inl q) = inl q
    bare' z (inr q) = inr (λ d a. rw (still z d a) (q d a))

    part_inv : Invs γ.closed g x w' l
    part_inv = (with_logs γ G' γ.parity, zones_inv g x w γ l k s w' G' γ.parity (grown_logs g x u δ (reset_entry_step g k) heads t.base.logs t.base.settled the_logs w' b fit) lives' (λ z hz q. go z hz q), refl)
      where
        go : (z : ℕ) → z < g.zones → Gone g x w γ l k z → Live g x w' (with_logs γ G' γ.parity) l z ⊎ Dying g x w' (with_logs γ G' γ.parity) l z
        go z hz (emptied q) = flagged (t.reset_zone z hz q)
          where
            flagged : (Live g x u δ l z × (l.resetting z ≡ true)) ⊎ Dying g x u δ l z → Live g x w' (with_logs γ G' γ.parity) l z ⊎ Dying g x w' (with_logs γ G' γ.parity) l z
            flagged (inl r) = inl (live' z (mine z r.1) r.0)
            flagged (inr r) = inr (dying' z r)
        go z hz (bare_one q) = quiet (quiet' z q.not_reset (t.bare_zone z hz q).0)
          where
            quiet : (Live g x w' (with_logs γ G' γ.parity) l z × (l.committed z ≡ zero)) ⊎ Dying g x w' (with_logs γ G' γ.parity) l z → Live g x w' (with_logs γ G' γ.parity) l z ⊎ Dying g x w' (with_logs γ G' γ.parity) l z
            quiet (inl r) = inl r.0
            quiet (inr r) = inr r
        go z hz (raised_one q) = inr (dying' z (t.raised_zone z hz q).0)

    -- a zone with its type 3 on both drives
    dies : Done g x u (reset_entry_step g k) w' → (z : ℕ) → z < g.zones → Emptied g x w γ l k z → (Live g x u δ l z × (l.resetting z ≡ true)) ⊎ Dying g x u δ l z → Dying g x w' (with_logs γ G' γ.parity) l z
    unfolding heads
    dies dn z hz o (inr q) = dying' z q
    dies dn z hz o (inl q) =
        let v' = live' z (mine z q.1) q.0 in
        record {
          idle = inr q.1;
          generation_top = o.unworn;
          entries = v'.entries;
          counts = λ d a j h. rw (v'.counts d a j h) (le_refl (γ.generation z), omega (arith, o.unworn));
          raised = λ d a j h r. absurd (omega (arith, v'.counts d a j h));
          why = logged (λ d a c. reset_lasts (done_mem g x u δ (reset_entry_step g k) heads t.base.logs t.base.settled the_logs w' b dn d a (zone_reset z (γ.generation z)) (mem_right (G d) (heads d) (zone_reset z (γ.generation z)) (there d c))));
        }
      where
        there : (d : ℕ) → (d ≡ first_drive_of g z) ⊎ (d ≡ parity_drive_of g z 0) → Memᴰ (zone_reset z (γ.generation z)) (for_zones (test d) entry g.zones)
        there d c = rw (← o.generation_is) (mem_zones (test d) entry g.zones z hz (rw o.is_reset_lem (two c)))
          where
            two : (d ≡ first_drive_of g z) ⊎ (d ≡ parity_drive_of g z 0) → eqb d (first_drive_of g z) || eqb d (parity_drive_of g z 0) ≡ true
            two (inl e) = rw (eq-eqb d (first_drive_of g z) e) refl
            two (inr e) = or_right (eqb d (first_drive_of g z)) (eqb d (parity_drive_of g z 0)) (eq-eqb d (parity_drive_of g z 0) e)

    whole : Done g x u (reset_entry_step g k) w' → AfterResetEntries g x w γ l k (1 + count_reset g k) w'
    whole dn = (
      G',
      record {
        base = grown_base g x w γ l k u G γ.parity 1 t.base (reset_entry_step g k) heads the_logs w' b fit (count_reset g k) (λ d a. few d) dn;
        lives = lives';
        counters_same = λ d a. done_counters g x u δ (reset_entry_step g k) heads t.base.logs t.base.settled the_logs w' b dn d a (no_counters d) ∙ t.counters_same d a;
        same = grown_same g x w γ l k u G γ.parity 1 t.base (reset_entry_step g k) heads the_logs w' b t.same;
        reset_zone = λ z hz q. dies dn z hz q (t.reset_zone z hz q);
        bare_zone = λ z hz q. (quiet' z q.not_reset (t.bare_zone z hz q).0, bare' z (t.bare_zone z hz q).1);
        raised_zone = λ z hz q. let r = t.raised_zone z hz q in (dying' z r.0, λ d a. rw (still z d a) (r.1 d a));
      },
    )

pub reset_entry_step_lem : (g : Geometry) → Valid g → (x : ℕ) (w : Device) (γ : Ghost) (l : Ledger) (k : Shown) → Start g x w γ l k → (u : Device) → AfterLabels g x w γ l k 1 u
    → Runs γ.closed g x l u (concat (with_flush g (present_but g x) (reset_entry_step g k))) (AfterResetEntries g x w γ l k (1 + count_reset g k))
reset_entry_step_lem g ok x w γ l k s u (G, t) = step_runs g x (reset_entry_step g k) γ.closed l u (AfterResetEntries g x w γ l k (1 + count_reset g k)) t.base.settled (λ w' b. part_inv g ok x w γ l k s u G t w' b) (λ w' b dn. whole g ok x w γ l k s u G t w' b dn)
