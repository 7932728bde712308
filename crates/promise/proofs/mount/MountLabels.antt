-- Step 3 of a mount: new labels that name the lost drive. Labels speak of no zone, so every zone stays as it is.
use Rattle.tables.specs.laws.Drives.{find_below_some, present_below}
use Rattle.tables.specs.meaning.Drives.{no_drive, find_below, present_but}
use Rattle.std.specs.Prelude.{◌≡◌, ◌≢◌, ◌⊎◌, Bool, ◌&&◌, eqb}
use Rattle.std.proofs.Math.Path.{refl}
use Rattle.std.proofs.Common.{ap, ◌∙◌, arith}
use Rattle.std.proofs.Math.Logic.{inl, inr}
use Rattle.std.proofs.Math.Bool.{true, false, not}
use Prim.Native.Nat.{ℕ, zero, ◌+◌, ◌-◌, ◌≤◌, ◌<◌, zero-le}
use Rattle.std.proofs.Math.Nat.{le_refl}
use mathlib.Core.List.{List, [], ◌∷◌, Memᴰ}
use Rattle.std.proofs.Math.ListN.{length}
use Rattle.tables.specs.meaning.Device.{Device}
use Rattle.tables.specs.meaning.Basics.{pick}
use Rattle.tables.specs.laws.Basics.{and_split}
use Rattle.tables.specs.declared.Geometry.{Geometry}
use Rattle.tables.specs.meaning.Geometry.{Valid, data_zone}
use Rattle.logs.specs.meaning.Entry.{general_zone, Header, label, counters, encode, closing}
use Rattle.tables.specs.meaning.Lists.{concat}
use Rattle.tables.specs.laws.Lists.{length_map}
use Rattle.promise.specs.meaning.Ledger.{Ledger}
use Rattle.volume.specs.meaning.Rules.{Shown, general_heads, showing}
use Rattle.volume.specs.meaning.Mount.{with_flush, label_step}
use Rattle.promise.proofs.invariant.Invariant.{Ghost, Here, Live, Dying}
use Rattle.promise.proofs.mount.MountRuns.{Runs, Between, Done, step_runs}
use Rattle.promise.proofs.mount.MountPlan.{Start, AfterLabels, LabelsDone, Gone, emptied, bare_one, raised_one, NoData, Lives}
use Rattle.std.proofs.Math.Dec.{ltb}
use borrow.Author.Tests.{ltb-true, lt-ltb}
use Rattle.logs.specs.laws.Codec.{reads}
use Rattle.logs.specs.meaning.Heads.{last_lost}
use Rattle.logs.specs.laws.Heads.{zone_gen}
use Rattle.promise.proofs.invariant.HoldsLess.{with_logs}
use Rattle.promise.proofs.look.LookReads.{begins}
use Rattle.promise.proofs.look.LookLive.{some_present}
use Rattle.promise.proofs.invariant.Obligations.{Invs}
use Rattle.promise.proofs.invariant.HoldsMore.{other_head}
use Rattle.promise.proofs.mount.MountGeneralLogs.{Logs, LogsFit, logs_drives, grown_general, grown_logs, grown_live, grown_dying, still_data, done_counters}
use Rattle.promise.proofs.mount.MountLiveZones.{other_for, grown_lives, grown_same, grown_base, zones_inv}

module _ (g : Geometry) (ok : Valid g) (x : ℕ) (w : Device) (γ : Ghost) (l : Ledger) (k : Shown) (s : Start g x w γ l k) (u : Device) (G : ℕ → List Header) (t : LabelsDone g x w γ l k u G zero) where
  lacks : ℕ → Bool
  lacks d = ltb x g.drives && not (eqb (last_lost no_drive (general_heads g w d)) x)

  heads : ℕ → List Header
  heads d = pick (lacks d) (label x k.array ∷ []) []

  array_is : k.array ≡ γ.array
  unfolding showing
  array_is =
      let (d, a) = some_present g ok x in
      let h : Here g x (find_below (present_but g x) g.drives) = find_below_some (present_but g x) g.drives d (present_below g x d a) a in
      rw s.look (begins g ok x w γ s.inv.logs (find_below (present_but g x) g.drives) h).1

  is_label : (d : ℕ) (h : Header) → Memᴰ h (heads d) → (h ≡ label x k.array) × (x < g.drives)
  unfolding heads lacks
  is_label d h m = go (ltb x g.drives && not (eqb (last_lost no_drive (general_heads g w d)) x)) refl m
    where
      go : (b : Bool) → ltb x g.drives && not (eqb (last_lost no_drive (general_heads g w d)) x) ≡ b → Memᴰ h (pick b (label x k.array ∷ []) []) → (h ≡ label x k.array) × (x < g.drives)
      go true e (Memᴰ.head q) = (q, ltb-true x g.drives (and_split (ltb x g.drives) (not (eqb (last_lost no_drive (general_heads g w d)) x)) e).0)
      go false e x3 = elim x3 [ ]
      go true e (mathlib.Core.List.Memᴰ.tail x8) = elim x8 [ ]

  few : (d : ℕ) → length (heads d) ≤ 1
  unfolding heads
  few d = go (lacks d)
    where
      go : (b : Bool) → length (pick b (label x k.array ∷ []) []) ≤ 1
      go true = le_refl 1
      go false = zero-le

  the_logs : Logs g x (label_step g x k w) heads
  unfolding label_step heads lacks
  the_logs = logs_drives g x (λ d. ltb x g.drives && not (eqb (last_lost no_drive (general_heads g w d)) x)) (label x k.array)

  fit : LogsFit g x u heads γ.array
  fit = record {
    reads = λ d a h m. let (e, q) = is_label d h m in rw e (reads g ok d false (label x k.array) (rw array_is s.inv.logs.array_lt) (rw (lt-ltb x g.drives q) refl));
    labels = λ d a y c m. let (e, q) = is_label d (label y c) m in (inr (let r : y ≡ x = cc in r), (let r : c ≡ k.array = cc in r) ∙ array_is);
    closes = λ d a j i m. let (e, q) = is_label d (closing j i) m in let n : ◌≡◌ {A = ℕ} 0 1 = cc in omega arith;
    room = λ d a. let n : length (u d general_zone).sectors ≡ length (G d) = ap length (t.base.logs.general_is d a) ∙ length_map (encode g d) (G d) in omega (arith, t.base.used d a, s.general_room d a, few d);
  }

  none_of_lem : (z d : ℕ) (h : Header) → Memᴰ h (heads d) → zone_gen h (λ y n. y ≢ z)
  none_of_lem z d h m = rw (is_label d h m).0 tt

  no_counters : (d : ℕ) (cs : List ℕ) → Memᴰ (counters cs) (heads d) → ⊥
  no_counters d cs m = let e = (is_label d (counters cs) m).0 in let n : ◌≡◌ {A = ℕ} 0 1 = cc in omega arith

  zoneless : (z : ℕ) (Q : ℕ → Type 0) (d : ℕ) (h : Header) → Memᴰ h (heads d) → zone_gen h (λ y n. y ≡ z → Q n)
  zoneless z Q d h m = rw (is_label d h m).0 tt

  module _ (w' : Device) (b : Between g x u (label_step g x k w) w') where
    G' : ℕ → List Header
    G' = grown_general (with_logs γ G γ.parity) u w' heads

    lives' : Lives g x w γ l k w' G' γ.parity
    unfolding G'
    lives' = grown_lives g x w γ l k u G γ.parity zero t.base (label_step g x k w) heads the_logs w' b t.lives
        (λ z hz q d a h m. other_for g x w γ l k u (with_logs γ G γ.parity) z h (none_of_lem z d h m)) (λ z hz q d a h m. other_head g x u (with_logs γ G γ.parity) l z h (none_of_lem z d h m)) (λ z hz q d a cs m. absurd (no_counters d cs m))

    live' : (z : ℕ) → Live g x u (with_logs γ G γ.parity) l z → Live g x w' (with_logs γ G' γ.parity) l z
    unfolding G'
    live' z q = grown_live g x u (with_logs γ G γ.parity) (label_step g x k w) heads t.base.logs t.base.settled the_logs w' b l z q (λ d a h m. other_head g x u (with_logs γ G γ.parity) l z h (none_of_lem z d h m)) (λ d a cs m. absurd (no_counters d cs m))

    dying' : (z : ℕ) → Dying g x u (with_logs γ G γ.parity) l z → Dying g x w' (with_logs γ G' γ.parity) l z
    unfolding G'
    dying' z q = grown_dying g x u (with_logs γ G γ.parity) (label_step g x k w) heads t.base.logs t.base.settled the_logs w' b l z q (λ d a h m. zoneless z (λ n. n ≤ γ.generation z) d h m) (λ d a cs m. absurd (no_counters d cs m))

    quiet' : (z : ℕ) → (Live g x u (with_logs γ G γ.parity) l z × (l.committed z ≡ zero)) ⊎ Dying g x u (with_logs γ G γ.parity) l z → (Live g x w' (with_logs γ G' γ.parity) l z × (l.committed z ≡ zero)) ⊎ Dying g x w' (with_logs γ G' γ.parity) l z
    quiet' z (inl q) = inl (live' z q.0, q.1)
    quiet' z (inr q) = inr (dying' z q)

    flagged' : (z : ℕ) → (Live g x u (with_logs γ G γ.parity) l z × (l.resetting z ≡ true)) ⊎ Dying g x u (with_logs γ G γ.parity) l z → (Live g x w' (with_logs γ G' γ.parity) l z × (l.resetting z ≡ true)) ⊎ Dying g x w' (with_logs γ G' γ.parity) l z
    flagged' z (inl q) = inl (live' z q.0, q.1)
    flagged' z (inr q) = inr (dying' z q)

    still : (z d : ℕ) → Here g x d → w' d (data_zone z) ≡ u d (data_zone z)
    still z d a = still_data g x u (with_logs γ G γ.parity) (label_step g x k w) heads t.base.logs t.base.settled the_logs w' b d z a

    bare' : (z : ℕ) → ((k.zone z).clean ≡ false) ⊎ NoData g x u z → ((k.zone z).clean ≡ false) ⊎ NoData g x w' z
    bare' z (inl q) = inl q
    bare' z (inr q) = inr (λ d a. rw (still z d a) (q d a))

    part_inv : Invs γ.closed g x w' l
    unfolding G'
    part_inv = (with_logs γ G' γ.parity, zones_inv g x w γ l k s w' G' γ.parity (grown_logs g x u (with_logs γ G γ.parity) (label_step g x k w) heads t.base.logs t.base.settled the_logs w' b fit) lives' (λ z hz q. go z hz q), refl)
      where
        go : (z : ℕ) → z < g.zones → Gone g x w γ l k z → Live g x w' (with_logs γ G' γ.parity) l z ⊎ Dying g x w' (with_logs γ G' γ.parity) l z
        go z hz (emptied q) = flat (t.reset_zone z hz q)
          where
            flat : (Live g x u (with_logs γ G γ.parity) l z × (l.resetting z ≡ true)) ⊎ Dying g x u (with_logs γ G γ.parity) l z → Live g x w' (with_logs γ G' γ.parity) l z ⊎ Dying g x w' (with_logs γ G' γ.parity) l z
            flat (inl r) = inl (live' z r.0)
            flat (inr r) = inr (dying' z r)
        go z hz (bare_one q) = quiet (t.bare_zone z hz q).0
          where
            quiet : (Live g x u (with_logs γ G γ.parity) l z × (l.committed z ≡ zero)) ⊎ Dying g x u (with_logs γ G γ.parity) l z → Live g x w' (with_logs γ G' γ.parity) l z ⊎ Dying g x w' (with_logs γ G' γ.parity) l z
            quiet (inl r) = inl (live' z r.0)
            quiet (inr r) = inr (dying' z r)
        go z hz (raised_one q) = inr (dying' z (t.raised_zone z hz q).0)

    whole : Done g x u (label_step g x k w) w' → AfterLabels g x w γ l k 1 w'
    unfolding G'
    whole dn = (
      G',
      record {
        base = grown_base g x w γ l k u G γ.parity zero t.base (label_step g x k w) heads the_logs w' b fit 1 (λ d a. few d) dn;
        lives = lives';
        counters_same = λ d a. done_counters g x u (with_logs γ G γ.parity) (label_step g x k w) heads t.base.logs t.base.settled the_logs w' b dn d a (no_counters d) ∙ t.counters_same d a;
        same = grown_same g x w γ l k u G γ.parity zero t.base (label_step g x k w) heads the_logs w' b t.same;
        reset_zone = λ z hz q. flagged' z (t.reset_zone z hz q);
        bare_zone = λ z hz q. (quiet' z (t.bare_zone z hz q).0, bare' z (t.bare_zone z hz q).1);
        raised_zone = λ z hz q. let r = t.raised_zone z hz q in (dying' z r.0, λ d a. rw (still z d a) (r.1 d a));
      },
    )

pub label_step_lem : (g : Geometry) → Valid g → (x : ℕ) (w : Device) (γ : Ghost) (l : Ledger) (k : Shown) → Start g x w γ l k → (u : Device) → AfterLabels g x w γ l k zero u
    → Runs γ.closed g x l u (concat (with_flush g (present_but g x) (label_step g x k w))) (AfterLabels g x w γ l k 1)
label_step_lem g ok x w γ l k s u (G, t) = step_runs g x (label_step g x k w) γ.closed l u (AfterLabels g x w γ l k 1) t.base.settled (λ w' b. part_inv g ok x w γ l k s u G t w' b) (λ w' b dn. whole g ok x w γ l k s u G t w' b dn)
