-- Step 5 of a mount: the physical zones of every zone to be emptied are reset. Those with a reset entry are Dying by it; the others show
-- pointer 0 while their data goes, for no entry makes sector 0 known alone.
use Rattle.promise.proofs.mount.MountRuns.{logs_untouched, Runs, Between, Done, step_runs, between_still}
use Rattle.std.specs.Prelude.{◌≡◌, refl, ◌≢◌, ◌⊎◌, Bool, true, false, ◌&&◌, ◌||◌, not, ℕ, zero, ◌+◌, ◌-◌, ◌≤◌, ◌<◌, length, take, eqb}
use Rattle.std.proofs.Common.{sym, ap, ◌∙◌, inl, inr, true≢false, zero-le, le_refl, arith, eq-eqb, ne_eqb}
use Rattle.std.proofs.Math.Decide.{dec_lt}
use mathlib.Core.List.{List, [], ◌∷◌, ◌++◌, Memᴰ}
use Rattle.tables.specs.meaning.Device.{ZoneView, Device, Store, reset, blank_zone, flushed}
use Rattle.tables.specs.meaning.Basics.{pick}
use Rattle.tables.specs.declared.Geometry.{Geometry}
use Rattle.tables.specs.meaning.Geometry.{Valid, physical_zones, data_zone}
use Rattle.logs.specs.meaning.Entry.{general_zone, parity_zone, worn_generation, Header}
use Rattle.tables.specs.meaning.Drives.{present_but}
use Rattle.tables.specs.laws.Drives.{present_below}
use Rattle.tables.specs.meaning.Lists.{concat}
use Rattle.tables.specs.laws.Lists.{Prefix, prefix_nil}
use Rattle.promise.specs.meaning.Ledger.{Ledger}
use Rattle.volume.specs.meaning.Rules.{Shown}
use Rattle.volume.specs.meaning.State.{is_worn}
use Rattle.volume.specs.meaning.Mount.{with_flush, zone_reset_step, needs_reset}
use Rattle.promise.proofs.invariant.Invariant.{Ghost, Here, LogsOk, Live, Dying, CappedBelow, Counts, Why, logged, bare, passed, Spent, spent_of, said}
use Rattle.promise.proofs.mount.MountPlan.{Start, AfterResetEntries, AfterZoneResets, count_reset, ResetsLogged, Base, Stays, Bare, gone, Gone, emptied, bare_one, raised_one, NoData, Lives}
use Rattle.tables.specs.meaning.Below.{each_below}
use Rattle.promise.proofs.invariant.HoldsLess.{with_logs}
use Rattle.promise.proofs.invariant.Obligations.{Invs}
use Rattle.promise.proofs.mount.MountLiveZones.{zones_inv, below_up}
use Rattle.tables.specs.laws.Local.{LocalStore, reset_here, flush_here, apply_all_here, local_stores}
use Rattle.tables.specs.meaning.Placement.{needed}
use Rattle.tables.specs.laws.Placement.{needed_zero}
use Rattle.promise.proofs.content.Columns.{column}
use Rattle.promise.proofs.invariant.HoldsMore.{live_more, why_logged, why_bare}
use Rattle.tables.specs.laws.Phases.{each_below_own, each_below_unseen, each_below_at}
use Rattle.promise.proofs.mount.MountGeneralLogs.{done_settled}

pub needed_none : (g : Geometry) → Valid g → (z d : ℕ) → needed g.drives g.unit z zero d ≡ zero
needed_none g ok z d = needed_zero g.drives g.unit z (omega (arith, ok.drives_least)) (omega (arith, ok.unit_least)) d

-- ---- what places see
module _ (g : Geometry) (k : Shown) where
  abbrev one : ℕ → ℕ → List Store
  one d z = pick (needs_reset (k.zone z)) (reset d (data_zone z) ∷ []) []

  one_other : (d y e z : ℕ) → y ≢ data_zone z → local_stores d y (one e z) ≡ []
  one_other d y e z n = go (needs_reset (k.zone z)) (eqb d e)
    where
      go : (b c : Bool) → local_stores d y (pick b (reset e (data_zone z) ∷ []) []) ≡ []
      go true c = rw (ne_eqb y (data_zone z) n) (last (eqb d e))
        where
          last : (c : Bool) → pick (c && false) (reset_here ∷ []) [] ++ [] ≡ []
          last true = refl
          last false = refl
      go false c = refl

  one_drive : (d y e z : ℕ) → e ≢ d → local_stores d y (one e z) ≡ []
  one_drive d y e z n = go (needs_reset (k.zone z))
    where
      go : (b : Bool) → local_stores d y (pick b (reset e (data_zone z) ∷ []) []) ≡ []
      go true = rw (ne_eqb d e (λ q. n (sym q))) refl
      go false = refl

  one_here : (d z : ℕ) → local_stores d (data_zone z) (one d z) ≡ pick (needs_reset (k.zone z)) (reset_here ∷ []) []
  one_here d z = go (needs_reset (k.zone z))
    where
      go : (b : Bool) → local_stores d (data_zone z) (pick b (reset d (data_zone z) ∷ []) []) ≡ pick b (reset_here ∷ []) []
      go true = rw (eq-eqb d d refl, eq-eqb (data_zone z) (data_zone z) refl) refl
      go false = refl

  clear_unseen : (d y : ℕ) → y < 3 → local_stores d y (zone_reset_step g k) ≡ []
  unfolding zone_reset_step
  clear_unseen d y h = each_below_unseen (λ d. each_below (λ z. one d z) g.zones) d y (λ e. each_below_unseen (λ z. one e z) d y (λ z. one_other d y e z (λ q. omega arith)) g.zones) g.drives

  clear_sees : (d z : ℕ) → d < g.drives → z < g.zones → local_stores d (data_zone z) (zone_reset_step g k) ≡ pick (needs_reset (k.zone z)) (reset_here ∷ []) []
  unfolding zone_reset_step
  clear_sees d z hd hz =
      each_below_own (λ d. each_below (λ z. one d z) g.zones) d (data_zone z) (λ e n. each_below_unseen (λ z. one e z) d (data_zone z) (λ y. one_drive d (data_zone z) e y (λ q. n (sym q))) g.zones) g.drives hd
      ∙ each_below_at (λ y. one d y) d (data_zone z) z (λ y n. one_other d (data_zone z) d y (λ q. n (omega arith))) g.zones hz ∙ one_here d z

prefix_reset : (os : List LocalStore) → Prefix os (reset_here ∷ (flush_here ∷ [])) → (os ≡ []) ⊎ ((os ≡ reset_here ∷ []) ⊎ (os ≡ reset_here ∷ (flush_here ∷ [])))
prefix_reset [] p = inl refl
prefix_reset (a ∷ []) p = inr (inl (let e : a ∷ p.rest ≡ reset_here ∷ (flush_here ∷ []) = p.is in let q : a ≡ reset_here = cc in rw q refl))
prefix_reset (a ∷ (b ∷ [])) p = inr (inr (let e : a ∷ (b ∷ p.rest) ≡ reset_here ∷ (flush_here ∷ []) = p.is in let q : a ≡ reset_here = cc in let r : b ≡ flush_here = cc in rw (q, r) refl))
prefix_reset (a ∷ (b ∷ (c ∷ os))) p = absurd (let e : a ∷ (b ∷ (c ∷ (os ++ p.rest))) ≡ reset_here ∷ (flush_here ∷ []) = p.is in let n : ◌≡◌ {A = ℕ} 0 1 = cc in omega arith)

module _ (g : Geometry) (ok : Valid g) (x : ℕ) (w : Device) (γ : Ghost) (l : Ledger) (k : Shown) (s : Start g x w γ l k) (u : Device) (G : ℕ → List Header) (t : ResetsLogged g x w γ l k u G (1 + count_reset g k)) where
  abbrev δ : Ghost
  δ = with_logs γ G γ.parity

  module _ (w' : Device) (b : Between g x u (zone_reset_step g k) w') where
    still : (d y : ℕ) → Here g x d → y < 3 → w' d y ≡ u d y
    still d y a h =
        let (os, p, q) = b d y a in
        q ∙ between_still (u d y) os (rw (clear_unseen g k d y h) at p) (t.base.settled.lasts d y a)

    after_reset : (d z : ℕ) → Here g x d → z < g.zones → (w' d (data_zone z) ≡ u d (data_zone z)) ⊎ ((needs_reset (k.zone z) ≡ true) × (w' d (data_zone z) ≡ blank_zone))
    after_reset d z a hz =
        let (os, p, q) = b d (data_zone z) a in
        go (needs_reset (k.zone z)) refl os (rw (clear_sees g k d z (present_below g x d a) hz) at p) q
      where
        go : (c : Bool) → needs_reset (k.zone z) ≡ c → (os : List LocalStore) → Prefix os (pick c (reset_here ∷ []) [] ++ (flush_here ∷ [])) → w' d (data_zone z) ≡ apply_all_here os (u d (data_zone z)) → (w' d (data_zone z) ≡ u d (data_zone z)) ⊎ ((needs_reset (k.zone z) ≡ true) × (w' d (data_zone z) ≡ blank_zone))
        go true e os p q = which (prefix_reset os p)
          where
            which : (os ≡ []) ⊎ ((os ≡ reset_here ∷ []) ⊎ (os ≡ reset_here ∷ (flush_here ∷ []))) → (w' d (data_zone z) ≡ u d (data_zone z)) ⊎ ((needs_reset (k.zone z) ≡ true) × (w' d (data_zone z) ≡ blank_zone))
            which (inl r) = inl (q ∙ rw r refl)
            which (inr (inl r)) = inr (e, q ∙ rw r refl)
            which (inr (inr r)) = inr (e, q ∙ rw r refl)
        go false e os p q = inl (q ∙ between_still (u d (data_zone z)) os p (t.base.settled.lasts d (data_zone z) a))

    logs' : LogsOk g x w' δ
    logs' = let lg = t.base.logs in logs_untouched g x u w' δ lg still (λ d y a h. any d y a h (λ q. q.durable ≤ length q.sectors) (lg.lasting d y a h) (le_refl zero) (dec_lt y 3)) (λ d y a h. any d y a h (λ q. length q.sectors ≤ g.capacity) (lg.place_fits d y a h) zero-le (dec_lt y 3))
      where
        any : (d y : ℕ) → Here g x d → y < physical_zones g → (Q : ZoneView → Type 0) → Q (u d y) → Q blank_zone → Dec (y < 3) → Q (w' d y)
        any d y a h Q p n (yes e) = rw (still d y a e) p
        any d y a h Q p n (no e) =
            let z = y - 3 in
            let q : y ≡ data_zone z = omega arith in
            rw q (go z (rw q at p) (after_reset d z a (omega arith)))
          where
            go : (z : ℕ) → Q (u d (data_zone z)) → (w' d (data_zone z) ≡ u d (data_zone z)) ⊎ ((needs_reset (k.zone z) ≡ true) × (w' d (data_zone z) ≡ blank_zone)) → Q (w' d (data_zone z))
            go z p (inl r) = rw r p
            go z p (inr r) = rw r.1 n

    lasts : (d : ℕ) → Here g x d → (h : Header) → Memᴰ h (take (u d general_zone).durable (G d)) → Memᴰ h (take (w' d general_zone).durable (G d))
    lasts d a h m = rw (still d general_zone a (omega arith)) m

    counts_on : (z : ℕ) (Q : ℕ → Type 0) → Counts g x u δ z Q → Counts g x w' δ z Q
    counts_on z Q h d a j n = h d a j (rw (← still d general_zone a (omega arith)) n)

    live' : (z : ℕ) → z < g.zones → Live g x u δ l z → (needs_reset (k.zone z) ≡ true → l.committed z ≡ zero) → Live g x w' δ l z
    live' z hz h c = live_more g x u w' δ G γ.parity lasts l z (λ d a e q m. rw (still d parity_zone a (omega arith)) m) h (λ d a f m. inl m) (λ d a e m. inl m) (counts_on z (λ n. n ≡ γ.generation z) h.counts)
        (λ d a. place d a (after_reset d z a hz)) (λ d a. deep d a (after_reset d z a hz))
      where
        place : (d : ℕ) → Here g x d → (w' d (data_zone z) ≡ u d (data_zone z)) ⊎ ((needs_reset (k.zone z) ≡ true) × (w' d (data_zone z) ≡ blank_zone)) → Prefix (w' d (data_zone z)).sectors (column g.drives g.unit z (γ.laid z) d)
        place d a (inl r) = rw r (h.places d a)
        place d a (inr r) = rw r.1 (prefix_nil (column g.drives g.unit z (γ.laid z) d))

        deep : (d : ℕ) → Here g x d → (w' d (data_zone z) ≡ u d (data_zone z)) ⊎ ((needs_reset (k.zone z) ≡ true) × (w' d (data_zone z) ≡ blank_zone)) → needed g.drives g.unit z (l.committed z) d ≤ (w' d (data_zone z)).durable
        deep d a (inl r) = rw r (h.strong.places d a)
        deep d a (inr r) = rw (c r.0, needed_none g ok z d) zero-le

    less_data : (z d : ℕ) → Here g x d → z < g.zones → (u d (data_zone z)).sectors ≡ [] → (w' d (data_zone z)).sectors ≡ []
    less_data z d a hz e = go (after_reset d z a hz)
      where
        go : (w' d (data_zone z) ≡ u d (data_zone z)) ⊎ ((needs_reset (k.zone z) ≡ true) × (w' d (data_zone z) ≡ blank_zone)) → (w' d (data_zone z)).sectors ≡ []
        go (inl r) = rw r e
        go (inr r) = rw r.1 refl

    dying' : (z : ℕ) → z < g.zones → Dying g x u δ l z → Dying g x w' δ l z
    dying' z hz h = record {
      idle = h.idle;
      generation_top = h.generation_top;
      entries = h.entries;
      counts = counts_on z (λ n. (γ.generation z ≤ n) × (n ≤ worn_generation)) h.counts;
      raised = λ d a j n q e i. less_data z e i hz (h.raised d a j (rw (← still d general_zone a (omega arith)) n) q e i);
      why = reason h.why;
    }
      where
        reason : Why g x u δ z → Why g x w' δ z
        reason (logged q) = logged (why_logged g x u w' δ G γ.parity lasts z (λ d a p j n. p j (rw (← still d general_zone a (omega arith)) n)) q)
        reason (bare q r) = bare (λ d a. less_data z d a hz (q d a)) (why_bare g x u w' δ G γ.parity lasts z (λ d a p j n. p j (rw (← still d general_zone a (omega arith)) n)) (λ d a. refl) r)
        reason (passed q) = passed (counts_on z (λ n. γ.generation z < n) q)

    stays_on : (z : ℕ) → Stays g x w γ l k z → needs_reset (k.zone z) ≡ false
    stays_on z q = go (not (is_worn (k.zone z).condition)) (not (k.zone z).clean)
      where
        go : (b c : Bool) → b && ((k.zone z).by_reset || (c && eqb (k.zone z).pointer 0)) ≡ false
        go true true = rw (q.not_reset, ne_eqb (k.zone z).pointer 0 (λ e. omega (arith, q.some))) refl
        go true false = rw q.not_reset refl
        go false c = refl

    same_data : (z d : ℕ) → Here g x d → z < g.zones → needs_reset (k.zone z) ≡ false → w' d (data_zone z) ≡ u d (data_zone z)
    same_data z d a hz e = go (after_reset d z a hz)
      where
        go : (w' d (data_zone z) ≡ u d (data_zone z)) ⊎ ((needs_reset (k.zone z) ≡ true) × (w' d (data_zone z) ≡ blank_zone)) → w' d (data_zone z) ≡ u d (data_zone z)
        go (inl r) = r
        go (inr r) = absurd (true≢false (sym r.0 ∙ e))

    lives' : Lives g x w γ l k w' G γ.parity
    lives' = record {
      staying = λ z hz q. let r = t.lives.staying z hz q in record { live = live' z hz r.live (λ e. absurd (true≢false (sym e ∙ stays_on z q))); no_seal = r.no_seal; no_reset = r.no_reset; seals_past = r.seals_past; ends_in = r.ends_in };
      worn_live = λ z hz q. live' z hz (t.lives.worn_live z hz q) (λ e. absurd (true≢false (sym e ∙ rw q.condition_is refl)));
    }

    -- a zone shown with pointer 0 that is not emptied by rule 3
    quiet : (z : ℕ) → z < g.zones → (Live g x u δ l z × (l.committed z ≡ zero)) ⊎ Dying g x u δ l z → (Live g x w' δ l z × (l.committed z ≡ zero)) ⊎ Dying g x w' δ l z
    quiet z hz (inl q) = inl (live' z hz q.0 (λ e. q.1), q.1)
    quiet z hz (inr q) = inr (dying' z hz q)

    part_inv : Invs γ.closed g x w' l
    part_inv = (δ, zones_inv g x w γ l k s w' G γ.parity logs' lives' (λ z hz q. go z hz q), refl)
      where
        go : (z : ℕ) → z < g.zones → Gone g x w γ l k z → Live g x w' δ l z ⊎ Dying g x w' δ l z
        go z hz (emptied q) = inr (dying' z hz (t.reset_zone z hz q))
        go z hz (bare_one q) = flat (quiet z hz (t.bare_zone z hz q).0)
          where
            flat : (Live g x w' δ l z × (l.committed z ≡ zero)) ⊎ Dying g x w' δ l z → Live g x w' δ l z ⊎ Dying g x w' δ l z
            flat (inl r) = inl r.0
            flat (inr r) = inr r
        go z hz (raised_one q) = inr (dying' z hz (t.raised_zone z hz q).0)

    module _ (dn : Done g x u (zone_reset_step g k) w') where
      emptied' : (z d : ℕ) → Here g x d → z < g.zones → needs_reset (k.zone z) ≡ true → (w' d (data_zone z)).sectors ≡ []
      emptied' z d a hz e =
          let q : local_stores d (data_zone z) (zone_reset_step g k) ≡ reset_here ∷ [] = clear_sees g k d z (present_below g x d a) hz ∙ rw e refl in
          ap (λ (n : ZoneView). n.sectors) (dn d (data_zone z) a ∙ ap (λ (o : List LocalStore). flushed (apply_all_here o (u d (data_zone z)))) q)

      base' : Base g x w γ w' G γ.parity (1 + count_reset g k)
      base' = record { logs = logs'; settled = done_settled g x u (zone_reset_step g k) w' dn; grows = t.base.grows; used = t.base.used }

      no_data' : (z : ℕ) → z < g.zones → Bare g x w γ l k z → ((k.zone z).clean ≡ false) ⊎ NoData g x u z → NoData g x w' z
      no_data' z hz q (inl e) d a = emptied' z d a hz (rw (q.condition_is, q.not_reset, e, q.none) refl)
      no_data' z hz q (inr e) d a = less_data z d a hz (e d a)

      -- it dies now: its data is gone
      dies : (z : ℕ) → Bare g x w γ l k z → NoData g x w' z → (Live g x w' δ l z × (l.committed z ≡ zero)) ⊎ Dying g x w' δ l z → Dying g x w' δ l z
      dies z q n (inr h) = h
      dies z q n (inl h) = record {
        idle = inl h.1;
        generation_top = q.unworn;
        entries = h.0.entries;
        counts = λ d a j m. rw (h.0.counts d a j m) (le_refl (γ.generation z), omega (arith, q.unworn));
        raised = λ d a j m r. absurd (omega (arith, h.0.counts d a j m));
        why = bare n (λ d a p m o f r. spend f (up f (q.no_entry_lem d a p m o f r)));
      }
        where
          up : (f : ℕ) → (g.unit < f) ⊎ CappedBelow g x w γ z f → (g.unit < f) ⊎ CappedBelow g x w' δ z f
          up f (inl r) = inl r
          up f (inr r) = inr (below_up g x w γ w' G γ.parity (1 + count_reset g k) base' z f r)

          spend : (f : ℕ) → (g.unit < f) ⊎ CappedBelow g x w' δ z f → (g.unit < f) ⊎ Spent g x w' δ z f
          spend f (inl r) = inl r
          spend f (inr r) = inr (spent_of g x (said g w' δ z) z (γ.generation z) f r)

      whole : AfterZoneResets g x w γ l k (1 + count_reset g k) w'
      whole = (
        G,
        record {
          base = base';
          lives = lives';
          counters_same = t.counters_same;
          same = record { data_same = λ z hz q d a. same_data z d a hz (stays_on z q) ∙ t.same.data_same z hz q d a };
          gone_zone = λ z hz q. go z hz q;
        },
      )
        where
          go : (z : ℕ) → z < g.zones → Gone g x w γ l k z → Dying g x w' δ l z × NoData g x w' z
          go z hz (emptied q) = (dying' z hz (t.reset_zone z hz q), λ d a. emptied' z d a hz (rw (q.condition_is, q.is_reset_lem) refl))
          go z hz (bare_one q) = let r = t.bare_zone z hz q in let n = no_data' z hz q r.1 in (dies z q n (quiet z hz r.0), n)
          go z hz (raised_one q) = let r = t.raised_zone z hz q in (dying' z hz r.0, λ d a. less_data z d a hz (r.1 d a))

pub zone_reset_step_lem : (g : Geometry) → Valid g → (x : ℕ) (w : Device) (γ : Ghost) (l : Ledger) (k : Shown) → Start g x w γ l k → (u : Device) → AfterResetEntries g x w γ l k (1 + count_reset g k) u
    → Runs γ.closed g x l u (concat (with_flush g (present_but g x) (zone_reset_step g k))) (AfterZoneResets g x w γ l k (1 + count_reset g k))
zone_reset_step_lem g ok x w γ l k s u (G, t) = step_runs g x (zone_reset_step g k) γ.closed l u (AfterZoneResets g x w γ l k (1 + count_reset g k)) t.base.settled (λ w' b. part_inv g ok x w γ l k s u G t w' b) (λ w' b dn. whole g ok x w γ l k s u G t w' b dn)
