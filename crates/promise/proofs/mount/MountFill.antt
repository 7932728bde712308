-- Step 9 of a mount: sectors missing below the pointer, and parity of complete stripes. Each present drive's column is filled as far as the
-- pointer needs, with values that are the content's, so that afterwards the loss of a drive costs nothing.
use Rattle.promise.proofs.mount.MountRuns.{logs_untouched, Runs, Between, Done, step_runs, between_still, between_adds, Joined, joined_by}
use Rattle.tables.specs.laws.Lists.{prefix_same, Prefix, prefix_take, prefix_trans, prefix_length}
use Rattle.tables.specs.meaning.Lists.{concat}
use Rattle.tables.specs.laws.Sizes.{needed_fits}
use Rattle.std.specs.Prelude.{◌≡◌, refl, ◌≢◌, ◌⊎◌, take}
use Rattle.std.proofs.Common.{sym, ap₂, ◌∙◌, inl, inr, le_trans, le_of_eq, arith, length-append}
use Rattle.std.proofs.Math.Path.{ap}
use Prim.Native.Nat.{ℕ, zero, ◌+◌, ◌-◌, ◌≤◌, ◌<◌}
use Rattle.std.proofs.Math.Decide.{ℕ_discrete, dec_lt}
use mathlib.Core.List.{List, [], ◌++◌, map, append-nil, append_assoc, Memᴰ}
use Rattle.std.proofs.Math.ListN.{length}
use Rattle.tables.specs.meaning.Device.{ZoneView, Device, Store, flushed}
use Rattle.tables.specs.declared.Geometry.{Geometry}
use Rattle.tables.specs.meaning.Geometry.{Valid, physical_zones, data_zone}
use Rattle.logs.specs.meaning.Entry.{general_zone, parity_zone, worn_generation, Header, seal, Entry}
use Rattle.tables.specs.meaning.Drives.{present_but}
use Rattle.tables.specs.laws.Drives.{present_below}
use Rattle.promise.specs.meaning.Ledger.{Ledger}
use Rattle.volume.specs.meaning.Rules.{Shown}
use Rattle.volume.specs.declared.Condition.TheVariants.{Open, Sealed}
use Rattle.volume.specs.meaning.Mount.{with_flush, fill_step}
use Rattle.promise.proofs.invariant.Invariant.{Ghost, Here, LogsOk, Live, Counts, passed}
use Rattle.promise.proofs.mount.MountPlan.{Start, AfterTornRows, AfterFill, count_reset, count_sealed, CountersDone, Caps, Same, Passed, Base, Stays, Fate, stays, worn_out, gone, Gone, emptied, bare_one, raised_one, NoData, Lives, Clean, Wholes}
use Rattle.tables.specs.meaning.Below.{each_below, tabulate_from}
use Rattle.tables.specs.laws.Below.{tabulate_from_add, tabulate_from_cong, length_tabulate_from}
use Rattle.promise.proofs.invariant.HoldsLess.{with_logs}
use Rattle.promise.proofs.invariant.Obligations.{Invs}
use Rattle.promise.proofs.mount.MountLiveZones.{zones_inv}
use Rattle.tables.specs.laws.Local.{LocalStore, append_here, apply_all_here, local_stores, appends_here}
use Rattle.tables.specs.meaning.Placement.{needed}
use Rattle.volume.specs.meaning.Calls.{append_all}
use Rattle.volume.specs.meaning.Content.{content_at, at}
use Rattle.tables.specs.laws.Placement.{needed_mono}
use Rattle.promise.proofs.content.Columns.{column, content_at_cong}
use Rattle.promise.proofs.calls.WriteLocal.{appends_other_zone, appends_own, appends_other_drive}
use Rattle.promise.proofs.mount.MountZoneResets.{needed_none}
use Rattle.promise.proofs.invariant.HoldsMore.{live_more}
use Rattle.tables.specs.laws.Phases.{each_below_own, each_below_unseen, each_below_at}
use Rattle.promise.proofs.mount.MountGeneralLogs.{done_settled}

-- a front of a column, continued
pub prefix_filled : (f : ℕ → List ℕ) (xs : List (List ℕ)) (m n : ℕ) → Prefix xs (tabulate_from f zero n) → m ≤ n → Prefix (xs ++ tabulate_from f (length xs) (m - length xs)) (tabulate_from f zero n)
prefix_filled f xs m n p h = go (dec_lt (length xs) m)
  where
    go : Dec (length xs < m) → Prefix (xs ++ tabulate_from f (length xs) (m - length xs)) (tabulate_from f zero n)
    go (yes l) =
        let i = length xs in
        let e : n ≡ i + ((m - i) + (n - m)) = omega arith in
        let z : zero + i ≡ i = omega arith in
        let q : i + (m - i) ≡ m = omega arith in
        let c : tabulate_from f zero n ≡ tabulate_from f zero i ++ (tabulate_from f i (m - i) ++ tabulate_from f m (n - m)) =
        ap (tabulate_from f zero) e ∙ tabulate_from_add f zero i ((m - i) + (n - m)) ∙ ap (λ (t : List (List ℕ)). tabulate_from f zero i ++ t) (rw z (tabulate_from_add f i (m - i) (n - m) ∙ rw q refl)) in
        let x : xs ≡ tabulate_from f zero i = prefix_same xs (tabulate_from f zero i) (tabulate_from f zero n) p (record { rest = tabulate_from f i (m - i) ++ tabulate_from f m (n - m); is = sym c }) (sym (length_tabulate_from f zero i)) in
        record { rest = tabulate_from f m (n - m); is = append_assoc xs (tabulate_from f i (m - i)) (tabulate_from f m (n - m)) ∙ ap (λ (t : List (List ℕ)). t ++ (tabulate_from f i (m - i) ++ tabulate_from f m (n - m))) x ∙ sym c }
    go (no l) = let e : m - length xs ≡ zero = omega arith in rw (e, append-nil xs) p

module _ (g : Geometry) (k : Shown) (w : Device) where
  -- what joins a place
  abbrev pub missing : ℕ → ℕ → List (List ℕ)
  missing d z = tabulate_from (content_at g.drives g.unit z (k.zone z).value d) (length (w d (data_zone z)).sectors) (needed g.drives g.unit z (k.zone z).pointer d - length (w d (data_zone z)).sectors)

  abbrev one : ℕ → ℕ → List Store
  one d z = append_all d (data_zone z) (missing d z)

  fill_unseen : (d y : ℕ) → y < 3 → local_stores d y (fill_step g k w) ≡ []
  unfolding fill_step
  fill_unseen d y h = each_below_unseen (λ d. each_below (λ z. one d z) g.zones) d y (λ e. each_below_unseen (λ z. one e z) d y (λ z. appends_other_zone d e y (data_zone z) (missing e z) (λ q. omega arith)) g.zones) g.drives

  fill_sees : (d z : ℕ) → d < g.drives → z < g.zones → local_stores d (data_zone z) (fill_step g k w) ≡ map append_here (missing d z)
  unfolding fill_step
  fill_sees d z hd hz =
      each_below_own (λ d. each_below (λ z. one d z) g.zones) d (data_zone z) (λ e n. each_below_unseen (λ z. one e z) d (data_zone z) (λ y. other e y (λ q. n (sym q))) g.zones) g.drives hd
      ∙ each_below_at (λ y. one d y) d (data_zone z) z (λ y n. appends_other_zone d d (data_zone z) (data_zone y) (missing d y) (λ q. n (omega arith))) g.zones hz ∙ appends_own d (data_zone z) (missing d z)
    where
      other : (e y : ℕ) → e ≢ d → local_stores d (data_zone z) (one e y) ≡ []
      other e y n = go (ℕ_discrete z y)
        where
          go : Dec (z ≡ y) → local_stores d (data_zone z) (append_all e (data_zone y) (missing e y)) ≡ []
          go (yes q) = rw q (appends_other_drive d e (data_zone y) (missing e y) (λ r. n (sym r)))
          go (no q) = appends_other_zone d e (data_zone z) (data_zone y) (missing e y) (λ r. q (omega arith))

module _ (g : Geometry) (ok : Valid g) (x : ℕ) (w : Device) (γ : Ghost) (l : Ledger) (k : Shown) (s : Start g x w γ l k) (u : Device) (G : ℕ → List Header) (P : ℕ → List Entry)
    (t : CountersDone g x w γ l k u G P (2 + (count_reset g k + count_sealed g k))) (sm : Same g x w γ l k u) (cp : Caps g x w γ l k u G P) (wh : Wholes g x w P) where
  abbrev δ : Ghost
  δ = with_logs γ G P

  h_d : 1 < g.drives
  h_d = omega (arith, ok.drives_least)

  h_u : zero < g.unit
  h_u = omega (arith, ok.unit_least)

  -- zones that do not stay have pointer 0: nothing joins
  none_of_lem : (z d : ℕ) → (k.zone z).pointer ≡ zero → missing g k w d z ≡ []
  none_of_lem z d e =
      let q : needed g.drives g.unit z (k.zone z).pointer d - length (w d (data_zone z)).sectors ≡ zero = rw (e, needed_none g ok z d) (omega arith) in
      rw q refl

  gone_zero : (z : ℕ) → Gone g x w γ l k z → (k.zone z).pointer ≡ zero
  gone_zero z (emptied q) = q.none
  gone_zero z (bare_one q) = q.none
  gone_zero z (raised_one q) = q.none

  module _ (w' : Device) (b : Between g x u (fill_step g k w) w') where
    still : (d y : ℕ) → Here g x d → y < 3 → w' d y ≡ u d y
    still d y a h =
        let (os, p, q) = b d y a in
        q ∙ between_still (u d y) os (rw (fill_unseen g k w d y h) at p) (t.base.settled.lasts d y a)

    still_zero : (d z : ℕ) → Here g x d → z < g.zones → (k.zone z).pointer ≡ zero → w' d (data_zone z) ≡ u d (data_zone z)
    still_zero d z a hz e =
        let (os, p, q) = b d (data_zone z) a in
        let n : local_stores d (data_zone z) (fill_step g k w) ≡ [] = fill_sees g k w d z (present_below g x d a) hz ∙ ap (map append_here) (none_of_lem z d e) in
        q ∙ between_still (u d (data_zone z)) os (rw n at p) (t.base.settled.lasts d (data_zone z) a)

    zone_content : (d z : ℕ) → Here g x d → z < g.zones → Joined (u d (data_zone z)) (w' d (data_zone z)) (missing g k w d z) (joined_by (u d (data_zone z)) (w' d (data_zone z)))
    zone_content d z a hz =
        let (os, p, q) = b d (data_zone z) a in
        between_adds (missing g k w d z) os (u d (data_zone z)) (w' d (data_zone z)) (rw (fill_sees g k w d z (present_below g x d a) hz) at p) q (le_of_eq (t.base.settled.lasts d (data_zone z) a))

    -- all that joins is the column's
    filled : (d z : ℕ) → Here g x d → z < g.zones → Stays g x w γ l k z → Prefix ((u d (data_zone z)).sectors ++ missing g k w d z) (column g.drives g.unit z (γ.laid z) d)
    unfolding column
    filled d z a hz q =
        let hd = present_below g x d a in
        let n = (k.zone z).pointer in
        let N = length (γ.laid z) in
        let i = length (u d (data_zone z)).sectors in
        let j = needed g.drives g.unit z n d in
        let f = content_at g.drives g.unit z (at (γ.laid z)) d in
        let same : length (w d (data_zone z)).sectors ≡ i = ap (λ (v : ZoneView). length v.sectors) (sym (sm.data_same z hz q d a)) in
        let up : n + (N - n) ≡ N = omega (arith, q.most) in
        let le : j ≤ needed g.drives g.unit z N d = rw up at (needed_mono g.drives g.unit z h_d h_u (N - n) n d hd) in
        let c : missing g k w d z ≡ tabulate_from f i (j - i) =
        ap (λ (r : ℕ). tabulate_from (content_at g.drives g.unit z (k.zone z).value d) r (j - r)) same
        ∙ tabulate_from_cong (content_at g.drives g.unit z (k.zone z).value d) f i i (j - i) (λ r h. content_at_cong g.drives g.unit z h_d h_u (k.zone z).value (at (γ.laid z)) n q.values d (i + r) hd (omega (arith, h))) in
        rw c (prefix_filled f (u d (data_zone z)).sectors j (needed g.drives g.unit z N d) ((t.lives.staying z hz q).live.places d a) le)

    part_pre : (d z : ℕ) → Here g x d → z < g.zones → Stays g x w γ l k z → Prefix (w' d (data_zone z)).sectors (column g.drives g.unit z (γ.laid z) d)
    part_pre d z a hz q =
        let m = joined_by (u d (data_zone z)) (w' d (data_zone z)) in
        let r = prefix_take m (missing g k w d z) in
        let v : Prefix ((u d (data_zone z)).sectors ++ take m (missing g k w d z)) ((u d (data_zone z)).sectors ++ missing g k w d z) =
        record { rest = r.rest; is = append_assoc (u d (data_zone z)).sectors (take m (missing g k w d z)) r.rest ∙ ap (λ (o : List (List ℕ)). (u d (data_zone z)).sectors ++ o) r.is } in
        rw (zone_content d z a hz).sectors_are (prefix_trans v (filled d z a hz q))

    part_fits : (d z : ℕ) → Here g x d → z < g.zones → length (w' d (data_zone z)).sectors ≤ g.capacity
    part_fits d z a hz = go (s.fate z hz)
      where
        old : (k.zone z).pointer ≡ zero → length (w' d (data_zone z)).sectors ≤ g.capacity
        old e = rw (still_zero d z a hz e) (t.base.logs.place_fits d (data_zone z) a (omega arith))

        go : Fate g x w γ l k z → length (w' d (data_zone z)).sectors ≤ g.capacity
        go (stays q) =
            let r : length (w' d (data_zone z)).sectors ≤ length (column g.drives g.unit z (γ.laid z) d) = prefix_length (part_pre d z a hz q) in
            let n : length (column g.drives g.unit z (γ.laid z) d) ≡ needed g.drives g.unit z (length (γ.laid z)) d = unfold column in length_tabulate_from (content_at g.drives g.unit z (at (γ.laid z)) d) zero (needed g.drives g.unit z (length (γ.laid z)) d) in
            omega (arith, r, n, needed_fits g ok z (length (γ.laid z)) d q.live.fits)
        go (worn_out q) = old q.none
        go (gone q) = old (gone_zero z q)

    logs' : LogsOk g x w' δ
    logs' = let lg = t.base.logs in logs_untouched g x u w' δ lg still (λ d y a h. low d y a h (dec_lt y 3)) (λ d y a h. fit d y a h (dec_lt y 3))
      where
        low : (d y : ℕ) → Here g x d → y < physical_zones g → Dec (y < 3) → (w' d y).durable ≤ length (w' d y).sectors
        low d y a h (yes e) = rw (still d y a e) (t.base.logs.lasting d y a h)
        low d y a h (no e) = let q : y ≡ data_zone (y - 3) = omega arith in rw q (zone_content d (y - 3) a (omega arith)).wf

        fit : (d y : ℕ) → Here g x d → y < physical_zones g → Dec (y < 3) → length (w' d y).sectors ≤ g.capacity
        fit d y a h (yes e) = rw (still d y a e) (t.base.logs.place_fits d y a h)
        fit d y a h (no e) = let q : y ≡ data_zone (y - 3) = omega arith in rw q (part_fits d (y - 3) a (omega arith))

    lasts : (d : ℕ) → Here g x d → (h : Header) → Memᴰ h (take (u d general_zone).durable (G d)) → Memᴰ h (take (w' d general_zone).durable (G d))
    lasts d a h m = rw (still d general_zone a (omega arith)) m

    counts_on : (z : ℕ) (Q : ℕ → Type 0) → Counts g x u δ z Q → Counts g x w' δ z Q
    counts_on z Q h d a j n = h d a j (rw (← still d general_zone a (omega arith)) n)

    live' : (z : ℕ) → z < g.zones → Live g x u δ l z → ((d : ℕ) → Here g x d → Prefix (w' d (data_zone z)).sectors (column g.drives g.unit z (γ.laid z) d)) → Live g x w' δ l z
    live' z hz h p = live_more g x u w' δ G P lasts l z (λ d a e q m. rw (still d parity_zone a (omega arith)) m) h (λ d a f m. inl m) (λ d a e m. inl m) (counts_on z (λ n. n ≡ γ.generation z) h.counts)
        p (λ d a. le_trans (h.strong.places d a) (zone_content d z a hz).keeps)

    lives' : Lives g x w γ l k w' G P
    lives' = record {
      staying = λ z hz q. let r = t.lives.staying z hz q in record { live = live' z hz r.live (λ d a. part_pre d z a hz q); no_seal = r.no_seal; no_reset = r.no_reset; seals_past = r.seals_past; ends_in = r.ends_in };
      worn_live = λ z hz q. let r = t.lives.worn_live z hz q in live' z hz r (λ d a. rw (still_zero d z a hz q.none) (r.places d a));
    }

    passed' : (z : ℕ) → z < g.zones → Gone g x w γ l k z → Passed g x γ l w' G P z
    passed' z hz o = let r = t.gone_zone z hz o in
        let n : NoData g x w' z = λ d a. rw (still_zero d z a hz (gone_zero z o)) (r.no_data d a) in
        let c = counts_on z (λ n. γ.generation z < n) r.past in
        record {
          dying = record {
            idle = r.dying.idle;
            generation_top = r.dying.generation_top;
            entries = r.dying.entries;
            counts = counts_on z (λ n. (γ.generation z ≤ n) × (n ≤ worn_generation)) r.dying.counts;
            raised = λ d a j m q. n;
            why = passed c;
          };
          no_data = n;
          past = c;
        }

    part_inv : Invs γ.closed g x w' l
    part_inv = (δ, zones_inv g x w γ l k s w' G P logs' lives' (λ z hz q. inr (passed' z hz q).dying), refl)

    module _ (dn : Done g x u (fill_step g k w) w') where
      base' : Base g x w γ w' G P (2 + (count_reset g k + count_sealed g k))
      base' = record { logs = logs'; settled = done_settled g x u (fill_step g k w) w' dn; grows = t.base.grows; used = t.base.used }

      -- how long a place is now
      long : (d z : ℕ) → Here g x d → z < g.zones → Stays g x w γ l k z → length (w' d (data_zone z)).sectors ≡ length (w d (data_zone z)).sectors + (needed g.drives g.unit z (k.zone z).pointer d - length (w d (data_zone z)).sectors)
      long d z a hz q =
          let e : w' d (data_zone z) ≡ flushed (record { sectors = (u d (data_zone z)).sectors ++ missing g k w d z; durable = (u d (data_zone z)).durable }) =
          dn d (data_zone z) a ∙ ap flushed (ap (λ (o : List LocalStore). apply_all_here o (u d (data_zone z))) (fill_sees g k w d z (present_below g x d a) hz ∙ sym (append-nil (map append_here (missing g k w d z)))) ∙ appends_here (missing g k w d z) [] (u d (data_zone z))) in
          ap (λ (v : ZoneView). length v.sectors) e ∙ length-append (u d (data_zone z)).sectors (missing g k w d z)
          ∙ ap₂ (λ (i j : ℕ). i + j) (ap (λ (v : ZoneView). length v.sectors) (sm.data_same z hz q d a)) (length_tabulate_from (content_at g.drives g.unit z (k.zone z).value d) (length (w d (data_zone z)).sectors) (needed g.drives g.unit z (k.zone z).pointer d - length (w d (data_zone z)).sectors))

      whole : AfterFill g x w γ l k (2 + (count_reset g k + count_sealed g k)) w'
      whole = (
        G,
        P,
        record { base = base'; lives = lives'; gone_zone = λ z hz q. passed' z hz q; counted = t.counted },
        record { cap = λ z hz q e d a. let (b, p, m) = cp.cap z hz q e d a in (b, p, lasts d a (seal z b (γ.generation z)) m) },
        wh,
        record {
          places = λ z hz q d a. omega (arith, long d z a hz q);
          just = λ z hz q e d a. exact z hz q e d a q.how;
        },
      )
        where
          exact : (z : ℕ) → z < g.zones → Stays g x w γ l k z → (k.zone z).condition ≡ Open (k.zone z).pointer → (d : ℕ) → Here g x d
              → (((k.zone z).condition ≡ Open (k.zone z).pointer) × Clean g x w γ k z) ⊎ ((k.zone z).condition ≡ Sealed (k.zone z).pointer) → length (w' d (data_zone z)).sectors ≡ needed g.drives g.unit z (k.zone z).pointer d
          exact z hz q e d a (inl c) = omega (arith, long d z a hz q, c.1.fits d a)
          exact z hz q e d a (inr c) = absurd (let v : Open (k.zone z).pointer ≡ Sealed (k.zone z).pointer = sym e ∙ c in let n : ◌≡◌ {A = ℕ} 0 1 = cc in omega arith)

pub fill_step_lem : (g : Geometry) → Valid g → (x : ℕ) (w : Device) (γ : Ghost) (l : Ledger) (k : Shown) → Start g x w γ l k → (u : Device) → AfterTornRows g x w γ l k (2 + (count_reset g k + count_sealed g k)) u
    → Runs γ.closed g x l u (concat (with_flush g (present_but g x) (fill_step g k w))) (AfterFill g x w γ l k (2 + (count_reset g k + count_sealed g k)))
fill_step_lem g ok x w γ l k s u (G, P, t, sm, cp, wh) = step_runs g x (fill_step g k w) γ.closed l u (AfterFill g x w γ l k (2 + (count_reset g k + count_sealed g k))) t.base.settled (λ w' b. part_inv g ok x w γ l k s u G P t sm cp wh w' b) (λ w' b dn. whole g ok x w γ l k s u G P t sm cp wh w' b dn)
