-- Step 11 of a mount: a partial parity entry at each pointer inside a stripe that has no whole current one there. Its rows are true, since
-- the data below the pointer is there by then. (Room for it: refusal 14 kept it, or the log was emptied.)
use Rattle.logs.specs.laws.HeadLaws.{ends_at_is, reads_fits}
use Rattle.tables.specs.laws.Placement.{stripe_of_sum}
use Rattle.tables.specs.laws.Lists.{map_append, any_of_some, mem_left, mem_right, mem_append}
use Rattle.tables.specs.meaning.Lists.{concat, any_of}
use Rattle.std.proofs.Math.Path.{◌≡◌, refl, sym, ap, ap₂}
use Rattle.std.proofs.Common.{◌∙◌, subst, zero-le, le_of_eq, not-suc-le-zero, take_all}
use Rattle.std.specs.Prelude.{◌≢◌, ◌⊎◌, Bool, ◌&&◌, ℕ, zero, suc, ◌+◌, ◌-◌, ◌*◌, ◌≤◌, ◌<◌, take, ltb, eqb}
use Rattle.std.proofs.Math.Logic.{inl, inr}
use Rattle.std.proofs.Math.Bool.{true, false, not}
use native.Mathlib.Omega.{arith}
use Rattle.std.proofs.Math.Decide.{ℕ_discrete}
use mathlib.Core.List.{List, [], ◌∷◌, ◌++◌, map, append-nil, Memᴰ}
use Rattle.std.proofs.Math.ListN.{length, length-append}
use Rattle.tables.specs.meaning.Device.{ZoneView, Device, flushed}
use Rattle.tables.specs.meaning.Basics.{pick}
use Rattle.tables.specs.laws.Basics.{and_split}
use Rattle.tables.specs.declared.Geometry.{Geometry}
use Rattle.tables.specs.meaning.Geometry.{Valid, stripe_sectors, zone_sectors, data_zone}
use Rattle.logs.specs.meaning.Entry.{general_zone, parity_zone, worn_generation, Header, label, counters, partial_parity, seal, closing, zone_reset, Entry, rows_of}
use Rattle.tables.specs.meaning.Drives.{present_but}
use Rattle.tables.specs.laws.Drives.{present_below}
use Rattle.promise.specs.meaning.Ledger.{Ledger}
use Rattle.volume.specs.meaning.Rules.{Shown, parity_entries}
use Rattle.volume.specs.meaning.Mount.{with_flush, entry_step}
use Rattle.promise.proofs.invariant.Invariant.{Ghost, Here, LogsOk, Counts, Live, Dying, passed, said, facts_of}
use Rattle.promise.proofs.invariant.SaidMoves.{EntryJoins, with_mark}
use Rattle.promise.proofs.mount.MountRuns.{Runs, Between, Done, step_runs, between_adds, between_still, Joined, joined_by}
use Rattle.promise.proofs.mount.MountFilled.{Kept, OpenNow, GoneNow, Filled, Ended, AfterEntries, kept_at, with_parity, inv_on, filled_on}
use Rattle.promise.proofs.mount.MountEntryAt.{entry_shown, shown_head, shown_ok, shown_ends, shown_joins}
use borrow.Author.Tests.{ltb-true, eq-eqb, eqb-true}
use Rattle.tables.specs.meaning.Below.{each_below}
use Rattle.logs.specs.laws.Walk.{Reads, Whole, sectors_of_all, WellFormedLog, Left, log_extent, cut_entries, cut_flat, cut_lawful, cut_left, cut_mono, cut_zero, cut_extent, extent_append, extent_whole, whole_entries, sectors_of_append}
use Rattle.logs.specs.meaning.Walk.{sectors_of}
use Rattle.logs.specs.laws.Heads.{zone_gen}
use Rattle.logs.specs.meaning.Heads.{ends_at}
use Rattle.promise.proofs.invariant.Obligations.{Invs}
use Rattle.tables.specs.laws.Local.{LocalStore, append_here, apply_all_here, local_stores, local_append, appends_here}
use Rattle.tables.specs.meaning.Placement.{stripe_of}
use Rattle.volume.specs.meaning.Calls.{append_all}
use Rattle.volume.specs.meaning.Content.{at, inside_stripe, fill_of, entry_header, parity_drive_at}
use Rattle.promise.proofs.calls.WriteLocal.{appends_other_zone, appends_own, appends_other_drive}
use Rattle.promise.proofs.look.LookReads.{parity_entries_lem}
use Rattle.logs.specs.laws.LogLaws.{cut_whole, lawful_reads, whole_entries_mem}
use Rattle.promise.proofs.invariant.HoldsMore.{NewEntry, live_more}
use Rattle.tables.specs.laws.Phases.{each_below_own, each_below_unseen}
use Rattle.promise.proofs.mount.MountParityLogs.{Changed, parity_logs_on}
use Rattle.promise.proofs.mount.MountGeneralLogs.{done_settled}

-- ---- logs one after the other
module _ (g : Geometry) (d : ℕ) where
  lawful_append : (es fs : List Entry) → ((e : Entry) → Memᴰ e es → Whole g d true e) → WellFormedLog g d true es → WellFormedLog g d true fs → WellFormedLog g d true (es ++ fs)
  lawful_append [] fs w a b = b
  lawful_append (e ∷ es) fs w a b = (a.0, inl (w e (mathlib.Core.List.Memᴰ.head refl)), lawful_append es fs (λ f m. w f (mathlib.Core.List.Memᴰ.tail m)) a.2 b)

  pub cut_append : (es fs : List Entry) → cut_entries g d true (es ++ fs) (length (sectors_of_all g d true es)) ≡ es
  cut_append [] fs = cut_zero g d true fs
  cut_append (e ∷ es) fs =
      let m = length (sectors_of_all g d true es) in
      let n : length (e.rows ++ sectors_of_all g d true es) ≡ length e.rows + m = length-append e.rows (sectors_of_all g d true es) in
      let z : length e.rows + m - length e.rows ≡ m = omega arith in
      let t : take (length e.rows + m) e.rows ≡ e.rows = take_all (length e.rows + m) e.rows (omega arith) in
      ap (λ (i : ℕ). cut_entries g d true (e ∷ (es ++ fs)) (suc i)) n
      ∙ ap₂ (λ (p : Entry) (r : List Entry). p ∷ r) (λ i. record { head = e.head; rows = t i }) (ap (λ (i : ℕ). cut_entries g d true (es ++ fs) i) z ∙ cut_append es fs)

  -- entries for some zones
  abbrev for_zones_e : (ℕ → Bool) → (ℕ → Entry) → ℕ → List Entry
  for_zones_e b h n = each_below (λ z. pick (b z) (h z ∷ []) []) n

  zones_e_mem : (b : ℕ → Bool) (h : ℕ → Entry) (n : ℕ) (e : Entry) → Memᴰ e (for_zones_e b h n) → (z : ℕ) × (z < n) × (b z ≡ true) × (e ≡ h z)
  zones_e_mem b h (suc n) e m = go (mem_append (for_zones_e b h n) (pick (b n) (h n ∷ []) []) e m) (λ k. zones_e_mem b h n e k)
    where
      one : (c : Bool) → b n ≡ c → Memᴰ e (pick c (h n ∷ []) []) → (z : ℕ) × (z < suc n) × (b z ≡ true) × (e ≡ h z)
      one true q (mathlib.Core.List.Memᴰ.head p) = (n, omega arith, q, p)
      one false q x3 = elim x3 [ ]
      one true q (mathlib.Core.List.Memᴰ.tail x8) = elim x8 [ ]

      go : Memᴰ e (for_zones_e b h n) ⊎ Memᴰ e (pick (b n) (h n ∷ []) []) → (Memᴰ e (for_zones_e b h n) → (z : ℕ) × (z < n) × (b z ≡ true) × (e ≡ h z)) → (z : ℕ) × (z < suc n) × (b z ≡ true) × (e ≡ h z)
      go (inl k) ih = let (z, l, p, q) = ih k in (z, omega arith, p, q)
      go (inr k) ih = one (b n) refl k
  zones_e_mem b h zero e m = elim m [ ]

  mem_zones_e : (b : ℕ → Bool) (h : ℕ → Entry) (n z : ℕ) → z < n → b z ≡ true → Memᴰ (h z) (for_zones_e b h n)
  mem_zones_e b h zero z l q = absurd (not-suc-le-zero l)
  mem_zones_e b h (suc n) z l q = go (ℕ_discrete z n) (λ k. mem_zones_e b h n z k q)
    where
      go : Dec (z ≡ n) → (z < n → Memᴰ (h z) (for_zones_e b h n)) → Memᴰ (h z) (for_zones_e b h n ++ pick (b n) (h n ∷ []) [])
      go (yes e) ih = mem_right (for_zones_e b h n) (pick (b n) (h n ∷ []) []) (h z) (rw (← e, q) (mathlib.Core.List.Memᴰ.head refl))
      go (no e) ih = mem_left (for_zones_e b h n) (pick (b n) (h n ∷ []) []) (h z) (ih (omega arith))

  all_lawful : (es : List Entry) → ((e : Entry) → Memᴰ e es → Reads g d true e.head × Whole g d true e) → WellFormedLog g d true es
  all_lawful [] h = tt
  all_lawful (e ∷ es) h = let q = h e (mathlib.Core.List.Memᴰ.head refl) in (q.0, inl q.1, all_lawful es (λ f m. h f (mathlib.Core.List.Memᴰ.tail m)))

  rows_most : (h : Header) → rows_of g h ≤ g.unit
  rows_most (label y c) = zero-le
  rows_most (counters cs) = zero-le
  rows_most (zone_reset y n) = zero-le
  rows_most (partial_parity y i f n) = omega arith
  rows_most (seal y c n) = zero-le
  rows_most (closing kind gen) = zero-le

  zones_e_extent : (b : ℕ → Bool) (h : ℕ → Entry) (n : ℕ) → log_extent g d true (for_zones_e b h n) ≤ n * (1 + g.unit)
  zones_e_extent b h zero = zero-le
  zones_e_extent b h (suc n) = rw (extent_append g d true (for_zones_e b h n) (pick (b n) (h n ∷ []) [])) (go (b n) (zones_e_extent b h n))
    where
      go : (c : Bool) → log_extent g d true (for_zones_e b h n) ≤ n * (1 + g.unit) → log_extent g d true (for_zones_e b h n) + log_extent g d true (pick c (h n ∷ []) []) ≤ suc n * (1 + g.unit)
      go true ih = omega (arith, ih, rows_most (h n).head)
      go false ih = omega (arith, ih)

  zones_e_here : (b : ℕ → Bool) (h : ℕ → Entry) (n : ℕ) → local_stores d parity_zone (each_below (λ z. pick (b z) (append_all d parity_zone (sectors_of g d true (h z))) []) n) ≡ map append_here (sectors_of_all g d true (for_zones_e b h n))
  zones_e_here b h zero = refl
  zones_e_here b h (suc n) =
      local_append d parity_zone (each_below (λ z. pick (b z) (append_all d parity_zone (sectors_of g d true (h z))) []) n) (pick (b n) (append_all d parity_zone (sectors_of g d true (h n))) []) ∙ rw (zones_e_here b h n) (go (b n))
      ∙ sym (ap (map append_here) (sectors_of_append g d true (for_zones_e b h n) (pick (b n) (h n ∷ []) [])) ∙ map_append append_here (sectors_of_all g d true (for_zones_e b h n)) (sectors_of_all g d true (pick (b n) (h n ∷ []) [])))
    where
      go : (c : Bool) → map append_here (sectors_of_all g d true (for_zones_e b h n)) ++ local_stores d parity_zone (pick c (append_all d parity_zone (sectors_of g d true (h n))) []) ≡ map append_here (sectors_of_all g d true (for_zones_e b h n)) ++ map append_here (sectors_of_all g d true (pick c (h n ∷ []) []))
      go true = ap (λ (r : List LocalStore). map append_here (sectors_of_all g d true (for_zones_e b h n)) ++ r) (appends_own d parity_zone (sectors_of g d true (h n)) ∙ ap (map append_here) (sym (append-nil (sectors_of g d true (h n)))))
      go false = refl

  zones_e_drive : (b : ℕ → Bool) (h : ℕ → Entry) (n e y : ℕ) → d ≢ e → local_stores e y (each_below (λ z. pick (b z) (append_all d parity_zone (sectors_of g d true (h z))) []) n) ≡ []
  zones_e_drive b h n e y q = each_below_unseen (λ z. pick (b z) (append_all d parity_zone (sectors_of g d true (h z))) []) e y (λ z. go z (b z) (ℕ_discrete y parity_zone)) n
    where
      go : (z : ℕ) (c : Bool) → Dec (y ≡ parity_zone) → local_stores e y (pick c (append_all d parity_zone (sectors_of g d true (h z))) []) ≡ []
      go z true (yes r) = subst (λ (w : ℕ). local_stores e w (append_all d parity_zone (sectors_of g d true (h z))) ≡ []) (sym r) (appends_other_drive e d parity_zone (sectors_of g d true (h z)) (λ i. q (sym i)))
      go z true (no r) = appends_other_zone e d y parity_zone (sectors_of g d true (h z)) r
      go z false r = refl

  zones_e_zone : (b : ℕ → Bool) (h : ℕ → Entry) (n e y : ℕ) → y ≢ parity_zone → local_stores e y (each_below (λ z. pick (b z) (append_all d parity_zone (sectors_of g d true (h z))) []) n) ≡ []
  zones_e_zone b h n e y q = each_below_unseen (λ z. pick (b z) (append_all d parity_zone (sectors_of g d true (h z))) []) e y (λ z. go z (b z)) n
    where
      go : (z : ℕ) (c : Bool) → local_stores e y (pick c (append_all d parity_zone (sectors_of g d true (h z))) []) ≡ []
      go z true = appends_other_zone e d y parity_zone (sectors_of g d true (h z)) q
      go z false = refl

-- room for one entry more of each zone, in each present drive's parity log
abbrev pub EntryRoom : Geometry → ℕ → Device → Type 0
EntryRoom g x u = (d : ℕ) → Here g x d → length (u d parity_zone).sectors + g.zones * (1 + g.unit) ≤ g.capacity

-- a stripe's fill in a header that reads back
fill_lt : (g : Geometry) (d y j f n : ℕ) → Reads g d true (partial_parity y j f n) → f < stripe_sectors g
fill_lt g d y j f n r =
    let (a1, a2) = and_split (ltb y g.zones) _ (reads_fits g d true (partial_parity y j f n) r) in
    let (a3, a4) = and_split (ltb (j * stripe_sectors g) (zone_sectors g)) _ a2 in
    let (a5, a6) = and_split (ltb 0 f) _ a4 in
    let (a7, a8) = and_split (ltb f (stripe_sectors g)) _ a6 in
    ltb-true f (stripe_sectors g) a7

module _ (g : Geometry) (ok : Valid g) (x : ℕ) (u : Device) (δ : Ghost) (l : Ledger) (k : Shown) (fi : Filled g x u δ l k) (room : EntryRoom g x u) where
  abbrev P : ℕ → List Entry
  P = δ.parity

  abbrev shown_pointer : ℕ → ℕ
  shown_pointer z = (k.zone z).pointer

  abbrev test : ℕ → ℕ → Bool
  test d z = inside_stripe g (shown_pointer z) && (eqb d (parity_drive_at g z (shown_pointer z)) && not (any_of (λ (e : Entry). ends_at g z (k.zone z).generation (shown_pointer z) e.head) (parity_entries g u d)))

  abbrev one : ℕ → Entry
  one = entry_shown g k

  adding : ℕ → List Entry
  adding d = for_zones_e g d (test d) one g.zones

  unseen : (d y : ℕ) → y ≢ parity_zone → local_stores d y (entry_step g k u) ≡ []
  unfolding entry_step
  unseen d y n = each_below_unseen (λ d. each_below (λ z. pick (test d z) (append_all d parity_zone (sectors_of g d true (one z))) []) g.zones) d y (λ e. zones_e_zone g e (test e) one g.zones d y n) g.drives

  sees : (d : ℕ) → d < g.drives → local_stores d parity_zone (entry_step g k u) ≡ map append_here (sectors_of_all g d true (adding d))
  unfolding entry_step adding
  sees d h = each_below_own (λ d. each_below (λ z. pick (test d z) (append_all d parity_zone (sectors_of g d true (one z))) []) g.zones) d parity_zone (λ e n. zones_e_drive g e (test e) one g.zones d parity_zone (λ q. n (sym q))) g.drives h ∙ zones_e_here g d (test d) one g.zones

  -- an entry that joins: of a zone that stays
  pub record Is (d : ℕ) (e : Entry) : Type 0 where
    pub zone : ℕ
    pub zone_lt : zone < g.zones
    pub stay : Kept g x u δ l k zone
    pub within : inside_stripe g (shown_pointer zone) ≡ true
    pub drive : d ≡ parity_drive_at g zone (shown_pointer zone)
    pub is : e ≡ one zone

  inside_some : (z : ℕ) → inside_stripe g (shown_pointer z) ≡ true → zero < shown_pointer z
  inside_some z i = let h = ltb-true (stripe_of g.drives g.unit (shown_pointer z) * stripe_sectors g) (shown_pointer z) i in omega (arith, h)

  kept : (z : ℕ) → z < g.zones → inside_stripe g (shown_pointer z) ≡ true → Kept g x u δ l k z
  kept z hz i = kept_at g x u δ l k fi z hz (inside_some z i)

  is_of : (d : ℕ) (e : Entry) → Memᴰ e (adding d) → Is d e
  unfolding adding
  is_of d e m =
      let (z, hz, b, q) = zones_e_mem g d (test d) one g.zones e m in
      let (b1, b2) = and_split (inside_stripe g (shown_pointer z)) (eqb d (parity_drive_at g z (shown_pointer z)) && not (any_of (λ (e : Entry). ends_at g z (k.zone z).generation (shown_pointer z) e.head) (parity_entries g u d))) b in
      let (b3, b4) = and_split (eqb d (parity_drive_at g z (shown_pointer z))) (not (any_of (λ (e : Entry). ends_at g z (k.zone z).generation (shown_pointer z) e.head) (parity_entries g u d))) b2 in
      record { zone = z; zone_lt = hz; stay = kept z hz b1; within = b1; drive = eqb-true d (parity_drive_at g z (shown_pointer z)) b3; is = q }

  whole_one : (d : ℕ) (e : Entry) → Memᴰ e (adding d) → Reads g d true e.head × Whole g d true e
  whole_one d e m =
      let i = is_of d e m in
      let h : Reads g d true (one i.zone).head × Whole g d true (one i.zone) = subst (λ (c : ℕ). Reads g c true (one i.zone).head × Whole g c true (one i.zone)) (sym i.drive) (shown_ok g ok x u δ l k i.zone i.zone_lt i.stay i.within) in
      subst (λ (t : Entry). Reads g d true t.head × Whole g d true t) (sym i.is) h

  head_of : (d : ℕ) (e : Entry) (i : Is d e) → e.head ≡ entry_header g i.zone (δ.generation i.zone) (shown_pointer i.zone)
  head_of d e i = ap (λ (t : Entry). t.head) i.is ∙ shown_head g ok x u δ l k i.zone i.zone_lt i.stay

  module _ (w' : Device) (b : Between g x u (entry_step g k u) w') where
    pub added : ℕ → List Entry
    added d = cut_entries g d true (adding d) (joined_by (u d parity_zone) (w' d parity_zone))

    pub P' : ℕ → List Entry
    P' d = P d ++ added d

    zone_content : (d : ℕ) → Here g x d → Joined (u d parity_zone) (w' d parity_zone) (sectors_of_all g d true (adding d)) (joined_by (u d parity_zone) (w' d parity_zone))
    zone_content d a =
        let (os, p, q) = b d parity_zone a in
        between_adds (sectors_of_all g d true (adding d)) os (u d parity_zone) (w' d parity_zone) (rw (sees d (present_below g x d a)) at p) q (le_of_eq (fi.settled.lasts d parity_zone a))

    still_other : (d y : ℕ) → Here g x d → y ≢ parity_zone → w' d y ≡ u d y
    still_other d y a h =
        let (os, p, q) = b d y a in
        q ∙ between_still (u d y) os (rw (unseen d y h) at p) (fi.settled.lasts d y a)

    general_same : (d : ℕ) → Here g x d → w' d general_zone ≡ u d general_zone
    general_same d a = still_other d general_zone a (λ e. omega arith)

    data_same : (z d : ℕ) → Here g x d → w' d (data_zone z) ≡ u d (data_zone z)
    data_same z d a = still_other d (data_zone z) a (λ e. omega arith)

    lawful' : (d : ℕ) → Here g x d → WellFormedLog g d true (P' d)
    unfolding P' added
    lawful' d a = lawful_append g d (P d) (added d) (fi.whole d a) (fi.logs.parity_lawful d a) (cut_lawful g d true (adding d) (joined_by (u d parity_zone) (w' d parity_zone)) (all_lawful g d (adding d) (whole_one d)))

    new_of : (d : ℕ) (p : Entry) → Memᴰ p (P' d) → Memᴰ p (P d) ⊎ Left g d true p (adding d)
    unfolding P' added
    new_of d p m = go (mem_append (P d) (added d) p m)
      where
        go : Memᴰ p (P d) ⊎ Memᴰ p (added d) → Memᴰ p (P d) ⊎ Left g d true p (adding d)
        go (inl q) = inl q
        go (inr q) = inr (cut_left g d true (adding d) (joined_by (u d parity_zone) (w' d parity_zone)) p q)

    changed : Changed g x u w' P P'
    unfolding P' added adding
    changed = record {
      sectors_are = λ d a. (zone_content d a).sectors_are ∙ ap₂ (λ (p q : List (List ℕ)). p ++ q) (fi.logs.parity_is d a) (cut_flat g d true (adding d) (joined_by (u d parity_zone) (w' d parity_zone))) ∙ sym (sectors_of_append g d true (P d) (added d));
      wf = λ d a. (zone_content d a).wf;
      lawful = lawful';
      closes = λ d a e m j n q. old d e j n q (new_of d e m);
      fits = λ d a. rw (extent_append g d true (P d) (added d)) (let e1 = cut_extent g d true (adding d) (joined_by (u d parity_zone) (w' d parity_zone)) in let e2 = zones_e_extent g d (test d) one g.zones in
          let e3 = extent_whole g d true (P d) (fi.whole d a) ∙ sym (ap length (fi.logs.parity_is d a)) in omega (arith, e1, e2, e3, room d a));
      lasts = λ d a e q m. let o : Memᴰ e (P d) = cut_whole g d (P d) (u d parity_zone).durable e (fi.logs.parity_lawful d a) m q in
          let n : length (sectors_of_all g d true (P d)) ≤ (w' d parity_zone).durable = (let e1 = ap length (fi.logs.parity_is d a) in omega (arith, e1, fi.settled.lasts d parity_zone a, (zone_content d a).keeps)) in
          cut_mono g d true (P' d) (length (sectors_of_all g d true (P d))) (w' d parity_zone).durable e (lawful' d a) n q (rw (cut_append g d (P d) (added d)) o);
    }
      where
        old : (d : ℕ) (e : Entry) (j n : ℕ) → e.head ≡ closing j n → Memᴰ e (P d) ⊎ Left g d true e (adding d) → (f : Entry) × Memᴰ f (P d) × (f.head ≡ closing j n)
        old d e j n q (inl m) = (e, m, q)
        old d e j n q (inr o) = let p = o.heads in let h = head_of d o.of (is_of d o.of o.is_set) in absurd (let z : ◌≡◌ {A = ℕ} 0 1 = cc in omega arith)

    -- the entries of another zone, and of this one
    abbrev New : ℕ → ℕ → Entry → Type 0
    New z d p = NewEntry g x u δ δ.general l z d p

    abbrev zone_of_lem : (d : ℕ) (p : Entry) → Left g d true p (adding d) → ℕ
    zone_of_lem d p o = (is_of d o.of o.is_set).zone

    heads : (d : ℕ) (p : Entry) (o : Left g d true p (adding d)) → p.head ≡ entry_header g (zone_of_lem d p o) (δ.generation (zone_of_lem d p o)) (shown_pointer (zone_of_lem d p o))
    heads d p o = o.heads ∙ head_of d o.of (is_of d o.of o.is_set)

    apart_ends : (z d : ℕ) (p : Entry) (o : Left g d true p (adding d)) → zone_of_lem d p o ≢ z → (i f m : ℕ) → p.head ≡ partial_parity z i f m → ⊥
    apart_ends z d p o n i f m r = n (let q = sym (heads d p o) ∙ r in cc)

    joins : (z d : ℕ) (p : Entry) → Memᴰ p (P d) ⊎ Left g d true p (adding d) → Memᴰ p (P d) ⊎ New z d p
    joins z d p (inl r) = inl r
    joins z d p (inr o) = inr (which (ℕ_discrete (zone_of_lem d p o) z))
      where
        which : Dec (zone_of_lem d p o ≡ z) → New z d p
        which (yes e) = let i = is_of d o.of o.is_set in
            let at : EntryJoins g x i.zone (with_mark (facts_of δ l i.zone) (l.committed i.zone)) (said g u δ i.zone) (λ e h. Memᴰ h (δ.general e)) d p =
            shown_joins g ok x u δ l k i.zone i.zone_lt i.stay o.many (l.committed i.zone) d p (o.heads ∙ ap (λ (t : Entry). t.head) i.is) (o.rows_are ∙ ap (λ (t : Entry). take o.many t.rows) i.is) in
            subst (λ (y : ℕ). New y d p) e at
        which (no n) = record {
          telling = λ i f r. absurd (apart_ends z d p o n i f (δ.generation z) r);
          alone = λ wp f r. absurd (apart_ends z d p o n zero f (δ.generation z) r);
          current = rw (heads d p o) (λ q. absurd (n q));
        }

    ends : (z : ℕ) → z < g.zones → Kept g x u δ l k z → OpenNow g x u δ k z → (d : ℕ) → Here g x d → (p : Entry) → Memᴰ p (P' d) → (i f : ℕ) → p.head ≡ partial_parity z i f (δ.generation z) → i * stripe_sectors g + f ≤ shown_pointer z
    ends z hz q c d a p m i f r = go (new_of d p m)
      where
        go : Memᴰ p (P d) ⊎ Left g d true p (adding d) → i * stripe_sectors g + f ≤ shown_pointer z
        go (inl o) = c.ends_in d a p o i f r
        go (inr o) = which (ℕ_discrete (zone_of_lem d p o) z)
          where
            which : Dec (zone_of_lem d p o ≡ z) → i * stripe_sectors g + f ≤ shown_pointer z
            which (no n) = absurd (apart_ends z d p o n i f (δ.generation z) r)
            which (yes e) =
                let j = is_of d o.of o.is_set in
                let h : (one z).head ≡ partial_parity z i f (δ.generation z) = ap (λ (y : ℕ). (one y).head) (sym e) ∙ ap (λ (t : Entry). t.head) (sym j.is) ∙ sym o.heads ∙ r in
                le_of_eq (shown_ends g ok x u δ l k z hz q i f h)

    -- ---- what the zones are then
    lasts : (d : ℕ) → Here g x d → (h : Header) → Memᴰ h (take (u d general_zone).durable (δ.general d)) → Memᴰ h (take (w' d general_zone).durable (δ.general d))
    lasts d a h m = rw (general_same d a) m

    counts_on : (z : ℕ) (Q : ℕ → Type 0) → Counts g x u δ z Q → Counts g x w' (with_parity δ P' δ.closed) z Q
    counts_on z Q h d a j m = h d a j (rw (← general_same d a) m)

    live' : (z : ℕ) → Live g x u δ l z → Live g x w' (with_parity δ P' δ.closed) l z
    live' z h = live_more g x u w' δ δ.general P' lasts l z changed.lasts h (λ d a i m. inl m) (λ d a e m. joins z d e (new_of d e m)) (counts_on z (λ n. n ≡ δ.generation z) h.counts)
        (λ d a. rw (data_same z d a) (h.places d a)) (λ d a. rw (data_same z d a) (h.strong.places d a))

    gone' : (z : ℕ) → GoneNow g x u δ l k z → Dying g x w' (with_parity δ P' δ.closed) l z
    gone' z q = record {
      idle = q.dying.idle;
      generation_top = q.dying.generation_top;
      entries = record { in_general_lem = q.dying.entries.in_general_lem; in_parity_lem = λ d a p m. old d a p (new_of d p m) };
      counts = counts_on z (λ n. (δ.generation z ≤ n) × (n ≤ worn_generation)) q.dying.counts;
      raised = λ d a j m r e c. rw (data_same z e c) (q.no_data e c);
      why = passed (counts_on z (λ n. δ.generation z < n) q.past);
    }
      where
        old : (d : ℕ) → Here g x d → (p : Entry) → Memᴰ p (P d) ⊎ Left g d true p (adding d) → zone_gen p.head (λ y n. y ≡ z → n ≤ δ.generation z)
        old d a p (inl m) = q.dying.entries.in_parity_lem d a p m
        old d a p (inr o) = rw (heads d p o) (λ e. absurd (let i = is_of d o.of o.is_set in let h : shown_pointer i.zone ≡ zero = ap shown_pointer e ∙ q.none in omega (arith, h, i.stay.some)))

    logs' : LogsOk g x w' (with_parity δ P' δ.closed)
    logs' = parity_logs_on g x u w' δ P' fi.logs still_other changed

    part_inv : Invs δ.closed g x w' l
    part_inv = (with_parity δ P' δ.closed, inv_on g x u δ l k fi w' P' δ.closed l logs' (λ z hz q. live' z q.live) (λ z hz q. live' z q.live) (λ z hz q. gone' z q), refl)

    module _ (dn : Done g x u (entry_step g k u) w') where
      all_added : (d : ℕ) → Here g x d → added d ≡ adding d
      unfolding added
      all_added d a =
          let F = sectors_of_all g d true (adding d) in
          let e : w' d parity_zone ≡ flushed (record { sectors = (u d parity_zone).sectors ++ F; durable = (u d parity_zone).durable }) =
          dn d parity_zone a ∙ ap flushed (ap (λ (o : List LocalStore). apply_all_here o (u d parity_zone)) (sees d (present_below g x d a) ∙ sym (append-nil (map append_here F))) ∙ appends_here F [] (u d parity_zone)) in
          let n : length (w' d parity_zone).sectors ≡ length (u d parity_zone).sectors + length F = ap (λ (v : ZoneView). length v.sectors) e ∙ length-append (u d parity_zone).sectors F in
          let m : joined_by (u d parity_zone) (w' d parity_zone) ≡ length F = omega (arith, n) in
          ap (cut_entries g d true (adding d)) m ∙ ap (λ (r : List Entry). cut_entries g d true r (length F)) (sym (append-nil (adding d))) ∙ cut_append g d (adding d) []

      whole' : (d : ℕ) → Here g x d → (e : Entry) → Memᴰ e (P' d) → Whole g d true e
      unfolding P'
      whole' d a e m = all (mem_append (P d) (added d) e m)
        where
          all : Memᴰ e (P d) ⊎ Memᴰ e (added d) → Whole g d true e
          all (inl m) = fi.whole d a e m
          all (inr m) = (whole_one d e (rw (all_added d a) at m)).1

      ended : Ended g x (with_parity δ P' δ.closed) k
      unfolding P' adding
      ended = record { entry = λ z hz i a. has z hz (kept z hz i) i a (any_of (λ (e : Entry). ends_at g z (k.zone z).generation (shown_pointer z) e.head) (parity_entries g u (parity_drive_at g z (shown_pointer z)))) refl }
        where
          has : (z : ℕ) → z < g.zones → Kept g x u δ l k z → inside_stripe g (shown_pointer z) ≡ true → Here g x (parity_drive_at g z (shown_pointer z)) → (c : Bool) → any_of (λ (e : Entry). ends_at g z (k.zone z).generation (shown_pointer z) e.head) (parity_entries g u (parity_drive_at g z (shown_pointer z))) ≡ c
              → (e : Entry) × Memᴰ e (P (parity_drive_at g z (shown_pointer z)) ++ added (parity_drive_at g z (shown_pointer z))) × Whole g (parity_drive_at g z (shown_pointer z)) true e × (e.head ≡ entry_header g z (δ.generation z) (shown_pointer z))
          has z hz q i a true c =
              let d = parity_drive_at g z (shown_pointer z) in
              let c2 : any_of (λ (e : Entry). ends_at g z (k.zone z).generation (shown_pointer z) e.head) (whole_entries g d true (P d)) ≡ true = rw (parity_entries_lem g ok x u δ fi.logs d a) at c in
              let (e, m, r) = any_of_some (λ (e : Entry). ends_at g z (k.zone z).generation (shown_pointer z) e.head) (whole_entries g d true (P d)) c2 in
              let (m1, m2) = whole_entries_mem g d (P d) e m in
              let (j, f, h, v) = ends_at_is g z (k.zone z).generation (shown_pointer z) e.head r in
              let h2 : e.head ≡ partial_parity z j f (δ.generation z) = h ∙ ap (partial_parity z j f) q.generation_is in
              let lf : f < stripe_sectors g = fill_lt g d z j f (k.zone z).generation (rw h at (lawful_reads g d (P d) e (fi.logs.parity_lawful d a) m1)) in
              let sj : stripe_of g.drives g.unit (shown_pointer z) ≡ j = ap (stripe_of g.drives g.unit) (sym v) ∙ stripe_of_sum g.drives g.unit j f lf in
              let ff : fill_of g (shown_pointer z) ≡ f = ap (λ (y : ℕ). shown_pointer z - y * stripe_sectors g) sj ∙ minus j f (shown_pointer z) v in
              (e, mem_left (P d) (added d) e m1, m2, h2 ∙ sym (ap₂ (λ (y1 y2 : ℕ). partial_parity z y1 y2 (δ.generation z)) sj ff))
            where
              minus : (j f n : ℕ) → j * stripe_sectors g + f ≡ n → n - j * stripe_sectors g ≡ f
              minus j f n e = omega arith
          has z hz q i a false c =
              let d = parity_drive_at g z (shown_pointer z) in
              let v : Memᴰ (one z) (adding d) = mem_zones_e g d (test d) one g.zones z hz (rw (i, c, eq-eqb d d refl) refl) in
              (one z, mem_right (P d) (added d) (one z) (rw (all_added d a) v), (whole_one d (one z) v).1, shown_head g ok x u δ l k z hz q)

      whole : AfterEntries g x l k δ.closed w'
      whole = (
        with_parity δ P' δ.closed,
        filled_on g x u δ l k fi w' P' δ.closed l logs' (λ z hz q. live' z q.live) (λ z hz q. live' z q.live) (λ z hz q. gone' z q) (done_settled g x u (entry_step g k u) w' dn) (λ z hz q. q.least) general_same data_same whole' ends,
        ended,
        refl,
      )

-- STEP 11, from a device that is filled and has the room
pub entries_run : (g : Geometry) → Valid g → (x : ℕ) (u : Device) (δ : Ghost) (l : Ledger) (k : Shown) → Filled g x u δ l k → EntryRoom g x u
    → Runs δ.closed g x l u (concat (with_flush g (present_but g x) (entry_step g k u))) (AfterEntries g x l k δ.closed)
entries_run g ok x u δ l k f r = step_runs g x (entry_step g k u) δ.closed l u (AfterEntries g x l k δ.closed) f.settled (λ w' b. part_inv g ok x u δ l k f r w' b) (λ w' b dn. whole g ok x u δ l k f r w' b dn)
