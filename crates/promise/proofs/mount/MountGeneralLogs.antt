-- A step of a mount that adds entries to the general logs alone (steps 3, 4, 6 and 7): what each place sees of it, what a stop leaves, and
-- what holds when it has been flushed.
use Rattle.tables.specs.laws.Phases.{each_below_own, each_below_unseen}
use Rattle.tables.specs.laws.Lists.{length_map, map_append, mem_take, mem_more, take_map, mem_left, mem_right, mem_append}
use Rattle.std.specs.Prelude.{◌≡◌, ◌≢◌, ◌⊎◌, Bool, true, ◌&&◌, ℕ, zero, suc, ◌+◌, ◌-◌, ◌≤◌, ◌<◌, get_or, eqb}
use Rattle.std.proofs.Math.Path.{refl, sym, ap, ap₂}
use Rattle.std.proofs.Common.{◌∙◌, true≢false, zero-le, le_refl, le_of_eq, not-suc-le-zero, arith, length-take, eq-eqb, ne_eqb}
use Rattle.std.proofs.Math.Logic.{inl, inr}
use Rattle.std.proofs.Math.Bool.{false}
use Rattle.std.proofs.Math.Nat.{le_trans}
use Rattle.std.proofs.Math.Decide.{ℕ_discrete}
use mathlib.Core.List.{List, [], ◌∷◌, ◌++◌, map, append-nil, Memᴰ}
use Rattle.std.proofs.Math.ListN.{length, take, length-append}
use Rattle.std.proofs.Math.Seq.{take-append-add, take_all}
use Rattle.std.proofs.lemmas.List.{take-append-le}
use Rattle.tables.specs.meaning.Device.{ZoneView, Device, Store, flushed}
use Rattle.tables.specs.meaning.Basics.{pick}
use Rattle.tables.specs.meaning.Below.{each_below, count_below}
use Rattle.tables.specs.laws.Local.{LocalStore, append_here, apply_all_here, local_stores, local_append, appends_here}
use Rattle.volume.specs.meaning.Calls.{append_general}
use Rattle.tables.specs.declared.Geometry.{Geometry}
use Rattle.logs.specs.meaning.Entry.{general_zone, parity_zone, worn_generation, Header, label, counters, encode, closing}
use Rattle.tables.specs.meaning.Geometry.{physical_zones, data_zone}
use Rattle.tables.specs.laws.Drives.{present_below}
use Rattle.logs.specs.laws.Walk.{Reads}
use Rattle.logs.specs.meaning.Heads.{generation_in, last_counters}
use Rattle.logs.specs.laws.Heads.{zone_gen}
use Rattle.promise.specs.meaning.Ledger.{Ledger}
use Rattle.promise.proofs.invariant.Invariant.{Ghost, Here, LogsOk, Counts, Entries, Live, Why, logged, bare, passed, Dying, Logged, LoggedIn, reset_lasts, counts_past, LabelFits}
use Rattle.promise.proofs.invariant.HoldsLess.{with_logs}
use Rattle.promise.proofs.mount.MountRuns.{AllDurable, Between, Done, Joined, joined_by, between_still, between_adds}
use Rattle.logs.specs.laws.HeadLaws.{generation_append, last_counters_append, LastOf, old, new, last_counters_of}
use Rattle.promise.proofs.invariant.HoldsMore.{NewHead, live_more, why_logged, why_bare}
use Rattle.promise.proofs.invariant.LastLabels.{names_later, names_join}

-- what a step adds to the general logs: hs d on drive d, and nothing elsewhere
pub record Logs (g : Geometry) (x : ℕ) (xs : List Store) (hs : ℕ → List Header) : Type 0 where
  pub sees : (d : ℕ) → Here g x d → local_stores d general_zone xs ≡ map append_here (map (encode g d) (hs d))
  pub unseen : (d y : ℕ) → Here g x d → y ≢ general_zone → local_stores d y xs ≡ []

-- and what it may add
pub record LogsFit (g : Geometry) (x : ℕ) (u : Device) (hs : ℕ → List Header) (array : ℕ) : Type 0 where
  pub reads : (d : ℕ) → Here g x d → (h : Header) → Memᴰ h (hs d) → Reads g d false h
  pub labels : (d : ℕ) → Here g x d → (y a : ℕ) → Memᴰ (label y a) (hs d) → LabelFits x array y a
  pub closes : (d : ℕ) → Here g x d → (k n : ℕ) → Memᴰ (closing k n) (hs d) → ⊥
  pub room : (d : ℕ) → Here g x d → length (u d general_zone).sectors + length (hs d) ≤ g.capacity

-- the general logs after a part of the step
unfoldable pub grown_general : Ghost → Device → Device → (ℕ → List Header) → ℕ → List Header
grown_general γ u w hs d = γ.general d ++ take (joined_by (u d general_zone) (w d general_zone)) (hs d)

module _ (g : Geometry) (x : ℕ) (u : Device) (γ : Ghost) (xs : List Store) (hs : ℕ → List Header) (lg : LogsOk g x u γ) (state : AllDurable g x u) (lo : Logs g x xs hs) (w : Device) (b : Between g x u xs w) where
  joined_at : (d : ℕ) → Here g x d → Joined (u d general_zone) (w d general_zone) (map (encode g d) (hs d)) (joined_by (u d general_zone) (w d general_zone))
  joined_at d a =
      let (os, p, q) = b d general_zone a in
      between_adds (map (encode g d) (hs d)) os (u d general_zone) (w d general_zone) (rw (lo.sees d a) at p) q (le_of_eq (state.lasts d general_zone a))

  pub still_at : (d y : ℕ) → Here g x d → y ≢ general_zone → w d y ≡ u d y
  still_at d y a n =
      let (os, p, q) = b d y a in
      q ∙ between_still (u d y) os (rw (lo.unseen d y a n) at p) (state.lasts d y a)

  pub still_parity : (d : ℕ) → Here g x d → w d parity_zone ≡ u d parity_zone
  still_parity d a = still_at d parity_zone a (λ e. omega arith)

  pub still_data : (d z : ℕ) → Here g x d → w d (data_zone z) ≡ u d (data_zone z)
  still_data d z a = still_at d (data_zone z) a (λ e. omega arith)

  general_length : (d : ℕ) → Here g x d → length (γ.general d) ≡ length (u d general_zone).sectors
  general_length d a = sym (ap length (lg.general_is d a) ∙ length_map (encode g d) (γ.general d))

  grown_sectors : (d : ℕ) → Here g x d → (w d general_zone).sectors ≡ map (encode g d) (grown_general γ u w hs d)
  unfolding grown_general
  grown_sectors d a =
      let m = joined_by (u d general_zone) (w d general_zone) in
      (joined_at d a).sectors_are ∙ ap₂ (λ (s t : List (List ℕ)). s ++ t) (lg.general_is d a) (take_map (encode g d) m (hs d)) ∙ sym (map_append (encode g d) (γ.general d) (take m (hs d)))

  pub grown_new : (d : ℕ) → Here g x d → (h : Header) → Memᴰ h (grown_general γ u w hs d) → Memᴰ h (γ.general d) ⊎ Memᴰ h (hs d)
  unfolding grown_general
  grown_new d a h m = go (mem_append (γ.general d) (take (joined_by (u d general_zone) (w d general_zone)) (hs d)) h m)
    where
      go : Memᴰ h (γ.general d) ⊎ Memᴰ h (take (joined_by (u d general_zone) (w d general_zone)) (hs d)) → Memᴰ h (γ.general d) ⊎ Memᴰ h (hs d)
      go (inl k) = inl k
      go (inr k) = inr (mem_take (joined_by (u d general_zone) (w d general_zone)) (hs d) h k)

  pub grown_lasts : (d : ℕ) → Here g x d → (h : Header) → Memᴰ h (take (u d general_zone).durable (γ.general d)) → Memᴰ h (take (w d general_zone).durable (grown_general γ u w hs d))
  unfolding grown_general
  grown_lasts d a h m =
      let n = length (γ.general d) in
      let t = take (joined_by (u d general_zone) (w d general_zone)) (hs d) in
      let k : n ≤ (w d general_zone).durable = omega (arith, general_length d a, state.lasts d general_zone a, (joined_at d a).keeps) in
      mem_more n (w d general_zone).durable (γ.general d ++ t) h k (rw (take-append-le n (γ.general d) t (le_refl n)) (mem_more (u d general_zone).durable n (γ.general d) h (omega (arith, general_length d a, state.lasts d general_zone a)) m))

  -- of one drive
  grown_count : (z : ℕ) (Q : ℕ → Type 0) (d : ℕ) → Here g x d → ((j : ℕ) → (u d general_zone).durable ≤ j → Q (generation_in z (take j (γ.general d)))) → ((cs : List ℕ) → Memᴰ (counters cs) (hs d) → Q (get_or cs z zero))
      → (j : ℕ) → (w d general_zone).durable ≤ j → Q (generation_in z (take j (grown_general γ u w hs d)))
  unfolding grown_general
  grown_count z Q d a c n j h =
      let k = length (γ.general d) in
      let t = take (joined_by (u d general_zone) (w d general_zone)) (hs d) in
      let e : j ≡ k + (j - k) = omega (arith, general_length d a, state.lasts d general_zone a, (joined_at d a).keeps) in
      let s : take j (γ.general d ++ t) ≡ γ.general d ++ take (j - k) t = ap (λ (i : ℕ). take i (γ.general d ++ t)) e ∙ take-append-add (γ.general d) t (j - k) in
      let o : take k (γ.general d) ≡ γ.general d = take_all k (γ.general d) (le_refl k) in
      let q : Q (generation_in z (γ.general d)) = rw o at (c k (omega (arith, general_length d a, state.lasts d general_zone a))) in
      rw s (generation_append Q z (γ.general d) (take (j - k) t) q (λ cs m. n cs (mem_take (joined_by (u d general_zone) (w d general_zone)) (hs d) (counters cs) (mem_take (j - k) t (counters cs) m))))

  pub grown_counts : (z : ℕ) (Q : ℕ → Type 0) → Counts g x u γ z Q → ((d : ℕ) → Here g x d → (cs : List ℕ) → Memᴰ (counters cs) (hs d) → Q (get_or cs z zero))
      → Counts g x w (with_logs γ (grown_general γ u w hs) γ.parity) z Q
  grown_counts z Q c n d a = grown_count z Q d a (c d a) (n d a)

  pub grown_logs : LogsFit g x u hs γ.array → LogsOk g x w (with_logs γ (grown_general γ u w hs) γ.parity)
  unfolding grown_general
  grown_logs f = record {
    lost_ok = lg.lost_ok;
    array_lt = lg.array_lt;
    general_is = grown_sectors;
    general_reads = λ d a h m. reads d a h (grown_new d a h m);
    first = first';
    first_lasts = λ d a. le_trans (lg.first_lasts d a) (joined_at d a).keeps;
    arrays = λ d a y c m. carries d a y c (grown_new d a (label y c) m);
    labels = λ d a. names_join x (w d general_zone).durable (γ.general d) (names_later x (u d general_zone).durable (γ.general d) (lg.labels d a) (w d general_zone).durable (joined_at d a).keeps)
        (take (joined_by (u d general_zone) (w d general_zone)) (hs d)) (λ y c m. (f.labels d a y c (mem_take (joined_by (u d general_zone) (w d general_zone)) (hs d) (label y c) m)).0);
    general_closes = λ d a j n m. close d a j n (grown_new d a (closing j n) m);
    general_closed = λ d a p. grown_lasts d a (closing 0 (γ.closed d).0) (lg.general_closed d a p);
    parity_closes = lg.parity_closes;
    parity_closed_lem = λ d a. rw (still_parity d a) (lg.parity_closed_lem d a);
    parity_is = λ d a. rw (still_parity d a) (lg.parity_is d a);
    parity_lawful = lg.parity_lawful;
    parity_fits = lg.parity_fits;
    lasting = λ d y a h. last d y a h (ℕ_discrete y general_zone);
    place_fits = λ d y a h. fit d y a h (ℕ_discrete y general_zone);
  }
    where
      reads : (d : ℕ) → Here g x d → (h : Header) → Memᴰ h (γ.general d) ⊎ Memᴰ h (hs d) → Reads g d false h
      reads d a h (inl m) = lg.general_reads d a h m
      reads d a h (inr m) = f.reads d a h m

      carries : (d : ℕ) → Here g x d → (y c : ℕ) → Memᴰ (label y c) (γ.general d) ⊎ Memᴰ (label y c) (hs d) → c ≡ γ.array
      carries d a y c (inl m) = lg.arrays d a y c m
      carries d a y c (inr m) = (f.labels d a y c m).1

      close : (d : ℕ) → Here g x d → (j n : ℕ) → Memᴰ (closing j n) (γ.general d) ⊎ Memᴰ (closing j n) (hs d) → n ≡ (γ.closed d).0
      close d a j n (inl m) = lg.general_closes d a j n m
      close d a j n (inr m) = absurd (f.closes d a j n m)

      first' : (d : ℕ) → Here g x d → (y : ℕ) × (t : List Header) × (grown_general γ u w hs d ≡ label y γ.array ∷ t)
      first' d a = let (y, t, e) = lg.first d a in (y, t ++ take (joined_by (u d general_zone) (w d general_zone)) (hs d), rw e refl)

      last : (d y : ℕ) → Here g x d → y < physical_zones g → Dec (y ≡ general_zone) → (w d y).durable ≤ length (w d y).sectors
      last d y a h (yes e) = rw e (joined_at d a).wf
      last d y a h (no e) = rw (still_at d y a e) (lg.lasting d y a h)

      fit : (d y : ℕ) → Here g x d → y < physical_zones g → Dec (y ≡ general_zone) → length (w d y).sectors ≤ g.capacity
      fit d y a h (yes e) =
          let n : length (w d general_zone).sectors ≡ length (u d general_zone).sectors + length (take (joined_by (u d general_zone) (w d general_zone)) (map (encode g d) (hs d))) = ap length (joined_at d a).sectors_are ∙ length-append (u d general_zone).sectors _ in
          let k : length (take (joined_by (u d general_zone) (w d general_zone)) (map (encode g d) (hs d))) ≤ length (hs d) = rw (length-take, length_map (encode g d) (hs d)) (omega arith) in
          rw e (omega (arith, f.room d a))
      fit d y a h (no e) = rw (still_at d y a e) (lg.place_fits d y a h)

  -- ---- the zones
  pub grown_live : (l : Ledger) (z : ℕ) → Live g x u γ l z → ((d : ℕ) → Here g x d → (h : Header) → Memᴰ h (hs d) → NewHead g x u γ l z h)
      → ((d : ℕ) → Here g x d → (cs : List ℕ) → Memᴰ (counters cs) (hs d) → get_or cs z zero ≡ γ.generation z)
      → Live g x w (with_logs γ (grown_general γ u w hs) γ.parity) l z
  grown_live l z h n c = live_more g x u w γ (grown_general γ u w hs) γ.parity grown_lasts l z (λ d a e q m. rw (still_parity d a) m) h
      (λ d a k m. go d a k (grown_new d a k m)) (λ d a e m. inl m) (grown_counts z (λ n. n ≡ γ.generation z) h.counts c)
      (λ d a. rw (still_data d z a) (h.places d a)) (λ d a. rw (still_data d z a) (h.strong.places d a))
    where
      go : (d : ℕ) → Here g x d → (k : Header) → Memᴰ k (γ.general d) ⊎ Memᴰ k (hs d) → Memᴰ k (γ.general d) ⊎ NewHead g x u γ l z k
      go d a k (inl m) = inl m
      go d a k (inr m) = inr (n d a k m)

  -- what counters that join say of a Dying zone
  pub record NewCount (z m : ℕ) : Type 0 where
    pub least : γ.generation z ≤ m
    pub most : m ≤ worn_generation
    pub raises : γ.generation z < m → (e : ℕ) → Here g x e → (u e (data_zone z)).sectors ≡ []
    pub past : (d : ℕ) → Here g x d → ((j : ℕ) → (u d general_zone).durable ≤ j → γ.generation z < generation_in z (take j (γ.general d))) → γ.generation z < m

  pub grown_entries : (z : ℕ) (Q : ℕ → Type 0) → Entries g x γ z Q → ((d : ℕ) → Here g x d → (h : Header) → Memᴰ h (hs d) → zone_gen h (λ y n. y ≡ z → Q n))
      → Entries g x (with_logs γ (grown_general γ u w hs) γ.parity) z Q
  grown_entries z Q e n = record { in_general_lem = λ d a h m. go d a h (grown_new d a h m); in_parity_lem = e.in_parity_lem }
    where
      go : (d : ℕ) → Here g x d → (h : Header) → Memᴰ h (γ.general d) ⊎ Memᴰ h (hs d) → zone_gen h (λ y n. y ≡ z → Q n)
      go d a h (inl m) = e.in_general_lem d a h m
      go d a h (inr m) = n d a h m

  pub grown_dying : (l : Ledger) (z : ℕ) → Dying g x u γ l z → ((d : ℕ) → Here g x d → (h : Header) → Memᴰ h (hs d) → zone_gen h (λ y n. y ≡ z → n ≤ γ.generation z))
      → ((d : ℕ) → Here g x d → (cs : List ℕ) → Memᴰ (counters cs) (hs d) → NewCount z (get_or cs z zero))
      → Dying g x w (with_logs γ (grown_general γ u w hs) γ.parity) l z
  grown_dying l z h n c = record {
    idle = h.idle;
    generation_top = h.generation_top;
    entries = grown_entries z (λ n. n ≤ γ.generation z) h.entries n;
    counts = grown_counts z (λ n. (γ.generation z ≤ n) × (n ≤ worn_generation)) h.counts (λ d a cs m. let k = c d a cs m in (k.least, k.most));
    raised = grown_counts z (λ n. γ.generation z < n → (e : ℕ) → Here g x e → (w e (data_zone z)).sectors ≡ []) (λ d a j k q e i. rw (still_data e z i) (h.raised d a j k q e i))
        (λ d a cs m q e i. rw (still_data e z i) ((c d a cs m).raises q e i));
    why = reason h.why;
  }
    where
      reason : Why g x u γ z → Why g x w (with_logs γ (grown_general γ u w hs) γ.parity) z
      reason (logged k) = logged (why_logged g x u w γ (grown_general γ u w hs) γ.parity grown_lasts z (λ d a p. grown_count z (λ n. γ.generation z < n) d a p (λ cs m. (c d a cs m).past d a p)) k)
      reason (bare k m) = bare (λ d a. rw (still_data d z a) (k d a)) (why_bare g x u w γ (grown_general γ u w hs) γ.parity grown_lasts z (λ d a p. grown_count z (λ n. γ.generation z < n) d a p (λ cs m. (c d a cs m).past d a p)) (λ d a. refl) m)
      reason (passed k) = passed (grown_counts z (λ n. γ.generation z < n) k (λ d a cs m. (c d a cs m).past d a (k d a)))

  -- ---- after the whole step
  done_sectors : Done g x u xs w → (d : ℕ) → Here g x d → w d general_zone ≡ flushed (record { sectors = (u d general_zone).sectors ++ map (encode g d) (hs d); durable = (u d general_zone).durable })
  done_sectors f d a = f d general_zone a ∙ ap flushed (ap (λ (o : List LocalStore). apply_all_here o (u d general_zone)) (lo.sees d a ∙ sym (append-nil (map append_here (map (encode g d) (hs d))))) ∙ appends_here (map (encode g d) (hs d)) [] (u d general_zone))

  pub done_general : Done g x u xs w → (d : ℕ) → Here g x d → grown_general γ u w hs d ≡ γ.general d ++ hs d
  unfolding grown_general
  done_general f d a =
      let e : length (w d general_zone).sectors ≡ length (u d general_zone).sectors + length (hs d) = ap (λ (q : ZoneView). length q.sectors) (done_sectors f d a) ∙ length-append (u d general_zone).sectors (map (encode g d) (hs d)) ∙ rw (length_map (encode g d) (hs d)) refl in
      ap (λ (t : List Header). γ.general d ++ t) (take_all (joined_by (u d general_zone) (w d general_zone)) (hs d) (omega (arith, e)))

  -- the last counters, if none joined
  pub done_counters : Done g x u xs w → (d : ℕ) → Here g x d → ((cs : List ℕ) → Memᴰ (counters cs) (hs d) → ⊥) → last_counters [] (grown_general γ u w hs d) ≡ last_counters [] (γ.general d)
  done_counters f d a n = ap (last_counters []) (done_general f d a) ∙ last_counters_append [] (γ.general d) (hs d) ∙ go (last_counters_of (last_counters [] (γ.general d)) (hs d))
    where
      go : LastOf (last_counters [] (γ.general d)) (hs d) → last_counters (last_counters [] (γ.general d)) (hs d) ≡ last_counters [] (γ.general d)
      go (old e) = e
      go (new cs m e) = absurd (n cs m)

  -- all of a log lasts then
  pub done_mem : Done g x u xs w → (d : ℕ) → Here g x d → (h : Header) → Memᴰ h (γ.general d ++ hs d) → Memᴰ h (take (w d general_zone).durable (grown_general γ u w hs d))
  done_mem f d a h m =
      let e : (w d general_zone).durable ≡ length (grown_general γ u w hs d) = rw (f d general_zone a) refl ∙ sym (ap (λ (q : ZoneView). length q.sectors) (f d general_zone a)) ∙ ap length (grown_sectors d a) ∙ length_map (encode g d) (grown_general γ u w hs d) in
      let t : take (w d general_zone).durable (grown_general γ u w hs d) ≡ grown_general γ u w hs d = take_all (w d general_zone).durable (grown_general γ u w hs d) (omega (arith, e)) in
      rw (t, done_general f d a) m

pub done_settled : (g : Geometry) (x : ℕ) (u : Device) (xs : List Store) (w : Device) → Done g x u xs w → AllDurable g x w
done_settled g x u xs w f = record { lasts = λ d y a. rw (f d y a) refl }

-- ---- lists for drives and zones
pub log_here : (g : Geometry) (h : Header) (d : ℕ) → local_stores d general_zone (append_general g h d) ≡ append_here (encode g d h) ∷ []
log_here g h d = rw (eq-eqb d d refl) refl

pub log_drive : (g : Geometry) (h : Header) (d e y : ℕ) → e ≢ d → local_stores d y (append_general g h e) ≡ []
log_drive g h d e y n = rw (ne_eqb d e (λ q. n (sym q))) refl

pub log_zone : (g : Geometry) (h : Header) (d e y : ℕ) → y ≢ general_zone → local_stores d y (append_general g h e) ≡ []
log_zone g h d e y n = go (eqb d e)
  where
    go : (b : Bool) → pick (b && eqb y general_zone) (append_here (encode g e h) ∷ []) [] ++ [] ≡ []
    go true = rw (ne_eqb y general_zone n) refl
    go false = refl

-- entries for some zones
abbrev pub for_zones : (ℕ → Bool) → (ℕ → Header) → ℕ → List Header
for_zones b h n = each_below (λ z. pick (b z) (h z ∷ []) []) n

pub zones_mem : (b : ℕ → Bool) (h : ℕ → Header) (n : ℕ) (e : Header) → Memᴰ e (for_zones b h n) → (z : ℕ) × (z < n) × (b z ≡ true) × (e ≡ h z)
zones_mem b h (suc n) e m = go (mem_append (for_zones b h n) (pick (b n) (h n ∷ []) []) e m) (λ k. zones_mem b h n e k)
  where
    one : (c : Bool) → b n ≡ c → Memᴰ e (pick c (h n ∷ []) []) → (z : ℕ) × (z < suc n) × (b z ≡ true) × (e ≡ h z)
    one true q (Memᴰ.head p) = (n, omega arith, q, p)
    one false q x3 = elim x3 [ ]
    one true q (mathlib.Core.List.Memᴰ.tail x8) = elim x8 [ ]

    go : Memᴰ e (for_zones b h n) ⊎ Memᴰ e (pick (b n) (h n ∷ []) []) → (Memᴰ e (for_zones b h n) → (z : ℕ) × (z < n) × (b z ≡ true) × (e ≡ h z)) → (z : ℕ) × (z < suc n) × (b z ≡ true) × (e ≡ h z)
    go (inl k) ih = let (z, l, p, q) = ih k in (z, omega arith, p, q)
    go (inr k) ih = one (b n) refl k
zones_mem b h zero e m = elim m [ ]

pub mem_zones : (b : ℕ → Bool) (h : ℕ → Header) (n z : ℕ) → z < n → b z ≡ true → Memᴰ (h z) (for_zones b h n)
mem_zones b h zero z l q = absurd (not-suc-le-zero l)
mem_zones b h (suc n) z l q = go (ℕ_discrete z n) (λ k. mem_zones b h n z k q)
  where
    go : Dec (z ≡ n) → (z < n → Memᴰ (h z) (for_zones b h n)) → Memᴰ (h z) (for_zones b h n ++ pick (b n) (h n ∷ []) [])
    go (yes e) ih = mem_right (for_zones b h n) (pick (b n) (h n ∷ []) []) (h z) (rw (← e, q) (Memᴰ.head refl))
    go (no e) ih = mem_left (for_zones b h n) (pick (b n) (h n ∷ []) []) (h z) (ih (omega arith))

pub zones_length : (b c : ℕ → Bool) (h : ℕ → Header) (n : ℕ) → ((z : ℕ) → z < n → b z ≡ true → c z ≡ true) → length (for_zones b h n) ≤ count_below c n
zones_length b c h zero q = zero-le
zones_length b c h (suc n) q = rw (length-append (for_zones b h n) (pick (b n) (h n ∷ []) [])) (go (b n) refl (c n) refl (zones_length b c h n (λ z l. q z (omega arith))))
  where
    go : (p : Bool) → b n ≡ p → (r : Bool) → c n ≡ r → length (for_zones b h n) ≤ count_below c n → length (for_zones b h n) + length (pick p (h n ∷ []) []) ≤ count_below c n + pick r 1 0
    go true e true f ih = omega (arith, ih)
    go true e false f ih = absurd (true≢false (sym (q n (omega arith) e) ∙ f))
    go false e true f ih = omega (arith, ih)
    go false e false f ih = omega (arith, ih)

module _ (g : Geometry) (b : ℕ → Bool) (h : ℕ → Header) (d : ℕ) where
  zones_here : (n : ℕ) → local_stores d general_zone (each_below (λ z. pick (b z) (append_general g (h z) d) []) n) ≡ map append_here (map (encode g d) (for_zones b h n))
  zones_here zero = refl
  zones_here (suc n) =
      local_append d general_zone (each_below (λ z. pick (b z) (append_general g (h z) d) []) n) (pick (b n) (append_general g (h n) d) []) ∙ rw (zones_here n) (go (b n))
      ∙ sym (ap (map append_here) (map_append (encode g d) (for_zones b h n) (pick (b n) (h n ∷ []) [])) ∙ map_append append_here (map (encode g d) (for_zones b h n)) (map (encode g d) (pick (b n) (h n ∷ []) [])))
    where
      go : (c : Bool) → map append_here (map (encode g d) (for_zones b h n)) ++ local_stores d general_zone (pick c (append_general g (h n) d) []) ≡ map append_here (map (encode g d) (for_zones b h n)) ++ map append_here (map (encode g d) (pick c (h n ∷ []) []))
      go true = rw (log_here g (h n) d) refl
      go false = refl

  zones_drive : (e y : ℕ) → d ≢ e → (n : ℕ) → local_stores e y (each_below (λ z. pick (b z) (append_general g (h z) d) []) n) ≡ []
  zones_drive e y q n = each_below_unseen (λ z. pick (b z) (append_general g (h z) d) []) e y (λ z. go z (b z)) n
    where
      go : (z : ℕ) (c : Bool) → local_stores e y (pick c (append_general g (h z) d) []) ≡ []
      go z true = log_drive g (h z) e d y q
      go z false = refl

  zones_zone : (e y : ℕ) → y ≢ general_zone → (n : ℕ) → local_stores e y (each_below (λ z. pick (b z) (append_general g (h z) d) []) n) ≡ []
  zones_zone e y q n = each_below_unseen (λ z. pick (b z) (append_general g (h z) d) []) e y (λ z. go z (b z)) n
    where
      go : (z : ℕ) (c : Bool) → local_stores e y (pick c (append_general g (h z) d) []) ≡ []
      go z true = log_zone g (h z) e d y q
      go z false = refl

-- drive by drive, entries for some zones
pub logs_zones : (g : Geometry) (x : ℕ) (b : ℕ → ℕ → Bool) (h : ℕ → Header) → Logs g x (each_below (λ d. each_below (λ z. pick (b d z) (append_general g (h z) d) []) g.zones) g.drives) (λ d. for_zones (b d) h g.zones)
logs_zones g x b h = record {
  sees = λ d a. each_below_own (λ d. each_below (λ z. pick (b d z) (append_general g (h z) d) []) g.zones) d general_zone (λ e q. zones_drive g (b e) h e d general_zone (λ p. q (sym p)) g.zones) g.drives (present_below g x d a) ∙ zones_here g (b d) h d g.zones;
  unseen = λ d y a q. each_below_unseen (λ d. each_below (λ z. pick (b d z) (append_general g (h z) d) []) g.zones) d y (λ e. zones_zone g (b e) h e d y q g.zones) g.drives;
}

-- one entry on some drives
pub logs_drives : (g : Geometry) (x : ℕ) (b : ℕ → Bool) (h : Header) → Logs g x (each_below (λ d. pick (b d) (append_general g h d) []) g.drives) (λ d. pick (b d) (h ∷ []) [])
logs_drives g x b h = record {
  sees = λ d a. each_below_own (λ d. pick (b d) (append_general g h d) []) d general_zone (λ e q. drive d e general_zone (λ p. q (sym p)) (b e)) g.drives (present_below g x d a) ∙ mine d (b d);
  unseen = λ d y a q. each_below_unseen (λ d. pick (b d) (append_general g h d) []) d y (λ e. zone d e y q (b e)) g.drives;
}
  where
    drive : (d e y : ℕ) → e ≢ d → (c : Bool) → local_stores d y (pick c (append_general g h e) []) ≡ []
    drive d e y q true = log_drive g h d e y q
    drive d e y q false = refl

    zone : (d e y : ℕ) → y ≢ general_zone → (c : Bool) → local_stores d y (pick c (append_general g h e) []) ≡ []
    zone d e y q true = log_zone g h d e y q
    zone d e y q false = refl

    mine : (d : ℕ) (c : Bool) → local_stores d general_zone (pick c (append_general g h d) []) ≡ map append_here (map (encode g d) (pick c (h ∷ []) []))
    mine d true = log_here g h d
    mine d false = refl
