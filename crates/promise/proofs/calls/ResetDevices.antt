-- A reset of zone z: any device that it may pass through, as far as the general logs and the other zones go. The general logs have grown by
-- its own entries; of the other zones nothing has changed but that more may last.
use Rattle.logs.specs.laws.HeadLaws.{last_counters_either, last_counters_kept, last_counters_append, generation_small}
use Rattle.volume.specs.laws.Counters.{generations_at, generations_length, generations_small}
use Rattle.tables.specs.laws.Lists.{map_append, length_map, take_append, prefix_refl, mem_take, mem_more, mem_append, mem_left}
use Rattle.std.specs.Prelude.{◌≡◌, refl, ◌≢◌, ◌⊎◌, true, false, ℕ, zero, suc, ◌+◌, ◌-◌, ◌≤◌, ◌<◌, length, get_or, take, eqb}
use Rattle.std.proofs.Common.{sym, ap, ◌∙◌, subst, inl, inr, le_trans, arith, length-append, eq-eqb, ne_eqb, lt-ltb}
use Rattle.std.proofs.Math.Decide.{ℕ_discrete}
use mathlib.Core.List.{List, [], ◌++◌, map, Memᴰ}
use Rattle.std.proofs.Math.Seq.{take-length}
use Rattle.std.proofs.lemmas.List.{take-append-le}
use Rattle.tables.specs.meaning.Device.{Device}
use Rattle.tables.specs.meaning.Basics.{pick}
use Rattle.tables.specs.declared.Geometry.{Geometry}
use Rattle.tables.specs.meaning.Geometry.{Valid, physical_zones, data_zone}
use Rattle.logs.specs.meaning.Entry.{general_zone, parity_zone, worn_generation, Header, label, counters, zone_reset, encode, closing}
use Rattle.tables.specs.meaning.Drives.{present_but}
use Rattle.logs.specs.laws.Walk.{Reads, cut_mono}
use Rattle.logs.specs.laws.Codec.{reads}
use Rattle.logs.specs.meaning.Heads.{last_counters, generation_in}
use Rattle.volume.specs.meaning.State.{StateView}
use Rattle.promise.proofs.invariant.Obligations.{ResetOk}
use Rattle.volume.specs.meaning.Calls.{generations_from, raised_at, logs_reset}
use Rattle.promise.specs.meaning.Ledger.{Ledger}
use Rattle.promise.proofs.invariant.Invariant.{Ghost, Here, LogsOk, Rest, RestZone, closing_entry}
use Rattle.promise.proofs.invariant.UntouchedZone.{Other, Joins, other, its_reset, Untouched}
use Rattle.promise.proofs.calls.FlushKeeps.{MoreDurable}
use Rattle.promise.proofs.invariant.LastLabels.{names_later, names_join}

-- ---- a device that reset of z may pass through: the general log of drive d has grown by T d
module _ (g : Geometry) (ok : Valid g) (x : ℕ) (v : Device) (state : StateView) (l : Ledger) (γ : Ghost) (r : Rest g x v state l γ) (z : ℕ) (rk : ResetOk g (present_but g x) v state z) where
  pub here : RestZone g x v state l γ z
  here = r.zones z rk.zone_ok

  abbrev pub raised : List ℕ
  raised = generations_from (raised_at state z) zero g.zones

  -- what may join the general log of drive d
  abbrev pub New : ℕ → Header → Type 0
  New d h = ((h ≡ zone_reset z (γ.generation z)) × (logs_reset g z d ≡ true)) ⊎ (h ≡ counters raised)

  pub record After (w : Device) (T : ℕ → List Header) : Type 0 where
    pub log : (d : ℕ) → Here g x d → (w d general_zone).sectors ≡ (v d general_zone).sectors ++ map (encode g d) (T d)
    pub log_least : (d : ℕ) → Here g x d → (v d general_zone).durable ≤ (w d general_zone).durable
    pub log_most : (d : ℕ) → Here g x d → (w d general_zone).durable ≤ length (w d general_zone).sectors
    pub new : (d : ℕ) → Here g x d → (h : Header) → Memᴰ h (T d) → New d h
    pub few : (d : ℕ) → Here g x d → length (T d) ≤ 2
    pub zone_most : (d : ℕ) → Here g x d → (w d (data_zone z)).durable ≤ length (w d (data_zone z)).sectors
    pub zone_less : (d : ℕ) → Here g x d → length (w d (data_zone z)).sectors ≤ length (v d (data_zone z)).sectors
    pub others : (d y : ℕ) → Here g x d → y < physical_zones g → y ≢ general_zone → y ≢ data_zone z → MoreDurable (v d y) (w d y)

  gens_most : (y : ℕ) → y < g.zones → raised_at state z y ≤ worn_generation
  gens_most y h = go (ℕ_discrete y z)
    where
      go : Dec (y ≡ z) → pick (eqb y z) (suc (state.generation z)) (state.generation y) ≤ worn_generation
      go (yes e) = rw (eq-eqb y z e) rk.not_worn
      go (no n) = rw (ne_eqb y z n, ← (r.zones y h).generation_is) (r.zones y h).live.generation_top

  new_reads : (d : ℕ) → Here g x d → (h : Header) → New d h → Reads g d false h
  new_reads d a h (inl e) = rw e.0 (reads g ok d false (zone_reset z (γ.generation z)) (rk.zone_ok, generation_small (γ.generation z) here.live.generation_top) (rw (lt-ltb z g.zones rk.zone_ok) e.1))
  new_reads d a h (inr e) =
      let q = generations_length (raised_at state z) zero g.zones in
      rw e (reads g ok d false (counters raised) (q, generations_small (raised_at state z) zero g.zones (λ k b. generation_small (raised_at state z (zero + k)) (let i : zero + k ≡ k = omega arith in rw i (gens_most k b)))) (eq-eqb (length raised) g.zones q))

  -- the ghosts: other logs, and whatever the zone's own are
  abbrev pub grown : (ℕ → List (List ℕ)) → (ℕ → ℕ) → (ℕ → List Header) → Ghost
  grown laid generation T = record { laid = laid; generation = generation; general = λ d. γ.general d ++ T d; parity = γ.parity; array = γ.array; closed = γ.closed }

  general_length : (d : ℕ) → Here g x d → length (γ.general d) ≡ length (v d general_zone).sectors
  general_length d a = sym (length_map (encode g d) (γ.general d)) ∙ ap (λ (t : List (List ℕ)). length t) (sym (r.logs.general_is d a))

  module _ (w : Device) (T : ℕ → List Header) (k : After w T) where
    pub after_logs : (laid : ℕ → List (List ℕ)) (generation : ℕ → ℕ) → LogsOk g x w (grown laid generation T)
    after_logs laid generation = record {
      lost_ok = r.logs.lost_ok;
      array_lt = r.logs.array_lt;
      general_is = λ d a. k.log d a ∙ ap (λ (t : List (List ℕ)). t ++ map (encode g d) (T d)) (r.logs.general_is d a) ∙ sym (map_append (encode g d) (γ.general d) (T d));
      general_reads = λ d a h m. old d a h (mem_append (γ.general d) (T d) h m);
      first = λ d a. let (y, hs, e) = r.logs.first d a in (y, hs ++ T d, ap (λ (t : List Header). t ++ T d) e);
      first_lasts = λ d a. le_trans (r.logs.first_lasts d a) (k.log_least d a);
      arrays = λ d a y b m. carries d a y b (mem_append (γ.general d) (T d) (label y b) m);
      labels = λ d a. names_join x (w d general_zone).durable (γ.general d) (names_later x (v d general_zone).durable (γ.general d) (r.logs.labels d a) (w d general_zone).durable (k.log_least d a)) (T d) (λ y b m. absurd (no_label d a y b m));
      general_closes = λ d a j n m. close d a j n (mem_append (γ.general d) (T d) (closing j n) m);
      general_closed = λ d a p. mem_front d a (closing 0 (γ.closed d).0) (r.logs.general_closed d a p);
      parity_closes = r.logs.parity_closes;
      parity_closed_lem = λ d a p. cut_mono g d true (γ.parity d) (v d parity_zone).durable (w d parity_zone).durable (closing_entry 1 (γ.closed d).1) (r.logs.parity_lawful d a) (k.others d parity_zone a (omega arith) (λ t. omega arith) (λ t. omega arith)).least refl (r.logs.parity_closed_lem d a p);
      parity_is = λ d a. (k.others d parity_zone a (omega arith) (λ e. omega arith) (λ e. omega arith)).same ∙ r.logs.parity_is d a;
      parity_lawful = r.logs.parity_lawful;
      parity_fits = r.logs.parity_fits;
      lasting = λ d y a h. last d y a h (ℕ_discrete y general_zone) (ℕ_discrete y (data_zone z));
      place_fits = λ d y a h. fit d y a h (ℕ_discrete y general_zone) (ℕ_discrete y (data_zone z));
    }
      where
        old : (d : ℕ) → Here g x d → (h : Header) → Memᴰ h (γ.general d) ⊎ Memᴰ h (T d) → Reads g d false h
        old d a h (inl m) = r.logs.general_reads d a h m
        old d a h (inr m) = new_reads d a h (k.new d a h m)

        no_label : (d : ℕ) → Here g x d → (y b : ℕ) → Memᴰ (label y b) (T d) → ⊥
        no_label d a y b m = no (k.new d a (label y b) m)
          where
            no : New d (label y b) → ⊥
            no (inl e) = let q : label y b ≡ zone_reset z (γ.generation z) = e.0 in let n : ◌≡◌ {A = ℕ} 0 1 = cc in omega arith
            no (inr e) = let n : ◌≡◌ {A = ℕ} 0 1 = cc in omega arith

        carries : (d : ℕ) → Here g x d → (y b : ℕ) → Memᴰ (label y b) (γ.general d) ⊎ Memᴰ (label y b) (T d) → b ≡ γ.array
        carries d a y b (inl m) = r.logs.arrays d a y b m
        carries d a y b (inr m) = absurd (no_label d a y b m)

        close : (d : ℕ) → Here g x d → (j n : ℕ) → Memᴰ (closing j n) (γ.general d) ⊎ Memᴰ (closing j n) (T d) → n ≡ (γ.closed d).0
        close d a j n (inl m) = r.logs.general_closes d a j n m
        close d a j n (inr m) = absurd (no (k.new d a (closing j n) m))
          where
            no : New d (closing j n) → ⊥
            no (inl e) = let q : closing j n ≡ zone_reset z (γ.generation z) = e.0 in let n : ◌≡◌ {A = ℕ} 0 1 = cc in omega arith
            no (inr e) = let n : ◌≡◌ {A = ℕ} 0 1 = cc in omega arith

        mem_front : (d : ℕ) → Here g x d → (h : Header) → Memᴰ h (take (v d general_zone).durable (γ.general d)) → Memᴰ h (take (w d general_zone).durable (γ.general d ++ T d))
        mem_front d a h m = rw (take_append (w d general_zone).durable (γ.general d) (T d)) (mem_left (take (w d general_zone).durable (γ.general d)) (take ((w d general_zone).durable - length (γ.general d)) (T d)) h (mem_more (v d general_zone).durable (w d general_zone).durable (γ.general d) h (k.log_least d a) m))

        last : (d y : ℕ) → Here g x d → y < physical_zones g → Dec (y ≡ general_zone) → Dec (y ≡ data_zone z) → (w d y).durable ≤ length (w d y).sectors
        last d y a h (yes e) q = rw e (k.log_most d a)
        last d y a h (no e) (yes q) = rw q (k.zone_most d a)
        last d y a h (no e) (no q) = (k.others d y a h e q).most

        fit : (d y : ℕ) → Here g x d → y < physical_zones g → Dec (y ≡ general_zone) → Dec (y ≡ data_zone z) → length (w d y).sectors ≤ g.capacity
        fit d y a h (yes e) q = rw (e, k.log d a, length-append (v d general_zone).sectors (map (encode g d) (T d)), length_map (encode g d) (T d)) (omega (arith, rk.room d a, k.few d a))
        fit d y a h (no e) (yes q) = rw q (le_trans (k.zone_less d a) (rw (← q) (r.logs.place_fits d y a h)))
        fit d y a h (no e) (no q) = rw (k.others d y a h e q).same (r.logs.place_fits d y a h)

    -- what a cut leaves of the counters
    generation_cut : (y : ℕ) → y < g.zones → (d : ℕ) → Here g x d → (j : ℕ)
        → (generation_in y (take j (γ.general d ++ T d)) ≡ generation_in y (take j (γ.general d))) ⊎ (generation_in y (take j (γ.general d ++ T d)) ≡ raised_at state z y)
    generation_cut y h d a j =
        let m = j - length (γ.general d) in
        let e : last_counters [] (take j (γ.general d ++ T d)) ≡ last_counters (last_counters [] (take j (γ.general d))) (take m (T d)) =
        ap (last_counters []) (take_append j (γ.general d) (T d)) ∙ last_counters_append [] (take j (γ.general d)) (take m (T d)) in
        go e (last_counters_either raised (last_counters [] (take j (γ.general d))) z (γ.generation z) (take m (T d)) (λ f i. short f (k.new d a f (mem_take m (T d) f i))))
      where
        short : (f : Header) → New d f → (f ≡ zone_reset z (γ.generation z)) ⊎ (f ≡ counters raised)
        short f (inl e) = inl e.0
        short f (inr e) = inr e

        go : last_counters [] (take j (γ.general d ++ T d)) ≡ last_counters (last_counters [] (take j (γ.general d))) (take (j - length (γ.general d)) (T d))
            → (last_counters (last_counters [] (take j (γ.general d))) (take (j - length (γ.general d)) (T d)) ≡ last_counters [] (take j (γ.general d))) ⊎ (last_counters (last_counters [] (take j (γ.general d))) (take (j - length (γ.general d)) (T d)) ≡ raised)
            → (generation_in y (take j (γ.general d ++ T d)) ≡ generation_in y (take j (γ.general d))) ⊎ (generation_in y (take j (γ.general d ++ T d)) ≡ raised_at state z y)
        go e (inl q) = inl (ap (λ (c : List ℕ). get_or c y zero) (e ∙ q))
        go e (inr q) = inr (ap (λ (c : List ℕ). get_or c y zero) (e ∙ q) ∙ (let i : zero + y ≡ y = omega arith in rw i at (generations_at (raised_at state z) zero g.zones y h)))

    -- a current generation, or z's next one
    pub generation_after : (y : ℕ) → y < g.zones → (d : ℕ) → Here g x d → (j : ℕ) → (w d general_zone).durable ≤ j
        → (generation_in y (take j (γ.general d ++ T d)) ≡ γ.generation y) ⊎ ((y ≡ z) × (generation_in y (take j (γ.general d ++ T d)) ≡ suc (γ.generation z)))
    generation_after y h d a j q = go (generation_cut y h d a j) (ℕ_discrete y z)
      where
        go : (generation_in y (take j (γ.general d ++ T d)) ≡ generation_in y (take j (γ.general d))) ⊎ (generation_in y (take j (γ.general d ++ T d)) ≡ raised_at state z y) → Dec (y ≡ z)
            → (generation_in y (take j (γ.general d ++ T d)) ≡ γ.generation y) ⊎ ((y ≡ z) × (generation_in y (take j (γ.general d ++ T d)) ≡ suc (γ.generation z)))
        go (inl e) n = inl (e ∙ (r.zones y h).live.counts d a j (le_trans (k.log_least d a) q))
        go (inr e) (yes n) = inr (n, e ∙ rw (eq-eqb y z n, here.generation_is) refl)
        go (inr e) (no n) = inl (e ∙ rw (ne_eqb y z n, (r.zones y h).generation_is) refl)

    -- without counters
    pub generation_kept : ((d : ℕ) → Here g x d → (h : Header) → Memᴰ h (T d) → h ≡ zone_reset z (γ.generation z)) → (y : ℕ) → y < g.zones → (d : ℕ) → Here g x d → (j : ℕ) → (w d general_zone).durable ≤ j
        → generation_in y (take j (γ.general d ++ T d)) ≡ γ.generation y
    generation_kept s y h d a j q =
        let m = j - length (γ.general d) in
        let e : last_counters [] (take j (γ.general d ++ T d)) ≡ last_counters [] (take j (γ.general d)) =
        ap (last_counters []) (take_append j (γ.general d) (T d)) ∙ last_counters_append [] (take j (γ.general d)) (take m (T d))
        ∙ last_counters_kept (last_counters [] (take j (γ.general d))) z (γ.generation z) (take m (T d)) (λ f i. s d a f (mem_take m (T d) f i)) in
        ap (λ (c : List ℕ). get_or c y zero) e ∙ (r.zones y h).live.counts d a j (le_trans (k.log_least d a) q)

    -- what lasted lasts
    pub lasts_after : (d : ℕ) → Here g x d → (h : Header) → Memᴰ h (take (v d general_zone).durable (γ.general d)) → Memᴰ h (take (w d general_zone).durable (γ.general d ++ T d))
    lasts_after d a h m =
        let n = (v d general_zone).durable in
        let b : n ≤ length (γ.general d) = rw (general_length d a) (r.logs.lasting d general_zone a (omega arith)) in
        mem_more n (w d general_zone).durable (γ.general d ++ T d) h (k.log_least d a) (rw (take-append-le n (γ.general d) (T d) b) m)

    -- a zone of which the counters say what they said
    pub more_after : (laid : ℕ → List (List ℕ)) (generation : ℕ → ℕ) (m : Ledger) (y : ℕ) → y < g.zones → generation y ≡ γ.generation y → laid y ≡ γ.laid y
        → m.content y ≡ l.content y → m.committed y ≡ l.committed y → (l.resetting y ≡ true → m.resetting y ≡ true) → (y ≡ z → m.resetting y ≡ true)
        → ((d : ℕ) → Here g x d → (j : ℕ) → (w d general_zone).durable ≤ j → generation_in y (take j (γ.general d ++ T d)) ≡ γ.generation y)
        → ((d : ℕ) → Here g x d → MoreDurable (v d (data_zone y)) (w d (data_zone y)))
        → Untouched g x v w γ (grown laid generation T) l m y
    more_after laid generation m y h eg ee ec em ef own cuts held = record {
      generation_is = eg;
      laid_is = ee;
      content_is = ec;
      committed_is = em;
      flag_stays = ef;
      general_new = λ d a f i. old d a f (mem_append (γ.general d) (T d) f i);
      general_lasts_lem = lasts_after;
      general_cuts = λ d a j q. let i : (v d general_zone).durable ≤ j = le_trans (k.log_least d a) q in (j, i, cuts d a j q ∙ sym ((r.zones y h).live.counts d a j i));
      parity_new = λ d a e i. inl (record { of = e; is_set = i; heads = refl; many = length e.rows; rows_are = sym (take-length e.rows) });
      parity_lasts_lem = λ d a e q i. cut_mono g d true (γ.parity d) (v d parity_zone).durable (w d parity_zone).durable e (r.logs.parity_lawful d a) (k.others d parity_zone a (omega arith) (λ t. omega arith) (λ t. omega arith)).least q i;
      data_sub = λ d a. rw (held d a).same (prefix_refl (v d (data_zone y)).sectors);
      data_lasts = λ d a. (held d a).least;
    }
      where
        old : (d : ℕ) → Here g x d → (f : Header) → Memᴰ f (γ.general d) ⊎ Memᴰ f (T d) → Memᴰ f (γ.general d) ⊎ Joins y (γ.generation y) (m.resetting y) f
        old d a f (inl i) = inl i
        old d a f (inr i) = inr (go (k.new d a f i) (ℕ_discrete y z))
          where
            go : New d f → Dec (y ≡ z) → Joins y (γ.generation y) (m.resetting y) f
            go (inl e) (yes q) = its_reset (e.0 ∙ rw q refl) (own q) (rw (q, here.generation_is) rk.not_worn)
            go (inl e) (no q) = other (subst (λ (t : Header). Other y t) (sym e.0) (λ p. q (sym p)))
            go (inr e) q = other (subst (λ (t : Header). Other y t) (sym e) tt)
