-- A finished format, of any device: whatever was there is reset, each present drive has a label and counters, and both are durable. So every
-- zone is empty and all is at rest.
use Rattle.std.specs.Prelude.{◌≡◌, ◌≢◌, ◌⊎◌, Bool, true, false, ◌&&◌, ◌||◌, take, ltb, eqb}
use Rattle.std.proofs.Math.Path.{refl, ap}
use Rattle.std.proofs.Common.{sym, ◌∙◌, subst, inl, le_refl, length-append, take_all, eq-eqb, ne_eqb, lt-ltb}
use Rattle.std.proofs.Math.Logic.{inr}
use Prim.Native.Nat.{ℕ, zero, suc, ◌+◌, ◌^◌, ◌≤◌, ◌<◌, zero-le}
use native.Mathlib.Omega.{arith}
use Rattle.std.proofs.Math.Decide.{ℕ_discrete}
use mathlib.Core.List.{List, [], ◌∷◌, ◌++◌, map, Memᴰ}
use Rattle.std.proofs.Math.ListN.{length}
use Rattle.tables.specs.laws.Basics.{or_left, or_right}
use Rattle.tables.specs.meaning.Basics.{pick}
use Rattle.tables.specs.meaning.Below.{each_below}
use Rattle.tables.specs.meaning.Device.{Device, ZoneView, Store, reset, appended, flushed, blank_zone, apply_all}
use Rattle.tables.specs.laws.Local.{LocalStore, append_here, reset_here, flush_here, apply_all_here, local_stores, local_is, local_take}
use Rattle.tables.specs.laws.Phases.{on_present_local, local_phases, local_whole, each_below_at, each_below_own, each_below_unseen, flush_all_local}
use Rattle.tables.specs.meaning.Phases.{each_on_present, flush_all}
use Rattle.tables.specs.laws.Lists.{Prefix, mem_nil}
use Rattle.tables.specs.meaning.Lists.{concat}
use Rattle.tables.specs.declared.Geometry.{Geometry}
use Rattle.tables.specs.meaning.Geometry.{Valid, physical_zones, data_zone}
use Rattle.logs.specs.meaning.Entry.{general_zone, parity_zone, worn_generation, Header, label, counters, encode, closing}
use Rattle.tables.specs.laws.Drives.{present_below}
use Rattle.tables.specs.meaning.Drives.{no_drive, present_but}
use Rattle.logs.specs.laws.Walk.{Reads}
use Rattle.logs.specs.laws.Codec.{reads}
use Rattle.logs.specs.meaning.Heads.{generation_in}
use Rattle.logs.specs.laws.Heads.{zone_gen}
use Rattle.volume.specs.meaning.Calls.{generations_from, append_general, format_phases, format_stores, format_state}
use Rattle.promise.specs.meaning.Ledger.{fresh_ledger}
use Rattle.promise.proofs.invariant.Invariant.{Ghost, Here, LogsOk, Rest}
use Rattle.promise.proofs.invariant.EmptiedZone.{MadeEmpty, made_empty_rest}
use Rattle.volume.specs.laws.Counters.{generations_length, generations_at, generations_small}
use Rattle.promise.proofs.invariant.Obligations.{FormatRests, never_emptied}

-- ---- how much longer a place can become
abbrev appends_in : List LocalStore → ℕ
appends_in [] = zero
appends_in (append_here s ∷ os) = suc (appends_in os)
appends_in (reset_here ∷ os) = appends_in os
appends_in (flush_here ∷ os) = appends_in os

appends_most : (os : List LocalStore) (z : ZoneView) → length (apply_all_here os z).sectors ≤ length z.sectors + appends_in os
appends_most [] z = omega arith
appends_most (append_here s ∷ os) z = omega (arith, appends_most os (appended s z), length-append z.sectors (s ∷ []))
appends_most (reset_here ∷ os) z = omega (arith, appends_most os blank_zone)
appends_most (flush_here ∷ os) z = omega (arith, appends_most os (flushed z))

appends_front : (os ps : List LocalStore) → appends_in os ≤ appends_in (os ++ ps)
appends_front [] ps = zero-le
appends_front (append_here s ∷ os) ps = omega (arith, appends_front os ps)
appends_front (reset_here ∷ os) ps = appends_front os ps
appends_front (flush_here ∷ os) ps = appends_front os ps

module _ (g : Geometry) (ok : Valid g) (x a : ℕ) (v : Device) (lost : (x ≡ no_drive) ⊎ (x < g.drives)) (ha : a < 256 ^ 8) where
  abbrev ones : List ℕ
  ones = generations_from (λ z. 1) zero g.zones

  abbrev heads : List Header
  heads = label x a ∷ counters ones ∷ []

  abbrev wipes : ℕ → List Store
  wipes d = each_below (λ y. reset d y ∷ []) (physical_zones g)

  abbrev begins : ℕ → List Store
  begins d = append_general g (label x a) d ++ append_general g (counters ones) d

  abbrev phases : List (List Store)
  phases = each_on_present (present_but g x) (format_phases g x a)

  after : Device
  after = apply_all (concat phases) v

  module _ (d : ℕ) (h : Here g x d) where
    four : (y : ℕ) (o p : List LocalStore) → local_stores d y (each_below wipes g.drives) ≡ o → local_stores d y (each_below begins g.drives) ≡ p → local_phases d y phases ≡ o ∷ (flush_here ∷ []) ∷ p ∷ (flush_here ∷ []) ∷ []
    four y o p e f =
        rw (
          on_present_local (present_but g x) d y (each_below wipes g.drives) h,
          on_present_local (present_but g x) d y (each_below begins g.drives) h,
          on_present_local (present_but g x) d y (flush_all g.drives) h,
          flush_all_local d y g.drives (present_below g x d h),
          e,
          f,
        )
        refl

    wiped : (y : ℕ) → y < physical_zones g → local_stores d y (each_below wipes g.drives) ≡ reset_here ∷ []
    wiped y b =
        each_below_own wipes d y (λ k n. each_below_unseen (λ u. reset k u ∷ []) d y (λ u. rw (ne_eqb d k n) refl) (physical_zones g)) g.drives (present_below g x d h)
        ∙ each_below_at (λ u. reset d u ∷ []) d y y (λ u n. rw (eq-eqb d d refl, ne_eqb y u n) refl) (physical_zones g) b
        ∙ rw (eq-eqb d d refl, eq-eqb y y refl) refl

    begun : local_stores d general_zone (each_below begins g.drives) ≡ append_here (encode g d (label x a)) ∷ append_here (encode g d (counters ones)) ∷ []
    begun = each_below_own begins d general_zone (λ k n. rw (ne_eqb d k n) refl) g.drives (present_below g x d h) ∙ rw (eq-eqb d d refl) refl

    begun_other : (y : ℕ) → y ≢ general_zone → local_stores d y (each_below begins g.drives) ≡ []
    begun_other y n = each_below_unseen begins d y (λ k. go k (eqb d k)) g.drives
      where
        go : (k : ℕ) (b : Bool) → pick (b && eqb y general_zone) (append_here (encode g k (label x a)) ∷ []) [] ++ (pick (b && eqb y general_zone) (append_here (encode g k (counters ones)) ∷ []) [] ++ []) ≡ []
        go k true = rw (ne_eqb y general_zone n) refl
        go k false = refl

    log_is : after d general_zone ≡ record { sectors = map (encode g d) heads; durable = 2 }
    unfolding after
    log_is = local_is d general_zone (concat phases) v ∙ ap (λ (os : List LocalStore). apply_all_here os (v d general_zone)) (local_whole d general_zone phases ∙ ap concat (four general_zone (reset_here ∷ []) (append_here (encode g d (label x a)) ∷ append_here (encode g d (counters ones)) ∷ []) (wiped general_zone (omega arith)) begun))

    place_is : (y : ℕ) → y < physical_zones g → y ≢ general_zone → after d y ≡ blank_zone
    unfolding after
    place_is y b n = local_is d y (concat phases) v ∙ ap (λ (os : List LocalStore). apply_all_here os (v d y)) (local_whole d y phases ∙ ap concat (four y (reset_here ∷ []) [] (wiped y b) (begun_other y n)))

    -- a format stopped anywhere leaves no place longer than C
    pub format_room : (n y : ℕ) → y < physical_zones g → length (v d y).sectors ≤ g.capacity → length (apply_all (take n (concat phases)) v d y).sectors ≤ g.capacity
    format_room n y b k = rw (local_is d y (take n (concat phases)) v) (short (local_stores d y (concat phases)) (whole (ℕ_discrete y general_zone)) (local_stores d y (take n (concat phases))) (local_take d y n (concat phases)))
      where
        whole : Dec (y ≡ general_zone) → (os : List LocalStore) × (local_stores d y (concat phases) ≡ reset_here ∷ os) × (appends_in os ≤ 2)
        whole (yes e) = (
          flush_here ∷ append_here (encode g d (label x a)) ∷ append_here (encode g d (counters ones)) ∷ flush_here ∷ [],
          local_whole d y phases ∙ ap concat (four y (reset_here ∷ []) (append_here (encode g d (label x a)) ∷ append_here (encode g d (counters ones)) ∷ []) (wiped y b) (rw e begun)),
          le_refl 2,
        )
        whole (no e) = (flush_here ∷ flush_here ∷ [], local_whole d y phases ∙ ap concat (four y (reset_here ∷ []) [] (wiped y b) (begun_other y e)), zero-le)

        short : (all : List LocalStore) → (os : List LocalStore) × (all ≡ reset_here ∷ os) × (appends_in os ≤ 2) → (os : List LocalStore) → Prefix os all → length (apply_all_here os (v d y)).sectors ≤ g.capacity
        short all q [] p = k
        short all (rest, e, m) (o ∷ os) p =
            let h : o ≡ reset_here = cc (p.is ∙ e) in
            let t : os ++ p.rest ≡ rest = cc (p.is ∙ e) in
            rw h (omega (arith, appends_most os blank_zone, appends_front os p.rest, ap appends_in t, ok.general_fits))

  ghost : Ghost
  ghost = record { laid = λ z. []; generation = λ z. 1; general = λ d. heads; parity = λ d. []; array = a; closed = never_emptied }

  label_fits : ltb x g.drives || eqb x no_drive ≡ true
  label_fits = go lost
    where
      go : (x ≡ no_drive) ⊎ (x < g.drives) → ltb x g.drives || eqb x no_drive ≡ true
      go (inl e) = or_right (ltb x g.drives) (eqb x no_drive) (eq-eqb x no_drive e)
      go (inr e) = or_left (ltb x g.drives) (eqb x no_drive) (lt-ltb x g.drives e)

  heads_read : (d : ℕ) (h : Header) → Memᴰ h heads → Reads g d false h
  heads_read d h (Memᴰ.head q) = rw q (reads g ok d false (label x a) ha label_fits)
  heads_read d h (Memᴰ.tail (Memᴰ.head q)) =
      let n = generations_length (λ z. 1) zero g.zones in
      rw q (reads g ok d false (counters ones) (n, generations_small (λ z. 1) zero g.zones (λ k b. omega arith)) (eq-eqb (length ones) g.zones n))
  heads_read d h (Memᴰ.tail (Memᴰ.tail m)) = mem_nil h m

  heads_arrays : (y b : ℕ) → Memᴰ (label y b) heads → b ≡ a
  heads_arrays y b (Memᴰ.head q) = cc
  heads_arrays y b (Memᴰ.tail (Memᴰ.head q)) = absurd (let n : ◌≡◌ {A = ℕ} 0 1 = cc in omega arith)
  heads_arrays y b (Memᴰ.tail (Memᴰ.tail m)) = mem_nil (label y b) m

  heads_closes : (j n : ℕ) → Memᴰ (closing j n) heads → n ≡ zero
  heads_closes j n (Memᴰ.head q) = absurd (let n : ◌≡◌ {A = ℕ} 0 1 = cc in omega arith)
  heads_closes j n (Memᴰ.tail (Memᴰ.head q)) = absurd (let n : ◌≡◌ {A = ℕ} 0 1 = cc in omega arith)
  heads_closes j n (Memᴰ.tail (Memᴰ.tail m)) = mem_nil (closing j n) m

  heads_generation : (z : ℕ) (P : ℕ → Type 0) (h : Header) → Memᴰ h heads → zone_gen h (λ y n. y ≡ z → P n)
  heads_generation z P h (Memᴰ.head q) = subst (λ (t : Header). zone_gen t (λ y n. y ≡ z → P n)) (sym q) tt
  heads_generation z P h (Memᴰ.tail (Memᴰ.head q)) = subst (λ (t : Header). zone_gen t (λ y n. y ≡ z → P n)) (sym q) tt
  heads_generation z P h (Memᴰ.tail (Memᴰ.tail m)) = mem_nil h m

  logs : LogsOk g x after ghost
  unfolding ghost
  logs = record {
    lost_ok = lost;
    array_lt = ha;
    general_is = λ d h. rw (log_is d h) refl;
    general_reads = λ d h. heads_read d;
    first = λ d h. (x, counters ones ∷ [], refl);
    first_lasts = λ d h. rw (log_is d h) (omega arith);
    arrays = λ d h. heads_arrays;
    labels = λ d h. rw (log_is d h) (λ j q. rw (take_all j heads q) (inr refl));
    general_closes = λ d h. heads_closes;
    general_closed = λ d h p. absurd (omega (arith, p));
    parity_closes = λ d h e m k n q. mem_nil e m;
    parity_closed_lem = λ d h p. absurd (omega (arith, p));
    parity_is = λ d h. rw (place_is d h parity_zone (omega arith) (λ e. omega arith)) refl;
    parity_lawful = λ d h. tt;
    parity_fits = λ d h. zero-le;
    lasting = λ d y h b. last d y h b (ℕ_discrete y general_zone);
    place_fits = λ d y h b. fit d y h b (ℕ_discrete y general_zone);
  }
    where
      last : (d y : ℕ) → Here g x d → y < physical_zones g → Dec (y ≡ general_zone) → (after d y).durable ≤ length (after d y).sectors
      last d y h b (yes e) = rw (e, log_is d h) (le_refl 2)
      last d y h b (no n) = rw (place_is d h y b n) zero-le

      fit : (d y : ℕ) → Here g x d → y < physical_zones g → Dec (y ≡ general_zone) → length (after d y).sectors ≤ g.capacity
      fit d y h b (yes e) = rw (e, log_is d h) (omega (arith, ok.general_fits))
      fit d y h b (no n) = rw (place_is d h y b n) zero-le

  one_small : 1 < worn_generation
  unfolding worn_generation
  one_small = omega arith

  blank : (z : ℕ) → z < g.zones → MadeEmpty g x after ghost fresh_ledger z
  unfolding ghost
  blank z hz = record {
    laid_nil = refl;
    content_nil = refl;
    committed_nil = refl;
    most = omega (arith, one_small);
    data_nil = λ d h. rw (place_is d h (data_zone z) (omega arith) (λ e. omega arith)) refl;
    counts = λ d h j q. let k : 2 ≤ j = rw (log_is d h) at q in ap (generation_in z) (take_all j heads k) ∙ generations_at (λ y. 1) zero g.zones z hz;
    before = record { in_general_lem = λ d h. heads_generation z (λ n. n < 1); in_parity_lem = λ d h e m. mem_nil e m };
  }

  pub parity_empty : (d : ℕ) → Here g x d → (apply_all (concat phases) v d parity_zone).sectors ≡ []
  unfolding after
  parity_empty d h = ap (λ (k : ZoneView). k.sectors) (place_is d h parity_zone (omega arith) (λ e. omega arith))

  pub finishes : (δ : Ghost) × Rest g x (apply_all (concat phases) v) (format_state x) fresh_ledger δ × (δ.closed ≡ never_emptied)
  unfolding after ghost
  finishes = (
    ghost,
    record {
      logs = logs;
      zones = λ z h. made_empty_rest g ok x after ghost fresh_ledger z (blank z h) (format_state x) refl (inl (refl, one_small)) refl;
      whole = λ d h e m. mem_nil e m;
      lost_is = inr refl;
    },
    unfold ghost in refl,
  )

pub format_rests : (g : Geometry) → Valid g → FormatRests g
unfolding format_stores
format_rests g ok x a v lost h = finishes g ok x a v lost h

-- and every parity log without a sector
pub format_log : (g : Geometry) → Valid g → (x a : ℕ) (v : Device) → (x ≡ no_drive) ⊎ (x < g.drives) → a < 256 ^ 8 → (d : ℕ) → Here g x d → (apply_all (format_stores g (present_but g x) x a) v d parity_zone).sectors ≡ []
unfolding format_stores
format_log g ok x a v lost h d hd = parity_empty g ok x a v lost h d hd
