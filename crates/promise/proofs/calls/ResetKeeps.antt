-- A reset of a zone, stopped anywhere or finished. Each place sees a prefix of the six phases (reset entries, flush, resets, flush, counters,
-- flush), so a stop is a part of one of the devices of ResetStages.antt, also where the zone comes back on drives that cache resets: its reset
-- entries last then, and the counters are not raised. A finished reset leaves the zone empty and all at rest.
use Rattle.std.specs.Prelude.{◌≡◌, ◌≢◌, ◌⊎◌, true, take, eqb}
use Rattle.std.proofs.Math.Path.{refl, ap}
use Rattle.std.proofs.Common.{sym, ◌∙◌, inl, le_refl, take_all}
use Rattle.std.proofs.Math.Logic.{inr}
use Prim.Native.Nat.{ℕ, zero, suc, ◌+◌, ◌≤◌, ◌<◌, zero-le}
use native.Mathlib.Omega.{arith}
use Rattle.std.proofs.Math.Decide.{ℕ_discrete}
use mathlib.Core.List.{List, [], ◌∷◌, ◌++◌, map, append_assoc, Memᴰ}
use Rattle.std.proofs.Math.ListN.{length, get_or, length-append}
use borrow.Author.Tests.{eq-eqb, ne_eqb}
use Rattle.tables.specs.meaning.Basics.{pick}
use Rattle.tables.specs.meaning.Device.{ZoneView, Device, Store, reset, blank_zone, flushed, apply_all}
use Rattle.tables.specs.laws.Local.{LocalStore, append_here, reset_here, flush_here, apply_all_here, local_stores, local_is, NoReset, FrontOf, no_reset_appends, front_part, appends_here}
use Rattle.tables.specs.laws.Lists.{Prefix, prefix_refl, prefix_trans, prefix_append, prefix_nil, prefix_under, prefix_one, mem_nil, map_append, length_map}
use Rattle.tables.specs.meaning.Lists.{concat}
use Rattle.tables.specs.laws.Phases.{local_phases, local_whole, Stop, stop_at, SeenPart, stop_seen, seen_prefix, seen_next}
use Rattle.tables.specs.meaning.Cached.{uncached}
use Rattle.tables.specs.declared.Geometry.{Geometry}
use Rattle.tables.specs.meaning.Geometry.{Valid, physical_zones, data_zone}
use Rattle.logs.specs.meaning.Entry.{general_zone, worn_generation, Header, counters, encode}
use Rattle.tables.specs.meaning.Drives.{present_but}
use Rattle.logs.specs.meaning.Heads.{last_counters, generation_in}
use Rattle.volume.specs.declared.Condition.TheVariants.{Empty, Worn}
use Rattle.volume.specs.meaning.State.{StateView, set_at}
use Rattle.promise.proofs.invariant.Obligations.{Invs, Rests, ResetOk, ResetKeeps, ResetRests}
use Rattle.volume.specs.meaning.Calls.{generations_from, raised_at, logs_reset, reset_stores, reset_state}
use Rattle.promise.specs.meaning.Ledger.{Ledger, after_stopped_reset, after_reset}
use Rattle.promise.proofs.invariant.Invariant.{Ghost, Here, Entries, Inv, Rest, RestZone, LogGenerations}
use Rattle.promise.proofs.invariant.Delayed.{Delayed, delayed_none, BackHere, back_here, still_here, no_reset_part}
use Rattle.promise.proofs.invariant.StoppedCall.{Part, Parts, inv_part}
use Rattle.promise.proofs.invariant.UntouchedZone.{Untouched, untouched_rest}
use Rattle.logs.specs.laws.HeadLaws.{zone_gen_map, last_counters_append}
use Rattle.promise.proofs.calls.FlushKeeps.{MoreDurable, more_durable_flushed}
use Rattle.promise.proofs.invariant.EmptiedZone.{MadeEmpty, made_empty_rest}
use Rattle.promise.proofs.calls.ResetDevices.{After, grown, after_logs, generation_after, more_after}
use Rattle.volume.specs.laws.Counters.{generations_at}
use Rattle.promise.proofs.calls.ResetStages as stages
use Rattle.promise.proofs.calls.ResetSees as sees

pub front_is_part : (a b : ZoneView) → FrontOf a.sectors a.durable b → Part a b
front_is_part a b k = record { front = k.pre; least = k.dur; most = k.wf }

-- the zone's place while it is reset, and until that is flushed: as it was, its reset entries lasting, or blank (a: the place before; t: what it saw behind the
-- first flush)
place_resetting : (a b : ZoneView) (t : List LocalStore) → BackHere (flush_here ∷ t) a [] b → (t ≡ []) ⊎ ((t ≡ reset_here ∷ []) ⊎ (t ≡ reset_here ∷ flush_here ∷ [])) → Part (record { sectors = a.sectors; durable = zero }) b
place_resetting a b t k (inl e) = go (rw e at k)
  where
    go : BackHere (flush_here ∷ []) a [] b → Part (record { sectors = a.sectors; durable = zero }) b
    go (inl q) = rw q (record { front = prefix_refl a.sectors; least = zero-le; most = le_refl (length a.sectors) })
    go (inr m) = mem_nil b m
place_resetting a b t k (inr (inl e)) = go (rw e at k)
  where
    go : BackHere (flush_here ∷ reset_here ∷ []) a [] b → Part (record { sectors = a.sectors; durable = zero }) b
    go (inl q) = rw q (record { front = prefix_nil a.sectors; least = zero-le; most = zero-le })
    go (inr (Memᴰ.head q)) = rw q (record { front = prefix_refl a.sectors; least = zero-le; most = le_refl (length a.sectors) })
    go (inr (Memᴰ.tail m)) = mem_nil b m
place_resetting a b t k (inr (inr e)) = go (rw e at k)
  where
    go : BackHere (flush_here ∷ reset_here ∷ flush_here ∷ []) a [] b → Part (record { sectors = a.sectors; durable = zero }) b
    go (inl q) = rw q (record { front = prefix_nil a.sectors; least = zero-le; most = zero-le })
    go (inr m) = mem_nil b m

module _ (g : Geometry) (ok : Valid g) (x : ℕ) (v : Device) (state : StateView) (l : Ledger) (γ : Ghost) (r : Rest g x v state l γ) (z : ℕ) (rk : ResetOk g (present_but g x) v state z) where
  -- ---- from ResetStages.antt
  here : RestZone g x v state l γ z
  here = stages.here g ok x v state l γ r z rk

  abbrev reset_entry : Header
  reset_entry = stages.reset_entry g ok x v state l γ r z rk

  abbrev reset_entries : ℕ → List Header
  reset_entries = stages.reset_entries g ok x v state l γ r z rk

  abbrev raised_counters : Header
  raised_counters = stages.raised_counters g ok x v state l γ r z rk

  abbrev both_entries : ℕ → List Header
  both_entries = stages.both_entries g ok x v state l γ r z rk

  abbrev bytes : ℕ → List Header → List (List ℕ)
  bytes = stages.bytes g ok x v state l γ r z rk

  abbrev logging_device : Device
  logging_device = stages.logging_device g ok x v state l γ r z rk

  abbrev resetting_device : Device
  resetting_device = stages.resetting_device g ok x v state l γ r z rk

  abbrev counting_device : Device
  counting_device = stages.counting_device g ok x v state l γ r z rk

  at_zone : (d : ℕ) → (resetting_device d (data_zone z) ≡ record { sectors = (v d (data_zone z)).sectors; durable = zero }) × (counting_device d (data_zone z) ≡ blank_zone) × (logging_device d (data_zone z) ≡ v d (data_zone z))
  at_zone = stages.at_zone g ok x v state l γ r z rk

  at_other : (d y : ℕ) → y ≢ general_zone → y ≢ data_zone z → (resetting_device d y ≡ v d y) × (counting_device d y ≡ v d y) × (logging_device d y ≡ v d y)
  at_other = stages.at_other g ok x v state l γ r z rk

  both_entries_are : (d : ℕ) (h : Header) → Memᴰ h (both_entries d) → ((h ≡ reset_entry) × (logs_reset g z d ≡ true)) ⊎ (h ≡ raised_counters)
  both_entries_are = stages.both_entries_are g ok x v state l γ r z rk

  both_entries_few : (d : ℕ) → length (both_entries d) ≤ 2
  both_entries_few = stages.both_entries_few g ok x v state l γ r z rk

  abbrev logging_ghost : Ghost
  logging_ghost = stages.logging_ghost g ok x v state l γ r z rk

  abbrev counting_ghost : Ghost
  counting_ghost = stages.counting_ghost g ok x v state l γ r z rk

  settled_at : (w : Device) (T : ℕ → List Header) → After g ok x v state l γ r z rk w T → (y : ℕ) → y < g.zones → y ≢ z → (d : ℕ) → Here g x d → MoreDurable (v d (data_zone y)) (w d (data_zone y))
  settled_at = stages.settled_at g ok x v state l γ r z rk

  logging_inv : Inv g x logging_device (after_stopped_reset l z) logging_ghost
  logging_inv = stages.logging_inv g ok x v state l γ r z rk

  general_length : (d : ℕ) → Here g x d → length (γ.general d) ≡ length (v d general_zone).sectors
  general_length = stages.general_length g ok x v state l γ r z rk

  entries_after : (w : Device) (T : ℕ → List Header) → After g ok x v state l γ r z rk w T → Entries g x (grown g ok x v state l γ r z rk γ.laid γ.generation T) z (λ n. n ≤ γ.generation z)
  entries_after = stages.entries_after g ok x v state l γ r z rk

  generation_lt : γ.generation z < worn_generation
  generation_lt = stages.generation_lt g ok x v state l γ r z rk

  resetting_inv : Inv g x resetting_device (after_stopped_reset l z) logging_ghost
  resetting_inv = stages.resetting_inv g ok x v state l γ r z rk

  counting_inv : Inv g x counting_device (after_stopped_reset l z) counting_ghost
  counting_inv = stages.counting_inv g ok x v state l γ r z rk

  -- ---- from ResetSees.antt
  abbrev phases : List (List Store)
  phases = sees.phases g ok x v state l γ r z rk

  abbrev table_log : ℕ → List (List LocalStore)
  table_log = sees.table_log g ok x v state l γ r z rk

  abbrev table_zone : List (List LocalStore)
  table_zone = sees.table_zone g ok x v state l γ r z rk

  abbrev table_other : List (List LocalStore)
  table_other = sees.table_other g ok x v state l γ r z rk

  log_saw : (d : ℕ) → Here g x d → local_phases d general_zone phases ≡ table_log d
  log_saw = sees.log_saw g ok x v state l γ r z rk

  zone_saw : (d : ℕ) → Here g x d → local_phases d (data_zone z) phases ≡ table_zone
  zone_saw = sees.zone_saw g ok x v state l γ r z rk

  other_saw : (d : ℕ) → Here g x d → (y : ℕ) → y ≢ general_zone → y ≢ data_zone z → local_phases d y phases ≡ table_other
  other_saw = sees.other_saw g ok x v state l γ r z rk

  -- ---- a stop (w: what is there then, the zone's places put back or not)
  module _ (n : ℕ) (w : Device) (back : Delayed g x v (take n (concat phases)) w) where
    abbrev some : List Store
    some = take n (concat phases)

    stop : Stop phases some
    stop = stop_at phases n

    saw : (d y : ℕ) → BackHere (local_stores d y some) (v d y) [] (w d y)
    saw d y = back_here g x (uncached v) some w back d y

    saw_log : (d : ℕ) → Here g x d → SeenPart (table_log d) stop.phase (local_stores d general_zone some)
    saw_log d a = rw (log_saw d a) at (stop_seen d general_zone phases some stop)

    saw_zone : (d : ℕ) → Here g x d → SeenPart table_zone stop.phase (local_stores d (data_zone z) some)
    saw_zone d a = rw (zone_saw d a) at (stop_seen d (data_zone z) phases some stop)

    -- places that the reset only flushes
    other_part : (d y : ℕ) → Here g x d → y < physical_zones g → y ≢ general_zone → y ≢ data_zone z → Part (v d y) (w d y)
    other_part d y a h p q =
        let s : SeenPart table_other stop.phase (local_stores d y some) = rw (other_saw d a y p q) at (stop_seen d y phases some stop) in
        let f : Prefix (local_stores d y some) (flush_here ∷ flush_here ∷ flush_here ∷ []) = seen_prefix table_other stop.phase (local_stores d y some) s in
        let e : w d y ≡ apply_all_here (local_stores d y some) (v d y) = still_here (local_stores d y some) (v d y) (w d y) (no_reset_part (local_stores d y some) (flush_here ∷ flush_here ∷ flush_here ∷ []) f tt) (saw d y) in
        rw e (front_is_part (v d y) (apply_all_here (local_stores d y some) (v d y))
        (front_part (v d y).sectors (v d y).durable (v d y) (local_stores d y some) (flush_here ∷ flush_here ∷ flush_here ∷ []) (r.logs.lasting d y a h) (le_refl (v d y).durable) tt f (prefix_refl (v d y).sectors)))

    parts : (b : Device) → ((d : ℕ) → Here g x d → Part (b d general_zone) (w d general_zone)) → ((d : ℕ) → Here g x d → Part (b d (data_zone z)) (w d (data_zone z)))
        → ((d y : ℕ) → y ≢ general_zone → y ≢ data_zone z → b d y ≡ v d y) → Parts g x b w
    parts b pl pz po d y a h = go (ℕ_discrete y general_zone) (ℕ_discrete y (data_zone z))
      where
        go : Dec (y ≡ general_zone) → Dec (y ≡ data_zone z) → Part (b d y) (w d y)
        go (yes e) q = rw e (pl d a)
        go (no e) (yes q) = rw q (pz d a)
        go (no e) (no q) = rw (po d y e q) (other_part d y a h e q)

    lasting0 : (d : ℕ) → Here g x d → (v d general_zone).durable ≤ length (v d general_zone).sectors
    lasting0 d a = r.logs.lasting d general_zone a (omega arith)

    lasting_z : (d : ℕ) → Here g x d → (v d (data_zone z)).durable ≤ length (v d (data_zone z)).sectors
    lasting_z d a = r.logs.lasting d (data_zone z) a (omega (arith, rk.zone_ok))

    -- the log is never reset
    log_now : (d : ℕ) → Here g x d → w d general_zone ≡ apply_all_here (local_stores d general_zone some) (v d general_zone)
    log_now d a =
        let all = concat (table_log d) in
        let none : NoReset all = no_reset_appends (bytes d (reset_entries d)) (flush_here ∷ flush_here ∷ append_here (encode g d raised_counters) ∷ flush_here ∷ []) tt in
        still_here (local_stores d general_zone some) (v d general_zone) (w d general_zone) (no_reset_part (local_stores d general_zone some) all (seen_prefix (table_log d) stop.phase (local_stores d general_zone some) (saw_log d a)) none) (saw d general_zone)

    abbrev later_log : ℕ → List (List LocalStore)
    later_log d = [] ∷ (flush_here ∷ []) ∷ (append_here (encode g d raised_counters) ∷ []) ∷ (flush_here ∷ []) ∷ []

    logging_log : (d : ℕ) → Here g x d → (i : ℕ) (os : List LocalStore) → i < 2 → SeenPart (table_log d) i os → Part (logging_device d general_zone) (apply_all_here os (v d general_zone))
    logging_log d a i os h s =
        let log = v d general_zone in
        let new = bytes d (reset_entries d) in
        let after : Prefix (apply_all_here (map append_here new ++ (flush_here ∷ [])) log).sectors (log.sectors ++ new) = rw (appends_here new (flush_here ∷ []) log) (prefix_refl (log.sectors ++ new)) in
        front_is_part (logging_device d general_zone) (apply_all_here os log)
        (front_part (log.sectors ++ new) log.durable log os (map append_here new ++ (flush_here ∷ [])) (lasting0 d a) (le_refl log.durable) (no_reset_appends new (flush_here ∷ []) tt) (few i h s) after)
      where
        few : (i : ℕ) → i < 2 → SeenPart (table_log d) i os → Prefix os (map append_here (bytes d (reset_entries d)) ++ (flush_here ∷ []))
        few zero h s = rw s.is (prefix_trans s.pre (prefix_append (map append_here (bytes d (reset_entries d))) (flush_here ∷ [])))
        few (suc zero) h s =
            let (t, e, u) = seen_next (map append_here (bytes d (reset_entries d))) ((flush_here ∷ []) ∷ later_log d) zero os s in
            rw e (prefix_under (map append_here (bytes d (reset_entries d))) (rw u.is u.pre))
        few (suc (suc j)) h s = absurd (omega arith)

    -- the first two phases are over
    past : (d : ℕ) → Here g x d → (j : ℕ) (os : List LocalStore) → SeenPart (table_log d) (suc (suc j)) os
        → (t : List LocalStore) × (apply_all_here os (v d general_zone) ≡ apply_all_here t (flushed (record { sectors = (v d general_zone).sectors ++ bytes d (reset_entries d); durable = (v d general_zone).durable }))) × SeenPart (later_log d) j t
    past d a j os s =
        let (t, e, u) = seen_next (map append_here (bytes d (reset_entries d))) ((flush_here ∷ []) ∷ later_log d) (suc j) os s in
        let (t2, e2, u2) = seen_next (flush_here ∷ []) (later_log d) j t u in
        let q : os ≡ map append_here (bytes d (reset_entries d)) ++ (flush_here ∷ t2) = e ∙ ap (λ (b : List LocalStore). map append_here (bytes d (reset_entries d)) ++ b) e2 in
        (t2, ap (λ (b : List LocalStore). apply_all_here b (v d general_zone)) q ∙ appends_here (bytes d (reset_entries d)) (flush_here ∷ t2) (v d general_zone), u2)

    resetting_log : (d : ℕ) → Here g x d → (j : ℕ) (os : List LocalStore) → j < 2 → SeenPart (table_log d) (suc (suc j)) os → Part (resetting_device d general_zone) (apply_all_here os (v d general_zone))
    resetting_log d a j os h s =
        let c : ZoneView = record { sectors = (v d general_zone).sectors ++ bytes d (reset_entries d); durable = (v d general_zone).durable } in
        let (t, e, u) = past d a j os s in
        rw e (front_is_part (resetting_device d general_zone) (apply_all_here t (flushed c))
        (front_part c.sectors (length c.sectors) (flushed c) t (flush_here ∷ []) (le_refl (length c.sectors)) (le_refl (length c.sectors)) tt (few j h t u) (prefix_refl c.sectors)))
      where
        few : (j : ℕ) → j < 2 → (t : List LocalStore) → SeenPart (later_log d) j t → Prefix t (flush_here ∷ [])
        few zero h t u = rw u.is (prefix_trans u.pre (prefix_nil (flush_here ∷ [])))
        few (suc zero) h t u = rw u.is u.pre
        few (suc (suc i)) h t u = absurd (omega arith)

    counting_log : (d : ℕ) → Here g x d → (j : ℕ) (os : List LocalStore) → SeenPart (table_log d) (suc (suc (suc (suc j)))) os → Part (counting_device d general_zone) (apply_all_here os (v d general_zone))
    counting_log d a j os s =
        let c : ZoneView = record { sectors = (v d general_zone).sectors ++ bytes d (reset_entries d); durable = (v d general_zone).durable } in
        let (t, e, u) = past d a (suc (suc j)) os s in
        let (t2, e2, u2) = seen_next [] ((flush_here ∷ []) ∷ (append_here (encode g d raised_counters) ∷ []) ∷ (flush_here ∷ []) ∷ []) (suc j) t u in
        let (t3, e3, u3) = seen_next (flush_here ∷ []) ((append_here (encode g d raised_counters) ∷ []) ∷ (flush_here ∷ []) ∷ []) j t2 u2 in
        let p : Prefix t3 (append_here (encode g d raised_counters) ∷ flush_here ∷ []) = seen_prefix ((append_here (encode g d raised_counters) ∷ []) ∷ (flush_here ∷ []) ∷ []) j t3 u3 in
        let q : ((v d general_zone).sectors ++ bytes d (reset_entries d)) ++ (encode g d raised_counters ∷ []) ≡ (v d general_zone).sectors ++ bytes d (both_entries d) =
        append_assoc (v d general_zone).sectors (bytes d (reset_entries d)) (encode g d raised_counters ∷ []) ∙ ap (λ (b : List (List ℕ)). (v d general_zone).sectors ++ b) (sym (map_append (encode g d) (reset_entries d) (raised_counters ∷ []))) in
        let all = (v d general_zone).sectors ++ bytes d (both_entries d) in
        let lasts = le_refl (length c.sectors) in
        rw (e, e2, e3) (front_is_part (counting_device d general_zone) (apply_all_here t3 (flushed c))
        (front_part all (length c.sectors) (flushed c) t3 (append_here (encode g d raised_counters) ∷ flush_here ∷ []) lasts lasts tt p (rw q (prefix_refl all))))

    logging_zone : (d : ℕ) → Here g x d → (i : ℕ) (os : List LocalStore) (b : ZoneView) → i < 2 → SeenPart table_zone i os → BackHere os (v d (data_zone z)) [] b → Part (logging_device d (data_zone z)) b
    logging_zone d a i os b h s k =
        let f = few i h s in
        let e : b ≡ apply_all_here os (v d (data_zone z)) = still_here os (v d (data_zone z)) b (no_reset_part os (flush_here ∷ []) f tt) k in
        rw ((at_zone d).2, e) (front_is_part (v d (data_zone z)) (apply_all_here os (v d (data_zone z)))
        (front_part (v d (data_zone z)).sectors (v d (data_zone z)).durable (v d (data_zone z)) os (flush_here ∷ []) (lasting_z d a) (le_refl (v d (data_zone z)).durable) tt f (prefix_refl (v d (data_zone z)).sectors)))
      where
        few : (i : ℕ) → i < 2 → SeenPart table_zone i os → Prefix os (flush_here ∷ [])
        few zero h s = rw s.is (prefix_trans s.pre (prefix_append [] (flush_here ∷ [])))
        few (suc zero) h s = rw s.is s.pre
        few (suc (suc j)) h s = absurd (omega arith)

    -- not yet reset; reset, and perhaps put back; reset and flushed
    resetting_zone : (d : ℕ) → Here g x d → (j : ℕ) (os : List LocalStore) (b : ZoneView) → j < 2 → SeenPart table_zone (suc (suc j)) os → BackHere os (v d (data_zone z)) [] b → Part (resetting_device d (data_zone z)) b
    resetting_zone d a zero os b h s k = rw (at_zone d).0 (place_resetting (v d (data_zone z)) b s.part (rw s.is at k) (first (prefix_one reset_here s.part s.pre)))
      where
        first : (s.part ≡ []) ⊎ (s.part ≡ reset_here ∷ []) → (s.part ≡ []) ⊎ ((s.part ≡ reset_here ∷ []) ⊎ (s.part ≡ reset_here ∷ flush_here ∷ []))
        first (inl e) = inl e
        first (inr e) = inr (inl e)
    resetting_zone d a (suc zero) os b h s k = rw (at_zone d).0 (place_resetting (v d (data_zone z)) b (reset_here ∷ s.part) (rw s.is at k) (first (prefix_one flush_here s.part s.pre)))
      where
        first : (s.part ≡ []) ⊎ (s.part ≡ flush_here ∷ []) → (reset_here ∷ s.part ≡ []) ⊎ ((reset_here ∷ s.part ≡ reset_here ∷ []) ⊎ (reset_here ∷ s.part ≡ reset_here ∷ flush_here ∷ []))
        first (inl e) = inr (inl (ap (λ (t : List LocalStore). reset_here ∷ t) e))
        first (inr e) = inr (inr (ap (λ (t : List LocalStore). reset_here ∷ t) e))
    resetting_zone d a (suc (suc j)) os b h s k = absurd (omega arith)

    counting_zone : (d : ℕ) → Here g x d → (j : ℕ) (os : List LocalStore) (b : ZoneView) → SeenPart table_zone (suc (suc (suc (suc j)))) os → BackHere os (v d (data_zone z)) [] b → Part (counting_device d (data_zone z)) b
    counting_zone d a j os b s k =
        let (t, e, u) = seen_next [] ((flush_here ∷ []) ∷ (reset_here ∷ []) ∷ (flush_here ∷ []) ∷ [] ∷ (flush_here ∷ []) ∷ []) (suc (suc (suc j))) os s in
        let (t2, e2, u2) = seen_next (flush_here ∷ []) ((reset_here ∷ []) ∷ (flush_here ∷ []) ∷ [] ∷ (flush_here ∷ []) ∷ []) (suc (suc j)) t u in
        let (t3, e3, u3) = seen_next (reset_here ∷ []) ((flush_here ∷ []) ∷ [] ∷ (flush_here ∷ []) ∷ []) (suc j) t2 u2 in
        let (t4, e4, u4) = seen_next (flush_here ∷ []) ([] ∷ (flush_here ∷ []) ∷ []) j t3 u3 in
        let p : Prefix t4 (flush_here ∷ []) = seen_prefix ([] ∷ (flush_here ∷ []) ∷ []) j t4 u4 in
        let q : os ≡ flush_here ∷ reset_here ∷ flush_here ∷ t4 = e ∙ e2 ∙ ap (λ (l : List LocalStore). flush_here ∷ l) (e3 ∙ ap (λ (l : List LocalStore). reset_here ∷ l) e4) in
        let i : b ≡ apply_all_here t4 blank_zone = still_here t4 blank_zone b (no_reset_part t4 (flush_here ∷ []) p tt) (rw q at k) in
        rw ((at_zone d).1, i) (front_is_part blank_zone (apply_all_here t4 blank_zone) (front_part [] zero blank_zone t4 (flush_here ∷ []) zero-le zero-le tt p (prefix_refl [])))

    stopped : (δ : Ghost) × Inv g x w (after_stopped_reset l z) δ × (δ.closed ≡ γ.closed)
    stopped = go stop.phase refl
      where
        at_log : (d i : ℕ) → Here g x d → stop.phase ≡ i → SeenPart (table_log d) i (local_stores d general_zone some)
        at_log d i a e = rw e at (saw_log d a)

        at_data : (d i : ℕ) → Here g x d → stop.phase ≡ i → SeenPart table_zone i (local_stores d (data_zone z) some)
        at_data d i a e = rw e at (saw_zone d a)

        early : (i : ℕ) → i < 2 → stop.phase ≡ i → (δ : Ghost) × Inv g x w (after_stopped_reset l z) δ × (δ.closed ≡ γ.closed)
        early i h e = inv_part g x logging_device w (after_stopped_reset l z) logging_ghost logging_inv (parts logging_device
            (λ d a. rw (log_now d a) (logging_log d a i (local_stores d general_zone some) h (at_log d i a e)))
            (λ d a. logging_zone d a i (local_stores d (data_zone z) some) (w d (data_zone z)) h (at_data d i a e) (saw d (data_zone z)))
            (λ d y p q. (at_other d y p q).2))

        middle : (j : ℕ) → j < 2 → stop.phase ≡ suc (suc j) → (δ : Ghost) × Inv g x w (after_stopped_reset l z) δ × (δ.closed ≡ γ.closed)
        middle j h e = inv_part g x resetting_device w (after_stopped_reset l z) logging_ghost resetting_inv (parts resetting_device
            (λ d a. rw (log_now d a) (resetting_log d a j (local_stores d general_zone some) h (at_log d (suc (suc j)) a e)))
            (λ d a. resetting_zone d a j (local_stores d (data_zone z) some) (w d (data_zone z)) h (at_data d (suc (suc j)) a e) (saw d (data_zone z)))
            (λ d y p q. (at_other d y p q).0))

        go : (i : ℕ) → stop.phase ≡ i → (δ : Ghost) × Inv g x w (after_stopped_reset l z) δ × (δ.closed ≡ γ.closed)
        go zero e = early zero (omega arith) e
        go (suc zero) e = early 1 (omega arith) e
        go (suc (suc zero)) e = middle zero (omega arith) e
        go (suc (suc (suc zero))) e = middle 1 (omega arith) e
        go (suc (suc (suc (suc j)))) e = inv_part g x counting_device w (after_stopped_reset l z) counting_ghost counting_inv (parts counting_device
            (λ d a. rw (log_now d a) (counting_log d a j (local_stores d general_zone some) (at_log d (suc (suc (suc (suc j)))) a e)))
            (λ d a. counting_zone d a j (local_stores d (data_zone z) some) (w d (data_zone z)) (at_data d (suc (suc (suc (suc j)))) a e) (saw d (data_zone z)))
            (λ d y p q. (at_other d y p q).1))

  -- ---- a finished reset
  done_device : Device
  done_device = apply_all (concat phases) v

  done_log : (d : ℕ) → Here g x d → done_device d general_zone ≡ record { sectors = (v d general_zone).sectors ++ bytes d (both_entries d); durable = length ((v d general_zone).sectors ++ bytes d (both_entries d)) }
  unfolding done_device
  done_log d a =
      let q : ((v d general_zone).sectors ++ bytes d (reset_entries d)) ++ (encode g d raised_counters ∷ []) ≡ (v d general_zone).sectors ++ bytes d (both_entries d) =
      append_assoc (v d general_zone).sectors (bytes d (reset_entries d)) (encode g d raised_counters ∷ []) ∙ ap (λ (b : List (List ℕ)). (v d general_zone).sectors ++ b) (sym (map_append (encode g d) (reset_entries d) (raised_counters ∷ []))) in
      local_is d general_zone (concat phases) v ∙ ap (λ (os : List LocalStore). apply_all_here os (v d general_zone)) (local_whole d general_zone phases ∙ ap concat (log_saw d a))
      ∙ appends_here (bytes d (reset_entries d)) (flush_here ∷ flush_here ∷ append_here (encode g d raised_counters) ∷ flush_here ∷ []) (v d general_zone)
      ∙ (λ i. record { sectors = q i; durable = length (q i) })

  done_zone : (d : ℕ) → Here g x d → done_device d (data_zone z) ≡ blank_zone
  unfolding done_device
  done_zone d a = local_is d (data_zone z) (concat phases) v ∙ ap (λ (os : List LocalStore). apply_all_here os (v d (data_zone z))) (local_whole d (data_zone z) phases ∙ ap concat (zone_saw d a))

  done_other : (d y : ℕ) → Here g x d → y ≢ general_zone → y ≢ data_zone z → done_device d y ≡ flushed (v d y)
  unfolding done_device
  done_other d y a n m = local_is d y (concat phases) v ∙ ap (λ (os : List LocalStore). apply_all_here os (v d y)) (local_whole d y phases ∙ ap concat (other_saw d a y n m))

  done_after : After g ok x v state l γ r z rk done_device both_entries
  done_after = record {
    log = λ d a. rw (done_log d a) refl;
    log_least = λ d a. rw (done_log d a, length-append) (omega (arith, r.logs.lasting d general_zone a (omega arith)));
    log_most = λ d a. rw (done_log d a) (le_refl (length ((v d general_zone).sectors ++ bytes d (both_entries d))));
    new = λ d a h m. both_entries_are d h m;
    few = λ d a. both_entries_few d;
    zone_most = λ d a. rw (done_zone d a) zero-le;
    zone_less = λ d a. rw (done_zone d a) zero-le;
    others = λ d y a h n m. rw (done_other d y a n m) (more_durable_flushed (v d y) (r.logs.lasting d y a h));
  }

  abbrev ext_d : ℕ → List (List ℕ)
  ext_d = set_at γ.laid z []

  abbrev gen_d : ℕ → ℕ
  gen_d = set_at γ.generation z (suc (γ.generation z))

  done_ghost : Ghost
  done_ghost = grown g ok x v state l γ r z rk ext_d gen_d both_entries

  laid_own : done_ghost.laid z ≡ []
  unfolding done_ghost
  laid_own = rw (eq-eqb z z refl) refl

  generation_own : done_ghost.generation z ≡ suc (γ.generation z)
  unfolding done_ghost
  generation_own = rw (eq-eqb z z refl) refl

  content_own : (after_reset l z).content z ≡ []
  content_own = rw (eq-eqb z z refl) refl

  committed_own : (after_reset l z).committed z ≡ zero
  committed_own = rw (eq-eqb z z refl) refl

  done_others : (y : ℕ) → y < g.zones → y ≢ z → RestZone g x done_device (reset_state x state z) (after_reset l z) done_ghost y
  unfolding done_ghost
  done_others y h n = untouched_rest g x v done_device γ done_ghost l (after_reset l z) y r.logs k state (reset_state x state z) (rw (ne_eqb y z n) refl) (rw (ne_eqb y z n) refl) refl (λ d a. (settled_at done_device both_entries done_after y h n d a).same) (λ d a e m. m) (r.zones y h)
    where
      cuts : (d : ℕ) → Here g x d → (j : ℕ) → (done_device d general_zone).durable ≤ j → generation_in y (take j (γ.general d ++ both_entries d)) ≡ γ.generation y
      cuts d a j q = go (generation_after g ok x v state l γ r z rk done_device both_entries done_after y h d a j q)
        where
          go : (generation_in y (take j (γ.general d ++ both_entries d)) ≡ γ.generation y) ⊎ ((y ≡ z) × (generation_in y (take j (γ.general d ++ both_entries d)) ≡ suc (γ.generation z))) → generation_in y (take j (γ.general d ++ both_entries d)) ≡ γ.generation y
          go (inl e) = e
          go (inr e) = absurd (n e.0)

      k : Untouched g x v done_device γ done_ghost l (after_reset l z) y
      k = more_after g ok x v state l γ r z rk done_device both_entries done_after ext_d gen_d (after_reset l z) y h (rw (ne_eqb y z n) refl) (rw (ne_eqb y z n) refl) (rw (ne_eqb y z n) refl) (rw (ne_eqb y z n) refl) (λ q. q) (λ e. absurd (n e)) cuts (settled_at done_device both_entries done_after y h n)

  -- every entry of the zone is of an earlier generation
  earlier : Entries g x done_ghost z (λ n. n < suc (γ.generation z))
  unfolding done_ghost
  earlier =
      let e = entries_after done_device both_entries done_after in
      record {
        in_general_lem = λ d a h m. zone_gen_map h (λ y n. y ≡ z → n ≤ γ.generation z) (λ y n. y ≡ z → n < suc (γ.generation z)) (λ y n p q. let i = p q in omega arith) (e.in_general_lem d a h m);
        in_parity_lem = λ d a f m. zone_gen_map f.head (λ y n. y ≡ z → n ≤ γ.generation z) (λ y n. y ≡ z → n < suc (γ.generation z)) (λ y n p q. let i = p q in omega arith) (e.in_parity_lem d a f m);
      }

  counts_d : (d : ℕ) → Here g x d → (j : ℕ) → (done_device d general_zone).durable ≤ j → generation_in z (take j (done_ghost.general d)) ≡ suc (γ.generation z)
  unfolding done_ghost
  counts_d d a j q =
      let k : length ((v d general_zone).sectors ++ bytes d (both_entries d)) ≤ j = rw (done_log d a) at q in
      let n : length (γ.general d ++ both_entries d) ≤ j = rw (length-append (γ.general d) (both_entries d), general_length d a, ← length_map (encode g d) (both_entries d), ← length-append (v d general_zone).sectors (bytes d (both_entries d))) k in
      let c : last_counters [] (γ.general d ++ both_entries d) ≡ generations_from (raised_at state z) zero g.zones =
      last_counters_append [] (γ.general d) (both_entries d) ∙ last_counters_append (last_counters [] (γ.general d)) (reset_entries d) (raised_counters ∷ []) in
      let i : zero + z ≡ z = omega arith in
      ap (generation_in z) (take_all j (γ.general d ++ both_entries d) n) ∙ ap (λ (t : List ℕ). get_or t z zero) c ∙ generations_at (raised_at state z) zero g.zones z rk.zone_ok ∙ rw (i, eq-eqb z z refl, here.generation_is) refl

  done_emptied : MadeEmpty g x done_device done_ghost (after_reset l z) z
  done_emptied = record {
    laid_nil = laid_own;
    content_nil = content_own;
    committed_nil = committed_own;
    most = rw generation_own generation_lt;
    data_nil = λ d a. rw (done_zone d a) refl;
    counts = λ d a j q. rw generation_own (counts_d d a j q);
    before = rw generation_own earlier;
  }

  done_condition : (((reset_state x state z).condition z ≡ Empty) × (done_ghost.generation z < worn_generation)) ⊎ (((reset_state x state z).condition z ≡ Worn zero) × (done_ghost.generation z ≡ worn_generation))
  done_condition = rw (generation_own, eq-eqb z z refl, ← here.generation_is) (go (ℕ_discrete (suc (γ.generation z)) worn_generation))
    where
      go : Dec (suc (γ.generation z) ≡ worn_generation) → ((pick (eqb (suc (γ.generation z)) worn_generation) (Worn zero) Empty ≡ Empty) × (suc (γ.generation z) < worn_generation)) ⊎ ((pick (eqb (suc (γ.generation z)) worn_generation) (Worn zero) Empty ≡ Worn zero) × (suc (γ.generation z) ≡ worn_generation))
      go (yes e) = inr (rw (eq-eqb (suc (γ.generation z)) worn_generation e) refl, e)
      go (no n) = inl (rw (ne_eqb (suc (γ.generation z)) worn_generation n) refl, omega (arith, generation_lt))

  finished : Rest g x done_device (reset_state x state z) (after_reset l z) done_ghost
  unfolding done_ghost
  finished = record {
    logs = after_logs g ok x v state l γ r z rk done_device both_entries done_after ext_d gen_d;
    zones = λ y h. zone y h (ℕ_discrete y z);
    whole = r.whole;
    lost_is = inr refl;
  }
    where
      zone : (y : ℕ) → y < g.zones → Dec (y ≡ z) → RestZone g x done_device (reset_state x state z) (after_reset l z) done_ghost y
      zone y h (yes e) = rw e (made_empty_rest g ok x done_device done_ghost (after_reset l z) z done_emptied (reset_state x state z) (rw (generation_own, eq-eqb z z refl, here.generation_is) refl) done_condition here.no_flag)
      zone y h (no n) = done_others y h n

  pub finishes : (δ : Ghost) × Rest g x (apply_all (concat phases) v) (reset_state x state z) (after_reset l z) δ × (δ.closed ≡ γ.closed)
  unfolding done_device done_ghost
  finishes = (done_ghost, finished, refl)

pub reset_keeps : (g : Geometry) → Valid g → ResetKeeps g
unfolding reset_stores
reset_keeps g ok c x v state l z n (γ, r, e) w = let xs = take n (reset_stores g (present_but g x) state z) in
    let (δ, j, p) = stopped g ok x v state l γ r z w n (apply_all xs v) (delayed_none g x v xs) in (δ, j, p ∙ e)

-- and with the zone's places put back
pub reset_keeps_delayed : (g : Geometry) → Valid g → (c : LogGenerations) (x : ℕ) (v : Device) (state : StateView) (l : Ledger) (z n : ℕ) → Rests c g x v state l → ResetOk g (present_but g x) v state z
    → (u : Device) → Delayed g x v (take n (reset_stores g (present_but g x) state z)) u → Invs c g x u (after_stopped_reset l z)
unfolding reset_stores
reset_keeps_delayed g ok c x v state l z n (γ, r, e) w u k = let (δ, j, p) = stopped g ok x v state l γ r z w n u k in (δ, j, p ∙ e)

pub reset_rests : (g : Geometry) → Valid g → ResetRests g
unfolding reset_stores
reset_rests g ok c x v state l z (γ, r, e) w = let (δ, j, p) = finishes g ok x v state l γ r z w in (δ, j, p ∙ e)
