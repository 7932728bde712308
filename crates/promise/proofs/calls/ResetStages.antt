-- A reset of zone z and the three devices that bound its stops from above: while the reset entries are logged and flushed, the zone is as
-- it was; while the places are reset and while the counters are raised, every look shows it empty, since its reset entries last. The
-- invariant holds of each of the three.
use Rattle.std.specs.Prelude.{◌≡◌, refl, ◌≢◌, ◌⊎◌, Bool, true, false, ℕ, zero, suc, ◌+◌, ◌≤◌, ◌<◌, length, take, eqb}
use Rattle.std.proofs.Common.{sym, ap, ◌∙◌, subst, inl, inr, zero-le, le_refl, arith, length-append, eq-eqb, ne_eqb}
use Rattle.std.proofs.Math.Decide.{ℕ_discrete}
use mathlib.Core.List.{List, [], ◌∷◌, ◌++◌, map, append-nil, append_assoc, Memᴰ}
use Rattle.std.proofs.Math.Seq.{take-append_seam}
use Rattle.tables.specs.laws.Basics.{or_left, or_right}
use Rattle.tables.specs.meaning.Basics.{pick}
use Rattle.tables.specs.meaning.Device.{Device, reset, blank_zone, flushed}
use Rattle.tables.specs.laws.Lists.{mem_nil, mem_right, mem_append, map_append, length_map}
use Rattle.tables.specs.declared.Geometry.{Geometry}
use Rattle.tables.specs.meaning.Geometry.{Valid, parity_drive_of, first_drive_of, data_zone}
use Rattle.logs.specs.meaning.Entry.{general_zone, worn_generation, Header, counters, zone_reset, encode}
use Rattle.tables.specs.meaning.Drives.{present_but}
use Rattle.logs.specs.meaning.Heads.{generation_in}
use Rattle.logs.specs.laws.Heads.{zone_gen}
use Rattle.volume.specs.meaning.State.{StateView}
use Rattle.promise.proofs.invariant.Obligations.{ResetOk}
use Rattle.volume.specs.meaning.Calls.{generations_from, raised_at, logs_reset}
use Rattle.promise.specs.meaning.Ledger.{Ledger, after_stopped_reset}
use Rattle.promise.proofs.invariant.Invariant.{Ghost, Here, Entries, Live, logged, Dying, Inv, Rest, RestZone, Logged, LoggedIn, reset_lasts, counts_past}
use Rattle.promise.proofs.invariant.UntouchedZone.{Untouched, untouched_live}
use Rattle.promise.proofs.calls.FlushKeeps.{MoreDurable, more_durable_refl}
use Rattle.promise.proofs.calls.ResetDevices.{After, New, raised, grown, after_logs, generation_after, generation_kept, more_after}

module _ (g : Geometry) (ok : Valid g) (x : ℕ) (v : Device) (state : StateView) (l : Ledger) (γ : Ghost) (r : Rest g x v state l γ) (z : ℕ) (rk : ResetOk g (present_but g x) v state z) where
  pub here : RestZone g x v state l γ z
  here = r.zones z rk.zone_ok

  abbrev pub reset_entry : Header
  reset_entry = zone_reset z (γ.generation z)

  abbrev pub reset_entries : ℕ → List Header
  reset_entries d = pick (logs_reset g z d) (reset_entry ∷ []) []

  abbrev pub raised_counters : Header
  raised_counters = counters (generations_from (raised_at state z) zero g.zones)

  abbrev pub both_entries : ℕ → List Header
  both_entries d = reset_entries d ++ (raised_counters ∷ [])

  abbrev pub bytes : ℕ → List Header → List (List ℕ)
  bytes d hs = map (encode g d) hs

  -- ---- devices that bound the stops from above: until the reset entries are flushed; while the places are reset; from the counters on
  abbrev pub logging_device : Device
  logging_device d y = pick (eqb y general_zone) (record { sectors = (v d y).sectors ++ bytes d (reset_entries d); durable = (v d y).durable }) (v d y)

  abbrev pub resetting_device : Device
  resetting_device d y = pick (eqb y general_zone) (record { sectors = (v d y).sectors ++ bytes d (reset_entries d); durable = length ((v d y).sectors ++ bytes d (reset_entries d)) }) (pick (eqb y (data_zone z)) (record { sectors = (v d y).sectors; durable = zero }) (v d y))

  abbrev pub counting_device : Device
  counting_device d y = pick (eqb y general_zone) (record { sectors = (v d y).sectors ++ bytes d (both_entries d); durable = length ((v d y).sectors ++ bytes d (reset_entries d)) }) (pick (eqb y (data_zone z)) blank_zone (v d y))

  pub general≢ : general_zone ≢ data_zone z
  general≢ e = omega arith

  pub at_zone : (d : ℕ) → (resetting_device d (data_zone z) ≡ record { sectors = (v d (data_zone z)).sectors; durable = zero }) × (counting_device d (data_zone z) ≡ blank_zone) × (logging_device d (data_zone z) ≡ v d (data_zone z))
  at_zone d = (
    rw (ne_eqb (data_zone z) general_zone (λ e. omega arith), eq-eqb (data_zone z) (data_zone z) refl) refl,
    rw (ne_eqb (data_zone z) general_zone (λ e. omega arith), eq-eqb (data_zone z) (data_zone z) refl) refl,
    rw (ne_eqb (data_zone z) general_zone (λ e. omega arith)) refl,
  )

  pub at_other : (d y : ℕ) → y ≢ general_zone → y ≢ data_zone z → (resetting_device d y ≡ v d y) × (counting_device d y ≡ v d y) × (logging_device d y ≡ v d y)
  at_other d y n m = (rw (ne_eqb y general_zone n, ne_eqb y (data_zone z) m) refl, rw (ne_eqb y general_zone n, ne_eqb y (data_zone z) m) refl, rw (ne_eqb y general_zone n) refl)

  reset_entries_are : (d : ℕ) (h : Header) → Memᴰ h (reset_entries d) → (h ≡ reset_entry) × (logs_reset g z d ≡ true)
  reset_entries_are d h = go (logs_reset g z d)
    where
      go : (b : Bool) → Memᴰ h (pick b (reset_entry ∷ []) []) → (h ≡ reset_entry) × (b ≡ true)
      go true (Memᴰ.head q) = (q, refl)
      go true (mathlib.Core.List.Memᴰ.tail x5) = elim x5 [ ]
      go false m = mem_nil h m

  reset_entries_few : (d : ℕ) → length (reset_entries d) ≤ 1
  reset_entries_few d = go (logs_reset g z d)
    where
      go : (b : Bool) → length (pick b (reset_entry ∷ []) []) ≤ 1
      go true = le_refl 1
      go false = zero-le

  pub both_entries_are : (d : ℕ) (h : Header) → Memᴰ h (both_entries d) → ((h ≡ reset_entry) × (logs_reset g z d ≡ true)) ⊎ (h ≡ raised_counters)
  both_entries_are d h m = go (mem_append (reset_entries d) (raised_counters ∷ []) h m)
    where
      go : Memᴰ h (reset_entries d) ⊎ Memᴰ h (raised_counters ∷ []) → ((h ≡ reset_entry) × (logs_reset g z d ≡ true)) ⊎ (h ≡ raised_counters)
      go (inl i) = inl (reset_entries_are d h i)
      go (inr (Memᴰ.head q)) = inr q
      go (inr (Memᴰ.tail i)) = mem_nil h i

  pub both_entries_few : (d : ℕ) → length (both_entries d) ≤ 2
  both_entries_few d = rw length-append (omega (arith, reset_entries_few d))

  logging_after : After g ok x v state l γ r z rk logging_device reset_entries
  logging_after = record {
    log = λ d a. refl;
    log_least = λ d a. le_refl (v d general_zone).durable;
    log_most = λ d a. rw length-append (omega (arith, r.logs.lasting d general_zone a (omega arith)));
    new = λ d a h m. inl (reset_entries_are d h m);
    few = λ d a. omega (arith, reset_entries_few d);
    zone_most = λ d a. rw (at_zone d).2 (r.logs.lasting d (data_zone z) a (omega (arith, rk.zone_ok)));
    zone_less = λ d a. rw (at_zone d).2 (le_refl (length (v d (data_zone z)).sectors));
    others = λ d y a h n m. rw (at_other d y n m).2 (more_durable_refl (v d y) (r.logs.lasting d y a h));
  }

  resetting_after : After g ok x v state l γ r z rk resetting_device reset_entries
  resetting_after = record {
    log = λ d a. refl;
    log_least = λ d a. rw length-append (omega (arith, r.logs.lasting d general_zone a (omega arith)));
    log_most = λ d a. le_refl (length ((v d general_zone).sectors ++ bytes d (reset_entries d)));
    new = λ d a h m. inl (reset_entries_are d h m);
    few = λ d a. omega (arith, reset_entries_few d);
    zone_most = λ d a. rw (at_zone d).0 zero-le;
    zone_less = λ d a. rw (at_zone d).0 (le_refl (length (v d (data_zone z)).sectors));
    others = λ d y a h n m. rw (at_other d y n m).0 (more_durable_refl (v d y) (r.logs.lasting d y a h));
  }

  counting_after : After g ok x v state l γ r z rk counting_device both_entries
  counting_after = record {
    log = λ d a. refl;
    log_least = λ d a. rw length-append (omega (arith, r.logs.lasting d general_zone a (omega arith)));
    log_most = λ d a. rw (length-append (v d general_zone).sectors (bytes d (reset_entries d)), length-append (v d general_zone).sectors (bytes d (both_entries d)), map_append (encode g d) (reset_entries d) (raised_counters ∷ []), length-append (bytes d (reset_entries d)) (bytes d (raised_counters ∷ []))) (omega arith);
    new = λ d a h m. both_entries_are d h m;
    few = λ d a. both_entries_few d;
    zone_most = λ d a. rw (at_zone d).1 zero-le;
    zone_less = λ d a. rw (at_zone d).1 zero-le;
    others = λ d y a h n m. rw (at_other d y n m).1 (more_durable_refl (v d y) (r.logs.lasting d y a h));
  }

  -- ---- the invariant of each
  flag_up : (after_stopped_reset l z).resetting z ≡ true
  flag_up = rw (eq-eqb z z refl) refl

  flag_stays : (y : ℕ) → l.resetting y ≡ true → (after_stopped_reset l z).resetting y ≡ true
  flag_stays y q = go (eqb y z)
    where
      go : (b : Bool) → pick b true (l.resetting y) ≡ true
      go true = refl
      go false = q

  flag_own : (y : ℕ) → y ≡ z → (after_stopped_reset l z).resetting y ≡ true
  flag_own y e = rw (eq-eqb y z e) refl

  abbrev pub logging_ghost : Ghost
  logging_ghost = grown g ok x v state l γ r z rk γ.laid γ.generation reset_entries

  abbrev pub counting_ghost : Ghost
  counting_ghost = grown g ok x v state l γ r z rk γ.laid γ.generation both_entries

  only_reset_entries : (d : ℕ) → Here g x d → (h : Header) → Memᴰ h (reset_entries d) → h ≡ reset_entry
  only_reset_entries d a h m = (reset_entries_are d h m).0

  pub settled_at : (w : Device) (T : ℕ → List Header) → After g ok x v state l γ r z rk w T → (y : ℕ) → y < g.zones → y ≢ z → (d : ℕ) → Here g x d → MoreDurable (v d (data_zone y)) (w d (data_zone y))
  settled_at w T k y h n d a = k.others d (data_zone y) a (omega arith) (λ e. omega arith) (λ e. n (omega arith))

  pub logging_inv : Inv g x logging_device (after_stopped_reset l z) logging_ghost
  logging_inv = record {
    logs = after_logs g ok x v state l γ r z rk logging_device reset_entries logging_after γ.laid γ.generation;
    zones = λ y h. inl (untouched_live g x v logging_device γ logging_ghost l (after_stopped_reset l z) y r.logs (k y h) (r.zones y h).live);
  }
    where
      held : (y : ℕ) → y < g.zones → Dec (y ≡ z) → (d : ℕ) → Here g x d → MoreDurable (v d (data_zone y)) (logging_device d (data_zone y))
      held y h (yes e) d a = rw (e, (at_zone d).2) (more_durable_refl (v d (data_zone z)) (r.logs.lasting d (data_zone z) a (omega (arith, rk.zone_ok))))
      held y h (no n) d a = settled_at logging_device reset_entries logging_after y h n d a

      k : (y : ℕ) → y < g.zones → Untouched g x v logging_device γ logging_ghost l (after_stopped_reset l z) y
      k y h = more_after g ok x v state l γ r z rk logging_device reset_entries logging_after γ.laid γ.generation (after_stopped_reset l z) y h refl refl refl refl (flag_stays y) (flag_own y) (generation_kept g ok x v state l γ r z rk logging_device reset_entries logging_after only_reset_entries y h) (held y h (ℕ_discrete y z))

  logs_reset_lem : (d : ℕ) → (d ≡ first_drive_of g z) ⊎ (d ≡ parity_drive_of g z 0) → logs_reset g z d ≡ true
  logs_reset_lem d (inl e) = or_left (eqb d (first_drive_of g z)) (eqb d (parity_drive_of g z 0)) (eq-eqb d (first_drive_of g z) e)
  logs_reset_lem d (inr e) = or_right (eqb d (first_drive_of g z)) (eqb d (parity_drive_of g z 0)) (eq-eqb d (parity_drive_of g z 0) e)

  pub general_length : (d : ℕ) → Here g x d → length (γ.general d) ≡ length (v d general_zone).sectors
  general_length d a = sym (length_map (encode g d) (γ.general d)) ∙ ap (λ (t : List (List ℕ)). length t) (sym (r.logs.general_is d a))

  -- the reset entry lasts
  reset_entry_lasts : (d : ℕ) → Here g x d → (d ≡ first_drive_of g z) ⊎ (d ≡ parity_drive_of g z 0) → (T : List Header) → Memᴰ reset_entry (take (length ((v d general_zone).sectors ++ bytes d (reset_entries d))) (γ.general d ++ (reset_entries d ++ T)))
  reset_entry_lasts d a q T =
      let b : reset_entries d ≡ reset_entry ∷ [] = rw (logs_reset_lem d q) refl in
      let n : length ((v d general_zone).sectors ++ bytes d (reset_entries d)) ≡ length (γ.general d ++ reset_entries d) = length-append (v d general_zone).sectors (bytes d (reset_entries d)) ∙ rw (length_map (encode g d) (reset_entries d), ← general_length d a) (sym (length-append (γ.general d) (reset_entries d))) in
      let t : take (length (γ.general d ++ reset_entries d)) ((γ.general d ++ reset_entries d) ++ T) ≡ γ.general d ++ reset_entries d = take-append_seam (γ.general d ++ reset_entries d) T in
      rw (n, ← append_assoc (γ.general d) (reset_entries d) T, t) (mem_right (γ.general d) (reset_entries d) reset_entry (rw b (Memᴰ.head refl)))

  pub entries_after : (w : Device) (T : ℕ → List Header) → After g ok x v state l γ r z rk w T → Entries g x (grown g ok x v state l γ r z rk γ.laid γ.generation T) z (λ n. n ≤ γ.generation z)
  entries_after w T k = record {
    in_general_lem = λ d a h m. go d a h (mem_append (γ.general d) (T d) h m);
    in_parity_lem = here.live.entries.in_parity_lem;
  }
    where
      new_entry_lem : (d : ℕ) (h : Header) → New g ok x v state l γ r z rk d h → zone_gen h (λ y n. y ≡ z → n ≤ γ.generation z)
      new_entry_lem d h (inl e) = subst (λ (t : Header). zone_gen t (λ y n. y ≡ z → n ≤ γ.generation z)) (sym e.0) (λ q. le_refl (γ.generation z))
      new_entry_lem d h (inr e) = subst (λ (t : Header). zone_gen t (λ y n. y ≡ z → n ≤ γ.generation z)) (sym e) tt

      go : (d : ℕ) → Here g x d → (h : Header) → Memᴰ h (γ.general d) ⊎ Memᴰ h (T d) → zone_gen h (λ y n. y ≡ z → n ≤ γ.generation z)
      go d a h (inl m) = here.live.entries.in_general_lem d a h m
      go d a h (inr m) = new_entry_lem d h (k.new d a h m)

  pub generation_lt : γ.generation z < worn_generation
  generation_lt = rw here.generation_is rk.not_worn

  pub resetting_inv : Inv g x resetting_device (after_stopped_reset l z) logging_ghost
  resetting_inv = record {
    logs = after_logs g ok x v state l γ r z rk resetting_device reset_entries resetting_after γ.laid γ.generation;
    zones = λ y h. zone y h (ℕ_discrete y z);
  }
    where
      cuts : (y : ℕ) → y < g.zones → (d : ℕ) → Here g x d → (j : ℕ) → (resetting_device d general_zone).durable ≤ j → generation_in y (take j (γ.general d ++ reset_entries d)) ≡ γ.generation y
      cuts y h = generation_kept g ok x v state l γ r z rk resetting_device reset_entries resetting_after only_reset_entries y h

      zone : (y : ℕ) → y < g.zones → Dec (y ≡ z) → Live g x resetting_device logging_ghost (after_stopped_reset l z) y ⊎ Dying g x resetting_device logging_ghost (after_stopped_reset l z) y
      zone y h (no n) =
          let still = settled_at resetting_device reset_entries resetting_after y h n in
          let more = more_after g ok x v state l γ r z rk resetting_device reset_entries resetting_after γ.laid γ.generation (after_stopped_reset l z) y h refl refl refl refl (flag_stays y) (flag_own y) (cuts y h) still in
          inl (untouched_live g x v resetting_device γ logging_ghost l (after_stopped_reset l z) y r.logs more (r.zones y h).live)
      zone y h (yes e) = inr (rw e (record {
        idle = inr flag_up;
        generation_top = generation_lt;
        entries = entries_after resetting_device reset_entries resetting_after;
        counts = λ d a j q. rw (cuts z rk.zone_ok d a j q) (le_refl (γ.generation z), omega (arith, generation_lt));
        raised = λ d a j q b. absurd (let c = cuts z rk.zone_ok d a j q in omega (arith, c, b));
        why = logged (λ d a q. reset_lasts (rw append-nil at (reset_entry_lasts d a q [])));
      }))

  pub counting_inv : Inv g x counting_device (after_stopped_reset l z) counting_ghost
  counting_inv = record {
    logs = after_logs g ok x v state l γ r z rk counting_device both_entries counting_after γ.laid γ.generation;
    zones = λ y h. zone y h (ℕ_discrete y z);
  }
    where
      cuts : (y : ℕ) → y < g.zones → y ≢ z → (d : ℕ) → Here g x d → (j : ℕ) → (counting_device d general_zone).durable ≤ j → generation_in y (take j (γ.general d ++ both_entries d)) ≡ γ.generation y
      cuts y h n d a j q = go (generation_after g ok x v state l γ r z rk counting_device both_entries counting_after y h d a j q)
        where
          go : (generation_in y (take j (γ.general d ++ both_entries d)) ≡ γ.generation y) ⊎ ((y ≡ z) × (generation_in y (take j (γ.general d ++ both_entries d)) ≡ suc (γ.generation z))) → generation_in y (take j (γ.general d ++ both_entries d)) ≡ γ.generation y
          go (inl e) = e
          go (inr e) = absurd (n e.0)

      own : (d j m : ℕ) → (m ≡ γ.generation z) ⊎ ((z ≡ z) × (m ≡ suc (γ.generation z))) → (γ.generation z ≤ m) × (m ≤ worn_generation)
      own d j m (inl e) = (omega arith, omega (arith, generation_lt))
      own d j m (inr e) = (omega (arith, e.1), omega (arith, e.1, generation_lt))

      zone : (y : ℕ) → y < g.zones → Dec (y ≡ z) → Live g x counting_device counting_ghost (after_stopped_reset l z) y ⊎ Dying g x counting_device counting_ghost (after_stopped_reset l z) y
      zone y h (no n) = inl (untouched_live g x v counting_device γ counting_ghost l (after_stopped_reset l z) y r.logs (more_after g ok x v state l γ r z rk counting_device both_entries counting_after γ.laid γ.generation (after_stopped_reset l z) y h refl refl refl refl (flag_stays y) (flag_own y) (cuts y h n) (settled_at counting_device both_entries counting_after y h n)) (r.zones y h).live)
      zone y h (yes e) = inr (rw e (record {
        idle = inr flag_up;
        generation_top = generation_lt;
        entries = entries_after counting_device both_entries counting_after;
        counts = λ d a j q. own d j (generation_in z (take j (γ.general d ++ both_entries d))) (generation_after g ok x v state l γ r z rk counting_device both_entries counting_after z rk.zone_ok d a j q);
        raised = λ d a j q b f c. rw (at_zone f).1 refl;
        why = logged (λ d a q. reset_lasts (reset_entry_lasts d a q (raised_counters ∷ [])));
      }))
