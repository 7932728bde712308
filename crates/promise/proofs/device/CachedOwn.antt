-- The own stores of a reset and of a write on drives that cache resets, from a device at rest where old logs may be put back: these are spares, which such stores
-- leave alone, so they may as well be put back before them. (The emptyings before a reset's: CachedReset.)
use Rattle.std.specs.Prelude.{◌≡◌, refl, ◌⊎◌, Bool, true, false, ◌&&◌, length, ltb, eqb}
use Rattle.std.proofs.Common.{sym, ◌∙◌, inl, inr, arith, lt-ltb, le-ltb}
use Rattle.std.proofs.Math.Path.{ap, subst, fun_ext}
use Prim.Native.Nat.{ℕ, zero, suc, ◌+◌, ◌-◌, ◌%◌, ◌≤◌, ◌<◌, zero-le}
use Rattle.std.proofs.Math.Decide.{dec_lt}
use mathlib.Core.List.{List, [], ◌∷◌, ◌++◌, append-nil, append_assoc, map}
use Rattle.std.proofs.Math.ListN.{take}
use Rattle.std.proofs.Math.Seq.{take-length}
use Rattle.tables.specs.meaning.Basics.{pick}
use Rattle.tables.specs.meaning.Below.{each_below, tabulate_from}
use Rattle.tables.specs.laws.Lists.{take_map, map_append, length_map}
use Rattle.tables.specs.meaning.Device.{Device, Store, append, reset, flush, apply_all}
use Rattle.tables.specs.laws.Local.{append_here, flush_here, local_stores, local_take, NoReset}
use Rattle.tables.specs.meaning.Cached.{Caching, apply_all_caching}
use Rattle.tables.specs.laws.Cached.{now_is, was_is, remember_here}
use Rattle.tables.specs.meaning.Phases.{on_present}
use Rattle.tables.specs.meaning.Placement.{stripe_length, stripe_of, parity_drive}
use Rattle.tables.specs.meaning.Through.{carry}
use Rattle.tables.specs.meaning.Drives.{present_but}
use Rattle.tables.specs.declared.Geometry.{Geometry}
use Rattle.tables.specs.meaning.Geometry.{Valid, data_zone}
use Rattle.logs.specs.meaning.Entry.{parity_zone, spare_zone, zone_reset, counters}
use Rattle.logs.specs.meaning.Walk.{sectors_of}
use Rattle.volume.specs.meaning.State.{pointer_in, StateView, set_at}
use Rattle.volume.specs.meaning.Content.{at, row_xor, inside_stripe, parity_drive_at, entry_at}
use Rattle.volume.specs.meaning.Rules.{value_at}
use Rattle.volume.specs.meaning.Emptying.{write_all}
use Rattle.volume.specs.meaning.Calls.{append_all, append_general, generations_from, logs_reset, raised_at, parity_stores, sector_stores, data_stores, entry_stores, write_with, zone_content, write_stores, write_state, flush_stores, reset_stores, reset_state}
use Rattle.volume.specs.meaning.Roles.{Roles, roles, zone_of_role, by_roles}
use Rattle.volume.specs.laws.Firm.{Proper, role_one_to_one, firm_roles, places}
use Rattle.promise.specs.meaning.Ledger.{Ledger, after_write, after_reset, after_stopped_reset}
use Rattle.promise.proofs.invariant.Invariant.{Ghost, Here, LogsOk, LogGenerations}
use Rattle.promise.proofs.invariant.Obligations.{Rests, WriteOk, ResetOk}
use Rattle.promise.proofs.invariant.Delayed.{PutBack, Delayed, OnlyFlush, put_first, put_first_back, put_first_delayed, forgets_is, no_resets_forget, no_reset_part, remembers_none}
use Rattle.promise.proofs.look.LookFits.{rest_known}
use Rattle.promise.proofs.calls.WriteKeeps.{write_rests}
use Rattle.promise.proofs.calls.ResetKeeps.{reset_keeps_delayed}
use Rattle.promise.proofs.roles.Ordinary.{Ordinary, ordinary_part, carried_to, ordinary_firm}
use Rattle.promise.proofs.roles.OrdinaryCalls.{write_ordinary, reset_ordinary}
use Rattle.promise.proofs.roles.OrdinaryDelayed.{carried_local, spare_sees, seen_back, seen_back_delayed, ordinary_delayed}
use Rattle.promise.proofs.roles.Roled.{Standing}
use Rattle.promise.proofs.roles.RoledCalls.{roled_write_keeps, roled_write_rests, roled_reset_rests}
use Rattle.promise.proofs.emptying.CallParts.{carried_alike}
use Rattle.promise.proofs.device.Marks.{with_marks}
use Rattle.promise.proofs.device.Modes.{SomeRests, Halted, own_rests, less_rests, invs_halted}
use Rattle.promise.proofs.device.PlainCalls.{flush_carried}
use Rattle.promise.proofs.device.CachedModes.{Forgotten, now_back, RestsCached, HaltedCached, forgotten_rests, back_seen}
use Rattle.promise.proofs.device.CachedOwed.{WriteOwesCached, flushed_last}

-- ---- ordinary stores, carried by the roles of the device
module _ (g : Geometry) (x : ℕ) (c : Caching) (state : StateView) (l : Ledger) (r : RestsCached g x c state l) (xs : List Store) (o : Ordinary g x xs) where
  abbrev pub own_stores : List Store
  own_stores = map (carry (places g c.now)) xs

  -- a spare sees flushes alone
  quiet : (n d y : ℕ) → Here g x d → (c.was d y ≡ []) ⊎ OnlyFlush (local_stores d y (take n own_stores))
  quiet n d y a = go (r.spares d y a) (r.rests c.now (now_back g x c))
    where
      go : (c.was d y ≡ []) ⊎ (y ≡ (roles g c.now d).spare) → SomeRests g x c.now state l → (c.was d y ≡ []) ⊎ OnlyFlush (local_stores d y (take n own_stores))
      go (inl q) s = inl q
      go (inr q) (e, m, above, (st, rs)) =
          let one = role_one_to_one (roles g c.now d) (subst (λ (t : Roles). Proper t) (sym (firm_roles g c.now d (st.roles d) (st.firm d a))) (st.firm d a).proper) in
          inr (rw (q, take_map (carry (places g c.now)) n xs, carried_local (places g c.now) d spare_zone one (take n xs)) (spare_sees d (take n xs) (ordinary_part g x n xs o).off))

  -- what is put back after a part of them was put back before
  module _ (n : ℕ) (u : Device) (k : PutBack g x (apply_all_caching (take n own_stores) c) u) where
    pub before : Device
    before = put_first g x c (take n own_stores) (quiet n) u k

    pub before_back : PutBack g x c before
    unfolding before
    before_back = put_first_back g x c (take n own_stores) (quiet n) u k

    -- carried by its roles, which are the same
    pub before_delayed : Delayed g x before (map (carry (places g before)) (take n xs)) u
    before_delayed =
        let d : Delayed g x before (take n own_stores) u = unfold before in put_first_delayed g x c (take n own_stores) (quiet n) u k in
        let e : take n own_stores ≡ map (carry (places g before)) (take n xs) = take_map (carry (places g c.now)) n xs
        ∙ carried_alike (present_but g x) (places g c.now) (places g before) (λ e a. ap zone_of_role (sym (r.roles_are before before_back e a))) (take n xs) (ordinary_part g x n xs o).on in
        subst (λ (ys : List Store). Delayed g x before ys u) e d

-- ---- A RESET
module _ (g : Geometry) (ok : Valid g) (x : ℕ) (c : Caching) (state : StateView) (l : Ledger) (r : RestsCached g x c state l) (z : ℕ) (rok : (u : Device) → PutBack g x c u → ResetOk g (present_but g x) (by_roles g u) state z) where
  abbrev xs : List Store
  xs = reset_stores g (present_but g x) state z

  o : Ordinary g x (reset_stores g (present_but g x) state z)
  o = reset_ordinary g x state z

  pub own_reset_halted : (n : ℕ) → HaltedCached g x (apply_all_caching (take n (map (carry (places g c.now)) (reset_stores g (present_but g x) state z))) c) (after_stopped_reset l z)
  own_reset_halted n u k =
      let t = before g x c state l r xs o n u k in
      let b = before_back g x c state l r xs o n u k in
      let d = before_delayed g x c state l r xs o n u k in
      let p = ordinary_part g x n xs o in
      let (e, m, above, (s, rs)) = r.rests t b in
      let i = ordinary_delayed g x t e s (take n xs) p u d (after_stopped_reset (with_marks l m) z)
      (reset_keeps_delayed g ok e x (by_roles g t) state (with_marks l m) z n rs (rok t b) (seen_back g x t e s (take n xs) p u d) (seen_back_delayed g x t e s (take n xs) p u d)) in
      invs_halted g x u (after_stopped_reset l z) (e, m, above, i)

  -- it ends with a flush
  ends_so : (a b d e : List Store) → (ys : List Store) × (a ++ (e ++ (b ++ (e ++ (d ++ (e ++ []))))) ≡ ys ++ e)
  ends_so a b d e = (
    a ++ (e ++ (b ++ (e ++ d))),
    ap (λ (t : List Store). a ++ (e ++ (b ++ (e ++ (d ++ t))))) (append-nil e) ∙ ap (λ (t : List Store). a ++ (e ++ (b ++ t))) (sym (append_assoc e d e)) ∙ ap (λ (t : List Store). a ++ (e ++ t)) (sym (append_assoc b (e ++ d) e))
        ∙ ap (λ (t : List Store). a ++ t) (sym (append_assoc e (b ++ (e ++ d)) e)) ∙ sym (append_assoc a (e ++ (b ++ (e ++ d))) e),
  )

  reset_ends : (ys : List Store) × (reset_stores g (present_but g x) state z ≡ ys ++ flush_stores g (present_but g x))
  unfolding reset_stores flush_stores
  reset_ends =
      let p = present_but g x in
      let logged = on_present p (each_below (λ d. pick (logs_reset g z d) (append_general g (zone_reset z (state.generation z)) d) []) g.drives) in
      let raised = on_present p (each_below (λ d. append_general g (counters (generations_from (raised_at state z) zero g.zones)) d) g.drives) in
      ends_so logged (on_present p (each_below (λ d. reset d (data_zone z) ∷ []) g.drives)) raised (flush_stores g p)

  pub own_reset_rests : RestsCached g x (apply_all_caching (map (carry (places g c.now)) (reset_stores g (present_but g x) state z)) c) (reset_state x state z) (after_reset l z)
  own_reset_rests =
      let ρ = places g c.now in
      let own = map (carry ρ) xs in
      let (ys, q) = reset_ends in
      let e : own ≡ map (carry ρ) ys ++ flush_stores g (present_but g x) = ap (map (carry ρ)) q ∙ map_append (carry ρ) ys (flush_stores g (present_but g x)) ∙ ap (λ (t : List Store). map (carry ρ) ys ++ t) (flush_carried g x ρ) in
      forgotten_rests g x (apply_all_caching own c) (reset_state x state z) (after_reset l z) (subst (λ (t : List Store). Forgotten g x (apply_all_caching t c)) (sym e) (flushed_last g x c (map (carry ρ) ys)))
      (rw (now_is own c) (done (r.rests c.now (now_back g x c))))
    where
      less : (m : ℕ → ℕ) → ((y : ℕ) → l.committed y ≤ m y) → (y : ℕ) (b : Bool) → pick b zero (l.committed y) ≤ pick b zero (m y)
      less m h y true = zero-le
      less m h y false = h y

      done : SomeRests g x c.now state l → SomeRests g x (apply_all (map (carry (places g c.now)) (reset_stores g (present_but g x) state z)) c.now) (reset_state x state z) (after_reset l z)
      done (e, m, above, rs) =
          let k = roled_reset_rests g ok e x c.now state (with_marks l m) z rs (rok c.now (now_back g x c)) in
          less_rests g x (apply_all (map (carry (places g c.now)) xs) c.now) (reset_state x state z) (after_reset l z) (set_at m z zero) (λ y. less m above y (eqb y z)) (own_rests e g x (apply_all (map (carry (places g c.now)) xs) c.now) (reset_state x state z) (after_reset (with_marks l m) z) k)

-- ---- A WRITE resets nothing
abbrev Appends : List Store → Type 0
Appends [] = Unit {0}
Appends (append d z s ∷ xs) = Appends xs
Appends (reset d z ∷ xs) = ⊥
Appends (flush d ∷ xs) = Appends xs

appends_join : (xs ys : List Store) → Appends xs → Appends ys → Appends (xs ++ ys)
appends_join [] ys a b = b
appends_join (append d z s ∷ xs) ys a b = appends_join xs ys a b
appends_join (reset d z ∷ xs) ys a b = a
appends_join (flush d ∷ xs) ys a b = appends_join xs ys a b

appends_all : (d z : ℕ) (ss : List (List ℕ)) → Appends (append_all d z ss)
appends_all d z [] = tt
appends_all d z (s ∷ ss) = appends_all d z ss

appends_pick : (b : Bool) (xs : List Store) → Appends xs → Appends (pick b xs [])
appends_pick true xs a = a
appends_pick false xs a = tt

appends_present : (p : ℕ → Bool) (xs : List Store) → Appends xs → Appends (on_present p xs)
appends_present p [] a = tt
appends_present p (append d z s ∷ xs) a = go (p d) (appends_present p xs a)
  where
    go : (b : Bool) → Appends (on_present p xs) → Appends (pick b (append d z s ∷ on_present p xs) (on_present p xs))
    go true h = h
    go false h = h
appends_present p (reset d z ∷ xs) a = absurd a
appends_present p (flush d ∷ xs) a = go (p d) (appends_present p xs a)
  where
    go : (b : Bool) → Appends (on_present p xs) → Appends (pick b (flush d ∷ on_present p xs) (on_present p xs))
    go true h = h
    go false h = h

appends_data : (D U z : ℕ) (S : ℕ → List ℕ) (a k : ℕ) → Appends (data_stores D U z S a k)
appends_data D U z S a zero = tt
appends_data D U z S a (suc k) =
    appends_join (sector_stores D U z S a) (data_stores D U z S (suc a) k) (appends_pick (eqb (suc (a % stripe_length D U)) (stripe_length D U)) (parity_stores D U z S (stripe_of D U a)) (appends_all (parity_drive D z (stripe_of D U a)) (data_zone z) (tabulate_from (row_xor D U S (stripe_of D U a)) zero U)))
    (appends_data D U z S (suc a) k)

appends_write : (g : Geometry) (present : ℕ → Bool) (v : Device) (state : StateView) (z : ℕ) (ss : List (List ℕ)) → Appends (write_stores g present v state z ss)
unfolding write_stores write_with
appends_write g present v state z ss =
    let n = pointer_in (state.condition z) in
    let S = zone_content g present v state z ss in
    let p = parity_drive_at g z (n + length ss) in
    let ds = data_stores g.drives g.unit z S n (length ss) in
    let es = pick (inside_stripe g (n + length ss)) (entry_stores g z (state.generation z) S (n + length ss)) [] in
    appends_present present (ds ++ es) (appends_join ds es (appends_data g.drives g.unit z S n (length ss))
    (appends_pick (inside_stripe g (n + length ss)) (entry_stores g z (state.generation z) S (n + length ss)) (appends_all p parity_zone (sectors_of g p true (entry_at g z (state.generation z) S (n + length ss))))))

appends_carried : (ρ : ℕ → ℕ → ℕ) (xs : List Store) → Appends xs → Appends (map (carry ρ) xs)
appends_carried ρ [] a = tt
appends_carried ρ (append d z s ∷ xs) a = appends_carried ρ xs a
appends_carried ρ (reset d z ∷ xs) a = absurd a
appends_carried ρ (flush d ∷ xs) a = appends_carried ρ xs a

appends_local : (d y : ℕ) (xs : List Store) → Appends xs → NoReset (local_stores d y xs)
appends_local d y [] a = tt
appends_local d y (append e z s ∷ xs) a = go (eqb d e && eqb y z) (appends_local d y xs a)
  where
    go : (b : Bool) → NoReset (local_stores d y xs) → NoReset (pick b (append_here s ∷ []) [] ++ local_stores d y xs)
    go true h = h
    go false h = h
appends_local d y (reset e z ∷ xs) a = absurd a
appends_local d y (flush e ∷ xs) a = go (eqb d e) (appends_local d y xs a)
  where
    go : (b : Bool) → NoReset (local_stores d y xs) → NoReset (pick b (flush_here ∷ []) [] ++ local_stores d y xs)
    go true h = h
    go false h = h

-- ordinary stores leave the roles
ordinary_roles : (g : Geometry) (x : ℕ) (v : Device) (e : LogGenerations) → (s : Standing g x v e) → (xs : List Store) (o : Ordinary g x xs) (δ : Ghost) → LogsOk g x (apply_all xs (by_roles g v)) δ → δ.closed ≡ e
    → (d : ℕ) → Here g x d → roles g (carried_to g v xs) d ≡ roles g v d
ordinary_roles g x v e s xs o δ lg same d a =
    firm_roles g (carried_to g v xs) d (s.roles d) (ordinary_firm g x v s.roles s.firm xs o e s.general_claim_lem s.parity_claim_lem δ lg same d a) ∙ sym (firm_roles g v d (s.roles d) (s.firm d a))

-- ---- what a write stores goes by the zone's content, which both devices at rest show
write_stores_same : (g : Geometry) → Valid g → (x : ℕ) (b c : LogGenerations) (v w : Device) (state : StateView) (l m : Ledger) → Rests b g x v state l → Rests c g x w state m → ((z : ℕ) → l.content z ≡ m.content z)
    → (z : ℕ) → z < g.zones → (ss : List (List ℕ)) → write_stores g (present_but g x) v state z ss ≡ write_stores g (present_but g x) w state z ss
unfolding write_stores zone_content
write_stores_same g ok x b c v w state l m (γ, r, p) (δ, s, q) same z hz ss =
    ap (λ (S : ℕ → List ℕ). on_stores S) (fun_ext λ a. go a (dec_lt a (pointer_in (state.condition z))))
  where
    on_stores : (ℕ → List ℕ) → List Store
    on_stores S = on_present (present_but g x) (write_with g z (state.generation z) S (pointer_in (state.condition z)) (length ss))

    go : (a : ℕ) → Dec (a < pointer_in (state.condition z))
        → pick (ltb a (pointer_in (state.condition z))) (value_at g (present_but g x) v z (state.generation z) a) (at ss (a - pointer_in (state.condition z))) ≡ pick (ltb a (pointer_in (state.condition z))) (value_at g (present_but g x) w z (state.generation z) a) (at ss (a - pointer_in (state.condition z)))
    go a (yes h) =
        let e : length (l.content z) ≡ pointer_in (state.condition z) = (r.zones z hz).pointer_is in
        let f : length (m.content z) ≡ pointer_in (state.condition z) = (s.zones z hz).pointer_is in
        let t : value_at g (present_but g x) v z (state.generation z) a ≡ value_at g (present_but g x) w z (state.generation z) a =
        (rest_known g ok x v state l γ r z hz a (omega (arith, e, h))).1 ∙ ap (λ (k : List (List ℕ)). at k a) (same z) ∙ sym (rest_known g ok x w state m δ s z hz a (omega (arith, f, h))).1 in
        rw (lt-ltb a (pointer_in (state.condition z)) h) t
    go a (no h) = rw (le-ltb a (pointer_in (state.condition z)) (omega arith)) refl

-- ---- A WRITE
module _ (g : Geometry) (ok : Valid g) (x : ℕ) (c : Caching) (state : StateView) (l : Ledger) (r : RestsCached g x c state l) (z : ℕ) (ss : List (List ℕ)) (wok : (u : Device) → PutBack g x c u → WriteOk g (present_but g x) (by_roles g u) state z ss) where
  abbrev ws : Device → List Store
  ws u = write_stores g (present_but g x) (by_roles g u) state z ss

  abbrev ys : List Store
  ys = write_stores g (present_but g x) (by_roles g c.now) state z ss

  wo : Ordinary g x (write_stores g (present_but g x) (by_roles g c.now) state z ss)
  wo = write_ordinary g x (by_roles g c.now) state z ss

  abbrev wown : List Store
  wown = map (carry (places g c.now)) (write_stores g (present_but g x) (by_roles g c.now) state z ss)

  -- every device at rest stores the same
  same_stores : (u : Device) → PutBack g x c u → ys ≡ ws u
  same_stores u k = go (r.rests c.now (now_back g x c)) (r.rests u k)
    where
      go : SomeRests g x c.now state l → SomeRests g x u state l → ys ≡ ws u
      go (e, m, above, (s, rs)) (e2, m2, above2, (s2, rs2)) = write_stores_same g ok x e e2 (by_roles g c.now) (by_roles g u) state (with_marks l m) (with_marks l m2) rs rs2 (λ y. refl) z (wok u k).zone_ok ss

  no_reset : (n : ℕ) (v : Device) (d y : ℕ) → NoReset (local_stores d y (map (carry (places g v)) (take n ys)))
  no_reset n v d y =
      let a = appends_local d y (map (carry (places g v)) ys) (appends_carried (places g v) ys (appends_write g (present_but g x) (by_roles g c.now) state z ss)) in
      rw (← take_map (carry (places g v)) n ys) (no_reset_part (local_stores d y (take n (map (carry (places g v)) ys))) (local_stores d y (map (carry (places g v)) ys)) (local_take d y n (map (carry (places g v)) ys)) a)

  -- what is there after a part of it
  module _ (n : ℕ) (u : Device) (k : PutBack g x (apply_all_caching (take n wown) c) u) where
    abbrev t : Device
    t = before g x c state l r ys wo n u k

    is_part : u ≡ apply_all (map (carry (places g t)) (take n ys)) t
    is_part = forgets_is g x t (map (carry (places g t)) (take n ys)) u (no_resets_forget g x t (map (carry (places g t)) (take n ys)) (λ d y a. no_reset n t d y)) (before_delayed g x c state l r ys wo n u k)

    is_stopped_lem : u ≡ apply_all (take n (map (carry (places g t)) (ws t))) t
    is_stopped_lem = is_part ∙ ap (λ (a : List Store). apply_all a t) (sym (take_map (carry (places g t)) n ys) ∙ ap (λ (a : List Store). take n (map (carry (places g t)) a)) (same_stores t (before_back g x c state l r ys wo n u k)))

  pub own_write_halted : (n : ℕ) → HaltedCached g x (apply_all_caching (take n (map (carry (places g c.now)) (write_stores g (present_but g x) (by_roles g c.now) state z ss))) c) (after_write l z ss)
  own_write_halted n u k =
      let v = before g x c state l r ys wo n u k in
      let b = before_back g x c state l r ys wo n u k in
      let (e, m, above, rs) = r.rests v b in
      let i = roled_write_keeps g ok e x v state (with_marks l m) z ss n rs (wok v b) in
      subst (λ (a : Device). Halted g x a (after_write l z ss)) (sym (is_stopped_lem n u k)) (invs_halted g x (apply_all (take n (map (carry (places g v)) (ws v))) v) (after_write l z ss) (e, m, above, i))

  -- after all of it
  module _ (u : Device) (k : PutBack g x (apply_all_caching wown c) u) where
    abbrev whole : PutBack g x (apply_all_caching (take (length wown) wown) c) u
    whole = subst (λ (a : List Store). PutBack g x (apply_all_caching a c) u) (sym (take-length wown)) k

    abbrev v0 : Device
    v0 = before g x c state l r ys wo (length wown) u (subst (λ (a : List Store). PutBack g x (apply_all_caching a c) u) (sym (take-length wown)) k)

    b0 : PutBack g x c v0
    b0 = before_back g x c state l r ys wo (length wown) u whole

    all_of : take (length wown) (map (carry (places g v0)) (ws v0)) ≡ map (carry (places g v0)) (ws v0)
    all_of =
        let q : length wown ≡ length (map (carry (places g v0)) (ws v0)) = length_map (carry (places g c.now)) ys ∙ ap length (same_stores v0 b0) ∙ sym (length_map (carry (places g v0)) (ws v0)) in
        ap (λ (k : ℕ). take k (map (carry (places g v0)) (ws v0))) q ∙ take-length (map (carry (places g v0)) (ws v0))

    is_whole : u ≡ apply_all (map (carry (places g v0)) (ws v0)) v0
    is_whole = is_stopped_lem (length wown) u whole ∙ ap (λ (a : List Store). apply_all a v0) all_of

    whole_rests : SomeRests g x u (write_state x state z (length ss)) (after_write l z ss)
    whole_rests = go (r.rests v0 b0)
      where
        go : SomeRests g x v0 state l → SomeRests g x u (write_state x state z (length ss)) (after_write l z ss)
        go (e, m, above, rs) = (e, m, above, rw is_whole (roled_write_rests g ok e x v0 state (with_marks l m) z ss rs (wok v0 b0)))

    whole_roles : (d : ℕ) → Here g x d → roles g u d ≡ roles g c.now d
    whole_roles d a = go (r.rests v0 b0)
      where
        go : SomeRests g x v0 state l → roles g u d ≡ roles g c.now d
        go (e, m, above, (s, rs)) =
            let (δ, q, same) = write_rests g ok e x (by_roles g v0) state (with_marks l m) z ss rs (wok v0 b0) in
            ap (λ (w : Device). roles g w d) is_whole ∙ ordinary_roles g x v0 e s (ws v0) (write_ordinary g x (by_roles g v0) state z ss) δ q.logs same d a ∙ r.roles_are v0 b0 d a

  pub own_write_rests : RestsCached g x (apply_all_caching (map (carry (places g c.now)) (write_stores g (present_but g x) (by_roles g c.now) state z ss)) c) (write_state x state z (length ss)) (after_write l z ss)
  own_write_rests = record {
    rests = whole_rests;
    roles_are = λ u k d a. whole_roles u k d a ∙ sym (whole_roles (apply_all_caching wown c).now (now_back g x (apply_all_caching wown c)) d a);
    spares = λ d y a. go d y a (r.spares d y a);
  }
    where
      go : (d y : ℕ) → Here g x d → (c.was d y ≡ []) ⊎ (y ≡ (roles g c.now d).spare) → ((apply_all_caching wown c).was d y ≡ []) ⊎ (y ≡ (roles g (apply_all_caching wown c).now d).spare)
      go d y a (inl q) =
          let n = appends_local d y wown (appends_carried (places g c.now) ys (appends_write g (present_but g x) (by_roles g c.now) state z ss)) in
          inl (was_is d y wown c ∙ ap (remember_here (local_stores d y wown) (c.now d y)) q ∙ remembers_none (local_stores d y wown) (c.now d y) n)
      go d y a (inr q) = inr (q ∙ ap (λ (t : Roles). t.spare) (sym (whole_roles (apply_all_caching wown c).now (now_back g x (apply_all_caching wown c)) d a)))

-- what it owes: the logs that it asks for room are no spares
pub write_owes_cached : (g : Geometry) → Valid g → WriteOwesCached g
unfolding write_all
write_owes_cached g ok x c state l z ss r wk = (own_write_halted g ok x c state l r z ss wok, own_write_rests g ok x c state l r z ss wok)
  where
    wok : (u : Device) → PutBack g x c u → WriteOk g (present_but g x) (by_roles g u) state z ss
    wok u k = record { zone_ok = wk.zone_ok; writable = wk.writable; some = wk.some; run = wk.run; sizes = wk.sizes; room = λ i a. rw (back_seen g x c state l r u k _ a parity_zone (λ j. omega (arith, j))) (wk.room i a) }
