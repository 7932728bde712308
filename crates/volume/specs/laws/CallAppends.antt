-- How many sectors the stores of reset, format and write append to each zone. (Mount: MountAppends.)
use Rattle.std.specs.Prelude.{◌≡◌, refl, ◌≢◌, Bool, true, false, ◌&&◌, ℕ, zero, suc, ◌+◌, ◌*◌, ◌%◌, ◌≤◌, ◌<◌, min, List, [], ◌∷◌, ◌++◌, length, eqb}
use Rattle.std.proofs.Common.{ap, ◌∙◌, le_refl, mod-lt, arith, eq-eqb, ne_eqb}
use Rattle.std.proofs.Math.Decide.{ℕ_discrete}
use Rattle.tables.specs.declared.Geometry.{Geometry}
use Rattle.tables.specs.meaning.Basics.{pick}
use Rattle.tables.specs.laws.Basics.{eqb_same}
use Rattle.tables.specs.meaning.Below.{each_below, tabulate_from}
use Rattle.tables.specs.laws.Below.{length_tabulate_from}
use Rattle.tables.specs.meaning.Lists.{concat}
use Rattle.tables.specs.meaning.Geometry.{data_zone}
use Rattle.tables.specs.meaning.Placement.{drive_of, needed, stripe_of, parity_drive, stripe_length}
use Rattle.tables.specs.laws.Placement.{drive_not_parity, stripe_pos, needed_own, needed_inside, needed_inside_own, needed_last, needed_last_other, needed_last_own, needed_at_parity}
use Rattle.tables.specs.meaning.Device.{Store, reset}
use Rattle.tables.specs.meaning.Phases.{flush_all}
use Rattle.logs.specs.meaning.Entry.{general_zone, Header, label, counters, zone_reset}
use Rattle.logs.specs.meaning.Walk.{sectors_of}
use Rattle.volume.specs.meaning.State.{StateView}
use Rattle.volume.specs.meaning.Content.{row_xor, row_xor_below, fill_of, entry_at}
use Rattle.volume.specs.meaning.Calls.{append_all, append_general, generations_from, parity_stores, sector_stores, data_stores, logs_reset, raised_at, reset_phases}
use Rattle.tables.specs.laws.AppendCounts.{appends_to, appends_append, appends_flushes, appends_pick, appends_each, appends_one}

-- ---- sectors appended to one zone
pub appends_all : (d y e z : ℕ) (ss : List (List ℕ)) → appends_to d y (append_all e z ss) ≡ pick (eqb d e && eqb y z) (length ss) 0
appends_all d y e z ss = go (eqb d e && eqb y z) ss refl
  where
    go : (b : Bool) (ss : List (List ℕ)) → eqb d e && eqb y z ≡ b → appends_to d y (append_all e z ss) ≡ pick b (length ss) 0
    go true [] q = refl
    go true (s ∷ ss) q = rw q (omega (arith, go true ss q))
    go false [] q = refl
    go false (s ∷ ss) q = rw q (omega (arith, go false ss q))

pub appends_all_most : (d y e z : ℕ) (ss : List (List ℕ)) → appends_to d y (append_all e z ss) ≤ pick (eqb d e) (length ss) 0
appends_all_most d y e z ss = rw (appends_all d y e z ss) (go (eqb d e) (eqb y z))
  where
    go : (b c : Bool) → pick (b && c) (length ss) 0 ≤ pick b (length ss) 0
    go true true = le_refl (length ss)
    go true false = omega arith
    go false c = le_refl 0

pub appends_elsewhere : (d y e z : ℕ) (ss : List (List ℕ)) → y ≢ z → appends_to d y (append_all e z ss) ≡ 0
appends_elsewhere d y e z ss n = appends_all d y e z ss ∙ go (eqb d e)
  where
    go : (b : Bool) → pick (b && eqb y z) (length ss) 0 ≡ 0
    go true = rw (ne_eqb y z n) refl
    go false = refl

-- one header on a general log: one sector there, none elsewhere
abbrev pub in_general : ℕ → ℕ
in_general y = pick (eqb y general_zone) 1 0

pub appends_general : (g : Geometry) (h : Header) (d y k : ℕ) → appends_to d y (append_general g h k) ≤ pick (eqb d k) (in_general y) 0
appends_general g h d y k = go (eqb d k) (eqb y general_zone)
  where
    go : (b c : Bool) → pick (b && c) 1 0 + 0 ≤ pick b (pick c 1 0) 0
    go true true = omega arith
    go true false = omega arith
    go false c = omega arith

pub appends_general_pick : (g : Geometry) (b : Bool) (h : Header) (d y k : ℕ) → appends_to d y (pick b (append_general g h k) []) ≤ pick (eqb d k) (in_general y) 0
appends_general_pick g b h d y k = appends_pick d y (pick (eqb d k) (in_general y) 0) b (append_general g h k) (appends_general g h d y k)

-- ---- reset: two headers
pub reset_appends : (g : Geometry) (state : StateView) (z d y : ℕ) → appends_to d y (concat (reset_phases g state z)) ≤ in_general y + in_general y
reset_appends g state z d y =
    let m = in_general y in
    let entries : ℕ → List Store = λ k. pick (logs_reset g z k) (append_general g (zone_reset z (state.generation z)) k) [] in
    let resets : ℕ → List Store = λ k. reset k (data_zone z) ∷ [] in
    let raised : ℕ → List Store = λ k. append_general g (counters (generations_from (raised_at state z) zero g.zones)) k in
    let D = g.drives in
    let a : appends_to d y (each_below entries D) ≤ m = appends_one d y d entries D m (λ k l. appends_general_pick g (logs_reset g z k) (zone_reset z (state.generation z)) d y k) in
    let b : appends_to d y (each_below resets D) ≤ D * 0 = appends_each d y resets D 0 (λ k l. le_refl 0) in
    let c : appends_to d y (each_below raised D) ≤ m = appends_one d y d raised D m (λ k l. appends_general g (counters (generations_from (raised_at state z) zero g.zones)) d y k) in
    omega (
      arith,
      a,
      b,
      c,
      appends_flushes d y D,
      appends_append d y (each_below entries D) (flush_all D ++ (each_below resets D ++ (flush_all D ++ (each_below raised D ++ (flush_all D ++ []))))),
      appends_append d y (flush_all D) (each_below resets D ++ (flush_all D ++ (each_below raised D ++ (flush_all D ++ [])))),
      appends_append d y (each_below resets D) (flush_all D ++ (each_below raised D ++ (flush_all D ++ []))),
      appends_append d y (flush_all D) (each_below raised D ++ (flush_all D ++ [])),
      appends_append d y (each_below raised D) (flush_all D ++ []),
      appends_append d y (flush_all D) [],
    )

-- ---- format: two headers, after the resets
pub format_appends : (g : Geometry) (x a d y : ℕ)
    → appends_to d y (each_below (λ k. append_general g (label x a) k ++ append_general g (counters (generations_from (λ z. 1) zero g.zones)) k) g.drives) ≤ in_general y + in_general y
format_appends g x a d y = appends_one d y d (λ k. append_general g (label x a) k ++ append_general g fresh k) g.drives (in_general y + in_general y) (λ k l. both k (eqb d k) (appends_general g (label x a) d y k) (appends_general g fresh d y k))
  where
    fresh : Header
    fresh = counters (generations_from (λ z. 1) zero g.zones)

    both : (k : ℕ) (b : Bool) → appends_to d y (append_general g (label x a) k) ≤ pick b (in_general y) 0 → appends_to d y (append_general g fresh k) ≤ pick b (in_general y) 0
        → appends_to d y (append_general g (label x a) k ++ append_general g fresh k) ≤ pick b (in_general y + in_general y) 0
    both k true p q = omega (arith, p, q, appends_append d y (append_general g (label x a) k) (append_general g fresh k))
    both k false p q = omega (arith, p, q, appends_append d y (append_general g (label x a) k) (append_general g fresh k))

-- ---- write: each drive gets what the later pointer needs of it and the earlier did not
module _ (D U z : ℕ) (h_d : 1 < D) (h_u : zero < U) (S : ℕ → List ℕ) where
  parity_count : (d s : ℕ) → appends_to d (data_zone z) (parity_stores D U z S s) ≡ pick (eqb d (parity_drive D z s)) U 0
  parity_count d s = appends_all d (data_zone z) (parity_drive D z s) (data_zone z) (tabulate_from (row_xor D U S s) zero U) ∙ rw (eqb_same (data_zone z), length_tabulate_from (row_xor D U S s) zero U) (go (eqb d (parity_drive D z s)))
    where
      go : (b : Bool) → pick (b && true) U 0 ≡ pick b U 0
      go true = refl
      go false = refl

  sector_count : (a d : ℕ) → d < D → appends_to d (data_zone z) (sector_stores D U z S a) + needed D U z a d ≡ needed D U z (suc a) d
  sector_count a d hd = go (ℕ_discrete d (drive_of D U z a)) (ℕ_discrete (suc (a % stripe_length D U)) (stripe_length D U)) (ℕ_discrete d (parity_drive D z (stripe_of D U a)))
    where
      same : eqb (data_zone z) (data_zone z) ≡ true
      same = eqb_same (data_zone z)

      more : suc (a % stripe_length D U) ≢ stripe_length D U → suc (a % stripe_length D U) < stripe_length D U
      more l = omega (arith, mod-lt a (stripe_pos D U z h_d h_u))

      go : Dec (d ≡ drive_of D U z a) → Dec (suc (a % stripe_length D U) ≡ stripe_length D U) → Dec (d ≡ parity_drive D z (stripe_of D U a))
          → pick (eqb d (drive_of D U z a) && eqb (data_zone z) (data_zone z)) 1 0 + appends_to d (data_zone z) (pick (eqb (suc (a % stripe_length D U)) (stripe_length D U)) (parity_stores D U z S (stripe_of D U a)) []) + needed D U z a d ≡ needed D U z (suc a) d
      go (yes e) (yes l) c =
          rw (eq-eqb d (drive_of D U z a) e, eq-eqb (suc (a % stripe_length D U)) (stripe_length D U) l, same, parity_count d (stripe_of D U a), ne_eqb d (parity_drive D z (stripe_of D U a)) (rw e (drive_not_parity D U z h_d h_u a)))
          (rw e (omega (arith, needed_own D U z h_d h_u a, needed_last D U z h_d h_u a (drive_of D U z a) l, needed_last_own D U z h_d h_u a l)))
      go (yes e) (no l) c =
          rw (eq-eqb d (drive_of D U z a) e, ne_eqb (suc (a % stripe_length D U)) (stripe_length D U) l, same)
          (rw e (omega (arith, needed_own D U z h_d h_u a, needed_inside_own D U z h_d h_u a (more l))))
      go (no e) (yes l) (yes c) =
          rw (ne_eqb d (drive_of D U z a) e, eq-eqb (suc (a % stripe_length D U)) (stripe_length D U) l, parity_count d (stripe_of D U a), eq-eqb d (parity_drive D z (stripe_of D U a)) c)
          (rw c (omega (arith, needed_at_parity D U z h_d h_u a, needed_last D U z h_d h_u a (parity_drive D z (stripe_of D U a)) l)))
      go (no e) (yes l) (no c) =
          rw (ne_eqb d (drive_of D U z a) e, eq-eqb (suc (a % stripe_length D U)) (stripe_length D U) l, parity_count d (stripe_of D U a), ne_eqb d (parity_drive D z (stripe_of D U a)) c)
          (omega (arith, needed_last D U z h_d h_u a d l, needed_last_other D U z h_d h_u a d hd l e c))
      go (no e) (no l) c = rw (ne_eqb d (drive_of D U z a) e, ne_eqb (suc (a % stripe_length D U)) (stripe_length D U) l) (omega (arith, needed_inside D U z h_d h_u a d hd (more l) e))

  pub data_appends : (a k d : ℕ) → d < D → appends_to d (data_zone z) (data_stores D U z S a k) + needed D U z a d ≡ needed D U z (a + k) d
  data_appends a zero d hd = let e : a + zero ≡ a = omega arith in rw e (omega arith)
  data_appends a (suc k) d hd =
      let e : a + suc k ≡ suc a + k = omega arith in
      rw e (omega (arith, appends_append d (data_zone z) (sector_stores D U z S a) (data_stores D U z S (suc a) k), sector_count a d hd, data_appends (suc a) k d hd))

  -- and no other zone gets any
  sector_elsewhere : (a d y : ℕ) → y ≢ data_zone z → appends_to d y (sector_stores D U z S a) ≡ 0
  sector_elsewhere a d y n = go (eqb d (drive_of D U z a)) (eqb (suc (a % stripe_length D U)) (stripe_length D U))
    where
      go : (b c : Bool) → pick (b && eqb y (data_zone z)) 1 0 + appends_to d y (pick c (parity_stores D U z S (stripe_of D U a)) []) ≡ 0
      go b true = rw (ne_eqb y (data_zone z) n, appends_elsewhere d y (parity_drive D z (stripe_of D U a)) (data_zone z) (tabulate_from (row_xor D U S (stripe_of D U a)) zero U) n) (none b)
        where
          none : (b : Bool) → pick (b && false) 1 0 + 0 ≡ 0
          none true = omega arith
          none false = omega arith
      go true false = rw (ne_eqb y (data_zone z) n) (omega arith)
      go false false = omega arith

  pub data_elsewhere : (a k d y : ℕ) → y ≢ data_zone z → appends_to d y (data_stores D U z S a k) ≡ 0
  data_elsewhere a zero d y n = refl
  data_elsewhere a (suc k) d y n = omega (arith, appends_append d y (sector_stores D U z S a) (data_stores D U z S (suc a) k), sector_elsewhere a d y n, data_elsewhere (suc a) k d y n)

-- the entry at a pointer: its header and its rows
pub entry_long : (g : Geometry) (d z generation : ℕ) (S : ℕ → List ℕ) (n : ℕ) → length (sectors_of g d true (entry_at g z generation S n)) ≡ suc (min (fill_of g n) g.unit)
unfolding entry_at
entry_long g d z generation S n = ap suc (length_tabulate_from (row_xor_below g.drives g.unit S (stripe_of g.drives g.unit n) n) zero (min (fill_of g n) g.unit))
