-- The rows that a torn entry lacks have their room: its header stands only where all its rows are within the zone.
use Rattle.std.specs.Prelude.{◌≡◌, refl, Bool, true, false, ℕ, zero, suc, ◌+◌, ◌-◌, ◌≤◌, List, [], ◌∷◌, ◌++◌, length, leb}
use Rattle.std.proofs.Common.{sym, ap, ◌∙◌, arith, length-append, leb-true}
use Rattle.tables.specs.declared.Geometry.{Geometry}
use Rattle.tables.specs.meaning.Basics.{pick}
use Rattle.logs.specs.meaning.Entry.{Header, Decoded, legal, bad, rows_of, decode}
use Rattle.logs.specs.declared.Fault.TheVariants.{RowsPast}
use Rattle.logs.specs.meaning.Walk.{no_entry, torn, Walked, WalkState, between, in_entry, in_zone, decode_at, walk, walk_log}
use Rattle.logs.specs.laws.Walk.{step_zero, step_suc}

in_zone_lem : (g : Geometry) (x : ℕ) (r : Decoded) (h : Header) → in_zone g x r ≡ legal h → x + suc (rows_of g h) ≤ g.capacity
in_zone_lem g x (bad f) h e = absurd (let z : ◌≡◌ {A = ℕ} 0 1 = cc in omega arith)
in_zone_lem g x (legal k) h e = go (leb (x + suc (rows_of g k)) g.capacity) refl e
  where
    go : (b : Bool) → leb (x + suc (rows_of g k)) g.capacity ≡ b → pick b (legal k) (bad RowsPast) ≡ legal h → x + suc (rows_of g h) ≤ g.capacity
    go true q p = let i : k ≡ h = cc in rw (← i) (leb-true (x + suc (rows_of g k)) g.capacity q)
    go false q p = absurd (let z : ◌≡◌ {A = ℕ} 0 1 = cc in omega arith)

module _ (g : Geometry) (d : ℕ) (par : Bool) where
  -- an entry begun at y has its rows within the zone
  abbrev Begun : ℕ → WalkState → Type 0
  Begun x between = Unit {0}
  Begun x (in_entry y h k acc) = (x ≡ y + suc (length acc)) × (rows_of g h ≡ suc k + length acc) × (y + suc (rows_of g h) ≤ g.capacity)

  torn_from : (ss : List (List ℕ)) (x : ℕ) (st : WalkState) (h : Header) (rs : List (List ℕ)) → Begun x st → (walk g d par x st ss).last ≡ torn h rs → x + length ss + (rows_of g h - length rs) ≤ g.capacity
  torn_from [] x between h rs b e = absurd (let z : ◌≡◌ {A = ℕ} 0 1 = cc in omega arith)
  torn_from [] x (in_entry y k n acc) h rs b e =
      let p : k ≡ h = cc in
      let q : acc ≡ rs = cc in
      rw (← p, ← q) (omega (arith, b.0, b.1, b.2))
  torn_from (s ∷ ss) x (in_entry y k zero acc) h rs b e = omega (arith, torn_from ss (suc x) between h rs tt e)
  torn_from (s ∷ ss) x (in_entry y k (suc n) acc) h rs b e =
      let l = length-append acc (s ∷ []) in
      omega (arith, torn_from ss (suc x) (in_entry y k n (acc ++ (s ∷ []))) h rs (omega (arith, l, b.0), omega (arith, l, b.1), b.2) e)
  torn_from (s ∷ ss) x between h rs b e = go (decode_at g d par x s) refl (λ st c q. torn_from ss (suc x) st h rs c q)
    where
      go : (r : Decoded) → decode_at g d par x s ≡ r → ((st : WalkState) → Begun (suc x) st → (walk g d par (suc x) st ss).last ≡ torn h rs → suc x + length ss + (rows_of g h - length rs) ≤ g.capacity) → x + suc (length ss) + (rows_of g h - length rs) ≤ g.capacity
      go (bad f) q ih =
          let n : (walk g d par x between (s ∷ ss)).last ≡ no_entry f = rw (q, walk) refl in
          let m : no_entry f ≡ torn h rs = sym n ∙ e in
          absurd (let z : ◌≡◌ {A = ℕ} 0 1 = cc in omega arith)
      go (legal k) q ih = rows (rows_of g k) refl
        where
          rows : (n : ℕ) → rows_of g k ≡ n → x + suc (length ss) + (rows_of g h - length rs) ≤ g.capacity
          rows zero p = omega (arith, ih between tt (sym (ap (λ (w : Walked). w.last) (step_zero g d par x s k ss q p)) ∙ e))
          rows (suc n) p = omega (arith, ih (in_entry x k n []) (omega arith, omega (arith, p), in_zone_lem g x (decode g d par s) k q) (sym (ap (λ (w : Walked). w.last) (step_suc g d par x s k n ss q p)) ∙ e))

  pub torn_room : (ss : List (List ℕ)) (h : Header) (rs : List (List ℕ)) → (walk_log g d par ss).last ≡ torn h rs → length ss + (rows_of g h - length rs) ≤ g.capacity
  torn_room ss h rs e = omega (arith, torn_from ss zero between h rs tt e)
