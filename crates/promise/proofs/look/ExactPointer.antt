-- A zone that holds just what the pointer n needs, and no entry past n, shows n: its sector n is not held, nor its row's parity, and no entry
-- serves it. With this a mount knows that its own stores did not move the pointer.
use Rattle.std.specs.Prelude.{◌≡◌, refl, Bool, true, false, ◌&&◌, ◌||◌, ℕ, zero, ◌+◌, ◌-◌, ◌*◌, ◌≤◌, ◌<◌, List, [], ◌∷◌, eqb, leb}
use Rattle.std.proofs.Common.{arith, le-ltb}
use Rattle.tables.specs.meaning.Placement.{drive_of, sector_of, needed, stripe_of, unit_index, row_index}
use Rattle.tables.specs.laws.Placement.{needed_own, needed_at_parity, drive_below, parity_drive_below, sector_sum}
use Rattle.tables.specs.laws.Greatest.{greatest_is}
use Rattle.volume.specs.meaning.Rules.{View, ParityEntry, nothing, last_of, known, known_prefix, held_at, serves, entry_for, is_found, parity_of, row_drive, row_address}
use Rattle.promise.proofs.content.Recover.{All, Lasts, known_below}
use Rattle.tables.specs.meaning.Below.{all_below}

pub record Exact (D U z n : ℕ) (v : View) : Type 0 where
  pub just : (d : ℕ) → d < D → v.present d ≡ true → v.written d ≡ needed D U z n d
  pub none_past : (d : ℕ) → d < D → v.present d ≡ true → All (λ e. e.end ≤ n) (v.entries d)

module _ (D U z : ℕ) (h_d : 1 < D) (h_u : zero < U) (n : ℕ) (v : View) (x : Exact D U z n v) where
  not_held_lem : held_at v (drive_of D U z n) (sector_of D U n) ≡ false
  not_held_lem = go (v.present (drive_of D U z n)) refl
    where
      go : (b : Bool) → v.present (drive_of D U z n) ≡ b → held_at v (drive_of D U z n) (sector_of D U n) ≡ false
      go true e = rw (e, le-ltb (sector_of D U n) (v.written (drive_of D U z n)) (omega (arith, x.just (drive_of D U z n) (drive_below D U z h_d h_u n) e, needed_own D U z h_d h_u n))) refl
      go false e = rw e refl

  not_parity : held_at v (parity_of D U z n) (sector_of D U n) ≡ false
  not_parity = go (v.present (parity_of D U z n)) refl
    where
      go : (b : Bool) → v.present (parity_of D U z n) ≡ b → held_at v (parity_of D U z n) (sector_of D U n) ≡ false
      go true e = rw (e, sector_sum D U n, le-ltb (stripe_of D U n * U + row_index D U n) (v.written (parity_of D U z n)) (omega (arith, x.just (parity_of D U z n) (parity_drive_below D U z h_d h_u (stripe_of D U n)) e, needed_at_parity D U z h_d h_u n))) refl
      go false e = rw e refl

  not_serves : (e : ParityEntry) → e.end ≤ n → serves D U z v n e ≡ false
  not_serves e h = rw (le-ltb n e.end h) (go (eqb e.stripe (stripe_of D U n)))
    where
      go : (b : Bool) → b && false && all_below (λ k. eqb k (unit_index D U n) || (leb e.end (row_address D U n k) || held_at v (row_drive D U z n k) (sector_of D U n))) (D - 1) ≡ false
      go true = refl
      go false = refl

  none_serves : (es : List ParityEntry) → All (λ e. e.end ≤ n) es → last_of (serves D U z v n) es ≡ nothing
  none_serves [] h = refl
  none_serves (e ∷ es) h = rw (none_serves es h.1, not_serves e h.0) refl

  no_entry_lem : is_found (entry_for D U z v n) ≡ false
  no_entry_lem = go (v.present (parity_of D U z n)) refl
    where
      go : (b : Bool) → v.present (parity_of D U z n) ≡ b → is_found (entry_for D U z v n) ≡ false
      go true e = rw (e, none_serves (v.entries (parity_of D U z n)) (x.none_past (parity_of D U z n) (parity_drive_below D U z h_d h_u (stripe_of D U n)) e)) refl
      go false e = rw e refl

  pub not_known : known D U z v n ≡ false
  not_known = rw (not_held_lem, not_parity, no_entry_lem) refl

  -- THE POINTER IS n
  pub pointer_is : (top : ℕ) → n ≤ top → Lasts D U z n v → known_prefix D U z v top ≡ n
  pointer_is top h w = greatest_is (known D U z v) top n h (known_below D U z h_d h_u n v w) (λ _. not_known)
