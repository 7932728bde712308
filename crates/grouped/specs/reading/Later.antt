-- Which of two blocks an address names, case by case.
use Rattle.std.specs.Prelude.{◌≡◌, refl, ◌≢◌, Bool, true, false, ◌&&◌, ℕ, zero, suc, ◌≤◌, List, ltb, eqb}
use Rattle.std.proofs.Common.{arith, eq-eqb, ne_eqb}
use Rattle.tables.specs.meaning.Basics.{pick}
use Rattle.grouped.specs.declared.Segment.{Segment}
use Rattle.grouped.specs.meaning.Reading.{filler, address_in, timestamp_in, is_data, counts, is_later, later_of, newest_below}
use Rattle.grouped.specs.heap.Loaded.{parity_not, filler_not, other_counts}

module _ (s : Segment) (ms : List ℕ) (x a found c : ℕ) where
  not_counted : counts s ms x c ≡ false → later_of s ms x a found c ≡ found
  not_counted e = rw e refl

  pub later_parity : is_data s c ≡ false → later_of s ms x a found c ≡ found
  later_parity e = not_counted (parity_not s ms x c e)

  pub later_filler : address_in s ms x c ≡ filler → later_of s ms x a found c ≡ found
  later_filler e = not_counted (filler_not s ms x c e)

  pub later_other : address_in s ms x c ≢ a → later_of s ms x a found c ≡ found
  later_other ne = go (counts s ms x c)
    where
      go : (t : Bool) → pick (t && (eqb (address_in s ms x c) a && is_later s ms x found c)) (suc c) found ≡ found
      go true = rw (ne_eqb (address_in s ms x c) a ne) refl
      go false = refl

-- c has the address
module _ (s : Segment) (ms : List ℕ) (x a c : ℕ) (held : is_data s c ≡ true) (real : address_in s ms x c ≢ filler) (has : address_in s ms x c ≡ a) where
  pub later_first : later_of s ms x a zero c ≡ suc c
  later_first = rw (other_counts s ms x c held real, eq-eqb (address_in s ms x c) a has) refl

  pub later_than : (b : ℕ) (t : Bool) → ltb (timestamp_in s ms x b) (timestamp_in s ms x c) ≡ t → later_of s ms x a (suc b) c ≡ pick t (suc c) (suc b)
  later_than b t e = rw (other_counts s ms x c held real, eq-eqb (address_in s ms x c) a has, e) refl

pub newest_most : (s : Segment) (ms : List ℕ) (x a c : ℕ) → newest_below s ms x a c ≤ c
newest_most s ms x a zero = omega arith
newest_most s ms x a (suc c) = go (counts s ms x c && (eqb (address_in s ms x c) a && is_later s ms x (newest_below s ms x a c) c)) (newest_most s ms x a c)
  where
    go : (t : Bool) → newest_below s ms x a c ≤ c → pick t (suc c) (newest_below s ms x a c) ≤ suc c
    go true h = omega arith
    go false h = omega arith
