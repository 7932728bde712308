-- The last label of a log, whatever a cut keeps of it: in a log of which more lasts, in a front of it, in one that labels joined.
use Rattle.std.specs.Prelude.{ℕ, ◌+◌, ◌-◌, ◌≤◌, ◌<◌, length, take}
use Rattle.std.proofs.Common.{le_trans, arith, length-take, take_all, take-take}
use mathlib.Core.List.{List, ◌++◌, Memᴰ}
use Rattle.tables.specs.meaning.Drives.{no_drive}
use Rattle.tables.specs.laws.Lists.{mem_take, take_append}
use Rattle.std.proofs.Math.Decide.{dec_lt}
use Rattle.logs.specs.meaning.Entry.{Header, label}
use Rattle.logs.specs.meaning.Heads.{last_lost}
use Rattle.logs.specs.laws.HeadLaws.{lost_append}
use Rattle.promise.proofs.invariant.Invariant.{Names, LastNames}

module _ (x n : ℕ) (hs : List Header) (k : LastNames x n hs) where
  -- of the whole log
  pub last_names : Names x (last_lost no_drive hs)
  last_names = rw (take_all (n + length hs) hs (omega arith)) at (k (n + length hs) (omega arith))

  pub names_later : (m : ℕ) → n ≤ m → LastNames x m hs
  names_later m h j q = k j (le_trans h q)

  pub names_front : (m : ℕ) → n ≤ m → LastNames x n (take m hs)
  names_front m h j q = go (dec_lt j m)
    where
      go : Dec (j < m) → Names x (last_lost no_drive (take j (take m hs)))
      go (yes l) = rw (take-take j m hs (omega arith)) (k j q)
      go (no l) = rw (take_all j (take m hs) (rw length-take (omega arith))) (k m h)

  pub names_join : (ks : List Header) → ((y a : ℕ) → Memᴰ (label y a) ks → Names x y) → LastNames x n (hs ++ ks)
  names_join ks h j q = rw (take_append j hs ks) (lost_append (Names x) no_drive (take j hs) (take (j - length hs) ks) (k j q) (λ y a m. h y a (mem_take (j - length hs) ks (label y a) m)))
