-- Which entries of a parity log serve rule 4: those whole and current that end at or below the limit. A fact of all of them is a fact of
-- what rule 4 reads, and each of them is there.
use Rattle.tables.specs.laws.Lists.{mem_left}
use Rattle.volume.specs.meaning.Rules.{ParityEntry, serving_entry, serving_entries}
use Rattle.promise.proofs.content.Recover.{All}
use Rattle.std.specs.Prelude.{◌≡◌, refl, Bool, true, false, ◌&&◌, ℕ, ◌+◌, ◌-◌, ◌*◌, ◌≤◌, get_or, leb, eqb}
use Rattle.std.proofs.Common.{ap₂, eq-eqb, eqb-true, le-leb, leb-true}
use mathlib.Core.List.Memᴰ
use mathlib.Core.List.{List, [], ◌∷◌, ◌++◌, Memᴰ}
use Rattle.tables.specs.laws.Basics.{and_split}
use Rattle.tables.specs.meaning.Basics.{pick}
use Rattle.tables.specs.declared.Geometry.{Geometry}
use Rattle.tables.specs.meaning.Geometry.{stripe_sectors}
use Rattle.logs.specs.meaning.Entry.{Header, label, counters, zone_reset, partial_parity, seal, closing, Entry}

-- ---- entries that serve
module _ (g : Geometry) (z n q : ℕ) where
  all_append : (P : ParityEntry → Type 0) (xs ys : List ParityEntry) → All P xs → All P ys → All P (xs ++ ys)
  all_append P [] ys a b = b
  all_append P (x ∷ xs) ys a b = (a.0, all_append P xs ys a.1 b)

  as_all : (P : ParityEntry → Type 0) (h : Header) (rs : List (List ℕ)) → ((s f : ℕ) → h ≡ partial_parity z s f n → s * stripe_sectors g + f ≤ q → P (record { stripe = s; end = s * stripe_sectors g + f; rows = λ r. get_or rs r [] })) → All P (serving_entry g z n q h rs)
  as_all P (label x a) rs k = tt
  as_all P (counters cs) rs k = tt
  as_all P (zone_reset y m) rs k = tt
  as_all P (partial_parity y s f m) rs k = go (eqb y z && (eqb m n && leb (s * stripe_sectors g + f) q)) refl
    where
      go : (b : Bool) → eqb y z && (eqb m n && leb (s * stripe_sectors g + f) q) ≡ b → All P (pick b (record { stripe = s; end = s * stripe_sectors g + f; rows = λ r. get_or rs r [] } ∷ []) [])
      go true e =
          let (a, d) = and_split (eqb y z) (eqb m n && leb (s * stripe_sectors g + f) q) e in
          let (b, c) = and_split (eqb m n) (leb (s * stripe_sectors g + f) q) d in
          (k s f (ap₂ (λ (u w : ℕ). partial_parity u s f w) (eqb-true y z a) (eqb-true m n b)) (leb-true (s * stripe_sectors g + f) q c), tt)
      go false e = tt
  as_all P (seal y p m) rs k = tt
  as_all P (closing kind gen) rs k = tt

  pub serving_all : (P : ParityEntry → Type 0) (es : List Entry)
      → ((e : Entry) → Memᴰ e es → (s f : ℕ) → e.head ≡ partial_parity z s f n → s * stripe_sectors g + f ≤ q → P (record { stripe = s; end = s * stripe_sectors g + f; rows = λ r. get_or e.rows r [] }))
      → All P (serving_entries g z n q es)
  serving_all P [] k = tt
  serving_all P (e ∷ es) k = all_append P (serving_entry g z n q e.head e.rows) (serving_entries g z n q es) (as_all P e.head e.rows (k e (Memᴰ.head refl))) (serving_all P es (λ f m. k f (Memᴰ.tail m)))

  pub serving_mem : (es : List Entry) (e : Entry) → Memᴰ e es → (s f : ℕ) → e.head ≡ partial_parity z s f n → s * stripe_sectors g + f ≤ q
      → Memᴰ (record { stripe = s; end = s * stripe_sectors g + f; rows = λ r. get_or e.rows r [] }) (serving_entries g z n q es)
  serving_mem (x ∷ es) e (Memᴰ.head p) s f h l =
      let w : serving_entry g z n q (partial_parity z s f n) x.rows ≡ record { stripe = s; end = s * stripe_sectors g + f; rows = λ r. get_or x.rows r [] } ∷ [] =
      rw (eq-eqb z z refl, eq-eqb n n refl, le-leb (s * stripe_sectors g + f) q l) refl in
      mem_left (serving_entry g z n q x.head x.rows) (serving_entries g z n q es) _ (rw (← p, h) (rw (p, w) (Memᴰ.head refl)))
  serving_mem (x ∷ es) e (Memᴰ.tail m) s f h l = Memᴰ.append_right (serving_entry g z n q x.head x.rows) (serving_mem es e m s f h l)
  serving_mem [] e x3 s f h l = elim x3 [ ]
