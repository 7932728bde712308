-- What the sectors of a zone put on each drive (document 01, "Placement"), and the partial parity entry that belongs to a pointer inside
-- a stripe ("Log entries", type 4). S is the zone's content: sector a of the zone is S a.
use Rattle.std.specs.Prelude.{Bool, ℕ, zero, ◌-◌, ◌*◌, ◌/◌, ◌%◌, min, List, [], get_or, ltb, eqb}
use Rattle.tables.specs.meaning.Basics.{pick}
use Rattle.tables.specs.meaning.Below.{tabulate_from}
use Rattle.tables.specs.meaning.Xor.{xor_below}
use Rattle.tables.specs.meaning.Placement.{stripe_of, parity_drive, address, address_at}
use Rattle.tables.specs.declared.Geometry.{Geometry}
use Rattle.tables.specs.meaning.Geometry.{stripe_sectors, parity_drive_of}
use Rattle.logs.specs.meaning.Entry.{Header, partial_parity, Entry}

-- a list of sectors as a content
abbrev pub at : List (List ℕ) → ℕ → List ℕ
at l a = get_or l a []

-- "Row r of a stripe is sector r of every unit; its parity is their exclusive or"
unfoldable pub row_xor : ℕ → ℕ → (ℕ → List ℕ) → ℕ → ℕ → List ℕ
row_xor D U S s r = xor_below (λ k. S (address D U s k r)) (D - 1)

-- the same of a stripe that is not complete: "the exclusive or of that row's sectors below end"
unfoldable pub row_xor_below : ℕ → ℕ → (ℕ → List ℕ) → ℕ → ℕ → ℕ → List ℕ
row_xor_below D U S s end r = xor_below (λ k. pick (ltb (address D U s k r) end) (S (address D U s k r)) []) (D - 1)

-- what the content puts at sector x of drive d: a row's parity on the stripe's parity drive, else a data sector
unfoldable pub content_at : ℕ → ℕ → ℕ → (ℕ → List ℕ) → ℕ → ℕ → List ℕ
content_at D U z S d x = pick (eqb d (parity_drive D z (x / U))) (row_xor D U S (x / U) (x % U)) (S (address_at D U z d x))

-- ---- a pointer n, its stripe, and the partial parity entry that ends there
-- n lies strictly inside its stripe
abbrev pub inside_stripe : Geometry → ℕ → Bool
inside_stripe g n = ltb (stripe_of g.drives g.unit n * stripe_sectors g) n

-- f = end − start: the sectors of n's stripe below n
abbrev pub fill_of : Geometry → ℕ → ℕ
fill_of g n = n - stripe_of g.drives g.unit n * stripe_sectors g

abbrev pub parity_drive_at : Geometry → ℕ → ℕ → ℕ
parity_drive_at g z n = parity_drive_of g z (stripe_of g.drives g.unit n)

abbrev pub entry_header : Geometry → ℕ → ℕ → ℕ → Header
entry_header g z generation n = partial_parity z (stripe_of g.drives g.unit n) (fill_of g n) generation

-- "min(f, U) row sectors follow"
unfoldable pub entry_at : Geometry → ℕ → ℕ → (ℕ → List ℕ) → ℕ → Entry
entry_at g z generation S n = record {
  head = entry_header g z generation n;
  rows = tabulate_from (row_xor_below g.drives g.unit S (stripe_of g.drives g.unit n) n) zero (min (fill_of g n) g.unit);
}
