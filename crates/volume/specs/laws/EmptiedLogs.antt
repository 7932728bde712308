-- General logs that were emptied: a device whose general logs are, on some present drives, the copies of what they were, with the generations in force; on
-- the other drives, and in the parity logs and the data zones, it is as before. The copies read back: the log of such a drive is just them and the closing entry.
use Rattle.std.specs.Prelude.{◌≡◌, refl, ◌≢◌, Bool, true, ◌||◌, ℕ, zero, ◌+◌, ◌-◌, ◌^◌, ◌≤◌, ◌<◌, length, ltb, eqb}
use Rattle.std.proofs.Math.Path.{sym, ap}
use Rattle.std.proofs.Common.{◌∙◌, arith, lt-ltb, ltb-false, eq-eqb}
use Rattle.std.proofs.Math.Bool.{false}
use mathlib.Core.List.{List, [], ◌∷◌, ◌++◌, map, Memᴰ}
use Rattle.std.proofs.Math.ListN.{length-append}
use Rattle.std.proofs.lemmas.Bool.{eqb-false}
use Rattle.tables.specs.laws.Basics.{or_none}
use Rattle.tables.specs.laws.Lists.{map_append, length_map}
use Rattle.tables.specs.declared.Geometry.{Geometry}
use Rattle.tables.specs.meaning.Geometry.{Valid, zone_sectors}
use Rattle.tables.specs.meaning.Device.{Device}
use Rattle.logs.specs.meaning.Entry.{general_zone, spare_zone, worn_generation, Header, label, counters, seal, closing, encode}
use Rattle.logs.specs.meaning.Walk.{at_pointer, walk_log}
use Rattle.logs.specs.meaning.Heads.{labelled, array_in}
use Rattle.logs.specs.meaning.Copies.{copied_general}
use Rattle.logs.specs.laws.Walk.{Reads}
use Rattle.logs.specs.laws.Legal.{fits_reads_back}
use Rattle.logs.specs.laws.HeadLaws.{reads_fits, generation_small}
use Rattle.logs.specs.laws.HeadsWalk.{walk_of_heads, walked_reads}
use Rattle.logs.specs.laws.CopiesSay.{closed_copy, copy_holds}
use Rattle.logs.specs.code.Judge.{seal_small}
use Rattle.logs.specs.code.Query.{heads_of}
use Rattle.volume.specs.meaning.Rules.{general_heads, general_ending, generation_of, zone_at, zone_shown, showing}
use Rattle.volume.specs.meaning.Calls.{generations_from}
use Rattle.volume.specs.meaning.Roles.{Roles, claim_of_kind, lacks_kind}
use Rattle.volume.specs.meaning.Emptying.{InForce, by_look, general_copies, closing_sector, new_general, new_general_size, stays_full}
use Rattle.volume.specs.laws.Counters.{generations_length, generations_small}
use Rattle.volume.specs.laws.GenerationRange.{generation_range}
use Rattle.volume.specs.laws.ArrayNumbers.{array_small}

-- w, w1: before and after, by the drives' roles (r)
pub record Emptied (g : Geometry) (present : ℕ → Bool) (f : InForce) (r : ℕ → Roles) (emptied : ℕ → Bool) (w w1 : Device) : Type 0 where
  pub valid : Valid g
  pub there : (d : ℕ) → emptied d ≡ true → (present d ≡ true) × (d < g.drives)
  pub in_force_lem : (z : ℕ) → z < g.zones → f.generation z ≡ generation_of g present w z
  pub begins : (d : ℕ) → emptied d ≡ true → labelled (general_heads g w d) ≡ true
  pub claims : (d : ℕ) → emptied d ≡ true → (1 ≤ (r d).general_claim) × ((r d).general_claim ≤ worn_generation)
  pub room : (d : ℕ) → emptied d ≡ true → new_general_size g f (general_heads g w d) ≤ g.capacity
  pub copied : (d : ℕ) → emptied d ≡ true → (w1 d general_zone).sectors ≡ new_general g f (r d) d (general_heads g w d)
  pub kept : (d : ℕ) → emptied d ≡ false → (w1 d general_zone).sectors ≡ (w d general_zone).sectors
  pub elsewhere : (d y : ℕ) → y ≢ general_zone → y ≢ spare_zone → (w1 d y).sectors ≡ (w d y).sectors

-- the size is that of the sectors
pub new_general_length : (g : Geometry) (f : InForce) (r : Roles) (d : ℕ) (hs : List Header) → length (new_general g f r d hs) ≡ new_general_size g f hs
unfolding new_general new_general_size
new_general_length g f r d hs =
    let n : length (map (encode g d) (general_copies g f hs)) ≡ length (general_copies g f hs) = length_map (encode g d) (general_copies g f hs) in
    let a = length-append (map (encode g d) (general_copies g f hs)) (closing_sector g false d r ∷ []) in
    omega (arith, n, a)

-- what an emptying asks before it begins: room, both kinds, a generation that can be raised
pub not_full : (g : Geometry) (par : Bool) (r : ℕ → Roles) (limit size d : ℕ) → 1 ≤ limit → stays_full g par r limit size d ≡ false
    → (size ≤ g.capacity) × (1 ≤ claim_of_kind par (r d)) × (claim_of_kind par (r d) ≤ worn_generation)
unfolding stays_full
not_full g par r limit size d l e =
    let (a, b) = or_none (ltb (g.capacity - size) limit) (lacks_kind (r d) || ltb worn_generation (claim_of_kind par (r d))) e in
    let (c, h) = or_none (lacks_kind (r d)) (ltb worn_generation (claim_of_kind par (r d))) b in
    let (m, n) = or_none (eqb (r d).general_claim 0) (eqb (r d).parity_claim 0) c in
    (omega (arith, l, ltb-false (g.capacity - size) limit a), claimed par (eqb-false (r d).general_claim 0 m) (eqb-false (r d).parity_claim 0 n), omega (arith, ltb-false worn_generation (claim_of_kind par (r d)) h))
  where
    claimed : (p : Bool) → (r d).general_claim ≢ 0 → (r d).parity_claim ≢ 0 → 1 ≤ claim_of_kind p (r d)
    claimed true m n = omega (arith, n)
    claimed false m n = omega (arith, m)

-- by a look, the generations in force are rule 2's
pub look_in_force : (g : Geometry) (present : ℕ → Bool) (x : ℕ) (w : Device) (z : ℕ) → (by_look (showing g present x w)).generation z ≡ generation_of g present w z
unfolding showing zone_shown zone_at
look_in_force g present x w z = refl

-- every header of a general log reads back
pub head_reads : (g : Geometry) (v : Device) (d : ℕ) (h : Header) → Memᴰ h (general_heads g v d) → Reads g d false h
unfolding general_heads
head_reads g v d h m = walked_reads g d false (v d general_zone).sectors h m

-- so no seal of it passes its zone
pub head_seal : (g : Geometry) (v : Device) (d z c n : ℕ) → Memᴰ (seal z c n) (general_heads g v d) → (z < g.zones) × (c ≤ zone_sectors g)
head_seal g v d z c n m = seal_small g d false z c n (reads_fits g d false (seal z c n) (head_reads g v d (seal z c n) m))

head_array : (g : Geometry) (v : Device) (d : ℕ) → array_in (general_heads g v d) < 256 ^ 8
unfolding general_heads
head_array g v d = array_small g d (v d general_zone).sectors

module _ (g : Geometry) (present : ℕ → Bool) (f : InForce) (r : ℕ → Roles) (emptied : ℕ → Bool) (w w1 : Device) (k : Emptied g present f r emptied w w1) where
  abbrev in_force : List ℕ
  in_force = generations_from f.generation zero g.zones

  -- drive d's copies, and the closing entry
  abbrev pub emptied_heads : ℕ → List Header
  emptied_heads d = closed_copy g f.generation in_force (general_heads g w d) (r d).general_claim

  pub in_force_small : (z : ℕ) → z < g.zones → f.generation z < 256 ^ 8
  in_force_small z l = rw (k.in_force_lem z l) (generation_range g present w z l)

  -- ---- each of them reads back
  label_reads : (d y a : ℕ) → Memᴰ (label y a) (general_heads g w d) → Reads g d false (label y (array_in (general_heads g w d)))
  label_reads d y a m =
      fits_reads_back g k.valid d false (label y (array_in (general_heads g w d))) (reads_fits g d false (label y a) (head_reads g w d (label y a) m)) (head_array g w d)

  counters_read : (d : ℕ) → Reads g d false (counters in_force)
  counters_read d =
      fits_reads_back g k.valid d false (counters in_force) (eq-eqb (length in_force) g.zones (generations_length f.generation zero g.zones))
      (generations_small f.generation zero g.zones (λ z l. let e : zero + z ≡ z = omega arith in rw e (in_force_small z l)))

  closing_reads : (d : ℕ) → emptied d ≡ true → Reads g d false (closing 0 (r d).general_claim)
  closing_reads d e =
      fits_reads_back g k.valid d false (closing 0 (r d).general_claim) (lt-ltb 0 (r d).general_claim (k.claims d e).0) (generation_small (r d).general_claim (k.claims d e).1)

  copies_read : (d : ℕ) → emptied d ≡ true → (h : Header) → Memᴰ h (emptied_heads d) → Reads g d false h
  copies_read d e =
      copy_holds g f.generation in_force (general_heads g w d) (r d).general_claim (λ (h : Header). Reads g d false h) (k.begins d e) (λ z c m. (head_seal g w d z c (f.generation z) m).1)
      (label_reads d) (counters_read d) (head_reads g w d) (closing_reads d e)

  -- ---- and they are the log
  sectors_are : (d : ℕ) → emptied d ≡ true → (w1 d general_zone).sectors ≡ map (encode g d) (emptied_heads d)
  unfolding new_general general_copies
  sectors_are d e = k.copied d e ∙ sym (map_append (encode g d) (copied_general g f.generation in_force (general_heads g w d)) (closing 0 (r d).general_claim ∷ []))

  heads_fit : (d : ℕ) → emptied d ≡ true → length (emptied_heads d) ≤ g.capacity
  unfolding new_general_size general_copies
  heads_fit d e = omega (arith, k.room d e, length-append (copied_general g f.generation in_force (general_heads g w d)) (closing 0 (r d).general_claim ∷ []))

  pub emptied_walk : (d : ℕ) → emptied d ≡ true → general_heads g w1 d ≡ emptied_heads d
  unfolding general_heads
  emptied_walk d e = ap (λ (ss : List (List ℕ)). heads_of (walk_log g d false ss)) (sectors_are d e) ∙ (walk_of_heads g d (emptied_heads d) (copies_read d e) (heads_fit d e)).0

  -- THE LOG OF AN EMPTIED DRIVE: its copies and the closing entry, up to its pointer
  pub emptied_heads_lem : (d : ℕ) → emptied d ≡ true → general_heads g w1 d ≡ general_copies g f (general_heads g w d) ++ (closing 0 (r d).general_claim ∷ [])
  unfolding general_copies
  emptied_heads_lem d e = emptied_walk d e

  pub emptied_ending : (d : ℕ) → emptied d ≡ true → general_ending g w1 d ≡ at_pointer
  unfolding general_ending
  emptied_ending d e = ap (λ (ss : List (List ℕ)). (walk_log g d false ss).last) (sectors_are d e) ∙ (walk_of_heads g d (emptied_heads d) (copies_read d e) (heads_fit d e)).1

  -- another drive's is what it was
  pub kept_heads : (d : ℕ) → emptied d ≡ false → general_heads g w1 d ≡ general_heads g w d
  unfolding general_heads
  kept_heads d e = ap (λ (ss : List (List ℕ)). heads_of (walk_log g d false ss)) (k.kept d e)

  pub kept_ending : (d : ℕ) → emptied d ≡ false → general_ending g w1 d ≡ general_ending g w d
  unfolding general_ending
  kept_ending d e = ap (λ (ss : List (List ℕ)). (walk_log g d false ss).last) (k.kept d e)
