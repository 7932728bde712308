-- The sectors of a log that is made anew: each is B bytes, and they are as many as the new log's size says (`new_general`, `new_parity`).
use Rattle.std.specs.Prelude.{◌≡◌, refl, ◌⊎◌, Bool, ◌&&◌, ◌||◌, not, length, eqb}
use Rattle.std.proofs.Common.{sym, ◌∙◌, inl, inr, true≢false, mul-le-mul_right, arith, eqb-true}
use Rattle.std.proofs.Math.Path.{ap}
use Rattle.std.proofs.Math.Bool.{true, false}
use Prim.Native.Nat.{ℕ, zero, suc, ◌+◌, ◌-◌, ◌*◌, ◌≤◌, ◌<◌, min}
use Rattle.std.proofs.Math.Decide.{dec_lt}
use mathlib.Core.List.{List, [], ◌∷◌, ◌++◌, map, Memᴰ}
use Rattle.std.proofs.Math.ListN.{length-append}
use Rattle.tables.specs.declared.Geometry.{Geometry}
use Rattle.tables.specs.meaning.Basics.{pick}
use Rattle.tables.specs.laws.Basics.{and_split, not_not}
use Rattle.tables.specs.meaning.Below.{any_below, each_below, sum_below}
use Rattle.tables.specs.laws.Below.{any_below_false}
use Rattle.tables.specs.meaning.Lists.{any_of, concat}
use Rattle.tables.specs.laws.Lists.{mem_append, mem_nil, map_append, concat_append}
use Rattle.tables.specs.meaning.Geometry.{Valid, stripe_sectors, zone_sectors}
use Rattle.tables.specs.meaning.Placement.{stripe_of, address}
use Rattle.tables.specs.laws.Placement.{stripe_below, stripe_above}
use Rattle.tables.specs.meaning.Device.{Device}
use Rattle.logs.specs.meaning.Entry.{parity_zone, Header, label, counters, zone_reset, partial_parity, seal, closing, Entry, rows_of, fits_log, encode}
use Rattle.logs.specs.meaning.Walk.{sectors_of}
use Rattle.logs.specs.meaning.Heads.{is_reset, is_seal, least_seal, ends_at}
use Rattle.logs.specs.meaning.Copies.{array_for, kept_label, kept_seals, kept_resets, copied_general}
use Rattle.logs.specs.laws.Copies.{zonewise_mem, LastLabel, no_label, a_label, last_label_lem}
use Rattle.logs.specs.laws.Legal.{CountersFit, header_long}
use Rattle.volume.specs.meaning.Content.{inside_stripe, fill_of, parity_drive_at, row_xor_below, entry_at}
use Rattle.volume.specs.meaning.State.{pointer_in, StateView}
use Rattle.volume.specs.meaning.Rules.{parity_entries, known, zone_view}
use Rattle.volume.specs.meaning.Roles.{Roles, claim_of_kind}
use Rattle.volume.specs.meaning.Calls.{generations_from}
use Rattle.volume.specs.meaning.Emptying.{InForce, general_copies, last_entry, is_copied, is_at_pointer, made_entry, parity_copies, closing_sector, new_general, new_parity, copy_size, new_parity_size, by_state, is_made, gone_for_copies}
use Rattle.volume.specs.looking.KnowingEntries.{partial_inside}
use Rattle.volume.specs.laws.Counters.{generations_length}
use Rattle.volume.specs.laws.Content.{row_long}
use Rattle.volume.specs.laws.CallAppends.{entry_long}
use Rattle.volume.specs.laws.PlacedStores.{AllLong, long_from}
use Rattle.volume.specs.laws.SectorLengths.{Long, LongDevice, walked_rows, walked_fits, known_value_long}

-- ---- lists of sectors
pub long_append : (B : ℕ) (ss ts : List (List ℕ)) → AllLong B ss → AllLong B ts → AllLong B (ss ++ ts)
long_append B [] ts p q = q
long_append B (s ∷ ss) ts p q = (p.0, long_append B ss ts p.1 q)

pub long_all : (B : ℕ) (ss : List (List ℕ)) → Long B ss → AllLong B ss
long_all B [] h = tt
long_all B (s ∷ ss) h = (h 0 (omega arith), long_all B ss (λ i l. h (suc i) (omega (arith, l))))

headers_long : (g : Geometry) (d : ℕ) (hs : List Header) → Valid g → ((h : Header) → Memᴰ h hs → CountersFit g h) → AllLong g.sector (map (encode g d) hs)
headers_long g d [] ok fit = tt
headers_long g d (h ∷ hs) ok fit = (header_long g d h ok (fit h (Memᴰ.head refl)), headers_long g d hs ok (λ x m. fit x (Memᴰ.tail m)))

-- ---- a general log
module _ (g : Geometry) (f : InForce) (hs : List Header) where
  label_fits : (h : Header) → Memᴰ h (kept_label hs) → CountersFit g h
  label_fits h m = go (last_label_lem (array_for hs) [] hs) m
    where
      one : (y a : ℕ) → Memᴰ h (label y a ∷ []) → CountersFit g h
      one y a (Memᴰ.head q) = rw q tt
      one y a (Memᴰ.tail q) = mem_nil h q

      go : LastLabel (array_for hs) [] hs → Memᴰ h (kept_label hs) → CountersFit g h
      go (no_label e k) l = mem_nil h (rw e at l)
      go (a_label y a e o k) l = one y (array_for hs a) (rw e at l)

  copies_fit : (h : Header) → Memᴰ h (general_copies g f hs) → CountersFit g h
  unfolding general_copies copied_general
  copies_fit h m = go (mem_append (kept_label hs) (counters (generations_from f.generation zero g.zones) ∷ (kept_seals g f.generation hs ++ kept_resets g f.generation hs)) h m)
    where
      tail : Memᴰ h (kept_seals g f.generation hs) ⊎ Memᴰ h (kept_resets g f.generation hs) → CountersFit g h
      tail (inl k) =
          let (z, l, b, e) = zonewise_mem (λ z. any_of (is_seal z (f.generation z)) hs) (λ z. seal z (least_seal z (f.generation z) (zone_sectors g) hs) (f.generation z)) g.zones h k in
          rw e tt
      tail (inr k) = let (z, l, b, e) = zonewise_mem (λ z. any_of (is_reset z (f.generation z)) hs) (λ z. zone_reset z (f.generation z)) g.zones h k in rw e tt

      next : Memᴰ h (counters (generations_from f.generation zero g.zones) ∷ (kept_seals g f.generation hs ++ kept_resets g f.generation hs)) → CountersFit g h
      next (Memᴰ.head e) = rw e (generations_length f.generation zero g.zones)
      next (Memᴰ.tail k) = tail (mem_append (kept_seals g f.generation hs) (kept_resets g f.generation hs) h k)

      go : Memᴰ h (kept_label hs) ⊎ Memᴰ h (counters (generations_from f.generation zero g.zones) ∷ (kept_seals g f.generation hs ++ kept_resets g f.generation hs)) → CountersFit g h
      go (inl k) = label_fits h k
      go (inr k) = next k

  pub new_general_long : (r : Roles) (d : ℕ) → Valid g → AllLong g.sector (new_general g f r d hs)
  unfolding new_general
  new_general_long r d ok = long_append g.sector (map (encode g d) (general_copies g f hs)) (closing_sector g false d r ∷ []) (headers_long g d (general_copies g f hs) ok copies_fit) (header_long g d (closing 0 (claim_of_kind false r)) ok tt, tt)

-- ---- a parity log
-- the last entry that passes, if any does
pub last_entry_lem : (p : Entry → Bool) (acc es : List Entry) → ((last_entry p acc es ≡ acc) × (any_of p es ≡ false)) ⊎ ((e : Entry) × (last_entry p acc es ≡ e ∷ []) × Memᴰ e es × (p e ≡ true))
last_entry_lem p acc [] = inl (refl, refl)
last_entry_lem p acc (x ∷ es) = go (p x) refl (λ a. last_entry_lem p a es)
  where
    go : (b : Bool) → p x ≡ b → ((a : List Entry) → ((last_entry p a es ≡ a) × (any_of p es ≡ false)) ⊎ ((e : Entry) × (last_entry p a es ≡ e ∷ []) × Memᴰ e es × (p e ≡ true)))
        → ((last_entry p (pick b (x ∷ []) acc) es ≡ acc) × (b || any_of p es ≡ false)) ⊎ ((e : Entry) × (last_entry p (pick b (x ∷ []) acc) es ≡ e ∷ []) × Memᴰ e (x ∷ es) × (p e ≡ true))
    go true q ih = later (ih (x ∷ []))
      where
        later : ((last_entry p (x ∷ []) es ≡ x ∷ []) × (any_of p es ≡ false)) ⊎ ((e : Entry) × (last_entry p (x ∷ []) es ≡ e ∷ []) × Memᴰ e es × (p e ≡ true))
            → ((last_entry p (x ∷ []) es ≡ acc) × (true ≡ false)) ⊎ ((e : Entry) × (last_entry p (x ∷ []) es ≡ e ∷ []) × Memᴰ e (x ∷ es) × (p e ≡ true))
        later (inl (r, n)) = inr (x, r, Memᴰ.head refl, q)
        later (inr (e, r, m, k)) = inr (e, r, Memᴰ.tail m, k)
    go false q ih = later (ih acc)
      where
        later : ((last_entry p acc es ≡ acc) × (any_of p es ≡ false)) ⊎ ((e : Entry) × (last_entry p acc es ≡ e ∷ []) × Memᴰ e es × (p e ≡ true))
            → ((last_entry p acc es ≡ acc) × (any_of p es ≡ false)) ⊎ ((e : Entry) × (last_entry p acc es ≡ e ∷ []) × Memᴰ e (x ∷ es) × (p e ≡ true))
        later (inl r) = inl r
        later (inr (e, r, m, k)) = inr (e, r, Memᴰ.tail m, k)

-- an entry that ends at a pointer inside a stripe has as many rows as one made there
rows_at : (g : Geometry) (d z n q : ℕ) (h : Header) → Valid g → fits_log g d true h ≡ true → ends_at g z n q h ≡ true → inside_stripe g q ≡ true → (rows_of g h ≡ min (fill_of g q) g.unit) × CountersFit g h
rows_at g d z n q (label x a) ok fit e i = absurd (true≢false (sym e))
rows_at g d z n q (counters cs) ok fit e i = absurd (true≢false (sym e))
rows_at g d z n q (zone_reset y m) ok fit e i = absurd (true≢false (sym e))
rows_at g d z n q (seal y p m) ok fit e i = absurd (true≢false (sym e))
rows_at g d z n q (closing kind gen) ok fit e i = absurd (true≢false (sym e))
rows_at g d z n q (partial_parity y s f m) ok fit e i =
    let (a, b) = and_split (eqb y z) (eqb m n && eqb (s * stripe_sectors g + f) q) e in
    let ends = eqb-true (s * stripe_sectors g + f) q (and_split (eqb m n) (eqb (s * stripe_sectors g + f) q) b).1 in
    let inside = partial_inside g d y s f m fit in
    let h_d : 1 < g.drives = omega (arith, ok.drives_least) in
    let low = stripe_below g.drives g.unit zero h_d ok.unit_least q in
    let high = stripe_above g.drives g.unit zero h_d ok.unit_least q in
    let stripe : s ≡ stripe_of g.drives g.unit q = same (dec_lt s (stripe_of g.drives g.unit q)) (dec_lt (stripe_of g.drives g.unit q) s) ends inside.1 low high in
    let times = ap (λ (x : ℕ). x * stripe_sectors g) stripe in
    (ap (λ (x : ℕ). min x g.unit) (omega (arith, ends, times)), tt)
  where
    same : Dec (s < stripe_of g.drives g.unit q) → Dec (stripe_of g.drives g.unit q < s) → s * stripe_sectors g + f ≡ q → f < stripe_sectors g → stripe_of g.drives g.unit q * stripe_sectors g ≤ q
        → q < stripe_of g.drives g.unit q * stripe_sectors g + stripe_sectors g → s ≡ stripe_of g.drives g.unit q
    same (yes l) k x u low high = absurd (omega (arith, x, u, low, mul-le-mul_right (stripe_sectors g) l))
    same (no l) (yes k) x u low high = absurd (omega (arith, x, high, mul-le-mul_right (stripe_sectors g) k))
    same (no l) (no k) x u low high = omega arith

-- an entry made of sectors
pub entry_sectors_long : (g : Geometry) → Valid g → (d z n : ℕ) (S : ℕ → List ℕ) (q : ℕ) → ((a : ℕ) → stripe_of g.drives g.unit q * stripe_sectors g ≤ a → a < q → length (S a) ≡ g.sector)
    → AllLong g.sector (sectors_of g d true (entry_at g z n S q))
unfolding entry_at
entry_sectors_long g ok d z n S q values =
    let s = stripe_of g.drives g.unit q in (
      header_long g d (partial_parity z s (fill_of g q) n) ok tt,
      long_from g.sector (row_xor_below g.drives g.unit S s q) zero (min (fill_of g q) g.unit)
          (λ r hr. let e : 0 + r ≡ r = omega arith in rw e (row_long g ok S s q r (omega (arith, hr)) (omega (arith, hr)) (λ j hj l. values (address g.drives g.unit s j r) (unfold address in omega arith) l))),
    )

-- d: the drive; w: a device of which all sectors of the drive's parity log are B bytes
module _ (g : Geometry) (ok : Valid g) (f : InForce) (w : Device) (d : ℕ) (long : Long g.sector (w d parity_zone).sectors) where
  abbrev sectors_for : ℕ → List (List ℕ)
  sectors_for z = concat (map (sectors_of g d true) (pick (is_copied g f d z) (last_entry (is_at_pointer g f z) (made_entry g f z ∷ []) (parity_entries g w d)) []))

  -- the values of which an entry is made, where none is found
  abbrev pub MadeOfSectors : Type 0
  MadeOfSectors = (z : ℕ) → z < g.zones → is_copied g f d z ≡ true → any_of (is_at_pointer g f z) (parity_entries g w d) ≡ false
      → (a : ℕ) → stripe_of g.drives g.unit (f.pointer z) * stripe_sectors g ≤ a → a < f.pointer z → length (f.value z a) ≡ g.sector

  made_long : (z : ℕ) → ((a : ℕ) → stripe_of g.drives g.unit (f.pointer z) * stripe_sectors g ≤ a → a < f.pointer z → length (f.value z a) ≡ g.sector) → AllLong g.sector (sectors_of g d true (made_entry g f z))
  made_long z values = entry_sectors_long g ok d z (f.generation z) (f.value z) (f.pointer z) values

  found_sectors : (z : ℕ) (e : Entry) → inside_stripe g (f.pointer z) ≡ true → Memᴰ e (parity_entries g w d) → is_at_pointer g f z e ≡ true
      → AllLong g.sector (sectors_of g d true e) × (length (sectors_of g d true e) ≡ suc (min (fill_of g (f.pointer z)) g.unit))
  unfolding parity_entries
  found_sectors z e i m q =
      let (whole, rows) = walked_rows g d true (w d parity_zone).sectors e m long in
      let (many, fit) = rows_at g d z (f.generation z) (f.pointer z) e.head ok (walked_fits g d true (w d parity_zone).sectors e m) q i in
      ((header_long g d e.head ok fit, long_all g.sector e.rows rows), ap suc (whole ∙ many))

  for_zone : (z : ℕ) → (length (sectors_for z) ≡ copy_size g f d z) × (z < g.zones → MadeOfSectors → AllLong g.sector (sectors_for z))
  for_zone z = go (is_copied g f d z) refl
    where
      Goal : Bool → Type 0
      Goal b = (length (concat (map (sectors_of g d true) (pick b (last_entry (is_at_pointer g f z) (made_entry g f z ∷ []) (parity_entries g w d)) []))) ≡ pick b (suc (min (fill_of g (f.pointer z)) g.unit)) 0)
          × (z < g.zones → MadeOfSectors → AllLong g.sector (concat (map (sectors_of g d true) (pick b (last_entry (is_at_pointer g f z) (made_entry g f z ∷ []) (parity_entries g w d)) []))))

      one : (e : Entry) → length (sectors_of g d true e) ≡ suc (min (fill_of g (f.pointer z)) g.unit) → length (sectors_of g d true e ++ []) ≡ suc (min (fill_of g (f.pointer z)) g.unit)
      one e q = length-append (sectors_of g d true e) [] ∙ omega (arith, q)

      go : (b : Bool) → is_copied g f d z ≡ b → Goal b
      go false q = (refl, λ hz h. tt)
      go true q = which (last_entry_lem (is_at_pointer g f z) (made_entry g f z ∷ []) (parity_entries g w d))
        where
          inside : inside_stripe g (f.pointer z) ≡ true
          inside = (and_split (inside_stripe g (f.pointer z)) (eqb d (parity_drive_at g z (f.pointer z))) q).0

          which : ((last_entry (is_at_pointer g f z) (made_entry g f z ∷ []) (parity_entries g w d) ≡ made_entry g f z ∷ []) × (any_of (is_at_pointer g f z) (parity_entries g w d) ≡ false))
              ⊎ ((e : Entry) × (last_entry (is_at_pointer g f z) (made_entry g f z ∷ []) (parity_entries g w d) ≡ e ∷ []) × Memᴰ e (parity_entries g w d) × (is_at_pointer g f z e ≡ true)) → Goal true
          which (inl (p, none)) = rw p (one (made_entry g f z) (entry_long g d z (f.generation z) (f.value z) (f.pointer z)), λ hz h. long_append g.sector (sectors_of g d true (made_entry g f z)) [] (made_long z (h z hz q none)) tt)
          which (inr (e, p, m, k)) = let (a, b) = found_sectors z e inside m k in rw p (one e b, λ hz h. long_append g.sector (sectors_of g d true e) [] a tt)

  all_zones : (n : ℕ) → n ≤ g.zones → (length (concat (map (sectors_of g d true) (each_below (λ z. pick (is_copied g f d z) (last_entry (is_at_pointer g f z) (made_entry g f z ∷ []) (parity_entries g w d)) []) n))) ≡ sum_below (copy_size g f d) n)
      × (MadeOfSectors → AllLong g.sector (concat (map (sectors_of g d true) (each_below (λ z. pick (is_copied g f d z) (last_entry (is_at_pointer g f z) (made_entry g f z ∷ []) (parity_entries g w d)) []) n))))
  all_zones zero l = (refl, λ h. tt)
  all_zones (suc n) l =
      let (a, b) = all_zones n (omega (arith, l)) in
      let (p, q) = for_zone n in
      let ones = each_below (λ z. pick (is_copied g f d z) (last_entry (is_at_pointer g f z) (made_entry g f z ∷ []) (parity_entries g w d)) []) n in
      let next = pick (is_copied g f d n) (last_entry (is_at_pointer g f n) (made_entry g f n ∷ []) (parity_entries g w d)) [] in
      let e : concat (map (sectors_of g d true) (ones ++ next)) ≡ concat (map (sectors_of g d true) ones) ++ sectors_for n = ap concat (map_append (sectors_of g d true) ones next) ∙ concat_append (map (sectors_of g d true) ones) (map (sectors_of g d true) next) in (
        ap (λ (ss : List (List ℕ)). length ss) e ∙ length-append (concat (map (sectors_of g d true) ones)) (sectors_for n) ∙ omega (arith, a, p),
        λ h. rw e (long_append g.sector (concat (map (sectors_of g d true) ones)) (sectors_for n) (b h) (q l h)),
      )

  pub new_parity_length : (r : Roles) → length (new_parity g f r d (parity_entries g w d)) ≡ new_parity_size g f d
  unfolding new_parity new_parity_size parity_copies
  new_parity_length r = length-append (concat (map (sectors_of g d true) (parity_copies g f d (parity_entries g w d)))) (closing_sector g true d r ∷ []) ∙ omega (arith, (all_zones g.zones (omega arith)).0)

  pub new_parity_long : (r : Roles) → MadeOfSectors → AllLong g.sector (new_parity g f r d (parity_entries g w d))
  unfolding new_parity parity_copies
  new_parity_long r h =
      long_append g.sector (concat (map (sectors_of g d true) (parity_copies g f d (parity_entries g w d)))) (closing_sector g true d r ∷ []) ((all_zones g.zones (omega arith)).1 h) (header_long g d (closing 1 (claim_of_kind true r)) ok tt, tt)

-- outside a mount an entry is made of known sectors (refusal 15)
pub made_of_known : (g : Geometry) (ok : Valid g) (present : ℕ → Bool) (w : Device) (longs : LongDevice g.sector w) (state : StateView) (d : ℕ) → gone_for_copies g present (by_state g present w state) w d ≡ false
    → MadeOfSectors g ok (by_state g present w state) w d (longs d parity_zone)
unfolding gone_for_copies
made_of_known g ok present w longs state d h z hz copied none a low high =
    let q = pointer_in (state.condition z) in
    let start = stripe_of g.drives g.unit q * stripe_sectors g in
    let unknown : ℕ → ℕ → Bool = λ y i. not (known g.drives g.unit y (zone_view g present w y (state.generation y)) (stripe_of g.drives g.unit (pointer_in (state.condition y)) * stripe_sectors g + i)) in
    let made : ℕ → Bool = λ y. is_made g (by_state g present w state) w d y && any_below (unknown y) (fill_of g (pointer_in (state.condition y))) in
    let all : any_below (unknown z) (fill_of g q) ≡ false = rw (copied, none) at (any_below_false made g.zones z h hz) in
    let some = not_not (known g.drives g.unit z (zone_view g present w z (state.generation z)) (start + (a - start))) (any_below_false (unknown z) (fill_of g q) (a - start) all (omega (arith, low, high))) in
    let e : start + (a - start) ≡ a = omega (arith, low) in
    known_value_long g ok present w longs z (state.generation z) a (rw e at some)
