-- Sectors of B bytes. Where all that a device holds are such, so are the rows of its logs' entries, and so is every value that rule 4 knows. The tables hold
-- nothing else, nor what their roles show of them.
use Rattle.std.specs.Prelude.{◌≡◌, ◌⊎◌, Bool, false, ◌&&◌, ◌||◌, get_or, drop, ltb, leb, eqb}
use Rattle.std.proofs.Math.Path.{refl, ap}
use Rattle.std.proofs.Common.{sym, ◌∙◌, inl, inr, true≢false, le_of_eq, not-suc-le-zero, arith, length-take, length-drop, ltb-true, eqb-true}
use Rattle.std.proofs.Math.Bool.{true}
use Prim.Native.Nat.{ℕ, zero, suc, ◌+◌, ◌-◌, ◌*◌, ◌≤◌, ◌<◌, min, zero-le}
use Rattle.std.proofs.Math.Decide.{ℕ_discrete, dec_lt}
use mathlib.Core.List.{List, [], ◌∷◌, Memᴰ}
use Rattle.std.proofs.Math.ListN.{length, get_or-eq_default}
use Rattle.tables.specs.declared.Geometry.{Geometry}
use Rattle.tables.specs.meaning.Basics.{pick}
use Rattle.tables.specs.laws.Basics.{and_split}
use Rattle.tables.specs.meaning.Below.{all_below, tabulate}
use Rattle.tables.specs.laws.Below.{get_d_tabulate}
use Rattle.tables.specs.laws.Lists.{mem_append}
use Rattle.tables.specs.meaning.Geometry.{Valid, physical_zones, stripe_sectors, data_zone}
use Rattle.tables.specs.meaning.Placement.{drive_of, sector_of, stripe_of, unit_index, row_index}
use Rattle.tables.specs.laws.Placement.{address_parts, row_index_below}
use Rattle.tables.specs.meaning.Device.{ZoneView, Device}
use Rattle.tables.specs.meaning.Tables.{Tables, device_of, zone_at_cell, cell, sector_at}
use Rattle.tables.specs.laws.Tables.{In, inside, outside, in_or_out, sector_in, device_in_lem, device_outside, device_length}
use Rattle.tables.specs.laws.Made.{WellSized}
use Rattle.tables.specs.laws.Within.{part_long}
use Rattle.tables.specs.meaning.Xor.{xor_bytes, xor_below, without}
use Rattle.tables.specs.laws.Xor.{xor_bytes_comm, xor_below_length, without_self, without_other, length_xor}
use Rattle.logs.specs.meaning.Entry.{parity_zone, Header, label, counters, zone_reset, partial_parity, seal, closing, Entry, rows_of, fits_log}
use Rattle.logs.specs.meaning.Walk.{walk_log}
use Rattle.logs.specs.code.Steps.{Stands, Placed}
use Rattle.logs.specs.laws.Legal.{legal_fits}
use Rattle.logs.specs.laws.Places.{walk_places, row_there}
use Rattle.volume.specs.meaning.Rules.{ParityEntry, View, Found, found, nothing, is_found, last_of, held_at, row_address, parity_of, row_drive, by_parity, serves, entry_for, known, others_xor, entry_xor, from_entry, seal_limit, serving_entry, serving_entries, parity_entries, view_of, zone_view, value_at}
use Rattle.volume.specs.meaning.Roles.{Roles, zone_of_role, says_nothing, seen_as, roles_in, drive_by_roles, by_roles}

abbrev pub Long : ℕ → List (List ℕ) → Type 0
Long B ss = (i : ℕ) → i < length ss → length (get_or ss i []) ≡ B

-- of a device, everywhere
abbrev pub LongDevice : ℕ → Device → Type 0
LongDevice B v = (d y : ℕ) → Long B (v d y).sectors

-- past their end nothing is read
pub long_most : (B : ℕ) (ss : List (List ℕ)) (i : ℕ) → Long B ss → length (get_or ss i []) ≤ B
long_most B ss i long = go (dec_lt i (length ss))
  where
    go : Dec (i < length ss) → length (get_or ss i []) ≤ B
    go (yes l) = le_of_eq (long i l)
    go (no l) = rw (get_or-eq_default ss [] {n = i} (omega arith)) zero-le

-- ---- the tables' device, and by its roles
sectors_are : (g : Geometry) (t : Tables) (d y : ℕ) → d < g.drives → y < physical_zones g
    → (device_of g t d y).sectors ≡ tabulate (λ n. sector_at g t.sectors d y n) (min (get_or t.written (cell g d y) 0) g.capacity)
unfolding zone_at_cell
sectors_are g t d y hd hy = ap (λ (x : ZoneView). x.sectors) (device_in_lem g t d y hd hy)

pub tables_long : (g : Geometry) (t : Tables) → WellSized g t → LongDevice g.sector (device_of g t)
tables_long g t sized d y = go (in_or_out g d y)
  where
    go : In g d y → Long g.sector (device_of g t d y).sectors
    go (outside q) i l = absurd (not-suc-le-zero (rw (device_outside g t d y q) at l))
    go (inside hd hy q) i l =
        let n = device_length g t d y hd hy in
        let m = min (get_or t.written (cell g d y) 0) g.capacity in
        ap (λ (ss : List (List ℕ)). length (get_or ss i [])) (sectors_are g t d y hd hy)
        ∙ ap (λ (s : List ℕ). length s) (get_d_tabulate (λ n. sector_at g t.sectors d y n) m i [] (omega (arith, l, n)))
        ∙ part_long t.sectors ((cell g d y * g.capacity + i) * g.sector) g.sector (omega (arith, sized.sectors_long, sector_in g d y i hd hy (omega (arith, l, n))))

seen_long : (B : ℕ) (r : Roles) (zs : ℕ → ZoneView) (y : ℕ) → ((y : ℕ) → Long B (zs y).sectors) → Long B (seen_as r zs y).sectors
seen_long B r zs y long = go (eqb y 0 && eqb r.general_claim 0 || (eqb y 1 && eqb r.parity_claim 0))
  where
    go : (b : Bool) → Long B (pick b (says_nothing (zs (zone_of_role r y))) (zs (zone_of_role r y))).sectors
    go true i l = absurd (not-suc-le-zero l)
    go false i l = long (zone_of_role r y) i l

pub by_roles_long : (g : Geometry) (v : Device) → LongDevice g.sector v → LongDevice g.sector (by_roles g v)
unfolding drive_by_roles
by_roles_long g v long d y = seen_long g.sector (roles_in g d (λ y. (v d y).sectors)) (v d) y (long d)

-- ---- entries of a log
stands_mem : (g : Geometry) (d : ℕ) (par : Bool) (ss : List (List ℕ)) (es : List Entry) (p : ℕ) (e : Entry) → Placed g d par ss p es → Memᴰ e es → (q : ℕ) × Stands g d par ss q e
stands_mem g d par ss (x ∷ es) p e l (Memᴰ.head q) = (p, rw q l.0)
stands_mem g d par ss (x ∷ es) p e l (Memᴰ.tail m) = stands_mem g d par ss es (p + suc (rows_of g x.head)) e l.1 m
stands_mem g d par ss [] p e l x'' = elim x'' [ ]

-- an entry that the walk meets has all its rows, and these are sectors of the log
pub walked_rows : (g : Geometry) (d : ℕ) (par : Bool) (ss : List (List ℕ)) (e : Entry) → Memᴰ e (walk_log g d par ss).entries → Long g.sector ss
    → (length e.rows ≡ rows_of g e.head) × Long g.sector e.rows
walked_rows g d par ss e m long =
    let (p, s) = stands_mem g d par ss (walk_log g d par ss).entries zero e (walk_places g d par ss).placed m in
    let n = rows_of g e.head in
    let whole : length e.rows ≡ n = ap (λ (rs : List (List ℕ)). length rs) s.rows_are ∙ length-take n (drop (suc p) ss) ∙ rw (length-drop (suc p) ss) (omega (arith, s.within)) in
    (whole, λ i l. ap (λ (r : List ℕ). length r) (row_there g d par ss p i e s (omega (arith, l, whole))) ∙ long (suc p + i) (omega (arith, s.within, l, whole)))

-- and a header that fits its log
pub walked_fits : (g : Geometry) (d : ℕ) (par : Bool) (ss : List (List ℕ)) (e : Entry) → Memᴰ e (walk_log g d par ss).entries → fits_log g d par e.head ≡ true
walked_fits g d par ss e m =
    let (p, s) = stands_mem g d par ss (walk_log g d par ss).entries zero e (walk_places g d par ss).placed m in
    legal_fits g d par (get_or ss p []) e.head s.reads

-- ---- values
-- the last entry that passes is one of them, and passes
last_is_lem : (p : ParityEntry → Bool) (es : List ParityEntry) (e : ParityEntry) → last_of p es ≡ found e → Memᴰ e es × (p e ≡ true)
last_is_lem p [] e q = absurd (let z : ◌≡◌ {A = ℕ} 0 1 = cc in omega arith)
last_is_lem p (x ∷ es) e q = go (last_of p es) refl (p x) refl (λ r. last_is_lem p es e r)
  where
    go : (o : Found) → last_of p es ≡ o → (b : Bool) → p x ≡ b → (last_of p es ≡ found e → Memᴰ e es × (p e ≡ true)) → Memᴰ e (x ∷ es) × (p e ≡ true)
    go (found y) r b s ih = let (m, k) = ih (r ∙ (rw (r, last_of) at q)) in (Memᴰ.tail m, k)
    go nothing r true s ih =
        let m : found x ≡ found e = rw (r, s) at q in
        let n : e ≡ x = cc in
        (Memᴰ.head n, rw n s)
    go nothing r false s ih =
        let m : nothing ≡ found e = rw (r, s) at q in
        absurd (let z : ◌≡◌ {A = ℕ} 0 1 = cc in omega arith)

-- an entry that serves is one of type 4 of the log
pub record Serving (g : Geometry) (es : List Entry) (e : ParityEntry) : Type 0 where
  pub entry : Entry
  pub zone : ℕ
  pub fill : ℕ
  pub round : ℕ
  pub in_log : Memᴰ entry es
  pub head_is : entry.head ≡ partial_parity zone e.stripe fill round
  pub end_is : e.end ≡ e.stripe * stripe_sectors g + fill
  pub rows_are : (r : ℕ) → e.rows r ≡ get_or entry.rows r []

serving_one : (g : Geometry) (z n limit : ℕ) (x : Entry) (e : ParityEntry) (h : Header) → x.head ≡ h → Memᴰ e (serving_entry g z n limit h x.rows) → Serving g (x ∷ []) e
serving_one g z n limit x e (partial_parity y s f m) q k = go (eqb y z && (eqb m n && leb (s * stripe_sectors g + f) limit)) k
  where
    it : ParityEntry
    it = record { stripe = s; end = s * stripe_sectors g + f; rows = λ r. get_or x.rows r [] }

    go : (b : Bool) → Memᴰ e (pick b (it ∷ []) []) → Serving g (x ∷ []) e
    go true (Memᴰ.head p) = rw p (record { entry = x; zone = y; fill = f; round = m; in_log = Memᴰ.head refl; head_is = q; end_is = refl; rows_are = λ r. refl })
    go false x4 = elim x4 [ ]
    go true (mathlib.Core.List.Memᴰ.tail x9) = elim x9 [ ]
serving_one g z n limit x e (label _ _) q k = elim k [ ]
serving_one g z n limit x e (counters _) q k = elim k [ ]
serving_one g z n limit x e (zone_reset _ _) q k = elim k [ ]
serving_one g z n limit x e (seal _ _ _) q k = elim k [ ]
serving_one g z n limit x e (closing _ _) q k = elim k [ ]

more_serving : (g : Geometry) (xs es : List Entry) (e : ParityEntry) → ((x : Entry) → Memᴰ x xs → Memᴰ x es) → Serving g xs e → Serving g es e
more_serving g xs es e h s = record { entry = s.entry; zone = s.zone; fill = s.fill; round = s.round; in_log = h s.entry s.in_log; head_is = s.head_is; end_is = s.end_is; rows_are = s.rows_are }

serving_mem : (g : Geometry) (z n limit : ℕ) (es : List Entry) (e : ParityEntry) → Memᴰ e (serving_entries g z n limit es) → Serving g es e
serving_mem g z n limit (x ∷ es) e m = go (mem_append (serving_entry g z n limit x.head x.rows) (serving_entries g z n limit es) e m) (λ k. serving_mem g z n limit es e k)
  where
    first : (y : Entry) → Memᴰ y (x ∷ []) → Memᴰ y (x ∷ es)
    first y (Memᴰ.head q) = Memᴰ.head q
    first y (mathlib.Core.List.Memᴰ.tail x6) = elim x6 [ ]

    go : Memᴰ e (serving_entry g z n limit x.head x.rows) ⊎ Memᴰ e (serving_entries g z n limit es) → (Memᴰ e (serving_entries g z n limit es) → Serving g es e) → Serving g (x ∷ es) e
    go (inl k) ih = more_serving g (x ∷ []) (x ∷ es) e first (serving_one g z n limit x e x.head refl k)
    go (inr k) ih = more_serving g es (x ∷ es) e (λ y l. Memᴰ.tail l) (ih k)
serving_mem g z n limit [] e m = elim m [ ]

xor_full : (n : ℕ) (xs ys : List ℕ) → length xs ≤ n → length ys ≡ n → length (xor_bytes xs ys) ≡ n
xor_full n xs ys h e = ap (λ (l : List ℕ). length l) (xor_bytes_comm xs ys) ∙ length_xor ys xs (omega (arith, h, e)) ∙ e

module _ (g : Geometry) (ok : Valid g) (present : ℕ → Bool) (v : Device) (long : LongDevice g.sector v) (z n : ℕ) where
  abbrev D : ℕ
  D = g.drives

  abbrev U : ℕ
  U = g.unit

  abbrev seen : View
  seen = zone_view g present v z n

  abbrev at : ℕ → ℕ → List ℕ
  at d x = get_or (v d (data_zone z)).sectors x []

  -- others of a row, added up, are no longer than a sector
  added_most : (f : ℕ → List ℕ) (i k : ℕ) → ((j : ℕ) → length (f j) ≤ g.sector) → length (xor_below (without f i) k) ≤ g.sector
  added_most f i k h = xor_below_length g.sector (without f i) k (λ j l. go j (ℕ_discrete j i))
    where
      go : (j : ℕ) → Dec (j ≡ i) → length (without f i j) ≤ g.sector
      go j (yes q) = let w : without f i j ≡ [] = ap (λ (m : ℕ). without f i m) q ∙ without_self f i in rw w zero-le
      go j (no q) = rw (without_other f i j q) (h j)

  pick_most : (b : Bool) (s : List ℕ) → length s ≤ g.sector → length (pick b s []) ≤ g.sector
  pick_most true s h = h
  pick_most false s h = zero-le

  held_long : (d x : ℕ) → present d && ltb x (length (v d (data_zone z)).sectors) ≡ true → length (at d x) ≡ g.sector
  held_long d x h = long d (data_zone z) x (ltb-true x (length (v d (data_zone z)).sectors) (and_split (present d) (ltb x (length (v d (data_zone z)).sectors)) h).1)

  -- an entry of a's stripe that ends past a has a's row
  row_long : (a : ℕ) (e : ParityEntry) → Serving g (parity_entries g v (parity_of D U z a)) e → e.stripe ≡ stripe_of D U a → a < e.end → length (e.rows (row_index D U a)) ≡ g.sector
  unfolding parity_entries
  row_long a e s q l =
      let p = parity_of D U z a in
      let (whole, rows) = walked_rows g p true (v p parity_zone).sectors s.entry s.in_log (long p parity_zone) in
      let parts = address_parts D U zero (omega (arith, ok.drives_least)) ok.unit_least a in
      let most : length s.entry.rows ≡ min s.fill U = whole ∙ ap (rows_of g) s.head_is in
      let stripe = ap (λ (x : ℕ). x * stripe_sectors g) q in
      ap (λ (r : List ℕ). length r) (s.rows_are (row_index D U a))
      ∙ rows (row_index D U a) (omega (arith, most, row_index_below D U zero (omega (arith, ok.drives_least)) ok.unit_least a, parts, l, s.end_is, stripe))

  -- EVERY KNOWN VALUE is B bytes
  pub known_value_long : (a : ℕ) → known D U z (zone_view g present v z n) a ≡ true → length (value_at g present v z n a) ≡ g.sector
  unfolding value_at zone_view view_of
  known_value_long a h = go (held_at seen (drive_of D U z a) (sector_of D U a)) refl (by_parity D U z seen a) refl (entry_for D U z seen a) refl h
    where
      p : ℕ
      p = parity_of D U z a

      x : ℕ
      x = sector_of D U a

      others : length (others_xor D U z seen a) ≤ g.sector
      others = added_most (λ k. at (row_drive D U z a k) x) (unit_index D U a) (D - 1) (λ j. long_most g.sector (v (row_drive D U z a j) (data_zone z)).sectors x (long (row_drive D U z a j) (data_zone z)))

      below : (e : ParityEntry) → length (entry_xor D U z seen a e) ≤ g.sector
      below e =
          added_most (λ k. pick (ltb (row_address D U a k) e.end) (at (row_drive D U z a k) x) []) (unit_index D U a) (D - 1)
          (λ j. pick_most (ltb (row_address D U a j) e.end) (at (row_drive D U z a j) x) (long_most g.sector (v (row_drive D U z a j) (data_zone z)).sectors x (long (row_drive D U z a j) (data_zone z))))

      by_entry_lem : (e : ParityEntry) (b : Bool) → present p ≡ b → pick b (last_of (serves D U z seen a) (seen.entries p)) nothing ≡ found e → length (e.rows (row_index D U a)) ≡ g.sector
      by_entry_lem e false q r = absurd (let y : ◌≡◌ {A = ℕ} 0 1 = cc in omega arith)
      by_entry_lem e true q r =
          let (m, s) = last_is_lem (serves D U z seen a) (seen.entries p) e r in
          let (first, rest) = and_split (eqb e.stripe (stripe_of D U a) && ltb a e.end) (all_below (λ k. eqb k (unit_index D U a) || (leb e.end (row_address D U a k) || held_at seen (row_drive D U z a k) x)) (D - 1)) s in
          let (stripe, past) = and_split (eqb e.stripe (stripe_of D U a)) (ltb a e.end) first in
          row_long a e (serving_mem g z n (seal_limit g present v z n) (parity_entries g v p) e m) (eqb-true e.stripe (stripe_of D U a) stripe) (ltb-true a e.end past)

      go : (b : Bool) → held_at seen (drive_of D U z a) x ≡ b → (c : Bool) → by_parity D U z seen a ≡ c → (o : Found) → entry_for D U z seen a ≡ o → b || (c || is_found o) ≡ true
          → length (pick b (at (drive_of D U z a) x) (pick c (xor_bytes (others_xor D U z seen a) (at p x)) (from_entry D U z seen a o))) ≡ g.sector
      go true q c r o s t = held_long (drive_of D U z a) x q
      go false q true r o s t = xor_full g.sector (others_xor D U z seen a) (at p x) others (held_long p x (and_split (held_at seen p x) (all_below (λ k. eqb k (unit_index D U a) || held_at seen (row_drive D U z a k) x) (D - 1)) r).0)
      go false q false r (found e) s t = xor_full g.sector (entry_xor D U z seen a e) (e.rows (row_index D U a)) (below e) (by_entry_lem e (present p) refl s)
      go false q false r nothing s t = absurd (true≢false (sym t))
