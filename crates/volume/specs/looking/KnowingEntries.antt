-- Which partial parity entry serves a sector: the last one of its zone and generation that ends past the sector, and at most at its row's reach and at
-- the least current seal. That this is rule 4's choice; and what rule 4 makes of it, by each of the three ways.
use Rattle.std.specs.Prelude.{◌≡◌, ◌≢◌, ◌⊎◌, Bool, ◌&&◌, ◌||◌, ℕ, zero, suc, ◌+◌, ◌-◌, ◌*◌, ◌≤◌, ◌<◌, min, List, [], ◌∷◌, ◌++◌, map, get_or, ltb, leb, eqb}
use Rattle.std.proofs.Math.Path.{refl, ap, ap₂}
use Rattle.std.proofs.Common.{sym, ◌∙◌, inl, inr, mul-le-mul_right, suc-mul, arith, ltb-true, eq-eqb, ne_eqb}
use Rattle.std.proofs.Math.Bool.{true, false, not}
use Rattle.std.proofs.Math.Decide.{dec_lt, ℕ_discrete}
use Rattle.tables.specs.declared.Geometry.{Geometry}
use Rattle.tables.specs.meaning.Basics.{pick}
use Rattle.tables.specs.laws.Basics.{and_split, or_none}
use Rattle.tables.specs.meaning.Below.{all_below}
use Rattle.tables.specs.meaning.Lists.{any_of}
use Rattle.tables.specs.meaning.Geometry.{Valid, stripe_sectors, zone_sectors, parity_drive_of}
use Rattle.tables.specs.meaning.Placement.{sector_of, unit_index, stripe_of, drive_of}
use Rattle.tables.specs.laws.Placement.{drive_below}
use Rattle.tables.specs.meaning.Tables.{cell}
use Rattle.logs.specs.meaning.Entry.{Header, label, counters, zone_reset, partial_parity, seal, closing, Entry, parity_zone, rows_of, fits_log}
use Rattle.logs.specs.laws.Entry.{decode_legal}
use Rattle.logs.specs.laws.Heads.{ends_within}
use Rattle.logs.specs.meaning.Walk.{walk_log}
use Rattle.logs.specs.code.WalkCode.{log_sectors}
use Rattle.logs.specs.code.Query.{head_of, heads_of}
use Rattle.logs.specs.code.Steps.{Stands, Placed}
use Rattle.logs.specs.laws.Places.{last_place, LastSuch, last_place_lem, walk_places}
use Rattle.volume.specs.declared.knowing.Source.TheVariants.{Unknown, Held, Row}
use Rattle.volume.specs.meaning.Rules.{ParityEntry, Found, found, nothing, or_else, is_found, last_of, held_at, parity_of, row_drive, row_address, serves, entry_for, known, seal_limit, serving_entry, serving_entries, parity_entries, view_of, zone_view}
use Rattle.volume.specs.meaning.CallContracts.{is_set}
use Rattle.volume.specs.looking.Knowing.{read_device, Readable, held_on, stripe_end, reach_of, serving_place, row_complete, source_of, has_source}
use Rattle.volume.specs.looking.KnowingLaws.{leb_min, stripe_end_small, parity_in, entries_are, held_is, reach_is, reach_most, stripe_end_is, by_parity_is}
use Rattle.volume.specs.declared.knowing.Source.TheVariants as way

-- ---- an entry as rule 4 reads it
abbrev pub stripe_in : Header → ℕ
stripe_in (label x a) = zero
stripe_in (counters cs) = zero
stripe_in (zone_reset y m) = zero
stripe_in (partial_parity y s f m) = s
stripe_in (seal y p m) = zero
stripe_in (closing kind gen) = zero

abbrev pub end_in : Geometry → Header → ℕ
end_in g (label x a) = zero
end_in g (counters cs) = zero
end_in g (zone_reset y m) = zero
end_in g (partial_parity y s f m) = s * stripe_sectors g + f
end_in g (seal y p m) = zero
end_in g (closing kind gen) = zero

abbrev pub parity_entry_of : Geometry → Header → List (List ℕ) → ParityEntry
parity_entry_of g h rs = record { stripe = stripe_in h; end = end_in g h; rows = λ r. get_or rs r [] }

-- ---- the last that passes
or_nothing : (o : Found) → o ≡ or_else o nothing
or_nothing (found e) = refl
or_nothing nothing = refl

filtered : (p : ParityEntry → Bool) (a b c : Bool) (x : ParityEntry) (rest : List ParityEntry)
    → last_of p (pick (a && (b && c)) (x ∷ []) [] ++ rest) ≡ or_else (last_of p rest) (pick (a && (b && (c && p x))) (found x) nothing)
filtered p true true true x rest = refl
filtered p true true false x rest = or_nothing (last_of p rest)
filtered p true false c x rest = or_nothing (last_of p rest)
filtered p false b c x rest = or_nothing (last_of p rest)

-- an end strictly inside a stripe that lies past a and at most at the end of its stripe is of that stripe
pub same_stripe : (K s t f a : ℕ) → zero < f → f < K → t * K ≤ a → a < s * K + f → s * K + f ≤ t * K + K → s ≡ t
same_stripe K s t f a pos less low past most = go (dec_lt s t) (dec_lt t s)
  where
    go : Dec (s < t) → Dec (t < s) → s ≡ t
    go (yes h) q = absurd (let m : suc s * K ≤ t * K = mul-le-mul_right K h in omega (arith, rw suc-mul at m))
    go (no h) (yes k) = absurd (let m : suc t * K ≤ s * K = mul-le-mul_right K k in omega (arith, rw suc-mul at m))
    go (no h) (no k) = omega arith

-- an entry of a parity log ends strictly inside its stripe
pub partial_inside : (g : Geometry) (d y s f m : ℕ) → fits_log g d true (partial_parity y s f m) ≡ true → (zero < f) × (f < stripe_sectors g)
partial_inside g d y s f m h =
    let t = eqb d (parity_drive_of g y s) in
    let (a, b) = and_split (ltb y g.zones) (ltb (s * stripe_sectors g) (zone_sectors g) && (ltb 0 f && (ltb f (stripe_sectors g) && t))) h in
    let (c, e) = and_split (ltb (s * stripe_sectors g) (zone_sectors g)) (ltb 0 f && (ltb f (stripe_sectors g) && t)) b in
    let (k, l) = and_split (ltb 0 f) (ltb f (stripe_sectors g) && t) e in
    let (q, w) = and_split (ltb f (stripe_sectors g)) t l in
    (ltb-true 0 f k, ltb-true f (stripe_sectors g) q)

module _ (g : Geometry) (here : List Bool) (xs ws : List ℕ) (z : ℕ) (r : Readable g here xs ws z) (ok : Valid g) (n a : ℕ) (ha : a < zone_sectors g) where
  -- THE ENTRIES THAT SERVE, by their ends
  serves_is : (limit s f : ℕ) (rows : ℕ → List ℕ) → zero < f → f < stripe_sectors g
      → leb (s * stripe_sectors g + f) limit && serves g.drives g.unit z (zone_view g (is_set here) (read_device g xs ws) z n) a (record { stripe = s; end = s * stripe_sectors g + f; rows = rows })
      ≡ ltb a (s * stripe_sectors g + f) && leb (s * stripe_sectors g + f) (min limit (reach_of g here ws z a))
  serves_is limit s f rows pos less = go (ℕ_discrete s (stripe_of g.drives g.unit a))
    where
      all : Bool
      all = all_below (λ k. eqb k (unit_index g.drives g.unit a) || (leb (s * stripe_sectors g + f) (row_address g.drives g.unit a k) || held_at (zone_view g (is_set here) (read_device g xs ws) z n) (row_drive g.drives g.unit z a k) (sector_of g.drives g.unit a))) (g.drives - 1)

      turn : (p q t : Bool) → p && (true && q && t) ≡ q && (p && t)
      turn true true t = refl
      turn true false t = refl
      turn false true t = refl
      turn false false t = refl

      none : (p q t : Bool) → p && (false && q && t) ≡ false
      none true q t = refl
      none false q t = refl

      bounds : (stripe_of g.drives g.unit a * stripe_sectors g ≤ a) × (a < stripe_end g a) × (stripe_end g a ≤ 458864)
      bounds = stripe_end_small g a ok ha

      end_is : stripe_end g a ≡ stripe_of g.drives g.unit a * stripe_sectors g + stripe_sectors g
      end_is = stripe_end_is g a

      outside : s ≢ stripe_of g.drives g.unit a → (b c : Bool) → ltb a (s * stripe_sectors g + f) ≡ b → leb (s * stripe_sectors g + f) (min limit (reach_of g here ws z a)) ≡ c → b && c ≡ false
      outside ne true true p q =
          let (u, v) = and_split (leb (s * stripe_sectors g + f) limit) (leb (s * stripe_sectors g + f) (reach_of g here ws z a)) (sym (leb_min (s * stripe_sectors g + f) limit (reach_of g here ws z a)) ∙ q) in
          absurd (ne (same_stripe (stripe_sectors g) s (stripe_of g.drives g.unit a) f a pos less bounds.0 (ltb-true a (s * stripe_sectors g + f) p) (omega (arith, end_is, reach_most g here xs ws z r ok n a (s * stripe_sectors g + f) v))))
      outside ne true false p q = refl
      outside ne false c p q = refl

      go : Dec (s ≡ stripe_of g.drives g.unit a)
          → leb (s * stripe_sectors g + f) limit && serves g.drives g.unit z (zone_view g (is_set here) (read_device g xs ws) z n) a (record { stripe = s; end = s * stripe_sectors g + f; rows = rows })
          ≡ ltb a (s * stripe_sectors g + f) && leb (s * stripe_sectors g + f) (min limit (reach_of g here ws z a))
      go (yes q) =
          let h : s * stripe_sectors g + f ≤ stripe_end g a = omega (arith, end_is, ap (λ (t : ℕ). t * stripe_sectors g) q) in
          ap (λ (b : Bool). leb (s * stripe_sectors g + f) limit && (b && ltb a (s * stripe_sectors g + f) && all)) (eq-eqb s (stripe_of g.drives g.unit a) q)
          ∙ turn (leb (s * stripe_sectors g + f) limit) (ltb a (s * stripe_sectors g + f)) all
          ∙ ap (λ (b : Bool). ltb a (s * stripe_sectors g + f) && (leb (s * stripe_sectors g + f) limit && b)) (sym (reach_is g here xs ws z r ok n a (s * stripe_sectors g + f) h))
          ∙ ap (λ (b : Bool). ltb a (s * stripe_sectors g + f) && b) (sym (leb_min (s * stripe_sectors g + f) limit (reach_of g here ws z a)))
      go (no q) =
          ap (λ (b : Bool). leb (s * stripe_sectors g + f) limit && (b && ltb a (s * stripe_sectors g + f) && all)) (ne_eqb s (stripe_of g.drives g.unit a) q)
          ∙ none (leb (s * stripe_sectors g + f) limit) (ltb a (s * stripe_sectors g + f)) all
          ∙ sym (outside q (ltb a (s * stripe_sectors g + f)) (leb (s * stripe_sectors g + f) (min limit (reach_of g here ws z a))) refl refl)

  -- ---- entries that fit the parity log
  abbrev AllFit : List Entry → Type 0
  AllFit [] = Unit {0}
  AllFit (e ∷ es) = (fits_log g (parity_of g.drives g.unit z a) true e.head ≡ true) × AllFit es

  placed_fit : (ss : List (List ℕ)) (p : ℕ) (es : List Entry) → Placed g (parity_of g.drives g.unit z a) true ss p es → AllFit es
  placed_fit ss p [] l = tt
  placed_fit ss p (e ∷ es) l = ((decode_legal g (parity_of g.drives g.unit z a) true (get_or ss p []) e.head l.0.reads).1, placed_fit ss (p + suc (rows_of g e.head)) es l.1)

  -- one more entry
  serves_more : (limit : ℕ) (h : Header) (rs : List (List ℕ)) (rest : List ParityEntry) → fits_log g (parity_of g.drives g.unit z a) true h ≡ true
      → last_of (serves g.drives g.unit z (zone_view g (is_set here) (read_device g xs ws) z n) a) (serving_entry g z n limit h rs ++ rest)
      ≡ or_else (last_of (serves g.drives g.unit z (zone_view g (is_set here) (read_device g xs ws) z n) a) rest) (pick (ends_within g z n a (min limit (reach_of g here ws z a)) h) (found (parity_entry_of g h rs)) nothing)
  serves_more limit (label x y) rs rest fit = or_nothing (last_of (serves g.drives g.unit z (zone_view g (is_set here) (read_device g xs ws) z n) a) rest)
  serves_more limit (counters cs) rs rest fit = or_nothing (last_of (serves g.drives g.unit z (zone_view g (is_set here) (read_device g xs ws) z n) a) rest)
  serves_more limit (zone_reset y m) rs rest fit = or_nothing (last_of (serves g.drives g.unit z (zone_view g (is_set here) (read_device g xs ws) z n) a) rest)
  serves_more limit (seal y p m) rs rest fit = or_nothing (last_of (serves g.drives g.unit z (zone_view g (is_set here) (read_device g xs ws) z n) a) rest)
  serves_more limit (closing kind gen) rs rest fit = or_nothing (last_of (serves g.drives g.unit z (zone_view g (is_set here) (read_device g xs ws) z n) a) rest)
  serves_more limit (partial_parity y s f m) rs rest fit =
      let e = s * stripe_sectors g + f in
      let v = zone_view g (is_set here) (read_device g xs ws) z n in
      let x : ParityEntry = parity_entry_of g (partial_parity y s f m) rs in
      let k = partial_inside g (parity_of g.drives g.unit z a) y s f m fit in
      filtered (serves g.drives g.unit z v a) (eqb y z) (eqb m n) (leb e limit) x rest
      ∙ ap (λ (b : Bool). or_else (last_of (serves g.drives g.unit z v a) rest) (pick (eqb y z && (eqb m n && b)) (found x) nothing)) (serves_is limit s f (λ i. get_or rs i []) k.0 k.1)

  abbrev chosen : ℕ → List Entry → Found
  chosen limit es = last_of (serves g.drives g.unit z (zone_view g (is_set here) (read_device g xs ws) z n) a) (serving_entries g z n limit es)

  serving_none : (limit : ℕ) (es : List Entry) → AllFit es → any_of (ends_within g z n a (min limit (reach_of g here ws z a))) (map head_of es) ≡ false → chosen limit es ≡ nothing
  serving_none limit [] fit h = refl
  serving_none limit (e ∷ es) fit h =
      let t = ends_within g z n a (min limit (reach_of g here ws z a)) in
      let (p, q) = or_none (t e.head) (any_of t (map head_of es)) h in
      serves_more limit e.head e.rows (serving_entries g z n limit es) fit.0
      ∙ ap₂ (λ (o : Found) (b : Bool). or_else o (pick b (found (parity_entry_of g e.head e.rows)) nothing)) (serving_none limit es fit.1 q) p

  serving_some : (limit : ℕ) (before : List Entry) (e : Entry) (after : List Entry) → AllFit (before ++ (e ∷ after))
      → ends_within g z n a (min limit (reach_of g here ws z a)) e.head ≡ true → any_of (ends_within g z n a (min limit (reach_of g here ws z a))) (map head_of after) ≡ false
      → chosen limit (before ++ (e ∷ after)) ≡ found (parity_entry_of g e.head e.rows)
  serving_some limit [] e after fit h none =
      serves_more limit e.head e.rows (serving_entries g z n limit after) fit.0
      ∙ ap₂ (λ (o : Found) (b : Bool). or_else o (pick b (found (parity_entry_of g e.head e.rows)) nothing)) (serving_none limit after fit.1 none) h
  serving_some limit (b ∷ before) e after fit h none =
      serves_more limit b.head b.rows (serving_entries g z n limit (before ++ (e ∷ after))) fit.0
      ∙ ap (λ (o : Found). or_else o (pick (ends_within g z n a (min limit (reach_of g here ws z a)) b.head) (found (parity_entry_of g b.head b.rows)) nothing)) (serving_some limit before e after fit.1 h none)

  -- ---- the drive of the parity log that may hold it, that log's sectors and entries
  abbrev pub host : ℕ
  host = parity_of g.drives g.unit z a

  abbrev pub host_log : List (List ℕ)
  host_log = log_sectors g host parity_zone xs (get_or ws (cell g host parity_zone) 0)

  abbrev log_entries : List Entry
  log_entries = (walk_log g host true host_log).entries

  -- the least current seal; the entries that end past the sector, and at most there and at the row's reach
  abbrev pub sealed : ℕ
  sealed = seal_limit g (is_set here) (read_device g xs ws) z n

  abbrev pub in_reach : Header → Bool
  in_reach = ends_within g z n a (min sealed (reach_of g here ws z a))

  -- the entry by rule 4, and where the code finds it (one past its sector, or 0)
  abbrev pub chosen_entry : Found
  chosen_entry = entry_for g.drives g.unit z (zone_view g (is_set here) (read_device g xs ws) z n) a

  abbrev pub place_found : ℕ
  place_found = serving_place g here xs ws z n sealed a

  -- ---- the choice, as the rule and as the code make it
  entry_present : is_set here host ≡ true → chosen_entry ≡ chosen sealed (parity_entries g (read_device g xs ws) host)
  unfolding zone_view view_of
  entry_present h = ap (λ (b : Bool). pick b (last_of (serves g.drives g.unit z (zone_view g (is_set here) (read_device g xs ws) z n) a) (serving_entries g z n sealed (parity_entries g (read_device g xs ws) host))) nothing) h

  entry_absent : is_set here host ≡ false → chosen_entry ≡ nothing
  unfolding zone_view view_of
  entry_absent h = ap (λ (b : Bool). pick b (last_of (serves g.drives g.unit z (zone_view g (is_set here) (read_device g xs ws) z n) a) (serving_entries g z n sealed (parity_entries g (read_device g xs ws) host))) nothing) h

  place_present : (limit : ℕ) → is_set here host ≡ true → serving_place g here xs ws z n limit a ≡ last_place g (ends_within g z n a (min limit (reach_of g here ws z a))) 0 0 (heads_of (walk_log g host true host_log))
  unfolding serving_place
  place_present limit h = ap (λ (b : Bool). pick b (last_place g (ends_within g z n a (min limit (reach_of g here ws z a))) 0 0 (heads_of (walk_log g host true host_log))) 0) h

  place_absent : (limit : ℕ) → is_set here host ≡ false → serving_place g here xs ws z n limit a ≡ 0
  unfolding serving_place
  place_absent limit h = ap (λ (b : Bool). pick b (last_place g (ends_within g z n a (min limit (reach_of g here ws z a))) 0 0 (heads_of (walk_log g host true host_log))) 0) h

  -- the entry that serves stands at sector q of the log
  pub record Serving (q : ℕ) : Type 0 where
    pub entry : Entry
    pub present : is_set here host ≡ true
    pub stands : Stands g host true host_log q entry
    pub passes : in_reach entry.head ≡ true
    pub chosen_is : chosen_entry ≡ found (parity_entry_of g entry.head entry.rows)

  -- none serves, or one does and is found
  abbrev pub Served : Type 0
  Served = ((place_found ≡ 0) × (chosen_entry ≡ nothing)) ⊎ ((q : ℕ) × Serving q × (place_found ≡ q + 1))

  abbrev Last : Type 0
  Last =
      ((any_of in_reach (map head_of log_entries) ≡ false) × (last_place g in_reach zero zero (map head_of log_entries) ≡ zero))
      ⊎ ((q : ℕ) × LastSuch g host true host_log in_reach log_entries q × (last_place g in_reach zero zero (map head_of log_entries) ≡ q + 1))

  -- THE LAST ENTRY THAT SERVES is the one that the code finds
  pub serving_is : Served
  serving_is = go (is_set here host) refl
    where
      fit : AllFit log_entries
      fit = placed_fit host_log zero log_entries (walk_places g host true host_log).placed

      here_is : is_set here host ≡ true → chosen_entry ≡ chosen sealed log_entries
      here_is h = entry_present h ∙ ap (chosen sealed) (entries_are g here xs ws z r host (parity_in g z a ok) h)

      by : is_set here host ≡ true → Last → Served
      by h (inl (none, p)) = inl (place_present sealed h ∙ p, here_is h ∙ serving_none sealed log_entries fit none)
      by h (inr (q, l, p)) =
          let m = ap (chosen sealed) l.split in
          let f : AllFit (l.before ++ (l.entry ∷ l.after)) = rw l.split at fit in
          inr (q, record { entry = l.entry; present = h; stands = l.stands; passes = l.passes; chosen_is = here_is h ∙ m ∙ serving_some sealed l.before l.entry l.after f l.passes l.none_after }, place_present sealed h ∙ p)

      go : (b : Bool) → is_set here host ≡ b → Served
      go true h = by h (last_place_lem g host true host_log in_reach log_entries zero zero (walk_places g host true host_log).placed)
      go false h = inl (place_absent sealed h, entry_absent h)

  found_is : is_found chosen_entry ≡ not (eqb place_found 0)
  found_is = go serving_is
    where
      go : Served → is_found chosen_entry ≡ not (eqb place_found 0)
      go (inl (p, e)) = ap is_found e ∙ sym (ap not (eq-eqb place_found 0 p))
      go (inr (q, s, p)) = ap is_found s.chosen_is ∙ sym (ap not (ne_eqb place_found 0 (λ e. omega (arith, e, p))))

  -- WHEN A SECTOR IS KNOWN
  pub known_is : known g.drives g.unit z (zone_view g (is_set here) (read_device g xs ws) z n) a ≡ has_source (source_of g here xs ws z n (seal_limit g (is_set here) (read_device g xs ws) z n) a)
  unfolding source_of
  known_is =
      ap₂ (λ (p q : Bool). p || q) (held_is g here xs ws z r n (drive_of g.drives g.unit z a) (sector_of g.drives g.unit a) (drive_below g.drives g.unit z (omega (arith, ok.drives_least)) ok.unit_least a))
      (ap₂ (λ (p q : Bool). p || q) (by_parity_is g here xs ws z r ok n a) found_is)
      ∙ ways (held_on g here ws z (drive_of g.drives g.unit z a) (sector_of g.drives g.unit a)) (row_complete g here ws z a) (eqb (serving_place g here xs ws z n (seal_limit g (is_set here) (read_device g xs ws) z n) a) 0)
    where
      ways : (p q t : Bool) → p || (q || not t) ≡ has_source (pick p Held (pick q Row (pick t Unknown (way.Entry (serving_place g here xs ws z n (seal_limit g (is_set here) (read_device g xs ws) z n) a)))))
      ways true q t = refl
      ways false true t = refl
      ways false false true = refl
      ways false false false = refl
