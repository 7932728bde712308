-- The logs of one drive in the flat tables: that what the code walks there is what the rules walk on the device. A look reads the sectors
-- and the written pointers alone: `read_device` (Knowing) is the device they stand for, whatever the durable pointers are.
use Rattle.std.specs.Prelude.{◌≡◌, refl, ◌⊎◌, Bool, true, false, ◌&&◌, ◌||◌, not, ℕ, suc, ◌+◌, ◌*◌, ◌≤◌, ◌<◌, min, List, [], ◌∷◌, ◌++◌, map, length, get_or, ltb, eqb}
use Rattle.std.proofs.Common.{sym, ap₂, subst, ◌∙◌, inl, inr, arith, le-leb, ne_eqb}
use Rattle.std.proofs.Math.Path.{ap}
use Rattle.tables.specs.declared.Geometry.{Geometry}
use Rattle.tables.specs.meaning.Basics.{pick}
use Rattle.tables.specs.meaning.Lists.{any_of}
use Rattle.tables.specs.meaning.Drives.{no_drive}
use Rattle.tables.specs.meaning.Geometry.{Valid, physical_zones, cells, total_bytes, stripe_sectors, zone_sectors}
use Rattle.tables.specs.laws.Sizes.{zone_small, stripe_small}
use Rattle.tables.specs.meaning.Device.{ZoneView}
use Rattle.tables.specs.meaning.Tables.{tables_of, cell, sector_no, zone_at_cell}
use Rattle.tables.specs.laws.Below.{length_tabulate}
use Rattle.tables.specs.laws.Tables.{device_in_lem}
use Rattle.logs.specs.declared.Log.{Log}
use Rattle.logs.specs.declared.WalkEnd.{WalkEnd}
use Rattle.logs.specs.declared.WalkEnd.TheVariants.{AtPointer, NoEntry, Torn}
use Rattle.logs.specs.declared.Found.{Found}
use Rattle.logs.specs.declared.Found.TheVariants.{Bad, Label, Counters, Resets, Partial, Seal, Closing}
use Rattle.logs.specs.meaning.Entry.{general_zone, parity_zone, fault_number, Header, label, counters, zone_reset, partial_parity, seal, closing, Entry, rows_of, fits_log}
use Rattle.logs.specs.laws.Entry.{decode_legal}
use Rattle.logs.specs.meaning.Walk.{Walked, Ending, at_pointer, no_entry, torn, walk_log}
use Rattle.logs.specs.code.WalkCode.{InLog, log_sectors, walk_end_at, walk_end_of}
use Rattle.logs.specs.meaning.Heads.{labelled, last_lost, ends_past}
use Rattle.logs.specs.laws.Heads.{ends_within}
use Rattle.logs.specs.code.Query.{head_of, heads_of, torn_seen}
use Rattle.logs.specs.code.QueryLaws.{SmallSeen}
use Rattle.logs.specs.code.Judge.{seen, partial_small}
use Rattle.logs.specs.laws.Legal.{stripe_ends}
use Rattle.logs.specs.code.Steps.{Placed}
use Rattle.logs.specs.laws.Places.{last_place, LastSuch, last_place_lem, EndsAt, walk_places}
use Rattle.volume.specs.meaning.Rules.{general_heads, general_ending, parity_entries, parity_ending, ending_past}
use Rattle.volume.specs.declared.BadPlace.{BadPlace}
use Rattle.volume.specs.meaning.Refusals.{no_bad_place, bad_place_at, bad_place_in}
use Rattle.volume.specs.looking.Knowing.{read_device}

-- ---- what is read
-- the tables are as long as the geometry wants
pub record Sized (g : Geometry) (xs ws : List ℕ) : Type 0 where
  pub sectors_long : length xs ≡ total_bytes g
  pub written_long : length ws ≡ cells g

-- the sectors that a zone has; a pointer past its end counts as one at the end
abbrev pub zone_pointer : Geometry → List ℕ → ℕ → ℕ → ℕ
zone_pointer g ws d z = min (get_or ws (cell g d z) 0) g.capacity

pub zone_sectors_lem : (g : Geometry) (xs ws : List ℕ) (d z : ℕ) → d < g.drives → z < physical_zones g → (read_device g xs ws d z).sectors ≡ log_sectors g d z xs (zone_pointer g ws d z)
unfolding zone_at_cell
zone_sectors_lem g xs ws d z hd hz = ap (λ (x : ZoneView). x.sectors) (device_in_lem g (tables_of xs ws []) d z hd hz)

-- the log in a zone, as the code hands it over
abbrev pub log_in : Geometry → List ℕ → ℕ → ℕ → Log
log_in g ws d z = record { drive = d; zone = z; written = zone_pointer g ws d z }

pub in_log : (g : Geometry) (xs ws : List ℕ) (d z : ℕ) (l : Log) → l ≡ log_in g ws d z → Sized g xs ws → d < g.drives → z < physical_zones g → InLog g l.drive l.zone l.written xs
in_log g xs ws d z l e s hd hz = subst (λ (k : Log). InLog g k.drive k.zone k.written xs) (sym e) (record { drive_in = hd; zone_in_lem = hz; short = omega arith; long = s.sectors_long })

-- ---- the two logs, walked up to the zone's pointer n
module _ (g : Geometry) (xs ws : List ℕ) (d : ℕ) (hd : d < g.drives) (n : ℕ) where
  module _ (e : n ≡ zone_pointer g ws d general_zone) where
    general_log_lem : walk_log g d false (log_sectors g d general_zone xs n) ≡ walk_log g d false (read_device g xs ws d general_zone).sectors
    general_log_lem = ap (λ (m : ℕ). walk_log g d false (log_sectors g d general_zone xs m)) e ∙ ap (λ (ss : List (List ℕ)). walk_log g d false ss) (sym (zone_sectors_lem g xs ws d general_zone hd (omega arith)))

    pub general_heads_lem : heads_of (walk_log g d false (log_sectors g d general_zone xs n)) ≡ general_heads g (read_device g xs ws) d
    unfolding general_heads
    general_heads_lem = ap heads_of general_log_lem

    pub general_ending_lem : (walk_log g d false (log_sectors g d general_zone xs n)).last ≡ general_ending g (read_device g xs ws) d
    unfolding general_ending
    general_ending_lem = ap (λ (w : Walked). w.last) general_log_lem

  module _ (e : n ≡ zone_pointer g ws d parity_zone) where
    parity_log_lem : walk_log g d true (log_sectors g d parity_zone xs n) ≡ walk_log g d true (read_device g xs ws d parity_zone).sectors
    parity_log_lem = ap (λ (m : ℕ). walk_log g d true (log_sectors g d parity_zone xs m)) e ∙ ap (λ (ss : List (List ℕ)). walk_log g d true ss) (sym (zone_sectors_lem g xs ws d parity_zone hd (omega arith)))

    pub parity_entries_lem : (walk_log g d true (log_sectors g d parity_zone xs n)).entries ≡ parity_entries g (read_device g xs ws) d
    unfolding parity_entries
    parity_entries_lem = ap (λ (w : Walked). w.entries) parity_log_lem

    pub parity_ending_lem : (walk_log g d true (log_sectors g d parity_zone xs n)).last ≡ parity_ending g (read_device g xs ws) d
    unfolding parity_ending
    parity_ending_lem = ap (λ (w : Walked). w.last) parity_log_lem

-- ---- rule 1: which drive a log says is lost; a log without a first label says nothing
abbrev pub says_lost : List Header → ℕ
says_lost hs = pick (labelled hs) (last_lost no_drive hs) no_drive

-- ---- refusals 6, 16 and 17, by the end of a walk as the code has it
abbrev pub bad_place_seen : ℕ → ℕ → WalkEnd → BadPlace
bad_place_seen d y (AtPointer x) = no_bad_place
bad_place_seen d y (NoEntry x f) = record { number = fault_number f; drive = d; zone = y; sector = x }
bad_place_seen d y (Torn x) = no_bad_place

bad_seen_lem : (d y : ℕ) (l : Ending) (x : ℕ) → bad_place_seen d y (walk_end_at l x) ≡ bad_place_at d y l x
bad_seen_lem d y at_pointer x = refl
bad_seen_lem d y (no_entry f) x = refl
bad_seen_lem d y (torn h rs) x = refl

-- (y: where zone z of drive d lies; n: its pointer)
pub bad_place_seen_lem : (g : Geometry) (xs ws : List ℕ) (d z y : ℕ) (par : Bool) (n : ℕ) → d < g.drives → z < physical_zones g → n ≡ zone_pointer g ws d z
    → bad_place_seen d y (walk_end_of (walk_log g d par (log_sectors g d z xs n))) ≡ bad_place_in d y (walk_log g d par (read_device g xs ws d z).sectors)
bad_place_seen_lem g xs ws d z y par n hd hz e =
    let w = walk_log g d par (log_sectors g d z xs n) in
    bad_seen_lem d y w.last w.position
    ∙ ap (λ (ss : List (List ℕ)). bad_place_in d y (walk_log g d par ss)) (ap (log_sectors g d z xs) e ∙ sym (zone_sectors_lem g xs ws d z hd hz))

-- it lies below the pointer: its sector has 16 bits
pub bad_sector_small : (g : Geometry) → Valid g → (xs : List ℕ) (d z y : ℕ) (par : Bool) (n : ℕ) → n ≤ g.capacity → (bad_place_seen d y (walk_end_of (walk_log g d par (log_sectors g d z xs n)))).sector < 65536
bad_sector_small g ok xs d z y par n h =
    let w = walk_log g d par (log_sectors g d z xs n) in
    go w.last w.position (walk_places g d par (log_sectors g d z xs n)).left
  where
    go : (l : Ending) (x : ℕ) → EndsAt g d par (log_sectors g d z xs n) l x → (bad_place_seen d y (walk_end_at l x)).sector < 65536
    go at_pointer x e = omega arith
    go (no_entry f) x e = omega (arith, e.0, length_tabulate (λ (i : ℕ). sector_no g.sector xs (cell g d z * g.capacity + i)) n, h, ok.zone_most)
    go (torn hd rs) x e = omega arith

-- ---- rule 6: a partial parity entry that ends past a pointer
-- by what the code finds
abbrev pub past_seen : Geometry → ℕ → ℕ → ℕ → Found → Bool
past_seen g z n q Bad = false
past_seen g z n q (Label x a) = false
past_seen g z n q Counters = false
past_seen g z n q (Resets y m) = false
past_seen g z n q (Partial y s f m) = eqb y z && (eqb m n && ltb q (s * stripe_sectors g + f))
past_seen g z n q (Seal y p m) = false
past_seen g z n q (Closing gen) = false

past_seen_lem : (g : Geometry) (z n q : ℕ) (h : Header) → past_seen g z n q (seen h) ≡ ends_past g z n q h
past_seen_lem g z n q (label x a) = refl
past_seen_lem g z n q (counters cs) = refl
past_seen_lem g z n q (zone_reset y m) = refl
past_seen_lem g z n q (partial_parity y s f m) = refl
past_seen_lem g z n q (seal y p m) = refl
past_seen_lem g z n q (closing kind gen) = refl

-- where the code adds up its end (k: the sectors of a stripe), its numbers are small
pub end_small : (g : Geometry) → Valid g → (k y s fill n : ℕ) → k ≡ stripe_sectors g → (f : Found) → f ≡ Partial y s fill n → SmallSeen g f → (s * k < 458752) × (s * k + fill < 458864)
end_small g ok k y s fill n e f h seen =
    let m : SmallSeen g (Partial y s fill n) = rw h at seen in
    rw e (omega (arith, m.0, (zone_small g ok).1), omega (arith, m.0, m.1, (zone_small g ok).1, (stripe_small g ok).1))

-- the torn one
pub torn_past : (g : Geometry) (z n q : ℕ) (l : Ending) → past_seen g z n q (torn_seen l) ≡ ending_past g z n q l
torn_past g z n q at_pointer = refl
torn_past g z n q (no_entry f) = refl
torn_past g z n q (torn h rs) = past_seen_lem g z n q h

small_fits : (g : Geometry) (d : ℕ) (par : Bool) (h : Header) → fits_log g d par h ≡ true → SmallSeen g (seen h)
small_fits g d par (label x a) e = tt
small_fits g d par (counters cs) e = tt
small_fits g d par (zone_reset z n) e = tt
small_fits g d par (partial_parity z s f n) e = let k = partial_small g d par z s f n e in (k.1, k.2)
small_fits g d par (seal z p n) e = tt
small_fits g d par (closing kind gen) e = tt

-- its end can be computed
pub torn_small : (g : Geometry) (d : ℕ) (par : Bool) (ss : List (List ℕ)) → SmallSeen g (torn_seen (walk_log g d par ss).last)
torn_small g d par ss = go (walk_log g d par ss).last (walk_log g d par ss).position (walk_places g d par ss).left
  where
    go : (l : Ending) (x : ℕ) → EndsAt g d par ss l x → SmallSeen g (torn_seen l)
    go at_pointer x e = tt
    go (no_entry f) x e = tt
    go (torn h rs) x e = small_fits g d par h (decode_legal g d par (get_or ss x []) h e.1).1

-- the whole ones: every end lies in the zone, so one with an end up to the zone's end is any
within_past : (g : Geometry) (z n q : ℕ) (h : Header) (d : ℕ) (par : Bool) → Valid g → fits_log g d par h ≡ true → ends_within g z n q (zone_sectors g) h ≡ ends_past g z n q h
within_past g z n q (label x a) d par ok e = refl
within_past g z n q (counters cs) d par ok e = refl
within_past g z n q (zone_reset y m) d par ok e = refl
within_past g z n q (partial_parity y s f m) d par ok e =
    let k = partial_small g d par y s f m e in
    rw (le-leb (s * stripe_sectors g + f) (zone_sectors g) (stripe_ends g s f ok k.1 (omega (arith, k.2)))) (and_true (eqb y z) (eqb m n) (ltb q (s * stripe_sectors g + f)))
  where
    and_true : (a b c : Bool) → a && (b && (c && true)) ≡ a && (b && c)
    and_true true true true = refl
    and_true true true false = refl
    and_true true false c = refl
    and_true false b c = refl
within_past g z n q (seal y p m) d par ok e = refl
within_past g z n q (closing kind gen) d par ok e = refl

module _ (g : Geometry) (ok : Valid g) (d : ℕ) (par : Bool) (ss : List (List ℕ)) (z n q : ℕ) where
  placed_past : (es : List Entry) (p : ℕ) → Placed g d par ss p es → any_of (ends_within g z n q (zone_sectors g)) (map head_of es) ≡ any_of (λ (e : Entry). ends_past g z n q e.head) es
  placed_past [] p l = refl
  placed_past (e ∷ es) p l = ap₂ (λ (a b : Bool). a || b) (within_past g z n q e.head d par ok (decode_legal g d par (get_or ss p []) e.head l.0.reads).1) (placed_past es (p + suc (rows_of g e.head)) l.1)

  some_split : (t : Header → Bool) (before : List Entry) (e : Entry) (after : List Entry) → t e.head ≡ true → any_of t (map head_of (before ++ (e ∷ after))) ≡ true
  some_split t [] e after h = rw h refl
  some_split t (b ∷ before) e after h = rw (some_split t before e after h) (or_true (t b.head))
    where
      or_true : (a : Bool) → a || true ≡ true
      or_true true = refl
      or_true false = refl

  -- the last of them has a place, counted from 1, if there is one
  pub place_past : not (eqb (last_place g (ends_within g z n q (zone_sectors g)) 0 0 (heads_of (walk_log g d par ss))) 0) ≡ any_of (λ (e : Entry). ends_past g z n q e.head) (walk_log g d par ss).entries
  place_past = go (last_place_lem g d par ss test (walk_log g d par ss).entries 0 0 placed) ∙ placed_past (walk_log g d par ss).entries 0 placed
    where
      test : Header → Bool
      test = ends_within g z n q (zone_sectors g)

      placed : Placed g d par ss 0 (walk_log g d par ss).entries
      placed = (walk_places g d par ss).placed

      go : ((any_of test (map head_of (walk_log g d par ss).entries) ≡ false) × (last_place g test 0 0 (map head_of (walk_log g d par ss).entries) ≡ 0)) ⊎ ((x : ℕ) × LastSuch g d par ss test (walk_log g d par ss).entries x × (last_place g test 0 0 (map head_of (walk_log g d par ss).entries) ≡ x + 1))
          → not (eqb (last_place g test 0 0 (heads_of (walk_log g d par ss))) 0) ≡ any_of test (map head_of (walk_log g d par ss).entries)
      go (inl (none, at)) = rw (at, none) refl
      go (inr (x, s, at)) = rw (at, ne_eqb (x + 1) 0 (λ e. omega arith)) (sym (ap (λ (es : List Entry). any_of test (map head_of es)) s.split ∙ some_split test s.before s.entry s.after s.passes))
