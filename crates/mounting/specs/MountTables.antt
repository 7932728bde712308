-- Stores of a mount, one after the other: a loop's turns, a step and the flush after it, and what they leave alone.
use Rattle.std.specs.Prelude.{◌≡◌, refl, ◌≢◌, Bool, true, false, ℕ, zero, suc, ◌+◌, ◌≤◌, ◌<◌, min, List, [], ◌∷◌, ◌++◌, length, get_or}
use Rattle.std.proofs.Common.{sym, ap, ◌∙◌, le_refl, add-one, arith, append-nil}
use Rattle.std.proofs.Math.Nat.{sub-zero}
use Rattle.tables.specs.declared.Geometry.{Geometry}
use Rattle.tables.specs.meaning.Basics.{pick}
use Rattle.tables.specs.meaning.Below.{each_below}
use Rattle.tables.specs.meaning.Lists.{concat, is_nil}
use Rattle.tables.specs.meaning.Geometry.{physical_zones}
use Rattle.tables.specs.meaning.Device.{ZoneView, Store, flush}
use Rattle.tables.specs.meaning.Phases.{on_present, flush_all}
use Rattle.tables.specs.laws.Phases.{on_present_append}
use Rattle.tables.specs.meaning.Tables.{Tables, tables_of, cell, zone_at_cell, device_of}
use Rattle.tables.specs.laws.Made.{Made, MadeAppends, MadePointers}
use Rattle.tables.specs.laws.Tables.{device_in_lem}
use Rattle.tables.specs.laws.Counted.{run_none, made_append}
use Rattle.logs.specs.code.WalkCode.{log_sectors}
use Rattle.volume.specs.laws.CallContracts.{appends_nil, appends_append, pointers_append}
use Rattle.volume.specs.rows.KeptBelow.{StoresIn, stores_in_append, on_present_in}
use Rattle.volume.specs.meaning.Mount.{with_flush}

-- the sectors of a zone, as a log is walked
pub seen_sectors : (g : Geometry) (t : Tables) (d z : ℕ) → d < g.drives → z < physical_zones g → (device_of g t d z).sectors ≡ log_sectors g d z t.sectors (min (get_or t.written (cell g d z) 0) g.capacity)
unfolding zone_at_cell
seen_sectors g t d z hd hz = ap (λ (x : ZoneView). x.sectors) (device_in_lem g t d z hd hz)

flushes_in : (g : Geometry) (b : ℕ → Bool) (n : ℕ) → n ≤ g.drives → StoresIn g b (flush_all n)
flushes_in g b zero h = tt
flushes_in g b (suc n) h = stores_in_append g b (flush_all n) (flush n ∷ []) (flushes_in g b n (omega arith)) (omega arith, tt)

-- a loop's next turn: the stores for n after those for the numbers below it
pub appends_more : (g : Geometry) (a : ℕ → Bool) (budget mid rest : ℕ) (f : ℕ → List Store) (n : ℕ) (xs ws xs' ws' xs'' ws'' : List ℕ) → MadeAppends g budget mid (on_present a (each_below f n)) xs ws xs' ws'
    → MadeAppends g mid rest (on_present a (f n)) xs' ws' xs'' ws'' → MadeAppends g budget rest (on_present a (each_below f (suc n))) xs ws xs'' ws''
appends_more g a budget mid rest f n xs ws xs' ws' xs'' ws'' p q =
    rw (on_present_append a (each_below f n) (f n)) (appends_append g budget mid rest (on_present a (each_below f n)) (on_present a (f n)) xs ws xs' ws' xs'' ws'' p q)

-- what a loop over the drives, or over the zones of one, keeps while it appends: the stores for the numbers below d of n are made, and the lengths stay
pub record AppendsBelow (g : Geometry) (a : ℕ → Bool) (budget : ℕ) (f : ℕ → List Store) (n d rest : ℕ) (xs ws xs' ws' : List ℕ) : Type 0 where
  pub within : d ≤ n
  pub sectors_long : length xs' ≡ length xs
  pub written_long : length ws' ≡ length ws
  pub made : MadeAppends g budget rest (on_present a (each_below f d)) xs ws xs' ws'

pub appends_begin : (g : Geometry) (a : ℕ → Bool) (budget : ℕ) (f : ℕ → List Store) (n : ℕ) (xs ws : List ℕ) → AppendsBelow g a budget f n 0 budget xs ws xs ws
appends_begin g a budget f n xs ws = record { within = omega arith; sectors_long = refl; written_long = refl; made = appends_nil g budget xs ws }

pub appends_turn : (g : Geometry) (a : ℕ → Bool) (budget mid rest : ℕ) (f : ℕ → List Store) (n d : ℕ) (xs ws xs' ws' xs'' ws'' : List ℕ) → AppendsBelow g a budget f n d mid xs ws xs' ws' → d < n
    → length xs'' ≡ length xs' → length ws'' ≡ length ws' → MadeAppends g mid rest (on_present a (f d)) xs' ws' xs'' ws'' → AppendsBelow g a budget f n (d + 1) rest xs ws xs'' ws''
appends_turn g a budget mid rest f n d xs ws xs' ws' xs'' ws'' p h lx lw q = record {
  within = omega (arith, h);
  sectors_long = lx ∙ p.sectors_long;
  written_long = lw ∙ p.written_long;
  made = rw add-one (appends_more g a budget mid rest f d xs ws xs' ws' xs'' ws'' p.made q);
}

pub appends_end : (g : Geometry) (a : ℕ → Bool) (budget : ℕ) (f : ℕ → List Store) (n d rest : ℕ) (xs ws xs' ws' : List ℕ) → AppendsBelow g a budget f n d rest xs ws xs' ws' → n ≤ d
    → MadeAppends g budget rest (on_present a (each_below f n)) xs ws xs' ws'
appends_end g a budget f n d rest xs ws xs' ws' p h = let e : d ≡ n = omega (arith, p.within, h) in rw e at p.made

-- the same of resets
pub pointers_more : (g : Geometry) (a : ℕ → Bool) (budget mid rest : ℕ) (f : ℕ → List Store) (n : ℕ) (ws ds ws' ds' ws'' ds'' : List ℕ) → MadePointers g budget mid (on_present a (each_below f n)) ws ds ws' ds'
    → MadePointers g mid rest (on_present a (f n)) ws' ds' ws'' ds'' → MadePointers g budget rest (on_present a (each_below f (suc n))) ws ds ws'' ds''
pointers_more g a budget mid rest f n ws ds ws' ds' ws'' ds'' p q =
    rw (on_present_append a (each_below f n) (f n)) (pointers_append g budget mid rest (on_present a (each_below f n)) (on_present a (f n)) ws ds ws' ds' ws'' ds'' p q)

-- ---- a step and the flush after it. A step that stored has spent of its budget; where nothing is left to spend, no flush is made either.
spent : (g : Geometry) (ss : List Store) (t u : Tables) → Made g 0 0 ss t u → u ≡ t
spent g ss t u m = m.tables_are ∙ run_none g ss t

unspent : (g : Geometry) (ss : List Store) (t : Tables) → Made g 0 0 ss t t
unspent g ss t = record { rest_is = omega arith; tables_are = sym (run_none g ss t) }

abbrev flush_part : Geometry → (ℕ → Bool) → List Store → List Store
flush_part g a xs = xs ++ (pick (is_nil xs) [] (on_present a (flush_all g.drives)) ++ [])

pub flush_skipped : (g : Geometry) (a : ℕ → Bool) (before rest : ℕ) (ss : List Store) (t u : Tables) → rest ≡ before → Made g before rest (on_present a ss) t u → Made g before rest (concat (with_flush g a ss)) t u
flush_skipped g a before rest ss t u e m = go (on_present a ss) m
  where
    go : (xs : List Store) → Made g before rest xs t u → Made g before rest (flush_part g a xs) t u
    go [] k = k
    go (x ∷ xs) k =
        let z : before ≡ 0 = omega (arith, k.rest_is) in
        let r : rest ≡ 0 = omega arith in
        let k' : Made g 0 0 (x ∷ xs) t u = rw (z, r) at k in
        rw (z, r, spent g (x ∷ xs) t u k') (unspent g (flush_part g a (x ∷ xs)) t)

pub flush_due : (g : Geometry) (a : ℕ → Bool) (before rest last : ℕ) (ss : List Store) (t u v : Tables) → rest ≢ before → Made g before rest (on_present a ss) t u → Made g rest last (on_present a (flush_all g.drives)) u v
    → Made g before last (concat (with_flush g a ss)) t v
flush_due g a before rest last ss t u v e m f = go (on_present a ss) m
  where
    go : (xs : List Store) → Made g before rest xs t u → Made g before last (flush_part g a xs) t v
    go [] k = absurd (e (k.rest_is ∙ sub-zero before))
    go (x ∷ xs) k = rw (append-nil (on_present a (flush_all g.drives))) (made_append g before rest last (x ∷ xs) (on_present a (flush_all g.drives)) t u v k f)

-- as the function states it that makes the flush, on the tables that a step left
pub record FlushedAfter (g : Geometry) (a : ℕ → Bool) (before rest last : ℕ) (ws ds ds' : List ℕ) : Type 0 where
  pub made : (xs : List ℕ) (ss : List Store) (t : Tables) → Made g before rest (on_present a ss) t (tables_of xs ws ds) → Made g before last (concat (with_flush g a ss)) t (tables_of xs ws ds')

-- the stores of a step with its flush leave alone what its own leave alone
pub with_flush_in : (g : Geometry) (b a : ℕ → Bool) (ss : List Store) → StoresIn g b ss → StoresIn g b (concat (with_flush g a ss))
with_flush_in g b a ss p = stores_in_append g b (on_present a ss) (pick (is_nil (on_present a ss)) [] (on_present a (flush_all g.drives)) ++ []) (on_present_in g b a ss p) (stores_in_append g b (pick (is_nil (on_present a ss)) [] (on_present a (flush_all g.drives))) [] (go (is_nil (on_present a ss))) tt)
  where
    go : (c : Bool) → StoresIn g b (pick c [] (on_present a (flush_all g.drives)))
    go true = tt
    go false = on_present_in g b a (flush_all g.drives) (flushes_in g b g.drives (le_refl g.drives))
