-- Sectors appended to one zone: those of every other zone stay as they were.
use Rattle.std.specs.Prelude.{◌≡◌, ◌≢◌, Bool, length}
use Rattle.std.proofs.Math.Path.{refl, ap}
use Rattle.std.proofs.Common.{sym, ◌∙◌, arith}
use Rattle.std.proofs.Math.Bool.{true, false}
use Prim.Native.Nat.{ℕ, zero, suc, ◌+◌, ◌-◌, ◌*◌, ◌<◌, min}
use mathlib.Core.List.{List, [], ◌∷◌, ◌++◌}
use Rattle.std.proofs.Math.ListN.{get_or}
use Rattle.std.proofs.Math.Arith.{digits_div}
use borrow.Author.Tests.{ltb-true}
use Rattle.tables.specs.declared.Geometry.{Geometry}
use Rattle.tables.specs.meaning.Basics.{pick}
use Rattle.tables.specs.laws.Below.{tabulate_cong}
use Rattle.tables.specs.meaning.Geometry.{physical_zones}
use Rattle.tables.specs.meaning.Device.{ZoneView, append}
use Rattle.tables.specs.meaning.Tables.{Tables, tables_of, cell, sector_no, has_room, sectors_after_append, written_after_append, make_store, run_stores, zone_at_cell}
use Rattle.tables.specs.laws.Made.{WellSized, MadeAppends}
use Rattle.tables.specs.laws.Tables.{sector_in, sector_elsewhere, device_in_lem}
use Rattle.tables.specs.laws.TablesRefine.{store_sized}
use Rattle.volume.specs.meaning.Calls.{append_all}
use Rattle.volume.specs.looking.Knowing.{read_device}

-- every one is a whole sector, of n bytes
abbrev pub SectorsLong : ℕ → List (List ℕ) → Type 0
SectorsLong n [] = Unit {0}
SectorsLong n (s ∷ ss) = (length s ≡ n) × SectorsLong n ss

pub sectors_long_append : (n : ℕ) (ss ts : List (List ℕ)) → SectorsLong n ss → SectorsLong n ts → SectorsLong n (ss ++ ts)
sectors_long_append n [] ts p q = q
sectors_long_append n (s ∷ ss) ts p q = (p.0, sectors_long_append n ss ts p.1 q)

-- the tables after appends to zone y of drive d
pub record AfterAppends (g : Geometry) (d y : ℕ) (t u : Tables) : Type 0 where
  pub sized : WellSized g u
  pub elsewhere : (c n : ℕ) → c ≢ cell g d y → n < g.capacity → sector_no g.sector u.sectors (c * g.capacity + n) ≡ sector_no g.sector t.sectors (c * g.capacity + n)

module _ (g : Geometry) (d y : ℕ) (hd : d < g.drives) (hy : y < physical_zones g) where
  -- one, whether the zone has room for it or not
  laid_elsewhere : (s : List ℕ) (t : Tables) → length s ≡ g.sector → WellSized g t → (c n : ℕ) → c ≢ cell g d y → n < g.capacity → (b : Bool) → has_room g d y t.written ≡ b
      → sector_no g.sector (pick b (record { sectors = sectors_after_append g d y s t.sectors t.written; written = written_after_append g d y t.written; durable = t.durable }) t).sectors (c * g.capacity + n)
      ≡ sector_no g.sector t.sectors (c * g.capacity + n)
  unfolding sectors_after_append
  laid_elsewhere s t hs w c n ne hn false e = refl
  laid_elsewhere s t hs w c n ne hn true e =
      let m = get_or t.written (cell g d y) 0 in
      let hm : m < g.capacity = ltb-true m g.capacity e in
      sector_elsewhere g.sector t.sectors (cell g d y * g.capacity + m) s hs (rw w.sectors_long (sector_in g d y m hd hy hm)) (c * g.capacity + n)
      (λ q. ne (sym (digits_div c hn) ∙ rw q (digits_div (cell g d y) hm)))

  append_elsewhere : (s : List ℕ) (t : Tables) → length s ≡ g.sector → WellSized g t → AfterAppends g d y t (make_store g (append d y s) t)
  append_elsewhere s t hs w = record {
    sized = store_sized g (append d y s) t w (hd, hy, hs);
    elsewhere = λ c n ne hn. laid_elsewhere s t hs w c n ne hn (has_room g d y t.written) refl;
  }

  appends_elsewhere : (k : ℕ) (ss : List (List ℕ)) (t : Tables) → SectorsLong g.sector ss → WellSized g t → AfterAppends g d y t (run_stores g k (append_all d y ss) t)
  appends_elsewhere k [] t l w = record { sized = w; elsewhere = λ c n ne hn. refl }
  appends_elsewhere zero (s ∷ ss) t l w = record { sized = w; elsewhere = λ c n ne hn. refl }
  appends_elsewhere (suc k) (s ∷ ss) t l w =
      let one = append_elsewhere s t l.0 w in
      let rest = appends_elsewhere k ss (make_store g (append d y s) t) l.1 one.sized in
      record { sized = rest.sized; elsewhere = λ c n ne hn. rest.elsewhere c n ne hn ∙ one.elsewhere c n ne hn }

  -- as a function that appends states it
  pub made_elsewhere : (budget rest : ℕ) (ss : List (List ℕ)) (xs ws xs' ws' : List ℕ) → SectorsLong g.sector ss → WellSized g (tables_of xs ws ws) → MadeAppends g budget rest (append_all d y ss) xs ws xs' ws'
      → AfterAppends g d y (tables_of xs ws ws) (tables_of xs' ws' ws)
  made_elsewhere budget rest ss xs ws xs' ws' l w m = rw (m.made ws).tables_are (appends_elsewhere (budget - 1) ss (tables_of xs ws ws) l w)

-- a zone whose sectors are the same, read below the same pointers
pub zone_kept : (g : Geometry) (ps xs ys : List ℕ) (d z : ℕ) → d < g.drives → z < physical_zones g
    → ((n : ℕ) → n < g.capacity → sector_no g.sector ys (cell g d z * g.capacity + n) ≡ sector_no g.sector xs (cell g d z * g.capacity + n))
    → read_device g ys ps d z ≡ read_device g xs ps d z
zone_kept g ps xs ys d z hd hz same = device_in_lem g (tables_of ys ps []) d z hd hz ∙ zone ∙ sym (device_in_lem g (tables_of xs ps []) d z hd hz)
  where
    zone : zone_at_cell g (tables_of ys ps []) (cell g d z) ≡ zone_at_cell g (tables_of xs ps []) (cell g d z)
    zone =
        unfold zone_at_cell in
        ap (λ (l : List (List ℕ)). let r : ZoneView = record { sectors = l; durable = min (get_or [] (cell g d z) 0) g.capacity } in r)
        (tabulate_cong (λ n. sector_no g.sector ys (cell g d z * g.capacity + n)) (λ n. sector_no g.sector xs (cell g d z * g.capacity + n)) (min (get_or ps (cell g d z) 0) g.capacity) (λ n h. same n (omega arith)))
