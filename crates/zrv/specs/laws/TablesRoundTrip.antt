-- What a storing call leaves in the tables reads back from the bytes that it leaves: they are numbers of 32 bits, as many as there were, whatever was
-- stored. (States: StateRoundTrip.)
use Rattle.std.specs.Prelude.{◌≡◌, Bool, ℕ, zero, suc, ◌+◌, ◌-◌, ◌*◌, ◌^◌, ◌≤◌, ◌<◌, min, List, [], ◌∷◌, ◌++◌, drop, set}
use Rattle.std.proofs.Math.Path.{refl, sym}
use Rattle.std.proofs.Common.{ap, ◌∙◌, arith, length-append, length-take, length-drop}
use Rattle.std.proofs.Math.Bool.{true, false}
use Rattle.std.proofs.Math.ListN.{length, get_or, take, length-set}
use borrow.Author.Tests.{ltb-true}
use Rattle.tables.specs.declared.Geometry.{Geometry}
use Rattle.tables.specs.meaning.Basics.{pick}
use Rattle.tables.specs.meaning.Below.{tabulate}
use Rattle.tables.specs.laws.Below.{length_tabulate}
use Rattle.tables.specs.meaning.Lists.{overlay}
use Rattle.tables.specs.meaning.Geometry.{Valid, physical_zones, cells}
use Rattle.tables.specs.meaning.Device.{Store, append, reset, flush}
use Rattle.tables.specs.meaning.Tables.{Tables, first_cell, cell, has_room, sectors_after_append, written_after_append, pointers_after_reset, durable_after_flush, make_store, run_stores}
use Rattle.tables.specs.meaning.LittleEndian.{read_le}
use Rattle.volume.specs.laws.ByteLists.{Bytes, bytes_append, bytes_take, bytes_drop, number_in_bytes, number_small}
use Rattle.zrv.specs.meaning.Bytes.{table_from, table_to, words_to}
use Rattle.zrv.specs.laws.Bytes.{length_words_to}
use Rattle.zrv.specs.meaning.EdgeCalls.{Ranges, tables_in}
use Rattle.zrv.specs.laws.RoundTrips.{table_bytes_table}

-- ---- numbers of 32 bits
abbrev pub Words : List ℕ → Type 0
Words [] = Unit {0}
Words (x ∷ xs) = (x < 256 ^ 4) × Words xs

words_append : (xs ys : List ℕ) → Words xs → Words ys → Words (xs ++ ys)
words_append [] ys p q = q
words_append (x ∷ xs) ys p q = (p.0, words_append xs ys p.1 q)

words_take : (n : ℕ) (xs : List ℕ) → Words xs → Words (take n xs)
words_take zero xs w = tt
words_take (suc n) [] w = tt
words_take (suc n) (x ∷ xs) w = (w.0, words_take n xs w.1)

words_drop : (n : ℕ) (xs : List ℕ) → Words xs → Words (drop n xs)
words_drop zero xs w = w
words_drop (suc n) [] w = tt
words_drop (suc n) (x ∷ xs) w = words_drop n xs w.1

words_set : (xs : List ℕ) (c x : ℕ) → x < 256 ^ 4 → Words xs → Words (set xs c x)
words_set [] c x h w = tt
words_set (y ∷ xs) zero x h w = (h, w.1)
words_set (y ∷ xs) (suc c) x h w = (w.0, words_set xs c x h w.1)

word_small : (xs : List ℕ) (i : ℕ) → Words xs → get_or xs i 0 < 256 ^ 4
word_small [] i w = omega arith
word_small (x ∷ xs) zero w = w.0
word_small (x ∷ xs) (suc i) w = word_small xs i w.1

words_tabulate : (f : ℕ → ℕ) (n : ℕ) → ((i : ℕ) → f i < 256 ^ 4) → Words (tabulate f n)
words_tabulate f zero h = tt
words_tabulate f (suc n) h = words_append (tabulate f n) (f n ∷ []) (words_tabulate f n h) (h n, tt)

-- a table in bytes holds such numbers
table_words : (n : ℕ) (xs : List ℕ) → Bytes xs → Words (table_from n xs)
unfolding table_from
table_words n xs b =
    words_tabulate (λ i. read_le 4 xs (i * 4)) n (λ i. number_small 4 (take 4 (drop (i * 4) xs)) (short (drop (i * 4) xs)) (bytes_take 4 (drop (i * 4) xs) (bytes_drop (i * 4) xs b)))
  where
    short : (ys : List ℕ) → length (take 4 ys) ≤ 4
    short ys = rw (length-take 4 ys) (omega arith)

pub table_long : (n : ℕ) (xs : List ℕ) → length (table_from n xs) ≡ n
unfolding table_from
table_long n xs = length_tabulate (λ i. read_le 4 xs (i * 4)) n

-- and written, it is bytes
words_bytes : (n : ℕ) (ts : List ℕ) → Bytes (words_to n ts)
words_bytes zero ts = tt
words_bytes (suc n) ts = bytes_append (words_to n ts) _ (words_bytes n ts) (number_in_bytes 4 (get_or ts n 0))

pub table_bytes : (ts : List ℕ) → Bytes (table_to ts)
unfolding table_to
table_bytes ts = words_bytes (length ts) ts

pub table_bytes_long : (ts : List ℕ) → length (table_to ts) ≡ length ts * 4
unfolding table_to
table_bytes_long ts = length_words_to (length ts) ts

-- ---- tables that bytes can hold
pub record InWords (g : Geometry) (t : Tables) : Type 0 where
  pub written_long : length t.written ≡ cells g
  pub durable_long : length t.durable ≡ cells g
  pub written_small : Words t.written
  pub durable_small : Words t.durable

pub ranges_in_words : (g : Geometry) (m : Ranges) → Bytes m.written → Bytes m.durable → InWords g (tables_in g m)
ranges_in_words g m a b = record {
  written_long = table_long (cells g) m.written;
  durable_long = table_long (cells g) m.durable;
  written_small = table_words (cells g) m.written a;
  durable_small = table_words (cells g) m.durable b;
}

-- they read back
pub words_read_back : (g : Geometry) (ts : List ℕ) → length ts ≡ cells g → Words ts → table_from (cells g) (table_to ts) ≡ ts
words_read_back g ts e w = ap (λ (n : ℕ). table_from n (table_to ts)) (sym e) ∙ table_bytes_table ts (λ i h. word_small ts i w)

-- ---- stores keep them so
-- a row copied from a table of the same length
row_copied : (ws ds : List ℕ) (at n : ℕ) → length ws ≡ length ds → length (overlay ds at (take n (drop at ws))) ≡ length ds
row_copied ws ds at n e =
    let p = take n (drop at ws) in
    let a : length (take at ds) ≡ min at (length ds) = length-take at ds in
    let b : length (take n (drop at ws)) ≡ min n (length (drop at ws)) = length-take n (drop at ws) in
    let c : length (drop at ws) ≡ length ws - at = length-drop at ws in
    let d : length (drop (at + length p) ds) ≡ length ds - (at + length p) = length-drop (at + length p) ds in
    let f : length (take at ds ++ p) ≡ length (take at ds) + length p = length-append (take at ds) p in
    length-append (take at ds ++ p) (drop (at + length p) ds) ∙ omega (arith, a, b, c, d, e, f)

module _ (g : Geometry) (ok : Valid g) where
  store_words : (x : Store) (t : Tables) → InWords g t → InWords g (make_store g x t)
  unfolding written_after_append pointers_after_reset durable_after_flush
  store_words (append d z s) t w = go (has_room g d z t.written) refl
    where
      go : (b : Bool) → has_room g d z t.written ≡ b → InWords g (pick b (record { sectors = sectors_after_append g d z s t.sectors t.written; written = written_after_append g d z t.written; durable = t.durable }) t)
      go false e = w
      go true e =
          let n = get_or t.written (cell g d z) 0 in
          let room : n < g.capacity = ltb-true n g.capacity e in
          record {
            written_long = length-set t.written (cell g d z) (n + 1) ∙ w.written_long;
            durable_long = w.durable_long;
            written_small = words_set t.written (cell g d z) (n + 1) (omega (arith, room, ok.zone_most)) w.written_small;
            durable_small = w.durable_small;
          }
  store_words (reset d z) t w = record {
    written_long = length-set t.written (cell g d z) 0 ∙ w.written_long;
    durable_long = length-set t.durable (cell g d z) 0 ∙ w.durable_long;
    written_small = words_set t.written (cell g d z) 0 (omega arith) w.written_small;
    durable_small = words_set t.durable (cell g d z) 0 (omega arith) w.durable_small;
  }
  store_words (flush d) t w =
      let at = first_cell g d in
      let row = take (physical_zones g) (drop at t.written) in
      let front : Words (take at t.durable) = words_take at t.durable w.durable_small in
      let copied : Words row = words_take (physical_zones g) (drop at t.written) (words_drop at t.written w.written_small) in
      let rest : Words (drop (at + length row) t.durable) = words_drop (at + length row) t.durable w.durable_small in
      record {
        written_long = w.written_long;
        durable_long = row_copied t.written t.durable at (physical_zones g) (w.written_long ∙ sym w.durable_long) ∙ w.durable_long;
        written_small = w.written_small;
        durable_small = words_append (take at t.durable ++ row) (drop (at + length row) t.durable) (words_append (take at t.durable) row front copied) rest;
      }

  pub run_words : (k : ℕ) (xs : List Store) (t : Tables) → InWords g t → InWords g (run_stores g k xs t)
  run_words k [] t w = w
  run_words zero (x ∷ xs) t w = w
  run_words (suc k) (x ∷ xs) t w = run_words k xs (make_store g x t) (store_words x t w)
