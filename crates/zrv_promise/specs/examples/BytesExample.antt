-- The hypotheses of the promise on bytes can be met, for every valid geometry: ranges of zeros are formatted, power goes, drive 1 is lost, and the volume is
-- mounted.
use Rattle.std.specs.Prelude.{◌≡◌, refl, Bool, true, ℕ, zero, suc, ◌-◌, ◌*◌, ◌<◌, length, get_or, take, drop, replicate}
use Rattle.std.proofs.Common.{sym, ◌∙◌, inl, arith}
use Rattle.std.proofs.Math.Path.{ap, ap₂}
use mathlib.Core.List.{List, [], ◌∷◌, ◌++◌}
use Rattle.std.proofs.lemmas.List.{length-replicate}
use Rattle.tables.specs.declared.Geometry.{Geometry}
use Rattle.tables.specs.meaning.Below.{tabulate}
use Rattle.tables.specs.laws.Below.{tabulate_cong}
use Rattle.tables.specs.meaning.Geometry.{Valid, cells, total_bytes}
use Rattle.tables.specs.meaning.GeometryTest.{is_valid}
use Rattle.tables.specs.laws.GeometryTest.{valid_if_test, first_if_test}
use Rattle.tables.specs.meaning.Tables.{Tables, tables_of}
use Rattle.tables.specs.laws.PointerOrder.{cut_to_durable, loss_none}
use Rattle.tables.specs.meaning.LittleEndian.{number_le, read_le}
use Rattle.volume.specs.meaning.Calls.{format_stores}
use Rattle.volume.specs.meaning.Answers.{left_out, named_drives}
use Rattle.volume.specs.meaning.CallContracts.{is_set, answer_number, format_on}
use Rattle.promise.specs.meaning.Claim.{mounts, System, Event, calls, cuts, loses, Dutiful, Throughout, start}
use Rattle.promise.proofs.examples.TablesExample.{every, without1, without1_named, format_finishes, none_lost_lem}
use Rattle.zrv.specs.meaning.Bytes.{state_bytes, table_from}
use Rattle.zrv.specs.meaning.EdgeCalls.{named_of, tables_in, unread_state, stored_all, format_of_bytes, format_edge, Answered, Ranges}
use Rattle.zrv.specs.laws.EdgeCalls.{Sized, input_passed, made}
use Rattle.zrv_promise.specs.meaning.OnBytes.{LentBytes, ranges_of, bytes_result, answer_of, StillBytes, on_bytes}
use Rattle.zrv_promise.specs.bytes.ReadsOnBytes.{sizes_pass}
use Rattle.zrv_promise.specs.bytes.BytesClaimProof.{byte_at_lem, BytesOk, bytes_start}
use Rattle.zrv_promise.specs.bytes.CachedBytesClaim.{bytes_keep_the_promise}

-- ---- bytes of zeros hold a table of zeros
drop_zeros : (n k : ℕ) → drop {A = ℕ} n (replicate k 0) ≡ replicate (k - n) 0
drop_zeros zero k = let e : k - 0 ≡ k = omega arith in rw e refl
drop_zeros (suc n) zero = let e : 0 - suc n ≡ 0 = omega arith in rw e refl
drop_zeros (suc n) (suc k) = let e : suc k - suc n ≡ k - n = omega arith in rw e (drop_zeros n k)

number_zeros : (n k : ℕ) → number_le (take n (replicate k 0)) ≡ 0
number_zeros zero k = refl
number_zeros (suc n) zero = refl
number_zeros (suc n) (suc k) = rw (number_zeros n k) (omega arith)

zeros_end : (n : ℕ) → replicate n 0 ++ (0 ∷ []) ≡ replicate {A = ℕ} (suc n) 0
zeros_end zero = refl
zeros_end (suc n) = ap (λ (l : List ℕ). 0 ∷ l) (zeros_end n)

tabulate_zeros : (n : ℕ) → tabulate {A = ℕ} (λ i. 0) n ≡ replicate n 0
tabulate_zeros zero = refl
tabulate_zeros (suc n) = ap (λ (l : List ℕ). l ++ (0 ∷ [])) (tabulate_zeros n) ∙ zeros_end n

table_zeros : (n k : ℕ) → table_from n (replicate k 0) ≡ replicate n 0
unfolding table_from
table_zeros n k = tabulate_cong (λ i. read_le 4 (replicate k 0) (i * 4)) (λ i. 0) n (λ i h. ap (λ (l : List ℕ). number_le (take 4 l)) (drop_zeros (i * 4) k) ∙ number_zeros 4 (k - i * 4)) ∙ tabulate_zeros n

-- ---- masks
all_drives : named_of 255 ≡ every
unfolding named_of every
all_drives = refl

all_but_1 : named_of 253 ≡ without1
unfolding named_of without1
all_but_1 = refl

module _ (g : Geometry) (wb : is_valid g ≡ true) where
  ok : Valid g
  ok = valid_if_test g wb

  abbrev no_state : List ℕ
  no_state = replicate state_bytes 0

  abbrev zeros : LentBytes
  zeros = record { sectors = replicate (total_bytes g) 0; written = replicate (cells g * 4) 0; durable = replicate (cells g * 4) 0 }

  abbrev count : ℕ
  count = length (format_stores g (named_drives g (is_set every)) (left_out g (is_set every)) 7)

  fits : Sized g (length no_state) (length zeros.written) (length zeros.durable)
  fits = record { valid = ok; logs_first = first_if_test g wb; state_long = length-replicate {A = ℕ} state_bytes 0; written_long = length-replicate {A = ℕ} (cells g * 4) 0; durable_long = length-replicate {A = ℕ} (cells g * 4) 0 }

  tables_zeros : tables_in g (ranges_of zeros no_state) ≡ tables_of (replicate (total_bytes g) 0) (replicate (cells g) 0) (replicate (cells g) 0)
  tables_zeros = ap₂ (λ (ws ds : List ℕ). tables_of (replicate (total_bytes g) 0) ws ds) (table_zeros (cells g) (cells g * 4)) (table_zeros (cells g) (cells g * 4))

  -- the format returns 0
  formats_well : (format_edge g 255 7 count (ranges_of zeros no_state)).code ≡ 0
  unfolding stored_all
  formats_well =
      let m = ranges_of zeros no_state in
      ap (λ (e : Answered Ranges). e.code) (sym (made _ (stored_all g (format_of_bytes g 255 7 count m) m) m (sizes_pass g (length no_state) (length zeros.written) (length zeros.durable) fits)))
      ∙ ap₂ (λ (named : List Bool) (t : Tables). answer_number (format_on g named 7 unread_state count t).outcome.answer) all_drives tables_zeros ∙ ap answer_number (format_finishes g wb unread_state)

  -- ---- the history
  abbrev formatted : System (on_bytes g)
  formatted = start g (on_bytes g) 255 (bytes_result (format_edge g 255 7 count (ranges_of zeros no_state)))

  began : BytesOk g formatted
  began = bytes_start g 255 7 count no_state zeros (omega arith) formats_well

  abbrev after_cut : LentBytes
  after_cut = record { sectors = formatted.memory.sectors; written = formatted.memory.durable; durable = formatted.memory.durable }

  still : (m : LentBytes) → length m.written ≡ length formatted.memory.durable → length m.durable ≡ length formatted.memory.durable → StillBytes m after_cut
  still m w d = let b : (i : ℕ) → get_or formatted.memory.durable i 0 < 256 = λ i. byte_at_lem formatted.memory.durable i began.durable_bytes in record { written_long = sym w; durable_long = sym d; written_bytes = b; durable_bytes = b }

  abbrev history : ℕ → List (Event (on_bytes g))
  history stop = cuts after_cut ∷ loses 1 after_cut ∷ calls mounts 253 stop ∷ []

  none : left_out g (is_set (named_of 255)) ≡ 255
  none = ap (λ (named : List Bool). left_out g (is_set named)) all_drives ∙ none_lost_lem g wb unread_state

  duties_done : (stop : ℕ) → Dutiful g (on_bytes g) formatted (history stop)
  duties_done stop =
      let q = input_passed g formatted.state (length formatted.memory.written) (length formatted.memory.durable) began.taken in
      let t = began.holds in (
        (still formatted.memory (q.written_long ∙ sym q.durable_long) refl, cut_to_durable g formatted.lost _ t.sized t.order),
        (
          (omega (arith, ok.drives_least), inl none, (still after_cut refl refl, loss_none g 1 _)),
          ((record { drives = λ d h. ap (λ (named : List Bool). is_set named d) all_but_1 ∙ without1_named d (omega (arith, h, ok.drives_most)) }, tt, tt), tt),
        ),
      )

  pub promise_kept : (stop : ℕ) → Throughout g (on_bytes g) formatted (history stop)
  promise_kept stop = bytes_keep_the_promise g 255 7 no_state count zeros (omega arith) (ap answer_of formats_well) (history stop) (duties_done stop)
