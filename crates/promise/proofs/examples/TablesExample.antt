-- The hypotheses of the promise on the tables can be met, for every valid geometry: tables of zeros are formatted, power goes, drive 1 is lost, and
-- the volume is mounted. (A computed one with writes, flushes and resets: TablesHistory.)
use Rattle.std.specs.Prelude.{◌≡◌, ◌⊎◌, Bool, true, false, ℕ, zero, suc, ◌<◌, List, [], ◌∷◌, length, get_or, replicate}
use Rattle.std.proofs.Math.Path.{refl}
use Rattle.std.proofs.Common.{sym, ap, ◌∙◌, inr, true≢false, le_refl, arith}
use Rattle.std.proofs.Math.Logic.{inl}
use Rattle.std.proofs.Math.Bool.{not}
use Rattle.std.proofs.lemmas.List.{length-replicate}
use borrow.Author.Tests.{le-ltb, ne_eqb}
use Rattle.tables.specs.declared.Geometry.{Geometry}
use Rattle.tables.specs.meaning.Below.{count_below}
use Rattle.tables.specs.meaning.Geometry.{Valid, cells, total_bytes}
use Rattle.tables.specs.meaning.GeometryTest.{is_valid}
use Rattle.tables.specs.laws.GeometryTest.{valid_if_test}
use Rattle.tables.specs.meaning.Drives.{find_below, no_drive}
use Rattle.tables.specs.laws.Drives.{find_below_is}
use Rattle.tables.specs.meaning.Tables.{Tables, cell, device_of}
use Rattle.tables.specs.laws.Made.{WellSized}
use Rattle.tables.specs.laws.TablesFrame.{sized_lengths}
use Rattle.tables.specs.laws.PointerOrder.{InOrder, order_passes, cut_to_durable, loss_none}
use Rattle.volume.specs.declared.State.{State}
use Rattle.volume.specs.declared.Answer.TheVariants.{Finished}
use Rattle.volume.specs.meaning.Refusals.{accept, format_rows, two_unnamed}
use Rattle.volume.specs.meaning.Calls.{format_stores}
use Rattle.volume.specs.meaning.Answers.{left_out, named_drives}
use Rattle.volume.specs.laws.Refusals.{passed}
use Rattle.promise.specs.meaning.Claim.{all_but, mounts, System, Event, calls, cuts, loses, Dutiful, Throughout, start}
use Rattle.promise.specs.meaning.OnTables.{call_result, on_tables}
use Rattle.volume.specs.meaning.CallContracts.{is_set, lengths_of, format_verdict, format_on, bad_in}
use Rattle.promise.proofs.tables.TablesEvents.{TablesOk}
use Rattle.promise.proofs.tables.TablesClaimProof.{FormatPassed, start_ok}
use Rattle.promise.proofs.tables.CachedTablesClaim.{tables_keep_the_promise}

-- the drives named: all, and all but drive 1
unfoldable pub every : List Bool
every = replicate 8 true

unfoldable pub without1 : List Bool
without1 = true ∷ false ∷ replicate 6 true

in_replicate : (n d : ℕ) → d < n → get_or (replicate n true) d false ≡ true
in_replicate zero d h = absurd (omega arith)
in_replicate (suc n) zero h = refl
in_replicate (suc n) (suc d) h = in_replicate n d (omega arith)

every_named : (d : ℕ) → d < 8 → is_set every d ≡ true
unfolding every
every_named d h = in_replicate 8 d h

pub without1_named : (d : ℕ) → d < 8 → is_set without1 d ≡ all_but 1 d
unfolding without1
without1_named zero h = refl
without1_named (suc zero) h = refl
without1_named (suc (suc d)) h = in_replicate 6 d (omega arith) ∙ sym (ap not (ne_eqb (suc (suc d)) 1 (λ e. omega arith)))

module _ (g : Geometry) (wb : is_valid g ≡ true) (old : State) where
  ok : Valid g
  ok = valid_if_test g wb

  -- tables of zeros
  abbrev zeros : Tables
  zeros = record { sectors = replicate (total_bytes g) 0; written = replicate (cells g) 0; durable = replicate (cells g) 0 }

  zeros_sized : WellSized g zeros
  zeros_sized = record { sectors_long = length-replicate {A = ℕ} (total_bytes g) 0; written_long = length-replicate {A = ℕ} (cells g) 0; durable_long = length-replicate {A = ℕ} (cells g) 0 }

  zero_at : (n k : ℕ) → ◌≡◌ {A = ℕ} (get_or (replicate n 0) k 0) 0
  zero_at zero k = refl
  zero_at (suc n) zero = refl
  zero_at (suc n) (suc k) = zero_at n k

  zeros_order : (d : ℕ) → InOrder g d zeros.written zeros.durable
  zeros_order d = record { written_most = λ z h. rw (zero_at (cells g) (cell g d z)) (omega arith); durable_most = λ z h. le_refl (get_or (replicate (cells g) 0) (cell g d z) 0) }

  none_left_out : (p : ℕ → Bool) (n : ℕ) → ((d : ℕ) → d < n → p d ≡ false) → count_below p n ≡ 0
  none_left_out p zero h = refl
  none_left_out p (suc n) h = rw (h n (omega arith), none_left_out p n (λ d l. h d (omega arith))) refl

  unnamed_none : (d : ℕ) → d < g.drives → not (is_set every d) ≡ false
  unnamed_none d h = ap not (every_named d (omega (arith, h, ok.drives_most)))

  format_passes : FormatPassed g every zeros
  format_passes = record {
    valid_test = wb;
    lengths_fit_lem = sized_lengths g zeros zeros_sized;
    pointers_fit = order_passes g every zeros.written zeros.durable (λ d hd e. zeros_order d);
    one_unnamed = unfold two_unnamed in rw (none_left_out (λ d. not (is_set every d)) g.drives unnamed_none) refl;
  }

  format_accepted : format_verdict g every zeros ≡ accept
  unfolding format_verdict format_rows
  format_accepted = let f = format_passes in passed (format_rows g (lengths_of zeros) (bad_in g every zeros) (is_set every) (device_of g zeros)) (ap not f.valid_test, (ap not f.lengths_fit_lem, (f.pointers_fit, (f.one_unnamed, tt))))

  -- a format with as many stores as it takes finishes
  abbrev count : ℕ
  count = length (format_stores g (named_drives g (is_set every)) (left_out g (is_set every)) 7)

  pub format_finishes : (format_on g every 7 old count zeros).outcome.answer ≡ Finished
  unfolding format_on
  format_finishes = rw (format_accepted, le-ltb count count (le_refl count)) refl

  pub none_lost_lem : left_out g (is_set every) ≡ no_drive
  unfolding left_out
  none_lost_lem = go (find_below_is (λ d. not (is_set every d)) g.drives)
    where
      go : ((find_below (λ d. not (is_set every d)) g.drives ≡ no_drive) × ((k : ℕ) → k < g.drives → not (is_set every k) ≡ false)) ⊎ ((find_below (λ d. not (is_set every d)) g.drives < g.drives) × (not (is_set every (find_below (λ d. not (is_set every d)) g.drives)) ≡ true))
          → find_below (λ d. not (is_set every d)) g.drives ≡ no_drive
      go (inl (e, f)) = e
      go (inr (l, f)) = absurd (true≢false (sym f ∙ unnamed_none _ l))

  -- ---- the history
  abbrev formatted : System (on_tables g)
  formatted = start g (on_tables g) every (call_result (format_on g every 7 old count zeros))

  formatted_ok : TablesOk g formatted
  unfolding format_on
  formatted_ok = rw format_accepted (start_ok g every 7 old count zeros (omega arith) format_accepted (le-ltb count count (le_refl count)))

  abbrev after_cut : Tables
  after_cut = record { sectors = formatted.memory.sectors; written = formatted.memory.durable; durable = formatted.memory.durable }

  unfoldable pub history : ℕ → List (Event (on_tables g))
  history stop = cuts after_cut ∷ loses 1 after_cut ∷ calls mounts without1 stop ∷ []

  pub duties_done : (stop : ℕ) → Dutiful g (on_tables g) formatted (history stop)
  unfolding history
  duties_done stop =
      (cut_to_durable g (left_out g (is_set every)) formatted.memory formatted_ok.sized formatted_ok.order, ((omega (arith, ok.drives_least), inl none_lost_lem, loss_none g 1 after_cut), ((record { drives = λ d h. without1_named d (omega (arith, h, ok.drives_most)) }, tt, tt), tt)))

  pub promise_kept : (stop : ℕ) → Throughout g (on_tables g) formatted (history stop)
  promise_kept stop = tables_keep_the_promise g every 7 old count zeros (omega arith) format_finishes (history stop) (duties_done stop)
