-- A format on the tables: its refusals as numbers, its four phases as the code makes them.
use Rattle.std.specs.Prelude.{◌≡◌, ◌⊎◌, Bool, true, false, ◌&&◌, ℕ, zero, suc, ◌≤◌, ◌<◌, List, [], ◌∷◌, ◌++◌, length, take, replicate, ltb, eqb}
use Rattle.std.proofs.Math.Path.{refl, fun_ext}
use Rattle.std.proofs.Common.{ap, ap₂, ◌∙◌, inl, inr, arith}
use Rattle.std.proofs.Math.Bool.{not}
use Rattle.std.proofs.Math.Decide.{dec_lt}
use borrow.Author.Tests.{lt-ltb, le-ltb, ne_eqb}
use Rattle.tables.specs.declared.Geometry.{Geometry}
use Rattle.tables.specs.meaning.Below.{count_below, each_below}
use Rattle.tables.specs.meaning.Drives.{find_below}
use Rattle.tables.specs.laws.Drives.{find_below_is}
use Rattle.tables.specs.meaning.Device.{Store, append, reset}
use Rattle.tables.specs.meaning.Geometry.{Valid, physical_zones}
use Rattle.tables.specs.meaning.GeometryTest.{is_valid}
use Rattle.tables.specs.laws.GeometryTest.{valid_if_test}
use Rattle.tables.specs.meaning.Phases.{on_present}
use Rattle.tables.specs.laws.Phases.{on_present_append}
use Rattle.tables.specs.meaning.Tables.{tables_of, lengths_fit, pointers_bad}
use Rattle.tables.specs.laws.Made.{store_if, Made, MadeAppends, MadePointers}
use Rattle.tables.specs.laws.Counted.{made_nil, made_append}
use Rattle.logs.specs.meaning.Entry.{general_zone, label, counters, encode}
use Rattle.volume.specs.meaning.State.{call_present}
use Rattle.volume.specs.meaning.Refusals.{first_refusal, format_rows, two_unnamed}
use Rattle.volume.specs.meaning.Calls.{flush_stores, generations_from, append_general, format_stores}
use Rattle.volume.specs.meaning.Answers.{left_out, named_drives}
use Rattle.volume.specs.meaning.CallContracts.{is_set, verdict_number, format_verdict}
use Rattle.volume.specs.checks.CheckLaws.{present_list, present_is}
use Rattle.volume.specs.checks.StoreLoops.{present_one, first_generations}

-- ==== refusals
abbrev pub format_checks : Geometry → List Bool → ℕ → List ℕ → List ℕ → List (ℕ × Bool)
format_checks g named sectors ws ds =
    (1, not (is_valid g))
    ∷ (2, not (lengths_fit g sectors (length ws) (length ds)))
    ∷ (3, pointers_bad g named ws ds)
    ∷ (4, ltb 1 (count_below (λ d. not (is_set named d)) g.drives))
    ∷ []

unfoldable pub format_number : Geometry → List Bool → ℕ → List ℕ → List ℕ → ℕ
format_number g named sectors ws ds = verdict_number (first_refusal (format_checks g named sectors ws ds))

module _ (g : Geometry) (named : List Bool) (sectors : ℕ) (ws ds : List ℕ) where
  pub format_1 : is_valid g ≡ false → 1 ≡ format_number g named sectors ws ds
  unfolding format_number
  format_1 a = rw a refl

  pub format_2 : is_valid g ≡ true → lengths_fit g sectors (length ws) (length ds) ≡ false → 2 ≡ format_number g named sectors ws ds
  unfolding format_number
  format_2 a b = rw (a, b) refl

  pub format_3 : is_valid g ≡ true → lengths_fit g sectors (length ws) (length ds) ≡ true → pointers_bad g named ws ds ≡ true → 3 ≡ format_number g named sectors ws ds
  unfolding format_number
  format_3 a b c = rw (a, b, c) refl

  pub format_4 : is_valid g ≡ true → lengths_fit g sectors (length ws) (length ds) ≡ true → pointers_bad g named ws ds ≡ false → 1 < count_below (λ d. not (is_set named d)) g.drives
      → 4 ≡ format_number g named sectors ws ds
  unfolding format_number
  format_4 a b c d = rw (a, b, c, lt-ltb 1 (count_below (λ e. not (is_set named e)) g.drives) d) refl

  pub format_0 : is_valid g ≡ true → lengths_fit g sectors (length ws) (length ds) ≡ true → pointers_bad g named ws ds ≡ false → count_below (λ d. not (is_set named d)) g.drives ≤ 1
      → 0 ≡ format_number g named sectors ws ds
  unfolding format_number
  format_0 a b c d = rw (a, b, c, le-ltb 1 (count_below (λ e. not (is_set named e)) g.drives) d) refl

pub format_refusal : (g : Geometry) (named : List Bool) (xs ws ds : List ℕ) → format_number g named (length xs) ws ds ≡ verdict_number (format_verdict g named (tables_of xs ws ds))
unfolding format_number format_verdict format_rows two_unnamed
format_refusal g named xs ws ds = refl

-- what passing them gives
pub format_accepted : (g : Geometry) (named : List Bool) (sectors : ℕ) (ws ds : List ℕ) → format_number g named sectors ws ds ≡ 0 → Valid g × (lengths_fit g sectors (length ws) (length ds) ≡ true)
unfolding format_number
format_accepted g named sectors ws ds h =
    let (v, l) = two (is_valid g) (lengths_fit g sectors (length ws) (length ds)) (pointers_bad g named ws ds) (ltb 1 (count_below (λ d. not (is_set named d)) g.drives)) h in
    (valid_if_test g v, l)
  where
    two : (a b c d : Bool) → verdict_number (first_refusal ((1, not a) ∷ (2, not b) ∷ (3, c) ∷ (4, d) ∷ [])) ≡ 0 → (a ≡ true) × (b ≡ true)
    two true true c d q = (refl, refl)
    two true false c d q = absurd (omega arith)
    two false b c d q = absurd (omega arith)

-- ==== the drives
-- those named, as an array: a state that has lost none leaves the same ones
pub named_is : (g : Geometry) (named : List Bool) → Valid g → is_set (present_list g named 255) ≡ named_drives g (is_set named)
unfolding named_drives call_present
named_is g named v = present_is g named (record { lost = 255; zones = []; shares = [] }) ∙ fun_ext λ d. go d (dec_lt d g.drives)
  where
    all : (b : Bool) → b && true ≡ b
    all true = refl
    all false = refl

    go : (d : ℕ) → Dec (d < g.drives) → ltb d g.drives && (is_set named d && not (eqb d 255)) ≡ ltb d g.drives && is_set named d
    go d (yes h) = rw (ne_eqb d 255 (omega (arith, v.drives_most))) (ap (λ (b : Bool). ltb d g.drives && b) (all (is_set named d)))
    go d (no h) = rw (le-ltb d g.drives (omega arith)) refl

pub left_out_named : (g : Geometry) (named : List Bool) → find_below (λ d. not (is_set named d)) g.drives ≡ left_out g (is_set named)
unfolding left_out
left_out_named g named = refl

-- the drive left out fits a label's byte
pub find_small : (p : ℕ → Bool) (n : ℕ) → n ≤ 255 → find_below p n < 256
find_small p n h = go (find_below_is p n)
  where
    go : ((find_below p n ≡ 255) × ((k : ℕ) → k < n → p k ≡ false)) ⊎ ((find_below p n < n) × (p (find_below p n) ≡ true)) → find_below p n < 256
    go (inl q) = omega (arith, q.0)
    go (inr q) = omega (arith, q.0)

-- ==== stores
-- a drive's resets, its label and counters
abbrev pub drive_resets : Geometry → ℕ → List Store
drive_resets g d = each_below (λ y. reset d y ∷ []) (physical_zones g)

abbrev pub drive_entries : Geometry → ℕ → ℕ → ℕ → List Store
drive_entries g x a d = append_general g (label x a) d ++ append_general g (counters (generations_from (λ z. 1) zero g.zones)) d

-- the same of a drive that is here, or not
abbrev pub resets_if : Bool → ℕ → ℕ → List Store
resets_if here d n = each_below (λ y. store_if here (reset d y)) n

abbrev pub entries_if : Geometry → Bool → ℕ → ℕ → ℕ → List Store
entries_if g here x a d = store_if here (append d general_zone (encode g d (label x a))) ++ store_if here (append d general_zone (encode g d (counters (generations_from (λ z. 1) zero g.zones))))

resets_on : (present : ℕ → Bool) (d n : ℕ) → on_present present (each_below (λ y. reset d y ∷ []) n) ≡ resets_if (present d) d n
resets_on present d zero = refl
resets_on present d (suc n) = on_present_append present (each_below (λ y. reset d y ∷ []) n) (reset d n ∷ []) ∙ ap₂ (λ (p q : List Store). p ++ q) (resets_on present d n) (present_one present (reset d n))

pub resets_more : (g : Geometry) (present : ℕ → Bool) (d : ℕ) → on_present present (each_below (drive_resets g) (suc d)) ≡ on_present present (each_below (drive_resets g) d) ++ resets_if (present d) d (physical_zones g)
resets_more g present d = on_present_append present (each_below (drive_resets g) d) (drive_resets g d) ∙ ap (λ (r : List Store). on_present present (each_below (drive_resets g) d) ++ r) (resets_on present d (physical_zones g))

pub entries_more : (g : Geometry) (present : ℕ → Bool) (x a d : ℕ) → on_present present (each_below (drive_entries g x a) (suc d)) ≡ on_present present (each_below (drive_entries g x a) d) ++ entries_if g (present d) x a d
entries_more g present x a d =
    let p = append d general_zone (encode g d (label x a)) in
    let q = append d general_zone (encode g d (counters (generations_from (λ z. 1) zero g.zones))) in
    on_present_append present (each_below (drive_entries g x a) d) (drive_entries g x a d)
    ∙ ap (λ (r : List Store). on_present present (each_below (drive_entries g x a) d) ++ r) (on_present_append present (p ∷ []) (q ∷ []) ∙ ap₂ (λ (r s : List Store). r ++ s) (present_one present p) (present_one present q))

-- "counters (all 1)"
pub ones_first : (k : ℕ) → k ≤ 16 → take k (replicate 16 1) ≡ generations_from (λ z. 1) zero k
ones_first k h = first_generations (λ z. 1) 16 k h

-- the four phases, one after the other
pub format_made : (g : Geometry) (present : ℕ → Bool) (x a b₀ b₁ b₂ b₃ b₄ : ℕ) (xs ws ds ws₁ ds₁ ds₂ xs₁ ws₂ ds₃ : List ℕ)
    → MadePointers g b₀ b₁ (on_present present (each_below (drive_resets g) g.drives)) ws ds ws₁ ds₁
    → MadePointers g b₁ b₂ (flush_stores g present) ws₁ ds₁ ws₁ ds₂
    → MadeAppends g b₂ b₃ (on_present present (each_below (drive_entries g x a) g.drives)) xs ws₁ xs₁ ws₂
    → MadePointers g b₃ b₄ (flush_stores g present) ws₂ ds₂ ws₂ ds₃
    → Made g b₀ b₄ (format_stores g present x a) (tables_of xs ws ds) (tables_of xs₁ ws₂ ds₃)
unfolding format_stores flush_stores
format_made g present x a b₀ b₁ b₂ b₃ b₄ xs ws ds ws₁ ds₁ ds₂ xs₁ ws₂ ds₃ cleared forgot labelled flushed =
    made_append g b₀ b₁ b₄ _ _ (tables_of xs ws ds) (tables_of xs ws₁ ds₁) (tables_of xs₁ ws₂ ds₃) (cleared.made xs) (
    made_append g b₁ b₂ b₄ _ _ (tables_of xs ws₁ ds₁) (tables_of xs ws₁ ds₂) (tables_of xs₁ ws₂ ds₃) (forgot.made xs) (
    made_append g b₂ b₃ b₄ _ _ (tables_of xs ws₁ ds₂) (tables_of xs₁ ws₂ ds₂) (tables_of xs₁ ws₂ ds₃) (labelled.made ds₂) (
    made_append g b₃ b₄ b₄ _ [] (tables_of xs₁ ws₂ ds₂) (tables_of xs₁ ws₂ ds₃) (tables_of xs₁ ws₂ ds₃) (flushed.made xs₁) (made_nil g b₄ (tables_of xs₁ ws₂ ds₃)))))
