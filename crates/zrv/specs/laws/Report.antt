-- Laws of the report on bytes: what passing its test gives, how the list is filled, and that it is volume's report.
use Rattle.std.specs.Prelude.{◌≡◌, ◌≢◌, Bool, true, false, ◌&&◌, not, ltb, eqb}
use Rattle.std.proofs.Math.Path.{refl, ap}
use Rattle.std.proofs.Common.{sym, ap₂, ◌∙◌, arith, length-append, eqb-true, ltb-true, ltb-false, ne_eqb}
use Prim.Native.Nat.{ℕ, zero, suc, ◌+◌, ◌*◌, ◌/◌, ◌%◌, ◌≤◌, ◌<◌}
use Rattle.std.proofs.Math.Decide.{ℕ_discrete}
use mathlib.Core.List.{List, [], ◌∷◌, ◌++◌}
use Rattle.std.proofs.Math.ListN.{length, drop, get_or-append}
use Rattle.std.proofs.lemmas.List.{length-replicate}
use Rattle.tables.specs.declared.Geometry.{Geometry}
use Rattle.tables.specs.meaning.Basics.{pick}
use Rattle.tables.specs.laws.Basics.{and_split, and_join, not_not}
use Rattle.tables.specs.meaning.Below.{each_below, tabulate}
use Rattle.tables.specs.laws.Below.{length_tabulate, get_d_tabulate}
use Rattle.tables.specs.meaning.Geometry.{Valid, cells}
use Rattle.tables.specs.meaning.GeometryTest.{is_valid}
use Rattle.tables.specs.laws.GeometryTest.{valid_if_test}
use Rattle.tables.specs.meaning.Lists.{overlay}
use Rattle.tables.specs.meaning.LittleEndian.{bytes_le}
use Rattle.tables.specs.laws.LittleEndian.{write_le}
use Rattle.tables.specs.laws.Lists.{lay_lay}
use Rattle.volume.specs.declared.Condition.{Condition}
use Rattle.volume.specs.declared.State.{State}
use Rattle.volume.specs.declared.ZoneDescriptor.{ZoneDescriptor}
use Rattle.volume.specs.meaning.Refusals.{state_within}
use Rattle.volume.specs.meaning.CallContracts.{view_state}
use Rattle.volume.specs.meaning.Report.{told_number, descriptor_of, may_report, filled_number, filled_list, ReportResult, report_of}
use Rattle.volume.specs.laws.Report.{filled_most, report_finished}
use Rattle.volume.specs.laws.EachBelow.{each_below_cong}
use Rattle.volume.specs.reading.Reporting.{report_number, number_if}
use Rattle.zrv.specs.meaning.Bytes.{state_bytes, state_from, state_well_formed, descriptor_to}
use Rattle.zrv.specs.meaning.EdgeCalls.{sizes_fit, state_bad, input_number, report_input, descriptors_in, unread_descriptor, lent_for, filled_bytes, with_number, report_bytes, report_of_bytes, report_edge, Answered, answered, unless_refused}
use Rattle.zrv.specs.laws.Bytes.{lay_next}
use Rattle.zrv.specs.laws.EdgeCalls.{refused, made}

-- what passing the test gives
pub record Reportable (g : Geometry) (st : List ℕ) : Type 0 where
  pub valid : Valid g
  pub state_long : length st ≡ state_bytes
  pub may : may_report g (view_state (state_from g st)) ≡ true

pub report_passed : (g : Geometry) (st : List ℕ) → report_input g st ≡ 0 → Reportable g st
unfolding report_input state_bad
report_passed g st h = go (is_valid g) refl (eqb (length st) state_bytes) refl (state_well_formed g st) refl (state_within g (view_state (state_from g st))) refl h
  where
    go : (v : Bool) → is_valid g ≡ v → (l : Bool) → eqb (length st) state_bytes ≡ l → (f : Bool) → state_well_formed g st ≡ f → (w : Bool) → state_within g (view_state (state_from g st)) ≡ w
        → ◌≡◌ {A = ℕ} (pick v (pick (l && not (f && w)) 1 (pick l 0 2)) 1) 0 → Reportable g st
    go false a l b f c w d k = absurd (omega arith)
    go true a false b f c w d k = absurd (omega arith)
    go true a true b false c w d k = absurd (omega arith)
    go true a true b true c false d k = absurd (omega arith)
    go true a true b true c true d k = record { valid = valid_if_test g a; state_long = eqb-true (length st) state_bytes b; may = and_join (is_valid g) (state_within g (view_state (state_from g st))) a d }

-- then as many are filled as are lent, but at most the zones; and there is room for them
pub number_passed : (g : Geometry) (st list : List ℕ) → Reportable g st → report_number g (view_state (state_from g st)) (descriptors_in list) ≡ filled_number g (descriptors_in list)
number_passed g st list r = number_if g (view_state (state_from g st)) (descriptors_in list) true (ltb (descriptors_in list) g.zones) r.may refl

pub number_room : (g : Geometry) (list : List ℕ) → (filled_number g (descriptors_in list) ≤ g.zones) × (filled_number g (descriptors_in list) * 32 ≤ length list)
number_room g list = (filled_most g (descriptors_in list), go (ltb (length list / 32) g.zones) refl)
  where
    go : (b : Bool) → ltb (length list / 32) g.zones ≡ b → pick b (length list / 32) g.zones * 32 ≤ length list
    go true e = omega arith
    go false e = let l : g.zones ≤ length list / 32 = ltb-false (length list / 32) g.zones e in omega arith

-- ---- a descriptor's four numbers, laid one after the other
pub descriptor_laid : (xs : List ℕ) (at : ℕ) (d : ZoneDescriptor) → at + 32 ≤ length xs
    → write_le 8 (write_le 8 (write_le 8 (write_le 8 xs at d.start) (at + 8) d.capacity) (at + 16) d.pointer) (at + 24) (told_number d.condition) ≡ overlay xs at (descriptor_to d)
unfolding descriptor_to
descriptor_laid xs at d h =
    let a = bytes_le 8 d.start in
    let b = bytes_le 8 d.capacity in
    let c = bytes_le 8 d.pointer in
    let e = bytes_le 8 (told_number d.condition) in
    ap (λ (ys : List ℕ). overlay (overlay ys (at + 16) c) (at + 24) e) (lay_lay xs at a b (omega arith)) ∙ ap (λ (ys : List ℕ). overlay ys (at + 24) e) (lay_lay xs at (a ++ b) c (omega arith)) ∙ lay_lay xs at (a ++ b ++ c) e (omega arith)

pub length_descriptor_to : (d : ZoneDescriptor) → length (descriptor_to d) ≡ 32
unfolding descriptor_to
length_descriptor_to d = refl

-- ---- the list while it is filled: with the descriptors of its first n zones, in these conditions
unfoldable pub told_bytes : Geometry → (ℕ → Condition) → ℕ → List ℕ → List ℕ
told_bytes g condition n list = each_below (λ z. descriptor_to (descriptor_of g z (condition z))) n ++ drop (n * 32) list

module _ (g : Geometry) (condition : ℕ → Condition) where
  abbrev told : ℕ → List ℕ
  told z = descriptor_to (descriptor_of g z (condition z))

  length_told : (n : ℕ) → length (each_below told n) ≡ n * 32
  length_told zero = refl
  length_told (suc n) = length-append (each_below told n) (told n) ∙ rw (length_told n, length_descriptor_to (descriptor_of g n (condition n))) (omega arith)

  pub told_start : (list : List ℕ) → list ≡ told_bytes g condition 0 list
  unfolding told_bytes
  told_start list = refl

  pub told_more : (z : ℕ) (list : List ℕ) → overlay (told_bytes g condition z list) (z * 32) (descriptor_to (descriptor_of g z (condition z))) ≡ told_bytes g condition (suc z) list
  unfolding told_bytes
  told_more z list =
      let e : z * 32 + length (told z) ≡ suc z * 32 = rw (length_descriptor_to (descriptor_of g z (condition z))) (omega arith) in
      lay_next (each_below told z) list (told z) (z * 32) (length_told z) ∙ ap (λ (k : ℕ). each_below told (suc z) ++ drop k list) e

  -- they are the bytes of the descriptors that the call on a list fills
  filled_told : (n : ℕ) (ds : List ZoneDescriptor) (list : List ℕ) → filled_bytes (filled_list g condition n ds) n list ≡ told_bytes g condition n list
  unfolding filled_bytes told_bytes
  filled_told n ds list = ap (λ (xs : List ℕ). xs ++ drop (n * 32) list) (each_below_cong _ _ n (λ z h. ap descriptor_to (get_or-append (tabulate f n) (drop n ds) unread_descriptor z (rw (length_tabulate f n) h) ∙ get_d_tabulate f n z unread_descriptor h)))
    where
      f : ℕ → ZoneDescriptor
      f z = descriptor_of g z (condition z)

-- ---- what is returned and left then is volume's report
pub report_made : (g : Geometry) (st list : List ℕ) → Reportable g st → {n : ℕ} {left : List ℕ} → n ≡ filled_number g (descriptors_in list)
    → left ≡ told_bytes g (view_state (state_from g st)).condition n list → answered (4294967296 * n) left ≡ report_bytes (report_of_bytes g st list) list
report_made g st list r {n} {left} e f =
    let state = view_state (state_from g st) in
    let k = filled_number g (length (lent_for list)) in
    let same : n ≡ k = e ∙ ap (filled_number g) (sym (length-replicate {A = ZoneDescriptor} (descriptors_in list) unread_descriptor)) in
    let number : 4294967296 * n ≡ with_number 0 k = omega (arith, same) in
    ap₂ answered number (f ∙ ap (λ (m : ℕ). told_bytes g state.condition m list) same ∙ sym (filled_told g state.condition k (lent_for list) list))
    ∙ ap (λ (x : ReportResult (List ZoneDescriptor)). report_bytes x list) (sym (report_finished g state r.may (lent_for list)))

-- ---- refused, the list is as it was: the low 32 bits of what is returned are the refusal's number
pub report_refused : (g : Geometry) (st list : List ℕ) → (report_edge g st list).code % 4294967296 ≢ 0 → (report_edge g st list).left ≡ list
report_refused g st list h = go (ℕ_discrete (report_input g st) 0)
  where
    r : Answered (List ℕ)
    r = report_bytes (report_of_bytes g st list) list

    low : (n : ℕ) → (0 + 4294967296 * n) % 4294967296 ≡ 0
    low n = omega arith

    finished : report_input g st ≡ 0 → report_of_bytes g st list ≡ report_of g (view_state (state_from g st)).condition (lent_for list)
    finished e = report_finished g (view_state (state_from g st)) (report_passed g st e).may (lent_for list)

    go : Dec (report_input g st ≡ 0) → (report_edge g st list).left ≡ list
    go (no e) = ap (λ (x : Answered (List ℕ)). x.left) (sym (refused (report_input g st) r list e))
    go (yes e) = absurd (h (ap (λ (x : Answered (List ℕ)). x.code % 4294967296) (sym (made (report_input g st) r list e))
        ∙ ap (λ (x : ReportResult (List ZoneDescriptor)). (report_bytes x list).code % 4294967296) (finished e) ∙ low (filled_number g (length (lent_for list)))))

-- ---- what a call that reads the state is not refused for, a report is not refused for
pub input_reports : (g : Geometry) (st : List ℕ) (w d : ℕ) → input_number g st w d ≡ 0 → report_input g st ≡ 0
unfolding input_number report_input sizes_fit
input_reports g st w d h = go (is_valid g) (state_bad g st) (eqb (length st) state_bytes) (eqb w (cells g * 4) && eqb d (cells g * 4)) h
  where
    go : (v b l f : Bool) → ◌≡◌ {A = ℕ} (pick v (pick b 1 (pick (l && f) 0 2)) 1) 0 → ◌≡◌ {A = ℕ} (pick v (pick b 1 (pick l 0 2)) 1) 0
    go false b l f k = absurd (omega arith)
    go true true l f k = absurd (omega arith)
    go true false true f k = refl
    go true false false f k = absurd (omega arith)
