-- The report in the code's terms: what its functions hand on, which zones it describes, and one turn of its loop.
use Rattle.std.specs.Prelude.{◌≡◌, Bool, ℕ, suc, ◌*◌, ◌<◌, ◌≤◌, List, ◌++◌, length, get_or, set, drop}
use Rattle.std.proofs.Math.Path.{refl, ap}
use Rattle.std.proofs.Common.{sym, ◌∙◌, length-append, length-drop, drop-cons}
use Rattle.std.proofs.Math.Bool.{true, false}
use native.Mathlib.Omega.{arith}
use Rattle.std.proofs.lemmas.List.{set_at}
use Rattle.std.proofs.Math.Seq.{append_snoc}
use Rattle.std.proofs.Math.Dec.{ltb}
use borrow.Author.Tests.{ltb-true, ltb-false}
use Rattle.tables.specs.declared.Geometry.{Geometry}
use Rattle.tables.specs.meaning.Basics.{pick}
use Rattle.tables.specs.laws.Basics.{and_split}
use Rattle.tables.specs.meaning.Below.{tabulate}
use Rattle.tables.specs.laws.Below.{length_tabulate}
use Rattle.tables.specs.meaning.Geometry.{Valid, zone_sectors}
use Rattle.tables.specs.meaning.GeometryTest.{is_valid}
use Rattle.tables.specs.laws.GeometryTest.{valid_if_test}
use Rattle.volume.specs.declared.Answer.TheVariants.{Finished, Refused}
use Rattle.volume.specs.declared.Condition.{Condition}
use Rattle.volume.specs.declared.Reported.{Reported}
use Rattle.volume.specs.declared.ReportedCondition.{ReportedCondition}
use Rattle.volume.specs.declared.ZoneDescriptor.{ZoneDescriptor}
use Rattle.volume.specs.meaning.State.{StateView, pointer_in}
use Rattle.volume.specs.meaning.Refusals.{state_within}
use Rattle.volume.specs.meaning.Report.{told_of, descriptor_of, may_report, filled_number, filled_list, report_of, report_on}

-- what is handed back with a number
abbrev pub reported_as : Geometry → StateView → ℕ → Reported
reported_as g state n = record { answer = pick (may_report g state) Finished (Refused 1); number = n }

pub reported_if : (g : Geometry) (state : StateView) (n : ℕ) (b : Bool) → may_report g state ≡ b → reported_as g state n ≡ record { answer = pick b Finished (Refused 1); number = n }
reported_if g state n b e = ap (λ (c : Bool). record { answer = pick c Finished (Refused 1); number = n }) e

-- what is told of a zone, field by field
pub described : (g : Geometry) (z : ℕ) (c : Condition) {sectors pointer : ℕ} {told : ReportedCondition} → sectors ≡ zone_sectors g → pointer ≡ pointer_in c → told ≡ told_of c
    → record { start = z * sectors; capacity = sectors; pointer = pointer; condition = told } ≡ descriptor_of g z c
described g z c a b d = rw (a, b, d) refl

-- ---- how many are filled: none if the report is refused
unfoldable pub report_number : Geometry → StateView → ℕ → ℕ
report_number g state room = pick (may_report g state) (filled_number g room) 0

module _ (g : Geometry) (state : StateView) (room : ℕ) where
  pub number_if : (b c : Bool) → may_report g state ≡ b → ltb room g.zones ≡ c → report_number g state room ≡ pick b (pick c room g.zones) 0
  unfolding report_number
  number_if b c e f = ap (λ (t : Bool). pick t (pick (ltb room g.zones) room g.zones) 0) e ∙ ap (λ (t : Bool). pick b (pick t room g.zones) 0) f

  -- a number below it: its zone is there and can be described, and there is room for it
  pub below_number : (z : ℕ) → z < report_number g state room → Valid g × (z < g.zones) × (z < room)
  unfolding report_number
  below_number z h = go (may_report g state) refl (ltb room g.zones) refl h
    where
      go : (b : Bool) → may_report g state ≡ b → (c : Bool) → ltb room g.zones ≡ c → z < pick b (pick c room g.zones) 0 → Valid g × (z < g.zones) × (z < room)
      go false e c f h = absurd (omega (arith, h))
      go true e true f h = let l : room < g.zones = ltb-true room g.zones f in (valid_if_test g (and_split (is_valid g) (state_within g state) e).0, omega (arith, h, l), h)
      go true e false f h = let l : g.zones ≤ room = ltb-false room g.zones f in (valid_if_test g (and_split (is_valid g) (state_within g state) e).0, h, omega (arith, h, l))

  pub number_most : report_number g state room ≤ room
  unfolding report_number
  number_most = go (may_report g state) (ltb room g.zones) refl
    where
      go : (b c : Bool) → ltb room g.zones ≡ c → pick b (pick c room g.zones) 0 ≤ room
      go false c f = omega arith
      go true true f = omega arith
      go true false f = ltb-false room g.zones f

-- ---- so they hand back what the report is
module _ (g : Geometry) (state : StateView) (list : List ZoneDescriptor) where
  pub report_answer : (n : ℕ) → (reported_as g state n).answer ≡ (report_on g state list).answer
  unfolding report_on
  report_answer n = go (may_report g state)
    where
      go : (b : Bool) → pick b Finished (Refused 1) ≡ (pick b (report_of g state.condition list) (record { answer = Refused 1; number = 0; list = list })).answer
      go true = refl
      go false = refl

  pub report_number_lem : report_number g state (length list) ≡ (report_on g state list).number
  unfolding report_on report_number
  report_number_lem = go (may_report g state)
    where
      go : (b : Bool) → pick b (filled_number g (length list)) 0 ≡ (pick b (report_of g state.condition list) (record { answer = Refused 1; number = 0; list = list })).number
      go true = refl
      go false = refl

  pub report_list : filled_list g state.condition (report_number g state (length list)) list ≡ (report_on g state list).list
  unfolding report_on report_number
  report_list = go (may_report g state)
    where
      go : (b : Bool) → filled_list g state.condition (pick b (filled_number g (length list)) 0) list ≡ (pick b (report_of g state.condition list) (record { answer = Refused 1; number = 0; list = list })).list
      go true = refl
      go false = refl

-- ---- the list while it is filled
module _ {A : Type 0} (f : ℕ → A) where
  pub length_filled : (n : ℕ) (xs : List A) → n ≤ length xs → length (tabulate f n ++ drop n xs) ≡ length xs
  length_filled n xs h = length-append (tabulate f n) (drop n xs) ∙ omega (arith, length_tabulate f n, length-drop n xs)

  pub filled_more : (n : ℕ) (xs : List A) → n < length xs → set (tabulate f n ++ drop n xs) n (f n) ≡ tabulate f (suc n) ++ drop (suc n) xs
  filled_more n xs h =
      ap (λ (ys : List A). set (tabulate f n ++ ys) n (f n)) (drop-cons xs n (f n) h) ∙ set_at (tabulate f n) (get_or xs n (f n)) (drop (suc n) xs) (f n) n (length_tabulate f n) ∙ sym (append_snoc (tabulate f n) (f n) (drop (suc n) xs))
