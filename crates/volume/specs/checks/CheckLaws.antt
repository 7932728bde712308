-- What every call checks first, as numbers: the drives present as the array that the code keeps, refusals 1 to 4 as the rows that they
-- share, and what passing them gives.
use Rattle.std.specs.Prelude.{◌≡◌, Bool, true, false, ◌&&◌, not, ℕ, zero, suc, ◌+◌, ◌-◌, ◌≤◌, ◌<◌, List, [], ◌∷◌, ◌++◌, length, get_or, replicate, ltb, eqb}
use Rattle.std.proofs.Math.Path.{refl, fun_ext}
use Rattle.std.proofs.Common.{sym, ap, ◌∙◌, arith, get_or-append-add, lt-ltb, le-ltb, eq-eqb, eqb-true}
use Rattle.std.proofs.Math.Decide.{dec_lt}
use Rattle.std.proofs.Math.ListN.{get_or-append}
use Rattle.tables.specs.declared.Geometry.{Geometry}
use Rattle.tables.specs.meaning.Basics.{pick}
use Rattle.tables.specs.laws.Basics.{and_split}
use Rattle.tables.specs.meaning.Below.{count_below, tabulate}
use Rattle.tables.specs.laws.Below.{length_tabulate, get_d_tabulate}
use Rattle.tables.specs.meaning.Drives.{find_below}
use Rattle.volume.specs.meaning.Answers.{lost_in}
use Rattle.tables.specs.meaning.Geometry.{Valid, cells, total_bytes, max_drives}
use Rattle.tables.specs.meaning.GeometryTest.{is_valid}
use Rattle.tables.specs.laws.GeometryTest.{valid_if_test, first_if_test}
use Rattle.tables.specs.meaning.Tables.{lengths_fit, buffer_fits, pointers_bad}
use Rattle.volume.specs.declared.State.{State}
use Rattle.volume.specs.meaning.State.{call_present}
use Rattle.volume.specs.meaning.Refusals.{first_refusal, state_within, two_absent}
use Rattle.volume.specs.meaning.CallContracts.{view_state, is_set, verdict_number}

-- ---- the drives of a call
-- as an array of 8: named and not lost, none past the last drive
unfoldable pub present_list : Geometry → List Bool → ℕ → List Bool
present_list g named lost = tabulate (λ d. is_set named d && not (eqb d lost)) g.drives ++ replicate (max_drives - g.drives) false

-- written out, from three drives to eight
pub present_eight : (g : Geometry) (named : List Bool) (lost : ℕ) → Valid g
    → (is_set named 0 && not (eqb 0 lost)) ∷ (is_set named 1 && not (eqb 1 lost)) ∷ (is_set named 2 && not (eqb 2 lost)) ∷ (ltb 3 g.drives && (is_set named 3 && not (eqb 3 lost)))
    ∷ (ltb 4 g.drives && (is_set named 4 && not (eqb 4 lost))) ∷ (ltb 5 g.drives && (is_set named 5 && not (eqb 5 lost))) ∷ (ltb 6 g.drives && (is_set named 6 && not (eqb 6 lost)))
    ∷ (ltb 7 g.drives && (is_set named 7 && not (eqb 7 lost))) ∷ [] ≡ present_list g named lost
unfolding present_list
present_eight g named lost ok = go g.drives ok.drives_least ok.drives_most
  where
    f : ℕ → Bool
    f d = is_set named d && not (eqb d lost)

    go : (n : ℕ) → 3 ≤ n → n ≤ 8 → (f 0 ∷ f 1 ∷ f 2 ∷ (ltb 3 n && f 3) ∷ (ltb 4 n && f 4) ∷ (ltb 5 n && f 5) ∷ (ltb 6 n && f 6) ∷ (ltb 7 n && f 7) ∷ []) ≡ tabulate (λ d. is_set named d && not (eqb d lost)) n ++ replicate (max_drives - n) false
    go zero l m = absurd (omega arith)
    go (suc zero) l m = absurd (omega arith)
    go (suc (suc zero)) l m = absurd (omega arith)
    go (suc (suc (suc zero))) l m = refl
    go (suc (suc (suc (suc zero)))) l m = refl
    go (suc (suc (suc (suc (suc zero))))) l m = refl
    go (suc (suc (suc (suc (suc (suc zero)))))) l m = refl
    go (suc (suc (suc (suc (suc (suc (suc zero))))))) l m = refl
    go (suc (suc (suc (suc (suc (suc (suc (suc zero)))))))) l m = refl
    go (suc (suc (suc (suc (suc (suc (suc (suc (suc n))))))))) l m = absurd (omega arith)

get_d_none : (n i : ℕ) → get_or (replicate n false) i false ≡ false
get_d_none zero i = refl
get_d_none (suc n) zero = refl
get_d_none (suc n) (suc i) = get_d_none n i

past_end : (xs : List Bool) (n d : ℕ) → length xs ≤ d → get_or (xs ++ replicate n false) d false ≡ false
past_end xs n d h =
    let e : d ≡ length xs + (d - length xs) = omega arith in
    ap (λ (i : ℕ). get_or (xs ++ replicate n false) i false) e ∙ get_or-append-add xs (replicate n false) (d - length xs) false ∙ get_d_none n (d - length xs)

-- it is what the rules mean by the drives of the call
pub present_is : (g : Geometry) (named : List Bool) (s : State) → is_set (present_list g named s.lost) ≡ call_present g (is_set named) (view_state s)
unfolding present_list call_present
present_is g named s = fun_ext λ d. go d (dec_lt d g.drives)
  where
    f : ℕ → Bool
    f d = is_set named d && not (eqb d s.lost)

    go : (d : ℕ) → Dec (d < g.drives) → is_set (tabulate (λ e. is_set named e && not (eqb e s.lost)) g.drives ++ replicate (max_drives - g.drives) false) d ≡ ltb d g.drives && (is_set named d && not (eqb d s.lost))
    go d (yes h) = rw (lt-ltb d g.drives h) (get_or-append (tabulate (λ e. is_set named e && not (eqb e s.lost)) g.drives) (replicate (max_drives - g.drives) false) false d (rw (length_tabulate (λ e. is_set named e && not (eqb e s.lost)) g.drives) h) ∙ get_d_tabulate (λ e. is_set named e && not (eqb e s.lost)) g.drives d false h)
    go d (no h) = rw (le-ltb d g.drives (omega arith)) (past_end (tabulate (λ e. is_set named e && not (eqb e s.lost)) g.drives) (max_drives - g.drives) d (rw (length_tabulate (λ e. is_set named e && not (eqb e s.lost)) g.drives) (omega arith)))

pub absent_two : (g : Geometry) (named : List Bool) (s : State) → ltb 1 (count_below (λ d. not (is_set (present_list g named s.lost) d)) g.drives) ≡ two_absent g (is_set named) (view_state s)
unfolding two_absent
absent_two g named s = ap (λ (p : ℕ → Bool). ltb 1 (count_below (λ d. not (p d)) g.drives)) (present_is g named s)

pub left_out_is : (g : Geometry) (named : List Bool) (s : State) → find_below (λ d. not (is_set (present_list g named s.lost) d)) g.drives ≡ lost_in g (is_set named) (view_state s)
unfolding lost_in
left_out_is g named s = ap (λ (p : ℕ → Bool). find_below (λ d. not (p d)) g.drives) (present_is g named s)

-- ---- refusals 1 to 4; a call without a buffer has count 0 and no bytes
abbrev opening_rows : Geometry → List Bool → Bool → ℕ → ℕ → ℕ → ℕ → List ℕ → List ℕ → List (ℕ × Bool)
opening_rows g named within lost count bytes sectors ws ds =
    (1, not within)
    ∷ (2, not (lengths_fit g sectors (length ws) (length ds) && buffer_fits g count bytes))
    ∷ (3, pointers_bad g named ws ds)
    ∷ (4, ltb 1 (count_below (λ d. not (is_set (present_list g named lost) d)) g.drives))
    ∷ []

-- by what refusal 1 found, and the lost drive
unfoldable pub opening_from : Geometry → List Bool → Bool → ℕ → ℕ → ℕ → ℕ → List ℕ → List ℕ → ℕ
opening_from g named within lost count bytes sectors ws ds = verdict_number (first_refusal (opening_rows g named within lost count bytes sectors ws ds))

unfoldable pub opening_number : Geometry → List Bool → State → ℕ → ℕ → ℕ → List ℕ → List ℕ → ℕ
opening_number g named s count bytes sectors ws ds = verdict_number (first_refusal (opening_rows g named (is_valid g && state_within g (view_state s)) s.lost count bytes sectors ws ds))

pub opening_is : (g : Geometry) (named : List Bool) (s : State) (within : Bool) (count bytes sectors : ℕ) (ws ds : List ℕ) → within ≡ is_valid g && state_within g (view_state s)
    → opening_from g named within s.lost count bytes sectors ws ds ≡ opening_number g named s count bytes sectors ws ds
unfolding opening_from opening_number
opening_is g named s within count bytes sectors ws ds e = rw e refl

-- a geometry that passed refusal 1 is valid
pub record Tested (within : Bool) (g : Geometry) : Type 0 where
  pub valid : within ≡ true → Valid g

pub tested : (g : Geometry) (s : State) (within : Bool) → within ≡ is_valid g && state_within g (view_state s) → Tested within g
tested g s within e = record { valid = λ h. valid_if_test g (and_split (is_valid g) (state_within g (view_state s)) (sym e ∙ h)).0 }

-- what passing them gives
pub record Opened (g : Geometry) (named : List Bool) (s : State) (count bytes sectors : ℕ) (ws ds : List ℕ) : Type 0 where
  pub valid : Valid g
  pub logs_first : g.logs ≡ 0
  pub within : state_within g (view_state s) ≡ true
  pub lengths : lengths_fit g sectors (length ws) (length ds) ≡ true
  pub buffer : buffer_fits g count bytes ≡ true
  pub pointers : pointers_bad g named ws ds ≡ false
  pub drives : ltb 1 (count_below (λ d. not (is_set (present_list g named s.lost) d)) g.drives) ≡ false

four : (a b c d : Bool) → verdict_number (first_refusal ((1, not a) ∷ (2, not b) ∷ (3, c) ∷ (4, d) ∷ [])) ≡ 0 → (a ≡ true) × (b ≡ true) × (c ≡ false) × (d ≡ false)
four true true false false h = (refl, refl, refl, refl)
four true true false true h = absurd (omega arith)
four true true true d h = absurd (omega arith)
four true false c d h = absurd (omega arith)
four false b c d h = absurd (omega arith)

pub opened : (g : Geometry) (named : List Bool) (s : State) (count bytes sectors : ℕ) (ws ds : List ℕ) → opening_number g named s count bytes sectors ws ds ≡ 0 → Opened g named s count bytes sectors ws ds
unfolding opening_number
opened g named s count bytes sectors ws ds h =
    let q = four (is_valid g && state_within g (view_state s)) (lengths_fit g sectors (length ws) (length ds) && buffer_fits g count bytes) (pointers_bad g named ws ds) (ltb 1 (count_below (λ d. not (is_set (present_list g named s.lost) d)) g.drives)) h in
    let (v, w) = and_split (is_valid g) (state_within g (view_state s)) q.0 in
    let (l, b) = and_split (lengths_fit g sectors (length ws) (length ds)) (buffer_fits g count bytes) q.1 in
    record { valid = valid_if_test g v; logs_first = first_if_test g v; within = w; lengths = l; buffer = b; pointers = q.2; drives = q.3 }

-- what the code found of them: none applies
module _ (g : Geometry) (named : List Bool) (s : State) (within : Bool) (count bytes sectors : ℕ) (ws ds : List ℕ) (e : within ≡ is_valid g && state_within g (view_state s)) (n : 0 ≡ opening_from g named within s.lost count bytes sectors ws ds) where
  pub none_opening : opening_number g named s count bytes sectors ws ds ≡ 0
  none_opening = sym (n ∙ opening_is g named s within count bytes sectors ws ds e)

  pub opened_by : Opened g named s count bytes sectors ws ds
  opened_by = opened g named s count bytes sectors ws ds none_opening

-- the number, case by case
module _ (g : Geometry) (named : List Bool) (within : Bool) (lost count bytes sectors : ℕ) (ws ds : List ℕ) where
  pub opening_1 : within ≡ false → 1 ≡ opening_from g named within lost count bytes sectors ws ds
  unfolding opening_from
  opening_1 a = rw a refl

  pub opening_2 : within ≡ true → lengths_fit g sectors (length ws) (length ds) && buffer_fits g count bytes ≡ false → 2 ≡ opening_from g named within lost count bytes sectors ws ds
  unfolding opening_from
  opening_2 a b = rw (a, b) refl

-- ---- the same where the tables of pointers have their lengths, by what refusal 3 found
unfoldable pub opened_from : Geometry → List Bool → ℕ → ℕ → ℕ → ℕ → Bool → ℕ
opened_from g named lost count bytes sectors bad = verdict_number (first_refusal ((2, not (eqb sectors (total_bytes g) && buffer_fits g count bytes)) ∷ (3, bad) ∷ (4, ltb 1 (count_below (λ d. not (is_set (present_list g named lost) d)) g.drives)) ∷ []))

-- what passing them gives
pub record Opens (g : Geometry) (named : List Bool) (lost count bytes sectors : ℕ) (bad : Bool) : Type 0 where
  pub sectors_long : sectors ≡ total_bytes g
  pub buffer : buffer_fits g count bytes ≡ true
  pub good : bad ≡ false
  pub one_absent : ltb 1 (count_below (λ d. not (is_set (present_list g named lost) d)) g.drives) ≡ false

three : (a b c : Bool) → verdict_number (first_refusal ((2, not a) ∷ (3, b) ∷ (4, c) ∷ [])) ≡ 0 → (a ≡ true) × (b ≡ false) × (c ≡ false)
three true false false h = (refl, refl, refl)
three true false true h = absurd (omega arith)
three true true c h = absurd (omega arith)
three false b c h = absurd (omega arith)

pub opens : (g : Geometry) (named : List Bool) (lost count bytes sectors : ℕ) (bad : Bool) → opened_from g named lost count bytes sectors bad ≡ 0 → Opens g named lost count bytes sectors bad
unfolding opened_from
opens g named lost count bytes sectors bad h =
    let (p, q, r) = three (eqb sectors (total_bytes g) && buffer_fits g count bytes) bad (ltb 1 (count_below (λ d. not (is_set (present_list g named lost) d)) g.drives)) h in
    let (l, b) = and_split (eqb sectors (total_bytes g)) (buffer_fits g count bytes) p in
    record { sectors_long = eqb-true sectors (total_bytes g) l; buffer = b; good = q; one_absent = r }

pub and_true : (b : Bool) → b && true ≡ b
and_true true = refl
and_true false = refl

pub opened_from_lem : (g : Geometry) (named : List Bool) (within : Bool) (lost count bytes sectors : ℕ) (ws ds : List ℕ) → within ≡ true → length ws ≡ cells g → length ds ≡ cells g
    → opened_from g named lost count bytes sectors (pointers_bad g named ws ds) ≡ opening_from g named within lost count bytes sectors ws ds
unfolding opened_from opening_from lengths_fit
opened_from_lem g named within lost count bytes sectors ws ds a x y =
    rw (a, eq-eqb (length ws) (cells g) x, eq-eqb (length ds) (cells g) y, and_true (eqb sectors (total_bytes g))) refl

-- a table of pointers of another length is refusal 2
pub lengths_differ : (g : Geometry) (sectors count bytes : ℕ) (ws ds : List ℕ) → eqb (length ws) (cells g) && eqb (length ds) (cells g) ≡ false → lengths_fit g sectors (length ws) (length ds) && buffer_fits g count bytes ≡ false
unfolding lengths_fit
lengths_differ g sectors count bytes ws ds e = rw e (go (eqb sectors (total_bytes g)))
  where
    go : (b : Bool) → (b && false) && buffer_fits g count bytes ≡ false
    go true = refl
    go false = refl

-- ---- a call's refusal is that of these four, or that of its other rows
pub after_four : (a b c d : Bool) (rest : List (ℕ × Bool)) → verdict_number (first_refusal ((1, a) ∷ (2, b) ∷ (3, c) ∷ (4, d) ∷ rest))
    ≡ pick (eqb (verdict_number (first_refusal ((1, a) ∷ (2, b) ∷ (3, c) ∷ (4, d) ∷ []))) 0) (verdict_number (first_refusal rest)) (verdict_number (first_refusal ((1, a) ∷ (2, b) ∷ (3, c) ∷ (4, d) ∷ [])))
after_four true b c d rest = refl
after_four false true c d rest = refl
after_four false false true d rest = refl
after_four false false false true rest = refl
after_four false false false false rest = refl
