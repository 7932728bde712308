-- Step 4 of a mount: "if any zone is empty or the present drives' last counters differ, on each present drive one counters entry with the
-- zones' generations, every empty zone's raised by 1".
use Rattle.std.specs.Prelude.{◌≡◌, refl, ◌≢◌, Bool, true, false, ◌||◌, ℕ, zero, suc, ◌+◌, ◌-◌, ◌*◌, ◌≤◌, ◌<◌, List, [], ◌∷◌, ◌++◌, length, get_or, set, take, replicate, eqb}
use Rattle.std.proofs.Common.{sym, ap, ap₂, ◌∙◌, true≢false, arith, length-append, take_at, eqb-true, eq-eqb, ne_eqb}
use Rattle.std.proofs.Math.Decide.{ℕ_discrete}
use Rattle.tables.specs.declared.Geometry.{Geometry}
use Rattle.tables.specs.meaning.Basics.{pick}
use Rattle.tables.specs.laws.Basics.{eqb_same}
use Rattle.tables.specs.meaning.Below.{each_below, any_below, all_below, tabulate}
use Rattle.tables.specs.laws.Below.{all_below_all, all_all_below, length_tabulate}
use Rattle.tables.specs.laws.Lists.{numbers_same}
use Rattle.tables.specs.meaning.LittleEndian.{same_bytes, read_le}
use Rattle.tables.specs.laws.LittleEndian.{same_bytes_eq, same_bytes_refl}
use Rattle.tables.specs.meaning.Geometry.{Valid, max_zones}
use Rattle.tables.specs.meaning.Device.{Store}
use Rattle.logs.specs.meaning.Entry.{general_zone, counters}
use Rattle.logs.specs.meaning.Walk.{walk_log}
use Rattle.logs.specs.code.Query.{heads_of}
use Rattle.logs.specs.meaning.Heads.{last_counters}
use Rattle.logs.specs.code.Generations.{generation_there, counters_place, no_counters, counters_long}
use Rattle.volume.specs.looking.KnowingLaws.{all_below_cong}
use Rattle.logs.specs.laws.Legal.{header_long}
use Rattle.volume.specs.declared.Look.{Look}
use Rattle.volume.specs.meaning.State.{is_empty}
use Rattle.volume.specs.meaning.Calls.{append_general, generations_from}
use Rattle.volume.specs.meaning.Mount.{next_generation, counter_step}
use Rattle.volume.specs.rows.KeptBelow.{StoresIn, each_in}
use Rattle.volume.specs.checks.Records.{zone_look}
use Rattle.mounting.specs.MountLook.{shown_by, stays, log_stays}

-- ---- two lists of one length, compared number by number
pub same_numbers : (xs ys : List ℕ) (n : ℕ) → length xs ≡ n → length ys ≡ n → same_bytes xs ys ≡ all_below (λ z. eqb (get_or xs z 0) (get_or ys z 0)) n
same_numbers xs ys n p q = go (same_bytes xs ys) refl (all_below (λ z. eqb (get_or xs z 0) (get_or ys z 0)) n) refl
  where
    go : (a : Bool) → same_bytes xs ys ≡ a → (b : Bool) → all_below (λ z. eqb (get_or xs z 0) (get_or ys z 0)) n ≡ b → a ≡ b
    go true e true f = refl
    go false e false f = refl
    go true e false f = absurd (true≢false (sym (all_all_below (λ z. eqb (get_or xs z 0) (get_or ys z 0)) n (λ k l. rw (same_bytes_eq xs ys e) (eqb_same (get_or ys k 0)))) ∙ f))
    go false e true f =
        let s : xs ≡ ys = numbers_same xs ys (p ∙ sym q) (λ k l. eqb-true (get_or xs k 0) (get_or ys k 0) (all_below_all (λ z. eqb (get_or xs z 0) (get_or ys z 0)) n k f (omega arith))) in
        absurd (true≢false (sym (same_bytes_refl ys) ∙ rw s at e))

-- of two drives' last counters
same_one_none : (xs ys : List ℕ) → xs ≡ [] → ys ≢ [] → same_bytes xs ys ≡ false
same_one_none xs [] e f = absurd (f refl)
same_one_none xs (y ∷ ys) e f = rw e refl

same_none_one : (xs ys : List ℕ) → ys ≡ [] → xs ≢ [] → same_bytes xs ys ≡ false
same_none_one [] ys e f = absurd (f refl)
same_none_one (x ∷ xs) ys e f = rw e refl

long_some : (xs : List ℕ) (n : ℕ) → length xs ≡ n → 1 ≤ n → xs ≢ []
long_some xs n e h q = absurd (let l : length xs ≡ 0 = ap length q in omega arith)

-- ---- the generations, as the array that the code fills
generations_list : (f : ℕ → ℕ) (i n : ℕ) → generations_from f i n ≡ tabulate (λ k. f (i + k)) n
generations_list f i zero = refl
generations_list f i (suc n) = front f i n (generations_list f (suc i) n)
  where
    shift : (g : ℕ → ℕ) (m : ℕ) → g 0 ∷ tabulate (λ k. g (suc k)) m ≡ tabulate g (suc m)
    shift g zero = refl
    shift g (suc m) = ap (λ (l : List ℕ). l ++ (g (suc m) ∷ [])) (shift g m)

    front : (f : ℕ → ℕ) (i n : ℕ) → generations_from f (suc i) n ≡ tabulate (λ k. f (suc i + k)) n → f i ∷ generations_from f (suc i) n ≡ tabulate (λ k. f (i + k)) (suc n)
    front f i n ih =
        let e : i + 0 ≡ i = omega arith in
        ap (λ (l : List ℕ). f i ∷ l) (ih ∙ same (λ k. f (suc i + k)) (λ k. f (i + suc k)) n (λ k. let q : suc i + k ≡ i + suc k = omega arith in rw q refl))
        ∙ ap (λ (x : ℕ). f x ∷ tabulate (λ k. f (i + suc k)) n) (sym e) ∙ shift (λ k. f (i + k)) n
      where
        same : (p q : ℕ → ℕ) (m : ℕ) → ((k : ℕ) → p k ≡ q k) → tabulate p m ≡ tabulate q m
        same p q zero h = refl
        same p q (suc m) h = ap₂ (λ (l : List ℕ) (x : ℕ). l ++ (x ∷ [])) (same p q m h) (h m)

abbrev pub filled : (ℕ → ℕ) → ℕ → List ℕ
filled f n = tabulate f n ++ replicate (max_zones - n) 0

set_at_end : (xs : List ℕ) (n x : ℕ) → set (xs ++ replicate (suc n) 0) (length xs) x ≡ xs ++ (x ∷ []) ++ replicate n 0
set_at_end [] n x = refl
set_at_end (y ∷ xs) n x = ap (λ (r : List ℕ). y ∷ r) (set_at_end xs n x)

pub filled_more : (f : ℕ → ℕ) (d : ℕ) → d < 16 → set (filled f d) d (f d) ≡ filled f (suc d)
filled_more f d h =
    let e : 16 - d ≡ suc (max_zones - suc d) = omega arith in
    let l : length (tabulate f d) ≡ d = length_tabulate f d in
    rw e (ap (λ (i : ℕ). set (tabulate f d ++ replicate (suc (max_zones - suc d)) 0) i (f d)) (sym l) ∙ set_at_end (tabulate f d) (max_zones - suc d) (f d))

pub filled_take : (f : ℕ → ℕ) (n : ℕ) → take n (filled f n) ≡ generations_from f zero n
filled_take f n = take_at (tabulate f n) (replicate (max_zones - n) 0) n (length_tabulate f n) ∙ shown ∙ sym (generations_list f zero n)
  where
    shown : tabulate f n ≡ tabulate (λ k. f (zero + k)) n
    shown = same f (λ k. f (zero + k)) n (λ k. let e : zero + k ≡ k = omega arith in rw e refl)
      where
        same : (p q : ℕ → ℕ) (m : ℕ) → ((k : ℕ) → p k ≡ q k) → tabulate p m ≡ tabulate q m
        same p q zero h = refl
        same p q (suc m) h = ap₂ (λ (l : List ℕ) (x : ℕ). l ++ (x ∷ [])) (same p q m h) (h m)

-- ---- the step
unfoldable pub counters_due : Geometry → Look → Bool → Bool
counters_due g k differ = any_below (λ z. is_empty (zone_look k z).condition) g.zones || differ

-- the counters on the drives below m
abbrev pub counter_stores : Geometry → List ℕ → ℕ → List Store
counter_stores g cs m = each_below (λ d. append_general g (counters cs) d) m

pub counter_steps : (g : Geometry) (k : Look) (differ : Bool) → counter_step g (shown_by k) differ ≡ pick (counters_due g k differ) (counter_stores g (generations_from (next_generation (shown_by k)) zero g.zones) g.drives) []
unfolding counter_step counters_due
counter_steps g k differ = refl

pub counters_in : (g : Geometry) (k : Look) (cs : List ℕ) (m : ℕ) → Valid g → length cs ≡ g.zones → m ≤ g.drives → StoresIn g (stays k) (counter_stores g cs m)
counters_in g k cs m ok l h = each_in g (stays k) (λ d. append_general g (counters cs) d) m (λ d q. ((omega arith, omega arith, header_long g d (counters cs) ok l, log_stays k general_zone (omega arith)), tt))

-- ---- two drives' last counters, by where they stand
module _ (g : Geometry) (d e : ℕ) (ss ts : List (List ℕ)) (some : 1 ≤ g.zones) where
  abbrev same_last : Bool
  same_last = same_bytes (last_counters [] (heads_of (walk_log g d false ss))) (last_counters [] (heads_of (walk_log g e false ts)))

  pub same_if_none : counters_place g d ss ≡ zero → eqb (counters_place g e ts) 0 ≡ same_last
  same_if_none h = go (ℕ_discrete (counters_place g e ts) 0)
    where
      go : Dec (counters_place g e ts ≡ 0) → eqb (counters_place g e ts) 0 ≡ same_last
      go (yes q) = eq-eqb (counters_place g e ts) 0 q ∙ sym (ap₂ same_bytes (no_counters g d ss h) (no_counters g e ts q))
      go (no q) = ne_eqb (counters_place g e ts) 0 q ∙ sym (same_one_none (last_counters [] (heads_of (walk_log g d false ss))) (last_counters [] (heads_of (walk_log g e false ts))) (no_counters g d ss h) (long_some (last_counters [] (heads_of (walk_log g e false ts))) g.zones (counters_long g e ts q) some))

  pub differ_if_one : counters_place g d ss ≢ zero → counters_place g e ts ≡ zero → false ≡ same_last
  differ_if_one h q = sym (same_none_one (last_counters [] (heads_of (walk_log g d false ss))) (last_counters [] (heads_of (walk_log g e false ts))) (no_counters g e ts q) (long_some (last_counters [] (heads_of (walk_log g d false ss))) g.zones (counters_long g d ss h) some))

  pub same_if_both : (p q : ℕ) → counters_place g d ss ≡ p + 1 → counters_place g e ts ≡ q + 1 → all_below (λ z. eqb (read_le 8 (get_or ss p []) (32 + 8 * z)) (read_le 8 (get_or ts q []) (32 + 8 * z))) g.zones ≡ same_last
  same_if_both p q h k =
      all_below_cong (λ z. eqb (read_le 8 (get_or ss p []) (32 + 8 * z)) (read_le 8 (get_or ts q []) (32 + 8 * z))) (λ z. eqb (get_or (last_counters [] (heads_of (walk_log g d false ss))) z 0) (get_or (last_counters [] (heads_of (walk_log g e false ts))) z 0)) g.zones
      (λ z l. ap₂ eqb (generation_there g d ss p z h l) (generation_there g e ts q z k l))
      ∙ sym (same_numbers (last_counters [] (heads_of (walk_log g d false ss))) (last_counters [] (heads_of (walk_log g e false ts))) g.zones (counters_long g d ss (omega arith)) (counters_long g e ts (omega arith)))

pub filled_long : (f : ℕ → ℕ) (n : ℕ) → n ≤ length (filled f n)
filled_long f n = rw (length-append (tabulate f n) (replicate (max_zones - n) 0), length_tabulate f n) (omega arith)
