-- The last whole entry of a parity log that ends just at a pointer: found by its place in the log, it is the sectors from there on.
use Rattle.std.specs.Prelude.{◌≡◌, refl, Bool, true, false, ◌&&◌, ℕ, zero, suc, ◌+◌, ◌-◌, ◌*◌, ◌/◌, ◌≤◌, ◌<◌, min, List, [], ◌∷◌, ◌++◌, map, get_or, take, drop, eqb}
use Rattle.std.proofs.Common.{sym, ap₂, ◌∙◌, true≢false, arith, append-nil, take_at, drop_at, eqb-true}
use Rattle.std.proofs.Math.Path.{ap, fun_ext}
use Rattle.std.proofs.Math.Arith.{digits_div}
use Rattle.tables.specs.declared.Geometry.{Geometry}
use Rattle.tables.specs.meaning.Basics.{pick}
use Rattle.tables.specs.laws.Basics.{and_split, or_none}
use Rattle.tables.specs.meaning.Below.{tabulate, tabulate_from}
use Rattle.tables.specs.laws.Below.{length_tabulate, get_d_tabulate, tabulate_from_add, length_tabulate_from}
use Rattle.tables.specs.meaning.Lists.{any_of, concat}
use Rattle.tables.specs.meaning.Geometry.{stripe_sectors}
use Rattle.tables.specs.meaning.Placement.{stripe_of}
use Rattle.tables.specs.meaning.Tables.{sector_at}
use Rattle.logs.specs.meaning.Entry.{parity_zone, Header, label, counters, zone_reset, partial_parity, seal, closing, Entry, rows_of, fits_log}
use Rattle.logs.specs.laws.Entry.{decode_legal}
use Rattle.logs.specs.meaning.Heads.{ends_at}
use Rattle.logs.specs.laws.Heads.{ends_within}
use Rattle.logs.specs.meaning.Walk.{walk_log, sectors_of}
use Rattle.logs.specs.code.Judge.{partial_small}
use Rattle.logs.specs.code.Query.{head_of, heads_of}
use Rattle.logs.specs.code.Ends.{within_is_at}
use Rattle.logs.specs.code.WalkCode.{log_sectors}
use Rattle.logs.specs.code.Steps.{Stands}
use Rattle.logs.specs.laws.Places.{last_place, last_none, last_there}
use Rattle.volume.specs.meaning.Content.{fill_of}
use Rattle.volume.specs.meaning.Emptying.{last_entry}

-- ---- the last entry that passes
last_entry_append : (p : Entry → Bool) (acc xs ys : List Entry) → last_entry p acc (xs ++ ys) ≡ last_entry p (last_entry p acc xs) ys
last_entry_append p acc [] ys = refl
last_entry_append p acc (x ∷ xs) ys = last_entry_append p (pick (p x) (x ∷ []) acc) xs ys

last_entry_none : (t : Header → Bool) (acc es : List Entry) → any_of t (map head_of es) ≡ false → last_entry (λ (e : Entry). t e.head) acc es ≡ acc
last_entry_none t acc [] h = refl
last_entry_none t acc (e ∷ es) h =
    let (a, b) = or_none (t e.head) (any_of t (map head_of es)) h in
    ap (λ (c : Bool). last_entry (λ (e : Entry). t e.head) (pick c (e ∷ []) acc) es) a ∙ last_entry_none t acc es b

last_entry_is : (t : Header → Bool) (acc before after : List Entry) (e : Entry) → t e.head ≡ true → any_of t (map head_of after) ≡ false → last_entry (λ (x : Entry). t x.head) acc (before ++ (e ∷ after)) ≡ e ∷ []
last_entry_is t acc before after e h n =
    let p : Entry → Bool = λ x. t x.head in
    last_entry_append p acc before (e ∷ after) ∙ ap (λ (c : Bool). last_entry p (pick c (e ∷ []) (last_entry p acc before)) after) h ∙ last_entry_none t (e ∷ []) after n

-- ---- the sectors from p on of a list made one by one
tabulated : (f : ℕ → List ℕ) (n : ℕ) → tabulate f n ≡ tabulate_from f 0 n
tabulated f zero = refl
tabulated f (suc n) =
    let e : n + 1 ≡ suc n = omega arith in
    let z : 0 + n ≡ n = omega arith in
    ap (λ (l : List (List ℕ)). l ++ (f n ∷ [])) (tabulated f n) ∙ ap (λ (k : ℕ). tabulate_from f 0 n ++ (f k ∷ [])) (sym z) ∙ sym (tabulate_from_add f 0 n 1) ∙ ap (tabulate_from f 0) e

part_tabulated : (f : ℕ → List ℕ) (n p r : ℕ) → p + r ≤ n → take r (drop p (tabulate f n)) ≡ tabulate_from f p r
part_tabulated f n p r h =
    let m = n - (p + r) in
    let e : n ≡ p + (r + m) = omega arith in
    let z : 0 + p ≡ p = omega arith in
    let whole : tabulate f n ≡ tabulate_from f 0 p ++ (tabulate_from f p r ++ tabulate_from f (p + r) m)
    = tabulated f n ∙ ap (tabulate_from f 0) e ∙ tabulate_from_add f 0 p (r + m) ∙ ap (λ (k : ℕ). tabulate_from f 0 p ++ tabulate_from f k (r + m)) z ∙ ap (λ (l : List (List ℕ)). tabulate_from f 0 p ++ l) (tabulate_from_add f p r m) in
    ap (λ (l : List (List ℕ)). take r (drop p l)) whole
    ∙ ap (take r) (drop_at (tabulate_from f 0 p) (tabulate_from f p r ++ tabulate_from f (p + r) m) p (length_tabulate_from f 0 p)) ∙ take_at (tabulate_from f p r) (tabulate_from f (p + r) m) r (length_tabulate_from f p r)

-- ---- an entry that ends just at pointer q has as many rows as the fill of q's stripe says
module _ (g : Geometry) (d z n q : ℕ) where
  fill_is : (s f : ℕ) → f < stripe_sectors g → s * stripe_sectors g + f ≡ q → fill_of g q ≡ f
  unfolding stripe_of
  fill_is s f h e =
      let k : q / stripe_sectors g ≡ s = ap (λ (x : ℕ). x / stripe_sectors g) (sym e) ∙ digits_div s h in
      rw k (omega (arith, e))

  rows_are : (h : Header) → fits_log g d true h ≡ true → ends_at g z n q h ≡ true → rows_of g h ≡ min (fill_of g q) g.unit
  rows_are (label x a) f e = absurd (true≢false (sym e))
  rows_are (counters cs) f e = absurd (true≢false (sym e))
  rows_are (zone_reset y m) f e = absurd (true≢false (sym e))
  rows_are (partial_parity y s v m) f e =
      let (a, b) = and_split (eqb y z) (eqb m n && eqb (s * stripe_sectors g + v) q) e in
      let (c, k) = and_split (eqb m n) (eqb (s * stripe_sectors g + v) q) b in
      ap (λ (x : ℕ). min x g.unit) (sym (fill_is s v (partial_small g d true y s v m f).2 (eqb-true (s * stripe_sectors g + v) q k)))
  rows_are (seal y p m) f e = absurd (true≢false (sym e))
  rows_are (closing kind gen) f e = absurd (true≢false (sym e))

-- ---- in the log of the first m sectors of a zone
module _ (g : Geometry) (xs : List ℕ) (d m z n q : ℕ) (some : 0 < q) where
  abbrev ss : List (List ℕ)
  ss = log_sectors g d parity_zone xs m

  test_is : ends_within g z n (q - 1) q ≡ ends_at g z n q
  test_is = let e : q ≡ suc (q - 1) = omega arith in ap (λ (y : ℕ). ends_within g z n (q - 1) y) e ∙ (fun_ext λ h. within_is_at g z n (q - 1) h) ∙ ap (ends_at g z n) (sym e)

  abbrev place : ℕ
  place = last_place g (ends_within g z n (q - 1) q) 0 0 (heads_of (walk_log g d true ss))

  place_is : place ≡ last_place g (ends_at g z n q) 0 0 (heads_of (walk_log g d true ss))
  place_is = ap (λ (t : Header → Bool). last_place g t 0 0 (heads_of (walk_log g d true ss))) test_is

  pub none_found : place ≡ 0 → (acc : List Entry) → last_entry (λ (e : Entry). ends_at g z n q e.head) acc (walk_log g d true ss).entries ≡ acc
  none_found h acc = last_entry_none (ends_at g z n q) acc (walk_log g d true ss).entries (last_none g d true ss (ends_at g z n q) (sym place_is ∙ h))

  pub none_there : place ≡ 0 → any_of (ends_at g z n q) (heads_of (walk_log g d true ss)) ≡ false
  none_there h = last_none g d true ss (ends_at g z n q) (sym place_is ∙ h)

  stands_sectors : (p : ℕ) (e : Entry) → Stands g d true ss p e → ends_at g z n q e.head ≡ true
      → (sectors_of g d true e ≡ tabulate_from (λ i. sector_at g xs d parity_zone i) p (suc (min (fill_of g q) g.unit))) × (p + suc (min (fill_of g q) g.unit) ≤ m)
  stands_sectors p e s t =
      let (a, b) = decode_legal g d true (get_or ss p []) e.head s.reads in
      let r = rows_are g d z n q e.head b t in
      let long : p + suc (rows_of g e.head) ≤ m = rw length_tabulate at s.within in
      let f : ℕ → List ℕ = λ i. sector_at g xs d parity_zone i in
      let first : get_or ss p [] ≡ f p = get_d_tabulate f m p [] (omega arith) in
      let rest : e.rows ≡ tabulate_from f (suc p) (rows_of g e.head) = s.rows_are ∙ part_tabulated f m (suc p) (rows_of g e.head) (omega arith) in
      (ap₂ (λ (x : List ℕ) (l : List (List ℕ)). x ∷ l) (a ∙ first) rest ∙ ap (λ (k : ℕ). tabulate_from f p (suc k)) r, rw (← r) long)

  pub found_there : (p : ℕ) → place ≡ p + 1 → (acc : List Entry)
      → (concat (map (sectors_of g d true) (last_entry (λ (e : Entry). ends_at g z n q e.head) acc (walk_log g d true ss).entries)) ≡ tabulate_from (λ i. sector_at g xs d parity_zone i) p (suc (min (fill_of g q) g.unit))) × (p + suc (min (fill_of g q) g.unit) ≤ m)
  found_there p h acc =
      let l = last_there g d true ss (ends_at g z n q) p (sym place_is ∙ h) in
      let one : last_entry (λ (e : Entry). ends_at g z n q e.head) acc (walk_log g d true ss).entries ≡ l.entry ∷ []
      = ap (last_entry (λ (e : Entry). ends_at g z n q e.head) acc) l.split ∙ last_entry_is (ends_at g z n q) acc l.before l.after l.entry l.passes l.none_after in
      let k = stands_sectors p l.entry l.stands l.passes in
      (ap (λ (es : List Entry). concat (map (sectors_of g d true) es)) one ∙ append-nil (sectors_of g d true l.entry) ∙ k.0, k.1)
