-- One step of the walk, and the places of whole entries.
use Rattle.std.specs.Prelude.{◌≡◌, refl, Result, Ok, Err, Bool, true, false, ℕ, suc, ◌+◌, ◌≤◌, ◌<◌, List, [], ◌∷◌, map, leb, length, get_or, take, drop}
use Rattle.std.proofs.Common.{sym, ap, ◌∙◌, arith}
use Rattle.std.proofs.Math.Decide.{dec_lt}
use Rattle.tables.specs.meaning.Basics.{pick}
use Rattle.tables.specs.laws.Below.{length_tabulate}
use Rattle.tables.specs.declared.Geometry.{Geometry}
use Rattle.logs.specs.declared.Fault.TheVariants.{RowsPast}
use Rattle.logs.specs.declared.Log.{Log}
use Rattle.logs.specs.declared.Found.{Found}
use Rattle.logs.specs.declared.WalkEnd.{WalkEnd}
use Rattle.logs.specs.declared.WalkEnd.TheVariants.{AtPointer, NoEntry, Torn}
use Rattle.logs.specs.meaning.Entry.{Header, Entry, Decoded, legal, bad, rows_of, fault_of, decode}
use Rattle.logs.specs.meaning.Walk.{Walked, with_entry, in_zone, decode_at}
use Rattle.logs.specs.code.Judge.{seen, found}
use Rattle.logs.specs.code.WalkCode.{log_sectors, walk_end_of, rows_seen, bad_seen, left_at, at_end, at_bad, at_torn, at_whole, stops_bad, stops_past, stops_torn, takes}

-- the step at p, by the walk that is left there: its end if it has no whole entry, else its first entry and where the next
-- one begins. This gives both cases of what the code's step returns their value.
abbrev pub step_from : Geometry → ℕ → List Entry → WalkEnd → Result (Found × ℕ) WalkEnd
step_from g p [] end = Err end
step_from g p (e ∷ es) end = Ok (seen e.head, p + suc (rows_of g e.head))

abbrev pub step_of : Geometry → ℕ → Walked → Result (Found × ℕ) WalkEnd
step_of g p w = step_from g p w.entries (walk_end_of w)

-- ---- the step by what the code has found at p
module _ (g : Geometry) (d : ℕ) (par : Bool) (ss : List (List ℕ)) (p : ℕ) where
  pub step_end : p ≡ length ss → Err (AtPointer p) ≡ step_of g p (left_at g d par ss p)
  step_end e = sym (ap (step_of g p) (at_end g d par ss p e))

  module _ (f : Found) (l : p < length ss) (e : f ≡ found (decode g d par (get_or ss p []))) where
    pub step_bad : bad_seen f ≡ true → Err (NoEntry p (fault_of (get_or ss p []))) ≡ step_of g p (left_at g d par ss p)
    step_bad b = sym (ap (step_of g p) (stops_bad g d par ss p f l e b))

    pub step_past : bad_seen f ≡ false → g.capacity < p + 1 + rows_seen g f → Err (NoEntry p RowsPast) ≡ step_of g p (left_at g d par ss p)
    step_past c b = sym (ap (step_of g p) (stops_past g d par ss p f l e c b))

    pub step_torn : bad_seen f ≡ false → p + 1 + rows_seen g f ≤ g.capacity → length ss < p + 1 + rows_seen g f → Err (Torn p) ≡ step_of g p (left_at g d par ss p)
    step_torn b c k = sym (ap (step_of g p) (stops_torn g d par ss p f l e b c k).1)

    pub step_whole : bad_seen f ≡ false → p + 1 + rows_seen g f ≤ g.capacity → p + 1 + rows_seen g f ≤ length ss → Ok (f, p + 1 + rows_seen g f) ≡ step_of g p (left_at g d par ss p)
    step_whole b c k =
        let t = takes g d par ss p f l e b c k in
        let m : p + 1 + rows_seen g f ≡ p + suc (rows_of g t.head) = omega (arith, t.rows) in
        ap (λ (n : ℕ). Ok (f, n)) m ∙ ap (λ (x : Found). Ok (x, p + suc (rows_of g t.head))) t.seen_is ∙ sym (ap (step_of g p) t.on)

-- ---- the places of whole entries
module _ (g : Geometry) (d : ℕ) (par : Bool) (ss : List (List ℕ)) where
  -- entry e stands at sector p: its header there, its rows right after, all below the written pointer
  pub record Stands (p : ℕ) (e : Entry) : Type 0 where
    pub reads : decode g d par (get_or ss p []) ≡ legal e.head
    pub rows_are : e.rows ≡ take (rows_of g e.head) (drop (suc p) ss)
    pub within : p + suc (rows_of g e.head) ≤ length ss

  -- entries that stand one after the other from p on
  abbrev pub Placed : ℕ → List Entry → Type 0
  Placed p [] = Unit {0}
  Placed p (e ∷ es) = Stands p e × Placed (p + suc (rows_of g e.head)) es

  -- what a step to an entry tells: the entry, and the walk that is left after it
  pub record Taken (p : ℕ) (f : Found) (q : ℕ) : Type 0 where
    pub entry : Entry
    pub stands : Stands p entry
    pub seen_is : f ≡ seen entry.head
    pub next_is : q ≡ p + suc (rows_of g entry.head)
    pub on : left_at g d par ss p ≡ with_entry entry (left_at g d par ss q)

  pub decode_in_zone : (p : ℕ) (r : Decoded) (h : Header) → in_zone g p r ≡ legal h → r ≡ legal h
  decode_in_zone p (bad f) h e = absurd (let z : ◌≡◌ {A = ℕ} 0 1 = cc in omega arith)
  decode_in_zone p (legal k) h e = go (leb (p + suc (rows_of g k)) g.capacity) e
    where
      go : (b : Bool) → pick b (legal k) (bad RowsPast) ≡ legal h → legal k ≡ legal h
      go true q = q
      go false q = absurd (let z : ◌≡◌ {A = ℕ} 0 1 = cc in omega arith)

  left_not_whole : (w : WalkEnd) (f : Found) (q : ℕ) → ◌≡◌ {A = Result (Found × ℕ) WalkEnd} (Err w) (Ok (f, q)) → ◌≡◌ {A = ℕ} 0 1
  left_not_whole w f q e = cc

  module _ (p : ℕ) (h : p ≤ length ss) where
    pub step_left : (w : WalkEnd) → step_of g p (left_at g d par ss p) ≡ Err w → (left_at g d par ss p).entries ≡ []
    step_left w e = go (left_at g d par ss p).entries e
      where
        go : (es : List Entry) → step_from g p es (walk_end_of (left_at g d par ss p)) ≡ Err w → es ≡ []
        go [] q = refl
        go (x ∷ es) q = absurd (let y = left_not_whole w (seen x.head) (p + suc (rows_of g x.head)) (sym q) in omega arith)

    pub step_taken : (f : Found) (q : ℕ) → step_of g p (left_at g d par ss p) ≡ Ok (f, q) → Taken p f q
    step_taken f q e = at (dec_lt p (length ss))
      where
        none : (w : WalkEnd) → step_of g p (left_at g d par ss p) ≡ Err w → Taken p f q
        none w k = absurd (let y = left_not_whole w f q (sym k ∙ e) in omega arith)

        whole : (hd : Header) → p < length ss → decode_at g d par p (get_or ss p []) ≡ legal hd → Dec (length ss < p + suc (rows_of g hd)) → Taken p f q
        whole hd l r (yes s) = none (Torn p) (ap (step_of g p) (at_torn g d par ss p hd l r (omega arith)))
        whole hd l r (no s) =
            let w = at_whole g d par ss p hd l r (omega arith) in
            let m : ◌≡◌ {A = Result (Found × ℕ) WalkEnd} (Ok (seen hd, p + suc (rows_of g hd))) (Ok (f, q)) = sym (ap (step_of g p) w) ∙ e in
            let k : ◌≡◌ {A = Found × ℕ} (seen hd, p + suc (rows_of g hd)) (f, q) = cc in
            let a : seen hd ≡ f = ap (λ (s : Found × ℕ). s.0) k in
            let b : p + suc (rows_of g hd) ≡ q = ap (λ (s : Found × ℕ). s.1) k in
            record {
              entry = record { head = hd; rows = take (rows_of g hd) (drop (suc p) ss) };
              stands = record { reads = decode_in_zone p (decode g d par (get_or ss p [])) hd r; rows_are = refl; within = omega arith };
              seen_is = sym a;
              next_is = sym b;
              on = w ∙ ap (λ (x : ℕ). with_entry (record { head = hd; rows = take (rows_of g hd) (drop (suc p) ss) }) (left_at g d par ss x)) b;
            }

        here : (r : Decoded) → p < length ss → decode_at g d par p (get_or ss p []) ≡ r → Taken p f q
        here (bad k) l r = none (NoEntry p k) (ap (step_of g p) (at_bad g d par ss p k l r))
        here (legal hd) l r = whole hd l r (dec_lt (length ss) (p + suc (rows_of g hd)))

        at : Dec (p < length ss) → Taken p f q
        at (yes l) = here (decode_at g d par p (get_or ss p [])) l refl
        at (no n) = none (AtPointer p) (ap (step_of g p) (at_end g d par ss p (omega arith)))

    -- the next one begins past p, at most at the written pointer
    pub step_climbs : (f : Found) (q : ℕ) → step_of g p (left_at g d par ss p) ≡ Ok (f, q) → (p < q) × (q ≤ length ss)
    step_climbs f q e = let t = step_taken f q e in (omega (arith, t.next_is), omega (arith, t.next_is, t.stands.within))

  -- ---- THE STEPS ARE THE WALK. steps: what was found at each of them and where the next one begins, from p on; end: where they are left
  abbrev pub Stepped : ℕ → List (Found × ℕ) → WalkEnd → Type 0
  Stepped p [] end = step_of g p (left_at g d par ss p) ≡ Err end
  Stepped p ((f, q) ∷ steps) end = (step_of g p (left_at g d par ss p) ≡ Ok (f, q)) × Stepped q steps end

  pub record WalkOf (p : ℕ) (steps : List (Found × ℕ)) (end : WalkEnd) : Type 0 where
    pub found_are : map (λ (s : Found × ℕ). s.0) steps ≡ map (λ (e : Entry). seen e.head) (left_at g d par ss p).entries
    pub end_is : end ≡ walk_end_of (left_at g d par ss p)

  -- (from sector 0 it is the walk of the log)
  pub steps_are_the_walk : (p : ℕ) → p ≤ length ss → (steps : List (Found × ℕ)) (end : WalkEnd) → Stepped p steps end → WalkOf p steps end
  steps_are_the_walk p h [] end s =
      let none = step_left p h end s in
      record { found_are = rw none refl; end_is = last (left_at g d par ss p).entries none s }
    where
      last : (es : List Entry) → es ≡ [] → step_from g p es (walk_end_of (left_at g d par ss p)) ≡ Err end → end ≡ walk_end_of (left_at g d par ss p)
      last [] e q = cc
      last (x ∷ es) e q = absurd (let y = left_not_whole end (seen x.head) (p + suc (rows_of g x.head)) (sym q) in omega arith)
  steps_are_the_walk p h ((f, q) ∷ steps) end (s, rest) =
      let t = step_taken p h f q s in
      let within : q ≤ length ss = omega (arith, t.next_is, t.stands.within) in
      let w = steps_are_the_walk q within steps end rest in
      joined t w
    where
      joined : Taken p f q → WalkOf q steps end → WalkOf p ((f, q) ∷ steps) end
      joined t w = record {
        found_are = ap (λ (x : Found). x ∷ map (λ (s : Found × ℕ). s.0) steps) t.seen_is ∙ ap (◌∷◌ (seen t.entry.head)) w.found_are
            ∙ sym (ap (λ (x : Walked). map (λ (e : Entry). seen e.head) x.entries) t.on);
        end_is = w.end_is ∙ sym (ap walk_end_of t.on);
      }

-- ---- of a log, as its fields tell it
abbrev pub sectors_of_log : Geometry → Log → List ℕ → List (List ℕ)
sectors_of_log g log xs = log_sectors g log.drive log.zone xs log.written

pub low_in_log : (g : Geometry) (log : Log) (xs : List ℕ) (p : ℕ) → p ≤ log.written → p ≤ length (sectors_of_log g log xs)
low_in_log g log xs p h = rw length_tabulate h

pub climbs_in_log : (g : Geometry) (log : Log) (par : Bool) (xs : List ℕ) (p : ℕ) → p ≤ log.written → (f : Found) (q : ℕ)
    → step_of g p (left_at g log.drive par (sectors_of_log g log xs) p) ≡ Ok (f, q) → (p < q) × (q ≤ log.written)
climbs_in_log g log par xs p l f q e = let (u, v) = step_climbs g log.drive par (sectors_of_log g log xs) p (low_in_log g log xs p l) f q e in (u, rw length_tabulate at v)
