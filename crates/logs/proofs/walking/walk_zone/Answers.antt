use Rattle.std.proofs.Common.{◌≡◌, refl, Result, Err, Bool, ℕ, suc, ◌+◌, ◌≤◌, ◌<◌, List, [], length, get_or, sym, ap, ◌∙◌, arith}
use Rattle.std.proofs.Math.Decide.{dec_lt}
use Rattle.tables.specs.declared.Geometry.{Geometry}
use Rattle.tables.specs.laws.Below.{length_tabulate}
use Rattle.logs.specs.declared.Found.{Found}
use Rattle.logs.specs.declared.WalkEnd.{WalkEnd}
use Rattle.logs.specs.declared.WalkEnd.TheVariants.{AtPointer, NoEntry, Torn}
use Rattle.logs.specs.meaning.Entry.{Header, Decoded, legal, bad, rows_of}
use Rattle.logs.specs.meaning.Walk.{decode_at}
use Rattle.logs.specs.code.ZoneWalk.{sectors_in, step_in_zone}
use Rattle.logs.specs.code.WalkCode.{walk_end_of, end_place, left_at, at_end, at_bad, at_torn, at_whole}
use Rattle.logs.specs.code.Steps.{step_of, step_taken, step_climbs, steps_are_the_walk}
use Rattle.logs.proofs.walking.walk_zone.Goals as goal

-- a walk that is left at p without an entry ends at p
module _ (g : Geometry) (d : ℕ) (par : Bool) (ss : List (List ℕ)) (p : ℕ) (h : p ≤ length ss) where
  left_here : (end : WalkEnd) → step_of g p (left_at g d par ss p) ≡ Err end → end_place end ≡ p
  left_here end e = at (dec_lt p (length ss))
    where
      is : (w : WalkEnd) → end_place w ≡ p → step_of g p (left_at g d par ss p) ≡ Err w → end_place end ≡ p
      is w q k = let m : Err end ≡ Err w = sym e ∙ k in let n : end ≡ w = cc in rw n q

      legal_here : (hd : Header) → p < length ss → decode_at g d par p (get_or ss p []) ≡ legal hd → Dec (length ss < p + suc (rows_of g hd)) → end_place end ≡ p
      legal_here hd l r (yes s) = is (Torn p) refl (ap (step_of g p) (at_torn g d par ss p hd l r (omega arith)))
      legal_here hd l r (no s) = absurd (let w = sym e ∙ ap (step_of g p) (at_whole g d par ss p hd l r (omega arith)) in let z : ◌≡◌ {A = ℕ} 0 1 = cc in omega arith)

      here : (r : Decoded) → p < length ss → decode_at g d par p (get_or ss p []) ≡ r → end_place end ≡ p
      here (bad k) l r = is (NoEntry p k) refl (ap (step_of g p) (at_bad g d par ss p k l r))
      here (legal hd) l r = legal_here hd l r (dec_lt (length ss) (p + suc (rows_of g hd)))

      at : Dec (p < length ss) → end_place end ≡ p
      at (yes l) = here (decode_at g d par p (get_or ss p [])) l refl
      at (no n) = is (AtPointer p) refl (ap (step_of g p) (at_end g d par ss p (omega arith)))

low : (B : ℕ) (xs : List ℕ) (n p : ℕ) → p ≤ n → p ≤ length (sectors_in B xs n)
low B xs n p h = rw length_tabulate h

-- a step in the zone, as one of the walk
step_is : (g : Geometry) (d : ℕ) (par : Bool) (n : ℕ) (xs : List ℕ) (p : ℕ) {s r : Result (Found × ℕ) WalkEnd} → r ≡ step_in_zone g d par n xs p → r ≡ s → step_of g p (left_at g d par (sectors_in g.sector xs n) p) ≡ s
unfolding step_in_zone
step_is g d par n xs p e k = sym e ∙ k

pub returns-in-Err : goal.returns-in-Err
returns-in-Err c =
    let a = c.args in
    let l = c.loop-q in
    let ss = sectors_in a.g.sector a.bytes.now a.written in
    let h = low a.g.sector a.bytes.now a.written l.p l.invariant.within in
    let e = step_is a.g a.drive a.parity a.written a.bytes.now l.p c.step_in_zone.ensures c.in-Err.is in
    record {
      ends = (steps_are_the_walk a.g a.drive a.parity ss l.p h [] c.in-Err.end e).end_is ∙ l.invariant.same;
      within = omega (arith, left_here a.g a.drive a.parity ss l.p h c.in-Err.end e, l.invariant.within);
    }

pub loop-q-smaller : goal.loop-q-smaller
loop-q-smaller c =
    let a = c.args in
    let l = c.loop-q in
    let ss = sectors_in a.g.sector a.bytes.now a.written in
    let e = step_is a.g a.drive a.parity a.written a.bytes.now l.p c.step_in_zone.ensures c.in-Ok.is in
    let k = step_climbs a.g a.drive a.parity ss l.p (low a.g.sector a.bytes.now a.written l.p l.invariant.within) c.in-Ok.field-0-0 c.in-Ok.q e in
    omega (arith, k.0, rw length_tabulate at k.1)

pub loop-q-preserved : goal.loop-q-preserved
loop-q-preserved c =
    let a = c.args in
    let l = c.loop-q in
    let ss = sectors_in a.g.sector a.bytes.now a.written in
    let h = low a.g.sector a.bytes.now a.written l.p l.invariant.within in
    let e = step_is a.g a.drive a.parity a.written a.bytes.now l.p c.step_in_zone.ensures c.in-Ok.is in
    let k = step_climbs a.g a.drive a.parity ss l.p h c.in-Ok.field-0-0 c.in-Ok.q e in
    let t = step_taken a.g a.drive a.parity ss l.p h c.in-Ok.field-0-0 c.in-Ok.q e in
    record { within = rw length_tabulate at k.1; same = sym (ap walk_end_of t.on) ∙ l.invariant.same }
