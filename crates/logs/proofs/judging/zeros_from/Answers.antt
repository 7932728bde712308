use Rattle.std.proofs.Common.{◌≡◌, ℕ, suc, zero, ◌+◌, ◌-◌, ◌<◌, List, Bool, true, false, true≢false, ◌&&◌, eqb, length, get_or, take, drop, get_or-take, get_or-drop, length-drop, length-take-le, refl, sym, ap, ◌∙◌, arith, eq-eqb, eqb-true, ne_eqb}
use Rattle.std.specs.Int.Bits.{bit_or, or_zero_l}
use Rattle.std.proofs.lemmas.Nat.{le_or_l}
use Rattle.logs.specs.code.Lays.{zeros_from, zero_go, zero_stop, zero_end}
use Rattle.logs.proofs.judging.zeros_from.Goals as goal

or_zero : (a b : ℕ) → eqb (bit_or a b) 0 ≡ eqb a 0 && eqb b 0
or_zero zero b = ap (λ (x : ℕ). eqb x 0) (or_zero_l b)
or_zero (suc a) b = ne_eqb (bit_or (suc a) b) 0 (let l = le_or_l (suc a) b in omega arith) ∙ sym (ap (λ (t : Bool). t && eqb b 0) (ne_eqb (suc a) 0 (omega arith)))

zero_step : (s : List ℕ) (i : ℕ) → i < length s → zeros_from s i ≡ eqb (get_or s i 0) 0 && zeros_from s (i + 1)
zero_step s i h = go (eqb (get_or s i 0) 0) refl
  where
    go : (b : Bool) → eqb (get_or s i 0) 0 ≡ b → zeros_from s i ≡ b && zeros_from s (i + 1)
    go true e = zero_go s i h (eqb-true (get_or s i 0) 0 e)
    go false e = zero_stop s i h (λ q. true≢false (sym (eq-eqb (get_or s i 0) 0 q) ∙ e))

both : (a b c : Bool) → a && (b && c) ≡ (a && b) && c
both true b c = refl
both false b c = refl

-- a byte more, the k-th of those from `at` on
more : (s : List ℕ) (at k any : ℕ) → at + k < length s → eqb any 0 && zeros_from s (at + k) ≡ eqb (bit_or any (get_or (take (length s - at) (drop at s)) k 0)) 0 && zeros_from s (at + (k + 1))
more s at k any h =
    let e : get_or (take (length s - at) (drop at s)) k 0 ≡ get_or s (at + k) 0 = get_or-take (length s - at) (drop at s) k 0 (omega arith) ∙ get_or-drop at s k 0 in
    let n : at + k + 1 ≡ at + (k + 1) = omega arith in
    ap (λ (t : Bool). eqb any 0 && t) (zero_step s (at + k) h)
    ∙ both (eqb any 0) (eqb (get_or s (at + k) 0) 0) (zeros_from s (at + k + 1))
    ∙ rw (e, or_zero any (get_or s (at + k) 0), ← n) refl

-- none is left
done : (s : List ℕ) (i any : ℕ) → i ≡ length s → eqb any 0 && zeros_from s i ≡ eqb any 0
done s i any e = rw (zero_end s i e) (and_true (eqb any 0))
  where
    and_true : (b : Bool) → b && true ≡ b
    and_true true = refl
    and_true false = refl

long : (s : List ℕ) (at : ℕ) → length (take (length s - at) (drop at s)) ≡ length s - at
long s at = length-take-le (length s - at) (drop at s) (rw length-drop (omega arith))

pub loop-x-preserved : goal.loop-x-preserved
loop-x-preserved c = let s = c.args.s.now in c.loop-x.invariant ∙ more s c.args.at c.loop-x.x-index c.loop-x.any (omega (arith, long s c.args.at))

pub returns : goal.returns
returns c = let s = c.args.s.now in sym (c.loop-x.invariant ∙ done s (c.args.at + c.loop-x.x-index) c.loop-x.any (omega (arith, long s c.args.at)))
