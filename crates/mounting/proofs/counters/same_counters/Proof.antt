use Prim.Native.Nat.{ℕ, ◌+◌, ◌-◌}
use mathlib.Core.Path.{◌≡◌, sym, ap, ap₂, ◌∙◌}
use mathlib.Core.Bool.{false}
use native.Mathlib.Omega.{arith}
use mathlib.Core.List.{List, []}
use lib.Dec.{eqb}
use Rattle.logs.specs.meaning.Entry.{Header}
use Rattle.logs.specs.meaning.Heads.{last_counters}
use Rattle.tables.specs.meaning.LittleEndian.{same_bytes}
use Rattle.logs.specs.meaning.Walk.{walk_log}
use Rattle.logs.specs.code.WalkCode.{log_sectors}
use Rattle.logs.specs.code.Query.{heads_of}
use Rattle.volume.specs.meaning.Rules.{general_heads}
use Rattle.mounting.specs.MountHeaders.{seen_heads}
use Rattle.mounting.specs.MountGenerations.{same_if_none, differ_if_one, same_if_both}
use borrow.Author.Rules.{rules}
use Rattle.mounting.proofs.counters.same_counters.Statement.{statement}
use Rattle.mounting.proofs.counters.same_counters.Tie as tie
use Rattle.volume.specs.looking.Knowing.{read_device}

-- the sectors of the two logs
abbrev start : tie.After-last_counters-q → tie.Start
start w = w.before.before.before.before.before.before

abbrev first : tie.After-last_counters-q → List (List ℕ)
first w = let a = (start w).args in log_sectors a.g a.d 0 a.sectors.now w.sectors_then-n.result

abbrev second : tie.After-last_counters-q → List (List ℕ)
second w = let a = (start w).args in log_sectors a.g a.e 0 a.sectors.now w.sectors_then-m.result

-- their headers are the rules'
heads : (w : tie.After-last_counters-q) → let a = (start w).args in let v = read_device a.g a.sectors.now a.pointers.now in
    (general_heads a.g v a.d ≡ heads_of (walk_log a.g a.d false (first w))) × (general_heads a.g v a.e ≡ heads_of (walk_log a.g a.e false (second w)))
heads w =
    let s = start w in
    let a = s.args in
    let at : (d : ℕ) → ℕ → List Header = λ d k. heads_of (walk_log a.g d false (log_sectors a.g d 0 a.sectors.now k)) in (
      seen_heads a.g a.sectors.now a.pointers.now a.d s.requires.1.0 ∙ ap (at a.d) (sym w.sectors_then-n.ensures.0),
      seen_heads a.g a.sectors.now a.pointers.now a.e s.requires.1.1 ∙ ap (at a.e) (sym w.sectors_then-m.ensures.0),
    )

-- so are their last counters
told : (w : tie.After-last_counters-q) → let a = (start w).args in let v = read_device a.g a.sectors.now a.pointers.now in
    same_bytes (last_counters [] (heads_of (walk_log a.g a.d false (first w)))) (last_counters [] (heads_of (walk_log a.g a.e false (second w)))) ≡ same_bytes (last_counters [] (general_heads a.g v a.d)) (last_counters [] (general_heads a.g v a.e))
told w = sym (ap₂ (λ (x y : List Header). same_bytes (last_counters [] x) (last_counters [] y)) (heads w).0 (heads w).1)

returns : tie.Need-returns-then-p-eq0
returns c =
    let w = c.before in
    let s = start w in
    let a = s.args in
    ap (λ (k : ℕ). eqb k 0) w.last_counters-q.ensures.0 ∙ same_if_none a.g a.d a.e (first w) (second w) s.requires.0.zones_least (sym w.last_counters-p.ensures.0 ∙ c.if-p-eq0.true) ∙ told w

returns-2 : tie.Need-returns-then-q-eq0
returns-2 c =
    let w = c.before.before in
    let s = start w in
    let a = s.args in
    differ_if_one a.g a.d a.e (first w) (second w) s.requires.0.zones_least (λ h. c.if-p-eq0.false (w.last_counters-p.ensures.0 ∙ h)) (sym w.last_counters-q.ensures.0 ∙ c.if-q-eq0.true) ∙ told w

returns-3 : tie.Need-returns
returns-3 c =
    let w = c.before.before.before in
    let s = start w in
    let a = s.args in
    let p = w.last_counters-p in
    let q = w.last_counters-q in
    let x : p.result ≡ p.result - 1 + 1 = omega (arith, c.if-p-eq0.false) in
    let y : q.result ≡ q.result - 1 + 1 = omega (arith, c.if-q-eq0.false) in
    c.same_generations.ensures ∙ same_if_both a.g a.d a.e (first w) (second w) s.requires.0.zones_least (p.result - 1) (q.result - 1) (sym p.ensures.0 ∙ x) (sym q.ensures.0 ∙ y) ∙ told w

pub same_counters_spec : {M : Type 1} → statement M
same_counters_spec =
    tie.close
    (tie.spec (λ c κs. search rules) (λ c κs. search rules) (λ c κs. search rules) (λ c κs. search rules) returns returns-2 (λ c. search rules)
    (λ c. search rules) (λ c κs. search rules) returns-3)
