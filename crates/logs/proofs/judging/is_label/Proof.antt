use Rattle.logs.specs.code.JudgeMore.{label_parts}
use borrow.Author.Tests.{not-true, not-false}
use mathlib.Core.Bool.{Bool, true, false, ◌&&◌}
use mathlib.Core.Path.{◌≡◌, ◌∙◌, refl, sym, ap}
use Prim.Native.Nat.{◌≤◌}
use lib.ListN.{length}
use native.Mathlib.Omega.{arith}
use borrow.Author.Rules.{rules}
use Rattle.logs.specs.code.Lays.{zeros_from}
use Rattle.logs.specs.meaning.Entry.{encode, label}
use Rattle.tables.specs.meaning.LittleEndian.{same_bytes}
use Rattle.logs.proofs.judging.is_label.Statement.{statement}
use Rattle.logs.proofs.judging.is_label.Tie as tie

-- its front is compared in five parts
abbrev front : tie.After-same_u64-t5 → Bool
front p = p.is_frame-t1.result && (p.names_label-t2.result && (p.same_u32-t3.result && (p.same_u32-t4.result && p.same_u64-t5.result)))

abbrev start : tie.After-same_u64-t5 → tie.Start
start p = p.before.before.before.before.before.before

label_is : (p : tie.After-same_u64-t5) → let a = (start p).args in front p && zeros_from a.s.now 56 ≡ same_bytes (encode a.g a.drive (label a.lost a.array)) a.s.now
label_is p =
    let s = start p in
    let a = s.args in
    let room : 56 ≤ length a.s.now = omega (arith, s.requires.1, s.requires.0.sector_least) in
    five p.is_frame-t1.result p.names_label-t2.result p.same_u32-t3.result p.same_u32-t4.result p.same_u64-t5.result (zeros_from a.s.now 56)
    ∙ label_parts a.g a.drive a.lost a.array a.s.now s.requires.1 room
    p.is_frame-t1.ensures p.names_label-t2.ensures p.same_u32-t3.ensures p.same_u32-t4.ensures p.same_u64-t5.ensures refl
  where
    five : (a b c d e f : Bool) → (a && (b && (c && (d && e)))) && f ≡ a && (b && (c && (d && (e && f))))
    five true true true true e f = refl
    five true true true false e f = refl
    five true true false d e f = refl
    five true false c d e f = refl
    five false b c d e f = refl

returns : tie.Need-returns-then-not-front
returns c =
    let p = c.before in
    sym (sym (label_is p) ∙ ap (λ (b : Bool). b && zeros_from (start p).args.s.now 56) (not-true (front p) c.if-not-front.true-raw))

returns-2 : tie.Need-returns
returns-2 c =
    let p = c.before.before in
    c.zeros_from.ensures ∙ sym (sym (label_is p) ∙ ap (λ (b : Bool). b && zeros_from (start p).args.s.now 56) (not-false (front p) c.if-not-front.false-raw))

pub is_label_spec : {M : Type 1} → statement M
is_label_spec =
    tie.close
    (tie.spec (λ c κs. search rules) (λ c κs. search rules) (λ c. search rules) (λ c κs. search rules) (λ c. search rules) (λ c. search rules)
    (λ c κs. search rules) (λ c κs. search rules) returns (λ c κs. search rules) returns-2)
