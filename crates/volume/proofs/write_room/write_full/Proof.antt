use mathlib.Core.Path.{◌≡◌, refl, sym, ap, ap₂, ◌∙◌}
use mathlib.Core.Bool.{Bool, false, ◌||◌}
use Prim.Native.Nat.{ℕ, ◌+◌}
use lib.Dec.{ltb, eqb}
use borrow.Author.Tests.{eq-eqb, ne_eqb, lt-ltb, le-ltb}
use borrow.Author.Rules.{rules}
use Rattle.tables.specs.meaning.Basics.{pick}
use Rattle.volume.specs.meaning.Emptying.{reserve}
use Rattle.volume.specs.looking.ShownState.{parity_unused}
use Rattle.volume.specs.writing.WriteRoom.{full_at}
use Rattle.volume.proofs.write_room.write_full.Statement.{statement}
use Rattle.volume.proofs.write_room.write_full.Tie as tie

-- the answer by whether there is no entry, and whether the share lacks room
abbrev answer : tie.Start → Bool → Bool → Bool
answer s none small = let a = s.args in pick none false (small || ltb (parity_unused a.places a.pointers.now a.entry.drive) (a.entry.sectors + reserve a.g))

answer-is : (s : tie.Start) → let a = s.args in answer s (eqb a.entry.sectors 0) (ltb a.share a.entry.sectors) ≡ full_at a.g a.places a.share a.pointers.now a.entry
unfolding full_at
answer-is s = refl

returns : tie.Need-returns-then-sectors-eq0
returns c =
    let s = c.before.before in
    let a = s.args in
    ap (λ (b : Bool). answer s b (ltb a.share a.entry.sectors)) (sym (eq-eqb a.entry.sectors 0 c.if-sectors-eq0.true)) ∙ answer-is s

returns-2 : tie.Need-returns-then-share-sectors
returns-2 c =
    let s = c.before.before.before in
    let a = s.args in
    ap₂ (answer s) (sym (ne_eqb a.entry.sectors 0 c.if-sectors-eq0.false)) (sym (lt-ltb a.share a.entry.sectors c.if-share-sectors.true)) ∙ answer-is s

returns-3 : tie.Need-returns
returns-3 c =
    let e = c.before.before in
    let s = c.before.before.before.before.before in
    let a = s.args in
    ap₂ (λ (x y : ℕ). ltb x y) c.parity_unused-unused.ensures.0 c.write_limit-limit.ensures
    ∙ ap₂ (answer s) (sym (ne_eqb a.entry.sectors 0 e.if-sectors-eq0.false)) (sym (le-ltb a.share a.entry.sectors e.if-share-sectors.false)) ∙ answer-is s

pub write_full_spec : {M : Type 1} → statement M
write_full_spec =
    tie.close
    (tie.spec returns returns-2 (λ c κs. search rules) (λ c κs. search rules) returns-3)
