use Rattle.logs.specs.code.ZoneWalk.{sector_in_zone, zone_bytes_small}
use Rattle.logs.specs.code.Judge.{found}
use Rattle.logs.specs.meaning.Entry.{decode}
use Rattle.tables.specs.laws.Below.{get_d_tabulate}
use Rattle.tables.specs.meaning.Tables.{sector_no}
use mathlib.Core.Path.{◌≡◌, ◌∙◌, refl, sym, ap}
use mathlib.Core.List.{List, []}
use Prim.Native.Nat.{ℕ, ◌+◌, ◌-◌, ◌*◌, ◌≤◌}
use native.Mathlib.Omega.{arith}
use borrow.Author.Rules.{rules}
use Rattle.logs.proofs.walking.judge_in_zone.Statement.{statement}
use Rattle.logs.proofs.walking.judge_in_zone.Tie as tie

within : (c : tie.Start) → (c.args.p * c.args.g.sector + c.args.g.sector ≤ c.args.g.capacity * c.args.g.sector) × (c.args.g.capacity * c.args.g.sector ≤ 268435456)
within c = (sector_in_zone c.args.g c.args.p c.args.written c.requires.1.1 c.requires.1.0.short, zone_bytes_small c.args.g c.requires.0)

mul_at : tie.Need-overflow_mul-at
mul_at c = let k = within c.before in omega (arith, k.0, k.1)

add-end : tie.Need-overflow_add-end
add-end c = let k = within c.before in omega (arith, k.0, k.1)

part-judge-end : tie.Need-slice_bounds-judge-end
part-judge-end c = let k = within c.before in omega (arith, k.0, c.requires.1.0.long)

returns : tie.Need-returns
returns c =
    let s = c.before.before.before in
    let a = s.args in
    let d : a.p * a.g.sector + a.g.sector - a.p * a.g.sector ≡ a.g.sector = omega arith in
    c.judge.ensures ∙ ap (λ (t : List ℕ). found (decode a.g a.drive a.parity t))
    (rw d refl ∙ sym (get_d_tabulate (λ (i : ℕ). sector_no a.g.sector a.bytes.now i) a.written a.p [] s.requires.1.1))

pub judge_in_zone_spec : {M : Type 1} → statement M
judge_in_zone_spec =
    tie.close
    (tie.spec mul_at add-end (λ c. search rules) (λ c. search rules) part-judge-end (λ c κs. search rules) returns)
