use Rattle.logs.specs.code.ZoneWalk.{sector_in_zone, zone_bytes_small}
use Rattle.logs.specs.meaning.Entry.{fault_of}
use Rattle.tables.specs.laws.Below.{get_d_tabulate}
use Rattle.tables.specs.meaning.Tables.{sector_no}
use lib.ListN.{length, take, drop, length-drop}
use lib.Seq.{length-take-le}
use mathlib.Core.Path.{◌≡◌, ◌∙◌, refl, sym, ap}
use mathlib.Core.List.{List, []}
use Prim.Native.Nat.{ℕ, ◌+◌, ◌-◌, ◌*◌, ◌≤◌}
use native.Mathlib.Omega.{arith}
use borrow.Author.Rules.{rules}
use Rattle.logs.proofs.walking.fault_in_zone.Statement.{statement}
use Rattle.logs.proofs.walking.fault_in_zone.Tie as tie

within : (c : tie.Start) → (c.args.p * c.args.g.sector + c.args.g.sector ≤ c.args.g.capacity * c.args.g.sector) × (c.args.g.capacity * c.args.g.sector ≤ 268435456)
within c = (sector_in_zone c.args.g c.args.p c.args.written c.requires.1.1 c.requires.1.0.short, zone_bytes_small c.args.g c.requires.0)

mul_at : tie.Need-overflow_mul-at
mul_at c = let k = within c.before in omega (arith, k.0, k.1)

add-end : tie.Need-overflow_add-end
add-end c = let k = within c.before in omega (arith, k.0, k.1)

part-fault-of-end : tie.Need-slice_bounds-fault_of-end
part-fault-of-end c = let k = within c.before in omega (arith, k.0, c.requires.1.0.long)

fault-of-requires : tie.Need-fault_of-requires
fault-of-requires c κs =
    let s = c.before.before in
    let a = s.args in
    let d : a.p * a.g.sector + a.g.sector - a.p * a.g.sector ≡ a.g.sector = omega arith in
    let k = within s in
    let m : a.g.sector ≤ length (drop (a.p * a.g.sector) a.bytes.now) = rw length-drop (omega (arith, k.0, s.requires.1.0.long)) in
    let l : length (take a.g.sector (drop (a.p * a.g.sector) a.bytes.now)) ≡ a.g.sector = length-take-le a.g.sector (drop (a.p * a.g.sector) a.bytes.now) m in
    rw d (omega (arith, l, s.requires.0.sector_least))

returns : tie.Need-returns
returns c =
    let s = c.before.before.before in
    let a = s.args in
    let d : a.p * a.g.sector + a.g.sector - a.p * a.g.sector ≡ a.g.sector = omega arith in
    c.fault_of.ensures ∙ ap (λ (t : List ℕ). fault_of t)
    (rw d refl ∙ sym (get_d_tabulate (λ (i : ℕ). sector_no a.g.sector a.bytes.now i) a.written a.p [] s.requires.1.1))

pub fault_in_zone_spec : {M : Type 1} → statement M
fault_in_zone_spec =
    tie.close
    (tie.spec mul_at add-end (λ c. search rules) (λ c. search rules) part-fault-of-end fault-of-requires returns)
