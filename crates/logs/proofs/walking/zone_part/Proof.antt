use Rattle.logs.specs.code.ZoneWalk.{zone_in_sectors}
use Rattle.tables.specs.meaning.Geometry.{total_bytes}
use Rattle.tables.specs.laws.Sizes.{bytes_small}
use mathlib.Core.Path.{◌≡◌}
use Prim.Native.Nat.{◌+◌, ◌-◌, ◌*◌, ◌≤◌}
use native.Mathlib.Omega.{arith}
use borrow.Author.Rules.{rules}
use Rattle.logs.proofs.walking.zone_part.Statement.{statement}
use Rattle.logs.proofs.walking.zone_part.Tie as tie

-- the zone's part lies within the lent bytes, which are not many
within : (c : tie.After-cell_of-cell) → c.cell_of-cell.result * (c.args.g.capacity * c.args.g.sector) + c.args.g.capacity * c.args.g.sector ≤ total_bytes c.args.g
within c = let s = c.before.before in rw c.cell_of-cell.ensures.0 (zone_in_sectors s.args.g s.args.drive s.args.zone s.requires.1.0 s.requires.1.1.0)

small : (c : tie.After-cell_of-cell) → total_bytes c.args.g ≤ 40802189312
small c = let s = c.before.before in (bytes_small s.args.g s.requires.0).1

mul-size : tie.Need-overflow_mul-size
mul-size c = omega (arith, within c, small c)

mul_at : tie.Need-overflow_mul-at
mul_at c = omega (arith, within c, small c)

add-end : tie.Need-overflow_add-end
add-end c = omega (arith, within c, small c)

part-result-end : tie.Need-slice_bounds-result-end
part-result-end c = omega (arith, within c, c.requires.1.1.1)

returns : tie.Need-returns
returns c =
    let a = c.args in
    let m = c.cell_of-cell in
    let size = a.g.capacity * a.g.sector in
    let d : m.result * size + size - m.result * size ≡ size = omega arith in
    rw (d, m.ensures.0)

pub zone_part_spec : {M : Type 1} → statement M
zone_part_spec =
    tie.close
    (tie.spec (λ c κs. search rules) mul-size mul_at add-end (λ c. search rules) (λ c. search rules) part-result-end returns)
