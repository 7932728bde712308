use mathlib.Core.Path.{ap₂, ◌∙◌}
use Prim.Native.Nat.{ℕ, ◌+◌}
use native.Mathlib.Omega.{arith}
use Rattle.tables.specs.meaning.Placement.{drive_of, sector_of}
use Rattle.tables.specs.meaning.Tables.{byte_at}
use Rattle.volume.specs.looking.KnowingValues.{sector_within}
use Rattle.zrv.proofs.reading.offset_at.Statement.{statement}
use Rattle.zrv.proofs.reading.offset_at.Tie as tie
use Rattle.tables.specs.meaning.Geometry.{data_zone}

zone-of-requires : tie.Need-zone_of-z-requires
zone-of-requires c κs = c.requires.0

offset-of-requires : tie.Need-offset_of-offset-requires
offset-of-requires c κs = c.requires.0

drive-of-requires : tie.Need-drive_of-d-requires
drive-of-requires c κs = (c.requires.0, (rw c.zone_of-z.ensures c.requires.1, omega (arith, c.offset_of-offset.ensures.1)))

sector-of-requires : tie.Need-sector_of-x-requires
sector-of-requires c κs = (c.requires.0, omega (arith, c.offset_of-offset.ensures.1))

add-byte-at : tie.Need-overflow_add-z
add-byte-at c = omega (arith, c.zone_of-z.ensures, c.requires.1, c.requires.0.zones_most)

byte-at-requires : tie.Need-byte_at-requires
byte-at-requires c κs =
    let s = c.before.before.before.before in
    let o = c.offset_of-offset in
    (s.requires.0, (c.drive_of-d.ensures.1, omega (arith, c.zone_of-z.ensures, s.requires.1), rw c.sector_of-x.ensures (sector_within s.args.g o.result s.requires.0 o.ensures.1)))

returns : tie.Need-returns
returns c =
    let a = c.args in
    let D = a.g.drives in
    let U = a.g.unit in
    c.byte_at.ensures.0 ∙ ap₂ (λ (k x : ℕ). byte_at a.g k (data_zone c.zone_of-z.result) x) c.drive_of-d.ensures.0 c.sector_of-x.ensures
    ∙ ap₂ (λ (z o : ℕ). byte_at a.g (drive_of D U z o) (data_zone z) (sector_of D U o)) c.zone_of-z.ensures c.offset_of-offset.ensures.0

pub offset_at_spec : {M : Type 1} → statement M
offset_at_spec =
    tie.close
    (tie.spec zone-of-requires offset-of-requires drive-of-requires sector-of-requires add-byte-at byte-at-requires returns)
