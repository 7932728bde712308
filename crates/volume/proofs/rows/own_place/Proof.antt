use Prim.Native.Nat.{ℕ}
use mathlib.Core.Path.{ap₂, ◌∙◌}
use native.Mathlib.Omega.{arith}
use Rattle.tables.specs.meaning.Geometry.{data_zone}
use Rattle.tables.specs.meaning.Tables.{byte_at}
use Rattle.volume.specs.looking.KnowingValues.{sector_within}
use borrow.Author.Rules.{rules}
use Rattle.volume.proofs.rows.own_place.Statement.{statement}
use Rattle.volume.proofs.rows.own_place.Tie as tie

byte-at-requires : tie.Need-byte_at-requires
byte-at-requires c κs =
    let s = c.before.before in
    (s.requires.0, (c.drive_of-d.ensures.1, omega (arith, s.requires.1.0), omega (arith, sector_within s.args.g s.args.a s.requires.0 s.requires.1.1, c.sector_of-x.ensures)))

returns : tie.Need-returns
returns c =
    let x = c.before in
    let a = x.args in
    (c.byte_at.ensures.0 ∙ ap₂ (λ (d n : ℕ). byte_at a.g d (data_zone a.z) n) x.drive_of-d.ensures.0 x.sector_of-x.ensures, c.byte_at.ensures.1)

pub own_place_spec : {M : Type 1} → statement M
own_place_spec = tie.close (tie.spec (λ c κs. search rules) (λ c κs. search rules) (λ c. search rules) byte-at-requires returns)
