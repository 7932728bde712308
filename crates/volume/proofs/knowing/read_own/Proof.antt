use mathlib.Core.Path.{◌≡◌, ap₂, ◌∙◌}
use Prim.Native.Nat.{ℕ}
use native.Mathlib.Omega.{arith}
use Rattle.tables.specs.meaning.Tables.{sector_at}
use Rattle.volume.specs.looking.KnowingValues.{sector_within}
use borrow.Author.Rules.{rules}
use Rattle.volume.proofs.knowing.read_own.Statement.{statement}
use Rattle.volume.proofs.knowing.read_own.Tie as tie
use Rattle.tables.specs.meaning.Geometry.{data_zone}

read-sector-requires : tie.Need-read_sector-requires
read-sector-requires c κs =
    let s = c.before.before.before.before.before in
    let drive = c.drive_of-d.ensures.1 in
    let sector = sector_within s.args.g s.args.a s.requires.0 s.requires.1.1 in
    (s.requires.0, (omega (arith, drive), omega (arith, s.requires.1.0), omega (arith, sector, c.sector_of-x.ensures), s.requires.1.2, s.requires.1.3))

returns : tie.Need-returns
returns c =
    let a = c.args in
    let drive = c.drive_of-d in
    let sector = c.sector_of-x in
    let f = c.read_sector in
    let bytes : f.new.out ≡ sector_at a.g a.sectors.now drive.result (data_zone a.z) sector.result = f.ensures in
    bytes ∙ ap₂ (λ (d x : ℕ). sector_at a.g a.sectors.now d (data_zone a.z) x) drive.ensures.0 sector.ensures

pub read_own_spec : {M : Type 1} → statement M
read_own_spec =
    tie.close
    (tie.spec (λ c κs. search rules) (λ c κs. search rules) (λ c. search rules) read-sector-requires (λ c. search rules) returns)
