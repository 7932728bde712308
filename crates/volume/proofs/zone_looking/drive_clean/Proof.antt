use mathlib.Core.Path.{◌≡◌, refl, ◌∙◌}
use mathlib.Core.Bool.{true, false}
use Prim.Native.Nat.{◌<◌}
use native.Mathlib.Omega.{arith}
use lib.ListN.{length, get_or}
use borrow.Author.Tests.{not-true, not-false}
use Rattle.tables.specs.meaning.Geometry.{physical_zones, data_zone}
use Rattle.volume.specs.meaning.CallContracts.{is_set}
use Rattle.volume.specs.looking.ZoneLooking.{zone_length, neither}
use Rattle.volume.specs.looking.Knowing.{read_device}
use Rattle.tables.specs.meaning.Lists.{any_of}
use Rattle.logs.specs.meaning.Entry.{Entry}
use Rattle.logs.specs.meaning.Heads.{ends_past}
use Rattle.volume.specs.meaning.Rules.{parity_entries, parity_ending, ending_past}
use borrow.Author.Rules.{rules}
use Rattle.volume.proofs.zone_looking.drive_clean.Statement.{statement}
use Rattle.volume.proofs.zone_looking.drive_clean.Tie as tie

returns : tie.Need-returns-then-not-present
returns c = let a = c.args in rw (not-true (get_or a.zone.here a.d false) c.if-not-present.true-raw) refl

returns-2 : tie.Need-returns
returns-2 c =
    let s = c.before.before.before.before.before.before.before in
    let a = s.args in
    let p : is_set a.zone.here a.d ≡ true = not-false (get_or a.zone.here a.d false) c.if-not-present.false-raw in
    let h : data_zone a.zone.number < physical_zones a.zone.geometry = omega arith in
    let n : c.zone_pointer-n.result ≡ length (read_device a.zone.geometry a.sectors.now a.written.now a.d (data_zone a.zone.number)).sectors = c.zone_pointer-n.ensures.0 ∙ zone_length a.zone.geometry a.sectors.now a.written.now a.d (data_zone a.zone.number) s.requires.1.1 h in
    let v = read_device a.zone.geometry a.sectors.now a.written.now in
    let whole = any_of (λ (e : Entry). ends_past a.zone.geometry a.zone.number a.zone.generation a.q e.head) (parity_entries a.zone.geometry v a.d) in
    let torn = ending_past a.zone.geometry a.zone.number a.zone.generation a.q (parity_ending a.zone.geometry v a.d) in
    rw (p, n, c.sectors_needed-needs.ensures.0, c.entry_past-past.ensures, neither whole torn) refl

pub drive_clean_spec : {M : Type 1} → statement M
drive_clean_spec =
    tie.close
    (tie.spec (λ c. search rules) returns (λ c. search rules) (λ c κs. search rules) (λ c κs. search rules) (λ c κs. search rules) returns-2)
