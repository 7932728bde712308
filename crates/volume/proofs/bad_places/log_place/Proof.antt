use mathlib.Core.Path.{ap₂, sym, subst, ◌∙◌}
use Prim.Native.Nat.{◌<◌}
use native.Mathlib.Omega.{arith}
use Rattle.tables.specs.meaning.Tables.{zone_place}
use Rattle.tables.specs.laws.ZonePlaces.{place_in}
use Rattle.logs.specs.declared.WalkEnd.{WalkEnd}
use Rattle.volume.specs.looking.DriveLogs.{bad_place_seen, bad_place_seen_lem, bad_sector_small}
use borrow.Author.Rules.{rules}
use Rattle.volume.proofs.bad_places.log_place.Statement.{statement}
use Rattle.volume.proofs.bad_places.log_place.Tie as tie

zone-place-requires : tie.Need-zone_place-place-requires
zone-place-requires c κs = let s = c.before.before.before.before in omega (arith, s.requires.1.1, s.requires.0.drives_most)

-- drive and zone have eight bits, the sector sixteen
place-at-requires : tie.Need-place_at-requires
place-at-requires c κs =
    let n = c.zone_pointer-n in
    let s = c.before.before.before.before.before in
    let a = s.args in
    let y = c.zone_place-place.result in (
      omega (arith, s.requires.1.1, s.requires.0.drives_most),
      omega (arith, c.zone_place-place.ensures, place_in a.g a.drive a.zone s.requires.1.2, s.requires.0.zones_most),
      subst (λ (e : WalkEnd). (bad_place_seen a.drive y e).sector < 65536) (sym c.walk_log-end.ensures.0) (bad_sector_small a.g s.requires.0 a.sectors.now a.drive a.zone y a.parity n.result n.ensures.1),
    )

returns : tie.Need-returns
returns c =
    let n = c.zone_pointer-n in
    let s = c.before.before.before.before.before.before in
    let a = s.args in
    c.place_at.ensures ∙ ap₂ (bad_place_seen a.drive) c.zone_place-place.ensures c.walk_log-end.ensures.0
    ∙ bad_place_seen_lem a.g a.sectors.now a.written.now a.drive a.zone (zone_place a.g a.drive a.zone) a.parity n.result s.requires.1.1 s.requires.1.2 n.ensures.0

pub log_place_spec : {M : Type 1} → statement M
log_place_spec =
    tie.close
    (tie.spec (λ c κs. search rules) (λ c κs. search rules) zone-place-requires place-at-requires returns)
