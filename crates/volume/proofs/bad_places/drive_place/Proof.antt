use mathlib.Core.Path.{ap₂, sym, ◌∙◌}
use Prim.Native.Nat.{ℕ, ◌≤◌, ◌<◌}
use native.Mathlib.Omega.{arith}
use Rattle.tables.specs.meaning.Tables.{zone_place}
use Rattle.logs.specs.meaning.Entry.{general_zone, parity_zone}
use Rattle.logs.specs.meaning.Walk.{walk_log}
use Rattle.volume.specs.declared.BadPlace.{BadPlace}
use Rattle.volume.specs.meaning.Refusals.{bad_place_in, first_of, drive_bad_place}
use Rattle.volume.specs.laws.BadPlaces.{lower_first_lem, lower_second}
use Rattle.volume.specs.looking.Knowing.{read_device}
use mathlib.Core.Bool.{Bool, true, false}
use borrow.Author.Rules.{rules}
use Rattle.volume.proofs.bad_places.drive_place.Statement.{statement}
use Rattle.volume.proofs.bad_places.drive_place.Tie as tie

zone-place-requires : tie.Need-zone_place-y-requires
zone-place-requires c κs = let s = c.before.before.before.before in omega (arith, s.requires.1.1, s.requires.0.drives_most)

zone-place-requires-2 : tie.Need-zone_place-z-requires
zone-place-requires-2 c κs = let s = c.before.before.before.before.before in omega (arith, s.requires.1.1, s.requires.0.drives_most)

-- where zone z of the drive lies, and the bad place of its log there
abbrev place_in : tie.Start → ℕ → ℕ
place_in s z = zone_place s.args.g s.args.drive z

abbrev bad_in : tie.Start → ℕ → Bool → BadPlace
bad_in s z par = bad_place_in s.args.drive (place_in s z) (walk_log s.args.g s.args.drive par (read_device s.args.g s.args.sectors.now s.args.written.now s.args.drive z).sectors)

returns : tie.Need-returns-then-y-z
unfolding drive_bad_place
returns c =
    let z = c.before.before in
    let y = z.before in
    let p = y.before in
    let g = p.before in
    let s = g.before.before.before in
    let h : y.zone_place-y.result < z.zone_place-z.result = c.if-y-z.true in
    let l : place_in s general_zone < place_in s parity_zone = rw (y.zone_place-y.ensures, z.zone_place-z.ensures) at h in
    c.first_of.ensures ∙ ap₂ first_of g.log_place-general.ensures p.log_place-parity.ensures ∙ sym (lower_first_lem (place_in s general_zone) (place_in s parity_zone) (bad_in s general_zone false) (bad_in s parity_zone true) l)

returns-2 : tie.Need-returns
unfolding drive_bad_place
returns-2 c =
    let z = c.before.before in
    let y = z.before in
    let p = y.before in
    let g = p.before in
    let s = g.before.before.before in
    let h : z.zone_place-z.result ≤ y.zone_place-y.result = c.if-y-z.false in
    let l : place_in s parity_zone ≤ place_in s general_zone = rw (y.zone_place-y.ensures, z.zone_place-z.ensures) at h in
    c.first_of-2.ensures ∙ ap₂ first_of p.log_place-parity.ensures g.log_place-general.ensures ∙ sym (lower_second (place_in s general_zone) (place_in s parity_zone) (bad_in s general_zone false) (bad_in s parity_zone true) l)

pub drive_place_spec : {M : Type 1} → statement M
drive_place_spec =
    tie.close
    (tie.spec (λ c κs. search rules) (λ c κs. search rules) zone-place-requires zone-place-requires-2 (λ c κs. search rules) returns (λ c κs. search rules) returns-2)
