use mathlib.Core.Path.{◌≡◌, refl, sym, ap, subst, ◌∙◌}
use mathlib.Core.List.{List}
use Prim.Native.Nat.{ℕ, ◌+◌, ◌*◌, ◌≤◌}
use lib.ListN.{length}
use Rattle.tables.specs.declared.Geometry.{Geometry}
use Rattle.tables.specs.meaning.Geometry.{Valid, zone_sectors}
use Rattle.volume.specs.meaning.Refusals.{gone_in}
use Rattle.volume.specs.meaning.CallContracts.{is_set, values_on}
use Rattle.volume.specs.looking.Knowing.{Readable, source_of}
use Rattle.volume.specs.looking.SeenByRoles.{Seen, seen_geometry, seen_valid, seen_zone, seen_readable}
use Rattle.volume.specs.reading.Reading.{read_by_roles, gone_placed, values_placed}
use borrow.Author.Rules.{rules}
use Rattle.volume.proofs.reading.read_by_roles.Statement.{statement}
use Rattle.volume.proofs.reading.read_by_roles.Tie as tie

abbrev to_start : tie.After-see_by_roles-places → tie.Start
to_start r = r.before.before.before.before.before.before.before.before

-- the pointers by which the tables are read
abbrev pointers-of : tie.After-see_by_roles-places → List ℕ
pointers-of r = r.see_by_roles-places.new.pointers

seen : (r : tie.After-see_by_roles-places) → let a = (to_start r).args in Seen a.zone.geometry a.sectors.now a.written.now r.see_by_roles-places.result (pointers-of r)
seen r =
    let p = (to_start r).requires.1 in
    let e = r.see_by_roles-places.ensures in
    record { first = p.1; sized = record { sectors_long = p.0.sectors_long; written_long = p.0.written_long }; places = e.0; hidden = e.2 }

valid : (r : tie.After-see_by_roles-places) → Valid r.see_by_roles-places.result.geometry
valid r = let s = to_start r in let a = s.args in seen_valid a.zone.geometry a.sectors.now a.written.now r.see_by_roles-places.result (pointers-of r) (seen r) s.requires.0

readable : (r : tie.After-see_by_roles-places) → let a = (to_start r).args in Readable r.see_by_roles-places.result.geometry a.zone.here a.sectors.now (pointers-of r) a.zone.number
readable r = let s = to_start r in let a = s.args in seen_readable a.zone.geometry a.sectors.now a.written.now r.see_by_roles-places.result (pointers-of r) (seen r) a.zone.here a.zone.number s.requires.1.0

run_in : (r : tie.After-see_by_roles-places) → let a = (to_start r).args in a.offset + a.count ≤ zone_sectors r.see_by_roles-places.result.geometry
run_in r =
    let s = to_start r in
    let a = s.args in
    subst (λ (n : ℕ). a.offset + a.count ≤ n) (sym (seen_zone a.zone.geometry a.sectors.now a.written.now r.see_by_roles-places.result (pointers-of r) (seen r))) s.requires.1.3

buffer : (r : tie.After-see_by_roles-places) → let a = (to_start r).args in length a.out.now ≡ a.count * r.see_by_roles-places.result.geometry.sector
buffer r =
    let s = to_start r in
    let a = s.args in
    s.requires.1.4 ∙ sym (ap (λ (g : Geometry). a.count * g.sector) (seen_geometry a.zone.geometry a.sectors.now a.written.now r.see_by_roles-places.result (pointers-of r) (seen r)))

seal-limit-requires : tie.Need-seal_limit-limit-requires
seal-limit-requires c κs = let r = c.before.before.before in (valid r, readable r)

some-gone-requires : tie.Need-some_gone-gone-requires
some-gone-requires c κs = let r = c.before.before.before.before in (valid r, (readable r, run_in r, c.seal_limit-limit.ensures.0))

-- refusal 15 is that of the device by its roles
abbrev from-gone : tie.After-some_gone-gone → tie.After-see_by_roles-places
from-gone c = c.before.before.before.before.before

gone-is : (c : tie.After-some_gone-gone) → let a = (to_start (from-gone c)).args in c.some_gone-gone.result ≡ gone_in a.zone.geometry (is_set a.zone.here) (read_by_roles a.zone.geometry a.sectors.now a.written.now) a.zone.number a.zone.generation a.offset a.count
gone-is c =
    let r = from-gone c in
    let a = (to_start r).args in
    c.some_gone-gone.ensures ∙ gone_placed a.zone.geometry a.sectors.now a.written.now r.see_by_roles-places.result (pointers-of r) (seen r) (is_set a.zone.here) a.zone.number a.zone.generation a.offset a.count

returns : tie.Need-returns-then-gone
returns c = record { gone_is = sym c.if-gone.true ∙ gone-is c.before; left_is = refl }

read-values-requires : tie.Need-read_values-requires
read-values-requires c κs =
    let r = c.before.before.before.before.before.before.before in
    let a = (to_start r).args in
    let e = c.before.before in
    let limit = c.seal_limit-limit.ensures.0 in
    (valid r, (readable r, run_in r, buffer r, sym c.some_gone-gone.ensures ∙ c.if-gone.false, record { same_source = λ i l. ap (λ (m : ℕ). source_of r.see_by_roles-places.result.geometry a.zone.here a.sectors.now (pointers-of r) a.zone.number a.zone.generation m (a.offset + i)) limit }))

returns-2 : tie.Need-returns
unfolding values_on
returns-2 c =
    let r = c.before.before.before.before.before.before.before.before.before.before in
    let a = (to_start r).args in
    record {
      gone_is = sym c.if-gone.false ∙ gone-is c.before.before.before.before.before;
      left_is = c.read_values.ensures ∙ values_placed a.zone.geometry a.sectors.now a.written.now r.see_by_roles-places.result (pointers-of r) (seen r) (is_set a.zone.here) a.zone.number a.zone.generation a.offset a.count;
    }

pub read_by_roles_spec : {M : Type 1} → statement M
read_by_roles_spec =
    tie.close
    (tie.spec (λ c κs. search rules) seal-limit-requires some-gone-requires (λ c. search rules) returns read-values-requires (λ c. search rules) (λ c. search rules) returns-2)
