use Rattle.volume.specs.looking.SeenByRoles.{Seen, seen_valid, seen_sized}
use borrow.Author.Rules.{rules}
use Rattle.volume.proofs.looking.survey_drives.Statement.{statement}
use Rattle.volume.proofs.looking.survey_drives.Tie as tie

abbrev to_start : tie.After-see_by_roles-places → tie.Start
to_start c = c.before.before.before.before.before

seen : (c : tie.After-see_by_roles-places) → let a = (to_start c).args in Seen a.g a.sectors.now a.written.now c.see_by_roles-places.result c.see_by_roles-places.new.pointers
seen c = let p = (to_start c).requires.1 in let e = c.see_by_roles-places.ensures in record { first = p.2; sized = p.0; places = e.0; hidden = e.2 }

look-present-requires : tie.Need-look_present-here-requires
look-present-requires c κs =
    let r = c.before.before.before in
    let s = to_start r in
    let a = s.args in
    (seen_valid a.g a.sectors.now a.written.now r.see_by_roles-places.result r.see_by_roles-places.new.pointers (seen r) s.requires.0, seen_sized a.g a.sectors.now a.written.now r.see_by_roles-places.result r.see_by_roles-places.new.pointers (seen r))

first-bad-requires : tie.Need-first_bad-bad-requires
first-bad-requires c κs =
    let r = c.before.before.before.before.before in
    let s = to_start r in
    let a = s.args in
    (seen_valid a.g a.sectors.now a.written.now r.see_by_roles-places.result r.see_by_roles-places.new.pointers (seen r) s.requires.0, seen_sized a.g a.sectors.now a.written.now r.see_by_roles-places.result r.see_by_roles-places.new.pointers (seen r))

log-refusal-requires : tie.Need-log_refusal-refusal-requires
log-refusal-requires c κs =
    let r = c.before.before.before.before.before.before in
    let s = to_start r in
    let a = s.args in
    (seen_valid a.g a.sectors.now a.written.now r.see_by_roles-places.result r.see_by_roles-places.new.pointers (seen r) s.requires.0, (seen_sized a.g a.sectors.now a.written.now r.see_by_roles-places.result r.see_by_roles-places.new.pointers (seen r), c.first_bad-bad.ensures))

returns : tie.Need-returns
returns c = record {
  seen = seen c.before.before.before.before.before.before.before;
  present = c.look_present-here.ensures;
  refused = c.log_refusal-refusal.ensures;
  bad_is = c.first_bad-bad.ensures;
}

pub survey_drives_spec : {M : Type 1} → statement M
survey_drives_spec =
    tie.close
    (tie.spec (λ c κs. search rules) look-present-requires first-bad-requires log-refusal-requires (λ c. search rules) returns)
