use mathlib.Core.List.{List}
use Prim.Native.Nat.{ℕ}
use Rattle.volume.specs.looking.SeenByRoles.{Seen, seen_valid}
use Rattle.mounting.specs.Mounting.{seen_lookable, seen_below, seen_shown}
use borrow.Author.Rules.{rules}
use Rattle.mounting.proofs.mount.shown_now.Statement.{statement}
use Rattle.mounting.proofs.mount.shown_now.Tie as tie

abbrev to_start : tie.After-see_by_roles-places → tie.Start
to_start f = f.before.before.before.before.before

abbrev pointers-of : tie.After-see_by_roles-places → List ℕ
pointers-of f = f.see_by_roles-places.new.pointers

seen : (f : tie.After-see_by_roles-places) → let a = (to_start f).args in Seen a.g a.sectors.now a.written.now f.see_by_roles-places.result (pointers-of f)
seen f =
    let p = (to_start f).requires.1 in
    let e = f.see_by_roles-places.ensures in
    record { first = p.3; sized = record { sectors_long = p.0.sectors_long; written_long = p.0.written_long }; places = e.0; hidden = e.2 }

shown-state-requires : tie.Need-shown_state-requires
shown-state-requires c κs =
    let f = c.before.before in
    let s = to_start f in
    let a = s.args in
    let p = f.see_by_roles-places.result in (
      seen_valid a.g a.sectors.now a.written.now p (pointers-of f) (seen f) s.requires.0,
      (
        seen_lookable a.g a.sectors.now a.written.now p (pointers-of f) (seen f) a.here s.requires.0 s.requires.1.0,
        seen_below a.g a.sectors.now a.written.now p (pointers-of f) (seen f) a.here s.requires.1.1,
      ),
    )

returns : tie.Need-returns
returns c =
    let f = c.before.before.before in
    let a = (to_start f).args in
    seen_shown a.g a.sectors.now a.written.now f.see_by_roles-places.result (pointers-of f) (seen f) a.here (to_start f).requires.1.1 c.shown_state.result c.shown_state.ensures

pub shown_now_spec : {M : Type 1} → statement M
shown_now_spec = tie.close (tie.spec (λ c κs. search rules) shown-state-requires (λ c. search rules) returns)
