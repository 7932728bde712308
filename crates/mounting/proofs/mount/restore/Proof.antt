use mathlib.Core.Path.{subst}
use Prim.Native.Nat.{ℕ}
use Rattle.tables.specs.meaning.Tables.{tables_of}
use Rattle.tables.specs.laws.Made.{Made}
use Rattle.volume.specs.meaning.CallContracts.{is_set, stores_before}
use Rattle.mounting.specs.MountRooms.{lost_among}
use Rattle.mounting.specs.EntriesMade.{before_stopped}
use Rattle.mounting.specs.PlannedPlaces.{places_valid}
use borrow.Author.Rules.{rules}
use Rattle.mounting.proofs.mount.restore.Statement.{statement}
use Rattle.mounting.proofs.mount.restore.Tie as tie

course-of-requires : tie.Need-course_of-course-requires
course-of-requires c κs =
    let s = c.before.before.before.before.before in
    let a = s.args in
    places_valid a.g s.requires.0 (tables_of a.sectors.now a.written.now a.durable.now) a.plan a.pointers.now s.requires.1.0

restore-before-requires : tie.Need-restore_before-rest-requires
restore-before-requires c κs = let o = c.before.before.before.before in let s = o.before.before.before.before.before.before in (s.requires.0, (s.requires.1.0, o.course_of-course.ensures))

-- the budget ended before step 10
returns : tie.Need-returns-then-rest-eq0
returns c =
    let f = c.restore_before-rest in
    let a = c.args in
    let t = tables_of a.sectors.now a.written.now a.durable.now in
    let u = tables_of f.new.sectors f.new.written f.new.durable in
    let x = lost_among a.g a.plan.here in
    before_stopped a.g (is_set a.plan.here) x t a.budget u (subst (λ (n : ℕ). Made a.g a.budget n (stores_before a.g (is_set a.plan.here) x t) t u) c.if-rest-eq0.true f.ensures.made)

restore-ends-requires : tie.Need-restore_ends-requires
restore-ends-requires c κs =
    let f = c.restore_before-rest in
    let s = c.before.before.before.before.before.before.before.before.before.before.before.before.before.before.before.before.before.before.before.before.before.before.before.before in
    let a = s.args in
    let t = tables_of a.sectors.now a.written.now a.durable.now in
    (s.requires.0, (record { met = t; start = a.pointers.now; planned = s.requires.1.0; between = f.ensures.between c.if-rest-eq0.false }, (s.requires.1.1, c.course_of-course.ensures)))

returns-2 : tie.Need-returns
returns-2 c =
    let h = c.restore_ends in
    let f = c.restore_before-rest in
    let s = c.before.before.before.before.before.before.before.before.before.before.before.before.before.before.before.before.before.before.before.before.before.before.before.before.before.before.before.before.before.before.before.before.before in
    let a = s.args in
    let t = tables_of a.sectors.now a.written.now a.durable.now in
    h.ensures.whole t a.pointers.now a.budget s.requires.1.0 f.ensures (f.ensures.between c.if-rest-eq0.false)

pub restore_spec : {M : Type 1} → statement M
restore_spec =
    tie.close
    (tie.spec course-of-requires restore-before-requires (λ c. search rules) (λ c. search rules) (λ c. search rules) (λ c. search rules) returns restore-ends-requires
    (λ c. search rules) (λ c. search rules) (λ c. search rules) (λ c. search rules) (λ c. search rules) returns-2)
