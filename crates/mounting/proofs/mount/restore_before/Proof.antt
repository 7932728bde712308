use mathlib.Core.Path.{◌≡◌, sym, ap, ◌∙◌, subst}
use Prim.Native.Nat.{ℕ}
use lib.ListN.{length}
use Rattle.tables.specs.meaning.Geometry.{Valid, cells}
use Rattle.tables.specs.meaning.Lists.{concat}
use Rattle.tables.specs.meaning.Tables.{tables_of, device_of}
use Rattle.tables.specs.laws.Made.{Made, WellSized}
use Rattle.mounting.specs.declared.plan.Course.{Course}
use Rattle.volume.specs.meaning.CallContracts.{is_set}
use Rattle.volume.specs.meaning.Mount.{phases_of_logs}
use Rattle.volume.specs.looking.HiddenLogs.{hidden_logs}
use Rattle.mounting.specs.MountRooms.{lost_among}
use Rattle.mounting.specs.MountValues.{Restoring}
use Rattle.mounting.specs.MountSteps.{Restored}
use Rattle.mounting.specs.MountEmptied.{logs_sized}
use Rattle.mounting.specs.MountBetween.{middle_places}
use Rattle.mounting.specs.PlannedPlaces.{middle_valid, middle_cells}
use Rattle.mounting.specs.RestoreBefore.{planned_long, middle_restoring, before_stopped, before_made}
use borrow.Author.Rules.{rules}
use Rattle.mounting.proofs.mount.restore_before.Statement.{statement}
use Rattle.mounting.proofs.mount.restore_before.Tie as tie

-- from the place after a call to that after the one before
abbrev to_start : tie.After-open_logs-rest → tie.Start
to_start c = c.before.before.before.before.before.before.before.before.before

abbrev to-opened : tie.Else-rest-eq0 → tie.After-open_logs-rest
to-opened c = c.before.before.before.before.before.before.before.before.before

abbrev to-else : tie.After-hide_lacking → tie.Else-rest-eq0
to-else c = c.before.before.before

abbrev to-hidden : tie.After-restore_steps → tie.After-hide_lacking
to-hidden c = c.before.before.before.before.before.before.before

-- with the logs opened, the tables have their sizes
opened-sized : (c : tie.After-open_logs-rest) → let a = (to_start c).args in let f = c.open_logs-rest in WellSized a.g (tables_of f.new.sectors f.new.written f.new.durable)
opened-sized c =
    let s = to_start c in
    let a = s.args in
    let f = c.open_logs-rest in
    logs_sized a.g s.requires.0 (tables_of a.sectors.now a.written.now a.durable.now) a.plan a.pointers.now s.requires.1.0 a.budget f.result (tables_of f.new.sectors f.new.written f.new.durable) f.ensures

-- the pointers of then
hidden-is : (c : tie.After-hide_lacking) → let q = to-opened (to-else c) in let a = (to_start q).args in
    c.hide_lacking.new.pointers ≡ hidden_logs (middle_places a.plan) q.open_logs-rest.new.written (middle_places a.plan).geometry.drives
hidden-is c =
    let q = to-opened (to-else c) in
    c.hide_lacking.ensures ∙ ap (λ (x : Course). hidden_logs x.middle q.open_logs-rest.new.written x.middle.geometry.drives) (to_start q).requires.1.1

-- the budget ended with step 2
returns : tie.Need-returns-then-rest-eq0
returns c =
    let o : tie.After-open_logs-rest = c.before.before.before.before.before.before.before.before.before in
    let s = to_start o in
    let a = s.args in
    let f = o.open_logs-rest in
    let t = tables_of a.sectors.now a.written.now a.durable.now in
    let u = tables_of f.new.sectors f.new.written f.new.durable in
    before_stopped a.g s.requires.0 t a.plan a.pointers.now s.requires.1.0 a.budget f.new.pointers u
    (subst (λ (n : ℕ). Made a.g a.budget n (concat (phases_of_logs a.g (is_set a.plan.here) (lost_among a.g a.plan.here) (device_of a.g t))) t u) c.if-rest-eq0.true f.ensures)

hide-lacking-requires : tie.Need-hide_lacking-requires
hide-lacking-requires c κs =
    let o = to-opened c.before.before in
    let s = to_start o in
    let a = s.args in
    let t = tables_of a.sectors.now a.written.now a.durable.now in
    let few = sym (middle_cells a.g s.requires.0 t a.plan a.pointers.now s.requires.1.0) in
    let ws = o.open_logs-rest.new.written in
    let qs = o.open_logs-rest.new.pointers in
    subst (λ (x : Course). Valid x.middle.geometry × ((length ws ≡ cells x.middle.geometry) × (length qs ≡ cells x.middle.geometry))) (sym s.requires.1.1) (
      middle_valid a.g s.requires.0 t a.plan a.pointers.now s.requires.1.0,
      ((opened-sized o).written_long ∙ few, o.open_logs-rest.auto.pointers ∙ planned_long a.g s.requires.0 t a.plan a.pointers.now s.requires.1.0 ∙ few),
    )

restore-steps-requires : tie.Need-restore_steps-requires
restore-steps-requires c κs =
    let h = c.before.before.before.before.before.before in
    let o = to-opened (to-else h) in
    let s = to_start o in
    let a = s.args in
    let f = o.open_logs-rest in
    let t = tables_of a.sectors.now a.written.now a.durable.now in
    let u = tables_of f.new.sectors f.new.written f.new.durable in
    let ps = h.hide_lacking.new.pointers in
    subst (λ (x : Course). Valid x.basis.geometry × Restoring x.basis.geometry x.basis.here x.basis.look ps u) (sym s.requires.1.1) (
      middle_valid a.g s.requires.0 t a.plan a.pointers.now s.requires.1.0,
      middle_restoring a.g s.requires.0 t a.plan a.pointers.now s.requires.1.0 a.budget f.result u f.ensures (to-else h).if-rest-eq0.false ps (hidden-is h),
    )

same-length-5 : tie.Need-shape_of-sectors
same-length-5 c = let r = c.before.before.before.before.before.before in r.restore_steps.auto.sectors ∙ (to-opened (to-else (to-hidden r))).open_logs-rest.auto.sectors

same-length-6 : tie.Need-shape_of-written
same-length-6 c = let r = c.before.before.before.before.before.before in r.restore_steps.auto.written ∙ (to-opened (to-else (to-hidden r))).open_logs-rest.auto.written

returns-2 : tie.Need-returns
returns-2 c =
    let r = c.before.before.before.before.before.before in
    let h = to-hidden r in
    let o = to-opened (to-else h) in
    let s = to_start o in
    let a = s.args in
    let f = o.open_logs-rest in
    let l = r.restore_steps.new in
    let t = tables_of a.sectors.now a.written.now a.durable.now in
    let u = tables_of f.new.sectors f.new.written f.new.durable in
    let v = tables_of l.sectors l.written l.durable in
    let ps = h.hide_lacking.new.pointers in
    before_made a.g s.requires.0 t a.plan a.pointers.now s.requires.1.0 a.budget f.result u f.ensures (to-else h).if-rest-eq0.false ps (hidden-is h) r.restore_steps.result v
    (subst (λ (x : Course). Restored x.basis ps f.result r.restore_steps.result u v) s.requires.1.1 r.restore_steps.ensures)

pub restore_before_spec : {M : Type 1} → statement M
restore_before_spec =
    tie.close
    (tie.spec (λ c κs. search rules) (λ c. search rules) (λ c. search rules) (λ c. search rules) (λ c. search rules) returns hide-lacking-requires
    restore-steps-requires same-length-5 same-length-6 (λ c. search rules) (λ c. search rules) returns-2)
