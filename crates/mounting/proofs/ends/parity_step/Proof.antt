use mathlib.Core.Path.{sym, subst, ◌∙◌}
use Prim.Native.Nat.{ℕ}
use mathlib.Core.List.{List}
use Rattle.tables.specs.meaning.Device.{Store}
use Rattle.tables.specs.meaning.Tables.{tables_of}
use Rattle.tables.specs.laws.Made.{Made}
use Rattle.volume.specs.emptying.Shape.{shape_valid, shape_cells}
use Rattle.volume.specs.emptying.ParityTurns.{ParitiesReady, ParitiesEmptied}
use Rattle.volume.specs.checks.Records.{generations_shown, points_shown}
use Rattle.mounting.specs.MountEnds.{parity_stores}
use borrow.Author.Rules.{rules}
use Rattle.mounting.proofs.ends.parity_step.Statement.{statement}
use Rattle.mounting.proofs.ends.parity_step.Tie as tie

-- the arrays of the look, as the code has made them
empty-parities-requires : tie.Need-empty_parities-rest-requires
empty-parities-requires c κs =
    let s = c.before.before.before.before.before.before.before.before.before.before.before.before.before in
    let a = s.args in
    let gs = c.generations_shown-generations in
    let qs = c.points_shown-points in
    let ready : List ℕ → List ℕ → Type 0 = λ x y. ParitiesReady a.all x y a.pointers.now a.starts.now a.sectors.now a.written.now a.durable.now in
    (s.requires.0, subst (λ (x : List ℕ). ready x qs.result) (sym gs.ensures) (subst (ready (generations_shown a.look)) (sym qs.ensures) s.requires.1))

flush-after-requires : tie.Need-flush_after-requires
flush-after-requires c κs =
    let f = c.empty_parities-rest in
    let s = c.before.before.before.before.before.before.before.before.before.before.before.before.before.before.before.before.before.before.before.before.before.before in
    let all = s.args.all in
    let shape = s.requires.1.ready.shape in
    let few = sym (shape_cells all.from all.to shape) in
    (shape_valid all.from all.to shape s.requires.0, (f.ensures.sized.written_long ∙ few, f.ensures.sized.durable_long ∙ few))

returns : tie.Need-returns
returns c =
    let h = c.flush_after in
    let f = c.empty_parities-rest in
    let s = c.before.before.before.before.before.before.before.before.before.before.before.before.before.before.before.before.before.before.before.before.before.before.before.before.before in
    let gs = c.generations_shown-generations in
    let qs = c.points_shown-points in
    let a = s.args in
    let t = tables_of a.sectors.now a.written.now a.durable.now in
    let u = tables_of f.new.sectors f.new.written f.new.durable in
    let emptied : List ℕ → List ℕ → Type 0 = λ x y. ParitiesEmptied a.all x y a.pointers.now a.starts.now a.budget f.result t u in
    let e : emptied (generations_shown a.look) (points_shown a.look) = subst (emptied (generations_shown a.look)) qs.ensures (subst (λ (x : List ℕ). emptied x qs.result) gs.ensures f.ensures) in
    let stores = parity_stores a.all a.look a.pointers.now a.starts.now a.sectors.now in
    record {
      made = λ on. h.ensures.made f.new.sectors stores t (subst (λ (l : List Store). Made a.all.to a.budget f.result l t u) (sym on) e.made);
      sized = record { sectors_long = e.sized.sectors_long; written_long = e.sized.written_long; durable_long = h.auto.durable ∙ e.sized.durable_long };
      device = e.device;
      logs_behind = e.logs_behind;
    }

pub parity_step_spec : {M : Type 1} → statement M
parity_step_spec =
    tie.close
    (tie.spec (λ c κs. search rules) (λ c κs. search rules) (λ c. search rules) (λ c. search rules) empty-parities-requires flush-after-requires (λ c. search rules) (λ c. search rules) (λ c. search rules) returns)
