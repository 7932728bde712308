use mathlib.Core.Path.{◌∙◌, sym, subst}
use Prim.Native.Nat.{ℕ}
use mathlib.Core.List.{List}
use Rattle.tables.specs.meaning.Device.{Store}
use Rattle.tables.specs.meaning.Lists.{concat}
use Rattle.tables.specs.meaning.Tables.{tables_of}
use Rattle.tables.specs.laws.Made.{Made}
use Rattle.volume.specs.looking.Knowing.{read_device}
use Rattle.volume.specs.meaning.Mount.{with_flush}
use Rattle.volume.specs.meaning.CallContracts.{is_set}
use Rattle.volume.specs.meaning.Rules.{parity_entries}
use Rattle.volume.specs.rows.SameShape.{shape_valid, shape_cells}
use Rattle.mounting.specs.MountValues.{shown_at}
use Rattle.mounting.specs.MountLastEntries.{Entering, entry_stores_below, with_flush_same}
use borrow.Author.Rules.{rules}
use Rattle.mounting.proofs.steps.entry_step.Statement.{statement}
use Rattle.mounting.proofs.steps.entry_step.Tie as tie

hide-lacking-requires : tie.Need-hide_lacking-requires
hide-lacking-requires c κs =
    let s = c.before.before.before.before.before.before.before in
    let a = s.args in
    let e = s.requires.1.0.appends in
    let few = sym (shape_cells a.basis.geometry a.to.geometry e.shape) in
    (shape_valid a.basis.geometry a.to.geometry e.shape s.requires.0, (e.written_long ∙ few, s.requires.1.1.1 ∙ few))

-- the pointers of the moment, as the code has copied them
log-entries-requires : tie.Need-log_entries-rest-requires
log-entries-requires c κs =
    let s = c.before.before.before.before.before.before.before.before.before.before.before.before.before in
    let a = s.args in
    let b = a.basis in
    (s.requires.0, subst (λ (zs : List ℕ). Entering b.geometry a.to.geometry b.here b.look a.pointers.now zs a.sectors.now a.written.now) (sym c.hide_lacking.ensures) s.requires.1.0)

flush-after-requires : tie.Need-flush_after-requires
flush-after-requires c κs =
    let f = c.log_entries-rest in
    let s = c.before.before.before.before.before.before.before.before.before.before.before.before.before.before.before.before.before.before.before.before in
    let a = s.args in
    let e = s.requires.1.0.appends in
    let few = sym (shape_cells a.basis.geometry a.to.geometry e.shape) in
    (shape_valid a.basis.geometry a.to.geometry e.shape s.requires.0, (f.auto.written ∙ e.written_long ∙ few, s.requires.1.1.0 ∙ few))

returns : tie.Need-returns
returns c =
    let f = c.log_entries-rest in
    let s = c.before.before.before.before.before.before.before.before.before.before.before.before.before.before.before.before.before.before.before.before.before.before.before in
    let a = s.args in
    let b = a.basis in
    let g = b.geometry in
    let to = a.to.geometry in
    let h = c.flush_after in
    let hidden = c.hide_lacking in
    let t = tables_of a.sectors.now a.written.now a.durable.now in
    let u = tables_of f.new.sectors f.new.written h.new.durable in
    let stores : List ℕ → List Store = λ zs. entry_stores_below g b.look (shown_at g b.here b.look a.sectors.now a.pointers.now) (parity_entries to (read_device to a.sectors.now zs)) g.drives in
    subst (λ (zs : List ℕ). Made to a.budget h.result (concat (with_flush g (is_set b.here) (stores zs))) t u) hidden.ensures
    (subst (λ (steps : List (List Store)). Made to a.budget h.result (concat steps) t u) (with_flush_same g to s.requires.1.0.appends.shape (is_set b.here) (stores hidden.new.pointers))
    (h.ensures.made f.new.sectors (stores hidden.new.pointers) t (f.ensures.made a.durable.now)))

pub entry_step_spec : {M : Type 1} → statement M
entry_step_spec =
    tie.close
    (tie.spec hide-lacking-requires log-entries-requires flush-after-requires (λ c. search rules) (λ c. search rules) (λ c. search rules) (λ c. search rules) returns)
