use mathlib.Core.Path.{◌≡◌, sym, ap, ◌∙◌, subst}
use mathlib.Core.Bool.{false}
use Prim.Native.Nat.{ℕ, ◌≤◌}
use native.Mathlib.Omega.{arith}
use mathlib.Core.List.{List}
use lib.ListN.{length}
use Rattle.tables.specs.meaning.Below.{each_below}
use Rattle.tables.specs.meaning.Geometry.{Valid, cells}
use Rattle.tables.specs.meaning.Lists.{concat}
use Rattle.tables.specs.meaning.Device.{Store}
use Rattle.tables.specs.meaning.Phases.{flush_all, on_present}
use Rattle.tables.specs.meaning.Tables.{Tables, tables_of}
use Rattle.tables.specs.laws.Made.{Made}
use Rattle.volume.specs.declared.emptyings.Emptyings.{Emptyings}
use Rattle.mounting.specs.declared.plan.Course.{Course}
use Rattle.volume.specs.meaning.CallContracts.{is_set}
use Rattle.volume.specs.meaning.Mount.{with_flush}
use Rattle.volume.specs.emptying.Emptyings.{EmptyingReady, emptied_on, new_general_on}
use Rattle.volume.specs.checks.Records.{generations_shown, generations_shown_long}
use Rattle.mounting.specs.OpenLogs.{from_valid, from_cells, pointers_long, opened_ready, opened_all, spares_at, first_flushed, spares_flushed, logs_stopped, logs_opened}
use borrow.Author.Rules.{rules}
use Rattle.mounting.proofs.rooms.open_logs.Statement.{statement}
use Rattle.mounting.proofs.rooms.open_logs.Tie as tie

-- from the place after a call to that after the one before
abbrev begun : tie.After-clear_spares-rest → tie.Start
begun c = c.before.before.before.before.before.before.before.before.before

abbrev to-rest : tie.After-hide_lacking → tie.After-clear_spares-rest
to-rest c = c.before.before.before.before.before.before.before.before

abbrev to-hidden : tie.After-generations_shown-current → tie.After-hide_lacking
to-hidden c = c.before.before.before.before

abbrev to-generations : tie.After-empty_generals-copied → tie.After-generations_shown-current
to-generations c = c.before.before.before.before.before.before

abbrev to-emptied : tie.After-flush_after → tie.After-empty_generals-copied
to-emptied c = c.before.before.before.before.before.before.before.before

-- what the mount began with
abbrev given : tie.Start → Tables
given s = tables_of s.args.sectors.now s.args.written.now s.args.durable.now

-- no call changes a length
cleared-long : (c : tie.After-clear_spares-rest) → let g = (begun c).args.g in (length c.clear_spares-rest.new.written ≡ cells g) × (length c.clear_spares-rest.new.durable ≡ cells g)
cleared-long c = let z = (begun c).requires.1.0.sized in (c.clear_spares-rest.auto.written ∙ z.written_long, c.clear_spares-rest.auto.durable ∙ z.durable_long)

-- the first flush, and step 1 with its flush
abbrev flushed-tables : tie.After-clear_spares-rest → Tables
flushed-tables c = let a = (begun c).args in tables_of a.sectors.now a.written.now c.clear_spares-rest.ensures.flushed_pointers

flushed : (c : tie.After-clear_spares-rest) → let s = begun c in let a = s.args in Made a.g a.budget c.clear_spares-rest.ensures.flushed (on_present (is_set a.plan.here) (flush_all a.g.drives)) (given s) (flushed-tables c)
flushed c =
    let s = begun c in
    let a = s.args in
    let e = c.clear_spares-rest.ensures in
    first_flushed a.g s.requires.0 a.plan a.sectors.now a.written.now a.durable.now a.pointers.now s.requires.1.0 a.budget e.flushed e.flushed_pointers e.flush

abbrev spares : tie.Start → List (List Store)
spares s = let a = s.args in with_flush a.g (is_set a.plan.here) (spares_at a.g s.requires.0 a.plan a.sectors.now a.written.now a.durable.now a.pointers.now s.requires.1.0)

spared : (c : tie.After-clear_spares-rest) → let s = begun c in let a = s.args in let r = c.clear_spares-rest in
    Made a.g r.ensures.flushed r.result (concat (spares s)) (flushed-tables c) (tables_of a.sectors.now r.new.written r.new.durable)
spared c =
    let s = begun c in
    let a = s.args in
    let r = c.clear_spares-rest in
    let e = r.ensures in
    spares_flushed a.g s.requires.0 a.plan a.sectors.now a.written.now a.durable.now a.pointers.now s.requires.1.0 e.flushed e.spared r.result e.flushed_pointers r.new.written e.spared_pointers r.new.durable e.resets e.after

clear-spares-requires : tie.Need-clear_spares-rest-requires
clear-spares-requires c κs =
    let s = c.before.before.before.before.before.before.before.before in
    let a = s.args in
    let z = s.requires.1.0.sized in (
      (s.requires.0, from_valid a.g s.requires.0 a.plan a.sectors.now a.written.now a.durable.now a.pointers.now s.requires.1.0),
      (
        z.written_long,
        z.durable_long,
        pointers_long a.g s.requires.0 a.plan a.sectors.now a.written.now a.durable.now a.pointers.now s.requires.1.0,
        from_cells a.g s.requires.0 a.plan a.sectors.now a.written.now a.durable.now a.pointers.now s.requires.1.0,
      ),
    )

returns : tie.Need-returns-then-rest-eq0
returns c =
    let f = c.before.before.before.before.before in
    let s = begun f in
    let a = s.args in
    let t₂ : Tables = tables_of a.sectors.now f.clear_spares-rest.new.written f.clear_spares-rest.new.durable in
    let n = f.clear_spares-rest.ensures.flushed in
    logs_stopped a.g s.requires.0 a.plan a.sectors.now a.written.now a.durable.now a.pointers.now s.requires.1.0 a.budget n (flushed-tables f) t₂ (flushed f) (subst (λ (m : ℕ). Made a.g n m (concat (spares s)) (flushed-tables f) t₂) c.if-rest-eq0.true (spared f))

hide-lacking-requires : tie.Need-hide_lacking-requires
hide-lacking-requires c κs =
    let f = c.before.before.before.before.before.before.before in
    let s = begun f in
    let a = s.args in
    let same = sym (from_cells a.g s.requires.0 a.plan a.sectors.now a.written.now a.durable.now a.pointers.now s.requires.1.0) in (
      from_valid a.g s.requires.0 a.plan a.sectors.now a.written.now a.durable.now a.pointers.now s.requires.1.0,
      (
        (cleared-long f).0 ∙ same,
        pointers_long a.g s.requires.0 a.plan a.sectors.now a.written.now a.durable.now a.pointers.now s.requires.1.0 ∙ same,
      ),
    )

empty-generals-requires : tie.Need-empty_generals-copied-requires
empty-generals-requires c κs =
    let m = c.before.before.before.before.before in
    let h = to-hidden m in
    let s = begun (to-rest h) in
    let a = s.args in
    let n : length m.generations_shown-current.result ≡ 16 = ap length m.generations_shown-current.ensures ∙ generations_shown_long a.plan.look in
    let us = (to-rest h).clear_spares-rest.new.written in
    let fs = (to-rest h).clear_spares-rest.new.durable in
    let qs = h.hide_lacking.new.pointers in
    let ready = opened_ready a.g s.requires.0 a.plan a.sectors.now a.written.now a.durable.now a.pointers.now s.requires.1.0 us fs qs (cleared-long (to-rest h)).0 (cleared-long (to-rest h)).1 h.hide_lacking.ensures in
    let valid = from_valid a.g s.requires.0 a.plan a.sectors.now a.written.now a.durable.now a.pointers.now s.requires.1.0 in
    subst (λ (x : Course). Valid x.general.from × (EmptyingReady false x.general qs a.sectors.now us fs × (x.general.from.zones ≤ length m.generations_shown-current.result))) (sym s.requires.1.1) (valid, (ready, omega (arith, n, valid.zones_most)))

flush-after-requires : tie.Need-flush_after-requires
flush-after-requires c κs =
    let y = c.before.before.before.before.before.before.before in
    let e = y.empty_generals-copied in
    let f = to-rest (to-hidden (to-generations y)) in
    ((begun f).requires.0, (e.auto.written ∙ (cleared-long f).0, e.auto.durable ∙ (cleared-long f).1))

same-length-5 : tie.Need-shape_of-written
same-length-5 c = let e = to-emptied c.before.before in e.empty_generals-copied.auto.written ∙ (to-rest (to-hidden (to-generations e))).clear_spares-rest.auto.written

same-length-6 : tie.Need-shape_of-durable
same-length-6 c =
    let e = to-emptied c.before.before in
    let f = to-rest (to-hidden (to-generations e)) in
    c.flush_after.auto.durable ∙ e.empty_generals-copied.auto.durable ∙ f.clear_spares-rest.auto.durable

returns-2 : tie.Need-returns
returns-2 c =
    let z = c.flush_after in
    let y = to-emptied c.before.before in
    let e = y.empty_generals-copied in
    let l = e.new in
    let m = to-generations y in
    let h = to-hidden m in
    let f = to-rest h in
    let s = begun f in
    let a = s.args in
    let us = f.clear_spares-rest.new.written in
    let fs = f.clear_spares-rest.new.durable in
    let qs = h.hide_lacking.new.pointers in
    let made : Emptyings → List ℕ → Type 0 = λ b gs. Made b.to f.clear_spares-rest.result e.result (each_below (λ d. emptied_on b false (new_general_on b gs a.sectors.now qs d) d) b.from.drives) (tables_of a.sectors.now us fs) (tables_of l.sectors l.written l.durable) in
    let all = opened_all a.g s.requires.0 a.plan a.sectors.now a.written.now a.durable.now a.pointers.now s.requires.1.0 in
    let emptied : made all (generations_shown a.plan.look) = subst (made all) m.generations_shown-current.ensures (subst (λ (x : Course). made x.general m.generations_shown-current.result) s.requires.1.1 e.ensures) in
    logs_opened a.g s.requires.0 a.plan a.sectors.now a.written.now a.durable.now a.pointers.now s.requires.1.0 a.budget f.clear_spares-rest.ensures.flushed f.clear_spares-rest.result (flushed-tables f) us fs qs
    (cleared-long f).0 h.hide_lacking.ensures (flushed f) (spared f) h.if-rest-eq0.false e.result z.result l.sectors l.written l.durable z.new.durable emptied z.ensures

pub open_logs_spec : {M : Type 1} → statement M
open_logs_spec =
    tie.close
    (tie.spec clear-spares-requires (λ c. search rules) (λ c. search rules) (λ c. search rules) returns hide-lacking-requires (λ c κs. search rules) (λ c. search rules) empty-generals-requires
    flush-after-requires (λ c. search rules) same-length-5 same-length-6 (λ c. search rules) returns-2)
