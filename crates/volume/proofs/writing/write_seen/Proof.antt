use mathlib.Core.Path.{◌≡◌, sym, ap, ap₂, ◌∙◌, subst}
use mathlib.Core.Logic.{◌≢◌}
use mathlib.Core.Bool.{Bool, true, false}
use Prim.Native.Nat.{ℕ, suc, ◌+◌, ◌<◌, ◌^◌}
use mathlib.Core.List.{List}
use native.Mathlib.Omega.{arith}
use borrow.Author.Rules.{rules}
use Rattle.tables.specs.meaning.Basics.{pick}
use Rattle.tables.specs.meaning.Geometry.{Valid}
use Rattle.tables.specs.meaning.Tables.{Tables, tables_of}
use Rattle.tables.specs.laws.Made.{Made}
use Rattle.tables.specs.laws.Sizes.{zone_small}
use Rattle.volume.specs.declared.Outcome.{Outcome}
use Rattle.volume.specs.declared.Answer.TheVariants.{Refused}
use Rattle.volume.specs.laws.CallContracts.{storing_refused, storing_ends}
use Rattle.volume.specs.looking.SeenByRoles.{seen_zone}
use Rattle.volume.specs.checks.LogRoom.{SeenByRoles, placed_valid, placed_drives, placed_cells}
use Rattle.volume.specs.writing.WriteRoom.{full_at, full_is}
use Rattle.volume.specs.writing.WriteSeen.{seen_as_lem}
use Rattle.volume.specs.writing.WriteRun.{end_of, at_places, run_stores_of, RunReady, handed_on, run_full, run_gone, last_number, all_stores, write_zone_on}
use Rattle.volume.specs.writing.RunSeen.{seen_now, gone_is, run_write, run_past, made_seen}
use Rattle.volume.proofs.writing.write_seen.Statement.{statement}
use Rattle.volume.proofs.writing.write_seen.Tie as tie

abbrev given : tie.Start → List ℕ → Tables
given s ds = tables_of s.args.sectors.now s.args.written.now ds

seen : (s : tie.Start) → let a = s.args in SeenByRoles a.run.zone.geometry a.places a.sectors.now a.written.now a.pointers.now
seen s = s.requires.1.0

ready : (s : tie.Start) → let a = s.args in RunReady a.run a.state a.written.now a.buffer.now
ready s = s.requires.1.1

valid : (s : tie.Start) → Valid s.args.places.geometry
valid s = let a = s.args in placed_valid a.run.zone.geometry a.places a.sectors.now a.written.now a.pointers.now (seen s) s.requires.0

add-entry-taken : tie.Need-overflow_add-run
add-entry-taken c =
    let s = c.before.before.before.before.before.before.before in
    let h : s.args.run.pointer + s.args.run.count < 2 ^ 64 = omega (arith, (ready s).placed.inside, (zone_small s.args.run.zone.geometry s.requires.0).1) in
    record { fits = h }

-- ---- refusal 14
write-full-requires : tie.Need-write_full-full-requires
write-full-requires c κs =
    let s = c.before.before.before.before.before.before.before.before.before in
    let a = s.args in
    let g = a.run.zone.geometry in
    let drives = placed_drives g a.places a.sectors.now a.written.now a.pointers.now (seen s) in
    let e = c.entry_taken-entry.ensures in
    (s.requires.0, (valid s, placed_cells g a.places a.sectors.now a.written.now a.pointers.now (seen s), omega (arith, drives, e.1), e.2))

abbrev from-full : tie.After-write_full-full → tie.Start
from-full w = w.before.before.before.before.before.before.before.before.before.before

full-found : (w : tie.After-write_full-full) (ds : List ℕ) → w.write_full-full.result ≡ run_full (from-full w).args.run (given (from-full w) ds)
full-found w ds =
    let s = from-full w in
    let a = s.args in
    w.write_full-full.ensures ∙ ap (full_at a.run.zone.geometry a.places a.run.allowance.share a.pointers.now) w.entry_taken-entry.ensures.0
    ∙ full_is a.run.zone a.places a.run.allowance.share (end_of a.run) a.sectors.now a.written.now a.pointers.now ds (seen s) s.requires.0

-- a refusal by 14 or 15
refuses : (s : tie.Start) (n : ℕ) (r : Outcome) (ds : List ℕ) → n ≢ 0 → r ≡ record { answer = Refused n; state = s.args.state } → last_number s.args.run (given s ds) ≡ n
    → (r ≡ (write_zone_on s.args.run s.args.state s.args.buffer.now s.args.count (given s ds)).outcome) × (given s ds ≡ (write_zone_on s.args.run s.args.state s.args.buffer.now s.args.count (given s ds)).tables)
unfolding write_zone_on
refuses s n r ds ne e last =
    let a = s.args in
    let t = given s ds in
    let (p, q) = storing_refused a.run.zone.geometry (last_number a.run t) (all_stores a.run a.state a.buffer.now t) (handed_on a.run a.state) a.state a.count t (λ k. ne (sym last ∙ k)) in
    (e ∙ ap (λ (k : ℕ). record { answer = Refused k; state = a.state }) (sym last) ∙ sym p, sym q)

returns : tie.Need-returns-then-full
returns c = λ ds.
    let w = c.before.before in
    let s = from-full w in
    let gone = run_gone s.args.run (given s ds) in
    refuses s 14 c.refused.result ds (λ k. absurd (omega (arith, k))) c.refused.ensures (ap (λ (b : Bool). pick b 14 (pick gone 15 0)) (sym (full-found w ds) ∙ c.if-full.true))

-- ---- refusal 15
gone-before-requires : tie.Need-gone_before-gone-requires
gone-before-requires c κs =
    let s = c.before.before.before.before.before.before.before.before.before.before.before.before in
    let a = s.args in
    let g = a.run.zone.geometry in
    let inside = seen_zone g a.sectors.now a.written.now a.places a.pointers.now (seen_as_lem g a.places a.sectors.now a.written.now a.pointers.now (seen s)) in
    (valid s, (seen_now a.run a.places a.state a.sectors.now a.written.now a.pointers.now a.buffer.now (seen s) (ready s), omega (arith, inside, (ready s).placed.inside)))

abbrev from-gone : tie.After-gone_before-gone → tie.Start
from-gone x = x.before.before.before.before.before.before.before.before.before.before.before.before.before

gone-found : (x : tie.After-gone_before-gone) (ds : List ℕ) → x.gone_before-gone.result ≡ run_gone (from-gone x).args.run (given (from-gone x) ds)
gone-found x ds =
    let s = from-gone x in
    let a = s.args in
    x.gone_before-gone.ensures ∙ gone_is a.run a.places a.state a.sectors.now a.written.now a.pointers.now a.buffer.now (seen s) (ready s) ds

-- the last refusal, by what was found gone
last-is : (x : tie.After-gone_before-gone) (ds : List ℕ) (b : Bool) → x.gone_before-gone.result ≡ b → last_number (from-gone x).args.run (given (from-gone x) ds) ≡ pick b 15 0
last-is x ds b e =
    let f = x.before.before.before in
    ap₂ (λ (y z : Bool). pick y 14 (pick z 15 0)) (sym (full-found f ds) ∙ x.if-full.false) (sym (gone-found x ds) ∙ e)

returns-2 : tie.Need-returns-then-gone
returns-2 c = λ ds. let x = c.before.before in refuses (from-gone x) 15 c.refused-then-gone.result ds (λ k. absurd (omega (arith, k))) c.refused-then-gone.ensures (last-is x ds true c.if-gone.true)

-- ---- the stores
write-all-requires : tie.Need-write_all-rest-requires
write-all-requires c κs =
    let e = c.before.before.before in
    let x = e.before in
    let s = from-gone x in
    let a = s.args in
    let none = sym x.gone_before-gone.ensures ∙ e.if-gone.false in (
      valid s,
      (
        run_write a.run a.places a.state a.sectors.now a.written.now a.pointers.now a.buffer.now (seen s) (ready s) none,
        run_past a.run a.places a.state a.sectors.now a.written.now a.pointers.now a.buffer.now (seen s) (ready s),
      ),
    )

outcome-requires : tie.Need-outcome-requires
outcome-requires c κs = let s = c.before.before.before.before.before.before.before.before.before.before.before.before.before.before.before.before.before.before.before.before.before.before in let h = ready s in (s.requires.0, ((h.placed.zone_in_lem, h.generation_is, h.placed.inside, h.host_in), c.entry_taken-entry.ensures))

returns-3 : tie.Need-returns
unfolding write_zone_on run_stores_of
returns-3 c = λ ds.
    let f = c.before.before.before.before.before in
    let e = f.before.before.before.before in
    let x = e.before in
    let s = from-gone x in
    let a = s.args in
    let w = f.write_all-rest in
    let t = given s ds in
    let u : Tables = tables_of w.new.sectors w.new.written ds in
    let m = subst (λ (b : ℕ). Made a.places.geometry b w.result (run_stores_of (at_places a.run a.places) a.sectors.now a.pointers.now a.buffer.now) t u) f.budget_of-budget.ensures (w.ensures.made ds) in
    let made = made_seen a.run a.places a.state a.sectors.now a.written.now a.pointers.now a.buffer.now (seen s) (ready s) s.requires.0 ds (suc a.count) w.result u m in
    let (p, q) = storing_ends a.run.zone.geometry (last_number a.run t) (all_stores a.run a.state a.buffer.now t) (handed_on a.run a.state) a.state a.count t w.result u (last-is x ds false e.if-gone.false) made in
    (c.outcome.ensures ∙ p, q)

pub write_seen_spec : {M : Type 1} → statement M
write_seen_spec =
    tie.close
    (tie.spec add-entry-taken (λ c κs. search rules) write-full-requires (λ c κs. search rules) returns gone-before-requires (λ c κs. search rules) (λ c. search rules) returns-2 (λ c κs. search rules) write-all-requires outcome-requires (λ c. search rules) (λ c. search rules) returns-3)
