use mathlib.Core.Path.{sym, subst}
use Prim.Native.Nat.{ℕ}
use native.Mathlib.Omega.{arith}
use Rattle.tables.specs.laws.Sizes.{zone_small}
use Rattle.volume.specs.checks.ZoneChecks.{PointersReach, reached}
use Rattle.volume.specs.writing.WriteChecks.{zone_passed}
use Rattle.volume.specs.writing.WriteRun.{asked_placed}
use Rattle.volume.specs.writing.WriteDirectly.{directly_ready, directly_past}
use Rattle.volume.proofs.write_directly.write_alone.Goals as goal

-- the refusals before 14 have passed
pub overflow_add-run : goal.overflow_add-run
overflow_add-run c =
    let a = c.args in
    let f = zone_passed a.run a.c a.written.now (sym (c.in_ok-zone_refusal.ensures)) in
    record { fits = omega (arith, f.fits.inside, (zone_small a.run.zone.geometry c.requires.valid).1) }

pub entry_taken-entry-requires-clause-number_lt_zones : goal.entry_taken-entry-requires-clause-number_lt_zones
entry_taken-entry-requires-clause-number_lt_zones c = let a = c.args in (c.requires.run_asked.zone_in_lem, (zone_passed a.run a.c a.written.now (sym (c.in_ok-zone_refusal.ensures))).fits.inside)

pub place_of-requires-clause-sized : goal.place_of-requires-clause-sized
place_of-requires-clause-sized c =
    let a = c.args in
    let z = a.run.zone in
    let f = zone_passed a.run a.c a.written.now (sym (c.in_ok-zone_refusal.ensures)) in
    let h = c.requires.run_asked in
    let r = reached z.geometry z.here a.written.now a.c z.number h.one_absent f.fresh in
    (h.sized, h.zone_in_lem, omega (arith, f.fits.inside), subst (λ (n : ℕ). PointersReach z.geometry z.here a.written.now z.number n) (sym f.fits.pointer) r)

pub write_directly-rest-requires-clause-write_ready : goal.write_directly-rest-requires-clause-write_ready
write_directly-rest-requires-clause-write_ready c =
    let a = c.args in
    let h = c.requires.run_asked in
    let placed = asked_placed a.run a.c a.sectors.now a.written.now a.buffer.now h (zone_passed a.run a.c a.written.now (sym (c.in_ok-zone_refusal.ensures))).fits in
    let to = c.in-Some.to in
    let alone = sym c.in-Some.ensures in (
      directly_ready a.run a.sectors.now a.written.now a.buffer.now c.requires.valid h.logs_first h.sized placed to alone,
      directly_past a.run a.sectors.now a.written.now a.buffer.now c.requires.valid h.logs_first h.sized placed to alone,
    )
