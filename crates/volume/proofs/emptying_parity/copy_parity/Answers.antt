use Rattle.std.proofs.Common.{◌≡◌, ◌<◌, ◌∙◌, arith, add-one}
use Rattle.tables.specs.laws.Made.{MadeAppends}
use Rattle.volume.specs.looking.Knowing.{read_device}
use Rattle.volume.specs.emptying.ParityCopies.{old_entries, entries_on, entries_below, entry_for, point_of, entries_joined, copies_are}
use Rattle.volume.specs.emptying.ParityReady.{ParityCopying, point_copying, entries_long, parity_kept}
use Rattle.volume.proofs.emptying_parity.copy_parity.Goals as goal
use Rattle.volume.proofs.emptying_parity.copy_parity.Goals.{At-loop-z}

-- what is relied on, and what is read, is as it was
kept : (c : At-loop-z) → ParityCopying c.args.e c.args.generations.now c.args.points.now c.args.pointers.now c.args.starts.now c.loop-z.sectors c.loop-z.written
    × (read_device c.args.e.from c.loop-z.sectors c.args.pointers.now ≡ read_device c.args.e.from c.args.sectors.now c.args.pointers.now)
    × (read_device c.args.e.from c.loop-z.sectors c.args.starts.now ≡ read_device c.args.e.from c.args.sectors.now c.args.starts.now)
kept c =
    let a = c.args in
    let l = c.loop-z in
    let s = c.requires.parity_copying in
    let v = read_device a.e.from a.sectors.now a.pointers.now in
    let olds = old_entries a.e (read_device a.e.from a.sectors.now a.starts.now) in
    parity_kept a.e a.generations.now a.points.now a.pointers.now a.starts.now a.sectors.now a.written.now s a.budget l.rest (entries_below a.e v a.generations.now a.points.now olds l.z) l.sectors l.written
    (entries_long a.e a.generations.now a.points.now a.pointers.now a.starts.now a.sectors.now a.written.now c.requires.valid s l.z (omega arith)) l.invariant.2

pub copy_entry-rest-requires-clause-point_copying : goal.copy_entry-rest-requires-clause-point_copying
copy_entry-rest-requires-clause-point_copying c =
    let a = c.args in
    let l = c.loop-z in
    let h : l.z < a.e.from.zones = omega arith in
    point_copying a.e a.generations.now a.points.now a.pointers.now a.starts.now l.sectors l.written (kept (goal.at.copy_entry-rest-requires-clause-point_copying c).At-loop-z).0 l.z h

pub loop-z-preserved : goal.loop-z-preserved
loop-z-preserved c =
    let a = c.args in
    let l = c.loop-z in
    let f = c.copy_entry-rest in
    let k = kept (goal.at.loop-z-preserved c).At-loop-z in
    let v = read_device a.e.from a.sectors.now a.pointers.now in
    let olds = old_entries a.e (read_device a.e.from a.sectors.now a.starts.now) in
    let entry = entry_for a.e v olds (point_of a.generations.now a.points.now l.z) in
    let one : MadeAppends a.e.to l.rest f.result (entries_on a.e entry) l.sectors l.written f.new.sectors f.new.written = rw (k.1, k.2) at f.ensures in (
      f.auto.sectors ∙ l.invariant.0,
      f.auto.written ∙ l.invariant.1,
      rw add-one (entries_joined a.e a.budget l.rest f.result (entries_below a.e v a.generations.now a.points.now olds l.z) entry a.sectors.now a.written.now l.sectors l.written f.new.sectors f.new.written l.invariant.2 one),
    )

pub returns : goal.returns
returns c =
    let a = c.args in
    let v = read_device a.e.from a.sectors.now a.pointers.now in
    let olds = old_entries a.e (read_device a.e.from a.sectors.now a.starts.now) in
    let e : c.loop-z.z ≡ a.e.from.zones = omega arith in
    rw (← copies_are a.e v a.generations.now a.points.now olds) (rw e at c.loop-z.invariant.2)
