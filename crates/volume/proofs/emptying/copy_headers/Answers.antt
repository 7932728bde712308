use Rattle.std.proofs.Common.{◌≡◌, ◌∙◌, get_or, arith, add-one}
use Rattle.volume.specs.emptying.GeneralCopies.{old_heads, copy_for, copies_below, copies_long, headers_kept, headers_joined}
use Rattle.volume.proofs.emptying.copy_headers.Goals as goal

pub loop-z-preserved : goal.loop-z-preserved
loop-z-preserved c =
    let a = c.args in
    let l = c.loop-z in
    let f = c.copy_header-rest in
    let heads = old_heads a.e a.sectors.now a.pointers.now in
    let copies = copies_below a.e.from a.kind a.generations.now heads l.z in
    let long = copies_long a.e.from a.e.drive c.requires.valid a.kind a.generations.now heads l.z in
    -- what is read is as it was
    let kept = headers_kept a.e a.pointers.now a.sectors.now a.written.now c.requires.copying.0 a.budget l.rest copies l.sectors l.written long l.invariant.2 in (
      f.auto.sectors ∙ l.invariant.0,
      f.auto.written ∙ l.invariant.1,
      rw add-one (headers_joined a.e a.budget l.rest f.result copies (copy_for a.e.from a.kind (get_or a.generations.now l.z 0) heads l.z) a.sectors.now a.written.now l.sectors l.written f.new.sectors f.new.written l.invariant.2 (rw kept.1 at f.ensures)),
    )

pub returns : goal.returns
returns c = let e : c.loop-z.z ≡ c.args.e.from.zones = omega arith in rw e at c.loop-z.invariant.2
