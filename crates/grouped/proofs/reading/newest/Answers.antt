use Rattle.std.proofs.Common.{◌≡◌, refl, ◌∙◌, arith}
use Rattle.grouped.specs.meaning.Segment.{total_blocks}
use Rattle.grouped.specs.meaning.Reading.{newest}
use Rattle.grouped.specs.reading.Later.{newest_most}
use Rattle.grouped.proofs.reading.newest.Goals as goal

pub later-found-requires-clause-c_bound : goal.later-found-requires-clause-c_bound
later-found-requires-clause-c_bound c =
    let a = c.args in
    (omega (arith, c.total_blocks-c-end.ensures.0), rw c.loop-c.invariant (newest_most a.s a.metadata.now a.missing a.address c.loop-c.c))

pub returns : goal.returns
unfolding newest
returns c =
    let a = c.args in
    let e : c.loop-c.c ≡ total_blocks a.s = omega (arith, c.total_blocks-c-end.ensures.0) in
    (c.loop-c.invariant ∙ rw e refl, rw c.loop-c.invariant (omega (arith, e, newest_most a.s a.metadata.now a.missing a.address c.loop-c.c)))
