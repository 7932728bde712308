use Rattle.std.proofs.Common.{take, drop, arith}
use Rattle.tables.specs.meaning.Xor.{xor_bytes}
use Rattle.tables.specs.laws.Xor.{length_xor}
use Rattle.tables.specs.laws.Lists.{copied_all}
use Rattle.tables.specs.laws.Within.{part_long, added_within}
use Rattle.tables.proofs.sectors.xor_within.Goals as goal

pub loop-i-preserved : goal.loop-i-preserved
loop-i-preserved c =
    let s = c.args in
    added_within s.bytes.now s.to s.from s.n c.requires.0 c.requires.1 c.requires.2 c.loop-i.i c.loop-i.bytes (omega arith) c.loop-i.invariant

pub returns : goal.returns
returns c =
    let s = c.args in
    let here = take s.n (drop s.to s.bytes.now) in
    let there = take s.n (drop s.from s.bytes.now) in
    let e = part_long s.bytes.now s.to s.n c.requires.0 in
    let f = part_long s.bytes.now s.from s.n c.requires.1 in
    copied_all s.bytes.now s.to (xor_bytes here there) c.loop-i.i c.loop-i.bytes (omega (arith, length_xor here there (omega arith))) c.loop-i.invariant
