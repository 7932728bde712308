use Rattle.std.proofs.Common.{refl, length, take, drop, arith}
use Rattle.tables.specs.meaning.Xor.{xor_bytes}
use Rattle.tables.specs.laws.Xor.{length_xor}
use Rattle.tables.specs.laws.Lists.{copied_all}
use Rattle.tables.specs.laws.Within.{part_long, laid_with}
use Rattle.tables.proofs.sectors.lay_with.Goals as goal

pub loop-i-preserved : goal.loop-i-preserved
loop-i-preserved c =
    let s = c.args in
    laid_with s.bytes.now s.to s.from (length s.src.now) c.requires.0 c.requires.1 c.requires.2 c.loop-i.i c.loop-i.bytes (omega arith) s.src.now refl c.loop-i.invariant

pub returns : goal.returns
returns c =
    let s = c.args in
    let there = take (length s.src.now) (drop s.from s.bytes.now) in
    let e = part_long s.bytes.now s.from (length s.src.now) c.requires.1 in
    copied_all s.bytes.now s.to (xor_bytes there s.src.now) c.loop-i.i c.loop-i.bytes (omega (arith, length_xor there s.src.now (omega arith))) c.loop-i.invariant
