use Rattle.tables.specs.laws.LittleEndian.{same_number}
use borrow.Author.Rules.{rules}
use Rattle.logs.proofs.judging.same_u64.Statement.{statement}
use Rattle.logs.proofs.judging.same_u64.Tie as tie

returns : tie.Need-returns
returns c =
    let s = c.before.before in
    let a = s.args in
    rw c.read_u64.ensures (same_number 8 a.n a.s.now a.at (λ i. (c.shared_slice_known-1.given i).fits) s.requires s.ranges.n.fits)

pub same_u64_spec : {M : Type 1} → statement M
same_u64_spec = tie.close (tie.spec (λ c κs. search rules) returns)
