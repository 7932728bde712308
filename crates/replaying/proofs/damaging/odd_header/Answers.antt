use Rattle.std.proofs.Common.{sym, ◌∙◌, arith}
use Rattle.std.proofs.Math.ListN.{length-set}
use Rattle.tables.specs.laws.GeometryTest.{valid_if_test}
use Rattle.replaying.proofs.damaging.odd_header.Goals as goal

-- the geometry has passed the test, and the buffer is one sector long
pub write_seal-requires-clause-valid : goal.write_seal-requires-clause-valid
write_seal-requires-clause-valid c = valid_if_test _ (sym c.valid-ok.ensures ∙ c.if-not-ok.false)

pub write_seal-requires-clause-out_len : goal.write_seal-requires-clause-out_len
write_seal-requires-clause-out_len c =
    let v = valid_if_test c.args.g (sym c.valid-ok.ensures ∙ c.if-not-ok.false) in (omega arith, omega arith, omega arith)

pub bounds-out-3 : goal.bounds-out-3
bounds-out-3 c = let v = valid_if_test c.args.g (sym c.valid-ok.ensures ∙ c.if-not-ok.false) in omega arith

pub write_u64-requires : goal.write_u64-requires
write_u64-requires c =
    let v = valid_if_test c.args.g (sym c.valid-ok.ensures ∙ c.if-not-ok.false) in simp length-set (omega arith)

pub write_u64-requires-2 : goal.write_u64-requires-2
write_u64-requires-2 c =
    let v = valid_if_test c.args.g (sym c.valid-ok.ensures ∙ c.if-not-ok.false) in
    let m = simp length-set at c.write_u64.auto.s in omega arith
