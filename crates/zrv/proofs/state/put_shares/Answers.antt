use Rattle.std.proofs.Common.{ℕ, ◌++◌, List, take, sym, ap, ◌∙◌, add-one, arith}
use Rattle.std.proofs.Math.ListN.{take-append-drop}
use Rattle.std.proofs.Math.Seq.{length-take-le}
use Rattle.zrv.specs.laws.Bytes.{shares_more}
use Rattle.zrv.proofs.state.put_shares.Goals as goal

pub loop-i-init : goal.loop-i-init
loop-i-init c =
    let xs = c.args.bytes.now in
    sym (take-append-drop 264 xs) ∙ ap (λ (l : List ℕ). take 264 xs ++ l) c.requires.2

pub loop-i-preserved : goal.loop-i-preserved
loop-i-preserved c =
    let l = c.loop-i in
    let xs = c.args.bytes.now in
    c.write_u32.ensures ∙ rw (l.invariant, add-one) (shares_more l.i c.args.state (take 264 xs) (length-take-le 264 xs (omega (arith, c.requires.1))))
