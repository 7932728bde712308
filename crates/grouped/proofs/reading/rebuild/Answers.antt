use Rattle.std.proofs.Common.{◌≡◌, ◌∙◌, add-one, arith}
use Rattle.grouped.specs.reading.Blocks.{add_block_suc, rebuilt_end}
use Rattle.grouped.proofs.reading.rebuild.Goals as goal

pub loop-d-preserved : goal.loop-d-preserved
loop-d-preserved c =
    let a = c.args in
    c.add_block.ensures ∙ rw (c.loop-d.invariant, add-one) (add_block_suc a.s a.blocks.now a.missing a.work.now a.n c.loop-d.d)

pub returns : goal.returns
returns c =
    let a = c.args in
    let e : c.loop-d.d ≡ a.s.drives = omega arith in
    c.loop-d.invariant ∙ rw e (rebuilt_end a.s a.blocks.now a.missing a.work.now a.n c.requires.valid.1 c.requires.n_lt_blocks.0 c.requires.n_lt_blocks.1 c.requires.valid.0.drives_least)
