use Rattle.std.proofs.Common.{◌≡◌, ◌∙◌, false, not, take, arith, rules}
use Rattle.std.specs.List.{count_by}
use Rattle.volume.proofs.Ranges.{count_below-from_take}
use Rattle.volume.proofs.checks.count_absent.Goals as goal

pub returns : goal.returns
returns c =
    let n = c.args.g.drives in
    let e : c.count.result ≡ count_by not (take n c.args.here) = search rules in
    e ∙ count_below-from_take not c.args.here false n (omega arith)
