use Rattle.std.proofs.Common.{rules}
use Rattle.volume.specs.looking.ShownState.{shares_on}
use Rattle.volume.proofs.Tabulated.{made_tabulated}
use Rattle.volume.proofs.shares.shares_of.Goals as goal

pub returns : goal.returns
returns c = made_tabulated _ _ (shares_on c.args.places c.args.here c.args.pointers.now) (λ i y q k. search rules) c.from_fn.result 16 c.from_fn.ensures.items
