use Rattle.std.proofs.Common.{rules, tests}
use Rattle.volume.specs.meaning.CallContracts.{is_set}
use Rattle.volume.specs.meaning.Hosts.{shares_by, fresh_shares}
use Rattle.volume.proofs.Tabulated.{made_tabulated}
use Rattle.volume.proofs.shares.fresh_shares.Goals as goal

pub returns : goal.returns
unfolding shares_by
returns c = made_tabulated _ _ (fresh_shares c.args.g (is_set c.args.here)) (λ i y q k. search (rules, tests)) c.from_fn.result 16 c.from_fn.ensures.items
