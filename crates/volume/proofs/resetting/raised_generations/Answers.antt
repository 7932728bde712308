use Rattle.std.proofs.Common.{suc, arith, add-one}
use Rattle.logs.specs.meaning.Entry.{worn_generation}
use Rattle.volume.specs.meaning.CallContracts.{record_at}
use Rattle.volume.specs.checks.Records.{generations_in, generations_in_at}
use Rattle.volume.specs.storing.Resetting.{raised_list}
use Rattle.volume.proofs.Tabulated.{set_tabulated}
use Rattle.volume.proofs.resetting.raised_generations.Goals as goal

pub overflow_add-raised : goal.overflow_add-raised
unfolding worn_generation
overflow_add-raised c = rw (c.generations_of-raised.ensures, generations_in_at c.args.state c.args.z c.requires.0) (record { fits = omega (arith, c.requires.1) })

pub returns : goal.returns
unfolding generations_in raised_list
returns c =
    let a = c.args in
    rw (c.generations_of-raised.ensures, generations_in_at a.state a.z c.requires.0, add-one) (set_tabulated (λ y. (record_at a.state y).generation) 16 a.z (suc (record_at a.state a.z).generation) c.requires.0)
