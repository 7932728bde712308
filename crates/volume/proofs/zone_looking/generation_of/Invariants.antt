use Rattle.std.proofs.Common.{◌≡◌}
use Rattle.tables.specs.meaning.Basics.{pick}
use Rattle.tables.specs.meaning.Below.{max_below}
use Rattle.logs.specs.meaning.Heads.{generation_in}
use Rattle.volume.specs.meaning.CallContracts.{is_set}
use Rattle.volume.specs.meaning.Rules.{general_heads}
use Rattle.volume.specs.looking.Knowing.{read_device}
use Rattle.volume.proofs.zone_looking.generation_of.Given as goal

abbrev pub invariant-loop-d : goal.invariant-loop-d
invariant-loop-d l = l.most ≡ max_below (λ i. pick (is_set l.here i) (generation_in l.z (general_heads l.g (read_device l.g l.sectors l.written) i)) 0) l.d
