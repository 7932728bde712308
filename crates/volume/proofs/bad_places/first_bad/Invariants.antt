use Rattle.std.proofs.Common.{◌≡◌, ℕ}
use Rattle.tables.specs.meaning.Basics.{pick}
use Rattle.tables.specs.meaning.Tables.{zone_place}
use Rattle.volume.specs.meaning.CallContracts.{is_set}
use Rattle.volume.specs.meaning.Refusals.{no_bad_place, drive_bad_place, first_below}
use Rattle.volume.specs.looking.Knowing.{read_device}
use Rattle.volume.proofs.bad_places.first_bad.Given as goal

abbrev pub invariant-loop-d : goal.invariant-loop-d
invariant-loop-d l = l.bad ≡ first_below (λ (i : ℕ). pick (is_set l.here i) (drive_bad_place l.g (zone_place l.g i) (read_device l.g l.sectors l.written) i) no_bad_place) l.d
