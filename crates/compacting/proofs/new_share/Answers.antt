use Rattle.compacting.specs.CompactMade.{points_within}
use Rattle.compacting.proofs.new_share.Goals as goal

pub parity_size-size-requires-clause-pointers_within : goal.parity_size-size-requires-clause-pointers_within
parity_size-size-requires-clause-pointers_within c =
    rw c.points_of-points.ensures (points_within c.args.job.first c.args.state c.requires.valid c.requires.drive_lt_drives.1)
