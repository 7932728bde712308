use Rattle.std.proofs.Common.{◌≡◌, ◌≤◌, ◌-◌}
use Rattle.volume.specs.stripes.StripeDue.{laid_of}
use Rattle.volume.proofs.stripes.lay_stripe.Given as goal

-- the units below j are laid
abbrev pub invariant-loop-j : goal.invariant-loop-j
invariant-loop-j l = record { within : l.j ≤ l.last; laid : l.sectors ≡ laid_of l.s l.written l.buffer l.fn.sectors l.j }

abbrev pub decreases-loop-j : goal.decreases-loop-j
decreases-loop-j l = l.last - l.j
