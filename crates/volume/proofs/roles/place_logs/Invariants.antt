use Rattle.std.proofs.Common.{◌≡◌}
use Rattle.volume.specs.meaning.Roles.{roles}
use Rattle.volume.specs.laws.LogPlaces.{logs_of}
use Rattle.volume.specs.looking.HiddenLogs.{lacking}
use Rattle.volume.specs.looking.Knowing.{read_device}
use Rattle.volume.proofs.roles.place_logs.Given as goal

-- the drives so far
abbrev pub invariant-loop-d : goal.invariant-loop-d
invariant-loop-d l = record {
  logs_are : l.logs ≡ logs_of (roles l.g (read_device l.g l.sectors l.written)) l.d;
  general_is : l.no_general ≡ lacking (λ e. (roles l.g (read_device l.g l.sectors l.written) e).general_claim) l.d;
  parity_is : l.no_parity ≡ lacking (λ e. (roles l.g (read_device l.g l.sectors l.written) e).parity_claim) l.d;
}
