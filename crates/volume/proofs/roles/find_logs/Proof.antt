use mathlib.Core.Path.{◌∙◌}
use Rattle.volume.specs.looking.LogZones.{zones_read, parity_claims, zones_are}
use borrow.Author.Rules.{rules}
use Rattle.volume.proofs.roles.find_logs.Statement.{statement}
use Rattle.volume.proofs.roles.find_logs.Tie as tie

parity-log-requires : tie.Need-parity_log-parity-requires
parity-log-requires c κs =
    let s = c.before.before.before.before in
    let a = s.args in
    (s.requires.0, (s.requires.1.0, s.requires.1.1, parity_claims a.g a.drive (zones_read a.g a.sectors.now a.written.now a.drive) c.moved_claims-moved.result c.moved_claims-moved.ensures))

returns : tie.Need-returns
returns c =
    let s = c.before.before.before.before.before.before in
    let a = s.args in
    c.zones_by.ensures ∙ rw (c.parity_log-parity.ensures, c.general_log-general.ensures) (zones_are a.g a.drive (zones_read a.g a.sectors.now a.written.now a.drive))

pub find_logs_spec : {M : Type 1} → statement M
find_logs_spec =
    tie.close (tie.spec (λ c κs. search rules) (λ c κs. search rules) parity-log-requires (λ c κs. search rules) returns)
