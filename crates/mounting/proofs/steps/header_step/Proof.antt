use mathlib.Core.Path.{◌∙◌}
use Rattle.tables.specs.meaning.Tables.{tables_of}
use Rattle.volume.specs.looking.Knowing.{read_device}
use Rattle.mounting.specs.MountHeaders.{headers_by, headers_are, headers_in, header_zones_most}
use Rattle.mounting.specs.MountSteps.{step_made}
use borrow.Author.Rules.{rules}
use Rattle.mounting.proofs.steps.header_step.Statement.{statement}
use Rattle.mounting.proofs.steps.header_step.Tie as tie

log-headers-requires : tie.Need-log_headers-rest-requires
log-headers-requires c κs =
    let s = c.before.before.before.before.before.before.before.before in
    (s.requires.0, (rw c.header_zones-n.ensures (header_zones_most s.args.basis.geometry s.args.kind s.requires.0), s.requires.1.logging))

flush-after-requires : tie.Need-flush_after-requires
flush-after-requires c κs =
    let at-log-headers = c.before.before.before.before.before.before in
    let s = c.before.before.before.before.before.before.before.before.before.before.before.before.before.before.before in
    (s.requires.0, (at-log-headers.log_headers-rest.auto.written ∙ s.requires.1.logging.written_long, s.requires.1.durable_long))

returns : tie.Need-returns
returns c =
    let at-log-headers = c.before.before.before.before.before.before.before.before.before in
    let at-header-zones = c.before.before.before.before.before.before.before.before.before.before.before.before in
    let s = c.before.before.before.before.before.before.before.before.before.before.before.before.before.before.before.before.before.before in
    let a = s.args in
    let f = at-log-headers.log_headers-rest in
    let t = tables_of a.sectors.now a.written.now a.durable.now in
    let w = read_device a.basis.geometry a.sectors.now a.pointers.now in
    step_made a.basis.geometry a.basis.here a.basis.look a.pointers.now a.budget _ (headers_by a.basis.geometry a.kind a.basis.look) t _ s.requires.1 (headers_in a.basis.geometry a.kind a.basis.look w s.requires.0)
    (c.flush_after.ensures.made f.new.sectors (headers_by a.basis.geometry a.kind a.basis.look w) t (rw (headers_are a.basis.geometry a.kind a.basis.look w) (rw at-header-zones.header_zones-n.ensures at (f.ensures.made a.durable.now))))

pub header_step_spec : {M : Type 1} → statement M
header_step_spec =
    tie.close
    (tie.spec (λ c κs. search rules) log-headers-requires flush-after-requires (λ c. search rules) (λ c. search rules) (λ c. search rules) returns)
