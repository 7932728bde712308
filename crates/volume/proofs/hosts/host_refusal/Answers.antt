use mathlib.Core.Path.{sym, ap, ap₂, ◌∙◌}
use mathlib.Core.Bool.{Bool}
use Prim.Native.Nat.{ℕ}
use Rattle.volume.specs.declared.hosts.OpenZones.{OpenZones}
use Rattle.volume.specs.meaning.CallContracts.{record_at, view_state}
use Rattle.volume.specs.writing.Allowances.{counts_within, adds_at, limits_at, host_none, host_counted}
use Rattle.volume.proofs.hosts.host_refusal.Goals as goal

pub returns-then-not-adds : goal.returns-then-not-adds
returns-then-not-adds c =
    let a = c.args in
    let adds = c.adds_zone-adds.ensures ∙ ap (λ (m : ℕ). adds_at m a.host a.end (record_at a.state a.z)) c.zone_sectors-most.ensures.0 in
    host_none a.g (view_state a.state) a.host a.z a.end (sym adds ∙ c.if-not-adds.true)

pub returns : goal.returns
returns c =
    let a = c.args in
    let adds = c.adds_zone-adds.ensures ∙ ap (λ (m : ℕ). adds_at m a.host a.end (record_at a.state a.z)) c.zone_sectors-most.ensures.0 in
    let counted = c.counts-counted.ensures ∙ ap (λ (m : ℕ). counts_within m (record_at a.state a.z).condition) c.zone_sectors-most.ensures.0 in
    c.limit_refusal.ensures ∙ ap₂ (λ (k : OpenZones) (b : Bool). limits_at a.host k b) c.open_zones-zones_open.ensures counted
    ∙ host_counted a.g (view_state a.state) a.host a.z a.end (sym adds ∙ c.if-not-adds.false)
