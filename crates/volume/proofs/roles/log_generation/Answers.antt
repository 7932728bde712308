use Rattle.std.proofs.Common.{◌≡◌, ℕ, suc, sym, ap, ◌∙◌, refl}
use Rattle.volume.specs.meaning.Roles.{zone_claim, zone_of_kind, roles}
use Rattle.volume.specs.laws.LogClaims.{log_claim}
use Rattle.volume.specs.looking.Knowing.{read_device}
use Rattle.volume.specs.looking.LogZones.{zones_read, kind_zone_lt}
use Rattle.volume.proofs.roles.log_generation.Goals as goal
use Rattle.volume.proofs.roles.log_generation.Goals.{then-parity, else-parity}

pub claim_of-requires-clause-sized : goal.claim_of-requires-clause-sized
claim_of-requires-clause-sized c =
    let a = c.args in
    let r = roles a.g (read_device a.g a.sectors.now a.written.now) a.drive in
    let zone_is : c.if-parity.zone ≡ zone_of_kind a.parity r =
    elim c.if-parity.branch [ then-parity w ↦ rw w.if-parity.true (w.zone-is ∙ rw c.find_logs-zones.ensures refl) | else-parity w ↦ rw w.if-parity.false (w.zone-is ∙ rw c.find_logs-zones.ensures refl) ] in
    (c.requires.sized.0, c.requires.sized.1, rw zone_is (kind_zone_lt a.g (read_device a.g a.sectors.now a.written.now) a.drive a.parity))

pub returns : goal.returns
returns c =
    let a = c.args in
    let r = roles a.g (read_device a.g a.sectors.now a.written.now) a.drive in
    let zones = zones_read a.g a.sectors.now a.written.now a.drive in
    let zone_is : c.if-parity.zone ≡ zone_of_kind a.parity r =
    elim c.if-parity.branch [ then-parity w ↦ rw w.if-parity.true (w.zone-is ∙ rw c.find_logs-zones.ensures refl) | else-parity w ↦ rw w.if-parity.false (w.zone-is ∙ rw c.find_logs-zones.ensures refl) ] in
    ap suc (c.claim_of.ensures ∙ ap (λ (z : ℕ). zone_claim a.g a.drive a.parity (zones z)) zone_is) ∙ sym (log_claim a.g a.drive zones a.parity c.requires.sized.2)
