use Rattle.std.proofs.Common.{◌≡◌, ℕ, ◌∙◌, ap₂, arith}
use Rattle.volume.specs.meaning.CallContracts.{view_state}
use Rattle.volume.specs.writing.Allowances.{own_zones, all_zones}
use Rattle.volume.proofs.hosts.open_zones.Goals as goal

pub returns : goal.returns
returns c =
    let a = c.args in
    let l = c.loop-z in
    let v = view_state a.state in
    let e : l.z ≡ a.g.zones = omega arith in
    let most = c.zone_sectors-most.ensures.0 in
    ap₂ (λ (x y : ℕ). record { own = x; all = y }) (l.invariant.2 ∙ rw (e, most) (own_zones a.g v a.host)) (l.invariant.3 ∙ rw (e, most) (all_zones a.g v a.host))
