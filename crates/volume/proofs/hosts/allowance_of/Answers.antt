use mathlib.Core.Path.{◌≡◌, sym, ap, ap₂, ◌∙◌}
use mathlib.Core.Bool.{Bool, true, ◌&&◌}
use Prim.Native.Nat.{ℕ}
use lib.ListN.{get_or}
use lib.Dec.{ltb, leb}
use Rattle.tables.specs.meaning.Basics.{pick}
use Rattle.tables.specs.meaning.Geometry.{zone_sectors}
use Rattle.volume.specs.declared.hosts.Allowance.{Allowance}
use Rattle.volume.specs.declared.write_room.EntryDrive.{EntryDrive}
use Rattle.volume.specs.meaning.State.{share_at}
use Rattle.volume.specs.meaning.Hosts.{share_left}
use Rattle.volume.specs.meaning.CallContracts.{view_state}
use Rattle.volume.specs.writing.Allowances.{host_limits, allowance_of}
use Rattle.std.specs.Prelude.{Result, Ok, ⊤}
use mathlib.Core.Bool.{false}
use Rattle.tables.specs.declared.Geometry.{Geometry}
use Rattle.volume.specs.declared.Refusal.{Refusal}
use Rattle.volume.specs.meaning.State.{StateView}
use Rattle.volume.proofs.hosts.allowance_of.Goals as goal

-- the answer by whether the zones and the shares are asked
abbrev answer : Geometry → StateView → ℕ → ℕ → ℕ → Bool → Allowance
answer g v h z end b = pick b (record { known = ltb h 2; limits = host_limits g v h z end; share = share_left g v h z end }) (record { known = ltb h 2; limits = Ok tt; share = 0 })

answer-is : (g : Geometry) (v : StateView) (h z end : ℕ) (b : Bool) → b ≡ ltb h 2 && leb end (zone_sectors g) → answer g v h z end b ≡ allowance_of g v h z end
unfolding allowance_of
answer-is g v h z end b e = ap (answer g v h z end) e

pub returns-then-not-asked : goal.returns-then-not-asked
returns-then-not-asked c =
    let a = c.args in
    let asked = ap (λ (m : ℕ). ltb a.host 2 && leb a.end m) c.zone_sectors-most.ensures.0 in
    answer-is a.g (view_state a.state) a.host a.z a.end false (sym c.if-not-asked.true ∙ asked)

pub returns : goal.returns
returns c =
    let a = c.args in
    let asked = ap (λ (m : ℕ). ltb a.host 2 && leb a.end m) c.zone_sectors-most.ensures.0 in
    let place = c.share_place-at.ensures.0 ∙ ap (λ (d : EntryDrive). share_at d.drive a.host) c.entry_drive-entry.ensures.0 in
    ap₂ (λ (n : Result ⊤ Refusal) (i : ℕ). record { known = ltb a.host 2; limits = n; share = get_or a.state.shares i 0 }) c.host_refusal-limits.ensures place
    ∙ answer-is a.g (view_state a.state) a.host a.z a.end true (sym c.if-not-asked.false ∙ asked)
