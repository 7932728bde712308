use mathlib.Core.Path.{◌≡◌, refl, ap, ap₂, ◌∙◌}
use Prim.Native.Nat.{ℕ, ◌+◌, ◌<◌, ◌^◌}
use mathlib.Core.List.{List}
use native.Mathlib.Omega.{arith}
use lib.ListN.{set}
use borrow.Author.Tests.{eq-eqb, ne_eqb}
use borrow.Author.Rules.{rules}
use Rattle.tables.specs.meaning.Geometry.{max_zones}
use Rattle.tables.specs.laws.Sizes.{zone_small}
use Rattle.volume.specs.declared.Answer.TheVariants.{Finished}
use Rattle.volume.specs.declared.Condition.TheVariants.{Open}
use Rattle.volume.specs.declared.Owner.{Owner}
use Rattle.volume.specs.declared.State.{State}
use Rattle.volume.specs.declared.write_room.EntryTaken.{EntryTaken}
use Rattle.volume.specs.meaning.State.{owner_of, share_at, max_shares}
use Rattle.volume.specs.meaning.Content.{parity_drive_at}
use Rattle.volume.specs.meaning.Calls.{open_state}
use Rattle.volume.specs.meaning.Hosts.{owned_state}
use Rattle.volume.specs.meaning.CallContracts.{record_at, view_state, is_set, state_held}
use Rattle.volume.specs.laws.StateHeld.{Sixteen, shares_less, held_owned}
use Rattle.volume.specs.writing.WriteRun.{end_of, handed_on}
use Rattle.volume.proofs.writing.outcome.Statement.{statement}
use Rattle.volume.proofs.writing.outcome.Tie as tie

returns : tie.Need-returns-then-rest-eq0
returns c = rw (eq-eqb c.args.rest 0 c.if-rest-eq0.true) refl

add-end : tie.Need-overflow_add-end
add-end c =
    let s = c.before.before.before in
    let h : s.args.run.pointer + s.args.run.count < 2 ^ 64 = omega (arith, s.requires.1.0.2, (zone_small s.args.run.zone.geometry s.requires.0).1) in
    record { fits = h }

-- the struct has 16 records and 16 shares
sixteen : (s : tie.Start) → Sixteen s.args.state
sixteen s = record { records = s.well_formed.1.1.0.1.1.1.0.1.0.1; shares = s.well_formed.1.1.0.1.1.1.1.0.1.0.1 }

-- the share is one of them
share_in : (s : tie.Start) → share_at (parity_drive_at s.args.run.zone.geometry s.args.run.zone.number (end_of s.args.run)) s.args.run.host < max_shares
share_in s = omega (arith, ap (λ (e : EntryTaken). e.drive) s.requires.1.1.0, s.requires.1.1.1, s.requires.0.drives_most, s.requires.1.0.3)

returns-2 : tie.Need-returns
returns-2 c =
    let s = c.before.before.before.before.before.before.before.before.before in
    let a = s.args in
    let z = a.run.zone in
    let x = c.before.before.before.before.left_out-lost in
    let new : ℕ → Owner → List ℕ → State = λ n o ns. record { lost = x.result; zones = set a.state.zones z.number (record { generation = n; condition = Open (end_of a.run); owner = o }); shares = ns } in
    let shares = c.shares_less-shares.ensures ∙ ap (λ (e : EntryTaken). shares_less a.state.shares (share_at e.drive a.run.host) e.sectors) s.requires.1.1.0 in
    let h : z.number < 16 = omega (arith, s.requires.1.0.0, s.requires.0.zones_most) in
    let state : new z.generation c.owner_of-owner.result c.shares_less-shares.result ≡ handed_on a.run a.state =
    ap₂ (λ (n : ℕ) (o : Owner). new n o c.shares_less-shares.result) s.requires.1.0.1 c.owner_of-owner.ensures ∙ ap (new (record_at a.state z.number).generation (owner_of a.run.host)) shares
    ∙ held_owned a.state z.geometry (is_set z.here) x.result a.run.host z.number (end_of a.run) (sixteen s) h (share_in s)
    ∙ ap (λ (y : ℕ). state_held max_zones (owned_state z.geometry (is_set z.here) a.run.host z.number (end_of a.run) (open_state y (view_state a.state) z.number (end_of a.run)))) x.ensures in
    rw (ne_eqb a.rest 0 c.if-rest-eq0.false) (ap (λ (t : State). record { answer = Finished; state = t }) state)

pub outcome_spec : {M : Type 1} → statement M
outcome_spec =
    tie.close
    (tie.spec returns add-end (λ c κs. search rules) (λ c κs. search rules) (λ c κs. search rules) (λ c. search rules) (λ c. search rules) returns-2)
