use mathlib.Core.Path.{ap, ◌∙◌}
use mathlib.Core.Bool.{not}
use Prim.Native.Nat.{ℕ}
use Rattle.tables.specs.meaning.Below.{tabulate}
use Rattle.tables.specs.meaning.Drives.{find_below}
use Rattle.volume.specs.declared.Look.{Look}
use Rattle.volume.specs.declared.State.{State}
use Rattle.volume.specs.meaning.State.{max_shares}
use Rattle.volume.specs.meaning.CallContracts.{is_set}
use Rattle.volume.specs.meaning.Rules.{showing}
use Rattle.volume.specs.looking.Knowing.{read_device}
use Rattle.volume.specs.looking.Looking.{records_of, state_of_look}
use Rattle.volume.specs.looking.ShownState.{shares_on}
use borrow.Author.Rules.{rules}
use Rattle.volume.proofs.looking.shown_state.Statement.{statement}
use Rattle.volume.proofs.looking.shown_state.Tie as tie

abbrev to_start : tie.After-records_of-zones → tie.Start
to_start c = c.before.before.before.before.before.before.before

shares-of-requires : tie.Need-shares_of-shares-requires
shares-of-requires c κs = let s = to_start c in (s.requires.0, (s.requires.1.1, s.requires.1.0.written_long))

returns : tie.Need-returns
returns c =
    let r = c.before in
    let a = (to_start r).args in
    let g = a.places.geometry in
    let share = shares_on a.places a.here a.written.now in
    rw (c.shares_of-shares.ensures, r.records_of-zones.ensures)
    (ap (λ (l : Look). let s : State = record { lost = l.lost; zones = records_of g l.zones; shares = tabulate share max_shares } in s) r.look_all-shown.ensures
    ∙ state_of_look g (showing g (is_set a.here) (find_below (λ (d : ℕ). not (is_set a.here d)) g.drives) (read_device g a.sectors.now a.written.now)) share)

pub shown_state_spec : {M : Type 1} → statement M
shown_state_spec = tie.close (tie.spec (λ c κs. search rules) (λ c κs. search rules) shares-of-requires returns)
