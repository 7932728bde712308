use Rattle.std.proofs.Common.{Bool, sym, ap, ◌∙◌}
use Rattle.std.proofs.Math.Path.{ap₂}
use Rattle.std.specs.Prelude.{None, Option}
use Rattle.tables.specs.declared.Geometry.{Geometry}
use Rattle.tables.specs.meaning.Basics.{pick}
use Rattle.volume.specs.declared.write_room.EntryTaken.{EntryTaken}
use Rattle.volume.specs.writing.WriteDirectly.{entry_place, direct_place}
use Rattle.volume.proofs.write_directly.place_of.Goals as goal

-- by what is held
pub returns-then-not-held : goal.returns-then-not-held
unfolding direct_place
returns-then-not-held c =
    let a = c.args in
    let by : EntryTaken → Bool → Option Geometry = λ e b. pick b (entry_place a.run.zone.geometry a.run.allowance.share a.sectors.now a.written.now e) None in
    ap (by a.entry) (sym c.if-not-held.true) ∙ ap₂ by c.requires.value.0 c.earlier_held-held.ensures

pub returns : goal.returns
unfolding direct_place
returns c =
    let a = c.args in
    let by : EntryTaken → Bool → Option Geometry = λ e b. pick b (entry_place a.run.zone.geometry a.run.allowance.share a.sectors.now a.written.now e) None in
    c.entry_place.ensures ∙ ap (by a.entry) (sym c.if-not-held.false) ∙ ap₂ by c.requires.value.0 c.earlier_held-held.ensures
