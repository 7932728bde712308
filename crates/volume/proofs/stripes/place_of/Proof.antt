use Prim.Native.Nat.{◌<◌}
use mathlib.Core.Path.{refl, ◌∙◌}
use lib.ListN.{get_or}
use Rattle.tables.specs.meaning.Tables.{cell}
use borrow.Author.Rules.{rules}
use Rattle.volume.proofs.stripes.place_of.Statement.{statement}
use Rattle.volume.proofs.stripes.place_of.Tie as tie

next-byte-requires : tie.Need-next_byte-requires
next-byte-requires c κs =
    let s = c.before.before in
    let d = c.unit_drive-d in
    let room : get_or s.args.written.now (cell s.args.s.geometry d.result s.args.s.zone) 0 < s.args.s.geometry.capacity = rw d.ensures.0 s.requires.1.4 in
    (s.requires.0, (d.ensures.1, s.requires.1.0, s.requires.1.3, room))

returns : tie.Need-returns
returns c = c.next_byte.ensures.0 ∙ rw c.unit_drive-d.ensures.0 refl

pub place_of_spec : {M : Type 1} → statement M
place_of_spec = tie.close (tie.spec (λ c κs. search rules) next-byte-requires returns)
