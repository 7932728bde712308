use mathlib.Core.Path.{sym, ◌∙◌}
use mathlib.Core.Bool.{true}
use Rattle.tables.specs.meaning.Tables.{tables_of}
use Rattle.volume.specs.meaning.Emptying.{parity_copies}
use Rattle.volume.specs.emptying.Shape.{shape_valid, shape_cells}
use Rattle.volume.specs.emptying.Moving.{to_drive, to_sectors, to_written}
use Rattle.volume.specs.emptying.ParityCopies.{in_force_by, old_entries, entry_sectors}
use Rattle.volume.specs.looking.Knowing.{read_device}
use Rattle.volume.specs.emptying.EmptyingStores.{emptied_made}
use borrow.Author.Rules.{rules}
use Rattle.volume.proofs.emptying_parity.empty_parity.Statement.{statement}
use Rattle.volume.proofs.emptying_parity.empty_parity.Tie as tie

flush-all-requires : tie.Need-flush_all-flushed-requires
flush-all-requires c κs =
    let s = c.before.before.before.before.before.before.before.before.before.before in
    let a = s.args in
    let m = s.requires.1.0.tables.copying in
    let h = m.moves.shape in
    (shape_valid a.e.from a.e.to h s.requires.0, (to_written true a.e a.pointers.now a.sectors.now a.written.now m, s.requires.1.1 ∙ sym (shape_cells a.e.from a.e.to h)))

copy-parity-requires : tie.Need-copy_parity-copied-requires
copy-parity-requires c κs = let s = c.before.before.before.before.before.before.before.before.before.before.before.before.before.before.before in (s.requires.0, s.requires.1.0)

end-emptying-requires : tie.Need-end_emptying-requires
end-emptying-requires c κs =
    let k = c.before.before.before.before.before.before.before in
    let f = k.before.before.before.before.before in
    let s = f.before.before.before.before.before.before.before.before.before.before.before in
    let a = s.args in
    let m = s.requires.1.0.tables.copying in
    let h = m.moves.shape in
    let g = k.copy_parity-copied in
    (shape_valid a.e.from a.e.to h s.requires.0, (to_drive true a.e a.pointers.now a.sectors.now a.written.now m, g.auto.sectors ∙ to_sectors true a.e a.pointers.now a.sectors.now a.written.now m, g.auto.written ∙ to_written true a.e a.pointers.now a.sectors.now a.written.now m, f.flush_all-flushed.auto.durable ∙ (s.requires.1.1 ∙ sym (shape_cells a.e.from a.e.to h)), h))

returns : tie.Need-returns
returns c =
    let r = c.before.before.before.before.before.before in
    let k = r.before.before.before.before.before.before.before.before in
    let f = k.before.before.before.before.before in
    let s = f.before.before.before.before.before.before.before.before.before.before.before in
    let a = s.args in
    let v = read_device a.e.from a.sectors.now a.pointers.now in
    let copies = parity_copies a.e.from (in_force_by a.e a.generations.now a.points.now v) a.e.drive (old_entries a.e (read_device a.e.from a.sectors.now a.starts.now)) in
    emptied_made a.e true s.requires.1.0.tables.copying.moves.shape a.budget f.flush_all-flushed.result k.copy_parity-copied.result r.end_emptying.result (entry_sectors a.e copies) a.sectors.now a.written.now a.durable.now f.flush_all-flushed.new.durable k.copy_parity-copied.new.sectors k.copy_parity-copied.new.written
    (tables_of r.end_emptying.new.sectors r.end_emptying.new.written r.end_emptying.new.durable) f.flush_all-flushed.ensures k.copy_parity-copied.ensures r.end_emptying.ensures

pub empty_parity_spec : {M : Type 1} → statement M
empty_parity_spec = tie.close (tie.spec flush-all-requires copy-parity-requires end-emptying-requires (λ c. search rules) (λ c. search rules) (λ c. search rules) returns)
