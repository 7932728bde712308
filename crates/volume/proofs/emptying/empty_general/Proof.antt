use mathlib.Core.Path.{sym, ◌∙◌}
use mathlib.Core.Bool.{false}
use mathlib.Core.List.{map}
use Rattle.tables.specs.meaning.Tables.{tables_of}
use Rattle.logs.specs.meaning.Entry.{encode}
use Rattle.volume.specs.meaning.Emptying.{general_copies}
use Rattle.volume.specs.emptying.Shape.{shape_valid, shape_cells}
use Rattle.volume.specs.emptying.Moving.{to_drive, to_sectors, to_written}
use Rattle.volume.specs.emptying.GeneralCopies.{by_generations, old_heads}
use Rattle.volume.specs.emptying.EmptyingStores.{emptied_made}
use borrow.Author.Rules.{rules}
use Rattle.volume.proofs.emptying.empty_general.Statement.{statement}
use Rattle.volume.proofs.emptying.empty_general.Tie as tie

flush-all-requires : tie.Need-flush_all-flushed-requires
flush-all-requires c κs =
    let s = c.before.before.before.before.before.before.before.before in
    let a = s.args in
    let m = s.requires.1.0 in
    let h = m.moves.shape in
    (shape_valid a.e.from a.e.to h s.requires.0, (to_written false a.e a.pointers.now a.sectors.now a.written.now m, s.requires.1.2 ∙ sym (shape_cells a.e.from a.e.to h)))

copy-general-requires : tie.Need-copy_general-copied-requires
copy-general-requires c κs = let s = c.before.before.before.before.before.before.before.before.before.before.before.before.before in (s.requires.0, (s.requires.1.0, s.requires.1.1))

end-emptying-requires : tie.Need-end_emptying-requires
end-emptying-requires c κs =
    let k = c.before.before.before.before.before.before.before in
    let f = k.before.before.before.before.before in
    let s = f.before.before.before.before.before.before.before.before.before in
    let a = s.args in
    let m = s.requires.1.0 in
    let h = m.moves.shape in
    let g = k.copy_general-copied in
    (shape_valid a.e.from a.e.to h s.requires.0, (to_drive false a.e a.pointers.now a.sectors.now a.written.now m, g.auto.sectors ∙ to_sectors false a.e a.pointers.now a.sectors.now a.written.now m, g.auto.written ∙ to_written false a.e a.pointers.now a.sectors.now a.written.now m, f.flush_all-flushed.auto.durable ∙ (s.requires.1.2 ∙ sym (shape_cells a.e.from a.e.to h)), h))

returns : tie.Need-returns
returns c =
    let r = c.before.before.before.before.before.before in
    let k = r.before.before.before.before.before.before.before.before in
    let f = k.before.before.before.before.before in
    let s = f.before.before.before.before.before.before.before.before.before in
    let a = s.args in
    let copies = general_copies a.e.from (by_generations a.generations.now) (old_heads a.e a.sectors.now a.pointers.now) in
    emptied_made a.e false s.requires.1.0.moves.shape a.budget f.flush_all-flushed.result k.copy_general-copied.result r.end_emptying.result (map (encode a.e.from a.e.drive) copies) a.sectors.now a.written.now a.durable.now f.flush_all-flushed.new.durable k.copy_general-copied.new.sectors k.copy_general-copied.new.written
    (tables_of r.end_emptying.new.sectors r.end_emptying.new.written r.end_emptying.new.durable) f.flush_all-flushed.ensures k.copy_general-copied.ensures r.end_emptying.ensures

pub empty_general_spec : {M : Type 1} → statement M
empty_general_spec = tie.close (tie.spec flush-all-requires copy-general-requires end-emptying-requires (λ c. search rules) (λ c. search rules) (λ c. search rules) returns)
