use mathlib.Core.Path.{◌≡◌, ◌∙◌}
use lib.ListN.{length}
use Rattle.tables.specs.meaning.Geometry.{cells}
use Rattle.volume.specs.meaning.CallContracts.{is_set}
use Rattle.volume.specs.storing.Formatting.{format_made}
use borrow.Author.Rules.{rules}
use Rattle.volume.proofs.formatting.format_stores.Statement.{statement}
use Rattle.volume.proofs.formatting.format_stores.Tie as tie

-- each call's place, from that of the next
abbrev at-start : tie.After-reset_drives-cleared → tie.Start
at-start c = c.before.before.before.before.before.before

abbrev at-cleared : tie.After-flush_all-settled → tie.After-reset_drives-cleared
at-cleared c = c.before.before.before.before.before.before

abbrev at-settled : tie.After-label_drives-labelled → tie.After-flush_all-settled
at-settled c = c.before.before.before.before.before

-- the pointers keep their lengths
cleared : (c : tie.After-reset_drives-cleared) → (length c.reset_drives-cleared.new.written ≡ cells (at-start c).args.g) × (length c.reset_drives-cleared.new.durable ≡ cells (at-start c).args.g)
cleared c = let s = at-start c in (c.reset_drives-cleared.auto.written ∙ s.requires.1.2, c.reset_drives-cleared.auto.durable ∙ s.requires.1.3)

flush-all-requires : tie.Need-flush_all-settled-requires
flush-all-requires c κs = let r = c.before.before.before.before.before in ((at-start r).requires.0, cleared r)

label-drives-requires : tie.Need-label_drives-labelled-requires
label-drives-requires c κs =
    let r = at-cleared c.before.before.before.before in
    let s = at-start r in
    (s.requires.0, (s.requires.1.0, s.requires.1.1, (cleared r).0))

flush-all-requires-2 : tie.Need-flush_all-requires
flush-all-requires-2 c κs =
    let l = c.before.before.before.before.before in
    let f = at-settled l in
    let r = at-cleared f in
    ((at-start r).requires.0, (l.label_drives-labelled.auto.written ∙ (cleared r).0, f.flush_all-settled.auto.durable ∙ (cleared r).1))

returns : tie.Need-returns
returns c =
    let at-labelled = c.before.before.before.before.before.before.before.before in
    let at-flush-all = at-settled at-labelled in
    let at-reset-drives = at-cleared at-flush-all in
    let a = (at-start at-reset-drives).args in
    let r = at-reset-drives.reset_drives-cleared in
    let f = at-flush-all.flush_all-settled in
    let l = at-labelled.label_drives-labelled in
    let w = c.flush_all in
    format_made a.g (is_set a.here) a.lost a.array a.budget r.result f.result l.result w.result
    a.sectors.now a.written.now a.durable.now r.new.written r.new.durable f.new.durable l.new.sectors l.new.written w.new.durable
    r.ensures f.ensures l.ensures w.ensures

pub format_stores_spec : {M : Type 1} → statement M
format_stores_spec =
    tie.close
    (tie.spec (λ c κs. search rules) flush-all-requires label-drives-requires flush-all-requires-2 (λ c. search rules) (λ c. search rules) (λ c. search rules) returns)
