use Prim.Native.Nat.{◌<◌}
use mathlib.Core.Path.{◌≡◌, refl, ap, ◌∙◌}
use mathlib.Core.List.{List, []}
use mathlib.Core.Bool.{true, false}
use Rattle.tables.specs.laws.Made.{MadeAppends}
use Rattle.logs.specs.declared.Found.{Found}
use Rattle.logs.specs.declared.Found.TheVariants.{Bad, Label, Counters, Resets, Partial, Seal, Closing}
use Rattle.logs.specs.meaning.Entry.{general_zone, Header, label, encode}
use Rattle.logs.specs.meaning.Copies.{kept_label}
use Rattle.logs.specs.code.KeptLabel.{label_of, label_kept}
use Rattle.volume.specs.checks.Logging.{appended_as}
use Rattle.volume.specs.laws.CallContracts.{appends_nil}
use Rattle.volume.specs.emptying.Shape.{shape_valid, shape_encode}
use Rattle.volume.specs.emptying.Moving.{to_drive, to_sectors, to_written}
use Rattle.volume.specs.emptying.GeneralCopies.{old_heads, headers_on, old_in_log, old_heads_lem, label_stores_lem}
use borrow.Author.Rules.{rules}
use Rattle.volume.proofs.emptying.copy_label.Statement.{statement}
use Rattle.volume.proofs.emptying.copy_label.Tie as tie

abbrev start : tie.After-log_in-log → tie.Start
start l = l.before.before.before.before.before

abbrev heads : tie.After-log_in-log → List Header
heads l = let a = (start l).args in old_heads a.e a.sectors.now a.pointers.now

kept-label-requires : tie.Need-kept_label-kept-requires
kept-label-requires c κs =
    let l = c.before in
    let s = start l in
    let a = s.args in
    (s.requires.0, old_in_log a.e a.pointers.now a.sectors.now a.written.now s.requires.1 l.log_in-log.result l.log_in-log.ensures)

-- what was found is the label that is kept
found : (k : tie.After-kept_label-kept) → k.kept_label-kept.result ≡ label_kept (heads k.before.before)
found k =
    let l = k.before.before in
    let s = start l in
    let a = s.args in
    k.kept_label-kept.ensures.0 ∙ ap label_kept (old_heads_lem a.e a.pointers.now a.sectors.now a.written.now s.requires.1 l.log_in-log.result l.log_in-log.ensures)

-- no label
none : (k : tie.After-kept_label-kept) (f : Found) → label_of f ≡ [] → k.kept_label-kept.result ≡ f
    → MadeAppends (start k.before.before).args.e.to (start k.before.before).args.budget (start k.before.before).args.budget (headers_on (start k.before.before).args.e (kept_label (heads k.before.before))) (start k.before.before).args.sectors.now (start k.before.before).args.written.now (start k.before.before).args.sectors.now (start k.before.before).args.written.now
none k f n q =
    let a = (start k.before.before).args in
    rw (label_stores_lem a.e (heads k.before.before) k.kept_label-kept.result f (found k) q, n) (appends_nil a.e.to a.budget a.sectors.now a.written.now)

append-label-requires : tie.Need-append_label-requires
append-label-requires c κs =
    let k = c.before.before.before in
    let s = start k.before.before.before in
    let a = s.args in
    let m = s.requires.1 in
    let small : c.in-Label.lost < 256 = rw c.in-Label.is at k.kept_label-kept.ensures.1 in
    (shape_valid a.e.from a.e.to m.moves.shape s.requires.0, (to_drive false a.e a.pointers.now a.sectors.now a.written.now m, small, to_sectors false a.e a.pointers.now a.sectors.now a.written.now m, to_written false a.e a.pointers.now a.sectors.now a.written.now m))

returns-2 : tie.Need-returns-in-Label
returns-2 c =
    let k = c.before.before.before.before.before.before.before.before.before in
    let s = start k.before.before in
    let a = s.args in
    let e = a.e in
    let x = c.in-Label.lost in
    let n = c.in-Label.array in
    let f = c.append_label in
    rw (label_stores_lem e (heads k.before.before) k.kept_label-kept.result (Label x n) (found k) c.in-Label.is)
    (appended_as e.to a.budget f.result true e.drive general_zone (encode e.to e.drive (label x n)) (encode e.from e.drive (label x n)) a.sectors.now a.written.now f.new.sectors f.new.written (shape_encode e.from e.to s.requires.1.moves.shape e.drive (label x n)) f.ensures)

pub copy_label_spec : {M : Type 1} → statement M
copy_label_spec =
    tie.close
    (tie.spec (λ c κs. search rules) kept-label-requires (λ c. search rules) (λ c. search rules) append-label-requires (λ c. search rules)
    (λ c. search rules) (λ c. search rules) (λ c. search rules) (λ c. search rules) (λ c. search rules)
    (λ c. none c.before Bad refl c.in-Bad.is) (λ c. search rules) (λ c. search rules) returns-2 (λ c. search rules)
    (λ c. none c.before Counters refl c.in-Counters.is) (λ c. search rules)
    (λ c. none c.before (Resets c.in-Resets.field-0 c.in-Resets.field-1) refl c.in-Resets.is) (λ c. search rules)
    (λ c. none c.before (Partial c.in-Partial.field-0 c.in-Partial.field-1 c.in-Partial.field-2 c.in-Partial.field-3) refl c.in-Partial.is)
    (λ c. search rules) (λ c. none c.before (Seal c.in-Seal.field-0 c.in-Seal.field-1 c.in-Seal.field-2) refl c.in-Seal.is)
    (λ c. search rules) (λ c. none c.before (Closing c.in-Closing.field-0) refl c.in-Closing.is))
