use mathlib.Core.Path.{◌≡◌, refl, ap, ◌∙◌}
use mathlib.Core.List.{List}
use mathlib.Core.Bool.{false}
use native.Mathlib.Omega.{arith}
use lib.ListN.{length}
use Rattle.logs.specs.declared.Log.{Log}
use Rattle.logs.specs.meaning.Entry.{general_zone, Header}
use Rattle.logs.specs.code.WalkCode.{InLog}
use Rattle.logs.specs.code.Query.{log_heads}
use Rattle.logs.specs.code.KeptLabel.{label_kept}
use Rattle.volume.specs.declared.emptying.HeaderCopy.TheVariants.{Seal, Reset}
use Rattle.volume.specs.meaning.Rules.{general_heads}
use Rattle.volume.specs.looking.DriveLogs.{in_log, zone_pointer, general_heads_lem}
use Rattle.volume.specs.looking.Knowing.{read_device}
use Rattle.volume.specs.emptying.GeneralCopies.{label_count, copies_below, general_size_is}
use borrow.Author.Rules.{rules}
use Rattle.volume.proofs.emptying.general_size.Statement.{statement}
use Rattle.volume.proofs.emptying.general_size.Tie as tie

abbrev start : tie.After-log_in-log → tie.Start
start l = l.before.before.before.before

inside : (l : tie.After-log_in-log) → InLog (start l).args.g l.log_in-log.result.drive l.log_in-log.result.zone l.log_in-log.result.written (start l).args.sectors.now
inside l = let s = start l in let a = s.args in in_log a.g a.sectors.now a.pointers.now a.drive general_zone l.log_in-log.result l.log_in-log.ensures s.requires.1.0 s.requires.1.1 (omega arith)

abbrev heads : tie.After-log_in-log → List Header
heads l = let a = (start l).args in general_heads a.g (read_device a.g a.sectors.now a.pointers.now) a.drive

heads-are : (l : tie.After-log_in-log) → log_heads (start l).args.g l.log_in-log.result.drive false l.log_in-log.result.zone l.log_in-log.result.written (start l).args.sectors.now ≡ heads l
heads-are l =
    let s = start l in
    let a = s.args in
    ap (λ (k : Log). log_heads a.g k.drive false k.zone k.written a.sectors.now) l.log_in-log.ensures
    ∙ general_heads_lem a.g a.sectors.now a.pointers.now a.drive s.requires.1.1 (zone_pointer a.g a.pointers.now a.drive general_zone) refl

returns : tie.Need-returns
returns c =
    let l = c.before.before.before.before in
    let s = start l in
    let a = s.args in
    let gs = a.generations.now in
    let hs = heads l in
    let i : c.label_count-labels.result ≡ label_count (label_kept hs) = c.label_count-labels.ensures.0 ∙ ap label_count (c.kept_label-kept.ensures.0 ∙ ap label_kept (heads-are l)) in
    let j : c.count_copies-seals.result ≡ length (copies_below a.g Seal gs hs a.g.zones) = c.count_copies-seals.ensures.0 ∙ ap (λ (x : List Header). length (copies_below a.g Seal gs x a.g.zones)) (heads-are l) in
    let k : c.count_copies-resets.result ≡ length (copies_below a.g Reset gs hs a.g.zones) = c.count_copies-resets.ensures.0 ∙ ap (λ (x : List Header). length (copies_below a.g Reset gs x a.g.zones)) (heads-are l) in
    rw (i, j, k) (general_size_is a.g gs hs s.requires.1.2)

pub general_size_spec : {M : Type 1} → statement M
general_size_spec =
    tie.close
    (tie.spec (λ c κs. search rules) (λ c κs. ((start c).requires.0, inside c)) (λ c κs. search rules) (λ c κs. let l = c.before.before in ((start l).requires.0, (inside l, (start l).requires.1.2)))
    (λ c κs. let l = c.before.before.before in ((start l).requires.0, (inside l, (start l).requires.1.2))) (λ c. search rules) (λ c. search rules) (λ c. search rules) returns)
