use Prim.Native.Nat.{ℕ}
use mathlib.Core.Path.{◌≡◌, sym, ap₂, ◌∙◌}
use mathlib.Core.List.{List, ◌++◌}
use mathlib.Core.Bool.{true, false}
use lib.ListN.{length, take, drop, replicate}
use lib.Seq.{length-take-le}
use borrow.Author.Tests.{not-true, not-false}
use Rattle.logs.specs.meaning.Entry.{general_zone, Header, encode}
use Rattle.logs.specs.code.WalkCode.{InLog}
use Rattle.logs.specs.code.Query.{log_heads}
use Rattle.volume.specs.checks.Logging.{front_fits, front_is, front_long, appended_as}
use Rattle.volume.specs.laws.CallContracts.{appends_nil}
use Rattle.volume.specs.emptying.Shape.{shape_valid}
use Rattle.volume.specs.emptying.Moving.{to_drive, to_sectors, to_written}
use Rattle.volume.specs.emptying.GeneralCopies.{old_heads, copy_due, copy_of, old_in_log, old_heads_lem, old_drive, copy_idle, copy_made}
use native.Mathlib.Omega.{arith}
use borrow.Author.Rules.{rules}
use Rattle.volume.proofs.emptying.copy_header.Statement.{statement}
use Rattle.volume.proofs.emptying.copy_header.Tie as tie

abbrev start : tie.After-log_in-log → tie.Start
start l = l.before.before.before.before.before

abbrev heads : tie.After-log_in-log → List Header
heads l = let a = (start l).args in old_heads a.e a.sectors.now a.pointers.now

inside : (l : tie.After-log_in-log) → InLog (start l).args.e.from l.log_in-log.result.drive l.log_in-log.result.zone l.log_in-log.result.written (start l).args.sectors.now
inside l = let s = start l in let a = s.args in old_in_log a.e a.pointers.now a.sectors.now a.written.now s.requires.1.0 l.log_in-log.result l.log_in-log.ensures

heads-are : (l : tie.After-log_in-log) → log_heads (start l).args.e.from l.log_in-log.result.drive false l.log_in-log.result.zone l.log_in-log.result.written (start l).args.sectors.now ≡ heads l
heads-are l = let s = start l in let a = s.args in old_heads_lem a.e a.pointers.now a.sectors.now a.written.now s.requires.1.0 l.log_in-log.result l.log_in-log.ensures

drive-is : (l : tie.After-log_in-log) → l.log_in-log.result.drive ≡ (start l).args.e.drive
drive-is l = let s = start l in let a = s.args in old_drive a.e a.pointers.now a.sectors.now a.written.now s.requires.1.0 l.log_in-log.result l.log_in-log.ensures

due-is : (c : tie.After-copy_due) → c.copy_due.result ≡ copy_due (start c.before.before).args.kind (start c.before.before).args.generation (heads c.before.before) (start c.before.before).args.z
due-is c = rw (heads-are c.before.before) at c.copy_due.ensures

copy-due-requires : tie.Need-copy_due-requires
copy-due-requires c κs = let l = c.before in ((start l).requires.0, inside l)

returns : tie.Need-returns-then-not-copy_due
returns c =
    let d = c.before in
    let l = d.before.before in
    let a = (start l).args in
    rw (copy_idle a.e a.kind a.generation (heads l) a.z (sym (due-is d) ∙ not-true d.copy_due.result c.if-not-copy_due.true-raw)) (appends_nil a.e.to a.budget a.sectors.now a.written.now)

slice-aggregate-write-copy : tie.Need-slice_bounds-write_copy-end
slice-aggregate-write-copy c = let s = c.before.before.before.before.before.before.before.before in sym (length-take-le s.args.e.from.sector _ s.requires.0.sector_most)

write-copy-requires : tie.Need-write_copy-requires
write-copy-requires c κs = let l = c.before.before.before.before.before in let s = start l in (s.requires.0, (inside l, length-take-le s.args.e.from.sector _ s.requires.0.sector_most, s.requires.1.1))

abbrev log : tie.After-write_copy → tie.After-log_in-log
log w = w.before.before.before.before.before.before

-- the header is one sector long
long : (w : tie.After-write_copy) → length w.write_copy.new.out ≡ (start (log w)).args.e.from.sector
long w = let s = start (log w) in w.write_copy.auto.out ∙ length-take-le s.args.e.from.sector _ s.requires.0.sector_most

-- the rest of the buffer
abbrev rest : tie.Start → List ℕ
rest s = drop s.args.e.from.sector (replicate 4096 0)

array-share-prefix-header : tie.Need-slice_bounds-header-end-2
array-share-prefix-header c = let w = c.before.before.before.before in let s = start (log w) in front_fits s.args.e.from.sector w.write_copy.new.out (rest s) (long w)

whole : (w : tie.After-write_copy) → (start (log w)).args.e.from.sector ≡ length (take (start (log w)).args.e.from.sector (w.write_copy.new.out ++ rest (start (log w))))
whole w = let s = start (log w) in front_long s.args.e.from.sector w.write_copy.new.out (rest s) (long w)

slice-aggregate-append-counted : tie.Need-slice_bounds-append_counted-end
slice-aggregate-append-counted c = whole c.before.before.before.before.before

append-counted-requires : tie.Need-append_counted-requires
append-counted-requires c κs =
    let w = c.before.before.before.before.before in
    let s = start (log w) in
    let a = s.args in
    let k = s.requires.1.0 in
    let h = k.moves.shape in
    (shape_valid a.e.from a.e.to h s.requires.0, ((to_drive false a.e a.pointers.now a.sectors.now a.written.now k, omega arith), (to_sectors false a.e a.pointers.now a.sectors.now a.written.now k, to_written false a.e a.pointers.now a.sectors.now a.written.now k, sym (whole w) ∙ sym h.sector)))

header_is : (w : tie.After-write_copy) → w.write_copy.new.out ≡ encode (start (log w)).args.e.from (start (log w)).args.e.drive (copy_of (start (log w)).args.e.from (start (log w)).args.kind (start (log w)).args.generation (heads (log w)) (start (log w)).args.z)
header_is w =
    let l = log w in
    let a = (start l).args in
    w.write_copy.ensures ∙ ap₂ (λ (d : ℕ) (hs : List Header). encode a.e.from d (copy_of a.e.from a.kind a.generation hs a.z)) (drive-is l) (heads-are l)

returns-2 : tie.Need-returns
returns-2 c =
    let w = c.before.before.before.before.before.before.before.before.before.before in
    let l = log w in
    let s = start l in
    let a = s.args in
    let n = a.e.from.sector in
    let f = c.append_counted in
    let d = w.before.before.before.before in
    let header = encode a.e.from a.e.drive (copy_of a.e.from a.kind a.generation (heads l) a.z) in
    rw (copy_made a.e a.kind a.generation (heads l) a.z (sym (due-is d) ∙ not-false d.copy_due.result w.if-not-copy_due.false-raw))
    (appended_as a.e.to a.budget f.result true a.e.drive general_zone (take n (w.write_copy.new.out ++ rest s)) header a.sectors.now a.written.now f.new.sectors f.new.written (front_is n w.write_copy.new.out (rest s) header (long w) (header_is w)) f.ensures)

pub copy_header_spec : {M : Type 1} → statement M
copy_header_spec =
    tie.close
    (tie.spec (λ c κs. search rules) copy-due-requires (λ c. search rules) returns (λ c. search rules) slice-aggregate-write-copy write-copy-requires
    array-share-prefix-header slice-aggregate-append-counted append-counted-requires (λ c. search rules) (λ c. search rules) returns-2)
