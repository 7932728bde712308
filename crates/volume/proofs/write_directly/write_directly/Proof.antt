use Prim.Native.Nat.{ℕ, ◌≤◌}
use mathlib.Core.Path.{◌≡◌, sym, ap, ◌∙◌, subst}
use mathlib.Core.List.{List, ◌++◌}
use native.Mathlib.Omega.{arith}
use lib.ListN.{length, take, drop, replicate}
use lib.Seq.{length-take-le}
use Rattle.tables.specs.meaning.Phases.{on_present}
use Rattle.tables.specs.laws.Lists.{overlay_all}
use Rattle.tables.specs.laws.Made.{MadeAppends}
use Rattle.tables.specs.laws.Sizes.{cells_small}
use Rattle.volume.specs.meaning.Answers.{sectors_in}
use Rattle.volume.specs.meaning.Calls.{write_with}
use Rattle.volume.specs.meaning.CallContracts.{is_set}
use Rattle.volume.specs.checks.Logging.{front_fits, front_is, front_long}
use Rattle.volume.specs.looking.Knowing.{read_device}
use Rattle.volume.specs.writing.WriteStores.{run_content, WriteReady, StoresPast}
use Rattle.volume.specs.writing.WriteRun.{run_stores_of}
use borrow.Author.Rules.{rules}
use Rattle.volume.proofs.write_directly.write_directly.Statement.{statement}
use Rattle.volume.proofs.write_directly.write_directly.Tie as tie

-- the pointers fit the copy
few : (s : tie.Start) → length s.args.written.now ≤ 152
few s = omega (arith, s.requires.1.1.written_long, cells_small s.args.run.zone.geometry s.requires.0)

front_of : (s : tie.Start) → length (take (length s.args.written.now) (replicate {A = ℕ} 152 0)) ≡ length s.args.written.now
front_of s = length-take-le (length s.args.written.now) (replicate 152 0) (few s)

-- the rest of the array
abbrev past : tie.Start → List ℕ
past s = drop (length s.args.written.now) (replicate 152 0)

abbrev to_start : tie.After-copy_in → tie.Start
to_start c = c.before.before.before.before.before

copied : (c : tie.After-copy_in) → c.copy_in.new.dst ≡ (to_start c).args.written.now
copied c =
    let ws = (to_start c).args.written.now in
    c.copy_in.ensures ∙ overlay_all (take (length ws) (replicate 152 0)) ws (sym (front_of (to_start c)))

copy-long : (c : tie.After-copy_in) → length c.copy_in.new.dst ≡ length (to_start c).args.written.now
copy-long c = ap (λ (l : List ℕ). length l) (copied c)

-- the copy, as it is handed on
handed : (c : tie.After-copy_in) → take (length (to_start c).args.written.now) (c.copy_in.new.dst ++ past (to_start c)) ≡ (to_start c).args.written.now
handed c = front_is (length (to_start c).args.written.now) c.copy_in.new.dst (past (to_start c)) (to_start c).args.written.now (copy-long c) (copied c)

copy-in-requires : tie.Need-copy_in-requires
copy-in-requires c κs = let f = front_of c.before.before.before.before in search rules

array-share-prefix-pointers : tie.Need-slice_bounds-pointers-end-2
array-share-prefix-pointers c = let f = c.before.before.before in front_fits (length (to_start f).args.written.now) f.copy_in.new.dst (past (to_start f)) (copy-long f)

slice-aggregate-write-all : tie.Need-slice_bounds-write_all-end
slice-aggregate-write-all c = let f = c.before.before.before.before in front_long (length (to_start f).args.written.now) f.copy_in.new.dst (past (to_start f)) (copy-long f)

write-all-requires : tie.Need-write_all-requires
write-all-requires c κs =
    let f = c.before.before.before.before.before in
    let s = to_start f in
    let a = s.args in
    let z = a.run.zone in
    let needed : List ℕ → Type 0 = λ ps. WriteReady z.geometry z.here a.sectors.now ps z.number z.generation a.run.pointer a.run.count a.buffer.now × StoresPast z.geometry a.to ps a.written.now in
    (s.requires.0, subst needed (sym (handed f)) s.requires.1)

returns : tie.Need-returns
unfolding run_stores_of
returns c =
    let w = c.write_all in
    let f = c.before.before.before.before.before.before.before.before.before.before in
    let a = (to_start f).args in
    let z = a.run.zone in
    let made : List ℕ → Type 0 = λ ps. MadeAppends a.to a.budget w.result
    (on_present (is_set z.here) (write_with z.geometry z.number z.generation (run_content z.geometry (is_set z.here) (read_device z.geometry a.sectors.now ps) z.number z.generation a.run.pointer (sectors_in z.geometry a.run.count a.buffer.now)) a.run.pointer a.run.count))
    a.sectors.now a.written.now w.new.sectors w.new.written in
    subst made (handed f) w.ensures

pub write_directly_spec : {M : Type 1} → statement M
write_directly_spec =
    tie.close
    (tie.spec (λ c. few c.before.before.before) (λ c. sym (front_of c.before.before.before.before)) copy-in-requires array-share-prefix-pointers slice-aggregate-write-all write-all-requires (λ c. search rules) (λ c. search rules) returns)
