use Prim.Native.Nat.{ℕ, ◌+◌, ◌-◌}
use mathlib.Core.Path.{◌≡◌, subst}
use mathlib.Core.List.{List}
use native.Mathlib.Omega.{arith}
use Rattle.tables.specs.meaning.Phases.{on_present}
use Rattle.tables.specs.laws.Made.{MadeAppends}
use Rattle.tables.specs.laws.Sizes.{zone_small}
use Rattle.volume.specs.meaning.Answers.{sectors_in}
use Rattle.volume.specs.meaning.Calls.{write_with}
use Rattle.volume.specs.meaning.CallContracts.{is_set}
use Rattle.volume.specs.looking.Knowing.{read_device}
use Rattle.volume.specs.writing.WriteStores.{run_content, content_is, writing_begins}
use borrow.Author.Rules.{rules}
use Rattle.volume.proofs.write_stores.write_all.Statement.{statement}
use Rattle.volume.proofs.write_stores.write_all.Tie as tie

earlier-limit-requires : tie.Need-earlier_limit-limit-requires
earlier-limit-requires c κs = let s = c.before.before.before.before in (s.requires.0, (s.requires.1.0.readable, omega (arith, s.requires.1.0.inside)))

write-extent-requires : tie.Need-write_extent-requires
write-extent-requires c κs =
    let l = c.earlier_limit-limit in
    let s = c.before.before.before.before.before.before.before.before.before in
    let a = s.args in
    let z = a.zone in
    (s.requires.0, writing_begins z.geometry a.to s.requires.0 z.here a.sectors.now a.pointers.now a.written.now z.number z.generation a.n a.count a.buffer.now s.requires.1.0 s.requires.1.1 l.result l.ensures)

returns : tie.Need-returns
returns c =
    let l = c.earlier_limit-limit in
    let s = c.before.before.before.before.before.before.before.before.before.before.before.before.before.before in
    let a = s.args in
    let z = a.zone in
    let xs = a.sectors.now in
    let ps = a.pointers.now in
    let w = c.write_extent in
    let e : a.n + a.count - a.n ≡ a.count = omega arith in
    let made : (ℕ → List ℕ) → ℕ → Type 0 = λ S m. MadeAppends a.to a.budget w.result (on_present (is_set z.here) (write_with z.geometry z.number z.generation S a.n m)) xs a.written.now w.new.sectors w.new.written in
    subst (λ (m : ℕ). made (run_content z.geometry (is_set z.here) (read_device z.geometry xs ps) z.number z.generation a.n (sectors_in z.geometry a.count a.buffer.now)) m) e
    (subst (λ (S : ℕ → List ℕ). made S (a.n + a.count - a.n)) (content_is z.geometry a.to z.here (read_device z.geometry xs ps) z.number z.generation l.result a.n a.count a.buffer.now s.requires.1.0.buffer_long) w.ensures)

pub write_all_spec : {M : Type 1} → statement M
write_all_spec =
    tie.close
    (tie.spec earlier-limit-requires (λ c. let s = c.before.before.before.before.before.before.before.before.before in omega (arith, s.requires.1.0.inside, (zone_small s.args.zone.geometry s.requires.0).1)) write-extent-requires (λ c. search rules) (λ c. search rules) returns)
