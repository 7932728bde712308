use Prim.Native.Nat.{ℕ, ◌-◌}
use mathlib.Core.Path.{◌≡◌}
use mathlib.Core.List.{List, []}
use native.Mathlib.Nat.{le_refl}
use Rattle.tables.specs.meaning.Basics.{pick}
use Rattle.tables.specs.meaning.Phases.{on_present}
use Rattle.volume.specs.meaning.Calls.{data_stores, entry_stores}
use Rattle.volume.specs.meaning.CallContracts.{is_set}
use Rattle.volume.specs.meaning.Content.{inside_stripe}
use Rattle.volume.specs.laws.CallContracts.{appends_append}
use Rattle.volume.specs.looking.Knowing.{read_device}
use Rattle.volume.specs.rows.RowsInPlace.{content_of}
use Rattle.volume.specs.writing.WriteStores.{Writing, write_parts, writing_kept, run_in}
use borrow.Author.Rules.{rules}
use Rattle.volume.proofs.write_stores.write_extent.Statement.{statement}
use Rattle.volume.proofs.write_stores.write_extent.Tie as tie

abbrev to_start : tie.After-write_run-rest → tie.Start
to_start c = c.before.before.before.before.before.before.before

abbrev content : tie.Start → ℕ → List ℕ
content s = let a = s.args in content_of a.known (read_device a.known.geometry a.sectors.now a.pointers.now) a.buffer.now

-- what the sectors have left alone
kept : (c : tie.After-write_run-rest) → let a = (to_start c).args in
    Writing a.known c.write_run-rest.new.sectors c.write_run-rest.new.written a.pointers.now a.buffer.now × (read_device a.known.geometry c.write_run-rest.new.sectors a.pointers.now ≡ read_device a.known.geometry a.sectors.now a.pointers.now)
kept c =
    let s = to_start c in
    let a = s.args in
    let k = a.known in
    let f = c.write_run-rest in
    writing_kept k s.requires.0 a.sectors.now a.written.now a.pointers.now a.buffer.now s.requires.1 a.budget f.result (on_present (is_set k.here) (data_stores k.geometry.drives k.geometry.unit k.zone (content s) k.below (k.end - k.below))) f.new.sectors f.new.written
    (run_in k s.requires.0 a.sectors.now a.written.now a.pointers.now a.buffer.now s.requires.1 (k.end - k.below) (le_refl (k.end - k.below))) f.ensures

write-entry-requires : tie.Need-write_entry-requires
write-entry-requires c κs = let f = c.before.before.before.before.before.before in ((to_start f).requires.0, (kept f).0)

returns : tie.Need-returns
returns c =
    let r = c.write_entry in
    let f = c.before.before.before.before.before.before.before.before.before.before.before in
    let s = to_start f in
    let a = s.args in
    let k = a.known in
    let g = k.geometry in
    let x = f.write_run-rest in
    rw (write_parts g s.requires.0 (is_set k.here) k.zone (content s) k.generation k.below k.end s.requires.1.below_most)
    (appends_append k.to a.budget x.result r.result (on_present (is_set k.here) (data_stores g.drives g.unit k.zone (content s) k.below (k.end - k.below))) (on_present (is_set k.here) (pick (inside_stripe g k.end) (entry_stores g k.zone k.generation (content s) k.end) []))
    a.sectors.now a.written.now x.new.sectors x.new.written r.new.sectors r.new.written x.ensures (rw (kept f).1 at r.ensures))

pub write_extent_spec : {M : Type 1} → statement M
write_extent_spec =
    tie.close
    (tie.spec (λ c κs. search rules) write-entry-requires (λ c. search rules) (λ c. search rules) returns)
