use Rattle.std.proofs.Common.{◌≡◌, ℕ, ◌-◌, ◌≤◌, List, arith}
use Rattle.tables.specs.meaning.Device.{Store}
use Rattle.tables.specs.meaning.Geometry.{Valid}
use Rattle.tables.specs.meaning.Phases.{on_present}
use Rattle.tables.specs.laws.Made.{MadeAppends}
use Rattle.volume.specs.declared.rows.Extent.{Extent}
use Rattle.volume.specs.meaning.Calls.{data_stores}
use Rattle.volume.specs.meaning.CallContracts.{is_set}
use Rattle.volume.specs.laws.CallContracts.{appends_append}
use Rattle.volume.specs.looking.Knowing.{read_device}
use Rattle.volume.specs.rows.RowsInPlace.{content_of}
use Rattle.volume.specs.writing.WriteStores.{Writing, data_more, writing_kept, run_in}
use Rattle.volume.proofs.write_stores.write_run.Goals as goal

-- the stores of the addresses from `from` on, below `to`, with the content that lies in the tables at the start
abbrev stores_of : Extent → List ℕ → List ℕ → List ℕ → ℕ → ℕ → List Store
stores_of k xs ps buffer from to =
    let g = k.geometry in
    on_present (is_set k.here) (data_stores g.drives g.unit k.zone (content_of k (read_device g xs ps) buffer) from (to - from))

-- what those below a leave alone
kept : (k : Extent) → Valid k.geometry → (xs ws ps buffer : List ℕ) → Writing k xs ws ps buffer → (budget rest a : ℕ) → a ≤ k.end → (xs' ws' : List ℕ)
    → MadeAppends k.to budget rest (stores_of k xs ps buffer k.below a) xs ws xs' ws' → Writing k xs' ws' ps buffer × (read_device k.geometry xs' ps ≡ read_device k.geometry xs ps)
kept k ok xs ws ps buffer w budget rest a h xs' ws' made =
    writing_kept k ok xs ws ps buffer w budget rest (stores_of k xs ps buffer k.below a) xs' ws' (run_in k ok xs ws ps buffer w (a - k.below) (omega (arith, h))) made

pub write_next-reached-requires-clause-writing : goal.write_next-reached-requires-clause-writing
write_next-reached-requires-clause-writing c =
    let a = c.args in
    let l = c.loop-a in
    let k = kept a.known c.requires.valid a.sectors.now a.written.now a.pointers.now a.buffer.now c.requires.writing a.budget l.rest l.a l.invariant.within l.sectors l.written l.invariant.made in
    (k.0, l.invariant.after, c.loop-a-test.true)

pub loop-a-preserved : goal.loop-a-preserved
loop-a-preserved c =
    let a = c.args in
    let g = a.known.geometry in
    let l = c.loop-a in
    let f = c.write_next-reached in
    let next = f.result.next in
    let k = kept a.known c.requires.valid a.sectors.now a.written.now a.pointers.now a.buffer.now c.requires.writing a.budget l.rest l.a l.invariant.within l.sectors l.written l.invariant.made in
    let S = content_of a.known (read_device g a.sectors.now a.pointers.now) a.buffer.now in
    let stores = stores_of a.known a.sectors.now a.pointers.now a.buffer.now in record {
      after = omega (arith, l.invariant.after, f.ensures.0);
      within = f.ensures.1;
      made = rw (data_more g c.requires.valid (is_set a.known.here) a.known.zone S a.known.below l.a next l.invariant.after (omega (arith, f.ensures.0)))
          (appends_append a.known.to a.budget l.rest f.result.rest (stores a.known.below l.a) (stores l.a next) a.sectors.now a.written.now l.sectors l.written f.new.sectors f.new.written l.invariant.made (rw k.1 at f.ensures.2));
    }

pub returns : goal.returns
returns c = let e : c.loop-a.a ≡ c.args.known.end = omega (arith, c.loop-a.invariant.within) in rw e at c.loop-a.invariant.made
