use Rattle.std.proofs.Common.{◌≡◌, ℕ, ◌+◌, ◌*◌, ◌≤◌, List, eqb, add-one, arith}
use Rattle.tables.specs.laws.Basics.{eqb_same}
use Rattle.tables.specs.meaning.Device.{Store, append}
use Rattle.tables.specs.meaning.Geometry.{Valid, stripe_sectors}
use Rattle.tables.specs.laws.Made.{MadeAppends, store_if}
use Rattle.volume.specs.declared.rows.Extent.{Extent}
use Rattle.volume.specs.declared.rows.Target.{Target}
use Rattle.volume.specs.meaning.Content.{row_xor_below}
use Rattle.volume.specs.laws.CallContracts.{appends_append}
use Rattle.volume.specs.looking.Knowing.{read_device}
use Rattle.volume.specs.rows.RowStores.{rows_if, rows_more, rows_in}
use Rattle.volume.specs.rows.RowsInPlace.{content_of, RowsReady, ready_long, ready_kept}
use Rattle.volume.proofs.rows.append_rows.Goals as goal

-- the rows that are meant
abbrev row_at : Extent → List ℕ → List ℕ → List ℕ → ℕ → ℕ → List ℕ
row_at k xs ps buffer s = row_xor_below k.geometry.drives k.geometry.unit (content_of k (read_device k.geometry xs ps) buffer) s k.end

abbrev rows_at : Extent → Target → List ℕ → List ℕ → List ℕ → ℕ → ℕ → ℕ → List Store
rows_at k t xs ps buffer s = rows_if t.present t.drive t.zone (row_at k xs ps buffer s)

-- what the rows below r leave alone
kept : (k : Extent) (t : Target) (xs ws ps buffer : List ℕ) (s from m : ℕ) → Valid k.geometry
    → RowsReady k t xs ws ps buffer s × (from ≤ m) × (m ≤ k.geometry.unit) × (s * stripe_sectors k.geometry + m ≤ k.end)
    → (r : ℕ) → r ≤ m → (budget rest : ℕ) (xs' ws' : List ℕ) → MadeAppends k.to budget rest (rows_at k t xs ps buffer s from r) xs ws xs' ws'
    → RowsReady k t xs' ws' ps buffer s × (read_device k.geometry xs' ps ≡ read_device k.geometry xs ps)
kept k t xs ws ps buffer s from m ok (ready, _, units, within) r below budget rest xs' ws' made =
    ready_kept k t xs ws ps buffer s ready budget rest (rows_at k t xs ps buffer s from r) xs' ws'
    (rows_in k.geometry (λ y. eqb y t.zone) t.present t.drive t.zone (row_at k xs ps buffer s) from r ready.drive_in ready.zone_in_lem (eqb_same t.zone)
    (λ p i h. ready_long k t xs ws ps buffer s ready ok i (omega (arith, h)) (omega (arith, h)) p))
    made

pub append_row-rest-requires-clause-rows_ready : goal.append_row-rest-requires-clause-rows_ready
append_row-rest-requires-clause-rows_ready c =
    let a = c.args in
    let l = c.loop-r in
    let k = kept a.known a.target a.sectors.now a.written.now a.pointers.now a.buffer.now a.s a.from a.m c.requires.valid c.requires.rows_ready l.r (omega arith) a.budget l.rest l.sectors l.written l.invariant in
    (k.0, omega (arith, c.requires.rows_ready.3))

pub loop-r-preserved : goal.loop-r-preserved
loop-r-preserved c =
    let a = c.args in
    let t = a.target in
    let l = c.loop-r in
    let f = c.append_row-rest in
    let F = row_at a.known a.sectors.now a.pointers.now a.buffer.now a.s in
    let k = kept a.known t a.sectors.now a.written.now a.pointers.now a.buffer.now a.s a.from a.m c.requires.valid c.requires.rows_ready l.r (omega arith) a.budget l.rest l.sectors l.written l.invariant in
    let after : a.from ≤ l.r = omega arith in
    rw (add-one, rows_more t.present t.drive t.zone F a.from l.r after)
    (appends_append a.known.to a.budget l.rest f.result (rows_if t.present t.drive t.zone F a.from l.r) (store_if t.present (append t.drive t.zone (F l.r))) a.sectors.now a.written.now l.sectors l.written f.new.sectors f.new.written l.invariant (rw k.1 at f.ensures))

pub returns : goal.returns
returns c = let e : c.loop-r.r ≡ c.args.m = omega (arith, c.requires.rows_ready.1) in rw e at c.loop-r.invariant
