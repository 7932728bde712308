use mathlib.Core.Path.{◌≡◌, sym, ap, ap₂, ◌∙◌}
use Prim.Native.Nat.{ℕ, ◌+◌, ◌-◌}
use native.Mathlib.Omega.{arith}
use lib.ListN.{length, take, drop}
use Rattle.tables.specs.meaning.Placement.{drive_of, sector_of}
use Rattle.tables.specs.laws.Sizes.{bytes_small}
use Rattle.tables.specs.meaning.Tables.{tables_of, byte_at}
use Rattle.tables.specs.laws.TablesFrame.{lengths_are}
use Rattle.volume.specs.meaning.Refusals.{zone_of, offset_of}
use Rattle.volume.specs.looking.KnowingValues.{sector_within}
use Rattle.volume.specs.meaning.CallContracts.{peek_number, past}
use Rattle.volume.specs.reading.Peeking.{peek_accepted, peek_refused, peek_done, past_none}
use Rattle.tables.specs.meaning.Geometry.{data_zone}
use Rattle.volume.specs.meaning.RefusalNumbers.{number_of}
use Rattle.volume.specs.checks.RefusalNumbers.{refusal_not_none}
use Rattle.std.specs.Prelude.{Result, Ok, Err, ⊤, is_err}
use mathlib.Core.Bool.{Bool, true, false, true≢false}
use mathlib.Core.Logic.{◌≢◌}
use mathlib.Core.List.{List}
use Rattle.tables.specs.declared.Geometry.{Geometry}
use Rattle.volume.specs.declared.State.{State}
use Rattle.volume.specs.declared.Refusal.{Refusal}
use Rattle.volume.proofs.reading.peek.Goals as goal

-- of an accepted peek
fits : (g : Geometry) (named : List Bool) (s : State) (address : ℕ) (xs ws ds : List ℕ) (r : Result ⊤ Refusal) → number_of r ≡ peek_number g named s address (tables_of xs ws ds) → is_err r ≡ false
    → peek_number g named s address (tables_of xs ws ds) ≡ 0
fits g named s address xs ws ds (Ok u) e h = sym e
fits g named s address xs ws ds (Err r) e h = absurd (true≢false h)

refuses : (n : ℕ) (r : Result ⊤ Refusal) → number_of r ≡ n → is_err r ≡ true → n ≢ 0
refuses n (Ok u) e h k = absurd (true≢false (sym h))
refuses n (Err r) e h k = refusal_not_none r (e ∙ k)

pub returns-then-is_err : goal.returns-then-is_err
returns-then-is_err c =
    let a = c.args in
    let (p, q) = peek_refused a.g a.named a.state a.address (tables_of a.sectors.now a.written.now a.durable.now) (refuses _ c.peek_refusal.result c.peek_refusal.ensures (sym c.is_err.ensures.value ∙ c.if-is_err.true)) in
    (p, past_none a.sectors.ref_ptr ∙ ap (λ (n : ℕ). past n a.sectors.ref_ptr) q)

pub zone_of-z-requires : goal.zone_of-z-requires
zone_of-z-requires c = let a = c.args in (peek_accepted a.g a.named a.state a.address a.sectors.now a.written.now a.durable.now (fits a.g a.named a.state a.address a.sectors.now a.written.now a.durable.now c.peek_refusal.result c.peek_refusal.ensures (sym c.is_err.ensures.value ∙ c.if-is_err.false))).passed.valid

pub offset_of-offset-requires : goal.offset_of-offset-requires
offset_of-offset-requires c = let a = c.args in (peek_accepted a.g a.named a.state a.address a.sectors.now a.written.now a.durable.now (fits a.g a.named a.state a.address a.sectors.now a.written.now a.durable.now c.peek_refusal.result c.peek_refusal.ensures (sym c.is_err.ensures.value ∙ c.if-is_err.false))).passed.valid

pub drive_of-d-requires-clause-valid : goal.drive_of-d-requires-clause-valid
drive_of-d-requires-clause-valid c = let a = c.args in (peek_accepted a.g a.named a.state a.address a.sectors.now a.written.now a.durable.now (fits a.g a.named a.state a.address a.sectors.now a.written.now a.durable.now c.peek_refusal.result c.peek_refusal.ensures (sym c.is_err.ensures.value ∙ c.if-is_err.false))).passed.valid

pub drive_of-d-requires-clause-zone_lt_zones : goal.drive_of-d-requires-clause-zone_lt_zones
drive_of-d-requires-clause-zone_lt_zones c = let a = c.args in (rw c.zone_of-z.ensures (peek_accepted a.g a.named a.state a.address a.sectors.now a.written.now a.durable.now (fits a.g a.named a.state a.address a.sectors.now a.written.now a.durable.now c.peek_refusal.result c.peek_refusal.ensures (sym c.is_err.ensures.value ∙ c.if-is_err.false))).zone_in_lem, omega (arith, c.offset_of-offset.ensures.1))

pub sector_of-x-requires-clause-valid : goal.sector_of-x-requires-clause-valid
sector_of-x-requires-clause-valid c = let a = c.args in (peek_accepted a.g a.named a.state a.address a.sectors.now a.written.now a.durable.now (fits a.g a.named a.state a.address a.sectors.now a.written.now a.durable.now c.peek_refusal.result c.peek_refusal.ensures (sym c.is_err.ensures.value ∙ c.if-is_err.false))).passed.valid

pub overflow_add-z : goal.overflow_add-z
overflow_add-z c = let a = c.args in let f = peek_accepted a.g a.named a.state a.address a.sectors.now a.written.now a.durable.now (fits a.g a.named a.state a.address a.sectors.now a.written.now a.durable.now c.peek_refusal.result c.peek_refusal.ensures (sym c.is_err.ensures.value ∙ c.if-is_err.false)) in omega (arith, c.zone_of-z.ensures, f.zone_in_lem, f.passed.valid.zones_most)

pub byte_at-at-requires-clause-valid : goal.byte_at-at-requires-clause-valid
byte_at-at-requires-clause-valid c = let a = c.args in (peek_accepted a.g a.named a.state a.address a.sectors.now a.written.now a.durable.now (fits a.g a.named a.state a.address a.sectors.now a.written.now a.durable.now c.peek_refusal.result c.peek_refusal.ensures (sym c.is_err.ensures.value ∙ c.if-is_err.false))).passed.valid

pub byte_at-at-requires-clause-drive_lt_drives : goal.byte_at-at-requires-clause-drive_lt_drives
byte_at-at-requires-clause-drive_lt_drives c =
    let a = c.args in
    let f = peek_accepted a.g a.named a.state a.address a.sectors.now a.written.now a.durable.now (fits a.g a.named a.state a.address a.sectors.now a.written.now a.durable.now c.peek_refusal.result c.peek_refusal.ensures (sym c.is_err.ensures.value ∙ c.if-is_err.false)) in
    let o = c.offset_of-offset in
    (c.drive_of-d.ensures.1, omega (arith, c.zone_of-z.ensures, f.zone_in_lem), rw c.sector_of-x.ensures (sector_within a.g o.result f.passed.valid o.ensures.1))

pub overflow_add-end : goal.overflow_add-end
overflow_add-end c = let a = c.args in let f = peek_accepted a.g a.named a.state a.address a.sectors.now a.written.now a.durable.now (fits a.g a.named a.state a.address a.sectors.now a.written.now a.durable.now c.peek_refusal.result c.peek_refusal.ensures (sym c.is_err.ensures.value ∙ c.if-is_err.false)) in omega (arith, c.byte_at-at.ensures.1, (bytes_small a.g f.passed.valid).1)

pub slice_bounds-result-end-2 : goal.slice_bounds-result-end-2
slice_bounds-result-end-2 c = let a = c.args in let f = peek_accepted a.g a.named a.state a.address a.sectors.now a.written.now a.durable.now (fits a.g a.named a.state a.address a.sectors.now a.written.now a.durable.now c.peek_refusal.result c.peek_refusal.ensures (sym c.is_err.ensures.value ∙ c.if-is_err.false)) in omega (arith, c.byte_at-at.ensures.1, (lengths_are a.g (length a.sectors.now) (length a.written.now) (length a.durable.now) f.passed.lengths).0)

pub returns : goal.returns
returns c =
    let a = c.args in
    let D = a.g.drives in
    let U = a.g.unit in
    let at = c.byte_at-at.result in
    let d : at + a.g.sector - at ≡ a.g.sector = omega arith in
    let e : at ≡ byte_at a.g (drive_of D U (zone_of a.g a.address) (offset_of a.g a.address)) (data_zone (zone_of a.g a.address)) (sector_of D U (offset_of a.g a.address)) =
    c.byte_at-at.ensures.0 ∙ ap₂ (λ (k x : ℕ). byte_at a.g k (data_zone c.zone_of-z.result) x) c.drive_of-d.ensures.0 c.sector_of-x.ensures
    ∙ ap₂ (λ (z o : ℕ). byte_at a.g (drive_of D U z o) (data_zone z) (sector_of D U o)) c.zone_of-z.ensures c.offset_of-offset.ensures.0 in
    let (p, q) = peek_done a.g a.named a.state a.address (tables_of a.sectors.now a.written.now a.durable.now) (fits a.g a.named a.state a.address a.sectors.now a.written.now a.durable.now c.peek_refusal.result c.peek_refusal.ensures (sym c.is_err.ensures.value ∙ c.if-is_err.false)) in
    (ap₂ (λ (n k : ℕ). take n (drop k a.sectors.now)) d e ∙ p, ap (λ (n : ℕ). past n a.sectors.ref_ptr) (e ∙ q))
