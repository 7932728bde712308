use mathlib.Core.Path.{◌≡◌, sym, subst, ◌∙◌}
use mathlib.Core.List.{List}
use Prim.Native.Nat.{ℕ, suc, ◌≤◌}
use native.Mathlib.Omega.{arith}
use lib.ListN.{length, take, replicate}
use lib.Seq.{length-take-le}
use Rattle.tables.specs.meaning.Device.{Store}
use Rattle.tables.specs.meaning.Tables.{Tables, tables_of}
use Rattle.tables.specs.laws.Made.{Made}
use Rattle.tables.specs.laws.Sizes.{cells_small}
use Rattle.volume.specs.meaning.CallContracts.{is_set, mount_stores_on}
use Rattle.mounting.specs.MountRooms.{lost_among}
use Rattle.mounting.specs.Mounting.{mounted_ended, lookable_after}
use Rattle.mounting.specs.PlannedPlaces.{planned_long}
use borrow.Author.Rules.{rules}
use Rattle.mounting.proofs.mount.mount_planned.Statement.{statement}
use Rattle.mounting.proofs.mount.mount_planned.Tie as tie

abbrev given : tie.Start → Tables
given s = tables_of s.args.sectors.now s.args.written.now s.args.durable.now

-- the drive that is not here
abbrev lost : tie.Start → ℕ
lost s = lost_among s.args.g s.args.plan.here

abbrev stores : tie.Start → List Store
stores s = mount_stores_on s.args.g (is_set s.args.plan.here) (lost s) (given s)

-- ---- the stores, with an array for the pointers before the parity logs were emptied
few : (s : tie.Start) → length s.args.written.now ≤ 152
few s = omega (arith, s.requires.1.sized.written_long, cells_small s.args.g s.requires.0)

front_of : (s : tie.Start) → length (take (length s.args.written.now) (replicate {A = ℕ} 152 0)) ≡ length s.args.written.now
front_of s = length-take-le (length s.args.written.now) (replicate 152 0) (few s)

restore-requires : tie.Need-restore-rest-requires
restore-requires c κs = let s = c.before.before.before.before.before.before.before.before.before.before.before in (s.requires.0, (s.requires.1, front_of s ∙ s.requires.1.sized.written_long))

abbrev to_start : tie.After-restore-rest → tie.Start
to_start f = f.before.before.before.before.before.before.before.before.before.before.before.before

abbrev left : tie.After-restore-rest → Tables
left f = tables_of f.restore-rest.new.sectors f.restore-rest.new.written f.restore-rest.new.durable

made : (f : tie.After-restore-rest) → let s = to_start f in Made s.args.g (suc s.args.count) f.restore-rest.result (stores s) (given s) (left f)
made f = let s = to_start f in subst (λ (n : ℕ). Made s.args.g n f.restore-rest.result (stores s) (given s) (left f)) f.budget_of-budget.ensures f.restore-rest.ensures

-- ---- how it ends
outcome-requires : tie.Need-outcome-requires
outcome-requires c κs =
    let f = c.before.before.before.before.before.before.before.before.before.before in
    let s = to_start f in
    let a = s.args in
    let k = f.restore-rest.auto in
    let l = f.restore-rest.new in (
      s.requires.0,
      (
        lookable_after a.g a.plan a.pointers.now (suc a.count) f.restore-rest.result (stores s) (given s) l.sectors l.written l.durable s.requires.1 k.sectors k.written (made f),
        s.requires.1.here_in,
        k.pointers ∙ planned_long a.g (given s) a.plan a.pointers.now s.requires.1,
        s.requires.1.first,
      ),
    )

returns : tie.Need-returns
returns c =
    let f = c.before.before.before.before.before.before.before.before.before.before.before.before.before in
    let s = to_start f in
    let a = s.args in
    let r = c.before.before.outcome in
    mounted_ended a.g a.plan.here a.old a.count (given s) f.restore-rest.result (left f) r.result (made f) r.ensures

pub mount_planned_spec : {M : Type 1} → statement M
mount_planned_spec =
    tie.close
    (tie.spec (λ c κs. search rules) (λ c. few c.before.before.before.before.before.before.before.before.before.before) (λ c. sym (front_of c.before.before.before.before.before.before.before.before.before.before.before))
    restore-requires outcome-requires (λ c. search rules) (λ c. search rules) (λ c. search rules) (λ c. search rules) returns)
