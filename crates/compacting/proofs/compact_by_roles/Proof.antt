use Prim.Native.Nat.{ℕ, ◌≤◌}
use mathlib.Core.Path.{◌≡◌, sym, ◌∙◌}
use mathlib.Core.List.{List, ◌++◌}
use native.Mathlib.Omega.{arith}
use lib.ListN.{length, take, drop, replicate}
use lib.Seq.{length-take-le}
use Rattle.tables.specs.laws.Sizes.{cells_small}
use Rattle.volume.specs.checks.Logging.{front_fits, front_is, front_long}
use Rattle.volume.specs.looking.HiddenLogs.{hidden_logs}
use borrow.Author.Rules.{rules}
use Rattle.compacting.proofs.compact_by_roles.Statement.{statement}
use Rattle.compacting.proofs.compact_by_roles.Tie as tie

-- the pointers fit the copy
few : (s : tie.Start) → length s.args.written.now ≤ 152
few s = omega (arith, s.requires.1.0.written_long, cells_small s.args.job.first s.requires.0)

front_of : (s : tie.Start) → length (take (length s.args.written.now) (replicate {A = ℕ} 152 0)) ≡ length s.args.written.now
front_of s = length-take-le (length s.args.written.now) (replicate 152 0) (few s)

-- the rest of the array
abbrev past : tie.Start → List ℕ
past s = drop (length s.args.written.now) (replicate 152 0)

abbrev to_start : tie.After-see_by_roles-places → tie.Start
to_start c = c.before.before.before.before.before.before

copy-long : (c : tie.After-see_by_roles-places) → length c.see_by_roles-places.new.pointers ≡ length (to_start c).args.written.now
copy-long c = c.see_by_roles-places.auto.pointers ∙ front_of (to_start c)

copied : (c : tie.After-see_by_roles-places) → let ws = (to_start c).args.written.now in take (length ws) (c.see_by_roles-places.new.pointers ++ past (to_start c)) ≡ hidden_logs c.see_by_roles-places.result ws c.see_by_roles-places.result.geometry.drives
copied c =
    let ws = (to_start c).args.written.now in
    front_is (length ws) c.see_by_roles-places.new.pointers (past (to_start c)) (hidden_logs c.see_by_roles-places.result ws c.see_by_roles-places.result.geometry.drives) (copy-long c) c.see_by_roles-places.ensures.2

see-by-roles-requires : tie.Need-see_by_roles-places-requires
see-by-roles-requires c κs = let s = c.before.before.before.before.before in (s.requires.0, (s.requires.1.0, front_of s ∙ s.requires.1.0.written_long, s.requires.1.1))

array-share-prefix-pointers : tie.Need-slice_bounds-pointers-end-2
array-share-prefix-pointers c = let f = c.before.before.before.before in front_fits (length (to_start f).args.written.now) f.see_by_roles-places.new.pointers (past (to_start f)) (copy-long f)

slice-aggregate-compact-seen : tie.Need-slice_bounds-compact_seen-end
slice-aggregate-compact-seen c = let f = c.before.before.before.before.before in front_long (length (to_start f).args.written.now) f.see_by_roles-places.new.pointers (past (to_start f)) (copy-long f)

compact-seen-requires : tie.Need-compact_seen-requires
compact-seen-requires c κs =
    let f = c.before.before.before.before.before in
    let s = to_start f in
    (s.requires.0, (record { sized = s.requires.1.0; logs_first = s.requires.1.1; places_are = f.see_by_roles-places.ensures.0; hidden = copied f }, s.requires.1.2))

pub compact_by_roles_spec : {M : Type 1} → statement M
compact_by_roles_spec =
    tie.close
    (tie.spec (λ c. few c.before.before.before) (λ c. sym (front_of c.before.before.before.before)) see-by-roles-requires array-share-prefix-pointers slice-aggregate-compact-seen compact-seen-requires (λ c. search rules) (λ c. search rules) (λ c. search rules) (λ c. search rules))
