use mathlib.Core.Path.{◌≡◌, sym, ◌∙◌}
use Prim.Native.Nat.{ℕ, ◌≤◌}
use native.Mathlib.Omega.{arith}
use lib.ListN.{length, take, replicate}
use lib.Seq.{length-take-le}
use Rattle.tables.specs.laws.Sizes.{cells_small}
use borrow.Author.Rules.{rules}
use Rattle.volume.proofs.reading.read_logged.Statement.{statement}
use Rattle.volume.proofs.reading.read_logged.Tie as tie

-- the pointers fit the array
few : (s : tie.Start) → length s.args.written.now ≤ 152
few s = omega (arith, s.requires.1.0.written_long, cells_small s.args.zone.geometry s.requires.0)

front_of : (s : tie.Start) → length (take (length s.args.written.now) (replicate {A = ℕ} 152 0)) ≡ length s.args.written.now
front_of s = length-take-le (length s.args.written.now) (replicate 152 0) (few s)

read-by-roles-requires : tie.Need-read_by_roles-requires
read-by-roles-requires c κs = let s = c.before.before.before.before.before in let p = s.requires.1 in (s.requires.0, (p.0, p.1, front_of s ∙ p.0.written_long, p.2, p.3))

pub read_logged_spec : {M : Type 1} → statement M
read_logged_spec =
    tie.close
    (tie.spec (λ c. few c.before.before.before) (λ c. sym (front_of c.before.before.before.before)) read-by-roles-requires (λ c. search rules) (λ c. search rules))
