use mathlib.Core.Path.{◌∙◌, refl, sym, ap}
use Prim.Native.Nat.{◌+◌, ◌*◌, ◌<◌}
use native.Mathlib.Omega.{arith}
use Rattle.volume.specs.looking.DriveLogs.{end_small}
use Rattle.logs.specs.declared.Found.{Found}
use Rattle.volume.specs.looking.Knowing.{end_seen}
use borrow.Author.Rules.{rules}
use Rattle.volume.proofs.knowing.end_of.Statement.{statement}
use Rattle.volume.proofs.knowing.end_of.Tie as tie

-- the entry's numbers are small
small : (c : tie.In-Partial) → (c.in-Partial.s * c.stripe_sectors-k.result < 458752) × (c.in-Partial.s * c.stripe_sectors-k.result + c.in-Partial.fill < 458864)
small c = let s = c.before.before in let k = c.stripe_sectors-k in end_small s.args.g s.requires.0 k.result _ _ _ _ k.ensures.0 s.args.f c.in-Partial.is s.requires.1

returns-5 : tie.Need-returns-in-Partial
returns-5 c = let a = c.args in rw c.stripe_sectors-k.ensures.0 refl ∙ sym (ap (λ (f : Found). end_seen a.g f) c.in-Partial.is)

pub end_of_spec : {M : Type 1} → statement M
end_of_spec =
    tie.close
    (tie.spec (λ c κs. search rules) (λ c. search rules) (λ c. search rules) (λ c. search rules) (λ c. search rules) (λ c. search rules) (λ c. omega (arith, (small c).0))
    (λ c. omega (arith, (small c).1)) (λ c. search rules) (λ c. search rules) (λ c. search rules) (λ c. search rules) (λ c. search rules) (λ c. search rules) returns-5
    (λ c. search rules) (λ c. search rules))
