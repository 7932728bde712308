use mathlib.Core.Path.{refl, ◌∙◌}
use native.Mathlib.Omega.{arith}
use borrow.Author.Rules.{rules}
use Rattle.volume.proofs.emptying.write_seal_copy.Statement.{statement}
use Rattle.volume.proofs.emptying.write_seal_copy.Tie as tie

write-seal-requires : tie.Need-write_seal-requires
write-seal-requires c κs =
    let s = c.before.before.before.before.before in
    (s.requires.0, (s.requires.1.1, s.requires.1.2, omega (arith, c.least_seal-pointer.ensures.1, c.zone_sectors-most.ensures.0)))

returns : tie.Need-returns
returns c =
    let w = c.before.before in
    let l = w.before.before in
    w.write_seal.ensures ∙ rw (l.least_seal-pointer.ensures.0, l.zone_sectors-most.ensures.0) refl

pub write_seal_copy_spec : {M : Type 1} → statement M
write_seal_copy_spec = tie.close (tie.spec (λ c κs. search rules) (λ c κs. search rules) write-seal-requires (λ c. search rules) returns)
