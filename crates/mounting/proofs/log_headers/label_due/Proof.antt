use mathlib.Core.Path.{refl}
use Rattle.mounting.specs.MountHeaders.{label_due, seen_heads}
use borrow.Author.Rules.{rules}
use Rattle.mounting.proofs.log_headers.label_due.Statement.{statement}
use Rattle.mounting.proofs.log_headers.label_due.Tie as tie

returns : tie.Need-returns
unfolding label_due
returns c =
    let s = c.before.before.before.before in
    let a = s.args in
    rw (c.last_lost-last.ensures.0, c.sectors_then-n.ensures.0, seen_heads a.basis.geometry a.sectors.now a.pointers.now a.drive s.requires.1.0) refl

pub label_due_spec : {M : Type 1} → statement M
label_due_spec = tie.close (tie.spec (λ c κs. search rules) (λ c κs. search rules) returns)
