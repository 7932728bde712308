use mathlib.Core.Path.{refl}
use mathlib.Core.Bool.{false}
use lib.ListN.{get_or}
use borrow.Author.Tests.{not-true, not-false}
use borrow.Author.Rules.{rules}
use Rattle.volume.proofs.log_room.lacks_room.Statement.{statement}
use Rattle.volume.proofs.log_room.lacks_room.Tie as tie

returns : tie.Need-returns-then-not-asks
returns c = let a = c.args in rw (not-true (get_or a.asked.due a.drive false) c.if-not-asks.true-raw) refl

returns-2 : tie.Need-returns
returns-2 c = let a = c.args in rw (not-false (get_or a.asked.due a.drive false) c.if-not-asks.false-raw, c.unused-left.ensures) refl

pub lacks_room_spec : {M : Type 1} → statement M
lacks_room_spec = tie.close (tie.spec (λ c. search rules) returns (λ c κs. search rules) returns-2)
