use mathlib.Core.Path.{◌≡◌}
use mathlib.Core.Bool.{false}
use native.Mathlib.Omega.{arith}
use Prim.Native.Nat.{ℕ}
use Rattle.tables.specs.meaning.Tables.{moved_zone, unsaid, log_place}
use Rattle.tables.specs.laws.ZonePlaces.{said, log_place_unsaid, log_place_said}
use borrow.Author.Rules.{rules}
use Rattle.tables.proofs.stores.log_place.Statement.{statement}
use Rattle.tables.proofs.stores.log_place.Tie as tie

returns : tie.Need-returns-then-a-b
returns c = let a = c.before.args in log_place_unsaid a.a a.b a.zone c.if-a-b.true

-- past the first test each zone lies where its number n is moved to
lies : (c : tie.Else-a-b) (n : ℕ) → c.before.args.zone ≡ n → moved_zone c.before.args.a c.before.args.b n ≡ log_place c.before.args.a c.before.args.b c.before.args.zone
lies c n e = let a = c.before.args in rw e (log_place_said a.a a.b n c.if-a-b.false)

returns-2 : tie.Need-returns-then-zone-eq0
returns-2 c = lies c.before 0 c.if-zone-eq0.true

returns-3 : tie.Need-returns-then-zone-eq1
returns-3 c = lies c.before.before 1 c.if-zone-eq1.true

add-result : tie.Need-overflow_add-result
add-result c = let s = c.before.before in let k = said s.before.args.a s.before.args.b s.if-a-b.false in record { fits = omega (arith, k.general_in, k.parity_in) }

sub-result : tie.Need-overflow_sub-result
sub-result c = let s = c.before.before in let k = said s.before.args.a s.before.args.b s.if-a-b.false in omega (arith, k.general_in, k.parity_in, k.two)

returns-4 : tie.Need-returns
returns-4 c = lies c.before.before 2 (omega arith)

pub log_place_spec : {M : Type 1} → statement M
log_place_spec = tie.close (tie.spec returns returns-2 returns-3 add-result sub-result returns-4)
