use Prim.Native.Nat.{ℕ, ◌+◌, ◌*◌}
use mathlib.Core.Path.{sym, ◌∙◌}
use native.Mathlib.Omega.{arith}
use borrow.Author.Rules.{rules}
use Rattle.volume.specs.laws.StateHeld.{records_at, records_past}
use Rattle.zrv.specs.meaning.Bytes.{record_from, state_from}
use Rattle.zrv.proofs.state.record_at.Statement.{statement}
use Rattle.zrv.proofs.state.record_at.Tie as tie

returns : tie.Need-returns-then-n-z
unfolding state_from
returns c = let a = c.args in c.blank_record.ensures ∙ sym (records_past (λ (y : ℕ). record_from a.bytes.now (8 + 16 * y)) a.g.zones a.z (omega arith))

returns-2 : tie.Need-returns
unfolding state_from
returns-2 c =
    let a = c.args in
    c.record_from.ensures ∙ sym (records_at (λ (y : ℕ). record_from a.bytes.now (8 + 16 * y)) a.g.zones a.z (omega arith))

pub record_at_spec : {M : Type 1} → statement M
record_at_spec = tie.close (tie.spec (λ c κs. search rules) returns (λ c. search rules) (λ c. search rules) (λ c κs. search rules) returns-2)
