use mathlib.Core.Path.{◌∙◌, ap}
use Prim.Native.Nat.{ℕ}
use Rattle.zrv.specs.meaning.Bytes.{table_from}
use borrow.Author.Rules.{rules}
use Rattle.zrv.proofs.words.tables_from.Statement.{statement}
use Rattle.zrv.proofs.words.tables_from.Tie as tie

returns : tie.Need-returns
returns c =
    let s = c.before.before.before.before.before.before.before.before.before.before.before.before in (
      c.table_from.ensures ∙ ap (λ (n : ℕ). table_from n s.args.written.now) s.requires.scratch_written,
      c.table_from-2.ensures ∙ ap (λ (n : ℕ). table_from n s.args.durable.now) s.requires.scratch_durable,
    )

pub tables_from_spec : {M : Type 1} → statement M
tables_from_spec =
    tie.close
    (tie.spec (λ c κs. search rules) (λ c κs. search rules) (λ c. search rules) (λ c. search rules) returns)
