use mathlib.Core.Path.{ap, ◌∙◌}
use Prim.Native.Nat.{ℕ}
use mathlib.Core.List.{List}
use Rattle.volume.specs.meaning.Roles.{roles}
use Rattle.volume.specs.laws.LogPlaces.{logs_of, valid_with_logs}
use Rattle.volume.specs.looking.HiddenLogs.{hidden_by_roles}
use Rattle.volume.specs.looking.Knowing.{read_device}
use borrow.Author.Rules.{rules}
use Rattle.volume.proofs.roles.see_by_roles.Statement.{statement}
use Rattle.volume.proofs.roles.see_by_roles.Tie as tie

hide-lacking-requires : tie.Need-hide_lacking-requires
hide-lacking-requires c κs =
    let s = c.before.before.before.before.before in
    let a = s.args in
    rw c.place_logs-places.ensures (valid_with_logs a.g (logs_of (roles a.g (read_device a.g a.sectors.now a.written.now)) a.g.drives) s.requires.0, (s.requires.1.0.written_long, s.requires.1.1))

returns : tie.Need-returns
returns c =
    let s = c.before.before.before.before.before.before.before.before in
    let a = s.args in
    let p = c.place_logs-places in (
      p.ensures,
      ap (λ (ws : List ℕ). read_device p.result.geometry a.sectors.now ws) c.hide_lacking.ensures
          ∙ hidden_by_roles a.g s.requires.1.2 a.sectors.now a.written.now s.requires.1.0 p.result p.ensures,
      c.hide_lacking.ensures,
    )

pub see_by_roles_spec : {M : Type 1} → statement M
see_by_roles_spec = tie.close (tie.spec (λ c κs. search rules) hide-lacking-requires (λ c. search rules) returns)
