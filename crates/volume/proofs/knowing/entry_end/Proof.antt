use mathlib.Core.Path.{◌≡◌, ap, ◌∙◌}
use mathlib.Core.Bool.{true}
use mathlib.Core.List.{List, []}
use Prim.Native.Nat.{ℕ, ◌-◌}
use native.Mathlib.Omega.{arith}
use Rattle.tables.specs.laws.Below.{get_d_tabulate}
use Rattle.tables.specs.meaning.Tables.{sector_at}
use Rattle.logs.specs.declared.Found.{Found}
use Rattle.logs.specs.meaning.Entry.{parity_zone, decode}
use Rattle.logs.specs.code.Judge.{found}
use Rattle.volume.specs.looking.Knowing.{end_seen, entry_end}
use borrow.Author.Rules.{rules}
use Rattle.volume.proofs.knowing.entry_end.Statement.{statement}
use Rattle.volume.proofs.knowing.entry_end.Tie as tie

sub-judge-at : tie.Need-overflow_sub-place
sub-judge-at c = search rules

judge-at-requires : tie.Need-judge_at-f-requires
judge-at-requires c κs = search rules

header : (c : tie.After-judge_at-f) → c.judge_at-f.result ≡ found (decode c.args.g c.args.d true (sector_at c.args.g c.args.sectors.now c.args.d parity_zone (c.args.place - 1)))
header c =
    let s = c.before.before in
    let a = s.args in
    c.judge_at-f.ensures ∙ ap (λ (l : List ℕ). found (decode a.g a.d true l)) (get_d_tabulate (λ i. sector_at a.g a.sectors.now a.d parity_zone i) a.g.capacity (a.place - 1) [] (omega (arith, s.requires.1.2, s.requires.1.3)))

end-of-requires : tie.Need-end_of-requires
end-of-requires c κs = (c.requires.0, rw (header c) c.requires.1.4)

returns : tie.Need-returns
unfolding entry_end
returns c = c.end_of.ensures ∙ ap (λ (f : Found). end_seen c.args.g f) (header c.before)

pub entry_end_spec : {M : Type 1} → statement M
entry_end_spec = tie.close (tie.spec sub-judge-at judge-at-requires end-of-requires returns)
