use mathlib.Core.List.{List, []}
use Prim.Native.Nat.{ℕ, ◌<◌}
use lib.ListN.{get_or}
use Rattle.logs.specs.declared.Found.{Found}
use Rattle.logs.specs.meaning.Entry.{decode}
use Rattle.logs.specs.code.Judge.{found}
use Rattle.logs.specs.code.Query.{torn_seen}
use Rattle.logs.specs.meaning.Walk.{Walked, walk_log}
use Rattle.logs.specs.code.WalkCode.{log_sectors}
use mathlib.Core.Path.{◌≡◌, ◌∙◌, sym}
use Rattle.logs.specs.code.Answers.{torn_none, torn_found}
use Rattle.logs.specs.laws.Places.{walk_places}
use Rattle.tables.specs.laws.Below.{length_tabulate}
use borrow.Author.Rules.{rules}
use Rattle.logs.proofs.folds.torn_entry.Statement.{statement}
use Rattle.logs.proofs.folds.torn_entry.Tie as tie

abbrev log : tie.Start → List (List ℕ)
log s = let a = s.args in log_sectors a.g a.log.drive a.log.zone a.sectors.now a.log.written

abbrev walked : tie.Start → Walked
walked s = walk_log s.args.g s.args.log.drive s.args.parity (log s)

abbrev found_at : tie.Start → ℕ → Found
found_at s p = found (decode s.args.g s.args.log.drive s.args.parity (get_or (log s) p []))

returns : tie.Need-returns-in_default
returns c =
    let w = walked c.before.before.before in
    torn_none w.last w.position (λ e. c.in_default.not-Torn w.position (c.walk_log-w.ensures.0 ∙ e))

-- the sector where the walk is left, in the log, and what stands there
torn-there : (c : tie.In-Torn) → (c.in-Torn.p < c.args.log.written)
    × (found_at c.before.before.before c.in-Torn.p ≡ torn_seen (walked c.before.before.before).last)
torn-there c =
    let s = c.before.before.before in
    let a = s.args in
    let w = walked s in
    let t = torn_found a.g a.log.drive a.parity (log s) w.last w.position c.in-Torn.p (walk_places a.g a.log.drive a.parity (log s)).left (sym c.walk_log-w.ensures.0 ∙ c.in-Torn.is) in
    (rw length_tabulate at t.0, t.1)

judge-at-requires : tie.Need-judge_at-requires
judge-at-requires c κs = let s = c.before.before.before in (s.requires.0, (s.requires.1, (torn-there c).0))

returns-2 : tie.Need-returns
returns-2 c = c.judge_at.ensures ∙ (torn-there c.before).1

pub torn_entry_spec : {M : Type 1} → statement M
torn_entry_spec =
    tie.close
    (tie.spec (λ c κs. search rules) (λ c. search rules) returns judge-at-requires returns-2)
