use Prim.Native.Nat.{ℕ, suc, ◌+◌, ◌<◌}
use mathlib.Core.Path.{◌≡◌, sym, ap, ap₂, subst, ◌∙◌}
use mathlib.Core.Bool.{Bool, not}
use mathlib.Core.List.{List}
use native.Mathlib.Omega.{arith}
use lib.ListN.{length}
use lib.Dec.{eqb}
use Rattle.tables.specs.meaning.Basics.{pick}
use Rattle.tables.specs.meaning.Device.{Store}
use Rattle.tables.specs.meaning.Tables.{tables_of}
use Rattle.tables.specs.laws.Made.{Made}
use Rattle.tables.specs.laws.TablesFrame.{lengths_are}
use Rattle.volume.specs.declared.State.{State}
use Rattle.volume.specs.declared.Outcome.{Outcome}
use Rattle.volume.specs.declared.Answer.TheVariants.{Finished, Unfinished, Refused}
use Rattle.volume.specs.meaning.Calls.{format_stores, format_state}
use Rattle.volume.specs.meaning.State.{with_shares}
use Rattle.volume.specs.meaning.Hosts.{fresh_shares}
use Rattle.volume.specs.meaning.Answers.{left_out, named_drives}
use Rattle.volume.specs.meaning.CallContracts.{is_set, verdict_number, format_on, format_verdict, state_held}
use Rattle.volume.specs.laws.CallContracts.{storing_refused, storing_ends}
use Rattle.volume.specs.storing.Formatting.{format_refusal, format_accepted, named_is, left_out_named, find_small}
use Rattle.volume.specs.checks.RefusalNumbers.{refusal_not_none}
use Rattle.volume.proofs.formatting.format.Goals as goal

pub returns-in-Err : goal.returns-in-Err
unfolding format_on
returns-in-Err c =
    let a = c.args in
    let t = tables_of a.sectors.now a.written.now a.durable.now in
    let e = c.in-Err.ensures ∙ format_refusal a.g a.named a.sectors.now a.written.now a.durable.now in
    let stores = format_stores a.g (named_drives a.g (is_set a.named)) (left_out a.g (is_set a.named)) a.array in
    let next = state_held a.g.zones (with_shares (fresh_shares a.g (named_drives a.g (is_set a.named))) (format_state (left_out a.g (is_set a.named)))) in
    let (p, q) = storing_refused a.g (verdict_number (format_verdict a.g a.named t)) stores next a.old a.count t (λ k. refusal_not_none c.in-Err.refusal (e ∙ k)) in
    (c.refused.ensures ∙ ap (λ (k : ℕ). record { answer = Refused k; state = a.old }) e ∙ sym p, sym q)

pub present_drives-here-requires : goal.present_drives-here-requires
present_drives-here-requires c = let a = c.args in (format_accepted a.g a.named (length a.sectors.now) a.written.now a.durable.now (sym (c.in_default.ensures))).0

pub left_out-lost-requires : goal.left_out-lost-requires
left_out-lost-requires c = let a = c.args in (format_accepted a.g a.named (length a.sectors.now) a.written.now a.durable.now (sym (c.in_default.ensures))).0

pub format_stores-rest-requires-clause-valid : goal.format_stores-rest-requires-clause-valid
format_stores-rest-requires-clause-valid c = let a = c.args in (format_accepted a.g a.named (length a.sectors.now) a.written.now a.durable.now (sym (c.in_default.ensures))).0

pub format_stores-rest-requires-clause-lost_bound : goal.format_stores-rest-requires-clause-lost_bound
format_stores-rest-requires-clause-lost_bound c =
    let a = c.args in
    let (v, f) = format_accepted a.g a.named (length a.sectors.now) a.written.now a.durable.now (sym (c.in_default.ensures)) in
    let l = lengths_are a.g (length a.sectors.now) (length a.written.now) (length a.durable.now) f in
    let x = find_small (λ d. not (is_set a.named d)) a.g.drives (omega (arith, v.drives_most)) in
    (subst (λ (n : ℕ). n < 256) (sym c.left_out-lost.ensures) x, l.0, l.1, l.2)

pub fresh_state-state-requires : goal.fresh_state-state-requires
fresh_state-state-requires c = let a = c.args in (format_accepted a.g a.named (length a.sectors.now) a.written.now a.durable.now (sym (c.in_default.ensures))).0

here-is : (c : goal.After-ended) → let a = c.args in is_set c.present_drives-here.result ≡ named_drives a.g (is_set a.named)
here-is c = let a = c.args in ap is_set c.present_drives-here.ensures ∙ named_is a.g a.named (format_accepted a.g a.named (length a.sectors.now) a.written.now a.durable.now (sym (c.in_default.ensures))).0

lost-is : (c : goal.After-ended) → c.left_out-lost.result ≡ left_out c.args.g (is_set c.args.named)
lost-is c = c.left_out-lost.ensures ∙ left_out_named c.args.g c.args.named

-- what was made, as the call's stores
made : (c : goal.After-ended) → let a = c.args in Made a.g (suc a.count) c.format_stores-rest.result (format_stores a.g (named_drives a.g (is_set a.named)) (left_out a.g (is_set a.named)) a.array)
    (tables_of a.sectors.now a.written.now a.durable.now) (tables_of c.format_stores-rest.new.sectors c.format_stores-rest.new.written c.format_stores-rest.new.durable)
made c =
    let a = c.args in
    let f = c.format_stores-rest in
    let t = tables_of a.sectors.now a.written.now a.durable.now in
    let left = tables_of f.new.sectors f.new.written f.new.durable in
    let e = ap₂ (λ (p : ℕ → Bool) (x : ℕ). format_stores a.g p x a.array) (here-is c) (lost-is c) in
    let b : a.count + 1 ≡ suc a.count = omega arith in
    subst (λ (l : ℕ). Made a.g l f.result (format_stores a.g (named_drives a.g (is_set a.named)) (left_out a.g (is_set a.named)) a.array) t left) b
    (subst (λ (ss : List Store). Made a.g (a.count + 1) f.result ss t left) e f.ensures)

pub returns : goal.returns
unfolding format_on
returns c =
    let a = c.args in
    let f = c.format_stores-rest in
    let t = tables_of a.sectors.now a.written.now a.durable.now in
    let n = sym (c.in_default.ensures ∙ format_refusal a.g a.named a.sectors.now a.written.now a.durable.now) in
    let next = state_held a.g.zones (with_shares (fresh_shares a.g (named_drives a.g (is_set a.named))) (format_state (left_out a.g (is_set a.named)))) in
    let state : c.fresh_state-state.result ≡ next = c.fresh_state-state.ensures ∙ ap₂ (λ (p : ℕ → Bool) (y : ℕ). state_held a.g.zones (with_shares (fresh_shares a.g p) (format_state y))) (here-is c) (lost-is c) in
    let ending : State → Outcome = λ y. pick (eqb f.result 0) (record { answer = Unfinished; state = a.old }) (record { answer = Finished; state = y }) in
    let (p, q) = storing_ends a.g (verdict_number (format_verdict a.g a.named t)) (format_stores a.g (named_drives a.g (is_set a.named)) (left_out a.g (is_set a.named)) a.array) next a.old a.count t f.result
    (tables_of f.new.sectors f.new.written f.new.durable) n (made c) in
    (c.ended.ensures ∙ ap ending state ∙ p, q)
