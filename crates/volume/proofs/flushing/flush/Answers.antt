use Rattle.tables.specs.laws.TablesFrame.{lengths_are}
use Rattle.tables.specs.laws.Made.{Made}
use Rattle.tables.specs.meaning.Basics.{pick}
use Rattle.tables.specs.meaning.Drives.{find_below}
use Rattle.tables.specs.meaning.Tables.{tables_of}
use Rattle.tables.specs.meaning.Geometry.{max_zones}
use Prim.Native.Nat.{ℕ, suc, ◌+◌}
use mathlib.Core.Path.{◌≡◌, sym, ap, subst, ◌∙◌}
use mathlib.Core.Bool.{Bool, not}
use mathlib.Core.List.{List}
use native.Mathlib.Omega.{arith}
use lib.ListN.{length}
use lib.Dec.{eqb}
use Rattle.volume.specs.declared.State.{State}
use Rattle.volume.specs.declared.Outcome.{Outcome}
use Rattle.volume.specs.declared.Answer.TheVariants.{Finished, Unfinished, Refused}
use Rattle.volume.specs.meaning.State.{call_present}
use Rattle.volume.specs.meaning.Calls.{flush_stores, flush_state}
use Rattle.volume.specs.meaning.Answers.{lost_in}
use Rattle.volume.specs.meaning.CallContracts.{is_set, view_state, verdict_number, flush_on, flush_verdict, state_held}
use Rattle.volume.specs.laws.CallContracts.{storing_refused, storing_ends}
use Rattle.volume.specs.laws.StateHeld.{Sixteen, held_lost}
use Rattle.volume.specs.checks.CheckLaws.{opening_is, tested, present_is, left_out_is, none_opening, opened_by}
use Rattle.volume.specs.storing.Flushing.{flush_refusal}
use borrow.Author.Rules.{rules}
use Rattle.volume.specs.checks.RefusalNumbers.{refusal_not_none}
use Rattle.volume.proofs.flushing.flush.Goals as goal

pub opening-requires : goal.opening-requires
opening-requires c = tested _ c.args.state _ c.input_within-within.ensures

pub returns-in-Err : goal.returns-in-Err
unfolding flush_on
returns-in-Err c =
    let a = c.args in
    let t = tables_of a.sectors.now a.written.now a.durable.now in
    let stores = flush_stores a.g (call_present a.g (is_set a.named) (view_state a.state)) in
    let next = state_held max_zones (flush_state (lost_in a.g (is_set a.named) (view_state a.state)) (view_state a.state)) in
    let e = c.in-Err.ensures ∙ opening_is a.g a.named a.state c.input_within-within.result 0 0 (length a.sectors.now) a.written.now a.durable.now c.input_within-within.ensures ∙ flush_refusal a.g a.named a.state a.sectors.now a.written.now a.durable.now in
    let (p, q) = storing_refused a.g (verdict_number (flush_verdict a.g a.named a.state t)) stores next a.state a.count t (λ k. refusal_not_none c.in-Err.refusal (e ∙ k)) in
    (c.refused.ensures ∙ ap (λ (k : ℕ). record { answer = Refused k; state = a.state }) e ∙ sym p, sym q)

pub present_drives-here-requires : goal.present_drives-here-requires
present_drives-here-requires c = let a = c.args in (opened_by a.g a.named a.state c.input_within-within.result 0 0 (length a.sectors.now) a.written.now a.durable.now c.input_within-within.ensures (c.in_default.ensures)).valid

pub flush_all-rest-requires-clause-valid : goal.flush_all-rest-requires-clause-valid
flush_all-rest-requires-clause-valid c = let a = c.args in (opened_by a.g a.named a.state c.input_within-within.result 0 0 (length a.sectors.now) a.written.now a.durable.now c.input_within-within.ensures (c.in_default.ensures)).valid

pub flush_all-rest-requires-clause-written_len : goal.flush_all-rest-requires-clause-written_len
flush_all-rest-requires-clause-written_len c =
    let a = c.args in
    let o = opened_by a.g a.named a.state c.input_within-within.result 0 0 (length a.sectors.now) a.written.now a.durable.now c.input_within-within.ensures (c.in_default.ensures) in
    let l = lengths_are a.g (length a.sectors.now) (length a.written.now) (length a.durable.now) o.lengths in
    (l.1, l.2)

pub left_out-x-requires : goal.left_out-x-requires
left_out-x-requires c = let a = c.args in (opened_by a.g a.named a.state c.input_within-within.result 0 0 (length a.sectors.now) a.written.now a.durable.now c.input_within-within.ensures (c.in_default.ensures)).valid

-- what flush_all made, as the call's stores
made : (c : goal.After-ended) → let a = c.args in let t = tables_of a.sectors.now a.written.now a.durable.now in
    Made a.g (suc a.count) c.flush_all-rest.result (flush_stores a.g (call_present a.g (is_set a.named) (view_state a.state))) t (tables_of a.sectors.now a.written.now c.flush_all-rest.new.durable)
made c =
    let a = c.args in
    let t = tables_of a.sectors.now a.written.now a.durable.now in
    let left = tables_of a.sectors.now a.written.now c.flush_all-rest.new.durable in
    let h : is_set c.present_drives-here.result ≡ call_present a.g (is_set a.named) (view_state a.state) = ap is_set c.present_drives-here.ensures ∙ present_is a.g a.named a.state in
    let b : a.count + 1 ≡ suc a.count = omega arith in
    subst (λ (l : ℕ). Made a.g l c.flush_all-rest.result (flush_stores a.g (call_present a.g (is_set a.named) (view_state a.state))) t left) b
    (subst (λ (p : ℕ → Bool). Made a.g (a.count + 1) c.flush_all-rest.result (flush_stores a.g p) t left) h (c.flush_all-rest.ensures.made a.sectors.now))

pub returns : goal.returns
unfolding flush_on
returns c =
    let a = c.args in
    let t = tables_of a.sectors.now a.written.now a.durable.now in
    let stores = flush_stores a.g (call_present a.g (is_set a.named) (view_state a.state)) in
    let next : ℕ → State = λ x. state_held max_zones (flush_state x (view_state a.state)) in
    let n = sym (flush_refusal a.g a.named a.state a.sectors.now a.written.now a.durable.now) ∙ none_opening a.g a.named a.state c.input_within-within.result 0 0 (length a.sectors.now) a.written.now a.durable.now c.input_within-within.ensures (c.in_default.ensures) in
    let x : c.left_out-x.result ≡ lost_in a.g (is_set a.named) (view_state a.state) =
    c.left_out-x.ensures ∙ ap (λ (h : List Bool). find_below (λ (d : ℕ). not (is_set h d)) a.g.drives) c.present_drives-here.ensures ∙ left_out_is a.g a.named a.state in
    let ending : State → Outcome = λ y. pick (eqb c.flush_all-rest.result 0) (record { answer = Unfinished; state = a.state }) (record { answer = Finished; state = y }) in
    let (p, q) = storing_ends a.g (verdict_number (flush_verdict a.g a.named a.state t)) stores (next (lost_in a.g (is_set a.named) (view_state a.state))) a.state a.count t c.flush_all-rest.result
    (tables_of a.sectors.now a.written.now c.flush_all-rest.new.durable) n (made c) in
    let long : Sixteen a.state = record { records = search rules; shares = search rules } in
    (c.ended.ensures ∙ ap ending (held_lost a.state c.left_out-x.result long ∙ ap next x) ∙ p, q)
