use mathlib.Core.Path.{◌≡◌, sym, ap, subst, ◌∙◌}
use mathlib.Core.List.{List, ◌++◌}
use Prim.Native.Nat.{ℕ, ◌≤◌}
use native.Mathlib.Omega.{arith}
use lib.ListN.{length, take, drop, replicate}
use lib.Seq.{length-take-le, take_at}
use Rattle.tables.specs.meaning.Geometry.{Valid, cells}
use Rattle.tables.specs.laws.Sizes.{cells_small}
use Rattle.volume.specs.declared.BadPlace.{BadPlace}
use Rattle.volume.specs.meaning.Answers.{refused_at}
use Rattle.volume.specs.checks.Logging.{front_fits, front_long}
use Rattle.volume.specs.looking.SeenByRoles.{seen_valid, seen_long}
use Rattle.volume.specs.looking.Looking.{Lookable, shaped, shaped_first, look_refused, look_refused_shape}
use Rattle.volume.specs.looking.ShownState.{state_seen}
use Rattle.volume.specs.looking.Surveying.{survey_below, survey_refusal, survey_bad, survey_lookable, survey_finished}
use Rattle.volume.specs.meaning.RefusalNumbers.{number_of, refusal_number}
use Rattle.volume.specs.checks.RefusalNumbers.{refusal_not_none}
use Rattle.tables.specs.declared.Geometry.{Geometry}
use Rattle.volume.proofs.looking.look.Goals as goal

pub returns-in-Err : goal.returns-in-Err
returns-in-Err c =
    let a = c.args in
    c.refused.ensures ∙ look_refused_shape a.g a.named a.old a.sectors.now a.written.now a.durable.now (refusal_number c.in-Err.refusal) (c.in-Err.ensures) (refusal_not_none _)

-- ---- the survey, with an array for the pointers
few : (g : Geometry) (n : ℕ) → Valid g → n ≡ cells g → n ≤ 152
few g n ok e = omega (arith, e, cells_small g ok)

front_of : (n : ℕ) → n ≤ 152 → length (take n (replicate {A = ℕ} 152 0)) ≡ n
front_of n h = length-take-le n (replicate 152 0) h

-- the pointers that it leaves
front_kept : (ps : List ℕ) (n : ℕ) → length ps ≡ n → take n (ps ++ drop n (replicate 152 0)) ≡ ps
front_kept ps n e = take_at ps (drop n (replicate 152 0)) n e

pub slice_bounds-pointers-end : goal.slice_bounds-pointers-end
slice_bounds-pointers-end c = let a = c.args in let (ok, x, y, z) = shaped a.g a.named (length a.sectors.now) a.written.now a.durable.now (sym (c.in_default.ensures)) in few a.g (length a.written.now) ok y

pub slice_bounds-survey_drives-end : goal.slice_bounds-survey_drives-end
slice_bounds-survey_drives-end c = let a = c.args in let (ok, x, y, z) = shaped a.g a.named (length a.sectors.now) a.written.now a.durable.now (sym (c.in_default.ensures)) in sym (front_of (length a.written.now) (few a.g (length a.written.now) ok y))

pub survey_drives-found-requires-clause-valid : goal.survey_drives-found-requires-clause-valid
survey_drives-found-requires-clause-valid c = let a = c.args in (shaped a.g a.named (length a.sectors.now) a.written.now a.durable.now (sym (c.in_default.ensures))).0

pub survey_drives-found-requires-clause-sized : goal.survey_drives-found-requires-clause-sized
survey_drives-found-requires-clause-sized c =
    let a = c.args in
    let (ok, x, y, z) = shaped a.g a.named (length a.sectors.now) a.written.now a.durable.now (sym (c.in_default.ensures)) in
    (record { sectors_long = x; written_long = y }, front_of (length a.written.now) (few a.g (length a.written.now) ok y) ∙ y, shaped_first a.g a.named (length a.sectors.now) a.written.now a.durable.now (sym (c.in_default.ensures)))

pub returns-in-Err-refusal : goal.returns-in-Err-refusal
returns-in-Err-refusal c =
    let a = c.args in
    let v = c.survey_drives-found in
    let r = c.in-Err-refusal in
    let told = ap number_of r.is in
    c.refused_at.ensures
    ∙ ap (λ (b : BadPlace). record { answer = refused_at b (refusal_number r.refusal); state = a.old }) (survey_bad a.g a.named a.sectors.now a.written.now v.result v.new.pointers v.ensures a.durable.now)
    ∙ look_refused a.g a.named a.old a.sectors.now a.written.now a.durable.now (refusal_number r.refusal)
    (sym told ∙ survey_refusal a.g a.named a.sectors.now a.written.now v.result v.new.pointers v.ensures a.durable.now (sym (c.in_default.ensures))) (refusal_not_none _)

pub slice_bounds-pointers-end-2 : goal.slice_bounds-pointers-end-2
slice_bounds-pointers-end-2 c = let a = c.args in let v = c.survey_drives-found in front_fits (length a.written.now) v.new.pointers (drop (length a.written.now) (replicate 152 0)) (seen_long a.g a.sectors.now a.written.now v.result.places v.new.pointers v.ensures.seen ∙ sym (shaped a.g a.named (length a.sectors.now) a.written.now a.durable.now (sym (c.in_default.ensures))).2)

pub slice_bounds-shown_state-end : goal.slice_bounds-shown_state-end
slice_bounds-shown_state-end c = let a = c.args in let v = c.survey_drives-found in front_long (length a.written.now) v.new.pointers (drop (length a.written.now) (replicate 152 0)) (seen_long a.g a.sectors.now a.written.now v.result.places v.new.pointers v.ensures.seen ∙ sym (shaped a.g a.named (length a.sectors.now) a.written.now a.durable.now (sym (c.in_default.ensures))).2)

pub shown_state-state-requires-clause-valid : goal.shown_state-state-requires-clause-valid
shown_state-state-requires-clause-valid c = let a = c.args in let v = c.survey_drives-found in seen_valid a.g a.sectors.now a.written.now v.result.places v.new.pointers v.ensures.seen (shaped a.g a.named (length a.sectors.now) a.written.now a.durable.now (sym (c.in_default.ensures))).0

pub shown_state-state-requires-clause-lookable : goal.shown_state-state-requires-clause-lookable
shown_state-state-requires-clause-lookable c =
    let a = c.args in
    let v = c.survey_drives-found in
    let ready : Lookable v.result.places.geometry v.result.here a.sectors.now v.new.pointers = survey_lookable a.g a.named a.sectors.now a.written.now v.result v.new.pointers v.ensures a.durable.now (sym (c.in_default.ensures)) in (
      subst (λ (ps : List ℕ). Lookable v.result.places.geometry v.result.here a.sectors.now ps) (sym (front_kept v.new.pointers (length a.written.now) (seen_long a.g a.sectors.now a.written.now v.result.places v.new.pointers v.ensures.seen ∙ sym (shaped a.g a.named (length a.sectors.now) a.written.now a.durable.now (sym (c.in_default.ensures))).2))) ready,
      survey_below a.g a.named a.sectors.now a.written.now v.result v.new.pointers v.ensures a.durable.now,
    )

pub returns : goal.returns
returns c =
    let a = c.args in
    let v = c.survey_drives-found in
    let e = c.shown_state-state.ensures ∙ ap (λ (ps : List ℕ). state_seen v.result.places v.result.here a.sectors.now ps) (front_kept v.new.pointers (length a.written.now) (seen_long a.g a.sectors.now a.written.now v.result.places v.new.pointers v.ensures.seen ∙ sym (shaped a.g a.named (length a.sectors.now) a.written.now a.durable.now (sym (c.in_default.ensures))).2)) in
    survey_finished a.g a.named a.sectors.now a.written.now v.result v.new.pointers v.ensures a.durable.now a.old (sym (c.in_default.ensures)) (ap number_of c.in_default-refusal.is) c.shown_state-state.result e
