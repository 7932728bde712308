use mathlib.Core.Path.{◌≡◌, sym, ap, subst, ◌∙◌}
use mathlib.Core.List.{List, ◌++◌}
use Prim.Native.Nat.{ℕ}
use lib.ListN.{length, take, drop, replicate}
use lib.Seq.{take_at}
use Rattle.tables.specs.meaning.Tables.{tables_of}
use Rattle.volume.specs.meaning.CallContracts.{Result}
use Rattle.volume.specs.checks.Logging.{front_fits, front_long}
use Rattle.volume.specs.checks.LogRoom.{SeenByRoles}
use Rattle.volume.specs.looking.SeenByRoles.{seen_long}
use Rattle.volume.specs.looking.Looking.{Lookable, shape_number, shaped, shaped_first, shaped_front}
use Rattle.volume.specs.looking.Surveying.{survey_lookable, Surveyed}
use Rattle.mounting.specs.MountPlan.{Planning, PlanMade}
use Rattle.mounting.specs.MountRooms.{Planned}
use Rattle.mounting.specs.Mounting.{refused_shape, refused_logs, refused_full, mount_goes_on}
use Rattle.volume.specs.meaning.RefusalNumbers.{number_of, refusal_number}
use Rattle.volume.specs.checks.RefusalNumbers.{refusal_not_none}
use mathlib.Core.Bool.{Bool}
use Rattle.tables.specs.declared.Geometry.{Geometry}
use Rattle.volume.specs.declared.looking.Survey.{Survey}
use Rattle.volume.specs.meaning.Answers.{refused_at}
use Rattle.mounting.specs.declared.rooms.Plan.{Plan}
use Rattle.mounting.proofs.mount.mount.Goals as goal

pub returns-in-Err : goal.returns-in-Err
returns-in-Err c =
    let a = c.args in
    let (p, q) = refused_shape a.g a.named a.old a.count (tables_of a.sectors.now a.written.now a.durable.now) (refusal_number c.in-Err.refusal) c.in-Err.ensures (refusal_not_none _) in
    (c.refused.ensures ∙ p, q)

-- ---- the survey, with an array for the pointers
pub slice_bounds-pointers-end : goal.slice_bounds-pointers-end
slice_bounds-pointers-end c = let a = c.args in (shaped_front a.g a.named (length a.sectors.now) a.written.now a.durable.now (sym c.in_default.ensures)).0

pub slice_bounds-survey_drives-end : goal.slice_bounds-survey_drives-end
slice_bounds-survey_drives-end c = let a = c.args in sym (shaped_front a.g a.named (length a.sectors.now) a.written.now a.durable.now (sym c.in_default.ensures)).1

pub survey_drives-found-requires-clause-valid : goal.survey_drives-found-requires-clause-valid
survey_drives-found-requires-clause-valid c = let a = c.args in (shaped a.g a.named (length a.sectors.now) a.written.now a.durable.now (sym c.in_default.ensures)).0

pub survey_drives-found-requires-clause-sized : goal.survey_drives-found-requires-clause-sized
survey_drives-found-requires-clause-sized c =
    let a = c.args in
    let (ok, x, y, z) = shaped a.g a.named (length a.sectors.now) a.written.now a.durable.now (sym c.in_default.ensures) in
    (record { sectors_long = x; written_long = y }, (shaped_front a.g a.named (length a.sectors.now) a.written.now a.durable.now (sym c.in_default.ensures)).1 ∙ y, shaped_first a.g a.named (length a.sectors.now) a.written.now a.durable.now (sym c.in_default.ensures))

-- the pointers that it leaves, in the array
front_kept : (ps : List ℕ) (n : ℕ) → length ps ≡ n → take n (ps ++ drop n (replicate 152 0)) ≡ ps
front_kept ps n e = take_at ps (drop n (replicate 152 0)) n e

-- ---- refusals 4 to 6
pub returns-in-Err-refusal : goal.returns-in-Err-refusal
returns-in-Err-refusal c =
    let a = c.args in
    let v = c.survey_drives-found in
    let r = c.in-Err-refusal in
    let told = ap number_of r.is in
    let (p, q) = refused_logs a.g a.named a.old a.count (tables_of a.sectors.now a.written.now a.durable.now) v.result v.new.pointers (sym c.in_default.ensures) v.ensures (λ k. refusal_not_none r.refusal (sym told ∙ k)) in
    (c.refused_at.ensures ∙ ap (λ (n : ℕ). record { answer = refused_at v.result.bad n; state = a.old }) (sym told) ∙ p, q)

pub slice_bounds-pointers-end-2 : goal.slice_bounds-pointers-end-2
slice_bounds-pointers-end-2 c = let a = c.args in let v = c.survey_drives-found in front_fits (length a.written.now) v.new.pointers (drop (length a.written.now) (replicate 152 0)) (seen_long a.g a.sectors.now a.written.now v.result.places v.new.pointers v.ensures.seen ∙ sym (shaped a.g a.named (length a.sectors.now) a.written.now a.durable.now (sym c.in_default.ensures)).2)

pub slice_bounds-plan_mount-end : goal.slice_bounds-plan_mount-end
slice_bounds-plan_mount-end c = let a = c.args in let v = c.survey_drives-found in front_long (length a.written.now) v.new.pointers (drop (length a.written.now) (replicate 152 0)) (seen_long a.g a.sectors.now a.written.now v.result.places v.new.pointers v.ensures.seen ∙ sym (shaped a.g a.named (length a.sectors.now) a.written.now a.durable.now (sym c.in_default.ensures)).2)

-- ---- the plan
pub plan_mount-plan-requires-clause-valid : goal.plan_mount-plan-requires-clause-valid
plan_mount-plan-requires-clause-valid c = let a = c.args in (shaped a.g a.named (length a.sectors.now) a.written.now a.durable.now (sym c.in_default.ensures)).0

pub plan_mount-plan-requires-clause-seen_by_roles : goal.plan_mount-plan-requires-clause-seen_by_roles
plan_mount-plan-requires-clause-seen_by_roles c =
    let a = c.args in
    let v = c.survey_drives-found in
    let s = v.ensures.seen in
    subst (λ (ps : List ℕ). SeenByRoles a.g v.result.places a.sectors.now a.written.now ps × Lookable v.result.places.geometry v.result.here a.sectors.now ps) (sym (front_kept v.new.pointers (length a.written.now) (seen_long a.g a.sectors.now a.written.now v.result.places v.new.pointers v.ensures.seen ∙ sym (shaped a.g a.named (length a.sectors.now) a.written.now a.durable.now (sym c.in_default.ensures)).2))) (
      record { sized = s.sized; logs_first = s.first; places_are = s.places; hidden = s.hidden },
      survey_lookable a.g a.named a.sectors.now a.written.now v.result v.new.pointers v.ensures a.durable.now (sym c.in_default.ensures),
    )

-- of a survey that refuses nothing
planning : (g : Geometry) (named : List Bool) (xs ws ds : List ℕ) (v : Survey) (ps : List ℕ) (p : Plan) (shape : shape_number g named (length xs) ws ds ≡ 0) (found : Surveyed g named xs ws v ps) (none : number_of v.refusal ≡ 0)
    (long : length ps ≡ length ws) → PlanMade g v xs ws (take (length ws) (ps ++ drop (length ws) (replicate 152 0))) p → Planning g (tables_of xs ws ds) v p ps
planning g named xs ws ds v ps p shape found none long made =
    let m = subst (λ (l : List ℕ). PlanMade g v xs ws l p) (front_kept ps (length ws) long) made in
    m.planning named ds (record { shape = shape; found = found; none = none })

-- ---- refusal 14
pub returns-then-plan : goal.returns-then-plan
returns-then-plan c =
    let a = c.args in
    let v = c.survey_drives-found in
    let (x, y) = refused_full a.g a.named a.old a.count (tables_of a.sectors.now a.written.now a.durable.now) v.result v.new.pointers (sym c.in_default.ensures) v.ensures (ap number_of c.in_default-refusal.is) c.plan_mount-plan.result (planning a.g a.named a.sectors.now a.written.now a.durable.now v.result v.new.pointers c.plan_mount-plan.result (sym c.in_default.ensures) v.ensures (ap number_of c.in_default-refusal.is) (seen_long a.g a.sectors.now a.written.now v.result.places v.new.pointers v.ensures.seen ∙ sym (shaped a.g a.named (length a.sectors.now) a.written.now a.durable.now (sym c.in_default.ensures)).2) c.plan_mount-plan.ensures) c.if-plan.true in
    (c.refused-then-plan.ensures ∙ x, y)

-- ---- none
pub slice_bounds-pointers-end-3 : goal.slice_bounds-pointers-end-3
slice_bounds-pointers-end-3 c = let a = c.args in let v = c.survey_drives-found in front_fits (length a.written.now) v.new.pointers (drop (length a.written.now) (replicate 152 0)) (seen_long a.g a.sectors.now a.written.now v.result.places v.new.pointers v.ensures.seen ∙ sym (shaped a.g a.named (length a.sectors.now) a.written.now a.durable.now (sym c.in_default.ensures)).2)

pub slice_bounds-mount_planned-end : goal.slice_bounds-mount_planned-end
slice_bounds-mount_planned-end c = let a = c.args in let v = c.survey_drives-found in front_long (length a.written.now) v.new.pointers (drop (length a.written.now) (replicate 152 0)) (seen_long a.g a.sectors.now a.written.now v.result.places v.new.pointers v.ensures.seen ∙ sym (shaped a.g a.named (length a.sectors.now) a.written.now a.durable.now (sym c.in_default.ensures)).2)

pub mount_planned-requires-clause-valid : goal.mount_planned-requires-clause-valid
mount_planned-requires-clause-valid c = let a = c.args in (shaped a.g a.named (length a.sectors.now) a.written.now a.durable.now (sym c.in_default.ensures)).0

pub mount_planned-requires-clause-planned : goal.mount_planned-requires-clause-planned
mount_planned-requires-clause-planned c =
    let a = c.args in
    let v = c.survey_drives-found in
    subst (Planned a.g (tables_of a.sectors.now a.written.now a.durable.now) c.plan_mount-plan.result) (sym (front_kept v.new.pointers (length a.written.now) (seen_long a.g a.sectors.now a.written.now v.result.places v.new.pointers v.ensures.seen ∙ sym (shaped a.g a.named (length a.sectors.now) a.written.now a.durable.now (sym c.in_default.ensures)).2))) ((planning a.g a.named a.sectors.now a.written.now a.durable.now v.result v.new.pointers c.plan_mount-plan.result (sym c.in_default.ensures) v.ensures (ap number_of c.in_default-refusal.is) (seen_long a.g a.sectors.now a.written.now v.result.places v.new.pointers v.ensures.seen ∙ sym (shaped a.g a.named (length a.sectors.now) a.written.now a.durable.now (sym c.in_default.ensures)).2) c.plan_mount-plan.ensures).planned c.if-plan.false)

pub returns : goal.returns
returns c =
    let a = c.args in
    let v = c.survey_drives-found in
    let e = mount_goes_on a.g a.named a.old a.count (tables_of a.sectors.now a.written.now a.durable.now) v.result v.new.pointers (sym c.in_default.ensures) v.ensures (ap number_of c.in_default-refusal.is) c.plan_mount-plan.result (planning a.g a.named a.sectors.now a.written.now a.durable.now v.result v.new.pointers c.plan_mount-plan.result (sym c.in_default.ensures) v.ensures (ap number_of c.in_default-refusal.is) (seen_long a.g a.sectors.now a.written.now v.result.places v.new.pointers v.ensures.seen ∙ sym (shaped a.g a.named (length a.sectors.now) a.written.now a.durable.now (sym c.in_default.ensures)).2) c.plan_mount-plan.ensures) c.if-plan.false in
    (c.mount_planned.ensures.0 ∙ ap (λ (r : Result). r.outcome) e, c.mount_planned.ensures.1 ∙ ap (λ (r : Result). r.tables) e)
