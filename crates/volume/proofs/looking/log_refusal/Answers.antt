use mathlib.Core.Path.{◌≡◌, sym, ap, subst, ◌∙◌}
use mathlib.Core.Bool.{Bool, not}
use Prim.Native.Nat.{ℕ, ◌≤◌, ◌<◌}
use Rattle.tables.specs.meaning.Below.{count_below}
use Rattle.volume.specs.meaning.CallContracts.{is_set}
use Rattle.volume.specs.meaning.Refusals.{bad_logs}
use Rattle.volume.specs.laws.BadPlaces.{is_bad_place, first_is_bad}
use Rattle.tables.specs.meaning.Tables.{zone_place}
use borrow.Author.Tests.{eq-eqb, ne_eqb}
use Rattle.volume.specs.looking.Looking.{logs_4, logs_5_kind, logs_5, logs_6, logs_0}
use Rattle.volume.specs.looking.Knowing.{read_device}
use mathlib.Core.List.{List}
use Rattle.tables.specs.declared.Geometry.{Geometry}
use Rattle.tables.specs.meaning.Device.{Device}
use Rattle.volume.specs.declared.BadPlace.{BadPlace}
use Rattle.volume.specs.meaning.Refusals.{first_bad_place}
use Rattle.volume.proofs.looking.log_refusal.Goals as goal

-- at most one drive is lost
one : (a : ℕ) (here : List Bool) (n : ℕ) → n ≡ count_below (λ (d : ℕ). not (is_set here d)) a → n ≤ 1 → count_below (λ (d : ℕ). not (is_set here d)) a ≤ 1
one a here n e h = subst (λ (m : ℕ). m ≤ 1) e h

-- whether a log is bad, by the first bad place
told : (g : Geometry) (here : List Bool) (v : Device) (bad : BadPlace) → bad ≡ first_bad_place g (is_set here) (zone_place g) v → bad_logs g (is_set here) v ≡ is_bad_place bad
told g here v bad e = sym (first_is_bad g v (is_set here) (zone_place g)) ∙ ap is_bad_place (sym e)

pub returns-then-count_absent-gt1 : goal.returns-then-count_absent-gt1
returns-then-count_absent-gt1 c =
    let a = c.args in
    let h : 1 < c.count_absent.result = c.if-count_absent-gt1.true in
    logs_4 a.places a.here (read_device a.places.geometry a.sectors.now a.written.now) (rw c.count_absent.ensures at h)

pub returns-then-kind_lacks : goal.returns-then-kind_lacks
returns-then-kind_lacks c =
    let a = c.args in
    logs_5_kind a.places a.here (read_device a.places.geometry a.sectors.now a.written.now) (one _ a.here _ c.count_absent.ensures c.if-count_absent-gt1.false) (sym c.kind_lacks.ensures ∙ c.if-kind_lacks.true)

pub returns-then-labels_bad : goal.returns-then-labels_bad
returns-then-labels_bad c =
    let a = c.args in
    logs_5 a.places a.here (read_device a.places.geometry a.sectors.now a.written.now) (one _ a.here _ c.count_absent.ensures c.if-count_absent-gt1.false) (sym c.kind_lacks.ensures ∙ c.if-kind_lacks.false) (sym c.labels_bad.ensures ∙ c.if-labels_bad.true)

pub returns-then-bad-ne0 : goal.returns-then-bad-ne0
returns-then-bad-ne0 c =
    let a = c.args in
    let v = read_device a.places.geometry a.sectors.now a.written.now in
    logs_6 a.places a.here v (one _ a.here _ c.count_absent.ensures c.if-count_absent-gt1.false) (sym c.kind_lacks.ensures ∙ c.if-kind_lacks.false) (sym c.labels_bad.ensures ∙ c.if-labels_bad.false)
    (told a.places.geometry a.here v a.bad c.requires.sized.1 ∙ ap not (ne_eqb a.bad.number 0 c.if-bad-ne0.true))

pub returns : goal.returns
returns c =
    let a = c.args in
    let v = read_device a.places.geometry a.sectors.now a.written.now in
    logs_0 a.places a.here v (one _ a.here _ c.count_absent.ensures c.if-count_absent-gt1.false) (sym c.kind_lacks.ensures ∙ c.if-kind_lacks.false) (sym c.labels_bad.ensures ∙ c.if-labels_bad.false)
    (told a.places.geometry a.here v a.bad c.requires.sized.1 ∙ ap not (eq-eqb a.bad.number 0 c.if-bad-ne0.false))
