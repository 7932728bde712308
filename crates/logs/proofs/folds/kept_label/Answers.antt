use Rattle.std.proofs.Common.{◌≡◌, ◌≢◌, refl, ℕ, false, sym, ap, ap₂, subst, ◌∙◌}
use Rattle.logs.specs.declared.Found.{Found}
use Rattle.logs.specs.declared.Found.TheVariants.{Bad, Label, Counters, Resets, Partial, Seal, Closing}
use Rattle.logs.specs.code.WalkCode.{log_sectors}
use Rattle.logs.specs.code.Query.{log_heads, first_seen}
use Rattle.logs.specs.code.KeptLabel.{last_label_seen, array_after, relabelled, label_kept, label_fits, LabelFits}
use Rattle.logs.proofs.folds.kept_label.Goals as goal

no_label : (first l : Found) → ((x a : ℕ) → l ≢ Label x a) → relabelled first l ≡ Bad
no_label first Bad n = refl
no_label first (Label x a) n = absurd (n x a refl)
no_label first Counters n = refl
no_label first (Resets z m) n = refl
no_label first (Partial z s v m) n = refl
no_label first (Seal z p m) n = refl
no_label first (Closing gen) n = refl

own_array : (first : Found) (own : ℕ) → ((x a : ℕ) → first ≢ Label x a) → array_after first own ≡ own
own_array Bad own n = refl
own_array (Label x a) own n = absurd (n x a refl)
own_array Counters own n = refl
own_array (Resets z m) own n = refl
own_array (Partial z s v m) own n = refl
own_array (Seal z p m) own n = refl
own_array (Closing gen) own n = refl

pub returns-in_default : goal.returns-in_default
unfolding label_kept
returns-in_default c =
    let a = c.args in
    let hs = log_heads a.g a.log.drive false a.log.zone a.log.written a.sectors.now in
    (sym (no_label (first_seen hs) (last_label_seen Bad hs) (λ x y e. c.in_default.not-Label x y (c.last_label.ensures ∙ e))), tt)

pub returns-in-Label-first : goal.returns-in-Label-first
unfolding label_kept
returns-in-Label-first c =
    let a = c.args in
    let e = ap₂ relabelled c.in-Label-first.ensures c.in-Label.ensures in
    (e, subst LabelFits (sym e) (label_fits a.g a.log.drive (log_sectors a.g a.log.drive a.log.zone a.sectors.now a.log.written) c.requires.valid.drives_most))

pub returns-in_default-first : goal.returns-in_default-first
unfolding label_kept
returns-in_default-first c =
    let a = c.args in
    let lost = c.in-Label.lost in
    let own = own_array c.first_entry-first.result c.in-Label.own (λ x y e. c.in_default-first.not-Label x y e) in
    let e = sym (ap (λ (n : ℕ). Label lost n) own) ∙ ap₂ relabelled c.first_entry-first.ensures c.in-Label.ensures in
    (e, subst LabelFits (sym e) (label_fits a.g a.log.drive (log_sectors a.g a.log.drive a.log.zone a.sectors.now a.log.written) c.requires.valid.drives_most))
