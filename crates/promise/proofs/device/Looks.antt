-- In every mode a look of the drives not lost is not refused, and what it shows fits the ledger: after a stopped call too, where the look is that of the
-- device with all of its sectors kept.
use Rattle.std.specs.Prelude.{◌≡◌, refl, Bool, true, false, ◌&&◌, ◌||◌, ℕ, ◌≤◌, ◌<◌, length, ltb, eqb}
use Rattle.std.proofs.Common.{ap, ◌∙◌, arith, le-ltb, eq-eqb, ne_eqb}
use Rattle.std.proofs.Math.Decide.{ℕ_discrete}
use Rattle.tables.specs.laws.Below.{none_any_below}
use Rattle.tables.specs.meaning.Below.{any_below}
use Rattle.tables.specs.meaning.Drives.{present_but}
use Rattle.tables.specs.laws.Drives.{present_other}
use Rattle.tables.specs.meaning.Device.{Device}
use Rattle.tables.specs.declared.Geometry.{Geometry}
use Rattle.tables.specs.meaning.Geometry.{Valid, physical_zones}
use Rattle.volume.specs.meaning.State.{StateView}
use Rattle.volume.specs.meaning.Rules.{is_present, lost_drive, showing}
use Rattle.volume.specs.meaning.Refusals.{bad_pointers, two_lost, kind_lacks, bad_labels, bad_logs}
use Rattle.volume.specs.meaning.Roles.{roles, by_roles, lacks_kind}
use Rattle.volume.specs.laws.Firm.{firm_roles}
use Rattle.promise.specs.meaning.Ledger.{Ledger, Fits}
use Rattle.promise.specs.meaning.Claim.{Mode, ready, stopped, down, all_but}
use Rattle.promise.proofs.invariant.Invariant.{Here, LogGenerations}
use Rattle.promise.proofs.look.LookReads.{look_unrefused, present_is, lost_is}
use Rattle.promise.proofs.look.LookFits.{look_fits}
use Rattle.promise.proofs.roles.Kept.{Lasting, all_kept, all_kept_lem, standing_lasting, standing_fits}
use Rattle.promise.proofs.roles.ReadsSectors.{by_roles_same, showing_same, present_of_same, lost_of_same, two_lost_same, labels_same, logs_same}
use Rattle.promise.proofs.roles.Roled.{Standing}
use Rattle.promise.proofs.device.Marks.{with_marks, fits_less}
use Rattle.promise.proofs.device.Modes.{SomeInvs, Halted, OkIn, rests_invs}

pub record LookFine (g : Geometry) (x : ℕ) (v : Device) (l : Ledger) : Type 0 where
  pub pointers : bad_pointers g (all_but x) v ≡ false
  pub few_lost : two_lost g (all_but x) (by_roles g v) ≡ false
  pub kinds : kind_lacks g (present_but g x) (roles g v) ≡ false
  pub labels : bad_labels g (present_but g x) (by_roles g v) ≡ false
  pub logs : bad_logs g (present_but g x) (by_roles g v) ≡ false
  pub present : is_present g (all_but x) (by_roles g v) ≡ present_but g x
  pub lost : lost_drive g (all_but x) (by_roles g v) ≡ x
  pub fits : Fits g l (showing g (present_but g x) x (by_roles g v))

-- ---- refusal 3 is asked of the physical zones
pointers_fine : (g : Geometry) (x : ℕ) (v : Device) → Lasting g x v → ((d y : ℕ) → Here g x d → y < physical_zones g → length (v d y).sectors ≤ g.capacity) → bad_pointers g (all_but x) v ≡ false
unfolding bad_pointers
pointers_fine g x v h f = none_any_below _ g.drives (λ d hd. go d hd (ℕ_discrete d x))
  where
    go : (d : ℕ) → d < g.drives → Dec (d ≡ x) → all_but x d && any_below (λ y. ltb g.capacity (length (v d y).sectors) || ltb (length (v d y).sectors) (v d y).durable) (physical_zones g) ≡ false
    go d hd (yes q) = rw (eq-eqb d x q) refl
    go d hd (no q) =
        let a = present_other g x d hd q in
        rw (ne_eqb d x q) (none_any_below (λ y. ltb g.capacity (length (v d y).sectors) || ltb (length (v d y).sectors) (v d y).durable) (physical_zones g)
        (λ y hy. rw (le-ltb g.capacity (length (v d y).sectors) (f d y a hy), le-ltb (length (v d y).sectors) (v d y).durable (h d y a hy)) refl))

-- ---- no drive lacks a kind of log
kinds_fine : (g : Geometry) (x : ℕ) (v : Device) (c : LogGenerations) → Standing g x v c → kind_lacks g (present_but g x) (roles g v) ≡ false
unfolding kind_lacks
kinds_fine g x v c s = none_any_below _ g.drives (λ d hd. go d (present_but g x d) refl)
  where
    none : (d : ℕ) → Here g x d → lacks_kind (roles g v d) ≡ false
    none d a =
        let p : eqb (s.roles d).general_claim 0 ≡ false = ne_eqb (s.roles d).general_claim 0 (λ q. omega (arith, (s.general_claim_lem d a).0, q)) in
        let q : eqb (s.roles d).parity_claim 0 ≡ false = ne_eqb (s.roles d).parity_claim 0 (λ q. omega (arith, (s.parity_claim_lem d a).0, q)) in
        ap lacks_kind (firm_roles g v d (s.roles d) (s.firm d a)) ∙ rw (p, q) refl

    go : (d : ℕ) (b : Bool) → present_but g x d ≡ b → b && lacks_kind (roles g v d) ≡ false
    go d true a = none d a
    go d false a = refl

module _ (g : Geometry) (ok : Valid g) (x : ℕ) (v : Device) (l : Ledger) where
  pub invs_look : SomeInvs g x v l → LookFine g x v l
  invs_look (k, c, a, (s, (γ, i, q))) =
      let u = by_roles g v in
      let fine = look_unrefused g ok x u γ i.logs in
      record {
        pointers = pointers_fine g x v (standing_lasting g x v k s γ i.logs) (standing_fits g x v k s γ i.logs);
        few_lost = fine.lost;
        kinds = kinds_fine g x v k s;
        labels = fine.labels;
        logs = fine.logs;
        present = present_is g ok x u γ i.logs;
        lost = lost_is g ok x u γ i.logs;
        fits = fits_less g l c (showing g (present_but g x) x u) a (look_fits g ok x u (with_marks l c) (γ, i));
      }

-- the device with all sectors kept has the same sectors
pub halted_look : (g : Geometry) → Valid g → (x : ℕ) (v : Device) (l : Ledger) → Halted g x v l → LookFine g x v l
halted_look g ok x v l (h, i) =
    let w = all_kept v in
    let o = i w (all_kept_lem g x v h) in
    let f = invs_look g ok x w l o in
    let same = by_roles_same g v w (λ d y. refl) in
    record {
      pointers = pointers_fine g x v h (lengths o);
      few_lost = two_lost_same g (by_roles g v) (by_roles g w) same (all_but x) ∙ f.few_lost;
      kinds = f.kinds;
      labels = labels_same g (by_roles g v) (by_roles g w) same (present_but g x) ∙ f.labels;
      logs = logs_same g (by_roles g v) (by_roles g w) same (present_but g x) ∙ f.logs;
      present = present_of_same g (by_roles g v) (by_roles g w) same (all_but x) ∙ f.present;
      lost = lost_of_same g (by_roles g v) (by_roles g w) same (all_but x) ∙ f.lost;
      fits = rw (showing_same g (by_roles g v) (by_roles g w) same (present_but g x) x) f.fits;
    }
  where
    lengths : SomeInvs g x (all_kept v) l → (d y : ℕ) → Here g x d → y < physical_zones g → length (v d y).sectors ≤ g.capacity
    lengths (k, c, a, (s, (γ, j, q))) = standing_fits g x (all_kept v) k s γ j.logs

-- IN EVERY MODE
pub look_in : (g : Geometry) → Valid g → (m : Mode) (x : ℕ) (v : Device) (state : StateView) (l : Ledger) → OkIn g m x v state l → LookFine g x v l
look_in g ok ready x v state l o = invs_look g ok x v l (rests_invs g x v state l o)
look_in g ok stopped x v state l o = halted_look g ok x v l o
look_in g ok down x v state l o = invs_look g ok x v l o
