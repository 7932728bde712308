-- BLANK SPARES: nothing is written in the spares of the present drives. So it is while all is at rest: ordinary stores keep off them, and an emptying leaves the old
-- zone, the spare from then on, reset.
use Rattle.std.specs.Prelude.{◌≡◌, refl, Bool, true, false, ℕ, List, []}
use Rattle.std.proofs.Common.{sym, ap, ◌∙◌, inr}
use Rattle.tables.specs.meaning.Basics.{pick}
use Rattle.tables.specs.meaning.Device.{ZoneView, Device, Store, apply_all}
use Rattle.tables.specs.meaning.Drives.{present_but}
use Rattle.tables.specs.laws.Drives.{present_below}
use Rattle.tables.specs.declared.Geometry.{Geometry}
use Rattle.logs.specs.meaning.Entry.{spare_zone}
use Rattle.volume.specs.meaning.Roles.{Roles, roles, by_roles, zone_of_kind, roles_after, emptied_roles}
use Rattle.volume.specs.meaning.Emptying.{emptyings}
use Rattle.volume.specs.laws.SpareZone.{all_still}
use Rattle.promise.specs.meaning.Ledger.{Ledger}
use Rattle.promise.proofs.invariant.Invariant.{Here, LogGenerations}
use Rattle.promise.proofs.invariant.Obligations.{Invs}
use Rattle.promise.proofs.roles.Ordinary.{Ordinary, carried_to, ordinary_seen}
use Rattle.promise.proofs.roles.Roled.{Standing}
use Rattle.promise.proofs.emptying.CanEmpty.{spare_seen}
use Rattle.promise.proofs.emptying.FlushedRests.{sectors_seen}
use Rattle.promise.proofs.emptying.EmptyingsLeave.{Leaves, emptyings_leave}

abbrev pub BlankSpares : Geometry → ℕ → Device → Type 0
BlankSpares g x v = (d : ℕ) → Here g x d → (by_roles g v d spare_zone).sectors ≡ []

-- while sectors stay
pub blank_same : (g : Geometry) (x : ℕ) (v w : Device) → ((e y : ℕ) → Here g x e → (w e y).sectors ≡ (v e y).sectors) → BlankSpares g x v → BlankSpares g x w
blank_same g x v w h b d a = sectors_seen g v w d (λ y. h d y a) spare_zone ∙ b d a

-- after ordinary stores
pub blank_ordinary : (g : Geometry) (x : ℕ) (c : LogGenerations) (v : Device) → Standing g x v c → (xs : List Store) → Ordinary g x xs → (l : Ledger) → Invs c g x (apply_all xs (by_roles g v)) l → BlankSpares g x v → BlankSpares g x (carried_to g v xs)
blank_ordinary g x c v s xs o l (δ, i, q) b d a =
    ap (λ (z : ZoneView). z.sectors) (ordinary_seen g x v s.roles s.firm xs o c s.general_claim_lem s.parity_claim_lem δ i.logs q d a spare_zone) ∙ all_still xs (by_roles g v) d o.off ∙ b d a

-- after emptyings, in the roles that they give
pub blank_emptied : (g : Geometry) (x : ℕ) (par : Bool) (emptied : ℕ → Bool) (ss : ℕ → List (List ℕ)) (v : Device) → let u = apply_all (emptyings g (present_but g x) par (roles g v) emptied ss) v in
    ((e : ℕ) → Here g x e → roles g u e ≡ roles_after par emptied (roles g v) e) → BlankSpares g x v → BlankSpares g x u
blank_emptied g x par emptied ss v are b d a = ap (λ (z : ZoneView). z.sectors) (spare_seen g u d) ∙ ap (λ (r : Roles). (u d r.spare).sectors) (are d a) ∙ go (emptied d) refl
  where
    u : Device
    u = apply_all (emptyings g (present_but g x) par (roles g v) emptied ss) v

    left : Leaves g x par (roles g v) emptied ss v g.drives u
    left = emptyings_leave g x par (roles g v) emptied ss v

    old : (p : Bool) (r : Roles) → (emptied_roles p r).spare ≡ zone_of_kind p r
    old true r = refl
    old false r = refl

    go : (q : Bool) → emptied d ≡ q → (u d (pick q (emptied_roles par (roles g v d)) (roles g v d)).spare).sectors ≡ []
    go true q = ap (λ (y : ℕ). (u d y).sectors) (old par (roles g v d)) ∙ left.old d a (present_below g x d a) q
    go false q = left.same d a (inr q) (roles g v d).spare ∙ sym (ap (λ (z : ZoneView). z.sectors) (spare_seen g v d)) ∙ b d a
