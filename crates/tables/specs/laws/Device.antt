-- Laws of stores on a device: what a store changes and what it leaves alone; a device stays well formed.
use Rattle.std.specs.Prelude.{◌≡◌, refl, ◌≢◌, Bool, true, false, ◌&&◌, ℕ, ◌≤◌, List, [], ◌∷◌, ◌++◌, length, eqb}
use Rattle.std.proofs.Common.{zero-le, le_refl, arith, length-append, ne_eqb}
use Rattle.std.proofs.Math.Decide.{ℕ_discrete}
use Rattle.tables.specs.meaning.Basics.{pick}
use Rattle.tables.specs.laws.Basics.{eqb_same}
use Rattle.tables.specs.meaning.Device.{ZoneView, Device, Store, append, reset, flush, store_drive, appended, blank_zone, flushed, put_zone, apply, apply_all, ZoneCut, Cut, Loss}

-- no zone has more durable sectors than sectors
unfoldable pub WellFormed : Device → Type 0
WellFormed v = (d z : ℕ) → (v d z).durable ≤ length (v d z).sectors

-- ---- laws
pub cut_at : (x : ℕ) (v w : Device) → Cut x v w → (d z : ℕ) → d ≢ x → ZoneCut (v d z) (w d z)
unfolding Cut
cut_at x v w c = c

pub loss_at : (x : ℕ) (v w : Device) → Loss x v w → (d z : ℕ) → d ≢ x → w d z ≡ v d z
unfolding Loss
loss_at x v w c = c

pub apply_all_append : (xs ys : List Store) (v : Device) → apply_all (xs ++ ys) v ≡ apply_all ys (apply_all xs v)
apply_all_append [] ys v = refl
apply_all_append (x ∷ xs) ys v = apply_all_append xs ys (apply x v)

-- ---- reading after a store
pub put_zone_same : (v : Device) (d z : ℕ) (x : ZoneView) → put_zone v d z x d z ≡ x
put_zone_same v d z x = rw (eqb_same d, eqb_same z, put_zone) refl

pub put_zone_other_drive : (v : Device) (d z : ℕ) (x : ZoneView) (e y : ℕ) → e ≢ d → put_zone v d z x e y ≡ v e y
put_zone_other_drive v d z x e y n = rw (ne_eqb e d n, put_zone) refl

pub put_zone_other_zone : (v : Device) (d z : ℕ) (x : ZoneView) (e y : ℕ) → y ≢ z → put_zone v d z x e y ≡ v e y
put_zone_other_zone v d z x e y n = go (eqb e d) refl
  where
    go : (b : Bool) → eqb e d ≡ b → put_zone v d z x e y ≡ v e y
    go true h = rw (h, ne_eqb y z n, put_zone) refl
    go false h = rw (h, put_zone) refl

-- where a place lies with regard to (d, z)
pub data At (d z e y : ℕ) : Type 0 where
  here : e ≡ d → y ≡ z → At d z e y
  other_drive : e ≢ d → At d z e y
  other_zone : e ≡ d → y ≢ z → At d z e y

pub at : (d z e y : ℕ) → At d z e y
at d z e y = go (ℕ_discrete e d) (ℕ_discrete y z)
  where
    go : Dec (e ≡ d) → Dec (y ≡ z) → At d z e y
    go (yes p) (yes q) = here p q
    go (yes p) (no q) = other_zone p q
    go (no p) q = other_drive p

-- ---- frames
-- a store leaves every other drive alone
pub apply_frame : (x : Store) (v : Device) (e y : ℕ) → e ≢ store_drive x → apply x v e y ≡ v e y
apply_frame (append d z s) v e y n = put_zone_other_drive v d z (appended s (v d z)) e y n
apply_frame (reset d z) v e y n = put_zone_other_drive v d z blank_zone e y n
apply_frame (flush d) v e y n = rw (ne_eqb e d n) refl

-- stores keep a device well-formed
wf_pick : (b : Bool) (a c : ZoneView) → a.durable ≤ length a.sectors → c.durable ≤ length c.sectors → (pick b a c).durable ≤ length (pick b a c).sectors
wf_pick true a c h k = h
wf_pick false a c h k = k

pub well_formed_apply : (x : Store) (v : Device) → WellFormed v → WellFormed (apply x v)
unfolding WellFormed
well_formed_apply (append d z s) v w e y = wf_pick (eqb e d && eqb y z) (appended s (v d z)) (v e y) (rw length-append (omega (arith, w d z))) (w e y)
well_formed_apply (reset d z) v w e y = wf_pick (eqb e d && eqb y z) blank_zone (v e y) zero-le (w e y)
well_formed_apply (flush d) v w e y = wf_pick (eqb e d) (flushed (v e y)) (v e y) (le_refl (length (v e y).sectors)) (w e y)

pub well_formed_apply_all : (xs : List Store) (v : Device) → WellFormed v → WellFormed (apply_all xs v)
well_formed_apply_all [] v w = w
well_formed_apply_all (x ∷ xs) v w = well_formed_apply_all xs (apply x v) (well_formed_apply x v w)
