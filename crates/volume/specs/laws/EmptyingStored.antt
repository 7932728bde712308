-- What the stores of emptyings leave, on any device: each emptied drive has its new log in the zone that was its spare; every zone but that and the old log's
-- is as before. So by the roles that follow it is a device whose logs were emptied (EmptiedLogs, for general logs).
use Rattle.std.specs.Prelude.{◌≡◌, refl, ◌≢◌, ◌⊎◌, Bool, true, ◌&&◌, ◌||◌, ℕ, zero, suc, ◌≤◌, ◌<◌, eqb}
use Rattle.std.proofs.Common.{sym, ◌∙◌, inl, inr, not-suc-le-zero, arith, ne_eqb}
use Rattle.std.proofs.Math.Path.{ap}
use Rattle.std.proofs.Math.Bool.{false}
use Rattle.std.proofs.Math.Decide.{ℕ_discrete}
use mathlib.Core.List.{List, [], ◌∷◌, ◌++◌, append-nil, append_assoc}
use Rattle.tables.specs.meaning.Basics.{pick}
use Rattle.tables.specs.laws.Basics.{not_both}
use Rattle.tables.specs.meaning.Below.{each_below}
use Rattle.tables.specs.meaning.Device.{ZoneView, Device, Store, append, reset, appended, blank_zone, put_zone, apply, apply_all}
use Rattle.tables.specs.laws.Device.{apply_all_append, put_zone_same, put_zone_other_drive, put_zone_other_zone}
use Rattle.tables.specs.meaning.Phases.{flush_all, on_present}
use Rattle.tables.specs.declared.Geometry.{Geometry}
use Rattle.tables.specs.meaning.Geometry.{Valid}
use Rattle.logs.specs.meaning.Entry.{general_zone, spare_zone, worn_generation}
use Rattle.logs.specs.meaning.Heads.{labelled}
use Rattle.volume.specs.meaning.Rules.{general_heads, generation_of}
use Rattle.volume.specs.meaning.Calls.{append_all}
use Rattle.volume.specs.meaning.Roles.{Roles, roles, by_roles, drive_by_roles, says_nothing, seen_as, zone_of_role, zone_of_kind, emptied_roles, roles_after}
use Rattle.volume.specs.meaning.Emptying.{InForce, new_general, new_general_size, emptying_stores, emptyings, empty_general}
use Rattle.volume.specs.meaning.Mount.{after_opening}
use Rattle.volume.specs.laws.OpeningFlush.{opening_sectors}
use Rattle.volume.specs.laws.EmptiedLogs.{Emptied}

-- three zones, each in one role
pub record Apart (r : Roles) : Type 0 where
  pub general_lt : r.general < 3
  pub parity_lt : r.parity < 3
  pub spare_lt : r.spare < 3
  pub general_parity : r.general ≢ r.parity
  pub general_spare : r.general ≢ r.spare
  pub parity_spare : r.parity ≢ r.spare

-- ---- one place
flush_keeps : (g : Geometry) (a : ℕ → Bool) (v : Device) (d z : ℕ) → (apply_all (on_present a (flush_all g.drives)) v d z).sectors ≡ (v d z).sectors
unfolding after_opening
flush_keeps g a v d z = opening_sectors g a v d z

put_else : (v : Device) (d z : ℕ) (x : ZoneView) (e y : ℕ) → (e ≢ d) ⊎ (y ≢ z) → put_zone v d z x e y ≡ v e y
put_else v d z x e y (inl n) = put_zone_other_drive v d z x e y n
put_else v d z x e y (inr n) = put_zone_other_zone v d z x e y n

appends_there : (ss : List (List ℕ)) (v : Device) (d z : ℕ) → (apply_all (append_all d z ss) v d z).sectors ≡ (v d z).sectors ++ ss
appends_there [] v d z = sym (append-nil (v d z).sectors)
appends_there (s ∷ ss) v d z =
    appends_there ss (apply (append d z s) v) d z
    ∙ ap (λ (a : ZoneView). a.sectors ++ ss) (put_zone_same v d z (appended s (v d z))) ∙ append_assoc (v d z).sectors (s ∷ []) ss

appends_else : (ss : List (List ℕ)) (v : Device) (d z e y : ℕ) → (e ≢ d) ⊎ (y ≢ z) → apply_all (append_all d z ss) v e y ≡ v e y
appends_else [] v d z e y n = refl
appends_else (s ∷ ss) v d z e y n = appends_else ss (apply (append d z s) v) d z e y n ∙ put_else v d z (appended s (v d z)) e y n

-- ---- one emptying, on drive d
module _ (g : Geometry) (present : ℕ → Bool) (d old spare : ℕ) (ss : List (List ℕ)) (v : Device) where
  abbrev flushes : List Store
  flushes = on_present present (flush_all g.drives)

  -- after the first flush, the copies, the second flush
  abbrev first : Device
  first = apply_all flushes v

  abbrev filled : Device
  filled = apply_all (append_all d spare ss) first

  abbrev settled : Device
  settled = apply_all flushes filled

  emptying_is : apply_all (emptying_stores g present d old spare ss) v ≡ put_zone settled d old blank_zone
  unfolding emptying_stores
  emptying_is =
      apply_all_append flushes (append_all d spare ss ++ (flushes ++ (reset d old ∷ []))) v
      ∙ apply_all_append (append_all d spare ss) (flushes ++ (reset d old ∷ [])) first ∙ apply_all_append flushes (reset d old ∷ []) filled

  emptying_there : old ≢ spare → (apply_all (emptying_stores g present d old spare ss) v d spare).sectors ≡ (v d spare).sectors ++ ss
  emptying_there n =
      ap (λ (u : Device). (u d spare).sectors) emptying_is ∙ ap (λ (a : ZoneView). a.sectors) (put_zone_other_zone settled d old blank_zone d spare (λ e. n (sym e)))
      ∙ flush_keeps g present filled d spare ∙ appends_there ss first d spare ∙ ap (λ (t : List (List ℕ)). t ++ ss) (flush_keeps g present v d spare)

  emptying_else : (e y : ℕ) → (e ≢ d) ⊎ ((y ≢ old) × (y ≢ spare)) → (apply_all (emptying_stores g present d old spare ss) v e y).sectors ≡ (v e y).sectors
  emptying_else e y n =
      ap (λ (u : Device). (u e y).sectors) emptying_is ∙ ap (λ (a : ZoneView). a.sectors) (put_else settled d old blank_zone e y (not_old n))
      ∙ flush_keeps g present filled e y ∙ ap (λ (a : ZoneView). a.sectors) (appends_else ss first d spare e y (not_spare_lem n)) ∙ flush_keeps g present v e y
    where
      not_old : (e ≢ d) ⊎ ((y ≢ old) × (y ≢ spare)) → (e ≢ d) ⊎ (y ≢ old)
      not_old (inl i) = inl i
      not_old (inr i) = inr i.0

      not_spare_lem : (e ≢ d) ⊎ ((y ≢ old) × (y ≢ spare)) → (e ≢ d) ⊎ (y ≢ spare)
      not_spare_lem (inl i) = inl i
      not_spare_lem (inr i) = inr i.1

  -- the old zone is blank
  emptying_old : (apply_all (emptying_stores g present d old spare ss) v d old).sectors ≡ []
  emptying_old = ap (λ (u : Device). (u d old).sectors) emptying_is ∙ ap (λ (a : ZoneView). a.sectors) (put_zone_same settled d old blank_zone)

-- ---- all of them, drives ascending (ss: of each drive, the new log's sectors)
module _ (g : Geometry) (present : ℕ → Bool) (par : Bool) (r : ℕ → Roles) (emptied : ℕ → Bool) (ss : ℕ → List (List ℕ)) (v : Device) where
  abbrev old : ℕ → ℕ
  old d = zone_of_kind par (r d)

  abbrev one : ℕ → List Store
  one d = emptying_stores g present d (old d) (r d).spare (ss d)

  abbrev after : ℕ → Device
  after n = apply_all (each_below (λ d. pick (emptied d) (one d) []) n) v

  after_next : (n : ℕ) → after (suc n) ≡ apply_all (pick (emptied n) (one n) []) (after n)
  after_next n = apply_all_append (each_below (λ d. pick (emptied d) (one d) []) n) (pick (emptied n) (one n) []) v

  after_else : (n d y : ℕ) → (d < n → emptied d ≡ true → (y ≢ old d) × (y ≢ (r d).spare)) → (after n d y).sectors ≡ (v d y).sectors
  after_else zero d y h = refl
  after_else (suc n) d y h = ap (λ (u : Device). (u d y).sectors) (after_next n) ∙ go (emptied n) refl ∙ after_else n d y (λ l e. h (omega (arith, l)) e)
    where
      where_not : emptied n ≡ true → Dec (d ≡ n) → (d ≢ n) ⊎ ((y ≢ old n) × (y ≢ (r n).spare))
      where_not e (yes q) = inr (rw q at (h (omega (arith, q)) (rw q e)))
      where_not e (no q) = inl q

      go : (b : Bool) → emptied n ≡ b → (apply_all (pick b (one n) []) (after n) d y).sectors ≡ (after n d y).sectors
      go true e = emptying_else g present n (old n) (r n).spare (ss n) (after n) d y (where_not e (ℕ_discrete d n))
      go false e = refl

  after_there : (n d : ℕ) → d < n → emptied d ≡ true → old d ≢ (r d).spare → (after n d (r d).spare).sectors ≡ (v d (r d).spare).sectors ++ ss d
  after_there zero d l e a = absurd (not-suc-le-zero l)
  after_there (suc n) d l e a = ap (λ (u : Device). (u d (r d).spare).sectors) (after_next n) ∙ go (ℕ_discrete d n) (λ k. after_there n d k e a)
    where
      own : (apply_all (one d) (after d) d (r d).spare).sectors ≡ (v d (r d).spare).sectors ++ ss d
      own =
          emptying_there g present d (old d) (r d).spare (ss d) (after d) a
          ∙ ap (λ (t : List (List ℕ)). t ++ ss d) (after_else d d (r d).spare (λ k i. absurd (omega (arith, k))))

      other : (b : Bool) → d ≢ n → (apply_all (pick b (one n) []) (after n) d (r d).spare).sectors ≡ (after n d (r d).spare).sectors
      other true q = emptying_else g present n (old n) (r n).spare (ss n) (after n) d (r d).spare (inl q)
      other false q = refl

      go : Dec (d ≡ n) → (d < n → (after n d (r d).spare).sectors ≡ (v d (r d).spare).sectors ++ ss d) → (apply_all (pick (emptied n) (one n) []) (after n) d (r d).spare).sectors ≡ (v d (r d).spare).sectors ++ ss d
      go (yes q) ih = rw (← q, e) own
      go (no q) ih = other (emptied n) q ∙ ih (omega arith)

  after_old : (n d : ℕ) → d < n → emptied d ≡ true → (after n d (old d)).sectors ≡ []
  after_old zero d l e = absurd (not-suc-le-zero l)
  after_old (suc n) d l e = ap (λ (u : Device). (u d (old d)).sectors) (after_next n) ∙ go (ℕ_discrete d n) (λ k. after_old n d k e)
    where
      other : (b : Bool) → d ≢ n → (apply_all (pick b (one n) []) (after n) d (old d)).sectors ≡ (after n d (old d)).sectors
      other true q = emptying_else g present n (old n) (r n).spare (ss n) (after n) d (old d) (inl q)
      other false q = refl

      go : Dec (d ≡ n) → (d < n → (after n d (old d)).sectors ≡ []) → (apply_all (pick (emptied n) (one n) []) (after n) d (old d)).sectors ≡ []
      go (yes q) ih = rw (← q, e) (emptying_old g present d (old d) (r d).spare (ss d) (after d))
      go (no q) ih = other (emptied n) q ∙ ih (omega arith)

  -- THE STORES: the spare gets the new log, and no zone but the old one is touched
  pub emptyings_there : (d : ℕ) → d < g.drives → emptied d ≡ true → old d ≢ (r d).spare → (apply_all (emptyings g present par r emptied ss) v d (r d).spare).sectors ≡ (v d (r d).spare).sectors ++ ss d
  unfolding emptyings
  emptyings_there d l e a = after_there g.drives d l e a

  pub emptyings_else : (d y : ℕ) → (emptied d ≡ true → (y ≢ old d) × (y ≢ (r d).spare)) → (apply_all (emptyings g present par r emptied ss) v d y).sectors ≡ (v d y).sectors
  unfolding emptyings
  emptyings_else d y h = after_else g.drives d y (λ l e. h e)

  pub emptyings_old : (d : ℕ) → d < g.drives → emptied d ≡ true → (apply_all (emptyings g present par r emptied ss) v d (old d)).sectors ≡ []
  unfolding emptyings
  emptyings_old d l e = after_old g.drives d l e

-- ---- by the roles
abbrev pub seen_by : (ℕ → Roles) → Device → Device
seen_by r v d = seen_as (r d) (v d)

pub by_roles_seen : (g : Geometry) (v : Device) → by_roles g v ≡ seen_by (roles g v) v
unfolding drive_by_roles
by_roles_seen g v = refl

seen_same : (r : Roles) (zs us : ℕ → ZoneView) (y : ℕ) → (zs (zone_of_role r y)).sectors ≡ (us (zone_of_role r y)).sectors → (seen_as r zs y).sectors ≡ (seen_as r us y).sectors
seen_same r zs us y e = go (eqb y 0 && eqb r.general_claim 0 || (eqb y 1 && eqb r.parity_claim 0))
  where
    go : (b : Bool) → (pick b (says_nothing (zs (zone_of_role r y))) (zs (zone_of_role r y))).sectors ≡ (pick b (says_nothing (us (zone_of_role r y))) (us (zone_of_role r y))).sectors
    go true = refl
    go false = e

-- of a general log's emptying, only the zones of roles 0 and 2 change places
role_else : (r : Roles) (zs : ℕ → ZoneView) (y : ℕ) → y ≢ general_zone → y ≢ spare_zone → seen_as (emptied_roles false r) zs y ≡ seen_as r zs y
role_else r zs zero a b = absurd (a refl)
role_else r zs (suc zero) a b = refl
role_else r zs (suc (suc zero)) a b = absurd (b refl)
role_else r zs (suc (suc (suc z))) a b = rw (ne_eqb (suc (suc (suc z))) 0 (λ e. omega (arith, e)), ne_eqb (suc (suc (suc z))) 1 (λ e. omega (arith, e))) refl

zone_else : (r : Roles) (y : ℕ) → Apart r → y ≢ general_zone → y ≢ spare_zone → (zone_of_role r y ≢ r.general) × (zone_of_role r y ≢ r.spare)
zone_else r zero p a b = absurd (a refl)
zone_else r (suc zero) p a b = ((λ e. p.general_parity (sym e)), p.parity_spare)
zone_else r (suc (suc zero)) p a b = absurd (b refl)
zone_else r (suc (suc (suc z))) p a b = ((λ e. omega (arith, e, p.general_lt)), (λ e. omega (arith, e, p.spare_lt)))

-- the new log is seen, for its claim is not 0
seen_new : (r : Roles) (zs : ℕ → ZoneView) → seen_as (emptied_roles false r) zs general_zone ≡ zs r.spare
seen_new r zs = rw (ne_eqb (suc r.general_claim) 0 (λ e. omega (arith, e))) refl

-- v: the device that the stores meet, each spare to be filled blank; w: what the drives' roles show of it (of the spares nothing is asked)
module _ (g : Geometry) (present : ℕ → Bool) (r : ℕ → Roles) (f : InForce) (emptied : ℕ → Bool) (w v : Device)
    (there : (d : ℕ) → emptied d ≡ true → d < g.drives) (apart : (d : ℕ) → emptied d ≡ true → Apart (r d)) (blank : (d : ℕ) → emptied d ≡ true → (v d (r d).spare).sectors ≡ [])
    (seen : (d y : ℕ) → y ≢ spare_zone → (seen_by r v d y).sectors ≡ (w d y).sectors) where
  abbrev stored : Device
  stored = apply_all (empty_general g present r f emptied w) v

  -- the device by the roles after the emptyings
  abbrev pub emptied_view : Device
  emptied_view = seen_by (roles_after false emptied r) stored

  stored_there : (d : ℕ) → emptied d ≡ true → (stored d (r d).spare).sectors ≡ new_general g f (r d) d (general_heads g w d)
  unfolding empty_general
  stored_there d e =
      emptyings_there g present false r emptied (λ d. new_general g f (r d) d (general_heads g w d)) v d (there d e) e (apart d e).general_spare
      ∙ ap (λ (t : List (List ℕ)). t ++ new_general g f (r d) d (general_heads g w d)) (blank d e)

  stored_else : (d y : ℕ) → (emptied d ≡ true → (y ≢ (r d).general) × (y ≢ (r d).spare)) → (stored d y).sectors ≡ (v d y).sectors
  unfolding empty_general
  stored_else d y h = emptyings_else g present false r emptied (λ d. new_general g f (r d) d (general_heads g w d)) v d y h

  -- another drive's roles are as they were, and its zones
  pub view_kept : (d y : ℕ) → emptied d ≡ false → (emptied_view d y).sectors ≡ (seen_by r v d y).sectors
  view_kept d y e = rw e (seen_same (r d) (stored d) (v d) y (stored_else d (zone_of_role (r d) y) (λ q. not_both (emptied d) q e)))

  pub view_copied : (d : ℕ) → emptied d ≡ true → (emptied_view d general_zone).sectors ≡ new_general g f (r d) d (general_heads g w d)
  view_copied d e =
      ap (λ (b : Bool). (seen_as (pick b (emptied_roles false (r d)) (r d)) (stored d) general_zone).sectors) e ∙ ap (λ (a : ZoneView). a.sectors) (seen_new (r d) (stored d)) ∙ stored_there d e

  pub view_elsewhere : (d y : ℕ) → y ≢ general_zone → y ≢ spare_zone → (emptied_view d y).sectors ≡ (seen_by r v d y).sectors
  view_elsewhere d y a b = go (emptied d) refl
    where
      go : (c : Bool) → emptied d ≡ c → (emptied_view d y).sectors ≡ (seen_by r v d y).sectors
      go true e =
          ap (λ (c : Bool). (seen_as (pick c (emptied_roles false (r d)) (r d)) (stored d) y).sectors) e ∙ ap (λ (z : ZoneView). z.sectors) (role_else (r d) (stored d) y a b)
          ∙ seen_same (r d) (stored d) (v d) y (stored_else d (zone_of_role (r d) y) (λ q. zone_else (r d) y (apart d e) a b))
      go false e = view_kept d y e

  -- SO THE GENERAL LOGS WERE EMPTIED, where an emptying's own conditions hold
  pub emptied_by_stores : Valid g → ((d : ℕ) → emptied d ≡ true → present d ≡ true) → ((z : ℕ) → z < g.zones → f.generation z ≡ generation_of g present w z)
      → ((d : ℕ) → emptied d ≡ true → labelled (general_heads g w d) ≡ true) → ((d : ℕ) → emptied d ≡ true → (1 ≤ (r d).general_claim) × ((r d).general_claim ≤ worn_generation))
      → ((d : ℕ) → emptied d ≡ true → new_general_size g f (general_heads g w d) ≤ g.capacity) → Emptied g present f r emptied w emptied_view
  emptied_by_stores ok here force labels claimed room = record {
    valid = ok;
    there = λ d e. (here d e, there d e);
    in_force_lem = force;
    begins = labels;
    claims = claimed;
    room = room;
    copied = view_copied;
    kept = λ d e. view_kept d general_zone e ∙ seen d general_zone (λ q. omega (arith, q));
    elsewhere = λ d y a b. view_elsewhere d y a b ∙ seen d y b;
  }
