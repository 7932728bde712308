-- What steps 1 and 2 of a mount make of the device: after step 1 every present drive's spare is blank and all else as before; after step 2 the general logs that
-- lacked room are emptied (EmptiedLogs), and no rule's answer has changed.
use Rattle.std.specs.Prelude.{◌≡◌, ◌≢◌, Bool, ◌&&◌, ◌||◌, ℕ, zero, suc, ◌<◌, length, ltb}
use Rattle.std.proofs.Math.Path.{refl, ap}
use Rattle.std.proofs.Common.{sym, ap₂, ◌∙◌, true≢false, not-suc-le-zero, arith, ltb-false}
use Rattle.std.proofs.Math.Bool.{true, false}
use Rattle.std.proofs.Math.Decide.{ℕ_discrete}
use mathlib.Core.List.{List, [], ◌∷◌, ◌++◌, map, append-nil}
use Rattle.std.proofs.Math.Dec.{eqb}
use Rattle.tables.specs.declared.Geometry.{Geometry}
use Rattle.tables.specs.meaning.Basics.{pick}
use Rattle.tables.specs.meaning.Below.{each_below}
use Rattle.tables.specs.meaning.Lists.{concat, is_nil}
use Rattle.tables.specs.meaning.Device.{Device, ZoneView, blank_zone, Store, reset, apply_all}
use Rattle.tables.specs.laws.Device.{apply_all_append, put_zone_same, put_zone_other_drive, put_zone_other_zone}
use Rattle.tables.specs.meaning.Phases.{flush_all, on_present}
use Rattle.tables.specs.laws.Phases.{on_present_append}
use Rattle.tables.specs.meaning.Through.{carry}
use Rattle.tables.specs.laws.Lists.{map_append}
use Rattle.logs.specs.meaning.Entry.{spare_zone}
use Rattle.volume.specs.meaning.Roles.{Roles, roles, by_roles, drive_by_roles, zone_of_role, placed_by, says_nothing}
use Rattle.volume.specs.meaning.Emptying.{spare_written}
use Rattle.volume.specs.meaning.Mount.{spare_step, with_flush, after_opening}
use Rattle.volume.specs.laws.LogPlaces.{Proper, roles_proper}
use Rattle.volume.specs.laws.EmptyingStored.{Apart, seen_by}
use Rattle.volume.specs.looking.HiddenLogs.{by_roles_other}
use Rattle.volume.specs.laws.OpeningFlush.{opening_sectors}

-- ---- resets of one zone of some drives (zone: of each drive; b: which)
module _ (zone : ℕ → ℕ) (b : ℕ → Bool) (v : Device) where
  abbrev resets : ℕ → List Store
  resets n = each_below (λ d. pick (b d) (reset d (zone d) ∷ []) []) n

  resets_next : (n d y : ℕ) → apply_all (resets (suc n)) v d y ≡ apply_all (pick (b n) (reset n (zone n) ∷ []) []) (apply_all (resets n) v) d y
  resets_next n d y = ap (λ (u : Device). u d y) (apply_all_append (resets n) (pick (b n) (reset n (zone n) ∷ []) []) v)

  resets_kept : (n d y : ℕ) → y ≢ zone d → apply_all (resets n) v d y ≡ v d y
  resets_kept zero d y h = refl
  resets_kept (suc n) d y h = resets_next n d y ∙ go (b n) (apply_all (resets n) v) (ℕ_discrete d n) ∙ resets_kept n d y h
    where
      go : (c : Bool) (u : Device) → Dec (d ≡ n) → apply_all (pick c (reset n (zone n) ∷ []) []) u d y ≡ u d y
      go true u (yes q) = put_zone_other_zone u n (zone n) blank_zone d y (λ e. h (e ∙ ap zone (sym q)))
      go true u (no q) = put_zone_other_drive u n (zone n) blank_zone d y q
      go false u q = refl

  resets_there : (n d : ℕ) → d < n → b d ≡ true → apply_all (resets n) v d (zone d) ≡ blank_zone
  resets_there zero d l e = absurd (not-suc-le-zero l)
  resets_there (suc n) d l e = resets_next n d (zone d) ∙ go (ℕ_discrete d n) (λ k. resets_there n d k e)
    where
      other : (c : Bool) (u : Device) → d ≢ n → apply_all (pick c (reset n (zone n) ∷ []) []) u d (zone d) ≡ u d (zone d)
      other true u q = put_zone_other_drive u n (zone n) blank_zone d (zone d) q
      other false u q = refl

      go : Dec (d ≡ n) → (d < n → apply_all (resets n) v d (zone d) ≡ blank_zone) → apply_all (pick (b n) (reset n (zone n) ∷ []) []) (apply_all (resets n) v) d (zone d) ≡ blank_zone
      go (yes q) ih = rw (← q, e) (put_zone_same (apply_all (resets d) v) d (zone d) blank_zone)
      go (no q) ih = other (b n) (apply_all (resets n) v) q ∙ ih (omega arith)

  -- where none is made
  resets_idle : (n d y : ℕ) → b d ≡ false → apply_all (resets n) v d y ≡ v d y
  resets_idle zero d y h = refl
  resets_idle (suc n) d y h = resets_next n d y ∙ go (ℕ_discrete d n) (b n) refl (apply_all (resets n) v) ∙ resets_idle n d y h
    where
      go : Dec (d ≡ n) → (c : Bool) → b n ≡ c → (u : Device) → apply_all (pick c (reset n (zone n) ∷ []) []) u d y ≡ u d y
      go (yes q) true e u = absurd (true≢false (sym e ∙ ap b (sym q) ∙ h))
      go (no q) true e u = put_zone_other_drive u n (zone n) blank_zone d y q
      go q false e u = refl

-- ---- step 1: the carried resets on the present drives
module _ (g : Geometry) (a : ℕ → Bool) (r : ℕ → Roles) (w : Device) where
  one_carried : (n : ℕ) (c p : Bool) → a n ≡ p → on_present a (map (carry (placed_by r)) (pick c (reset n spare_zone ∷ []) [])) ≡ pick (p && c) (reset n (r n).spare ∷ []) []
  one_carried n true true e = rw e refl
  one_carried n true false e = rw e refl
  one_carried n false true e = refl
  one_carried n false false e = refl

  carried_below : (n : ℕ) → on_present a (map (carry (placed_by r)) (each_below (λ d. pick (spare_written w d) (reset d spare_zone ∷ []) []) n)) ≡ resets (λ d. (r d).spare) (λ d. a d && spare_written w d) w n
  carried_below zero = refl
  carried_below (suc n) =
      let xs = each_below (λ d. pick (spare_written w d) (reset d spare_zone ∷ []) []) n in
      let x : List Store = pick (spare_written w n) (reset n spare_zone ∷ []) [] in
      ap (on_present a) (map_append (carry (placed_by r)) xs x) ∙ on_present_append a (map (carry (placed_by r)) xs) (map (carry (placed_by r)) x)
      ∙ ap₂ (λ (l k : List Store). l ++ k) (carried_below n) (one_carried n (spare_written w n) (a n) refl)

  carried_spares : on_present a (map (carry (placed_by r)) (spare_step g w)) ≡ resets (λ d. (r d).spare) (λ d. a d && spare_written w d) w g.drives
  unfolding spare_step
  carried_spares = carried_below g.drives

-- a step's flush changes no sector
pub flush_part_lem : (g : Geometry) (a : ℕ → Bool) (ss : List Store) (u : Device) (d y : ℕ) → (apply_all (concat (with_flush g a ss)) u d y).sectors ≡ (apply_all (on_present a ss) u d y).sectors
unfolding after_opening
flush_part_lem g a ss u d y =
    let rest : List Store = pick (is_nil (on_present a ss)) [] (on_present a (flush_all g.drives)) in
    ap (λ (x : Device). (x d y).sectors) (apply_all_append (on_present a ss) (rest ++ []) u)
    ∙ ap (λ (l : List Store). (apply_all l (apply_all (on_present a ss) u) d y).sectors) (append-nil rest) ∙ go (is_nil (on_present a ss)) (apply_all (on_present a ss) u)
  where
    go : (c : Bool) (x : Device) → (apply_all (pick c [] (on_present a (flush_all g.drives))) x d y).sectors ≡ (x d y).sectors
    go true x = refl
    go false x = opening_sectors g a x d y

-- ---- after the first flush and step 1
module _ (g : Geometry) (a : ℕ → Bool) (v : Device) where
  abbrev pub stage : Device
  stage = apply_all (on_present a (flush_all g.drives) ++ concat (with_flush g a (map (carry (placed_by (roles g v))) (spare_step g (by_roles g v))))) v

  stage_is : (d y : ℕ) → (stage d y).sectors ≡ (apply_all (resets (λ d. (roles g v d).spare) (λ d. a d && spare_written (by_roles g v) d) (by_roles g v) g.drives) (after_opening g a v) d y).sectors
  unfolding after_opening
  stage_is d y =
      let ss = map (carry (placed_by (roles g v))) (spare_step g (by_roles g v)) in
      ap (λ (u : Device). (u d y).sectors) (apply_all_append (on_present a (flush_all g.drives)) (concat (with_flush g a ss)) v)
      ∙ flush_part_lem g a ss (apply_all (on_present a (flush_all g.drives)) v) d y
      ∙ ap (λ (l : List Store). (apply_all l (apply_all (on_present a (flush_all g.drives)) v) d y).sectors) (carried_spares g a (roles g v) (by_roles g v))

  stage_kept : (d y : ℕ) → y ≢ (roles g v d).spare → (stage d y).sectors ≡ (v d y).sectors
  stage_kept d y h =
      stage_is d y ∙ ap (λ (z : ZoneView). z.sectors) (resets_kept (λ d. (roles g v d).spare) (λ d. a d && spare_written (by_roles g v) d) (after_opening g a v) g.drives d y h) ∙ opening_sectors g a v d y

  spare_seen : (d : ℕ) → (by_roles g v d spare_zone).sectors ≡ (v d (roles g v d).spare).sectors
  spare_seen d = ap (λ (z : ZoneView). z.sectors) (by_roles_other g v d spare_zone (omega arith))

  pub stage_blank : (d : ℕ) → d < g.drives → a d ≡ true → (stage d (roles g v d).spare).sectors ≡ []
  stage_blank d hd p = stage_is d (roles g v d).spare ∙ go (spare_written (by_roles g v) d) refl
    where
      none : (ss : List (List ℕ)) → ltb 0 (length ss) ≡ false → ss ≡ []
      none [] e = refl
      none (s ∷ ss) e = absurd (let z = ltb-false 0 (suc (length ss)) e in omega (arith, z))

      go : (c : Bool) → spare_written (by_roles g v) d ≡ c → (apply_all (resets (λ d. (roles g v d).spare) (λ d. a d && spare_written (by_roles g v) d) (by_roles g v) g.drives) (after_opening g a v) d (roles g v d).spare).sectors ≡ []
      go true e = ap (λ (z : ZoneView). z.sectors) (resets_there (λ d. (roles g v d).spare) (λ d. a d && spare_written (by_roles g v) d) (after_opening g a v) g.drives d hd (rw (p, e) refl))
      go false e =
          ap (λ (z : ZoneView). z.sectors) (resets_idle (λ d. (roles g v d).spare) (λ d. a d && spare_written (by_roles g v) d) (after_opening g a v) g.drives d (roles g v d).spare (rw (p, e) refl))
          ∙ opening_sectors g a v d (roles g v d).spare ∙ sym (spare_seen d) ∙ none (by_roles g v d spare_zone).sectors e

  -- by the roles all but the spares is as it was
  not_spare_lem : (r : Roles) → Proper r → (y : ℕ) → y ≢ spare_zone → zone_of_role r y ≢ r.spare
  not_spare_lem r p zero h e = omega (arith, p.general_lt, p.parity_lt, p.apart, p.spare_is, e)
  not_spare_lem r p (suc zero) h e = omega (arith, p.general_lt, p.parity_lt, p.apart, p.spare_is, e)
  not_spare_lem r p (suc (suc zero)) h e = absurd (h refl)
  not_spare_lem r p (suc (suc (suc y))) h e = omega (arith, p.general_lt, p.parity_lt, p.spare_is, e)

  pub stage_seen : (d y : ℕ) → y ≢ spare_zone → (seen_by (roles g v) stage d y).sectors ≡ (by_roles g v d y).sectors
  unfolding drive_by_roles
  stage_seen d y h = go (eqb y 0 && eqb (roles g v d).general_claim 0 || (eqb y 1 && eqb (roles g v d).parity_claim 0))
    where
      go : (c : Bool) → (pick c (says_nothing (stage d (zone_of_role (roles g v d) y))) (stage d (zone_of_role (roles g v d) y))).sectors ≡ (pick c (says_nothing (v d (zone_of_role (roles g v d) y))) (v d (zone_of_role (roles g v d) y))).sectors
      go true = refl
      go false = stage_kept d (zone_of_role (roles g v d) y) (not_spare_lem (roles g v d) (roles_proper g v d) y h)

pub proper_apart : (r : Roles) → Proper r → Apart r
proper_apart r p = record {
  general_lt = p.general_lt;
  parity_lt = p.parity_lt;
  spare_lt = omega (arith, p.general_lt, p.parity_lt, p.apart, p.spare_is);
  general_parity = p.apart;
  general_spare = λ e. omega (arith, p.general_lt, p.parity_lt, p.apart, p.spare_is, e);
  parity_spare = λ e. omega (arith, p.general_lt, p.parity_lt, p.apart, p.spare_is, e);
}
