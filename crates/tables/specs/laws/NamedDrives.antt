-- Two tables that agree but for the memory of drives that are not named: lengths, and each byte and pointer of a named drive. They stand for devices that agree
-- on the named drives (`device_agrees`), pass refusal 3 alike, and stores on named drives keep them so (`run_agrees`).
use Rattle.std.specs.Prelude.{◌≡◌, refl, Bool, true, false, ◌&&◌, length, get_or, take, drop, set}
use Rattle.std.proofs.Math.Path.{sym, ap}
use Rattle.std.proofs.Common.{◌∙◌, arith, length-take, length-drop, get_or-take, get_or-drop, get_or-set_same, get_or-set_other, ltb-true}
use Prim.Native.Nat.{ℕ, zero, suc, ◌+◌, ◌*◌, ◌≤◌, ◌<◌, min}
use Rattle.std.proofs.Math.Decide.{ℕ_discrete}
use mathlib.Core.List.{List, [], ◌∷◌}
use Rattle.tables.specs.declared.Geometry.{Geometry}
use Rattle.tables.specs.meaning.Basics.{pick}
use Rattle.tables.specs.meaning.Below.{any_below}
use Rattle.tables.specs.laws.Below.{any_below_cong, tabulate_cong}
use Rattle.tables.specs.laws.Lists.{numbers_same}
use Rattle.tables.specs.laws.Overlays.{overlay_same}
use Rattle.tables.specs.meaning.Geometry.{physical_zones}
use Rattle.tables.specs.meaning.Device.{ZoneView, Store, append, reset, flush, store_drive}
use Rattle.tables.specs.meaning.Tables.{Tables, cell, byte_at, sector_no, sector_at, has_room, sectors_after_append, written_after_append, pointers_after_reset, make_store, run_stores, zone_at_cell, device_of, pointer_bad, pointers_bad}
use Rattle.tables.specs.laws.Made.{WellSized, Placed, AllPlaced}
use Rattle.tables.specs.laws.Tables.{cell_in, sector_in, In, inside, outside, in_or_out, device_inside, device_outside}
use Rattle.tables.specs.laws.TablesRefine.{flush_own, store_sized}
use Rattle.tables.specs.laws.TablesFrame.{SameDrive, same_drive_trans, sector_within, store_frame}
use Rattle.tables.specs.laws.StoresFit.{AllOn}

pub record AgreeOn (g : Geometry) (named : ℕ → Bool) (t u : Tables) : Type 0 where
  pub sectors_long : length u.sectors ≡ length t.sectors
  pub written_long : length u.written ≡ length t.written
  pub durable_long : length u.durable ≡ length t.durable
  pub drive_same : (d : ℕ) → d < g.drives → named d ≡ true → SameDrive g d t u

pub same_drive_sym : (g : Geometry) (e : ℕ) (t u : Tables) → SameDrive g e t u → SameDrive g e u t
same_drive_sym g e t u p = record { sectors_same = λ i h k. sym (p.sectors_same i h k); written_same = λ z h. sym (p.written_same z h); durable_same = λ z h. sym (p.durable_same z h) }

-- ---- a drive that is the same has the same sectors, and stands for the same zones
module _ (g : Geometry) (d : ℕ) (t u : Tables) (same : SameDrive g d t u) (long : length u.sectors ≡ length t.sectors) where
  pub sector_same : (z n : ℕ) → z < physical_zones g → n < g.capacity → sector_at g u.sectors d z n ≡ sector_at g t.sectors d z n
  sector_same z n hz hn =
      let from = byte_at g d z n in
      let B = g.sector in
      let within = sector_within g d z n hz hn in
      numbers_same (take B (drop from u.sectors)) (take B (drop from t.sectors)) (rw (length-take B (drop from u.sectors), length-take B (drop from t.sectors), length-drop from u.sectors, length-drop from t.sectors, long) refl) (λ k h.
      let l : k < B = omega (arith, length-take B (drop from u.sectors)) in
      get_or-take B (drop from u.sectors) k 0 l ∙ get_or-drop from u.sectors k 0 ∙ same.sectors_same (from + k) (omega arith) (omega (arith, within)) ∙ sym (get_or-take B (drop from t.sectors) k 0 l ∙ get_or-drop from t.sectors k 0))

  zone_same : (z : ℕ) → z < physical_zones g → zone_at_cell g u (cell g d z) ≡ zone_at_cell g t (cell g d z)
  unfolding zone_at_cell
  zone_same z hz =
      let k = cell g d z in
      let C = g.capacity in
      rw (same.written_same z hz, same.durable_same z hz) (
      ap (λ (l : List (List ℕ)). let r : ZoneView = record { sectors = l; durable = min (get_or t.durable k 0) C } in r)
      (tabulate_cong (λ n. sector_no g.sector u.sectors (k * C + n)) (λ n. sector_no g.sector t.sectors (k * C + n)) (min (get_or t.written k 0) C) (λ n h. sector_same z n hz (omega arith))))

module _ (g : Geometry) (named : ℕ → Bool) (t u : Tables) (same : AgreeOn g named t u) where
  -- places outside the geometry are blank
  pub device_agrees : (d : ℕ) → (d < g.drives → named d ≡ true) → (y : ℕ) → device_of g t d y ≡ device_of g u d y
  device_agrees d h y = go (in_or_out g d y)
    where
      go : In g d y → device_of g t d y ≡ device_of g u d y
      go (inside p q i) = device_inside g t d y i ∙ sym (zone_same g d t u (same.drive_same d p (h p)) same.sectors_long y q) ∙ sym (device_inside g u d y i)
      go (outside i) = device_outside g t d y i ∙ sym (device_outside g u d y i)

  pub agree_sized : WellSized g t → WellSized g u
  agree_sized w = record { sectors_long = same.sectors_long ∙ w.sectors_long; written_long = same.written_long ∙ w.written_long; durable_long = same.durable_long ∙ w.durable_long }

-- refusal 3
pub pointers_agree : (g : Geometry) (named : List Bool) (t u : Tables) → AgreeOn g (λ d. get_or named d false) t u → pointers_bad g named t.written t.durable ≡ pointers_bad g named u.written u.durable
unfolding pointers_bad
pointers_agree g named t u same = any_below_cong (drive t) (drive u) g.drives (λ d hd. go d hd (get_or named d false) refl)
  where
    drive : Tables → ℕ → Bool
    drive x d = get_or named d false && any_below (pointer_bad g x.written x.durable d) (physical_zones g)

    go : (d : ℕ) → d < g.drives → (b : Bool) → get_or named d false ≡ b → b && any_below (pointer_bad g t.written t.durable d) (physical_zones g) ≡ b && any_below (pointer_bad g u.written u.durable d) (physical_zones g)
    go d hd false e = refl
    go d hd true e = any_below_cong (pointer_bad g t.written t.durable d) (pointer_bad g u.written u.durable d) (physical_zones g) (λ z hz. rw ((same.drive_same d hd e).written_same z hz, (same.drive_same d hd e).durable_same z hz) refl)

-- ---- a store on a named drive keeps them alike: its own drive, by what it makes of it
module _ (g : Geometry) (t u : Tables) (w : WellSized g t) (w' : WellSized g u) (d : ℕ) (hd : d < g.drives) (same : SameDrive g d t u) where
  -- one cell of the drive set to the same number in both
  set_same : (z x : ℕ) (ps qs : List ℕ) → z < physical_zones g → cell g d z < length ps → length qs ≡ length ps → ((y : ℕ) → y < physical_zones g → get_or qs (cell g d y) 0 ≡ get_or ps (cell g d y) 0)
      → (y : ℕ) → y < physical_zones g → get_or (set qs (cell g d z) x) (cell g d y) 0 ≡ get_or (set ps (cell g d z) x) (cell g d y) 0
  set_same z x ps qs hz in_List long h y hy = go (ℕ_discrete (cell g d y) (cell g d z))
    where
      go : Dec (cell g d y ≡ cell g d z) → get_or (set qs (cell g d z) x) (cell g d y) 0 ≡ get_or (set ps (cell g d z) x) (cell g d y) 0
      go (yes e) = rw e (get_or-set_same qs (cell g d z) x 0 (rw long in_List) ∙ sym (get_or-set_same ps (cell g d z) x 0 in_List))
      go (no n) = get_or-set_other qs (cell g d z) (cell g d y) x 0 n ∙ h y hy ∙ sym (get_or-set_other ps (cell g d z) (cell g d y) x 0 n)

  written_long : length u.written ≡ length t.written
  written_long = w'.written_long ∙ sym w.written_long

  append_same : (z : ℕ) (s : List ℕ) → z < physical_zones g → length s ≡ g.sector → SameDrive g d (make_store g (append d z s) t) (make_store g (append d z s) u)
  append_same z s hz hs = rw (same.written_same z hz) (go (has_room g d z t.written) refl)
    where
      n : ℕ
      n = get_or t.written (cell g d z) 0

      fit : n < g.capacity → byte_at g d z n + length s ≤ length t.sectors
      fit room = omega (arith, w.sectors_long, hs, sector_in g d z n hd hz room)

      go : (b : Bool) → has_room g d z t.written ≡ b
          → SameDrive g d (pick b (record { sectors = sectors_after_append g d z s t.sectors t.written; written = written_after_append g d z t.written; durable = t.durable }) t)
          (pick b (record { sectors = sectors_after_append g d z s u.sectors u.written; written = written_after_append g d z u.written; durable = u.durable }) u)
      go false q = same
      go true q = record {
        sectors_same = λ i h k. unfold sectors_after_append in rw (same.written_same z hz) (overlay_same t.sectors u.sectors (byte_at g d z n) s i (fit (ltb-true n g.capacity q)) (w'.sectors_long ∙ sym w.sectors_long) (same.sectors_same i h k));
        written_same = unfold written_after_append in rw (same.written_same z hz) (set_same z (n + 1) t.written u.written hz (rw w.written_long (cell_in g d z hd hz)) written_long same.written_same);
        durable_same = same.durable_same;
      }

  reset_same : (z : ℕ) → z < physical_zones g → SameDrive g d (make_store g (reset d z) t) (make_store g (reset d z) u)
  unfolding pointers_after_reset
  reset_same z hz = record {
    sectors_same = same.sectors_same;
    written_same = set_same z 0 t.written u.written hz (rw w.written_long (cell_in g d z hd hz)) written_long same.written_same;
    durable_same = set_same z 0 t.durable u.durable hz (rw w.durable_long (cell_in g d z hd hz)) (w'.durable_long ∙ sym w.durable_long) same.durable_same;
  }

  flush_same : SameDrive g d (make_store g (flush d) t) (make_store g (flush d) u)
  flush_same = record { sectors_same = same.sectors_same; written_same = same.written_same; durable_same = λ y hy. flush_own g u w' d hd y hy ∙ same.written_same y hy ∙ sym (flush_own g t w d hd y hy) }

own_same : (g : Geometry) (x : Store) (t u : Tables) → WellSized g t → WellSized g u → Placed g x → SameDrive g (store_drive x) t u → SameDrive g (store_drive x) (make_store g x t) (make_store g x u)
own_same g (append d z s) t u w w' p same = append_same g t u w w' d p.0 same z s p.1 p.2
own_same g (reset d z) t u w w' p same = reset_same g t u w w' d p.0 same z p.1
own_same g (flush d) t u w w' p same = flush_same g t u w w' d p same

store_drive_in : (g : Geometry) (x : Store) → Placed g x → store_drive x < g.drives
store_drive_in g (append d z s) p = p.0
store_drive_in g (reset d z) p = p.0
store_drive_in g (flush d) p = p

-- every other drive is left alone
store_agrees : (g : Geometry) (named : ℕ → Bool) (x : Store) (t u : Tables) → WellSized g t → Placed g x → named (store_drive x) ≡ true → AgreeOn g named t u → AgreeOn g named (make_store g x t) (make_store g x u)
store_agrees g named x t u w p here same =
    let w' = agree_sized g named t u same w in
    let v = store_sized g x t w p in
    let v' = store_sized g x u w' p in
    record {
      sectors_long = v'.sectors_long ∙ sym v.sectors_long;
      written_long = v'.written_long ∙ sym v.written_long;
      durable_long = v'.durable_long ∙ sym v.durable_long;
      drive_same = λ e he n. go e he n w' (ℕ_discrete e (store_drive x));
    }
  where
    go : (e : ℕ) → e < g.drives → named e ≡ true → WellSized g u → Dec (e ≡ store_drive x) → SameDrive g e (make_store g x t) (make_store g x u)
    go e he n w' (yes q) = rw q (own_same g x t u w w' p (same.drive_same (store_drive x) (store_drive_in g x p) here))
    go e he n w' (no q) =
        let a = same_drive_sym g e t (make_store g x t) (store_frame g x t e w p q) in
        let b = same_drive_trans g e t u (make_store g x u) (same.drive_same e he n) (store_frame g x u e w' p q) in
        same_drive_trans g e (make_store g x t) t (make_store g x u) a b

pub run_agrees : (g : Geometry) (named : ℕ → Bool) (k : ℕ) (xs : List Store) (t u : Tables) → WellSized g t → AllPlaced g xs → AllOn named xs → AgreeOn g named t u → AgreeOn g named (run_stores g k xs t) (run_stores g k xs u)
run_agrees g named k [] t u w p a same = same
run_agrees g named zero (x ∷ xs) t u w p a same = same
run_agrees g named (suc k) (x ∷ xs) t u w p a same = run_agrees g named k xs (make_store g x t) (make_store g x u) (store_sized g x t w p.0) p.1 a.1 (store_agrees g named x t u w p.0 a.0 same)
