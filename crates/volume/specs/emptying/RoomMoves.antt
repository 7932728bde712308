-- From the room that a call asks for (LogRoom) to the emptyings that it makes (Emptyings), and from their stores to those of the rules (Carried).
use Rattle.std.specs.Prelude.{◌≡◌, Bool, ℕ, zero, suc, ◌≤◌, ◌<◌, length, get_or, set}
use Rattle.std.proofs.Math.Path.{refl, ap}
use Rattle.std.proofs.Common.{sym, ap₂, ◌∙◌, subst, le_refl, le_trans, arith}
use Rattle.std.proofs.Math.Bool.{true, false}
use mathlib.Core.List.{List, [], ◌∷◌, ◌++◌, map}
use Rattle.tables.specs.declared.Geometry.{Geometry}
use Rattle.tables.specs.meaning.Basics.{pick}
use Rattle.tables.specs.meaning.Below.{each_below}
use Rattle.tables.specs.meaning.Geometry.{cells}
use Rattle.tables.specs.meaning.Device.{Store, append, reset, flush, store_drive}
use Rattle.tables.specs.meaning.Through.{carry}
use Rattle.tables.specs.meaning.Tables.{Tables, tables_of, zone_place, cell, pointers_after_reset}
use Rattle.tables.specs.laws.Lists.{map_append}
use Rattle.tables.specs.laws.Made.{Made}
use Rattle.logs.specs.meaning.Entry.{general_zone, parity_zone, spare_zone, kind_of_log}
use Rattle.volume.specs.declared.roles.LogPlaces.{LogPlaces}
use Rattle.volume.specs.declared.emptyings.Emptyings.{Emptyings}
use Rattle.volume.specs.declared.log_room.RoomAsked.{RoomAsked}
use Rattle.volume.specs.declared.log_room.LogRoom.{LogRoom}
use Rattle.volume.specs.meaning.CallContracts.{is_set, roles_of}
use Rattle.volume.specs.meaning.Roles.{Roles, roles, zone_of_kind, zone_of_role, placed_by, roles_after, emptied_roles}
use Rattle.volume.specs.meaning.Emptying.{emptying_stores, emptyings}
use Rattle.volume.specs.laws.LogPlaces.{with_logs, with_roles, Proper, roles_proper, roles_after_proper, zone_by_role, OnDrives}
use Rattle.volume.specs.laws.EachBelow.{each_below_cong}
use Rattle.volume.specs.looking.HiddenLogs.{hidden_log, hidden_logs}
use Rattle.volume.specs.looking.MovedLogs.{is_emptied, moved_logs, moved_by_roles}
use Rattle.volume.specs.looking.Knowing.{read_device}
use Rattle.volume.specs.checks.LogRoom.{Asking, emptyings_of, placed_is, pointers_long, seen_roles}
use Rattle.volume.specs.emptying.EmptyingStores.{with_closing}
use Rattle.volume.specs.emptying.Emptyings.{emptying_of, emptied_on, EmptyingReady}
use Rattle.volume.specs.emptying.Carried.{emptied_by, new_place, carry_emptyings, on_drives_append, on_drives_emptyings, made_by_roles}

-- ---- hidden pointers are never past the true ones
zeroed : (ps : List ℕ) (c i : ℕ) → get_or (set ps c 0) i 0 ≤ get_or ps i 0
zeroed [] c i = le_refl (get_or {A = ℕ} [] i 0)
zeroed (x ∷ ps) zero zero = omega arith
zeroed (x ∷ ps) zero (suc i) = le_refl (get_or ps i 0)
zeroed (x ∷ ps) (suc c) zero = le_refl x
zeroed (x ∷ ps) (suc c) (suc i) = zeroed ps c i

log_least : (g : Geometry) (lacks : Bool) (d z : ℕ) (ps : List ℕ) (i : ℕ) → get_or (hidden_log g lacks d z ps) i 0 ≤ get_or ps i 0
unfolding pointers_after_reset
log_least g true d z ps i = zeroed ps (cell g d z) i
log_least g false d z ps i = le_refl (get_or ps i 0)

pub hidden_least : (p : LogPlaces) (ws : List ℕ) (n i : ℕ) → get_or (hidden_logs p ws n) i 0 ≤ get_or ws i 0
hidden_least p ws zero i = le_refl (get_or ws i 0)
hidden_least p ws (suc n) i =
    let u = hidden_logs p ws n in
    let v = hidden_log p.geometry (is_set p.no_general n) n general_zone u in
    le_trans (log_least p.geometry (is_set p.no_parity n) n parity_zone v i) (le_trans (log_least p.geometry (is_set p.no_general n) n general_zone u i) (hidden_least p ws n i))

-- ---- where the logs lie afterwards
module _ (a : RoomAsked) (x : LogRoom) (xs ws ps : List ℕ) (k : Asking a xs ws ps) where
  abbrev g : Geometry
  g = a.first

  abbrev r : ℕ → Roles
  r = roles a.first (read_device a.first xs ws)

  abbrev after : ℕ → Roles
  after = roles_after a.parity (is_emptied x.emptied) r

  proper : (d : ℕ) → Proper (r d)
  proper d = roles_proper g (read_device g xs ws) d

  after_proper : (d : ℕ) → Proper (after d)
  after_proper d = roles_after_proper a.parity (is_emptied x.emptied) r proper d

  from_is : a.places.geometry ≡ with_roles g r
  from_is = placed_is g a.places xs ws ps k

  pub to_is : (emptyings_of a x).to ≡ with_roles g after
  to_is = ap (λ (h : Geometry). with_logs h (moved_logs h a.parity (is_emptied x.emptied) h.drives)) from_is ∙ moved_by_roles g r proper a.parity (is_emptied x.emptied)

  moved_place : (d : ℕ) → d < g.drives → is_emptied x.emptied d ≡ true → zone_place (emptyings_of a x).to d (kind_of_log a.parity) ≡ zone_place a.places.geometry d spare_zone
  moved_place d hd e =
      ap (λ (h : Geometry). zone_place h d (kind_of_log a.parity)) to_is ∙ zone_by_role g after after_proper d hd (kind_of_log a.parity) ∙ new_place g (is_set a.here) a.parity r (is_emptied x.emptied) (λ n. []) d e
      ∙ sym (ap (λ (h : Geometry). zone_place h d spare_zone) from_is ∙ zone_by_role g r proper d hd spare_zone)

  pub room_ready : (ds : List ℕ) → length ds ≡ cells g → EmptyingReady a.parity (emptyings_of a x) ps xs ws ds
  room_ready ds long =
      let c : cells a.places.geometry ≡ cells g = ap cells from_is in
      record {
        shape = record { drives = refl; sector = refl; unit = refl; zones = refl; capacity = refl };
        moved = λ d hd e. moved_place d (rw (ap (λ (h : Geometry). h.drives) from_is) at hd) e;
        sectors_long = rw from_is k.sized.sectors_long;
        written_long = k.sized.written_long ∙ sym c;
        durable_long = long ∙ sym c;
        pointers_long = pointers_long g a.places xs ws ps k ∙ sym c;
        behind = record { least = λ d z hd hz b. rw k.hidden (hidden_least a.places ws a.places.geometry.drives (cell (emptyings_of a x).to d z)) };
      }

-- ---- the stores
carry_agree : (g : Geometry) (ρ σ : ℕ → ℕ → ℕ) → ((d : ℕ) → d < g.drives → ρ d ≡ σ d) → (xs : List Store) → OnDrives g xs → map (carry ρ) xs ≡ map (carry σ) xs
carry_agree g ρ σ e [] h = refl
carry_agree g ρ σ e (x ∷ xs) h = ap₂ (λ (y : Store) (ys : List Store). y ∷ ys) (one x h.0) (carry_agree g ρ σ e xs h.1)
  where
    one : (x : Store) → store_drive x < g.drives → carry ρ x ≡ carry σ x
    one (append d z s) l = ap (λ (f : ℕ → ℕ). append d (f z) s) (e d l)
    one (reset d z) l = ap (λ (f : ℕ → ℕ). reset d (f z)) (e d l)
    one (flush d) l = refl

-- THE STORES OF THE RULES: e, the logs emptied; ss, the new logs' sectors; rest, the call's own stores
module _ (a : RoomAsked) (x : LogRoom) (xs ws ps ds : List ℕ) (k : Asking a xs ws ps) (copies : ℕ → List (List ℕ)) (e : ℕ → Bool) (ss : ℕ → List (List ℕ)) (emptied_same : (d : ℕ) → d < a.first.drives → is_emptied x.emptied d ≡ e d)
    (copies_same : (d : ℕ) → d < a.first.drives → e d ≡ true → with_closing (emptying_of (emptyings_of a x) d) a.parity (copies d) ≡ ss d) where
  abbrev all : Emptyings
  all = emptyings_of a x

  abbrev present : ℕ → Bool
  present = is_set a.here

  abbrev closed : ℕ → List (List ℕ)
  closed d = with_closing (emptying_of all d) a.parity (copies d)

  made_as : each_below (λ d. emptied_on all a.parity (copies d) d) all.from.drives ≡ emptied_by a.first present a.parity (is_emptied x.emptied) closed a.first.drives
  unfolding emptying_stores
  made_as = ap (λ (n : ℕ). each_below (λ d. pick (is_emptied x.emptied d) (emptying_stores (record { drives = n; sector = 0; unit = 0; zones = 0; capacity = 0; logs = 0 }) present d spare_zone (kind_of_log a.parity) (closed d)) []) n) (ap (λ (h : Geometry). h.drives) (from_is a x xs ws ps k))

  emptyings_same : emptyings a.first present a.parity (r a x xs ws ps k) (is_emptied x.emptied) closed ≡ emptyings a.first present a.parity (r a x xs ws ps k) e ss
  unfolding emptyings
  emptyings_same = each_below_cong
      (λ d. pick (is_emptied x.emptied d) (emptying_stores a.first present d (zone_of_kind a.parity (r a x xs ws ps k d)) (r a x xs ws ps k d).spare (closed d)) [])
      (λ d. pick (e d) (emptying_stores a.first present d (zone_of_kind a.parity (r a x xs ws ps k d)) (r a x xs ws ps k d).spare (ss d)) []) a.first.drives
      (λ d hd. ap (λ (b : Bool). pick b (emptying_stores a.first present d (zone_of_kind a.parity (r a x xs ws ps k d)) (r a x xs ws ps k d).spare (closed d)) []) (emptied_same d hd) ∙ go d hd (e d) refl)
    where
      go : (d : ℕ) → d < a.first.drives → (b : Bool) → e d ≡ b
          → pick b (emptying_stores a.first present d (zone_of_kind a.parity (r a x xs ws ps k d)) (r a x xs ws ps k d).spare (closed d)) [] ≡ pick b (emptying_stores a.first present d (zone_of_kind a.parity (r a x xs ws ps k d)) (r a x xs ws ps k d).spare (ss d)) []
      go d hd true q = ap (λ (l : List (List ℕ)). emptying_stores a.first present d (zone_of_kind a.parity (r a x xs ws ps k d)) (r a x xs ws ps k d).spare l) (copies_same d hd q)
      go d hd false q = refl

  carried_same : (rest : List Store) → OnDrives a.first rest → map (carry (placed_by (after a x xs ws ps k))) rest ≡ map (carry (placed_by (roles_after a.parity e (r a x xs ws ps k)))) rest
  carried_same rest h = carry_agree a.first (placed_by (after a x xs ws ps k)) (placed_by (roles_after a.parity e (r a x xs ws ps k)))
      (λ d hd. ap (λ (b : Bool). zone_of_role (pick b (emptied_roles a.parity (r a x xs ws ps k d)) (r a x xs ws ps k d))) (emptied_same d hd)) rest h

  pub emptied_made_all : (budget left : ℕ) (rest : List Store) (u : Tables) → OnDrives a.first rest → Made all.to budget left (each_below (λ d. emptied_on all a.parity (copies d) d) all.from.drives ++ rest) (tables_of xs ws ds) u
      → Made a.first budget left (emptyings a.first present a.parity (roles_of a.first (tables_of xs ws ds)) e ss ++ map (carry (placed_by (roles_after a.parity e (roles_of a.first (tables_of xs ws ds))))) rest) (tables_of xs ws ds) u
  emptied_made_all budget left rest u h m =
      let t = tables_of xs ws ds in
      let first = emptied_by a.first present a.parity (is_emptied x.emptied) closed a.first.drives in
      let on = on_drives_append a.first first rest (on_drives_emptyings a.first present a.parity (is_emptied x.emptied) closed a.first.drives (le_refl a.first.drives)) h in
      let m₁ : Made (with_roles a.first (after a x xs ws ps k)) budget left (first ++ rest) t u = subst (λ (h : Geometry). Made h budget left (first ++ rest) t u) (to_is a x xs ws ps k) (subst (λ (l : List Store). Made all.to budget left (l ++ rest) t u) made_as m) in
      let m₂ = made_by_roles a.first k.logs_first (after a x xs ws ps k) (after_proper a x xs ws ps k) budget left (first ++ rest) t u on m₁ in
      let whole : map (carry (placed_by (after a x xs ws ps k))) (first ++ rest) ≡ emptyings a.first present a.parity (r a x xs ws ps k) e ss ++ map (carry (placed_by (roles_after a.parity e (r a x xs ws ps k)))) rest =
      map_append (carry (placed_by (after a x xs ws ps k))) first rest ∙ ap₂ (λ (y z : List Store). y ++ z) (carry_emptyings a.first present a.parity (r a x xs ws ps k) (is_emptied x.emptied) closed ∙ emptyings_same) (carried_same rest h) in
      subst (λ (f : ℕ → Roles). Made a.first budget left (emptyings a.first present a.parity f e ss ++ map (carry (placed_by (roles_after a.parity e f))) rest) t u) (seen_roles a.first a.places xs ws ps k ds)
      (subst (λ (l : List Store). Made a.first budget left l t u) whole m₂)
