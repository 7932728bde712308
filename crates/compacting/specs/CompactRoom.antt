-- What a compact asks of the logs, as the code asks it: of the one drive that it names, whose log is emptied however much of it is unused. Refusal 14, and the new
-- log's generation, are those of the rules.
use Rattle.std.specs.Prelude.{◌≡◌, Bool, ◌&&◌, ◌||◌, ℕ, zero, suc, ◌+◌, ◌-◌, ◌<◌, List, get_or, set, replicate, eqb}
use Rattle.std.proofs.Math.Path.{refl, ap₂}
use Rattle.std.proofs.Common.{sym, ap, ◌∙◌, arith, get_or-set_same, get_or-set_other}
use Rattle.std.proofs.Math.Bool.{true, false}
use Rattle.std.proofs.Math.Decide.{ℕ_discrete}
use Rattle.std.proofs.Math.ListN.{length}
use Rattle.std.proofs.Math.Dec.{ltb}
use borrow.Author.Tests.{lt-ltb, eq-eqb, ne_eqb}
use Rattle.tables.specs.declared.Geometry.{Geometry}
use Rattle.tables.specs.meaning.Basics.{pick}
use Rattle.tables.specs.meaning.Below.{any_below}
use Rattle.tables.specs.laws.Below.{none_any_below}
use Rattle.tables.specs.meaning.Geometry.{Valid}
use Rattle.tables.specs.meaning.Device.{Device}
use Rattle.tables.specs.meaning.Tables.{Tables, tables_of}
use Rattle.logs.specs.meaning.Entry.{kind_of_log}
use Rattle.volume.specs.declared.State.{State}
use Rattle.volume.specs.declared.roles.LogPlaces.{LogPlaces}
use Rattle.volume.specs.declared.log_room.RoomAsked.{RoomAsked}
use Rattle.volume.specs.declared.log_room.LogRoom.{LogRoom}
use Rattle.volume.specs.meaning.Roles.{Roles, claim_of_kind}
use Rattle.volume.specs.meaning.Refusals.{compact_full}
use Rattle.volume.specs.meaning.Emptying.{InForce, by_state, new_parity_size, unused_in, lacks_room, stays_full, spare_written, reserve, emptied_for}
use Rattle.volume.specs.meaning.CallContracts.{view_state, is_set, roles_of, seen_in}
use Rattle.volume.specs.checks.LogRoom.{drive_room_of, room_of, parity_room_at, SeenByRoles, size_agree, room_is, rooms_full, rooms_emptied, rooms_generation}
use Rattle.volume.specs.checks.Records.{points_in, points_in_at}
use Rattle.volume.specs.emptying.ParityCopies.{by_pointers}
use Rattle.compacting.specs.declared.Compaction.{Compaction}
use Rattle.volume.specs.looking.MovedLogs.{is_emptied, new_generation}

-- ---- one drive alone
abbrev pub only_drive : ℕ → List Bool
only_drive d = set (replicate 8 false) d true

pub only_at : (d e : ℕ) → d < 8 → is_set (only_drive d) e ≡ eqb e d
only_at d e h = go (ℕ_discrete e d)
  where
    none : (n i : ℕ) → get_or (replicate n false) i false ≡ false
    none zero i = refl
    none (suc n) zero = refl
    none (suc n) (suc i) = none n i

    go : Dec (e ≡ d) → is_set (only_drive d) e ≡ eqb e d
    go (yes q) = ap (is_set (only_drive d)) q ∙ get_or-set_same (replicate 8 false) d true false h ∙ sym (eq-eqb e d q)
    go (no q) = get_or-set_other (replicate 8 false) d e true false q ∙ none 8 e ∙ sym (ne_eqb e d q)

any_only : (f : ℕ → Bool) (n q : ℕ) → q < n → any_below (λ d. eqb d q && f d) n ≡ f q
any_only f zero q h = absurd (omega arith)
any_only f (suc n) q h = go (ℕ_discrete n q) (λ l. any_only f n q l)
  where
    last : (b : Bool) → b || false ≡ b
    last true = refl
    last false = refl

    go : Dec (n ≡ q) → (q < n → any_below (λ d. eqb d q && f d) n ≡ f q) → any_below (λ d. eqb d q && f d) n || (eqb n q && f n) ≡ f q
    go (yes i) ih =
        let none = none_any_below (λ d. eqb d q && f d) n (λ d l. ap (λ (b : Bool). b && f d) (ne_eqb d q (λ j. omega (arith, l, i, j)))) in
        ap₂ (λ (a b : Bool). a || (b && f n)) none (eq-eqb n q i) ∙ ap f i
    go (no i) ih = ap₂ (λ (a b : Bool). a || (b && f n)) (ih (omega (arith, h, i))) (ne_eqb n q i) ∙ last (f q)

-- ---- what it asks for
abbrev pub compact_asked : Compaction → LogPlaces → RoomAsked
compact_asked j p = record {
  first = j.first;
  places = p;
  here = j.here;
  due = only_drive j.drive;
  parity = true;
  below = j.first.capacity + 1;
  limit = reserve j.first;
  clears_spares = false;
}

abbrev pub compact_room : Compaction → LogPlaces → State → List ℕ → List ℕ → List ℕ → LogRoom
compact_room j p s xs ws ps = room_of (parity_room_at (compact_asked j p) (points_in s) xs ws ps) j.first.drives

-- what is in force, by the state that the call is handed
abbrev pub force_of : Compaction → State → Tables → InForce
force_of j s t = by_state j.first (is_set j.here) (seen_in j.first t) (view_state s)

module _ (j : Compaction) (p : LogPlaces) (s : State) (xs ws ps ds : List ℕ) (k : SeenByRoles j.first p xs ws ps) (ok : Valid j.first) (hd : j.drive < j.first.drives) where
  abbrev g : Geometry
  g = j.first

  abbrev r : ℕ → Roles
  r = roles_of j.first (tables_of xs ws ds)

  abbrev w : Device
  w = seen_in j.first (tables_of xs ws ds)

  abbrev in_force : InForce
  in_force = force_of j s (tables_of xs ws ds)

  abbrev emptied : ℕ → Bool
  emptied d = eqb d j.drive

  abbrev stays : ℕ → Bool
  stays d = stays_full j.first true (roles_of j.first (tables_of xs ws ds)) (reserve j.first) (new_parity_size j.first (force_of j s (tables_of xs ws ds)) d) d || spare_written (seen_in j.first (tables_of xs ws ds)) d

  -- whatever is unused
  lacks_all : (d : ℕ) → lacks_room g true r w (g.capacity + 1) d ≡ true
  unfolding unused_in
  lacks_all d = go (eqb (claim_of_kind true (r d)) 0)
    where
      go : (b : Bool) → ltb (pick b 0 (g.capacity - length (w d (kind_of_log true)).sectors)) (g.capacity + 1) ≡ true
      go true = lt-ltb 0 (g.capacity + 1) (omega arith)
      go false = lt-ltb (g.capacity - length (w d (kind_of_log true)).sectors) (g.capacity + 1) (omega arith)

  asked_is : (d : ℕ) → emptied_for g (is_set (only_drive j.drive)) true r w (g.capacity + 1) d ≡ emptied d
  unfolding emptied_for
  asked_is d = ap₂ (λ (a b : Bool). a && b) (only_at j.drive d (omega (arith, hd, ok.drives_most))) (lacks_all d) ∙ and_true (eqb d j.drive)
    where
      and_true : (b : Bool) → b && true ≡ b
      and_true true = refl
      and_true false = refl

  drive_room : (d : ℕ) → d < g.drives → parity_room_at (compact_asked j p) (points_in s) xs ws ps d ≡ drive_room_of (emptied d) (stays d) (r d).parity_claim
  unfolding parity_room_at
  drive_room d l =
      room_is (compact_asked j p) xs ws ps k ds d l (new_parity_size g (by_pointers (points_in s)) d)
      ∙ ap₂ (λ (b : Bool) (n : ℕ). drive_room_of b (stays_full g true r (reserve g) n d || spare_written w d) (r d).parity_claim) (asked_is d)
      (size_agree g (by_pointers (points_in s)) in_force d (λ z h. points_in_at s z (omega (arith, h, ok.zones_most))))

  -- refusal 14
  pub room_full : (compact_room j p s xs ws ps).full ≡ compact_full g r in_force w j.drive
  unfolding compact_full
  room_full = rooms_full (parity_room_at (compact_asked j p) (points_in s) xs ws ps) g.drives emptied stays (λ d. (r d).parity_claim) drive_room ∙ any_only stays g.drives j.drive hd

  pub room_emptied : (d : ℕ) → d < g.drives → is_emptied (compact_room j p s xs ws ps).emptied d ≡ emptied d
  room_emptied = rooms_emptied (parity_room_at (compact_asked j p) (points_in s) xs ws ps) g.drives emptied stays (λ d. (r d).parity_claim) drive_room

  pub room_generation : (compact_room j p s xs ws ps).full ≡ false → (d : ℕ) → d < g.drives → emptied d ≡ true → new_generation (compact_room j p s xs ws ps).emptied d ≡ (r d).parity_claim
  room_generation = rooms_generation (parity_room_at (compact_asked j p) (points_in s) xs ws ps) g.drives emptied stays (λ d. (r d).parity_claim) drive_room
