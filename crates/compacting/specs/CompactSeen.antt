-- What a compact reads, by the tables with the logs where they lie and the written pointers that hide those that lack: it is what the rules say of the device
-- by its roles. The entries of a parity log, what is in force, refusal 15.
use Rattle.std.specs.Prelude.{◌≡◌, ◌&&◌, get_or}
use Rattle.std.proofs.Common.{sym, ◌∙◌, arith}
use Rattle.std.proofs.Math.Path.{ap, ap₂, fun_ext}
use Rattle.std.proofs.Math.Bool.{Bool, true, not}
use Prim.Native.Nat.{ℕ, ◌+◌, ◌*◌, ◌<◌}
use mathlib.Core.List.{List}
use Rattle.std.proofs.Math.Dec.{eqb}
use Rattle.tables.specs.declared.Geometry.{Geometry}
use Rattle.tables.specs.meaning.Below.{any_below}
use Rattle.tables.specs.laws.Below.{any_below_cong}
use Rattle.tables.specs.meaning.Geometry.{Valid, stripe_sectors}
use Rattle.tables.specs.meaning.Placement.{stripe_of}
use Rattle.tables.specs.meaning.Device.{Device}
use Rattle.tables.specs.meaning.Lists.{any_of}
use Rattle.tables.specs.meaning.Tables.{tables_of}
use Rattle.logs.specs.meaning.Entry.{Entry, parity_zone}
use Rattle.logs.specs.meaning.Heads.{ends_at}
use Rattle.logs.specs.meaning.Walk.{walk_log}
use Rattle.volume.specs.declared.State.{State}
use Rattle.volume.specs.declared.roles.LogPlaces.{LogPlaces}
use Rattle.volume.specs.meaning.State.{pointer_in}
use Rattle.volume.specs.meaning.Content.{inside_stripe, fill_of, parity_drive_at}
use Rattle.volume.specs.meaning.Rules.{View, known, zone_view, value_at, value_of, parity_entries}
use Rattle.volume.specs.meaning.Roles.{roles}
use Rattle.volume.specs.meaning.Emptying.{InForce, by_state, gone_for_copies}
use Rattle.volume.specs.meaning.CallContracts.{record_at, view_state, seen_in}
use Rattle.volume.specs.laws.LogPlaces.{logs_of}
use Rattle.volume.specs.laws.RulesUnread.{entries_alike, zone_view_alike, value_alike}
use Rattle.volume.specs.laws.EmptyingUnread.{gone_for_copies_alike}
use Rattle.volume.specs.looking.Knowing.{read_device}
use Rattle.volume.specs.looking.KnowingLaws.{view_durable}
use Rattle.volume.specs.looking.SeenByRoles.{Seen, seen_rule}
use Rattle.volume.specs.checks.LogRoom.{SeenByRoles, placed_is, seen_sectors}
use Rattle.volume.specs.checks.Records.{generations_in, generations_in_at, points_in, points_in_at}
use Rattle.volume.specs.emptying.CopiesKnown.{in_force_of}

pub seen_as_lem : (g : Geometry) (p : LogPlaces) (xs ws ps : List ℕ) → SeenByRoles g p xs ws ps → Seen g xs ws p ps
seen_as_lem g p xs ws ps k = record { first = k.logs_first; sized = k.sized; places = k.places_are; hidden = k.hidden }

module _ (g : Geometry) (p : LogPlaces) (xs ws ps : List ℕ) (k : SeenByRoles g p xs ws ps) (ds : List ℕ) (present : ℕ → Bool) where
  abbrev w : Device
  w = seen_in g (tables_of xs ws ds)

  -- as the code reads it
  abbrev v : Device
  v = read_device p.geometry xs ps

  abbrev bits : ℕ
  bits = logs_of (roles g (read_device g xs ws)) g.drives

  view_is : (z n : ℕ) → zone_view g present v z n ≡ zone_view g present w z n
  view_is z n =
      sym (zone_view_alike g bits present v z n) ∙ ap (λ (h : Geometry). zone_view h present v z n) (sym (placed_is g p xs ws ps k)) ∙ sym (view_durable p.geometry present xs ps ds z n)
      ∙ seen_rule g xs ws p ps (seen_as_lem g p xs ws ps k) (λ h u. zone_view h present u z n) (λ m u. zone_view_alike g m present u z n) ds

  entries_in : (d : ℕ) → parity_entries g v d ≡ parity_entries g w d
  unfolding parity_entries
  entries_in d = ap (λ (l : List (List ℕ)). (walk_log g d true l).entries) (seen_sectors g p xs ws ps k ds d parity_zone)

  pub entries_are : (d : ℕ) → parity_entries p.geometry v d ≡ parity_entries g w d
  entries_are d = ap (λ (h : Geometry). parity_entries h v d) (placed_is g p xs ws ps k) ∙ entries_alike g bits v d ∙ entries_in d

  value_in : (z n a : ℕ) → value_at g present v z n a ≡ value_at g present w z n a
  unfolding value_at
  value_in z n a = ap (λ (x : View). value_of g.drives g.unit z x a) (view_is z n)

  value_is : (z n : ℕ) → value_at p.geometry present v z n ≡ value_at g present w z n
  value_is z n = ap (λ (h : Geometry). value_at h present v z n) (placed_is g p xs ws ps k) ∙ value_alike g bits present v z n ∙ fun_ext (λ a. value_in z n a)

  module _ (s : State) (ok : Valid g) where
    abbrev in_force : InForce
    in_force = by_state g present w (view_state s)

    abbrev read : InForce
    read = in_force_of p.geometry present v (generations_in s) (points_in s)

    copies_in : (d : ℕ) → gone_for_copies g present read v d ≡ gone_for_copies g present in_force w d
    unfolding gone_for_copies
    copies_in d = any_below_cong (λ z. one z (get_or (generations_in s) z 0) (get_or (points_in s) z 0) (parity_entries g v d) (zone_view g present v z (get_or (generations_in s) z 0)))
        (λ z. one z (record_at s z).generation (pointer_in (record_at s z).condition) (parity_entries g w d) (zone_view g present w z (record_at s z).generation)) g.zones
        (λ z h. let few : z < 16 = omega (arith, h, ok.zones_most) in
        ap₂ (λ (n q : ℕ). one z n q (parity_entries g v d) (zone_view g present v z n)) (generations_in_at s z few) (points_in_at s z few)
        ∙ ap₂ (λ (es : List Entry) (x : View). one z (record_at s z).generation (pointer_in (record_at s z).condition) es x) (entries_in d) (view_is z (record_at s z).generation))
      where
        one : ℕ → ℕ → ℕ → List Entry → View → Bool
        one z n q es x =
            ((inside_stripe g q && eqb d (parity_drive_at g z q)) && not (any_of (λ (e : Entry). ends_at g z n q e.head) es))
            && any_below (λ i. not (known g.drives g.unit z x (stripe_of g.drives g.unit q * stripe_sectors g + i))) (fill_of g q)

    -- refusal 15
    pub copies_gone_is : (d : ℕ) → gone_for_copies p.geometry present read v d ≡ gone_for_copies g present in_force w d
    copies_gone_is d = ap (λ (h : Geometry). gone_for_copies h present read v d) (placed_is g p xs ws ps k) ∙ gone_for_copies_alike g bits present read v d ∙ copies_in d

    -- what is in force of the volume's zones
    pub in_force_is : (z : ℕ) → z < g.zones → (read.generation z ≡ in_force.generation z) × (read.pointer z ≡ in_force.pointer z) × (read.value z ≡ in_force.value z)
    in_force_is z h =
        let few : z < 16 = omega (arith, h, ok.zones_most) in
        (generations_in_at s z few, points_in_at s z few, value_is z (get_or (generations_in s) z 0) ∙ ap (λ (n : ℕ). value_at g present w z n) (generations_in_at s z few))
