-- What a write reads, by the tables with the logs where they lie and the written pointers that hide those that lack: it is what the rules say of the device by
-- its roles. The values below a pointer, and refusal 15.
use Rattle.std.specs.Prelude.{◌≡◌, Bool, ◌&&◌, ℕ, ◌+◌, ◌*◌, List}
use Rattle.std.proofs.Common.{sym, ◌∙◌}
use Rattle.std.proofs.Math.Path.{ap, fun_ext}
use Rattle.std.proofs.Math.Bool.{not}
use Rattle.tables.specs.declared.Geometry.{Geometry}
use Rattle.tables.specs.meaning.Below.{any_below}
use Rattle.tables.specs.meaning.Geometry.{stripe_sectors}
use Rattle.tables.specs.meaning.Placement.{stripe_of}
use Rattle.tables.specs.meaning.Device.{Device}
use Rattle.tables.specs.meaning.Tables.{tables_of}
use Rattle.volume.specs.declared.roles.LogPlaces.{LogPlaces}
use Rattle.volume.specs.meaning.Content.{fill_of, parity_drive_at}
use Rattle.volume.specs.meaning.Rules.{View, known, zone_view, value_at, value_of}
use Rattle.volume.specs.meaning.Roles.{roles}
use Rattle.volume.specs.meaning.Refusals.{gone_in, gone_before}
use Rattle.volume.specs.meaning.CallContracts.{seen_in}
use Rattle.volume.specs.laws.LogPlaces.{logs_of}
use Rattle.volume.specs.laws.RulesUnread.{zone_view_alike, value_alike}
use Rattle.volume.specs.laws.CallsUnread.{gone_before_alike}
use Rattle.volume.specs.looking.Knowing.{read_device}
use Rattle.volume.specs.looking.KnowingLaws.{view_durable}
use Rattle.volume.specs.looking.SeenByRoles.{Seen, seen_rule}
use Rattle.volume.specs.checks.LogRoom.{SeenByRoles, placed_is}

pub seen_as_lem : (g : Geometry) (p : LogPlaces) (xs ws ps : List ℕ) → SeenByRoles g p xs ws ps → Seen g xs ws p ps
seen_as_lem g p xs ws ps k = record { first = k.logs_first; sized = k.sized; places = k.places_are; hidden = k.hidden }

module _ (g : Geometry) (p : LogPlaces) (xs ws ps : List ℕ) (k : SeenByRoles g p xs ws ps) (ds : List ℕ) (present : ℕ → Bool) where
  abbrev w : Device
  w = seen_in g (tables_of xs ws ds)

  -- as the code reads it
  abbrev v : Device
  v = read_device p.geometry xs ps

  abbrev bits : ℕ
  bits = logs_of (roles g (read_device g xs ws)) g.drives

  view_is : (z n : ℕ) → zone_view g present v z n ≡ zone_view g present w z n
  view_is z n =
      sym (zone_view_alike g bits present v z n) ∙ ap (λ (h : Geometry). zone_view h present v z n) (sym (placed_is g p xs ws ps k)) ∙ sym (view_durable p.geometry present xs ps ds z n)
      ∙ seen_rule g xs ws p ps (seen_as_lem g p xs ws ps k) (λ h u. zone_view h present u z n) (λ m u. zone_view_alike g m present u z n) ds

  value_in : (z n a : ℕ) → value_at g present v z n a ≡ value_at g present w z n a
  unfolding value_at
  value_in z n a = ap (λ (x : View). value_of g.drives g.unit z x a) (view_is z n)

  pub value_is : (z n : ℕ) → value_at p.geometry present v z n ≡ value_at g present w z n
  value_is z n = ap (λ (h : Geometry). value_at h present v z n) (placed_is g p xs ws ps k) ∙ value_alike g bits present v z n ∙ fun_ext (λ a. value_in z n a)

  gone_in_lem : (z n q : ℕ) → gone_before g present v z n q ≡ gone_before g present w z n q
  unfolding gone_before gone_in
  gone_in_lem z n q = ap (λ (x : View). present (parity_drive_at g z q) && any_below (λ i. not (known g.drives g.unit z x (stripe_of g.drives g.unit q * stripe_sectors g + i))) (fill_of g q)) (view_is z n)

  pub gone_before_is : (z n q : ℕ) → gone_before p.geometry present v z n q ≡ gone_before g present w z n q
  gone_before_is z n q = ap (λ (h : Geometry). gone_before h present v z n q) (placed_is g p xs ws ps k) ∙ gone_before_alike g bits present v z n q ∙ gone_in_lem z n q
