-- Refusal 15 of a write that empties a parity log, zone by zone: the entry at the zone's pointer has to be made, and a sector that it is made of is not known.
use Rattle.std.specs.Prelude.{◌≡◌, Bool, true, false, ◌&&◌, ◌||◌, not, ℕ, ◌*◌, ◌≤◌, ◌<◌, List, [], ◌∷◌, map, length, get_or, eqb}
use Rattle.std.proofs.Math.Path.{refl}
use Rattle.std.proofs.Common.{ap, ◌∙◌, arith, ltb-true}
use Rattle.tables.specs.declared.Geometry.{Geometry}
use Rattle.tables.specs.meaning.Below.{any_below}
use Rattle.tables.specs.meaning.Geometry.{physical_zones, stripe_sectors, cells, total_bytes}
use Rattle.tables.specs.meaning.Placement.{stripe_of}
use Rattle.tables.specs.meaning.Device.{Device}
use Rattle.tables.specs.meaning.Tables.{cell}
use Rattle.tables.specs.meaning.Lists.{any_of}
use Rattle.logs.specs.meaning.Entry.{Entry, Header, parity_zone}
use Rattle.logs.specs.meaning.Heads.{ends_at}
use Rattle.logs.specs.declared.Log.{Log}
use Rattle.logs.specs.code.Query.{log_heads}
use Rattle.logs.specs.code.WalkCode.{log_sectors}
use Rattle.logs.specs.meaning.Walk.{walk_log}
use Rattle.volume.specs.meaning.Content.{inside_stripe, fill_of, parity_drive_at}
use Rattle.tables.specs.laws.Basics.{and_split}
use Rattle.volume.specs.meaning.Rules.{parity_entries, value_at}
use Rattle.volume.specs.meaning.Refusals.{gone_in}
use Rattle.volume.specs.meaning.Emptying.{InForce, gone_for_copies}
use Rattle.volume.specs.meaning.CallContracts.{is_set}
use Rattle.volume.specs.looking.DriveLogs.{zone_pointer, log_in, parity_entries_lem}
use Rattle.volume.specs.looking.Knowing.{read_device, Readable}
use Rattle.volume.specs.emptying.ParityCopies.{PointersWithin, copied_at}

-- what is in force: generations gs and pointers qs, values by rule 4
abbrev pub in_force_of : Geometry → (ℕ → Bool) → Device → List ℕ → List ℕ → InForce
in_force_of g present v gs qs = record { generation = λ z. get_or gs z 0; pointer = λ z. get_or qs z 0; value = λ z. value_at g present v z (get_or gs z 0) }

-- the log of drive d has an entry at pointer q of zone z, of generation n
abbrev pub found_at : Geometry → Device → ℕ → ℕ → ℕ → ℕ → Bool
found_at g v d z n q = any_of (λ (e : Entry). ends_at g z n q e.head) (parity_entries g v d)

unfoldable pub gone_at : Geometry → (ℕ → Bool) → Device → ℕ → ℕ → ℕ → ℕ → Bool
gone_at g present v d z n q = (copied_at g d z q && not (found_at g v d z n q)) && gone_in g present v z n (stripe_of g.drives g.unit q * stripe_sectors g) (fill_of g q)

pub gone_copies_are : (g : Geometry) (present : ℕ → Bool) (v : Device) (gs qs : List ℕ) (d : ℕ) → any_below (λ z. gone_at g present v d z (get_or gs z 0) (get_or qs z 0)) g.zones ≡ gone_for_copies g present (in_force_of g present v gs qs) v d
unfolding gone_at gone_for_copies gone_in
gone_copies_are g present v gs qs d = refl

-- what the functions rely on
pub record CopiesReady (g : Geometry) (here : List Bool) (xs ps gs qs : List ℕ) : Type 0 where
  pub sectors_long : length xs ≡ total_bytes g
  pub pointers_long : length ps ≡ cells g
  pub in_zones : (d y : ℕ) → d < g.drives → is_set here d ≡ true → y < physical_zones g → get_or ps (cell g d y) 0 ≤ g.capacity
  pub generations_long : g.zones ≤ length gs
  pub pointers_within : PointersWithin g qs

pub copies_readable : (g : Geometry) (here : List Bool) (xs ps gs qs : List ℕ) → CopiesReady g here xs ps gs qs → (z : ℕ) → z < g.zones → Readable g here xs ps z
copies_readable g here xs ps gs qs r z h = record { zone_in_lem = h; sectors_long = r.sectors_long; written_long = r.pointers_long; pointers = r.in_zones }

any_heads : (t : Header → Bool) (es : List Entry) → any_of t (map (λ (x : Entry). x.head) es) ≡ any_of (λ (x : Entry). t x.head) es
any_heads t [] = refl
any_heads t (x ∷ es) = ap (λ (b : Bool). t x.head || b) (any_heads t es)

pub copied_some : (g : Geometry) (d z q : ℕ) → copied_at g d z q ≡ true → 0 < q
copied_some g d z q h =
    let l = ltb-true (stripe_of g.drives g.unit q * stripe_sectors g) q (and_split (inside_stripe g q) (eqb d (parity_drive_at g z q)) h).0 in
    omega (arith, l)

-- as the code asks the log
pub found_is : (g : Geometry) (xs ps : List ℕ) (d z n q : ℕ) (l : Log) → d < g.drives → l ≡ log_in g ps d parity_zone → any_of (ends_at g z n q) (log_heads g l.drive true l.zone l.written xs) ≡ found_at g (read_device g xs ps) d z n q
found_is g xs ps d z n q l hd e =
    ap (λ (k : Log). any_of (ends_at g z n q) (log_heads g k.drive true k.zone k.written xs)) e ∙ any_heads (ends_at g z n q) (walk_log g d true (log_sectors g d parity_zone xs (zone_pointer g ps d parity_zone))).entries
    ∙ ap (any_of (λ (x : Entry). ends_at g z n q x.head)) (parity_entries_lem g xs ps d hd (zone_pointer g ps d parity_zone) refl)

module _ (g : Geometry) (present : ℕ → Bool) (v : Device) (d z n q : ℕ) where
  pub gone_uncopied : copied_at g d z q ≡ false → false ≡ gone_at g present v d z n q
  unfolding gone_at
  gone_uncopied e = rw e refl

  pub gone_found : copied_at g d z q ≡ true → found_at g v d z n q ≡ true → false ≡ gone_at g present v d z n q
  unfolding gone_at
  gone_found e f = rw (e, f) refl

  pub gone_made : copied_at g d z q ≡ true → found_at g v d z n q ≡ false → gone_in g present v z n (stripe_of g.drives g.unit q * stripe_sectors g) (fill_of g q) ≡ gone_at g present v d z n q
  unfolding gone_at
  gone_made e f = rw (e, f) refl
