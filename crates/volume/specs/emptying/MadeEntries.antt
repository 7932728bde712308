-- A partial parity entry made for the new log, from the values below a zone's pointer. Its rows are built where they will lie: in the spare zone of `from`,
-- past the pointers below which the values are read.
use Rattle.std.specs.Prelude.{◌≡◌, refl, ℕ, zero, suc, ◌+◌, ◌-◌, ◌*◌, ◌/◌, ◌≤◌, ◌<◌, min, length, get_or, eqb}
use Rattle.std.proofs.Common.{sym, ap, ◌∙◌, le_refl, arith}
use Rattle.std.proofs.Math.Path.{subst, fun_ext}
use Rattle.std.proofs.Math.Bool.{true}
use Rattle.std.proofs.Math.Nat.{sub-zero, div-add-mod'}
use mathlib.Core.List.{List, [], ◌∷◌, append-nil}
use Rattle.tables.specs.laws.Basics.{eqb_same}
use Rattle.tables.specs.meaning.Below.{tabulate_from}
use Rattle.tables.specs.meaning.Geometry.{Valid, physical_zones, stripe_sectors, zone_sectors}
use Rattle.tables.specs.meaning.Placement.{stripe_of, stripe_length}
use Rattle.tables.specs.meaning.Device.{Device, Store, append}
use Rattle.tables.specs.meaning.Tables.{cell}
use Rattle.tables.specs.laws.Made.{MadeAppends}
use Rattle.logs.specs.meaning.Entry.{parity_zone, spare_zone, encode}
use Rattle.logs.specs.laws.Legal.{header_long}
use Rattle.volume.specs.declared.emptying.Emptying.{Emptying}
use Rattle.volume.specs.declared.emptying_parity.ZonePoint.{ZonePoint}
use Rattle.volume.specs.declared.rows.Extent.{Extent}
use Rattle.volume.specs.declared.rows.Target.{Target}
use Rattle.volume.specs.meaning.CallContracts.{is_set}
use Rattle.volume.specs.meaning.Calls.{append_all}
use Rattle.volume.specs.meaning.Content.{fill_of, entry_header, entry_at, row_xor_below}
use Rattle.volume.specs.meaning.Rules.{known, zone_view, value_at, seal_limit}
use Rattle.volume.specs.laws.CallContracts.{appends_append}
use Rattle.volume.specs.looking.Knowing.{read_device, Readable}
use Rattle.volume.specs.rows.SameShape.{shape_refl}
use Rattle.volume.specs.rows.KeptBelow.{Behind}
use Rattle.volume.specs.rows.RowStores.{rows_if}
use Rattle.volume.specs.rows.RowsInPlace.{content_of, RowsReady, row_of_known, ready_long, ready_kept}
use Rattle.volume.specs.emptying.Shape.{shape_encode}
use Rattle.volume.specs.emptying.Elsewhere.{SectorsLong, sectors_long_append}
use Rattle.volume.specs.emptying.Moving.{Copying}
use Rattle.volume.specs.emptying.ParityCopies.{made_at, entry_sectors, entries_on, carried_to_lem, carried_from}

-- ---- what it relies on: the pointer lies inside a stripe, and the stripe's sectors below it are known
pub record Making (e : Emptying) (p : ZonePoint) (ps xs ws : List ℕ) : Type 0 where
  pub copying : Copying true e ps xs ws
  pub behind : Behind e.from (λ y. eqb y spare_zone) ps ws
  pub in_zones : (d y : ℕ) → d < e.from.drives → is_set e.here d ≡ true → y < physical_zones e.from → get_or ps (cell e.from d y) 0 ≤ e.from.capacity
  pub zone_in_lem : p.number < e.from.zones
  pub pointer_most : p.pointer ≤ zone_sectors e.from
  pub inside : stripe_of e.from.drives e.from.unit p.pointer * stripe_sectors e.from < p.pointer
  pub stripe_known : (i : ℕ) → i < fill_of e.from p.pointer
      → known e.from.drives e.from.unit p.number (zone_view e.from (is_set e.here) (read_device e.from xs ps) p.number p.generation) (stripe_of e.from.drives e.from.unit p.pointer * stripe_sectors e.from + i) ≡ true

abbrev pub extent_of : Emptying → ZonePoint → ℕ → Extent
extent_of e p limit = record { geometry = e.from; to = e.from; here = e.here; zone = p.number; generation = p.generation; limit = limit; below = p.pointer; end = p.pointer }

abbrev pub spare_of : Emptying → Target
spare_of e = record { drive = e.drive; zone = spare_zone; present = true }

abbrev stripe_at : Emptying → ZonePoint → ℕ
stripe_at e p = stripe_of e.from.drives e.from.unit p.pointer

-- the values that it is made from
abbrev values_at : Emptying → ZonePoint → Device → ℕ → List ℕ
values_at e p v = value_at e.from (is_set e.here) v p.number p.generation

abbrev pub made_rows : Emptying → ZonePoint → Device → List (List ℕ)
made_rows e p v = tabulate_from (row_xor_below e.from.drives e.from.unit (values_at e p v) (stripe_at e p) p.pointer) 0 (min (fill_of e.from p.pointer) e.from.unit)

module _ (e : Emptying) (p : ZonePoint) (ps xs ws : List ℕ) (m : Making e p ps xs ws) where
  pub making_readable : Readable e.from e.here xs ps p.number
  making_readable = record { zone_in_lem = m.zone_in_lem; sectors_long = m.copying.sectors_long; written_long = m.copying.pointers_long; pointers = m.in_zones }

  pub making_ready : (limit : ℕ) → limit ≡ seal_limit e.from (is_set e.here) (read_device e.from xs ps) p.number p.generation → RowsReady (extent_of e p limit) (spare_of e) xs ws ps [] (stripe_at e p)
  making_ready limit l = record {
    shape = shape_refl e.from;
    drive_in = m.copying.moves.drive_in;
    zone_in_lem = omega arith;
    sectors_long = m.copying.sectors_long;
    written_long = m.copying.written_long;
    behind = m.behind;
    stripe_known = λ c. record {
      member = λ a h. record {
        readable = making_readable;
        end_most = m.pointer_most;
        known_is = λ u v. let i = a - stripe_at e p * stripe_sectors e.from in let q : stripe_at e p * stripe_sectors e.from + i ≡ a = omega (arith, h) in rw q at (m.stripe_known i (omega (arith, h, u)));
        limit_is = λ u v w. l;
        in_buffer = λ u v. absurd (omega (arith, u, v));
      };
    };
  }

  -- its rows are whole sectors
  made_long : Valid e.from → SectorsLong e.from.sector (made_rows e p (read_device e.from xs ps))
  made_long ok = go 0 (min (fill_of e.from p.pointer) e.from.unit) (omega arith)
    where
      limit : ℕ
      limit = seal_limit e.from (is_set e.here) (read_device e.from xs ps) p.number p.generation

      row : (r : ℕ) → r < min (fill_of e.from p.pointer) e.from.unit → length (row_xor_below e.from.drives e.from.unit (values_at e p (read_device e.from xs ps)) (stripe_at e p) p.pointer r) ≡ e.from.sector
      row r h =
          sym (ap (λ (l : List ℕ). length l) (row_of_known (extent_of e p limit) (read_device e.from xs ps) [] (stripe_at e p) r (le_refl p.pointer)))
          ∙ ready_long (extent_of e p limit) (spare_of e) xs ws ps [] (stripe_at e p) (making_ready limit refl) ok r (omega (arith, h)) (omega (arith, h, m.inside)) refl

      go : (i n : ℕ) → i + n ≤ min (fill_of e.from p.pointer) e.from.unit → SectorsLong e.from.sector (tabulate_from (row_xor_below e.from.drives e.from.unit (values_at e p (read_device e.from xs ps)) (stripe_at e p) p.pointer) i n)
      go i zero h = tt
      go i (suc n) h = (row i (omega arith), go (suc i) n (omega arith))

  pub made_entry_long : Valid e.from → SectorsLong e.from.sector (entry_sectors e (made_at e (read_device e.from xs ps) p ∷ []))
  unfolding entry_at
  made_entry_long ok = (header_long e.from e.drive (entry_header e.from p.number p.generation p.pointer) ok tt, sectors_long_append e.from.sector (made_rows e p (read_device e.from xs ps)) [] (made_long ok) tt)

  -- its end lies in the zone, by `to` as well (k: the sectors of a stripe, as the code has them)
  pub made_within : (k : ℕ) → k ≡ stripe_sectors e.from → p.pointer / k * stripe_sectors e.to + (p.pointer - p.pointer / k * k) ≤ zone_sectors e.to
  unfolding zone_sectors stripe_length
  made_within k q =
      let h = m.copying.moves.shape in
      let r : p.pointer / k * k + (p.pointer - p.pointer / k * k) ≤ zone_sectors e.from = omega (arith, div-add-mod' p.pointer k, m.pointer_most) in
      rw (h.drives, h.unit, h.capacity) (subst (λ (j : ℕ). p.pointer / k * j + (p.pointer - p.pointer / k * k) ≤ zone_sectors e.from) q r)

-- the rows as the code appends them
pub made_rows_are : (e : Emptying) (p : ZonePoint) (limit k n : ℕ) (v : Device) → k ≡ stripe_sectors e.from → n ≡ min (p.pointer - p.pointer / k * k) e.from.unit
    → rows_if true e.drive spare_zone (row_xor_below e.from.drives e.from.unit (content_of (extent_of e p limit) v []) (p.pointer / k) p.pointer) 0 n ≡ append_all e.drive spare_zone (made_rows e p v)
unfolding stripe_of
made_rows_are e p limit k n v a b =
    let rows : (ℕ → List ℕ) → ℕ → List Store = λ F i. append_all e.drive spare_zone (tabulate_from F 0 i) in
    ap (λ (F : ℕ → List ℕ). rows F (n - 0)) (fun_ext λ r. row_of_known (extent_of e p limit) v [] (p.pointer / k) r (le_refl p.pointer))
    ∙ ap (λ (i : ℕ). rows (row_xor_below e.from.drives e.from.unit (values_at e p v) (p.pointer / k) p.pointer) i) (sub-zero n ∙ b)
    ∙ ap (λ (j : ℕ). rows (row_xor_below e.from.drives e.from.unit (values_at e p v) (p.pointer / j) p.pointer) (min (p.pointer - p.pointer / j * j) e.from.unit)) a

-- ---- its header first: the rows can still be built
module _ (e : Emptying) (p : ZonePoint) (ok : Valid e.from) (budget rest : ℕ) (ps xs ws xs' ws' : List ℕ) (m : Making e p ps xs ws) where
  abbrev header : List ℕ
  header = encode e.from e.drive (entry_header e.from p.number p.generation p.pointer)

  module _ (h : MadeAppends e.to budget rest (append e.drive parity_zone (encode e.to e.drive (entry_header e.from p.number p.generation p.pointer)) ∷ []) xs ws xs' ws') where
    header_made : MadeAppends e.to budget rest (append e.drive parity_zone header ∷ []) xs ws xs' ws'
    header_made = rw (shape_encode e.from e.to m.copying.moves.shape e.drive (entry_header e.from p.number p.generation p.pointer)) at h

    abbrev limit : ℕ
    limit = seal_limit e.from (is_set e.here) (read_device e.from xs ps) p.number p.generation

    headed : RowsReady (extent_of e p limit) (spare_of e) xs' ws' ps [] (stripe_at e p) × (read_device e.from xs' ps ≡ read_device e.from xs ps)
    headed =
        ready_kept (extent_of e p limit) (spare_of e) xs ws ps [] (stripe_at e p) (making_ready e p ps xs ws m limit refl) budget rest (append e.drive spare_zone header ∷ []) xs' ws'
        ((m.copying.moves.drive_in, omega arith, header_long e.from e.drive (entry_header e.from p.number p.generation p.pointer) ok tt, eqb_same spare_zone), tt)
        (carried_from true e m.copying.moves budget rest (header ∷ []) xs ws xs' ws' header_made)

    headed_device : read_device e.from xs' ps ≡ read_device e.from xs ps
    headed_device = headed.1

    pub headed_making : Making e p ps xs' ws'
    headed_making = record {
      copying = record { moves = m.copying.moves; sectors_long = headed.0.sectors_long; written_long = headed.0.written_long; pointers_long = m.copying.pointers_long };
      behind = headed.0.behind;
      in_zones = m.in_zones;
      zone_in_lem = m.zone_in_lem;
      pointer_most = m.pointer_most;
      inside = m.inside;
      stripe_known = rw headed_device m.stripe_known;
    }

    -- and then its rows: all of the entry
    pub entry_made_lem : (last : ℕ) (xs'' ws'' : List ℕ) → MadeAppends e.from rest last (append_all e.drive spare_zone (made_rows e p (read_device e.from xs' ps))) xs' ws' xs'' ws''
        → MadeAppends e.to budget last (entries_on e (made_at e (read_device e.from xs ps) p ∷ [])) xs ws xs'' ws''
    unfolding entry_at
    entry_made_lem last xs'' ws'' r =
        let rows = made_rows e p (read_device e.from xs ps) in
        let two : MadeAppends e.to rest last (append_all e.drive parity_zone rows) xs' ws' xs'' ws'' = carried_to_lem true e m.copying.moves rest last rows xs' ws' xs'' ws'' (rw headed_device at r) in
        subst (λ (l : List (List ℕ)). MadeAppends e.to budget last (append e.drive parity_zone header ∷ append_all e.drive parity_zone l) xs ws xs'' ws'') (sym (append-nil rows))
        (appends_append e.to budget rest last (append e.drive parity_zone header ∷ []) (append_all e.drive parity_zone rows) xs ws xs' ws' xs'' ws'' header_made two)
