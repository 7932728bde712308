-- The values that a mount restores from: those of a zone's sectors below an end, all of them known.
use Rattle.std.specs.Prelude.{◌≡◌, Bool, true, ℕ, ◌≤◌, ◌<◌, ◌+◌, ◌*◌, List, length}
use Rattle.std.proofs.Common.{sym, ap, ◌∙◌, arith}
use Rattle.tables.specs.declared.Geometry.{Geometry}
use Rattle.tables.specs.meaning.Device.{Device}
use Rattle.tables.specs.meaning.Geometry.{zone_sectors, total_bytes, Valid, stripe_sectors}
use Rattle.tables.specs.meaning.Placement.{address}
use Rattle.volume.specs.meaning.Rules.{known, zone_view, seal_limit, value_at}
use Rattle.volume.specs.meaning.CallContracts.{is_set}
use Rattle.volume.specs.looking.Knowing.{Readable, read_device}
use Rattle.volume.specs.meaning.Content.{row_xor_below}
use Rattle.volume.specs.laws.Content.{row_long}
use Rattle.volume.specs.laws.KnownLengths.{value_long}

-- what reading the sectors of zone z below `end` relies on
pub record KnownBelow (g : Geometry) (here : List Bool) (xs ps : List ℕ) (z generation limit end : ℕ) : Type 0 where
  pub readable : Readable g here xs ps z
  pub limit_is : limit ≡ seal_limit g (is_set here) (read_device g xs ps) z generation
  pub end_most : end ≤ zone_sectors g
  pub all_known : (a : ℕ) → a < end → known g.drives g.unit z (zone_view g (is_set here) (read_device g xs ps) z generation) a ≡ true

-- the zone's values
abbrev pub values_of : Geometry → List Bool → List ℕ → List ℕ → ℕ → ℕ → ℕ → List ℕ
values_of g here xs ps z generation = value_at g (is_set here) (read_device g xs ps) z generation

-- known values stay known while the sectors below the pointers stay
pub known_kept : (g : Geometry) (here : List Bool) (xs xs' ps : List ℕ) (z generation limit end : ℕ) → length xs' ≡ total_bytes g → read_device g xs' ps ≡ read_device g xs ps → KnownBelow g here xs ps z generation limit end
    → KnownBelow g here xs' ps z generation limit end
known_kept g here xs xs' ps z generation limit end l e k = record {
  readable = record { zone_in_lem = k.readable.zone_in_lem; sectors_long = l; written_long = k.readable.written_long; pointers = k.readable.pointers };
  limit_is = k.limit_is ∙ sym (ap (λ (w : Device). seal_limit g (is_set here) w z generation) e);
  end_most = k.end_most;
  all_known = λ a h. ap (λ (w : Device). known g.drives g.unit z (zone_view g (is_set here) w z generation) a) e ∙ k.all_known a h;
}

-- known below an end, so below any lower one
pub known_lower : (g : Geometry) (here : List Bool) (xs ps : List ℕ) (z generation limit end low : ℕ) → low ≤ end → KnownBelow g here xs ps z generation limit end → KnownBelow g here xs ps z generation limit low
known_lower g here xs ps z generation limit end low h k = record { readable = k.readable; limit_is = k.limit_is; end_most = omega (arith, k.end_most); all_known = λ a l. k.all_known a (omega arith) }

-- each is one sector long, and so is a row of them
module _ (g : Geometry) (ok : Valid g) (here : List Bool) (xs ps : List ℕ) (z generation limit end : ℕ) (k : KnownBelow g here xs ps z generation limit end) where
  -- below an end up to which all is known
  pub known_long : (a : ℕ) → a < end → length (values_of g here xs ps z generation a) ≡ g.sector
  known_long a h = value_long g here xs ps z k.readable ok a (omega (arith, k.end_most)) generation (k.all_known a h)

  -- a row of them that has a sector below the end
  pub known_row_long : (s r : ℕ) → r < g.unit → s * stripe_sectors g + r < end → length (row_xor_below g.drives g.unit (values_of g here xs ps z generation) s end r) ≡ g.sector
  known_row_long s r hr h = row_long g ok (values_of g here xs ps z generation) s end r hr h (λ j hj l. known_long (address g.drives g.unit s j r) l)
