-- Drives that cache a zone reset until flushed (document 02, 2.4). Beside the device stands what its caches remember: of each drive and zone the views that it
-- had just before each reset since the drive's last flush. A cut leaves of each place what a cut leaves of its view, or of a remembered one: "until then a cut
-- may leave the zone as one just before that reset could", also where sectors were appended since. A drive whose resets last at once is covered: laws/Cached.
use Rattle.std.specs.Prelude.{◌≢◌, ◌⊎◌, ◌&&◌, ℕ, eqb}
use mathlib.Core.List.{List, [], ◌∷◌, Memᴰ}
use Rattle.tables.specs.meaning.Basics.{pick}
use Rattle.tables.specs.meaning.Device.{ZoneView, Device, Store, append, reset, flush, apply, ZoneCut}

pub record Caching : Type 0 where
  pub now : Device
  pub was : ℕ → ℕ → List ZoneView  -- of each drive and zone, what may come back

-- nothing is remembered
abbrev pub uncached : Device → Caching
uncached v = record { now = v; was = λ d z. [] }

-- a store: a reset is remembered, a flush forgets the drive's
abbrev pub apply_caching : Store → Caching → Caching
apply_caching (append d z s) c = record { now = apply (append d z s) c.now; was = c.was }
apply_caching (reset d z) c = record { now = apply (reset d z) c.now; was = λ e y. pick (eqb e d && eqb y z) (c.now e y ∷ c.was e y) (c.was e y) }
apply_caching (flush d) c = record { now = apply (flush d) c.now; was = λ e y. pick (eqb e d) [] (c.was e y) }

abbrev pub apply_all_caching : List Store → Caching → Caching
apply_all_caching [] c = c
apply_all_caching (x ∷ xs) c = apply_all_caching xs (apply_caching x c)

-- ---- a cut of every drive but x, the lost one: of each place what a cut leaves of its view, or of a remembered one
abbrev pub LeftOf : ZoneView → List ZoneView → ZoneView → Type 0
LeftOf a was b = ZoneCut a b ⊎ ((o : ZoneView) × Memᴰ o was × ZoneCut o b)

unfoldable pub CachingCut : ℕ → Caching → Device → Type 0
CachingCut x c w = (d z : ℕ) → d ≢ x → LeftOf (c.now d z) (c.was d z) (w d z)
