-- Adler-32: its two sums stay below the modulus, so no addition wraps.
use Rattle.std.specs.Prelude.{◌<◌}
use Rattle.replaying.specs.declared.Sums.{Sums}

pub record Small (s : Sums) : Type 0 where
  pub low : s.low < 65521
  pub high : s.high < 65521
