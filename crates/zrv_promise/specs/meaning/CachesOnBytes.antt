-- The volume as a host in C has it, on drives that cache resets: beside the lent bytes stands what the caches remember. The stores that a function makes are those of
-- the call on the tables that the bytes hold; a cut leaves as many bytes as there were, which hold what a cut of such drives leaves of the tables.
use Rattle.std.specs.Prelude.{ℕ}
use Rattle.tables.specs.declared.Geometry.{Geometry}
use Rattle.tables.specs.meaning.Tables.{device_of}
use Rattle.promise.specs.meaning.Claim.{Volume, KeepsPromise}
use Rattle.promise.specs.meaning.Caches.{Caches, with_caches}
use Rattle.promise.specs.meaning.CachesOnTables.{TablesCachingCut, tables_caches}
use Rattle.zrv.specs.meaning.Bytes.{state_from}
use Rattle.zrv.specs.meaning.EdgeCalls.{named_of}
use Rattle.promise.specs.meaning.Isolation.{DesksIsolated}
use Rattle.zrv_promise.specs.meaning.OnBytes.{tables_at, StillBytes, on_bytes}

abbrev pub bytes_caches : (g : Geometry) → Caches (on_bytes g)
bytes_caches g = record {
  device = λ m. device_of g (tables_at g m);
  made = λ c mask st stop m. (tables_caches g).made c (named_of mask) (state_from g st) stop (tables_at g m);
  CutTo = λ x m was u. StillBytes m u × TablesCachingCut g x (tables_at g m) was (tables_at g u);
}

abbrev pub on_caching_bytes : Geometry → Volume
on_caching_bytes g = with_caches (on_bytes g) (bytes_caches g)

-- THE PROMISE ON BYTES, on drives that cache resets
abbrev pub CachingBytesClaim : Type 0
CachingBytesClaim = (g : Geometry) → KeepsPromise g (on_caching_bytes g)

-- AND ISOLATION (promise's Isolation): on older drives, and on drives that cache resets
abbrev pub IsolationBytesClaim : Type 0
IsolationBytesClaim = (g : Geometry) → DesksIsolated g (on_bytes g) × DesksIsolated g (on_caching_bytes g)
