-- THE CLAIM ON DRIVES THAT CACHE RESETS holds: its calls owe nothing more. And a finished reset lasts there (meaning/ResetLasts).
use Rattle.tables.specs.declared.Geometry.{Geometry}
use Rattle.tables.specs.meaning.Geometry.{Valid}
use Rattle.volume.specs.meaning.Refusals.{TableLengths}
use Rattle.promise.specs.meaning.Caches.{on_caching_device, CachingDeviceClaim}
use Rattle.promise.specs.meaning.ResetLasts.{ResetsLast}
use Rattle.promise.proofs.shown.ResetLasts.{resets_last}
use Rattle.promise.proofs.device.CachedEvents.{CachesOwed, caching_device_keeps}
use Rattle.promise.proofs.device.CachedReset.{reset_owes_cached}
use Rattle.promise.proofs.device.CachedCompact.{compact_owes_cached}
use Rattle.promise.proofs.device.CachedOwn.{write_owes_cached}

pub caches_owed : (g : Geometry) → Valid g → CachesOwed g
caches_owed g ok = record { write = write_owes_cached g ok; reset = reset_owes_cached g ok; compact = compact_owes_cached g ok }

pub caching_device_keeps_the_promise : CachingDeviceClaim
caching_device_keeps_the_promise = caching_device_keeps caches_owed

pub caching_resets_last : (g : Geometry) (t : TableLengths) → ResetsLast g (on_caching_device g t)
caching_resets_last g t = resets_last g (on_caching_device g t) (caching_device_keeps_the_promise g t)
