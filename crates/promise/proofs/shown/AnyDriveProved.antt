-- Any drive may go after a mount on the device and on the tables, of drives whose resets last at once: it does on drives that cache them (AnyDriveOlder).
use Rattle.tables.specs.declared.Geometry.{Geometry}
use Rattle.volume.specs.meaning.Refusals.{TableLengths}
use Rattle.promise.specs.meaning.OnDevice.{on_device}
use Rattle.promise.specs.meaning.OnTables.{on_tables}
use Rattle.promise.specs.meaning.Caches.{device_caches}
use Rattle.promise.specs.meaning.CachesOnTables.{tables_caches}
use Rattle.promise.specs.meaning.AnyDrive.{AnyDriveClaim}
use Rattle.promise.proofs.device.OlderDrives.{device_older_cuts}
use Rattle.promise.proofs.tables.CachedTablesClaim.{tables_older_cuts}
use Rattle.promise.proofs.shown.AnyDriveOlder.{older_any_drive}
use Rattle.promise.proofs.shown.AnyDriveCaching.{any_drive_on_caching_device, any_drive_on_caching_tables}

pub any_drive_on_device : (g : Geometry) (t : TableLengths) → AnyDriveClaim g (on_device g t)
any_drive_on_device g t = older_any_drive g (on_device g t) (device_caches g t) (device_older_cuts g t) (any_drive_on_caching_device g t)

pub any_drive_on_tables : (g : Geometry) → AnyDriveClaim g (on_tables g)
any_drive_on_tables g = older_any_drive g (on_tables g) (tables_caches g) (tables_older_cuts g) (any_drive_on_caching_tables g)
