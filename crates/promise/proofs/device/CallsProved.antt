-- A write and the calls that may empty logs owe nothing more.
use Rattle.std.specs.Prelude.{take}
use Rattle.tables.specs.meaning.Device.{apply_all}
use Rattle.tables.specs.meaning.Drives.{present_but}
use Rattle.tables.specs.declared.Geometry.{Geometry}
use Rattle.tables.specs.meaning.Geometry.{Valid}
use Rattle.volume.specs.meaning.Mount.{mount_stores}
use Rattle.promise.proofs.invariant.Delayed.{delayed_none}
use Rattle.promise.proofs.emptying.MountWhole.{mount_cuts}
use Rattle.promise.proofs.device.CallsOwed.{CallsOwed}
use Rattle.promise.proofs.device.PlainCalls.{write_owes}
use Rattle.promise.proofs.device.ResetCall.{reset_owes}
use Rattle.promise.proofs.device.CompactCall.{compact_owes}
use Rattle.promise.proofs.device.MountCall.{MountCuts, mount_owes}

-- on drives whose resets last at once
uncached_cuts : (g : Geometry) → Valid g → MountCuts g
uncached_cuts g ok x v l c ri ma =
    let r = mount_cuts g ok x v l c ri ma in
    ((λ n w cut. let ys = take n (mount_stores g (present_but g x) x v) in r.0 n (apply_all ys v) w (delayed_none g x v ys) cut), r.2)

pub calls_owed : (g : Geometry) → Valid g → CallsOwed g
calls_owed g ok = record { write = write_owes g ok; reset = reset_owes g ok; compact = compact_owes g ok; mount = mount_owes g (uncached_cuts g ok) }
