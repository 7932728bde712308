use Rattle.std.proofs.Common.{◌≡◌, ◌-◌, ◌++◌, take}
use Rattle.zrv.specs.meaning.EdgeCalls.{bits_of}
use Rattle.zrv.proofs.input.named_drives.Given as goal

abbrev pub invariant-loop-drive : goal.invariant-loop-drive
invariant-loop-drive l = bits_of 8 l.mask ≡ take l.drive-index l.drive-items ++ bits_of (8 - l.drive-index) l.bits
