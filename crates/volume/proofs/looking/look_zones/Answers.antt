use Rattle.std.proofs.Common.{ℕ, ◌<◌, arith, add-one}
use Rattle.volume.specs.meaning.CallContracts.{is_set, zone_look_of}
use Rattle.volume.specs.meaning.Rules.{zone_shown}
use Rattle.volume.specs.laws.FilledArrays.{fill_more}
use Rattle.volume.specs.looking.Knowing.{read_device}
use Rattle.volume.specs.checks.Records.{blank_look}
use Rattle.volume.proofs.looking.look_zones.Goals as goal

pub loop-z-preserved : goal.loop-z-preserved
loop-z-preserved c =
    let a = c.args in
    let h : c.loop-z.z < 16 = omega arith in
    rw (c.loop-z.invariant, c.look_zone.ensures, add-one) (fill_more (λ (i : ℕ). zone_look_of (zone_shown a.g (is_set a.here) (read_device a.g a.sectors.now a.written.now) i)) blank_look 16 c.loop-z.z h)
