use Rattle.std.proofs.Common.{Bool, true, ◌||◌, ℕ, ◌-◌, sym, ap, ◌∙◌}
use Rattle.std.proofs.Math.Dec.{ltb}
use Rattle.std.specs.Prelude.{Some, None}
use Rattle.tables.specs.meaning.Basics.{pick}
use Rattle.volume.specs.declared.roles.Counting.{Counting}
use Rattle.volume.specs.looking.DriveLogs.{zone_pointer}
use Rattle.volume.specs.laws.LogPlaces.{with_parity}
use Rattle.volume.specs.laws.LogClaims.{strengths}
use Rattle.volume.specs.looking.LogZones.{zones_read, counting_of}
use Rattle.volume.specs.writing.WriteDirectly.{entry_log}
use Rattle.volume.proofs.write_directly.entry_log.Goals as goal

-- by whether the log that was found lacks room
pub returns-then-log-g : goal.returns-then-log-g
unfolding entry_log
returns-then-log-g c =
    let a = c.args in
    let test : Counting → ℕ → Bool = λ k n. k.lacks || ltb (a.g.capacity - n) a.limit in
    let k : Counting = counting_of (strengths a.g a.drive (zones_read a.g a.sectors.now a.written.now a.drive) true) in
    let e = ap (test c.find_parity-log.result) (c.zone_pointer-n.ensures.0) ∙ ap (λ (k : Counting). test k (zone_pointer a.g a.written.now a.drive k.zone)) c.find_parity-log.ensures in
    sym (ap (λ (b : Bool). pick b None (Some (with_parity a.g a.drive k.zone))) (sym e ∙ c.if-log-g.true))

pub returns : goal.returns
unfolding entry_log
returns c =
    let a = c.args in
    let test : Counting → ℕ → Bool = λ k n. k.lacks || ltb (a.g.capacity - n) a.limit in
    let k : Counting = counting_of (strengths a.g a.drive (zones_read a.g a.sectors.now a.written.now a.drive) true) in
    let e = ap (test c.find_parity-log.result) (c.zone_pointer-n.ensures.0) ∙ ap (λ (k : Counting). test k (zone_pointer a.g a.written.now a.drive k.zone)) c.find_parity-log.ensures in
    ap Some (c.place_parity.ensures ∙ ap (λ (k : Counting). with_parity a.g a.drive k.zone) c.find_parity-log.ensures)
    ∙ sym (ap (λ (b : Bool). pick b None (Some (with_parity a.g a.drive k.zone))) (sym e ∙ c.if-log-g.false))
