use mathlib.Core.Path.{◌≡◌, refl, sym, ◌∙◌}
use mathlib.Core.Bool.{true, false}
use Rattle.volume.specs.checks.LogRoom.{kind_lacks_at, log_in_lem}
use borrow.Author.Rules.{rules}
use Rattle.volume.proofs.log_room.unused.Statement.{statement}
use Rattle.volume.proofs.log_room.unused.Tie as tie

returns : tie.Need-returns-then-kind_lacks
returns c =
    let a = c.args in
    let e : kind_lacks_at a.asked.places a.asked.parity a.drive ≡ true = sym c.kind_lacks.ensures ∙ c.if-kind_lacks.true in
    rw e refl

zone-pointer-requires : tie.Need-zone_pointer-n-requires
zone-pointer-requires c κs =
    let s = c.before.before.before.before in
    (s.requires.0, (s.requires.1.0, rw c.log_zone-zone.ensures (log_in_lem s.args.asked.parity s.args.asked.places.geometry.zones), s.requires.1.1))

returns-2 : tie.Need-returns
returns-2 c =
    let a = c.args in
    let e : kind_lacks_at a.asked.places a.asked.parity a.drive ≡ false = sym c.kind_lacks.ensures ∙ c.if-kind_lacks.false in
    rw (e, c.zone_pointer-n.ensures.0, c.log_zone-zone.ensures) refl

pub unused_spec : {M : Type 1} → statement M
unused_spec = tie.close (tie.spec (λ c κs. search rules) returns (λ c κs. search rules) zone-pointer-requires (λ c. search rules) returns-2)
