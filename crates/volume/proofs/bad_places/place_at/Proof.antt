use mathlib.Core.Path.{sym, ap, subst}
use Prim.Native.Nat.{◌<◌}
use native.Mathlib.Omega.{arith}
use Rattle.logs.specs.declared.WalkEnd.{WalkEnd}
use Rattle.volume.specs.looking.DriveLogs.{bad_place_seen}
use borrow.Author.Rules.{rules}
use Rattle.volume.proofs.bad_places.place_at.Statement.{statement}
use Rattle.volume.proofs.bad_places.place_at.Tie as tie

-- the sector has sixteen bits
cast-t10 : tie.Need-overflow_cast-result-in-NoEntry-2
cast-t10 c =
    let s = c.before.before in
    let h : c.in-NoEntry.sector < 65536 = subst (λ (w : WalkEnd). (bad_place_seen s.args.drive s.args.zone w).sector < 65536) c.in-NoEntry.is s.requires.2 in
    omega (arith, h)

returns-2 : tie.Need-returns-in-NoEntry
returns-2 c =
    let s = c.before.before in
    rw c.fault_number-number.ensures (sym (ap (bad_place_seen s.args.drive s.args.zone) c.in-NoEntry.is))

pub place_at_spec : {M : Type 1} → statement M
place_at_spec =
    tie.close
    (tie.spec (λ c. search rules) (λ c κs. search rules) (λ c. search rules) (λ c κs. search rules) (λ c. search rules) (λ c. search rules) cast-t10
    (λ c. search rules) (λ c κs. search rules) (λ c. search rules) returns-2 (λ c. search rules))
