use mathlib.Core.Path.{refl, sym, ap, ap₂, ◌∙◌}
use mathlib.Core.Bool.{Bool, ◌||◌, ◌&&◌, not}
use Prim.Native.Nat.{ℕ, ◌^◌, ◌<◌}
use native.Mathlib.Omega.{arith}
use native.Mathlib.Numerals.{add-one}
use lib.Dec.{ltb}
use Rattle.logs.specs.meaning.Entry.{worn_generation}
use Rattle.volume.specs.checks.LogRoom.{claim_at, lost_at, placed_drives, placed_cells, kind_claimed, worn_claim}
use Rattle.volume.proofs.log_room.new_log.Goals as goal

-- the drive lacks a kind
pub returns-then-no_general-no_parity : goal.returns-then-no_general-no_parity
unfolding lost_at
returns-then-no_general-no_parity c = rw (sym (ap₂ (λ (x y : Bool). x || y) c.kind_lacks-no_general.ensures c.kind_lacks-no_parity.ensures) ∙ c.if-no_general-no_parity.true) refl

-- or has both
pub log_generation-old-requires-clause-sized : goal.log_generation-old-requires-clause-sized
log_generation-old-requires-clause-sized c =
    let a = c.args in
    let k = c.requires.asking.0 in
    let hd = c.requires.asking.1 in
    let both = sym (ap₂ (λ (x y : Bool). x || y) c.kind_lacks-no_general.ensures c.kind_lacks-no_parity.ensures) ∙ c.if-no_general-no_parity.false in
    (k.sized, hd, kind_claimed a.asked.first a.asked.places a.sectors.now a.written.now a.pointers.now k a.drive hd both a.asked.parity)

pub zone_pointer-spare-requires-clause-drive_lt_drives : goal.zone_pointer-spare-requires-clause-drive_lt_drives
zone_pointer-spare-requires-clause-drive_lt_drives c =
    let a = c.args in
    let k = c.requires.asking.0 in
    (rw (placed_drives a.asked.first a.asked.places a.sectors.now a.written.now a.pointers.now k) c.requires.asking.1, omega arith, placed_cells a.asked.first a.asked.places a.sectors.now a.written.now a.pointers.now k)

-- the rest of what makes it stay full
pub returns-then-old-clears : goal.returns-then-old-clears
unfolding lost_at worn_generation
returns-then-old-clears c =
    let a = c.args in
    let l = c.log_generation-old in
    let h : l.result < 2 ^ 64 = omega arith in
    let both = sym (ap₂ (λ (x y : Bool). x || y) c.kind_lacks-no_general.ensures c.kind_lacks-no_parity.ensures) ∙ c.if-no_general-no_parity.false in
    let lost = ap₂ (λ (x y : Bool). x || y) (worn_claim l.result (claim_at a.asked a.sectors.now a.written.now a.drive) h l.ensures) (ap (λ (n : ℕ). not a.asked.clears_spares && ltb 0 n) c.zone_pointer-spare.ensures.0) in
    rw (both, sym lost ∙ c.if-old-clears.true) refl

pub returns : goal.returns
unfolding lost_at worn_generation
returns c =
    let a = c.args in
    let l = c.log_generation-old in
    let h : l.result < 2 ^ 64 = omega arith in
    let both = sym (ap₂ (λ (x y : Bool). x || y) c.kind_lacks-no_general.ensures c.kind_lacks-no_parity.ensures) ∙ c.if-no_general-no_parity.false in
    let lost = ap₂ (λ (x y : Bool). x || y) (worn_claim l.result (claim_at a.asked a.sectors.now a.written.now a.drive) h l.ensures) (ap (λ (n : ℕ). not a.asked.clears_spares && ltb 0 n) c.zone_pointer-spare.ensures.0) in
    rw (both, sym lost ∙ c.if-old-clears.false, add-one, l.ensures) refl
