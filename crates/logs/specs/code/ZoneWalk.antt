-- A log in its zone's own bytes: what the reader is laid over. The zone's part of the lent bytes has the sectors that the lent bytes have at
-- that zone, so the walk of the one, and each step of it, is that of the other.
use Rattle.std.specs.Prelude.{◌≡◌, Result, Bool, ℕ, suc, ◌+◌, ◌-◌, ◌*◌, ◌≤◌, ◌<◌, List, length, take, drop}
use Rattle.std.proofs.Common.{sym, ap, ◌∙◌, mul-le-mul, mul-le-mul_right, mul_assoc, suc-mul, arith, length-drop, length-take-le, take-add, take-take, drop_at, drop-drop}
use Rattle.tables.specs.declared.Geometry.{Geometry}
use Rattle.tables.specs.meaning.Geometry.{Valid, physical_zones, cells, total_bytes}
use Rattle.tables.specs.meaning.Tables.{sector_no, cell}
use Rattle.tables.specs.laws.Tables.{cell_in}
use Rattle.tables.specs.meaning.Below.{tabulate}
use Rattle.tables.specs.laws.Below.{tabulate_cong}
use Rattle.logs.specs.declared.Found.{Found}
use Rattle.logs.specs.declared.WalkEnd.{WalkEnd}
use Rattle.logs.specs.meaning.Walk.{walk_log}
use Rattle.logs.specs.code.WalkCode.{InLog, log_sectors, walk_end_of, end_place, left_at}
use Rattle.logs.specs.code.Steps.{step_of}

-- a log's place in its zone's own bytes: the first n sectors
pub record InZone (g : Geometry) (n : ℕ) (bytes : List ℕ) : Type 0 where
  pub short : n ≤ g.capacity
  pub long : length bytes ≡ g.capacity * g.sector

-- the first n sectors, of B bytes each
abbrev pub sectors_in : ℕ → List ℕ → ℕ → List (List ℕ)
sectors_in B xs n = tabulate (λ i. sector_no B xs i) n

-- w is where the legal part of the log ends, and why
pub record LegalEnd (g : Geometry) (drive : ℕ) (parity : Bool) (n : ℕ) (bytes : List ℕ) (w : WalkEnd) : Type 0 where
  pub ends : w ≡ walk_end_of (walk_log g drive parity (sectors_in g.sector bytes n))
  pub within : end_place w ≤ n

-- the step of the walk at sector p
unfoldable pub step_in_zone : Geometry → ℕ → Bool → ℕ → List ℕ → ℕ → Result (Found × ℕ) WalkEnd
step_in_zone g drive parity n bytes p = step_of g p (left_at g drive parity (sectors_in g.sector bytes n) p)

-- the bytes of a zone, of all that are lent
abbrev pub zone_bytes : Geometry → ℕ → ℕ → List ℕ → List ℕ
zone_bytes g d z xs = take (g.capacity * g.sector) (drop (cell g d z * (g.capacity * g.sector)) xs)

-- ---- where a sector lies in its zone, and a zone in the lent bytes
pub sector_in_zone : (g : Geometry) (p n : ℕ) → p < n → n ≤ g.capacity → p * g.sector + g.sector ≤ g.capacity * g.sector
sector_in_zone g p n h k = let l : suc p ≤ g.capacity = omega arith in rw suc-mul at (mul-le-mul_right g.sector l)

pub zone_bytes_small : (g : Geometry) → Valid g → g.capacity * g.sector ≤ 268435456
zone_bytes_small g ok = omega (arith, mul-le-mul {n₂ = 65536} {m₂ = 4096} ok.zone_most ok.sector_most)

pub zone_in_sectors : (g : Geometry) (d z : ℕ) → d < g.drives → z < physical_zones g → cell g d z * (g.capacity * g.sector) + g.capacity * g.sector ≤ total_bytes g
zone_in_sectors g d z h k = rw (mul_assoc (cells g) g.capacity g.sector) (rw suc-mul at (mul-le-mul_right (g.capacity * g.sector) (cell_in g d z h k)))

-- ---- the zone's own sectors are the log's
-- sector i of the c sectors that begin at sector k
part_sector : (B c k i : ℕ) (xs : List ℕ) → i < c → k * B + c * B ≤ length xs → sector_no B (take (c * B) (drop (k * B) xs)) i ≡ sector_no B xs (k + i)
part_sector B c k i xs h fits =
    let part = drop (k * B) xs in
    let rest = c * B - i * B in
    let room : i * B + B ≤ c * B = rw suc-mul at (mul-le-mul_right B h) in
    let split : c * B ≡ i * B + rest = omega arith in
    let before : length (take (i * B) part) ≡ i * B = length-take-le (i * B) part (rw length-drop (omega arith)) in
    let place : k * B + i * B ≡ (k + i) * B = omega arith in
    ap (λ (m : ℕ). take B (drop (i * B) (take m part))) split ∙ ap (λ (l : List ℕ). take B (drop (i * B) l)) (take-add (i * B) rest part)
    ∙ ap (take B) (drop_at (take (i * B) part) (take rest (drop (i * B) part)) (i * B) before) ∙ take-take B rest (drop (i * B) part) (omega arith)
    ∙ ap (take B) (drop-drop (i * B) (k * B) xs) ∙ ap (λ (m : ℕ). take B (drop m xs)) place

pub zone_sectors_are_log : (g : Geometry) (d z n : ℕ) (xs : List ℕ) → InLog g d z n xs → sectors_in g.sector (zone_bytes g d z xs) n ≡ log_sectors g d z xs n
zone_sectors_are_log g d z n xs ok =
    let start : cell g d z * (g.capacity * g.sector) ≡ cell g d z * g.capacity * g.sector = sym (mul_assoc (cell g d z) g.capacity g.sector) in
    let fits : cell g d z * g.capacity * g.sector + g.capacity * g.sector ≤ length xs = omega (arith, start, zone_in_sectors g d z ok.drive_in ok.zone_in_lem, ok.long) in
    tabulate_cong (λ (i : ℕ). sector_no g.sector (zone_bytes g d z xs) i) (λ (i : ℕ). sector_no g.sector xs (cell g d z * g.capacity + i)) n
    (λ i l. ap (λ (m : ℕ). sector_no g.sector (take (g.capacity * g.sector) (drop m xs)) i) start
    ∙ part_sector g.sector g.capacity (cell g d z * g.capacity) i xs (omega (arith, ok.short)) fits)

-- and the log has its place in the zone's part
pub zone_part_in_zone : (g : Geometry) (d z n : ℕ) (xs : List ℕ) → InLog g d z n xs → InZone g n (zone_bytes g d z xs)
zone_part_in_zone g d z n xs ok =
    let start = cell g d z * (g.capacity * g.sector) in
    let fits : g.capacity * g.sector ≤ length xs - start = omega (arith, zone_in_sectors g d z ok.drive_in ok.zone_in_lem, ok.long) in
    record { short = ok.short; long = length-take-le (g.capacity * g.sector) (drop start xs) (rw length-drop fits) }

-- so the log's legal part ends where the zone's own bytes say
pub legal_end_of_log : (g : Geometry) (d z : ℕ) (par : Bool) (n : ℕ) (xs : List ℕ) (w : WalkEnd) → InLog g d z n xs → LegalEnd g d par n (zone_bytes g d z xs) w
    → (w ≡ walk_end_of (walk_log g d par (log_sectors g d z xs n))) × (end_place w ≤ n)
legal_end_of_log g d z par n xs w ok e =
    let same = zone_sectors_are_log g d z n xs ok in
    (e.ends ∙ ap (λ (ss : List (List ℕ)). walk_end_of (walk_log g d par ss)) same, e.within)

-- and its steps are those of the zone's own bytes
pub step_of_log : (g : Geometry) (d z : ℕ) (par : Bool) (n p : ℕ) (xs : List ℕ) → InLog g d z n xs → step_in_zone g d par n (zone_bytes g d z xs) p ≡ step_of g p (left_at g d par (log_sectors g d z xs n) p)
unfolding step_in_zone
step_of_log g d z par n p xs ok = ap (λ (ss : List (List ℕ)). step_of g p (left_at g d par ss p)) (zone_sectors_are_log g d z n xs ok)
