use Prim.Native.Nat.{ℕ, ◌/◌, ◌%◌, ◌<◌}
use mathlib.Core.Path.{◌≡◌, sym, ap, ◌∙◌}
use mathlib.Core.List.{List, []}
use native.Mathlib.Nat.{mod-lt}
use native.Mathlib.Omega.{arith}
use Rattle.tables.specs.laws.Sizes.{needed_fits, small_address}
use Rattle.tables.specs.meaning.Placement.{parity_drive, address_at, stripe_of}
use Rattle.volume.specs.meaning.Content.{content_at, row_xor_below}
use Rattle.volume.specs.checks.Logging.{appended_as}
use Rattle.volume.specs.looking.Knowing.{read_device}
use Rattle.volume.specs.rows.RowsInPlace.{content_of, row_of_known}
use Rattle.mounting.specs.MountReady.{values_in}
use Rattle.volume.specs.laws.FillStores.{row_all, content_parity, content_data, parity_complete, parity_first, data_below}
use borrow.Author.Rules.{rules}
use Rattle.mounting.proofs.fill.fill_sector.Statement.{statement}
use Rattle.mounting.proofs.fill.fill_sector.Tie as tie

-- the values, and what is meant to lie there
abbrev values : tie.Start → ℕ → List ℕ
values s = let a = s.args in values_in a.known a.sectors.now a.pointers.now

abbrev sector : tie.Start → List ℕ
sector s = let a = s.args in content_at a.known.geometry.drives a.known.geometry.unit a.known.zone (values s) a.target.drive a.x

-- the sector lies within its physical zone
within : (s : tie.Start) → s.args.x < s.args.known.geometry.capacity
within s = let k = s.args.known in omega (arith, s.requires.1.1, needed_fits k.geometry s.requires.0 k.zone k.end s.args.target.drive s.requires.1.0.known_below.end_most)

two : (s : tie.Start) → 1 < s.args.known.geometry.drives
two s = omega (arith, s.requires.0.drives_least)

-- on the parity drive, the stripe is complete
abbrev Own : tie.Start → Type 0
Own s = let a = s.args in a.target.drive ≡ parity_drive a.known.geometry.drives a.known.zone (a.x / a.known.geometry.unit)

complete : (s : tie.Start) → Own s → s.args.x / s.args.known.geometry.unit < stripe_of s.args.known.geometry.drives s.args.known.geometry.unit s.args.known.end
complete s e = let k = s.args.known in parity_complete k.geometry.drives k.geometry.unit k.zone (two s) s.requires.0.unit_least k.end s.args.target.drive s.args.x s.requires.1.1 e

-- on another, the address is below the end
below : (s : tie.Start) → (Own s → ⊥) → address_at s.args.known.geometry.drives s.args.known.geometry.unit s.args.known.zone s.args.target.drive s.args.x < s.args.known.end
below s e = let k = s.args.known in data_below k.geometry.drives k.geometry.unit k.zone (two s) s.requires.0.unit_least k.end s.args.target.drive s.args.x (s.requires.1.0.rows 0).drive_in s.requires.1.1 e

parity-drive-requires : tie.Need-parity_drive-requires
parity-drive-requires c κs =
    let s = c.before.before.before in
    let a = s.args in
    let ready = s.requires.1.0 in
    (omega (arith, s.requires.0.drives_least), s.requires.0.drives_most, omega (arith, ready.known_below.readable.zone_in_lem, s.requires.0.zones_most), (small_address a.known.geometry a.target.drive a.x s.requires.0 (ready.rows 0).drive_in (within s)).stripes)

-- the branch to the parity drive
own : (c : tie.Then-drive-parity_drive) → Own c.before.before.before.before.before
own c = c.if-drive-parity_drive.true ∙ c.parity_drive.ensures.0

append-row-requires : tie.Need-append_row-requires
append-row-requires c κs =
    let s = c.before.before.before.before.before.before.before.before in
    let k = s.args.known in
    let x = s.args.x in
    (s.requires.0, (s.requires.1.0.rows (x / k.geometry.unit), parity_first k.geometry.drives k.geometry.unit k.zone (two s) s.requires.0.unit_least k.end (x / k.geometry.unit) (x % k.geometry.unit) (complete s (own c.before.before.before)) (mod-lt x s.requires.0.unit_least)))

returns : tie.Need-returns-then-drive-parity_drive
returns c =
    let s = c.before.before.before.before.before.before.before.before.before.before.before.before.before in
    let a = s.args in
    let k = a.known in
    let g = k.geometry in
    let f = c.append_row in
    let i = a.x / g.unit in
    let r = a.x % g.unit in
    let e = own c.before.before.before.before.before.before.before.before in
    appended_as a.known.to a.budget f.result a.target.present a.target.drive a.target.zone (row_xor_below g.drives g.unit (content_of k (read_device g a.sectors.now a.pointers.now) []) i k.end r) (sector s) a.sectors.now a.written.now f.new.sectors f.new.written
    (row_of_known k (read_device g a.sectors.now a.pointers.now) [] i r s.requires.1.0.no_buffer ∙ row_all g.drives g.unit k.zone (two s) s.requires.0.unit_least (values s) k.end i r (complete s e) (mod-lt a.x s.requires.0.unit_least)
    ∙ sym (content_parity g.drives g.unit k.zone (two s) s.requires.0.unit_least (values s) a.target.drive a.x e)) f.ensures

-- the other branch
other : (c : tie.Else-drive-parity_drive) → Own c.before.before.before.before.before → ⊥
other c e = c.if-drive-parity_drive.false (e ∙ sym c.parity_drive.ensures.0)

address-at-requires : tie.Need-address_at-a-requires
address-at-requires c κs =
    let s = c.before.before.before.before.before.before in
    (s.requires.0, (s.requires.1.0.known_below.readable.zone_in_lem, (s.requires.1.0.rows 0).drive_in, within s, other (c.before)))

append-value-requires : tie.Need-append_value-requires
append-value-requires c κs =
    let s = c.before.before.before.before.before.before.before.before.before in
    (s.requires.0, (s.requires.1.0, rw c.address_at-a.ensures.0 (below s (other c.before.before.before.before))))

returns-2 : tie.Need-returns
returns-2 c =
    let s = c.before.before.before.before.before.before.before.before.before.before.before.before.before.before in
    let a = s.args in
    let g = a.known.geometry in
    let f = c.append_value in
    let at = c.address_at-a in
    appended_as a.known.to a.budget f.result a.target.present a.target.drive a.target.zone (values s at.result) (sector s) a.sectors.now a.written.now f.new.sectors f.new.written
    (ap (values s) at.ensures.0 ∙ sym (content_data g.drives g.unit a.known.zone (two s) s.requires.0.unit_least (values s) a.target.drive a.x (other c.before.before.before.before.before.before.before.before.before))) f.ensures

pub fill_sector_spec : {M : Type 1} → statement M
fill_sector_spec =
    tie.close
    (tie.spec (λ c. search rules) parity-drive-requires (λ c. search rules) (λ c. search rules) (λ c. search rules) append-row-requires (λ c. search rules) (λ c. search rules) returns
    address-at-requires append-value-requires (λ c. search rules) (λ c. search rules) returns-2)
