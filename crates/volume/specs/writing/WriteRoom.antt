-- What a write asks of the parity logs, as the code asks it (src/write_room.rt): refusal 14.
use Rattle.std.specs.Prelude.{◌≡◌, refl, Bool, true, false, ◌&&◌, ◌||◌, ℕ, ◌+◌, ◌<◌, List, ltb, eqb}
use Rattle.std.proofs.Common.{ap, ◌∙◌, arith, ne_eqb}
use Rattle.tables.specs.declared.Geometry.{Geometry}
use Rattle.tables.specs.meaning.Basics.{pick}
use Rattle.tables.specs.meaning.Geometry.{Valid}
use Rattle.tables.specs.meaning.Placement.{stripe_of}
use Rattle.tables.specs.laws.Placement.{parity_drive_below}
use Rattle.tables.specs.meaning.Tables.{tables_of}
use Rattle.volume.specs.declared.Zone.{Zone}
use Rattle.volume.specs.declared.roles.LogPlaces.{LogPlaces}
use Rattle.volume.specs.declared.write_room.EntryDrive.{EntryDrive}
use Rattle.volume.specs.declared.write_room.EntryTaken.{EntryTaken}
use Rattle.volume.specs.meaning.Content.{inside_stripe, parity_drive_at}
use Rattle.volume.specs.meaning.Hosts.{entry_taken}
use Rattle.volume.specs.meaning.Refusals.{write_full}
use Rattle.volume.specs.meaning.Emptying.{entry_size, reserve, write_limit, unused_in}
use Rattle.volume.specs.meaning.CallContracts.{is_set, roles_of, seen_in}
use Rattle.volume.specs.looking.ShownState.{parity_unused, unused_seen}
use Rattle.volume.specs.checks.LogRoom.{SeenByRoles}
use Rattle.volume.specs.writing.WriteSeen.{seen_as_lem}

-- the drive that gets the entry
abbrev pub entry_drive_of : Geometry → ℕ → ℕ → EntryDrive
entry_drive_of g z end = record { inside = inside_stripe g end; drive = parity_drive_at g z end }

-- and what it takes there
abbrev pub entry_taken_of : Zone → ℕ → EntryTaken
entry_taken_of zone end = record { drive = parity_drive_at zone.geometry zone.number end; sectors = entry_taken zone.geometry (is_set zone.here) zone.number end }

-- an entry on a drive that is here
abbrev pub has_entry : Zone → ℕ → Bool
has_entry zone end = inside_stripe zone.geometry end && is_set zone.here (parity_drive_at zone.geometry zone.number end)

-- takes some sectors; where there is none, none are taken
pub by_entry_lem {ℓ} : {A : Type ℓ} (zone : Zone) (end : ℕ) (x y : A) → pick (eqb (entry_taken_of zone end).sectors 0) x y ≡ pick (has_entry zone end) y x
by_entry_lem zone end x y = go (has_entry zone end)
  where
    go : (b : Bool) → pick (eqb (pick b (entry_size zone.geometry end) 0) 0) x y ≡ pick b y x
    go true = ap (λ (b : Bool). pick b x y) (ne_eqb (entry_size zone.geometry end) 0 (omega arith))
    go false = refl

pub entry_takes : (zone : Zone) (end : ℕ) → has_entry zone end ≡ true → (entry_taken_of zone end).sectors ≡ entry_size zone.geometry end
entry_takes zone end e = ap (λ (b : Bool). pick b (entry_size zone.geometry end) 0) e

-- ---- refusal 14, by the entry
unfoldable pub full_at : Geometry → LogPlaces → ℕ → List ℕ → EntryTaken → Bool
full_at g p share ps e = pick (eqb e.sectors 0) false (ltb share e.sectors || ltb (parity_unused p ps e.drive) (e.sectors + reserve g))

-- it is the rules'
pub full_is : (zone : Zone) (p : LogPlaces) (share end : ℕ) (xs ws ps ds : List ℕ) → SeenByRoles zone.geometry p xs ws ps → Valid zone.geometry
    → full_at zone.geometry p share ps (entry_taken_of zone end) ≡ write_full zone.geometry (is_set zone.here) (roles_of zone.geometry (tables_of xs ws ds)) (seen_in zone.geometry (tables_of xs ws ds)) share zone.number end
unfolding full_at write_full
full_is zone p share end xs ws ps ds k ok = by_entry_lem zone end false (asks (entry_taken_of zone end).sectors) ∙ go (has_entry zone end) refl
  where
    g : Geometry
    g = zone.geometry

    own : ℕ
    own = parity_drive_at zone.geometry zone.number end

    own_below : own < g.drives
    own_below = parity_drive_below g.drives g.unit zone.number (omega (arith, ok.drives_least)) ok.unit_least (stripe_of g.drives g.unit end)

    unused : ℕ
    unused = unused_in g true (roles_of g (tables_of xs ws ds)) (seen_in g (tables_of xs ws ds)) own

    asks : ℕ → Bool
    asks n = ltb share n || ltb (parity_unused p ps own) (n + reserve g)

    go : (b : Bool) → has_entry zone end ≡ b → pick b (asks (entry_taken_of zone end).sectors) false ≡ b && (ltb share (entry_size g end) || ltb unused (write_limit g end))
    go true e = ap asks (entry_takes zone end e) ∙ ap (λ (n : ℕ). ltb share (entry_size g end) || ltb n (write_limit g end)) (unused_seen g xs ws p ps (seen_as_lem g p xs ws ps k) ds own own_below)
    go false e = refl
