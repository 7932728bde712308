-- A log that is emptied into its drive's spare zone. Two geometries of one shape are at work: `from`, by which the old log and all else is read, below a copy
-- of the written pointers of the call's start; and `to`, by which the new log is written: its zone is the former spare. So nothing that is read by
-- `from` changes, but for the spare zone itself.
use Rattle.std.specs.Prelude.{◌≡◌, ◌≢◌, Bool, true, false, ℕ, ◌+◌, ◌*◌, ◌<◌, List, map, length}
use Rattle.std.proofs.Common.{sym, ap, ap₂, ◌∙◌, arith}
use Rattle.tables.specs.meaning.Geometry.{physical_zones, cells, total_bytes}
use Rattle.tables.specs.meaning.Device.{ZoneView}
use Rattle.tables.specs.meaning.Tables.{tables_of, zone_place, cell, sector_at}
use Rattle.tables.specs.laws.Tables.{cell_injective}
use Rattle.tables.specs.laws.Made.{WellSized, MadeAppends}
use Rattle.logs.specs.meaning.Entry.{general_zone, spare_zone, kind_of_log, Entry}
use Rattle.logs.specs.meaning.Walk.{walk_log}
use Rattle.volume.specs.declared.emptying.Emptying.{Emptying}
use Rattle.volume.specs.meaning.Rules.{general_heads}
use Rattle.volume.specs.meaning.Calls.{append_all}
use Rattle.volume.specs.looking.Knowing.{read_device}
use Rattle.volume.specs.emptying.Shape.{SameShape, shape_cells, shape_bytes}
use Rattle.volume.specs.emptying.Elsewhere.{SectorsLong, made_elsewhere, zone_kept}

-- the log of a kind moves: its new zone is the drive's former spare (par: the parity log)
pub record Moves (par : Bool) (e : Emptying) : Type 0 where
  pub shape : SameShape e.from e.to
  pub drive_in : e.drive < e.from.drives
  pub moved : zone_place e.to e.drive (kind_of_log par) ≡ zone_place e.from e.drive spare_zone

-- what the functions that copy rely on
pub record Copying (par : Bool) (e : Emptying) (ps xs ws : List ℕ) : Type 0 where
  pub moves : Moves par e
  pub sectors_long : length xs ≡ total_bytes e.from
  pub written_long : length ws ≡ cells e.from
  pub pointers_long : length ps ≡ cells e.from

log_in_lem : (par : Bool) (n : ℕ) → kind_of_log par < n + 3
log_in_lem true n = omega arith
log_in_lem false n = omega arith

-- what is read by `from` is the same in xs and ys, but for the spare zone of the drive
pub record SameRead (e : Emptying) (ps xs ys : List ℕ) : Type 0 where
  pub zone_same : (d z : ℕ) → d < e.from.drives → z < physical_zones e.from → (d ≡ e.drive → z ≢ spare_zone) → read_device e.from ys ps d z ≡ read_device e.from xs ps d z

module _ (par : Bool) (e : Emptying) (ps xs ws : List ℕ) (c : Copying par e ps xs ws) where
  abbrev m : Moves par e
  m = c.moves

  pub cell_moved : cell e.to e.drive (kind_of_log par) ≡ cell e.from e.drive spare_zone
  cell_moved = ap₂ (λ (a b : ℕ). e.drive * (a + 3) + b) m.shape.zones m.moved

  -- on the side of the new log
  pub to_drive : e.drive < e.to.drives
  to_drive = rw m.shape.drives m.drive_in

  pub to_sectors : length xs ≡ total_bytes e.to
  to_sectors = c.sectors_long ∙ sym (shape_bytes e.from e.to m.shape)

  pub to_written : length ws ≡ cells e.to
  to_written = c.written_long ∙ sym (shape_cells e.from e.to m.shape)

  pub to_log : kind_of_log par < physical_zones e.to
  to_log = log_in_lem par e.to.zones

  -- appends to the new log leave the sectors of all other zones as they were
  pub sectors_kept : (budget rest : ℕ) (ss : List (List ℕ)) (xs' ws' : List ℕ) → SectorsLong e.from.sector ss → MadeAppends e.to budget rest (append_all e.drive (kind_of_log par) ss) xs ws xs' ws'
      → (d z n : ℕ) → z < physical_zones e.from → (d ≡ e.drive → z ≢ spare_zone) → n < e.from.capacity → sector_at e.from xs' d z n ≡ sector_at e.from xs d z n
  sectors_kept budget rest ss xs' ws' l made d z n hz ne hn =
      let sized : WellSized e.to (tables_of xs ws ws) = record { sectors_long = to_sectors; written_long = to_written; durable_long = to_written } in
      let a = made_elsewhere e.to e.drive (kind_of_log par) to_drive to_log budget rest ss xs ws xs' ws' (rw m.shape.sector l) sized made in
      rw (m.shape.sector, m.shape.capacity) at (a.elsewhere (cell e.from d z) n (λ q. let i = cell_injective e.from e.drive spare_zone d z (omega arith) hz (q ∙ cell_moved) in ne i.0 i.1) (rw m.shape.capacity hn))

  -- after appends to the new log
  pub copying_kept : (budget rest : ℕ) (ss : List (List ℕ)) (xs' ws' : List ℕ) → SectorsLong e.from.sector ss → MadeAppends e.to budget rest (append_all e.drive (kind_of_log par) ss) xs ws xs' ws'
      → Copying par e ps xs' ws' × SameRead e ps xs xs'
  copying_kept budget rest ss xs' ws' l made =
      let sized : WellSized e.to (tables_of xs ws ws) = record { sectors_long = to_sectors; written_long = to_written; durable_long = to_written } in
      let a = made_elsewhere e.to e.drive (kind_of_log par) to_drive to_log budget rest ss xs ws xs' ws' (rw m.shape.sector l) sized made in (
        record {
          moves = m;
          sectors_long = a.sized.sectors_long ∙ shape_bytes e.from e.to m.shape;
          written_long = a.sized.written_long ∙ shape_cells e.from e.to m.shape;
          pointers_long = c.pointers_long;
        },
        record {
          zone_same = λ d z hd hz ne. zone_kept e.from ps xs xs' d z hd hz (λ n hn. sectors_kept budget rest ss xs' ws' l made d z n hz ne hn);
        },
      )

-- the headers of the old general log
pub heads_same : (e : Emptying) (ps xs ys : List ℕ) → e.drive < e.from.drives → SameRead e ps xs ys → general_heads e.from (read_device e.from ys ps) e.drive ≡ general_heads e.from (read_device e.from xs ps) e.drive
unfolding general_heads
heads_same e ps xs ys hd s =
    ap (λ (v : ZoneView). map (λ (x : Entry). x.head) (walk_log e.from e.drive false v.sectors).entries) (s.zone_same e.drive general_zone hd (omega arith) (λ q r. absurd (omega (arith, r))))
