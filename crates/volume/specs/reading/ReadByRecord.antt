-- A read by one zone's record (src/by_record.rt): the read of the call by every state that says so of the zone.
use Rattle.std.specs.Prelude.{◌≡◌, ◌≢◌, ℕ, ◌≤◌, ◌<◌, List, length}
use Rattle.std.proofs.Common.{sym, ap₂, ◌∙◌, arith}
use Rattle.tables.specs.meaning.Geometry.{zone_sectors}
use Rattle.tables.specs.meaning.Tables.{tables_of}
use Rattle.volume.specs.declared.State.{State}
use Rattle.volume.specs.declared.ZoneRecord.{ZoneRecord}
use Rattle.volume.specs.declared.by_record.ByRecord.{ByRecord}
use Rattle.volume.specs.meaning.Refusals.{zone_of, offset_of}
use Rattle.volume.specs.meaning.CallContracts.{read_number, read_on}
use Rattle.volume.specs.checks.CheckLaws.{opened_from, opening_number, opens}
use Rattle.volume.specs.checks.ByRecord.{RecordFits, SaysOf, present_named, opening_by}
use Rattle.volume.specs.reading.Reading.{buffer_long, read_first, read_8, read_refused}
use Rattle.volume.specs.reading.ReadZone.{ReadAsked, zone_read_number, zone_read_left, zone_by, zone_read_is, zone_left_is}

-- `count` sectors from address a: its number and its buffer
pub record ReadBy (by : ByRecord) (a count : ℕ) (xs ws out : List ℕ) (n : ℕ) (left : List ℕ) : Type 0 where
  pub number_is : (s : State) (ds : List ℕ) → SaysOf by a s ws ds → n ≡ read_number by.geometry by.named s a count (length out) (tables_of xs ws ds)
  pub left_is : (s : State) (ds : List ℕ) → SaysOf by a s ws ds → left ≡ (read_on by.geometry by.named s a count out (tables_of xs ws ds)).buffer

module _ (by : ByRecord) (a count : ℕ) (xs ws out : List ℕ) (f : RecordFits by ws) where
  abbrev first : ℕ
  first = opened_from by.geometry by.named by.lost count (length out) (length xs) by.bad

  opening_is : (s : State) (ds : List ℕ) → SaysOf by a s ws ds → first ≡ opening_number by.geometry by.named s count (length out) (length xs) ws ds
  opening_is s ds q = opening_by by a count (length out) (length xs) s ws ds f.written_long q

  -- refused: the buffer stays
  refused_by_lem : (n : ℕ) → n ≢ 0 → ((s : State) (ds : List ℕ) → SaysOf by a s ws ds → n ≡ read_number by.geometry by.named s a count (length out) (tables_of xs ws ds)) → ReadBy by a count xs ws out n out
  refused_by_lem n ne e = record { number_is = e; left_is = λ s ds q. sym (read_refused by.geometry by.named s a count out (tables_of xs ws ds) (λ k. ne (e s ds q ∙ k))).1 }

  pub read_by_first : first ≢ 0 → ReadBy by a count xs ws out first out
  read_by_first ne = refused_by_lem first ne (λ s ds q. let e = opening_is s ds q in e ∙ read_first by.geometry by.named s a count (length out) xs ws ds (λ k. ne (e ∙ k)))

  module _ (o : first ≡ 0) where
    pub read_by_8 : by.geometry.zones ≤ zone_of by.geometry a → ReadBy by a count xs ws out 8 out
    read_by_8 h = refused_by_lem 8 (λ e. absurd (omega (arith, e))) (λ s ds q. read_8 by.geometry by.named s a count (length out) xs ws ds (sym (opening_is s ds q) ∙ o) h)

    module _ (h : zone_of by.geometry a < by.geometry.zones) where
      pub read_by_asked : offset_of by.geometry a < zone_sectors by.geometry → count ≤ 4294967295 → ReadAsked (zone_by by.geometry by.named by.lost by.record a) by.record.condition xs ws (offset_of by.geometry a) count out
      read_by_asked starts small =
          let p = opens by.geometry by.named by.lost count (length out) (length xs) by.bad o in
          record {
            readable = record { zone_in_lem = h; sectors_long = p.sectors_long; written_long = f.written_long; pointers = λ d y hd e hy. f.in_zones p.good d y hd (present_named by.geometry by.named by.lost d e) hy };
            logs_first = f.logs_first;
            one_absent = p.one_absent;
            pointer_in_lem = f.pointer_in_lem;
            starts_in = omega (arith, starts);
            count_small = small;
            buffer_long = buffer_long by.geometry count (length out) p.buffer;
          }

      abbrev number_by : ℕ → ZoneRecord → ℕ
      number_by x r = zone_read_number (zone_by by.geometry by.named x r a) r.condition xs ws (offset_of by.geometry a) count

      abbrev left_by : ℕ → ℕ → ZoneRecord → List ℕ
      left_by n x r = zone_read_left (zone_by by.geometry by.named x r a) xs ws (offset_of by.geometry a) count out n

      pub read_by_zone : (n : ℕ) (left : List ℕ) → n ≡ number_by by.lost by.record → left ≡ left_by n by.lost by.record → ReadBy by a count xs ws out n left
      read_by_zone n left e l = record {
        number_is = number;
        left_is = λ s ds q. l ∙ ap₂ (left_by n) (sym q.lost_is) (sym q.record_is) ∙ zone_left_is by.geometry by.named s a count xs ws ds out (sym (opening_is s ds q) ∙ o) h n (number s ds q);
      }
        where
          number : (s : State) (ds : List ℕ) → SaysOf by a s ws ds → n ≡ read_number by.geometry by.named s a count (length out) (tables_of xs ws ds)
          number s ds q = e ∙ ap₂ number_by (sym q.lost_is) (sym q.record_is) ∙ zone_read_is by.geometry by.named s a count xs ws ds out (sym (opening_is s ds q) ∙ o) h
