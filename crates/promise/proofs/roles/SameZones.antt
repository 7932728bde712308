-- Two devices with the same logs and data zones on the present drives: the invariant and rest hold of both, where on the second no more of a zone is durable than
-- it has sectors, and none has more than fit. Spares differ so (Spares), and what lies outside the geometry (SamePlaces).
use Rattle.std.specs.Prelude.{◌≡◌, refl, ℕ, ◌≤◌, ◌<◌, length}
use Rattle.std.proofs.Common.{sym, le_refl}
use Rattle.std.proofs.Math.Seq.{take-length}
use Rattle.tables.specs.laws.Lists.{prefix_refl}
use Rattle.tables.specs.meaning.Device.{Device}
use Rattle.tables.specs.declared.Geometry.{Geometry}
use Rattle.tables.specs.meaning.Geometry.{physical_zones, data_zone}
use Rattle.logs.specs.meaning.Entry.{general_zone, parity_zone}
use Rattle.volume.specs.declared.Condition.{Condition}
use Rattle.volume.specs.declared.Condition.TheVariants.{Empty, Open, Sealed, Worn}
use Rattle.volume.specs.meaning.State.{StateView}
use Rattle.promise.specs.meaning.Ledger.{Ledger}
use Rattle.promise.proofs.invariant.Invariant.{Ghost, Here, LogsOk, Inv, Rest, Plain, Shape}
use Rattle.promise.proofs.invariant.HoldsLess.{with_logs, Less, less_zone, less_live, less_capped}

pub record SameZones (g : Geometry) (x : ℕ) (u w : Device) : Type 0 where
  pub general : (d : ℕ) → Here g x d → w d general_zone ≡ u d general_zone
  pub parity : (d : ℕ) → Here g x d → w d parity_zone ≡ u d parity_zone
  pub data_zone_lem : (d z : ℕ) → Here g x d → z < g.zones → w d (data_zone z) ≡ u d (data_zone z)

-- no more of a zone is durable than it has sectors, and none has more than fit
pub record InBounds (g : Geometry) (x : ℕ) (w : Device) : Type 0 where
  pub lasting : (d y : ℕ) → Here g x d → y < physical_zones g → (w d y).durable ≤ length (w d y).sectors
  pub fits : (d y : ℕ) → Here g x d → y < physical_zones g → length (w d y).sectors ≤ g.capacity

module _ (g : Geometry) (x : ℕ) (u w : Device) (k : SameZones g x u w) (γ : Ghost) where
  abbrev δ : Ghost
  δ = with_logs γ γ.general γ.parity

  pub same_less : Less g x x u w γ γ.general γ.parity
  same_less = record {
    here = λ d a. a;
    general_sub = λ d a h m. m;
    general_lasts_lem = λ d a h m. rw (k.general d a) m;
    general_cuts = λ d a j h. (j, rw (← k.general d a) h, refl);
    parity_sub = λ d a e m. record { of = e; is_set = m; heads = refl; many = length e.rows; rows_are = sym (take-length e.rows) };
    parity_lasts_lem = λ d a e q m. rw (k.parity d a) m;
    data_sub = λ d z hz a. rw (k.data_zone_lem d z a hz) (prefix_refl (u d (data_zone z)).sectors);
    data_lasts = λ d z hz a. rw (k.data_zone_lem d z a hz) (le_refl (u d (data_zone z)).durable);
  }

  module _ (b : InBounds g x w) where
    pub same_logs : LogsOk g x u γ → LogsOk g x w δ
    same_logs lg = record {
      lost_ok = lg.lost_ok;
      array_lt = lg.array_lt;
      general_is = λ d a. rw (k.general d a) (lg.general_is d a);
      general_reads = lg.general_reads;
      first = lg.first;
      first_lasts = λ d a. rw (k.general d a) (lg.first_lasts d a);
      arrays = lg.arrays;
      labels = λ d a. rw (k.general d a) (lg.labels d a);
      general_closes = lg.general_closes;
      general_closed = λ d a. rw (k.general d a) (lg.general_closed d a);
      parity_closes = lg.parity_closes;
      parity_closed_lem = λ d a. rw (k.parity d a) (lg.parity_closed_lem d a);
      parity_is = λ d a. rw (k.parity d a) (lg.parity_is d a);
      parity_lawful = lg.parity_lawful;
      parity_fits = lg.parity_fits;
      lasting = b.lasting;
      place_fits = b.fits;
    }

    pub same_inv : (l : Ledger) → Inv g x u l γ → Inv g x w l δ
    same_inv l i = record { logs = same_logs i.logs; zones = λ z hz. less_zone g x x u w γ γ.general γ.parity i.logs same_less l z hz (i.zones z hz) }

    pub same_rest : (state : StateView) (l : Ledger) → Rest g x u state l γ → Rest g x w state l δ
    same_rest state l r = record {
      logs = same_logs r.logs;
      zones = λ z hz. let q = r.zones z hz in record {
        live = less_live g x x u w γ γ.general γ.parity r.logs same_less l z hz q.live;
        generation_is = q.generation_is;
        pointer_is = q.pointer_is;
        strong_now = record { places = λ d a. rw (k.data_zone_lem d z a hz) (q.strong_now.places d a); entry = q.strong_now.entry };
        shape = shaped z hz (state.condition z) q.shape;
        sectors = q.sectors;
        no_flag = q.no_flag;
      };
      whole = r.whole;
      lost_is = r.lost_is;
    }
      where
        plain : (z : ℕ) → z < g.zones → Plain g x u γ l z → Plain g x w δ l z
        plain z hz p = record { all_content = p.all_content; just = λ d a. rw (k.data_zone_lem d z a hz) (p.just d a); no_seal = p.no_seal; unworn = p.unworn }

        shaped : (z : ℕ) → z < g.zones → (c : Condition) → Shape g x u γ l z c → Shape g x w δ l z c
        shaped z hz Empty p = plain z hz p
        shaped z hz (Open n) p = plain z hz p
        shaped z hz (Sealed n) p = (less_capped g x x u w γ γ.general γ.parity r.logs same_less z (length (l.content z)) p.0, p.1, p.2)
        shaped z hz (Worn n) p = p
