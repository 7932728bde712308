-- A flush, stopped anywhere or finished: the sectors stay and more of them is durable, which the invariant allows. A finished one commits
-- every content: all that the state's pointers need is durable then, and so are the partial parity entries at the pointers.
use Rattle.std.specs.Prelude.{◌≡◌, ◌⊎◌, true, ℕ, ◌+◌, ◌≤◌, ◌<◌, length, take}
use Rattle.std.proofs.Math.Path.{refl}
use Rattle.std.proofs.Common.{sym, ◌∙◌, inl, inr, le_refl, le_trans, arith}
use mathlib.Core.List.{List, [], ◌∷◌, Memᴰ}
use Rattle.std.proofs.Math.Seq.{take-length}
use Rattle.tables.specs.meaning.Device.{ZoneView, Device, flushed, apply_all}
use Rattle.tables.specs.laws.Local.{LocalStore, flush_here, apply_all_here, local_stores, local_is, local_take}
use Rattle.tables.specs.laws.Lists.{Prefix, prefix_refl, prefix_one, mem_more}
use Rattle.tables.specs.meaning.Phases.{flush_all, on_present}
use Rattle.tables.specs.laws.Phases.{flush_all_local, on_present_local, flush_all_flushes}
use Rattle.tables.specs.declared.Geometry.{Geometry}
use Rattle.tables.specs.meaning.Geometry.{Valid, physical_zones, data_zone}
use Rattle.logs.specs.meaning.Entry.{general_zone, parity_zone, seal, closing}
use Rattle.tables.specs.meaning.Drives.{present_but}
use Rattle.tables.specs.laws.Drives.{present_below}
use Rattle.logs.specs.laws.Walk.{cut_mono, cut_all, sectors_of_all}
use Rattle.volume.specs.declared.Condition.{Condition}
use Rattle.volume.specs.declared.Condition.TheVariants.{Empty, Open, Sealed, Worn}
use Rattle.volume.specs.meaning.State.{StateView}
use Rattle.volume.specs.meaning.Calls.{flush_stores, flush_state}
use Rattle.volume.specs.meaning.Content.{parity_drive_at}
use Rattle.promise.specs.meaning.Ledger.{Ledger, after_flush}
use Rattle.promise.proofs.invariant.Invariant.{Ghost, Here, LogsOk, Rest, RestZone, SurvivesLoss, Plain, Shape, durable_entries, said, facts_of, closing_entry}
use Rattle.promise.proofs.invariant.SaidMoves.{live_mark}
use Rattle.promise.proofs.invariant.HoldsLess.{Less, less_live, less_capped}
use Rattle.promise.proofs.invariant.StoppedCall.{Parts, inv_part}
use Rattle.promise.proofs.invariant.Obligations.{FlushKeeps, FlushRests}
use Rattle.promise.proofs.invariant.LastLabels.{names_later}

-- a place that was flushed, or not
pub record MoreDurable (a b : ZoneView) : Type 0 where
  pub same : b.sectors ≡ a.sectors
  pub least : a.durable ≤ b.durable
  pub most : b.durable ≤ length b.sectors

pub more_durable_refl : (a : ZoneView) → a.durable ≤ length a.sectors → MoreDurable a a
more_durable_refl a h = record { same = refl; least = le_refl a.durable; most = h }

pub more_durable_flushed : (a : ZoneView) → a.durable ≤ length a.sectors → MoreDurable a (flushed a)
more_durable_flushed a h = record { same = refl; least = h; most = le_refl (length a.sectors) }

-- a device of which more lasts on the present drives
abbrev pub MoreDurableAll : Geometry → ℕ → Device → Device → Type 0
MoreDurableAll g x v w = (d y : ℕ) → Here g x d → y < physical_zones g → MoreDurable (v d y) (w d y)

-- a flush that finished
pub flush_all_lem : (g : Geometry) (x : ℕ) (v : Device) (d y : ℕ) → Here g x d → apply_all (flush_stores g (present_but g x)) v d y ≡ flushed (v d y)
unfolding flush_stores
flush_all_lem g x v d y a = flush_all_flushes g.drives (present_but g x) v d y (present_below g x d a) a

-- a flush that was stopped
pub flush_part_lem : (g : Geometry) (x : ℕ) (v : Device) (n : ℕ) → ((d y : ℕ) → Here g x d → y < physical_zones g → (v d y).durable ≤ length (v d y).sectors)
    → MoreDurableAll g x v (apply_all (take n (flush_stores g (present_but g x))) v)
unfolding flush_stores
flush_part_lem g x v n ok d y a h =
    let xs = on_present (present_but g x) (flush_all g.drives) in
    let p : Prefix (local_stores d y (take n xs)) (flush_here ∷ []) = rw (← flush_all_local d y g.drives (present_below g x d a), ← on_present_local (present_but g x) d y (flush_all g.drives) a) (local_take d y n xs) in
    rw (local_is d y (take n xs) v) (go (local_stores d y (take n xs)) (prefix_one flush_here (local_stores d y (take n xs)) p))
  where
    go : (os : List LocalStore) → (os ≡ []) ⊎ (os ≡ flush_here ∷ []) → MoreDurable (v d y) (apply_all_here os (v d y))
    go os (inl e) = rw e (more_durable_refl (v d y) (ok d y a h))
    go os (inr e) = rw e (more_durable_flushed (v d y) (ok d y a h))

pub more_durable_parts : (g : Geometry) (x : ℕ) (v w : Device) → MoreDurableAll g x v w → Parts g x v w
more_durable_parts g x v w k d y a h = let q = k d y a h in record { front = rw q.same (prefix_refl (v d y).sectors); least = q.least; most = q.most }

module _ (g : Geometry) (x : ℕ) (v w : Device) (γ : Ghost) (lg : LogsOk g x v γ) (k : MoreDurableAll g x v w) where
  pub more_durable_logs : LogsOk g x w γ
  more_durable_logs = record {
    lost_ok = lg.lost_ok;
    array_lt = lg.array_lt;
    general_is = λ d a. (k d general_zone a (omega arith)).same ∙ lg.general_is d a;
    general_reads = lg.general_reads;
    first = lg.first;
    first_lasts = λ d a. le_trans (lg.first_lasts d a) (k d general_zone a (omega arith)).least;
    arrays = lg.arrays;
    labels = λ d a. names_later x (v d general_zone).durable (γ.general d) (lg.labels d a) (w d general_zone).durable (k d general_zone a (omega arith)).least;
    general_closes = lg.general_closes;
    general_closed = λ d a p. mem_more (v d general_zone).durable (w d general_zone).durable (γ.general d) (closing 0 (γ.closed d).0) (k d general_zone a (omega arith)).least (lg.general_closed d a p);
    parity_closes = lg.parity_closes;
    parity_closed_lem = λ d a p. cut_mono g d true (γ.parity d) (v d parity_zone).durable (w d parity_zone).durable (closing_entry 1 (γ.closed d).1) (lg.parity_lawful d a) (k d parity_zone a (omega arith)).least refl (lg.parity_closed_lem d a p);
    parity_is = λ d a. (k d parity_zone a (omega arith)).same ∙ lg.parity_is d a;
    parity_lawful = lg.parity_lawful;
    parity_fits = lg.parity_fits;
    lasting = λ d y a h. (k d y a h).most;
    place_fits = λ d y a h. rw (k d y a h).same (lg.place_fits d y a h);
  }

  pub more_durable_less : Less g x x v w γ γ.general γ.parity
  more_durable_less = record {
    here = λ d a. a;
    general_sub = λ d a h m. m;
    general_lasts_lem = λ d a h m. mem_more (v d general_zone).durable (w d general_zone).durable (γ.general d) h (k d general_zone a (omega arith)).least m;
    general_cuts = λ d a j l. (j, le_trans (k d general_zone a (omega arith)).least l, refl);
    parity_sub = λ d a e m. record { of = e; is_set = m; heads = refl; many = length e.rows; rows_are = sym (take-length e.rows) };
    parity_lasts_lem = λ d a e q m. cut_mono g d true (γ.parity d) (v d parity_zone).durable (w d parity_zone).durable e (lg.parity_lawful d a) (k d parity_zone a (omega arith)).least q m;
    data_sub = λ d z hz a. rw (k d (data_zone z) a (omega arith)).same (prefix_refl (v d (data_zone z)).sectors);
    data_lasts = λ d z hz a. (k d (data_zone z) a (omega arith)).least;
  }

pub flush_keeps : (g : Geometry) → Valid g → FlushKeeps g
flush_keeps g ok c x v l n (γ, i, e) =
    let w = apply_all (take n (flush_stores g (present_but g x))) v in
    let (δ, j, p) = inv_part g x v w l γ i (more_durable_parts g x v w (flush_part_lem g x v n i.logs.lasting)) in
    (δ, j, p ∙ e)

module _ (g : Geometry) (x : ℕ) (v : Device) (state : StateView) (l : Ledger) (γ : Ghost) (r : Rest g x v state l γ) where
  after : Device
  after = apply_all (flush_stores g (present_but g x)) v

  after_settled : MoreDurableAll g x v after
  unfolding after
  after_settled d y a h = rw (flush_all_lem g x v d y a) (more_durable_flushed (v d y) (r.logs.lasting d y a h))

  after_keep : (d y : ℕ) → Here g x d → (after d y).durable ≡ length (v d y).sectors
  unfolding after
  after_keep d y a = rw (flush_all_lem g x v d y a) refl

  durable_all : (d : ℕ) → Here g x d → durable_entries g after γ d ≡ γ.parity d
  durable_all d a = cut_all g d true (γ.parity d) (after d parity_zone).durable (rw (after_keep d parity_zone a, r.logs.parity_is d a) (le_refl (length (sectors_of_all g d true (γ.parity d)))))

  after_zone : (z : ℕ) → z < g.zones → RestZone g x after (flush_state x state) (after_flush l) γ z
  after_zone z h =
      let q = r.zones z h in
      let e = less_live g x x v after γ γ.general γ.parity r.logs (more_durable_less g x v after γ r.logs after_settled) l z h q.live in
      let k : SurvivesLoss g x z (γ.generation z) (length (l.content z)) (λ d. length (v d (data_zone z)).sectors) γ.parity = q.strong_now in
      record {
        live = live_mark g x z (facts_of γ l z) (said g after γ z) (λ d. after d (data_zone z)) (length (l.content z)) e (le_refl (length (l.content z))) (λ d a c m. below (state.condition z) q.shape d a c m) (record {
          places = λ d a. rw (after_keep d (data_zone z) a) (k.places d a);
          entry = λ i a. let (f, m, w, b) = k.entry i a in (f, rw (durable_all (parity_drive_at g z (length (l.content z))) a) m, w, b);
        });
        generation_is = q.generation_is;
        pointer_is = q.pointer_is;
        strong_now = record { places = λ d a. rw (after_settled d (data_zone z) a (omega arith)).same (k.places d a); entry = k.entry };
        shape = shaped (state.condition z) q.shape;
        sectors = q.sectors;
        no_flag = q.no_flag;
      }
    where
      below : (c : Condition) → Shape g x v γ l z c → (d : ℕ) → Here g x d → (p : ℕ) → Memᴰ (seal z p (γ.generation z)) (γ.general d) → length (l.content z) ≤ p
      below Empty s d a p m = absurd (s.no_seal d a p m)
      below (Open n) s d a p m = absurd (s.no_seal d a p m)
      below (Sealed n) s d a p m = rw (← s.2) ((r.zones z h).live.seals d a p m).0
      below (Worn n) s d a p m = let k : γ.generation z < γ.generation z = ((r.zones z h).live.worn_empty s).1.in_general_lem d a (seal z p (γ.generation z)) m refl in absurd (omega arith)

      plain : Plain g x v γ l z → Plain g x after γ (after_flush l) z
      plain p = record { all_content = p.all_content; just = λ d a. rw (after_settled d (data_zone z) a (omega arith)).same (p.just d a); no_seal = p.no_seal; unworn = p.unworn }

      shaped : (c : Condition) → Shape g x v γ l z c → Shape g x after γ (after_flush l) z c
      shaped Empty s = plain s
      shaped (Open n) s = plain s
      shaped (Sealed n) s = (less_capped g x x v after γ γ.general γ.parity r.logs (more_durable_less g x v after γ r.logs after_settled) z (length (l.content z)) s.0, s.1, refl)
      shaped (Worn n) s = s

pub flush_rests : (g : Geometry) → Valid g → FlushRests g
unfolding after
flush_rests g ok c x v state l (γ, r, q) = (
  γ,
  record {
    logs = more_durable_logs g x v (after g x v state l γ r) γ r.logs (after_settled g x v state l γ r);
    zones = after_zone g x v state l γ r;
    whole = r.whole;
    lost_is = inr refl;
  },
  q,
)
