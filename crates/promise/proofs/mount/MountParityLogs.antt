-- A step of a mount that changes the parity logs alone (steps 8 and 11): when the new entries and rows tell the truth, or end past the cap,
-- every zone stays what it was.
use Rattle.logs.specs.laws.LogLaws.{sectors_of_most}
use Rattle.std.specs.Prelude.{◌≡◌, refl, ◌≢◌, ◌⊎◌, true, ℕ, ◌+◌, ◌*◌, ◌≤◌, ◌<◌, length, take}
use Rattle.std.proofs.Common.{◌∙◌, inl, inr, le_trans, arith}
use Rattle.std.proofs.Math.Decide.{ℕ_discrete}
use mathlib.Core.List.{List, [], Memᴰ}
use Rattle.tables.specs.meaning.Device.{Device, Store}
use Rattle.tables.specs.declared.Geometry.{Geometry}
use Rattle.tables.specs.meaning.Geometry.{Valid, stripe_sectors, physical_zones, data_zone}
use Rattle.logs.specs.meaning.Entry.{general_zone, parity_zone, worn_generation, Header, partial_parity, seal, Entry, closing}
use Rattle.promise.specs.meaning.Ledger.{Ledger}
use Rattle.volume.specs.meaning.Rules.{Shown}
use Rattle.volume.specs.declared.Condition.TheVariants.{Open}
use Rattle.promise.proofs.invariant.Invariant.{Ghost, Here, LogsOk, Live, Counts, passed, closing_entry}
use Rattle.promise.proofs.mount.MountRuns.{Between, Done, between_still}
use Rattle.promise.proofs.mount.MountPlan.{Start, CountersDone, Caps, Same, Passed, Staying, Stays, WornZone, Gone, NoData, Lives}
use Rattle.logs.specs.laws.Walk.{Whole, sectors_of_all, WellFormedLog, log_extent, cut_entries}
use Rattle.logs.specs.laws.Heads.{zone_gen}
use Rattle.promise.proofs.invariant.HoldsLess.{with_logs}
use Rattle.promise.proofs.invariant.Obligations.{Invs}
use Rattle.promise.proofs.mount.MountLiveZones.{zones_inv}
use Rattle.tables.specs.laws.Local.{local_stores}
use Rattle.promise.proofs.invariant.HoldsMore.{NewEntry, live_more}
use Rattle.promise.proofs.mount.MountGeneralLogs.{done_settled}

-- the parity logs P become P' on the way to w'
pub record Changed (g : Geometry) (x : ℕ) (u w' : Device) (P P' : ℕ → List Entry) : Type 0 where
  pub sectors_are : (d : ℕ) → Here g x d → (w' d parity_zone).sectors ≡ sectors_of_all g d true (P' d)
  pub wf : (d : ℕ) → Here g x d → (w' d parity_zone).durable ≤ length (w' d parity_zone).sectors
  pub lawful : (d : ℕ) → Here g x d → WellFormedLog g d true (P' d)
  pub closes : (d : ℕ) → Here g x d → (e : Entry) → Memᴰ e (P' d) → (j n : ℕ) → e.head ≡ closing j n → (f : Entry) × Memᴰ f (P d) × (f.head ≡ closing j n)
  pub fits : (d : ℕ) → Here g x d → log_extent g d true (P' d) ≤ g.capacity
  pub lasts : (d : ℕ) → Here g x d → (e : Entry) → Whole g d true e → Memᴰ e (cut_entries g d true (P d) (u d parity_zone).durable) → Memᴰ e (cut_entries g d true (P' d) (w' d parity_zone).durable)

-- the logs are in order still, where nothing else has changed
pub parity_logs_on : (g : Geometry) (x : ℕ) (u w' : Device) (δ : Ghost) (P' : ℕ → List Entry) → LogsOk g x u δ → ((d y : ℕ) → Here g x d → y ≢ parity_zone → w' d y ≡ u d y) → Changed g x u w' δ.parity P' → LogsOk g x w' (with_logs δ δ.general P')
parity_logs_on g x u w' δ P' lg still ch = record {
  lost_ok = lg.lost_ok;
  array_lt = lg.array_lt;
  general_is = λ d a. rw (general d a) (lg.general_is d a);
  general_reads = lg.general_reads;
  first = lg.first;
  first_lasts = λ d a. rw (general d a) (lg.first_lasts d a);
  arrays = lg.arrays;
  labels = λ d a. rw (general d a) (lg.labels d a);
  general_closes = lg.general_closes;
  general_closed = λ d a. rw (general d a) (lg.general_closed d a);
  parity_closes = λ d a e m j n q. let (f, o, p) = ch.closes d a e m j n q in lg.parity_closes d a f o j n p;
  parity_closed_lem = λ d a p. ch.lasts d a (closing_entry 1 (δ.closed d).1) refl (lg.parity_closed_lem d a p);
  parity_is = ch.sectors_are;
  parity_lawful = ch.lawful;
  parity_fits = ch.fits;
  lasting = λ d y a h. low d y a h (ℕ_discrete y parity_zone);
  place_fits = λ d y a h. fit d y a h (ℕ_discrete y parity_zone);
}
  where
    general : (d : ℕ) → Here g x d → w' d general_zone ≡ u d general_zone
    general d a = still d general_zone a (λ e. omega arith)

    low : (d y : ℕ) → Here g x d → y < physical_zones g → Dec (y ≡ parity_zone) → (w' d y).durable ≤ length (w' d y).sectors
    low d y a h (yes e) = rw e (ch.wf d a)
    low d y a h (no e) = rw (still d y a e) (lg.lasting d y a h)

    fit : (d y : ℕ) → Here g x d → y < physical_zones g → Dec (y ≡ parity_zone) → length (w' d y).sectors ≤ g.capacity
    fit d y a h (yes e) = rw (e, ch.sectors_are d a) (le_trans (sectors_of_most g d (P' d) (ch.lawful d a)) (ch.fits d a))
    fit d y a h (no e) = rw (still d y a e) (lg.place_fits d y a h)

-- an entry that joins while a zone stays
pub record EntryFor (g : Geometry) (x : ℕ) (γ : Ghost) (l : Ledger) (k : Shown) (u : Device) (G : ℕ → List Header) (P : ℕ → List Entry) (z d : ℕ) (e : Entry) : Type 0 where
  pub new : NewEntry g x u (with_logs γ G P) G l z d e
  pub ends_in : (k.zone z).condition ≡ Open (k.zone z).pointer → (s f : ℕ) → e.head ≡ partial_parity z s f (γ.generation z) → s * stripe_sectors g + f ≤ (k.zone z).pointer

module _ (g : Geometry) (ok : Valid g) (x : ℕ) (w : Device) (γ : Ghost) (l : Ledger) (k : Shown) (s : Start g x w γ l k) (u : Device) (G : ℕ → List Header) (P : ℕ → List Entry) (n : ℕ) (t : CountersDone g x w γ l k u G P n)
    (xs : List Store) (unseen : (d y : ℕ) → y ≢ parity_zone → local_stores d y xs ≡ []) (w' : Device) (b : Between g x u xs w') (P' : ℕ → List Entry) (ch : Changed g x u w' P P')
    (joins : (z : ℕ) → z < g.zones → Stays g x w γ l k z → (d : ℕ) → Here g x d → (e : Entry) → Memᴰ e (P' d) → Memᴰ e (P d) ⊎ EntryFor g x γ l k u G P z d e)
    (worns : (z : ℕ) → z < g.zones → WornZone g x w γ l k z → (d : ℕ) → Here g x d → (e : Entry) → Memᴰ e (P' d) → Memᴰ e (P d) ⊎ NewEntry g x u (with_logs γ G P) G l z d e)
    (gones : (z : ℕ) → z < g.zones → Gone g x w γ l k z → (d : ℕ) → Here g x d → (e : Entry) → Memᴰ e (P' d) → zone_gen e.head (λ y n. y ≡ z → n ≤ γ.generation z)) where
  abbrev δ : Ghost
  δ = with_logs γ G P

  pub still_other : (d y : ℕ) → Here g x d → y ≢ parity_zone → w' d y ≡ u d y
  still_other d y a h =
      let (os, p, q) = b d y a in
      q ∙ between_still (u d y) os (rw (unseen d y h) at p) (t.base.settled.lasts d y a)

  general_same : (d : ℕ) → Here g x d → w' d general_zone ≡ u d general_zone
  general_same d a = still_other d general_zone a (λ e. omega arith)

  data_same : (z d : ℕ) → Here g x d → w' d (data_zone z) ≡ u d (data_zone z)
  data_same z d a = still_other d (data_zone z) a (λ e. omega arith)

  pub parity_logs : LogsOk g x w' (with_logs γ G P')
  parity_logs = parity_logs_on g x u w' δ P' t.base.logs still_other ch

  lasts : (d : ℕ) → Here g x d → (h : Header) → Memᴰ h (take (u d general_zone).durable (G d)) → Memᴰ h (take (w' d general_zone).durable (G d))
  lasts d a h m = rw (general_same d a) m

  pub counts_on : (z : ℕ) (Q : ℕ → Type 0) → Counts g x u δ z Q → Counts g x w' (with_logs γ G P') z Q
  counts_on z Q h d a j m = h d a j (rw (← general_same d a) m)

  live' : (z : ℕ) → Live g x u δ l z → ((d : ℕ) → Here g x d → (e : Entry) → Memᴰ e (P' d) → Memᴰ e (P d) ⊎ NewEntry g x u δ G l z d e) → Live g x w' (with_logs γ G P') l z
  live' z h f = live_more g x u w' δ G P' lasts l z ch.lasts h (λ d a k m. inl m) f (counts_on z (λ n. n ≡ γ.generation z) h.counts) (λ d a. rw (data_same z d a) (h.places d a)) (λ d a. rw (data_same z d a) (h.strong.places d a))

  pub parity_lives : Lives g x w γ l k w' G P'
  parity_lives = record {
    staying = λ z hz q. let r = t.lives.staying z hz q in record {
      live = live' z r.live (λ d a e m. new z d e (joins z hz q d a e m));
      no_seal = r.no_seal;
      no_reset = r.no_reset;
      seals_past = r.seals_past;
      ends_in = λ o d a e m i f p. ends z hz q r o d a e i f p (joins z hz q d a e m);
    };
    worn_live = λ z hz q. live' z (t.lives.worn_live z hz q) (worns z hz q);
  }
    where
      new : (z d : ℕ) (e : Entry) → Memᴰ e (P d) ⊎ EntryFor g x γ l k u G P z d e → Memᴰ e (P d) ⊎ NewEntry g x u δ G l z d e
      new z d e (inl m) = inl m
      new z d e (inr m) = inr m.new

      ends : (z : ℕ) → z < g.zones → Stays g x w γ l k z → Staying g x w γ l k u G P z → (k.zone z).condition ≡ Open (k.zone z).pointer → (d : ℕ) → Here g x d → (e : Entry) → (i f : ℕ) → e.head ≡ partial_parity z i f (γ.generation z)
          → Memᴰ e (P d) ⊎ EntryFor g x γ l k u G P z d e → i * stripe_sectors g + f ≤ (k.zone z).pointer
      ends z hz q r o d a e i f p (inl m) = r.ends_in o d a e m i f p
      ends z hz q r o d a e i f p (inr m) = m.ends_in o i f p

  pub parity_passed : (z : ℕ) → z < g.zones → Gone g x w γ l k z → Passed g x γ l w' G P' z
  parity_passed z hz o = let r = t.gone_zone z hz o in
      let nd : NoData g x w' z = λ d a. rw (data_same z d a) (r.no_data d a) in
      let c = counts_on z (λ n. γ.generation z < n) r.past in
      record {
        dying = record {
          idle = r.dying.idle;
          generation_top = r.dying.generation_top;
          entries = record { in_general_lem = r.dying.entries.in_general_lem; in_parity_lem = gones z hz o };
          counts = counts_on z (λ n. (γ.generation z ≤ n) × (n ≤ worn_generation)) r.dying.counts;
          raised = λ d a j m q. nd;
          why = passed c;
        };
        no_data = nd;
        past = c;
      }

  pub parity_inv : Invs γ.closed g x w' l
  parity_inv = (with_logs γ G P', zones_inv g x w γ l k s w' G P' parity_logs parity_lives (λ z hz q. inr (parity_passed z hz q).dying), refl)

  pub parity_stage : Done g x u xs w' → CountersDone g x w γ l k w' G P' n
  parity_stage dn = record {
    base = record { logs = parity_logs; settled = done_settled g x u xs w' dn; grows = t.base.grows; used = t.base.used };
    lives = parity_lives;
    gone_zone = parity_passed;
    counted = t.counted;
  }

  pub parity_caps : Caps g x w γ l k u G P → Caps g x w γ l k w' G P'
  parity_caps cp = record { cap = λ z hz q e d a. let (b, p, m) = cp.cap z hz q e d a in (b, p, lasts d a (seal z b (γ.generation z)) m) }

  pub parity_same : Same g x w γ l k u → Same g x w γ l k w'
  parity_same sm = record { data_same = λ z hz q d a. data_same z d a ∙ sm.data_same z hz q d a }
