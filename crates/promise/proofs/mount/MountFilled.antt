-- The device once all below the pointers of a mount's look is there (after step 9, and from then on): what each zone is, told without the device that
-- the look saw. Other parity logs that say the same leave it so (filled_on): step 10 empties parity logs, step 11 adds entries to them.
-- u: the device; δ: its ghosts; l: the ledger; k: the mount's look.
use Rattle.std.specs.Prelude.{◌≡◌, refl, ◌⊎◌, true, ℕ, zero, ◌+◌, ◌*◌, ◌≤◌, ◌<◌, length}
use Rattle.std.proofs.Common.{ap, inl, inr, arith}
use mathlib.Core.List.{List, Memᴰ}
use Rattle.tables.specs.meaning.Device.{Device}
use Rattle.tables.specs.laws.Lists.{mem_take}
use Rattle.tables.specs.meaning.Placement.{needed}
use Rattle.tables.specs.declared.Geometry.{Geometry}
use Rattle.tables.specs.meaning.Geometry.{Valid, stripe_sectors, data_zone}
use Rattle.logs.specs.meaning.Entry.{general_zone, parity_zone, worn_generation, Header, zone_reset, partial_parity, seal, Entry}
use Rattle.logs.specs.meaning.Heads.{generation_in}
use Rattle.logs.specs.laws.Walk.{Whole}
use Rattle.logs.specs.laws.LogLaws.{sectors_of_most}
use Rattle.volume.specs.declared.Condition.TheVariants.{Empty, Open, Sealed, Worn}
use Rattle.volume.specs.meaning.Content.{at, inside_stripe, parity_drive_at, entry_header}
use Rattle.volume.specs.meaning.Rules.{Shown}
use Rattle.volume.specs.meaning.Mount.{next_generation}
use Rattle.promise.specs.meaning.Ledger.{Ledger}
use Rattle.promise.proofs.invariant.Invariant.{Ghost, Here, LogsOk, LogGenerations, Capped, CappedIn, said, Counts, Live, Dying, Inv}
use Rattle.promise.proofs.invariant.HoldsLess.{with_logs}
use Rattle.promise.proofs.look.LookLive.{some_present}
use Rattle.promise.proofs.mount.MountRuns.{AllDurable}
use Rattle.promise.proofs.mount.MountPlan.{Start, AfterFill, count_reset, count_sealed, CountersDone, Caps, Wholes, Full, Stays, Fate, stays, worn_out, gone, Gone, emptied, bare_one, raised_one, Clean, NoData}
use Rattle.promise.proofs.mount.MountCounters.{next_gone}

-- ---- a zone that stays
-- shown open: just what is needed is there, no entry ends past the pointer, and there is no current seal
pub record OpenNow (g : Geometry) (x : ℕ) (u : Device) (δ : Ghost) (k : Shown) (z : ℕ) : Type 0 where
  pub condition_is : (k.zone z).condition ≡ Open (k.zone z).pointer
  pub just : (d : ℕ) → Here g x d → length (u d (data_zone z)).sectors ≡ needed g.drives g.unit z (k.zone z).pointer d
  pub ends_in : (d : ℕ) → Here g x d → (e : Entry) → Memᴰ e (δ.parity d) → (s f : ℕ) → e.head ≡ partial_parity z s f (δ.generation z) → s * stripe_sectors g + f ≤ (k.zone z).pointer
  pub no_seal : (d : ℕ) → Here g x d → (c : ℕ) → Memᴰ (seal z c (δ.generation z)) (δ.general d) → ⊥

-- shown sealed: it is capped at the pointer
pub record SealedNow (g : Geometry) (x : ℕ) (u : Device) (δ : Ghost) (k : Shown) (z : ℕ) : Type 0 where
  pub condition_is : (k.zone z).condition ≡ Sealed (k.zone z).pointer
  pub cap : Capped g x u δ z (k.zone z).pointer

pub record Kept (g : Geometry) (x : ℕ) (u : Device) (δ : Ghost) (l : Ledger) (k : Shown) (z : ℕ) : Type 0 where
  pub live : Live g x u δ l z
  pub generation_is : (k.zone z).generation ≡ δ.generation z
  pub unworn : δ.generation z < worn_generation
  pub some : zero < (k.zone z).pointer
  pub least : l.committed z ≤ (k.zone z).pointer
  pub most : (k.zone z).pointer ≤ length (δ.laid z)
  pub values : (a : ℕ) → a < (k.zone z).pointer → (k.zone z).value a ≡ at (δ.laid z) a
  pub no_reset : (d : ℕ) → Here g x d → Memᴰ (zone_reset z (δ.generation z)) (δ.general d) → ⊥
  pub seals_past : (d : ℕ) → Here g x d → (c : ℕ) → Memᴰ (seal z c (δ.generation z)) (δ.general d) → (k.zone z).pointer ≤ c
  pub places : (d : ℕ) → Here g x d → needed g.drives g.unit z (k.zone z).pointer d ≤ length (u d (data_zone z)).sectors
  pub how : OpenNow g x u δ k z ⊎ SealedNow g x u δ k z

-- ---- a worn one
pub record WornNow (g : Geometry) (x : ℕ) (u : Device) (δ : Ghost) (l : Ledger) (k : Shown) (z : ℕ) : Type 0 where
  pub live : Live g x u δ l z
  pub generation_is : (k.zone z).generation ≡ δ.generation z
  pub most : δ.generation z ≡ worn_generation
  pub none : (k.zone z).pointer ≡ zero
  pub condition_is : (k.zone z).condition ≡ Worn zero

-- ---- one that was emptied: its generation has passed on every present drive, and no data is left
pub record GoneNow (g : Geometry) (x : ℕ) (u : Device) (δ : Ghost) (l : Ledger) (k : Shown) (z : ℕ) : Type 0 where
  pub dying : Dying g x u δ l z
  pub no_data : NoData g x u z
  pub past : Counts g x u δ z (λ n. δ.generation z < n)
  pub none : (k.zone z).pointer ≡ zero
  pub condition_is : ((k.zone z).condition ≡ Empty) ⊎ ((k.zone z).condition ≡ Worn zero)
  pub next : (δ.generation z < next_generation k z) × (next_generation k z ≤ worn_generation)

pub data ZoneNow (g : Geometry) (x : ℕ) (u : Device) (δ : Ghost) (l : Ledger) (k : Shown) (z : ℕ) : Type 0 where
  kept_now : Kept g x u δ l k z → ZoneNow g x u δ l k z
  worn_now : WornNow g x u δ l k z → ZoneNow g x u δ l k z
  gone_now : GoneNow g x u δ l k z → ZoneNow g x u δ l k z

pub record Filled (g : Geometry) (x : ℕ) (u : Device) (δ : Ghost) (l : Ledger) (k : Shown) : Type 0 where
  pub logs : LogsOk g x u δ
  pub settled : AllDurable g x u
  pub zones : (z : ℕ) → z < g.zones → ZoneNow g x u δ l k z
  pub counted : (d : ℕ) → Here g x d → (z : ℕ) → z < g.zones → generation_in z (δ.general d) ≡ next_generation k z
  pub whole : (d : ℕ) → Here g x d → (e : Entry) → Memᴰ e (δ.parity d) → Whole g d true e

-- (under a name of its own, for files that speak of ParityFilled's too)
abbrev pub FilledNow : Geometry → ℕ → Device → Ghost → Ledger → Shown → Type 0
FilledNow g x u δ l k = Filled g x u δ l k

-- and after step 11: the entry at each pointer inside a stripe is there
pub record Ended (g : Geometry) (x : ℕ) (δ : Ghost) (k : Shown) : Type 0 where
  pub entry : (z : ℕ) → z < g.zones → inside_stripe g (k.zone z).pointer ≡ true → Here g x (parity_drive_at g z (k.zone z).pointer)
      → (e : Entry) × Memᴰ e (δ.parity (parity_drive_at g z (k.zone z).pointer)) × Whole g (parity_drive_at g z (k.zone z).pointer) true e × (e.head ≡ entry_header g z (δ.generation z) (k.zone z).pointer)

abbrev pub AfterEntries : Geometry → ℕ → Ledger → Shown → LogGenerations → Device → Type 0
AfterEntries g x l k c u = (δ : Ghost) × Filled g x u δ l k × Ended g x δ k × (δ.closed ≡ c)

pub filled_inv : (g : Geometry) (x : ℕ) (u : Device) (δ : Ghost) (l : Ledger) (k : Shown) → Filled g x u δ l k → Inv g x u l δ
filled_inv g x u δ l k f = record { logs = f.logs; zones = λ z h. go z (f.zones z h) }
  where
    go : (z : ℕ) → ZoneNow g x u δ l k z → Live g x u δ l z ⊎ Dying g x u δ l z
    go z (kept_now q) = inl q.live
    go z (worn_now q) = inl q.live
    go z (gone_now q) = inr q.dying

-- a zone with a pointer stays
pub kept_at : (g : Geometry) (x : ℕ) (u : Device) (δ : Ghost) (l : Ledger) (k : Shown) → Filled g x u δ l k → (z : ℕ) → z < g.zones → zero < (k.zone z).pointer → Kept g x u δ l k z
kept_at g x u δ l k f z hz h = go (f.zones z hz)
  where
    go : ZoneNow g x u δ l k z → Kept g x u δ l k z
    go (kept_now q) = q
    go (worn_now q) = absurd (omega (arith, q.none))
    go (gone_now q) = absurd (omega (arith, q.none))

-- its generation is kept
pub kept_next : (g : Geometry) (x : ℕ) (u : Device) (δ : Ghost) (l : Ledger) (k : Shown) (z : ℕ) → Kept g x u δ l k z ⊎ WornNow g x u δ l k z → next_generation k z ≡ δ.generation z
kept_next g x u δ l k z (inr q) = rw q.condition_is q.generation_is
kept_next g x u δ l k z (inl q) = go q.how
  where
    go : OpenNow g x u δ k z ⊎ SealedNow g x u δ k z → next_generation k z ≡ δ.generation z
    go (inl o) = rw o.condition_is q.generation_is
    go (inr o) = rw o.condition_is q.generation_is

-- what it shows is content
pub kept_content : (g : Geometry) → Valid g → (x : ℕ) (u : Device) (δ : Ghost) (l : Ledger) (k : Shown) (z : ℕ) → Kept g x u δ l k z → (k.zone z).pointer ≤ length (l.content z)
kept_content g ok x u δ l k z q = go q.live.capped
  where
    go : (length (l.content z) ≡ length (δ.laid z)) ⊎ CappedIn g x (said g u δ z) z (δ.generation z) (length (l.content z)) → (k.zone z).pointer ≤ length (l.content z)
    go (inl e) = omega (arith, e, q.most)
    go (inr c) =
        let (d, a) = some_present g ok x in
        let (b, h, m) = c d a in
        omega (arith, h, q.seals_past d a b (mem_take (u d general_zone).durable (δ.general d) (seal z b (δ.generation z)) m))

-- ---- AFTER STEP 9 it is so
module _ (g : Geometry) (ok : Valid g) (x : ℕ) (w : Device) (γ : Ghost) (l : Ledger) (k : Shown) (s : Start g x w γ l k) (u : Device) (G : ℕ → List Header) (P : ℕ → List Entry)
    (t : CountersDone g x w γ l k u G P (2 + (count_reset g k + count_sealed g k))) (cp : Caps g x w γ l k u G P) (wh : Wholes g x w P) (fl : Full g x w γ l k u) where
  abbrev δ : Ghost
  δ = with_logs γ G P

  kept_of_lem : (z : ℕ) → z < g.zones → Stays g x w γ l k z → Kept g x u δ l k z
  kept_of_lem z hz q = let r = t.lives.staying z hz q in record {
    live = r.live;
    generation_is = q.generation_is;
    unworn = q.unworn;
    some = q.some;
    least = q.least;
    most = q.most;
    values = q.values;
    no_reset = r.no_reset;
    seals_past = r.seals_past;
    places = fl.places z hz q;
    how = go q.how;
  }
    where
      go : (((k.zone z).condition ≡ Open (k.zone z).pointer) × Clean g x w γ k z) ⊎ ((k.zone z).condition ≡ Sealed (k.zone z).pointer) → OpenNow g x u δ k z ⊎ SealedNow g x u δ k z
      go (inl c) = let r = t.lives.staying z hz q in inl (record { condition_is = c.0; just = fl.just z hz q c.0; ends_in = r.ends_in c.0; no_seal = r.no_seal c.0 })
      go (inr c) = inr (record { condition_is = c; cap = cp.cap z hz q c })

  gone_of : (z : ℕ) → z < g.zones → Gone g x w γ l k z → GoneNow g x u δ l k z
  gone_of z hz o = let r = t.gone_zone z hz o in let (n, c) = shown o in record { dying = r.dying; no_data = r.no_data; past = r.past; none = n; condition_is = c; next = next_gone g ok x w γ l k s z o }
    where
      raised : (((k.zone z).condition ≡ Empty) × ((k.zone z).generation < worn_generation)) ⊎ (((k.zone z).condition ≡ Worn zero) × ((k.zone z).generation ≡ worn_generation)) → ((k.zone z).condition ≡ Empty) ⊎ ((k.zone z).condition ≡ Worn zero)
      raised (inl r) = inl r.0
      raised (inr r) = inr r.0

      shown : Gone g x w γ l k z → ((k.zone z).pointer ≡ zero) × (((k.zone z).condition ≡ Empty) ⊎ ((k.zone z).condition ≡ Worn zero))
      shown (emptied q) = (q.none, inl q.condition_is)
      shown (bare_one q) = (q.none, inl q.condition_is)
      shown (raised_one q) = (q.none, raised q.condition_is)

  now_of : (z : ℕ) → z < g.zones → Fate g x w γ l k z → ZoneNow g x u δ l k z
  now_of z hz (stays q) = kept_now (kept_of_lem z hz q)
  now_of z hz (worn_out q) = worn_now (record { live = t.lives.worn_live z hz q; generation_is = q.generation_is; most = q.most; none = q.none; condition_is = q.condition_is })
  now_of z hz (gone q) = gone_now (gone_of z hz q)

  filled_now : Filled g x u δ l k
  filled_now = record { logs = t.base.logs; settled = t.base.settled; zones = λ z hz. now_of z hz (s.fate z hz); counted = t.counted; whole = wh.whole }

  longer : (d : ℕ) → Here g x d → length (u d parity_zone).sectors ≤ length (w d parity_zone).sectors + g.unit
  longer d a = let e = ap length (t.base.logs.parity_is d a) in omega (arith, e, sectors_of_most g d (P d) (t.base.logs.parity_lawful d a), wh.extent d a)

-- (a parity log has grown by the rows of one entry at most)
abbrev pub GrownRows : Geometry → ℕ → Device → Device → Type 0
GrownRows g x w u = (d : ℕ) → Here g x d → length (u d parity_zone).sectors ≤ length (w d parity_zone).sectors + g.unit

pub filled_of : (g : Geometry) → Valid g → (x : ℕ) (w : Device) (γ : Ghost) (l : Ledger) (k : Shown) → Start g x w γ l k → (u : Device) → AfterFill g x w γ l k (2 + (count_reset g k + count_sealed g k)) u
    → (δ : Ghost) × Filled g x u δ l k × GrownRows g x w u × (δ.closed ≡ γ.closed)
filled_of g ok x w γ l k s u (G, P, t, cp, wh, fl) = (with_logs γ G P, filled_now g ok x w γ l k s u G P t cp wh fl, longer g ok x w γ l k s u G P t cp wh fl, refl)

-- ---- WITH OTHER PARITY LOGS
abbrev pub with_parity : Ghost → (ℕ → List Entry) → LogGenerations → Ghost
with_parity δ P c = record { laid = δ.laid; generation = δ.generation; general = δ.general; parity = P; array = δ.array; closed = c }

-- (w: the device then; P, c, l': its parity logs, generations of logs and ledger)
module _ (g : Geometry) (x : ℕ) (u : Device) (δ : Ghost) (l : Ledger) (k : Shown) (f : Filled g x u δ l k) (w : Device) (P : ℕ → List Entry) (c : LogGenerations) (l' : Ledger)
    (logs' : LogsOk g x w (with_parity δ P c))
    (kept_live : (z : ℕ) → z < g.zones → Kept g x u δ l k z → Live g x w (with_parity δ P c) l' z)
    (worn_live : (z : ℕ) → z < g.zones → WornNow g x u δ l k z → Live g x w (with_parity δ P c) l' z)
    (gone_dying : (z : ℕ) → z < g.zones → GoneNow g x u δ l k z → Dying g x w (with_parity δ P c) l' z) where
  abbrev ε : Ghost
  ε = with_parity δ P c

  -- the invariant holds
  pub inv_on : Inv g x w l' (with_parity δ P c)
  inv_on = record { logs = logs'; zones = λ z h. go z h (f.zones z h) }
    where
      go : (z : ℕ) → z < g.zones → ZoneNow g x u δ l k z → Live g x w ε l' z ⊎ Dying g x w ε l' z
      go z h (kept_now q) = inl (kept_live z h q)
      go z h (worn_now q) = inl (worn_live z h q)
      go z h (gone_now q) = inr (gone_dying z h q)

  -- and once all of it lasts, the rest
  module _ (settled' : AllDurable g x w)
      (least' : (z : ℕ) → z < g.zones → Kept g x u δ l k z → l'.committed z ≤ (k.zone z).pointer)
      (general_same : (d : ℕ) → Here g x d → w d general_zone ≡ u d general_zone)
      (data_same : (z d : ℕ) → Here g x d → w d (data_zone z) ≡ u d (data_zone z))
      (whole' : (d : ℕ) → Here g x d → (e : Entry) → Memᴰ e (P d) → Whole g d true e)
      (ends' : (z : ℕ) → z < g.zones → Kept g x u δ l k z → OpenNow g x u δ k z → (d : ℕ) → Here g x d → (e : Entry) → Memᴰ e (P d) → (s i : ℕ) → e.head ≡ partial_parity z s i (δ.generation z) → s * stripe_sectors g + i ≤ (k.zone z).pointer) where
    how_on : (z : ℕ) → z < g.zones → Kept g x u δ l k z → OpenNow g x u δ k z ⊎ SealedNow g x u δ k z → OpenNow g x w ε k z ⊎ SealedNow g x w ε k z
    how_on z h q (inl o) = inl (record { condition_is = o.condition_is; just = λ d a. rw (data_same z d a) (o.just d a); ends_in = ends' z h q o; no_seal = o.no_seal })
    how_on z h q (inr o) = inr (record { condition_is = o.condition_is; cap = λ d a. rw (general_same d a) (o.cap d a) })

    zone_on : (z : ℕ) → z < g.zones → ZoneNow g x u δ l k z → ZoneNow g x w ε l' k z
    zone_on z h (kept_now q) = kept_now (record {
      live = kept_live z h q;
      generation_is = q.generation_is;
      unworn = q.unworn;
      some = q.some;
      least = least' z h q;
      most = q.most;
      values = q.values;
      no_reset = q.no_reset;
      seals_past = q.seals_past;
      places = λ d a. rw (data_same z d a) (q.places d a);
      how = how_on z h q q.how;
    })
    zone_on z h (worn_now q) = worn_now (record { live = worn_live z h q; generation_is = q.generation_is; most = q.most; none = q.none; condition_is = q.condition_is })
    zone_on z h (gone_now q) = gone_now (record {
      dying = gone_dying z h q;
      no_data = λ d a. rw (data_same z d a) (q.no_data d a);
      past = λ d a j n. q.past d a j (rw (← general_same d a) n);
      none = q.none;
      condition_is = q.condition_is;
      next = q.next;
    })

    pub filled_on : Filled g x w (with_parity δ P c) l' k
    filled_on = record { logs = logs'; settled = settled'; zones = λ z h. zone_on z h (f.zones z h); counted = f.counted; whole = whole' }
