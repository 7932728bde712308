-- THE LAW of an emptied general log: if the invariant holds by the old log of drive d, it holds by its copy, all of which is durable; and so does rest.
-- (v: the device by the old roles, w: by the new ones. A cut that keeps the closing entry leaves such a w.)
use Rattle.std.specs.Prelude.{◌≡◌, refl, ◌≢◌, ◌⊎◌, false, ℕ, zero, ◌+◌, ◌≤◌, ◌<◌, length, get_or, take, eqb}
use Rattle.std.proofs.Common.{sym, ap, ◌∙◌, inl, inr, le_refl, le_of_eq, arith, take_all, eq-eqb, ne_eqb, lt-ltb}
use Rattle.std.proofs.Math.Decide.{ℕ_discrete, dec_lt}
use mathlib.Core.List.{List, [], ◌∷◌, ◌++◌, map, Memᴰ}
use Rattle.std.proofs.Math.Seq.{take-length}
use Rattle.tables.specs.meaning.Basics.{pick}
use Rattle.tables.specs.laws.Lists.{mem_take, mem_left, mem_right, mem_append, mem_nil, length_map}
use Rattle.tables.specs.meaning.Device.{ZoneView, Device}
use Rattle.tables.specs.declared.Geometry.{Geometry}
use Rattle.tables.specs.meaning.Geometry.{Valid, zone_sectors, physical_zones, data_zone}
use Rattle.logs.specs.meaning.Entry.{general_zone, parity_zone, spare_zone, worn_generation, Header, label, counters, zone_reset, seal, closing, Entry, encode}
use Rattle.logs.specs.laws.Codec.{reads}
use Rattle.logs.specs.laws.Walk.{Reads}
use Rattle.logs.specs.code.Judge.{seal_small}
use Rattle.logs.specs.meaning.Heads.{generation_in, last_counters, last_lost}
use Rattle.logs.specs.laws.Heads.{zone_gen}
use Rattle.logs.specs.laws.HeadLaws.{reads_fits, generation_small, zone_gen_map, last_counters_append}
use Rattle.logs.specs.meaning.Copies.{array_for, kept_seals, kept_resets, copied_general}
use Rattle.logs.specs.laws.Copies.{LastLabel, no_label, a_label, last_label_lem, array_for_lem, Copied, kept, counted, copied_of, copied_heads, copied_seal, copied_reset, copied_counters}
use Rattle.volume.specs.meaning.Calls.{generations_from}
use Rattle.volume.specs.laws.Counters.{generations_length, generations_at, generations_small}
use Rattle.volume.specs.meaning.State.{set_at, StateView}
use Rattle.volume.specs.declared.Condition.{Condition}
use Rattle.volume.specs.declared.Condition.TheVariants.{Empty, Open, Sealed, Worn}
use Rattle.promise.specs.meaning.Ledger.{Ledger}
use Rattle.promise.proofs.invariant.Invariant.{Ghost, Here, LogsOk, LastNames, LogGenerations, Live, Dying, Inv, Plain, Shape, Rest, said, facts_of, Said, LoggedIn, reset_lasts, counts_past, SealSpent, survives_still}
use Rattle.promise.proofs.invariant.SaidMoves.{Moves, HeadJoins, EntryJoins, Was, was_self, always_of, live_moves, dying_moves, moves_capped, said_sure}
use Rattle.promise.proofs.look.InForce.{InForce}
use Rattle.promise.proofs.invariant.LastLabels.{last_names}
use Rattle.logs.specs.laws.CopiesSay.{copy_lost}
use Rattle.tables.specs.meaning.Drives.{no_drive}

-- the new log of a drive whose general log held hs: the copies, and the closing entry of generation n
abbrev pub general_log : Geometry → (ℕ → ℕ) → List Header → ℕ → List Header
general_log g gens hs n = copied_general g gens (generations_from gens zero g.zones) hs ++ (closing 0 n ∷ [])

-- drive d's general log is the new one, all of which is durable; nothing else changed but spares
pub record EmptiedTo (g : Geometry) (x d : ℕ) (v w : Device) (copy : List Header) : Type 0 where
  pub log : w d general_zone ≡ record { sectors = map (encode g d) copy; durable = length copy }
  pub others : (e y : ℕ) → Here g x e → (e ≢ d) ⊎ (y ≢ general_zone) → y ≢ spare_zone → w e y ≡ v e y
  pub spare_lasts : (e : ℕ) → Here g x e → (w e spare_zone).durable ≤ length (w e spare_zone).sectors
  pub spare_fits : (e : ℕ) → Here g x e → length (w e spare_zone).sectors ≤ g.capacity

-- drive d's general log is of generation n
abbrev pub new_generation : LogGenerations → ℕ → ℕ → LogGenerations
new_generation c d n e = (pick (eqb e d) n (c e).0, (c e).1)

abbrev pub emptied_ghost : Ghost → ℕ → List Header → ℕ → Ghost
emptied_ghost γ d copy n = record { laid = γ.laid; generation = γ.generation; general = set_at γ.general d copy; parity = γ.parity; array = γ.array; closed = new_generation γ.closed d n }

-- what an emptying of drive d's general log needs (gens: the generations in force; n: the new log's generation)
pub record Copyable (g : Geometry) (x d : ℕ) (γ : Ghost) (gens : ℕ → ℕ) (n : ℕ) : Type 0 where
  pub present : Here g x d
  pub force : InForce g x γ gens
  pub small : (z : ℕ) → z < g.zones → gens z ≤ worn_generation
  pub some : 0 < n
  pub top : n ≤ worn_generation
  pub room : length (general_log g gens (γ.general d) n) ≤ g.capacity

-- ---- what the new log holds
module _ (g : Geometry) (ok : Valid g) (x d : ℕ) (hd : Here g x d) (v : Device) (γ : Ghost) (lg : LogsOk g x v γ) (gens : ℕ → ℕ) where
  abbrev cs : List ℕ
  cs = generations_from gens zero g.zones

  abbrev hs : List Header
  hs = γ.general d

  seal_most : (z c : ℕ) → Memᴰ (seal z c (gens z)) hs → c ≤ zone_sectors g
  seal_most z c m = (seal_small g d false z c (gens z) (reads_fits g d false (seal z c (gens z)) (lg.general_reads d hd (seal z c (gens z)) m))).1

  -- every label carries the array number with which the log begins
  label_array : (y a : ℕ) → Memᴰ (label y a) hs → array_for hs a ≡ a
  label_array y a m =
      let (u, t, q) = lg.first d hd in
      array_for_lem hs a (rw q refl) (rw (q, ← lg.arrays d hd y a m) refl)

  pub copy_of : (h : Header) → Memᴰ h (copied_general g gens cs hs) → Copied g gens cs hs h
  copy_of = copied_of g gens cs hs seal_most label_array

  pub copy_reads : ((z : ℕ) → z < g.zones → gens z ≤ worn_generation) → (h : Header) → Copied g gens cs hs h → Reads g d false h
  copy_reads small h (kept m c) = lg.general_reads d hd h m
  copy_reads small h (counted e) =
      let q = generations_length gens zero g.zones in
      rw e (reads g ok d false (counters cs) (q, generations_small gens zero g.zones (λ k b. generation_small (gens (zero + k)) (let i : zero + k ≡ k = omega arith in rw i (small k b)))) (eq-eqb (length cs) g.zones q))

  -- it begins with a label of the array number
  pub copy_begins : (y : ℕ) × (t : List Header) × (copied_general g gens cs hs ≡ label y γ.array ∷ t)
  unfolding copied_general
  copy_begins = go (last_label_lem (array_for hs) [] hs) (lg.first d hd)
    where
      go : LastLabel (array_for hs) [] hs → (y : ℕ) × (t : List Header) × (hs ≡ label y γ.array ∷ t) → (y : ℕ) × (t : List Header) × (copied_general g gens cs hs ≡ label y γ.array ∷ t)
      go (no_label e f) (y, t, q) =
          let a : last_lost y t ≡ 0 = rw q at (f 0) in
          let b : last_lost y t ≡ 1 = rw q at (f 1) in
          absurd (omega (arith, a, b))
      go (a_label y c e m f) q =
          let s : array_for hs c ≡ γ.array = label_array y c m ∙ lg.arrays d hd y c m in
          (y, counters cs ∷ (kept_seals g gens hs ++ kept_resets g gens hs), rw (e, s) refl)

  -- its counters are those in force
  pub copy_generation : (n z : ℕ) → z < g.zones → generation_in z (general_log g gens hs n) ≡ gens z
  copy_generation n z hz =
      let e : last_counters [] (general_log g gens hs n) ≡ cs = last_counters_append [] (copied_general g gens cs hs) (closing 0 n ∷ []) ∙ copied_counters g gens cs hs in
      ap (λ (c : List ℕ). get_or c z zero) e ∙ generations_at gens zero g.zones z hz ∙ (let i : zero + z ≡ z = omega arith in ap gens i)

-- ---- the law
module _ (g : Geometry) (ok : Valid g) (x d : ℕ) (v w : Device) (γ : Ghost) (lg : LogsOk g x v γ) (gens : ℕ → ℕ) (n : ℕ) (cp : Copyable g x d γ gens n) (em : EmptiedTo g x d v w (general_log g gens (γ.general d) n)) where
  abbrev front : List Header
  front = copied_general g gens (generations_from gens zero g.zones) (γ.general d)

  abbrev copy : List Header
  copy = general_log g gens (γ.general d) n

  abbrev δ : Ghost
  δ = emptied_ghost γ d copy n

  abbrev CopiedHere : Header → Type 0
  CopiedHere h = Copied g gens (generations_from gens zero g.zones) (γ.general d) h ⊎ (h ≡ closing 0 n)

  of : (h : Header) → Memᴰ h copy → CopiedHere h
  of h m = go (mem_append front (closing 0 n ∷ []) h m)
    where
      one : Memᴰ h (closing 0 n ∷ []) → CopiedHere h
      one (mathlib.Core.List.Memᴰ.head e) = inr e
      one (mathlib.Core.List.Memᴰ.tail k) = mem_nil h k

      go : Memᴰ h front ⊎ Memᴰ h (closing 0 n ∷ []) → CopiedHere h
      go (inl k) = inl (copy_of g ok x d cp.present v γ lg gens h k)
      go (inr k) = one k

  -- what holds of the copy on d and of each other log holds of all
  by_drive : (e : ℕ) (Q : List Header → ZoneView → Type 0) → Here g x e → (e ≡ d → Q copy (record { sectors = map (encode g d) copy; durable = length copy })) → (e ≢ d → Q (γ.general e) (v e general_zone)) → Q (δ.general e) (w e general_zone)
  by_drive e Q a p q = go (ℕ_discrete e d)
    where
      go : Dec (e ≡ d) → Q (δ.general e) (w e general_zone)
      go (yes r) = rw (eq-eqb e d r, r, em.log) (p r)
      go (no r) = rw (ne_eqb e d r, em.others e general_zone a (inl r) (λ t. omega (arith, t))) (q r)

  begins : (y : ℕ) × (t : List Header) × (copy ≡ label y γ.array ∷ t)
  begins = let (y, t, e) = copy_begins g ok x d cp.present v γ lg gens in (y, t ++ (closing 0 n ∷ []), rw e refl)

  begins_long : 1 ≤ length copy
  begins_long = let (y, t, e) = begins in rw e (omega arith)

  copied_reads : (h : Header) → CopiedHere h → Reads g d false h
  copied_reads h (inl c) = copy_reads g ok x d cp.present v γ lg gens cp.small h c
  copied_reads h (inr e) = rw e (reads g ok d false (closing 0 n) (omega arith, generation_small n cp.top) (rw (lt-ltb 0 n cp.some) refl))

  copied_arrays : (y a : ℕ) → CopiedHere (label y a) → a ≡ γ.array
  copied_arrays y a (inl (kept m c)) = lg.arrays d cp.present y a m
  copied_arrays y a (inl (counted e)) = absurd (let o : ◌≡◌ {A = ℕ} 0 1 = cc in omega arith)
  copied_arrays y a (inr e) = absurd (let o : ◌≡◌ {A = ℕ} 0 1 = cc in omega arith)

  -- its last label is the log's
  copied_names : LastNames x (length copy) copy
  copied_names j q =
      let t : take j copy ≡ copy = take_all j copy q in
      let e : last_lost no_drive copy ≡ last_lost no_drive (γ.general d) = copy_lost g gens (generations_from gens zero g.zones) (γ.general d) n no_drive in
      rw (t, e) (last_names x (v d general_zone).durable (γ.general d) (lg.labels d cp.present))

  copied_closes : (k m : ℕ) → CopiedHere (closing k m) → m ≡ n
  copied_closes k m (inl (kept o c)) = absurd (c k m refl)
  copied_closes k m (inl (counted e)) = absurd (let o : ◌≡◌ {A = ℕ} 0 1 = cc in omega arith)
  copied_closes k m (inr e) = cc

  all_lasts : take (length copy) copy ≡ copy
  all_lasts = take-length copy

  other_zone_lem : (e y : ℕ) → Here g x e → y ≢ general_zone → y ≢ spare_zone → w e y ≡ v e y
  other_zone_lem e y a p q = em.others e y a (inr p) q

  parity_on_lem : (e : ℕ) → Here g x e → w e parity_zone ≡ v e parity_zone
  parity_on_lem e a = other_zone_lem e parity_zone a (λ q. omega arith) (λ q. omega (arith, q))

  -- THE LOGS ARE IN ORDER
  pub emptied_logs : LogsOk g x w δ
  emptied_logs = record {
    lost_ok = lg.lost_ok;
    array_lt = lg.array_lt;
    general_is = λ e a. by_drive e (λ hs z. z.sectors ≡ map (encode g e) hs) a (λ r. rw r refl) (λ r. lg.general_is e a);
    general_reads = λ e a. by_drive e (λ hs z. (h : Header) → Memᴰ h hs → Reads g e false h) a (λ r h m. rw r (copied_reads h (of h m))) (λ r. lg.general_reads e a);
    first = λ e a. by_drive e (λ hs z. (y : ℕ) × (t : List Header) × (hs ≡ label y γ.array ∷ t)) a (λ r. begins) (λ r. lg.first e a);
    first_lasts = λ e a. by_drive e (λ hs z. 1 ≤ z.durable) a (λ r. begins_long) (λ r. lg.first_lasts e a);
    arrays = λ e a. by_drive e (λ hs z. (y b : ℕ) → Memᴰ (label y b) hs → b ≡ γ.array) a (λ r y b m. copied_arrays y b (of (label y b) m)) (λ r. lg.arrays e a);
    labels = λ e a. by_drive e (λ hs z. LastNames x z.durable hs) a (λ r. copied_names) (λ r. lg.labels e a);
    general_closes = λ e a k m. closes e a k m (ℕ_discrete e d);
    general_closed = λ e a. shut e a (ℕ_discrete e d);
    parity_closes = lg.parity_closes;
    parity_closed_lem = λ e a. rw (parity_on_lem e a) (lg.parity_closed_lem e a);
    parity_is = λ e a. rw (parity_on_lem e a) (lg.parity_is e a);
    parity_lawful = lg.parity_lawful;
    parity_fits = lg.parity_fits;
    lasting = λ e y a h. low e y a h (ℕ_discrete y general_zone) (ℕ_discrete y spare_zone);
    place_fits = λ e y a h. fit e y a h (ℕ_discrete y general_zone) (ℕ_discrete y spare_zone);
  }
    where
      closes : (e : ℕ) → Here g x e → (k m : ℕ) → Dec (e ≡ d) → Memᴰ (closing k m) (δ.general e) → m ≡ pick (eqb e d) n (γ.closed e).0
      closes e a k m (yes r) = rw (eq-eqb e d r) (λ o. copied_closes k m (of (closing k m) o))
      closes e a k m (no r) = rw (ne_eqb e d r) (lg.general_closes e a k m)

      shut : (e : ℕ) → Here g x e → Dec (e ≡ d) → 0 < pick (eqb e d) n (γ.closed e).0 → Memᴰ (closing 0 (pick (eqb e d) n (γ.closed e).0)) (take (w e general_zone).durable (δ.general e))
      shut e a (yes r) = rw (eq-eqb e d r, r, em.log, all_lasts) (λ q. mem_right front (closing 0 n ∷ []) (closing 0 n) (mathlib.Core.List.Memᴰ.head refl))
      shut e a (no r) = rw (ne_eqb e d r, em.others e general_zone a (inl r) (λ t. omega (arith, t))) (lg.general_closed e a)

      low : (e y : ℕ) → Here g x e → y < physical_zones g → Dec (y ≡ general_zone) → Dec (y ≡ spare_zone) → (w e y).durable ≤ length (w e y).sectors
      low e y a h (yes p) q = rw p (by_drive e (λ hs z. z.durable ≤ length z.sectors) a (λ r. rw length_map (le_refl (length copy))) (λ r. lg.lasting e general_zone a (omega arith)))
      low e y a h (no p) (yes q) = rw q (em.spare_lasts e a)
      low e y a h (no p) (no q) = rw (other_zone_lem e y a p q) (lg.lasting e y a h)

      fit : (e y : ℕ) → Here g x e → y < physical_zones g → Dec (y ≡ general_zone) → Dec (y ≡ spare_zone) → length (w e y).sectors ≤ g.capacity
      fit e y a h (yes p) q = rw p (by_drive e (λ hs z. length z.sectors ≤ g.capacity) a (λ r. rw length_map cp.room) (λ r. lg.place_fits e general_zone a (omega arith)))
      fit e y a h (no p) (yes q) = rw q (em.spare_fits e a)
      fit e y a h (no p) (no q) = rw (other_zone_lem e y a p q) (lg.place_fits e y a h)

  -- ---- what the logs say of a zone
  copy_gen : (z : ℕ) → z < g.zones → generation_in z copy ≡ gens z
  copy_gen z hz = copy_generation g ok x d cp.present v γ lg gens n z hz

  -- THE GENERATIONS IN FORCE STAY
  pub emptied_force : InForce g x δ gens
  emptied_force = record {
    some = λ z hz. (d, cp.present, rw (eq-eqb d d refl) (sym (copy_gen z hz)));
    most = λ z e hz a. by_drive e (λ hs u. generation_in z hs ≤ gens z) a (λ r. le_of_eq (copy_gen z hz)) (λ r. cp.force.most z e hz a);
  }

  -- whatever a cut keeps, the copy's counters are those in force
  copy_counts : (z : ℕ) → z < g.zones → (Q : ℕ → Type 0) → Q (gens z) → (j : ℕ) → length copy ≤ j → Q (generation_in z (take j copy))
  copy_counts z hz Q q j h = rw (take_all j copy h, copy_gen z hz) q

  -- a count of any drive: that of the drive before, or the one in force
  counts_on : (z : ℕ) → z < g.zones → (Q : ℕ → Type 0) (e : ℕ) → Here g x e → Q (gens z) → ((j : ℕ) → (v e general_zone).durable ≤ j → Q (generation_in z (take j (γ.general e)))) → (j : ℕ) → (w e general_zone).durable ≤ j → Q (generation_in z (take j (δ.general e)))
  counts_on z hz Q e a new old = by_drive e (λ hs u. (j : ℕ) → u.durable ≤ j → Q (generation_in z (take j hs))) a (λ r. copy_counts z hz Q new) (λ r. old)

  -- what every present drive's log gives, that in force is
  force_is : (z : ℕ) → z < g.zones → (Q : ℕ → Type 0) → ((e : ℕ) → Here g x e → (j : ℕ) → (v e general_zone).durable ≤ j → Q (generation_in z (take j (γ.general e)))) → Q (gens z)
  force_is z hz Q h =
      let (e, a, q) = cp.force.some z hz in
      let j = (v e general_zone).durable + length (γ.general e) in
      let t : take j (γ.general e) ≡ γ.general e = take_all j (γ.general e) (omega arith) in
      rw q (rw t at (h e a j (omega arith)))

  module _ (l : Ledger) (z : ℕ) (hz : z < g.zones) where
    abbrev s : Said
    s = said g v γ z

    abbrev t : Said
    t = said g w δ z

    abbrev Joining : Header → ℕ → Type 0
    Joining h e = Memᴰ h (γ.general e) ⊎ HeadJoins g x z (facts_of γ l z) s h

    copied_head : (h : Header) → CopiedHere h → zone_gen h (λ y m. y ≡ z → Memᴰ h (γ.general d))
    copied_head h (inl c) = copied_heads g gens (generations_from gens zero g.zones) (γ.general d) z h c
    copied_head h (inr e) = rw e tt

    heads_on : (e : ℕ) → Here g x e → (h : Header) → Memᴰ h (δ.general e) → zone_gen h (λ y m. y ≡ z → Joining h e)
    heads_on e a = by_drive e (λ hs u. (h : Header) → Memᴰ h hs → zone_gen h (λ y m. y ≡ z → Joining h e)) a
        (λ r h m. rw r (zone_gen_map h (λ y i. y ≡ z → Memᴰ h (γ.general d)) (λ y i. y ≡ z → Joining h d) (λ y i p q. inl (p q)) (copied_head h (of h m))))
        (λ r h m. always_of h z (Joining h e) (inl m))

    -- the generation in force is the zone's, or has passed it
    abbrev Reached : Type 0
    Reached = (γ.generation z ≡ gens z) ⊎ (γ.generation z < gens z)

    -- of a log hs of which n sectors are durable: a seal at or below c lasts, or its counters have passed the generation
    abbrev CapOn : ℕ → List Header → ℕ → Type 0
    CapOn c hs n = ((b : ℕ) × (b ≤ c) × Memᴰ (seal z b (γ.generation z)) (take n hs)) ⊎ ((j : ℕ) → n ≤ j → γ.generation z < generation_in z (take j hs))

    caps_on : Reached → (e : ℕ) → Here g x e → (c : ℕ) → s.general_lasts e (seal z c (γ.generation z)) → SealSpent t z (γ.generation z) c e
    caps_on p e a c = by_drive e (λ hs u. s.general_lasts e (seal z c (γ.generation z)) → CapOn c hs u.durable) a (λ r m. on r p m) (λ r m. inl (c, le_refl c, m))
      where
        on : e ≡ d → Reached → Memᴰ (seal z c (γ.generation z)) (take (v e general_zone).durable (γ.general e)) → CapOn c copy (length copy)
        on r (inl q) m =
            let k : Memᴰ (seal z c (gens z)) (γ.general d) = rw (r, q) at (mem_take (v e general_zone).durable (γ.general e) (seal z c (γ.generation z)) m) in
            let (b, i, o) = copied_seal g gens (generations_from gens zero g.zones) (γ.general d) z c hz k in
            inl (b, i, lasting b (mem_left front (closing 0 n ∷ []) (seal z b (gens z)) o))
          where
            lasting : (b : ℕ) → Memᴰ (seal z b (gens z)) copy → Memᴰ (seal z b (γ.generation z)) (take (length copy) copy)
            lasting b o = rw (all_lasts, q) o
        on r (inr q) m = inr (copy_counts z hz (λ i. γ.generation z < i) q)

    moves : Reached → Moves g x x z (facts_of γ l z) s t
    moves p = record {
      here = λ e a. a;
      heads = heads_on;
      caps = caps_on p;
      entries = λ e a q m. always_of q.head z (Was g e q (λ (o : Entry). Memᴰ o (γ.parity e)) ⊎ EntryJoins g x z (facts_of γ l z) s t.general e q) (inl (was_self g e q (λ (o : Entry). Memᴰ o (γ.parity e)) m));
    }

    data_on : (e : ℕ) → Here g x e → w e (data_zone z) ≡ v e (data_zone z)
    data_on e a = other_zone_lem e (data_zone z) a (λ q. omega (arith, q)) (λ q. omega (arith, q))

    -- A LIVE ZONE STAYS LIVE
    pub emptied_live : Live g x v γ l z → Live g x w δ l z
    emptied_live h =
        let q : gens z ≡ γ.generation z = force_is z hz (λ m. m ≡ γ.generation z) h.counts in
        let c : (e : ℕ) → Here g x e → t.counts e (λ m. m ≡ γ.generation z) = λ e a. counts_on z hz (λ m. m ≡ γ.generation z) e a q (h.counts e a) in
        live_moves g x x z (facts_of γ l z) s t (moves (inl (sym q))) (λ e. v e (data_zone z)) (λ e. w e (data_zone z)) h
        (survives_still g x x z (γ.generation z) (l.committed z) (λ e a. a) (λ e a. rw (data_on e a) (le_refl (v e (data_zone z)).durable)) (λ e a p i m. rw (parity_on_lem e a) m) h.strong) c (λ e a. said_sure g w δ z e (γ.generation z) (c e a))
        (λ e a. rw (data_on e a) (h.places e a))

    -- A DYING ONE STAYS DYING
    pub emptied_dying : Dying g x v γ l z → Dying g x w δ l z
    emptied_dying h =
        let b = force_is z hz (λ m. (γ.generation z ≤ m) × (m ≤ worn_generation)) h.counts in
        let r : γ.generation z < gens z → (e : ℕ) → Here g x e → (v e (data_zone z)).sectors ≡ [] = force_is z hz (λ m. γ.generation z < m → (e : ℕ) → Here g x e → (v e (data_zone z)).sectors ≡ []) h.raised in
        dying_moves g x x z (facts_of γ l z) s t (moves (which (dec_lt (γ.generation z) (gens z)) b.0)) (λ e. v e (data_zone z)) (λ e. w e (data_zone z)) h
        (λ e a. counts_on z hz (λ m. (γ.generation z ≤ m) × (m ≤ worn_generation)) e a b (h.counts e a))
        (λ e a. counts_on z hz (λ m. γ.generation z < m → (e : ℕ) → Here g x e → (w e (data_zone z)).sectors ≡ []) e a (λ q i k. rw (data_on i k) (r q i k)) (λ j o q i k. rw (data_on i k) (h.raised e a j o q i k)))
        past (λ e a m. resets e a (which (dec_lt (γ.generation z) (gens z)) b.0) m) (λ e a q. rw (data_on e a) q)
        (λ e a q m. always_of q.head z (Was g e q (λ (o : Entry). Memᴰ o (γ.parity e))) (was_self g e q (λ (o : Entry). Memᴰ o (γ.parity e)) m))
      where
        which : Dec (γ.generation z < gens z) → γ.generation z ≤ gens z → Reached
        which (yes p) q = inr p
        which (no p) q = inl (omega arith)

        past : (e : ℕ) → Here g x e → s.counts e (λ m. γ.generation z < m) → t.counts e (λ m. γ.generation z < m)
        past e a c =
            let j = (v e general_zone).durable + length (γ.general e) in
            let k : take j (γ.general e) ≡ γ.general e = take_all j (γ.general e) (omega arith) in
            let o : γ.generation z < generation_in z (γ.general e) = rw k at (c j (omega arith)) in
            counts_on z hz (λ m. γ.generation z < m) e a (omega (arith, o, cp.force.most z e hz a)) c

        resets : (e : ℕ) → Here g x e → Reached → s.general_lasts e (zone_reset z (γ.generation z)) → LoggedIn t z (γ.generation z) e
        resets e a p m = side (ℕ_discrete e d)
          where
            side : Dec (e ≡ d) → LoggedIn t z (γ.generation z) e
            side (no r) = reset_lasts (rw (ne_eqb e d r, em.others e general_zone a (inl r) (λ q. omega (arith, q))) m)
            side (yes r) = on p
              where
                on : Reached → LoggedIn t z (γ.generation z) e
                on (inl q) =
                    let k : Memᴰ (zone_reset z (gens z)) (γ.general d) = rw (r, q) at (mem_take (v e general_zone).durable (γ.general e) (zone_reset z (γ.generation z)) m) in
                    reset_lasts (rw (eq-eqb e d r, r, em.log, all_lasts, q) (mem_left front (closing 0 n ∷ []) (zone_reset z (gens z)) (copied_reset g gens (generations_from gens zero g.zones) (γ.general d) z hz k)))
                on (inr q) = counts_past (rw (eq-eqb e d r, r, em.log) (copy_counts z hz (λ i. γ.generation z < i) q))

  -- THE LAW
  pub emptied_inv : (l : Ledger) → ((z : ℕ) → z < g.zones → Live g x v γ l z ⊎ Dying g x v γ l z) → Inv g x w l δ
  emptied_inv l zs = record { logs = emptied_logs; zones = λ z hz. go z hz (zs z hz) }
    where
      go : (z : ℕ) → z < g.zones → Live g x v γ l z ⊎ Dying g x v γ l z → Live g x w δ l z ⊎ Dying g x w δ l z
      go z hz (inl h) = inl (emptied_live l z hz h)
      go z hz (inr h) = inr (emptied_dying l z hz h)

  -- AND AT REST
  pub emptied_rest : (state : StateView) (l : Ledger) → Rest g x v state l γ → Rest g x w state l δ
  emptied_rest state l r = record {
    logs = emptied_logs;
    zones = λ z hz. let q = r.zones z hz in record {
      live = emptied_live l z hz q.live;
      generation_is = q.generation_is;
      pointer_is = q.pointer_is;
      strong_now = record { places = λ e a. rw (data_on l z hz e a) (q.strong_now.places e a); entry = q.strong_now.entry };
      shape = shaped z hz q.live (state.condition z) q.shape;
      sectors = q.sectors;
      no_flag = q.no_flag;
    };
    whole = r.whole;
    lost_is = r.lost_is;
  }
    where
      no_new : (z : ℕ) → z < g.zones → (e : ℕ) → Here g x e → (c : ℕ) → Memᴰ (seal z c (γ.generation z)) (δ.general e) → Memᴰ (seal z c (γ.generation z)) (γ.general e)
      no_new z hz e a c = by_drive e (λ hs u. Memᴰ (seal z c (γ.generation z)) hs → Memᴰ (seal z c (γ.generation z)) (γ.general e)) a
          (λ q m. rw q (copied_head l z hz (seal z c (γ.generation z)) (of (seal z c (γ.generation z)) m) refl)) (λ q m. m)

      plain : (z : ℕ) → z < g.zones → Plain g x v γ l z → Plain g x w δ l z
      plain z hz p = record { all_content = p.all_content; just = λ e a. rw (data_on l z hz e a) (p.just e a); no_seal = λ e a c m. p.no_seal e a c (no_new z hz e a c m); unworn = p.unworn }

      shaped : (z : ℕ) → z < g.zones → Live g x v γ l z → (c : Condition) → Shape g x v γ l z c → Shape g x w δ l z c
      shaped z hz h Empty p = plain z hz p
      shaped z hz h (Open i) p = plain z hz p
      shaped z hz h (Sealed i) p =
          let q : gens z ≡ γ.generation z = force_is z hz (λ m. m ≡ γ.generation z) h.counts in
          (moves_capped g x x z (facts_of γ l z) (said g v γ z) (said g w δ z) (moves l z hz (inl (sym q))) (λ e a. said_sure g w δ z e (γ.generation z) ((emptied_live l z hz h).counts e a)) (length (l.content z)) p.0, p.1, p.2)
      shaped z hz h (Worn i) p = p
