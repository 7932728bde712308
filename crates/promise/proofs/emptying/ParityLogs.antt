-- A parity log that is emptied: by its copy, all of which lasts, the logs are in order as they were by the old log. The copy holds entries of the old log,
-- entries that were made, and one closing entry. (v: the device by its roles before; w: after; d: the drive; n: the new log's generation.)
use Rattle.std.specs.Prelude.{◌≡◌, refl, ◌≢◌, ◌⊎◌, true, ℕ, ◌+◌, ◌-◌, ◌^◌, ◌≤◌, ◌<◌, length, eqb}
use Rattle.std.proofs.Common.{sym, ap, ◌∙◌, inl, inr, le_refl, le_trans, arith, eq-eqb, ne_eqb, lt-ltb}
use Rattle.std.proofs.Math.Decide.{ℕ_discrete}
use mathlib.Core.List.{List, [], ◌∷◌, Memᴰ}
use Rattle.tables.specs.meaning.Basics.{pick}
use Rattle.tables.specs.meaning.Device.{ZoneView, Device}
use Rattle.tables.specs.declared.Geometry.{Geometry}
use Rattle.tables.specs.meaning.Geometry.{Valid, physical_zones, data_zone}
use Rattle.logs.specs.meaning.Entry.{general_zone, parity_zone, spare_zone, closing, Entry}
use Rattle.logs.specs.laws.Codec.{reads}
use Rattle.logs.specs.laws.Walk.{Reads, Whole, WellFormedLog, sectors_of_all, log_extent, cut_entries, cut_all}
use Rattle.logs.specs.laws.LogLaws.{lawful_reads, sectors_of_most}
use Rattle.volume.specs.meaning.State.{set_at}
use Rattle.promise.proofs.invariant.Invariant.{Ghost, Here, LogsOk, LogGenerations, closing_entry}

-- an entry of the old log, not a closing one
abbrev pub KeptEntry : Ghost → ℕ → Entry → Type 0
KeptEntry γ d e = Memᴰ e (γ.parity d) × ((k i : ℕ) → e.head ≡ closing k i → ⊥)

-- (Made: an entry that was made)
abbrev pub Among : Ghost → ℕ → (Entry → Type 0) → ℕ → Entry → Type 0
Among γ d Made n e = KeptEntry γ d e ⊎ ((e ≡ closing_entry 1 n) ⊎ Made e)

pub record ParityCopyOf (g : Geometry) (d : ℕ) (γ : Ghost) (Made : Entry → Type 0) (copy : List Entry) (n : ℕ) : Type 0 where
  pub from : (e : Entry) → Memᴰ e copy → Among γ d Made n e
  pub old_whole : (e : Entry) → Memᴰ e (γ.parity d) → Memᴰ e copy → Whole g d true e
  pub made_ok : (e : Entry) → Made e → Reads g d true e.head × Whole g d true e × ((k i : ℕ) → e.head ≡ closing k i → ⊥)
  pub closes : Memᴰ (closing_entry 1 n) copy
  pub room : log_extent g d true copy ≤ g.capacity

-- the log lies there, and lasts
abbrev pub laid_log : Geometry → ℕ → List Entry → ZoneView
laid_log g d copy = record { sectors = sectors_of_all g d true copy; durable = length (sectors_of_all g d true copy) }

pub record ParityEmptiedTo (g : Geometry) (x d : ℕ) (v w : Device) (copy : List Entry) : Type 0 where
  pub log : w d parity_zone ≡ laid_log g d copy
  pub others : (e y : ℕ) → Here g x e → (e ≢ d) ⊎ (y ≢ parity_zone) → y ≢ spare_zone → w e y ≡ v e y
  pub spare_lasts : (e : ℕ) → Here g x e → (w e spare_zone).durable ≤ length (w e spare_zone).sectors
  pub spare_fits : (e : ℕ) → Here g x e → length (w e spare_zone).sectors ≤ g.capacity

-- the generations of the logs then
abbrev pub parity_closed : LogGenerations → ℕ → ℕ → LogGenerations
parity_closed c d n e = ((c e).0, pick (eqb e d) n (c e).1)

abbrev pub parity_ghost : Ghost → ℕ → List Entry → ℕ → Ghost
parity_ghost γ d copy n = record {
  laid = γ.laid;
  generation = γ.generation;
  general = γ.general;
  parity = set_at γ.parity d copy;
  array = γ.array;
  closed = parity_closed γ.closed d n;
}

pub lawful_of : (g : Geometry) (d : ℕ) (es : List Entry) → ((e : Entry) → Memᴰ e es → Reads g d true e.head × Whole g d true e) → WellFormedLog g d true es
lawful_of g d [] h = tt
lawful_of g d (e ∷ es) h = let q = h e (Memᴰ.head refl) in (q.0, inl q.1, lawful_of g d es (λ f m. h f (Memᴰ.tail m)))

module _ (g : Geometry) (ok : Valid g) (x d : ℕ) (hd : Here g x d) (v w : Device) (γ : Ghost) (lg : LogsOk g x v γ) (Made : Entry → Type 0) (copy : List Entry) (n : ℕ) (n1 : 0 < n) (n_lt : n < 256 ^ 8)
    (pc : ParityCopyOf g d γ Made copy n) where
  abbrev pub δ : Ghost
  δ = parity_ghost γ d copy n

  pub entry_ok : (e : Entry) → Memᴰ e copy → Reads g d true e.head × Whole g d true e
  entry_ok e m = go (pc.from e m)
    where
      go : Among γ d Made n e → Reads g d true e.head × Whole g d true e
      go (inl (o, c)) = (lawful_reads g d (γ.parity d) e (lg.parity_lawful d hd) o, pc.old_whole e o m)
      go (inr (inr o)) = let k = pc.made_ok e o in (k.0, k.1)
      go (inr (inl q)) = rw q (reads g ok d true (closing 1 n) (omega arith, n_lt) (rw (lt-ltb 0 n n1) refl), refl)

  pub copy_lawful : WellFormedLog g d true copy
  copy_lawful = lawful_of g d copy entry_ok

  module _ (em : ParityEmptiedTo g x d v w copy) where
    pub by_drive : (e : ℕ) (Q : List Entry → ZoneView → Type 0) → Here g x e → (e ≡ d → Q copy (laid_log g d copy)) → (e ≢ d → Q (γ.parity e) (v e parity_zone)) → Q (δ.parity e) (w e parity_zone)
    by_drive e Q a p q = go (ℕ_discrete e d)
      where
        go : Dec (e ≡ d) → Q (δ.parity e) (w e parity_zone)
        go (yes t) = rw (eq-eqb e d t, t, em.log) (p t)
        go (no t) = rw (ne_eqb e d t, em.others e parity_zone a (inl t) (λ u. omega (arith, u))) (q t)

    other_zone_lem : (e y : ℕ) → Here g x e → y ≢ parity_zone → y ≢ spare_zone → w e y ≡ v e y
    other_zone_lem e y a p q = em.others e y a (inr p) q

    pub general_on : (e : ℕ) → Here g x e → w e general_zone ≡ v e general_zone
    general_on e a = other_zone_lem e general_zone a (λ t. omega arith) (λ t. omega (arith, t))

    pub data_on : (e z : ℕ) → Here g x e → w e (data_zone z) ≡ v e (data_zone z)
    data_on e z a = other_zone_lem e (data_zone z) a (λ q. omega (arith, q)) (λ q. omega (arith, q))

    pub all_lasts : cut_entries g d true copy (length (sectors_of_all g d true copy)) ≡ copy
    all_lasts = cut_all g d true copy (length (sectors_of_all g d true copy)) (le_refl (length (sectors_of_all g d true copy)))

    -- of the entries that last
    pub lasting_by : (e : ℕ) → Here g x e → (Q : List Entry → Type 0) → (e ≡ d → Q copy) → (e ≢ d → Q (cut_entries g e true (γ.parity e) (v e parity_zone).durable)) → Q (cut_entries g e true (δ.parity e) (w e parity_zone).durable)
    lasting_by e a Q p q = go (ℕ_discrete e d)
      where
        go : Dec (e ≡ d) → Q (cut_entries g e true (δ.parity e) (w e parity_zone).durable)
        go (yes t) = rw (eq-eqb e d t, t, em.log, all_lasts) (p t)
        go (no t) = rw (ne_eqb e d t, em.others e parity_zone a (inl t) (λ u. omega (arith, u))) (q t)

    pub parity_emptied_logs : LogsOk g x w δ
    parity_emptied_logs = record {
      lost_ok = lg.lost_ok;
      array_lt = lg.array_lt;
      general_is = λ e a. rw (general_on e a) (lg.general_is e a);
      general_reads = lg.general_reads;
      first = lg.first;
      first_lasts = λ e a. rw (general_on e a) (lg.first_lasts e a);
      arrays = lg.arrays;
      labels = λ e a. rw (general_on e a) (lg.labels e a);
      general_closes = lg.general_closes;
      general_closed = λ e a. rw (general_on e a) (lg.general_closed e a);
      parity_closes = λ e a p m k i q. closes e a p m k i q (ℕ_discrete e d);
      parity_closed_lem = λ e a q. shut e a q (ℕ_discrete e d);
      parity_is = λ e a. by_drive e (λ es z. z.sectors ≡ sectors_of_all g e true es) a (λ t. rw t refl) (λ t. lg.parity_is e a);
      parity_lawful = λ e a. by_drive e (λ es z. WellFormedLog g e true es) a (λ t. rw t copy_lawful) (λ t. lg.parity_lawful e a);
      parity_fits = λ e a. by_drive e (λ es z. log_extent g e true es ≤ g.capacity) a (λ t. rw t pc.room) (λ t. lg.parity_fits e a);
      lasting = λ e y a h. low e y a h (ℕ_discrete y parity_zone) (ℕ_discrete y spare_zone);
      place_fits = λ e y a h. fit e y a h (ℕ_discrete y parity_zone) (ℕ_discrete y spare_zone);
    }
      where
        old_closing : (e : Entry) (k i : ℕ) → e.head ≡ closing k i → Among γ d Made n e → i ≡ n
        old_closing e k i q (inl (m, c)) = absurd (c k i q)
        old_closing e k i q (inr (inr m)) = absurd ((pc.made_ok e m).2 k i q)
        old_closing e k i q (inr (inl t)) = let u : closing 1 n ≡ closing k i = ap (λ (p : Entry). p.head) (sym t) ∙ q in cc

        closes : (e : ℕ) → Here g x e → (p : Entry) → Memᴰ p (δ.parity e) → (k i : ℕ) → p.head ≡ closing k i → Dec (e ≡ d) → i ≡ pick (eqb e d) n (γ.closed e).1
        closes e a p m k i q (yes t) = rw (eq-eqb e d t) (old_closing p k i q (pc.from p (rw (eq-eqb e d t) at m)))
        closes e a p m k i q (no t) = rw (ne_eqb e d t) (lg.parity_closes e a p (rw (ne_eqb e d t) at m) k i q)

        shut : (e : ℕ) → Here g x e → 0 < pick (eqb e d) n (γ.closed e).1 → Dec (e ≡ d) → Memᴰ (closing_entry 1 (pick (eqb e d) n (γ.closed e).1)) (cut_entries g e true (δ.parity e) (w e parity_zone).durable)
        shut e a q (yes t) = rw (eq-eqb e d t, t, em.log, all_lasts) pc.closes
        shut e a q (no t) = rw (ne_eqb e d t, em.others e parity_zone a (inl t) (λ u. omega (arith, u))) (lg.parity_closed_lem e a (rw (ne_eqb e d t) at q))

        low : (e y : ℕ) → Here g x e → y < physical_zones g → Dec (y ≡ parity_zone) → Dec (y ≡ spare_zone) → (w e y).durable ≤ length (w e y).sectors
        low e y a h (yes p) q = rw p (by_drive e (λ es z. z.durable ≤ length z.sectors) a (λ t. le_refl (length (sectors_of_all g d true copy))) (λ t. lg.lasting e parity_zone a (omega arith)))
        low e y a h (no p) (yes q) = rw q (em.spare_lasts e a)
        low e y a h (no p) (no q) = rw (other_zone_lem e y a p q) (lg.lasting e y a h)

        fit : (e y : ℕ) → Here g x e → y < physical_zones g → Dec (y ≡ parity_zone) → Dec (y ≡ spare_zone) → length (w e y).sectors ≤ g.capacity
        fit e y a h (yes p) q = rw p (by_drive e (λ es z. length z.sectors ≤ g.capacity) a (λ t. le_trans (sectors_of_most g d copy copy_lawful) pc.room) (λ t. lg.place_fits e parity_zone a (omega arith)))
        fit e y a h (no p) (yes q) = rw q (em.spare_fits e a)
        fit e y a h (no p) (no q) = rw (other_zone_lem e y a p q) (lg.place_fits e y a h)
