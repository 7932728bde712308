-- Step 8 of a mount: rows missing from torn entries. The entry is completed with true rows if it is current and ends at or below the pointer;
-- else with zeros, which is safe: the entry ends past its zone's cap, or is of a generation that has passed.
use Rattle.std.specs.Prelude.{◌≡◌, ◌≢◌, ◌⊎◌}
use Rattle.std.proofs.Math.Path.{refl, sym, ap}
use Rattle.std.proofs.Common.{ap₂, ◌∙◌, le_of_eq, not-suc-le-zero, le-leb, eq-eqb, ne_eqb}
use Rattle.std.proofs.Math.Logic.{inl, inr}
use Rattle.std.proofs.Math.Bool.{true}
use Prim.Native.Nat.{ℕ, zero, suc, ◌+◌, ◌-◌, ◌*◌, ◌≤◌, ◌<◌, min, zero-le}
use native.Mathlib.Omega.{arith}
use Rattle.std.proofs.Math.Decide.{ℕ_discrete, dec_lt}
use mathlib.Core.List.{List, [], ◌∷◌, ◌++◌, map, append-nil, append_assoc, Memᴰ}
use Rattle.std.proofs.Math.ListN.{length, get_or, take, length-take, length-append, get_or-append}
use Rattle.tables.specs.meaning.Device.{ZoneView, Device, flushed}
use Rattle.tables.specs.declared.Geometry.{Geometry}
use Rattle.tables.specs.meaning.Geometry.{Valid, stripe_sectors}
use Rattle.logs.specs.meaning.Entry.{general_zone, parity_zone, worn_generation, Header, label, counters, partial_parity, seal, closing, zone_reset, Entry, encode, rows_of}
use Rattle.tables.specs.meaning.Drives.{present_but}
use Rattle.tables.specs.laws.Drives.{present_below}
use Rattle.tables.specs.meaning.Lists.{concat}
use Rattle.tables.specs.laws.Lists.{mem_take}
use Rattle.promise.specs.meaning.Ledger.{Ledger}
use Rattle.volume.specs.meaning.Rules.{Shown, parity_ending}
use Rattle.volume.specs.declared.Condition.TheVariants.{Open, Sealed}
use Rattle.volume.specs.meaning.Mount.{with_flush, torn_row_step, missing_rows, row_for}
use Rattle.promise.proofs.invariant.Invariant.{Ghost, Here, Live, Capped, CappedBelow, TrueRows}
use Rattle.promise.proofs.mount.MountRuns.{Runs, Between, Done, step_runs, between_adds, Joined, joined_by}
use Rattle.promise.proofs.mount.MountPlan.{Start, AfterSeals, AfterTornRows, count_reset, count_sealed, CountersDone, Caps, Same, Stays, WornZone, Gone, Clean}
use Rattle.logs.specs.laws.Walk.{Whole, sectors_of_all, WellFormedLog, log_extent, cut_entries, cut_mono, ending_of}
use Rattle.logs.specs.meaning.Walk.{Ending, at_pointer, no_entry, torn, sectors_of}
use Rattle.logs.specs.laws.Heads.{zone_gen}
use Rattle.promise.proofs.invariant.HoldsLess.{with_logs}
use Rattle.promise.proofs.invariant.Obligations.{Invs}
use Rattle.std.proofs.Math.Seq.{take-append_seam, take_all, take-nil, get_or-take}
use Rattle.tables.specs.laws.Local.{LocalStore, append_here, apply_all_here, local_stores, appends_here}
use Rattle.tables.specs.meaning.Below.{tabulate_from}
use Rattle.tables.specs.laws.Below.{get_d_tabulate_from, length_tabulate_from}
use Rattle.volume.specs.meaning.Calls.{append_all}
use Rattle.volume.specs.meaning.Content.{at, row_xor_below}
use Rattle.volume.specs.laws.Content.{row_xor_below_cong}
use Rattle.promise.proofs.calls.WriteLocal.{appends_other_zone, appends_own, appends_other_drive}
use Rattle.promise.proofs.look.LookReads.{parity_ending_lem}
use Rattle.logs.specs.laws.LogLaws.{cut_whole}
use Rattle.promise.proofs.invariant.HoldsMore.{NewEntry}
use Rattle.logs.specs.laws.HeadLaws.{zone_gen_map}
use Rattle.promise.proofs.look.LookLive.{some_present}
use Rattle.tables.specs.laws.Phases.{each_below_own, each_below_unseen}
use Rattle.promise.proofs.mount.MountParityLogs.{Changed, EntryFor, parity_inv, parity_stage, parity_caps, parity_same}

-- ---- rows joined to the last entry of a log
abbrev pub with_rows : Entry → List (List ℕ) → Entry
with_rows e rs = record { head = e.head; rows = e.rows ++ rs }

abbrev pub extend : List Entry → List (List ℕ) → List Entry
extend [] rs = []
extend (e ∷ []) rs = with_rows e rs ∷ []
extend (e ∷ (f ∷ es)) rs = e ∷ extend (f ∷ es) rs

extend_nil : (es : List Entry) → extend es [] ≡ es
extend_nil [] = refl
extend_nil (e ∷ []) = ap (λ (q : Entry). q ∷ []) (λ i. record { head = e.head; rows = append-nil e.rows i })
extend_nil (e ∷ (f ∷ es)) = ap (λ (r : List Entry). e ∷ r) (extend_nil (f ∷ es))

extend_heads : (es : List Entry) (rs : List (List ℕ)) (p : Entry) → Memᴰ p (extend es rs) → (e : Entry) × Memᴰ e es × (p.head ≡ e.head)
extend_heads (e ∷ []) rs p (Memᴰ.head q) = (e, Memᴰ.head refl, rw q refl)
extend_heads (e ∷ (f ∷ es)) rs p (Memᴰ.head q) = (e, Memᴰ.head refl, rw q refl)
extend_heads (e ∷ (f ∷ es)) rs p (Memᴰ.tail m) = let (o, k, q) = extend_heads (f ∷ es) rs p m in (o, Memᴰ.tail k, q)
extend_heads [] rs p x' = elim x' [ ]
extend_heads (e ∷ []) rs p (mathlib.Core.List.Memᴰ.tail m) = elim m [ ]

no_mem : (es : List Entry) (e : Entry) → Memᴰ e es → es ≡ [] → ⊥
no_mem (f ∷ es) e m q = let n : ◌≡◌ {A = ℕ} 0 1 = cc in omega arith
no_mem [] e m q = elim m [ ]

module _ (g : Geometry) (d : ℕ) where
  -- how a lawful log ends
  pub data EndsHow (es : List Entry) : Type 0 where
    fine : ending_of g d true es ≡ at_pointer → ((e : Entry) → Memᴰ e es → Whole g d true e) → EndsHow es
    short : (e : Entry) → Memᴰ e es → ending_of g d true es ≡ torn e.head e.rows → length e.rows < rows_of g e.head
        → ((rs : List (List ℕ)) (p : Entry) → Memᴰ p (extend es rs) → (Memᴰ p es × Whole g d true p) ⊎ (p ≡ with_rows e rs)) → EndsHow es

  ending : (es : List Entry) → WellFormedLog g d true es → EndsHow es
  ending [] lw = fine refl (λ e m. absurd (no_mem [] e m refl))
  ending (e ∷ []) lw = go lw.1
    where
      go : Whole g d true e ⊎ ((length e.rows < rows_of g e.head) × (◌≡◌ {A = List Entry} [] [])) → EndsHow (e ∷ [])
      go (inl q) = fine (rw (eq-eqb (length e.rows) (rows_of g e.head) q) refl) only
        where
          only : (p : Entry) → Memᴰ p (e ∷ []) → Whole g d true p
          only p (Memᴰ.head r) = rw r q
          only p (mathlib.Core.List.Memᴰ.tail x7) = elim x7 [ ]
      go (inr q) = short e (Memᴰ.head refl) (rw (ne_eqb (length e.rows) (rows_of g e.head) (λ r. omega (arith, q.0))) refl) q.0 last
        where
          last : (rs : List (List ℕ)) (p : Entry) → Memᴰ p (with_rows e rs ∷ []) → (Memᴰ p (e ∷ []) × Whole g d true p) ⊎ (p ≡ with_rows e rs)
          last rs p (Memᴰ.head r) = inr r
          last rs p (mathlib.Core.List.Memᴰ.tail x7) = elim x7 [ ]
  ending (e ∷ (f ∷ es)) lw = go lw.1 (ending (f ∷ es) lw.2)
    where
      go : Whole g d true e ⊎ ((length e.rows < rows_of g e.head) × (f ∷ es ≡ [])) → EndsHow (f ∷ es) → EndsHow (e ∷ (f ∷ es))
      go (inr q) en = absurd (let r = q.1 in let n : ◌≡◌ {A = ℕ} 0 1 = cc in omega arith)
      go (inl q) (fine r h) = fine (rw (eq-eqb (length e.rows) (rows_of g e.head) q) r) more
        where
          more : (p : Entry) → Memᴰ p (e ∷ (f ∷ es)) → Whole g d true p
          more p (Memᴰ.head i) = rw i q
          more p (Memᴰ.tail m) = h p m
      go (inl q) (short o m r i h) = short o (Memᴰ.tail m) (rw (eq-eqb (length e.rows) (rows_of g e.head) q) r) i more
        where
          up : (p : Entry) (rs : List (List ℕ)) → (Memᴰ p (f ∷ es) × Whole g d true p) ⊎ (p ≡ with_rows o rs) → (Memᴰ p (e ∷ (f ∷ es)) × Whole g d true p) ⊎ (p ≡ with_rows o rs)
          up p rs (inl j) = inl (Memᴰ.tail j.0, j.1)
          up p rs (inr j) = inr j

          more : (rs : List (List ℕ)) (p : Entry) → Memᴰ p (e ∷ extend (f ∷ es) rs) → (Memᴰ p (e ∷ (f ∷ es)) × Whole g d true p) ⊎ (p ≡ with_rows o rs)
          more rs p (Memᴰ.head j) = inl (Memᴰ.head j, rw j q)
          more rs p (Memᴰ.tail j) = up p rs (h rs p j)

  extend_flat : (es : List Entry) (rs : List (List ℕ)) → ((es ≡ []) → rs ≡ []) → sectors_of_all g d true (extend es rs) ≡ sectors_of_all g d true es ++ rs
  extend_flat [] rs h = sym (h refl)
  extend_flat (e ∷ []) rs h = ap (λ (t : List (List ℕ)). encode g d e.head ∷ t) (append-nil (e.rows ++ rs) ∙ ap (λ (t : List (List ℕ)). t ++ rs) (sym (append-nil e.rows)))
  extend_flat (e ∷ (f ∷ es)) rs h = ap (λ (t : List (List ℕ)). sectors_of g d true e ++ t) (extend_flat (f ∷ es) rs (λ q. absurd (let n : ◌≡◌ {A = ℕ} 0 1 = cc in omega arith))) ∙ sym (append_assoc (sectors_of g d true e) (sectors_of_all g d true (f ∷ es)) rs)

  extend_extent : (es : List Entry) (rs : List (List ℕ)) → log_extent g d true (extend es rs) ≡ log_extent g d true es
  extend_extent [] rs = refl
  extend_extent (e ∷ []) rs = refl
  extend_extent (e ∷ (f ∷ es)) rs = ap (λ (n : ℕ). suc (rows_of g e.head) + n) (extend_extent (f ∷ es) rs)

  -- missing rows of a torn end
  abbrev lacking : Ending → ℕ
  lacking at_pointer = zero
  lacking (no_entry f) = zero
  lacking (torn h rs) = rows_of g h - length rs

  extend_lawful : (es : List Entry) (rs : List (List ℕ)) → WellFormedLog g d true es → length rs ≤ lacking (ending_of g d true es) → WellFormedLog g d true (extend es rs)
  extend_lawful [] rs lw h = tt
  extend_lawful (e ∷ []) rs lw h = (lw.0, go lw.1, tt)
    where
      go : Whole g d true e ⊎ ((length e.rows < rows_of g e.head) × (◌≡◌ {A = List Entry} [] [])) → (length (e.rows ++ rs) ≡ rows_of g e.head) ⊎ ((length (e.rows ++ rs) < rows_of g e.head) × (◌≡◌ {A = List Entry} [] []))
      go (inl q) =
          let t : ending_of g d true (e ∷ []) ≡ at_pointer = rw (eq-eqb (length e.rows) (rows_of g e.head) q) refl in
          let k : length rs ≤ zero = rw t at h in
          inl (length-append e.rows rs ∙ omega (arith, q, k))
      go (inr q) =
          let t : ending_of g d true (e ∷ []) ≡ torn e.head e.rows = rw (ne_eqb (length e.rows) (rows_of g e.head) (λ r. omega (arith, q.0))) refl in
          let k : length rs ≤ rows_of g e.head - length e.rows = rw t at h in
          split k (ℕ_discrete (length e.rows + length rs) (rows_of g e.head))
        where
          split : length rs ≤ rows_of g e.head - length e.rows → Dec (length e.rows + length rs ≡ rows_of g e.head) → (length (e.rows ++ rs) ≡ rows_of g e.head) ⊎ ((length (e.rows ++ rs) < rows_of g e.head) × (◌≡◌ {A = List Entry} [] []))
          split k (yes r) = inl (length-append e.rows rs ∙ r)
          split k (no r) = inr (rw (length-append e.rows rs) (omega (arith, q.0)), refl)
  extend_lawful (e ∷ (f ∷ es)) rs lw h = go lw.1 (λ k. extend_lawful (f ∷ es) rs lw.2 k)
    where
      go : Whole g d true e ⊎ ((length e.rows < rows_of g e.head) × (f ∷ es ≡ [])) → (length rs ≤ lacking (ending_of g d true (f ∷ es)) → WellFormedLog g d true (extend (f ∷ es) rs)) → WellFormedLog g d true (e ∷ extend (f ∷ es) rs)
      go (inl q) ih =
          let t : ending_of g d true (e ∷ (f ∷ es)) ≡ ending_of g d true (f ∷ es) = rw (eq-eqb (length e.rows) (rows_of g e.head) q) refl in
          (lw.0, inl q, ih (rw t at h))
      go (inr q) ih = absurd (let r = q.1 in let n : ◌≡◌ {A = ℕ} 0 1 = cc in omega arith)

  -- what was there is what a cut to its length leaves
  extend_cut : (es : List Entry) (rs : List (List ℕ)) → cut_entries g d true (extend es rs) (length (sectors_of_all g d true es)) ≡ es
  extend_cut [] rs = refl
  extend_cut (e ∷ []) rs =
      let n : length (e.rows ++ []) ≡ length e.rows = ap length (append-nil e.rows) in
      rw n (ap (λ (q : Entry). q ∷ []) (λ i. record { head = e.head; rows = take-append_seam e.rows rs i }))
  extend_cut (e ∷ (f ∷ es)) rs =
      let m = length (sectors_of_all g d true (f ∷ es)) in
      let n : length (e.rows ++ sectors_of_all g d true (f ∷ es)) ≡ length e.rows + m = length-append e.rows (sectors_of_all g d true (f ∷ es)) in
      let z : length e.rows + m - length e.rows ≡ m = omega arith in
      let t : take (length e.rows + m) e.rows ≡ e.rows = take_all (length e.rows + m) e.rows (omega arith) in
      ap (λ (i : ℕ). cut_entries g d true (e ∷ extend (f ∷ es) rs) (suc i)) n
      ∙ ap₂ (λ (p : Entry) (r : List Entry). p ∷ r) (λ i. record { head = e.head; rows = t i }) (ap (λ (i : ℕ). cut_entries g d true (extend (f ∷ es) rs) i) z ∙ extend_cut (f ∷ es) rs)

  -- only the last entry lacks rows, at most U
  extent_most : (es : List Entry) → WellFormedLog g d true es → log_extent g d true es ≤ length (sectors_of_all g d true es) + g.unit
  extent_most [] lw = zero-le
  extent_most (e ∷ es) lw = rw (length-append e.rows (sectors_of_all g d true es)) (go lw.1 (extent_most es lw.2))
    where
      most : (h : Header) → rows_of g h ≤ g.unit
      most (label y c) = zero-le
      most (counters cs) = zero-le
      most (zone_reset y n) = zero-le
      most (partial_parity y i f n) = omega arith
      most (seal y c n) = zero-le
      most (closing kind gen) = zero-le

      go : Whole g d true e ⊎ ((length e.rows < rows_of g e.head) × (es ≡ [])) → log_extent g d true es ≤ length (sectors_of_all g d true es) + g.unit → suc (rows_of g e.head) + log_extent g d true es ≤ suc (length e.rows + length (sectors_of_all g d true es)) + g.unit
      go (inl q) ih = omega (arith, ih)
      go (inr q) ih = let z : log_extent g d true es ≡ zero = rw q.1 refl in omega (arith, z, most e.head)

missing_length : (g : Geometry) (d : ℕ) (k : Shown) (T : Ending) → length (missing_rows g k T) ≡ lacking g d T
missing_length g d k at_pointer = refl
missing_length g d k (no_entry f) = refl
missing_length g d k (torn (label y c) rs) = omega arith
missing_length g d k (torn (counters cs) rs) = omega arith
missing_length g d k (torn (zone_reset y n) rs) = omega arith
missing_length g d k (torn (partial_parity y i f n) rs) = length_tabulate_from (row_for g (k.zone y) i f n) (length rs) (min f g.unit - length rs)
missing_length g d k (torn (seal y c n) rs) = omega arith
missing_length g d k (torn (closing kind gen) rs) = omega arith

module _ (g : Geometry) (ok : Valid g) (x : ℕ) (w : Device) (γ : Ghost) (l : Ledger) (k : Shown) (s : Start g x w γ l k) (u : Device) (G : ℕ → List Header)
    (t : CountersDone g x w γ l k u G γ.parity (2 + (count_reset g k + count_sealed g k))) (sm : Same g x w γ l k u) (cp : Caps g x w γ l k u G γ.parity) where
  abbrev δ : Ghost
  δ = with_logs γ G γ.parity

  missing : ℕ → List (List ℕ)
  missing d = missing_rows g k (parity_ending g w d)

  missing_is : (d : ℕ) → Here g x d → missing d ≡ missing_rows g k (ending_of g d true (γ.parity d))
  unfolding missing
  missing_is d a = ap (missing_rows g k) (parity_ending_lem g ok x w γ s.inv.logs d a)

  unseen : (d y : ℕ) → y ≢ parity_zone → local_stores d y (torn_row_step g k w) ≡ []
  unfolding torn_row_step missing
  unseen d y n = each_below_unseen (λ d. append_all d parity_zone (missing_rows g k (parity_ending g w d))) d y (λ e. appends_other_zone d e y parity_zone (missing_rows g k (parity_ending g w e)) n) g.drives

  sees : (d : ℕ) → d < g.drives → local_stores d parity_zone (torn_row_step g k w) ≡ map append_here (missing d)
  unfolding torn_row_step missing
  sees d h = each_below_own (λ d. append_all d parity_zone (missing_rows g k (parity_ending g w d))) d parity_zone (λ e n. appends_other_drive d e parity_zone (missing_rows g k (parity_ending g w e)) n) g.drives h ∙ appends_own d parity_zone (missing_rows g k (parity_ending g w d))

  seal_cap : (z : ℕ) → z < g.zones → (q : Stays g x w γ l k z) → (d : ℕ) → Here g x d → (e : Entry) → Memᴰ e (γ.parity d) → (i f : ℕ) → e.head ≡ partial_parity z i f (γ.generation z) → (k.zone z).pointer < i * stripe_sectors g + f → Capped g x u δ z (k.zone z).pointer
  seal_cap z hz q d a e m i f r h = go q.how
    where
      go : (((k.zone z).condition ≡ Open (k.zone z).pointer) × Clean g x w γ k z) ⊎ ((k.zone z).condition ≡ Sealed (k.zone z).pointer) → Capped g x u δ z (k.zone z).pointer
      go (inl c) = absurd (omega (arith, c.1.ends_in d a e m i f r))
      go (inr c) = cp.cap z hz q c

  module _ (w' : Device) (b : Between g x u (torn_row_step g k w) w') where
    pub rows' : ℕ → List (List ℕ)
    rows' d = take (joined_by (u d parity_zone) (w' d parity_zone)) (missing d)

    pub P' : ℕ → List Entry
    P' d = extend (γ.parity d) (rows' d)

    zone_content : (d : ℕ) → Here g x d → Joined (u d parity_zone) (w' d parity_zone) (missing d) (joined_by (u d parity_zone) (w' d parity_zone))
    zone_content d a =
        let (os, p, q) = b d parity_zone a in
        between_adds (missing d) os (u d parity_zone) (w' d parity_zone) (rw (sees d (present_below g x d a)) at p) q (le_of_eq (t.base.settled.lasts d parity_zone a))

    rows_few : (d : ℕ) → Here g x d → length (rows' d) ≤ lacking g d (ending_of g d true (γ.parity d))
    unfolding rows'
    rows_few d a =
        let e : length (missing d) ≡ lacking g d (ending_of g d true (γ.parity d)) = ap length (missing_is d a) ∙ missing_length g d k (ending_of g d true (γ.parity d)) in
        rw length-take (omega (arith, e))

    rows_none : (d : ℕ) → Here g x d → ending_of g d true (γ.parity d) ≡ at_pointer → rows' d ≡ []
    unfolding rows'
    rows_none d a q = ap (take (joined_by (u d parity_zone) (w' d parity_zone))) (missing_is d a ∙ rw q refl) ∙ take-nil (joined_by (u d parity_zone) (w' d parity_zone))

    lawful' : (d : ℕ) → Here g x d → WellFormedLog g d true (P' d)
    unfolding P'
    lawful' d a = extend_lawful g d (γ.parity d) (rows' d) (t.base.logs.parity_lawful d a) (rows_few d a)

    -- the one entry that grew
    pub record Grown (d : ℕ) (p : Entry) : Type 0 where
      pub of : Entry
      pub is_set : Memᴰ of (γ.parity d)
      pub tail_is : ending_of g d true (γ.parity d) ≡ torn of.head of.rows
      pub short : length of.rows < rows_of g of.head
      pub is : p ≡ with_rows of (rows' d)

    grown_of : (d : ℕ) → Here g x d → (p : Entry) → Memᴰ p (P' d) → (Memᴰ p (γ.parity d) × Whole g d true p) ⊎ Grown d p
    unfolding P'
    grown_of d a p m = go (ending g d (γ.parity d) (t.base.logs.parity_lawful d a))
      where
        go : EndsHow g d (γ.parity d) → (Memᴰ p (γ.parity d) × Whole g d true p) ⊎ Grown d p
        go (fine q h) = let o : Memᴰ p (γ.parity d) = rw (rows_none d a q, extend_nil (γ.parity d)) at m in inl (o, h p o)
        go (short e n q i h) = last (h (rows' d) p m)
          where
            last : (Memᴰ p (γ.parity d) × Whole g d true p) ⊎ (p ≡ with_rows e (rows' d)) → (Memᴰ p (γ.parity d) × Whole g d true p) ⊎ Grown d p
            last (inl j) = inl j
            last (inr j) = inr (record { of = e; is_set = n; tail_is = q; short = i; is = j })

    changed : Changed g x u w' γ.parity P'
    unfolding P' rows'
    changed = record {
      sectors_are = λ d a. (zone_content d a).sectors_are ∙ ap (λ (r : List (List ℕ)). r ++ rows' d) (t.base.logs.parity_is d a) ∙ sym (extend_flat g d (γ.parity d) (rows' d) (λ q. rows_none d a (rw q refl)));
      wf = λ d a. (zone_content d a).wf;
      lawful = lawful';
      closes = λ d a e m j n q. old d e j n q (grown_of d a e m);
      fits = λ d a. rw (extend_extent g d (γ.parity d) (rows' d)) (t.base.logs.parity_fits d a);
      lasts = λ d a e q m. let o : Memᴰ e (γ.parity d) = cut_whole g d (γ.parity d) (u d parity_zone).durable e (t.base.logs.parity_lawful d a) m q in
          let n : length (sectors_of_all g d true (γ.parity d)) ≤ (w' d parity_zone).durable = (let e1 = ap length (t.base.logs.parity_is d a) in omega (arith, e1, t.base.settled.lasts d parity_zone a, (zone_content d a).keeps)) in
          cut_mono g d true (P' d) (length (sectors_of_all g d true (γ.parity d))) (w' d parity_zone).durable e (lawful' d a) n q (rw (extend_cut g d (γ.parity d) (rows' d)) o);
    }
      where
        old : (d : ℕ) (e : Entry) (j n : ℕ) → e.head ≡ closing j n → (Memᴰ e (γ.parity d) × Whole g d true e) ⊎ Grown d e → (f : Entry) × Memᴰ f (γ.parity d) × (f.head ≡ closing j n)
        old d e j n q (inl m) = (e, m.0, q)
        old d e j n q (inr k) = (k.of, k.is_set, ap (λ (t : Entry). t.head) (sym k.is) ∙ q)

    -- its rows
    row_is : (d : ℕ) → Here g x d → (p : Entry) (o : Grown d p) (z i f n : ℕ) → o.of.head ≡ partial_parity z i f n → (r : ℕ) → length o.of.rows ≤ r → r < length p.rows → get_or p.rows r [] ≡ row_for g (k.zone z) i f n r
    unfolding rows'
    row_is d a p o z i f n q r h1 h2 =
        let R = o.of.rows in
        let c = length R in
        let m = joined_by (u d parity_zone) (w' d parity_zone) in
        let F = row_for g (k.zone z) i f n in
        let e : missing d ≡ tabulate_from F c (min f g.unit - c) = missing_is d a ∙ rw (o.tail_is, q) refl in
        let b1 : p.rows ≡ R ++ take m (tabulate_from F c (min f g.unit - c)) = rw o.is (ap (λ (v : List (List ℕ)). R ++ take m v) e) in
        let b2 : length p.rows ≡ c + min m (min f g.unit - c) = ap length b1 ∙ length-append R (take m (tabulate_from F c (min f g.unit - c))) ∙ rw (length-take, length_tabulate_from F c (min f g.unit - c)) refl in
        let b3 : r - c < min m (min f g.unit - c) = omega (arith, b2) in
        let b4 : c + (r - c) ≡ r = omega arith in
        ap (λ (v : List (List ℕ)). get_or v r []) b1 ∙ get_d_past R (take m (tabulate_from F c (min f g.unit - c))) r h1 ∙ get_or-take m (tabulate_from F c (min f g.unit - c)) (r - c) [] (omega arith)
        ∙ get_d_tabulate_from F c (min f g.unit - c) (r - c) (omega arith) ∙ ap F b4
      where
        get_d_past : (xs ys : List (List ℕ)) (r : ℕ) → length xs ≤ r → get_or (xs ++ ys) r [] ≡ get_or ys (r - length xs) []
        get_d_past [] ys r h = let e : r - zero ≡ r = omega arith in rw e refl
        get_d_past (v ∷ xs) ys zero h = absurd (not-suc-le-zero h)
        get_d_past (v ∷ xs) ys (suc r) h = let e : suc r - suc (length xs) ≡ r - length xs = omega arith in rw e (get_d_past xs ys r (omega arith))

    head_of : (d : ℕ) (p : Entry) (o : Grown d p) → p.head ≡ o.of.head
    head_of d p o = rw o.is refl

    joins : (z : ℕ) → z < g.zones → Stays g x w γ l k z → (d : ℕ) → Here g x d → (p : Entry) → Memᴰ p (P' d) → Memᴰ p (γ.parity d) ⊎ EntryFor g x γ l k u G γ.parity z d p
    joins z hz q d a p m = go (grown_of d a p m)
      where
        lv : Live g x u δ l z
        lv = (t.lives.staying z hz q).live

        go : (Memᴰ p (γ.parity d) × Whole g d true p) ⊎ Grown d p → Memᴰ p (γ.parity d) ⊎ EntryFor g x γ l k u G γ.parity z d p
        go (inl r) = inl r.0
        go (inr o) = inr (record {
          new = record {
            telling = λ i f r. tell i f (sym (head_of d p o) ∙ r) (dec_lt (k.zone z).pointer (i * stripe_sectors g + f));
            alone = λ wp f r h e b1 c c1. lone f (sym (head_of d p o) ∙ r) e b1 c c1 (dec_lt (k.zone z).pointer f);
            current = rw (head_of d p o) (zone_gen_map o.of.head (λ y i. y ≡ z → i ≤ γ.generation z) (λ y i. y ≡ z → (i ≤ γ.generation z) × (γ.generation z ≡ worn_generation → i < γ.generation z)) (λ y i h r. (h r, λ r2. absurd (omega (arith, q.unworn)))) (lv.entries.in_parity_lem d a o.of o.is_set));
          };
          ends_in = λ op i f r. (t.lives.staying z hz q).ends_in op d a o.of o.is_set i f (sym (head_of d p o) ∙ r);
        })
          where
            tell : (i f : ℕ) → o.of.head ≡ partial_parity z i f (γ.generation z) → Dec ((k.zone z).pointer < i * stripe_sectors g + f) → TrueRows g (γ.laid z) i f p.rows ⊎ CappedBelow g x u δ z (i * stripe_sectors g + f)
            tell i f r (yes h) = inr ((k.zone z).pointer, seal_cap z hz q d a o.of o.is_set i f r h, h)
            tell i f r (no h) = inl (told (lv.tells d a o.of o.is_set i f r))
              where
                end : i * stripe_sectors g + f ≤ (k.zone z).pointer
                end = omega arith

                told : TrueRows g (γ.laid z) i f o.of.rows ⊎ CappedBelow g x u δ z (i * stripe_sectors g + f) → TrueRows g (γ.laid z) i f p.rows
                told (inr c) =
                    let (d0, a0) = some_present g ok x in
                    let (b0, q0, m0) = c.1 d0 a0 in
                    absurd (omega (arith, end, c.2, q0, (t.lives.staying z hz q).seals_past d0 a0 b0 (mem_take (u d0 general_zone).durable (G d0) (seal z b0 (γ.generation z)) m0)))
                told (inl v) = record { within = v.within; rows_are = λ r2 h2. row r2 h2 (dec_lt r2 (length o.of.rows)) }
                  where
                    row : (r2 : ℕ) → r2 < length p.rows → Dec (r2 < length o.of.rows) → get_or p.rows r2 [] ≡ row_xor_below g.drives g.unit (at (γ.laid z)) i (i * stripe_sectors g + f) r2
                    row r2 h2 (yes j) = rw o.is (get_or-append o.of.rows (rows' d) [] r2 j ∙ v.rows_are r2 j)
                    row r2 h2 (no j) =
                        row_is d a p o z i f (γ.generation z) r r2 (omega arith) h2
                        ∙ rw (eq-eqb (γ.generation z) (k.zone z).generation (sym q.generation_is), le-leb (i * stripe_sectors g + f) (k.zone z).pointer end) (row_xor_below_cong g.drives g.unit (k.zone z).value (at (γ.laid z)) i (i * stripe_sectors g + f) r2 (λ c h. q.values c (omega (arith, end, h))))

            lone : (f : ℕ) → o.of.head ≡ partial_parity z zero f (γ.generation z) → (e : ℕ) → Here g x e → (c : ℕ) → Memᴰ (seal z c (γ.generation z)) (G e) → Dec ((k.zone z).pointer < f) → (f ≤ c) ⊎ CappedBelow g x u δ z f
            lone f r e b1 c c1 (yes h) = let v : zero * stripe_sectors g + f ≡ f = omega arith in inr ((k.zone z).pointer, seal_cap z hz q d a o.of o.is_set zero f r (omega (arith, v, h)), h)
            lone f r e b1 c c1 (no h) = inl (omega (arith, (t.lives.staying z hz q).seals_past e b1 c c1))

    worns : (z : ℕ) → z < g.zones → WornZone g x w γ l k z → (d : ℕ) → Here g x d → (p : Entry) → Memᴰ p (P' d) → Memᴰ p (γ.parity d) ⊎ NewEntry g x u δ G l z d p
    worns z hz q d a p m = go (grown_of d a p m)
      where
        none : (o : Entry) → Memᴰ o (γ.parity d) → zone_gen o.head (λ y n. y ≡ z → n < γ.generation z)
        none o n = ((t.lives.worn_live z hz q).worn_empty q.most).1.in_parity_lem d a o n

        no : (o : Entry) → Memᴰ o (γ.parity d) → (i f : ℕ) → o.head ≡ partial_parity z i f (γ.generation z) → ⊥
        no o n i f r = let h : z ≡ z → γ.generation z < γ.generation z = rw r at (none o n) in omega (arith, h refl)

        go : (Memᴰ p (γ.parity d) × Whole g d true p) ⊎ Grown d p → Memᴰ p (γ.parity d) ⊎ NewEntry g x u δ G l z d p
        go (inl r) = inl r.0
        go (inr o) = inr (record {
          telling = λ i f r. absurd (no o.of o.is_set i f (sym (head_of d p o) ∙ r));
          alone = λ wp f r. absurd (no o.of o.is_set zero f (sym (head_of d p o) ∙ r));
          current = rw (head_of d p o) (zone_gen_map o.of.head (λ y i. y ≡ z → i < γ.generation z) (λ y i. y ≡ z → (i ≤ γ.generation z) × (γ.generation z ≡ worn_generation → i < γ.generation z)) (λ y i h r. (omega (arith, h r), λ r2. h r)) (none o.of o.is_set));
        })

    gones : (z : ℕ) → z < g.zones → Gone g x w γ l k z → (d : ℕ) → Here g x d → (p : Entry) → Memᴰ p (P' d) → zone_gen p.head (λ y n. y ≡ z → n ≤ γ.generation z)
    unfolding P'
    gones z hz q d a p m = let (e, n, r) = extend_heads (γ.parity d) (rows' d) p m in rw r ((t.gone_zone z hz q).dying.entries.in_parity_lem d a e n)

    part_inv : Invs γ.closed g x w' l
    part_inv = parity_inv g ok x w γ l k s u G γ.parity (2 + (count_reset g k + count_sealed g k)) t (torn_row_step g k w) unseen w' b P' changed joins worns gones

    module _ (dn : Done g x u (torn_row_step g k w) w') where
      all_rows : (d : ℕ) → Here g x d → rows' d ≡ missing d
      unfolding rows'
      all_rows d a =
          let e : w' d parity_zone ≡ flushed (record { sectors = (u d parity_zone).sectors ++ missing d; durable = (u d parity_zone).durable }) =
          dn d parity_zone a ∙ ap flushed (ap (λ (o : List LocalStore). apply_all_here o (u d parity_zone)) (sees d (present_below g x d a) ∙ sym (append-nil (map append_here (missing d)))) ∙ appends_here (missing d) [] (u d parity_zone)) in
          let n : length (w' d parity_zone).sectors ≡ length (u d parity_zone).sectors + length (missing d) = ap (λ (v : ZoneView). length v.sectors) e ∙ length-append (u d parity_zone).sectors (missing d) in
          take_all (joined_by (u d parity_zone) (w' d parity_zone)) (missing d) (omega (arith, n))

      whole_all : (d : ℕ) → Here g x d → (p : Entry) → Memᴰ p (P' d) → Whole g d true p
      whole_all d a p m = go (grown_of d a p m)
        where
          go : (Memᴰ p (γ.parity d) × Whole g d true p) ⊎ Grown d p → Whole g d true p
          go (inl r) = r.1
          go (inr o) =
              let e : length (missing d) ≡ rows_of g o.of.head - length o.of.rows = ap length (missing_is d a) ∙ missing_length g d k (ending_of g d true (γ.parity d)) ∙ rw o.tail_is refl in
              rw (o.is, all_rows d a) (length-append o.of.rows (missing d) ∙ omega (arith, e, o.short))

      whole : AfterTornRows g x w γ l k (2 + (count_reset g k + count_sealed g k)) w'
      unfolding P'
      whole = (
        G,
        P',
        parity_stage g ok x w γ l k s u G γ.parity (2 + (count_reset g k + count_sealed g k)) t (torn_row_step g k w) unseen w' b P' changed joins worns gones dn,
        parity_same g ok x w γ l k s u G γ.parity (2 + (count_reset g k + count_sealed g k)) t (torn_row_step g k w) unseen w' b P' changed joins worns gones sm,
        parity_caps g ok x w γ l k s u G γ.parity (2 + (count_reset g k + count_sealed g k)) t (torn_row_step g k w) unseen w' b P' changed joins worns gones cp,
        record {
          whole = whole_all;
          extent = λ d a. rw (extend_extent g d (γ.parity d) (rows' d)) (let e = ap length (s.inv.logs.parity_is d a) in omega (arith, e, extent_most g d (γ.parity d) (s.inv.logs.parity_lawful d a)));
        },
      )

pub torn_row_step_lem : (g : Geometry) → Valid g → (x : ℕ) (w : Device) (γ : Ghost) (l : Ledger) (k : Shown) → Start g x w γ l k → (u : Device) → AfterSeals g x w γ l k (2 + (count_reset g k + count_sealed g k)) u
    → Runs γ.closed g x l u (concat (with_flush g (present_but g x) (torn_row_step g k w))) (AfterTornRows g x w γ l k (2 + (count_reset g k + count_sealed g k)))
torn_row_step_lem g ok x w γ l k s u (G, t, sm, cp) = step_runs g x (torn_row_step g k w) γ.closed l u (AfterTornRows g x w γ l k (2 + (count_reset g k + count_sealed g k))) t.base.settled (λ w' b. part_inv g ok x w γ l k s u G t sm cp w' b) (λ w' b dn. whole g ok x w γ l k s u G t sm cp w' b dn)
