-- A mount before its parity logs are emptied (step 10): all below the look's pointers is held and durable on every present drive (Filled). The copies of a drive's
-- parity log there: entries of the log, and entries made from the sectors below the pointer, which tell the truth and so may join. (k: the
-- mount's look; δ: the ghosts; l: a ledger with the marks that hold by then.)
use Rattle.std.specs.Prelude.{◌≡◌, refl, ◌≢◌, ◌⊎◌, Bool, true, false, ◌&&◌, length, get_or, eqb, ltb}
use Rattle.std.proofs.Common.{sym, ◌∙◌, subst, inl, inr, le_refl, le_trans, le_of_eq, not-suc-le-zero, eq-eqb, eqb-true, ltb-true, lt-ltb}
use Rattle.std.proofs.Math.Path.{ap}
use Prim.Native.Nat.{ℕ, zero, suc, ◌+◌, ◌-◌, ◌*◌, ◌≤◌, ◌<◌, min}
use Rattle.std.proofs.Math.Decide.{dec_lt}
use native.Mathlib.Omega.{arith}
use mathlib.Core.List.{List, [], ◌∷◌, ◌++◌, Memᴰ}
use Rattle.tables.specs.laws.Basics.{and_split}
use Rattle.tables.specs.laws.Lists.{mem_right, mem_append, mem_nil, prefix_length}
use Rattle.tables.specs.meaning.Device.{Device}
use Rattle.tables.specs.meaning.Placement.{stripe_of, needed}
use Rattle.tables.specs.laws.Below.{get_d_tabulate_from, length_tabulate_from}
use Rattle.tables.specs.declared.Geometry.{Geometry}
use Rattle.tables.specs.meaning.Geometry.{Valid, stripe_sectors, zone_sectors, parity_drive_of, data_zone}
use Rattle.logs.specs.meaning.Entry.{worn_generation, Header, partial_parity, seal, closing, Entry, rows_of}
use Rattle.logs.specs.laws.Codec.{reads}
use Rattle.logs.specs.laws.Heads.{zone_gen}
use Rattle.logs.specs.laws.HeadLaws.{generation_small}
use Rattle.logs.specs.laws.Walk.{Reads, Whole, whole_entries}
use Rattle.logs.specs.laws.LogLaws.{lawful_reads, whole_entries_mem}
use Rattle.volume.specs.meaning.Content.{at, row_xor_below, inside_stripe, fill_of, parity_drive_at, entry_header, entry_at}
use Rattle.volume.specs.laws.Content.{row_xor_below_cong}
use Rattle.volume.specs.meaning.Rules.{Shown, parity_entries}
use Rattle.volume.specs.meaning.Emptying.{InForce, by_look, is_copied, made_entry, parity_copies, new_parity_size}
use Rattle.promise.specs.meaning.Ledger.{Ledger}
use Rattle.promise.proofs.invariant.Invariant.{Ghost, Here, LogsOk, Live, Dying, Inv, Said, said, facts_of, TrueRows, closing_entry}
use Rattle.promise.proofs.invariant.SaidMoves.{EntryJoins, with_mark}
use Rattle.promise.proofs.look.LookReads.{parity_entries_lem}
use Rattle.promise.proofs.mount.MountEntryAt.{fill_parts}
use Rattle.promise.proofs.emptying.CopiedParity.{CopyOf, found, made, Copied, copies_are, copied_at_lem, copy_header, made_header, new_log, new_log_extent}
use Rattle.promise.proofs.emptying.ParityLogs.{Among, ParityCopyOf}
use Rattle.promise.proofs.emptying.ParityAtRest.{header_not_closing}

-- a zone that the look showed with sectors
pub record FilledZone (g : Geometry) (x : ℕ) (u : Device) (l : Ledger) (δ : Ghost) (k : Shown) (z : ℕ) : Type 0 where
  pub live : Live g x u δ l z
  pub generation_is : (k.zone z).generation ≡ δ.generation z
  pub unworn : δ.generation z < worn_generation
  pub least : l.committed z ≤ (k.zone z).pointer
  pub most : (k.zone z).pointer ≤ length (l.content z)
  pub values : (a : ℕ) → a < (k.zone z).pointer → (k.zone z).value a ≡ at (δ.laid z) a
  pub seals_past : (e : ℕ) → Here g x e → (c : ℕ) → Memᴰ (seal z c (δ.generation z)) (δ.general e) → (k.zone z).pointer ≤ c
  pub places : (e : ℕ) → Here g x e → needed g.drives g.unit z (k.zone z).pointer e ≤ (u e (data_zone z)).durable

pub record Filled (g : Geometry) (x : ℕ) (u : Device) (l : Ledger) (δ : Ghost) (k : Shown) : Type 0 where
  pub logs : LogsOk g x u δ
  pub whole : (d : ℕ) → Here g x d → (e : Entry) → Memᴰ e (δ.parity d) → Whole g d true e
  pub staying : (z : ℕ) → z < g.zones → zero < (k.zone z).pointer → FilledZone g x u l δ k z
  pub idle : (z : ℕ) → z < g.zones → (k.zone z).pointer ≡ zero → (Live g x u δ l z × (length (l.content z) ≡ zero)) ⊎ Dying g x u δ l z

pub some_or_none : (n : ℕ) → (zero < n) ⊎ (n ≡ zero)
some_or_none zero = inr refl
some_or_none (suc n) = inl (omega arith)

pub filled_inv : (g : Geometry) (x : ℕ) (u : Device) (l : Ledger) (δ : Ghost) (k : Shown) → Filled g x u l δ k → Inv g x u l δ
filled_inv g x u l δ k f = record { logs = f.logs; zones = λ z hz. go z hz (some_or_none (k.zone z).pointer) }
  where
    go : (z : ℕ) → z < g.zones → (zero < (k.zone z).pointer) ⊎ ((k.zone z).pointer ≡ zero) → Live g x u δ l z ⊎ Dying g x u δ l z
    go z hz (inl h) = inl (f.staying z hz h).live
    go z hz (inr h) = which (f.idle z hz h)
      where
        which : (Live g x u δ l z × (length (l.content z) ≡ zero)) ⊎ Dying g x u δ l z → Live g x u δ l z ⊎ Dying g x u δ l z
        which (inl q) = inl q.0
        which (inr q) = inr q

-- no pointer 0 lies inside a stripe
pub inside_some : (g : Geometry) (n : ℕ) → inside_stripe g n ≡ true → zero < n
inside_some g n i = let h = ltb-true (stripe_of g.drives g.unit n * stripe_sectors g) n i in omega (arith, h)

module _ (g : Geometry) (ok : Valid g) (x d : ℕ) (hd : Here g x d) (u : Device) (l : Ledger) (δ : Ghost) (k : Shown) (fd : Filled g x u l δ k) where
  abbrev f : InForce
  f = by_look k

  abbrev es : List Entry
  es = parity_entries g u d

  pub es_old : (e : Entry) → Memᴰ e es → Memᴰ e (δ.parity d) × Whole g d true e
  es_old e m = whole_entries_mem g d (δ.parity d) e (rw (parity_entries_lem g ok x u δ fd.logs d hd) at m)

  pub es_read : (e : Entry) → Memᴰ e es → Reads g d true e.head
  es_read e m = lawful_reads g d (δ.parity d) e (fd.logs.parity_lawful d hd) (es_old e m).0

  -- ---- AN ENTRY THAT IS MADE, for zone z
  pub record MadeFor (e : Entry) : Type 0 where
    pub zone : ℕ
    pub zone_lt : zone < g.zones
    pub copied : is_copied g (by_look k) d zone ≡ true
    pub is : e ≡ made_entry g (by_look k) zone

  module _ (e : Entry) (m : MadeFor e) where
    abbrev z : ℕ
    z = m.zone

    abbrev p : ℕ
    p = (k.zone m.zone).pointer

    split : (inside_stripe g p ≡ true) × (d ≡ parity_drive_at g z p)
    split = let (a, b) = and_split (inside_stripe g p) (eqb d (parity_drive_at g z p)) m.copied in (a, eqb-true d (parity_drive_at g z p) b)

    pub made_some : zero < p
    made_some = inside_some g p split.0

    pub made_zone : FilledZone g x u l δ k z
    made_zone = fd.staying z m.zone_lt made_some

    pub made_head : e.head ≡ entry_header g z (δ.generation z) p
    made_head = ap (λ (t : Entry). t.head) m.is ∙ made_header g f z ∙ ap (λ (n : ℕ). entry_header g z n p) made_zone.generation_is

    made_rows_lem : e.rows ≡ (made_entry g f z).rows
    made_rows_lem = ap (λ (t : Entry). t.rows) m.is

    rows_long : length (made_entry g f z).rows ≡ min (fill_of g p) g.unit
    unfolding entry_at
    rows_long = length_tabulate_from (row_xor_below g.drives g.unit (k.zone z).value (stripe_of g.drives g.unit p) p) zero (min (fill_of g p) g.unit)

    rows_at : (r : ℕ) → r < min (fill_of g p) g.unit → get_or (made_entry g f z).rows r [] ≡ row_xor_below g.drives g.unit (k.zone z).value (stripe_of g.drives g.unit p) p r
    unfolding entry_at
    rows_at r h =
        let T = row_xor_below g.drives g.unit (k.zone z).value (stripe_of g.drives g.unit p) p in
        let o : zero + r ≡ r = omega arith in
        get_d_tabulate_from T zero (min (fill_of g p) g.unit) r h ∙ ap T o

    top : p ≤ zone_sectors g
    top = le_trans made_zone.most (le_trans (prefix_length made_zone.live.front) made_zone.live.fits)

    pub made_reads : Reads g d true e.head × Whole g d true e × ((j i : ℕ) → e.head ≡ closing j i → ⊥)
    made_reads =
        let (p1, p2) = fill_parts g ok p in
        let iw = ltb-true (stripe_of g.drives g.unit p * stripe_sectors g) p split.0 in
        let i1 : stripe_of g.drives g.unit p * stripe_sectors g < zone_sectors g = omega (arith, iw, top) in
        let i2 : zero < fill_of g p = omega (arith, iw) in (
          rw made_head (reads g ok d true (partial_parity z (stripe_of g.drives g.unit p) (fill_of g p) (δ.generation z)) (m.zone_lt, i1, omega (arith, p1, top), generation_small (δ.generation z) (omega (arith, made_zone.unworn)))
              (rw (lt-ltb z g.zones m.zone_lt, lt-ltb (stripe_of g.drives g.unit p * stripe_sectors g) (zone_sectors g) i1, lt-ltb 0 (fill_of g p) i2, lt-ltb (fill_of g p) (stripe_sectors g) p2, eq-eqb d (parity_drive_of g z (stripe_of g.drives g.unit p)) split.1) refl)),
          ap length made_rows_lem ∙ rows_long ∙ sym (ap (rows_of g) made_head),
          header_not_closing g z (δ.generation z) p e.head made_head,
        )

    same_parts : (j i : ℕ) → e.head ≡ partial_parity z j i (δ.generation z) → (j ≡ stripe_of g.drives g.unit p) × (i ≡ fill_of g p)
    same_parts j i q = let h : partial_parity z j i (δ.generation z) ≡ entry_header g z (δ.generation z) p = sym q ∙ made_head in (cc, cc)

    -- its rows are those of what is laid out
    made_tells : (j i : ℕ) → e.head ≡ partial_parity z j i (δ.generation z) → TrueRows g (δ.laid z) j i e.rows
    made_tells j i q =
        let (s, t) = same_parts j i q in
        let end : j * stripe_sectors g + i ≡ p = rw (s, t) (fill_parts g ok p).0 in
        record {
          within = rw end (le_trans made_zone.most (prefix_length made_zone.live.front));
          rows_are = λ r h. let h2 : r < min (fill_of g p) g.unit = rw rows_long at (rw made_rows_lem at h) in
              ap (λ (y : List (List ℕ)). get_or y r []) made_rows_lem ∙ rows_at r h2
              ∙ row_xor_below_cong g.drives g.unit (k.zone z).value (at (δ.laid z)) (stripe_of g.drives g.unit p) p r made_zone.values ∙ rw (end, s) refl;
        }

    -- it may join its zone
    pub made_joins : (t : Said) (c : ℕ) → ((i : ℕ) (h : Header) → t.general i h → Memᴰ h (δ.general i)) → EntryJoins g x z (with_mark (facts_of δ l z) c) (said g u δ z) t.general d e
    made_joins t c sub = record {
      telling = λ j i q. inl (made_tells j i q);
      alone = λ w i q h a b s o. inl (le_trans (le_of_eq (ends i q)) (made_zone.seals_past a b s (sub a (seal z s (δ.generation z)) o)));
      current = subst (λ (h : Header). zone_gen h (λ y i. y ≡ m.zone → (i ≤ δ.generation m.zone) × (δ.generation m.zone ≡ worn_generation → i < δ.generation m.zone))) (sym made_head) (λ q. (le_refl (δ.generation z), λ r. absurd (omega (arith, made_zone.unworn, r))));
    }
      where
        ends : (i : ℕ) → e.head ≡ partial_parity z zero i (δ.generation z) → i ≡ p
        ends i q = let (s, t) = same_parts zero i q in let b = (fill_parts g ok p).0 in let o : stripe_of g.drives g.unit p * stripe_sectors g ≡ zero = rw (← s) (omega arith) in omega (arith, t, b, o)

  -- ---- THE COPIES
  copy_of : (e : Entry) → Memᴰ e (parity_copies g f d es) → (Memᴰ e (δ.parity d) × ((j i : ℕ) → e.head ≡ closing j i → ⊥)) ⊎ MadeFor e
  copy_of e m = let q = copies_are g f d es e m in go q.zone q.zone_lt q.copied q.of
    where
      go : (y : ℕ) → y < g.zones → is_copied g f d y ≡ true → CopyOf g f d es y e → (Memᴰ e (δ.parity d) × ((j i : ℕ) → e.head ≡ closing j i → ⊥)) ⊎ MadeFor e
      go y hy b (found o t) = inl ((es_old e o).0, header_not_closing g y (f.generation y) (f.pointer y) e.head (copy_header g f d es ok es_read y e (found o t)))
      go y hy b (made q n) = inr (record { zone = y; zone_lt = hy; copied = b; is = q })

  pub filled_copies : (e : Entry) → Memᴰ e (parity_copies g f d es) → (j i : ℕ) → e.head ≡ closing j i → ⊥
  filled_copies e m = go (copy_of e m)
    where
      go : (Memᴰ e (δ.parity d) × ((j i : ℕ) → e.head ≡ closing j i → ⊥)) ⊎ MadeFor e → (j i : ℕ) → e.head ≡ closing j i → ⊥
      go (inl o) = o.1
      go (inr o) = (made_reads e o).2

  pub filled_copy : (n : ℕ) → new_parity_size g (by_look k) d ≤ g.capacity → ParityCopyOf g d δ MadeFor (new_log g (by_look k) d (parity_entries g u d) n) n
  filled_copy n room = record {
    from = λ e m. from e (mem_append (parity_copies g f d es) (closing_entry 1 n ∷ []) e m);
    old_whole = λ e o m. fd.whole d hd e o;
    made_ok = made_reads;
    closes = mem_right (parity_copies g f d es) (closing_entry 1 n ∷ []) (closing_entry 1 n) (Memᴰ.head refl);
    room = le_trans (le_of_eq (new_log_extent g ok f d es n es_read)) room;
  }
    where
      from : (e : Entry) → Memᴰ e (parity_copies g f d es) ⊎ Memᴰ e (closing_entry 1 n ∷ []) → Among δ d MadeFor n e
      from e (inl m) = go (copy_of e m)
        where
          go : (Memᴰ e (δ.parity d) × ((j i : ℕ) → e.head ≡ closing j i → ⊥)) ⊎ MadeFor e → Among δ d MadeFor n e
          go (inl o) = inl o
          go (inr o) = inr (inr o)
      from e (inr (Memᴰ.head q)) = inr (inl q)
      from e (inr (Memᴰ.tail o)) = mem_nil e o
