-- The copies of a parity log between finished calls: each pointer inside a stripe has its entry in the log (strong-now), so none has to be made, and
-- the new log is a copy of which EmptiedParity's law speaks.
use Rattle.std.specs.Prelude.{◌≡◌, refl, ◌⊎◌, Bool, true, false, ◌&&◌, ℕ, zero, suc, ◌+◌, ◌-◌, ◌*◌, ◌≤◌, ◌<◌, length, eqb}
use Rattle.std.proofs.Common.{sym, ap, ◌∙◌, inl, inr, true≢false, le_of_eq, le_trans, arith, eq-eqb, eqb-true, ltb-true}
use mathlib.Core.List.{List, [], ◌∷◌, ◌++◌, Memᴰ}
use Rattle.tables.specs.laws.Basics.{and_split}
use Rattle.tables.specs.laws.Lists.{mem_left, mem_right, mem_append, mem_nil}
use Rattle.tables.specs.meaning.Device.{Device}
use Rattle.tables.specs.meaning.Placement.{stripe_of}
use Rattle.tables.specs.declared.Geometry.{Geometry}
use Rattle.tables.specs.meaning.Geometry.{Valid, stripe_sectors}
use Rattle.logs.specs.meaning.Entry.{Header, partial_parity, closing, Entry}
use Rattle.logs.specs.meaning.Heads.{ends_at}
use Rattle.logs.specs.laws.Walk.{Reads, Whole, sectors_of_all, log_extent, extent_whole, whole_entries}
use Rattle.logs.specs.laws.LogLaws.{lawful_reads, whole_entries_mem, mem_whole_entries}
use Rattle.volume.specs.meaning.Content.{inside_stripe, fill_of, parity_drive_at, entry_header}
use Rattle.volume.specs.meaning.State.{pointer_in, StateView}
use Rattle.volume.specs.meaning.Rules.{parity_entries}
use Rattle.volume.specs.meaning.Emptying.{InForce, is_copied, is_at_pointer, parity_copies, new_parity_size}
use Rattle.promise.specs.meaning.Ledger.{Ledger}
use Rattle.promise.proofs.invariant.Invariant.{Ghost, Here, LogsOk, Rest, closing_entry}
use Rattle.promise.proofs.look.LookReads.{parity_entries_lem}
use Rattle.promise.proofs.emptying.CopiedParity.{CopyOf, found, made, Copied, copies_are, copied_at_lem, copy_header, new_log, new_log_extent}
use Rattle.promise.proofs.emptying.ParityLogs.{Among, ParityCopyOf}
use Rattle.promise.proofs.emptying.EmptiedParity.{NoneMade, AtPointers, EntryIn}

-- an entry with the header of a pointer ends there
pub ends_at_header : (g : Geometry) (z n p : ℕ) (e : Entry) → inside_stripe g p ≡ true → e.head ≡ entry_header g z n p → ends_at g z n p e.head ≡ true
ends_at_header g z n p e i h = rw (h, eq-eqb z z refl, eq-eqb n n refl) (eq-eqb (stripe_of g.drives g.unit p * stripe_sectors g + fill_of g p) p (inside (ltb-true (stripe_of g.drives g.unit p * stripe_sectors g) p i)))
  where
    inside : stripe_of g.drives g.unit p * stripe_sectors g < p → stripe_of g.drives g.unit p * stripe_sectors g + fill_of g p ≡ p
    inside b = omega (arith, b)

-- no header of a pointer closes a log
pub header_not_closing : (g : Geometry) (z n p : ℕ) (h : Header) → h ≡ entry_header g z n p → (k i : ℕ) → h ≡ closing k i → ⊥
header_not_closing g z n p h q k i t = let s : closing k i ≡ entry_header g z n p = sym t ∙ q in let o : ◌≡◌ {A = ℕ} 0 1 = cc in omega arith

-- the copies go by the state
pub record ByState (g : Geometry) (f : InForce) (state : StateView) : Type 0 where
  pub generations : (z : ℕ) → z < g.zones → f.generation z ≡ state.generation z
  pub pointers : (z : ℕ) → z < g.zones → f.pointer z ≡ pointer_in (state.condition z)

module _ (g : Geometry) (ok : Valid g) (x d : ℕ) (hd : Here g x d) (v : Device) (state : StateView) (l : Ledger) (γ : Ghost) (r : Rest g x v state l γ) (f : InForce) (by : ByState g f state) where
  abbrev es : List Entry
  es = parity_entries g v d

  es_are : parity_entries g v d ≡ whole_entries g d true (γ.parity d)
  es_are = parity_entries_lem g ok x v γ r.logs d hd

  es_old : (e : Entry) → Memᴰ e es → Memᴰ e (γ.parity d) × Whole g d true e
  es_old e m = whole_entries_mem g d (γ.parity d) e (rw es_are at m)

  es_read : (e : Entry) → Memᴰ e es → Reads g d true e.head
  es_read e m = lawful_reads g d (γ.parity d) e (r.logs.parity_lawful d hd) (es_old e m).0

  generation_is : (z : ℕ) → z < g.zones → f.generation z ≡ γ.generation z
  generation_is z hz = by.generations z hz ∙ sym (r.zones z hz).generation_is

  pointer_is : (z : ℕ) → z < g.zones → f.pointer z ≡ length (l.content z)
  pointer_is z hz = by.pointers z hz ∙ sym (r.zones z hz).pointer_is

  -- NONE HAS TO BE MADE
  copy_found : (z : ℕ) → z < g.zones → is_copied g f d z ≡ true → (e : Entry) → CopyOf g f d es z e → Memᴰ e es
  copy_found z hz b e (found m t) = m
  copy_found z hz b e (made q no_entry_lem) =
      let (i, p) = and_split (inside_stripe g (f.pointer z)) (eqb d (parity_drive_at g z (f.pointer z))) b in
      let n : d ≡ parity_drive_at g z (f.pointer z) = eqb-true d (parity_drive_at g z (f.pointer z)) p in
      let i2 : inside_stripe g (length (l.content z)) ≡ true = rw (← pointer_is z hz) i in
      let n2 : d ≡ parity_drive_at g z (length (l.content z)) = rw (← pointer_is z hz) n in
      let (e0, m0, w0, h0) = (r.zones z hz).strong_now.entry i2 (rw (← n2) hd) in
      let m1 : Memᴰ e0 (γ.parity d) = rw (← n2) at m0 in
      let h1 : e0.head ≡ entry_header g z (f.generation z) (f.pointer z) = h0 ∙ rw (generation_is z hz, pointer_is z hz) refl in
      absurd (true≢false (sym (ends_at_header g z (f.generation z) (f.pointer z) e0 i h1) ∙ no_entry_lem e0 (rw es_are (mem_whole_entries g d (γ.parity d) e0 m1 w0))))

  pub copies_old : (e : Entry) → Memᴰ e (parity_copies g f d es) → Memᴰ e es × ((k i : ℕ) → e.head ≡ closing k i → ⊥)
  copies_old e m =
      let q = copies_are g f d es e m in
      (copy_found q.zone q.zone_lt q.copied e q.of, header_not_closing g q.zone (f.generation q.zone) (f.pointer q.zone) e.head (copy_header g f d es ok es_read q.zone e q.of))

  module _ (n : ℕ) (room : new_parity_size g f d ≤ g.capacity) where
    abbrev copy : List Entry
    copy = new_log g f d es n

    pub rest_copy : ParityCopyOf g d γ NoneMade copy n
    rest_copy = record {
      from = λ e m. from e (mem_append (parity_copies g f d es) (closing_entry 1 n ∷ []) e m);
      old_whole = λ e o m. r.whole d hd e o;
      made_ok = λ e m. absurd m;
      closes = mem_right (parity_copies g f d es) (closing_entry 1 n ∷ []) (closing_entry 1 n) (mathlib.Core.List.Memᴰ.head refl);
      room = le_trans (le_of_eq (new_log_extent g ok f d es n es_read)) room;
    }
      where
        from : (e : Entry) → Memᴰ e (parity_copies g f d es) ⊎ Memᴰ e (closing_entry 1 n ∷ []) → Among γ d NoneMade n e
        from e (inl m) = let (o, c) = copies_old e m in inl ((es_old e o).0, c)
        from e (inr (mathlib.Core.List.Memᴰ.head q)) = inr (inl q)
        from e (inr (mathlib.Core.List.Memᴰ.tail k)) = mem_nil e k

    pub rest_pointers : AtPointers g d γ l copy
    rest_pointers = record { at_pointer = λ z hz i q. at z hz i q }
      where
        at : (z : ℕ) → z < g.zones → inside_stripe g (length (l.content z)) ≡ true → parity_drive_at g z (length (l.content z)) ≡ d → EntryIn g d z (γ.generation z) (length (l.content z)) (λ e. Memᴰ e copy)
        at z hz i q =
            let b : is_copied g f d z ≡ true = rw (pointer_is z hz, i) (eq-eqb d (parity_drive_at g z (length (l.content z))) (sym q)) in
            let (e, m, c) = copied_at_lem g f d es z hz b in
            let o = (copies_old e m).0 in
            let h : e.head ≡ entry_header g z (γ.generation z) (length (l.content z)) = copy_header g f d es ok es_read z e c ∙ rw (generation_is z hz, pointer_is z hz) refl in
            (e, mem_left (parity_copies g f d es) (closing_entry 1 n ∷ []) e m, (es_old e o).1, h)

    -- how many sectors it is
    pub rest_copy_long : length (sectors_of_all g d true copy) ≡ new_parity_size g f d
    rest_copy_long = sym (extent_whole g d true copy (λ e m. go e (mem_append (parity_copies g f d es) (closing_entry 1 n ∷ []) e m))) ∙ new_log_extent g ok f d es n es_read
      where
        go : (e : Entry) → Memᴰ e (parity_copies g f d es) ⊎ Memᴰ e (closing_entry 1 n ∷ []) → Whole g d true e
        go e (inl m) = (es_old e (copies_old e m).0).1
        go e (inr (mathlib.Core.List.Memᴰ.head q)) = rw q refl
        go e (inr (mathlib.Core.List.Memᴰ.tail k)) = mem_nil e k
