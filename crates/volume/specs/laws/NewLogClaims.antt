-- A log made anew is whole up to its pointer, and claims the generation of its closing entry: the copies before that are no closing entries. On any input.
use Rattle.std.proofs.Math.Path.{◌≡◌, sym, ap}
use Rattle.std.specs.Prelude.{refl, ◌⊎◌, Bool, false, length}
use Rattle.std.proofs.Common.{◌∙◌, inl, inr, true≢false, lt-ltb}
use Rattle.std.proofs.Math.Bool.{true}
use Prim.Native.Nat.{ℕ, zero, suc, ◌≤◌, ◌<◌}
use native.Mathlib.Omega.{arith}
use mathlib.Core.List.{List, [], ◌∷◌, ◌++◌, map, Memᴰ}
use Rattle.tables.specs.declared.Geometry.{Geometry}
use Rattle.tables.specs.meaning.Basics.{pick}
use Rattle.tables.specs.meaning.Below.{each_below}
use Rattle.tables.specs.meaning.Lists.{any_of, concat}
use Rattle.tables.specs.laws.Lists.{map_append, concat_append, mem_append, mem_nil}
use Rattle.tables.specs.meaning.Geometry.{Valid, zone_sectors}
use Rattle.tables.specs.meaning.Device.{Device}
use Rattle.logs.specs.meaning.Entry.{general_zone, worn_generation, Header, label, counters, zone_reset, seal, closing, Entry}
use Rattle.logs.specs.meaning.Heads.{first_closing, is_reset, is_seal, least_seal, ends_at}
use Rattle.logs.specs.meaning.Walk.{Walked, at_pointer, walk_log, sectors_of}
use Rattle.logs.specs.meaning.Copies.{array_for, kept_label, kept_seals, kept_resets, copied_general}
use Rattle.logs.specs.laws.Copies.{zonewise_mem, LastLabel, no_label, a_label, last_label_lem}
use Rattle.logs.specs.laws.Walk.{Reads, Whole, WellFormedLog, log_extent, sectors_of_all, sectors_of_append, lawful_joins, extent_whole}
use Rattle.logs.specs.laws.WalkLaws.{AllWhole, walk_of_entries}
use Rattle.logs.specs.laws.Legal.{fits_reads_back}
use Rattle.logs.specs.laws.HeadLaws.{generation_small}
use Rattle.logs.specs.code.Query.{heads_of}
use Rattle.volume.specs.meaning.Content.{entry_at}
use Rattle.volume.specs.meaning.Rules.{general_heads}
use Rattle.volume.specs.meaning.Calls.{generations_from}
use Rattle.volume.specs.meaning.Roles.{Roles, zone_claim}
use Rattle.volume.specs.meaning.Emptying.{InForce, general_copies, last_entry, is_copied, is_at_pointer, made_entry, parity_copies, closing_sector, new_parity}
use Rattle.volume.specs.laws.CopyLengths.{last_entry_lem}
use Rattle.volume.specs.laws.EmptiedLogs.{Emptied, emptied_heads_lem}
use Rattle.volume.specs.laws.GrowingLogs.{Plain, Entries, no_entries, one_entry, entries_join}
use Rattle.volume.specs.laws.GrowingClaims.{first_closed}

-- ---- a general log
module _ (g : Geometry) (f : InForce) (hs : List Header) where
  label_plain : (h : Header) → Memᴰ h (kept_label hs) → Plain h
  label_plain h m = go (last_label_lem (array_for hs) [] hs) m
    where
      one : (y a : ℕ) → Memᴰ h (label y a ∷ []) → Plain h
      one y a (Memᴰ.head q) k n e = let o : ◌≡◌ {A = ℕ} 0 1 = cc in omega arith
      one y a (Memᴰ.tail q) k n e = mem_nil h q

      go : LastLabel (array_for hs) [] hs → Memᴰ h (kept_label hs) → Plain h
      go (no_label e k) l = mem_nil h (rw e at l)
      go (a_label y a e o k) l = one y (array_for hs a) (rw e at l)

  general_copies_plain : (h : Header) → Memᴰ h (general_copies g f hs) → Plain h
  unfolding general_copies copied_general
  general_copies_plain h m = go (mem_append (kept_label hs) (counters (generations_from f.generation zero g.zones) ∷ (kept_seals g f.generation hs ++ kept_resets g f.generation hs)) h m)
    where
      tail : Memᴰ h (kept_seals g f.generation hs) ⊎ Memᴰ h (kept_resets g f.generation hs) → Plain h
      tail (inl k) i n q =
          let (z, l, b, e) = zonewise_mem (λ z. any_of (is_seal z (f.generation z)) hs) (λ z. seal z (least_seal z (f.generation z) (zone_sectors g) hs) (f.generation z)) g.zones h k in
          let o : ◌≡◌ {A = ℕ} 0 1 = cc in omega arith
      tail (inr k) i n q =
          let (z, l, b, e) = zonewise_mem (λ z. any_of (is_reset z (f.generation z)) hs) (λ z. zone_reset z (f.generation z)) g.zones h k in
          let o : ◌≡◌ {A = ℕ} 0 1 = cc in omega arith

      next : Memᴰ h (counters (generations_from f.generation zero g.zones) ∷ (kept_seals g f.generation hs ++ kept_resets g f.generation hs)) → Plain h
      next (Memᴰ.head e) = λ i n q. let o : ◌≡◌ {A = ℕ} 0 1 = cc in omega arith
      next (Memᴰ.tail k) = tail (mem_append (kept_seals g f.generation hs) (kept_resets g f.generation hs) h k)

      go : Memᴰ h (kept_label hs) ⊎ Memᴰ h (counters (generations_from f.generation zero g.zones) ∷ (kept_seals g f.generation hs ++ kept_resets g f.generation hs)) → Plain h
      go (inl k) = label_plain h k
      go (inr k) = next k

pub emptied_claim : (g : Geometry) (present : ℕ → Bool) (f : InForce) (r : ℕ → Roles) (emptied : ℕ → Bool) (w w1 : Device) → Emptied g present f r emptied w w1 → (d : ℕ) → emptied d ≡ true
    → zone_claim g d false (w1 d general_zone).sectors ≡ (r d).general_claim
unfolding zone_claim general_heads
emptied_claim g present f r emptied w w1 k d e =
    ap first_closing (emptied_heads_lem g present f r emptied w w1 k d e) ∙ first_closed (general_copies g f (general_heads g w d)) (closing 0 (r d).general_claim ∷ []) (general_copies_plain g f (general_heads g w d))

-- ---- a parity log (es: the whole entries of the old one)
ends_plain : (g : Geometry) (z n q : ℕ) (h : Header) → ends_at g z n q h ≡ true → Plain h
ends_plain g z n q h t k i e = true≢false (sym t ∙ ap (ends_at g z n q) e)

made_plain : (g : Geometry) (f : InForce) (z : ℕ) → Plain (made_entry g f z).head
unfolding entry_at
made_plain g f z k n e = let o : ◌≡◌ {A = ℕ} 0 1 = cc in omega arith

module _ (g : Geometry) (ok : Valid g) (f : InForce) (d : ℕ) (es : List Entry) (stand : (e : Entry) → Memᴰ e es → Reads g d true e.head × Whole g d true e)
    (made : (z : ℕ) → z < g.zones → is_copied g f d z ≡ true → Reads g d true (made_entry g f z).head × Whole g d true (made_entry g f z)) where
  abbrev copies_of : ℕ → List Entry
  copies_of z = pick (is_copied g f d z) (last_entry (is_at_pointer g f z) (made_entry g f z ∷ []) es) []

  zone_entries : (z : ℕ) → z < g.zones → Entries g d (concat (map (sectors_of g d true) (copies_of z)))
  zone_entries z hz = go (is_copied g f d z) refl
    where
      one : (e : Entry) → Reads g d true e.head → Whole g d true e → Plain e.head → Entries g d (sectors_of g d true e ++ [])
      one e r w p = entries_join g d (sectors_of g d true e) [] (one_entry g d e r w p) (no_entries g d)

      go : (b : Bool) → is_copied g f d z ≡ b → Entries g d (concat (map (sectors_of g d true) (pick b (last_entry (is_at_pointer g f z) (made_entry g f z ∷ []) es) [])))
      go false q = no_entries g d
      go true q = which (last_entry_lem (is_at_pointer g f z) (made_entry g f z ∷ []) es)
        where
          which : ((last_entry (is_at_pointer g f z) (made_entry g f z ∷ []) es ≡ made_entry g f z ∷ []) × (any_of (is_at_pointer g f z) es ≡ false))
              ⊎ ((e : Entry) × (last_entry (is_at_pointer g f z) (made_entry g f z ∷ []) es ≡ e ∷ []) × Memᴰ e es × (is_at_pointer g f z e ≡ true))
              → Entries g d (concat (map (sectors_of g d true) (last_entry (is_at_pointer g f z) (made_entry g f z ∷ []) es)))
          which (inl (p, none)) = let (r, w) = made z hz q in rw p (one (made_entry g f z) r w (made_plain g f z))
          which (inr (e, p, m, k)) = let (r, w) = stand e m in rw p (one e r w (ends_plain g z (f.generation z) (f.pointer z) e.head k))

  zones_entries : (n : ℕ) → n ≤ g.zones → Entries g d (concat (map (sectors_of g d true) (each_below copies_of n)))
  zones_entries zero l = no_entries g d
  zones_entries (suc n) l =
      let e : concat (map (sectors_of g d true) (each_below copies_of n ++ copies_of n)) ≡ concat (map (sectors_of g d true) (each_below copies_of n)) ++ concat (map (sectors_of g d true) (copies_of n))
      = ap concat (map_append (sectors_of g d true) (each_below copies_of n) (copies_of n)) ∙ concat_append (map (sectors_of g d true) (each_below copies_of n)) (map (sectors_of g d true) (copies_of n)) in
      rw e (entries_join g d (concat (map (sectors_of g d true) (each_below copies_of n))) (concat (map (sectors_of g d true) (copies_of n))) (zones_entries n (omega (arith, l))) (zone_entries n l))

  copies_entries : Entries g d (concat (map (sectors_of g d true) (parity_copies g f d es)))
  unfolding parity_copies
  copies_entries = zones_entries g.zones (omega arith)

  -- with the closing entry, of generation c
  module _ (r : Roles) (low : 1 ≤ r.parity_claim) (high : r.parity_claim ≤ worn_generation) (room : length (new_parity g f r d es) ≤ g.capacity) where
    abbrev end : Entry
    end = record { head = closing 1 r.parity_claim; rows = [] }

    abbrev copied : List Entry
    copied = copies_entries.entries

    end_reads : Reads g d true (closing 1 r.parity_claim)
    end_reads = fits_reads_back g ok d true (closing 1 r.parity_claim) (lt-ltb 0 r.parity_claim low) (generation_small r.parity_claim high)

    new_lawful : WellFormedLog g d true (copied ++ (end ∷ []))
    new_lawful = lawful_joins g d true copied (end ∷ []) copies_entries.whole copies_entries.lawful (end_reads, inl refl, tt)

    new_whole : AllWhole g d true (copied ++ (end ∷ []))
    new_whole e m = go (mem_append copied (end ∷ []) e m)
      where
        last : Memᴰ e (end ∷ []) → Whole g d true e
        last (Memᴰ.head q) = rw q refl
        last (Memᴰ.tail q) = mem_nil e q

        go : Memᴰ e copied ⊎ Memᴰ e (end ∷ []) → Whole g d true e
        go (inl k) = copies_entries.whole e k
        go (inr k) = last k

    new_sectors_lem : new_parity g f r d es ≡ sectors_of_all g d true (copied ++ (end ∷ []))
    unfolding new_parity
    new_sectors_lem = ap (λ (t : List (List ℕ)). t ++ (closing_sector g true d r ∷ [])) copies_entries.sectors_are ∙ sym (sectors_of_append g d true copied (end ∷ []))

    new_walk : walk_log g d true (new_parity g f r d es) ≡ record { entries = copied ++ (end ∷ []); last = at_pointer; position = log_extent g d true (copied ++ (end ∷ [])) }
    new_walk =
        let long : log_extent g d true (copied ++ (end ∷ [])) ≡ length (new_parity g f r d es) = extent_whole g d true (copied ++ (end ∷ [])) new_whole ∙ ap length (sym new_sectors_lem) in
        ap (walk_log g d true) new_sectors_lem ∙ walk_of_entries g d true (copied ++ (end ∷ [])) new_lawful new_whole (omega (arith, long, room))

    pub new_parity_ends : (walk_log g d true (new_parity g f r d es)).last ≡ at_pointer
    new_parity_ends = ap (λ (w : Walked). w.last) new_walk

    pub new_parity_claims : zone_claim g d true (new_parity g f r d es) ≡ r.parity_claim
    unfolding zone_claim
    new_parity_claims =
        ap (λ (w : Walked). first_closing (heads_of w)) new_walk ∙ ap first_closing (map_append (λ (e : Entry). e.head) copied (end ∷ []))
        ∙ first_closed (map (λ (e : Entry). e.head) copied) (closing 1 r.parity_claim ∷ []) (heads_plain copied copies_entries.plain)
      where
        heads_plain : (es : List Entry) → ((e : Entry) → Memᴰ e es → Plain e.head) → (h : Header) → Memᴰ h (map (λ (e : Entry). e.head) es) → Plain h
        heads_plain (e ∷ es) p h (Memᴰ.head q) = rw q (p e (Memᴰ.head refl))
        heads_plain [] p h x'' = elim x'' [ ]
        heads_plain (e ∷ es) p h (Memᴰ.tail m) = heads_plain es (λ k o. p k (Memᴰ.tail o)) h m
