-- The zones at a mount's end are Live under new ghosts: with the generations stored, and the content that was shown.
use Rattle.tables.specs.laws.Lists.{prefix_of_nil, length_map, Prefix, prefix_nil, prefix_refl, prefix_take, prefix_append, prefix_same}
use Rattle.std.specs.Prelude.{◌≡◌, ◌⊎◌, Bool, true, false, length, take, drop}
use Rattle.std.proofs.Math.Path.{refl}
use Rattle.std.proofs.Common.{sym, ap, ◌∙◌, subst, inl, inr, le_refl, le_trans, le_of_eq, not-suc-le-zero, arith, length-take, take-append-drop, ltb-true, take_all, get_or-take}
use Prim.Native.Nat.{ℕ, zero, ◌+◌, ◌*◌, ◌≤◌, ◌<◌, zero-le}
use mathlib.Core.List.{List, [], ◌++◌, append-nil, Memᴰ}
use Rattle.tables.specs.meaning.Device.{Device}
use Rattle.tables.specs.declared.Geometry.{Geometry}
use Rattle.tables.specs.meaning.Geometry.{Valid, stripe_sectors, data_zone}
use Rattle.logs.specs.meaning.Entry.{general_zone, parity_zone, worn_generation, Header, partial_parity, seal, zone_reset, Entry, encode}
use Rattle.promise.specs.meaning.Ledger.{Ledger}
use Rattle.volume.specs.meaning.Rules.{Shown}
use Rattle.volume.specs.declared.Condition.{Condition}
use Rattle.volume.specs.declared.Condition.TheVariants.{Empty, Open, Sealed, Worn}
use Rattle.promise.proofs.invariant.Invariant.{Ghost, Here, Live, Capped, CappedBelow, TrueRows, Entries, SurvivesLoss, durable_entries}
use Rattle.promise.proofs.mount.MountPlan.{NoData}
use Rattle.promise.proofs.mount.MountFilled.{Kept, OpenNow, SealedNow, GoneNow, ZoneNow, kept_now, worn_now, gone_now, Filled, Ended, kept_next}
use Rattle.logs.specs.meaning.Heads.{generation_in}
use Rattle.tables.specs.meaning.Placement.{needed, stripe_of}
use Rattle.logs.specs.laws.Walk.{cut_entries, sectors_of_all}
use Rattle.tables.specs.laws.Below.{length_tabulate_from}
use Rattle.volume.specs.meaning.Content.{content_at, at, parity_drive_at}
use Rattle.volume.specs.laws.Content.{row_xor_below_cong}
use Rattle.promise.proofs.content.Columns.{column, column_grows}
use Rattle.volume.specs.meaning.Mount.{next_generation}
use Rattle.tables.specs.laws.Drives.{present_below}
use Rattle.logs.specs.laws.HeadLaws.{zone_gen_map}
use Rattle.promise.proofs.mount.MountZoneResets.{needed_none}
use Rattle.promise.proofs.mount.MountParityEntries.{cut_append}

-- ---- a Live zone speaks of its own part of ghosts and ledger alone
abbrev pub one_ghost : List (List ℕ) → ℕ → (ℕ → List Header) → (ℕ → List Entry) → ℕ → Ghost
one_ghost E n G P A = record { laid = λ _. E; generation = λ _. n; general = G; parity = P; array = A; closed = λ _. (zero, zero) }

abbrev pub one_ledger : List (List ℕ) → ℕ → Bool → Ledger
one_ledger c m f = record { content = λ _. c; committed = λ _. m; resetting = λ _. f }

entries_of_lem : (g : Geometry) (x : ℕ) (γ δ : Ghost) (z : ℕ) (Q : ℕ → Type 0) → ((d : ℕ) → γ.general d ≡ δ.general d) → ((d : ℕ) → γ.parity d ≡ δ.parity d) → Entries g x γ z Q → Entries g x δ z Q
entries_of_lem g x γ δ z Q a b e = record { in_general_lem = λ d h k m. e.in_general_lem d h k (rw (a d) m); in_parity_lem = λ d h k m. e.in_parity_lem d h k (rw (b d) m) }

pub live_here : (g : Geometry) (x : ℕ) (v : Device) (γ : Ghost) (l : Ledger) (z : ℕ) → Live g x v (one_ghost (γ.laid z) (γ.generation z) γ.general γ.parity γ.array) (one_ledger (l.content z) (l.committed z) (l.resetting z)) z → Live g x v γ l z
live_here g x v γ l z h = h

pub live_there : (g : Geometry) (x : ℕ) (v : Device) (γ : Ghost) (l : Ledger) (z : ℕ) → Live g x v γ l z → Live g x v (one_ghost (γ.laid z) (γ.generation z) γ.general γ.parity γ.array) (one_ledger (l.content z) (l.committed z) (l.resetting z)) z
live_there g x v γ l z h = h

-- what the zones' places follow from now on
abbrev pub laid_now : Condition → List (List ℕ) → List (List ℕ)
laid_now Empty E = []
laid_now (Open n) E = take n E
laid_now (Sealed n) E = E
laid_now (Worn n) E = []

-- a zone that was emptied follows nothing
pub gone_laid : (g : Geometry) (x : ℕ) (u : Device) (δ : Ghost) (l : Ledger) (k : Shown) (z : ℕ) → GoneNow g x u δ l k z → laid_now (k.zone z).condition (δ.laid z) ≡ []
gone_laid g x u δ l k z q = go q.condition_is
  where
    go : ((k.zone z).condition ≡ Empty) ⊎ ((k.zone z).condition ≡ Worn zero) → laid_now (k.zone z).condition (δ.laid z) ≡ []
    go (inl r) = rw r refl
    go (inr r) = rw r refl

module _ (g : Geometry) (ok : Valid g) (x : ℕ) (u : Device) (δ : Ghost) (l : Ledger) (k : Shown) (fi : Filled g x u δ l k) (en : Ended g x δ k) where
  abbrev G : ℕ → List Header
  G = δ.general

  abbrev P : ℕ → List Entry
  P = δ.parity

  abbrev shown_pointer : ℕ → ℕ
  shown_pointer z = (k.zone z).pointer

  abbrev pub end_ghost : Ghost
  end_ghost = record { laid = λ z. laid_now (k.zone z).condition (δ.laid z); generation = next_generation k; general = δ.general; parity = δ.parity; array = δ.array; closed = δ.closed }

  abbrev pub end_ledger : Ledger
  end_ledger = record { content = λ z. take (k.zone z).pointer (laid_now (k.zone z).condition (δ.laid z)); committed = λ z. (k.zone z).pointer; resetting = λ z. false }

  -- all of a parity log lasts
  durable_all : (d : ℕ) → Here g x d → cut_entries g d true (P d) (u d parity_zone).durable ≡ P d
  durable_all d a =
      let e : (u d parity_zone).durable ≡ length (sectors_of_all g d true (P d)) = fi.settled.lasts d parity_zone a ∙ ap length (fi.logs.parity_is d a) in
      ap (cut_entries g d true (P d)) e ∙ ap (λ (r : List Entry). cut_entries g d true r (length (sectors_of_all g d true (P d)))) (sym (append-nil (P d))) ∙ cut_append g d (P d) []

  -- ---- a zone that stays, over E: what it follows
  module _ (z : ℕ) (hz : z < g.zones) (q : Kept g x u δ l k z) where
    lv : Live g x u δ l z
    lv = q.live

    strong_end : SurvivesLoss g x z (δ.generation z) (shown_pointer z) (λ d. (u d (data_zone z)).durable) (durable_entries g u δ)
    strong_end = record {
      places = λ d a. rw (fi.settled.lasts d (data_zone z) a) (q.places d a);
      entry = λ i a. let (e, m, o, r) = en.entry z hz i a in (e, rw (durable_all (parity_drive_at g z (shown_pointer z)) a) m, o, r);
    }

    stays_live : (E : List (List ℕ)) → shown_pointer z ≤ length E → length E ≤ length (δ.laid z) → ((a : ℕ) → a < length E → at E a ≡ at (δ.laid z) a)
        → (length (take (shown_pointer z) E) ≡ length E) ⊎ Capped g x u δ z (length (take (shown_pointer z) E))
        → ((d : ℕ) → Here g x d → Prefix (u d (data_zone z)).sectors (column g.drives g.unit z E d))
        → ((d : ℕ) → Here g x d → (e : Entry) → Memᴰ e (P d) → (i f : ℕ) → e.head ≡ partial_parity z i f (δ.generation z) → TrueRows g E i f e.rows ⊎ CappedBelow g x u δ z (i * stripe_sectors g + f))
        → ((d : ℕ) → Here g x d → (c : ℕ) → Memᴰ (seal z c (δ.generation z)) (G d) → c ≤ length E)
        → Live g x u (one_ghost E (δ.generation z) G P δ.array) (one_ledger (take (shown_pointer z) E) (shown_pointer z) false) z
    stays_live E h1 h2 same cap pl tl sl = record {
      sizes = λ a h. rw (same a h) (lv.sizes a (omega (arith, h2, h)));
      fits = le_trans h2 lv.fits;
      generation_top = lv.generation_top;
      committed_most = rw length-take (omega arith);
      front = prefix_take (shown_pointer z) E;
      capped = cap;
      places = pl;
      tells = tl;
      seals = λ d a c m. (q.seals_past d a c m, sl d a c m);
      alone = lv.alone;
      strong = strong_end;
      counts = lv.counts;
      no_reset = inr q.no_reset;
      entries = lv.entries;
      worn_empty = λ r. absurd (omega (arith, q.unworn, r));
    }

    sealed_live : SealedNow g x u δ k z → Live g x u (one_ghost (δ.laid z) (δ.generation z) G P δ.array) (one_ledger (take (shown_pointer z) (δ.laid z)) (shown_pointer z) false) z
    sealed_live c =
        let n : length (take (shown_pointer z) (δ.laid z)) ≡ shown_pointer z = rw length-take (omega (arith, q.most)) in
        stays_live (δ.laid z) q.most (le_refl (length (δ.laid z))) (λ a h. refl) (inr (rw n c.cap)) lv.places lv.tells (λ d a c m. (lv.seals d a c m).1)

    opened_live : OpenNow g x u δ k z → Live g x u (one_ghost (take (shown_pointer z) (δ.laid z)) (δ.generation z) G P δ.array) (one_ledger (take (shown_pointer z) (take (shown_pointer z) (δ.laid z))) (shown_pointer z) false) z
    opened_live c = stays_live (take (shown_pointer z) (δ.laid z)) (omega (arith, len)) (omega (arith, len, q.most)) (λ a h. get_or-take (shown_pointer z) (δ.laid z) a [] (omega (arith, len, h)))
        (inl (same_length (take (shown_pointer z) (δ.laid z)) (omega (arith, len)))) pl tl (λ d a c2 m. absurd (c.no_seal d a c2 m))
      where
        h_d : 1 < g.drives
        h_d = omega (arith, ok.drives_least)

        h_u : zero < g.unit
        h_u = omega (arith, ok.unit_least)

        len : length (take (shown_pointer z) (δ.laid z)) ≡ shown_pointer z
        len = rw length-take (omega (arith, q.most))

        same_length : (xs : List (List ℕ)) → length xs ≤ shown_pointer z → length (take (shown_pointer z) xs) ≡ length xs
        same_length xs h = ap length (take_all (shown_pointer z) xs h)

        pl : (d : ℕ) → Here g x d → Prefix (u d (data_zone z)).sectors (column g.drives g.unit z (take (shown_pointer z) (δ.laid z)) d)
        pl d a =
            let A = take (shown_pointer z) (δ.laid z) in
            let B = drop (shown_pointer z) (δ.laid z) in
            let whole : column g.drives g.unit z (δ.laid z) d ≡ column g.drives g.unit z (A ++ B) d = ap (λ (y : List (List ℕ)). column g.drives g.unit z y d) (sym (take-append-drop (shown_pointer z) (δ.laid z))) in
            let c1 = column_grows g.drives g.unit z h_d h_u A B d (present_below g x d a) in
            let p1 : Prefix (column g.drives g.unit z A d) (column g.drives g.unit z (δ.laid z) d) = rw (whole, c1) (prefix_append (column g.drives g.unit z A d) _) in
            let n1 : length (column g.drives g.unit z A d) ≡ needed g.drives g.unit z (shown_pointer z) d = col_length A d ∙ ap (λ (y : ℕ). needed g.drives g.unit z y d) len in
            let e : (u d (data_zone z)).sectors ≡ column g.drives g.unit z A d = prefix_same (u d (data_zone z)).sectors (column g.drives g.unit z A d) (column g.drives g.unit z (δ.laid z) d) (lv.places d a) p1 (c.just d a ∙ sym n1) in
            rw e (prefix_refl (column g.drives g.unit z A d))
          where
            col_length : (A : List (List ℕ)) (d : ℕ) → length (column g.drives g.unit z A d) ≡ needed g.drives g.unit z (length A) d
            col_length A d = unfold column in length_tabulate_from (content_at g.drives g.unit z (at A) d) zero (needed g.drives g.unit z (length A) d)

        tl : (d : ℕ) → Here g x d → (e : Entry) → Memᴰ e (P d) → (i f : ℕ) → e.head ≡ partial_parity z i f (δ.generation z) → TrueRows g (take (shown_pointer z) (δ.laid z)) i f e.rows ⊎ CappedBelow g x u δ z (i * stripe_sectors g + f)
        tl d a e m i f r = go (lv.tells d a e m i f r)
          where
            end : i * stripe_sectors g + f ≤ shown_pointer z
            end = c.ends_in d a e m i f r

            go : TrueRows g (δ.laid z) i f e.rows ⊎ CappedBelow g x u δ z (i * stripe_sectors g + f) → TrueRows g (take (shown_pointer z) (δ.laid z)) i f e.rows ⊎ CappedBelow g x u δ z (i * stripe_sectors g + f)
            go (inr b) = inr b
            go (inl b) = inl (record {
              within = omega (arith, len, end);
              rows_are = λ j h. b.rows_are j h ∙ row_xor_below_cong g.drives g.unit (at (δ.laid z)) (at (take (shown_pointer z) (δ.laid z))) i (i * stripe_sectors g + f) j (λ y h2. sym (get_or-take (shown_pointer z) (δ.laid z) y [] (omega (arith, end, h2))));
            })

  -- ---- a zone that is empty now, under generation n above its entries
  bare_live : (z n : ℕ) → n ≤ worn_generation → NoData g x u z → ((d : ℕ) → Here g x d → generation_in z (G d) ≡ n) → Entries g x δ z (λ m. m < n)
      → Live g x u (one_ghost [] n G P δ.array) (one_ledger [] zero false) z
  bare_live z n top nd cn es = record {
    sizes = λ a h. absurd (not-suc-le-zero h);
    fits = zero-le;
    generation_top = top;
    committed_most = le_refl zero;
    front = prefix_nil [];
    capped = inl refl;
    places = λ d a. rw (nd d a) (prefix_nil (column g.drives g.unit z [] d));
    tells = λ d a e m i f r. absurd (no_entry_lem d a e m i f r);
    seals = λ d a c m. absurd (no_head d a c m);
    alone = λ d e a b c m. absurd (no_head d a c m);
    strong = record { places = λ d a. rw (needed_none g ok z d) zero-le; entry = λ i a. absurd (not-suc-le-zero (ltb-true (stripe_of g.drives g.unit zero * stripe_sectors g) zero i)) };
    counts = λ d a j h. let e : (u d general_zone).durable ≡ length (G d) = fi.settled.lasts d general_zone a ∙ ap length (fi.logs.general_is d a) ∙ length_map (encode g d) (G d) in
        let r : take j (G d) ≡ G d = take_all j (G d) (omega (arith, e, h)) in rw r (cn d a);
    no_reset = inr (λ d a m. let r = es.in_general_lem d a (zone_reset z n) m refl in omega (arith, r));
    entries = record { in_general_lem = λ d a h m. zone_gen_map h (λ y i. y ≡ z → i < n) (λ y i. y ≡ z → i ≤ n) (λ y i v r. (let b = v r in omega (arith, b))) (es.in_general_lem d a h m); in_parity_lem = λ d a e m. zone_gen_map e.head (λ y i. y ≡ z → i < n) (λ y i. y ≡ z → i ≤ n) (λ y i v r. (let b = v r in omega (arith, b))) (es.in_parity_lem d a e m) };
    worn_empty = λ r. (refl, record { in_general_lem = es.in_general_lem; in_parity_lem = es.in_parity_lem });
  }
    where
      no_entry_lem : (d : ℕ) → Here g x d → (e : Entry) → Memᴰ e (P d) → (i f : ℕ) → e.head ≡ partial_parity z i f n → ⊥
      no_entry_lem d a e m i f r = let b : z ≡ z → n < n = rw r at (es.in_parity_lem d a e m) in let b2 = b refl in omega (arith, b2)

      no_head : (d : ℕ) → Here g x d → (c : ℕ) → Memᴰ (seal z c n) (G d) → ⊥
      no_head d a c m = let b = es.in_general_lem d a (seal z c n) m refl in omega (arith, b)

  less_entries : (z n : ℕ) → δ.generation z < n → Entries g x δ z (λ m. m ≤ δ.generation z) → Entries g x δ z (λ m. m < n)
  less_entries z n h es = record {
    in_general_lem = λ d a e m. zone_gen_map e (λ y i. y ≡ z → i ≤ δ.generation z) (λ y i. y ≡ z → i < n) (λ y i v r. (let b = v r in omega (arith, b, h))) (es.in_general_lem d a e m);
    in_parity_lem = λ d a e m. zone_gen_map e.head (λ y i. y ≡ z → i ≤ δ.generation z) (λ y i. y ≡ z → i < n) (λ y i v r. (let b = v r in omega (arith, b, h))) (es.in_parity_lem d a e m);
  }

  -- EVERY ZONE IS LIVE under the new ghosts, with what was shown as its content
  pub end_live : (z : ℕ) → z < g.zones → Live g x u end_ghost end_ledger z
  end_live z hz = live_here g x u end_ghost end_ledger z (go (fi.zones z hz))
    where
      to : (E : List (List ℕ)) (n p : ℕ) → laid_now (k.zone z).condition (δ.laid z) ≡ E → next_generation k z ≡ n → (k.zone z).pointer ≡ p → Live g x u (one_ghost E n G P δ.array) (one_ledger (take p E) p false) z
          → Live g x u (one_ghost (laid_now (k.zone z).condition (δ.laid z)) (next_generation k z) G P δ.array) (one_ledger (take (k.zone z).pointer (laid_now (k.zone z).condition (δ.laid z))) (k.zone z).pointer false) z
      to E n p a b c h = subst (λ (F : List (List ℕ)). Live g x u (one_ghost F (next_generation k z) G P δ.array) (one_ledger (take (k.zone z).pointer F) (k.zone z).pointer false) z) (sym a)
          (subst (λ (m : ℕ). Live g x u (one_ghost E m G P δ.array) (one_ledger (take (k.zone z).pointer E) (k.zone z).pointer false) z) (sym b)
          (subst (λ (m : ℕ). Live g x u (one_ghost E n G P δ.array) (one_ledger (take m E) m false) z) (sym c) h))

      staying : (q : Kept g x u δ l k z) → OpenNow g x u δ k z ⊎ SealedNow g x u δ k z
          → Live g x u (one_ghost (laid_now (k.zone z).condition (δ.laid z)) (next_generation k z) G P δ.array) (one_ledger (take (k.zone z).pointer (laid_now (k.zone z).condition (δ.laid z))) (k.zone z).pointer false) z
      staying q (inl c) = to (take (k.zone z).pointer (δ.laid z)) (δ.generation z) (k.zone z).pointer (rw c.condition_is refl) (kept_next g x u δ l k z (inl q)) refl (opened_live z hz q c)
      staying q (inr c) = to (δ.laid z) (δ.generation z) (k.zone z).pointer (rw c.condition_is refl) (kept_next g x u δ l k z (inl q)) refl (sealed_live z hz q c)

      none : (k.zone z).pointer ≡ zero → laid_now (k.zone z).condition (δ.laid z) ≡ [] → next_generation k z ≤ worn_generation → NoData g x u z → Entries g x δ z (λ m. m < next_generation k z)
          → Live g x u (one_ghost (laid_now (k.zone z).condition (δ.laid z)) (next_generation k z) G P δ.array) (one_ledger (take (k.zone z).pointer (laid_now (k.zone z).condition (δ.laid z))) (k.zone z).pointer false) z
      none e1 e2 top nd es = to [] (next_generation k z) zero e2 refl e1 (bare_live z (next_generation k z) top nd (λ d a. fi.counted d a z hz) es)

      go : ZoneNow g x u δ l k z → Live g x u (one_ghost (laid_now (k.zone z).condition (δ.laid z)) (next_generation k z) G P δ.array) (one_ledger (take (k.zone z).pointer (laid_now (k.zone z).condition (δ.laid z))) (k.zone z).pointer false) z
      go (kept_now q) = staying q q.how
      go (worn_now q) =
          let N = kept_next g x u δ l k z (inr q) in
          let (e0, es) = q.live.worn_empty q.most in
          none q.none (rw q.condition_is refl) (le_of_eq (N ∙ q.most)) (λ d a. empty_of (u d (data_zone z)).sectors d (q.live.places d a) e0) (rw N es)
        where
          empty_of : (xs : List (List ℕ)) (d2 : ℕ) → Prefix xs (column g.drives g.unit z (δ.laid z) d2) → δ.laid z ≡ [] → xs ≡ []
          empty_of xs d2 p e = prefix_of_nil xs (column g.drives g.unit z (δ.laid z) d2) p (rw e (col d2))
            where
              col : (d : ℕ) → column g.drives g.unit z [] d ≡ []
              col d = unfold column in rw (needed_none g ok z d) refl
      go (gone_now q) = none q.none (gone_laid g x u δ l k z q) q.next.1 q.no_data (less_entries z (next_generation k z) q.next.0 q.dying.entries)
