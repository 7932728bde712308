-- An emptied parity log where only the invariant holds, as inside a mount: entries may be made, and by the copy the marks may be higher (those of the
-- look, below which all lasts by then). By the old log the invariant holds with the old marks, by the copy with the new ones: a cut chooses.
-- (Made: an entry that was made; c: the marks by the copy.)
use Rattle.std.specs.Prelude.{◌≡◌, refl, ◌⊎◌, true, ℕ, zero, ◌+◌, ◌-◌, ◌*◌, ◌^◌, ◌≤◌, ◌<◌, length}
use Rattle.std.proofs.Common.{◌∙◌, inl, inr, zero-le, le_refl, not-suc-le-zero, arith, ltb-true}
use mathlib.Core.List.{List, [], Memᴰ}
use Rattle.tables.specs.meaning.Device.{Device}
use Rattle.tables.specs.meaning.Placement.{stripe_of}
use Rattle.tables.specs.laws.Placement.{needed_zero}
use Rattle.tables.specs.declared.Geometry.{Geometry}
use Rattle.tables.specs.meaning.Geometry.{Valid, stripe_sectors, data_zone}
use Rattle.logs.specs.meaning.Entry.{worn_generation, Header, seal, closing, Entry}
use Rattle.logs.specs.laws.HeadLaws.{zone_gen_map}
use Rattle.logs.specs.laws.Heads.{zone_gen}
use Rattle.promise.specs.meaning.Ledger.{Ledger}
use Rattle.promise.proofs.device.Marks.{with_marks}
use Rattle.promise.proofs.invariant.Invariant.{Ghost, Here, LogsOk, Live, Dying, Inv, reset_lasts, Said, said, facts_of, ZoneFacts, SurvivesLossIn, closing_entry}
use Rattle.promise.proofs.invariant.SaidMoves.{Moves, HeadJoins, EntryJoins, Was, was_self, always_of, live_moves, dying_moves, live_mark, with_mark, said_sure}
use Rattle.promise.proofs.emptying.ParityLogs.{Among, ParityCopyOf, ParityEmptiedTo, parity_ghost, by_drive, general_on, data_on, parity_emptied_logs}

-- what the marks by the copy need of a live zone
pub record MarksFit (g : Geometry) (x z : ℕ) (w : Device) (γ δ : Ghost) (l : Ledger) (c : ℕ) : Type 0 where
  pub most : c ≤ length (l.content z)
  pub above : (e : ℕ) → Here g x e → (s : ℕ) → Memᴰ (seal z s (γ.generation z)) (γ.general e) → c ≤ s
  pub strong : SurvivesLossIn g x z (γ.generation z) c (λ e. (w e (data_zone z)).durable) (said g w δ z).parity_lasts

-- nothing is always there
pub nothing_lost : (g : Geometry) → Valid g → (x z generation : ℕ) (len : ℕ → ℕ) (par : ℕ → Entry → Type 0) → SurvivesLossIn g x z generation zero len par
nothing_lost g ok x z generation len par = record {
  places = λ d a. rw (needed_zero g.drives g.unit z (omega (arith, ok.drives_least)) ok.unit_least d) zero-le;
  entry = λ i a. absurd (not-suc-le-zero (ltb-true (stripe_of g.drives g.unit zero * stripe_sectors g) zero i));
}

module _ (g : Geometry) (ok : Valid g) (x d : ℕ) (hd : Here g x d) (v w : Device) (γ : Ghost) (lg : LogsOk g x v γ) (Made : Entry → Type 0) (copy : List Entry) (n : ℕ) (n1 : 0 < n) (n_lt : n < 256 ^ 8)
    (pc : ParityCopyOf g d γ Made copy n) (em : ParityEmptiedTo g x d v w copy) where
  abbrev δ : Ghost
  δ = parity_ghost γ d copy n

  -- made entries of zone z may join it, where nothing is marked yet
  abbrev pub MadeJoin : Ledger → ℕ → Type 0
  MadeJoin l z = (e : Entry) → Made e → zone_gen e.head (λ y m. y ≡ z → EntryJoins g x z (with_mark (facts_of γ l z) zero) (said g v γ z) (said g w (parity_ghost γ d copy n) z).general d e)

  abbrev pub NoneMadeOf : ℕ → Type 0
  NoneMadeOf z = (e : Entry) → Made e → zone_gen e.head (λ y m. y ≡ z → ⊥)

  -- ---- a zone
  module _ (l : Ledger) (z : ℕ) (hz : z < g.zones) where
    abbrev s : Said
    s = said g v γ z

    abbrev t : Said
    t = said g w δ z

    abbrev f0 : ZoneFacts
    f0 = with_mark (facts_of γ l z) zero

    abbrev WasIn : ℕ → Entry → Type 0
    WasIn e p = Was g e p (λ (o : Entry). Memᴰ o (γ.parity e))

    abbrev Old : ℕ → Entry → Type 0
    Old e p = WasIn e p ⊎ EntryJoins g x z f0 s t.general e p

    was_here : (e : ℕ) (p : Entry) → Memᴰ p (γ.parity e) → WasIn e p
    was_here e p m = was_self g e p (λ (o : Entry). Memᴰ o (γ.parity e)) m

    on_data : (e : ℕ) → Here g x e → w e (data_zone z) ≡ v e (data_zone z)
    on_data e a = data_on g ok x d hd v w γ lg Made copy n n1 n_lt pc em e z a

    on_counts : (e : ℕ) → Here g x e → (Q : ℕ → Type 0) → s.counts e Q → t.counts e Q
    on_counts e a Q h = rw (general_on g ok x d hd v w γ lg Made copy n n1 n_lt pc em e a) h

    -- entries: those that were there, and made ones that may join
    entries_on_lem : MadeJoin l z → (e : ℕ) → Here g x e → (p : Entry) → Memᴰ p (δ.parity e) → zone_gen p.head (λ y m. y ≡ z → Old e p)
    entries_on_lem joins e a = by_drive g ok x d hd v w γ lg Made copy n n1 n_lt pc em e (λ es u. (p : Entry) → Memᴰ p es → zone_gen p.head (λ y m. y ≡ z → Old e p)) a
        (λ q p m. rw q (old p (pc.from p m))) (λ q p m. always_of p.head z (Old e p) (inl (was_here e p m)))
      where
        old : (p : Entry) → Among γ d Made n p → zone_gen p.head (λ y m. y ≡ z → Old d p)
        old p (inl (m, c)) = always_of p.head z (Old d p) (inl (was_here d p m))
        old p (inr (inl q)) = rw q tt
        old p (inr (inr m)) = zone_gen_map p.head (λ y i. y ≡ z → EntryJoins g x z f0 s t.general d p) (λ y i. y ≡ z → Old d p) (λ y i k q. inr (k q)) (joins p m)

    moved : (f : ZoneFacts) → ((e : ℕ) → Here g x e → (p : Entry) → Memᴰ p (δ.parity e) → zone_gen p.head (λ y m. y ≡ z → WasIn e p ⊎ EntryJoins g x z f s t.general e p)) → Moves g x x z f s t
    moved f h = record {
      here = λ e a. a;
      heads = λ e a i m. always_of i z (Memᴰ i (γ.general e) ⊎ HeadJoins g x z f s i) (inl m);
      caps = λ e a b m. inl (b, le_refl b, rw (general_on g ok x d hd v w γ lg Made copy n n1 n_lt pc em e a) m);
      entries = h;
    }

    -- A LIVE ZONE, WITH THE NEW MARK
    pub parity_copy_live : Live g x v γ l z → MadeJoin l z → (c : ℕ → ℕ) → MarksFit g x z w γ δ l (c z) → Live g x w δ (with_marks l c) z
    parity_copy_live h joins c k =
        let none : (u : Said) (len : ℕ → ℕ) → SurvivesLossIn g x z (γ.generation z) zero len u.parity_lasts = λ u len. nothing_lost g ok x z (γ.generation z) len u.parity_lasts in
        let h0 = live_mark g x z (facts_of γ l z) s (λ e. v e (data_zone z)) zero h zero-le (λ e a b i. zero-le) (none s (λ e. (v e (data_zone z)).durable)) in
        let cn : (e : ℕ) → Here g x e → t.counts e (λ m. m ≡ γ.generation z) = λ e a. on_counts e a (λ m. m ≡ γ.generation z) (h.counts e a) in
        let h1 = live_moves g x x z f0 s t (moved f0 (entries_on_lem joins)) (λ e. v e (data_zone z)) (λ e. w e (data_zone z)) h0 (none t (λ e. (w e (data_zone z)).durable)) cn (λ e a. said_sure g w δ z e (γ.generation z) (cn e a)) (λ e a. rw (on_data e a) (h.places e a)) in
        live_mark g x z f0 t (λ e. w e (data_zone z)) (c z) h1 k.most k.above k.strong

    -- A DYING ZONE: no entry of it was made, and its mark is the old one
    pub parity_copy_dying : Dying g x v γ l z → NoneMadeOf z → (c : ℕ → ℕ) → c z ≡ l.committed z → Dying g x w δ (with_marks l c) z
    parity_copy_dying h strange c k =
        let f = facts_of γ l z in
        let mv = moved f (λ e a p m. zone_gen_map p.head (λ y i. y ≡ z → WasIn e p) (λ y i. y ≡ z → WasIn e p ⊎ EntryJoins g x z f s t.general e p) (λ y i o q. inl (o q)) (old e a p m)) in
        let r = dying_moves g x x z f s t mv (λ e. v e (data_zone z)) (λ e. w e (data_zone z)) h (λ e a. on_counts e a (λ m. (γ.generation z ≤ m) × (m ≤ worn_generation)) (h.counts e a))
        (λ e a. on_counts e a (λ m. γ.generation z < m → (i : ℕ) → Here g x i → (w i (data_zone z)).sectors ≡ []) (λ j q o i b. rw (on_data i b) (h.raised e a j q o i b)))
        (λ e a. on_counts e a (λ m. γ.generation z < m)) (λ e a m. reset_lasts (rw (general_on g ok x d hd v w γ lg Made copy n n1 n_lt pc em e a) m)) (λ e a q. rw (on_data e a) q) old in
        record { idle = idle r.idle; generation_top = r.generation_top; entries = r.entries; counts = r.counts; raised = r.raised; why = r.why }
      where
        idle : (l.committed z ≡ zero) ⊎ (l.resetting z ≡ true) → (c z ≡ zero) ⊎ (l.resetting z ≡ true)
        idle (inl q) = inl (k ∙ q)
        idle (inr q) = inr q

        old : (e : ℕ) → Here g x e → (p : Entry) → Memᴰ p (δ.parity e) → zone_gen p.head (λ y m. y ≡ z → WasIn e p)
        old e a = by_drive g ok x d hd v w γ lg Made copy n n1 n_lt pc em e (λ es u. (p : Entry) → Memᴰ p es → zone_gen p.head (λ y m. y ≡ z → WasIn e p)) a (λ q p m. rw q (one p (pc.from p m)))
            (λ q p m. always_of p.head z (WasIn e p) (was_here e p m))
          where
            one : (p : Entry) → Among γ d Made n p → zone_gen p.head (λ y m. y ≡ z → WasIn d p)
            one p (inl (m, c)) = always_of p.head z (WasIn d p) (was_here d p m)
            one p (inr (inl q)) = rw q tt
            one p (inr (inr m)) = zone_gen_map p.head (λ y i. y ≡ z → ⊥) (λ y i. y ≡ z → WasIn d p) (λ y i b q. absurd (b q)) (strange p m)

  -- THE LAW: the invariant by the copy, with the marks c
  abbrev pub CopyFits : Ledger → (ℕ → ℕ) → ℕ → Type 0
  CopyFits l c z = (Live g x v γ l z × MadeJoin l z × MarksFit g x z w γ (parity_ghost γ d copy n) l (c z)) ⊎ (Dying g x v γ l z × NoneMadeOf z × (c z ≡ l.committed z))

  pub parity_copy_inv : (l : Ledger) (c : ℕ → ℕ) → ((z : ℕ) → z < g.zones → CopyFits l c z) → Inv g x w (with_marks l c) δ
  parity_copy_inv l c zs = record { logs = parity_emptied_logs g ok x d hd v w γ lg Made copy n n1 n_lt pc em; zones = λ z hz. go z hz (zs z hz) }
    where
      go : (z : ℕ) → z < g.zones → CopyFits l c z → Live g x w δ (with_marks l c) z ⊎ Dying g x w δ (with_marks l c) z
      go z hz (inl (h, j, k)) = inl (parity_copy_live l z hz h j c k)
      go z hz (inr (h, j, k)) = inr (parity_copy_dying l z hz h j c k)
