-- A device that holds more (entries, rows of entries, sectors) and of which no less lasts: what is new must be such, and then a zone stays
-- Live, or Dying. The steps of a mount are proved with this.
use Rattle.logs.specs.laws.HeadLaws.{other_not_seal, other_not_reset, zone_gen_map}
use Rattle.std.specs.Prelude.{◌≡◌, refl, ◌≢◌, ◌⊎◌, Bool, true, false, ℕ, zero, ◌+◌, ◌-◌, ◌*◌, ◌≤◌, ◌<◌, length, take}
use Rattle.std.proofs.Common.{sym, ◌∙◌, inl, inr, arith, le_refl}
use mathlib.Core.List.{List, Memᴰ}
use Rattle.tables.specs.meaning.Device.{Device}
use Rattle.tables.specs.laws.Lists.{Prefix}
use Rattle.tables.specs.declared.Geometry.{Geometry}
use Rattle.tables.specs.meaning.Geometry.{stripe_sectors, parity_drive_of, first_drive_of, data_zone}
use Rattle.logs.specs.meaning.Entry.{general_zone, parity_zone, worn_generation, Header, partial_parity, seal, zone_reset, Entry}
use Rattle.tables.specs.meaning.Placement.{needed}
use Rattle.logs.specs.laws.Walk.{Whole, cut_entries}
use Rattle.logs.specs.laws.Heads.{zone_gen}
use Rattle.logs.specs.meaning.Heads.{generation_in}
use Rattle.volume.specs.meaning.Content.{at, parity_drive_at}
use Rattle.promise.proofs.content.Columns.{column}
use Rattle.promise.specs.meaning.Ledger.{Ledger}
use Rattle.promise.proofs.invariant.Invariant.{Ghost, Here, TrueRows, Counts, Entries, Live, Dying, Logged, LoggedIn, reset_lasts, counts_past, said, facts_of, Spent, SealSpent}
use Rattle.promise.proofs.invariant.SaidMoves.{HeadJoins, EntryJoins, Was, was_self, always_of, live_moves, said_sure}
use Rattle.promise.proofs.invariant.HoldsLess.{with_logs}

-- ---- v, γ; then w with logs G and P. l, z: a zone of a ledger.
-- what may join the general log of a Live zone
abbrev pub NewHead : Geometry → ℕ → Device → Ghost → Ledger → ℕ → Header → Type 0
NewHead g x v γ l z h = HeadJoins g x z (facts_of γ l z) (said g v γ z) h

-- and its parity logs (G: the general logs)
abbrev pub NewEntry : Geometry → ℕ → Device → Ghost → (ℕ → List Header) → Ledger → ℕ → ℕ → Entry → Type 0
NewEntry g x v γ G l z d p = EntryJoins g x z (facts_of γ l z) (said g v γ z) (λ e h. Memᴰ h (G e)) d p

-- nothing of zone z
pub other_head : (g : Geometry) (x : ℕ) (v : Device) (γ : Ghost) (l : Ledger) (z : ℕ) (h : Header) → zone_gen h (λ y n. y ≢ z) → NewHead g x v γ l z h
other_head g x v γ l z h o = record {
  sealing = λ c e. absurd (other_not_seal z (γ.generation z) c h o e);
  clearing = λ e. absurd (other_not_reset z (γ.generation z) h o e);
  current = zone_gen_map h (λ y n. y ≢ z) (λ y n. y ≡ z → (n ≤ γ.generation z) × (γ.generation z ≡ worn_generation → n < γ.generation z)) (λ y n p q. absurd (p q)) o;
}

module _ (g : Geometry) (x : ℕ) (v w : Device) (γ : Ghost) (G : ℕ → List Header) (P : ℕ → List Entry)
    (keep : (d : ℕ) → Here g x d → (h : Header) → Memᴰ h (take (v d general_zone).durable (γ.general d)) → Memᴰ h (take (w d general_zone).durable (G d))) where
  module _ (l : Ledger) (z : ℕ)
      (plasts : (d : ℕ) → Here g x d → (e : Entry) → Whole g d true e → Memᴰ e (cut_entries g d true (γ.parity d) (v d parity_zone).durable) → Memᴰ e (cut_entries g d true (P d) (w d parity_zone).durable)) where
    -- A LIVE ZONE STAYS LIVE
    pub live_more : Live g x v γ l z
        → ((d : ℕ) → Here g x d → (h : Header) → Memᴰ h (G d) → Memᴰ h (γ.general d) ⊎ NewHead g x v γ l z h)
        → ((d : ℕ) → Here g x d → (e : Entry) → Memᴰ e (P d) → Memᴰ e (γ.parity d) ⊎ NewEntry g x v γ G l z d e)
        → Counts g x w (with_logs γ G P) z (λ n. n ≡ γ.generation z)
        → ((d : ℕ) → Here g x d → Prefix (w d (data_zone z)).sectors (column g.drives g.unit z (γ.laid z) d))
        → ((d : ℕ) → Here g x d → needed g.drives g.unit z (l.committed z) d ≤ (w d (data_zone z)).durable)
        → Live g x w (with_logs γ G P) l z
    live_more h heads entries' counts' places' deep = live_moves g x x z (facts_of γ l z) (said g v γ z) (said g w (with_logs γ G P) z) (record {
      here = λ d a. a;
      heads = λ d a e m. always_of e z (Memᴰ e (γ.general d) ⊎ NewHead g x v γ l z e) (heads d a e m);
      caps = λ d a c m. inl (c, le_refl c, keep d a (seal z c (γ.generation z)) m);
      entries = λ d a e m. always_of e.head z (Was g d e (λ (p : Entry). Memᴰ p (γ.parity d)) ⊎ NewEntry g x v γ G l z d e) (was d e (entries' d a e m));
    }) (λ d. v d (data_zone z)) (λ d. w d (data_zone z)) h (record { places = deep; entry = λ i a. let (e, q, r, u) = h.strong.entry i a in (e, plasts (parity_drive_at g z (l.committed z)) a e r q, r, u) })
        counts' (λ d a. said_sure g w (with_logs γ G P) z d (γ.generation z) (counts' d a)) places'
      where
        was : (d : ℕ) (e : Entry) → Memᴰ e (γ.parity d) ⊎ NewEntry g x v γ G l z d e → Was g d e (λ (p : Entry). Memᴰ p (γ.parity d)) ⊎ NewEntry g x v γ G l z d e
        was d e (inl m) = inl (was_self g d e (λ (p : Entry). Memᴰ p (γ.parity d)) m)
        was d e (inr n) = inr n

  -- ---- a Dying zone, the parity logs being the same
  pub why_logged : (z : ℕ) → ((d : ℕ) → Here g x d → ((j : ℕ) → (v d general_zone).durable ≤ j → γ.generation z < generation_in z (take j (γ.general d))) → (j : ℕ) → (w d general_zone).durable ≤ j → γ.generation z < generation_in z (take j (G d)))
      → ((d : ℕ) → Here g x d → (d ≡ first_drive_of g z) ⊎ (d ≡ parity_drive_of g z 0) → Logged g v γ z d)
      → (d : ℕ) → Here g x d → (d ≡ first_drive_of g z) ⊎ (d ≡ parity_drive_of g z 0) → Logged g w (with_logs γ G P) z d
  why_logged z more h d a q = go (h d a q)
    where
      go : Logged g v γ z d → Logged g w (with_logs γ G P) z d
      go (reset_lasts m) = reset_lasts (keep d a (zone_reset z (γ.generation z)) m)
      go (counts_past c) = counts_past (more d a c)

  pub why_bare : (z : ℕ) → ((d : ℕ) → Here g x d → ((j : ℕ) → (v d general_zone).durable ≤ j → γ.generation z < generation_in z (take j (γ.general d))) → (j : ℕ) → (w d general_zone).durable ≤ j → γ.generation z < generation_in z (take j (G d)))
      → ((d : ℕ) → Here g x d → P d ≡ γ.parity d)
      → ((d : ℕ) → Here g x d → (p : Entry) → Memᴰ p (γ.parity d) → Whole g d true p → (f : ℕ) → p.head ≡ partial_parity z zero f (γ.generation z) → (g.unit < f) ⊎ Spent g x v γ z f)
      → (d : ℕ) → Here g x d → (p : Entry) → Memᴰ p (P d) → Whole g d true p → (f : ℕ) → p.head ≡ partial_parity z zero f (γ.generation z) → (g.unit < f) ⊎ Spent g x w (with_logs γ G P) z f
  why_bare z more e h d a p m q f r = go (h d a p (rw (e d a) at m) q f r)
    where
      go : (g.unit < f) ⊎ Spent g x v γ z f → (g.unit < f) ⊎ Spent g x w (with_logs γ G P) z f
      go (inl k) = inl k
      go (inr (c, k, l)) = inr (c, (λ d a. on d a (k d a)), l)
        where
          on : (d : ℕ) → Here g x d → SealSpent (said g v γ z) z (γ.generation z) c d → SealSpent (said g w (with_logs γ G P) z) z (γ.generation z) c d
          on d a (inl (b, o, i)) = inl (b, o, keep d a (seal z b (γ.generation z)) i)
          on d a (inr i) = inr (more d a i)
