-- A zone that a call leaves alone: the logs grow by entries that do not speak of it (or by its own reset, when that is under way), of its places
-- no more is there and no less lasts. What the invariant says of it stays true, with the new ghosts.
use Rattle.logs.specs.laws.LogLaws.{left_whole}
use Rattle.promise.proofs.invariant.HoldsLess.{tells_front}
use Rattle.logs.specs.laws.HeadLaws.{zone_gen_map}
use Rattle.std.specs.Prelude.{◌≡◌, refl, ◌≢◌, ◌⊎◌, Bool, true, false, ℕ, zero, ◌+◌, ◌*◌, ◌≤◌, ◌<◌, length, take}
use Rattle.std.proofs.Common.{sym, ap, ◌∙◌, subst, inl, inr, true≢false, le_refl, arith}
use mathlib.Core.List.{List, Memᴰ}
use Rattle.tables.specs.meaning.Device.{Device}
use Rattle.tables.specs.laws.Lists.{Prefix, prefix_trans}
use Rattle.tables.specs.declared.Geometry.{Geometry}
use Rattle.tables.specs.meaning.Geometry.{stripe_sectors, data_zone}
use Rattle.logs.specs.meaning.Entry.{general_zone, parity_zone, worn_generation, Header, partial_parity, seal, zone_reset, Entry}
use Rattle.logs.specs.laws.Walk.{Whole, Left, cut_entries}
use Rattle.logs.specs.meaning.Heads.{generation_in}
use Rattle.logs.specs.laws.Heads.{zone_gen}
use Rattle.volume.specs.meaning.Content.{at, parity_drive_at}
use Rattle.volume.specs.declared.Condition.{Condition}
use Rattle.volume.specs.declared.Condition.TheVariants.{Empty, Open, Sealed, Worn}
use Rattle.volume.specs.meaning.State.{StateView}
use Rattle.promise.specs.meaning.Ledger.{Ledger}
use Rattle.promise.proofs.invariant.Invariant.{Ghost, Here, LogsOk, Capped, TrueRows, Counts, Entries, Live, Plain, Shape, RestZone, said, facts_of, ZoneFacts, LiveZone, survives_still}
use Rattle.promise.proofs.invariant.SaidMoves.{HeadJoins, EntryJoins, Was, always_of, live_moves, live_flag, with_flag, said_sure}

-- a header that does not speak of zone z
abbrev pub Other : ℕ → Header → Type 0
Other z h = zone_gen h (λ y n. y ≢ z)

-- what may join the general log: of other zones; or the zone's own reset, with the flag up
pub data Joins (z generation : ℕ) (flag : Bool) (h : Header) : Type 0 where
  other : Other z h → Joins z generation flag h
  its_reset : h ≡ zone_reset z generation → flag ≡ true → generation < worn_generation → Joins z generation flag h

pub record Untouched (g : Geometry) (x : ℕ) (v w : Device) (γ δ : Ghost) (l m : Ledger) (z : ℕ) : Type 0 where
  pub generation_is : δ.generation z ≡ γ.generation z
  pub laid_is : δ.laid z ≡ γ.laid z
  pub content_is : m.content z ≡ l.content z
  pub committed_is : m.committed z ≡ l.committed z
  pub flag_stays : l.resetting z ≡ true → m.resetting z ≡ true
  pub general_new : (d : ℕ) → Here g x d → (h : Header) → Memᴰ h (δ.general d) → Memᴰ h (γ.general d) ⊎ Joins z (γ.generation z) (m.resetting z) h
  pub general_lasts_lem : (d : ℕ) → Here g x d → (h : Header) → Memᴰ h (take (v d general_zone).durable (γ.general d)) → Memᴰ h (take (w d general_zone).durable (δ.general d))
  pub general_cuts : (d : ℕ) → Here g x d → (j : ℕ) → (w d general_zone).durable ≤ j → (i : ℕ) × ((v d general_zone).durable ≤ i) × (generation_in z (take j (δ.general d)) ≡ generation_in z (take i (γ.general d)))
  pub parity_new : (d : ℕ) → Here g x d → (e : Entry) → Memᴰ e (δ.parity d) → Left g d true e (γ.parity d) ⊎ Other z e.head
  pub parity_lasts_lem : (d : ℕ) → Here g x d → (e : Entry) → Whole g d true e → Memᴰ e (cut_entries g d true (γ.parity d) (v d parity_zone).durable) → Memᴰ e (cut_entries g d true (δ.parity d) (w d parity_zone).durable)
  pub data_sub : (d : ℕ) → Here g x d → Prefix (w d (data_zone z)).sectors (v d (data_zone z)).sectors
  pub data_lasts : (d : ℕ) → Here g x d → (v d (data_zone z)).durable ≤ (w d (data_zone z)).durable

-- a header of zone z that is not new
seal_old : {A : Type 0} (z c n generation : ℕ) (flag : Bool) → A ⊎ Joins z generation flag (seal z c n) → A
seal_old z c n generation flag (inl a) = a
seal_old z c n generation flag (inr (other o)) = absurd (o refl)
seal_old z c n generation flag (inr (its_reset e q p)) = absurd (let k : ◌≡◌ {A = ℕ} 0 1 = cc in omega arith)

partial_old : {A : Type 0} (z s f n : ℕ) (h : Header) → h ≡ partial_parity z s f n → A ⊎ Other z h → A
partial_old z s f n h e (inl a) = a
partial_old z s f n h e (inr o) = let q : Other z (partial_parity z s f n) = subst (λ (u : Header). Other z u) e o in absurd (q refl)

pub other_any : (z : ℕ) (h : Header) (Q : ℕ → Type 0) → Other z h → zone_gen h (λ y n. y ≡ z → Q n)
other_any z h Q o = zone_gen_map h (λ y n. y ≢ z) (λ y n. y ≡ z → Q n) (λ y n p e. absurd (p e)) o

module _ (g : Geometry) (x : ℕ) (v w : Device) (γ δ : Ghost) (l m : Ledger) (z : ℕ) (lg : LogsOk g x v γ) (k : Untouched g x v w γ δ l m z) where
  pub untouched_capped : (c : ℕ) → Capped g x v γ z c → Capped g x w δ z c
  untouched_capped c h d a = let (b, q, m) = h d a in (b, q, rw k.generation_is (k.general_lasts_lem d a (seal z b (γ.generation z)) m))

  pub untouched_counts : (Q : ℕ → Type 0) → Counts g x v γ z Q → Counts g x w δ z Q
  untouched_counts Q h d a j r =
      let (i, p, e) = k.general_cuts d a j r in
      rw e (h d a i p)

  pub untouched_entries : (Q : ℕ → Type 0) → (m.resetting z ≡ true → γ.generation z < worn_generation → Q (γ.generation z)) → Entries g x γ z Q → Entries g x δ z Q
  untouched_entries Q new h = record {
    in_general_lem = λ d a f i. generation d a f (k.general_new d a f i);
    in_parity_lem = λ d a e i. par d a e (k.parity_new d a e i);
  }
    where
      generation : (d : ℕ) → Here g x d → (f : Header) → Memᴰ f (γ.general d) ⊎ Joins z (γ.generation z) (m.resetting z) f → zone_gen f (λ y n. y ≡ z → Q n)
      generation d a f (inl i) = h.in_general_lem d a f i
      generation d a f (inr (other o)) = other_any z f Q o
      generation d a f (inr (its_reset e q p)) = subst (λ (u : Header). zone_gen u (λ y n. y ≡ z → Q n)) (sym e) (λ r. new q p)

      par : (d : ℕ) → Here g x d → (e : Entry) → Left g d true e (γ.parity d) ⊎ Other z e.head → zone_gen e.head (λ y n. y ≡ z → Q n)
      par d a e (inl o) = rw o.heads (h.in_parity_lem d a o.of o.is_set)
      par d a e (inr o) = other_any z e.head Q o

  pub untouched_live : Live g x v γ l z → Live g x w δ m z
  untouched_live h =
      let f = with_flag (facts_of γ l z) (m.resetting z) in
      let s = said g v γ z in
      let r = said g w δ z in
      let counts' = untouched_counts (λ n. n ≡ γ.generation z) h.counts in
      let q : f ≡ facts_of δ m z = λ i. record { laid = sym k.laid_is i; generation = sym k.generation_is i; content = sym k.content_is i; committed = sym k.committed_is i; resetting = m.resetting z } in
      subst (λ (e : ZoneFacts). LiveZone g x z e r (λ d. w d (data_zone z))) q
      (live_moves g x x z f s r (record {
        here = λ d a. a;
        heads = λ d a e i. joined d e (k.general_new d a e i);
        caps = λ d a c i. inl (c, le_refl c, k.general_lasts_lem d a (seal z c (γ.generation z)) i);
        entries = λ d a e i. was d a e (k.parity_new d a e i);
      }) (λ d. v d (data_zone z)) (λ d. w d (data_zone z)) (live_flag g x z (facts_of γ l z) s (λ d. v d (data_zone z)) (m.resetting z) k.flag_stays h)
      (survives_still g x x z (γ.generation z) (l.committed z) (λ d a. a) k.data_lasts k.parity_lasts_lem h.strong)
      counts' (λ d a. said_sure g w δ z d (γ.generation z) (counts' d a)) (λ d a. prefix_trans (k.data_sub d a) (h.places d a)))
    where
      joined : (d : ℕ) (e : Header) → Memᴰ e (γ.general d) ⊎ Joins z (γ.generation z) (m.resetting z) e
          → zone_gen e (λ y n. y ≡ z → Memᴰ e (γ.general d) ⊎ HeadJoins g x z (with_flag (facts_of γ l z) (m.resetting z)) (said g v γ z) e)
      joined d e (inl i) = always_of e z (Memᴰ e (γ.general d) ⊎ HeadJoins g x z (with_flag (facts_of γ l z) (m.resetting z)) (said g v γ z) e) (inl i)
      joined d e (inr (other o)) = zone_gen_map e (λ y n. y ≢ z) (λ y n. y ≡ z → Memᴰ e (γ.general d) ⊎ HeadJoins g x z (with_flag (facts_of γ l z) (m.resetting z)) (said g v γ z) e) (λ y n p q. absurd (p q)) o
      joined d e (inr (its_reset q up low)) = rw q (λ _. inr (record {
        sealing = λ c t. absurd (let o : ◌≡◌ {A = ℕ} 0 1 = cc in omega arith);
        clearing = λ _. up;
        current = λ _. (le_refl (γ.generation z), λ t. absurd (omega (arith, low, t)));
      }))

      was : (d : ℕ) → Here g x d → (e : Entry) → Left g d true e (γ.parity d) ⊎ Other z e.head
          → zone_gen e.head (λ y n. y ≡ z → Was g d e (λ (p : Entry). Memᴰ p (γ.parity d)) ⊎ EntryJoins g x z (with_flag (facts_of γ l z) (m.resetting z)) (said g v γ z) (λ c h. Memᴰ h (δ.general c)) d e)
      was d a e (inl o) = always_of e.head z (Was g d e (λ (p : Entry). Memᴰ p (γ.parity d)) ⊎ EntryJoins g x z (with_flag (facts_of γ l z) (m.resetting z)) (said g v γ z) (λ c h. Memᴰ h (δ.general c)) d e)
          (inl (record { of = o.of; is_set = o.is_set; heads = o.heads; many = o.many; rows_are = o.rows_are; whole = left_whole g d true (γ.parity d) e o (lg.parity_lawful d a) }))
      was d a e (inr o) = zone_gen_map e.head (λ y n. y ≢ z) (λ y n. y ≡ z → Was g d e (λ (p : Entry). Memᴰ p (γ.parity d)) ⊎ EntryJoins g x z (with_flag (facts_of γ l z) (m.resetting z)) (said g v γ z) (λ c h. Memᴰ h (δ.general c)) d e) (λ y n p q. absurd (p q)) o

  -- between finished calls
  pub untouched_rest : (state su : StateView) → su.generation z ≡ state.generation z → su.condition z ≡ state.condition z → m.resetting z ≡ l.resetting z
      → ((d : ℕ) → Here g x d → (w d (data_zone z)).sectors ≡ (v d (data_zone z)).sectors)
      → ((d : ℕ) → Here g x d → (e : Entry) → Memᴰ e (γ.parity d) → Memᴰ e (δ.parity d))
      → RestZone g x v state l γ z → RestZone g x w su m δ z
  untouched_rest state su eg ec ef same all r = record {
    live = untouched_live r.live;
    generation_is = k.generation_is ∙ r.generation_is ∙ sym eg;
    pointer_is = rw (k.content_is, ec) r.pointer_is;
    strong_now = rw (k.generation_is, k.content_is) (record {
      places = λ d a. rw (same d a) (r.strong_now.places d a);
      entry = λ i a. let (e, q, s, t) = r.strong_now.entry i a in (e, all (parity_drive_at g z (length (l.content z))) a e q, s, t);
    });
    shape = rw ec (shaped (state.condition z) r.shape);
    sectors = rw ec r.sectors;
    no_flag = ef ∙ r.no_flag;
  }
    where
      plain : Plain g x v γ l z → Plain g x w δ m z
      plain p = record {
        all_content = k.laid_is ∙ p.all_content ∙ sym k.content_is;
        just = λ d a. rw (same d a, k.content_is) (p.just d a);
        no_seal = λ d a c i. p.no_seal d a c (seal_old z c (γ.generation z) (γ.generation z) (m.resetting z) (k.general_new d a (seal z c (γ.generation z)) (rw k.generation_is at i)));
        unworn = rw k.generation_is p.unworn;
      }

      shaped : (c : Condition) → Shape g x v γ l z c → Shape g x w δ m z c
      shaped Empty s = plain s
      shaped (Open n) s = plain s
      shaped (Sealed n) s = (rw k.content_is (untouched_capped (length (l.content z)) s.0), rw k.generation_is s.1, k.committed_is ∙ s.2 ∙ ap (λ (c : List (List ℕ)). length c) (sym k.content_is))
      shaped (Worn n) s = k.generation_is ∙ s
