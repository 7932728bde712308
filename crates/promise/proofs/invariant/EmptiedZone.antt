-- A zone that was made empty: no data on any present drive, no entry of its new generation, and counters that give just that. It is Live
-- with an empty content, and at rest, empty or worn. A format and a finished reset leave such zones.
use Rattle.std.specs.Prelude.{◌≡◌, refl, ◌⊎◌, false, ℕ, zero, ◌+◌, ◌*◌, ◌≤◌, ◌<◌, length}
use Rattle.std.proofs.Common.{sym, ◌∙◌, subst, inl, inr, zero-le, not-suc-le-zero, arith, ltb-true}
use mathlib.Core.List.{List, [], Memᴰ}
use Rattle.tables.specs.meaning.Device.{Device}
use Rattle.tables.specs.laws.Lists.{prefix_nil}
use Rattle.tables.specs.declared.Geometry.{Geometry}
use Rattle.tables.specs.meaning.Geometry.{Valid, stripe_sectors, data_zone}
use Rattle.logs.specs.meaning.Entry.{worn_generation, Header, partial_parity, seal, zone_reset, Entry}
use Rattle.tables.specs.meaning.Placement.{needed, stripe_of}
use Rattle.tables.specs.laws.Placement.{needed_zero}
use Rattle.logs.specs.laws.Heads.{zone_gen}
use Rattle.promise.proofs.content.Columns.{column}
use Rattle.volume.specs.declared.Condition.TheVariants.{Empty, Worn}
use Rattle.volume.specs.meaning.State.{pointer_in, StateView}
use Rattle.promise.specs.meaning.Ledger.{Ledger}
use Rattle.promise.proofs.invariant.Invariant.{Ghost, Here, Counts, Entries, SurvivesLoss, durable_entries, Live, Shape, HasSectors, RestZone}
use Rattle.logs.specs.laws.HeadLaws.{zone_gen_map}

pub record MadeEmpty (g : Geometry) (x : ℕ) (w : Device) (δ : Ghost) (m : Ledger) (z : ℕ) : Type 0 where
  pub laid_nil : δ.laid z ≡ []
  pub content_nil : m.content z ≡ []
  pub committed_nil : m.committed z ≡ zero
  pub most : δ.generation z ≤ worn_generation
  pub data_nil : (d : ℕ) → Here g x d → (w d (data_zone z)).sectors ≡ []
  pub counts : Counts g x w δ z (λ n. n ≡ δ.generation z)
  pub before : Entries g x δ z (λ n. n < δ.generation z)

module _ (g : Geometry) (ok : Valid g) (x : ℕ) (w : Device) (δ : Ghost) (m : Ledger) (z : ℕ) (b : MadeEmpty g x w δ m z) where
  no_seal : (d : ℕ) → Here g x d → (c : ℕ) → Memᴰ (seal z c (δ.generation z)) (δ.general d) → ⊥
  no_seal d a c i = let k : δ.generation z < δ.generation z = b.before.in_general_lem d a (seal z c (δ.generation z)) i refl in omega arith

  no_reset : (d : ℕ) → Here g x d → Memᴰ (zone_reset z (δ.generation z)) (δ.general d) → ⊥
  no_reset d a i = let k : δ.generation z < δ.generation z = b.before.in_general_lem d a (zone_reset z (δ.generation z)) i refl in omega arith

  no_partial : (d : ℕ) → Here g x d → (e : Entry) → Memᴰ e (δ.parity d) → (s f : ℕ) → e.head ≡ partial_parity z s f (δ.generation z) → ⊥
  no_partial d a e i s f q = let k : δ.generation z < δ.generation z = subst (λ (h : Header). zone_gen h (λ y n. y ≡ z → n < δ.generation z)) q (b.before.in_parity_lem d a e i) refl in omega arith

  needs_none : (d : ℕ) → needed g.drives g.unit z zero d ≡ zero
  needs_none d = needed_zero g.drives g.unit z (omega (arith, ok.drives_least)) ok.unit_least d

  strong_none : (generation : ℕ) (len : ℕ → ℕ) (par : ℕ → List Entry) → SurvivesLoss g x z generation zero len par
  strong_none generation len par = record {
    places = λ d a. rw (needs_none d) zero-le;
    entry = λ i a. absurd (not-suc-le-zero (ltb-true (stripe_of g.drives g.unit zero * stripe_sectors g) zero i));
  }

  pub made_empty_live : Live g x w δ m z
  made_empty_live = record {
    sizes = rw b.laid_nil (λ a h. absurd (not-suc-le-zero h));
    fits = rw b.laid_nil zero-le;
    generation_top = b.most;
    committed_most = rw b.committed_nil zero-le;
    front = rw b.content_nil (prefix_nil (δ.laid z));
    capped = inl (rw (b.content_nil, b.laid_nil) refl);
    places = λ d a. rw (b.data_nil d a) (prefix_nil (column g.drives g.unit z (δ.laid z) d));
    tells = λ d a e i s f q. absurd (no_partial d a e i s f q);
    seals = λ d a c i. absurd (no_seal d a c i);
    alone = λ d e a h c i p n q f s t. absurd (no_seal d a c i);
    strong = rw b.committed_nil (strong_none (δ.generation z) (λ d. (w d (data_zone z)).durable) (durable_entries g w δ));
    counts = b.counts;
    no_reset = inr no_reset;
    entries = record {
      in_general_lem = λ d a h i. zone_gen_map h (λ y n. y ≡ z → n < δ.generation z) (λ y n. y ≡ z → n ≤ δ.generation z) (λ y n p q. let k = p q in omega arith) (b.before.in_general_lem d a h i);
      in_parity_lem = λ d a e i. zone_gen_map e.head (λ y n. y ≡ z → n < δ.generation z) (λ y n. y ≡ z → n ≤ δ.generation z) (λ y n p q. let k = p q in omega arith) (b.before.in_parity_lem d a e i);
    };
    worn_empty = λ q. (b.laid_nil, b.before);
  }

  pub made_empty_rest : (state : StateView) → δ.generation z ≡ state.generation z → ((state.condition z ≡ Empty) × (δ.generation z < worn_generation)) ⊎ ((state.condition z ≡ Worn zero) × (δ.generation z ≡ worn_generation)) → m.resetting z ≡ false → RestZone g x w state m δ z
  made_empty_rest state eg c f = record {
    live = made_empty_live;
    generation_is = eg;
    pointer_is = point c;
    strong_now = rw b.content_nil (strong_none (δ.generation z) (λ d. length (w d (data_zone z)).sectors) δ.parity);
    shape = shaped c;
    sectors = none c;
    no_flag = f;
  }
    where
      point : ((state.condition z ≡ Empty) × (δ.generation z < worn_generation)) ⊎ ((state.condition z ≡ Worn zero) × (δ.generation z ≡ worn_generation)) → length (m.content z) ≡ pointer_in (state.condition z)
      point (inl q) = rw (b.content_nil, q.0) refl
      point (inr q) = rw (b.content_nil, q.0) refl

      shaped : ((state.condition z ≡ Empty) × (δ.generation z < worn_generation)) ⊎ ((state.condition z ≡ Worn zero) × (δ.generation z ≡ worn_generation)) → Shape g x w δ m z (state.condition z)
      shaped (inl q) = rw q.0 (record {
        all_content = b.laid_nil ∙ sym b.content_nil;
        just = λ d a. rw (b.data_nil d a, b.content_nil) (sym (needs_none d));
        no_seal = no_seal;
        unworn = q.1;
      })
      shaped (inr q) = rw q.0 q.1

      none : ((state.condition z ≡ Empty) × (δ.generation z < worn_generation)) ⊎ ((state.condition z ≡ Worn zero) × (δ.generation z ≡ worn_generation)) → HasSectors (state.condition z)
      none (inl q) = rw q.0 tt
      none (inr q) = rw q.0 tt
