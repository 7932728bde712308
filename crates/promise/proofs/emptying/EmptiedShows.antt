-- Reading 15, for a general log: by its copy a look shows the same pointers and the same sectors as by the old log, whichever drives are named: those
-- present, or those but one.
use Rattle.std.specs.Prelude.{◌≡◌, refl, ◌≢◌, ◌⊎◌, Bool, false, ℕ, zero, ◌≤◌, ◌<◌}
use Rattle.std.proofs.Common.{sym, ◌∙◌, inl, inr, le_trans, not-suc-le-zero, arith, eq-eqb, ne_eqb}
use Rattle.std.proofs.Math.Path.{ap}
use Rattle.std.proofs.Math.Bool.{true}
use Rattle.std.proofs.Math.Decide.{ℕ_discrete}
use mathlib.Core.List.{List, [], ◌∷◌, Memᴰ}
use Rattle.tables.specs.meaning.Lists.{any_of}
use Rattle.tables.specs.laws.Lists.{any_of_some, some_any_of, mem_left, mem_append, mem_nil}
use Rattle.tables.specs.meaning.Device.{Device}
use Rattle.tables.specs.meaning.Drives.{present_but}
use Rattle.tables.specs.declared.Geometry.{Geometry}
use Rattle.tables.specs.meaning.Geometry.{Valid, data_zone}
use Rattle.logs.specs.meaning.Entry.{parity_zone, Header, counters, zone_reset, seal, closing}
use Rattle.logs.specs.meaning.Walk.{walk_log}
use Rattle.logs.specs.meaning.Heads.{is_reset, least_seal}
use Rattle.logs.specs.laws.HeadLaws.{reset_is, least_seal_most, least_seal_below, least_seal_least}
use Rattle.logs.specs.meaning.Copies.{copied_general}
use Rattle.logs.specs.laws.Copies.{Copied, kept, counted, copied_seal, copied_reset}
use Rattle.volume.specs.meaning.Calls.{generations_from}
use Rattle.volume.specs.meaning.Rules.{general_heads, parity_entries, generation_of, pointer_at}
use Rattle.promise.specs.meaning.Ledger.{Ledger}
use Rattle.promise.proofs.invariant.Invariant.{Ghost, Here, LogsOk, Live, Dying}
use Rattle.promise.proofs.invariant.HoldsLess.{less_live, less_dying, with_logs}
use Rattle.promise.proofs.invariant.CrashKeeps.{lose_logs, lose_less}
use Rattle.promise.proofs.look.LookReads.{general_heads_lem}
use Rattle.promise.proofs.look.LookLive.{live_generation, counts_now}
use Rattle.promise.proofs.look.LookDying.{dying_pointer}
use Rattle.promise.proofs.emptying.AskedSame.{NamedBut, named_here, ShowsSame, AskedSame, asked_pointer, asked_value}
use Rattle.promise.proofs.emptying.RestShows.{none_lost_lem}
use Rattle.promise.proofs.emptying.EmptiedGeneral.{general_log, EmptiedTo, emptied_ghost, Copyable, copy_of, emptied_logs, emptied_live, emptied_dying}

-- ---- by the drives named: the generation of a live zone, and the pointer of a dying one
module _ (g : Geometry) (ok : Valid g) (x y : ℕ) (by : NamedBut g x y) (v : Device) (γ : Ghost) (lg : LogsOk g x v γ) (l : Ledger) (z : ℕ) (hz : z < g.zones) where
  pub named_generation : Live g x v γ l z → generation_of g (present_but g y) v z ≡ γ.generation z
  named_generation h = go by
    where
      go : NamedBut g x y → generation_of g (present_but g y) v z ≡ γ.generation z
      go (inl e) = rw e (live_generation g ok x v γ lg l z h)
      go (inr (e, k)) =
          let lo = none_lost_lem y v in
          live_generation g ok y v (with_logs γ γ.general γ.parity) (lose_logs g ok x y k (inl e) v v lo γ lg) l z (less_live g x y v v γ γ.general γ.parity lg (lose_less g ok x y k (inl e) v v lo γ) l z hz h)

  pub named_dying : Dying g x v γ l z → pointer_at g (present_but g y) v z (generation_of g (present_but g y) v z) ≡ zero
  named_dying h = go by
    where
      go : NamedBut g x y → pointer_at g (present_but g y) v z (generation_of g (present_but g y) v z) ≡ zero
      go (inl e) = rw e (dying_pointer g ok x v γ lg l z h)
      go (inr (e, k)) =
          let lo = none_lost_lem y v in
          dying_pointer g ok y v (with_logs γ γ.general γ.parity) (lose_logs g ok x y k (inl e) v v lo γ lg) l z (less_dying g x y v v γ γ.general γ.parity lg (lose_less g ok x y k (inl e) v v lo γ) l z hz h)

module _ (g : Geometry) (ok : Valid g) (x d : ℕ) (v w : Device) (γ : Ghost) (lg : LogsOk g x v γ) (gens : ℕ → ℕ) (n : ℕ) (cp : Copyable g x d γ gens n) (em : EmptiedTo g x d v w (general_log g gens (γ.general d) n)) where
  abbrev front : List Header
  front = copied_general g gens (generations_from gens zero g.zones) (γ.general d)

  abbrev copy : List Header
  copy = general_log g gens (γ.general d) n

  abbrev δ : Ghost
  δ = emptied_ghost γ d copy n

  pub new_logs_lem : LogsOk g x w δ
  new_logs_lem = emptied_logs g ok x d v w γ lg gens n cp em

  -- but for counters and the closing entry the copy holds only what the log held
  pub from_copy : (h : Header) → ((bs : List ℕ) → h ≢ counters bs) → ((k m : ℕ) → h ≢ closing k m) → Memᴰ h copy → Memᴰ h (γ.general d)
  from_copy h a b m = go (mem_append front (closing 0 n ∷ []) h m)
    where
      of : Copied g gens (generations_from gens zero g.zones) (γ.general d) h → Memᴰ h (γ.general d)
      of (kept k c) = k
      of (counted e) = absurd (a (generations_from gens zero g.zones) e)

      last : Memᴰ h (closing 0 n ∷ []) → Memᴰ h (γ.general d)
      last (mathlib.Core.List.Memᴰ.head e) = absurd (b 0 n e)
      last (mathlib.Core.List.Memᴰ.tail k) = mem_nil h k

      go : Memᴰ h front ⊎ Memᴰ h (closing 0 n ∷ []) → Memᴰ h (γ.general d)
      go (inl k) = of (copy_of g ok x d cp.present v γ lg gens h k)
      go (inr k) = last k

  pub seal_from_copy : (z c i : ℕ) → Memᴰ (seal z c i) copy → Memᴰ (seal z c i) (γ.general d)
  seal_from_copy z c i = from_copy (seal z c i) (λ bs e. let o : ◌≡◌ {A = ℕ} 0 1 = cc in omega arith) (λ k j e. let o : ◌≡◌ {A = ℕ} 0 1 = cc in omega arith)

  -- and each least current seal, and current reset
  pub seal_to_copy : (z c : ℕ) → z < g.zones → Memᴰ (seal z c (gens z)) (γ.general d) → (b : ℕ) × (b ≤ c) × Memᴰ (seal z b (gens z)) copy
  seal_to_copy z c hz m = let (b, p, o) = copied_seal g gens (generations_from gens zero g.zones) (γ.general d) z c hz m in (b, p, mem_left front (closing 0 n ∷ []) (seal z b (gens z)) o)

  reset_to_copy : (z : ℕ) → z < g.zones → Memᴰ (zone_reset z (gens z)) (γ.general d) → Memᴰ (zone_reset z (gens z)) copy
  reset_to_copy z hz m = mem_left front (closing 0 n ∷ []) (zone_reset z (gens z)) (copied_reset g gens (generations_from gens zero g.zones) (γ.general d) z hz m)

  copy_seals : (z q : ℕ) → z < g.zones → least_seal z (gens z) q (γ.general d) ≡ least_seal z (gens z) q copy
  copy_seals z q hz =
      let a : least_seal z (gens z) q (γ.general d) ≤ least_seal z (gens z) q copy = least_seal_least z (gens z) q (least_seal z (gens z) q (γ.general d)) copy (least_seal_most z (gens z) q (γ.general d))
      (λ c m. least_seal_below z (gens z) q (γ.general d) c (seal_from_copy z c (gens z) m)) in
      let b : least_seal z (gens z) q copy ≤ least_seal z (gens z) q (γ.general d) = least_seal_least z (gens z) q (least_seal z (gens z) q copy) (γ.general d) (least_seal_most z (gens z) q copy)
      (λ c m. let (e, p, o) = seal_to_copy z c hz m in le_trans (least_seal_below z (gens z) q copy e o) p) in
      omega (arith, a, b)

  copy_resets : (z : ℕ) → z < g.zones → any_of (is_reset z (gens z)) (γ.general d) ≡ any_of (is_reset z (gens z)) copy
  copy_resets z hz = go (any_of (is_reset z (gens z)) (γ.general d)) refl (any_of (is_reset z (gens z)) copy) refl
    where
      is : is_reset z (gens z) (zone_reset z (gens z)) ≡ true
      is = rw (eq-eqb z z refl, eq-eqb (gens z) (gens z) refl) refl

      go : (a : Bool) → any_of (is_reset z (gens z)) (γ.general d) ≡ a → (b : Bool) → any_of (is_reset z (gens z)) copy ≡ b → a ≡ b
      go true p true q = refl
      go false p false q = refl
      go true p false q =
          let (h, m, i) = any_of_some (is_reset z (gens z)) (γ.general d) p in
          let k : Memᴰ (zone_reset z (gens z)) (γ.general d) = rw (reset_is z (gens z) h i) at m in
          sym (some_any_of (is_reset z (gens z)) copy (zone_reset z (gens z)) (reset_to_copy z hz k) is) ∙ q
      go false p true q =
          let (h, m, i) = any_of_some (is_reset z (gens z)) copy q in
          let k : Memᴰ (zone_reset z (gens z)) copy = rw (reset_is z (gens z) h i) at m in
          let o = from_copy (zone_reset z (gens z)) (λ bs e. let o : ◌≡◌ {A = ℕ} 0 1 = cc in omega arith) (λ k i e. let o : ◌≡◌ {A = ℕ} 0 1 = cc in omega arith) k in
          sym p ∙ some_any_of (is_reset z (gens z)) (γ.general d) (zone_reset z (gens z)) o is

  -- what the old log and the copy answer alike, all drives' logs do
  pub by_logs : {A : Type 0} (f : List Header → A) → f (γ.general d) ≡ f copy → (e : ℕ) → Here g x e → f (general_heads g v e) ≡ f (general_heads g w e)
  by_logs f q e a = rw (general_heads_lem g ok x v γ lg e a, general_heads_lem g ok x w δ new_logs_lem e a) (go (ℕ_discrete e d))
    where
      go : Dec (e ≡ d) → f (γ.general e) ≡ f (δ.general e)
      go (yes r) = rw (eq-eqb e d r, r) q
      go (no r) = rw (ne_eqb e d r) refl

  -- so they answer alike of a zone whose generation is in force
  pub answers : (y : ℕ) → NamedBut g x y → (z : ℕ) → z < g.zones → AskedSame g (present_but g y) v w z (gens z)
  unfolding parity_entries
  answers y by z hz = record {
    resets = λ e a. by_logs (any_of (is_reset z (gens z))) (copy_resets z hz) e (named_here g ok x y by e a);
    seals = λ e a q. by_logs (least_seal z (gens z) q) (copy_seals z q hz) e (named_here g ok x y by e a);
    entries = λ e a. ap (λ (ss : List (List ℕ)). (walk_log g e true ss).entries) (ap (λ u. u.sectors) (sym (em.others e parity_zone (named_here g ok x y by e a) (inr (λ t. omega arith)) (λ t. omega (arith, t)))));
    sectors = λ e a. ap (λ u. u.sectors) (sym (em.others e (data_zone z) (named_here g ok x y by e a) (inr (λ t. omega (arith, t))) (λ t. omega (arith, t))));
  }

  -- THE LOOK IS THE SAME
  pub emptied_shows : (l : Ledger) → ((z : ℕ) → z < g.zones → Live g x v γ l z ⊎ Dying g x v γ l z) → (y : ℕ) → NamedBut g x y → (z : ℕ) → z < g.zones → ShowsSame g (present_but g y) v w z
  emptied_shows l zs y by z hz = go (zs z hz)
    where
      go : Live g x v γ l z ⊎ Dying g x v γ l z → ShowsSame g (present_but g y) v w z
      go (inl h) =
          let a = named_generation g ok x y by v γ lg l z hz h in
          let b = named_generation g ok x y by w δ new_logs_lem l z hz (emptied_live g ok x d v w γ lg gens n cp em l z hz h) in
          let (e, i, q) = cp.force.some z hz in
          let c : gens z ≡ γ.generation z = q ∙ counts_now g ok x v γ lg z (λ m. m ≡ γ.generation z) h.counts e i in
          let s = answers y by z hz in
          record {
            pointer = rw (a, b, ← c) (sym (asked_pointer g (present_but g y) v w z (gens z) s));
            values = λ p t. rw (a, b, ← c) (sym (asked_value g (present_but g y) v w z (gens z) s p));
          }
      go (inr h) =
          let a = named_dying g ok x y by v γ lg l z hz h in
          let b = named_dying g ok x y by w δ new_logs_lem l z hz (emptied_dying g ok x d v w γ lg gens n cp em l z hz h) in
          record { pointer = rw (a, b) refl; values = λ p t. absurd (not-suc-le-zero (rw a at t)) }
