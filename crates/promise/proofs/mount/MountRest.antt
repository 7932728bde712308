-- The end of a mount: the final look shows the pointers and values that the first one showed, raised generations apart, and all is at rest
-- with the state and the ledger made of it.
use Rattle.tables.specs.laws.Lists.{length_zero_nil, prefix_of_nil}
use Rattle.std.specs.Prelude.{◌≡◌, ◌≢◌, ◌⊎◌, Bool, false, not, take}
use Rattle.std.proofs.Math.Path.{refl, sym, ap}
use Rattle.std.proofs.Common.{ap₂, ◌∙◌, subst, inl, true≢false, not-suc-le-zero, arith, take_all}
use Rattle.std.proofs.Math.Logic.{inr}
use Rattle.std.proofs.Math.Bool.{true}
use Prim.Native.Nat.{ℕ, zero, suc, ◌+◌, ◌≤◌, ◌<◌, min}
use Rattle.std.proofs.Math.Nat.{le_of_eq}
use Rattle.std.proofs.Math.Decide.{ℕ_discrete}
use mathlib.Core.List.{List, [], ◌∷◌, Memᴰ}
use Rattle.std.proofs.Math.ListN.{length, length-take}
use Rattle.tables.specs.meaning.Device.{Device}
use Rattle.tables.specs.declared.Geometry.{Geometry}
use Rattle.tables.specs.meaning.Geometry.{Valid, data_zone}
use Rattle.logs.specs.meaning.Entry.{worn_generation, partial_parity, seal, zone_reset}
use Rattle.tables.specs.meaning.Drives.{present_but}
use Rattle.promise.specs.meaning.Ledger.{Ledger, after_mount}
use Rattle.volume.specs.meaning.Rules.{Shown, showing, zone_shown, zone_at, generation_of, pointer_at, value_at, reset_seen, seal_seen, clean_at, condition_of}
use Rattle.volume.specs.declared.Condition.{Condition}
use Rattle.volume.specs.declared.Condition.TheVariants.{Empty, Open, Sealed, Worn}
use Rattle.volume.specs.meaning.State.{pointer_in}
use Rattle.volume.specs.meaning.Mount.{mount_state, next_generation}
use Rattle.promise.proofs.invariant.Invariant.{Ghost, Here, LogsOk, Live, RestZone, Shape, HasSectors, SurvivesLoss}
use Rattle.promise.proofs.mount.MountFilled.{Kept, OpenNow, SealedNow, ZoneNow, kept_now, worn_now, gone_now, Filled, Ended, kept_next}
use Rattle.promise.proofs.invariant.Obligations.{Rests}
use borrow.Author.Tests.{eq-eqb, ne_eqb}
use Rattle.tables.specs.laws.Basics.{or_right}
use Rattle.tables.specs.laws.Below.{length_tabulate_from}
use Rattle.tables.specs.meaning.Below.{tabulate_from}
use Rattle.promise.proofs.look.LookRest.{no_seal_seen, cap_seen, clean_if}
use Rattle.volume.specs.meaning.Content.{at}
use Rattle.promise.proofs.content.Columns.{column}
use Rattle.promise.proofs.look.LookLive.{reset_seen_lem, live_generation, live_least, live_most, pointer_free, knows_value, strong_written}
use Rattle.promise.proofs.mount.MountZoneResets.{needed_none}
use Rattle.promise.proofs.mount.MountEnd.{one_ghost, one_ledger, live_here, live_there, laid_now, end_ghost, end_ledger, end_live, gone_laid}

-- a front of a list, read one by one
tab_take : (f : ℕ → List ℕ) (xs : List (List ℕ)) (n : ℕ) → n ≤ length xs → ((a : ℕ) → a < n → f a ≡ at xs a) → tabulate_from f zero n ≡ take n xs
tab_take f xs n h q = go f xs n h q zero (λ a. let e : zero + a ≡ a = omega arith in ap f e)
  where
    go : (f : ℕ → List ℕ) (xs : List (List ℕ)) (n : ℕ) → n ≤ length xs → {g : ℕ → List ℕ} → ((a : ℕ) → a < n → g a ≡ at xs a) → (i : ℕ) → ((a : ℕ) → f (i + a) ≡ g a) → tabulate_from f i n ≡ take n xs
    go f xs zero h q i r = refl
    go f [] (suc n) h q i r = absurd (not-suc-le-zero h)
    go f (y ∷ xs) (suc n) h {g = g} q i r =
        let e : i + zero ≡ i = omega arith in
        let b : f i ≡ y = ap f (sym e) ∙ r zero ∙ q zero (omega arith) in
        ap₂ (λ (a : List ℕ) (t : List (List ℕ)). a ∷ t) b (go f xs n (omega arith) {g = λ a. g (suc a)} (λ a h2. q (suc a) (omega arith)) (suc i) (λ a. let e2 : suc i + a ≡ i + suc a = omega arith in ap f e2 ∙ r (suc a)))

module _ (g : Geometry) (ok : Valid g) (x : ℕ) (u : Device) (δ : Ghost) (l : Ledger) (k : Shown) (fi : Filled g x u δ l k) (en : Ended g x δ k) where
  unfoldable pub γ' : Ghost
  γ' = end_ghost g ok x u δ l k fi en

  l' : Ledger
  l' = end_ledger g ok x u δ l k fi en

  abbrev shown_pointer : ℕ → ℕ
  shown_pointer z = (k.zone z).pointer

  abbrev K : Shown
  K = showing g (present_but g x) x u

  logs' : LogsOk g x u γ'
  unfolding γ'
  logs' = fi.logs

  module _ (z : ℕ) (hz : z < g.zones) where
    lv' : Live g x u γ' l' z
    unfolding γ' l'
    lv' = end_live g ok x u δ l k fi en z hz

    generation_shown : (K.zone z).generation ≡ γ'.generation z
    unfolding showing zone_shown zone_at
    generation_shown = live_generation g ok x u γ' logs' l' z lv'

    not_seen : reset_seen g (present_but g x) u z (γ'.generation z) ≡ false
    not_seen = go (reset_seen g (present_but g x) u z (γ'.generation z)) refl
      where
        none : (l'.resetting z ≡ true) ⊎ ((d : ℕ) → Here g x d → Memᴰ (zone_reset z (γ'.generation z)) (γ'.general d) → ⊥) → (d : ℕ) → Here g x d → Memᴰ (zone_reset z (γ'.generation z)) (γ'.general d) → ⊥
        none (inl q) = absurd (true≢false (sym q ∙ (unfold l' in refl)))
        none (inr q) = q

        go : (b : Bool) → reset_seen g (present_but g x) u z (γ'.generation z) ≡ b → b ≡ false
        go true e = absurd (let (d, a, m) = reset_seen_lem g ok x u γ' logs' z (γ'.generation z) e in none lv'.no_reset d a m)
        go false e = refl

    -- no pointer moved
    content_length : length (l'.content z) ≡ shown_pointer z
    unfolding l'
    content_length = (let h : shown_pointer z ≤ length (take (shown_pointer z) (laid_now (k.zone z).condition (δ.laid z))) = (unfold l' in lv'.committed_most) in let h2 : length (take (shown_pointer z) (laid_now (k.zone z).condition (δ.laid z))) ≤ shown_pointer z = rw length-take (omega arith) in omega (arith, h, h2))

    pointer_there : pointer_at g (present_but g x) u z (γ'.generation z) ≡ shown_pointer z
    pointer_there =
        let a = pointer_free g ok x u γ' logs' l' z lv' not_seen in
        let b = live_least g ok x u γ' logs' l' z lv' hz in
        let c = live_most g ok x u γ' logs' l' z lv' in
        let d : l'.committed z ≡ shown_pointer z = (unfold l' in refl) in
        omega (arith, a, b, c, content_length, d)

    pointer_shown : (K.zone z).pointer ≡ shown_pointer z
    unfolding showing zone_shown zone_at
    pointer_shown = ap (pointer_at g (present_but g x) u z) generation_shown ∙ pointer_there

    values : (a : ℕ) → a < shown_pointer z → (K.zone z).value a ≡ at (γ'.laid z) a
    unfolding showing zone_shown zone_at
    values a h =
        let p = pointer_free g ok x u γ' logs' l' z lv' not_seen in
        let e : value_at g (present_but g x) u z (generation_of g (present_but g x) u z) a ≡ value_at g (present_but g x) u z (γ'.generation z) a = ap (λ (m : ℕ). value_at g (present_but g x) u z m a) generation_shown in
        e ∙ (knows_value g ok x u γ' logs' l' z lv' a (omega (arith, h, p, pointer_there))).0

    -- what follows the content is laid out at least as far
    pointer_laid : shown_pointer z ≤ length (laid_now (k.zone z).condition (δ.laid z))
    unfolding l'
    pointer_laid =
        let laid = laid_now (k.zone z).condition (δ.laid z) in
        let h : length (take (shown_pointer z) laid) ≡ min (shown_pointer z) (length laid) = rw length-take refl in
        omega (arith, content_length, h)

    content_shown : (after_mount K).content z ≡ l'.content z
    unfolding γ' l'
    content_shown =
        ap (tabulate_from (K.zone z).value zero) pointer_shown
        ∙ tab_take (K.zone z).value (laid_now (k.zone z).condition (δ.laid z)) (shown_pointer z) pointer_laid values

    live_end : Live g x u γ' (after_mount K) z
    live_end = live_here g x u γ' (after_mount K) z (
        subst (λ (c : List (List ℕ)). Live g x u (one_ghost (γ'.laid z) (γ'.generation z) γ'.general γ'.parity γ'.array) (one_ledger c (K.zone z).pointer false) z) (sym content_shown)
        (subst (λ (m : ℕ). Live g x u (one_ghost (γ'.laid z) (γ'.generation z) γ'.general γ'.parity γ'.array) (one_ledger (l'.content z) m false) z) (sym pointer_shown) local))
      where
        local : Live g x u (one_ghost (γ'.laid z) (γ'.generation z) γ'.general γ'.parity γ'.array) (one_ledger (l'.content z) (shown_pointer z) false) z
        local = unfold l' in live_there g x u γ' l' z lv'

    content_long : length ((after_mount K).content z) ≡ shown_pointer z
    content_long = ap length content_shown ∙ content_length

    -- ---- the condition shown
    condition_is : (K.zone z).condition ≡ condition_of (γ'.generation z) (shown_pointer z) (clean_at g (present_but g x) u z (γ'.generation z) (shown_pointer z)) (seal_seen g (present_but g x) u z (γ'.generation z))
    unfolding showing zone_shown zone_at
    condition_is =
        let e : generation_of g (present_but g x) u z ≡ γ'.generation z = generation_shown in
        ap (λ (m : ℕ). condition_of m (pointer_at g (present_but g x) u z m) (clean_at g (present_but g x) u z m (pointer_at g (present_but g x) u z m)) (seal_seen g (present_but g x) u z m)) e
        ∙ ap (λ (q : ℕ). condition_of (γ'.generation z) q (clean_at g (present_but g x) u z (γ'.generation z) q) (seal_seen g (present_but g x) u z (γ'.generation z))) pointer_there

    pub data Ends : Type 0 where
      plain : (c : Condition) → (K.zone z).condition ≡ c → pointer_in c ≡ shown_pointer z → (Shape g x u γ' (after_mount K) z c) → HasSectors c → Ends

    -- an open zone is clean
    is_clean : OpenNow g x u δ k z → Kept g x u δ l k z → clean_at g (present_but g x) u z (γ'.generation z) (shown_pointer z) ≡ true
    unfolding γ'
    is_clean c q = clean_if g ok x u δ fi.logs z (next_generation k z) (shown_pointer z) (λ d a. le_of_eq (c.just d a)) fi.whole
        (λ d a e m i f r. c.ends_in d a e m i f (r ∙ ap (partial_parity z i f) (kept_next g x u δ l k z (inl q))))

    opened_ends : Kept g x u δ l k z → OpenNow g x u δ k z → Ends
    unfolding γ'
    opened_ends q c =
        let N : next_generation k z ≡ δ.generation z = kept_next g x u δ l k z (inl q) in
        let no_seal : (d : ℕ) → Here g x d → (c : ℕ) → Memᴰ (seal z c (next_generation k z)) (δ.general d) → ⊥ = λ d a c2 m. c.no_seal d a c2 (rw N at m) in
        let i1 = is_clean c q in
        let i2 = no_seal_seen g ok x u δ fi.logs z (next_generation k z) no_seal in
        plain (Open (shown_pointer z)) (condition_is ∙ rw (i1, i2, ne_eqb (next_generation k z) worn_generation (λ r. omega (arith, q.unworn, N, r)), ne_eqb (shown_pointer z) 0 (λ r. omega (arith, q.some, r))) refl) refl (record {
          all_content = laid_is ∙ sym content_shown;
          just = λ d a. rw content_long (c.just d a);
          no_seal = no_seal;
          unworn = omega (arith, q.unworn, N);
        }) q.some
      where
        laid_is : laid_now (k.zone z).condition (δ.laid z) ≡ l'.content z
        laid_is = unfold l' in rw c.condition_is (sym (take_all (shown_pointer z) (take (shown_pointer z) (δ.laid z)) (rw length-take (omega arith))))

    sealed_ends : Kept g x u δ l k z → SealedNow g x u δ k z → Ends
    unfolding γ'
    sealed_ends q c =
        let N : next_generation k z ≡ δ.generation z = kept_next g x u δ l k z (inl q) in
        let i2 : seal_seen g (present_but g x) u z (next_generation k z) ≡ true = rw N (cap_seen g ok x u δ fi.logs z (shown_pointer z) c.cap) in
        plain (Sealed (shown_pointer z)) (condition_is ∙ rw (i2, or_right (not (clean_at g (present_but g x) u z (next_generation k z) (shown_pointer z))) true refl, ne_eqb (next_generation k z) worn_generation (λ r. omega (arith, q.unworn, N, r)), ne_eqb (shown_pointer z) 0 (λ r. omega (arith, q.some, r))) refl) refl
        ((λ d a. rw (content_long, N) (c.cap d a)), omega (arith, q.unworn, N), sym (length_tabulate_from (K.zone z).value zero (K.zone z).pointer)) q.some

    -- a zone without content
    none_ends : shown_pointer z ≡ zero → γ'.laid z ≡ [] → (γ'.generation z ≢ worn_generation → (d : ℕ) → Here g x d → (c : ℕ) → Memᴰ (seal z c (γ'.generation z)) (γ'.general d) → ⊥) → Ends
    none_ends p e ns = go (ℕ_discrete (γ'.generation z) worn_generation)
      where
        col : (d : ℕ) → column g.drives g.unit z [] d ≡ []
        col d = unfold column in rw (needed_none g ok z d) refl

        nd : (d : ℕ) → Here g x d → (u d (data_zone z)).sectors ≡ []
        nd d a = prefix_of_nil (u d (data_zone z)).sectors (column g.drives g.unit z (γ'.laid z) d) (lv'.places d a) (ap (λ (E : List (List ℕ)). column g.drives g.unit z E d) e ∙ col d)

        go : Dec (γ'.generation z ≡ worn_generation) → Ends
        go (yes m) = plain (Worn (shown_pointer z)) (condition_is ∙ rw (eq-eqb (γ'.generation z) worn_generation m) refl) refl m tt
        go (no m) = plain Empty (condition_is ∙ rw (ne_eqb (γ'.generation z) worn_generation m, p) refl) (sym p) (record {
          all_content = e ∙ sym (length_zero_nil ((after_mount K).content z) (content_long ∙ p));
          just = λ d a. rw (nd d a, content_long, p, needed_none g ok z d) refl;
          no_seal = ns m;
          unworn = (let v = lv'.generation_top in omega (arith, v, m));
        }) tt

    ends_of : ZoneNow g x u δ l k z → Ends
    unfolding γ'
    ends_of (kept_now q) = how q.how
      where
        how : OpenNow g x u δ k z ⊎ SealedNow g x u δ k z → Ends
        how (inl c) = opened_ends q c
        how (inr c) = sealed_ends q c
    ends_of (worn_now q) = none_ends q.none (rw q.condition_is refl) (λ m. absurd (m (kept_next g x u δ l k z (inr q) ∙ q.most)))
    ends_of (gone_now q) = none_ends q.none (gone_laid g x u δ l k z q) (λ m d a c n. let b = q.dying.entries.in_general_lem d a (seal z c (next_generation k z)) n refl in omega (arith, b, q.next.0))

    rest_zone : RestZone g x u (mount_state K) (after_mount K) γ' z
    rest_zone = go (ends_of (fi.zones z hz))
      where
        strong : SurvivesLoss g x z (γ'.generation z) (shown_pointer z) (λ d. length (u d (data_zone z)).sectors) γ'.parity
        strong = unfold l' in strong_written g ok x u γ' logs' l' z lv' (γ'.generation z) (shown_pointer z) hz lv'.strong

        go : Ends → RestZone g x u (mount_state K) (after_mount K) γ' z
        go (plain c e p h b) = record {
          live = live_end;
          generation_is = sym generation_shown;
          pointer_is = content_long ∙ sym p ∙ ap pointer_in (sym e);
          strong_now = subst (λ (m : ℕ). SurvivesLoss g x z (γ'.generation z) m (λ d. length (u d (data_zone z)).sectors) γ'.parity) (sym content_long) strong;
          shape = subst (λ (b : Condition). Shape g x u γ' (after_mount K) z b) (sym e) h;
          sectors = subst HasSectors (sym e) b;
          no_flag = refl;
        }

-- ALL IS AT REST, with the state and the ledger of what is shown
pub end_rests : (g : Geometry) → Valid g → (x : ℕ) (u : Device) (δ : Ghost) (l : Ledger) (k : Shown) → Filled g x u δ l k → Ended g x δ k
    → Rests δ.closed g x u (mount_state (showing g (present_but g x) x u)) (after_mount (showing g (present_but g x) x u))
end_rests g ok x u δ l k f en = (
  γ' g ok x u δ l k f en,
  record {
    logs = logs' g ok x u δ l k f en;
    zones = rest_zone g ok x u δ l k f en;
    whole = unfold γ' in f.whole;
    lost_is = inr (unfold showing in refl);
  },
  unfold γ' in refl,
)
