-- Between finished calls: the state is within its bounds, no zone is stale, every sector of a content is known, and it is held where its
-- drive is not lost. So the refusals 1, 4, 7 and 15 cannot meet a read or peek below the pointer. And the drives of a format.
use Rattle.tables.specs.laws.Drives.{find_below_is, find_below_cong}
use Rattle.tables.specs.meaning.Drives.{no_drive, find_below, present_but}
use Rattle.tables.specs.laws.Below.{two_count_below, none_any_below, all_all_below, count_below_cong}
use Rattle.tables.specs.meaning.Below.{any_below, count_below, all_below}
use Rattle.std.specs.Prelude.{◌≡◌, ◌≢◌, ◌⊎◌, Bool, ◌&&◌, ◌||◌, [], get_or}
use Rattle.std.proofs.Math.Path.{refl, ap, fun_ext}
use Rattle.std.proofs.Common.{sym, ◌∙◌, subst, inl, inr, true≢false, arith}
use Rattle.std.proofs.Math.Bool.{true, false, not}
use Prim.Native.Nat.{ℕ, ◌+◌, ◌-◌, ◌*◌, ◌≤◌, ◌<◌}
use Rattle.std.proofs.Math.Decide.{ℕ_discrete}
use Rattle.std.proofs.Math.ListN.{length}
use Rattle.std.proofs.Math.Dec.{ltb, leb, eqb}
use borrow.Author.Tests.{lt-ltb, le-ltb, ltb-true, ltb-false, eq-eqb, ne_eqb, le-leb}
use Rattle.tables.specs.meaning.Device.{Device}
use Rattle.tables.specs.laws.Basics.{and_split, and_join, or_left, or_right, not_true, not_not}
use Rattle.tables.specs.laws.Lists.{prefix_length}
use Rattle.tables.specs.meaning.Placement.{needed, stripe_of, drive_of, sector_of}
use Rattle.tables.specs.laws.Placement.{needed_iff, stripe_below}
use Rattle.tables.specs.declared.Geometry.{Geometry}
use Rattle.tables.specs.meaning.Geometry.{Valid, stripe_sectors, zone_sectors, data_zone}
use Rattle.logs.specs.meaning.Entry.{worn_generation}
use Rattle.logs.specs.code.Judge.{and_false}
use Rattle.volume.specs.meaning.Content.{at, fill_of, parity_drive_at}
use Rattle.volume.specs.meaning.Rules.{view_of, known, is_lost, is_present, zone_view}
use Rattle.volume.specs.declared.Condition.{Condition}
use Rattle.volume.specs.declared.Condition.TheVariants.{Empty, Open, Sealed, Worn}
use Rattle.volume.specs.meaning.State.{pointer_in, is_worn, StateView, call_present}
use Rattle.volume.specs.meaning.Refusals.{two_lost, state_within, two_absent, two_unnamed, stale, stale_in, stale_somewhere, gone_in, gone_before, not_held}
use Rattle.volume.specs.meaning.Emptying.{by_state, is_made, gone_for_copies}
use Rattle.promise.specs.meaning.Ledger.{Ledger}
use Rattle.promise.specs.meaning.Claim.{all_but}
use Rattle.promise.proofs.invariant.Invariant.{Ghost, Here, LogsOk, Rest, RestZone, Shape}
use Rattle.promise.proofs.look.LookReads.{look_unrefused, present_is, lost_is}
use Rattle.promise.proofs.look.LookFits.{rest_known}
use Rattle.promise.proofs.look.LookLive.{live_truth, content_is_laid}
use Rattle.volume.specs.meaning.Answers.{lost_in, left_out, named_drives}

-- ---- the drives that are lost
module _ (g : Geometry) (ok : Valid g) (x : ℕ) (v : Device) (γ : Ghost) (lg : LogsOk g x v γ) where
  absent_is : (d : ℕ) → d < g.drives → not (present_but g x d) ≡ is_lost g (all_but x) v d
  unfolding is_present
  absent_is d h = go (is_lost g (all_but x) v d) refl (ap (λ (f : ℕ → Bool). f d) (present_is g ok x v γ lg))
    where
      go : (b : Bool) → is_lost g (all_but x) v d ≡ b → ltb d g.drives && not (is_lost g (all_but x) v d) ≡ present_but g x d → not (present_but g x d) ≡ b
      go true e p = rw (← p, e, lt-ltb d g.drives h) refl
      go false e p = rw (← p, e, lt-ltb d g.drives h) refl

  pub lost_in_lem : (named : ℕ → Bool) (state : StateView) → call_present g named state ≡ present_but g x → lost_in g named state ≡ x
  unfolding lost_in
  lost_in_lem named state e = rw e (find_below_cong (λ d. not (present_but g x d)) (is_lost g (all_but x) v) g.drives absent_is ∙ lost_is g ok x v γ lg)

  pub absent_fine : (named : ℕ → Bool) (state : StateView) → call_present g named state ≡ present_but g x → two_absent g named state ≡ false
  unfolding two_absent two_lost
  absent_fine named state e = rw e (ap (ltb 1) (count_below_cong (λ d. not (present_but g x d)) (is_lost g (all_but x) v) g.drives absent_is) ∙ (look_unrefused g ok x v γ lg).lost)

  -- a format by a host that names every drive not lost
  pub format_lost : (named : ℕ → Bool) → ((d : ℕ) → d < g.drives → named d ≡ all_but x d) → left_out g named ≡ x
  unfolding left_out
  format_lost named same = find_below_cong (λ d. not (named d)) (is_lost g (all_but x) v) g.drives (λ d h. ap not (same d h) ∙ rw (lt-ltb d g.drives h) at (absent_is d h)) ∙ lost_is g ok x v γ lg

pub format_drives : (g : Geometry) (x : ℕ) (named : ℕ → Bool) → ((d : ℕ) → d < g.drives → named d ≡ all_but x d) → named_drives g named ≡ present_but g x
unfolding named_drives
format_drives g x named same = fun_ext λ d. go d (ltb d g.drives) refl
  where
    go : (d : ℕ) (b : Bool) → ltb d g.drives ≡ b → b && named d ≡ b && not (eqb d x)
    go d true e = same d (ltb-true d g.drives e)
    go d false e = refl

-- ---- the zones
module _ (g : Geometry) (ok : Valid g) (x : ℕ) (v : Device) (state : StateView) (l : Ledger) (γ : Ghost) (r : Rest g x v state l γ) where
  pub state_fine : state_within g state ≡ true
  unfolding state_within
  state_fine = and_join (ltb state.lost g.drives || eqb state.lost no_drive) (all_below (λ z. leb (pointer_in (state.condition z)) (zone_sectors g)) g.zones) (lost_fine r.lost_is r.logs.lost_ok)
      (all_all_below (λ z. leb (pointer_in (state.condition z)) (zone_sectors g)) g.zones (λ z h. let q = r.zones z h in le-leb (pointer_in (state.condition z)) (zone_sectors g) (omega (arith, q.pointer_is, prefix_length q.live.front, q.live.fits))))
    where
      lost_fine : (state.lost ≡ no_drive) ⊎ (state.lost ≡ x) → (x ≡ no_drive) ⊎ (x < g.drives) → ltb state.lost g.drives || eqb state.lost no_drive ≡ true
      lost_fine (inl e) k = or_right (ltb state.lost g.drives) (eqb state.lost no_drive) (eq-eqb state.lost no_drive e)
      lost_fine (inr e) (inl k) = or_right (ltb state.lost g.drives) (eqb state.lost no_drive) (eq-eqb state.lost no_drive (e ∙ k))
      lost_fine (inr e) (inr k) = or_left (ltb state.lost g.drives) (eqb state.lost no_drive) (lt-ltb state.lost g.drives (omega arith))

  pub stale_fine : (z : ℕ) → stale g (present_but g x) v state z ≡ false
  unfolding stale
  stale_fine z = go (ltb z g.zones) refl
    where
      one : (q : RestZone g x v state l γ z) (c : Condition) → Shape g x v γ l z c → (d : ℕ) → Here g x d → stale_in c (length (v d (data_zone z)).sectors) (needed g.drives g.unit z (length (l.content z)) d) ≡ false
      one q Empty s d a = rw (eq-eqb (length (v d (data_zone z)).sectors) (needed g.drives g.unit z (length (l.content z)) d) (s.just d a)) refl
      one q (Open n) s d a = rw (eq-eqb (length (v d (data_zone z)).sectors) (needed g.drives g.unit z (length (l.content z)) d) (s.just d a)) refl
      one q (Sealed n) s d a = le-ltb (length (v d (data_zone z)).sectors) (needed g.drives g.unit z (length (l.content z)) d) (q.strong_now.places d a)
      one q (Worn n) s d a = le-ltb (length (v d (data_zone z)).sectors) (needed g.drives g.unit z (length (l.content z)) d) (q.strong_now.places d a)

      each : z < g.zones → (d : ℕ) (b : Bool) → present_but g x d ≡ b → b && stale_in (state.condition z) (length (v d (data_zone z)).sectors) (needed g.drives g.unit z (pointer_in (state.condition z)) d) ≡ false
      each h d true a =
          let q = r.zones z h in
          subst (λ (n : ℕ). stale_in (state.condition z) (length (v d (data_zone z)).sectors) (needed g.drives g.unit z n d) ≡ false) q.pointer_is (one q (state.condition z) q.shape d a)
      each h d false a = refl

      go : (b : Bool) → ltb z g.zones ≡ b → b && any_below (λ d. present_but g x d && stale_in (state.condition z) (length (v d (data_zone z)).sectors) (needed g.drives g.unit z (pointer_in (state.condition z)) d)) g.drives ≡ false
      go true e = none_any_below (λ d. present_but g x d && stale_in (state.condition z) (length (v d (data_zone z)).sectors) (needed g.drives g.unit z (pointer_in (state.condition z)) d)) g.drives (λ d hd. each (ltb-true z g.zones e) d (present_but g x d) refl)
      go false e = refl

  pub gone_fine : (z : ℕ) → z < g.zones → (offset count : ℕ) → offset + count ≤ length (l.content z) → gone_in g (present_but g x) v z (state.generation z) offset count ≡ false
  unfolding gone_in
  gone_fine z h offset count k = none_any_below (λ i. not (known g.drives g.unit z (zone_view g (present_but g x) v z (state.generation z)) (offset + i))) count (λ i hi. ap not (rest_known g ok x v state l γ r z h (offset + i) (omega arith)).0)

  -- so a write finds the earlier sectors of its stripe
  pub before_fine : (z : ℕ) → z < g.zones → gone_before g (present_but g x) v z (state.generation z) (pointer_in (state.condition z)) ≡ false
  unfolding gone_before
  before_fine z h =
      let n = pointer_in (state.condition z) in
      let s = stripe_of g.drives g.unit n * stripe_sectors g in
      let e : s + fill_of g n ≤ length (l.content z) = omega (arith, stripe_below g.drives g.unit z (omega (arith, ok.drives_least)) ok.unit_least n, (r.zones z h).pointer_is) in
      rw (gone_fine z h s (fill_of g n) e) (and_false (present_but g x (parity_drive_at g z n)))

  -- a compact finds no zone stale, and what the entries of its copy would be made of
  pub stale_nowhere : stale_somewhere g (present_but g x) v state ≡ false
  unfolding stale_somewhere
  stale_nowhere = none_any_below (stale g (present_but g x) v state) g.zones (λ z h. stale_fine z)

  pub copies_fine : (d : ℕ) → gone_for_copies g (present_but g x) (by_state g (present_but g x) v state) v d ≡ false
  unfolding gone_for_copies gone_in
  copies_fine d = none_any_below _ g.zones (λ z h. one z h)
    where
      one : (z : ℕ) → z < g.zones → let n = pointer_in (state.condition z) in is_made g (by_state g (present_but g x) v state) v d z
          && gone_in g (present_but g x) v z (state.generation z) (stripe_of g.drives g.unit n * stripe_sectors g) (fill_of g n) ≡ false
      one z h =
          let n = pointer_in (state.condition z) in
          let s = stripe_of g.drives g.unit n * stripe_sectors g in
          let e : s + fill_of g n ≤ length (l.content z) = omega (arith, stripe_below g.drives g.unit z (omega (arith, ok.drives_least)) ok.unit_least n, (r.zones z h).pointer_is) in
          rw (gone_fine z h s (fill_of g n) e) (and_false (is_made g (by_state g (present_but g x) v state) v d z))

  -- a zone that says it is worn has the last generation
  pub worn_last : (z : ℕ) → z < g.zones → is_worn (state.condition z) ≡ true → state.generation z ≡ worn_generation
  worn_last z h e = sym (r.zones z h).generation_is ∙ go (state.condition z) (r.zones z h).shape e
    where
      go : (c : Condition) → Shape g x v γ l z c → is_worn c ≡ true → γ.generation z ≡ worn_generation
      go Empty s q = absurd (true≢false (sym q))
      go (Open n) s q = absurd (true≢false (sym q))
      go (Sealed n) s q = absurd (true≢false (sym q))
      go (Worn n) s q = s

  -- and held where its drive is not lost
  pub rest_held : (z : ℕ) → z < g.zones → (a : ℕ) → a < length (l.content z) → Here g x (drive_of g.drives g.unit z a) → not_held g (present_but g x) v z (state.generation z) a ≡ false
  unfolding not_held zone_view view_of
  rest_held z h a k p =
      let q = r.zones z h in
      let d = drive_of g.drives g.unit z a in
      let n = (needed_iff g.drives g.unit z (omega (arith, ok.drives_least)) ok.unit_least (length (l.content z)) a).1 k in
      ap not (and_join (present_but g x d) (ltb (sector_of g.drives g.unit a) (length (v d (data_zone z)).sectors)) p (lt-ltb (sector_of g.drives g.unit a) (length (v d (data_zone z)).sectors) (omega (arith, n, q.strong_now.places d p))))

  -- what sits there is the content's sector
  pub rest_sector : (z : ℕ) → z < g.zones → (a : ℕ) → a < length (l.content z) → not_held g (present_but g x) v z (state.generation z) a ≡ false
      → get_or (v (drive_of g.drives g.unit z a) (data_zone z)).sectors (sector_of g.drives g.unit a) [] ≡ at (l.content z) a
  unfolding not_held zone_view view_of
  rest_sector z h a k p =
      let q = r.zones z h in
      let d = drive_of g.drives g.unit z a in
      let (e, f) = and_split (present_but g x d) (ltb (sector_of g.drives g.unit a) (length (v d (data_zone z)).sectors)) (not_not (present_but g x d && ltb (sector_of g.drives g.unit a) (length (v d (data_zone z)).sectors)) p) in
      (live_truth g ok x v γ r.logs l z q.live).data_is a e (ltb-true (sector_of g.drives g.unit a) (length (v d (data_zone z)).sectors) f) ∙ content_is_laid g ok x v γ r.logs l z q.live a k

pub left_out_lem : (g : Geometry) (named : ℕ → Bool) → (left_out g named ≡ no_drive) ⊎ (left_out g named < g.drives)
unfolding left_out
left_out_lem g named = go (find_below_is (λ d. not (named d)) g.drives)
  where
    go : ((left_out g named ≡ no_drive) × ((k : ℕ) → k < g.drives → not (named k) ≡ false)) ⊎ ((left_out g named < g.drives) × (not (named (left_out g named)) ≡ true)) → (left_out g named ≡ no_drive) ⊎ (left_out g named < g.drives)
    go (inl (a, b)) = inl a
    go (inr (a, b)) = inr a

pub drives_named : (g : Geometry) → Valid g → (named : ℕ → Bool) → two_unnamed g named ≡ false → named_drives g named ≡ present_but g (left_out g named)
unfolding named_drives two_unnamed left_out
drives_named g ok named h = fun_ext λ d. each d (ltb d g.drives) refl (find_below_is (λ d. not (named d)) g.drives)
  where
    x : ℕ
    x = find_below (λ d. not (named d)) g.drives

    few : (d e : ℕ) → d < g.drives → e < g.drives → d ≢ e → not (named d) ≡ true → not (named e) ≡ true → ⊥
    few d e a b ne p q = omega (arith, two_count_below (λ d. not (named d)) g.drives d e a b ne p q, ltb-false 1 (count_below (λ d. not (named d)) g.drives) h)

    other : (d : ℕ) (b : Bool) → named d ≡ b → (not (named d) ≡ true → ⊥) → b ≡ true
    other d true e n = refl
    other d false e n = absurd (n (rw e refl))

    each : (d : ℕ) (b : Bool) → ltb d g.drives ≡ b → ((x ≡ no_drive) × ((k : ℕ) → k < g.drives → not (named k) ≡ false)) ⊎ ((x < g.drives) × (not (named x) ≡ true)) → b && named d ≡ b && not (eqb d x)
    each d false e f = refl
    each d true e (inl (a, f)) =
        let n : eqb d x ≡ false = ne_eqb d x (λ q. omega (arith, ltb-true d g.drives e, ok.drives_most)) in
        rw n (not_not (named d) (f d (ltb-true d g.drives e)))
    each d true e (inr (a, f)) = go (ℕ_discrete d x)
      where
        go : Dec (d ≡ x) → named d ≡ not (eqb d x)
        go (yes q) = rw (eq-eqb d x q) (rw q (not_true (named x) f))
        go (no q) = rw (ne_eqb d x q) (other d (named d) refl (λ m. few d x (ltb-true d g.drives e) a q m f))
