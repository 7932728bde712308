-- Between finished calls a look shows what the host holds: of every zone the generation and the condition. So a look's state may be handed on as well.
use Rattle.logs.specs.laws.LogLaws.{whole_ends, whole_entries_mem}
use Rattle.logs.specs.laws.HeadLaws.{within_not_past}
use Rattle.tables.specs.laws.Lists.{none_any_of, some_any_of, mem_take}
use Rattle.tables.specs.meaning.Lists.{any_of}
use Rattle.std.specs.Prelude.{◌≡◌, ◌⊎◌, Bool, ◌&&◌, ◌||◌, ℕ, ◌+◌, ◌*◌, ◌≤◌, ◌<◌, length, leb, eqb}
use Rattle.std.proofs.Math.Path.{refl}
use Rattle.std.proofs.Common.{sym, ap, ap₂, ◌∙◌, subst, inl, inr, true≢false, le_of_eq, arith}
use Rattle.std.proofs.Math.Bool.{true, false, not}
use mathlib.Core.List.{Memᴰ}
use borrow.Author.Tests.{le-leb, eq-eqb, ne_eqb, eqb-true}
use Rattle.tables.specs.laws.Basics.{or_right, and_split}
use Rattle.tables.specs.laws.Below.{none_any_below, some_any_below, all_all_below}
use Rattle.tables.specs.meaning.Device.{Device}
use Rattle.tables.specs.meaning.Placement.{needed}
use Rattle.tables.specs.declared.Geometry.{Geometry}
use Rattle.tables.specs.meaning.Geometry.{Valid, stripe_sectors, data_zone}
use Rattle.tables.specs.meaning.Drives.{present_but}
use Rattle.tables.specs.laws.Drives.{present_below}
use Rattle.logs.specs.meaning.Entry.{general_zone, worn_generation, Header, label, counters, partial_parity, seal, closing, zone_reset, Entry}
use Rattle.logs.specs.meaning.Heads.{ends_past, is_seal}
use Rattle.logs.specs.meaning.Walk.{at_pointer}
use Rattle.logs.specs.laws.Walk.{Whole, whole_entries}
use Rattle.volume.specs.declared.Condition.{Condition}
use Rattle.volume.specs.declared.Condition.TheVariants.{Empty, Open, Sealed, Worn}
use Rattle.volume.specs.meaning.State.{StateView, pointer_in}
use Rattle.volume.specs.meaning.Rules.{showing, general_heads, zone_shown, zone_at, pointer_at, reset_seen, seal_seen, clean_at, ending_past, condition_of, parity_entries, parity_ending}
use Rattle.volume.specs.meaning.Mount.{mount_state}
use Rattle.promise.specs.meaning.Ledger.{Ledger}
use Rattle.promise.proofs.invariant.Invariant.{Ghost, Here, LogsOk, Capped, CappedBelow, TrueRows, Plain, Shape, HasSectors, RestZone, Rest, LogGenerations}
use Rattle.promise.proofs.invariant.Obligations.{Rests}
use Rattle.promise.proofs.look.LookReads.{general_heads_lem, parity_entries_lem, parity_ending_lem}
use Rattle.promise.proofs.look.LookLive.{some_present, reset_seen_lem, live_at, live_most, knows_least, pointer_free}
use Rattle.promise.proofs.look.LookFits.{reaches}

-- ---- what rule 6 reads: seals, and whether a zone is clean
module _ (g : Geometry) (ok : Valid g) (x : ℕ) (v : Device) (γ : Ghost) (lg : LogsOk g x v γ) (z : ℕ) where
  is_seal_of : (n : ℕ) (h : Header) → is_seal z n h ≡ true → (c : ℕ) × (h ≡ seal z c n)
  is_seal_of n (label y c) e = absurd (true≢false (sym e))
  is_seal_of n (counters cs) e = absurd (true≢false (sym e))
  is_seal_of n (zone_reset y m) e = absurd (true≢false (sym e))
  is_seal_of n (partial_parity y i f m) e = absurd (true≢false (sym e))
  is_seal_of n (seal y c m) e = let (a, b) = and_split (eqb y z) (eqb m n) e in (c, ap₂ (λ (y1 m1 : ℕ). seal y1 c m1) (eqb-true y z a) (eqb-true m n b))
  is_seal_of n (closing kind gen) e = absurd (true≢false (sym e))

  pub no_seal_seen : (n : ℕ) → ((d : ℕ) → Here g x d → (c : ℕ) → Memᴰ (seal z c n) (γ.general d) → ⊥) → seal_seen g (present_but g x) v z n ≡ false
  unfolding seal_seen
  no_seal_seen n f = none_any_below (λ d. present_but g x d && any_of (is_seal z n) (general_heads g v d)) g.drives (λ d h. one d (present_but g x d) refl)
    where
      no : (d : ℕ) → Here g x d → (h : Header) → Memᴰ h (γ.general d) → (b : Bool) → is_seal z n h ≡ b → b ≡ false
      no d a h m true e = let (c, r) = is_seal_of n h e in absurd (f d a c (rw r at m))
      no d a h m false e = refl

      one : (d : ℕ) (b : Bool) → present_but g x d ≡ b → b && any_of (is_seal z n) (general_heads g v d) ≡ false
      one d true a = rw (general_heads_lem g ok x v γ lg d a) (none_any_of (is_seal z n) (γ.general d) (λ h m. no d a h m (is_seal z n h) refl))
      one d false a = refl

  pub cap_seen : (c : ℕ) → Capped g x v γ z c → seal_seen g (present_but g x) v z (γ.generation z) ≡ true
  unfolding seal_seen
  cap_seen c h =
      let n = γ.generation z in
      let (d, a) = some_present g ok x in
      let (b, q, p) = h d a in
      let m : Memᴰ (seal z b n) (γ.general d) = mem_take (v d general_zone).durable (γ.general d) (seal z b n) p in
      let y : is_seal z n (seal z b n) ≡ true = rw (eq-eqb z z refl, eq-eqb n n refl) refl in
      some_any_below (λ d. present_but g x d && any_of (is_seal z n) (general_heads g v d)) g.drives d (present_below g x d a) (rw (a, general_heads_lem g ok x v γ lg d a) (some_any_of (is_seal z n) (γ.general d) (seal z b n) m y))

  -- the drives hold no more than pointer q needs, and all entries are whole, the current ones ending at or below q
  pub clean_if : (n q : ℕ) → ((d : ℕ) → Here g x d → length (v d (data_zone z)).sectors ≤ needed g.drives g.unit z q d) → ((d : ℕ) → Here g x d → (e : Entry) → Memᴰ e (γ.parity d) → Whole g d true e)
      → ((d : ℕ) → Here g x d → (e : Entry) → Memᴰ e (γ.parity d) → (i f : ℕ) → e.head ≡ partial_parity z i f n → i * stripe_sectors g + f ≤ q) → clean_at g (present_but g x) v z n q ≡ true
  unfolding clean_at
  clean_if n q just whole within = all_all_below _ g.drives (λ d h. one d (present_but g x d) refl)
    where
      one : (d : ℕ) (b : Bool) → present_but g x d ≡ b → not b || (leb (length (v d (data_zone z)).sectors) (needed g.drives g.unit z q d) && (not (any_of (λ (e : Entry). ends_past g z n q e.head) (parity_entries g v d)) && not (ending_past g z n q (parity_ending g v d)))) ≡ true
      one d false a = refl
      one d true a =
          let e1 : any_of (λ (e : Entry). ends_past g z n q e.head) (whole_entries g d true (γ.parity d)) ≡ false =
          none_any_of (λ (e : Entry). ends_past g z n q e.head) (whole_entries g d true (γ.parity d)) (λ e m. within_not_past g z n q e.head (λ i f r. within d a e (whole_entries_mem g d (γ.parity d) e m).0 i f r)) in
          let e3 : parity_ending g v d ≡ at_pointer = parity_ending_lem g ok x v γ lg d a ∙ whole_ends g d (γ.parity d) (whole d a) in
          rw (le-leb (length (v d (data_zone z)).sectors) (needed g.drives g.unit z q d) (just d a), parity_entries_lem g ok x v γ lg d a, e1, e3) refl

-- ---- at rest
module _ (g : Geometry) (ok : Valid g) (x : ℕ) (v : Device) (state : StateView) (l : Ledger) (γ : Ghost) (r : Rest g x v state l γ) (z : ℕ) (hz : z < g.zones) where
  q : RestZone g x v state l γ z
  q = r.zones z hz

  abbrev n : ℕ
  n = γ.generation z

  -- no reset entry is current, since no reset was stopped
  not_seen : reset_seen g (present_but g x) v z n ≡ false
  not_seen = go (reset_seen g (present_but g x) v z n) refl
    where
      none : (l.resetting z ≡ true) ⊎ ((d : ℕ) → Here g x d → Memᴰ (zone_reset z n) (γ.general d) → ⊥) → (d : ℕ) → Here g x d → Memᴰ (zone_reset z n) (γ.general d) → ⊥
      none (inl e) = absurd (true≢false (sym e ∙ q.no_flag))
      none (inr f) = f

      go : (b : Bool) → reset_seen g (present_but g x) v z n ≡ b → b ≡ false
      go true e = absurd (let (d, a, m) = reset_seen_lem g ok x v γ r.logs z n e in none q.live.no_reset d a m)
      go false e = refl

  pointer_there : pointer_at g (present_but g x) v z n ≡ length (l.content z)
  pointer_there =
      let limit = reaches g ok x v state l γ r z hz in
      omega (arith, pointer_free g ok x v γ r.logs l z q.live not_seen, live_most g ok x v γ r.logs l z q.live, limit, knows_least g ok x v γ r.logs l z q.live (length (l.content z)) q.strong_now limit)

  -- a plain zone is clean: its entries end within its content
  plain_clean : Plain g x v γ l z → clean_at g (present_but g x) v z n (length (l.content z)) ≡ true
  plain_clean p = clean_if g ok x v γ r.logs z n (length (l.content z)) (λ d a. le_of_eq (p.just d a)) r.whole (λ d a e m i f h. ends d a e i f (q.live.tells d a e m i f h))
    where
      ends : (d : ℕ) → Here g x d → (e : Entry) (i f : ℕ) → TrueRows g (γ.laid z) i f e.rows ⊎ CappedBelow g x v γ z (i * stripe_sectors g + f) → i * stripe_sectors g + f ≤ length (l.content z)
      ends d a e i f (inl t) = let w = t.within in let len : length (γ.laid z) ≡ length (l.content z) = ap length p.all_content in omega (arith, w, len)
      ends d a e i f (inr (c, cap, h)) = let (b, k, m) = cap d a in absurd (p.no_seal d a b (mem_take (v d general_zone).durable (γ.general d) (seal z b n) m))

  condition_there : condition_of n (length (l.content z)) (clean_at g (present_but g x) v z n (length (l.content z))) (seal_seen g (present_but g x) v z n) ≡ state.condition z
  condition_there = go (state.condition z) q.shape q.sectors q.pointer_is
    where
      go : (c : Condition) → Shape g x v γ l z c → HasSectors c → length (l.content z) ≡ pointer_in c → condition_of n (length (l.content z)) (clean_at g (present_but g x) v z n (length (l.content z))) (seal_seen g (present_but g x) v z n) ≡ c
      go Empty s h e = rw (ne_eqb n worn_generation (λ m. omega (arith, m, s.unworn)), e) refl
      go (Open p) s h e = rw (ne_eqb n worn_generation (λ m. omega (arith, m, s.unworn)), plain_clean s, no_seal_seen g ok x v γ r.logs z n s.no_seal, e, ne_eqb p 0 (λ m. omega (arith, m, h))) refl
      go (Sealed p) s h e =
          let clean = clean_at g (present_but g x) v z n (length (l.content z)) in
          rw (ne_eqb n worn_generation (λ m. omega (arith, m, s.1)), cap_seen g ok x v γ r.logs z (length (l.content z)) s.0, or_right (not clean) true refl, e, ne_eqb p 0 (λ m. omega (arith, m, h))) refl
      go (Worn p) s h e = rw (eq-eqb n worn_generation s, e) refl

  -- WHAT A LOOK SHOWS OF A ZONE IS WHAT THE HOST HOLDS
  pub generation_held : (zone_shown g (present_but g x) v z).generation ≡ state.generation z
  unfolding zone_at
  generation_held = rw (live_at g ok x v γ r.logs l z q.live) q.generation_is

  pub condition_held : (zone_shown g (present_but g x) v z).condition ≡ state.condition z
  unfolding zone_at
  condition_held = rw (live_at g ok x v γ r.logs l z q.live, pointer_there) condition_there

-- so all is at rest with the look's state as well
pub look_rests : (g : Geometry) → Valid g → (c : LogGenerations) (x : ℕ) (v : Device) (state : StateView) (l : Ledger) → Rests c g x v state l → Rests c g x v (mount_state (showing g (present_but g x) x v)) l
unfolding showing
look_rests g ok c x v state l (γ, r, p) = (
  γ,
  record {
    logs = r.logs;
    zones = λ z h.
        let q = r.zones z h in
        let e = sym (condition_held g ok x v state l γ r z h) in
        record {
          live = q.live;
          generation_is = q.generation_is ∙ sym (generation_held g ok x v state l γ r z h);
          pointer_is = q.pointer_is ∙ ap pointer_in e;
          strong_now = q.strong_now;
          shape = subst (Shape g x v γ l z) e q.shape;
          sectors = subst HasSectors e q.sectors;
          no_flag = q.no_flag;
        };
    whole = r.whole;
    lost_is = inr refl;
  },
  p,
)
