-- READING 15 INSIDE A MOUNT, for the emptying of drive d's parity log: by the copy a look, whichever drives are named, shows what it showed by the old log; of a zone
-- whose entry was made it may show more, up to the pointer of the mount's look. (u: the device by its roles, filled; w: by the copy.)
use Rattle.std.specs.Prelude.{◌≡◌, ◌≢◌, ◌⊎◌, Bool, ℕ, zero, ◌+◌, ◌-◌, ◌*◌, ◌^◌, ◌≤◌, ◌<◌, min, eqb}
use Rattle.std.proofs.Math.Path.{refl, ap, ap₂}
use Rattle.std.proofs.Common.{sym, ◌∙◌, inl, inr, true≢false, le_refl, arith}
use Rattle.std.proofs.Math.Bool.{true, false}
use Rattle.std.proofs.Math.Nat.{le_trans}
use Rattle.std.proofs.Math.Decide.{dec_lt, ℕ_discrete}
use mathlib.Core.List.{List, [], map, Memᴰ}
use Rattle.std.proofs.Math.ListN.{length, get_or}
use borrow.Author.Tests.{eq-eqb, eqb-true, ne_eqb, lt-ltb, le-leb}
use Rattle.tables.specs.meaning.Basics.{pick}
use Rattle.tables.specs.laws.Basics.{and_split}
use Rattle.tables.specs.laws.Below.{larger_right}
use Rattle.tables.specs.meaning.Lists.{any_of}
use Rattle.tables.specs.laws.Lists.{any_of_some}
use Rattle.tables.specs.laws.Greatest.{greatest_all, greatest_max}
use Rattle.tables.specs.meaning.Device.{ZoneView, Device}
use Rattle.tables.specs.meaning.Placement.{stripe_of, needed}
use Rattle.tables.specs.laws.Placement.{needed_mono}
use Rattle.tables.specs.meaning.Drives.{present_but}
use Rattle.tables.specs.laws.Drives.{present_below}
use Rattle.tables.specs.declared.Geometry.{Geometry}
use Rattle.tables.specs.meaning.Geometry.{Valid, stripe_sectors, parity_drive_of, zone_sectors, data_zone}
use Rattle.logs.specs.meaning.Entry.{general_zone, parity_zone, partial_parity, closing, Entry}
use Rattle.logs.specs.meaning.Heads.{least_seal}
use Rattle.logs.specs.meaning.Walk.{walk_log}
use Rattle.logs.specs.laws.Walk.{sectors_of_all, cut_entries, cut_all}
use Rattle.volume.specs.meaning.Content.{at, inside_stripe, fill_of, parity_drive_at, entry_header}
use Rattle.volume.specs.meaning.Rules.{View, known, known_prefix, parity_of, Shown, general_heads, parity_entries, serving_entries, generation_of, seal_limit, view_of, zone_view, zone_shown, zone_at, value_at, pointer_at}
use Rattle.volume.specs.laws.Depends.{known_same}
use Rattle.volume.specs.meaning.Emptying.{InForce, by_look, is_copied, is_at_pointer, is_made, new_parity_size}
use Rattle.promise.specs.meaning.Ledger.{Ledger, FitsZone}
use Rattle.promise.proofs.device.Marks.{with_marks}
use Rattle.promise.proofs.invariant.Invariant.{Ghost, Here, LogsOk, Live, Dying, said, facts_of}
use Rattle.promise.proofs.invariant.SaidMoves.{live_mark}
use Rattle.promise.proofs.look.LookLive.{live_fits}
use Rattle.promise.proofs.mount.MountEntryAt.{fill_parts}
use Rattle.promise.proofs.emptying.AskedSame.{NamedBut, named_here, ShowsSame, seal_limit_same}
use Rattle.promise.proofs.emptying.CopiedParity.{header_at}
use Rattle.promise.proofs.emptying.EmptiedShows.{named_dying}
use Rattle.promise.proofs.emptying.EmptiedParity.{EntryIn}
use Rattle.promise.proofs.emptying.FilledShows.{NoneShownPast, held_just, sealed_at, ShownZone, named_logs, named_live, shown_generation, shown_is, limit_past, shown_least, shown_value, shown_most}
use Rattle.promise.proofs.emptying.ParityLogs.{Among, ParityEmptiedTo, parity_ghost, by_drive, general_on, data_on}
use Rattle.promise.proofs.emptying.ParityFilled.{FilledZone, Filled, some_or_none, MadeFor, made_head, es_read, es_old}
use Rattle.promise.proofs.emptying.ParityMount.{stripe_start, same_stripe, start_outside, marks_by_copy, pc, copy, filled_still}

-- ---- v and w show zone z with the same sectors, w perhaps more of it, up to top
pub record ShowsUpTo (g : Geometry) (present : ℕ → Bool) (v w : Device) (z top : ℕ) : Type 0 where
  pub least : pointer_at g present v z (generation_of g present v z) ≤ pointer_at g present w z (generation_of g present w z)
  pub most : pointer_at g present w z (generation_of g present w z) ≤ top
  pub values : (a : ℕ) → a < pointer_at g present v z (generation_of g present v z) → value_at g present w z (generation_of g present w z) a ≡ value_at g present v z (generation_of g present v z) a

pub same_up_to : (g : Geometry) (present : ℕ → Bool) (u w : Device) (z top : ℕ) → ShowsSame g present u w z → pointer_at g present w z (generation_of g present w z) ≤ top → ShowsUpTo g present u w z top
same_up_to g present u w z top s t = record { least = let e = s.pointer in omega (arith, e); most = t; values = s.values }

-- ---- a zone without sectors shows none
none_shown : (g : Geometry) → Valid g → (x y : ℕ) → NamedBut g x y → (z : ℕ) → z < g.zones → (v : Device) (γ : Ghost) (m : Ledger) → LogsOk g x v γ → (Live g x v γ m z × (length (m.content z) ≡ zero)) ⊎ Dying g x v γ m z
    → pointer_at g (present_but g y) v z (generation_of g (present_but g y) v z) ≡ zero
unfolding zone_shown zone_at
none_shown g ok x y by z hz v γ m lg (inl (h, e)) = go (live_fits g ok y v γ (named_logs g ok x y by v γ lg) m z (named_live g ok x y by v γ lg m z hz h) hz)
  where
    go : FitsZone m z (zone_shown g (present_but g y) v z) → pointer_at g (present_but g y) v z (generation_of g (present_but g y) v z) ≡ zero
    go (inl r) = let c : pointer_at g (present_but g y) v z (generation_of g (present_but g y) v z) ≤ length (m.content z) = r.most in omega (arith, c, e)
    go (inr r) = r.0
none_shown g ok x y by z hz v γ m lg (inr h) = named_dying g ok x y by v γ lg m z hz h

-- of each zone with sectors, what bounds it
abbrev pub AllShown : Geometry → ℕ → Device → Ghost → Shown → Type 0
AllShown g x u δ k = (z : ℕ) → z < g.zones → zero < (k.zone z).pointer → ShownZone g x u δ z (k.zone z).pointer

-- a filled device shows no zone past the mount's pointer
pub filled_most : (g : Geometry) → Valid g → (x : ℕ) (u : Device) (l : Ledger) (δ : Ghost) (k : Shown) → Filled g x u l δ k → AllShown g x u δ k → (y : ℕ) → NamedBut g x y → (z : ℕ) → z < g.zones
    → pointer_at g (present_but g y) u z (generation_of g (present_but g y) u z) ≤ (k.zone z).pointer
filled_most g ok x u l δ k fd sh y by z hz = go (some_or_none (k.zone z).pointer)
  where
    go : (zero < (k.zone z).pointer) ⊎ ((k.zone z).pointer ≡ zero) → pointer_at g (present_but g y) u z (generation_of g (present_but g y) u z) ≤ (k.zone z).pointer
    go (inl h) =
        let q = (fd.staying z hz h).live in
        rw (shown_generation g ok x y by u δ fd.logs z hz (k.zone z).pointer (sh z hz h) l q) (shown_most g ok x y by u δ fd.logs z hz (k.zone z).pointer (sh z hz h) l q)
    go (inr h) = let b = none_shown g ok x y by z hz u δ l fd.logs (fd.idle z hz h) in omega (arith, b)

-- ---- views that differ in drive d's entries know the same of the stripes whose parity is on another drive
known_elsewhere : (D U z d : ℕ) (X Y : View) → ((e : ℕ) → X.present e ≡ Y.present e) → ((e : ℕ) → X.present e ≡ true → X.written e ≡ Y.written e) → ((e i : ℕ) → X.present e ≡ true → X.sector_at e i ≡ Y.sector_at e i)
    → ((e : ℕ) → X.present e ≡ true → e ≢ d → X.entries e ≡ Y.entries e) → (a : ℕ) → parity_of D U z a ≢ d → known D U z X a ≡ known D U z Y a
known_elsewhere D U z d X Y here lengths sectors logs a n = first ∙ known_same D U z X' Y here lengths sectors (λ e p. join e p (ℕ_discrete e d)) a
  where
    X' : View
    X' = record { present = X.present; written = X.written; sector_at = X.sector_at; entries = λ e. pick (eqb e d) (Y.entries e) (X.entries e) }

    first : known D U z X a ≡ known D U z X' a
    first = rw (ne_eqb (parity_of D U z a) d n) refl

    join : (e : ℕ) → X.present e ≡ true → Dec (e ≡ d) → pick (eqb e d) (Y.entries e) (X.entries e) ≡ Y.entries e
    join e p (yes q) = rw (eq-eqb e d q) refl
    join e p (no q) = rw (ne_eqb e d q) (logs e p q)

module _ (g : Geometry) (ok : Valid g) (x d : ℕ) (hd : Here g x d) (u : Device) (l : Ledger) (δ : Ghost) (k : Shown) (fd : Filled g x u l δ k) (n : ℕ) (n1 : 0 < n) (n_lt : n < 256 ^ 8) (room : new_parity_size g (by_look k) d ≤ g.capacity)
    (solid : (u d parity_zone).durable ≡ length (u d parity_zone).sectors)
    (w : Device) (em : ParityEmptiedTo g x d u w (copy g ok x d hd u l δ k fd n n1 n_lt room w)) (sh : AllShown g x u δ k) where
  abbrev f : InForce
  f = by_look k

  abbrev made : Entry → Type 0
  made = MadeFor g ok x d hd u l δ k fd

  abbrev new : List Entry
  new = copy g ok x d hd u l δ k fd n n1 n_lt room w

  abbrev ε : Ghost
  ε = parity_ghost δ d new n

  abbrev marks : ℕ → ℕ
  marks = marks_by_copy g k l d

  after : Filled g x w (with_marks l marks) ε k
  after = filled_still g ok x d hd u l δ k fd n n1 n_lt room w em

  on_general : (e : ℕ) → Here g x e → w e general_zone ≡ u e general_zone
  on_general = general_on g ok x d hd u w δ fd.logs made new n n1 n_lt (pc g ok x d hd u l δ k fd n n1 n_lt room w) em

  on_data : (e z : ℕ) → Here g x e → w e (data_zone z) ≡ u e (data_zone z)
  on_data = data_on g ok x d hd u w δ fd.logs made new n n1 n_lt (pc g ok x d hd u l δ k fd n n1 n_lt room w) em

  -- ---- a zone with sectors
  module _ (z : ℕ) (hz : z < g.zones) (h : zero < (k.zone z).pointer) where
    abbrev p : ℕ
    p = (k.zone z).pointer

    q : FilledZone g x u l δ k z
    q = fd.staying z hz h

    abbrev gen : ℕ
    gen = δ.generation z

    -- of the new log too no entry ends past the pointer
    new_ends : ((e : ℕ) → Here g x e → (o : Entry) → Memᴰ o (δ.parity e) → (i j : ℕ) → o.head ≡ partial_parity z i j gen → i * stripe_sectors g + j ≤ p)
        → (e : ℕ) → Here g x e → (o : Entry) → Memᴰ o (ε.parity e) → (i j : ℕ) → o.head ≡ partial_parity z i j gen → i * stripe_sectors g + j ≤ p
    new_ends old e a = by_drive g ok x d hd u w δ fd.logs made new n n1 n_lt (pc g ok x d hd u l δ k fd n n1 n_lt room w) em e (λ es v. (o : Entry) → Memᴰ o es → (i j : ℕ) → o.head ≡ partial_parity z i j gen → i * stripe_sectors g + j ≤ p) a
        (λ t o m. one o ((pc g ok x d hd u l δ k fd n n1 n_lt room w).from o m)) (λ t. old e a)
      where
        one : (o : Entry) → Among δ d made n o → (i j : ℕ) → o.head ≡ partial_parity z i j gen → i * stripe_sectors g + j ≤ p
        one o (inl (m, c)) i j t = old d hd o m i j t
        one o (inr (inl c)) i j t = let s : closing 1 n ≡ partial_parity z i j gen = ap (λ (r : Entry). r.head) (sym c) ∙ t in absurd (let b : ◌≡◌ {A = ℕ} 0 1 = cc in omega arith)
        one o (inr (inr m)) i j t =
            let s : entry_header g m.zone (δ.generation m.zone) (k.zone m.zone).pointer ≡ partial_parity z i j gen = sym (made_head g ok x d hd u l δ k fd o m) ∙ t in
            let y : m.zone ≡ z = cc in
            let a1 : stripe_of g.drives g.unit (k.zone m.zone).pointer ≡ i = cc in
            let a2 : fill_of g (k.zone m.zone).pointer ≡ j = cc in
            let b = (fill_parts g ok (k.zone m.zone).pointer).0 in
            let r : (k.zone m.zone).pointer ≡ p = ap (λ (t : ℕ). (k.zone t).pointer) y in
            let c : i * stripe_sectors g + j ≡ (k.zone m.zone).pointer = rw (← a1, ← a2) b in
            omega (arith, c, r)

    pub shown_w : ShownZone g x w ε z p
    shown_w = let s = sh z hz h in record { in_zone_lem = s.in_zone_lem; no_reset = s.no_reset; seals_past = s.seals_past; past = go s.past }
      where
        go : NoneShownPast g x u δ z p → NoneShownPast g x w ε z p
        go (held_just j ends) = held_just (λ e a. rw (on_data e z a) (j e a)) (new_ends ends)
        go (sealed_at c) = sealed_at (λ e a. rw (on_general e a) (c e a))

    lw : Live g x w ε (with_marks l marks) z
    lw = (after.staying z hz h).live

    -- the mark may be raised as far as the entries reach
    raised : (c : ℕ) → c ≤ p → (inside_stripe g c ≡ true → Here g x (parity_drive_at g z c) → EntryIn g (parity_drive_at g z c) z gen c ((said g u δ z).parity_lasts (parity_drive_at g z c))) → Live g x u δ (with_marks l (λ i. c)) z
    raised c b e = live_mark g x z (facts_of δ l z) (said g u δ z) (λ i. u i (data_zone z)) c q.live (le_trans b q.most) (λ i a s m. le_trans b (q.seals_past i a s m)) (record { places = λ i a. le_trans (needs_less c b i a) (q.places i a); entry = e })
      where
        needs_less : (c : ℕ) → c ≤ p → (i : ℕ) → Here g x i → needed g.drives g.unit z c i ≤ needed g.drives g.unit z p i
        needs_less c b i a = let s : c + (p - c) ≡ p = omega (arith, b) in rw s at (needed_mono g.drives g.unit z (omega (arith, ok.drives_least)) (omega (arith, ok.unit_least)) (p - c) c i (present_below g x i a))

    module _ (y : ℕ) (by : NamedBut g x y) where
      abbrev au : ℕ
      au = pointer_at g (present_but g y) u z gen

      abbrev aw : ℕ
      aw = pointer_at g (present_but g y) w z gen

      abbrev ku : ℕ → Bool
      ku = known g.drives g.unit z (zone_view g (present_but g y) u z gen)

      abbrev kw : ℕ → Bool
      kw = known g.drives g.unit z (zone_view g (present_but g y) w z gen)

      u_is : au ≡ min (known_prefix g.drives g.unit z (zone_view g (present_but g y) u z gen) (zone_sectors g)) (seal_limit g (present_but g y) u z gen)
      u_is = shown_is g ok x y by u δ fd.logs z hz p (sh z hz h) l q.live

      w_is : aw ≡ min (known_prefix g.drives g.unit z (zone_view g (present_but g y) w z gen) (zone_sectors g)) (seal_limit g (present_but g y) w z gen)
      w_is = shown_is g ok x y by w ε after.logs z hz p shown_w (with_marks l marks) lw

      u_most : au ≤ p
      u_most = shown_most g ok x y by u δ fd.logs z hz p (sh z hz h) l q.live

      w_most : aw ≤ p
      w_most = shown_most g ok x y by w ε after.logs z hz p shown_w (with_marks l marks) lw

      w_least : marks z ≤ aw
      w_least = shown_least g ok x y by w ε after.logs z hz p shown_w (with_marks l marks) lw

      u_limit : p ≤ seal_limit g (present_but g y) u z gen
      u_limit = limit_past g ok x y by u δ fd.logs z hz p (sh z hz h)

      w_limit : p ≤ seal_limit g (present_but g y) w z gen
      w_limit = limit_past g ok x y by w ε after.logs z hz p shown_w

      -- the seals are the same
      limits : seal_limit g (present_but g y) u z gen ≡ seal_limit g (present_but g y) w z gen
      unfolding general_heads
      limits = seal_limit_same g (present_but g y) u w z gen (λ e a c. ap (λ (v : ZoneView). least_seal z gen c (map (λ (o : Entry). o.head) (walk_log g e false v.sectors).entries)) (sym (on_general e (named_here g ok x y by e a))))

      -- ---- a zone whose entries are elsewhere, or whose pointer lies inside no stripe
      module _ (b : is_copied g f d z ≡ false) where
        elsewhere : (i : ℕ) → stripe_start g p ≤ i → i < p → ku i ≡ kw i
        unfolding zone_view view_of parity_entries
        elsewhere i s t = known_elsewhere g.drives g.unit z d (zone_view g (present_but g y) u z gen) (zone_view g (present_but g y) w z gen) (λ e. refl)
            (λ e a. ap (λ (v : ZoneView). length v.sectors) (sym (on_data e z (named_here g ok x y by e a)))) (λ e j a. ap (λ (v : ZoneView). get_or v.sectors j []) (sym (on_data e z (named_here g ok x y by e a))))
            (λ e a r. ap₂ (serving_entries g z gen) limits (ap (λ (v : ZoneView). (walk_log g e true v.sectors).entries) (sym (em.others e parity_zone (named_here g ok x y by e a) (inl r) (λ o. omega (arith, o)))))) i other
          where
            same : parity_of g.drives g.unit z i ≡ parity_drive_at g z p
            same = ap (λ (r : ℕ). parity_drive_of g z r) (same_stripe g ok i p s (omega (arith, t)))

            other : parity_of g.drives g.unit z i ≢ d
            other r = true≢false (sym (rw (lt-ltb (stripe_start g p) p (omega (arith, s, t)), eq-eqb d (parity_drive_at g z p) (sym r ∙ same)) refl) ∙ b)

        u_start : stripe_start g p ≤ au
        u_start = shown_least g ok x y by u δ fd.logs z hz p (sh z hz h) (with_marks l (λ i. stripe_start g p)) (raised (stripe_start g p) (let c = (fill_parts g ok p).0 in omega (arith, c)) (λ i a. absurd (start_outside g ok p i)))

        w_start : stripe_start g p ≤ aw
        unfolding marks_by_copy
        w_start = let s : stripe_start g p ≤ marks z = rw b (larger_right (l.committed z) (stripe_start g p)) in le_trans s w_least

        -- all that one shows the other knows
        to_w : au ≤ aw
        to_w =
            let e = u_is in
            let t : au ≤ known_prefix g.drives g.unit z (zone_view g (present_but g y) w z gen) (zone_sectors g) = greatest_max kw (zone_sectors g) au (le_trans u_most (sh z hz h).in_zone_lem) (λ i s. go i s (dec_lt i (stripe_start g p))) in
            let r = w_is in
            omega (arith, t, r, u_most, w_limit)
          where
            go : (i : ℕ) → i < au → Dec (i < stripe_start g p) → kw i ≡ true
            go i s (yes t) = greatest_all kw (zone_sectors g) i (let r = w_is in omega (arith, r, t, w_start))
            go i s (no t) = sym (elsewhere i (omega (arith, t)) (omega (arith, s, u_most))) ∙ greatest_all ku (zone_sectors g) i (let r = u_is in omega (arith, r, s))

        to_u : aw ≤ au
        to_u =
            let t : aw ≤ known_prefix g.drives g.unit z (zone_view g (present_but g y) u z gen) (zone_sectors g) = greatest_max ku (zone_sectors g) aw (le_trans w_most (sh z hz h).in_zone_lem) (λ i s. go i s (dec_lt i (stripe_start g p))) in
            let r = u_is in
            omega (arith, t, r, w_most, u_limit)
          where
            go : (i : ℕ) → i < aw → Dec (i < stripe_start g p) → ku i ≡ true
            go i s (yes t) = greatest_all ku (zone_sectors g) i (let r = u_is in omega (arith, r, t, u_start))
            go i s (no t) = elsewhere i (omega (arith, t)) (omega (arith, s, w_most)) ∙ greatest_all kw (zone_sectors g) i (let r = w_is in omega (arith, r, s))

      -- ---- a zone whose entry was copied, or made: by the copy all below the pointer is known
      w_all : is_copied g f d z ≡ true → aw ≡ p
      unfolding marks_by_copy
      w_all b =
          let s : marks z ≡ p = rw (b, le-leb (l.committed z) p q.least) refl in
          omega (arith, s, w_least, w_most)

      -- by the old log too, where it held the entry
      u_all : is_copied g f d z ≡ true → (e : Entry) → Memᴰ e (parity_entries g u d) → is_at_pointer g f z e ≡ true → au ≡ p
      u_all b e m t =
          let lv = raised p (le_refl p) (λ i a. entry) in
          let r = shown_least g ok x y by u δ fd.logs z hz p (sh z hz h) (with_marks l (λ i. p)) lv in
          omega (arith, r, u_most)
        where
          drive : parity_drive_at g z p ≡ d
          drive = sym (eqb-true d (parity_drive_at g z p) (and_split (inside_stripe g p) (eqb d (parity_drive_at g z p)) b).1)

          lasts : Memᴰ e (cut_entries g d true (δ.parity d) (u d parity_zone).durable)
          lasts = rw (solid, fd.logs.parity_is d hd, cut_all g d true (δ.parity d) (length (sectors_of_all g d true (δ.parity d))) (le_refl (length (sectors_of_all g d true (δ.parity d))))) (es_old g ok x d hd u l δ k fd e m).0

          entry : EntryIn g (parity_drive_at g z p) z gen p ((said g u δ z).parity_lasts (parity_drive_at g z p))
          entry = rw drive (e, lasts, (es_old g ok x d hd u l δ k fd e m).1, header_at g ok d z (f.generation z) p e (es_read g ok x d hd u l δ k fd e m) t ∙ ap (λ (i : ℕ). entry_header g z i p) q.generation_is)

      -- ---- so
      grows : au ≤ aw
      grows = go (is_copied g f d z) refl
        where
          go : (b : Bool) → is_copied g f d z ≡ b → au ≤ aw
          go true b = let e = w_all b in omega (arith, e, u_most)
          go false b = to_w b

      stays : is_made g f u d z ≡ false → aw ≡ au
      stays m = go (is_copied g f d z) refl
        where
          go : (b : Bool) → is_copied g f d z ≡ b → aw ≡ au
          go true b = held (any_of (is_at_pointer g f z) (parity_entries g u d)) refl
            where
              held : (c : Bool) → any_of (is_at_pointer g f z) (parity_entries g u d) ≡ c → aw ≡ au
              held true c = let (e, o, t) = any_of_some (is_at_pointer g f z) (parity_entries g u d) c in w_all b ∙ sym (u_all b e o t)
              held false c = absurd (true≢false (sym (rw (b, c) refl) ∙ m))
          go false b = let r = to_w b in let s = to_u b in omega (arith, r, s)

      gen_u : generation_of g (present_but g y) u z ≡ gen
      gen_u = shown_generation g ok x y by u δ fd.logs z hz p (sh z hz h) l q.live

      gen_w : generation_of g (present_but g y) w z ≡ gen
      gen_w = shown_generation g ok x y by w ε after.logs z hz p shown_w (with_marks l marks) lw

      same_value : (a : ℕ) → a < au → value_at g (present_but g y) w z gen a ≡ value_at g (present_but g y) u z gen a
      same_value a t = shown_value g ok x y by w ε after.logs z hz p shown_w (with_marks l marks) lw a (le_trans t grows) ∙ sym (shown_value g ok x y by u δ fd.logs z hz p (sh z hz h) l q.live a t)

      some_up_to : ShowsUpTo g (present_but g y) u w z p
      some_up_to = record { least = rw (gen_u, gen_w) grows; most = rw gen_w w_most; values = λ a t. rw (gen_u, gen_w) (same_value a (rw gen_u at t)) }

      some_same : is_made g f u d z ≡ false → ShowsSame g (present_but g y) u w z
      some_same m = record { pointer = rw (gen_u, gen_w) (stays m); values = λ a t. rw (gen_u, gen_w) (same_value a (rw gen_u at t)) }

  -- ---- every zone
  module _ (z : ℕ) (hz : z < g.zones) (y : ℕ) (by : NamedBut g x y) where
    none_same : (k.zone z).pointer ≡ zero → ShowsSame g (present_but g y) u w z
    none_same e =
        let a = none_shown g ok x y by z hz u δ l fd.logs (fd.idle z hz e) in
        let b = none_shown g ok x y by z hz w ε (with_marks l marks) after.logs (after.idle z hz e) in
        record { pointer = b ∙ sym a; values = λ i t. absurd (omega (arith, a, t)) }

    -- BY THE COPY
    pub copy_shows_up_to : ShowsUpTo g (present_but g y) u w z (k.zone z).pointer
    copy_shows_up_to = go (some_or_none (k.zone z).pointer)
      where
        go : (zero < (k.zone z).pointer) ⊎ ((k.zone z).pointer ≡ zero) → ShowsUpTo g (present_but g y) u w z (k.zone z).pointer
        go (inl h) = some_up_to z hz h y by
        go (inr h) = same_up_to g (present_but g y) u w z (k.zone z).pointer (none_same h) (let b = none_shown g ok x y by z hz w ε (with_marks l marks) after.logs (after.idle z hz h) in omega (arith, b))

    pub copy_shows_same : is_made g (by_look k) u d z ≡ false → ShowsSame g (present_but g y) u w z
    copy_shows_same m = go (some_or_none (k.zone z).pointer)
      where
        go : (zero < (k.zone z).pointer) ⊎ ((k.zone z).pointer ≡ zero) → ShowsSame g (present_but g y) u w z
        go (inl h) = some_same z hz h y by m
        go (inr h) = none_same h
