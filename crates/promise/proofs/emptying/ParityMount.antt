-- THE EMPTYING OF ONE PARITY LOG INSIDE A MOUNT (step 10), where all below the look's pointers is held and lasts (Filled). By the old log the invariant holds
-- with the marks that held before; by the copy with marks raised as far as its entries allow: to the pointer of a zone whose entry was
-- copied or made, else to the start of the pointer's stripe. A stop and a cut choose between the two; finished, Filled holds again.
use Rattle.std.specs.Prelude.{◌≡◌, ◌≢◌, ◌⊎◌, Bool, ◌&&◌, length, take, eqb}
use Rattle.std.proofs.Math.Path.{refl}
use Rattle.std.proofs.Common.{sym, ap, ◌∙◌, subst, inl, inr, true≢false, le_refl, le_trans, le_of_eq, mul-le-mul_right, arith, eq-eqb, eqb-true, le-leb, ltb-true, lt-ltb}
use Rattle.std.proofs.Math.Bool.{true, false}
use Prim.Native.Nat.{ℕ, zero, suc, ◌+◌, ◌-◌, ◌*◌, ◌^◌, ◌≤◌, ◌<◌, zero-le}
use Rattle.std.proofs.Math.Decide.{ℕ_discrete, dec_lt}
use mathlib.Core.List.{List, [], ◌∷◌, ◌++◌, Memᴰ}
use Rattle.tables.specs.laws.Placement.{stripe_of_sum}
use Rattle.tables.specs.meaning.Basics.{pick}
use Rattle.tables.specs.meaning.Below.{larger}
use Rattle.tables.specs.laws.Basics.{and_split}
use Rattle.tables.specs.laws.Below.{larger_left, larger_right, larger_one}
use Rattle.tables.specs.laws.Lists.{mem_left}
use Rattle.tables.specs.meaning.Device.{ZoneView, Device}
use Rattle.tables.specs.meaning.Placement.{stripe_of, needed}
use Rattle.tables.specs.laws.Placement.{needed_mono}
use Rattle.tables.specs.laws.Drives.{present_below}
use Rattle.tables.specs.declared.Geometry.{Geometry}
use Rattle.tables.specs.meaning.Geometry.{Valid, stripe_sectors, parity_drive_of, data_zone}
use Rattle.logs.specs.meaning.Entry.{parity_zone, Header, partial_parity, closing, Entry}
use Rattle.logs.specs.laws.Heads.{zone_gen}
use Rattle.logs.specs.laws.Walk.{Whole, cut_entries}
use Rattle.volume.specs.meaning.Content.{inside_stripe, fill_of, parity_drive_at, entry_header}
use Rattle.volume.specs.meaning.Rules.{Shown, parity_entries}
use Rattle.volume.specs.meaning.Emptying.{InForce, by_look, is_copied, parity_copies, new_parity_size}
use Rattle.promise.specs.meaning.Ledger.{Ledger}
use Rattle.promise.proofs.device.Marks.{with_marks, MarksAbove}
use Rattle.promise.proofs.invariant.Invariant.{Ghost, Here, LogsOk, Live, Dying, Inv, said, facts_of, SurvivesLossIn, closing_entry}
use Rattle.promise.proofs.invariant.SaidMoves.{EntryJoins, with_mark}
use Rattle.promise.proofs.mount.MountEntryAt.{fill_parts}
use Rattle.promise.proofs.emptying.CopiedParity.{CopyOf, copied_at_lem, copy_header, new_log}
use Rattle.promise.proofs.emptying.ParityLogs.{ParityCopyOf, ParityEmptiedTo, parity_ghost, entry_ok, by_drive, data_on, lasting_by, parity_emptied_logs}
use Rattle.promise.proofs.emptying.EmptiedParity.{EntryIn}
use Rattle.promise.proofs.emptying.EmptiedParityInv.{nothing_lost, MarksFit, MadeJoin, NoneMadeOf, CopyFits, parity_copy_live, parity_copy_dying, parity_copy_inv}
use Rattle.promise.proofs.emptying.ParityFilled.{FilledZone, Filled, some_or_none, filled_inv, inside_some, MadeFor, made_some, made_zone, made_head, made_joins, es_read, filled_copies, filled_copy}

-- the first sector of a pointer's stripe
abbrev pub stripe_start : Geometry → ℕ → ℕ
stripe_start g n = stripe_of g.drives g.unit n * stripe_sectors g

-- the marks by the copy of drive d's log
unfoldable pub marks_by_copy : Geometry → Shown → Ledger → ℕ → ℕ → ℕ
marks_by_copy g k l d z = larger (l.committed z) (pick (is_copied g (by_look k) d z) (k.zone z).pointer (stripe_start g (k.zone z).pointer))

pub marks_by_copy_above : (g : Geometry) (k : Shown) (l : Ledger) (d : ℕ) → MarksAbove l (marks_by_copy g k l d)
unfolding marks_by_copy
marks_by_copy_above g k l d z = larger_left (l.committed z) (pick (is_copied g (by_look k) d z) (k.zone z).pointer (stripe_start g (k.zone z).pointer))

-- a stripe's start lies inside none
pub start_outside : (g : Geometry) → Valid g → (n : ℕ) → inside_stripe g (stripe_start g n) ≡ true → ⊥
start_outside g ok n i =
    let s = stripe_of g.drives g.unit n in
    let p = fill_parts g ok n in
    let e : s * stripe_sectors g + zero ≡ s * stripe_sectors g = omega arith in
    let t : stripe_of g.drives g.unit (s * stripe_sectors g) ≡ s = ap (stripe_of g.drives g.unit) (sym e) ∙ stripe_of_sum g.drives g.unit s zero (omega (arith, p.1)) in
    let h : s * stripe_sectors g < s * stripe_sectors g = rw t at (ltb-true (stripe_of g.drives g.unit (s * stripe_sectors g) * stripe_sectors g) (s * stripe_sectors g) i) in
    omega (arith, h)

-- past its start and not past the pointer: of its stripe
pub same_stripe : (g : Geometry) → Valid g → (m n : ℕ) → stripe_start g n ≤ m → m ≤ n → stripe_of g.drives g.unit m ≡ stripe_of g.drives g.unit n
same_stripe g ok m n h k =
    let s = stripe_of g.drives g.unit n in
    let (a, b) = fill_parts g ok n in
    let e : s * stripe_sectors g + (m - s * stripe_sectors g) ≡ m = omega (arith, h) in
    ap (stripe_of g.drives g.unit) (sym e) ∙ stripe_of_sum g.drives g.unit s (m - s * stripe_sectors g) (omega (arith, h, k, a, b))

module _ (g : Geometry) (ok : Valid g) (x d : ℕ) (hd : Here g x d) (u : Device) (l : Ledger) (δ : Ghost) (k : Shown) (fd : Filled g x u l δ k) (n : ℕ) (n1 : 0 < n) (n_lt : n < 256 ^ 8) (room : new_parity_size g (by_look k) d ≤ g.capacity)
    (w : Device) where
  abbrev f : InForce
  f = by_look k

  abbrev es : List Entry
  es = parity_entries g u d

  abbrev pub copy : List Entry
  copy = new_log g (by_look k) d (parity_entries g u d) n

  abbrev Made : Entry → Type 0
  Made = MadeFor g ok x d hd u l δ k fd

  pub pc : ParityCopyOf g d δ Made copy n
  pc = filled_copy g ok x d hd u l δ k fd n room

  abbrev ε : Ghost
  ε = parity_ghost δ d copy n

  abbrev pub marks : ℕ → ℕ
  marks = marks_by_copy g k l d

  module _ (em : ParityEmptiedTo g x d u w copy) where
    lasting : (e : ℕ) → Here g x e → (Q : List Entry → Type 0) → (e ≡ d → Q copy) → (e ≢ d → Q (cut_entries g e true (δ.parity e) (u e parity_zone).durable)) → Q (cut_entries g e true (ε.parity e) (w e parity_zone).durable)
    lasting = lasting_by g ok x d hd u w δ fd.logs Made copy n n1 n_lt pc em

    on_data : (e z : ℕ) → Here g x e → w e (data_zone z) ≡ u e (data_zone z)
    on_data = data_on g ok x d hd u w δ fd.logs Made copy n n1 n_lt pc em

    -- ---- a zone with sectors
    module _ (z : ℕ) (hz : z < g.zones) (q : FilledZone g x u l δ k z) where
      abbrev p : ℕ
      p = (k.zone z).pointer

      start_most : stripe_start g p ≤ p
      start_most = let b = (fill_parts g ok p).0 in omega (arith, b)

      -- the entry at the pointer is in the copy
      entry_copied : is_copied g f d z ≡ true → EntryIn g d z (δ.generation z) p (λ e. Memᴰ e copy)
      entry_copied b =
          let (e, m, c) = copied_at_lem g f d es z hz b in
          let o = mem_left (parity_copies g f d es) (closing_entry 1 n ∷ []) e m in
          (e, o, (entry_ok g ok x d hd u w δ fd.logs Made copy n n1 n_lt pc e o).1, copy_header g f d es ok (es_read g ok x d hd u l δ k fd) z e c ∙ ap (λ (i : ℕ). entry_header g z i p) q.generation_is)

      -- all below a mark not past the pointer is held
      held_below : (c : ℕ) → c ≤ p → (e : ℕ) → Here g x e → needed g.drives g.unit z c e ≤ (w e (data_zone z)).durable
      held_below c h e a =
          let s : c + (p - c) ≡ p = omega (arith, h) in
          let t : needed g.drives g.unit z c e ≤ needed g.drives g.unit z p e = rw s at (needed_mono g.drives g.unit z (omega (arith, ok.drives_least)) (omega (arith, ok.unit_least)) (p - c) c e (present_below g x e a)) in
          rw (on_data e z a) (le_trans t (q.places e a))

      -- a mark that fits: not past the pointer, and its entry is there
      fits_mark : (c : ℕ) → c ≤ p → (inside_stripe g c ≡ true → Here g x (parity_drive_at g z c) → EntryIn g (parity_drive_at g z c) z (δ.generation z) c ((said g w ε z).parity_lasts (parity_drive_at g z c))) → MarksFit g x z w δ ε l c
      fits_mark c h e = record { most = le_trans h q.most; above = λ i a s m. le_trans h (q.seals_past i a s m); strong = record { places = held_below c h; entry = e } }

      at_pointer : is_copied g f d z ≡ true → MarksFit g x z w δ ε l p
      at_pointer b = fits_mark p (le_refl p) (λ i a. entry i a)
        where
          drive : parity_drive_at g z p ≡ d
          drive = sym (eqb-true d (parity_drive_at g z p) (and_split (inside_stripe g p) (eqb d (parity_drive_at g z p)) b).1)

          entry : inside_stripe g p ≡ true → Here g x (parity_drive_at g z p) → EntryIn g (parity_drive_at g z p) z (δ.generation z) p ((said g w ε z).parity_lasts (parity_drive_at g z p))
          entry i a =
              let (e, m, o, h) = entry_copied b in
              (e, lasting (parity_drive_at g z p) a (λ es. Memᴰ e es) (λ t. m) (λ t. absurd (t drive)), o, h)

      at_start : MarksFit g x z w δ ε l (stripe_start g p)
      at_start = fits_mark (stripe_start g p) start_most (λ i a. absurd (start_outside g ok p i))

      -- the old mark, where it lies past the start of the pointer's stripe, whose entries are on another drive
      at_old : is_copied g f d z ≡ false → stripe_start g p ≤ l.committed z → MarksFit g x z w δ ε l (l.committed z)
      at_old b h = fits_mark (l.committed z) q.least (λ i a. entry i a)
        where
          same : parity_drive_at g z (l.committed z) ≡ parity_drive_at g z p
          same = ap (λ (s : ℕ). parity_drive_of g z s) (same_stripe g ok (l.committed z) p h q.least)

          inside : inside_stripe g (l.committed z) ≡ true → inside_stripe g p ≡ true
          inside i =
              let t = ltb-true (stripe_of g.drives g.unit (l.committed z) * stripe_sectors g) (l.committed z) i in
              let s = same_stripe g ok (l.committed z) p h q.least in
              let t2 : stripe_start g p < l.committed z = rw s at t in
              lt-ltb (stripe_start g p) p (omega (arith, t2, q.least))

          elsewhere : inside_stripe g (l.committed z) ≡ true → parity_drive_at g z (l.committed z) ≢ d
          elsewhere i t = true≢false (sym (rw (inside i, eq-eqb d (parity_drive_at g z p) (sym (sym same ∙ t))) refl) ∙ b)

          entry : inside_stripe g (l.committed z) ≡ true → Here g x (parity_drive_at g z (l.committed z)) → EntryIn g (parity_drive_at g z (l.committed z)) z (δ.generation z) (l.committed z) ((said g w ε z).parity_lasts (parity_drive_at g z (l.committed z)))
          entry i a =
              let (e, m, o, t) = q.live.strong.entry i a in
              (e, lasting (parity_drive_at g z (l.committed z)) a (λ es. Memᴰ e es) (λ r. absurd (elsewhere i r)) (λ r. m), o, t)

      -- so: the marks by the copy
      pub copy_marks : MarksFit g x z w δ ε l (marks z)
      unfolding marks_by_copy
      copy_marks = go (is_copied g f d z) refl
        where
          go : (b : Bool) → is_copied g f d z ≡ b → MarksFit g x z w δ ε l (larger (l.committed z) (pick (is_copied g f d z) p (stripe_start g p)))
          go true b =
              let e : larger (l.committed z) p ≡ p = rw (le-leb (l.committed z) p q.least) refl in
              rw (b, e) (at_pointer b)
          go false b = rw b (two (larger_one (l.committed z) (stripe_start g p)))
            where
              two : (larger (l.committed z) (stripe_start g p) ≡ l.committed z) ⊎ (larger (l.committed z) (stripe_start g p) ≡ stripe_start g p) → MarksFit g x z w δ ε l (larger (l.committed z) (stripe_start g p))
              two (inl e) = rw e (at_old b (let r = larger_right (l.committed z) (stripe_start g p) in omega (arith, e, r)))
              two (inr e) = rw e at_start

    -- ---- made entries are of zones with sectors, and may join them
    made_of : (z : ℕ) (e : Entry) (m : Made e) (T : Type 0) → (m.zone ≡ z → T) → zone_gen e.head (λ y i. y ≡ z → T)
    made_of z e m T h = subst (λ (i : Header). zone_gen i (λ y j. y ≡ z → T)) (sym (made_head g ok x d hd u l δ k fd e m)) h

    abbrev Joins : ℕ → Entry → Type 0
    Joins z e = EntryJoins g x z (with_mark (facts_of δ l z) zero) (said g u δ z) (said g w ε z).general d e

    made_join : (z : ℕ) → MadeJoin g ok x d hd u w δ fd.logs Made copy n n1 n_lt pc em l z
    made_join z e m = made_of z e m (Joins z e) (λ q. subst (λ (y : ℕ). Joins y e) q (made_joins g ok x d hd u l δ k fd e m (said g w ε m.zone) zero (λ i h o. o)))

    none_made : (z : ℕ) → (k.zone z).pointer ≡ zero → NoneMadeOf g ok x d hd u w δ fd.logs Made copy n n1 n_lt pc em z
    none_made z h e m = made_of z e m ⊥ (λ q. let s = made_some g ok x d hd u l δ k fd e m in let t : (k.zone m.zone).pointer ≡ zero = ap (λ (y : ℕ). (k.zone y).pointer) q ∙ h in omega (arith, s, t))

    -- ---- a zone without sectors keeps its mark
    pub idle_marks : (z : ℕ) → (k.zone z).pointer ≡ zero → marks z ≡ l.committed z
    unfolding marks_by_copy
    idle_marks z h = go (pick (is_copied g f d z) (k.zone z).pointer (stripe_start g (k.zone z).pointer)) (none (is_copied g f d z))
      where
        none : (b : Bool) → pick b (k.zone z).pointer (stripe_start g (k.zone z).pointer) ≡ zero
        none true = h
        none false = let b = (fill_parts g ok (k.zone z).pointer).0 in omega (arith, b, h)

        go : (y : ℕ) → y ≡ zero → larger (l.committed z) y ≡ l.committed z
        go y q = two (larger_one (l.committed z) y)
          where
            two : (larger (l.committed z) y ≡ l.committed z) ⊎ (larger (l.committed z) y ≡ y) → larger (l.committed z) y ≡ l.committed z
            two (inl e) = e
            two (inr e) = let r = larger_left (l.committed z) y in omega (arith, e, r, q)

    unmarked : (z : ℕ) → Live g x u δ l z → length (l.content z) ≡ zero → l.committed z ≡ zero
    unmarked z q e = let c : l.committed z ≤ length (l.content z) = q.committed_most in omega (arith, c, e)

    nothing_marked : (z : ℕ) → MarksFit g x z w δ ε l zero
    nothing_marked z = record { most = zero-le; above = λ i a s m. zero-le; strong = nothing_lost g ok x z (δ.generation z) (λ e. (w e (data_zone z)).durable) (said g w ε z).parity_lasts }

    copy_fits : (z : ℕ) → z < g.zones → CopyFits g ok x d hd u w δ fd.logs Made copy n n1 n_lt pc em l marks z
    copy_fits z hz = go (some_or_none (k.zone z).pointer)
      where
        idle : (k.zone z).pointer ≡ zero → (Live g x u δ l z × (length (l.content z) ≡ zero)) ⊎ Dying g x u δ l z → CopyFits g ok x d hd u w δ fd.logs Made copy n n1 n_lt pc em l marks z
        idle h (inl (q, e)) = inl (q, made_join z, rw (idle_marks z h, unmarked z q e) (nothing_marked z))
        idle h (inr q) = inr (q, none_made z h, idle_marks z h)

        go : (zero < (k.zone z).pointer) ⊎ ((k.zone z).pointer ≡ zero) → CopyFits g ok x d hd u w δ fd.logs Made copy n n1 n_lt pc em l marks z
        go (inl h) = let q = fd.staying z hz h in inl (q.live, made_join z, copy_marks z hz q)
        go (inr h) = idle h (fd.idle z hz h)

    -- THE INVARIANT BY THE COPY
    pub filled_copy_inv : Inv g x w (with_marks l marks) ε
    filled_copy_inv = parity_copy_inv g ok x d hd u w δ fd.logs Made copy n n1 n_lt pc em l marks copy_fits

    -- AND ALL IS FILLED STILL
    marks_most : (z : ℕ) → FilledZone g x u l δ k z → marks z ≤ (k.zone z).pointer
    unfolding marks_by_copy
    marks_most z q = go (is_copied g f d z)
      where
        two : (y : ℕ) → y ≤ (k.zone z).pointer → (larger (l.committed z) y ≡ l.committed z) ⊎ (larger (l.committed z) y ≡ y) → larger (l.committed z) y ≤ (k.zone z).pointer
        two y h (inl e) = rw e q.least
        two y h (inr e) = rw e h

        go : (b : Bool) → larger (l.committed z) (pick b (k.zone z).pointer (stripe_start g (k.zone z).pointer)) ≤ (k.zone z).pointer
        go true = two (k.zone z).pointer (le_refl (k.zone z).pointer) (larger_one (l.committed z) (k.zone z).pointer)
        go false = two (stripe_start g (k.zone z).pointer) (let b = (fill_parts g ok (k.zone z).pointer).0 in omega (arith, b)) (larger_one (l.committed z) (stripe_start g (k.zone z).pointer))

    pub filled_still : Filled g x w (with_marks l marks) ε k
    filled_still = record {
      logs = parity_emptied_logs g ok x d hd u w δ fd.logs Made copy n n1 n_lt pc em;
      whole = λ e a. by_drive g ok x d hd u w δ fd.logs Made copy n n1 n_lt pc em e (λ es v. (p : Entry) → Memᴰ p es → Whole g e true p) a (λ t p m. (entry_ok g ok x d hd u w δ fd.logs Made copy n n1 n_lt pc p m).1) (λ t. fd.whole e a);
      staying = λ z hz h. let q = fd.staying z hz h in record {
        live = parity_copy_live g ok x d hd u w δ fd.logs Made copy n n1 n_lt pc em l z hz q.live (made_join z) marks (copy_marks z hz q);
        generation_is = q.generation_is;
        unworn = q.unworn;
        least = marks_most z q;
        most = q.most;
        values = q.values;
        seals_past = q.seals_past;
        places = λ e a. rw (on_data e z a) (q.places e a);
      };
      idle = λ z hz h. idle z hz h (fd.idle z hz h);
    }
      where
        idle : (z : ℕ) → z < g.zones → (k.zone z).pointer ≡ zero → (Live g x u δ l z × (length (l.content z) ≡ zero)) ⊎ Dying g x u δ l z → (Live g x w ε (with_marks l marks) z × (length (l.content z) ≡ zero)) ⊎ Dying g x w ε (with_marks l marks) z
        idle z hz h (inl (q, e)) = inl (parity_copy_live g ok x d hd u w δ fd.logs Made copy n n1 n_lt pc em l z hz q (made_join z) marks (rw (idle_marks z h, unmarked z q e) (nothing_marked z)), e)
        idle z hz h (inr q) = inr (parity_copy_dying g ok x d hd u w δ fd.logs Made copy n n1 n_lt pc em l z hz q (none_made z h) marks (idle_marks z h))
