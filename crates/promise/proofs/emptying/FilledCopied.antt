-- A mount's device, filled (mount's MountFilled), before and after a parity log is emptied in step 10: ParityFilled's facts follow from it, and by the copy it is filled
-- still, with the marks by the copy. (u, δ: the device by its roles and its ghosts; d: the drive; w: the device then.)
use Rattle.std.specs.Prelude.{◌≡◌, refl, ◌⊎◌, ℕ, zero, ◌+◌, ◌*◌, ◌^◌, ◌≤◌, ◌<◌, length}
use Rattle.std.proofs.Common.{sym, ap, ap₂, ◌∙◌, inl, inr, le_of_eq, arith}
use mathlib.Core.List.{List, Memᴰ}
use Rattle.tables.specs.laws.Lists.{prefix_length}
use Rattle.tables.specs.meaning.Device.{Device}
use Rattle.tables.specs.meaning.Placement.{stripe_of}
use Rattle.tables.specs.declared.Geometry.{Geometry}
use Rattle.tables.specs.meaning.Geometry.{Valid, stripe_sectors, data_zone}
use Rattle.logs.specs.meaning.Entry.{general_zone, partial_parity, closing, Entry}
use Rattle.volume.specs.meaning.Content.{entry_header, fill_of}
use Rattle.volume.specs.meaning.State.{set_at}
use Rattle.volume.specs.meaning.Rules.{Shown, parity_entries}
use Rattle.volume.specs.meaning.Emptying.{by_look, new_parity_size}
use Rattle.promise.specs.meaning.Ledger.{Ledger}
use Rattle.promise.proofs.device.Marks.{with_marks}
use Rattle.promise.proofs.invariant.Invariant.{Ghost, Here, Live, Dying}
use Rattle.promise.proofs.look.LookLive.{some_present}
use Rattle.promise.proofs.mount.MountRuns.{AllDurable}
use Rattle.promise.proofs.mount.MountFilled.{Kept, OpenNow, WornNow, GoneNow, ZoneNow, kept_now, worn_now, gone_now, FilledNow, kept_at, kept_content, filled_on}
use Rattle.promise.proofs.mount.MountEntryAt.{fill_parts}
use Rattle.promise.proofs.emptying.CopiedParity.{new_log}
use Rattle.promise.proofs.emptying.ParityLogs.{Among, ParityEmptiedTo, parity_ghost, parity_closed, by_drive, data_on, general_on}
use Rattle.promise.proofs.emptying.ParityFilled.{FilledZone, Filled, MadeFor, made_head}
use Rattle.promise.proofs.emptying.ParityMount.{pc, marks_by_copy, filled_still}

-- a worn zone has no content
worn_none : (g : Geometry) (x : ℕ) (u : Device) (δ : Ghost) (l : Ledger) (k : Shown) (z : ℕ) → WornNow g x u δ l k z → length (l.content z) ≡ zero
worn_none g x u δ l k z q =
    let e = ap length (q.live.worn_empty q.most).0 in
    let p = prefix_length q.live.front in
    omega (arith, e, p)

-- BEFORE: all below the look's pointers is held and lasts
pub filled_before : (g : Geometry) → Valid g → (x : ℕ) (u : Device) (δ : Ghost) (l : Ledger) (k : Shown) → FilledNow g x u δ l k → Filled g x u l δ k
filled_before g ok x u δ l k f = record { logs = f.logs; whole = f.whole; staying = λ z hz h. some z hz (kept_at g x u δ l k f z hz h); idle = λ z hz h. none z h (f.zones z hz) }
  where
    some : (z : ℕ) → z < g.zones → Kept g x u δ l k z → FilledZone g x u l δ k z
    some z hz q = record {
      live = q.live;
      generation_is = q.generation_is;
      unworn = q.unworn;
      least = q.least;
      most = kept_content g ok x u δ l k z q;
      values = q.values;
      seals_past = q.seals_past;
      places = λ e a. rw (f.settled.lasts e (data_zone z) a) (q.places e a);
    }

    none : (z : ℕ) → (k.zone z).pointer ≡ zero → ZoneNow g x u δ l k z → (Live g x u δ l z × (length (l.content z) ≡ zero)) ⊎ Dying g x u δ l z
    none z h (kept_now q) = absurd (omega (arith, h, q.some))
    none z h (worn_now q) = inl (q.live, worn_none g x u δ l k z q)
    none z h (gone_now q) = inr q.dying

module _ (g : Geometry) (ok : Valid g) (x d : ℕ) (hd : Here g x d) (u : Device) (δ : Ghost) (l : Ledger) (k : Shown) (f : FilledNow g x u δ l k) (n : ℕ) (n1 : 0 < n) (n_lt : n < 256 ^ 8) (room : new_parity_size g (by_look k) d ≤ g.capacity)
    (w : Device) (em : ParityEmptiedTo g x d u w (new_log g (by_look k) d (parity_entries g u d) n)) where
  abbrev fd : Filled g x u l δ k
  fd = filled_before g ok x u δ l k f

  abbrev copy : List Entry
  copy = new_log g (by_look k) d (parity_entries g u d) n

  abbrev ε : Ghost
  ε = parity_ghost δ d copy n

  abbrev l' : Ledger
  l' = with_marks l (marks_by_copy g k l d)

  abbrev Made : Entry → Type 0
  Made = MadeFor g ok x d hd u l δ k fd

  still : Filled g x w l' ε k
  still = filled_still g ok x d hd u l δ k fd n n1 n_lt room w em

  -- a zone without a pointer is what it was
  worn_live : (z : ℕ) → z < g.zones → WornNow g x u δ l k z → Live g x w ε l' z
  worn_live z hz q = go (still.idle z hz q.none)
    where
      go : (Live g x w ε l' z × (length (l.content z) ≡ zero)) ⊎ Dying g x w ε l' z → Live g x w ε l' z
      go (inl h) = h.0
      go (inr h) = absurd (omega (arith, h.generation_top, q.most))

  gone_dying : (z : ℕ) → z < g.zones → GoneNow g x u δ l k z → Dying g x w ε l' z
  gone_dying z hz q = go (still.idle z hz q.none)
    where
      go : (Live g x w ε l' z × (length (l.content z) ≡ zero)) ⊎ Dying g x w ε l' z → Dying g x w ε l' z
      go (inr h) = h
      go (inl h) =
          let (e, a) = some_present g ok x in
          let same = general_on g ok x d hd u w δ f.logs Made copy n n1 n_lt (pc g ok x d hd u l δ k fd n n1 n_lt room w) em e a in
          let i = h.0.counts e a (w e general_zone).durable (le_of_eq refl) in
          let j = q.past e a (w e general_zone).durable (le_of_eq (ap (λ z. z.durable) (sym same))) in
          absurd (omega (arith, i, j))

  -- AND AFTER, all of it lasting
  pub copied_filled : AllDurable g x w → FilledNow g x w (parity_ghost δ d (new_log g (by_look k) d (parity_entries g u d) n) n) (with_marks l (marks_by_copy g k l d)) k
  copied_filled st = filled_on g x u δ l k f w (set_at δ.parity d copy) (parity_closed δ.closed d n) l' still.logs (λ z hz q. (still.staying z hz q.some).live) worn_live gone_dying st (λ z hz q. (still.staying z hz q.some).least)
      (λ i a. general_on g ok x d hd u w δ f.logs Made copy n n1 n_lt (pc g ok x d hd u l δ k fd n n1 n_lt room w) em i a) (λ z i a. data_on g ok x d hd u w δ f.logs Made copy n n1 n_lt (pc g ok x d hd u l δ k fd n n1 n_lt room w) em i z a) still.whole ends
    where
      ends : (z : ℕ) → z < g.zones → Kept g x u δ l k z → OpenNow g x u δ k z → (i : ℕ) → Here g x i → (e : Entry) → Memᴰ e (ε.parity i) → (s j : ℕ) → e.head ≡ partial_parity z s j (δ.generation z) → s * stripe_sectors g + j ≤ (k.zone z).pointer
      ends z hz q o i a = by_drive g ok x d hd u w δ f.logs Made copy n n1 n_lt (pc g ok x d hd u l δ k fd n n1 n_lt room w) em i (λ r v. (e : Entry) → Memᴰ e r → (s j : ℕ) → e.head ≡ partial_parity z s j (δ.generation z) → s * stripe_sectors g + j ≤ (k.zone z).pointer) a
          (λ t e m s j h. one e s j h ((pc g ok x d hd u l δ k fd n n1 n_lt room w).from e m)) (λ t e m. o.ends_in i a e m)
        where
          same : (y s j : ℕ) → entry_header g y (δ.generation y) (k.zone y).pointer ≡ partial_parity z s j (δ.generation z) → stripe_of g.drives g.unit (k.zone y).pointer * stripe_sectors g + fill_of g (k.zone y).pointer ≡ (k.zone y).pointer
              → s * stripe_sectors g + j ≤ (k.zone z).pointer
          same y s j r p =
              let a : y ≡ z = cc in
              let b : stripe_of g.drives g.unit (k.zone y).pointer ≡ s = cc in
              let c : fill_of g (k.zone y).pointer ≡ j = cc in
              le_of_eq (ap₂ (λ (i h : ℕ). i * stripe_sectors g + h) (sym b) (sym c) ∙ p ∙ ap (λ (i : ℕ). (k.zone i).pointer) a)

          one : (e : Entry) (s j : ℕ) → e.head ≡ partial_parity z s j (δ.generation z) → Among δ d Made n e → s * stripe_sectors g + j ≤ (k.zone z).pointer
          one e s j h (inl (m, t)) = o.ends_in d hd e m s j h
          one e s j h (inr (inl t)) = absurd (let r : closing 1 n ≡ partial_parity z s j (δ.generation z) = ap (λ (p : Entry). p.head) (sym t) ∙ h in let v : ◌≡◌ {A = ℕ} 0 1 = cc in omega arith)
          one e s j h (inr (inr t)) =
              let y = t.zone in
              let r : entry_header g y (δ.generation y) (k.zone y).pointer ≡ partial_parity z s j (δ.generation z) = sym (made_head g ok x d hd u l δ k fd e t) ∙ h in
              same y s j r (fill_parts g ok (k.zone y).pointer).0
