-- The partial parity entry at a pointer inside a stripe, made of what the mount's look showed: it reads back, it is whole, and it may join the parity log of
-- its drive: its rows are true, for the sectors below the pointer are there. Steps 10 (an emptied log) and 11 store such entries.
use Rattle.logs.specs.laws.HeadLaws.{generation_small}
use Rattle.std.specs.Prelude.{◌≡◌, true, ℕ, zero, ◌+◌, ◌*◌, ◌%◌, ◌≤◌, ◌<◌, min, length, get_or, take}
use Rattle.std.proofs.Common.{sym, ap₂, ◌∙◌, inl, le_refl, le_trans, mod-lt, arith, length-take, get_or-take, ltb-true, lt-ltb, eq-eqb}
use Rattle.std.proofs.Math.Path.{ap, refl}
use mathlib.Core.List.{List, [], Memᴰ}
use Rattle.tables.specs.meaning.Device.{Device}
use Rattle.tables.specs.meaning.Below.{tabulate_from}
use Rattle.tables.specs.laws.Below.{get_d_tabulate_from, length_tabulate_from}
use Rattle.tables.specs.meaning.Placement.{stripe_of}
use Rattle.tables.specs.laws.Sizes.{stripe_small}
use Rattle.tables.specs.laws.Placement.{stripe_rest}
use Rattle.tables.specs.declared.Geometry.{Geometry}
use Rattle.tables.specs.meaning.Geometry.{Valid, stripe_sectors, parity_drive_of, zone_sectors}
use Rattle.logs.specs.meaning.Entry.{partial_parity, Entry, rows_of}
use Rattle.logs.specs.laws.Walk.{Reads, Whole}
use Rattle.logs.specs.laws.Codec.{reads}
use Rattle.volume.specs.meaning.Content.{at, row_xor_below, inside_stripe, fill_of, entry_header, entry_at, parity_drive_at}
use Rattle.volume.specs.laws.Content.{row_xor_below_cong}
use Rattle.volume.specs.meaning.Rules.{Shown}
use Rattle.promise.specs.meaning.Ledger.{Ledger}
use Rattle.promise.proofs.invariant.Invariant.{Ghost, TrueRows, said, facts_of}
use Rattle.promise.proofs.invariant.SaidMoves.{EntryJoins, with_mark}
use Rattle.promise.proofs.mount.MountFilled.{Kept}

-- a pointer, its stripe and its fill
pub fill_parts : (g : Geometry) → Valid g → (n : ℕ) → (stripe_of g.drives g.unit n * stripe_sectors g + fill_of g n ≡ n) × (fill_of g n < stripe_sectors g)
fill_parts g ok n =
    let e = stripe_rest g.drives g.unit n in
    let l : n % stripe_sectors g < stripe_sectors g = mod-lt n (stripe_small g ok).0 in
    (omega (arith, e), omega (arith, e, l))

-- the entry at zone z's pointer, as the look shows it
abbrev pub entry_shown : Geometry → Shown → ℕ → Entry
entry_shown g k z = entry_at g z (k.zone z).generation (k.zone z).value (k.zone z).pointer

module _ (g : Geometry) (ok : Valid g) (x : ℕ) (u : Device) (δ : Ghost) (l : Ledger) (k : Shown) (z : ℕ) (hz : z < g.zones) (q : Kept g x u δ l k z) where
  abbrev n : ℕ
  n = (k.zone z).pointer

  abbrev S : ℕ
  S = stripe_of g.drives g.unit n

  abbrev F : ℕ
  F = fill_of g n

  pub shown_head : (entry_shown g k z).head ≡ entry_header g z (δ.generation z) (k.zone z).pointer
  unfolding entry_at
  shown_head = ap (λ (m : ℕ). entry_header g z m n) q.generation_is

  shown_rows : (entry_shown g k z).rows ≡ tabulate_from (row_xor_below g.drives g.unit (k.zone z).value S n) zero (min F g.unit)
  unfolding entry_at
  shown_rows = refl

  -- it reads back, and is whole
  pub shown_ok : inside_stripe g (k.zone z).pointer ≡ true → Reads g (parity_drive_at g z (k.zone z).pointer) true (entry_shown g k z).head × Whole g (parity_drive_at g z (k.zone z).pointer) true (entry_shown g k z)
  shown_ok i =
      let (p1, p2) = fill_parts g ok n in
      let top : n ≤ zone_sectors g = le_trans q.most q.live.fits in
      let iw : S * stripe_sectors g < n = ltb-true (S * stripe_sectors g) n i in
      let i1 : S * stripe_sectors g < zone_sectors g = omega (arith, iw, top) in
      let i2 : zero < F = omega (arith, iw) in (
        rw shown_head (reads g ok (parity_drive_at g z n) true (partial_parity z S F (δ.generation z)) (hz, i1, omega (arith, p1, top), generation_small (δ.generation z) (omega (arith, q.unworn)))
            (rw (lt-ltb z g.zones hz, lt-ltb (S * stripe_sectors g) (zone_sectors g) i1, lt-ltb 0 F i2, lt-ltb F (stripe_sectors g) p2, eq-eqb (parity_drive_at g z n) (parity_drive_of g z S) refl) refl)),
        ap length shown_rows ∙ length_tabulate_from (row_xor_below g.drives g.unit (k.zone z).value S n) zero (min F g.unit) ∙ sym (ap (rows_of g) shown_head),
      )

  -- it ends at the pointer
  pub shown_ends : (j f : ℕ) → (entry_shown g k z).head ≡ partial_parity z j f (δ.generation z) → j * stripe_sectors g + f ≡ (k.zone z).pointer
  shown_ends j f r =
      let (r1, r2) = same (sym shown_head ∙ r) in
      let e = (fill_parts g ok n).0 in
      ap₂ (λ (i h : ℕ). i * stripe_sectors g + h) (sym r1) (sym r2) ∙ e
    where
      same : {b c b1 c1 : ℕ} → partial_parity z b c (δ.generation z) ≡ partial_parity z b1 c1 (δ.generation z) → (b ≡ b1) × (c ≡ c1)
      same e = (cc, cc)

  -- it may join, as much of it as there is (m: any mark)
  pub shown_joins : (many m d : ℕ) (p : Entry) → p.head ≡ (entry_shown g k z).head → p.rows ≡ take many (entry_shown g k z).rows
      → EntryJoins g x z (with_mark (facts_of δ l z) m) (said g u δ z) (λ e h. Memᴰ h (δ.general e)) d p
  shown_joins many m d p h r = record {
    telling = λ j f e. inl (tell j f (shown_ends j f (sym h ∙ e)) (sym (stripes j f (sym shown_head ∙ sym h ∙ e))));
    alone = λ wp f e hf c a s ms. inl (let b = shown_ends zero f (sym h ∙ e) in let b2 = q.seals_past c a s ms in omega (arith, b, b2));
    current = rw (h ∙ shown_head) (λ _. (le_refl (δ.generation z), λ r2. absurd (omega (arith, q.unworn))));
  }
    where
      stripes : (j f : ℕ) → partial_parity z S F (δ.generation z) ≡ partial_parity z j f (δ.generation z) → S ≡ j
      stripes j f e = cc

      tell : (j f : ℕ) → j * stripe_sectors g + f ≡ (k.zone z).pointer → j ≡ S → TrueRows g (δ.laid z) j f p.rows
      tell j f e3 r1 =
          let T = row_xor_below g.drives g.unit (k.zone z).value S n in
          let M = min F g.unit in
          let c : p.rows ≡ take many (tabulate_from T zero M) = r ∙ ap (take many) shown_rows in
          record {
            within = rw e3 q.most;
            rows_are = λ v h2. let h3 : v < min many M = rw (length-take, length_tabulate_from T zero M) at (rw c at h2) in
                let z0 : zero + v ≡ v = omega arith in
                ap (λ (y : List (List ℕ)). get_or y v []) c ∙ get_or-take many (tabulate_from T zero M) v [] (omega arith) ∙ get_d_tabulate_from T zero M v (omega arith) ∙ ap T z0
                ∙ row_xor_below_cong g.drives g.unit (k.zone z).value (at (δ.laid z)) S n v q.values ∙ rw (e3, r1) refl;
          }
