-- A call that was stopped: of each present place a front is there of what the finished call would have left, and no less of it lasts. The
-- invariant of the finished call's device holds for it. (A cut and a flush are such too.)
use Rattle.tables.specs.laws.Lists.{prefix_is_take, Prefix, prefix_length, mem_take, mem_more, take_map}
use Rattle.std.specs.Prelude.{◌≡◌, ℕ, zero, suc, ◌+◌, ◌-◌, ◌≤◌, ◌<◌, List, [], ◌∷◌, ◌++◌, map, length}
use Rattle.std.proofs.Math.Path.{refl, ap}
use Rattle.std.proofs.Common.{◌∙◌, sym, le_refl, not-suc-le-zero, arith, append_assoc, length-append}
use Rattle.std.proofs.Math.Bool.{true}
use Rattle.std.proofs.Math.Nat.{le_trans}
use Rattle.std.proofs.Math.Decide.{dec_lt}
use Rattle.std.proofs.Math.ListN.{take, length-take}
use Rattle.std.proofs.Math.Seq.{take_all, take-take}
use Rattle.tables.specs.meaning.Device.{ZoneView, Device, appended}
use Rattle.tables.specs.laws.Local.{LocalStore, append_here, apply_all_here}
use Rattle.tables.specs.declared.Geometry.{Geometry}
use Rattle.logs.specs.meaning.Entry.{general_zone, parity_zone, Header, label, Entry, encode, closing}
use Rattle.tables.specs.meaning.Geometry.{physical_zones, data_zone}
use Rattle.logs.specs.laws.Walk.{cut_entries, cut_mono, cut_flat, cut_lawful, cut_left, cut_extent, cut_cut}
use Rattle.promise.specs.meaning.Ledger.{Ledger}
use Rattle.promise.proofs.invariant.Invariant.{Ghost, Here, LogsOk, Inv, closing_entry}
use Rattle.promise.proofs.invariant.HoldsLess.{with_logs, Less, less_zone}
use Rattle.promise.proofs.invariant.LastLabels.{names_later, names_front}

-- b after a part of what makes a
pub record Part (a b : ZoneView) : Type 0 where
  pub front : Prefix b.sectors a.sectors
  pub least : a.durable ≤ b.durable
  pub most : b.durable ≤ length b.sectors

abbrev pub Parts : Geometry → ℕ → Device → Device → Type 0
Parts g x v w = (d y : ℕ) → Here g x d → y < physical_zones g → Part (v d y) (w d y)

-- sectors added: a front of the operations adds a front of them
pub adds_part : (ss : List (List ℕ)) (os : List LocalStore) (a : ZoneView) → Prefix os (map append_here ss) → a.durable ≤ length a.sectors → Part (record { sectors = a.sectors ++ ss; durable = a.durable }) (apply_all_here os a)
adds_part ss [] a p h = record { front = record { rest = ss; is = refl }; least = le_refl a.durable; most = h }
adds_part [] (o ∷ os) a p h = absurd (let e : o ∷ (os ++ p.rest) ≡ [] = p.is in let z : ◌≡◌ {A = ℕ} 0 1 = cc in omega arith)
adds_part (s ∷ ss) (o ∷ os) a p h =
    let e : o ∷ (os ++ p.rest) ≡ append_here s ∷ map append_here ss = p.is in
    let q : o ≡ append_here s = cc in
    let r : os ++ p.rest ≡ map append_here ss = cc in
    let k = adds_part ss os (appended s a) (record { rest = p.rest; is = r }) (simp length-append (omega arith)) in
    rw q (record { front = record { rest = k.front.rest; is = k.front.is ∙ append_assoc a.sectors (s ∷ []) ss }; least = k.least; most = k.most })

-- ---- the ghosts of what is there
pub part_general : Device → Ghost → ℕ → List Header
part_general w γ d = take (length (w d general_zone).sectors) (γ.general d)

pub part_parity : Geometry → Device → Ghost → ℕ → List Entry
part_parity g w γ d = cut_entries g d true (γ.parity d) (length (w d parity_zone).sectors)

module _ (g : Geometry) (x : ℕ) (v w : Device) (γ : Ghost) (lg : LogsOk g x v γ) (k : Parts g x v w) where
  g0 : general_zone < physical_zones g
  g0 = omega arith

  g1 : parity_zone < physical_zones g
  g1 = omega arith

  cut_first : (n : ℕ) (hs : List Header) (y a : ℕ) → 1 ≤ n → (t : List Header) → hs ≡ label y a ∷ t → (u : ℕ) × (r : List Header) × (take n hs ≡ label u a ∷ r)
  cut_first zero hs y a h t e = absurd (not-suc-le-zero h)
  cut_first (suc n) hs y a h t e = (y, take n t, rw e refl)

  pub part_logs : LogsOk g x w (with_logs γ (part_general w γ) (part_parity g w γ))
  unfolding part_general part_parity
  part_logs = record {
    lost_ok = lg.lost_ok;
    array_lt = lg.array_lt;
    general_is = λ d a. prefix_is_take (w d general_zone).sectors (v d general_zone).sectors (k d general_zone a g0).front ∙ ap (take (length (w d general_zone).sectors)) (lg.general_is d a) ∙ take_map (encode g d) (length (w d general_zone).sectors) (γ.general d);
    general_reads = λ d a h m. lg.general_reads d a h (mem_take (length (w d general_zone).sectors) (γ.general d) h m);
    first = λ d a. let (y, hs, e) = lg.first d a in cut_first (length (w d general_zone).sectors) (γ.general d) y γ.array (omega (arith, lg.first_lasts d a, (k d general_zone a g0).least, (k d general_zone a g0).most)) hs e;
    first_lasts = λ d a. omega (arith, lg.first_lasts d a, (k d general_zone a g0).least);
    arrays = λ d a y b m. lg.arrays d a y b (mem_take (length (w d general_zone).sectors) (γ.general d) (label y b) m);
    labels = λ d a. let q = k d general_zone a g0 in let t = take (length (w d general_zone).sectors) (γ.general d) in
        names_later x (v d general_zone).durable t (names_front x (v d general_zone).durable (γ.general d) (lg.labels d a) (length (w d general_zone).sectors) (le_trans q.least q.most)) (w d general_zone).durable q.least;
    general_closes = λ d a j n m. lg.general_closes d a j n (mem_take (length (w d general_zone).sectors) (γ.general d) (closing j n) m);
    general_closed = λ d a p. let q = k d general_zone a g0 in
        rw (take-take (w d general_zone).durable (length (w d general_zone).sectors) (γ.general d) q.most) (mem_more (v d general_zone).durable (w d general_zone).durable (γ.general d) (closing 0 (γ.closed d).0) q.least (lg.general_closed d a p));
    parity_closes = λ d a e m j n r. let o = cut_left g d true (γ.parity d) (length (w d parity_zone).sectors) e m in lg.parity_closes d a o.of o.is_set j n (sym o.heads ∙ r);
    parity_closed_lem = λ d a p. let q = k d parity_zone a g1 in
        rw (cut_cut g d true (γ.parity d) (w d parity_zone).durable (length (w d parity_zone).sectors) q.most) (cut_mono g d true (γ.parity d) (v d parity_zone).durable (w d parity_zone).durable (closing_entry 1 (γ.closed d).1) (lg.parity_lawful d a) q.least refl (lg.parity_closed_lem d a p));
    parity_is = λ d a. prefix_is_take (w d parity_zone).sectors (v d parity_zone).sectors (k d parity_zone a g1).front ∙ ap (take (length (w d parity_zone).sectors)) (lg.parity_is d a) ∙ cut_flat g d true (γ.parity d) (length (w d parity_zone).sectors);
    parity_lawful = λ d a. cut_lawful g d true (γ.parity d) (length (w d parity_zone).sectors) (lg.parity_lawful d a);
    parity_fits = λ d a. le_trans (cut_extent g d true (γ.parity d) (length (w d parity_zone).sectors)) (lg.parity_fits d a);
    lasting = λ d y a h. (k d y a h).most;
    place_fits = λ d y a h. le_trans (prefix_length (k d y a h).front) (lg.place_fits d y a h);
  }

  pub part_less : Less g x x v w γ (part_general w γ) (part_parity g w γ)
  unfolding part_general part_parity
  part_less = record {
    here = λ d a. a;
    general_sub = λ d a h m. mem_take (length (w d general_zone).sectors) (γ.general d) h m;
    general_lasts_lem = λ d a h m. let q = k d general_zone a g0 in
        rw (take-take (w d general_zone).durable (length (w d general_zone).sectors) (γ.general d) q.most) (mem_more (v d general_zone).durable (w d general_zone).durable (γ.general d) h q.least m);
    general_cuts = λ d a j l. let q = k d general_zone a g0 in cuts d j (length (w d general_zone).sectors) (omega (arith, q.least, q.most)) (omega (arith, q.least, l));
    parity_sub = λ d a e m. cut_left g d true (γ.parity d) (length (w d parity_zone).sectors) e m;
    parity_lasts_lem = λ d a e r m. let q = k d parity_zone a g1 in
        rw (cut_cut g d true (γ.parity d) (w d parity_zone).durable (length (w d parity_zone).sectors) q.most) (cut_mono g d true (γ.parity d) (v d parity_zone).durable (w d parity_zone).durable e (lg.parity_lawful d a) q.least r m);
    data_sub = λ d z hz a. (k d (data_zone z) a (omega arith)).front;
    data_lasts = λ d z hz a. (k d (data_zone z) a (omega arith)).least;
  }
    where
      cuts : (d j n : ℕ) → (v d general_zone).durable ≤ n → (v d general_zone).durable ≤ j → (i : ℕ) × ((v d general_zone).durable ≤ i) × (take j (take n (γ.general d)) ≡ take i (γ.general d))
      cuts d j n p q = go (dec_lt j n)
        where
          go : Dec (j < n) → (i : ℕ) × ((v d general_zone).durable ≤ i) × (take j (take n (γ.general d)) ≡ take i (γ.general d))
          go (yes h) = (j, q, take-take j n (γ.general d) (omega arith))
          go (no h) = (n, p, take_all j (take n (γ.general d)) (rw length-take (omega arith)))

pub inv_part : (g : Geometry) (x : ℕ) (v w : Device) (l : Ledger) (γ : Ghost) → Inv g x v l γ → Parts g x v w → (δ : Ghost) × Inv g x w l δ × (δ.closed ≡ γ.closed)
inv_part g x v w l γ i k = (
  with_logs γ (part_general w γ) (part_parity g w γ),
  record {
    logs = part_logs g x v w γ i.logs k;
    zones = λ z h. less_zone g x x v w γ (part_general w γ) (part_parity g w γ) i.logs (part_less g x v w γ i.logs k) l z h (i.zones z h);
  },
  refl,
)
