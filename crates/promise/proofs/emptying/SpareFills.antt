-- A new log that is being written into drive d's spare, and does not claim anything yet (SpareFills): the roles stand as they were, the invariant holds
-- as before, and every look shows the same. Of either log.
use Rattle.std.specs.Prelude.{◌≡◌, ◌≢◌, ◌⊎◌, Bool, length, take}
use Rattle.std.proofs.Math.Path.{sym, ap}
use Rattle.std.proofs.Common.{inl, inr, arith}
use Rattle.std.proofs.Math.Bool.{true, false}
use Prim.Native.Nat.{ℕ, zero, ◌≤◌}
use Rattle.std.proofs.Math.Decide.{ℕ_discrete}
use mathlib.Core.List.{List, map}
use Rattle.tables.specs.meaning.Below.{max_below}
use Rattle.tables.specs.meaning.Lists.{any_of}
use Rattle.tables.specs.meaning.Device.{ZoneView, Device}
use Rattle.tables.specs.meaning.Drives.{present_but}
use Rattle.tables.specs.declared.Geometry.{Geometry}
use Rattle.tables.specs.meaning.Geometry.{Valid, data_zone}
use Rattle.logs.specs.meaning.Entry.{general_zone, parity_zone, spare_zone, Entry}
use Rattle.logs.specs.meaning.Walk.{walk_log}
use Rattle.logs.specs.meaning.Heads.{is_reset, least_seal, generation_in}
use Rattle.volume.specs.meaning.Rules.{general_heads, parity_entries, generation_of}
use Rattle.volume.specs.meaning.Roles.{zone_claim, Roles, zone_of_role, by_roles}
use Rattle.volume.specs.laws.Depends.{pick_same}
use Rattle.volume.specs.laws.Firm.{Firm, proper_apart, role_one_to_one, firm_seen, firm_same}
use Rattle.promise.specs.meaning.Ledger.{Ledger}
use Rattle.promise.proofs.invariant.Invariant.{Ghost, Here, LogGenerations, LogsOk}
use Rattle.promise.proofs.invariant.Obligations.{Invs}
use Rattle.promise.proofs.invariant.HoldsLess.{with_logs}
use Rattle.promise.proofs.roles.Spares.{SameButSpares, spare_inv}
use Rattle.promise.proofs.roles.Roled.{Standing}
use Rattle.promise.proofs.emptying.AskedSame.{NamedBut, named_here, ShowsSame, AskedSame, asked_pointer, asked_value}
use Rattle.promise.proofs.emptying.EmptyingCuts.{old_firm}

-- ---- a look reads no spare, and nothing of what is durable
abbrev pub SameRead : Geometry → ℕ → Device → Device → Type 0
SameRead g x u w = (e y : ℕ) → Here g x e → y ≢ spare_zone → (w e y).sectors ≡ (u e y).sectors

module _ (g : Geometry) (ok : Valid g) (x : ℕ) (u w : Device) (same : SameRead g x u w) where
  pub heads_read : (d : ℕ) → Here g x d → general_heads g u d ≡ general_heads g w d
  unfolding general_heads
  heads_read d a = ap (λ (ss : List (List ℕ)). map (λ (e : Entry). e.head) (walk_log g d false ss).entries) (sym (same d general_zone a (λ q. omega (arith, q))))

  module _ (y : ℕ) (by : NamedBut g x y) where
    sub : (d : ℕ) → Here g y d → Here g x d
    sub = named_here g ok x y by

    pub generation_read : (z : ℕ) → generation_of g (present_but g y) u z ≡ generation_of g (present_but g y) w z
    unfolding generation_of
    generation_read z i = max_below (λ d. pick_same (present_but g y d) (generation_in z (general_heads g u d)) (generation_in z (general_heads g w d)) zero (λ p. ap (generation_in z) (heads_read d (sub d p))) i) g.drives

    asked_read : (z n : ℕ) → AskedSame g (present_but g y) u w z n
    unfolding parity_entries
    asked_read z n = record {
      resets = λ d a. ap (any_of (is_reset z n)) (heads_read d (sub d a));
      seals = λ d a q. ap (least_seal z n q) (heads_read d (sub d a));
      entries = λ d a. ap (λ (ss : List (List ℕ)). (walk_log g d true ss).entries) (sym (same d parity_zone (sub d a) (λ q. omega (arith, q))));
      sectors = λ d a. sym (same d (data_zone z) (sub d a) (λ q. omega (arith, q)));
    }

    pub read_shows : (z : ℕ) → ShowsSame g (present_but g y) u w z
    read_shows z =
        let e = generation_read z in
        let n = generation_of g (present_but g y) w z in
        record {
          pointer = rw e (sym (asked_pointer g (present_but g y) u w z n (asked_read z n)));
          values = λ a h. rw e (sym (asked_value g (present_but g y) u w z n (asked_read z n) a));
        }

-- ---- the spare of drive d, of roles r, fills; nothing else changed
pub record SpareFills (g : Geometry) (x d : ℕ) (r : Roles) (v w : Device) : Type 0 where
  pub others : (e y : ℕ) → Here g x e → (e ≢ d) ⊎ (y ≢ r.spare) → w e y ≡ v e y
  pub silent : (k : ℕ) (par : Bool) → zone_claim g d par (take k (w d r.spare).sectors) ≡ 0
  pub lasts : (w d r.spare).durable ≤ length (w d r.spare).sectors
  pub fits : length (w d r.spare).sectors ≤ g.capacity

module _ (g : Geometry) (ok : Valid g) (x : ℕ) (v : Device) (c : LogGenerations) (s : Standing g x v c) (d : ℕ) (hd : Here g x d) (w : Device) (k : SpareFills g x d (s.roles d) v w) where
  abbrev r : ℕ → Roles
  r = s.roles

  firm_still : (e : ℕ) → Here g x e → Firm g w e (r e)
  firm_still e a = go (ℕ_discrete e d)
    where
      go : Dec (e ≡ d) → Firm g w e (r e)
      go (no q) = firm_same g v w e (r e) (s.firm e a) (λ y h. k.others e y a (inl q))
      go (yes q) =
          let n = proper_apart (r d) (s.firm d hd).proper in
          rw q (old_firm g v w d (r d) (s.firm d hd) (k.others d (r d).general hd (inr n.1)) (k.others d (r d).parity hd (inr n.2)) k.silent)

  -- THE ROLES STAND
  pub filling_standing : Standing g x w c
  filling_standing = record { roles = r; firm = firm_still; general_claim_lem = s.general_claim_lem; parity_claim_lem = s.parity_claim_lem }

  module _ (γ : Ghost) (lg : LogsOk g x (by_roles g v) γ) where
    pub filling_same : SameButSpares g x (by_roles g v) (by_roles g w)
    filling_same = record {
      same = λ e y a h. rw (firm_seen g w e (r e) (firm_still e a) y, firm_seen g v e (r e) (s.firm e a) y) (same e y a h (ℕ_discrete e d));
      lasts = λ e a. rw (firm_seen g w e (r e) (firm_still e a) spare_zone) (low e a (ℕ_discrete e d));
      fits = λ e a. rw (firm_seen g w e (r e) (firm_still e a) spare_zone) (fit e a (ℕ_discrete e d));
    }
      where
        same : (e y : ℕ) → (a : Here g x e) → y ≢ spare_zone → Dec (e ≡ d) → w e (zone_of_role (r e) y) ≡ v e (zone_of_role (r e) y)
        same e y a h (no q) = k.others e (zone_of_role (r e) y) a (inl q)
        same e y a h (yes q) = k.others e (zone_of_role (r e) y) a (inr (rw (← q) (λ t. h (role_one_to_one (r e) (s.firm e a).proper y spare_zone t))))

        low : (e : ℕ) → (a : Here g x e) → Dec (e ≡ d) → (w e (r e).spare).durable ≤ length (w e (r e).spare).sectors
        low e a (yes q) = rw q k.lasts
        low e a (no q) = rw (k.others e (r e).spare a (inl q), ← firm_seen g v e (r e) (s.firm e a) spare_zone) (lg.lasting e spare_zone a (omega arith))

        fit : (e : ℕ) → (a : Here g x e) → Dec (e ≡ d) → length (w e (r e).spare).sectors ≤ g.capacity
        fit e a (yes q) = rw q k.fits
        fit e a (no q) = rw (k.others e (r e).spare a (inl q), ← firm_seen g v e (r e) (s.firm e a) spare_zone) (lg.place_fits e spare_zone a (omega arith))

    -- A LOOK SHOWS THE SAME
    pub filling_shows : (y : ℕ) → NamedBut g x y → (z : ℕ) → ShowsSame g (present_but g y) (by_roles g v) (by_roles g w) z
    filling_shows y by z = read_shows g ok x (by_roles g v) (by_roles g w) (λ e t a h. ap (λ (q : ZoneView). q.sectors) (filling_same.same e t a h)) y by z

  -- THE INVARIANT HOLDS
  pub filling_invs : (l : Ledger) → Invs c g x (by_roles g v) l → Invs c g x (by_roles g w) l
  filling_invs l (γ, i, q) = (with_logs γ γ.general γ.parity, spare_inv g x (by_roles g v) (by_roles g w) (filling_same γ i.logs) γ l i, q)
