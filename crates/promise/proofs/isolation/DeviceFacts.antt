-- Between finished calls of any history the device is as RestFacts says, whichever drives the host names as its duties ask.
use Rattle.std.specs.Prelude.{◌≡◌, Bool, List, [], get_or, ltb, eqb}
use Rattle.std.proofs.Math.Path.{refl, sym, ap}
use Rattle.std.proofs.Common.{◌∙◌, arith, ltb-false}
use Rattle.std.proofs.Math.Bool.{true, false, not}
use Prim.Native.Nat.{ℕ, zero, suc, ◌+◌, ◌≤◌, ◌<◌}
use Rattle.std.proofs.Math.ListN.{length, take}
use Rattle.std.proofs.Math.Seq.{take_all}
use Rattle.tables.specs.declared.Geometry.{Geometry}
use Rattle.tables.specs.meaning.Basics.{pick}
use Rattle.tables.specs.laws.Below.{tabulate_from_cong}
use Rattle.tables.specs.meaning.Drives.{present_but}
use Rattle.tables.specs.meaning.Device.{ZoneView, Device}
use Rattle.tables.specs.meaning.Geometry.{Valid}
use Rattle.tables.specs.meaning.GeometryTest.{is_valid}
use Rattle.tables.specs.meaning.Placement.{drive_of, sector_of}
use Rattle.logs.specs.meaning.Entry.{general_zone}
use Rattle.volume.specs.meaning.Content.{at}
use Rattle.volume.specs.meaning.Rules.{view_of, zone_view, generation_of, value_at, zone_at, zone_shown}
use Rattle.volume.specs.meaning.Roles.{Roles, roles, by_roles, strength_by, strength, zone_claim}
use Rattle.volume.specs.meaning.Refusals.{TableLengths, tables_fit, not_held}
use Rattle.volume.specs.laws.Firm.{firm_roles, firm_seen}
use Rattle.promise.specs.meaning.Claim.{System, NamesAll, ready}
use Rattle.promise.specs.meaning.OnDevice.{on_device}
use Rattle.promise.proofs.invariant.Invariant.{Here}
use Rattle.promise.proofs.look.LookFits.{rest_known}
use Rattle.promise.proofs.look.LookRest.{generation_held}
use Rattle.promise.proofs.roles.ReadsSectors.{data_seen}
use Rattle.promise.proofs.device.Marks.{with_marks}
use Rattle.promise.proofs.device.AtRestAnswers.{gone_fine, before_fine, stale_fine, rest_held, rest_sector}
use Rattle.promise.proofs.device.ClaimEvents.{rests_of, drives_of_call, lost_of_call}
use Rattle.promise.proofs.device.PointClaims.{pointer_claim, row_1, row_3, row_4}
use Rattle.promise.proofs.shown.EveryPoint.{Known}
use Rattle.promise.proofs.isolation.RestFacts.{RestFacts}

-- a zone that counts as a log of a kind claims one above its generation
strong_claim : (mine other y claimed : ℕ) → strength_by mine other false y ≡ claimed → 0 < claimed → claimed ≡ suc mine
strong_claim mine other y claimed e some = go (ltb 0 mine) refl e
  where
    late : mine ≡ 0 → (b c : Bool) → pick b 0 (pick c 1 0) ≡ claimed → claimed ≡ suc mine
    late z true c q = absurd (omega (arith, q, some))
    late z false true q = omega (arith, q, z)
    late z false false q = absurd (omega (arith, q, some))

    go : (b : Bool) → ltb 0 mine ≡ b → pick b (suc mine) (pick (ltb 0 other) 0 (pick (eqb y 0) 1 0)) ≡ claimed → claimed ≡ suc mine
    go true p q = sym q
    go false p q = late (omega (arith, ltb-false 0 mine p)) (ltb 0 other) (eqb y 0) q

module _ (g : Geometry) (ok : Valid g) (t : TableLengths) (wb : is_valid g ≡ true) (lf : tables_fit g t ≡ true) (s : System (on_device g t)) (k : Known g t s) (m : s.mode ≡ ready)
    (named : ℕ → Bool) (names : NamesAll g (on_device g t) s named) where
  abbrev x : ℕ
  x = s.lost

  abbrev v : Device
  v = s.memory

  abbrev u : Device
  u = by_roles g s.memory

  held_by_lem : (z : ℕ) → z < g.zones → (a : ℕ) → a < length (s.ledger.content z) → not_held g (present_but g s.lost) u z (s.state.generation z) a ≡ not (present_but g s.lost (drive_of g.drives g.unit z a))
  unfolding not_held zone_view view_of
  held_by_lem z h a l = go (present_but g s.lost (drive_of g.drives g.unit z a)) refl
    where
      go : (b : Bool) → present_but g s.lost (drive_of g.drives g.unit z a) ≡ b → not_held g (present_but g s.lost) u z (s.state.generation z) a ≡ not b
      go true e = let (c, marks, above, (st, (γ, r, same))) = rests_of g t s k.ok m in rest_held g ok x u s.state (with_marks s.ledger marks) γ r z h a l e
      go false e = rw e refl

  generation_by : (z : ℕ) → z < g.zones → s.state.generation z ≡ generation_of g (present_but g s.lost) u z
  unfolding zone_shown zone_at
  generation_by z h = let (c, marks, above, (st, (γ, r, same))) = rests_of g t s k.ok m in sym (generation_held g ok x u s.state (with_marks s.ledger marks) γ r z h)

  claim_by : (d : ℕ) → Here g s.lost d → (roles g s.memory d).general_claim ≡ suc (zone_claim g d false (u d general_zone).sectors)
  unfolding strength
  claim_by d a =
      let (c, marks, above, (st, rest)) = rests_of g t s k.ok m in
      let R = st.roles d in
      let ss = (v d R.general).sectors in
      let n = (v d R.general).durable + length ss in
      let e = ((st.firm d a).general_firm n (omega arith)).0 in
      let all : take n ss ≡ ss = take_all n ss (omega arith) in
      let f : strength_by (zone_claim g d false ss) (zone_claim g d true ss) false R.general ≡ R.general_claim = rw all at e in
      let i = strong_claim (zone_claim g d false ss) (zone_claim g d true ss) R.general R.general_claim f (omega (arith, (st.general_claim_lem d a).0)) in
      ap (λ (q : Roles). q.general_claim) (firm_roles g v d R (st.firm d a)) ∙ i ∙ ap (λ (y : ZoneView). suc (zone_claim g d false y.sectors)) (sym (firm_seen g v d R (st.firm d a) 0))

  pub rest_facts : RestFacts g t s named
  rest_facts =
      let (c, marks, above, (st, (γ, r, same))) = rests_of g t s k.ok m in
      let l = with_marks s.ledger marks in
      record {
        row_1 = row_1 g ok t wb lf s k.ok named names m;
        fits = lf;
        row_3 = row_3 g ok t wb lf s k.ok named names;
        row_4 = row_4 g ok t wb lf s k.ok named names m;
        row_7 = stale_fine g ok x u s.state l γ r;
        drives = drives_of_call g ok t s k.ok named names m;
        lost_is = lost_of_call g ok t s k.ok named names m;
        pointer_is = pointer_claim g ok t wb lf s k.ok m;
        known = gone_fine g ok x u s.state l γ r;
        known_before = before_fine g ok x u s.state l γ r;
        values = λ z h offset count q. tabulate_from_cong (value_at g (present_but g x) u z (s.state.generation z)) (at (s.ledger.content z)) offset offset count (λ i hi. (rest_known g ok x u s.state l γ r z h (offset + i) (omega arith)).1);
        held = held_by_lem;
        sector = λ z h a q p. ap (λ (y : ZoneView). get_or y.sectors (sector_of g.drives g.unit a) []) (sym (data_seen g v (drive_of g.drives g.unit z a) z)) ∙ rest_sector g ok x u s.state l γ r z h a q (held_by_lem z h a q ∙ ap not p);
        generations = generation_by;
        general_claim_lem = claim_by;
        parity_claim_lem = λ d a e. omega (arith, (st.parity_claim_lem d a).0, ap (λ (q : Roles). q.parity_claim) (firm_roles g v d (st.roles d) (st.firm d a)), e);
        blank = k.blank m;
        shares = k.shared m;
      }
