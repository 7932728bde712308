-- NO DRIVE FILLS UP in a geometry whose logs always have room after copying (volume's Emptying and RoomAfter), as long as no log of a present drive has the last generation: no mount
-- is refused, and no reset and no compact by 14, at any point of any history (meaning/Roomy.antt). A reset and a compact find the spares blank (BlankAtRest). And a finished compact
-- leaves each host so much of its share.
use Rattle.std.specs.Prelude.{◌≡◌, ◌≢◌, ◌⊎◌, Bool, ◌&&◌, ◌||◌, List, [], length, take, ltb}
use Rattle.std.proofs.Math.Path.{refl, sym}
use Rattle.std.proofs.Common.{ap, ◌∙◌, arith}
use Rattle.std.proofs.Math.Bool.{true, false, not, true≢false}
use Prim.Native.Nat.{ℕ, ◌^◌, ◌≤◌, ◌<◌}
use Rattle.std.proofs.Math.Arith.{digits_div}
use borrow.Author.Tests.{le-ltb}
use Rattle.tables.specs.declared.Geometry.{Geometry}
use Rattle.tables.specs.meaning.Basics.{pick}
use Rattle.tables.specs.meaning.Geometry.{Valid}
use Rattle.tables.specs.meaning.GeometryTest.{is_valid}
use Rattle.tables.specs.laws.GeometryTest.{valid_if_test}
use Rattle.tables.specs.laws.Below.{none_any_below, any_below_false}
use Rattle.tables.specs.meaning.Device.{Device, Store, apply_all}
use Rattle.logs.specs.meaning.Entry.{spare_zone, worn_generation}
use Rattle.logs.specs.laws.Entry.{worn_is}
use Rattle.tables.specs.meaning.Drives.{no_drive, present_but}
use Rattle.tables.specs.laws.Drives.{present_below}
use Rattle.tables.specs.laws.Basics.{not_not, eqb_same}
use Rattle.volume.specs.meaning.Calls.{format_stores}
use Rattle.volume.specs.laws.Firm.{firm_roles}
use Rattle.promise.proofs.roles.FormatRoles.{format_standing}
use Rattle.volume.specs.declared.Answer.TheVariants.{Finished, Unfinished, Refused}
use Rattle.volume.specs.meaning.State.{StateView, hosts, share_at, call_present}
use Rattle.volume.specs.meaning.Rules.{is_present, lost_drive, showing}
use Rattle.volume.specs.meaning.Roles.{Roles, roles, by_roles, claim_of_kind, lacks_kind}
use Rattle.volume.specs.meaning.Emptying.{InForce, by_look, by_state, spare_written, reserve, mount_general_limit, reset_limit, emptied_for, RoomyGeneral, RoomyParity}
use Rattle.volume.specs.meaning.Refusals.{Verdict, accept, TableLengths, first_refusal, tables_fit, bad_pointers, kind_lacks, bad_labels, bad_logs, two_lost, mount_full, reset_full, compact_full, mount_rows, reset_rows, compact_rows}
use Rattle.volume.specs.meaning.Answers.{CallResult, storing, mount_call, reset_call, compact_call}
use Rattle.volume.specs.laws.Refusals.{passed, condition_of_row, refusal_order}
use Rattle.volume.specs.laws.LeastRefusal.{first_least}
use Rattle.volume.specs.laws.RoomAfter.{cannot_empty, mount_full_is, reset_full_is, compact_full_is, compact_share_least}
use Rattle.promise.specs.meaning.Claim.{Volume, System, NamesAll, mounts, resets, compacts, calls, next, ready, all_but}
use Rattle.promise.specs.meaning.OnDevice.{on_device}
use Rattle.promise.specs.meaning.Caches.{Caches, with_caches, beneath, device_caches, on_caching_device}
use Rattle.promise.specs.meaning.Roomy.{BeforeLast, least_share, NeverFull, RoomyClaim}
use Rattle.promise.proofs.device.Looks.{LookFine}
use Rattle.promise.proofs.device.AcceptedCalls.{two_same, pointers_same, storing_refused, storing_finished}
use Rattle.promise.proofs.device.Heard.{answer_heard}
use Rattle.promise.proofs.device.ClaimEvents.{fine, drives_of_call, drives_of_look}
use Rattle.promise.proofs.device.CachedPromise.{names_beneath}
use Rattle.promise.proofs.shown.EveryPoint.{Known, at_every_point}

and_false : (b : Bool) → b && false ≡ false
and_false true = refl
and_false false = refl

not_refused : (v : Verdict) (xs : List Store) (new old : StateView) (stop : ℕ) (m : Device) (n : ℕ) → v ≡ accept → (storing v xs new old stop m).answer ≢ Refused n
not_refused v xs new old stop m n p = rw p (λ e. go (ltb stop (length xs)) e)
  where
    go : (b : Bool) → (pick {A = CallResult Device StateView} b (record { answer = Unfinished; memory = apply_all (take stop xs) m; state = old }) (record { answer = Finished; memory = apply_all xs m; state = new })).answer ≡ Refused n → ⊥
    go true e = let z : ◌≡◌ {A = ℕ} 0 1 = cc in omega arith
    go false e = let z : ◌≡◌ {A = ℕ} 0 1 = cc in omega arith

or_false : (a b : Bool) → a ≡ false → b ≡ false → a || b ≡ false
or_false a b p q = rw (p, q) refl

module _ (g : Geometry) (present : ℕ → Bool) (r : ℕ → Roles) (f : InForce) (w : Device) (kinds : kind_lacks g present r ≡ false) (young : (par : Bool) (d : ℕ) → present d ≡ true → claim_of_kind par (r d) ≤ worn_generation) where
  can_empty : (par : Bool) (d : ℕ) → d < g.drives → present d ≡ true → cannot_empty par r d ≡ false
  unfolding kind_lacks
  can_empty par d hd a =
      let k : present d && lacks_kind (r d) ≡ false = any_below_false (λ e. present e && lacks_kind (r e)) g.drives d kinds hd in
      let q : lacks_kind (r d) ≡ false = rw a at k in
      rw (q, le-ltb worn_generation (claim_of_kind par (r d)) (young par d a)) refl

  mount_not_full : RoomyGeneral g → RoomyParity g → mount_full g present r f w ≡ false
  unfolding emptied_for
  mount_not_full general parity = mount_full_is g present r f w general parity ∙ none_any_below _ g.drives (λ d hd. go d hd (present d) refl)
    where
      go : (d : ℕ) → d < g.drives → (b : Bool) → present d ≡ b → emptied_for g present false r w (mount_general_limit g) d && cannot_empty false r d || (emptied_for g present true r w (reserve g) d && cannot_empty true r d) ≡ false
      go d hd true a = rw (can_empty false d hd a, can_empty true d hd a, and_false (emptied_for g present false r w (mount_general_limit g) d), and_false (emptied_for g present true r w (reserve g) d)) refl
      go d hd false a = rw a refl

  -- outside a mount, with blank spares
  module _ (blank : (d : ℕ) → present d ≡ true → (w d spare_zone).sectors ≡ []) where
    none_written : (d : ℕ) → present d ≡ true → spare_written w d ≡ false
    none_written d a = rw (blank d a) refl

    -- of a drive that is asked for room (b: whether its log lacks it)
    not_stuck : (par : Bool) (d : ℕ) → d < g.drives → present d ≡ true → (b : Bool) → b && (cannot_empty par r d || spare_written w d) ≡ false
    not_stuck par d hd a b = rw (or_false (cannot_empty par r d) (spare_written w d) (can_empty par d hd a) (none_written d a)) (and_false b)

    reset_not_full : RoomyGeneral g → reset_full g present r f w ≡ false
    unfolding emptied_for
    reset_not_full general = reset_full_is g present r f w general ∙ none_any_below _ g.drives (λ d hd. go d hd (present d) refl)
      where
        go : (d : ℕ) → d < g.drives → (b : Bool) → present d ≡ b → emptied_for g present false r w (reset_limit g) d && (cannot_empty false r d || spare_written w d) ≡ false
        go d hd true a = not_stuck false d hd a (emptied_for g present false r w (reset_limit g) d)
        go d hd false a = rw a refl

    compact_not_full : RoomyParity g → (d : ℕ) → d < g.drives → present d ≡ true → compact_full g r f w d ≡ false
    compact_not_full parity d hd a = compact_full_is g r f w parity d ∙ not_stuck true d hd a true

-- ---- at a point of a history
module _ (g : Geometry) (t : TableLengths) (wb : is_valid g ≡ true) (lf : tables_fit g t ≡ true) (s : System (on_device g t)) (k : Known g t s) (young : BeforeLast g s.lost s.memory) (named : ℕ → Bool) (names : NamesAll g (on_device g t) s named) where
  ok : Valid g
  ok = valid_if_test g wb

  abbrev here : ℕ → Bool
  here = present_but g s.lost

  abbrev u : Device
  u = by_roles g s.memory

  looked : LookFine g s.lost s.memory s.ledger
  looked = fine g ok t s k.ok

  mount_law : RoomyGeneral g → RoomyParity g → (stop n : ℕ) → ((on_device g t).call mounts named s.state stop s.memory).answer ≢ Refused n
  unfolding mount_rows
  mount_law general parity stop n =
      let v = s.memory in
      let seen = drives_of_look g ok t s k.ok named names in
      let f = by_look (showing g (is_present g named u) (lost_drive g named u) u) in
      let r3 : bad_pointers g named v ≡ false = pointers_same g named (all_but s.lost) names.drives v ∙ looked.pointers in
      let r4 : two_lost g named u ≡ false = two_same g named (all_but s.lost) names.drives u ∙ looked.few_lost in
      let r5 : kind_lacks g (is_present g named u) (roles g v) || bad_labels g (is_present g named u) u ≡ false = rw (seen, looked.kinds, looked.labels) refl in
      let r6 : bad_logs g (is_present g named u) u ≡ false = rw seen looked.logs in
      let r14 : mount_full g (is_present g named u) (roles g v) f u ≡ false = rw seen (mount_not_full g here (roles g v) (by_look (showing g here (lost_drive g named u) u)) u looked.kinds young general parity) in
      let c = mount_call g t named v in
      not_refused (first_refusal c.refusals) c.stores c.state s.state stop v n (passed c.refusals (ap not wb, (ap not lf, (r3, (r4, (r5, (r6, (r14, tt))))))))

  reset_law : RoomyGeneral g → s.mode ≡ ready → (z stop : ℕ) → ((on_device g t).call (resets z) named s.state stop s.memory).answer ≢ Refused 14
  unfolding reset_rows
  reset_law general m z stop e =
      let c = reset_call g t named s.state z s.memory in
      let r14 : condition_of_row 14 c.refusals ≡ false = rw (drives_of_call g ok t s k.ok named names m) (reset_not_full g here (roles g s.memory) (by_state g here u s.state) u looked.kinds young (k.blank m) general) in
      true≢false (sym (first_least refusal_order c.refusals 14 refl refl (storing_refused (first_refusal c.refusals) c.stores c.state s.state stop s.memory 14 e)).applies ∙ r14)

  compact_law : RoomyParity g → s.mode ≡ ready → (d stop : ℕ) → ((on_device g t).call (compacts d) named s.state stop s.memory).answer ≢ Refused 14
  unfolding compact_rows
  compact_law parity m d stop e =
      let c = compact_call g t named s.state d s.memory in
      let least = first_least refusal_order c.refusals 14 refl refl (storing_refused (first_refusal c.refusals) c.stores c.state s.state stop s.memory 14 e) in
      let drives = drives_of_call g ok t s k.ok named names m in
      let there : here d ≡ true = sym (ap (λ (f : ℕ → Bool). f d) drives) ∙ not_not (call_present g named s.state d) (least.none_before 8 refl) in
      let r14 : condition_of_row 14 c.refusals ≡ false = rw drives (compact_not_full g here (roles g s.memory) (by_state g here u s.state) u looked.kinds young (k.blank m) parity d (present_below g s.lost d there) there) in
      true≢false (sym least.applies ∙ r14)

  -- what a compact leaves of its drive's shares
  compact_leaves : (d stop : ℕ) → ((on_device g t).call (compacts d) named s.state stop s.memory).answer ≡ Finished → (h : ℕ) → h < hosts
      → least_share g ≤ (next g (on_device g t) s (calls (compacts d) named stop)).state.share (share_at d h)
  compact_leaves d stop e h hh =
      let c = compact_call g t named s.state d s.memory in
      let (p, q) = storing_finished (first_refusal c.refusals) c.stores c.state s.state stop s.memory e in
      rw (p, q, digits_div d {m = hosts} {r = h} hh, eqb_same d) (compact_share_least g (by_state g (call_present g named s.state) u s.state) d)

pub never_full : (g : Geometry) (t : TableLengths) → RoomyGeneral g → RoomyParity g → is_valid g ≡ true → tables_fit g t ≡ true → (s : System (on_device g t)) → Known g t s → BeforeLast g s.lost s.memory → NeverFull g (on_device g t) s
never_full g t general parity wb lf s k young = record {
  mount_accepted = λ named names stop n e. mount_law g t wb lf s k young named names general parity stop n (answer_heard e);
  reset_not_full = λ named names m z stop e. reset_law g t wb lf s k young named names general m z stop (answer_heard e);
  compact_not_full = λ named names m d stop e. compact_law g t wb lf s k young named names parity m d stop (answer_heard e);
  compact_leaves = λ named names m d stop e h hh. compact_leaves g t wb lf s k young named names d stop (answer_heard e) h hh;
}

-- with caches: a call's answer does not go by what they remember
pub never_full_beneath : (g : Geometry) (vol : Volume) (c : Caches vol) (s : System (with_caches vol c)) → NeverFull g vol (beneath vol c s) → NeverFull g (with_caches vol c) s
never_full_beneath g vol c s p = record {
  mount_accepted = λ named n. p.mount_accepted named (names_beneath g vol c s named n);
  reset_not_full = λ named n. p.reset_not_full named (names_beneath g vol c s named n);
  compact_not_full = λ named n. p.compact_not_full named (names_beneath g vol c s named n);
  compact_leaves = λ named n. p.compact_leaves named (names_beneath g vol c s named n);
}

-- THE THEOREM
pub roomy_never_full : RoomyClaim
roomy_never_full g t general parity = at_every_point g t (λ s. BeforeLast g s.lost s.memory.memory → NeverFull g (on_caching_device g t) s)
    (λ wb lf s k young. never_full_beneath g (on_device g t) (device_caches g t) s (never_full g t general parity wb lf (beneath (on_device g t) (device_caches g t) s) k young))

-- its hypothesis holds at the start of every history: a format leaves all logs with generation 0
pub format_before_last : (g : Geometry) → Valid g → (x a : ℕ) (v : Device) → (x ≡ no_drive) ⊎ (x < g.drives) → a < 256 ^ 8 → BeforeLast g x (apply_all (format_stores g (present_but g x) x a) v)
format_before_last g ok x a v lost ha par d h =
    let s = format_standing g ok x a v lost ha in
    rw (firm_roles g (apply_all (format_stores g (present_but g x) x a) v) d (s.roles d) (s.firm d h)) (go par (s.roles d) (s.general_claim_lem d h).0 (s.parity_claim_lem d h).0)
  where
    go : (b : Bool) (r : Roles) → r.general_claim ≡ 1 → r.parity_claim ≡ 1 → pick b r.parity_claim r.general_claim ≤ worn_generation
    go true r p q = omega (arith, q, worn_is)
    go false r p q = omega (arith, p, worn_is)
