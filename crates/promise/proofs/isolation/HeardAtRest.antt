-- WHAT A CALL IS ANSWERED between finished calls, of two systems that are the same in what its desk can feel (Laws): the conditions that refuse it are the same, it makes
-- as many stores, and what it reads is the contents'.
use Rattle.std.specs.Prelude.{◌≡◌, ◌≢◌, ◌⊎◌, Bool, ◌&&◌, ◌||◌, ℕ, zero, suc, ◌+◌, ◌-◌, ◌≤◌, ◌<◌, get_or, take, eqb}
use Rattle.std.proofs.Math.Path.{refl}
use Rattle.std.proofs.Common.{sym, ap, ap₂, ◌∙◌, subst, inl, inr, true≢false, arith}
use Rattle.std.proofs.Math.Bool.{true, false, not}
use mathlib.Core.List.{List, [], ◌∷◌, ◌++◌, map}
use Rattle.std.proofs.Math.ListN.{length}
use Rattle.std.proofs.Math.Dec.{ltb, leb}
use borrow.Author.Tests.{lt-ltb, le-ltb, ltb-true, ltb-false, ne_eqb}
use Rattle.tables.specs.declared.Geometry.{Geometry}
use Rattle.tables.specs.meaning.Basics.{pick}
use Rattle.tables.specs.laws.Basics.{and_split, or_none, not_true, not_not}
use Rattle.tables.specs.meaning.Below.{any_below, max_below, tabulate_from}
use Rattle.tables.specs.laws.Below.{any_below_cong}
use Rattle.tables.specs.meaning.Lists.{concat}
use Rattle.tables.specs.meaning.Drives.{present_but}
use Rattle.tables.specs.meaning.Device.{Device, Store, apply_all}
use Rattle.tables.specs.meaning.Geometry.{Valid, zone_sectors, data_zone}
use Rattle.tables.specs.meaning.Placement.{drive_of, sector_of, stripe_of}
use Rattle.tables.specs.laws.Placement.{parity_drive_below}
use Rattle.tables.specs.meaning.Tables.{buffer_fits}
use Rattle.logs.specs.meaning.Entry.{Entry, Header, worn_generation, general_zone, spare_zone}
use Rattle.logs.specs.meaning.Heads.{generation_in}
use Rattle.logs.specs.meaning.Walk.{walk_log}
use Rattle.volume.specs.declared.Answer.{Answer}
use Rattle.volume.specs.declared.Answer.TheVariants.{Finished, Unfinished, Refused}
use Rattle.volume.specs.declared.Condition.{Condition}
use Rattle.volume.specs.declared.Owner.{Owner}
use Rattle.volume.specs.meaning.State.{StateView, pointer_in, is_sealed, is_worn, is_owner, hosts, share_at, call_present}
use Rattle.volume.specs.meaning.Content.{at, inside_stripe, parity_drive_at}
use Rattle.volume.specs.meaning.Rules.{general_heads, generation_of, value_at}
use Rattle.volume.specs.meaning.Roles.{Roles, roles, by_roles, claim_of_kind, lacks_kind, zone_claim}
use Rattle.volume.specs.meaning.Calls.{flush_stores}
use Rattle.volume.specs.meaning.Emptying.{by_state, unused_in, lacks_room, stays_full, spare_written, new_general_size, reserve, entry_size, write_limit, reset_limit, emptied_for, write_all, reset_all}
use Rattle.volume.specs.meaning.Hosts.{counts_as, limit_of, most_open, open_zones, zones_of, over_limit, over_open, share_left}
use Rattle.volume.specs.meaning.Refusals.{Verdict, refuse, accept, first_refusal, TableLengths, WriteAsked, zone_asked, end_asked, zone_of, offset_of, tables_fit, no_zone, no_host, bad_run, bad_order, worn_for, unwritten, stale, gone_in, gone_before, not_held, bad_pointers, write_full, reset_full}
use Rattle.volume.specs.meaning.Refusals.{write_rows, flush_rows, reset_rows, read_rows, peek_rows}
use Rattle.volume.specs.meaning.Answers.{CallResult, storing, giving, Place, place_of, sectors_in}
use Rattle.volume.specs.laws.Depends.{and_same, pick_same}
use Rattle.volume.specs.laws.Refusals.{Passes, passes}
use Rattle.promise.specs.meaning.Claim.{writes, flushes, resets, Call, System, calls, reads, peeks, answered, read_out, peeked_at, heard, all_but, SharesFit}
use Rattle.promise.specs.meaning.OnDevice.{call_of, read_result, peek_result, on_device}
use Rattle.promise.specs.meaning.Isolation.{general_log}
use Rattle.promise.proofs.isolation.Laws.{SameRecord}
use Rattle.promise.proofs.isolation.RestFacts.{RestFacts}
use Rattle.promise.proofs.isolation.StoreNumbers.{write_number_lem, reset_number_lem, new_size_same}

-- ==== rows
-- rows that begin alike end alike, if they do where those do not apply
ends_same : (pre us ws : List (ℕ × Bool)) → (Passes pre → first_refusal us ≡ first_refusal ws) → first_refusal (pre ++ us) ≡ first_refusal (pre ++ ws)
ends_same [] us ws h = h tt
ends_same ((n, true) ∷ pre) us ws h = refl
ends_same ((n, false) ∷ pre) us ws h = ends_same pre us ws (λ p. h (refl, p))

-- an answer, by the verdict and the number of stores
abbrev answer_by : Verdict → ℕ → ℕ → Answer
answer_by (refuse n) k stop = Refused n
answer_by accept k stop = pick (ltb stop k) Unfinished Finished

answer_is : (r : Verdict) (xs : List Store) (new old : StateView) (stop : ℕ) (v : Device) → (storing r xs new old stop v).answer ≡ answer_by r (length xs) stop
answer_is (refuse n) xs new old stop v = refl
answer_is accept xs new old stop v = go (ltb stop (length xs))
  where
    go : (b : Bool) → (pick {A = CallResult Device StateView} b (record { answer = Unfinished; memory = apply_all (take stop xs) v; state = old }) (record { answer = Finished; memory = apply_all xs v; state = new })).answer ≡ pick b Unfinished Finished
    go true = refl
    go false = refl

pub answers_same : (r q : Verdict) (xs ys : List Store) (new old new' old' : StateView) (stop : ℕ) (v w : Device) → r ≡ q → (r ≡ accept → length xs ≡ length ys)
    → (storing r xs new old stop v).answer ≡ (storing q ys new' old' stop w).answer
answers_same r q xs ys new old new' old' stop v w e h = answer_is r xs new old stop v ∙ go r e h ∙ sym (answer_is q ys new' old' stop w)
  where
    go : (r : Verdict) → r ≡ q → (r ≡ accept → length xs ≡ length ys) → answer_by r (length xs) stop ≡ answer_by q (length ys) stop
    go (refuse n) e h = ap (λ (k : Verdict). answer_by k (length ys) stop) e
    go accept e h = ap₂ (λ (i : ℕ) (k : Verdict). answer_by k i stop) (h refl) e

-- ==== one system: which rows are left
-- a write's, by what is felt (c, o: the zone's condition and owner; k: the host's zones; n: the zones that count; share: what is left; x: the lost drive)
abbrev pub felt_write : Geometry → WriteAsked → Condition → Owner → ℕ → ℕ → ℕ → ℕ → List (ℕ × Bool)
felt_write g w c o k n share x =
    (2, not (buffer_fits g w.count (length w.buffer)))
    ∷ (8, no_zone g (zone_asked g w) || no_host w.host)
    ∷ (9, bad_run g (offset_of g w.address) w.count)
    ∷ (10, not (eqb (offset_of g w.address) (pointer_in c)))
    ∷ (11, is_sealed c)
    ∷ (12, is_worn c)
    ∷ (18, ltb (pointer_in c + w.count) (zone_sectors g) && (not (counts_as g c && is_owner w.host o) && leb (limit_of w.host) k))
    ∷ (19, ltb (pointer_in c + w.count) (zone_sectors g) && (not (counts_as g c) && leb most_open n))
    ∷ (14, (inside_stripe g (pointer_in c + w.count) && present_but g x (parity_drive_at g (zone_asked g w) (pointer_in c + w.count))) && ltb share (entry_size g (pointer_in c + w.count)))
    ∷ []

abbrev pub felt_read : Geometry → ℕ → ℕ → ℕ → ℕ → List (ℕ × Bool)
felt_read g a count len n = (2, not (buffer_fits g count len)) ∷ (8, no_zone g (zone_of g a)) ∷ (9, bad_run g (offset_of g a) count) ∷ (13, ltb n (offset_of g a + count)) ∷ []

abbrev pub felt_peek : Geometry → ℕ → ℕ → ℕ → List (ℕ × Bool)
felt_peek g a n x = (8, no_zone g (zone_of g a)) ∷ (13, ltb n (offset_of g a + 1)) ∷ (15, not (present_but g x (drive_of g.drives g.unit (zone_of g a) (offset_of g a)))) ∷ []

pub zone_in_lem : (g : Geometry) (z : ℕ) → no_zone g z ≡ false → z < g.zones
zone_in_lem g z e = ltb-true z g.zones (not_not (ltb z g.zones) e)

-- an entry that fits its share fits the log
share_decides : (share size unused limit reserved a b : ℕ) → limit ≡ size + reserved → (share ≡ a) ⊎ (share ≡ b) → zero < size → (reserved + (a + b) ≤ unused) ⊎ ((a ≡ 0) × (b ≡ 0)) → ltb share size || ltb unused limit ≡ ltb share size
share_decides share size unused limit reserved a b e which some fits = go (ltb share size) refl
  where
    room : size ≤ share → limit ≤ unused
    room h = cases which fits
      where
        cases : (share ≡ a) ⊎ (share ≡ b) → (reserved + (a + b) ≤ unused) ⊎ ((a ≡ 0) × (b ≡ 0)) → limit ≤ unused
        cases (inl p) (inl f) = omega (arith, p, f, e, h)
        cases (inr p) (inl f) = omega (arith, p, f, e, h)
        cases (inl p) (inr (q, r)) = absurd (omega (arith, p, q, h, some))
        cases (inr p) (inr (q, r)) = absurd (omega (arith, p, r, h, some))

    go : (b : Bool) → ltb share size ≡ b → b || ltb unused limit ≡ b
    go true q = refl
    go false q = le-ltb unused limit (room (ltb-false share size q))

module _ (g : Geometry) (ok : Valid g) (t : TableLengths) (s : System (on_device g t)) (named : ℕ → Bool) (A : RestFacts g t s named) where
  abbrev pub u : Device
  u = by_roles g s.memory

  abbrev pub r : ℕ → Roles
  r = roles g s.memory

  pub flush_passes : first_refusal (flush_rows g t (bad_pointers g named s.memory) named s.state s.memory) ≡ accept
  unfolding flush_rows
  flush_passes = rw (A.row_1, A.fits, A.row_3, A.row_4) refl

  -- the host's share of a drive that is there
  one_share : (w : WriteAsked) (p : ℕ) → no_host w.host ≡ false → (s.state.share (share_at p w.host) ≡ s.state.share (share_at p 0)) ⊎ (s.state.share (share_at p w.host) ≡ s.state.share (share_at p 1))
  one_share w p e = go w.host (ltb-true w.host hosts (not_not (ltb w.host hosts) e))
    where
      go : (h : ℕ) → h < hosts → (s.state.share (share_at p h) ≡ s.state.share (share_at p 0)) ⊎ (s.state.share (share_at p h) ≡ s.state.share (share_at p 1))
      go zero l = inl refl
      go (suc zero) l = inr refl
      go (suc (suc h)) l = absurd (omega (arith, l))

  full_is : (w : WriteAsked) → no_host w.host ≡ false → let z = zone_asked g w in let end = end_asked g s.state w in let p = parity_drive_at g z end in
      write_full g (present_but g s.lost) r u (share_left g s.state w.host z end) z end ≡ (inside_stripe g end && present_but g s.lost p) && ltb (share_left g s.state w.host z end) (entry_size g end)
  unfolding write_full
  full_is w e =
      let z = zone_asked g w in
      let end = end_asked g s.state w in
      let p = parity_drive_at g z end in
      and_same (inside_stripe g end && present_but g s.lost p) (ltb (share_left g s.state w.host z end) (entry_size g end) || ltb (unused_in g true r u p) (write_limit g end)) (ltb (share_left g s.state w.host z end) (entry_size g end))
      (λ b. share_decides (share_left g s.state w.host z end) (entry_size g end) (unused_in g true r u p) (write_limit g end) (reserve g) (s.state.share (share_at p 0)) (s.state.share (share_at p 1)) refl (one_share w p e) (omega arith)
      (A.shares p (and_split (inside_stripe g end) (present_but g s.lost p) b).1))

  pub write_verdict_lem : (w : WriteAsked) → let z = zone_asked g w in let st = s.state in
      first_refusal (write_rows g t (bad_pointers g named s.memory) named st w r u) ≡ first_refusal (felt_write g w (st.condition z) (st.owner z) (zones_of g st w.host) (open_zones g st) (share_left g st w.host z (end_asked g st w)) s.lost)
  unfolding write_rows over_limit over_open
  write_verdict_lem w =
      let z = zone_asked g w in
      let st = s.state in
      let c = st.condition z in
      let end = end_asked g st w in
      let share = share_left g st w.host z end in
      rw (A.row_1, A.fits, A.row_3, A.row_4, A.drives, A.row_7 z)
      (ends_same
      ((2, not (buffer_fits g w.count (length w.buffer)))
      ∷ (8, no_zone g z || no_host w.host)
      ∷ (9, bad_run g (offset_of g w.address) w.count)
      ∷ (10, not (eqb (offset_of g w.address) (pointer_in c)))
      ∷ (11, is_sealed c)
      ∷ (12, is_worn c)
      ∷ (18, ltb end (zone_sectors g) && (not (counts_as g c && is_owner w.host (st.owner z)) && leb (limit_of w.host) (zones_of g st w.host)))
      ∷ (19, ltb end (zone_sectors g) && (not (counts_as g c) && leb most_open (open_zones g st)))
      ∷ [])
      ((14, write_full g (present_but g s.lost) r u share z end) ∷ (15, gone_before g (present_but g s.lost) u z (st.generation z) (pointer_in c)) ∷ [])
      ((14, (inside_stripe g end && present_but g s.lost (parity_drive_at g z end)) && ltb share (entry_size g end)) ∷ [])
      (λ p. let (a, b) = or_none (no_zone g z) (no_host w.host) p.1.0 in rw (full_is w b, A.known_before z (zone_in_lem g z a)) (last_gone ((inside_stripe g end && present_but g s.lost (parity_drive_at g z end)) && ltb share (entry_size g end)))))
    where
      last_gone : (b : Bool) → first_refusal ((14, b) ∷ (15, false) ∷ []) ≡ first_refusal ((14, b) ∷ [])
      last_gone true = refl
      last_gone false = refl

  pub read_verdict_lem : (a count len : ℕ) → first_refusal (read_rows g t (bad_pointers g named s.memory) named s.state a count len u) ≡ first_refusal (felt_read g a count len (pointer_in (s.state.condition (zone_of g a))))
  unfolding read_rows
  read_verdict_lem a count len =
      let z = zone_of g a in
      let n = pointer_in (s.state.condition z) in
      rw (A.row_1, A.fits, A.row_3, A.row_4, A.drives, A.row_7 z)
      (ends_same ((2, not (buffer_fits g count len)) ∷ (8, no_zone g z) ∷ (9, bad_run g (offset_of g a) count) ∷ (13, ltb n (offset_of g a + count)) ∷ []) ((15, gone_in g (present_but g s.lost) u z (s.state.generation z) (offset_of g a) count) ∷ []) []
      (λ p. let h = zone_in_lem g z p.1.0 in
      let k : offset_of g a + count ≤ length (s.ledger.content z) = omega (arith, ltb-false n (offset_of g a + count) p.1.1.1.0, A.pointer_is z h) in
      rw (A.known z h (offset_of g a) count k) refl))

  pub peek_verdict : (a : ℕ) → first_refusal (peek_rows g t (bad_pointers g named s.memory) named s.state a u) ≡ first_refusal (felt_peek g a (pointer_in (s.state.condition (zone_of g a))) s.lost)
  unfolding peek_rows
  peek_verdict a =
      let z = zone_of g a in
      let n = pointer_in (s.state.condition z) in
      let d = drive_of g.drives g.unit z (offset_of g a) in
      rw (A.row_1, A.fits, A.row_3, A.row_4, A.drives, A.row_7 z)
      (ends_same ((8, no_zone g z) ∷ (13, ltb n (offset_of g a + 1)) ∷ []) ((15, not_held g (present_but g s.lost) u z (s.state.generation z) (offset_of g a)) ∷ []) ((15, not (present_but g s.lost d)) ∷ [])
      (λ p. let h = zone_in_lem g z p.0 in
      let k : offset_of g a < length (s.ledger.content z) = omega (arith, ltb-false n (offset_of g a + 1) p.1.0, A.pointer_is z h) in
      rw (A.held z h (offset_of g a) k) refl))

  pub reset_verdict_lem : (z : ℕ) → first_refusal (reset_rows g t (bad_pointers g named s.memory) named s.state z r u)
      ≡ first_refusal ((8, no_zone g z) ∷ (12, worn_for s.state z) ∷ (14, reset_full g (present_but g s.lost) r (by_state g (present_but g s.lost) u s.state) u) ∷ [])
  unfolding reset_rows
  reset_verdict_lem z = rw (A.row_1, A.fits, A.row_3, A.row_4, A.drives, A.row_7 z) refl
