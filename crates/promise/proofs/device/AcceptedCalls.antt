-- What an accepted call meets: no row of its table applies. So the logs that it asks for room have it, or can be emptied (RoomAsked), and an
-- answer that is finished came of an accepted call. A refused one meets a row that applies. Of the drives named only those below D matter.
use Rattle.volume.specs.meaning.Answers.{CallResult, storing, sectors_in, present_in, lost_drive_in}
use Rattle.volume.specs.declared.Answer.TheVariants.{Finished, Unfinished, Refused, BadLog}
use Rattle.volume.specs.declared.BadPlace.{BadPlace}
use Rattle.volume.specs.laws.Refusals.{accepted_row}
use Rattle.tables.specs.meaning.Device.{apply_all, Store, Device}
use Rattle.tables.specs.meaning.GeometryTest.{is_valid}
use Rattle.tables.specs.laws.GeometryTest.{valid_if_test}
use Rattle.tables.specs.meaning.Tables.{buffer_fits}
use Rattle.volume.specs.meaning.Refusals.{first_refusal, Verdict, bad_pointers, two_lost, refuse, accept, TableLengths, WriteAsked, zone_asked, end_asked, offset_of, no_zone, no_host, state_within, tables_fit, write_full, reset_full, mount_full, compact_full, mount_rows, write_rows, reset_rows, compact_rows}
use Rattle.volume.specs.meaning.Roles.{Roles, roles, by_roles, claim_of_kind, lacks_kind}
use Rattle.volume.specs.meaning.Emptying.{InForce, by_state, by_look, new_parity_size, unused_in, lacks_room, stays_full, spare_written, reserve, mount_general_limit, reset_limit, entry_size, write_limit, emptied_for}
use Rattle.volume.specs.meaning.Hosts.{share_left}
use Rattle.volume.specs.meaning.Rules.{lost_drive, is_lost, is_present, showing}
use Rattle.tables.specs.laws.Below.{any_below_cong, any_below_false, count_below_cong, length_tabulate_from, get_d_tabulate_from}
use Rattle.tables.specs.meaning.Below.{any_below, tabulate_from}
use Rattle.tables.specs.laws.Drives.{find_below_cong}
use Rattle.tables.specs.laws.Basics.{or_none, not_not, and_split}
use Rattle.tables.specs.meaning.Basics.{pick}
use Rattle.std.specs.Prelude.{◌≡◌, refl, ◌≢◌, ◌⊎◌, ◌&&◌, ◌||◌, List, [], ◌∷◌, get_or, take, drop, leb, eqb}
use Rattle.std.proofs.Common.{sym, ◌∙◌, inl, inr, true≢false, mul-le-mul_right, arith, length-drop, length-take-le}
use Rattle.std.proofs.Math.Path.{ap, fun_ext}
use Rattle.std.proofs.Math.Bool.{Bool, true, false, not}
use Prim.Native.Nat.{ℕ, zero, suc, ◌+◌, ◌-◌, ◌*◌, ◌≤◌, ◌<◌}
use Rattle.std.proofs.Math.ListN.{length}
use Rattle.std.proofs.Math.Dec.{ltb}
use borrow.Author.Tests.{ltb-true, ltb-false, eqb-true, eqb-false, leb-false}
use Rattle.tables.specs.declared.Geometry.{Geometry}
use Rattle.tables.specs.meaning.Geometry.{zone_sectors}
use Rattle.logs.specs.meaning.Entry.{parity_zone, spare_zone, worn_generation, kind_of_log}
use Rattle.volume.specs.meaning.Content.{at, inside_stripe, parity_drive_at}
use Rattle.volume.specs.declared.Condition.{Condition}
use Rattle.volume.specs.declared.Condition.TheVariants.{Empty, Open, Sealed, Worn}
use Rattle.volume.specs.meaning.State.{pointer_in, is_sealed, is_worn, StateView, call_present}
use Rattle.promise.proofs.invariant.Obligations.{Writable, WriteOk}
use Rattle.promise.proofs.invariant.RoomAsked.{Emptiable, RoomAsked, general_sizes, ResetAccepted, CompactAccepted, MountAccepted}

module _ (g : Geometry) (named other : ℕ → Bool) (same : (d : ℕ) → d < g.drives → named d ≡ other d) where
  pub lost_same_lem : (v : Device) (d : ℕ) → d < g.drives → is_lost g named v d ≡ is_lost g other v d
  unfolding is_lost
  lost_same_lem v d h = rw (same d h) (ap (λ (b : Bool). not (other d) || b) (any_below_cong _ _ g.drives (λ e l. rw (same e l) refl)))

  below : (d : ℕ) (a b : Bool) → (d < g.drives → a ≡ b) → ltb d g.drives && a ≡ ltb d g.drives && b
  below d a b h = go (ltb d g.drives) refl
    where
      go : (c : Bool) → ltb d g.drives ≡ c → c && a ≡ c && b
      go true e = h (ltb-true d g.drives e)
      go false e = refl

  pub present_same : (v : Device) → is_present g named v ≡ is_present g other v
  unfolding is_present
  present_same v = fun_ext λ d. below d (not (is_lost g named v d)) (not (is_lost g other v d)) (λ h. ap not (lost_same_lem v d h))

  pub call_same : (state : StateView) → call_present g named state ≡ call_present g other state
  unfolding call_present
  call_same state = fun_ext λ d. below d (named d && not (eqb d state.lost)) (other d && not (eqb d state.lost)) (λ h. rw (same d h) refl)

  pub found_same : (v : Device) → lost_drive g named v ≡ lost_drive g other v
  found_same v = find_below_cong (is_lost g named v) (is_lost g other v) g.drives (lost_same_lem v)

  pub two_same : (v : Device) → two_lost g named v ≡ two_lost g other v
  unfolding two_lost
  two_same v = ap (ltb 1) (count_below_cong (is_lost g named v) (is_lost g other v) g.drives (lost_same_lem v))

  pub pointers_same : (v : Device) → bad_pointers g named v ≡ bad_pointers g other v
  unfolding bad_pointers
  pointers_same v = any_below_cong _ _ g.drives (λ d h. rw (same d h) refl)

-- ---- the sectors of a buffer
pub sectors_length : (g : Geometry) (count : ℕ) (buffer : List ℕ) → length (sectors_in g count buffer) ≡ count
unfolding sectors_in
sectors_length g count buffer = length_tabulate_from (λ i. take g.sector (drop (i * g.sector) buffer)) zero count

pub sectors_size : (g : Geometry) (count : ℕ) (buffer : List ℕ) → length buffer ≡ count * g.sector → (a : ℕ) → a < count → length (at (sectors_in g count buffer) a) ≡ g.sector
unfolding sectors_in
sectors_size g count buffer e a h =
    let m : suc a * g.sector ≤ count * g.sector = mul-le-mul_right g.sector h in
    let l : g.sector ≤ length (drop (a * g.sector) buffer) = rw (length-drop (a * g.sector) buffer, e) (omega (arith, m)) in
    let z : 0 + a ≡ a = omega arith in
    let p : get_or (tabulate_from (λ i. take g.sector (drop (i * g.sector) buffer)) zero count) a [] ≡ take g.sector (drop (a * g.sector) buffer) = get_d_tabulate_from (λ i. take g.sector (drop (i * g.sector) buffer)) zero count a h ∙ ap (λ (i : ℕ). take g.sector (drop (i * g.sector) buffer)) z in
    ap length p ∙ length-take-le g.sector (drop (a * g.sector) buffer) l

-- ---- the logs that are asked for room: limit > 0 sectors (size: of the new log)
module _ (g : Geometry) (par : Bool) (r : ℕ → Roles) (w : Device) (limit : ℕ) (pos : zero < limit) where
  unused_room : (d : ℕ) → lacks_room g par r w limit d ≡ false → length (w d (kind_of_log par)).sectors + limit ≤ g.capacity
  unfolding unused_in
  unused_room d h = go (eqb (claim_of_kind par (r d)) 0) (ltb-false (unused_in g par r w d) limit h)
    where
      go : (b : Bool) → limit ≤ pick b 0 (g.capacity - length (w d (kind_of_log par)).sectors) → length (w d (kind_of_log par)).sectors + limit ≤ g.capacity
      go true k = absurd (omega (arith, k, pos))
      go false k = omega (arith, k, pos)

  stays_none : (size d : ℕ) → stays_full g par r limit size d ≡ false → Emptiable g par (r d) limit size
  unfolding stays_full
  stays_none size d h =
      let (p, q) = or_none (ltb (g.capacity - size) limit) (lacks_kind (r d) || ltb worn_generation (claim_of_kind par (r d))) h in
      let (a, b) = or_none (lacks_kind (r d)) (ltb worn_generation (claim_of_kind par (r d))) q in
      record { room = omega (arith, ltb-false (g.capacity - size) limit p, pos); kinds = a; top = ltb-false worn_generation (claim_of_kind par (r d)) b }

  -- (asked: of which drives; emptied: those of them that lack it)
  asked_by_lem : (asked emptied : ℕ → Bool) (size : ℕ → ℕ) → ((d : ℕ) → emptied d ≡ asked d && lacks_room g par r w limit d) → ((d : ℕ) → asked d ≡ true → d < g.drives)
      → ((d : ℕ) → d < g.drives → emptied d ≡ true → stays_full g par r limit (size d) d ≡ false) → RoomAsked g par r w asked emptied limit size
  asked_by_lem asked emptied size is low fits = record {
    roomy = λ d a e. unused_room d (rw a at (sym (is d) ∙ e));
    emptiable = λ d e. let (a, b) = and_split (asked d) (lacks_room g par r w limit d) (sym (is d) ∙ e) in stays_none (size d) d (fits d (low d a) e);
  }

-- a spare that has nothing written
not_written : (w : Device) (d : ℕ) → spare_written w d ≡ false → (w d spare_zone).sectors ≡ []
not_written w d h = go (w d spare_zone).sectors (ltb-false 0 (length (w d spare_zone).sectors) h)
  where
    go : (ss : List (List ℕ)) → length ss ≤ 0 → ss ≡ []
    go [] k = refl
    go (s ∷ ss) k = absurd (omega (arith, k))

-- one drive's part of a row that does not apply
drive_passes : (p q : ℕ → Bool) (n : ℕ) → any_below (λ d. p d && q d) n ≡ false → (d : ℕ) → d < n → p d ≡ true → q d ≡ false
drive_passes p q n h d hd e = rw e at (any_below_false (λ d. p d && q d) n d h hd)

-- ---- an accepted write
writable_by : (c : Condition) → is_sealed c ≡ false → is_worn c ≡ false → Writable c
writable_by Empty p q = tt
writable_by (Open n) p q = tt
writable_by (Sealed n) p q = true≢false p
writable_by (Worn n) p q = true≢false q

call_lt : (g : Geometry) (named : ℕ → Bool) (state : StateView) (d : ℕ) → call_present g named state d ≡ true → d < g.drives
unfolding call_present
call_lt g named state d h = ltb-true d g.drives (and_split (ltb d g.drives) (named d && not (eqb d state.lost)) h).0

present_lt : (g : Geometry) (named : ℕ → Bool) (v : Device) (d : ℕ) → is_present g named v d ≡ true → d < g.drives
unfolding is_present
present_lt g named v d h = ltb-true d g.drives (and_split (ltb d g.drives) (not (is_lost g named v d)) h).0

module _ (g : Geometry) (t : TableLengths) (named : ℕ → Bool) (state : StateView) (v : Device) where
  abbrev here : ℕ → Bool
  here = call_present g named state

  abbrev force : InForce
  force = by_state g here (by_roles g v) state

  -- the log of its entry has room for that and the reserve, if the write ends inside a stripe and the drive is present
  entry_room : (share z end : ℕ) → write_full g here (roles g v) (by_roles g v) share z end ≡ false → inside_stripe g end ≡ true → here (parity_drive_at g z end) ≡ true
      → length (by_roles g v (parity_drive_at g z end) parity_zone).sectors + write_limit g end ≤ g.capacity
  unfolding write_full
  entry_room share z end h i a =
      let p = parity_drive_at g z end in
      let q : ltb share (entry_size g end) || lacks_room g true (roles g v) (by_roles g v) (write_limit g end) p ≡ false = rw (i, a) at h in
      unused_room g true (roles g v) (by_roles g v) (write_limit g end) (omega arith) p (or_none (ltb share (entry_size g end)) (lacks_room g true (roles g v) (by_roles g v) (write_limit g end) p) q).1

  pub write_accepted : (a : WriteAsked) → first_refusal (write_rows g t (bad_pointers g named v) named state a (roles g v) (by_roles g v)) ≡ accept → WriteOk g here (by_roles g v) state (zone_asked g a) (sectors_in g a.count a.buffer)
  unfolding write_rows buffer_fits
  write_accepted a e =
      let z = zone_asked g a in
      let offset = offset_of g a.address in
      let pointer = pointer_in (state.condition z) in
      let row = accepted_row (write_rows g t (bad_pointers g named v) named state a (roles g v) (by_roles g v)) e in
      let fits = buffer_fits g a.count (length a.buffer) in
      let (q1, q2) = and_split (tables_fit g t) fits (not_not (tables_fit g t && fits) (row 2)) in
      let (h1, h2) = or_none (no_zone g z) (no_host a.host) (row 8) in
      let (n1, n2) = or_none (eqb a.count 0) (ltb (zone_sectors g) (offset + a.count)) (row 9) in
      let o : offset ≡ pointer = eqb-true offset pointer (not_not (eqb offset pointer) (row 10)) in
      let n : a.count ≢ 0 = eqb-false a.count 0 n1 in
      let len = sectors_length g a.count a.buffer in
      record {
        zone_ok = ltb-true z g.zones (not_not (ltb z g.zones) h1);
        writable = writable_by (state.condition z) (row 11) (row 12);
        some = rw len (omega arith);
        run = rw len (omega (arith, ltb-false (zone_sectors g) (offset + a.count) n2));
        sizes = λ i h. sectors_size g a.count a.buffer (eqb-true (length a.buffer) (a.count * g.sector) q2) i (rw len at h);
        room = rw len (entry_room (share_left g state a.host z (end_asked g state a)) z (end_asked g state a) (row 14));
      }

  -- ---- an accepted compact
  pub compact_accepted : (d : ℕ) → first_refusal (compact_rows g t (bad_pointers g named v) named state d (roles g v) (by_roles g v)) ≡ accept → CompactAccepted g here (roles g v) (by_roles g v) force d
  unfolding compact_rows compact_full
  compact_accepted d e =
      let row = accepted_row (compact_rows g t (bad_pointers g named v) named state d (roles g v) (by_roles g v)) e in
      let ok = valid_if_test g (and_split (is_valid g) (state_within g state) (not_not (is_valid g && state_within g state) (row 1))).0 in
      let pos : zero < reserve g = omega (arith, ok.unit_least) in
      let stays = stays_full g true (roles g v) (reserve g) (new_parity_size g force d) d in
      let (a, b) = or_none stays (spare_written (by_roles g v) d) (row 14) in
      record { here = not_not (here d) (row 8); log = stays_none g true (roles g v) (by_roles g v) (reserve g) pos (new_parity_size g force d) d a; blank = not_written (by_roles g v) d b }

  -- ---- an accepted reset
  pub reset_accepted : (z : ℕ) → first_refusal (reset_rows g t (bad_pointers g named v) named state z (roles g v) (by_roles g v)) ≡ accept → ResetAccepted g here (roles g v) (by_roles g v) force state z
  unfolding reset_rows reset_full emptied_for
  reset_accepted z e =
      let row = accepted_row (reset_rows g t (bad_pointers g named v) named state z (roles g v) (by_roles g v)) e in
      let (w1, w2) = or_none (is_worn (state.condition z)) (leb worn_generation (state.generation z)) (row 12) in
      let emptied : ℕ → Bool = emptied_for g here false (roles g v) (by_roles g v) (reset_limit g) in
      let stays : ℕ → Bool = λ d. stays_full g false (roles g v) (reset_limit g) (general_sizes g force (by_roles g v) d) d in
      let low : (d : ℕ) → emptied d ≡ true → d < g.drives = λ d m. call_lt g named state d (and_split (here d) (lacks_room g false (roles g v) (by_roles g v) (reset_limit g) d) m).0 in
      let fits : (d : ℕ) → d < g.drives → emptied d ≡ true → (stays d ≡ false) × (spare_written (by_roles g v) d ≡ false) = λ d hd m. or_none (stays d) (spare_written (by_roles g v) d) (drive_passes emptied (λ d. stays d || spare_written (by_roles g v) d) g.drives (row 14) d hd m) in
      record {
        zone_ok = ltb-true z g.zones (not_not (ltb z g.zones) (row 8));
        not_worn = omega (arith, leb-false worn_generation (state.generation z) w2);
        logs = asked_by_lem g false (roles g v) (by_roles g v) (reset_limit g) (omega arith) here emptied (general_sizes g force (by_roles g v)) (λ d. refl) (call_lt g named state) (λ d hd m. (fits d hd m).0);
        blank = λ d m. not_written (by_roles g v) d (fits d (low d m) m).1;
      }

-- ---- an accepted mount
pub mount_accepted : (g : Geometry) (t : TableLengths) (named : ℕ → Bool) (v : Device) → first_refusal (mount_rows g t (bad_pointers g named v) named (roles g v) (by_roles g v)) ≡ accept
    → let present = present_in g named v in MountAccepted g present (roles g v) (by_roles g v) (by_look (showing g present (lost_drive_in g named v) (by_roles g v)))
unfolding mount_rows mount_full emptied_for
mount_accepted g t named v e =
    let present = present_in g named v in
    let r = roles g v in
    let w = by_roles g v in
    let f = by_look (showing g present (lost_drive_in g named v) w) in
    let row = accepted_row (mount_rows g t (bad_pointers g named v) named r w) e in
    let ok = valid_if_test g (not_not (is_valid g) (row 1)) in
    let general : ℕ → Bool = emptied_for g present false r w (mount_general_limit g) in
    let parity : ℕ → Bool = emptied_for g present true r w (reserve g) in
    let one : (d : ℕ) → d < g.drives → (general d && stays_full g false r (mount_general_limit g) (general_sizes g f w d) d ≡ false) × (parity d && stays_full g true r (reserve g) (new_parity_size g f d) d ≡ false)
    = λ d hd. or_none (general d && stays_full g false r (mount_general_limit g) (general_sizes g f w d) d) (parity d && stays_full g true r (reserve g) (new_parity_size g f d) d) (any_below_false _ g.drives d (row 14) hd) in
    record {
      general = asked_by_lem g false r w (mount_general_limit g) (omega arith) present general (general_sizes g f w) (λ d. refl) (present_lt g named w) (λ d hd m. rw m at (one d hd).0);
      parity = asked_by_lem g true r w (reserve g) (omega (arith, ok.unit_least)) present parity (new_parity_size g f) (λ d. refl) (present_lt g named w) (λ d hd m. rw m at (one d hd).1);
    }

-- ---- a refused call: the row of that number applies, and none before it
abbrev pub Applies : List (ℕ × Bool) → ℕ → Type 0
Applies [] n = ⊥
Applies ((m, b) ∷ rows) n = ((n ≡ m) × (b ≡ true)) ⊎ ((b ≡ false) × Applies rows n)

pub refused_applies : (rows : List (ℕ × Bool)) (n : ℕ) → first_refusal rows ≡ refuse n → Applies rows n
refused_applies [] n e = absurd (let z : ◌≡◌ {A = ℕ} 0 1 = cc in omega arith)
refused_applies ((m, b) ∷ rows) n e = go b refl e (λ q. refused_applies rows n q)
  where
    go : (c : Bool) → b ≡ c → pick c (refuse m) (first_refusal rows) ≡ refuse n → (first_refusal rows ≡ refuse n → Applies rows n) → ((n ≡ m) × (b ≡ true)) ⊎ ((b ≡ false) × Applies rows n)
    go true p q ih = inl ((let k : m ≡ n = cc in sym k), p)
    go false p q ih = inr (p, ih q)

-- ---- what an answer tells of the call
module _ (r : Verdict) (xs : List Store) (new old : StateView) (stop : ℕ) (v : Device) where
  pub storing_refused : (n : ℕ) → (storing r xs new old stop v).answer ≡ Refused n → r ≡ refuse n
  storing_refused n e = go r e
    where
      by_count : (b : Bool) → (pick {A = CallResult Device StateView} b (record { answer = Unfinished; memory = apply_all (take stop xs) v; state = old }) (record { answer = Finished; memory = apply_all xs v; state = new })).answer ≡ Refused n → accept ≡ refuse n
      by_count true q = absurd (let z : ◌≡◌ {A = ℕ} 0 1 = cc in omega arith)
      by_count false q = absurd (let z : ◌≡◌ {A = ℕ} 0 1 = cc in omega arith)

      go : (u : Verdict) → (storing u xs new old stop v).answer ≡ Refused n → u ≡ refuse n
      go (refuse m) q = let k : m ≡ n = cc in ap refuse k
      go accept q = by_count (ltb stop (length xs)) q

  -- (the rules tell row 6 by its number)
  pub storing_no_place : (b : BadPlace) → (storing r xs new old stop v).answer ≢ BadLog b
  storing_no_place b e = go r e
    where
      by_count : (c : Bool) → (pick {A = CallResult Device StateView} c (record { answer = Unfinished; memory = apply_all (take stop xs) v; state = old }) (record { answer = Finished; memory = apply_all xs v; state = new })).answer ≡ BadLog b → ⊥
      by_count true q = absurd (let z : ◌≡◌ {A = ℕ} 0 1 = cc in omega arith)
      by_count false q = absurd (let z : ◌≡◌ {A = ℕ} 0 1 = cc in omega arith)

      go : (u : Verdict) → (storing u xs new old stop v).answer ≡ BadLog b → ⊥
      go (refuse m) q = absurd (let z : ◌≡◌ {A = ℕ} 0 1 = cc in omega arith)
      go accept q = by_count (ltb stop (length xs)) q

  pub storing_finished : (storing r xs new old stop v).answer ≡ Finished → (r ≡ accept) × (ltb stop (length xs) ≡ false)
  storing_finished e = go r e
    where
      by_count : (b : Bool) → (pick {A = CallResult Device StateView} b (record { answer = Unfinished; memory = apply_all (take stop xs) v; state = old }) (record { answer = Finished; memory = apply_all xs v; state = new })).answer ≡ Finished → b ≡ false
      by_count true q = absurd (let z : ◌≡◌ {A = ℕ} 0 1 = cc in omega arith)
      by_count false q = refl

      go : (u : Verdict) → (storing u xs new old stop v).answer ≡ Finished → (u ≡ accept) × (ltb stop (length xs) ≡ false)
      go (refuse m) q = absurd (let z : ◌≡◌ {A = ℕ} 0 1 = cc in omega arith)
      go accept q = (refl, by_count (ltb stop (length xs)) q)

  pub storing_unfinished : (storing r xs new old stop v).answer ≡ Unfinished → (r ≡ accept) × (ltb stop (length xs) ≡ true)
  storing_unfinished e = go r e
    where
      by_count : (b : Bool) → (pick {A = CallResult Device StateView} b (record { answer = Unfinished; memory = apply_all (take stop xs) v; state = old }) (record { answer = Finished; memory = apply_all xs v; state = new })).answer ≡ Unfinished → b ≡ true
      by_count true q = refl
      by_count false q = absurd (let z : ◌≡◌ {A = ℕ} 0 1 = cc in omega arith)

      go : (u : Verdict) → (storing u xs new old stop v).answer ≡ Unfinished → (u ≡ accept) × (ltb stop (length xs) ≡ true)
      go (refuse m) q = absurd (let z : ◌≡◌ {A = ℕ} 0 1 = cc in omega arith)
      go accept q = (refl, by_count (ltb stop (length xs)) q)
