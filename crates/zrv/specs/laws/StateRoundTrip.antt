-- What a finished call of the C edge hands on: the state's bytes that it leaves are those of the state that the call on tables hands on, they read back as
-- that very state, and the next call takes them. So it is for each of the seven calls that hand on a state; nothing is asked but that the call returned 0.
use Rattle.std.specs.Prelude.{◌≡◌, ◌≢◌, ◌⊎◌, Bool, ◌&&◌, ◌||◌, List, length, get_or, set, ltb, leb, eqb}
use Rattle.std.proofs.Math.Path.{refl, subst}
use Rattle.std.proofs.Common.{sym, ap, ◌∙◌, inl, inr, arith, length-set, get_or-set_same, get_or-set_other}
use Rattle.std.proofs.Math.Bool.{true, false, not}
use Prim.Native.Nat.{ℕ, zero, suc, ◌-◌, ◌*◌, ◌^◌, ◌≤◌, ◌<◌, zero-le}
use Rattle.std.proofs.Math.Decide.{ℕ_discrete}
use borrow.Author.Tests.{lt-ltb, ltb-true, le-leb, leb-false, eq-eqb, eqb-true, eqb-false}
use Rattle.tables.specs.declared.Geometry.{Geometry}
use Rattle.tables.specs.meaning.Basics.{pick}
use Rattle.tables.specs.laws.Basics.{and_split, and_join, or_cases, or_none, or_left, or_right, not_not}
use Rattle.tables.specs.meaning.Below.{all_below, tabulate}
use Rattle.tables.specs.laws.Below.{all_all_below, length_tabulate, get_d_tabulate}
use Rattle.tables.specs.meaning.Drives.{find_below, no_drive}
use Rattle.tables.specs.laws.Drives.{find_below_is}
use Rattle.tables.specs.meaning.Geometry.{Valid, cells, zone_sectors, max_zones}
use Rattle.tables.specs.meaning.GeometryTest.{is_valid}
use Rattle.tables.specs.laws.GeometryTest.{test_if_valid}
use Rattle.tables.specs.meaning.Placement.{stripe_of}
use Rattle.tables.specs.laws.Placement.{parity_drive_below}
use Rattle.tables.specs.laws.Sizes.{zone_small}
use Rattle.tables.specs.meaning.Device.{Device, Store}
use Rattle.tables.specs.meaning.Tables.{Tables, device_of, run_stores}
use Rattle.logs.specs.meaning.Entry.{worn_generation}
use Rattle.volume.specs.declared.Condition.TheVariants.{Empty, Open, Sealed, Worn}
use Rattle.volume.specs.declared.ZoneRecord.{ZoneRecord}
use Rattle.volume.specs.declared.State.{State}
use Rattle.volume.specs.declared.Answer.{Answer}
use Rattle.volume.specs.declared.Answer.TheVariants.{Finished, Unfinished, Refused}
use Rattle.volume.specs.declared.Outcome.{Outcome}
use Rattle.volume.specs.meaning.State.{StateView, with_shares, share_at, pointer_in, is_worn, call_present}
use Rattle.volume.specs.meaning.Content.{parity_drive_at}
use Rattle.volume.specs.meaning.Rules.{is_lost, condition_of, generation_of, pointer_at, clean_at, seal_seen, zone_at, zone_shown, showing}
use Rattle.volume.specs.meaning.Refusals.{accept, state_within, WriteAsked, zone_asked, end_asked, reset_rows}
use Rattle.volume.specs.meaning.Calls.{flush_stores, format_stores, flush_state, format_state, reset_state}
use Rattle.volume.specs.meaning.Roles.{by_roles}
use Rattle.volume.specs.meaning.Emptying.{by_state, new_parity_size, write_all, reset_all, compact_stores}
use Rattle.volume.specs.meaning.Hosts.{half_past, shares_in, fresh_shares, renewed_shares, entry_taken, written_state, compact_state}
use Rattle.volume.specs.meaning.Answers.{lost_in, left_out, named_drives, sectors_in, present_in, lost_drive_in, refused_at}
use Rattle.volume.specs.meaning.CallContracts.{blank_record, record_at, view_state, is_set, answer_number, verdict_number, lengths_of, bad_in, roles_of, seen_in, Result, storing_on, state_held}
use Rattle.volume.specs.meaning.CallContracts.{flush_verdict, flush_on, reset_verdict, reset_on, format_verdict, format_on, look_verdict, look_on, write_verdict, write_on, compact_verdict, compact_on, mount_verdict, mount_stores_on, mount_shown_on, bad_place_on, mount_on}
use Rattle.volume.specs.laws.StateHeld.{Sixteen, records_past, owned_record, shares_less, reset_record, held_sixteen, held_at, held_past, held_lost, held_shares, held_owned, held_reset}
use Rattle.volume.specs.checks.ZoneChecks.{pointer_within}
use Rattle.volume.specs.laws.Refusals.{accepted_row}
use Rattle.volume.specs.laws.PassedRows.{reset_number_accepts, reset_passed, write_number_accepts, write_passed, compact_number_accepts, compact_passed}
use Rattle.volume.specs.laws.AnswerNumbers.{refused_numbered, look_told, mount_told}
use Rattle.volume.specs.laws.GenerationRange.{generation_range, worn_top}
use Rattle.volume.specs.laws.LookPointers.{pointer_within as pointer-at-within}
use Rattle.volume.specs.meaning.Mount.{shown_state}
use Rattle.zrv.specs.meaning.Bytes.{state_bytes, state_from, state_to, state_well_formed}
use Rattle.zrv.specs.meaning.EdgeCalls.{named_of, sizes_fit, state_bad, input_number, sizes_number, Ranges, tables_in, state_in, unread_state, state_after, Answered, unless_refused, handed_back, stored_all, stored_flushes, without_place, flush_of_bytes, flush_edge, look_of_bytes, look_edge, mount_of_bytes, mount_edge, format_of_bytes, format_edge, reset_of_bytes, reset_edge, write_of_bytes, write_edge, compact_of_bytes, compact_edge}
use Rattle.zrv.specs.laws.EdgeCalls.{Sized, input_passed, sizes_passed, refused, made, state_new, look_alone, mount_alone}
use Rattle.zrv.specs.laws.CallsLeave.{storing_told, mount_stored}
use Rattle.zrv.specs.laws.Bytes.{length_state_to}
use Rattle.zrv.specs.laws.RoundTrips.{StateRange, state_bytes_state, state_well_formed_lem, read_generation, read_share, no_share_read, read_sixteen}
use Rattle.zrv.specs.laws.ShareWords.{ShareWords, held_words, look_words, format_words, renewed_words, less_words}

-- ---- what is promised of the bytes that a call leaves and of the state s that it hands on (w, d: the lengths of the two tables, in bytes)
pub record HandsOn (g : Geometry) (bytes : List ℕ) (s : State) (w d : ℕ) : Type 0 where
  pub in_range : StateRange g s
  pub bytes_are : bytes ≡ state_to g s
  pub reads_back : state_from g bytes ≡ s
  pub well_formed : state_well_formed g bytes ≡ true
  pub within : state_within g (view_state s) ≡ true
  pub taken : input_number g bytes w d ≡ 0

-- ---- a state within its bounds: what each call is shown to hand on
pub record Bounded (g : Geometry) (s : State) : Type 0 where
  pub lost_drive_lem : (s.lost < g.drives) ⊎ (s.lost ≡ no_drive)
  pub sixteen : Sixteen s
  pub generations : (z : ℕ) → z < g.zones → (record_at s z).generation < 256 ^ 8
  pub pointers : (z : ℕ) → z < g.zones → pointer_in (record_at s z).condition ≤ zone_sectors g
  pub past : (z : ℕ) → g.zones ≤ z → record_at s z ≡ blank_record
  pub shares : ShareWords g (λ i. get_or s.shares i 0)

-- bytes can hold it
bounded_range : (g : Geometry) (s : State) → Valid g → Bounded g s → StateRange g s
bounded_range g s ok b = record {
  zones_most = ok.zones_most;
  drives_most = ok.drives_most;
  lost_byte = small b.lost_drive_lem;
  sixteen = b.sixteen;
  generations = b.generations;
  pointers = λ z h. omega (arith, b.pointers z h, (zone_small g ok).1);
  past = b.past;
  shares = b.shares.small;
  no_share = b.shares.none_past;
}
  where
    small : (s.lost < g.drives) ⊎ (s.lost ≡ no_drive) → s.lost < 256
    small (inl l) = omega (arith, l, ok.drives_most)
    small (inr e) = omega (arith, e)

-- refusal 1 does not meet it
bounded_within : (g : Geometry) (s : State) → Bounded g s → state_within g (view_state s) ≡ true
unfolding state_within
bounded_within g s b =
    and_join (ltb s.lost g.drives || eqb s.lost no_drive) (all_below (λ z. leb (pointer_in (record_at s z).condition) (zone_sectors g)) g.zones) (lost_fine b.lost_drive_lem)
    (all_all_below (λ z. leb (pointer_in (record_at s z).condition) (zone_sectors g)) g.zones (λ z h. le-leb (pointer_in (record_at s z).condition) (zone_sectors g) (b.pointers z h)))
  where
    lost_fine : (s.lost < g.drives) ⊎ (s.lost ≡ no_drive) → ltb s.lost g.drives || eqb s.lost no_drive ≡ true
    lost_fine (inl l) = or_left (ltb s.lost g.drives) (eqb s.lost no_drive) (lt-ltb s.lost g.drives l)
    lost_fine (inr e) = or_right (ltb s.lost g.drives) (eqb s.lost no_drive) (eq-eqb s.lost no_drive e)

-- so the next call takes its bytes
bounded_taken : (g : Geometry) (s : State) (n w d : ℕ) → Sized g n w d → Bounded g s → input_number g (state_to g s) w d ≡ 0
unfolding input_number state_bad sizes_fit
bounded_taken g s n w d q b =
    let r = bounded_range g s q.valid b in
    rw (
      test_if_valid g q.valid q.logs_first,
      length_state_to g s q.valid.zones_most q.valid.drives_most,
      state_well_formed_lem g s r,
      state_bytes_state g s r,
      bounded_within g s b,
      eq-eqb w (cells g * 4) q.written_long,
      eq-eqb d (cells g * 4) q.durable_long,
    ) refl

hands_on : (g : Geometry) (bytes : List ℕ) (s : State) (n w d : ℕ) → Sized g n w d → bytes ≡ state_to g s → Bounded g s → HandsOn g bytes s w d
hands_on g bytes s n w d q e b =
    let r = bounded_range g s q.valid b in
    record {
      in_range = r;
      bytes_are = e;
      reads_back = ap (state_from g) e ∙ state_bytes_state g s r;
      well_formed = ap (state_well_formed g) e ∙ state_well_formed_lem g s r;
      within = bounded_within g s b;
      taken = ap (λ (l : List ℕ). input_number g l w d) e ∙ bounded_taken g s n w d q b;
    }

-- ---- a call that returned 0: nothing was refused before it, it is finished, and its state's bytes are those of its outcome's state
module _ (g : Geometry) (n : ℕ) (r : Answered Ranges) (o : Outcome) (m : Ranges) where
  edge_hands_on : answer_number o.answer ≡ r.code → state_after g o m.state ≡ r.left.state
      → (n ≡ 0 → Sized g (length m.state) (length m.written) (length m.durable)) → (n ≡ 0 → Valid g → answer_number o.answer ≡ 0 → Bounded g o.state)
      → (unless_refused n r m).code ≡ 0 → HandsOn g (unless_refused n r m).left.state o.state (length m.written) (length m.durable)
  edge_hands_on answers left sized bounded h = go (ℕ_discrete n 0)
    where
      go : Dec (n ≡ 0) → HandsOn g (unless_refused n r m).left.state o.state (length m.written) (length m.durable)
      go (no e) = absurd (e (ap (λ (x : Answered Ranges). x.code) (refused n r m e) ∙ h))
      go (yes e) =
          let u : r ≡ unless_refused n r m = made n r m e in
          let a : answer_number o.answer ≡ 0 = answers ∙ ap (λ (x : Answered Ranges). x.code) u ∙ h in
          let b : (unless_refused n r m).left.state ≡ state_to g o.state = sym (state_new g o m.state a ∙ left ∙ ap (λ (x : Answered Ranges). x.left.state) u) in
          hands_on g (unless_refused n r m).left.state o.state (length m.state) (length m.written) (length m.durable) (sized e) b (bounded e (sized e).valid a)

-- a finished call was not refused, and its state is the new one
-- (told: how it is answered if it is refused)
module _ (P : State → Type 0) (g : Geometry) (n : ℕ) (ss : List Store) (new old : State) (count : ℕ) (t : Tables) where
  finished_told : (told : ℕ → Answer) → (n ≢ 0 → answer_number (told n) ≢ 0) → (n ≡ 0 → P new) → answer_number (storing_told told g n ss new old count t).outcome.answer ≡ 0 → P (storing_told told g n ss new old count t).outcome.state
  finished_told told numbered made = go (eqb n 0) (ltb count (length ss)) refl
    where
      ended : Bool → Bool → Outcome
      ended b c = pick b (pick c (record { answer = Unfinished; state = old }) (record { answer = Finished; state = new })) (record { answer = told n; state = old })

      go : (b c : Bool) → eqb n 0 ≡ b → answer_number (ended b c).answer ≡ 0 → P (ended b c).state
      go true true e h = absurd (omega arith)
      go true false e h = made (eqb-true n 0 e)
      go false c e h = absurd (numbered (eqb-false n 0 e) h)

  finished_new : (n ≡ 0 → P new) → answer_number (storing_on g n ss new old count t).outcome.answer ≡ 0 → P (storing_on g n ss new old count t).outcome.state
  finished_new = finished_told Refused (λ h. h)

-- ---- states read from bytes that passed
state_passed : (g : Geometry) (st : List ℕ) (w d : ℕ) → input_number g st w d ≡ 0 → (state_well_formed g st ≡ true) × (state_within g (view_state (state_from g st)) ≡ true)
unfolding input_number state_bad
state_passed g st w d h =
    let long : length st ≡ state_bytes = (input_passed g st w d h).state_long in
    let well = state_well_formed g st && state_within g (view_state (state_from g st)) in
    let bad : not well ≡ false = rw (eq-eqb (length st) state_bytes long) at (by (is_valid g) (eqb (length st) state_bytes && not well) (sizes_fit g (length st) w d) h) in
    and_split (state_well_formed g st) (state_within g (view_state (state_from g st))) (not_not well bad)
  where
    by : (a b e : Bool) → ◌≡◌ {A = ℕ} (pick a (pick b 1 (pick e 0 2)) 1) 0 → b ≡ false
    by true true e k = absurd (omega arith)
    by true false e k = refl
    by false b e k = absurd (omega arith)

within_lost : (g : Geometry) (s : State) → state_within g (view_state s) ≡ true → (s.lost < g.drives) ⊎ (s.lost ≡ no_drive)
unfolding state_within
within_lost g s h = go (or_cases (ltb s.lost g.drives) (eqb s.lost no_drive) (and_split (ltb s.lost g.drives || eqb s.lost no_drive) (all_below (λ z. leb (pointer_in (record_at s z).condition) (zone_sectors g)) g.zones) h).0)
  where
    go : (ltb s.lost g.drives ≡ true) ⊎ ((ltb s.lost g.drives ≡ false) × (eqb s.lost no_drive ≡ true)) → (s.lost < g.drives) ⊎ (s.lost ≡ no_drive)
    go (inl e) = inl (ltb-true s.lost g.drives e)
    go (inr e) = inr (eqb-true s.lost no_drive e.1)

read_bounded : (g : Geometry) (st : List ℕ) (w d : ℕ) → input_number g st w d ≡ 0 → Bounded g (state_from g st)
unfolding state_from
read_bounded g st w d h =
    let (well, within) = state_passed g st w d h in
    let ok = (input_passed g st w d h).valid in
    record {
      lost_drive_lem = within_lost g (state_from g st) within;
      sixteen = read_sixteen g st ok.zones_most ok.drives_most;
      generations = λ z l. read_generation g st z well l;
      pointers = λ z l. pointer_within g (state_from g st) z within l;
      past = λ z l. records_past _ g.zones z l;
      shares = record { small = λ i l. read_share g st i ok.zones_most well l; none_past = no_share_read g st };
    }

-- ---- states that a call makes of it
-- one zone's record is new, perhaps the lost drive, perhaps the shares
zone_bounded : (g : Geometry) (s : State) (x z : ℕ) (r : ZoneRecord) (ns : List ℕ) → Valid g → Bounded g s → (x < g.drives) ⊎ (x ≡ no_drive) → z < g.zones → r.generation < 256 ^ 8 → pointer_in r.condition ≤ zone_sectors g
    → length ns ≡ 16 → ShareWords g (λ i. get_or ns i 0) → Bounded g (record { lost = x; zones = set s.zones z r; shares = ns })
zone_bounded g s x z r ns ok b lost hz n p many fit = record {
  lost_drive_lem = lost;
  sixteen = record { records = length-set s.zones z r ∙ b.sixteen.records; shares = many };
  generations = λ y h. generation y h (ℕ_discrete y z);
  pointers = λ y h. pointer y h (ℕ_discrete y z);
  past = λ y h. get_or-set_other s.zones z y r blank_record (λ e. omega (arith, e, h, hz)) ∙ b.past y h;
  shares = fit;
}
  where
    here : get_or (set s.zones z r) z blank_record ≡ r
    here = get_or-set_same s.zones z r blank_record (omega (arith, hz, ok.zones_most, b.sixteen.records))

    generation : (y : ℕ) → y < g.zones → Dec (y ≡ z) → (get_or (set s.zones z r) y blank_record).generation < 256 ^ 8
    generation y h (yes e) = rw (e, here) n
    generation y h (no e) = rw (get_or-set_other s.zones z y r blank_record e) (b.generations y h)

    pointer : (y : ℕ) → y < g.zones → Dec (y ≡ z) → pointer_in (get_or (set s.zones z r) y blank_record).condition ≤ zone_sectors g
    pointer y h (yes e) = rw (e, here) p
    pointer y h (no e) = rw (get_or-set_other s.zones z y r blank_record e) (b.pointers y h)

-- the lost drive, where one is looked for
drive_found : (p : ℕ → Bool) (n : ℕ) → (find_below p n < n) ⊎ (find_below p n ≡ no_drive)
drive_found p n = go (find_below_is p n)
  where
    go : ((find_below p n ≡ no_drive) × ((k : ℕ) → k < n → p k ≡ false)) ⊎ ((find_below p n < n) × (p (find_below p n) ≡ true)) → (find_below p n < n) ⊎ (find_below p n ≡ no_drive)
    go (inl q) = inr q.0
    go (inr q) = inl q.0

lost_found : (g : Geometry) (named : List Bool) (s : State) → (lost_in g (is_set named) (view_state s) < g.drives) ⊎ (lost_in g (is_set named) (view_state s) ≡ no_drive)
unfolding lost_in
lost_found g named s = drive_found _ g.drives

-- a view of which no more than the volume's zones is kept
held_bounded : (g : Geometry) (v : StateView) → Valid g → (v.lost < g.drives) ⊎ (v.lost ≡ no_drive) → ((z : ℕ) → z < g.zones → v.generation z < 256 ^ 8)
    → ((z : ℕ) → z < g.zones → pointer_in (v.condition z) ≤ zone_sectors g) → ShareWords g v.share → Bounded g (state_held g.zones v)
held_bounded g v ok lost generations pointers fit = record {
  lost_drive_lem = lost;
  sixteen = held_sixteen g.zones v ok.zones_most;
  generations = λ z h. rw (held_at g.zones v z h) (generations z h);
  pointers = λ z h. rw (held_at g.zones v z h) (pointers z h);
  past = held_past g.zones v;
  shares = held_words g v.share ok fit;
}

-- ---- states that are shown
pointer_shown : (n q m : ℕ) (clean has_seal : Bool) → q ≤ m → pointer_in (condition_of n q clean has_seal) ≤ m
pointer_shown n q m clean has_seal h = go (eqb n worn_generation) (eqb q 0) (not clean || has_seal)
  where
    go : (a b c : Bool) → pointer_in (pick a (Worn q) (pick b Empty (pick c (Sealed q) (Open q)))) ≤ m
    go true b c = h
    go false true c = zero-le
    go false false true = h
    go false false false = h

-- (v: the physical device)
shown_bounded : (g : Geometry) (present lost : ℕ → Bool) (v : Device) → Valid g → ShareWords g (shares_in g present v) → Bounded g (state_held g.zones (shown_state g present (find_below lost g.drives) v))
unfolding showing zone_shown zone_at
shown_bounded g present lost v ok fit = held_bounded g (shown_state g present (find_below lost g.drives) v) ok (drive_found lost g.drives) (generation_range g present (by_roles g v)) (λ z h. pointer z) fit
  where
    w : Device
    w = by_roles g v

    pointer : (z : ℕ) → pointer_in (zone_shown g present w z).condition ≤ zone_sectors g
    pointer z =
        let n = generation_of g present w z in
        let q = pointer_at g present w z n in
        pointer_shown n q (zone_sectors g) (clean_at g present w z n q) (seal_seen g present w z n) (pointer-at-within g present w z n)

-- of drives that a look of a device finds present, shown in another
pub shown_read_back : (g : Geometry) (named : ℕ → Bool) (v u : Device) → Valid g
    → let s = state_held g.zones (shown_state g (present_in g named v) (lost_drive_in g named v) u) in state_from g (state_to g s) ≡ s
shown_read_back g named v u ok =
    let s = state_held g.zones (shown_state g (present_in g named v) (lost_drive_in g named v) u) in
    state_bytes_state g s (bounded_range g s ok (shown_bounded g (present_in g named v) (is_lost g named (by_roles g v)) u ok (look_words g named v u ok)))

-- ==== the calls on tables: what each hands on when it is finished
-- refusal 12: the zone of an accepted reset has a generation left
reset_fresh : (g : Geometry) (named : List Bool) (s : State) (z : ℕ) (t : Tables) → reset_verdict g named s z t ≡ accept → (record_at s z).generation < worn_generation
unfolding reset_verdict reset_rows
reset_fresh g named s z t e =
    let row = accepted_row (reset_rows g (lengths_of t) (bad_in g named t) (is_set named) (view_state s) z (roles_of g t) (seen_in g t)) e 12 in
    omega (arith, leb-false worn_generation (record_at s z).generation (or_none (is_worn (record_at s z).condition) (leb worn_generation (record_at s z).generation) row).1)

module _ (g : Geometry) (named : List Bool) (s : State) (b : Bounded g s) (count : ℕ) where
  flush_bounded : (t : Tables) → answer_number (flush_on g named s count t).outcome.answer ≡ 0 → Bounded g (flush_on g named s count t).outcome.state
  unfolding flush_on
  flush_bounded t =
      finished_new (Bounded g) g (verdict_number (flush_verdict g named s t)) (flush_stores g (call_present g (is_set named) (view_state s))) (state_held max_zones (flush_state (lost_in g (is_set named) (view_state s)) (view_state s))) s count t
      (λ v.
      subst (Bounded g) (held_lost s (lost_in g (is_set named) (view_state s)) b.sixteen)
      (record { lost_drive_lem = lost_found g named s; sixteen = record { records = b.sixteen.records; shares = b.sixteen.shares }; generations = b.generations; pointers = b.pointers; past = b.past; shares = b.shares }))

  reset_bounded : (z : ℕ) (t : Tables) → Valid g → answer_number (reset_on g named s z count t).outcome.answer ≡ 0 → Bounded g (reset_on g named s z count t).outcome.state
  unfolding reset_on
  reset_bounded z t ok =
      finished_new (Bounded g) g (verdict_number (reset_verdict g named s z t)) (reset_all g (call_present g (is_set named) (view_state s)) (roles_of g t) (seen_in g t) (view_state s) z) (state_held max_zones (reset_state (lost_in g (is_set named) (view_state s)) (view_state s) z)) s count t
      (λ v.
      let a = reset_number_accepts g named t s z v in
      let hz : z < g.zones = (reset_passed g named s z t a).zone in
      subst (Bounded g) (held_reset s (lost_in g (is_set named) (view_state s)) z b.sixteen (omega (arith, hz, ok.zones_most)))
      (zone_bounded g s (lost_in g (is_set named) (view_state s)) z (reset_record (record_at s z)) s.shares ok b (lost_found g named s) hz (omega (arith, reset_fresh g named s z t a, worn_top))
      (pointer (eqb (suc (record_at s z).generation) worn_generation)) b.sixteen.shares b.shares))
    where
      pointer : (c : Bool) → pointer_in (pick c (Worn zero) Empty) ≤ zone_sectors g
      pointer true = zero-le
      pointer false = zero-le

  write_bounded : (a : WriteAsked) (t : Tables) → Valid g → answer_number (write_on g named s a count t).outcome.answer ≡ 0 → Bounded g (write_on g named s a count t).outcome.state
  unfolding write_on
  write_bounded a t ok =
      let z = zone_asked g a in
      let here = call_present g (is_set named) (view_state s) in
      let x = lost_in g (is_set named) (view_state s) in
      finished_new (Bounded g) g (verdict_number (write_verdict g named s a t)) (write_all g here (roles_of g t) (seen_in g t) (view_state s) z (sectors_in g a.count a.buffer)) (state_held max_zones (written_state g here x a.host (view_state s) z a.count)) s count t
      (λ v.
      let w = write_passed g named s a t (write_number_accepts g named t s a v) in
      let end = end_asked g (view_state s) a in
      let i = share_at (parity_drive_at g z end) a.host in
      let less = entry_taken g here z end in
      let drive = parity_drive_below g.drives g.unit z (omega (arith, ok.drives_least)) ok.unit_least (stripe_of g.drives g.unit end) in
      let share_in : i < 16 = omega (arith, drive, ok.drives_most, w.host) in
      subst (Bounded g) (held_owned s g here x a.host z end b.sixteen (omega (arith, w.zone, ok.zones_most)) share_in)
      (zone_bounded g s x z (owned_record a.host end (record_at s z)) (shares_less s.shares i less) ok b (lost_found g named s) w.zone
      (b.generations z w.zone) w.inside (length-set s.shares i (get_or s.shares i 0 - less) ∙ b.sixteen.shares) (less_words g s.shares i less b.shares)))

  compact_bounded : (d : ℕ) (t : Tables) → Valid g → answer_number (compact_on g named s d count t).outcome.answer ≡ 0 → Bounded g (compact_on g named s d count t).outcome.state
  unfolding compact_on call_present
  compact_bounded d t ok =
      let here = call_present g (is_set named) (view_state s) in
      let x = lost_in g (is_set named) (view_state s) in
      let n = half_past g (g.capacity - new_parity_size g (by_state g here (seen_in g t) (view_state s)) d) in
      let f : ℕ → ℕ = renewed_shares (view_state s).share d n in
      finished_new (Bounded g) g (verdict_number (compact_verdict g named s d t)) (compact_stores g here (roles_of g t) (seen_in g t) (view_state s) d) (state_held max_zones (compact_state g here x (seen_in g t) (view_state s) d)) s count t
      (λ v.
      let present = (compact_passed g named s d t (compact_number_accepts g named t s d v)).here in
      let drive : d < g.drives = ltb-true d g.drives (and_split (ltb d g.drives) (is_set named d && not (eqb d s.lost)) present).0 in
      let fit : ShareWords g f = renewed_words g (view_state s).share d n ok b.shares drive (omega arith) in
      subst (Bounded g) (held_shares s x (tabulate f 16) f b.sixteen (length_tabulate f 16) (λ i h. get_d_tabulate f 16 i 0 h))
      (record {
        lost_drive_lem = lost_found g named s;
        sixteen = record { records = b.sixteen.records; shares = length_tabulate f 16 };
        generations = b.generations;
        pointers = b.pointers;
        past = b.past;
        shares = held_words g f ok fit;
      }))

module _ (g : Geometry) (ok : Valid g) (named : List Bool) (old : State) where
  look_bounded : (t : Tables) → answer_number (look_on g named old t).answer ≡ 0 → Bounded g (look_on g named old t).state
  unfolding look_on
  look_bounded t = go (eqb n 0) refl
    where
      n : ℕ
      n = verdict_number (look_verdict g named t)

      ended : Bool → Outcome
      ended c =
          pick c (record { answer = Finished; state = state_held g.zones (shown_state g (present_in g (is_set named) (device_of g t)) (lost_drive_in g (is_set named) (device_of g t)) (device_of g t)) })
          (record { answer = refused_at (bad_place_on g named t) n; state = old })

      go : (c : Bool) → eqb n 0 ≡ c → answer_number (ended c).answer ≡ 0 → Bounded g (ended c).state
      go true e h = shown_bounded g (present_in g (is_set named) (device_of g t)) (is_lost g (is_set named) (seen_in g t)) (device_of g t) ok (look_words g (is_set named) (device_of g t) (device_of g t) ok)
      go false e h = absurd (refused_numbered (bad_place_on g named t) n (look_told g named t) (eqb-false n 0 e) h)

  mount_bounded : (count : ℕ) (t : Tables) → answer_number (mount_on g named old count t).outcome.answer ≡ 0 → Bounded g (mount_on g named old count t).outcome.state
  unfolding mount_stored mount_shown_on
  mount_bounded count t =
      let present = present_in g (is_set named) (device_of g t) in
      let x = lost_drive_in g (is_set named) (device_of g t) in
      let ss = mount_stores_on g present x t in
      let n = verdict_number (mount_verdict g named t) in
      let b = bad_place_on g named t in
      subst (λ (r : Result). answer_number r.outcome.answer ≡ 0 → Bounded g r.outcome.state) (sym (mount_stored g t named count old).is)
      (finished_told (Bounded g) g n ss (mount_shown_on g present x t) old count t (refused_at b) (refused_numbered b n (mount_told g named t))
      (λ v. shown_bounded g present (is_lost g (is_set named) (seen_in g t)) (device_of g (run_stores g (length ss) ss t)) ok (look_words g (is_set named) (device_of g t) (device_of g (run_stores g (length ss) ss t)) ok)))

fresh_bounded : (g : Geometry) (named : List Bool) → Valid g → Bounded g (state_held g.zones (with_shares (fresh_shares g (named_drives g (is_set named))) (format_state (left_out g (is_set named)))))
unfolding left_out
fresh_bounded g named ok =
    held_bounded g (with_shares (fresh_shares g (named_drives g (is_set named))) (format_state (left_out g (is_set named)))) ok (drive_found (λ d. not (is_set named d)) g.drives) (λ z h. omega arith) (λ z h. zero-le) (format_words g (is_set named) ok)

format_bounded : (g : Geometry) → Valid g → (named : List Bool) (array : ℕ) (old : State) (count : ℕ) (t : Tables)
    → answer_number (format_on g named array old count t).outcome.answer ≡ 0 → Bounded g (format_on g named array old count t).outcome.state
unfolding format_on
format_bounded g ok named array old count t =
    let new = state_held g.zones (with_shares (fresh_shares g (named_drives g (is_set named))) (format_state (left_out g (is_set named)))) in
    finished_new (Bounded g) g (verdict_number (format_verdict g named t)) (format_stores g (named_drives g (is_set named)) (left_out g (is_set named)) array) new old count t (λ v. fresh_bounded g named ok)

-- ==== the calls on bytes
-- one that reads the state, and one that only writes it
module _ (g : Geometry) (m : Ranges) (r : Answered Ranges) (o : Outcome) where
  abbrev wl : ℕ
  wl = length m.written

  abbrev dl : ℕ
  dl = length m.durable

  after_reading : answer_number o.answer ≡ r.code → state_after g o m.state ≡ r.left.state → (Bounded g (state_in g m) → Valid g → answer_number o.answer ≡ 0 → Bounded g o.state)
      → (unless_refused (input_number g m.state wl dl) r m).code ≡ 0 → HandsOn g (unless_refused (input_number g m.state wl dl) r m).left.state o.state wl dl
  after_reading answers left bounded =
      edge_hands_on g (input_number g m.state wl dl) r o m answers left (input_passed g m.state wl dl) (λ n. bounded (read_bounded g m.state wl dl n))

  after_writing : answer_number o.answer ≡ r.code → state_after g o m.state ≡ r.left.state → (Valid g → answer_number o.answer ≡ 0 → Bounded g o.state)
      → (unless_refused (sizes_number g (length m.state) wl dl) r m).code ≡ 0 → HandsOn g (unless_refused (sizes_number g (length m.state) wl dl) r m).left.state o.state wl dl
  after_writing answers left bounded = edge_hands_on g (sizes_number g (length m.state) wl dl) r o m answers left (sizes_passed g (length m.state) wl dl) (λ n. bounded)

-- what a call e with the outcome's state s promises
abbrev pub HandedOn : Geometry → Ranges → Answered Ranges → State → Type 0
HandedOn g m e s = e.code ≡ 0 → HandsOn g e.left.state s (length m.written) (length m.durable)

module _ (g : Geometry) (mask : ℕ) (m : Ranges) where
  pub flush_hands_on : (count : ℕ) → HandedOn g m (flush_edge g mask count m) (flush_of_bytes g mask count m).outcome.state
  unfolding stored_flushes
  flush_hands_on count =
      let r = flush_of_bytes g mask count m in
      after_reading g m (stored_flushes g r m) r.outcome refl refl (λ b ok. flush_bounded g (named_of mask) (state_in g m) b count (tables_in g m))

  pub reset_hands_on : (z count : ℕ) → HandedOn g m (reset_edge g mask z count m) (reset_of_bytes g mask z count m).outcome.state
  unfolding stored_all
  reset_hands_on z count =
      let r = reset_of_bytes g mask z count m in
      after_reading g m (stored_all g r m) r.outcome refl refl (λ b ok. reset_bounded g (named_of mask) (state_in g m) b count z (tables_in g m) ok)

  pub write_hands_on : (a : WriteAsked) (count : ℕ) → HandedOn g m (write_edge g mask a count m) (write_of_bytes g mask a count m).outcome.state
  unfolding stored_all
  write_hands_on a count =
      let r = write_of_bytes g mask a count m in
      after_reading g m (stored_all g r m) r.outcome refl refl (λ b ok. write_bounded g (named_of mask) (state_in g m) b count a (tables_in g m) ok)

  pub compact_hands_on : (d count : ℕ) → HandedOn g m (compact_edge g mask d count m) (compact_of_bytes g mask d count m).outcome.state
  unfolding stored_all
  compact_hands_on d count =
      let r = compact_of_bytes g mask d count m in
      after_reading g m (stored_all g r m) r.outcome refl refl (λ b ok. compact_bounded g (named_of mask) (state_in g m) b count d (tables_in g m) ok)

  -- (a look and a mount by the answer that they return)
  pub look_hands_on : HandedOn g m (without_place (look_edge g mask m)) (look_of_bytes g mask m).state
  look_hands_on =
      let o = look_of_bytes g mask m in
      subst (λ (e : Answered Ranges). HandedOn g m e o.state) (sym (look_alone g mask m))
      (after_writing g m (handed_back g o m) o refl refl (λ ok. look_bounded g ok (named_of mask) unread_state (tables_in g m)))

  pub mount_hands_on : (count : ℕ) → HandedOn g m (without_place (mount_edge g mask count m)) (mount_of_bytes g mask count m).outcome.state
  unfolding stored_all
  mount_hands_on count =
      let r = mount_of_bytes g mask count m in
      subst (λ (e : Answered Ranges). HandedOn g m e r.outcome.state) (sym (mount_alone g mask m count))
      (after_writing g m (stored_all g r m) r.outcome refl refl (λ ok. mount_bounded g ok (named_of mask) unread_state count (tables_in g m)))

  pub format_hands_on : (array count : ℕ) → HandedOn g m (format_edge g mask array count m) (format_of_bytes g mask array count m).outcome.state
  unfolding stored_all
  format_hands_on array count =
      let r = format_of_bytes g mask array count m in
      after_writing g m (stored_all g r m) r.outcome refl refl (λ ok. format_bounded g ok (named_of mask) array unread_state count (tables_in g m))
