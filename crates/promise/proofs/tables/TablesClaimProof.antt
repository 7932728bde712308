-- What is promised on the tables holds at a point of a history: the rules' promise holds of the device that the tables stand for (ClaimProof.antt);
-- here it is carried to what the calls' contracts say.
use Rattle.std.specs.Prelude.{◌≡◌, ◌≢◌, Bool, true, false, ◌&&◌, List, [], ◌∷◌, length, get_or, eqb}
use Rattle.std.proofs.Math.Path.{refl, sym, ap}
use Rattle.std.proofs.Common.{◌∙◌, subst, arith, take_all, get_or-take}
use Prim.Native.Nat.{ℕ, zero, suc, ◌^◌, ◌≤◌, ◌<◌}
use Rattle.std.proofs.Math.Decide.{dec_lt}
use Rattle.std.proofs.Math.Dec.{ltb}
use borrow.Author.Tests.{ne_eqb, eq-eqb, eqb-true, ltb-false, ltb-true}
use Rattle.tables.specs.declared.Geometry.{Geometry}
use Rattle.tables.specs.meaning.Basics.{pick}
use Rattle.tables.specs.laws.Basics.{and_split, not_not}
use Rattle.tables.specs.meaning.Drives.{present_but}
use Rattle.tables.specs.laws.Drives.{present_not, present_other}
use Rattle.tables.specs.meaning.Below.{tabulate_from}
use Rattle.tables.specs.laws.Below.{get_d_tabulate}
use Rattle.tables.specs.meaning.Lists.{concat}
use Rattle.tables.specs.laws.Lists.{Prefix, prefix_length, prefix_is_take}
use Rattle.tables.specs.meaning.Geometry.{Valid, physical_zones, data_zone}
use Rattle.tables.specs.meaning.GeometryTest.{is_valid}
use Rattle.tables.specs.laws.GeometryTest.{valid_if_test}
use Rattle.tables.specs.meaning.Placement.{drive_of, sector_of}
use Rattle.tables.specs.laws.Placement.{drive_below}
use Rattle.tables.specs.meaning.Device.{Device, Store, apply_all}
use Rattle.tables.specs.meaning.Tables.{Tables, device_of, cell, sector_at, run_stores, lengths_fit, pointers_bad}
use Rattle.tables.specs.laws.Made.{WellSized, FitsAll}
use Rattle.tables.specs.laws.Tables.{device_sectors, device_length}
use Rattle.tables.specs.laws.TablesRefine.{run_refines, run_sized}
use Rattle.tables.specs.laws.TablesFrame.{lengths_sized, sized_lengths}
use Rattle.tables.specs.laws.PointerOrder.{order_passed, run_order}
use Rattle.volume.specs.declared.State.{State}
use Rattle.volume.specs.declared.Answer.TheVariants.{Finished, Unfinished, Refused}
use Rattle.volume.specs.meaning.State.{StateView, with_shares, call_present}
use Rattle.volume.specs.meaning.Content.{at}
use Rattle.volume.specs.meaning.Hosts.{shares_in, fresh_shares}
use Rattle.volume.specs.meaning.Rules.{Shown, value_at, zone_view, view_of}
use Rattle.volume.specs.meaning.Roles.{roles, by_roles}
use Rattle.volume.specs.meaning.Refusals.{Verdict, refuse, accept, first_refusal, zone_of, offset_of, not_held, two_unnamed, format_rows, look_rows, read_rows, peek_rows, bad_pointers}
use Rattle.volume.specs.meaning.Calls.{format_stores, format_state}
use Rattle.volume.specs.meaning.Answers.{CallResult, giving, present_in, left_out, named_drives, place_of}
use Rattle.promise.specs.meaning.Ledger.{fresh_ledger, Fits, Ledger}
use Rattle.volume.specs.laws.Refusals.{accepted_row, Numbered, numbered}
use Rattle.promise.proofs.device.Marks.{with_marks}
use Rattle.promise.proofs.device.Modes.{OkIn, own_rests, read_some}
use Rattle.promise.proofs.device.ClaimEvents.{rests_of, drives_of_call, look_held}
use Rattle.promise.proofs.device.ClaimProof.{serves, kept}
use Rattle.promise.proofs.device.SharesKept.{format_shares}
use Rattle.promise.proofs.device.Heard.{answer_heard, peek_heard, report_heard, read_alike}
use Rattle.promise.proofs.device.AtRestAnswers.{left_out_lem, drives_named}
use Rattle.promise.proofs.roles.RoledCalls.{roled_format}
use Rattle.promise.proofs.emptying.BlankSpares.{BlankSpares}
use Rattle.promise.proofs.device.BlankAtRest.{format_blank}
use Rattle.volume.specs.meaning.CallContracts.{view_state, is_set, verdict_number, lengths_of, storing_on, format_verdict, format_on, look_on, read_on, values_on, peek_number, peek_on, part_at, bad_in, peek_from, byte_of, state_held}
use Rattle.tables.specs.laws.StoresFit.{fits_all_placed}
use Rattle.volume.specs.laws.StateHeld.{held_sixteen}
use Rattle.promise.proofs.tables.CallRefines.{held_agrees, ok_agrees, shares_agree, answer_finished}
use Rattle.promise.proofs.tables.CallVerdicts.{numbered_accept, look_verdict_lem, read_number_lem, read_numbered, peek_number_lem, peek_numbered}
use Rattle.promise.specs.meaning.Claim.{mounts, writes, flushes, resets, compacts, System, Event, calls, looks, reads, peeks, reports, cuts, loses, Peeked, next, peeked_at, reported, NamesAll, Duty, SameZones, Serves, Promise, ready, start}
use Rattle.promise.specs.meaning.OnDevice.{on_device, look_result, read_result, peek_result, state_shown}
use Rattle.promise.specs.meaning.OnTables.{call_result, result_of, on_tables, shown_in}
use Rattle.promise.proofs.tables.MountRefines.{call_refines, heard_as, mount_claim}
use Rattle.promise.proofs.tables.TablesEvents.{view_system, TablesOk, names_seen, pointers_fine, call_event, cut_event, loss_event}
use Rattle.volume.specs.laws.CallStoresFit.{format_stores_fit}
use Rattle.promise.proofs.invariant.Obligations.{never_emptied, Rests}
use Rattle.promise.proofs.invariant.Invariant.{LogGenerations}

-- a list has nothing past its end
get_d_nothing : (xs : List (List ℕ)) (i : ℕ) → length xs ≤ i → get_or xs i [] ≡ []
get_d_nothing [] i h = refl
get_d_nothing (x ∷ xs) zero h = absurd (omega arith)
get_d_nothing (x ∷ xs) (suc i) h = get_d_nothing xs i (omega arith)

finished_zero : (k : ℕ) → pick (eqb k 0) Finished (Refused k) ≡ Finished → k ≡ 0
finished_zero k e = go (eqb k 0) refl e
  where
    go : (b : Bool) → eqb k 0 ≡ b → pick b Finished (Refused k) ≡ Finished → k ≡ 0
    go true q r = eqb-true k 0 q
    go false q r = absurd (let z : ◌≡◌ {A = ℕ} 0 1 = cc in omega arith)

-- a beginning has the same sectors, so a zone's content is sectors of B bytes
at_prefix : (xs ys : List (List ℕ)) → Prefix xs ys → (a : ℕ) → a < length xs → at xs a ≡ at ys a
at_prefix xs ys p a h = ap (λ (l : List (List ℕ)). at l a) (prefix_is_take xs ys p) ∙ get_or-take (length xs) ys a [] h

content_long : (g : Geometry) (c : LogGenerations) (x : ℕ) (v : Device) (state : StateView) (l : Ledger) → Rests c g x v state l → (z : ℕ) → z < g.zones → (a : ℕ) → a < length (l.content z) → length (at (l.content z) a) ≡ g.sector
content_long g c x v state l r z h a k =
    let q = (r.1.zones z h).live in
    rw (at_prefix (l.content z) (r.0.laid z) q.front a k) (q.sizes a (omega (arith, k, prefix_length q.front)))

-- a look that the rules finish is not refused
look_accepted : (v : Verdict) (k : Shown) (shares : ℕ → ℕ) (state new : StateView) (w : Device) → look_result (giving v k) shares state w ≡ record { answer = Finished; memory = w; state = new } → v ≡ accept
look_accepted accept k shares state new w e = refl
look_accepted (refuse n) k shares state new w e = absurd (let q : Refused n ≡ Finished = ap (λ (r : CallResult Device StateView). r.answer) e in let z : ◌≡◌ {A = ℕ} 0 1 = cc in omega arith)

module _ (g : Geometry) (ok : Valid g) (wb : is_valid g ≡ true) (s : System (on_tables g)) (o : TablesOk g s) where
  abbrev t : Tables
  t = s.memory

  abbrev w : Device
  w = device_of g s.memory

  -- the rules' promise
  pub promised : Promise g (on_device g (lengths_of t)) (view_system g s)
  promised = kept g ok (lengths_of t) wb (sized_lengths g t o.sized) (view_system g s) o.holds o.shared

  module _ (named : List Bool) (n : NamesAll g (on_tables g) s named) where
    fine : pointers_bad g named t.written t.durable ≡ false
    fine = pointers_fine g s named n o

    abbrev names : NamesAll g (on_device g (lengths_of t)) (view_system g s) (is_set named)
    names = names_seen g s named n

    -- what a look's state says, as the rules see it
    abbrev told : StateView
    told = state_shown g (is_set named) w w

    abbrev looked_at : CallResult Device StateView
    looked_at = (on_device g (lengths_of t)).look (is_set named) (view_state s.state) w

    told_is : looked_at.state ≡ told
    told_is = ap (λ (r : CallResult Device StateView). r.state) (promised.look_fits (is_set named) names).0

    -- the refusals are the rules'
    pub look_is : look_on g named s.state t ≡ record { answer = Finished; state = (on_tables g).state_of named t t }
    unfolding look_on
    look_is =
        let rows = look_rows g (lengths_of t) (bad_pointers g (is_set named) w) (is_set named) (roles g w) (by_roles g w) in
        let p = look_accepted (first_refusal rows) (shown_in g named t t) (shares_in g (present_in g (is_set named) w) w) (view_state s.state) told w (promised.look_fits (is_set named) names).0 in
        rw (look_verdict_lem g named t fine, p) refl

    look_claim : (result_of (look_on g named s.state t) t ≡ record { answer = Finished; memory = t; state = (on_tables g).state_of named t t }) × Fits g s.ledger (shown_in g named t t)
    look_claim = (rw look_is refl, (promised.look_fits (is_set named) names).1)

    -- its state says what the host's says
    held_claim : s.mode ≡ ready → let looked = view_state (look_on g named s.state t).state in (looked.lost ≡ s.lost) × SameZones g looked (view_state s.state)
    held_claim m =
        let (a, b) = promised.look_holds (is_set named) names m in
        let f = held_agrees g g.zones told (omega arith) in
        rw look_is (
          sym f.lost_same_lem ∙ sym (ap (λ (r : StateView). r.lost) told_is) ∙ a,
          record {
            generations = λ z h. sym (f.generation_same z h) ∙ sym (ap (λ (r : StateView). r.generation z) told_is) ∙ b.generations z h;
            conditions = λ z h. sym (f.condition_same_lem z h) ∙ sym (ap (λ (r : StateView). r.condition z) told_is) ∙ b.conditions z h;
          },
        )

    -- and in its place the rules' system is so
    held_on_lem : OkIn g s.mode s.lost w (view_state (look_on g named s.state t).state) s.ledger
    held_on_lem =
        let i = look_held g ok (lengths_of t) (view_system g s) o.holds (is_set named) names in
        rw look_is (ok_agrees g s.mode s.lost w told (view_state (state_held g.zones told)) s.ledger (held_agrees g g.zones told (omega arith)) (subst (λ (a : StateView). OkIn g s.mode s.lost w a s.ledger) told_is i))

    -- reads and peeks are the rules', by any state
    module _ (state : State) where
      abbrev sectors : ℕ → ℕ → List (List ℕ)
      sectors a count = tabulate_from (value_at g (call_present g (is_set named) (view_state state)) (by_roles g w) (zone_of g a) ((view_state state).generation (zone_of g a))) (offset_of g a) count

      abbrev read_verdict : ℕ → ℕ → List ℕ → Verdict
      read_verdict a count out = first_refusal (read_rows g (lengths_of t) (bad_pointers g (is_set named) w) (is_set named) (view_state state) a count (length out) (by_roles g w))

      pub read_same : (a count : ℕ) (out : List ℕ) → read_on g named state a count out t ≡ (on_device g (lengths_of t)).read (is_set named) (view_state state) a count out w
      unfolding read_on values_on
      read_same a count out = rw (read_number_lem g named t fine state a count (length out)) (go (read_verdict a count out) (read_numbered g named t state a count (length out)))
        where
          go : (v : Verdict) → Numbered v → record { answer = pick (eqb (verdict_number v) 0) Finished (Refused (verdict_number v)); buffer = pick (eqb (verdict_number v) 0) (concat (sectors a count)) out } ≡ read_result (giving v (sectors a count)) out
          go accept h = refl
          go (refuse k) h = rw (ne_eqb k 0 h) refl

      pub peek_number_same : (a : ℕ) → peek_number g named state a t ≡ ((on_device g (lengths_of t)).peek (is_set named) (view_state state) a w).number
      peek_number_same a = peek_number_lem g named t fine state a ∙ go (first_refusal (peek_rows g (lengths_of t) (bad_pointers g (is_set named) w) (is_set named) (view_state state) a (by_roles g w)))
        where
          go : (v : Verdict) → verdict_number v ≡ (peek_result g (giving v (place_of g a)) w).number
          go accept = refl
          go (refuse k) = refl

    -- where a sector of the content sits in the device, it sits in the lent bytes
    place_holds : s.mode ≡ ready → (a : ℕ) → zone_of g a < g.zones → offset_of g a < length (s.ledger.content (zone_of g a)) → drive_of g.drives g.unit (zone_of g a) (offset_of g a) ≢ s.lost
        → get_or (w (drive_of g.drives g.unit (zone_of g a) (offset_of g a)) (data_zone (zone_of g a))).sectors (sector_of g.drives g.unit (offset_of g a)) [] ≡ at (s.ledger.content (zone_of g a)) (offset_of g a)
        → part_at g t.sectors (place_of g a) ≡ at (s.ledger.content (zone_of g a)) (offset_of g a)
    place_holds m a hz h there e =
        let z = zone_of g a in
        let d = drive_of g.drives g.unit z (offset_of g a) in
        let x = sector_of g.drives g.unit (offset_of g a) in
        let hd : d < g.drives = drive_below g.drives g.unit z (omega (arith, ok.drives_least)) ok.unit_least (offset_of g a) in
        let hy : data_zone z < physical_zones g = omega arith in
        let most = (o.order d hd there).written_most (data_zone z) hy in
        let (k, marks, above, (standing, r)) = rests_of g (lengths_of t) (view_system g s) o.holds m in
        let long = content_long g k s.lost (by_roles g w) (view_state s.state) (with_marks s.ledger marks) r z hz (offset_of g a) h in
        let held : x < get_or t.written (cell g d (data_zone z)) 0 = inside d (data_zone z) x hd hy (at (s.ledger.content z) (offset_of g a)) e (omega (arith, long, ok.sector_least)) in
        sym (get_d_tabulate (λ k. sector_at g t.sectors d (data_zone z) k) (get_or t.written (cell g d (data_zone z)) 0) x [] held) ∙ ap (λ (l : List (List ℕ)). get_or l x []) (sym (device_sectors g t d (data_zone z) hd hy most)) ∙ e
      where
        inside : (d y x : ℕ) → d < g.drives → y < physical_zones g → (c : List ℕ) → get_or (w d y).sectors x [] ≡ c → zero < length c → x < get_or t.written (cell g d y) 0
        inside d y x hd hy c e pos = go (dec_lt x (length (w d y).sectors))
          where
            go : Dec (x < length (w d y).sectors) → x < get_or t.written (cell g d y) 0
            go (yes k) = omega (arith, k, device_length g t d y hd hy)
            go (no k) = absurd (let q : length c ≡ 0 = ap length (sym e ∙ get_d_nothing (w d y).sectors x (omega arith)) in omega arith)

    peek_claim : s.mode ≡ ready → (a : ℕ) → peek_number g named s.state a t ≡ 0
        → (offset_of g a < length (s.ledger.content (zone_of g a))) × (peek_from g named s.state a t ≡ byte_of g (place_of g a))
        × (peek_on g named s.state a t ≡ at (s.ledger.content (zone_of g a)) (offset_of g a))
    unfolding peek_on peek_from peek_rows not_held zone_view view_of
    peek_claim m a e =
        let z = zone_of g a in
        let d = drive_of g.drives g.unit z (offset_of g a) in
        let x = sector_of g.drives g.unit (offset_of g a) in
        let rows = peek_rows g (lengths_of t) (bad_pointers g (is_set named) w) (is_set named) (view_state s.state) a (by_roles g w) in
        let p = numbered_accept (first_refusal rows) (peek_numbered g named t s.state a) (sym (peek_number_lem g named t fine s.state a) ∙ e) in
        let hz : z < g.zones = ltb-true z g.zones (not_not (ltb z g.zones) (accepted_row rows p 8)) in
        let (here, held) = and_split (call_present g (is_set named) (view_state s.state) d) (ltb x (length (by_roles g w d (data_zone z)).sectors)) (not_not (call_present g (is_set named) (view_state s.state) d && ltb x (length (by_roles g w d (data_zone z)).sectors)) (accepted_row rows p 15)) in
        let there : d ≢ s.lost = present_not g s.lost d (sym (ap (λ (f : ℕ → Bool). f d) (drives_of_call g ok (lengths_of t) (view_system g s) o.holds (is_set named) names m)) ∙ here) in
        let q = sym (peek_number_same s.state a) ∙ e in
        let k = (on_device g (lengths_of t)).peek (is_set named) (view_state s.state) a w in
        let (h, b, c) = promised.peek_gives (is_set named) names m a k.from k.part (ap (λ (i : ℕ). peeked_at i k.from k.part) q) in
        let n = eq-eqb (peek_number g named s.state a t) 0 e in
        (h, rw n refl, rw n (place_holds m a hz h there (rw p at c)))

-- ---- a look's state serves reads, peeks and reports
module _ (g : Geometry) (ok : Valid g) (wb : is_valid g ≡ true) (s : System (on_tables g)) (o : TablesOk g s) (named : List Bool) (n : NamesAll g (on_tables g) s named) (m : s.mode ≡ ready) where
  abbrev looked : State
  looked = (look_on g named s.state s.memory).state

  by_rules : Serves g (on_device g (lengths_of s.memory)) (view_system g s) (view_state (look_on g named s.state s.memory).state)
  by_rules =
      serves g ok (lengths_of s.memory) wb (sized_lengths g s.memory o.sized) (view_system g s) o.holds m (view_state looked) (held_on_lem g ok wb s o named n) (held_claim g ok wb s o named n m).1 (is_set named) (names_seen g s named n)

  peek_serves : (by : List Bool) → NamesAll g (on_tables g) s by → (a : ℕ) → (on_tables g).peek by looked a s.memory ≡ (on_tables g).peek by s.state a s.memory
  unfolding peek_on peek_from
  peek_serves by all a =
      let q = by_rules.peeks_same (is_set by) (names_seen g s by all) a in
      let e : peek_number g by looked a s.memory ≡ peek_number g by s.state a s.memory = peek_number_same g ok wb s o by all looked a ∙ ap (λ (k : Peeked). k.number) q ∙ sym (peek_number_same g ok wb s o by all s.state a) in
      rw e refl

  look_serves_on : Serves g (on_tables g) s looked
  look_serves_on = record {
    reads_same = λ by all a count out.
        read_same g ok wb s o by all looked a count out ∙ by_rules.reads_same (is_set by) (names_seen g s by all) a count out ∙ sym (read_same g ok wb s o by all s.state a count out);
    peeks_same = peek_serves;
    reports_same = by_rules.reports_same;
  }

module _ (g : Geometry) (ok : Valid g) (wb : is_valid g ≡ true) where
  -- every point of a history is as promised
  pub tables_promise : (s : System (on_tables g)) → TablesOk g s → Promise g (on_tables g) s
  tables_promise s o =
      let promised = promised g ok wb s o in
      record {
        look_fits = look_claim g ok wb s o;
        mount_fits = λ named n m stop e. mount_claim g ok s o named n promised m stop (answer_heard e);
        mount_refused = λ named n stop a e. promised.mount_refused (is_set named) (names_seen g s named n) stop a (heard_as g ok s o named n mounts stop a e);
        pointer_is = promised.pointer_is;
        look_holds = held_claim g ok wb s o;
        look_serves = look_serves_on g ok wb s o;
        flush_accepted = λ named n m stop a e. promised.flush_accepted (is_set named) (names_seen g s named n) m stop a (heard_as g ok s o named n flushes stop a e);
        reset_refused = λ named n m z stop a e. promised.reset_refused (is_set named) (names_seen g s named n) m z stop a (heard_as g ok s o named n (resets z) stop a e);
        write_refused = λ named n m w stop a e. promised.write_refused (is_set named) (names_seen g s named n) m w stop a (heard_as g ok s o named n (writes w) stop a e);
        share_asked = λ named n m w k stop.
            let (p, q) = promised.share_asked (is_set named) (names_seen g s named n) m w k stop in
            ((λ e. p (heard_as g ok s o named n (writes w) stop Finished e)), (λ e. q (heard_as g ok s o named n (writes w) stop Unfinished e)));
        compact_refused = λ named n m d stop a e. promised.compact_refused (is_set named) (names_seen g s named n) m d stop a (heard_as g ok s o named n (compacts d) stop a e);
        shares_fit = promised.shares_fit;
        read_gives = λ named n m a count out bytes e. promised.read_gives (is_set named) (names_seen g s named n) m a count out bytes (read_alike (sym (read_same g ok wb s o named n s.state a count out)) e);
        read_accepted = λ named n m a count out hz pos len h. read_alike (read_same g ok wb s o named n s.state a count out) (promised.read_accepted (is_set named) (names_seen g s named n) m a count out hz pos len h);
        peek_gives = λ named n m a from part e.
            let (p, q, r) = peek_heard e in
            let (h, b, c) = peek_claim g ok wb s o named n m a p in
            (h, sym q ∙ b, sym r ∙ c);
        peek_accepted = λ named n m a hz h there.
            let p = peek_number_same g ok wb s o named n s.state a ∙ (peek_heard (promised.peek_accepted (is_set named) (names_seen g s named n) m a hz h there)).0 in
            let (i, b, c) = peek_claim g ok wb s o named n m a p in
            λ j. peeked_at (p j) (b j) (c j);
        report_gives = λ named n m list. ap reported (report_heard (promised.report_gives (is_set named) (names_seen g s named n) m list));
      }

  pub tables_event : (s : System (on_tables g)) → TablesOk g s → (e : Event (on_tables g)) → Duty g (on_tables g) s e → TablesOk g (next g (on_tables g) s e)
  tables_event s o (calls c named stop) d = call_event g ok s o c named stop (call_refines g ok s o named d.0 c stop) d
  tables_event s o (looks named) d = o
  tables_event s o (reads named a count out) d = o
  tables_event s o (peeks named a) d = o
  tables_event s o (reports list) d = o
  tables_event s o (cuts u) c = cut_event g ok s o u c
  tables_event s o (loses d u) (h, e, c) = loss_event g ok s o d h e u c

-- ---- the format at the head
pub format_numbered_on : (g : Geometry) (named : List Bool) (t : Tables) → Numbered (format_verdict g named t)
unfolding format_verdict format_rows
format_numbered_on g named t = numbered (format_rows g (lengths_of t) (bad_in g named t) (is_set named) (device_of g t)) refl

-- what passing its refusals gives
pub record FormatPassed (g : Geometry) (named : List Bool) (t : Tables) : Type 0 where
  pub valid_test : is_valid g ≡ true
  pub lengths_fit_lem : lengths_fit g (length t.sectors) (length t.written) (length t.durable) ≡ true
  pub pointers_fit : pointers_bad g named t.written t.durable ≡ false
  pub one_unnamed : two_unnamed g (is_set named) ≡ false

pub format_passed : (g : Geometry) (named : List Bool) (t : Tables) → format_verdict g named t ≡ accept → FormatPassed g named t
unfolding format_verdict format_rows
format_passed g named t e =
    let row = accepted_row (format_rows g (lengths_of t) (bad_in g named t) (is_set named) (device_of g t)) e in
    record { valid_test = not_not (is_valid g) (row 1); lengths_fit_lem = not_not (lengths_fit g (length t.sectors) (length t.written) (length t.durable)) (row 2); pointers_fit = row 3; one_unnamed = row 4 }

module _ (g : Geometry) (named : List Bool) (array : ℕ) (old : State) (stop : ℕ) (t : Tables) (small : array < 256 ^ 8) (accepted : format_verdict g named t ≡ accept) where
  abbrev x : ℕ
  x = left_out g (is_set named)

  abbrev passed : FormatPassed g named t
  passed = format_passed g named t accepted

  ok : Valid g
  ok = valid_if_test g passed.valid_test

  sized : WellSized g t
  sized = lengths_sized g t.sectors t.written t.durable passed.lengths_fit_lem

  drives : named_drives g (is_set named) ≡ present_but g x
  drives = drives_named g ok (is_set named) passed.one_unnamed

  abbrev stores : List Store
  stores = format_stores g (present_but g x) x array

  -- the state that it hands on, as the rules see it
  abbrev new : StateView
  new = with_shares (fresh_shares g (named_drives g (is_set named))) (format_state x)

  stores_fit : FitsAll g stores (device_of g t)
  stores_fit = rw (← drives) (format_stores_fit g named array t accepted)

  -- a drive that is not left out is named
  named_in : (d : ℕ) → d < g.drives → d ≢ x → is_set named d ≡ true
  unfolding named_drives
  named_in d h q = (and_split (ltb d g.drives) (is_set named d) (ap (λ (f : ℕ → Bool). f d) drives ∙ present_other g x d h q)).1

  -- what it leaves, seen as a device
  left_is : ltb stop (length (format_stores g (named_drives g (is_set named)) x array)) ≡ false → device_of g (run_stores g stop stores t) ≡ apply_all stores (device_of g t)
  left_is e =
      let e' : ltb stop (length stores) ≡ false = rw (← drives) e in
      run_refines g stop stores t sized stores_fit ∙ ap (λ (r : List Store). apply_all r (device_of g t)) (take_all stop stores (ltb-false stop (length stores) e'))

  start_blank : ltb stop (length (format_stores g (named_drives g (is_set named)) x array)) ≡ false → BlankSpares g x (device_of g (storing_on g 0 (format_stores g (named_drives g (is_set named)) x array) (state_held g.zones new) old stop t).tables)
  start_blank e = rw (drives, left_is e) (format_blank g ok x array (device_of g t) (left_out_lem g (is_set named)) small)

  pub start_ok : ltb stop (length (format_stores g (named_drives g (is_set named)) x array)) ≡ false → TablesOk g (start g (on_tables g) named (call_result (storing_on g 0 (format_stores g (named_drives g (is_set named)) x array) (state_held g.zones new) old stop t)))
  start_ok e =
      let d = left_is e in
      let placed = fits_all_placed g stores (device_of g t) stores_fit in
      let began = with_shares (fresh_shares g (present_but g x)) (format_state x) in
      let agree = held_agrees g g.zones began (omega arith) in
      let rests = read_some g x (apply_all stores (device_of g t)) (format_state x) began fresh_ledger (λ h. h) (record { generations = λ z h. refl; conditions = λ z h. refl }) (own_rests never_emptied g x (apply_all stores (device_of g t)) (format_state x) fresh_ledger (roled_format g ok x array (device_of g t) (left_out_lem g (is_set named)) small)) in
      rw (e, drives)
      (record {
        sized = run_sized g stop stores t sized placed;
        order = λ k hk q. run_order g k stop stores t hk sized placed (order_passed g named t.written t.durable k passed.pointers_fit hk (named_in k hk q));
        records = held_sixteen g.zones began ok.zones_most;
        holds = rw d (ok_agrees g ready x (apply_all stores (device_of g t)) began (view_state (state_held g.zones began)) fresh_ledger agree rests);
        shared = rw d (λ i. shares_agree g ok x (apply_all stores (device_of g t)) began (view_state (state_held g.zones began)) agree (format_shares g ok x array (device_of g t) (left_out_lem g (is_set named)) small));
      })

-- a finished format begins a history
pub tables_start : (g : Geometry) (named : List Bool) (array : ℕ) (old : State) (stop : ℕ) (t : Tables) → array < 256 ^ 8 → (format_on g named array old stop t).outcome.answer ≡ Finished
    → (is_valid g ≡ true) × TablesOk g (start g (on_tables g) named (call_result (format_on g named array old stop t)))
unfolding format_on
tables_start g named array old stop t small e =
    let x = left_out g (is_set named) in
    let ss = format_stores g (named_drives g (is_set named)) x array in
    let (p, q) = answer_finished g (format_verdict g named t) (format_numbered_on g named t) ss (state_held g.zones (with_shares (fresh_shares g (named_drives g (is_set named))) (format_state x))) old stop t e in
    let passed = format_passed g named t p in
    (passed.valid_test, rw p (start_ok g named array old stop t small p q))

-- with blank spares
pub tables_start_blank : (g : Geometry) (named : List Bool) (array : ℕ) (old : State) (stop : ℕ) (t : Tables) → array < 256 ^ 8 → (format_on g named array old stop t).outcome.answer ≡ Finished
    → BlankSpares g (left_out g (is_set named)) (device_of g (format_on g named array old stop t).tables)
unfolding format_on
tables_start_blank g named array old stop t small e =
    let x = left_out g (is_set named) in
    let ss = format_stores g (named_drives g (is_set named)) x array in
    let (p, q) = answer_finished g (format_verdict g named t) (format_numbered_on g named t) ss (state_held g.zones (with_shares (fresh_shares g (named_drives g (is_set named))) (format_state x))) old stop t e in
    rw p (start_blank g named array old stop t small p q)
