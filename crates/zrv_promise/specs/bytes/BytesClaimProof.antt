-- What is promised on bytes holds at a point of a history: the promise holds of the tables which the bytes hold (promise's TablesClaimProof); here it is
-- carried to what the functions of the C edge do.
use Rattle.std.specs.Prelude.{◌≡◌, refl, ◌≢◌, ◌⊎◌, Bool, true, false, ◌&&◌, ℕ, zero, suc, ◌*◌, ◌^◌, ◌<◌, get_or, ltb, eqb}
use Rattle.std.proofs.Math.Path.{sym, ap, subst, fun_ext}
use Rattle.std.proofs.Common.{◌∙◌, inl, inr, arith, le-ltb, eqb-true}
use Rattle.std.proofs.Math.Decide.{ℕ_discrete}
use mathlib.Core.List.{List, [], ◌∷◌}
use Rattle.std.proofs.Math.ListN.{length}
use Rattle.tables.specs.declared.Geometry.{Geometry}
use Rattle.tables.specs.meaning.Basics.{pick}
use Rattle.tables.specs.meaning.Geometry.{Valid, physical_zones, cells}
use Rattle.tables.specs.meaning.GeometryTest.{is_valid}
use Rattle.tables.specs.meaning.Drives.{no_drive}
use Rattle.tables.specs.meaning.Device.{Loss}
use Rattle.tables.specs.meaning.Tables.{Tables, tables_of, cell, device_of, TablesLoss}
use Rattle.tables.specs.laws.Tables.{cell_in, device_outside}
use Rattle.tables.specs.laws.TablesRefine.{kept_sized, loss_refines}
use Rattle.tables.specs.laws.PointerOrder.{loss_order}
use Rattle.volume.specs.declared.State.{State}
use Rattle.volume.specs.declared.Outcome.{Outcome}
use Rattle.volume.specs.declared.Answer.{Answer}
use Rattle.volume.specs.declared.Answer.TheVariants.{Finished, Unfinished, Refused, BadLog}
use Rattle.volume.specs.meaning.Answers.{CallResult}
use Rattle.volume.specs.meaning.CallContracts.{record_at, is_set, answer_number, verdict_number, Result, look_on, mount_verdict, bad_place_on}
use Rattle.volume.specs.laws.AnswerNumbers.{mount_tells}
use Rattle.volume.specs.laws.ByteLists.{Bytes}
use Rattle.promise.specs.meaning.Ledger.{Fits}
use Rattle.promise.specs.meaning.Claim.{Call, mounts, writes, flushes, resets, formats, compacts, System, answered, reported, heard, Event, calls, looks, reads, peeks, reports, cuts, loses, MayMount, ready, settled, ledger_after, next, NamesAll, Duty, Serves, Promise, start}
use Rattle.promise.specs.meaning.OnDevice.{state_shown}
use Rattle.promise.specs.meaning.OnTables.{result_on, call_result, shown_in, on_tables}
use Rattle.promise.proofs.device.AtRestAnswers.{left_out_lem}
use Rattle.promise.proofs.device.Heard.{answer_heard, answer_alike, read_alike, peek_alike}
use Rattle.promise.proofs.tables.TablesEvents.{TablesOk, loss_event}
use Rattle.promise.proofs.tables.CallRefines.{held_agrees}
use Rattle.promise.proofs.tables.TablesClaimProof.{tables_promise, tables_event, tables_start}
use Rattle.zrv.specs.meaning.Bytes.{table_from, table_to, state_from, state_to}
use Rattle.zrv.specs.meaning.EdgeCalls.{named_of, input_number, sizes_number, Ranges, tables_in, unread_state, Answered, stored_all, without_place, look_of_bytes, look_edge, format_of_bytes, format_edge}
use Rattle.zrv.specs.laws.EdgeCalls.{Sized, input_passed, sizes_passed, refused, made}
use Rattle.zrv.specs.laws.Report.{input_reports}
use Rattle.zrv.specs.laws.RoundTrips.{number_back}
use Rattle.zrv.specs.laws.TablesRoundTrip.{table_long, table_bytes, table_bytes_long}
use Rattle.zrv.specs.laws.CallsLeave.{format_stored}
use Rattle.zrv.specs.laws.StateRoundTrip.{HandsOn, look_hands_on, format_hands_on}
use Rattle.zrv_promise.specs.meaning.OnBytes.{LentBytes, ranges_of, tables_at, answer_of, edge_of, bytes_result, shown_bytes, StillBytes, on_bytes}
use Rattle.zrv_promise.specs.bytes.CallsOnBytes.{OnTheTables, format_small, storing_known, view_bytes, views, takes, format_on_lem, mount_on_lem, write_on_lem, flush_on_lem, reset_on_lem, compact_on_lem}
use Rattle.zrv_promise.specs.bytes.ReadsOnBytes.{sizes_pass, look_other, look_is, read_is, peek_is, report_is}

-- ---- numbers
pub bytes_all : (xs : List ℕ) → ((i : ℕ) → get_or xs i 0 < 256) → Bytes xs
bytes_all [] h = tt
bytes_all (x ∷ xs) h = (h 0, bytes_all xs (λ i. h (suc i)))

pub byte_at_lem : (xs : List ℕ) (i : ℕ) → Bytes xs → get_or xs i 0 < 256
byte_at_lem [] i b = omega arith
byte_at_lem (x ∷ xs) zero b = b.0
byte_at_lem (x ∷ xs) (suc i) b = byte_at_lem xs i b.1

pub finished_code : (n : ℕ) → answer_of n ≡ Finished → n ≡ 0
finished_code n e = go (eqb n 0) (eqb n 255) refl e
  where
    go : (b c : Bool) → eqb n 0 ≡ b → pick b Finished (pick c Unfinished (Refused n)) ≡ Finished → n ≡ 0
    go true c q r = eqb-true n 0 q
    go false true q r = absurd (let z : ◌≡◌ {A = ℕ} 0 1 = cc in omega arith)
    go false false q r = absurd (let z : ◌≡◌ {A = ℕ} 0 1 = cc in omega arith)

-- ---- the system that the bytes hold, and the invariant
abbrev pub view_system : (g : Geometry) → System (on_bytes g) → System (on_tables g)
view_system g s = record { memory = tables_at g s.memory; lost = s.lost; mode = s.mode; state = state_from g s.state; ledger = s.ledger }

pub record BytesOk (g : Geometry) (s : System (on_bytes g)) : Type 0 where
  pub written_bytes : Bytes s.memory.written
  pub durable_bytes : Bytes s.memory.durable
  pub taken : input_number g s.state (length s.memory.written) (length s.memory.durable) ≡ 0
  pub holds : TablesOk g (view_system g s)

module _ (g : Geometry) (ok : Valid g) (wb : is_valid g ≡ true) (s : System (on_bytes g)) (o : BytesOk g s) where
  abbrev m : Ranges
  m = ranges_of s.memory s.state

  abbrev t : Tables
  t = tables_at g s.memory

  abbrev st : State
  st = state_from g s.state

  promised : Promise g (on_tables g) (view_system g s)
  promised = tables_promise g ok wb (view_system g s) o.holds

  sizes : sizes_number g (length s.state) (length s.memory.written) (length s.memory.durable) ≡ 0
  sizes = sizes_pass g (length s.state) (length s.memory.written) (length s.memory.durable) (input_passed g s.state (length s.memory.written) (length s.memory.durable) o.taken)

  module _ (mask : ℕ) where
    abbrev named : List Bool
    named = named_of mask

    module _ (n : NamesAll g (on_bytes g) s mask) where
      abbrev names : NamesAll g (on_tables g) (view_system g s) (named_of mask)
      names = record { drives = n.drives }

      -- no mount is refused for a log
      logs_good : (stop : ℕ) → verdict_number (mount_verdict g (named_of mask) t) ≢ 6
      logs_good stop e = promised.mount_refused (named_of mask) names stop (BadLog (bad_place_on g (named_of mask) t)) (ap answered (mount_tells g (named_of mask) t st stop e))

      -- each call is that on the tables
      call_on : (c : Call) (stop : ℕ) → (r : Result) × OnTheTables g m (edge_of g c mask stop m) r (result_on g c (named_of mask) st stop t)
      call_on mounts stop = (_, mount_on_lem g mask m o.written_bytes o.durable_bytes sizes stop (logs_good stop))
      call_on (writes w) stop = (_, write_on_lem g mask m o.written_bytes o.durable_bytes o.taken w stop)
      call_on flushes stop = (_, flush_on_lem g mask m o.written_bytes o.durable_bytes o.taken stop)
      call_on (resets z) stop = (_, reset_on_lem g mask m o.written_bytes o.durable_bytes o.taken z stop)
      call_on (formats array) stop = (_, format_on_lem g mask m o.written_bytes o.durable_bytes sizes array stop)
      call_on (compacts d) stop = (_, compact_on_lem g mask m o.written_bytes o.durable_bytes o.taken d stop)

      pub call_views : (c : Call) (stop : ℕ) → view_bytes g ((on_bytes g).call c mask s.state stop s.memory) ≡ (on_tables g).call c (named_of mask) st stop t
      call_views c stop = let (r, q) = call_on c stop in views g m (edge_of g c mask stop m) r (result_on g c (named_of mask) st stop t) q

      pub answers : (c : Call) (stop : ℕ) → ((on_bytes g).call c mask s.state stop s.memory).answer ≡ ((on_tables g).call c (named_of mask) st stop t).answer
      answers c stop = ap (λ (r : CallResult Tables State). r.answer) (call_views c stop)

      heard_as : (c : Call) (stop : ℕ) (a : Answer) → heard s (calls c mask stop) ≡ answered a → heard (view_system g s) (calls c (named_of mask) stop) ≡ answered a
      heard_as c stop a e = answer_alike (sym (answers c stop)) e

      -- ---- looks
      abbrev shown : State
      shown = (on_tables g).state_of (named_of mask) t t

      look_on_lem : look_on g (named_of mask) st t ≡ record { answer = Finished; state = shown }
      look_on_lem = ap (λ (r : CallResult Tables State). let u : Outcome = record { answer = r.answer; state = r.state } in u) (promised.look_fits (named_of mask) names).0

      looked : (on_bytes g).look mask s.state s.memory ≡ record { answer = Finished; memory = s.memory; state = state_to g shown }
      looked = look_is g mask s.memory s.state o.taken shown look_on_lem

      -- its state's bytes are taken, and hold what the look on the tables hands on
      look_hands : HandsOn g (look_edge g mask m).left.state (look_of_bytes g mask m).state (length s.memory.written) (length s.memory.durable)
      look_hands = look_hands_on g mask m (finished_code (without_place (look_edge g mask m)).code (ap (λ (r : CallResult LentBytes (List ℕ)). r.answer) looked))

      pub look_state : state_from g ((on_bytes g).look mask s.state s.memory).state ≡ (look_on g (named_of mask) st t).state
      look_state = look_hands.reads_back ∙ ap (λ (u : Outcome). u.state) (look_other g (named_of mask) st unread_state shown t look_on_lem) ∙ ap (λ (u : Outcome). u.state) (sym look_on_lem)

      -- ---- reports
      conditions_looked : (z : ℕ) → z < g.zones → (record_at (state_from g ((on_bytes g).look mask s.state s.memory).state) z).condition ≡ ((shown_in g (named_of mask) t t).zone z).condition
      conditions_looked z h =
          ap (λ (x : State). (record_at x z).condition) look_state ∙ ap (λ (u : Outcome). (record_at u.state z).condition) look_on_lem ∙ sym ((held_agrees g g.zones (state_shown g (is_set (named_of mask)) (device_of g t) (device_of g t)) (omega arith)).condition_same_lem z h)

      conditions_shown : s.mode ≡ ready → (z : ℕ) → z < g.zones → (record_at st z).condition ≡ ((shown_in g (named_of mask) t t).zone z).condition
      conditions_shown r z h = sym ((promised.look_holds (named_of mask) names r).1.conditions z h) ∙ sym (ap (λ (x : State). (record_at x z).condition) look_state) ∙ conditions_looked z h

      report_claim : s.mode ≡ ready → (list : List ℕ) → (on_bytes g).report s.state list ≡ shown_bytes g (shown_in g (named_of mask) t t) list
      report_claim r list =
          report_is g s.state list (input_reports g s.state (length s.memory.written) (length s.memory.durable) o.taken) (shown_in g (named_of mask) t t) (conditions_shown r)

      -- ---- a look's state serves reads, peeks and reports
      look_serves_bytes : s.mode ≡ ready → Serves g (on_bytes g) s ((on_bytes g).look mask s.state s.memory).state
      look_serves_bytes r =
          let x = ((on_bytes g).look mask s.state s.memory).state in
          let q : Serves g (on_tables g) (view_system g s) (state_from g x) = rw look_state (promised.look_serves (named_of mask) names r) in
          record {
            reads_same = λ by all a count out.
                read_is g by s.memory x look_hands.taken a count out ∙ q.reads_same (named_of by) (record { drives = all.drives }) a count out ∙ sym (read_is g by s.memory s.state o.taken a count out);
            peeks_same = λ by all a. peek_is g by s.memory x look_hands.taken a ∙ q.peeks_same (named_of by) (record { drives = all.drives }) a ∙ sym (peek_is g by s.memory s.state o.taken a);
            reports_same = λ list. report_is g x list (input_reports g x (length s.memory.written) (length s.memory.durable) look_hands.taken) (shown_in g (named_of mask) t t) conditions_looked ∙ sym (report_claim r list);
          }

      -- ---- a finished mount
      mount_claim : MayMount s.mode → (stop : ℕ) → heard s (calls mounts mask stop) ≡ answered Finished
          → let r = (on_bytes g).call mounts mask s.state stop s.memory in let k = (on_bytes g).shows mask s.memory r.memory in (r.state ≡ (on_bytes g).state_of mask s.memory r.memory) × Fits g s.ledger k
      mount_claim may stop e =
          let (r, q) = call_on mounts stop in
          let u = result_on g mounts (named_of mask) st stop t in
          let h = finished_code (edge_of g mounts mask stop m).code (answer_heard e) in
          let k : tables_in g (edge_of g mounts mask stop m).left ≡ u.tables = ap (λ (x : CallResult Tables State). x.memory) (call_views mounts stop) in
          let (a, b) = promised.mount_fits (named_of mask) names may stop (heard_as mounts stop Finished e) in
          rw k ((q.hands_on h).bytes_are ∙ ap (state_to g) (q.alike.new_same (sym q.leaves.code_is ∙ h) ∙ a), b)

  -- the promise
  pub bytes_promise : Promise g (on_bytes g) s
  bytes_promise = record {
    look_fits = λ mask n. (looked mask n, (promised.look_fits (named_of mask) (names mask n)).1);
    mount_fits = mount_claim;
    mount_refused = λ mask n stop a e. promised.mount_refused (named_of mask) (names mask n) stop a (heard_as mask n mounts stop a e);
    pointer_is = promised.pointer_is;
    look_serves = look_serves_bytes;
    look_holds = λ mask n r. rw (look_state mask n) (promised.look_holds (named_of mask) (names mask n) r);
    flush_accepted = λ mask n r stop a e. promised.flush_accepted (named_of mask) (names mask n) r stop a (heard_as mask n flushes stop a e);
    reset_refused = λ mask n r z stop a e. promised.reset_refused (named_of mask) (names mask n) r z stop a (heard_as mask n (resets z) stop a e);
    write_refused = λ mask n r w stop a e. promised.write_refused (named_of mask) (names mask n) r w stop a (heard_as mask n (writes w) stop a e);
    share_asked = λ mask n r w p stop. let (not_done, not_stopped) = promised.share_asked (named_of mask) (names mask n) r w p stop in (λ e. not_done (heard_as mask n (writes w) stop Finished e), λ e. not_stopped (heard_as mask n (writes w) stop Unfinished e));
    compact_refused = λ mask n r d stop a e. promised.compact_refused (named_of mask) (names mask n) r d stop a (heard_as mask n (compacts d) stop a e);
    shares_fit = promised.shares_fit;
    read_gives = λ mask n r a count out bytes e. promised.read_gives (named_of mask) (names mask n) r a count out bytes (read_alike (sym (read_is g mask s.memory s.state o.taken a count out)) e);
    read_accepted = λ mask n r a count out hz pos len h. read_alike (read_is g mask s.memory s.state o.taken a count out) (promised.read_accepted (named_of mask) (names mask n) r a count out hz pos len h);
    peek_gives = λ mask n r a from part e. promised.peek_gives (named_of mask) (names mask n) r a from part (peek_alike (sym (peek_is g mask s.memory s.state o.taken a)) e);
    peek_accepted = λ mask n r a hz h there. peek_alike (peek_is g mask s.memory s.state o.taken a) (promised.peek_accepted (named_of mask) (names mask n) r a hz h there);
    report_gives = λ mask n r list. ap reported (report_claim mask n r list);
  }

  -- ---- events
  -- the system on the tables after a call
  abbrev after : Call → List Bool → CallResult Tables State → System (on_tables g)
  after c named r = settled g (on_tables g) (view_system g s) r (ledger_after g (on_tables g) (view_system g s) c named r)

  call_event : (c : Call) (mask stop : ℕ) → Duty g (on_bytes g) s (calls c mask stop) → BytesOk g (next g (on_bytes g) s (calls c mask stop))
  call_event c mask stop (n, may, comp) =
      let (r, q) = call_on mask n c stop in
      record {
        written_bytes = q.leaves.written_bytes;
        durable_bytes = q.leaves.durable_bytes;
        taken = takes g m (edge_of g c mask stop m) r (result_on g c (named_of mask) st stop t) q o.taken;
        holds = subst (λ (x : CallResult Tables State). TablesOk g (after c (named_of mask) x)) (sym (call_views mask n c stop))
            (tables_event g ok wb (view_system g s) o.holds (calls c (named_of mask) stop) (names mask n, may, rw (answers mask n c stop) at comp));
      }

  -- memory that a cut or a loss leaves
  left_taken : (u : LentBytes) → StillBytes s.memory u → input_number g s.state (length u.written) (length u.durable) ≡ 0
  left_taken u b = rw (b.written_long, b.durable_long) o.taken

  pub bytes_event : (e : Event (on_bytes g)) → Duty g (on_bytes g) s e → BytesOk g (next g (on_bytes g) s e)
  bytes_event (calls c mask stop) d = call_event c mask stop d
  bytes_event (looks mask) d = o
  bytes_event (reads mask a count out) d = o
  bytes_event (peeks mask a) d = o
  bytes_event (reports list) d = o
  bytes_event (cuts u) (b, c) = record {
    written_bytes = bytes_all u.written b.written_bytes;
    durable_bytes = bytes_all u.durable b.durable_bytes;
    taken = left_taken u b;
    holds = tables_event g ok wb (view_system g s) o.holds (cuts (tables_at g u)) c;
  }
  bytes_event (loses d u) (h, e, (b, c)) = record {
    written_bytes = bytes_all u.written b.written_bytes;
    durable_bytes = bytes_all u.durable b.durable_bytes;
    taken = left_taken u b;
    holds = tables_event g ok wb (view_system g s) o.holds (loses d (tables_at g u)) (h, e, c);
  }

-- ==== the format at the head. Nothing is asked of what the ranges held: a drive left out keeps what it had, and that need not be bytes
-- where no drive is lost, the loss of none leaves the device
pub none_changed : (g : Geometry) → Valid g → (x : ℕ) → x ≡ no_drive → (t u : Tables) → TablesLoss g x t u → device_of g u ≡ device_of g t
none_changed g ok x e t u c = fun_ext λ d. fun_ext λ z. same d z (ℕ_discrete d x)
  where
    same : (d z : ℕ) → Dec (d ≡ x) → device_of g u d z ≡ device_of g t d z
    same d z (yes q) =
        let out : ltb d g.drives && ltb z (physical_zones g) ≡ false = rw (le-ltb d g.drives (omega (arith, q, e, ok.drives_most))) refl in
        device_outside g u d z out ∙ sym (device_outside g t d z out)
    same d z (no n) = unfold Loss in loss_refines g x t u c d z n

-- what becomes of a lost drive's memory is open
lost_open : (g : Geometry) → Valid g → (s : System (on_tables g)) → TablesOk g s → (s.lost ≡ no_drive) ⊎ (s.lost < g.drives) → (u : Tables) → TablesLoss g s.lost s.memory u
    → TablesOk g (record { memory = u; lost = s.lost; mode = s.mode; state = s.state; ledger = s.ledger })
lost_open g ok s o (inr h) u c = loss_event g ok s o s.lost h (inr refl) u c
lost_open g ok s o (inl e) u c = record {
  sized = kept_sized g s.lost s.memory u c.kept o.sized;
  order = λ d hd n. loss_order g s.lost d s.memory u c hd n (o.order d hd n);
  records = o.records;
  holds = rw (none_changed g ok s.lost e s.memory u c) o.holds;
  shared = rw (none_changed g ok s.lost e s.memory u c) o.shared;
}

-- tables whose numbers are not all of 32 bits, written and read back: only a lost drive's may differ
module _ (g : Geometry) (ok : Valid g) (s : System (on_tables g)) (o : TablesOk g s) where
  abbrev pub again : Tables
  again = tables_of s.memory.sectors (table_from (cells g) (table_to s.memory.written)) (table_from (cells g) (table_to s.memory.durable))

  pub read_again : TablesLoss g s.lost s.memory again
  read_again = record {
    kept = record {
      sectors_long = refl;
      written_long = table_long (cells g) (table_to s.memory.written) ∙ sym o.sized.written_long;
      durable_long = table_long (cells g) (table_to s.memory.durable) ∙ sym o.sized.durable_long;
      sectors_same = λ d z n hd hz h ne. refl;
    };
    written_same = λ d z hd hz n. number_back (cells g) s.memory.written (cell g d z) o.sized.written_long (cell_in g d z hd hz) (written_small d z hd hz n);
    durable_same = λ d z hd hz n. number_back (cells g) s.memory.durable (cell g d z) o.sized.durable_long (cell_in g d z hd hz) (omega (arith, (o.order d hd n).durable_most z hz, written_small d z hd hz n));
  }
    where
      written_small : (d z : ℕ) → d < g.drives → z < physical_zones g → d ≢ s.lost → get_or s.memory.written (cell g d z) 0 < 256 ^ 4
      written_small d z hd hz n = omega (arith, (o.order d hd n).written_most z hz, ok.zone_most)

module _ (g : Geometry) (mask array stop : ℕ) (old : List ℕ) (m : LentBytes) (small : array < 256 ^ 8) where
  abbrev pub before : Ranges
  before = ranges_of m old

  abbrev pub edge : Answered Ranges
  edge = format_edge g mask array stop (ranges_of m old)

  abbrev pub made_on_lem : Result
  made_on_lem = format_of_bytes g mask array stop (ranges_of m old)

  module _ (h : edge.code ≡ 0) where
    sizes_fit_lem : sizes_number g (length old) (length m.written) (length m.durable) ≡ 0
    sizes_fit_lem = go (ℕ_discrete (sizes_number g (length old) (length m.written) (length m.durable)) 0)
      where
        go : Dec (sizes_number g (length old) (length m.written) (length m.durable) ≡ 0) → sizes_number g (length old) (length m.written) (length m.durable) ≡ 0
        go (yes e) = e
        go (no e) = ap (λ (x : Answered Ranges). x.code) (refused _ (stored_all g made_on_lem before) before e) ∙ h

    pub sized : Sized g (length old) (length m.written) (length m.durable)
    sized = sizes_passed g (length old) (length m.written) (length m.durable) sizes_fit_lem

    edge_is : edge ≡ stored_all g made_on_lem before
    edge_is = sym (made _ (stored_all g made_on_lem before) before sizes_fit_lem)

    pub finished : made_on_lem.outcome.answer ≡ Finished
    unfolding stored_all format_stored
    finished =
        let k : answer_number made_on_lem.outcome.answer ≡ 0 = ap (λ (x : Answered Ranges). x.code) (sym edge_is) ∙ h in
        sym (storing_known g (tables_in g before) made_on_lem (format_stored g (tables_in g before) (named_of mask) stop array unread_state) (format_small g (named_of mask) (tables_in g before)) refl) ∙ ap answer_of k

    abbrev pub began : System (on_tables g)
    began = start g (on_tables g) (named_of mask) (call_result made_on_lem)

    pub begins : (is_valid g ≡ true) × TablesOk g began
    begins = tables_start g (named_of mask) array unread_state stop (tables_in g before) small finished

    -- the tables and the state that the bytes hold then
    pub left_tables : tables_at g (bytes_result edge).memory ≡ again g sized.valid began begins.1
    unfolding stored_all
    left_tables = ap (λ (x : Answered Ranges). tables_at g (bytes_result x).memory) edge_is

    pub left_state : state_from g edge.left.state ≡ made_on_lem.outcome.state
    left_state = (format_hands_on g mask (ranges_of m old) array stop h).reads_back

    pub bytes_start : BytesOk g (start g (on_bytes g) mask (bytes_result edge))
    unfolding stored_all
    bytes_start =
        let o = begins.1 in
        let w : length (table_to made_on_lem.tables.written) ≡ length m.written = table_bytes_long made_on_lem.tables.written ∙ ap (λ (n : ℕ). n * 4) o.sized.written_long ∙ sym sized.written_long in
        let d : length (table_to made_on_lem.tables.durable) ≡ length m.durable = table_bytes_long made_on_lem.tables.durable ∙ ap (λ (n : ℕ). n * 4) o.sized.durable_long ∙ sym sized.durable_long in
        let k = format_hands_on g mask before array stop h in
        let with_state : State → System (on_tables g) = λ x. record { memory = again g sized.valid began o; lost = began.lost; mode = began.mode; state = x; ledger = began.ledger } in
        let z : edge.left.state ≡ (stored_all g made_on_lem before).left.state = ap (λ (x : Answered Ranges). x.left.state) edge_is in
        let opened = lost_open g sized.valid began o (left_out_lem g (is_set (named_of mask))) (again g sized.valid began o) (read_again g sized.valid began o) in
        let bytes : BytesOk g (start g (on_bytes g) mask (bytes_result (stored_all g made_on_lem before))) = record {
          written_bytes = table_bytes made_on_lem.tables.written;
          durable_bytes = table_bytes made_on_lem.tables.durable;
          taken = rw (w, d) (ap (λ (l : List ℕ). input_number g l (length m.written) (length m.durable)) (sym z) ∙ k.taken);
          holds = subst (λ (x : State). TablesOk g (with_state x)) (sym k.reads_back ∙ ap (state_from g) z) opened;
        } in
        rw edge_is bytes
