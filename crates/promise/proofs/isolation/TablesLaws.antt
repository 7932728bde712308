-- What isolation rests on (Laws), of the code's calls on the tables: each is the rules' on the device that the tables stand for.
use Rattle.std.specs.Prelude.{◌≡◌, refl, ◌≢◌, Bool, true, false, ℕ, zero, ◌<◌, List, [], length, ltb, eqb}
use Rattle.std.proofs.Math.Path.{sym}
use Rattle.std.proofs.Common.{ap, ap₂, ◌∙◌, subst, arith}
use Rattle.std.proofs.Math.Decide.{ℕ_discrete}
use borrow.Author.Tests.{eq-eqb, ne_eqb}
use Rattle.tables.specs.declared.Geometry.{Geometry}
use Rattle.tables.specs.meaning.Basics.{pick}
use Rattle.tables.specs.meaning.Device.{Device, Store}
use Rattle.tables.specs.meaning.Geometry.{Valid, cells, total_bytes, max_zones}
use Rattle.tables.specs.meaning.GeometryTest.{is_valid}
use Rattle.tables.specs.laws.GeometryTest.{valid_if_test}
use Rattle.tables.specs.meaning.Tables.{Tables, device_of}
use Rattle.tables.specs.laws.Made.{WellSized}
use Rattle.tables.specs.laws.TablesFrame.{sized_lengths}
use Rattle.volume.specs.declared.Answer.{Answer}
use Rattle.volume.specs.declared.Answer.TheVariants.{Finished, Unfinished, Refused, BadLog}
use Rattle.volume.specs.declared.BadPlace.{BadPlace}
use Rattle.volume.specs.declared.Outcome.{Outcome}
use Rattle.volume.specs.declared.State.{State}
use Rattle.volume.specs.meaning.State.{StateView, share_at, with_shares, call_present}
use Rattle.volume.specs.meaning.Roles.{roles, by_roles}
use Rattle.volume.specs.meaning.Calls.{flush_stores, flush_state, reset_state, format_stores, format_state}
use Rattle.volume.specs.meaning.Emptying.{unused_in, write_all, reset_all, compact_stores}
use Rattle.volume.specs.meaning.Hosts.{half_past, renewed_shares, fresh_shares, written_state, compact_state}
use Rattle.volume.specs.meaning.Refusals.{TableLengths, tables_fit, zone_asked}
use Rattle.volume.specs.meaning.Answers.{told_at, place_of, present_in, lost_drive_in, lost_in, sectors_in, named_drives, left_out}
use Rattle.volume.specs.meaning.CallContracts.{view_state, is_set, lengths_of, roles_of, seen_in, state_held, verdict_number, bad_place_on, ReadResult, storing_on, write_on, flush_on, reset_on, format_on, compact_on, mount_on, byte_of, peek_number, peek_from, peek_on}
use Rattle.volume.specs.meaning.CallContracts.{mount_verdict, mount_stores_on, mount_shown_on, write_verdict, flush_verdict, reset_verdict, format_verdict, compact_verdict}
use Rattle.promise.specs.meaning.Claim.{Call, mounts, writes, flushes, resets, formats, compacts, System, Event, calls, reads, peeks, read_out, peeked_at, answered, heard, next, ready, NamesAll, Peeked}
use Rattle.promise.specs.meaning.OnDevice.{on_device}
use Rattle.promise.specs.meaning.OnTables.{result_on, on_tables}
use Rattle.promise.proofs.device.Heard.{answer_heard, read_heard, peek_heard}
use Rattle.promise.proofs.device.ClaimProof.{kept as device-promise}
use Rattle.promise.proofs.shown.EveryPoint.{Known}
use Rattle.promise.proofs.tables.CallRefines.{Agree}
use Rattle.promise.proofs.tables.MountRefines.{call_refines, heard_as}
use Rattle.promise.proofs.tables.TablesEvents.{view_system, TablesOk, names_seen, call_agrees}
use Rattle.promise.proofs.tables.TablesClaimProof.{read_same, peek_number_same, tables_promise, tables_event}
use Rattle.promise.proofs.tables.RoomyTables.{TablesKnown, event_blank_on}
use Rattle.promise.proofs.isolation.Laws.{SameView, BothReady, Laws}
use Rattle.promise.proofs.isolation.DeviceLaws.{device_laws}

-- ---- the tables' lengths are the geometry's, so every system on tables is one on the same device
abbrev lengths_for : Geometry → TableLengths
lengths_for g = record { sectors = total_bytes g; written = cells g; durable = cells g }

lengths_are : (g : Geometry) (t : Tables) → WellSized g t → lengths_of t ≡ lengths_for g
lengths_are g t w i = record { sectors = w.sectors_long i; written = w.written_long i; durable = w.durable_long i }

abbrev seen_at : (g : Geometry) (t : TableLengths) → System (on_tables g) → System (on_device g t)
seen_at g t s = record { memory = device_of g s.memory; lost = s.lost; mode = s.mode; state = view_state s.state; ledger = s.ledger }

-- ---- a state that agrees says what is the same
agree_view : (g : Geometry) → Valid g → (a b c : StateView) → Agree g a b → SameView g a c → SameView g b c
agree_view g ok a b c e v = record {
  generations = λ z h. sym (e.generation_same z h) ∙ v.generations z h;
  conditions = λ z h. sym (e.condition_same_lem z h) ∙ v.conditions z h;
  owners = λ z h. sym (e.owner_same z h) ∙ v.owners z h;
  shares = λ d h l k. sym (e.share_same (share_at d h) (omega (arith, l, k, ok.drives_most))) ∙ v.shares d h l k;
}

-- ---- a call that does not finish hands back the state
stays : (g : Geometry) (n : ℕ) (ss : List Store) (new old : State) (count : ℕ) (t : Tables) (told : Answer → Answer) → told Finished ≡ Finished → told (storing_on g n ss new old count t).outcome.answer ≢ Finished → (storing_on g n ss new old count t).outcome.state ≡ old
stays g n ss new old count t told e ends = go (eqb n 0) (ltb count (length ss)) ends
  where
    go : (b c : Bool) → let o : Outcome = pick b (pick c (record { answer = Unfinished; state = old }) (record { answer = Finished; state = new })) (record { answer = Refused n; state = old }) in told o.answer ≢ Finished → o.state ≡ old
    go true true q = refl
    go true false q = absurd (q e)
    go false c q = refl

state_stays : (g : Geometry) (c : Call) (named : List Bool) (old : State) (stop : ℕ) (t : Tables) → (result_on g c named old stop t).outcome.answer ≢ Finished → (result_on g c named old stop t).outcome.state ≡ old
unfolding mount_on write_on flush_on reset_on format_on compact_on
state_stays g mounts named old stop t q =
    let present = present_in g (is_set named) (device_of g t) in
    let lost = lost_drive_in g (is_set named) (device_of g t) in
    stays g (verdict_number (mount_verdict g named t)) (mount_stores_on g present lost t) (mount_shown_on g present lost t) old stop t (told_at (bad_place_on g named t)) refl q
state_stays g (writes w) named old stop t q =
    let here = call_present g (is_set named) (view_state old) in
    stays g (verdict_number (write_verdict g named old w t)) (write_all g here (roles_of g t) (seen_in g t) (view_state old) (zone_asked g w) (sectors_in g w.count w.buffer))
    (state_held max_zones (written_state g here (lost_in g (is_set named) (view_state old)) w.host (view_state old) (zone_asked g w) w.count)) old stop t (λ a. a) refl q
state_stays g flushes named old stop t q =
    stays g (verdict_number (flush_verdict g named old t)) (flush_stores g (call_present g (is_set named) (view_state old))) (state_held max_zones (flush_state (lost_in g (is_set named) (view_state old)) (view_state old))) old stop t (λ a. a) refl q
state_stays g (resets z) named old stop t q =
    stays g (verdict_number (reset_verdict g named old z t)) (reset_all g (call_present g (is_set named) (view_state old)) (roles_of g t) (seen_in g t) (view_state old) z) (state_held max_zones (reset_state (lost_in g (is_set named) (view_state old)) (view_state old) z)) old stop t (λ a. a) refl q
state_stays g (formats array) named old stop t q =
    let here = named_drives g (is_set named) in
    let x = left_out g (is_set named) in
    stays g (verdict_number (format_verdict g named t)) (format_stores g here x array) (state_held g.zones (with_shares (fresh_shares g here) (format_state x))) old stop t (λ a. a) refl q
state_stays g (compacts d) named old stop t q =
    let here = call_present g (is_set named) (view_state old) in
    stays g (verdict_number (compact_verdict g named old d t)) (compact_stores g here (roles_of g t) (seen_in g t) (view_state old) d) (state_held max_zones (compact_state g here (lost_in g (is_set named) (view_state old)) (seen_in g t) (view_state old) d)) old stop t (λ a. a) refl q

module _ (g : Geometry) (wb : is_valid g ≡ true) where
  abbrev ok : Valid g
  ok = valid_if_test g wb

  abbrev T : TableLengths
  T = lengths_for g

  fits : (s : System (on_tables g)) → TablesKnown g s → tables_fit g (lengths_for g) ≡ true
  fits s k = subst (λ (t : TableLengths). tables_fit g t ≡ true) (lengths_are g s.memory k.ok.sized) (sized_lengths g s.memory k.ok.sized)

  known_at_lem : (s : System (on_tables g)) → TablesKnown g s → Known g (lengths_for g) (seen_at g (lengths_for g) s)
  known_at_lem s k = subst (λ (t : TableLengths). Known g t (seen_at g t s)) (lengths_are g s.memory k.ok.sized) (record { ok = k.ok.holds; shared = k.ok.shared; blank = k.blank })

  names_at : (s : System (on_tables g)) (named : List Bool) → NamesAll g (on_tables g) s named → NamesAll g (on_device g (lengths_for g)) (seen_at g (lengths_for g) s) (is_set named)
  names_at s named n = record { drives = n.drives }

  both_at : (s o : System (on_tables g)) (m n : List Bool) → BothReady g (on_tables g) (TablesKnown g) s o m n → BothReady g (on_device g (lengths_for g)) (Known g (lengths_for g)) (seen_at g (lengths_for g) s) (seen_at g (lengths_for g) o) (is_set m) (is_set n)
  both_at s o m n b = record {
    first_ok = known_at_lem s b.first_ok;
    second_ok = known_at_lem o b.second_ok;
    first_ready = b.first_ready;
    second_ready = b.second_ready;
    lost = b.lost;
    first_names = names_at s m b.first_names;
    second_names = names_at o n b.second_names;
  }

  laws_at : (s : System (on_tables g)) → TablesKnown g s → Laws g (on_device g (lengths_for g)) (Known g (lengths_for g))
  laws_at s k = device_laws g ok (lengths_for g) wb (fits s k)

  -- what a call on the tables answers, by the device
  answer_at_lem : (s : System (on_tables g)) → TablesKnown g s → (named : List Bool) → NamesAll g (on_tables g) s named → (c : Call) (stop : ℕ)
      → ((on_device g (lengths_for g)).call c (is_set named) (view_state s.state) stop (device_of g s.memory)).answer ≡ (result_on g c named s.state stop s.memory).outcome.answer
  answer_at_lem s k named n c stop =
      ap (λ (t : TableLengths). ((on_device g t).call c (is_set named) (view_state s.state) stop (device_of g s.memory)).answer) (sym (lengths_are g s.memory k.ok.sized))
      ∙ (call_agrees g ok s k.ok c named stop (call_refines g ok s k.ok named n c stop)).answer_same

  call_same : (s o : System (on_tables g)) (m n : List Bool) → BothReady g (on_tables g) (TablesKnown g) s o m n → (c : Call) (stop : ℕ)
      → heard (seen_at g (lengths_for g) s) (calls c (is_set m) stop) ≡ heard (seen_at g (lengths_for g) o) (calls c (is_set n) stop) → heard s (calls c m stop) ≡ heard o (calls c n stop)
  call_same s o m n b c stop e = ap answered (sym (answer_at_lem s b.first_ok m b.first_names c stop) ∙ answer_heard e ∙ answer_at_lem o b.second_ok n b.second_names c stop)

  read_at : (s : System (on_tables g)) → TablesKnown g s → (named : List Bool) → NamesAll g (on_tables g) s named → (a count : ℕ) (out : List ℕ)
      → (on_tables g).read named s.state a count out s.memory ≡ (on_device g (lengths_for g)).read (is_set named) (view_state s.state) a count out (device_of g s.memory)
  read_at s k named n a count out = read_same g ok wb s k.ok named n s.state a count out ∙ ap (λ (t : TableLengths). (on_device g t).read (is_set named) (view_state s.state) a count out (device_of g s.memory)) (lengths_are g s.memory k.ok.sized)

  number_at : (s : System (on_tables g)) → TablesKnown g s → (named : List Bool) → NamesAll g (on_tables g) s named → (a : ℕ)
      → peek_number g named s.state a s.memory ≡ ((on_device g (lengths_for g)).peek (is_set named) (view_state s.state) a (device_of g s.memory)).number
  number_at s k named n a = peek_number_same g ok wb s k.ok named n s.state a ∙ ap (λ (t : TableLengths). ((on_device g t).peek (is_set named) (view_state s.state) a (device_of g s.memory)).number) (lengths_are g s.memory k.ok.sized)

  -- a peek: refused alike, or each gives what the device's gives, the content's sector
  module _ (s : System (on_tables g)) (k : TablesKnown g s) (named : List Bool) (n : NamesAll g (on_tables g) s named) (m : s.mode ≡ ready) (a : ℕ) (e : peek_number g named s.state a s.memory ≡ 0) where
    abbrev peeked_there : Peeked
    peeked_there = (on_device g (lengths_for g)).peek (is_set named) (view_state s.state) a (device_of g s.memory)

    part_at : (peek_from g named s.state a s.memory ≡ byte_of g (place_of g a)) × (peek_on g named s.state a s.memory ≡ peeked_there.part)
    part_at =
        let from = peek_from g named s.state a s.memory in
        let part = peek_on g named s.state a s.memory in
        let p = (tables_promise g ok wb s k.ok).peek_gives named n m a from part (ap (λ (i : ℕ). peeked_at i from part) e) in
        let there = known_at_lem s k in
        let q = (device-promise g ok (lengths_for g) wb (fits s k) (seen_at g (lengths_for g) s) there.ok there.shared).peek_gives (is_set named) (names_at s named n) m a peeked_there.from peeked_there.part
        (ap (λ (i : ℕ). peeked_at i peeked_there.from peeked_there.part) (sym (number_at s k named n a) ∙ e)) in
        (p.1, p.2 ∙ sym q.2)

  peek_same : (s o : System (on_tables g)) (m n : List Bool) → BothReady g (on_tables g) (TablesKnown g) s o m n → (a : ℕ) → peek_number g m s.state a s.memory ≡ peek_number g n o.state a o.memory
      → ((on_device g (lengths_for g)).peek (is_set m) (view_state s.state) a (device_of g s.memory)).part ≡ ((on_device g (lengths_for g)).peek (is_set n) (view_state o.state) a (device_of g o.memory)).part → heard s (peeks m a) ≡ heard o (peeks n a)
  unfolding peek_on peek_from
  peek_same s o m n b a e parts = go (ℕ_discrete (peek_number g m s.state a s.memory) 0)
    where
      go : Dec (peek_number g m s.state a s.memory ≡ 0) → heard s (peeks m a) ≡ heard o (peeks n a)
      go (yes q) =
          let p = part_at s b.first_ok m b.first_names b.first_ready a q in
          let r = part_at o b.second_ok n b.second_names b.second_ready a (sym e ∙ q) in
          let from = p.0 ∙ sym r.0 in
          let part = p.1 ∙ parts ∙ sym r.1 in
          λ i. peeked_at (e i) (from i) (part i)
      go (no q) = rw (ne_eqb (peek_number g m s.state a s.memory) 0 q, ne_eqb (peek_number g n o.state a o.memory) 0 (λ z. q (e ∙ z))) (ap (λ (i : ℕ). peeked_at i 0 []) e)

  -- ---- what a finished call makes of the state
  module _ (s : System (on_tables g)) (k : TablesKnown g s) (named : List Bool) (n : NamesAll g (on_tables g) s named) (c : Call) (stop : ℕ) where
    finished_at : heard s (calls c named stop) ≡ answered Finished → heard (seen_at g (lengths_for g) s) (calls c (is_set named) stop) ≡ answered Finished
    finished_at e = ap answered (answer_at_lem s k named n c stop ∙ answer_heard e)

    agrees_at : Agree g (next g (on_device g (lengths_for g)) (seen_at g (lengths_for g) s) (calls c (is_set named) stop)).state (view_state (next g (on_tables g) s (calls c named stop)).state)
    agrees_at = subst (λ (t : TableLengths). Agree g ((on_device g t).call c (is_set named) (view_state s.state) stop (device_of g s.memory)).state (view_state (result_on g c named s.state stop s.memory).outcome.state)) (lengths_are g s.memory k.ok.sized)
        (call_agrees g ok s k.ok c named stop (call_refines g ok s k.ok named n c stop)).state_agrees

    memory_at : (next g (on_device g (lengths_for g)) (seen_at g (lengths_for g) s) (calls c (is_set named) stop)).memory ≡ device_of g (next g (on_tables g) s (calls c named stop)).memory
    memory_at = ap (λ (t : TableLengths). ((on_device g t).call c (is_set named) (view_state s.state) stop (device_of g s.memory)).memory) (sym (lengths_are g s.memory k.ok.sized))
        ∙ (call_agrees g ok s k.ok c named stop (call_refines g ok s k.ok named n c stop)).memory_same

  pub tables_laws : Laws g (on_tables g) (TablesKnown g)
  tables_laws = record {
    kept = λ s e k d. record { ok = tables_event g ok wb s k.ok e d; blank = event_blank_on g wb s k e d };
    write_heard = λ s o m n b w stop same counts zones shares. call_same s o m n b (writes w) stop ((laws_at s b.first_ok).write_heard (seen_at g T s) (seen_at g T o) (is_set m) (is_set n) (both_at s o m n b) w stop same counts zones shares);
    flush_heard = λ s o m n b stop. call_same s o m n b flushes stop ((laws_at s b.first_ok).flush_heard (seen_at g T s) (seen_at g T o) (is_set m) (is_set n) (both_at s o m n b) stop);
    reset_heard = λ s o m n b z stop same logs. call_same s o m n b (resets z) stop ((laws_at s b.first_ok).reset_heard (seen_at g T s) (seen_at g T o) (is_set m) (is_set n) (both_at s o m n b) z stop same logs);
    read_heard = λ s o m n b a count out same contents.
        let (p, q) = read_heard ((laws_at s b.first_ok).read_heard (seen_at g T s) (seen_at g T o) (is_set m) (is_set n) (both_at s o m n b) a count out same contents) in
        let i = read_at s b.first_ok m b.first_names a count out in
        let j = read_at o b.second_ok n b.second_names a count out in
        ap₂ read_out (ap (λ (r : ReadResult). r.answer) i ∙ p ∙ sym (ap (λ (r : ReadResult). r.answer) j)) (ap (λ (r : ReadResult). r.buffer) i ∙ q ∙ sym (ap (λ (r : ReadResult). r.buffer) j));
    peek_heard = λ s o m n b a same contents.
        let (p, q, r) = peek_heard ((laws_at s b.first_ok).peek_heard (seen_at g T s) (seen_at g T o) (is_set m) (is_set n) (both_at s o m n b) a same contents) in
        peek_same s o m n b a (number_at s b.first_ok m b.first_names a ∙ p ∙ sym (number_at o b.second_ok n b.second_names a)) r;
    write_moves = λ s m k r n w stop e.
        let (v, h, z) = (laws_at s k).write_moves (seen_at g T s) (is_set m) (known_at_lem s k) r (names_at s m n) w stop (finished_at s k m n (writes w) stop e) in
        (agree_view g ok _ _ _ (agrees_at s k m n (writes w) stop) v, h, z);
    flush_moves = λ s m k r n stop e. agree_view g ok _ _ _ (agrees_at s k m n flushes stop) ((laws_at s k).flush_moves (seen_at g T s) (is_set m) (known_at_lem s k) r (names_at s m n) stop (finished_at s k m n flushes stop e));
    reset_moves = λ s m k r n z stop e.
        let (v, h) = (laws_at s k).reset_moves (seen_at g T s) (is_set m) (known_at_lem s k) r (names_at s m n) z stop (finished_at s k m n (resets z) stop e) in
        (agree_view g ok _ _ _ (agrees_at s k m n (resets z) stop) v, h);
    compact_moves = λ s m k r n d stop e.
        let v = (laws_at s k).compact_moves (seen_at g T s) (is_set m) (known_at_lem s k) r (names_at s m n) d stop (finished_at s k m n (compacts d) stop e) in
        let b = agree_view g ok _ _ _ (agrees_at s k m n (compacts d) stop) v in
        subst (λ (w : Device). SameView g (view_state (next g (on_tables g) s (calls (compacts d) m stop)).state) (with_shares (renewed_shares (view_state s.state).share d (half_past g (unused_in g true (roles g w) (by_roles g w) d))) (view_state s.state))) (memory_at s k m n (compacts d) stop) b;
    not_finished = λ s m k n c stop a e ends. ap view_state (state_stays g c m s.state stop s.memory (λ q. ends (sym (answer_heard e) ∙ q)));
  }
