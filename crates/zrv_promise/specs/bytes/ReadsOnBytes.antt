-- A look, a read and a peek on bytes are those on the tables which the bytes hold.
use Rattle.std.specs.Prelude.{◌≡◌, Bool, true, false, List, [], length, take, drop, eqb}
use Rattle.std.proofs.Math.Path.{refl, sym, ap, ap₂}
use Rattle.std.proofs.Common.{◌∙◌, mod-lt, arith, eq-eqb, ne_eqb}
use Prim.Native.Nat.{ℕ, ◌*◌, ◌/◌, ◌%◌, ◌^◌, ◌<◌}
use Rattle.std.proofs.Math.Decide.{ℕ_discrete}
use Rattle.tables.specs.declared.Geometry.{Geometry}
use Rattle.tables.specs.meaning.Basics.{pick}
use Rattle.tables.specs.meaning.Geometry.{cells, data_zone}
use Rattle.tables.specs.laws.GeometryTest.{test_if_valid}
use Rattle.tables.specs.meaning.Placement.{drive_of, sector_of}
use Rattle.tables.specs.laws.Placement.{drive_below}
use Rattle.tables.specs.laws.Sizes.{zone_small}
use Rattle.tables.specs.laws.Tables.{small_place}
use Rattle.tables.specs.meaning.Tables.{Tables, device_of}
use Rattle.tables.specs.meaning.LittleEndian.{bytes_le, number_le}
use Rattle.tables.specs.laws.LittleEndian.{number_bytes_le}
use Rattle.volume.specs.declared.State.{State}
use Rattle.volume.specs.declared.Answer.TheVariants.{Finished, Refused}
use Rattle.volume.specs.declared.Outcome.{Outcome}
use Rattle.volume.specs.meaning.Rules.{Shown}
use Rattle.volume.specs.meaning.Answers.{present_in, lost_drive_in, refused_at}
use Rattle.volume.specs.meaning.Refusals.{zone_of, offset_of}
use Rattle.volume.specs.meaning.CallContracts.{record_at, view_state, is_set, answer_number, verdict_number, look_verdict, bad_place_on, look_on, ReadResult, read_number, read_on, peek_number, peek_from, peek_on, state_held}
use Rattle.volume.specs.declared.ZoneDescriptor.{ZoneDescriptor}
use Rattle.volume.specs.meaning.Report.{ReportResult}
use Rattle.volume.specs.laws.BadPlaces.{not_finished}
use Rattle.volume.specs.laws.Report.{report_finished, report_same}
use Rattle.volume.specs.looking.KnowingValues.{sector_within}
use Rattle.volume.specs.reading.Peeking.{peek_accepted, peek_refused, peek_done}
use Rattle.volume.specs.meaning.Mount.{shown_state}
use Rattle.zrv.specs.meaning.Bytes.{state_bytes, state_from, state_to}
use Rattle.zrv.specs.meaning.EdgeCalls.{named_of, sizes_fit, input_number, sizes_number, state_after, Ranges, tables_in, state_in, unread_state, Answered, answered, handed_back, without_place, look_of_bytes, look_edge, read_answer, read_edge, offset_at, place_answer, place_sized, peek_edge, report_input, lent_for, report_bytes, report_of_bytes, report_edge}
use Rattle.zrv.specs.laws.EdgeCalls.{Sized, input_passed, made, look_alone, place_right, place_refused, place_made}
use Rattle.zrv.specs.laws.Report.{report_passed}
use Rattle.zrv_promise.specs.meaning.OnBytes.{LentBytes, ranges_of, answer_of, bytes_result, read_bytes, peeked_bytes, no_place, reported_bytes, shown_bytes}
use Rattle.zrv_promise.specs.bytes.CallsOnBytes.{read_small, refused_known}

-- ranges of the right sizes pass where the state is not read
pub sizes_pass : (g : Geometry) (n w d : ℕ) → Sized g n w d → sizes_number g n w d ≡ 0
unfolding sizes_number sizes_fit
sizes_pass g n w d s = rw (test_if_valid g s.valid s.logs_first, eq-eqb n state_bytes s.state_long, eq-eqb w (cells g * 4) s.written_long, eq-eqb d (cells g * 4) s.durable_long) refl

-- ---- look: it is not refused for another state
pub look_other : (g : Geometry) (named : List Bool) (a b x : State) (t : Tables) → look_on g named a t ≡ record { answer = Finished; state = x } → look_on g named b t ≡ record { answer = Finished; state = x }
unfolding look_on
look_other g named a b x t = go (eqb v 0)
  where
    v : ℕ
    v = verdict_number (look_verdict g named t)

    ended : Bool → State → Outcome
    ended c old =
        pick c (record { answer = Finished; state = state_held g.zones (shown_state g (present_in g (is_set named) (device_of g t)) (lost_drive_in g (is_set named) (device_of g t)) (device_of g t)) })
        (record { answer = refused_at (bad_place_on g named t) v; state = old })

    go : (c : Bool) → ended c a ≡ record { answer = Finished; state = x } → ended c b ≡ record { answer = Finished; state = x }
    go true e = e
    go false e = absurd (not_finished (bad_place_on g named t) v (sym (ap (λ (o : Outcome). o.answer) e)))

module _ (g : Geometry) (mask : ℕ) (m : LentBytes) (st : List ℕ) (n : input_number g st (length m.written) (length m.durable) ≡ 0) where
  abbrev r : Ranges
  r = ranges_of m st

  abbrev t : Tables
  t = tables_in g (ranges_of m st)

  abbrev s : State
  s = state_in g (ranges_of m st)

  abbrev named : List Bool
  named = named_of mask

  abbrev sized : Sized g (length st) (length m.written) (length m.durable)
  sized = input_passed g st (length m.written) (length m.durable) n

  pub look_is : (x : State) → look_on g named s t ≡ record { answer = Finished; state = x } → bytes_result (without_place (look_edge g mask (ranges_of m st))) ≡ record { answer = Finished; memory = m; state = state_to g x }
  unfolding state_after
  look_is x e =
      let o : look_of_bytes g mask r ≡ record { answer = Finished; state = x } = look_other g named s unread_state x t e in
      let u : handed_back g (look_of_bytes g mask r) r ≡ without_place (look_edge g mask r) =
      made _ (handed_back g (look_of_bytes g mask r) r) r (sizes_pass g (length st) (length m.written) (length m.durable) sized) ∙ sym (look_alone g mask r)
      in
      ap bytes_result (sym u) ∙ ap (λ (q : Outcome). bytes_result (handed_back g q r)) o

  -- ---- read
  read_known : (a k : ℕ) (out : List ℕ) → read_bytes (read_answer (read_on g named s a k out t)) ≡ read_on g named s a k out t
  unfolding read_answer read_on
  read_known a k out = ap₂ (λ x b. let q : ReadResult = record { answer = x; buffer = b } in q) (go (eqb (read_number g named s a k (length out) t) 0) refl) refl
    where
      v : ℕ
      v = read_number g named s a k (length out) t

      go : (c : Bool) → eqb v 0 ≡ c → answer_of (answer_number (pick c Finished (Refused v))) ≡ pick c Finished (Refused v)
      go true e = refl
      go false e = refused_known v (read_small g named t s a k (length out)) e

  pub read_is : (a k : ℕ) (out : List ℕ) → read_bytes (read_edge g mask a k (ranges_of m st) out) ≡ read_on g named s a k out t
  read_is a k out = ap read_bytes (sym (made _ (read_answer (read_on g named s a k out t)) out n)) ∙ read_known a k out

  -- ---- peek: its place fits eight bytes
  offset_small : (a : ℕ) → zone_of g a < g.zones → offset_at g a < 256 ^ 8
  offset_small a h =
      let ok = sized.valid in
      let z = zone_of g a in
      let d = drive_of g.drives g.unit z (offset_of g a) in
      let x = sector_of g.drives g.unit (offset_of g a) in
      let hd : d < g.drives = drive_below g.drives g.unit z (omega (arith, ok.drives_least)) ok.unit_least (offset_of g a) in
      let hx : x < g.capacity = sector_within g (offset_of g a) ok (mod-lt a (zone_small g ok).0) in
      omega (arith, (small_place g d (data_zone z) x ok hd (omega (arith, h)) (omega (arith, hx))).byte)

  pub peek_is : (a : ℕ) → peeked_bytes g (peek_edge g mask a (ranges_of m st) no_place) m ≡ record { number = peek_number g named s a t; from = peek_from g named s a t; part = peek_on g named s a t }
  peek_is a = ap (λ (e : Answered (List ℕ)). peeked_bytes g e m) (sym (place_right no_place (place_answer g a v no_place) refl ∙ made _ (place_sized no_place (place_answer g a v no_place)) no_place n)) ∙ go (ℕ_discrete v 0)
    where
      v : ℕ
      v = peek_number g named s a t

      part : ℕ → List ℕ
      part k = take g.sector (drop k m.sectors)

      go : Dec (v ≡ 0) → peeked_bytes g (place_answer g a v no_place) m ≡ record { number = v; from = peek_from g named s a t; part = peek_on g named s a t }
      go (yes e) =
          let hz = (peek_accepted g named s a m.sectors t.written t.durable e).zone_in_lem in
          let at : number_le (bytes_le 8 (offset_at g a)) ≡ offset_at g a = number_bytes_le 8 (offset_at g a) (offset_small a hz) in
          let (p, q) = peek_done g named s a t e in
          ap (λ (x : Answered (List ℕ)). peeked_bytes g x m) (sym (place_made g a v no_place e)) ∙ (λ i. record { number = sym e i; from = (at ∙ q) i; part = (ap part at ∙ p) i })
      go (no e) =
          let (p, q) = peek_refused g named s a t e in
          ap (λ (x : Answered (List ℕ)). peeked_bytes g x m) (sym (place_refused g a v no_place e)) ∙ (λ i. record { number = v; from = q i; part = (none ∙ p) i })
        where
          none : pick (eqb v 0) (part (number_le no_place)) [] ≡ []
          none = rw (ne_eqb v 0 e) refl

-- ---- report: where nothing is refused, it tells the conditions that are shown
pub report_is : (g : Geometry) (st list : List ℕ) → report_input g st ≡ 0 → (k : Shown) → ((z : ℕ) → z < g.zones → (record_at (state_from g st) z).condition ≡ (k.zone z).condition)
    → reported_bytes (report_edge g st list) ≡ shown_bytes g k list
report_is g st list h k same =
    let state = view_state (state_from g st) in
    let e = report_finished g state (report_passed g st h).may (lent_for list) ∙ report_same g state.condition (λ z. (k.zone z).condition) (lent_for list) same in
    ap reported_bytes (sym (made (report_input g st) (report_bytes (report_of_bytes g st list) list) list h) ∙ ap (λ (r : ReportResult (List ZoneDescriptor)). report_bytes r list) e)
