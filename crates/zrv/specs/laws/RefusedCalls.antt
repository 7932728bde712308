-- Refused, every range is as it was: one law for each function of the C edge. Tables that a function might have changed are written again, as the same
-- bytes; so what those ranges held has to be bytes, as it is in C.
use Rattle.std.specs.Prelude.{◌≡◌, ◌≢◌, Bool, true, false, List, length, ltb, eqb}
use Rattle.std.proofs.Math.Path.{refl, sym, ap}
use Rattle.std.proofs.Common.{subst, ◌∙◌, ne_eqb}
use Prim.Native.Nat.{ℕ, ◌*◌, ◌%◌}
use Rattle.std.proofs.Math.Decide.{ℕ_discrete}
use Rattle.tables.specs.declared.Geometry.{Geometry}
use Rattle.tables.specs.meaning.Basics.{pick}
use Rattle.tables.specs.meaning.Geometry.{cells}
use Rattle.tables.specs.meaning.Tables.{Tables, run_stores}
use Rattle.volume.specs.declared.Answer.TheVariants.{Finished, Unfinished, Refused}
use Rattle.volume.specs.declared.Outcome.{Outcome}
use Rattle.volume.specs.meaning.State.{call_present}
use Rattle.volume.specs.meaning.Refusals.{WriteAsked, zone_of, offset_of}
use Rattle.volume.specs.meaning.CallContracts.{record_at, view_state, is_set, answer_number, seen_in, Result, read_number, values_on, read_on, peek_number}
use Rattle.volume.specs.laws.ByteLists.{Bytes}
use Rattle.zrv.specs.meaning.EdgeCalls.{named_of, input_number, sizes_number, Ranges, tables_in, state_in, unread_state, Answered, answered, unless_refused, writing_state, handed_back, stored_all, stored_flushes, format_of_bytes, format_edge}
use Rattle.zrv.specs.meaning.EdgeCalls.{look_of_bytes, look_edge, mount_of_bytes, mount_edge, write_of_bytes, write_edge, flush_of_bytes, flush_edge, reset_of_bytes, reset_edge, compact_of_bytes, compact_edge, read_answer, read_edge, place_answer, place_sized, peek_edge}
use Rattle.zrv.specs.laws.EdgeCalls.{Sized, input_passed, sizes_passed, refused, made, state_kept, look_alone, mount_alone}
use Rattle.zrv.specs.laws.RoundTrips.{bytes_table_bytes}
use Rattle.zrv.specs.laws.CallsLeave.{Stored, format_stored, mount_stored, flush_stored, reset_stored, write_stored, compact_stored}

-- neither finished nor unfinished
abbrev pub IsRefusal : ℕ → Type 0
IsRefusal n = (n ≢ 0) × (n ≢ 255)

-- ---- a call on tables that is refused leaves them
stored_refused : (g : Geometry) (t : Tables) (r : Result) → Stored g t r → IsRefusal (answer_number r.outcome.answer) → r.tables ≡ t
stored_refused g t r q h = ap (λ (u : Result). u.tables) q.is ∙ go (eqb q.number 0) (ltb q.count (length q.stores)) (rw q.is at h)
  where
    ended : Bool → Bool → Outcome
    ended b c = pick b (pick c (record { answer = Unfinished; state = q.old }) (record { answer = Finished; state = q.new })) (record { answer = q.told q.number; state = q.old })

    go : (b c : Bool) → IsRefusal (answer_number (ended b c).answer) → pick b (run_stores g q.count q.stores t) t ≡ t
    go true true k = absurd (k.1 refl)
    go true false k = absurd (k.0 refl)
    go false c k = refl

-- ---- the three forms of EdgeCalls
module _ (g : Geometry) (m : Ranges) (r : Result) (q : r.tables ≡ tables_in g m) (n : answer_number r.outcome.answer ≢ 0) where
  refused_all : Bytes m.written → Bytes m.durable → length m.written ≡ cells g * 4 → length m.durable ≡ cells g * 4 → stored_all g r m ≡ answered (answer_number r.outcome.answer) m
  unfolding stored_all
  refused_all a b c d = rw (q, bytes_table_bytes (cells g) m.written a c, bytes_table_bytes (cells g) m.durable b d, sym (state_kept g r.outcome m.state n)) refl

  refused_flushes : Bytes m.durable → length m.durable ≡ cells g * 4 → stored_flushes g r m ≡ answered (answer_number r.outcome.answer) m
  unfolding stored_flushes
  refused_flushes b d = rw (q, bytes_table_bytes (cells g) m.durable b d, sym (state_kept g r.outcome m.state n)) refl

refused_shown : (g : Geometry) (m : Ranges) (o : Outcome) → answer_number o.answer ≢ 0 → handed_back g o m ≡ answered (answer_number o.answer) m
refused_shown g m o n = rw (sym (state_kept g o m.state n)) refl

-- ---- refused before the call, or by it
-- n: what is refused before it
unless_kept : {A : Type 0} (n : ℕ) (r : Answered A) (a : A) → (n ≡ 0 → r.code ≢ 0 → r.code ≢ 255 → r.left ≡ a) → IsRefusal (unless_refused n r a).code → (unless_refused n r a).left ≡ a
unless_kept {A} n r a kept h = go (ℕ_discrete n 0)
  where
    go : Dec (n ≡ 0) → (unless_refused n r a).left ≡ a
    go (no e) = ap (λ (x : Answered A). x.left) (sym (refused n r a e))
    go (yes e) =
        let u : unless_refused n r a ≡ r = sym (made n r a e) in
        let (p, q) : IsRefusal r.code = rw u at h in
        ap (λ (x : Answered A). x.left) u ∙ kept e p q

-- ---- each function
module _ (g : Geometry) (mask : ℕ) (m : Ranges) where
  abbrev w : ℕ
  w = length m.written

  abbrev d : ℕ
  d = length m.durable

  abbrev t : Tables
  t = tables_in g m

  module _ (a : Bytes m.written) (b : Bytes m.durable) where
    all_kept_lem : (r : Result) → Stored g t r → Sized g (length m.state) w d → ((stored_all g r m).code ≢ 0) → ((stored_all g r m).code ≢ 255) → (stored_all g r m).left ≡ m
    unfolding stored_all
    all_kept_lem r q s p u = ap (λ (x : Answered Ranges). x.left) (refused_all g m r (stored_refused g t r q (p, u)) p a b s.written_long s.durable_long)

    pub format_refused : (array count : ℕ) → IsRefusal (format_edge g mask array count m).code → (format_edge g mask array count m).left ≡ m
    format_refused array count =
        let r = format_of_bytes g mask array count m in
        unless_kept (sizes_number g (length m.state) w d) (stored_all g r m) m (λ n. all_kept_lem r (format_stored g t (named_of mask) count array unread_state) (sizes_passed g (length m.state) w d n))

    -- (by the low 32 bits of what it returns)
    pub mount_refused : (count : ℕ) → IsRefusal ((mount_edge g mask count m).code % 4294967296) → (mount_edge g mask count m).left ≡ m
    mount_refused count = subst (λ (e : Answered Ranges). IsRefusal e.code → e.left ≡ m) (sym (mount_alone g mask m count)) (plain count)
      where
        plain : (count : ℕ) → let e = writing_state g m (stored_all g (mount_of_bytes g mask count m) m) in IsRefusal e.code → e.left ≡ m
        plain count =
            let r = mount_of_bytes g mask count m in
            unless_kept (sizes_number g (length m.state) w d) (stored_all g r m) m (λ n. all_kept_lem r (mount_stored g t (named_of mask) count unread_state) (sizes_passed g (length m.state) w d n))

    pub reset_refused : (z count : ℕ) → IsRefusal (reset_edge g mask z count m).code → (reset_edge g mask z count m).left ≡ m
    reset_refused z count =
        let r = reset_of_bytes g mask z count m in
        unless_kept (input_number g m.state w d) (stored_all g r m) m (λ n. all_kept_lem r (reset_stored g t (named_of mask) count (state_in g m) z) (input_passed g m.state w d n))

    pub write_refused : (asked : WriteAsked) (count : ℕ) → IsRefusal (write_edge g mask asked count m).code → (write_edge g mask asked count m).left ≡ m
    write_refused asked count =
        let r = write_of_bytes g mask asked count m in
        unless_kept (input_number g m.state w d) (stored_all g r m) m (λ n. all_kept_lem r (write_stored g t (named_of mask) count (state_in g m) asked) (input_passed g m.state w d n))

    pub compact_refused : (drive count : ℕ) → IsRefusal (compact_edge g mask drive count m).code → (compact_edge g mask drive count m).left ≡ m
    compact_refused drive count =
        let r = compact_of_bytes g mask drive count m in
        unless_kept (input_number g m.state w d) (stored_all g r m) m (λ n. all_kept_lem r (compact_stored g t (named_of mask) count (state_in g m) drive) (input_passed g m.state w d n))

  pub flush_refused : Bytes m.durable → (count : ℕ) → IsRefusal (flush_edge g mask count m).code → (flush_edge g mask count m).left ≡ m
  flush_refused b count =
      let r = flush_of_bytes g mask count m in
      unless_kept (input_number g m.state w d) (stored_flushes g r m) m (λ n. kept r (flush_stored g t (named_of mask) count (state_in g m)) (input_passed g m.state w d n))
    where
      kept : (r : Result) → Stored g t r → Sized g (length m.state) w d → (stored_flushes g r m).code ≢ 0 → (stored_flushes g r m).code ≢ 255 → (stored_flushes g r m).left ≡ m
      kept r q s p u = unfold stored_flushes in ap (λ (x : Answered Ranges). x.left) (refused_flushes g m r (stored_refused g t r q (p, u)) p b s.durable_long)

  pub look_refused : IsRefusal ((look_edge g mask m).code % 4294967296) → (look_edge g mask m).left ≡ m
  look_refused =
      subst (λ (e : Answered Ranges). IsRefusal e.code → e.left ≡ m) (sym (look_alone g mask m))
      (unless_kept (sizes_number g (length m.state) w d) (handed_back g (look_of_bytes g mask m) m) m (λ n p u. ap (λ (x : Answered Ranges). x.left) (refused_shown g m (look_of_bytes g mask m) p)))

  pub read_refused : (at k : ℕ) (out : List ℕ) → IsRefusal (read_edge g mask at k m out).code → (read_edge g mask at k m out).left ≡ out
  unfolding read_answer read_on
  read_refused at k out = unless_kept (input_number g m.state w d) (read_answer (read_on g (named_of mask) (state_in g m) at k out t)) out (λ n p u. go value (eqb v 0) p)
    where
      v : ℕ
      v = read_number g (named_of mask) (state_in g m) at k (length out) t

      value : List ℕ
      value = values_on g (call_present g (is_set (named_of mask)) (view_state (state_in g m))) (seen_in g t) (zone_of g at) (record_at (state_in g m) (zone_of g at)).generation (offset_of g at) k

      go : (value : List ℕ) (c : Bool) → answer_number (pick c Finished (Refused v)) ≢ 0 → pick c value out ≡ out
      go value true p = absurd (p refl)
      go value false p = refl

  pub peek_refused : (at : ℕ) (place : List ℕ) → IsRefusal (peek_edge g mask at m place).code → (peek_edge g mask at m place).left ≡ place
  unfolding place_sized place_answer
  peek_refused at place =
      let v = peek_number g (named_of mask) (state_in g m) at t in
      unless_kept (input_number g m.state w d) (place_sized place (place_answer g at v place)) place (λ n p u. go (eqb (length place) 8) (ℕ_discrete v 0) p)
    where
      n : ℕ
      n = peek_number g (named_of mask) (state_in g m) at t

      go : (c : Bool) → Dec (n ≡ 0) → (pick c (place_answer g at n place) (answered 2 place)).code ≢ 0 → (pick c (place_answer g at n place) (answered 2 place)).left ≡ place
      go false e p = refl
      go true (yes e) p = absurd (p e)
      go true (no e) p = rw (ne_eqb n 0 e) refl
