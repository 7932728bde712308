-- Each storing function on bytes is that call on the tables which the bytes hold: its answer, the tables and the state that it leaves, all read back.
use Rattle.std.specs.Prelude.{◌≡◌, ◌≢◌, Bool, true, false, ℕ, ◌<◌, List, length, ltb, eqb}
use Rattle.std.proofs.Math.Path.{refl, subst}
use Rattle.std.proofs.Common.{sym, ap, ◌∙◌, arith, ne_eqb}
use Rattle.std.proofs.Math.Decide.{ℕ_discrete}
use Rattle.std.proofs.lemmas.Bool.{eqb-false}
use Rattle.tables.specs.declared.Geometry.{Geometry}
use Rattle.tables.specs.meaning.Basics.{pick}
use Rattle.tables.specs.meaning.Device.{Store}
use Rattle.tables.specs.meaning.Tables.{Tables, device_of, run_stores}
use Rattle.volume.specs.declared.State.{State}
use Rattle.volume.specs.declared.Outcome.{Outcome}
use Rattle.volume.specs.declared.Answer.{Answer}
use Rattle.volume.specs.declared.Answer.TheVariants.{Finished, Unfinished, Refused}
use Rattle.volume.specs.meaning.Answers.{CallResult}
use Rattle.volume.specs.meaning.Refusals.{WriteAsked, format_rows, write_rows, flush_rows, reset_rows, compact_rows, read_rows}
use Rattle.volume.specs.meaning.CallContracts.{view_state, is_set, answer_number, verdict_number, lengths_of, bad_in, roles_of, seen_in, Result, storing_on, flush_verdict, flush_on, reset_verdict, reset_on, write_verdict, write_on, compact_verdict, compact_on, format_verdict, format_on, mount_verdict, bad_place_on, read_number}
use Rattle.volume.specs.laws.AnswerNumbers.{verdict_small, mount_small, mount_told, refused_numbered}
use Rattle.volume.specs.laws.BadPlaces.{refused_plain}
use Rattle.volume.specs.laws.ByteLists.{Bytes}
use Rattle.promise.specs.meaning.Claim.{mounts, writes, flushes, resets, formats, compacts}
use Rattle.promise.specs.meaning.OnTables.{result_on, call_result}
use Rattle.zrv.specs.meaning.Bytes.{state_from}
use Rattle.zrv.specs.meaning.EdgeCalls.{named_of, input_number, sizes_number, Ranges, tables_in, state_in, unread_state, Answered, format_of_bytes, mount_of_bytes, write_of_bytes, flush_of_bytes, reset_of_bytes, compact_of_bytes}
use Rattle.zrv.specs.laws.EdgeCalls.{state_kept}
use Rattle.zrv.specs.laws.StateRoundTrip.{HandedOn, flush_hands_on, reset_hands_on, write_hands_on, compact_hands_on, mount_hands_on, format_hands_on}
use Rattle.zrv.specs.laws.CallsLeave.{storing_told, Stored, Leaves, format_stored, mount_stored, write_stored, flush_stored, reset_stored, compact_stored, format_leaves, mount_leaves, write_leaves, flush_leaves, reset_leaves, compact_leaves}
use Rattle.zrv_promise.specs.meaning.OnBytes.{LentBytes, tables_at, answer_of, edge_of, bytes_result}

-- ---- a refusal's number is below 20
module _ (g : Geometry) (named : List Bool) (t : Tables) where
  pub format_small : verdict_number (format_verdict g named t) < 20
  unfolding format_verdict format_rows
  format_small = verdict_small (format_rows g (lengths_of t) (bad_in g named t) (is_set named) (device_of g t)) refl

  module _ (s : State) where
    flush_small : verdict_number (flush_verdict g named s t) < 20
    unfolding flush_verdict flush_rows
    flush_small = verdict_small (flush_rows g (lengths_of t) (bad_in g named t) (is_set named) (view_state s) (device_of g t)) refl

    reset_small : (z : ℕ) → verdict_number (reset_verdict g named s z t) < 20
    unfolding reset_verdict reset_rows
    reset_small z = verdict_small (reset_rows g (lengths_of t) (bad_in g named t) (is_set named) (view_state s) z (roles_of g t) (seen_in g t)) refl

    write_small : (a : WriteAsked) → verdict_number (write_verdict g named s a t) < 20
    unfolding write_verdict write_rows
    write_small a = verdict_small (write_rows g (lengths_of t) (bad_in g named t) (is_set named) (view_state s) a (roles_of g t) (seen_in g t)) refl

    compact_small : (d : ℕ) → verdict_number (compact_verdict g named s d t) < 20
    unfolding compact_verdict compact_rows
    compact_small d = verdict_small (compact_rows g (lengths_of t) (bad_in g named t) (is_set named) (view_state s) d (roles_of g t) (seen_in g t)) refl

    pub read_small : (a k bytes : ℕ) → read_number g named s a k bytes t < 20
    unfolding read_number read_rows
    read_small a k bytes = verdict_small (read_rows g (lengths_of t) (bad_in g named t) (is_set named) (view_state s) a k bytes (seen_in g t)) refl

-- so its number tells an answer
pub refused_known : (n : ℕ) → n < 20 → eqb n 0 ≡ false → answer_of n ≡ Refused n
refused_known n h e = rw (e, ne_eqb n 255 (λ k. omega (arith, k, h))) refl

-- (plain: it is answered by its number)
pub storing_known : (g : Geometry) (t : Tables) (r : Result) (q : Stored g t r) → q.number < 20 → q.told q.number ≡ Refused q.number → answer_of (answer_number r.outcome.answer) ≡ r.outcome.answer
storing_known g t r q h plain = ap (λ (u : Result). answer_of (answer_number u.outcome.answer)) q.is ∙ go (eqb q.number 0) (ltb q.count (length q.stores)) refl ∙ ap (λ (u : Result). u.outcome.answer) (sym q.is)
  where
    ended : Bool → Bool → Outcome
    ended b c = pick b (pick c (record { answer = Unfinished; state = q.old }) (record { answer = Finished; state = q.new })) (record { answer = q.told q.number; state = q.old })

    go : (b c : Bool) → eqb q.number 0 ≡ b → answer_of (answer_number (ended b c).answer) ≡ (ended b c).answer
    go true true e = refl
    go true false e = refl
    go false c e = ap (λ (a : Answer). answer_of (answer_number a)) plain ∙ refused_known q.number h e ∙ sym plain

-- ---- a call that is handed another old state does the same, and hands back that state if it is not finished
pub record Alike (r u : Result) (old : State) : Type 0 where
  pub answer_same : r.outcome.answer ≡ u.outcome.answer
  pub tables_same : r.tables ≡ u.tables
  pub new_same : answer_number r.outcome.answer ≡ 0 → r.outcome.state ≡ u.outcome.state
  pub old_kept : answer_number r.outcome.answer ≢ 0 → u.outcome.state ≡ old

told_alike : (told : ℕ → Answer) (g : Geometry) (n : ℕ) (ss : List Store) (new a b : State) (count : ℕ) (t : Tables) → (n ≢ 0 → answer_number (told n) ≢ 0)
    → Alike (storing_told told g n ss new a count t) (storing_told told g n ss new b count t) b
told_alike told g n ss new a b count t numbered = go (eqb n 0) (ltb count (length ss)) refl
  where
    ended : Bool → Bool → State → Result
    ended c d old = record {
      outcome = pick c (pick d (record { answer = Unfinished; state = old }) (record { answer = Finished; state = new })) (record { answer = told n; state = old });
      tables = pick c (run_stores g count ss t) t;
    }

    go : (c d : Bool) → eqb n 0 ≡ c → Alike (ended c d a) (ended c d b) b
    go true true e = record { answer_same = refl; tables_same = refl; new_same = λ h. absurd (omega arith); old_kept = λ h. refl }
    go true false e = record { answer_same = refl; tables_same = refl; new_same = λ h. refl; old_kept = λ h. absurd (h refl) }
    go false d e = record { answer_same = refl; tables_same = refl; new_same = λ h. absurd (numbered (eqb-false n 0 e) h); old_kept = λ h. refl }

storing_alike : (g : Geometry) (n : ℕ) (ss : List Store) (new a b : State) (count : ℕ) (t : Tables) → Alike (storing_on g n ss new a count t) (storing_on g n ss new b count t) b
storing_alike g n ss new a b count t = told_alike Refused g n ss new a b count t (λ h. h)

-- ==== a function e on the ranges m, its call r on the tables that they hold, and u, the same call handed the host's state
pub record OnTheTables (g : Geometry) (m : Ranges) (e : Answered Ranges) (r u : Result) : Type 0 where
  pub leaves : Leaves g m e r
  pub hands_on : HandedOn g m e r.outcome.state
  pub known : answer_of (answer_number r.outcome.answer) ≡ r.outcome.answer
  pub alike : Alike r u (state_in g m)

-- what bytes hold of a result
abbrev pub view_bytes : Geometry → CallResult LentBytes (List ℕ) → CallResult Tables State
view_bytes g r = record { answer = r.answer; memory = tables_at g r.memory; state = state_from g r.state }

module _ (g : Geometry) (m : Ranges) (e : Answered Ranges) (r u : Result) (q : OnTheTables g m e r u) where
  -- the state's bytes stay, unless it is finished
  bytes_kept : e.code ≢ 0 → e.left.state ≡ m.state
  bytes_kept h = q.leaves.state_is ∙ sym (state_kept g r.outcome m.state (λ k. h (q.leaves.code_is ∙ k)))

  pub views : view_bytes g (bytes_result e) ≡ call_result u
  views = λ i. record { answer = answer i; memory = tables i; state = state (ℕ_discrete e.code 0) i }
    where
      answer : answer_of e.code ≡ u.outcome.answer
      answer = ap answer_of q.leaves.code_is ∙ q.known ∙ q.alike.answer_same

      tables : tables_in g e.left ≡ u.tables
      tables = q.leaves.tables_are ∙ q.alike.tables_same

      state : Dec (e.code ≡ 0) → state_from g e.left.state ≡ u.outcome.state
      state (yes h) = (q.hands_on h).reads_back ∙ q.alike.new_same (sym q.leaves.code_is ∙ h)
      state (no h) = ap (state_from g) (bytes_kept h) ∙ sym (q.alike.old_kept (λ k. h (q.leaves.code_is ∙ k)))

  -- the next call takes what it leaves
  pub takes : input_number g m.state (length m.written) (length m.durable) ≡ 0 → input_number g e.left.state (length e.left.written) (length e.left.durable) ≡ 0
  takes n = rw (q.leaves.written_long, q.leaves.durable_long) (go (ℕ_discrete e.code 0))
    where
      go : Dec (e.code ≡ 0) → input_number g e.left.state (length m.written) (length m.durable) ≡ 0
      go (yes h) = (q.hands_on h).taken
      go (no h) = rw (bytes_kept h) n

-- ---- each of the six
module _ (g : Geometry) (mask : ℕ) (m : Ranges) (a : Bytes m.written) (b : Bytes m.durable) where
  abbrev t : Tables
  t = tables_in g m

  abbrev s : State
  s = state_in g m

  abbrev named : List Bool
  named = named_of mask

  module _ (n : sizes_number g (length m.state) (length m.written) (length m.durable) ≡ 0) where
    pub format_on_lem : (array count : ℕ) → OnTheTables g m (edge_of g (formats array) mask count m) (format_of_bytes g mask array count m) (result_on g (formats array) named s count t)
    unfolding format_stored format_on
    format_on_lem array count =
        let q = format_stored g t named count array unread_state in
        record {
          leaves = format_leaves g mask m a b n array count;
          hands_on = format_hands_on g mask m array count;
          known = storing_known g t (format_of_bytes g mask array count m) q (format_small g named t) refl;
          alike = storing_alike g q.number q.stores q.new unread_state s count t;
        }

    -- (a mount that is not refused for a log)
    pub mount_on_lem : (count : ℕ) → verdict_number (mount_verdict g named t) ≢ 6 → OnTheTables g m (edge_of g mounts mask count m) (mount_of_bytes g mask count m) (result_on g mounts named s count t)
    unfolding mount_stored
    mount_on_lem count good =
        let q = mount_stored g t named count unread_state in
        let p = bad_place_on g named t in
        record {
          leaves = mount_leaves g mask m a b n count;
          hands_on = mount_hands_on g mask m count;
          known = storing_known g t (mount_of_bytes g mask count m) q (mount_small g named t) (sym (refused_plain p q.number good));
          alike =
              subst (λ (r : Result). Alike r (result_on g mounts named s count t) s) (sym q.is)
              (subst (λ (u : Result). Alike (storing_told q.told g q.number q.stores q.new unread_state count t) u s) (sym (mount_stored g t named count s).is)
              (told_alike q.told g q.number q.stores q.new unread_state s count t (refused_numbered p q.number (mount_told g named t))));
        }

  module _ (n : input_number g m.state (length m.written) (length m.durable) ≡ 0) where
    pub write_on_lem : (w : WriteAsked) (count : ℕ) → OnTheTables g m (edge_of g (writes w) mask count m) (write_of_bytes g mask w count m) (result_on g (writes w) named s count t)
    unfolding write_stored write_on
    write_on_lem w count =
        let q = write_stored g t named count s w in
        record {
          leaves = write_leaves g mask m a b n w count;
          hands_on = write_hands_on g mask m w count;
          known = storing_known g t (write_of_bytes g mask w count m) q (write_small g named t s w) refl;
          alike = storing_alike g q.number q.stores q.new s s count t;
        }

    pub compact_on_lem : (d count : ℕ) → OnTheTables g m (edge_of g (compacts d) mask count m) (compact_of_bytes g mask d count m) (result_on g (compacts d) named s count t)
    unfolding compact_stored compact_on
    compact_on_lem d count =
        let q = compact_stored g t named count s d in
        record {
          leaves = compact_leaves g mask m a b n d count;
          hands_on = compact_hands_on g mask m d count;
          known = storing_known g t (compact_of_bytes g mask d count m) q (compact_small g named t s d) refl;
          alike = storing_alike g q.number q.stores q.new s s count t;
        }

    pub flush_on_lem : (count : ℕ) → OnTheTables g m (edge_of g flushes mask count m) (flush_of_bytes g mask count m) (result_on g flushes named s count t)
    unfolding flush_stored flush_on
    flush_on_lem count =
        let q = flush_stored g t named count s in
        record {
          leaves = flush_leaves g mask m a b n count;
          hands_on = flush_hands_on g mask m count;
          known = storing_known g t (flush_of_bytes g mask count m) q (flush_small g named t s) refl;
          alike = storing_alike g q.number q.stores q.new s s count t;
        }

    pub reset_on_lem : (z count : ℕ) → OnTheTables g m (edge_of g (resets z) mask count m) (reset_of_bytes g mask z count m) (result_on g (resets z) named s count t)
    unfolding reset_stored reset_on
    reset_on_lem z count =
        let q = reset_stored g t named count s z in
        record {
          leaves = reset_leaves g mask m a b n z count;
          hands_on = reset_hands_on g mask m z count;
          known = storing_known g t (reset_of_bytes g mask z count m) q (reset_small g named t s z) refl;
          alike = storing_alike g q.number q.stores q.new s s count t;
        }
