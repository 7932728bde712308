-- What each storing function of the C edge leaves, where its input is not refused: bytes that hold the tables which the call on tables leaves, its answer's
-- number, the state's bytes; lengths stay.
use Rattle.std.specs.Prelude.{◌≡◌, Bool, true, false, ℕ, zero, suc, ◌+◌, ◌*◌, length, ltb, eqb}
use Rattle.std.proofs.Math.Path.{refl, ap₂}
use Rattle.std.proofs.Common.{sym, ap, ◌∙◌, subst}
use mathlib.Core.List.{List, [], ◌∷◌, ◌++◌}
use Rattle.tables.specs.declared.Geometry.{Geometry}
use Rattle.tables.specs.meaning.Basics.{pick}
use Rattle.tables.specs.meaning.Geometry.{Valid, cells, max_zones}
use Rattle.tables.specs.meaning.Device.{Store, append, reset, flush}
use Rattle.tables.specs.meaning.Phases.{on_present, flush_all}
use Rattle.tables.specs.meaning.Tables.{Tables, tables_of, device_of, make_store, run_stores}
use Rattle.volume.specs.declared.Answer.{Answer}
use Rattle.volume.specs.declared.Answer.TheVariants.{Finished, Unfinished, Refused}
use Rattle.volume.specs.declared.BadPlace.{BadPlace}
use Rattle.volume.specs.declared.State.{State}
use Rattle.volume.specs.meaning.State.{with_shares, call_present}
use Rattle.volume.specs.meaning.Refusals.{WriteAsked, zone_asked}
use Rattle.volume.specs.meaning.Answers.{lost_in, left_out, named_drives, sectors_in, present_in, lost_drive_in, refused_at}
use Rattle.volume.specs.meaning.Calls.{flush_stores, format_stores, flush_state, format_state, reset_state}
use Rattle.volume.specs.meaning.Hosts.{fresh_shares, written_state, compact_state}
use Rattle.volume.specs.meaning.Emptying.{write_all, reset_all, compact_stores}
use Rattle.volume.specs.meaning.CallContracts.{view_state, is_set, answer_number, verdict_number, roles_of, seen_in, Result, storing_on, flush_verdict, flush_on, reset_verdict, reset_on, write_verdict, write_on, compact_verdict, compact_on, format_verdict, format_on, mount_verdict, mount_stores_on, mount_shown_on, bad_place_on, telling_at, mount_on, state_held}
use Rattle.volume.specs.laws.ByteLists.{Bytes}
use Rattle.zrv.specs.meaning.Bytes.{table_from, table_to}
use Rattle.zrv.specs.meaning.EdgeCalls.{named_of, input_number, sizes_number, state_after, Ranges, tables_in, state_in, unread_state, Answered, stored_all, stored_flushes, unless_refused, format_of_bytes, format_edge, mount_of_bytes, mount_edge, without_place, write_of_bytes, write_edge, flush_of_bytes, flush_edge, reset_of_bytes, reset_edge, compact_of_bytes, compact_edge}
use Rattle.zrv.specs.laws.EdgeCalls.{Sized, input_passed, sizes_passed, made, mount_alone}
use Rattle.zrv.specs.laws.TablesRoundTrip.{InWords, ranges_in_words, words_read_back, run_words, table_bytes, table_bytes_long}

-- ---- a flush only flushes, and flushes leave `sectors` and `written`
abbrev Flushes : List Store → Type 0
Flushes [] = Unit {0}
Flushes (append d z s ∷ xs) = ⊥
Flushes (reset d z ∷ xs) = ⊥
Flushes (flush d ∷ xs) = Flushes xs

flushes_append : (xs ys : List Store) → Flushes xs → Flushes ys → Flushes (xs ++ ys)
flushes_append [] ys p q = q
flushes_append (append d z s ∷ xs) ys p q = p
flushes_append (reset d z ∷ xs) ys p q = p
flushes_append (flush d ∷ xs) ys p q = flushes_append xs ys p q

flushes_present : (present : ℕ → Bool) (xs : List Store) → Flushes xs → Flushes (on_present present xs)
flushes_present present [] p = tt
flushes_present present (append d z s ∷ xs) p = absurd p
flushes_present present (reset d z ∷ xs) p = absurd p
flushes_present present (flush d ∷ xs) p = go (present d) (flushes_present present xs p)
  where
    go : (b : Bool) → Flushes (on_present present xs) → Flushes (pick b (flush d ∷ on_present present xs) (on_present present xs))
    go true q = q
    go false q = q

flushes_all : (n : ℕ) → Flushes (flush_all n)
flushes_all zero = tt
flushes_all (suc n) = flushes_append (flush_all n) (flush n ∷ []) (flushes_all n) tt

flush_flushes : (g : Geometry) (present : ℕ → Bool) → Flushes (flush_stores g present)
unfolding flush_stores
flush_flushes g present = flushes_present present (flush_all g.drives) (flushes_all g.drives)

run_flushes : (g : Geometry) (k : ℕ) (xs : List Store) (t : Tables) → Flushes xs → ((run_stores g k xs t).sectors ≡ t.sectors) × ((run_stores g k xs t).written ≡ t.written)
run_flushes g k [] t p = (refl, refl)
run_flushes g zero (x ∷ xs) t p = (refl, refl)
run_flushes g (suc k) (append d z s ∷ xs) t p = absurd p
run_flushes g (suc k) (reset d z ∷ xs) t p = absurd p
run_flushes g (suc k) (flush d ∷ xs) t p = run_flushes g k xs (make_store g (flush d) t) p

-- ==== a storing call on tables
-- volume's storing_on; told: how a refusal is answered, by its number or, in a mount, by a place
abbrev pub storing_told : (ℕ → Answer) → Geometry → ℕ → List Store → State → State → ℕ → Tables → Result
storing_told told g n ss new old count t = record {
  outcome = pick (eqb n 0) (pick (ltb count (length ss)) (record { answer = Unfinished; state = old }) (record { answer = Finished; state = new })) (record { answer = told n; state = old });
  tables = pick (eqb n 0) (run_stores g count ss t) t;
}

pub storing_told_lem : (b : BadPlace) (g : Geometry) (n : ℕ) (ss : List Store) (new old : State) (count : ℕ) (t : Tables) → telling_at b (storing_on g n ss new old count t) ≡ storing_told (refused_at b) g n ss new old count t
storing_told_lem b g n ss new old count t = go (eqb n 0) (ltb count (length ss))
  where
    ended : Answer → Bool → Bool → Result
    ended a c e = record {
      outcome = pick c (pick e (record { answer = Unfinished; state = old }) (record { answer = Finished; state = new })) (record { answer = a; state = old });
      tables = pick c (run_stores g count ss t) t;
    }

    go : (c e : Bool) → telling_at b (ended (Refused n) c e) ≡ ended (refused_at b n) c e
    go true true = refl
    go true false = refl
    go false e = refl

-- r is what it leaves of t
pub record Stored (g : Geometry) (t : Tables) (r : Result) : Type 0 where
  pub told : ℕ → Answer
  pub number : ℕ
  pub stores : List Store
  pub new : State
  pub old : State
  pub count : ℕ
  pub is : r ≡ storing_told told g number stores new old count t

module _ (g : Geometry) (t : Tables) (named : List Bool) (count : ℕ) where
  unfoldable pub format_stored : (array : ℕ) (old : State) → Stored g t (format_on g named array old count t)
  unfolding format_on
  format_stored array old = record {
    told = Refused;
    number = verdict_number (format_verdict g named t);
    stores = format_stores g (named_drives g (is_set named)) (left_out g (is_set named)) array;
    new = state_held g.zones (with_shares (fresh_shares g (named_drives g (is_set named))) (format_state (left_out g (is_set named))));
    old = old;
    count = count;
    is = refl;
  }

  unfoldable pub mount_stored : (old : State) → Stored g t (mount_on g named old count t)
  unfolding mount_on
  mount_stored old =
      let present = present_in g (is_set named) (device_of g t) in
      let x = lost_drive_in g (is_set named) (device_of g t) in
      let n = verdict_number (mount_verdict g named t) in
      record {
        told = refused_at (bad_place_on g named t);
        number = n;
        stores = mount_stores_on g present x t;
        new = mount_shown_on g present x t;
        old = old;
        count = count;
        is = storing_told_lem (bad_place_on g named t) g n (mount_stores_on g present x t) (mount_shown_on g present x t) old count t;
      }

  module _ (s : State) where
    abbrev here : ℕ → Bool
    here = call_present g (is_set named) (view_state s)

    abbrev lost : ℕ
    lost = lost_in g (is_set named) (view_state s)

    unfoldable pub flush_stored : Stored g t (flush_on g named s count t)
    unfolding flush_on
    flush_stored = record { told = Refused; number = verdict_number (flush_verdict g named s t); stores = flush_stores g here; new = state_held max_zones (flush_state lost (view_state s)); old = s; count = count; is = refl }

    unfoldable pub reset_stored : (z : ℕ) → Stored g t (reset_on g named s z count t)
    unfolding reset_on
    reset_stored z = record { told = Refused; number = verdict_number (reset_verdict g named s z t); stores = reset_all g here (roles_of g t) (seen_in g t) (view_state s) z; new = state_held max_zones (reset_state lost (view_state s) z); old = s; count = count; is = refl }

    unfoldable pub compact_stored : (d : ℕ) → Stored g t (compact_on g named s d count t)
    unfolding compact_on
    compact_stored d = record {
      told = Refused;
      number = verdict_number (compact_verdict g named s d t);
      stores = compact_stores g here (roles_of g t) (seen_in g t) (view_state s) d;
      new = state_held max_zones (compact_state g here lost (seen_in g t) (view_state s) d);
      old = s;
      count = count;
      is = refl;
    }

    unfoldable pub write_stored : (a : WriteAsked) → Stored g t (write_on g named s a count t)
    unfolding write_on
    write_stored a = record {
      told = Refused;
      number = verdict_number (write_verdict g named s a t);
      stores = write_all g here (roles_of g t) (seen_in g t) (view_state s) (zone_asked g a) (sectors_in g a.count a.buffer);
      new = state_held max_zones (written_state g here lost a.host (view_state s) (zone_asked g a) a.count);
      old = s;
      count = count;
      is = refl;
    }

module _ (g : Geometry) (t : Tables) (r : Result) (q : Stored g t r) where
  -- the tables are as they were, or some stores have been made
  by_stores : (P : Tables → Type 0) → P t → P (run_stores g q.count q.stores t) → P r.tables
  by_stores P a b = rw q.is (go (eqb q.number 0))
    where
      go : (c : Bool) → P (pick c (run_stores g q.count q.stores t) t)
      go true = b
      go false = a

  stored_words : Valid g → InWords g t → InWords g r.tables
  stored_words ok w = by_stores (InWords g) w (run_words g ok q.count q.stores t w)

  stored_flushes_lem : Flushes q.stores → (r.tables.sectors ≡ t.sectors) × (r.tables.written ≡ t.written)
  stored_flushes_lem p = by_stores (λ (u : Tables). (u.sectors ≡ t.sectors) × (u.written ≡ t.written)) (refl, refl) (run_flushes g q.count q.stores t p)

-- ==== what is left of the ranges m: e is what the function gives, r the call on the tables that m holds
pub record Leaves (g : Geometry) (m : Ranges) (e : Answered Ranges) (r : Result) : Type 0 where
  pub code_is : e.code ≡ answer_number r.outcome.answer
  pub tables_are : tables_in g e.left ≡ r.tables
  pub state_is : e.left.state ≡ state_after g r.outcome m.state
  pub written_bytes : Bytes e.left.written
  pub durable_bytes : Bytes e.left.durable
  pub written_long : length e.left.written ≡ length m.written
  pub durable_long : length e.left.durable ≡ length m.durable

module _ (g : Geometry) (m : Ranges) (a : Bytes m.written) (b : Bytes m.durable) (s : Sized g (length m.state) (length m.written) (length m.durable)) (r : Result) (w : InWords g r.tables) where
  written_same : length (table_to r.tables.written) ≡ length m.written
  written_same = table_bytes_long r.tables.written ∙ ap (λ (n : ℕ). n * 4) w.written_long ∙ sym s.written_long

  durable_same : length (table_to r.tables.durable) ≡ length m.durable
  durable_same = table_bytes_long r.tables.durable ∙ ap (λ (n : ℕ). n * 4) w.durable_long ∙ sym s.durable_long

  written_back : table_from (cells g) (table_to r.tables.written) ≡ r.tables.written
  written_back = words_read_back g r.tables.written w.written_long w.written_small

  durable_back : table_from (cells g) (table_to r.tables.durable) ≡ r.tables.durable
  durable_back = words_read_back g r.tables.durable w.durable_long w.durable_small

  all_left : Leaves g m (stored_all g r m) r
  unfolding stored_all
  all_left = record {
    code_is = refl;
    tables_are = ap₂ (λ (ws ds : List ℕ). tables_of r.tables.sectors ws ds) written_back durable_back;
    state_is = refl;
    written_bytes = table_bytes r.tables.written;
    durable_bytes = table_bytes r.tables.durable;
    written_long = written_same;
    durable_long = durable_same;
  }

  flushes_left : (r.tables.sectors ≡ m.sectors) × (r.tables.written ≡ (tables_in g m).written) → Leaves g m (stored_flushes g r m) r
  unfolding stored_flushes
  flushes_left (p, e) = record {
    code_is = refl;
    tables_are = (λ i. tables_of (sym p i) (sym e i) (durable_back i));
    state_is = refl;
    written_bytes = a;
    durable_bytes = table_bytes r.tables.durable;
    written_long = refl;
    durable_long = durable_same;
  }

-- ---- each function
module _ (g : Geometry) (mask : ℕ) (m : Ranges) (a : Bytes m.written) (b : Bytes m.durable) where
  module _ (n : sizes_number g (length m.state) (length m.written) (length m.durable) ≡ 0) where
    abbrev sized : Sized g (length m.state) (length m.written) (length m.durable)
    sized = sizes_passed g (length m.state) (length m.written) (length m.durable) n

    leaves_all : (r : Result) → Stored g (tables_in g m) r → Leaves g m (unless_refused (sizes_number g (length m.state) (length m.written) (length m.durable)) (stored_all g r m) m) r
    leaves_all r q =
        let w = stored_words g (tables_in g m) r q sized.valid (ranges_in_words g m a b) in
        subst (λ (e : Answered Ranges). Leaves g m e r) (made (sizes_number g (length m.state) (length m.written) (length m.durable)) (stored_all g r m) m n) (all_left g m a b sized r w)

    pub format_leaves : (array count : ℕ) → Leaves g m (format_edge g mask array count m) (format_of_bytes g mask array count m)
    format_leaves array count = leaves_all (format_of_bytes g mask array count m) (format_stored g (tables_in g m) (named_of mask) count array unread_state)

    -- (with the answer that it returns)
    pub mount_leaves : (count : ℕ) → Leaves g m (without_place (mount_edge g mask count m)) (mount_of_bytes g mask count m)
    mount_leaves count = rw (mount_alone g mask m count) (leaves_all (mount_of_bytes g mask count m) (mount_stored g (tables_in g m) (named_of mask) count unread_state))

  module _ (n : input_number g m.state (length m.written) (length m.durable) ≡ 0) where
    abbrev taken : Sized g (length m.state) (length m.written) (length m.durable)
    taken = input_passed g m.state (length m.written) (length m.durable) n

    leaves : (e : Answered Ranges) (r : Result) → Leaves g m e r → Leaves g m (unless_refused (input_number g m.state (length m.written) (length m.durable)) e m) r
    leaves e r l = subst (λ (x : Answered Ranges). Leaves g m x r) (made (input_number g m.state (length m.written) (length m.durable)) e m n) l

    words : (r : Result) → Stored g (tables_in g m) r → InWords g r.tables
    words r q = stored_words g (tables_in g m) r q taken.valid (ranges_in_words g m a b)

    pub write_leaves : (asked : WriteAsked) (count : ℕ) → Leaves g m (write_edge g mask asked count m) (write_of_bytes g mask asked count m)
    write_leaves asked count =
        let r = write_of_bytes g mask asked count m in
        leaves (stored_all g r m) r (all_left g m a b taken r (words r (write_stored g (tables_in g m) (named_of mask) count (state_in g m) asked)))

    pub compact_leaves : (d count : ℕ) → Leaves g m (compact_edge g mask d count m) (compact_of_bytes g mask d count m)
    compact_leaves d count =
        let r = compact_of_bytes g mask d count m in
        leaves (stored_all g r m) r (all_left g m a b taken r (words r (compact_stored g (tables_in g m) (named_of mask) count (state_in g m) d)))

    pub flush_leaves : (count : ℕ) → Leaves g m (flush_edge g mask count m) (flush_of_bytes g mask count m)
    unfolding flush_stored
    flush_leaves count =
        let t = tables_in g m in
        let s = state_in g m in
        let r = flush_of_bytes g mask count m in
        let q = flush_stored g t (named_of mask) count s in
        leaves (stored_flushes g r m) r (flushes_left g m a b taken r (words r q) (stored_flushes_lem g t r q (flush_flushes g (call_present g (is_set (named_of mask)) (view_state s)))))

    pub reset_leaves : (z count : ℕ) → Leaves g m (reset_edge g mask z count m) (reset_of_bytes g mask z count m)
    reset_leaves z count =
        let r = reset_of_bytes g mask z count m in
        leaves (stored_all g r m) r (all_left g m a b taken r (words r (reset_stored g (tables_in g m) (named_of mask) count (state_in g m) z)))
