-- "A COUNT OF 2^32 − 1 STOPS NO CALL": the stores of an accepted flush, format, reset, write or compact are fewer than that, on any input; so with that count the
-- call is refused or finished. (Mount: MountStoreCounts.)
use Rattle.std.specs.Prelude.{◌≡◌, refl, ◌≢◌, Bool, false, List, [], ◌∷◌, ◌++◌, map, eqb}
use Rattle.std.proofs.Common.{ap, le_refl, le-ltb, eq-eqb, ne_eqb, eqb-true}
use Rattle.std.proofs.Math.Bool.{true}
use Prim.Native.Nat.{ℕ, zero, suc, ◌+◌, ◌-◌, ◌*◌, ◌%◌, ◌^◌, ◌≤◌}
use Rattle.std.proofs.Math.Decide.{ℕ_discrete}
use native.Mathlib.Omega.{arith}
use Rattle.std.proofs.Math.ListN.{length, length-append}
use Rattle.tables.specs.laws.Lists.{length_map}
use Rattle.tables.specs.declared.Geometry.{Geometry}
use Rattle.tables.specs.meaning.Basics.{pick}
use Rattle.tables.specs.meaning.Below.{each_below, tabulate_from}
use Rattle.tables.specs.laws.Below.{length_tabulate_from}
use Rattle.tables.specs.meaning.Lists.{concat}
use Rattle.tables.specs.meaning.Geometry.{physical_zones, data_zone, max_zones}
use Rattle.tables.specs.laws.Sizes.{zone_small}
use Rattle.tables.specs.meaning.Placement.{stripe_of, stripe_length, parity_drive}
use Rattle.tables.specs.meaning.Device.{Store, reset}
use Rattle.tables.specs.meaning.Phases.{on_present, flush_all}
use Rattle.tables.specs.meaning.Through.{carry}
use Rattle.tables.specs.laws.Phases.{each_on_present_lem}
use Rattle.tables.specs.meaning.Tables.{Tables}
use Rattle.tables.specs.laws.AppendCounts.{each_most, present_most, flushes_long}
use Rattle.logs.specs.meaning.Entry.{parity_zone, label, counters, zone_reset}
use Rattle.logs.specs.meaning.Walk.{sectors_of}
use Rattle.volume.specs.declared.State.{State}
use Rattle.volume.specs.declared.Answer.TheVariants.{Finished, Unfinished, Refused}
use Rattle.volume.specs.meaning.State.{call_present, with_shares}
use Rattle.volume.specs.meaning.Content.{row_xor, inside_stripe, entry_at, parity_drive_at}
use Rattle.volume.specs.meaning.Refusals.{accept, WriteAsked, zone_asked}
use Rattle.volume.specs.meaning.Calls.{append_all, append_general, generations_from, parity_stores, sector_stores, data_stores, entry_stores, write_with, zone_content, write_stores, flush_stores, logs_reset, raised_at, reset_phases, reset_stores, format_phases, format_stores, flush_state, format_state, reset_state}
use Rattle.volume.specs.meaning.Hosts.{fresh_shares, written_state, compact_state}
use Rattle.volume.specs.meaning.Answers.{lost_in, sectors_in, named_drives, left_out}
use Rattle.volume.specs.meaning.CallContracts.{view_state, is_set, roles_of, seen_in, record_at, pointer_of, verdict_number, storing_on, flush_verdict, flush_on, reset_verdict, reset_on, write_verdict, write_on, compact_verdict, compact_on, format_verdict, format_on, state_held}
use Rattle.volume.specs.laws.PassedRows.{format_passed, format_number_accepts, flush_passed, flush_number_accepts, reset_passed, reset_number_accepts, write_passed, write_number_accepts, compact_passed, compact_number_accepts}
use Rattle.volume.specs.meaning.Rules.{general_heads, parity_entries}
use Rattle.volume.specs.meaning.Roles.{Roles, zone_of_kind, placed_by, roles_after}
use Rattle.volume.specs.meaning.Emptying.{by_state, new_general, new_parity, reset_limit, emptied_for, emptying_stores, emptyings, empty_general, empty_parity, compact_stores, write_all, reset_all}
use Rattle.volume.specs.laws.CallAppends.{entry_long}
use Rattle.volume.specs.laws.CallStoresFit.{reset_fits, compact_fits}

-- ---- a count that covers the stores stops nothing
pub covered_ends : (g : Geometry) (n : ℕ) (ss : List Store) (new old : State) (count : ℕ) (t : Tables) → (n ≡ 0 → length ss ≤ count) → (storing_on g n ss new old count t).outcome.answer ≢ Unfinished
covered_ends g n ss new old count t h = go (ℕ_discrete n 0)
  where
    go : Dec (n ≡ 0) → (storing_on g n ss new old count t).outcome.answer ≢ Unfinished
    go (yes e) q = absurd (let r : Finished ≡ Unfinished = rw (eq-eqb n 0 e, le-ltb count (length ss) (h e)) at q in let z : ◌≡◌ {A = ℕ} 0 1 = cc in omega arith)
    go (no e) q = absurd (let r : Refused n ≡ Unfinished = rw (ne_eqb n 0 e) at q in let z : ◌≡◌ {A = ℕ} 0 1 = cc in omega arith)

-- ---- lengths of lists of stores
pub appends_long : (d y : ℕ) (ss : List (List ℕ)) → length (append_all d y ss) ≡ length ss
appends_long d y [] = refl
appends_long d y (s ∷ ss) = ap suc (appends_long d y ss)

pub pick_most : (b : Bool) (xs : List Store) (m : ℕ) → length xs ≤ m → length (pick b xs []) ≤ m
pick_most true xs m h = h
pick_most false xs m h = omega arith

-- emptyings: of each drive at most two flushes, a log of 65,536 sectors, and a reset
pub emptyings_few : (g : Geometry) (present : ℕ → Bool) (par : Bool) (r : ℕ → Roles) (emptied : ℕ → Bool) (ss : ℕ → List (List ℕ)) → g.drives ≤ 8 → ((d : ℕ) → emptied d ≡ true → length (ss d) ≤ 65536)
    → length (emptyings g present par r emptied ss) ≤ 524424
unfolding emptyings emptying_stores
emptyings_few g present par r emptied ss most few =
    omega (arith, each_most (λ d. pick (emptied d) (emptying_stores g present d (zone_of_kind par (r d)) (r d).spare (ss d)) []) g.drives 8 65553 most (λ d l. go d (emptied d) refl))
  where
    go : (d : ℕ) (b : Bool) → emptied d ≡ b → length (pick b (emptying_stores g present d (zone_of_kind par (r d)) (r d).spare (ss d)) []) ≤ 65553
    go d false e = omega arith
    go d true e =
        let flushes = on_present present (flush_all g.drives) in
        let copies = append_all d (r d).spare (ss d) in
        let end = reset d (zone_of_kind par (r d)) ∷ [] in
        omega (
          arith,
          few d e,
          most,
          present_most present (flush_all g.drives),
          flushes_long g.drives,
          appends_long d (r d).spare (ss d),
          length-append flushes (copies ++ (flushes ++ end)),
          length-append copies (flushes ++ end),
          length-append flushes end,
        )

-- ==== flush
pub flush_few : (g : Geometry) (named : List Bool) (s : State) (t : Tables) → flush_verdict g named s t ≡ accept → length (flush_stores g (call_present g (is_set named) (view_state s))) ≤ 8
unfolding flush_stores
flush_few g named s t e = omega (arith, present_most (call_present g (is_set named) (view_state s)) (flush_all g.drives), flushes_long g.drives, (flush_passed g named s t e).tables.valid.drives_most)

pub flush_ends : (g : Geometry) (named : List Bool) (s : State) (t : Tables) → (flush_on g named s (2 ^ 32 - 1) t).outcome.answer ≢ Unfinished
unfolding flush_on
flush_ends g named s t =
    covered_ends g (verdict_number (flush_verdict g named s t)) (flush_stores g (call_present g (is_set named) (view_state s))) (state_held max_zones (flush_state (lost_in g (is_set named) (view_state s)) (view_state s))) s (2 ^ 32 - 1) t (λ e. omega (arith, flush_few g named s t (flush_number_accepts g named t s e)))

-- ==== reset
own_reset_few : (g : Geometry) (named : List Bool) (s : State) (z : ℕ) (t : Tables) → reset_verdict g named s z t ≡ accept → length (reset_stores g (call_present g (is_set named) (view_state s)) (view_state s) z) ≤ 48
unfolding reset_stores
own_reset_few g named s z t e =
    let D = g.drives in
    let most = (reset_passed g named s z t e).opening.tables.valid.drives_most in
    let present = call_present g (is_set named) (view_state s) in
    let entries : ℕ → List Store = λ d. pick (logs_reset g z d) (append_general g (zone_reset z ((view_state s).generation z)) d) [] in
    let resets : ℕ → List Store = λ d. reset d (data_zone z) ∷ [] in
    let raised : ℕ → List Store = λ d. append_general g (counters (generations_from (raised_at (view_state s) z) zero g.zones)) d in
    let after = flush_all D ++ (each_below raised D ++ (flush_all D ++ [])) in
    rw (each_on_present_lem present (reset_phases g (view_state s) z)) (
    omega (
      arith,
      present_most present (concat (reset_phases g (view_state s) z)),
      flushes_long D,
      most,
      each_most entries D 8 1 most (λ d l. pick_most (logs_reset g z d) (append_general g (zone_reset z ((view_state s).generation z)) d) 1 (le_refl 1)),
      each_most resets D 8 1 most (λ d l. le_refl 1),
      each_most raised D 8 1 most (λ d l. le_refl 1),
      length-append (each_below entries D) (flush_all D ++ (each_below resets D ++ after)),
      length-append (flush_all D) (each_below resets D ++ after),
      length-append (each_below resets D) after,
      length-append (flush_all D) (each_below raised D ++ (flush_all D ++ [])),
      length-append (each_below raised D) (flush_all D ++ []),
      length-append {A = Store} (flush_all D) [],
    )
    )

pub reset_few : (g : Geometry) (named : List Bool) (s : State) (z : ℕ) (t : Tables) → reset_verdict g named s z t ≡ accept
    → length (reset_all g (call_present g (is_set named) (view_state s)) (roles_of g t) (seen_in g t) (view_state s) z) ≤ 524472
unfolding reset_all empty_general
reset_few g named s z t e =
    let ok = (reset_passed g named s z t e).opening.tables.valid in
    let present = call_present g (is_set named) (view_state s) in
    let emptied = emptied_for g present false (roles_of g t) (seen_in g t) (reset_limit g) in
    let new : ℕ → List (List ℕ) = λ d. new_general g (by_state g present (seen_in g t) (view_state s)) (roles_of g t d) d (general_heads g (seen_in g t) d) in
    let own = reset_stores g present (view_state s) z in
    let ρ = placed_by (roles_after false emptied (roles_of g t)) in
    omega (
      arith,
      emptyings_few g present false (roles_of g t) emptied new ok.drives_most (λ d q. omega (arith, reset_fits g named s z t e d q, ok.zone_most)),
      own_reset_few g named s z t e,
      length_map (carry ρ) own,
      length-append (emptyings g present false (roles_of g t) emptied new) (map (carry ρ) own),
    )

pub reset_ends : (g : Geometry) (named : List Bool) (s : State) (z : ℕ) (t : Tables) → (reset_on g named s z (2 ^ 32 - 1) t).outcome.answer ≢ Unfinished
unfolding reset_on
reset_ends g named s z t =
    covered_ends g (verdict_number (reset_verdict g named s z t)) (reset_all g (call_present g (is_set named) (view_state s)) (roles_of g t) (seen_in g t) (view_state s) z) (state_held max_zones (reset_state (lost_in g (is_set named) (view_state s)) (view_state s) z)) s (2 ^ 32 - 1) t
    (λ e. omega (arith, reset_few g named s z t (reset_number_accepts g named t s z e)))

-- ==== format
pub format_few : (g : Geometry) (named : List Bool) (array : ℕ) (t : Tables) → format_verdict g named t ≡ accept → length (format_stores g (named_drives g (is_set named)) (left_out g (is_set named)) array) ≤ 184
unfolding format_stores
format_few g named array t e =
    let D = g.drives in
    let ok = (format_passed g named t e).valid in
    let present = named_drives g (is_set named) in
    let x = left_out g (is_set named) in
    let resets : ℕ → List Store = λ d. each_below (λ y. reset d y ∷ []) (physical_zones g) in
    let begins : ℕ → List Store = λ d. append_general g (label x array) d ++ append_general g (counters (generations_from (λ z. 1) zero g.zones)) d in
    rw (each_on_present_lem present (format_phases g x array)) (
    omega (
      arith,
      present_most present (concat (format_phases g x array)),
      flushes_long D,
      ok.drives_most,
      each_most resets D 8 19 ok.drives_most (λ d l. omega (arith, each_most (λ y. reset d y ∷ []) (physical_zones g) 19 1 (omega (arith, ok.zones_most)) (λ y h. le_refl 1))),
      each_most begins D 8 2 ok.drives_most (λ d l. le_refl 2),
      length-append (each_below resets D) (flush_all D ++ (each_below begins D ++ (flush_all D ++ []))),
      length-append (flush_all D) (each_below begins D ++ (flush_all D ++ [])),
      length-append (each_below begins D) (flush_all D ++ []),
      length-append {A = Store} (flush_all D) [],
    )
    )

pub format_ends : (g : Geometry) (named : List Bool) (array : ℕ) (old : State) (t : Tables) → (format_on g named array old (2 ^ 32 - 1) t).outcome.answer ≢ Unfinished
unfolding format_on
format_ends g named array old t =
    covered_ends g (verdict_number (format_verdict g named t)) (format_stores g (named_drives g (is_set named)) (left_out g (is_set named)) array) (state_held g.zones (with_shares (fresh_shares g (named_drives g (is_set named))) (format_state (left_out g (is_set named))))) old (2 ^ 32 - 1) t
    (λ e. omega (arith, format_few g named array t (format_number_accepts g named t e)))

-- ==== write: no more than 1 + U for each sector, and the entry
module _ (D U z : ℕ) (S : ℕ → List ℕ) (most : U ≤ 16) where
  parity_few : (s : ℕ) → length (parity_stores D U z S s) ≤ 16
  parity_few s = omega (arith, appends_long (parity_drive D z s) (data_zone z) (tabulate_from (row_xor D U S s) zero U), length_tabulate_from (row_xor D U S s) zero U)

  data_few : (a k : ℕ) → length (data_stores D U z S a k) ≤ k * 17
  data_few a zero = omega arith
  data_few a (suc k) =
      let last = pick_most (eqb (suc (a % stripe_length D U)) (stripe_length D U)) (parity_stores D U z S (stripe_of D U a)) 16 (parity_few (stripe_of D U a)) in
      omega (arith, last, length-append (sector_stores D U z S a) (data_stores D U z S (suc a) k), data_few (suc a) k)

own_write_few : (g : Geometry) (named : List Bool) (s : State) (a : WriteAsked) (t : Tables) → write_verdict g named s a t ≡ accept
    → length (write_stores g (call_present g (is_set named) (view_state s)) (seen_in g t) (view_state s) (zone_asked g a) (sectors_in g a.count a.buffer)) ≤ 7798801
unfolding write_stores write_with
own_write_few g named s a t e =
    let q = write_passed g named s a t e in
    let ok = q.opening.tables.valid in
    let present = call_present g (is_set named) (view_state s) in
    let z = zone_asked g a in
    let k = a.count in
    let ss = sectors_in g k a.buffer in
    let S = zone_content g present (seen_in g t) (view_state s) z ss in
    let n = pointer_of s z in
    let l : length ss ≡ k = (unfold sectors_in in length_tabulate_from _ zero k) in
    let m = n + length ss in
    let p = parity_drive_at g z m in
    let entry = entry_stores g z (record_at s z).generation S m in
    let long : length entry ≤ 17 = omega (arith, appends_long p parity_zone (sectors_of g p true (entry_at g z (record_at s z).generation S m)), entry_long g p z (record_at s z).generation S m, ok.unit_most) in
    let stores = data_stores g.drives g.unit z S n (length ss) in
    omega (
      arith,
      present_most present (stores ++ pick (inside_stripe g m) entry []),
      length-append stores (pick (inside_stripe g m) entry []),
      pick_most (inside_stripe g m) entry 17 long,
      data_few g.drives g.unit z S ok.unit_most n (length ss),
      l,
      q.inside,
      (zone_small g ok).1,
    )

pub write_few : (g : Geometry) (named : List Bool) (s : State) (a : WriteAsked) (t : Tables) → write_verdict g named s a t ≡ accept
    → length (write_all g (call_present g (is_set named) (view_state s)) (roles_of g t) (seen_in g t) (view_state s) (zone_asked g a) (sectors_in g a.count a.buffer)) ≤ 7798801
unfolding write_all
write_few g named s a t e =
    let own = write_stores g (call_present g (is_set named) (view_state s)) (seen_in g t) (view_state s) (zone_asked g a) (sectors_in g a.count a.buffer) in
    omega (arith, own_write_few g named s a t e, length_map (carry (placed_by (roles_of g t))) own)

pub write_ends : (g : Geometry) (named : List Bool) (s : State) (a : WriteAsked) (t : Tables) → (write_on g named s a (2 ^ 32 - 1) t).outcome.answer ≢ Unfinished
unfolding write_on
write_ends g named s a t =
    covered_ends g (verdict_number (write_verdict g named s a t)) (write_all g (call_present g (is_set named) (view_state s)) (roles_of g t) (seen_in g t) (view_state s) (zone_asked g a) (sectors_in g a.count a.buffer))
    (state_held max_zones (written_state g (call_present g (is_set named) (view_state s)) (lost_in g (is_set named) (view_state s)) a.host (view_state s) (zone_asked g a) a.count)) s (2 ^ 32 - 1) t
    (λ e. omega (arith, write_few g named s a t (write_number_accepts g named t s a e)))

-- ==== compact: one log
pub compact_few : (g : Geometry) (named : List Bool) (s : State) (d : ℕ) (t : Tables) → compact_verdict g named s d t ≡ accept
    → length (compact_stores g (call_present g (is_set named) (view_state s)) (roles_of g t) (seen_in g t) (view_state s) d) ≤ 524424
unfolding compact_stores empty_parity
compact_few g named s d t e =
    let ok = (compact_passed g named s d t e).opening.tables.valid in
    let present = call_present g (is_set named) (view_state s) in
    let new : ℕ → List (List ℕ) = λ c. new_parity g (by_state g present (seen_in g t) (view_state s)) (roles_of g t c) c (parity_entries g (seen_in g t) c) in
    let fits : length (new d) ≤ 65536 = omega (arith, compact_fits g named s d t e, ok.zone_most) in
    emptyings_few g present true (roles_of g t) (λ c. eqb c d) new ok.drives_most (λ c q. rw (eqb-true c d q) fits)

pub compact_ends : (g : Geometry) (named : List Bool) (s : State) (d : ℕ) (t : Tables) → (compact_on g named s d (2 ^ 32 - 1) t).outcome.answer ≢ Unfinished
unfolding compact_on
compact_ends g named s d t =
    covered_ends g (verdict_number (compact_verdict g named s d t)) (compact_stores g (call_present g (is_set named) (view_state s)) (roles_of g t) (seen_in g t) (view_state s) d)
    (state_held max_zones (compact_state g (call_present g (is_set named) (view_state s)) (lost_in g (is_set named) (view_state s)) (seen_in g t) (view_state s) d)) s (2 ^ 32 - 1) t
    (λ e. omega (arith, compact_few g named s d t (compact_number_accepts g named t s d e)))
