-- A compact on the tables: its refusals as numbers, its stores, and the state that it hands on.
use Rattle.std.specs.Prelude.{◌≡◌, ◌≢◌, ◌&&◌, List, [], ◌∷◌, length, get_or, set, eqb}
use Rattle.std.proofs.Math.Path.{refl, sym, ap, ap₂}
use Rattle.std.proofs.Common.{◌∙◌, arith, length-set, get_or-set_same, get_or-set_other, eq-eqb, ne_eqb}
use Rattle.std.proofs.Math.Bool.{Bool, true, false, not}
use Prim.Native.Nat.{ℕ, ◌+◌, ◌-◌, ◌*◌, ◌/◌, ◌<◌}
use Rattle.std.proofs.Math.Decide.{ℕ_discrete}
use Rattle.std.proofs.Math.Dec.{ltb}
use Rattle.tables.specs.declared.Geometry.{Geometry}
use Rattle.tables.specs.meaning.Basics.{pick}
use Rattle.tables.specs.meaning.Below.{any_below}
use Rattle.tables.specs.laws.Below.{any_below_cong}
use Rattle.tables.specs.meaning.Drives.{find_below}
use Rattle.tables.specs.meaning.Geometry.{Valid, max_zones}
use Rattle.tables.specs.meaning.GeometryTest.{is_valid}
use Rattle.tables.specs.meaning.Tables.{Tables, tables_of, lengths_fit, pointers_bad, device_of}
use Rattle.volume.specs.declared.State.{State}
use Rattle.volume.specs.declared.Outcome.{Outcome}
use Rattle.volume.specs.declared.Answer.TheVariants.{Finished, Unfinished}
use Rattle.volume.specs.meaning.State.{StateView, hosts, max_shares, call_present, with_shares}
use Rattle.volume.specs.meaning.Calls.{flush_state}
use Rattle.volume.specs.meaning.Hosts.{half_past, renewed_shares, compact_state}
use Rattle.volume.specs.meaning.Answers.{lost_in}
use Rattle.volume.specs.meaning.Refusals.{first_refusal, state_within, two_absent, stale_somewhere, compact_full, flush_rows, compact_rows}
use Rattle.volume.specs.meaning.Emptying.{by_state, new_parity_size, gone_for_copies, compact_stores}
use Rattle.volume.specs.meaning.CallContracts.{record_at, view_state, is_set, verdict_number, roles_of, seen_in, Result, storing_on, state_held, flush_verdict, compact_verdict, compact_on}
use Rattle.volume.specs.laws.StateHeld.{Sixteen, held_shares}
use Rattle.volume.specs.checks.CheckLaws.{present_list, present_is, left_out_is, opened, opening_number, after_four}
use Rattle.volume.specs.checks.LogRoom.{size_agree}
use Rattle.volume.specs.checks.Records.{points_in, points_in_at}
use Rattle.volume.specs.checks.ZoneChecks.{stale_on, stale_on_tables}
use Rattle.volume.specs.emptying.ParityCopies.{by_pointers}
use Rattle.volume.specs.storing.Flushing.{flush_refusal}
use Rattle.volume.specs.storing.Resetting.{stale_seen}
use Rattle.compacting.specs.declared.Compaction.{Compaction}
use Rattle.compacting.specs.CompactRoom.{force_of}

-- ==== refusals
-- 7, of the zones below n
abbrev pub some_stale : Geometry → (ℕ → Bool) → State → List ℕ → ℕ → Bool
some_stale g present s ws n = any_below (λ z. stale_on g present ws (record_at s z).condition z) n

pub stale_is : (g : Geometry) (named : List Bool) (s : State) (xs ws ds : List ℕ) → pointers_bad g named ws ds ≡ false
    → some_stale g (call_present g (is_set named) (view_state s)) s ws g.zones ≡ stale_somewhere g (call_present g (is_set named) (view_state s)) (seen_in g (tables_of xs ws ds)) (view_state s)
unfolding stale_somewhere
stale_is g named s xs ws ds h = any_below_cong _ _ g.zones
    (λ z hz. sym (stale_seen g (call_present g (is_set named) (view_state s)) (device_of g (tables_of xs ws ds)) (view_state s) z ∙ stale_on_tables g named s xs ws ds z h hz))

-- 14 and 15, by the drives that are here
abbrev pub full_in : Compaction → State → Tables → Bool
full_in j s t = compact_full j.first (roles_of j.first t) (force_of j s t) (seen_in j.first t) j.drive

abbrev pub gone_in : Compaction → State → Tables → Bool
gone_in j s t = gone_for_copies j.first (is_set j.here) (force_of j s t) (seen_in j.first t) j.drive

-- ==== the state
abbrev pub renewed_list : List ℕ → ℕ → ℕ → List ℕ
renewed_list ns d n = set (set ns (d * hosts) n) (d * hosts + 1) n

pub renewed_long : (ns : List ℕ) (d n : ℕ) → length (renewed_list ns d n) ≡ length ns
renewed_long ns d n = length-set (set ns (d * hosts) n) (d * hosts + 1) n ∙ length-set ns (d * hosts) n

pub renewed_at : (ns : List ℕ) (d n i : ℕ) → d < 8 → length ns ≡ max_shares → get_or (renewed_list ns d n) i 0 ≡ renewed_shares (λ k. get_or ns k 0) d n i
renewed_at ns d n i hd long = go (ℕ_discrete i (d * hosts + 1)) (ℕ_discrete i (d * hosts))
  where
    first : List ℕ
    first = set ns (d * hosts) n

    go : Dec (i ≡ d * hosts + 1) → Dec (i ≡ d * hosts) → get_or (renewed_list ns d n) i 0 ≡ renewed_shares (λ k. get_or ns k 0) d n i
    go (yes e) c =
        let l : d * hosts + 1 < length first = rw (length-set ns (d * hosts) n) (omega (arith, hd, long)) in
        let q : i / hosts ≡ d = omega (arith, e) in
        rw (eq-eqb (i / hosts) d q) (ap (λ (k : ℕ). get_or (renewed_list ns d n) k 0) e ∙ get_or-set_same first (d * hosts + 1) n 0 l)
    go (no e) (yes c) =
        let l : d * hosts < length ns = omega (arith, hd, long) in
        let q : i / hosts ≡ d = omega (arith, c) in
        rw (eq-eqb (i / hosts) d q) (get_or-set_other first (d * hosts + 1) i n 0 e ∙ ap (λ (k : ℕ). get_or first k 0) c ∙ get_or-set_same ns (d * hosts) n 0 l)
    go (no e) (no c) =
        let q : i / hosts ≢ d = λ k. omega (arith, e, c, k) in
        rw (ne_eqb (i / hosts) d q) (get_or-set_other first (d * hosts + 1) i n 0 e ∙ get_or-set_other ns (d * hosts) i n 0 c)

-- a host's share of the new log, by the pointers in the state
abbrev pub new_share : Compaction → State → ℕ
new_share j s = half_past j.first (j.first.capacity - new_parity_size j.first (by_pointers (points_in s)) j.drive)

-- the drive that is lost from then on
abbrev pub lost_after : Compaction → ℕ
lost_after j = find_below (λ (d : ℕ). not (is_set j.here d)) j.first.drives

unfoldable pub ended_with : Compaction → State → ℕ → Outcome
ended_with j s rest = pick (eqb rest 0) (record { answer = Unfinished; state = s })
    (record { answer = Finished; state = state_held max_zones (with_shares (renewed_shares (view_state s).share j.drive (new_share j s)) (flush_state (lost_after j) (view_state s))) })

pub ended_state : (j : Compaction) (s : State) → Sixteen s → j.drive < 8
    → ◌≡◌ {A = State} (record { lost = lost_after j; zones = s.zones; shares = renewed_list s.shares j.drive (new_share j s) }) (state_held max_zones (with_shares (renewed_shares (view_state s).share j.drive (new_share j s)) (flush_state (lost_after j) (view_state s))))
ended_state j s k hd =
    held_shares s (lost_after j) (renewed_list s.shares j.drive (new_share j s)) (renewed_shares (view_state s).share j.drive (new_share j s)) k
    (renewed_long s.shares j.drive (new_share j s) ∙ k.shares) (λ i l. renewed_at s.shares j.drive (new_share j s) i hd k.shares)

-- ==== the compact, by the drives that are here
unfoldable pub compact_seen_on : Compaction → State → ℕ → Tables → Result
compact_seen_on j s count t =
    storing_on j.first (pick (full_in j s t) 14 (pick (gone_in j s t) 15 0)) (compact_stores j.first (is_set j.here) (roles_of j.first t) (seen_in j.first t) (view_state s) j.drive)
    (state_held max_zones (compact_state j.first (is_set j.here) (lost_after j) (seen_in j.first t) (view_state s) j.drive)) s count t

-- what it hands on is the state of the rules
share_is : (j : Compaction) (s : State) (t : Tables) → Valid j.first
    → with_shares (renewed_shares (view_state s).share j.drive (new_share j s)) (flush_state (lost_after j) (view_state s)) ≡ compact_state j.first (is_set j.here) (lost_after j) (seen_in j.first t) (view_state s) j.drive
share_is j s t ok =
    ap (λ (n : ℕ). with_shares (renewed_shares (view_state s).share j.drive (half_past j.first (j.first.capacity - n))) (flush_state (lost_after j) (view_state s)))
    (size_agree j.first (by_pointers (points_in s)) (force_of j s t) j.drive (λ z h. points_in_at s z (omega (arith, h, ok.zones_most))))

pub ended_is : (j : Compaction) (s : State) (t : Tables) (rest : ℕ) → Valid j.first
    → ended_with j s rest ≡ pick (eqb rest 0) (record { answer = Unfinished; state = s }) (record { answer = Finished; state = state_held max_zones (compact_state j.first (is_set j.here) (lost_after j) (seen_in j.first t) (view_state s) j.drive) })
unfolding ended_with
ended_is j s t rest ok = ap (λ (v : StateView). pick (eqb rest 0) (record { answer = Unfinished; state = s }) (record { answer = Finished; state = state_held max_zones v })) (share_is j s t ok)

-- ==== the call's number, on the tables
module _ (g : Geometry) (named : List Bool) (s : State) (d : ℕ) (xs ws ds : List ℕ) where
  abbrev t : Tables
  t = tables_of xs ws ds

  abbrev job : Compaction
  job = record { first = g; here = present_list g named s.lost; drive = d }

  abbrev opening : ℕ
  opening = opening_number g named s 0 0 (length xs) ws ds

  abbrev number : ℕ
  number = verdict_number (compact_verdict g named s d (tables_of xs ws ds))

  abbrev present : ℕ → Bool
  present = call_present g (is_set named) (view_state s)

  abbrev own_rows : List (ℕ × Bool)
  own_rows = (7, stale_somewhere g (call_present g (is_set named) (view_state s)) (seen_in g (tables_of xs ws ds)) (view_state s)) ∷ (8, not (call_present g (is_set named) (view_state s) d))
      ∷ (14, compact_full g (roles_of g (tables_of xs ws ds)) (by_state g (call_present g (is_set named) (view_state s)) (seen_in g (tables_of xs ws ds)) (view_state s)) (seen_in g (tables_of xs ws ds)) d)
      ∷ (15, gone_for_copies g (call_present g (is_set named) (view_state s)) (by_state g (call_present g (is_set named) (view_state s)) (seen_in g (tables_of xs ws ds)) (view_state s)) (seen_in g (tables_of xs ws ds)) d)
      ∷ []

  -- its rows are those of a flush, then its own
  split : number ≡ pick (eqb (verdict_number (flush_verdict g named s t)) 0) (verdict_number (first_refusal own_rows)) (verdict_number (flush_verdict g named s t))
  unfolding compact_verdict compact_rows flush_verdict flush_rows
  split = after_four (not (is_valid g && state_within g (view_state s))) (not (lengths_fit g (length xs) (length ws) (length ds))) (pointers_bad g named ws ds) (two_absent g (is_set named) (view_state s)) own_rows

  pub number_opening : opening ≢ 0 → opening ≡ number
  number_opening h = let e = flush_refusal g named s xs ws ds in e ∙ sym (split ∙ ap (λ (b : Bool). pick b (verdict_number (first_refusal own_rows)) (verdict_number (flush_verdict g named s t))) (ne_eqb (verdict_number (flush_verdict g named s t)) 0 (λ z. h (e ∙ z))))

  number_own : opening ≡ 0 → number ≡ verdict_number (first_refusal own_rows)
  number_own h = split ∙ ap (λ (b : Bool). pick b (verdict_number (first_refusal own_rows)) (verdict_number (flush_verdict g named s t))) (eq-eqb (verdict_number (flush_verdict g named s t)) 0 (sym (flush_refusal g named s xs ws ds) ∙ h))

  -- 7, as the code asks it
  abbrev stale_of : Bool
  stale_of = some_stale g (is_set (present_list g named s.lost)) s ws g.zones

  stale_same : opening ≡ 0 → stale_of ≡ stale_somewhere g present (seen_in g t) (view_state s)
  stale_same h = ap (λ (p : ℕ → Bool). some_stale g p s ws g.zones) (present_is g named s) ∙ stale_is g named s xs ws ds (opened g named s 0 0 (length xs) ws ds h).pointers

  pub number_7 : opening ≡ 0 → stale_of ≡ true → 7 ≡ number
  number_7 h e = let q : stale_somewhere g present (seen_in g t) (view_state s) ≡ true = sym (stale_same h) ∙ e in sym (number_own h ∙ rw q refl)

  -- 8
  abbrev here_of : Bool
  here_of = ltb d g.drives && is_set (present_list g named s.lost) d

  here_is : here_of ≡ present d
  unfolding call_present
  here_is = ap (λ (p : ℕ → Bool). ltb d g.drives && p d) (present_is g named s) ∙ twice (ltb d g.drives) (is_set named d && not (eqb d s.lost))
    where
      twice : (a b : Bool) → a && (a && b) ≡ a && b
      twice true b = refl
      twice false b = refl

  pub number_8 : opening ≡ 0 → stale_of ≡ false → here_of ≡ false → 8 ≡ number
  number_8 h e f =
      let q : stale_somewhere g present (seen_in g t) (view_state s) ≡ false = sym (stale_same h) ∙ e in
      let p : present d ≡ false = sym here_is ∙ f in
      sym (number_own h ∙ rw (q, p) refl)

  -- THE CALL, once it has passed the refusals before 14
  pub seen_on : (count : ℕ) → opening ≡ 0 → stale_of ≡ false → here_of ≡ true → compact_seen_on job s count t ≡ compact_on g named s d count t
  unfolding compact_seen_on compact_on
  seen_on count h e f =
      let q : stale_somewhere g present (seen_in g t) (view_state s) ≡ false = sym (stale_same h) ∙ e in
      let p : present d ≡ true = sym here_is ∙ f in
      let full : (ℕ → Bool) → Bool = λ here. compact_full g (roles_of g t) (by_state g here (seen_in g t) (view_state s)) (seen_in g t) d in
      let gone : (ℕ → Bool) → Bool = λ here. gone_for_copies g here (by_state g here (seen_in g t) (view_state s)) (seen_in g t) d in
      let n : pick (full present) 14 (pick (gone present) 15 0) ≡ number = sym (number_own h ∙ rw (q, p) (last (full present) (gone present))) in
      ap₂ (λ (here : ℕ → Bool) (x : ℕ). storing_on g (pick (full here) 14 (pick (gone here) 15 0)) (compact_stores g here (roles_of g t) (seen_in g t) (view_state s) d) (state_held max_zones (compact_state g here x (seen_in g t) (view_state s) d)) s count t) (present_is g named s) (left_out_is g named s)
      ∙ ap (λ (m : ℕ). storing_on g m (compact_stores g present (roles_of g t) (seen_in g t) (view_state s) d) (state_held max_zones (compact_state g present (lost_in g (is_set named) (view_state s)) (seen_in g t) (view_state s) d)) s count t) n
    where
      last : (a b : Bool) → verdict_number (first_refusal ((14, a) ∷ (15, b) ∷ [])) ≡ pick a 14 (pick b 15 0)
      last true b = refl
      last false true = refl
      last false false = refl
