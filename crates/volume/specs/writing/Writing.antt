-- A write on the tables, and the laws by which its refusal and its answer are proved.
use Rattle.std.specs.Prelude.{◌≡◌, refl, ◌≢◌, true, false, ◌&&◌, ◌||◌, List, [], ◌∷◌, length, eqb}
use Rattle.std.proofs.Math.Path.{sym, ap, ap₂}
use Rattle.std.proofs.Common.{◌∙◌, eq-eqb, ne_eqb, lt-ltb, le-ltb, eqb-true}
use Rattle.std.proofs.Math.Bool.{Bool, not}
use Prim.Native.Nat.{ℕ, ◌+◌, ◌*◌, ◌≤◌, ◌<◌}
use Rattle.std.proofs.Math.Decide.{ℕ_discrete}
use Rattle.tables.specs.declared.Geometry.{Geometry}
use Rattle.tables.specs.meaning.Basics.{pick}
use Rattle.tables.specs.meaning.Geometry.{zone_sectors, max_zones}
use Rattle.tables.specs.meaning.GeometryTest.{is_valid}
use Rattle.tables.specs.meaning.Drives.{find_below}
use Rattle.tables.specs.meaning.Device.{Store}
use Rattle.tables.specs.meaning.Tables.{Tables, tables_of, device_of, buffer_fits, lengths_fit, pointers_bad}
use Rattle.tables.specs.laws.TablesFrame.{lengths_are}
use Rattle.volume.specs.meaning.RefusalNumbers.{number_of}
use Rattle.volume.specs.declared.Answer.TheVariants.{Refused}
use Rattle.volume.specs.declared.Condition.{Condition}
use Rattle.volume.specs.declared.State.{State}
use Rattle.volume.specs.declared.writing.Run.{Run}
use Rattle.volume.specs.meaning.State.{is_sealed, is_worn, call_present}
use Rattle.volume.specs.meaning.Refusals.{first_refusal, WriteAsked, zone_asked, end_asked, write_rows, stale, no_zone, no_host, bad_run, bad_order, write_full, gone_before, offset_of, two_absent, state_within}
use Rattle.volume.specs.meaning.Calls.{open_state}
use Rattle.volume.specs.meaning.Hosts.{over_limit, over_open, share_left, owned_state, written_state}
use Rattle.volume.specs.meaning.Answers.{lost_in, sectors_in}
use Rattle.volume.specs.meaning.Emptying.{write_all}
use Rattle.volume.specs.meaning.CallContracts.{view_state, record_at, is_set, verdict_number, roles_of, seen_in, Result, storing_on, write_verdict, pointer_of, write_on, state_held}
use Rattle.volume.specs.checks.CheckLaws.{Opened, opened, opening_number, absent_two, after_four, present_list, present_is, left_out_is}
use Rattle.volume.specs.checks.ZoneChecks.{stale_on, stale_on_tables, present_good, pointer_within}
use Rattle.volume.specs.storing.Resetting.{stale_seen}
use Rattle.volume.specs.storing.ResetZone.{zone_now}
use Rattle.volume.specs.writing.Allowances.{host_number, allowance_of, allowance_known, allowance_refusal, allowance_share}
use Rattle.volume.specs.writing.WriteChecks.{RunFits, is_stale_for, zone_number, zone_passed, after_zone}
use Rattle.volume.specs.writing.WriteRun.{RunAsked, RunStated, asked_number, write_zone_on, write_asked_on}

-- what a call is asked: `count` sectors from an address, out of a buffer, by a host
abbrev pub write_asked : ℕ → ℕ → ℕ → List ℕ → WriteAsked
write_asked host address count buffer = record { host = host; address = address; count = count; buffer = buffer }

-- the same in its zone, by what the state says (here: the drives that are; z: the zone; n: where in it)
abbrev pub run_of : Geometry → List Bool → State → ℕ → ℕ → ℕ → ℕ → Run
run_of g here s host z n count = record { zone = zone_now g here s z; pointer = n; count = count; host = host; allowance = allowance_of g (view_state s) host z (n + count) }

abbrev pub run_now : Geometry → List Bool → State → WriteAsked → Run
run_now g named s a = run_of g (present_list g named s.lost) s a.host (zone_asked g a) (offset_of g a.address) a.count

-- ---- the refusal: the opening's, or that of the rows of the zone
-- 14 and 15 of the rules
abbrev pub write_full_in : Geometry → List Bool → State → WriteAsked → Tables → Bool
write_full_in g named s a t = write_full g (call_present g (is_set named) (view_state s)) (roles_of g t) (seen_in g t) (share_left g (view_state s) a.host (zone_asked g a) (end_asked g (view_state s) a)) (zone_asked g a) (end_asked g (view_state s) a)

abbrev pub write_gone_in : Geometry → List Bool → State → WriteAsked → Tables → Bool
write_gone_in g named s a t = gone_before g (call_present g (is_set named) (view_state s)) (seen_in g t) (zone_asked g a) (record_at s (zone_asked g a)).generation (pointer_of s (zone_asked g a))

abbrev last_rows : Geometry → List Bool → State → WriteAsked → Tables → List (ℕ × Bool)
last_rows g named s a t = (14, write_full_in g named s a t) ∷ (15, write_gone_in g named s a t) ∷ []

abbrev pub late_rows : Geometry → List Bool → State → WriteAsked → Tables → List (ℕ × Bool)
late_rows g named s a t =
    (7, stale g (call_present g (is_set named) (view_state s)) (seen_in g t) (view_state s) (zone_asked g a))
    ∷ (8, no_zone g (zone_asked g a) || no_host a.host)
    ∷ (9, bad_run g (offset_of g a.address) a.count)
    ∷ (10, bad_order (view_state s) (zone_asked g a) (offset_of g a.address))
    ∷ (11, is_sealed (record_at s (zone_asked g a)).condition)
    ∷ (12, is_worn (record_at s (zone_asked g a)).condition)
    ∷ (18, over_limit g (view_state s) a.host (zone_asked g a) (end_asked g (view_state s) a))
    ∷ (19, over_open g (view_state s) (zone_asked g a) (end_asked g (view_state s) a))
    ∷ last_rows g named s a t

-- the number of a write
unfoldable pub write_number : Geometry → List Bool → State → WriteAsked → List ℕ → List ℕ → List ℕ → ℕ
write_number g named s a xs ws ds = verdict_number (write_verdict g named s a (tables_of xs ws ds))

-- that of refusals 1 to 4
abbrev pub opening_of : Geometry → List Bool → State → WriteAsked → List ℕ → List ℕ → List ℕ → ℕ
opening_of g named s a xs ws ds = opening_number g named s a.count (length a.buffer) (length xs) ws ds

module _ (g : Geometry) (named : List Bool) (s : State) (a : WriteAsked) (xs ws ds : List ℕ) where
  abbrev opening : ℕ
  opening = opening_of g named s a xs ws ds

  number_is : write_number g named s a xs ws ds ≡ pick (eqb opening 0) (verdict_number (first_refusal (late_rows g named s a (tables_of xs ws ds)))) opening
  unfolding write_number write_verdict write_rows opening_number
  number_is = rw (absent_two g named s) (after_four (not (is_valid g && state_within g (view_state s))) (not (lengths_fit g (length xs) (length ws) (length ds) && buffer_fits g a.count (length a.buffer))) (pointers_bad g named ws ds) (two_absent g (is_set named) (view_state s)) (late_rows g named s a (tables_of xs ws ds)))

  pub number_opening : opening ≢ 0 → opening ≡ write_number g named s a xs ws ds
  number_opening h = sym (number_is ∙ rw (ne_eqb opening 0 h) refl)

  module _ (o : opening ≡ 0) where
    late_is : write_number g named s a xs ws ds ≡ verdict_number (first_refusal (late_rows g named s a (tables_of xs ws ds)))
    late_is = number_is ∙ rw (eq-eqb opening 0 o) refl

    pub number_8 : g.zones ≤ zone_asked g a → 8 ≡ write_number g named s a xs ws ds
    unfolding stale
    number_8 h = sym (late_is ∙ rw (le-ltb (zone_asked g a) g.zones h) refl)

    module _ (h : zone_asked g a < g.zones) where
      abbrev run : Run
      run = run_now g named s a

      abbrev c : Condition
      c = (record_at s (zone_asked g a)).condition

      abbrev zone_is : ℕ
      zone_is = zone_number (run_now g named s a) (record_at s (zone_asked g a)).condition ws

      abbrev last_is : ℕ
      last_is = pick (write_full_in g named s a (tables_of xs ws ds)) 14 (pick (write_gone_in g named s a (tables_of xs ws ds)) 15 0)

      last_rows_lem : (x y : Bool) → verdict_number (first_refusal ((14, x) ∷ (15, y) ∷ [])) ≡ pick x 14 (pick y 15 0)
      last_rows_lem true y = refl
      last_rows_lem false true = refl
      last_rows_lem false false = refl

      -- 18 and 19 at the pointer, where the run begins there
      host_is : run.allowance.known ≡ true → RunFits g c run.pointer run.count → host_number g (view_state s) a.host (zone_asked g a) (end_asked g (view_state s) a) ≡ number_of run.allowance.limits
      host_is k f =
          ap (λ (n : ℕ). host_number g (view_state s) a.host (zone_asked g a) (n + a.count)) (sym f.pointer)
          ∙ sym (allowance_refusal g (view_state s) a.host (zone_asked g a) (offset_of g a.address + a.count) (sym (allowance_known g (view_state s) a.host (zone_asked g a) (offset_of g a.address + a.count)) ∙ k) f.inside)

      -- row 7 on the tables, and row 8 of a zone that there is
      stale_is : stale g (call_present g (is_set named) (view_state s)) (seen_in g (tables_of xs ws ds)) (view_state s) (zone_asked g a) ≡ is_stale_for run c ws
      stale_is =
          stale_seen g (call_present g (is_set named) (view_state s)) (device_of g (tables_of xs ws ds)) (view_state s) (zone_asked g a)
          ∙ stale_on_tables g named s xs ws ds (zone_asked g a) (opened g named s a.count (length a.buffer) (length xs) ws ds o).pointers h
          ∙ ap (λ (p : ℕ → Bool). stale_on g p ws c (zone_asked g a)) (sym (present_is g named s))

      host_known : no_zone g (zone_asked g a) || no_host a.host ≡ not run.allowance.known
      host_known =
          ap (λ (b : Bool). not b || no_host a.host) (lt-ltb (zone_asked g a) g.zones h)
          ∙ ap not (sym (allowance_known g (view_state s) a.host (zone_asked g a) (offset_of g a.address + a.count)))

      number_split : write_number g named s a xs ws ds ≡ pick (eqb zone_is 0) last_is zone_is
      unfolding host_number
      number_split =
          let l = over_limit g (view_state s) a.host (zone_asked g a) (end_asked g (view_state s) a) in
          let m = over_open g (view_state s) (zone_asked g a) (end_asked g (view_state s) a) in
          let last = last_rows g named s a (tables_of xs ws ds) in
          let rows : Bool → Bool → ℕ = λ x y. verdict_number (first_refusal ((7, x) ∷ (8, y) ∷ (9, bad_run g (offset_of g a.address) a.count) ∷ (10, bad_order (view_state s) (zone_asked g a) (offset_of g a.address)) ∷ (11, is_sealed c) ∷ (12, is_worn c) ∷ (18, l) ∷ (19, m) ∷ last)) in
          late_is ∙ ap₂ rows stale_is host_known ∙ after_zone run c ws l m last host_is
          ∙ ap (λ (n : ℕ). pick (eqb zone_is 0) n zone_is) (last_rows_lem (write_full_in g named s a (tables_of xs ws ds)) (write_gone_in g named s a (tables_of xs ws ds)))

      pub number_zone : zone_is ≢ 0 → zone_is ≡ write_number g named s a xs ws ds
      number_zone n = sym (number_split ∙ ap (λ (b : Bool). pick b last_is zone_is) (ne_eqb zone_is 0 n))

      pub number_last : zone_is ≡ 0 → last_is ≡ write_number g named s a xs ws ds
      number_last n = sym (number_split ∙ ap (λ (b : Bool). pick b last_is zone_is) (eq-eqb zone_is 0 n))

-- ---- what the code relies on
pub buffer_is : (g : Geometry) (k bytes : ℕ) → buffer_fits g k bytes ≡ true → bytes ≡ k * g.sector
unfolding buffer_fits
buffer_is g k bytes h = eqb-true bytes (k * g.sector) h

module _ (g : Geometry) (named : List Bool) (s : State) (a : WriteAsked) (xs ws ds : List ℕ) where
  pub run_asked : Opened g named s a.count (length a.buffer) (length xs) ws ds → zone_asked g a < g.zones → offset_of g a.address < zone_sectors g → a.count < 4294967296
      → RunAsked (run_now g named s a) (record_at s (zone_asked g a)).condition xs ws a.buffer
  run_asked o h starts small =
      let l = lengths_are g (length xs) (length ws) (length ds) o.lengths in
      record {
        sized = record { sectors_long = l.0; written_long = l.1 };
        logs_first = o.logs_first;
        one_absent = o.drives;
        in_zones = λ d y hd p hy. present_good g named s ws ds o.pointers d y hd hy (sym (ap (λ (f : ℕ → Bool). f d) (present_is g named s)) ∙ p);
        zone_in_lem = h;
        pointer_in_lem = pointer_within g s (zone_asked g a) o.within h;
        starts_in = starts;
        count_small = small;
        buffer_long = buffer_is g a.count (length a.buffer) o.buffer;
      }

  pub run_stated : RunStated (run_now g named s a) (record_at s (zone_asked g a)).condition s
  run_stated = record { generation_is = refl; condition_is = refl; allowance_is = refl }

  -- ---- the write of the call, once it has passed the refusals before 14
  write_zone_on_lem : (count : ℕ) → opening_of g named s a xs ws ds ≡ 0 → zone_asked g a < g.zones → asked_number (run_now g named s a) s ws ≡ 0
      → write_zone_on (run_now g named s a) s a.buffer count (tables_of xs ws ds) ≡ write_on g named s a count (tables_of xs ws ds)
  unfolding write_zone_on write_on write_number
  write_zone_on_lem count o h n =
      let v = view_state s in
      let z = zone_asked g a in
      let k = a.count in
      let t = tables_of xs ws ds in
      let here = present_list g named s.lost in
      let lost : ℕ = find_below (λ (d : ℕ). not (is_set here d)) g.drives in
      let passed = zone_passed (run_now g named s a) (record_at s z).condition ws n in
      let known = sym (allowance_known g v a.host z (offset_of g a.address + k)) ∙ passed.known in
      let on : (ℕ → Bool) → ℕ → ℕ → ℕ → Result = λ p m x q. storing_on g m (write_all g p (roles_of g t) (seen_in g t) v z (sectors_in g k a.buffer)) (state_held max_zones (owned_state g p a.host z (q + k) (open_state x v z (q + k)))) s count t in
      let last : (ℕ → Bool) → ℕ → ℕ → ℕ = λ p i q. pick (write_full g p (roles_of g t) (seen_in g t) i z (q + k)) 14 (pick (gone_before g p (seen_in g t) z (record_at s z).generation q) 15 0) in
      let verdict : last (call_present g (is_set named) v) (share_left g v a.host z (pointer_of s z + k)) (pointer_of s z) ≡ verdict_number (write_verdict g named s a t) = number_last g named s a xs ws ds o h n in
      ap (λ (i : ℕ). on (is_set here) (last (is_set here) i (offset_of g a.address)) lost (offset_of g a.address)) (allowance_share g v a.host z (offset_of g a.address + k) known passed.fits.inside)
      ∙ ap (λ (q : ℕ). on (is_set here) (last (is_set here) (share_left g v a.host z (q + k)) q) lost q) passed.fits.pointer
      ∙ ap (λ (p : ℕ → Bool). on p (last p (share_left g v a.host z (pointer_of s z + k)) (pointer_of s z)) lost (pointer_of s z)) (present_is g named s)
      ∙ ap₂ (λ (m x : ℕ). on (call_present g (is_set named) v) m x (pointer_of s z)) verdict (left_out_is g named s)

  -- the call, once it has passed refusals 1 to 4 and its zone is there
  pub write_asked_on_lem : (count : ℕ) → opening_of g named s a xs ws ds ≡ 0 → zone_asked g a < g.zones → write_asked_on (run_now g named s a) s a.buffer count (tables_of xs ws ds) ≡ write_on g named s a count (tables_of xs ws ds)
  unfolding write_asked_on write_on write_number
  write_asked_on_lem count o h = go (ℕ_discrete late 0)
    where
      run : Run
      run = run_now g named s a

      late : ℕ
      late = asked_number run s ws

      t : Tables
      t = tables_of xs ws ds

      refused : Result
      refused = record { outcome = record { answer = Refused late; state = s }; tables = t }

      go : Dec (late ≡ 0) → pick (eqb late 0) (write_zone_on run s a.buffer count t) refused ≡ write_on g named s a count t
      go (yes e) = ap (λ (b : Bool). pick b (write_zone_on run s a.buffer count t) refused) (eq-eqb late 0 e) ∙ write_zone_on_lem count o h e
      go (no ne) =
          let v = view_state s in
          let p = call_present g (is_set named) v in
          let stores : List Store = write_all g p (roles_of g t) (seen_in g t) v (zone_asked g a) (sectors_in g a.count a.buffer) in
          let on : ℕ → Result = λ n. storing_on g n stores (state_held max_zones (written_state g p (lost_in g (is_set named) v) a.host v (zone_asked g a) a.count)) s count t in
          let same : on late ≡ refused = rw (ne_eqb late 0 ne) refl in
          ap (λ (b : Bool). pick b (write_zone_on run s a.buffer count t) refused) (ne_eqb late 0 ne) ∙ sym same ∙ ap on (number_zone g named s a xs ws ds o h ne)
