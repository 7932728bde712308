-- Peek on the tables, and the laws by which its refusal is proved.
use Rattle.std.specs.Prelude.{◌≡◌, refl, ◌≢◌, Bool, true, false, ◌&&◌, not, ℕ, ◌+◌, ◌*◌, ◌≤◌, ◌<◌, List, [], ◌∷◌, length, ltb, eqb}
use Rattle.std.proofs.Math.Path.{sym, ap}
use Rattle.std.proofs.Common.{◌∙◌, arith, eq-eqb, ne_eqb}
use Rattle.tables.specs.declared.Geometry.{Geometry}
use Rattle.tables.specs.meaning.Basics.{pick}
use Rattle.tables.specs.meaning.Geometry.{Valid}
use Rattle.tables.specs.meaning.GeometryTest.{is_valid}
use Rattle.tables.specs.meaning.Placement.{drive_of, sector_of}
use Rattle.tables.specs.laws.Placement.{drive_below}
use Rattle.tables.specs.meaning.Device.{Device}
use Rattle.tables.specs.meaning.Tables.{lengths_fit, buffer_fits, pointers_bad, Tables, tables_of}
use Rattle.volume.specs.declared.Condition.{Condition}
use Rattle.volume.specs.declared.State.{State}
use Rattle.volume.specs.meaning.State.{StateView, call_present, pointer_in}
use Rattle.volume.specs.meaning.Rules.{view_of, zone_view}
use Rattle.volume.specs.meaning.Refusals.{first_refusal, state_within, two_absent, stale, no_zone, unwritten, not_held, zone_of, offset_of, peek_rows}
use Rattle.volume.specs.meaning.Answers.{place_of}
use Rattle.volume.specs.meaning.CallContracts.{view_state, record_at, is_set, verdict_number, seen_in, peek_number, part_at, peek_on, byte_of, peek_from, past}
use Rattle.volume.specs.checks.CheckLaws.{present_list, present_is, absent_two, opening_number, Opened, opened}
use Rattle.volume.specs.checks.ZoneChecks.{stale_on}
use Rattle.volume.specs.looking.Knowing.{read_device, Readable, own_held}
use Rattle.volume.specs.looking.KnowingLaws.{held_is}
use Rattle.volume.specs.looking.SeenByRoles.{data_seen}
use Rattle.volume.specs.reading.Reading.{zone_number, after_six, after_zone, three, opened_readable, zone_on_in, second_is, second_in, second_out}

-- ---- the rows after those of its zone
abbrev pub place_rows : Geometry → (ℕ → Bool) → Device → StateView → ℕ → ℕ → List (ℕ × Bool)
place_rows g present v state z offset = (13, unwritten state z offset 1) ∷ (15, not_held g present v z (state.generation z) offset) ∷ []

unfoldable pub place_number : Geometry → (ℕ → Bool) → Device → StateView → ℕ → ℕ → ℕ
place_number g present v state z offset = verdict_number (first_refusal (place_rows g present v state z offset))

-- refusals 7, 13 and 15 on the written pointers, of a zone that there is
unfoldable pub place_number_on : Geometry → List Bool → List ℕ → Condition → ℕ → ℕ → ℕ
place_number_on g here ws c z offset = pick (stale_on g (is_set here) ws c z) 7 (pick (ltb (pointer_in c) (offset + 1)) 13 (pick (own_held g here ws z offset) 0 15))

-- ---- laws
place_number_is : (g : Geometry) (here : List Bool) (xs ws : List ℕ) (z : ℕ) (s : State) (offset : ℕ) → Valid g → Readable g here xs ws z → pick (unwritten (view_state s) z offset 1) 13 (pick (own_held g here ws z offset) 0 15) ≡ place_number g (is_set here) (read_device g xs ws) (view_state s) z offset
unfolding place_number not_held
place_number_is g here xs ws z s offset ok r =
    rw (held_is g here xs ws z r ((view_state s).generation z) (drive_of g.drives g.unit z offset) (sector_of g.drives g.unit offset) (drive_below g.drives g.unit z (omega (arith, ok.drives_least)) ok.unit_least offset))
    (go (unwritten (view_state s) z offset 1) (own_held g here ws z offset))
  where
    go : (a b : Bool) → pick a 13 (pick b 0 15) ≡ verdict_number (first_refusal ((13, a) ∷ (15, not b) ∷ []))
    go true b = refl
    go false true = refl
    go false false = refl

-- the device by its roles has the same data zones
place_seen : (g : Geometry) (present : ℕ → Bool) (xs ws ds : List ℕ) (s : StateView) (z offset : ℕ) → place_number g present (seen_in g (tables_of xs ws ds)) s z offset ≡ place_number g present (read_device g xs ws) s z offset
unfolding place_number not_held zone_view view_of
place_seen g present xs ws ds s z offset =
    let d = drive_of g.drives g.unit z offset in
    ap (λ (ss : List (List ℕ)). verdict_number (first_refusal ((13, unwritten s z offset 1) ∷ (15, not (present d && ltb (sector_of g.drives g.unit offset) (length ss))) ∷ []))) (data_seen g xs ws ds d z)

and_true : (a : Bool) → a && true ≡ a
and_true true = refl
and_true false = refl

no_buffer : (g : Geometry) → buffer_fits g 0 0 ≡ true
unfolding buffer_fits
no_buffer g = eq-eqb 0 (0 * g.sector) (omega arith)

module _ (g : Geometry) (named : List Bool) (s : State) (a : ℕ) (xs ws ds : List ℕ) where
  abbrev first : ℕ
  first = opening_number g named s 0 0 (length xs) ws ds

  abbrev second : ℕ
  second = zone_number g (call_present g (is_set named) (view_state s)) (seen_in g (tables_of xs ws ds)) (view_state s) (zone_of g a)

  abbrev third : ℕ
  third = place_number g (call_present g (is_set named) (view_state s)) (seen_in g (tables_of xs ws ds)) (view_state s) (zone_of g a) (offset_of g a)

  pub peek_number_is : peek_number g named s a (tables_of xs ws ds) ≡ pick (eqb first 0) (pick (eqb second 0) third second) first
  unfolding peek_number peek_rows opening_number zone_number place_number
  peek_number_is =
      let w = seen_in g (tables_of xs ws ds) in
      let present = call_present g (is_set named) (view_state s) in
      rw (absent_two g named s, no_buffer g, and_true (lengths_fit g (length xs) (length ws) (length ds)))
      (after_six (not (is_valid g && state_within g (view_state s))) (not (lengths_fit g (length xs) (length ws) (length ds))) (pointers_bad g named ws ds) (two_absent g (is_set named) (view_state s))
      (stale g present w (view_state s) (zone_of g a)) (no_zone g (zone_of g a)) (place_rows g present w (view_state s) (zone_of g a) (offset_of g a)))

  -- the number, case by case
  pub peek_first : first ≢ 0 → first ≡ peek_number g named s a (tables_of xs ws ds)
  peek_first h = sym (peek_number_is ∙ ap (λ (b : Bool). pick b (pick (eqb second 0) third second) first) (ne_eqb first 0 h))

  third_is : Opened g named s 0 0 (length xs) ws ds → zone_of g a < g.zones → pick (unwritten (view_state s) (zone_of g a) (offset_of g a) 1) 13 (pick (own_held g (present_list g named s.lost) ws (zone_of g a) (offset_of g a)) 0 15) ≡ third
  third_is o h =
      place_number_is g (present_list g named s.lost) xs ws (zone_of g a) s (offset_of g a) o.valid (opened_readable g named s 0 0 xs ws ds (zone_of g a) o h)
      ∙ ap (λ (p : ℕ → Bool). place_number g p (read_device g xs ws) (view_state s) (zone_of g a) (offset_of g a)) (present_is g named s)
      ∙ sym (place_seen g (call_present g (is_set named) (view_state s)) xs ws ds (view_state s) (zone_of g a) (offset_of g a))

  pub peek_8 : first ≡ 0 → g.zones ≤ zone_of g a → 8 ≡ peek_number g named s a (tables_of xs ws ds)
  peek_8 e h = let q = second_out g named s a 0 0 xs ws ds (opened g named s 0 0 (length xs) ws ds e) h in sym (peek_number_is ∙ rw (eq-eqb first 0 e, q) refl)

  pub peek_late : first ≡ 0 → zone_of g a < g.zones → place_number_on g (present_list g named s.lost) ws (record_at s (zone_of g a)).condition (zone_of g a) (offset_of g a) ≡ peek_number g named s a (tables_of xs ws ds)
  unfolding place_number_on
  peek_late e h =
      let o = opened g named s 0 0 (length xs) ws ds e in
      let b = stale_on g (is_set (present_list g named s.lost)) ws (record_at s (zone_of g a)).condition (zone_of g a) in
      ap (λ (n : ℕ). pick b 7 n) (third_is o h) ∙ after_zone b second third (second_in g named s a 0 0 xs ws ds o h)
      ∙ sym (peek_number_is ∙ ap (λ (c : Bool). pick c (pick (eqb second 0) third second) first) (eq-eqb first 0 e))

  -- what an accepted peek may rely on
  pub record PeekFits : Type 0 where
    pub passed : Opened g named s 0 0 (length xs) ws ds
    pub zone_in_lem : zone_of g a < g.zones

  pub peek_accepted : peek_number g named s a (tables_of xs ws ds) ≡ 0 → PeekFits
  peek_accepted h =
      let (p, q, t) = three first second third (sym peek_number_is ∙ h) in
      let o = opened g named s 0 0 (length xs) ws ds p in
      record { passed = o; zone_in_lem = zone_on_in g (present_list g named s.lost) ws s (zone_of g a) (second_is g named s a 0 0 xs ws ds o ∙ q) }

-- ---- how a peek ends: its part, and where that begins
pub peek_refused : (g : Geometry) (named : List Bool) (s : State) (a : ℕ) (t : Tables) → peek_number g named s a t ≢ 0 → ([] ≡ peek_on g named s a t) × (0 ≡ peek_from g named s a t)
unfolding peek_on peek_from
peek_refused g named s a t h = rw (ne_eqb (peek_number g named s a t) 0 h) (refl, refl)

pub peek_done : (g : Geometry) (named : List Bool) (s : State) (a : ℕ) (t : Tables) → peek_number g named s a t ≡ 0
    → (part_at g t.sectors (place_of g a) ≡ peek_on g named s a t) × (byte_of g (place_of g a) ≡ peek_from g named s a t)
unfolding peek_on peek_from
peek_done g named s a t h = rw (eq-eqb (peek_number g named s a t) 0 h) (refl, refl)

-- an empty part begins where the sectors do
pub past_none : (p : ℕ × ℕ) → p ≡ past 0 p
past_none p = let e : p.1 ≡ 0 + p.1 = omega arith in ap (λ (k : ℕ). let q : ℕ × ℕ = (p.0, k) in q) e
