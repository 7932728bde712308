-- Read and peek on the tables, and the laws by which their loops and refusals are proved.
use Rattle.std.specs.Prelude.{◌≡◌, ◌≢◌, Bool, ◌&&◌, not, length, get_or, take, drop, eqb}
use Rattle.std.proofs.Math.Path.{refl, sym, ap}
use Rattle.std.proofs.Common.{ap₂, ◌∙◌, mul-le-mul, mul-le-mul_right, suc-mul, add-one, arith, length-append, length-drop, take_at, take_all, length-take-le}
use Rattle.std.proofs.Math.Bool.{true, false}
use Prim.Native.Nat.{ℕ, suc, ◌+◌, ◌-◌, ◌*◌, ◌≤◌, ◌<◌}
use Rattle.std.proofs.Math.Decide.{dec_lt, ℕ_discrete}
use mathlib.Core.List.{List, [], ◌∷◌, ◌++◌, append_assoc, append-nil}
use Rattle.std.proofs.Math.Dec.{ltb}
use borrow.Author.Tests.{lt-ltb, le-ltb, ltb-true, eqb-true, eq-eqb, ne_eqb}
use Rattle.tables.specs.declared.Geometry.{Geometry}
use Rattle.tables.specs.meaning.Basics.{pick}
use Rattle.tables.specs.laws.Basics.{and_split}
use Rattle.tables.specs.meaning.Below.{any_below, tabulate_from}
use Rattle.tables.specs.laws.Below.{all_below_all, any_below_cong, tabulate_from_add, tabulate_from_cong}
use Rattle.tables.specs.meaning.Lists.{concat}
use Rattle.tables.specs.laws.Lists.{concat_append}
use Rattle.tables.specs.meaning.Geometry.{Valid, zone_sectors, data_zone}
use Rattle.tables.specs.laws.Sizes.{zone_small}
use Rattle.tables.specs.meaning.Placement.{needed}
use Rattle.tables.specs.meaning.Device.{Device}
use Rattle.tables.specs.meaning.Tables.{lengths_fit, buffer_fits, pointers_bad, Tables, tables_of, cell}
use Rattle.volume.specs.declared.Condition.{Condition}
use Rattle.volume.specs.declared.State.{State}
use Rattle.volume.specs.declared.Zone.{Zone}
use Rattle.volume.specs.declared.roles.LogPlaces.{LogPlaces}
use Rattle.volume.specs.declared.Answer.TheVariants.{Refused}
use Rattle.volume.specs.meaning.State.{pointer_in, StateView, call_present}
use Rattle.volume.specs.meaning.Rules.{View, value_of, known, value_at}
use Rattle.volume.specs.meaning.Roles.{by_roles}
use Rattle.volume.specs.checks.ZoneChecks.{stale_on, PointersReach}
use Rattle.volume.specs.meaning.Refusals.{state_within, two_absent, first_refusal, stale_in, stale, no_zone, bad_run, gone_in, zone_of, offset_of, read_rows}
use Rattle.tables.specs.meaning.GeometryTest.{is_valid}
use Rattle.tables.specs.laws.TablesFrame.{lengths_are, pointers_good}
use Rattle.volume.specs.checks.CheckLaws.{present_list, present_is, absent_two, opening_number, Opened, opened, after_four}
use Rattle.volume.specs.meaning.CallContracts.{record_at, view_state, is_set, verdict_number, seen_in, read_number, values_on, read_on}
use Rattle.volume.specs.looking.Knowing.{read_device, Readable, own_held, all_held, own_sector}
use Rattle.volume.specs.laws.RulesUnread.{value_alike}
use Rattle.volume.specs.laws.CallsUnread.{gone_in_alike}
use Rattle.volume.specs.looking.DriveLogs.{Sized}
use Rattle.volume.specs.looking.SeenByRoles.{Seen, seen_rule, data_seen, view_seen}
use Rattle.volume.specs.looking.KnowingLaws.{written_is}
use Rattle.volume.specs.looking.KnowingValues.{value_held}

-- ---- the rows after the opening: of a zone, and of count sectors from offset in it
abbrev pub zone_rows : Geometry → (ℕ → Bool) → Device → StateView → ℕ → List (ℕ × Bool)
zone_rows g present v state z = (7, stale g present v state z) ∷ (8, no_zone g z) ∷ []

-- c: the zone's condition, n: its generation
abbrev pub run_rows : Geometry → (ℕ → Bool) → Device → Condition → ℕ → ℕ → ℕ → ℕ → List (ℕ × Bool)
run_rows g present v c n z offset count = (9, bad_run g offset count) ∷ (13, ltb (pointer_in c) (offset + count)) ∷ (15, gone_in g present v z n offset count) ∷ []

unfoldable pub zone_number : Geometry → (ℕ → Bool) → Device → StateView → ℕ → ℕ
zone_number g present v state z = verdict_number (first_refusal (zone_rows g present v state z))

unfoldable pub run_number : Geometry → (ℕ → Bool) → Device → Condition → ℕ → ℕ → ℕ → ℕ → ℕ
run_number g present v c n z offset count = verdict_number (first_refusal (run_rows g present v c n z offset count))

-- refusals 7 and 8 on the written pointers
unfoldable pub zone_number_on : Geometry → List Bool → List ℕ → State → ℕ → ℕ
zone_number_on g here ws s z = pick (ltb z g.zones) (pick (stale_on g (is_set here) ws (record_at s z).condition z) 7 0) 8

-- refusals 9 and 13
abbrev early_number : Bool → Bool → ℕ
early_number bad past = verdict_number (first_refusal ((9, bad) ∷ (13, past) ∷ []))

-- refusals 7, 9 and 13 of a zone that there is
unfoldable pub late_number : Geometry → List Bool → List ℕ → Condition → ℕ → ℕ → ℕ → ℕ
late_number g here ws c z offset count = pick (stale_on g (is_set here) ws c z) 7 (early_number (bad_run g offset count) (ltb (pointer_in c) (offset + count)))

-- the device by its roles, without durable pointers
abbrev pub read_by_roles : Geometry → List ℕ → List ℕ → Device
read_by_roles g xs ws = by_roles g (read_device g xs ws)

-- what reading a run relies on, once refusals 1 to 4, 7 to 9 and 13 have passed
pub record RunReady (zone : Zone) (xs ws : List ℕ) (pointer offset count : ℕ) (out : List ℕ) : Type 0 where
  pub readable : Readable zone.geometry zone.here xs ws zone.number
  pub first : zone.geometry.logs ≡ 0
  pub run_in : offset + count ≤ zone_sectors zone.geometry
  pub buffer : length out ≡ count * zone.geometry.sector
  pub reaches : PointersReach zone.geometry zone.here ws zone.number pointer
  pub below : offset + count ≤ pointer

-- refusal 15, and what it leaves in the buffer: else the values
pub record RunRead (zone : Zone) (xs ws : List ℕ) (offset count : ℕ) (out : List ℕ) (gone : Bool) (left : List ℕ) : Type 0 where
  pub gone_is : gone ≡ gone_in zone.geometry (is_set zone.here) (read_by_roles zone.geometry xs ws) zone.number zone.generation offset count
  pub left_is : left ≡ pick gone out (values_on zone.geometry (is_set zone.here) (read_by_roles zone.geometry xs ws) zone.number zone.generation offset count)

-- ---- a buffer filled sector after sector
pub run_small : (g : Geometry) (offset count i : ℕ) → Valid g → offset + count ≤ zone_sectors g → i < count → (i * g.sector + g.sector ≤ count * g.sector) × (count * g.sector ≤ 1879048192)
run_small g offset count i ok h l =
    let m : suc i * g.sector ≤ count * g.sector = mul-le-mul_right g.sector l in
    let k : count * g.sector ≤ 458752 * 4096 = mul-le-mul {n₂ = 458752} {m₂ = 4096} (omega (arith, h, (zone_small g ok).1)) ok.sector_most in
    (omega (arith, rw suc-mul at m), omega arith)

pub part_long : (b i n : ℕ) (out : List ℕ) → i * b + b ≤ n → length out ≡ n → length (take (i * b + b - i * b) (drop (i * b) out)) ≡ b
part_long b i n out h e =
    let k : i * b + b - i * b ≡ b = omega arith in
    rw k (length-take-le b (drop (i * b) out) (rw length-drop (omega arith)))

pub filled_more : (b i n offset : ℕ) (f : ℕ → List ℕ) (out v rest : List ℕ) → i * b + b ≤ n → length out ≡ n → length v ≡ b → v ≡ f (offset + i) → take (i * b) out ≡ concat (tabulate_from f offset i)
    → take ((i + 1) * b) (take (i * b) out ++ (v ++ rest)) ≡ concat (tabulate_from f offset (i + 1))
filled_more b i n offset f out v rest h e l q t =
    let k : length (take (i * b) out ++ v) ≡ (i + 1) * b = length-append (take (i * b) out) v ∙ ap₂ (λ (x y : ℕ). x + y) (length-take-le (i * b) out (omega arith)) l ∙ (rw (add-one, suc-mul) (omega arith)) in
    ap (take ((i + 1) * b)) (sym (append_assoc (take (i * b) out) v rest)) ∙ take_at (take (i * b) out ++ v) rest ((i + 1) * b) k
    ∙ ap₂ (λ (x y : List ℕ). x ++ y) t (q ∙ sym (append-nil (f (offset + i))))
    ∙ sym (ap concat (tabulate_from_add f offset i 1) ∙ concat_append (tabulate_from f offset i) (f (offset + i) ∷ []))

pub filled_all : (b count offset : ℕ) (f : ℕ → List ℕ) (out : List ℕ) → length out ≡ count * b → take (count * b) out ≡ concat (tabulate_from f offset count) → out ≡ concat (tabulate_from f offset count)
filled_all b count offset f out e t = sym (take_all (count * b) out (omega arith)) ∙ t

module _ (g : Geometry) (here : List Bool) (xs ws : List ℕ) (z : ℕ) (r : Readable g here xs ws z) where
  -- ---- a zone that exists is stale on the device exactly if it is so on the tables
  pub stale_is : (s : State) → stale g (is_set here) (read_device g xs ws) (view_state s) z ≡ stale_on g (is_set here) ws (record_at s z).condition z
  unfolding stale stale_on
  stale_is s =
      ap (λ (b : Bool). b && any_below (λ d. is_set here d && stale_in (record_at s z).condition (length (read_device g xs ws d (data_zone z)).sectors) (needed g.drives g.unit z (pointer_in (record_at s z).condition) d)) g.drives) (lt-ltb z g.zones r.zone_in_lem)
      ∙ any_below_cong (λ d. is_set here d && stale_in (record_at s z).condition (length (read_device g xs ws d (data_zone z)).sectors) (needed g.drives g.unit z (pointer_in (record_at s z).condition) d))
      (λ d. is_set here d && stale_in (record_at s z).condition (get_or ws (cell g d (data_zone z)) 0) (needed g.drives g.unit z (pointer_in (record_at s z).condition) d)) g.drives (λ d hd. at d hd (is_set here d) refl)
    where
      at : (d : ℕ) → d < g.drives → (b : Bool) → is_set here d ≡ b
          → b && stale_in (record_at s z).condition (length (read_device g xs ws d (data_zone z)).sectors) (needed g.drives g.unit z (pointer_in (record_at s z).condition) d)
          ≡ b && stale_in (record_at s z).condition (get_or ws (cell g d (data_zone z)) 0) (needed g.drives g.unit z (pointer_in (record_at s z).condition) d)
      at d hd true e = ap (λ (n : ℕ). stale_in (record_at s z).condition n (needed g.drives g.unit z (pointer_in (record_at s z).condition) d)) (written_is g here xs ws z r d (data_zone z) hd e (omega (arith, r.zone_in_lem)))
      at d hd false e = refl

  pub held_values : (n offset count : ℕ) → Valid g → offset + count ≤ zone_sectors g → all_held g here ws z offset count ≡ true
      → concat (tabulate_from (own_sector g xs z) offset count) ≡ values_on g (is_set here) (read_device g xs ws) z n offset count
  unfolding values_on
  held_values n offset count ok m h =
      ap concat (tabulate_from_cong (own_sector g xs z) (value_at g (is_set here) (read_device g xs ws) z n) offset offset count
      (λ i l. sym (value_held g here xs ws z r ok n (offset + i) (omega (arith, l, m)) (all_below_all (λ i. own_held g here ws z (offset + i)) count i h l))))

  pub zone_number_is : (s : State) → zone_number g (is_set here) (read_device g xs ws) (view_state s) z ≡ zone_number_on g here ws s z
  unfolding zone_number zone_number_on
  zone_number_is s = rw (stale_is s, lt-ltb z g.zones r.zone_in_lem) (go (stale_on g (is_set here) ws (record_at s z).condition z))
    where
      go : (b : Bool) → verdict_number (first_refusal ((7, b) ∷ (8, false) ∷ [])) ≡ pick b 7 0
      go true = refl
      go false = refl

-- ---- what the opening gives
present_named : (g : Geometry) (named : List Bool) (s : State) (d : ℕ) → is_set (present_list g named s.lost) d ≡ true → is_set named d ≡ true
unfolding call_present
present_named g named s d h =
    let k : ltb d g.drives && (is_set named d && not (eqb d s.lost)) ≡ true = sym (ap (λ (p : ℕ → Bool). p d) (present_is g named s)) ∙ h in
    (and_split (is_set named d) (not (eqb d s.lost)) (and_split (ltb d g.drives) (is_set named d && not (eqb d s.lost)) k).1).0

pub opened_readable : (g : Geometry) (named : List Bool) (s : State) (count bytes : ℕ) (xs ws ds : List ℕ) (z : ℕ) → Opened g named s count bytes (length xs) ws ds → z < g.zones → Readable g (present_list g named s.lost) xs ws z
opened_readable g named s count bytes xs ws ds z o h =
    let l = lengths_are g (length xs) (length ws) (length ds) o.lengths in
    record {
      zone_in_lem = h;
      sectors_long = l.0;
      written_long = l.1;
      pointers = λ d y hd e hy. (pointers_good g named ws ds d y o.pointers hd (present_named g named s d e) hy).0;
    }

pub buffer_long : (g : Geometry) (count bytes : ℕ) → buffer_fits g count bytes ≡ true → bytes ≡ count * g.sector
unfolding buffer_fits
buffer_long g count bytes h = eqb-true bytes (count * g.sector) h

-- ---- the device by its roles: the same data zones, and no durable pointer is looked at
stale_data : (g : Geometry) (present : ℕ → Bool) (v w : Device) (s : StateView) (z : ℕ) → ((d : ℕ) → (v d (data_zone z)).sectors ≡ (w d (data_zone z)).sectors) → stale g present v s z ≡ stale g present w s z
unfolding stale
stale_data g present v w s z same i = ltb z g.zones && any_below (λ d. present d && stale_in (s.condition z) (length (same d i)) (needed g.drives g.unit z (pointer_in (s.condition z)) d)) g.drives

zone_seen : (g : Geometry) (present : ℕ → Bool) (xs ws ds : List ℕ) (s : StateView) (z : ℕ) → zone_number g present (seen_in g (tables_of xs ws ds)) s z ≡ zone_number g present (read_device g xs ws) s z
unfolding zone_number
zone_seen g present xs ws ds s z = ap (λ (b : Bool). verdict_number (first_refusal ((7, b) ∷ (8, no_zone g z) ∷ []))) (stale_data g present (seen_in g (tables_of xs ws ds)) (read_device g xs ws) s z (λ d. data_seen g xs ws ds d z))

gone_seen : (g : Geometry) → g.logs ≡ 0 → (present : ℕ → Bool) (xs ws ds : List ℕ) → Sized g xs ws → (z n offset count : ℕ) → gone_in g present (seen_in g (tables_of xs ws ds)) z n offset count ≡ gone_in g present (read_by_roles g xs ws) z n offset count
unfolding gone_in
gone_seen g first present xs ws ds sized z n offset count = ap (λ (v : View). any_below (λ i. not (known g.drives g.unit z v (offset + i))) count) (view_seen g first xs ws ds sized present z n)

pub values_seen : (g : Geometry) → g.logs ≡ 0 → (present : ℕ → Bool) (xs ws ds : List ℕ) → Sized g xs ws → (z n offset count : ℕ) → values_on g present (seen_in g (tables_of xs ws ds)) z n offset count ≡ values_on g present (read_by_roles g xs ws) z n offset count
unfolding values_on value_at
values_seen g first present xs ws ds sized z n offset count = ap (λ (v : View). concat (tabulate_from (value_of g.drives g.unit z v) offset count)) (view_seen g first xs ws ds sized present z n)

-- as the code sees the device by its roles
module _ (g : Geometry) (xs ws : List ℕ) (p : LogPlaces) (ps : List ℕ) (s : Seen g xs ws p ps) (present : ℕ → Bool) (z n offset count : ℕ) where
  pub gone_placed : gone_in p.geometry present (read_device p.geometry xs ps) z n offset count ≡ gone_in g present (read_by_roles g xs ws) z n offset count
  gone_placed = seen_rule g xs ws p ps s (λ (k : Geometry) (v : Device). gone_in k present v z n offset count) (λ m v. gone_in_alike g m present v z n offset count) []

  pub values_placed : values_on p.geometry present (read_device p.geometry xs ps) z n offset count ≡ values_on g present (read_by_roles g xs ws) z n offset count
  unfolding values_on
  values_placed = seen_rule g xs ws p ps s (λ (k : Geometry) (v : Device). values_on k present v z n offset count) (λ m v. ap (λ (f : ℕ → List ℕ). concat (tabulate_from f offset count)) (value_alike g m present v z n)) []

-- ---- the rows of a read: the opening's, its zone's, its run's
pub after_two : (a b : Bool) (rest : List (ℕ × Bool)) → verdict_number (first_refusal ((7, a) ∷ (8, b) ∷ rest))
    ≡ pick (eqb (verdict_number (first_refusal ((7, a) ∷ (8, b) ∷ []))) 0) (verdict_number (first_refusal rest)) (verdict_number (first_refusal ((7, a) ∷ (8, b) ∷ [])))
after_two true b rest = refl
after_two false true rest = refl
after_two false false rest = refl

-- the number of rows 1 to 4, then of 7 and 8, then of those behind them
abbrev pub four_number : Bool → Bool → Bool → Bool → ℕ
four_number a b c d = verdict_number (first_refusal ((1, a) ∷ (2, b) ∷ (3, c) ∷ (4, d) ∷ []))

abbrev pub two_number : Bool → Bool → ℕ
two_number e f = verdict_number (first_refusal ((7, e) ∷ (8, f) ∷ []))

pub after_six : (a b c d e f : Bool) (rest : List (ℕ × Bool)) → verdict_number (first_refusal ((1, a) ∷ (2, b) ∷ (3, c) ∷ (4, d) ∷ (7, e) ∷ (8, f) ∷ rest))
    ≡ pick (eqb (four_number a b c d) 0) (pick (eqb (two_number e f) 0) (verdict_number (first_refusal rest)) (two_number e f)) (four_number a b c d)
after_six a b c d e f rest = after_four a b c d ((7, e) ∷ (8, f) ∷ rest) ∙ ap (λ (n : ℕ). pick (eqb (four_number a b c d) 0) n (four_number a b c d)) (after_two e f rest)

-- the number of a zone that there is, then the rest
pub after_zone : (b : Bool) (second third : ℕ) → second ≡ pick b 7 0 → pick b 7 third ≡ pick (eqb second 0) third second
after_zone true second third e = rw e refl
after_zone false second third e = rw e refl

pub three : (a b c : ℕ) → pick (eqb a 0) (pick (eqb b 0) c b) a ≡ 0 → (a ≡ 0) × (b ≡ 0) × (c ≡ 0)
three a b c h = go (ℕ_discrete a 0) (ℕ_discrete b 0)
  where
    go : Dec (a ≡ 0) → Dec (b ≡ 0) → (a ≡ 0) × (b ≡ 0) × (c ≡ 0)
    go (yes p) (yes q) = (p, q, rw (eq-eqb a 0 p, eq-eqb b 0 q) at h)
    go (yes p) (no q) = absurd (q (rw (eq-eqb a 0 p, ne_eqb b 0 q) at h))
    go (no p) q = absurd (p (rw (ne_eqb a 0 p) at h))

-- stale, then the run's rows: the numbers that need no log, then 15
late_then : (s a b c : Bool) → pick (eqb (pick s 7 0) 0) (verdict_number (first_refusal ((9, a) ∷ (13, b) ∷ (15, c) ∷ []))) (pick s 7 0) ≡ pick (eqb (pick s 7 (early_number a b)) 0) (pick c 15 0) (pick s 7 (early_number a b))
late_then true a b c = refl
late_then false true b c = refl
late_then false false true c = refl
late_then false false false true = refl
late_then false false false false = refl

pub late_none : (s a b : Bool) → pick s 7 (early_number a b) ≡ 0 → (s ≡ false) × (a ≡ false) × (b ≡ false)
late_none false false false h = (refl, refl, refl)
late_none false false true h = absurd (omega arith)
late_none false true b h = absurd (omega arith)
late_none true a b h = absurd (omega arith)

pub zone_on_in : (g : Geometry) (here : List Bool) (ws : List ℕ) (s : State) (z : ℕ) → zone_number_on g here ws s z ≡ 0 → z < g.zones
unfolding zone_number_on
zone_on_in g here ws s z h = go (ltb z g.zones) refl h
  where
    go : (b : Bool) → ltb z g.zones ≡ b → ◌≡◌ {A = ℕ} (pick b (pick (stale_on g (is_set here) ws (record_at s z).condition z) 7 0) 8) 0 → z < g.zones
    go true e k = ltb-true z g.zones e
    go false e k = absurd (omega (arith, k))

module _ (g : Geometry) (named : List Bool) (s : State) (a count bytes : ℕ) (xs ws ds : List ℕ) where
  abbrev first : ℕ
  first = opening_number g named s count bytes (length xs) ws ds

  abbrev second : ℕ
  second = zone_number g (call_present g (is_set named) (view_state s)) (seen_in g (tables_of xs ws ds)) (view_state s) (zone_of g a)

  abbrev third : ℕ
  third = run_number g (call_present g (is_set named) (view_state s)) (seen_in g (tables_of xs ws ds)) (record_at s (zone_of g a)).condition (record_at s (zone_of g a)).generation (zone_of g a) (offset_of g a) count

  pub read_number_is : read_number g named s a count bytes (tables_of xs ws ds) ≡ pick (eqb first 0) (pick (eqb second 0) third second) first
  unfolding read_number read_rows opening_number zone_number run_number
  read_number_is =
      let w = seen_in g (tables_of xs ws ds) in
      let present = call_present g (is_set named) (view_state s) in
      rw (absent_two g named s) (after_six (not (is_valid g && state_within g (view_state s))) (not (lengths_fit g (length xs) (length ws) (length ds) && buffer_fits g count bytes)) (pointers_bad g named ws ds) (two_absent g (is_set named) (view_state s))
      (stale g present w (view_state s) (zone_of g a)) (no_zone g (zone_of g a)) (run_rows g present w (record_at s (zone_of g a)).condition (record_at s (zone_of g a)).generation (zone_of g a) (offset_of g a) count))

  -- the number, case by case
  pub read_first : first ≢ 0 → first ≡ read_number g named s a count bytes (tables_of xs ws ds)
  read_first h = sym (read_number_is ∙ ap (λ (b : Bool). pick b (pick (eqb second 0) third second) first) (ne_eqb first 0 h))

  -- as the code decides them
  pub second_is : Opened g named s count bytes (length xs) ws ds → zone_number_on g (present_list g named s.lost) ws s (zone_of g a) ≡ second
  unfolding zone_number zone_number_on stale
  second_is o = go (dec_lt (zone_of g a) g.zones)
    where
      go : Dec (zone_of g a < g.zones) → zone_number_on g (present_list g named s.lost) ws s (zone_of g a) ≡ zone_number g (call_present g (is_set named) (view_state s)) (seen_in g (tables_of xs ws ds)) (view_state s) (zone_of g a)
      go (yes h) =
          sym (zone_number_is g (present_list g named s.lost) xs ws (zone_of g a) (opened_readable g named s count bytes xs ws ds (zone_of g a) o h) s)
          ∙ ap (λ (p : ℕ → Bool). zone_number g p (read_device g xs ws) (view_state s) (zone_of g a)) (present_is g named s)
          ∙ sym (zone_seen g (call_present g (is_set named) (view_state s)) xs ws ds (view_state s) (zone_of g a))
      go (no h) = rw (le-ltb (zone_of g a) g.zones (omega arith)) refl

  -- whether some sector is not known, as the code finds it
  abbrev gone : Bool
  gone = gone_in g (is_set (present_list g named s.lost)) (read_by_roles g xs ws) (zone_of g a) (record_at s (zone_of g a)).generation (offset_of g a) count

  pub opened_sized : Opened g named s count bytes (length xs) ws ds → Sized g xs ws
  opened_sized o = let l = lengths_are g (length xs) (length ws) (length ds) o.lengths in record { sectors_long = l.0; written_long = l.1 }

  gone_is : Opened g named s count bytes (length xs) ws ds → gone ≡ gone_in g (call_present g (is_set named) (view_state s)) (seen_in g (tables_of xs ws ds)) (zone_of g a) (record_at s (zone_of g a)).generation (offset_of g a) count
  gone_is o =
      ap (λ (p : ℕ → Bool). gone_in g p (read_by_roles g xs ws) (zone_of g a) (record_at s (zone_of g a)).generation (offset_of g a) count) (present_is g named s)
      ∙ sym (gone_seen g o.logs_first (call_present g (is_set named) (view_state s)) xs ws ds (opened_sized o) (zone_of g a) (record_at s (zone_of g a)).generation (offset_of g a) count)

  -- of a zone that there is, and of none
  pub second_in : Opened g named s count bytes (length xs) ws ds → zone_of g a < g.zones → second ≡ pick (stale_on g (is_set (present_list g named s.lost)) ws (record_at s (zone_of g a)).condition (zone_of g a)) 7 0
  unfolding zone_number_on
  second_in o h = sym (second_is o) ∙ rw (lt-ltb (zone_of g a) g.zones h) refl

  pub second_out : Opened g named s count bytes (length xs) ws ds → g.zones ≤ zone_of g a → second ≡ 8
  unfolding zone_number_on
  second_out o h = sym (second_is o) ∙ rw (le-ltb (zone_of g a) g.zones h) refl

  pub read_8 : first ≡ 0 → g.zones ≤ zone_of g a → 8 ≡ read_number g named s a count bytes (tables_of xs ws ds)
  read_8 e h = let q = second_out (opened g named s count bytes (length xs) ws ds e) h in sym (read_number_is ∙ rw (eq-eqb first 0 e, q) refl)

  -- the numbers that need no log, as the code finds them
  abbrev late : ℕ
  late = late_number g (present_list g named s.lost) ws (record_at s (zone_of g a)).condition (zone_of g a) (offset_of g a) count

  pub late_is : first ≡ 0 → zone_of g a < g.zones → read_number g named s a count bytes (tables_of xs ws ds) ≡ pick (eqb late 0) (pick gone 15 0) late
  unfolding late_number run_number
  late_is e h =
      let o = opened g named s count bytes (length xs) ws ds e in
      let b = stale_on g (is_set (present_list g named s.lost)) ws (record_at s (zone_of g a)).condition (zone_of g a) in
      let bad = bad_run g (offset_of g a) count in
      let past = ltb (pointer_in (record_at s (zone_of g a)).condition) (offset_of g a + count) in
      read_number_is ∙ ap (λ (c : Bool). pick c (pick (eqb second 0) third second) first) (eq-eqb first 0 e)
      ∙ ap (λ (n : ℕ). pick (eqb n 0) third n) (second_in o h)
      ∙ ap (λ (c : Bool). pick (eqb (pick b 7 0) 0) (verdict_number (first_refusal ((9, bad) ∷ (13, past) ∷ (15, c) ∷ []))) (pick b 7 0)) (sym (gone_is o)) ∙ late_then b bad past gone

-- ---- how a read ends
module _ (g : Geometry) (named : List Bool) (s : State) (a count : ℕ) (out : List ℕ) (t : Tables) where
  pub read_refused : read_number g named s a count (length out) t ≢ 0 → ((read_on g named s a count out t).answer ≡ Refused (read_number g named s a count (length out) t)) × ((read_on g named s a count out t).buffer ≡ out)
  unfolding read_on
  read_refused h = rw (ne_eqb (read_number g named s a count (length out) t) 0 h) (refl, refl)
