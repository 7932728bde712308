-- Rule 1 and refusals 4 to 6 as the code finds them: which drive each named drive's log says is lost, the drives present as an array, and
-- the first array number.
use Rattle.std.specs.Prelude.{◌≡◌, refl, Bool, true, false, ◌&&◌, ◌||◌, List, [], ◌++◌, get_or, replicate, ltb, eqb}
use Rattle.std.proofs.Common.{sym, ◌∙◌, arith, lt-ltb, le-ltb, ne_eqb}
use Rattle.std.proofs.Math.Path.{ap, fun_ext}
use Rattle.std.proofs.Math.Bool.{not}
use Prim.Native.Nat.{ℕ, ◌-◌, ◌≤◌, ◌<◌}
use Rattle.std.proofs.Math.Decide.{dec_lt}
use Rattle.tables.specs.declared.Geometry.{Geometry}
use Rattle.tables.specs.meaning.Basics.{pick}
use Rattle.tables.specs.meaning.Below.{any_below, count_below, tabulate}
use Rattle.tables.specs.laws.Below.{any_below_cong, count_below_cong}
use Rattle.tables.specs.meaning.Drives.{find_below, no_drive}
use Rattle.tables.specs.laws.Drives.{find_below_cong}
use Rattle.tables.specs.meaning.Geometry.{Valid, max_drives}
use Rattle.tables.specs.meaning.Device.{Device, ZoneView, blank_zone}
use Rattle.tables.specs.meaning.Tables.{tables_of}
use Rattle.tables.specs.laws.Tables.{device_outside}
use Rattle.logs.specs.meaning.Entry.{general_zone}
use Rattle.logs.specs.meaning.Walk.{walk_log}
use Rattle.logs.specs.code.Query.{heads_of}
use Rattle.logs.specs.meaning.Heads.{labelled, array_in, last_lost}
use Rattle.volume.specs.meaning.Rules.{general_heads, is_lost, is_present, lost_drive}
use Rattle.volume.specs.meaning.Refusals.{two_lost}
use Rattle.volume.specs.meaning.CallContracts.{is_set}
use Rattle.volume.specs.laws.FilledArrays.{fill_at, fill_past}
use Rattle.volume.specs.looking.DriveLogs.{says_lost}
use Rattle.volume.specs.looking.Knowing.{read_device}

-- ---- rule 1
-- what drive e says: the lost drive, or no_drive
abbrev pub said_by : Geometry → List Bool → Device → ℕ → ℕ
said_by g named v e = pick (is_set named e) (says_lost (general_heads g v e)) no_drive

unfoldable pub said_list : Geometry → List Bool → Device → List ℕ
said_list g named v = tabulate (said_by g named v) g.drives ++ replicate (max_drives - g.drives) no_drive

-- whether some drive says that d is lost
abbrev pub said_of : Geometry → List ℕ → ℕ → Bool
said_of g said d = any_below (λ (e : ℕ). eqb (get_or said e 0) d) g.drives

said_one : (a b : Bool) (x d : ℕ) → d < no_drive → eqb (pick a (pick b x no_drive) no_drive) d ≡ a && (b && eqb x d)
said_one true true x d h = refl
said_one true false x d h = ne_eqb no_drive d (λ e. omega arith)
said_one false b x d h = ne_eqb no_drive d (λ e. omega arith)

pub said_is : (g : Geometry) (named : List Bool) (v : Device) (d : ℕ) → d < no_drive
    → said_of g (said_list g named v) d ≡ any_below (λ e. is_set named e && (labelled (general_heads g v e) && eqb (last_lost no_drive (general_heads g v e)) d)) g.drives
unfolding said_list
said_is g named v d h = any_below_cong (λ (e : ℕ). eqb (get_or (said_list g named v) e 0) d) (λ e. is_set named e && (labelled (general_heads g v e) && eqb (last_lost no_drive (general_heads g v e)) d)) g.drives
    (λ e l. ap (λ (x : ℕ). eqb x d) (fill_at (said_by g named v) no_drive 0 g.drives (max_drives - g.drives) e l) ∙ said_one (is_set named e) (labelled (general_heads g v e)) (last_lost no_drive (general_heads g v e)) d h)

-- the drives present: named, and said to be lost by none
abbrev pub present_of : Geometry → List Bool → List ℕ → ℕ → Bool
present_of g named said d = is_set named d && not (said_of g said d)

not_or : (a b : Bool) → a && not b ≡ not (not a || b)
not_or true b = refl
not_or false b = refl

pub look_present_is : (g : Geometry) (named : List Bool) (v : Device) → Valid g → is_set (tabulate (present_of g named (said_list g named v)) g.drives ++ replicate (max_drives - g.drives) false) ≡ is_present g (is_set named) v
unfolding is_present is_lost
look_present_is g named v ok = fun_ext λ d. go d (dec_lt d g.drives)
  where
    go : (d : ℕ) → Dec (d < g.drives) → is_set (tabulate (present_of g named (said_list g named v)) g.drives ++ replicate (max_drives - g.drives) false) d ≡ is_present g (is_set named) v d
    go d (yes h) =
        let k : d < no_drive = omega (arith, ok.drives_most) in
        fill_at (present_of g named (said_list g named v)) false false g.drives (max_drives - g.drives) d h
        ∙ ap (λ (b : Bool). is_set named d && not b) (said_is g named v d k) ∙ not_or (is_set named d) _ ∙ sym (ap (λ (b : Bool). b && not (is_lost g (is_set named) v d)) (lt-ltb d g.drives h))
    go d (no h) = fill_past (present_of g named (said_list g named v)) false g.drives (max_drives - g.drives) d (omega arith) ∙ sym (ap (λ (b : Bool). b && not (is_lost g (is_set named) v d)) (le-ltb d g.drives (omega arith)))

-- lost, below the last drive, is not present
absent_lost : (g : Geometry) (named : List Bool) (v : Device) (d : ℕ) → d < g.drives → not (is_present g (is_set named) v d) ≡ is_lost g (is_set named) v d
unfolding is_present
absent_lost g named v d h = rw (lt-ltb d g.drives h) (not_not (is_lost g (is_set named) v d))
  where
    not_not : (b : Bool) → not (not b) ≡ b
    not_not true = refl
    not_not false = refl

module _ (g : Geometry) (named here : List Bool) (v : Device) (e : is_set here ≡ is_present g (is_set named) v) where
  -- the lost drive
  pub lost_drive_is : find_below (λ d. not (is_set here d)) g.drives ≡ lost_drive g (is_set named) v
  lost_drive_is = ap (λ (p : ℕ → Bool). find_below (λ d. not (p d)) g.drives) e ∙ find_below_cong (λ d. not (is_present g (is_set named) v d)) (is_lost g (is_set named) v) g.drives (absent_lost g named v)

  -- refusal 4
  pub two_lost_is : ltb 1 (count_below (λ d. not (is_set here d)) g.drives) ≡ two_lost g (is_set named) v
  unfolding two_lost
  two_lost_is = ap (ltb 1) (ap (λ (p : ℕ → Bool). count_below (λ d. not (p d)) g.drives) e ∙ count_below_cong (λ d. not (is_present g (is_set named) v d)) (is_lost g (is_set named) v) g.drives (absent_lost g named v))

-- ---- refusal 5, of one drive
abbrev pub label_bad : Geometry → (ℕ → Bool) → Device → ℕ → Bool
label_bad g present v d = present d && (not (labelled (general_heads g v d)) || any_below (λ e. present e && not (eqb (array_in (general_heads g v d)) (array_in (general_heads g v e)))) g.drives)

-- ---- a number that names no drive has no log
pub no_array : (g : Geometry) (xs ws : List ℕ) (d : ℕ) → g.drives ≤ d → 0 ≡ array_in (general_heads g (read_device g xs ws) d)
unfolding general_heads
no_array g xs ws d h =
    let e : read_device g xs ws d general_zone ≡ blank_zone = device_outside g (tables_of xs ws []) d general_zone (rw (le-ltb d g.drives h) refl) in
    sym (ap (λ (x : ZoneView). array_in (heads_of (walk_log g d false x.sectors))) e)
