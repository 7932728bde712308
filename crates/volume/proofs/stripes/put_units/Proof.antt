use Prim.Native.Nat.{ℕ, ◌+◌, ◌-◌, ◌*◌, ◌≤◌, ◌<◌}
use native.Mathlib.Nat.{mul-le-mul}
use mathlib.Core.Path.{◌≡◌, refl, sym, ap, ◌∙◌}
use mathlib.Core.Bool.{Bool}
use mathlib.Core.List.{List}
use mathlib.Core.Logic.{◌≢◌}
use native.Mathlib.Omega.{arith}
use lib.ListN.{length, get_or, take, drop}
use lib.Dec.{eqb}
use Rattle.tables.specs.meaning.Basics.{pick}
use Rattle.tables.specs.meaning.Lists.{overlay}
use Rattle.tables.specs.meaning.Placement.{unit_drive}
use Rattle.tables.specs.meaning.Tables.{cell}
use Rattle.tables.specs.meaning.Xor.{xor_bytes}
use Rattle.tables.specs.laws.Within.{Apart}
use Rattle.volume.specs.stripes.WholeStripe.{unit_in, stripe_unit_place, unit_inside, unit_long, place_inside, place_apart, one_next, three_next}
use Rattle.volume.specs.stripes.StripeDue.{fitting_same}
use borrow.Author.Rules.{rules}
use Rattle.volume.proofs.stripes.put_units.Statement.{statement}
use Rattle.volume.proofs.stripes.put_units.Tie as tie

-- the bytes of a unit are few
small : (s : tie.Start) → s.args.s.geometry.unit * s.args.s.geometry.sector ≤ 65536
small s = mul-le-mul {n₂ = 16} {m₂ = 4096} s.requires.0.unit_most s.requires.0.sector_most

abbrev bytes : tie.Start → ℕ
bytes s = s.args.s.geometry.unit * s.args.s.geometry.sector

-- every drive has room
room : (s : tie.Start) (j : ℕ) → j < s.args.s.geometry.drives → let w = s.args.s in get_or s.args.written.now (cell w.geometry (unit_drive w.geometry.drives w.parity j) w.zone) 0 < w.geometry.capacity
room s j h = omega (arith, s.requires.1.0.fit.room j h, s.requires.0.unit_least)

place-of-requires : tie.Need-place_of-row-requires
place-of-requires c κs =
    let s = c.before.before.before.before.before in
    let f = s.requires.1.0 in
    let h : s.args.s.geometry.drives - 1 < s.args.s.geometry.drives = omega arith in
    (s.requires.0, (f.fit.zone_in_lem, f.parity_in, h, f.fit.written_long, room s (s.args.s.geometry.drives - 1) h))

place-of-requires-2 : tie.Need-place_of-to-requires
place-of-requires-2 c κs =
    let s = c.before.before.before.before.before.before in
    let f = s.requires.1.0 in
    let h : s.args.j < s.args.s.geometry.drives = omega (arith, s.requires.1.1) in
    (s.requires.0, (f.fit.zone_in_lem, f.parity_in, h, f.fit.written_long, room s s.args.j h))

-- where unit j's bytes begin
product : (s : tie.Start) → s.args.j * bytes s ≤ 524288
product s = mul-le-mul {n₂ = 8} {m₂ = 65536} (omega (arith, s.requires.0.drives_most, s.requires.1.1)) (small s)

inside : (s : tie.Start) (j : ℕ) → j + 1 < s.args.s.geometry.drives → s.args.s.from + j * bytes s + bytes s ≤ length s.args.buffer.now
inside s j h = let w = s.args.s in unit_inside w.geometry w.zone w.parity w.from s.args.sectors.now s.args.written.now s.args.buffer.now s.requires.1.0 j h

-- a unit's bytes, as a part of the buffer
abbrev part : tie.Start → ℕ → List ℕ
part s at = take (at + bytes s - at) (drop at s.args.buffer.now)

abbrev unit : tie.Start → ℕ → List ℕ
unit s i = unit_in s.args.s.geometry s.args.buffer.now s.args.s.from i

part-is : (s : tie.Start) (i at : ℕ) → at ≡ s.args.s.from + i * bytes s → part s at ≡ unit s i
part-is s i at e = let l : at + bytes s - at ≡ bytes s = omega arith in rw (l, e) refl

part-size : (s : tie.Start) (i at : ℕ) → i + 1 < s.args.s.geometry.drives → at ≡ s.args.s.from + i * bytes s → length (part s at) ≡ bytes s
part-size s i at h e =
    let w = s.args.s in
    ap (λ (x : List ℕ). length x) (part-is s i at e) ∙ unit_long w.geometry w.zone w.parity w.from s.args.sectors.now s.args.written.now s.args.buffer.now s.requires.1.0 i h

-- the places of units, as code found them
abbrev place : tie.Start → ℕ → ℕ
place s i = let w = s.args.s in stripe_unit_place w.geometry w.zone w.parity s.args.written.now i

fits : (s : tie.Start) (i to n : ℕ) → i < s.args.s.geometry.drives → to ≡ place s i → n ≡ bytes s → to + n ≤ length s.args.sectors.now
fits s i to n h e l =
    let w = s.args.s in
    rw (e, l, s.requires.1.0.fit.sectors_long) (place_inside w.geometry w.zone w.parity w.from s.args.sectors.now s.args.written.now s.args.buffer.now s.requires.1.0 i h)

apart : (s : tie.Start) (i k to at n : ℕ) → i < s.args.s.geometry.drives → k < s.args.s.geometry.drives → i ≢ k → to ≡ place s i → at ≡ place s k → n ≡ bytes s → Apart to at n
apart s i k to at n hi hk ne e f l =
    let w = s.args.s in
    rw (e, f, l) (place_apart w.geometry w.zone w.parity w.from s.args.sectors.now s.args.written.now s.args.buffer.now s.requires.1.0 i k hi hk ne)

put-unit-requires : tie.Need-put_unit-requires
put-unit-requires c κs =
    let s = c.before.before.before.before.before.before.before.before.before.before.before in
    let j = s.args.j in
    let last = s.args.s.geometry.drives - 1 in
    let to = c.place_of-to in
    let row = c.before.before.before.before.before.place_of-row in
    let l = part-size s j (s.args.s.from + j * bytes s) s.requires.1.1 refl in
    let hj : j < s.args.s.geometry.drives = omega (arith, s.requires.1.1) in
    let hl : last < s.args.s.geometry.drives = omega (arith, s.requires.1.1) in
    (fits s j to.result _ hj to.ensures l, fits s last row.result _ hl row.ensures l, apart s j last to.result row.result _ hj hl (λ e. omega (arith, s.requires.1.1, e)) to.ensures row.ensures l)

returns : tie.Need-returns-then-last-j
returns c =
    let s = c.before.before.before.before.before.before.before.before.before.before.before.before.before.before in
    let a = s.args in
    let w = a.s in
    let to = c.place_of-to in
    let row = c.before.before.before.before.before.before.before.before.place_of-row in (
      omega arith,
      s.requires.1.1,
      λ xs lx e.
          c.put_unit.ensures
          ∙ rw (to.ensures, row.ensures, part-is s a.j (w.from + a.j * bytes s) refl)
          (one_next w.geometry w.zone w.parity w.from xs a.written.now a.buffer.now (fitting_same w a.sectors.now xs a.written.now a.buffer.now lx s.requires.1.0) a.j a.sectors.now s.requires.1.1 e),
    )

-- where there are three
place-of-requires-3 : tie.Need-place_of-second-requires
place-of-requires-3 c κs =
    let s = c.before.before.before.before.before.before.before.before.before in
    let f = s.requires.1.0 in
    let h : s.args.j + 1 < s.args.s.geometry.drives = s.requires.1.1 in
    (s.requires.0, (f.fit.zone_in_lem, f.parity_in, h, f.fit.written_long, room s (s.args.j + 1) h))

place-of-requires-4 : tie.Need-place_of-third-requires
place-of-requires-4 c κs =
    let s = c.before.before.before.before.before.before.before.before.before.before in
    let f = s.requires.1.0 in
    let h : s.args.j + 2 < s.args.s.geometry.drives = omega arith in
    (s.requires.0, (f.fit.zone_in_lem, f.parity_in, h, f.fit.written_long, room s (s.args.j + 2) h))

-- where the next two begin
second : (s : tie.Start) → s.args.s.from + s.args.j * bytes s + bytes s ≡ s.args.s.from + (s.args.j + 1) * bytes s
second s = omega arith

third : (s : tie.Start) → s.args.s.from + s.args.j * bytes s + bytes s + bytes s ≡ s.args.s.from + (s.args.j + 2) * bytes s
third s = omega arith

inside-third : (s : tie.Start) → s.args.j + 3 < s.args.s.geometry.drives → s.args.s.from + s.args.j * bytes s + bytes s + bytes s + bytes s ≤ length s.args.buffer.now
inside-third s h = rw (third s) (inside s (s.args.j + 2) (omega arith))

put-three-units-requires : tie.Need-put_three_units-requires
put-three-units-requires c κs =
    let s = c.before.before.before.before.before.before.before.before.before.before.before.before.before.before.before in
    let j = s.args.j in
    let D = s.args.s.geometry.drives in
    let a = c.place_of-to in
    let b = c.place_of-second in
    let d = c.place_of-third in
    let row = c.before.before.before.before.before.before.before.before.before.place_of-row in
    let h : j + 3 < D = omega arith in
    let h0 : j < D = omega arith in
    let h1 : j + 1 < D = omega arith in
    let h2 : j + 2 < D = omega arith in
    let hl : D - 1 < D = omega arith in
    let la = part-size s j (s.args.s.from + j * bytes s) h1 refl in
    let lb = part-size s (j + 1) (s.args.s.from + j * bytes s + bytes s) (omega arith) (second s) in
    let lc = part-size s (j + 2) (s.args.s.from + j * bytes s + bytes s + bytes s) (omega arith) (third s) in (
      lb ∙ sym la,
      lc ∙ sym la,
      (
        fits s j a.result _ h0 a.ensures la,
        fits s (j + 1) b.result _ h1 b.ensures la,
        fits s (j + 2) d.result _ h2 d.ensures la,
        fits s (D - 1) row.result _ hl row.ensures la,
        apart s j (j + 1) a.result b.result _ h0 h1 (λ e. omega (arith, e)) a.ensures b.ensures la,
        apart s j (j + 2) a.result d.result _ h0 h2 (λ e. omega (arith, e)) a.ensures d.ensures la,
        apart s j (D - 1) a.result row.result _ h0 hl (λ e. omega (arith, e)) a.ensures row.ensures la,
        apart s (j + 1) (j + 2) b.result d.result _ h1 h2 (λ e. omega (arith, e)) b.ensures d.ensures la,
        apart s (j + 1) (D - 1) b.result row.result _ h1 hl (λ e. omega (arith, e)) b.ensures row.ensures la,
        apart s (j + 2) (D - 1) d.result row.result _ h2 hl (λ e. omega (arith, e)) d.ensures row.ensures la,
      ),
    )

-- three parts and a row laid at equal places are laid alike
laid-alike : (ys : List ℕ) (first : Bool) (p q r row p' q' r' row' : ℕ) (x y z x' y' z' : List ℕ) → p ≡ p' → q ≡ q' → r ≡ r' → row ≡ row' → x ≡ x' → y ≡ y' → z ≡ z'
    → overlay (overlay (overlay (overlay ys p x) q y) r z) row (xor_bytes (xor_bytes (pick first x (xor_bytes (take (length x) (drop row ys)) x)) y) z)
    ≡ overlay (overlay (overlay (overlay ys p' x') q' y') r' z') row' (xor_bytes (xor_bytes (pick first x' (xor_bytes (take (length x') (drop row' ys)) x')) y') z')
laid-alike ys first p q r row p' q' r' row' x y z x' y' z' ep eq er es ex ey ez = rw (ep, eq, er, es, ex, ey, ez) refl

returns-2 : tie.Need-returns
returns-2 c =
    let s = c.before.before.before.before.before.before.before.before.before.before.before.before.before.before.before.before.before.before in
    let a = s.args in
    let w = a.s in
    let n = bytes s in
    let at = w.from + a.j * n in
    let x = c.place_of-to in
    let y = c.place_of-second in
    let z = c.place_of-third in
    let row = c.before.before.before.before.before.before.before.before.before.before.before.before.place_of-row in
    let h : a.j + 3 < w.geometry.drives = omega (arith, c.if-last-j.false) in (
      omega arith,
      h,
      λ xs lx e.
          c.put_three_units.ensures
          ∙ laid-alike a.sectors.now (eqb a.j 0) x.result y.result z.result row.result (place s a.j) (place s (a.j + 1)) (place s (a.j + 2)) (place s (w.geometry.drives - 1)) (part s at) (part s (at + n)) (part s (at + n + n)) (unit s a.j) (unit s (a.j + 1)) (unit s (a.j + 2))
          x.ensures y.ensures z.ensures row.ensures (part-is s a.j at refl) (part-is s (a.j + 1) (at + n) (second s)) (part-is s (a.j + 2) (at + n + n) (third s))
          ∙ three_next w.geometry w.zone w.parity w.from xs a.written.now a.buffer.now (fitting_same w a.sectors.now xs a.written.now a.buffer.now lx s.requires.1.0) a.j a.sectors.now h e,
    )

pub put_units_spec : {M : Type 1} → statement M
put_units_spec =
    tie.close
    (tie.spec
    (λ c. omega (arith, small c.before.before.before.before))
    (λ c. search rules)
    place-of-requires
    place-of-requires-2
    (λ c. omega (arith, product c.before.before.before.before.before.before.before))
    (λ c. let s = c.before.before.before.before.before.before.before.before in omega (arith, inside s s.args.j s.requires.1.1))
    (λ c. let s = c.before.before.before.before.before.before.before.before in omega (arith, inside s s.args.j s.requires.1.1))
    (λ c. search rules)
    (λ c. search rules)
    (λ c. search rules)
    (λ c. let s = c.before.before.before.before.before.before.before.before.before.before in inside s s.args.j s.requires.1.1)
    put-unit-requires
    (λ c. search rules)
    (λ c. search rules)
    returns
    (λ c. search rules)
    place-of-requires-3
    (λ c. search rules)
    place-of-requires-4
    (λ c. omega (arith, inside-third c.before.before.before.before.before.before.before.before.before.before.before (omega arith)))
    (λ c. omega (arith, inside-third c.before.before.before.before.before.before.before.before.before.before.before (omega arith)))
    (λ c. search rules)
    (λ c. search rules)
    (λ c. let s = c.before.before.before.before.before.before.before.before.before.before.before.before in inside s s.args.j s.requires.1.1)
    (λ c. search rules)
    (λ c. search rules)
    (λ c. let s = c.before.before.before.before.before.before.before.before.before.before.before.before.before in rw (sym (second s)) at (inside s (s.args.j + 1) (omega arith)))
    (λ c. search rules)
    (λ c. search rules)
    (λ c. inside-third c.before.before.before.before.before.before.before.before.before.before.before.before.before.before (omega arith))
    put-three-units-requires
    (λ c. search rules)
    (λ c. search rules)
    returns-2)
