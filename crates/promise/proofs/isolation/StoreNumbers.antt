-- HOW MANY STORES A CALL MAKES does not hang on what they store: two lists whose stores are, one by one, on the same drives are as long, and stay so when stores to a lost
-- drive are skipped and when they are carried to other zones.
use Rattle.std.specs.Prelude.{◌≡◌, refl, Bool, true, false, eqb}
use Rattle.std.proofs.Math.Path.{sym, ap₂}
use Rattle.std.proofs.Common.{ap, ◌∙◌, subst, arith}
use Prim.Native.Nat.{ℕ, zero, suc, ◌+◌, ◌%◌, ◌<◌, min}
use mathlib.Core.List.{List, [], ◌∷◌, ◌++◌, map}
use Rattle.std.proofs.Math.ListN.{length, length-append}
use Rattle.std.proofs.lemmas.List.{length-map}
use Rattle.tables.specs.meaning.Basics.{pick}
use Rattle.tables.specs.meaning.Below.{each_below, tabulate_from}
use Rattle.tables.specs.laws.Below.{length_tabulate_from}
use Rattle.tables.specs.meaning.Lists.{concat}
use Rattle.tables.specs.meaning.Device.{Device, Store, append, reset, flush, store_drive}
use Rattle.tables.specs.meaning.Phases.{flush_all, on_present}
use Rattle.tables.specs.meaning.Through.{carry}
use Rattle.tables.specs.meaning.Placement.{stripe_of, stripe_length, parity_drive, drive_of}
use Rattle.tables.specs.declared.Geometry.{Geometry}
use Rattle.tables.specs.meaning.Geometry.{data_zone}
use Rattle.logs.specs.meaning.Entry.{Header, counters, zone_reset, parity_zone, encode}
use Rattle.logs.specs.meaning.Walk.{sectors_of}
use Rattle.logs.specs.meaning.Copies.{kept_label, kept_seals, kept_resets, copied_general}
use Rattle.volume.specs.meaning.State.{StateView, pointer_in}
use Rattle.volume.specs.meaning.Content.{row_xor, row_xor_below, inside_stripe, fill_of, parity_drive_at, entry_at}
use Rattle.volume.specs.meaning.Roles.{Roles, zone_of_kind, placed_by, roles_after}
use Rattle.volume.specs.meaning.Rules.{general_heads}
use Rattle.volume.specs.meaning.Calls.{append_all, append_general, generations_from, parity_stores, sector_stores, data_stores, entry_stores, write_with, zone_content, write_stores, logs_reset, raised_at, reset_phases, reset_stores}
use Rattle.volume.specs.meaning.Emptying.{InForce, by_state, general_copies, closing_sector, new_general, new_general_size, reset_limit, emptied_for, emptying_stores, emptyings, empty_general, write_all, reset_all}
use Rattle.volume.specs.laws.EachBelow.{each_below_cong}

abbrev OneByOne : List Store → List Store → Type 0
OneByOne [] [] = Unit {0}
OneByOne [] (y ∷ ys) = ⊥
OneByOne (x ∷ xs) [] = ⊥
OneByOne (x ∷ xs) (y ∷ ys) = (store_drive x ≡ store_drive y) × OneByOne xs ys

record OnSame (xs ys : List Store) : Type 0 where
  drives : OneByOne xs ys

one_append : (xs ys us ws : List Store) → OneByOne xs ys → OneByOne us ws → OneByOne (xs ++ us) (ys ++ ws)
one_append [] [] us ws p q = q
one_append [] (y ∷ ys) us ws p q = absurd p
one_append (x ∷ xs) [] us ws p q = absurd p
one_append (x ∷ xs) (y ∷ ys) us ws p q = (p.0, one_append xs ys us ws p.1 q)

one_long : (xs ys : List Store) → OneByOne xs ys → length xs ≡ length ys
one_long [] [] p = refl
one_long [] (y ∷ ys) p = absurd p
one_long (x ∷ xs) [] p = absurd p
one_long (x ∷ xs) (y ∷ ys) p = ap suc (one_long xs ys p.1)

one_present : (present : ℕ → Bool) (xs ys : List Store) → OneByOne xs ys → OneByOne (on_present present xs) (on_present present ys)
one_present present [] [] p = tt
one_present present [] (y ∷ ys) p = absurd p
one_present present (x ∷ xs) [] p = absurd p
one_present present (x ∷ xs) (y ∷ ys) p = go (present (store_drive x)) refl (one_present present xs ys p.1)
  where
    go : (b : Bool) → present (store_drive x) ≡ b → OneByOne (on_present present xs) (on_present present ys)
        → OneByOne (pick (present (store_drive x)) (x ∷ on_present present xs) (on_present present xs)) (pick (present (store_drive y)) (y ∷ on_present present ys) (on_present present ys))
    go true e q = let f : present (store_drive y) ≡ true = ap present (sym p.0) ∙ e in rw (e, f) (p.0, q)
    go false e q = let f : present (store_drive y) ≡ false = ap present (sym p.0) ∙ e in rw (e, f) q

carry_drive : (ρ : ℕ → ℕ → ℕ) (s : Store) → store_drive (carry ρ s) ≡ store_drive s
carry_drive ρ (append d y s) = refl
carry_drive ρ (reset d y) = refl
carry_drive ρ (flush d) = refl

one_carried : (ρ τ : ℕ → ℕ → ℕ) (xs ys : List Store) → OneByOne xs ys → OneByOne (map (carry ρ) xs) (map (carry τ) ys)
one_carried ρ τ [] [] p = tt
one_carried ρ τ [] (y ∷ ys) p = absurd p
one_carried ρ τ (x ∷ xs) [] p = absurd p
one_carried ρ τ (x ∷ xs) (y ∷ ys) p = (carry_drive ρ x ∙ p.0 ∙ sym (carry_drive τ y), one_carried ρ τ xs ys p.1)

one_appends : (d y x : ℕ) (ss ts : List (List ℕ)) → length ss ≡ length ts → OneByOne (append_all d y ss) (append_all d x ts)
one_appends d y x [] [] e = tt
one_appends d y x [] (t ∷ ts) e = absurd (omega (arith, e))
one_appends d y x (s ∷ ss) [] e = absurd (omega (arith, e))
one_appends d y x (s ∷ ss) (t ∷ ts) e = (refl, one_appends d y x ss ts (omega (arith, e)))

one_self : (xs : List Store) → OneByOne xs xs
one_self [] = tt
one_self (x ∷ xs) = (refl, one_self xs)

-- ---- the same, of such lists as a fact
same_self : (xs : List Store) → OnSame xs xs
same_self xs = record { drives = one_self xs }

same_none : OnSame [] []
same_none = record { drives = tt }

same_append : {xs ys us ws : List Store} → OnSame xs ys → OnSame us ws → OnSame (xs ++ us) (ys ++ ws)
same_append {xs} {ys} {us} {ws} p q = record { drives = one_append xs ys us ws p.drives q.drives }

same_long : {xs ys : List Store} → OnSame xs ys → length xs ≡ length ys
same_long {xs} {ys} p = one_long xs ys p.drives

same_picked : (b : Bool) {xs ys : List Store} → OnSame xs ys → OnSame (pick b xs []) (pick b ys [])
same_picked true p = p
same_picked false p = same_none

same_present : (present : ℕ → Bool) {xs ys : List Store} → OnSame xs ys → OnSame (on_present present xs) (on_present present ys)
same_present present {xs} {ys} p = record { drives = one_present present xs ys p.drives }

same_carried : (ρ τ : ℕ → ℕ → ℕ) {xs ys : List Store} → OnSame xs ys → OnSame (map (carry ρ) xs) (map (carry τ) ys)
same_carried ρ τ {xs} {ys} p = record { drives = one_carried ρ τ xs ys p.drives }

same_each : (f h : ℕ → List Store) (n : ℕ) → ((d : ℕ) → d < n → OnSame (f d) (h d)) → OnSame (each_below f n) (each_below h n)
same_each f h zero p = same_none
same_each f h (suc n) p = same_append (same_each f h n (λ d l. p d (omega arith))) (p n (omega arith))

same_appends : (d y x : ℕ) (ss ts : List (List ℕ)) → length ss ≡ length ts → OnSame (append_all d y ss) (append_all d x ts)
same_appends d y x ss ts e = record { drives = one_appends d y x ss ts e }

same_one : (x y : Store) {xs ys : List Store} → store_drive x ≡ store_drive y → OnSame xs ys → OnSame (x ∷ xs) (y ∷ ys)
same_one x y e p = record { drives = (e, p.drives) }

-- ==== a write: by where it begins and how long it is
module _ (D U z : ℕ) (S T : ℕ → List ℕ) where
  same_data : (a k : ℕ) → OnSame (data_stores D U z S a k) (data_stores D U z T a k)
  same_data a zero = same_none
  same_data a (suc k) = same_append (same_one (append (drive_of D U z a) (data_zone z) (S a)) (append (drive_of D U z a) (data_zone z) (T a)) refl (same_picked (eqb (suc (a % stripe_length D U)) (stripe_length D U))
      (same_appends (parity_drive D z s) (data_zone z) (data_zone z) (tabulate_from (row_xor D U S s) zero U) (tabulate_from (row_xor D U T s) zero U) (length_tabulate_from (row_xor D U S s) zero U ∙ sym (length_tabulate_from (row_xor D U T s) zero U))))) (same_data (suc a) k)
    where
      s : ℕ
      s = stripe_of D U a

entry_long : (g : Geometry) (d z generation : ℕ) (S : ℕ → List ℕ) (n : ℕ) → length (sectors_of g d true (entry_at g z generation S n)) ≡ suc (min (fill_of g n) g.unit)
unfolding entry_at
entry_long g d z generation S n = ap suc (length_tabulate_from (row_xor_below g.drives g.unit S (stripe_of g.drives g.unit n) n) zero (min (fill_of g n) g.unit))

same_write : (g : Geometry) (z a b : ℕ) (S T : ℕ → List ℕ) (n k : ℕ) → OnSame (write_with g z a S n k) (write_with g z b T n k)
unfolding write_with
same_write g z a b S T n k =
    let p = parity_drive_at g z (n + k) in
    same_append (same_data g.drives g.unit z S T n k) (same_picked (inside_stripe g (n + k))
    (same_appends p parity_zone parity_zone (sectors_of g p true (entry_at g z a S (n + k))) (sectors_of g p true (entry_at g z b T (n + k))) (entry_long g p z a S (n + k) ∙ sym (entry_long g p z b T (n + k)))))

pub write_number_lem : (g : Geometry) (present : ℕ → Bool) (r q : ℕ → Roles) (v w : Device) (a b : StateView) (z : ℕ) (ss : List (List ℕ)) → pointer_in (a.condition z) ≡ pointer_in (b.condition z)
    → length (write_all g present r v a z ss) ≡ length (write_all g present q w b z ss)
unfolding write_all write_stores
write_number_lem g present r q v w a b z ss e =
    let S = zone_content g present v a z ss in
    let T = zone_content g present w b z ss in
    let xs : ℕ → List Store = λ n. on_present present (write_with g z (a.generation z) S n (length ss)) in
    let ys : ℕ → List Store = λ n. on_present present (write_with g z (b.generation z) T n (length ss)) in
    let n = pointer_in (a.condition z) in
    same_long (same_carried (placed_by r) (placed_by q) (same_present present (same_write g z (a.generation z) (b.generation z) S T n (length ss))))
    ∙ ap (λ (i : ℕ). length (map (carry (placed_by q)) (ys i))) e

-- ==== a reset: by the generations in force, which general logs are emptied, and what they say
-- generations that are the same of the volume's zones (hs: what a log says)
module _ (g : Geometry) (a b : ℕ → ℕ) (same : (z : ℕ) → z < g.zones → a z ≡ b z) (hs : List Header) where
  seals_same : kept_seals g a hs ≡ kept_seals g b hs
  seals_same = each_below_cong _ _ g.zones (λ z h. rw (same z h) refl)

  resets_same : kept_resets g a hs ≡ kept_resets g b hs
  resets_same = each_below_cong _ _ g.zones (λ z h. rw (same z h) refl)

  pub copies_number : (cs ds : List ℕ) → length (copied_general g a cs hs) ≡ length (copied_general g b ds hs)
  unfolding copied_general
  copies_number cs ds =
      length-append (kept_label hs) (counters cs ∷ (kept_seals g a hs ++ kept_resets g a hs))
      ∙ ap₂ (λ (x y : List Header). length (kept_label hs) + suc (length (x ++ y))) seals_same resets_same
      ∙ sym (length-append (kept_label hs) (counters ds ∷ (kept_seals g b hs ++ kept_resets g b hs)))

  pub new_size_same : (f h : InForce) → f.generation ≡ a → h.generation ≡ b → new_general_size g f hs ≡ new_general_size g h hs
  unfolding new_general_size general_copies
  new_size_same f h p q = rw (p, q) (ap suc (copies_number (generations_from a zero g.zones) (generations_from b zero g.zones)))

-- the new log is as long as its size says
new_general_number : (g : Geometry) (f : InForce) (r : Roles) (d : ℕ) (hs : List Header) → length (new_general g f r d hs) ≡ new_general_size g f hs
unfolding new_general new_general_size
new_general_number g f r d hs =
    length-append (map (encode g d) (general_copies g f hs)) (closing_sector g false d r ∷ []) ∙ ap (λ (n : ℕ). n + 1) (length-map (general_copies g f hs) (encode g d)) ∙ omega arith

same_emptying : (g : Geometry) (present : ℕ → Bool) (d old spare old' spare' : ℕ) (ss ts : List (List ℕ)) → length ss ≡ length ts → OnSame (emptying_stores g present d old spare ss) (emptying_stores g present d old' spare' ts)
unfolding emptying_stores
same_emptying g present d old spare old' spare' ss ts e =
    let flushes = same_self (on_present present (flush_all g.drives)) in
    same_append flushes (same_append (same_appends d spare spare' ss ts e) (same_append flushes (same_one (reset d old) (reset d old') refl same_none)))

-- a reset's own stores
same_own_reset : (g : Geometry) (present : ℕ → Bool) (a b : StateView) (z : ℕ) → OnSame (reset_stores g present a z) (reset_stores g present b z)
unfolding reset_stores
same_own_reset g present a b z =
    let flushes = same_self (on_present present (flush_all g.drives)) in
    let entry : StateView → ℕ → List Store = λ s d. pick (logs_reset g z d) (append_general g (zone_reset z (s.generation z)) d) [] in
    let raised : StateView → ℕ → List Store = λ s d. append_general g (counters (generations_from (raised_at s z) zero g.zones)) d in
    let resets = same_self (on_present present (each_below (λ d. reset d (data_zone z) ∷ []) g.drives)) in
    same_append (same_present present (same_each (entry a) (entry b) g.drives (λ d h. same_picked (logs_reset g z d) (same_one _ _ refl same_none))))
    (same_append flushes (same_append resets (same_append flushes (same_append (same_present present (same_each (raised a) (raised b) g.drives (λ d h. same_one _ _ refl same_none))) (same_append flushes same_none)))))

pub reset_number_lem : (g : Geometry) (present : ℕ → Bool) (r q : ℕ → Roles) (v w : Device) (a b : StateView) (z : ℕ)
    → ((d : ℕ) → d < g.drives → emptied_for g present false r v (reset_limit g) d ≡ emptied_for g present false q w (reset_limit g) d)
    → ((d : ℕ) → d < g.drives → emptied_for g present false r v (reset_limit g) d ≡ true → new_general_size g (by_state g present v a) (general_heads g v d) ≡ new_general_size g (by_state g present w b) (general_heads g w d))
    → length (reset_all g present r v a z) ≡ length (reset_all g present q w b z)
unfolding reset_all empty_general emptyings
reset_number_lem g present r q v w a b z which sizes =
    same_long (same_append (same_each (λ d. part r v a d) (λ d. part q w b d) g.drives (λ d h. one d h (emptied_for g present false r v (reset_limit g) d) refl))
    (same_carried (placed_by (roles_after false (emptied_for g present false r v (reset_limit g)) r)) (placed_by (roles_after false (emptied_for g present false q w (reset_limit g)) q)) (same_own_reset g present a b z)))
  where
    part : (ℕ → Roles) → Device → StateView → ℕ → List Store
    part s u c d = pick (emptied_for g present false s u (reset_limit g) d) (emptying_stores g present d (zone_of_kind false (s d)) (s d).spare (new_general g (by_state g present u c) (s d) d (general_heads g u d))) []

    one : (d : ℕ) → d < g.drives → (e : Bool) → emptied_for g present false r v (reset_limit g) d ≡ e → OnSame (part r v a d) (part q w b d)
    one d h true e =
        let f = sym (which d h) ∙ e in
        rw (e, f) (same_emptying g present d (zone_of_kind false (r d)) (r d).spare (zone_of_kind false (q d)) (q d).spare (new_general g (by_state g present v a) (r d) d (general_heads g v d)) (new_general g (by_state g present w b) (q d) d (general_heads g w d))
        (new_general_number g (by_state g present v a) (r d) d (general_heads g v d) ∙ sizes d h e ∙ sym (new_general_number g (by_state g present w b) (q d) d (general_heads g w d))))
    one d h false e = let f = sym (which d h) ∙ e in rw (e, f) same_none
