-- HOW LONG THE PARITY LOGS ARE after a write and after a reset, over the device by its roles: a write that ends inside a stripe adds its entry to the log of that
-- stripe's parity drive, and nothing to the others; a reset leaves them as they were. (A format leaves them empty: FormatKeeps. A compact: emptying/ParityCompact.)
use Rattle.std.specs.Prelude.{◌≡◌, refl, Bool, true, false, ◌&&◌, length, eqb}
use Rattle.std.proofs.Common.{sym, ◌∙◌, arith, length-append, eq-eqb, ne_eqb}
use Rattle.std.proofs.Math.Path.{ap, ap₂}
use Prim.Native.Nat.{ℕ, zero, suc, ◌+◌, min}
use Rattle.std.proofs.Math.Decide.{ℕ_discrete}
use mathlib.Core.List.{List, [], ◌++◌, append-nil, map}
use Rattle.tables.specs.meaning.Basics.{pick}
use Rattle.tables.specs.meaning.Device.{ZoneView, Device, apply_all}
use Rattle.tables.specs.laws.Below.{length_tabulate_from}
use Rattle.tables.specs.meaning.Placement.{stripe_of}
use Rattle.tables.specs.meaning.Lists.{concat}
use Rattle.tables.specs.laws.Local.{LocalStore, append_here, apply_all_here, local_stores, local_append, local_is, appends_here}
use Rattle.tables.specs.laws.Phases.{on_present_local, local_whole}
use Rattle.tables.specs.meaning.Drives.{present_but}
use Rattle.tables.specs.declared.Geometry.{Geometry}
use Rattle.tables.specs.meaning.Geometry.{Valid}
use Rattle.logs.specs.meaning.Entry.{parity_zone}
use Rattle.logs.specs.meaning.Walk.{sectors_of}
use Rattle.volume.specs.meaning.State.{pointer_in, StateView}
use Rattle.volume.specs.meaning.Content.{row_xor_below, inside_stripe, fill_of, parity_drive_at, entry_at}
use Rattle.volume.specs.meaning.Calls.{data_stores, entry_stores, write_with, zone_content, write_stores, reset_stores}
use Rattle.volume.specs.meaning.Emptying.{entry_size}
use Rattle.promise.specs.meaning.Ledger.{Ledger}
use Rattle.promise.proofs.invariant.Invariant.{Ghost, Here, Rest}
use Rattle.promise.proofs.invariant.Obligations.{ResetOk}
use Rattle.promise.proofs.calls.WriteLocal.{appends_same, appends_other_drive, data_stores_elsewhere}
use Rattle.promise.proofs.calls.ResetSees.{phases, other_saw}

-- ---- a write, of any device
module _ (g : Geometry) (x : ℕ) (v : Device) (state : StateView) (z : ℕ) (ss : List (List ℕ)) where
  abbrev end : ℕ
  end = pointer_in (state.condition z) + length ss

  abbrev drive : ℕ
  drive = parity_drive_at g z end

  abbrev S : ℕ → List ℕ
  S = zone_content g (present_but g x) v state z ss

  -- the entry's sectors, as drive d's log sees them
  abbrev added : ℕ → List (List ℕ)
  added d = pick (inside_stripe g end && eqb d drive) (sectors_of g drive true (entry_at g z (state.generation z) S end)) []

  entry_seen : (d : ℕ) → local_stores d parity_zone (pick (inside_stripe g end) (entry_stores g z (state.generation z) S end) []) ≡ map append_here (added d)
  entry_seen d = go (inside_stripe g end) (ℕ_discrete d drive)
    where
      rows : List (List ℕ)
      rows = sectors_of g drive true (entry_at g z (state.generation z) S end)

      go : (b : Bool) → Dec (d ≡ drive) → local_stores d parity_zone (pick b (entry_stores g z (state.generation z) S end) []) ≡ map append_here (pick (b && eqb d drive) rows [])
      go true (yes q) = appends_same d drive parity_zone rows q ∙ ap (λ (c : Bool). map append_here (pick c rows [])) (sym (eq-eqb d drive q))
      go true (no q) = appends_other_drive d drive parity_zone rows q ∙ ap (λ (c : Bool). map append_here (pick c rows [])) (sym (ne_eqb d drive q))
      go false q = refl

  log_sees : (d : ℕ) → Here g x d → local_stores d parity_zone (write_stores g (present_but g x) v state z ss) ≡ map append_here (added d)
  unfolding write_stores write_with
  log_sees d a =
      let n = pointer_in (state.condition z) in
      let ds = data_stores g.drives g.unit z S n (length ss) in
      let es = pick (inside_stripe g end) (entry_stores g z (state.generation z) S end) [] in
      on_present_local (present_but g x) d parity_zone (ds ++ es) a ∙ local_append d parity_zone ds es
      ∙ ap₂ (λ (t u : List LocalStore). t ++ u) (data_stores_elsewhere g.drives g.unit z parity_zone S (λ e. omega (arith, e)) (length ss) n d) (entry_seen d)

  entry_long : length (sectors_of g drive true (entry_at g z (state.generation z) S end)) ≡ entry_size g end
  unfolding entry_at
  entry_long = ap suc (length_tabulate_from (row_xor_below g.drives g.unit S (stripe_of g.drives g.unit end) end) zero (min (fill_of g end) g.unit))

  pub write_log : (d : ℕ) → Here g x d → length (apply_all (write_stores g (present_but g x) v state z ss) v d parity_zone).sectors
      ≡ length (v d parity_zone).sectors + pick (inside_stripe g end && eqb d drive) (entry_size g end) 0
  write_log d a =
      let old = v d parity_zone in
      let all : apply_all_here (map append_here (added d)) old ≡ record { sectors = old.sectors ++ added d; durable = old.durable } = ap (λ (os : List LocalStore). apply_all_here os old) (sym (append-nil (map append_here (added d)))) ∙ appends_here (added d) [] old in
      ap (λ (k : ZoneView). length k.sectors) (local_is d parity_zone (write_stores g (present_but g x) v state z ss) v ∙ ap (λ (os : List LocalStore). apply_all_here os old) (log_sees d a) ∙ all)
      ∙ length-append old.sectors (added d) ∙ ap (λ (n : ℕ). length old.sectors + n) (long (inside_stripe g end && eqb d drive))
    where
      long : (b : Bool) → length (pick b (sectors_of g drive true (entry_at g z (state.generation z) S end)) []) ≡ pick b (entry_size g end) 0
      long true = entry_long
      long false = refl

-- ---- a reset, of a device at rest
pub reset_log : (g : Geometry) (ok : Valid g) (x : ℕ) (v : Device) (state : StateView) (l : Ledger) (γ : Ghost) (r : Rest g x v state l γ) (z : ℕ) → ResetOk g (present_but g x) v state z
    → (d : ℕ) → Here g x d → (apply_all (reset_stores g (present_but g x) state z) v d parity_zone).sectors ≡ (v d parity_zone).sectors
unfolding reset_stores
reset_log g ok x v state l γ r z rk d a =
    let seen = local_whole d parity_zone (phases g ok x v state l γ r z rk) ∙ ap concat (other_saw g ok x v state l γ r z rk d a parity_zone (λ e. omega (arith, e)) (λ e. omega (arith, e))) in
    ap (λ (k : ZoneView). k.sectors) (local_is d parity_zone (concat (phases g ok x v state l γ r z rk)) v ∙ ap (λ (os : List LocalStore). apply_all_here os (v d parity_zone)) seen)
