-- Rule 1 and rows 4 to 6 of a look, drive by drive: who is lost and who says so; that at most one is; what the rows say of a present drive's logs.
use Rattle.std.specs.Prelude.{◌≡◌, ◌≢◌, ◌⊎◌, Bool, ◌&&◌, ◌||◌, ℕ, ◌<◌, List}
use Rattle.std.proofs.Math.Path.{refl}
use Rattle.std.proofs.Common.{sym, ◌∙◌, true≢false, arith}
use Rattle.std.proofs.Math.Logic.{inl, inr}
use Rattle.std.proofs.Math.Bool.{true, false, not}
use Rattle.std.proofs.Math.Decide.{ℕ_discrete}
use Rattle.std.proofs.Math.Dec.{eqb}
use borrow.Author.Tests.{ltb-false, eqb-true, eq-eqb}
use Rattle.tables.specs.declared.Geometry.{Geometry}
use Rattle.tables.specs.laws.Basics.{and_split, or_none, not_not, eqb_same}
use Rattle.tables.specs.meaning.Below.{any_below, count_below}
use Rattle.tables.specs.laws.Below.{any_below_some, some_any_below, none_any_below, any_below_false, two_count_below}
use Rattle.tables.specs.meaning.Drives.{no_drive}
use Rattle.tables.specs.laws.Drives.{find_below_is}
use Rattle.tables.specs.meaning.Geometry.{Valid}
use Rattle.tables.specs.meaning.GeometryTest.{is_valid}
use Rattle.tables.specs.meaning.Device.{Device}
use Rattle.tables.specs.meaning.Tables.{Tables, device_of}
use Rattle.logs.specs.declared.Fault.{Fault}
use Rattle.logs.specs.meaning.Walk.{Ending, at_pointer, no_entry}
use Rattle.logs.specs.meaning.Heads.{labelled, array_in, last_lost}
use Rattle.volume.specs.meaning.Rules.{general_heads, general_ending, parity_ending, is_lost, lost_drive}
use Rattle.volume.specs.meaning.Refusals.{accept, is_no_entry, two_lost, bad_labels, kind_lacks, bad_logs, mount_rows}
use Rattle.volume.specs.meaning.CallContracts.{is_set, lengths_of, bad_in, roles_of, seen_in, mount_verdict}
use Rattle.volume.specs.meaning.Answers.{present_in}
use Rattle.volume.specs.meaning.Roles.{Roles, lacks_kind}
use Rattle.volume.specs.laws.Refusals.{accepted_row}

pub same_if : (a b : Bool) → (a ≡ true → b ≡ true) → (b ≡ true → a ≡ true) → a ≡ b
same_if true b f h = sym (f refl)
same_if false true f h = h refl
same_if false false f h = refl

-- ---- rule 1: a drive is lost if it is not named, or if a named drive's last label says so
module _ (g : Geometry) (named : ℕ → Bool) (u : Device) (d : ℕ) where
  pub record Said : Type 0 where
    pub by : ℕ
    pub by_below : by < g.drives
    pub by_named : named by ≡ true
    pub by_labelled : labelled (general_heads g u by) ≡ true
    pub names : last_lost no_drive (general_heads g u by) ≡ d

  pub lost_said : is_lost g named u d ≡ true → (named d ≡ false) ⊎ Said
  unfolding is_lost
  lost_said h = go (named d) refl h
    where
      go : (b : Bool) → named d ≡ b → not b || any_below (λ e. named e && (labelled (general_heads g u e) && eqb (last_lost no_drive (general_heads g u e)) d)) g.drives ≡ true → (named d ≡ false) ⊎ Said
      go false e q = inl e
      go true e q =
          let (i, l, s) = any_below_some (λ e. named e && (labelled (general_heads g u e) && eqb (last_lost no_drive (general_heads g u e)) d)) g.drives q in
          let (a, r) = and_split (named i) (labelled (general_heads g u i) && eqb (last_lost no_drive (general_heads g u i)) d) s in
          let (b, c) = and_split (labelled (general_heads g u i)) (eqb (last_lost no_drive (general_heads g u i)) d) r in
          inr (record { by = i; by_below = l; by_named = a; by_labelled = b; names = eqb-true (last_lost no_drive (general_heads g u i)) d c })

  pub said_lost : (named d ≡ false) ⊎ Said → is_lost g named u d ≡ true
  unfolding is_lost
  said_lost (inl e) = rw e refl
  said_lost (inr s) = or_right (not (named d)) _ (some_any_below (λ e. named e && (labelled (general_heads g u e) && eqb (last_lost no_drive (general_heads g u e)) d)) g.drives s.by s.by_below
      (rw (s.by_named, s.by_labelled, s.names, eqb_same d) refl))
    where
      or_right : (a b : Bool) → b ≡ true → a || b ≡ true
      or_right true b e = refl
      or_right false b e = e

-- ---- at most one drive is lost, and that one is lost_drive
module _ (g : Geometry) (ok : Valid g) (named : ℕ → Bool) (v : Device) (one : two_lost g named v ≡ false) where
  pub lost_is_lost : lost_drive g named v < g.drives → is_lost g named v (lost_drive g named v) ≡ true
  lost_is_lost h = go (find_below_is (is_lost g named v) g.drives)
    where
      go : ((lost_drive g named v ≡ no_drive) × ((k : ℕ) → k < g.drives → is_lost g named v k ≡ false)) ⊎ ((lost_drive g named v < g.drives) × (is_lost g named v (lost_drive g named v) ≡ true)) → is_lost g named v (lost_drive g named v) ≡ true
      go (inl (e, n)) = absurd (omega (arith, e, h, ok.drives_most))
      go (inr (l, q)) = q

  pub lost_unique : (d : ℕ) → d < g.drives → is_lost g named v d ≡ true → d ≡ lost_drive g named v
  unfolding two_lost
  lost_unique d hd h = go (find_below_is (is_lost g named v) g.drives) (ℕ_discrete d (lost_drive g named v))
    where
      go : ((lost_drive g named v ≡ no_drive) × ((k : ℕ) → k < g.drives → is_lost g named v k ≡ false)) ⊎ ((lost_drive g named v < g.drives) × (is_lost g named v (lost_drive g named v) ≡ true)) → Dec (d ≡ lost_drive g named v) → d ≡ lost_drive g named v
      go p (yes e) = e
      go (inl (e, n)) (no i) = absurd (true≢false (sym h ∙ n d hd))
      go (inr (l, q)) (no i) = absurd (omega (arith, two_count_below (is_lost g named v) g.drives d (lost_drive g named v) hd l i h q, ltb-false 1 (count_below (is_lost g named v) g.drives) one))

-- ---- rows 4 to 6 of an accepted mount
pub record LooksAccepted (g : Geometry) (named : List Bool) (t : Tables) : Type 0 where
  pub geometry : not (is_valid g) ≡ false
  pub one_lost : two_lost g (is_set named) (seen_in g t) ≡ false
  pub kinds : kind_lacks g (present_in g (is_set named) (device_of g t)) (roles_of g t) ≡ false
  pub labels : bad_labels g (present_in g (is_set named) (device_of g t)) (seen_in g t) ≡ false
  pub logs : bad_logs g (present_in g (is_set named) (device_of g t)) (seen_in g t) ≡ false

pub looks_accepted : (g : Geometry) (named : List Bool) (t : Tables) → mount_verdict g named t ≡ accept → LooksAccepted g named t
unfolding mount_verdict mount_rows
looks_accepted g named t e =
    let row = accepted_row (mount_rows g (lengths_of t) (bad_in g named t) (is_set named) (roles_of g t) (seen_in g t)) e in
    let present = present_in g (is_set named) (device_of g t) in
    let (a, b) = or_none (kind_lacks g present (roles_of g t)) (bad_labels g present (seen_in g t)) (row 5) in
    record { geometry = row 1; one_lost = row 4; kinds = a; labels = b; logs = row 6 }

-- what row 5 says of a present drive's roles: it lacks no kind
pub kinds_there : (g : Geometry) (present : ℕ → Bool) (r : ℕ → Roles) → kind_lacks g present r ≡ false → (d : ℕ) → d < g.drives → present d ≡ true → lacks_kind (r d) ≡ false
unfolding kind_lacks
kinds_there g present r h d hd p = rw p at (any_below_false (λ e. present e && lacks_kind (r e)) g.drives d h hd)

pub kinds_pass : (g : Geometry) (present : ℕ → Bool) (r : ℕ → Roles) → ((d : ℕ) → present d ≡ true → lacks_kind (r d) ≡ false) → kind_lacks g present r ≡ false
unfolding kind_lacks
kinds_pass g present r h = none_any_below (λ e. present e && lacks_kind (r e)) g.drives (λ d hd. go d (present d) refl)
  where
    go : (d : ℕ) (b : Bool) → present d ≡ b → b && lacks_kind (r d) ≡ false
    go d false p = refl
    go d true p = h d p

pub entry_ends : (l : Ending) → is_no_entry l ≡ false → (f : Fault) → l ≢ no_entry f
entry_ends l h f q = true≢false (sym (rw q refl) ∙ h)

-- what rows 5 and 6 say of a present drive
module _ (g : Geometry) (present : ℕ → Bool) (v : Device) where
  pub label_there : bad_labels g present v ≡ false → (d : ℕ) → d < g.drives → present d ≡ true → labelled (general_heads g v d) ≡ true
  unfolding bad_labels
  label_there h d hd p = not_not (labelled (general_heads g v d)) (or_none (not (labelled (general_heads g v d))) _ (rw p at (any_below_false _ g.drives d h hd))).0

  pub array_same : bad_labels g present v ≡ false → (d e : ℕ) → d < g.drives → e < g.drives → present d ≡ true → present e ≡ true → array_in (general_heads g v d) ≡ array_in (general_heads g v e)
  unfolding bad_labels
  array_same h d e hd he p q =
      let r = (or_none (not (labelled (general_heads g v d))) _ (rw p at (any_below_false _ g.drives d h hd))).1 in
      eqb-true (array_in (general_heads g v d)) (array_in (general_heads g v e)) (not_not (eqb (array_in (general_heads g v d)) (array_in (general_heads g v e))) (rw q at (any_below_false _ g.drives e r he)))

  pub labels_pass : ((d : ℕ) → d < g.drives → present d ≡ true → labelled (general_heads g v d) ≡ true) → ((d e : ℕ) → d < g.drives → e < g.drives → present d ≡ true → present e ≡ true → array_in (general_heads g v d) ≡ array_in (general_heads g v e))
      → bad_labels g present v ≡ false
  unfolding bad_labels
  labels_pass l a = none_any_below _ g.drives (λ d hd. drive d hd (present d) refl)
    where
      other : (d e : ℕ) → d < g.drives → e < g.drives → present d ≡ true → (b : Bool) → present e ≡ b → b && not (eqb (array_in (general_heads g v d)) (array_in (general_heads g v e))) ≡ false
      other d e hd he p false q = refl
      other d e hd he p true q = rw (eq-eqb (array_in (general_heads g v d)) (array_in (general_heads g v e)) (a d e hd he p q)) refl

      drive : (d : ℕ) → d < g.drives → (b : Bool) → present d ≡ b
          → b && (not (labelled (general_heads g v d)) || any_below (λ e. present e && not (eqb (array_in (general_heads g v d)) (array_in (general_heads g v e)))) g.drives) ≡ false
      drive d hd false p = refl
      drive d hd true p = rw (l d hd p) (none_any_below _ g.drives (λ e he. other d e hd he p (present e) refl))

  pub logs_end : bad_logs g present v ≡ false → (d : ℕ) → d < g.drives → present d ≡ true → (is_no_entry (general_ending g v d) ≡ false) × (is_no_entry (parity_ending g v d) ≡ false)
  unfolding bad_logs
  logs_end h d hd p = or_none (is_no_entry (general_ending g v d)) (is_no_entry (parity_ending g v d)) (rw p at (any_below_false _ g.drives d h hd))

  pub logs_pass : ((d : ℕ) → d < g.drives → present d ≡ true → (general_ending g v d ≡ at_pointer) × (parity_ending g v d ≡ at_pointer)) → bad_logs g present v ≡ false
  unfolding bad_logs
  logs_pass f = none_any_below _ g.drives (λ d hd. drive d hd (present d) refl)
    where
      drive : (d : ℕ) → d < g.drives → (b : Bool) → present d ≡ b → b && (is_no_entry (general_ending g v d) || is_no_entry (parity_ending g v d)) ≡ false
      drive d hd false p = refl
      drive d hd true p = rw ((f d hd p).0, (f d hd p).1) refl
