-- What a look reads under the invariant: the walked logs are the ghosts' logs, the drives present by rule 1 are those not lost, and none of
-- the refusals 3 to 6 applies.
use Rattle.logs.specs.code.Judge.{and_false}
use Rattle.logs.specs.laws.HeadLaws.{reads_fits, general_no_rows}
use Rattle.volume.specs.meaning.Rules.{lost_drive, general_heads, general_ending, parity_entries, parity_ending, is_lost, is_present}
use Rattle.tables.specs.laws.Drives.{find_below_one, find_below_none, present_other}
use Rattle.tables.specs.meaning.Drives.{no_drive, present_but}
use Rattle.tables.specs.laws.Lists.{length_map}
use Rattle.std.specs.Prelude.{◌≡◌, ◌≢◌, ◌⊎◌, Bool, ◌&&◌, ℕ, zero, ◌-◌, ◌≤◌, ◌<◌, length}
use Rattle.std.proofs.Math.Path.{refl, ap, fun_ext}
use Rattle.std.proofs.Common.{sym, ◌∙◌, inl, inr, arith}
use Rattle.std.proofs.Math.Bool.{true, false, not}
use Rattle.std.proofs.Math.Decide.{ℕ_discrete}
use mathlib.Core.List.{List, [], ◌∷◌, map, Memᴰ}
use Rattle.std.proofs.Math.Dec.{ltb, eqb}
use borrow.Author.Tests.{le-ltb, ltb-true, eq-eqb, ne_eqb}
use Rattle.tables.specs.laws.Below.{none_any_below, count_below_one}
use Rattle.tables.specs.meaning.Device.{Device}
use Rattle.tables.specs.meaning.Basics.{pick}
use Rattle.tables.specs.declared.Geometry.{Geometry}
use Rattle.tables.specs.meaning.Geometry.{Valid}
use Rattle.logs.specs.meaning.Entry.{general_zone, parity_zone, Header, Entry, encode, rows_of}
use Rattle.logs.specs.meaning.Walk.{at_pointer, torn, walk_log}
use Rattle.logs.specs.laws.Walk.{Reads, WellFormedLog, log_extent, sectors_of_all, whole_entries, ending_of, is_whole, walk_lawful}
use Rattle.logs.specs.meaning.Heads.{labelled, array_in, last_lost}
use Rattle.volume.specs.meaning.Refusals.{is_no_entry, two_lost, bad_labels, bad_logs}
use Rattle.promise.specs.meaning.Claim.{all_but}
use Rattle.promise.proofs.invariant.Invariant.{Ghost, Here, LogsOk, Names}
use Rattle.promise.proofs.invariant.LastLabels.{last_names}

-- ---- a general log as entries without rows
abbrev pub bare_entry : Header → Entry
bare_entry h = record { head = h; rows = [] }

module _ (g : Geometry) (d : ℕ) where
  pub heads_flat : (hs : List Header) → sectors_of_all g d false (map bare_entry hs) ≡ map (encode g d) hs
  heads_flat [] = refl
  heads_flat (h ∷ hs) = ap (λ (r : List (List ℕ)). encode g d h ∷ r) (heads_flat hs)

  pub heads_back : (hs : List Header) → map (λ (e : Entry). e.head) (map bare_entry hs) ≡ hs
  heads_back [] = refl
  heads_back (h ∷ hs) = ap (λ (r : List Header). h ∷ r) (heads_back hs)

  pub heads_lawful : (hs : List Header) → ((h : Header) → Memᴰ h hs → Reads g d false h) → WellFormedLog g d false (map bare_entry hs)
  heads_lawful [] r = tt
  heads_lawful (h ∷ hs) r = (r h (Memᴰ.head refl), inl (sym (general_no_rows g d h (reads_fits g d false h (r h (Memᴰ.head refl))))), heads_lawful hs (λ k m. r k (Memᴰ.tail m)))

  pub heads_extent : (hs : List Header) → ((h : Header) → Memᴰ h hs → Reads g d false h) → log_extent g d false (map bare_entry hs) ≡ length hs
  heads_extent [] r = refl
  heads_extent (h ∷ hs) r =
      let z : rows_of g h ≡ zero = general_no_rows g d h (reads_fits g d false h (r h (Memᴰ.head refl))) in
      omega (arith, heads_extent hs (λ k m. r k (Memᴰ.tail m)))

  pub heads_whole : (hs : List Header) → ((h : Header) → Memᴰ h hs → Reads g d false h) → (whole_entries g d false (map bare_entry hs) ≡ map bare_entry hs) × (ending_of g d false (map bare_entry hs) ≡ at_pointer)
  heads_whole [] r = (refl, refl)
  heads_whole (h ∷ hs) r =
      let z : zero ≡ rows_of g h = sym (general_no_rows g d h (reads_fits g d false h (r h (Memᴰ.head refl)))) in
      let (a, b) = heads_whole hs (λ k m. r k (Memᴰ.tail m)) in
      rw (eq-eqb zero (rows_of g h) z) (ap (λ (r : List Entry). bare_entry h ∷ r) a, b)

pub ending_fine : (g : Geometry) (d : ℕ) (par : Bool) (es : List Entry) → is_no_entry (ending_of g d par es) ≡ false
ending_fine g d par [] = refl
ending_fine g d par (e ∷ es) = go (is_whole g d par e) (ending_fine g d par es)
  where
    go : (b : Bool) → is_no_entry (ending_of g d par es) ≡ false → is_no_entry (pick b (ending_of g d par es) (torn e.head e.rows)) ≡ false
    go true ih = ih
    go false ih = refl

-- no refusal of a look that speaks of the device by its roles applies, by the drives that are not lost
pub record Unrefused (g : Geometry) (x : ℕ) (v : Device) : Type 0 where
  pub lost : two_lost g (all_but x) v ≡ false
  pub labels : bad_labels g (present_but g x) v ≡ false
  pub logs : bad_logs g (present_but g x) v ≡ false

module _ (g : Geometry) (ok : Valid g) (x : ℕ) (v : Device) (γ : Ghost) (lg : LogsOk g x v γ) where
  -- ---- the logs are the ghosts
  general_all : (d : ℕ) → Here g x d → ((walk_log g d false (v d general_zone).sectors).entries ≡ map bare_entry (γ.general d)) × ((walk_log g d false (v d general_zone).sectors).last ≡ at_pointer)
  general_all d a =
      let hs = γ.general d in
      let rd = lg.general_reads d a in
      let s : (v d general_zone).sectors ≡ sectors_of_all g d false (map bare_entry hs) = lg.general_is d a ∙ sym (heads_flat g d hs) in
      let n : length hs ≤ g.capacity = rw (lg.general_is d a, length_map (encode g d) hs) at (lg.place_fits d general_zone a (omega arith)) in
      let (p, q) = walk_lawful g d false (map bare_entry hs) zero (heads_lawful g d hs rd) (omega (arith, heads_extent g d hs rd)) in
      let (e, f) = heads_whole g d hs rd in
      rw s (p ∙ e, q ∙ f)

  pub general_heads_lem : (d : ℕ) → Here g x d → general_heads g v d ≡ γ.general d
  unfolding general_heads
  general_heads_lem d a = ap (map (λ (e : Entry). e.head)) (general_all d a).0 ∙ heads_back g d (γ.general d)

  pub general_ending_lem : (d : ℕ) → Here g x d → general_ending g v d ≡ at_pointer
  unfolding general_ending
  general_ending_lem d a = (general_all d a).1

  parity_all : (d : ℕ) → Here g x d → ((walk_log g d true (v d parity_zone).sectors).entries ≡ whole_entries g d true (γ.parity d)) × ((walk_log g d true (v d parity_zone).sectors).last ≡ ending_of g d true (γ.parity d))
  parity_all d a = rw (lg.parity_is d a) (walk_lawful g d true (γ.parity d) zero (lg.parity_lawful d a) (omega (arith, lg.parity_fits d a)))

  pub parity_entries_lem : (d : ℕ) → Here g x d → parity_entries g v d ≡ whole_entries g d true (γ.parity d)
  unfolding parity_entries
  parity_entries_lem d a = (parity_all d a).0

  pub parity_ending_lem : (d : ℕ) → Here g x d → parity_ending g v d ≡ ending_of g d true (γ.parity d)
  unfolding parity_ending
  parity_ending_lem d a = (parity_all d a).1

  -- ---- rule 1: the lost drive is the one that is lost
  says_none : (d : ℕ) → d < g.drives → d ≢ x → (e : ℕ) → e < g.drives → all_but x e && (labelled (general_heads g v e) && eqb (last_lost no_drive (general_heads g v e)) d) ≡ false
  says_none d hd n e he = go (ℕ_discrete e x)
    where
      other : Here g x e → eqb (last_lost no_drive (γ.general e)) d ≡ false
      other a = ne_eqb (last_lost no_drive (γ.general e)) d (neither (last_names x (v e general_zone).durable (γ.general e) (lg.labels e a)))
        where
          neither : {y : ℕ} → Names x y → y ≡ d → ⊥
          neither (inl p) q = omega (arith, ok.drives_most)
          neither (inr p) q = n (sym q ∙ p)

      go : Dec (e ≡ x) → all_but x e && (labelled (general_heads g v e) && eqb (last_lost no_drive (general_heads g v e)) d) ≡ false
      go (yes q) = rw (eq-eqb e x q) refl
      go (no q) =
          let a = present_other g x e he q in
          rw (ne_eqb e x q, general_heads_lem e a, other a) (and_false (labelled (γ.general e)))

  lost_other : (d : ℕ) → d < g.drives → d ≢ x → is_lost g (all_but x) v d ≡ false
  unfolding is_lost
  lost_other d hd n = rw (ne_eqb d x n) (none_any_below (λ e. all_but x e && (labelled (general_heads g v e) && eqb (last_lost no_drive (general_heads g v e)) d)) g.drives (says_none d hd n))

  lost_self : is_lost g (all_but x) v x ≡ true
  unfolding is_lost
  lost_self = rw (eq-eqb x x refl) refl

  pub present_is : is_present g (all_but x) v ≡ present_but g x
  unfolding is_present
  present_is = fun_ext λ d. go d (ltb d g.drives) refl (ℕ_discrete d x)
    where
      go : (d : ℕ) (b : Bool) → ltb d g.drives ≡ b → Dec (d ≡ x) → ltb d g.drives && not (is_lost g (all_but x) v d) ≡ ltb d g.drives && not (eqb d x)
      go d true p (yes q) = rw (p, q, lost_self, eq-eqb x x refl) refl
      go d true p (no q) = rw (p, lost_other d (ltb-true d g.drives p) q, ne_eqb d x q) refl
      go d false p q = rw p refl

  pub lost_is : lost_drive g (all_but x) v ≡ x
  lost_is = go lg.lost_ok
    where
      go : (x ≡ no_drive) ⊎ (x < g.drives) → lost_drive g (all_but x) v ≡ x
      go (inl e) = find_below_none (is_lost g (all_but x) v) g.drives (λ k l. lost_other k l (λ q. omega (arith, ok.drives_most))) ∙ sym e
      go (inr h) = find_below_one (is_lost g (all_but x) v) g.drives x h lost_self lost_other

  -- ---- no refusal
  one_lost : two_lost g (all_but x) v ≡ false
  unfolding two_lost
  one_lost = le-ltb 1 _ (count_below_one (is_lost g (all_but x) v) g.drives x lost_other)

  fails_here : (d : ℕ) (b : Bool) → (Here g x d → b ≡ false) → present_but g x d && b ≡ false
  fails_here d b h = go (present_but g x d) refl
    where
      go : (c : Bool) → present_but g x d ≡ c → c && b ≡ false
      go true e = h e
      go false e = refl

  pub begins : (d : ℕ) → Here g x d → (labelled (general_heads g v d) ≡ true) × (array_in (general_heads g v d) ≡ γ.array)
  begins d a = let (y, hs, e) = lg.first d a in rw (general_heads_lem d a, e) (refl, refl)

  labels_fine : bad_labels g (present_but g x) v ≡ false
  unfolding bad_labels
  labels_fine = none_any_below _ g.drives (λ d hd. fails_here d _ (λ a. rw (begins d a).0 (none_any_below _ g.drives (λ e he. fails_here e _ (λ b. rw ((begins d a).1, (begins e b).1, eq-eqb γ.array γ.array refl) refl)))))

  logs_fine : bad_logs g (present_but g x) v ≡ false
  unfolding bad_logs
  logs_fine = none_any_below _ g.drives (λ d hd. fails_here d _ (λ a. rw (general_ending_lem d a, parity_ending_lem d a) (ending_fine g d true (γ.parity d))))

  -- A LOOK IS NOT REFUSED
  pub look_unrefused : Unrefused g x v
  look_unrefused = record { lost = one_lost; labels = labels_fine; logs = logs_fine }
