-- What the rules depend on: the sectors below the written pointers of the present drives, and nothing else. Two devices that hold the
-- same there show the same. (A view has no sectors above the written pointers; durable pointers are not read.)
use Rattle.std.specs.Prelude.{◌≡◌, refl, Bool, ◌&&◌, ◌||◌}
use Rattle.std.proofs.Common.{sym, ◌∙◌, true≢false, arith, ltb-true, leb-true}
use Rattle.std.proofs.Math.Path.{ap, ap₂}
use Rattle.std.proofs.Math.Bool.{true, false, not}
use Prim.Native.Nat.{ℕ, zero, suc, ◌-◌, min}
use mathlib.Core.List.{List, [], ◌∷◌, map}
use Rattle.std.proofs.Math.ListN.{length, get_or}
use Rattle.std.proofs.Math.Dec.{ltb, leb, eqb}
use Rattle.tables.specs.meaning.Basics.{pick}
use Rattle.tables.specs.laws.Basics.{and_split}
use Rattle.tables.specs.meaning.Below.{any_below, all_below, max_below}
use Rattle.tables.specs.laws.Below.{all_below_all}
use Rattle.tables.specs.meaning.Lists.{any_of}
use Rattle.tables.specs.meaning.Greatest.{greatest}
use Rattle.tables.specs.meaning.Xor.{xor_bytes, without}
use Rattle.tables.specs.laws.Xor.{xor_below_cong}
use Rattle.tables.specs.meaning.Device.{Device}
use Rattle.tables.specs.meaning.Placement.{drive_of, sector_of, needed, stripe_of, unit_index, row_index}
use Rattle.tables.specs.declared.Geometry.{Geometry}
use Rattle.tables.specs.meaning.Geometry.{zone_sectors, data_zone}
use Rattle.logs.specs.meaning.Entry.{general_zone, parity_zone, Header, Entry}
use Rattle.logs.specs.meaning.Walk.{walk_log}
use Rattle.logs.specs.meaning.Heads.{labelled, last_lost, generation_in, is_reset, is_seal, ends_past, least_seal}
use Rattle.tables.specs.meaning.Drives.{no_drive}
use Rattle.volume.specs.meaning.Rules.{ParityEntry, View, Found, found, nothing, last_of, held_at, row_address, parity_of, row_drive, by_parity, serves, entry_for, known, others_xor, entry_xor, from_entry, value_of, known_prefix, is_found}
use Rattle.volume.specs.meaning.Rules.{general_heads, general_ending, parity_entries, parity_ending, is_lost, generation_of, reset_seen, seal_limit_below, seal_limit, serving_entries, view_of, zone_view, value_at, pointer_at, seal_seen, ending_past, clean_at, condition_of, zone_at, zone_shown}

-- the same sectors on every drive that is present
abbrev pub SameOn : (ℕ → Bool) → Device → Device → Type 0
SameOn present v w = (d : ℕ) → present d ≡ true → (y : ℕ) → (v d y).sectors ≡ (w d y).sectors

-- ---- tests of a drive that look no further if it is not present
pub and_same : (p a b : Bool) → (p ≡ true → a ≡ b) → p && a ≡ p && b
and_same true a b h = h refl
and_same false a b h = refl

pub or_same : (p a b : Bool) → (p ≡ true → a ≡ b) → not p || a ≡ not p || b
or_same true a b h = h refl
or_same false a b h = refl

pub pick_same : {A : Type 0} (p : Bool) (a b c : A) → (p ≡ true → a ≡ b) → pick p a c ≡ pick p b c
pick_same true a b c h = h refl
pick_same false a b c h = refl

pick_both : {A : Type 0} (p q : Bool) (a b c e : A) → p ≡ q → (p ≡ true → a ≡ b) → c ≡ e → pick p a c ≡ pick q b e
pick_both true true a b c e h f k = f refl
pick_both true false a b c e h f k = absurd (true≢false h)
pick_both false true a b c e h f k = absurd (true≢false (sym h))
pick_both false false a b c e h f k = k

last_passes : (p : ParityEntry → Bool) (es : List ParityEntry) (e : ParityEntry) → last_of p es ≡ found e → p e ≡ true
last_passes p [] e q = absurd (let z : ◌≡◌ {A = ℕ} 0 1 = cc in omega arith)
last_passes p (x ∷ es) e q = go (last_of p es) refl (p x) refl (λ r. last_passes p es e r)
  where
    go : (o : Found) → last_of p es ≡ o → (b : Bool) → p x ≡ b → (last_of p es ≡ found e → p e ≡ true) → p e ≡ true
    go (found y) r b s ih = ih (r ∙ (rw (r, last_of) at q))
    go nothing r true s ih =
        let m : found x ≡ found e = rw (r, s) at q in
        let n : e ≡ x = cc in
        rw n s
    go nothing r false s ih =
        let m : nothing ≡ found e = rw (r, s) at q in
        absurd (let z : ◌≡◌ {A = ℕ} 0 1 = cc in omega arith)

without_same : (f h : ℕ → List ℕ) (i k : ℕ) (b : Bool) → eqb k i || b ≡ true → (b ≡ true → f k ≡ h k) → without f i k ≡ without h i k
without_same f h i k b ok same = go (eqb k i) refl
  where
    go : (c : Bool) → eqb k i ≡ c → without f i k ≡ without h i k
    go true e = rw (e, without) refl
    go false e = rw (e, without) (same (rw e at ok))

-- ---- rules 4 and 5, of two views that agree on the present drives
module _ (D U z : ℕ) (X Y : View)
    (here : (d : ℕ) → X.present d ≡ Y.present d)
    (lengths : (d : ℕ) → X.present d ≡ true → X.written d ≡ Y.written d)
    (sectors : (d x : ℕ) → X.present d ≡ true → X.sector_at d x ≡ Y.sector_at d x)
    (logs : (d : ℕ) → X.present d ≡ true → X.entries d ≡ Y.entries d) where
  held_same : (d x : ℕ) → held_at X d x ≡ held_at Y d x
  held_same d x = and_same (X.present d) (ltb x (X.written d)) (ltb x (Y.written d)) (λ p. ap (ltb x) (lengths d p)) ∙ ap (λ (b : Bool). b && ltb x (Y.written d)) (here d)

  own_same : (d x : ℕ) → held_at X d x ≡ true → X.sector_at d x ≡ Y.sector_at d x
  own_same d x h = let (p, q) = and_split (X.present d) (ltb x (X.written d)) h in sectors d x p

  by_parity_same : (a : ℕ) → by_parity D U z X a ≡ by_parity D U z Y a
  by_parity_same a i = held_same (parity_of D U z a) (sector_of D U a) i && all_below (λ k. eqb k (unit_index D U a) || held_same (row_drive D U z a k) (sector_of D U a) i) (D - 1)

  serves_same : (a : ℕ) (e : ParityEntry) → serves D U z X a e ≡ serves D U z Y a e
  serves_same a e i =
      eqb e.stripe (stripe_of D U a) && ltb a e.end
      && all_below (λ k. eqb k (unit_index D U a) || (leb e.end (row_address D U a k) || held_same (row_drive D U z a k) (sector_of D U a) i)) (D - 1)

  entry_same : (a : ℕ) → entry_for D U z X a ≡ entry_for D U z Y a
  entry_same a =
      pick_both (X.present (parity_of D U z a)) (Y.present (parity_of D U z a)) (last_of (serves D U z X a) (X.entries (parity_of D U z a))) (last_of (serves D U z Y a) (Y.entries (parity_of D U z a))) nothing nothing (here (parity_of D U z a))
      (λ p i. last_of (λ e. serves_same a e i) (logs (parity_of D U z a) p i)) refl

  pub known_same : (a : ℕ) → known D U z X a ≡ known D U z Y a
  known_same a i = held_same (drive_of D U z a) (sector_of D U a) i || (by_parity_same a i || is_found (entry_same a i))

  pub prefix_same : (n : ℕ) → known_prefix D U z X n ≡ known_prefix D U z Y n
  prefix_same n i = greatest (λ a. known_same a i) n

  others_same : (a : ℕ) → by_parity D U z X a ≡ true → others_xor D U z X a ≡ others_xor D U z Y a
  others_same a h =
      let (p, q) = and_split (held_at X (parity_of D U z a) (sector_of D U a)) (all_below (λ k. eqb k (unit_index D U a) || held_at X (row_drive D U z a k) (sector_of D U a)) (D - 1)) h in
      xor_below_cong (without (λ k. X.sector_at (row_drive D U z a k) (sector_of D U a)) (unit_index D U a)) (without (λ k. Y.sector_at (row_drive D U z a k) (sector_of D U a)) (unit_index D U a)) (D - 1)
      (λ k l. without_same (λ k. X.sector_at (row_drive D U z a k) (sector_of D U a)) (λ k. Y.sector_at (row_drive D U z a k) (sector_of D U a)) (unit_index D U a) k (held_at X (row_drive D U z a k) (sector_of D U a))
      (all_below_all (λ k. eqb k (unit_index D U a) || held_at X (row_drive D U z a k) (sector_of D U a)) (D - 1) k q l) (own_same (row_drive D U z a k) (sector_of D U a)))

  entry_xor_same : (a : ℕ) (e : ParityEntry) → serves D U z X a e ≡ true → entry_xor D U z X a e ≡ entry_xor D U z Y a e
  entry_xor_same a e h =
      let (p, q) = and_split (eqb e.stripe (stripe_of D U a) && ltb a e.end) (all_below (λ k. eqb k (unit_index D U a) || (leb e.end (row_address D U a k) || held_at X (row_drive D U z a k) (sector_of D U a))) (D - 1)) h in
      xor_below_cong (without (below X) (unit_index D U a)) (without (below Y) (unit_index D U a)) (D - 1)
      (λ k l. without_same (below X) (below Y) (unit_index D U a) k (leb e.end (row_address D U a k) || held_at X (row_drive D U z a k) (sector_of D U a))
      (all_below_all (λ k. eqb k (unit_index D U a) || (leb e.end (row_address D U a k) || held_at X (row_drive D U z a k) (sector_of D U a))) (D - 1) k q l)
      (λ r. pick_same (ltb (row_address D U a k) e.end) (X.sector_at (row_drive D U z a k) (sector_of D U a)) (Y.sector_at (row_drive D U z a k) (sector_of D U a)) [] (λ t. needs k t (leb e.end (row_address D U a k)) refl r)))
    where
      below : View → ℕ → List ℕ
      below u k = pick (ltb (row_address D U a k) e.end) (u.sector_at (row_drive D U z a k) (sector_of D U a)) []

      needs : (k : ℕ) → ltb (row_address D U a k) e.end ≡ true → (b : Bool) → leb e.end (row_address D U a k) ≡ b → b || held_at X (row_drive D U z a k) (sector_of D U a) ≡ true
          → X.sector_at (row_drive D U z a k) (sector_of D U a) ≡ Y.sector_at (row_drive D U z a k) (sector_of D U a)
      needs k t true r m = absurd (let l = ltb-true (row_address D U a k) e.end t in let n = leb-true e.end (row_address D U a k) r in omega arith)
      needs k t false r m = own_same (row_drive D U z a k) (sector_of D U a) m

  from_entry_same : (a : ℕ) (f : Found) → entry_for D U z X a ≡ f → from_entry D U z X a f ≡ from_entry D U z Y a f
  from_entry_same a nothing h = refl
  from_entry_same a (found e) h = ap (λ (xs : List ℕ). xor_bytes xs (e.rows (row_index D U a))) (entry_xor_same a e (served (X.present (parity_of D U z a)) h))
    where
      served : (b : Bool) → pick b (last_of (serves D U z X a) (X.entries (parity_of D U z a))) nothing ≡ found e → serves D U z X a e ≡ true
      served true k = last_passes (serves D U z X a) (X.entries (parity_of D U z a)) e k
      served false k = absurd (true≢false (sym (ap is_found k)))

  pub value_same : (a : ℕ) → value_of D U z X a ≡ value_of D U z Y a
  value_same a =
      pick_both (held_at X (drive_of D U z a) (sector_of D U a)) (held_at Y (drive_of D U z a) (sector_of D U a)) (X.sector_at (drive_of D U z a) (sector_of D U a)) (Y.sector_at (drive_of D U z a) (sector_of D U a))
      (pick (by_parity D U z X a) (xor_bytes (others_xor D U z X a) (X.sector_at (parity_of D U z a) (sector_of D U a))) (from_entry D U z X a (entry_for D U z X a)))
      (pick (by_parity D U z Y a) (xor_bytes (others_xor D U z Y a) (Y.sector_at (parity_of D U z a) (sector_of D U a))) (from_entry D U z Y a (entry_for D U z Y a)))
      (held_same (drive_of D U z a) (sector_of D U a)) (own_same (drive_of D U z a) (sector_of D U a))
      (pick_both (by_parity D U z X a) (by_parity D U z Y a) (xor_bytes (others_xor D U z X a) (X.sector_at (parity_of D U z a) (sector_of D U a))) (xor_bytes (others_xor D U z Y a) (Y.sector_at (parity_of D U z a) (sector_of D U a)))
      (from_entry D U z X a (entry_for D U z X a)) (from_entry D U z Y a (entry_for D U z Y a))
      (by_parity_same a) (λ h. ap₂ xor_bytes (others_same a h) (parity h)) (from_entry_same a (entry_for D U z X a) refl ∙ ap (from_entry D U z Y a) (entry_same a)))
    where
      parity : by_parity D U z X a ≡ true → X.sector_at (parity_of D U z a) (sector_of D U a) ≡ Y.sector_at (parity_of D U z a) (sector_of D U a)
      parity h = let (p, q) = and_split (held_at X (parity_of D U z a) (sector_of D U a)) (all_below (λ k. eqb k (unit_index D U a) || held_at X (row_drive D U z a k) (sector_of D U a)) (D - 1)) h in own_same (parity_of D U z a) (sector_of D U a) p

-- ---- all rules, of two devices that agree on the present drives
module _ (g : Geometry) (present : ℕ → Bool) (v w : Device) (same : SameOn present v w) where
  pub heads_same : (d : ℕ) → present d ≡ true → general_heads g v d ≡ general_heads g w d
  unfolding general_heads
  heads_same d p = ap (λ (ss : List (List ℕ)). map (λ (e : Entry). e.head) (walk_log g d false ss).entries) (same d p general_zone)

  pub parity_same : (d : ℕ) → present d ≡ true → parity_entries g v d ≡ parity_entries g w d
  unfolding parity_entries
  parity_same d p = ap (λ (ss : List (List ℕ)). (walk_log g d true ss).entries) (same d p parity_zone)

  pub ending_same : (d : ℕ) → present d ≡ true → parity_ending g v d ≡ parity_ending g w d
  unfolding parity_ending
  ending_same d p = ap (λ (ss : List (List ℕ)). (walk_log g d true ss).last) (same d p parity_zone)

  pub general_ending_same : (d : ℕ) → present d ≡ true → general_ending g v d ≡ general_ending g w d
  unfolding general_ending
  general_ending_same d p = ap (λ (ss : List (List ℕ)). (walk_log g d false ss).last) (same d p general_zone)

  -- rule 1 (here `present` are the drives named)
  pub lost_depends : (d : ℕ) → is_lost g present v d ≡ is_lost g present w d
  unfolding is_lost
  lost_depends d i =
      not (present d) || any_below (λ e. and_same (present e) (labelled (general_heads g v e) && eqb (last_lost no_drive (general_heads g v e)) d) (labelled (general_heads g w e) && eqb (last_lost no_drive (general_heads g w e)) d)
      (λ p. ap (λ (hs : List Header). labelled hs && eqb (last_lost no_drive hs) d) (heads_same e p)) i) g.drives

  -- rule 2
  pub generation_depends : (z : ℕ) → generation_of g present v z ≡ generation_of g present w z
  unfolding generation_of
  generation_depends z i = max_below (λ d. pick_same (present d) (generation_in z (general_heads g v d)) (generation_in z (general_heads g w d)) zero (λ p. ap (generation_in z) (heads_same d p)) i) g.drives

  -- rule 3
  pub reset_depends : (z n : ℕ) → reset_seen g present v z n ≡ reset_seen g present w z n
  unfolding reset_seen
  reset_depends z n i = any_below (λ d. and_same (present d) (any_of (is_reset z n) (general_heads g v d)) (any_of (is_reset z n) (general_heads g w d)) (λ p. ap (any_of (is_reset z n)) (heads_same d p)) i) g.drives

  limit_below_depends : (z n d : ℕ) → seal_limit_below g present v z n d ≡ seal_limit_below g present w z n d
  limit_below_depends z n zero = refl
  limit_below_depends z n (suc d) =
      pick_both (present d) (present d) (least_seal z n (seal_limit_below g present v z n d) (general_heads g v d)) (least_seal z n (seal_limit_below g present w z n d) (general_heads g w d)) (seal_limit_below g present v z n d) (seal_limit_below g present w z n d) refl
      (λ p. ap₂ (least_seal z n) (limit_below_depends z n d) (heads_same d p)) (limit_below_depends z n d)

  pub limit_depends : (z n : ℕ) → seal_limit g present v z n ≡ seal_limit g present w z n
  unfolding seal_limit
  limit_depends z n = limit_below_depends z n g.drives

  -- rule 4
  pub value_depends : (z n a : ℕ) → value_at g present v z n a ≡ value_at g present w z n a
  unfolding value_at zone_view view_of
  value_depends z n a =
      value_same g.drives g.unit z (zone_view g present v z n) (zone_view g present w z n) (λ d. refl) (λ d p. ap (λ (ss : List (List ℕ)). length ss) (same d p (data_zone z))) (λ d x p. ap (λ (ss : List (List ℕ)). get_or ss x []) (same d p (data_zone z)))
      (λ d p. ap₂ (serving_entries g z n) (limit_depends z n) (parity_same d p)) a

  pub known_depends : (z n a : ℕ) → known g.drives g.unit z (zone_view g present v z n) a ≡ known g.drives g.unit z (zone_view g present w z n) a
  unfolding zone_view view_of
  known_depends z n a =
      known_same g.drives g.unit z (zone_view g present v z n) (zone_view g present w z n) (λ d. refl) (λ d p. ap (λ (ss : List (List ℕ)). length ss) (same d p (data_zone z))) (λ d x p. ap (λ (ss : List (List ℕ)). get_or ss x []) (same d p (data_zone z)))
      (λ d p. ap₂ (serving_entries g z n) (limit_depends z n) (parity_same d p)) a

  pub held_depends : (z n d x : ℕ) → held_at (zone_view g present v z n) d x ≡ held_at (zone_view g present w z n) d x
  unfolding zone_view view_of
  held_depends z n d x = and_same (present d) (ltb x (length (v d (data_zone z)).sectors)) (ltb x (length (w d (data_zone z)).sectors)) (λ p. ap (λ (ss : List (List ℕ)). ltb x (length ss)) (same d p (data_zone z)))

  -- rule 5
  pub pointer_depends : (z n : ℕ) → pointer_at g present v z n ≡ pointer_at g present w z n
  unfolding pointer_at zone_view view_of
  pointer_depends z n i =
      pick (reset_depends z n i) zero (min (prefix_same g.drives g.unit z (zone_view g present v z n) (zone_view g present w z n) (λ d. refl) (λ d p. ap (λ (ss : List (List ℕ)). length ss) (same d p (data_zone z))) (λ d x p. ap (λ (ss : List (List ℕ)). get_or ss x []) (same d p (data_zone z)))
      (λ d p. ap₂ (serving_entries g z n) (limit_depends z n) (parity_same d p)) (zone_sectors g) i) (limit_depends z n i))

  -- rule 6
  pub seal_depends : (z n : ℕ) → seal_seen g present v z n ≡ seal_seen g present w z n
  unfolding seal_seen
  seal_depends z n i = any_below (λ d. and_same (present d) (any_of (is_seal z n) (general_heads g v d)) (any_of (is_seal z n) (general_heads g w d)) (λ p. ap (any_of (is_seal z n)) (heads_same d p)) i) g.drives

  abbrev clean_drive : Device → ℕ → ℕ → ℕ → ℕ → Bool
  clean_drive x z n q d =
      leb (length (x d (data_zone z)).sectors) (needed g.drives g.unit z q d)
      && (not (any_of (λ (e : Entry). ends_past g z n q e.head) (parity_entries g x d)) && not (ending_past g z n q (parity_ending g x d)))

  pub clean_depends : (z n q : ℕ) → clean_at g present v z n q ≡ clean_at g present w z n q
  unfolding clean_at
  clean_depends z n q i = all_below (λ d. or_same (present d) (clean_drive v z n q d) (clean_drive w z n q d) (drive d) i) g.drives
    where
      drive : (d : ℕ) → present d ≡ true → clean_drive v z n q d ≡ clean_drive w z n q d
      drive d p i =
          leb (length (same d p (data_zone z) i)) (needed g.drives g.unit z q d)
          && (not (any_of (λ (e : Entry). ends_past g z n q e.head) (parity_same d p i)) && not (ending_past g z n q (ending_same d p i)))

  -- all that is shown of a zone
  zone_at_depends : (z n : ℕ) → zone_at g present v z n ≡ zone_at g present w z n
  unfolding zone_at
  zone_at_depends z n i = record {
    generation = n;
    condition = condition_of n (pointer_depends z n i) (clean z n i) (seal_depends z n i);
    pointer = pointer_depends z n i;
    value = λ a. value_depends z n a i;
    by_reset = reset_depends z n i;
    clean = clean z n i;
  }
    where
      clean : (z n : ℕ) → clean_at g present v z n (pointer_at g present v z n) ≡ clean_at g present w z n (pointer_at g present w z n)
      clean z n = clean_depends z n (pointer_at g present v z n) ∙ ap (clean_at g present w z n) (pointer_depends z n)

  pub zone_depends : (z : ℕ) → zone_shown g present v z ≡ zone_shown g present w z
  unfolding zone_shown
  zone_depends z = zone_at_depends z (generation_of g present v z) ∙ ap (zone_at g present w z) (generation_depends z)
