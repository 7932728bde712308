-- General logs that were emptied answer as before, on every drive: to each question that a look or a step of a mount asks of a log, but for the counters,
-- which are those in force. (The generation of which zones are asked is that in force: the greatest that the present drives' counters give.)
use Rattle.std.specs.Prelude.{◌≡◌, ◌⊎◌, Bool, true, false, ℕ, zero, ◌+◌, ◌≤◌, ◌<◌, length, get_or}
use Rattle.std.proofs.Math.Path.{refl}
use Rattle.std.proofs.Common.{sym, ap, ◌∙◌, subst, inl, inr, arith, eqb-true}
use Rattle.std.proofs.Math.Decide.{dec_lt}
use mathlib.Core.List.{List, [], Memᴰ}
use Rattle.std.proofs.Math.ListN.{get_or-eq_default}
use Rattle.tables.specs.meaning.Basics.{pick}
use Rattle.tables.specs.meaning.Below.{max_below}
use Rattle.tables.specs.laws.Below.{max_below_least, max_below_is, max_below_most}
use Rattle.tables.specs.meaning.Lists.{any_of}
use Rattle.tables.specs.laws.Lists.{any_of_some}
use Rattle.tables.specs.declared.Geometry.{Geometry}
use Rattle.tables.specs.meaning.Geometry.{zone_sectors}
use Rattle.tables.specs.meaning.Device.{Device}
use Rattle.logs.specs.meaning.Entry.{Header, counters, zone_reset, seal}
use Rattle.logs.specs.meaning.Heads.{labelled, array_in, last_lost, last_counters, generation_in, is_reset, is_seal, is_seal_at, least_seal}
use Rattle.logs.specs.laws.HeadLaws.{reset_is, reads_fits, LastOf, old, new, last_counters_of}
use Rattle.logs.specs.laws.Copies.{is_seal_lem}
use Rattle.logs.specs.laws.CopiesSay.{closed_copy, least_none, copy_resets, copy_seals, copy_seal_at, copy_least, copy_no_resets, copy_no_seals, copy_counters, copy_lost, copy_label}
use Rattle.logs.specs.code.Judge.{reset_small}
use Rattle.volume.specs.meaning.Rules.{general_heads, generation_of}
use Rattle.volume.specs.meaning.Calls.{generations_from}
use Rattle.volume.specs.meaning.Roles.{Roles}
use Rattle.volume.specs.meaning.Emptying.{InForce}
use Rattle.volume.specs.laws.Counters.{generations_at}
use Rattle.volume.specs.laws.EmptiedLogs.{Emptied, head_reads, head_seal, emptied_walk, kept_heads}

-- ---- of a zone that there is not, a general log says nothing
module _ (g : Geometry) (v : Device) (d z : ℕ) (past : g.zones ≤ z) where
  head_no_resets : (n : ℕ) → any_of (is_reset z n) (general_heads g v d) ≡ false
  head_no_resets n = go (any_of (is_reset z n) (general_heads g v d)) refl
    where
      go : (b : Bool) → any_of (is_reset z n) (general_heads g v d) ≡ b → b ≡ false
      go true e =
          let (h, m, i) = any_of_some (is_reset z n) (general_heads g v d) e in
          let j : Memᴰ (zone_reset z n) (general_heads g v d) = rw (reset_is z n h i) at m in
          absurd (let l = reset_small g d false z n (reads_fits g d false (zone_reset z n) (head_reads g v d (zone_reset z n) j)) in omega (arith, l, past))
      go false e = refl

  head_no_seals : (n : ℕ) → any_of (is_seal z n) (general_heads g v d) ≡ false
  head_no_seals n = go (any_of (is_seal z n) (general_heads g v d)) refl
    where
      go : (b : Bool) → any_of (is_seal z n) (general_heads g v d) ≡ b → b ≡ false
      go true e =
          let (h, m, i) = any_of_some (is_seal z n) (general_heads g v d) e in
          let (c, q) = is_seal_lem z n h i in
          let j : Memᴰ (seal z c n) (general_heads g v d) = rw q at m in
          absurd (omega (arith, (head_seal g v d z c n j).0, past))
      go false e = refl

  head_no_count : generation_in z (general_heads g v d) ≡ zero
  head_no_count = go (last_counters_of [] (general_heads g v d))
    where
      go : LastOf [] (general_heads g v d) → get_or (last_counters [] (general_heads g v d)) z zero ≡ zero
      go (old e) = rw e refl
      go (new cs m e) =
          let l : length cs ≡ g.zones = eqb-true (length cs) g.zones (reads_fits g d false (counters cs) (head_reads g v d (counters cs) m)) in
          ap (λ (bs : List ℕ). get_or bs z zero) e ∙ get_or-eq_default cs zero (omega (arith, l, past))

module _ (g : Geometry) (present : ℕ → Bool) (f : InForce) (r : ℕ → Roles) (emptied : ℕ → Bool) (w w1 : Device) (k : Emptied g present f r emptied w w1) where
  abbrev gens : ℕ → ℕ
  gens = f.generation

  abbrev in_force : List ℕ
  in_force = generations_from gens zero g.zones

  abbrev log : ℕ → List Header
  log d = general_heads g w d

  abbrev copy : ℕ → List Header
  copy d = closed_copy g gens in_force (log d) (r d).general_claim

  abbrev now : ℕ → ℕ
  now z = generation_of g present w z

  -- a question that the copy answers as the log did
  log_alike : {A : Type 0} (q : List Header → A) (d : ℕ) → (emptied d ≡ true → q (copy d) ≡ q (log d)) → q (general_heads g w1 d) ≡ q (log d)
  log_alike q d h = go (emptied d) refl
    where
      go : (b : Bool) → emptied d ≡ b → q (general_heads g w1 d) ≡ q (log d)
      go true e = ap q (emptied_walk g present f r emptied w w1 k d e) ∙ h e
      go false e = ap q (kept_heads g present f r emptied w w1 k d e)

  -- ---- resets and seals
  pub resets_alike : (d z : ℕ) → any_of (is_reset z (now z)) (general_heads g w1 d) ≡ any_of (is_reset z (now z)) (general_heads g w d)
  resets_alike d z = log_alike (any_of (is_reset z (now z))) d (λ e. go (dec_lt z g.zones))
    where
      go : Dec (z < g.zones) → any_of (is_reset z (now z)) (copy d) ≡ any_of (is_reset z (now z)) (log d)
      go (yes l) = subst (λ (n : ℕ). any_of (is_reset z n) (copy d) ≡ any_of (is_reset z n) (log d)) (k.in_force_lem z l) (copy_resets g gens in_force (log d) (r d).general_claim z l)
      go (no l) = copy_no_resets g gens in_force (log d) (r d).general_claim z (now z) (omega arith) ∙ sym (head_no_resets g w d z (omega arith) (now z))

  pub seals_alike : (d z : ℕ) → any_of (is_seal z (now z)) (general_heads g w1 d) ≡ any_of (is_seal z (now z)) (general_heads g w d)
  seals_alike d z = log_alike (any_of (is_seal z (now z))) d (λ e. go (dec_lt z g.zones))
    where
      go : Dec (z < g.zones) → any_of (is_seal z (now z)) (copy d) ≡ any_of (is_seal z (now z)) (log d)
      go (yes l) = subst (λ (n : ℕ). any_of (is_seal z n) (copy d) ≡ any_of (is_seal z n) (log d)) (k.in_force_lem z l) (copy_seals g gens in_force (log d) (r d).general_claim z l)
      go (no l) = copy_no_seals g gens in_force (log d) (r d).general_claim z (now z) (omega arith) ∙ sym (head_no_seals g w d z (omega arith) (now z))

  -- (q: a bound inside the zone, as every limit is)
  pub least_alike : (d z q : ℕ) → q ≤ zone_sectors g → least_seal z (now z) q (general_heads g w1 d) ≡ least_seal z (now z) q (general_heads g w d)
  least_alike d z q most = log_alike (least_seal z (now z) q) d (λ e. go (dec_lt z g.zones))
    where
      go : Dec (z < g.zones) → least_seal z (now z) q (copy d) ≡ least_seal z (now z) q (log d)
      go (yes l) = subst (λ (n : ℕ). least_seal z n q (copy d) ≡ least_seal z n q (log d)) (k.in_force_lem z l) (copy_least g gens in_force (log d) (r d).general_claim z q l most)
      go (no l) =
          least_none z (now z) q (copy d) (copy_no_seals g gens in_force (log d) (r d).general_claim z (now z) (omega arith))
          ∙ sym (least_none z (now z) q (log d) (head_no_seals g w d z (omega arith) (now z)))

  -- a seal just at q, where an emptied log has no current one below
  pub seal_at_alike : (d z q : ℕ) → z < g.zones → (emptied d ≡ true → q ≤ least_seal z (now z) (zone_sectors g) (general_heads g w d))
      → any_of (is_seal_at z (now z) q) (general_heads g w1 d) ≡ any_of (is_seal_at z (now z) q) (general_heads g w d)
  seal_at_alike d z q l low =
      log_alike (any_of (is_seal_at z (now z) q)) d (λ e. subst (λ (n : ℕ). q ≤ least_seal z n (zone_sectors g) (log d) → any_of (is_seal_at z n q) (copy d) ≡ any_of (is_seal_at z n q) (log d)) (k.in_force_lem z l)
      (λ b. copy_seal_at g gens in_force (log d) (r d).general_claim z q l (λ c m. (head_seal g w d z c (gens z) m).1) b) (low e))

  -- ---- labels
  pub lost_alike : (d x : ℕ) → last_lost x (general_heads g w1 d) ≡ last_lost x (general_heads g w d)
  lost_alike d x = log_alike (last_lost x) d (λ e. copy_lost g gens in_force (log d) (r d).general_claim x)

  pub labelled_alike : (d : ℕ) → labelled (general_heads g w1 d) ≡ labelled (general_heads g w d)
  labelled_alike d = log_alike labelled d (λ e. (copy_label g gens in_force (log d) (r d).general_claim (k.begins d e)).0 ∙ sym (k.begins d e))

  pub array_alike : (d : ℕ) → array_in (general_heads g w1 d) ≡ array_in (general_heads g w d)
  array_alike d = log_alike array_in d (λ e. (copy_label g gens in_force (log d) (r d).general_claim (k.begins d e)).1)

  -- ---- counters: an emptied drive's are those in force
  pub emptied_counters : (d : ℕ) → emptied d ≡ true → last_counters [] (general_heads g w1 d) ≡ generations_from f.generation zero g.zones
  emptied_counters d e = ap (last_counters []) (emptied_walk g present f r emptied w w1 k d e) ∙ copy_counters g gens in_force (log d) (r d).general_claim

  pub emptied_count : (d z : ℕ) → emptied d ≡ true → z < g.zones → generation_in z (general_heads g w1 d) ≡ generation_of g present w z
  emptied_count d z e l =
      let i : zero + z ≡ z = omega arith in
      ap (λ (cs : List ℕ). get_or cs z zero) (emptied_counters d e) ∙ generations_at gens zero g.zones z l ∙ ap gens i ∙ k.in_force_lem z l

  no_count : (d z : ℕ) → g.zones ≤ z → generation_in z (general_heads g w1 d) ≡ generation_in z (log d)
  no_count d z l = head_no_count g w1 d z l ∙ sym (head_no_count g w d z l)

  -- RULE 2: so the greatest of them stays
  abbrev count : Device → ℕ → ℕ → ℕ
  count u z d = pick (present d) (generation_in z (general_heads g u d)) zero

  module _ (z : ℕ) (hz : z < g.zones) where
    abbrev top : Device → ℕ
    top u = max_below (count u z) g.drives

    top_is : top w ≡ now z
    unfolding generation_of
    top_is = refl

    emptied_counts : (d : ℕ) → emptied d ≡ true → count w1 z d ≡ top w
    emptied_counts d e = rw (k.there d e).0 (emptied_count d z e hz ∙ sym top_is)

    kept_counts : (d : ℕ) → emptied d ≡ false → count w1 z d ≡ count w z d
    kept_counts d e = ap (λ (hs : List Header). pick (present d) (generation_in z hs) zero) (kept_heads g present f r emptied w w1 k d e)

    top_most : top w1 ≤ top w
    top_most = max_below_most (count w1 z) g.drives (top w) (λ d l. go d l (emptied d) refl)
      where
        go : (d : ℕ) → d < g.drives → (b : Bool) → emptied d ≡ b → count w1 z d ≤ top w
        go d l true e = omega (arith, emptied_counts d e)
        go d l false e = omega (arith, kept_counts d e, max_below_least (count w z) g.drives d l)

    top_least : top w ≤ top w1
    top_least = go (max_below_is (count w z) g.drives)
      where
        at : (d : ℕ) → d < g.drives → top w ≡ count w z d → (b : Bool) → emptied d ≡ b → top w ≤ top w1
        at d l q true e = omega (arith, emptied_counts d e, max_below_least (count w1 z) g.drives d l)
        at d l q false e = omega (arith, q, kept_counts d e, max_below_least (count w1 z) g.drives d l)

        go : (top w ≡ zero) ⊎ ((d : ℕ) × (d < g.drives) × (top w ≡ count w z d)) → top w ≤ top w1
        go (inl q) = omega (arith, q)
        go (inr (d, l, q)) = at d l q (emptied d) refl

  pub generation_same : (z : ℕ) → generation_of g present w1 z ≡ generation_of g present w z
  unfolding generation_of
  generation_same z = go (dec_lt z g.zones)
    where
      go : Dec (z < g.zones) → max_below (count w1 z) g.drives ≡ max_below (count w z) g.drives
      go (yes l) = let a = top_most z l in let b = top_least z l in omega (arith, a, b)
      go (no l) = λ i. max_below (λ d. pick (present d) (no_count d z (omega arith) i) zero) g.drives
