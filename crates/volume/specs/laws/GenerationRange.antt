-- A zone's generation is a number of 8 bytes: every counter of a legal entry is, for the entry's bytes are what its numbers are written as. The last of them is a
-- worn zone's.
use Rattle.std.specs.Prelude.{◌≡◌, refl, ◌⊎◌, ◌≢◌, Bool, true, false, ◌||◌, not, ℕ, zero, ◌+◌, ◌-◌, ◌*◌, ◌^◌, ◌<◌, List, [], length, get_or, take, drop, replicate, eqb}
use Rattle.std.proofs.Common.{ap, ◌∙◌, sym, inl, inr, true≢false, arith, length-take, drop-drop, eq-eqb}
use Rattle.std.proofs.Math.Decide.{ℕ_discrete}
use Rattle.tables.specs.declared.Geometry.{Geometry}
use Rattle.tables.specs.meaning.Basics.{pick}
use Rattle.tables.specs.meaning.Below.{max_below}
use Rattle.tables.specs.laws.Below.{max_below_is}
use Rattle.tables.specs.meaning.LittleEndian.{words_le}
use Rattle.tables.specs.meaning.Device.{Device}
use Rattle.logs.specs.meaning.Entry.{general_zone, counters, encode, frame, legal, worn_generation}
use Rattle.logs.specs.laws.Legal.{legal_written_again}
use Rattle.logs.specs.meaning.Walk.{walk_log}
use Rattle.logs.specs.laws.Heads.{is_counters}
use Rattle.logs.specs.meaning.Heads.{generation_in}
use Rattle.logs.specs.code.Query.{heads_of}
use Rattle.logs.specs.laws.Places.{last_there}
use Rattle.logs.specs.code.Generations.{counters_of, counters_place, no_generation, generation_there}
use Rattle.volume.specs.meaning.Rules.{general_heads, generation_of, condition_of}
use Rattle.volume.specs.laws.ByteLists.{Bytes, bytes_append, bytes_take, bytes_drop, bytes_zeros, words_in_bytes, number_small}
use Rattle.volume.specs.declared.Condition.TheVariants.{Empty, Open, Sealed, Worn}
use Rattle.volume.specs.meaning.State.{is_empty}

-- ---- counters
counters_bytes : (g : Geometry) (d : ℕ) (cs : List ℕ) → Bytes (drop 32 (encode g d (counters cs)))
unfolding encode frame
counters_bytes g d cs = bytes_append (words_le cs) (replicate (g.sector - (32 + 8 * length cs)) 0) (words_in_bytes cs) (bytes_zeros (g.sector - (32 + 8 * length cs)))

module _ (g : Geometry) (d : ℕ) (ss : List (List ℕ)) (z : ℕ) (hz : z < g.zones) where
  there : (p : ℕ) → counters_place g d ss ≡ p + 1 → generation_in z (heads_of (walk_log g d false ss)) < 256 ^ 8
  there p e =
      let l = last_there g d false ss is_counters p e in
      let (cs, c) = counters_of l.entry.head l.passes in
      let w : encode g d (counters cs) ≡ get_or ss p [] = legal_written_again g d false (get_or ss p []) (counters cs) (l.stands.reads ∙ ap legal c) in
      let b : Bytes (drop 32 (get_or ss p [])) = rw (← w) (counters_bytes g d cs) in
      let q : Bytes (drop (32 + 8 * z) (get_or ss p [])) = rw (← drop-drop (8 * z) 32 (get_or ss p [])) (bytes_drop (8 * z) (drop 32 (get_or ss p [])) b) in
      rw (← generation_there g d ss p z e hz) (number_small 8 (take 8 (drop (32 + 8 * z) (get_or ss p []))) (rw length-take (omega arith)) (bytes_take 8 (drop (32 + 8 * z) (get_or ss p [])) q))

  pub generation_fits : generation_in z (heads_of (walk_log g d false ss)) < 256 ^ 8
  generation_fits = go (ℕ_discrete (counters_place g d ss) 0)
    where
      go : Dec (counters_place g d ss ≡ 0) → generation_in z (heads_of (walk_log g d false ss)) < 256 ^ 8
      go (yes e) = rw (← no_generation g d ss z e) (omega arith)
      go (no n) = there (counters_place g d ss - 1) (omega (arith, n))

-- ---- rule 2
pub generation_range : (g : Geometry) (present : ℕ → Bool) (v : Device) (z : ℕ) → z < g.zones → generation_of g present v z < 2 ^ 64
unfolding generation_of general_heads
generation_range g present v z hz = go (max_below_is (λ d. pick (present d) (generation_in z (general_heads g v d)) zero) g.drives)
  where
    one : (b : Bool) (d : ℕ) → pick b (generation_in z (heads_of (walk_log g d false (v d general_zone).sectors))) zero < 2 ^ 64
    one true d = generation_fits g d (v d general_zone).sectors z hz
    one false d = omega arith

    go : (max_below (λ d. pick (present d) (generation_in z (general_heads g v d)) zero) g.drives ≡ zero) ⊎ ((k : ℕ) × (k < g.drives) × (max_below (λ d. pick (present d) (generation_in z (general_heads g v d)) zero) g.drives ≡ pick (present k) (generation_in z (general_heads g v k)) zero))
        → max_below (λ d. pick (present d) (generation_in z (general_heads g v d)) zero) g.drives < 2 ^ 64
    go (inl e) = rw e (omega arith)
    go (inr (k, l, e)) = rw e (one (present k) k)

-- ---- the last generation
-- a zone of generation 2^64 − 1 is worn, not empty
pub empty_fresh : (n q : ℕ) (clean has_seal : Bool) → is_empty (condition_of n q clean has_seal) ≡ true → n ≢ worn_generation
empty_fresh n q clean has_seal h e = true≢false (sym h ∙ ap (λ (b : Bool). is_empty (pick b (Worn q) (pick (eqb q 0) Empty (pick (not clean || has_seal) (Sealed q) (Open q))))) (eq-eqb n worn_generation e))

pub worn_top : worn_generation ≡ 2 ^ 64 - 1
unfolding worn_generation
worn_top = refl
