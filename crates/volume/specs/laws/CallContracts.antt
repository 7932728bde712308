-- The three ways a storing call ends; stores one after the other, of functions that are handed two of the tables.
use Rattle.std.specs.Prelude.{◌≡◌, refl, ◌≢◌, suc, ◌-◌, ℕ, ◌++◌, List, [], length, eqb}
use Rattle.std.proofs.Common.{sym, arith, ne_eqb, eq-eqb}
use Rattle.std.proofs.Math.Decide.{ℕ_discrete}
use Rattle.tables.specs.declared.Geometry.{Geometry}
use Rattle.tables.specs.meaning.Basics.{pick}
use Rattle.tables.specs.meaning.Device.{Store}
use Rattle.tables.specs.laws.Counted.{made_nil, made_append, budget_unfinished, budget_finished}
use Rattle.tables.specs.laws.Made.{Made, MadePointers, MadeAppends}
use Rattle.tables.specs.meaning.Tables.{tables_of, Tables}
use Rattle.volume.specs.declared.State.{State}
use Rattle.volume.specs.declared.Answer.TheVariants.{Finished, Unfinished, Refused}
use Rattle.volume.specs.meaning.CallContracts.{storing_on}

-- ---- laws: the three ways a storing call ends
module _ (g : Geometry) (n : ℕ) (ss : List Store) (new old : State) (count : ℕ) (t : Tables) where
  pub storing_refused : n ≢ 0 → ((storing_on g n ss new old count t).outcome ≡ record { answer = Refused n; state = old }) × ((storing_on g n ss new old count t).tables ≡ t)
  storing_refused h = rw (ne_eqb n 0 h) (refl, refl)

  -- its budget began at count + 1, and this is left of it
  pub storing_unfinished : (rest : ℕ) (u : Tables) → n ≡ 0 → Made g (suc count) rest ss t u → rest ≡ 0
      → ((storing_on g n ss new old count t).outcome ≡ record { answer = Unfinished; state = old }) × ((storing_on g n ss new old count t).tables ≡ u)
  storing_unfinished rest u e m z =
      let k : suc count - 1 ≡ count = omega arith in
      rw (eq-eqb n 0 e, budget_unfinished count rest (length ss) m.rest_is z, m.tables_are, k) (refl, refl)

  pub storing_finished : (rest : ℕ) (u : Tables) → n ≡ 0 → Made g (suc count) rest ss t u → rest ≢ 0
      → ((storing_on g n ss new old count t).outcome ≡ record { answer = Finished; state = new }) × ((storing_on g n ss new old count t).tables ≡ u)
  storing_finished rest u e m z =
      let k : suc count - 1 ≡ count = omega arith in
      rw (eq-eqb n 0 e, budget_finished count rest (length ss) m.rest_is z, m.tables_are, k) (refl, refl)

  -- whichever way it ends, once it has passed its refusals
  pub storing_ends : (rest : ℕ) (u : Tables) → n ≡ 0 → Made g (suc count) rest ss t u
      → (pick (eqb rest 0) (record { answer = Unfinished; state = old }) (record { answer = Finished; state = new }) ≡ (storing_on g n ss new old count t).outcome) × (u ≡ (storing_on g n ss new old count t).tables)
  storing_ends rest u e m = go (ℕ_discrete rest 0)
    where
      go : Dec (rest ≡ 0) → (pick (eqb rest 0) (record { answer = Unfinished; state = old }) (record { answer = Finished; state = new }) ≡ (storing_on g n ss new old count t).outcome) × (u ≡ (storing_on g n ss new old count t).tables)
      go (yes z) = let (p, q) = storing_unfinished rest u e m z in (rw (eq-eqb rest 0 z) (sym p), sym q)
      go (no z) = let (p, q) = storing_finished rest u e m z in (rw (ne_eqb rest 0 z) (sym p), sym q)

-- ---- laws: stores one after the other, of functions that are handed two of the tables
pub pointers_nil : (g : Geometry) (budget : ℕ) (ws ds : List ℕ) → MadePointers g budget budget [] ws ds ws ds
pointers_nil g budget ws ds = record { made = λ xs. made_nil g budget (tables_of xs ws ds) }

pub pointers_append : (g : Geometry) (budget mid rest : ℕ) (p q : List Store) (ws ds ws' ds' ws'' ds'' : List ℕ) → MadePointers g budget mid p ws ds ws' ds' → MadePointers g mid rest q ws' ds' ws'' ds''
    → MadePointers g budget rest (p ++ q) ws ds ws'' ds''
pointers_append g budget mid rest p q ws ds ws' ds' ws'' ds'' a b =
    record { made = λ xs. made_append g budget mid rest p q (tables_of xs ws ds) (tables_of xs ws' ds') (tables_of xs ws'' ds'') (a.made xs) (b.made xs) }

pub appends_nil : (g : Geometry) (budget : ℕ) (xs ws : List ℕ) → MadeAppends g budget budget [] xs ws xs ws
appends_nil g budget xs ws = record { made = λ ds. made_nil g budget (tables_of xs ws ds) }

pub appends_append : (g : Geometry) (budget mid rest : ℕ) (p q : List Store) (xs ws xs' ws' xs'' ws'' : List ℕ) → MadeAppends g budget mid p xs ws xs' ws' → MadeAppends g mid rest q xs' ws' xs'' ws''
    → MadeAppends g budget rest (p ++ q) xs ws xs'' ws''
appends_append g budget mid rest p q xs ws xs' ws' xs'' ws'' a b =
    record { made = λ ds. made_append g budget mid rest p q (tables_of xs ws ds) (tables_of xs' ws' ds) (tables_of xs'' ws'' ds) (a.made ds) (b.made ds) }
