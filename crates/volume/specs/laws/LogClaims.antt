-- What a zone's claims say of its strength: no zone is a log of both kinds, since its first sector decides; so a zone in its first place is a log of its own
-- kind unless it claims the other one, and any other zone is one only if it claims the kind. And of the counting logs: two different zones.
use Rattle.std.specs.Prelude.{◌≡◌, ◌≢◌, Bool, ◌&&◌, not, List, [], ◌∷◌, map, get_or, ltb, eqb}
use Rattle.std.proofs.Math.Path.{refl}
use Rattle.std.proofs.Common.{sym, true≢false, arith, eqb-true, ne_eqb, lt-ltb}
use Rattle.std.proofs.Math.Bool.{true, false}
use Prim.Native.Nat.{ℕ, zero, suc}
use Rattle.std.proofs.lemmas.Bool.{eqb-false}
use Rattle.tables.specs.declared.Geometry.{Geometry}
use Rattle.tables.specs.meaning.Basics.{pick}
use Rattle.tables.specs.laws.Basics.{and_split, eqb_same}
use Rattle.tables.specs.meaning.LittleEndian.{same_bytes}
use Rattle.logs.specs.meaning.Entry.{Header, label, counters, zone_reset, partial_parity, seal, closing, Entry, legal, bad, fault_of, encode, read_fields, fits_log, decode, kind_of_log}
use Rattle.logs.specs.meaning.Heads.{first_closing}
use Rattle.logs.specs.meaning.Walk.{walk_log}
use Rattle.logs.specs.code.Steps.{Placed}
use Rattle.logs.specs.laws.Places.{walk_places}
use Rattle.volume.specs.meaning.Roles.{zone_claim, strength_by, strength, strongest, other_than, roles_in, zone_of_kind, claim_of_kind}
use Rattle.volume.specs.laws.LogPlaces.{other_apart}

pub suc_positive : (n : ℕ) → ltb 0 (suc n) ≡ true
suc_positive n = lt-ltb 0 (suc n) (omega arith)

pub suc_not_zero : (n : ℕ) → eqb (suc n) 0 ≡ false
suc_not_zero n = ne_eqb (suc n) 0 (λ e. omega (arith, e))

-- ---- a sector is an entry of one kind of log
pub fits_one_kind {ℓ} : {A : Type ℓ} (g : Geometry) (d : ℕ) (h : Header) → fits_log g d false h ≡ true → fits_log g d true h ≡ true → A
fits_one_kind g d (label x a) e f = absurd (true≢false (sym f))
fits_one_kind g d (counters cs) e f = absurd (true≢false (sym f))
fits_one_kind g d (zone_reset z n) e f = absurd (true≢false (sym f))
fits_one_kind g d (partial_parity z s i n) e f = absurd (true≢false (sym e))
fits_one_kind g d (seal z p n) e f = absurd (true≢false (sym f))
fits_one_kind g d (closing kind gen) e f =
    absurd (omega (arith, eqb-true kind 0 (and_split (eqb kind 0) (ltb 0 gen) e).0, eqb-true kind 1 (and_split (eqb kind 1) (ltb 0 gen) f).0))

pub read_fits : (g : Geometry) (d : ℕ) (par : Bool) (s : List ℕ) (h : Header) → decode g d par s ≡ legal h → fits_log g d par (read_fields g s) ≡ true
read_fits g d par s h e = go (same_bytes (encode g d (read_fields g s)) s) (fits_log g d par (read_fields g s)) e
  where
    go : (a b : Bool) → pick (a && b) (legal (read_fields g s)) (bad (fault_of s)) ≡ legal h → b ≡ true
    go true true q = refl
    go true false q = absurd (let z : ◌≡◌ {A = ℕ} 0 1 = cc in omega arith)
    go false b q = absurd (let z : ◌≡◌ {A = ℕ} 0 1 = cc in omega arith)

module _ (g : Geometry) (d : ℕ) (ss : List (List ℕ)) where
  entries_one_kind : (es fs : List Entry) → Placed g d false ss zero es → Placed g d true ss zero fs → first_closing (map (λ (e : Entry). e.head) es) ≢ 0 → first_closing (map (λ (e : Entry). e.head) fs) ≡ 0
  entries_one_kind [] fs p q n = absurd (n refl)
  entries_one_kind (e ∷ es) [] p q n = refl
  entries_one_kind (e ∷ es) (f ∷ fs) p q n =
      fits_one_kind g d (read_fields g (get_or ss zero [])) (read_fits g d false (get_or ss zero []) e.head p.0.reads) (read_fits g d true (get_or ss zero []) f.head q.0.reads)

  pub claims_one_kind : zone_claim g d false ss ≢ 0 → zone_claim g d true ss ≡ 0
  unfolding zone_claim
  claims_one_kind n = entries_one_kind (walk_log g d false ss).entries (walk_log g d true ss).entries (walk_places g d false ss).placed (walk_places g d true ss).placed n

  pub claims_other : (par : Bool) → zone_claim g d (not par) ss ≢ 0 → zone_claim g d par ss ≡ 0
  claims_other true n = claims_one_kind n
  claims_other false n = go (zone_claim g d false ss) refl
    where
      go : (x : ℕ) → zone_claim g d false ss ≡ x → x ≡ 0
      go zero e = refl
      go (suc x) e = absurd (n (claims_one_kind (λ q. omega (arith, e, q))))

  -- ---- strengths
  -- of a zone in its first place: a log of its kind, unless it claims the other
  pub home_strength : (par : Bool) → strength g d par (kind_of_log par) ss ≡ pick (eqb (zone_claim g d (not par) ss) 0) (suc (zone_claim g d par ss)) 0
  unfolding strength
  home_strength par = go (zone_claim g d par ss) (zone_claim g d (not par) ss) (claims_other par)
    where
      go : (mine other : ℕ) → (other ≢ 0 → mine ≡ 0) → strength_by mine other par (kind_of_log par) ≡ pick (eqb other 0) (suc mine) 0
      go zero zero h = rw (eqb_same (kind_of_log par)) refl
      go zero (suc y) h = rw (suc_positive y, suc_not_zero y) refl
      go (suc x) zero h = rw (suc_positive x) refl
      go (suc x) (suc y) h = absurd (omega (arith, h (λ e. omega (arith, e))))

  -- of any other zone: only by its claim
  pub moved_strength : (par : Bool) (y : ℕ) → y ≢ kind_of_log par → strength g d par y ss ≡ pick (eqb (zone_claim g d par ss) 0) 0 (suc (zone_claim g d par ss))
  unfolding strength
  moved_strength par y n = go (zone_claim g d par ss) (zone_claim g d (not par) ss)
    where
      go : (mine other : ℕ) → strength_by mine other par y ≡ pick (eqb mine 0) 0 (suc mine)
      go zero zero = rw (ne_eqb y (kind_of_log par) n) refl
      go zero (suc o) = rw (suc_positive o) refl
      go (suc x) o = rw (suc_positive x, suc_not_zero x) refl

  -- of a log: one above its generation
  pub strength_claim : (par : Bool) (y : ℕ) → strength g d par y ss ≢ 0 → strength g d par y ss ≡ suc (zone_claim g d par ss)
  unfolding strength
  strength_claim par y n = go (zone_claim g d par ss) (zone_claim g d (not par) ss) (eqb y (kind_of_log par)) n
    where
      go : (mine other : ℕ) (b : Bool) → pick (ltb 0 mine) (suc mine) (pick (ltb 0 other) 0 (pick b 1 0)) ≢ 0 → pick (ltb 0 mine) (suc mine) (pick (ltb 0 other) 0 (pick b 1 0)) ≡ suc mine
      go (suc x) o b k = rw (suc_positive x) refl
      go zero zero true k = refl
      go zero zero false k = absurd (k refl)
      go zero (suc o) b k = absurd (k (rw (suc_positive o) refl))

  -- no zone is a log of both kinds
  pub strengths_one_kind : (y : ℕ) → strength g d false y ss ≢ 0 → strength g d true y ss ≡ 0
  unfolding strength
  strengths_one_kind y n = go (zone_claim g d false ss) (zone_claim g d true ss) claims_one_kind y n
    where
      go : (a b : ℕ) → (a ≢ 0 → b ≡ 0) → (y : ℕ) → strength_by a b false y ≢ 0 → strength_by b a true y ≡ 0
      go zero zero h zero k = refl
      go zero zero h (suc y) k = absurd (k (rw (suc_not_zero y) refl))
      go zero (suc b) h y k = absurd (k (rw (suc_positive b) refl))
      go (suc a) zero h y k = rw (suc_positive a) refl
      go (suc a) (suc b) h y k = absurd (omega (arith, h (λ e. omega (arith, e))))

-- ---- the counting logs of drive d, with zones zs
module _ (g : Geometry) (d : ℕ) (zs : ℕ → List (List ℕ)) where
  abbrev pub strengths : Bool → ℕ → ℕ
  strengths par y = strength g d par y (zs y)

  general_zone_lem : strengths false (strongest (strengths false)) ≢ 0 → (roles_in g d zs).general ≡ strongest (strengths false)
  unfolding roles_in
  general_zone_lem n = rw (ne_eqb (strengths false (strongest (strengths false))) 0 n) refl

  pub parity_zone_lem : strengths true (strongest (strengths true)) ≢ 0 → (roles_in g d zs).parity ≡ strongest (strengths true)
  unfolding roles_in
  parity_zone_lem n = go (eqb (strengths false (strongest (strengths false))) 0) refl
    where
      p : ℕ
      p = strongest (strengths true)

      s : ℕ
      s = strongest (strengths false)

      go : (b : Bool) → eqb (strengths false s) 0 ≡ b → pick (eqb p (pick b (other_than p) s)) (other_than (pick b (other_than p) s)) p ≡ p
      go true e = rw (ne_eqb p (other_than p) (λ q. other_apart p (sym q))) refl
      go false e =
          let k : p ≢ s = λ q. n (rw q (strengths_one_kind g d (zs s) s (eqb-false (strengths false s) 0 e))) in
          rw (ne_eqb p s k) refl

  -- THE GENERATION of a counting log is that of its first closing entry
  pub log_claim : (par : Bool) → claim_of_kind par (roles_in g d zs) ≢ 0 → claim_of_kind par (roles_in g d zs) ≡ suc (zone_claim g d par (zs (zone_of_kind par (roles_in g d zs))))
  unfolding roles_in
  log_claim false n = rw (general_zone_lem n) (strength_claim g d (zs (strongest (strengths false))) false (strongest (strengths false)) n)
  log_claim true n = rw (parity_zone_lem n) (strength_claim g d (zs (strongest (strengths true))) true (strongest (strengths true)) n)

  -- and its strength is what counts
  pub log_strength : (par : Bool) → claim_of_kind par (roles_in g d zs) ≢ 0 → strengths par (zone_of_kind par (roles_in g d zs)) ≡ claim_of_kind par (roles_in g d zs)
  unfolding roles_in
  log_strength false n = rw (general_zone_lem n) refl
  log_strength true n = rw (parity_zone_lem n) refl
