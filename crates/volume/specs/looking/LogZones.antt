-- Which zones are a drive's logs, as the code finds them (src/roles.rt): by what zones claim that are not in their first places; and by the claim of a zone
-- in its first place only where another makes it too. That these are the roles.
use Rattle.std.specs.Prelude.{◌≡◌, refl, Bool, true, false, ◌&&◌, ◌||◌, not, ℕ, zero, suc, ◌<◌, List, leb, eqb, Option, Some, None}
use Rattle.std.proofs.Common.{sym, ◌∙◌, arith, le-leb, leb-true, leb-false}
use Rattle.std.proofs.Math.Path.{ap, ap₂}
use Rattle.std.proofs.lemmas.Bool.{lt-leb}
use Rattle.tables.specs.declared.Geometry.{Geometry}
use Rattle.tables.specs.meaning.Basics.{pick}
use Rattle.tables.specs.meaning.Device.{Device}
use Rattle.logs.specs.declared.Log.{Log}
use Rattle.logs.specs.meaning.Entry.{general_zone, parity_zone}
use Rattle.logs.specs.meaning.Heads.{first_closing}
use Rattle.logs.specs.code.Query.{heads_of, log_heads}
use Rattle.logs.specs.meaning.Walk.{walk_log}
use Rattle.volume.specs.declared.roles.Moved.{Moved}
use Rattle.volume.specs.declared.roles.Counting.{Counting}
use Rattle.volume.specs.declared.roles.LogZones.{LogZones}
use Rattle.volume.specs.meaning.Roles.{zone_claim, strongest, Roles, other_than, roles_in, roles, zone_of_kind}
use Rattle.volume.specs.laws.LogClaims.{strengths, home_strength, moved_strength, suc_not_zero}
use Rattle.volume.specs.laws.LogPlaces.{roles_proper}
use Rattle.volume.specs.looking.DriveLogs.{zone_pointer, log_in, zone_sectors_lem}
use Rattle.volume.specs.looking.Knowing.{read_device}

-- the sectors of a drive's zones
abbrev pub zones_read : Geometry → List ℕ → List ℕ → ℕ → ℕ → List (List ℕ)
zones_read g xs ws d y = (read_device g xs ws d y).sectors

-- ---- claims, as the code holds them: the generation, if a zone is a log of the kind
abbrev pub rank : Option ℕ → ℕ
rank None = 0
rank (Some n) = suc n

abbrev pub moved_claim : ℕ → Option ℕ
moved_claim n = pick (eqb n 0) None (Some n)

-- (other: what it claims as the other log; n: what it claims)
abbrev pub home_claim : ℕ → Bool → ℕ → Option ℕ
home_claim other asked n = pick (eqb other 0) (Some (pick asked n 0)) None

abbrev pub moved_of : Geometry → ℕ → (ℕ → List (List ℕ)) → Moved
moved_of g d zs = record {
  parity_in_first = zone_claim g d true (zs 0);
  general_in_second = zone_claim g d false (zs 1);
  general_in_third = zone_claim g d false (zs 2);
  parity_in_third = zone_claim g d true (zs 2);
}

-- ---- the strongest of three
abbrev pub three : ℕ → ℕ → ℕ → ℕ → ℕ
three x y z zero = x
three x y z (suc zero) = y
three x y z (suc (suc n)) = z

abbrev pub counting_of : (ℕ → ℕ) → Counting
counting_of a = record { zone = strongest a; lacks = eqb (a (strongest a)) 0 }

leb_suc : (a b : ℕ) → leb (suc a) (suc b) ≡ leb a b
leb_suc a b = go (leb a b) refl
  where
    go : (c : Bool) → leb a b ≡ c → leb (suc a) (suc b) ≡ c
    go true e = le-leb (suc a) (suc b) (omega (arith, leb-true a b e))
    go false e = lt-leb (suc a) (suc b) (omega (arith, leb-false a b e))

-- which is the strongest
module _ (x y z : ℕ) where
  by_tests : Bool → Bool → Counting
  by_tests b c = record { zone = pick b 0 (pick c 1 2); lacks = eqb (three x y z (pick b 0 (pick c 1 2))) 0 }

  pub counts_first : leb y x && leb z x ≡ true → record { zone = 0; lacks = eqb x 0 } ≡ counting_of (three x y z)
  unfolding by_tests
  counts_first e = ap (λ (b : Bool). by_tests b (leb z y)) (sym e)

  pub counts_second : leb y x && leb z x ≡ false → leb z y ≡ true → record { zone = 1; lacks = eqb y 0 } ≡ counting_of (three x y z)
  unfolding by_tests
  counts_second e f = ap₂ (λ (b c : Bool). by_tests b c) (sym e) (sym f)

  pub counts_third : leb y x && leb z x ≡ false → leb z y ≡ false → record { zone = 2; lacks = eqb z 0 } ≡ counting_of (three x y z)
  unfolding by_tests
  counts_third e f = ap₂ (λ (b c : Bool). by_tests b c) (sym e) (sym f)

counts_three : (a : ℕ → ℕ) → counting_of (three (a 0) (a 1) (a 2)) ≡ counting_of a
counts_three a = go (leb (a 1) (a 0) && leb (a 2) (a 0)) (leb (a 2) (a 1))
  where
    go : (b c : Bool) → ◌≡◌ {A = Counting} (record { zone = pick b 0 (pick c 1 2); lacks = eqb (three (a 0) (a 1) (a 2) (pick b 0 (pick c 1 2))) 0 }) (record { zone = pick b 0 (pick c 1 2); lacks = eqb (a (pick b 0 (pick c 1 2))) 0 })
    go true c = refl
    go false true = refl
    go false false = refl

-- ---- the claims decide: where no other zone claims the kind, whatever the generation of the first place is
-- (o: what the zone claims as the other log, n: as its own; x, y: what the other zones claim. F: what follows from the ranks, the zone's first)
decided : (F : ℕ → ℕ → ℕ → Counting) (n x y : ℕ) → F (suc 0) 0 0 ≡ F (suc n) 0 0 → (a b c : Bool)
    → F (rank (pick a (Some (pick (not b || not c) n 0)) None)) (rank (pick b None (Some x))) (rank (pick c None (Some y))) ≡ F (pick a (suc n) 0) (pick b 0 (suc x)) (pick c 0 (suc y))
decided F n x y alone true true true = alone
decided F n x y alone true true false = refl
decided F n x y alone true false true = refl
decided F n x y alone true false false = refl
decided F n x y alone false true true = refl
decided F n x y alone false true false = refl
decided F n x y alone false false true = refl
decided F n x y alone false false false = refl

general_decided : (o n x y : ℕ) → counting_of (three (rank (home_claim o (not (eqb x 0) || not (eqb y 0)) n)) (rank (moved_claim x)) (rank (moved_claim y)))
    ≡ counting_of (three (pick (eqb o 0) (suc n) 0) (pick (eqb x 0) 0 (suc x)) (pick (eqb y 0) 0 (suc y)))
general_decided o n x y = decided (λ p q r. counting_of (three p q r)) n x y alone (eqb o 0) (eqb x 0) (eqb y 0)
  where
    alone : counting_of (three (suc 0) 0 0) ≡ counting_of (three (suc n) 0 0)
    alone =
        let e : leb 0 (suc n) ≡ true = le-leb 0 (suc n) (omega arith) in
        ap (λ (b : Bool). record { zone = 0; lacks = b }) (sym (suc_not_zero n)) ∙ counts_first (suc n) 0 0 (rw e refl)

parity_decided : (o n x y : ℕ) → counting_of (three (rank (moved_claim x)) (rank (home_claim o (not (eqb x 0) || not (eqb y 0)) n)) (rank (moved_claim y)))
    ≡ counting_of (three (pick (eqb x 0) 0 (suc x)) (pick (eqb o 0) (suc n) 0) (pick (eqb y 0) 0 (suc y)))
parity_decided o n x y = decided (λ p q r. counting_of (three q p r)) n x y alone (eqb o 0) (eqb x 0) (eqb y 0)
  where
    alone : counting_of (three 0 (suc 0) 0) ≡ counting_of (three 0 (suc n) 0)
    alone =
        let e : leb 0 (suc n) ≡ true = le-leb 0 (suc n) (omega arith) in
        let f : leb (suc n) 0 ≡ false = lt-leb (suc n) 0 (omega arith) in
        ap (λ (b : Bool). record { zone = 1; lacks = b }) (sym (suc_not_zero n)) ∙ counts_second 0 (suc n) 0 (rw f refl) e

-- ---- a claim, read in the tables
pub claim_read : (g : Geometry) (xs ws : List ℕ) (d : ℕ) (par : Bool) (z : ℕ) → d < g.drives → z < 3 → first_closing (log_heads g d par z (zone_pointer g ws d z) xs) ≡ zone_claim g d par (zones_read g xs ws d z)
unfolding zone_claim
claim_read g xs ws d par z hd hz = ap (λ (ss : List (List ℕ)). first_closing (heads_of (walk_log g d par ss))) (sym (zone_sectors_lem g xs ws d z hd (omega arith)))

-- ---- the counting log of a kind, by the claims of the moved zones and the claim n of the zone in its first place
abbrev general_by : Moved → ℕ → Counting
general_by m n = counting_of (three
    (rank (home_claim m.parity_in_first (not (eqb m.general_in_second 0) || not (eqb m.general_in_third 0)) n))
    (rank (moved_claim m.general_in_second)) (rank (moved_claim m.general_in_third)))

-- (x, o, y: what zones 0, 1 and 2 claim that are not in their first places)
abbrev parity_by : ℕ → ℕ → ℕ → ℕ → Counting
parity_by x o y n = counting_of (three (rank (moved_claim x)) (rank (home_claim o (not (eqb x 0) || not (eqb y 0)) n)) (rank (moved_claim y)))

parity_by_lem : (x o y x' o' y' n : ℕ) → x ≡ x' → o ≡ o' → y ≡ y' → parity_by x o y n ≡ parity_by x' o' y' n
parity_by_lem x o y x' o' y' n p q r = rw (p, q, r) refl

-- the claims that decide on the parity log
pub record ParityClaims (g : Geometry) (d : ℕ) (zs : ℕ → List (List ℕ)) (m : Moved) : Type 0 where
  pub in_first_lem : m.parity_in_first ≡ zone_claim g d true (zs 0)
  pub in_second : m.general_in_second ≡ zone_claim g d false (zs 1)
  pub in_third : m.parity_in_third ≡ zone_claim g d true (zs 2)

pub parity_claims : (g : Geometry) (d : ℕ) (zs : ℕ → List (List ℕ)) (m : Moved) → m ≡ moved_of g d zs → ParityClaims g d zs m
parity_claims g d zs m e = record { in_first_lem = ap (λ (k : Moved). k.parity_in_first) e; in_second = ap (λ (k : Moved). k.general_in_second) e; in_third = ap (λ (k : Moved). k.parity_in_third) e }

module _ (g : Geometry) (d : ℕ) (zs : ℕ → List (List ℕ)) where
  general_counts : general_by (moved_of g d zs) (zone_claim g d false (zs 0)) ≡ counting_of (strengths g d zs false)
  general_counts =
      general_decided (zone_claim g d true (zs 0)) (zone_claim g d false (zs 0)) (zone_claim g d false (zs 1)) (zone_claim g d false (zs 2))
      ∙ rw (← home_strength g d (zs 0) false, ← moved_strength g d (zs 1) false 1 (λ e. omega (arith, e)), ← moved_strength g d (zs 2) false 2 (λ e. omega (arith, e))) (counts_three (strengths g d zs false))

  parity_counts : parity_by (zone_claim g d true (zs 0)) (zone_claim g d false (zs 1)) (zone_claim g d true (zs 2)) (zone_claim g d true (zs 1)) ≡ counting_of (strengths g d zs true)
  parity_counts =
      parity_decided (zone_claim g d false (zs 1)) (zone_claim g d true (zs 1)) (zone_claim g d true (zs 0)) (zone_claim g d true (zs 2))
      ∙ rw (← home_strength g d (zs 1) true, ← moved_strength g d (zs 0) true 0 (λ e. omega (arith, e)), ← moved_strength g d (zs 2) true 2 (λ e. omega (arith, e))) (counts_three (strengths g d zs true))

-- as the code finds it (m: what the moved zones claim; l: the log in its first place; h, x, y: the claims of the three zones)
module _ (g : Geometry) (xs ws : List ℕ) (d : ℕ) (hd : d < g.drives) (m : Moved) (l : Log) (h x y : Option ℕ) where
  home_read : (par : Bool) (z : ℕ) → z < 3 → l ≡ log_in g ws d z → first_closing (log_heads g l.drive par l.zone l.written xs) ≡ zone_claim g d par (zones_read g xs ws d z)
  home_read par z hz el = ap (λ (k : Log). first_closing (log_heads g k.drive par k.zone k.written xs)) el ∙ claim_read g xs ws d par z hd hz

  ranks : (a b c : Option ℕ) → a ≡ h → b ≡ x → c ≡ y → counting_of (three (rank h) (rank x) (rank y)) ≡ counting_of (three (rank a) (rank b) (rank c))
  ranks a b c p q r = rw (p, q, r) refl

  pub general_found : m ≡ moved_of g d (zones_read g xs ws d) → l ≡ log_in g ws d general_zone
      → h ≡ home_claim m.parity_in_first (not (eqb m.general_in_second 0) || not (eqb m.general_in_third 0)) (first_closing (log_heads g l.drive false l.zone l.written xs))
      → x ≡ moved_claim m.general_in_second → y ≡ moved_claim m.general_in_third
      → counting_of (three (rank h) (rank x) (rank y)) ≡ counting_of (strengths g d (zones_read g xs ws d) false)
  general_found em el eh ex ey =
      ranks _ _ _ (sym eh) (sym ex) (sym ey) ∙ ap (general_by m) (home_read false general_zone (omega arith) el)
      ∙ ap (λ (k : Moved). general_by k (zone_claim g d false (zones_read g xs ws d general_zone))) em ∙ general_counts g d (zones_read g xs ws d)

  pub parity_found : ParityClaims g d (zones_read g xs ws d) m → l ≡ log_in g ws d parity_zone → h ≡ moved_claim m.parity_in_first
      → x ≡ home_claim m.general_in_second (not (eqb m.parity_in_first 0) || not (eqb m.parity_in_third 0)) (first_closing (log_heads g l.drive true l.zone l.written xs))
      → y ≡ moved_claim m.parity_in_third
      → counting_of (three (rank h) (rank x) (rank y)) ≡ counting_of (strengths g d (zones_read g xs ws d) true)
  parity_found em el eh ex ey =
      let zs = zones_read g xs ws d in
      ranks _ _ _ (sym eh) (sym ex) (sym ey) ∙ ap (parity_by m.parity_in_first m.general_in_second m.parity_in_third) (home_read true parity_zone (omega arith) el)
      ∙ parity_by_lem m.parity_in_first m.general_in_second m.parity_in_third (zone_claim g d true (zs 0)) (zone_claim g d false (zs 1)) (zone_claim g d true (zs 2)) (zone_claim g d true (zs 1)) em.in_first_lem em.in_second em.in_third
      ∙ parity_counts g d zs

-- ---- the zones of the two logs
abbrev pub zones_by : Counting → Counting → LogZones
zones_by a b =
    let s = pick a.lacks (other_than b.zone) a.zone in
    record { general = s; parity = pick (eqb b.zone s) (other_than s) b.zone; lacks_general = a.lacks; lacks_parity = b.lacks }

abbrev pub zones_of : Roles → LogZones
zones_of r = record { general = r.general; parity = r.parity; lacks_general = eqb r.general_claim 0; lacks_parity = eqb r.parity_claim 0 }

pub zones_are : (g : Geometry) (d : ℕ) (zs : ℕ → List (List ℕ)) → zones_by (counting_of (strengths g d zs false)) (counting_of (strengths g d zs true)) ≡ zones_of (roles_in g d zs)
unfolding roles_in
zones_are g d zs = refl

pub kind_zone_lt : (g : Geometry) (v : Device) (d : ℕ) (par : Bool) → zone_of_kind par (roles g v d) < 3
kind_zone_lt g v d true = (roles_proper g v d).parity_lt
kind_zone_lt g v d false = (roles_proper g v d).general_lt
