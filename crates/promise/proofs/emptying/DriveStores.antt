-- Lists of stores and the drives that they are on: those of an emptying are all on present drives; a step that goes drive by drive says the same on
-- present drives where it reads the same there.
use Rattle.std.specs.Prelude.{◌≡◌, refl, Bool, true, false, ◌&&◌, not, ℕ, zero, suc, ◌<◌, List, [], ◌∷◌, ◌++◌, eqb}
use Rattle.std.proofs.Common.{sym, ap, ap₂, ◌∙◌, arith, eq-eqb, eqb-true}
use Rattle.tables.specs.meaning.Basics.{pick}
use Rattle.tables.specs.meaning.Below.{each_below}
use Rattle.tables.specs.meaning.Lists.{concat, is_nil, any_of}
use Rattle.tables.specs.laws.Lists.{concat_append}
use Rattle.tables.specs.meaning.Device.{Device, Store, store_drive}
use Rattle.tables.specs.meaning.Phases.{on_present, flush_all}
use Rattle.tables.specs.laws.Phases.{on_present_append}
use Rattle.tables.specs.laws.StoresFit.{AllOn, on_present_on, on_append}
use Rattle.tables.specs.declared.Geometry.{Geometry}
use Rattle.logs.specs.meaning.Entry.{parity_zone, Entry}
use Rattle.logs.specs.meaning.Heads.{ends_at}
use Rattle.logs.specs.meaning.Walk.{sectors_of}
use Rattle.volume.specs.meaning.Calls.{append_all}
use Rattle.volume.specs.meaning.Content.{inside_stripe, parity_drive_at, entry_at}
use Rattle.volume.specs.meaning.Rules.{Shown, parity_entries}
use Rattle.volume.specs.meaning.Roles.{Roles, zone_of_kind}
use Rattle.volume.specs.meaning.Emptying.{emptying_stores, emptyings}
use Rattle.volume.specs.meaning.Mount.{entry_step, with_flush, with_flushes}

-- ---- below n
pub each_below_cong : {A : Type 0} (f h : ℕ → List A) (n : ℕ) → ((k : ℕ) → k < n → f k ≡ h k) → each_below f n ≡ each_below h n
each_below_cong f h zero q = refl
each_below_cong f h (suc n) q = ap₂ (λ (a b : List _). a ++ b) (each_below_cong f h n (λ k l. q k (omega (arith, l)))) (q n (omega arith))

on_present_each : (p : ℕ → Bool) (f : ℕ → List Store) (n : ℕ) → on_present p (each_below f n) ≡ each_below (λ k. on_present p (f k)) n
on_present_each p f zero = refl
on_present_each p f (suc n) = on_present_append p (each_below f n) (f n) ∙ ap (λ (t : List Store). t ++ on_present p (f n)) (on_present_each p f n)

-- ---- on the drives of a set
pub on_each : (p : ℕ → Bool) (f : ℕ → List Store) (n : ℕ) → ((k : ℕ) → k < n → AllOn p (f k)) → AllOn p (each_below f n)
on_each p f zero q = tt
on_each p f (suc n) q = on_append p (each_below f n) (f n) (on_each p f n (λ k l. q k (omega (arith, l)))) (q n (omega arith))

pub on_appends : (p : ℕ → Bool) (d y : ℕ) (ss : List (List ℕ)) → p d ≡ true → AllOn p (append_all d y ss)
on_appends p d y [] h = tt
on_appends p d y (s ∷ ss) h = (h, on_appends p d y ss h)

on_pick : (p : ℕ → Bool) (b : Bool) (xs : List Store) → (b ≡ true → AllOn p xs) → AllOn p (pick b xs [])
on_pick p true xs h = h refl
on_pick p false xs h = tt

-- of one absent drive
on_present_none : (p : ℕ → Bool) (d : ℕ) → p d ≡ false → (xs : List Store) → AllOn (λ e. eqb e d) xs → on_present p xs ≡ []
on_present_none p d h [] o = refl
on_present_none p d h (s ∷ xs) o =
    let e : p (store_drive s) ≡ false = ap p (eqb-true (store_drive s) d o.0) ∙ h in
    rw (e, on_present_none p d h xs o.1) refl

-- ---- a step with its flush
pub on_step : (g : Geometry) (p : ℕ → Bool) (xs : List Store) → AllOn p (concat (with_flush g p xs))
on_step g p xs =
    let f = pick (is_nil (on_present p xs)) [] (on_present p (flush_all g.drives)) in
    on_append p (on_present p xs) (f ++ []) (on_present_on p xs) (on_append p f [] (go (is_nil (on_present p xs))) tt)
  where
    go : (b : Bool) → AllOn p (pick b [] (on_present p (flush_all g.drives)))
    go true = tt
    go false = on_present_on p (flush_all g.drives)

pub on_steps : (g : Geometry) (p : ℕ → Bool) (steps : List (List Store)) → AllOn p (concat (with_flushes g p steps))
on_steps g p [] = tt
on_steps g p (xs ∷ steps) = rw (concat_append (with_flush g p xs) (with_flushes g p steps)) (on_append p (concat (with_flush g p xs)) (concat (with_flushes g p steps)) (on_step g p xs) (on_steps g p steps))

pub with_flush_same : (g : Geometry) (p : ℕ → Bool) (xs ys : List Store) → on_present p xs ≡ on_present p ys → with_flush g p xs ≡ with_flush g p ys
with_flush_same g p xs ys e = ap (λ (t : List Store). t ∷ pick (is_nil t) [] (on_present p (flush_all g.drives)) ∷ []) e

-- ---- EMPTYINGS
pub emptying_on : (g : Geometry) (p : ℕ → Bool) (d old spare : ℕ) (ss : List (List ℕ)) → p d ≡ true → AllOn p (emptying_stores g p d old spare ss)
unfolding emptying_stores
emptying_on g p d old spare ss h =
    let F = on_present p (flush_all g.drives) in
    on_append p F _ (on_present_on p (flush_all g.drives)) (on_append p (append_all d spare ss) _ (on_appends p d spare ss h) (on_append p F _ (on_present_on p (flush_all g.drives)) (h, tt)))

pub emptyings_on : (g : Geometry) (p : ℕ → Bool) (par : Bool) (r : ℕ → Roles) (emptied : ℕ → Bool) (ss : ℕ → List (List ℕ)) → ((d : ℕ) → emptied d ≡ true → p d ≡ true) → AllOn p (emptyings g p par r emptied ss)
unfolding emptyings
emptyings_on g p par r emptied ss h = on_each p _ g.drives (λ d l. on_pick p (emptied d) (emptying_stores g p d (zone_of_kind par (r d)) (r d).spare (ss d)) (λ b. emptying_on g p d (zone_of_kind par (r d)) (r d).spare (ss d) (h d b)))

-- they go by the roles and the new logs of the emptied drives
pub emptyings_same : (g : Geometry) (p : ℕ → Bool) (par : Bool) (r q : ℕ → Roles) (emptied : ℕ → Bool) (ss ts : ℕ → List (List ℕ)) → ((d : ℕ) → d < g.drives → emptied d ≡ true → (r d ≡ q d) × (ss d ≡ ts d))
    → emptyings g p par r emptied ss ≡ emptyings g p par q emptied ts
unfolding emptyings
emptyings_same g p par r q emptied ss ts h = each_below_cong _ _ g.drives (λ d l. go d l (emptied d) refl)
  where
    go : (d : ℕ) → d < g.drives → (b : Bool) → emptied d ≡ b → pick b (emptying_stores g p d (zone_of_kind par (r d)) (r d).spare (ss d)) [] ≡ pick b (emptying_stores g p d (zone_of_kind par (q d)) (q d).spare (ts d)) []
    go d l true b = let (e, i) = h d l b in ap₂ (λ (t : Roles) (us : List (List ℕ)). emptying_stores g p d (zone_of_kind par t) t.spare us) e i
    go d l false b = refl

-- ---- ENTRIES: by the parity logs of the present drives
pub entries_present : (g : Geometry) (p : ℕ → Bool) (k : Shown) (a b : Device) → ((d : ℕ) → p d ≡ true → parity_entries g a d ≡ parity_entries g b d) → on_present p (entry_step g k a) ≡ on_present p (entry_step g k b)
unfolding entry_step
entries_present g p k a b h = on_present_each p (on a) g.drives ∙ each_below_cong _ _ g.drives (λ d l. which d (p d) refl) ∙ sym (on_present_each p (on b) g.drives)
  where
    test : Device → ℕ → ℕ → Bool
    test u d z = inside_stripe g (k.zone z).pointer && (eqb d (parity_drive_at g z (k.zone z).pointer) && not (any_of (λ (e : Entry). ends_at g z (k.zone z).generation (k.zone z).pointer e.head) (parity_entries g u d)))

    rows : ℕ → ℕ → List (List ℕ)
    rows d z = sectors_of g d true (entry_at g z (k.zone z).generation (k.zone z).value (k.zone z).pointer)

    on : Device → ℕ → List Store
    on u d = each_below (λ z. pick (test u d z) (append_all d parity_zone (rows d z)) []) g.zones

    own : (u : Device) (d : ℕ) → AllOn (λ e. eqb e d) (on u d)
    own u d = on_each (λ e. eqb e d) _ g.zones (λ z l. on_pick (λ e. eqb e d) (test u d z) (append_all d parity_zone (rows d z)) (λ _. on_appends (λ e. eqb e d) d parity_zone (rows d z) (eq-eqb d d refl)))

    which : (d : ℕ) (c : Bool) → p d ≡ c → on_present p (on a d) ≡ on_present p (on b d)
    which d true c = ap (on_present p) (each_below_cong _ _ g.zones (λ z l. ap (λ (es : List Entry). pick (inside_stripe g (k.zone z).pointer && (eqb d (parity_drive_at g z (k.zone z).pointer) && not (any_of (λ (e : Entry). ends_at g z (k.zone z).generation (k.zone z).pointer e.head) es))) (append_all d parity_zone (rows d z)) []) (h d c)))
    which d false c = on_present_none p d c (on a d) (own a d) ∙ sym (on_present_none p d c (on b d) (own b d))
