-- The copies do not depend on where the logs lie, nor on more of what is in force than the zones of the volume have: so the sectors that the code stores are
-- the new log's of the rules.
use Rattle.std.specs.Prelude.{◌≡◌, refl, Bool, true, false, ◌&&◌, ℕ, zero, suc, ◌+◌, ◌<◌, eqb}
use Rattle.std.proofs.Common.{sym, ◌∙◌, arith}
use Rattle.std.proofs.Math.Path.{ap, ap₂, fun_ext}
use mathlib.Core.List.{List, [], ◌∷◌, ◌++◌, map}
use Rattle.tables.specs.declared.Geometry.{Geometry}
use Rattle.tables.specs.meaning.Basics.{pick}
use Rattle.tables.specs.meaning.Below.{each_below}
use Rattle.tables.specs.meaning.Lists.{any_of, concat}
use Rattle.tables.specs.meaning.Geometry.{zone_sectors}
use Rattle.logs.specs.meaning.Entry.{Header, label, counters, zone_reset, partial_parity, seal, closing, Entry, encode, kind_of_log}
use Rattle.logs.specs.meaning.Heads.{ends_at, is_seal, is_reset, least_seal}
use Rattle.logs.specs.meaning.Walk.{sectors_of}
use Rattle.logs.specs.meaning.Copies.{copied_general, kept_label}
use Rattle.volume.specs.declared.emptying.Emptying.{Emptying}
use Rattle.volume.specs.meaning.Calls.{generations_from}
use Rattle.volume.specs.meaning.Content.{inside_stripe, parity_drive_at, entry_at}
use Rattle.volume.specs.meaning.Roles.{Roles, claim_of_kind}
use Rattle.volume.specs.meaning.Emptying.{InForce, general_copies, last_entry, is_copied, made_entry, parity_copies, new_general, new_parity}
use Rattle.volume.specs.laws.EachBelow.{each_below_cong}
use Rattle.volume.specs.laws.LogPlaces.{with_logs}
use Rattle.volume.specs.emptying.Shape.{SameShape, shape_is, shape_encode}
use Rattle.volume.specs.emptying.EmptyingStores.{with_closing}

-- ---- where the logs lie
relaid_general : (g : Geometry) (l : ℕ) (f : InForce) (hs : List Header) → general_copies (with_logs g l) f hs ≡ general_copies g f hs
unfolding general_copies copied_general zone_sectors
relaid_general g l f hs = refl

relaid_ends : (g : Geometry) (l z n q : ℕ) (h : Header) → ends_at (with_logs g l) z n q h ≡ ends_at g z n q h
relaid_ends g l z n q (label x a) = refl
relaid_ends g l z n q (counters cs) = refl
relaid_ends g l z n q (zone_reset y m) = refl
relaid_ends g l z n q (partial_parity y s f m) = refl
relaid_ends g l z n q (seal y p m) = refl
relaid_ends g l z n q (closing kind gen) = refl

relaid_parity : (g : Geometry) (l : ℕ) (f : InForce) (d : ℕ) (es : List Entry) → parity_copies (with_logs g l) f d es ≡ parity_copies g f d es
unfolding parity_copies entry_at
relaid_parity g l f d es =
    ap (λ (t : ℕ → Entry → Bool). each_below (λ z. pick (is_copied g f d z) (last_entry (t z) (made_entry g f z ∷ []) es) []) g.zones) (fun_ext λ z. fun_ext λ e. relaid_ends g l z (f.generation z) (f.pointer z) e.head)

module _ (g h : Geometry) (s : SameShape g h) where
  shape_general : (f : InForce) (hs : List Header) → general_copies h f hs ≡ general_copies g f hs
  shape_general f hs = ap (λ (k : Geometry). general_copies k f hs) (shape_is g h s) ∙ relaid_general g h.logs f hs

  shape_parity : (f : InForce) (d : ℕ) (es : List Entry) → parity_copies h f d es ≡ parity_copies g f d es
  shape_parity f d es = ap (λ (k : Geometry). parity_copies k f d es) (shape_is g h s) ∙ relaid_parity g h.logs f d es

  shape_headers : (d : ℕ) (hs : List Header) → map (encode h d) hs ≡ map (encode g d) hs
  shape_headers d [] = refl
  shape_headers d (x ∷ hs) = ap₂ (λ (a : List ℕ) (b : List (List ℕ)). a ∷ b) (shape_encode g h s d x) (shape_headers d hs)

  shape_entries : (d : ℕ) (es : List Entry) → concat (map (sectors_of h d true) es) ≡ concat (map (sectors_of g d true) es)
  shape_entries d [] = refl
  shape_entries d (e ∷ es) = ap₂ (λ (a : List ℕ) (b : List (List ℕ)). a ∷ (e.rows ++ b)) (shape_encode g h s d e.head) (shape_entries d es)

-- THE NEW LOG that the code stores, by any geometry of the shape
module _ (g : Geometry) (e : Emptying) (s : SameShape g e.from) (r : Roles) where
  pub general_new : (f : InForce) (hs : List Header) → claim_of_kind false r ≡ e.generation → with_closing e false (map (encode e.from e.drive) (general_copies e.from f hs)) ≡ new_general g f r e.drive hs
  unfolding new_general
  general_new f hs q =
      ap₂ (λ (a : List (List ℕ)) (c : List ℕ). a ++ (c ∷ [])) (shape_headers g e.from s e.drive (general_copies e.from f hs) ∙ ap (map (encode g e.drive)) (shape_general g e.from s f hs))
      (shape_encode g e.from s e.drive (closing (kind_of_log false) e.generation) ∙ ap (λ (n : ℕ). encode g e.drive (closing (kind_of_log false) n)) (sym q))

  pub parity_new : (f : InForce) (es : List Entry) → claim_of_kind true r ≡ e.generation → with_closing e true (concat (map (sectors_of e.from e.drive true) (parity_copies e.from f e.drive es))) ≡ new_parity g f r e.drive es
  unfolding new_parity
  parity_new f es q =
      ap₂ (λ (a : List (List ℕ)) (c : List ℕ). a ++ (c ∷ [])) (shape_entries g e.from s e.drive (parity_copies e.from f e.drive es) ∙ ap (λ (l : List Entry). concat (map (sectors_of g e.drive true) l)) (shape_parity g e.from s f e.drive es))
      (shape_encode g e.from s e.drive (closing (kind_of_log true) e.generation) ∙ ap (λ (n : ℕ). encode g e.drive (closing (kind_of_log true) n)) (sym q))

-- ---- what is in force of the volume's zones
from_cong : (f h : ℕ → ℕ) (i n : ℕ) → ((k : ℕ) → k < i + n → f k ≡ h k) → generations_from f i n ≡ generations_from h i n
from_cong f h i zero e = refl
from_cong f h i (suc n) e = ap₂ (λ (x : ℕ) (l : List ℕ). x ∷ l) (e i (omega arith)) (from_cong f h (suc i) n (λ k l. e k (omega arith)))

-- the general copies go by the generations alone
pub general_by_lem : (g : Geometry) (f k : InForce) (hs : List Header) → ((z : ℕ) → z < g.zones → f.generation z ≡ k.generation z) → general_copies g f hs ≡ general_copies g k hs
unfolding general_copies copied_general
general_by_lem g f k hs e =
    let seals = each_below_cong _ _ g.zones (λ z h. ap (λ (n : ℕ). pick (any_of (is_seal z n) hs) (seal z (least_seal z n (zone_sectors g) hs) n ∷ []) []) (e z h)) in
    let resets = each_below_cong _ _ g.zones (λ z h. ap (λ (n : ℕ). pick (any_of (is_reset z n) hs) (zone_reset z n ∷ []) []) (e z h)) in
    ap₂ (λ (cs : List ℕ) (l : List Header). kept_label hs ++ (counters cs ∷ l)) (from_cong f.generation k.generation 0 g.zones (λ z h. e z (omega arith))) (ap₂ (λ (a b : List Header). a ++ b) seals resets)

-- a parity log's copies by the generations, the pointers, and the values of the zones
pub parity_by_lem : (g : Geometry) (f k : InForce) (d : ℕ) (es : List Entry) → ((z : ℕ) → z < g.zones → (f.generation z ≡ k.generation z) × (f.pointer z ≡ k.pointer z) × (f.value z ≡ k.value z)) → parity_copies g f d es ≡ parity_copies g k d es
unfolding parity_copies
parity_by_lem g f k d es e = each_below_cong _ _ g.zones (λ z h. let (a, b, c) = e z h in ap₂ (λ (n q : ℕ). one z n q (f.value z)) a b ∙ ap (one z (k.generation z) (k.pointer z)) c)
  where
    one : ℕ → ℕ → ℕ → (ℕ → List ℕ) → List Entry
    one z n q S = pick (inside_stripe g q && eqb d (parity_drive_at g z q)) (last_entry (λ (x : Entry). ends_at g z n q x.head) (entry_at g z n S q ∷ []) es) []
