-- What is copied of a general log that is emptied: "last label, counters with the zones' generations as now in force, each zone's least current seal,
-- then one current reset of each".
use Rattle.std.specs.Prelude.{Bool, ℕ, List, [], ◌∷◌, ◌++◌}
use Rattle.tables.specs.meaning.Basics.{pick}
use Rattle.tables.specs.meaning.Below.{each_below}
use Rattle.tables.specs.meaning.Lists.{any_of}
use Rattle.tables.specs.declared.Geometry.{Geometry}
use Rattle.tables.specs.meaning.Geometry.{zone_sectors}
use Rattle.logs.specs.meaning.Entry.{Header, label, counters, zone_reset, partial_parity, seal, closing}
use Rattle.logs.specs.meaning.Heads.{labelled, array_in, is_reset, is_seal, least_seal}

-- the last label, with the array number f a in the place of its own a; acc if there is none
abbrev pub last_label : (ℕ → ℕ) → List Header → List Header → List Header
last_label f acc [] = acc
last_label f acc (label x a ∷ hs) = last_label f (label x (f a) ∷ []) hs
last_label f acc (counters cs ∷ hs) = last_label f acc hs
last_label f acc (zone_reset z n ∷ hs) = last_label f acc hs
last_label f acc (partial_parity z s i n ∷ hs) = last_label f acc hs
last_label f acc (seal z p n ∷ hs) = last_label f acc hs
last_label f acc (closing k n ∷ hs) = last_label f acc hs

-- the array number of a copied label: the one with which its log begins; its own (a) if the log begins with no label
abbrev pub array_for : List Header → ℕ → ℕ
array_for hs a = pick (labelled hs) (array_in hs) a

abbrev pub kept_label : List Header → List Header
kept_label hs = last_label (array_for hs) [] hs

-- for the zones ascending, those that pass
abbrev pub zonewise : (ℕ → Bool) → (ℕ → Header) → ℕ → List Header
zonewise b h n = each_below (λ z. pick (b z) (h z ∷ []) []) n

-- (gens: the generations in force)
abbrev pub kept_seals : Geometry → (ℕ → ℕ) → List Header → List Header
kept_seals g gens hs = zonewise (λ z. any_of (is_seal z (gens z)) hs) (λ z. seal z (least_seal z (gens z) (zone_sectors g) hs) (gens z)) g.zones

abbrev pub kept_resets : Geometry → (ℕ → ℕ) → List Header → List Header
kept_resets g gens hs = zonewise (λ z. any_of (is_reset z (gens z)) hs) (λ z. zone_reset z (gens z)) g.zones

-- (cs: these generations as a list)
unfoldable pub copied_general : Geometry → (ℕ → ℕ) → List ℕ → List Header → List Header
copied_general g gens cs hs = kept_label hs ++ (counters cs ∷ (kept_seals g gens hs ++ kept_resets g gens hs))
