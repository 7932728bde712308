-- The array number of a legal label has room in 8 bytes, whatever the log.
use Rattle.std.specs.Prelude.{◌≡◌, refl, Bool, true, false, ◌&&◌, ℕ, ◌-◌, ◌^◌, ◌<◌, List, [], ◌∷◌, ◌++◌, map, take, replicate}
use Rattle.std.proofs.Common.{ap, subst, arith, length-take}
use Rattle.tables.specs.declared.Geometry.{Geometry}
use Rattle.tables.specs.meaning.Basics.{pick}
use Rattle.tables.specs.meaning.LittleEndian.{same_bytes, number_le, bytes_le}
use Rattle.logs.specs.meaning.Entry.{Header, Entry, label, counters, zone_reset, partial_parity, seal, closing, legal, bad, fault_of, encode, frame, label_bytes, read_fields, kind_of, decode, fits_log}
use Rattle.logs.specs.meaning.Walk.{walk_log}
use Rattle.logs.specs.meaning.Heads.{array_in}
use Rattle.logs.specs.laws.Legal.{legal_reads_back}
use Rattle.logs.specs.laws.Places.{entry_place_lem}
use Rattle.logs.specs.code.Query.{heads_of}
use Rattle.volume.specs.laws.ByteLists.{bytes_append, bytes_take, bytes_zeros, number_in_bytes, number_small}

fields_are : (g : Geometry) (d : ℕ) (par : Bool) (s : List ℕ) (h : Header) → decode g d par s ≡ legal h → read_fields g s ≡ h
fields_are g d par s h e = go (same_bytes (encode g d (read_fields g s)) s && fits_log g d par (read_fields g s)) e
  where
    go : (b : Bool) → pick b (legal (read_fields g s)) (bad (fault_of s)) ≡ legal h → read_fields g s ≡ h
    go true q = cc
    go false q = absurd (let z : ◌≡◌ {A = ℕ} 0 1 = cc in omega arith)

abbrev array_bytes : Geometry → ℕ → List ℕ
array_bytes g a = take 8 (bytes_le 8 a ++ replicate (g.sector - 56) 0)

array_bytes_lem : (g : Geometry) (a : ℕ) → number_le (array_bytes g a) < 256 ^ 8
array_bytes_lem g a = number_small 8 (array_bytes g a) (rw length-take (omega arith)) (bytes_take 8 (bytes_le 8 a ++ replicate (g.sector - 56) 0) (bytes_append (bytes_le 8 a) (replicate (g.sector - 56) 0) (number_in_bytes 8 a) (bytes_zeros (g.sector - 56))))

array_read : (g : Geometry) (d x a : ℕ) → read_fields g (encode g d (label x a)) ≡ label x a → number_le (array_bytes g a) ≡ a
unfolding read_fields kind_of encode frame label_bytes
array_read g d x a e = ap (λ (h : Header). array_in (h ∷ [])) e

array_legal : (g : Geometry) (d : ℕ) (s : List ℕ) (h : Header) (hs : List Header) → decode g d false s ≡ legal h → array_in (h ∷ hs) < 256 ^ 8
array_legal g d s (label x a) hs r = subst (λ (n : ℕ). n < 256 ^ 8) (array_read g d x a (fields_are g d false (encode g d (label x a)) (label x a) (legal_reads_back g d false s (label x a) r))) (array_bytes_lem g a)
array_legal g d s (counters cs) hs r = omega arith
array_legal g d s (zone_reset z n) hs r = omega arith
array_legal g d s (partial_parity z i f n) hs r = omega arith
array_legal g d s (seal z p n) hs r = omega arith
array_legal g d s (closing kind gen) hs r = omega arith

pub array_small : (g : Geometry) (d : ℕ) (ss : List (List ℕ)) → array_in (heads_of (walk_log g d false ss)) < 256 ^ 8
array_small g d ss = go (walk_log g d false ss).entries refl
  where
    go : (es : List Entry) → (walk_log g d false ss).entries ≡ es → array_in (map (λ (e : Entry). e.head) es) < 256 ^ 8
    go [] q = omega arith
    go (e ∷ es) q = array_legal g d _ e.head (map (λ (e : Entry). e.head) es) (entry_place_lem g d false ss [] e es q).reads
