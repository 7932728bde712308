-- The walk of a log does not read where a geometry places the logs. (The rules: RulesUnread; refusals, calls and mount: CallsUnread.)
use Rattle.std.specs.Prelude.{◌≡◌, Bool, ◌&&◌, leb}
use Rattle.std.proofs.Math.Path.{refl, ap}
use Rattle.std.proofs.Common.{ap₂, ◌∙◌}
use Prim.Native.Nat.{ℕ, zero, suc, ◌+◌}
use mathlib.Core.List.{List, [], ◌∷◌, ◌++◌}
use Rattle.tables.specs.declared.Geometry.{Geometry}
use Rattle.tables.specs.meaning.Basics.{pick}
use Rattle.tables.specs.meaning.LittleEndian.{same_bytes}
use Rattle.tables.specs.meaning.Geometry.{zone_sectors}
use Rattle.logs.specs.meaning.Entry.{Header, label, counters, zone_reset, partial_parity, seal, closing, Decoded, legal, bad, fault_of, encode, label_bytes, read_fields, fits_log, rows_of, decode}
use Rattle.logs.specs.declared.Fault.TheVariants.{RowsPast}
use Rattle.logs.specs.meaning.Walk.{Walked, WalkState, between, in_entry, with_entry, no_entry, in_zone, decode_at, walk, walk_log}
use Rattle.volume.specs.laws.LogPlaces.{with_logs}

module _ (g : Geometry) (n : ℕ) where
  rows_alike : (h : Header) → rows_of (with_logs g n) h ≡ rows_of g h
  rows_alike (label x a) = refl
  rows_alike (counters cs) = refl
  rows_alike (zone_reset z m) = refl
  rows_alike (partial_parity z s f m) = refl
  rows_alike (seal z p m) = refl
  rows_alike (closing kind gen) = refl

  pub encode_alike : (d : ℕ) (h : Header) → encode (with_logs g n) d h ≡ encode g d h
  unfolding encode zone_sectors label_bytes
  encode_alike d (label x a) = refl
  encode_alike d (counters cs) = refl
  encode_alike d (zone_reset z m) = refl
  encode_alike d (partial_parity z s f m) = refl
  encode_alike d (seal z p m) = refl
  encode_alike d (closing kind gen) = refl

  fits_alike : (d : ℕ) (par : Bool) (h : Header) → fits_log (with_logs g n) d par h ≡ fits_log g d par h
  unfolding zone_sectors
  fits_alike d par (label x a) = refl
  fits_alike d par (counters cs) = refl
  fits_alike d par (zone_reset z m) = refl
  fits_alike d par (partial_parity z s f m) = refl
  fits_alike d par (seal z p m) = refl
  fits_alike d par (closing kind gen) = refl

  fields_alike : (s : List ℕ) → read_fields (with_logs g n) s ≡ read_fields g s
  unfolding read_fields zone_sectors
  fields_alike s = refl

  pub decode_alike : (d : ℕ) (par : Bool) (s : List ℕ) → decode (with_logs g n) d par s ≡ decode g d par s
  decode_alike d par s =
      rw (fields_alike s) (ap₂ (λ (bs : List ℕ) (b : Bool). pick (same_bytes bs s && b) (legal (read_fields g s)) (bad (fault_of s))) (encode_alike d (read_fields g s)) (fits_alike d par (read_fields g s)))

  in_zone_alike : (x : ℕ) (r : Decoded) → in_zone (with_logs g n) x r ≡ in_zone g x r
  in_zone_alike x (legal h) = ap (λ (k : ℕ). pick (leb (x + suc k) g.capacity) (legal h) (bad RowsPast)) (rows_alike h)
  in_zone_alike x (bad f) = refl

  decode_at_alike : (d : ℕ) (par : Bool) (x : ℕ) (s : List ℕ) → decode_at (with_logs g n) d par x s ≡ decode_at g d par x s
  decode_at_alike d par x s = in_zone_alike x (decode (with_logs g n) d par s) ∙ ap (in_zone g x) (decode_alike d par s)

  module _ (d : ℕ) (par : Bool) where
    -- what the walk makes of a header with k rows, and of a decoded sector x; ss: those after it
    after_header : Geometry → ℕ → List (List ℕ) → Header → ℕ → Walked
    after_header e x ss h k = elim k [ zero ↦ with_entry (record { head = h; rows = [] }) (walk e d par (suc x) between ss) | suc k ↦ walk e d par (suc x) (in_entry x h k []) ss ]

    after_decode : Geometry → ℕ → List (List ℕ) → Decoded → Walked
    after_decode e x ss r = elim r [ legal h ↦ after_header e x ss h (rows_of e h) | bad f ↦ record { entries = []; last = no_entry f; position = x } ]

    walk_alike : (x : ℕ) (st : WalkState) (ss : List (List ℕ)) → walk (with_logs g n) d par x st ss ≡ walk g d par x st ss
    unfolding after_header after_decode
    walk_alike x between [] = refl
    walk_alike x (in_entry y h k acc) [] = refl
    walk_alike x between (s ∷ ss) =
        ap (after_decode (with_logs g n) x ss) (decode_at_alike d par x s) ∙ go (decode_at g d par x s) (λ st. walk_alike (suc x) st ss)
      where
        rest : (h : Header) (k : ℕ) → ((st : WalkState) → walk (with_logs g n) d par (suc x) st ss ≡ walk g d par (suc x) st ss) → after_header (with_logs g n) x ss h k ≡ after_header g x ss h k
        rest h zero ih = ap (with_entry (record { head = h; rows = [] })) (ih between)
        rest h (suc k) ih = ih (in_entry x h k [])

        go : (r : Decoded) → ((st : WalkState) → walk (with_logs g n) d par (suc x) st ss ≡ walk g d par (suc x) st ss) → after_decode (with_logs g n) x ss r ≡ after_decode g x ss r
        go (legal h) ih = ap (after_header (with_logs g n) x ss h) (rows_alike h) ∙ rest h (rows_of g h) ih
        go (bad f) ih = refl
    walk_alike x (in_entry y h zero acc) (s ∷ ss) = ap (with_entry (record { head = h; rows = acc ++ (s ∷ []) })) (walk_alike (suc x) between ss)
    walk_alike x (in_entry y h (suc k) acc) (s ∷ ss) = walk_alike (suc x) (in_entry y h k (acc ++ (s ∷ []))) ss

    pub walk_log_alike : (ss : List (List ℕ)) → walk_log (with_logs g n) d par ss ≡ walk_log g d par ss
    walk_log_alike ss = walk_alike zero between ss
