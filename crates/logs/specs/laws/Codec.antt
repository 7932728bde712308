-- What is written reads back: every header whose numbers have room in their fields, for every geometry.
use Rattle.std.specs.Prelude.{◌≡◌, Bool, true, drop}
use Rattle.std.proofs.Math.Path.{refl, ap}
use Prim.Native.Nat.{ℕ, zero, ◌+◌, ◌-◌, ◌*◌, ◌^◌, ◌≤◌, ◌<◌, zero-le}
use Rattle.std.proofs.Common.{mul-le-mul_right}
use Rattle.std.proofs.Math.Nat.{mul-div_cancel}
use native.Mathlib.Omega.{arith}
use mathlib.Core.List.{List, ◌++◌}
use Rattle.std.proofs.Math.ListN.{length, replicate}
use Rattle.std.proofs.Math.Arith.{digits_div, digits_mod}
use Rattle.tables.specs.laws.Sizes.{zone_small, stripe_small}
use Rattle.tables.specs.declared.Geometry.{Geometry}
use Rattle.tables.specs.meaning.Geometry.{Valid, stripe_sectors, zone_sectors}
use Rattle.tables.specs.laws.LittleEndian.{number_bytes_le, numbers_words_le, Small}
use Rattle.tables.specs.meaning.LittleEndian.{words_le}
use Rattle.logs.specs.meaning.Entry.{Header, label, counters, zone_reset, partial_parity, seal, closing, encode, frame, label_bytes, read_fields, kind_of, start_of, end_of, gen_of, fits_log}
use Rattle.logs.specs.laws.Entry.{decode_enc, FieldsFit}
use Rattle.logs.specs.laws.Walk.{Reads}

-- ---- the fields of a frame
frame_start : (k s e n : ℕ) (rest : List ℕ) → s < 256 ^ 8 → start_of (frame k s e n rest) ≡ s
unfolding start_of frame
frame_start k s e n rest h = number_bytes_le 8 s h

frame_end : (k s e n : ℕ) (rest : List ℕ) → e < 256 ^ 8 → end_of (frame k s e n rest) ≡ e
unfolding end_of frame
frame_end k s e n rest h = number_bytes_le 8 e h

frame_gen : (k s e n : ℕ) (rest : List ℕ) → n < 256 ^ 8 → gen_of (frame k s e n rest) ≡ n
unfolding gen_of frame
frame_gen k s e n rest h = number_bytes_le 8 n h

frame_kind : (k s e n : ℕ) (rest : List ℕ) → kind_of (frame k s e n rest) ≡ k
unfolding kind_of frame
frame_kind k s e n rest = refl

frame_rest : (k s e n : ℕ) (rest : List ℕ) → drop 32 (frame k s e n rest) ≡ rest
unfolding frame
frame_rest k s e n rest = refl

-- ---- bounds
module _ (g : Geometry) (ok : Valid g) where
  -- addresses have room in 8 bytes
  pub address_small : (z n : ℕ) → z < g.zones → n ≤ zone_sectors g → z * zone_sectors g + n < 256 ^ 8
  address_small z n h k =
      let a : z ≤ 15 = omega (arith, ok.zones_most) in
      let b : z * zone_sectors g ≤ 15 * zone_sectors g = mul-le-mul_right (zone_sectors g) a in
      omega (arith, b, (zone_small g ok).1, k)

  -- ---- reading back
  fields_label : (d x a : ℕ) → a < 256 ^ 8 → read_fields g (encode g d (label x a)) ≡ label x a
  unfolding read_fields kind_of start_of end_of gen_of encode frame label_bytes
  fields_label d x a h = ap (label x) (number_bytes_le 8 a h)

  fields_counters : (d : ℕ) (cs : List ℕ) → length cs ≡ g.zones → Small cs → read_fields g (encode g d (counters cs)) ≡ counters cs
  unfolding read_fields encode
  fields_counters d cs e s =
      let t = words_le cs ++ replicate (g.sector - (32 + 8 * length cs)) 0 in
      rw (frame_kind 2 0 0 0 t) (ap counters (rw (← e, frame_rest 2 0 0 0 t) (numbers_words_le cs (replicate (g.sector - (32 + 8 * length cs)) 0) s)))

  fields_resets : (d z n : ℕ) → z < g.zones → n < 256 ^ 8 → read_fields g (encode g d (zone_reset z n)) ≡ zone_reset z n
  unfolding read_fields encode
  fields_resets d z n hz hn =
      let q = zone_sectors g in
      let t : List ℕ = replicate (g.sector - 32) 0 in
      let s : z * q < 256 ^ 8 = omega (arith, address_small z zero hz zero-le) in
      rw (frame_kind 3 (z * q) (z * q + q) n t, frame_start 3 (z * q) (z * q + q) n t s, frame_gen 3 (z * q) (z * q + q) n t hn) (ap (λ (y : ℕ). zone_reset y n) (mul-div_cancel z (zone_small g ok).0))

  fields_partial : (d z s f n : ℕ) → z < g.zones → s * stripe_sectors g < zone_sectors g → s * stripe_sectors g + f ≤ zone_sectors g → n < 256 ^ 8 → read_fields g (encode g d (partial_parity z s f n)) ≡ partial_parity z s f n
  unfolding read_fields encode
  fields_partial d z s f n hz hs hf hn =
      let q = zone_sectors g in
      let k = stripe_sectors g in
      let t : List ℕ = replicate (g.sector - 32) 0 in
      let a : z * q + s * k < 256 ^ 8 = omega (arith, address_small z (s * k) hz (omega arith)) in
      let b : z * q + s * k + f < 256 ^ 8 = omega (arith, address_small z (s * k + f) hz hf) in
      let e : z * q + s * k + f - (z * q + s * k) ≡ f = omega arith in
      rw (frame_kind 4 (z * q + s * k) (z * q + s * k + f) n t, frame_start 4 (z * q + s * k) (z * q + s * k + f) n t a, frame_end 4 (z * q + s * k) (z * q + s * k + f) n t b, frame_gen 4 (z * q + s * k) (z * q + s * k + f) n t hn)
      (rw (e, digits_div z hs, digits_mod z hs, mul-div_cancel s (stripe_small g ok).0) refl)

  fields_seal : (d z p n : ℕ) → z < g.zones → p ≤ zone_sectors g → n < 256 ^ 8 → read_fields g (encode g d (seal z p n)) ≡ seal z p n
  unfolding read_fields encode
  fields_seal d z p n hz hp hn =
      let q = zone_sectors g in
      let t : List ℕ = replicate (g.sector - 32) 0 in
      let s : z * q < 256 ^ 8 = omega (arith, address_small z zero hz zero-le) in
      let b : z * q + p < 256 ^ 8 = address_small z p hz hp in
      let e : z * q + p - z * q ≡ p = omega arith in
      rw (frame_kind 5 (z * q) (z * q + p) n t, frame_start 5 (z * q) (z * q + p) n t s, frame_end 5 (z * q) (z * q + p) n t b, frame_gen 5 (z * q) (z * q + p) n t hn)
      (rw (e, mul-div_cancel z (zone_small g ok).0) refl)

  fields_closing : (d k n : ℕ) → k < 256 ^ 8 → n < 256 ^ 8 → read_fields g (encode g d (closing k n)) ≡ closing k n
  unfolding read_fields encode
  fields_closing d k n hk hn =
      let t : List ℕ = replicate (g.sector - 32) 0 in
      rw (frame_kind 6 k 0 n t, frame_start 6 k 0 n t hk, frame_gen 6 k 0 n t hn) refl

  fields_enc : (d : ℕ) (h : Header) → FieldsFit g h → read_fields g (encode g d h) ≡ h
  fields_enc d (label x a) r = fields_label d x a r
  fields_enc d (counters cs) r = fields_counters d cs r.0 r.1
  fields_enc d (zone_reset z n) r = fields_resets d z n r.0 r.1
  fields_enc d (partial_parity z s f n) r = fields_partial d z s f n r.0 r.1 r.2 r.3
  fields_enc d (seal z p n) r = fields_seal d z p n r.0 r.1 r.2
  fields_enc d (closing kind gen) r = fields_closing d kind gen r.0 r.1

  -- WHAT IS WRITTEN READS BACK
  pub reads : (d : ℕ) (par : Bool) (h : Header) → FieldsFit g h → fits_log g d par h ≡ true → Reads g d par h
  reads d par h r f = decode_enc g d par h (fields_enc d h r) f
