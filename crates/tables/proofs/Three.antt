-- Three sources added in one pass: the byte that a loop adds at i, and how many bytes it adds.
use Rattle.std.proofs.Common.{◌≡◌, ℕ, ◌<◌, List, length, get_or, sym, ap, ◌∙◌, arith}
use Rattle.std.specs.Int.Bits.{bit_xor}
use Rattle.tables.specs.meaning.Xor.{xor_bytes}
use Rattle.tables.specs.laws.Xor.{length_xor, get_d_xor}

pub three_long : (a b c : List ℕ) → length b ≡ length a → length c ≡ length a → length (xor_bytes (xor_bytes a b) c) ≡ length a
three_long a b c e f = let l = length_xor a b (omega arith) in length_xor (xor_bytes a b) c (omega arith) ∙ l

pub three_at : (a b c : List ℕ) (i : ℕ) → length b ≡ length a → length c ≡ length a → i < length a
    → bit_xor (bit_xor (get_or a i 0) (get_or b i 0)) (get_or c i 0) ≡ get_or (xor_bytes (xor_bytes a b) c) i 0
three_at a b c i e f h =
    let l = length_xor a b (omega arith) in
    sym (get_d_xor (xor_bytes a b) c i (omega arith) (omega arith) ∙ ap (λ (x : ℕ). bit_xor x (get_or c i 0)) (get_d_xor a b i h (omega arith)))
