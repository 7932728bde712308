-- Two calls of which the input is refused alike, whose stripe IDs are wrong alike and which hold the same answer alike.
use Rattle.std.proofs.Math.Path.{◌≡◌, refl, sym}
use Rattle.std.proofs.Common.{ap, ◌∙◌, arith}
use Rattle.std.specs.Prelude.{Bool, ℕ, zero, suc, ◌-◌, ◌≤◌, ◌<◌, List, length, eqb}
use Rattle.std.proofs.Math.Bool.{true, false}
use Rattle.std.proofs.Math.Decide.{ℕ_discrete}
use Rattle.tables.specs.meaning.Basics.{pick}
use Rattle.grouped.specs.declared.Segment.{Segment}
use Rattle.grouped.specs.meaning.Segment.{missing_drive, total_blocks}
use Rattle.grouped.specs.meaning.Stripes.{wrong_i_ds}
use Rattle.grouped.specs.meaning.Reading.{request, numbers_refused, metadata_number, newest, some_alike, grouped_number, grouped_left, block_in}
use Rattle.grouped.specs.laws.Holdings.{SameHeld, same_some_alike, same_newest, same_blocks}
use Rattle.grouped.specs.reading.Later.{newest_most}
use Rattle.grouped.specs.reading.Call.{refused_left, finished_left_lem, by_input, by_metadata, by_address}

module _ (s : Segment) (named : List Bool) (xs ms : List ℕ) (other : List Bool) (ys ns : List ℕ) (work a : ℕ) (out : List ℕ)
    (inputs : numbers_refused s named (length xs) (length ms) work (length out) ≡ numbers_refused s other (length ys) (length ns) work (length out))
    (ids : wrong_i_ds s ms (missing_drive s named) ≡ wrong_i_ds s ns (missing_drive s other))
    (held : wrong_i_ds s ms (missing_drive s named) ≡ false → SameHeld s xs ms (missing_drive s named) ys ns (missing_drive s other)) where
  abbrev pub Same : Type 0
  Same =
      (grouped_number (request s named xs ms work a) out ≡ grouped_number (request s other ys ns work a) out)
      × (grouped_left (request s named xs ms work a) out ≡ grouped_left (request s other ys ns work a) out)

  abbrev x : ℕ
  x = missing_drive s named

  abbrev y : ℕ
  y = missing_drive s other

  metadatas : metadata_number s ms x ≡ metadata_number s ns y
  unfolding metadata_number
  metadatas = go (wrong_i_ds s ms x) refl
    where
      go : (t : Bool) → wrong_i_ds s ms x ≡ t → ◌≡◌ {A = ℕ} (pick (wrong_i_ds s ms x) 23 (pick (some_alike s ms x) 24 0)) (pick (wrong_i_ds s ns y) 23 (pick (some_alike s ns y) 24 0))
      go true e = let f : wrong_i_ds s ns y ≡ true = sym ids ∙ e in rw (e, f) refl
      go false e = rw (ids, same_some_alike s xs ms x ys ns y (held e)) refl

  right : metadata_number s ms x ≡ 0 → wrong_i_ds s ms x ≡ false
  unfolding metadata_number
  right z = go (wrong_i_ds s ms x) refl z
    where
      go : (t : Bool) → wrong_i_ds s ms x ≡ t → ◌≡◌ {A = ℕ} (pick t 23 (pick (some_alike s ms x) 24 0)) 0 → t ≡ false
      go true e q = absurd (omega arith)
      go false e q = refl

  -- both refused with one number
  both : (n : ℕ) → grouped_number (request s named xs ms work a) out ≡ n → grouped_number (request s other ys ns work a) out ≡ n → Dec (n ≡ 0) → (n ≡ 0 → grouped_left (request s named xs ms work a) out ≡ grouped_left (request s other ys ns work a) out) → Same
  both n p q (yes e) same = (p ∙ sym q, same e)
  both n p q (no e) same = (p ∙ sym q, refused_left (request s named xs ms work a) out n p e ∙ sym (refused_left (request s other ys ns work a) out n q e))

  most : newest s ms x a ≤ total_blocks s
  unfolding newest
  most = newest_most s ms x a (total_blocks s)

  found : numbers_refused s named (length xs) (length ms) work (length out) ≡ 0 → metadata_number s ms x ≡ 0 → Same
  found i m =
      let h = held (right m) in
      let n = newest s ms x a in
      let e : newest s ms x a ≡ newest s ns y a = same_newest s xs ms x ys ns y h a in
      let p = by_address (request s named xs ms work a) out i m n refl in
      let q = by_address (request s other ys ns work a) out (sym inputs ∙ i) (sym metadatas ∙ m) n (sym e) in
      both (pick (eqb n 0) 13 0) p q (ℕ_discrete (pick (eqb n 0) 13 0) 0)
      (λ z.
      finished_left_lem (request s named xs ms work a) out (p ∙ z)
      ∙ same_blocks s xs ms x ys ns y h (n - 1) (inside n z most)
      ∙ ap (λ (k : ℕ). block_in s ys ns y (k - 1)) e
      ∙ sym (finished_left_lem (request s other ys ns work a) out (q ∙ z)))
    where
      inside : (n : ℕ) → ◌≡◌ {A = ℕ} (pick (eqb n 0) 13 0) 0 → n ≤ total_blocks s → n - 1 < total_blocks s
      inside zero z k = absurd (omega arith)
      inside (suc n) z k = omega arith

  pub same_call : Same
  same_call = go (ℕ_discrete (numbers_refused s named (length xs) (length ms) work (length out)) 0) (ℕ_discrete (metadata_number s ms x) 0)
    where
      go : Dec (numbers_refused s named (length xs) (length ms) work (length out) ≡ 0) → Dec (metadata_number s ms x ≡ 0) → Same
      go (no i) m =
          let n = numbers_refused s named (length xs) (length ms) work (length out) in
          both n (by_input (request s named xs ms work a) out n refl i) (by_input (request s other ys ns work a) out n (sym inputs) i) (no i) (λ z. absurd (i z))
      go (yes i) (no m) =
          let n = metadata_number s ms x in
          both n (by_metadata (request s named xs ms work a) out n i refl m) (by_metadata (request s other ys ns work a) out n (sym inputs ∙ i) (sym metadatas) m) (no m) (λ z. absurd (m z))
      go (yes i) (yes m) = found i m
