-- What is heard of an event determines what was answered; and what two volumes answer alike is heard alike, whatever their states and listings are.
use Rattle.std.specs.Prelude.{◌≡◌, ℕ, List}
use Rattle.std.proofs.Common.{ap, ap₂, ◌∙◌}
use Rattle.volume.specs.declared.Answer.{Answer}
use Rattle.volume.specs.meaning.CallContracts.{ReadResult}
use Rattle.volume.specs.meaning.Report.{ReportResult}
use Rattle.promise.specs.meaning.Claim.{Peeked, Heard, answered, read_out, peeked_at, reported}

-- ---- the parts of equal values are equal
module _ {S L : Type 0} where
  pub answer_heard : {a b : Answer} → ◌≡◌ {A = Heard S L} (answered a) (answered b) → a ≡ b
  answer_heard e = cc

  pub read_heard : {a b : Answer} {x y : List ℕ} → ◌≡◌ {A = Heard S L} (read_out a x) (read_out b y) → (a ≡ b) × (x ≡ y)
  read_heard e = (cc, cc)

  pub peek_heard : {n i from to : ℕ} {x y : List ℕ} → ◌≡◌ {A = Heard S L} (peeked_at n from x) (peeked_at i to y) → (n ≡ i) × (from ≡ to) × (x ≡ y)
  peek_heard e = (cc, cc, cc)

  pub report_heard : {r u : ReportResult L} → ◌≡◌ {A = Heard S L} (reported r) (reported u) → r ≡ u
  report_heard e = cc

-- ---- of another volume
module _ {S L T M : Type 0} where
  pub answer_alike : {r u a : Answer} → r ≡ u → ◌≡◌ {A = Heard T M} (answered u) (answered a) → ◌≡◌ {A = Heard S L} (answered r) (answered a)
  answer_alike q e = ap answered (q ∙ answer_heard e)

  pub read_alike : {r u : ReadResult} {a : Answer} {x : List ℕ} → r ≡ u → ◌≡◌ {A = Heard T M} (read_out u.answer u.buffer) (read_out a x) → ◌≡◌ {A = Heard S L} (read_out r.answer r.buffer) (read_out a x)
  read_alike q e = let (i, j) = read_heard e in ap₂ read_out (ap (λ (k : ReadResult). k.answer) q ∙ i) (ap (λ (k : ReadResult). k.buffer) q ∙ j)

  pub peek_alike : {r u : Peeked} {n from : ℕ} {x : List ℕ} → r ≡ u → ◌≡◌ {A = Heard T M} (peeked_at u.number u.from u.part) (peeked_at n from x)
      → ◌≡◌ {A = Heard S L} (peeked_at r.number r.from r.part) (peeked_at n from x)
  peek_alike q e =
      let (i, j, k) = peek_heard e in
      let number = ap (λ (p : Peeked). p.number) q ∙ i in
      let from = ap (λ (p : Peeked). p.from) q ∙ j in
      let part = ap (λ (p : Peeked). p.part) q ∙ k in
      λ t. peeked_at (number t) (from t) (part t)
