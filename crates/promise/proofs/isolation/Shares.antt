-- What isolation needs to know of shares and owners as such: what a row of emptyings makes of a host's shares, that two hosts' shares and owners are apart.
use Rattle.std.specs.Prelude.{◌≡◌, refl, true, false, ℕ, zero, suc, ◌/◌, ◌<◌, List, [], ◌∷◌, ◌++◌, eqb}
use Rattle.std.proofs.Common.{sym, arith, eqb-true, ne_eqb}
use Rattle.std.proofs.lemmas.Bool.{eqb-false}
use Rattle.tables.specs.declared.Geometry.{Geometry}
use Rattle.volume.specs.meaning.State.{hosts, share_at, owner_of, is_owner, set_at}
use Rattle.volume.specs.meaning.Hosts.{half_past, renewed_shares}
use Rattle.promise.specs.meaning.Isolation.{Compacted}

-- ==== a host's shares, by drive, after emptyings
abbrev pub renew_all : Geometry → List Compacted → (ℕ → ℕ) → ℕ → ℕ
renew_all g [] share d = share d
renew_all g (c ∷ cs) share d = renew_all g cs (set_at share c.drive (half_past g c.unused)) d

pub renew_append : (g : Geometry) (cs more : List Compacted) (share : ℕ → ℕ) (d : ℕ) → renew_all g (cs ++ more) share d ≡ renew_all g more (renew_all g cs share) d
renew_append g [] more share d = refl
renew_append g (c ∷ cs) more share d = renew_append g cs more (set_at share c.drive (half_past g c.unused)) d

pub renew_cong : (g : Geometry) (cs : List Compacted) (a b : ℕ → ℕ) (n : ℕ) → ((e : ℕ) → e < n → a e ≡ b e) → (d : ℕ) → d < n → renew_all g cs a d ≡ renew_all g cs b d
renew_cong g [] a b n same d k = same d k
renew_cong g (c ∷ cs) a b n same d k = renew_cong g cs (set_at a c.drive (half_past g c.unused)) (set_at b c.drive (half_past g c.unused)) n (λ e j. rw (same e j) refl) d k

-- ==== where shares lie
pub share_drive : (d h : ℕ) → h < hosts → share_at d h / hosts ≡ d
share_drive d h k = omega arith

pub share_apart : (d e h i : ℕ) → h < hosts → i < hosts → eqb i h ≡ false → eqb (share_at d h) (share_at e i) ≡ false
share_apart d e h i k j q = ne_eqb (share_at d h) (share_at e i) (λ p. eqb-false i h q (omega arith))

pub share_same : (d e h : ℕ) → eqb (share_at d h) (share_at e h) ≡ true → d ≡ e
share_same d e h q = let p = eqb-true (share_at d h) (share_at e h) q in omega arith

-- the shares of a drive anew are, for one host, its share there anew
pub renewed_at : (share : ℕ → ℕ) (d n e h : ℕ) → h < hosts → renewed_shares share d n (share_at e h) ≡ set_at (λ i. share (share_at i h)) d n e
renewed_at share d n e h k = rw (share_drive e h k) refl

-- ==== owners
pub other_owner : (h i : ℕ) → i < hosts → eqb i h ≡ false → is_owner h (owner_of i) ≡ false
other_owner h zero k q = ne_eqb h 0 (λ p. eqb-false 0 h q (sym p))
other_owner h (suc zero) k q = ne_eqb h 1 (λ p. eqb-false 1 h q (sym p))
other_owner h (suc (suc i)) k q = absurd (omega arith)
