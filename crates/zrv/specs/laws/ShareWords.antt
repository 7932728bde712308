-- The shares that calls hand on: numbers of 32 bits, and none of a drive that there is not. So a state's bytes hold them.
use Rattle.std.specs.Prelude.{◌≡◌, Bool, ◌&&◌, not, ℕ, ◌-◌, ◌/◌, ◌^◌, ◌≤◌, ◌<◌, List, length, get_or, set, ltb, eqb}
use Rattle.std.proofs.Math.Path.{refl}
use Rattle.std.proofs.Common.{◌∙◌, get_or-set_same, get_or-set_other, ltb-true, eqb-true}
use Rattle.std.proofs.Math.Bool.{true, false}
use Rattle.std.proofs.Math.Decide.{ℕ_discrete, dec_lt}
use native.Mathlib.Omega.{arith}
use Rattle.std.proofs.Math.ListN.{get_or-eq_default}
use Rattle.std.proofs.Math.Seq.{set_out}
use Rattle.tables.specs.declared.Geometry.{Geometry}
use Rattle.tables.specs.meaning.Basics.{pick}
use Rattle.tables.specs.laws.Basics.{and_split}
use Rattle.tables.specs.meaning.Below.{tabulate}
use Rattle.tables.specs.laws.Below.{length_tabulate, get_d_tabulate}
use Rattle.tables.specs.meaning.Device.{Device}
use Rattle.tables.specs.meaning.Geometry.{Valid}
use Rattle.logs.specs.meaning.Entry.{kind_of_log}
use Rattle.volume.specs.meaning.Rules.{is_present, is_lost}
use Rattle.volume.specs.meaning.Roles.{roles, by_roles, claim_of_kind}
use Rattle.volume.specs.meaning.Emptying.{unused_in}
use Rattle.volume.specs.meaning.Hosts.{half_past, shares_by, shares_in, fresh_shares, renewed_shares}
use Rattle.volume.specs.meaning.Answers.{named_drives, present_in}
use Rattle.volume.specs.laws.StateHeld.{shares_less}
use Rattle.zrv.specs.meaning.Bytes.{shares_of}

pub record ShareWords (g : Geometry) (share : ℕ → ℕ) : Type 0 where
  pub small : (i : ℕ) → i < shares_of g → share i < 256 ^ 4
  pub none_past : (i : ℕ) → shares_of g ≤ i → share i ≡ 0

-- ---- in an array of 16
pub held_words : (g : Geometry) (share : ℕ → ℕ) → Valid g → ShareWords g share → ShareWords g (λ i. get_or (tabulate share 16) i 0)
held_words g share ok fit = record { small = λ i h. rw (get_d_tabulate share 16 i 0 (omega (arith, h, ok.drives_most))) (fit.small i h); none_past = λ i h. past i h (dec_lt i 16) }
  where
    past : (i : ℕ) → shares_of g ≤ i → Dec (i < 16) → get_or (tabulate share 16) i 0 ≡ 0
    past i h (yes k) = get_d_tabulate share 16 i 0 k ∙ fit.none_past i h
    past i h (no k) = get_or-eq_default (tabulate share 16) 0 {n = i} (omega (arith, k, length_tabulate share 16))

-- ---- of the present drives, half of what their logs have unused
module _ (g : Geometry) (ok : Valid g) (present : ℕ → Bool) (drives : (d : ℕ) → present d ≡ true → d < g.drives) where
  made_words : (unused : ℕ → ℕ) → ((d : ℕ) → unused d ≤ g.capacity) → ShareWords g (shares_by present (λ d. half_past g (unused d)))
  unfolding shares_by
  made_words unused most = record { small = λ i h. small (present (i / 2)) (i / 2); none_past = λ i h. past i h (present (i / 2)) refl }
    where
      small : (b : Bool) (d : ℕ) → pick b (half_past g (unused d)) 0 < 256 ^ 4
      small true d = omega (arith, most d, ok.zone_most)
      small false d = omega arith

      past : (i : ℕ) → shares_of g ≤ i → (b : Bool) → present (i / 2) ≡ b → pick b (half_past g (unused (i / 2))) 0 ≡ 0
      past i h true e = absurd (omega (arith, drives (i / 2) e, h))
      past i h false e = refl

  shown_words : (v : Device) → ShareWords g (shares_in g present v)
  unfolding unused_in
  shown_words v = made_words (unused_in g true (roles g v) (by_roles g v)) (λ d. most (eqb (claim_of_kind true (roles g v d)) 0) (length (by_roles g v d (kind_of_log true)).sectors))
    where
      most : (b : Bool) (n : ℕ) → pick b 0 (g.capacity - n) ≤ g.capacity
      most true n = omega arith
      most false n = omega arith

  fresh_words : ShareWords g (fresh_shares g present)
  fresh_words = made_words (λ d. g.capacity) (λ d. omega arith)

-- by a look or a mount, and by a format
pub look_words : (g : Geometry) (named : ℕ → Bool) (v u : Device) → Valid g → ShareWords g (shares_in g (present_in g named v) u)
unfolding is_present
look_words g named v u ok = shown_words g ok (present_in g named v) (λ d e. ltb-true d g.drives (and_split (ltb d g.drives) (not (is_lost g named (by_roles g v) d)) e).0) u

pub format_words : (g : Geometry) (named : ℕ → Bool) → Valid g → ShareWords g (fresh_shares g (named_drives g named))
unfolding named_drives
format_words g named ok = fresh_words g ok (named_drives g named) (λ d e. ltb-true d g.drives (and_split (ltb d g.drives) (named d) e).0)

-- ---- with a drive's anew, no larger than a log
pub renewed_words : (g : Geometry) (share : ℕ → ℕ) (d n : ℕ) → Valid g → ShareWords g share → d < g.drives → n ≤ g.capacity → ShareWords g (renewed_shares share d n)
renewed_words g share d n ok fit hd hn = record { small = λ i h. small i h (eqb (i / 2) d); none_past = λ i h. past i h (eqb (i / 2) d) refl }
  where
    small : (i : ℕ) → i < shares_of g → (b : Bool) → pick b n (share i) < 256 ^ 4
    small i h true = omega (arith, hn, ok.zone_most)
    small i h false = fit.small i h

    past : (i : ℕ) → shares_of g ≤ i → (b : Bool) → eqb (i / 2) d ≡ b → pick b n (share i) ≡ 0
    past i h true e = absurd (omega (arith, eqb-true (i / 2) d e, hd, h))
    past i h false e = fit.none_past i h

-- ---- with one that is less than before
pub less_words : (g : Geometry) (ns : List ℕ) (i taken : ℕ) → ShareWords g (λ j. get_or ns j 0) → ShareWords g (λ j. get_or (shares_less ns i taken) j 0)
less_words g ns i taken fit = record { small = λ j h. omega (arith, less j (ℕ_discrete j i) (dec_lt i (length ns)), fit.small j h); none_past = λ j h. omega (arith, less j (ℕ_discrete j i) (dec_lt i (length ns)), fit.none_past j h) }
  where
    less : (j : ℕ) → Dec (j ≡ i) → Dec (i < length ns) → get_or (set ns i (get_or ns i 0 - taken)) j 0 ≤ get_or ns j 0
    less j (yes e) (yes h) = rw (e, get_or-set_same ns i (get_or ns i 0 - taken) 0 h) (omega arith)
    less j (yes e) (no h) = rw (set_out ns i (get_or ns i 0 - taken) (omega arith)) (omega arith)
    less j (no e) h = rw (get_or-set_other ns i j (get_or ns i 0 - taken) 0 e) (omega arith)
