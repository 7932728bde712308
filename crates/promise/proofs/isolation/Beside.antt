-- TWO RUNS SIDE BY SIDE, from one system. What others do moves one of them alone; at a call of the desk's own they agree on what it shares, so it feels the same in both,
-- and they go on alike.
use Rattle.std.specs.Prelude.{◌≡◌, Bool, ◌&&◌, ◌||◌, ℕ, ◌<◌, List, [], ◌∷◌, ◌++◌, eqb}
use Rattle.std.proofs.Math.Path.{refl}
use Rattle.std.proofs.Common.{sym, ap, ap₂, ◌∙◌, append-nil}
use Rattle.std.proofs.Math.Bool.{true, false}
use Rattle.std.proofs.lemmas.List.{append_cancel_left}
use Rattle.tables.specs.laws.Basics.{not_both, or_right}
use Rattle.tables.specs.laws.Below.{count_below_cong}
use Rattle.tables.specs.declared.Geometry.{Geometry}
use Rattle.volume.specs.meaning.State.{hosts, is_owner}
use Rattle.volume.specs.meaning.Hosts.{counts, counts_to, zones_of}
use Rattle.promise.specs.meaning.Claim.{Volume, System, Event, next}
use Rattle.promise.specs.meaning.Isolation.{Step, stores_to, reads_from, Compacted, named_in, compacted_in, SameZone, AgreeAt}
use Rattle.promise.proofs.isolation.Laws.{Laws}
use Rattle.promise.proofs.isolation.Shares.{renew_all}
use Rattle.promise.proofs.isolation.Alone.{and_false, halts, NoStore, share_of}
use Rattle.promise.proofs.isolation.Together.{Felt}
use Rattle.promise.proofs.isolation.Stored.{StoredAlike}
use Rattle.promise.proofs.isolation.Runs.{Place, Since, next_place, passed_place, passed_zones, passed_since}

same_zone_after : (g : Geometry) (vol : Volume) (s t u : System vol) (z : ℕ) → SameZone g vol s t z → SameZone g vol t u z → SameZone g vol s u z
same_zone_after g vol s t u z a b = record { generation = a.generation ∙ b.generation; condition = a.condition ∙ b.condition; owner = a.owner ∙ b.owner; content = a.content ∙ b.content }

same_zone_back : (g : Geometry) (vol : Volume) (s t : System vol) (z : ℕ) → SameZone g vol s t z → SameZone g vol t s z
same_zone_back g vol s t z a = record { generation = sym a.generation; condition = sym a.condition; owner = sym a.owner; content = sym a.content }

-- the zones that a desk shares, by those that it names and those that others change in the one run and in the other
abbrev pub shared : (ℕ → Bool) → (ℕ → Bool) → (ℕ → Bool) → ℕ → Bool
shared names one other z = names z && (one z || other z)

-- ==== two runs side by side (names: the zones that the desk names; one, other: those that others change in the first and in the second)
module _ (g : Geometry) (vol : Volume) (Ok : System vol → Type 0) (laws : Laws g vol Ok) (h : ℕ) (names one other : ℕ → Bool) where
  -- zones that no other desk changes
  abbrev pub ZonesSame : System vol → System vol → Type 0
  ZonesSame s t = (z : ℕ) → z < g.zones → one z ≡ false → other z ≡ false → SameZone g vol s t z

  pub record Beside (common : List Compacted) (share : ℕ → ℕ) (s t : System vol) (p q : List Compacted) (xs ys : List (Step vol)) : Type 0 where
    pub first : Place g vol h names Ok one s xs
    pub second : Place g vol h names Ok other t ys
    pub first_since : Since g vol h names Ok common share s p
    pub second_since : Since g vol h names Ok common share t q
    pub zones : ZonesSame s t
    pub named : (z : ℕ) → named_in g vol h xs z ≡ true → names z ≡ true

  later_named : (x : Step vol) (xs : List (Step vol)) → ((z : ℕ) → named_in g vol h (x ∷ xs) z ≡ true → names z ≡ true) → (z : ℕ) → named_in g vol h xs z ≡ true → names z ≡ true
  later_named x xs named z n = named z (or_right (eqb x.desk h && (stores_to g x.event z || reads_from g x.event z)) (named_in g vol h xs z) n)

  module _ (common : List Compacted) (share : ℕ → ℕ) (s t : System vol) (p q : List Compacted) (xs ys : List (Step vol)) (beside : Beside common share s t p q xs ys) (e f : Event vol)
      (agree : AgreeAt g vol (shared names one other) (record { system = s; past = p; event = e }) (record { system = t; past = q; event = f })) where
    -- ---- what the desk feels at a call
    felt_zone : (z : ℕ) → z < g.zones → names z ≡ true → SameZone g vol s t z
    felt_zone z k n = by (one z) refl (other z) refl
      where
        by : (a : Bool) → one z ≡ a → (b : Bool) → other z ≡ b → SameZone g vol s t z
        by true x b y = agree.zones z k (rw (n, x) refl)
        by false x true y = agree.zones z k (rw (n, x, y) refl)
        by false x false y = beside.zones z k x y

    felt_share : h < hosts → (d : ℕ) → d < g.drives → share_of g vol h s d ≡ share_of g vol h t d
    felt_share j d k =
        let since = beside.first_since in
        let other = beside.second_since in
        let same = append_cancel_left common since.more other.more (sym since.past_is ∙ agree.emptyings ∙ other.past_is) in
        since.shares_are j d k ∙ ap (λ (cs : List Compacted). renew_all g cs share d) same ∙ sym (other.shares_are j d k)

    felt_own : zones_of g (vol.view s.state) h ≡ zones_of g (vol.view t.state) h
    unfolding zones_of
    felt_own = count_below_cong (counts_to g (vol.view s.state) h) (counts_to g (vol.view t.state) h) g.zones (λ z k. by z k (names z) refl)
      where
        not_own : (i : System vol) (z : ℕ) → (is_owner h ((vol.view i.state).owner z) ≡ true → names z ≡ true) → names z ≡ false → counts_to g (vol.view i.state) h z ≡ false
        not_own i z o n = by (is_owner h ((vol.view i.state).owner z)) refl
          where
            by : (b : Bool) → is_owner h ((vol.view i.state).owner z) ≡ b → counts_to g (vol.view i.state) h z ≡ false
            by true e = not_both (names z) (o e) n
            by false e = rw e (and_false (counts g (vol.view i.state) z))

        by : (z : ℕ) → z < g.zones → (b : Bool) → names z ≡ b → counts_to g (vol.view s.state) h z ≡ counts_to g (vol.view t.state) h z
        by z k true n = let same = felt_zone z k n in rw (same.condition, same.owner) refl
        by z k false n = not_own s z (beside.first.owned z k) n ∙ sym (not_own t z (beside.second.owned z k) n)

    pub felt : Felt g vol h names s t
    felt = record { lost = agree.lost; zones = felt_zone; open_zones_lem = agree.open_zones_lem; zones_of_lem = felt_own; general_logs_lem = agree.general_logs_lem; shares = felt_share }

  -- ---- steps on
  module _ (common : List Compacted) (share : ℕ → ℕ) (s t : System vol) (p q : List Compacted) where
    pub first_alone : (x : Step vol) (xs ys : List (Step vol)) → Beside common share s t p q (x ∷ xs) ys → halts s x.event ≡ false → (eqb x.desk h ≡ true → NoStore g vol s x.event)
        → Beside common share (next g vol s x.event) t (p ++ compacted_in g vol s x.event) q xs ys
    first_alone x xs ys b goes own = record {
      first = passed_place g vol h names Ok laws one s x xs b.first goes own;
      second = b.second;
      first_since = passed_since g vol h names Ok laws one s x xs b.first goes own common share p b.first_since;
      second_since = b.second_since;
      zones = λ z k m n. same_zone_after g vol (next g vol s x.event) s t z (passed_zones g vol h names Ok laws one s x xs b.first goes own z k m) (b.zones z k m n);
      named = later_named x xs b.named;
    }

    pub second_alone : (y : Step vol) (xs ys : List (Step vol)) → Beside common share s t p q xs (y ∷ ys) → halts t y.event ≡ false → (eqb y.desk h ≡ true → NoStore g vol t y.event)
        → Beside common share s (next g vol t y.event) p (q ++ compacted_in g vol t y.event) xs ys
    second_alone y xs ys b goes own = record {
      first = b.first;
      second = passed_place g vol h names Ok laws other t y ys b.second goes own;
      first_since = b.first_since;
      second_since = passed_since g vol h names Ok laws other t y ys b.second goes own common share q b.second_since;
      zones = λ z k m n. same_zone_after g vol s t (next g vol t y.event) z (b.zones z k m n) (same_zone_back g vol (next g vol t y.event) t z (passed_zones g vol h names Ok laws other t y ys b.second goes own z k n));
      named = b.named;
    }

    -- both store, and alike: from here the shares are counted anew
    pub both_stored : (x y : Step vol) (xs ys : List (Step vol)) → Beside common share s t p q (x ∷ xs) (y ∷ ys) → p ≡ q → StoredAlike g vol h names s t x.event y.event
        → Beside (p ++ compacted_in g vol s x.event) (share_of g vol h (next g vol s x.event)) (next g vol s x.event) (next g vol t y.event) (p ++ compacted_in g vol s x.event) (q ++ compacted_in g vol t y.event) xs ys
    both_stored x y xs ys b same alike = record {
      first = next_place g vol h names Ok laws one s x xs b.first (alike.first_owned b.first.owned);
      second = next_place g vol h names Ok laws other t y ys b.second (alike.second_owned b.second.owned);
      first_since = record { more = []; past_is = sym (append-nil (p ++ compacted_in g vol s x.event)); shares_are = λ j d k. refl };
      second_since = record {
        more = [];
        past_is = sym (ap₂ (λ (a c : List Compacted). a ++ c) same alike.emptied) ∙ sym (append-nil (p ++ compacted_in g vol s x.event));
        shares_are = λ j d k. sym (alike.shares j d k);
      };
      zones = λ z k m n. alike.zones z k (b.zones z k m n);
      named = later_named x xs b.named;
    }
