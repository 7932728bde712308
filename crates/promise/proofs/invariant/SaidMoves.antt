-- One law for every log that changes: it grows, is cut short, is copied, or a drive of it is lost. What the logs now say of a zone (t) against
-- what they said (s): no current header or entry is new, unless it may join; a cap stays a cap, but on drives whose counters pass its
-- generation; what must last lasts. Then a Live zone stays Live (live-moves) and a Dying one Dying (dying-moves).
use Rattle.std.specs.Prelude.{◌≡◌, refl, ◌⊎◌, Bool, true, false, ℕ, zero, ◌+◌, ◌-◌, ◌*◌, ◌≤◌, ◌<◌, min, List, [], length, take}
use Rattle.std.proofs.Common.{sym, ◌∙◌, subst, inl, inr, arith, length-take, get_or-take, le_refl}
use Rattle.std.proofs.Math.Seq.{take-length}
use Rattle.tables.specs.meaning.Device.{ZoneView, Device}
use Rattle.tables.specs.laws.Lists.{Prefix}
use Rattle.tables.specs.declared.Geometry.{Geometry}
use Rattle.tables.specs.meaning.Geometry.{stripe_sectors}
use Rattle.logs.specs.meaning.Entry.{worn_generation, Header, label, counters, zone_reset, partial_parity, seal, closing, Entry, general_zone}
use Rattle.logs.specs.laws.Heads.{zone_gen}
use Rattle.logs.specs.laws.Walk.{Whole}
use Rattle.promise.proofs.content.Columns.{column}
use Rattle.promise.proofs.invariant.Invariant.{Here, Said, ZoneFacts, CappedIn, CappedBelowIn, TrueRows, EntriesIn, SurvivesLossIn, LiveZone, LoggedIn, reset_lasts, counts_past, WhyIn, logged, bare, passed, DyingZone, Ghost, said, SpentIn, SealLasts, SealSpent}

-- ---- headers of zone z
-- if it speaks of zone z, then A; and by A it is of a generation such that Q
then_of : (h : Header) (z : ℕ) (A : Type 0) (Q : ℕ → Type 0) → zone_gen h (λ y n. y ≡ z → A) → (A → zone_gen h (λ y n. y ≡ z → Q n)) → zone_gen h (λ y n. y ≡ z → Q n)
then_of (label x a) z A Q p k = tt
then_of (counters cs) z A Q p k = tt
then_of (zone_reset y n) z A Q p k = λ e. k (p e) e
then_of (partial_parity y s f n) z A Q p k = λ e. k (p e) e
then_of (seal y c n) z A Q p k = λ e. k (p e) e
then_of (closing kind gen) z A Q p k = tt

pub always_of : (h : Header) (z : ℕ) (A : Type 0) → A → zone_gen h (λ y n. y ≡ z → A)
always_of (label x a) z A p = tt
always_of (counters cs) z A p = tt
always_of (zone_reset y n) z A p = λ e. p
always_of (partial_parity y s f n) z A p = λ e. p
always_of (seal y c n) z A p = λ e. p
always_of (closing kind gen) z A p = tt

map_of : (h : Header) (z : ℕ) (P Q : ℕ → Type 0) → ((n : ℕ) → P n → Q n) → zone_gen h (λ y n. y ≡ z → P n) → zone_gen h (λ y n. y ≡ z → Q n)
map_of (label x a) z P Q f p = tt
map_of (counters cs) z P Q f p = tt
map_of (zone_reset y n) z P Q f p = λ e. f n (p e)
map_of (partial_parity y s k n) z P Q f p = λ e. f n (p e)
map_of (seal y c n) z P Q f p = λ e. f n (p e)
map_of (closing kind gen) z P Q f p = tt

pub partial_of : {A : Type 0} (h : Header) (z i k n : ℕ) → h ≡ partial_parity z i k n → zone_gen h (λ y m. y ≡ z → A) → A
partial_of {A} h z i k n e p = subst (λ (t : Header). zone_gen t (λ y m. y ≡ z → A)) e p refl

-- ---- what may join
abbrev pub Current : ℕ → ℕ → Header → Type 0
Current z n h = zone_gen h (λ y m. y ≡ z → (m ≤ n) × (n ≡ worn_generation → m < n))

pub record HeadJoins (g : Geometry) (x z : ℕ) (f : ZoneFacts) (s : Said) (h : Header) : Type 0 where
  pub sealing : (c : ℕ) → h ≡ seal z c f.generation → (f.committed ≤ c) × (c ≤ length f.laid)
      × ((e : ℕ) → Here g x e → (p : Entry) → s.parity e p → Whole g e true p → (k : ℕ) → p.head ≡ partial_parity z zero k f.generation → k ≤ g.unit → (k ≤ c) ⊎ CappedBelowIn g x s z f.generation k)
  pub clearing : h ≡ zone_reset z f.generation → f.resetting ≡ true
  pub current : Current z f.generation h

-- (general: the general logs then)
pub record EntryJoins (g : Geometry) (x z : ℕ) (f : ZoneFacts) (s : Said) (general : ℕ → Header → Type 0) (d : ℕ) (p : Entry) : Type 0 where
  pub telling : (i k : ℕ) → p.head ≡ partial_parity z i k f.generation → TrueRows g f.laid i k p.rows ⊎ CappedBelowIn g x s z f.generation (i * stripe_sectors g + k)
  pub alone : Whole g d true p → (k : ℕ) → p.head ≡ partial_parity z zero k f.generation → k ≤ g.unit → (e : ℕ) → Here g x e → (c : ℕ) → general e (seal z c f.generation) → (k ≤ c) ⊎ CappedBelowIn g x s z f.generation k
  pub current : Current z f.generation p.head

-- an entry that was there, perhaps with more rows
pub record Was (g : Geometry) (d : ℕ) (e : Entry) (In : Entry → Type 0) : Type 0 where
  pub of : Entry
  pub is_set : In of
  pub heads : e.head ≡ of.head
  pub many : ℕ
  pub rows_are : e.rows ≡ take many of.rows
  pub whole : Whole g d true e → Whole g d true of

pub was_self : (g : Geometry) (d : ℕ) (e : Entry) (In : Entry → Type 0) → In e → Was g d e In
was_self g d e In m = record { of = e; is_set = m; heads = refl; many = length e.rows; rows_are = sym (take-length e.rows); whole = λ w. w }

-- ---- THE RELATION: x was lost and the logs said s; then y is, and they say t
pub record Moves (g : Geometry) (x y z : ℕ) (f : ZoneFacts) (s t : Said) : Type 0 where
  pub here : (d : ℕ) → Here g y d → Here g x d
  pub heads : (d : ℕ) → Here g y d → (h : Header) → t.general d h → zone_gen h (λ w m. w ≡ z → s.general d h ⊎ HeadJoins g x z f s h)
  pub caps : (d : ℕ) → Here g y d → (c : ℕ) → s.general_lasts d (seal z c f.generation) → SealSpent t z f.generation c d
  pub entries : (d : ℕ) → Here g y d → (e : Entry) → t.parity d e → zone_gen e.head (λ w m. w ≡ z → Was g d e (s.parity d) ⊎ EntryJoins g x z f s t.general d e)

module _ (g : Geometry) (x y z : ℕ) (f : ZoneFacts) (s t : Said) (k : Moves g x y z f s t) where
  -- (sure: no drive's counters have passed the generation)
  module _ (sure : (d : ℕ) → Here g y d → t.counts d (λ n. f.generation < n) → ⊥) where
    pub moves_capped : (c : ℕ) → CappedIn g x s z f.generation c → CappedIn g y t z f.generation c
    moves_capped c h d a =
        let (b, q, m) = h d (k.here d a) in
        go b q (k.caps d a b m)
      where
        go : (b : ℕ) → b ≤ c → SealSpent t z f.generation b d → SealLasts t z f.generation c d
        go b q (inl (e, r, n)) = (e, omega (arith, q, r), n)
        go b q (inr n) = absurd (sure d a n)

    moves_below : (n : ℕ) → CappedBelowIn g x s z f.generation n → CappedBelowIn g y t z f.generation n
    moves_below n h = (h.0, moves_capped h.0 h.1, h.2)

    up : {A : Type 0} (n : ℕ) → A ⊎ CappedBelowIn g x s z f.generation n → A ⊎ CappedBelowIn g y t z f.generation n
    up n (inl a) = inl a
    up n (inr c) = inr (moves_below n c)

  tells_less : (i j many : ℕ) (rows : List (List ℕ)) → TrueRows g f.laid i j rows → TrueRows g f.laid i j (take many rows)
  tells_less i j many rows r = record {
    within = r.within;
    rows_are = λ q h. let h2 : q < min many (length rows) = rw length-take at h in get_or-take many rows q [] (omega arith) ∙ r.rows_are q (omega arith);
  }

  -- the generations of entries
  moves_entries : (Q : ℕ → Type 0) → ((m : ℕ) → (m ≤ f.generation) × (f.generation ≡ worn_generation → m < f.generation) → Q m) → EntriesIn g x s.general s.parity z Q → EntriesIn g y t.general t.parity z Q
  moves_entries Q new h = record {
    in_general_lem = λ d a e m. then_of (e) z (s.general d e ⊎ HeadJoins g x z f s e) Q (k.heads d a e m) (λ q. head d a e q);
    in_parity_lem = λ d a e m. then_of e.head z (Was g d e (s.parity d) ⊎ EntryJoins g x z f s t.general d e) Q (k.entries d a e m) (λ q. entry d a e q);
  }
    where
      head : (d : ℕ) → Here g y d → (e : Header) → s.general d e ⊎ HeadJoins g x z f s e → zone_gen e (λ w m. w ≡ z → Q m)
      head d a e (inl m) = h.in_general_lem d (k.here d a) e m
      head d a e (inr j) = map_of e z (λ m. (m ≤ f.generation) × (f.generation ≡ worn_generation → m < f.generation)) Q new j.current

      entry : (d : ℕ) → Here g y d → (e : Entry) → Was g d e (s.parity d) ⊎ EntryJoins g x z f s t.general d e → zone_gen e.head (λ w m. w ≡ z → Q m)
      entry d a e (inl o) = rw o.heads (h.in_parity_lem d (k.here d a) o.of o.is_set)
      entry d a e (inr j) = map_of e.head z (λ m. (m ≤ f.generation) × (f.generation ≡ worn_generation → m < f.generation)) Q new j.current

  -- A LIVE ZONE STAYS LIVE
  pub live_moves : (held held' : ℕ → ZoneView) → LiveZone g x z f s held
      → SurvivesLossIn g y z f.generation f.committed (λ d. (held' d).durable) t.parity_lasts
      → ((d : ℕ) → Here g y d → t.counts d (λ n. n ≡ f.generation)) → ((d : ℕ) → Here g y d → t.counts d (λ n. f.generation < n) → ⊥)
      → ((d : ℕ) → Here g y d → Prefix (held' d).sectors (column g.drives g.unit z f.laid d))
      → LiveZone g y z f t held'
  live_moves held held' h strong' counts' sure places' = record {
    sizes = h.sizes;
    fits = h.fits;
    generation_top = h.generation_top;
    committed_most = h.committed_most;
    front = h.front;
    capped = cap h.capped;
    places = places';
    tells = λ d a e m i j q. up sure (i * stripe_sectors g + j) (told d a e i j q (partial_of e.head z i j f.generation q (k.entries d a e m)));
    seals = λ d a c m. sealed d a c (k.heads d a (seal z c f.generation) m refl);
    alone = λ d e a b c m p n w j q r. up sure j (lone d e a b c m p w j q r (k.heads d a (seal z c f.generation) m refl) (partial_of p.head z zero j f.generation q (k.entries e b p n)));
    strong = strong';
    counts = counts';
    no_reset = none h.no_reset;
    entries = moves_entries (λ n. n ≤ f.generation) (λ m q. q.0) h.entries;
    worn_empty = λ q. let (a, b) = h.worn_empty q in (a, moves_entries (λ n. n < f.generation) (λ m r. r.1 q) b);
  }
    where
      cap : (length f.content ≡ length f.laid) ⊎ CappedIn g x s z f.generation (length f.content) → (length f.content ≡ length f.laid) ⊎ CappedIn g y t z f.generation (length f.content)
      cap (inl e) = inl e
      cap (inr c) = inr (moves_capped sure (length f.content) c)

      told : (d : ℕ) → Here g y d → (e : Entry) (i j : ℕ) → e.head ≡ partial_parity z i j f.generation → Was g d e (s.parity d) ⊎ EntryJoins g x z f s t.general d e
          → TrueRows g f.laid i j e.rows ⊎ CappedBelowIn g x s z f.generation (i * stripe_sectors g + j)
      told d a e i j q (inl o) = fewer (h.tells d (k.here d a) o.of o.is_set i j (sym o.heads ∙ q))
        where
          fewer : TrueRows g f.laid i j o.of.rows ⊎ CappedBelowIn g x s z f.generation (i * stripe_sectors g + j) → TrueRows g f.laid i j e.rows ⊎ CappedBelowIn g x s z f.generation (i * stripe_sectors g + j)
          fewer (inl r) = inl (rw o.rows_are (tells_less i j o.many o.of.rows r))
          fewer (inr c) = inr c
      told d a e i j q (inr n) = n.telling i j q

      sealed : (d : ℕ) → Here g y d → (c : ℕ) → s.general d (seal z c f.generation) ⊎ HeadJoins g x z f s (seal z c f.generation) → (f.committed ≤ c) × (c ≤ length f.laid)
      sealed d a c (inl m) = h.seals d (k.here d a) c m
      sealed d a c (inr n) = let q = n.sealing c refl in (q.0, q.1)

      lone : (d e : ℕ) → Here g y d → Here g y e → (c : ℕ) → t.general d (seal z c f.generation) → (p : Entry) → Whole g e true p → (j : ℕ) → p.head ≡ partial_parity z zero j f.generation → j ≤ g.unit
          → s.general d (seal z c f.generation) ⊎ HeadJoins g x z f s (seal z c f.generation) → Was g e p (s.parity e) ⊎ EntryJoins g x z f s t.general e p → (j ≤ c) ⊎ CappedBelowIn g x s z f.generation j
      lone d e a b c m p w j q r (inl n) (inl o) = h.alone d e (k.here d a) (k.here e b) c n o.of o.is_set (o.whole w) j (sym o.heads ∙ q) r
      lone d e a b c m p w j q r (inr n) (inl o) = (n.sealing c refl).2 e (k.here e b) o.of o.is_set (o.whole w) j (sym o.heads ∙ q) r
      lone d e a b c m p w j q r (inl n) (inr o) = o.alone w j q r d (k.here d a) c m
      lone d e a b c m p w j q r (inr n) (inr o) = o.alone w j q r d (k.here d a) c m

      none : (f.resetting ≡ true) ⊎ ((d : ℕ) → Here g x d → s.general d (zone_reset z f.generation) → ⊥) → (f.resetting ≡ true) ⊎ ((d : ℕ) → Here g y d → t.general d (zone_reset z f.generation) → ⊥)
      none (inl q) = inl q
      none (inr q) = flag f.resetting refl
        where
          flag : (b : Bool) → f.resetting ≡ b → (f.resetting ≡ true) ⊎ ((d : ℕ) → Here g y d → t.general d (zone_reset z f.generation) → ⊥)
          flag true e = inl e
          flag false e = inr (λ d a m. go d a (k.heads d a (zone_reset z f.generation) m refl))
            where
              go : (d : ℕ) → Here g y d → s.general d (zone_reset z f.generation) ⊎ HeadJoins g x z f s (zone_reset z f.generation) → ⊥
              go d a (inl n) = q d (k.here d a) n
              go d a (inr n) = let r : true ≡ false = sym (n.clearing refl) ∙ e in let o : ◌≡◌ {A = ℕ} 0 1 = cc in omega arith

  -- A DYING ZONE STAYS DYING (past, resets: a drive whose counters have passed, or whose reset lasts, is such still)
  pub dying_moves : (held held' : ℕ → ZoneView) → DyingZone g x z f s held
      → ((d : ℕ) → Here g y d → t.counts d (λ n. (f.generation ≤ n) × (n ≤ worn_generation)))
      → ((d : ℕ) → Here g y d → t.counts d (λ n. f.generation < n → (e : ℕ) → Here g y e → (held' e).sectors ≡ []))
      → ((d : ℕ) → Here g y d → s.counts d (λ n. f.generation < n) → t.counts d (λ n. f.generation < n))
      → ((d : ℕ) → Here g y d → s.general_lasts d (zone_reset z f.generation) → LoggedIn t z f.generation d)
      → ((d : ℕ) → Here g y d → (held d).sectors ≡ [] → (held' d).sectors ≡ [])
      → ((d : ℕ) → Here g y d → (e : Entry) → t.parity d e → zone_gen e.head (λ w m. w ≡ z → Was g d e (s.parity d)))
      → DyingZone g y z f t held'
  dying_moves held held' h counts' raised' past resets gone old = record {
    idle = h.idle;
    generation_top = h.generation_top;
    entries = moves_entries (λ n. n ≤ f.generation) (λ m q. q.0) h.entries;
    counts = counts';
    raised = raised';
    why = reason h.why;
  }
    where
      still : (d : ℕ) → Here g y d → LoggedIn s z f.generation d → LoggedIn t z f.generation d
      still d a (reset_lasts m) = resets d a m
      still d a (counts_past c) = counts_past (past d a c)

      spent : (j : ℕ) → (g.unit < j) ⊎ SpentIn g x s z f.generation j → (g.unit < j) ⊎ SpentIn g y t z f.generation j
      spent j (inl q) = inl q
      spent j (inr (c, h, q)) = inr (c, (λ d a. on d a (h d (k.here d a))), q)
        where
          lower : (d b : ℕ) → b ≤ c → SealSpent t z f.generation b d → SealSpent t z f.generation c d
          lower d b r (inl (e, o, n)) = inl (e, omega (arith, r, o), n)
          lower d b r (inr n) = inr n

          on : (d : ℕ) → Here g y d → SealSpent s z f.generation c d → SealSpent t z f.generation c d
          on d a (inl (b, r, m)) = lower d b r (k.caps d a b m)
          on d a (inr n) = inr (past d a n)

      reason : WhyIn g x z f.generation s held → WhyIn g y z f.generation t held'
      reason (logged q) = logged (λ d a r. still d a (q d (k.here d a) r))
      reason (bare q n) = bare (λ d a. gone d a (q d (k.here d a))) (λ d a p m w j r. let o = partial_of p.head z zero j f.generation r (old d a p m) in spent j (n d (k.here d a) o.of o.is_set (o.whole w) j (sym o.heads ∙ r)))
      reason (passed q) = passed (λ d a. past d a (q d (k.here d a)))

-- of logs as they are: where every count is the generation, none has passed it
pub said_sure : (g : Geometry) (v : Device) (γ : Ghost) (z d n : ℕ) → (said g v γ z).counts d (λ m. m ≡ n) → (said g v γ z).counts d (λ m. n < m) → ⊥
said_sure g v γ z d n p q = let a = p (v d general_zone).durable (le_refl (v d general_zone).durable) in let b = q (v d general_zone).durable (le_refl (v d general_zone).durable) in omega (arith, a, b)

-- ---- the flag goes up
abbrev pub with_flag : ZoneFacts → Bool → ZoneFacts
with_flag f b = record { laid = f.laid; generation = f.generation; content = f.content; committed = f.committed; resetting = b }

pub live_flag : (g : Geometry) (x z : ℕ) (f : ZoneFacts) (s : Said) (held : ℕ → ZoneView) (b : Bool) → (f.resetting ≡ true → b ≡ true) → LiveZone g x z f s held → LiveZone g x z (with_flag f b) s held
live_flag g x z f s held b up h = record {
  sizes = h.sizes;
  fits = h.fits;
  generation_top = h.generation_top;
  committed_most = h.committed_most;
  front = h.front;
  capped = h.capped;
  places = h.places;
  tells = h.tells;
  seals = h.seals;
  alone = h.alone;
  strong = h.strong;
  counts = h.counts;
  entries = h.entries;
  worn_empty = h.worn_empty;
  no_reset = go h.no_reset;
}
  where
    go : (f.resetting ≡ true) ⊎ ((d : ℕ) → Here g x d → s.general d (zone_reset z f.generation) → ⊥) → (b ≡ true) ⊎ ((d : ℕ) → Here g x d → s.general d (zone_reset z f.generation) → ⊥)
    go (inl e) = inl (up e)
    go (inr n) = inr n

-- ---- another mark: what is committed may be more, or less
abbrev pub with_mark : ZoneFacts → ℕ → ZoneFacts
with_mark f m = record { laid = f.laid; generation = f.generation; content = f.content; committed = m; resetting = f.resetting }

pub live_mark : (g : Geometry) (x z : ℕ) (f : ZoneFacts) (s : Said) (held : ℕ → ZoneView) (m : ℕ) → LiveZone g x z f s held → m ≤ length f.content
    → ((d : ℕ) → Here g x d → (c : ℕ) → s.general d (seal z c f.generation) → m ≤ c) → SurvivesLossIn g x z f.generation m (λ d. (held d).durable) s.parity_lasts → LiveZone g x z (with_mark f m) s held
live_mark g x z f s held m h most above strong = record {
  sizes = h.sizes;
  fits = h.fits;
  generation_top = h.generation_top;
  committed_most = most;
  front = h.front;
  capped = h.capped;
  places = h.places;
  tells = h.tells;
  seals = λ d a c i. (above d a c i, (h.seals d a c i).1);
  alone = h.alone;
  strong = strong;
  counts = h.counts;
  no_reset = h.no_reset;
  entries = h.entries;
  worn_empty = h.worn_empty;
}
