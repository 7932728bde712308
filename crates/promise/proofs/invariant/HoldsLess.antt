-- A device that holds less, or of which more lasts, or that has lost a drive (Less): what the invariant says of a zone stays true. Stopped
-- calls, cuts, losses and flushes are such.
use Rattle.logs.specs.laws.LogLaws.{left_whole}
use Rattle.tables.specs.laws.Lists.{prefix_of_nil, Prefix, prefix_trans}
use Rattle.std.specs.Prelude.{◌≡◌, ◌⊎◌, true, ℕ, ◌+◌, ◌-◌, ◌*◌, ◌≤◌, ◌<◌, min, length, take}
use Rattle.std.proofs.Common.{sym, ◌∙◌, inl, inr, le_refl, arith, length-take, get_or-take}
use mathlib.Core.List.{List, [], Memᴰ}
use Rattle.tables.specs.meaning.Device.{Device}
use Rattle.tables.specs.declared.Geometry.{Geometry}
use Rattle.tables.specs.meaning.Geometry.{stripe_sectors, data_zone}
use Rattle.logs.specs.meaning.Entry.{general_zone, parity_zone, worn_generation, Header, seal, zone_reset, Entry}
use Rattle.logs.specs.laws.Walk.{Whole, Left, cut_entries}
use Rattle.volume.specs.meaning.Content.{parity_drive_at}
use Rattle.promise.specs.meaning.Ledger.{Ledger}
use Rattle.promise.proofs.invariant.Invariant.{Ghost, Here, LogsOk, Capped, TrueRows, Live, Dying, reset_lasts, said, facts_of, Counts, survives_still}
use Rattle.promise.proofs.invariant.SaidMoves.{Moves, HeadJoins, EntryJoins, Was, always_of, live_moves, dying_moves, said_sure}
use Rattle.logs.specs.meaning.Heads.{generation_in}

-- the ghosts with other logs
abbrev pub with_logs : Ghost → (ℕ → List Header) → (ℕ → List Entry) → Ghost
with_logs γ G P = record { laid = γ.laid; generation = γ.generation; general = G; parity = P; array = γ.array; closed = γ.closed }

-- x lost, device v, ghosts γ; then y lost, device w, logs G and P
pub record Less (g : Geometry) (x y : ℕ) (v w : Device) (γ : Ghost) (G : ℕ → List Header) (P : ℕ → List Entry) : Type 0 where
  pub here : (d : ℕ) → Here g y d → Here g x d
  pub general_sub : (d : ℕ) → Here g y d → (h : Header) → Memᴰ h (G d) → Memᴰ h (γ.general d)
  pub general_lasts_lem : (d : ℕ) → Here g y d → (h : Header) → Memᴰ h (take (v d general_zone).durable (γ.general d)) → Memᴰ h (take (w d general_zone).durable (G d))
  pub general_cuts : (d : ℕ) → Here g y d → (j : ℕ) → (w d general_zone).durable ≤ j → (i : ℕ) × ((v d general_zone).durable ≤ i) × (take j (G d) ≡ take i (γ.general d))
  pub parity_sub : (d : ℕ) → Here g y d → (e : Entry) → Memᴰ e (P d) → Left g d true e (γ.parity d)
  pub parity_lasts_lem : (d : ℕ) → Here g y d → (e : Entry) → Whole g d true e → Memᴰ e (cut_entries g d true (γ.parity d) (v d parity_zone).durable) → Memᴰ e (cut_entries g d true (P d) (w d parity_zone).durable)
  pub data_sub : (d z : ℕ) → z < g.zones → Here g y d → Prefix (w d (data_zone z)).sectors (v d (data_zone z)).sectors
  pub data_lasts : (d z : ℕ) → z < g.zones → Here g y d → (v d (data_zone z)).durable ≤ (w d (data_zone z)).durable

-- fewer rows of an entry tell the same
pub tells_front : (g : Geometry) (E : List (List ℕ)) (s f many : ℕ) (rows : List (List ℕ)) → TrueRows g E s f rows → TrueRows g E s f (take many rows)
tells_front g E s f many rows t = record {
  within = t.within;
  rows_are = λ r h. let h2 : r < min many (length rows) = rw length-take at h in get_or-take many rows r [] (omega arith) ∙ t.rows_are r (omega arith);
}

module _ (g : Geometry) (x y : ℕ) (v w : Device) (γ : Ghost) (G : ℕ → List Header) (P : ℕ → List Entry) (lg : LogsOk g x v γ) (k : Less g x y v w γ G P) where
  pub less_capped : (z c : ℕ) → Capped g x v γ z c → Capped g y w (with_logs γ G P) z c
  less_capped z c h d a = let (b, q, m) = h d (k.here d a) in (b, q, k.general_lasts_lem d a (seal z b (γ.generation z)) m)

  was : (d : ℕ) → Here g y d → (e : Entry) → Memᴰ e (P d) → Was g d e (λ (p : Entry). Memᴰ p (γ.parity d))
  was d a e m = let o = k.parity_sub d a e m in record { of = o.of; is_set = o.is_set; heads = o.heads; many = o.many; rows_are = o.rows_are; whole = left_whole g d true (γ.parity d) e o (lg.parity_lawful d (k.here d a)) }

  counts_of : (z : ℕ) (Q : ℕ → Type 0) (d : ℕ) → Here g y d → ((j : ℕ) → (v d general_zone).durable ≤ j → Q (generation_in z (take j (γ.general d)))) → (j : ℕ) → (w d general_zone).durable ≤ j → Q (generation_in z (take j (G d)))
  counts_of z Q d a h j q =
      let (i, m, e) = k.general_cuts d a j q in
      rw e (h i m)

  less_moves : (l : Ledger) (z : ℕ) → Moves g x y z (facts_of γ l z) (said g v γ z) (said g w (with_logs γ G P) z)
  less_moves l z = record {
    here = k.here;
    heads = λ d a h m. always_of h z (Memᴰ h (γ.general d) ⊎ HeadJoins g x z (facts_of γ l z) (said g v γ z) h) (inl (k.general_sub d a h m));
    caps = λ d a c m. inl (c, le_refl c, k.general_lasts_lem d a (seal z c (γ.generation z)) m);
    entries = λ d a e m. always_of e.head z (Was g d e (λ (p : Entry). Memᴰ p (γ.parity d)) ⊎ EntryJoins g x z (facts_of γ l z) (said g v γ z) (λ c h. Memᴰ h (G c)) d e) (inl (was d a e m));
  }

  pub less_live : (l : Ledger) (z : ℕ) → z < g.zones → Live g x v γ l z → Live g y w (with_logs γ G P) l z
  less_live l z hz h =
      let counts' : Counts g y w (with_logs γ G P) z (λ n. n ≡ γ.generation z) = λ d a. counts_of z (λ n. n ≡ γ.generation z) d a (h.counts d (k.here d a)) in
      live_moves g x y z (facts_of γ l z) (said g v γ z) (said g w (with_logs γ G P) z) (less_moves l z) (λ d. v d (data_zone z)) (λ d. w d (data_zone z)) h
      (survives_still g x y z (γ.generation z) (l.committed z) k.here (λ d a. k.data_lasts d z hz a) k.parity_lasts_lem h.strong)
      counts' (λ d a. said_sure g w (with_logs γ G P) z d (γ.generation z) (counts' d a)) (λ d a. prefix_trans (k.data_sub d z hz a) (h.places d (k.here d a)))

  pub less_dying : (l : Ledger) (z : ℕ) → z < g.zones → Dying g x v γ l z → Dying g y w (with_logs γ G P) l z
  less_dying l z hz h = dying_moves g x y z (facts_of γ l z) (said g v γ z) (said g w (with_logs γ G P) z) (less_moves l z) (λ d. v d (data_zone z)) (λ d. w d (data_zone z)) h
      (λ d a. counts_of z (λ n. (γ.generation z ≤ n) × (n ≤ worn_generation)) d a (h.counts d (k.here d a)))
      (λ d a. counts_of z (λ n. γ.generation z < n → (e : ℕ) → Here g y e → (w e (data_zone z)).sectors ≡ []) d a (λ j q r e b. still e b (h.raised d (k.here d a) j q r e (k.here e b))))
      (λ d a. counts_of z (λ n. γ.generation z < n) d a) (λ d a m. reset_lasts (k.general_lasts_lem d a (zone_reset z (γ.generation z)) m)) still
      (λ d a e m. always_of e.head z (Was g d e (λ (p : Entry). Memᴰ p (γ.parity d))) (was d a e m))
    where
      still : (d : ℕ) → Here g y d → (v d (data_zone z)).sectors ≡ [] → (w d (data_zone z)).sectors ≡ []
      still d a e = prefix_of_nil (w d (data_zone z)).sectors (v d (data_zone z)).sectors (k.data_sub d z hz a) e

  pub less_zone : (l : Ledger) (z : ℕ) → z < g.zones → Live g x v γ l z ⊎ Dying g x v γ l z → Live g y w (with_logs γ G P) l z ⊎ Dying g y w (with_logs γ G P) l z
  less_zone l z hz (inl h) = inl (less_live l z hz h)
  less_zone l z hz (inr h) = inr (less_dying l z hz h)
