-- THE LAW of an emptied parity log outside a mount: if Rest holds by the old log of drive d, with all contents committed, it holds by its copy, all of
-- which lasts. All contents are committed because an emptying begins with a flush (FlushRests): the ledger with which Rest holds is then
-- after_flush of the host's. With a lower mark inside a stripe it would be false: what is committed needs an entry that ends just at the mark,
-- and the copy keeps the one at the pointer alone.
use Rattle.std.specs.Prelude.{◌≡◌, refl, ◌≢◌, ◌⊎◌, true, ℕ, ◌^◌, ◌<◌, length}
use Rattle.std.proofs.Common.{inl, inr, le_refl, arith, eq-eqb, ne_eqb}
use Rattle.std.proofs.Math.Decide.{ℕ_discrete}
use mathlib.Core.List.{List, Memᴰ}
use Rattle.tables.specs.meaning.Device.{Device}
use Rattle.tables.specs.declared.Geometry.{Geometry}
use Rattle.tables.specs.meaning.Geometry.{Valid, data_zone}
use Rattle.logs.specs.meaning.Entry.{parity_zone, Entry}
use Rattle.logs.specs.laws.Heads.{zone_gen}
use Rattle.logs.specs.laws.Walk.{Whole}
use Rattle.volume.specs.meaning.Content.{inside_stripe, parity_drive_at, entry_header}
use Rattle.volume.specs.meaning.State.{StateView}
use Rattle.volume.specs.declared.Condition.{Condition}
use Rattle.volume.specs.declared.Condition.TheVariants.{Empty, Open, Sealed, Worn}
use Rattle.promise.specs.meaning.Ledger.{Ledger}
use Rattle.promise.proofs.invariant.Invariant.{Ghost, Here, LogsOk, Live, Plain, Shape, RestZone, Rest, Said, said, facts_of, SurvivesLossIn, closing_entry}
use Rattle.promise.proofs.invariant.SaidMoves.{Moves, HeadJoins, EntryJoins, Was, was_self, always_of, live_moves, moves_capped, said_sure}
use Rattle.promise.proofs.emptying.ParityLogs.{Among, ParityCopyOf, ParityEmptiedTo, parity_ghost, entry_ok, by_drive, general_on, data_on, all_lasts, parity_emptied_logs}

-- the copy holds the entry at each pointer
abbrev pub EntryIn : Geometry → ℕ → ℕ → ℕ → ℕ → (Entry → Type 0) → Type 0
EntryIn g d z generation n In = (e : Entry) × In e × Whole g d true e × (e.head ≡ entry_header g z generation n)

pub record AtPointers (g : Geometry) (d : ℕ) (γ : Ghost) (l : Ledger) (copy : List Entry) : Type 0 where
  pub at_pointer : (z : ℕ) → z < g.zones → inside_stripe g (length (l.content z)) ≡ true → parity_drive_at g z (length (l.content z)) ≡ d
      → EntryIn g d z (γ.generation z) (length (l.content z)) (λ e. Memᴰ e copy)

-- nothing was made
abbrev pub NoneMade : Entry → Type 0
NoneMade e = ⊥

module _ (g : Geometry) (ok : Valid g) (x d : ℕ) (hd : Here g x d) (v w : Device) (state : StateView) (l : Ledger) (γ : Ghost) (r : Rest g x v state l γ) (marks : (z : ℕ) → z < g.zones → l.committed z ≡ length (l.content z))
    (copy : List Entry) (n : ℕ) (n1 : 0 < n) (n_lt : n < 256 ^ 8) (pc : ParityCopyOf g d γ NoneMade copy n) (ap : AtPointers g d γ l copy) (em : ParityEmptiedTo g x d v w copy) where
  abbrev δ : Ghost
  δ = parity_ghost γ d copy n

  lg : LogsOk g x v γ
  lg = r.logs

  -- ---- a zone
  module _ (z : ℕ) (hz : z < g.zones) where
    abbrev s : Said
    s = said g v γ z

    abbrev t : Said
    t = said g w δ z

    abbrev Old : ℕ → Entry → Type 0
    Old e p = Was g e p (λ (o : Entry). Memᴰ o (γ.parity e)) ⊎ EntryJoins g x z (facts_of γ l z) s t.general e p

    on_general : (e : ℕ) → Here g x e → (Q : ℕ → Type 0) → s.counts e Q → t.counts e Q
    on_general e a Q h = rw (general_on g ok x d hd v w γ lg NoneMade copy n n1 n_lt pc em e a) h

    on_data : (e : ℕ) → Here g x e → w e (data_zone z) ≡ v e (data_zone z)
    on_data e a = data_on g ok x d hd v w γ lg NoneMade copy n n1 n_lt pc em e z a

    entries_on_lem : (e : ℕ) → Here g x e → (p : Entry) → Memᴰ p (δ.parity e) → zone_gen p.head (λ y m. y ≡ z → Old e p)
    entries_on_lem e a = by_drive g ok x d hd v w γ lg NoneMade copy n n1 n_lt pc em e (λ es u. (p : Entry) → Memᴰ p es → zone_gen p.head (λ y m. y ≡ z → Old e p)) a
        (λ q p m. rw q (old p (pc.from p m))) (λ q p m. always_of p.head z (Old e p) (inl (was_self g e p (λ (o : Entry). Memᴰ o (γ.parity e)) m)))
      where
        old : (p : Entry) → Among γ d NoneMade n p → zone_gen p.head (λ y m. y ≡ z → Old d p)
        old p (inl (m, c)) = always_of p.head z (Old d p) (inl (was_self g d p (λ (o : Entry). Memᴰ o (γ.parity d)) m))
        old p (inr (inl q)) = rw q tt
        old p (inr (inr m)) = absurd m

    moves : Moves g x x z (facts_of γ l z) s t
    moves = record {
      here = λ e a. a;
      heads = λ e a h m. always_of h z (Memᴰ h (γ.general e) ⊎ HeadJoins g x z (facts_of γ l z) s h) (inl m);
      caps = λ e a c m. inl (c, le_refl c, rw (general_on g ok x d hd v w γ lg NoneMade copy n n1 n_lt pc em e a) m);
      entries = entries_on_lem;
    }

    -- what is committed, the whole content, is durable still: the entry at the pointer was copied
    strong_on : Live g x v γ l z → SurvivesLossIn g x z (γ.generation z) (l.committed z) (λ e. (w e (data_zone z)).durable) t.parity_lasts
    strong_on h = record { places = λ e a. rw (on_data e a) (h.strong.places e a); entry = λ i a. go i a (ℕ_discrete (parity_drive_at g z (l.committed z)) d) }
      where
        go : inside_stripe g (l.committed z) ≡ true → (a : Here g x (parity_drive_at g z (l.committed z))) → Dec (parity_drive_at g z (l.committed z) ≡ d)
            → EntryIn g (parity_drive_at g z (l.committed z)) z (γ.generation z) (l.committed z) (t.parity_lasts (parity_drive_at g z (l.committed z)))
        go i a (yes q) =
            let (e, m, o, b) = ap.at_pointer z hz (rw (← marks z hz) i) (rw (← marks z hz) q) in
            (e, rw (eq-eqb (parity_drive_at g z (l.committed z)) d q, q, em.log, all_lasts g ok x d hd v w γ lg NoneMade copy n n1 n_lt pc em) m, o, rw (marks z hz) b)
        go i a (no q) =
            let (e, m, o, b) = h.strong.entry i a in
            (e, rw (ne_eqb (parity_drive_at g z (l.committed z)) d q, em.others (parity_drive_at g z (l.committed z)) parity_zone a (inl q) (λ u. omega (arith, u))) m, o, b)

    pub parity_emptied_live : Live g x v γ l z → Live g x w δ l z
    parity_emptied_live h =
        let c : (e : ℕ) → Here g x e → t.counts e (λ m. m ≡ γ.generation z) = λ e a. on_general e a (λ m. m ≡ γ.generation z) (h.counts e a) in
        live_moves g x x z (facts_of γ l z) s t moves (λ e. v e (data_zone z)) (λ e. w e (data_zone z)) h (strong_on h) c (λ e a. said_sure g w δ z e (γ.generation z) (c e a)) (λ e a. rw (on_data e a) (h.places e a))

    parity_emptied_zone : RestZone g x v state l γ z → RestZone g x w state l δ z
    parity_emptied_zone q = record {
      live = parity_emptied_live q.live;
      generation_is = q.generation_is;
      pointer_is = q.pointer_is;
      strong_now = record { places = λ e a. rw (on_data e a) (q.strong_now.places e a); entry = λ i a. go i a (ℕ_discrete (parity_drive_at g z (length (l.content z))) d) };
      shape = shaped (state.condition z) q.shape;
      sectors = q.sectors;
      no_flag = q.no_flag;
    }
      where
        go : inside_stripe g (length (l.content z)) ≡ true → (a : Here g x (parity_drive_at g z (length (l.content z)))) → Dec (parity_drive_at g z (length (l.content z)) ≡ d)
            → EntryIn g (parity_drive_at g z (length (l.content z))) z (γ.generation z) (length (l.content z)) (λ e. Memᴰ e (δ.parity (parity_drive_at g z (length (l.content z)))))
        go i a (yes u) = let (e, m, o, b) = ap.at_pointer z hz i u in (e, rw (eq-eqb (parity_drive_at g z (length (l.content z))) d u) m, o, b)
        go i a (no u) = let (e, m, o, b) = q.strong_now.entry i a in (e, rw (ne_eqb (parity_drive_at g z (length (l.content z))) d u) m, o, b)

        plain : Plain g x v γ l z → Plain g x w δ l z
        plain p = record { all_content = p.all_content; just = λ e a. rw (on_data e a) (p.just e a); no_seal = p.no_seal; unworn = p.unworn }

        shaped : (c : Condition) → Shape g x v γ l z c → Shape g x w δ l z c
        shaped Empty p = plain p
        shaped (Open i) p = plain p
        shaped (Sealed i) p = (moves_capped g x x z (facts_of γ l z) s t moves (λ e a. said_sure g w δ z e (γ.generation z) ((parity_emptied_live q.live).counts e a)) (length (l.content z)) p.0, p.1, p.2)
        shaped (Worn i) p = p

  -- THE LAW
  pub parity_emptied_rest : Rest g x w state l δ
  parity_emptied_rest = record {
    logs = parity_emptied_logs g ok x d hd v w γ lg NoneMade copy n n1 n_lt pc em;
    zones = λ z hz. parity_emptied_zone z hz (r.zones z hz);
    whole = λ e a. by_drive g ok x d hd v w γ lg NoneMade copy n n1 n_lt pc em e (λ es u. (p : Entry) → Memᴰ p es → Whole g e true p) a (λ t p m. (entry_ok g ok x d hd v w γ lg NoneMade copy n n1 n_lt pc p m).1) (λ t. r.whole e a);
    lost_is = r.lost_is;
  }
