-- The zones that stay, across a step that adds entries to the general logs: they stay Live if what is added speaks of other zones or is
-- a seal at the pointer shown.
use Rattle.logs.specs.laws.HeadLaws.{other_not_seal, other_not_reset}
use Rattle.std.specs.Prelude.{◌≡◌, refl, ◌≢◌, ◌⊎◌, ℕ, zero, ◌+◌, ◌-◌, ◌≤◌, ◌<◌, length, get_or, take}
use Rattle.std.proofs.Common.{ap, ◌∙◌, inl, inr, arith, length-take, length-append, take_all}
use mathlib.Core.List.{List, Memᴰ}
use Rattle.tables.specs.meaning.Device.{Device, Store}
use Rattle.tables.specs.laws.Lists.{prefix_trans, prefix_append, mem_take, mem_left, length_map}
use Rattle.tables.specs.declared.Geometry.{Geometry}
use Rattle.logs.specs.meaning.Entry.{general_zone, Header, counters, seal, zone_reset, Entry, encode}
use Rattle.logs.specs.laws.Heads.{zone_gen}
use Rattle.promise.specs.meaning.Ledger.{Ledger}
use Rattle.volume.specs.meaning.Rules.{Shown}
use Rattle.volume.specs.declared.Condition.TheVariants.{Open}
use Rattle.promise.proofs.invariant.Invariant.{Ghost, Here, LogsOk, Inv, Live, Dying, Capped, CappedBelow}
use Rattle.promise.proofs.invariant.HoldsLess.{with_logs}
use Rattle.promise.proofs.mount.MountRuns.{Between, Done, joined_by}
use Rattle.promise.proofs.invariant.HoldsMore.{NewHead, other_head}
use Rattle.promise.proofs.mount.MountGeneralLogs.{Logs, LogsFit, grown_general, grown_logs, grown_live, grown_new, still_data, done_settled}
use Rattle.promise.proofs.mount.MountPlan.{Start, Base, Lives, Same, Staying, Stays, WornZone, Fate, Gone, stays, worn_out, gone}

-- what may join a general log while a zone stays
pub record HeadFor (g : Geometry) (x : ℕ) (w : Device) (γ : Ghost) (l : Ledger) (k : Shown) (u : Device) (δ : Ghost) (z : ℕ) (h : Header) : Type 0 where
  pub new : NewHead g x u δ l z h
  pub not_reset : h ≢ zone_reset z (γ.generation z)
  pub sealing : (c : ℕ) → h ≡ seal z c (γ.generation z) → ((k.zone z).pointer ≤ c) × ((k.zone z).condition ≡ Open (k.zone z).pointer → ⊥)

-- an entry that is not of zone z
pub other_for : (g : Geometry) (x : ℕ) (w : Device) (γ : Ghost) (l : Ledger) (k : Shown) (u : Device) (δ : Ghost) (z : ℕ) (h : Header) → zone_gen h (λ y n. y ≢ z) → HeadFor g x w γ l k u δ z h
other_for g x w γ l k u δ z h o = record {
  new = other_head g x u δ l z h o;
  not_reset = other_not_reset z (γ.generation z) h o;
  sealing = λ c e. absurd (other_not_seal z (γ.generation z) c h o e);
}

module _ (g : Geometry) (x : ℕ) (w : Device) (γ : Ghost) (l : Ledger) (k : Shown) (u : Device) (G : ℕ → List Header) (P : ℕ → List Entry) (n : ℕ) (bs : Base g x w γ u G P n)
    (xs : List Store) (hs : ℕ → List Header) (lo : Logs g x xs hs) (w' : Device) (b : Between g x u xs w') where
  pub grown_lives : Lives g x w γ l k u G P
      → ((z : ℕ) → z < g.zones → Stays g x w γ l k z → (d : ℕ) → Here g x d → (h : Header) → Memᴰ h (hs d) → HeadFor g x w γ l k u (with_logs γ G P) z h)
      → ((z : ℕ) → z < g.zones → WornZone g x w γ l k z → (d : ℕ) → Here g x d → (h : Header) → Memᴰ h (hs d) → NewHead g x u (with_logs γ G P) l z h)
      → ((z : ℕ) → z < g.zones → Stays g x w γ l k z ⊎ WornZone g x w γ l k z → (d : ℕ) → Here g x d → (cs : List ℕ) → Memᴰ (counters cs) (hs d) → get_or cs z zero ≡ γ.generation z)
      → Lives g x w γ l k w' (grown_general (with_logs γ G P) u w' hs) P
  grown_lives lv f fw c = record {
    staying = λ z hz t. let q = lv.staying z hz t in record {
      live = grown_live g x u (with_logs γ G P) xs hs bs.logs bs.settled lo w' b l z q.live (λ d a h m. (f z hz t d a h m).new) (c z hz (inl t));
      no_seal = λ e d a s m. either z q t hz e d a s (new_of d a (seal z s (γ.generation z)) m);
      no_reset = λ d a m. resets_no z q t hz d a (new_of d a (zone_reset z (γ.generation z)) m);
      seals_past = λ d a s m. past z q t hz d a s (new_of d a (seal z s (γ.generation z)) m);
      ends_in = q.ends_in;
    };
    worn_live = λ z hz t. grown_live g x u (with_logs γ G P) xs hs bs.logs bs.settled lo w' b l z (lv.worn_live z hz t) (fw z hz t) (c z hz (inr t));
  }
    where
      new_of : (d : ℕ) → Here g x d → (h : Header) → Memᴰ h (grown_general (with_logs γ G P) u w' hs d) → Memᴰ h (G d) ⊎ Memᴰ h (hs d)
      new_of d a h m = grown_new g x u (with_logs γ G P) xs hs bs.logs bs.settled lo w' b d a h m

      either : (z : ℕ) → Staying g x w γ l k u G P z → Stays g x w γ l k z → z < g.zones → (k.zone z).condition ≡ Open (k.zone z).pointer → (d : ℕ) → Here g x d → (s : ℕ) → Memᴰ (seal z s (γ.generation z)) (G d) ⊎ Memᴰ (seal z s (γ.generation z)) (hs d) → ⊥
      either z q t hz e d a s (inl m) = q.no_seal e d a s m
      either z q t hz e d a s (inr m) = ((f z hz t d a (seal z s (γ.generation z)) m).sealing s refl).1 e

      resets_no : (z : ℕ) → Staying g x w γ l k u G P z → Stays g x w γ l k z → z < g.zones → (d : ℕ) → Here g x d → Memᴰ (zone_reset z (γ.generation z)) (G d) ⊎ Memᴰ (zone_reset z (γ.generation z)) (hs d) → ⊥
      resets_no z q t hz d a (inl m) = q.no_reset d a m
      resets_no z q t hz d a (inr m) = (f z hz t d a (zone_reset z (γ.generation z)) m).not_reset refl

      past : (z : ℕ) → Staying g x w γ l k u G P z → Stays g x w γ l k z → z < g.zones → (d : ℕ) → Here g x d → (s : ℕ) → Memᴰ (seal z s (γ.generation z)) (G d) ⊎ Memᴰ (seal z s (γ.generation z)) (hs d) → (k.zone z).pointer ≤ s
      past z q t hz d a s (inl m) = q.seals_past d a s m
      past z q t hz d a s (inr m) = ((f z hz t d a (seal z s (γ.generation z)) m).sealing s refl).0

  pub grown_same : Same g x w γ l k u → Same g x w γ l k w'
  grown_same sm = record { data_same = λ z hz t d a. still_data g x u (with_logs γ G P) xs hs bs.logs bs.settled lo w' b d z a ∙ sm.data_same z hz t d a }

  pub grown_base : LogsFit g x u hs γ.array → (m : ℕ) → ((d : ℕ) → Here g x d → length (hs d) ≤ m) → Done g x u xs w' → Base g x w γ w' (grown_general (with_logs γ G P) u w' hs) P (n + m)
  unfolding grown_general
  grown_base ft m h dn = record {
    logs = grown_logs g x u (with_logs γ G P) xs hs bs.logs bs.settled lo w' b ft;
    settled = done_settled g x u xs w' dn;
    grows = λ d a. prefix_trans (bs.grows d a) (prefix_append (G d) (take (joined_by (u d general_zone) (w' d general_zone)) (hs d)));
    used = λ d a. rw (length-append (G d) (take (joined_by (u d general_zone) (w' d general_zone)) (hs d)), length-take) (omega (arith, bs.used d a, h d a));
  }

-- the invariant, from the zones
pub zones_inv : (g : Geometry) (x : ℕ) (w : Device) (γ : Ghost) (l : Ledger) (k : Shown) → Start g x w γ l k → (u : Device) (G : ℕ → List Header) (P : ℕ → List Entry) → LogsOk g x u (with_logs γ G P) → Lives g x w γ l k u G P
    → ((z : ℕ) → z < g.zones → Gone g x w γ l k z → Live g x u (with_logs γ G P) l z ⊎ Dying g x u (with_logs γ G P) l z) → Inv g x u l (with_logs γ G P)
zones_inv g x w γ l k s u G P lg lv f = record { logs = lg; zones = λ z h. go z h (s.fate z h) }
  where
    go : (z : ℕ) → z < g.zones → Fate g x w γ l k z → Live g x u (with_logs γ G P) l z ⊎ Dying g x u (with_logs γ G P) l z
    go z h (stays t) = inl (lv.staying z h t).live
    go z h (worn_out t) = inl (lv.worn_live z h t)
    go z h (gone t) = f z h t

-- a cap seen at the start is still there
pub capped_up : (g : Geometry) (x : ℕ) (w : Device) (γ : Ghost) (u : Device) (G : ℕ → List Header) (P : ℕ → List Entry) (n : ℕ) → Base g x w γ u G P n → (z c : ℕ) → Capped g x w γ z c → Capped g x u (with_logs γ G P) z c
capped_up g x w γ u G P n bs z c h d a =
    let e : (u d general_zone).durable ≡ length (G d) = bs.settled.lasts d general_zone a ∙ ap length (bs.logs.general_is d a) ∙ length_map (encode g d) (G d) in
    let t : take (u d general_zone).durable (G d) ≡ G d = take_all (u d general_zone).durable (G d) (omega (arith, e)) in
    let p = bs.grows d a in
    let (b, q, m) = h d a in
    (b, q, rw (t, ← p.is) (mem_left (γ.general d) p.rest (seal z b (γ.generation z)) (mem_take (w d general_zone).durable (γ.general d) (seal z b (γ.generation z)) m)))

pub below_up : (g : Geometry) (x : ℕ) (w : Device) (γ : Ghost) (u : Device) (G : ℕ → List Header) (P : ℕ → List Entry) (n : ℕ) → Base g x w γ u G P n → (z f : ℕ) → CappedBelow g x w γ z f → CappedBelow g x u (with_logs γ G P) z f
below_up g x w γ u G P n bs z f h = (h.0, capped_up g x w γ u G P n bs z h.0 h.1, h.2)

pub base_count : (g : Geometry) (x : ℕ) (w : Device) (γ : Ghost) (u : Device) (G : ℕ → List Header) (P : ℕ → List Entry) (n m : ℕ) → n ≤ m → Base g x w γ u G P n → Base g x w γ u G P m
base_count g x w γ u G P n m h b = record { logs = b.logs; settled = b.settled; grows = b.grows; used = λ d a. omega (arith, b.used d a) }

-- room in a general log
pub room_for : (g : Geometry) (x : ℕ) (w : Device) (γ : Ghost) (u : Device) (G : ℕ → List Header) (P : ℕ → List Entry) (n m : ℕ) → Base g x w γ u G P n → (d : ℕ) → Here g x d → length (γ.general d) + (g.zones + 2) ≤ g.capacity → n + m ≤ g.zones + 2 → length (u d general_zone).sectors + m ≤ g.capacity
room_for g x w γ u G P n m bs d a r h =
    let e : length (u d general_zone).sectors ≡ length (G d) = ap length (bs.logs.general_is d a) ∙ length_map (encode g d) (G d) in
    omega (arith, bs.used d a)
