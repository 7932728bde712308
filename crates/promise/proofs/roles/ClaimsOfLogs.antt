-- What a log claims: a general log its first closing entry in a walk for general logs and nothing in one for parity logs, a parity log the
-- other way round. So a device whose logs are in order (LogsOk, by roles r) has these roles firmly.
use Rattle.std.specs.Prelude.{◌≡◌, refl, ℕ, zero, ◌≤◌, ◌<◌, length, take}
use Rattle.std.proofs.Common.{sym, ap, ◌∙◌, le_trans, arith, length-take}
use Rattle.std.proofs.Math.Bool.{true, false}
use mathlib.Core.List.{List, [], ◌∷◌, map, Memᴰ}
use Rattle.tables.specs.laws.Lists.{take_map, length_map, mem_take, mem_more}
use Rattle.tables.specs.meaning.Device.{ZoneView, Device}
use Rattle.tables.specs.declared.Geometry.{Geometry}
use Rattle.logs.specs.meaning.Entry.{general_zone, parity_zone, Header, closing, Entry, encode}
use Rattle.logs.specs.meaning.Heads.{first_closing}
use Rattle.logs.specs.laws.Walk.{Reads, WellFormedLog, whole_entries, cut_entries, cut_flat, cut_lawful, cut_extent, cut_left, cut_mono, sectors_of_all, log_extent, walk_lawful}
use Rattle.logs.specs.laws.LogLaws.{whole_entries_mem, mem_whole_entries}
use Rattle.logs.specs.laws.Closing.{Closes, first_closing_is}
use Rattle.volume.specs.meaning.Roles.{zone_claim, strength, Roles, zone_of_role}
use Rattle.volume.specs.laws.Claims.{Claims, none_claims_none, other_claims_none, own_strength, other_strength}
use Rattle.volume.specs.laws.Firm.{Proper, Firm}
use Rattle.promise.proofs.invariant.Invariant.{Ghost, Here, LogsOk, closing_entry}
use Rattle.promise.proofs.look.LookReads.{bare_entry, heads_flat, heads_back, heads_lawful, heads_extent, heads_whole}

-- ---- a general log
pub general_claims : (g : Geometry) (d : ℕ) (hs : List Header) → ((h : Header) → Memᴰ h hs → Reads g d false h) → length hs ≤ g.capacity → zone_claim g d false (map (encode g d) hs) ≡ first_closing hs
unfolding zone_claim
general_claims g d hs rd n =
    let (p, q) = walk_lawful g d false (map bare_entry hs) zero (heads_lawful g d hs rd) (omega (arith, heads_extent g d hs rd)) in
    let (e, f) = heads_whole g d hs rd in
    rw (← heads_flat g d hs) (ap (λ (es : List Entry). first_closing (map (λ (e : Entry). e.head) es)) (p ∙ e) ∙ ap first_closing (heads_back g d hs))

pub general_claims_none : (g : Geometry) (d : ℕ) (hs : List Header) → ((h : Header) → Memᴰ h hs → Reads g d false h) → zone_claim g d true (map (encode g d) hs) ≡ 0
general_claims_none g d [] rd = none_claims_none g d true
general_claims_none g d (h ∷ hs) rd = other_claims_none g d false h (map (encode g d) hs) (rd h (mathlib.Core.List.Memᴰ.head refl))

-- ---- a parity log
pub parity_claims : (g : Geometry) (d : ℕ) (es : List Entry) → WellFormedLog g d true es → log_extent g d true es ≤ g.capacity → zone_claim g d true (sectors_of_all g d true es) ≡ first_closing (map (λ (e : Entry). e.head) (whole_entries g d true es))
unfolding zone_claim
parity_claims g d es lw n = ap (λ (es : List Entry). first_closing (map (λ (e : Entry). e.head) es)) (walk_lawful g d true es zero lw (omega (arith, n))).0

pub parity_claims_none : (g : Geometry) (d : ℕ) (es : List Entry) → WellFormedLog g d true es → zone_claim g d false (sectors_of_all g d true es) ≡ 0
parity_claims_none g d [] lw = none_claims_none g d false
parity_claims_none g d (e ∷ es) lw = other_claims_none g d true e.head _ lw.0

mem_head : (es : List Entry) (e : Entry) → Memᴰ e es → Memᴰ e.head (map (λ (p : Entry). p.head) es)
mem_head (p ∷ es) e (mathlib.Core.List.Memᴰ.head q) = mathlib.Core.List.Memᴰ.head (ap (λ (p : Entry). p.head) q)
mem_head (p ∷ es) e (mathlib.Core.List.Memᴰ.tail m) = mathlib.Core.List.Memᴰ.tail (mem_head es e m)
mem_head [] e x' = elim x' [ ]

head_mem : (es : List Entry) (h : Header) → Memᴰ h (map (λ (p : Entry). p.head) es) → (e : Entry) × Memᴰ e es × (e.head ≡ h)
head_mem (p ∷ es) h (mathlib.Core.List.Memᴰ.head q) = (p, mathlib.Core.List.Memᴰ.head refl, sym q)
head_mem (p ∷ es) h (mathlib.Core.List.Memᴰ.tail m) = let (e, o, q) = head_mem es h m in (e, mathlib.Core.List.Memᴰ.tail o, q)
head_mem [] h x' = elim x' [ ]

-- THE LINK: a device v whose logs, seen (u) by the roles r of drive d, are in order, has these roles firmly
module _ (g : Geometry) (x : ℕ) (v u : Device) (γ : Ghost) (lg : LogsOk g x u γ) (d : ℕ) (a : Here g x d) (r : Roles) (seen : (y : ℕ) → u d y ≡ v d (zone_of_role r y)) where
  -- whatever a cut keeps of the general log
  general_at : (k : ℕ) → (v d r.general).durable ≤ k → (zone_claim g d false (take k (v d r.general).sectors) ≡ (γ.closed d).0) × (zone_claim g d true (take k (v d r.general).sectors) ≡ 0)
  general_at k h =
      let hs = take k (γ.general d) in
      let s : take k (v d r.general).sectors ≡ map (encode g d) hs = ap (λ (z : ZoneView). take k z.sectors) (sym (seen 0)) ∙ ap (take k) (lg.general_is d a) ∙ take_map (encode g d) k (γ.general d) in
      let rd : (h : Header) → Memᴰ h hs → Reads g d false h = λ h m. lg.general_reads d a h (mem_take k (γ.general d) h m) in
      let f : length (map (encode g d) (γ.general d)) ≤ g.capacity = rw (lg.general_is d a) at (lg.place_fits d general_zone a (omega arith)) in
      let n : length hs ≤ g.capacity = rw length-take (omega (arith, (rw length_map at f))) in
      let c : first_closing hs ≡ (γ.closed d).0 = first_closing_is hs (γ.closed d).0 (λ j i m. lg.general_closes d a j i (mem_take k (γ.general d) (closing j i) m))
      (λ p. (0, mem_more (u d general_zone).durable k (γ.general d) (closing 0 (γ.closed d).0) (low h) (lg.general_closed d a p))) in
      (rw s (general_claims g d hs rd n ∙ c), rw s (general_claims_none g d hs rd))
    where
      low : (v d r.general).durable ≤ k → (u d general_zone).durable ≤ k
      low h = rw (seen 0) h

  -- and of the parity log
  parity_at : (k : ℕ) → (v d r.parity).durable ≤ k → (zone_claim g d true (take k (v d r.parity).sectors) ≡ (γ.closed d).1) × (zone_claim g d false (take k (v d r.parity).sectors) ≡ 0)
  parity_at k h =
      let es = cut_entries g d true (γ.parity d) k in
      let s : take k (v d r.parity).sectors ≡ sectors_of_all g d true es = ap (λ (z : ZoneView). take k z.sectors) (sym (seen 1)) ∙ ap (take k) (lg.parity_is d a) ∙ cut_flat g d true (γ.parity d) k in
      let lw : WellFormedLog g d true es = cut_lawful g d true (γ.parity d) k (lg.parity_lawful d a) in
      let n : log_extent g d true es ≤ g.capacity = le_trans (cut_extent g d true (γ.parity d) k) (lg.parity_fits d a) in
      let c : first_closing (map (λ (e : Entry). e.head) (whole_entries g d true es)) ≡ (γ.closed d).1 = first_closing_is (map (λ (e : Entry). e.head) (whole_entries g d true es)) (γ.closed d).1 old (λ p. (1, kept p)) in
      (rw s (parity_claims g d es lw n ∙ c), rw s (parity_claims_none g d es lw))
    where
      low : (v d r.parity).durable ≤ k → (u d parity_zone).durable ≤ k
      low h = rw (seen 1) h

      kept : 0 < (γ.closed d).1 → Memᴰ (closing 1 (γ.closed d).1) (map (λ (e : Entry). e.head) (whole_entries g d true (cut_entries g d true (γ.parity d) k)))
      kept p =
          let es = cut_entries g d true (γ.parity d) k in
          let e = closing_entry 1 (γ.closed d).1 in
          let m : Memᴰ e es = cut_mono g d true (γ.parity d) (u d parity_zone).durable k e (lg.parity_lawful d a) (low h) refl (lg.parity_closed_lem d a p) in
          mem_head (whole_entries g d true es) e (mem_whole_entries g d es e m refl)

      old : Closes (γ.closed d).1 (map (λ (e : Entry). e.head) (whole_entries g d true (cut_entries g d true (γ.parity d) k)))
      old j i m =
          let (e, o, q) = head_mem (whole_entries g d true (cut_entries g d true (γ.parity d) k)) (closing j i) m in
          let l = cut_left g d true (γ.parity d) k e (whole_entries_mem g d (cut_entries g d true (γ.parity d) k) e o).0 in
          lg.parity_closes d a l.of l.is_set j i (sym l.heads ∙ q)

  pub firm_of_logs : Proper r → Claims (γ.closed d).0 r.general 0 r.general_claim → Claims (γ.closed d).1 r.parity 1 r.parity_claim
      → ((k : ℕ) → (strength g d false r.spare (take k (v d r.spare).sectors) < r.general_claim) × (strength g d true r.spare (take k (v d r.spare).sectors) < r.parity_claim))
      → Firm g v d r
  unfolding strength
  firm_of_logs p cg cp sp = record {
    proper = p;
    general_firm = λ k h. let (a, b) = general_at k h in (rw (a, b) (own_strength (γ.closed d).0 r.general r.general_claim false cg), rw (a, b) (other_strength (γ.closed d).0 r.general r.general_claim true cg));
    parity_firm = λ k h. let (a, b) = parity_at k h in (rw (a, b) (own_strength (γ.closed d).1 r.parity r.parity_claim true cp), rw (a, b) (other_strength (γ.closed d).1 r.parity r.parity_claim false cp));
    spare_loses = sp;
  }
