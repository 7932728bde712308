-- What a look shows of a zone of a mount before its parity logs are emptied (ParityFilled), whichever drives are named: never past the mount's pointer, and at
-- least as much as any mark that holds; the sectors are those laid out.
use Rattle.std.specs.Prelude.{◌≡◌, refl, ◌≢◌, ◌⊎◌, Bool, true, false, ℕ, zero, ◌+◌, ◌-◌, ◌*◌, ◌≤◌, ◌<◌, min, length, get_or}
use Rattle.std.proofs.Common.{sym, ap, ◌∙◌, subst, inl, inr, true≢false, le_refl, le_trans, arith}
use Rattle.std.proofs.Math.Decide.{dec_lt}
use mathlib.Core.List.{List, [], ◌∷◌, Memᴰ}
use Rattle.tables.specs.meaning.Basics.{pick}
use Rattle.tables.specs.laws.Lists.{prefix_length}
use Rattle.tables.specs.laws.Greatest.{greatest_all, greatest_max}
use Rattle.tables.specs.meaning.Device.{Device}
use Rattle.tables.specs.meaning.Placement.{needed}
use Rattle.tables.specs.meaning.Drives.{present_but}
use Rattle.tables.specs.laws.Drives.{present_below}
use Rattle.tables.specs.declared.Geometry.{Geometry}
use Rattle.tables.specs.meaning.Geometry.{Valid, stripe_sectors, zone_sectors, data_zone}
use Rattle.logs.specs.meaning.Entry.{Header, partial_parity, seal, zone_reset, Entry}
use Rattle.logs.specs.laws.Walk.{whole_entries}
use Rattle.logs.specs.laws.LogLaws.{whole_entries_mem}
use Rattle.volume.specs.meaning.Content.{at}
use Rattle.volume.specs.meaning.Rules.{ParityEntry, known, known_prefix, parity_entries, serving_entries, generation_of, reset_seen, seal_limit, view_of, zone_view, value_at, pointer_at}
use Rattle.promise.proofs.content.Recover.{All}
use Rattle.promise.specs.meaning.Ledger.{Ledger}
use Rattle.promise.proofs.invariant.Invariant.{Ghost, Here, LogsOk, Live, Capped}
use Rattle.promise.proofs.invariant.HoldsLess.{with_logs, less_live}
use Rattle.promise.proofs.invariant.CrashKeeps.{lose_logs, lose_less}
use Rattle.promise.proofs.look.ExactPointer.{Exact, not_known}
use Rattle.promise.proofs.look.LookReads.{parity_entries_lem}
use Rattle.promise.proofs.look.LookLive.{reset_seen_lem, limit_least, limit_capped, live_least, live_generation, pointer_free, knows_value}
use Rattle.promise.proofs.look.ServingEntries.{serving_all}
use Rattle.promise.proofs.emptying.AskedSame.{NamedBut, named_here}
use Rattle.promise.proofs.emptying.RestShows.{none_lost_lem}

-- ---- why no look shows zone z past p: the drives hold just what p needs, and no current entry ends past it; or there is a cap
pub data NoneShownPast (g : Geometry) (x : ℕ) (u : Device) (γ : Ghost) (z p : ℕ) : Type 0 where
  held_just : ((d : ℕ) → Here g x d → length (u d (data_zone z)).sectors ≡ needed g.drives g.unit z p d)
      → ((d : ℕ) → Here g x d → (e : Entry) → Memᴰ e (γ.parity d) → (s f : ℕ) → e.head ≡ partial_parity z s f (γ.generation z) → s * stripe_sectors g + f ≤ p)
      → NoneShownPast g x u γ z p
  sealed_at : Capped g x u γ z p → NoneShownPast g x u γ z p

-- a live zone without a current reset, whose current seals are at or past p
pub record ShownZone (g : Geometry) (x : ℕ) (u : Device) (γ : Ghost) (z p : ℕ) : Type 0 where
  pub in_zone_lem : p ≤ zone_sectors g
  pub no_reset : (d : ℕ) → Here g x d → Memᴰ (zone_reset z (γ.generation z)) (γ.general d) → ⊥
  pub seals_past : (d : ℕ) → Here g x d → (c : ℕ) → Memᴰ (seal z c (γ.generation z)) (γ.general d) → p ≤ c
  pub past : NoneShownPast g x u γ z p

-- ---- by the drives named
pub named_logs : (g : Geometry) → Valid g → (x y : ℕ) → NamedBut g x y → (u : Device) (γ : Ghost) → LogsOk g x u γ → LogsOk g y u γ
named_logs g ok x y (inl e) u γ lg = rw e lg
named_logs g ok x y (inr (e, h)) u γ lg = lose_logs g ok x y h (inl e) u u (none_lost_lem y u) γ lg

pub named_live : (g : Geometry) → Valid g → (x y : ℕ) → NamedBut g x y → (u : Device) (γ : Ghost) → LogsOk g x u γ → (l : Ledger) (z : ℕ) → z < g.zones → Live g x u γ l z → Live g y u γ l z
named_live g ok x y (inl e) u γ lg l z hz h = rw e h
named_live g ok x y (inr (e, k)) u γ lg l z hz h = less_live g x y u u γ γ.general γ.parity lg (lose_less g ok x y k (inl e) u u (none_lost_lem y u) γ) l z hz h

module _ (g : Geometry) (ok : Valid g) (x y : ℕ) (by : NamedBut g x y) (u : Device) (γ : Ghost) (lg : LogsOk g x u γ) (z : ℕ) (hz : z < g.zones) (p : ℕ) (s : ShownZone g x u γ z p) where
  abbrev n : ℕ
  n = γ.generation z

  abbrev here : (d : ℕ) → Here g y d → Here g x d
  here = named_here g ok x y by

  ly : LogsOk g y u γ
  ly = named_logs g ok x y by u γ lg

  -- the pointer under the zone's generation
  abbrev pub shown_at : ℕ
  shown_at = pointer_at g (present_but g y) u z (γ.generation z)

  abbrev pub limit_at : ℕ
  limit_at = seal_limit g (present_but g y) u z (γ.generation z)

  abbrev pub known_at : ℕ
  known_at = known_prefix g.drives g.unit z (zone_view g (present_but g y) u z (γ.generation z)) (zone_sectors g)

  not_reset : reset_seen g (present_but g y) u z n ≡ false
  not_reset = go (reset_seen g (present_but g y) u z n) refl
    where
      go : (b : Bool) → reset_seen g (present_but g y) u z n ≡ b → b ≡ false
      go true e = absurd (let (d, a, m) = reset_seen_lem g ok y u γ ly z n e in s.no_reset d (here d a) m)
      go false e = refl

  pub shown_generation : (l : Ledger) → Live g x u γ l z → generation_of g (present_but g y) u z ≡ γ.generation z
  shown_generation l h = live_generation g ok y u γ ly l z (named_live g ok x y by u γ lg l z hz h)

  pub shown_is : (l : Ledger) → Live g x u γ l z → shown_at ≡ min known_at limit_at
  shown_is l h = pointer_free g ok y u γ ly l z (named_live g ok x y by u γ lg l z hz h) not_reset

  pub limit_past : p ≤ limit_at
  limit_past = limit_least g ok y u γ ly z n p s.in_zone_lem (λ d a c m. s.seals_past d (here d a) c m)

  -- at least every mark that holds
  pub shown_least : (l : Ledger) → Live g x u γ l z → l.committed z ≤ shown_at
  shown_least l h = rw (shown_is l h) (live_least g ok y u γ ly l z (named_live g ok x y by u γ lg l z hz h) hz)

  -- the sectors laid out
  pub shown_value : (l : Ledger) → Live g x u γ l z → (a : ℕ) → a < shown_at → value_at g (present_but g y) u z (γ.generation z) a ≡ at (γ.laid z) a
  shown_value l h a k =
      let e = shown_is l h in
      let k2 : a < known_at = omega (arith, e, k) in
      (knows_value g ok y u γ ly l z (named_live g ok x y by u γ lg l z hz h) a k2).0

  -- where the drives hold just what p needs, sector p is not known
  module _ (j : (d : ℕ) → Here g x d → length (u d (data_zone z)).sectors ≡ needed g.drives g.unit z p d)
      (ends : (d : ℕ) → Here g x d → (e : Entry) → Memᴰ e (γ.parity d) → (i f : ℕ) → e.head ≡ partial_parity z i f (γ.generation z) → i * stripe_sectors g + f ≤ p) where
    none_past : (d : ℕ) → Here g y d → All (λ e. e.end ≤ p) (serving_entries g z n (seal_limit g (present_but g y) u z n) (parity_entries g u d))
    none_past d a = rw (parity_entries_lem g ok y u γ ly d a) (serving_all g z n (seal_limit g (present_but g y) u z n) (λ (e : ParityEntry). e.end ≤ p) (whole_entries g d true (γ.parity d))
        (λ e m i f q k. ends d (here d a) e (whole_entries_mem g d (γ.parity d) e m).0 i f q))

    exact : Exact g.drives g.unit z p (zone_view g (present_but g y) u z n)
    unfolding zone_view view_of
    exact = record { just = λ d hd a. j d (here d a); none_past = λ d hd a. none_past d a }

    unknown : known g.drives g.unit z (zone_view g (present_but g y) u z n) p ≡ false
    unknown = not_known g.drives g.unit z (omega (arith, ok.drives_least)) (omega (arith, ok.unit_least)) p (zone_view g (present_but g y) u z n) exact

  -- NEVER PAST p
  pub shown_most : (l : Ledger) → Live g x u γ l z → shown_at ≤ p
  shown_most l h = go s.past
    where
      go : NoneShownPast g x u γ z p → shown_at ≤ p
      go (sealed_at c) = let e = shown_is l h in let q = limit_capped g ok y u γ ly z p (λ d a. c d (here d a)) in omega (arith, e, q)
      go (held_just j ends) = out (dec_lt p known_at)
        where
          out : Dec (p < known_at) → shown_at ≤ p
          out (yes q) = absurd (true≢false (sym (greatest_all (known g.drives g.unit z (zone_view g (present_but g y) u z n)) (zone_sectors g) p q) ∙ unknown j ends))
          out (no q) = let e = shown_is l h in omega (arith, e, q)
