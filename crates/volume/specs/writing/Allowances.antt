-- What a state says of the host of a write (src/hosts.rt): whether there is such a host, refusals 18 and 19, and what is left of its share of the drive that gets the
-- entry. The other zones count only where the write gives its host one zone more.
use Rattle.std.proofs.Math.Path.{◌≡◌, refl, ap}
use Rattle.std.proofs.Common.{sym, ◌∙◌, true≢false}
use Rattle.std.specs.Prelude.{Bool, ◌&&◌, Ok, Err, Result, ⊤}
use Rattle.std.proofs.Math.Bool.{true, false, not}
use Prim.Native.Nat.{ℕ, ◌≤◌}
use Rattle.std.proofs.Math.Dec.{ltb, leb}
use borrow.Author.Tests.{le-leb}
use Rattle.tables.specs.declared.Geometry.{Geometry}
use Rattle.tables.specs.meaning.Basics.{pick}
use Rattle.tables.specs.meaning.Below.{count_below}
use Rattle.tables.specs.meaning.Geometry.{zone_sectors}
use Rattle.volume.specs.declared.Condition.{Condition}
use Rattle.volume.specs.declared.Condition.TheVariants.{Empty, Open, Sealed, Worn}
use Rattle.volume.specs.declared.ZoneRecord.{ZoneRecord}
use Rattle.volume.specs.declared.Refusal.{Refusal}
use Rattle.volume.specs.declared.Refusal.TheVariants.{HostLimit, OpenLimit}
use Rattle.volume.specs.declared.hosts.Allowance.{Allowance}
use Rattle.volume.specs.declared.hosts.OpenZones.{OpenZones}
use Rattle.volume.specs.meaning.State.{is_owner, hosts, StateView}
use Rattle.volume.specs.meaning.Hosts.{limit_of, most_open, counts_as, counts, counts_to, open_zones, zones_of, over_limit, over_open, share_left}
use Rattle.volume.specs.meaning.CallContracts.{record_seen}
use Rattle.volume.specs.meaning.RefusalNumbers.{number_of}

-- ---- one zone, by its record; `most`: the sectors of a zone
abbrev pub counts_within : ℕ → Condition → Bool
counts_within most Empty = false
counts_within most (Open n) = ltb n most
counts_within most (Sealed n) = false
counts_within most (Worn n) = false

abbrev pub counts_at : ℕ → ℕ → ZoneRecord → Bool
counts_at most h r = counts_within most r.condition && is_owner h r.owner

-- a write that ends at a pointer of the zone gives its host one zone more
abbrev pub adds_at : ℕ → ℕ → ℕ → ZoneRecord → Bool
adds_at most h end r = ltb end most && not (counts_at most h r)

pub counts_as_lem : (g : Geometry) (c : Condition) → counts_within (zone_sectors g) c ≡ counts_as g c
counts_as_lem g Empty = refl
counts_as_lem g (Open n) = refl
counts_as_lem g (Sealed n) = refl
counts_as_lem g (Worn n) = refl

-- ---- all zones
abbrev pub open_zones_of : Geometry → StateView → ℕ → OpenZones
open_zones_of g v h = record { own = zones_of g v h; all = open_zones g v }

-- as a loop counts those below n
module _ (g : Geometry) (v : StateView) (h : ℕ) where
  pub own_zones : count_below (λ z. counts_at (zone_sectors g) h (record_seen v z)) g.zones ≡ zones_of g v h
  unfolding zones_of
  own_zones = ap (λ (f : ℕ → Bool). count_below f g.zones) (λ i z. counts_as_lem g (v.condition z) i && is_owner h (v.owner z))

  pub all_zones : count_below (λ z. counts_within (zone_sectors g) (v.condition z)) g.zones ≡ open_zones g v
  unfolding open_zones
  all_zones = ap (λ (f : ℕ → Bool). count_below f g.zones) (λ i z. counts_as_lem g (v.condition z) i)

-- ---- refusals 18 and 19 (z: the zone; end: its pointer after the write)
unfoldable pub host_limits : Geometry → StateView → ℕ → ℕ → ℕ → Result ⊤ Refusal
host_limits g v h z end = pick (over_limit g v h z end) (Err HostLimit) (pick (over_open g v z end) (Err OpenLimit) (Ok tt))

-- their number, 0 if neither applies
unfoldable pub host_number : Geometry → StateView → ℕ → ℕ → ℕ → ℕ
host_number g v h z end = pick (over_limit g v h z end) 18 (pick (over_open g v z end) 19 0)

-- of a write that gives its host one zone more; counted: its zone counts already
abbrev pub limits_at : ℕ → OpenZones → Bool → Result ⊤ Refusal
limits_at h k counted = pick (leb (limit_of h) k.own) (Err HostLimit) (pick (not counted && leb most_open k.all) (Err OpenLimit) (Ok tt))

module _ (g : Geometry) (v : StateView) (h z end : ℕ) where
  pub limits_number : number_of (host_limits g v h z end) ≡ host_number g v h z end
  unfolding host_limits host_number
  limits_number = go (over_limit g v h z end) (over_open g v z end)
    where
      go : (a b : Bool) → number_of {A = ⊤} (pick a (Err HostLimit) (pick b (Err OpenLimit) (Ok tt))) ≡ pick a 18 (pick b 19 0)
      go true b = refl
      go false true = refl
      go false false = refl

  adds_as : adds_at (zone_sectors g) h end (record_seen v z) ≡ ltb end (zone_sectors g) && not (counts_to g v h z)
  adds_as = ap (λ (b : Bool). ltb end (zone_sectors g) && not (b && is_owner h (v.owner z))) (counts_as_lem g (v.condition z))

  pub host_none : adds_at (zone_sectors g) h end (record_seen v z) ≡ false → Ok tt ≡ host_limits g v h z end
  unfolding host_limits over_limit over_open
  host_none e = go (ltb end (zone_sectors g)) (counts g v z) (is_owner h (v.owner z)) (leb (limit_of h) (zones_of g v h)) (leb most_open (open_zones g v)) (sym adds_as ∙ e)
    where
      go : (a c o l m : Bool) → a && not (c && o) ≡ false → ◌≡◌ {A = Result ⊤ Refusal} (Ok tt) (pick (a && (not (c && o) && l)) (Err HostLimit) (pick (a && (not c && m)) (Err OpenLimit) (Ok tt)))
      go true true true l m q = refl
      go true true false l m q = absurd (true≢false q)
      go true false o l m q = absurd (true≢false q)
      go false c o l m q = refl

  pub host_counted : adds_at (zone_sectors g) h end (record_seen v z) ≡ true → limits_at h (open_zones_of g v h) (counts_within (zone_sectors g) (v.condition z)) ≡ host_limits g v h z end
  unfolding host_limits over_limit over_open
  host_counted e = ap (limits_at h (open_zones_of g v h)) (counts_as_lem g (v.condition z)) ∙ go (ltb end (zone_sectors g)) (not (counts_to g v h z)) (leb (limit_of h) (zones_of g v h)) (not (counts g v z) && leb most_open (open_zones g v)) (sym adds_as ∙ e)
    where
      go : (a c l m : Bool) → a && c ≡ true → ◌≡◌ {A = Result ⊤ Refusal} (pick l (Err HostLimit) (pick m (Err OpenLimit) (Ok tt))) (pick (a && (c && l)) (Err HostLimit) (pick (a && m) (Err OpenLimit) (Ok tt)))
      go true true l m q = refl
      go true false l m q = absurd (true≢false (sym q))
      go false c l m q = absurd (true≢false (sym q))

-- ---- what the state says of the host. A write that would leave its zone, or has no host, is refused before the rest is asked
unfoldable pub allowance_of : Geometry → StateView → ℕ → ℕ → ℕ → Allowance
allowance_of g v h z end =
    pick (ltb h hosts && leb end (zone_sectors g)) (record { known = ltb h hosts; limits = host_limits g v h z end; share = share_left g v h z end }) (record { known = ltb h hosts; limits = Ok tt; share = 0 })

module _ (g : Geometry) (v : StateView) (h z end : ℕ) where
  pub allowance_known : (allowance_of g v h z end).known ≡ ltb h hosts
  unfolding allowance_of
  allowance_known = go (ltb h hosts && leb end (zone_sectors g))
    where
      go : (b : Bool) → (pick {A = Allowance} b (record { known = ltb h hosts; limits = host_limits g v h z end; share = share_left g v h z end }) (record { known = ltb h hosts; limits = Ok tt; share = 0 })).known ≡ ltb h hosts
      go true = refl
      go false = refl

  module _ (here : ltb h hosts ≡ true) (inside : end ≤ zone_sectors g) where
    pub allowance_refusal : number_of (allowance_of g v h z end).limits ≡ host_number g v h z end
    unfolding allowance_of
    allowance_refusal = rw (here, le-leb end (zone_sectors g) inside) (limits_number g v h z end)

    pub allowance_share : (allowance_of g v h z end).share ≡ share_left g v h z end
    unfolding allowance_of
    allowance_share = rw (here, le-leb end (zone_sectors g) inside) refl
