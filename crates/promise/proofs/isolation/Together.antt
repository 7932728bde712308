-- WHAT A DESK HEARS of a call, in two runs that agree on all that it can feel: the same; and what a finished write or reset of its own leaves to be felt then: the same
-- again.
use Rattle.std.specs.Prelude.{◌≡◌, Bool, true, false, ◌||◌, ℕ, ◌<◌, List, eqb}
use Rattle.std.proofs.Common.{arith}
use Rattle.tables.specs.laws.Basics.{eqb_same, or_left}
use Rattle.tables.specs.declared.Geometry.{Geometry}
use Rattle.volume.specs.meaning.State.{hosts}
use Rattle.volume.specs.meaning.Hosts.{open_zones, zones_of}
use Rattle.volume.specs.meaning.Refusals.{WriteAsked, zone_asked, zone_of}
use Rattle.promise.specs.meaning.Claim.{Call, mounts, writes, flushes, resets, formats, compacts, Volume, System, Event, calls, looks, reads, peeks, reports, cuts, loses, ready, heard, all_but, NamesAll, Duty}
use Rattle.promise.specs.meaning.Isolation.{to_store, to_read, to_peek, asked_by, MayStand, stores_to, reads_from, general_log, SameZone, is_promised}
use Rattle.promise.proofs.isolation.Laws.{SameRecord, BothReady, Laws}
use Rattle.promise.proofs.isolation.Alone.{share_of}

-- ==== an event that asks for the same
module _ (vol : Volume) where
  impossible : {A : Type 0} → ◌≡◌ {A = ℕ} 0 1 → A
  impossible e = absurd (omega arith)

  pub as_call : (c : Call) (stop : ℕ) (f : Event vol) → to_store c stop ≡ asked_by f → (n : vol.Names) × (f ≡ calls c n stop)
  as_call c stop (calls b n k) e = (n, cc)
  as_call c stop (looks n) e = impossible (cc)
  as_call c stop (reads n a count out) e = impossible (cc)
  as_call c stop (peeks n a) e = impossible (cc)
  as_call c stop (reports list) e = impossible (cc)
  as_call c stop (cuts m) e = impossible (cc)
  as_call c stop (loses d m) e = impossible (cc)

  as_read : (a count : ℕ) (out : List ℕ) (f : Event vol) → to_read a count out ≡ asked_by f → (n : vol.Names) × (f ≡ reads n a count out)
  as_read a count out (calls c n k) e = impossible (cc)
  as_read a count out (looks n) e = impossible (cc)
  as_read a count out (reads n b k o) e = (n, cc)
  as_read a count out (peeks n b) e = impossible (cc)
  as_read a count out (reports list) e = impossible (cc)
  as_read a count out (cuts m) e = impossible (cc)
  as_read a count out (loses d m) e = impossible (cc)

  as_peek : (a : ℕ) (f : Event vol) → to_peek a ≡ asked_by f → (n : vol.Names) × (f ≡ peeks n a)
  as_peek a (calls c n k) e = impossible (cc)
  as_peek a (looks n) e = impossible (cc)
  as_peek a (reads n b k o) e = impossible (cc)
  as_peek a (peeks n b) e = (n, cc)
  as_peek a (reports list) e = impossible (cc)
  as_peek a (cuts m) e = impossible (cc)
  as_peek a (loses d m) e = impossible (cc)

-- a call that stores to a zone names it
pub zone_stored : (z : ℕ) → eqb z z || false ≡ true
zone_stored z = or_left (eqb z z) false (eqb_same z)

-- ==== what desk h can feel (names: the zones that it names)
module _ (g : Geometry) (vol : Volume) (h : ℕ) (names : ℕ → Bool) where
  pub record Felt (s t : System vol) : Type 0 where
    pub lost : s.lost ≡ t.lost
    pub zones : (z : ℕ) → z < g.zones → names z ≡ true → SameZone g vol s t z
    pub open_zones_lem : open_zones g (vol.view s.state) ≡ open_zones g (vol.view t.state)
    pub zones_of_lem : zones_of g (vol.view s.state) h ≡ zones_of g (vol.view t.state) h
    pub general_logs_lem : (d : ℕ) → d < g.drives → all_but s.lost d ≡ true → general_log g (vol.seen s.memory) d ≡ general_log g (vol.seen t.memory) d
    pub shares : h < hosts → (d : ℕ) → d < g.drives → share_of g vol h s d ≡ share_of g vol h t d

  -- an event that names no other zone
  abbrev pub NamesOnly : Event vol → Type 0
  NamesOnly e = (z : ℕ) → stores_to g e z || reads_from g e z ≡ true → names z ≡ true

  module _ (Ok : System vol → Type 0) (laws : Laws g vol Ok) (s t : System vol) (s_ok : Ok s) (t_ok : Ok t) (felt : Felt s t) where
    ready_both : (m n : vol.Names) → NamesAll g vol s m → NamesAll g vol t n → s.mode ≡ ready → t.mode ≡ ready → BothReady g vol Ok s t m n
    ready_both m n a b p q = record { first_ok = s_ok; second_ok = t_ok; first_ready = p; second_ready = q; lost = felt.lost; first_names = a; second_names = b }

    record_of_lem : (z : ℕ) → names z ≡ true → SameRecord g (vol.view s.state) (vol.view t.state) z
    record_of_lem z n = record { generation = λ k. (felt.zones z k n).generation; condition = λ k. (felt.zones z k n).condition; owner = λ k. (felt.zones z k n).owner }

    -- ---- it hears the same
    write_same : (w : WriteAsked) (m n : vol.Names) (stop : ℕ) → BothReady g vol Ok s t m n → w.host ≡ h → names (zone_asked g w) ≡ true → heard s (calls (writes w) m stop) ≡ heard t (calls (writes w) n stop)
    write_same w m n stop both own named =
        laws.write_heard s t m n both w stop (record_of_lem (zone_asked g w) named) felt.open_zones_lem (rw own felt.zones_of_lem) (λ d k j. rw own (felt.shares (rw own at j) d k))

    pub hears_same : (e f : Event vol) → asked_by e ≡ asked_by f → Duty g vol s e → Duty g vol t f → MayStand h e → NamesOnly e → is_promised g vol e ≡ true → heard s e ≡ heard t f
    hears_same (calls mounts m stop) f a d c k n p = cc
    hears_same (calls (writes w) m stop) f a d c k n p =
        let (l, e) = as_call vol (writes w) stop f a in
        let j : Duty g vol t (calls (writes w) l stop) = rw e at c in
        rw e (write_same w m l stop (ready_both m l d.0 j.0 d.1 j.1) k (n (zone_asked g w) (zone_stored (zone_asked g w))))
    hears_same (calls flushes m stop) f a d c k n p =
        let (l, e) = as_call vol flushes stop f a in
        let j : Duty g vol t (calls flushes l stop) = rw e at c in
        rw e (laws.flush_heard s t m l (ready_both m l d.0 j.0 d.1 j.1) stop)
    hears_same (calls (resets z) m stop) f a d c k n p =
        let (l, e) = as_call vol (resets z) stop f a in
        let j : Duty g vol t (calls (resets z) l stop) = rw e at c in
        rw e (laws.reset_heard s t m l (ready_both m l d.0 j.0 d.1 j.1) z stop (record_of_lem z (n z (zone_stored z))) felt.general_logs_lem)
    hears_same (calls (formats array) m stop) f a d c k n p = cc
    hears_same (calls (compacts x) m stop) f a d c k n p = cc
    hears_same (looks m) f a d c k n p = cc
    hears_same (reads m b count out) f a d c k n p =
        let (l, e) = as_read vol b count out f a in
        let j : Duty g vol t (reads l b count out) = rw e at c in
        let named = n (zone_of g b) (eqb_same (zone_of g b)) in
        rw e (laws.read_heard s t m l (ready_both m l d.0 j.0 d.1 j.1) b count out (record_of_lem (zone_of g b) named) (λ z. (felt.zones (zone_of g b) z named).content))
    hears_same (peeks m b) f a d c k n p =
        let (l, e) = as_peek vol b f a in
        let j : Duty g vol t (peeks l b) = rw e at c in
        let named = n (zone_of g b) (eqb_same (zone_of g b)) in
        rw e (laws.peek_heard s t m l (ready_both m l d.0 j.0 d.1 j.1) b (record_of_lem (zone_of g b) named) (λ z. (felt.zones (zone_of g b) z named).content))
    hears_same (reports list) f a d c k n p = cc
    hears_same (cuts m) f a d c k n p = cc
    hears_same (loses x m) f a d c k n p = cc
