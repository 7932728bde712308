-- WHAT ISOLATION RESTS ON, of any volume: what a call is answered hangs on what its desk can feel, of two systems between finished calls; and what a finished call makes
-- of the state. Everything else is in how runs go on (Isolated). (Ok: what holds at every point of a history)
use Rattle.std.specs.Prelude.{◌≡◌, ◌≢◌, true, ℕ, ◌<◌, List}
use Rattle.tables.specs.declared.Geometry.{Geometry}
use Rattle.tables.specs.meaning.Drives.{present_but}
use Rattle.volume.specs.declared.Answer.{Answer}
use Rattle.volume.specs.declared.Answer.TheVariants.{Finished}
use Rattle.volume.specs.meaning.State.{StateView, with_shares, share_at, hosts}
use Rattle.volume.specs.meaning.Roles.{roles, by_roles}
use Rattle.volume.specs.meaning.Emptying.{unused_in}
use Rattle.volume.specs.meaning.Calls.{flush_state, reset_state}
use Rattle.volume.specs.meaning.Hosts.{open_zones, zones_of, half_past, renewed_shares, written_state}
use Rattle.volume.specs.meaning.Refusals.{WriteAsked, zone_asked, zone_of}
use Rattle.promise.specs.meaning.Claim.{Call, writes, flushes, resets, compacts, Volume, System, Event, calls, reads, peeks, ready, next, answered, heard, all_but, NamesAll, Duty}
use Rattle.promise.specs.meaning.Isolation.{general_log}

-- two views say the same of the volume's zones and shares
pub record SameView (g : Geometry) (a b : StateView) : Type 0 where
  pub generations : (z : ℕ) → z < g.zones → a.generation z ≡ b.generation z
  pub conditions : (z : ℕ) → z < g.zones → a.condition z ≡ b.condition z
  pub owners : (z : ℕ) → z < g.zones → a.owner z ≡ b.owner z
  pub shares : (d h : ℕ) → d < g.drives → h < hosts → a.share (share_at d h) ≡ b.share (share_at d h)

-- of one zone, if there is such a zone
pub record SameRecord (g : Geometry) (a b : StateView) (z : ℕ) : Type 0 where
  pub generation : z < g.zones → a.generation z ≡ b.generation z
  pub condition : z < g.zones → a.condition z ≡ b.condition z
  pub owner : z < g.zones → a.owner z ≡ b.owner z

module _ (g : Geometry) (vol : Volume) where
  -- two systems between finished calls, the same drive lost, and a host that names the others in each
  pub record BothReady (Ok : System vol → Type 0) (s t : System vol) (m n : vol.Names) : Type 0 where
    pub first_ok : Ok s
    pub second_ok : Ok t
    pub first_ready : s.mode ≡ ready
    pub second_ready : t.mode ≡ ready
    pub lost : s.lost ≡ t.lost
    pub first_names : NamesAll g vol s m
    pub second_names : NamesAll g vol t n

  pub record Laws (Ok : System vol → Type 0) : Type 0 where
    pub kept : (s : System vol) (e : Event vol) → Ok s → Duty g vol s e → Ok (next g vol s e)
    -- ---- what is heard
    pub write_heard : (s t : System vol) (m n : vol.Names) → BothReady Ok s t m n → (w : WriteAsked) (stop : ℕ) → SameRecord g (vol.view s.state) (vol.view t.state) (zone_asked g w)
        → open_zones g (vol.view s.state) ≡ open_zones g (vol.view t.state) → zones_of g (vol.view s.state) w.host ≡ zones_of g (vol.view t.state) w.host
        → ((d : ℕ) → d < g.drives → w.host < hosts → (vol.view s.state).share (share_at d w.host) ≡ (vol.view t.state).share (share_at d w.host))
        → heard s (calls (writes w) m stop) ≡ heard t (calls (writes w) n stop)
    pub flush_heard : (s t : System vol) (m n : vol.Names) → BothReady Ok s t m n → (stop : ℕ) → heard s (calls flushes m stop) ≡ heard t (calls flushes n stop)
    pub reset_heard : (s t : System vol) (m n : vol.Names) → BothReady Ok s t m n → (z stop : ℕ) → SameRecord g (vol.view s.state) (vol.view t.state) z
        → ((d : ℕ) → d < g.drives → all_but s.lost d ≡ true → general_log g (vol.seen s.memory) d ≡ general_log g (vol.seen t.memory) d) → heard s (calls (resets z) m stop) ≡ heard t (calls (resets z) n stop)
    pub read_heard : (s t : System vol) (m n : vol.Names) → BothReady Ok s t m n → (a count : ℕ) (out : List ℕ) → SameRecord g (vol.view s.state) (vol.view t.state) (zone_of g a)
        → (zone_of g a < g.zones → s.ledger.content (zone_of g a) ≡ t.ledger.content (zone_of g a)) → heard s (reads m a count out) ≡ heard t (reads n a count out)
    pub peek_heard : (s t : System vol) (m n : vol.Names) → BothReady Ok s t m n → (a : ℕ) → SameRecord g (vol.view s.state) (vol.view t.state) (zone_of g a)
        → (zone_of g a < g.zones → s.ledger.content (zone_of g a) ≡ t.ledger.content (zone_of g a)) → heard s (peeks m a) ≡ heard t (peeks n a)
    -- ---- what a finished call makes of the state; one that does not finish leaves it
    pub write_moves : (s : System vol) (m : vol.Names) → Ok s → s.mode ≡ ready → NamesAll g vol s m → (w : WriteAsked) (stop : ℕ) → heard s (calls (writes w) m stop) ≡ answered Finished
        → SameView g (vol.view (next g vol s (calls (writes w) m stop)).state) (written_state g (present_but g s.lost) s.lost w.host (vol.view s.state) (zone_asked g w) w.count)
        × (w.host < hosts) × (zone_asked g w < g.zones)
    pub flush_moves : (s : System vol) (m : vol.Names) → Ok s → s.mode ≡ ready → NamesAll g vol s m → (stop : ℕ) → heard s (calls flushes m stop) ≡ answered Finished
        → SameView g (vol.view (next g vol s (calls flushes m stop)).state) (vol.view s.state)
    pub reset_moves : (s : System vol) (m : vol.Names) → Ok s → s.mode ≡ ready → NamesAll g vol s m → (z stop : ℕ) → heard s (calls (resets z) m stop) ≡ answered Finished
        → SameView g (vol.view (next g vol s (calls (resets z) m stop)).state) (reset_state s.lost (vol.view s.state) z) × (z < g.zones)
    pub compact_moves : (s : System vol) (m : vol.Names) → Ok s → s.mode ≡ ready → NamesAll g vol s m → (d stop : ℕ) → heard s (calls (compacts d) m stop) ≡ answered Finished
        → let u = next g vol s (calls (compacts d) m stop) in let v = vol.seen u.memory in
        SameView g (vol.view u.state) (with_shares (renewed_shares (vol.view s.state).share d (half_past g (unused_in g true (roles g v) (by_roles g v) d))) (vol.view s.state))
    pub not_finished : (s : System vol) (m : vol.Names) → Ok s → NamesAll g vol s m → (c : Call) (stop : ℕ) (a : Answer) → heard s (calls c m stop) ≡ answered a → a ≢ Finished → vol.view (next g vol s (calls c m stop)).state ≡ vol.view s.state
