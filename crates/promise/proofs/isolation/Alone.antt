-- WHAT ONE EVENT OF A RUN LEAVES ALONE, as far as a desk can feel it: where the event is no finished write or reset of the desk's own and does not stop, the zones that
-- it does not store to stay, no zone becomes the desk's, and its shares are what the emptyings make of them.
use Rattle.std.specs.Prelude.{◌≡◌, refl, ◌≢◌, Bool, true, false, ◌&&◌, ℕ, ◌+◌, ◌<◌, List, [], eqb}
use Rattle.std.proofs.Common.{sym, ap, ◌∙◌}
use Rattle.tables.specs.meaning.Basics.{pick}
use Rattle.tables.specs.laws.Basics.{not_both, eqb_same}
use Rattle.tables.specs.declared.Geometry.{Geometry}
use Rattle.volume.specs.declared.Answer.{Answer}
use Rattle.volume.specs.declared.Answer.TheVariants.{Finished, Unfinished, Refused, BadLog}
use Rattle.volume.specs.declared.Owner.TheVariants.{Nobody}
use Rattle.volume.specs.meaning.Roles.{roles, by_roles}
use Rattle.volume.specs.meaning.Emptying.{unused_in}
use Rattle.volume.specs.meaning.State.{StateView, hosts, share_at, is_owner, owner_of, pointer_in}
use Rattle.volume.specs.meaning.Content.{parity_drive_at}
use Rattle.volume.specs.meaning.Hosts.{half_past}
use Rattle.volume.specs.meaning.Rules.{Shown}
use Rattle.volume.specs.meaning.Refusals.{WriteAsked, zone_asked}
use Rattle.promise.specs.meaning.Ledger.{Ledger, is_refused, noted}
use Rattle.promise.specs.meaning.Claim.{Call, mounts, writes, flushes, resets, formats, compacts, Volume, System, Event, calls, looks, reads, peeks, reports, cuts, loses, Mode, ready, stopped, mode_after, note_of, reply_to, next, answered, NamesAll, Duty}
use Rattle.promise.specs.meaning.Isolation.{MayStand, has_finished, stores_to, Compacted, finishes, compacted_in, SameZone}
use Rattle.promise.proofs.isolation.Laws.{SameView, Laws}
use Rattle.promise.proofs.isolation.Shares.{renew_all, share_apart, renewed_at, other_owner}

pub and_false : (b : Bool) → b && false ≡ false
and_false true = refl
and_false false = refl

-- a call that stops: after it only a cut may come
abbrev pub is_stopped : Answer → Bool
is_stopped Finished = false
is_stopped Unfinished = true
is_stopped (Refused n) = false
is_stopped (BadLog b) = false

abbrev pub halts : {vol : Volume} → System vol → Event vol → Bool
halts {vol} s (calls c named stop) = is_stopped (vol.call c named s.state stop s.memory).answer
halts s (looks named) = false
halts s (reads named a count out) = false
halts s (peeks named a) = false
halts s (reports list) = false
halts s (cuts m) = false
halts s (loses d m) = false

stopped_mode : (a : Answer) (m : Mode) → is_stopped a ≡ true → mode_after a m ≡ stopped
stopped_mode Finished m k = cc
stopped_mode Unfinished m k = refl
stopped_mode (Refused n) m k = cc
stopped_mode (BadLog b) m k = cc

pub halts_stopped : (g : Geometry) (vol : Volume) (s : System vol) (e : Event vol) → halts s e ≡ true → (next g vol s e).mode ≡ stopped
halts_stopped g vol s (calls c named stop) k = stopped_mode (vol.call c named s.state stop s.memory).answer s.mode k
halts_stopped g vol s (looks named) k = cc
halts_stopped g vol s (reads named a count out) k = cc
halts_stopped g vol s (peeks named a) k = cc
halts_stopped g vol s (reports list) k = cc
halts_stopped g vol s (cuts m) k = cc
halts_stopped g vol s (loses d m) k = cc

-- of a refused call the ledger notes nothing
noted_refused : (g : Geometry) (c : Call) (k : Shown) (l : Ledger) → noted l (note_of g c k is_refused) ≡ l
noted_refused g mounts k l = refl
noted_refused g (writes w) k l = refl
noted_refused g flushes k l = refl
noted_refused g (resets z) k l = refl
noted_refused g (formats array) k l = refl
noted_refused g (compacts d) k l = refl

-- no compact, no emptying
pub none_emptied : (b : Bool) → ◌≡◌ {A = List Compacted} (pick b [] []) []
none_emptied true = refl
none_emptied false = refl

-- no zone is stored to
abbrev pub NoStore : (g : Geometry) (vol : Volume) → System vol → Event vol → Type 0
NoStore g vol s e = (z : ℕ) → finishes g vol s e && stores_to g e z ≡ false

pub idle : (g : Geometry) (vol : Volume) (s : System vol) (e : Event vol) → ((c : Call) (m : vol.Names) (stop : ℕ) → e ≢ calls c m stop) → NoStore g vol s e
idle g vol s (calls c m stop) never z = absurd (never c m stop refl)
idle g vol s (looks m) never z = refl
idle g vol s (reads m a count out) never z = refl
idle g vol s (peeks m a) never z = refl
idle g vol s (reports list) never z = refl
idle g vol s (cuts m) never z = refl
idle g vol s (loses d m) never z = refl

module _ (g : Geometry) (vol : Volume) (h : ℕ) where
  -- the share of the desk, by drive
  abbrev pub share_of : System vol → ℕ → ℕ
  share_of s d = (vol.view s.state).share (share_at d h)

  -- a system u after s, by desk h (stores: the zones that were stored to; emptied: by compacts, in between)
  pub record Moved (s u : System vol) (stores : ℕ → Bool) (emptied : List Compacted) : Type 0 where
    pub zones : (z : ℕ) → z < g.zones → stores z ≡ false → SameZone g vol u s z
    pub owners : (z : ℕ) → z < g.zones → is_owner h ((vol.view u.state).owner z) ≡ true → is_owner h ((vol.view s.state).owner z) ≡ true
    pub shares : h < hosts → (d : ℕ) → d < g.drives → share_of u d ≡ renew_all g emptied (share_of s) d

  same_view : (a b : StateView) → a ≡ b → SameView g a b
  same_view a b e = record { generations = λ z k. rw e refl; conditions = λ z k. rw e refl; owners = λ z k. rw e refl; shares = λ d i k j. rw e refl }

  module _ (Ok : System vol → Type 0) (laws : Laws g vol Ok) (s : System vol) (ok : Ok s) where
    abbrev After : Event vol → Type 0
    After e = Moved s (next g vol s e) (λ z. finishes g vol s e && stores_to g e z) (compacted_in g vol s e)

    -- where the state says the same and nothing was emptied
    still : (e : Event vol) → SameView g (vol.view (next g vol s e).state) (vol.view s.state) → ((z : ℕ) → (next g vol s e).ledger.content z ≡ s.ledger.content z) → compacted_in g vol s e ≡ [] → After e
    still e v l n = record {
      zones = λ z k q. record { generation = v.generations z k; condition = v.conditions z k; owner = v.owners z k; content = l z };
      owners = λ z k o. ap (is_owner h) (sym (v.owners z k)) ∙ o;
      shares = λ j d k. v.shares d h k j ∙ ap (λ (cs : List Compacted). renew_all g cs (share_of s) d) (sym n);
    }

    -- ---- finished calls
    module _ (m : vol.Names) (names : NamesAll g vol s m) (is_ready_lem : s.mode ≡ ready) (stop : ℕ) where
      abbrev answer_of : Call → Answer
      answer_of c = (vol.call c m s.state stop s.memory).answer

      -- a zone that was not stored to
      elsewhere : (c : Call) (y z : ℕ) → answer_of c ≡ Finished → finishes g vol s (calls c m stop) && eqb z y ≡ false → eqb z y ≡ false
      elsewhere c y z e q = rw e at q

      after_write_lem : (w : WriteAsked) → answer_of (writes w) ≡ Finished → eqb w.host h ≡ false → After (calls (writes w) m stop)
      after_write_lem w e other =
          let (v, i, y) = laws.write_moves s m ok is_ready_lem names w stop (ap answered e) in
          record {
            zones = λ z k q.
                let far = elsewhere (writes w) (zone_asked g w) z e q in
                record { generation = v.generations z k; condition = v.conditions z k ∙ rw far refl; owner = v.owners z k ∙ rw far refl; content = rw (e, far) refl };
            owners = λ z k o. owned z (eqb z (zone_asked g w)) refl i (ap (is_owner h) (sym (v.owners z k)) ∙ o);
            shares = λ j d k. v.shares d h k j ∙ rw (share_apart d (parity_drive_at g (zone_asked g w) (pointer_in ((vol.view s.state).condition (zone_asked g w)) + w.count)) h w.host j i other)
                (rw (none_emptied (finishes g vol s (calls (writes w) m stop))) refl);
          }
        where
          owned : (z : ℕ) (b : Bool) → eqb z (zone_asked g w) ≡ b → w.host < hosts → is_owner h (pick b (owner_of w.host) ((vol.view s.state).owner z)) ≡ true → is_owner h ((vol.view s.state).owner z) ≡ true
          owned z true b i o = not_both (is_owner h (owner_of w.host)) o (other_owner h w.host i other)
          owned z false b i o = o

      after_flush_lem : answer_of flushes ≡ Finished → After (calls flushes m stop)
      after_flush_lem e =
          still (calls flushes m stop) (laws.flush_moves s m ok is_ready_lem names stop (ap answered e)) (λ z. rw e refl) (none_emptied (finishes g vol s (calls flushes m stop)))

      after_reset_lem : (y : ℕ) → answer_of (resets y) ≡ Finished → After (calls (resets y) m stop)
      after_reset_lem y e =
          let (v, i) = laws.reset_moves s m ok is_ready_lem names y stop (ap answered e) in
          record {
            zones = λ z k q.
                let far = elsewhere (resets y) y z e q in
                record { generation = v.generations z k ∙ rw far refl; condition = v.conditions z k ∙ rw far refl; owner = v.owners z k ∙ rw far refl; content = rw (e, far) refl };
            owners = λ z k o. owned z (eqb z y) (ap (is_owner h) (sym (v.owners z k)) ∙ o);
            shares = λ j d k. v.shares d h k j ∙ rw (none_emptied (finishes g vol s (calls (resets y) m stop))) refl;
          }
        where
          owned : (z : ℕ) (b : Bool) → is_owner h (pick b Nobody ((vol.view s.state).owner z)) ≡ true → is_owner h ((vol.view s.state).owner z) ≡ true
          owned z true o = cc
          owned z false o = o

      after_compact : (d : ℕ) → answer_of (compacts d) ≡ Finished → After (calls (compacts d) m stop)
      after_compact d e =
          let v = laws.compact_moves s m ok is_ready_lem names d stop (ap answered e) in
          record {
            zones = λ z k q. record { generation = v.generations z k; condition = v.conditions z k; owner = v.owners z k; content = refl };
            owners = λ z k o. ap (is_owner h) (sym (v.owners z k)) ∙ o;
            shares = λ j i k. v.shares i h k j ∙ renewed_at (vol.view s.state).share d (half_past g unused) i h j ∙ rw e refl;
          }
        where
          unused : ℕ
          unused = let v = vol.seen (next g vol s (calls (compacts d) m stop)).memory in unused_in g true (roles g v) (by_roles g v) d

    -- ---- calls that neither finish nor stop
    after_refused : (c : Call) (m : vol.Names) → NamesAll g vol s m → (stop : ℕ) (a : Answer) → (vol.call c m s.state stop s.memory).answer ≡ a → reply_to a ≡ is_refused → has_finished a ≡ false → After (calls c m stop)
    after_refused c m names stop a e r n =
        still (calls c m stop) (same_view (vol.view (next g vol s (calls c m stop)).state) (vol.view s.state) (laws.not_finished s m ok names c stop a (ap answered e) (λ q. not_both (has_finished a) (ap has_finished q) n)))
        (λ z. rw (e, r, noted_refused) refl) (rw (e, n) refl)

    -- ---- every event
    call_moved : (c : Call) (m : vol.Names) → NamesAll g vol s m → (stop : ℕ) → ((vol.call c m s.state stop s.memory).answer ≡ Finished → After (calls c m stop)) → halts s (calls c m stop) ≡ false → After (calls c m stop)
    call_moved c m names stop finished goes = by (vol.call c m s.state stop s.memory).answer refl
      where
        by : (a : Answer) → (vol.call c m s.state stop s.memory).answer ≡ a → After (calls c m stop)
        by Finished e = finished e
        by Unfinished e = not_both (is_stopped Unfinished) refl (sym (ap is_stopped e) ∙ goes)
        by (Refused n) e = after_refused c m names stop (Refused n) e refl refl
        by (BadLog b) e = after_refused c m names stop (BadLog b) e refl refl

    -- a finished write stores to its zone
    write_stores_lem : (w : WriteAsked) (m : vol.Names) (stop : ℕ) → (vol.call (writes w) m s.state stop s.memory).answer ≡ Finished → (eqb w.host h ≡ true → NoStore g vol s (calls (writes w) m stop)) → eqb w.host h ≡ false
    write_stores_lem w m stop e own = by (eqb w.host h) refl
      where
        by : (b : Bool) → eqb w.host h ≡ b → eqb w.host h ≡ false
        by true o = let q = own o (zone_asked g w) in not_both true refl (rw (e, eqb_same (zone_asked g w)) at q)
        by false o = o

    pub moved : (desk : ℕ) (e : Event vol) → Duty g vol s e → MayStand desk e → halts s e ≡ false → (eqb desk h ≡ true → NoStore g vol s e) → After e
    moved desk (calls mounts m stop) d k goes own = absurd k
    moved desk (calls (writes w) m stop) (n, r, c) k goes own =
        call_moved (writes w) m n stop (λ e. after_write_lem m n r stop w e (write_stores_lem w m stop e (λ o. own (ap (λ (i : ℕ). eqb i h) (sym k) ∙ o)))) goes
    moved desk (calls flushes m stop) (n, r, c) k goes own = call_moved flushes m n stop (after_flush_lem m n r stop) goes
    moved desk (calls (resets z) m stop) (n, r, c) k goes own = call_moved (resets z) m n stop (after_reset_lem m n r stop z) goes
    moved desk (calls (formats array) m stop) d k goes own = absurd k
    moved desk (calls (compacts x) m stop) (n, r, c) k goes own = call_moved (compacts x) m n stop (after_compact m n r stop x) goes
    moved desk (looks m) d k goes own = still (looks m) (same_view _ _ refl) (λ z. refl) refl
    moved desk (reads m a count out) d k goes own = still (reads m a count out) (same_view _ _ refl) (λ z. refl) refl
    moved desk (peeks m a) d k goes own = still (peeks m a) (same_view _ _ refl) (λ z. refl) refl
    moved desk (reports list) d k goes own = still (reports list) (same_view _ _ refl) (λ z. refl) refl
    moved desk (cuts m) d k goes own = absurd k
    moved desk (loses x m) d k goes own = still (loses x m) (same_view _ _ refl) (λ z. refl) refl
