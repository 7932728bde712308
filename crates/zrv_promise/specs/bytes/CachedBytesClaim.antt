-- The promise on bytes holds on drives that cache resets: at every point of a history what holds of the bytes (BytesClaimProof) holds, and the tables in them,
-- with what the caches remember, are as promise's CachedTablesClaim has them.
use Rattle.std.specs.Prelude.{◌≡◌, refl, ◌⊎◌, Bool, true, ℕ, ◌^◌, ◌<◌, List}
use Rattle.std.proofs.Common.{sym, subst, inl, inr}
use Rattle.tables.specs.declared.Geometry.{Geometry}
use Rattle.tables.specs.meaning.Geometry.{Valid}
use Rattle.tables.specs.meaning.GeometryTest.{is_valid}
use Rattle.tables.specs.laws.GeometryTest.{valid_if_test}
use Rattle.tables.specs.meaning.Drives.{no_drive}
use Rattle.tables.specs.meaning.Tables.{Tables, device_of, TablesLoss}
use Rattle.tables.specs.laws.TablesRefine.{loss_refines}
use Rattle.volume.specs.declared.State.{State}
use Rattle.volume.specs.meaning.Answers.{CallResult, left_out}
use Rattle.volume.specs.meaning.CallContracts.{is_set, view_state}
use Rattle.promise.specs.meaning.Ledger.{fresh_ledger}
use Rattle.promise.specs.meaning.Claim.{Call, formats, System, Event, calls, looks, reads, peeks, reports, cuts, loses, ready, down, mode_after, ledger_after, next, Duty, Promise, start}
use Rattle.promise.specs.meaning.OnTables.{on_tables}
use Rattle.promise.specs.meaning.Caches.{Remembered, beneath}
use Rattle.promise.specs.meaning.CachesOnTables.{on_caching_tables}
use Rattle.promise.specs.meaning.ResetLasts.{ResetsLast}
use Rattle.promise.proofs.invariant.Throughout.{throughout}
use Rattle.promise.proofs.shown.ResetLasts.{resets_last}
use Rattle.promise.proofs.device.AtRestAnswers.{left_out_lem}
use Rattle.promise.proofs.device.CachedModes.{OkCached, RestsCached, lose_cached}
use Rattle.promise.proofs.device.CachedPromise.{names_beneath, cached_promise}
use Rattle.promise.proofs.device.CachedClaim.{caches_owed}
use Rattle.promise.proofs.device.OlderDrives.{OlderCuts, older_drives}
use Rattle.promise.proofs.tables.TablesEvents.{TablesOk}
use Rattle.promise.proofs.tables.CachedTables.{TablesOkCached}
use Rattle.promise.proofs.tables.CachedTablesClaim.{tables_event_cached, tables_start_cached, tables_older_cuts}
use Rattle.zrv.specs.meaning.Bytes.{state_from}
use Rattle.zrv.specs.meaning.EdgeCalls.{named_of, tables_in, format_edge, unread_state}
use Rattle.zrv_promise.specs.meaning.OnBytes.{LentBytes, ranges_of, tables_at, StillBytes, on_bytes, BytesClaim}
use Rattle.zrv_promise.specs.meaning.CachesOnBytes.{bytes_caches, on_caching_bytes, CachingBytesClaim}
use Rattle.zrv_promise.specs.bytes.BytesClaimProof.{bytes_all, finished_code, view_system, BytesOk, call_views, answers, bytes_promise, bytes_event, none_changed, again, read_again, before, edge, made_on_lem, sized, finished, began, begins, left_tables, left_state, bytes_start}

-- ---- the system on the tables that the bytes hold
abbrev pub view_cached : (g : Geometry) → System (on_caching_bytes g) → System (on_caching_tables g)
view_cached g s = record { memory = record { memory = tables_at g s.memory.memory; was = s.memory.was }; lost = s.lost; mode = s.mode; state = state_from g s.state; ledger = s.ledger }

-- what holds of tables in the bytes, with these caches
abbrev Holds : (g : Geometry) → System (on_tables g) → Remembered → Type 0
Holds g s was = OkCached g s.mode s.lost (record { now = device_of g s.memory; was = was }) (view_state s.state) s.ledger

pub record BytesOkCached (g : Geometry) (s : System (on_caching_bytes g)) : Type 0 where
  pub plain : BytesOk g (beneath (on_bytes g) (bytes_caches g) s)
  pub holds : Holds g (view_system g (beneath (on_bytes g) (bytes_caches g) s)) s.memory.was

-- what a cut leaves
cut_plain : (g : Geometry) (s : System (on_bytes g)) → BytesOk g s → (u : LentBytes) → StillBytes s.memory u → let r : System (on_bytes g) = record { memory = u; lost = s.lost; mode = down; state = s.state; ledger = s.ledger } in
    TablesOk g (view_system g r) → BytesOk g r
cut_plain g s o u b k = record { written_bytes = bytes_all u.written b.written_bytes; durable_bytes = bytes_all u.durable b.durable_bytes; taken = rw (b.written_long, b.durable_long) o.taken; holds = k }

module _ (g : Geometry) (ok : Valid g) (wb : is_valid g ≡ true) (s : System (on_caching_bytes g)) (o : BytesOkCached g s) where
  abbrev s0 : System (on_bytes g)
  s0 = beneath (on_bytes g) (bytes_caches g) s

  abbrev t : Tables
  t = tables_at g s.memory.memory

  abbrev st : State
  st = state_from g s.state

  pub tables_ok : TablesOkCached g (view_cached g s)
  tables_ok = record { plain = o.plain.holds; holds = o.holds }

  tables_keep : (e : Event (on_caching_tables g)) → Duty g (on_caching_tables g) (view_cached g s) e → TablesOkCached g (next g (on_caching_tables g) (view_cached g s) e)
  tables_keep = tables_event_cached g ok wb (caches_owed g ok) (view_cached g s) tables_ok

  -- ---- a call leaves what the call on the tables leaves
  abbrev after : Call → List Bool → CallResult Tables State → System (on_tables g)
  after c named r = record { memory = r.memory; lost = s.lost; mode = mode_after r.answer s.mode; state = r.state; ledger = ledger_after g (on_tables g) (view_system g s0) c named r }

  call_cached : (c : Call) (mask stop : ℕ) → Duty g (on_caching_bytes g) s (calls c mask stop) → BytesOkCached g (next g (on_caching_bytes g) s (calls c mask stop))
  call_cached c mask stop (n, may, comp) =
      let m = names_beneath g (on_bytes g) (bytes_caches g) s mask n in
      let e : ((on_bytes g).call c mask s.state stop s.memory.memory).answer ≡ ((on_tables g).call c (named_of mask) st stop t).answer = answers g ok wb s0 o.plain mask m c stop in
      let k = tables_keep (calls c (named_of mask) stop) (record { drives = n.drives }, may, rw e at comp) in
      let r = next g (on_caching_bytes g) s (calls c mask stop) in
      record {
        plain = bytes_event g ok wb s0 o.plain (calls c mask stop) (m, may, comp);
        holds = subst (λ (x : CallResult Tables State). Holds g (after c (named_of mask) x) r.memory.was) (sym (call_views g ok wb s0 o.plain mask m c stop)) k.holds;
      }

  pub bytes_event_cached : (e : Event (on_caching_bytes g)) → Duty g (on_caching_bytes g) s e → BytesOkCached g (next g (on_caching_bytes g) s e)
  bytes_event_cached (calls c mask stop) d = call_cached c mask stop d
  bytes_event_cached (looks mask) d = o
  bytes_event_cached (reads mask a count out) d = o
  bytes_event_cached (peeks mask a) d = o
  bytes_event_cached (reports list) d = o
  bytes_event_cached (cuts u) d =
      let k = tables_keep (cuts (record { memory = tables_at g u.memory; was = u.was })) (record { left = d.left.1; forgotten = d.forgotten }) in
      record { plain = cut_plain g s0 o.plain u.memory d.left.0 k.plain; holds = k.holds }
  bytes_event_cached (loses y u) (h, e, d) = record {
    plain = bytes_event g ok wb s0 o.plain (loses y u.memory) (h, e, d.left);
    holds = (tables_keep (loses y (record { memory = tables_at g u.memory; was = u.was })) (h, e, record { left = d.left.1; same = d.same })).holds;
  }

  pub bytes_promise_cached : Promise g (on_caching_bytes g) s
  bytes_promise_cached = cached_promise g (on_bytes g) (bytes_caches g) s (bytes_promise g ok wb s0 o.plain)

-- ---- the format at the head: of a drive left out the tables read back may differ
module _ (g : Geometry) (mask array stop : ℕ) (old : List ℕ) (m : LentBytes) (was : Remembered) (small : array < 256 ^ 8) (h : (edge g mask array stop old m small).code ≡ 0) where
  abbrev x : ℕ
  x = left_out g (is_set (named_of mask))

  abbrev remembers : Remembered
  remembers = ((on_caching_bytes g).call (formats array) mask old stop (record { memory = m; was = was })).memory.was

  abbrev tables : Tables
  tables = again g (sized g mask array stop old m small h).valid (began g mask array stop old m small h) (begins g mask array stop old m small h).1

  made_rests : RestsCached g x (record { now = device_of g (made_on_lem g mask array stop old m small).tables; was = remembers }) (view_state (made_on_lem g mask array stop old m small).outcome.state) fresh_ledger
  made_rests = (tables_start_cached g (named_of mask) array unread_state stop (record { memory = tables_in g (before g mask array stop old m small); was = was }) small (finished g mask array stop old m small h)).1.holds

  read_rests : RestsCached g x (record { now = device_of g tables; was = remembers }) (view_state (made_on_lem g mask array stop old m small).outcome.state) fresh_ledger
  read_rests = go (left_out_lem g (is_set (named_of mask)))
    where
      ok : Valid g
      ok = (sized g mask array stop old m small h).valid

      lost : TablesLoss g x (made_on_lem g mask array stop old m small).tables tables
      lost = read_again g ok (began g mask array stop old m small h) (begins g mask array stop old m small h).1

      go : (x ≡ no_drive) ⊎ (x < g.drives) → RestsCached g x (record { now = device_of g tables; was = remembers }) (view_state (made_on_lem g mask array stop old m small).outcome.state) fresh_ledger
      go (inl e) = rw (none_changed g ok x e (made_on_lem g mask array stop old m small).tables tables lost) made_rests
      go (inr i) = lose_cached g ok ready x x (record { now = device_of g (made_on_lem g mask array stop old m small).tables; was = remembers }) (record { now = device_of g tables; was = remembers })
          (view_state (made_on_lem g mask array stop old m small).outcome.state) fresh_ledger i (inr refl) (record { now_same = loss_refines g x (made_on_lem g mask array stop old m small).tables tables lost; was_same = λ d z n. refl }) made_rests

  pub bytes_start_cached : BytesOkCached g (start g (on_caching_bytes g) mask ((on_caching_bytes g).call (formats array) mask old stop (record { memory = m; was = was })))
  bytes_start_cached = record {
    plain = bytes_start g mask array stop old m small h;
    holds = subst (λ (u : Tables). RestsCached g x (record { now = device_of g u; was = remembers }) (view_state (state_from g (edge g mask array stop old m small).left.state)) fresh_ledger) (sym (left_tables g mask array stop old m small h))
        (subst (λ (y : State). RestsCached g x (record { now = device_of g tables; was = remembers }) (view_state y) fresh_ledger) (sym (left_state g mask array stop old m small h)) read_rests);
  }

-- THE THEOREM
pub caching_bytes_keep_the_promise : CachingBytesClaim
caching_bytes_keep_the_promise g mask array old stop m small e es d =
    let h = finished_code (format_edge g mask array stop (ranges_of m.memory old)).code e in
    let wb = (begins g mask array stop old m.memory small h).0 in
    let ok = valid_if_test g wb in
    throughout g (on_caching_bytes g) (BytesOkCached g) (bytes_promise_cached g ok wb) (bytes_event_cached g ok wb) (start g (on_caching_bytes g) mask ((on_caching_bytes g).call (formats array) mask old stop m))
    (bytes_start_cached g mask array stop old m.memory m.was small h) es d

-- and a finished reset lasts
pub caching_bytes_resets_last : (g : Geometry) → ResetsLast g (on_caching_bytes g)
caching_bytes_resets_last g = resets_last g (on_caching_bytes g) (caching_bytes_keep_the_promise g)

-- the older claim follows
pub bytes_older_cuts : (g : Geometry) → OlderCuts (on_bytes g) (bytes_caches g)
bytes_older_cuts g x m was u (b, c) = (b, tables_older_cuts g x (tables_at g m) was (tables_at g u) c)

pub bytes_keep_the_promise : BytesClaim
bytes_keep_the_promise g = older_drives g (on_bytes g) (bytes_caches g) (bytes_older_cuts g) (caching_bytes_keep_the_promise g)
