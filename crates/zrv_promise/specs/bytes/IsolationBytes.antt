-- NEITHER DESK CAN TELL WHAT THE OTHER DOES, on C's bytes: what isolation rests on (promise's Laws) holds of each function, which is the call on the tables that the bytes
-- hold. So does isolation, on older drives and on drives that cache resets.
use Rattle.std.specs.Prelude.{◌≡◌, refl, true, ℕ, ◌^◌, ◌<◌, List}
use Rattle.std.proofs.Common.{sym, ap, ap₂, ◌∙◌, subst, inr, arith}
use Rattle.tables.specs.declared.Geometry.{Geometry}
use Rattle.tables.specs.meaning.Geometry.{Valid}
use Rattle.tables.specs.meaning.GeometryTest.{is_valid}
use Rattle.tables.specs.laws.GeometryTest.{valid_if_test}
use Rattle.tables.specs.meaning.Tables.{Tables, device_of}
use Rattle.tables.specs.laws.TablesRefine.{loss_refines}
use Rattle.volume.specs.declared.Answer.{Answer}
use Rattle.volume.specs.declared.Answer.TheVariants.{Finished}
use Rattle.volume.specs.declared.State.{State}
use Rattle.volume.specs.meaning.State.{StateView, with_shares}
use Rattle.volume.specs.meaning.Roles.{roles, by_roles}
use Rattle.volume.specs.meaning.Emptying.{unused_in}
use Rattle.volume.specs.meaning.Hosts.{half_past, renewed_shares}
use Rattle.volume.specs.meaning.Answers.{CallResult}
use Rattle.volume.specs.meaning.CallContracts.{view_state, ReadResult}
use Rattle.promise.specs.meaning.Claim.{Call, mounts, writes, flushes, resets, formats, compacts, System, Event, calls, looks, reads, peeks, reports, cuts, loses, Peeked, read_out, peeked_at, answered, heard, next, ready, mode_after, NamesAll, Duty, start}
use Rattle.promise.specs.meaning.OnTables.{on_tables}
use Rattle.promise.specs.meaning.Caches.{beneath}
use Rattle.promise.specs.meaning.Isolation.{DesksIsolated}
use Rattle.promise.proofs.emptying.BlankSpares.{BlankSpares}
use Rattle.promise.proofs.device.Heard.{answer_heard, answer_alike, read_heard, peek_heard}
use Rattle.promise.proofs.device.BlankAtRest.{loss_blank}
use Rattle.promise.proofs.device.CachedPromise.{beneath_keeps}
use Rattle.promise.proofs.tables.TablesClaimProof.{tables_start_blank}
use Rattle.promise.proofs.tables.RoomyTables.{TablesKnown, event_blank_on}
use Rattle.promise.proofs.isolation.Laws.{SameView, BothReady, Laws}
use Rattle.promise.proofs.isolation.Isolated.{NoOwners, isolated_from}
use Rattle.promise.proofs.isolation.TablesLaws.{tables_laws}
use Rattle.promise.proofs.isolation.CachingLaws.{caching_laws}
use Rattle.promise.proofs.isolation.Proved.{tables_format_owners, tables_mount_owners}
use Rattle.zrv.specs.meaning.Bytes.{state_from}
use Rattle.zrv.specs.meaning.EdgeCalls.{named_of, tables_in, unread_state, format_edge}
use Rattle.zrv_promise.specs.meaning.OnBytes.{LentBytes, ranges_of, tables_at, on_bytes}
use Rattle.zrv_promise.specs.meaning.CachesOnBytes.{bytes_caches, on_caching_bytes, IsolationBytesClaim}
use Rattle.zrv_promise.specs.bytes.CallsOnBytes.{view_bytes}
use Rattle.zrv_promise.specs.bytes.ReadsOnBytes.{read_is, peek_is}
use Rattle.zrv_promise.specs.bytes.BytesClaimProof.{view_system, BytesOk, finished_code, call_views, answers, bytes_event, before, began, again, read_again, sized, finished, begins, left_tables, left_state, bytes_start}
use Rattle.zrv_promise.specs.bytes.CachedBytesClaim.{BytesOkCached, bytes_event_cached, bytes_start_cached}

-- ---- what is known at a point: the invariant, and blank spares between finished calls
abbrev BlankIn : (g : Geometry) → System (on_bytes g) → Type 0
BlankIn g s = s.mode ≡ ready → BlankSpares g s.lost (device_of g (tables_at g s.memory))

pub record BytesKnown (g : Geometry) (s : System (on_bytes g)) : Type 0 where
  pub ok : BytesOk g s
  pub blank : s.mode ≡ ready → BlankSpares g s.lost (device_of g (tables_at g s.memory))

module _ (g : Geometry) (wb : is_valid g ≡ true) where
  abbrev valid : Valid g
  valid = valid_if_test g wb

  tables_known : (s : System (on_bytes g)) → BytesKnown g s → TablesKnown g (view_system g s)
  tables_known s k = record { ok = k.ok.holds; blank = k.blank }

  names_seen : (s : System (on_bytes g)) (mask : ℕ) → NamesAll g (on_bytes g) s mask → NamesAll g (on_tables g) (view_system g s) (named_of mask)
  names_seen s mask n = record { drives = n.drives }

  -- a function leaves what the call on the tables leaves
  leaves : (s : System (on_bytes g)) → BytesKnown g s → (mask : ℕ) → NamesAll g (on_bytes g) s mask → (c : Call) (stop : ℕ)
      → view_bytes g ((on_bytes g).call c mask s.state stop s.memory) ≡ (on_tables g).call c (named_of mask) (state_from g s.state) stop (tables_at g s.memory)
  leaves s k mask n c stop = call_views g valid wb s k.ok mask n c stop

  answer_is : (s : System (on_bytes g)) → BytesKnown g s → (mask : ℕ) → NamesAll g (on_bytes g) s mask → (c : Call) (stop : ℕ)
      → ((on_bytes g).call c mask s.state stop s.memory).answer ≡ ((on_tables g).call c (named_of mask) (state_from g s.state) stop (tables_at g s.memory)).answer
  answer_is s k mask n c stop = answers g valid wb s k.ok mask n c stop

  heard_there : (s : System (on_bytes g)) → BytesKnown g s → (mask : ℕ) → NamesAll g (on_bytes g) s mask → (c : Call) (stop : ℕ) (a : Answer) → heard s (calls c mask stop) ≡ answered a → heard (view_system g s) (calls c (named_of mask) stop) ≡ answered a
  heard_there s k mask n c stop a e = answer_alike (sym (answer_is s k mask n c stop)) e

  event_blank : (s : System (on_bytes g)) → BytesKnown g s → (e : Event (on_bytes g)) → Duty g (on_bytes g) s e → BlankIn g (next g (on_bytes g) s e)
  event_blank s k (calls c mask stop) (n, may, comp) =
      subst (λ (x : CallResult Tables State). mode_after x.answer s.mode ≡ ready → BlankSpares g s.lost (device_of g x.memory)) (sym (leaves s k mask n c stop))
      (event_blank_on g wb (view_system g s) (tables_known s k) (calls c (named_of mask) stop) (names_seen s mask n, may, rw (answer_is s k mask n c stop) at comp))
  event_blank s k (looks mask) d = k.blank
  event_blank s k (reads mask a count out) d = k.blank
  event_blank s k (peeks mask a) d = k.blank
  event_blank s k (reports list) d = k.blank
  event_blank s k (cuts u) d = λ m. absurd (let z : ◌≡◌ {A = ℕ} 0 1 = cc in omega arith)
  event_blank s k (loses y u) (h, one, (b, c)) = event_blank_on g wb (view_system g s) (tables_known s k) (loses y (tables_at g u)) (h, one, c)

  -- ---- the laws
  there : (s o : System (on_bytes g)) (m n : ℕ) → BothReady g (on_bytes g) (BytesKnown g) s o m n → BothReady g (on_tables g) (TablesKnown g) (view_system g s) (view_system g o) (named_of m) (named_of n)
  there s o m n b = record {
    first_ok = tables_known s b.first_ok;
    second_ok = tables_known o b.second_ok;
    first_ready = b.first_ready;
    second_ready = b.second_ready;
    lost = b.lost;
    first_names = names_seen s m b.first_names;
    second_names = names_seen o n b.second_names;
  }

  call_same : (s o : System (on_bytes g)) (m n : ℕ) → BothReady g (on_bytes g) (BytesKnown g) s o m n → (c : Call) (stop : ℕ) → heard (view_system g s) (calls c (named_of m) stop) ≡ heard (view_system g o) (calls c (named_of n) stop) → heard s (calls c m stop) ≡ heard o (calls c n stop)
  call_same s o m n b c stop e = ap answered (answer_is s b.first_ok m b.first_names c stop ∙ answer_heard e ∙ sym (answer_is o b.second_ok n b.second_names c stop))

  -- what the state becomes
  state_is : (s : System (on_bytes g)) → BytesKnown g s → (mask : ℕ) → NamesAll g (on_bytes g) s mask → (c : Call) (stop : ℕ) (b : StateView)
      → SameView g (view_state ((on_tables g).call c (named_of mask) (state_from g s.state) stop (tables_at g s.memory)).state) b → SameView g (view_state (state_from g ((on_bytes g).call c mask s.state stop s.memory).state)) b
  state_is s k mask n c stop b v = subst (λ (x : CallResult Tables State). SameView g (view_state x.state) b) (sym (leaves s k mask n c stop)) v

  pub bytes_laws : Laws g (on_bytes g) (BytesKnown g)
  bytes_laws =
      let laws = tables_laws g wb in
      record {
        kept = λ s e k d. record { ok = bytes_event g valid wb s k.ok e d; blank = event_blank s k e d };
        write_heard = λ s o m n b w stop same counts zones shares. call_same s o m n b (writes w) stop (laws.write_heard (view_system g s) (view_system g o) (named_of m) (named_of n) (there s o m n b) w stop same counts zones shares);
        flush_heard = λ s o m n b stop. call_same s o m n b flushes stop (laws.flush_heard (view_system g s) (view_system g o) (named_of m) (named_of n) (there s o m n b) stop);
        reset_heard = λ s o m n b z stop same logs. call_same s o m n b (resets z) stop (laws.reset_heard (view_system g s) (view_system g o) (named_of m) (named_of n) (there s o m n b) z stop same logs);
        read_heard = λ s o m n b a count out same contents.
            let (p, q) = read_heard (laws.read_heard (view_system g s) (view_system g o) (named_of m) (named_of n) (there s o m n b) a count out same contents) in
            let i = read_is g m s.memory s.state b.first_ok.ok.taken a count out in
            let j = read_is g n o.memory o.state b.second_ok.ok.taken a count out in
            ap₂ read_out (ap (λ (r : ReadResult). r.answer) i ∙ p ∙ sym (ap (λ (r : ReadResult). r.answer) j)) (ap (λ (r : ReadResult). r.buffer) i ∙ q ∙ sym (ap (λ (r : ReadResult). r.buffer) j));
        peek_heard = λ s o m n b a same contents.
            let (p, q, r) = peek_heard (laws.peek_heard (view_system g s) (view_system g o) (named_of m) (named_of n) (there s o m n b) a same contents) in
            let i = peek_is g m s.memory s.state b.first_ok.ok.taken a in
            let j = peek_is g n o.memory o.state b.second_ok.ok.taken a in
            let number = ap (λ (x : Peeked). x.number) i ∙ p ∙ sym (ap (λ (x : Peeked). x.number) j) in
            let from = ap (λ (x : Peeked). x.from) i ∙ q ∙ sym (ap (λ (x : Peeked). x.from) j) in
            let part = ap (λ (x : Peeked). x.part) i ∙ r ∙ sym (ap (λ (x : Peeked). x.part) j) in
            λ t. peeked_at (number t) (from t) (part t);
        write_moves = λ s m k r n w stop e.
            let (v, h, z) = laws.write_moves (view_system g s) (named_of m) (tables_known s k) r (names_seen s m n) w stop (heard_there s k m n (writes w) stop Finished e) in
            (state_is s k m n (writes w) stop _ v, h, z);
        flush_moves = λ s m k r n stop e. state_is s k m n flushes stop _ (laws.flush_moves (view_system g s) (named_of m) (tables_known s k) r (names_seen s m n) stop (heard_there s k m n flushes stop Finished e));
        reset_moves = λ s m k r n z stop e.
            let (v, h) = laws.reset_moves (view_system g s) (named_of m) (tables_known s k) r (names_seen s m n) z stop (heard_there s k m n (resets z) stop Finished e) in
            (state_is s k m n (resets z) stop _ v, h);
        compact_moves = λ s m k r n d stop e.
            subst (λ (x : CallResult Tables State). let w = device_of g x.memory in
            SameView g (view_state x.state) (with_shares (renewed_shares (view_state (state_from g s.state)).share d (half_past g (unused_in g true (roles g w) (by_roles g w) d))) (view_state (state_from g s.state))))
            (sym (leaves s k m n (compacts d) stop)) (laws.compact_moves (view_system g s) (named_of m) (tables_known s k) r (names_seen s m n) d stop (heard_there s k m n (compacts d) stop Finished e));
        not_finished = λ s m k n c stop a e ends.
            ap (λ (x : CallResult Tables State). view_state x.state) (leaves s k m n c stop) ∙ laws.not_finished (view_system g s) (named_of m) (tables_known s k) (names_seen s m n) c stop a (heard_there s k m n c stop a e) ends;
      }

  -- a finished mount leaves every zone to nobody
  mount_owners : (s : System (on_bytes g)) → BytesKnown g s → (by count : ℕ) → Duty g (on_bytes g) s (calls mounts by count) → heard s (calls mounts by count) ≡ answered Finished → NoOwners g (on_bytes g) (next g (on_bytes g) s (calls mounts by count))
  mount_owners s k by count (n, may, comp) e z h =
      ap (λ (x : CallResult Tables State). (view_state x.state).owner z) (leaves s k by n mounts count)
      ∙ tables_mount_owners g wb (view_system g s) (tables_known s k) (named_of by) count (names_seen s by n, may, tt) (heard_there s k by n mounts count Finished e) z h

-- ---- the format at the head
module _ (g : Geometry) (mask array stop : ℕ) (old : List ℕ) (m : LentBytes) (small : array < 256 ^ 8) (e : ((on_bytes g).call (formats array) mask old stop m).answer ≡ Finished) where
  abbrev h : (format_edge g mask array stop (ranges_of m old)).code ≡ 0
  h = finished_code (format_edge g mask array stop (ranges_of m old)).code e

  pub format_owners : NoOwners g (on_bytes g) (start g (on_bytes g) mask ((on_bytes g).call (formats array) mask old stop m))
  format_owners z l =
      ap (λ (x : State). (view_state x).owner z) (left_state g mask array stop old m small h)
      ∙ tables_format_owners g (named_of mask) array unread_state stop (tables_in g (before g mask array stop old m small)) (finished g mask array stop old m small h) z l

  pub format_blank : BlankIn g (start g (on_bytes g) mask ((on_bytes g).call (formats array) mask old stop m))
  format_blank i =
      let ok = (sized g mask array stop old m small h).valid in
      let s = began g mask array stop old m small h in
      let o = (begins g mask array stop old m small h).1 in
      let u = again g ok s o in
      let b = tables_start_blank g (named_of mask) array unread_state stop (tables_in g (before g mask array stop old m small)) small (finished g mask array stop old m small h) in
      rw (left_tables g mask array stop old m small h) (loss_blank g ok s.lost s.lost (device_of g s.memory) (device_of g u) (inr refl) (loss_refines g s.lost s.memory u (read_again g ok s o)) b)

-- ---- on drives that cache resets
record CachedBytesKnown (g : Geometry) (s : System (on_caching_bytes g)) : Type 0 where
  ok : BytesOkCached g s
  blank : s.mode ≡ ready → BlankSpares g s.lost (device_of g (tables_at g s.memory.memory))

module _ (g : Geometry) (wb : is_valid g ≡ true) where
  under : (s : System (on_caching_bytes g)) → CachedBytesKnown g s → BytesKnown g (beneath (on_bytes g) (bytes_caches g) s)
  under s k = record { ok = k.ok.plain; blank = k.blank }

  cached_next : (s : System (on_caching_bytes g)) (e : Event (on_caching_bytes g)) → CachedBytesKnown g s → Duty g (on_caching_bytes g) s e → CachedBytesKnown g (next g (on_caching_bytes g) s e)
  cached_next s e k d = record {
    ok = bytes_event_cached g (valid_if_test g wb) wb s k.ok e d;
    blank = beneath_keeps g (on_bytes g) (bytes_caches g) s (BlankIn g) k.blank (event_blank g wb (beneath (on_bytes g) (bytes_caches g) s) (under s k)) (λ m i. absurd (let z : ◌≡◌ {A = ℕ} 0 1 = cc in omega arith)) e d;
  }

-- THE THEOREM
pub bytes_isolated : IsolationBytesClaim
bytes_isolated g = (plain, cached)
  where
    valid_test : (mask array : ℕ) (old : List ℕ) (stop : ℕ) (m : LentBytes) → array < 256 ^ 8 → ((on_bytes g).call (formats array) mask old stop m).answer ≡ Finished → is_valid g ≡ true
    valid_test mask array old stop m small e = (begins g mask array stop old m small (finished_code (format_edge g mask array stop (ranges_of m old)).code e)).0

    plain : DesksIsolated g (on_bytes g)
    plain mask array old stop m small e =
        let wb = valid_test mask array old stop m small e in
        isolated_from g (on_bytes g) (BytesKnown g) (bytes_laws g wb) (start g (on_bytes g) mask ((on_bytes g).call (formats array) mask old stop m))
        (record { ok = bytes_start g mask array stop old m small (finished_code (format_edge g mask array stop (ranges_of m old)).code e); blank = format_blank g mask array stop old m small e })
        (format_owners g mask array stop old m small e) (λ s by count k d f. mount_owners g wb s k by count d f)

    cached : DesksIsolated g (on_caching_bytes g)
    cached mask array old stop m small e =
        let wb = valid_test mask array old stop m.memory small e in
        isolated_from g (on_caching_bytes g) (CachedBytesKnown g) (caching_laws g (on_bytes g) (bytes_caches g) (BytesKnown g) (bytes_laws g wb) (CachedBytesKnown g) (under g wb) (cached_next g wb))
        (start g (on_caching_bytes g) mask ((on_caching_bytes g).call (formats array) mask old stop m))
        (record { ok = bytes_start_cached g mask array stop old m.memory m.was small (finished_code (format_edge g mask array stop (ranges_of m.memory old)).code e); blank = format_blank g mask array stop old m.memory small e })
        (format_owners g mask array stop old m.memory small e)
        (λ s by count k d f. mount_owners g wb (beneath (on_bytes g) (bytes_caches g) s) (under g wb s k) by count (record { drives = d.0.drives }, d.1, d.2) f)
