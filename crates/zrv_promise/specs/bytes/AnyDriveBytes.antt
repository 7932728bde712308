-- Any drive may go after a mount (promise's meaning/AnyDrive), of C's bytes: the tables that they hold stand for a device with caches; and at every point of a history they
-- are bytes, so a drive may be lost there with its memory as it was. On drives that cache resets, and so on older ones.
use Rattle.std.specs.Prelude.{◌≡◌, refl, true, ℕ, List}
use Rattle.std.proofs.Common.{sym, ap, ◌∙◌, subst}
use Rattle.tables.specs.declared.Geometry.{Geometry}
use Rattle.tables.specs.meaning.Geometry.{Valid}
use Rattle.tables.specs.meaning.GeometryTest.{is_valid}
use Rattle.tables.specs.laws.GeometryTest.{valid_if_test}
use Rattle.tables.specs.laws.PointerOrder.{loss_none}
use Rattle.tables.specs.meaning.Tables.{Tables, device_of}
use Rattle.tables.specs.meaning.Cached.{Caching}
use Rattle.volume.specs.declared.State.{State}
use Rattle.volume.specs.declared.Answer.TheVariants.{Finished}
use Rattle.volume.specs.meaning.Answers.{CallResult}
use Rattle.volume.specs.meaning.Mount.{mount_state}
use Rattle.volume.specs.meaning.CallContracts.{is_set, view_state}
use Rattle.promise.specs.meaning.Claim.{Call, mounts, formats, System, calls, Duty, SameZones, start}
use Rattle.promise.specs.meaning.Caches.{WithCaches, beneath}
use Rattle.promise.specs.meaning.OnTables.{shown_in, on_tables}
use Rattle.promise.specs.meaning.CachesOnTables.{on_caching_tables}
use Rattle.promise.specs.meaning.AnyDrive.{NoneStored, AnyDriveClaim}
use Rattle.promise.proofs.device.CachedPromise.{names_beneath}
use Rattle.promise.proofs.shown.MountSettles.{Settled}
use Rattle.promise.proofs.shown.AnyDrive.{StandsFor, any_drive_from}
use Rattle.promise.proofs.tables.CallsSeen.{seen_as}
use Rattle.promise.proofs.shown.AnyDriveCaching.{caches_stay, tables_seen}
use Rattle.promise.proofs.shown.AnyDriveOlder.{older_any_drive}
use Rattle.zrv.specs.meaning.Bytes.{state_from}
use Rattle.zrv.specs.meaning.EdgeCalls.{named_of, format_edge}
use Rattle.zrv.specs.laws.StateRoundTrip.{shown_read_back}
use Rattle.zrv_promise.specs.meaning.OnBytes.{LentBytes, ranges_of, tables_at, on_bytes}
use Rattle.zrv_promise.specs.meaning.CachesOnBytes.{bytes_caches, on_caching_bytes}
use Rattle.zrv_promise.specs.bytes.BytesClaimProof.{byte_at_lem, finished_code, BytesOk, call_views, answers, begins}
use Rattle.zrv_promise.specs.bytes.CallsHeld.{held_by, answer_held, call_held}
use Rattle.zrv_promise.specs.bytes.CachedBytesClaim.{view_cached, BytesOkCached, tables_ok, bytes_promise_cached, bytes_event_cached, bytes_start_cached, bytes_older_cuts}

-- ---- the loss of a drive that keeps its memory
bytes_stay : (g : Geometry) (s : System (on_bytes g)) → BytesOk g s → (x : ℕ) → (on_bytes g).LossTo x s.memory s.memory
bytes_stay g s o x = (
  record {
    written_long = refl;
    durable_long = refl;
    written_bytes = λ i. byte_at_lem s.memory.written i o.written_bytes;
    durable_bytes = λ i. byte_at_lem s.memory.durable i o.durable_bytes;
  },
  loss_none g x (tables_at g s.memory),
)

-- ---- the device that bytes stand for: that of the tables which they hold
module _ (g : Geometry) (ok : Valid g) (wb : is_valid g ≡ true) (s : System (on_caching_bytes g)) (o : BytesOkCached g s) (c : Call) (mask stop : ℕ) (d : Duty g (on_caching_bytes g) s (calls c mask stop)) where
  duty_there : Duty g (on_caching_tables g) (view_cached g s) (calls c (named_of mask) stop)
  duty_there = (record { drives = d.0.drives }, d.1, rw (answer_held g ok wb s o c mask d.0 stop) at d.2)

bytes_seen : (g : Geometry) (ok : Valid g) → is_valid g ≡ true → StandsFor g (on_caching_bytes g) (λ m. seen_as g (held_by g m)) (BytesOkCached g)
bytes_seen g ok wb =
    let t = tables_seen g ok in
    record {
      shows_is = λ s o mask n. t.shows_is (view_cached g s) (tables_ok g ok wb s o) (named_of mask) (record { drives = n.drives });
      tells_is = λ mask m.
          let t = tables_at g m.memory in
          subst (λ (x : State). SameZones g (view_state x) (mount_state (shown_in g (named_of mask) (tables_at g m.memory) (tables_at g m.memory)))) (sym (shown_read_back g (is_set (named_of mask)) (device_of g t) (device_of g t) ok)) ((tables_seen g ok).tells_is (named_of mask) (held_by g m));
      mount_settled = λ s o mask count d e.
          subst (λ (m : WithCaches Tables). Settled g s.lost (seen_as g m)) (sym (call_held g ok wb s o mounts mask d.0 count))
          (t.mount_settled (view_cached g s) (tables_ok g ok wb s o) (named_of mask) count (duty_there g ok wb s o mounts mask count d) (sym (answer_held g ok wb s o mounts mask d.0 count) ∙ e));
      none_stored = λ s o c mask stop d h.
          ap (seen_as g) (call_held g ok wb s o c mask d.0 stop) ∙ t.none_stored (view_cached g s) (tables_ok g ok wb s o) c (named_of mask) stop (duty_there g ok wb s o c mask stop d) (rw (answer_held g ok wb s o c mask d.0 stop) at h);
      cut_is = λ s o m d. t.cut_is (view_cached g s) (tables_ok g ok wb s o) (held_by g m) (record { left = d.left.1; forgotten = d.forgotten });
    }

-- THE THEOREM
pub any_drive_on_caching_bytes : (g : Geometry) → AnyDriveClaim g (on_caching_bytes g)
any_drive_on_caching_bytes g mask array old stop m small e =
    let h = finished_code (format_edge g mask array stop (ranges_of m.memory old)).code e in
    let wb = (begins g mask array stop old m.memory small h).0 in
    let ok = valid_if_test g wb in
    any_drive_from g ok (on_caching_bytes g) (λ m. seen_as g (held_by g m)) (BytesOkCached g) (bytes_promise_cached g ok wb) (bytes_event_cached g ok wb) stay (bytes_seen g ok wb) (start g (on_caching_bytes g) mask ((on_caching_bytes g).call (formats array) mask old stop m))
    (bytes_start_cached g mask array stop old m.memory m.was small h)
  where
    stay : (s : System (on_caching_bytes g)) → BytesOkCached g s → (x : ℕ) → (on_caching_bytes g).LossTo x s.memory s.memory
    stay s o x = caches_stay (on_bytes g) (bytes_caches g) x s.memory (bytes_stay g (beneath (on_bytes g) (bytes_caches g) s) o.plain x)

pub any_drive_on_bytes : (g : Geometry) → AnyDriveClaim g (on_bytes g)
any_drive_on_bytes g = older_any_drive g (on_bytes g) (bytes_caches g) (bytes_older_cuts g) (any_drive_on_caching_bytes g)
