-- The claim about emptyings (promise's meaning/Emptied) holds of C's bytes: what a function stopped anywhere leaves holds the tables that the call leaves, and a cut of it holds
-- what a cut leaves of them.
use Rattle.std.specs.Prelude.{◌≡◌, true, ℕ, List}
use Rattle.std.proofs.Common.{sym, ap, ◌∙◌, subst}
use Rattle.tables.specs.declared.Geometry.{Geometry}
use Rattle.tables.specs.meaning.Geometry.{Valid}
use Rattle.tables.specs.meaning.GeometryTest.{is_valid}
use Rattle.tables.specs.laws.GeometryTest.{valid_if_test}
use Rattle.tables.specs.meaning.Device.{Device}
use Rattle.tables.specs.meaning.Tables.{Tables, device_of}
use Rattle.volume.specs.meaning.Rules.{Shown}
use Rattle.volume.specs.meaning.CallContracts.{view_state, is_set}
use Rattle.promise.specs.meaning.Claim.{Call, mounts, resets, formats, compacts, System, NamesAll, start}
use Rattle.promise.specs.meaning.OnDevice.{shown_by}
use Rattle.promise.specs.meaning.OnTables.{shown_in}
use Rattle.promise.specs.meaning.Caches.{WithCaches}
use Rattle.promise.specs.meaning.CachesOnTables.{TablesCachingCut, on_caching_tables}
use Rattle.promise.specs.meaning.Histories.{ShowsAlike}
use Rattle.promise.specs.meaning.Emptied.{AlikeUpTo, Emptyings, flush_end, emptyings_of_compact, emptyings_of_reset, emptyings_of_mount, parity_emptyings_of_mount, entry_made, stopped_at, KeepsLooks, EmptyingsKeepLooks, EmptyingsShowAlike}
use Rattle.promise.proofs.invariant.Throughout.{every_point}
use Rattle.promise.proofs.tables.EmptyingTables.{tables_emptyings_keep}
use Rattle.zrv.specs.meaning.Bytes.{state_from}
use Rattle.zrv.specs.meaning.EdgeCalls.{named_of, format_edge}
use Rattle.zrv_promise.specs.meaning.OnBytes.{LentBytes, ranges_of, tables_at}
use Rattle.zrv_promise.specs.meaning.CachesOnBytes.{on_caching_bytes}
use Rattle.zrv_promise.specs.bytes.BytesClaimProof.{finished_code, begins}
use Rattle.zrv_promise.specs.bytes.CachedBytesClaim.{view_cached, BytesOkCached, tables_ok, bytes_event_cached, bytes_start_cached}
use Rattle.zrv_promise.specs.bytes.CallsHeld.{held_by, answer_held, call_held}

-- the device that bytes stand for
abbrev pub device_in : Geometry → WithCaches LentBytes → Device
device_in g m = device_of g (tables_at g m.memory)

module _ (g : Geometry) (ok : Valid g) (wb : is_valid g ≡ true) (s : System (on_caching_bytes g)) (o : BytesOkCached g s) where
  abbrev tables : System (on_caching_tables g)
  tables = view_cached g s

  -- of a function, from the call on the tables
  on_bytes_lem : (c : Call) (mask : ℕ) → NamesAll g (on_caching_bytes g) s mask → (E : Emptyings) (Alike : ℕ → Shown → Shown → Type 0)
      → KeepsLooks g (on_caching_tables g) tables c (named_of mask) E Alike → KeepsLooks g (on_caching_bytes g) s c mask E Alike
  on_bytes_lem c mask n E Alike keeps d k u unf m cut y by some nb =
      let at : (i : ℕ) → held_by g (stopped_at g (on_caching_bytes g) s c mask i) ≡ stopped_at g (on_caching_tables g) tables c (named_of mask) i = λ i. call_held g ok wb s o c mask n i in
      let left = subst (λ (r : WithCaches Tables). TablesCachingCut g s.lost r.memory r.was (tables_at g m.memory)) (at k) cut.left.1 in
      let p = keeps d k u (sym (answer_held g ok wb s o c mask n k) ∙ unf) (held_by g m) (record { left = left; forgotten = cut.forgotten }) y by (named_of some) nb in
      subst (λ (r : WithCaches Tables). Alike d (shown_in g (named_of some) r.memory r.memory) (shown_in g (named_of some) (tables_at g m.memory) (tables_at g m.memory))) (sym (at (flush_end g s.lost E d))) p

  names_held : (mask : ℕ) → NamesAll g (on_caching_bytes g) s mask → NamesAll g (on_caching_tables g) tables (named_of mask)
  names_held mask n = record { drives = n.drives }

  -- at a point
  bytes_emptyings_keep : EmptyingsKeepLooks g (on_caching_bytes g) (device_in g) s
  bytes_emptyings_keep =
      let p = tables_emptyings_keep g ok tables (tables_ok g ok wb s o) in
      let x = s.lost in
      let v = device_in g s.memory in
      let state = view_state (state_from g s.state) in
      record {
        of_compact = λ mask n m d. on_bytes_lem (compacts d) mask n (emptyings_of_compact g x v state d) (λ e. ShowsAlike g) (p.of_compact (named_of mask) (names_held mask n) m d);
        of_reset = λ mask n m z. on_bytes_lem (resets z) mask n (emptyings_of_reset g x v state) (λ d. ShowsAlike g) (p.of_reset (named_of mask) (names_held mask n) m z);
        of_mount = λ mask n m. on_bytes_lem mounts mask n (emptyings_of_mount g x v) (λ d. ShowsAlike g) (p.of_mount (named_of mask) (names_held mask n) m);
        of_mount_parity = λ mask n m. on_bytes_lem mounts mask n (parity_emptyings_of_mount g x v) (λ d. AlikeUpTo g (entry_made g x v d) (λ z. ((shown_by g (is_set (named_of mask)) v v).zone z).pointer)) (p.of_mount_parity (named_of mask) (names_held mask n) m);
      }

-- THE THEOREM
pub bytes_emptyings_keep_looks : (g : Geometry) → EmptyingsShowAlike g (on_caching_bytes g) (device_in g)
bytes_emptyings_keep_looks g mask array old stop m small e es d =
    let h = finished_code (format_edge g mask array stop (ranges_of m.memory old)).code e in
    let wb = (begins g mask array stop old m.memory small h).0 in
    let ok = valid_if_test g wb in
    every_point g (on_caching_bytes g) (BytesOkCached g) (EmptyingsKeepLooks g (on_caching_bytes g) (device_in g)) (bytes_emptyings_keep g ok wb) (bytes_event_cached g ok wb)
    (start g (on_caching_bytes g) mask ((on_caching_bytes g).call (formats array) mask old stop m)) (bytes_start_cached g mask array stop old m.memory m.was small h) es d
