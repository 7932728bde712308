-- NEITHER DESK CAN TELL WHAT THE OTHER DOES: the claims (Isolation.antt), on the device and on the tables, on older drives and on drives that cache resets.
use Rattle.std.specs.Prelude.{◌≡◌, refl, Bool, true, ℕ, ◌^◌, ◌<◌, List, [], length}
use Rattle.std.proofs.Common.{sym, ap, ◌∙◌, arith}
use Rattle.tables.specs.declared.Geometry.{Geometry}
use Rattle.tables.specs.meaning.Device.{Device}
use Rattle.tables.specs.meaning.Geometry.{Valid}
use Rattle.tables.specs.meaning.GeometryTest.{is_valid}
use Rattle.tables.specs.laws.GeometryTest.{valid_if_test}
use Rattle.tables.specs.meaning.Tables.{Tables}
use Rattle.volume.specs.declared.Answer.TheVariants.{Finished}
use Rattle.volume.specs.declared.Owner.TheVariants.{Nobody}
use Rattle.volume.specs.declared.State.{State}
use Rattle.volume.specs.meaning.State.{StateView, with_shares}
use Rattle.volume.specs.meaning.Calls.{format_stores, format_state}
use Rattle.volume.specs.meaning.Hosts.{fresh_shares}
use Rattle.volume.specs.meaning.Refusals.{TableLengths, first_refusal, tables_fit, format_rows, bad_pointers}
use Rattle.volume.specs.meaning.Answers.{left_out, named_drives}
use Rattle.volume.specs.meaning.CallContracts.{is_set, view_state, format_verdict, format_on, state_held}
use Rattle.promise.specs.meaning.Claim.{mounts, formats, System, calls, answered, heard, next, Duty, start}
use Rattle.promise.specs.meaning.OnDevice.{state_shown, on_device}
use Rattle.promise.specs.meaning.OnTables.{on_tables}
use Rattle.promise.specs.meaning.Caches.{WithCaches, beneath, device_caches, on_caching_device}
use Rattle.promise.specs.meaning.CachesOnTables.{tables_caches, on_caching_tables}
use Rattle.promise.specs.meaning.Isolation.{IsolatedFrom, DesksIsolated, IsolationClaim, IsolationTablesClaim}
use Rattle.promise.proofs.device.AcceptedCalls.{storing_finished}
use Rattle.promise.proofs.device.CachedEvents.{ok_beneath, caching_start}
use Rattle.promise.proofs.shown.EveryPoint.{Known, CachedKnown, known, known_next, start_blank}
use Rattle.promise.proofs.tables.CallRefines.{held_agrees, answer_finished}
use Rattle.promise.proofs.tables.TablesClaimProof.{format_numbered_on, tables_promise, tables_start, tables_start_blank}
use Rattle.promise.proofs.tables.CachedTablesClaim.{tables_start_cached}
use Rattle.promise.proofs.tables.RoomyTables.{TablesKnown, CachedTablesKnown, cached_next}
use Rattle.promise.proofs.tables.RoomyTables as roomy
use Rattle.promise.proofs.isolation.Laws.{Laws}
use Rattle.promise.proofs.isolation.Isolated.{NoOwners, isolated_from}
use Rattle.promise.proofs.isolation.DeviceLaws.{device_laws, state_after_lem}
use Rattle.promise.proofs.isolation.TablesLaws.{tables_laws}
use Rattle.promise.proofs.isolation.CachingLaws.{caching_laws}

-- ==== on the device
module _ (g : Geometry) (t : TableLengths) where
  -- a finished format leaves every zone to nobody, and so does a finished mount
  format_owners : (named : ℕ → Bool) (array : ℕ) (old : StateView) (stop : ℕ) (v : Device) → let r = (on_device g t).call (formats array) named old stop v in r.answer ≡ Finished → NoOwners g (on_device g t) (start g (on_device g t) named r)
  format_owners named array old stop v e z h =
      let (p, q) = storing_finished (first_refusal (format_rows g t (bad_pointers g named v) named v)) (format_stores g (named_drives g named) (left_out g named) array) (with_shares (fresh_shares g (named_drives g named)) (format_state (left_out g named))) old stop v e in
      rw (p, q) refl

  module _ (ok : Valid g) (wb : is_valid g ≡ true) (lf : tables_fit g t ≡ true) where
    mount_owners : (s : System (on_device g t)) (by : ℕ → Bool) (count : ℕ) → heard s (calls mounts by count) ≡ answered Finished → NoOwners g (on_device g t) (next g (on_device g t) s (calls mounts by count))
    mount_owners s by count e z h = rw (state_after_lem g ok t wb lf s by mounts count e) refl

pub device_isolated : IsolationClaim
device_isolated g t = (plain, cached)
  where
    -- what is known once the format has finished
    begun : (named : ℕ → Bool) (array : ℕ) (old : StateView) (stop : ℕ) (m : WithCaches Device) → array < 256 ^ 8 → let r = (on_caching_device g t).call (formats array) named old stop m in
        r.answer ≡ Finished → (is_valid g ≡ true) × (tables_fit g t ≡ true) × CachedKnown g t (start g (on_caching_device g t) named r)
    begun named array old stop m small e =
        let (wb, lf, o) = caching_start g t named array old stop m small e in
        (wb, lf, record { holds = o; blank = λ i. start_blank g (valid_if_test g wb) t named array old stop m.memory small e })

    plain : DesksIsolated g (on_device g t)
    plain named array old stop v small e =
        let (wb, lf, k) = begun named array old stop (record { memory = v; was = λ d z. [] }) small e in
        let ok = valid_if_test g wb in
        isolated_from g (on_device g t) (Known g t) (device_laws g ok t wb lf) (start g (on_device g t) named ((on_device g t).call (formats array) named old stop v)) (known g ok t _ k) (format_owners g t named array old stop v e)
        (λ s by count o d f. mount_owners g t ok wb lf s by count f)

    cached : DesksIsolated g (on_caching_device g t)
    cached named array old stop m small e =
        let (wb, lf, k) = begun named array old stop m small e in
        let ok = valid_if_test g wb in
        isolated_from g (on_caching_device g t) (CachedKnown g t) (caching_laws g (on_device g t) (device_caches g t) (Known g t) (device_laws g ok t wb lf) (CachedKnown g t) (known g ok t) (λ s e k d. known_next g ok t s k e d))
        (start g (on_caching_device g t) named ((on_caching_device g t).call (formats array) named old stop m)) k (format_owners g t named array old stop m.memory e)
        (λ s by count o d f. mount_owners g t ok wb lf (beneath (on_device g t) (device_caches g t) s) by count f)

-- ==== on the tables
module _ (g : Geometry) where
  pub tables_format_owners : (named : List Bool) (array : ℕ) (old : State) (stop : ℕ) (t : Tables) → let r = (on_tables g).call (formats array) named old stop t in r.answer ≡ Finished → NoOwners g (on_tables g) (start g (on_tables g) named r)
  unfolding format_on
  tables_format_owners named array old stop t e z h =
      let x = left_out g (is_set named) in
      let began : StateView = with_shares (fresh_shares g (named_drives g (is_set named))) (format_state x) in
      let (p, q) = answer_finished g (format_verdict g named t) (format_numbered_on g named t) (format_stores g (named_drives g (is_set named)) x array) (state_held g.zones began) old stop t e in
      rw (p, q) (sym ((held_agrees g g.zones began (omega arith)).owner_same z h))

  module _ (wb : is_valid g ≡ true) where
    pub tables_mount_owners : (s : System (on_tables g)) → TablesKnown g s → (by : List Bool) (count : ℕ) → Duty g (on_tables g) s (calls mounts by count) → heard s (calls mounts by count) ≡ answered Finished → NoOwners g (on_tables g) (next g (on_tables g) s (calls mounts by count))
    tables_mount_owners s k by count (n, m, q) e z h =
        let w = (next g (on_tables g) s (calls mounts by count)).memory in
        let shown = state_shown g (is_set by) ((on_tables g).seen s.memory) ((on_tables g).seen w) in
        ap (λ (st : State). (view_state st).owner z) ((tables_promise g (valid_if_test g wb) wb s k.ok).mount_fits by n m count e).0 ∙ sym ((held_agrees g g.zones shown (omega arith)).owner_same z h)

pub tables_isolated : IsolationTablesClaim
tables_isolated g = (plain, cached)
  where
    plain : DesksIsolated g (on_tables g)
    plain named array old stop t small e =
        let (wb, o) = tables_start g named array old stop t small e in
        isolated_from g (on_tables g) (TablesKnown g) (tables_laws g wb) (start g (on_tables g) named ((on_tables g).call (formats array) named old stop t)) (record { ok = o; blank = λ i. tables_start_blank g named array old stop t small e })
        (tables_format_owners g named array old stop t e) (λ s by count k d f. tables_mount_owners g wb s k by count d f)

    cached : DesksIsolated g (on_caching_tables g)
    cached named array old stop m small e =
        let (wb, o) = tables_start_cached g named array old stop m small e in
        let under = roomy.known g wb in
        isolated_from g (on_caching_tables g) (CachedTablesKnown g) (caching_laws g (on_tables g) (tables_caches g) (TablesKnown g) (tables_laws g wb) (CachedTablesKnown g) under (λ s e k d. cached_next g wb s k e d))
        (start g (on_caching_tables g) named ((on_caching_tables g).call (formats array) named old stop m)) (record { ok = o; blank = λ i. tables_start_blank g named array old stop m.memory small e })
        (tables_format_owners g named array old stop m.memory e)
        (λ s by count k d f. tables_mount_owners g wb (beneath (on_tables g) (tables_caches g) s) (under s k) by count (record { drives = d.0.drives }, d.1, d.2) f)
