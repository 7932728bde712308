-- NO DRIVE FILLS UP, of the code's calls on the tables: what they leave is, seen as a device, what the rules' calls leave (call-agrees), and they answer the same.
use Rattle.std.specs.Prelude.{◌≡◌, Bool, true, ℕ, ◌<◌, List}
use Rattle.std.proofs.Common.{le_trans, le_of_eq, arith}
use Rattle.tables.specs.meaning.Tables.{device_of}
use Rattle.tables.specs.laws.Drives.{present_below}
use Rattle.tables.specs.laws.TablesRefine.{loss_refines}
use Rattle.tables.specs.laws.TablesFrame.{sized_lengths}
use Rattle.tables.specs.declared.Geometry.{Geometry}
use Rattle.tables.specs.meaning.Geometry.{Valid}
use Rattle.tables.specs.meaning.GeometryTest.{is_valid}
use Rattle.tables.specs.laws.GeometryTest.{valid_if_test}
use Rattle.volume.specs.declared.Answer.TheVariants.{Finished, Refused}
use Rattle.volume.specs.meaning.State.{share_at}
use Rattle.volume.specs.meaning.Refusals.{first_refusal}
use Rattle.volume.specs.meaning.CallContracts.{view_state, is_set, lengths_of}
use Rattle.volume.specs.meaning.Emptying.{RoomyGeneral, RoomyParity}
use Rattle.promise.specs.meaning.Claim.{Call, mounts, resets, formats, compacts, ready, answered, heard, NamesAll, System, Event, calls, looks, reads, peeks, reports, cuts, loses, next, Duty, start}
use Rattle.promise.specs.meaning.OnDevice.{call_of}
use Rattle.promise.specs.meaning.OnTables.{on_tables}
use Rattle.promise.specs.meaning.Caches.{beneath}
use Rattle.promise.specs.meaning.CachesOnTables.{tables_caches, on_caching_tables}
use Rattle.promise.specs.meaning.Roomy.{BeforeLast, NeverFull, RoomyTablesClaim}
use Rattle.promise.proofs.invariant.Throughout.{every_point}
use Rattle.promise.proofs.emptying.BlankSpares.{BlankSpares}
use Rattle.promise.proofs.device.AcceptedCalls.{storing_finished}
use Rattle.promise.proofs.device.ClaimEvents.{compact_fits}
use Rattle.promise.proofs.device.Heard.{answer_heard}
use Rattle.promise.proofs.device.BlankAtRest.{event_blank}
use Rattle.promise.proofs.shown.RoomyCalls.{never_full, never_full_beneath}
use Rattle.promise.proofs.tables.MountRefines.{call_refines, heard_as}
use Rattle.promise.proofs.tables.TablesEvents.{view_system, TablesOk, names_seen, call_agrees}
use Rattle.promise.proofs.tables.TablesClaimProof.{tables_start_blank}
use Rattle.promise.proofs.device.CachedPromise.{beneath_keeps}
use Rattle.promise.proofs.device.CachedClaim.{caches_owed}
use Rattle.promise.proofs.tables.CachedTables.{TablesOkCached}
use Rattle.promise.proofs.tables.CachedTablesClaim.{tables_event_cached, tables_start_cached}

-- ---- what is known at a point: the invariant, and blank spares between finished calls
pub record TablesKnown (g : Geometry) (s : System (on_tables g)) : Type 0 where
  pub ok : TablesOk g s
  pub blank : s.mode ≡ ready → BlankSpares g s.lost (device_of g s.memory)

module _ (g : Geometry) (wb : is_valid g ≡ true) (s : System (on_tables g)) (k : TablesKnown g s) where
  ok : Valid g
  ok = valid_if_test g wb

  call_blank : (c : Call) (named : List Bool) (stop : ℕ) → Duty g (on_tables g) s (calls c named stop) → let u = next g (on_tables g) s (calls c named stop) in u.mode ≡ ready → BlankSpares g u.lost (device_of g u.memory)
  call_blank c named stop (n, m, q) =
      let a = call_agrees g ok s k.ok c named stop (call_refines g ok s k.ok named n c stop) in
      let b = event_blank g ok (lengths_of s.memory) (view_system g s) k.ok.holds k.blank (calls c (is_set named) stop) (names_seen g s named n, m, rw a.answer_same q) in
      rw (a.answer_same, a.memory_same) at b

  pub event_blank_on : (e : Event (on_tables g)) → Duty g (on_tables g) s e → let u = next g (on_tables g) s e in u.mode ≡ ready → BlankSpares g u.lost (device_of g u.memory)
  event_blank_on (calls c named stop) d = call_blank c named stop d
  event_blank_on (looks named) d = k.blank
  event_blank_on (reads named a count out) d = k.blank
  event_blank_on (peeks named a) d = k.blank
  event_blank_on (reports list) d = k.blank
  event_blank_on (cuts u) d = λ m. absurd (let z : ◌≡◌ {A = ℕ} 0 1 = cc in omega arith)
  event_blank_on (loses y u) (h, one, lo) = event_blank g ok (lengths_of s.memory) (view_system g s) k.ok.holds k.blank (loses y (device_of g u)) (h, one, loss_refines g y s.memory u lo)

  -- a compact that finished is of one of the drives
  compacted_below : (d : ℕ) (named : List Bool) → NamesAll g (on_tables g) s named → s.mode ≡ ready → (stop : ℕ) → heard (view_system g s) (calls (compacts d) (is_set named) stop) ≡ answered Finished → d < g.drives
  compacted_below d named n m stop e =
      let c = call_of g (lengths_of s.memory) (compacts d) (is_set named) (view_state s.state) (device_of g s.memory) in
      let p = (storing_finished (first_refusal c.refusals) c.stores c.state (view_state s.state) stop (device_of g s.memory) (answer_heard e)).0 in
      present_below g s.lost d (compact_fits g ok (lengths_of s.memory) (view_system g s) k.ok.holds (is_set named) (names_seen g s named n) m d p).here

  -- AT A POINT
  never_full_on : RoomyGeneral g → RoomyParity g → BeforeLast g s.lost (device_of g s.memory) → NeverFull g (on_tables g) s
  never_full_on general parity young =
      let p = never_full g (lengths_of s.memory) general parity wb (sized_lengths g s.memory k.ok.sized) (view_system g s) (record { ok = k.ok.holds; shared = k.ok.shared; blank = k.blank }) young in
      record {
        mount_accepted = λ named n stop i e. p.mount_accepted (is_set named) (names_seen g s named n) stop i (heard_as g ok s k.ok named n mounts stop (Refused i) e);
        reset_not_full = λ named n m z stop e. p.reset_not_full (is_set named) (names_seen g s named n) m z stop (heard_as g ok s k.ok named n (resets z) stop (Refused 14) e);
        compact_not_full = λ named n m d stop e. p.compact_not_full (is_set named) (names_seen g s named n) m d stop (heard_as g ok s k.ok named n (compacts d) stop (Refused 14) e);
        compact_leaves = λ named n m d stop e h hh.
            let r = heard_as g ok s k.ok named n (compacts d) stop Finished e in
            let a = call_agrees g ok s k.ok (compacts d) named stop (call_refines g ok s k.ok named n (compacts d) stop) in
            let low = compacted_below d named n m stop r in
            le_trans (p.compact_leaves (is_set named) (names_seen g s named n) m d stop r h hh) (le_of_eq (a.state_agrees.share_same (share_at d h) (omega (arith, low, ok.drives_most, hh))));
      }

-- ---- on drives that cache resets
pub record CachedTablesKnown (g : Geometry) (s : System (on_caching_tables g)) : Type 0 where
  pub ok : TablesOkCached g s
  pub blank : s.mode ≡ ready → BlankSpares g s.lost (device_of g s.memory.memory)

module _ (g : Geometry) (wb : is_valid g ≡ true) (s : System (on_caching_tables g)) (k : CachedTablesKnown g s) where
  abbrev under : System (on_tables g)
  under = beneath (on_tables g) (tables_caches g) s

  pub known : TablesKnown g under
  known = record { ok = k.ok.plain; blank = k.blank }

  pub cached_next : (e : Event (on_caching_tables g)) → Duty g (on_caching_tables g) s e → CachedTablesKnown g (next g (on_caching_tables g) s e)
  cached_next e d = let valid = valid_if_test g wb in record { ok = tables_event_cached g valid wb (caches_owed g valid) s k.ok e d; blank = beneath_keeps g (on_tables g) (tables_caches g) s (λ u. u.mode ≡ ready → BlankSpares g u.lost (device_of g u.memory)) k.blank (event_blank_on g wb under known) (λ m i. absurd (let z : ◌≡◌ {A = ℕ} 0 1 = cc in omega arith)) e d }

-- THE THEOREM
pub tables_never_full : RoomyTablesClaim
tables_never_full g general parity named array old stop m small e es d =
    let (wb, o) = tables_start_cached g named array old stop m small e in
    let s = start g (on_caching_tables g) named ((on_caching_tables g).call (formats array) named old stop m) in
    every_point g (on_caching_tables g) (CachedTablesKnown g) (λ s. BeforeLast g s.lost (device_of g s.memory.memory) → NeverFull g (on_caching_tables g) s)
    (λ s k young. never_full_beneath g (on_tables g) (tables_caches g) s (never_full_on g wb (under g wb s k) (known g wb s k) general parity young)) (cached_next g wb) s
    (record { ok = o; blank = λ i. tables_start_blank g named array old stop m.memory small e }) es d
