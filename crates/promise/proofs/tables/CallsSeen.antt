-- What a call on the tables leaves stands for what the rules' call leaves, with what the caches remember; and it answers the same.
use Rattle.std.specs.Prelude.{◌≡◌, Bool, ℕ, List}
use Rattle.std.proofs.Common.{sym}
use Rattle.tables.specs.meaning.Device.{Device}
use Rattle.tables.specs.meaning.Cached.{Caching}
use Rattle.tables.specs.meaning.Tables.{Tables, device_of}
use Rattle.tables.specs.declared.Geometry.{Geometry}
use Rattle.tables.specs.meaning.Geometry.{Valid}
use Rattle.volume.specs.meaning.Answers.{CallResult}
use Rattle.volume.specs.meaning.State.{StateView}
use Rattle.volume.specs.meaning.CallContracts.{view_state, is_set, lengths_of}
use Rattle.promise.specs.meaning.Claim.{Call, System, NamesAll}
use Rattle.promise.specs.meaning.OnTables.{result_on, on_tables}
use Rattle.promise.specs.meaning.OnDevice.{on_device}
use Rattle.promise.specs.meaning.Caches.{WithCaches, remembered_after, on_caching_device, beneath}
use Rattle.promise.specs.meaning.CachesOnTables.{tables_caches, on_caching_tables}
use Rattle.promise.proofs.device.CachedPromise.{names_beneath}
use Rattle.promise.proofs.device.CachedEvents.{caching_of}
use Rattle.promise.proofs.tables.CallRefines.{Agrees, view_result}
use Rattle.promise.proofs.tables.TablesEvents.{Refines, call_agrees, made_same}
use Rattle.promise.proofs.tables.MountRefines.{call_refines}
use Rattle.promise.proofs.tables.CachedTables.{view_cached, TablesOkCached}

-- the device with caches that the tables stand for
abbrev pub seen_as : Geometry → WithCaches Tables → Caching
seen_as g m = record { now = device_of g m.memory; was = m.was }

module _ (g : Geometry) (valid : Valid g) (s : System (on_caching_tables g)) (o : TablesOkCached g s) (c : Call) (named : List Bool) (stop : ℕ) (n : NamesAll g (on_caching_tables g) s named) where
  abbrev s0 : System (on_tables g)
  s0 = beneath (on_tables g) (tables_caches g) s

  refines : Refines g (beneath (on_tables g) (tables_caches g) s) c named stop
  refines = call_refines g valid s0 o.plain named (names_beneath g (on_tables g) (tables_caches g) s named n) c stop

  agrees : Agrees g ((on_device g (lengths_of s.memory.memory)).call c (is_set named) (view_state s.state) stop (device_of g s.memory.memory)) (view_result g (result_on g c named s.state stop s.memory.memory))
  agrees = call_agrees g valid s0 o.plain c named stop refines

  -- the rules' call
  abbrev pub ruled : CallResult (WithCaches Device) StateView
  ruled = (on_caching_device g (lengths_of s.memory.memory)).call c (is_set named) (view_state s.state) stop (view_cached g s).memory

  pub answer_seen : ((on_caching_tables g).call c named s.state stop s.memory).answer ≡ ruled.answer
  answer_seen = sym agrees.answer_same

  pub call_seen : seen_as g ((on_caching_tables g).call c named s.state stop s.memory).memory ≡ caching_of ruled.memory
  call_seen =
      let a = agrees.memory_same in
      let m = made_same g valid s0 o.plain c named stop refines in
      λ i. record { now = sym a i; was = remembered_after (m i) (device_of g s.memory.memory) s.memory.was }
