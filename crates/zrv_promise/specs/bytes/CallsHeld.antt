-- The tables that bytes hold after a function of the C edge, with what the caches remember, are those that the call on the tables leaves; and it answers the same.
use Rattle.std.specs.Prelude.{◌≡◌, true, ℕ, List}
use Rattle.std.proofs.Common.{ap}
use Rattle.tables.specs.declared.Geometry.{Geometry}
use Rattle.tables.specs.meaning.Geometry.{Valid}
use Rattle.tables.specs.meaning.GeometryTest.{is_valid}
use Rattle.tables.specs.meaning.Tables.{Tables}
use Rattle.volume.specs.declared.State.{State}
use Rattle.volume.specs.meaning.Answers.{CallResult}
use Rattle.promise.specs.meaning.Claim.{Call, System, NamesAll}
use Rattle.promise.specs.meaning.Caches.{WithCaches, beneath}
use Rattle.promise.specs.meaning.CachesOnTables.{on_caching_tables}
use Rattle.promise.proofs.device.CachedPromise.{names_beneath}
use Rattle.zrv.specs.meaning.Bytes.{state_from}
use Rattle.zrv.specs.meaning.EdgeCalls.{named_of}
use Rattle.zrv_promise.specs.meaning.OnBytes.{LentBytes, tables_at, on_bytes}
use Rattle.zrv_promise.specs.meaning.CachesOnBytes.{bytes_caches, on_caching_bytes}
use Rattle.zrv_promise.specs.bytes.BytesClaimProof.{call_views, answers}
use Rattle.zrv_promise.specs.bytes.CachedBytesClaim.{BytesOkCached}

abbrev pub held_by : (g : Geometry) → WithCaches LentBytes → WithCaches Tables
held_by g m = record { memory = tables_at g m.memory; was = m.was }

module _ (g : Geometry) (ok : Valid g) (wb : is_valid g ≡ true) (s : System (on_caching_bytes g)) (o : BytesOkCached g s) (c : Call) (mask : ℕ) (n : NamesAll g (on_caching_bytes g) s mask) (stop : ℕ) where
  abbrev s0 : System (on_bytes g)
  s0 = beneath (on_bytes g) (bytes_caches g) s

  abbrev names : NamesAll g (on_bytes g) (beneath (on_bytes g) (bytes_caches g) s) mask
  names = names_beneath g (on_bytes g) (bytes_caches g) s mask n

  abbrev here : CallResult (WithCaches LentBytes) (List ℕ)
  here = (on_caching_bytes g).call c mask s.state stop s.memory

  abbrev there : CallResult (WithCaches Tables) State
  there = (on_caching_tables g).call c (named_of mask) (state_from g s.state) stop (held_by g s.memory)

  pub answer_held : here.answer ≡ there.answer
  answer_held = answers g ok wb s0 o.plain mask names c stop

  pub call_held : held_by g here.memory ≡ there.memory
  call_held = let e = ap (λ (r : CallResult Tables State). r.memory) (call_views g ok wb s0 o.plain mask names c stop) in λ i. record { memory = e i; was = there.memory.was }
