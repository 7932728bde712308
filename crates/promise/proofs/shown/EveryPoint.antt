-- What follows at a point of a history from the invariant, and from the shares that fit and the blank spares between finished calls, holds at every point of every
-- history, on drives that cache resets.
use Rattle.std.specs.Prelude.{◌≡◌, Bool, true, ℕ, ◌^◌, ◌<◌, List}
use Rattle.std.proofs.Common.{arith}
use Rattle.tables.specs.meaning.Device.{Device, apply_all}
use Rattle.tables.specs.declared.Geometry.{Geometry}
use Rattle.tables.specs.meaning.Geometry.{Valid}
use Rattle.tables.specs.meaning.GeometryTest.{is_valid}
use Rattle.tables.specs.laws.GeometryTest.{valid_if_test}
use Rattle.volume.specs.declared.Answer.TheVariants.{Finished}
use Rattle.volume.specs.meaning.State.{StateView, with_shares}
use Rattle.volume.specs.meaning.Hosts.{fresh_shares}
use Rattle.volume.specs.meaning.Calls.{format_stores, format_state}
use Rattle.volume.specs.meaning.Refusals.{TableLengths, tables_fit, first_refusal, format_rows, bad_pointers}
use Rattle.volume.specs.meaning.Answers.{left_out, named_drives}
use Rattle.volume.specs.laws.Refusals.{accepted_row}
use Rattle.promise.specs.meaning.Claim.{System, Event, Duty, Dutiful, next, start, formats}
use Rattle.promise.specs.meaning.OnDevice.{on_device}
use Rattle.promise.specs.meaning.Caches.{WithCaches, beneath, device_caches, on_caching_device}
use Rattle.promise.specs.meaning.Histories.{AtEveryPoint}
use Rattle.promise.proofs.invariant.Throughout.{every_point}
use Rattle.promise.proofs.emptying.BlankSpares.{BlankSpares}
use Rattle.promise.proofs.device.AcceptedCalls.{storing_finished}
use Rattle.promise.proofs.device.AtRestAnswers.{left_out_lem, drives_named}
use Rattle.promise.proofs.device.ClaimEvents.{Ok}
use Rattle.promise.proofs.device.CachedPromise.{beneath_keeps}
use Rattle.promise.proofs.device.CachedEvents.{HoldsOn, holds_next, ok_beneath, caching_start}
use Rattle.promise.proofs.device.SharesKept.{Shared}
use Rattle.promise.proofs.device.CachedClaim.{caches_owed}
use Rattle.promise.proofs.device.BlankAtRest.{BlankAtRest, format_blank, event_blank}

-- what is known at a point
pub record Known (g : Geometry) (t : TableLengths) (s : System (on_device g t)) : Type 0 where
  pub ok : Ok g t s
  pub shared : Shared g t s
  pub blank : BlankAtRest g t s

-- and on drives that cache resets
pub record CachedKnown (g : Geometry) (t : TableLengths) (s : System (on_caching_device g t)) : Type 0 where
  pub holds : HoldsOn g t s
  pub blank : BlankAtRest g t (beneath (on_device g t) (device_caches g t) s)

module _ (g : Geometry) (valid : Valid g) (t : TableLengths) (s : System (on_caching_device g t)) (k : CachedKnown g t s) where
  abbrev under : System (on_device g t)
  under = beneath (on_device g t) (device_caches g t) s

  pub known : Known g t under
  known = record { ok = ok_beneath g t s k.holds.ok; shared = k.holds.shared; blank = k.blank }

  pub known_next : (e : Event (on_caching_device g t)) → Duty g (on_caching_device g t) s e → CachedKnown g t (next g (on_caching_device g t) s e)
  known_next e d = record {
    holds = holds_next g valid t (caches_owed g valid) s k.holds e d;
    blank = beneath_keeps g (on_device g t) (device_caches g t) s (BlankAtRest g t) k.blank (event_blank g valid t under known.ok k.blank) (λ m q. absurd (let z : ◌≡◌ {A = ℕ} 0 1 = cc in omega arith)) e d;
  }

-- the spares are blank after the format at the head
pub start_blank : (g : Geometry) → Valid g → (t : TableLengths) (named : ℕ → Bool) (array : ℕ) (old : StateView) (stop : ℕ) (v : Device) → array < 256 ^ 8 → ((on_device g t).call (formats array) named old stop v).answer ≡ Finished
    → BlankSpares g (left_out g named) ((on_device g t).call (formats array) named old stop v).memory
unfolding format_rows
start_blank g valid t named array old stop v h e =
    let x = left_out g named in
    let rows = format_rows g t (bad_pointers g named v) named v in
    let stores = format_stores g (named_drives g named) x array in
    let (p, q) = storing_finished (first_refusal rows) stores (with_shares (fresh_shares g (named_drives g named)) (format_state x)) old stop v e in
    let b : BlankSpares g x (apply_all stores v) = rw (drives_named g valid named (accepted_row rows p 4)) (format_blank g valid x array v (left_out_lem g named) h) in
    rw (p, q) b

-- after the format at the head
pub at_every_point : (g : Geometry) (t : TableLengths) (P : System (on_caching_device g t) → Type 0)
    → (is_valid g ≡ true → tables_fit g t ≡ true → (s : System (on_caching_device g t)) → Known g t (beneath (on_device g t) (device_caches g t) s) → P s)
    → (named : ℕ → Bool) (array : ℕ) (old : StateView) (stop : ℕ) (m : WithCaches Device) → array < 256 ^ 8 → let vol = on_caching_device g t in let r = vol.call (formats array) named old stop m in
    r.answer ≡ Finished → (es : List (Event vol)) → Dutiful g vol (start g vol named r) es → AtEveryPoint g vol P (start g vol named r) es
at_every_point g t P gives named array old stop m h e es d =
    let (wb, lf, o) = caching_start g t named array old stop m h e in
    let valid = valid_if_test g wb in
    every_point g (on_caching_device g t) (CachedKnown g t) P (λ s k. gives wb lf s (known g valid t s k)) (known_next g valid t) (start g (on_caching_device g t) named ((on_caching_device g t).call (formats array) named old stop m))
    (record { holds = o; blank = λ i. start_blank g valid t named array old stop m.memory h e }) es d
