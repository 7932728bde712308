-- Nor do the emptyings of logs read where a geometry places the logs: it is the roles that say it (meaning/Emptying). So neither do refusals 14 and 15.
use Rattle.std.specs.Prelude.{◌≡◌, Bool, true, ℕ, List}
use Rattle.std.proofs.Math.Path.{refl, fun_ext}
use Rattle.tables.specs.declared.Geometry.{Geometry}
use Rattle.tables.specs.meaning.Device.{Device}
use Rattle.tables.specs.meaning.Geometry.{zone_sectors}
use Rattle.logs.specs.meaning.Entry.{Header, Entry, encode}
use Rattle.logs.specs.meaning.Walk.{sectors_of}
use Rattle.logs.specs.meaning.Copies.{copied_general}
use Rattle.volume.specs.meaning.State.{StateView}
use Rattle.volume.specs.meaning.Roles.{Roles}
use Rattle.volume.specs.meaning.Emptying.{InForce, by_state, is_at_pointer, general_copies, parity_copies, new_general, new_parity, new_general_size, new_parity_size, unused_in, stays_full, emptied_for, emptying_stores, emptyings, empty_general, empty_parity, compact_stores, write_all, reset_all, gone_for_copies}
use Rattle.volume.specs.meaning.Hosts.{compact_state}
use Rattle.volume.specs.meaning.Refusals.{mount_full, reset_full, write_full, compact_full}
use Rattle.volume.specs.laws.LogPlaces.{with_logs}
use Rattle.volume.specs.laws.LogsUnread.{encode_alike}
use Rattle.volume.specs.laws.RulesUnread.{heads_alike, entries_alike, value_alike, zone_view_alike, ends_at_alike}
use Rattle.volume.specs.laws.CallsUnread.{entry_at_alike, sectors_of_alike, write_stores_alike, reset_stores_alike}

module _ (g : Geometry) (n : ℕ) where
  pub by_state_alike : (present : ℕ → Bool) (w : Device) (state : StateView) → by_state (with_logs g n) present w state ≡ by_state g present w state
  by_state_alike present w state = simp (value_alike g n)

  -- ---- as functions
  encode_all : (d : ℕ) → encode (with_logs g n) d ≡ encode g d
  encode_all d = fun_ext λ h. encode_alike g n d h

  sectors_all : (d : ℕ) → sectors_of (with_logs g n) d true ≡ sectors_of g d true
  sectors_all d = fun_ext λ e. sectors_of_alike g n d true e

  at_pointer_all : (f : InForce) (z : ℕ) → is_at_pointer (with_logs g n) f z ≡ is_at_pointer g f z
  at_pointer_all f z = fun_ext λ e. ends_at_alike g n z (f.generation z) (f.pointer z) e.head

  -- ---- the copies
  pub general_copies_alike : (f : InForce) (hs : List Header) → general_copies (with_logs g n) f hs ≡ general_copies g f hs
  unfolding general_copies copied_general zone_sectors
  general_copies_alike f hs = refl

  pub parity_copies_alike : (f : InForce) (d : ℕ) (es : List Entry) → parity_copies (with_logs g n) f d es ≡ parity_copies g f d es
  unfolding parity_copies
  parity_copies_alike f d es = simp (at_pointer_all, entry_at_alike g n)

  pub new_general_alike : (f : InForce) (r : Roles) (d : ℕ) (hs : List Header) → new_general (with_logs g n) f r d hs ≡ new_general g f r d hs
  unfolding new_general
  new_general_alike f r d hs = simp (general_copies_alike, encode_all, encode_alike g n)

  pub new_parity_alike : (f : InForce) (r : Roles) (d : ℕ) (es : List Entry) → new_parity (with_logs g n) f r d es ≡ new_parity g f r d es
  unfolding new_parity
  new_parity_alike f r d es = simp (parity_copies_alike, sectors_all, encode_alike g n)

  pub new_general_size_alike : (f : InForce) (hs : List Header) → new_general_size (with_logs g n) f hs ≡ new_general_size g f hs
  unfolding new_general_size
  new_general_size_alike f hs = simp general_copies_alike

  pub new_parity_size_alike : (f : InForce) (d : ℕ) → new_parity_size (with_logs g n) f d ≡ new_parity_size g f d
  unfolding new_parity_size
  new_parity_size_alike f d = refl

  -- ---- which logs are emptied
  pub unused_in_alike : (par : Bool) (r : ℕ → Roles) (w : Device) (d : ℕ) → unused_in (with_logs g n) par r w d ≡ unused_in g par r w d
  unfolding unused_in
  unused_in_alike par r w d = refl

  pub stays_full_alike : (par : Bool) (r : ℕ → Roles) (limit size d : ℕ) → stays_full (with_logs g n) par r limit size d ≡ stays_full g par r limit size d
  unfolding stays_full
  stays_full_alike par r limit size d = refl

  pub emptied_for_alike : (present : ℕ → Bool) (par : Bool) (r : ℕ → Roles) (w : Device) (limit : ℕ) → emptied_for (with_logs g n) present par r w limit ≡ emptied_for g present par r w limit
  unfolding emptied_for unused_in
  emptied_for_alike present par r w limit = refl

  -- ---- their stores
  pub emptying_stores_alike : (present : ℕ → Bool) (d old spare : ℕ) (ss : List (List ℕ)) → emptying_stores (with_logs g n) present d old spare ss ≡ emptying_stores g present d old spare ss
  unfolding emptying_stores
  emptying_stores_alike present d old spare ss = refl

  pub emptyings_alike : (present : ℕ → Bool) (par : Bool) (r : ℕ → Roles) (emptied : ℕ → Bool) (ss : ℕ → List (List ℕ)) → emptyings (with_logs g n) present par r emptied ss ≡ emptyings g present par r emptied ss
  unfolding emptyings emptying_stores
  emptyings_alike present par r emptied ss = refl

  pub empty_general_alike : (present : ℕ → Bool) (r : ℕ → Roles) (f : InForce) (emptied : ℕ → Bool) (w : Device) → empty_general (with_logs g n) present r f emptied w ≡ empty_general g present r f emptied w
  unfolding empty_general
  empty_general_alike present r f emptied w = simp (emptyings_alike, new_general_alike, heads_alike g n)

  pub empty_parity_alike : (present : ℕ → Bool) (r : ℕ → Roles) (f : InForce) (emptied : ℕ → Bool) (w : Device) → empty_parity (with_logs g n) present r f emptied w ≡ empty_parity g present r f emptied w
  unfolding empty_parity
  empty_parity_alike present r f emptied w = simp (emptyings_alike, new_parity_alike, entries_alike g n)

  pub gone_for_copies_alike : (present : ℕ → Bool) (f : InForce) (w : Device) (d : ℕ) → gone_for_copies (with_logs g n) present f w d ≡ gone_for_copies g present f w d
  unfolding gone_for_copies
  gone_for_copies_alike present f w d = simp (at_pointer_all, entries_alike g n, zone_view_alike g n)

  -- ---- refusals 14 and 15
  pub mount_full_alike : (present : ℕ → Bool) (r : ℕ → Roles) (f : InForce) (w : Device) → mount_full (with_logs g n) present r f w ≡ mount_full g present r f w
  unfolding mount_full emptied_for unused_in stays_full
  mount_full_alike present r f w = simp (new_general_size_alike, new_parity_size_alike, heads_alike g n)

  pub reset_full_alike : (present : ℕ → Bool) (r : ℕ → Roles) (f : InForce) (w : Device) → reset_full (with_logs g n) present r f w ≡ reset_full g present r f w
  unfolding reset_full emptied_for unused_in stays_full
  reset_full_alike present r f w = simp (new_general_size_alike, heads_alike g n)

  pub write_full_alike : (present : ℕ → Bool) (r : ℕ → Roles) (w : Device) (share z end : ℕ) → write_full (with_logs g n) present r w share z end ≡ write_full g present r w share z end
  unfolding write_full unused_in
  write_full_alike present r w share z end = refl

  pub compact_full_alike : (r : ℕ → Roles) (f : InForce) (w : Device) (d : ℕ) → compact_full (with_logs g n) r f w d ≡ compact_full g r f w d
  unfolding compact_full stays_full new_parity_size
  compact_full_alike r f w d = refl

  -- ---- write, compact and reset
  pub write_all_alike : (present : ℕ → Bool) (r : ℕ → Roles) (w : Device) (state : StateView) (z : ℕ) (ss : List (List ℕ)) → write_all (with_logs g n) present r w state z ss ≡ write_all g present r w state z ss
  unfolding write_all
  write_all_alike present r w state z ss = simp (write_stores_alike g n)

  pub compact_stores_alike : (present : ℕ → Bool) (r : ℕ → Roles) (w : Device) (state : StateView) (d : ℕ) → compact_stores (with_logs g n) present r w state d ≡ compact_stores g present r w state d
  unfolding compact_stores
  compact_stores_alike present r w state d = simp (empty_parity_alike, value_alike g n)

  pub compact_state_alike : (present : ℕ → Bool) (x : ℕ) (w : Device) (state : StateView) (d : ℕ) → compact_state (with_logs g n) present x w state d ≡ compact_state g present x w state d
  compact_state_alike present x w state d = simp (new_parity_size_alike, value_alike g n)

  pub reset_all_alike : (present : ℕ → Bool) (r : ℕ → Roles) (w : Device) (state : StateView) (z : ℕ) → reset_all (with_logs g n) present r w state z ≡ reset_all g present r w state z
  unfolding reset_all
  reset_all_alike present r w state z = simp (emptied_for_alike, empty_general_alike, value_alike g n, reset_stores_alike g n)
