-- The stores that a call is said to have made (made_on) are the stores that its contract makes, on any input: the tables that it leaves are those after them. So what
-- caches remember of a call is what the tables show of it.
use Rattle.std.specs.Prelude.{◌≡◌, refl, Bool, ℕ, zero, suc, List, [], ◌∷◌, take, eqb}
use Rattle.std.proofs.Common.{ne_eqb}
use Rattle.tables.specs.declared.Geometry.{Geometry}
use Rattle.tables.specs.meaning.Basics.{pick}
use Rattle.tables.specs.meaning.Device.{Store}
use Rattle.tables.specs.meaning.Tables.{Tables, run_stores, make_store, device_of}
use Rattle.volume.specs.declared.State.{State}
use Rattle.volume.specs.meaning.Refusals.{Verdict, refuse, accept, flush_rows, reset_rows, write_rows, compact_rows, format_rows, mount_rows}
use Rattle.volume.specs.meaning.CallContracts.{view_state, is_set, verdict_number, lengths_of, bad_in, roles_of, seen_in, flush_verdict, flush_on, reset_verdict, reset_on, write_verdict, write_on, compact_verdict, compact_on, format_verdict, format_on, mount_verdict, mount_on}
use Rattle.volume.specs.laws.Refusals.{Numbered, numbered}
use Rattle.promise.specs.meaning.Claim.{Call, mounts, writes, flushes, resets, formats, compacts}
use Rattle.promise.specs.meaning.Caches.{made_by}
use Rattle.promise.specs.meaning.OnTables.{on_tables}
use Rattle.promise.specs.meaning.CachesOnTables.{made_on}

-- stores past the count are not made
run_taken : (g : Geometry) (stop : ℕ) (ss : List Store) (t : Tables) → run_stores g stop ss t ≡ run_stores g stop (take stop ss) t
run_taken g zero [] t = refl
run_taken g (suc n) [] t = refl
run_taken g zero (s ∷ ss) t = refl
run_taken g (suc n) (s ∷ ss) t = run_taken g n ss (make_store g s t)

by_verdict : (g : Geometry) (v : Verdict) → Numbered v → (ss : List Store) (stop : ℕ) (t : Tables) → pick (eqb (verdict_number v) 0) (run_stores g stop ss t) t ≡ run_stores g stop (made_by v ss stop) t
by_verdict g (refuse n) h ss zero t = rw (ne_eqb n 0 h) refl
by_verdict g (refuse n) h ss (suc k) t = rw (ne_eqb n 0 h) refl
by_verdict g accept h ss stop t = run_taken g stop ss t

pub made_are_stored : (g : Geometry) (c : Call) (named : List Bool) (state : State) (stop : ℕ) (t : Tables) → ((on_tables g).call c named state stop t).memory ≡ run_stores g stop (made_on g c named state stop t) t
unfolding flush_on flush_verdict flush_rows reset_on reset_verdict reset_rows write_on write_verdict write_rows compact_on compact_verdict compact_rows format_on format_verdict format_rows mount_on mount_verdict mount_rows
made_are_stored g mounts named state stop t = by_verdict g (mount_verdict g named t) (numbered (mount_rows g (lengths_of t) (bad_in g named t) (is_set named) (roles_of g t) (seen_in g t)) refl) _ stop t
made_are_stored g (writes w) named state stop t =
    by_verdict g (write_verdict g named state w t) (numbered (write_rows g (lengths_of t) (bad_in g named t) (is_set named) (view_state state) w (roles_of g t) (seen_in g t)) refl) _ stop t
made_are_stored g flushes named state stop t = by_verdict g (flush_verdict g named state t) (numbered (flush_rows g (lengths_of t) (bad_in g named t) (is_set named) (view_state state) (device_of g t)) refl) _ stop t
made_are_stored g (resets z) named state stop t = by_verdict g (reset_verdict g named state z t) (numbered (reset_rows g (lengths_of t) (bad_in g named t) (is_set named) (view_state state) z (roles_of g t) (seen_in g t)) refl) _ stop t
made_are_stored g (formats array) named state stop t = by_verdict g (format_verdict g named t) (numbered (format_rows g (lengths_of t) (bad_in g named t) (is_set named) (device_of g t)) refl) _ stop t
made_are_stored g (compacts d) named state stop t = by_verdict g (compact_verdict g named state d t) (numbered (compact_rows g (lengths_of t) (bad_in g named t) (is_set named) (view_state state) d (roles_of g t) (seen_in g t)) refl) _ stop t
