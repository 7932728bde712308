-- THE CLAIM ABOUT EMPTYINGS HOLDS of the code's calls on the tables (meaning/Emptied): what a call stopped anywhere leaves stands for what the rules' call leaves, and a cut of it
-- for a cut there.
use Rattle.std.specs.Prelude.{◌≡◌, Bool, ℕ, List}
use Rattle.std.proofs.Common.{sym, ap, ◌∙◌, subst}
use Rattle.tables.specs.meaning.Device.{Device}
use Rattle.tables.specs.meaning.Cached.{Caching, CachingCut}
use Rattle.tables.specs.meaning.Tables.{device_of}
use Rattle.tables.specs.declared.Geometry.{Geometry}
use Rattle.tables.specs.meaning.Geometry.{Valid}
use Rattle.tables.specs.laws.GeometryTest.{valid_if_test}
use Rattle.volume.specs.meaning.Rules.{Shown}
use Rattle.volume.specs.meaning.Refusals.{TableLengths}
use Rattle.volume.specs.meaning.CallContracts.{view_state, is_set, lengths_of}
use Rattle.promise.specs.meaning.Claim.{Call, mounts, resets, formats, compacts, System, NamesAll, start}
use Rattle.promise.specs.meaning.OnDevice.{shown_by}
use Rattle.promise.specs.meaning.Caches.{WithCaches, on_caching_device}
use Rattle.promise.specs.meaning.CachesOnTables.{on_caching_tables}
use Rattle.promise.specs.meaning.Histories.{ShowsAlike}
use Rattle.promise.specs.meaning.Emptied.{AlikeUpTo, Emptyings, flush_end, emptyings_of_compact, emptyings_of_reset, emptyings_of_mount, parity_emptyings_of_mount, entry_made, stopped_at, KeepsLooks, EmptyingsKeepLooks, EmptyingTablesClaim}
use Rattle.promise.proofs.invariant.Throughout.{every_point}
use Rattle.promise.proofs.device.CachedEvents.{caching_of, ok_beneath}
use Rattle.promise.proofs.device.CachedClaim.{caches_owed}
use Rattle.promise.proofs.tables.CachedTables.{caching_cut_refines, view_cached, TablesOkCached}
use Rattle.promise.proofs.tables.CachedTablesClaim.{tables_event_cached, tables_start_cached}
use Rattle.promise.proofs.tables.CallsSeen.{seen_as, answer_seen, call_seen}
use Rattle.promise.proofs.shown.EmptyingsClaimed.{emptyings_keep}

module _ (g : Geometry) (valid : Valid g) (s : System (on_caching_tables g)) (o : TablesOkCached g s) where
  abbrev lengths : TableLengths
  lengths = lengths_of s.memory.memory

  abbrev rules : System (on_caching_device g lengths)
  rules = view_cached g s

  -- of a call, from the rules' call
  on_tables_lem : (c : Call) (named : List Bool) → NamesAll g (on_caching_tables g) s named → (E : Emptyings) (Alike : ℕ → Shown → Shown → Type 0)
      → KeepsLooks g (on_caching_device g lengths) rules c (is_set named) E Alike → KeepsLooks g (on_caching_tables g) s c named E Alike
  on_tables_lem c named n E Alike keeps d k u unf m cut y by some nb =
      let at : (i : ℕ) → seen_as g (stopped_at g (on_caching_tables g) s c named i) ≡ caching_of (stopped_at g (on_caching_device g lengths) rules c (is_set named) i) = λ i. call_seen g valid s o c named i n in
      let r = stopped_at g (on_caching_tables g) s c named k in
      let w : WithCaches Device = record { memory = device_of g m.memory; was = m.was } in
      let left : CachingCut s.lost (caching_of (stopped_at g (on_caching_device g lengths) rules c (is_set named) k)) w.memory = subst (λ (a : Caching). CachingCut s.lost a w.memory) (at k) (caching_cut_refines g s.lost r.memory r.was m.memory cut.left) in
      let p = keeps d k u (sym (answer_seen g valid s o c named k n) ∙ unf) w (record { left = left; forgotten = cut.forgotten }) y by (is_set some) nb in
      subst (λ (v : Device). Alike d (shown_by g (is_set some) v v) (shown_by g (is_set some) (device_of g m.memory) (device_of g m.memory))) (sym (ap (λ (a : Caching). a.now) (at (flush_end g s.lost E d)))) p

  names_seen : (named : List Bool) → NamesAll g (on_caching_tables g) s named → NamesAll g (on_caching_device g lengths) rules (is_set named)
  names_seen named n = record { drives = n.drives }

  -- AT A POINT
  pub tables_emptyings_keep : EmptyingsKeepLooks g (on_caching_tables g) (λ m. device_of g m.memory) s
  tables_emptyings_keep =
      let p = emptyings_keep g valid lengths rules (ok_beneath g lengths rules o.holds) in
      let x = s.lost in
      let v = device_of g s.memory.memory in
      let state = view_state s.state in
      record {
        of_compact = λ named n m d. on_tables_lem (compacts d) named n (emptyings_of_compact g x v state d) (λ e. ShowsAlike g) (p.of_compact (is_set named) (names_seen named n) m d);
        of_reset = λ named n m z. on_tables_lem (resets z) named n (emptyings_of_reset g x v state) (λ d. ShowsAlike g) (p.of_reset (is_set named) (names_seen named n) m z);
        of_mount = λ named n m. on_tables_lem mounts named n (emptyings_of_mount g x v) (λ d. ShowsAlike g) (p.of_mount (is_set named) (names_seen named n) m);
        of_mount_parity = λ named n m. on_tables_lem mounts named n (parity_emptyings_of_mount g x v) (λ d. AlikeUpTo g (entry_made g x v d) (λ z. ((shown_by g (is_set named) v v).zone z).pointer)) (p.of_mount_parity (is_set named) (names_seen named n) m);
      }

-- THE THEOREM
pub tables_emptyings_keep_looks : EmptyingTablesClaim
tables_emptyings_keep_looks g named array old stop m small e es d =
    let (wb, o) = tables_start_cached g named array old stop m small e in
    let valid = valid_if_test g wb in
    every_point g (on_caching_tables g) (TablesOkCached g) (EmptyingsKeepLooks g (on_caching_tables g) (λ m. device_of g m.memory)) (tables_emptyings_keep g valid) (tables_event_cached g valid wb (caches_owed g valid))
    (start g (on_caching_tables g) named ((on_caching_tables g).call (formats array) named old stop m)) o es d
