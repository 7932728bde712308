-- WHAT IS PROMISED OF EMPTYINGS, beyond the claim (Claim.antt), of any volume that stands for a device: let a call that empties logs be stopped after any number of stores, from the
-- end of an emptying's first flush on, and then power go. Whatever the cut keeps or brings back, a look that names the drives that are not lost, or these but one,
-- shows the same pointers and the same sectors as a look naming the same drives at that flush's end. So at no moment does an emptying depend on the one log that it
-- replaces. The one exception: where a mount empties a parity log, a zone whose entry is made there may show more, up to the pointer of the mount's look.
use Rattle.std.specs.Prelude.{◌≡◌, ◌⊎◌, Bool, true, false, ◌&&◌, ℕ, ◌+◌, ◌^◌, ◌≤◌, ◌<◌, List, [], ◌++◌, map, length, ltb, eqb}
use Rattle.tables.specs.declared.Geometry.{Geometry}
use Rattle.tables.specs.meaning.Drives.{no_drive, present_but}
use Rattle.tables.specs.meaning.Lists.{concat}
use Rattle.tables.specs.meaning.Phases.{on_present}
use Rattle.tables.specs.meaning.Through.{through, carry}
use Rattle.tables.specs.meaning.Device.{Device, Store}
use Rattle.tables.specs.meaning.Tables.{device_of}
use Rattle.volume.specs.meaning.State.{StateView}
use Rattle.volume.specs.meaning.Rules.{Shown}
use Rattle.volume.specs.meaning.Calls.{flush_stores}
use Rattle.volume.specs.meaning.Roles.{roles, by_roles, placed_by}
use Rattle.volume.specs.meaning.Mount.{with_flush, spare_step, mount_view, mount_look, start_roles, emptied_general, emptied_parity, middle_roles, phases_before_entries, after_fill}
use Rattle.volume.specs.meaning.Emptying.{by_look, by_state, reset_limit, emptied_for, empty_general, empty_parity, is_made}
use Rattle.volume.specs.meaning.Refusals.{TableLengths}
use Rattle.volume.specs.declared.Answer.TheVariants.{Finished, Unfinished}
use Rattle.promise.specs.meaning.Claim.{Call, mounts, resets, formats, compacts, Volume, System, NamesAll, MayMount, Event, Dutiful, start, all_but, ready}
use Rattle.promise.specs.meaning.Histories.{AtEveryPoint, ShowsAlike}
use Rattle.promise.specs.meaning.Caches.{on_caching_device}
use Rattle.promise.specs.meaning.CachesOnTables.{on_caching_tables}

-- ---- looks. The same sectors, and the same pointers but of zones whose entry was made, which may show more (made: of each zone, whether it was; top: its pointer at most)
pub record AlikeUpTo (g : Geometry) (made : ℕ → Bool) (top : ℕ → ℕ) (k j : Shown) : Type 0 where
  pub pointers : (z : ℕ) → z < g.zones → made z ≡ false → (j.zone z).pointer ≡ (k.zone z).pointer
  pub least : (z : ℕ) → z < g.zones → (k.zone z).pointer ≤ (j.zone z).pointer
  pub most : (z : ℕ) → z < g.zones → (j.zone z).pointer ≤ top z
  pub sectors : (z : ℕ) → z < g.zones → (a : ℕ) → a < (k.zone z).pointer → (j.zone z).value a ≡ (k.zone z).value a

-- the drives that may be named: all but the lost one (x); all but any one where none is lost
abbrev pub MayNameBut : Geometry → ℕ → ℕ → Type 0
MayNameBut g x y = (y ≡ x) ⊎ ((x ≡ no_drive) × (y < g.drives))

-- names of every drive but y (what they say of drives at or above D is free)
abbrev pub NamesBut : (g : Geometry) (vol : Volume) → ℕ → vol.Names → Type 0
NamesBut g vol y named = (d : ℕ) → d < g.drives → vol.is_named named d ≡ all_but y d

-- ---- the emptyings of one kind that a call makes, one drive after the other, and where they stand among its stores
pub record Emptyings : Type 0 where
  pub before : List Store  -- the call's stores before them
  pub emptied : ℕ → Bool  -- the drives whose log is emptied
  pub stores_of : (ℕ → Bool) → List Store  -- the stores of the emptyings of some drives

-- the flush of all drives that are not lost, with which each begins
abbrev pub flush_of : Geometry → ℕ → List Store
flush_of g x = flush_stores g (present_but g x)

-- how many stores the call has made when drive d's emptying has ended its first flush; and when all of them are done
abbrev pub flush_end : Geometry → ℕ → Emptyings → ℕ → ℕ
flush_end g x E d = length E.before + (length (E.stores_of (λ e. ltb e d && E.emptied e)) + length (flush_of g x))

abbrev pub emptyings_end : Emptyings → ℕ
emptyings_end E = length E.before + length (E.stores_of E.emptied)

-- after n stores drive d's is the emptying whose first flush ended last
pub record UnderWay (g : Geometry) (x : ℕ) (E : Emptyings) (d n : ℕ) : Type 0 where
  pub drive : d < g.drives
  pub is_emptied : E.emptied d ≡ true
  pub flushed : flush_end g x E d ≤ n
  pub not_next : (e : ℕ) → e < g.drives → d < e → E.emptied e ≡ true → n ≤ flush_end g x E e
  pub not_done : n ≤ emptyings_end E

-- ---- those of each call (x: the lost drive; v: the device at its start). A compact, of the parity log of the drive that it names: all its stores; and a reset, of general
-- logs: its first stores (Emptying's compact_stores, reset_all)
abbrev pub emptyings_of_compact : Geometry → ℕ → Device → StateView → ℕ → Emptyings
emptyings_of_compact g x v state d =
    let here = present_but g x in
    let u = by_roles g v in
    record {
      before = [];
      emptied = λ e. eqb e d;
      stores_of = λ some. empty_parity g here (roles g v) (by_state g here u state) some u;
    }

abbrev pub emptyings_of_reset : Geometry → ℕ → Device → StateView → Emptyings
emptyings_of_reset g x v state =
    let here = present_but g x in
    let u = by_roles g v in
    record {
      before = [];
      emptied = emptied_for g here false (roles g v) u (reset_limit g);
      stores_of = λ some. empty_general g here (roles g v) (by_state g here u state) some u;
    }

-- a mount, of general logs, its step 2, after its first flush and the spares' resets (Mount's phases_of_logs)
abbrev pub spare_resets_of : Geometry → ℕ → Device → List Store
spare_resets_of g x v = concat (with_flush g (present_but g x) (map (carry (placed_by (start_roles g (present_but g x) x v))) (spare_step g (mount_view g (present_but g x) x v))))

abbrev pub emptyings_of_mount : Geometry → ℕ → Device → Emptyings
emptyings_of_mount g x v =
    let here = present_but g x in
    record {
      before = flush_of g x ++ spare_resets_of g x v;
      emptied = emptied_general g here x v;
      stores_of = λ some. on_present here (empty_general g here (start_roles g here x v) (by_look (mount_look g here x v)) some (mount_view g here x v));
    }

-- and of parity logs, its step 10, of the device after step 9 (after_fill) by the roles that it has then (Mount's phases_of_parity_logs)
abbrev pub filled_view : Geometry → ℕ → Device → Device
filled_view g x v = through (placed_by (middle_roles g (present_but g x) x v)) (after_fill g (present_but g x) x v)

abbrev pub parity_emptyings_of_mount : Geometry → ℕ → Device → Emptyings
parity_emptyings_of_mount g x v =
    let here = present_but g x in
    record {
      before = concat (phases_before_entries g here x v);
      emptied = emptied_parity g here x v;
      stores_of = λ some. on_present here (empty_parity g here (middle_roles g here x v) (by_look (mount_look g here x v)) some (filled_view g x v));
    }

-- drive d's makes an entry of zone z: there was none at the pointer
abbrev pub entry_made : Geometry → ℕ → Device → ℕ → ℕ → Bool
entry_made g x v d z = is_made g (by_look (mount_look g (present_but g x) x v)) (filled_view g x v) d z

-- ---- at a point of a history
module _ (g : Geometry) (vol : Volume) where
  -- what a call leaves that is stopped after n stores
  abbrev pub stopped_at : System vol → Call → vol.Names → ℕ → vol.Memory
  stopped_at s c named n = (vol.call c named s.state n s.memory).memory

  -- a call's emptyings keep what looks show, alike (Alike: of drive d's emptying, what is shown at its first flush's end, and after the cut)
  abbrev pub KeepsLooks : System vol → Call → vol.Names → Emptyings → (ℕ → Shown → Shown → Type 0) → Type 0
  KeepsLooks s c named E Alike = (d n : ℕ) → UnderWay g s.lost E d n → (vol.call c named s.state n s.memory).answer ≡ Unfinished
      → (m : vol.Memory) → vol.CutTo s.lost (stopped_at s c named n) m → (y : ℕ) → MayNameBut g s.lost y → (some : vol.Names) → NamesBut g vol y some
      → let flushed = stopped_at s c named (flush_end g s.lost E d) in Alike d (vol.shows some flushed flushed) (vol.shows some m m)

-- (seen: the device that a memory stands for)
pub record EmptyingsKeepLooks (g : Geometry) (vol : Volume) (seen : vol.Memory → Device) (s : System vol) : Type 0 where
  pub of_compact : (named : vol.Names) → NamesAll g vol s named → s.mode ≡ ready → (d : ℕ)
      → KeepsLooks g vol s (compacts d) named (emptyings_of_compact g s.lost (seen s.memory) (vol.view s.state) d) (λ d. ShowsAlike g)
  pub of_reset : (named : vol.Names) → NamesAll g vol s named → s.mode ≡ ready → (z : ℕ)
      → KeepsLooks g vol s (resets z) named (emptyings_of_reset g s.lost (seen s.memory) (vol.view s.state)) (λ d. ShowsAlike g)
  pub of_mount : (named : vol.Names) → NamesAll g vol s named → MayMount s.mode → KeepsLooks g vol s mounts named (emptyings_of_mount g s.lost (seen s.memory)) (λ d. ShowsAlike g)
  -- (the mount's look shows what a look shows at the mount's start)
  pub of_mount_parity : (named : vol.Names) → NamesAll g vol s named → MayMount s.mode
      → KeepsLooks g vol s mounts named (parity_emptyings_of_mount g s.lost (seen s.memory)) (λ d. AlikeUpTo g (entry_made g s.lost (seen s.memory) d) (λ z. ((vol.shows named s.memory s.memory).zone z).pointer))

-- at every point of the histories of which the promise is claimed
abbrev pub EmptyingsShowAlike : (g : Geometry) (vol : Volume) → (vol.Memory → Device) → Type 0
EmptyingsShowAlike g vol seen = (named : vol.Names) (array : ℕ) (old : vol.State) (stop : ℕ) (m : vol.Memory) → array < 256 ^ 8
    → let r = vol.call (formats array) named old stop m in
    r.answer ≡ Finished → (es : List (Event vol)) → Dutiful g vol (start g vol named r) es → AtEveryPoint g vol (EmptyingsKeepLooks g vol seen) (start g vol named r) es

-- THE CLAIMS, of the rules' calls and of the code's
abbrev pub EmptyingClaim : Type 0
EmptyingClaim = (g : Geometry) (t : TableLengths) → EmptyingsShowAlike g (on_caching_device g t) (λ m. m.memory)

abbrev pub EmptyingTablesClaim : Type 0
EmptyingTablesClaim = (g : Geometry) → EmptyingsShowAlike g (on_caching_tables g) (λ m. device_of g m.memory)
