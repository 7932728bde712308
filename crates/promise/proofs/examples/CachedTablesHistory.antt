-- The promise on the tables of drives that cache resets is not empty: a history on small tables, computed on the lent bytes, in which an unflushed reset is
-- brought back. A sector is written and flushed; the reset of its zone is stopped before its second flush; a cut brings the sector back on drive 0; a look shows
-- the zone empty; a mount by all drives finishes; two sectors are written and read.
use Rattle.promise.specs.meaning.Claim.{Volume, mounts, flushes, resets, formats, ready, stopped, down, System, Event, calls, looks, reads, cuts, NamesAll, Dutiful, Throughout, start}
use Rattle.promise.specs.meaning.Histories.{after_all}
use Rattle.promise.specs.meaning.Caches.{WithCaches}
use Rattle.promise.specs.meaning.CachesOnTables.{ZoneKept, ZoneBack, TablesCachingCut, on_caching_tables}
use Rattle.tables.specs.declared.Geometry.{Geometry}
use Rattle.tables.specs.meaning.Geometry.{physical_zones}
use Rattle.tables.specs.meaning.Lists.{overlay}
use Rattle.tables.specs.meaning.Below.{all_below}
use Rattle.tables.specs.laws.Below.{all_below_all}
use Rattle.tables.specs.meaning.LittleEndian.{same_bytes}
use Rattle.tables.specs.laws.LittleEndian.{same_bytes_eq}
use Rattle.tables.specs.laws.Basics.{and_split}
use Rattle.tables.specs.meaning.Drives.{no_drive}
use Rattle.tables.specs.meaning.Device.{ZoneView}
use Rattle.tables.specs.meaning.Tables.{Tables, cell, sector_at}
use Rattle.volume.specs.declared.Answer.TheVariants.{Finished}
use Rattle.volume.specs.meaning.Answers.{left_out}
use Rattle.std.specs.Prelude.{◌≡◌, refl, ◌⊎◌, Bool, true, false, ◌&&◌, ◌||◌, not, ℕ, ◌<◌, length, get_or, take, drop, eqb, leb, T}
use Rattle.std.proofs.Common.{sym, ap, ◌∙◌, inl, inr, arith, lit<, ne_eqb, eqb-true, leb-true}
use mathlib.Core.List.{List, [], ◌∷◌, ◌++◌, Memᴰ}
use Rattle.promise.proofs.tables.CachedTablesClaim.{caching_tables_keep_the_promise}
use Rattle.promise.proofs.examples.Example.{no_stop, writing}
use Rattle.promise.proofs.examples.ClaimExample.{is_mode, all, all_at, ready_is, done}
use Rattle.promise.proofs.examples.TablesHistory.{small, zeros, every, bytes, old_state, every_set}
use Rattle.promise.proofs.examples.Opened.{tables_open}

-- ---- a cut, found so by a test of every zone: its pointer lies between durable and written, or it is the view remembered last, whole or in part
abbrev pub kept_test : Geometry → Tables → Tables → ℕ → ℕ → Bool
kept_test g t u d z = leb (get_or t.durable (cell g d z) 0) (get_or u.written (cell g d z) 0) && leb (get_or u.written (cell g d z) 0) (get_or t.written (cell g d z) 0)

abbrev pub back_test : Geometry → List ZoneView → Tables → ℕ → ℕ → Bool
back_test g [] u d z = false
back_test g (o ∷ os) u d z =
    let w = get_or u.written (cell g d z) 0 in
    (leb o.durable w && leb w (length o.sectors)) && (leb w g.capacity && all_below (λ n. same_bytes (sector_at g u.sectors d z n) (get_or o.sectors n [])) w)

abbrev pub zones_test : Geometry → Tables → (ℕ → ℕ → List ZoneView) → Tables → Bool
zones_test g t was u = all_below (λ d. all_below (λ z. kept_test g t u d z || back_test g (was d z) u d z) (physical_zones g)) g.drives

back_tested : (g : Geometry) (was : List ZoneView) (u : Tables) (d z : ℕ) → back_test g was u d z ≡ true → (o : ZoneView) × Memᴰ o was × ZoneBack g o u d z
back_tested g (o ∷ os) u d z e =
    let w = get_or u.written (cell g d z) 0 in
    let same : ℕ → Bool = λ n. same_bytes (sector_at g u.sectors d z n) (get_or o.sectors n []) in
    let (p, q) = and_split (leb o.durable w && leb w (length o.sectors)) (leb w g.capacity && all_below same w) e in
    let (a, b) = and_split (leb o.durable w) (leb w (length o.sectors)) p in
    let (c, f) = and_split (leb w g.capacity) (all_below same w) q in (
      o,
      Memᴰ.head refl,
      record { least = leb-true o.durable w a; most = leb-true w (length o.sectors) b; fits = leb-true w g.capacity c; old = λ n h. same_bytes_eq (sector_at g u.sectors d z n) (get_or o.sectors n []) (all_below_all same w n f h) },
    )
back_tested g [] u d z e = absurd (let q : ◌≡◌ {A = ℕ} 0 1 = cc in omega arith)

-- with the sectors as they lie, and pointers that are all durable (ws)
pub cut_tested : (g : Geometry) (x : ℕ) (t : Tables) (was : ℕ → ℕ → List ZoneView) (ws : List ℕ) → let u : Tables = record { sectors = t.sectors; written = ws; durable = ws } in
    length ws ≡ length t.written → length ws ≡ length t.durable → zones_test g t was u ≡ true → TablesCachingCut g x t was u
cut_tested g x t was ws lw ld e = record {
  sectors_long = refl;
  written_long = lw;
  durable_long = ld;
  durable_is = λ d z hd hz n. refl;
  zones = λ d z hd hz n. side d z (kept_test g t u d z) refl (tested d z hd hz);
}
  where
    u : Tables
    u = record { sectors = t.sectors; written = ws; durable = ws }

    tested : (d z : ℕ) → d < g.drives → z < physical_zones g → kept_test g t u d z || back_test g (was d z) u d z ≡ true
    tested d z hd hz = all_below_all (λ y. kept_test g t u d y || back_test g (was d y) u d y) (physical_zones g) z (all_below_all (λ c. all_below (λ y. kept_test g t u c y || back_test g (was c y) u c y) (physical_zones g)) g.drives d e hd) hz

    side : (d z : ℕ) (b : Bool) → kept_test g t u d z ≡ b → b || back_test g (was d z) u d z ≡ true → ZoneKept g t u d z ⊎ ((o : ZoneView) × Memᴰ o (was d z) × ZoneBack g o u d z)
    side d z true p q =
        let w = get_or ws (cell g d z) 0 in
        let (a, b) = and_split (leb (get_or t.durable (cell g d z) 0) w) (leb w (get_or t.written (cell g d z) 0)) p in
        inl (record { least = leb-true (get_or t.durable (cell g d z) 0) w a; most = leb-true w (get_or t.written (cell g d z) 0) b; same = λ n h. refl })
    side d z false p q = inr (back_tested g (was d z) u d z q)

-- ---- the history: up to the stop, and from the cut on
abbrev vol : Volume
vol = on_caching_tables small

abbrev zero_drives : WithCaches Tables
zero_drives = record { memory = zeros; was = λ d z. [] }

abbrev s0 : System vol
s0 = start small vol every (vol.call (formats 7) every old_state no_stop zero_drives)

-- the reset is stopped once the zone is reset on the three drives: two entries, three flushes, three resets
abbrev before : List (Event vol)
before = calls (writing 0 1 9) every no_stop ∷ calls flushes every no_stop ∷ calls (resets 0) every 8 ∷ []

-- drive 0's zone has its sector again
abbrev cut_to : WithCaches Tables → WithCaches Tables
cut_to m = let ws = overlay m.memory.durable 3 (1 ∷ []) in record { memory = record { sectors = m.memory.sectors; written = ws; durable = ws }; was = λ d z. [] }

abbrev after : WithCaches Tables → List (Event vol)
after m = cuts (cut_to m) ∷ looks every ∷ calls mounts every no_stop ∷ calls (writing 0 2 6) every no_stop ∷ reads every 0 2 (bytes 2 0) ∷ []

abbrev history : List (Event vol)
history = before ++ after (after_all small vol s0 before).memory

-- after the first n events
abbrev point : ℕ → System vol
point n = after_all small vol s0 (take n history)

-- ---- what became of it
abbrev pointer : System vol → ℕ → ℕ
pointer s i = get_or s.memory.memory.written i 0

-- (each point is computed from the one before)
pub went_so : List Bool
went_so =
    let a1 = after_all small vol s0 (take 1 before) in
    let a2 = after_all small vol a1 (take 1 (drop 1 before)) in
    let a3 = after_all small vol a2 (drop 2 before) in
    let cut = cut_to a3.memory in
    let a4 = after_all small vol a3 (take 1 (after a3.memory)) in
    let a6 = after_all small vol a4 (take 2 (drop 1 (after a3.memory))) in
    let a7 = after_all small vol a6 (take 1 (drop 3 (after a3.memory))) in
    -- written, flushed, and the reset stopped: the zone is reset, and drive 0 remembers it
    is_mode ready a1.mode ∷ is_mode ready a2.mode ∷ eqb (a2.ledger.committed 0) 1 ∷ is_mode stopped a3.mode ∷ a3.ledger.resetting 0 ∷ eqb (pointer a3 3) 0 ∷ eqb (length (a3.memory.was 0 3)) 1
    -- the cut, by the test; the look shows nothing
    ∷ zones_test small a3.memory.memory a3.memory.was cut.memory ∷ eqb (length cut.memory.written) (length a3.memory.memory.written)
    ∷ eqb (length cut.memory.written) (length a3.memory.memory.durable) ∷ eqb (pointer a4 3) 1 ∷ is_mode down a4.mode ∷ eqb ((vol.shows every a4.memory a4.memory).zone 0).pointer 0
    -- the mount resets the zone again and flushes, then raises the counters; the volume goes on
    ∷ is_mode ready a6.mode ∷ is_mode ready a7.mode ∷ not (a6.ledger.resetting 0) ∷ eqb (pointer a6 3) 0 ∷ eqb (length (a6.memory.was 0 3)) 0 ∷ eqb ((vol.view a6.state).generation 0) 2
    ∷ eqb (length (a7.ledger.content 0)) 2 ∷ []

pub history_goes : T (all went_so)
unfolding tables_open went_so
history_goes = tt

-- ---- its duties are done
none_lost_lem : s0.lost ≡ no_drive
unfolding left_out
none_lost_lem = refl

format_finishes : (vol.call (formats 7) every old_state no_stop zero_drives).answer ≡ Finished
unfolding tables_open
format_finishes = refl

names_all : (s : System vol) → s.lost ≡ no_drive → NamesAll small vol s every
names_all s e = record { drives = λ d h. rw e (every_set d h ∙ sym (ap not (ne_eqb d 255 (λ q. omega arith)))) }

cut_left : TablesCachingCut small (point 3).lost (point 3).memory.memory (point 3).memory.was (cut_to (point 3).memory).memory
unfolding went_so
cut_left =
    let m = (point 3).memory in
    let ws = (cut_to m).memory.written in
    cut_tested small (point 3).lost m.memory m.was ws (eqb-true (length ws) (length m.memory.written) (all_at went_so history_goes 8)) (eqb-true (length ws) (length m.memory.durable) (all_at went_so history_goes 9)) (all_at went_so history_goes 7)

pub duties_done : Dutiful small vol s0 history
unfolding went_so
duties_done =
    let ready_at : (n i : ℕ) → is_mode ready (point n).mode ≡ get_or went_so i true → (point n).mode ≡ ready = λ n i e. ready_is (point n).mode (e ∙ all_at went_so history_goes i) in
    done (names_all s0 none_lost_lem, refl, tt) (done (names_all (point 1) none_lost_lem, ready_at 1 0 refl, tt) (done (names_all (point 2) none_lost_lem, ready_at 2 1 refl, tt)
    (done (record { left = cut_left; forgotten = λ d z n. refl }) (done (names_all (point 4) none_lost_lem, tt) (done (names_all (point 5) none_lost_lem, tt, tt)
    (done (names_all (point 6) none_lost_lem, ready_at 6 13 refl, tt) (done (names_all (point 7) none_lost_lem, ready_at 7 14 refl) tt)))))))

-- ---- and what the promise says of it
pub history_keeps_the_promise : Throughout small vol s0 history
history_keeps_the_promise = caching_tables_keep_the_promise small every 7 old_state no_stop zero_drives (lit< tt) format_finishes history duties_done
