-- Histories on lent bytes in which calls empty logs, computed by the code's calls on the tables of drives that cache resets. A third reset empties the general logs of drives 0
-- and 2, and a compact the parity log of drive 2: what they leave is compared byte by byte. And the history of EmptyingExample up to its last mount, which empties a parity log and
-- makes an entry in the new one. That is computed in two parts: what the first mount leaves is written out between them.
use Rattle.std.specs.Prelude.{◌≡◌, refl, Bool, true, not, ℕ, ◌+◌, ◌-◌, ◌*◌, ◌<◌, List, [], ◌∷◌, ◌++◌, length, get_or, take, drop, replicate, eqb, T}
use Rattle.std.proofs.Common.{sym, ap, subst, ◌∙◌, arith, lit<, ne_eqb, eqb-true}
use Rattle.tables.specs.meaning.Drives.{no_drive}
use Rattle.tables.specs.meaning.Lists.{overlay, concat}
use Rattle.tables.specs.meaning.LittleEndian.{same_bytes}
use Rattle.tables.specs.laws.LittleEndian.{same_bytes_eq}
use Rattle.tables.specs.meaning.Tables.{Tables, device_of}
use Rattle.logs.specs.meaning.Entry.{Header, encode, label, counters, zone_reset, partial_parity, closing}
use Rattle.volume.specs.declared.State.{State}
use Rattle.volume.specs.declared.Condition.TheVariants.{Open}
use Rattle.volume.specs.declared.Owner.TheVariants.{Nobody}
use Rattle.volume.specs.declared.Answer.TheVariants.{Finished}
use Rattle.volume.specs.declared.Outcome.{Outcome}
use Rattle.volume.specs.meaning.Answers.{left_out}
use Rattle.volume.specs.meaning.CallContracts.{view_state, state_held, blank_record, look_on}
use Rattle.volume.specs.meaning.Calls.{format_state}
use Rattle.volume.specs.laws.AnyInput.{mount_shows_look}
use Rattle.promise.specs.meaning.Claim.{Volume, mounts, writes, resets, formats, compacts, ready, System, Event, calls, cuts, NamesAll, Dutiful, Throughout, start}
use Rattle.promise.specs.meaning.Histories.{after_all, AtEveryPoint}
use Rattle.promise.specs.meaning.Caches.{WithCaches}
use Rattle.promise.specs.meaning.CachesOnTables.{TablesCachingCut, on_caching_tables}
use Rattle.promise.specs.meaning.Emptied.{flush_end, emptyings_end, emptyings_of_compact, emptyings_of_reset, parity_emptyings_of_mount, entry_made, EmptyingsKeepLooks}
use Rattle.promise.proofs.tables.CachedTablesClaim.{caching_tables_keep_the_promise}
use Rattle.promise.proofs.tables.EmptyingTables.{tables_emptyings_keep_looks}
use Rattle.promise.proofs.examples.Example.{no_stop, bytes, asked, writing}
use Rattle.promise.proofs.examples.ClaimExample.{is_mode, all, all_at, ready_is, done}
use Rattle.promise.proofs.examples.TablesHistory.{every, every_set}
use Rattle.promise.proofs.examples.CachedTablesHistory.{zones_test, cut_tested}
use Rattle.promise.proofs.examples.EmptyingExample.{tight}
use Rattle.promise.proofs.examples.Opened.{tables_open}

abbrev vol : Volume
vol = on_caching_tables tight

-- 3 x 4 zones of 10 sectors
abbrev zero_drives : WithCaches Tables
zero_drives = record { memory = record { sectors = replicate 7680 0; written = replicate 12 0; durable = replicate 12 0 }; was = λ d z. [] }

abbrev held : State
held = state_held tight.zones (format_state no_drive)

abbrev s0 : System vol
s0 = start tight vol every (vol.call (formats 7) every held no_stop zero_drives)

none_lost_lem : s0.lost ≡ no_drive
unfolding left_out
none_lost_lem = refl

format_finishes : (vol.call (formats 7) every held no_stop zero_drives).answer ≡ Finished
unfolding tables_open
format_finishes = refl

names_all : (s : System vol) → s.lost ≡ no_drive → NamesAll tight vol s every
names_all s e = record { drives = λ d h. rw e (every_set d h ∙ sym (ap not (ne_eqb d 255 (λ q. omega arith)))) }

-- ---- written out: an entry's header on drive d, and the bytes of a zone that holds these sectors
abbrev header : ℕ → Header → List ℕ
header d h = encode tight d h

abbrev zone_bytes : List (List ℕ) → List ℕ
zone_bytes ss = concat ss ++ replicate (640 - 64 * length ss) 0

-- ==== a reset that empties general logs
abbrev resetting : List (Event vol)
resetting = calls (resets 0) every no_stop ∷ calls (resets 0) every no_stop ∷ calls (resets 0) every no_stop ∷ []

-- the bytes of a drive's zone
abbrev zone_in : System vol → ℕ → ℕ → List ℕ
zone_in s d y = take 640 (drop ((d * 4 + y) * 640) s.memory.memory.sectors)

-- the new log: what was copied, the closing entry, the reset's own
abbrev new_log : ℕ → List ℕ
new_log d = zone_bytes (header d (label no_drive 7) ∷ header d (counters (3 ∷ [])) ∷ header d (closing 0 1) ∷ header d (zone_reset 0 3) ∷ header d (counters (4 ∷ [])) ∷ [])

pub reset_went : List Bool
reset_went =
    let a1 = after_all tight vol s0 (take 1 resetting) in
    let a2 = after_all tight vol a1 (take 1 (drop 1 resetting)) in
    let a3 = after_all tight vol a2 (drop 2 resetting) in
    let G = emptyings_of_reset tight no_drive (device_of tight a2.memory.memory) (view_state a2.state) in
    is_mode ready a1.mode ∷ is_mode ready a2.mode ∷ is_mode ready a3.mode
    -- the emptyings: of drives 0 and 2, one after the other
    ∷ G.emptied 0 ∷ not (G.emptied 1) ∷ G.emptied 2 ∷ eqb (flush_end tight no_drive G 0) 3 ∷ eqb (flush_end tight no_drive G 2) 13 ∷ eqb (emptyings_end G) 20
    -- what the reset leaves
    ∷ same_bytes a3.memory.memory.written (0 ∷ 0 ∷ 5 ∷ 0 ∷ 5 ∷ 0 ∷ 0 ∷ 0 ∷ 0 ∷ 0 ∷ 5 ∷ 0 ∷ []) ∷ same_bytes (zone_in a3 0 2) (new_log 0) ∷ same_bytes (zone_in a3 2 2) (new_log 2)
    ∷ []

pub reset_goes : T (all reset_went)
unfolding tables_open reset_went
reset_goes = tt

abbrev reset_point : ℕ → System vol
reset_point n = after_all tight vol s0 (take n resetting)

pub reset_dutiful : Dutiful tight vol s0 resetting
unfolding reset_went
reset_dutiful =
    done (names_all s0 none_lost_lem, refl, tt) (done (names_all (reset_point 1) none_lost_lem, ready_is (reset_point 1).mode (all_at reset_went reset_goes 0), tt)
    (done (names_all (reset_point 2) none_lost_lem, ready_is (reset_point 2).mode (all_at reset_went reset_goes 1), tt) tt))

pub reset_keeps_looks : AtEveryPoint tight vol (EmptyingsKeepLooks tight vol (λ m. device_of tight m.memory)) s0 resetting
reset_keeps_looks = tables_emptyings_keep_looks tight every 7 held no_stop zero_drives (lit< tt) format_finishes resetting reset_dutiful

-- ==== a compact: the entry of host 1's sector is copied
abbrev compacting : List (Event vol)
compacting = calls (writes (asked 1 0 1 9)) every no_stop ∷ calls (compacts 2) every no_stop ∷ []

pub compact_went : List Bool
compact_went =
    let a1 = after_all tight vol s0 (take 1 compacting) in
    let a2 = after_all tight vol a1 (drop 1 compacting) in
    let C = emptyings_of_compact tight no_drive (device_of tight a1.memory.memory) (view_state a1.state) 2 in
    is_mode ready a1.mode ∷ is_mode ready a2.mode
    ∷ C.emptied 2 ∷ eqb (flush_end tight no_drive C 2) 3 ∷ eqb (emptyings_end C) 10
    -- what it leaves: the new log, nothing else moved, and the shares of drive 2 anew
    ∷ same_bytes a1.memory.memory.written (2 ∷ 0 ∷ 0 ∷ 1 ∷ 2 ∷ 0 ∷ 0 ∷ 0 ∷ 2 ∷ 2 ∷ 0 ∷ 0 ∷ []) ∷ same_bytes a2.memory.memory.written (2 ∷ 0 ∷ 0 ∷ 1 ∷ 2 ∷ 0 ∷ 0 ∷ 0 ∷ 2 ∷ 0 ∷ 3 ∷ 0 ∷ [])
    ∷ same_bytes (zone_in a2 2 2) (zone_bytes (header 2 (partial_parity 0 0 1 1) ∷ bytes 1 9 ∷ header 2 (closing 1 1) ∷ []))
    ∷ same_bytes a1.state.shares (2 ∷ 2 ∷ 2 ∷ 2 ∷ 2 ∷ 0 ∷ replicate 10 0) ∷ same_bytes a2.state.shares (2 ∷ 2 ∷ 2 ∷ 2 ∷ 1 ∷ 1 ∷ replicate 10 0)
    ∷ []

pub compact_goes : T (all compact_went)
unfolding tables_open compact_went
compact_goes = tt

pub compact_dutiful : Dutiful tight vol s0 compacting
unfolding compact_went
compact_dutiful = done (names_all s0 none_lost_lem, refl, tt) (done (names_all (after_all tight vol s0 (take 1 compacting)) none_lost_lem, ready_is (after_all tight vol s0 (take 1 compacting)).mode (all_at compact_went compact_goes 0), tt) tt)

pub compact_keeps_looks : AtEveryPoint tight vol (EmptyingsKeepLooks tight vol (λ m. device_of tight m.memory)) s0 compacting
compact_keeps_looks = tables_emptyings_keep_looks tight every 7 held no_stop zero_drives (lit< tt) format_finishes compacting compact_dutiful

-- ==== a mount that empties a parity log
-- a cut that leaves the logs as they are, k sectors of the zone on drive 0, and none of it on drives 1 and 2
abbrev cut_to : ℕ → WithCaches Tables → WithCaches Tables
cut_to k m = let ws = overlay (overlay (overlay m.memory.written 3 (k ∷ [])) 7 (0 ∷ [])) 11 (0 ∷ []) in record { memory = record { sectors = m.memory.sectors; written = ws; durable = ws }; was = λ d z. [] }

abbrev part1 : List (Event vol)
part1 = calls (writing 0 1 9) every no_stop ∷ calls (resets 0) every no_stop ∷ calls (writes (asked 1 0 1 9)) every no_stop ∷ calls (writing 1 3 8) every no_stop ∷ []

abbrev part2 : List (Event vol)
part2 = calls (resets 0) every no_stop ∷ calls (writing 0 4 6) every no_stop ∷ []

-- a cut, and a mount by all drives
abbrev cut_and_mount : ℕ → System vol → List (Event vol)
cut_and_mount k s = cuts (cut_to k s.memory) ∷ calls mounts every no_stop ∷ []

abbrev s4 : System vol
s4 = after_all tight vol s0 part1

abbrev s6 : System vol
s6 = let a = s4 in after_all tight vol a (cut_and_mount 2 a)

abbrev s8 : System vol
s8 = after_all tight vol s6 part2

abbrev history : List (Event vol)
history = part1 ++ (cut_and_mount 2 s4 ++ (part2 ++ cut_and_mount 1 s8))

-- after the first n events
abbrev point : ℕ → System vol
point n = after_all tight vol s0 (take n history)

-- the cut of s, by the test
abbrev cut_so : ℕ → System vol → List Bool
cut_so k s = let t = s.memory.memory in let u = (cut_to k s.memory).memory in zones_test tight t s.memory.was u ∷ eqb (length u.written) (length t.written) ∷ eqb (length u.written) (length t.durable) ∷ []

-- ---- the first part, and the tables and the state that its mount leaves
pub first_went : List Bool
first_went =
    let a1 = after_all tight vol s0 (take 1 part1) in
    let a2 = after_all tight vol a1 (take 1 (drop 1 part1)) in
    let a3 = after_all tight vol a2 (take 1 (drop 2 part1)) in
    let a4 = after_all tight vol a3 (drop 3 part1) in
    let a6 = after_all tight vol a4 (cut_and_mount 2 a4) in
    cut_so 2 a4 ++ (is_mode ready a1.mode ∷ is_mode ready a2.mode ∷ is_mode ready a3.mode ∷ is_mode ready a4.mode ∷ is_mode ready a6.mode ∷ [])

pub first_goes : T (all first_went)
unfolding tables_open first_went
first_goes = tt

-- a drive's general log after a format and a reset, with the reset's entry and without; an empty zone
abbrev opened : ℕ → List (List ℕ) → List ℕ
opened d entry = zone_bytes (header d (label no_drive 7) ∷ header d (counters (1 ∷ [])) ∷ (entry ++ (header d (counters (2 ∷ [])) ∷ [])))

abbrev reset_in : ℕ → List (List ℕ)
reset_in d = header d (zone_reset 0 1) ∷ []

abbrev none : List ℕ
none = zone_bytes []

abbrev mounted : Tables
mounted =
    let pointers : List ℕ = 4 ∷ 0 ∷ 0 ∷ 2 ∷ 3 ∷ 0 ∷ 0 ∷ 0 ∷ 4 ∷ 7 ∷ 0 ∷ 0 ∷ [] in
    let entries : List (List ℕ) = header 2 (partial_parity 0 0 1 1) ∷ bytes 1 9 ∷ header 2 (partial_parity 0 0 1 2) ∷ bytes 1 9 ∷ header 2 (partial_parity 0 0 2 2) ∷ bytes 1 9 ∷ bytes 1 8 ∷ [] in
    record {
      sectors = concat (
          opened 0 (reset_in 0) ∷ none ∷ none ∷ zone_bytes (bytes 1 9 ∷ bytes 1 8 ∷ [])
          -- (the sectors that the cut took still lie there, above the pointer)
          ∷ opened 1 [] ∷ none ∷ none ∷ zone_bytes (bytes 1 8 ∷ bytes 1 8 ∷ [])
          ∷ opened 2 (reset_in 2) ∷ zone_bytes entries ∷ none ∷ zone_bytes (bytes 1 1 ∷ []) ∷ []);
      written = pointers;
      durable = pointers;
    }

abbrev mounted_state : State
mounted_state = record { lost = 255; zones = record { generation = 2; condition = Open 2; owner = Nobody } ∷ replicate 15 blank_record; shares = 2 ∷ 2 ∷ 2 ∷ 2 ∷ replicate 12 0 }

pub left_so : List Bool
left_so = let t = s6.memory.memory in same_bytes t.sectors mounted.sectors ∷ same_bytes t.written mounted.written ∷ same_bytes t.durable mounted.durable ∷ []

pub left_so_lem : T (all left_so)
unfolding tables_open left_so
left_so_lem = tt

tables_left : s6.memory.memory ≡ mounted
unfolding left_so
tables_left =
    let t = s6.memory.memory in
    let a : t.sectors ≡ mounted.sectors = same_bytes_eq t.sectors mounted.sectors (all_at left_so left_so_lem 0) in
    let b : t.written ≡ mounted.written = same_bytes_eq t.written mounted.written (all_at left_so left_so_lem 1) in
    let c : t.durable ≡ mounted.durable = same_bytes_eq t.durable mounted.durable (all_at left_so left_so_lem 2) in
    λ i. record { sectors = a i; written = b i; durable = c i }

-- a mount hands back what a look on its tables shows
mount_finishes : (vol.call mounts every s4.state no_stop (cut_to 2 s4.memory)).answer ≡ Finished
unfolding tables_open
mount_finishes = refl

look_shows : look_on tight every held mounted ≡ record { answer = Finished; state = mounted_state }
unfolding tables_open
look_shows = refl

state_left : s6.state ≡ mounted_state
state_left =
    let mount : look_on tight every held s6.memory.memory ≡ record { answer = Finished; state = s6.state } = mount_shows_look tight every (cut_to 2 s4.memory).memory s4.state held no_stop mount_finishes in
    let both : ◌≡◌ {A = Outcome} (record { answer = Finished; state = s6.state }) (record { answer = Finished; state = mounted_state }) = sym mount ∙ (ap (look_on tight every held) tables_left ∙ look_shows) in
    ap (λ (o : Outcome). o.state) both

-- ---- and the second, from these
abbrev from : Tables → State → System vol
from t state = record { memory = record { memory = t; was = s6.memory.was }; lost = s6.lost; mode = s6.mode; state = state; ledger = s6.ledger }

pub second_went : System vol → List Bool
second_went s =
    let a7 = after_all tight vol s (take 1 part2) in
    let a8 = after_all tight vol a7 (drop 1 part2) in
    let a9 = after_all tight vol a8 (take 1 (cut_and_mount 1 a8)) in
    let a10 = after_all tight vol a9 (drop 1 (cut_and_mount 1 a8)) in
    let E = parity_emptyings_of_mount tight no_drive (device_of tight a9.memory.memory) in
    cut_so 1 a8 ++ (is_mode ready a7.mode ∷ is_mode ready a8.mode ∷ is_mode ready a10.mode
    -- the last mount empties the parity log of drive 2 alone, and makes an entry there
    ∷ not (E.emptied 0) ∷ not (E.emptied 1) ∷ E.emptied 2 ∷ entry_made tight no_drive (device_of tight a9.memory.memory) 2 0 ∷ [])

second_goes_from : T (all (second_went (from mounted mounted_state)))
unfolding tables_open second_went
second_goes_from = tt

pub second_goes : T (all (second_went s6))
second_goes = subst (λ (t : Tables). T (all (second_went (from t s6.state)))) (sym tables_left) (subst (λ (state : State). T (all (second_went (from mounted state)))) (sym state_left) second_goes_from)

-- ---- its duties are done
cut_left : (k : ℕ) (s : System vol) → (bs : List Bool) → T (all (cut_so k s ++ bs)) → TablesCachingCut tight s.lost s.memory.memory s.memory.was (cut_to k s.memory).memory
cut_left k s bs h =
    let t = s.memory.memory in
    let ws = (cut_to k s.memory).memory.written in
    let went = cut_so k s ++ bs in
    cut_tested tight s.lost t s.memory.was ws (eqb-true (length ws) (length t.written) (all_at went h 1)) (eqb-true (length ws) (length t.durable) (all_at went h 2)) (all_at went h 0)

pub duties_done : Dutiful tight vol s0 history
unfolding first_went second_went
duties_done =
    let first : (n i : ℕ) → is_mode ready (point n).mode ≡ get_or first_went i true → (point n).mode ≡ ready = λ n i e. ready_is (point n).mode (e ∙ all_at first_went first_goes i) in
    let second : (n i : ℕ) → is_mode ready (point n).mode ≡ get_or (second_went s6) i true → (point n).mode ≡ ready = λ n i e. ready_is (point n).mode (e ∙ all_at (second_went s6) second_goes i) in
    done (names_all s0 none_lost_lem, refl, tt) (done (names_all (point 1) none_lost_lem, first 1 3 refl, tt) (done (names_all (point 2) none_lost_lem, first 2 4 refl, tt) (done (names_all (point 3) none_lost_lem, first 3 5 refl, tt)
    (done (record { left = cut_left 2 s4 (drop 3 first_went) first_goes; forgotten = λ d z n. refl }) (done (names_all (point 5) none_lost_lem, tt, tt)
    (done (names_all (point 6) none_lost_lem, first 6 7 refl, tt) (done (names_all (point 7) none_lost_lem, second 7 3 refl, tt)
    (done (record { left = cut_left 1 s8 (drop 3 (second_went s6)) second_goes; forgotten = λ d z n. refl }) (done (names_all (point 9) none_lost_lem, tt, tt) tt)))))))))

-- ---- what the claim says of it, and that about emptyings
pub history_keeps_the_promise : Throughout tight vol s0 history
history_keeps_the_promise = caching_tables_keep_the_promise tight every 7 held no_stop zero_drives (lit< tt) format_finishes history duties_done

pub history_keeps_looks : AtEveryPoint tight vol (EmptyingsKeepLooks tight vol (λ m. device_of tight m.memory)) s0 history
history_keeps_looks = tables_emptyings_keep_looks tight every 7 held no_stop zero_drives (lit< tt) format_finishes history duties_done
