-- A history on drives that cache resets in which calls empty logs, computed, with its duties done, and what the claim and that about emptyings say of it. The zones have
-- ten sectors, so each host's share of a parity log is two. Each host writes one sector, with a reset between; a stripe is completed, and a cut leaves its first unit: a
-- mount stores an entry on drive 2, whose parity log has less than its reserve left then. The zone is reset, a stripe is written, and a cut leaves one sector: the
-- mount that follows empties drive 2's parity log, and makes the zone's entry in the new one. Until that lasts a look without drive 0 shows nothing; then it shows the
-- sector. A compact empties that log again, and a third reset the general logs of drives 0 and 2.
use Rattle.std.specs.Prelude.{◌≡◌, refl, Bool, true, false, ◌&&◌, not, ℕ, ◌+◌, ◌≤◌, ◌<◌, min, List, [], ◌∷◌, ◌++◌, length, get_or, take, drop, eqb, T}
use Rattle.std.proofs.Common.{sym, ◌∙◌, inl, arith, length-take, lit<, ne_eqb, eqb-true}
use Rattle.tables.specs.meaning.Basics.{pick}
use Rattle.tables.specs.meaning.Drives.{no_drive}
use Rattle.tables.specs.meaning.Below.{all_below}
use Rattle.tables.specs.meaning.LittleEndian.{same_bytes}
use Rattle.tables.specs.meaning.Device.{ZoneView, Device, keep_first}
use Rattle.tables.specs.meaning.Cached.{CachingCut}
use Rattle.tables.specs.laws.Device.{WellFormed}
use Rattle.tables.specs.declared.Geometry.{Geometry}
use Rattle.tables.specs.meaning.Geometry.{geometry_of}
use Rattle.logs.specs.meaning.Entry.{encode, partial_parity, closing}
use Rattle.volume.specs.declared.Answer.TheVariants.{Finished}
use Rattle.volume.specs.meaning.State.{share_at}
use Rattle.volume.specs.meaning.Refusals.{TableLengths}
use Rattle.volume.specs.meaning.Roles.{roles}
use Rattle.volume.specs.meaning.Answers.{left_out}
use Rattle.promise.specs.meaning.Claim.{Volume, all_but, mounts, writes, resets, formats, compacts, ready, System, Event, calls, cuts, NamesAll, Dutiful, Throughout, start}
use Rattle.promise.specs.meaning.Histories.{after_all, AtEveryPoint}
use Rattle.promise.specs.meaning.Caches.{WithCaches, on_caching_device}
use Rattle.promise.specs.meaning.Emptied.{flush_end, emptyings_end, UnderWay, emptyings_of_compact, emptyings_of_reset, parity_emptyings_of_mount, entry_made, stopped_at, EmptyingsKeepLooks}
use Rattle.promise.proofs.device.CachedClaim.{caching_device_keeps_the_promise}
use Rattle.promise.proofs.shown.EmptyingsClaimed.{emptyings_keep_looks}
use Rattle.promise.proofs.examples.Example.{every, no_stop, blank, formatted_state, bytes, asked, writing}
use Rattle.promise.proofs.examples.ClaimExample.{is_mode, all, all_at, ready_is, done, call_well_formed, blank_well_formed}
use Rattle.promise.proofs.examples.Opened.{device_open}

abbrev pub tight : Geometry
tight = geometry_of 3 64 2 1 10

abbrev lengths : TableLengths
lengths = record { sectors = 7680; written = 12; durable = 12 }

abbrev vol : Volume
vol = on_caching_device tight lengths

abbrev blank_drives : WithCaches Device
blank_drives = record { memory = blank; was = λ d y. [] }

-- ---- the history
abbrev s0 : System vol
s0 = start tight vol every (vol.call (formats 7) every formatted_state no_stop blank_drives)

-- a cut that leaves the logs as they are, k sectors of the zone on drive 0, and none of it on drives 1 and 2
abbrev kept_in : ℕ → ℕ → ℕ → ZoneView → ℕ
kept_in k d y v = pick (eqb y 3) (min (length v.sectors) (v.durable + pick (eqb d 0) k 0)) (length v.sectors)

abbrev cut_to : ℕ → WithCaches Device → WithCaches Device
cut_to k m = record { memory = λ d y. let v = m.memory d y in keep_first (kept_in k d y v) v; was = λ d y. [] }

abbrev part1 : List (Event vol)
part1 = calls (writing 0 1 9) every no_stop ∷ calls (resets 0) every no_stop ∷ calls (writes (asked 1 0 1 9)) every no_stop ∷ calls (writing 1 3 8) every no_stop ∷ []

abbrev part2 : WithCaches Device → List (Event vol)
part2 m = cuts (cut_to 2 m) ∷ calls mounts every no_stop ∷ calls (resets 0) every no_stop ∷ calls (writing 0 4 6) every no_stop ∷ []

abbrev part3 : WithCaches Device → List (Event vol)
part3 m = cuts (cut_to 1 m) ∷ calls mounts every no_stop ∷ calls (compacts 2) every no_stop ∷ calls (resets 0) every no_stop ∷ []

abbrev p1 : System vol
p1 = after_all tight vol s0 part1

abbrev p2 : System vol
p2 = after_all tight vol p1 (part2 p1.memory)

abbrev history : List (Event vol)
history = part1 ++ (part2 p1.memory ++ part3 p2.memory)

-- after the first n events
abbrev point : ℕ → System vol
point n = after_all tight vol s0 (take n history)

-- ---- what became of it: how many sectors lie in a zone
abbrev held : System vol → ℕ → ℕ → ℕ
held s d y = length (s.memory.memory d y).sectors

abbrev shown_but : WithCaches Device → ℕ → ℕ
shown_but m x = ((vol.shows (all_but x) m m).zone 0).pointer

-- a sector of drive 2's zone y
abbrev log_sector : System vol → ℕ → ℕ → List ℕ
log_sector s y i = get_or (s.memory.memory 2 y).sectors i []

-- the entry of zone 0 at its pointer, and the closing entry of generation n, lie in drive 2's zone y alone
abbrev entry_in : System vol → ℕ → ℕ → Bool
entry_in s y n = eqb (held s 2 y) 3 && (same_bytes (log_sector s y 0) (encode tight 2 (partial_parity 0 0 1 3)) && (same_bytes (log_sector s y 1) (bytes 1 6) && same_bytes (log_sector s y 2) (encode tight 2 (closing 1 n))))

-- a call stopped after n stores: the last mount, and the compact
abbrev mounting : System vol → ℕ → WithCaches Device
mounting s n = stopped_at tight vol s mounts every n

abbrev compacting : System vol → ℕ → WithCaches Device
compacting s n = stopped_at tight vol s (compacts 2) every n

-- (each point is computed from the one before)
pub went_so : List Bool
went_so =
    let a1 = after_all tight vol s0 (take 1 part1) in
    let a2 = after_all tight vol a1 (take 1 (drop 1 part1)) in
    let a3 = after_all tight vol a2 (take 1 (drop 2 part1)) in
    let a4 = after_all tight vol a3 (drop 3 part1) in
    let a6 = after_all tight vol a4 (take 2 (part2 a4.memory)) in
    let a7 = after_all tight vol a6 (take 1 (drop 2 (part2 a4.memory))) in
    let a8 = after_all tight vol a7 (drop 3 (part2 a4.memory)) in
    let a9 = after_all tight vol a8 (take 1 (part3 a8.memory)) in
    let a10 = after_all tight vol a9 (take 1 (drop 1 (part3 a8.memory))) in
    let a11 = after_all tight vol a10 (take 1 (drop 2 (part3 a8.memory))) in
    let a12 = after_all tight vol a11 (drop 3 (part3 a8.memory)) in
    let E = parity_emptyings_of_mount tight no_drive a9.memory.memory in
    let C = emptyings_of_compact tight no_drive a10.memory.memory a10.state 2 in
    let G = emptyings_of_reset tight no_drive a11.memory.memory a11.state in
    is_mode ready a1.mode ∷ is_mode ready a2.mode ∷ is_mode ready a3.mode ∷ is_mode ready a4.mode ∷ is_mode ready a6.mode ∷ is_mode ready a7.mode ∷ is_mode ready a8.mode ∷ is_mode ready a10.mode ∷ is_mode ready a11.mode ∷ is_mode ready a12.mode
    -- the shares of drive 2 after the format, after each host's write, and by the log that the first mount leaves
    ∷ eqb (s0.state.share (share_at 2 0)) 2 ∷ eqb (a2.state.share (share_at 2 0)) 0 ∷ eqb (a2.state.share (share_at 2 1)) 2 ∷ eqb (a4.state.share (share_at 2 1)) 0 ∷ eqb (held a6 2 1) 7 ∷ eqb (a6.state.share (share_at 2 0)) 0 ∷ eqb (a6.state.share (share_at 1 0)) 2
    -- the last mount's emptying: of drive 2 alone, with an entry made; where its first flush ends, and its last store
    ∷ E.emptied 2 ∷ eqb (flush_end tight no_drive E 2) 6 ∷ eqb (emptyings_end E) 13 ∷ not (E.emptied 0) ∷ not (E.emptied 1) ∷ entry_made tight no_drive a9.memory.memory 2 0
    -- at that flush's end a look without drive 0 shows nothing; once the new log lasts, its sector; the old log may come back still, then not
    ∷ eqb (shown_but (mounting a9 6) no_drive) 1 ∷ eqb (shown_but (mounting a9 6) 0) 0 ∷ eqb (shown_but (mounting a9 12) 0) 1 ∷ eqb (length ((mounting a9 13).was 2 1)) 1 ∷ eqb (length (a10.memory.was 2 1)) 0
    -- the new log: the entry, its row, the closing entry; and the look without any one drive
    ∷ eqb (held a10 2 1) 0 ∷ entry_in a10 2 1 ∷ all_below (λ x. eqb (shown_but a10.memory x) 1) 3 ∷ eqb (a10.state.share (share_at 2 0)) 1
    -- the compact's emptying: of drive 2, all its stores; the look without drive 0 shows the sector meanwhile; the copy in the other zone; the old log may come back
    ∷ C.emptied 2 ∷ eqb (flush_end tight no_drive C 2) 3 ∷ eqb (emptyings_end C) 10 ∷ eqb (shown_but (compacting a10 3) 0) 1 ∷ eqb (shown_but (compacting a10 5) 0) 1 ∷ eqb (shown_but (compacting a10 9) 0) 1
    ∷ eqb (held a11 2 2) 0 ∷ entry_in a11 1 2 ∷ eqb (length (a11.memory.was 2 2)) 1 ∷ eqb (a11.state.share (share_at 2 1)) 1
    -- the third reset's emptyings: of the general logs of drives 0 and 2, one after the other, then its own stores
    ∷ G.emptied 0 ∷ not (G.emptied 1) ∷ G.emptied 2 ∷ eqb (flush_end tight no_drive G 0) 3 ∷ eqb (flush_end tight no_drive G 2) 13 ∷ eqb (emptyings_end G) 20
    ∷ eqb (held a11 0 0) 6 ∷ eqb (held a12 0 0) 0 ∷ eqb (held a12 0 2) 5 ∷ eqb (held a12 1 0) 5 ∷ eqb (held a12 2 0) 0 ∷ eqb (held a12 2 2) 5 ∷ eqb (roles tight a12.memory.memory 0).general 2 ∷ eqb (roles tight a12.memory.memory 2).general 2
    ∷ []

pub history_goes : T (all went_so)
unfolding device_open went_so
history_goes = tt

-- ---- its duties are done
none_lost_lem : s0.lost ≡ no_drive
unfolding left_out
none_lost_lem = refl

format_finishes : (vol.call (formats 7) every formatted_state no_stop blank_drives).answer ≡ Finished
unfolding device_open
format_finishes = refl

names_all : (s : System vol) → s.lost ≡ no_drive → NamesAll tight vol s every
names_all s e = record { drives = λ d h. sym (not_lost d h) }
  where
    not_lost : (d : ℕ) → d < 3 → all_but s.lost d ≡ true
    not_lost d h = rw (e, ne_eqb d 255 (λ q. omega arith)) refl

kept_least : (k d y : ℕ) (v : ZoneView) → v.durable ≤ length v.sectors → v.durable ≤ kept_in k d y v
kept_least k d y v w = go (eqb y 3)
  where
    go : (b : Bool) → v.durable ≤ pick b (min (length v.sectors) (v.durable + pick (eqb d 0) k 0)) (length v.sectors)
    go true = omega (arith, w)
    go false = w

kept_most : (k d y : ℕ) (v : ZoneView) → kept_in k d y v ≤ length v.sectors
kept_most k d y v = go (eqb y 3)
  where
    go : (b : Bool) → pick b (min (length v.sectors) (v.durable + pick (eqb d 0) k 0)) (length v.sectors) ≤ length v.sectors
    go true = omega arith
    go false = omega arith

cut_left : (k x : ℕ) (m : WithCaches Device) → WellFormed m.memory → CachingCut x (record { now = m.memory; was = m.was }) (cut_to k m).memory
unfolding CachingCut WellFormed
cut_left k x m h d y n = let v = m.memory d y in inl (record { kept = kept_in k d y v; least = kept_least k d y v (h d y); most = kept_most k d y v; is = refl })

cut_well_formed : (k : ℕ) (m : WithCaches Device) → WellFormed (cut_to k m).memory
unfolding WellFormed
cut_well_formed k m d y = let v = m.memory d y in let n = kept_in k d y v in rw (length-take n v.sectors) (omega (arith, kept_most k d y v))

well_formed_4 : WellFormed (point 4).memory.memory
well_formed_4 =
    call_well_formed tight lengths (writing 1 3 8) every (point 3).state no_stop (point 3).memory.memory (call_well_formed tight lengths (writes (asked 1 0 1 9)) every (point 2).state no_stop (point 2).memory.memory
    (call_well_formed tight lengths (resets 0) every (point 1).state no_stop (point 1).memory.memory (call_well_formed tight lengths (writing 0 1 9) every s0.state no_stop s0.memory.memory
    (call_well_formed tight lengths (formats 7) every formatted_state no_stop blank blank_well_formed))))

well_formed_8 : WellFormed (point 8).memory.memory
well_formed_8 =
    call_well_formed tight lengths (writing 0 4 6) every (point 7).state no_stop (point 7).memory.memory (call_well_formed tight lengths (resets 0) every (point 6).state no_stop (point 6).memory.memory
    (call_well_formed tight lengths mounts every (point 5).state no_stop (point 5).memory.memory (cut_well_formed 2 (point 4).memory)))

pub duties_done : Dutiful tight vol s0 history
unfolding went_so
duties_done =
    let ready_at : (n i : ℕ) → is_mode ready (point n).mode ≡ get_or went_so i true → (point n).mode ≡ ready = λ n i e. ready_is (point n).mode (e ∙ all_at went_so history_goes i) in
    done (names_all s0 none_lost_lem, refl, tt) (done (names_all (point 1) none_lost_lem, ready_at 1 0 refl, tt) (done (names_all (point 2) none_lost_lem, ready_at 2 1 refl, tt) (done (names_all (point 3) none_lost_lem, ready_at 3 2 refl, tt)
    (done (record { left = cut_left 2 (point 4).lost (point 4).memory well_formed_4; forgotten = λ d y n. refl }) (done (names_all (point 5) none_lost_lem, tt, tt)
    (done (names_all (point 6) none_lost_lem, ready_at 6 4 refl, tt) (done (names_all (point 7) none_lost_lem, ready_at 7 5 refl, tt)
    (done (record { left = cut_left 1 (point 8).lost (point 8).memory well_formed_8; forgotten = λ d y n. refl }) (done (names_all (point 9) none_lost_lem, tt, tt)
    (done (names_all (point 10) none_lost_lem, ready_at 10 7 refl, tt) (done (names_all (point 11) none_lost_lem, ready_at 11 8 refl, tt) tt)))))))))))

-- ---- what the claim says of it, and that about emptyings
pub history_keeps_the_promise : Throughout tight vol s0 history
history_keeps_the_promise = caching_device_keeps_the_promise tight lengths every 7 formatted_state no_stop blank_drives (lit< tt) format_finishes history duties_done

pub history_keeps_looks : AtEveryPoint tight vol (EmptyingsKeepLooks tight vol (λ m. m.memory)) s0 history
history_keeps_looks = emptyings_keep_looks tight lengths every 7 formatted_state no_stop blank_drives (lit< tt) format_finishes history duties_done

-- its hypotheses are met: the mount stopped after its second flush inside drive 2's emptying, and the compact with its new log half written
pub under_way : UnderWay tight no_drive (parity_emptyings_of_mount tight no_drive (point 9).memory.memory) 2 12
unfolding went_so
under_way =
    let E = parity_emptyings_of_mount tight no_drive (point 9).memory.memory in
    let start : flush_end tight no_drive E 2 ≡ 6 = eqb-true (flush_end tight no_drive E 2) 6 (all_at went_so history_goes 18) in
    let end : emptyings_end E ≡ 13 = eqb-true (emptyings_end E) 13 (all_at went_so history_goes 19) in
    record { drive = lit< tt; is_emptied = all_at went_so history_goes 17; flushed = omega (arith, start); not_next = λ e h k b. absurd (omega (arith, h, k)); not_done = omega (arith, end) }

pub compact_under_way : UnderWay tight no_drive (emptyings_of_compact tight no_drive (point 10).memory.memory (point 10).state 2) 2 5
unfolding went_so
compact_under_way =
    let C = emptyings_of_compact tight no_drive (point 10).memory.memory (point 10).state 2 in
    let start : flush_end tight no_drive C 2 ≡ 3 = eqb-true (flush_end tight no_drive C 2) 3 (all_at went_so history_goes 33) in
    let end : emptyings_end C ≡ 10 = eqb-true (emptyings_end C) 10 (all_at went_so history_goes 34) in
    record { drive = lit< tt; is_emptied = all_at went_so history_goes 32; flushed = omega (arith, start); not_next = λ e h k b. absurd (omega (arith, h, k)); not_done = omega (arith, end) }
