-- The claim of drives that cache resets is not empty: a history on document 01's example in which an unflushed reset is brought back, with its duties done, and what
-- the claim says of it. Five sectors are written and flushed; the reset of their zone is stopped before its second flush; a cut brings the zone back on drives
-- 0 and 2, and leaves it reset on 1 and 3; a look shows it empty; a mount by all drives finishes; two sectors are written and read.
use Rattle.promise.specs.meaning.Claim.{Volume, all_but, mounts, flushes, resets, formats, ready, stopped, down, System, Event, calls, looks, reads, cuts, NamesAll, Dutiful, Throughout, start}
use Rattle.promise.specs.meaning.Histories.{after_all}
use Rattle.promise.specs.meaning.Caches.{WithCaches, on_caching_device}
use Rattle.volume.specs.meaning.Answers.{left_out}
use Rattle.volume.specs.declared.Answer.TheVariants.{Finished}
use Rattle.tables.specs.laws.Device.{WellFormed}
use Rattle.tables.specs.meaning.Device.{ZoneView, Device, keep_first}
use Rattle.tables.specs.meaning.Cached.{LeftOf, CachingCut}
use Rattle.tables.specs.laws.Basics.{and_split}
use Rattle.std.proofs.Common.{le_refl, sym, ◌∙◌, inl, inr, lit<, arith, ne_eqb, leb-true}
use Rattle.std.specs.Prelude.{◌≡◌, refl, Bool, true, false, ◌&&◌, ◌||◌, not, ℕ, ◌≤◌, ◌<◌, List, [], ◌∷◌, ◌++◌, length, get_or, take, drop, eqb, leb, T}
use mathlib.Core.List.Memᴰ
use Rattle.tables.specs.meaning.Basics.{pick}
use Rattle.tables.specs.meaning.Drives.{no_drive}
use Rattle.promise.proofs.device.CachedClaim.{caching_device_keeps_the_promise}
use Rattle.promise.proofs.examples.Example.{geo, lengths, every, no_stop, blank, formatted_state, bytes, writing}
use Rattle.promise.proofs.examples.ClaimExample.{is_mode, all, all_at, ready_is, done, call_well_formed, blank_well_formed}
use Rattle.promise.proofs.examples.Opened.{device_open}

abbrev vol : Volume
vol = on_caching_device geo lengths

-- the caches remember nothing at first
abbrev blank_drives : WithCaches Device
blank_drives = record { memory = blank; was = λ d y. [] }

-- ---- what a cut leaves of a place: what is durable of its view (a), or, where that is wanted, of the one remembered last
abbrev left_back : ZoneView → List ZoneView → Bool → ZoneView
left_back a [] b = keep_first a.durable a
left_back a (o ∷ os) b = pick (b && leb o.durable (length o.sectors)) (keep_first o.durable o) (keep_first a.durable a)

left_back_lem : (a : ZoneView) (was : List ZoneView) (b : Bool) → a.durable ≤ length a.sectors → LeftOf a was (left_back a was b)
left_back_lem a [] b h = inl (record { kept = a.durable; least = le_refl a.durable; most = h; is = refl })
left_back_lem a (o ∷ os) b h = go (b && leb o.durable (length o.sectors)) refl
  where
    go : (t : Bool) → b && leb o.durable (length o.sectors) ≡ t → LeftOf a (o ∷ os) (pick t (keep_first o.durable o) (keep_first a.durable a))
    go true e = inr (o, Memᴰ.head refl, record { kept = o.durable; least = le_refl o.durable; most = leb-true o.durable (length o.sectors) (and_split b (leb o.durable (length o.sectors)) e).1; is = refl })
    go false e = inl (record { kept = a.durable; least = le_refl a.durable; most = h; is = refl })

-- drives 0 and 2
abbrev comes_back : ℕ → Bool
comes_back d = eqb d 0 || eqb d 2

abbrev cut_to : WithCaches Device → WithCaches Device
cut_to m = record { memory = λ d y. left_back (m.memory d y) (m.was d y) (comes_back d); was = λ d y. [] }

cut_left : (x : ℕ) (m : WithCaches Device) → WellFormed m.memory → CachingCut x (record { now = m.memory; was = m.was }) (cut_to m).memory
unfolding CachingCut WellFormed
cut_left x m h d y n = left_back_lem (m.memory d y) (m.was d y) (comes_back d) (h d y)

-- ---- the history: up to the stop, and from the cut on
abbrev s0 : System vol
s0 = start geo vol every (vol.call (formats 7) every formatted_state no_stop blank_drives)

-- the reset is stopped once the zone is reset on the four drives: two entries, four flushes, four resets
abbrev before : List (Event vol)
before = calls (writing 0 5 9) every no_stop ∷ calls flushes every no_stop ∷ calls (resets 0) every 10 ∷ []

abbrev after : WithCaches Device → List (Event vol)
after m = cuts (cut_to m) ∷ looks every ∷ calls mounts every no_stop ∷ calls (writing 0 2 6) every no_stop ∷ reads every 0 2 (bytes 2 0) ∷ []

abbrev history : List (Event vol)
history = before ++ after (after_all geo vol s0 before).memory

-- after the first n events
abbrev point : ℕ → System vol
point n = after_all geo vol s0 (take n history)

-- ---- what became of it
-- how many sectors lie in the zone, and how often its reset is remembered
abbrev held : System vol → ℕ → ℕ
held s d = length (s.memory.memory d 3).sectors

abbrev remembered : System vol → ℕ → ℕ
remembered s d = length (s.memory.was d 3)

-- (each point is computed from the one before)
pub went_so : List Bool
went_so =
    let a1 = after_all geo vol s0 (take 1 before) in
    let a2 = after_all geo vol a1 (take 1 (drop 1 before)) in
    let a3 = after_all geo vol a2 (drop 2 before) in
    let a4 = after_all geo vol a3 (take 1 (after a3.memory)) in
    let a6 = after_all geo vol a4 (take 2 (drop 1 (after a3.memory))) in
    let a7 = after_all geo vol a6 (take 1 (drop 3 (after a3.memory))) in
    -- written, flushed, and the reset stopped: every drive remembers what it held
    is_mode ready a1.mode ∷ is_mode ready a2.mode ∷ eqb (a2.ledger.committed 0) 5 ∷ is_mode stopped a3.mode ∷ a3.ledger.resetting 0
    ∷ eqb (held a3 0) 0 ∷ eqb (held a3 2) 0 ∷ eqb (remembered a3 0) 1 ∷ eqb (remembered a3 1) 1 ∷ eqb (remembered a3 2) 1 ∷ eqb (remembered a3 3) 1
    -- the cut: two sectors and one come back; the look shows none of them
    ∷ is_mode down a4.mode ∷ eqb (held a4 0) 2 ∷ eqb (held a4 1) 0 ∷ eqb (held a4 2) 1 ∷ eqb (held a4 3) 0 ∷ eqb ((vol.shows every a4.memory a4.memory).zone 0).pointer 0
    -- the mount resets the zone again and flushes, then raises the counters; the volume goes on
    ∷ is_mode ready a6.mode ∷ is_mode ready a7.mode ∷ not (a6.ledger.resetting 0) ∷ eqb (held a6 0) 0 ∷ eqb (held a6 2) 0 ∷ eqb (remembered a6 0) 0 ∷ eqb (remembered a6 2) 0
    ∷ eqb (a6.state.generation 0) 2 ∷ eqb (length (a7.ledger.content 0)) 2 ∷ []

pub history_goes : T (all went_so)
unfolding device_open went_so
history_goes = tt

-- ---- its duties are done
none_lost_lem : s0.lost ≡ no_drive
unfolding left_out
none_lost_lem = refl

format_finishes : (vol.call (formats 7) every formatted_state no_stop blank_drives).answer ≡ Finished
unfolding device_open
format_finishes = refl

names_all : (s : System vol) → s.lost ≡ no_drive → NamesAll geo vol s every
names_all s e = record { drives = λ d h. sym (not_lost d h) }
  where
    not_lost : (d : ℕ) → d < 4 → all_but s.lost d ≡ true
    not_lost d h = rw (e, ne_eqb d 255 (λ q. omega arith)) refl

well_formed_3 : WellFormed (point 3).memory.memory
well_formed_3 =
    call_well_formed geo lengths (resets 0) every (point 2).state 10 (point 2).memory.memory (call_well_formed geo lengths flushes every (point 1).state no_stop (point 1).memory.memory
    (call_well_formed geo lengths (writing 0 5 9) every s0.state no_stop s0.memory.memory (call_well_formed geo lengths (formats 7) every formatted_state no_stop blank blank_well_formed)))

pub duties_done : Dutiful geo vol s0 history
unfolding went_so
duties_done =
    let ready_at : (n i : ℕ) → is_mode ready (point n).mode ≡ get_or went_so i true → (point n).mode ≡ ready = λ n i e. ready_is (point n).mode (e ∙ all_at went_so history_goes i) in
    done (names_all s0 none_lost_lem, refl, tt) (done (names_all (point 1) none_lost_lem, ready_at 1 0 refl, tt) (done (names_all (point 2) none_lost_lem, ready_at 2 1 refl, tt)
    (done (record { left = cut_left (point 3).lost (point 3).memory well_formed_3; forgotten = λ d y n. refl }) (done (names_all (point 4) none_lost_lem, tt) (done (names_all (point 5) none_lost_lem, tt, tt)
    (done (names_all (point 6) none_lost_lem, ready_at 6 17 refl, tt) (done (names_all (point 7) none_lost_lem, ready_at 7 18 refl) tt)))))))

-- ---- and what the claim says of it
pub history_keeps_the_promise : Throughout geo vol s0 history
history_keeps_the_promise = caching_device_keeps_the_promise geo lengths every 7 formatted_state no_stop blank_drives (lit< tt) format_finishes history duties_done
