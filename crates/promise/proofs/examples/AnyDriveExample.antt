-- Any drive may go after a mount: a history that meets the hypotheses, with a sealed zone, an open one inside a stripe and an empty one, a reset that is stopped before
-- its first store, and a cut, computed; and why nothing may be stored since the mount: five sectors written, not flushed, and a cut that loses their parity entry. All
-- drives show them still; without drive 0 there is nothing.
use Rattle.std.specs.Prelude.{◌≡◌, refl, Bool, true, false, ◌&&◌, ℕ, ◌+◌, ◌≤◌, ◌<◌, min, List, [], ◌∷◌, ◌++◌, length, get_or, eqb, T}
use Rattle.std.proofs.Common.{sym, inl, inr, true≢false, arith, length-take, lit<, ne_eqb, eqb-true}
use Rattle.tables.specs.meaning.Basics.{pick}
use Rattle.tables.specs.meaning.Below.{all_below}
use Rattle.tables.specs.meaning.Drives.{no_drive}
use Rattle.tables.specs.meaning.LittleEndian.{same_bytes}
use Rattle.tables.specs.meaning.Device.{Device, keep_first, Cut}
use Rattle.tables.specs.laws.Device.{WellFormed}
use Rattle.tables.specs.declared.Geometry.{Geometry}
use Rattle.tables.specs.meaning.Geometry.{geometry_of}
use Rattle.volume.specs.declared.Answer.{Answer}
use Rattle.volume.specs.declared.Answer.TheVariants.{Finished, Unfinished, Refused, BadLog}
use Rattle.volume.specs.declared.Condition.{Condition}
use Rattle.volume.specs.declared.Condition.TheVariants.{Empty, Open, Sealed}
use Rattle.volume.specs.meaning.Refusals.{TableLengths}
use Rattle.volume.specs.meaning.Rules.{Shown, ZoneShown}
use Rattle.volume.specs.meaning.State.{StateView}
use Rattle.volume.specs.meaning.Answers.{left_out}
use Rattle.promise.specs.meaning.Claim.{Volume, all_but, mounts, flushes, resets, formats, Mode, ready, stopped, down, mode_after, System, Event, calls, looks, reads, reports, cuts, next, NamesAll, Dutiful, start}
use Rattle.promise.specs.meaning.OnDevice.{on_device}
use Rattle.promise.specs.meaning.Histories.{after_all}
use Rattle.promise.specs.meaning.AnyDrive.{NoneStored, AllStoreNothing, AnyDriveMayGo}
use Rattle.promise.proofs.examples.Example.{every, no_stop, blank, formatted_state, bytes, writing}
use Rattle.promise.proofs.examples.Cases.{same_condition}
use Rattle.promise.proofs.examples.ClaimExample.{is_mode, all, all_at, ready_is, may_mount, call_well_formed, blank_well_formed, done}
use Rattle.promise.proofs.examples.Opened.{device_open}
use Rattle.promise.proofs.shown.AnyDriveProved.{any_drive_on_device}

-- document 01's example with three zones, of 18 sectors on each drive
abbrev geo : Geometry
geo = geometry_of 4 64 2 3 18

abbrev lengths : TableLengths
lengths = record { sectors = 27648; written = 24; durable = 24 }

abbrev vol : Volume
vol = on_device geo lengths

-- a cut that keeps, beside what is durable, at most so many sectors of each drive's zone 3
abbrev cut_to : List ℕ → Device → Device
cut_to ks v d y = keep_first (min (length (v d y).sectors) ((v d y).durable + pick (eqb y 3) (get_or ks d 0) 0)) (v d y)

-- ---- the history: zone 1 is written inside a stripe and flushed; zone 0 is written; a cut leaves three sectors of it, and one past them; a mount; a look,
-- a read, a write that is refused, a report, a reset that is stopped before its first store; a cut; a look
abbrev s0 : System vol
s0 = start geo vol every (vol.call (formats 7) every formatted_state no_stop blank)

abbrev e1 : Event vol
e1 = calls (writing 54 3 7) every no_stop

abbrev s1 : System vol
s1 = next geo vol s0 e1

abbrev e2 : Event vol
e2 = calls flushes every no_stop

abbrev s2 : System vol
s2 = next geo vol s1 e2

abbrev e3 : Event vol
e3 = calls (writing 0 5 9) every no_stop

abbrev s3 : System vol
s3 = next geo vol s2 e3

abbrev e4 : Event vol
e4 = cuts (cut_to (2 ∷ 1 ∷ 1 ∷ 0 ∷ []) s3.memory)

abbrev s4 : System vol
s4 = next geo vol s3 e4

abbrev mounted : System vol
mounted = next geo vol s4 (calls mounts every no_stop)

abbrev f1 : Event vol
f1 = looks every

abbrev t1 : System vol
t1 = next geo vol mounted f1

abbrev f2 : Event vol
f2 = reads every 54 3 (bytes 3 0)

abbrev f3 : Event vol
f3 = calls (writing 0 1 5) every no_stop

abbrev t3 : System vol
t3 = next geo vol t1 f3

abbrev f4 : Event vol
f4 = reports []

abbrev f5 : Event vol
f5 = calls (resets 0) every 0

abbrev t5 : System vol
t5 = next geo vol t3 f5

abbrev f6 : Event vol
f6 = cuts (cut_to [] t5.memory)

abbrev t6 : System vol
t6 = next geo vol t5 f6

abbrev f7 : Event vol
f7 = looks every

abbrev before : List (Event vol)
before = e1 ∷ e2 ∷ e3 ∷ e4 ∷ []

abbrev after : List (Event vol)
after = f1 ∷ f2 ∷ f3 ∷ f4 ∷ f5 ∷ f6 ∷ f7 ∷ []

-- zone 0 of the other history, behind the same write: a cut that keeps its sectors, without their entry
abbrev torn : System vol
torn = next geo vol s3 (cuts (cut_to (2 ∷ 2 ∷ 1 ∷ 0 ∷ []) s3.memory))

-- ---- what became of them
-- a zone is shown so: generation, condition, and every sector below the pointer of bytes b
abbrev shows_zone : ZoneShown → ℕ → Condition → ℕ → Bool
shows_zone k n c b = eqb k.generation n && (same_condition k.condition c && all_below (λ a. same_bytes (k.value a) (bytes 1 b)) k.pointer)

-- sealed at 3; open at 3; empty, its generation raised by the mount
abbrev shows_three : Shown → Bool
shows_three k = shows_zone (k.zone 0) 1 (Sealed 3) 9 && (shows_zone (k.zone 1) 1 (Open 3) 7 && shows_zone (k.zone 2) 2 Empty 0)

abbrev refused_by : ℕ → Answer → Bool
refused_by n Finished = false
refused_by n Unfinished = false
refused_by n (Refused m) = eqb m n
refused_by n (BadLog b) = false

pub went_so : List Bool
went_so =
    let a1 = next geo vol s0 e1 in
    let a2 = next geo vol a1 e2 in
    let a3 = next geo vol a2 e3 in
    let a4 = next geo vol a3 (cuts (cut_to (2 ∷ 1 ∷ 1 ∷ 0 ∷ []) a3.memory)) in
    let m = next geo vol a4 (calls mounts every no_stop) in
    let b1 = next geo vol m f1 in
    let b3 = next geo vol b1 f3 in
    let b5 = next geo vol b3 f5 in
    let b6 = next geo vol b5 (cuts (cut_to [] b5.memory)) in
    let c = next geo vol a3 (cuts (cut_to (2 ∷ 2 ∷ 1 ∷ 0 ∷ []) a3.memory)) in
    is_mode ready a1.mode ∷ is_mode ready a2.mode ∷ is_mode ready a3.mode ∷ is_mode ready m.mode ∷ is_mode ready b1.mode ∷ is_mode ready b3.mode
    -- the write is refused: not at the pointer
    ∷ refused_by 10 (vol.call (writing 0 1 5) every b1.state no_stop b1.memory).answer
    -- with all drives, and without any one
    ∷ shows_three (vol.shows every b3.memory b3.memory) ∷ all_below (λ x. shows_three (vol.shows (all_but x) b3.memory b3.memory)) 4
    -- not after the other cut: with all drives five sectors, without drive 0 none
    ∷ eqb ((vol.shows every c.memory c.memory).zone 0).pointer 5 ∷ eqb ((vol.shows (all_but 0) c.memory c.memory).zone 0).pointer 0
    -- the reset is not finished; after the cut a look shows the same
    ∷ is_mode stopped b5.mode ∷ shows_three (vol.shows every b6.memory b6.memory) ∷ all_below (λ x. shows_three (vol.shows (all_but x) b6.memory b6.memory)) 4 ∷ []

pub history_goes : T (all went_so)
unfolding device_open went_so
history_goes = tt

ready_1 : s1.mode ≡ ready
unfolding went_so
ready_1 = ready_is s1.mode (all_at went_so history_goes 0)

ready_2 : s2.mode ≡ ready
unfolding went_so
ready_2 = ready_is s2.mode (all_at went_so history_goes 1)

ready_mounted : mounted.mode ≡ ready
unfolding went_so
ready_mounted = ready_is mounted.mode (all_at went_so history_goes 3)

ready_t1 : t1.mode ≡ ready
unfolding went_so
ready_t1 = ready_is t1.mode (all_at went_so history_goes 4)

ready_t3 : t3.mode ≡ ready
unfolding went_so
ready_t3 = ready_is t3.mode (all_at went_so history_goes 5)

refused_stores : (a : Answer) (stop : ℕ) → refused_by 10 a ≡ true → NoneStored a stop
refused_stores Finished stop e = absurd (true≢false (sym e))
refused_stores Unfinished stop e = absurd (true≢false (sym e))
refused_stores (Refused n) stop e = tt
refused_stores (BadLog b) stop e = absurd (true≢false (sym e))

write_stores_lem : NoneStored (vol.call (writing 0 1 5) every t1.state no_stop t1.memory).answer no_stop
unfolding went_so
write_stores_lem = refused_stores (vol.call (writing 0 1 5) every t1.state no_stop t1.memory).answer no_stop (all_at went_so history_goes 6)

stopped_stores : (a : Answer) (m : Mode) → is_mode stopped (mode_after a m) ≡ true → m ≡ ready → NoneStored a 0
stopped_stores Finished m e q = absurd (true≢false (sym e))
stopped_stores Unfinished m e q = refl
stopped_stores (Refused n) m e q = tt
stopped_stores (BadLog b) m e q = tt

reset_stores_lem : NoneStored (vol.call (resets 0) every t3.state 0 t3.memory).answer 0
unfolding went_so
reset_stores_lem = stopped_stores (vol.call (resets 0) every t3.state 0 t3.memory).answer t3.mode (all_at went_so history_goes 11) ready_t3

-- a call after a cut that leaves the volume ready has finished
finished_since : (a : Answer) → mode_after a down ≡ ready → a ≡ Finished
finished_since Finished e = refl
finished_since Unfinished e = absurd (let z : ◌≡◌ {A = ℕ} 0 1 = cc in omega arith)
finished_since (Refused n) e = absurd (let z : ◌≡◌ {A = ℕ} 0 1 = cc in omega arith)
finished_since (BadLog b) e = absurd (let z : ◌≡◌ {A = ℕ} 0 1 = cc in omega arith)

-- ---- its duties are done
none_lost_lem : s0.lost ≡ no_drive
unfolding left_out
none_lost_lem = refl

format_finishes : (vol.call (formats 7) every formatted_state no_stop blank).answer ≡ Finished
unfolding device_open
format_finishes = refl

names_all : (s : System vol) → s.lost ≡ no_drive → NamesAll geo vol s every
names_all s e = record { drives = λ d h. sym (not_lost d h) }
  where
    not_lost : (d : ℕ) → d < 4 → all_but s.lost d ≡ true
    not_lost d h = rw (e, ne_eqb d 255 (λ q. omega arith)) refl

cut_keeps : (ks : List ℕ) (x : ℕ) (v : Device) → WellFormed v → Cut x v (cut_to ks v)
unfolding Cut WellFormed
cut_keeps ks x v h d y n = let k = pick (eqb y 3) (get_or ks d 0) 0 in let a = (v d y).durable in let b = length (v d y).sectors in let w : a ≤ b = h d y in
    record { kept = min b (a + k); least = omega (arith, w); most = omega arith; is = refl }

cut_well_formed : (ks : List ℕ) (v : Device) → WellFormed (cut_to ks v)
unfolding WellFormed
cut_well_formed ks v d y = let k = pick (eqb y 3) (get_or ks d 0) 0 in let n = min (length (v d y).sectors) ((v d y).durable + k) in rw (length-take n (v d y).sectors) (omega arith)

well_formed_3 : WellFormed s3.memory
well_formed_3 =
    call_well_formed geo lengths (writing 0 5 9) every s2.state no_stop s2.memory (call_well_formed geo lengths flushes every s1.state no_stop s1.memory
    (call_well_formed geo lengths (writing 54 3 7) every s0.state no_stop s0.memory (call_well_formed geo lengths (formats 7) every formatted_state no_stop blank blank_well_formed)))

well_formed_t5 : WellFormed t5.memory
well_formed_t5 =
    call_well_formed geo lengths (resets 0) every t3.state 0 t3.memory (call_well_formed geo lengths (writing 0 1 5) every t1.state no_stop t1.memory
    (call_well_formed geo lengths mounts every s4.state no_stop s4.memory (cut_well_formed (2 ∷ 1 ∷ 1 ∷ 0 ∷ []) s3.memory)))

pub duties_done : Dutiful geo vol s0 (before ++ (calls mounts every no_stop ∷ after))
duties_done =
    done (names_all s0 none_lost_lem, refl, tt) (done (names_all s1 none_lost_lem, ready_1, tt) (done (names_all s2 none_lost_lem, ready_2, tt) (done (cut_keeps (2 ∷ 1 ∷ 1 ∷ 0 ∷ []) s3.lost s3.memory well_formed_3)
    (done (names_all s4 none_lost_lem, tt, tt) (done (names_all mounted none_lost_lem, may_mount mounted.mode ready_mounted) (done (names_all t1 none_lost_lem, ready_t1) (done (names_all t1 none_lost_lem, ready_t1, tt) (done ready_t3
    (done (names_all t3 none_lost_lem, ready_t3, tt) (done (cut_keeps [] t5.lost t5.memory well_formed_t5) (done (names_all t6 none_lost_lem, tt) tt)))))))))))

nothing_stored : AllStoreNothing geo vol mounted after
nothing_stored = done tt (done tt (done write_stores_lem (done tt (done reset_stores_lem (done tt (done tt tt))))))

-- ---- and what the theorem says of it
pub any_drive_here : AnyDriveMayGo geo vol (vol.shows every s4.memory mounted.memory) mounted.state (after_all geo vol mounted after)
any_drive_here = any_drive_on_device geo lengths every 7 formatted_state no_stop blank (lit< tt) format_finishes before after every no_stop duties_done none_lost_lem (finished_since (vol.call mounts every s4.state no_stop s4.memory).answer ready_mounted) nothing_stored

-- ---- of the other one it would not hold
pub not_after_a_write : (k : Shown) (handed : StateView) → AnyDriveMayGo geo vol k handed torn → ⊥
unfolding went_so left_out
not_after_a_write k handed h =
    let p = (h no_drive (inl refl) every (names_all torn none_lost_lem).drives).shown.pointers 0 (lit< tt) in
    let q = (h 0 (inr (lit< tt)) (all_but 0) (λ d b. refl)).shown.pointers 0 (lit< tt) in
    let five : ((vol.shows every torn.memory torn.memory).zone 0).pointer ≡ 5 = eqb-true _ 5 (all_at went_so history_goes 9) in
    let none : ((vol.shows (all_but 0) torn.memory torn.memory).zone 0).pointer ≡ 0 = eqb-true _ 0 (all_at went_so history_goes 10) in
    omega (arith, p, q, five, none)
