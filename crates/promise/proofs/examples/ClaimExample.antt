-- The claim is not empty: a history on document 01's example, with its duties done, and what the claim says of it. Five sectors are written
-- and flushed; a write at the wrong address is refused; a look; a peek; another zone is written and reset; the reset of the first one is
-- stopped; a cut leaves just what is durable; a look shows that zone empty; drive 1 is lost, its memory gone; a mount by the others finishes; a write, a
-- read and a peek.
use Rattle.promise.specs.meaning.Claim.{Volume, pointer_held, all_but, Call, mounts, flushes, resets, formats, Mode, ready, stopped, down, System, Event, calls, looks, reads, peeks, cuts, loses, next, NamesAll, MayMount, Dutiful, Throughout, start}
use Rattle.promise.specs.meaning.OnDevice.{call_of, on_device}
use Rattle.volume.specs.meaning.Answers.{CallResult, storing, left_out}
use Rattle.volume.specs.declared.Answer.TheVariants.{Finished, Unfinished}
use Rattle.volume.specs.meaning.Refusals.{TableLengths, refuse, accept, first_refusal, Verdict}
use Rattle.tables.specs.declared.Geometry.{Geometry}
use Rattle.tables.specs.laws.Device.{well_formed_apply_all, WellFormed}
use Rattle.tables.specs.meaning.Device.{Store, apply_all, Device, blank_zone, keep_first, Cut, Loss}
use Rattle.std.proofs.Common.{le_refl, sym, inl, true≢false, lit<, arith, ne_eqb}
use Rattle.promise.proofs.examples.Example.{geo, lengths, every, no_stop, blank, formatted_state, bytes, writing}
use Rattle.std.specs.Prelude.{◌≡◌, refl, Bool, true, false, ◌&&◌, not, ℕ, zero, suc, ◌<◌, List, [], ◌∷◌, length, get_or, take, eqb, ltb, T}
use Rattle.tables.specs.meaning.Basics.{pick}
use Rattle.tables.specs.meaning.Drives.{no_drive}
use Rattle.volume.specs.meaning.State.{StateView}
use Rattle.promise.proofs.device.OlderDrives.{device_keeps_the_promise}
use Rattle.promise.proofs.examples.Opened.{device_open}

abbrev vol : Volume
vol = on_device geo lengths

-- ---- the history, point by point
abbrev s0 : System vol
s0 = start geo vol every (vol.call (formats 7) every formatted_state no_stop blank)

abbrev e1 : Event vol
e1 = calls (writing 0 5 9) every no_stop

abbrev s1 : System vol
s1 = next geo vol s0 e1

abbrev e2 : Event vol
e2 = calls flushes every no_stop

abbrev s2 : System vol
s2 = next geo vol s1 e2

-- refused: not at the pointer
abbrev e3 : Event vol
e3 = calls (writing 7 1 8) every no_stop

abbrev s3 : System vol
s3 = next geo vol s2 e3

abbrev e4 : Event vol
e4 = looks every

abbrev s4 : System vol
s4 = next geo vol s3 e4

abbrev e5 : Event vol
e5 = peeks every 4

abbrev s5 : System vol
s5 = next geo vol s4 e5

abbrev e6 : Event vol
e6 = calls (writing 96 3 7) every no_stop

abbrev s6 : System vol
s6 = next geo vol s5 e6

abbrev e7 : Event vol
e7 = calls (resets 1) every no_stop

abbrev s7 : System vol
s7 = next geo vol s6 e7

-- stopped once its entries are flushed
abbrev e8 : Event vol
e8 = calls (resets 0) every 6

abbrev s8 : System vol
s8 = next geo vol s7 e8

abbrev after_cut : Device
after_cut d y = keep_first (s8.memory d y).durable (s8.memory d y)

abbrev e9 : Event vol
e9 = cuts after_cut

abbrev s9 : System vol
s9 = next geo vol s8 e9

abbrev e10 : Event vol
e10 = looks every

abbrev s10 : System vol
s10 = next geo vol s9 e10

-- nothing is left on drive 1
abbrev after_loss : Device
after_loss d y = pick (eqb d 1) blank_zone (after_cut d y)

abbrev e11 : Event vol
e11 = loses 1 after_loss

abbrev s11 : System vol
s11 = next geo vol s10 e11

abbrev e12 : Event vol
e12 = calls mounts (all_but 1) no_stop

abbrev s12 : System vol
s12 = next geo vol s11 e12

abbrev e13 : Event vol
e13 = calls (writing 0 2 6) (all_but 1) no_stop

abbrev s13 : System vol
s13 = next geo vol s12 e13

abbrev e14 : Event vol
e14 = reads (all_but 1) 0 2 (bytes 2 0)

abbrev s14 : System vol
s14 = next geo vol s13 e14

abbrev e15 : Event vol
e15 = peeks (all_but 1) 0

abbrev s15 : System vol
s15 = next geo vol s14 e15

abbrev history : List (Event vol)
history = e1 ∷ e2 ∷ e3 ∷ e4 ∷ e5 ∷ e6 ∷ e7 ∷ e8 ∷ e9 ∷ e10 ∷ e11 ∷ e12 ∷ e13 ∷ e14 ∷ e15 ∷ []

-- ---- what became of it
abbrev pub mode_number : Mode → ℕ
mode_number ready = 0
mode_number stopped = 1
mode_number down = 2

abbrev pub is_mode : Mode → Mode → Bool
is_mode m n = eqb (mode_number m) (mode_number n)

-- all of a list
abbrev pub all : List Bool → Bool
all [] = true
all (b ∷ bs) = b && all bs

-- (each point is computed from the one before)
pub went_so : List Bool
went_so =
    let a1 = next geo vol s0 e1 in
    let a2 = next geo vol a1 e2 in
    let a3 = next geo vol a2 e3 in
    let a4 = next geo vol a3 e4 in
    let a5 = next geo vol a4 e5 in
    let a6 = next geo vol a5 e6 in
    let a7 = next geo vol a6 e7 in
    let a8 = next geo vol a7 e8 in
    let cut : Device = λ d y. keep_first (a8.memory d y).durable (a8.memory d y) in
    let a9 = next geo vol a8 (cuts cut) in
    let a10 = next geo vol a9 e10 in
    let a11 = next geo vol a10 (loses 1 (λ d y. pick (eqb d 1) blank_zone (cut d y))) in
    let a12 = next geo vol a11 e12 in
    let a13 = next geo vol a12 e13 in
    -- written and flushed; refused
    is_mode ready a1.mode ∷ is_mode ready a2.mode ∷ is_mode ready a3.mode ∷ eqb (a2.ledger.committed 0) 5 ∷ eqb (length (a3.ledger.content 0)) 5
    -- the look's state is what the host held
    ∷ eqb (pointer_held vol a4.state 0) 5 ∷ eqb (a4.state.generation 0) 1 ∷ eqb (vol.peek every a4.state 4 a4.memory).number 0
    -- a reset that finishes
    ∷ is_mode ready a6.mode ∷ is_mode ready a7.mode ∷ eqb (length (a6.ledger.content 1)) 3 ∷ eqb (length (a7.ledger.content 1)) 0 ∷ eqb (a7.state.generation 1) 2
    -- one that is stopped: the flag is up, and what is committed is shown no more
    ∷ is_mode stopped a8.mode ∷ a8.ledger.resetting 0 ∷ eqb (a9.ledger.committed 0) 5 ∷ is_mode down a9.mode ∷ eqb ((vol.shows every a9.memory a9.memory).zone 0).pointer 0
    -- the mount finishes without drive 1, and the volume goes on
    ∷ is_mode ready a12.mode ∷ is_mode ready a13.mode ∷ not (a12.ledger.resetting 0) ∷ eqb a12.state.lost 1 ∷ eqb (pointer_held vol a12.state 0) 0
    ∷ eqb (length (a13.ledger.content 0)) 2 ∷ eqb (vol.peek (all_but 1) a13.state 0 a13.memory).number 0 ∷ []

pub history_goes : T (all went_so)
unfolding device_open went_so
history_goes = tt

-- what was computed is not computed again
pub all_at : (bs : List Bool) → T (all bs) → (i : ℕ) → get_or bs i true ≡ true
all_at [] h i = refl
all_at (true ∷ bs) h zero = refl
all_at (true ∷ bs) h (suc i) = all_at bs h i
all_at (false ∷ bs) h i = absurd h

pub ready_is : (m : Mode) → is_mode ready m ≡ true → m ≡ ready
ready_is ready e = refl
ready_is stopped e = absurd (true≢false (sym e))
ready_is down e = absurd (true≢false (sym e))

pub may_mount : (m : Mode) → m ≡ ready → MayMount m
may_mount ready e = tt
may_mount stopped e = absurd (let z : ◌≡◌ {A = ℕ} 0 1 = cc in omega arith)
may_mount down e = tt

ready_1 : s1.mode ≡ ready
unfolding went_so
ready_1 = ready_is s1.mode (all_at went_so history_goes 0)

ready_2 : s2.mode ≡ ready
unfolding went_so
ready_2 = ready_is s2.mode (all_at went_so history_goes 1)

ready_3 : s3.mode ≡ ready
unfolding went_so
ready_3 = ready_is s3.mode (all_at went_so history_goes 2)

ready_6 : s6.mode ≡ ready
unfolding went_so
ready_6 = ready_is s6.mode (all_at went_so history_goes 8)

ready_7 : s7.mode ≡ ready
unfolding went_so
ready_7 = ready_is s7.mode (all_at went_so history_goes 9)

ready_12 : s12.mode ≡ ready
unfolding went_so
ready_12 = ready_is s12.mode (all_at went_so history_goes 18)

ready_13 : s13.mode ≡ ready
unfolding went_so
ready_13 = ready_is s13.mode (all_at went_so history_goes 19)

-- ---- its duties are done
none_lost_lem : s0.lost ≡ no_drive
unfolding left_out
none_lost_lem = refl

format_finishes : (vol.call (formats 7) every formatted_state no_stop blank).answer ≡ Finished
unfolding device_open
format_finishes = refl

abbrev pub done : {A B : Type 0} → A → B → A × B
done a b = (a, b)

names_all : (s : System vol) → s.lost ≡ no_drive → NamesAll geo vol s every
names_all s e = record { drives = λ d h. sym (not_lost d h) }
  where
    not_lost : (d : ℕ) → d < 4 → all_but s.lost d ≡ true
    not_lost d h = rw (e, ne_eqb d 255 (λ q. omega arith)) refl

names_without_1 : (s : System vol) → s.lost ≡ 1 → NamesAll geo vol s (all_but 1)
names_without_1 s e = record { drives = λ d h. rw e refl }

-- a cut that leaves just what is durable
cut_to_durable : (x : ℕ) (v : Device) → WellFormed v → Cut x v (λ d y. keep_first (v d y).durable (v d y))
unfolding Cut WellFormed
cut_to_durable x v h d y n = record { kept = (v d y).durable; least = le_refl (v d y).durable; most = h d y; is = refl }

-- the device is well formed whatever a call answers
answer_well_formed : (r : Verdict) (xs : List Store) (new old : StateView) (stop : ℕ) (v : Device) → WellFormed v → WellFormed (storing r xs new old stop v).memory
answer_well_formed (refuse n) xs new old stop v h = h
answer_well_formed accept xs new old stop v h = go (ltb stop (length xs))
  where
    go : (b : Bool) → WellFormed (pick {A = CallResult Device StateView} b (record { answer = Unfinished; memory = apply_all (take stop xs) v; state = old }) (record { answer = Finished; memory = apply_all xs v; state = new })).memory
    go true = well_formed_apply_all (take stop xs) v h
    go false = well_formed_apply_all xs v h

pub call_well_formed : (g : Geometry) (t : TableLengths) (c : Call) (named : ℕ → Bool) (old : StateView) (stop : ℕ) (v : Device) → WellFormed v → WellFormed ((on_device g t).call c named old stop v).memory
call_well_formed g t c named old stop v h = let k = call_of g t c named old v in answer_well_formed (first_refusal k.refusals) k.stores k.state old stop v h

pub blank_well_formed : WellFormed blank
unfolding WellFormed
blank_well_formed d y = le_refl 0

well_formed_8 : WellFormed s8.memory
well_formed_8 =
    call_well_formed geo lengths (resets 0) every s7.state 6 s7.memory (call_well_formed geo lengths (resets 1) every s6.state no_stop s6.memory
    (call_well_formed geo lengths (writing 96 3 7) every s5.state no_stop s5.memory (call_well_formed geo lengths (writing 7 1 8) every s2.state no_stop s2.memory
    (call_well_formed geo lengths flushes every s1.state no_stop s1.memory (call_well_formed geo lengths (writing 0 5 9) every s0.state no_stop s0.memory (call_well_formed geo lengths (formats 7) every formatted_state no_stop blank blank_well_formed))))))

lose_1 : (v : Device) → Loss 1 v (λ d y. pick (eqb d 1) blank_zone (v d y))
unfolding Loss
lose_1 v d y n = rw (ne_eqb d 1 n) refl

pub duties_done : Dutiful geo vol s0 history
duties_done =
    done (names_all s0 none_lost_lem, refl, tt) (done (names_all s1 none_lost_lem, ready_1, tt) (done (names_all s2 none_lost_lem, ready_2, tt) (done (names_all s3 none_lost_lem, may_mount s3.mode ready_3)
    (done (names_all s4 none_lost_lem, ready_3) (done (names_all s5 none_lost_lem, ready_3, tt) (done (names_all s6 none_lost_lem, ready_6, tt) (done (names_all s7 none_lost_lem, ready_7, tt)
    (done (cut_to_durable s8.lost s8.memory well_formed_8) (done (names_all s9 none_lost_lem, tt) (done (lit< tt, inl none_lost_lem, lose_1 after_cut) (done (names_without_1 s11 refl, tt, tt)
    (done (names_without_1 s12 refl, ready_12, tt) (done (names_without_1 s13 refl, ready_13) (done (names_without_1 s14 refl, ready_13) tt))))))))))))))

-- ---- and what the claim says of it
pub history_keeps_the_promise : Throughout geo vol s0 history
history_keeps_the_promise = device_keeps_the_promise geo lengths every 7 formatted_state no_stop blank (lit< tt) format_finishes history duties_done
