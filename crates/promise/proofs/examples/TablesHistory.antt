-- The promise on the tables is not empty: a history on small tables (three drives, one zone of 18 sectors), computed on the lent bytes, with its duties
-- done, and what the promise says of it. A sector is written and flushed; a write at the wrong address is refused; a look; a peek; the zone is
-- reset, and three sectors written and flushed; its reset is stopped; a cut leaves just what is durable; a look shows the zone empty; drive 2 is lost, its
-- memory overwritten; a mount by the others finishes; a write, a read and a peek. (For every valid geometry: TablesExample.)
use Rattle.promise.specs.meaning.Claim.{Volume, pointer_held, all_but, mounts, flushes, resets, formats, ready, stopped, down, System, Event, calls, looks, reads, peeks, cuts, loses, next, NamesAll, Dutiful, Throughout, start}
use Rattle.promise.specs.meaning.OnTables.{on_tables}
use Rattle.tables.specs.declared.Geometry.{Geometry}
use Rattle.tables.specs.meaning.Lists.{overlay}
use Rattle.tables.specs.meaning.Drives.{no_drive}
use Rattle.tables.specs.meaning.Tables.{Tables, cell, sector_no, TablesCut, TablesLoss, pointers_bad}
use Rattle.tables.specs.laws.ZonePlaces.{place_in}
use Rattle.tables.specs.meaning.Geometry.{geometry_of}
use Rattle.volume.specs.declared.State.{State}
use Rattle.volume.specs.declared.Answer.TheVariants.{Finished}
use Rattle.volume.specs.meaning.Answers.{left_out}
use Rattle.volume.specs.meaning.CallContracts.{is_set, state_held}
use Rattle.volume.specs.meaning.Calls.{format_state}
use Rattle.tables.specs.laws.Lists.{length_overlay, overlay_below}
use Rattle.tables.specs.laws.Basics.{not_true}
use Rattle.tables.specs.laws.Made.{WellSized}
use Rattle.tables.specs.laws.PointerOrder.{order_passed, cut_to_durable}
use Rattle.promise.proofs.tables.CachedTablesClaim.{tables_keep_the_promise}
use Rattle.promise.proofs.examples.Example.{no_stop, writing}
use Rattle.promise.proofs.examples.ClaimExample.{is_mode, all, all_at, ready_is, may_mount, done}
use Rattle.std.specs.Prelude.{Bool, true, false, not, ◌≡◌, refl, ℕ, zero, suc, ◌+◌, ◌*◌, ◌≤◌, ◌<◌, List, [], ◌∷◌, ◌++◌, length, take, drop, replicate, eqb, T}
use Rattle.std.proofs.Common.{sym, ap, ◌∙◌, inl, arith, ne_eqb, eqb-true, append_assoc, length-drop, take-append-drop, length-take-le, lit<}
use Rattle.std.proofs.lemmas.List.{take-append-le, drop-append-le}
use Rattle.promise.proofs.examples.Opened.{tables_open}

abbrev pub small : Geometry
small = geometry_of 3 64 1 1 9

abbrev vol : Volume
vol = on_tables small

-- 3 x 4 zones of 9 sectors
abbrev pub zeros : Tables
zeros = record { sectors = replicate 6912 0; written = replicate 12 0; durable = replicate 12 0 }

abbrev pub every : List Bool
every = true ∷ true ∷ true ∷ []

abbrev without2 : List Bool
without2 = true ∷ true ∷ []

-- n sectors of bytes b
abbrev pub bytes : ℕ → ℕ → List ℕ
bytes n b = replicate (n * 64) b

abbrev pub old_state : State
old_state = state_held small.zones (format_state no_drive)

-- ---- the history, point by point
abbrev s0 : System vol
s0 = start small vol every (vol.call (formats 7) every old_state no_stop zeros)

abbrev e1 : Event vol
e1 = calls (writing 0 1 9) every no_stop

abbrev s1 : System vol
s1 = next small vol s0 e1

abbrev e2 : Event vol
e2 = calls flushes every no_stop

abbrev s2 : System vol
s2 = next small vol s1 e2

-- refused: not at the pointer
abbrev e3 : Event vol
e3 = calls (writing 3 1 8) every no_stop

abbrev s3 : System vol
s3 = next small vol s2 e3

abbrev e4 : Event vol
e4 = looks every

abbrev s4 : System vol
s4 = next small vol s3 e4

abbrev e5 : Event vol
e5 = peeks every 0

abbrev s5 : System vol
s5 = next small vol s4 e5

abbrev e6 : Event vol
e6 = calls (resets 0) every no_stop

abbrev s6 : System vol
s6 = next small vol s5 e6

abbrev e7 : Event vol
e7 = calls (writing 0 3 7) every no_stop

abbrev s7 : System vol
s7 = next small vol s6 e7

abbrev e8 : Event vol
e8 = calls flushes every no_stop

abbrev s8 : System vol
s8 = next small vol s7 e8

-- stopped once its entries are flushed
abbrev e9 : Event vol
e9 = calls (resets 0) every 5

abbrev s9 : System vol
s9 = next small vol s8 e9

abbrev after_cut : Tables
after_cut = record { sectors = s9.memory.sectors; written = s9.memory.durable; durable = s9.memory.durable }

abbrev e10 : Event vol
e10 = cuts after_cut

abbrev s10 : System vol
s10 = next small vol s9 e10

abbrev e11 : Event vol
e11 = looks every

abbrev s11 : System vol
s11 = next small vol s10 e11

-- drive 2's bytes and pointers are anything
abbrev after_loss : Tables
after_loss = record { sectors = overlay after_cut.sectors 4608 (replicate 2304 255); written = overlay after_cut.written 8 (replicate 4 99); durable = overlay after_cut.durable 8 (replicate 4 999) }

abbrev e12 : Event vol
e12 = loses 2 after_loss

abbrev s12 : System vol
s12 = next small vol s11 e12

abbrev e13 : Event vol
e13 = calls mounts without2 no_stop

abbrev s13 : System vol
s13 = next small vol s12 e13

abbrev e14 : Event vol
e14 = calls (writing 0 2 6) without2 no_stop

abbrev s14 : System vol
s14 = next small vol s13 e14

abbrev e15 : Event vol
e15 = reads without2 0 2 (bytes 2 0)

abbrev s15 : System vol
s15 = next small vol s14 e15

abbrev e16 : Event vol
e16 = peeks without2 0

abbrev s16 : System vol
s16 = next small vol s15 e16

abbrev history : List (Event vol)
history = e1 ∷ e2 ∷ e3 ∷ e4 ∷ e5 ∷ e6 ∷ e7 ∷ e8 ∷ e9 ∷ e10 ∷ e11 ∷ e12 ∷ e13 ∷ e14 ∷ e15 ∷ e16 ∷ []

-- ---- what became of it
-- (each point is computed from the one before)
pub went_so : List Bool
went_so =
    let a1 = next small vol s0 e1 in
    let a2 = next small vol a1 e2 in
    let a3 = next small vol a2 e3 in
    let a4 = next small vol a3 e4 in
    let a5 = next small vol a4 e5 in
    let a6 = next small vol a5 e6 in
    let a7 = next small vol a6 e7 in
    let a8 = next small vol a7 e8 in
    let a9 = next small vol a8 e9 in
    let cut : Tables = record { sectors = a9.memory.sectors; written = a9.memory.durable; durable = a9.memory.durable } in
    let a10 = next small vol a9 (cuts cut) in
    let a11 = next small vol a10 e11 in
    let lost : Tables = record { sectors = overlay cut.sectors 4608 (replicate 2304 255); written = overlay cut.written 8 (replicate 4 99); durable = overlay cut.durable 8 (replicate 4 999) } in
    let a12 = next small vol a11 (loses 2 lost) in
    let a13 = next small vol a12 e13 in
    let a14 = next small vol a13 e14 in
    -- written and flushed; refused
    is_mode ready a1.mode ∷ is_mode ready a2.mode ∷ is_mode ready a3.mode ∷ eqb (a2.ledger.committed 0) 1 ∷ eqb (length (a3.ledger.content 0)) 1
    -- the look's state is what the host held
    ∷ eqb (pointer_held vol a4.state 0) 1 ∷ eqb ((vol.view a4.state).generation 0) 1 ∷ eqb (vol.peek every a4.state 0 a4.memory).number 0
    -- a reset that finishes
    ∷ is_mode ready a6.mode ∷ is_mode ready a7.mode ∷ is_mode ready a8.mode ∷ eqb (length (a6.ledger.content 0)) 0 ∷ eqb ((vol.view a6.state).generation 0) 2 ∷ eqb (a8.ledger.committed 0) 3
    -- one that is stopped: the flag is up, and what is committed is shown no more
    ∷ not (pointers_bad small every a9.memory.written a9.memory.durable) ∷ eqb (length a9.memory.sectors) 6912 ∷ eqb (length a9.memory.written) 12 ∷ eqb (length a9.memory.durable) 12
    ∷ is_mode stopped a9.mode ∷ a9.ledger.resetting 0 ∷ eqb (a10.ledger.committed 0) 3 ∷ is_mode down a10.mode ∷ eqb ((vol.shows every a10.memory a10.memory).zone 0).pointer 0
    -- the mount finishes without drive 2, and the volume goes on
    ∷ is_mode ready a13.mode ∷ is_mode ready a14.mode ∷ not (a13.ledger.resetting 0) ∷ eqb a13.state.lost 2 ∷ eqb (pointer_held vol a13.state 0) 0
    ∷ eqb (length (a14.ledger.content 0)) 2 ∷ eqb (vol.peek without2 a14.state 0 a14.memory).number 0 ∷ []

pub history_goes : T (all went_so)
unfolding tables_open went_so
history_goes = tt

-- the volume is ready for a call at these points
readies : (s1.mode ≡ ready) × (s2.mode ≡ ready) × (s3.mode ≡ ready) × (s6.mode ≡ ready) × (s7.mode ≡ ready) × (s8.mode ≡ ready) × (s13.mode ≡ ready) × (s14.mode ≡ ready)
unfolding went_so
readies =
    let at = all_at went_so history_goes in
    (ready_is s1.mode (at 0), ready_is s2.mode (at 1), ready_is s3.mode (at 2), ready_is s6.mode (at 8), ready_is s7.mode (at 9), ready_is s8.mode (at 10), ready_is s13.mode (at 23), ready_is s14.mode (at 24))

-- ---- its duties are done
none_lost_lem : s0.lost ≡ no_drive
unfolding left_out
none_lost_lem = refl

format_finishes : (vol.call (formats 7) every old_state no_stop zeros).answer ≡ Finished
unfolding tables_open
format_finishes = refl

pub every_set : (d : ℕ) → d < 3 → is_set every d ≡ true
every_set zero h = refl
every_set (suc zero) h = refl
every_set (suc (suc zero)) h = refl
every_set (suc (suc (suc d))) h = absurd (omega arith)

names_all : (s : System vol) → s.lost ≡ no_drive → NamesAll small vol s every
names_all s e = record { drives = λ d h. rw e (every_set d h ∙ sym (ap not (ne_eqb d 255 (λ q. omega arith)))) }

without_2_set : (d : ℕ) → d < 3 → is_set without2 d ≡ all_but 2 d
without_2_set zero h = refl
without_2_set (suc zero) h = refl
without_2_set (suc (suc zero)) h = refl
without_2_set (suc (suc (suc d))) h = absurd (omega arith)

names_without_2 : (s : System vol) → s.lost ≡ 2 → NamesAll small vol s without2
names_without_2 s e = record { drives = λ d h. rw e (without_2_set d h) }

-- the cut: pointers in order, found so by refusal 3's own test
cut_done : (t : Tables) → WellSized small t → pointers_bad small every t.written t.durable ≡ false → (x : ℕ) → TablesCut small x t (record { sectors = t.sectors; written = t.durable; durable = t.durable })
cut_done t w e x = cut_to_durable small x t w (λ d h n. order_passed small every t.written t.durable d e h (every_set d h))

-- sector j of a list of bytes, where what follows it may be anything
sector_front : (B : ℕ) (xs ys : List ℕ) (j : ℕ) → suc j * B ≤ length xs → sector_no B (xs ++ ys) j ≡ sector_no B xs j
sector_front B xs ys j h = rw (drop-append-le (j * B) xs ys (omega arith)) (take-append-le B (drop (j * B) xs) ys (rw (length-drop (j * B) xs) (omega arith)))

sector_kept : (B n : ℕ) (xs ys : List ℕ) (j : ℕ) → suc j * B ≤ n → n ≤ length xs → sector_no B (overlay xs n ys) j ≡ sector_no B xs j
sector_kept B n xs ys j h k =
    let l : suc j * B ≤ length (take n xs) = rw (length-take-le n xs k) h in
    rw append_assoc (sector_front B (take n xs) (ys ++ drop (n + length ys) xs) j l)
    ∙ sym (sector_front B (take n xs) (drop n xs) j l) ∙ ap (λ (zs : List ℕ). sector_no B zs j) (take-append-drop n xs)

-- the loss of drive 2, the last: whatever its bytes and pointers become
loss_done : (t : Tables) → WellSized small t → (bs ws ds : List ℕ) → length bs ≡ 2304 → length ws ≡ 4 → length ds ≡ 4
    → TablesLoss small 2 t (record { sectors = overlay t.sectors 4608 bs; written = overlay t.written 8 ws; durable = overlay t.durable 8 ds })
loss_done t w bs ws ds hb hw hd = record {
  kept = record {
    sectors_long = length_overlay t.sectors 4608 bs (omega (arith, w.sectors_long));
    written_long = length_overlay t.written 8 ws (omega (arith, w.written_long));
    durable_long = length_overlay t.durable 8 ds (omega (arith, w.durable_long));
    sectors_same = λ d z n h hz hn ne. sector_kept 64 4608 t.sectors bs (cell small d z * 9 + n) (omega (arith, place_in small d z hz)) (omega (arith, w.sectors_long));
  };
  written_same = λ d z h hz ne. overlay_below t.written 8 ws (cell small d z) (omega (arith, w.written_long)) (omega (arith, place_in small d z hz));
  durable_same = λ d z h hz ne. overlay_below t.durable 8 ds (cell small d z) (omega (arith, w.durable_long)) (omega (arith, place_in small d z hz));
}

stopped_sized : WellSized small s9.memory
unfolding went_so
stopped_sized = record {
  sectors_long = eqb-true (length s9.memory.sectors) 6912 (all_at went_so history_goes 15);
  written_long = eqb-true (length s9.memory.written) 12 (all_at went_so history_goes 16);
  durable_long = eqb-true (length s9.memory.durable) 12 (all_at went_so history_goes 17);
}

stopped_in_order : pointers_bad small every s9.memory.written s9.memory.durable ≡ false
unfolding went_so
stopped_in_order = not_true (pointers_bad small every s9.memory.written s9.memory.durable) (all_at went_so history_goes 14)

cut_sized : WellSized small s11.memory
cut_sized = record { sectors_long = stopped_sized.sectors_long; written_long = stopped_sized.durable_long; durable_long = stopped_sized.durable_long }

pub duties_done : Dutiful small vol s0 history
duties_done =
    let (r1, r2, r3, r6, r7, r8, r13, r14) = readies in
    done (names_all s0 none_lost_lem, refl, tt) (done (names_all s1 none_lost_lem, r1, tt) (done (names_all s2 none_lost_lem, r2, tt) (done (names_all s3 none_lost_lem, may_mount s3.mode r3)
    (done (names_all s4 none_lost_lem, r3) (done (names_all s5 none_lost_lem, r3, tt) (done (names_all s6 none_lost_lem, r6, tt) (done (names_all s7 none_lost_lem, r7, tt)
    (done (names_all s8 none_lost_lem, r8, tt) (done (cut_done s9.memory stopped_sized stopped_in_order s9.lost) (done (names_all s10 none_lost_lem, tt) (done (lit< tt, inl none_lost_lem, loss_done s11.memory cut_sized (replicate 2304 255) (replicate 4 99) (replicate 4 999) refl refl refl)
    (done (names_without_2 s12 refl, tt, tt) (done (names_without_2 s13 refl, r13, tt) (done (names_without_2 s14 refl, r14) (done (names_without_2 s15 refl, r14) tt)))))))))))))))

-- ---- and what the promise says of it
pub history_keeps_the_promise : Throughout small vol s0 history
history_keeps_the_promise = tables_keep_the_promise small every 7 old_state no_stop zeros (lit< tt) format_finishes history duties_done
